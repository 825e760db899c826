-- Truth and falsity at the atoms.
use Rattle.std.proofs.Common.{◌≡◌, ◌≢◌, inl, inr, ℕ, List, [], ◌∷◌, map, Bool, true, false, cond, is_some, nat_eq, ◌||◌, Option, Some, None, refl, sym, ap, ap₂, ◌∙◌, ⊎_elim}
use Rattle.std.specs.Prelude.{ℤ}
use Rattle.std.proofs.lemmas.Bool.{eqb-true, eq-eqb}
use Rattle.mc_program.specs.Values.{Val, int, char, str, con, state, Vals, no_vals, val_then, vals, listed, same_value}
use Rattle.mc_model.specs.Truth.{Assignment}
use Rattle.mc_model.specs.Lists.{In}
use Rattle.mc_model.specs.EventList.{Items, Each, Covers, of_option}
use Rattle.mc_model.specs.Stream.{Bindings, meet, unify, gather, both, same_items, build_items, made_items}
use Rattle.mc_model.specs.Good.{Extends}
use Rattle.laws_sound.specs.code.Passes.{Grows, Agrees, AgreesFor, Hit, Tells}
use Rattle.laws_sound.proofs.Binds
use Rattle.laws_sound.proofs.Lists
use Rattle.laws_language.proofs.Equality.{value_same, same_of}
use Rattle.laws_sound.proofs.TellLists.{value_cases, hit_covers}
use Rattle.laws_sound.proofs.Binds.{true_not_false}
use Rattle.laws_sound.proofs.Takes.{con_symbol}

int_con : (n : ℤ) (f : ℕ) (vs : Vals) → int n ≡ con f vs → ⊥
int_con n f vs e = cc

char_con : (n f : ℕ) (vs : Vals) → char n ≡ con f vs → ⊥
char_con n f vs e = cc

str_con : (n : List ℕ) (f : ℕ) (vs : Vals) → str n ≡ con f vs → ⊥
str_con n f vs e = cc

state_con : (n : List ℕ) (k f : ℕ) (vs : Vals) → state n k ≡ con f vs → ⊥
state_con n k f vs e = cc

con_parts : (f g : ℕ) (vs ws : Vals) → con f vs ≡ con g ws → vs ≡ ws
con_parts f g vs ws e = cc

-- gathered values
both_value : (o : Option Val) (r : Option (List Val)) (vs : List Val) (v : Val) (ws : List Val) → both o r ≡ Some vs → ((u : Val) → o ≡ Some u → v ≡ u) → ((us : List Val) → r ≡ Some us → us ≡ ws) → vs ≡ v ∷ ws
both_value None r vs v ws e f g = cc
both_value (Some u) None vs v ws e f g = cc
both_value (Some u) (Some us) vs v ws e f g = sym (some_list (u ∷ us) vs e) ∙ ap₂ (λ a b. a ∷ b) (sym (f u refl)) (g us refl)
  where
    some_list : (v w : List Val) → Some v ≡ Some w → v ≡ w
    some_list v w e = cc

some_lists : (v w : List Val) → Some v ≡ Some w → v ≡ w
some_lists v w e = cc

pub gather_value : (ys : List ℕ) (e : Bindings) (s : Assignment) (vs : List Val) → gather ys e ≡ Some vs → Agrees ys e s → vs ≡ map s ys
gather_value [] e s vs h g = sym (some_lists [] vs h)
gather_value (y ∷ ys) e s vs h g = both_value (e y) (gather ys e) vs (s y) (map s ys) h (λ u q. g y (inl refl) u q) (λ us q. gather_value ys e s us q (λ z j. g z (inr j)))

fills_pack : (vs : Vals) (ws : List Val) → Extends (map Some (listed vs)) ws → vs ≡ vals ws
fills_pack no_vals [] h = refl
fills_pack no_vals (w ∷ ws) h = absurd h
fills_pack (val_then v vs) [] h = absurd h
fills_pack (val_then v vs) (w ∷ ws) h = ap₂ val_then (sym h.0) (fills_pack vs ws h.1)

pack_fills : (vs : Vals) (ws : List Val) → vs ≡ vals ws → Extends (map Some (listed vs)) ws
pack_fills no_vals [] e = tt
pack_fills no_vals (w ∷ ws) e = absurd (no w (vals ws) e)
  where
    no : (w : Val) (ws : Vals) → no_vals ≡ val_then w ws → ⊥
    no w ws e = cc
pack_fills (val_then v vs) [] e = absurd (no v vs e)
  where
    no : (w : Val) (ws : Vals) → val_then w ws ≡ no_vals → ⊥
    no w ws e = cc
pack_fills (val_then v vs) (w ∷ ws) e = (front v w vs (vals ws) e, pack_fills vs ws (rest v w vs (vals ws) e))
  where
    front : (v w : Val) (vs ws : Vals) → val_then v vs ≡ val_then w ws → w ≡ v
    front v w vs ws e = cc

    rest : (v w : Val) (vs ws : Vals) → val_then v vs ≡ val_then w ws → vs ≡ ws
    rest v w vs ws e = cc

-- what is told of the variables of a list is told of those among others
pub atom_tells : (xs : List ℕ) (P : ℕ → Type 0) (Y N : Assignment → Type 0) (one : Bool) (L : List ℕ) (e : Bindings) (ys : Items Bindings) → ((x : ℕ) → In x xs → P x) → Each (λ a. (s : Assignment) → Agrees xs a s → Y s) ys → ((s : Assignment) → Agrees xs e s → Agrees L e s → Covers (Hit one L s) (N s) ys) → Tells P Y N one L e ys
atom_tells xs P Y N one L e ys f y n =
    record { yes = Lists.each_map (λ a. (s : Assignment) → Agrees xs a s → Y s) (λ a. (s : Assignment) → AgreesFor P a s → Y s) (λ a g s h. g s (λ x i. h x (f x i))) ys y; no = λ s g l. n s (λ x i. g x (f x i)) l }

-- an equation of two variables, one of which is bound at least
module _ (x y : ℕ) (e : Bindings) where
  pub same_yes : (o p : Option Val) → e x ≡ o → e y ≡ p → (is_some o || is_some p) ≡ true → Each (λ a. (s : Assignment) → Agrees (x ∷ y ∷ []) a s → s x ≡ s y) (same_items x y e o p)
  same_yes None None h k r = absurd (true_not_false (sym r))
  same_yes None (Some w) h k r = (λ s g. g x (inl refl) w (Binds.put_self x w e) ∙ sym (g y (inr (inl refl)) w (Binds.put_extends x w e h y w k)), tt)
  same_yes (Some v) None h k r = (λ s g. g x (inl refl) v (Binds.put_extends y v e k x v h) ∙ sym (g y (inr (inl refl)) v (Binds.put_self y v e)), tt)
  same_yes (Some v) (Some w) h k r = Binds.each_cond (λ a. (s : Assignment) → Agrees (x ∷ y ∷ []) a s → s x ≡ s y) (same_value v w) e (λ t s g. g x (inl refl) v h ∙ (value_same v w t ∙ sym (g y (inr (inl refl)) w k)))

  same_hits : (L : List ℕ) (s : Assignment) (F : Type 0) (o p : Option Val) → e x ≡ o → e y ≡ p → Agrees (x ∷ y ∷ []) e s → Agrees L e s → s x ≡ s y → Covers (λ a. Agrees L a s) F (same_items x y e o p)
  same_hits L s F None None h k g l q = tt
  same_hits L s F None (Some w) h k g l q = inl (Binds.put_agrees L e s x w (q ∙ g y (inr (inl refl)) w k) l)
  same_hits L s F (Some v) None h k g l q = inl (Binds.put_agrees L e s y v (sym q ∙ g x (inl refl) v h) l)
  same_hits L s F (Some v) (Some w) h k g l q = Binds.covers_cond (λ a. Agrees L a s) F (same_value v w) e (same_of v w (sym (g x (inl refl) v h) ∙ (q ∙ g y (inr (inl refl)) w k))) l

  pub same_no : (one : Bool) (L : List ℕ) (s : Assignment) → Agrees (x ∷ y ∷ []) e s → Agrees L e s → Covers (Hit one L s) (s x ≢ s y) (same_items x y e (e x) (e y))
  same_no one L s g l =
      ⊎_elim
      (λ q. hit_covers one L s (s x ≢ s y) (same_items x y e (e x) (e y)) (same_hits L s (s x ≢ s y) (e x) (e y) refl refl g l q))
      (λ n. Lists.covers_sure (Hit one L s) (s x ≢ s y) n (same_items x y e (e x) (e y)))
      (value_cases (s x) (s y))

-- an equation of a variable and a constructor
module _ (x f : ℕ) (ys : List ℕ) (e : Bindings) where
  pub build_yes : (r : Option (List Val)) → gather ys e ≡ r → is_some r ≡ true → e x ≡ None → Each (λ a. (s : Assignment) → Agrees (x ∷ ys) a s → s x ≡ con f (vals (map s ys))) (build_items x f e r)
  build_yes None h b n = absurd (true_not_false (sym b))
  build_yes (Some vs) h b n = (
    λ s g. g x (inl refl) (con f (vals vs)) (Binds.put_self x (con f (vals vs)) e)
        ∙ ap (λ k. con f (vals k)) (gather_value ys e s vs h (λ z i v q. g z (inr i) v (Binds.put_extends x (con f (vals vs)) e n z v q))),
    tt,
  )

  take_on : (t : Bool) (g : ℕ) (vs : Vals) → e x ≡ Some (con g vs) → nat_eq f g ≡ t → Each (λ a. (s : Assignment) → Agrees (x ∷ ys) a s → s x ≡ con f (vals (map s ys))) (of_option (cond t (unify ys (map Some (listed vs)) e) None))
  take_on false g vs h t = tt
  take_on true g vs h t =
      Binds.each_weaker (λ a. Grows e a × ((s : Assignment) → Agrees ys a s → Extends (map Some (listed vs)) (map s ys))) (λ a. (s : Assignment) → Agrees (x ∷ ys) a s → s x ≡ con f (vals (map s ys))) (unify ys (map Some (listed vs)) e)
      (λ a k s r. r x (inl refl) (con g vs) (k.0 x (con g vs) h) ∙ ap₂ con (sym (eqb-true f g t)) (fills_pack vs (map s ys) (k.1 s (λ z i. r z (inr i)))))
      (Lists.each_both (λ a. Grows e a) (λ a. (s : Assignment) → Agrees ys a s → Extends (map Some (listed vs)) (map s ys)) (of_option (unify ys (map Some (listed vs)) e)) (Binds.unify_extends ys (map Some (listed vs)) e) (Binds.unify_fills ys (map Some (listed vs)) e))

  pub take_yes : (o : Option Val) → e x ≡ o → is_some o ≡ true → Each (λ a. (s : Assignment) → Agrees (x ∷ ys) a s → s x ≡ con f (vals (map s ys))) (made_items x f ys e o)
  take_yes None h b = absurd (true_not_false (sym b))
  take_yes (Some (int n)) h b = tt
  take_yes (Some (char n)) h b = tt
  take_yes (Some (str n)) h b = tt
  take_yes (Some (state n k)) h b = tt
  take_yes (Some (con g vs)) h b = take_on (nat_eq f g) g vs h refl

  build_hits : (L : List ℕ) (s : Assignment) (F : Type 0) (r : Option (List Val)) → gather ys e ≡ r → Agrees ys e s → Agrees L e s → s x ≡ con f (vals (map s ys)) → Covers (λ a. Agrees L a s) F (build_items x f e r)
  build_hits L s F None h g l q = tt
  build_hits L s F (Some vs) h g l q = inl (Binds.put_agrees L e s x (con f (vals vs)) (q ∙ ap (λ k. con f (vals k)) (sym (gather_value ys e s vs h g))) l)

  take_hits : (L : List ℕ) (s : Assignment) (F : Type 0) (g : ℕ) (vs : Vals) (t : Bool) → t ≡ true → Agrees ys e s → Agrees L e s → vs ≡ vals (map s ys) → Covers (λ a. Agrees L a s) F (of_option (cond t (unify ys (map Some (listed vs)) e) None))
  take_hits L s F g vs false t h l q = absurd (true_not_false (sym t))
  take_hits L s F g vs true t h l q = Binds.unify_covers L s F ys (map Some (listed vs)) e h l (pack_fills vs (map s ys) q)

  made_hits : (L : List ℕ) (s : Assignment) (F : Type 0) (o : Option Val) → e x ≡ o → Agrees (x ∷ ys) e s → Agrees L e s → s x ≡ con f (vals (map s ys)) → Covers (λ a. Agrees L a s) F (made_items x f ys e o)
  made_hits L s F None h g l q = build_hits L s F (gather ys e) refl (λ z i. g z (inr i)) l q
  made_hits L s F (Some (int n)) h g l q = absurd (int_con n f (vals (map s ys)) (sym (g x (inl refl) (int n) h) ∙ q))
  made_hits L s F (Some (char n)) h g l q = absurd (char_con n f (vals (map s ys)) (sym (g x (inl refl) (char n) h) ∙ q))
  made_hits L s F (Some (str n)) h g l q = absurd (str_con n f (vals (map s ys)) (sym (g x (inl refl) (str n) h) ∙ q))
  made_hits L s F (Some (state n j)) h g l q = absurd (state_con n j f (vals (map s ys)) (sym (g x (inl refl) (state n j) h) ∙ q))
  made_hits L s F (Some (con k vs)) h g l q =
      let r = sym (g x (inl refl) (con k vs) h) ∙ q in
      take_hits L s F k vs (nat_eq f k) (eq-eqb f k (sym (con_symbol k f vs (vals (map s ys)) r))) (λ z i. g z (inr i)) l (con_parts k f vs (vals (map s ys)) r)

  pub made_no : (one : Bool) (L : List ℕ) (s : Assignment) → Agrees (x ∷ ys) e s → Agrees L e s → Covers (Hit one L s) (s x ≢ con f (vals (map s ys))) (made_items x f ys e (e x))
  made_no one L s g l =
      ⊎_elim
      (λ q. hit_covers one L s (s x ≢ con f (vals (map s ys))) (made_items x f ys e (e x)) (made_hits L s (s x ≢ con f (vals (map s ys))) (e x) refl g l q))
      (λ n. Lists.covers_sure (Hit one L s) (s x ≢ con f (vals (map s ys))) n (made_items x f ys e (e x)))
      (value_cases (s x) (con f (vals (map s ys))))

-- a variable and a constant
module _ (x : ℕ) (v : Val) (e : Bindings) where
  pub const_yes : Each (λ a. (s : Assignment) → Agrees (x ∷ []) a s → s x ≡ v) (of_option (meet x v e (e x)))
  const_yes = Binds.each_weaker (λ a. Grows e a × (a x ≡ Some v)) (λ a. (s : Assignment) → Agrees (x ∷ []) a s → s x ≡ v) (meet x v e (e x)) (λ a h s g. g x (inl refl) v h.1) (Binds.meet_each x v e (e x) refl)

  pub meet_hits : (L : List ℕ) (s : Assignment) (F : Type 0) (o : Option Val) → ((w : Val) → o ≡ Some w → s x ≡ w) → Agrees L e s → s x ≡ v → Covers (λ a. Agrees L a s) F (of_option (meet x v e o))
  meet_hits L s F None g l q = inl (Binds.put_agrees L e s x v q l)
  meet_hits L s F (Some w) g l q = Binds.covers_cond (λ a. Agrees L a s) F (same_value w v) e (same_of w v (sym (g w refl) ∙ q)) l

  pub meet_no : (one : Bool) (L : List ℕ) (s : Assignment) (F : Type 0) → ((s x ≡ v → ⊥) → F) → ((w : Val) → e x ≡ Some w → s x ≡ w) → Agrees L e s → Covers (Hit one L s) F (of_option (meet x v e (e x)))
  meet_no one L s F f g l =
      ⊎_elim
      (λ q. hit_covers one L s F (of_option (meet x v e (e x))) (meet_hits L s F (e x) g l q))
      (λ n. Lists.covers_sure (Hit one L s) F (f n) (of_option (meet x v e (e x))))
      (value_cases (s x) v)

-- the arguments of a call
pub fills_map : (xs : List ℕ) (e : Bindings) (s : Assignment) → Agrees xs e s → Extends (map e xs) (map s xs)
fills_map [] e s g = tt
fills_map (x ∷ xs) e s g = fill (e x) (map e xs) (s x) (map s xs) (g x (inl refl)) (fills_map xs e s (λ y i. g y (inr i)))
  where
    fill : (o : Option Val) (os : List (Option Val)) (w : Val) (ws : List Val) → ((v : Val) → o ≡ Some v → w ≡ v) → Extends os ws → Extends (o ∷ os) (w ∷ ws)
    fill None os w ws f h = h
    fill (Some v) os w ws f h = (f v refl, h)
