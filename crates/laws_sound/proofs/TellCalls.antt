-- Truth and falsity at calls and builtins.
use Rattle.std.proofs.Common.{◌≡◌, ◌≢◌, ◌⊎◌, inl, inr, ℕ, List, [], ◌∷◌, map, Bool, true, false, Option, Some, refl, sym, ap, ap₂, ◌∙◌, subst, ⊎_elim}
use Rattle.mc_program.specs.Values.{Val}
use Rattle.mc_model.specs.Truth.{Assignment, Facts}
use Rattle.mc_model.specs.EventList.{Items, bind, Each, Succeeds, Covers, of_option}
use Rattle.mc_model.specs.Stream.{Bindings, unify, gather, outcome_items, apply_items}
use Rattle.mc_model.specs.Outcomes.{Outcome, fails, gives, throws, writes, reads, reads_and_throws, inputs_of, marked, GivesThese, DeniesThese}
use Rattle.mc_model.specs.Scheduled.{Procedure}
use Rattle.mc_accepted.specs.Ordered.{at_inputs, at_outputs}
use Rattle.mc_model.specs.Good.{System, Extends}
use Rattle.laws_sound.specs.code.Passes.{Grows, Agrees, Hit, HitArguments, SaysBuiltins}
use Rattle.mc_program.specs.declared.builtin.Builtin.{Builtin}
use Rattle.laws_sound.proofs.Binds
use Rattle.laws_sound.proofs.Lists
use Rattle.laws_sound.proofs.Sound.{in_inputs, in_outputs}
use Rattle.laws_sound.proofs.TellAtoms.{gather_value}
use Rattle.laws_sound.proofs.TellLists.{value_cases, hit_covers, covers_succeeds}

-- a call
pub call_yes : (C : Facts) (e : Bindings) (p : Procedure) (xs : List ℕ) (ys : Items (List (Option Val))) → Each (λ os. (ws : List Val) → Extends os ws → C.yes p.pred ws) ys → Each (λ a. (s : Assignment) → Agrees xs a s → C.yes p.pred (map s xs)) (bind ys (λ os. of_option (unify xs os e)))
call_yes C e p xs ys h =
    Lists.each_bind (λ os. (ws : List Val) → Extends os ws → C.yes p.pred ws) (λ a. (s : Assignment) → Agrees xs a s → C.yes p.pred (map s xs)) (λ os. of_option (unify xs os e)) ys h
    (λ os f. Binds.each_weaker (λ a. (s : Assignment) → Agrees xs a s → Extends os (map s xs)) (λ a. (s : Assignment) → Agrees xs a s → C.yes p.pred (map s xs)) (unify xs os e) (λ a g s k. f (map s xs) (g s k)) (Binds.unify_fills xs os e))

-- R holds of each answer, and an answer without implied arguments is taken
pub call_no : (one : Bool) (L : List ℕ) (F : Type 0) (s : Assignment) (e : Bindings) (xs : List ℕ) (ys : Items (List (Option Val))) (R : List (Option Val) → Type 0) (t : Bool) → (t ≡ true → (one ≡ true) × ((os : List (Option Val)) → R os → Succeeds (of_option (unify xs os e)))) →
    Each R ys → Agrees xs e s → Agrees L e s → Covers (HitArguments t (map s xs)) F ys → Covers (Hit one L s) F (bind ys (λ os. of_option (unify xs os e)))
call_no one L F s e xs ys R false q h g l c =
    Lists.covers_bind (λ os. Extends os (map s xs)) (Hit one L s) F (λ os. of_option (unify xs os e)) R ys h c
    (λ os r f. hit_covers one L s F (of_option (unify xs os e)) (Binds.unify_covers L s F xs os e g l f))
call_no one L F s e xs ys R true q h g l c =
    let r = q refl in
    Lists.covers_bind (λ os. Unit {0}) (Hit one L s) F (λ os. of_option (unify xs os e)) R ys h c
    (λ os k f. covers_succeeds (Hit one L s) F (of_option (unify xs os e)) (λ a. subst (λ b. Hit b L s a) (sym r.0) tt) (r.1 os k))

-- a builtin
marked_inputs : (bs : List Bool) (xs : List ℕ) (s : Assignment) → marked true bs (map s xs) ≡ map s (at_inputs bs xs)
marked_inputs [] xs s = refl
marked_inputs (b ∷ bs) [] s = refl
marked_inputs (true ∷ bs) (x ∷ xs) s = ap (λ vs. s x ∷ vs) (marked_inputs bs xs s)
marked_inputs (false ∷ bs) (x ∷ xs) s = marked_inputs bs xs s

marked_outputs : (bs : List Bool) (xs : List ℕ) (s : Assignment) → marked false bs (map s xs) ≡ map s (at_outputs bs xs)
marked_outputs [] xs s = refl
marked_outputs (b ∷ bs) [] s = refl
marked_outputs (true ∷ bs) (x ∷ xs) s = marked_outputs bs xs s
marked_outputs (false ∷ bs) (x ∷ xs) s = ap (λ vs. s x ∷ vs) (marked_outputs bs xs s)

extends_list : (vs ws : List Val) → Extends (map Some vs) ws → vs ≡ ws
extends_list [] [] h = refl
extends_list [] (w ∷ ws) h = absurd h
extends_list (v ∷ vs) [] h = absurd h
extends_list (v ∷ vs) (w ∷ ws) h = ap₂ (λ a b. a ∷ b) (sym h.0) (extends_list vs ws h.1)

list_extends : (vs ws : List Val) → vs ≡ ws → Extends (map Some vs) ws
list_extends vs ws e = subst (λ k. Extends (map Some vs) k) e (self vs)
  where
    self : (vs : List Val) → Extends (map Some vs) vs
    self [] = tt
    self (v ∷ vs) = (refl, self vs)

list_cases : (vs ws : List Val) → (vs ≡ ws) ⊎ (vs ≡ ws → ⊥)
list_cases [] [] = inl refl
list_cases [] (w ∷ ws) = inr (λ e. no w ws e)
  where
    no : (w : Val) (ws : List Val) → [] ≡ w ∷ ws → ⊥
    no w ws e = cc
list_cases (v ∷ vs) [] = inr (λ e. no v vs e)
  where
    no : (w : Val) (ws : List Val) → w ∷ ws ≡ [] → ⊥
    no w ws e = cc
list_cases (v ∷ vs) (w ∷ ws) = ⊎_elim (λ e. ⊎_elim (λ f. inl (ap₂ (λ a b. a ∷ b) e f)) (λ n. inr (λ f. n (rest v w vs ws f))) (list_cases vs ws)) (λ n. inr (λ f. n (front v w vs ws f))) (value_cases v w)
  where
    front : (v w : Val) (vs ws : List Val) → v ∷ vs ≡ w ∷ ws → v ≡ w
    front v w vs ws e = cc

    rest : (v w : Val) (vs ws : List Val) → v ∷ vs ≡ w ∷ ws → vs ≡ ws
    rest v w vs ws e = cc

module _ (S : System) (C : Facts) (says : SaysBuiltins S C) (p : ℕ) (op : Builtin) (xs : List ℕ) (e : Bindings) (is : (S.world.source.preds p).builtin ≡ Some op) (vs : List Val) (inputs : gather (at_inputs (inputs_of op) xs) e ≡ Some vs) where
  abbrev outs : List ℕ
  outs = at_outputs (inputs_of op) xs

  given : (a : Bindings) (s : Assignment) → Grows e a → Agrees xs a s → vs ≡ map s (at_inputs (inputs_of op) xs)
  given a s g h = gather_value (at_inputs (inputs_of op) xs) e s vs inputs (λ x i v q. h x (in_inputs (inputs_of op) xs x i) v (g x v q))

  true_of : (r : Outcome) (s : Assignment) → S.world.outcome op vs ≡ r → vs ≡ map s (at_inputs (inputs_of op) xs) → GivesThese r (map s outs) → C.yes p (map s xs)
  true_of r s q i g =
      (says p op (map s xs) is).0
      (subst (λ ws. GivesThese (S.world.outcome op ws) (marked false (inputs_of op) (map s xs))) (i ∙ sym (marked_inputs (inputs_of op) xs s)) (subst (λ o. GivesThese o (marked false (inputs_of op) (map s xs))) (sym q) (subst (λ ws. GivesThese r ws) (sym (marked_outputs (inputs_of op) xs s)) g)))

  false_of : (r : Outcome) (s : Assignment) → S.world.outcome op vs ≡ r → vs ≡ map s (at_inputs (inputs_of op) xs) → DeniesThese r (map s outs) → C.no p (map s xs)
  false_of r s q i g =
      (says p op (map s xs) is).1
      (subst (λ ws. DeniesThese (S.world.outcome op ws) (marked false (inputs_of op) (map s xs))) (i ∙ sym (marked_inputs (inputs_of op) xs s)) (subst (λ o. DeniesThese o (marked false (inputs_of op) (map s xs))) (sym q) (subst (λ ws. DeniesThese r ws) (sym (marked_outputs (inputs_of op) xs s)) g)))

  gives_yes : (r : Outcome) (us : List Val) → S.world.outcome op vs ≡ r → ((ws : List Val) → us ≡ ws → GivesThese r ws) → Each (λ a. (s : Assignment) → Agrees xs a s → C.yes p (map s xs)) (of_option (unify outs (map Some us) e))
  gives_yes r us q f =
      Binds.each_weaker (λ a. Grows e a × ((s : Assignment) → Agrees outs a s → Extends (map Some us) (map s outs))) (λ a. (s : Assignment) → Agrees xs a s → C.yes p (map s xs)) (unify outs (map Some us) e)
      (λ a g s h. true_of r s q (given a s g.0 h) (f (map s outs) (extends_list us (map s outs) (g.1 s (λ x i. h x (in_outputs (inputs_of op) xs x i))))))
      (Lists.each_both (λ a. Grows e a) (λ a. (s : Assignment) → Agrees outs a s → Extends (map Some us) (map s outs)) (of_option (unify outs (map Some us) e)) (Binds.unify_extends outs (map Some us) e) (Binds.unify_fills outs (map Some us) e))

  gives_no : (r : Outcome) (us : List Val) → S.world.outcome op vs ≡ r → ((ws : List Val) → us ≢ ws → DeniesThese r ws) → (one : Bool) (L : List ℕ) (s : Assignment) → Agrees xs e s → Agrees L e s → Covers (Hit one L s) (C.no p (map s xs)) (of_option (unify outs (map Some us) e))
  gives_no r us q f one L s g l =
      ⊎_elim
      (λ z. hit_covers one L s (C.no p (map s xs)) (of_option (unify outs (map Some us) e)) (Binds.unify_covers L s (C.no p (map s xs)) outs (map Some us) e (λ x i. g x (in_outputs (inputs_of op) xs x i)) l (list_extends us (map s outs) z)))
      (λ n. Lists.covers_sure (Hit one L s) (C.no p (map s xs)) (false_of r s q (given e s (Binds.extends_refl e) g) (f (map s outs) n)) (of_option (unify outs (map Some us) e)))
      (list_cases us (map s outs))

  outcome_yes : (r : Outcome) → S.world.outcome op vs ≡ r → Each (λ a. (s : Assignment) → Agrees xs a s → C.yes p (map s xs)) (outcome_items outs e r)
  outcome_yes fails q = tt
  outcome_yes (gives us) q = gives_yes (gives us) us q (λ ws z. z)
  outcome_yes (throws x) q = tt
  outcome_yes (writes t us) q = gives_yes (writes t us) us q (λ ws z. z)
  outcome_yes (reads k us) q = gives_yes (reads k us) us q (λ ws z. z)
  outcome_yes (reads_and_throws k x) q = tt

  outcome_no : (r : Outcome) → S.world.outcome op vs ≡ r → (one : Bool) (L : List ℕ) (s : Assignment) → Agrees xs e s → Agrees L e s → Covers (Hit one L s) (C.no p (map s xs)) (outcome_items outs e r)
  outcome_no fails q one L s g l = false_of fails s q (given e s (Binds.extends_refl e) g) tt
  outcome_no (gives us) q one L s g l = gives_no (gives us) us q (λ ws z. z) one L s g l
  outcome_no (throws x) q one L s g l = tt
  outcome_no (writes t us) q one L s g l = gives_no (writes t us) us q (λ ws z. z) one L s g l
  outcome_no (reads k us) q one L s g l = gives_no (reads k us) us q (λ ws z. z) one L s g l
  outcome_no (reads_and_throws k x) q one L s g l = tt

  pub apply_yes : Each (λ a. (s : Assignment) → Agrees xs a s → C.yes p (map s xs)) (apply_items (S.world.outcome op) outs e (gather (at_inputs (inputs_of op) xs) e))
  apply_yes = subst (λ o. Each (λ a. (s : Assignment) → Agrees xs a s → C.yes p (map s xs)) (apply_items (S.world.outcome op) outs e o)) (sym inputs) (outcome_yes (S.world.outcome op vs) refl)

  pub apply_no : (one : Bool) (L : List ℕ) (s : Assignment) → Agrees xs e s → Agrees L e s → Covers (Hit one L s) (C.no p (map s xs)) (apply_items (S.world.outcome op) outs e (gather (at_inputs (inputs_of op) xs) e))
  apply_no one L s g l = subst (λ o. Covers (Hit one L s) (C.no p (map s xs)) (apply_items (S.world.outcome op) outs e o)) (sym inputs) (outcome_no (S.world.outcome op vs) refl one L s g l)
