-- The insts of lists, over any program that has the symbols of lists.
use Rattle.std.proofs.Common.{◌≡◌, ◌≢◌, ◌⊎◌, inl, inr, ℕ, zero, suc, ◌<◌, List, [], ◌∷◌, length, get_or, replicate, Bool, true, false, cond, nat_eq, refl, sym, ap, ◌∙◌, subst, arith, ⊎_elim}
use Rattle.std.proofs.lemmas.Bool.{eqb-true, eqb-false}
use Rattle.std.proofs.lemmas.List.{length-replicate, get_or-replicate}
use Rattle.mc_program.specs.Programs.{TypeTerm, variable_type, Source}
use Rattle.mc_model.specs.Types.{argument_types}
use Rattle.mc_model.specs.Lists.{In}
use Rattle.mc_model.specs.Insts.{Listed, free, ground, unique, dead, bound, Graph, Lists, AllowsSymbol}
use Rattle.mc_accepted.specs.Inclusion.{Tip, AllowsTip, symbol_tip, constant_tip, state_tip, Path, Allows, NoMore, Merged}
use Rattle.mc_accepted.specs.ProperTypes.{Parameters, ProperType, EachProper}
use Rattle.mc_accepted.specs.Tidy.{Leads, Tidy}
use Rattle.mc_accepted.specs.Accepted.{entered}
use Rattle.laws_language.specs.code.ExamplesOfProcedures.{list_insts, cell_listed}
use Rattle.laws_language.proofs.Inclusions.{on_types, on_either, on_types_to}
use Rattle.laws_language.proofs.Merging.{either_is_least, one_is_merged}

-- two variables get their insts in either order
pub swapped : {A : Type 0} (x a b : ℕ) (p q r : A) → a ≢ b → cond (nat_eq x a) p (cond (nat_eq x b) q r) ≡ cond (nat_eq x b) q (cond (nat_eq x a) p r)
swapped x a b p q r n = by_tests (nat_eq x a) (nat_eq x b) (eqb-true x a) (eqb-true x b)
  where
    by_tests : (s t : Bool) → (s ≡ true → x ≡ a) → (t ≡ true → x ≡ b) → cond s p (cond t q r) ≡ cond t q (cond s p r)
    by_tests true true e f = absurd (n (sym (e refl) ∙ f refl))
    by_tests true false e f = refl
    by_tests false true e f = refl
    by_tests false false e f = refl

-- a variable that is no argument is free at first
pub entered_off : (xs is : List ℕ) (x : ℕ) → (In x xs → ⊥) → entered xs is x ≡ 0
entered_off [] is x n = refl
entered_off (y ∷ ys) [] x n = refl
entered_off (y ∷ ys) (i ∷ is) x n = by_test (nat_eq x y) (eqb-true x y) (entered_off ys is x (λ h. n (inr h)))
  where
    by_test : (t : Bool) → (t ≡ true → x ≡ y) → entered ys is x ≡ 0 → cond t i (entered ys is x) ≡ 0
    by_test true e later = absurd (n (inl (e refl)))
    by_test false e later = later

pub apart : (a b : ℕ) → nat_eq a b ≡ false → a ≢ b
apart a b e = eqb-false a b e

pub differ : false ≡ true → ⊥
differ e = cc

abbrev G : Graph
G = list_insts

-- an inst that lists constructors over `ground` is included in it
abbrev pub Grounds : List Listed → Type 0
Grounds [] = Unit {0}
Grounds (l ∷ ls) = (l.args ≡ replicate {A = ℕ} l.arity 1) × Grounds ls

module _ (P : Source) where
  listed_ground : (ls : List Listed) (s k : ℕ) (path : Path) (e : Tip) (t : TypeTerm) → Grounds ls → Lists P ls s (λ is. (k < length is) × Allows P G path e (get_or is k 0) t) → AllowsSymbol P (G 1) 1 s (λ is. (k < length is) × Allows P G path e (get_or is k 0) t)
  listed_ground [] s k path e t g h = absurd h
  listed_ground (l ∷ ls) s k path e t g h =
      ⊎_elim (λ a. subst (λ is. (k < length is) × Allows P G path e (get_or is k 0) t) (g.0 ∙ ap (λ n. replicate {A = ℕ} n 1) a.1) a.2) (λ b. listed_ground ls s k path e t g.1 b) h

  pub bound_below_ground : (i : ℕ) (ls : List Listed) (t : TypeTerm) → G i ≡ bound ls → Grounds ls → NoMore P G i 1 t
  bound_below_ground i ls t n g [] (symbol_tip s) a = on_types (argument_types P s t) _ _ (λ ts h. tt) a
  bound_below_ground i ls t n g [] (constant_tip b) a = absurd ((subst (λ N. AllowsTip P N i t (constant_tip b)) n a).1)
  bound_below_ground i ls t n g [] (state_tip m) a = absurd ((subst (λ N. AllowsTip P N i t (state_tip m)) n a).1)
  bound_below_ground i ls t n g ((s, k) ∷ path) e a =
      on_types (argument_types P s t)
      (λ ts. AllowsSymbol P (G i) i s (λ is. (k < length is) × Allows P G path e (get_or is k 0) (get_or ts k (variable_type 0))))
      (λ ts. AllowsSymbol P (G 1) 1 s (λ is. (k < length is) × Allows P G path e (get_or is k 0) (get_or ts k (variable_type 0))))
      (λ ts h. listed_ground ls s k path e (get_or ts k (variable_type 0)) g (subst (λ N. AllowsSymbol P N i s (λ is. (k < length is) × Allows P G path e (get_or is k 0) (get_or ts k (variable_type 0)))) n h)) a

  pub included_ground : (t : TypeTerm) → NoMore P G 1 1 t
  included_ground t path e a = a

  pub both_ground : (t : TypeTerm) → Merged P G (1 ∷ 1 ∷ []) 1 t
  both_ground t = one_is_merged P G 1 1 t

  pub ground_or_cell : (t : TypeTerm) → Merged P G (1 ∷ 5 ∷ []) 1 t
  ground_or_cell t = (
    ((λ e. cc), ((λ e. cc), tt)),
    ((λ e. cc), ((λ e. cc), tt)),
    either_is_least P G 1 5 1 t (record { first = λ path e a. a; second = bound_below_ground 5 (cell_listed ∷ []) t refl (refl, tt); either = λ path e a. inl a }),
  )

  pub cell_or_ground : (t : TypeTerm) → Merged P G (5 ∷ 1 ∷ []) 1 t
  cell_or_ground t = (
    ((λ e. cc), ((λ e. cc), tt)),
    ((λ e. cc), ((λ e. cc), tt)),
    either_is_least P G 5 1 1 t (record { first = bound_below_ground 5 (cell_listed ∷ []) t refl (refl, tt); second = λ path e a. a; either = λ path e a. inr a }),
  )

  pub nil_or_cell : (t : TypeTerm) → Merged P G (4 ∷ 5 ∷ []) 6 t
  nil_or_cell t = (((λ e. cc), ((λ e. cc), tt)), ((λ e. cc), ((λ e. cc), tt)), either_is_least P G 4 5 6 t (record { first = above_nil; second = above_cell; either = either }))
    where
      either : (path : Path) (e : Tip) → Allows P G path e 6 t → Allows P G path e 4 t ⊎ Allows P G path e 5 t
      either [] (symbol_tip s) a = on_either (argument_types P s t) _ _ _ (λ ts h. ⊎_elim (λ l. inl (inl l)) (λ r. inr r) h) a
      either [] (constant_tip b) a = absurd a.1
      either [] (state_tip m) a = absurd a.1
      either ((s, k) ∷ path) e a = on_either (argument_types P s t) _ _ _ (λ ts h. ⊎_elim (λ l. inl (inl l)) (λ r. inr r) h) a

      above_nil : NoMore P G 4 6 t
      above_nil [] (symbol_tip s) a = on_types (argument_types P s t) _ _ (λ ts h. ⊎_elim (λ l. inl l) (λ r. absurd r) h) a
      above_nil [] (constant_tip b) a = absurd a.1
      above_nil [] (state_tip m) a = absurd a.1
      above_nil ((s, k) ∷ path) e a = on_types (argument_types P s t) _ _ (λ ts h. ⊎_elim (λ l. inl l) (λ r. absurd r) h) a

      above_cell : NoMore P G 5 6 t
      above_cell [] (symbol_tip s) a = on_types (argument_types P s t) _ _ (λ ts h. inr h) a
      above_cell [] (constant_tip b) a = absurd a.1
      above_cell [] (state_tip m) a = absurd a.1
      above_cell ((s, k) ∷ path) e a = on_types (argument_types P s t) _ _ (λ ts h. inr h) a

  -- `ground` leads to itself alone, and `free` to nothing, so neither has a `unique` or a `dead` inside
  ground_leads : (path : Path) (j : ℕ) (u t : TypeTerm) → Leads P G path j u 1 t → j ≡ 1
  ground_leads [] j u t h = sym h.0
  ground_leads ((s, k) ∷ path) j u t h =
      let n = (P.symbols s).name.arity in
      on_types_to (argument_types P s t) (λ ts. (k < length (replicate {A = ℕ} n 1)) × Leads P G path j u (get_or (replicate {A = ℕ} n 1) k 0) (get_or ts k (variable_type 0))) (j ≡ 1)
      (λ ts q.
      ground_leads path j u (get_or ts k (variable_type 0))
      (subst (λ i. Leads P G path j u i (get_or ts k (variable_type 0))) (get_or-replicate n k 1 0 (omega (arith, q.0, length-replicate {A = ℕ} n 1))) q.1)) h

  pub ground_tidy : (t : TypeTerm) → Tidy P G 1 t
  ground_tidy t path j u h marked =
      let e = ground_leads path j u t h in
      ⊎_elim (λ m. let f : ground ≡ unique = ap G (sym e) ∙ m in cc) (λ m. let f : ground ≡ dead = ap G (sym e) ∙ m in cc) marked

  pub free_tidy : (t : TypeTerm) → Tidy P G 0 t
  free_tidy t [] j u h marked = ⊎_elim (λ m. let f : free ≡ unique = ap G h.0 ∙ m in cc) (λ m. let f : free ≡ dead = ap G h.0 ∙ m in cc) marked
  free_tidy t ((s, k) ∷ path) j u h marked = absurd (on_types_to (argument_types P s t) (λ ts. ⊥) ⊥ (λ ts q. q) h)

-- each type that is read of a list is well formed
pub types_proper : (D : Parameters) (ts : List TypeTerm) (x : ℕ) (t : TypeTerm) → ProperType D t → EachProper D ts → ProperType D (get_or ts x t)
types_proper D [] x t p h = p
types_proper D (u ∷ ts) zero t p h = h.0
types_proper D (u ∷ ts) (suc x) t p h = types_proper D ts x t p h.1
