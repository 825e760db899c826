-- Scopes that are written out.
use Rattle.std.proofs.Common.{◌≡◌, ◌⊎◌, inl, inr, ℕ, List, [], ◌∷◌, ◌++◌, Bool, true, false, cond, refl, sym, ap, ap₂, ◌∙◌, subst, ⊎_elim, append-nil}
use Rattle.mc_program.specs.Programs.{expressions, Formula, Equal, Call, And, Or, If, Not, Exists, Formulas, no_formulas, formula_then}
use Rattle.mc_model.specs.Lists.{In, is_in, without, Apart, Among, once}
use Rattle.mc_accepted.specs.Scope.{variables_in_all, occurring, occurring_all, free_of, quantified, scoped_condition, scoped_negation, scoped, scoped_parts, scoped_disjuncts, HasScopes, PartsHaveScopes, DisjunctsHaveScopes}
use Rattle.laws_language.specs.ScopeLaws.{QuantifiersApart, PartsApart, DisjunctsApart, ScopedHasScopes, ClausesAreScoped, WrittenScopesStay, ScopedOnce}
use Rattle.laws_language.proofs.FlatGoals.{in_left, in_right, in_either}
use Rattle.laws_language.proofs.FlatWhole.{is_in_true, in_list}
use Rattle.laws_language.proofs.ClauseNumbers.{in_without, in_once, from_without, from_once}

-- a number is in a list or not
in_or_out : (x : ℕ) (xs : List ℕ) → In x xs ⊎ (In x xs → ⊥)
in_or_out x xs = by_test (is_in x xs) (is_in_true x xs) (in_list x xs)
  where
    by_test : (t : Bool) → (t ≡ true → In x xs) → (In x xs → t ≡ true) → In x xs ⊎ (In x xs → ⊥)
    by_test true f g = inl (f refl)
    by_test false f g = inr (λ i. let e : false ≡ true = g i in cc)

pub out_of_without : (x : ℕ) (xs vs : List ℕ) → In x (without xs vs) → In x vs → ⊥
out_of_without x [] vs h i = h
out_of_without x (y ∷ ys) vs h i = by_test (is_in y vs) (in_list y vs) h (λ j. out_of_without x ys vs j i)
  where
    by_test : (t : Bool) → (In y vs → t ≡ true) → In x (cond t (without ys vs) (y ∷ without ys vs)) → (In x (without ys vs) → ⊥) → ⊥
    by_test true f h rest = rest h
    by_test false f h rest = ⊎_elim (λ e. let q : false ≡ true = f (subst (λ z. In z vs) e i) in cc) rest h

nothing_left : (xs vs : List ℕ) → Among xs vs → without xs vs ≡ []
nothing_left [] vs h = refl
nothing_left (y ∷ ys) vs h = by_test (is_in y vs) (in_list y vs (h y (inl refl))) (nothing_left ys vs (λ x i. h x (inr i)))
  where
    by_test : (t : Bool) → t ≡ true → without ys vs ≡ [] → cond t (without ys vs) (y ∷ without ys vs) ≡ []
    by_test true e rest = rest
    by_test false e rest = cc

-- lists behind lists
pub wider : (X Y Z : List ℕ) → Among X Y → Among (X ++ Z) (Y ++ Z)
wider X Y Z h x i = ⊎_elim (λ a. in_left x Y Z (h x a)) (λ b. in_right x Y Z b) (in_either x X Z i)

between : (X Y vs ys : List ℕ) → Among X Y → Among (X ++ ys) (Y ++ (vs ++ ys))
between X Y vs ys h x i = ⊎_elim (λ a. in_left x Y (vs ++ ys) (h x a)) (λ b. in_right x Y (vs ++ ys) (in_right x vs ys b)) (in_either x X ys i)

with_more : (X vs ws ys : List ℕ) → Among (X ++ (vs ++ ys)) (X ++ ((vs ++ ws) ++ ys))
with_more X vs ws ys x i =
    ⊎_elim (λ a. in_left x X ((vs ++ ws) ++ ys) a)
    (λ b. in_right x X ((vs ++ ws) ++ ys) (⊎_elim (λ c. in_left x (vs ++ ws) ys (in_left x vs ws c)) (λ c. in_right x (vs ++ ws) ys c) (in_either x vs ys b)))
    (in_either x X (vs ++ ys) i)

-- what is outside, and what is quantified around
around_part : (X O Q ys : List ℕ) → Among X (O ++ Q) → Among (X ++ ys) ((O ++ ys) ++ Q)
around_part X O Q ys h x i =
    ⊎_elim (λ a. ⊎_elim (λ o. in_left x (O ++ ys) Q (in_left x O ys o)) (λ q. in_right x (O ++ ys) Q q) (in_either x O Q (h x a))) (λ b. in_left x (O ++ ys) Q (in_right x O ys b)) (in_either x X ys i)

around_scope : (X O Q vs : List ℕ) → Among X (O ++ Q) → Among (X ++ vs) (O ++ (Q ++ vs))
around_scope X O Q vs h x i =
    ⊎_elim (λ a. ⊎_elim (λ o. in_left x O (Q ++ vs) o) (λ q. in_right x O (Q ++ vs) (in_left x Q vs q)) (in_either x O Q (h x a))) (λ b. in_right x O (Q ++ vs) (in_right x Q vs b)) (in_either x X vs i)

around_condition : (X O Q vs ys : List ℕ) → Among X (O ++ Q) → Among (X ++ (vs ++ ys)) ((O ++ ys) ++ (Q ++ vs))
around_condition X O Q vs ys h x i =
    ⊎_elim (λ a. ⊎_elim (λ o. in_left x (O ++ ys) (Q ++ vs) (in_left x O ys o)) (λ q. in_right x (O ++ ys) (Q ++ vs) (in_left x Q vs q)) (in_either x O Q (h x a)))
    (λ b. ⊎_elim (λ c. in_right x (O ++ ys) (Q ++ vs) (in_right x Q vs c)) (λ c. in_left x (O ++ ys) (Q ++ vs) (in_right x O ys c)) (in_either x vs ys b))
    (in_either x X (vs ++ ys) i)

part_around : (X O Q ys : List ℕ) → Among (O ++ Q) X → Among ((O ++ ys) ++ Q) (X ++ ys)
part_around X O Q ys h x i =
    ⊎_elim (λ a. ⊎_elim (λ o. in_left x X ys (h x (in_left x O Q o))) (λ b. in_right x X ys b) (in_either x O ys a)) (λ q. in_left x X ys (h x (in_right x O Q q))) (in_either x (O ++ ys) Q i)

scope_around : (X O Q vs : List ℕ) → Among (O ++ Q) X → Among (O ++ (Q ++ vs)) (X ++ vs)
scope_around X O Q vs h x i =
    ⊎_elim (λ o. in_left x X vs (h x (in_left x O Q o))) (λ a. ⊎_elim (λ q. in_left x X vs (h x (in_right x O Q q))) (λ b. in_right x X vs b) (in_either x Q vs a)) (in_either x O (Q ++ vs) i)

condition_around : (X O Q vs ys : List ℕ) → Among (O ++ Q) X → Among ((O ++ ys) ++ (Q ++ vs)) (X ++ (vs ++ ys))
condition_around X O Q vs ys h x i =
    ⊎_elim (λ a. ⊎_elim (λ o. in_left x X (vs ++ ys) (h x (in_left x O Q o))) (λ b. in_right x X (vs ++ ys) (in_right x vs ys b)) (in_either x O ys a))
    (λ a. ⊎_elim (λ q. in_left x X (vs ++ ys) (h x (in_right x O Q q))) (λ b. in_right x X (vs ++ ys) (in_left x vs ys b)) (in_either x Q vs a))
    (in_either x (O ++ ys) (Q ++ vs) i)

-- the variables that a goal quantifies by itself
abbrev pub own : List ℕ → Formula → List ℕ
own X g = once (without (free_of g) X)

pub is_own : (x : ℕ) (X : List ℕ) (g : Formula) → In x (free_of g) → (In x X → ⊥) → In x (own X g)
is_own x X g i out = in_once x (without (free_of g) X) (in_without x (free_of g) X i out)

pub own_is_out : (x : ℕ) (X : List ℕ) (g : Formula) → In x (own X g) → In x X → ⊥
own_is_out x X g i j = out_of_without x (free_of g) X (from_once x (without (free_of g) X) i) j

pub free_quantified : (x : ℕ) (vs : List ℕ) (g : Formula) → In x (free_of (quantified vs g)) → In x (free_of g) × (In x vs → ⊥)
free_quantified x [] g i = (i, (λ j. j))
free_quantified x (v ∷ vs) g i = (from_without x (free_of g) (v ∷ vs) i, out_of_without x (free_of g) (v ∷ vs) i)

-- writing scopes out leaves what occurs in a goal
pub occurs_quantified : (vs : List ℕ) (g : Formula) → occurring (quantified vs g) ≡ occurring g
occurs_quantified [] g = refl
occurs_quantified (v ∷ vs) g = refl

mutual
  pub occurs : (X : List ℕ) (g : Formula) → occurring (scoped X g) ≡ occurring g
  occurs X (Equal a b) = refl
  occurs X (Call p ts) = refl
  occurs X (And gs) = parts_occur X gs
  occurs X (Or gs) = disjuncts_occur X gs
  occurs X (If vs c t e) =
      ap₂ (λ xs ys. xs ++ ys) (occurs (X ++ (vs ++ occurring t)) c) (ap₂ (λ xs ys. xs ++ ys) (occurs (X ++ (vs ++ occurring c)) t) (occurs X e))
  occurs X (Not g) = occurs_quantified (own X (scoped X g)) (scoped X g) ∙ occurs X g
  occurs X (Exists vs g) = occurs (X ++ vs) g

  pub parts_occur : (X : List ℕ) (gs : Formulas) → occurring_all (scoped_parts X gs) ≡ occurring_all gs
  parts_occur X no_formulas = refl
  parts_occur X (formula_then g gs) = ap₂ (λ xs ys. xs ++ ys) (occurs (X ++ occurring_all gs) g) (parts_occur (X ++ occurring g) gs)

  pub disjuncts_occur : (X : List ℕ) (gs : Formulas) → occurring_all (scoped_disjuncts X gs) ≡ occurring_all gs
  disjuncts_occur X no_formulas = refl
  disjuncts_occur X (formula_then g gs) = ap₂ (λ xs ys. xs ++ ys) (occurs X g) (disjuncts_occur X gs)

-- each variable that is free in a negation or a condition is one of those around it
abbrev mutual
  pub Written : List ℕ → Formula → Type 0
  Written X (Equal a b) = Unit {0}
  Written X (Call p ts) = Unit {0}
  Written X (And gs) = PartsWritten X gs
  Written X (Or gs) = DisjunctsWritten X gs
  Written X (If vs c t e) = Among (without (free_of c) vs) X × Written (X ++ (vs ++ occurring t)) c × Written (X ++ (vs ++ occurring c)) t × Written X e
  Written X (Not g) = Among (free_of g) X × Written X g
  Written X (Exists vs g) = Written (X ++ vs) g

  pub PartsWritten : List ℕ → Formulas → Type 0
  PartsWritten X no_formulas = Unit {0}
  PartsWritten X (formula_then g gs) = Written (X ++ occurring_all gs) g × PartsWritten (X ++ occurring g) gs

  pub DisjunctsWritten : List ℕ → Formulas → Type 0
  DisjunctsWritten X no_formulas = Unit {0}
  DisjunctsWritten X (formula_then g gs) = Written X g × DisjunctsWritten X gs

mutual
  more : (X Y : List ℕ) (g : Formula) → Among X Y → Written X g → Written Y g
  more X Y (Equal a b) h w = w
  more X Y (Call p ts) h w = w
  more X Y (And gs) h w = more_parts X Y gs h w
  more X Y (Or gs) h w = more_disjuncts X Y gs h w
  more X Y (If vs c t e) h w = (
    (λ x i. h x (w.0 x i)),
    more (X ++ (vs ++ occurring t)) (Y ++ (vs ++ occurring t)) c (wider X Y (vs ++ occurring t) h) w.1,
    more (X ++ (vs ++ occurring c)) (Y ++ (vs ++ occurring c)) t (wider X Y (vs ++ occurring c) h) w.2,
    more X Y e h w.3,
  )
  more X Y (Not g) h w = ((λ x i. h x (w.0 x i)), more X Y g h w.1)
  more X Y (Exists vs g) h w = more (X ++ vs) (Y ++ vs) g (wider X Y vs h) w

  more_parts : (X Y : List ℕ) (gs : Formulas) → Among X Y → PartsWritten X gs → PartsWritten Y gs
  more_parts X Y no_formulas h w = w
  more_parts X Y (formula_then g gs) h w = (
    more (X ++ occurring_all gs) (Y ++ occurring_all gs) g (wider X Y (occurring_all gs) h) w.0,
    more_parts (X ++ occurring g) (Y ++ occurring g) gs (wider X Y (occurring g) h) w.1,
  )

  more_disjuncts : (X Y : List ℕ) (gs : Formulas) → Among X Y → DisjunctsWritten X gs → DisjunctsWritten Y gs
  more_disjuncts X Y no_formulas h w = w
  more_disjuncts X Y (formula_then g gs) h w = (more X Y g h w.0, more_disjuncts X Y gs h w.1)

-- so it is where scopes are written out
written_quantified : (X vs : List ℕ) (g : Formula) → Written X g → Written X (quantified vs g)
written_quantified X [] g w = w
written_quantified X (v ∷ vs) g w = more X (X ++ (v ∷ vs)) g (λ x i. in_left x X (v ∷ vs) i) w

mutual
  pub written : (X : List ℕ) (g : Formula) → Written X (scoped X g)
  written X (Equal a b) = tt
  written X (Call p ts) = tt
  written X (And gs) = parts_written X gs
  written X (Or gs) = disjuncts_written X gs
  written X (If vs c t e) =
      let c' = scoped (X ++ (vs ++ occurring t)) c in
      let t' = scoped (X ++ (vs ++ occurring c)) t in
      let ws = own (X ++ vs) c' in (
        (λ x i.
            let a = from_without x (free_of c') (vs ++ ws) i in
            let out = out_of_without x (free_of c') (vs ++ ws) i in
            ⊎_elim (λ b. ⊎_elim (λ d. d) (λ d. absurd (out (in_left x vs ws d))) (in_either x X vs b)) (λ b. absurd (out (in_right x vs ws (is_own x (X ++ vs) c' a b)))) (in_or_out x (X ++ vs))),
        subst (λ l. Written (X ++ ((vs ++ ws) ++ l)) c') (sym (occurs (X ++ (vs ++ occurring c)) t))
            (more (X ++ (vs ++ occurring t)) (X ++ ((vs ++ ws) ++ occurring t)) c' (with_more X vs ws (occurring t)) (written (X ++ (vs ++ occurring t)) c)),
        subst (λ l. Written (X ++ ((vs ++ ws) ++ l)) t') (sym (occurs (X ++ (vs ++ occurring t)) c))
            (more (X ++ (vs ++ occurring c)) (X ++ ((vs ++ ws) ++ occurring c)) t' (with_more X vs ws (occurring c)) (written (X ++ (vs ++ occurring c)) t)),
        written X e,
      )
  written X (Not g) =
      let g' = scoped X g in
      let vs = own X g' in (
        (λ x i. let a = free_quantified x vs g' i in ⊎_elim (λ b. b) (λ b. absurd (a.1 (is_own x X g' a.0 b))) (in_or_out x X)),
        written_quantified X vs g' (written X g),
      )
  written X (Exists vs g) = written (X ++ vs) g

  pub parts_written : (X : List ℕ) (gs : Formulas) → PartsWritten X (scoped_parts X gs)
  parts_written X no_formulas = tt
  parts_written X (formula_then g gs) = (
    subst (λ l. Written (X ++ l) (scoped (X ++ occurring_all gs) g)) (sym (parts_occur (X ++ occurring g) gs)) (written (X ++ occurring_all gs) g),
    subst (λ l. PartsWritten (X ++ l) (scoped_parts (X ++ occurring g) gs)) (sym (occurs (X ++ occurring_all gs) g)) (parts_written (X ++ occurring g) gs),
  )

  pub disjuncts_written : (X : List ℕ) (gs : Formulas) → DisjunctsWritten X (scoped_disjuncts X gs)
  disjuncts_written X no_formulas = tt
  disjuncts_written X (formula_then g gs) = (written X g, disjuncts_written X gs)

-- the quantifiers are still apart
apart_quantified : (O vs : List ℕ) (g : Formula) → Apart vs O → QuantifiersApart O g → QuantifiersApart O (quantified vs g)
apart_quantified O [] g out a = a
apart_quantified O (v ∷ vs) g out a = (out, a)

mutual
  stay_apart : (O X : List ℕ) (g : Formula) → Among O X → QuantifiersApart O g → QuantifiersApart O (scoped X g)
  stay_apart O X (Equal a b) h q = q
  stay_apart O X (Call p ts) h q = q
  stay_apart O X (And gs) h q = parts_stay_apart O X gs h q
  stay_apart O X (Or gs) h q = disjuncts_stay_apart O X gs h q
  stay_apart O X (If vs c t e) h q =
      let c' = scoped (X ++ (vs ++ occurring t)) c in
      let t' = scoped (X ++ (vs ++ occurring c)) t in (
        (λ x i j. ⊎_elim (λ a. q.0 x a j) (λ a. own_is_out x (X ++ vs) c' a (in_left x X vs (h x j))) (in_either x vs (own (X ++ vs) c') i)),
        subst (λ l. QuantifiersApart (O ++ l) c') (sym (occurs (X ++ (vs ++ occurring c)) t)) (stay_apart (O ++ occurring t) (X ++ (vs ++ occurring t)) c (between O X vs (occurring t) h) q.1),
        subst (λ l. QuantifiersApart (O ++ l) t') (sym (occurs (X ++ (vs ++ occurring t)) c)) (stay_apart (O ++ occurring c) (X ++ (vs ++ occurring c)) t (between O X vs (occurring c) h) q.2),
        stay_apart O X e h q.3,
      )
  stay_apart O X (Not g) h q = apart_quantified O (own X (scoped X g)) (scoped X g) (λ x i j. own_is_out x X (scoped X g) i (h x j)) (stay_apart O X g h q)
  stay_apart O X (Exists vs g) h q = (q.0, stay_apart O (X ++ vs) g (λ x i. in_left x X vs (h x i)) q.1)

  parts_stay_apart : (O X : List ℕ) (gs : Formulas) → Among O X → PartsApart O gs → PartsApart O (scoped_parts X gs)
  parts_stay_apart O X no_formulas h q = q
  parts_stay_apart O X (formula_then g gs) h q = (
    subst (λ l. QuantifiersApart (O ++ l) (scoped (X ++ occurring_all gs) g)) (sym (parts_occur (X ++ occurring g) gs)) (stay_apart (O ++ occurring_all gs) (X ++ occurring_all gs) g (wider O X (occurring_all gs) h) q.0),
    subst (λ l. PartsApart (O ++ l) (scoped_parts (X ++ occurring g) gs)) (sym (occurs (X ++ occurring_all gs) g)) (parts_stay_apart (O ++ occurring g) (X ++ occurring g) gs (wider O X (occurring g) h) q.1),
  )

  disjuncts_stay_apart : (O X : List ℕ) (gs : Formulas) → Among O X → DisjunctsApart O gs → DisjunctsApart O (scoped_disjuncts X gs)
  disjuncts_stay_apart O X no_formulas h q = q
  disjuncts_stay_apart O X (formula_then g gs) h q = (stay_apart O X g h q.0, disjuncts_stay_apart O X gs h q.1)

-- both together are scopes
mutual
  has_scopes : (O Q X : List ℕ) (g : Formula) → Among X (O ++ Q) → Written X g → QuantifiersApart O g → HasScopes O Q g
  has_scopes O Q X (Equal a b) h w q = tt
  has_scopes O Q X (Call p ts) h w q = tt
  has_scopes O Q X (And gs) h w q = parts_have_scopes O Q X gs h w q
  has_scopes O Q X (Or gs) h w q = disjuncts_have_scopes O Q X gs h w q
  has_scopes O Q X (If vs c t e) h w q = (
    q.0,
    (λ x i. h x (w.0 x i)),
    has_scopes (O ++ occurring t) (Q ++ vs) (X ++ (vs ++ occurring t)) c (around_condition X O Q vs (occurring t) h) w.1 q.1,
    has_scopes (O ++ occurring c) (Q ++ vs) (X ++ (vs ++ occurring c)) t (around_condition X O Q vs (occurring c) h) w.2 q.2,
    has_scopes O Q X e h w.3 q.3,
  )
  has_scopes O Q X (Not g) h w q = ((λ x i. h x (w.0 x i)), has_scopes O Q X g h w.1 q)
  has_scopes O Q X (Exists vs g) h w q = (q.0, has_scopes O (Q ++ vs) (X ++ vs) g (around_scope X O Q vs h) w q.1)

  parts_have_scopes : (O Q X : List ℕ) (gs : Formulas) → Among X (O ++ Q) → PartsWritten X gs → PartsApart O gs → PartsHaveScopes O Q gs
  parts_have_scopes O Q X no_formulas h w q = tt
  parts_have_scopes O Q X (formula_then g gs) h w q = (
    has_scopes (O ++ occurring_all gs) Q (X ++ occurring_all gs) g (around_part X O Q (occurring_all gs) h) w.0 q.0,
    parts_have_scopes (O ++ occurring g) Q (X ++ occurring g) gs (around_part X O Q (occurring g) h) w.1 q.1,
  )

  disjuncts_have_scopes : (O Q X : List ℕ) (gs : Formulas) → Among X (O ++ Q) → DisjunctsWritten X gs → DisjunctsApart O gs → DisjunctsHaveScopes O Q gs
  disjuncts_have_scopes O Q X no_formulas h w q = tt
  disjuncts_have_scopes O Q X (formula_then g gs) h w q = (has_scopes O Q X g h w.0 q.0, disjuncts_have_scopes O Q X gs h w.1 q.1)

-- and the other way round
mutual
  are_written : (O Q X : List ℕ) (g : Formula) → Among (O ++ Q) X → HasScopes O Q g → Written X g
  are_written O Q X (Equal a b) h s = tt
  are_written O Q X (Call p ts) h s = tt
  are_written O Q X (And gs) h s = parts_are_written O Q X gs h s
  are_written O Q X (Or gs) h s = disjuncts_are_written O Q X gs h s
  are_written O Q X (If vs c t e) h s = (
    (λ x i. h x (s.1 x i)),
    are_written (O ++ occurring t) (Q ++ vs) (X ++ (vs ++ occurring t)) c (condition_around X O Q vs (occurring t) h) s.2,
    are_written (O ++ occurring c) (Q ++ vs) (X ++ (vs ++ occurring c)) t (condition_around X O Q vs (occurring c) h) s.3,
    are_written O Q X e h s.4,
  )
  are_written O Q X (Not g) h s = ((λ x i. h x (s.0 x i)), are_written O Q X g h s.1)
  are_written O Q X (Exists vs g) h s = are_written O (Q ++ vs) (X ++ vs) g (scope_around X O Q vs h) s.1

  parts_are_written : (O Q X : List ℕ) (gs : Formulas) → Among (O ++ Q) X → PartsHaveScopes O Q gs → PartsWritten X gs
  parts_are_written O Q X no_formulas h s = tt
  parts_are_written O Q X (formula_then g gs) h s = (
    are_written (O ++ occurring_all gs) Q (X ++ occurring_all gs) g (part_around X O Q (occurring_all gs) h) s.0,
    parts_are_written (O ++ occurring g) Q (X ++ occurring g) gs (part_around X O Q (occurring g) h) s.1,
  )

  disjuncts_are_written : (O Q X : List ℕ) (gs : Formulas) → Among (O ++ Q) X → DisjunctsHaveScopes O Q gs → DisjunctsWritten X gs
  disjuncts_are_written O Q X no_formulas h s = tt
  disjuncts_are_written O Q X (formula_then g gs) h s = (are_written O Q X g h s.0, disjuncts_are_written O Q X gs h s.1)

-- a goal that is written so stays as it is
mutual
  stays : (X : List ℕ) (g : Formula) → Written X g → scoped X g ≡ g
  stays X (Equal a b) w = refl
  stays X (Call p ts) w = refl
  stays X (And gs) w = ap And (parts_stay X gs w)
  stays X (Or gs) w = ap Or (disjuncts_stay X gs w)
  stays X (If vs c t e) w =
      let none : Among (free_of c) (X ++ vs) = λ x i. ⊎_elim (λ a. in_right x X vs a) (λ a. in_left x X vs (w.0 x (in_without x (free_of c) vs i a))) (in_or_out x vs) in
      ap₂ (λ a b. scoped_condition X vs a b (scoped X e)) (stays (X ++ (vs ++ occurring t)) c w.1) (stays (X ++ (vs ++ occurring c)) t w.2)
      ∙ ap (λ a. scoped_condition X vs c t a) (stays X e w.3)
      ∙ ap (λ l. If (vs ++ once l) c t e) (nothing_left (free_of c) (X ++ vs) none)
      ∙ ap (λ l. If l c t e) (append-nil vs)
  stays X (Not g) w = ap (λ a. scoped_negation X a) (stays X g w.1) ∙ ap (λ l. Not (quantified (once l) g)) (nothing_left (free_of g) X w.0)
  stays X (Exists vs g) w = ap (λ a. Exists vs a) (stays (X ++ vs) g w)

  parts_stay : (X : List ℕ) (gs : Formulas) → PartsWritten X gs → scoped_parts X gs ≡ gs
  parts_stay X no_formulas w = refl
  parts_stay X (formula_then g gs) w = ap₂ (λ a b. formula_then a b) (stays (X ++ occurring_all gs) g w.0) (parts_stay (X ++ occurring g) gs w.1)

  disjuncts_stay : (X : List ℕ) (gs : Formulas) → DisjunctsWritten X gs → scoped_disjuncts X gs ≡ gs
  disjuncts_stay X no_formulas w = refl
  disjuncts_stay X (formula_then g gs) w = ap₂ (λ a b. formula_then a b) (stays X g w.0) (disjuncts_stay X gs w.1)

pub scoped_has_scopes : ScopedHasScopes
scoped_has_scopes O Q g q = has_scopes O Q (O ++ Q) (scoped (O ++ Q) g) (λ x i. i) (written (O ++ Q) g) (stay_apart O (O ++ Q) g (λ x i. in_left x O Q i) q)

pub clauses_are_scoped : ClausesAreScoped
clauses_are_scoped c q =
    let head = variables_in_all (expressions c.head) in
    subst (λ l. HasScopes head [] (scoped l c.body)) (append-nil head) (scoped_has_scopes head [] c.body q)

pub written_scopes_stay : WrittenScopesStay
written_scopes_stay O Q g s = stays (O ++ Q) g (are_written O Q (O ++ Q) g (λ x i. i) s)

pub scoped_once : ScopedOnce
scoped_once O g = stays O (scoped O g) (written O g)
