-- Variables that are among others, under quantifiers too.
use Rattle.std.proofs.Common.{◌≡◌, ◌⊎◌, ◌↔◌, inl, inr, ℕ, Bool, true, false, List, [], ◌∷◌, ◌++◌, refl, sym, ap, ◌∙◌, subst, ⊎_elim}
use Rattle.std.specs.Prelude.{if◌then◌else◌}
use Rattle.mc_model.specs.Lists.{In, is_in, Among, Apart, without}
use Rattle.mc_program.specs.Programs.{Formula, Equal, Call, And, Or, If, Not, Exists, Formulas, no_formulas, formula_then}
use Rattle.mc_accepted.specs.Scope.{variables_in, variables_in_all, occurring, occurring_all, free_of, free_of_all, HasScopes, PartsHaveScopes, DisjunctsHaveScopes}
use Rattle.mc_self_check.specs.code.WrittenScopes.{AllIn, NoneIn, FreeIn, AllFreeIn, ScopesIn, PartsIn, DisjunctsIn}
use Rattle.mc_self_check.proofs.TypedAtoms.{in_tested, tested_in}

pub in_left : (x : ℕ) (xs ys : List ℕ) → In x xs → In x (xs ++ ys)
in_left x [] ys i = absurd i
in_left x (a ∷ xs) ys i = ⊎_elim (λ e. inl e) (λ e. inr (in_left x xs ys e)) i

pub in_right : (x : ℕ) (xs ys : List ℕ) → In x ys → In x (xs ++ ys)
in_right x [] ys i = i
in_right x (a ∷ xs) ys i = inr (in_right x xs ys i)

pub in_either : (x : ℕ) (xs ys : List ℕ) → In x (xs ++ ys) → In x xs ⊎ In x ys
in_either x [] ys i = inr i
in_either x (a ∷ xs) ys i =
    ⊎_elim (λ e. inl (inl e)) (λ e. ⊎_elim (λ b. inl (inr b)) (λ b. inr b) (in_either x xs ys e)) i

pub among_both : (xs ys known : List ℕ) → Among (xs ++ ys) known ↔ (Among xs known × Among ys known)
among_both xs ys known = (
  λ h. (λ x i. h x (in_left x xs ys i), λ x i. h x (in_right x xs ys i)),
  λ h x i. ⊎_elim (λ a. h.0 x a) (λ a. h.1 x a) (in_either x xs ys i),
)

-- a list without others, element by element
kept : (x a : ℕ) (xs vs : List ℕ) (c : Bool) → is_in a vs ≡ c → (is_in x vs ≡ false) → (x ≡ a) ⊎ In x (without xs vs) → In x (if c then without xs vs else a ∷ without xs vs)
kept x a xs vs true e out i =
    ⊎_elim (λ s. let yes : true ≡ false = sym e ∙ ap (λ y. is_in y vs) (sym s) ∙ out in cc) (λ j. j) i
kept x a xs vs false e out i = i

into_without : (x : ℕ) (xs vs : List ℕ) → In x xs → is_in x vs ≡ false → In x (without xs vs)
into_without x [] vs i out = absurd i
into_without x (a ∷ xs) vs i out =
    kept x a xs vs (is_in a vs) refl out (⊎_elim (λ e. inl e) (λ j. inr (into_without x xs vs j out)) i)

left_out : (x a : ℕ) (xs vs : List ℕ) (c : Bool) → is_in a vs ≡ c → (In x (without xs vs) → In x xs × (is_in x vs ≡ false)) → In x (if c then without xs vs else a ∷ without xs vs) → ((x ≡ a) ⊎ In x xs) × (is_in x vs ≡ false)
left_out x a xs vs true e rest i = (inr (rest i).0, (rest i).1)
left_out x a xs vs false e rest i =
    ⊎_elim (λ s. (inl s, ap (λ y. is_in y vs) s ∙ e)) (λ j. (inr (rest j).0, (rest j).1)) i

out_of_without : (x : ℕ) (xs vs : List ℕ) → In x (without xs vs) → In x xs × (is_in x vs ≡ false)
out_of_without x [] vs i = absurd i
out_of_without x (a ∷ xs) vs i = left_out x a xs vs (is_in a vs) refl (out_of_without x xs vs) i

under_case : (x : ℕ) (xs vs known : List ℕ) (c : Bool) → is_in x vs ≡ c → Among (without xs vs) known → In x xs → In x (vs ++ known)
under_case x xs vs known true e h i = in_left x vs known (tested_in x vs e)
under_case x xs vs known false e h i = in_right x vs known (h x (into_without x xs vs i e))

pub among_under : (xs vs known : List ℕ) → Among xs (vs ++ known) ↔ Among (without xs vs) known
among_under xs vs known = (
  λ h x i.
      let o = out_of_without x xs vs i in
      ⊎_elim (λ a. let yes : true ≡ false = sym (in_tested x vs a) ∙ o.1 in cc) (λ a. a) (in_either x vs known (h x o.0)),
  λ h x i. under_case x xs vs known (is_in x vs) refl h i,
)

-- without nothing a list stays, and two lists lose each their own
pub without_nothing : (xs : List ℕ) → without xs [] ≡ xs
without_nothing [] = refl
without_nothing (x ∷ xs) = ap (λ l. x ∷ l) (without_nothing xs)

one_more : (x : ℕ) (l r : List ℕ) (c : Bool) → (if c then l ++ r else x ∷ (l ++ r)) ≡ (if c then l else x ∷ l) ++ r
one_more x l r true = refl
one_more x l r false = refl

pub without_both : (xs ys vs : List ℕ) → without (xs ++ ys) vs ≡ without xs vs ++ without ys vs
without_both [] ys vs = refl
without_both (x ∷ xs) ys vs =
    ap (λ l. if is_in x vs then l else x ∷ l) (without_both xs ys vs)
    ∙ one_more x (without xs vs) (without ys vs) (is_in x vs)

pub all_told : (xs ys : List ℕ) → AllIn xs ys ↔ Among xs ys
all_told [] ys = (λ h x i. absurd i, λ h. tt)
all_told (a ∷ xs) ys =
    let rest = all_told xs ys in (
      λ h x i. ⊎_elim (λ e. subst (λ z. In z ys) (sym e) h.0) (λ j. rest.0 h.1 x j) i,
      λ h. (h a (inl refl), rest.1 (λ x i. h x (inr i))),
    )

pub none_told : (xs ys : List ℕ) → NoneIn xs ys ↔ Apart xs ys
none_told [] ys = (λ h x i j. i, λ h. tt)
none_told (a ∷ xs) ys =
    let rest = none_told xs ys in (
      λ h x i j. ⊎_elim (λ e. h.0 (subst (λ z. In z ys) e j)) (λ k. rest.0 h.1 x k j) i,
      λ h. (λ j. h a (inl refl) j, rest.1 (λ x i j. h x (inr i) j)),
    )

mutual
  pub free_told : (K : List ℕ) (g : Formula) → FreeIn K g ↔ Among (free_of g) K
  free_told K (Equal a b) = all_told (variables_in a ++ variables_in b) K
  free_told K (Call p ts) = all_told (variables_in_all ts) K
  free_told K (And gs) = all_free_told K gs
  free_told K (Or gs) = all_free_told K gs
  free_told K (If vs c t e) =
      let a = free_told (vs ++ K) c in
      let b = free_told (vs ++ K) t in
      let d = free_told K e in
      let u = among_under (free_of c) vs K in
      let w = among_under (free_of t) vs K in
      let s = among_both (without (free_of c ++ free_of t) vs) (free_of e) K in
      let m = among_both (without (free_of c) vs) (without (free_of t) vs) K in
      let one = without_both (free_of c) (free_of t) vs in (
        λ h. s.1 (subst (λ l. Among l K) (sym one) (m.1 (u.0 (a.0 h.0), w.0 (b.0 h.1))), d.0 h.2),
        λ h. let p = s.0 h in let q = m.0 (subst (λ l. Among l K) one p.0) in (a.1 (u.1 q.0), b.1 (w.1 q.1), d.1 p.1),
      )
  free_told K (Not g) = free_told K g
  free_told K (Exists vs g) =
      let a = free_told (vs ++ K) g in
      let u = among_under (free_of g) vs K in
      (λ h. u.0 (a.0 h), λ h. a.1 (u.1 h))

  all_free_told : (K : List ℕ) (gs : Formulas) → AllFreeIn K gs ↔ Among (free_of_all gs) K
  all_free_told K no_formulas = (λ h x i. absurd i, λ h. tt)
  all_free_told K (formula_then g gs) =
      let a = free_told K g in
      let b = all_free_told K gs in
      let m = among_both (free_of g) (free_of_all gs) K in
      (λ h. m.1 (a.0 h.0, b.0 h.1), λ h. let p = m.0 h in (a.1 p.0, b.1 p.1))

mutual
  pub scopes_told : (O Q : List ℕ) (g : Formula) → ScopesIn O Q g ↔ HasScopes O Q g
  scopes_told O Q (Equal a b) = (λ h. h, λ h. h)
  scopes_told O Q (Call p ts) = (λ h. h, λ h. h)
  scopes_told O Q (And gs) = parts_told O Q gs
  scopes_told O Q (Or gs) = disjuncts_told O Q gs
  scopes_told O Q (If vs c t e) =
      let n = none_told vs O in
      let f = free_told (vs ++ (O ++ Q)) c in
      let u = among_under (free_of c) vs (O ++ Q) in
      let a = scopes_told (O ++ occurring t) (Q ++ vs) c in
      let b = scopes_told (O ++ occurring c) (Q ++ vs) t in
      let d = scopes_told O Q e in (
        λ h. (n.0 h.0, u.0 (f.0 h.1), a.0 h.2, b.0 h.3, d.0 h.4),
        λ h. (n.1 h.0, f.1 (u.1 h.1), a.1 h.2, b.1 h.3, d.1 h.4),
      )
  scopes_told O Q (Not g) =
      let f = free_told (O ++ Q) g in
      let a = scopes_told O Q g in
      (λ h. (f.0 h.0, a.0 h.1), λ h. (f.1 h.0, a.1 h.1))
  scopes_told O Q (Exists vs g) =
      let n = none_told vs O in
      let a = scopes_told O (Q ++ vs) g in
      (λ h. (n.0 h.0, a.0 h.1), λ h. (n.1 h.0, a.1 h.1))

  parts_told : (O Q : List ℕ) (gs : Formulas) → PartsIn O Q gs ↔ PartsHaveScopes O Q gs
  parts_told O Q no_formulas = (λ h. h, λ h. h)
  parts_told O Q (formula_then g gs) =
      let a = scopes_told (O ++ occurring_all gs) Q g in
      let b = parts_told (O ++ occurring g) Q gs in
      (λ h. (a.0 h.0, b.0 h.1), λ h. (a.1 h.0, b.1 h.1))

  disjuncts_told : (O Q : List ℕ) (gs : Formulas) → DisjunctsIn O Q gs ↔ DisjunctsHaveScopes O Q gs
  disjuncts_told O Q no_formulas = (λ h. h, λ h. h)
  disjuncts_told O Q (formula_then g gs) =
      let a = scopes_told O Q g in
      let b = disjuncts_told O Q gs in
      (λ h. (a.0 h.0, b.0 h.1), λ h. (a.1 h.0, b.1 h.1))
