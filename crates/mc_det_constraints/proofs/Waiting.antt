-- Procedures that are to be looked at, as lists with flags.
use Rattle.std.proofs.Common.{◌≡◌, ◌≢◌, ◌⊎◌, inl, inr, ⊎_elim, ℕ, zero, suc, ◌+◌, ◌<◌, ◌≤◌, length, get_or, set, List, [], ◌∷◌, ◌++◌, Bool, true, false, refl, sym, subst, ◌∙◌, ap, arith, length-append}
use Rattle.std.specs.List.{Contains}
use Rattle.std.proofs.lemmas.List.{get_or-set_other}
use Rattle.std.proofs.lemmas.List.Elements.{Contains-append_left, Contains-append_right, Contains-append_cases}
use Rattle.std.proofs.lemmas.Bool.{cases_eq, cases_lt}
use Rattle.mc_det_constraints.specs.code.Callers.{HasPut}
use Rattle.mc_det_constraints.specs.code.Pending.{PutAll}

abbrev pub Noted : (list : List ℕ) → (flags : List Bool) → Type 0
Noted list flags = (p : ℕ) → get_or flags p false ≡ true → Contains list p

only : (p q : ℕ) → Contains (p ∷ []) q → q ≡ p
only p q c = let z : c.0 ≡ 0 = omega (arith, c.1) in sym (subst (λ j. get_or (p ∷ []) j q ≡ q) z c.2)

at_end : (xs : List ℕ) (p : ℕ) → Contains (xs ++ p ∷ []) p
at_end xs p = Contains-append_right xs (p ∷ []) p (0, omega arith, refl)

-- what is noted is no number past the end
past_end : (flags : List Bool) (p : ℕ) → length flags ≤ p → get_or flags p false ≡ false
past_end [] p h = refl
past_end (b ∷ flags) zero h = absurd (omega arith)
past_end (b ∷ flags) (suc p) h = past_end flags p (omega arith)

within : (flags : List Bool) (p : ℕ) → get_or flags p false ≡ true → p < length flags
within flags p e =
    ⊎_elim (λ (lt : p < length flags). lt) (λ (le : length flags ≤ p). let f : true ≡ false = sym e ∙ past_end flags p le in cc) (cases_lt p (length flags))

pub noted_all : (list : List ℕ) (flags : List Bool) → ((p : ℕ) → p < length flags → Contains list p) → Noted list flags
noted_all list flags h p e = h p (within flags p e)

-- a flag that is set: another one is as it was
other_flag : (flags : List Bool) (p q : ℕ) (b : Bool) → q ≢ p → get_or (set flags p b) q false ≡ get_or flags q false
other_flag flags p q b n = get_or-set_other flags p q b false n

cleared : (flags : List Bool) (p : ℕ) → get_or (set flags p false) p false ≡ false
cleared [] p = refl
cleared (b ∷ flags) zero = refl
cleared (b ∷ flags) (suc p) = cleared flags p

pub noted_taken : (before after : List ℕ) (flags : List Bool) (p : ℕ) → before ≡ after ++ p ∷ [] → Noted before flags → Noted after (set flags p false)
noted_taken before after flags p e h q t = ⊎_elim (λ (i : q ≡ p). this i) (λ (n : q ≢ p). other n) (cases_eq q p)
  where
    this : q ≡ p → Contains after q
    this i = let f : true ≡ false = sym t ∙ ap (λ k. get_or (set flags p false) k false) i ∙ cleared flags p in cc

    other : q ≢ p → Contains after q
    other n =
        ⊎_elim (λ c. c) (λ c. absurd (n (only p q c)))
        (Contains-append_cases after (p ∷ []) q (subst (λ (l : List ℕ). Contains l q) e (h q (sym (other_flag flags p q false n) ∙ t))))

pub noted_put : (before after : List ℕ) (flags : List Bool) (p : ℕ) → after ≡ before ++ p ∷ [] → Noted before flags → Noted after (set flags p true)
noted_put before after flags p e h q t = subst (λ (l : List ℕ). Contains l q) (sym e) (⊎_elim (λ (i : q ≡ p). this i) (λ (n : q ≢ p). Contains-append_left before (p ∷ []) q (h q (sym (other_flag flags p q true n) ∙ t))) (cases_eq q p))
  where
    this : q ≡ p → Contains (before ++ p ∷ []) q
    this i = subst (λ k. Contains (before ++ p ∷ []) k) (sym i) (at_end before p)

-- none was put on, and one more
pub none_put : (list : List ℕ) → PutAll [] list list
none_put list =
    record {
      kept = λ q c. c;
      are_there = λ q c. absurd (nothing q c);
      no_other = λ q c. inl c;
      fewer = omega arith;
    }
  where
    nothing : (q : ℕ) → Contains [] q → ⊥
    nothing q c = omega (arith, c.1)

pub one_put : (ps before list after : List ℕ) (p : ℕ) → PutAll ps before list → HasPut p list after → PutAll (ps ++ p ∷ []) before after
one_put ps before list after p a (inl (e, c)) =
    subst (PutAll (ps ++ p ∷ []) before) (sym e)
    (record {
      kept = a.kept;
      are_there = λ q d. ⊎_elim (λ i. a.are_there q i) (λ i. subst (λ k. Contains list k) (sym (only p q i)) c) (Contains-append_cases ps (p ∷ []) q d);
      no_other = λ q d. ⊎_elim (λ i. inl i) (λ i. inr (Contains-append_left ps (p ∷ []) q i)) (a.no_other q d);
      fewer = omega (arith, a.fewer, length-append ps (p ∷ []));
    })
one_put ps before list after p a (inr e) =
    subst (PutAll (ps ++ p ∷ []) before) (sym e)
    (record {
      kept = λ q d. Contains-append_left list (p ∷ []) q (a.kept q d);
      are_there = λ q d.
          ⊎_elim (λ i. Contains-append_left list (p ∷ []) q (a.are_there q i))
          (λ i. subst (λ k. Contains (list ++ p ∷ []) k) (sym (only p q i)) (at_end list p))
          (Contains-append_cases ps (p ∷ []) q d);
      no_other = λ q d.
          ⊎_elim
          (λ i. ⊎_elim (λ j. inl j) (λ j. inr (Contains-append_left ps (p ∷ []) q j)) (a.no_other q i))
          (λ i. inr (Contains-append_right ps (p ∷ []) q i))
          (Contains-append_cases list (p ∷ []) q d);
      fewer = omega (arith, a.fewer, length-append ps (p ∷ []), length-append list (p ∷ []));
    })
