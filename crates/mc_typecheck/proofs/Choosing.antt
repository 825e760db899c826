-- The candidate that a choice is, as it is looked for.
use Rattle.std.proofs.Common.{◌≡◌, ◌≢◌, ℕ, zero, suc, ◌+◌, ◌-◌, ◌<◌, ◌≤◌, Bool, true, false, cond, not, ◌&&◌, Option, Some, None, List, [], ◌∷◌, ◌++◌, length, map, take, drop, get_or, refl, sym, ap, ◌∙◌, arith}
use Rattle.std.specs.Prelude.{nat_eq, is_some, Contains, IfSome}
use Rattle.std.proofs.lemmas.List.{drop_more, take_more, drop_all}
use Rattle.mc_program.specs.Programs.{Source}
use Rattle.mc_accepted.specs.ProperTypes.{Parameters}
use Rattle.mc_accepted.specs.Resolving.{signature}
use Rattle.mc_source.specs.declared.name.Candidate.{Candidate}
use Rattle.mc_typecheck.specs.Ties.{Meaning, of_name, of_equation, Declared, declared, is_among, offered}
use Rattle.mc_typecheck.specs.Walked.{Shows, entry}
use Rattle.mc_typecheck.specs.declared.table.Signatures.{Signatures}
use Rattle.mc_typecheck.specs.code.Tables.{listed, offer, IsSole}
use Rattle.mc_typecheck.proofs.Stepping.{offered_split}

none_of : {A B : Type 0} (f : A → B) (b : Bool) (m : A) → [] ≡ map f (cond b (m ∷ []) []) → cond b (m ∷ []) [] ≡ []
none_of f true m e = let apart : 0 ≡ 1 = ap length e in let bad : ⊥ = omega (arith, apart) in absurd bad
none_of f false m e = refl

one_of : {A B : Type 0} (f : A → B) (b : Bool) (m : A) (x : B) → x ∷ [] ≡ map f (cond b (m ∷ []) []) → cond b (m ∷ []) [] ≡ m ∷ []
one_of f true m x e = refl
one_of f false m x e = let apart : 1 ≡ 0 = ap length e in let bad : ⊥ = omega (arith, apart) in absurd bad

module _ (P : Source) (D : Parameters) (t : Signatures) (test : Candidate → Bool) (n : ℕ) (cs : List Candidate) where
  abbrev shown : Meaning → Option Declared
  shown m = Some (declared P D m)

  -- what is offered from a place on
  abbrev pub from_place : ℕ → List Meaning
  from_place k = offered P D test n (take k cs) (drop k cs)

  abbrev here : ℕ → Candidate → List Meaning
  here k d = offer P D test n (take k cs) (get_or cs k d)

  abbrev pub Found : ℕ → Candidate → Option ℕ → Type 0
  Found k d r = map (λ j. entry t j) (listed r) ≡ map (λ (m : Meaning). Some (declared P D m)) (offer P D test n (take k cs) (get_or cs k d))

  abbrev passes : ℕ → Candidate → Bool
  passes k d = let c = get_or cs k d in test c && (nat_eq (length (signature P D c)) n && not (is_among c (take k cs)))

  not_here : (k : ℕ) (d : Candidate) (r : Option ℕ) → is_some r ≡ false → Found k d r → here k d ≡ []
  not_here k d None e h = none_of shown (passes k d) (of_name (get_or cs k d)) h
  not_here k d (Some j) e h = cc

  is_here : (k : ℕ) (d : Candidate) (r : Option ℕ) → is_some r ≡ true → Found k d r → here k d ≡ of_name (get_or cs k d) ∷ []
  is_here k d None e h = cc
  is_here k d (Some j) e h = one_of shown (passes k d) (of_name (get_or cs k d)) (entry t j) h

  parts : (k : ℕ) (d : Candidate) → k < length cs → from_place k ≡ here k d ++ from_place (k + 1)
  parts k d lt =
      let x = get_or cs k d in
      let rest = drop (k + 1) cs in
      ap (offered P D test n (take k cs)) (drop_more cs k d lt)
      ∙ offered_split P D test n (take k cs) x rest
      ∙ ap (λ met. offer P D test n (take k cs) x ++ offered P D test n met rest) (sym (take_more cs k d lt))

  -- a candidate that isn't offered, and one that is
  pub skipped : (k : ℕ) (d : Candidate) (r : Option ℕ) → k < length cs → is_some r ≡ false → Found k d r → from_place k ≡ from_place (k + 1)
  skipped k d r lt test_is h = parts k d lt ∙ ap (λ ms. ms ++ from_place (k + 1)) (not_here k d r test_is h)

  pub met : (k : ℕ) (d : Candidate) (r : Option ℕ) → k < length cs → is_some r ≡ true → Found k d r → from_place k ≡ of_name (get_or cs k d) ∷ from_place (k + 1)
  met k d r lt test_is h = parts k d lt ∙ ap (λ ms. ms ++ from_place (k + 1)) (is_here k d r test_is h)

  pub chosen_later : (k left : ℕ) (d : Candidate) (r : Option ℕ) (whole : Meaning) → k < length cs → is_some r ≡ false → Found k d r → get_or (from_place k) left of_equation ≡ whole → get_or (from_place (k + 1)) left of_equation ≡ whole
  chosen_later k left d r whole lt test_is h so = sym (ap (λ ms. get_or ms left of_equation) (skipped k d r lt test_is h)) ∙ so

  behind : (m : Meaning) (ms : List Meaning) (left : ℕ) → left ≢ 0 → get_or (m ∷ ms) left of_equation ≡ get_or ms (left - 1) of_equation
  behind m ms zero some = absurd (some refl)
  behind m ms (suc left) some = let e : suc left - 1 ≡ left = omega arith in ap (λ k. get_or ms k of_equation) (sym e)

  pub chosen_behind : (k left : ℕ) (d : Candidate) (r : Option ℕ) (whole : Meaning) → k < length cs → is_some r ≡ true → left ≢ 0 → Found k d r → get_or (from_place k) left of_equation ≡ whole → get_or (from_place (k + 1)) (left - 1) of_equation ≡ whole
  chosen_behind k left d r whole lt test_is some h so =
      sym (behind (of_name (get_or cs k d)) (from_place (k + 1)) left some)
      ∙ sym (ap (λ ms. get_or ms left of_equation) (met k d r lt test_is h))
      ∙ so

  pub chosen_here : (k left : ℕ) (d : Candidate) (r : Option ℕ) (whole : Meaning) → k < length cs → is_some r ≡ true → left ≡ 0 → Found k d r → get_or (from_place k) left of_equation ≡ whole → of_name (get_or cs k d) ≡ whole
  chosen_here k left d r whole lt test_is none h so =
      sym (ap (λ ms. get_or ms left of_equation) (met k d r lt test_is h) ∙ ap (λ i. get_or (of_name (get_or cs k d) ∷ from_place (k + 1)) i of_equation) none)
      ∙ so

  none_left : (k : ℕ) → length cs ≤ k → from_place k ≡ []
  none_left k le = ap (offered P D test n (take k cs)) (drop_all k cs le)

  pub chosen_nowhere : (k left : ℕ) (whole : Meaning) → length cs ≤ k → get_or (from_place k) left of_equation ≡ whole → of_equation ≡ whole
  chosen_nowhere k left whole le so = sym (ap (λ ms. get_or ms left of_equation) (none_left k le)) ∙ so

  -- THE ONLY ONE

  -- the one that was found so far, and where it stands
  abbrev pub FoundSole : Option (Candidate × ℕ) → ℕ → Type 0
  FoundSole None k = from_place k ≡ offered P D test n [] cs
  FoundSole (Some f) k = (of_name f.0 ∷ from_place k ≡ offered P D test n [] cs) × (entry t f.1 ≡ shown (of_name f.0))

  pub sole_later : (k : ℕ) (d : Candidate) (f : Option (Candidate × ℕ)) → k < length cs → Found k d None → FoundSole f k → FoundSole f (k + 1)
  sole_later k d None lt h so = sym (skipped k d None lt refl h) ∙ so
  sole_later k d (Some f) lt h so = (ap (λ ms. of_name f.0 ∷ ms) (sym (skipped k d None lt refl h)) ∙ so.0, so.1)

  entry_here : (b : Bool) (m : Meaning) (x : Option Declared) → x ∷ [] ≡ map shown (cond b (m ∷ []) []) → x ≡ shown m
  entry_here true m x e = ap (λ xs. get_or xs 0 x) e
  entry_here false m x e = let apart : 1 ≡ 0 = ap length e in let bad : ⊥ = omega (arith, apart) in absurd bad

  pub sole_here : (k place : ℕ) (d : Candidate) (f : Option (Candidate × ℕ)) → k < length cs → is_some f ≡ false → Found k d (Some place) → FoundSole f k → FoundSole (Some (get_or cs k d, place)) (k + 1)
  sole_here k place d None lt none h so = (sym (met k d (Some place) lt refl h) ∙ so, entry_here (passes k d) (of_name (get_or cs k d)) (entry t place) h)
  sole_here k place d (Some f) lt none h so = cc

  sole_whole : (k : ℕ) (f : Candidate × ℕ) → length cs ≤ k → FoundSole (Some f) k → IsSole P D t test n cs f.0 f.1
  sole_whole k f le so = record { sole = sym so.0 ∙ ap (λ ms. of_name f.0 ∷ ms) (none_left k le); entry = so.1 }

pub sole_found : (t : Signatures) (test : Candidate → Bool) (n : ℕ) (cs : List Candidate) (k : ℕ) (f : Option (Candidate × ℕ)) → length cs ≤ k → ((P : Source) (D : Parameters) → ((c : Candidate) → Contains cs c → Shows P D t (of_name c)) → FoundSole P D t test n cs f k) → IfSome f (λ found. (P : Source) (D : Parameters) → ((c : Candidate) → Contains cs c → Shows P D t (of_name c)) → IsSole P D t test n cs found.0 found.1)
sole_found t test n cs k None le so = tt
sole_found t test n cs k (Some f) le so = λ P D h. sole_whole P D t test n cs k f le (so P D h)
