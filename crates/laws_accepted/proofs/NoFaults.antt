-- Where no rule is broken, no procedure has a fault.
use Rattle.std.proofs.Common.{◌≡◌, ℕ, zero, suc, ◌+◌, ◌<◌, List, [], ◌∷◌, ◌++◌, length, get_or, Bool, true, false, Option, Some, None, if◌then◌else◌, refl, sym, ap, ◌∙◌, subst, arith}
use Rattle.std.specs.List.{list_any}
use Rattle.mc_source.specs.Rules.{Fault, broken_at, first_rules, stands_before, put_in, by_place}
use Rattle.mc_source.specs.declared.place.Place.{Place}
use Rattle.mc_source.specs.declared.rule.Broken.{Broken}
use Rattle.mc_model.specs.Lists.{from}
use Rattle.mc_accepted.specs.DeterminismFaults.{is_main, main_fault, procedure_fault}
use Rattle.mc_accepted.specs.Inferred.{system_of}
use Rattle.laws_accepted.specs.FaultLaws.{NoFaultAnywhere}

none_before : {A : Type 0} (xs ys : List A) → xs ++ ys ≡ [] → (xs ≡ []) × (ys ≡ [])
none_before [] ys e = (refl, e)
none_before (x ∷ xs) ys e = cc

put_some : (b : Broken) (cs : List Broken) → put_in b cs ≡ [] → ⊥
put_some b [] e = cc
put_some b (c ∷ cs) e = at (stands_before c.at b.at) e
  where
    at : (t : Bool) → (if t then c ∷ put_in b cs else b ∷ c ∷ cs) ≡ [] → ⊥
    at true e = cc
    at false e = cc

none_placed : (bs : List Broken) → by_place bs ≡ [] → bs ≡ []
none_placed [] e = refl
none_placed (b ∷ bs) e = absurd (put_some b (by_place bs) e)

none_there : (p : Place) (f : Option Fault) → broken_at p f ≡ [] → f ≡ None
none_there p None e = refl
none_there p (Some f) e = cc

no_rule : {A : Type 0} (place : A → Place) (rule : A → Option Fault) (xs : List A) (k : ℕ) (d : A) → first_rules place rule xs ≡ [] → k < length xs → rule (get_or xs k d) ≡ None
no_rule place rule [] k d e lt = absurd (omega (arith, lt))
no_rule place rule (x ∷ xs) zero d e lt = none_there (place x) (rule x) (none_before (broken_at (place x) (rule x)) (first_rules place rule xs) e).0
no_rule place rule (x ∷ xs) (suc k) d e lt =
    no_rule place rule xs k d (none_before (broken_at (place x) (rule x)) (first_rules place rule xs) e).1 (omega (arith, lt))

from_at : (n m k : ℕ) → k < m → get_or (from n m) k 0 ≡ n + k
from_at n zero k lt = absurd (omega (arith, lt))
from_at n (suc m) zero lt = omega arith
from_at n (suc m) (suc k) lt = from_at (suc n) m k (omega (arith, lt)) ∙ omega arith

from_many : (n m : ℕ) → length (from n m) ≡ m
from_many n zero = refl
from_many n (suc m) = ap suc (from_many (suc n) m)

pub no_fault_anywhere : NoFaultAnywhere
no_fault_anywhere runs D ds e k lt =
    let S = system_of D ds in
    let rule : ℕ → Option Fault = λ j. procedure_fault S (D.procs j) (S.procs j) in
    let faults : List Broken = first_rules (λ j. (D.procs j).at) rule (from 0 D.count) in
    let main : List Broken = broken_at (record { file = 0; line = 1 }) (main_fault runs (list_any (λ j. is_main S (D.procs j)) (from 0 D.count))) in
    let none : faults ≡ [] = none_placed faults (none_before main (by_place faults) e).1 in
    let there : k < length (from 0 D.count) = subst (λ n. k < n) (sym (from_many 0 D.count)) lt in
    subst (λ j. rule j ≡ None) (from_at 0 D.count k lt ∙ omega arith)
    (no_rule (λ j. (D.procs j).at) rule (from 0 D.count) k 0 none there)
