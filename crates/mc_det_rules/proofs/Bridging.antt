-- Procedures with their own determinisms make the system of all rules; and rules, procedure by procedure.
use Rattle.std.proofs.Math.Path.{fun_ext}
use Rattle.std.proofs.Common.{◌≡◌, ℕ, zero, suc, ◌+◌, ◌<◌, List, [], ◌∷◌, ◌++◌, length, get_or, map, append_assoc, Option, Some, None, refl, sym, ap, ◌∙◌, arith}
use Rattle.std.specs.Option.{option_or}
use Rattle.mc_source.specs.Rules.{Fault, broken_at, first_rules}
use Rattle.mc_source.specs.declared.place.Place.{Place}
use Rattle.mc_source.specs.declared.rule.Broken.{Broken}
use Rattle.mc_program.specs.Values.{Val}
use Rattle.mc_program.specs.declared.builtin.Builtin.{Builtin}
use Rattle.mc_model.specs.Lists.{from}
use Rattle.mc_model.specs.Outcomes.{Outcome}
use Rattle.mc_model.specs.Scheduled.{Procedure}
use Rattle.mc_model.specs.declared.sched.Proc.{Proc}
use Rattle.mc_accepted.specs.Inferred.{system_of}
use Rattle.mc_procs.specs.Procedures.{PlainProcs, as_system, procedure_at}
use Rattle.mc_det_constraints.specs.Least.{assigned}
use Rattle.mc_det.specs.Determinisms.{declared_procedure, declared_system}
use Rattle.mc_det.specs.MarkedProcedures.{determinisms_of}

at_number : (ps : List Proc) (k : ℕ) → record ((declared_procedure ps k).procedure) { det = assigned (map (λ (p : Proc). p.det) ps) k } ≡ procedure_at ps k
at_number [] k = refl
at_number (p ∷ ps) zero = refl
at_number (p ∷ ps) (suc k) = at_number ps k

pub as_it_stands : (outcome : Builtin → List Val → Outcome) (q : PlainProcs) → system_of (declared_system outcome q) (assigned (determinisms_of q)) ≡ as_system outcome q
as_it_stands outcome q =
    ap (λ (procs : ℕ → Procedure). record (as_system outcome q) { procs = procs }) (fun_ext (at_number q.added))

-- the first of several rules
pub first_one : (f : Fault) (a b : Option Fault) → Some f ≡ a → Some f ≡ option_or a b
first_one f a b e = ap (λ (o : Option Fault). option_or o b) e

pub next_one : (r a b : Option Fault) → None ≡ a → r ≡ b → r ≡ option_or a b
next_one r a b e h = h ∙ ap (λ (o : Option Fault). option_or o b) e

-- where a procedure is declared
pub place_is : (ps : List Proc) (k : ℕ) (d : Proc) → k < length ps → (get_or ps k d).at ≡ (declared_procedure ps k).at
place_is [] k d lt = absurd (omega arith)
place_is (p ∷ ps) zero d lt = refl
place_is (p ∷ ps) (suc k) d lt = place_is ps k d (omega arith)

-- rules, item by item
module _ (place : ℕ → Place) (rule : ℕ → Option Fault) where
  abbrev listed : List ℕ → List Broken
  listed = first_rules place rule

  both_listed : (xs ys : List ℕ) → listed (xs ++ ys) ≡ listed xs ++ listed ys
  both_listed [] ys = refl
  both_listed (x ∷ xs) ys =
      ap (λ (l : List Broken). broken_at (place x) (rule x) ++ l) (both_listed xs ys)
      ∙ sym (append_assoc (broken_at (place x) (rule x)) (listed xs) (listed ys))

  one_more : (n k : ℕ) → from n (suc k) ≡ from n k ++ (n + k) ∷ []
  one_more n zero = ap (λ m. m ∷ []) (omega arith)
  one_more n (suc k) = ap (λ (l : List ℕ). n ∷ l) (one_more (suc n) k ∙ ap (λ m. from (suc n) k ++ m ∷ []) (omega arith))

  no_more : (xs : List Broken) → xs ++ [] ≡ xs
  no_more [] = refl
  no_more (x ∷ xs) = ap (λ (l : List Broken). x ∷ l) (no_more xs)

  pub one_listed : (k : ℕ) (before after : List Broken) (at : Place) (fault : Option Fault) → before ≡ first_rules place rule (from 0 k) → at ≡ place k → fault ≡ rule k → after ≡ before ++ broken_at at fault → after ≡ first_rules place rule (from 0 (k + 1))
  one_listed k before after at fault e p f h =
      h
      ∙ ap (λ (l : List Broken). l ++ broken_at at fault) e
      ∙ ap (λ (a : Place). listed (from 0 k) ++ broken_at a fault) p
      ∙ ap (λ (o : Option Fault). listed (from 0 k) ++ broken_at (place k) o) f
      ∙ ap (λ (l : List Broken). listed (from 0 k) ++ l) (sym (no_more (broken_at (place k) (rule k))))
      ∙ sym (both_listed (from 0 k) (k ∷ []))
      ∙ ap listed (ap (λ m. from 0 k ++ m ∷ []) (let e : k ≡ 0 + k = omega arith in e) ∙ sym (one_more 0 k) ∙ ap (from 0) (let e : suc k ≡ k + 1 = omega arith in e))
