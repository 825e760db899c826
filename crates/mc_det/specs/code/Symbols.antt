-- Which symbols a switch misses, and whether an inst allows one symbol alone.
use Rattle.std.specs.Prelude.{◌≡◌, ℕ, nat_eq, List, Option, Some, None, Bool, false, not, ◌&&◌}
use Rattle.std.specs.List.{list_any}
use Rattle.mc_program.specs.Values.{Val}
use Rattle.mc_program.specs.Programs.{TypeTerm, union_type}
use Rattle.mc_program.specs.declared.builtin.Builtin.{Builtin}
use Rattle.mc_model.specs.Outcomes.{Outcome}
use Rattle.mc_model.specs.Scheduled.{Label, for_symbol, for_constant, Arms}
use Rattle.mc_model.specs.PlainGoals.{plain_label}
use Rattle.mc_model.specs.declared.sched.Arm.{Arm}
use Rattle.mc_accepted.specs.Determined.{allows_name, allowed_in, misses, is_alone}
use Rattle.mc_procs.specs.Procedures.{PlainProcs, source_of, insts_of, as_system}

-- an inst allows a symbol
abbrev pub allows_one : PlainProcs → (inst : ℕ) → ℕ → Bool
allows_one q i s = allows_name (insts_of q i) ((source_of q).symbols s).name

-- an arm is for a symbol
abbrev pub is_for : (symbol : ℕ) → Label → Bool
is_for s (for_symbol f) = nat_eq f s
is_for s (for_constant v) = false

abbrev pub arm_for : (symbol : ℕ) → List Arm → Bool
arm_for s arms = list_any (λ (a : Arm). is_for s (plain_label a.on)) arms

-- a symbol of a list is allowed and has no arm; one is allowed and is another
abbrev pub one_missed : PlainProcs → (inst : ℕ) → List Arm → List ℕ → Bool
one_missed q i arms ss = list_any (λ s. allows_one q i s && not (arm_for s arms)) ss

abbrev pub another : PlainProcs → (inst symbol : ℕ) → List ℕ → Bool
another q i s ss = list_any (λ f. not (nat_eq f s) && allows_one q i f) ss

abbrev pub one_allowed : PlainProcs → (inst : ℕ) → List ℕ → Bool
one_allowed q i ss = list_any (allows_one q i) ss

-- the number of a union type
abbrev pub union_of : TypeTerm → Option ℕ
union_of (union_type u ts) = Some u
union_of _ = None

-- the same of the table, whatever builtins do and variables' types are
abbrev pub Missed : PlainProcs → TypeTerm → (inst : ℕ) → Arms → Bool → Type 0
Missed q t i arms answer =
    (outcome : Builtin → List Val → Outcome) (type : ℕ → TypeTerm)
    → answer
    ≡ misses (as_system outcome q) type (allowed_in (as_system outcome q) type t i) arms

abbrev pub Alone : PlainProcs → TypeTerm → (inst symbol : ℕ) → Bool → Type 0
Alone q t i s answer =
    (outcome : Builtin → List Val → Outcome) (type : ℕ → TypeTerm)
    → answer
    ≡ is_alone (as_system outcome q) type s (allowed_in (as_system outcome q) type t i)
