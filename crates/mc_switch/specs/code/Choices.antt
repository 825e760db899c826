-- The variables on which a disjunction may be switched, over what is kept of the disjuncts.
use Rattle.std.specs.Prelude.{◌≡◌, ℕ, List, [], ◌∷◌, map, Option, Some, None, Bool, true, not, ◌&&◌, ◌||◌, if◌then◌else◌}
use Rattle.std.specs.List.{list_all}
use Rattle.mc_program.specs.Values.{Val}
use Rattle.mc_program.specs.Programs.{TypeTerm, union_type}
use Rattle.mc_program.specs.declared.builtin.Builtin.{Builtin}
use Rattle.mc_program.specs.declared.ty.Ty.{Ty}
use Rattle.mc_model.specs.Lists.{is_in}
use Rattle.mc_model.specs.Outcomes.{Outcome}
use Rattle.mc_model.specs.Stream.{is_bound}
use Rattle.mc_accepted.specs.Determined.{allows_name, allowed_in}
use Rattle.mc_accepted.specs.Least.{least}
use Rattle.mc_accepted.specs.Switched.{Disjunct, covers, labels_of, misses_none, chosen}
use Rattle.mc_procs.specs.Procedures.{PlainProcs, source_of, insts_of, as_system}
use Rattle.mc_procs.specs.VariableTypes.{type_in}
use Rattle.mc_varset.specs.Members.{has}
use Rattle.mc_switch.specs.declared.disjunct.Opened.{Opened}
use Rattle.mc_switch.specs.declared.opening.Opening.{Opening}
use Rattle.mc_switch.specs.Openings.{plain_openings}
use Rattle.mc_switch.specs.Types.{inst_in}
use Rattle.mc_switch.specs.code.Labels.{is_opened_by}

-- an inst allows a symbol
abbrev pub allows_one : PlainProcs → (inst : ℕ) → ℕ → Bool
allows_one q i s = allows_name (insts_of q i) ((source_of q).symbols s).name

-- each symbol of a list that the inst allows passes a test
abbrev pub none_missed : PlainProcs → (inst : ℕ) → (ℕ → Bool) → List ℕ → Bool
none_missed q i f ss = list_all (λ s. not (allows_one q i s) || f s) ss

-- the number of a union type
abbrev pub union_of : TypeTerm → Option ℕ
union_of (union_type u ts) = Some u
union_of _ = None

-- the variables that the first disjunct opens
abbrev pub first_variables : List Opened → List ℕ
first_variables [] = []
first_variables (o ∷ os) = map (λ (o : Opening). o.variable) o.opens

-- a variable is bound, is not left out, and each disjunct opens it
abbrev pub may_be : List ℕ → List Bool → List Opened → ℕ → Bool
may_be insts out os x =
    is_bound (inst_in insts x) && (not (has out x) && list_all (is_opened_by x) os)

-- those of a list that pass a test
abbrev pub those_that : (ℕ → Bool) → List ℕ → List ℕ
those_that f [] = []
those_that f (x ∷ xs) = if f x then x ∷ those_that f xs else those_that f xs

-- what is kept of disjuncts is what these open
abbrev pub Opens : List Disjunct → List Opened → Type 0
Opens [] [] = Unit {0}
Opens (d ∷ ds) (o ∷ os) = (d.opens ≡ plain_openings o.opens) × Opens ds os
Opens ds os = ⊥

-- the disjuncts miss no symbol of a variable of this type and inst, whatever builtins do
abbrev pub Covers : PlainProcs → TypeTerm → (inst : ℕ) → List Opened → ℕ → Bool → Type 0
Covers q t i os x answer =
    (outcome : Builtin → List Val → Outcome) (type : ℕ → TypeTerm) (ds : List Disjunct)
    → Opens ds os
    → answer
    ≡ covers (as_system outcome q) type (allowed_in (as_system outcome q) type t i) (labels_of x ds)

-- the disjuncts miss no symbol of a variable, whatever builtins do
abbrev pub MissesNone : PlainProcs → List Ty → List ℕ → List Opened → ℕ → Bool → Type 0
MissesNone q types insts os x answer =
    (outcome : Builtin → List Val → Outcome) (ds : List Disjunct)
    → Opens ds os
    → answer ≡ misses_none (as_system outcome q) (type_in types) (inst_in insts) ds x

-- the least of those of a list of which that holds
abbrev pub IsLeastOf : PlainProcs → List Ty → List ℕ → List Opened → List ℕ → Option ℕ → Type 0
IsLeastOf q types insts os xs answer =
    (outcome : Builtin → List Val → Outcome) (ds : List Disjunct)
    → Opens ds os
    → answer ≡ least (misses_none (as_system outcome q) (type_in types) (inst_in insts) ds) xs

-- a set holds what a list holds
abbrev pub AreSame : List ℕ → List Bool → Type 0
AreSame out set = (x : ℕ) → is_in x out ≡ has set x

-- the variable that is chosen where the variables of a set are left out
abbrev pub IsChosenOf :
    PlainProcs → List Ty → List ℕ → (out : List Bool) → List Opened → Option ℕ → Type 0
IsChosenOf q types insts set os answer =
    (outcome : Builtin → List Val → Outcome) (out : List ℕ) (ds : List Disjunct)
    → AreSame out set
    → Opens ds os
    → answer ≡ chosen (as_system outcome q) (type_in types) out (inst_in insts) ds

-- a variable that may be chosen, where there is one
abbrev pub MayBe : List ℕ → List Bool → List Opened → Option ℕ → Type 0
MayBe insts out os None = Unit {0}
MayBe insts out os (Some x) = may_be insts out os x ≡ true
