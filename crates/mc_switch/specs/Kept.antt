-- What arms of several disjuncts change: the insts that variables have at the ends of the disjuncts,
-- as they were merged. (Mercury Language Reference Manual: Modes, insts; Determinism, switches.)
use Rattle.std.specs.Prelude.{◌≡◌, ℕ, zero, suc, ◌<◌, Bool, List, [], ◌∷◌, ◌++◌, map, get_or, not, ◌&&◌, ◌||◌, Option, Some, None, false, nat_eq, if◌then◌else◌}
use Rattle.std.specs.List.{list_all}
use Rattle.mc_program.specs.Programs.{TypeTerm}
use Rattle.mc_program.specs.declared.ty.Ty.{Ty}
use Rattle.mc_source.specs.Determinism.{is_zero}
use Rattle.mc_source.specs.declared.det.Det.{Det}
use Rattle.mc_model.specs.declared.sched.Proc.{Proc}
use Rattle.mc_model.specs.Good.{System}
use Rattle.mc_model.specs.Stream.{is_bound}
use Rattle.mc_accepted.specs.MergedArms.{ends}
use Rattle.mc_accepted.specs.Ordered.{Insts}
use Rattle.mc_accepted.specs.Switched.{Kept, goals_of}
use Rattle.mc_insts.specs.Graphs.{count_of}
use Rattle.mc_insts.specs.Growing.{Grown}
use Rattle.mc_procs.specs.Procedures.{PlainProcs, source_of, insts_of, with_insts}
use Rattle.mc_procs.specs.VariableTypes.{type_in}
use Rattle.mc_mode_state.specs.Nodes.{StoodFor}
use Rattle.mc_mode_state.specs.Tables.{Entry, node_in}

-- these are all that inst
abbrev pub all_are : ℕ → List ℕ → Bool
all_are i is = list_all (λ j. nat_eq j i) is

abbrev pub or_none : Option ℕ → ℕ
or_none None = 0
or_none (Some k) = k

-- the inst of a variable from its insts at the ends: the one that they are, or what was found for them
abbrev pub inst_merged : List Entry → (x : ℕ) → List ℕ → ℕ
inst_merged N x [] = 0
inst_merged N x (i ∷ is) = if all_are i (i ∷ is) then i else or_none (node_in N x (i ∷ is))

-- a variable that is bound before or after the whole changes where its inst does
abbrev pub changed_to : (x before merged : ℕ) → (is_bound : Bool) → List (ℕ × ℕ)
changed_to x i k t = if t && not (nat_eq k i) then (x, k) ∷ [] else []

abbrev pub change_of : List Entry → (before after : Insts) → List Insts → ℕ → List (ℕ × ℕ)
change_of N b c es x =
    changed_to x (b x) (inst_merged N x (map (λ (e : Insts). e x) es)) (is_bound (b x) || is_bound (c x))

-- the changes of so many variables, in order; there are none where no end is reachable
abbrev pub changes_of : List Entry → (before after : Insts) → List Insts → (variables : ℕ) → List (ℕ × ℕ)
changes_of N b c es zero = []
changes_of N b c es (suc n) = changes_of N b c es n ++ change_of N b c es n

abbrev pub merged_changes : List Entry → (variables : ℕ) → (before after : Insts) → List Insts → List (ℕ × ℕ)
merged_changes N n b c [] = []
merged_changes N n b c (e ∷ es) = changes_of N b c (e ∷ es) n

-- what is kept of an arm of several disjuncts, among so many variables
abbrev pub kept_by : System → (ℕ → TypeTerm) → List Entry → (variables : ℕ) → (before after : Insts) → Kept
kept_by S T N n b c ds = merged_changes N n b c (ends S T b (goals_of ds))

-- what was found stays found
abbrev pub Extends : (before after : List Entry) → Type 0
Extends N M = (x k : ℕ) (is : List ℕ) → node_in N x is ≡ Some k → node_in M x is ≡ Some k

-- each inst that was found stands for the insts that it was merged from, at the variable's type
abbrev pub AreMerged : PlainProcs → List Ty → List Entry → Type 0
AreMerged q types N =
    (x k : ℕ) (is : List ℕ) → node_in N x is ≡ Some k
    → StoodFor (source_of q) q.insts is k (type_in types x)

-- more was found, and nothing else than before
pub record Merges (q : PlainProcs) (types : List Ty) (before after : List Entry) : Type 0 where
  pub stays : Extends before after
  pub merged : AreMerged q types after

-- whether a procedure is declared to have no answer
abbrev pub has_no_answer : Option Det → Bool
has_no_answer None = false
has_no_answer (Some d) = is_zero d.most

abbrev pub never_answers : List Proc → ℕ → Bool
never_answers ps k = get_or (map (λ (p : Proc). has_no_answer p.declared) ps) k false

-- A system of this program, whose insts are those of the graph or of one that grew from it, and whose
-- procedures have no answer where they are declared to have none.
pub record Suits (q : PlainProcs) (S : System) : Type 0 where
  pub source : S.world.source ≡ source_of q
  pub insts : (i : ℕ) → i < count_of q.insts → S.insts i ≡ insts_of q i
  pub never : (k : ℕ) → is_zero (S.procs k).det.most ≡ never_answers q.added k

-- nothing of procedures changed, but that the graph may have grown
pub record OnlyGrew (q r : PlainProcs) : Type 0 where
  pub others : r ≡ with_insts q r.insts
  pub grown : Grown (source_of q) q.insts r.insts
