-- The clauses of a program's modules, and what typing says of them: the rules T1, T2 and L5. (Mercury
-- Language Reference Manual: Types, overloading; the texts are this project's.)
use Rattle.std.specs.Prelude.{◌≡◌, ℕ, suc, nat_eq, Bool, true, false, List, [], ◌∷◌, ◌++◌, Option, Some, None, codes, decimal, slice_get, slice_index_or, if◌then◌else◌}
use Rattle.std.specs.Option.{option_map}
use Rattle.mc_term_data.specs.Plain.{PlainTerm}
use Rattle.mc_source.specs.declared.name.Name.{Name}
use Rattle.mc_source.specs.declared.name.Candidate.{Candidate}
use Rattle.mc_source.specs.declared.name.Candidate.TheVariants as C
use Rattle.mc_source.specs.declared.place.Place.{Place}
use Rattle.mc_source.specs.declared.rule.Broken.{Broken}
use Rattle.mc_source.specs.declared.rule.Rule.TheVariants as R
use Rattle.mc_source.specs.Rules.{Fault, broken_at}
use Rattle.mc_program.specs.Programs.{Source}
use Rattle.mc_accepted.specs.ProperTypes.{Parameters}
use Rattle.mc_accepted.specs.Resolving.{Unresolved_clause, Resolves, WellTyped, TooMany, FirstTwo, assignments_limit}
use Rattle.mc_decl_syntax.specs.Plain.{PlainDecl, Clause}
use Rattle.mc_names.specs.declared.definition.Kind.{Kind}
use Rattle.mc_names.specs.declared.definition.Kind.TheVariants as K
use Rattle.mc_names.specs.Plain.{PlainDefinition}
use Rattle.mc_defs_uses.specs.Clauses.{clause_of}
use Rattle.mc_decl_syntax.specs.Entries.{File}
use Rattle.mc_names.specs.Linked.{Defined, Linked}
use Rattle.mc_names.specs.Candidates.{fitting}
use Rattle.mc_state_variables.specs.Numbered.{numbered_clause, numbered_goal}
use Rattle.mc_clauses.specs.Unresolved.{Numbered_clause, unresolved_clause, unresolved_query}
use Rattle.mc_declarations.specs.Declarations.{declarations, parameter_counts}

-- THE CLAUSES of a module, each with the number of its predicate.
pub record ModuleClause : Type 0 where
  pub own : ℕ
  pub pred : ℕ
  pub term : PlainTerm
  pub at : Place

-- the first of these that is a predicate, or a function
abbrev pub number_among : Kind → List Candidate → Option ℕ
number_among k [] = None
number_among K.Pred (C.Pred p ∷ cs) = Some p
number_among K.Func (C.Func f ∷ cs) = Some f
number_among k (c ∷ cs) = number_among k cs

-- the number of what a clause is of, which its own module declares
abbrev pub clause_predicate : Linked → (own : ℕ) → Option PlainDefinition → Option ℕ
clause_predicate l own None = None
clause_predicate l own (Some d) =
    number_among d.kind (fitting l true d.id (slice_index_or l.declared own []))

abbrev pub clause_item : (own : ℕ) → Option ℕ → PlainDecl → Place → List ModuleClause
clause_item own (Some p) (Clause t) at =
    record { own = own; pred = p; term = t; at = at } ∷ []
clause_item own _ i at = []

abbrev pub module_clauses : Linked → (own : ℕ) → File → List ModuleClause
module_clauses l own [] = []
module_clauses l own ((i, at) ∷ es) =
    clause_item own (clause_predicate l own (clause_of i)) i at ++ module_clauses l own es

-- those of all modules, which are numbered from own on
abbrev pub clauses_from : Linked → (own : ℕ) → List File → List ModuleClause
clauses_from l own [] = []
clauses_from l own (f ∷ fs) = module_clauses l own f ++ clauses_from l (suc own) fs

-- a clause before its names are resolved, its state variables written out
abbrev pub unresolved_of : Linked → ModuleClause → Numbered_clause
unresolved_of l c = unresolved_clause l c.own c.pred (numbered_clause c.term)

-- WHERE TWO RESOLUTIONS DIFFER.

abbrev pub same_candidate : Candidate → Candidate → Bool
same_candidate (C.Con a) (C.Con b) = nat_eq a b
same_candidate (C.Func a) (C.Func b) = nat_eq a b
same_candidate (C.Pred a) (C.Pred b) = nat_eq a b
same_candidate (C.Char a) (C.Char b) = nat_eq a b
same_candidate _ _ = false

-- the first two picks that differ
abbrev pub first_difference : List Candidate → List Candidate → Option (Candidate × Candidate)
first_difference (a ∷ first) (b ∷ second) =
    if same_candidate a b then first_difference first second else Some (a, b)
first_difference _ _ = None

abbrev pub name_or : (otherwise : List ℕ) → Option Defined → List ℕ
name_or w None = w
name_or w (Some d) = d.name.name

-- the name of what a candidate is; a character is its own
abbrev pub candidate_name : Linked → Candidate → List ℕ
candidate_name l (C.Con s) = name_or [] (slice_get l.symbols s)
candidate_name l (C.Func f) = name_or [] (slice_get l.preds f)
candidate_name l (C.Pred p) = name_or [] (slice_get l.preds p)
candidate_name l (C.Char c) = []

-- `m.n/a`
abbrev pub whole_name : Name → List ℕ
whole_name n = n.«module» ++ (46 ∷ n.name ++ (47 ∷ decimal n.arity))

abbrev pub whole_name_of : Option Defined → List ℕ
whole_name_of None = []
whole_name_of (Some d) = whole_name d.name

-- what a candidate is, in words; a constructor goes by its type
abbrev pub candidate_text : Linked → Source → Candidate → List ℕ
candidate_text l P (C.Con s) =
    codes "constructor of " ++ whole_name_of (slice_get l.types (P.symbols s).of_type)
candidate_text l P (C.Func f) = codes "function " ++ whole_name_of (slice_get l.preds f)
candidate_text l P (C.Pred p) = codes "predicate " ++ whole_name_of (slice_get l.preds p)
candidate_text l P (C.Char c) = codes "character"

-- the name at which two candidates differ: that of the one of them that is no character
abbrev pub either_name : Linked → Candidate → Candidate → List ℕ
either_name l (C.Char c) b = candidate_name l b
either_name l a b = candidate_name l a

abbrev pub difference_by : Linked → Source → Option (Candidate × Candidate) → List ℕ
difference_by l P None = []
difference_by l P (Some (a, b)) =
    codes "two typings differ at "
    ++ (either_name l a b
    ++ (codes ": "
    ++ (candidate_text l P a ++ (codes " or " ++ candidate_text l P b))))

abbrev pub difference : Linked → Source → (first second : List Candidate) → List ℕ
difference l P first second = difference_by l P (first_difference first second)

-- WHAT TYPING SAYS OF A CLAUSE, as its module sees the program's types: that more assignments were
-- live at once than may be, else that none types it, or which are the first two that do.
pub data TypingSays (l : Linked) (P : Source) (D : Parameters) (c : Unresolved_clause) : Option Fault → Type 0 where
  too_many :
      TooMany P D assignments_limit c
      → TypingSays l P D c (Some (R.L5, codes "more than 1024 live type assignments"))
  has_none :
      (TooMany P D assignments_limit c → ⊥)
      → ((picks : List Candidate) → Resolves P D c picks → ⊥)
      → TypingSays l P D c (Some (R.T1, codes "clause has no typing"))
  has_two :
      (TooMany P D assignments_limit c → ⊥)
      → (first second : List Candidate)
      → FirstTwo P D c first second
      → TypingSays l P D c (Some (R.T2, difference l P first second))
  has_one :
      (TooMany P D assignments_limit c → ⊥)
      → WellTyped P D c
      → TypingSays l P D c None

-- what is listed of clauses, the first broken rule of each, in their order
abbrev pub AreTypingFaults :
    {A : Type 0} → (A → Place) → (A → Option Fault → Type 0) → List A → List Broken → Type 0
AreTypingFaults place Says [] listed = listed ≡ []
AreTypingFaults place Says (c ∷ cs) listed =
    (fault : Option Fault)
    × (rest : List Broken)
    × Says c fault
    × AreTypingFaults place Says cs rest
    × (listed ≡ broken_at (place c) fault ++ rest)
