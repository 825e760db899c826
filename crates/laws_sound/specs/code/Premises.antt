-- What the theorem's premises turn away: each example holds of the system of sums, and not where
-- one thing is turned. Beside some stands what goes wrong in a run.
use Rattle.std.specs.Prelude.{◌≡◌, ◌≢◌, ℕ, ◌<◌, List, [], ◌∷◌, map, length, if◌then◌else◌, nat_eq, Option, Some, None, Bool, true, false, pos, codes}
use Rattle.mc_program.specs.Values.{Val, int, char, state}
use Rattle.mc_program.specs.Programs.{TypeTerm, int_type, char_type, state_type, variable_type, variable, constant, expressions, Call, And, no_formulas, formula_then, ClauseForm, Predicate, Source}
use Rattle.mc_model.specs.Insts.{ground, Graph}
use Rattle.mc_model.specs.EventList.{End, Called}
use Rattle.mc_model.specs.Outcomes.{Outcome, gives}
use Rattle.mc_model.specs.Builtins.{outcome}
use Rattle.mc_model.specs.Worlds.{library_name}
use Rattle.mc_model.specs.Scheduled as S
use Rattle.mc_model.specs.Scheduled.{for_symbol, Node, node, Procedure, nodes}
use Rattle.mc_model.specs.Stream.{run_call}
use Rattle.mc_model.specs.Good.{System, GoodProcedures}
use Rattle.mc_source.specs.declared.det.Det.{Det}
use Rattle.mc_source.specs.declared.det.Most.TheVariants.{Zero}
use Rattle.mc_accepted.specs.BuiltinFits.{FitsBuiltins}
use Rattle.mc_accepted.specs.BuiltinTypes.{Library_types, HasBuiltins, builtin_name, builtin_types}
use Rattle.mc_accepted.specs.IoFits.{FitsIo}
use Rattle.mc_accepted.specs.ProperTypes.{ProperType}
use Rattle.mc_accepted.specs.Tidy.{EachTidy}
use Rattle.mc_accepted.specs.Typing.{TypedGoal}
use Rattle.mc_accepted.specs.Fits.{FitsInsts, FitsTypes, EachClauseHasScopes, HeadsHave, goal_of, type_of, FitsProcedure}
use Rattle.mc_accepted.specs.Ordered.{Opens}
use Rattle.mc_accepted.specs.Accepted.{AcceptedProcedure, Accepted}
use Rattle.mc_program.specs.declared.builtin.Builtin.{Builtin}
use Rattle.mc_program.specs.declared.builtin.Builtin.TheVariants as B
use Rattle.laws_sound.specs.BuiltinLaws.{MakesTypes}
use Rattle.laws_sound.specs.code.Examples.{det, semidet, symbols, symbols_of, parameters, library, library_types, sum_pred, plus_pred, source, graph, sum, sum_procedure, sums}
use Rattle.laws_sound.specs.code.MainExamples.{line_pred, main_procedure, lines_over}

-- an inst: the third builtin one is `unique`
abbrev pub shared_graph : Graph
shared_graph i = if nat_eq i 2 then ground else graph i

abbrev pub InstsAreAsked : Type 0
InstsAreAsked = FitsInsts graph × (FitsInsts shared_graph → ⊥)

-- a list of symbols: that of lists has both of its constructors, where a builtin makes lists
abbrev pub characters_pred : Predicate
characters_pred =
    record {
      name = (builtin_name B.ToCharList).name;
      types = builtin_types library_types B.ToCharList;
      clauses = [];
      builtin = Some B.ToCharList;
    }

abbrev pub characters_over : (ℕ → List ℕ) → Source
characters_over listed =
    record {
      symbols = symbols;
      symbols_of = listed;
      preds = λ k. if nat_eq k 9 then characters_pred else sum_pred;
    }

abbrev pub short_lists : ℕ → List ℕ
short_lists u = if nat_eq u 0 then 0 ∷ [] else symbols_of u

abbrev pub SymbolsAreAsked : Type 0
SymbolsAreAsked =
    MakesTypes (characters_over symbols_of) library library_types
    × (MakesTypes (characters_over short_lists) library library_types → ⊥)

-- a builtin: what is named `+` adds
abbrev pub minus_pred : Predicate
minus_pred =
    record {
      name = plus_pred.name;
      types = plus_pred.types;
      clauses = [];
      builtin = Some B.IntMinus;
    }

abbrev pub minus_source : Source
minus_source =
    record {
      symbols = symbols;
      symbols_of = symbols_of;
      preds = λ k. if nat_eq k 9 then minus_pred else sum_pred;
    }

abbrev pub BuiltinsAreAsked : Type 0
BuiltinsAreAsked = HasBuiltins source library_types × (HasBuiltins minus_source library_types → ⊥)

-- the procedure with the determinism that it declares, the one that is kept of its test, and the
-- mark of its body
abbrev pub turned : (declared of_test : Det) (is_pruned : Bool) → Procedure
turned declared of_test is_pruned =
    record {
      pred = 0;
      head = sum_procedure.head;
      first = sum_procedure.first;
      last = sum_procedure.last;
      body =
          node (S.Conj (nodes (sum ∷ node (S.Test 3 2) [] of_test true ∷ []))) ((3, 1) ∷ [])
          semidet is_pruned;
      det = declared;
      var_types = sum_procedure.var_types;
    }

-- a determinism: the test can fail, and so can the procedure
abbrev pub DeterminismsAreAsked : Type 0
DeterminismsAreAsked =
    AcceptedProcedure sums (turned semidet semidet true)
    × (AcceptedProcedure sums (turned semidet det true) → ⊥)
    × (AcceptedProcedure sums (turned det semidet true) → ⊥)

-- (one and two aren't four: the run ends without an answer)
abbrev pub numbers : (x y z : ℕ) → List (Option Val)
numbers x y z = Some (int (pos x)) ∷ Some (int (pos y)) ∷ Some (int (pos z)) ∷ []

abbrev pub SumsFail : Type 0
SumsFail =
    run_call (outcome library []) (λ k. turned det semidet true) 9 9 0 (numbers 1 2 4)
    ≡ Called (record { proc = 0; args = numbers 1 2 4 }) End

-- a mark: nothing that occurs outside the body is bound by it, so it is pruned
abbrev pub MarksAreAsked : Type 0
MarksAreAsked =
    AcceptedProcedure sums (turned semidet semidet true)
    × (AcceptedProcedure sums (turned semidet semidet false) → ⊥)

-- an arm: before it takes its variable apart it calls nothing
abbrev pub taken : Node
taken = node (S.Take 0 1 (3 ∷ 4 ∷ [])) ((3, 1) ∷ (4, 1) ∷ []) det false

abbrev pub asked : Node
asked = node (S.Call 0 (1 ∷ 1 ∷ 1 ∷ []) [] false) [] semidet true

abbrev pub arm_of : List Node → Node
arm_of ns = node (S.Conj (nodes ns)) ((3, 1) ∷ (4, 1) ∷ []) semidet false

abbrev pub ArmsAreAsked : Type 0
ArmsAreAsked =
    Opens 0 (for_symbol 1) (arm_of (taken ∷ asked ∷ []))
    × (Opens 0 (for_symbol 1) (arm_of (asked ∷ taken ∷ [])) → ⊥)

-- io's builtins: those that give a state of one line more and write nothing
abbrev pub silent : Builtin → List Val → Outcome
silent op vs = gives (state (10 ∷ []) 0 ∷ [])

abbrev pub silent_lines : System
silent_lines = lines_over silent

-- all else that is asked holds of `main(!IO) :- io.nl(!IO).` over them; it writes nothing of what
-- its last state has gained
abbrev pub IoIsAsked : Type 0
IoIsAsked =
    FitsInsts silent_lines.insts
    × FitsTypes silent_lines.world.source parameters
    × FitsBuiltins silent_lines.world
    × FitsProcedure silent_lines parameters main_procedure
    × Accepted silent_lines
    × ((K : Library_types) → FitsIo silent_lines.world K → ⊥)
    × (GoodProcedures silent_lines → ⊥)

-- what is asked of a procedure besides that it is accepted: its clauses' heads and scopes, the types
-- of its variables, of its head and of its atoms, the insts of its mode, and that its predicate has
-- no builtin
pub data Asked : Type 0 where
  its_heads : Asked
  its_scopes : Asked
  its_types : Asked
  its_head_types : Asked
  its_atoms : Asked
  its_insts : Asked
  its_predicate : Asked

abbrev pub Asks : System → Procedure → Asked → Type 0
Asks S p its_heads =
    HeadsHave (length (S.world.source.preds p.pred).types) (S.world.source.preds p.pred).clauses
Asks S p its_scopes = EachClauseHasScopes (S.world.source.preds p.pred).clauses
Asks S p its_types = (x : ℕ) → ProperType parameters (type_of S p x)
Asks S p its_head_types = map (type_of S p) p.head ≡ (S.world.source.preds p.pred).types
Asks S p its_atoms = TypedGoal S.world.source (type_of S p) (goal_of S p).body
Asks S p its_insts =
    EachTidy S.world.source S.insts p.first (S.world.source.preds p.pred).types
    × EachTidy S.world.source S.insts p.last (S.world.source.preds p.pred).types
Asks S p its_predicate = (S.world.source.preds p.pred).builtin ≡ None

-- all but one thing that is asked holds of a system, and its procedures aren't good
abbrev pub NeededFor : System → Asked → Type 0
NeededFor S a =
    FitsInsts S.insts
    × FitsTypes S.world.source parameters
    × FitsBuiltins S.world
    × ((K : Library_types) × FitsIo S.world K)
    × ((k : ℕ) → k < S.count → (b : Asked) → b ≢ a → Asks S (S.procs k) b)
    × Accepted S
    × (GoodProcedures S → ⊥)

-- one procedure, over the real builtins
abbrev pub alone : Source → Procedure → System
alone P p =
    record {
      world = record { source = P; outcome = outcome library [] };
      count = 1;
      procs = λ k. p;
      insts = graph;
    }

-- `:- pred p(int).` with one clause
abbrev pub one_clause : ClauseForm → Source
one_clause c =
    record {
      symbols = symbols;
      symbols_of = symbols_of;
      preds =
          λ k.
          record {
            name = library_name (codes "premises") (codes "p") 1;
            types = int_type ∷ [];
            clauses = c ∷ [];
            builtin = None;
          };
    }

-- the head's types, and the atoms': `p('c').`, whose argument is declared an integer, gives a
-- character; its variable is taken for a character, which the head's type isn't, or for an integer,
-- which the atom's isn't
abbrev pub char_procedure : TypeTerm → Procedure
char_procedure t =
    record {
      pred = 0;
      head = 0 ∷ [];
      first = 0 ∷ [];
      last = 1 ∷ [];
      body = node (S.Const 0 (char 99)) ((0, 1) ∷ []) det false;
      det = det;
      var_types = t ∷ [];
    }

abbrev pub chars : TypeTerm → System
chars t =
    alone (one_clause (record { head = constant (char 99) ∷ []; body = And no_formulas }))
    (char_procedure t)

abbrev pub HeadTypesAreAsked : Type 0
HeadTypesAreAsked = NeededFor (chars char_type) its_head_types

abbrev pub AtomsAreAsked : Type 0
AtomsAreAsked = NeededFor (chars int_type) its_atoms

-- the heads: `p.` says nothing of `p(X)`, which succeeds
abbrev pub true_procedure : Procedure
true_procedure =
    record {
      pred = 0;
      head = 0 ∷ [];
      first = 1 ∷ [];
      last = 1 ∷ [];
      body = node (S.Conj (nodes [])) [] det true;
      det = det;
      var_types = int_type ∷ [];
    }

abbrev pub headless : System
headless = alone (one_clause (record { head = []; body = And no_formulas })) true_procedure

abbrev pub HeadsAreAsked : Type 0
HeadsAreAsked = NeededFor headless its_heads

-- a goal that fails
abbrev pub failure : Det
failure = record { can_fail = true; most = Zero; committed = false }

-- the predicate: `+` has no clauses, so a procedure of it fails where the builtin gives the sum
abbrev pub plus_procedure : Procedure
plus_procedure =
    record {
      pred = 9;
      head = sum_procedure.head;
      first = sum_procedure.first;
      last = sum_procedure.last;
      body = node (S.Disj (nodes [])) [] failure false;
      det = failure;
      var_types = sum_procedure.var_types;
    }

abbrev pub PredicatesAreAsked : Type 0
PredicatesAreAsked = NeededFor (alone source plus_procedure) its_predicate

-- the insts: `copy(X, X, _).` takes a unique value of any type and gives it again, so that of
-- `main(S0, S) :- copy(S0, S, S1), io.nl(S0, S1).` the last state hasn't gained what is written
abbrev pub copy_pred : Predicate
copy_pred =
    record {
      name = library_name (codes "premises") (codes "copy") 3;
      types = variable_type 0 ∷ variable_type 0 ∷ variable_type 0 ∷ [];
      clauses =
          record {
            head = variable 0 ∷ variable 0 ∷ variable 1 ∷ [];
            body = And no_formulas;
          } ∷ [];
      builtin = None;
    }

abbrev pub copying_pred : Predicate
copying_pred =
    record {
      name = library_name (codes "premises") (codes "main") 2;
      types = state_type ∷ state_type ∷ [];
      clauses =
          record {
            head = variable 0 ∷ variable 1 ∷ [];
            body =
                And
                (formula_then (Call 1 (expressions (variable 0 ∷ variable 1 ∷ variable 2 ∷ [])))
                (formula_then (Call 9 (expressions (variable 0 ∷ variable 2 ∷ []))) no_formulas));
          } ∷ [];
      builtin = None;
    }

abbrev pub copy_source : Source
copy_source =
    record {
      symbols = symbols;
      symbols_of = symbols_of;
      preds = λ k. if nat_eq k 9 then line_pred else if nat_eq k 1 then copy_pred else copying_pred;
    }

-- `copy(unique >> unique, free >> unique, free >> free)`
abbrev pub copy_procedure : Procedure
copy_procedure =
    record {
      pred = 1;
      head = 0 ∷ 1 ∷ 2 ∷ [];
      first = 2 ∷ 0 ∷ 0 ∷ [];
      last = 2 ∷ 2 ∷ 0 ∷ [];
      body = node (S.Assign 1 0) ((1, 2) ∷ []) det false;
      det = det;
      var_types = variable_type 0 ∷ variable_type 0 ∷ variable_type 0 ∷ [];
    }

abbrev pub copy_call : Node
copy_call = node (S.Call 1 (0 ∷ 1 ∷ 2 ∷ []) [] false) ((1, 2) ∷ []) det false

abbrev pub line_call : Node
line_call = node (S.Apply B.Nl (0 ∷ []) (2 ∷ [])) ((0, 3) ∷ (2, 2) ∷ []) det false

abbrev pub copying_procedure : Procedure
copying_procedure =
    record {
      pred = 0;
      head = 0 ∷ 1 ∷ [];
      first = 2 ∷ 0 ∷ [];
      last = 3 ∷ 2 ∷ [];
      body =
          node (S.Conj (nodes (copy_call ∷ line_call ∷ []))) ((0, 3) ∷ (1, 2) ∷ (2, 2) ∷ []) det
          false;
      det = det;
      var_types = state_type ∷ state_type ∷ state_type ∷ [];
    }

abbrev pub copies : System
copies =
    record {
      world = record { source = copy_source; outcome = outcome library [] };
      count = 2;
      procs = λ k. if nat_eq k 1 then copy_procedure else copying_procedure;
      insts = graph;
    }

abbrev pub UniqueInstsAreAsked : Type 0
UniqueInstsAreAsked = NeededFor copies its_insts
