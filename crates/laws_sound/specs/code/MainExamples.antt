-- Programs with io that meet what is asked: `main(!IO) :- io.nl(!IO).`, and one whose main lends
-- its state.
use Rattle.std.specs.Prelude.{◌≡◌, ℕ, List, [], ◌∷◌, if◌then◌else◌, nat_eq, Some, None, true, false, codes}
use Rattle.mc_program.specs.Values.{Val, state}
use Rattle.mc_program.specs.Programs.{state_type, variable, expressions, Call, And, no_formulas, formula_then, Predicate, Source}
use Rattle.mc_model.specs.EventList.{End, Answer, Called, Wrote}
use Rattle.mc_model.specs.Outcomes.{Outcome}
use Rattle.mc_model.specs.Builtins.{outcome}
use Rattle.mc_model.specs.Worlds.{library_name}
use Rattle.mc_model.specs.Scheduled as S
use Rattle.mc_model.specs.Scheduled.{Node, node, nodes, Procedure}
use Rattle.mc_model.specs.Stream.{run_call}
use Rattle.mc_model.specs.Good.{System}
use Rattle.mc_accepted.specs.BuiltinTypes.{builtin_name}
use Rattle.mc_accepted.specs.Fits.{Fits}
use Rattle.mc_accepted.specs.Accepted.{Accepted}
use Rattle.mc_program.specs.declared.builtin.Builtin.{Builtin}
use Rattle.mc_program.specs.declared.builtin.Builtin.TheVariants as B
use Rattle.laws_sound.specs.code.Examples.{det, symbols, symbols_of, parameters, library, graph}

abbrev pub main_pred : Predicate
main_pred =
    record {
      name = library_name (codes "lines") (codes "main") 2;
      types = state_type ∷ state_type ∷ [];
      clauses =
          record {
            head = variable 0 ∷ variable 1 ∷ [];
            body = Call 9 (expressions (variable 0 ∷ variable 1 ∷ []));
          } ∷ [];
      builtin = None;
    }

abbrev pub line_pred : Predicate
line_pred =
    record {
      name = (builtin_name B.Nl).name;
      types = state_type ∷ state_type ∷ [];
      clauses = [];
      builtin = Some B.Nl;
    }

abbrev pub line_source : Source
line_source =
    record {
      symbols = symbols;
      symbols_of = symbols_of;
      preds = λ k. if nat_eq k 9 then line_pred else main_pred;
    }

-- `main(di, uo) is det`
abbrev pub main_procedure : Procedure
main_procedure =
    record {
      pred = 0;
      head = 0 ∷ 1 ∷ [];
      first = 2 ∷ 0 ∷ [];
      last = 3 ∷ 2 ∷ [];
      body = node (S.Apply B.Nl (0 ∷ []) (1 ∷ [])) ((0, 3) ∷ (1, 2) ∷ []) det false;
      det = det;
      var_types = state_type ∷ state_type ∷ [];
    }

-- the program, over what its builtins do
abbrev pub lines_over : (Builtin → List Val → Outcome) → System
lines_over o =
    record {
      world = record { source = line_source; outcome = o };
      count = 1;
      procs = λ k. main_procedure;
      insts = graph;
    }

abbrev pub lines : System
lines = lines_over (outcome library [])

-- it fits and is accepted
abbrev pub LinesFit : Type 0
LinesFit = Fits lines parameters × Accepted lines

-- its run writes the end of a line, which its last state has
abbrev pub LineIsWritten : Type 0
LineIsWritten =
    run_call (outcome library []) (λ k. main_procedure) 9 9 0 (Some (state [] 0) ∷ None ∷ [])
    ≡ Called (record { proc = 0; args = Some (state [] 0) ∷ None ∷ [] })
    (Wrote (10 ∷ []) (Answer (Some (state [] 0) ∷ Some (state (10 ∷ []) 0) ∷ []) End))

-- `:- pred peek(io::in(unique)) is det. peek(_).`
abbrev pub peek_pred : Predicate
peek_pred =
    record {
      name = library_name (codes "peeks") (codes "peek") 1;
      types = state_type ∷ [];
      clauses = record { head = variable 0 ∷ []; body = And no_formulas } ∷ [];
      builtin = None;
    }

-- `main(!IO) :- peek(!.IO), io.nl(!IO).`
abbrev pub peeking_pred : Predicate
peeking_pred =
    record {
      name = library_name (codes "peeks") (codes "main") 2;
      types = state_type ∷ state_type ∷ [];
      clauses =
          record {
            head = variable 0 ∷ variable 1 ∷ [];
            body =
                And
                (formula_then (Call 1 (expressions (variable 0 ∷ [])))
                (formula_then (Call 9 (expressions (variable 0 ∷ variable 1 ∷ []))) no_formulas));
          } ∷ [];
      builtin = None;
    }

abbrev pub peek_source : Source
peek_source =
    record {
      symbols = symbols;
      symbols_of = symbols_of;
      preds = λ k. if nat_eq k 9 then line_pred else if nat_eq k 1 then peek_pred else peeking_pred;
    }

-- its state is unique at the call and at an answer: it is lent
abbrev pub peek_procedure : Procedure
peek_procedure =
    record {
      pred = 1;
      head = 0 ∷ [];
      first = 2 ∷ [];
      last = 2 ∷ [];
      body = node (S.Conj (nodes [])) [] det true;
      det = det;
      var_types = state_type ∷ [];
    }

abbrev pub peek_call : Node
peek_call = node (S.Call 1 (0 ∷ []) [] false) [] det true

abbrev pub line_call : Node
line_call = node (S.Apply B.Nl (0 ∷ []) (1 ∷ [])) ((0, 3) ∷ (1, 2) ∷ []) det false

abbrev pub peeking_procedure : Procedure
peeking_procedure =
    record {
      pred = 0;
      head = 0 ∷ 1 ∷ [];
      first = 2 ∷ 0 ∷ [];
      last = 3 ∷ 2 ∷ [];
      body =
          node (S.Conj (nodes (peek_call ∷ line_call ∷ []))) ((0, 3) ∷ (1, 2) ∷ []) det false;
      det = det;
      var_types = state_type ∷ state_type ∷ [];
    }

abbrev pub peek_procedures : ℕ → Procedure
peek_procedures k = if nat_eq k 1 then peek_procedure else peeking_procedure

abbrev pub peeks : System
peeks =
    record {
      world = record { source = peek_source; outcome = outcome library [] };
      count = 2;
      procs = peek_procedures;
      insts = graph;
    }

-- it fits and is accepted
abbrev pub PeeksFit : Type 0
PeeksFit = Fits peeks parameters × Accepted peeks

-- what is lent writes nothing
abbrev pub OneLineIsWritten : Type 0
OneLineIsWritten =
    run_call (outcome library []) peek_procedures 9 9 0 (Some (state [] 0) ∷ None ∷ [])
    ≡ Called (record { proc = 0; args = Some (state [] 0) ∷ None ∷ [] })
    (Called (record { proc = 1; args = Some (state [] 0) ∷ [] })
    (Wrote (10 ∷ []) (Answer (Some (state [] 0) ∷ Some (state (10 ∷ []) 0) ∷ []) End)))
