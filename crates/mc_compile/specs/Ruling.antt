-- The phases of a program with rules: its insts, its declared modes, and its procedures. (Mercury
-- Language Reference Manual: Modes; Determinism; the query is this project's.)
use Rattle.std.specs.Prelude.{◌≡◌, ℕ, Bool, true, false, List, [], ◌∷◌, ◌++◌, map, length, Option, Some, None, Result, Ok, Err}
use Rattle.std.specs.Option.{is_some, option_map, option_to_list}
use Rattle.mc_term_data.specs.Plain.{PlainTerm}
use Rattle.mc_source.specs.declared.rule.Broken.{Broken}
use Rattle.mc_source.specs.declared.det.Det.{Det}
use Rattle.mc_source.specs.declared.det.Most.TheVariants as M
use Rattle.mc_state_variables.specs.Numbered.{line_of}
use Rattle.mc_model.specs.declared.inst.Sig.{Sig}
use Rattle.mc_type_table.specs.Visibility.{definitions_seen}
use Rattle.mc_goals.specs.Resolved.{typed_clause}
use Rattle.mc_type_phase.specs.Judging.{AreTyped}
use Rattle.mc_type_phase.specs.declared.judged.TypedClause.{TypedClause}
use Rattle.mc_inst_table.specs.Rules.{items_from, AreInstFaults}
use Rattle.mc_signatures.specs.WrittenModes.{declared_modes}
use Rattle.mc_insts.specs.Defining.{plain_definitions, DefinitionsFit}
use Rattle.mc_signatures.specs.MeantModes.{MeansMode}
use Rattle.mc_signatures.specs.Signatures.{AreSignatures, builtin_of, query_signature}
use Rattle.mc_procs.specs.Procedures.{PlainProcs}
use Rattle.mc_modes.specs.Numbering.{mode_ids}
use Rattle.mc_det_rules.specs.Main.{main_number}
use Rattle.mc_analysis.specs.Rules.{AnalysisGives}
use Rattle.mc_analysis.specs.declared.rules.AnalysisResult.{AnalysisResult}
use Rattle.mc_analysis.specs.declared.rules.AnalysisResult.TheVariants as R
use Rattle.mc_core_program.specs.Wholes.{IsWhole}
use Rattle.mc_accepted.specs.NormalTypes as N
use Rattle.mc_core_program.specs.declared.whole_program_program.WholeProgram.{WholeProgram}
use Rattle.mc_compile.specs.declared.executable.Executable.{Executable}
use Rattle.mc_compile.specs.declared.executable.Goal.{Goal}
use Rattle.mc_compile.specs.declared.executable.Goal.TheVariants as G
use Rattle.mc_compile.specs.declared.moded.Moded.{Moded}
use Rattle.mc_compile.specs.Phases.{Refusal, Breaks, unless_broken, Then}
use Rattle.mc_compile.specs.Sources.{Sources}
use Rattle.mc_compile.specs.Linking.{PlainNamed}
use Rattle.mc_compile.specs.Typing.{PlainTyped}
use Rattle.mc_compile.specs.Checking.{items_of}

-- procedures that can be run, with what is run over them, where something is
pub record PlainExecutable : Type 0 where
  pub procs : PlainProcs
  pub goal : Option Goal

abbrev pub plain_executable : Executable → PlainExecutable
plain_executable e = record { procs = e.procs; goal = e.goal }

-- The phase of insts: what has a table of types goes on as it is, unless an item breaks a rule of
-- insts (M6 or M7).
pub record Insts (typed : PlainTyped) (result : Result PlainTyped Refusal) : Type 0 where
  pub rules : List Broken
  pub are :
      AreInstFaults typed.named.files.names (items_from 0 typed.named.files.all) rules
  pub is : result ≡ unless_broken rules typed

-- A query has no determinism of its own; where its first answer alone is wanted it is `cc_nondet`.
abbrev pub query_determinism : (first : Bool) → Option Det
query_determinism false = None
query_determinism true = Some (record { can_fail = true; most = M.Many; committed = true })

-- The query is the predicate behind the others, and its procedure is the one behind theirs.
abbrev pub query_number : WholeProgram → List Sig → Option PlainTerm → Option ℕ
query_number whole sigs None = None
query_number whole sigs (Some goal) = Some (length (mode_ids whole.program sigs))

abbrev pub query_sigs : Bool → PlainNamed → WholeProgram → List Sig → Option PlainTerm → List Sig
query_sigs first named whole sigs None = []
query_sigs first named whole sigs (Some goal) =
    query_signature (length named.files.names.preds) (length (mode_ids whole.program sigs))
    (length whole.variables) (query_determinism first)
    (record { file = length named.files.given; line = line_of goal })
    ∷ []

-- a typed clause with the number of its predicate
abbrev pub numbered : TypedClause → ℕ × N.TypedClause
numbered c = (c.pred, typed_clause c.resolved)

-- What is put in order: the program that typed clauses and the query are, with its declared modes, the
-- query's behind the others.
pub record IsModed (first : Bool) (named : PlainNamed) (moded : Moded) : Type 0 where
  pub clauses : List TypedClause
  pub query : Option TypedClause
  pub typed :
      AreTyped named.files.names (definitions_seen named.files.names) (items_of named)
      (clauses ++ option_to_list query)
  pub asked : is_some query ≡ is_some named.goal
  pub whole :
      IsWhole named.files.names (map numbered clauses)
      (option_map (λ (c : TypedClause). typed_clause c.resolved) query) moded.whole
  pub declared : List Sig
  pub signed :
      AreSignatures (MeansMode named.files.names (plain_definitions moded.defs))
      (builtin_of moded.whole.program.preds) 0 0
      (declared_modes named.files.names named.files.all) declared
  pub defined : DefinitionsFit 4 (plain_definitions moded.defs)
  pub sigs :
      moded.sigs.items ≡ declared ++ query_sigs first named moded.whole declared named.goal
  pub number : moded.query ≡ query_number moded.whole declared named.goal

-- The phase of declared modes: the program that runs, with its modes and the definitions of the insts of
-- which they speak.
pub record Modes (sources : Sources) (typed : PlainTyped) (result : Result Moded Refusal) : Type 0 where
  pub moded : Moded
  pub is_moded : IsModed sources.first typed.named moded
  pub is : result ≡ Ok moded

-- What is run: `main` where it is wanted, and else the query, where there is one. (Where `main` is
-- wanted there is one, since a program without it breaks E4: `MainIsRun` of Laws.)
abbrev pub goal_of :
    (wants_main : Bool) → PlainProcs → (query : Option ℕ) → (variables : List (List ℕ))
    → Option Goal
goal_of true procs query variables = option_map G.Main (main_number procs)
goal_of false procs query variables = option_map (λ k. G.Query k variables) query

-- Procedures are answered with what is run over them, or the rules that they break.
abbrev pub executable : (wants_main : Bool) → Moded → AnalysisResult
    → Result PlainExecutable Refusal
executable wants_main moded (R.Procs procs) =
    Ok
    (record {
      procs = procs;
      goal = goal_of wants_main procs moded.query moded.whole.variables;
    })
executable wants_main moded (R.Broken list) = Err (Breaks list.items)

-- The phase of procedures: each mode's goal in its one order, with its determinism, unless they break
-- a rule of modes (M1 to M4, M8) or of determinism (E1 to E4, U1).
pub record Procedures (sources : Sources) (moded : Moded) (result : Result PlainExecutable Refusal)
    : Type 0 where
  pub ruled : AnalysisResult
  pub comes :
      AnalysisGives moded.whole.program (plain_definitions moded.defs) moded.sigs.items
      moded.whole.goals.items moded.whole.exported.items sources.wants_main ruled
  pub is : result ≡ executable sources.wants_main moded ruled

-- the phases of a program with rules, behind those of types
abbrev pub Rules : Sources → PlainTyped → Result PlainExecutable Refusal → Type 0
Rules sources = Then Insts (Then (Modes sources) (Procedures sources))
