-- The signatures of modes that are written, by two lists of definitions, are one. (Mercury Language
-- Reference Manual: Modes, predicate and function modes; the query's is this project's.)
use Rattle.std.specs.Prelude.{ℕ, List, [], ◌∷◌, ◌++◌, Option}
use Rattle.mc_source.specs.declared.det.Det.{Det}
use Rattle.mc_source.specs.declared.place.Place.{Place}
use Rattle.mc_program.specs.declared.builtin.Builtin.{Builtin}
use Rattle.mc_program.specs.declared.program.Program.{Program}
use Rattle.mc_model.specs.declared.inst.Sig.{Sig}
use Rattle.mc_accepted.specs.InstRules.{PlainInstDef}
use Rattle.mc_decl_syntax.specs.Entries.{File}
use Rattle.mc_names.specs.Linked.{Linked}
use Rattle.mc_signatures.specs.WrittenModes.{declared_modes}
use Rattle.mc_signatures.specs.MeantModes.{MeansMode}
use Rattle.mc_signatures.specs.Signatures.{AreSignatures, query_signature}
use Rattle.laws_one_answer.specs.ModesMeanOne.{NodesAreOne, SigsAreOne}

-- So are those of the declared modes of files, and also with a query's behind them.
abbrev pub MeantSigsAreOne : Type 0
MeantSigsAreOne =
    (l : Linked) (files : List File) (P : Program) (ds es : List PlainInstDef)
    (builtin : ℕ → Option Builtin) (sigs others : List Sig)
    → AreSignatures (MeansMode l ds) builtin 0 0 (declared_modes l files) sigs
    → AreSignatures (MeansMode l es) builtin 0 0 (declared_modes l files) others
    → SigsAreOne (NodesAreOne P ds es) sigs others
    × ((p k n : ℕ) (d : Option Det) (place : Place)
    → SigsAreOne (NodesAreOne P ds es) (sigs ++ query_signature p k n d place ∷ [])
    (others ++ query_signature p k n d place ∷ []))
