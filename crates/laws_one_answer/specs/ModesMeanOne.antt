-- Insts that definitions define, and those of declared modes, in two graphs: they mean one thing. (Mercury Language Reference Manual: Modes, insts.)
use Rattle.std.specs.Prelude.{◌≡◌, ◌↔◌, ℕ, suc, ◌<◌, List, [], ◌∷◌}
use Rattle.mc_source.specs.declared.rule.Broken.{Broken}
use Rattle.mc_program.specs.Programs.{TypeTerm}
use Rattle.mc_program.specs.PlainPrograms.{plain_program}
use Rattle.mc_program.specs.declared.program.Program.{Program}
use Rattle.mc_model.specs.Insts.{Graph}
use Rattle.mc_model.specs.declared.inst.ModeDecl.{ModeDecl}
use Rattle.mc_model.specs.declared.inst.Sig.{Sig}
use Rattle.mc_accepted.specs.NodeOracle.{NodeOracle, of_nodes}
use Rattle.mc_accepted.specs.InstRules.{PlainInstDef}
use Rattle.mc_accepted.specs.Tidy.{Tidy}
use Rattle.mc_insts.specs.declared.insts.Insts.{Insts}
use Rattle.mc_insts.specs.Graphs.{graph_of, count_of}
use Rattle.mc_insts.specs.Growing.{Grown}
use Rattle.mc_procs.specs.Procedures.{PlainProcs}
use Rattle.mc_modes.specs.Signatures.{mode_in, declared_in, SigsFit}
use Rattle.laws_graphs.specs.Related.{NodesRelated, DeclaredRelated}
use Rattle.laws_graphs.specs.Nodes.{MeanOne}
use Rattle.laws_graphs.specs.FaultLaws.{InstAlike}
use Rattle.mc_analysis.specs.Premises.{HasInsts, InitialProcedures}
use Rattle.mc_analysis.specs.Untidy.{ModeIsTidy, TidyAt}

-- nodes of two graphs that mean one thing at a type
abbrev pub AreOne : Program → (here there : Insts) → TypeTerm → (i j : ℕ) → Type 0
AreOne P K L = MeanOne (plain_program P) (count_of K) (graph_of K) (count_of L) (graph_of L)

-- By two lists of definitions two nodes are one, whatever graphs these make. Both are one builtin inst,
-- or neither is a builtin one; where one is tidy the other is, and there they mean one thing, and go on
-- to do so as the graphs grow.
pub record NodesAreOne (P : Program) (ds es : List PlainInstDef) (n m : ℕ) : Type 0 where
  pub alike : (I J : Insts) → HasInsts P ds I → HasInsts P es J → InstAlike n m
  pub tidy :
      (I J : Insts) → HasInsts P ds I → HasInsts P es J → (t : TypeTerm)
      → Tidy (plain_program P) (graph_of I) n t ↔ Tidy (plain_program P) (graph_of J) m t
  pub one :
      (I J K L : Insts) → HasInsts P ds I → HasInsts P es J
      → Grown (plain_program P) I K → Grown (plain_program P) J L
      → n < count_of I → m < count_of J
      → (t : TypeTerm) → Tidy (plain_program P) (graph_of I) n t → AreOne P K L t n m

-- By one list of definitions so it is of each node.
abbrev pub DefinedMeanOne : Type 0
DefinedMeanOne = (P : Program) (ds : List PlainInstDef) (n : ℕ) → NodesAreOne P ds ds n n

-- Signatures are one, but for the numbers of their modes' insts.
module _ (One : (here there : ℕ) → Type 0) where
  abbrev pub EachIsOne : (here there : List ℕ) → Type 0
  EachIsOne [] [] = Unit {0}
  EachIsOne (n ∷ ns) (m ∷ ms) = One n m × EachIsOne ns ms
  EachIsOne _ _ = ⊥

  pub record ModeIsOne (m n : ModeDecl) : Type 0 where
    pub proc : n.proc ≡ m.proc
    pub first : EachIsOne m.first n.first
    pub last : EachIsOne m.last n.last
    pub det : n.det ≡ m.det
    pub at : n.at ≡ m.at

  abbrev pub EachModeIsOne : (here there : List ModeDecl) → Type 0
  EachModeIsOne [] [] = Unit {0}
  EachModeIsOne (m ∷ ms) (n ∷ ns) = ModeIsOne m n × EachModeIsOne ms ns
  EachModeIsOne _ _ = ⊥

  abbrev pub SigsAreOne : (here there : List Sig) → Type 0
  SigsAreOne [] [] = Unit {0}
  SigsAreOne (s ∷ ss) (t ∷ ts) =
      (t.pred ≡ s.pred) × EachModeIsOne s.modes t.modes × SigsAreOne ss ts
  SigsAreOne _ _ = ⊥

-- signatures are those of predicates from a number on
abbrev pub ArePlaced : (first : ℕ) → List Sig → Type 0
ArePlaced n [] = Unit {0}
ArePlaced n (s ∷ ss) = (s.pred ≡ n) × ArePlaced (suc n) ss

-- The insts of a declared mode that is tidy in a graph mean one thing, at the predicate's types; and
-- where all modes of a predicate are, theirs do so at each instance of the types.
pub record ModesAreOne (P : Program) (sigs others : List Sig) (G : Graph) (K L : Insts)
    (C E : NodeOracle) : Type 0 where
  pub declared :
      DeclaredRelated (of_nodes C) (of_nodes E) (AreOne P K L) (plain_program P)
      (TidyAt (plain_program P) G sigs) (declared_in sigs) (declared_in others)
  pub initial :
      (p k : ℕ)
      → ModeIsTidy (plain_program P) G ((plain_program P).preds p).types (mode_in sigs p k)
      → NodesRelated (of_nodes C) (of_nodes E) (AreOne P K L) (mode_in sigs p k).first
      (mode_in others p k).first ((plain_program P).preds p).types
  pub final :
      (p k : ℕ)
      → ModeIsTidy (plain_program P) G ((plain_program P).preds p).types (mode_in sigs p k)
      → NodesRelated (of_nodes C) (of_nodes E) (AreOne P K L) (mode_in sigs p k).last
      (mode_in others p k).last ((plain_program P).preds p).types

-- So it is wherever goals are tried from the beginning on, whatever other modes are untidy.
abbrev pub ModesMeanOne : Type 0
ModesMeanOne =
    (P : Program) (ds es : List PlainInstDef) (sigs others : List Sig) (untidy told : List Broken)
    (first other : PlainProcs) (K L : Insts)
    → SigsAreOne (NodesAreOne P ds es) sigs others
    → InitialProcedures P ds sigs untidy first → InitialProcedures P es others told other
    → SigsFit (count_of first.insts) sigs → SigsFit (count_of other.insts) others
    → Grown (plain_program P) first.insts K → Grown (plain_program P) other.insts L
    → (C E : NodeOracle) → ModesAreOne P sigs others (graph_of first.insts) K L C E
