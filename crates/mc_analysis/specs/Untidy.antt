-- The rule that `unique` and `dead` stand at io's state alone, of declared modes, and the modes whose
-- goals are tried where some mode breaks it. (The Mercury manual: Modes, unique modes; this project's
-- profile of uniqueness.)
use Rattle.std.specs.Prelude.{ℕ, List, [], ◌∷◌, ◌++◌, Option, Some, None}
use Rattle.mc_source.specs.declared.rule.Broken.{Broken}
use Rattle.mc_source.specs.Rules.{Fault, broken_at}
use Rattle.mc_program.specs.Programs.{TypeTerm, Source}
use Rattle.mc_model.specs.Insts.{Graph}
use Rattle.mc_model.specs.PlainGoals.{plain_flat}
use Rattle.mc_model.specs.declared.flat.Normal.{Normal}
use Rattle.mc_model.specs.declared.inst.ModeDecl.{ModeDecl}
use Rattle.mc_model.specs.declared.inst.Sig.{Sig}
use Rattle.mc_accepted.specs.Calls.{CallsOnly}
use Rattle.mc_accepted.specs.InstRules.{outside_io}
use Rattle.mc_accepted.specs.Tidy.{EachTidy}
use Rattle.mc_modes.specs.Signatures.{modes_at, mode_in}
use Rattle.mc_modes.specs.NormalGoals.{goal_at}
use Rattle.mc_modes.specs.declared.modes.ModeId.{ModeId}

module _ (P : Source) (G : Graph) where
  -- a mode's insts are tidy at these types
  abbrev pub ModeIsTidy : List TypeTerm → ModeDecl → Type 0
  ModeIsTidy ts m = EachTidy P G m.first ts × EachTidy P G m.last ts

  -- what is told of a mode of a predicate whose arguments have these types
  pub data TidySays (ts : List TypeTerm) (m : ModeDecl) : Option Fault → Type 0 where
    is_tidy : ModeIsTidy ts m → TidySays ts m None
    is_untidy : (ModeIsTidy ts m → ⊥) → TidySays ts m (Some outside_io)

  -- what is told of the modes of a predicate, in order
  pub data ModesSay (ts : List TypeTerm) : List ModeDecl → List Broken → Type 0 where
    no_mode : ModesSay ts [] []
    mode_then :
        {m : ModeDecl} {ms : List ModeDecl} {f : Option Fault} {bs : List Broken}
        → TidySays ts m f → ModesSay ts ms bs → ModesSay ts (m ∷ ms) (broken_at m.at f ++ bs)

  -- what is told of all modes, in the order of the predicates
  pub data AreUntidy : List Sig → List Broken → Type 0 where
    no_predicate : AreUntidy [] []
    predicate_then :
        {s : Sig} {ss : List Sig} {bs cs : List Broken}
        → ModesSay (P.preds s.pred).types s.modes bs → AreUntidy ss cs
        → AreUntidy (s ∷ ss) (bs ++ cs)

  -- each of these modes is tidy
  abbrev pub AllTidy : List TypeTerm → List ModeDecl → Type 0
  AllTidy ts [] = Unit {0}
  AllTidy ts (m ∷ ms) = ModeIsTidy ts m × AllTidy ts ms

  module _ (sigs : List Sig) where
    -- so are all modes of a predicate
    abbrev pub TidyAt : (predicate : ℕ) → Type 0
    TidyAt p = AllTidy (P.preds p).types (modes_at sigs p)

    module _ (goals : List Normal) where
      -- A mode is tidy, and its predicate's goal calls only predicates whose modes all are. What is
      -- told of another's goal may come of an untidy mode alone; and of insts that hold `dead`
      -- outside io no one inst is the least above two.
      pub record OverTidy (id : ModeId) : Type 0 where
        pub own : ModeIsTidy (P.preds id.pred).types (mode_in sigs id.pred id.mode)
        pub called : CallsOnly TidyAt (plain_flat (goal_at goals id.pred).body)

      -- those of the modes whose goals are tried, in order
      pub data AreAsked : List ModeId → List ModeId → Type 0 where
        no_more : AreAsked [] []
        asked :
            {id : ModeId} {ids is : List ModeId}
            → OverTidy id → AreAsked ids is → AreAsked (id ∷ ids) (id ∷ is)
        passed :
            {id : ModeId} {ids is : List ModeId}
            → (OverTidy id → ⊥) → AreAsked ids is → AreAsked (id ∷ ids) is
