-- One mode of those that are tried in order.
use Rattle.std.proofs.Common.{◌≡◌, ◌<◌, ◌≤◌, ◌+◌, ℕ, Bool, false, List, [], ◌∷◌, ◌++◌, length, take, get_or, sym, ap, subst, ◌∙◌, arith}
use Rattle.std.proofs.lemmas.List.{take_more, take_all, get_or_read, get_or_default}
use Rattle.std.proofs.lemmas.List.Elements.{All-get_or, All-same}
use Rattle.mc_source.specs.declared.rule.Broken.{Broken}
use Rattle.mc_model.specs.declared.flat.Normal.{Normal}
use Rattle.mc_model.specs.declared.inst.Sig.{Sig}
use Rattle.mc_insts.specs.Graphs.{count_of}
use Rattle.mc_procs.specs.Procedures.{PlainProcs}
use Rattle.mc_modes.specs.Signatures.{SigsFit}
use Rattle.mc_modes.specs.NormalGoals.{no_goal, goal_at, AreNormal}
use Rattle.mc_modes.specs.Numbering.{IsMode, mode_ids, IsNumbered}
use Rattle.mc_modes.specs.code.Steps.{CanTry, IsNext, Steps, SoFar}
use Rattle.mc_modes.specs.declared.modes.ModeId.{ModeId}
use Rattle.mc_modes.proofs.Ids.{are_modes}
use Rattle.mc_modes.proofs.Grows.{can_try}
use Rattle.mc_modes.proofs.SoFarMore.{one_more, is_next}

-- all modes were tried
pub all_tried : (sigs : List Sig) (goals : List Normal) (exported : List Bool) (first q : PlainProcs) (all : List ModeId) (i : ℕ) (faults : List Broken) → length all ≤ i → SoFar sigs goals exported first q (take i all) faults → SoFar sigs goals exported first q all faults
all_tried sigs goals exported first q all i faults le s =
    subst (λ (ids : List ModeId). SoFar sigs goals exported first q ids faults) (take_all i all le) s

module _ (sigs : List Sig) (goals : List Normal) (exported : List Bool) (first : PlainProcs) (xs : List ModeId) (i : ℕ) (d : ModeId) (same : xs ≡ mode_ids first.program sigs) (l : i < length xs) (normal : AreNormal first sigs goals) where
  abbrev all : List ModeId
  all = mode_ids first.program sigs

  abbrev id : ModeId
  id = get_or xs i d

  is_mode : IsMode first.program sigs id
  is_mode =
      All-get_or (IsMode first.program sigs) xs i d l (All-same (IsMode first.program sigs) xs all same (are_modes first.program sigs))

  in_all : i < length all
  in_all = subst (λ (ids : List ModeId). i < length ids) same l

  id_is : id ≡ get_or all i id
  id_is = ap (λ (ids : List ModeId). get_or ids i d) same ∙ get_or_default all i d id in_all

  pub goal_there : id.pred < length goals
  goal_there = let m = is_mode.pred in let n = normal.as_many in omega arith

  pub exported_there : length exported ≡ length first.program.preds → id.pred < length exported
  exported_there e = let m = is_mode.pred in omega arith

  one_further : take (i + 1) all ≡ take i all ++ id ∷ []
  one_further = take_more all i id in_all ∙ ap (λ (m : ModeId). take i all ++ m ∷ []) (sym id_is)

  module _ (q : PlainProcs) (g : Normal) (is : g ≡ get_or goals id.pred g) (old : List Broken) (s : SoFar sigs goals exported first q (take i all) old) where
    goal_is : g ≡ goal_at goals id.pred
    goal_is = get_or_read goals id.pred g goal_there is no_goal

    is_pred : (goal_at goals id.pred).pred ≡ id.pred
    is_pred = (normal.each id.pred is_mode.pred is_mode.no_builtin).pred

    pub may_try : SigsFit (count_of first.insts) sigs → CanTry sigs id.mode q g
    may_try fit = can_try sigs goals first q id g goal_is fit normal s.grown is_mode

    pub comes_next : IsNumbered first sigs → old ≡ [] → IsNext q g
    comes_next n none =
        is_next sigs goals exported first q i id g old in_all n id_is (ap (λ (x : Normal). x.pred) goal_is ∙ is_pred) s none

    pub goes_on : (r : PlainProcs) (new : List Broken) → Steps sigs g id.mode (get_or exported id.pred false) q r old new → SoFar sigs goals exported first r (take (i + 1) all) new
    goes_on r new h =
        subst (λ (ids : List ModeId). SoFar sigs goals exported first r ids new) (sym one_further)
        (one_more sigs goals exported first q id (take i all) old is_pred s r new
        (subst (λ (x : Normal). Steps sigs x id.mode (get_or exported id.pred false) q r old new) goal_is h))
