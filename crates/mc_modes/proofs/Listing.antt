-- The rules of goals that are tried behind rules that are listed already.
use Rattle.std.proofs.Common.{◌≡◌, ◌<◌, ◌≤◌, ◌+◌, ℕ, inl, inr, false, List, [], ◌∷◌, ◌++◌, length, take, get_or, Option, Some, refl, sym, ap, subst, ◌∙◌, arith, append_assoc}
use Rattle.std.specs.List.{All}
use Rattle.std.proofs.lemmas.List.{append-nil, take_more, take_all, get_or_read, get_or_default}
use Rattle.std.proofs.lemmas.List.Elements.{All-nil, All-get_or}
use Rattle.mc_source.specs.Rules.{Fault, broken_at}
use Rattle.mc_source.specs.declared.rule.Broken.{Broken}
use Rattle.mc_model.specs.PlainGoals.{plain_node}
use Rattle.mc_model.specs.declared.flat.Normal.{Normal}
use Rattle.mc_model.specs.declared.inst.Sig.{Sig}
use Rattle.mc_accepted.specs.Arranged.{in_order}
use Rattle.mc_insts.specs.Graphs.{count_of}
use Rattle.mc_procs.specs.Procedures.{PlainProcs}
use Rattle.mc_modes.specs.Signatures.{mode_in, SigsFit}
use Rattle.mc_modes.specs.NormalGoals.{no_goal, goal_at, AreNormal}
use Rattle.mc_modes.specs.Numbering.{IsMode}
use Rattle.mc_modes.specs.Outcomes.{GrownFrom, Tried, IsTried, ListsBehind}
use Rattle.mc_modes.specs.code.Steps.{CanTry, Passed, Listed, Steps}
use Rattle.mc_modes.specs.declared.modes.ModeId.{ModeId}
use Rattle.mc_modes.proofs.Grows.{grown_none, grown_then, grown_by, can_try}
use Rattle.mc_modes.proofs.SoFarMore.{at_place, rule_at, tried_one, broken_more}

-- rules are listed still
still_some : (bs cs ds : List Broken) → (bs ≡ [] → ⊥) → ds ≡ bs ++ cs → ds ≡ [] → ⊥
still_some [] cs ds some e none = some refl
still_some (b ∷ bs) cs ds some e none = cc

module _ (sigs : List Sig) (goals : List Normal) where
  pub none_tried : (first : PlainProcs) (old : List Broken) → ListsBehind sigs goals first first [] old old
  none_tried first old =
      record {
        grown = grown_none first;
        none = refl;
        rules = [];
        broken = record { tried = []; ids_are = refl; each = All-nil (IsTried sigs goals first first); rules = refl };
        behind = sym (append-nil old);
      }

  pub all_listed : (first q : PlainProcs) (ids : List ModeId) (i : ℕ) (before old : List Broken) → length ids ≤ i → ListsBehind sigs goals first q (take i ids) before old → ListsBehind sigs goals first q ids before old
  all_listed first q ids i before old le so =
      subst (λ (js : List ModeId). ListsBehind sigs goals first q js before old) (take_all i ids le) so

  one_behind : (first q r : PlainProcs) (ids : List ModeId) (before old new : List Broken) (t : Tried) → ListsBehind sigs goals first q ids before old → GrownFrom q r → r.added ≡ q.added → IsTried sigs goals first r t →
      new ≡ old ++ broken_at (at_place sigs goals t) (rule_at sigs goals t) → ListsBehind sigs goals first r (ids ++ t.id ∷ []) before new
  one_behind first q r ids before old new t so grown stays tried e =
      let told : List Broken = broken_at (at_place sigs goals t) (rule_at sigs goals t) in
      record {
        grown = grown_then first q r so.grown grown;
        none = stays ∙ so.none;
        rules = so.rules ++ told;
        broken = broken_more sigs goals first q r ids so.rules (so.rules ++ told) t grown so.broken tried refl;
        behind = e ∙ ap (λ (l : List Broken). l ++ told) so.behind ∙ append_assoc before so.rules told;
      }

  module _ (first q : PlainProcs) (id : ModeId) (ids : List ModeId) (before old : List Broken) (is_pred : (goal_at goals id.pred).pred ≡ id.pred) (so : ListsBehind sigs goals first q ids before old) where
    passed_behind : (r : PlainProcs) (new : List Broken) → Passed sigs (goal_at goals id.pred) id.mode false q r old new → ListsBehind sigs goals first r (ids ++ id ∷ []) before new
    passed_behind r new c =
        let b = c.scheduled.becomes in
        let v = in_order (plain_node c.proc.body) in
        one_behind first q r ids before old new (record { id = id; verdict = v }) so (grown_by q r b.others b.grown) (ap (λ (x : PlainProcs). x.added) b.others)
        (tried_one sigs goals first q id so.grown is_pred r r c.scheduled.end v b (grown_none r))
        (c.same ∙ sym (append-nil old))

    listed_behind : (r : PlainProcs) (new : List Broken) → Listed sigs (goal_at goals id.pred) id.mode false q r old new → ListsBehind sigs goals first r (ids ++ id ∷ []) before new
    listed_behind r new c =
        one_behind first q r ids before old new (record { id = id; verdict = c.verdict }) so (grown_by q r c.becomes.others c.becomes.grown) (ap (λ (x : PlainProcs). x.added) c.becomes.others)
        (tried_one sigs goals first q id so.grown is_pred r r c.end c.verdict c.becomes (grown_none r))
        (c.one_more
        ∙ ap (λ k. old ++ broken_at (mode_in sigs k id.mode).at (Some c.told)) is_pred
        ∙ ap (λ (o : Option Fault). old ++ broken_at (mode_in sigs id.pred id.mode).at o) c.rule)

    step_behind : (before ≡ [] → ⊥) → (r : PlainProcs) (new : List Broken) → Steps sigs (goal_at goals id.pred) id.mode false q r old new → ListsBehind sigs goals first r (ids ++ id ∷ []) before new
    step_behind some r new (inl c) = absurd (still_some before so.rules old some so.behind c.none_before)
    step_behind some r new (inr (inl c)) = passed_behind r new c
    step_behind some r new (inr (inr c)) = listed_behind r new c

module _ (sigs : List Sig) (goals : List Normal) (first : PlainProcs) (ids : List ModeId) (i : ℕ) (d : ModeId) (are : All (IsMode first.program sigs) ids) (l : i < length ids) (normal : AreNormal first sigs goals) where
  abbrev id : ModeId
  id = get_or ids i d

  is_mode : IsMode first.program sigs id
  is_mode = All-get_or (IsMode first.program sigs) ids i d l are

  pub goal_there : id.pred < length goals
  goal_there = let m = is_mode.pred in let n = normal.as_many in omega arith

  one_further : take (i + 1) ids ≡ take i ids ++ id ∷ []
  one_further = take_more ids i id l ∙ ap (λ (m : ModeId). take i ids ++ m ∷ []) (sym (get_or_default ids i d id l))

  module _ (q : PlainProcs) (g : Normal) (is : g ≡ get_or goals id.pred g) (before old : List Broken) (so : ListsBehind sigs goals first q (take i ids) before old) where
    goal_is : g ≡ goal_at goals id.pred
    goal_is = get_or_read goals id.pred g goal_there is no_goal

    pub may_try : SigsFit (count_of first.insts) sigs → CanTry sigs id.mode q g
    may_try fit = can_try sigs goals first q id g goal_is fit normal so.grown is_mode

    pub some_still : (before ≡ [] → ⊥) → old ≡ [] → ⊥
    some_still some = still_some before so.rules old some so.behind

    pub goes_on : (before ≡ [] → ⊥) → (r : PlainProcs) (new : List Broken) → Steps sigs g id.mode false q r old new → ListsBehind sigs goals first r (take (i + 1) ids) before new
    goes_on some r new h =
        subst (λ (js : List ModeId). ListsBehind sigs goals first r js before new) (sym one_further)
        (step_behind sigs goals first q id (take i ids) before old (normal.each id.pred is_mode.pred is_mode.no_builtin).pred so some r new
        (subst (λ (x : Normal). Steps sigs x id.mode false q r old new) goal_is h))
