use Rattle.std.proofs.Common.{◌<◌, ◌∙◌, List, ℕ, [], ◌∷◌, ◌+◌, drop, Some, map, length, get_or, arith, refl, ap, sym, subst}
use Rattle.std.specs.List.{All}
use Rattle.std.proofs.lemmas.List.{map-append}
use Rattle.std.proofs.lemmas.List.Elements.{All-push}
use Rattle.mc_values.specs.Heap.{IsLive, value_at, values_at}
use Rattle.mc_model.specs.Stream.{gather}
use Rattle.mc_plain.specs.Values.{IsHeld}
use Rattle.mc_plain.specs.Frames.{bindings}
use Rattle.mc_plain.proofs.Binding.{read_is, live_at, held_at}
use Rattle.mc_plain.proofs.Unifying.{behind, gather_one}
use Rattle.mc_plain.proofs.frame.gather.Goals as goal

pub returns-in_err-push-in-Some-clause-held : goal.returns-in_err-push-in-Some-clause-held
returns-in_err-push-in-Some-clause-held c P h held =
    subst (λ (l : List ℕ). All (IsHeld P h) l) (sym (c.in_err-push-in-Some.ensures {u = tt}).items) (c.loop-x.invariant.held P h held)

pub loop-x-preserved : goal.loop-x-preserved
loop-x-preserved c =
    let frame = c.args.frame.now.items in
    let vars = c.args.vars.now in
    let k = c.loop-x.x-index in
    let x = get_or vars k 0 in
    let refs = c.loop-x.refs.items in
    let pushed = (c.in_ok-push-in-Some.ensures {u = tt}).items in
    let lt : k < length vars = omega arith in
    let within : x < length frame = c.requires k 0 lt in
    let some = read_is frame x c.index.result.now (Some c.in-Some.r) within c.index.ensures c.in-Some.is in
    record {
      gathers = λ h. c.loop-x.invariant.gathers h ∙ gather_one h frame vars k x lt refl (values_at h refs) c.in-Some.r some
          ∙ ap (λ l. behind l (gather (drop (k + 1) vars) (bindings h frame))) (sym (ap (map (value_at h)) pushed ∙ map-append (value_at h) refs (c.in-Some.r ∷ [])));
      live = λ h live. subst (λ (l : List ℕ). All (IsLive h) l) (sym pushed) (All-push (IsLive h) refs c.in-Some.r (c.loop-x.invariant.live h live) (live_at h frame x c.in-Some.r live within some));
      held = λ P h held. subst (λ (l : List ℕ). All (IsHeld P h) l) (sym pushed) (All-push (IsHeld P h) refs c.in-Some.r (c.loop-x.invariant.held P h held) (held_at P h frame x c.in-Some.r held within some));
    }
