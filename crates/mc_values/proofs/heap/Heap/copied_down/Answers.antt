use Rattle.std.proofs.Common.{◌≡◌, List, ℕ, map, sym, ap, subst, ◌∙◌, ◌<◌}
use Rattle.std.specs.List.{All}
use Rattle.std.proofs.lemmas.List.{take_rest}
use Rattle.mc_program.specs.Values.{con, vals}
use Rattle.mc_values.specs.Heap.{value_at, values_at}
use Rattle.mc_values.specs.code.Cells.{named_of, plain_of}
use Rattle.mc_values.proofs.Arguments.{live_below}
use Rattle.mc_values.proofs.WalkLaws.{opened, opened_size, opened_live}
use Rattle.mc_values.proofs.heap.Heap.copied_down.Goals as goal

pub loop-i-preserved : goal.loop-i-preserved
loop-i-preserved c =
    let h = c.args.self.now in
    let refs = c.refs.result.now in
    let pushed = (c.in_ok-push-in-len1-up.ensures {u = tt}).items in
    let below : All (λ a. a < c.loop-i.at) refs =
    subst (λ (l : List ℕ). All (λ a. a < c.loop-i.at) l) (ap named_of c.in-Con.is ∙ sym c.refs.ensures.refs) c.cell.ensures.below in
    let lives = live_below h c.loop-i.at refs c.loop-i.invariant.live below in
    let whole : value_at h c.loop-i.at ≡ con c.in-Con.symbol (vals (values_at h refs)) =
    c.cell.ensures.value ∙ ap (plain_of (value_at h)) c.in-Con.is ∙ ap (λ (l : List ℕ). con c.in-Con.symbol (vals (map (value_at h) l))) (sym c.refs.ensures.refs) in
    record {
      live = lives 0 0 c.in-len1-up.len_at_least;
      rest = opened_live h _ _ _ c.loop-i.at refs pushed c.new-in-len1-up.ensures (take_rest refs 1) c.in-len1-up.len_at_least whole c.loop-i.invariant.rest lives;
      copied = opened h _ _ _ c.loop-i.at refs pushed c.new-in-len1-up.ensures (take_rest refs 1) c.in-len1-up.len_at_least whole ∙ c.loop-i.invariant.copied;
      less = opened_size h _ _ _ c.loop-i.at refs pushed c.new-in-len1-up.ensures (take_rest refs 1) c.in-len1-up.len_at_least whole ∙ c.loop-i.invariant.less;
    }
