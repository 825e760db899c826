use Rattle.std.proofs.Common.{◌≡◌, ◌++◌, ◌∷◌, [], ◌+◌, ◌-◌, List, map, replicate, sym, ap, ◌∙◌}
use Rattle.mc_accepted.specs.InstRules.{inst_node}
use Rattle.mc_inst_table.specs.Plain.{plain_mode}
use Rattle.mc_inst_table.specs.Written.{ModeTerm, from_to}
use Rattle.mc_signatures.proofs.Behind.{defaults_more, defaults_last, mode_behind}
use Rattle.mc_signatures.proofs.declared.default_modes.Goals as goal

pub loop-argument-preserved : goal.loop-argument-preserved
loop-argument-preserved c =
    let modes = c.loop-argument.modes.items in
    let k = c.loop-argument.argument in
    let input = from_to (inst_node 1) (inst_node 1) in
    let output : List ModeTerm = from_to (inst_node 0) (inst_node 1) ∷ [] in
    ap (λ ms. ms ++ (replicate (c.args.arity - (k + 1)) input ++ output))
    (mode_behind modes c.push.new.self.items c.input.result input c.in_ok-push.ensures.items c.input.ensures)
    ∙ sym (defaults_more (map plain_mode modes) output c.args.arity k input c.loop-argument-test.true)
    ∙ c.loop-argument.invariant

pub returns : goal.returns
returns c =
    let modes = c.loop-argument.modes.items in
    let input = from_to (inst_node 1) (inst_node 1) in
    let output = from_to (inst_node 0) (inst_node 1) in
    mode_behind modes c.push-2.new.self.items c.output.result output c.in_ok-push-2.ensures.items c.output.ensures
    ∙ sym (defaults_last (map plain_mode modes) (output ∷ []) c.args.arity c.loop-argument.argument input c.loop-argument-test.false)
    ∙ c.loop-argument.invariant
