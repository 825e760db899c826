use Rattle.std.proofs.Common.{◌≡◌, ◌<◌, [], ◌∷◌, ◌++◌, map, length, ap, ◌∙◌, arith}
use Rattle.std.proofs.lemmas.List.{length-map}
use Rattle.mc_program.specs.Programs.{variable_type}
use Rattle.mc_program.specs.PlainPrograms.{plain_type}
use Rattle.mc_goals.proofs.Drops.{next_constant}
use Rattle.mc_goals.proofs.normal.add_names.Goals as goal

pub made-preserved : goal.made-preserved
made-preserved c =
    let types = c.args.resolved.now.var_types in
    let end = c.len-end.ensures in
    let long : length (map plain_type types) ≡ length types = length-map types plain_type in
    let left : c.made.counter < length (map plain_type types) = omega arith in
    let is : c.push-in-made.new.self.items ≡ c.made.into.items ++ [] ∷ [] = (c.in_ok-push-2.ensures {u = tt}).items ∙ ap (λ t. c.made.into.items ++ t ∷ []) c.empty.ensures in
    next_constant [] (map plain_type types) (variable_type 0) c.made.counter c.made.into.items c.push-in-made.new.self.items _ left is c.made.invariant
