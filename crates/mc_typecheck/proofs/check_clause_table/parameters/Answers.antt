use Rattle.std.proofs.Common.{List, map, ap, ◌∙◌, arith}
use Rattle.mc_program.specs.PlainPrograms.{plain_type, type_terms}
use Rattle.mc_program.specs.declared.ty.Ty.{Ty}
use Rattle.mc_typecheck.proofs.Entries.{parameters_more, parameters_whole}
use Rattle.mc_typecheck.proofs.check_clause_table.parameters.Goals as goal

pub loop-v-preserved : goal.loop-v-preserved
loop-v-preserved c = parameters_more c.loop-v.v c.loop-v.all.items c.push.new.self.items c.loop-v.invariant c.in_ok-push.ensures.items

pub returns : goal.returns
returns c =
    ap (λ (ts : List Ty). type_terms (map plain_type ts)) c.in_ok-of.ensures.elements
    ∙ parameters_whole c.args.count c.loop-v.v c.loop-v.all.items (omega (arith, c.loop-v-test.false, c.loop-v.auto.v-end)) c.loop-v.invariant
