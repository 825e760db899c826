use Rattle.std.proofs.Common.{◌∙◌}
use Rattle.mc_decl_syntax.proofs.Bound.{bound_of_one, inst_of_one, several_over}
use Rattle.mc_decl_syntax.proofs.insts.+insts.Goals as goal

pub is_inst_over-returns-then-is_bound : goal.is_inst_over-returns-then-is_bound
is_inst_over-returns-then-is_bound t c = c.are_bound.ensures ∙ bound_of_one _ _ _ _ c.if-is_bound.true c.in-len1.len_at_least c.in-len1.len_below c.only-item.is

pub is_inst_over-returns-else-is_bound : goal.is_inst_over-returns-else-is_bound
is_inst_over-returns-else-is_bound t c = c.is_inst.ensures ∙ inst_of_one _ _ _ _ c.if-is_bound.false c.in-len1.len_at_least c.in-len1.len_below c.only-item.is

pub is_inst_over-returns-in_default : goal.is_inst_over-returns-in_default
is_inst_over-returns-in_default t c = c.are_insts.ensures ∙ several_over _ _ _ c.in_default.len_at_least
