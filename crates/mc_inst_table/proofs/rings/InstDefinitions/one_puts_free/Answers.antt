use Rattle.std.proofs.Common.{◌≡◌, ◌++◌, List, sym, ap, ◌∙◌, subst}
use Rattle.mc_accepted.specs.InstRules.{Bodies}
use Rattle.mc_inst_table.specs.declared.heads.Head.{Head}
use Rattle.mc_inst_table.specs.Plain.{plain_insts}
use Rattle.mc_inst_table.specs.code.Ends.{head_at, AreNeeds}
use Rattle.mc_inst_table.specs.code.Insides.{inside_at, all_put_ends, has_free_end}
use Rattle.mc_inst_table.proofs.Knowing.{free_known}
use Rattle.mc_inst_table.proofs.rings.InstDefinitions.one_puts_free.Goals as goal

pub returns : goal.returns
returns c l are =
    let s = c.args.self.now in
    let put = all_put_ends (head_at s.heads) (inside_at s.inside) (plain_insts c.args.insts.now) in
    let ends : c.as_slice-2.result.now ≡ put =
    c.as_slice-2.ensures.value ∙ c.in_ok-put_all_ends.ensures
    ∙ ap (λ (hs : List Head). hs ++ put) c.new-ends.ensures.items
    in
    free_known l s c.args.insts.now c.is_free_among.result
    (λ body needs.
    c.are_full.ensures body (subst (AreNeeds body) (sym c.as_slice.ensures.value) needs) c.if-not-are_full.false)
    (c.is_free_among.ensures ∙ ap has_free_end ends) are
