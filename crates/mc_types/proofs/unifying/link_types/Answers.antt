use Rattle.std.proofs.Common.{arith}
use Rattle.mc_types.proofs.Noted.{grown_more}
use Rattle.mc_types.proofs.Linked.{still_apart, types_unify, types_clash, types_not_founded}
use Rattle.mc_types.proofs.unifying.link_types.Goals as goal

pub returns-in_err-right-clause-grown : goal.returns-in_err-right-clause-grown
returns-in_err-right-clause-grown c = grown_more _ _ _ _ _ _ c.add_type.ensures.grown c.add_type-2.ensures.grown

pub returns-in_err-unify-clause-grown : goal.returns-in_err-unify-clause-grown
returns-in_err-unify-clause-grown c = grown_more _ _ _ _ _ _ (grown_more _ _ _ _ _ _ c.add_type.ensures.grown c.add_type-2.ensures.grown) c.unify.ensures.grown

pub returns-then-not-branch-clause-grown : goal.returns-then-not-branch-clause-grown
returns-then-not-branch-clause-grown c = grown_more _ _ _ _ _ _ (grown_more _ _ _ _ _ _ c.add_type.ensures.grown c.add_type-2.ensures.grown) c.unify.ensures.grown

pub returns-then-not-branch-clause-answer : goal.returns-then-not-branch-clause-answer
returns-then-not-branch-clause-answer c =
    types_clash c.args.vars _ _ _ _ _ c.in_ok-left.left c.in_ok-right.right c.add_type.ensures.grown.longer c.add_type-2.ensures.grown.longer c.requires.system.room c.in_ok-left.ensures.node c.in_ok-left.ensures.says c.in_ok-right.ensures.says c.unify.new.g.cells.items
    (rw c.if-not-branch.true at c.in_ok-unify.ensures.answer)

pub returns-in_err-enough_marks-clause-grown : goal.returns-in_err-enough_marks-clause-grown
returns-in_err-enough_marks-clause-grown c = grown_more _ _ _ _ _ _ (grown_more _ _ _ _ _ _ c.add_type.ensures.grown c.add_type-2.ensures.grown) c.unify.ensures.grown

pub returns-in_err-founded-clause-grown : goal.returns-in_err-founded-clause-grown
returns-in_err-founded-clause-grown c = grown_more _ _ _ _ _ _ (grown_more _ _ _ _ _ _ c.add_type.ensures.grown c.add_type-2.ensures.grown) c.unify.ensures.grown

pub returns-then-not-branch-2-clause-grown : goal.returns-then-not-branch-2-clause-grown
returns-then-not-branch-2-clause-grown c = grown_more _ _ _ _ _ _ (grown_more _ _ _ _ _ _ c.add_type.ensures.grown c.add_type-2.ensures.grown) c.unify.ensures.grown

pub returns-then-not-branch-2-clause-answer : goal.returns-then-not-branch-2-clause-answer
returns-then-not-branch-2-clause-answer c =
    types_not_founded c.args.vars _ _ _ _ _ c.in_ok-left.left c.in_ok-right.right c.add_type.ensures.grown.longer c.add_type-2.ensures.grown.longer c.requires.system.room c.in_ok-left.ensures.node c.in_ok-left.ensures.says c.in_ok-right.ensures.says c.unify.new.g.cells.items
    (rw c.if-not-branch.false at c.in_ok-unify.ensures.answer)
    (rw c.if-not-branch-2.true at c.in_ok-founded.ensures.answer)

pub returns-clause-grown : goal.returns-clause-grown
returns-clause-grown c = grown_more _ _ _ _ _ _ (grown_more _ _ _ _ _ _ c.add_type.ensures.grown c.add_type-2.ensures.grown) c.unify.ensures.grown

pub returns-clause-answer : goal.returns-clause-answer
returns-clause-answer c =
    let grown = grown_more _ _ _ _ _ _ (grown_more _ _ _ _ _ _ c.add_type.ensures.grown c.add_type-2.ensures.grown) c.unify.ensures.grown in
    let says = rw c.if-not-branch-2.false at c.in_ok-founded.ensures.answer in
    types_unify c.args.vars _ _ _ _ _ c.in_ok-left.left c.in_ok-right.right c.add_type.ensures.grown.longer c.add_type-2.ensures.grown.longer c.requires.system.room c.in_ok-left.ensures.node c.in_ok-left.ensures.says c.in_ok-right.ensures.says c.unify.new.g.cells.items
    c.unify.ensures.in_order
    (says c.args.g.now.cells.items c.args.g.now.changes.items (omega (arith, c.len-cells.ensures)) (omega (arith, c.len-changes.ensures)) grown c.requires.system.founded)
    (omega (arith, c.unify.ensures.len))
    (still_apart c.args.vars _ _ c.unify.ensures.len c.unify.ensures.nothing_new (c.add_type-2.ensures.apart (c.add_type.ensures.apart c.requires.system.apart)))
    (rw c.if-not-branch.false at c.in_ok-unify.ensures.answer)
