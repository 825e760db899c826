use Rattle.std.proofs.Common.{arith}
use Rattle.mc_typecheck.specs.code.Tables.{passes_as}
use Rattle.mc_typecheck.proofs.Picked.{name_picked}
use Rattle.mc_typecheck.proofs.picking.Picking.pick.Goals as goal

pub returns-in_ok-note-in-Some-clause-picks : goal.returns-in_ok-note-in-Some-clause-picks
returns-in_ok-note-in-Some-clause-picks c = λ P D h.
    name_picked P D (passes_as c.args.of_atom) c.args.candidates.now c.in-Some.count _ c.next-choice.result c.args.self.now c.next-choice.new.self c.note.new.self (omega (arith, c.in-Some.ensures))
    c.next-choice.ensures.choice c.next-choice.ensures.picks c.in_ok-note-in-Some.ensures.choices (c.in_ok-note-in-Some.ensures.picks P D h)
