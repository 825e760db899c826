use Rattle.mc_items.proofs.NoGoal.{no_goal, unread_by}
use Rattle.mc_items.proofs.query.unread.Goals as goal

pub returns-in-Ok : goal.returns-in-Ok
returns-in-Ok c =
    let f = c.args.fault.fault in
    let why = unread_by c.args.text.now c.in-Ok.what f.kind c.in-Ok.rule f.line f.next c.args.fault.at c.requires.refused c.requires.stands c.in-Ok.ensures in
    no_goal c.args.file f.line c.args.text.now c.in-Ok.what c.in-Ok.rule c.no_goal.result c.requires.short why c.no_goal.ensures
