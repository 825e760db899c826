use Rattle.mc_base.proofs.Joining.{both_in_room}
use Rattle.mc_base.proofs.text.joined.Goals as goal

pub returns : goal.returns
returns c =
    both_in_room c.args.front.now c.args.back.now c.copy_from_slice.new.self c.copy_from_slice-2.new.self _ _ c.copy_from_slice.ensures.after c.copy_from_slice-2.ensures.after
