use Rattle.mc_cmd.proofs.Looking.{put_some}
use Rattle.mc_cmd.proofs.named.put.Goals as goal

pub returns-in_ok-push : goal.returns-in_ok-push
returns-in_ok-push c = put_some c.args.values c.args.left.now.items c.push.new.self.items c.in_ok-push.ensures.items
