use Rattle.std.proofs.Common.{refl}
use Rattle.mc_print.proofs.Written.{plain_split}
use Rattle.mc_print.proofs.Pendings.{opened}
use Rattle.mc_print.proofs.value.write_front.Goals as goal

pub returns-in_ok-put_front-in-Some : goal.returns-in_ok-put_front-in-Some
returns-in_ok-put_front-in-Some c =
    opened c.args.program.now _ _ c.symbol_name-name.result.now c.args.tasks.now.items c.put_closing.new.tasks.items c.push.new.self.items c.put_front.new.tasks.items c.args.place c.last_place.result c.in-Some.symbol _ _ _ c.is_list_front-is_list.result _
    (plain_split _ _ _ _ c.in-Some.ensures.whole) c.symbol_name-name.ensures c.is_list_front-is_list.ensures c.in_ok-write_opening-in-Some.ensures c.in_ok-put_closing-in-Some.ensures c.last_place.ensures
    (λ names. refl) refl (λ n h. h) c.in_ok-push-in-Some.ensures.items c.in_ok-put_front-in-Some.ensures c.requires
