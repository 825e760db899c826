use Rattle.std.proofs.Common.{arith, refl}
use Rattle.std.proofs.lemmas.List.{nil_from_length, take_rest}
use Rattle.mc_values.proofs.WalkLaws.{closed, closed_size, if_copied, if_less, first_of}
use Rattle.mc_values.proofs.heap.Heap.copied_next.Goals as goal

pub returns-in-empty-clause-copied : goal.returns-in-empty-clause-copied
returns-in-empty-clause-copied c =
    closed c.args.self.now c.args.parts.now.items c.args.part c.args.copy c.push.new.self (c.in_ok-push.ensures {u = tt}).ok (nil_from_length c.args.part.rest.now (omega (arith, c.in-empty.len_below)))

pub returns-in-empty-clause-less : goal.returns-in-empty-clause-less
returns-in-empty-clause-less c = closed_size c.args.self.now c.args.parts.now.items c.args.part c.args.copy

pub returns-in_ok-push-in-len1-up-clause-copied : goal.returns-in_ok-push-in-len1-up-clause-copied
returns-in_ok-push-in-len1-up-clause-copied c =
    if_copied c.args.self.now c.args.parts.now.items c.args.part c.args.copy _ _ _ _ (c.in_ok-push-in-len1-up.ensures {u = tt}).items refl (c.in_ok-push.ensures {u = tt}).ok (take_rest c.args.part.rest.now 1) (first_of c.args.part.rest.now c.in-len1-up.len_at_least) c.copied_down.result c.copied_down.new.parts.items c.copied_down.ensures.copied

pub returns-in_ok-push-in-len1-up-clause-less : goal.returns-in_ok-push-in-len1-up-clause-less
returns-in_ok-push-in-len1-up-clause-less c =
    if_less c.args.self.now c.args.parts.now.items c.args.part c.args.copy _ _ _ _ (c.in_ok-push-in-len1-up.ensures {u = tt}).items refl (c.in_ok-push.ensures {u = tt}).ok (take_rest c.args.part.rest.now 1) (first_of c.args.part.rest.now c.in-len1-up.len_at_least) c.copied_down.result c.copied_down.new.parts.items c.copied_down.ensures.less
