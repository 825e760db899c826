use Rattle.std.proofs.Common.{◌≡◌, ◌-◌, length, refl, subst, ap, arith, length-drop}
use Rattle.mc_typecheck.specs.Ties.{Declared, of_name, named, names_atom, topmost}
use Rattle.mc_typecheck.specs.code.Named.{IsTaken}
use Rattle.mc_typecheck.specs.declared.named.NamedWalk.{NamedWalk}
use Rattle.mc_typecheck.proofs.Naming.{nearer, name_means, named_taken}
use Rattle.mc_typecheck.proofs.named.NamedWalk.call.Goals as goal

pub returns-in_ok-push-in-Some : goal.returns-in_ok-push-in-Some
returns-in_ok-push-in-Some c = λ yes P D s shows at.
    let w = c.args.self.now in
    let n = c.args.arguments in
    let pick = c.in-Some.only.pick in
    let from = c.saturating_sub-from.result in
    let near : NamedWalk = record { types = w.types; stack = w.stack; picks = c.push.new.self } in
    let only = c.in-Some.ensures P D shows in
    let Q : Declared → Type 0 = λ d. IsTaken d from near c.take.new.self in
    let left : from ≡ length w.stack.items - n = omega (arith, c.saturating_sub-from.ensures, c.len.ensures, w.stack.ok) in
    let front = topmost n s.stack in
    let count : c.len-2.result - from ≡ length front = omega (arith, c.len-2.ensures, w.stack.ok, left, ap length at.stack, length-drop (length s.stack - n) s.stack) in
    named_taken P D near c.take.new.self s (named P D names_atom c.args.candidates.now front) (of_name pick) n from left
    (name_means P D names_atom c.args.candidates.now front pick (c.len-2.result - from) count only.0)
    (nearer P D w near s pick at refl refl c.in_ok-push-in-Some.ensures.items)
    (subst Q only.1 (c.take.ensures yes))
