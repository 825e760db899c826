use Rattle.std.proofs.Common.{◌≡◌, ◌-◌, ◌+◌, [], ◌∷◌, ◌++◌, length, drop, take, refl, subst, ap, arith, length-drop, length-append}
use Rattle.mc_typecheck.specs.Ties.{Declared, of_name, named, names_term, topmost, below}
use Rattle.mc_typecheck.specs.code.Named.{IsPushed}
use Rattle.mc_typecheck.specs.declared.named.NamedWalk.{NamedWalk}
use Rattle.mc_typecheck.proofs.Naming.{nearer, name_means, named_pushed}
use Rattle.mc_typecheck.proofs.named.NamedWalk.choose.Goals as goal

pub returns-in_ok-named-in-Some : goal.returns-in_ok-named-in-Some
returns-in_ok-named-in-Some c = λ yes P D s shows at.
    let w = c.args.self.now in
    let n = c.args.arguments in
    let pick = c.in-Some.only.pick in
    let from = c.saturating_sub-from.result in
    let near : NamedWalk = record { types = w.types; stack = w.stack; picks = c.push.new.self } in
    let only = c.in-Some.ensures P D shows in
    let Q : Declared → Type 0 = λ d. IsPushed d from near c.push_term.new.self in
    let left : from ≡ length s.stack - n = omega (arith, c.saturating_sub-from.ensures, c.len.ensures, w.stack.ok, ap length at.stack) in
    let top = topmost n s.stack in
    let front = top ++ s.next ∷ [] in
    let count = c.len-2.result - from + 1 in
    let long : count ≡ length front = omega (arith, c.len-2.ensures, w.stack.ok, left, ap length at.stack, length-drop (length s.stack - n) s.stack, length-append top (s.next ∷ [])) in
    named_pushed P D near c.push_term.new.self s (named P D names_term c.args.candidates.now front) (of_name pick) from top (below n s.stack)
    (ap (λ k. drop k s.stack) left) (ap (λ k. take k s.stack) left)
    (name_means P D names_term c.args.candidates.now front pick count long only.0)
    (nearer P D w near s pick at refl refl c.in_ok-push-in-Some.ensures.items)
    (subst Q only.1 (c.in_ok-named-in-Some.ensures yes))
