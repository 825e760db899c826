use Rattle.std.proofs.Common.{◌∷◌, ◌≡◌, ◌<◌, refl, sym, ap, subst, List, [], length, map, reverse, arith}
use Rattle.mc_plain.specs.code.Machine.{Moved}
use Rattle.mc_plain.specs.code.Views.{machine, plain_now, point_in, segment_in}
use Rattle.mc_plain.specs.declared.state.Segment.{Segment}
use Rattle.mc_plain.proofs.Pushing.{seen_length}
use Rattle.mc_plain.proofs.Strays.{back_moved, out_moved, end_left}
use Rattle.mc_plain.proofs.state.Control.fail.Goals as goal

none_left : (xs : List Segment) → length xs ≡ 0 → xs ≡ []
none_left [] e = refl
none_left (x ∷ xs) e = absurd (omega arith)

pub returns-then-len-self-clause-steps : goal.returns-then-len-self-clause-steps
returns-then-len-self-clause-steps c =
    λ t f outcome head last h o w.
    subst (Moved outcome f head last (machine h c.args.self.now)) (sym (c.in_ok-resume.ensures.goes_on h))
    (back_moved outcome f o head last (machine h c.args.self.now) w (ap plain_now c.requires) (omega (arith, seen_length (point_in h) c.args.self.now.points.items, c.len.ensures, c.if-len-self.true)))

pub returns-then-is_empty-clause-ends : goal.returns-then-is_empty-clause-ends
returns-then-is_empty-clause-ends c =
    λ t.
    let none : c.args.self.now.segments.items ≡ [] = none_left c.args.self.now.segments.items (grind (arith, c.is_empty.ensures, c.if-is_empty.true)) in (
      refl,
      λ f outcome head last h.
          end_left outcome f head last (machine h c.args.self.now) (ap plain_now c.requires) (ap (λ l. reverse (map (segment_in h) l)) none) (omega (arith, seen_length (point_in h) c.args.self.now.points.items, c.len.ensures, c.if-len-self.false)),
    )

pub returns-clause-steps : goal.returns-clause-steps
returns-clause-steps c =
    λ t f outcome head last h o w.
    let some : 0 < length c.args.self.now.segments.items = grind (arith, c.is_empty.ensures, c.if-is_empty.false) in
    subst (Moved outcome f head last (machine h c.args.self.now)) (sym (c.leave.ensures.goes_on h))
    (out_moved outcome f o head last (machine h c.args.self.now) w (ap plain_now c.requires) (omega (arith, seen_length (point_in h) c.args.self.now.points.items, c.len.ensures, c.if-len-self.false)) (omega (arith, some, seen_length (segment_in h) c.args.self.now.segments.items)))
