-- What the parts of the executor stand for over a heap.
use Rattle.std.specs.Prelude.{map, reverse}
use Rattle.mc_values.specs.declared.heap.Heap.{Heap}
use Rattle.mc_plain.specs.Frames.{bindings}
use Rattle.mc_plain.specs.Rest.{plain_halt}
use Rattle.mc_plain.specs.code.Machine as M
use Rattle.mc_plain.specs.code.Machine.{Machine}
use Rattle.mc_plain.specs.declared.state.Continuation.{Continuation}
use Rattle.mc_plain.specs.declared.state.Continuation.TheVariants as A
use Rattle.mc_plain.specs.declared.state.Segment.{Segment}
use Rattle.mc_plain.specs.declared.state.Point.{Point}
use Rattle.mc_plain.specs.declared.state.Point.TheVariants as P
use Rattle.mc_plain.specs.declared.state.NextAction.{NextAction}
use Rattle.mc_plain.specs.declared.state.NextAction.TheVariants as N
use Rattle.mc_plain.specs.declared.state.Control.{Control}

abbrev pub plain_around : Continuation → M.Continuation
plain_around (A.Condition t o) = M.condition t o
plain_around (A.Answered t) = M.answered t
plain_around (A.Negated next) = M.negated next
plain_around (A.Pruned next) = M.pruned next
plain_around (A.Called place) = M.called place

abbrev pub plain_now : NextAction → M.NextAction
plain_now (N.At place) = M.at place
plain_now N.Failing = M.failing
plain_now N.Ended = M.ended
plain_now N.Stuck = M.stuck
plain_now (N.Stopped w) = M.stopped (plain_halt w)

module _ (h : Heap) where
  abbrev pub segment_in : Segment → M.Segment
  segment_in s =
      record {
        around = plain_around s.around;
        bindings = bindings h s.frame.items;
        level = s.level;
        height = s.height;
        below = s.below;
      }

  abbrev pub point_in : Point → M.Point
  point_in (P.Resume place frame) = M.resume place (bindings h frame.items)
  point_in (P.Held around frame level height base) =
      M.held (plain_around around) (bindings h frame.items) level height base

  -- a run at a moment: the last points and segments first
  abbrev pub machine : Control → Machine
  machine c =
      record {
        budget = c.budget;
        points = reverse (map point_in c.points.items);
        segments = reverse (map segment_in c.segments.items);
        base = c.base;
        level = c.level;
        height = c.height;
        bindings = bindings h c.frame.items;
        now = plain_now c.now;
      }
