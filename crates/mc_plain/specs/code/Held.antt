-- All Refs of a run stand for values of a program in a heap.
use Rattle.std.specs.Prelude.{List, [], ◌∷◌}
use Rattle.mc_program.specs.declared.program.Program.{Program}
use Rattle.mc_values.specs.declared.heap.Heap.{Heap}
use Rattle.mc_plain.specs.Values.{AreHeld}
use Rattle.mc_plain.specs.declared.state.Segment.{Segment}
use Rattle.mc_plain.specs.declared.state.Point.{Point}
use Rattle.mc_plain.specs.declared.state.Point.TheVariants as P
use Rattle.mc_plain.specs.declared.state.Control.{Control}

module _ (program : Program) (h : Heap) where
  abbrev pub PointHeld : Point → Type 0
  PointHeld (P.Resume place frame) = AreHeld program h frame.items
  PointHeld (P.Held around frame level height base) = AreHeld program h frame.items

  abbrev pub SegmentsHeld : List Segment → Type 0
  SegmentsHeld [] = Unit {0}
  SegmentsHeld (s ∷ ss) = AreHeld program h s.frame.items × SegmentsHeld ss

  abbrev pub PointsHeld : List Point → Type 0
  PointsHeld [] = Unit {0}
  PointsHeld (p ∷ ps) = PointHeld p × PointsHeld ps

  pub record AllHeld (c : Control) : Type 0 where
    pub frame : AreHeld program h c.frame.items
    pub segments : SegmentsHeld c.segments.items
    pub points : PointsHeld c.points.items
