-- What a run stands for stays while the heap grows.
use Rattle.std.proofs.Common.{◌≡◌, ◌∙◌, ℕ, Option, refl, ap, List, [], ◌∷◌, map, reverse, Vec, Global}
use Rattle.mc_program.specs.declared.program.Program.{Program}
use Rattle.mc_values.specs.declared.heap.Heap.{Heap}
use Rattle.mc_values.specs.Heap.{Extends}
use Rattle.mc_plain.specs.Frames.{bindings}
use Rattle.mc_plain.specs.Values.{AreHeld}
use Rattle.mc_plain.proofs.Growth.{bindings_grow, are_held_grow, live_from_held}
use Rattle.mc_plain.specs.code.Machine as M
use Rattle.mc_plain.specs.code.Views.{plain_around, plain_now, segment_in, point_in, machine}
use Rattle.mc_plain.specs.code.Held.{PointHeld, SegmentsHeld, PointsHeld, AllHeld}
use Rattle.mc_plain.specs.declared.state.Segment.{Segment}
use Rattle.mc_plain.specs.declared.state.Point.{Point}
use Rattle.mc_plain.specs.declared.state.Point.TheVariants as P
use Rattle.mc_plain.specs.declared.state.NextAction.{NextAction}
use Rattle.mc_plain.specs.declared.state.Control.{Control}

module _ (program : Program) (h k : Heap) (grows : Extends h k) where
  segment_grows : (s : Segment) (ss : List Segment) → SegmentsHeld program h (s ∷ ss) → segment_in k s ≡ segment_in h s
  segment_grows s ss x =
      ap (λ e. record { around = plain_around s.around; bindings = e; level = s.level; height = s.height; below = s.below })
      (bindings_grow h k grows s.frame.items (live_from_held program h s.frame.items x.0))

  pub segments_grow : (ss : List Segment) → SegmentsHeld program h ss → map (segment_in k) ss ≡ map (segment_in h) ss
  segments_grow [] x = refl
  segments_grow (s ∷ ss) x = λ i. segment_grows s ss x i ∷ segments_grow ss x.1 i

  point_grows : (p : Point) → PointHeld program h p → point_in k p ≡ point_in h p
  point_grows (P.Resume place frame) x =
      ap (λ e. M.resume place e) (bindings_grow h k grows frame.items (live_from_held program h frame.items x))
  point_grows (P.Held around frame level height base) x =
      ap (λ e. M.held (plain_around around) e level height base) (bindings_grow h k grows frame.items (live_from_held program h frame.items x))

  pub points_grow : (ps : List Point) → PointsHeld program h ps → map (point_in k) ps ≡ map (point_in h) ps
  points_grow [] x = refl
  points_grow (p ∷ ps) x = λ i. point_grows p x.0 i ∷ points_grow ps x.1 i

  pub segments_stay : (ss : List Segment) → SegmentsHeld program h ss → SegmentsHeld program k ss
  segments_stay [] x = tt
  segments_stay (s ∷ ss) x = (are_held_grow h k grows program s.frame.items x.0, segments_stay ss x.1)

  point_stays : (p : Point) → PointHeld program h p → PointHeld program k p
  point_stays (P.Resume place frame) x = are_held_grow h k grows program frame.items x
  point_stays (P.Held around frame level height base) x = are_held_grow h k grows program frame.items x

  pub points_stay : (ps : List Point) → PointsHeld program h ps → PointsHeld program k ps
  points_stay [] x = tt
  points_stay (p ∷ ps) x = (point_stays p x.0, points_stay ps x.1)

  -- variables and what is done next change alone
  pub atom_kept : (c : Control) (frame : Vec (Option ℕ) Global) (now : NextAction) → AllHeld program h c → machine k (record c { frame = frame; now = now }) ≡ record (machine h c) { bindings = bindings k frame.items; now = plain_now now }
  atom_kept c frame now x =
      λ i. record (machine k (record c { frame = frame; now = now })) {
        points = reverse (points_grow c.points.items x.points i);
        segments = reverse (segments_grow c.segments.items x.segments i);
      }

  pub atom_held : (c : Control) (frame : Vec (Option ℕ) Global) (now : NextAction) → AllHeld program h c → AreHeld program k frame.items → AllHeld program k (record c { frame = frame; now = now })
  atom_held c frame now x held =
      record { frame = held; segments = segments_stay c.segments.items x.segments; points = points_stay c.points.items x.points }

  -- a frame that stands for what another stood for
  pub frame_kept : (c : Control) (frame : Vec (Option ℕ) Global) → AllHeld program h c → AreHeld program h frame.items → bindings h frame.items ≡ bindings h c.frame.items → machine k (record c { frame = frame }) ≡ machine h c
  frame_kept c frame x held same =
      atom_kept c frame c.now x
      ∙ ap (λ e. record (machine h c) { bindings = e }) (bindings_grow h k grows frame.items (live_from_held program h frame.items held) ∙ same)
