-- The Refs of a stack stay those of values where it is pushed, popped and cut.
use Rattle.std.proofs.Common.{◌≡◌, ℕ, zero, suc, sym, subst, List, [], ◌∷◌, ◌++◌, take}
use Rattle.mc_program.specs.declared.program.Program.{Program}
use Rattle.mc_values.specs.declared.heap.Heap.{Heap}
use Rattle.mc_plain.specs.Values.{AreHeld}
use Rattle.mc_plain.specs.code.Held.{PointHeld, SegmentsHeld, PointsHeld}
use Rattle.mc_plain.specs.declared.state.Segment.{Segment}
use Rattle.mc_plain.specs.declared.state.Point.{Point}

module _ (P : Program) (h : Heap) where
  segments_more : (xs : List Segment) (s : Segment) → SegmentsHeld P h xs → AreHeld P h s.frame.items → SegmentsHeld P h (xs ++ s ∷ [])
  segments_more [] s x y = (y, tt)
  segments_more (z ∷ zs) s x y = (x.0, segments_more zs s x.1 y)

  segments_less : (xs : List Segment) (s : Segment) → SegmentsHeld P h (xs ++ s ∷ []) → SegmentsHeld P h xs × AreHeld P h s.frame.items
  segments_less [] s x = (tt, x.0)
  segments_less (z ∷ zs) s x = let r : SegmentsHeld P h zs × AreHeld P h s.frame.items = segments_less zs s x.1 in ((x.0, r.0), r.1)

  points_more : (xs : List Point) (p : Point) → PointsHeld P h xs → PointHeld P h p → PointsHeld P h (xs ++ p ∷ [])
  points_more [] p x y = (y, tt)
  points_more (z ∷ zs) p x y = (x.0, points_more zs p x.1 y)

  points_less : (xs : List Point) (p : Point) → PointsHeld P h (xs ++ p ∷ []) → PointsHeld P h xs × PointHeld P h p
  points_less [] p x = (tt, x.0)
  points_less (z ∷ zs) p x = let r : PointsHeld P h zs × PointHeld P h p = points_less zs p x.1 in ((x.0, r.0), r.1)

  pub segments_pushed : (xs ys : List Segment) (s : Segment) → ys ≡ xs ++ s ∷ [] → SegmentsHeld P h xs → AreHeld P h s.frame.items → SegmentsHeld P h ys
  segments_pushed xs ys s e x y = subst (SegmentsHeld P h) (sym e) (segments_more xs s x y)

  pub segments_popped : (xs ys : List Segment) (s : Segment) → ys ≡ xs ++ s ∷ [] → SegmentsHeld P h ys → SegmentsHeld P h xs × AreHeld P h s.frame.items
  segments_popped xs ys s e x = segments_less xs s (subst (SegmentsHeld P h) e x)

  pub points_pushed : (xs ys : List Point) (p : Point) → ys ≡ xs ++ p ∷ [] → PointsHeld P h xs → PointHeld P h p → PointsHeld P h ys
  points_pushed xs ys p e x y = subst (PointsHeld P h) (sym e) (points_more xs p x y)

  pub points_popped : (xs ys : List Point) (p : Point) → ys ≡ xs ++ p ∷ [] → PointsHeld P h ys → PointsHeld P h xs × PointHeld P h p
  points_popped xs ys p e x = points_less xs p (subst (PointsHeld P h) e x)

  pub points_cut : (n : ℕ) (xs : List Point) → PointsHeld P h xs → PointsHeld P h (take n xs)
  points_cut zero xs x = tt
  points_cut (suc n) [] x = tt
  points_cut (suc n) (z ∷ zs) x = (x.0, points_cut n zs x.1)
