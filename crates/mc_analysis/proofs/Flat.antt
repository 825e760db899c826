-- Goals whose variables are below a number and that name what is there, in one and in two.
use Rattle.std.proofs.Common.{ℕ, ◌++◌}
use Rattle.mc_program.specs.declared.program.Program.{Program}
use Rattle.mc_model.specs.Flat as F
use Rattle.mc_model.specs.Flat.{Flat_goal, Flat_goals, no_flat, flat_then, variables_of, variables_of_all}
use Rattle.mc_procs.specs.Named.{NumbersBelow}
use Rattle.mc_modes.specs.Fitting.{Known, AllKnown}
use Rattle.mc_modes.proofs.Counts.{below-first, below-second, below-both}
use Rattle.mc_analysis.specs.code.Tests.{FitsFlat, AllFitFlat}

module _ (n : ℕ) (P : Program) where
  mutual
    pub are_below : (g : Flat_goal) → FitsFlat n P g → NumbersBelow n (variables_of g)
    are_below (F.Same x y) h = (h.0, (h.1, tt))
    are_below (F.Made x s ys) h = (h.0, h.1)
    are_below (F.Is x v) h = (h, tt)
    are_below (F.Call p xs) h = h.1
    are_below (F.And gs) h = all_below gs h
    are_below (F.Or gs) h = all_below gs h
    are_below (F.If vs c t e) h =
        below-both n vs (variables_of c ++ (variables_of t ++ variables_of e)) h.0
        (below-both n (variables_of c) (variables_of t ++ variables_of e) (are_below c h.1)
        (below-both n (variables_of t) (variables_of e) (are_below t h.2) (are_below e h.3)))
    are_below (F.Not g) h = are_below g h
    are_below (F.Exists vs g) h = below-both n vs (variables_of g) h.0 (are_below g h.1)

    pub all_below : (gs : Flat_goals) → AllFitFlat n P gs → NumbersBelow n (variables_of_all gs)
    all_below no_flat h = tt
    all_below (flat_then g gs) h = below-both n (variables_of g) (variables_of_all gs) (are_below g h.0) (all_below gs h.1)

  mutual
    pub is_known : (g : Flat_goal) → FitsFlat n P g → Known P g
    is_known (F.Same x y) h = tt
    is_known (F.Made x s ys) h = h.2
    is_known (F.Is x v) h = tt
    is_known (F.Call p xs) h = h.0
    is_known (F.And gs) h = all_known gs h
    is_known (F.Or gs) h = all_known gs h
    is_known (F.If vs c t e) h = (is_known c h.1, is_known t h.2, is_known e h.3)
    is_known (F.Not g) h = is_known g h
    is_known (F.Exists vs g) h = is_known g h.1

    pub all_known : (gs : Flat_goals) → AllFitFlat n P gs → AllKnown P gs
    all_known no_flat h = tt
    all_known (flat_then g gs) h = (is_known g h.0, all_known gs h.1)

  mutual
    pub both : (g : Flat_goal) → NumbersBelow n (variables_of g) → Known P g → FitsFlat n P g
    both (F.Same x y) w k = (w.0, w.1.0)
    both (F.Made x s ys) w k = (w.0, w.1, k)
    both (F.Is x v) w k = w.0
    both (F.Call p xs) w k = (k, w)
    both (F.And gs) w k = all_both gs w k
    both (F.Or gs) w k = all_both gs w k
    both (F.If vs c t e) w k =
        let r : NumbersBelow n (variables_of c ++ (variables_of t ++ variables_of e)) = below-second n vs (variables_of c ++ (variables_of t ++ variables_of e)) w in
        let s : NumbersBelow n (variables_of t ++ variables_of e) = below-second n (variables_of c) (variables_of t ++ variables_of e) r in (
          below-first n vs (variables_of c ++ (variables_of t ++ variables_of e)) w,
          both c (below-first n (variables_of c) (variables_of t ++ variables_of e) r) k.0,
          both t (below-first n (variables_of t) (variables_of e) s) k.1,
          both e (below-second n (variables_of t) (variables_of e) s) k.2,
        )
    both (F.Not g) w k = both g w k
    both (F.Exists vs g) w k = (below-first n vs (variables_of g) w, both g (below-second n vs (variables_of g) w) k)

    pub all_both : (gs : Flat_goals) → NumbersBelow n (variables_of_all gs) → AllKnown P gs → AllFitFlat n P gs
    all_both no_flat w k = tt
    all_both (flat_then g gs) w k =
        (both g (below-first n (variables_of g) (variables_of_all gs) w) k.0, all_both gs (below-second n (variables_of g) (variables_of_all gs) w) k.1)
