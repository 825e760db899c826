-- Free variables of a goal are among its variables.
use Rattle.std.proofs.Common.{ℕ, Bool, true, false, List, [], ◌∷◌, ◌++◌, if◌then◌else◌}
use Rattle.mc_model.specs.Flat as F
use Rattle.mc_model.specs.Flat.{Flat_goal, Flat_goals, no_flat, flat_then, variables_of, variables_of_all, free_in, free_in_all}
use Rattle.mc_model.specs.Lists.{is_in, without}
use Rattle.mc_procs.specs.Named.{NumbersBelow}
use Rattle.mc_modes.proofs.Counts.{below-first, below-second, below-both}

pub without-below : (n : ℕ) (xs vs : List ℕ) → NumbersBelow n xs → NumbersBelow n (without xs vs)
without-below n [] vs w = tt
without-below n (x ∷ xs) vs w = at (is_in x vs) (without-below n xs vs w.1)
  where
    at : (t : Bool) → NumbersBelow n (without xs vs) → NumbersBelow n (if t then without xs vs else x ∷ without xs vs)
    at true r = r
    at false r = (w.0, r)

mutual
  pub free-below : (n : ℕ) (g : Flat_goal) → NumbersBelow n (variables_of g) → NumbersBelow n (free_in g)
  free-below n (F.Same x y) w = w
  free-below n (F.Made x f ys) w = w
  free-below n (F.Is x v) w = w
  free-below n (F.Call p xs) w = w
  free-below n (F.And gs) w = all-free-below n gs w
  free-below n (F.Or gs) w = all-free-below n gs w
  free-below n (F.If vs c t e) w =
      let all = below-second n vs (variables_of c ++ (variables_of t ++ variables_of e)) w in
      let rest = below-second n (variables_of c) (variables_of t ++ variables_of e) all in
      below-both n (without (free_in c ++ free_in t) vs) (free_in e)
      (without-below n (free_in c ++ free_in t) vs
      (below-both n (free_in c) (free_in t) (free-below n c (below-first n (variables_of c) (variables_of t ++ variables_of e) all)) (free-below n t (below-first n (variables_of t) (variables_of e) rest))))
      (free-below n e (below-second n (variables_of t) (variables_of e) rest))
  free-below n (F.Not g) w = free-below n g w
  free-below n (F.Exists vs g) w = without-below n (free_in g) vs (free-below n g (below-second n vs (variables_of g) w))

  pub all-free-below : (n : ℕ) (gs : Flat_goals) → NumbersBelow n (variables_of_all gs) → NumbersBelow n (free_in_all gs)
  all-free-below n no_flat w = tt
  all-free-below n (flat_then g gs) w =
      below-both n (free_in g) (free_in_all gs) (free-below n g (below-first n (variables_of g) (variables_of_all gs) w)) (all-free-below n gs (below-second n (variables_of g) (variables_of_all gs) w))
