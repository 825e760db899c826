-- Goals that fit a program and a state: what they name is there, and a constructor has as many
-- arguments as it is declared with. (This project's normal form.)
use Rattle.std.specs.Prelude.{◌≡◌, ◌<◌, length}
use Rattle.mc_program.specs.PlainPrograms.{plain_program}
use Rattle.mc_program.specs.declared.program.Program.{Program}
use Rattle.mc_model.specs.Flat as F
use Rattle.mc_model.specs.Flat.{Flat_goal, Flat_goals, no_flat, flat_then, variables_of, variables_of_all}
use Rattle.mc_procs.specs.Named.{NumbersBelow}
use Rattle.mc_procs.specs.Procedures.{PlainProcs}
use Rattle.mc_mode_state.specs.declared.state.State.{State}

-- its constructors and predicates are there
abbrev mutual
  pub Known : Program → Flat_goal → Type 0
  Known P (F.Same x y) = Unit {0}
  Known P (F.Made x s ys) =
      (s < length P.symbols) × (length ys ≡ ((plain_program P).symbols s).name.arity)
  Known P (F.Is x v) = Unit {0}
  Known P (F.Call p xs) = p < length P.preds
  Known P (F.And gs) = AllKnown P gs
  Known P (F.Or gs) = AllKnown P gs
  Known P (F.If vs c t e) = Known P c × Known P t × Known P e
  Known P (F.Not g) = Known P g
  Known P (F.Exists vs g) = Known P g

  pub AllKnown : Program → Flat_goals → Type 0
  AllKnown P no_flat = Unit {0}
  AllKnown P (flat_then g gs) = Known P g × AllKnown P gs

-- what it names is there
pub record GoalFits (q : PlainProcs) (s : State) (g : Flat_goal) : Type 0 where
  pub variables : NumbersBelow (length s.insts.items) (variables_of g)
  pub known : Known q.program g

pub record GoalsFit (q : PlainProcs) (s : State) (gs : Flat_goals) : Type 0 where
  pub variables : NumbersBelow (length s.insts.items) (variables_of_all gs)
  pub known : AllKnown q.program gs
