-- The law of skeletons: a goal's skeleton comes to what the table says of the goal, whatever the
-- determinisms of procedures are. So the least determinisms by skeletons are the least by the table.
-- (Mercury Language Reference Manual: Determinism, inference.)
use Rattle.std.specs.Prelude.{◌≡◌, ℕ, ◌<◌, ◌≤◌, List, length, Option}
use Rattle.mc_program.specs.Programs.{TypeTerm}
use Rattle.mc_source.specs.Determinism.{inferred, det}
use Rattle.mc_source.specs.declared.det.Det.{Det}
use Rattle.mc_model.specs.Scheduled.{Node, Procedure}
use Rattle.mc_model.specs.Good.{System}
use Rattle.mc_accepted.specs.Ordered.{Insts}
use Rattle.mc_accepted.specs.Determined.{Known, nothing_known, determined}
use Rattle.mc_accepted.specs.Fits.{type_of}
use Rattle.mc_accepted.specs.Accepted.{entered}
use Rattle.mc_accepted.specs.Inferred.{DeclaredSystem, with_determinisms, LeastClosed}
use Rattle.mc_det_constraints.specs.declared.constraint.Step.{Step}
use Rattle.mc_det_constraints.specs.Skeletons.{value}
use Rattle.mc_det_constraints.specs.Least.{body_at, declared_at, Least}
use Rattle.mc_det.specs.Bodies.{constraint}

abbrev pub SkeletonsTell : Type 0
SkeletonsTell =
    (S : System) (type : ℕ → TypeTerm) (b : Insts) (known : Known) (n : Node) (ds : ℕ → Det)
    → value ds (constraint S type b known n) ≡ determined (with_determinisms S ds) type b known n

-- a system's procedures as they stand, and the skeleton of a procedure's body, which doesn't depend
-- on their determinisms
abbrev pub as_they_stand : DeclaredSystem → System
as_they_stand D =
    record {
      world = D.world;
      count = D.count;
      procs = λ k. (D.procs k).procedure;
      insts = D.insts;
    }

abbrev pub constraint_of : System → Procedure → List Step
constraint_of S p =
    constraint S (type_of S p) (entered p.head p.first) nothing_known p.body

-- these are the skeletons of a system's bodies, and what is declared of its procedures
pub record AreBodies
    (D : DeclaredSystem) (bodies : List (List Step)) (declared : List (Option Det)) : Type 0 where
  pub count : length bodies ≡ D.count
  pub bodies_are :
      (k : ℕ)
      → k < D.count →
      body_at bodies k ≡ constraint_of (as_they_stand D) (D.procs k).procedure
  pub declared_are : (k : ℕ) → k < D.count → declared_at declared k ≡ (D.procs k).declared
  pub others : (k : ℕ) → D.count ≤ k → (D.procs k).procedure.det ≡ inferred det

abbrev pub LeastBySkeletons : Type 0
LeastBySkeletons =
    (D : DeclaredSystem) (bodies : List (List Step)) (declared : List (Option Det)) (ds : ℕ → Det)
    → AreBodies D bodies declared → Least bodies declared ds → LeastClosed D ds
