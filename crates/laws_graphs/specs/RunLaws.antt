-- Procedures whose bodies follow one another have one run. (Somogyi, Henderson, Conway: The
-- execution algorithm of Mercury, 1996; this project's event lists.)
use Rattle.std.specs.Prelude.{◌≡◌, ℕ, List, Option}
use Rattle.mc_program.specs.Values.{Val}
use Rattle.mc_program.specs.Programs.{TypeTerm, Source}
use Rattle.mc_program.specs.declared.builtin.Builtin.{Builtin}
use Rattle.mc_model.specs.Insts.{Graph}
use Rattle.mc_model.specs.Outcomes.{Outcome}
use Rattle.mc_model.specs.Scheduled.{Procedure}
use Rattle.mc_model.specs.Stream.{run_call, run_query}
use Rattle.mc_accepted.specs.Accepted.{entered}
use Rattle.laws_graphs.specs.Nodes.{MeanOne}
use Rattle.laws_graphs.specs.Follows.{Follows}
use Rattle.laws_graphs.specs.FaultLaws.{EachAlike}

-- Two procedures are one but for their bodies, of which one follows the other, and for the insts of
-- their modes, which are alike.
pub record BodyFollows (P : Source) (m n : ℕ) (G H : Graph) (p q : Procedure) : Type 0 where
  pub types : ℕ → TypeTerm
  pub variables : ℕ
  pub others : q ≡ record p { first = q.first; last = q.last; body = q.body }
  pub first : EachAlike p.first q.first
  pub last : EachAlike p.last q.last
  pub body :
      Follows P types variables (MeanOne P m G n H) (entered p.head p.first)
      (entered p.head q.first) p.body q.body

-- at every budget and height
abbrev pub OneRun : Type 0
OneRun =
    (P : Source) (m n : ℕ) (G H : Graph) (procs others : ℕ → Procedure)
    → ((k : ℕ) → BodyFollows P m n G H (procs k) (others k))
    → (outcome : Builtin → List Val → Outcome) (budget height k : ℕ)
    → ((vs : List (Option Val))
    → run_call outcome procs budget height k vs ≡ run_call outcome others budget height k vs)
    × (run_query outcome procs budget height (procs k)
    ≡ run_query outcome others budget height (others k))
