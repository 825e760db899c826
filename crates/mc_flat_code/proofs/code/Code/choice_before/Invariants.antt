use Rattle.std.proofs.Common.{◌≡◌, ◌<◌, List, [], ◌∷◌, ◌++◌, ℕ, length}
use Rattle.mc_flat_code.specs.Running.{IsCode, EachBelow}
use Rattle.mc_flat_code.specs.Standing.{Chain}
use Rattle.mc_flat_code.specs.code.Building.{Grows}
use Rattle.mc_flat_code.specs.code.Mentioning.{Brings, Nothing}
use Rattle.mc_flat_code.proofs.code.Code.choice_before.Given as goal

abbrev pub invariant-loop-rest : goal.invariant-loop-rest
invariant-loop-rest l =
    record {
      grows : Grows l.fn.self l.self;
      is_code : IsCode l.self;
      within : l.choice < length l.self.instrs.items;
      below : EachBelow (length l.self.instrs.items) l.rest;
      chain : (done : List ℕ) × ((l.fn.places ++ l.fn.last ∷ [] ≡ l.rest ++ done) × Chain l.self done l.choice);
      brings : Brings l.fn.self l.self Nothing;
    }

abbrev pub decreases-loop-rest : goal.decreases-loop-rest
decreases-loop-rest l = length l.rest
