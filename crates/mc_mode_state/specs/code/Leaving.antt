-- What a call leaves of its arguments, one by one.
use Rattle.std.specs.Prelude.{ℕ, Bool, not, ◌||◌, if◌then◌else◌, List}
use Rattle.mc_program.specs.Programs.{TypeTerm, Source}
use Rattle.mc_model.specs.Stream.{is_bound}
use Rattle.mc_accepted.specs.Arranged.{Operations, Declared, Point, with_inst, input_after}
use Rattle.mc_accepted.specs.Ordered.{Mode}

module _ (Op : Operations ℕ) (P : Source) (declared : ℕ → List Declared) (T : ℕ → TypeTerm) where
  abbrev pub left_by : Mode → (is_there : Bool) → ℕ → Point ℕ → Point ℕ
  left_by m t x b =
      if is_bound m.0 then input_after Op P declared T m x b
      else if not (is_bound m.1) || t then b
      else with_inst ℕ x m.1 b
