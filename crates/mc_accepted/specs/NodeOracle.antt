-- Insts as nodes of a graph. Where a function that looks for a node answers None, the graph has no
-- such node yet.
use Rattle.std.specs.Prelude.{ℕ, List, Option, Some, None, Bool, nat_eq, if◌then◌else◌}
use Rattle.mc_program.specs.Programs.{TypeTerm}
use Rattle.mc_model.specs.Stream.{is_bound}
use Rattle.mc_accepted.specs.Arranged.{Operations}

pub record NodeOracle : Type 0 where
  pub is_dead : ℕ → Bool
  pub over : (symbol : ℕ) → List ℕ → Option ℕ
  pub joined : TypeTerm → List ℕ → Option ℕ
  pub narrowed : ℕ → (symbol : ℕ) → Option (List ℕ)
  pub takes_constants : ℕ → Bool
  pub fits : ℕ → (node : ℕ) → TypeTerm → Bool

-- the node after a goal, where it isn't the one before
abbrev pub other_node : (before after : ℕ) → Option ℕ
other_node i j = if nat_eq i j then None else Some j

abbrev pub of_nodes : NodeOracle → Operations ℕ
of_nodes C =
    record {
      node = λ i. i;
      is_bound = is_bound;
      is_dead = C.is_dead;
      over = C.over;
      joined = C.joined;
      narrowed = C.narrowed;
      takes_constants = C.takes_constants;
      fits = C.fits;
      changed = other_node;
    }
