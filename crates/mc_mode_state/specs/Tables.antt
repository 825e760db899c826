-- Tables of nodes of the graph of insts.
use Rattle.std.specs.Prelude.{ℕ, List, [], ◌∷◌, Option, Some, None, nat_eq, ◌&&◌, if◌then◌else◌}
use Rattle.std.specs.Str.{bytes_eq}

-- a node that was found for a number and insts
pub record Entry : Type 0 where
  pub number : ℕ
  pub insts : List ℕ
  pub node : ℕ

abbrev pub entry : ℕ → List ℕ → ℕ → Entry
entry number insts node = record { number = number; insts = insts; node = node }

-- the node that was found for these
abbrev pub node_in : List Entry → (number : ℕ) → (insts : List ℕ) → Option ℕ
node_in [] n is = None
node_in (e ∷ es) n is = if nat_eq n e.number && bytes_eq is e.insts then Some e.node else node_in es n is
