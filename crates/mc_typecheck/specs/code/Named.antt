-- Places that are given the types of a signature, which are names without arguments.
use Rattle.std.specs.Prelude.{◌≡◌, ◌↔◌, ℕ, zero, suc, ◌+◌, List, [], ◌∷◌, ◌++◌, length, map, take, drop}
use Rattle.mc_program.specs.Programs.{TypeTerm}
use Rattle.mc_types.specs.Trees.{of_name}
use Rattle.mc_types.specs.declared.cells.TypeName.{TypeName}
use Rattle.mc_types.specs.declared.written_types.Written.{Written, Free}
use Rattle.mc_typecheck.specs.Ties.{Declared}
use Rattle.mc_typecheck.specs.NamedWalks.{Suits, EachOwn, Solves}
use Rattle.mc_typecheck.specs.declared.named.NamedWalk.{NamedWalk}

abbrev pub free_types : ℕ → List Written
free_types zero = []
free_types (suc n) = free_types n ++ Free n ∷ []

-- a place was given a name for its type
pub record IsNamed (before : List Written) (place : ℕ) (type : TypeTerm) (after : List Written) : Type 0 where
  pub name : TypeName
  pub is : type ≡ of_name name
  pub own : EachOwn before → EachOwn after
  pub means :
      EachOwn before
      → (τ : ℕ → TypeTerm) → Solves τ after ↔ (Solves τ before × (τ place ≡ type))

-- places were given declared types
pub record AreNamed (before : List Written) (d : Declared) (places : List ℕ) (after : List Written) : Type 0 where
  pub long : length d.types ≡ length places
  pub own : EachOwn before → EachOwn after
  pub means :
      EachOwn before
      → (τ : ℕ → TypeTerm) → Solves τ after ↔ (Solves τ before × Suits (map τ places) d)

-- the terms from a place of the stack on were given these types, and taken off
pub record IsTaken (d : Declared) (from : ℕ) (before after : NamedWalk) : Type 0 where
  pub as_many : length after.types.items ≡ length before.types.items
  pub named : AreNamed before.types.items d (drop from before.stack.items) after.types.items
  pub stack : after.stack.items ≡ take from before.stack.items
  pub picks : after.picks.items ≡ before.picks.items

-- so were they and one behind them, which is on the stack in their place
pub record IsPushed (d : Declared) (from : ℕ) (before after : NamedWalk) : Type 0 where
  pub as_many : length after.types.items ≡ length before.types.items + 1
  pub named :
      AreNamed before.types.items d
      (drop from before.stack.items ++ length before.types.items ∷ []) after.types.items
  pub stack : after.stack.items ≡ take from before.stack.items ++ length before.types.items ∷ []
  pub picks : after.picks.items ≡ before.picks.items
