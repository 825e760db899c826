-- What is kept of the inst definitions of a program to tell which reach themselves over others than their
-- own parameters.
use Rattle.std.specs.Prelude.{◌≡◌, ◌≢◌, ◌<◌, ◌↔◌, ℕ, Bool, true, false, List, [], ◌∷◌, map, length, Option, Some, None, slice_get, slice_index, slice_index_or}
use Rattle.mc_model.specs.Lists.{is_in}
use Rattle.mc_accepted.specs.InstRules.{ReachesOthers}
use Rattle.mc_names.specs.Linked.{Defined, Linked}
use Rattle.mc_inst_table.specs.declared.links.Link.{Link}
use Rattle.mc_inst_table.specs.declared.others.Given.{Given}
use Rattle.mc_inst_table.specs.Rules.{inst_bodies}
use Rattle.mc_inst_table.specs.code.Places.{place, width_at}

-- how many parameters an inst definition has
abbrev pub arity_of : Option Defined → ℕ
arity_of None = 0
arity_of (Some d) = d.name.arity

abbrev pub inst_arity : Linked → ℕ → ℕ
inst_arity l k = arity_of (slice_get l.insts k)

-- Each of these stands over as many insts as it has parameters.
abbrev pub AreSized : (widths : List ℕ) → List Link → Type 0
AreSized ws [] = Unit {0}
AreSized ws (l ∷ ls) = (length l.given ≡ width_at ws l.to) × AreSized ws ls

abbrev pub to_of : List Link → List ℕ
to_of ls = map (λ l. l.to) ls

-- the number of a parameter
abbrev pub number_of : Given → (definition parameter : ℕ) → ℕ
number_of s d j = slice_index s.numbers (place s.places.firsts d j)

-- none of these marks is set
abbrev pub NoneMarked : List Bool → Type 0
NoneMarked [] = Unit {0}
NoneMarked (b ∷ bs) = (b ≡ false) × NoneMarked bs

-- marks are set for these numbers
abbrev pub AreMarked : List Bool → List ℕ → Type 0
AreMarked marks ns = (c : ℕ) → (slice_index_or marks c false ≡ true) ↔ (is_in c ns ≡ true)

-- A definition reaches itself over others where something else is given for a parameter of its, or
-- two of its parameters are given for each other; else it doesn't.
pub record AreGiven (l : Linked) (s : Given) : Type 0 where
  pub widths : (d : ℕ) → width_at s.widths d ≡ inst_arity l d
  pub shared :
      (d p q : ℕ)
      → p < width_at s.widths d → q < width_at s.widths d → p ≢ q → number_of s d p ≡ number_of s d q
      → ReachesOthers (inst_bodies l) (width_at s.widths d) d
  pub spoils :
      (d q : ℕ)
      → q < width_at s.widths d → slice_index_or s.spoiled (number_of s d q) false ≡ true
      → ReachesOthers (inst_bodies l) (width_at s.widths d) d
  pub none :
      (d : ℕ)
      → ((p : ℕ) → p < width_at s.widths d → slice_index_or s.spoiled (number_of s d p) false ≡ true → ⊥)
      → ((p q : ℕ) → p < width_at s.widths d → q < width_at s.widths d → number_of s d p ≡ number_of s d q → p ≡ q)
      → ReachesOthers (inst_bodies l) (width_at s.widths d) d → ⊥
