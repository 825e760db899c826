-- Computed examples of definitions.
use Rattle.std.specs.Prelude.{ℕ, List, [], ◌∷◌, length, codes}
use Rattle.mc_model.specs.declared.inst.InstRef.{InstRef}
use Rattle.mc_model.specs.declared.inst.InstRef.TheVariants.{Old, New}
use Rattle.mc_accepted.specs.InstRules.{PlainInstDef, same_inst, bound_inst, IsUnfounded, HasFreeInside}
use Rattle.mc_insts.specs.declared.define.InstFault.TheVariants as F
use Rattle.mc_insts.specs.Defining.{IsNode, IsFault}

-- one constructor `f` over these insts
abbrev pub over : List InstRef → PlainInstDef
over args = bound_inst (record { name = codes "f"; arity = length args; args = args } ∷ [])

-- a name of a later definition, one of `ground`, a constructor over both, and a name of a name
abbrev pub forward : List PlainInstDef
forward = same_inst (New 2) ∷ same_inst (Old 1) ∷ over (New 3 ∷ New 0 ∷ []) ∷ same_inst (New 1) ∷ over [] ∷ []

abbrev pub Forward : Type 0
Forward = IsNode forward 4 (New 0) 4 × IsNode forward 4 (New 2) 4 × IsNode forward 4 (New 3) 1 × IsNode forward 4 (New 4) 5

-- three names in a ring, and one that leads into it
abbrev pub ring : List PlainInstDef
ring = same_inst (New 1) ∷ same_inst (New 2) ∷ same_inst (New 0) ∷ same_inst (New 1) ∷ []

abbrev pub Ring : Type 0
Ring =
    IsUnfounded ring 0 × IsUnfounded ring 1 × IsUnfounded ring 2 × (IsUnfounded ring 3 → ⊥)
    × ((i : ℕ) → IsNode ring 4 (New 3) i → ⊥)

-- `free` by itself is no fault; inside a constructor it is one, also by a name of a name
abbrev pub inside : List PlainInstDef
inside = same_inst (Old 0) ∷ same_inst (New 0) ∷ over (Old 1 ∷ New 1 ∷ []) ∷ over (Old 0 ∷ []) ∷ []

abbrev pub Inside : Type 0
Inside =
    IsNode inside 4 (New 1) 0 × (HasFreeInside inside 1 → ⊥) × HasFreeInside inside 2 × HasFreeInside inside 3
    × IsFault inside (F.FreeInside 2)

-- the first fault counts, of whichever rule
abbrev pub Both : Type 0
Both =
    IsFault (same_inst (New 0) ∷ over (Old 0 ∷ []) ∷ []) (F.NotFounded 0)
    × IsFault (over (Old 0 ∷ []) ∷ same_inst (New 1) ∷ []) (F.FreeInside 0)
