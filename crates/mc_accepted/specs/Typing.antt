-- Typing: which atoms of a procedure are typed. (Mercury Language Reference Manual: Types.)
use Rattle.std.specs.Prelude.{◌≡◌, ℕ, List, map, Some, Option, None}
use Rattle.mc_program.specs.Values.{Val, int, char, str, con, state}
use Rattle.mc_program.specs.Programs.{TypeTerm, int_type, char_type, string_type, union_type, Source}
use Rattle.mc_model.specs.Types.{instance_of, argument_types, IsValue}
use Rattle.mc_model.specs.Flat.{Flat_goal, Same, Made, Is, Call, And, Or, If, Not, Exists, Flat_goals, no_flat, flat_then}

-- The types of a constructor's arguments where its term is of a type. A term of a type variable is
-- no constructor's, though any value is of a type variable.
abbrev pub constructor_types : Source → ℕ → TypeTerm → Option (List TypeTerm)
constructor_types P s (union_type u ts) = argument_types P s (union_type u ts)
constructor_types P s _ = None

-- the type of a constant
abbrev pub ConstantOf : Val → TypeTerm → Type 0
ConstantOf (int n) t = t ≡ int_type
ConstantOf (char c) t = t ≡ char_type
ConstantOf (str bytes) t = t ≡ string_type
ConstantOf (con s vs) t = ⊥
ConstantOf (state written taken) t = ⊥

-- the atoms of a flat goal are typed by the types of the variables
module _ (P : Source) (T : ℕ → TypeTerm) where
  abbrev mutual
    pub TypedGoal : Flat_goal → Type 0
    TypedGoal (Same x y) = T x ≡ T y
    TypedGoal (Made x s ys) = constructor_types P s (T x) ≡ Some (map T ys)
    TypedGoal (Is x v) = IsValue P v × ConstantOf v (T x)
    TypedGoal (Call p xs) = (σ : ℕ → TypeTerm) × (map T xs ≡ map (instance_of σ) (P.preds p).types)
    TypedGoal (And gs) = TypedGoals gs
    TypedGoal (Or gs) = TypedGoals gs
    TypedGoal (If vs c t e) = TypedGoal c × TypedGoal t × TypedGoal e
    TypedGoal (Not g) = TypedGoal g
    TypedGoal (Exists vs g) = TypedGoal g

    pub TypedGoals : Flat_goals → Type 0
    TypedGoals no_flat = Unit {0}
    TypedGoals (flat_then g gs) = TypedGoal g × TypedGoals gs
