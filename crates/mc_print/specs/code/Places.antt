-- How a value is written from its front: what stands before its first argument, after each argument
-- but the last, and after the last one.
use Rattle.std.specs.Prelude.{ℕ, List, [], ◌∷◌, ◌++◌, Bool, true, false, nat_eq, codes, if◌then◌else◌, ⊤}
use Rattle.std.specs.Cmp.Lexicographic.{pointwise}
use Rattle.mc_program.specs.Values.{Val, con, val_then}
use Rattle.mc_program.specs.Printed.{printed, printed_tail, name_text, constant_text, is_nil}
use Rattle.mc_print.specs.declared.value.Place.{Place}
use Rattle.mc_print.specs.declared.value.Place.TheVariants.{Whole, Tail}

-- what stands before a value that is no list
abbrev pub lead : Place → List ℕ
lead Whole = []
lead Tail = codes " | "

-- the text of a value where it stands
abbrev pub at_place : List (List ℕ) → Place → Val → List ℕ
at_place names Whole v = printed names v
at_place names Tail v = printed_tail names v

-- what stands before the first argument
abbrev pub opening : Place → List ℕ → Bool → List ℕ
opening Whole name true = codes "["
opening Tail name true = codes ", "
opening place name false = lead place ++ (name_text name ++ codes "(")

-- what stands after an argument that isn't the last
abbrev pub separator : Bool → List ℕ
separator true = []
separator false = codes ", "

-- the arguments before the last one
abbrev pub fronts_text : List (List ℕ) → Bool → List Val → List ℕ
fronts_text names in_cell [] = []
fronts_text names in_cell (v ∷ vs) =
    printed names v ++ (separator in_cell ++ fronts_text names in_cell vs)

-- where the last argument stands
abbrev pub last_place : Bool → Place
last_place true = Tail
last_place false = Whole

-- what stands after the last argument
abbrev pub closing : Place → Bool → List ℕ
closing Whole true = codes "]"
closing Tail true = []
closing place false = codes ")"

-- a value without arguments
abbrev pub IsEnd : Val → Type 0
IsEnd (con symbol (val_then v vs)) = ⊥
IsEnd _ = ⊤

-- whether a constructor over these arguments and one more is a list's
abbrev pub is_list_front : List ℕ → List Val → Bool
is_list_front name (v ∷ []) = pointwise nat_eq name (codes "[|]")
is_list_front name _ = false

-- a constructor without arguments where it stands; the end of a list has no text
abbrev pub last_constant : Place → List ℕ → List ℕ
last_constant Whole name = constant_text name
last_constant Tail name = if is_nil name then [] else codes " | " ++ constant_text name
