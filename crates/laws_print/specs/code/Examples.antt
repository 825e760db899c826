-- Printed values and their terms, computed.
use Rattle.std.specs.Prelude.{◌≡◌, ◌≢◌, ℕ, List, [], ◌∷◌, pos, negsuc, codes}
use Rattle.mc_program.specs.Values.{Val, int, char, str, con, no_vals, vals}
use Rattle.mc_program.specs.Printed.{printed}
use Rattle.mc_term_data.specs.Plain.{PlainTerm, at, Int, Str, App, Items, Tailed, no_term, term_list}
use Rattle.laws_print.specs.Terms.{term_of, depth_of}

-- the names of the symbols
abbrev names : List (List ℕ)
names = codes "[|]" ∷ codes "[]" ∷ codes "end" ∷ codes "-" ∷ codes "it's" ∷ []

abbrev written : Val → List ℕ
written = printed names

abbrev read : Val → PlainTerm
read = term_of names 1

-- a name over arguments, on line 1
abbrev over : List ℕ → List PlainTerm → PlainTerm
over name ts = at (App (name ∷ []) (term_list ts)) 1

-- the list of 1 and -2 with the tail `end`
abbrev open_list : Val
open_list = con 0 (vals (int (pos 1) ∷ con 0 (vals (int (negsuc 1) ∷ con 2 no_vals ∷ [])) ∷ []))

abbrev pub OpenList : Type 0
OpenList =
    (written open_list ≡ codes "[1, -2 | end]")
    × (read open_list
    ≡ at
    (Tailed (term_list (at (Int (pos 1)) 1 ∷ at (Int (negsuc 1)) 1 ∷ []))
    (over (codes "end") [])) 1)
    × (depth_of (read open_list) ≡ 2)

-- the operator `-` over a name in quotes, a character, a string and the empty list
abbrev quotes : Val
quotes = con 3 (vals (con 4 no_vals ∷ char 97 ∷ str (codes "\"") ∷ con 1 no_vals ∷ []))

abbrev pub Quotes : Type 0
Quotes =
    (written quotes ≡ codes "'-'('it\\'s', 'a', \"\\\"\", [])")
    × (read quotes
    ≡ over (codes "-")
    (over (codes "it's") [] ∷ over (codes "a") [] ∷ at (Str (codes "\"")) 1
    ∷ at (Items no_term) 1 ∷ []))
    × (depth_of (read quotes) ≡ 2)

-- an operator over a number is no negative number, and `[]` alone is no name
abbrev pub NoOthers : Type 0
NoOthers =
    (read (con 3 (vals (int (pos 1) ∷ []))) ≢ read (int (negsuc 0)))
    × (read (con 1 no_vals) ≢ over (codes "[]") [])
