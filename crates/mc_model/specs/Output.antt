-- What the program writes of a run: the bytes on its output, the line on its error output and the
-- status. (This project's profile.)
use Rattle.std.specs.Prelude.{ℕ, List, [], ◌∷◌, ◌++◌, codes, decimal, Option, Some, None}
use Rattle.mc_program.specs.Values.{Val}
use Rattle.mc_model.specs.EventList.{zero_divide, error, Halt, budget, too_deep, thrown, Items, End, Stuck, Stopped, Answer, Called, Wrote, Read}
use Rattle.mc_program.specs.Printed.{answer_text}

-- the texts of an answer's values; of an argument that isn't bound there is none
abbrev pub texts_of : (text : Val → List ℕ) → List (Option Val) → List (List ℕ)
texts_of text [] = []
texts_of text (None ∷ os) = [] ∷ texts_of text os
texts_of text (Some v ∷ os) = text v ∷ texts_of text os

-- the bytes of the events: each text that is written, and each answer's line by the variables'
-- names
abbrev pub bytes_of :
    (text : Val → List ℕ) → (names : List (List ℕ)) → Items (List (Option Val)) → List ℕ
bytes_of text names End = []
bytes_of text names Stuck = []
bytes_of text names (Stopped h) = []
bytes_of text names (Answer os xs) = answer_text names (texts_of text os) ++ bytes_of text names xs
bytes_of text names (Called c xs) = bytes_of text names xs
bytes_of text names (Wrote t xs) = t ++ bytes_of text names xs
bytes_of text names (Read k xs) = bytes_of text names xs

-- a query that ends without an answer adds `false.`
abbrev pub no_answer : Items (List (Option Val)) → List ℕ
no_answer End = codes "false.\n"
no_answer Stuck = []
no_answer (Stopped h) = []
no_answer (Answer os xs) = []
no_answer (Called c xs) = no_answer xs
no_answer (Wrote t xs) = no_answer xs
no_answer (Read k xs) = no_answer xs

abbrev pub query_bytes :
    (text : Val → List ℕ) → (names : List (List ℕ)) → Items (List (Option Val)) → List ℕ
query_bytes text names xs = bytes_of text names xs ++ no_answer xs

-- the line of a stop
abbrev pub stop_line : (budget depth : ℕ) → Halt → List ℕ
stop_line n h budget = codes "merc: budget of " ++ (decimal n ++ codes " calls is spent\n")
stop_line n h too_deep = codes "merc: depth of " ++ (decimal h ++ codes " is reached\n")
stop_line n h (thrown zero_divide) = codes "merc: exception: zero divisor\n"
stop_line n h (thrown (error text)) = codes "merc: exception: " ++ (text ++ codes "\n")
