-- A walk that marks the places whose types are given: those of a clause's variables, and those of the
-- occurrences that have variables of their own in its normal goal.
use Rattle.std.specs.Prelude.{ℕ, ◌-◌, Bool, true, false, List, [], ◌∷◌, ◌++◌, length, take, drop, slice_set, replicate}
use Rattle.mc_accepted.specs.Resolving.{Step, push_variable, push_number, push_text, choose, equate, call, close_head}
use Rattle.mc_typecheck.specs.declared.marks.Marks.{Marks}
use Rattle.mc_typecheck.specs.declared.marks.Top.{Top}
use Rattle.mc_typecheck.specs.declared.marks.Top.TheVariants as T

-- the terms that were walked and aren't taken yet, and the flags of the places so far
pub record Marking : Type 0 where
  pub stack : List Top
  pub flags : List Bool

abbrev pub marking : Marks → Marking
marking m = record { stack = m.stack.items; flags = m.flags.items }

-- each variable has a type
abbrev pub first_marking : (vars : ℕ) → Marking
first_marking vars = record { stack = []; flags = replicate vars true }

abbrev pub topmost : ℕ → List Top → List Top
topmost n stack = drop (length stack - n) stack

abbrev pub below : ℕ → List Top → List Top
below n stack = take (length stack - n) stack

-- an occurrence more, which has a variable of its own unless the whole term is equated with one
abbrev pub pushed : List Top → List Bool → Marking
pushed stack flags =
    record { stack = stack ++ T.Occurrence (length flags) ∷ []; flags = flags ++ true ∷ [] }

abbrev pub unmarked : Top → List Bool → List Bool
unmarked T.Variable flags = flags
unmarked (T.Occurrence k) flags = slice_set flags k false

abbrev pub all_unmarked : List Top → List Bool → List Bool
all_unmarked [] flags = flags
all_unmarked (t ∷ ts) flags = all_unmarked ts (unmarked t flags)

-- the side of an equation that is equated with the other's variable
abbrev pub equated : List Top → Top
equated (a ∷ T.Variable ∷ []) = a
equated (a ∷ b ∷ []) = b
equated _ = T.Variable

abbrev pub after : Step → Marking → Marking
after (push_variable v) s = record { stack = s.stack ++ T.Variable ∷ []; flags = s.flags }
after push_number s = pushed s.stack s.flags
after push_text s = pushed s.stack s.flags
after (choose cs n) s = pushed (below n s.stack) s.flags
after equate s =
    record { stack = below 2 s.stack; flags = unmarked (equated (topmost 2 s.stack)) s.flags }
after (call cs n) s = record { stack = below n s.stack; flags = s.flags }
after (close_head p n) s =
    record { stack = below n s.stack; flags = all_unmarked (topmost n s.stack) s.flags }

abbrev pub after_all : List Step → Marking → Marking
after_all [] s = s
after_all (step ∷ steps) s = after_all steps (after step s)
