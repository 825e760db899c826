-- The walk of a clause as steps that tie types at places. Each variable of the clause has a place,
-- and each occurrence of a name, a number and a text in a term has one behind them, in the order of
-- the walk. A step ties the types at its places to those of one of the things that it may mean.
-- (Mercury Language Reference Manual: Types, overloading; this project's profile: the walk.)
use Rattle.std.specs.Prelude.{ℕ, suc, ◌-◌, Bool, true, false, nat_eq, not, ◌&&◌, ◌||◌, List, [], ◌∷◌, ◌++◌, length, take, drop, slice_index_or, if◌then◌else◌}
use Rattle.mc_program.specs.Programs.{TypeTerm, int_type, string_type, variable_type, Source}
use Rattle.mc_accepted.specs.ProperTypes.{Parameters}
use Rattle.mc_accepted.specs.Resolving.{Step, push_variable, push_number, push_text, choose, equate, call, close_head, signature}
use Rattle.mc_accepted.specs.MostGeneral.{rigid_count}
use Rattle.mc_source.specs.declared.name.Candidate.{Candidate}
use Rattle.mc_source.specs.declared.name.Candidate.TheVariants as C

-- what a step may mean: a candidate of its name, or the one thing that there is
pub data Meaning : Type 0 where
  of_name : Candidate → Meaning
  of_number : Meaning
  of_text : Meaning
  of_equation : Meaning
  of_head : (pred : ℕ) → Meaning

-- types over variables of their own, which are those below a count; any other variable is rigid
pub record Declared : Type 0 where
  pub vars : ℕ
  pub types : List TypeTerm

pub record Tie : Type 0 where
  pub meanings : List Meaning
  pub places : List ℕ

abbrev pub is_same : Candidate → Candidate → Bool
is_same (C.Con a) (C.Con b) = nat_eq a b
is_same (C.Func a) (C.Func b) = nat_eq a b
is_same (C.Pred a) (C.Pred b) = nat_eq a b
is_same (C.Char a) (C.Char b) = nat_eq a b
is_same _ _ = false

abbrev pub is_among : Candidate → List Candidate → Bool
is_among c [] = false
is_among c (d ∷ ds) = is_same c d || is_among c ds

-- a predicate is an atom's name, and what is none is a term's
abbrev pub names_atom : Candidate → Bool
names_atom (C.Pred p) = true
names_atom _ = false

abbrev pub names_term : Candidate → Bool
names_term c = not (names_atom c)

-- the topmost places of a stack, and those below them
abbrev pub topmost : ℕ → List ℕ → List ℕ
topmost n stack = drop (length stack - n) stack

abbrev pub below : ℕ → List ℕ → List ℕ
below n stack = take (length stack - n) stack

module _ (P : Source) (D : Parameters) where
  -- Both sides of an equation have one type. The types of a head are rigid, all others are renamed
  -- apart at each step.
  abbrev pub declared : Meaning → Declared
  declared (of_name c) =
      record { vars = rigid_count (signature P D c); types = signature P D c }
  declared of_number = record { vars = 0; types = int_type ∷ [] }
  declared of_text = record { vars = 0; types = string_type ∷ [] }
  declared of_equation = record { vars = 1; types = variable_type 0 ∷ variable_type 0 ∷ [] }
  declared (of_head p) = record { vars = 0; types = (P.preds p).types }

  -- the candidates of a name that pass a test and have so many types, each where it is met first
  abbrev pub offered :
      (passes : Candidate → Bool) → (count : ℕ) → (met rest : List Candidate) → List Meaning
  offered passes n met [] = []
  offered passes n met (c ∷ cs) =
      if passes c && (nat_eq (length (signature P D c)) n && not (is_among c met))
      then of_name c ∷ offered passes n (met ++ c ∷ []) cs
      else offered passes n (met ++ c ∷ []) cs

  -- a step that has one meaning, where that has as many types as there are places
  abbrev pub sole : Meaning → List ℕ → Tie
  sole m places =
      record {
        meanings =
            if nat_eq (length (declared m).types) (length places) then m ∷ [] else [];
        places = places;
      }

  abbrev pub named :
      (passes : Candidate → Bool) → (candidates : List Candidate) → (places : List ℕ) → Tie
  named passes cs places =
      record { meanings = offered passes (length places) [] cs; places = places }

  -- the steps that a walk makes from a stack of places on, where `next` is the next place
  abbrev pub tied : List Step → (next : ℕ) → (stack : List ℕ) → List Tie
  tied [] next stack = []
  tied (push_variable v ∷ steps) next stack = tied steps next (stack ++ v ∷ [])
  tied (push_number ∷ steps) next stack =
      sole of_number (next ∷ []) ∷ tied steps (suc next) (stack ++ next ∷ [])
  tied (push_text ∷ steps) next stack =
      sole of_text (next ∷ []) ∷ tied steps (suc next) (stack ++ next ∷ [])
  tied (choose cs n ∷ steps) next stack =
      named names_term cs (topmost n stack ++ next ∷ [])
      ∷ tied steps (suc next) (below n stack ++ next ∷ [])
  tied (equate ∷ steps) next stack =
      sole of_equation (topmost 2 stack) ∷ tied steps next (below 2 stack)
  tied (call cs n ∷ steps) next stack =
      named names_atom cs (topmost n stack) ∷ tied steps next (below n stack)
  tied (close_head p n ∷ steps) next stack =
      sole (of_head p) (topmost n stack) ∷ tied steps next (below n stack)

-- how many places steps make, and how many of them tie
abbrev pub made_by : List Step → ℕ
made_by [] = 0
made_by (push_number ∷ steps) = suc (made_by steps)
made_by (push_text ∷ steps) = suc (made_by steps)
made_by (choose cs n ∷ steps) = suc (made_by steps)
made_by (s ∷ steps) = made_by steps

abbrev pub ties_in : List Step → ℕ
ties_in [] = 0
ties_in (push_variable v ∷ steps) = ties_in steps
ties_in (s ∷ steps) = suc (ties_in steps)

-- the picks of choices, each the number of a meaning of its step
abbrev pub pick_of : Meaning → List Candidate
pick_of (of_name c) = c ∷ []
pick_of _ = []

abbrev pub picks_of : List Tie → List ℕ → List Candidate
picks_of (tie ∷ ties) (c ∷ choices) =
    pick_of (slice_index_or tie.meanings c of_equation) ++ picks_of ties choices
picks_of _ _ = []
