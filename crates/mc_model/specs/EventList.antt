-- Event lists: what a run does, in order, and how it ends. (Mercury Language Reference Manual:
-- Semantics, operational semantics; this project's profile of it, strict sequential execution.)
use Rattle.std.specs.Prelude.{◌⊎◌, ℕ, zero, suc, ◌≤◌, ◌≡◌, Option, Some, None, List, [], ◌++◌}
use Rattle.mc_program.specs.Values.{Val}
use Rattle.mc_source.specs.declared.det.Most.{Most}
use Rattle.mc_source.specs.declared.det.Most.TheVariants.{Zero, One, Many}

-- an exception: a zero divisor, or the text of `error`
pub data Exc : Type 0 where
  zero_divide : Exc
  error : (text : List ℕ) → Exc

-- why a run stops before its end
pub data Halt : Type 0 where
  budget : Halt
  too_deep : Halt
  thrown : Exc → Halt

-- a call that is made: its procedure and its arguments, those that are unbound left out
pub record Made_call : Type 0 where
  pub proc : ℕ
  pub args : List (Option Val)

-- The events of a run in order, with answers of a type. A list ends by End, by a stop, or by Stuck,
-- where an unbound variable would be read.
pub data Items (A : Type 0) : Type 0 where
  End : Items A
  Stuck : Items A
  Stopped : Halt → Items A
  Answer : A → Items A → Items A
  Called : Made_call → Items A → Items A
  Wrote : (text : List ℕ) → Items A → Items A
  Read : (from : ℕ) → Items A → Items A

-- one list after another; a stop ends the whole
abbrev pub append : {A : Type 0} → Items A → Items A → Items A
append End ys = ys
append Stuck ys = Stuck
append (Stopped h) ys = Stopped h
append (Answer a xs) ys = Answer a (append xs ys)
append (Called c xs) ys = Called c (append xs ys)
append (Wrote t xs) ys = Wrote t (append xs ys)
append (Read k xs) ys = Read k (append xs ys)

-- each answer is replaced by a list of its own
abbrev pub bind : {A B : Type 0} → Items A → (A → Items B) → Items B
bind End f = End
bind Stuck f = Stuck
bind (Stopped h) f = Stopped h
bind (Answer a xs) f = append (f a) (bind xs f)
bind (Called c xs) f = Called c (bind xs f)
bind (Wrote t xs) f = Wrote t (bind xs f)
bind (Read k xs) f = Read k (bind xs f)

-- each answer of a condition is replaced by the then part's list; where there is none and the
-- condition ends, the else part's list follows
abbrev pub choose : {A B : Type 0} → Items A → (A → Items B) → Items B → Items B
choose End f ys = ys
choose Stuck f ys = Stuck
choose (Stopped h) f ys = Stopped h
choose (Answer a xs) f ys = append (f a) (bind xs f)
choose (Called c xs) f ys = Called c (choose xs f ys)
choose (Wrote t xs) f ys = Wrote t (choose xs f ys)
choose (Read k xs) f ys = Read k (choose xs f ys)

-- the list to its first answer, and then its end
abbrev pub first : {A : Type 0} → Items A → Items A
first End = End
first Stuck = Stuck
first (Stopped h) = Stopped h
first (Answer a xs) = Answer a End
first (Called c xs) = Called c (first xs)
first (Wrote t xs) = Wrote t (first xs)
first (Read k xs) = Read k (first xs)

-- the list to its first answer, without it, and then its end; where it has none and ends, the one
-- answer that is given
abbrev pub negate : {A B : Type 0} → B → Items A → Items B
negate b End = Answer b End
negate b Stuck = Stuck
negate b (Stopped h) = Stopped h
negate b (Answer a xs) = End
negate b (Called c xs) = Called c (negate b xs)
negate b (Wrote t xs) = Wrote t (negate b xs)
negate b (Read k xs) = Read k (negate b xs)

-- the list up to its call number n + 1, without it, and then the stop at the budget; or the whole
-- list
abbrev pub cut : {A : Type 0} → ℕ → Items A → Items A
cut n End = End
cut n Stuck = Stuck
cut n (Stopped h) = Stopped h
cut n (Answer a xs) = Answer a (cut n xs)
cut zero (Called c xs) = Stopped budget
cut (suc n) (Called c xs) = Called c (cut n xs)
cut n (Wrote t xs) = Wrote t (cut n xs)
cut n (Read k xs) = Read k (cut n xs)

-- one answer, or none
abbrev pub of_option : {A : Type 0} → Option A → Items A
of_option None = End
of_option (Some a) = Answer a End

-- the list isn't stuck, and P holds of each answer
abbrev pub Each : {A : Type 0} → (A → Type 0) → Items A → Type 0
Each P End = Unit {0}
Each P Stuck = ⊥
Each P (Stopped h) = Unit {0}
Each P (Answer a xs) = P a × Each P xs
Each P (Called c xs) = Each P xs
Each P (Wrote t xs) = Each P xs
Each P (Read k xs) = Each P xs

-- the list ends by End
abbrev pub Ends : {A : Type 0} → Items A → Type 0
Ends End = Unit {0}
Ends Stuck = ⊥
Ends (Stopped h) = ⊥
Ends (Answer a xs) = Ends xs
Ends (Called c xs) = Ends xs
Ends (Wrote t xs) = Ends xs
Ends (Read k xs) = Ends xs

-- where the list ends, it has an answer
abbrev pub Succeeds : {A : Type 0} → Items A → Type 0
Succeeds End = ⊥
Succeeds Stuck = Unit {0}
Succeeds (Stopped h) = Unit {0}
Succeeds (Answer a xs) = Unit {0}
Succeeds (Called c xs) = Succeeds xs
Succeeds (Wrote t xs) = Succeeds xs
Succeeds (Read k xs) = Succeeds xs

-- how many answers there are
abbrev pub answers : {A : Type 0} → Items A → ℕ
answers End = 0
answers Stuck = 0
answers (Stopped h) = 0
answers (Answer a xs) = suc (answers xs)
answers (Called c xs) = answers xs
answers (Wrote t xs) = answers xs
answers (Read k xs) = answers xs

-- there are at most so many answers
abbrev pub AtMost : {A : Type 0} → Most → Items A → Type 0
AtMost Zero xs = answers xs ≡ 0
AtMost One xs = answers xs ≤ 1
AtMost Many xs = Unit {0}

-- where the list ends, P holds of one of its answers, or F holds
abbrev pub Covers : {A : Type 0} → (A → Type 0) → Type 0 → Items A → Type 0
Covers P F End = F
Covers P F Stuck = Unit {0}
Covers P F (Stopped h) = Unit {0}
Covers P F (Answer a xs) = P a ⊎ Covers P F xs
Covers P F (Called c xs) = Covers P F xs
Covers P F (Wrote t xs) = Covers P F xs
Covers P F (Read k xs) = Covers P F xs

-- Q holds of each call that is made
abbrev pub EachCall : {A : Type 0} → (Made_call → Type 0) → Items A → Type 0
EachCall Q End = Unit {0}
EachCall Q Stuck = Unit {0}
EachCall Q (Stopped h) = Unit {0}
EachCall Q (Answer a xs) = EachCall Q xs
EachCall Q (Called c xs) = Q c × EachCall Q xs
EachCall Q (Wrote t xs) = EachCall Q xs
EachCall Q (Read k xs) = EachCall Q xs

-- the texts that are written, one after another
abbrev pub written : {A : Type 0} → Items A → List ℕ
written End = []
written Stuck = []
written (Stopped h) = []
written (Answer a xs) = written xs
written (Called c xs) = written xs
written (Wrote t xs) = t ++ written xs
written (Read k xs) = written xs
