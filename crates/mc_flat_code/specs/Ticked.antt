-- Event lists of flat code, with a tick for each place of the code that is run, so that a run that
-- shows nothing for long has a length. Without ticks they are the lists of mc_model's EventList.
-- (Mercury Language Reference Manual: Semantics, strict sequential execution.)
use Rattle.std.specs.Prelude.{ℕ, zero, suc, List, Bool, true, false}
use Rattle.mc_model.specs.EventList as L
use Rattle.mc_model.specs.EventList.{Items, Halt, too_deep, Made_call}

-- the events of a run in order, with answers of a type, and its ticks
pub data Ticked (A : Type 0) : Type 0 where
  End : Ticked A
  Stuck : Ticked A
  Stopped : Halt → Ticked A
  Answer : A → Ticked A → Ticked A
  Called : Made_call → Ticked A → Ticked A
  Wrote : (text : List ℕ) → Ticked A → Ticked A
  Read : (from : ℕ) → Ticked A → Ticked A
  Tick : Ticked A → Ticked A

-- the list without its ticks
abbrev pub events : {A : Type 0} → Ticked A → Items A
events End = L.End
events Stuck = L.Stuck
events (Stopped h) = L.Stopped h
events (Answer a xs) = L.Answer a (events xs)
events (Called c xs) = L.Called c (events xs)
events (Wrote t xs) = L.Wrote t (events xs)
events (Read k xs) = L.Read k (events xs)
events (Tick xs) = events xs

-- the functions of EventList, which keep ticks in their places
abbrev pub append : {A : Type 0} → Ticked A → Ticked A → Ticked A
append End ys = ys
append Stuck ys = Stuck
append (Stopped h) ys = Stopped h
append (Answer a xs) ys = Answer a (append xs ys)
append (Called c xs) ys = Called c (append xs ys)
append (Wrote t xs) ys = Wrote t (append xs ys)
append (Read k xs) ys = Read k (append xs ys)
append (Tick xs) ys = Tick (append xs ys)

abbrev pub bind : {A B : Type 0} → Ticked A → (A → Ticked B) → Ticked B
bind End f = End
bind Stuck f = Stuck
bind (Stopped h) f = Stopped h
bind (Answer a xs) f = append (f a) (bind xs f)
bind (Called c xs) f = Called c (bind xs f)
bind (Wrote t xs) f = Wrote t (bind xs f)
bind (Read k xs) f = Read k (bind xs f)
bind (Tick xs) f = Tick (bind xs f)

abbrev pub choose : {A B : Type 0} → Ticked A → (A → Ticked B) → Ticked B → Ticked B
choose End f ys = ys
choose Stuck f ys = Stuck
choose (Stopped h) f ys = Stopped h
choose (Answer a xs) f ys = append (f a) (bind xs f)
choose (Called c xs) f ys = Called c (choose xs f ys)
choose (Wrote t xs) f ys = Wrote t (choose xs f ys)
choose (Read k xs) f ys = Read k (choose xs f ys)
choose (Tick xs) f ys = Tick (choose xs f ys)

abbrev pub first : {A : Type 0} → Ticked A → Ticked A
first End = End
first Stuck = Stuck
first (Stopped h) = Stopped h
first (Answer a xs) = Answer a End
first (Called c xs) = Called c (first xs)
first (Wrote t xs) = Wrote t (first xs)
first (Read k xs) = Read k (first xs)
first (Tick xs) = Tick (first xs)

abbrev pub negate : {A B : Type 0} → B → Ticked A → Ticked B
negate b End = Answer b End
negate b Stuck = Stuck
negate b (Stopped h) = Stopped h
negate b (Answer a xs) = End
negate b (Called c xs) = Called c (negate b xs)
negate b (Wrote t xs) = Wrote t (negate b xs)
negate b (Read k xs) = Read k (negate b xs)
negate b (Tick xs) = Tick (negate b xs)

-- each answer of a list without ticks is replaced by a list
abbrev pub follow : {A B : Type 0} → Items A → (A → Ticked B) → Ticked B
follow L.End f = End
follow L.Stuck f = Stuck
follow (L.Stopped h) f = Stopped h
follow (L.Answer a xs) f = append (f a) (follow xs f)
follow (L.Called c xs) f = Called c (follow xs f)
follow (L.Wrote t xs) f = Wrote t (follow xs f)
follow (L.Read k xs) f = Read k (follow xs f)

-- a call that isn't last runs at the height less one, and too deep where there is none; a last call
-- keeps its height
abbrev pub below : {A : Type 0} → ℕ → (ℕ → Ticked A) → Ticked A
below zero f = Stopped too_deep
below (suc h) f = f h

abbrev pub at_height : {A : Type 0} → Bool → ℕ → (ℕ → Ticked A) → Ticked A
at_height true h f = f h
at_height false h f = below h f
