-- Phases one behind another: each answers what the next one takes, or why it goes no further.
use Rattle.std.specs.Prelude.{◌≡◌, List, [], ◌∷◌, Result, Ok, Err}
use Rattle.mc_source.specs.declared.rule.Broken.{Broken}
use Rattle.mc_compile.specs.declared.given.CompileFault.{CompileFault}
use Rattle.mc_compile.specs.declared.given.CompileFault.TheVariants as F

-- why sources go no further: the rules that they break
pub data Refusal : Type 0 where
  Breaks : List Broken → Refusal

-- what a phase makes where no rule is broken; else it goes no further
abbrev pub unless_broken : {A : Type 0} → List Broken → A → Result A Refusal
unless_broken [] made = Ok made
unless_broken (rule ∷ rules) made = Err (Breaks (rule ∷ rules))

-- One phase behind another: where the first goes no further, neither do both; else they answer what
-- the second does.
pub data Then {A B C : Type 0} (First : A → Result B Refusal → Type 0) (Second : B → Result C Refusal → Type 0) (a : A) : Result C Refusal → Type 0 where
  stopped : {r : Refusal} → First a (Err r) → Then First Second a (Err r)
  went_on :
      {b : B} {c : Result C Refusal} → First a (Ok b) → Second b c → Then First Second a c

-- of each thing that it takes a phase answers one at most
abbrev pub AtMostOne : {A B : Type 0} → (A → B → Type 0) → Type 0
AtMostOne {A} {B} Answers = (a : A) (x y : B) → Answers a x → Answers a y → x ≡ y

-- What a call that is a phase tells: what the phase makes, as the call's value shows it, or why it
-- goes no further. Want of memory is free.
abbrev pub Tells :
    {A B X : Type 0} → (A → Result B Refusal → Type 0) → (Shows : X → B → Type 0)
    → A → Result X CompileFault → Type 0
Tells {B = B} Phase Shows a (Ok x) = (b : B) × Shows x b × Phase a (Ok b)
Tells Phase Shows a (Err (F.Rejected rules)) = Phase a (Err (Breaks rules))
Tells Phase Shows a (Err F.Memory) = Unit {0}

-- a value shows its plain view
abbrev pub Viewed : {X B : Type 0} → (X → B) → X → B → Type 0
Viewed view x b = view x ≡ b
