-- What a goal does when it is tried, at two points at which its own variables have the same insts.
-- (Mercury Language Reference Manual: Modes; this project's order of goals.)
use Rattle.std.specs.Prelude.{◌≡◌, ◌⊎◌, ℕ, ◌<◌, ◌≤◌, List, Option, Some, None}
use Rattle.mc_program.specs.Programs.{TypeTerm, Source}
use Rattle.mc_model.specs.Flat.{Flat_goal, variables_of}
use Rattle.mc_model.specs.Lists.{In, is_in, Among}
use Rattle.mc_accepted.specs.Arranged.{Operations, Declared, Fault, waits, negated_binds, branches_differ, lacks, Point, Arranged, runs, breaks, Trial, trial}

-- the variables are below a number
abbrev pub Below : (first : ℕ) → List ℕ → Type 0
Below first xs = (x : ℕ) → In x xs → x < first

-- of these variables the same ones occur outside
abbrev pub SameOutside : (own : List ℕ) → List ℕ → List ℕ → Type 0
SameOutside own O U = (x : ℕ) → In x own → is_in x O ≡ is_in x U

-- one fault, but for how many goals wait, and for what
abbrev pub OneFault : Fault → Fault → Type 0
OneFault (waits k vs) (waits j us) = Unit {0}
OneFault (waits k vs) _ = ⊥
OneFault (negated_binds v) (negated_binds u) = v ≡ u
OneFault (negated_binds v) _ = ⊥
OneFault (branches_differ v) (branches_differ u) = v ≡ u
OneFault (branches_differ v) _ = ⊥
OneFault lacks lacks = Unit {0}
OneFault lacks _ = ⊥

-- these are own variables, or numbered on
abbrev pub NumberedOn : (own : List ℕ) → (first : ℕ) → List ℕ → Type 0
NumberedOn own first zs = (x : ℕ) → In x zs → In x own ⊎ (first ≤ x)

module _ {I : Type 0} where
  -- these variables have the same insts at two points
  abbrev pub SameAt : List ℕ → Point I → Point I → Type 0
  SameAt xs b c = (x : ℕ) → In x xs → b x ≡ c x

  abbrev pub EndsAlike : (own : List ℕ) → Option (Point I) → Option (Point I) → Type 0
  EndsAlike own None None = Unit {0}
  EndsAlike own None (Some d) = ⊥
  EndsAlike own (Some c) None = ⊥
  EndsAlike own (Some c) (Some d) = SameAt own c d

  -- Both run, or both break one rule. Where they run, the next numbers are not below the first, and
  -- both ends are unreachable, or own variables have the same insts at both. A builtin's arguments
  -- with fresh ones among them are own variables, the same ones, and numbered-on ones.
  abbrev pub Alike : (own : List ℕ) → (first : ℕ) → Arranged I → Arranged I → Type 0
  Alike own first (runs gs o n zs) (runs hs p m ys) =
      (first ≤ n) × (first ≤ m) × EndsAlike own o p × SameOutside own zs ys
      × NumberedOn own first zs
  Alike own first (runs gs o n zs) (breaks e) = ⊥
  Alike own first (breaks f) (runs hs p m ys) = ⊥
  Alike own first (breaks f) (breaks e) = OneFault f e

  -- a try depends on its own variables alone: on their insts, and on which of them occur outside
  abbrev pub OwnAlone : (own : List ℕ) → (first : ℕ) → Trial I → Type 0
  OwnAlone own first t =
      (O U : List ℕ) (n m : ℕ) (b c : Point I) → first ≤ n → first ≤ m → SameOutside own O U
      → SameAt own b c → Alike own first (t O n b) (t U m c)

-- so does the try of each goal, whose variables are below the first of those that are numbered on
abbrev pub GoalsAreAlike : (I : Type 0) → Type 0
GoalsAreAlike I =
    (Op : Operations I) (P : Source) (declared : ℕ → List Declared) (T : ℕ → TypeTerm)
    (own : List ℕ) (first : ℕ) (g : Flat_goal) → Below first own → Among (variables_of g) own
    → OwnAlone own first (trial Op P declared T g)
