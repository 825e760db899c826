-- The laws of the table of determinisms over whole goals: it is monotone in the determinisms of the
-- procedures, and depends on those that are called alone. (Mercury Language Reference Manual:
-- Determinism.)
use Rattle.std.specs.Prelude.{◌≡◌, ℕ, false, nat_eq}
use Rattle.mc_program.specs.Programs.{TypeTerm}
use Rattle.mc_source.specs.Determinism.{Allows, row_of}
use Rattle.mc_source.specs.declared.det.Det.{Det}
use Rattle.mc_model.specs.Good.{System}
use Rattle.mc_model.specs.Scheduled.{Node}
use Rattle.mc_accepted.specs.Ordered.{Insts}
use Rattle.mc_accepted.specs.Determined.{Known, determined}
use Rattle.mc_accepted.specs.Inferred.{with_determinisms, calls_it}

-- where the procedures' determinisms allow others, a goal's allows the goal's by those
abbrev pub TableIsMonotone : Type 0
TableIsMonotone =
    (S : System) (T : ℕ → TypeTerm) (b : Insts) (known : Known) (n : Node) (ds es : ℕ → Det)
    → ((p : ℕ) → Allows (row_of (es p)) (row_of (ds p)))
    → Allows (determined (with_determinisms S es) T b known n)
    (determined (with_determinisms S ds) T b known n)

-- the determinism of a procedure that a goal doesn't call says nothing of the goal's
abbrev pub TableDepends : Type 0
TableDepends =
    (S : System) (T : ℕ → TypeTerm) (b : Insts) (known : Known) (n : Node) (q : ℕ)
    (ds es : ℕ → Det)
    → ((p : ℕ) → nat_eq p q ≡ false → es p ≡ ds p) → calls_it q n ≡ false
    → determined (with_determinisms S es) T b known n
    ≡ determined (with_determinisms S ds) T b known n
