-- What a goal is as one of several branches.
use Rattle.std.specs.Prelude.{ℕ, Bool, true, false, ◌<◌, List, []}
use Rattle.mc_term_data.specs.Plain.{plain_term}
use Rattle.mc_term_data.specs.declared.term.Term.{size-Term}
use Rattle.mc_state_variables.specs.declared.branches.Branch.{Branch}
use Rattle.mc_state_variables.specs.declared.branches.Branch.TheVariants.{Conditional, Behind, Plain}
use Rattle.mc_state_variables.specs.Numbered.{Part, Writing, goal_of, conditional, branch_of}

abbrev pub branch_writing : (line : ℕ) → Part → Branch → (wanted : List (List ℕ)) → Writing
branch_writing l p (Conditional a b) =
    (conditional l (goal_of (plain_term a.now)).condition (goal_of (plain_term b.now)).part []).writing
branch_writing l p (Behind g) = (goal_of (plain_term g.now)).branch.writing
branch_writing l p Plain = (branch_of l p).writing

abbrev pub is_conditional_by : Branch → Bool
is_conditional_by (Conditional a b) = true
is_conditional_by (Behind g) = (goal_of (plain_term g.now)).is_conditional
is_conditional_by Plain = false

-- the parts of a branch are smaller than the goal
abbrev pub IsSmaller : Branch → ℕ → Type 0
IsSmaller (Conditional a b) n = (size-Term a.now < n) × (size-Term b.now < n)
IsSmaller (Behind g) n = size-Term g.now < n
IsSmaller Plain n = Unit {0}
