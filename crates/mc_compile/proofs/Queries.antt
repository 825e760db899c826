-- Whether a query has a goal.
use Rattle.std.proofs.Common.{◌≡◌, Option, Some, None, refl}
use Rattle.std.specs.Option.{is_some}
use Rattle.mc_term_data.specs.declared.term.Term.{Term}
use Rattle.mc_compile.specs.Reading.{plain_goal}

-- there is a goal where its plain view is one
pub some_goal : (goal : Option Term) → is_some (plain_goal goal) ≡ is_some goal
some_goal None = refl
some_goal (Some t) = refl
