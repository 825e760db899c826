-- Clauses that show why the laws that tie walks to normal goals ask for what they ask: without it,
-- one of the two is typed and the other isn't.
use Rattle.std.specs.Prelude.{ℕ, [], ◌∷◌}
use Rattle.mc_program.specs.Programs.{TypeTerm, char_type, union_type, no_types, Source}
use Rattle.mc_accepted.specs.Normal.{normal_goal}
use Rattle.mc_accepted.specs.Resolving.{any_variable, any_name, no_terms, term_then, Unresolved_clause, equation, resolved, steps_of, Walks}
use Rattle.mc_accepted.specs.Typing.{TypedGoal}
use Rattle.mc_source.specs.declared.name.Candidate.TheVariants.{Con, Char}
use Rattle.laws_types.specs.code.Examples.{nil_of, declared, two_types, plain, some_nil}

-- `amb :- X = a(Y).`, where the name may stand for a character alone
abbrev pub with_argument : Unresolved_clause
with_argument =
    record {
      pred = 0;
      head = no_terms;
      body =
          equation (any_variable 0) (any_name (Char 97 ∷ []) (term_then (any_variable 1) no_terms));
    }

-- The clause that the pick makes has lost the argument, so its normal goal is typed, but not the
-- walk.
abbrev pub CharactersAreBare : Type 0
CharactersAreBare =
    TypedGoal two_types (λ v. char_type)
    (normal_goal 0 (resolved with_argument (Char 97 ∷ []) ∷ [])).body
    × ((τ : ℕ → TypeTerm)
    → Walks two_types plain τ (steps_of with_argument) [] (Char 97 ∷ []) → ⊥)

-- a program whose types list no constructors
abbrev pub unlisted : Source
unlisted = record { symbols = nil_of; symbols_of = λ u. []; preds = declared }

-- `amb :- X = nil.`
abbrev pub one_nil : Unresolved_clause
one_nil = record { pred = 0; head = no_terms; body = equation (any_variable 0) some_nil }

-- The walk goes through, since it asks for the constructor's own type alone; the normal goal isn't
-- typed, since that type doesn't list the constructor.
abbrev pub ConstructorsAreListed : Type 0
ConstructorsAreListed =
    Walks unlisted plain (λ v. union_type 0 no_types) (steps_of one_nil) [] (Con 0 ∷ [])
    × (TypedGoal unlisted (λ v. union_type 0 no_types)
    (normal_goal 0 (resolved one_nil (Con 0 ∷ []) ∷ [])).body
    → ⊥)
