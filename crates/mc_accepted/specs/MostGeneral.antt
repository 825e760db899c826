-- The most general types of a clause's variables, which it has once its names are resolved. (Mercury
-- Language Reference Manual: Types; most general as in Milner, A Theory of Type Polymorphism in
-- Programming; the numbers of type variables are this project's profile.)
use Rattle.std.specs.Prelude.{◌≡◌, ℕ, suc, ◌<◌, ◌≤◌, Some, nat_lt, List, [], ◌∷◌, ◌++◌, map, length, get_or, if◌then◌else◌}
use Rattle.mc_program.specs.Programs.{TypeTerm, int_type, char_type, string_type, state_type, variable_type, union_type, TypeTerms, no_types, type_then, Formula, Source}
use Rattle.mc_model.specs.Lists.{from, once}
use Rattle.mc_model.specs.Types.{instance_of}
use Rattle.mc_accepted.specs.ProperTypes.{Parameters, ProperType}
use Rattle.mc_accepted.specs.Normal.{head_place, normal_goal}
use Rattle.mc_accepted.specs.NormalTypes.{TypedClause, normal_types, asked_of, free_variables}
use Rattle.mc_accepted.specs.Typing.{TypedGoal}

-- the type variables of a type, in the order in which they occur
abbrev mutual
  pub variables_of : TypeTerm → List ℕ
  variables_of int_type = []
  variables_of char_type = []
  variables_of string_type = []
  variables_of state_type = []
  variables_of (variable_type v) = v ∷ []
  variables_of (union_type u ts) = variables_of_all ts

  pub variables_of_all : TypeTerms → List ℕ
  variables_of_all no_types = []
  variables_of_all (type_then t ts) = variables_of t ++ variables_of_all ts

abbrev pub variables_of_each : List TypeTerm → List ℕ
variables_of_each [] = []
variables_of_each (t ∷ ts) = variables_of t ++ variables_of_each ts

-- one more than the greatest of some numbers; 0 where there are none
abbrev pub bound_of : List ℕ → ℕ
bound_of [] = 0
bound_of (v ∷ vs) =
    let bound = bound_of vs in
    if nat_lt v bound then bound else suc v

-- how many rigid type variables there are: those of the predicate's declaration are numbered below
abbrev pub rigid_count : List TypeTerm → ℕ
rigid_count types = bound_of (variables_of_each types)

-- those of the numbers that are from r on
abbrev pub at_least : ℕ → List ℕ → List ℕ
at_least r [] = []
at_least r (v ∷ vs) = if nat_lt v r then at_least r vs else v ∷ at_least r vs

-- the type variables that are not rigid are numbered behind those that are, by first occurrence
abbrev pub AreNumbered : (r : ℕ) → List TypeTerm → Type 0
AreNumbered r types =
    let left_over = once (at_least r (variables_of_each types)) in
    left_over ≡ from r (length left_over)

-- a type with types for its variables from r on; those below are rigid
abbrev pub generalised : (r : ℕ) → (ℕ → TypeTerm) → TypeTerm → TypeTerm
generalised r σ t = instance_of (λ v. if nat_lt v r then variable_type v else σ v) t

abbrev pub type_at : List TypeTerm → ℕ → TypeTerm
type_at types v = get_or types v (variable_type v)

-- The types of a clause of a predicate, declared with these types, are the most general. There is one
-- for each of its own variables and each that its normal goal makes, and a variable that is a head
-- argument has the declared type. They type the normal goal, and any proper types that do, with the
-- head's as they are declared, are an instance of them.
pub record MostGeneral
    (P : Source) (D : Parameters) (declared : List TypeTerm) (c : TypedClause)
    : Type 0 where
  pub own : c.variables ≤ length c.types
  pub as_many :
      length (normal_types declared (c ∷ []))
      ≡ (normal_goal (length declared) (c.clause ∷ [])).variables
  pub heads :
      (v k : ℕ)
      → head_place v c.clause.head ≡ Some k → type_at c.types v ≡ type_at declared k
  pub typed :
      TypedGoal P (type_at (normal_types declared (c ∷ [])))
      (normal_goal (length declared) (c.clause ∷ [])).body
  pub general :
      (T : ℕ → TypeTerm)
      → ((v : ℕ) → ProperType D (T v))
      → ((k : ℕ) → k < length declared → T k ≡ type_at declared k)
      → TypedGoal P T (normal_goal (length declared) (c.clause ∷ [])).body
      → (σ : ℕ → TypeTerm)
      × ((v : ℕ)
      → v < length (normal_types declared (c ∷ []))
      → T v ≡ generalised (rigid_count declared) σ (type_at (normal_types declared (c ∷ [])) v))
  pub numbered : AreNumbered (rigid_count declared) c.types

-- A query's arguments have the types that its goal gives to them where it is typed as a clause
-- without arguments.
pub record QueryTypes
    (P : Source) (D : Parameters) (names : ℕ → List ℕ) (g : Formula) (types : List TypeTerm)
    : Type 0 where
  pub goal : TypedClause
  pub is : goal.clause ≡ record { head = []; body = g }
  pub general : MostGeneral P D [] goal
  pub taken : types ≡ map (type_at goal.types) (asked_of names (free_variables g))
