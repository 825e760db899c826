-- What typing says of items: the rule that each breaks (T1, T2 or L5), or what each is resolved to.
-- (Mercury Language Reference Manual: Types, overloading; this project's rules.)
use Rattle.std.specs.Prelude.{◌≡◌, ℕ, List, [], ◌∷◌, map, Option, Box}
use Rattle.std.specs.declared.alloc.Global.{Global}
use Rattle.mc_source.specs.declared.rule.Broken.{Broken}
use Rattle.mc_source.specs.Rules.{Fault}
use Rattle.mc_program.specs.Programs.{TypeTerm, Source}
use Rattle.mc_unresolved.specs.Unresolved.{plain_unresolved_clause}
use Rattle.mc_unresolved.specs.declared.clause.UnresolvedClause.{UnresolvedClause}
use Rattle.mc_names.specs.Linked.{Linked}
use Rattle.mc_declarations.specs.Declarations.{declarations, parameter_counts}
use Rattle.mc_type_phase.specs.Typing.{TypingSays, AreTypingFaults}
use Rattle.mc_typecheck.specs.Checked.{IsResolved}
use Rattle.mc_type_phase.specs.Items.{Item}
use Rattle.mc_type_phase.specs.declared.judged.TypedClause.{TypedClause}
use Rattle.mc_type_phase.specs.declared.judged.TypecheckResult.{TypecheckResult}

-- a program, and what each of its modules sees that types are defined as
module _ (l : Linked) (seen : (own : ℕ) → ℕ → Option TypeTerm) where
  -- the program's declarations as the module of an item sees them
  abbrev pub source_of : Item → Source
  source_of i = declarations l (seen i.own)

  abbrev pub Says : Item → Option Fault → Type 0
  Says i = TypingSays l (source_of i) (parameter_counts l) i.numbered.clause

  -- the rules that items break, the first of each, in their order
  abbrev pub AreFaults : List Item → List Broken → Type 0
  AreFaults = AreTypingFaults (λ (i : Item). i.at) Says

  -- this is the predicate of an item, and what it is resolved to, with the types of its variables and
  -- their names
  pub record IsTyped (i : Item) (typed : TypedClause) : Type 0 where
    pub pred : typed.pred ≡ i.numbered.clause.pred
    pub clause : UnresolvedClause
    pub is : plain_unresolved_clause clause ≡ i.numbered.clause
    pub names : clause.names ≡ i.numbered.names
    pub place : clause.place ≡ i.at
    pub resolved : IsResolved (source_of i) (parameter_counts l) clause typed.resolved

  abbrev pub AreTyped : List Item → List TypedClause → Type 0
  AreTyped [] typed = typed ≡ []
  AreTyped (i ∷ is) typed =
      (one : TypedClause) × (rest : List TypedClause)
      × IsTyped i one × AreTyped is rest × (typed ≡ one ∷ rest)

-- clauses and a query as they are resolved, each out of its block
abbrev pub typed_clauses : List (Box TypedClause Global) → List TypedClause
typed_clauses = map (λ c. c.value)

-- these are the rules that items break; and where they break none, this is what they are resolved to
pub record IsJudged
    (l : Linked) (seen : (own : ℕ) → ℕ → Option TypeTerm) (items : List Item)
    (judged : TypecheckResult)
    : Type 0 where
  pub faults : AreFaults l seen items judged.broken.items
  pub typed : judged.broken.items ≡ [] → AreTyped l seen items (typed_clauses judged.clauses.items)
