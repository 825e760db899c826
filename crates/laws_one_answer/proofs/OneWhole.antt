-- What items are resolved to is one list of clauses, and what runs is one program.
use Rattle.std.proofs.Common.{◌≡◌, inl, inr, ℕ, zero, suc, ◌≤◌, true, false, List, [], ◌∷◌, ◌++◌, map, length, Option, Some, None, refl, sym, ap, ap₂, ◌∙◌, subst, arith}
use Rattle.std.specs.Option.{is_some, option_map, option_to_list}
use Rattle.std.proofs.lemmas.Bool.{cases_lt}
use Rattle.std.proofs.lemmas.List.{length-map, map-append, append-nil}
use Rattle.mc_program.specs.Programs.{TypeTerm, Source, ClauseForm}
use Rattle.mc_program.specs.PlainPrograms.{plain_type, plain_clause, plain_pred, plain_program}
use Rattle.mc_program.specs.declared.program.Resolved.{Resolved}
use Rattle.mc_model.specs.declared.flat.Normal.{Normal}
use Rattle.mc_accepted.specs.NormalTypes as N
use Rattle.mc_accepted.specs.ProperTypes.{Parameters}
use Rattle.mc_accepted.specs.Resolving.{Unresolved_clause, resolved, Resolves}
use Rattle.mc_source.specs.declared.name.Candidate.{Candidate}
use Rattle.mc_unresolved.specs.Unresolved.{plain_unresolved_clause}
use Rattle.mc_unresolved.specs.declared.clause.UnresolvedClause.{UnresolvedClause}
use Rattle.laws_made_types.specs.MadeTypes.{AreVariableTypes}
use Rattle.mc_names.specs.Linked.{Linked}
use Rattle.mc_goals.specs.Resolved.{typed_clause}
use Rattle.mc_declarations.specs.Declarations.{parameter_counts}
use Rattle.mc_typecheck.specs.Checked.{IsResolved}
use Rattle.mc_type_phase.specs.Items.{Item}
use Rattle.mc_type_phase.specs.Judging.{source_of, IsTyped, AreTyped}
use Rattle.mc_type_phase.specs.declared.judged.TypedClause.{TypedClause}
use Rattle.mc_accepted.specs.NormalGoals.{IsNormalGoal, no_goal}
use Rattle.mc_modes.specs.NormalGoals.{goal_at}
use Rattle.mc_core_program.specs.Wholes.{IsWhole}
use Rattle.mc_core_program.specs.declared.whole_program_program.WholeProgram.{WholeProgram}
use Rattle.laws_one_answer.specs.OneWhole.{plain_typed, numbered, TypedAreOne, GoalIsOne, WholeIsOne, WholesAreOne}
use Rattle.laws_one_answer.proofs.TypesOnce.{variable-types-are-one}

-- ---- clauses
-- what pins a resolved clause, of the plain data that it was
record Pinned (P : Source) (D : Parameters) (clause : Unresolved_clause) (sources : List (List ℕ)) (made : Resolved) : Type 0 where
  pub picks : List Candidate
  pub resolves : Resolves P D clause picks
  pub alone : (others : List Candidate) → Resolves P D clause others → others ≡ picks
  pub form : plain_clause made.clause ≡ resolved clause picks
  pub vars : made.clause.vars ≡ length sources
  pub types : AreVariableTypes P D clause picks (length sources) (map plain_type made.var_types)
  pub names : made.var_names ≡ sources

pinned : (P : Source) (D : Parameters) (clause : UnresolvedClause) (made : Resolved) → IsResolved P D clause made → Pinned P D (plain_unresolved_clause clause) clause.names made
pinned P D clause made is = record {
  picks = is.typed.picks;
  resolves = is.typed.resolves;
  alone = is.typed.alone;
  form = is.form;
  vars = is.vars;
  types = is.types;
  names = is.names;
}

typed-of : (c d : ClauseForm) (v w : ℕ) (ts us : List TypeTerm) (ns ms : List (List ℕ)) → c ≡ d → v ≡ w → ts ≡ us → ns ≡ ms
    → ◌≡◌ {A = N.TypedClause} (record { clause = c; variables = v; types = ts; names = ns }) (record { clause = d; variables = w; types = us; names = ms })
typed-of c d v w ts us ns ms a b t n = cc

module _ (P : Source) (D : Parameters) (clause : Unresolved_clause) (names : List (List ℕ)) (made other : Resolved) where
  one-clause : Pinned P D clause names made → Pinned P D clause names other → typed_clause made ≡ typed_clause other
  one-clause a b =
      let e : a.picks ≡ b.picks = b.alone a.picks a.resolves in
      let Q : List Candidate → Type 0 = λ picks. AreVariableTypes P D clause picks (length names) (map plain_type made.var_types) in
      typed-of (plain_clause made.clause) (plain_clause other.clause) made.clause.vars other.clause.vars (map plain_type made.var_types) (map plain_type other.var_types) made.var_names other.var_names
      (a.form ∙ ap (resolved clause) e ∙ sym b.form)
      (a.vars ∙ sym b.vars)
      (variable-types-are-one P D clause b.picks (length names) (map plain_type made.var_types) (map plain_type other.var_types) (subst Q e a.types) b.types)
      (a.names ∙ sym b.names)

module _ (l : Linked) (seen : (own : ℕ) → ℕ → Option TypeTerm) where
  item-pinned : (i : Item) (c : TypedClause) → IsTyped l seen i c → Pinned (source_of l seen i) (parameter_counts l) i.numbered.clause i.numbered.names c.resolved
  item-pinned i c t =
      let P = source_of l seen i in
      let D = parameter_counts l in
      let Q : Unresolved_clause → Type 0 = λ u. Pinned P D u t.clause.names c.resolved in
      let R : List (List ℕ) → Type 0 = λ ns. Pinned P D i.numbered.clause ns c.resolved in
      subst R t.names (subst Q t.is (pinned P D t.clause c.resolved t.resolved))

  one-item : (i : Item) (c d : TypedClause) → IsTyped l seen i c → IsTyped l seen i d → numbered c ≡ numbered d
  one-item i c d s t =
      ap₂ (λ p x. (p, x)) (s.pred ∙ sym t.pred)
      (one-clause (source_of l seen i) (parameter_counts l) i.numbered.clause i.numbered.names c.resolved d.resolved (item-pinned i c s) (item-pinned i d t))

  one-list-typed : (items : List Item) (cs ds : List TypedClause) → AreTyped l seen items cs → AreTyped l seen items ds → map numbered cs ≡ map numbered ds
  one-list-typed [] cs ds a b = ap (map numbered) (a ∙ sym b)
  one-list-typed (i ∷ is) cs ds (c, more, s, rest, e) (d, others, t, again, e') =
      ap (map numbered) e
      ∙ ap₂ (λ x xs. x ∷ xs) (one-item i c d s t) (one-list-typed is more others rest again)
      ∙ ap (map numbered) (sym e')

pub typed-are-one : TypedAreOne
typed-are-one = one-list-typed

-- ---- the query behind the clauses
module _ {A : Type 0} where
  abbrev front : List A → List A
  front [] = []
  front (x ∷ []) = []
  front (x ∷ y ∷ ys) = x ∷ front (y ∷ ys)

  abbrev end : A → List A → A
  end d [] = d
  end d (x ∷ xs) = end x xs

  front-of : (x : A) (xs : List A) → front (xs ++ x ∷ []) ≡ xs
  front-of x [] = refl
  front-of x (y ∷ []) = refl
  front-of x (y ∷ z ∷ zs) = ap (λ l. y ∷ l) (front-of x (z ∷ zs))

  end-of : (d x : A) (xs : List A) → end d (xs ++ x ∷ []) ≡ x
  end-of d x [] = refl
  end-of d x (y ∷ ys) = end-of y x ys

true-false : true ≡ false → ⊥
true-false e = cc

abbrev One : (cs ds : List TypedClause) (query asked : Option TypedClause) → Type 0
One cs ds query asked = (map numbered cs ≡ map numbered ds) × (option_map plain_typed query ≡ option_map plain_typed asked)

in-parts : (cs ds : List TypedClause) (query asked : Option TypedClause) → is_some query ≡ is_some asked → map numbered (cs ++ option_to_list query) ≡ map numbered (ds ++ option_to_list asked) → One cs ds query asked
in-parts cs ds None None s e = (ap (map numbered) (sym (append-nil cs)) ∙ e ∙ ap (map numbered) (append-nil ds), refl)
in-parts cs ds None (Some d) s e = absurd (true-false (sym s))
in-parts cs ds (Some c) None s e = absurd (true-false s)
in-parts cs ds (Some c) (Some d) s e =
    let both : map numbered cs ++ numbered c ∷ [] ≡ map numbered ds ++ numbered d ∷ [] =
    sym (map-append numbered cs (c ∷ [])) ∙ e ∙ map-append numbered ds (d ∷ []) in (
      sym (front-of (numbered c) (map numbered cs)) ∙ ap front both ∙ front-of (numbered d) (map numbered ds),
      let last : numbered c ≡ numbered d = sym (end-of (numbered c) (numbered c) (map numbered cs)) ∙ ap (end (numbered c)) both ∙ end-of (numbered c) (numbered d) (map numbered ds) in
          ap (λ (p : ℕ × N.TypedClause). Some p.1) last,
    )

-- ---- wholes
behind-all : (gs : List Normal) (p : ℕ) → length gs ≤ p → goal_at gs p ≡ no_goal
behind-all [] p le = refl
behind-all (g ∷ gs) zero le = let no : ⊥ = omega (arith, le) in absurd no
behind-all (g ∷ gs) (suc p) le = behind-all gs p (omega (arith, le))

one-with-itself : (g h : Normal) → h ≡ g → GoalIsOne g h
one-with-itself g h e = subst (λ x. GoalIsOne g x) (sym e) (record { pred = refl; head = refl; body = refl; types = refl; names = refl })

module _ (l : Linked) (clauses : List (ℕ × N.TypedClause)) (query : Option N.TypedClause) (whole other : WholeProgram) (a : IsWhole l clauses query whole) (b : IsWhole l clauses query other) where
  one-source : plain_program other.program ≡ plain_program whole.program
  one-source = b.is ∙ sym a.is

  one-preds : map plain_pred other.program.preds ≡ map plain_pred whole.program.preds
  one-preds = b.preds ∙ sym a.preds

  as-many-preds : length other.program.preds ≡ length whole.program.preds
  as-many-preds = sym (length-map other.program.preds plain_pred) ∙ ap length one-preds ∙ length-map whole.program.preds plain_pred

  as-many-goals : length other.goals.items ≡ length whole.goals.items
  as-many-goals = b.goals.as_many ∙ as-many-preds ∙ sym a.goals.as_many

  one-goal : (p : ℕ) → GoalIsOne (goal_at whole.goals.items p) (goal_at other.goals.items p)
  one-goal p = elim (cases_lt p (length whole.goals.items)) [
    | inl lt ↦
        let here = a.goals.each p (omega (arith, lt, a.goals.as_many)) in
        let Q : Source → Type 0 = λ S. IsNormalGoal S p (goal_at other.goals.items p) in
        let there : IsNormalGoal (plain_program whole.program) p (goal_at other.goals.items p) =
        subst Q one-source (b.goals.each p (omega (arith, lt, a.goals.as_many, as-many-preds))) in
        let first = a.typed p lt in
        let second = b.typed p (omega (arith, lt, as-many-goals)) in
        record {
          pred = there.pred ∙ sym here.pred;
          head = there.head ∙ sym here.head;
          body = there.body ∙ sym here.body;
          types = second.types ∙ sym first.types;
          names = second.names ∙ sym first.names;
        }
    | inr le ↦
        one-with-itself (goal_at whole.goals.items p) (goal_at other.goals.items p)
        (behind-all other.goals.items p (omega (arith, le, as-many-goals)) ∙ sym (behind-all whole.goals.items p le))
  ]

  one-whole : WholeIsOne whole other
  one-whole = record {
    program = record { source = one-source; preds = one-preds; symbols = b.symbols ∙ sym a.symbols; types = b.types ∙ sym a.types };
    as_many = as-many-goals;
    goals = one-goal;
    exported = b.exported ∙ sym a.exported;
    variables = b.variables ∙ sym a.variables;
  }

pub wholes-are-one : TypedAreOne → WholesAreOne
wholes-are-one one l seen items clauses others query asked whole other s t same a b =
    let parts = in-parts clauses others query asked same (one l seen items (clauses ++ option_to_list query) (others ++ option_to_list asked) s t) in
    let Q : List (ℕ × N.TypedClause) → Type 0 = λ cs. IsWhole l cs (option_map plain_typed query) whole in
    let R : Option N.TypedClause → Type 0 = λ q. IsWhole l (map numbered others) q whole in
    one-whole l (map numbered others) (option_map plain_typed asked) whole other (subst R parts.1 (subst Q parts.0 a)) b
