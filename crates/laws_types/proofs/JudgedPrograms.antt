-- The whole program of clauses and a query that the phase of clauses let through.
use Rattle.std.proofs.Common.{◌≡◌, ℕ, suc, ◌<◌, true, false, List, [], ◌∷◌, ◌++◌, map, length, Option, Some, None, refl, sym, ◌∙◌, subst, arith}
use Rattle.std.specs.Prelude.{Contains}
use Rattle.std.specs.Option.{is_some, option_map, option_to_list}
use Rattle.mc_term_data.specs.Plain.{PlainTerm}
use Rattle.mc_accepted.specs.NormalTypes.{TypedClause}
use Rattle.mc_names.specs.Linked.{Linked}
use Rattle.mc_state_variables.specs.Numbered.{numbered_clause, numbered_goal, line_of}
use Rattle.mc_type_table.specs.Rules.{type_faults}
use Rattle.mc_type_table.specs.Visibility.{definitions_seen}
use Rattle.mc_type_phase.specs.Typing.{ModuleClause, clauses_from}
use Rattle.laws_types.proofs.Fitting.{predicates_are_there}
use Rattle.mc_declarations.specs.Proper.{AreWellWritten}
use Rattle.mc_type_phase.specs.Items.{Item, clause_item, query_item}
use Rattle.mc_type_phase.specs.Judging.{IsTyped, AreTyped}
use Rattle.mc_type_phase.specs.declared.judged.TypedClause.{TypedClause as Judged_clause}
use Rattle.laws_types.specs.WholeTypes.{IsTypedIn, EachIsTypedIn, QueryIsTyped}
use Rattle.laws_types.specs.KnownCandidates.{ConstructorsAreNumbered}
use Rattle.laws_types.specs.JudgedPrograms.{EachHasValues, judged_clause, numbered, JudgedProgramsFit}
use Rattle.laws_types.proofs.JudgedClauses.{judged_clauses_are_typed, judged_queries_are_typed}
use Rattle.laws_types.proofs.WholeTypes.{whole_types_fit}

module _ (l : Linked) where
  abbrev Typed : Item → Judged_clause → Type 0
  Typed i t = IsTyped l (definitions_seen l) i t

  abbrev AllTyped : List Item → List Judged_clause → Type 0
  AllTyped is ts = AreTyped l (definitions_seen l) is ts

  -- each clause by itself
  abbrev Each : List ModuleClause → List Judged_clause → Type 0
  Each [] [] = Unit {0}
  Each (c ∷ cs) (t ∷ ts) = Typed (clause_item l c) t × Each cs ts
  Each cs ts = ⊥

  some_typed : (is : List Item) (i : Item) → AllTyped (is ++ i ∷ []) [] → ⊥
  some_typed [] i h = let clash : [] ≡ h.0 ∷ h.1 = h.4 in cc
  some_typed (j ∷ is) i h = let clash : [] ≡ h.0 ∷ h.1 = h.4 in cc

  first_of : (i : Item) (is : List Item) (t : Judged_clause) (ts : List Judged_clause) → AllTyped (i ∷ is) (t ∷ ts) → Typed i t × AllTyped is ts
  first_of i is t ts h =
      let whole : t ∷ ts ≡ h.0 ∷ h.1 = h.4 in
      let one : h.0 ≡ t = cc in
      let rest : h.1 ≡ ts = cc in
      (subst (Typed i) one h.2, subst (AllTyped is) rest h.3)

  none_typed : (ts : List Judged_clause) (q : Judged_clause) → ts ++ q ∷ [] ≡ [] → ⊥
  none_typed [] q e = cc
  none_typed (t ∷ ts) q e = cc

  -- one more than there are items
  too_many : (number : ℕ) (goal : Option PlainTerm) (query : Option Judged_clause) (t : Judged_clause) (ts : List Judged_clause) → is_some query ≡ is_some goal → AllTyped (query_item l number goal) (t ∷ (ts ++ option_to_list query)) → ⊥
  too_many number None query t ts same h = cc
  too_many number (Some g) None t ts same h = let clash : false ≡ true = same in cc
  too_many number (Some g) (Some q) t ts same h =
      let whole : t ∷ (ts ++ q ∷ []) ≡ h.0 ∷ h.1 = h.4 in
      let rest : ts ++ q ∷ [] ≡ h.1 = cc in
      none_typed ts q (rest ∙ h.3)

  -- fewer than there are items
  too_few : (number : ℕ) (goal : Option PlainTerm) (query : Option Judged_clause) (c : ModuleClause) (cs : List ModuleClause) → is_some query ≡ is_some goal → AllTyped (clause_item l c ∷ (map (clause_item l) cs ++ query_item l number goal)) (option_to_list query) → ⊥
  too_few number goal None c cs same h = let clash : [] ≡ h.0 ∷ h.1 = h.4 in cc
  too_few number None (Some q) c cs same h = let clash : true ≡ false = same in cc
  too_few number (Some g) (Some q) c cs same h =
      let whole : q ∷ [] ≡ h.0 ∷ h.1 = h.4 in
      let rest : h.1 ≡ [] = cc in
      some_typed (map (clause_item l) cs) _ (subst (AllTyped (map (clause_item l) cs ++ query_item l number (Some g))) rest h.3)

  parts :
      (number : ℕ) (goal : Option PlainTerm) (query : Option Judged_clause) (cs : List ModuleClause) (ts : List Judged_clause)
      → is_some query ≡ is_some goal
      → AllTyped (map (clause_item l) cs ++ query_item l number goal) (ts ++ option_to_list query)
      → Each cs ts × AllTyped (query_item l number goal) (option_to_list query)
  parts number goal query [] [] same h = (tt, h)
  parts number goal query [] (t ∷ ts) same h = absurd (too_many number goal query t ts same h)
  parts number goal query (c ∷ cs) [] same h = absurd (too_few number goal query c cs same h)
  parts number goal query (c ∷ cs) (t ∷ ts) same h =
      let first = first_of (clause_item l c) (map (clause_item l) cs ++ query_item l number goal) t (ts ++ option_to_list query) h in
      let rest = parts number goal query cs ts same first.1 in
      ((first.0, rest.0), rest.1)

  value_parts : (is js : List Item) → EachHasValues (is ++ js) → EachHasValues is × EachHasValues js
  value_parts [] js h = (tt, h)
  value_parts (i ∷ is) js h = let rest = value_parts is js h.1 in ((h.0, rest.0), rest.1)

  module _ (well : AreWellWritten l) (none : type_faults l ≡ []) (all : ConstructorsAreNumbered l) (query : Option TypedClause) where
    clauses_typed :
        (cs : List ModuleClause) (ts : List Judged_clause)
        → ((c : ModuleClause) → Contains cs c → c.pred < length l.preds)
        → EachHasValues (map (clause_item l) cs)
        → Each cs ts
        → EachIsTypedIn l query (map numbered ts)
    clauses_typed [] [] there values h = tt
    clauses_typed [] (t ∷ ts) there values h = absurd h
    clauses_typed (c ∷ cs) [] there values h = absurd h
    clauses_typed (c ∷ cs) (t ∷ ts) there values h =
        let here : Contains (c ∷ cs) c = (0, omega arith, refl) in
        let typed = judged_clauses_are_typed l c.own c.pred (numbered_clause c.term) c.at query t well none all (there c here) values.0 h.0 in (
          (c.own, subst (λ p. IsTypedIn l query c.own p (judged_clause t)) (sym h.0.pred) typed),
          clauses_typed cs ts (λ d i. there d (let less : suc i.0 < length (c ∷ cs) = omega (arith, i.1) in (suc i.0, less, i.2))) values.1 h.1,
        )

    query_typed :
        (number : ℕ) (goal : Option PlainTerm) (q : Option Judged_clause)
        → is_some q ≡ is_some goal
        → EachHasValues (query_item l number goal)
        → AllTyped (query_item l number goal) (option_to_list q)
        → QueryIsTyped l query (option_map judged_clause q)
    query_typed number None None same values h = tt
    query_typed number None (Some q) same values h = absurd (let clash : true ≡ false = same in cc)
    query_typed number (Some g) None same values h = absurd (let clash : false ≡ true = same in cc)
    query_typed number (Some g) (Some q) same values h =
        let first = first_of _ [] q [] h in
        judged_queries_are_typed l 0 (numbered_goal g) (record { file = number; line = line_of g }) query q well none all values.0 first.0

pub judged_programs_fit : JudgedProgramsFit
judged_programs_fit l files number goal clauses query whole well none all values typed same is =
    let cs = clauses_from l 0 files in
    let asked = option_map judged_clause query in
    let both = parts l number goal query cs clauses same typed in
    let of_values = value_parts l (map (clause_item l) cs) (query_item l number goal) values in
    whole_types_fit l (map numbered clauses) asked whole well none
    (clauses_typed l well none all asked cs clauses (λ c i. predicates_are_there l 0 files c i) of_values.0 both.0)
    (query_typed l well none all asked number goal query same of_values.1 both.1) is
