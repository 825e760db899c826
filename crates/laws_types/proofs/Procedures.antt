-- A procedure whose predicate's clauses are typed fits the types of its program.
use Rattle.std.proofs.Common.{◌≡◌, ℕ, zero, suc, ◌<◌, ◌&&◌, List, [], ◌∷◌, ◌++◌, map, drop, length, get_or, cond, nat_eq, Some, None, refl, sym, ap, ap₂, ◌∙◌, subst, arith, append_assoc, length-append}
use Rattle.mc_program.specs.Values.{Val, int, char, str, con, state}
use Rattle.mc_program.specs.Programs.{TypeTerm, int_type, char_type, string_type, state_type, variable_type, union_type, Constructor, Source}
use Rattle.mc_model.specs.Lists.{from, is_in}
use Rattle.mc_model.specs.Flat as F
use Rattle.mc_model.specs.Flat.{Flat_goal, Flat_goals, no_flat, flat_then}
use Rattle.mc_model.specs.Types as Y
use Rattle.mc_model.specs.Types.{instance_of, IsValue}
use Rattle.mc_accepted.specs.ProperTypes.{Parameters, ProperType, EachProper}
use Rattle.mc_accepted.specs.Typing.{constructor_types, ConstantOf, TypedGoal, TypedGoals}
use Rattle.mc_accepted.specs.Normal.{Normal_goal, normal_goal, other_variables}
use Rattle.mc_accepted.specs.NormalTypes.{TypedClause, clause_types, clauses_types, normal_types}
use Rattle.mc_accepted.specs.MostGeneral.{type_at}
use Rattle.mc_accepted.specs.Fits.{HeadsHave, goal_of, type_of}
use Rattle.laws_order.proofs.NormalScopes.{normal_goals_below}
use Rattle.laws_types.specs.GoalTypes.{forms_of, with_scopes, EachMostGeneral, GoalIsTyped}
use Rattle.laws_types.specs.ProcedureTypes.{DeclareTheSame, TypesAreProper, TypedGoalsFit, TypedClausesFit}
use Rattle.laws_types.proofs.ManyClauses.{agreed, at_first, goals_are_typed}
use Rattle.laws_types.proofs.ScopedTypes.{scopes_keep_types}

-- PROGRAMS THAT DECLARE THE SAME type the same goals
scalar_value : (P Q : Source) (v : Val) (t : TypeTerm) → IsValue P v × ConstantOf v t → IsValue Q v × ConstantOf v t
scalar_value P Q (int n) t h = h
scalar_value P Q (char c) t h = h
scalar_value P Q (str bytes) t h = h
scalar_value P Q (con s vs) t h = absurd h.1
scalar_value P Q (state written taken) t h = absurd h.1

module _ (P Q : Source) (same : DeclareTheSame P Q) (T : ℕ → TypeTerm) where
  constructor_same : (s : ℕ) (t : TypeTerm) → constructor_types Q s t ≡ constructor_types P s t
  constructor_same s int_type = refl
  constructor_same s char_type = refl
  constructor_same s string_type = refl
  constructor_same s state_type = refl
  constructor_same s (variable_type v) = refl
  constructor_same s (union_type u ts) =
      ap₂
      (λ (symbols : ℕ → Constructor) (listed : ℕ → List ℕ).
      cond (nat_eq (symbols s).of_type u && is_in s (listed u)) (Some (map (instance_of (Y.type_at ts)) (symbols s).args)) None)
      same.symbols same.listed

  mutual
    declared_typed : (g : Flat_goal) → TypedGoal P T g → TypedGoal Q T g
    declared_typed (F.Same x y) h = h
    declared_typed (F.Made x s ys) h = constructor_same s (T x) ∙ h
    declared_typed (F.Is x v) h = scalar_value P Q v (T x) h
    declared_typed (F.Call p xs) h = (h.0, h.1 ∙ ap (map (λ t. instance_of h.0 t)) (sym (same.types p)))
    declared_typed (F.And gs) h = all_declared gs h
    declared_typed (F.Or gs) h = all_declared gs h
    declared_typed (F.If vs c t e) h = (declared_typed c h.0, declared_typed t h.1, declared_typed e h.2)
    declared_typed (F.Not g) h = declared_typed g h
    declared_typed (F.Exists vs g) h = declared_typed g h

    all_declared : (gs : Flat_goals) → TypedGoals P T gs → TypedGoals Q T gs
    all_declared no_flat h = tt
    all_declared (flat_then g gs) h = (declared_typed g h.0, all_declared gs h.1)

-- LISTS
each_general : (P : Source) (D : Parameters) (declared : List TypeTerm) (cs : List TypedClause) → EachMostGeneral P D declared cs → EachMostGeneral P D declared (map with_scopes cs)
each_general P D declared [] h = tt
each_general P D declared (c ∷ cs) h = (scopes_keep_types P D declared c h.0, each_general P D declared cs h.1)

heads_stay : (n : ℕ) (cs : List TypedClause) → HeadsHave n (forms_of cs) → HeadsHave n (forms_of (map with_scopes cs))
heads_stay n [] h = tt
heads_stay n (c ∷ cs) h = (h.0, heads_stay n cs h.1)

-- the first variables have the predicate's types
first_types : (front ts back : List TypeTerm) → map (type_at (front ++ (ts ++ back))) (from (length front) (length ts)) ≡ ts
first_types front [] back = refl
first_types front (t ∷ ts) back =
    let n = length front in
    let all = front ++ (t ∷ (ts ++ back)) in
    let moved : (front ++ t ∷ []) ++ (ts ++ back) ≡ all = append_assoc front (t ∷ []) (ts ++ back) in
    let long : length (front ++ t ∷ []) ≡ suc n = omega (arith, length-append front (t ∷ [])) in
    let rest : map (type_at all) (from (suc n) (length ts)) ≡ ts =
    ap (λ us. map (type_at us) (from (suc n) (length ts))) (sym moved)
    ∙ ap (λ k. map (type_at ((front ++ t ∷ []) ++ (ts ++ back))) (from k (length ts))) (sym long) ∙ first_types (front ++ t ∷ []) ts back in
    ap₂ (λ u us. u ∷ us) (here front (variable_type n)) rest
  where
    here : (xs : List TypeTerm) (d : TypeTerm) → get_or (xs ++ (t ∷ (ts ++ back))) (length xs) d ≡ t
    here [] d = refl
    here (x ∷ xs) d = here xs d

-- well formed types
module _ (D : Parameters) where
  proper_both : (ts us : List TypeTerm) → EachProper D ts → EachProper D us → EachProper D (ts ++ us)
  proper_both [] us h k = k
  proper_both (t ∷ ts) us h k = (h.0, proper_both ts us h.1 k)

  proper_at : (ts : List TypeTerm) (x v : ℕ) → EachProper D ts → ProperType D (get_or ts x (variable_type v))
  proper_at [] x v h = tt
  proper_at (t ∷ ts) zero v h = h.0
  proper_at (t ∷ ts) (suc x) v h = proper_at ts x v h.1

  proper_drop : (n : ℕ) (ts : List TypeTerm) → EachProper D ts → EachProper D (drop n ts)
  proper_drop zero ts h = h
  proper_drop (suc n) [] h = tt
  proper_drop (suc n) (t ∷ ts) h = proper_drop n ts h.1

  proper_each : (ts : List TypeTerm) (xs : List ℕ) → EachProper D ts → EachProper D (map (λ v. get_or ts v (variable_type v)) xs)
  proper_each ts [] h = tt
  proper_each ts (x ∷ xs) h = (proper_at ts x x h, proper_each ts xs h)

  proper_clauses : (cs : List TypedClause) → TypesAreProper D cs → EachProper D (clauses_types cs)
  proper_clauses [] h = tt
  proper_clauses (c ∷ cs) h =
      let others = map (λ v. get_or c.types v (variable_type v)) (other_variables c.clause) in
      proper_both (clause_types c) (clauses_types cs)
      (proper_both others (drop c.variables c.types) (proper_each c.types (other_variables c.clause) h.0) (proper_drop c.variables c.types h.0))
      (proper_clauses cs h.1)

  scopes_proper : (cs : List TypedClause) → TypesAreProper D cs → TypesAreProper D (map with_scopes cs)
  scopes_proper [] h = tt
  scopes_proper (c ∷ cs) h = (h.0, scopes_proper cs h.1)

pub typed_goals_fit : TypedGoalsFit
typed_goals_fit S D cs more p h =
    let Q = S.world.source in
    let declared = (Q.preds p.pred).types in
    let forms = forms_of cs in
    let own = normal_types declared cs in
    let below = (normal_goals_below (length declared) forms h.heads).1 in
    let body = (normal_goal (length declared) forms).body in
    let at : (x : ℕ) → x < length own → type_at own x ≡ type_of S p x =
    λ x lt. sym (at_first own more x (variable_type x) lt) ∙ ap (λ ts. get_or ts x (variable_type x)) (sym h.types) in
    let typed : TypedGoal Q (type_of S p) body = agreed Q (type_at own) (type_of S p) body (λ x i. at x (subst (λ k. x < k) (sym h.goal.as_many) (below x i))) h.goal.typed in
    let same_goal : normal_goal (length declared) forms ≡ goal_of S p = ap (normal_goal (length declared)) (sym h.clauses) in
    let all : declared ++ (clauses_types cs ++ more) ≡ p.var_types = sym (append_assoc declared (clauses_types cs) more) ∙ sym h.types in
    let first : map (type_of S p) (from 0 (length declared)) ≡ declared = ap (λ ts. map (type_at ts) (from 0 (length declared))) (sym all) ∙ first_types [] declared (clauses_types cs ++ more) in
    let proper : EachProper D p.var_types =
    subst (EachProper D) all (proper_both D declared (clauses_types cs ++ more) h.declared (proper_both D (clauses_types cs) more (proper_clauses D cs h.proper) h.others)) in
    record {
      heads = subst (HeadsHave (length declared)) (sym h.clauses) h.heads;
      types = λ x. proper_at D p.var_types x x proper;
      head_types = ap (map (type_of S p)) h.head ∙ first;
      typed = subst (λ (g : Normal_goal). TypedGoal Q (type_of S p) g.body) same_goal typed;
    }

pub typed_clauses_fit : TypedClausesFit
typed_clauses_fit S P D cs more p h =
    let Q = S.world.source in
    let declared = (P.preds p.pred).types in
    let scoped = map with_scopes cs in
    let forms = forms_of scoped in
    let is_declared : declared ≡ (Q.preds p.pred).types = sym (h.same.types p.pred) in
    let heads = heads_stay (length declared) cs h.heads in
    let goal = goals_are_typed P D declared scoped heads (each_general P D declared cs h.general) in
    let typed : TypedGoal Q (type_at (normal_types declared scoped)) (normal_goal (length declared) forms).body =
    declared_typed P Q h.same (type_at (normal_types declared scoped)) (normal_goal (length declared) forms).body goal.typed in
    let of_Q : GoalIsTyped Q declared scoped = record { as_many = goal.as_many; typed = typed } in
    typed_goals_fit S D scoped more p
    (record {
      clauses = h.clauses;
      heads = subst (λ ts. HeadsHave (length ts) forms) is_declared heads;
      goal = subst (λ ts. GoalIsTyped Q ts scoped) is_declared of_Q;
      declared = subst (EachProper D) is_declared h.declared;
      proper = scopes_proper D cs h.proper;
      others = h.others;
      head = h.head ∙ ap (λ ts. from 0 (length ts)) is_declared;
      types = h.types ∙ ap (λ ts. normal_types ts scoped ++ more) is_declared;
    })
