-- The goal of several clauses is typed where that of each clause is.
use Rattle.std.proofs.Common.{◌≡◌, inl, inr, ℕ, zero, suc, ◌+◌, ◌-◌, ◌<◌, ◌≤◌, List, [], ◌∷◌, ◌++◌, map, length, get_or, cond, Option, Some, None, refl, sym, ap, ap₂, ◌∙◌, subst, arith, append_assoc, append-nil, length-append, ⊎_elim}
use Rattle.std.specs.Prelude.{nat_lt}
use Rattle.std.proofs.lemmas.Bool.{cases_lt, lt-ltb, le-ltb}
use Rattle.mc_program.specs.Programs.{TypeTerm, variable_type, Source, Expression}
use Rattle.mc_model.specs.Lists.{In, place_in}
use Rattle.mc_model.specs.Flat as F
use Rattle.mc_model.specs.Flat.{Flat_goal, Flat_goals, no_flat, flat_then, variables_of, variables_of_all}
use Rattle.mc_accepted.specs.ProperTypes.{Parameters}
use Rattle.mc_accepted.specs.Typing.{constructor_types, ConstantOf, TypedGoal, TypedGoals}
use Rattle.mc_accepted.specs.Fits.{HeadsHave}
use Rattle.mc_accepted.specs.Normal.{conjunction, conjuncts_of, head_place, head_equations, clause_goal, clause_goals, one_or_either, normal_goal, names_in, other_variables, place_or}
use Rattle.mc_accepted.specs.NormalTypes.{TypedClause, clause_types, clauses_types, normal_types}
use Rattle.mc_accepted.specs.MostGeneral.{type_at, MostGeneral}
use Rattle.laws_language.proofs.FlatGoals.{in_left, in_right}
use Rattle.laws_language.proofs.ClauseNumbers.{IsArgument, is_argument}
use Rattle.laws_order.proofs.NormalScopes.{normal_goals_below}
use Rattle.laws_made_types.proofs.FlatTypings.{AllTyped, join, split, to_conjunction, from_conjunction, to_disjunction}
use Rattle.laws_types.specs.GoalTypes.{forms_of, EachMostGeneral, GoalIsTyped, EachIsTyped, TypedGoalsJoin, GoalsAreTyped}
use Rattle.laws_types.proofs.Renumbered.{Behind, behind_both, Alike, alike_behind, Goals_alike, goal_alike, heads_alike}

-- A goal is typed by the types of its variables alone.
module _ (P : Source) (T T' : ℕ → TypeTerm) where
  abbrev pub Agree : List ℕ → Type 0
  Agree xs = (x : ℕ) → In x xs → T x ≡ T' x

  agree_left : (xs ys : List ℕ) → Agree (xs ++ ys) → Agree xs
  agree_left xs ys h x i = h x (in_left x xs ys i)

  agree_right : (xs ys : List ℕ) → Agree (xs ++ ys) → Agree ys
  agree_right xs ys h x i = h x (in_right x xs ys i)

  mapped : (xs : List ℕ) → Agree xs → map T xs ≡ map T' xs
  mapped [] h = refl
  mapped (x ∷ xs) h = ap₂ (λ t ts. t ∷ ts) (h x (inl refl)) (mapped xs (λ y i. h y (inr i)))

  mutual
    pub agreed : (g : Flat_goal) → Agree (variables_of g) → TypedGoal P T g → TypedGoal P T' g
    agreed (F.Same x y) h t = sym (h x (inl refl)) ∙ t ∙ h y (inr (inl refl))
    agreed (F.Made x s ys) h t = ap (constructor_types P s) (sym (h x (inl refl))) ∙ t ∙ ap Some (mapped ys (λ y i. h y (inr i)))
    agreed (F.Is x v) h t = (t.0, subst (ConstantOf v) (h x (inl refl)) t.1)
    agreed (F.Call p xs) h t = (t.0, sym (mapped xs h) ∙ t.1)
    agreed (F.And gs) h t = all_agreed gs h t
    agreed (F.Or gs) h t = all_agreed gs h t
    agreed (F.If vs c u e) h t =
        let inner = agree_right vs (variables_of c ++ (variables_of u ++ variables_of e)) h in
        let behind = agree_right (variables_of c) (variables_of u ++ variables_of e) inner in (
          agreed c (agree_left (variables_of c) (variables_of u ++ variables_of e) inner) t.0,
          agreed u (agree_left (variables_of u) (variables_of e) behind) t.1,
          agreed e (agree_right (variables_of u) (variables_of e) behind) t.2,
        )
    agreed (F.Not g) h t = agreed g h t
    agreed (F.Exists vs g) h t = agreed g (agree_right vs (variables_of g) h) t

    all_agreed : (gs : Flat_goals) → Agree (variables_of_all gs) → TypedGoals P T gs → TypedGoals P T' gs
    all_agreed no_flat h t = tt
    all_agreed (flat_then g gs) h t =
        (agreed g (agree_left (variables_of g) (variables_of_all gs) h) t.0, all_agreed gs (agree_right (variables_of g) (variables_of_all gs) h) t.1)

pub argument_below : (x i : ℕ) (ts : List Expression) → IsArgument x i ts → i < length ts
argument_below x i [] h = absurd h
argument_below x zero (t ∷ ts) h = omega arith
argument_below x (suc i) (t ∷ ts) h = omega (arith, argument_below x i ts h)

-- the types of some variables, among others
pub at_first : (xs ys : List TypeTerm) (k : ℕ) (d : TypeTerm) → k < length xs → get_or (xs ++ ys) k d ≡ get_or xs k d
at_first [] ys k d lt = absurd (omega (arith, lt))
at_first (x ∷ xs) ys zero d lt = refl
at_first (x ∷ xs) ys (suc k) d lt = at_first xs ys k d (omega (arith, lt))

pub at_second : (xs ys : List TypeTerm) (k : ℕ) (d : TypeTerm) → get_or (xs ++ ys) (length xs + k) d ≡ get_or ys k d
at_second [] ys k d = let e : 0 + k ≡ k = omega arith in ap (λ i. get_or ys i d) e
at_second (x ∷ xs) ys k d = let e : suc (length xs) + k ≡ suc (length xs + k) = omega arith in ap (λ i. get_or (x ∷ (xs ++ ys)) i d) e ∙ at_second xs ys k d

pub at_default : (xs : List TypeTerm) (k : ℕ) (d e : TypeTerm) → k < length xs → get_or xs k d ≡ get_or xs k e
at_default [] k d e lt = absurd (omega (arith, lt))
at_default (x ∷ xs) zero d e lt = refl
at_default (x ∷ xs) (suc k) d e lt = at_default xs k d e (omega (arith, lt))

-- a clause that is numbered from n on, where its predicate has so many arguments, and that has its types behind others
module _ (P : Source) (declared front back : List TypeTerm) (c : TypedClause) (general : GoalIsTyped P declared (c ∷ [])) (heads : length c.clause.head ≡ length declared) where
  abbrev arity : ℕ
  arity = length declared

  abbrev own : List TypeTerm
  own = normal_types declared (c ∷ [])

  abbrev n : ℕ
  n = length (declared ++ front)

  -- the types of all, and of the clause's variables where they are numbered behind the arguments
  abbrev all : ℕ → TypeTerm
  all x = type_at (declared ++ (front ++ (clause_types c ++ back))) x

  abbrev moved : ℕ → TypeTerm
  moved x = cond (nat_lt x arity) (all x) (all (n + (x - arity)))

  at_arguments : (x : ℕ) → x < arity → moved x ≡ all x
  at_arguments x lt = ap (λ b. cond b (all x) (all (n + (x - arity)))) (lt-ltb x arity lt)

  at_others : (i : ℕ) → moved (arity + i) ≡ all (n + i)
  at_others i =
      let le : arity ≤ arity + i = omega arith in
      let e : n + (arity + i - arity) ≡ n + i = omega arith in
      ap (λ b. cond b (all (arity + i)) (all (n + (arity + i - arity)))) (le-ltb (arity + i) arity le) ∙ ap all e

  own_is : own ≡ declared ++ clause_types c
  own_is = ap (λ ts. declared ++ ts) (append-nil (clause_types c))

  own_long : length own ≡ arity + length (clause_types c)
  own_long = ap length own_is ∙ length-append declared (clause_types c)

  -- the same types, where the clause has one
  same_types : (x : ℕ) → x < length own → type_at own x ≡ moved x
  same_types x lt = ⊎_elim (λ l. of_argument l) (λ g. of_other (x - arity) (let e : x ≡ arity + (x - arity) = omega (arith, g) in e)) (cases_lt x arity)
    where
      of_argument : x < arity → type_at own x ≡ moved x
      of_argument l =
          ap (λ ts. get_or ts x (variable_type x)) own_is ∙ at_first declared (clause_types c) x (variable_type x) l
          ∙ sym (at_first declared (front ++ (clause_types c ++ back)) x (variable_type x) l) ∙ sym (at_arguments x l)

      of_other : (i : ℕ) → x ≡ arity + i → type_at own x ≡ moved x
      of_other i e =
          let short : i < length (clause_types c) = omega (arith, lt, e, own_long) in
          let d = variable_type (arity + i) in
          let d' = variable_type (n + i) in
          let front_long : n + i ≡ arity + (length front + i) = omega (arith, length-append declared front) in
          let here : type_at own x ≡ get_or (clause_types c) i d = ap (type_at own) e ∙ ap (λ ts. get_or ts (arity + i) d) own_is ∙ at_second declared (clause_types c) i d in
          let there : all (n + i) ≡ get_or (clause_types c) i d' =
          ap (λ k. get_or (declared ++ (front ++ (clause_types c ++ back))) k d') front_long
          ∙ at_second declared (front ++ (clause_types c ++ back)) (length front + i) d' ∙ at_second front (clause_types c ++ back) i d' ∙ at_first (clause_types c) back i d' short in
          here ∙ at_default (clause_types c) i d d' short ∙ sym there ∙ sym (at_others i) ∙ ap moved (sym e)

  -- the clause's goal by itself has these types
  by_itself : TypedGoal P moved (normal_goal arity (c.clause ∷ [])).body
  by_itself =
      let body = (normal_goal arity (c.clause ∷ [])).body in
      let below = (normal_goals_below arity (c.clause ∷ []) (heads, tt)).1 in
      agreed P (type_at own) moved body (λ x i. same_types x (subst (λ k. x < k) (sym general.as_many) (below x i))) general.typed

  -- the numbers of its variables
  numbers_same : (v : ℕ) → moved (names_in arity c.clause v) ≡ all (names_in n c.clause v)
  numbers_same v = by_place (head_place v c.clause.head) (λ k e. argument_below v k c.clause.head (is_argument v c.clause.head k e))
    where
      by_place : (o : Option ℕ) → ((k : ℕ) → o ≡ Some k → k < length c.clause.head) → moved (place_or (arity + place_in v (other_variables c.clause)) o) ≡ all (place_or (n + place_in v (other_variables c.clause)) o)
      by_place None lt = at_others (place_in v (other_variables c.clause))
      by_place (Some k) lt = at_arguments k (let l = lt k refl in omega (arith, l, heads))

  alike : Alike P moved all (names_in arity c.clause) (names_in n c.clause) numbers_same arity n
  alike i = at_others i

  clause_alike : Goals_alike P moved all (names_in arity c.clause) (names_in n c.clause) numbers_same arity n (clause_goal arity c.clause) (clause_goal n c.clause)
  clause_alike =
      let names = names_in arity c.clause in
      let names' = names_in n c.clause in
      let others = length (other_variables c.clause) in
      let start : Behind arity n (arity + others) (n + others) = record { count = others; first = refl; second = refl } in
      let head = c.clause.head in
      let r = head_equations names head (arity + others) 0 head in
      let r' = head_equations names' head (n + others) 0 head in
      let le : 0 + length head ≤ arity = omega (arith, heads) in
      let w = heads_alike P moved all names names' numbers_same head arity at_arguments head (arity + others) (n + others) 0 le (alike_behind P moved all names names' numbers_same arity n (arity + others) (n + others) alike start) in
      let until = behind_both arity n (arity + others) (n + others) r.next r'.next start w.next in
      let b = conjuncts_of names r.next c.clause.body in
      let b' = conjuncts_of names' r'.next c.clause.body in
      let wb = goal_alike P moved all names names' numbers_same c.clause.body r.next r'.next (alike_behind P moved all names names' numbers_same arity n r.next r'.next alike until) in
      record {
        typed = λ h. let z = split P moved r.goals b.goals h in join P all r'.goals b'.goals (w.typed z.0) (wb.typed z.1);
        next = behind_both arity n r.next r'.next b.next b'.next until wb.next;
      }

  pub clause_typed : TypedGoal P all (conjunction (clause_goal n c.clause).goals)
  clause_typed =
      let r = clause_goal arity c.clause in
      to_conjunction P all (clause_goal n c.clause).goals (clause_alike.typed (from_conjunction P moved r.goals by_itself))

  pub clause_next : (clause_goal n c.clause).next ≡ n + length (clause_types c)
  clause_next =
      let b = clause_alike.next in
      let many = general.as_many in
      omega (arith, b.first, b.second, many, own_long)

-- the clauses one behind another
module _ (P : Source) (declared : List TypeTerm) where
  clauses_typed :
      (cs : List TypedClause) (front : List TypeTerm)
      → HeadsHave (length declared) (forms_of cs)
      → EachIsTyped P declared cs
      → ((clause_goals (length (declared ++ front)) (forms_of cs)).next ≡ length (declared ++ (front ++ clauses_types cs)))
      × AllTyped P (type_at (declared ++ (front ++ clauses_types cs))) (clause_goals (length (declared ++ front)) (forms_of cs)).goals
  clauses_typed [] front heads general = (ap (λ ts. length (declared ++ ts)) (sym (append-nil front)), tt)
  clauses_typed (c ∷ cs) front heads general =
      let n = length (declared ++ front) in
      let r = clause_goal n c.clause in
      let types = declared ++ (front ++ (clause_types c ++ clauses_types cs)) in
      let rest = clauses_typed cs (front ++ clause_types c) heads.1 general.1 in
      let long : length (declared ++ (front ++ clause_types c)) ≡ r.next =
      ap length (sym (append_assoc declared front (clause_types c))) ∙ length-append (declared ++ front) (clause_types c)
      ∙ sym (clause_next P declared front (clauses_types cs) c general.0 heads.0) in
      let same : declared ++ ((front ++ clause_types c) ++ clauses_types cs) ≡ types = ap (λ ts. declared ++ ts) (append_assoc front (clause_types c) (clauses_types cs)) in
      let next = subst (λ k. (clause_goals k (forms_of cs)).next ≡ length (declared ++ ((front ++ clause_types c) ++ clauses_types cs))) long rest.0 in
      let typed = subst (λ k. AllTyped P (type_at (declared ++ ((front ++ clause_types c) ++ clauses_types cs))) (clause_goals k (forms_of cs)).goals) long rest.1 in
      (next ∙ ap length same, (clause_typed P declared front (clauses_types cs) c general.0 heads.0, subst (λ ts. AllTyped P (type_at ts) (clause_goals r.next (forms_of cs)).goals) same typed))

  one_typed : (T : ℕ → TypeTerm) (gs : List Flat_goal) → AllTyped P T gs → TypedGoal P T (one_or_either gs)
  one_typed T [] h = tt
  one_typed T (g ∷ []) h = h.0
  one_typed T (g ∷ g' ∷ gs) h = to_disjunction P T (g ∷ g' ∷ gs) h

pub typed_goals_join : TypedGoalsJoin
typed_goals_join P declared cs heads each =
    let all = clauses_typed P declared cs [] heads each in
    let start : length (declared ++ []) ≡ length declared = ap length (append-nil declared) in
    let next = subst (λ k. (clause_goals k (forms_of cs)).next ≡ length (declared ++ clauses_types cs)) start all.0 in
    let typed = subst (λ k. AllTyped P (type_at (declared ++ clauses_types cs)) (clause_goals k (forms_of cs)).goals) start all.1 in
    record {
      as_many = sym next;
      typed = one_typed P declared (type_at (declared ++ clauses_types cs)) (clause_goals (length declared) (forms_of cs)).goals typed;
    }

-- the goal of a clause with its most general types is typed
pub general_is_typed : (P : Source) (D : Parameters) (declared : List TypeTerm) (c : TypedClause) → MostGeneral P D declared c → GoalIsTyped P declared (c ∷ [])
general_is_typed P D declared c general = record { as_many = general.as_many; typed = general.typed }

each_typed : (P : Source) (D : Parameters) (declared : List TypeTerm) (cs : List TypedClause) → EachMostGeneral P D declared cs → EachIsTyped P declared cs
each_typed P D declared [] h = tt
each_typed P D declared (c ∷ cs) h = (general_is_typed P D declared c h.0, each_typed P D declared cs h.1)

pub goals_are_typed : GoalsAreTyped
goals_are_typed P D declared cs heads general = typed_goals_join P declared cs heads (each_typed P D declared cs general)
