-- Clauses whose variables are numbered otherwise are typed alike, where the types go with the numbers.
use Rattle.std.proofs.Common.{◌≡◌, ℕ, suc, ◌+◌, ◌<◌, ◌≤◌, List, [], ◌∷◌, ◌++◌, map, length, Bool, true, false, cond, Some, refl, sym, ap, ap₂, ◌∙◌, subst, arith}
use Rattle.std.proofs.lemmas.List.{map-append}
use Rattle.mc_program.specs.Values.{Val}
use Rattle.mc_program.specs.Programs.{TypeTerm, Source, Expression, variable, constant, made, applied, Expressions, no_expressions, expression_then, Formula, Equal, Call, And, Or, If, Not, Exists, Formulas, no_formulas, formula_then}
use Rattle.mc_model.specs.Flat as F
use Rattle.mc_model.specs.Flat.{Flat_goal}
use Rattle.mc_accepted.specs.Typing.{constructor_types, ConstantOf, TypedGoal}
use Rattle.mc_accepted.specs.Normal.{Named_terms, Conjuncts, the_variable, name_term, name_terms, equate, equation, conjunction, around, conjuncts_of, conjuncts_of_all, disjuncts_of, head_place, is_place, head_equation, head_equations}
use Rattle.laws_made_types.proofs.FlatTypings.{AllTyped, join, split, to_conjunction, from_conjunction, to_disjunction, from_disjunction, to_around, from_around}
use Rattle.laws_made_types.proofs.ClauseVariables.{one_variable}
use Rattle.laws_made_types.proofs.TracedGoals.{IsNone, sides, equation_right, equation_sides}

-- two numbers are as far behind two others
pub record Behind (m m' k k' : ℕ) : Type 0 where
  pub count : ℕ
  pub first : k ≡ m + count
  pub second : k' ≡ m' + count

pub behind_none : (m m' : ℕ) → Behind m m' m m'
behind_none m m' = record { count = 0; first = omega arith; second = omega arith }

pub behind_one : (m m' k k' : ℕ) → Behind m m' k k' → Behind m m' (k + 1) (k' + 1)
behind_one m m' k k' b = record { count = b.count + 1; first = omega (arith, b.first); second = omega (arith, b.second) }

pub behind_both : (m m' k k' j j' : ℕ) → Behind m m' k k' → Behind k k' j j' → Behind m m' j j'
behind_both m m' k k' j j' b c = record { count = b.count + c.count; first = omega (arith, b.first, c.first); second = omega (arith, b.second, c.second) }

module _ (P : Source) (T T' : ℕ → TypeTerm) (names names' : ℕ → ℕ) (same : (v : ℕ) → T (names v) ≡ T' (names' v)) where
  -- the variables from m on have the types of those from m' on
  abbrev pub Alike : ℕ → ℕ → Type 0
  Alike m m' = (i : ℕ) → T (m + i) ≡ T' (m' + i)

  pub alike_behind : (m m' k k' : ℕ) → Alike m m' → Behind m m' k k' → Alike k k'
  alike_behind m m' k k' a b i =
      let left : k + i ≡ m + (b.count + i) = omega (arith, b.first) in
      let right : m' + (b.count + i) ≡ k' + i = omega (arith, b.second) in
      ap T left ∙ a (b.count + i) ∙ ap T' right

  alike_here : (m m' : ℕ) → Alike m m' → T m ≡ T' m'
  alike_here m m' a = let left : m ≡ m + 0 = omega arith in let right : m' + 0 ≡ m' = omega arith in ap T left ∙ a 0 ∙ ap T' right

  -- ATOMS
  made_alike : (s x x' : ℕ) (ys ys' : List ℕ) → T x ≡ T' x' → map T ys ≡ map T' ys' → TypedGoal P T (F.Made x s ys) → TypedGoal P T' (F.Made x' s ys')
  made_alike s x x' ys ys' e es h = ap (constructor_types P s) (sym e) ∙ h ∙ ap Some es

  constant_alike : (v : Val) (x x' : ℕ) → T x ≡ T' x' → TypedGoal P T (F.Is x v) → TypedGoal P T' (F.Is x' v)
  constant_alike v x x' e h = (h.0, subst (ConstantOf v) e h.1)

  call_alike : (p : ℕ) (xs xs' : List ℕ) → map T xs ≡ map T' xs' → TypedGoal P T (F.Call p xs) → TypedGoal P T' (F.Call p xs')
  call_alike p xs xs' e h = (h.0, sym e ∙ h.1)

  and_last : (xs xs' : List ℕ) (x x' : ℕ) → map T xs ≡ map T' xs' → T x ≡ T' x' → map T (xs ++ x ∷ []) ≡ map T' (xs' ++ x' ∷ [])
  and_last xs xs' x x' es e = map-append T xs (x ∷ []) ∙ ap₂ (λ ts us. ts ++ us) es (ap (λ t. t ∷ []) e) ∙ sym (map-append T' xs' (x' ∷ []))

  -- TERMS
  pub record Terms_alike (m m' : ℕ) (r r' : Named_terms) : Type 0 where
    pub types : map T r.variables ≡ map T' r'.variables
    pub typed : AllTyped P T r.goals → AllTyped P T' r'.goals
    pub next : Behind m m' r.next r'.next

  -- goals, and one more behind them
  with_last : (gs gs' : List Flat_goal) (g g' : Flat_goal) → (AllTyped P T gs → AllTyped P T' gs') → (TypedGoal P T g → TypedGoal P T' g') → AllTyped P T (gs ++ g ∷ []) → AllTyped P T' (gs' ++ g' ∷ [])
  with_last gs gs' g g' a b h = let z = split P T gs (g ∷ []) h in join P T' gs' (g' ∷ []) (a z.0) (b z.1.0, tt)

  mutual
    pub term_alike : (e : Expression) (m m' : ℕ) → Alike m m' → Terms_alike m m' (name_term names m e) (name_term names' m' e)
    term_alike (variable v) m m' a = record { types = ap (λ t. t ∷ []) (same v); typed = λ h. tt; next = behind_none m m' }
    term_alike (constant v) m m' a =
        record {
          types = ap (λ t. t ∷ []) (alike_here m m' a);
          typed = λ h. (constant_alike v m m' (alike_here m m' a) h.0, tt);
          next = behind_one m m' m m' (behind_none m m');
        }
    term_alike (made s ts) m m' a =
        let r = name_terms names m ts in
        let r' = name_terms names' m' ts in
        let w = terms_alike ts m m' a in
        let here = alike_here r.next r'.next (alike_behind m m' r.next r'.next a w.next) in
        record {
          types = ap (λ t. t ∷ []) here;
          typed = with_last r.goals r'.goals (F.Made r.next s r.variables) (F.Made r'.next s r'.variables) w.typed (made_alike s r.next r'.next r.variables r'.variables here w.types);
          next = behind_one m m' r.next r'.next w.next;
        }
    term_alike (applied f ts) m m' a =
        let r = name_terms names m ts in
        let r' = name_terms names' m' ts in
        let w = terms_alike ts m m' a in
        let here = alike_here r.next r'.next (alike_behind m m' r.next r'.next a w.next) in
        record {
          types = ap (λ t. t ∷ []) here;
          typed =
              with_last r.goals r'.goals (F.Call f (r.variables ++ r.next ∷ [])) (F.Call f (r'.variables ++ r'.next ∷ [])) w.typed
              (call_alike f (r.variables ++ r.next ∷ []) (r'.variables ++ r'.next ∷ []) (and_last r.variables r'.variables r.next r'.next w.types here));
          next = behind_one m m' r.next r'.next w.next;
        }

    pub terms_alike : (es : Expressions) (m m' : ℕ) → Alike m m' → Terms_alike m m' (name_terms names m es) (name_terms names' m' es)
    terms_alike no_expressions m m' a = record { types = refl; typed = λ h. tt; next = behind_none m m' }
    terms_alike (expression_then e es) m m' a =
        let r = name_term names m e in
        let r' = name_term names' m' e in
        let w = term_alike e m m' a in
        let rs = name_terms names r.next es in
        let rs' = name_terms names' r'.next es in
        let ws = terms_alike es r.next r'.next (alike_behind m m' r.next r'.next a w.next) in
        record {
          types = map-append T r.variables rs.variables ∙ ap₂ (λ ts us. ts ++ us) w.types ws.types ∙ sym (map-append T' r'.variables rs'.variables);
          typed = λ h. let z = split P T r.goals rs.goals h in join P T' r'.goals rs'.goals (w.typed z.0) (ws.typed z.1);
          next = behind_both m m' r.next r'.next rs.next rs'.next w.next ws.next;
        }

  the_same : (e : Expression) (m m' : ℕ) → Alike m m' → T (the_variable (name_term names m e)) ≡ T' (the_variable (name_term names' m' e))
  the_same e m m' a =
      let one = ap (map T) (one_variable names m e) in
      let one' = ap (map T') (one_variable names' m' e) in
      ap first_type (sym one ∙ (term_alike e m m' a).types ∙ one')
    where
      first_type : List TypeTerm → TypeTerm
      first_type [] = T 0
      first_type (t ∷ ts) = t

  -- CONJUNCTS
  pub record Goals_alike (m m' : ℕ) (r r' : Conjuncts) : Type 0 where
    pub typed : AllTyped P T r.goals → AllTyped P T' r'.goals
    pub next : Behind m m' r.next r'.next

  pub equate_alike : (e : Expression) (m m' x x' : ℕ) → T x ≡ T' x' → Alike m m' → Goals_alike m m' (equate names m x e) (equate names' m' x' e)
  equate_alike (variable v) m m' x x' q a = record { typed = λ h. (sym q ∙ h.0 ∙ same v, tt); next = behind_none m m' }
  equate_alike (constant v) m m' x x' q a = record { typed = λ h. (constant_alike v x x' q h.0, tt); next = behind_none m m' }
  equate_alike (made s ts) m m' x x' q a =
      let r = name_terms names m ts in
      let r' = name_terms names' m' ts in
      let w = terms_alike ts m m' a in
      record {
        typed = with_last r.goals r'.goals (F.Made x s r.variables) (F.Made x' s r'.variables) w.typed (made_alike s x x' r.variables r'.variables q w.types);
        next = w.next;
      }
  equate_alike (applied f ts) m m' x x' q a =
      let r = name_terms names m ts in
      let r' = name_terms names' m' ts in
      let w = terms_alike ts m m' a in
      record {
        typed =
            with_last r.goals r'.goals (F.Call f (r.variables ++ x ∷ [])) (F.Call f (r'.variables ++ x' ∷ [])) w.typed
            (call_alike f (r.variables ++ x ∷ []) (r'.variables ++ x' ∷ []) (and_last r.variables r'.variables x x' w.types q));
        next = w.next;
      }

  sides_alike : (b c : Expression) (m m' : ℕ) → Alike m m' → Goals_alike m m' (sides names m b c) (sides names' m' b c)
  sides_alike b c m m' a =
      let r = name_term names m b in
      let r' = name_term names' m' b in
      let w = term_alike b m m' a in
      let rs = equate names r.next (the_variable r) c in
      let rs' = equate names' r'.next (the_variable r') c in
      let ws = equate_alike c r.next r'.next (the_variable r) (the_variable r') (the_same b m m' a) (alike_behind m m' r.next r'.next a w.next) in
      record {
        typed = λ h. let z = split P T r.goals rs.goals h in join P T' r'.goals rs'.goals (w.typed z.0) (ws.typed z.1);
        next = behind_both m m' r.next r'.next rs.next rs'.next w.next ws.next;
      }

  -- where the left side is no variable
  right_alike : (b c : Expression) (m m' : ℕ) → IsNone b → Alike m m' → Goals_alike m m' (equation names m b c) (equation names' m' b c)
  right_alike b (variable y) m m' none a =
      subst (λ r. Goals_alike m m' r (equation names' m' b (variable y))) (sym (equation_right names m b y none))
      (subst (λ r. Goals_alike m m' (equate names m (names y) b) r) (sym (equation_right names' m' b y none)) (equate_alike b m m' (names y) (names' y) (same y) a))
  right_alike b (constant v) m m' none a = both_sides b (constant v) m m' none tt a
    where
      both_sides : (b c : Expression) (m m' : ℕ) → IsNone b → IsNone c → Alike m m' → Goals_alike m m' (equation names m b c) (equation names' m' b c)
      both_sides b c m m' none none' a =
          subst (λ r. Goals_alike m m' r (equation names' m' b c)) (sym (equation_sides names m b c none none'))
          (subst (λ r. Goals_alike m m' (sides names m b c) r) (sym (equation_sides names' m' b c none none')) (sides_alike b c m m' a))
  right_alike b (made s ts) m m' none a =
      subst (λ r. Goals_alike m m' r (equation names' m' b (made s ts))) (sym (equation_sides names m b (made s ts) none tt))
      (subst (λ r. Goals_alike m m' (sides names m b (made s ts)) r) (sym (equation_sides names' m' b (made s ts) none tt)) (sides_alike b (made s ts) m m' a))
  right_alike b (applied f ts) m m' none a =
      subst (λ r. Goals_alike m m' r (equation names' m' b (applied f ts))) (sym (equation_sides names m b (applied f ts) none tt))
      (subst (λ r. Goals_alike m m' (sides names m b (applied f ts)) r) (sym (equation_sides names' m' b (applied f ts) none tt)) (sides_alike b (applied f ts) m m' a))

  equation_alike : (b c : Expression) (m m' : ℕ) → Alike m m' → Goals_alike m m' (equation names m b c) (equation names' m' b c)
  equation_alike (variable x) c m m' a = equate_alike c m m' (names x) (names' x) (same x) a
  equation_alike (constant v) c m m' a = right_alike (constant v) c m m' tt a
  equation_alike (made s ts) c m m' a = right_alike (made s ts) c m m' tt a
  equation_alike (applied f ts) c m m' a = right_alike (applied f ts) c m m' tt a

  -- the conjunction of conjuncts, with variables quantified around it
  part_alike : (gs gs' : List Flat_goal) (vs vs' : List ℕ) → (AllTyped P T gs → AllTyped P T' gs') → TypedGoal P T (around vs (conjunction gs)) → TypedGoal P T' (around vs' (conjunction gs'))
  part_alike gs gs' vs vs' f h =
      to_around P T' vs' (conjunction gs') (to_conjunction P T' gs' (f (from_conjunction P T gs (from_around P T vs (conjunction gs) h))))

  whole_alike : (gs gs' : List Flat_goal) → (AllTyped P T gs → AllTyped P T' gs') → TypedGoal P T (conjunction gs) → TypedGoal P T' (conjunction gs')
  whole_alike gs gs' f h = to_conjunction P T' gs' (f (from_conjunction P T gs h))

  mutual
    pub goal_alike : (g : Formula) (m m' : ℕ) → Alike m m' → Goals_alike m m' (conjuncts_of names m g) (conjuncts_of names' m' g)
    goal_alike (Equal b c) m m' a = equation_alike b c m m' a
    goal_alike (Call p ts) m m' a =
        let r = name_terms names m ts in
        let r' = name_terms names' m' ts in
        let w = terms_alike ts m m' a in
        record {
          typed = with_last r.goals r'.goals (F.Call p r.variables) (F.Call p r'.variables) w.typed (call_alike p r.variables r'.variables w.types);
          next = w.next;
        }
    goal_alike (And gs) m m' a = goals_alike gs m m' a
    goal_alike (Or gs) m m' a =
        let r = disjuncts_of names m gs in
        let r' = disjuncts_of names' m' gs in
        let w = disjuncts_alike gs m m' a in
        record {
          typed = λ h. (to_disjunction P T' r'.goals (w.typed (from_disjunction P T r.goals h.0)), tt);
          next = w.next;
        }
    goal_alike (If vs c t e) m m' a =
        let rc = conjuncts_of names m c in
        let rc' = conjuncts_of names' m' c in
        let wc = goal_alike c m m' a in
        let rt = conjuncts_of names rc.next t in
        let rt' = conjuncts_of names' rc'.next t in
        let wt = goal_alike t rc.next rc'.next (alike_behind m m' rc.next rc'.next a wc.next) in
        let both = behind_both m m' rc.next rc'.next rt.next rt'.next wc.next wt.next in
        let re = conjuncts_of names rt.next e in
        let re' = conjuncts_of names' rt'.next e in
        let we = goal_alike e rt.next rt'.next (alike_behind m m' rt.next rt'.next a both) in
        record {
          typed = λ h. ((part_alike rc.goals rc'.goals rc.made_variables rc'.made_variables wc.typed h.0.0, part_alike rt.goals rt'.goals rt.made_variables rt'.made_variables wt.typed h.0.1, part_alike re.goals re'.goals re.made_variables re'.made_variables we.typed h.0.2), tt);
          next = behind_both m m' rt.next rt'.next re.next re'.next both we.next;
        }
    goal_alike (Not g) m m' a =
        let r = conjuncts_of names m g in
        let r' = conjuncts_of names' m' g in
        let w = goal_alike g m m' a in
        record {
          typed = λ h. (part_alike r.goals r'.goals r.made_variables r'.made_variables w.typed h.0, tt);
          next = w.next;
        }
    goal_alike (Exists vs g) m m' a =
        let r = conjuncts_of names m g in
        let r' = conjuncts_of names' m' g in
        let w = goal_alike g m m' a in
        record {
          typed = λ h. (whole_alike r.goals r'.goals w.typed h.0, tt);
          next = w.next;
        }

    goals_alike : (gs : Formulas) (m m' : ℕ) → Alike m m' → Goals_alike m m' (conjuncts_of_all names m gs) (conjuncts_of_all names' m' gs)
    goals_alike no_formulas m m' a = record { typed = λ h. tt; next = behind_none m m' }
    goals_alike (formula_then g gs) m m' a =
        let r = conjuncts_of names m g in
        let r' = conjuncts_of names' m' g in
        let w = goal_alike g m m' a in
        let rs = conjuncts_of_all names r.next gs in
        let rs' = conjuncts_of_all names' r'.next gs in
        let ws = goals_alike gs r.next r'.next (alike_behind m m' r.next r'.next a w.next) in
        record {
          typed = λ h. let z = split P T r.goals rs.goals h in join P T' r'.goals rs'.goals (w.typed z.0) (ws.typed z.1);
          next = behind_both m m' r.next r'.next rs.next rs'.next w.next ws.next;
        }

    disjuncts_alike : (gs : Formulas) (m m' : ℕ) → Alike m m' → Goals_alike m m' (disjuncts_of names m gs) (disjuncts_of names' m' gs)
    disjuncts_alike no_formulas m m' a = record { typed = λ h. tt; next = behind_none m m' }
    disjuncts_alike (formula_then g gs) m m' a =
        let r = conjuncts_of names m g in
        let r' = conjuncts_of names' m' g in
        let w = goal_alike g m m' a in
        let rs = disjuncts_of names r.next gs in
        let rs' = disjuncts_of names' r'.next gs in
        let ws = disjuncts_alike gs r.next r'.next (alike_behind m m' r.next r'.next a w.next) in
        record {
          typed = λ h. (part_alike r.goals r'.goals r.made_variables r'.made_variables w.typed h.0, ws.typed h.1);
          next = behind_both m m' r.next r'.next rs.next rs'.next w.next ws.next;
        }

  -- THE HEAD, whose variables have the same numbers
  module _ (head : List Expression) (arity : ℕ) (at_head : (i : ℕ) → i < arity → T i ≡ T' i) where
    head_alike : (e : Expression) (m m' i : ℕ) → i < arity → Alike m m' → Goals_alike m m' (head_equation names head m i e) (head_equation names' head m' i e)
    head_alike (variable v) m m' i lt a = by_test (is_place i (head_place v head))
      where
        by_test : (t : Bool) → Goals_alike m m' (cond t (record { goals = []; made_variables = []; next = m }) (equate names m i (variable v))) (cond t (record { goals = []; made_variables = []; next = m' }) (equate names' m' i (variable v)))
        by_test true = record { typed = λ h. tt; next = behind_none m m' }
        by_test false = equate_alike (variable v) m m' i i (at_head i lt) a
    head_alike (constant v) m m' i lt a = equate_alike (constant v) m m' i i (at_head i lt) a
    head_alike (made s ts) m m' i lt a = equate_alike (made s ts) m m' i i (at_head i lt) a
    head_alike (applied f ts) m m' i lt a = equate_alike (applied f ts) m m' i i (at_head i lt) a

    pub heads_alike : (es : List Expression) (m m' i : ℕ) → i + length es ≤ arity → Alike m m' → Goals_alike m m' (head_equations names head m i es) (head_equations names' head m' i es)
    heads_alike [] m m' i le a = record { typed = λ h. tt; next = behind_none m m' }
    heads_alike (e ∷ es) m m' i le a =
        let r = head_equation names head m i e in
        let r' = head_equation names' head m' i e in
        let lt : i < arity = omega (arith, le) in
        let w = head_alike e m m' i lt a in
        let rs = head_equations names head r.next (suc i) es in
        let rs' = head_equations names' head r'.next (suc i) es in
        let less : suc i + length es ≤ arity = omega (arith, le) in
        let ws = heads_alike es r.next r'.next (suc i) less (alike_behind m m' r.next r'.next a w.next) in
        record {
          typed = λ h. let z = split P T r.goals rs.goals h in join P T' r'.goals rs'.goals (w.typed z.0) (ws.typed z.1);
          next = behind_both m m' r.next r'.next rs.next rs'.next w.next ws.next;
        }
