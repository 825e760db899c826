-- The scopes of predicates' normal goals, and which variables they have.
use Rattle.std.proofs.Common.{◌≡◌, ◌⊎◌, inl, inr, ℕ, zero, suc, ◌+◌, ◌<◌, ◌≤◌, List, [], ◌∷◌, ◌++◌, map, length, Bool, true, false, cond, refl, sym, ap, ◌∙◌, subst, ⊎_elim, arith}
use Rattle.mc_program.specs.Programs.{Expression, variable, constant, made, applied, Expressions, no_expressions, expression_then, expressions, Formula, Equal, Call, And, Or, If, Not, Exists, Formulas, no_formulas, formula_then, ClauseForm}
use Rattle.mc_model.specs.Flat as F
use Rattle.mc_model.specs.Flat.{Flat_goal, flats, variables_of, variables_of_all, free_in}
use Rattle.mc_model.specs.Lists.{In, Apart, Among, from, without}
use Rattle.mc_accepted.specs.Scope.{variables_in, variables_in_all, occurring, occurring_all, free_of, free_of_all}
use Rattle.mc_accepted.specs.Normal.{Named_terms, the_variable, name_term, name_terms, Conjuncts, equate, equation, before, conjuncts_of, conjuncts_of_all, disjuncts_of, conjunction, disjunction, around, named_by_quantifiers, named_by_quantifiers_of_all, other_variables, head_place, is_place, names_in, head_equation, head_equations, clause_goal, clause_goals, one_or_either}
use Rattle.mc_accepted.specs.Fits.{HeadsHave, goal_of}
use Rattle.laws_language.specs.FlatLaws.{Numbers}
use Rattle.laws_language.proofs.FlatGoals.{in_left, in_right, in_either}
use Rattle.laws_language.proofs.FlatWhole.{in_map}
use Rattle.laws_language.proofs.ClauseNumbers.{clause_variables, IsArgument, has_number, clause_numbers, other_above, in_without, from_without}
use Rattle.laws_language.proofs.Scopes.{out_of_without}
use Rattle.laws_order.specs.OrderLaws.{Below, FlatScopes, PartsScoped, DisjunctsScoped}
use Rattle.laws_order.specs.NormalScopes.{mentioned, all_mentioned, NamedApart, PartsNamedApart, DisjunctsNamedApart, ClauseNamedApart, EachNamedApart, NormalGoalsScoped, NormalGoalsBelow, NormalOrderIsOrdered}
use Rattle.laws_order.proofs.EndsMet.{in-order-is-ordered}
use Rattle.laws_order.proofs.FlatScopes.{both, all, variables_are, free_are, in_flats, all_split, only_one, conjunction_in, disjunction_in, around_in, around_free, around_scoped, parts_joined, one_part, conjunction_scoped, disjunction_scoped}

-- where variables of flat goals come from: they are numbers of variables of the clause, or were made
abbrev Names : (ℕ → ℕ) → List ℕ → ℕ → Type 0
Names names vs x = (v : ℕ) × In v vs × (x ≡ names v)

abbrev From : (ℕ → ℕ) → (vs : List ℕ) → (m k : ℕ) → ℕ → Type 0
From names vs m k x = Names names vs x ⊎ ((m ≤ x) × (x < k))

abbrev Ours : (ℕ → ℕ) → (vs given : List ℕ) → ℕ → Type 0
Ours names vs given x = Names names vs x ⊎ In x given

module _ (names : ℕ → ℕ) where
  named_more : (vs ws : List ℕ) (x : ℕ) → Among vs ws → Names names vs x → Names names ws x
  named_more vs ws x a h = (h.0, a h.0 h.1, h.2)

  from_more : (vs ws : List ℕ) (m k i j x : ℕ) → Among vs ws → i ≤ m → k ≤ j → From names vs m k x → From names ws i j x
  from_more vs ws m k i j x a l r h = ⊎_elim (λ b. inl (named_more vs ws x a b)) (λ b. inr (omega (arith, b.0, l), omega (arith, b.1, r))) h

  ours_more : (vs ws ys zs : List ℕ) (x : ℕ) → Among vs ws → Among ys zs → Ours names vs ys x → Ours names ws zs x
  ours_more vs ws ys zs x a b h = ⊎_elim (λ c. inl (named_more vs ws x a c)) (λ c. inr (b x c)) h

  -- what is said of terms that became variables
  record Termed (r : Named_terms) (m : ℕ) (vs : List ℕ) : Type 0 where
    next : m ≤ r.next
    fresh : (x : ℕ) → In x r.made_variables → (m ≤ x) × (x < r.next)
    stand : (x : ℕ) → In x r.variables → Ours names vs r.made_variables x
    inside : (x : ℕ) → In x (all variables_of r.goals) → Ours names vs r.made_variables x
    free : (x : ℕ) → In x (all free_in r.goals) → Ours names vs r.made_variables x
    scoped : (O : List ℕ) → PartsScoped O (flats r.goals)

  -- one more atom behind the goals of terms, with its own variables
  behind : (V : Flat_goal → List ℕ) (gs : List Flat_goal) (g : Flat_goal) (Q : ℕ → Type 0) → ((x : ℕ) → In x (all V gs) → Q x) → ((x : ℕ) → In x (V g) → Q x) → (x : ℕ) → In x (all V (gs ++ g ∷ [])) → Q x
  behind V gs g Q f h x i = ⊎_elim (λ a. f x a) (λ b. h x (only_one V x g b)) (all_split V x gs (g ∷ []) i)

  with_last : (O : List ℕ) (gs : List Flat_goal) (g : Flat_goal) → ((O : List ℕ) → PartsScoped O (flats gs)) → ((O : List ℕ) → FlatScopes O g) → PartsScoped O (flats (gs ++ g ∷ []))
  with_last O gs g s t = parts_joined O gs (g ∷ []) (s (O ++ variables_of_all (flats (g ∷ [])))) (one_part (O ++ variables_of_all (flats gs)) g (t (O ++ variables_of_all (flats gs))))

  mutual
    termed : (m : ℕ) (t : Expression) → Termed (name_term names m t) m (variables_in t)
    termed m (variable v) =
        record {
          next = omega arith;
          fresh = λ x i. absurd i;
          stand = λ x i. ⊎_elim (λ e. inl (v, inl refl, e)) (λ a. absurd a) i;
          inside = λ x i. absurd i;
          free = λ x i. absurd i;
          scoped = λ O. tt;
        }
    termed m (constant c) =
        record {
          next = omega arith;
          fresh = λ x i. ⊎_elim (λ e. (omega (arith, e), omega (arith, e))) (λ a. absurd a) i;
          stand = λ x i. inr i;
          inside = λ x i. inr i;
          free = λ x i. inr i;
          scoped = λ O. (tt, tt);
        }
    termed m (made f ts) =
        let r = name_terms names m ts in
        let h = all_termed m ts in
        let vs = variables_in_all ts in
        let old : (x : ℕ) → Ours names vs r.made_variables x → Ours names vs (r.made_variables ++ r.next ∷ []) x = λ x a. ours_more vs vs r.made_variables (r.made_variables ++ r.next ∷ []) x (λ y b. b) (λ y b. in_left y r.made_variables (r.next ∷ []) b) a in
        let atom : (x : ℕ) → (x ≡ r.next) ⊎ In x r.variables → Ours names vs (r.made_variables ++ r.next ∷ []) x = λ x i. ⊎_elim (λ e. inr (in_right x r.made_variables (r.next ∷ []) (inl e))) (λ j. old x (h.stand x j)) i in
        record {
          next = omega (arith, h.next);
          fresh = λ x i. ⊎_elim (λ a. let b = h.fresh x a in (b.0, omega (arith, b.1))) (λ a. ⊎_elim (λ e. (omega (arith, e, h.next), omega (arith, e))) (λ b. absurd b) a) (in_either x r.made_variables (r.next ∷ []) i);
          stand = λ x i. inr (in_right x r.made_variables (r.next ∷ []) i);
          inside = behind variables_of r.goals (F.Made r.next f r.variables) (Ours names vs (r.made_variables ++ r.next ∷ [])) (λ x i. old x (h.inside x i)) atom;
          free = behind free_in r.goals (F.Made r.next f r.variables) (Ours names vs (r.made_variables ++ r.next ∷ [])) (λ x i. old x (h.free x i)) atom;
          scoped = λ O. with_last O r.goals (F.Made r.next f r.variables) h.scoped (λ U. tt);
        }
    termed m (applied f ts) =
        let r = name_terms names m ts in
        let h = all_termed m ts in
        let vs = variables_in_all ts in
        let old : (x : ℕ) → Ours names vs r.made_variables x → Ours names vs (r.made_variables ++ r.next ∷ []) x = λ x a. ours_more vs vs r.made_variables (r.made_variables ++ r.next ∷ []) x (λ y b. b) (λ y b. in_left y r.made_variables (r.next ∷ []) b) a in
        let atom : (x : ℕ) → In x (r.variables ++ r.next ∷ []) → Ours names vs (r.made_variables ++ r.next ∷ []) x = λ x i. ⊎_elim (λ j. old x (h.stand x j)) (λ e. inr (in_right x r.made_variables (r.next ∷ []) e)) (in_either x r.variables (r.next ∷ []) i) in
        record {
          next = omega (arith, h.next);
          fresh = λ x i. ⊎_elim (λ a. let b = h.fresh x a in (b.0, omega (arith, b.1))) (λ a. ⊎_elim (λ e. (omega (arith, e, h.next), omega (arith, e))) (λ b. absurd b) a) (in_either x r.made_variables (r.next ∷ []) i);
          stand = λ x i. inr (in_right x r.made_variables (r.next ∷ []) i);
          inside = behind variables_of r.goals (F.Call f (r.variables ++ r.next ∷ [])) (Ours names vs (r.made_variables ++ r.next ∷ [])) (λ x i. old x (h.inside x i)) atom;
          free = behind free_in r.goals (F.Call f (r.variables ++ r.next ∷ [])) (Ours names vs (r.made_variables ++ r.next ∷ [])) (λ x i. old x (h.free x i)) atom;
          scoped = λ O. with_last O r.goals (F.Call f (r.variables ++ r.next ∷ [])) h.scoped (λ U. tt);
        }

    all_termed : (m : ℕ) (ts : Expressions) → Termed (name_terms names m ts) m (variables_in_all ts)
    all_termed m no_expressions =
        record { next = omega arith; fresh = λ x i. absurd i; stand = λ x i. absurd i; inside = λ x i. absurd i; free = λ x i. absurd i; scoped = λ O. tt }
    all_termed m (expression_then t ts) =
        let r = name_term names m t in
        let q = name_terms names r.next ts in
        let h = termed m t in
        let k = all_termed r.next ts in
        let us = variables_in t in
        let vs = variables_in_all ts in
        let first : (x : ℕ) → Ours names us r.made_variables x → Ours names (us ++ vs) (r.made_variables ++ q.made_variables) x = λ x a. ours_more us (us ++ vs) r.made_variables (r.made_variables ++ q.made_variables) x (λ y b. in_left y us vs b) (λ y b. in_left y r.made_variables q.made_variables b) a in
        let second : (x : ℕ) → Ours names vs q.made_variables x → Ours names (us ++ vs) (r.made_variables ++ q.made_variables) x = λ x a. ours_more vs (us ++ vs) q.made_variables (r.made_variables ++ q.made_variables) x (λ y b. in_right y us vs b) (λ y b. in_right y r.made_variables q.made_variables b) a in
        record {
          next = omega (arith, h.next, k.next);
          fresh = λ x i. ⊎_elim (λ a. let b = h.fresh x a in (b.0, omega (arith, b.1, k.next))) (λ a. let b = k.fresh x a in (omega (arith, b.0, h.next), b.1)) (in_either x r.made_variables q.made_variables i);
          stand = λ x i. ⊎_elim (λ a. first x (h.stand x a)) (λ a. second x (k.stand x a)) (in_either x r.variables q.variables i);
          inside = λ x i. ⊎_elim (λ a. first x (h.inside x a)) (λ a. second x (k.inside x a)) (all_split variables_of x r.goals q.goals i);
          free = λ x i. ⊎_elim (λ a. first x (h.free x a)) (λ a. second x (k.free x a)) (all_split free_in x r.goals q.goals i);
          scoped = λ O. parts_joined O r.goals q.goals (h.scoped (O ++ variables_of_all (flats q.goals))) (k.scoped (O ++ variables_of_all (flats r.goals)));
        }

  -- An equation with variable z, which comes from elsewhere.
  record Equated (r : Conjuncts) (m z : ℕ) (vs : List ℕ) : Type 0 where
    next : m ≤ r.next
    fresh : (x : ℕ) → In x r.made_variables → (m ≤ x) × (x < r.next)
    inside : (x : ℕ) → In x (all variables_of r.goals) → Ours names vs r.made_variables x ⊎ (x ≡ z)
    free : (x : ℕ) → In x (all free_in r.goals) → Ours names vs r.made_variables x ⊎ (x ≡ z)
    scoped : (O : List ℕ) → PartsScoped O (flats r.goals)

  equated : (m z : ℕ) (t : Expression) → Equated (equate names m z t) m z (variables_in t)
  equated m z (variable v) =
      let atom : (x : ℕ) → In x (z ∷ names v ∷ []) → Ours names (v ∷ []) [] x ⊎ (x ≡ z) = λ x i. ⊎_elim (λ e. inr e) (λ j. ⊎_elim (λ e. inl (inl (v, inl refl, e))) (λ k. absurd k) j) i in
      record { next = omega arith; fresh = λ x i. absurd i; inside = atom; free = atom; scoped = λ O. (tt, tt) }
  equated m z (constant c) =
      let atom : (x : ℕ) → In x (z ∷ []) → Ours names [] [] x ⊎ (x ≡ z) = λ x i. ⊎_elim (λ e. inr e) (λ j. absurd j) i in
      record { next = omega arith; fresh = λ x i. absurd i; inside = atom; free = atom; scoped = λ O. (tt, tt) }
  equated m z (made f ts) =
      let r = name_terms names m ts in
      let h = all_termed m ts in
      let Q : ℕ → Type 0 = λ x. Ours names (variables_in_all ts) r.made_variables x ⊎ (x ≡ z) in
      let atom : (x : ℕ) → (x ≡ z) ⊎ In x r.variables → Q x = λ x i. ⊎_elim (λ e. inr e) (λ j. inl (h.stand x j)) i in
      record {
        next = h.next;
        fresh = h.fresh;
        inside = behind variables_of r.goals (F.Made z f r.variables) Q (λ x i. inl (h.inside x i)) atom;
        free = behind free_in r.goals (F.Made z f r.variables) Q (λ x i. inl (h.free x i)) atom;
        scoped = λ O. with_last O r.goals (F.Made z f r.variables) h.scoped (λ U. tt);
      }
  equated m z (applied f ts) =
      let r = name_terms names m ts in
      let h = all_termed m ts in
      let Q : ℕ → Type 0 = λ x. Ours names (variables_in_all ts) r.made_variables x ⊎ (x ≡ z) in
      let atom : (x : ℕ) → In x (r.variables ++ z ∷ []) → Q x = λ x i. ⊎_elim (λ j. inl (h.stand x j)) (λ e. inr (⊎_elim (λ q. q) (λ k. absurd k) e)) (in_either x r.variables (z ∷ []) i) in
      record {
        next = h.next;
        fresh = h.fresh;
        inside = behind variables_of r.goals (F.Call f (r.variables ++ z ∷ [])) Q (λ x i. inl (h.inside x i)) atom;
        free = behind free_in r.goals (F.Call f (r.variables ++ z ∷ [])) Q (λ x i. inl (h.free x i)) atom;
        scoped = λ O. with_last O r.goals (F.Call f (r.variables ++ z ∷ [])) h.scoped (λ U. tt);
      }

  -- what is said of a goal's conjuncts: vs are the variables that it mentions, fs those that are free in it
  record Flattened (r : Conjuncts) (m : ℕ) (vs fs : List ℕ) : Type 0 where
    next : m ≤ r.next
    fresh : (x : ℕ) → In x r.made_variables → (m ≤ x) × (x < r.next)
    inside : (x : ℕ) → In x (all variables_of r.goals) → From names vs m r.next x
    free : (x : ℕ) → In x (all free_in r.goals) → Ours names fs r.made_variables x

  -- an equation's conjuncts have no quantifiers
  record Plain (r : Conjuncts) (m : ℕ) (vs : List ℕ) : Type 0 where
    flat : Flattened r m vs vs
    scoped : (O : List ℕ) → PartsScoped O (flats r.goals)

  ours_from : (vs ys : List ℕ) (m k x : ℕ) → ((y : ℕ) → In y ys → (m ≤ y) × (y < k)) → Ours names vs ys x → From names vs m k x
  ours_from vs ys m k x f h = ⊎_elim (λ a. inl a) (λ b. inr (f x b)) h

  -- an equation of a variable of the clause, or of one that was made for the left side
  left_equation : (m v : ℕ) (t : Expression) (vs : List ℕ) → In v vs → Among (variables_in t) vs → Plain (equate names m (names v) t) m vs
  left_equation m v t vs i a =
      let r = equate names m (names v) t in
      let h = equated m (names v) t in
      let ours : (x : ℕ) → Ours names (variables_in t) r.made_variables x ⊎ (x ≡ names v) → Ours names vs r.made_variables x =
      λ x b. ⊎_elim (λ c. ours_more (variables_in t) vs r.made_variables r.made_variables x a (λ y d. d) c) (λ e. inl (v, i, e)) b in
      record {
        flat =
            record {
              next = h.next;
              fresh = h.fresh;
              inside = λ x b. ours_from vs r.made_variables m r.next x h.fresh (ours x (h.inside x b));
              free = λ x b. ours x (h.free x b);
            };
        scoped = h.scoped;
      }

  two_sides : (m : ℕ) (a b : Expression) → In (the_variable (name_term names m a)) (name_term names m a).variables →
      Plain (let r = name_term names m a in before r.goals r.made_variables (equate names r.next (the_variable r) b)) m (variables_in a ++ variables_in b)
  two_sides m a b i =
      let r = name_term names m a in
      let z = the_variable r in
      let q = equate names r.next z b in
      let h = termed m a in
      let k = equated r.next z b in
      let us = variables_in a in
      let vs = variables_in b in
      let ys = r.made_variables ++ q.made_variables in
      let first : (x : ℕ) → Ours names us r.made_variables x → Ours names (us ++ vs) ys x = λ x c. ours_more us (us ++ vs) r.made_variables ys x (λ y d. in_left y us vs d) (λ y d. in_left y r.made_variables q.made_variables d) c in
      let second : (x : ℕ) → Ours names vs q.made_variables x ⊎ (x ≡ z) → Ours names (us ++ vs) ys x =
      λ x c. ⊎_elim (λ d. ours_more vs (us ++ vs) q.made_variables ys x (λ y d. in_right y us vs d) (λ y d. in_right y r.made_variables q.made_variables d) d) (λ e. first x (subst (λ y. Ours names us r.made_variables y) (sym e) (h.stand z i))) c in
      let fresh : (x : ℕ) → In x ys → (m ≤ x) × (x < q.next) = λ x c. ⊎_elim (λ d. let e = h.fresh x d in (e.0, omega (arith, e.1, k.next))) (λ d. let e = k.fresh x d in (omega (arith, e.0, h.next), e.1)) (in_either x r.made_variables q.made_variables c) in
      record {
        flat =
            record {
              next = omega (arith, h.next, k.next);
              fresh = fresh;
              inside = λ x c. ours_from (us ++ vs) ys m q.next x fresh (⊎_elim (λ d. first x (h.inside x d)) (λ d. second x (k.inside x d)) (all_split variables_of x r.goals q.goals c));
              free = λ x c. ⊎_elim (λ d. first x (h.free x d)) (λ d. second x (k.free x d)) (all_split free_in x r.goals q.goals c);
            };
        scoped = λ O. parts_joined O r.goals q.goals (h.scoped (O ++ variables_of_all (flats q.goals))) (k.scoped (O ++ variables_of_all (flats r.goals)));
      }

  left_of : (a b : Expression) → Among (variables_in a) (variables_in a ++ variables_in b)
  left_of a b x i = in_left x (variables_in a) (variables_in b) i

  right_of : (a b : Expression) → Among (variables_in b) (variables_in a ++ variables_in b)
  right_of a b x i = in_right x (variables_in a) (variables_in b) i

  turned : (m y : ℕ) (a : Expression) → Plain (equate names m (names y) a) m (variables_in a ++ variables_in (variable y))
  turned m y a = left_equation m y a (variables_in a ++ y ∷ []) (in_right y (variables_in a) (y ∷ []) (inl refl)) (left_of a (variable y))

  equation_plain : (m : ℕ) (a b : Expression) → Plain (equation names m a b) m (variables_in a ++ variables_in b)
  equation_plain m (variable v) b = left_equation m v b (v ∷ variables_in b) (inl refl) (right_of (variable v) b)
  equation_plain m (constant c) (variable y) = turned m y (constant c)
  equation_plain m (constant c) (constant d) = two_sides m (constant c) (constant d) (inl refl)
  equation_plain m (constant c) (made g us) = two_sides m (constant c) (made g us) (inl refl)
  equation_plain m (constant c) (applied g us) = two_sides m (constant c) (applied g us) (inl refl)
  equation_plain m (made f ts) (variable y) = turned m y (made f ts)
  equation_plain m (made f ts) (constant d) = two_sides m (made f ts) (constant d) (inl refl)
  equation_plain m (made f ts) (made g us) = two_sides m (made f ts) (made g us) (inl refl)
  equation_plain m (made f ts) (applied g us) = two_sides m (made f ts) (applied g us) (inl refl)
  equation_plain m (applied f ts) (variable y) = turned m y (applied f ts)
  equation_plain m (applied f ts) (constant d) = two_sides m (applied f ts) (constant d) (inl refl)
  equation_plain m (applied f ts) (made g us) = two_sides m (applied f ts) (made g us) (inl refl)
  equation_plain m (applied f ts) (applied g us) = two_sides m (applied f ts) (applied g us) (inl refl)

  call_plain : (m p : ℕ) (ts : Expressions) → Plain (conjuncts_of names m (Call p ts)) m (variables_in_all ts)
  call_plain m p ts =
      let r = name_terms names m ts in
      let h = all_termed m ts in
      let vs = variables_in_all ts in
      record {
        flat =
            record {
              next = h.next;
              fresh = h.fresh;
              inside = behind variables_of r.goals (F.Call p r.variables) (From names vs m r.next) (λ x i. ours_from vs r.made_variables m r.next x h.fresh (h.inside x i)) (λ x i. ours_from vs r.made_variables m r.next x h.fresh (h.stand x i));
              free = behind free_in r.goals (F.Call p r.variables) (Ours names vs r.made_variables) h.free h.stand;
            };
        scoped = λ O. with_last O r.goals (F.Call p r.variables) h.scoped (λ U. tt);
      }

  -- the goal of conjuncts, with their made variables around it
  abbrev whole : Conjuncts → Flat_goal
  whole r = around r.made_variables (conjunction r.goals)

  whole_inside : (r : Conjuncts) (m : ℕ) (vs fs : List ℕ) → Flattened r m vs fs → (x : ℕ) → In x (variables_of (whole r)) → From names vs m r.next x
  whole_inside r m vs fs h x i = ⊎_elim (λ a. inr (h.fresh x a)) (λ a. h.inside x (conjunction_in variables_of variables_are x r.goals a)) (around_in x r.made_variables (conjunction r.goals) i)

  whole_free : (r : Conjuncts) (m : ℕ) (vs fs : List ℕ) → Flattened r m vs fs → (x : ℕ) → In x (free_in (whole r)) → Names names fs x
  whole_free r m vs fs h x i =
      let a = around_free x r.made_variables (conjunction r.goals) i in
      ⊎_elim (λ b. b) (λ b. absurd (a.1 b)) (h.free x (conjunction_in free_in free_are x r.goals a.0))

  -- the same of a goal that stands alone, which has no made variables outside
  alone_flat : (g : Flat_goal) (m k : ℕ) (vs fs : List ℕ) → m ≤ k → ((x : ℕ) → In x (variables_of g) → From names vs m k x) → ((x : ℕ) → In x (free_in g) → Names names fs x) → Flattened (record { goals = g ∷ []; made_variables = []; next = k }) m vs fs
  alone_flat g m k vs fs l f h =
      record {
        next = l;
        fresh = λ x i. absurd i;
        inside = λ x i. f x (only_one variables_of x g i);
        free = λ x i. inl (h x (only_one free_in x g i));
      }

  -- goals before others
  before_flat : (r q : Conjuncts) (m : ℕ) (us es vs fs ws hs : List ℕ) → Flattened r m us es → Flattened q r.next vs fs → Among us ws → Among vs ws → Among es hs → Among fs hs → Flattened (before r.goals r.made_variables q) m ws hs
  before_flat r q m us es vs fs ws hs h k a b c d =
      record {
        next = omega (arith, h.next, k.next);
        fresh = λ x i. ⊎_elim (λ j. let e = h.fresh x j in (e.0, omega (arith, e.1, k.next))) (λ j. let e = k.fresh x j in (omega (arith, e.0, h.next), e.1)) (in_either x r.made_variables q.made_variables i);
        inside = λ x i. ⊎_elim (λ j. from_more us ws m r.next m q.next x a (omega arith) k.next (h.inside x j)) (λ j. from_more vs ws r.next q.next m q.next x b h.next (omega arith) (k.inside x j)) (all_split variables_of x r.goals q.goals i);
        free =
            λ x i.
            ⊎_elim (λ j. ours_more es hs r.made_variables (r.made_variables ++ q.made_variables) x c (λ y l. in_left y r.made_variables q.made_variables l) (h.free x j))
            (λ j. ours_more fs hs q.made_variables (r.made_variables ++ q.made_variables) x d (λ y l. in_right y r.made_variables q.made_variables l) (k.free x j)) (all_split free_in x r.goals q.goals i);
      }

  -- variables that are mentioned in parts
  in_named : (vs : List ℕ) (x : ℕ) → In x (map names vs) → Names names vs x
  in_named vs x i = let r = in_map names x vs i in (r.0, r.1, r.2)

  named_in : (vs : List ℕ) (v : ℕ) → In v vs → In (names v) (map names vs)
  named_in [] v i = i
  named_in (w ∷ vs) v i = ⊎_elim (λ e. inl (ap names e)) (λ j. inr (named_in vs v j)) i

  -- those of a list of numbers that are left out
  unnamed : (fs vs : List ℕ) (x : ℕ) → Names names fs x → (In x (map names vs) → ⊥) → Names names (without fs vs) x
  unnamed fs vs x h out = (h.0, in_without h.0 fs vs h.1 (λ i. out (subst (λ y. In y (map names vs)) (sym h.2) (named_in vs h.0 i))), h.2)

pub first_mentioned : (g : Formula) (gs : Formulas) → Among (mentioned g) (all_mentioned (formula_then g gs))
first_mentioned g gs =
    both (occurring g) (named_by_quantifiers g) (all_mentioned (formula_then g gs)) (λ x i. in_left x (occurring g ++ occurring_all gs) (named_by_quantifiers g ++ named_by_quantifiers_of_all gs) (in_left x (occurring g) (occurring_all gs) i))
    (λ x i. in_right x (occurring g ++ occurring_all gs) (named_by_quantifiers g ++ named_by_quantifiers_of_all gs) (in_left x (named_by_quantifiers g) (named_by_quantifiers_of_all gs) i))

pub rest_mentioned : (g : Formula) (gs : Formulas) → Among (all_mentioned gs) (all_mentioned (formula_then g gs))
rest_mentioned g gs =
    both (occurring_all gs) (named_by_quantifiers_of_all gs) (all_mentioned (formula_then g gs)) (λ x i. in_left x (occurring g ++ occurring_all gs) (named_by_quantifiers g ++ named_by_quantifiers_of_all gs) (in_right x (occurring g) (occurring_all gs) i))
    (λ x i. in_right x (occurring g ++ occurring_all gs) (named_by_quantifiers g ++ named_by_quantifiers_of_all gs) (in_right x (named_by_quantifiers g) (named_by_quantifiers_of_all gs) i))

module _ (vs : List ℕ) (c t e : Formula) where
  abbrev occurs : List ℕ
  occurs = occurring c ++ (occurring t ++ occurring e)

  abbrev named : List ℕ
  named = vs ++ (named_by_quantifiers c ++ (named_by_quantifiers t ++ named_by_quantifiers e))

  pub own_mentioned : Among vs (mentioned (If vs c t e))
  own_mentioned x i = in_right x occurs named (in_left x vs (named_by_quantifiers c ++ (named_by_quantifiers t ++ named_by_quantifiers e)) i)

  pub condition_mentioned : Among (mentioned c) (mentioned (If vs c t e))
  condition_mentioned =
      both (occurring c) (named_by_quantifiers c) (mentioned (If vs c t e)) (λ x i. in_left x occurs named (in_left x (occurring c) (occurring t ++ occurring e) i))
      (λ x i. in_right x occurs named (in_right x vs (named_by_quantifiers c ++ (named_by_quantifiers t ++ named_by_quantifiers e)) (in_left x (named_by_quantifiers c) (named_by_quantifiers t ++ named_by_quantifiers e) i)))

  pub then_mentioned : Among (mentioned t) (mentioned (If vs c t e))
  then_mentioned =
      both (occurring t) (named_by_quantifiers t) (mentioned (If vs c t e)) (λ x i. in_left x occurs named (in_right x (occurring c) (occurring t ++ occurring e) (in_left x (occurring t) (occurring e) i)))
      (λ x i. in_right x occurs named (in_right x vs (named_by_quantifiers c ++ (named_by_quantifiers t ++ named_by_quantifiers e)) (in_right x (named_by_quantifiers c) (named_by_quantifiers t ++ named_by_quantifiers e) (in_left x (named_by_quantifiers t) (named_by_quantifiers e) i))))

  pub else_mentioned : Among (mentioned e) (mentioned (If vs c t e))
  else_mentioned =
      both (occurring e) (named_by_quantifiers e) (mentioned (If vs c t e)) (λ x i. in_left x occurs named (in_right x (occurring c) (occurring t ++ occurring e) (in_right x (occurring t) (occurring e) i)))
      (λ x i. in_right x occurs named (in_right x vs (named_by_quantifiers c ++ (named_by_quantifiers t ++ named_by_quantifiers e)) (in_right x (named_by_quantifiers c) (named_by_quantifiers t ++ named_by_quantifiers e) (in_right x (named_by_quantifiers t) (named_by_quantifiers e) i))))

pub scope_mentioned : (vs : List ℕ) (g : Formula) → Among vs (mentioned (Exists vs g))
scope_mentioned vs g x i = in_right x (occurring g) (vs ++ named_by_quantifiers g) (in_left x vs (named_by_quantifiers g) i)

pub under_mentioned : (vs : List ℕ) (g : Formula) → Among (mentioned g) (mentioned (Exists vs g))
under_mentioned vs g =
    both (occurring g) (named_by_quantifiers g) (mentioned (Exists vs g)) (λ x i. in_left x (occurring g) (vs ++ named_by_quantifiers g) i)
    (λ x i. in_right x (occurring g) (vs ++ named_by_quantifiers g) (in_right x vs (named_by_quantifiers g) i))

atom_mentioned : (xs : List ℕ) → Among xs (xs ++ [])
atom_mentioned xs x i = in_left x xs [] i

-- free variables occur
mutual
  pub free_occurs : (g : Formula) → Among (free_of g) (occurring g)
  free_occurs (Equal a b) x i = i
  free_occurs (Call p ts) x i = i
  free_occurs (And gs) x i = all_free_occurs gs x i
  free_occurs (Or gs) x i = all_free_occurs gs x i
  free_occurs (If vs c t e) x i =
      ⊎_elim
      (λ a.
      ⊎_elim (λ b. in_left x (occurring c) (occurring t ++ occurring e) (free_occurs c x b)) (λ b. in_right x (occurring c) (occurring t ++ occurring e) (in_left x (occurring t) (occurring e) (free_occurs t x b)))
      (in_either x (free_of c) (free_of t) (from_without x (free_of c ++ free_of t) vs a)))
      (λ a. in_right x (occurring c) (occurring t ++ occurring e) (in_right x (occurring t) (occurring e) (free_occurs e x a))) (in_either x (without (free_of c ++ free_of t) vs) (free_of e) i)
  free_occurs (Not g) x i = free_occurs g x i
  free_occurs (Exists vs g) x i = free_occurs g x (from_without x (free_of g) vs i)

  pub all_free_occurs : (gs : Formulas) → Among (free_of_all gs) (occurring_all gs)
  all_free_occurs no_formulas x i = i
  all_free_occurs (formula_then g gs) x i =
      ⊎_elim (λ a. in_left x (occurring g) (occurring_all gs) (free_occurs g x a)) (λ a. in_right x (occurring g) (occurring_all gs) (all_free_occurs gs x a)) (in_either x (free_of g) (free_of_all gs) i)

module _ (names : ℕ → ℕ) where
  abbrev Flat : Conjuncts → (m : ℕ) → (vs fs : List ℕ) → Type 0
  Flat r m vs fs = Flattened names r m vs fs

  -- disjuncts have no made variables outside
  record EachFlat (r : Conjuncts) (m : ℕ) (vs fs : List ℕ) : Type 0 where
    next : m ≤ r.next
    inside : (x : ℕ) → In x (all variables_of r.goals) → From names vs m r.next x
    free : (x : ℕ) → In x (all free_in r.goals) → Names names fs x

  widened : (r : Conjuncts) (m : ℕ) (us vs fs : List ℕ) → Among us vs → Flat r m us fs → Flat r m vs fs
  widened r m us vs fs a h = record { next = h.next; fresh = h.fresh; inside = λ x i. from_more names us vs m r.next m r.next x a (omega arith) (omega arith) (h.inside x i); free = h.free }

  -- a conditional goal, by its parts
  conditional_flat : (m : ℕ) (vs : List ℕ) (c t e : Formula) → (let rc = conjuncts_of names m c in
      let rt = conjuncts_of names rc.next t in
      let re = conjuncts_of names rt.next e in
      Flat rc m (mentioned c) (free_of c) → Flat rt rc.next (mentioned t) (free_of t) → Flat re rt.next (mentioned e) (free_of e) → Flat (conjuncts_of names m (If vs c t e)) m (mentioned (If vs c t e)) (free_of (If vs c t e)))
  conditional_flat m vs c t e hc ht he =
      let rc = conjuncts_of names m c in
      let rt = conjuncts_of names rc.next t in
      let re = conjuncts_of names rt.next e in
      let gc = whole names rc in
      let gt = whole names rt in
      let ge = whole names re in
      let ws = mentioned (If vs c t e) in
      let ns = map names vs in
      alone_flat names (F.If ns gc gt ge) m re.next ws (free_of (If vs c t e)) (omega (arith, hc.next, ht.next, he.next))
      (λ x i.
      ⊎_elim (λ a. inl (named_more names vs ws x (own_mentioned vs c t e) (in_named names vs x a)))
      (λ a.
      ⊎_elim (λ b. from_more names (mentioned c) ws m rc.next m re.next x (condition_mentioned vs c t e) (omega arith) (omega (arith, ht.next, he.next)) (whole_inside names rc m (mentioned c) (free_of c) hc x b))
      (λ b.
      ⊎_elim (λ d. from_more names (mentioned t) ws rc.next rt.next m re.next x (then_mentioned vs c t e) hc.next he.next (whole_inside names rt rc.next (mentioned t) (free_of t) ht x d))
      (λ d. from_more names (mentioned e) ws rt.next re.next m re.next x (else_mentioned vs c t e) (omega (arith, hc.next, ht.next)) (omega arith) (whole_inside names re rt.next (mentioned e) (free_of e) he x d))
      (in_either x (variables_of gt) (variables_of ge) b))
      (in_either x (variables_of gc) (variables_of gt ++ variables_of ge) a))
      (in_either x ns (variables_of gc ++ (variables_of gt ++ variables_of ge)) i))
      (λ x i.
      let fs = without (free_of c ++ free_of t) vs in
      ⊎_elim
      (λ a.
      named_more names fs (fs ++ free_of e) x (λ y b. in_left y fs (free_of e) b)
      (unnamed names (free_of c ++ free_of t) vs x
      (⊎_elim (λ b. named_more names (free_of c) (free_of c ++ free_of t) x (λ y d. in_left y (free_of c) (free_of t) d) (whole_free names rc m (mentioned c) (free_of c) hc x b))
      (λ b. named_more names (free_of t) (free_of c ++ free_of t) x (λ y d. in_right y (free_of c) (free_of t) d) (whole_free names rt rc.next (mentioned t) (free_of t) ht x b))
      (in_either x (free_in gc) (free_in gt) (from_without x (free_in gc ++ free_in gt) ns a)))
      (out_of_without x (free_in gc ++ free_in gt) ns a)))
      (λ a. named_more names (free_of e) (fs ++ free_of e) x (λ y b. in_right y fs (free_of e) b) (whole_free names re rt.next (mentioned e) (free_of e) he x a))
      (in_either x (without (free_in gc ++ free_in gt) ns) (free_in ge) i))

  mutual
    flattened : (m : ℕ) (g : Formula) → Flat (conjuncts_of names m g) m (mentioned g) (free_of g)
    flattened m (Equal a b) = widened (equation names m a b) m (variables_in a ++ variables_in b) ((variables_in a ++ variables_in b) ++ []) (variables_in a ++ variables_in b) (atom_mentioned (variables_in a ++ variables_in b)) (equation_plain names m a b).flat
    flattened m (Call p ts) = widened (conjuncts_of names m (Call p ts)) m (variables_in_all ts) (variables_in_all ts ++ []) (variables_in_all ts) (atom_mentioned (variables_in_all ts)) (call_plain names m p ts).flat
    flattened m (And gs) = all_flattened m gs
    flattened m (Or gs) =
        let r = disjuncts_of names m gs in
        let h = each_flattened m gs in
        alone_flat names (disjunction r.goals) m r.next (all_mentioned gs) (free_of_all gs) h.next (λ x i. h.inside x (disjunction_in variables_of variables_are x r.goals i)) (λ x i. h.free x (disjunction_in free_in free_are x r.goals i))
    flattened m (If vs c t e) =
        let rc = conjuncts_of names m c in
        let rt = conjuncts_of names rc.next t in
        conditional_flat m vs c t e (flattened m c) (flattened rc.next t) (flattened rt.next e)
    flattened m (Not g) =
        let r = conjuncts_of names m g in
        let h = flattened m g in
        alone_flat names (F.Not (whole names r)) m r.next (mentioned g) (free_of g) h.next (whole_inside names r m (mentioned g) (free_of g) h) (whole_free names r m (mentioned g) (free_of g) h)
    flattened m (Exists vs g) =
        let r = conjuncts_of names m g in
        let h = flattened m g in
        let ws = mentioned (Exists vs g) in
        let ns = map names vs in
        alone_flat names (F.Exists (ns ++ r.made_variables) (conjunction r.goals)) m r.next ws (without (free_of g) vs) h.next
        (λ x i.
        ⊎_elim (λ a. ⊎_elim (λ b. inl (named_more names vs ws x (scope_mentioned vs g) (in_named names vs x b))) (λ b. inr (h.fresh x b)) (in_either x ns r.made_variables a))
        (λ a. from_more names (mentioned g) ws m r.next m r.next x (under_mentioned vs g) (omega arith) (omega arith) (h.inside x (conjunction_in variables_of variables_are x r.goals a)))
        (in_either x (ns ++ r.made_variables) (variables_of (conjunction r.goals)) i))
        (λ x i.
        let out = out_of_without x (free_in (conjunction r.goals)) (ns ++ r.made_variables) i in
        ⊎_elim (λ a. unnamed names (free_of g) vs x a (λ b. out (in_left x ns r.made_variables b))) (λ a. absurd (out (in_right x ns r.made_variables a)))
        (h.free x (conjunction_in free_in free_are x r.goals (from_without x (free_in (conjunction r.goals)) (ns ++ r.made_variables) i))))

    all_flattened : (m : ℕ) (gs : Formulas) → Flat (conjuncts_of_all names m gs) m (all_mentioned gs) (free_of_all gs)
    all_flattened m no_formulas = record { next = omega arith; fresh = λ x i. absurd i; inside = λ x i. absurd i; free = λ x i. absurd i }
    all_flattened m (formula_then g gs) =
        let r = conjuncts_of names m g in
        before_flat names r (conjuncts_of_all names r.next gs) m (mentioned g) (free_of g) (all_mentioned gs) (free_of_all gs) (all_mentioned (formula_then g gs)) (free_of g ++ free_of_all gs) (flattened m g) (all_flattened r.next gs) (first_mentioned g gs) (rest_mentioned g gs)
        (λ x i. in_left x (free_of g) (free_of_all gs) i) (λ x i. in_right x (free_of g) (free_of_all gs) i)

    each_flattened : (m : ℕ) (gs : Formulas) → EachFlat (disjuncts_of names m gs) m (all_mentioned gs) (free_of_all gs)
    each_flattened m no_formulas = record { next = omega arith; inside = λ x i. absurd i; free = λ x i. absurd i }
    each_flattened m (formula_then g gs) =
        let r = conjuncts_of names m g in
        let q = disjuncts_of names r.next gs in
        let h = flattened m g in
        let k = each_flattened r.next gs in
        let ws = all_mentioned (formula_then g gs) in
        record {
          next = omega (arith, h.next, k.next);
          inside =
              λ x i.
              ⊎_elim (λ a. from_more names (mentioned g) ws m r.next m q.next x (first_mentioned g gs) (omega arith) k.next (whole_inside names r m (mentioned g) (free_of g) h x a))
              (λ a. from_more names (all_mentioned gs) ws r.next q.next m q.next x (rest_mentioned g gs) h.next (omega arith) (k.inside x a)) (in_either x (variables_of (whole names r)) (all variables_of q.goals) i);
          free =
              λ x i.
              ⊎_elim (λ a. named_more names (free_of g) (free_of g ++ free_of_all gs) x (λ y b. in_left y (free_of g) (free_of_all gs) b) (whole_free names r m (mentioned g) (free_of g) h x a))
              (λ a. named_more names (free_of_all gs) (free_of g ++ free_of_all gs) x (λ y b. in_right y (free_of g) (free_of_all gs) b) (k.free x a)) (in_either x (free_in (whole names r)) (all free_in q.goals) i);
        }

-- what is outside a flat goal: the numbers of the clause's variables that are outside the goal, and numbers that are none
-- of the goal's made variables
abbrev Outside : (ℕ → ℕ) → (xs vs : List ℕ) → (m k : ℕ) → List ℕ → Type 0
Outside names xs vs m k O = (x : ℕ) → In x O → ((v : ℕ) → In v xs → x ≡ names v → In v vs) × ((x < m) ⊎ (k ≤ x))

module _ (names : ℕ → ℕ) (xs : List ℕ) (n : ℕ) (numbers : Numbers names xs n) where
  closer : (vs : List ℕ) (m k i j : ℕ) (O : List ℕ) → m ≤ i → j ≤ k → Outside names xs vs m k O → Outside names xs vs i j O
  closer vs m k i j O l r out x h = let a = out x h in (a.0, ⊎_elim (λ b. inl (omega (arith, b, l))) (λ b. inr (omega (arith, b, r))) a.1)

  -- numbers of the clause's variables, and numbers that were made elsewhere
  abbrev Elsewhere : List ℕ → (m k : ℕ) → ℕ → Type 0
  Elsewhere us m k x = Names names us x ⊎ ((n ≤ x) × ((x < m) ⊎ (k ≤ x)))

  more_outside : (vs us : List ℕ) (m k : ℕ) (O L : List ℕ) → n ≤ m → Among us xs → Outside names xs vs m k O → ((x : ℕ) → In x L → Elsewhere us m k x) → Outside names xs (vs ++ us) m k (O ++ L)
  more_outside vs us m k O L l among out other x i =
      ⊎_elim (λ a. let b = out x a in ((λ v j e. in_left v vs us (b.0 v j e)), b.1))
      (λ a.
      ⊎_elim
      (λ b. ((λ v j e. in_right v vs us (subst (λ y. In y us) (numbers.apart b.0 v (among b.0 b.1) j (sym b.2 ∙ e)) b.1)), inl (omega (arith, l, b.2, numbers.below b.0 (among b.0 b.1)))))
      (λ b. ((λ v j e. absurd (omega (arith, b.0, e, numbers.below v j))), b.1)) (other x a)) (in_either x O L i)

  -- a goal whose made variables are quantified around it
  whole_scoped : (m : ℕ) (g : Formula) (vs O : List ℕ) → Outside names xs vs m (conjuncts_of names m g).next O → PartsScoped O (flats (conjuncts_of names m g).goals) → FlatScopes O (whole names (conjuncts_of names m g))
  whole_scoped m g vs O out s =
      let r = conjuncts_of names m g in
      around_scoped O r.made_variables (conjunction r.goals)
      (λ x i j. let a = (flattened names m g).fresh x i in ⊎_elim (λ b. omega (arith, b, a.0)) (λ b. omega (arith, b, a.1)) (out x j).1) (conjunction_scoped O r.goals s)

  quantified_apart : (vs us O : List ℕ) (m k : ℕ) → Among us xs → Apart us vs → Outside names xs vs m k O → Apart (map names us) O
  quantified_apart vs us O m k among apart out x i j = let a = in_named names us x i in apart a.0 a.1 ((out x j).0 a.0 (among a.0 a.1) a.2)

  elsewhere_below : (us : List ℕ) (m k i j x : ℕ) → n ≤ i → j ≤ m → From names us i j x → Elsewhere us m k x
  elsewhere_below us m k i j x l r h = ⊎_elim (λ a. inl a) (λ a. inr (omega (arith, l, a.0), inl (omega (arith, a.1, r)))) h

  elsewhere_above : (us : List ℕ) (m k i j x : ℕ) → n ≤ i → k ≤ i → From names us i j x → Elsewhere us m k x
  elsewhere_above us m k i j x l r h = ⊎_elim (λ a. inl a) (λ a. inr (omega (arith, l, a.0), inr (omega (arith, a.0, r)))) h

  abbrev Known : Formula → Type 0
  Known g = (m : ℕ) (vs O : List ℕ) → n ≤ m → Among (mentioned g) xs → NamedApart vs g → Outside names xs vs m (conjuncts_of names m g).next O → PartsScoped O (flats (conjuncts_of names m g).goals)

  mutual
    parts_of : (g : Formula) → Known g
    parts_of (Equal a b) m vs O l among apart out = (equation_plain names m a b).scoped O
    parts_of (Call p ts) m vs O l among apart out = (call_plain names m p ts).scoped O
    parts_of (And gs) m vs O l among apart out = all_parts_of gs m vs O l among apart out
    parts_of (Or gs) m vs O l among apart out = one_part O (disjunction (disjuncts_of names m gs).goals) (disjunction_scoped O (disjuncts_of names m gs).goals (disjuncts_of_all gs m vs O l among apart out))
    parts_of (If ws c t e) m vs O l among apart out =
        let rc = conjuncts_of names m c in
        let rt = conjuncts_of names rc.next t in
        let re = conjuncts_of names rt.next e in
        let hc = flattened names m c in
        let ht = flattened names rc.next t in
        let he = flattened names rt.next e in
        let among_c : Among (mentioned c) xs = λ x i. among x (condition_mentioned ws c t e x i) in
        let among_t : Among (mentioned t) xs = λ x i. among x (then_mentioned ws c t e x i) in
        let among_e : Among (mentioned e) xs = λ x i. among x (else_mentioned ws c t e x i) in
        let among_ws : Among ws xs = λ x i. among x (own_mentioned ws c t e x i) in
        let ns = map names ws in
        let us = without (free_of c) ws in
        let beside = without (free_in (whole names rc)) ns ++ variables_of (whole names rt) in
        let out_c : Outside names xs (vs ++ (us ++ mentioned t)) m rc.next (O ++ beside) =
        more_outside vs (us ++ mentioned t) m rc.next O beside l (both us (mentioned t) xs (λ x i. among_c x (in_left x (occurring c) (named_by_quantifiers c) (free_occurs c x (from_without x (free_of c) ws i)))) among_t)
        (closer vs m re.next m rc.next O (omega arith) (omega (arith, ht.next, he.next)) out)
        (λ x i.
        ⊎_elim
        (λ a.
        inl (named_more names us (us ++ mentioned t) x (λ y b. in_left y us (mentioned t) b)
        (unnamed names (free_of c) ws x (whole_free names rc m (mentioned c) (free_of c) hc x (from_without x (free_in (whole names rc)) ns a)) (out_of_without x (free_in (whole names rc)) ns a))))
        (λ a.
        elsewhere_above (us ++ mentioned t) m rc.next rc.next rt.next x (omega (arith, l, hc.next)) (omega arith)
        (from_more names (mentioned t) (us ++ mentioned t) rc.next rt.next rc.next rt.next x (λ y b. in_right y us (mentioned t) b) (omega arith) (omega arith) (whole_inside names rt rc.next (mentioned t) (free_of t) ht x a)))
        (in_either x (without (free_in (whole names rc)) ns) (variables_of (whole names rt)) i)) in
        let out_t : Outside names xs (vs ++ mentioned c) rc.next rt.next (O ++ variables_of (whole names rc)) =
        more_outside vs (mentioned c) rc.next rt.next O (variables_of (whole names rc)) (omega (arith, l, hc.next)) among_c (closer vs m re.next rc.next rt.next O hc.next he.next out)
        (λ x i. elsewhere_below (mentioned c) rc.next rt.next m rc.next x l (omega arith) (whole_inside names rc m (mentioned c) (free_of c) hc x i)) in
        let out_e : Outside names xs vs rt.next re.next O = closer vs m re.next rt.next re.next O (omega (arith, hc.next, ht.next)) (omega arith) out in
        one_part O (F.If ns (whole names rc) (whole names rt) (whole names re)) (
          quantified_apart vs ws O m re.next among_ws apart.0 out,
          whole_scoped m c (vs ++ (us ++ mentioned t)) (O ++ beside) out_c (parts_of c m (vs ++ (us ++ mentioned t)) (O ++ beside) l among_c apart.1 out_c),
          whole_scoped rc.next t (vs ++ mentioned c) (O ++ variables_of (whole names rc)) out_t (parts_of t rc.next (vs ++ mentioned c) (O ++ variables_of (whole names rc)) (omega (arith, l, hc.next)) among_t apart.2 out_t),
          whole_scoped rt.next e vs O out_e (parts_of e rt.next vs O (omega (arith, l, hc.next, ht.next)) among_e apart.3 out_e),
        )
    parts_of (Not g) m vs O l among apart out =
        let r = conjuncts_of names m g in
        let h = flattened names m g in
        let out_g : Outside names xs (vs ++ free_of g) m r.next (O ++ free_in (whole names r)) =
        more_outside vs (free_of g) m r.next O (free_in (whole names r)) l (λ x i. among x (in_left x (occurring g) (named_by_quantifiers g) (free_occurs g x i))) out (λ x i. inl (whole_free names r m (mentioned g) (free_of g) h x i)) in
        one_part O (F.Not (whole names r)) (whole_scoped m g (vs ++ free_of g) (O ++ free_in (whole names r)) out_g (parts_of g m (vs ++ free_of g) (O ++ free_in (whole names r)) l among apart out_g))
    parts_of (Exists ws g) m vs O l among apart out =
        let r = conjuncts_of names m g in
        let h = flattened names m g in
        let quantified : Apart (map names ws ++ r.made_variables) O =
        λ x i j. ⊎_elim (λ a. quantified_apart vs ws O m r.next (λ y b. among y (scope_mentioned ws g y b)) apart.0 out x a j) (λ a. let b = h.fresh x a in ⊎_elim (λ d. omega (arith, d, b.0)) (λ d. omega (arith, d, b.1)) (out x j).1) (in_either x (map names ws) r.made_variables i) in
        one_part O (F.Exists (map names ws ++ r.made_variables) (conjunction r.goals)) (quantified, conjunction_scoped O r.goals (parts_of g m vs O l (λ x i. among x (under_mentioned ws g x i)) apart.1 out))

    all_parts_of : (gs : Formulas) (m : ℕ) (vs O : List ℕ) → n ≤ m → Among (all_mentioned gs) xs → PartsNamedApart vs gs → Outside names xs vs m (conjuncts_of_all names m gs).next O → PartsScoped O (flats (conjuncts_of_all names m gs).goals)
    all_parts_of no_formulas m vs O l among apart out = tt
    all_parts_of (formula_then g gs) m vs O l among apart out =
        let r = conjuncts_of names m g in
        let q = conjuncts_of_all names r.next gs in
        let h = flattened names m g in
        let k = all_flattened names r.next gs in
        let among_g : Among (mentioned g) xs = λ x i. among x (first_mentioned g gs x i) in
        let among_gs : Among (all_mentioned gs) xs = λ x i. among x (rest_mentioned g gs x i) in
        let before_q = variables_of_all (flats r.goals) in
        let after_r = variables_of_all (flats q.goals) in
        let out_g : Outside names xs (vs ++ all_mentioned gs) m r.next (O ++ after_r) =
        more_outside vs (all_mentioned gs) m r.next O after_r l among_gs (closer vs m q.next m r.next O (omega arith) k.next out)
        (λ x i. elsewhere_above (all_mentioned gs) m r.next r.next q.next x (omega (arith, l, h.next)) (omega arith) (k.inside x (in_flats x q.goals i))) in
        let out_gs : Outside names xs (vs ++ mentioned g) r.next q.next (O ++ before_q) =
        more_outside vs (mentioned g) r.next q.next O before_q (omega (arith, l, h.next)) among_g (closer vs m q.next r.next q.next O h.next (omega arith) out)
        (λ x i. elsewhere_below (mentioned g) r.next q.next m r.next x l (omega arith) (h.inside x (in_flats x r.goals i))) in
        parts_joined O r.goals q.goals (parts_of g m (vs ++ all_mentioned gs) (O ++ after_r) l among_g apart.0 out_g)
        (all_parts_of gs r.next (vs ++ mentioned g) (O ++ before_q) (omega (arith, l, h.next)) among_gs apart.1 out_gs)

    disjuncts_of_all : (gs : Formulas) (m : ℕ) (vs O : List ℕ) → n ≤ m → Among (all_mentioned gs) xs → DisjunctsNamedApart vs gs → Outside names xs vs m (disjuncts_of names m gs).next O → DisjunctsScoped O (flats (disjuncts_of names m gs).goals)
    disjuncts_of_all no_formulas m vs O l among apart out = tt
    disjuncts_of_all (formula_then g gs) m vs O l among apart out =
        let r = conjuncts_of names m g in
        let q = disjuncts_of names r.next gs in
        let h = flattened names m g in
        let k = each_flattened names r.next gs in
        let out_g = closer vs m q.next m r.next O (omega arith) k.next out in (
          whole_scoped m g vs O out_g (parts_of g m vs O l (λ x i. among x (first_mentioned g gs x i)) apart.0 out_g),
          disjuncts_of_all gs r.next vs O (omega (arith, l, h.next)) (λ x i. among x (rest_mentioned g gs x i)) apart.1 (closer vs m q.next r.next q.next O h.next (omega arith) out),
        )

-- the equations of a clause's head
record HeadFlat (names : ℕ → ℕ) (r : Conjuncts) (m i k : ℕ) (vs : List ℕ) : Type 0 where
  next : m ≤ r.next
  inside : (x : ℕ) → In x (all variables_of r.goals) → From names vs m r.next x ⊎ ((i ≤ x) × (x < i + k))
  scoped : (O : List ℕ) → PartsScoped O (flats r.goals)

module _ (names : ℕ → ℕ) (head : List Expression) where
  equate_head : (m i : ℕ) (t : Expression) → HeadFlat names (equate names m i t) m i 1 (variables_in t)
  equate_head m i t =
      let r = equate names m i t in
      let h = equated names m i t in
      record {
        next = h.next;
        inside = λ x j. ⊎_elim (λ a. inl (ours_from names (variables_in t) r.made_variables m r.next x h.fresh a)) (λ e. inr (omega (arith, e), omega (arith, e))) (h.inside x j);
        scoped = h.scoped;
      }

  argument_head : (m i : ℕ) (t : Expression) → HeadFlat names (head_equation names head m i t) m i 1 (variables_in t)
  argument_head m i (variable v) = at (is_place i (head_place v head))
    where
      at : (b : Bool) → HeadFlat names (cond b (record { goals = []; made_variables = []; next = m }) (equate names m i (variable v))) m i 1 (v ∷ [])
      at true = record { next = omega arith; inside = λ x j. absurd j; scoped = λ O. tt }
      at false = equate_head m i (variable v)
  argument_head m i (constant c) = equate_head m i (constant c)
  argument_head m i (made f ts) = equate_head m i (made f ts)
  argument_head m i (applied f ts) = equate_head m i (applied f ts)

  whole_head : (m i : ℕ) (ts : List Expression) → HeadFlat names (head_equations names head m i ts) m i (length ts) (variables_in_all (expressions ts))
  whole_head m i [] = record { next = omega arith; inside = λ x j. absurd j; scoped = λ O. tt }
  whole_head m i (t ∷ ts) =
      let r = head_equation names head m i t in
      let q = head_equations names head r.next (suc i) ts in
      let h = argument_head m i t in
      let k = whole_head r.next (suc i) ts in
      let us = variables_in t in
      let vs = variables_in_all (expressions ts) in
      record {
        next = omega (arith, h.next, k.next);
        inside =
            λ x j.
            ⊎_elim (λ a. ⊎_elim (λ b. inl (from_more names us (us ++ vs) m r.next m q.next x (λ y d. in_left y us vs d) (omega arith) k.next b)) (λ b. inr (b.0, omega (arith, b.1))) (h.inside x a))
            (λ a. ⊎_elim (λ b. inl (from_more names vs (us ++ vs) r.next q.next m q.next x (λ y d. in_right y us vs d) h.next (omega arith) b)) (λ b. inr (omega (arith, b.0), omega (arith, b.1))) (k.inside x a))
            (all_split variables_of x r.goals q.goals j);
        scoped = λ O. parts_joined O r.goals q.goals (h.scoped (O ++ variables_of_all (flats q.goals))) (k.scoped (O ++ variables_of_all (flats r.goals)));
      }

argument_in : (v i : ℕ) (ts : List Expression) → IsArgument v i ts → In v (variables_in_all (expressions ts))
argument_in v i [] h = absurd h
argument_in v zero (t ∷ ts) h = in_left v (variables_in t) (variables_in_all (expressions ts)) (subst (λ u. In v (variables_in u)) (sym h) (inl refl))
argument_in v (suc i) (t ∷ ts) h = in_right v (variables_in t) (variables_in_all (expressions ts)) (argument_in v i ts h)

in_from : (x n k : ℕ) → In x (from n k) → (n ≤ x) × (x < n + k)
in_from x n zero i = absurd i
in_from x n (suc k) i = ⊎_elim (λ e. (omega (arith, e), omega (arith, e))) (λ j. let r = in_from x (suc n) k j in (omega (arith, r.0), omega (arith, r.1))) i

-- a clause's goal, where the variables of its head are the first
module _ (n : ℕ) (c : ClauseForm) (below : length c.head ≤ n) where
  abbrev numbers_of : ℕ → ℕ
  numbers_of = names_in n c

  abbrev first_made : ℕ
  first_made = n + length (other_variables c)

  abbrev equations : Conjuncts
  equations = head_equations numbers_of c.head first_made 0 c.head

  abbrev of_head : List ℕ
  of_head = variables_in_all (expressions c.head)

  numbered : Numbers numbers_of (clause_variables c) first_made
  numbered = clause_numbers n c below

  head_flat : HeadFlat numbers_of equations first_made 0 (length c.head) of_head
  head_flat = whole_head numbers_of c.head first_made 0 c.head

  body_among : Among (mentioned c.body) (clause_variables c)
  body_among x i = in_right x of_head (mentioned c.body) i

  head_among : Among of_head (clause_variables c)
  head_among x i = in_left x of_head (mentioned c.body) i

  -- a head variable is the number of no variable but one of the head
  place_outside : (x : ℕ) → x < length c.head → (v : ℕ) → In v (clause_variables c) → x ≡ numbers_of v → In v of_head
  place_outside x l v i e = ⊎_elim (λ a. argument_in v a.0 c.head a.1) (λ a. absurd (omega (arith, l, below, e, other_above n c v a.0))) (has_number n c v i)

  head_outside : (k : ℕ) → Outside numbers_of (clause_variables c) of_head equations.next k (from 0 (length c.head))
  head_outside k x i = let l = (in_from x 0 (length c.head) i).1 in (place_outside x (omega (arith, l)), inl (omega (arith, l, below, head_flat.next)))

  body_outside : (k : ℕ) → Outside numbers_of (clause_variables c) of_head equations.next k (from 0 (length c.head) ++ variables_of_all (flats equations.goals))
  body_outside k x i =
      ⊎_elim (λ a. head_outside k x a)
      (λ a.
      ⊎_elim
      (λ b.
      ⊎_elim
      (λ d. ((λ v j e. subst (λ y. In y of_head) (numbered.apart d.0 v (head_among d.0 d.1) j (sym d.2 ∙ e)) d.1), inl (omega (arith, d.2, numbered.below d.0 (head_among d.0 d.1), head_flat.next))))
      (λ d. ((λ v j e. absurd (omega (arith, d.0, e, numbered.below v j))), inl d.1)) b)
      (λ b. (place_outside x (omega (arith, b.1)), inl (omega (arith, b.1, below, head_flat.next))))
      (head_flat.inside x (in_flats x equations.goals a))) (in_either x (from 0 (length c.head)) (variables_of_all (flats equations.goals)) i)

  abbrev body_of : Conjuncts
  body_of = conjuncts_of numbers_of equations.next c.body

  clause_scoped : ClauseNamedApart c → FlatScopes (from 0 (length c.head)) (conjunction (clause_goal n c).goals)
  clause_scoped apart =
      let O = from 0 (length c.head) in
      conjunction_scoped O (equations.goals ++ body_of.goals)
      (parts_joined O equations.goals body_of.goals (head_flat.scoped (O ++ variables_of_all (flats body_of.goals)))
      (parts_of numbers_of (clause_variables c) first_made numbered c.body equations.next of_head (O ++ variables_of_all (flats equations.goals)) head_flat.next body_among apart (body_outside body_of.next)))

  body_flat : Flattened numbers_of body_of equations.next (mentioned c.body) (free_of c.body)
  body_flat = flattened numbers_of equations.next c.body

  clause_next : n ≤ (clause_goal n c).next
  clause_next = omega (arith, head_flat.next, body_flat.next)

  clause_below : Below (clause_goal n c).next (variables_of (conjunction (clause_goal n c).goals))
  clause_below x i =
      ⊎_elim
      (λ a.
      ⊎_elim (λ b. ⊎_elim (λ d. omega (arith, d.2, numbered.below d.0 (head_among d.0 d.1), head_flat.next, body_flat.next)) (λ d. omega (arith, d.1, body_flat.next)) b) (λ b. omega (arith, b.1, below, head_flat.next, body_flat.next))
      (head_flat.inside x a))
      (λ a. ⊎_elim (λ b. omega (arith, b.2, numbered.below b.0 (body_among b.0 b.1), head_flat.next, body_flat.next)) (λ b. b.1) (body_flat.inside x a))
      (all_split variables_of x equations.goals body_of.goals (conjunction_in variables_of variables_are x (equations.goals ++ body_of.goals) i))

-- the clauses of a predicate
each_scoped : (arity n : ℕ) (cls : List ClauseForm) → HeadsHave arity cls → arity ≤ n → EachNamedApart cls → DisjunctsScoped (from 0 arity) (flats (clause_goals n cls).goals)
each_scoped arity n [] heads l apart = tt
each_scoped arity n (c ∷ cs) heads l apart =
    let below : length c.head ≤ n = omega (arith, heads.0, l) in (
      subst (λ k. FlatScopes (from 0 k) (conjunction (clause_goal n c).goals)) heads.0 (clause_scoped n c below apart.0),
      each_scoped arity (clause_goal n c).next cs heads.1 (omega (arith, l, clause_next n c below)) apart.1,
    )

each_below : (arity n : ℕ) (cls : List ClauseForm) → HeadsHave arity cls → arity ≤ n → (n ≤ (clause_goals n cls).next) × ((x : ℕ) → In x (all variables_of (clause_goals n cls).goals) → x < (clause_goals n cls).next)
each_below arity n [] heads l = (omega arith, (λ x i. absurd i))
each_below arity n (c ∷ cs) heads l =
    let below : length c.head ≤ n = omega (arith, heads.0, l) in
    let next = (clause_goal n c).next in
    let h = each_below arity next cs heads.1 (omega (arith, l, clause_next n c below)) in (
      omega (arith, h.0, clause_next n c below),
      (λ x i. ⊎_elim (λ a. omega (arith, clause_below n c below x a, h.0)) (λ a. h.1 x a) (in_either x (variables_of (conjunction (clause_goal n c).goals)) (all variables_of (clause_goals next cs).goals) i)),
    )

either_scoped : (O : List ℕ) (gs : List Flat_goal) → DisjunctsScoped O (flats gs) → FlatScopes O (one_or_either gs)
either_scoped O [] s = disjunction_scoped O [] s
either_scoped O (g ∷ []) s = s.0
either_scoped O (g ∷ h ∷ gs) s = disjunction_scoped O (g ∷ h ∷ gs) s

either_in : (x : ℕ) (gs : List Flat_goal) → In x (variables_of (one_or_either gs)) → In x (all variables_of gs)
either_in x [] i = disjunction_in variables_of variables_are x [] i
either_in x (g ∷ []) i = in_left x (variables_of g) [] i
either_in x (g ∷ h ∷ gs) i = disjunction_in variables_of variables_are x (g ∷ h ∷ gs) i

pub normal_goals_scoped : NormalGoalsScoped
normal_goals_scoped arity cls heads apart = either_scoped (from 0 arity) (clause_goals arity cls).goals (each_scoped arity arity cls heads (omega arith) apart)

pub normal_goals_below : NormalGoalsBelow
normal_goals_below arity cls heads =
    let h = each_below arity arity cls heads (omega arith) in
    ((λ x i. omega (arith, (in_from x 0 arity i).1, h.0)), (λ x i. h.1 x (either_in x (clause_goals arity cls).goals i)))

pub from_length : (n k : ℕ) → length (from n k) ≡ k
from_length n zero = refl
from_length n (suc k) = ap suc (from_length (suc n) k)

pub normal_order_is_ordered : NormalOrderIsOrdered
normal_order_is_ordered S p C declared truth known tidily h x e al =
    let g = goal_of S p in
    let cls = (S.world.source.preds p.pred).clauses in
    let below = normal_goals_below g.arity cls h.heads in
    in-order-is-ordered S p C declared truth known tidily g.variables g.body x (h.last ∙ sym (ap length h.head ∙ from_length 0 g.arity)) (subst (λ xs. Below g.variables xs) (sym h.head) below.0) below.1
    (subst (λ xs. FlatScopes xs g.body) (sym h.head) (normal_goals_scoped g.arity cls h.heads h.apart)) h.typed h.tidy e al
