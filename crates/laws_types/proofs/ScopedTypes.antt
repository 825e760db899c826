-- Where scopes are written out a clause has the same variables, and its goal is typed as before.
use Rattle.std.proofs.Common.{◌≡◌, inl, inr, ℕ, ◌+◌, ◌<◌, List, [], ◌∷◌, ◌++◌, map, drop, length, get_or, Bool, true, false, cond, nat_eq, refl, sym, ap, ap₂, ◌∙◌, subst, ⊎_elim, append_assoc, append-nil}
use Rattle.std.proofs.lemmas.Bool.{eqb-true, eqb-false}
use Rattle.mc_program.specs.Programs.{TypeTerm, variable_type, expressions, Source, Expression, Formula, Equal, Call, And, Or, If, Not, Exists, Formulas, no_formulas, formula_then, ClauseForm}
use Rattle.mc_model.specs.Flat.{Flat_goal}
use Rattle.mc_model.specs.Lists.{In, is_in, without, Among, once, place_in}
use Rattle.mc_accepted.specs.Scope.{variables_in_all, occurring, occurring_all, free_of, quantified, scoped, scoped_parts, scoped_disjuncts, clause_scoped}
use Rattle.mc_accepted.specs.Typing.{TypedGoal}
use Rattle.mc_accepted.specs.Normal.{Conjuncts, before, conjunction, around, conjuncts_of, conjuncts_of_all, disjuncts_of, head_place, no_arguments, named_by_quantifiers, named_by_quantifiers_of_all, other_variables, place_or, head_equations, clause_goal}
use Rattle.mc_accepted.specs.NormalTypes.{normal_types}
use Rattle.mc_accepted.specs.MostGeneral.{type_at, rigid_count, generalised}
use Rattle.laws_language.proofs.FlatGoals.{in_left, in_right}
use Rattle.laws_language.proofs.ClauseNumbers.{from_without, from_once}
use Rattle.laws_language.proofs.FlatWhole.{is_in_true}
use Rattle.laws_language.proofs.Scopes.{own, occurs, out_of_without}
use Rattle.laws_order.proofs.NormalScopes.{free_occurs}
use Rattle.laws_made_types.proofs.FlatTypings.{AllTyped, join, split, to_conjunction, from_conjunction, to_disjunction, from_disjunction, to_around, from_around}
use Rattle.laws_types.specs.GoalTypes.{with_scopes, ScopesKeepTypes}

-- LISTS

without_both : (xs ys vs : List ℕ) → without (xs ++ ys) vs ≡ without xs vs ++ without ys vs
without_both [] ys vs = refl
without_both (x ∷ xs) ys vs = by_test (is_in x vs) (without_both xs ys vs)
  where
    by_test : (t : Bool) → without (xs ++ ys) vs ≡ without xs vs ++ without ys vs → cond t (without (xs ++ ys) vs) (x ∷ without (xs ++ ys) vs) ≡ cond t (without xs vs) (x ∷ without xs vs) ++ without ys vs
    by_test true e = e
    by_test false e = ap (λ zs. x ∷ zs) e

without_none : (xs : List ℕ) → without xs [] ≡ xs
without_none [] = refl
without_none (x ∷ xs) = ap (λ zs. x ∷ zs) (without_none xs)

without_more : (x : ℕ) (vs zs : List ℕ) → without (without zs vs) (x ∷ []) ≡ without zs (x ∷ vs)
without_more x vs [] = refl
without_more x vs (z ∷ zs) = by_test (is_in z vs) (without_more x vs zs)
  where
    out : (t : Bool) → without (without zs vs) (x ∷ []) ≡ without zs (x ∷ vs) → without (without zs vs) (x ∷ []) ≡ cond (cond t true true) (without zs (x ∷ vs)) (z ∷ without zs (x ∷ vs))
    out true e = e
    out false e = e

    same :
        (t : Bool)
        → without (without zs vs) (x ∷ []) ≡ without zs (x ∷ vs)
        → cond (cond t true false) (without (without zs vs) (x ∷ [])) (z ∷ without (without zs vs) (x ∷ [])) ≡ cond (cond t true false) (without zs (x ∷ vs)) (z ∷ without zs (x ∷ vs))
    same true e = e
    same false e = ap (λ us. z ∷ us) e

    by_test : (s : Bool) → without (without zs vs) (x ∷ []) ≡ without zs (x ∷ vs) → without (cond s (without zs vs) (z ∷ without zs vs)) (x ∷ []) ≡ cond (cond (nat_eq z x) true s) (without zs (x ∷ vs)) (z ∷ without zs (x ∷ vs))
    by_test true e = out (nat_eq z x) e
    by_test false e = same (nat_eq z x) e

without_commutes : (zs us vs : List ℕ) → without (without zs us) vs ≡ without (without zs vs) us
without_commutes [] us vs = refl
without_commutes (z ∷ zs) us vs = by_tests (is_in z us) (is_in z vs) refl refl (without_commutes zs us vs)
  where
    by_tests :
        (s t : Bool)
        → is_in z us ≡ s
        → is_in z vs ≡ t
        → without (without zs us) vs ≡ without (without zs vs) us
        → without (cond s (without zs us) (z ∷ without zs us)) vs ≡ without (cond t (without zs vs) (z ∷ without zs vs)) us
    by_tests true true p q e = e
    by_tests true false p q e = e ∙ sym (ap (λ b. cond b (without (without zs vs) us) (z ∷ without (without zs vs) us)) p)
    by_tests false true p q e = ap (λ b. cond b (without (without zs us) vs) (z ∷ without (without zs us) vs)) q ∙ e
    by_tests false false p q e =
        ap (λ b. cond b (without (without zs us) vs) (z ∷ without (without zs us) vs)) q
        ∙ ap (λ us. z ∷ us) e ∙ sym (ap (λ b. cond b (without (without zs vs) us) (z ∷ without (without zs vs) us)) p)

without_absent : (x : ℕ) (zs : List ℕ) → (In x zs → ⊥) → without zs (x ∷ []) ≡ zs
without_absent x [] h = refl
without_absent x (z ∷ zs) h = by_test (nat_eq z x) (eqb-true z x) (without_absent x zs (λ i. h (inr i)))
  where
    by_test : (t : Bool) → (t ≡ true → z ≡ x) → without zs (x ∷ []) ≡ zs → cond (cond t true false) (without zs (x ∷ [])) (z ∷ without zs (x ∷ [])) ≡ z ∷ zs
    by_test true q e = absurd (h (inl (sym (q refl))))
    by_test false q e = ap (λ us. z ∷ us) e

nothing_stays : (xs vs : List ℕ) → Among xs vs → without xs vs ≡ []
nothing_stays [] vs h = refl
nothing_stays (x ∷ xs) vs h = by_test (is_in x vs) (stands x vs (h x (inl refl))) (nothing_stays xs vs (λ y i. h y (inr i)))
  where
    stands : (y : ℕ) (ys : List ℕ) → In y ys → is_in y ys ≡ true
    stands y [] i = absurd i
    stands y (z ∷ zs) i = now (nat_eq y z) (eqb-false y z) (stands y zs) i
      where
        now : (t : Bool) → (t ≡ false → y ≡ z → ⊥) → (In y zs → is_in y zs ≡ true) → In y (z ∷ zs) → cond t true (is_in y zs) ≡ true
        now true q rest i = refl
        now false q rest i = ⊎_elim (λ e. absurd (q refl e)) (λ j. rest j) i

    by_test : (t : Bool) → t ≡ true → without xs vs ≡ [] → cond t (without xs vs) (x ∷ without xs vs) ≡ []
    by_test true q e = e
    by_test false q e = cc

-- once, and then without others
once_without : (ys vs : List ℕ) → without (once ys) vs ≡ once (without ys vs)
once_without [] vs = refl
once_without (y ∷ ys) vs =
    by_test (is_in y vs) refl (without_commutes (once ys) (y ∷ []) vs ∙ ap (λ zs. without zs (y ∷ [])) (once_without ys vs)) (λ i. out_of_without y ys vs (from_once y (without ys vs) i))
  where
    by_test :
        (t : Bool)
        → is_in y vs ≡ t
        → without (without (once ys) (y ∷ [])) vs ≡ without (once (without ys vs)) (y ∷ [])
        → (In y (once (without ys vs)) → In y vs → ⊥)
        → cond t (without (without (once ys) (y ∷ [])) vs) (y ∷ without (without (once ys) (y ∷ [])) vs) ≡ once (cond t (without ys vs) (y ∷ without ys vs))
    by_test true q e h = e ∙ without_absent y (once (without ys vs)) (λ i. h i (is_in_true y vs q))
    by_test false q e h = ap (λ zs. y ∷ zs) e

once_behind : (xs ys : List ℕ) → once (xs ++ ys) ≡ once xs ++ without (once ys) xs
once_behind [] ys = sym (without_none (once ys))
once_behind (x ∷ xs) ys =
    ap (λ zs. x ∷ without zs (x ∷ [])) (once_behind xs ys)
    ∙ ap (λ zs. x ∷ zs) (without_both (once xs) (without (once ys) xs) (x ∷ []) ∙ ap (λ zs. without (once xs) (x ∷ []) ++ zs) (without_more x xs (once ys)))

-- what is named among variables that stand before makes no difference
once_same : (xs ys zs : List ℕ) → without ys xs ≡ without zs xs → once (xs ++ ys) ≡ once (xs ++ zs)
once_same xs ys zs e =
    once_behind xs ys ∙ ap (λ us. once xs ++ us) (once_without ys xs ∙ ap once e ∙ sym (once_without zs xs)) ∙ sym (once_behind xs zs)

-- WHAT IS NAMED BESIDES occurs in the goal

own_among : (X : List ℕ) (g : Formula) (vs : List ℕ) → Among (occurring g) vs → Among (own X g) vs
own_among X g vs h x i = h x (free_occurs g x (from_without x (free_of g) X (from_once x (without (free_of g) X) i)))

named_quantified : (ws : List ℕ) (g : Formula) (vs : List ℕ) → Among ws vs → without (named_by_quantifiers (quantified ws g)) vs ≡ without (named_by_quantifiers g) vs
named_quantified [] g vs h = refl
named_quantified (w ∷ ws) g vs h =
    without_both (w ∷ ws) (named_by_quantifiers g) vs ∙ ap (λ us. us ++ without (named_by_quantifiers g) vs) (nothing_stays (w ∷ ws) vs h)

pub among_left : (xs ys vs : List ℕ) → Among (xs ++ ys) vs → Among xs vs
among_left xs ys vs h x i = h x (in_left x xs ys i)

among_right : (xs ys vs : List ℕ) → Among (xs ++ ys) vs → Among ys vs
among_right xs ys vs h x i = h x (in_right x xs ys i)

mutual
  pub named_same : (O : List ℕ) (g : Formula) (vs : List ℕ) → Among (occurring g) vs → without (named_by_quantifiers (scoped O g)) vs ≡ without (named_by_quantifiers g) vs
  named_same O (Equal a b) vs h = refl
  named_same O (Call p ts) vs h = refl
  named_same O (And gs) vs h = parts_same_names O gs vs h
  named_same O (Or gs) vs h = disjuncts_same_names O gs vs h
  named_same O (If us c t e) vs h =
      let Oc = O ++ (us ++ occurring t) in
      let c' = scoped Oc c in
      let t' = scoped (O ++ (us ++ occurring c)) t in
      let e' = scoped O e in
      let ws = own (O ++ us) c' in
      let of_c = among_left (occurring c) (occurring t ++ occurring e) vs h in
      let behind = among_right (occurring c) (occurring t ++ occurring e) vs h in
      let more : Among ws vs = own_among (O ++ us) c' vs (subst (λ l. Among l vs) (sym (occurs Oc c)) of_c) in
      let ec = named_same Oc c vs of_c in
      let et = named_same (O ++ (us ++ occurring c)) t vs (among_left (occurring t) (occurring e) vs behind) in
      let ee = named_same O e vs (among_right (occurring t) (occurring e) vs behind) in
      let nc = named_by_quantifiers c in
      let nt = named_by_quantifiers t in
      let ne = named_by_quantifiers e in
      let nc' = named_by_quantifiers c' in
      let nt' = named_by_quantifiers t' in
      let ne' = named_by_quantifiers e' in
      let first : without (us ++ ws) vs ≡ without us vs = without_both us ws vs ∙ ap (λ zs. without us vs ++ zs) (nothing_stays ws vs more) ∙ append-nil (without us vs) in
      let parts : without (nc' ++ (nt' ++ ne')) vs ≡ without (nc ++ (nt ++ ne)) vs =
      without_both nc' (nt' ++ ne') vs
      ∙ ap₂ (λ xs ys. xs ++ ys) ec (without_both nt' ne' vs ∙ ap₂ (λ xs ys. xs ++ ys) et ee ∙ sym (without_both nt ne vs)) ∙ sym (without_both nc (nt ++ ne) vs) in
      without_both (us ++ ws) (nc' ++ (nt' ++ ne')) vs ∙ ap₂ (λ xs ys. xs ++ ys) first parts ∙ sym (without_both us (nc ++ (nt ++ ne)) vs)
  named_same O (Not g) vs h =
      let g' = scoped O g in
      named_quantified (own O g') g' vs (own_among O g' vs (subst (λ l. Among l vs) (sym (occurs O g)) h)) ∙ named_same O g vs h
  named_same O (Exists us g) vs h =
      let g' = scoped (O ++ us) g in
      without_both us (named_by_quantifiers g') vs ∙ ap (λ zs. without us vs ++ zs) (named_same (O ++ us) g vs h) ∙ sym (without_both us (named_by_quantifiers g) vs)

  parts_same_names : (O : List ℕ) (gs : Formulas) (vs : List ℕ) → Among (occurring_all gs) vs → without (named_by_quantifiers_of_all (scoped_parts O gs)) vs ≡ without (named_by_quantifiers_of_all gs) vs
  parts_same_names O no_formulas vs h = refl
  parts_same_names O (formula_then g gs) vs h =
      let n' = named_by_quantifiers (scoped (O ++ occurring_all gs) g) in
      let ns' = named_by_quantifiers_of_all (scoped_parts (O ++ occurring g) gs) in
      without_both n' ns' vs
      ∙ ap₂ (λ xs ys. xs ++ ys) (named_same (O ++ occurring_all gs) g vs (among_left (occurring g) (occurring_all gs) vs h)) (parts_same_names (O ++ occurring g) gs vs (among_right (occurring g) (occurring_all gs) vs h))
      ∙ sym (without_both (named_by_quantifiers g) (named_by_quantifiers_of_all gs) vs)

  disjuncts_same_names : (O : List ℕ) (gs : Formulas) (vs : List ℕ) → Among (occurring_all gs) vs → without (named_by_quantifiers_of_all (scoped_disjuncts O gs)) vs ≡ without (named_by_quantifiers_of_all gs) vs
  disjuncts_same_names O no_formulas vs h = refl
  disjuncts_same_names O (formula_then g gs) vs h =
      let n' = named_by_quantifiers (scoped O g) in
      let ns' = named_by_quantifiers_of_all (scoped_disjuncts O gs) in
      without_both n' ns' vs
      ∙ ap₂ (λ xs ys. xs ++ ys) (named_same O g vs (among_left (occurring g) (occurring_all gs) vs h)) (disjuncts_same_names O gs vs (among_right (occurring g) (occurring_all gs) vs h))
      ∙ sym (without_both (named_by_quantifiers g) (named_by_quantifiers_of_all gs) vs)

-- the clause's other variables are the same
pub others_same : (c : ClauseForm) → other_variables (clause_scoped c) ≡ other_variables c
others_same c =
    let head = variables_in_all (expressions c.head) in
    let body = scoped head c.body in
    let seen = occurring c.body in
    let named = named_by_quantifiers body in
    let assoc = append_assoc head seen in
    let first : head ++ (occurring body ++ named) ≡ (head ++ seen) ++ named = ap (λ xs. head ++ (xs ++ named)) (occurs head c.body) ∙ sym (assoc named) in
    let middle = once_same (head ++ seen) named (named_by_quantifiers c.body) (named_same head c.body (head ++ seen) (λ x i. in_right x head seen i)) in
    ap (no_arguments c.head) (ap once first ∙ middle ∙ ap once (assoc (named_by_quantifiers c.body)))

-- THE GOALS are typed alike
pub record Same_goals (P : Source) (T : ℕ → TypeTerm) (r r' : Conjuncts) : Type 0 where
  pub next : r.next ≡ r'.next
  pub to : AllTyped P T r.goals → AllTyped P T r'.goals
  pub from : AllTyped P T r'.goals → AllTyped P T r.goals

module _ (P : Source) (T : ℕ → TypeTerm) (names : ℕ → ℕ) where
  itself : (r : Conjuncts) → Same_goals P T r r
  itself r = record { next = refl; to = λ h. h; from = λ h. h }

  both_same : (r r' q q' : Conjuncts) → Same_goals P T r r' → Same_goals P T r' q → Same_goals P T r q
  both_same r r' q q' a b = record { next = a.next ∙ b.next; to = λ h. b.to (a.to h); from = λ h. a.from (b.from h) }

  part_typed : (gs gs' : List Flat_goal) (vs vs' : List ℕ) → (AllTyped P T gs → AllTyped P T gs') → TypedGoal P T (around vs (conjunction gs)) → TypedGoal P T (around vs' (conjunction gs'))
  part_typed gs gs' vs vs' f h = to_around P T vs' (conjunction gs') (to_conjunction P T gs' (f (from_conjunction P T gs (from_around P T vs (conjunction gs) h))))

  whole_typed : (gs gs' : List Flat_goal) → (AllTyped P T gs → AllTyped P T gs') → TypedGoal P T (conjunction gs) → TypedGoal P T (conjunction gs')
  whole_typed gs gs' f h = to_conjunction P T gs' (f (from_conjunction P T gs h))

  pub quantified_same : (vs : List ℕ) (g : Formula) (m : ℕ) → Same_goals P T (conjuncts_of names m (quantified vs g)) (conjuncts_of names m g)
  quantified_same [] g m = itself (conjuncts_of names m g)
  quantified_same (v ∷ vs) g m =
      let r = conjuncts_of names m g in
      record { next = refl; to = λ h. from_conjunction P T r.goals h.0; from = λ h. (to_conjunction P T r.goals h, tt) }

  mutual
    pub scoped_same : (O : List ℕ) (g : Formula) (m : ℕ) → Same_goals P T (conjuncts_of names m (scoped O g)) (conjuncts_of names m g)
    scoped_same O (Equal a b) m = itself (conjuncts_of names m (Equal a b))
    scoped_same O (Call p ts) m = itself (conjuncts_of names m (Call p ts))
    scoped_same O (And gs) m = parts_same O gs m
    scoped_same O (Or gs) m =
        let r = disjuncts_of names m (scoped_disjuncts O gs) in
        let r' = disjuncts_of names m gs in
        let w = disjuncts_same O gs m in
        record {
          next = w.next;
          to = λ h. (to_disjunction P T r'.goals (w.to (from_disjunction P T r.goals h.0)), tt);
          from = λ h. (to_disjunction P T r.goals (w.from (from_disjunction P T r'.goals h.0)), tt);
        }
    scoped_same O (If vs c t e) m =
        let c' = scoped (O ++ (vs ++ occurring t)) c in
        let t' = scoped (O ++ (vs ++ occurring c)) t in
        let e' = scoped O e in
        let rc' = conjuncts_of names m c' in
        let rc = conjuncts_of names m c in
        let wc = scoped_same (O ++ (vs ++ occurring t)) c m in
        let rt' = conjuncts_of names rc'.next t' in
        let rt = conjuncts_of names rc.next t in
        let wt : Same_goals P T rt' rt = subst (λ k. Same_goals P T rt' (conjuncts_of names k t)) wc.next (scoped_same (O ++ (vs ++ occurring c)) t rc'.next) in
        let re' = conjuncts_of names rt'.next e' in
        let re = conjuncts_of names rt.next e in
        let we : Same_goals P T re' re = subst (λ k. Same_goals P T re' (conjuncts_of names k e)) wt.next (scoped_same O e rt'.next) in
        record {
          next = we.next;
          to = λ h. ((part_typed rc'.goals rc.goals rc'.made_variables rc.made_variables wc.to h.0.0, part_typed rt'.goals rt.goals rt'.made_variables rt.made_variables wt.to h.0.1, part_typed re'.goals re.goals re'.made_variables re.made_variables we.to h.0.2), tt);
          from = λ h. ((part_typed rc.goals rc'.goals rc.made_variables rc'.made_variables wc.from h.0.0, part_typed rt.goals rt'.goals rt.made_variables rt'.made_variables wt.from h.0.1, part_typed re.goals re'.goals re.made_variables re'.made_variables we.from h.0.2), tt);
        }
    scoped_same O (Not g) m =
        let g' = scoped O g in
        let ws = own O g' in
        let r' = conjuncts_of names m (quantified ws g') in
        let r = conjuncts_of names m g in
        let w = both_same r' (conjuncts_of names m g') r r (quantified_same ws g' m) (scoped_same O g m) in
        record {
          next = w.next;
          to = λ h. (part_typed r'.goals r.goals r'.made_variables r.made_variables w.to h.0, tt);
          from = λ h. (part_typed r.goals r'.goals r.made_variables r'.made_variables w.from h.0, tt);
        }
    scoped_same O (Exists vs g) m =
        let r' = conjuncts_of names m (scoped (O ++ vs) g) in
        let r = conjuncts_of names m g in
        let w = scoped_same (O ++ vs) g m in
        record {
          next = w.next;
          to = λ h. (whole_typed r'.goals r.goals w.to h.0, tt);
          from = λ h. (whole_typed r.goals r'.goals w.from h.0, tt);
        }

    parts_same : (O : List ℕ) (gs : Formulas) (m : ℕ) → Same_goals P T (conjuncts_of_all names m (scoped_parts O gs)) (conjuncts_of_all names m gs)
    parts_same O no_formulas m = itself (conjuncts_of_all names m no_formulas)
    parts_same O (formula_then g gs) m =
        let r' = conjuncts_of names m (scoped (O ++ occurring_all gs) g) in
        let r = conjuncts_of names m g in
        let w = scoped_same (O ++ occurring_all gs) g m in
        let rs' = conjuncts_of_all names r'.next (scoped_parts (O ++ occurring g) gs) in
        let rs = conjuncts_of_all names r.next gs in
        let ws : Same_goals P T rs' rs = subst (λ k. Same_goals P T rs' (conjuncts_of_all names k gs)) w.next (parts_same (O ++ occurring g) gs r'.next) in
        record {
          next = ws.next;
          to = λ h. let z = split P T r'.goals rs'.goals h in join P T r.goals rs.goals (w.to z.0) (ws.to z.1);
          from = λ h. let z = split P T r.goals rs.goals h in join P T r'.goals rs'.goals (w.from z.0) (ws.from z.1);
        }

    disjuncts_same : (O : List ℕ) (gs : Formulas) (m : ℕ) → Same_goals P T (disjuncts_of names m (scoped_disjuncts O gs)) (disjuncts_of names m gs)
    disjuncts_same O no_formulas m = itself (disjuncts_of names m no_formulas)
    disjuncts_same O (formula_then g gs) m =
        let r' = conjuncts_of names m (scoped O g) in
        let r = conjuncts_of names m g in
        let w = scoped_same O g m in
        let rs' = disjuncts_of names r'.next (scoped_disjuncts O gs) in
        let rs = disjuncts_of names r.next gs in
        let ws : Same_goals P T rs' rs = subst (λ k. Same_goals P T rs' (disjuncts_of names k gs)) w.next (disjuncts_same O gs r'.next) in
        record {
          next = ws.next;
          to = λ h. (part_typed r'.goals r.goals r'.made_variables r.made_variables w.to h.0, ws.to h.1);
          from = λ h. (part_typed r.goals r'.goals r.made_variables r'.made_variables w.from h.0, ws.from h.1);
        }

-- a clause's goal, by its other variables and its body
abbrev goal_with : ℕ → List Expression → List ℕ → Formula → Conjuncts
goal_with n head others body =
    let names : ℕ → ℕ = λ v. place_or (n + place_in v others) (head_place v head) in
    let r = head_equations names head (n + length others) 0 head in
    before r.goals r.made_variables (conjuncts_of names r.next body)

clause_same : (P : Source) (T : ℕ → TypeTerm) (n : ℕ) (c : ClauseForm) → Same_goals P T (clause_goal n (clause_scoped c)) (clause_goal n c)
clause_same P T n c =
    let others = other_variables c in
    let O = variables_in_all (expressions c.head) in
    let names : ℕ → ℕ = λ v. place_or (n + place_in v others) (head_place v c.head) in
    let r = head_equations names c.head (n + length others) 0 c.head in
    let b' = conjuncts_of names r.next (scoped O c.body) in
    let b = conjuncts_of names r.next c.body in
    let w = scoped_same P T names O c.body r.next in
    let here : Same_goals P T (goal_with n c.head others (scoped O c.body)) (goal_with n c.head others c.body) =
    record {
      next = w.next;
      to = λ h. let z = split P T r.goals b'.goals h in join P T r.goals b.goals z.0 (w.to z.1);
      from = λ h. let z = split P T r.goals b.goals h in join P T r.goals b'.goals z.0 (w.from z.1);
    } in
    subst (λ os. Same_goals P T (goal_with n c.head os (scoped O c.body)) (goal_with n c.head others c.body)) (sym (others_same c)) here

pub scopes_keep_types : ScopesKeepTypes
scopes_keep_types P D declared c general =
    let n = length declared in
    let scopes = clause_scoped c.clause in
    let types' = normal_types declared (with_scopes c ∷ []) in
    let types = normal_types declared (c ∷ []) in
    let same : types' ≡ types =
    ap (λ os. declared ++ ((map (λ v. get_or c.types v (variable_type v)) os ++ drop c.variables c.types) ++ [])) (others_same c.clause) in
    let r' = clause_goal n scopes in
    let r = clause_goal n c.clause in
    let typed : (T : ℕ → TypeTerm) → TypedGoal P T (conjunction r.goals) → TypedGoal P T (conjunction r'.goals) = λ T h. to_conjunction P T r'.goals ((clause_same P T n c.clause).from (from_conjunction P T r.goals h)) in
    let back : (T : ℕ → TypeTerm) → TypedGoal P T (conjunction r'.goals) → TypedGoal P T (conjunction r.goals) = λ T h. to_conjunction P T r.goals ((clause_same P T n c.clause).to (from_conjunction P T r'.goals h)) in
    record {
      own = general.own;
      as_many = ap length same ∙ general.as_many ∙ sym (clause_same P (λ v. variable_type v) n c.clause).next;
      heads = general.heads;
      typed = subst (λ ts. TypedGoal P (type_at ts) (conjunction r'.goals)) (sym same) (typed (type_at types) general.typed);
      general = λ T proper heads h.
          subst
          (λ ts. (σ : ℕ → TypeTerm) × ((v : ℕ) → v < length ts → T v ≡ generalised (rigid_count declared) σ (type_at ts v)))
          (sym same) (general.general T proper heads (back T h));
      numbered = general.numbered;
    }
