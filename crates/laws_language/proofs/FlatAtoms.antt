-- What flat goals say of the atoms that they come from.
use Rattle.std.proofs.Common.{◌≡◌, ◌≢◌, ◌⊎◌, inl, inr, ℕ, suc, ◌+◌, ◌-◌, ◌<◌, ◌≤◌, List, [], ◌∷◌, ◌++◌, map, length, Bool, true, false, cond, nat_lt, nat_eq, get_or, refl, sym, ap, ap₂, ◌∙◌, subst, arith, ⊎_elim, append_assoc, length-append, append-nil}
use Rattle.std.proofs.Math.Seq.{get_or-append_seam}
use Rattle.std.proofs.Math.ListN.{get_or-eq_default}
use Rattle.std.proofs.lemmas.List.{map-append}
use Rattle.std.proofs.lemmas.Bool.{lt-ltb, le-ltb, eqb-true, eq-eqb, cases_lt}
use Rattle.mc_program.specs.Values.{Val, con, vals, same_value}
use Rattle.mc_program.specs.Programs.{Expression, variable, constant, made, applied, Expressions, no_expressions, expression_then}
use Rattle.mc_model.specs.Truth.{Assignment, SameOff, Facts, parts, parts_all, value, values, Applied, AllApplied, Misapplied, OneMisapplied, AtomYes, AtomNo, AreEqual, Differ, pair}
use Rattle.mc_model.specs.Flat as F
use Rattle.mc_model.specs.Flat.{Flat_goal, FlatYes, FlatNo}
use Rattle.mc_accepted.specs.Normal.{Conjuncts, the_variable, name_term, name_terms, equate, equation, before}
use Rattle.mc_accepted.specs.Scope.{variables_in, variables_in_all}
use Rattle.laws_language.proofs.Equality.{value_same, same_of}
use Rattle.laws_language.proofs.FlatGoals.{in_left, in_right, in_either, AllFlatYes, OneFlatNo, all_split, one_split}
use Rattle.mc_model.specs.Lists.{In}

-- two values are the same or not
pub same_or_not : (v w : Val) → (v ≡ w) ⊎ (v ≢ w)
same_or_not v w = by_test (same_value v w) refl
  where
    by_test : (t : Bool) → same_value v w ≡ t → (v ≡ w) ⊎ (v ≢ w)
    by_test true e = inl (value_same v w e)
    by_test false e = inr (λ h. let q : true ≡ false = sym (same_of v w h) ∙ e in cc)

-- as many variables are made as a term has parts, numbered in order
mutual
  next_is : (names : ℕ → ℕ) (m : ℕ) (t : Expression) → (name_term names m t).next ≡ m + parts t
  next_is names m (variable x) = omega arith
  next_is names m (constant v) = refl
  next_is names m (made f ts) = omega (arith, nexts_are names m ts)
  next_is names m (applied p ts) = omega (arith, nexts_are names m ts)

  nexts_are : (names : ℕ → ℕ) (m : ℕ) (ts : Expressions) → (name_terms names m ts).next ≡ m + parts_all ts
  nexts_are names m no_expressions = omega arith
  nexts_are names m (expression_then t ts) = omega (arith, next_is names m t, nexts_are names (name_term names m t).next ts)

-- the variables that are made for a term are numbered from m on, as many as it has parts
last_above : (names : ℕ → ℕ) (m x : ℕ) (ts : Expressions) → (In x (name_terms names m ts).made_variables → m ≤ x) → In x ((name_terms names m ts).made_variables ++ (name_terms names m ts).next ∷ []) → m ≤ x
last_above names m x ts before h =
    ⊎_elim (λ i. before i) (λ i. ⊎_elim (λ e. omega (arith, e, nexts_are names m ts)) (λ j. absurd j) i) (in_either x (name_terms names m ts).made_variables ((name_terms names m ts).next ∷ []) h)

mutual
  made_above : (names : ℕ → ℕ) (m x : ℕ) (t : Expression) → In x (name_term names m t).made_variables → m ≤ x
  made_above names m x (variable y) h = absurd h
  made_above names m x (constant v) h = ⊎_elim (λ e. omega (arith, e)) (λ i. absurd i) h
  made_above names m x (made f ts) h = last_above names m x ts (λ i. all_made_above names m x ts i) h
  made_above names m x (applied p ts) h = last_above names m x ts (λ i. all_made_above names m x ts i) h

  all_made_above : (names : ℕ → ℕ) (m x : ℕ) (ts : Expressions) → In x (name_terms names m ts).made_variables → m ≤ x
  all_made_above names m x no_expressions h = absurd h
  all_made_above names m x (expression_then t ts) h =
      ⊎_elim (λ i. made_above names m x t i) (λ i. omega (arith, next_is names m t, all_made_above names (name_term names m t).next x ts i))
      (in_either x (name_term names m t).made_variables (name_terms names (name_term names m t).next ts).made_variables h)

last_has : (names : ℕ → ℕ) (m x : ℕ) (ts : Expressions) → (x < m + parts_all ts → In x (name_terms names m ts).made_variables) → x ≤ m + parts_all ts → In x ((name_terms names m ts).made_variables ++ (name_terms names m ts).next ∷ [])
last_has names m x ts before b =
    ⊎_elim
    (λ l. in_left x (name_terms names m ts).made_variables ((name_terms names m ts).next ∷ []) (before l))
    (λ l. in_right x (name_terms names m ts).made_variables ((name_terms names m ts).next ∷ []) (inl (omega (arith, b, l, nexts_are names m ts))))
    (cases_lt x (m + parts_all ts))

mutual
  made_has : (names : ℕ → ℕ) (m x : ℕ) (t : Expression) → m ≤ x → x < m + parts t → In x (name_term names m t).made_variables
  made_has names m x (variable y) a b = absurd (omega (arith, a, b))
  made_has names m x (constant v) a b = inl (omega (arith, a, b))
  made_has names m x (made f ts) a b = last_has names m x ts (λ l. all_made_have names m x ts a l) (omega (arith, b))
  made_has names m x (applied p ts) a b = last_has names m x ts (λ l. all_made_have names m x ts a l) (omega (arith, b))

  all_made_have : (names : ℕ → ℕ) (m x : ℕ) (ts : Expressions) → m ≤ x → x < m + parts_all ts → In x (name_terms names m ts).made_variables
  all_made_have names m x no_expressions a b = absurd (omega (arith, a, b))
  all_made_have names m x (expression_then t ts) a b =
      let next = (name_term names m t).next in
      let here = (name_term names m t).made_variables in
      let later = (name_terms names next ts).made_variables in
      ⊎_elim (λ l. in_left x here later (made_has names m x t a l)) (λ l. in_right x here later (all_made_have names next x ts (omega (arith, l, next_is names m t)) (omega (arith, b, next_is names m t))))
      (cases_lt x (m + parts t))

-- how many parts of a term are made variables where the term itself is not
abbrev pub inner : Expression → ℕ
inner (variable x) = 0
inner (constant v) = 0
inner (made f ts) = parts_all ts
inner (applied p ts) = parts_all ts

inner_above : (names : ℕ → ℕ) (m z x : ℕ) (b : Expression) → In x (equate names m z b).made_variables → m ≤ x
inner_above names m z x (variable y) h = absurd h
inner_above names m z x (constant v) h = absurd h
inner_above names m z x (made f ts) h = all_made_above names m x ts h
inner_above names m z x (applied p ts) h = all_made_above names m x ts h

inner_has : (names : ℕ → ℕ) (m z x : ℕ) (b : Expression) → m ≤ x → x < m + inner b → In x (equate names m z b).made_variables
inner_has names m z x (variable y) a l = absurd (omega (arith, a, l))
inner_has names m z x (constant v) a l = absurd (omega (arith, a, l))
inner_has names m z x (made f ts) a l = all_made_have names m x ts a l
inner_has names m z x (applied p ts) a l = all_made_have names m x ts a l

pub one_variable : (names : ℕ → ℕ) (m : ℕ) (t : Expression) → (name_term names m t).variables ≡ the_variable (name_term names m t) ∷ []
one_variable names m (variable x) = refl
one_variable names m (constant v) = refl
one_variable names m (made f ts) = refl
one_variable names m (applied p ts) = refl

-- the values of all parts of a term, for one choice
abbrev mutual
  all_values : Assignment → Assignment → ℕ → Expression → List Val
  all_values s c k (variable x) = []
  all_values s c k (constant v) = v ∷ []
  all_values s c k (made f ts) = all_values_of s c k ts ++ value s c k (made f ts) ∷ []
  all_values s c k (applied p ts) = all_values_of s c k ts ++ value s c k (applied p ts) ∷ []

  pub all_values_of : Assignment → Assignment → ℕ → Expressions → List Val
  all_values_of s c k no_expressions = []
  all_values_of s c k (expression_then t ts) = all_values s c k t ++ all_values_of s c (k + parts t) ts

abbrev pub inner_values : Assignment → Assignment → ℕ → Expression → List Val
inner_values s c k (variable x) = []
inner_values s c k (constant v) = []
inner_values s c k (made f ts) = all_values_of s c k ts
inner_values s c k (applied p ts) = all_values_of s c k ts

mutual
  all_length : (s c : Assignment) (k : ℕ) (t : Expression) → length (all_values s c k t) ≡ parts t
  all_length s c k (variable x) = refl
  all_length s c k (constant v) = refl
  all_length s c k (made f ts) = length-append (all_values_of s c k ts) (value s c k (made f ts) ∷ []) ∙ ap (λ m. m + 1) (all_length_of s c k ts)
  all_length s c k (applied p ts) = length-append (all_values_of s c k ts) (value s c k (applied p ts) ∷ []) ∙ ap (λ m. m + 1) (all_length_of s c k ts)

  all_length_of : (s c : Assignment) (k : ℕ) (ts : Expressions) → length (all_values_of s c k ts) ≡ parts_all ts
  all_length_of s c k no_expressions = refl
  all_length_of s c k (expression_then t ts) = length-append (all_values s c k t) (all_values_of s c (k + parts t) ts) ∙ ap₂ (λ a b. a + b) (all_length s c k t) (all_length_of s c (k + parts t) ts)

pub inner_length : (s c : Assignment) (k : ℕ) (t : Expression) → length (inner_values s c k t) ≡ inner t
inner_length s c k (variable x) = refl
inner_length s c k (constant v) = refl
inner_length s c k (made f ts) = all_length_of s c k ts
inner_length s c k (applied p ts) = all_length_of s c k ts

-- the values of the variables that are made for an equation
abbrev pub equation_values : Assignment → Assignment → Expression → Expression → List Val
equation_values s c (variable x) b = inner_values s c 0 b
equation_values s c a (variable y) = inner_values s c 0 a
equation_values s c a b = all_values s c 0 a ++ inner_values s c (0 + parts a) b

-- the variables from n on have these values
abbrev pub HasValues : Assignment → ℕ → List Val → Type 0
HasValues w n whole = (j : ℕ) (pre post : List Val) (v : Val) → whole ≡ pre ++ v ∷ post → length pre ≡ j → w (n + j) ≡ v

module _ (C : Facts) (names : ℕ → ℕ) (n : ℕ) (s w : Assignment) where
  -- the clause's variables have the values of the variables that stand for them
  abbrev pub Same : List ℕ → Type 0
  Same xs = (x : ℕ) → In x xs → s x ≡ w (names x)

  same_first : (xs ys : List ℕ) → Same (xs ++ ys) → Same xs
  same_first xs ys h x i = h x (in_left x xs ys i)

  same_second : (xs ys : List ℕ) → Same (xs ++ ys) → Same ys
  same_second xs ys h x i = h x (in_right x xs ys i)

  -- true: c chooses the values that the made variables have, up to a number
  module _ (c : Assignment) (bound : ℕ) (agree : (j : ℕ) → j < bound → c j ≡ w (n + j)) where
    mutual
      term_yes : (t : Expression) (k m : ℕ) → m ≡ n + k → k + parts t ≤ bound → Same (variables_in t) → AllFlatYes C w (name_term names m t).goals → (w (the_variable (name_term names m t)) ≡ value s c k t) × Applied C s c k t
      term_yes (variable x) k m e b same y = (sym (same x (inl refl)), tt)
      term_yes (constant v) k m e b same y = (y.0, tt)
      term_yes (made f ts) k m e b same y =
          let r = name_terms names m ts in
          let z = all_split C w r.goals (F.Made r.next f r.variables ∷ []) y in
          let i = terms_yes ts k m e (omega (arith, b)) same z.0 in
          (z.1.0 ∙ ap (λ l. con f (vals l)) i.0, i.1)
      term_yes (applied p ts) k m e b same y =
          let r = name_terms names m ts in
          let z = all_split C w r.goals (F.Call p (r.variables ++ r.next ∷ []) ∷ []) y in
          let i = terms_yes ts k m e (omega (arith, b)) same z.0 in
          let q : n + (k + parts_all ts) ≡ r.next = omega (arith, e, nexts_are names m ts) in
          let top : c (k + parts_all ts) ≡ w r.next = agree (k + parts_all ts) (omega (arith, b)) ∙ ap w q in
          (sym top, (i.1, subst (C.yes p) (map-append w r.variables (r.next ∷ []) ∙ ap₂ (λ l v. l ++ v ∷ []) i.0 (sym top)) z.1.0))

      terms_yes : (ts : Expressions) (k m : ℕ) → m ≡ n + k → k + parts_all ts ≤ bound → Same (variables_in_all ts) → AllFlatYes C w (name_terms names m ts).goals → (map w (name_terms names m ts).variables ≡ values s c k ts) × AllApplied C s c k ts
      terms_yes no_expressions k m e b same y = (refl, tt)
      terms_yes (expression_then t ts) k m e b same y =
          let r = name_term names m t in
          let rs = name_terms names r.next ts in
          let z = all_split C w r.goals rs.goals y in
          let i = term_yes t k m e (omega (arith, b)) (same_first (variables_in t) (variables_in_all ts) same) z.0 in
          let j = terms_yes ts (k + parts t) r.next (omega (arith, e, next_is names m t)) (omega (arith, b)) (same_second (variables_in t) (variables_in_all ts) same) z.1 in
          (ap (λ l. map w (l ++ rs.variables)) (one_variable names m t) ∙ ap₂ (λ v l. v ∷ l) i.0 j.0, (i.1, j.1))

    -- an equation of a variable and a term, whose application has the variable's value
    pub equate_yes : (b : Expression) (k m z : ℕ) → m ≡ n + k → k + parts b ≤ suc bound → Same (variables_in b) → ((p : ℕ) (ts : Expressions) → b ≡ applied p ts → c (k + parts_all ts) ≡ w z) →
        AllFlatYes C w (equate names m z b).goals → (w z ≡ value s c k b) × Applied C s c k b
    equate_yes (variable x) k m z e l same top y = (y.0 ∙ sym (same x (inl refl)), tt)
    equate_yes (constant v) k m z e l same top y = (y.0, tt)
    equate_yes (made f ts) k m z e l same top y =
        let r = name_terms names m ts in
        let q = all_split C w r.goals (F.Made z f r.variables ∷ []) y in
        let i = terms_yes ts k m e (omega (arith, l)) same q.0 in
        (q.1.0 ∙ ap (λ l. con f (vals l)) i.0, i.1)
    equate_yes (applied p ts) k m z e l same top y =
        let r = name_terms names m ts in
        let q = all_split C w r.goals (F.Call p (r.variables ++ z ∷ []) ∷ []) y in
        let i = terms_yes ts k m e (omega (arith, l)) same q.0 in
        let t = top p ts refl in
        (sym t, (i.1, subst (C.yes p) (map-append w r.variables (z ∷ []) ∙ ap₂ (λ l v. l ++ v ∷ []) i.0 (sym t)) q.1.0))

  -- the choice of the made variables' values, and of the value of the variable that the last application stands for
  abbrev pub chosen : ℕ → ℕ → Assignment
  chosen total z j = cond (nat_eq (suc j) total) (w z) (w (n + j))

  pub chosen_made : (total z j : ℕ) → j < total - 1 → chosen total z j ≡ w (n + j)
  chosen_made total z j l = by_test (nat_eq (suc j) total) (eqb-true (suc j) total)
    where
      by_test : (t : Bool) → (t ≡ true → suc j ≡ total) → cond t (w z) (w (n + j)) ≡ w (n + j)
      by_test true e = absurd (omega (arith, e refl, l))
      by_test false e = refl

  pub chosen_last : (total z j : ℕ) → suc j ≡ total → chosen total z j ≡ w z
  chosen_last total z j e = by_test (nat_eq (suc j) total) (eq-eqb (suc j) total e)
    where
      by_test : (t : Bool) → t ≡ true → cond t (w z) (w (n + j)) ≡ w z
      by_test true q = refl
      by_test false q = cc

  -- a call is true where its flat goals are
  pub call_yes : (p : ℕ) (ts : Expressions) → Same (variables_in_all ts) → AllFlatYes C w ((name_terms names n ts).goals ++ F.Call p (name_terms names n ts).variables ∷ []) → (c : Assignment) × AtomYes C s c ts (C.yes p)
  call_yes p ts same y =
      let r = name_terms names n ts in
      let z = all_split C w r.goals (F.Call p r.variables ∷ []) y in
      let i = terms_yes (λ j. w (n + j)) (parts_all ts) (λ j l. refl) ts 0 n (omega arith) (omega arith) same z.0 in
      ((λ j. w (n + j)), (i.1, subst (C.yes p) i.0 z.1.0))

  side_yes : (b : Expression) (z : ℕ) → Same (variables_in b) → AllFlatYes C w (equate names n z b).goals → (w z ≡ value s (chosen (parts b) z) 0 b) × Applied C s (chosen (parts b) z) 0 b
  side_yes b z same y =
      equate_yes (chosen (parts b) z) (parts b - 1) (λ j l. chosen_made (parts b) z j l) b 0 n z (omega arith) (omega arith) same
      (λ p ts e. chosen_last (parts b) z (0 + parts_all ts) (omega (arith, ap parts e))) y

  left_yes : (x : ℕ) (b : Expression) → Same (x ∷ variables_in b) → AllFlatYes C w (equate names n (names x) b).goals → (c : Assignment) × AtomYes C s c (pair (variable x) b) AreEqual
  left_yes x b same y =
      let i = side_yes b (names x) (λ y h. same y (inr h)) y in
      (chosen (parts b) (names x), ((tt, (i.1, tt)), same x (inl refl) ∙ i.0))

  right_yes : (b : Expression) (x : ℕ) → Same (variables_in b ++ x ∷ []) → AllFlatYes C w (equate names n (names x) b).goals → (c : Assignment) × AtomYes C s c (pair b (variable x)) AreEqual
  right_yes b x same y =
      let i = side_yes b (names x) (same_first (variables_in b) (x ∷ []) same) y in
      (chosen (parts b) (names x), ((i.1, (tt, tt)), sym i.0 ∙ sym (same_second (variables_in b) (x ∷ []) same x (inl refl))))

  both_yes : (a b : Expression) → 1 ≤ parts b → Same (variables_in a ++ variables_in b) → AllFlatYes C w ((name_term names n a).goals ++ (equate names (name_term names n a).next (the_variable (name_term names n a)) b).goals) →
      (c : Assignment) × AtomYes C s c (pair a b) AreEqual
  both_yes a b some same y =
      let first = name_term names n a in
      let top = the_variable first in
      let z = all_split C w first.goals (equate names first.next top b).goals y in
      let total = parts a + parts b in
      let c = chosen total top in
      let i = term_yes c (total - 1) (λ j l. chosen_made total top j l) a 0 n (omega arith) (omega (arith, some)) (same_first (variables_in a) (variables_in b) same) z.0 in
      let j =
      equate_yes c (total - 1) (λ j l. chosen_made total top j l) b (0 + parts a) first.next top (omega (arith, next_is names n a)) (omega arith)
      (same_second (variables_in a) (variables_in b) same) (λ p ts e. chosen_last total top (0 + parts a + parts_all ts) (omega (arith, ap parts e))) z.1 in
      (c, ((i.1, (j.1, tt)), sym i.0 ∙ j.0))

  -- an equation is true where its flat goals are
  pub equation_yes : (a b : Expression) → Same (variables_in a ++ variables_in b) → AllFlatYes C w (equation names n a b).goals → (c : Assignment) × AtomYes C s c (pair a b) AreEqual
  equation_yes (variable x) b same y = left_yes x b same y
  equation_yes (constant v) (variable x) same y = right_yes (constant v) x same y
  equation_yes (made f ts) (variable x) same y = right_yes (made f ts) x same y
  equation_yes (applied p ts) (variable x) same y = right_yes (applied p ts) x same y
  equation_yes (constant v) (constant q) same y = both_yes (constant v) (constant q) (omega arith) same y
  equation_yes (constant v) (made g us) same y = both_yes (constant v) (made g us) (omega arith) same y
  equation_yes (constant v) (applied g us) same y = both_yes (constant v) (applied g us) (omega arith) same y
  equation_yes (made f ts) (constant q) same y = both_yes (made f ts) (constant q) (omega arith) same y
  equation_yes (made f ts) (made g us) same y = both_yes (made f ts) (made g us) (omega arith) same y
  equation_yes (made f ts) (applied g us) same y = both_yes (made f ts) (applied g us) (omega arith) same y
  equation_yes (applied p ts) (constant q) same y = both_yes (applied p ts) (constant q) (omega arith) same y
  equation_yes (applied p ts) (made g us) same y = both_yes (applied p ts) (made g us) (omega arith) same y
  equation_yes (applied p ts) (applied g us) same y = both_yes (applied p ts) (applied g us) (omega arith) same y

  -- false: the made variables have the values of the parts, for one choice, which stand in one list
  module _ (c : Assignment) (whole : List Val) (at : HasValues w n whole) where
    last_at : (ts : Expressions) (k m : ℕ) (pre post : List Val) (v : Val) → m ≡ n + k → whole ≡ pre ++ ((all_values_of s c k ts ++ v ∷ []) ++ post) → length pre ≡ k → w (name_terms names m ts).next ≡ v
    last_at ts k m pre post v e q l =
        let here : (name_terms names m ts).next ≡ n + (k + parts_all ts) = omega (arith, e, nexts_are names m ts) in
        ap w here
        ∙ at (k + parts_all ts) (pre ++ all_values_of s c k ts) post v
        (q ∙ ap (λ l. pre ++ l) (append_assoc (all_values_of s c k ts) (v ∷ []) post) ∙ sym (append_assoc pre (all_values_of s c k ts) (v ∷ post)))
        (length-append pre (all_values_of s c k ts) ∙ ap₂ (λ a b. a + b) l (all_length_of s c k ts))

    term_at : (t : Expression) (k m : ℕ) (pre post : List Val) → m ≡ n + k → Same (variables_in t) → whole ≡ pre ++ (all_values s c k t ++ post) → length pre ≡ k → w (the_variable (name_term names m t)) ≡ value s c k t
    term_at (variable x) k m pre post e same q l = sym (same x (inl refl))
    term_at (constant v) k m pre post e same q l = ap w e ∙ at k pre post v q l
    term_at (made f ts) k m pre post e same q l = last_at ts k m pre post (value s c k (made f ts)) e q l
    term_at (applied p ts) k m pre post e same q l = last_at ts k m pre post (value s c k (applied p ts)) e q l

    -- the list goes on behind the values of a first term
    after_first : (t : Expression) (ts : Expressions) (k : ℕ) (pre post : List Val) → whole ≡ pre ++ ((all_values s c k t ++ all_values_of s c (k + parts t) ts) ++ post) → whole ≡ pre ++ (all_values s c k t ++ (all_values_of s c (k + parts t) ts ++ post))
    after_first t ts k pre post q = q ∙ ap (λ l. pre ++ l) (append_assoc (all_values s c k t) (all_values_of s c (k + parts t) ts) post)

    regrouped : (t : Expression) (k : ℕ) (pre rest : List Val) → whole ≡ pre ++ (all_values s c k t ++ rest) → whole ≡ (pre ++ all_values s c k t) ++ rest
    regrouped t k pre rest q = q ∙ sym (append_assoc pre (all_values s c k t) rest)

    longer : (t : Expression) (k : ℕ) (pre : List Val) → length pre ≡ k → length (pre ++ all_values s c k t) ≡ k + parts t
    longer t k pre l = length-append pre (all_values s c k t) ∙ ap₂ (λ a b. a + b) l (all_length s c k t)

    terms_at : (ts : Expressions) (k m : ℕ) (pre post : List Val) → m ≡ n + k → Same (variables_in_all ts) → whole ≡ pre ++ (all_values_of s c k ts ++ post) → length pre ≡ k → map w (name_terms names m ts).variables ≡ values s c k ts
    terms_at no_expressions k m pre post e same q l = refl
    terms_at (expression_then t ts) k m pre post e same q l =
        let r = name_term names m t in
        let rs = name_terms names r.next ts in
        let q' = after_first t ts k pre post q in
        ap (λ l. map w (l ++ rs.variables)) (one_variable names m t)
        ∙ ap₂ (λ v l. v ∷ l) (term_at t k m pre (all_values_of s c (k + parts t) ts ++ post) e (same_first (variables_in t) (variables_in_all ts) same) q' l)
        (terms_at ts (k + parts t) r.next (pre ++ all_values s c k t) post (omega (arith, e, next_is names m t)) (same_second (variables_in t) (variables_in_all ts) same) (regrouped t k pre (all_values_of s c (k + parts t) ts ++ post) q') (longer t k pre l))

    mutual
      term_no : (t : Expression) (k m : ℕ) (pre post : List Val) → m ≡ n + k → Same (variables_in t) → whole ≡ pre ++ (all_values s c k t ++ post) → length pre ≡ k → OneFlatNo C w (name_term names m t).goals → Misapplied C s c k t
      term_no (variable x) k m pre post e same q l h = h
      term_no (constant v) k m pre post e same q l h = ⊎_elim (λ d. absurd (d (ap w e ∙ at k pre post v q l))) (λ z. absurd z) h
      term_no (made f ts) k m pre post e same q l h =
          let r = name_terms names m ts in
          let v = value s c k (made f ts) in
          let q' = q ∙ ap (λ l. pre ++ l) (append_assoc (all_values_of s c k ts) (v ∷ []) post) in
          ⊎_elim (λ z. terms_no ts k m pre (v ∷ post) e same q' l z)
          (λ z. ⊎_elim (λ d. absurd (d (last_at ts k m pre post v e q l ∙ ap (λ l. con f (vals l)) (sym (terms_at ts k m pre (v ∷ post) e same q' l))))) (λ a. absurd a) z)
          (one_split C w r.goals (F.Made r.next f r.variables ∷ []) h)
      term_no (applied p ts) k m pre post e same q l h =
          let r = name_terms names m ts in
          let v = value s c k (applied p ts) in
          let q' = q ∙ ap (λ l. pre ++ l) (append_assoc (all_values_of s c k ts) (v ∷ []) post) in
          ⊎_elim (λ z. inl (terms_no ts k m pre (v ∷ post) e same q' l z))
          (λ z. ⊎_elim (λ d. inr (subst (C.no p) (map-append w r.variables (r.next ∷ []) ∙ ap₂ (λ l v. l ++ v ∷ []) (terms_at ts k m pre (v ∷ post) e same q' l) (last_at ts k m pre post v e q l)) d)) (λ a. absurd a) z)
          (one_split C w r.goals (F.Call p (r.variables ++ r.next ∷ []) ∷ []) h)

      terms_no : (ts : Expressions) (k m : ℕ) (pre post : List Val) → m ≡ n + k → Same (variables_in_all ts) → whole ≡ pre ++ (all_values_of s c k ts ++ post) → length pre ≡ k → OneFlatNo C w (name_terms names m ts).goals → OneMisapplied C s c k ts
      terms_no no_expressions k m pre post e same q l h = h
      terms_no (expression_then t ts) k m pre post e same q l h =
          let r = name_term names m t in
          let rs = name_terms names r.next ts in
          let q' = after_first t ts k pre post q in
          ⊎_elim
          (λ z. inl (term_no t k m pre (all_values_of s c (k + parts t) ts ++ post) e (same_first (variables_in t) (variables_in_all ts) same) q' l z))
          (λ z. inr (terms_no ts (k + parts t) r.next (pre ++ all_values s c k t) post (omega (arith, e, next_is names m t)) (same_second (variables_in t) (variables_in_all ts) same) (regrouped t k pre (all_values_of s c (k + parts t) ts ++ post) q') (longer t k pre l) z))
          (one_split C w r.goals rs.goals h)

    pub equate_no : (b : Expression) (k m z : ℕ) (pre post : List Val) → m ≡ n + k → Same (variables_in b) → whole ≡ pre ++ (inner_values s c k b ++ post) → length pre ≡ k → OneFlatNo C w (equate names m z b).goals → Misapplied C s c k b ⊎ (w z ≢ value s c k b)
    equate_no (variable x) k m z pre post e same q l h = ⊎_elim (λ d. inr (λ a. d (a ∙ same x (inl refl)))) (λ a. absurd a) h
    equate_no (constant v) k m z pre post e same q l h = ⊎_elim (λ d. inr d) (λ a. absurd a) h
    equate_no (made f ts) k m z pre post e same q l h =
        let r = name_terms names m ts in
        ⊎_elim (λ y. inl (terms_no ts k m pre post e same q l y))
        (λ y. ⊎_elim (λ d. inr (λ a. d (a ∙ ap (λ l. con f (vals l)) (sym (terms_at ts k m pre post e same q l))))) (λ a. absurd a) y)
        (one_split C w r.goals (F.Made z f r.variables ∷ []) h)
    equate_no (applied p ts) k m z pre post e same q l h =
        let r = name_terms names m ts in
        ⊎_elim (λ y. inl (inl (terms_no ts k m pre post e same q l y)))
        (λ y. ⊎_elim
        (λ d. ⊎_elim
        (λ a. inl (inr (subst (C.no p) (map-append w r.variables (z ∷ []) ∙ ap₂ (λ l v. l ++ v ∷ []) (terms_at ts k m pre post e same q l) a) d))) (λ a. inr a) (same_or_not (w z) (c (k + parts_all ts)))) (λ a. absurd a) y)
        (one_split C w r.goals (F.Call p (r.variables ++ z ∷ []) ∷ []) h)

  -- a call is false where one of its flat goals is
  pub call_no : (c : Assignment) (p : ℕ) (ts : Expressions) → Same (variables_in_all ts) → HasValues w n (all_values_of s c 0 ts) → OneFlatNo C w ((name_terms names n ts).goals ++ F.Call p (name_terms names n ts).variables ∷ []) → AtomNo C s c ts (C.no p)
  call_no c p ts same at h =
      let r = name_terms names n ts in
      let whole = all_values_of s c 0 ts in
      let e : whole ≡ [] ++ (whole ++ []) = sym (append-nil whole) in
      ⊎_elim (λ z. inl (terms_no c whole at ts 0 n [] [] (omega arith) same e refl z))
      (λ z. ⊎_elim (λ d. inr (subst (C.no p) (terms_at c whole at ts 0 n [] [] (omega arith) same e refl) d)) (λ a. absurd a) z)
      (one_split C w r.goals (F.Call p r.variables ∷ []) h)

  side_no : (c : Assignment) (b : Expression) (z : ℕ) → Same (variables_in b) → HasValues w n (inner_values s c 0 b) → OneFlatNo C w (equate names n z b).goals → Misapplied C s c 0 b ⊎ (w z ≢ value s c 0 b)
  side_no c b z same at h = equate_no c (inner_values s c 0 b) at b 0 n z [] [] (omega arith) same (sym (append-nil (inner_values s c 0 b))) refl h

  left_no : (c : Assignment) (x : ℕ) (b : Expression) → Same (x ∷ variables_in b) → HasValues w n (inner_values s c 0 b) → OneFlatNo C w (equate names n (names x) b).goals → AtomNo C s c (pair (variable x) b) Differ
  left_no c x b same at h = ⊎_elim (λ m. inl (inr (inl m))) (λ d. inr (λ e. d (sym (same x (inl refl)) ∙ e))) (side_no c b (names x) (λ y i. same y (inr i)) at h)

  right_no : (c : Assignment) (b : Expression) (x : ℕ) → Same (variables_in b ++ x ∷ []) → HasValues w n (inner_values s c 0 b) → OneFlatNo C w (equate names n (names x) b).goals → AtomNo C s c (pair b (variable x)) Differ
  right_no c b x same at h =
      ⊎_elim (λ m. inl (inl m)) (λ d. inr (λ e. d (sym (same_second (variables_in b) (x ∷ []) same x (inl refl)) ∙ sym e)))
      (side_no c b (names x) (same_first (variables_in b) (x ∷ []) same) at h)

  both_no : (c : Assignment) (a b : Expression) → Same (variables_in a ++ variables_in b) → HasValues w n (all_values s c 0 a ++ inner_values s c (0 + parts a) b) →
      OneFlatNo C w ((name_term names n a).goals ++ (equate names (name_term names n a).next (the_variable (name_term names n a)) b).goals) → AtomNo C s c (pair a b) Differ
  both_no c a b same at h =
      let first = name_term names n a in
      let before = all_values s c 0 a in
      let after = inner_values s c (0 + parts a) b in
      let whole = before ++ after in
      let same_a = same_first (variables_in a) (variables_in b) same in
      let va = term_at c whole at a 0 n [] after (omega arith) same_a refl refl in
      ⊎_elim
      (λ z. inl (inl (term_no c whole at a 0 n [] after (omega arith) same_a refl refl z)))
      (λ z. ⊎_elim (λ m. inl (inr (inl m))) (λ d. inr (λ e. d (va ∙ e)))
      (equate_no c whole at b (0 + parts a) first.next (the_variable first) before [] (omega (arith, next_is names n a)) (same_second (variables_in a) (variables_in b) same)
      (ap (λ l. before ++ l) (sym (append-nil after))) (all_length s c 0 a ∙ omega arith) z))
      (one_split C w first.goals (equate names first.next (the_variable first) b).goals h)

  -- an equation is false where one of its flat goals is
  pub equation_no : (c : Assignment) (a b : Expression) → Same (variables_in a ++ variables_in b) → HasValues w n (equation_values s c a b) → OneFlatNo C w (equation names n a b).goals → AtomNo C s c (pair a b) Differ
  equation_no c (variable x) b same at h = left_no c x b same at h
  equation_no c (constant v) (variable x) same at h = right_no c (constant v) x same at h
  equation_no c (made f ts) (variable x) same at h = right_no c (made f ts) x same at h
  equation_no c (applied p ts) (variable x) same at h = right_no c (applied p ts) x same at h
  equation_no c (constant v) (constant q) same at h = both_no c (constant v) (constant q) same at h
  equation_no c (constant v) (made g us) same at h = both_no c (constant v) (made g us) same at h
  equation_no c (constant v) (applied g us) same at h = both_no c (constant v) (applied g us) same at h
  equation_no c (made f ts) (constant q) same at h = both_no c (made f ts) (constant q) same at h
  equation_no c (made f ts) (made g us) same at h = both_no c (made f ts) (made g us) same at h
  equation_no c (made f ts) (applied g us) same at h = both_no c (made f ts) (applied g us) same at h
  equation_no c (applied p ts) (constant q) same at h = both_no c (applied p ts) (constant q) same at h
  equation_no c (applied p ts) (made g us) same at h = both_no c (applied p ts) (made g us) same at h
  equation_no c (applied p ts) (applied g us) same at h = both_no c (applied p ts) (applied g us) same at h

-- the variables that are made for a call, and for an equation, by their values
pub call_next : (names : ℕ → ℕ) (m : ℕ) (s c : Assignment) (ts : Expressions) → (name_terms names m ts).next ≡ m + length (all_values_of s c 0 ts)
call_next names m s c ts = omega (arith, nexts_are names m ts, all_length_of s c 0 ts)

pub call_above : (names : ℕ → ℕ) (m x : ℕ) (ts : Expressions) → In x (name_terms names m ts).made_variables → m ≤ x
call_above names m x ts h = all_made_above names m x ts h

pub call_has : (names : ℕ → ℕ) (m x : ℕ) (s c : Assignment) (ts : Expressions) → m ≤ x → x < m + length (all_values_of s c 0 ts) → In x (name_terms names m ts).made_variables
call_has names m x s c ts a l = all_made_have names m x ts a (omega (arith, l, all_length_of s c 0 ts))

pub inner_next : (names : ℕ → ℕ) (m z : ℕ) (b : Expression) → (equate names m z b).next ≡ m + inner b
inner_next names m z (variable x) = omega arith
inner_next names m z (constant v) = omega arith
inner_next names m z (made f ts) = nexts_are names m ts
inner_next names m z (applied p ts) = nexts_are names m ts

-- what is said of the variables that are made for an equation
pub record Numbered (r : Conjuncts) (m : ℕ) (whole : List Val) : Type 0 where
  pub next : r.next ≡ m + length whole
  pub above : (x : ℕ) → In x r.made_variables → m ≤ x
  pub has : (x : ℕ) → m ≤ x → x < m + length whole → In x r.made_variables

side_numbered : (names : ℕ → ℕ) (m z : ℕ) (s c : Assignment) (b : Expression) → Numbered (equate names m z b) m (inner_values s c 0 b)
side_numbered names m z s c b =
    record {
      next = omega (arith, inner_next names m z b, inner_length s c 0 b);
      above = λ x h. inner_above names m z x b h;
      has = λ x a l. inner_has names m z x b a (omega (arith, l, inner_length s c 0 b));
    }

both_numbered : (names : ℕ → ℕ) (m : ℕ) (s c : Assignment) (a b : Expression) →
    Numbered (let r = name_term names m a in before r.goals r.made_variables (equate names r.next (the_variable r) b)) m (all_values s c 0 a ++ inner_values s c (0 + parts a) b)
both_numbered names m s c a b =
    let first = name_term names m a in
    let z = the_variable first in
    let second = equate names first.next z b in
    let front = all_values s c 0 a in
    let rest = inner_values s c (0 + parts a) b in
    let long : length (front ++ rest) ≡ parts a + inner b = length-append front rest ∙ ap₂ (λ k l. k + l) (all_length s c 0 a) (inner_length s c (0 + parts a) b) in
    record {
      next = omega (arith, inner_next names first.next z b, next_is names m a, long);
      above = λ x h.
          ⊎_elim (λ i. made_above names m x a i) (λ i. omega (arith, next_is names m a, inner_above names first.next z x b i)) (in_either x first.made_variables second.made_variables h);
      has = λ x l h.
          ⊎_elim (λ i. in_left x first.made_variables second.made_variables (made_has names m x a l i))
          (λ i. in_right x first.made_variables second.made_variables (inner_has names first.next z x b (omega (arith, i, next_is names m a)) (omega (arith, h, long, next_is names m a))))
          (cases_lt x (m + parts a));
    }

pub equation_numbered : (names : ℕ → ℕ) (m : ℕ) (s c : Assignment) (a b : Expression) → Numbered (equation names m a b) m (equation_values s c a b)
equation_numbered names m s c (variable x) b = side_numbered names m (names x) s c b
equation_numbered names m s c (constant v) (variable x) = side_numbered names m (names x) s c (constant v)
equation_numbered names m s c (made f ts) (variable x) = side_numbered names m (names x) s c (made f ts)
equation_numbered names m s c (applied p ts) (variable x) = side_numbered names m (names x) s c (applied p ts)
equation_numbered names m s c (constant v) (constant q) = both_numbered names m s c (constant v) (constant q)
equation_numbered names m s c (constant v) (made g us) = both_numbered names m s c (constant v) (made g us)
equation_numbered names m s c (constant v) (applied g us) = both_numbered names m s c (constant v) (applied g us)
equation_numbered names m s c (made f ts) (constant q) = both_numbered names m s c (made f ts) (constant q)
equation_numbered names m s c (made f ts) (made g us) = both_numbered names m s c (made f ts) (made g us)
equation_numbered names m s c (made f ts) (applied g us) = both_numbered names m s c (made f ts) (applied g us)
equation_numbered names m s c (applied p ts) (constant q) = both_numbered names m s c (applied p ts) (constant q)
equation_numbered names m s c (applied p ts) (made g us) = both_numbered names m s c (applied p ts) (made g us)
equation_numbered names m s c (applied p ts) (applied g us) = both_numbered names m s c (applied p ts) (applied g us)

-- u, but for the variables from n on that the values of the list are put into
module _ (n : ℕ) (u : Assignment) (whole : List Val) where
  abbrev pub put_in : Assignment
  put_in x = cond (nat_lt x n) (u x) (get_or whole (x - n) (u x))

  picked : (t : Bool) (v w : Val) → t ≡ true → cond t v w ≡ v
  picked true v w e = refl
  picked false v w e = cc

  other : (t : Bool) (v w : Val) → t ≡ false → cond t v w ≡ w
  other true v w e = cc
  other false v w e = refl

  pub put_low : (x : ℕ) → x < n → put_in x ≡ u x
  put_low x l = picked (nat_lt x n) (u x) (get_or whole (x - n) (u x)) (lt-ltb x n l)

  pub put_high : (x : ℕ) → n + length whole ≤ x → put_in x ≡ u x
  put_high x l = other (nat_lt x n) (u x) (get_or whole (x - n) (u x)) (le-ltb x n (omega (arith, l))) ∙ get_or-eq_default whole (u x) (omega (arith, l))

  pub put_at : (j : ℕ) (pre post : List Val) (v : Val) → whole ≡ pre ++ v ∷ post → length pre ≡ j → put_in (n + j) ≡ v
  put_at j pre post v e l =
      other (nat_lt (n + j) n) (u (n + j)) (get_or whole (n + j - n) (u (n + j))) (le-ltb (n + j) n (omega arith))
      ∙ ap (λ i. get_or whole i (u (n + j))) (omega arith)
      ∙ ap (λ l. get_or l j (u (n + j))) e
      ∙ ap (λ i. get_or (pre ++ v ∷ post) i (u (n + j))) (sym l)
      ∙ get_or-append_seam pre v post (u (n + j))

  -- it differs on made variables at most
  pub put_off : (vs : List ℕ) → ((x : ℕ) → n ≤ x → x < n + length whole → In x vs) → SameOff vs u put_in
  put_off vs has x out = ⊎_elim (λ l. put_low x l) (λ a. ⊎_elim (λ b. absurd (out (has x a b))) (λ b. put_high x b) (cases_lt x (n + length whole))) (cases_lt x n)
