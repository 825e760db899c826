-- Naming a term's arguments one after another, and then the term.
use Rattle.std.proofs.Common.{◌≡◌, ℕ, ◌+◌, List, [], ◌∷◌, ◌++◌, map, length, refl, sym, ap, ap₂, ◌∙◌, append_assoc, append-nil, arith}
use Rattle.std.proofs.lemmas.List.{map-append}
use Rattle.mc_program.specs.Values.{Val}
use Rattle.mc_program.specs.PlainPrograms.{plain_expression}
use Rattle.mc_program.specs.declared.expr.Expr.{Expr}
use Rattle.mc_program.specs.Programs.{Expression, variable, constant, made, applied, Expressions, expression_then, expressions}
use Rattle.mc_model.specs.Flat as F
use Rattle.mc_model.specs.Flat.{Flat_goal}
use Rattle.mc_accepted.specs.Normal.{Conjuncts, Named_terms, the_variable, name_term, name_terms}
use Rattle.mc_goals.specs.declared.building.Head.{Head}
use Rattle.mc_goals.specs.declared.building.Head.TheVariants as H
use Rattle.mc_goals.specs.declared.terms.Front.{Front}
use Rattle.mc_goals.specs.code.Naming.{followed, with_variable, with_goal, goal_over, added, Named, NamedAll}

abbrev pub joined : Named_terms → Named_terms → Named_terms
joined r s =
    record { variables = r.variables ++ s.variables; goals = r.goals ++ s.goals; made_variables = r.made_variables ++ s.made_variables; next = s.next }

abbrev pub none_named : ℕ → Named_terms
none_named n = record { variables = []; goals = []; made_variables = []; next = n }

joined-assoc : (r s t : Named_terms) → joined (joined r s) t ≡ joined r (joined s t)
joined-assoc r s t = λ i. record {
  variables = append_assoc r.variables s.variables t.variables i;
  goals = append_assoc r.goals s.goals t.goals i;
  made_variables = append_assoc r.made_variables s.made_variables t.made_variables i;
  next = t.next;
}

joined-none : (r : Named_terms) → joined r (none_named r.next) ≡ r
joined-none r = λ i. record {
  variables = append-nil r.variables i;
  goals = append-nil r.goals i;
  made_variables = append-nil r.made_variables i;
  next = r.next;
}

pub followed-assoc : (r s t : Conjuncts) → followed (followed r s) t ≡ followed r (followed s t)
followed-assoc r s t = λ i. record {
  goals = append_assoc r.goals s.goals t.goals i;
  made_variables = append_assoc r.made_variables s.made_variables t.made_variables i;
  next = t.next;
}

-- nothing more
abbrev pub nothing : ℕ → Conjuncts
nothing n = record { goals = []; made_variables = []; next = n }

pub followed-nothing : (r : Conjuncts) → followed r (nothing r.next) ≡ r
followed-nothing r = λ i. record {
  goals = append-nil r.goals i;
  made_variables = append-nil r.made_variables i;
  next = r.next;
}

-- a term over arguments
abbrev pub headed : Head → Expressions → Expression
headed (H.Con s) ts = made s ts
headed (H.Apply f) ts = applied f ts

module _ (names : ℕ → ℕ) where
  pub name_terms-append : (n : ℕ) (xs ys : List Expression) →
      name_terms names n (expressions (xs ++ ys)) ≡ joined (name_terms names n (expressions xs)) (name_terms names (name_terms names n (expressions xs)).next (expressions ys))
  name_terms-append n [] ys = refl
  name_terms-append n (x ∷ xs) ys =
      let r = name_term names n x in
      let rs = name_terms names r.next (expressions xs) in
      ap (joined r) (name_terms-append r.next xs ys) ∙ sym (joined-assoc r rs (name_terms names rs.next (expressions ys)))

  pub one_variable : (n : ℕ) (t : Expression) → (name_term names n t).variables ≡ the_variable (name_term names n t) ∷ []
  one_variable n (variable v) = refl
  one_variable n (constant c) = refl
  one_variable n (made f ts) = refl
  one_variable n (applied f ts) = refl

  -- what naming a term leaves, with its variable
  abbrev pub run : Conjuncts → Expression → Conjuncts × ℕ
  run s t = (followed s (added (name_term names s.next t)), the_variable (name_term names s.next t))

  -- the goal over named arguments is put at the end
  abbrev pub over : Head → Conjuncts → Named_terms → Conjuncts × ℕ
  over h s r = (with_goal (goal_over h r.next r.variables) (with_variable (followed s (added r))), r.next)

  pub run_over : (h : Head) (s : Conjuncts) (ts : Expressions) → run s (headed h ts) ≡ over h s (name_terms names s.next ts)
  run_over (H.Con f) s ts =
      let r = name_terms names s.next ts in
      λ i. (
        record {
          goals = sym (append_assoc s.goals r.goals (F.Made r.next f r.variables ∷ [])) i;
          made_variables = sym (append_assoc s.made_variables r.made_variables (r.next ∷ [])) i;
          next = r.next + 1;
        },
        r.next,
      )
  run_over (H.Apply f) s ts =
      let r = name_terms names s.next ts in
      λ i. (
        record {
          goals = sym (append_assoc s.goals r.goals (F.Call f (r.variables ++ r.next ∷ []) ∷ [])) i;
          made_variables = sym (append_assoc s.made_variables r.made_variables (r.next ∷ [])) i;
          next = r.next + 1;
        },
        r.next,
      )

  -- a head over named arguments, around the last one
  abbrev pub closed : Head → List ℕ → Conjuncts × ℕ → Conjuncts × ℕ
  closed h vs p = (with_goal (goal_over h p.0.next (vs ++ p.1 ∷ [])) (with_variable p.0), p.0.next)

  pub run_closed : (h : Head) (s s' : Conjuncts) (xs : List Expression) (y : Expression) (vs : List ℕ) → NamedAll names s s' (expressions xs) vs → run s (headed h (expressions (xs ++ y ∷ []))) ≡ closed h vs (run s' y)
  run_closed h s s' xs y vs is =
      let r = name_terms names s.next (expressions xs) in
      let q = name_term names r.next y in
      let one : joined q (none_named q.next) ≡ record q { variables = the_variable q ∷ [] } = joined-none q ∙ (λ i. record q { variables = one_variable r.next y i }) in
      run_over h s (expressions (xs ++ y ∷ []))
      ∙ ap (over h s) (name_terms-append s.next xs (y ∷ []) ∙ ap (joined r) one)
      ∙ (λ i. (with_goal (goal_over h q.next (r.variables ++ the_variable q ∷ [])) (with_variable (sym (followed-assoc s (added r) (added q)) i)), q.next))
      ∙ ap₂ (λ ws p. closed h ws (run p y)) (sym is.0) (sym is.1)

  -- the next of several terms is named
  pub next_variables : (s s' : Conjuncts) (t : Expression) (ts : Expressions) (vs ws : List ℕ) (v : ℕ) → Named names s s' t v →
      vs ++ (name_terms names s.next (expression_then t ts)).variables ≡ ws → (vs ++ v ∷ []) ++ (name_terms names s'.next ts).variables ≡ ws
  next_variables s s' t ts vs ws v is h =
      let r = name_term names s.next t in
      let rs = name_terms names r.next ts in
      ap₂ (λ x (p : Conjuncts). (vs ++ x ∷ []) ++ (name_terms names p.next ts).variables) is.0 is.1
      ∙ append_assoc vs (the_variable r ∷ []) rs.variables
      ∙ ap (λ l. vs ++ (l ++ rs.variables)) (sym (one_variable s.next t))
      ∙ h

  pub next_held : (s s' u : Conjuncts) (t : Expression) (ts : Expressions) (v : ℕ) → Named names s s' t v →
      followed s (added (name_terms names s.next (expression_then t ts))) ≡ u → followed s' (added (name_terms names s'.next ts)) ≡ u
  next_held s s' u t ts v is h =
      let r = name_term names s.next t in
      let rs = name_terms names r.next ts in
      ap (λ (p : Conjuncts). followed p (added (name_terms names p.next ts))) is.1 ∙ followed-assoc s (added r) (added rs) ∙ h

-- no elements
pub no_elements : {A : Type 0} (xs : List A) → length xs ≡ 0 → xs ≡ []
no_elements [] e = refl
no_elements (x ∷ xs) e = absurd (omega (arith, e))

-- a term without arguments is named, as are a variable and a constant
module _ (names : ℕ → ℕ) where
  pub leaf_variable : (s : Conjuncts) (t : Expression) (v x : ℕ) → t ≡ variable v → x ≡ names v → (s, x) ≡ run names s t
  leaf_variable s t v x is e = ap (λ y. (s, y)) e ∙ ap (λ (p : Conjuncts). (p, names v)) (sym (followed-nothing s)) ∙ ap (run names s) (sym is)

  pub leaf_constant : (s s' : Conjuncts) (t : Expression) (c : Val) (x : ℕ) → t ≡ constant c → s' ≡ with_goal (F.Is s.next c) (with_variable s) → x ≡ s.next → (s', x) ≡ run names s t
  leaf_constant s s' t c x is now e = ap₂ (λ (p : Conjuncts) (y : ℕ). (p, y)) now e ∙ ap (run names s) (sym is)

  pub leaf_head : (h : Head) (s s' : Conjuncts) (t : Expression) (args : List Expr) (vs : List ℕ) (x : ℕ) → t ≡ headed h (expressions (map plain_expression args)) → length args ≡ 0 → vs ≡ []
      → s' ≡ with_goal (goal_over h s.next vs) (with_variable s) → x ≡ s.next → (s', x) ≡ run names s t
  leaf_head h s s' t args vs x is none empty now e =
      ap₂ (λ (p : Conjuncts) (y : ℕ). (p, y)) now e
      ∙ ap (λ ws. (with_goal (goal_over h s.next ws) (with_variable s), s.next)) empty
      ∙ ap (λ p. (with_goal (goal_over h s.next []) (with_variable p), s.next)) (sym (followed-nothing s))
      ∙ sym (run_over names h s (expressions []))
      ∙ ap (λ (es : List Expr). run names s (headed h (expressions (map plain_expression es)))) (sym (no_elements args none))
      ∙ ap (run names s) (sym is)

  -- a term over arguments, the last of which is named last
  pub front_named : (h : Head) (s s' : Conjuncts) (t : Expression) (args front : List Expr) (last : Expr) (vs : List ℕ) → t ≡ headed h (expressions (map plain_expression args)) → args ≡ front ++ last ∷ []
      → NamedAll names s s' (expressions (map plain_expression front)) vs → run names s t ≡ closed names h vs (run names s' (plain_expression last))
  front_named h s s' t args front last vs is split named =
      ap (run names s) (is ∙ ap (λ (es : List Expr). headed h (expressions (map plain_expression es))) split ∙ ap (λ es. headed h (expressions es)) (map-append plain_expression front (last ∷ [])))
      ∙ run_closed names h s s' (map plain_expression front) (plain_expression last) vs named

-- fronts around what is named last
abbrev pub over_front : Front → Conjuncts × ℕ → Conjuncts × ℕ
over_front f p = closed (λ v. v) f.head f.args.items p
