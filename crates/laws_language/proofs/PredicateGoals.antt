-- The one normal goal of a predicate says what its clauses say.
use Rattle.std.proofs.Common.{◌≡◌, inl, inr, ℕ, ◌+◌, ◌<◌, ◌≤◌, List, [], ◌∷◌, ◌++◌, length, refl, sym, ap, ◌∙◌, subst, arith, ⊎_elim}
use Rattle.mc_program.specs.Values.{Val}
use Rattle.mc_program.specs.Programs.{expressions, ClauseForm}
use Rattle.mc_model.specs.Truth.{Assignment, Facts, Choice, Yes, No, at_arguments, OneNoBy, equated, SomeClause, NoClause, stage}
use Rattle.mc_model.specs.Flat.{Flat_goal, FlatYes, FlatNo}
use Rattle.mc_accepted.specs.Normal.{conjunction, conjuncts_of, named_by_quantifiers, other_variables, names_in, head_equations, clause_goal, clause_goals, one_or_either}
use Rattle.mc_accepted.specs.Scope.{occurring, variables_in_all}
use Rattle.laws_language.specs.FlatLaws.{Numbers}
use Rattle.mc_accepted.specs.Fits.{HeadsHave}
use Rattle.laws_language.specs.PredicateLaws.{PredicatesCarry}
use Rattle.laws_language.proofs.FlatGoals.{in_left, all_split, one_split, conjunction_yes, conjunction_no}
use Rattle.laws_language.proofs.FlatWhole.{OneFlatYes, AllFlatNo, disjuncts_yes, disjuncts_no, goal_next, goal_above, renamed, renamed_off, renamed_at, in_map, written, written_off, fits_same, written_fits, goal_yes, goal_no}
use Rattle.laws_language.proofs.ClauseNumbers.{clause_variables, has_number, clause_numbers, other_is_variable, other_above, place_number, body_uses}
use Rattle.laws_language.proofs.HeadEquations.{HaveFrom, have_from, mapped_from, have_same, listed, listed_have, AllMeet, met, head_yes, head_no, body_no, meet_or_not, head_next, head_written, written_low, written_high, written_fit}
use Rattle.mc_model.specs.Lists.{In}

module _ (C : Facts) (ws : List Val) (n : ℕ) (c : ClauseForm) (as_long : length ws ≡ length c.head) (below : length c.head ≤ n) where
  abbrev names : ℕ → ℕ
  names = names_in n c

  abbrev first_made : ℕ
  first_made = n + length (other_variables c)

  abbrev body_first : ℕ
  body_first = (head_equations names c.head first_made 0 c.head).next

  numbers : Numbers names (clause_variables c) first_made
  numbers = clause_numbers n c below

  made_above : first_made ≤ body_first
  made_above = head_next names c.head first_made 0 c.head

  -- an answer of the clause's goal makes the clause true of the head's values
  clause_yes : (u : Assignment) → HaveFrom 0 ws u → FlatYes C (conjunction (clause_goal n c).goals) u → (s : Assignment) × Yes C (at_arguments ws c) s
  clause_yes u has y =
      let s : Assignment = λ x. u (names x) in
      let equations = (head_equations names c.head first_made 0 c.head).goals in
      let body = conjuncts_of names body_first c.body in
      let z = all_split C u equations body.goals (conjunction_yes C u (equations ++ body.goals) y) in (
        s,
        head_yes C names s u c.head (place_number n c) c.head ws first_made 0 0 c.body as_long (omega (arith, below)) has (λ x i. refl) z.0
            (λ j. goal_yes C names (clause_variables c) first_made numbers c.body (body_uses c) j body_first s u made_above (λ x i. refl) z.1),
      )

  -- where the head's arguments that are variables have the values of the head variables, the values of the others and of
  -- the parts are put beside them
  module _ (d : Choice) (s : Assignment) (all : AllMeet s ws c.head) where
    abbrev with_others : Assignment
    with_others = renamed C names (clause_variables c) first_made numbers (other_variables c) s (listed ws)

    abbrev with_body : Assignment
    with_body = written C names (clause_variables c) first_made numbers d (length c.head) body_first c.body s with_others

    abbrev with_all : Assignment
    with_all = head_written names c.head d s 0 first_made 0 c.head with_body

    body_kept : (x : ℕ) → x < body_first → with_body x ≡ with_others x
    body_kept x l =
        written_off C names (clause_variables c) first_made numbers d (length c.head) body_first c.body s with_others x (λ h. omega (arith, l, goal_above names body_first x c.body h))

    others_kept : (x : ℕ) → x < first_made → with_all x ≡ with_others x
    others_kept x l = written_low names c.head d s 0 first_made 0 c.head with_body x l ∙ body_kept x (omega (arith, l, made_above))

    head_kept : (x : ℕ) → x < length ws → with_all x ≡ listed ws x
    head_kept x l =
        others_kept x (omega (arith, l, as_long, below))
        ∙ renamed_off C names (clause_variables c) first_made numbers (other_variables c) s (listed ws) x
        (λ h. let r = in_map names x (other_variables c) h in omega (arith, l, as_long, below, r.2, other_above n c r.0 r.1))

    has_head : HaveFrom 0 ws with_all
    has_head = have_same 0 ws (listed ws) with_all (λ x l. head_kept x (omega (arith, l))) (listed_have ws)

    agrees : (x : ℕ) → In x (clause_variables c) → s x ≡ with_all (names x)
    agrees x h =
        ⊎_elim (λ a. sym (met s with_all 0 a.0 x ws c.head as_long has_head all a.1) ∙ ap with_all (omega (arith, a.2)))
        (λ b.
        sym (
        others_kept (names x) (numbers.below x h)
        ∙ renamed_at C names (clause_variables c) first_made numbers (other_variables c) s (listed ws) x (λ y i. other_is_variable c y i) h b.0)) (has_number n c x h)

    meeting_no : FlatNo C (conjunction (clause_goal n c).goals) with_all → OneNoBy C d 0 (equated ws c.head c.body) s
    meeting_no h =
        let equations = (head_equations names c.head first_made 0 c.head).goals in
        let body = conjuncts_of names body_first c.body in
        let occurrences = occurring c.body ++ named_by_quantifiers c.body in
        ⊎_elim
        (λ q.
        head_no C names s with_all c.head (place_number n c) d c.head ws first_made 0 0 c.body as_long (omega (arith, below)) has_head
        (λ x i. agrees x (in_left x (variables_in_all (expressions c.head)) occurrences i))
        (written_fit names c.head d s C (place_number n c) 0 first_made 0 c.head with_body with_all (λ x l. refl)) q)
        (λ q.
        body_no C d s c.head ws (length c.head) 0 c.body as_long (omega arith)
        (goal_no C names (clause_variables c) first_made numbers c.body (body_uses c) d (length c.head) body_first s with_all made_above agrees
        (fits_same C names (clause_variables c) first_made numbers d (length c.head) body_first c.body s with_body with_all
        (λ x l b. written_high names c.head d s 0 first_made 0 c.head with_body x l)
        (written_fits C names (clause_variables c) first_made numbers d (length c.head) body_first c.body s with_others)) q))
        (one_split C with_all equations body.goals (conjunction_no C with_all (equations ++ body.goals) h))

  -- where the clause's goal is false for all values of its other variables, the clause is false of the head's values
  clause_no : ((u : Assignment) → HaveFrom 0 ws u → FlatNo C (conjunction (clause_goal n c).goals) u) → (s : Assignment) → No C (at_arguments ws c) s
  clause_no h s d = ⊎_elim (λ q. q) (λ all. meeting_no d s all (h (with_all d s all) (has_head d s all))) (meet_or_not C d s c.head ws 0 c.body as_long)

-- the number that is next after a clause is no lower than the first
clause_next : (n : ℕ) (c : ClauseForm) → n ≤ (clause_goal n c).next
clause_next n c =
    let names = names_in n c in
    let first = n + length (other_variables c) in
    omega (arith, head_next names c.head first 0 c.head, goal_next names (head_equations names c.head first 0 c.head).next c.body)

-- one clause's goal stands alone
either_yes : (C : Facts) (u : Assignment) (gs : List Flat_goal) → FlatYes C (one_or_either gs) u → OneFlatYes C u gs
either_yes C u [] y = disjuncts_yes C u [] y
either_yes C u (g ∷ []) y = inl y
either_yes C u (g ∷ h ∷ gs) y = disjuncts_yes C u (g ∷ h ∷ gs) y

either_no : (C : Facts) (u : Assignment) (gs : List Flat_goal) → FlatNo C (one_or_either gs) u → AllFlatNo C u gs
either_no C u [] y = disjuncts_no C u [] y
either_no C u (g ∷ []) y = (y, tt)
either_no C u (g ∷ h ∷ gs) y = disjuncts_no C u (g ∷ h ∷ gs) y

module _ (C : Facts) (ws : List Val) where
  clauses_yes : (u : Assignment) (n : ℕ) (cls : List ClauseForm) → HeadsHave (length ws) cls → length ws ≤ n → HaveFrom 0 ws u → OneFlatYes C u (clause_goals n cls).goals → SomeClause C cls ws
  clauses_yes u n [] heads l has y = y
  clauses_yes u n (c ∷ cs) heads l has y =
      ⊎_elim (λ q. inl (clause_yes C ws n c (sym heads.0) (omega (arith, l, heads.0)) u has q))
      (λ q. inr (clauses_yes u (clause_goal n c).next cs heads.1 (omega (arith, l, clause_next n c)) has q)) y

  clauses_no : (n : ℕ) (cls : List ClauseForm) → HeadsHave (length ws) cls → length ws ≤ n → ((u : Assignment) → HaveFrom 0 ws u → AllFlatNo C u (clause_goals n cls).goals) → NoClause C cls ws
  clauses_no n [] heads l h = tt
  clauses_no n (c ∷ cs) heads l h =
      (clause_no C ws n c (sym heads.0) (omega (arith, l, heads.0)) (λ u has. (h u has).0), clauses_no (clause_goal n c).next cs heads.1 (omega (arith, l, clause_next n c)) (λ u has. (h u has).1))

pub predicates_carry : PredicatesCarry
predicates_carry P m arity cls heads ws long =
    let C = stage P m in
    let heads' = subst (λ k. HeadsHave k cls) (sym long) heads in
    let l : length ws ≤ arity = omega (arith, long) in
    record {
      yes = λ u at y. clauses_yes C ws u arity cls heads' l (have_from 0 ws u at) (either_yes C u (clause_goals arity cls).goals y);
      no = λ h. clauses_no C ws arity cls heads' l (λ u has. either_no C u (clause_goals arity cls).goals (h u (mapped_from 0 ws u has)));
    }
