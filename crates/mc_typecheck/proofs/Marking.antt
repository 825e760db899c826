-- What the marks of a clause's walk come to: those places are marked whose variables its normal goal has.
use Rattle.std.proofs.Common.{◌≡◌, ℕ, zero, suc, ◌+◌, ◌-◌, ◌<◌, ◌≤◌, Bool, true, false, List, [], ◌∷◌, ◌++◌, map, length, take, drop, get_or, refl, sym, ap, ap₂, ◌∙◌, arith, append_assoc, append-nil, length-append}
use Rattle.std.specs.Prelude.{slice_set, replicate}
use Rattle.std.proofs.Math.Seq.{drop-append_seam, take-append_seam}
use Rattle.std.proofs.lemmas.List.{length-map, take_all, get_or-map}
use Rattle.mc_accepted.specs.Resolving.{Unresolved, any_variable, any_number, any_text, any_name, Unresolved_terms, no_terms, term_then, count, Unresolved_goal, equation, atom, all_of, one_of, choice, negation, exists, Unresolved_goals, no_goals, goal_then, Unresolved_clause, Step, choose, equate, call, close_head, term_steps, terms_steps, goal_steps, goals_steps, steps_of}
use Rattle.laws_made_types.specs.Makes.{makes_term, makes_terms, makes_parts, makes_equation, makes_goal, makes_goals, makes_head, makes}
use Rattle.laws_made_types.proofs.TracedGoals.{parts_long}
use Rattle.mc_typecheck.specs.code.Marking.{Marking, marking, first_marking, topmost, below, pushed, unmarked, all_unmarked, equated, after, after_all}
use Rattle.mc_unresolved.specs.Steps.{plain_walk_step}
use Rattle.mc_unresolved.specs.declared.steps.WalkStep.{WalkStep}
use Rattle.mc_typecheck.specs.declared.marks.Marks.{Marks}
use Rattle.mc_typecheck.specs.declared.marks.Top.{Top}
use Rattle.mc_typecheck.specs.declared.marks.Top.TheVariants as T

pub after_both : (xs ys : List Step) (s : Marking) → after_all (xs ++ ys) s ≡ after_all ys (after_all xs s)
after_both [] ys s = refl
after_both (x ∷ xs) ys s = after_both xs ys (after x s)

-- the top of a stack
top_count : (stack ts : List Top) (n : ℕ) → length ts ≡ n → length (stack ++ ts) - n ≡ length stack
top_count stack ts n e = omega (arith, e, length-append stack ts)

topmost_is : (stack ts : List Top) (n : ℕ) → length ts ≡ n → topmost n (stack ++ ts) ≡ ts
topmost_is stack ts n e = ap (λ k. drop k (stack ++ ts)) (top_count stack ts n e) ∙ drop-append_seam stack ts

below_is : (stack ts : List Top) (n : ℕ) → length ts ≡ n → below n (stack ++ ts) ≡ stack
below_is stack ts n e = ap (λ k. take k (stack ++ ts)) (top_count stack ts n e) ∙ take-append_seam stack ts

abbrev marks : List Top → List Bool → Marking
marks stack flags = record { stack = stack; flags = flags }

-- WHAT TERMS LEAVE

-- where so many places are before it
abbrev top_of : Unresolved → ℕ → Top
top_of (any_variable v) k = T.Variable
top_of (any_number n) k = T.Occurrence k
top_of (any_text bytes) k = T.Occurrence k
top_of (any_name cs args) k = T.Occurrence (k + length (makes_terms args))

abbrev tops_of : Unresolved_terms → ℕ → List Top
tops_of no_terms k = []
tops_of (term_then e es) k = top_of e k ∷ tops_of es (k + length (makes_term e))

tops_long : (es : Unresolved_terms) (k : ℕ) → length (tops_of es k) ≡ count es
tops_long no_terms k = refl
tops_long (term_then e es) k = ap suc (tops_long es (k + length (makes_term e)))

mutual
  term_marked : (e : Unresolved) (s : Marking) → after_all (term_steps e) s ≡ marks (s.stack ++ top_of e (length s.flags) ∷ []) (s.flags ++ makes_term e)
  term_marked (any_variable v) s = ap (marks (s.stack ++ T.Variable ∷ [])) (sym (append-nil s.flags))
  term_marked (any_number n) s = refl
  term_marked (any_text bytes) s = refl
  term_marked (any_name cs args) s =
      let n = count args in
      let k = length s.flags in
      let tops = tops_of args k in
      let flags = s.flags ++ makes_terms args in
      let place : length flags ≡ k + length (makes_terms args) = length-append s.flags (makes_terms args) in
      after_both (terms_steps args) (choose cs n ∷ []) s
      ∙ ap (after (choose cs n)) (terms_marked args s)
      ∙ ap (λ st. pushed st flags) (below_is s.stack tops n (tops_long args k))
      ∙ ap (λ j. marks (s.stack ++ T.Occurrence j ∷ []) (flags ++ true ∷ [])) place
      ∙ ap (marks (s.stack ++ T.Occurrence (k + length (makes_terms args)) ∷ [])) (append_assoc s.flags (makes_terms args) (true ∷ []))

  terms_marked : (es : Unresolved_terms) (s : Marking) → after_all (terms_steps es) s ≡ marks (s.stack ++ tops_of es (length s.flags)) (s.flags ++ makes_terms es)
  terms_marked no_terms s = ap₂ marks (sym (append-nil s.stack)) (sym (append-nil s.flags))
  terms_marked (term_then e es) s =
      let k = length s.flags in
      let t = top_of e k in
      let flags = s.flags ++ makes_term e in
      let long : length flags ≡ k + length (makes_term e) = length-append s.flags (makes_term e) in
      after_both (term_steps e) (terms_steps es) s
      ∙ ap (after_all (terms_steps es)) (term_marked e s)
      ∙ terms_marked es (marks (s.stack ++ t ∷ []) flags)
      ∙ ap (λ j. marks ((s.stack ++ t ∷ []) ++ tops_of es j) (flags ++ makes_terms es)) long
      ∙ ap₂ marks (append_assoc s.stack (t ∷ []) (tops_of es (k + length (makes_term e)))) (append_assoc s.flags (makes_term e) (makes_terms es))

-- FLAGS THAT ARE TAKEN BACK

set_at : (xs : List Bool) (y : Bool) (ys : List Bool) → slice_set (xs ++ y ∷ ys) (length xs) false ≡ xs ++ false ∷ ys
set_at [] y ys = refl
set_at (x ∷ xs) y ys = ap (λ zs. x ∷ zs) (set_at xs y ys)

-- the flag of a term that is equated with a variable
term_unmarked : (e : Unresolved) (flags more : List Bool) → unmarked (top_of e (length flags)) (flags ++ (makes_term e ++ more)) ≡ flags ++ (makes_parts e ++ more)
term_unmarked (any_variable v) flags more = refl
term_unmarked (any_number n) flags more = set_at flags true more
term_unmarked (any_text bytes) flags more = set_at flags true more
term_unmarked (any_name cs args) flags more =
    let parts = makes_terms args in
    let front = flags ++ parts in
    let whole : (b : Bool) → flags ++ ((parts ++ b ∷ []) ++ more) ≡ front ++ b ∷ more = λ b. ap (λ us. flags ++ us) (append_assoc parts (b ∷ []) more) ∙ sym (append_assoc flags parts (b ∷ more)) in
    ap₂ (λ us k. slice_set us k false) (whole true) (sym (length-append flags parts)) ∙ set_at front true more ∙ sym (whole false)

terms_unmarked : (es : Unresolved_terms) (flags : List Bool) → all_unmarked (tops_of es (length flags)) (flags ++ makes_terms es) ≡ flags ++ makes_head es
terms_unmarked no_terms flags = refl
terms_unmarked (term_then e es) flags =
    let parts = makes_parts e in
    let later = flags ++ parts in
    let place : length flags + length (makes_term e) ≡ length later = omega (arith, length-append flags parts, parts_long e) in
    ap (all_unmarked (tops_of es (length flags + length (makes_term e)))) (term_unmarked e flags (makes_terms es) ∙ sym (append_assoc flags parts (makes_terms es)))
    ∙ ap (λ k. all_unmarked (tops_of es k) (later ++ makes_terms es)) place
    ∙ terms_unmarked es later
    ∙ append_assoc flags parts (makes_head es)

-- GOALS

equation_right : (a : Unresolved) (y : ℕ) → makes_equation a (any_variable y) ≡ makes_parts a
equation_right (any_variable x) y = refl
equation_right (any_number n) y = refl
equation_right (any_text bytes) y = refl
equation_right (any_name cs args) y = refl

right_unmarked : (a b : Unresolved) (flags : List Bool) → unmarked (top_of b (length flags + length (makes_term a))) (flags ++ (makes_term a ++ makes_term b)) ≡ flags ++ (makes_term a ++ makes_parts b)
right_unmarked a b flags =
    let front = flags ++ makes_term a in
    let whole : (bs : List Bool) → flags ++ (makes_term a ++ bs) ≡ front ++ (bs ++ []) = λ bs. sym (append_assoc flags (makes_term a) bs) ∙ ap (λ us. front ++ us) (sym (append-nil bs)) in
    ap₂ (λ us k. unmarked (top_of b k) us) (whole (makes_term b)) (sym (length-append flags (makes_term a))) ∙ term_unmarked b front [] ∙ sym (whole (makes_parts b))

-- the flags that an equation takes back
equation_unmarked : (a b : Unresolved) (flags : List Bool) →
    unmarked (equated (top_of a (length flags) ∷ top_of b (length flags + length (makes_term a)) ∷ [])) (flags ++ (makes_term a ++ makes_term b)) ≡ flags ++ makes_equation a b
equation_unmarked a (any_variable y) flags = term_unmarked a flags [] ∙ ap (λ us. flags ++ us) (append-nil (makes_parts a) ∙ sym (equation_right a y))
equation_unmarked a (any_number n) flags = right_unmarked a (any_number n) flags ∙ ap (λ us. flags ++ us) (sym (by_left a))
  where
    by_left : (a : Unresolved) → makes_equation a (any_number n) ≡ makes_term a ++ makes_parts (any_number n)
    by_left (any_variable x) = refl
    by_left (any_number k) = refl
    by_left (any_text bytes) = refl
    by_left (any_name cs args) = refl
equation_unmarked a (any_text t) flags = right_unmarked a (any_text t) flags ∙ ap (λ us. flags ++ us) (sym (by_left a))
  where
    by_left : (a : Unresolved) → makes_equation a (any_text t) ≡ makes_term a ++ makes_parts (any_text t)
    by_left (any_variable x) = refl
    by_left (any_number k) = refl
    by_left (any_text bytes) = refl
    by_left (any_name cs args) = refl
equation_unmarked a (any_name ds us) flags = right_unmarked a (any_name ds us) flags ∙ ap (λ us. flags ++ us) (sym (by_left a))
  where
    by_left : (a : Unresolved) → makes_equation a (any_name ds us) ≡ makes_term a ++ makes_parts (any_name ds us)
    by_left (any_variable x) = refl
    by_left (any_number k) = refl
    by_left (any_text bytes) = refl
    by_left (any_name cs args) = refl

mutual
  goal_marked : (g : Unresolved_goal) (s : Marking) → after_all (goal_steps g) s ≡ marks s.stack (s.flags ++ makes_goal g)
  goal_marked (equation a b) s =
      let k = length s.flags in
      let ta = top_of a k in
      let fa = s.flags ++ makes_term a in
      let tb = top_of b (k + length (makes_term a)) in
      let two = ta ∷ tb ∷ [] in
      let sides : after_all (term_steps b) (after_all (term_steps a) s) ≡ marks (s.stack ++ two) (s.flags ++ (makes_term a ++ makes_term b)) =
      ap (after_all (term_steps b)) (term_marked a s)
      ∙ term_marked b (marks (s.stack ++ ta ∷ []) fa)
      ∙ ap (λ j. marks ((s.stack ++ ta ∷ []) ++ top_of b j ∷ []) (fa ++ makes_term b)) (length-append s.flags (makes_term a))
      ∙ ap₂ marks (append_assoc s.stack (ta ∷ []) (tb ∷ [])) (append_assoc s.flags (makes_term a) (makes_term b)) in
      after_both (term_steps a) (term_steps b ++ equate ∷ []) s
      ∙ after_both (term_steps b) (equate ∷ []) (after_all (term_steps a) s)
      ∙ ap (after equate) sides
      ∙ ap₂ marks (below_is s.stack two 2 refl)
      (ap (λ ts. unmarked (equated ts) (s.flags ++ (makes_term a ++ makes_term b))) (topmost_is s.stack two 2 refl) ∙ equation_unmarked a b s.flags)
  goal_marked (atom cs args) s =
      let n = count args in
      let k = length s.flags in
      after_both (terms_steps args) (call cs n ∷ []) s
      ∙ ap (after (call cs n)) (terms_marked args s)
      ∙ ap (λ st. marks st (s.flags ++ makes_terms args)) (below_is s.stack (tops_of args k) n (tops_long args k))
  goal_marked (all_of gs) s = goals_marked gs s
  goal_marked (one_of gs) s = goals_marked gs s
  goal_marked (choice vs c t e) s =
      let fc = s.flags ++ makes_goal c in
      let ft = fc ++ makes_goal t in
      after_both (goal_steps c) (goal_steps t ++ goal_steps e) s
      ∙ ap (after_all (goal_steps t ++ goal_steps e)) (goal_marked c s)
      ∙ after_both (goal_steps t) (goal_steps e) (marks s.stack fc)
      ∙ ap (after_all (goal_steps e)) (goal_marked t (marks s.stack fc))
      ∙ goal_marked e (marks s.stack ft)
      ∙ ap (marks s.stack) (append_assoc fc (makes_goal t) (makes_goal e) ∙ append_assoc s.flags (makes_goal c) (makes_goal t ++ makes_goal e))
  goal_marked (negation g) s = goal_marked g s
  goal_marked (exists vs g) s = goal_marked g s

  goals_marked : (gs : Unresolved_goals) (s : Marking) → after_all (goals_steps gs) s ≡ marks s.stack (s.flags ++ makes_goals gs)
  goals_marked no_goals s = ap (marks s.stack) (sym (append-nil s.flags))
  goals_marked (goal_then g gs) s =
      let f = s.flags ++ makes_goal g in
      after_both (goal_steps g) (goals_steps gs) s
      ∙ ap (after_all (goals_steps gs)) (goal_marked g s)
      ∙ goals_marked gs (marks s.stack f)
      ∙ ap (marks s.stack) (append_assoc s.flags (makes_goal g) (makes_goals gs))

-- A CLAUSE
pub clause_marked : (clause : Unresolved_clause) (vars : ℕ) → (after_all (steps_of clause) (first_marking vars)).flags ≡ replicate vars true ++ makes clause
clause_marked clause vars =
    let n = count clause.head in
    let own = replicate vars true in
    let k = length own in
    let tops = tops_of clause.head k in
    let body = goal_steps clause.body in
    let headed = own ++ makes_head clause.head in
    let at_head : after (close_head clause.pred n) (after_all (terms_steps clause.head) (first_marking vars)) ≡ marks [] headed =
    ap (after (close_head clause.pred n)) (terms_marked clause.head (first_marking vars))
    ∙ ap₂ marks (below_is [] tops n (tops_long clause.head k))
    (ap (λ ts. all_unmarked ts (own ++ makes_terms clause.head)) (topmost_is [] tops n (tops_long clause.head k)) ∙ terms_unmarked clause.head own) in
    ap (λ (m : Marking). m.flags)
    (after_both (terms_steps clause.head) (close_head clause.pred n ∷ body) (first_marking vars) ∙ ap (after_all body) at_head ∙ goal_marked clause.body (marks [] headed))
    ∙ append_assoc own (makes_head clause.head) (makes_goal clause.body)

-- one step more
after_next : (xs : List Step) (k : ℕ) (d : Step) (s : Marking) → k < length xs → after_all (take (suc k) xs) s ≡ after (get_or xs k d) (after_all (take k xs) s)
after_next [] k d s lt = absurd (omega (arith, lt))
after_next (x ∷ xs) zero d s lt = refl
after_next (x ∷ xs) (suc k) d s lt = after_next xs k d (after x s) (omega (arith, lt))

pub marks_more : (steps : List WalkStep) (vars k : ℕ) (d : WalkStep) (m m' : Marks) → k < length steps → marking m' ≡ after (plain_walk_step (get_or steps k d)) (marking m) → marking m ≡ after_all (take k (map plain_walk_step steps)) (first_marking vars) → marking m' ≡ after_all (take (k + 1) (map plain_walk_step steps)) (first_marking vars)
marks_more steps vars k d m m' lt taken so =
    let xs = map plain_walk_step steps in
    let long = length-map steps plain_walk_step in
    let e : k + 1 ≡ suc k = omega arith in
    taken
    ∙ ap₂ (λ x n. after x n) (sym (get_or-map plain_walk_step steps k d (plain_walk_step d) lt)) so
    ∙ sym (after_next xs k (plain_walk_step d) (first_marking vars) (omega (arith, lt, long)))
    ∙ ap (λ j. after_all (take j xs) (first_marking vars)) (sym e)

pub marks_whole : (steps : List WalkStep) (vars k : ℕ) (m : Marks) → length steps ≤ k → marking m ≡ after_all (take k (map plain_walk_step steps)) (first_marking vars) → m.flags.items ≡ (after_all (map plain_walk_step steps) (first_marking vars)).flags
marks_whole steps vars k m le so =
    let xs = map plain_walk_step steps in
    let long = length-map steps plain_walk_step in
    ap (λ (n : Marking). n.flags) (so ∙ ap (λ ys. after_all ys (first_marking vars)) (take_all k xs (omega (arith, le, long))))
