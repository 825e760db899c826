-- What is still to be walked: what is put in front, and that less is left.
use Rattle.std.proofs.lemmas.List.{drop_more, drop_all, map_push}
use Rattle.std.proofs.Common.{◌≡◌, ℕ, suc, ◌+◌, ◌<◌, ◌≤◌, List, [], ◌∷◌, ◌++◌, length, map, drop, get_or, Box, Global, refl, sym, ap, ap₂, ◌∙◌, arith, append_assoc, append-nil, length-append}
use Rattle.mc_accepted.specs.Resolving.{Unresolved as PlainUnresolved, Step, choose, equate, call, close_head, count, term_steps, goal_steps, steps_of}
use Rattle.mc_source.specs.declared.name.Candidate.{Candidate}
use Rattle.mc_unresolved.specs.Unresolved.{plain_unresolved, plain_unresolved_goal, unresolved_terms, plain_unresolved_clause}
use Rattle.mc_unresolved.specs.Steps.{plain_walk_step}
use Rattle.mc_unresolved.specs.code.Tasks.{task_steps, agenda, steps_of_terms, steps_of_goals, twice, term_weight, terms_weight, goal_weight, goals_weight, task_weight, weight, Put, Opens, Takes}
use Rattle.mc_unresolved.specs.declared.term.Unresolved.{Unresolved, Name}
use Rattle.mc_unresolved.specs.declared.goal.UnresolvedGoal.{UnresolvedGoal, Equation, Atom, Choice, Negation, Exists}
use Rattle.mc_unresolved.specs.declared.clause.UnresolvedClause.{UnresolvedClause}
use Rattle.mc_unresolved.specs.declared.steps.WalkStep.{WalkStep}
use Rattle.mc_unresolved.specs.declared.tasks.Task.{Task}
use Rattle.mc_unresolved.specs.declared.tasks.Task.TheVariants as T
use Rattle.mc_unresolved.proofs.Views.{plain-Name, counted, plain-Equation, plain-Atom, plain-Choice, plain-Negation, plain-Exists}

agenda_push : (ts : List Task) (t : Task) → agenda (ts ++ t ∷ []) ≡ task_steps t ++ agenda ts
agenda_push [] t = sym (append-nil (task_steps t))
agenda_push (x ∷ ts) t = ap (λ xs. xs ++ task_steps x) (agenda_push ts t) ∙ append_assoc (task_steps t) (agenda ts) (task_steps x)

weight_push : (ts : List Task) (t : Task) → weight (ts ++ t ∷ []) ≡ weight ts + task_weight t
weight_push [] t = omega arith
weight_push (x ∷ ts) t = let more = weight_push ts t in omega (arith, more)

twice_both : (a b : List Step) → twice (a ++ b) ≡ twice a + twice b
twice_both a b = let e = length-append a b in omega (arith, e)

-- a task is put in front
pub pushed : (before after : List Task) (t : Task) → after ≡ before ++ t ∷ [] → Put (task_steps t) (task_weight t) before after
pushed before after t e = record { is = ap agenda e ∙ agenda_push before t; weighs = ap weight e ∙ weight_push before t }

pub put_nothing : (before : List Task) → Put [] 0 before before
put_nothing before = record { is = refl; weighs = omega arith }

-- more is put in front
pub put_both : (a b : List Step) (m n : ℕ) (first mid last : List Task) → Put a m first mid → Put b n mid last → Put (b ++ a) (n + m) first last
put_both a b m n first mid last p q = record {
  is = q.is ∙ ap (λ xs. b ++ xs) p.is ∙ sym (append_assoc b a (agenda first));
  weighs = let e = p.weighs in let f = q.weighs in omega (arith, e, f);
}

-- the last first: three are put in front
pub put_three : (a b c : List Step) (k m n : ℕ) (first one two last : List Task) → Put a k first one → Put b m one two → Put c n two last → Put (c ++ (b ++ a)) (n + (m + k)) first last
put_three a b c k m n first one two last p q r = put_both (b ++ a) c (m + k) n first two last (put_both a b k m first one two p q) r

pub put_as : (a b : List Step) (m n : ℕ) (first last : List Task) → a ≡ b → m ≡ n → Put a m first last → Put b n first last
put_as a b m n first last e f p = record {
  is = p.is ∙ ap (λ xs. xs ++ agenda first) e;
  weighs = p.weighs ∙ ap (λ k. weight first + k) f;
}

pub opens_by : (a b : List Step) (m n : ℕ) (first last : List Task) → a ≡ b → m < n → Put a m first last → Opens b n first last
opens_by a b m n first last e lt p = record {
  is = p.is ∙ ap (λ xs. xs ++ agenda first) e;
  less = let f = p.weighs in omega (arith, f, lt);
}

-- TERMS AND GOALS THAT ARE PUT IN, the last first, down to a number

pub record TermsPut (terms : List Unresolved) (first now : List Task) (k : ℕ) : Type 0 where
  pub within : k ≤ length terms
  pub puts : Put (steps_of_terms (drop k terms)) (terms_weight (drop k terms)) first now

pub terms_first : (terms : List Unresolved) (first : List Task) → TermsPut terms first first (length terms)
terms_first terms first =
    let none : drop (length terms) terms ≡ [] = drop_all (length terms) terms (omega arith) in
    record {
      within = omega arith;
      puts = put_as [] _ 0 _ first first (ap steps_of_terms (sym none)) (ap terms_weight (sym none)) (put_nothing first);
    }

pub terms_more : (terms : List Unresolved) (first now more : List Task) (j k : ℕ) (t : Task) (d : Unresolved) → more ≡ now ++ t ∷ [] → j ≡ k + 1 → TermsPut terms first now j → task_steps t ≡ term_steps (plain_unresolved (get_or terms k d)) → task_weight t ≡ term_weight (plain_unresolved (get_or terms k d)) → TermsPut terms first more k
terms_more terms first now more j k t d put next so steps weighs =
    let x = get_or terms k d in
    let lt : k < length terms = omega (arith, next, so.within) in
    let rest : drop k terms ≡ x ∷ drop j terms = drop_more terms k d lt ∙ ap (λ n. x ∷ drop n terms) (sym next) in
    record {
      within = omega (arith, lt);
      puts =
          put_as _ _ _ _ first more
          (ap (λ xs. xs ++ steps_of_terms (drop j terms)) steps ∙ ap steps_of_terms (sym rest))
          (ap (λ n. n + terms_weight (drop j terms)) weighs ∙ sym (twice_both (term_steps (plain_unresolved x)) (steps_of_terms (drop j terms))) ∙ ap terms_weight (sym rest))
          (put_both (steps_of_terms (drop j terms)) (task_steps t) (terms_weight (drop j terms)) (task_weight t) first now more so.puts (pushed now more t put));
    }

pub terms_whole : (terms : List Unresolved) (first now : List Task) (k : ℕ) → k ≡ 0 → TermsPut terms first now k → Put (steps_of_terms terms) (terms_weight terms) first now
terms_whole terms first now k none so = put_as _ _ _ _ first now (ap (λ n. steps_of_terms (drop n terms)) none) (ap (λ n. terms_weight (drop n terms)) none) so.puts

pub record GoalsPut (goals : List UnresolvedGoal) (first now : List Task) (k : ℕ) : Type 0 where
  pub within : k ≤ length goals
  pub puts : Put (steps_of_goals (drop k goals)) (goals_weight (drop k goals)) first now

pub goals_first : (goals : List UnresolvedGoal) (first : List Task) → GoalsPut goals first first (length goals)
goals_first goals first =
    let none : drop (length goals) goals ≡ [] = drop_all (length goals) goals (omega arith) in
    record {
      within = omega arith;
      puts = put_as [] _ 0 _ first first (ap steps_of_goals (sym none)) (ap goals_weight (sym none)) (put_nothing first);
    }

pub goals_more : (goals : List UnresolvedGoal) (first now more : List Task) (j k : ℕ) (t : Task) (d : UnresolvedGoal) → more ≡ now ++ t ∷ [] → j ≡ k + 1 → GoalsPut goals first now j → task_steps t ≡ goal_steps (plain_unresolved_goal (get_or goals k d)) → task_weight t ≡ goal_weight (plain_unresolved_goal (get_or goals k d)) → GoalsPut goals first more k
goals_more goals first now more j k t d put next so steps weighs =
    let x = get_or goals k d in
    let lt : k < length goals = omega (arith, next, so.within) in
    let rest : drop k goals ≡ x ∷ drop j goals = drop_more goals k d lt ∙ ap (λ n. x ∷ drop n goals) (sym next) in
    record {
      within = omega (arith, lt);
      puts =
          put_as _ _ _ _ first more
          (ap (λ xs. xs ++ steps_of_goals (drop j goals)) steps ∙ ap steps_of_goals (sym rest))
          (ap (λ n. n + goals_weight (drop j goals)) weighs ∙ ap goals_weight (sym rest))
          (put_both (steps_of_goals (drop j goals)) (task_steps t) (goals_weight (drop j goals)) (task_weight t) first now more so.puts (pushed now more t put));
    }

pub goals_whole : (goals : List UnresolvedGoal) (first now : List Task) (k : ℕ) → k ≡ 0 → GoalsPut goals first now k → Put (steps_of_goals goals) (goals_weight goals) first now
goals_whole goals first now k none so = put_as _ _ _ _ first now (ap (λ n. steps_of_goals (drop n goals)) none) (ap (λ n. goals_weight (drop n goals)) none) so.puts

-- WHAT IS OPENED

pub leaf_opened : (t : Unresolved) (plain : PlainUnresolved) (s : Step) (before after : List Task) → plain_unresolved t ≡ plain → term_steps plain ≡ s ∷ [] → Put (s ∷ []) 1 before after → Opens (term_steps (plain_unresolved t)) (term_weight (plain_unresolved t)) before after
leaf_opened t plain s before after is one p =
    let e : term_steps (plain_unresolved t) ≡ s ∷ [] = ap term_steps is ∙ one in
    opens_by (s ∷ []) _ 1 _ before after (sym e) (let l : length (term_steps (plain_unresolved t)) ≡ 1 = ap length e in omega (arith, l)) p

pub name_opened : (t : Unresolved) (cs : List Candidate) (args : List Unresolved) (before mid after : List Task) → t ≡ Name cs args → Put (choose cs (length args) ∷ []) 1 before mid → Put (steps_of_terms args) (terms_weight args) mid after → Opens (term_steps (plain_unresolved t)) (term_weight (plain_unresolved t)) before after
name_opened t cs args before mid after is p q =
    let e : term_steps (plain_unresolved t) ≡ steps_of_terms args ++ choose cs (length args) ∷ [] = ap term_steps (ap plain_unresolved is ∙ plain-Name cs args) ∙ ap (λ n. steps_of_terms args ++ choose cs n ∷ []) (counted args) in
    let w : term_weight (plain_unresolved t) ≡ terms_weight args + 2 = ap twice e ∙ twice_both (steps_of_terms args) (choose cs (length args) ∷ []) in
    opens_by _ _ _ _ before after (sym e) (omega (arith, w)) (put_both (choose cs (length args) ∷ []) (steps_of_terms args) 1 (terms_weight args) before mid after p q)

pub atom_opened : (g : UnresolvedGoal) (cs : List Candidate) (args : List Unresolved) (before after : List Task) → g ≡ Atom cs args → Put (steps_of_terms args ++ call cs (length args) ∷ []) (terms_weight args + 1) before after → Opens (goal_steps (plain_unresolved_goal g)) (goal_weight (plain_unresolved_goal g)) before after
atom_opened g cs args before after is p =
    let n = count (unresolved_terms (map plain_unresolved args)) in
    let v = ap plain_unresolved_goal is ∙ plain-Atom cs args in
    let e : goal_steps (plain_unresolved_goal g) ≡ steps_of_terms args ++ call cs (length args) ∷ [] = ap goal_steps v ∙ ap (λ n. steps_of_terms args ++ call cs n ∷ []) (counted args) in
    let w : goal_weight (plain_unresolved_goal g) ≡ terms_weight args + 2 = ap goal_weight v ∙ twice_both (steps_of_terms args) (call cs n ∷ []) in
    opens_by _ _ _ _ before after (sym e) (omega (arith, w)) p

pub equation_opened : (g : UnresolvedGoal) (a b : Unresolved) (before after : List Task) → g ≡ Equation a b → Put (term_steps (plain_unresolved a) ++ (term_steps (plain_unresolved b) ++ equate ∷ [])) (term_weight (plain_unresolved a) + (term_weight (plain_unresolved b) + 1)) before after → Opens (goal_steps (plain_unresolved_goal g)) (goal_weight (plain_unresolved_goal g)) before after
equation_opened g a b before after is p =
    let v = ap plain_unresolved_goal is ∙ plain-Equation a b in
    let sa = term_steps (plain_unresolved a) in
    let sb = term_steps (plain_unresolved b) in
    let e : goal_steps (plain_unresolved_goal g) ≡ sa ++ (sb ++ equate ∷ []) = ap goal_steps v in
    let w : goal_weight (plain_unresolved_goal g) ≡ twice sa + (twice sb + 2) = ap goal_weight v ∙ twice_both sa (sb ++ equate ∷ []) ∙ ap (λ n. twice sa + n) (twice_both sb (equate ∷ [])) in
    opens_by _ _ (twice sa + (twice sb + 1)) _ before after (sym e) (omega (arith, w)) p

opened_alone : (g inner now : UnresolvedGoal) (before after : List Task) → goal_steps (plain_unresolved_goal g) ≡ goal_steps (plain_unresolved_goal inner) → goal_weight (plain_unresolved_goal g) ≡ suc (goal_weight (plain_unresolved_goal inner)) → now ≡ inner → Put (goal_steps (plain_unresolved_goal now)) (goal_weight (plain_unresolved_goal now)) before after → Opens (goal_steps (plain_unresolved_goal g)) (goal_weight (plain_unresolved_goal g)) before after
opened_alone g inner now before after e w same p =
    let weighs : goal_weight (plain_unresolved_goal now) ≡ goal_weight (plain_unresolved_goal inner) = ap (λ x. goal_weight (plain_unresolved_goal x)) same in
    opens_by _ _ _ _ before after (ap (λ x. goal_steps (plain_unresolved_goal x)) same ∙ sym e) (omega (arith, w, weighs)) p

pub negation_opened : (g now : UnresolvedGoal) (inner : Box UnresolvedGoal Global) (before after : List Task) → g ≡ Negation inner → now ≡ inner.value → Put (goal_steps (plain_unresolved_goal now)) (goal_weight (plain_unresolved_goal now)) before after → Opens (goal_steps (plain_unresolved_goal g)) (goal_weight (plain_unresolved_goal g)) before after
negation_opened g now inner before after is same p =
    let v = ap plain_unresolved_goal is ∙ plain-Negation inner in
    opened_alone g inner.value now before after (ap goal_steps v) (ap goal_weight v) same p

pub exists_opened : (g now : UnresolvedGoal) (vs : List ℕ) (inner : Box UnresolvedGoal Global) (before after : List Task) → g ≡ Exists vs inner → now ≡ inner.value → Put (goal_steps (plain_unresolved_goal now)) (goal_weight (plain_unresolved_goal now)) before after → Opens (goal_steps (plain_unresolved_goal g)) (goal_weight (plain_unresolved_goal g)) before after
exists_opened g now vs inner before after is same p =
    let v = ap plain_unresolved_goal is ∙ plain-Exists vs inner in
    opened_alone g inner.value now before after (ap goal_steps v) (ap goal_weight v) same p

pub choice_opened : (g c' t' e' : UnresolvedGoal) (vs : List ℕ) (c t e : Box UnresolvedGoal Global) (before after : List Task) → g ≡ Choice vs c t e → c' ≡ c.value → t' ≡ t.value → e' ≡ e.value → Put (goal_steps (plain_unresolved_goal c') ++ (goal_steps (plain_unresolved_goal t') ++ goal_steps (plain_unresolved_goal e'))) (goal_weight (plain_unresolved_goal c') + (goal_weight (plain_unresolved_goal t') + goal_weight (plain_unresolved_goal e'))) before after → Opens (goal_steps (plain_unresolved_goal g)) (goal_weight (plain_unresolved_goal g)) before after
choice_opened g c' t' e' vs c t e before after is ic it ie p =
    let v = ap plain_unresolved_goal is ∙ plain-Choice vs c t e in
    let S : UnresolvedGoal → List Step = λ x. goal_steps (plain_unresolved_goal x) in
    let w : goal_weight (plain_unresolved_goal g) ≡ suc (goal_weight (plain_unresolved_goal c.value) + (goal_weight (plain_unresolved_goal t.value) + goal_weight (plain_unresolved_goal e.value))) = ap goal_weight v in
    let wc : goal_weight (plain_unresolved_goal c') ≡ goal_weight (plain_unresolved_goal c.value) = ap (λ x. goal_weight (plain_unresolved_goal x)) ic in
    let wt : goal_weight (plain_unresolved_goal t') ≡ goal_weight (plain_unresolved_goal t.value) = ap (λ x. goal_weight (plain_unresolved_goal x)) it in
    let we : goal_weight (plain_unresolved_goal e') ≡ goal_weight (plain_unresolved_goal e.value) = ap (λ x. goal_weight (plain_unresolved_goal x)) ie in
    opens_by _ _ _ _ before after (ap₂ (λ xs ys. xs ++ ys) (ap S ic) (ap₂ (λ xs ys. xs ++ ys) (ap S it) (ap S ie)) ∙ sym (ap goal_steps v)) (omega (arith, w, wc, wt, we)) p

-- STEPS THAT ARE TAKEN

pub step_taken : (task : Task) (s : WalkStep) (steps more : List WalkStep) (before after : List Task) → task ≡ T.Step s → more ≡ steps ++ s ∷ [] → after ≡ before → Takes task steps more before after
step_taken task s steps more before after is grown same = record {
  is =
      ap₂ (λ (xs : List WalkStep) (ts : List Task). map plain_walk_step xs ++ agenda ts) grown same
      ∙ ap (λ xs. xs ++ agenda before) (map_push plain_walk_step steps s)
      ∙ append_assoc (map plain_walk_step steps) (plain_walk_step s ∷ []) (agenda before)
      ∙ ap (λ t. map plain_walk_step steps ++ (task_steps t ++ agenda before)) (sym is);
  less =
      let e : weight after ≡ weight before = ap weight same in
      let w : task_weight task ≡ 1 = ap task_weight is in
      omega (arith, e, w);
}

pub opened_taken : (task : Task) (a : List Step) (m : ℕ) (steps more : List WalkStep) (before after : List Task) → task_steps task ≡ a → task_weight task ≡ m → more ≡ steps → Opens a m before after → Takes task steps more before after
opened_taken task a m steps more before after e w same o = record {
  is = ap₂ (λ (xs : List WalkStep) ys. map plain_walk_step xs ++ ys) same o.is ∙ ap (λ ys. map plain_walk_step steps ++ (ys ++ agenda before)) (sym e);
  less = let l = o.less in omega (arith, l, w);
}

-- what was popped is taken
pub taken_on : (task : Task) (steps more : List WalkStep) (old before after : List Task) (whole : List Step) → old ≡ before ++ task ∷ [] → map plain_walk_step steps ++ agenda old ≡ whole → Takes task steps more before after → map plain_walk_step more ++ agenda after ≡ whole
taken_on task steps more old before after whole put so t = t.is ∙ ap (λ xs. map plain_walk_step steps ++ xs) (sym (ap agenda put ∙ agenda_push before task)) ∙ so

pub taken_less : (task : Task) (steps more : List WalkStep) (old before after : List Task) → old ≡ before ++ task ∷ [] → Takes task steps more before after → weight after < weight old
taken_less task steps more old before after put t = let e : weight old ≡ weight before + task_weight task = ap weight put ∙ weight_push before task in let lt = t.less in omega (arith, e, lt)

pub taken_whole : (steps : List WalkStep) (old : List Task) (whole : List Step) → old ≡ [] → map plain_walk_step steps ++ agenda old ≡ whole → map plain_walk_step steps ≡ whole
taken_whole steps old whole none so = sym (append-nil (map plain_walk_step steps)) ∙ ap (λ ts. map plain_walk_step steps ++ agenda ts) (sym none) ∙ so

-- the head, and then the body
pub started : (clause : UnresolvedClause) (body : Task) (head : List Unresolved) (none one two three : List Task) → none ≡ [] → one ≡ none ++ body ∷ [] → task_steps body ≡ goal_steps (plain_unresolved_goal clause.body) → head ≡ clause.head → Put (close_head clause.pred (length head) ∷ []) 1 one two → Put (steps_of_terms head) (terms_weight head) two three → agenda three ≡ steps_of (plain_unresolved_clause clause)
started clause body head none one two three empty put steps same p q =
    let close = close_head clause.pred in
    q.is
    ∙ ap (λ xs. steps_of_terms head ++ xs) (p.is ∙ ap (λ xs. close (length head) ∷ xs) (ap agenda (put ∙ ap (λ (ts : List Task). ts ++ body ∷ []) empty) ∙ steps))
    ∙ ap (λ n. steps_of_terms head ++ close n ∷ goal_steps (plain_unresolved_goal clause.body)) (sym (counted head))
    ∙ ap (λ (hs : List Unresolved). steps_of_terms hs ++ close (count (unresolved_terms (map plain_unresolved hs))) ∷ goal_steps (plain_unresolved_goal clause.body)) same
