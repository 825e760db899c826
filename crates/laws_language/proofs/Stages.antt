-- What is said at a stage is said at every later one, and nothing is said both ways.
use Rattle.std.proofs.Common.{inl, inr, ℕ, zero, suc, ◌+◌, ◌≤◌, List, [], ◌∷◌, ◌++◌, Option, Some, None, true, false, arith, ⊎_elim}
use Rattle.mc_program.specs.Values.{Val}
use Rattle.mc_program.specs.Programs.{Expression, variable, constant, made, applied, Expressions, no_expressions, expression_then, Formula, Equal, Call, And, Or, If, Not, Exists, Formulas, no_formulas, formula_then, ClauseForm}
use Rattle.mc_model.specs.Outcomes.{Outcome, fails, gives, throws, writes, reads, reads_and_throws, GivesThese, DeniesThese, inputs_of, marked}
use Rattle.mc_model.specs.Truth.{Assignment, Facts, Choice, atoms, YesBy, NoBy, AllYesBy, OneNoBy, OneYes, AllNo, parts, parts_all, values, Applied, AllApplied, Misapplied, OneMisapplied, AtomYes, AtomNo, AreEqual, Differ, pair, at_arguments, SomeClause, NoClause, builtin_or, World, GivenBy, DeniedBy, stage}
use Rattle.laws_language.specs.Laws.{GoalsStay, CallsStay, NoGoalIsBoth, NoCallIsBoth}
use Rattle.mc_program.specs.declared.builtin.Builtin.{Builtin}

-- what the first says, the second says too
abbrev Within : Facts → Facts → Type 0
Within C D = (p : ℕ) (ws : List Val) → (C.yes p ws → D.yes p ws) × (C.no p ws → D.no p ws)

-- what is said of goals grows with what is said of calls
module _ (C D : Facts) (W : Within C D) where
  mutual
    applied_stays : (s c : Assignment) (k : ℕ) (t : Expression) → Applied C s c k t → Applied D s c k t
    applied_stays s c k (variable x) h = tt
    applied_stays s c k (constant v) h = tt
    applied_stays s c k (made f ts) h = all_applied_stay s c k ts h
    applied_stays s c k (applied p ts) h = (all_applied_stay s c k ts h.0, (W p (values s c k ts ++ c (k + parts_all ts) ∷ [])).0 h.1)

    all_applied_stay : (s c : Assignment) (k : ℕ) (ts : Expressions) → AllApplied C s c k ts → AllApplied D s c k ts
    all_applied_stay s c k no_expressions h = tt
    all_applied_stay s c k (expression_then t ts) h = (applied_stays s c k t h.0, all_applied_stay s c (k + parts t) ts h.1)

  mutual
    misapplied_stays : (s c : Assignment) (k : ℕ) (t : Expression) → Misapplied C s c k t → Misapplied D s c k t
    misapplied_stays s c k (variable x) h = h
    misapplied_stays s c k (constant v) h = h
    misapplied_stays s c k (made f ts) h = one_misapplied_stays s c k ts h
    misapplied_stays s c k (applied p ts) h =
        ⊎_elim (λ m. inl (one_misapplied_stays s c k ts m)) (λ n. inr ((W p (values s c k ts ++ c (k + parts_all ts) ∷ [])).1 n)) h

    one_misapplied_stays : (s c : Assignment) (k : ℕ) (ts : Expressions) → OneMisapplied C s c k ts → OneMisapplied D s c k ts
    one_misapplied_stays s c k no_expressions h = h
    one_misapplied_stays s c k (expression_then t ts) h =
        ⊎_elim (λ m. inl (misapplied_stays s c k t m)) (λ m. inr (one_misapplied_stays s c (k + parts t) ts m)) h

  atom_yes_stays : (s c : Assignment) (ts : Expressions) (P Q : List Val → Type 0) → ((ws : List Val) → P ws → Q ws) → AtomYes C s c ts P → AtomYes D s c ts Q
  atom_yes_stays s c ts P Q f h = (all_applied_stay s c 0 ts h.0, f (values s c 0 ts) h.1)

  atom_no_stays : (s c : Assignment) (ts : Expressions) (P Q : List Val → Type 0) → ((ws : List Val) → P ws → Q ws) → AtomNo C s c ts P → AtomNo D s c ts Q
  atom_no_stays s c ts P Q f h = ⊎_elim (λ m. inl (one_misapplied_stays s c 0 ts m)) (λ n. inr (f (values s c 0 ts) n)) h

  mutual
    yes_stays : (d : Choice) (i : ℕ) (g : Formula) (s : Assignment) → YesBy C d i g s → YesBy D d i g s
    yes_stays d i (Equal a b) s y = atom_yes_stays s (d i) (pair a b) AreEqual AreEqual (λ ws h. h) y
    yes_stays d i (Call p ts) s y = atom_yes_stays s (d i) ts (C.yes p) (D.yes p) (λ ws. (W p ws).0) y
    yes_stays d i (And gs) s y = all_yes_stay d i gs s y
    yes_stays d i (Or gs) s y = one_yes_stays gs s y
    yes_stays d i (If vs c t e) s y =
        ⊎_elim
        (λ h. inl (h.0, h.1, (h.2.0, yes_stays h.2.0 0 c h.0 h.2.1), (h.3.0, yes_stays h.3.0 0 t h.0 h.3.1)))
        (λ h. inr ((λ u o f. no_stays f 0 c u (h.0 u o f)), (h.1.0, yes_stays h.1.0 0 e s h.1.1)))
        y
    yes_stays d i (Not g) s y = λ f. no_stays f 0 g s (y f)
    yes_stays d i (Exists vs g) s y = (y.0, y.1, (y.2.0, yes_stays y.2.0 0 g y.0 y.2.1))

    no_stays : (d : Choice) (i : ℕ) (g : Formula) (s : Assignment) → NoBy C d i g s → NoBy D d i g s
    no_stays d i (Equal a b) s n = atom_no_stays s (d i) (pair a b) Differ Differ (λ ws h. h) n
    no_stays d i (Call p ts) s n = atom_no_stays s (d i) ts (C.no p) (D.no p) (λ ws. (W p ws).1) n
    no_stays d i (And gs) s n = one_no_stays d i gs s n
    no_stays d i (Or gs) s n = all_no_stay gs s n
    no_stays d i (If vs c t e) s n = (
      (λ u o. ⊎_elim (λ h. inl (λ f. no_stays f 0 c u (h f))) (λ h. inr (λ f. no_stays f 0 t u (h f))) (n.0 u o)),
      ⊎_elim (λ h. inl (h.0, h.1, (h.2.0, yes_stays h.2.0 0 c h.0 h.2.1))) (λ h. inr (λ f. no_stays f 0 e s (h f))) n.1,
    )
    no_stays d i (Not g) s n = (n.0, yes_stays n.0 0 g s n.1)
    no_stays d i (Exists vs g) s n = λ u o f. no_stays f 0 g u (n u o f)

    all_yes_stay : (d : Choice) (i : ℕ) (gs : Formulas) (s : Assignment) → AllYesBy C d i gs s → AllYesBy D d i gs s
    all_yes_stay d i no_formulas s y = tt
    all_yes_stay d i (formula_then g gs) s y = (yes_stays d i g s y.0, all_yes_stay d (i + atoms g) gs s y.1)

    one_no_stays : (d : Choice) (i : ℕ) (gs : Formulas) (s : Assignment) → OneNoBy C d i gs s → OneNoBy D d i gs s
    one_no_stays d i no_formulas s n = n
    one_no_stays d i (formula_then g gs) s n = ⊎_elim (λ h. inl (no_stays d i g s h)) (λ h. inr (one_no_stays d (i + atoms g) gs s h)) n

    one_yes_stays : (gs : Formulas) (s : Assignment) → OneYes C gs s → OneYes D gs s
    one_yes_stays no_formulas s y = y
    one_yes_stays (formula_then g gs) s y = ⊎_elim (λ h. inl (h.0, yes_stays h.0 0 g s h.1)) (λ h. inr (one_yes_stays gs s h)) y

    all_no_stay : (gs : Formulas) (s : Assignment) → AllNo C gs s → AllNo D gs s
    all_no_stay no_formulas s n = tt
    all_no_stay (formula_then g gs) s n = ((λ f. no_stays f 0 g s (n.0 f)), all_no_stay gs s n.1)

  some_clause_stays : (cls : List ClauseForm) (ws : List Val) → SomeClause C cls ws → SomeClause D cls ws
  some_clause_stays [] ws h = h
  some_clause_stays (cl ∷ cls) ws h =
      ⊎_elim (λ y. inl (y.0, (y.1.0, yes_stays y.1.0 0 (at_arguments ws cl) y.0 y.1.1))) (λ y. inr (some_clause_stays cls ws y)) h

  no_clause_stays : (cls : List ClauseForm) (ws : List Val) → NoClause C cls ws → NoClause D cls ws
  no_clause_stays [] ws h = tt
  no_clause_stays (cl ∷ cls) ws h = ((λ s f. no_stays f 0 (at_arguments ws cl) s (h.0 s f)), no_clause_stays cls ws h.1)

builtin_or_stays : (B : Builtin → List Val → Type 0) (op : Option Builtin) (P Q : List Val → Type 0) (ws : List Val) → (P ws → Q ws) → builtin_or B op P ws → builtin_or B op Q ws
builtin_or_stays B None P Q ws f h = f h
builtin_or_stays B (Some op) P Q ws f h = h

stages_stay : (P : World) (m n : ℕ) → m ≤ n → Within (stage P m) (stage P n)
stages_stay P zero zero l p ws = ((λ h. h), (λ h. h))
stages_stay P zero (suc n) l p ws =
    let q = P.source.preds p in (
      builtin_or_stays (GivenBy P.outcome) q.builtin (λ us. ⊥) (SomeClause (stage P n) q.clauses) ws (λ h. absurd h),
      builtin_or_stays (DeniedBy P.outcome) q.builtin (λ us. ⊥) (NoClause (stage P n) q.clauses) ws (λ h. absurd h),
    )
stages_stay P (suc m) zero l p ws = absurd (omega arith)
stages_stay P (suc m) (suc n) l p ws =
    let q = P.source.preds p in
    let w = stages_stay P m n (omega arith) in (
      builtin_or_stays (GivenBy P.outcome) q.builtin (SomeClause (stage P m) q.clauses) (SomeClause (stage P n) q.clauses) ws (some_clause_stays (stage P m) (stage P n) w q.clauses ws),
      builtin_or_stays (DeniedBy P.outcome) q.builtin (NoClause (stage P m) q.clauses) (NoClause (stage P n) q.clauses) ws (no_clause_stays (stage P m) (stage P n) w q.clauses ws),
    )

pub calls_stay : CallsStay
calls_stay P m n l p ws = stages_stay P m n l p ws

pub goals_stay : GoalsStay
goals_stay P m n l g s = (
  (λ y. (y.0, yes_stays (stage P m) (stage P n) (stages_stay P m n l) y.0 0 g s y.1)),
  (λ h f. no_stays (stage P m) (stage P n) (stages_stay P m n l) f 0 g s (h f)),
)

-- where no call is both true and false, no goal is
module _ (C : Facts) (K : (p : ℕ) (ws : List Val) → C.yes p ws → C.no p ws → ⊥) where
  mutual
    not_misapplied : (s c : Assignment) (k : ℕ) (t : Expression) → Applied C s c k t → Misapplied C s c k t → ⊥
    not_misapplied s c k (variable x) h m = m
    not_misapplied s c k (constant v) h m = m
    not_misapplied s c k (made f ts) h m = none_misapplied s c k ts h m
    not_misapplied s c k (applied p ts) h m = ⊎_elim (λ i. none_misapplied s c k ts h.0 i) (λ n. K p (values s c k ts ++ c (k + parts_all ts) ∷ []) h.1 n) m

    none_misapplied : (s c : Assignment) (k : ℕ) (ts : Expressions) → AllApplied C s c k ts → OneMisapplied C s c k ts → ⊥
    none_misapplied s c k no_expressions h m = m
    none_misapplied s c k (expression_then t ts) h m = ⊎_elim (λ i. not_misapplied s c k t h.0 i) (λ i. none_misapplied s c (k + parts t) ts h.1 i) m

  atom_not_both : (s c : Assignment) (ts : Expressions) (P Q : List Val → Type 0) → ((ws : List Val) → P ws → Q ws → ⊥) → AtomYes C s c ts P → AtomNo C s c ts Q → ⊥
  atom_not_both s c ts P Q f y n = ⊎_elim (λ m. none_misapplied s c 0 ts y.0 m) (λ q. f (values s c 0 ts) y.1 q) n

  equal_not_differ : (ws : List Val) → AreEqual ws → Differ ws → ⊥
  equal_not_differ [] e d = d
  equal_not_differ (v ∷ []) e d = d
  equal_not_differ (v ∷ w ∷ []) e d = d e
  equal_not_differ (v ∷ w ∷ u ∷ us) e d = d

  mutual
    not_both : (d : Choice) (i : ℕ) (g : Formula) (s : Assignment) → YesBy C d i g s → NoBy C d i g s → ⊥
    not_both d i (Equal a b) s y n = atom_not_both s (d i) (pair a b) AreEqual Differ equal_not_differ y n
    not_both d i (Call p ts) s y n = atom_not_both s (d i) ts (C.yes p) (C.no p) (K p) y n
    not_both d i (And gs) s y n = all_not_one d i gs s y n
    not_both d i (Or gs) s y n = one_not_all gs s y n
    not_both d i (If vs c t e) s y n =
        ⊎_elim
        (λ h. ⊎_elim (λ f. not_both h.2.0 0 c h.0 h.2.1 (f h.2.0)) (λ f. not_both h.3.0 0 t h.0 h.3.1 (f h.3.0)) (n.0 h.0 h.1))
        (λ h. ⊎_elim (λ f. not_both f.2.0 0 c f.0 f.2.1 (h.0 f.0 f.1 f.2.0)) (λ f. not_both h.1.0 0 e s h.1.1 (f h.1.0)) n.1)
        y
    not_both d i (Not g) s y n = not_both n.0 0 g s n.1 (y n.0)
    not_both d i (Exists vs g) s y n = not_both y.2.0 0 g y.0 y.2.1 (n y.0 y.1 y.2.0)

    all_not_one : (d : Choice) (i : ℕ) (gs : Formulas) (s : Assignment) → AllYesBy C d i gs s → OneNoBy C d i gs s → ⊥
    all_not_one d i no_formulas s y n = n
    all_not_one d i (formula_then g gs) s y n = ⊎_elim (λ h. not_both d i g s y.0 h) (λ h. all_not_one d (i + atoms g) gs s y.1 h) n

    one_not_all : (gs : Formulas) (s : Assignment) → OneYes C gs s → AllNo C gs s → ⊥
    one_not_all no_formulas s y n = y
    one_not_all (formula_then g gs) s y n = ⊎_elim (λ h. not_both h.0 0 g s h.1 (n.0 h.0)) (λ h. one_not_all gs s h n.1) y

  no_clause_is_both : (cls : List ClauseForm) (ws : List Val) → SomeClause C cls ws → NoClause C cls ws → ⊥
  no_clause_is_both [] ws y n = y
  no_clause_is_both (cl ∷ cls) ws y n = ⊎_elim (λ h. not_both h.1.0 0 (at_arguments ws cl) h.0 h.1.1 (n.0 h.0 h.1.0)) (λ h. no_clause_is_both cls ws h n.1) y

gives_not_denies : (o : Outcome) (vs : List Val) → GivesThese o vs → DeniesThese o vs → ⊥
gives_not_denies fails vs g d = g
gives_not_denies (gives outputs) vs g d = d g
gives_not_denies (throws e) vs g d = g
gives_not_denies (writes t outputs) vs g d = d g
gives_not_denies (reads k outputs) vs g d = d g
gives_not_denies (reads_and_throws k e) vs g d = g

builtin_or_not_both : (outcome : Builtin → List Val → Outcome) (op : Option Builtin) (P Q : List Val → Type 0) (ws : List Val) → (P ws → Q ws → ⊥) → builtin_or (GivenBy outcome) op P ws → builtin_or (DeniedBy outcome) op Q ws → ⊥
builtin_or_not_both outcome None P Q ws f y n = f y n
builtin_or_not_both outcome (Some op) P Q ws f y n = gives_not_denies (outcome op (marked true (inputs_of op) ws)) (marked false (inputs_of op) ws) y n

no_call_at_once : (P : World) (n p : ℕ) (ws : List Val) → (stage P n).yes p ws → (stage P n).no p ws → ⊥
no_call_at_once P zero p ws y n = builtin_or_not_both P.outcome (P.source.preds p).builtin (λ us. ⊥) (λ us. ⊥) ws (λ h i. h) y n
no_call_at_once P (suc m) p ws y n =
    let q = P.source.preds p in
    builtin_or_not_both P.outcome q.builtin (SomeClause (stage P m) q.clauses) (NoClause (stage P m) q.clauses) ws (no_clause_is_both (stage P m) (no_call_at_once P m) q.clauses ws) y n

pub no_call_is_both : NoCallIsBoth
no_call_is_both P m n p ws y d =
    no_call_at_once P (m + n) p ws ((stages_stay P m (m + n) (omega arith) p ws).0 y) ((stages_stay P n (m + n) (omega arith) p ws).1 d)

pub no_goal_is_both : NoGoalIsBoth
no_goal_is_both P m n g s y d =
    let k = m + n in
    not_both (stage P k) (no_call_at_once P k) y.0 0 g s (yes_stays (stage P m) (stage P k) (stages_stay P m k (omega arith)) y.0 0 g s y.1) (no_stays (stage P n) (stage P k) (stages_stay P n k (omega arith)) y.0 0 g s (d y.0))
