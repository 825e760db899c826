-- Normal goals of predicates that have their clauses.
use Rattle.std.proofs.Common.{◌≡◌, ◌<◌, ℕ, zero, suc, List, [], ◌∷◌, map, length, get_or, slice_get, Some, refl, sym, ap, ap₂, ◌∙◌, subst, arith}
use Rattle.std.proofs.lemmas.List.{length-map}
use Rattle.std.proofs.lemmas.Option.{slice_get-get_or, get_or_from_slice_get}
use Rattle.mc_program.specs.Programs.{Predicate, ClauseForm, Source}
use Rattle.mc_program.specs.PlainPrograms.{plain_type, plain_pred, plain_program, no_pred}
use Rattle.mc_program.specs.declared.program.Pred.{Pred}
use Rattle.mc_program.specs.declared.program.Program.{Program}
use Rattle.mc_program.specs.declared.program.Resolved.{Resolved}
use Rattle.mc_model.specs.Lists.{from}
use Rattle.mc_model.specs.PlainGoals.{plain_flat}
use Rattle.mc_model.specs.declared.flat.Normal.{Normal}
use Rattle.mc_accepted.specs.Normal.{normal_goal}
use Rattle.mc_goals.specs.Resolved.{clause_of, typed_clause}
use Rattle.mc_core_program.specs.Whole.{with_clauses, each_with_clauses}
use Rattle.mc_core_program.specs.Goals.{IsNormal, AreNormal}
use Rattle.mc_accepted.specs.NormalGoals.{no_goal, goal_at, IsNormalGoal, HasNormalGoals}
use Rattle.mc_core_program.specs.WholeProgramGoals.{IsTypedGoal, HasTypedGoals}
use Rattle.mc_core_program.specs.code.Rows.{IsJoined}
use Rattle.mc_core_program.specs.declared.whole_program_program.WholeProgram.{WholeProgram}

-- LISTS BY NUMBER

there : {A : Type 0} (xs : List A) (k : ℕ) → k < length xs → (x : A) × (slice_get xs k ≡ Some x)
there [] k less = absurd (omega arith)
there (x ∷ xs) zero less = (x, refl)
there (x ∷ xs) (suc k) less = there xs k (omega arith)

mapped_at : {A B : Type 0} (f : A → B) (xs : List A) (k : ℕ) (x : A) (d : B) → slice_get xs k ≡ Some x → get_or (map f xs) k d ≡ f x
mapped_at f [] k x d is = absurd (cc)
mapped_at f (y ∷ ys) zero x d is = (let same : y ≡ x = cc in ap f same)
mapped_at f (y ∷ ys) (suc k) x d is = mapped_at f ys k x d is

-- PREDICATES WITH CLAUSES

pub each_length : (ps : List Predicate) (css : List (List ClauseForm)) → length (each_with_clauses ps css) ≡ length ps
each_length [] css = refl
each_length (p ∷ ps) [] = ap suc (each_length ps [])
each_length (p ∷ ps) (cs ∷ css) = ap suc (each_length ps css)

each_at :
    (preds : List Pred) (rows : List (List Resolved)) (k : ℕ) (p : Pred) (own : List Resolved)
    → slice_get preds k ≡ Some p → slice_get rows k ≡ Some own
    → get_or (each_with_clauses (map plain_pred preds) (map (map clause_of) rows)) k no_pred
    ≡ with_clauses (plain_pred p) (map clause_of own)
each_at [] rows k p own is has = absurd (cc)
each_at (q ∷ qs) [] k p own is has = absurd (cc)
each_at (q ∷ qs) (r ∷ rs) zero p own is has =
    let same : q ≡ p = cc in
    let rows : r ≡ own = cc in
    ap₂ (λ a cs. with_clauses (plain_pred a) (map clause_of cs)) same rows
each_at (q ∷ qs) (r ∷ rs) (suc k) p own is has = each_at qs rs k p own is has

-- GOALS

-- the goal of one predicate
abbrev IsGoalOf : ℕ → Normal → Predicate → Type 0
IsGoalOf k g p =
    (g.pred ≡ k) × (g.head ≡ from 0 (length p.types))
    × (plain_flat g.body ≡ (normal_goal (length p.types) p.clauses).body)

goal_of :
    (k : ℕ) (p : Pred) (own : List Resolved) (g : Normal)
    → IsNormal k p own g → IsGoalOf k g (with_clauses (plain_pred p) (map clause_of own))
goal_of k p own g is =
    let as_many : length p.types ≡ length (map plain_type p.types) = sym (length-map p.types plain_type) in (
      is.pred,
      is.head ∙ ap (from 0) as_many,
      is.body ∙ ap (λ n. (normal_goal n (map clause_of own)).body) as_many,
    )

-- what is known of a number that both have
record Beside (preds : List Pred) (rows : List (List Resolved)) (goals : List Normal) (k : ℕ) : Type 0 where
  pred : Pred
  own : List Resolved
  is : slice_get preds k ≡ Some pred
  has : slice_get rows k ≡ Some own
  normal : IsNormal k pred own (goal_at goals k)

beside :
    (preds : List Pred) (rows : List (List Resolved)) (goals : List Normal) (k : ℕ)
    → length rows ≡ length preds → AreNormal preds rows goals → k < length rows
    → Beside preds rows goals k
beside preds rows goals k same are less =
    let p = there preds k (omega (arith, same, less)) in
    let r = there rows k less in
    let g : slice_get goals k ≡ Some (goal_at goals k) = slice_get-get_or goals k no_goal (omega (arith, less, are.count)) in
    record {
      pred = p.0;
      own = r.0;
      is = p.1;
      has = r.1;
      normal = are.each k (goal_at goals k) p.0 r.0 g p.1 r.1;
    }

pub has_normal_goals :
    (preds : List Pred) (rows : List (List Resolved)) (made : Program) (goals : List Normal)
    → length rows ≡ length preds → AreNormal preds rows goals
    → map plain_pred made.preds ≡ each_with_clauses (map plain_pred preds) (map (map clause_of) rows)
    → HasNormalGoals made goals
has_normal_goals preds rows made goals same are with =
    let as_many : length made.preds ≡ length preds =
    sym (length-map made.preds plain_pred)
    ∙ ap length with
    ∙ each_length (map plain_pred preds) (map (map clause_of) rows)
    ∙ length-map preds plain_pred
    in
    record {
      as_many = are.count ∙ same ∙ sym as_many;
      each = λ k less.
          let b = beside preds rows goals k same are (omega (arith, less, as_many, same)) in
          let at_k : (plain_program made).preds k ≡ with_clauses (plain_pred b.pred) (map clause_of b.own) =
          ap (λ ps. get_or ps k no_pred) with ∙ each_at preds rows k b.pred b.own b.is b.has
          in
          let known : IsGoalOf k (goal_at goals k) ((plain_program made).preds k) =
          subst (IsGoalOf k (goal_at goals k)) (sym at_k) (goal_of k b.pred b.own (goal_at goals k) b.normal)
          in
          record { pred = known.0; head = known.1; body = known.2 };
    }

pub has_typed_goals :
    (preds : List Pred) (rows : List (List Resolved)) (goals : List Normal)
    → length rows ≡ length preds → AreNormal preds rows goals
    → HasTypedGoals (map plain_pred preds) (map (map typed_clause) rows) goals
has_typed_goals preds rows goals same are k less =
    let b = beside preds rows goals k same are (omega (arith, less, are.count)) in
    let at_k : get_or (map plain_pred preds) k no_pred ≡ plain_pred b.pred = mapped_at plain_pred preds k b.pred no_pred b.is in
    let own : get_or (map (map typed_clause) rows) k [] ≡ map typed_clause b.own = mapped_at (map typed_clause) rows k b.own [] b.has in
    subst (λ p. IsTypedGoal p (get_or (map (map typed_clause) rows) k []) (goal_at goals k)) (sym at_k)
    (subst (λ cs. IsTypedGoal (plain_pred b.pred) cs (goal_at goals k)) (sym own)
    (record { types = b.normal.types; names = b.normal.names }))

pub joined_is :
    (program : Program) (rows kept put : List (List Resolved)) (whole : WholeProgram)
    → length rows ≡ length program.preds → kept ≡ rows → put ≡ kept
    → AreNormal program.preds kept whole.goals.items
    → whole.program.types ≡ program.types
    → whole.program.symbols ≡ program.symbols
    → map plain_pred whole.program.preds ≡ each_with_clauses (map plain_pred program.preds) (map (map clause_of) put)
    → IsJoined program rows whole
joined_is program rows kept put whole same keeps puts are types symbols preds =
    let normal : AreNormal program.preds rows whole.goals.items = subst (λ rs. AreNormal program.preds rs whole.goals.items) keeps are in
    let with : map plain_pred whole.program.preds ≡ each_with_clauses (map plain_pred program.preds) (map (map clause_of) rows) =
    preds ∙ ap (λ rs. each_with_clauses (map plain_pred program.preds) (map (map clause_of) rs)) (puts ∙ keeps)
    in
    record {
      types = types;
      symbols = symbols;
      preds = with;
      goals = has_normal_goals program.preds rows whole.program whole.goals.items same normal with;
      typed = has_typed_goals program.preds rows whole.goals.items same normal;
    }
