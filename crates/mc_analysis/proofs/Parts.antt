-- What tests of parts tell of the whole.
use Rattle.std.proofs.Common.{◌≡◌, ◌<◌, ◌≤◌, ◌↔◌, ℕ, zero, suc, ◌+◌, Bool, true, false, true≢false, IsTrue, List, [], ◌∷◌, length, map, get_or, None, refl, sym, ap, subst, ◌∙◌, arith}
use Rattle.std.proofs.lemmas.List.{get_or-map, length-map}
use Rattle.mc_program.specs.Programs.{Predicate}
use Rattle.mc_program.specs.PlainPrograms.{plain_pred, no_pred, plain_program}
use Rattle.mc_program.specs.declared.program.Pred.{Pred}
use Rattle.mc_program.specs.declared.program.Program.{Program}
use Rattle.mc_model.specs.Lists.{from}
use Rattle.mc_model.specs.PlainGoals.{plain_flat}
use Rattle.mc_model.specs.declared.flat.Normal.{Normal}
use Rattle.mc_model.specs.declared.inst.ModeDecl.{ModeDecl}
use Rattle.mc_model.specs.declared.inst.Sig.{Sig}
use Rattle.mc_insts.proofs.Found.{by_order}
use Rattle.mc_procs.specs.Procedures.{PlainProcs, source_of}
use Rattle.mc_mode_state.specs.Modes.{ModeFits}
use Rattle.mc_modes.specs.Schedules.{NormalFits}
use Rattle.mc_modes.specs.Signatures.{modes_at, mode_in, no_mode, SigsFit}
use Rattle.mc_modes.specs.Numbering.{mode_ids}
use Rattle.mc_modes.specs.NormalGoals.{goal_at}
use Rattle.mc_modes.specs.declared.modes.ModeId.{ModeId}
use Rattle.mc_analysis.specs.Premises.{TellNumbers, GoalsFitModes}
use Rattle.mc_analysis.specs.code.Tests.{EachModesFit, ModeParts, number_in, FollowOn, FitsEach, PredFits, NormalParts}
use Rattle.mc_analysis.proofs.Flat.{are_below, is_known, both}

-- modes and signatures
pub mode_by : (n : ℕ) (m : ModeDecl) (b : Bool) → (IsTrue b ↔ ModeParts n m) → (IsTrue b ↔ ModeFits n m)
mode_by n m b h = (λ t. whole (h.0 t), λ f. h.1 (f.as_many, f.first, f.last))
  where
    whole : ModeParts n m → ModeFits n m
    whole p = record { as_many = p.0; first = p.1; last = p.2 }

at_each : (n : ℕ) (sigs : List Sig) → EachModesFit n sigs → SigsFit n sigs
at_each n [] h p = tt
at_each n (s ∷ ss) h zero = h.0
at_each n (s ∷ ss) h (suc p) = at_each n ss h.1 p

each_of : (n : ℕ) (sigs : List Sig) → SigsFit n sigs → EachModesFit n sigs
each_of n [] h = tt
each_of n (s ∷ ss) h = (h 0, each_of n ss (λ p. h (suc p)))

pub sigs_by : (n : ℕ) (sigs : List Sig) (b : Bool) → (IsTrue b ↔ EachModesFit n sigs) → (IsTrue b ↔ SigsFit n sigs)
sigs_by n sigs b h = (λ t. at_each n sigs (h.0 t), λ f. h.1 (each_of n sigs f))

-- numbers
abbrev behind : List ℕ → List ℕ
behind [] = []
behind (x ∷ xs) = xs

told : (sigs : List Sig) (n : ℕ) (ids : List ModeId) → FollowOn sigs n ids → map (number_in sigs) ids ≡ from n (length ids)
told sigs n [] h = refl
told sigs n (m ∷ ms) h =
    let e : n + 1 ≡ suc n = omega arith in
    ap (λ (x : ℕ). x ∷ map (number_in sigs) ms) h.0
    ∙ ap (λ (xs : List ℕ). n ∷ xs) (told sigs (n + 1) ms h.1 ∙ ap (λ (k : ℕ). from k (length ms)) e)

rest : (sigs : List Sig) (n : ℕ) (m : ModeId) (ms : List ModeId) → map (number_in sigs) (m ∷ ms) ≡ from n (length (m ∷ ms)) → map (number_in sigs) ms ≡ from (suc n) (length ms)
rest sigs n m ms e = ap behind e

follow : (sigs : List Sig) (n : ℕ) (ids : List ModeId) → map (number_in sigs) ids ≡ from n (length ids) → FollowOn sigs n ids
follow sigs n [] e = tt
follow sigs n (m ∷ ms) e =
    let s : suc n ≡ n + 1 = omega arith in (
      ap (λ (xs : List ℕ). get_or xs 0 0) e,
      follow sigs (n + 1) ms (rest sigs n m ms e ∙ ap (λ (k : ℕ). from k (length ms)) s),
    )

module _ (q : PlainProcs) (sigs : List Sig) (ids : List ModeId) (are : ids ≡ mode_ids q.program sigs) where
  length_from : (n k : ℕ) → length (from n k) ≡ k
  length_from n zero = refl
  length_from n (suc k) = ap suc (length_from (suc n) k)

  pub numbers_by : (b : Bool) → length ids ≡ length q.preds → (IsTrue b ↔ FollowOn sigs 0 ids) → (IsTrue b ↔ TellNumbers q sigs)
  numbers_by b e h = (
    λ t.
        subst (λ (l : List ModeId). map (number_in sigs) l ≡ from 0 (length q.preds)) are
        (told sigs 0 ids (h.0 t) ∙ ap (from 0) e),
    λ f.
        h.1 (follow sigs 0 ids
        (subst (λ (l : List ModeId). map (number_in sigs) l ≡ from 0 (length q.preds)) (sym are) f ∙ ap (from 0) (sym e))),
  )

  numbers_as_many : TellNumbers q sigs → length ids ≡ length q.preds
  numbers_as_many f =
      ap length are
      ∙ sym (length-map (mode_ids q.program sigs) (number_in sigs))
      ∙ ap length f
      ∙ length_from 0 (length q.preds)

  pub other_count : (length ids ≡ length q.preds → ⊥) → (IsTrue false ↔ TellNumbers q sigs)
  other_count differ = (λ t. absurd (true≢false (sym t)), λ f. absurd (differ (numbers_as_many f)))

-- goals
pub normal_by : (q : PlainProcs) (m : ModeDecl) (g : Normal) (b : Bool) → (IsTrue b ↔ NormalParts q m g) → (IsTrue b ↔ NormalFits q m g)
normal_by q m g b h = (λ t. whole (h.0 t), λ f. h.1 (parts f))
  where
    whole : NormalParts q m g → NormalFits q m g
    whole p = record {
      head = p.0;
      as_many = p.1;
      variables = are_below (length g.var_types) q.program (plain_flat g.body) p.2;
      known = is_known (length g.var_types) q.program (plain_flat g.body) p.2;
    }

    parts : NormalFits q m g → NormalParts q m g
    parts f = (f.head, f.as_many, both (length g.var_types) q.program (plain_flat g.body) f.variables f.known)

module _ (q : PlainProcs) (g : Normal) where
  mode_at : (ms : List ModeDecl) → FitsEach q g ms → (k : ℕ) → k < length ms → NormalFits q (get_or ms k no_mode) g
  mode_at [] h k lt = absurd (omega arith)
  mode_at (m ∷ ms) h zero lt = h.0
  mode_at (m ∷ ms) h (suc k) lt = mode_at ms h.1 k (omega arith)

  each_mode : (ms : List ModeDecl) → ((k : ℕ) → k < length ms → NormalFits q (get_or ms k no_mode) g) → FitsEach q g ms
  each_mode [] h = tt
  each_mode (m ∷ ms) h = (h 0 (omega arith), each_mode ms (λ k lt. h (suc k) (omega arith)))

pub builtin_at : (P : Program) (k : ℕ) (p : Pred) → k < length P.preds → p ≡ get_or P.preds k p → ((plain_program P).preds k).builtin ≡ p.builtin
builtin_at P k p l e =
    ap (λ (d : Predicate). d.builtin) (get_or-map plain_pred P.preds k p no_pred l ∙ ap plain_pred (sym e))

module _ (q : PlainProcs) (sigs : List Sig) (goals : List Normal) (k : ℕ) (b : Bool) where
  pub pred_by : (g : Normal) (ms : List ModeDecl) → g ≡ goal_at goals k → ms ≡ modes_at sigs k → ((source_of q).preds k).builtin ≡ None → (IsTrue b ↔ FitsEach q g ms) → (IsTrue b ↔ PredFits q sigs goals k)
  pred_by g ms is are none h = (
    λ t n j lt.
        subst (λ (x : Normal). NormalFits q (mode_in sigs k j) x) is
        (subst (λ (l : List ModeDecl). (i : ℕ) → i < length l → NormalFits q (get_or l i no_mode) g) are (mode_at q g ms (h.0 t)) j lt),
    λ f.
        h.1 (each_mode q g ms
        (subst (λ (l : List ModeDecl). (i : ℕ) → i < length l → NormalFits q (get_or l i no_mode) g) (sym are)
        (λ i lt. subst (λ (x : Normal). NormalFits q (mode_in sigs k i) x) (sym is) (f none i lt)))),
  )

  pub pred_builtin : (((source_of q).preds k).builtin ≡ None → ⊥) → IsTrue b → (IsTrue b ↔ PredFits q sigs goals k)
  pred_builtin some t = (λ u n j lt. absurd (some n), λ f. t)

  -- predicates in their order
  pub not_all : b ≡ false → k < length q.program.preds → (IsTrue b ↔ PredFits q sigs goals k) → (IsTrue false ↔ GoalsFitModes q sigs goals)
  not_all e lt h = (λ t. absurd (true≢false (sym t)), λ all. subst (λ (x : Bool). IsTrue x) e (h.1 (all k lt)))

module _ (q : PlainProcs) (sigs : List Sig) (goals : List Normal) (k : ℕ) (before : (p : ℕ) → p < k → PredFits q sigs goals p) where
  pub one_more : PredFits q sigs goals k → (p : ℕ) → p < k + 1 → PredFits q sigs goals p
  one_more fits p lt =
      by_order p k (λ l. before p l)
      (λ e. subst (λ (n : ℕ). PredFits q sigs goals n) (sym e) fits)
      (λ g. absurd (let no : ⊥ = omega arith in no))

  pub all_of_them : length q.program.preds ≤ k → (IsTrue true ↔ GoalsFitModes q sigs goals)
  all_of_them le = (λ t p lt. before p (omega arith), λ f. refl)
