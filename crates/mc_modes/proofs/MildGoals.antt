-- A mild goal waits, or runs to a reachable end at which other variables are as they are at a state.
use Rattle.std.proofs.Common.{◌≡◌, ◌∙◌, ◌⊎◌, inl, inr, ℕ, suc, ◌<◌, ◌≤◌, Bool, true, false, cond, not, nat_eq, nat_lt, ◌&&◌, ◌||◌, List, [], ◌∷◌, map, length, Option, Some, None, refl, sym, subst, ⊎_elim, arith}
use Rattle.std.specs.List.{list_any, list_all}
use Rattle.std.proofs.Math.Nat.{le_refl}
use Rattle.std.proofs.lemmas.Bool.{eqb-true, not-true, and_parts}
use Rattle.mc_source.specs.Determinism.{is_zero}
use Rattle.mc_program.specs.Values.{Val}
use Rattle.mc_program.specs.Programs.{TypeTerm, Source}
use Rattle.mc_program.specs.declared.builtin.Builtin.{Builtin}
use Rattle.mc_model.specs.Lists.{In, is_in}
use Rattle.mc_model.specs.Scheduled.{Scheduled, Call}
use Rattle.mc_model.specs.Stream.{is_bound}
use Rattle.mc_accepted.specs.Ordered.{Mode, is_state, modes_of, builtin_most}
use Rattle.mc_accepted.specs.Arranged.{Operations, Declared, waits, Point, with_inst, Arranged, runs, breaks, fresh_at, one, atom, assigned, same, built, made, constant, input_after, after_call, after, usable, implied_in, better, best, called, applying, applied_with, call_of}
use Rattle.mc_accepted.specs.NodeOracle.{NodeOracle, of_nodes}
use Rattle.mc_mode_state.specs.States.{point_of}
use Rattle.mc_mode_state.specs.declared.state.State.{State}
use Rattle.mc_modes.specs.code.Sleeping.{OfWaiting, Waits, Free, call_returns}

-- the kept variables are as they are at a state
abbrev pub KeptAt : State → Free → Point ℕ → Type 0
KeptAt s kept b = (x : ℕ) → kept x ≡ true → b x ≡ point_of s.insts.items x

-- none of these is kept
abbrev pub NoneKept : Free → List ℕ → Type 0
NoneKept kept vs = (x : ℕ) → kept x ≡ true → In x vs → ⊥

-- a kept variable is one of the first
abbrev pub FirstKept : Free → (first : ℕ) → Type 0
FirstKept kept first = (x : ℕ) → kept x ≡ true → x < first

-- A try waits, or runs to a reachable end where the kept variables still are as they were.
abbrev pub Mild : State → Free → (first : ℕ) → Arranged ℕ → Type 0
Mild s kept first (runs gs None m zs) = ⊥
Mild s kept first (runs gs (Some c) m zs) = (first ≤ m) × KeptAt s kept c
Mild s kept first (breaks f) = OfWaiting f

pub waiting-is-mild : (s : State) (kept : Free) (first : ℕ) (r : Arranged ℕ) → Waits r → Mild s kept first r
waiting-is-mild s kept first (runs gs o m zs) w = absurd w
waiting-is-mild s kept first (breaks f) w = w

with-inst-off : (x y i : ℕ) (b : Point ℕ) → (y ≡ x → ⊥) → with_inst ℕ x i b y ≡ b y
with-inst-off x y i b off = at (nat_eq y x) (eqb-true y x)
  where
    at : (t : Bool) → (t ≡ true → y ≡ x) → cond t i (b y) ≡ b y
    at true e = absurd (off (e refl))
    at false e = refl

cond-off : (t : Bool) (b c : Point ℕ) (x : ℕ) → c x ≡ b x → cond t b c x ≡ b x
cond-off true b c x e = refl
cond-off false b c x e = e

module _ (C : NodeOracle) (P : Source) (declared : ℕ → List Declared) (T : ℕ → TypeTerm) (s : State) (kept : Free) (first : ℕ) where
  abbrev Op : Operations ℕ
  Op = of_nodes C

  mild-if : (t : Bool) (p q : Arranged ℕ) → Mild s kept first p → Mild s kept first q → Mild s kept first (cond t p q)
  mild-if true p q h k = h
  mild-if false p q h k = k

  -- kept variables that stay as they were still are kept
  still-kept : (b c : Point ℕ) → KeptAt s kept b → ((x : ℕ) → kept x ≡ true → c x ≡ b x) → KeptAt s kept c
  still-kept b c u h x e = h x e ∙ u x e

  -- ---- equations
  assigned-off : (x y : ℕ) (b : Point ℕ) (z : ℕ) → (z ≡ x → ⊥) → (z ≡ y → ⊥) → assigned Op P declared T x y b z ≡ b z
  assigned-off x y b z p q = with-inst-off x z (b y) (cond (is_state (T y)) (with_inst ℕ y 3 b) b) p ∙ at (is_state (T y))
    where
      at : (t : Bool) → cond t (with_inst ℕ y 3 b) b z ≡ b z
      at true = with-inst-off y z 3 b q
      at false = refl

  same-is-mild : (x y n : ℕ) (b : Point ℕ) → first ≤ n → KeptAt s kept b → NoneKept kept (x ∷ y ∷ []) → Mild s kept first (same Op P declared T x y n b)
  same-is-mild x y n b le u off =
      mild-if (is_bound (b x)) _ _
      (mild-if (is_bound (b y)) _ _ (mild-if (is_state (T x)) _ _ tt (le, u))
      (le, still-kept b (assigned Op P declared T y x b) u (λ z e. assigned-off y x b z (λ q. off z e (inr (inl q))) (λ q. off z e (inl q)))))
      (mild-if (is_bound (b y)) _ _ (le, still-kept b (assigned Op P declared T x y b) u (λ z e. assigned-off x y b z (λ q. off z e (inl q)) (λ q. off z e (inr (inl q))))) tt)

  -- ---- calls
  call-off : (f : ℕ → Bool) (ms : List Mode) (xs : List ℕ) (b : Point ℕ) (z : ℕ) → (In z xs → ⊥) → after_call Op P declared T f ms xs b z ≡ b z
  call-off f [] xs b z off = refl
  call-off f (m ∷ ms) [] b z off = refl
  call-off f (m ∷ ms) (x ∷ xs) b z off =
      at (is_bound m.0) (not (is_bound m.1) || f x) (call-off f ms xs (input_after Op P declared T m x b) z (λ j. off (inr j))) (call-off f ms xs b z (λ j. off (inr j)))
      (call-off (λ y. cond (nat_eq y x) true (f y)) ms xs (with_inst ℕ x m.1 b) z (λ j. off (inr j)))
    where
      input-off : input_after Op P declared T m x b z ≡ b z
      input-off = cond-off (not (C.is_dead m.1) && C.fits (b x) m.1 (T x)) b (with_inst ℕ x m.1 b) z (with-inst-off x z m.1 b (λ e. off (inl e)))

      at : (t u : Bool) → after_call Op P declared T f ms xs (input_after Op P declared T m x b) z ≡ input_after Op P declared T m x b z → after_call Op P declared T f ms xs b z ≡ b z →
          after_call Op P declared T (λ y. cond (nat_eq y x) true (f y)) ms xs (with_inst ℕ x m.1 b) z ≡ with_inst ℕ x m.1 b z →
          cond t (after_call Op P declared T f ms xs (input_after Op P declared T m x b)) (cond u (after_call Op P declared T f ms xs b) (after_call Op P declared T (λ y. cond (nat_eq y x) true (f y)) ms xs (with_inst ℕ x m.1 b))) z ≡ b z
      at true u p q r = p ∙ input-off
      at false true p q r = q
      at false false p q r = r ∙ with-inst-off x z m.1 b (λ e. off (inl e))

  fresh-from : (k : ℕ) (is xs : List ℕ) (n z : ℕ) → In z (fresh_at k is xs n) → In z xs ⊎ (n ≤ z)
  fresh-from k is [] n z i = absurd i
  fresh-from k is (x ∷ xs) n z i = at (is_in k is) i (fresh-from (suc k) is xs (suc n) z) (fresh-from (suc k) is xs n z)
    where
      at : (t : Bool) → In z (cond t (n ∷ fresh_at (suc k) is xs (suc n)) (x ∷ fresh_at (suc k) is xs n)) → (In z (fresh_at (suc k) is xs (suc n)) → In z xs ⊎ (suc n ≤ z)) → (In z (fresh_at (suc k) is xs n) → In z xs ⊎ (n ≤ z)) → In z (x ∷ xs) ⊎ (n ≤ z)
      at true j f g = ⊎_elim (λ e. inr (subst (λ y. n ≤ y) (sym e) (le_refl n))) (λ l. ⊎_elim (λ q. inl (inr q)) (λ q. inr (omega (arith, q))) (f l)) j
      at false j f g = ⊎_elim (λ e. inl (inl e)) (λ l. ⊎_elim (λ q. inl (inr q)) (λ q. inr q) (g l)) j

  -- what returns
  returning-is-mild : (t : Bool) (g : Scheduled) (n : ℕ) (b c : Point ℕ) → t ≡ false → first ≤ n → KeptAt s kept c → Mild s kept first (one Op b g (cond t None (Some c)) n)
  returning-is-mild true g n b c e le u = absurd (cc e)
  returning-is-mild false g n b c e le u = (le, u)

  abbrev Returns : Option Declared → Type 0
  Returns None = Unit {0}
  Returns (Some d) = d.never ≡ false

  best-returns : (ds : List Declared) (xs : List ℕ) (b : Point ℕ) → list_all (λ (d : Declared). not d.never) ds ≡ true → Returns (best Op P declared T ds xs b)
  best-returns [] xs b e = tt
  best-returns (d ∷ ds) xs b e =
      let parts = and_parts (not d.never) (list_all (λ (d : Declared). not d.never) ds) e in
      at (usable Op P declared T xs d.modes xs b) (best Op P declared T ds xs b) (not-true d.never parts.0) (best-returns ds xs b parts.1)
    where
      either : (t : Bool) (c e : Declared) → c.never ≡ false → e.never ≡ false → Returns (Some (cond t c e))
      either true c e p q = p
      either false c e p q = q

      at : (t : Bool) (o : Option Declared) → d.never ≡ false → Returns o → Returns (cond t (Some (better Op P declared T xs b d o)) o)
      at true None p r = p
      at true (Some e) p r = either (nat_lt (length (implied_in Op P declared T e.modes xs b)) (length (implied_in Op P declared T d.modes xs b))) e d r p
      at false o p r = r

  called-is-mild : (o : Option Declared) (xs : List ℕ) (n : ℕ) (b : Point ℕ) → Returns o → first ≤ n → KeptAt s kept b → NoneKept kept xs → Mild s kept first (called Op P declared T o xs n b)
  called-is-mild None xs n b r le u off = tt
  called-is-mild (Some d) xs n b r le u off =
      returning-is-mild d.never (Call d.proc xs (implied_in Op P declared T d.modes xs b) false) n b (after Op P declared T d.modes xs b) r le
      (still-kept b (after Op P declared T d.modes xs b) u (λ z e. call-off (λ x. is_bound (b x)) d.modes xs b z (off z e)))

  applied-is-mild : (is : List ℕ) (op : Builtin) (xs : List ℕ) (n : ℕ) (b : Point ℕ) → is_zero (builtin_most op) ≡ false → first ≤ n → KeptAt s kept b → FirstKept kept first → NoneKept kept xs → Mild s kept first (applied_with Op P declared T is op xs n b)
  applied-is-mild [] op xs n b r le u lt off =
      returning-is-mild (is_zero (builtin_most op)) (applying Op P declared T op xs) n b (after Op P declared T (modes_of op) xs b) r le
      (still-kept b (after Op P declared T (modes_of op) xs b) u (λ z e. call-off (λ x. is_bound (b x)) (modes_of op) xs b z (off z e)))
  applied-is-mild (i ∷ is) op xs n b r le u lt off =
      let zs = fresh_at 0 (i ∷ is) xs n in (
        omega (arith, le),
        still-kept b (after Op P declared T (modes_of op) zs b) u
            (λ z e. call-off (λ x. is_bound (b x)) (modes_of op) zs b z (λ j. ⊎_elim (off z e) (λ q. let l = lt z e in omega arith) (fresh-from 0 (i ∷ is) xs n z j))),
      )

  call-is-mild : (o : Option Builtin) (p : ℕ) (xs : List ℕ) (n : ℕ) (b : Point ℕ) → call_returns P declared o p ≡ true → first ≤ n → KeptAt s kept b → FirstKept kept first → NoneKept kept xs → Mild s kept first (call_of Op P declared T o p xs n b)
  call-is-mild None p xs n b e le u lt off = called-is-mild (best Op P declared T (declared p) xs b) xs n b (best-returns (declared p) xs b e) le u off
  call-is-mild (Some op) p xs n b e le u lt off =
      mild-if (usable Op P declared T xs (modes_of op) xs b) _ _ (applied-is-mild (implied_in Op P declared T (modes_of op) xs b) op xs n b (not-true (is_zero (builtin_most op)) e) le u lt off) tt

  atom-is-mild : (xs : List ℕ) (b : Point ℕ) (r : Arranged ℕ) → Mild s kept first r → Mild s kept first (atom Op P declared T xs b r)
  atom-is-mild xs b r h = mild-if (list_any (λ x. C.is_dead (b x)) xs) _ _ tt h

  -- ---- equations of a free variable with a constructor or a constant
  mild-else : (t : Bool) (p q : Arranged ℕ) → t ≡ false → Mild s kept first q → Mild s kept first (cond t p q)
  mild-else true p q e h = absurd (cc e)
  mild-else false p q e h = h

  mild-then : (t : Bool) (p q : Arranged ℕ) → t ≡ true → Mild s kept first p → Mild s kept first (cond t p q)
  mild-then true p q e h = h
  mild-then false p q e h = absurd (cc e)

  set-keeps : (x i : ℕ) (b : Point ℕ) → KeptAt s kept b → NoneKept kept (x ∷ []) → KeptAt s kept (with_inst ℕ x i b)
  set-keeps x i b u off = still-kept b (with_inst ℕ x i b) u (λ z e. with-inst-off x z i b (λ q. off z e (inl q)))

  pub made-is-mild : (x f : ℕ) (ys : List ℕ) (n : ℕ) (b : Point ℕ) → first ≤ n → KeptAt s kept b → NoneKept kept (x ∷ []) → is_bound (b x) ≡ false
      → (list_any (λ y. not (is_bound (b y)) || is_state (T y)) ys ≡ true) ⊎ ((k : ℕ) × (C.over f (map b ys) ≡ Some k)) → Mild s kept first (atom Op P declared T (x ∷ ys) b (made Op P declared T x f ys n b))
  made-is-mild x f ys n b le u off free h =
      atom-is-mild (x ∷ ys) b (made Op P declared T x f ys n b)
      (mild-else (is_bound (b x)) _ _ free
      (⊎_elim (λ e. mild-then (list_any (λ y. not (is_bound (b y)) || is_state (T y)) ys) _ _ e tt)
      (λ k.
      mild-if (list_any (λ y. not (is_bound (b y)) || is_state (T y)) ys) _ _ tt
      (subst (λ (o : Option ℕ). Mild s kept first (built Op P declared T x f ys n b o)) (sym k.1) (le, set-keeps x k.0 b u off))) h))

  pub constant-is-mild : (x : ℕ) (v : Val) (n : ℕ) (b : Point ℕ) → first ≤ n → KeptAt s kept b → NoneKept kept (x ∷ []) → is_bound (b x) ≡ false
      → Mild s kept first (atom Op P declared T (x ∷ []) b (constant Op P declared T x v n b))
  constant-is-mild x v n b le u off free =
      atom-is-mild (x ∷ []) b (constant Op P declared T x v n b) (mild-else (is_bound (b x)) _ _ free (le, set-keeps x 1 b u off))

  pub same-runs : (x y : ℕ) → NoneKept kept (x ∷ y ∷ []) → (n : ℕ) (b : Point ℕ) → first ≤ n → KeptAt s kept b → Mild s kept first (atom Op P declared T (x ∷ y ∷ []) b (same Op P declared T x y n b))
  same-runs x y off n b le u = atom-is-mild (x ∷ y ∷ []) b (same Op P declared T x y n b) (same-is-mild x y n b le u off)

  pub call-runs : (p : ℕ) (xs : List ℕ) → call_returns P declared (P.preds p).builtin p ≡ true → FirstKept kept first → NoneKept kept xs → (n : ℕ) (b : Point ℕ) → first ≤ n → KeptAt s kept b
      → Mild s kept first (atom Op P declared T xs b (call_of Op P declared T (P.preds p).builtin p xs n b))
  call-runs p xs e lt off n b le u = atom-is-mild xs b (call_of Op P declared T (P.preds p).builtin p xs n b) (call-is-mild (P.preds p).builtin p xs n b e le u lt off)
