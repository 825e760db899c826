-- Entering and leaving bodies, step by step.
use Rattle.std.proofs.Common.{◌≡◌, ◌≢◌, ℕ, zero, suc, ◌+◌, ◌<◌, ◌≤◌, Bool, true, false, List, [], ◌∷◌, ◌++◌, Option, Some, None, Result, Ok, Err, IfOk, length, get_or, set, map, drop, refl, ap, sym, subst, ◌∙◌, arith}
use Rattle.std.specs.Prelude.{nat_eq, min, IfSome, if◌then◌else◌}
use Rattle.std.proofs.lemmas.List.{drop_more, drop_all, get_or-map, append_assoc, append-nil}
use Rattle.mc_base.specs.declared.memory.Memory.{Memory}
use Rattle.mc_program.specs.Values.{Val, plain_value}
use Rattle.mc_program.specs.declared.value.Value.{Value}
use Rattle.mc_values.specs.declared.heap.Heap.{Heap}
use Rattle.mc_model.specs.Events.{bound_values}
use Rattle.mc_model.specs.Stream.{Bindings, nothing_bound, is_bound, ready, enter, leave}
use Rattle.mc_plain.specs.Frames.{bindings, seen, seen_at}
use Rattle.mc_plain.specs.code.Steps.{lacks, kept}
use Rattle.mc_plain.proofs.Binding.{set_seen}

false_both : (b r : Bool) → r ≡ false → (if b then false else r) ≡ false
false_both true r e = refl
false_both false r e = e

-- rows of two lengths aren't ready
pub ready_lengths : (insts : List ℕ) (vs : List (Option Val)) → length insts ≢ length vs → ready insts vs ≡ false
ready_lengths [] [] differ = absurd (differ refl)
ready_lengths [] (v ∷ vs) differ = refl
ready_lengths (i ∷ insts) [] differ = refl
ready_lengths (i ∷ insts) (None ∷ vs) differ = false_both (is_bound i) (ready insts vs) (ready_lengths insts vs (λ q. differ (ap suc q)))
ready_lengths (i ∷ insts) (Some v ∷ vs) differ = ready_lengths insts vs (λ q. differ (ap suc q))

one_ready : (h : Heap) (i : ℕ) (insts : List ℕ) (o : Option ℕ) (vs : List (Option Val)) → ready (i ∷ insts) (seen h o ∷ vs) ≡ (if lacks i o then false else ready insts vs)
one_ready h i insts None vs = refl
one_ready h i insts (Some r) vs = refl

pub ready_step : (h : Heap) (insts : List ℕ) (vs : List (Option Val)) (k i : ℕ) (o : Option ℕ) → k < length insts → k < length vs → i ≡ get_or insts k 0 → get_or vs k None ≡ seen h o → ready (drop k insts) (drop k vs) ≡ (if lacks i o then false else ready (drop (k + 1) insts) (drop (k + 1) vs))
ready_step h insts vs k i o lt lt' at is =
    let p = drop_more insts k 0 lt in
    let q = drop_more vs k None lt' in
    (λ j. ready (p j) (q j))
    ∙ (λ j. ready (sym at j ∷ drop (k + 1) insts) (is j ∷ drop (k + 1) vs))
    ∙ one_ready h i (drop (k + 1) insts) o (drop (k + 1) vs)

pub ready_past : (insts : List ℕ) (vs : List (Option Val)) (k : ℕ) → length insts ≤ k → length insts ≡ length vs → ready (drop k insts) (drop k vs) ≡ true
ready_past insts vs k le same =
    let p = drop_all k insts le in
    let q = drop_all k vs (subst (λ n. n ≤ k) same le) in
    λ j. ready (p j) (q j)

-- the value of a variable among others
pub seen_var : (h : Heap) (frame : List (Option ℕ)) (vars : List ℕ) (k x : ℕ) (o : Option ℕ) → k < length vars → x ≡ get_or vars k 0 → get_or frame x None ≡ o → get_or (seen_at h frame vars) k None ≡ seen h o
seen_var h frame vars k x o lt at is =
    get_or-map (bindings h frame) vars k 0 None lt ∙ ap (bindings h frame) (sym at) ∙ ap (seen h) is

enter_no_values : (ys insts : List ℕ) → enter ys insts [] ≡ nothing_bound
enter_no_values [] insts = refl
enter_no_values (y ∷ ys) [] = refl
enter_no_values (y ∷ ys) (i ∷ insts) = refl

enter_no_insts : (ys : List ℕ) (vs : List (Option Val)) → enter ys [] vs ≡ nothing_bound
enter_no_insts [] vs = refl
enter_no_insts (y ∷ ys) vs = refl

-- past the end of one of the rows nothing is bound
pub enter_past : (k : ℕ) (ys insts : List ℕ) (vs : List (Option Val)) → min (min (length ys) (length insts)) (length vs) ≤ k → enter (drop k ys) (drop k insts) (drop k vs) ≡ nothing_bound
enter_past zero [] insts vs le = refl
enter_past zero (y ∷ ys) [] vs le = refl
enter_past zero (y ∷ ys) (i ∷ insts) [] le = refl
enter_past zero (y ∷ ys) (i ∷ insts) (v ∷ vs) le = absurd (omega arith)
enter_past (suc k) [] insts vs le = refl
enter_past (suc k) (y ∷ ys) [] vs le = enter_no_insts (drop k ys) (drop (suc k) vs)
enter_past (suc k) (y ∷ ys) (i ∷ insts) [] le = enter_no_values (drop k ys) (drop k insts)
enter_past (suc k) (y ∷ ys) (i ∷ insts) (v ∷ vs) le = enter_past k ys insts vs (omega arith)

kept_seen : (h : Heap) (b : Bool) (o : Option ℕ) → seen h (if b then o else None) ≡ (if b then seen h o else None)
kept_seen h true o = refl
kept_seen h false o = refl

-- a head variable is bound to its argument, where that is an input
module _ (h : Heap) (frame : List (Option ℕ)) (ys insts : List ℕ) (vs : List (Option Val)) (k y i : ℕ) (o : Option ℕ)
    (a : k < length ys) (b : k < length insts) (c : k < length vs) (y_at : y ≡ get_or ys k 0) (i_at : i ≡ get_or insts k 0) (is : get_or vs k None ≡ seen h o) where
  enter_opened : enter (drop k ys) (drop k insts) (drop k vs) ≡ (λ x. if nat_eq x y then (if is_bound i then seen h o else None) else enter (drop (k + 1) ys) (drop (k + 1) insts) (drop (k + 1) vs) x)
  enter_opened =
      let p = drop_more ys k 0 a in
      let q = drop_more insts k 0 b in
      let r = drop_more vs k None c in
      (λ j. enter (p j) (q j) (r j))
      ∙ (λ j. enter (sym y_at j ∷ drop (k + 1) ys) (sym i_at j ∷ drop (k + 1) insts) (is j ∷ drop (k + 1) vs))

  pub enter_step : y < length frame → bindings h frame ≡ enter (drop (k + 1) ys) (drop (k + 1) insts) (drop (k + 1) vs) → bindings h (set frame y (kept i o)) ≡ enter (drop k ys) (drop k insts) (drop k vs)
  enter_step lt e =
      set_seen h frame y (kept i o) lt
      ∙ (λ j x. if nat_eq x y then kept_seen h (is_bound i) o j else e j x)
      ∙ sym enter_opened

  pub enter_down : (n : ℕ) (p : Option ℕ) → n ≡ k + 1 → p ≡ kept i o → y < length frame → bindings h frame ≡ enter (drop n ys) (drop n insts) (drop n vs) → bindings h (set frame y p) ≡ enter (drop k ys) (drop k insts) (drop k vs)
  enter_down n p next is_kept lt e =
      ap (λ q. bindings h (set frame y q)) is_kept
      ∙ enter_step lt (e ∙ (λ j. enter (drop (next j) ys) (drop (next j) insts) (drop (next j) vs)))

-- the arguments of an answer, one by one
pub length-leave : (ys insts : List ℕ) (e : Bindings) → length (leave ys insts e) ≡ min (length ys) (length insts)
length-leave [] insts e = omega arith
length-leave (y ∷ ys) [] e = omega arith
length-leave (y ∷ ys) (i ∷ insts) e = omega (arith, length-leave ys insts e)

leave_at : (ys insts : List ℕ) (e : Bindings) (k : ℕ) → k < length ys → k < length insts → get_or (leave ys insts e) k None ≡ (if is_bound (get_or insts k 0) then e (get_or ys k 0) else None)
leave_at [] insts e k lt lt' = absurd (omega arith)
leave_at (y ∷ ys) [] e k lt lt' = absurd (omega arith)
leave_at (y ∷ ys) (i ∷ insts) e zero lt lt' = refl
leave_at (y ∷ ys) (i ∷ insts) e (suc k) lt lt' = leave_at ys insts e k (omega arith) (omega arith)

pub left_at : (h : Heap) (frame : List (Option ℕ)) (ys insts : List ℕ) (k y i : ℕ) (o p : Option ℕ) → k < length ys → k < length insts → y ≡ get_or ys k 0 → i ≡ get_or insts k 0 → o ≡ kept i (get_or frame y None) → o ≡ p → get_or (leave ys insts (bindings h frame)) k None ≡ seen h p
left_at h frame ys insts k y i o p lt lt' y_at i_at is same =
    leave_at ys insts (bindings h frame) k lt lt'
    ∙ (λ j. if is_bound (sym i_at j) then bindings h frame (sym y_at j) else None)
    ∙ sym (kept_seen h (is_bound i) (get_or frame y None))
    ∙ ap (seen h) (sym is ∙ same)

if_kept : (P : ℕ → Type 0) (b : Bool) (o : Option ℕ) → IfSome o P → IfSome (if b then o else None) P
if_kept P true o holds = holds
if_kept P false o holds = tt

pub kept_holds : (P : ℕ → Type 0) (i : ℕ) (o : Option ℕ) → IfSome o P → IfSome (kept i o) P
kept_holds P i o holds = if_kept P (is_bound i) o holds

-- the bound values among the arguments of an answer
bound_first : (o : Option Val) (os : List (Option Val)) → bound_values (o ∷ os) ≡ bound_values (o ∷ []) ++ bound_values os
bound_first None os = refl
bound_first (Some v) os = refl

pub put_behind : (os : List (Option Val)) (k : ℕ) (o : Option Val) (vs more whole : List Val) → k < length os → get_or os k None ≡ o → more ≡ vs ++ bound_values (o ∷ []) → vs ++ bound_values (drop k os) ≡ whole → more ++ bound_values (drop (k + 1) os) ≡ whole
put_behind os k o vs more whole lt at put e =
    ap (λ l. l ++ bound_values (drop (k + 1) os)) put
    ∙ append_assoc vs (bound_values (o ∷ [])) (bound_values (drop (k + 1) os))
    ∙ ap (λ l. vs ++ l) (sym (ap bound_values (drop_more os k None lt) ∙ ap (λ p. bound_values (p ∷ drop (k + 1) os)) at ∙ bound_first o (drop (k + 1) os)))
    ∙ e

pub all_put : (os : List (Option Val)) (k : ℕ) (vs whole : List Val) → length os ≤ k → vs ++ bound_values (drop k os) ≡ whole → vs ≡ whole
all_put os k vs whole le e = sym (ap (λ l. vs ++ bound_values l) (drop_all k os le) ∙ append-nil vs) ∙ e

pub if_row : (r : Result (List Value) Memory) (vs : List Value) (whole : List Val) → IfOk r (λ row. row ≡ vs) → map plain_value vs ≡ whole → IfOk r (λ row. map plain_value row ≡ whole)
if_row (Ok row) vs whole same e = ap (map plain_value) same ∙ e
if_row (Err m) vs whole same e = same
