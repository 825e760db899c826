-- What stands while procedures are looked at again, and how a step keeps it.
use Rattle.std.proofs.Common.{◌≡◌, ◌≢◌, ◌⊎◌, inl, inr, ⊎_elim, ℕ, zero, suc, ◌+◌, ◌*◌, ◌^◌, ◌<◌, ◌≤◌, length, get_or, set, map, List, [], ◌∷◌, ◌++◌, true, false, Option, Some, None, refl, sym, subst, ◌∙◌, ap, arith, length-append}
use Rattle.std.specs.List.{Contains, sum_by}
use Rattle.std.proofs.lemmas.List.{get_or-set_same, get_or-set_other, length-set, length-map}
use Rattle.std.proofs.lemmas.List.Elements.{Contains-append_left, Contains-append_right, Contains-append_cases}
use Rattle.std.proofs.lemmas.List.Sums.{sum_by-set}
use Rattle.std.proofs.lemmas.Bool.{cases_eq, cases_lt, cases_Bool}
use Rattle.mc_source.specs.Determinism.{Determinism, det, inferred, row_of, Allows}
use Rattle.mc_source.specs.declared.det.Det.{Det}
use Rattle.laws_language.proofs.Monotone.{allows_itself}
use Rattle.mc_det_constraints.specs.declared.constraint.Step.{Step}
use Rattle.mc_det_constraints.specs.Skeletons.{either, value, calls}
use Rattle.mc_det_constraints.specs.Least.{assigned, body_at, declared_at, Closed, Least}
use Rattle.mc_det_constraints.specs.code.Callers.{AllBelow}
use Rattle.mc_det_constraints.specs.code.Pending.{PutAll}
use Rattle.mc_det_constraints.specs.code.Raising.{starts, room, Look}
use Rattle.mc_det_constraints.proofs.Laws.{monotone, depends}
use Rattle.mc_det_constraints.proofs.Allowing.{allows_in_turn, either_left, either_right, either_least, room_falls}

-- elements of a list with one more at its end
only : (p q : ℕ) → Contains (p ∷ []) q → q ≡ p
only p q c = let z : c.0 ≡ 0 = omega (arith, c.1) in sym (subst (λ j. get_or (p ∷ []) j q ≡ q) z c.2)

pub more_has : (xs : List ℕ) (p : ℕ) → ((q : ℕ) → q < p → Contains xs q) → (q : ℕ) → q < p + 1 → Contains (xs ++ p ∷ []) q
more_has xs p h q b = ⊎_elim (λ e. subst (λ z. Contains (xs ++ p ∷ []) z) (sym e) (Contains-append_right xs (p ∷ []) p (0, omega arith, refl))) (λ n. Contains-append_left xs (p ∷ []) q (h q (less n))) (cases_eq q p)
  where
    less : (q ≡ p → ⊥) → q < p
    less n = omega arith

pub more_below : (n : ℕ) (xs : List ℕ) (p : ℕ) → AllBelow n xs → p < n → AllBelow n (xs ++ p ∷ [])
more_below n xs p h b q c = ⊎_elim (λ i. h q i) (λ i. subst (λ z. z < n) (sym (only p q i)) b) (Contains-append_cases xs (p ∷ []) q c)

pub last_below : (n : ℕ) (all xs : List ℕ) (p : ℕ) → all ≡ xs ++ p ∷ [] → AllBelow n all → p < n
last_below n all xs p e b = b p (subst (λ ps. Contains ps p) (sym e) (Contains-append_right xs (p ∷ []) p (0, omega arith, refl)))

less_work : (a b l m n : ℕ) → a + 1 ≤ b → m < 2 ^ 64 → n ≤ l + m → a * 2 ^ 64 + n < b * 2 ^ 64 + (l + 1)
less_work a b l m n h k f = omega (arith, h, k, f)

start_at : (declared : List (Option Det)) (k : ℕ) → assigned (map starts declared) k ≡ starts (declared_at declared k)
start_at [] k = refl
start_at (d ∷ declared) zero = refl
start_at (d ∷ declared) (suc k) = start_at declared k

past_end : (ds : List Det) (k : ℕ) → length ds ≤ k → assigned ds k ≡ inferred det
past_end [] k h = refl
past_end (d ∷ ds) zero h = absurd (omega arith)
past_end (d ∷ ds) (suc k) h = past_end ds k (omega arith)

module _ (bodies : List (List Step)) (declared : List (Option Det)) where
  abbrev n : ℕ
  n = length bodies

  abbrev Open : ℕ → Type 0
  Open p = declared_at declared p ≡ None

  abbrev body : ℕ → (ℕ → Det) → Determinism
  body p ds = value ds (body_at bodies p)

  pub record Standing (dets : List Det) (left : List ℕ) : Type 0 where
    pub many : length dets ≡ length bodies
    pub below : AllBelow (length bodies) left
    pub declared_ones : (k : ℕ) (d : Det) → k < length bodies → declared_at declared k ≡ Some d → assigned dets k ≡ d
    pub at_least_det : (k : ℕ) → k < length bodies → declared_at declared k ≡ None → Allows (row_of (assigned dets k)) det
    pub uncommitted : (k : ℕ) → k < length bodies → declared_at declared k ≡ None → (assigned dets k).committed ≡ false
    pub at_most : (es : ℕ → Det) → Closed bodies declared es → (k : ℕ) → k < length bodies → Allows (row_of (es k)) (row_of (assigned dets k))
    pub settled : (p : ℕ) → p < length bodies → declared_at declared p ≡ None → Contains left p ⊎ Allows (row_of (assigned dets p)) (value (assigned dets) (body_at bodies p))

  -- a procedure that is declared, or isn't
  by_declared : {P : Type 0} (o : Option Det) → (o ≡ None → P) → ((d : Det) → o ≡ Some d → P) → P
  by_declared None f g = f refl
  by_declared (Some d) f g = g d refl

  pub begins : (left : List ℕ) → length declared ≡ length bodies → ((p : ℕ) → p < length bodies → Contains left p) → AllBelow (length bodies) left → Standing (map starts declared) left
  begins left many c b =
      record {
        many = length-map declared starts ∙ many;
        below = b;
        declared_ones = λ k d lt e. start_at declared k ∙ ap starts e;
        at_least_det = λ k lt e. subst (λ d. Allows (row_of d) det) (sym (start_at declared k ∙ ap starts e)) (allows_itself det);
        uncommitted = λ k lt e. ap (λ (d : Det). d.committed) (start_at declared k ∙ ap starts e);
        at_most = λ es closed k lt.
            by_declared (declared_at declared k)
            (λ e. subst (λ d. Allows (row_of (es k)) (row_of d)) (sym (start_at declared k ∙ ap starts e)) (closed.at_least_det k lt e))
            (λ d e. subst (λ x. Allows (row_of x) (row_of (assigned (map starts declared) k))) (start_at declared k ∙ ap starts e ∙ sym (closed.declared_ones k d lt e)) (allows_itself (row_of (assigned (map starts declared) k))));
        settled = λ p lt e. inl (c p lt);
      }

  pub ends : (dets : List Det) → Standing dets [] → Least bodies declared (assigned dets)
  ends dets s =
      record {
        closed =
            record {
              declared_ones = s.declared_ones;
              at_least_det = s.at_least_det;
              uncommitted = s.uncommitted;
              allows = λ k lt e. ⊎_elim (λ c. absurd (none k c)) (λ a. a) (s.settled k lt e);
              others = λ k le. past_end dets k (let m = s.many in omega arith);
            };
        least = s.at_most;
      }
    where
      none : (p : ℕ) → Contains [] p → ⊥
      none p c = omega (arith, c.1)

  -- a procedure that is looked at and stays as it is
  pub stays : (dets : List Det) (left : List ℕ) (p : ℕ) → Standing dets (left ++ p ∷ []) → (declared_at declared p ≡ None → Allows (row_of (assigned dets p)) (value (assigned dets) (body_at bodies p))) → Standing dets left
  stays dets left p s a =
      record {
        many = s.many;
        below = λ q c. s.below q (Contains-append_left left (p ∷ []) q c);
        declared_ones = s.declared_ones;
        at_least_det = s.at_least_det;
        uncommitted = s.uncommitted;
        at_most = s.at_most;
        settled = λ q lt o. ⊎_elim (λ c. ⊎_elim (λ i. inl i) (λ i. inr (here q o (only p q i))) (Contains-append_cases left (p ∷ []) q c)) (λ k. inr k) (s.settled q lt o);
      }
    where
      here : (q : ℕ) → declared_at declared q ≡ None → q ≡ p → Allows (row_of (assigned dets q)) (value (assigned dets) (body_at bodies q))
      here q o e = subst (λ z. Allows (row_of (assigned dets z)) (value (assigned dets) (body_at bodies z))) (sym e) (a (subst (λ z. declared_at declared z ≡ None) e o))

  -- a procedure that is looked at and raised; its callers are looked at again
  module _ (dets : List Det) (p : ℕ) where
    abbrev pub raised_to : Det
    raised_to = inferred (either (row_of (assigned dets p)) (value (assigned dets) (body_at bodies p)))

    module _ (left callers new : List ℕ) (put : PutAll callers left new) (has : (q : ℕ) → q < length bodies → calls p (body_at bodies q) ≡ true → Contains callers q) (callers_below : AllBelow (length bodies) callers) (b : p < length bodies) (o : declared_at declared p ≡ None) (s : Standing dets (left ++ p ∷ [])) where
      in_dets : p < length dets
      in_dets = subst (λ m. p < m) (sym s.many) b

      same_at : assigned (set dets p raised_to) p ≡ raised_to
      same_at = get_or-set_same dets p raised_to (inferred det) in_dets

      other_at : (q : ℕ) → q ≢ p → assigned (set dets p raised_to) q ≡ assigned dets q
      other_at q e = get_or-set_other dets p q raised_to (inferred det) e

      -- what holds of the raised one, and of the others as they were
      by_place : (P : ℕ → Det → Type 0) → P p raised_to → (q : ℕ) → (q ≢ p → P q (assigned dets q)) → P q (assigned (set dets p raised_to) q)
      by_place P h q k =
          ⊎_elim
          (λ (e : q ≡ p). subst (λ z. P z (assigned (set dets p raised_to) z)) (sym e) (subst (λ d. P p d) (sym same_at) h))
          (λ e. subst (λ d. P q d) (sym (other_at q e)) (k e))
          (cases_eq q p)

      all_below_closed : (es : ℕ → Det) → Closed bodies declared es → (k : ℕ) → Allows (row_of (es k)) (row_of (assigned dets k))
      all_below_closed es closed k = within (cases_lt k (length bodies))
        where
          within : (k < length bodies) ⊎ (length bodies ≤ k) → Allows (row_of (es k)) (row_of (assigned dets k))
          within (inl lt) = s.at_most es closed k lt
          within (inr le) =
              subst (λ d. Allows (row_of d) (row_of (assigned dets k))) (past_end dets k (let m = s.many in omega arith) ∙ sym (closed.others k le)) (allows_itself (row_of (assigned dets k)))

      value_same : (q : ℕ) → calls p (body_at bodies q) ≡ false → value (assigned (set dets p raised_to)) (body_at bodies q) ≡ value (assigned dets) (body_at bodies q)
      value_same q c = depends p (assigned dets) (assigned (set dets p raised_to)) other_at (body_at bodies q) c

      settles : (q : ℕ) → q < length bodies → declared_at declared q ≡ None → (calls p (body_at bodies q) ≡ true) ⊎ (calls p (body_at bodies q) ≡ false) → Contains new q ⊎ Allows (row_of (assigned (set dets p raised_to) q)) (value (assigned (set dets p raised_to)) (body_at bodies q))
      settles q lt r (inl c) = inl (put.are_there q (has q lt c))
      settles q lt r (inr c) =
          subst (λ v. Contains new q ⊎ Allows (row_of (assigned (set dets p raised_to) q)) v) (sym (value_same q c))
          (by_place (λ z d. Contains new z ⊎ Allows (row_of d) (value (assigned dets) (body_at bodies z)))
          (inr (either_right (row_of (assigned dets p)) (value (assigned dets) (body_at bodies p))))
          q
          (λ e. ⊎_elim
          (λ i. ⊎_elim (λ j. inl (put.kept q j)) (λ j. absurd (e (only p q j))) (Contains-append_cases left (p ∷ []) q i))
          (λ a. inr a)
          (s.settled q lt r)))

      pub raised : Standing (set dets p raised_to) new
      raised =
          record {
            many = length-set dets p raised_to ∙ s.many;
            below = λ q c. ⊎_elim (λ i. s.below q (Contains-append_left left (p ∷ []) q i)) (λ i. callers_below q i) (put.no_other q c);
            declared_ones = λ k d lt e.
                by_place (λ z x. declared_at declared z ≡ Some d → x ≡ d) (λ f. let i : None ≡ Some d = sym o ∙ f in cc) k (λ f g. s.declared_ones k d lt g) e;
            at_least_det = λ k lt e.
                by_place (λ z x. Allows (row_of x) det)
                (allows_in_turn det (row_of (assigned dets p)) (row_of raised_to) (s.at_least_det p b o) (either_left (row_of (assigned dets p)) (value (assigned dets) (body_at bodies p))))
                k (λ f. s.at_least_det k lt e);
            uncommitted = λ k lt e. by_place (λ z x. x.committed ≡ false) refl k (λ f. s.uncommitted k lt e);
            at_most = λ es closed k lt.
                by_place (λ z x. Allows (row_of (es z)) (row_of x))
                (either_least (row_of (assigned dets p)) (value (assigned dets) (body_at bodies p)) (row_of (es p)) (s.at_most es closed p b)
                (allows_in_turn (value (assigned dets) (body_at bodies p)) (value es (body_at bodies p)) (row_of (es p)) (monotone (assigned dets) es (all_below_closed es closed) (body_at bodies p)) (closed.allows p b o)))
                k (λ f. s.at_most es closed k lt);
            settled = λ q lt r. settles q lt r (cases_Bool (calls p (body_at bodies q)));
          }

    pub falls : (left more new : List ℕ) → PutAll more left new → length dets ≡ length bodies → p < length bodies → (Allows (row_of (assigned dets p)) (value (assigned dets) (body_at bodies p)) → ⊥) → length more < 2 ^ 64 → sum_by room (set dets p raised_to) * 2 ^ 64 + length new < sum_by room dets * 2 ^ 64 + length (left ++ p ∷ [])
    falls left more new put e b a m =
        subst (λ k. sum_by room (set dets p raised_to) * 2 ^ 64 + length new < sum_by room dets * 2 ^ 64 + k) (sym (length-append left (p ∷ [])))
        (less_work (sum_by room (set dets p raised_to)) (sum_by room dets) (length left) (length more) (length new)
        (omega (arith, sum_by-set room dets p raised_to (inferred det) (subst (λ k. p < k) (sym e) b), room_falls (assigned dets p) (value (assigned dets) (body_at bodies p)) a)) m put.fewer)

    -- as a step of the loop has it
    pub raised_after : (old left more new : List ℕ) (d : Det) → d ≡ raised_to → old ≡ left ++ p ∷ [] → PutAll more left new → ((q : ℕ) → q < length bodies → calls p (body_at bodies q) ≡ true → Contains more q) → AllBelow (length bodies) more → p < length bodies → declared_at declared p ≡ None → Standing dets old → Standing (set dets p d) new
    raised_after old left more new d e f put has callers_below b o s =
        subst (λ x. Standing (set dets p x) new) (sym e)
        (raised left more new put has callers_below b o (subst (Standing dets) f s))

    pub falls_after : (old left more new : List ℕ) (d : Det) → d ≡ raised_to → old ≡ left ++ p ∷ [] → PutAll more left new → length dets ≡ length bodies → p < length bodies → (Allows (row_of (assigned dets p)) (value (assigned dets) (body_at bodies p)) → ⊥) → length more < 2 ^ 64 → sum_by room (set dets p d) * 2 ^ 64 + length new < sum_by room dets * 2 ^ 64 + length old
    falls_after old left more new d e f put m b a few =
        subst (λ x. sum_by room (set dets p x) * 2 ^ 64 + length new < sum_by room dets * 2 ^ 64 + length old) (sym e)
        (subst (λ l. sum_by room (set dets p raised_to) * 2 ^ 64 + length new < sum_by room dets * 2 ^ 64 + length l) (sym f)
        (falls left more new put m b a few))

-- what is answered of a procedure that is looked at
pub look_raises : (o : Option Det) (was : Det) (now : Determinism) (a : Option Det) (d : Det) → Look o was now a → a ≡ Some d → (o ≡ None) × ((d ≡ inferred (either (row_of was) now)) × (Allows (row_of was) now → ⊥))
look_raises (Some x) was now a d h e = let i : None ≡ Some d = sym h ∙ e in cc
look_raises None was now None d h e = cc
look_raises None was now (Some x) d h e = let q : x ≡ d = cc in (refl, (sym q ∙ h.0, h.1))

pub look_stays : (o : Option Det) (was : Det) (now : Determinism) (a : Option Det) → Look o was now a → ((d : Det) → a ≡ Some d → ⊥) → o ≡ None → Allows (row_of was) now
look_stays (Some x) was now a h n e = cc
look_stays None was now None h n e = h
look_stays None was now (Some x) h n e = absurd (n x refl)
