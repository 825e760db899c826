-- Unifying and gathering, step by step.
use Rattle.std.proofs.Common.{◌≡◌, ◌≢◌, ℕ, suc, ◌+◌, ◌<◌, ◌≤◌, Bool, true, false, List, [], ◌∷◌, ◌++◌, Option, Some, None, length, get_or, map, drop, refl, ap, sym, subst, ◌∙◌, arith}
use Rattle.std.proofs.lemmas.List.{drop_more, drop_all, length-map, get_or-map, append_assoc, append-nil}
use Rattle.mc_program.specs.Values.{Val}
use Rattle.mc_values.specs.declared.heap.Heap.{Heap}
use Rattle.mc_values.specs.Heap.{value_at, values_at}
use Rattle.mc_model.specs.Stream.{Bindings, meet, and_then, unify, both, gather}
use Rattle.mc_plain.specs.Frames.{bindings, seen, given}
use Rattle.mc_plain.specs.code.Steps.{meet_if}

none_then : (o : Option Bindings) (f : Bindings → Option Bindings) → ((e : Bindings) → f e ≡ None) → and_then o f ≡ None
none_then None f never = refl
none_then (Some e) f never = never e

-- rows of two lengths don't unify
pub unify_lengths : (xs : List ℕ) (vs : List (Option Val)) (e : Bindings) → length xs ≢ length vs → unify xs vs e ≡ None
unify_lengths [] [] e differ = absurd (differ refl)
unify_lengths [] (v ∷ vs) e differ = refl
unify_lengths (x ∷ xs) [] e differ = refl
unify_lengths (x ∷ xs) (None ∷ vs) e differ = unify_lengths xs vs e (λ q. differ (ap suc q))
unify_lengths (x ∷ xs) (Some v ∷ vs) e differ = none_then (meet x v e (e x)) (unify xs vs) (λ f. unify_lengths xs vs f (λ q. differ (ap suc q)))

-- at place k of two rows
module _ (xs : List ℕ) (vs : List (Option Val)) (k : ℕ) (e : Bindings) (lt : k < length xs) (lt' : k < length vs) where
  opened : unify (drop k xs) (drop k vs) e ≡ unify (get_or xs k 0 ∷ drop (k + 1) xs) (get_or vs k None ∷ drop (k + 1) vs) e
  opened =
      let p = drop_more xs k 0 lt in
      let q = drop_more vs k None lt' in
      λ i. unify (p i) (q i) e

  first_met : (x : ℕ) (o : Option Val) (ys : List ℕ) (ws : List (Option Val)) → unify (x ∷ ys) (o ∷ ws) e ≡ and_then (meet_if x o e) (unify ys ws)
  first_met x None ys ws = refl
  first_met x (Some v) ys ws = refl

  module _ (whole : Option Bindings) (so_far : whole ≡ unify (drop k xs) (drop k vs) e) (o : Option Val) (met : Bool) (f : Bindings)
      (at : get_or vs k None ≡ o) (is : meet_if (get_or xs k 0) o e ≡ given met f) where
    abbrev rest : Bindings → Option Bindings
    rest = unify (drop (k + 1) xs) (drop (k + 1) vs)

    one_met : whole ≡ and_then (given met f) rest
    one_met =
        so_far ∙ opened
        ∙ ap (λ p. unify (get_or xs k 0 ∷ drop (k + 1) xs) (p ∷ drop (k + 1) vs) e) at
        ∙ first_met (get_or xs k 0) o (drop (k + 1) xs) (drop (k + 1) vs)
        ∙ ap (λ p. and_then p rest) is

    pub fails_here : met ≡ false → whole ≡ None
    fails_here differ = one_met ∙ ap (λ (b : Bool). and_then (given b f) rest) differ

    pub goes_on : met ≡ true → whole ≡ rest f
    goes_on same = one_met ∙ ap (λ (b : Bool). and_then (given b f) rest) same

-- past the end
pub unified : (xs : List ℕ) (vs : List (Option Val)) (k : ℕ) (e : Bindings) → length xs ≤ k → length xs ≡ length vs → unify (drop k xs) (drop k vs) e ≡ Some e
unified xs vs k e le same =
    let p = drop_all k xs le in
    let q = drop_all k vs (subst (λ n. n ≤ k) same le) in
    λ i. unify (p i) (q i) e

-- the values of these and then those, where there are some
abbrev pub behind : List Val → Option (List Val) → Option (List Val)
behind vs None = None
behind vs (Some ws) = Some (vs ++ ws)

behind_one : (vs : List Val) (v : Val) (o : Option (List Val)) → behind vs (both (Some v) o) ≡ behind (vs ++ (v ∷ [])) o
behind_one vs v None = refl
behind_one vs v (Some ws) = ap Some (sym (append_assoc vs (v ∷ []) ws))

module _ (h : Heap) (frame : List (Option ℕ)) (xs : List ℕ) (k x : ℕ) (lt : k < length xs) (at : x ≡ get_or xs k 0) where
  gather_opened : gather (drop k xs) (bindings h frame) ≡ both (seen h (get_or frame x None)) (gather (drop (k + 1) xs) (bindings h frame))
  gather_opened =
      ap (λ l. gather l (bindings h frame)) (drop_more xs k 0 lt) ∙ ap (λ y. both (bindings h frame y) (gather (drop (k + 1) xs) (bindings h frame))) (sym at)

  pub gather_one : (vs : List Val) (r : ℕ) → get_or frame x None ≡ Some r → behind vs (gather (drop k xs) (bindings h frame)) ≡ behind (vs ++ (value_at h r ∷ [])) (gather (drop (k + 1) xs) (bindings h frame))
  gather_one vs r some =
      ap (behind vs) (gather_opened ∙ ap (λ o. both (seen h o) (gather (drop (k + 1) xs) (bindings h frame))) some)
      ∙ behind_one vs (value_at h r) (gather (drop (k + 1) xs) (bindings h frame))

  pub gather_none : (vs : List Val) → get_or frame x None ≡ None → behind vs (gather (drop k xs) (bindings h frame)) ≡ None
  gather_none vs none =
      ap (behind vs) (gather_opened ∙ ap (λ o. both (seen h o) (gather (drop (k + 1) xs) (bindings h frame))) none)

pub gathered : (h : Heap) (frame : List (Option ℕ)) (xs : List ℕ) (k : ℕ) (vs : List Val) → length xs ≤ k → behind vs (gather (drop k xs) (bindings h frame)) ≡ Some vs
gathered h frame xs k vs le = ap (λ l. behind vs (gather l (bindings h frame))) (drop_all k xs le) ∙ ap Some (append-nil vs)

pub behind_none : (o : Option (List Val)) → behind [] o ≡ o
behind_none None = refl
behind_none (Some vs) = refl

-- the values of Refs that are all there
pub all_seen : (h : Heap) (refs : List ℕ) (k r : ℕ) → k < length refs → r ≡ get_or refs k 0 → get_or (map Some (values_at h refs)) k None ≡ Some (value_at h r)
all_seen h refs k r lt at =
    get_or-map Some (values_at h refs) k (value_at h 0) None (omega (arith, length-map refs (value_at h)))
    ∙ ap Some (get_or-map (value_at h) refs k 0 (value_at h 0) lt ∙ ap (value_at h) (sym at))

pub length_all_seen : (h : Heap) (refs : List ℕ) → length (map Some (values_at h refs)) ≡ length refs
length_all_seen h refs = length-map (values_at h refs) Some ∙ length-map refs (value_at h)

pub one_seen : (h : Heap) (refs : List (Option ℕ)) (k : ℕ) (o : Option ℕ) → k < length refs → get_or refs k None ≡ o → get_or (map (seen h) refs) k None ≡ seen h o
one_seen h refs k o lt e = get_or-map (seen h) refs k None None lt ∙ ap (seen h) e
