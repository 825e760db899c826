-- A pass over waiting goals, from a place on.
use Rattle.std.proofs.Common.{◌≡◌, ◌∙◌, ℕ, suc, ◌<◌, ◌+◌, List, [], ◌∷◌, ◌++◌, length, get_or, take, drop, Option, Some, None, refl, sym, ap, ap₂, arith}
use Rattle.std.specs.List.{remove}
use Rattle.std.proofs.lemmas.List.{get_or-map, take_more, take-map, drop-map, map-append, length-map}
use Rattle.mc_program.specs.Programs.{TypeTerm, Source}
use Rattle.mc_model.specs.Flat.{Flat_goal, variables_of}
use Rattle.mc_model.specs.Scheduled.{Nodes}
use Rattle.mc_accepted.specs.Arranged.{Operations, Point, Declared, waits, negated_binds, branches_differ, lacks, Arranged, runs, breaks, Waiting, Picked, takes, none_runs, or_first, picked, pick, variables_of_waiting, trial}
use Rattle.mc_mode_state.specs.Answers.{plain_fault}
use Rattle.mc_mode_state.specs.declared.fault.ModeFault.{ModeFault}
use Rattle.mc_mode_state.specs.declared.fault.ModeFault.TheVariants as F
use Rattle.mc_mode_state.proofs.Numbers.{cons_at}
use Rattle.mc_modes.specs.code.Waiting.{nothing, variables_of_each, waiting_at, all_waiting, noted, plain_found}
use Rattle.mc_modes.specs.code.Sleeping.{Waits}

-- what was found first, and what is found from a place on
abbrev pub scanned : Option ModeFault → Picked ℕ → Picked ℕ
scanned None p = p
scanned (Some f) p = or_first (plain_fault f) p

first-of : (g f : ModeFault) (p : Picked ℕ) → or_first (plain_fault g) (or_first (plain_fault f) p) ≡ or_first (plain_fault g) p
first-of g f (takes vs ws gs o n) = refl
first-of g f (none_runs (Some lacks)) = refl
first-of g (F.Waits n vs) (none_runs None) = refl
first-of g (F.NegatedBinds v) (none_runs None) = refl
first-of g (F.BranchesDiffer v) (none_runs None) = refl
first-of g (F.Waits n vs) (none_runs (Some (waits m ws))) = refl
first-of g (F.NegatedBinds v) (none_runs (Some (waits m ws))) = refl
first-of g (F.BranchesDiffer v) (none_runs (Some (waits m ws))) = refl
first-of g (F.Waits n vs) (none_runs (Some (negated_binds w))) = refl
first-of g (F.NegatedBinds v) (none_runs (Some (negated_binds w))) = refl
first-of g (F.BranchesDiffer v) (none_runs (Some (negated_binds w))) = refl
first-of g (F.Waits n vs) (none_runs (Some (branches_differ w))) = refl
first-of g (F.NegatedBinds v) (none_runs (Some (branches_differ w))) = refl
first-of g (F.BranchesDiffer v) (none_runs (Some (branches_differ w))) = refl

-- a goal that doesn't run
pub scanned-on : (found : Option ModeFault) (f : ModeFault) (w : Waiting ℕ) (ws : List (Waiting ℕ)) (later : Picked ℕ)
    → scanned found (picked w ws (breaks (plain_fault f)) later) ≡ scanned (noted found f) later
scanned-on None (F.Waits n vs) w ws later = refl
scanned-on None (F.NegatedBinds v) w ws later = refl
scanned-on None (F.BranchesDiffer v) w ws later = refl
scanned-on (Some g) (F.Waits n vs) w ws later = refl
scanned-on (Some g) (F.NegatedBinds v) w ws later = first-of g (F.NegatedBinds v) later
scanned-on (Some g) (F.BranchesDiffer v) w ws later = first-of g (F.BranchesDiffer v) later

-- one that waits
pub scanned-waits : (found : Option ModeFault) (w : Waiting ℕ) (ws : List (Waiting ℕ)) (r : Arranged ℕ) (later : Picked ℕ) → Waits r → scanned found (picked w ws r later) ≡ scanned found later
scanned-waits found w ws (runs gs o n zs) later h = absurd h
scanned-waits found w ws (breaks (waits k vs)) later h = refl
scanned-waits found w ws (breaks (negated_binds v)) later h = absurd h
scanned-waits found w ws (breaks (branches_differ v)) later h = absurd h
scanned-waits found w ws (breaks lacks) later h = absurd h

-- one that runs
pub scanned-takes : (found : Option ModeFault) (vs : List ℕ) (ws : List (Waiting ℕ)) (gs : Nodes) (o : Option (Point ℕ)) (n : ℕ) → scanned found (takes vs ws gs o n) ≡ takes vs ws gs o n
scanned-takes None vs ws gs o n = refl
scanned-takes (Some f) vs ws gs o n = refl

-- none
pub scanned-none : (found : Option ModeFault) → scanned found (none_runs None) ≡ none_runs (plain_found found)
scanned-none None = refl
scanned-none (Some f) = refl

module _ (Op : Operations ℕ) (P : Source) (declared : ℕ → List Declared) (T : ℕ → TypeTerm) where
  abbrev ws_of : List Flat_goal → List (Waiting ℕ)
  ws_of gs = all_waiting Op P declared T gs

  pub all-variables : (gs : List Flat_goal) → variables_of_waiting (ws_of gs) ≡ variables_of_each gs
  all-variables [] = refl
  all-variables (g ∷ gs) = ap (λ vs. variables_of g ++ vs) (all-variables gs)

  pub remove-waiting : (gs : List Flat_goal) (k : ℕ) → remove (ws_of gs) k ≡ ws_of (remove gs k)
  remove-waiting gs k =
      ap₂ (λ (xs ys : List (Waiting ℕ)). xs ++ ys) (take-map (waiting_at Op P declared T) k gs) (drop-map (waiting_at Op P declared T) (suc k) gs)
      ∙ sym (map-append (waiting_at Op P declared T) (take k gs) (drop (suc k) gs))

  pub pick-at : (gs : List Flat_goal) (k : ℕ) (O : List ℕ) (n : ℕ) (b : Point ℕ) → k < length gs
      → pick (take k (ws_of gs)) (drop k (ws_of gs)) O n b
      ≡ picked (waiting_at Op P declared T (get_or gs k nothing)) (ws_of (remove gs k))
      (trial Op P declared T (get_or gs k nothing) (O ++ variables_of_each (remove gs k)) n b)
      (pick (take (k + 1) (ws_of gs)) (drop (k + 1) (ws_of gs)) O n b)
  pick-at gs k O n b h =
      let W = ws_of gs in
      let g = get_or gs k nothing in
      let w : Waiting ℕ = waiting_at Op P declared T g in
      let l : k < length W = omega (arith, h, length-map gs (waiting_at Op P declared T)) in
      let at : get_or W k w ≡ w = get_or-map (waiting_at Op P declared T) gs k nothing w h in
      let split : drop k W ≡ w ∷ drop (k + 1) W = cons_at W k w l ∙ ap (λ (v : Waiting ℕ). v ∷ drop (k + 1) W) at in
      let before : take k W ++ w ∷ [] ≡ take (k + 1) W = sym (take_more W k w l ∙ ap (λ (v : Waiting ℕ). take k W ++ v ∷ []) at) in
      let others : take k W ++ drop (k + 1) W ≡ ws_of (remove gs k) = ap (λ m. take k W ++ drop m W) (let e : k + 1 ≡ suc k = omega arith in e) ∙ remove-waiting gs k in
      ap (λ (us : List (Waiting ℕ)). pick (take k W) us O n b) split
      ∙ (ap₂ (λ (us vs : List (Waiting ℕ)). picked w us (w.trial (O ++ variables_of_waiting us) n b) (pick vs (drop (k + 1) W) O n b)) others before
      ∙ ap (λ vs. picked w (ws_of (remove gs k)) (w.trial (O ++ vs) n b) (pick (take (k + 1) W) (drop (k + 1) W) O n b)) (all-variables (remove gs k)))
