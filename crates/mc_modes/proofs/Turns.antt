-- Goals in turn, from a point on.
use Rattle.std.proofs.Common.{◌≡◌, ◌∙◌, ℕ, suc, ◌<◌, ◌+◌, Bool, true, false, List, [], ◌∷◌, ◌++◌, map, length, if◌then◌else◌, Some, None, refl, sym, ap, ap₂, arith}
use Rattle.std.specs.List.{remove}
use Rattle.std.proofs.lemmas.List.{length-map, map-append}
use Rattle.std.proofs.lemmas.List.Edits.{length-remove}
use Rattle.mc_program.specs.Programs.{TypeTerm, Source}
use Rattle.mc_model.specs.Flat.{Flat_goal, flats}
use Rattle.mc_model.specs.Scheduled.{Nodes, no_nodes, node_then, nodes, Node}
use Rattle.mc_model.specs.PlainGoals.{plain_node}
use Rattle.mc_model.specs.declared.sched.GoalNode.{GoalNode}
use Rattle.mc_accepted.specs.Arranged.{Operations, Point, Declared, Fault, Arranged, runs, breaks, waits, Waiting, takes, none_runs, pick, with_fresh, stuck, goes_on, behind, in_turn, trials, count_flat, free_at, nodes_before}
use Rattle.mc_accepted.specs.Ordered.{times_in}
use Rattle.mc_modes.specs.code.Waiting.{variables_of_each, waiting_at, all_waiting}
use Rattle.mc_modes.proofs.Counts.{times-append}
use Rattle.mc_modes.proofs.Branching.{before-none}
use Rattle.mc_modes.proofs.Picks.{all-variables}

before-before : (gs hs ks : Nodes) → nodes_before (nodes_before gs hs) ks ≡ nodes_before gs (nodes_before hs ks)
before-before no_nodes hs ks = refl
before-before (node_then g gs) hs ks = ap (node_then g) (before-before gs hs ks)

nodes-append : (gs hs : List Node) → nodes (gs ++ hs) ≡ nodes_before (nodes gs) (nodes hs)
nodes-append [] hs = refl
nodes-append (g ∷ gs) hs = ap (node_then g) (nodes-append gs hs)

-- goals that ran, with those that a part added
pub done-more : (done part all : List GoalNode) → all ≡ done ++ part → nodes (map plain_node all) ≡ nodes_before (nodes (map plain_node done)) (nodes (map plain_node part))
done-more done part all e = ap (λ (gs : List GoalNode). nodes (map plain_node gs)) e ∙ (ap nodes (map-append plain_node done part) ∙ nodes-append (map plain_node done) (map plain_node part))

-- what is left to do behind goals that ran
abbrev pub unfinished : Bool → Nodes → Arranged ℕ → (next : ℕ) → Arranged ℕ
unfinished true done a n = behind done a
unfinished false done a n = runs done None n []

behind-behind : (gs hs : Nodes) (a : Arranged ℕ) → behind gs (behind hs a) ≡ behind (nodes_before gs hs) a
behind-behind gs hs (breaks f) = refl
behind-behind gs hs (runs ks o n zs) = ap (λ l. runs l o n []) (sym (before-before gs hs ks))

pub times-fresh : (x : ℕ) (vs zs : List ℕ) → times_in x (with_fresh vs zs) ≡ times_in x vs + times_in x zs
times-fresh x vs [] = omega arith
times-fresh x vs (z ∷ zs) = times-append x vs (z ∷ zs)

module _ (Op : Operations ℕ) (P : Source) (declared : ℕ → List Declared) (T : ℕ → TypeTerm) where
  abbrev ws_of : List Flat_goal → List (Waiting ℕ)
  ws_of gs = all_waiting Op P declared T gs

  abbrev pub turn : List Flat_goal → List ℕ → ℕ → Point ℕ → Arranged ℕ
  turn gs O n b = in_turn Op P declared T (length gs) (ws_of gs) O n b

  pub trials-are : (gs : List Flat_goal) → trials Op P declared T (flats gs) ≡ ws_of gs
  trials-are [] = refl
  trials-are (g ∷ gs) = ap (λ ws. waiting_at Op P declared T g ∷ ws) (trials-are gs)

  pub count-is : (gs : List Flat_goal) → count_flat (flats gs) ≡ length gs
  count-is [] = refl
  count-is (g ∷ gs) = ap suc (count-is gs)

  -- the goal in a place runs, to a reachable point
  turn-takes : (gs : List Flat_goal) (k : ℕ) (O vs : List ℕ) (n m : ℕ) (b c : Point ℕ) (ns : Nodes) → k < length gs
      → pick [] (ws_of gs) O n b ≡ takes vs (ws_of (remove gs k)) ns (Some c) m
      → turn gs O n b ≡ behind ns (turn (remove gs k) (O ++ vs) m c)
  turn-takes [] k O vs n m b c ns h e = absurd (omega arith)
  turn-takes (g ∷ gs) k O vs n m b c ns h e =
      ap (λ p. goes_on (stuck Op P declared T (ws_of (g ∷ gs)) b) p (λ us rest l d. in_turn Op P declared T (length gs) rest (O ++ us) l d)) e
      ∙ ap (λ j. behind ns (in_turn Op P declared T j (ws_of (remove (g ∷ gs) k)) (O ++ vs) m c))
      (let q : length gs ≡ length (remove (g ∷ gs) k) = omega (arith, length-remove (g ∷ gs) k h) in q)

  turn-ends : (gs : List Flat_goal) (k : ℕ) (O vs : List ℕ) (n m : ℕ) (b : Point ℕ) (ns : Nodes) → k < length gs
      → pick [] (ws_of gs) O n b ≡ takes vs (ws_of (remove gs k)) ns None m → turn gs O n b ≡ runs ns None m []
  turn-ends [] k O vs n m b ns h e = absurd (omega arith)
  turn-ends (g ∷ gs) k O vs n m b ns h e =
      ap (λ p. goes_on (stuck Op P declared T (ws_of (g ∷ gs)) b) p (λ us rest l d. in_turn Op P declared T (length gs) rest (O ++ us) l d)) e

  -- one goal more ran
  pub turned : (gs : List Flat_goal) (k : ℕ) (O vs : List ℕ) (n m : ℕ) (b : Point ℕ) (reachable : Bool) (c : Point ℕ) (done ns all : Nodes) → k < length gs
      → pick [] (ws_of gs) O n b ≡ takes vs (ws_of (remove gs k)) ns (if reachable then Some c else None) m
      → all ≡ nodes_before done ns
      → unfinished reachable all (turn (remove gs k) (O ++ vs) m c) m ≡ behind done (turn gs O n b)
  turned gs k O vs n m b true c done ns all h e f =
      ap (λ l. behind l (turn (remove gs k) (O ++ vs) m c)) f
      ∙ (sym (behind-behind done ns (turn (remove gs k) (O ++ vs) m c)) ∙ ap (behind done) (sym (turn-takes gs k O vs n m b c ns h e)))
  turned gs k O vs n m b false c done ns all h e f =
      ap (λ l. let a : Arranged ℕ = runs l None m [] in a) f ∙ ap (behind done) (sym (turn-ends gs k O vs n m b ns h e))

  -- no goal is left
  pub turned-all : (gs : List Flat_goal) (O : List ℕ) (n : ℕ) (b : Point ℕ) (done : Nodes) → gs ≡ [] → behind done (turn gs O n b) ≡ runs done (Some b) n []
  turned-all [] O n b done e = ap (λ l. let a : Arranged ℕ = runs l (Some b) n [] in a) (before-none done)
  turned-all (g ∷ gs) O n b done e = absurd (cc e)

  -- none runs
  pub turned-none : (gs : List Flat_goal) (O : List ℕ) (n : ℕ) (b : Point ℕ) (done : Nodes) (f : Fault) → 0 < length gs
      → pick [] (ws_of gs) O n b ≡ none_runs (Some f) → behind done (turn gs O n b) ≡ breaks f
  turned-none [] O n b done f h e = absurd (omega arith)
  turned-none (g ∷ gs) O n b done f h e =
      ap (λ p. behind done (goes_on (stuck Op P declared T (ws_of (g ∷ gs)) b) p (λ us rest l d. in_turn Op P declared T (length gs) rest (O ++ us) l d))) e

  pub turned-stuck : (gs : List Flat_goal) (O : List ℕ) (n : ℕ) (b : Point ℕ) (done : Nodes) → 0 < length gs
      → pick [] (ws_of gs) O n b ≡ none_runs None
      → behind done (turn gs O n b) ≡ breaks (waits (length gs) (free_at Op P declared T b (variables_of_each gs)))
  turned-stuck [] O n b done h e = absurd (omega arith)
  turned-stuck (g ∷ gs) O n b done h e =
      ap (λ p. behind done (goes_on (stuck Op P declared T (ws_of (g ∷ gs)) b) p (λ us rest l d. in_turn Op P declared T (length gs) rest (O ++ us) l d))) e
      ∙ ap₂ (λ j vs. let a : Arranged ℕ = breaks (waits j (free_at Op P declared T b vs)) in a)
      (length-map (g ∷ gs) (waiting_at Op P declared T)) (all-variables Op P declared T (g ∷ gs))
