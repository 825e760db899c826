-- An ordered goal stays ordered where the same variables stand outside in another order, and what a
-- goal opens is free in it.
use Rattle.std.proofs.Common.{◌≡◌, ◌⊎◌, inl, ℕ, List, [], ◌∷◌, ◌++◌, Bool, true, false, not, if◌then◌else◌, Option, Some, None, refl, sym, ap, subst, ⊎_elim}
use Rattle.mc_program.specs.Programs.{TypeTerm}
use Rattle.mc_model.specs.Outcomes.{inputs_of}
use Rattle.mc_model.specs.Flat.{Flat_goal, Flat_goals, variables_of, variables_of_all, free_in, free_in_all}
use Rattle.mc_model.specs.Lists.{In}
use Rattle.mc_model.specs.Scheduled.{for_symbol, for_constant, Node, node, Scheduled, Apply, Nodes, node_then, Arms}
use Rattle.mc_model.specs.Good.{System}
use Rattle.mc_accepted.specs.Ordered as R
use Rattle.mc_accepted.specs.Ordered.{Insts, Picks, here, there, at_inputs, at_outputs, tested_by, firsts, is_pruned, Ordered, OrderedNode, OrderedAll, OrderedAny, OrderedArms, kept, variables_of_node, variables_of_nodes}
use Rattle.mc_accepted.specs.Switched.{Opening, is_equation, is_constant, openings, openings_in, openings_all, label_in, is_told}
use Rattle.laws_language.proofs.ClauseNumbers.{in_without}
use Rattle.laws_accepted.proofs.Outside.{Same, same_append, same_binds}
use Rattle.laws_accepted.proofs.FormVariables.{told_part, told_one}
use Rattle.laws_language.proofs.FlatGoals.{in_either, in_left, in_right}

pub same_pruned : (Q Z : List ℕ) (b : Insts) (o : Option Insts) → Same Q Z → is_pruned Q b o ≡ is_pruned Z b o
same_pruned Q Z b None same = refl
same_pruned Q Z b (Some c) same = ap not (same_binds Q Z b c same)

pub same_apart : (fresh O Q Z own : List ℕ) → Same Q Z → ((x : ℕ) → In x fresh → In x (O ++ (Q ++ own)) → ⊥) → (x : ℕ) → In x fresh → In x (O ++ (Z ++ own)) → ⊥
same_apart fresh O Q Z own same a x i j =
    a x i (⊎_elim (λ k. in_left x O (Q ++ own) k) (λ k. in_right x O (Q ++ own) ((same_append Q Z own same).1 x k)) (in_either x O (Z ++ own) j))

module _ (S : System) (T : ℕ → TypeTerm) where
  mutual
    pub moved_in : {O Q : List ℕ} {b : Insts} {g : Flat_goal} {s : Scheduled} {o : Option Insts} → Ordered S T O Q b g s o → (Z : List ℕ) → Same Q Z → Ordered S T O Z b g s o
    moved_in (R.assign bx by nd) Z same = R.assign bx by nd
    moved_in (R.assign_back bx by nd) Z same = R.assign_back bx by nd
    moved_in (R.test bx by st nd) Z same = R.test bx by st nd
    moved_in (R.build bx ab ns nd over) Z same = R.build bx ab ns nd over
    moved_in (R.take bx nd a over) Z same = R.take bx nd a over
    moved_in (R.take_never bx nd never) Z same = R.take_never bx nd never
    moved_in (R.put bx) Z same = R.put bx
    moved_in (R.test_constant bx nd a) Z same = R.test_constant bx nd a
    moved_in (R.test_never bx nd never) Z same = R.test_never bx nd never
    moved_in (R.call lt u nd a) Z same = R.call lt u nd a
    moved_in (R.apply e u nd i a) Z same = R.apply e u nd i a
    moved_in (R.implied_alone h) Z same = R.implied_alone (moved_all h Z same)
    moved_in (R.conj h) Z same = R.conj (moved_all h Z same)
    moved_in (R.disj h j) Z same = R.disj (moved_any h Z same) j
    moved_in (R.switch bx i h j) Z same = R.switch bx i (moved_arms h Z same) j
    moved_in (R.ite {Q = Q} {n = n} {t = t} out g none h k j) Z same =
        R.ite out (moved_node g (Z ++ variables_of_node t) (same_append Q Z (variables_of_node t) same)) none (moved_node h (Z ++ variables_of_node n) (same_append Q Z (variables_of_node n) same)) (moved_node k Z same) j
    moved_in (R.ite_never out g e k j) Z same = R.ite_never out (moved_node g Z same) e (moved_node k Z same) j
    moved_in (R.neg h none) Z same = R.neg (moved_node h Z same) none
    moved_in (R.some out h) Z same = R.some out (moved_node h Z same)

    moved_node : {O Q : List ℕ} {b : Insts} {g : Flat_goal} {n : Node} {o : Option Insts} → OrderedNode S T O Q b g n o → (Z : List ℕ) → Same Q Z → OrderedNode S T O Z b g n o
    moved_node (kept {O = O} {Q = Q} {b = b} {g = g} {s = s} {changes = changes} {det = d} {o = o} r k) Z same =
        subst (λ m. OrderedNode S T O Z b g (node s changes d m) o) (sym (same_pruned Q Z b o same)) (kept (moved_in r Z same) k)

    moved_all : {O Q : List ℕ} {b : Insts} {gs : Flat_goals} {ns : Nodes} {o : Option Insts} → OrderedAll S T O Q b gs ns o → (Z : List ℕ) → Same Q Z → OrderedAll S T O Z b gs ns o
    moved_all R.done Z same = R.done
    moved_all (R.dropped pk h) Z same = R.dropped pk (moved_node h Z same)
    moved_all (R.next {Q = Q} {n = n} {ns = ns} pk h hs) Z same =
        R.next pk (moved_node h (Z ++ variables_of_nodes ns) (same_append Q Z (variables_of_nodes ns) same)) (moved_all hs (Z ++ variables_of_node n) (same_append Q Z (variables_of_node n) same))
    moved_all (R.implied_outputs {O = O} {Q = Q} {b = b} {c = c} {op = op} {xs = xs} {zs = zs} {gs = gs} {changes = changes} {d = d} {ns = ns} {o = o} tests pk e most f nd di ap1 ts u i a k r) Z same =
        (let later : List ℕ = variables_of_nodes (tested_by tests ns) in
        subst (λ m. OrderedAll S T O Z b gs (node_then (node (Apply op (at_inputs (inputs_of op) zs) (at_outputs (inputs_of op) zs)) changes d m) (tested_by tests ns)) o)
        (sym (same_pruned (Q ++ later) (Z ++ later) b (Some c) (same_append Q Z later same)))
        (R.implied_outputs tests pk e most f nd di (same_apart (firsts tests) O Q Z (variables_of_all gs) same ap1) ts u i a k (moved_all r (Z ++ (xs ++ zs)) (same_append Q Z (xs ++ zs) same))))

    moved_any : {O Q : List ℕ} {b : Insts} {gs : Flat_goals} {ns : Nodes} {os : List (Option Insts)} → OrderedAny S T O Q b gs ns os → (Z : List ℕ) → Same Q Z → OrderedAny S T O Z b gs ns os
    moved_any R.no_other Z same = R.no_other
    moved_any (R.either h hs) Z same = R.either (moved_node h Z same) (moved_any hs Z same)

    moved_arms : {O Q : List ℕ} {b : Insts} {x : ℕ} {gs : Flat_goals} {arms : Arms} {os : List (Option Insts)} → OrderedArms S T O Q b x gs arms os → (Z : List ℕ) → Same Q Z → OrderedArms S T O Z b x gs arms os
    moved_arms R.no_arm Z same = R.no_arm
    moved_arms (R.arm p l op a h r) Z same = R.arm p l op a (moved_node h Z same) (moved_arms r Z same)

  -- ---- what a goal opens is free in it, where it occurs outside
  free_goal : {gs rest : Flat_goals} {g : Flat_goal} → Picks gs g rest → (x : ℕ) → In x (free_in g) → In x (free_in_all gs)
  free_goal (here {g = g} {gs = gs}) x i = in_left x (free_in g) (free_in_all gs) i
  free_goal (there {k = k} {gs = gs} p) x i = in_right x (free_in k) (free_in_all gs) (free_goal p x i)

  free_rest : {gs rest : Flat_goals} {g : Flat_goal} → Picks gs g rest → (x : ℕ) → In x (free_in_all rest) → In x (free_in_all gs)
  free_rest (here {g = g} {gs = gs}) x i = in_right x (free_in g) (free_in_all gs) i
  free_rest (there {k = k} {gs = gs} {rest = rest} p) x i =
      ⊎_elim (λ j. in_left x (free_in k) (free_in_all gs) j) (λ j. in_right x (free_in k) (free_in_all gs) (free_rest p x j)) (in_either x (free_in k) (free_in_all rest) i)

  module _ (x : ℕ) where
    by_equation : (t : Bool) (os us : List Opening) (A : Type 0) → is_told (label_in x (if t then os ++ us else [])) ≡ true → (is_told (label_in x os) ≡ true → A) → (is_told (label_in x us) ≡ true → A) → A
    by_equation true os us A e f h = ⊎_elim f h (told_part x os us e)
    by_equation false os us A e f h = cc

    mutual
      free_opened_in : {O Q : List ℕ} {b : Insts} {g : Flat_goal} {s : Scheduled} {o : Option Insts} → Ordered S T O Q b g s o → is_told (label_in x (openings_in s)) ≡ true → In x O → In x (free_in g)
      free_opened_in (R.assign bx by nd) e i = cc
      free_opened_in (R.assign_back bx by nd) e i = cc
      free_opened_in (R.test bx by st nd) e i = cc
      free_opened_in (R.build bx ab ns nd over) e i = cc
      free_opened_in (R.take {x = y} {s = s} bx nd a over) e i = inl (told_one x y (for_symbol s) e)
      free_opened_in (R.take_never {x = y} {s = s} bx nd never) e i = inl (told_one x y (for_symbol s) e)
      free_opened_in (R.put bx) e i = cc
      free_opened_in (R.test_constant {x = y} {v = v} bx nd a) e i = at (is_constant v) e
        where
          at : (t : Bool) → is_told (label_in x (if t then (y, for_constant v) ∷ [] else [])) ≡ true → (x ≡ y) ⊎ ⊥
          at true e = inl (told_one x y (for_constant v) e)
          at false e = cc
      free_opened_in (R.test_never {x = y} {v = v} bx nd never) e i = at (is_constant v) e
        where
          at : (t : Bool) → is_told (label_in x (if t then (y, for_constant v) ∷ [] else [])) ≡ true → (x ≡ y) ⊎ ⊥
          at true e = inl (told_one x y (for_constant v) e)
          at false e = cc
      free_opened_in (R.call lt u nd a) e i = cc
      free_opened_in (R.apply q u nd j a) e i = cc
      free_opened_in (R.implied_alone {xs = xs} h) e i = ⊎_elim (λ j. j) (λ j. absurd j) (in_either x xs [] (free_opened_all h e i))
      free_opened_in (R.conj h) e i = free_opened_all h e i
      free_opened_in (R.disj h j) e i = cc
      free_opened_in (R.switch bx k h j) e i = cc
      free_opened_in (R.ite out g none h k j) e i = cc
      free_opened_in (R.ite_never out g q k j) e i = cc
      free_opened_in (R.neg h none) e i = cc
      free_opened_in (R.some {vs = vs} {g = g} out h) e i = in_without x (free_in g) vs (free_opened h e i) (λ j. out x j i)

      pub free_opened : {O Q : List ℕ} {b : Insts} {g : Flat_goal} {n : Node} {o : Option Insts} → OrderedNode S T O Q b g n o → is_told (label_in x (openings n)) ≡ true → In x O → In x (free_in g)
      free_opened (kept r k) e i = free_opened_in r e i

      free_opened_all : {O Q : List ℕ} {b : Insts} {gs : Flat_goals} {ns : Nodes} {o : Option Insts} → OrderedAll S T O Q b gs ns o → is_told (label_in x (openings_all ns)) ≡ true → In x O → In x (free_in_all gs)
      free_opened_all R.done e i = cc
      free_opened_all (R.dropped {O = O} {gs = gs} {rest = rest} {n = n} pk h) e i =
          by_equation (is_equation n) (openings n) [] (In x (free_in_all gs)) e (λ q. free_goal pk x (free_opened h q (in_left x O (variables_of_all rest) i))) (λ q. cc)
      free_opened_all (R.next {O = O} {g = g} {gs = gs} {rest = rest} {n = n} {ns = ns} pk h hs) e i =
          by_equation (is_equation n) (openings n) (openings_all ns) (In x (free_in_all gs)) e (λ q. free_goal pk x (free_opened h q (in_left x O (variables_of_all rest) i))) (λ q. free_rest pk x (free_opened_all hs q (in_left x O (variables_of g) i)))
      free_opened_all (R.implied_outputs tests pk q most f nd di ap1 ts u j a k r) e i = cc
