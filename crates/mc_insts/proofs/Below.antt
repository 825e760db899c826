-- Pairs that are below by their nodes alone.
use Rattle.std.proofs.Common.{◌≡◌, ◌⊎◌, inl, inr, ℕ, zero, suc, ◌≤◌, true, [], refl, sym, ap, subst, arith}
use Rattle.mc_insts.specs.declared.graph.Node.{Node}
use Rattle.mc_insts.specs.declared.graph.Node.TheVariants as N
use Rattle.mc_insts.specs.declared.graph.Shape.{Shape}
use Rattle.mc_insts.specs.declared.graph.Shape.TheVariants as S
use Rattle.mc_insts.specs.declared.triples.Triple.{Triple}
use Rattle.mc_insts.specs.code.Cases.{row_has, marks}
use Rattle.mc_insts.specs.code.Steps.{same_of}
use Rattle.mc_insts.specs.code.Merges.{Builtins, Widened, Done, Clash, Apart, Next}
use Rattle.mc_insts.specs.code.Walks.{Scene, node_at, low_of, high_of, row_of, child, Settled, Under, Tips, Upto, Below, Within}
use Rattle.mc_insts.proofs.Steps.{closed_below, has_by_marks, arg_by_marks}

pub under_along : (M K L H : Node) → M ≡ L → K ≡ H → Under M K → Under L H
under_along M K L H e f h = subst (λ X. Under L X) f (subst (λ X. Under X K) e h)

module _ (C : Scene) where
  below_settled : (t : Triple) → Settled C.nodes t → Below C t
  below_settled t s n = closed_below C [] (λ m u h. let w = h.within in absurd (omega arith)) n t (inl s)

  pub below_same : (i r : ℕ) → Below C (same_of i i r)
  below_same i r = below_settled (same_of i i r) (inl refl)

  pub below_equal : (i j r : ℕ) → i ≡ j → Below C (same_of i j r)
  below_equal i j r e = below_settled (same_of i j r) (inl e)

  pub below_under : (i j r : ℕ) → Under (node_at C.nodes i) (node_at C.nodes j) → Below C (same_of i j r)
  below_under i j r h = below_settled (same_of i j r) (inr h)

  marks_most : (M : Node) → marks M ≤ 3
  marks_most N.Free = omega arith
  marks_most N.Ground = omega arith
  marks_most N.Unique = omega arith
  marks_most N.Dead = omega arith
  marks_most (N.Bound cs) = omega arith

  dead_tips : (M K : Node) (R : Shape) → marks K ≡ 3 → Tips M K R
  dead_tips M K S.Constants e = λ h. omega arith
  dead_tips M K S.State e = let x = marks_most M in omega arith
  dead_tips M K S.Any e = let x = marks_most M in omega arith
  dead_tips M K (S.Union cs) e = tt

  pub below_dead : (n k : ℕ) → marks (node_at C.nodes k) ≡ 3 → (j r : ℕ) → Upto C n (same_of j k r)
  below_dead zero k e j r = tt
  below_dead (suc n) k e j r =
      let t = same_of j k r in (
        dead_tips (low_of C t) (high_of C t) (row_of C t) e,
        λ f counts. (
          has_by_marks C (high_of C t) f (omega arith),
          λ a lt. subst (λ h. Upto C n (same_of (child C t f a).low h (child C t f a).row)) (sym (arg_by_marks C (high_of C t) k f a (omega arith))) (below_dead n k e (child C t f a).low (child C t f a).row),
        ),
      )

  -- at a row without constructors
  abbrev Plain : Shape → Type 0
  Plain S.Constants = Unit {0}
  Plain S.State = Unit {0}
  Plain S.Any = ⊥
  Plain (S.Union cs) = ⊥

  plain_tips : (M K : Node) (R : Shape) → Plain R → marks M ≡ 0 → Tips M K R
  plain_tips M K S.Constants p e = λ h. absurd (omega arith)
  plain_tips M K S.State p e = omega arith
  plain_tips M K S.Any p e = absurd p
  plain_tips M K (S.Union cs) p e = absurd p

  plain_typed : (R : Shape) (f : ℕ) → Plain R → row_has C.known R f ≡ true → ⊥
  plain_typed S.Constants f p h = cc
  plain_typed S.State f p h = cc
  plain_typed S.Any f p h = p
  plain_typed (S.Union cs) f p h = p

  pub below_plain : (n : ℕ) (t : Triple) → Plain (row_of C t) → marks (low_of C t) ≡ 0 → Upto C n t
  below_plain zero t p e = tt
  below_plain (suc n) t p e = (plain_tips (low_of C t) (high_of C t) (row_of C t) p e, λ f counts. absurd (plain_typed (row_of C t) f p counts.typed))

  pub below_constants : (i j r : ℕ) (R : Shape) → R ≡ row_of C (same_of i j r) → R ≡ S.Constants → marks (node_at C.nodes i) ≡ 0 → Below C (same_of i j r)
  below_constants i j r R e h m n = below_plain n (same_of i j r) (subst Plain e (subst Plain (sym h) tt)) m

  pub below_state : (i j r : ℕ) (R : Shape) → R ≡ row_of C (same_of i j r) → R ≡ S.State → marks (node_at C.nodes i) ≡ 0 → Below C (same_of i j r)
  below_state i j r R e h m n = below_plain n (same_of i j r) (subst Plain e (subst Plain (sym h) tt)) m

  pub under_ground : (M : Node) (K : Node) → 1 ≤ marks M → marks M ≤ marks K → Under M K
  under_ground N.Free K p h = tt
  under_ground N.Ground K p h = h
  under_ground N.Unique K p h = h
  under_ground N.Dead K p h = h
  under_ground (N.Bound cs) K p h = absurd (omega arith)

  pub widened_ground : Builtins C.nodes → (b j r : ℕ) → 1 ≤ marks (node_at C.nodes b) → marks (node_at C.nodes b) ≤ 2 → (Below C (same_of j b r) → ⊥) → Below C (same_of j 1 r) → Widened C b j r 1
  widened_ground B b j r p q n h =
      let m = B.many in
      let e : marks (node_at C.nodes 1) ≡ 2 = ap marks B.ground_there in
      record { there = omega arith; first = below_under b 1 r (under_ground (node_at C.nodes b) (node_at C.nodes 1) p (omega arith)); second = h; which = inr ((p, (q, n)), inl refl) }

  pub widened_dead : Builtins C.nodes → (b j r : ℕ) → 1 ≤ marks (node_at C.nodes b) → marks (node_at C.nodes b) ≤ 2 → (Below C (same_of j b r) → ⊥) → (Below C (same_of j 1 r) → ⊥) → Widened C b j r 3
  widened_dead B b j r p q n o =
      let m = B.many in
      let e : marks (node_at C.nodes 3) ≡ 3 = ap marks B.dead_there in
      record { there = omega arith; first = λ k. below_dead k 3 e b r; second = λ k. below_dead k 3 e j r; which = inr ((p, (q, n)), inr (refl, o)) }

  pub done_high : (u : Triple) → Within C u → Below C u → Done C u u.high
  done_high u w h = record { there = w.high; first = h; second = below_same u.high u.row; which = inr (inl refl) }

  pub done_low : (u : Triple) → Within C u → Below C (same_of u.high u.low u.row) → Done C u u.low
  done_low u w h = record { there = w.low; first = below_same u.low u.row; second = h; which = inl refl }

  pub done_widened : (u : Triple) (k : ℕ) → row_of C u ≡ S.Any → Widened C u.low u.high u.row k → Done C u k
  done_widened u k e w = record { there = w.there; first = w.first; second = w.second; which = which_of w.which }
    where
      which_of : (k ≡ u.low) ⊎ (Apart C u.low u.high u.row × Next C u.high u.row k) → (k ≡ u.low) ⊎ ((k ≡ u.high) ⊎ Clash C u k)
      which_of (inl x) = inl x
      which_of (inr x) = inr (inr (e, inl x))

  pub done_widened_back : (u : Triple) (k : ℕ) → row_of C u ≡ S.Any → Widened C u.high u.low u.row k → Done C u k
  done_widened_back u k e w = record { there = w.there; first = w.second; second = w.first; which = which_of w.which }
    where
      which_of : (k ≡ u.high) ⊎ (Apart C u.high u.low u.row × Next C u.low u.row k) → (k ≡ u.low) ⊎ ((k ≡ u.high) ⊎ Clash C u k)
      which_of (inl x) = inr (inl x)
      which_of (inr x) = inr (inr (e, inr x))
