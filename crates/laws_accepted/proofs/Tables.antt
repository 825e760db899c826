-- The table over a whole goal.
use Rattle.std.proofs.Common.{◌≡◌, ℕ, ◌≤◌, max, List, [], ◌∷◌, Bool, true, false, if◌then◌else◌, nat_eq, ◌||◌, IsTrue, refl, sym, ap, ap₂, ◌∙◌, subst, arith}
use Rattle.mc_program.specs.Programs.{TypeTerm}
use Rattle.mc_model.specs.Scheduled.{Node, node, Scheduled, Conj, Disj, Switch, Ite, Not, Exists, Assign, Test, Build, Take, Const, TestConst, Call, Apply, Nodes, no_nodes, node_then, Arms, no_arms, arm_then}
use Rattle.mc_model.specs.Good.{System}
use Rattle.mc_accepted.specs.Ordered.{Insts}
use Rattle.mc_source.specs.Determinism.{Determinism, row_of, rank, greater, Allows, conj, disj, ite, negated, pruned, semidet}
use Rattle.mc_accepted.specs.Determined.{Known, learned, insts_after, then_tests, misses, allowed_in, determined, determined_in, determined_all, determined_any, determined_arms}
use Rattle.mc_source.specs.declared.det.Det.{Det}
use Rattle.mc_source.specs.declared.det.Most.{Most}
use Rattle.mc_source.specs.declared.det.Most.TheVariants.{Zero, One, Many}
use Rattle.mc_accepted.specs.Inferred.{with_determinisms, calls_it, calls_in, one_calls, arm_calls}
use Rattle.laws_accepted.specs.TableLaws.{TableIsMonotone, TableDepends}
use Rattle.laws_language.proofs.Monotone.{allows_itself, conj_is_monotone, disj_is_monotone, ite_is_monotone, negated_is_monotone, pruned_is_monotone}

either_monotone : (t u v w : Bool) → (IsTrue t → IsTrue v) → (IsTrue u → IsTrue w) → IsTrue (t || u) → IsTrue (v || w)
either_monotone true u v w f g h = left v w (f refl)
  where
    left : (v w : Bool) → IsTrue v → IsTrue (v || w)
    left true w h = refl
    left false w h = cc
either_monotone false u v w f g h = right v w (g h)
  where
    right : (v w : Bool) → IsTrue w → IsTrue (v || w)
    right true w h = refl
    right false w h = h

greater_monotone : (a b c d : Most) → rank a ≤ rank c → rank b ≤ rank d → rank (greater a b) ≤ rank (greater c d)
greater_monotone a b c d h k = subst (λ m. m ≤ rank (greater c d)) (sym (is_max a b)) (subst (λ m. max (rank a) (rank b) ≤ m) (sym (is_max c d)) (omega (arith, h, k)))
  where
    is_max : (a b : Most) → rank (greater a b) ≡ max (rank a) (rank b)
    is_max Zero Zero = refl
    is_max Zero One = refl
    is_max Zero Many = refl
    is_max One Zero = refl
    is_max One One = refl
    is_max One Many = refl
    is_max Many Zero = refl
    is_max Many One = refl
    is_max Many Many = refl

tests_monotone : (ks : List ℕ) (a b : Determinism) → Allows b a → Allows (then_tests ks b) (then_tests ks a)
tests_monotone [] a b h = h
tests_monotone (k ∷ ks) a b h = tests_monotone ks (conj a semidet) (conj b semidet) (conj_is_monotone a semidet b semidet h (allows_itself semidet))

pruned_where : (m : Bool) (a b : Determinism) → Allows b a → Allows (if m then pruned b else b) (if m then pruned a else a)
pruned_where true a b h = pruned_is_monotone a b h
pruned_where false a b h = h

module _ (S : System) (T : ℕ → TypeTerm) (ds es : ℕ → Det) (h : (p : ℕ) → Allows (row_of (es p)) (row_of (ds p))) where
  mutual
    monotone : (b : Insts) (known : Known) (n : Node) → Allows (determined (with_determinisms S es) T b known n) (determined (with_determinisms S ds) T b known n)
    monotone b known (node s changes d m) = pruned_where m (determined_in (with_determinisms S ds) T b known s) (determined_in (with_determinisms S es) T b known s) (monotone_in b known s)

    monotone_in : (b : Insts) (known : Known) (s : Scheduled) → Allows (determined_in (with_determinisms S es) T b known s) (determined_in (with_determinisms S ds) T b known s)
    monotone_in b known (Conj ns) = monotone_all b known ns
    monotone_in b known (Disj ns) = monotone_any b known ns
    monotone_in b known (Switch x arms) =
        let r = monotone_arms b known x arms in
        ((λ t. either_monotone (misses (with_determinisms S ds) T (allowed_in (with_determinisms S ds) T (T x) (b x)) arms) (determined_arms (with_determinisms S ds) T b known x arms).can_fail (misses (with_determinisms S ds) T (allowed_in (with_determinisms S ds) T (T x) (b x)) arms) (determined_arms (with_determinisms S es) T b known x arms).can_fail (λ u. u) r.0 t), r.1)
    monotone_in b known (Ite vs c t e) =
        ite_is_monotone (determined (with_determinisms S ds) T b known c) (determined (with_determinisms S ds) T (insts_after c b) known t) (determined (with_determinisms S ds) T b known e) (determined (with_determinisms S es) T b known c) (determined (with_determinisms S es) T (insts_after c b) known t) (determined (with_determinisms S es) T b known e)
        (monotone b known c) (monotone (insts_after c b) known t) (monotone b known e)
    monotone_in b known (Not n) = negated_is_monotone (determined (with_determinisms S ds) T b known n) (determined (with_determinisms S es) T b known n) (monotone b known n)
    monotone_in b known (Exists vs n) = monotone b known n
    monotone_in b known (Assign x y) = allows_itself (determined_in (with_determinisms S ds) T b known (Assign x y))
    monotone_in b known (Test x y) = allows_itself (determined_in (with_determinisms S ds) T b known (Test x y))
    monotone_in b known (Build x s ys) = allows_itself (determined_in (with_determinisms S ds) T b known (Build x s ys))
    monotone_in b known (Take x s ys) = allows_itself (determined_in (with_determinisms S ds) T b known (Take x s ys))
    monotone_in b known (Const x v) = allows_itself (determined_in (with_determinisms S ds) T b known (Const x v))
    monotone_in b known (TestConst x v) = allows_itself (determined_in (with_determinisms S ds) T b known (TestConst x v))
    monotone_in b known (Call p xs implied last) = tests_monotone implied (row_of (ds p)) (row_of (es p)) (h p)
    monotone_in b known (Apply op xs ys) = allows_itself (determined_in (with_determinisms S ds) T b known (Apply op xs ys))

    monotone_all : (b : Insts) (known : Known) (ns : Nodes) → Allows (determined_all (with_determinisms S es) T b known ns) (determined_all (with_determinisms S ds) T b known ns)
    monotone_all b known no_nodes = allows_itself (determined_all (with_determinisms S ds) T b known no_nodes)
    monotone_all b known (node_then n ns) =
        conj_is_monotone (determined (with_determinisms S ds) T b known n) (determined_all (with_determinisms S ds) T (insts_after n b) known ns) (determined (with_determinisms S es) T b known n) (determined_all (with_determinisms S es) T (insts_after n b) known ns)
        (monotone b known n) (monotone_all (insts_after n b) known ns)

    monotone_any : (b : Insts) (known : Known) (ns : Nodes) → Allows (determined_any (with_determinisms S es) T b known ns) (determined_any (with_determinisms S ds) T b known ns)
    monotone_any b known no_nodes = allows_itself (determined_any (with_determinisms S ds) T b known no_nodes)
    monotone_any b known (node_then n ns) =
        disj_is_monotone (determined (with_determinisms S ds) T b known n) (determined_any (with_determinisms S ds) T b known ns) (determined (with_determinisms S es) T b known n) (determined_any (with_determinisms S es) T b known ns)
        (monotone b known n) (monotone_any b known ns)

    monotone_arms : (b : Insts) (known : Known) (x : ℕ) (arms : Arms) → Allows (determined_arms (with_determinisms S es) T b known x arms) (determined_arms (with_determinisms S ds) T b known x arms)
    monotone_arms b known x no_arms = allows_itself (determined_arms (with_determinisms S ds) T b known x no_arms)
    monotone_arms b known x (arm_then l n arms) =
        let r = monotone b (learned x l known) n in
        let s = monotone_arms b known x arms in (
          (λ t. either_monotone (determined (with_determinisms S ds) T b (learned x l known) n).can_fail (determined_arms (with_determinisms S ds) T b known x arms).can_fail (determined (with_determinisms S es) T b (learned x l known) n).can_fail (determined_arms (with_determinisms S es) T b known x arms).can_fail r.0 s.0 t),
          greater_monotone (determined (with_determinisms S ds) T b (learned x l known) n).most (determined_arms (with_determinisms S ds) T b known x arms).most (determined (with_determinisms S es) T b (learned x l known) n).most (determined_arms (with_determinisms S es) T b known x arms).most r.1 s.1,
        )

pub table_is_monotone : TableIsMonotone
table_is_monotone S T b known n ds es h = monotone S T ds es h b known n

neither : (t u : Bool) → (t || u) ≡ false → (t ≡ false) × (u ≡ false)
neither true u h = cc
neither false u h = (refl, h)

module _ (S : System) (T : ℕ → TypeTerm) (q : ℕ) (ds es : ℕ → Det) (h : (p : ℕ) → nat_eq p q ≡ false → es p ≡ ds p) where
  mutual
    same : (b : Insts) (known : Known) (n : Node) → calls_it q n ≡ false → determined (with_determinisms S es) T b known n ≡ determined (with_determinisms S ds) T b known n
    same b known (node s changes d m) c = ap (λ r. (if m then pruned r else r)) (same_in b known s c)

    same_in : (b : Insts) (known : Known) (s : Scheduled) → calls_in q s ≡ false → determined_in (with_determinisms S es) T b known s ≡ determined_in (with_determinisms S ds) T b known s
    same_in b known (Conj ns) c = same_all b known ns c
    same_in b known (Disj ns) c = same_any b known ns c
    same_in b known (Switch x arms) c = ap (λ (r : Determinism). let s : Determinism = record { can_fail = misses (with_determinisms S ds) T (allowed_in (with_determinisms S ds) T (T x) (b x)) arms || r.can_fail; most = r.most } in s) (same_arms b known x arms c)
    same_in b known (Ite vs c t e) k =
        let i = neither (calls_it q c) (calls_it q t || calls_it q e) k in
        let j = neither (calls_it q t) (calls_it q e) i.1 in
        ap (λ r. ite r (determined (with_determinisms S es) T (insts_after c b) known t) (determined (with_determinisms S es) T b known e)) (same b known c i.0)
        ∙ ap₂ (λ r s. ite (determined (with_determinisms S ds) T b known c) r s) (same (insts_after c b) known t j.0) (same b known e j.1)
    same_in b known (Not n) c = ap negated (same b known n c)
    same_in b known (Exists vs n) c = same b known n c
    same_in b known (Assign x y) c = refl
    same_in b known (Test x y) c = refl
    same_in b known (Build x s ys) c = refl
    same_in b known (Take x s ys) c = refl
    same_in b known (Const x v) c = refl
    same_in b known (TestConst x v) c = refl
    same_in b known (Call p xs implied last) c = ap (λ d. then_tests implied (row_of d)) (h p c)
    same_in b known (Apply op xs ys) c = refl

    same_all : (b : Insts) (known : Known) (ns : Nodes) → one_calls q ns ≡ false → determined_all (with_determinisms S es) T b known ns ≡ determined_all (with_determinisms S ds) T b known ns
    same_all b known no_nodes c = refl
    same_all b known (node_then n ns) c = let i = neither (calls_it q n) (one_calls q ns) c in ap₂ conj (same b known n i.0) (same_all (insts_after n b) known ns i.1)

    same_any : (b : Insts) (known : Known) (ns : Nodes) → one_calls q ns ≡ false → determined_any (with_determinisms S es) T b known ns ≡ determined_any (with_determinisms S ds) T b known ns
    same_any b known no_nodes c = refl
    same_any b known (node_then n ns) c = let i = neither (calls_it q n) (one_calls q ns) c in ap₂ disj (same b known n i.0) (same_any b known ns i.1)

    same_arms : (b : Insts) (known : Known) (x : ℕ) (arms : Arms) → arm_calls q arms ≡ false → determined_arms (with_determinisms S es) T b known x arms ≡ determined_arms (with_determinisms S ds) T b known x arms
    same_arms b known x no_arms c = refl
    same_arms b known x (arm_then l n arms) c =
        let i = neither (calls_it q n) (arm_calls q arms) c in
        ap₂ (λ (r s : Determinism). let t : Determinism = record { can_fail = r.can_fail || s.can_fail; most = greater r.most s.most } in t) (same b (learned x l known) n i.0) (same_arms b known x arms i.1)

pub table_depends : TableDepends
table_depends S T b known n q ds es h c = same S T q ds es h b known n c
