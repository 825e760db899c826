-- Which definitions an inst comes to, by those that it passes itself and those that their bodies pass.
use Rattle.std.proofs.Common.{◌≡◌, ◌⊎◌, ◌↔◌, inl, inr, ℕ, zero, suc, ◌+◌, ◌<◌, ◌≤◌, Bool, true, false, List, [], ◌∷◌, length, refl, sym, ap, ◌∙◌, subst, arith}
use Rattle.std.specs.Prelude.{Option, Some, None, slice_index_or}
use Rattle.mc_model.specs.Lists.{is_in}
use Rattle.mc_components.specs.Reached.{reaches, Way, step, over as onward}
use Rattle.mc_components.specs.Components.{steps}
use Rattle.mc_components.proofs.Reaching.{reached_by_ways}
use Rattle.mc_components.proofs.Certified.{in_head, in_tail, in_cases}
use Rattle.mc_components.proofs.Returning.{begins}
use Rattle.mc_accepted.specs.InstRules.{InstTerm, parameter, inst_node, defined, bound_over, InstTerms, no_insts, inst_then, inst_at, over, each_over, Bodies, ComesTo, at_that, by_definition, ComesBack}
use Rattle.mc_inst_table.specs.declared.heads.Head.{Head}
use Rattle.mc_inst_table.specs.declared.heads.Head.TheVariants as H
use Rattle.mc_inst_table.specs.code.Ends.{IsFull, AreFull, end_of, Ends, head_at, AreHeads, AreSettled, after, IsName, IsHead}
use Rattle.mc_inst_table.specs.code.Passed.{passed_behind, passed, each_passed}
use Rattle.mc_inst_table.proofs.Coming.{at_full, to_after, comes_further, comes_over, after_over, ByBody, ByGiven, end_comes, end_told, ends_once, from_after}

passed_at :
    (heads : ℕ → Head) (is : InstTerms) (k : ℕ)
    → slice_index_or (each_passed heads is) k [] ≡ passed heads (inst_at is k)
passed_at heads no_insts k = refl
passed_at heads (inst_then i is) zero = refl
passed_at heads (inst_then i is) (suc k) = passed_at heads is k

none_in : (f : ℕ) → is_in f [] ≡ true → ⊥
none_in f e = let clash : false ≡ true = e in cc

-- a definition that an inst comes to
abbrev ComesToOver : Bodies → InstTerm → ℕ → Type 0
ComesToOver body t f = (js : InstTerms) × ComesTo body t (defined f js)

module _ (body : Bodies) (full : (d : ℕ) → IsFull body (body d))
    (heads : List Head) (are : AreHeads body heads) (settled : AreSettled body heads) where
  passes_behind :
      (h : Head) (d : ℕ) (is : InstTerms) (f : ℕ)
      → Ends body (body d) h
      → ((k : ℕ) → is_in f (slice_index_or (each_passed (head_at heads) is) k []) ≡ true
      → ComesToOver body (inst_at is k) f)
      → is_in f (passed_behind h (each_passed (head_at heads) is)) ≡ true
      → ComesToOver body (defined d is) f
  passes_behind (H.Parameter k) d is f m given e =
      let rest = given k e in
      (rest.0, by_definition (comes_further body (comes_over body full is (full d) m) rest.1))
  passes_behind (H.Node i) d is f m given e = absurd (none_in f e)
  passes_behind H.Bound d is f m given e = absurd (none_in f e)
  passes_behind H.Unknown d is f m given e = absurd (none_in f e)

  mutual
    pub passed_comes :
        (t : InstTerm) (f : ℕ) → is_in f (passed (head_at heads) t) ≡ true → ComesToOver body t f
    passed_comes (parameter k) f e = absurd (none_in f e)
    passed_comes (inst_node i) f e = absurd (none_in f e)
    passed_comes (defined d is) f e =
        elim (in_cases f d (passed_behind (head_at heads d) (each_passed (head_at heads) is)) e) [
          | inl one ↦ (is, subst (λ g. ComesTo body (defined d is) (defined g is)) (sym one) at_that)
          | inr rest ↦ passes_behind (head_at heads d) d is f (are d) (given_comes is f) rest
        ]
    passed_comes (bound_over gs is) f e = absurd (none_in f e)

    given_comes :
        (is : InstTerms) (f k : ℕ)
        → is_in f (slice_index_or (each_passed (head_at heads) is) k []) ≡ true
        → ComesToOver body (inst_at is k) f
    given_comes no_insts f k e = absurd (none_in f e)
    given_comes (inst_then i is) f zero e = passed_comes i f e
    given_comes (inst_then i is) f (suc k) e = given_comes is f k e

  -- where the body of a definition leads to a parameter, that is known
  head_by :
      (d k : ℕ) (h : Head)
      → head_at heads d ≡ h → Ends body (body d) h
      → ComesTo body (body d) (parameter k) → h ≡ H.Parameter k
  head_by d k (H.Parameter j) same end m =
      let a = to_after body m in
      let b = to_after body end in
      elim (ends_once body a.0 b.0 (parameter k) (body d) (parameter j) (λ h. h) a.1 b.1) [
        | inl name ↦ absurd name
        | inr one ↦ let number : j ≡ k = cc in ap H.Parameter number
      ]
  head_by d k (H.Node i) same end m =
      let a = to_after body m in
      let b = to_after body end in
      elim (ends_once body a.0 b.0 (parameter k) (body d) (inst_node i) (λ h. h) a.1 b.1) [
        | inl name ↦ absurd name
        | inr one ↦ cc
      ]
  head_by d k H.Bound same end m =
      let a = to_after body m in
      let b = to_after body end.2 in
      elim (ends_once body a.0 b.0 (parameter k) (body d) (bound_over end.0 end.1) (λ h. h) a.1 b.1) [
        | inl name ↦ absurd name
        | inr one ↦ cc
      ]
  head_by d k H.Unknown same end m =
      let told = end_told body full heads are settled (body d) (parameter k) (full d) (λ h. h) m in
      absurd (subst (IsHead (parameter k)) (settled d same) told)

  module _ (graph : List (List ℕ))
      (rows : (d : ℕ) → steps graph d ≡ passed (head_at heads) (body d)) where
    -- one is passed by an inst itself, or by the bodies of those that are
    abbrev IsReached : InstTerm → ℕ → Type 0
    IsReached t f =
        (is_in f (passed (head_at heads) t) ≡ true)
        ⊎ ((e : ℕ) × (is_in e (passed (head_at heads) t) ≡ true) × Way (steps graph) (length graph) e f)

    within_given :
        (d : ℕ) (is : InstTerms) (k f : ℕ)
        → head_at heads d ≡ H.Parameter k → IsReached (inst_at is k) f → IsReached (defined d is) f
    within_given d is k f same r =
        let behind : passed_behind (head_at heads d) (each_passed (head_at heads) is) ≡ passed (head_at heads) (inst_at is k) =
        ap (λ h. passed_behind h (each_passed (head_at heads) is)) same ∙ passed_at (head_at heads) is k
        in
        let there = λ (e : ℕ) (p : is_in e (passed (head_at heads) (inst_at is k)) ≡ true).
        in_tail e d (passed_behind (head_at heads d) (each_passed (head_at heads) is)) (ap (is_in e) behind ∙ p)
        in
        elim r [
          | inl p ↦ inl (there f p)
          | inr w ↦ inr (w.0, there w.0 w.1, w.2)
        ]

    within_body :
        (d : ℕ) (is : InstTerms) (f : ℕ) → IsReached (body d) f → IsReached (defined d is) f
    within_body d is f r =
        let first : is_in d (passed (head_at heads) (defined d is)) ≡ true =
        in_head d d (passed_behind (head_at heads d) (each_passed (head_at heads) is)) refl
        in
        elim r [
          | inl p ↦ inr (d, first, step (ap (is_in f) (rows d) ∙ p))
          | inr w ↦
              inr (
                d,
                first,
                onward (begins graph (length graph) w.0 f w.2) (step (ap (is_in w.0) (rows d) ∙ w.1)) w.2,
              )
        ]

    by_part :
        (limit : ℕ)
        → ((n : ℕ) (t : InstTerm) (f : ℕ) (js : InstTerms)
        → n ≤ limit → IsFull body t → after body n t ≡ Some (defined f js) → IsReached t f)
        → (n d : ℕ) (is : InstTerms) (f : ℕ) (js : InstTerms) (to : InstTerm)
        → n ≤ limit → AreFull body is → after body n (body d) ≡ Some to → over is to ≡ defined f js
        → IsReached (defined d is) f
    by_part limit ih n d is f js (parameter k) less full_is e same =
        let none : 0 ≤ limit = omega arith in
        within_given d is k f
        (head_by d k (head_at heads d) refl (are d) (from_after body n (body d) (parameter k) e))
        (ih 0 (inst_at is k) f js none (at_full body is k full_is) (ap Some same))
    by_part limit ih n d is f js (inst_node i) less full_is e same = cc
    by_part limit ih n d is f js (bound_over gs us) less full_is e same = cc
    by_part limit ih n d is f js (defined g us) less full_is e same =
        let one : g ≡ f = cc in
        let at_body : after body n (body d) ≡ Some (defined f us) =
        e ∙ ap (λ h. Some (defined h us)) one
        in
        within_body d is f (ih n (body d) f us less (full d) at_body)

    by_step :
        (limit : ℕ)
        → ((n : ℕ) (t : InstTerm) (f : ℕ) (js : InstTerms)
        → n ≤ limit → IsFull body t → after body n t ≡ Some (defined f js) → IsReached t f)
        → (n d : ℕ) (is : InstTerms) (f : ℕ) (js : InstTerms)
        → n ≤ limit → AreFull body is
        → ByBody body n is (body d) (defined f js) ⊎ ByGiven body n is (body d) (defined f js)
        → IsReached (defined d is) f
    by_step limit ih n d is f js less full_is (inl b) =
        by_part limit ih n d is f js b.to less full_is b.comes b.is_over
    by_step limit ih n d is f js less full_is (inr g) =
        let count = g.count in
        let below : g.behind ≤ limit = omega (arith, count, less) in
        within_given d is g.given f
        (head_by d g.given (head_at heads d) refl (are d)
        (from_after body g.before (body d) (parameter g.given) g.comes))
        (ih g.behind (inst_at is g.given) f js below (at_full body is g.given full_is) g.goes_on)

    is_reached :
        (limit n : ℕ) (t : InstTerm) (f : ℕ) (js : InstTerms)
        → n ≤ limit → IsFull body t → after body n t ≡ Some (defined f js) → IsReached t f
    is_reached limit zero (parameter k) f js less f_t e = cc
    is_reached limit zero (inst_node i) f js less f_t e = cc
    is_reached limit zero (bound_over gs is) f js less f_t e = cc
    is_reached limit (suc n) (parameter k) f js less f_t e = cc
    is_reached limit (suc n) (inst_node i) f js less f_t e = cc
    is_reached limit (suc n) (bound_over gs is) f js less f_t e = cc
    is_reached limit zero (defined d is) f js less f_t e =
        let one : f ≡ d = cc in
        inl (in_head f d (passed_behind (head_at heads d) (each_passed (head_at heads) is)) one)
    is_reached zero (suc n) (defined d is) f js less f_t e =
        absurd (let h : suc n ≤ 0 = less in omega arith)
    is_reached (suc limit) (suc n) (defined d is) f js less f_t e =
        let h : suc n ≤ suc limit = less in
        let smaller : n ≤ limit = omega arith in
        by_step limit (is_reached limit) n d is f js smaller f_t.1
        (after_over body full n is (body d) (defined f js) (full d) e)

    way_comes : (d f : ℕ) → Way (steps graph) (length graph) d f → ComesToOver body (body d) f
    way_comes d f (step e) = passed_comes (body d) f (ap (is_in f) (sym (rows d)) ∙ e)
    way_comes d f (onward {i = i} less v w) =
        let a = way_comes d i v in
        let b = way_comes i f w in (
          each_over a.0 b.0,
          comes_further body a.1 (by_definition (comes_over body full a.0 (full i) b.1)),
        )

    way_of : (d f : ℕ) → IsReached (body d) f → Way (steps graph) (length graph) d f
    way_of d f (inl p) = step (ap (is_in f) (rows d) ∙ p)
    way_of d f (inr w) =
        onward (begins graph (length graph) w.0 f w.2) (step (ap (is_in w.0) (rows d) ∙ w.1)) w.2

    -- A definition comes back to itself where it reaches itself in the graph.
    pub back_by_graph :
        (d : ℕ) (b : Bool)
        → b ≡ reaches (steps graph) (length graph) d d → (b ≡ true) ↔ ComesBack body d
    back_by_graph d b is = (
      λ h. let found = way_comes d d ((reached_by_ways (steps graph) (length graph) d d).0 (sym is ∙ h)) in
          (found.0, found.1),
      λ back.
          let a = to_after body back.1 in
          is
          ∙ (reached_by_ways (steps graph) (length graph) d d).1
          (way_of d d (is_reached a.0 a.0 (body d) d back.0 (omega arith) (full d) a.1)),
    )

    pub past_comes_back : (d : ℕ) → length graph ≤ d → ComesBack body d → ⊥
    past_comes_back d past back =
        let a = to_after body back.1 in
        let way = way_of d d (is_reached a.0 a.0 (body d) d back.0 (omega arith) (full d) a.1) in
        let below = begins graph (length graph) d d way in
        omega arith
