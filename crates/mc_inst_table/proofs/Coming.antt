-- What insts come to, step by step.
use Rattle.std.proofs.Common.{◌≡◌, ◌⊎◌, inl, inr, ℕ, zero, suc, ◌+◌, ◌<◌, ◌≤◌, List, [], ◌∷◌, refl, sym, ap, ap₂, ◌∙◌, subst, arith}
use Rattle.std.specs.Prelude.{Option, Some, None}
use Rattle.mc_accepted.specs.InstRules.{InstTerm, parameter, inst_node, defined, bound_over, InstTerms, no_insts, inst_then, inst_at, over, each_over, Bodies, ComesTo, at_that, by_definition}
use Rattle.mc_inst_table.specs.declared.heads.Head.{Head}
use Rattle.mc_inst_table.specs.declared.heads.Head.TheVariants as H
use Rattle.mc_inst_table.specs.code.Ends.{how_many, needs, all_need, IsFull, AreFull, end_at, end_over, end_of, ends, Ends, head_at, AreHeads, AreSettled, after, IsName, IsHead}

-- INSTS PUT IN FOR PARAMETERS

pub at_within :
    (is js : InstTerms) (k : ℕ)
    → k < how_many js → over is (inst_at js k) ≡ inst_at (each_over is js) k
at_within is no_insts k below = absurd (let h : k < 0 = below in omega arith)
at_within is (inst_then j js) zero below = refl
at_within is (inst_then j js) (suc k) below =
    let h : suc k < suc (how_many js) = below in
    let less : k < how_many js = omega arith in
    at_within is js k less

mutual
  pub over_over :
      (is js : InstTerms) (u : InstTerm)
      → needs u ≤ how_many js → over is (over js u) ≡ over (each_over is js) u
  over_over is js (parameter k) h =
      let enough : suc k ≤ how_many js = h in
      let less : k < how_many js = omega arith in
      at_within is js k less
  over_over is js (inst_node i) h = refl
  over_over is js (defined d us) h = ap (defined d) (each_over_over is js us h)
  over_over is js (bound_over gs us) h = ap (bound_over gs) (each_over_over is js us h)

  pub each_over_over :
      (is js us : InstTerms)
      → all_need us ≤ how_many js → each_over is (each_over js us) ≡ each_over (each_over is js) us
  each_over_over is js no_insts h = refl
  each_over_over is js (inst_then u us) h =
      let first : needs u ≤ how_many js = omega (arith, h) in
      let others : all_need us ≤ how_many js = omega (arith, h) in
      ap₂ inst_then (over_over is js u first) (each_over_over is js us others)

pub how_many_over : (is js : InstTerms) → how_many (each_over is js) ≡ how_many js
how_many_over is no_insts = refl
how_many_over is (inst_then j js) = ap suc (how_many_over is js)

pub at_full : (body : Bodies) (is : InstTerms) (k : ℕ) → AreFull body is → IsFull body (inst_at is k)
at_full body no_insts k f = tt
at_full body (inst_then i is) zero f = f.0
at_full body (inst_then i is) (suc k) f = at_full body is k f.1

mutual
  pub over_full :
      (body : Bodies) (is : InstTerms) (u : InstTerm)
      → AreFull body is → IsFull body u → IsFull body (over is u)
  over_full body is (parameter k) fs f = at_full body is k fs
  over_full body is (inst_node i) fs f = tt
  over_full body is (defined d us) fs f =
      (subst (λ n. needs (body d) ≤ n) (sym (how_many_over is us)) f.0, each_full body is us fs f.1)
  over_full body is (bound_over gs us) fs f = each_full body is us fs f

  each_full :
      (body : Bodies) (is us : InstTerms)
      → AreFull body is → AreFull body us → AreFull body (each_over is us)
  each_full body is no_insts fs f = tt
  each_full body is (inst_then u us) fs f =
      (over_full body is u fs f.0, each_full body is us fs f.1)

-- WHAT AN INST COMES TO

pub comes_further :
    (body : Bodies) {t u v : InstTerm} → ComesTo body t u → ComesTo body u v → ComesTo body t v
comes_further body at_that rest = rest
comes_further body (by_definition m) rest = by_definition (comes_further body m rest)

pub ends_further :
    (body : Bodies) (t u : InstTerm) (h : Head) → ComesTo body t u → Ends body u h → Ends body t h
ends_further body t u (H.Parameter k) m e = comes_further body m e
ends_further body t u (H.Node i) m e = comes_further body m e
ends_further body t u H.Bound m e = (e.0, e.1, comes_further body m e.2)
ends_further body t u H.Unknown m e = tt

pub end_of_at :
    (heads : ℕ → Head) (is : InstTerms) (k : ℕ) → end_at (ends heads is) k ≡ end_of heads (inst_at is k)
end_of_at heads no_insts k = refl
end_of_at heads (inst_then i is) zero = refl
end_of_at heads (inst_then i is) (suc k) = end_of_at heads is k

pub to_after :
    (body : Bodies) {t u : InstTerm} → ComesTo body t u → (n : ℕ) × (after body n t ≡ Some u)
to_after body at_that = (zero, refl)
to_after body (by_definition m) = let more = to_after body m in (suc more.0, more.1)

pub from_after :
    (body : Bodies) (n : ℕ) (t u : InstTerm) → after body n t ≡ Some u → ComesTo body t u
from_after body zero t u e =
    let one : t ≡ u = cc in
    subst (ComesTo body t) one at_that
from_after body (suc n) (parameter k) u e = cc
from_after body (suc n) (inst_node i) u e = cc
from_after body (suc n) (defined d is) u e = by_definition (from_after body n (over is (body d)) u e)
from_after body (suc n) (bound_over gs is) u e = cc

-- One that comes to what is no name comes to names before that, and to nothing else.
pub ends_once :
    (body : Bodies) (p m : ℕ) (z t u : InstTerm)
    → (IsName z → ⊥) → after body p t ≡ Some z → after body m t ≡ Some u → IsName u ⊎ (u ≡ z)
ends_once body zero zero z t u stuck e f =
    let same : Some u ≡ Some z = sym f ∙ e in
    let one : u ≡ z = cc in
    inr one
ends_once body zero (suc m) z (parameter j) u stuck e f = cc
ends_once body zero (suc m) z (inst_node i) u stuck e f = cc
ends_once body zero (suc m) z (defined d is) u stuck e f =
    let one : defined d is ≡ z = cc in
    absurd (stuck (subst IsName one tt))
ends_once body zero (suc m) z (bound_over gs is) u stuck e f = cc
ends_once body (suc p) m z (parameter j) u stuck e f = cc
ends_once body (suc p) m z (inst_node i) u stuck e f = cc
ends_once body (suc p) zero z (defined d is) u stuck e f =
    let one : defined d is ≡ u = cc in
    inl (subst IsName one tt)
ends_once body (suc p) (suc m) z (defined d is) u stuck e f =
    ends_once body p m z (over is (body d)) u stuck e f
ends_once body (suc p) m z (bound_over gs is) u stuck e f = cc

name_over : (is : InstTerms) (u : InstTerm) → IsName u → IsName (over is u)
name_over is (parameter k) n = absurd n
name_over is (inst_node i) n = absurd n
name_over is (defined d us) n = tt
name_over is (bound_over gs us) n = absurd n

-- a definition over insts, with what its body comes to
pub record ByBody (body : Bodies) (n : ℕ) (is : InstTerms) (u x : InstTerm) : Type 0 where
  pub to : InstTerm
  pub comes : after body n u ≡ Some to
  pub is_over : over is to ≡ x

-- or with the inst that is given for a parameter
pub record ByGiven (body : Bodies) (n : ℕ) (is : InstTerms) (u x : InstTerm) : Type 0 where
  pub given : ℕ
  pub before : ℕ
  pub behind : ℕ
  pub count : n ≡ before + behind
  pub comes : after body before u ≡ Some (parameter given)
  pub goes_on : after body behind (inst_at is given) ≡ Some x

module _ (body : Bodies) (full : (d : ℕ) → IsFull body (body d)) where
  pub comes_over :
      (is : InstTerms) {u v : InstTerm}
      → IsFull body u → ComesTo body u v → ComesTo body (over is u) (over is v)
  comes_over is f at_that = at_that
  comes_over is {v = v} f (by_definition {d = d} {is = js} m) =
      by_definition
      (subst (λ w. ComesTo body w (over is v)) (over_over is js (body d) f.0)
      (comes_over is (over_full body js (body d) f.1 (full d)) m))

  further_by :
      (n : ℕ) (is js : InstTerms) (d : ℕ) (x : InstTerm)
      → ByBody body n is (over js (body d)) x ⊎ ByGiven body n is (over js (body d)) x
      → ByBody body (suc n) is (defined d js) x ⊎ ByGiven body (suc n) is (defined d js) x
  further_by n is js d x (inl b) =
      inl (record { to = b.to; comes = b.comes; is_over = b.is_over })
  further_by n is js d x (inr g) =
      let same = g.count in
      inr (record {
        given = g.given;
        before = suc g.before;
        behind = g.behind;
        count = omega (arith, same);
        comes = g.comes;
        goes_on = g.goes_on;
      })

  pub after_over :
      (n : ℕ) (is : InstTerms) (u x : InstTerm)
      → IsFull body u → after body n (over is u) ≡ Some x
      → ByBody body n is u x ⊎ ByGiven body n is u x
  after_over zero is u x f e =
      let same : over is u ≡ x = cc in
      inl (record { to = u; comes = refl; is_over = same })
  after_over (suc n) is (parameter k) x f e =
      inr (record {
        given = k;
        before = zero;
        behind = suc n;
        count = omega arith;
        comes = refl;
        goes_on = e;
      })
  after_over (suc n) is (inst_node i) x f e = cc
  after_over (suc n) is (bound_over gs us) x f e = cc
  after_over (suc n) is (defined d js) x f e =
      let onward : after body n (over is (over js (body d))) ≡ Some x =
      ap (after body n) (over_over is js (body d) f.0) ∙ e
      in
      further_by n is js d x
      (after_over n is (over js (body d)) x (over_full body js (body d) f.1 (full d)) onward)

  module _ (heads : List Head) (are : AreHeads body heads) where
    over_comes :
        (h : Head) (d : ℕ) (is : InstTerms)
        → Ends body (body d) h
        → ((k : ℕ) → Ends body (inst_at is k) (end_at (ends (head_at heads) is) k))
        → Ends body (defined d is) (end_over h (ends (head_at heads) is))
    over_comes (H.Parameter k) d is m given =
        ends_further body (defined d is) (inst_at is k) (end_at (ends (head_at heads) is) k)
        (by_definition (comes_over is (full d) m)) (given k)
    over_comes (H.Node i) d is m given = by_definition (comes_over is (full d) m)
    over_comes H.Bound d is m given =
        (m.0, each_over is m.1, by_definition (comes_over is (full d) m.2))
    over_comes H.Unknown d is m given = tt

    mutual
      pub end_comes : (t : InstTerm) → Ends body t (end_of (head_at heads) t)
      end_comes (parameter k) = at_that
      end_comes (inst_node i) = at_that
      end_comes (defined d is) = over_comes (head_at heads d) d is (are d) (ends_come is)
      end_comes (bound_over gs is) = (gs, is, at_that)

      ends_come :
          (is : InstTerms) (k : ℕ) → Ends body (inst_at is k) (end_at (ends (head_at heads) is) k)
      ends_come no_insts k = at_that
      ends_come (inst_then i is) zero = end_comes i
      ends_come (inst_then i is) (suc k) = ends_come is k

    module _ (settled : AreSettled body heads) where
      no_end :
          (limit : ℕ)
          → ((n : ℕ) (t x : InstTerm)
          → n ≤ limit → IsFull body t → end_of (head_at heads) t ≡ H.Unknown
          → after body n t ≡ Some x → IsName x)
          → (n d : ℕ) (is : InstTerms) (x : InstTerm) (h : Head)
          → n ≤ limit → AreFull body is → head_at heads d ≡ h
          → end_over h (ends (head_at heads) is) ≡ H.Unknown
          → ByBody body n is (body d) x ⊎ ByGiven body n is (body d) x → IsName x
      no_end limit ih n d is x (H.Node i) less f same end by = cc
      no_end limit ih n d is x H.Bound less f same end by = cc
      no_end limit ih n d is x H.Unknown less f same end (inl b) =
          subst IsName b.is_over
          (name_over is b.to (ih n (body d) b.to less (full d) (settled d same) b.comes))
      no_end limit ih n d is x H.Unknown less f same end (inr g) =
          let count = g.count in
          let below : g.before ≤ limit = omega (arith, count, less) in
          absurd (ih g.before (body d) (parameter g.given) below (full d) (settled d same) g.comes)
      no_end limit ih n d is x (H.Parameter k) less f same end (inl b) =
          let m : ComesTo body (body d) (parameter k) = subst (Ends body (body d)) same (are d) in
          let a = to_after body m in
          let known : end_of (head_at heads) (inst_at is k) ≡ H.Unknown =
          sym (end_of_at (head_at heads) is k) ∙ end
          in
          let none : 0 ≤ limit = omega arith in
          elim (ends_once body a.0 n (parameter k) (body d) b.to (λ h. h) a.1 b.comes) [
            | inl name ↦ subst IsName b.is_over (name_over is b.to name)
            | inr one ↦
                ih 0 (inst_at is k) x none (at_full body is k f) known
                (ap Some (ap (over is) (sym one) ∙ b.is_over))
          ]
      no_end limit ih n d is x (H.Parameter k) less f same end (inr g) =
          let m : ComesTo body (body d) (parameter k) = subst (Ends body (body d)) same (are d) in
          let a = to_after body m in
          let known : end_of (head_at heads) (inst_at is k) ≡ H.Unknown =
          sym (end_of_at (head_at heads) is k) ∙ end
          in
          let count = g.count in
          let below : g.behind ≤ limit = omega (arith, count, less) in
          elim (ends_once body a.0 g.before (parameter k) (body d) (parameter g.given) (λ h. h) a.1 g.comes) [
            | inl name ↦ absurd name
            | inr one ↦
                let number : g.given ≡ k = cc in
                ih g.behind (inst_at is k) x below (at_full body is k f) known
                (subst (λ j. after body g.behind (inst_at is j) ≡ Some x) number g.goes_on)
          ]

      never :
          (limit n : ℕ) (t x : InstTerm)
          → n ≤ limit → IsFull body t → end_of (head_at heads) t ≡ H.Unknown
          → after body n t ≡ Some x → IsName x
      never limit n (parameter k) x less f end e = cc
      never limit n (inst_node i) x less f end e = cc
      never limit n (bound_over gs is) x less f end e = cc
      never limit zero (defined d is) x less f end e =
          let one : defined d is ≡ x = cc in
          subst IsName one tt
      never zero (suc n) (defined d is) x less f end e =
          absurd (let h : suc n ≤ 0 = less in omega arith)
      never (suc limit) (suc n) (defined d is) x less f end e =
          let h : suc n ≤ suc limit = less in
          let smaller : n ≤ limit = omega arith in
          no_end limit (never limit) n d is x (head_at heads d) smaller f.1 refl end
          (after_over n is (body d) x (full d) e)

      told :
          (t u : InstTerm) (h : Head)
          → IsFull body t → (IsName u → ⊥) → ComesTo body t u
          → end_of (head_at heads) t ≡ h → Ends body t h → IsHead u h
      told t u (H.Parameter k) f stuck m same end =
          let a = to_after body m in
          let b = to_after body end in
          elim (ends_once body b.0 a.0 (parameter k) t u (λ h. h) b.1 a.1) [
            | inl name ↦ absurd (stuck name)
            | inr one ↦ one
          ]
      told t u (H.Node i) f stuck m same end =
          let a = to_after body m in
          let b = to_after body end in
          elim (ends_once body b.0 a.0 (inst_node i) t u (λ h. h) b.1 a.1) [
            | inl name ↦ absurd (stuck name)
            | inr one ↦ one
          ]
      told t u H.Bound f stuck m same end =
          let a = to_after body m in
          let b = to_after body end.2 in
          elim (ends_once body b.0 a.0 (bound_over end.0 end.1) t u (λ h. h) b.1 a.1) [
            | inl name ↦ absurd (stuck name)
            | inr one ↦ (end.0, end.1, one)
          ]
      told t u H.Unknown f stuck m same end =
          let a = to_after body m in
          absurd (stuck (never a.0 a.0 t u (omega arith) f same a.1))

      -- what an inst comes to that is no name is its end
      pub end_told :
          (t u : InstTerm)
          → IsFull body t → (IsName u → ⊥) → ComesTo body t u → IsHead u (end_of (head_at heads) t)
      end_told t u f stuck m =
          told t u (end_of (head_at heads) t) f stuck m refl (end_comes t)
