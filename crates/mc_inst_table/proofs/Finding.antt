-- Where the bodies of definitions lead, as it is found out.
use Rattle.std.proofs.Common.{◌≡◌, ◌≢◌, ◌⊎◌, inl, inr, ℕ, zero, suc, ◌<◌, ◌≤◌, ◌-◌, List, [], ◌∷◌, ◌++◌, map, length, get_or, set, refl, sym, ap, ◌∙◌, subst, arith}
use Rattle.std.specs.Prelude.{Option, Some, None, slice_get, slice_index_or}
use Rattle.std.proofs.lemmas.Bool.{cases_lt}
use Rattle.std.proofs.lemmas.Bool.Decides.{eqb_tells}
use Rattle.std.proofs.lemmas.List.{get_or-set_same, get_or-set_other}
use Rattle.mc_accepted.specs.InstRules.{InstTerm, bound_over, no_insts, Bodies, ComesTo, at_that}
use Rattle.mc_inst_table.specs.declared.inst.Inst.{Inst}
use Rattle.mc_inst_table.specs.declared.heads.Head.{Head}
use Rattle.mc_inst_table.specs.declared.heads.Head.TheVariants as H
use Rattle.mc_inst_table.specs.Plain.{plain_inst, plain_insts}
use Rattle.mc_inst_table.specs.code.Ends.{IsFull, end_at, end_of, ends, Ends, head_at, bodies_of, AreHeads, AreSettled}
use Rattle.mc_inst_table.specs.code.Passed.{passed, each_passed}
use Rattle.mc_inst_table.proofs.Coming.{end_comes}

pub body_there :
    (is : List Inst) (d : ℕ) (i : Inst) → d < length is → i ≡ get_or is d i → bodies_of is d ≡ plain_inst i
body_there [] d i below at = absurd (let h : d < 0 = below in omega arith)
body_there (j ∷ is) zero i below at = ap plain_inst (sym at)
body_there (j ∷ is) (suc d) i below at =
    let h : suc d < suc (length is) = below in
    let less : d < length is = omega arith in
    body_there is d i less at

pub body_past : (is : List Inst) (d : ℕ) → length is ≤ d → bodies_of is d ≡ bound_over [] no_insts
body_past [] d past = refl
body_past (j ∷ is) zero past = absurd (let h : suc (length is) ≤ 0 = past in omega arith)
body_past (j ∷ is) (suc d) past =
    let h : suc (length is) ≤ suc d = past in
    let less : length is ≤ d = omega arith in
    body_past is d less

head_past : (hs : List Head) (d : ℕ) → length hs ≤ d → head_at hs d ≡ H.Bound
head_past [] d past = refl
head_past (j ∷ hs) zero past = absurd (let h : suc (length hs) ≤ 0 = past in omega arith)
head_past (j ∷ hs) (suc d) past =
    let h : suc (length hs) ≤ suc d = past in
    let less : length hs ≤ d = omega arith in
    head_past hs d less

pub end_there :
    (heads : ℕ → Head) (is : List Inst) (k : ℕ) (i : Inst)
    → k < length is → i ≡ get_or is k i → end_at (ends heads (plain_insts is)) k ≡ end_of heads (plain_inst i)
end_there heads [] k i below at = absurd (let h : k < 0 = below in omega arith)
end_there heads (j ∷ is) zero i below at = ap (λ (x : Inst). end_of heads (plain_inst x)) (sym at)
end_there heads (j ∷ is) (suc k) i below at =
    let h : suc k < suc (length is) = below in
    let less : k < length is = omega arith in
    end_there heads is k i less at

pub end_past :
    (heads : ℕ → Head) (is : List Inst) (k : ℕ)
    → length is ≤ k → end_at (ends heads (plain_insts is)) k ≡ H.Parameter (k - length is)
end_past heads [] k past = let same : k ≡ k - 0 = omega arith in ap H.Parameter same
end_past heads (j ∷ is) zero past = absurd (let h : suc (length is) ≤ 0 = past in omega arith)
end_past heads (j ∷ is) (suc k) past =
    let h : suc (length is) ≤ suc k = past in
    let less : length is ≤ k = omega arith in
    let same : k - length is ≡ suc k - suc (length is) = omega arith in
    end_past heads is k less ∙ ap H.Parameter same

pub passed_there :
    (heads : ℕ → Head) (is : List Inst) (k : ℕ) (i : Inst)
    → k < length is → i ≡ get_or is k i
    → slice_index_or (each_passed heads (plain_insts is)) k [] ≡ passed heads (plain_inst i)
passed_there heads [] k i below at = absurd (let h : k < 0 = below in omega arith)
passed_there heads (j ∷ is) zero i below at = ap (λ (x : Inst). passed heads (plain_inst x)) (sym at)
passed_there heads (j ∷ is) (suc k) i below at =
    let h : suc k < suc (length is) = below in
    let less : k < length is = omega arith in
    passed_there heads is k i less at

pub passed_past :
    (heads : ℕ → Head) (is : List Inst) (k : ℕ)
    → length is ≤ k → slice_index_or (each_passed heads (plain_insts is)) k [] ≡ []
passed_past heads [] k past = refl
passed_past heads (j ∷ is) zero past = absurd (let h : suc (length is) ≤ 0 = past in omega arith)
passed_past heads (j ∷ is) (suc k) past =
    let h : suc (length is) ≤ suc k = past in
    let less : length is ≤ k = omega arith in
    passed_past heads is k less

with_none : (xs : List ℕ) → xs ≡ xs ++ []
with_none [] = refl
with_none (x ∷ xs) = ap (λ ys. x ∷ ys) (with_none xs)

pub nothing_passed :
    (heads : ℕ → Head) (xs : List ℕ) (is : List Inst) (k : ℕ)
    → length is ≤ k → xs ≡ xs ++ slice_index_or (each_passed heads (plain_insts is)) k []
nothing_passed heads xs is k past =
    with_none xs ∙ ap (λ ys. xs ++ ys) (sym (passed_past heads is k past))

pub none_known :
    (is : List Inst) (hs : List Head)
    → length hs ≡ length is → ((d : ℕ) → d < length is → head_at hs d ≡ H.Unknown)
    → AreHeads (bodies_of is) hs
none_known is hs count unknown d =
    elim (cases_lt d (length is)) [
      | inl below ↦ subst (Ends (bodies_of is) (bodies_of is d)) (sym (unknown d below)) tt
      | inr past ↦
          let beyond : length hs ≤ d = omega (arith, count, past) in
          subst (Ends (bodies_of is) (bodies_of is d)) (sym (head_past hs d beyond))
          ([], no_insts, subst (λ t. ComesTo (bodies_of is) t (bound_over [] no_insts)) (sym (body_past is d past)) at_that)
    ]

pub one_found :
    (is : List Inst) (hs : List Head) (d : ℕ) (i : Inst) (h : Head)
    → ((k : ℕ) → IsFull (bodies_of is) (bodies_of is k))
    → AreHeads (bodies_of is) hs → length hs ≡ length is → d < length is
    → i ≡ get_or is d i → h ≡ end_of (head_at hs) (plain_inst i)
    → AreHeads (bodies_of is) (set hs d h)
one_found is hs d i h full are count below at found k =
    let there : d < length hs = omega (arith, count, below) in
    elim (eqb_tells k d) [
      | inl one ↦
          let at_end : Ends (bodies_of is) (bodies_of is d) (end_of (head_at hs) (plain_inst i)) =
          subst (λ t. Ends (bodies_of is) t (end_of (head_at hs) (plain_inst i)))
          (sym (body_there is d i below at)) (end_comes (bodies_of is) full hs are (plain_inst i))
          in
          let here : Ends (bodies_of is) (bodies_of is d) (head_at (set hs d h) d) =
          subst (Ends (bodies_of is) (bodies_of is d))
          (sym (get_or-set_same hs d h H.Bound there ∙ found)) at_end
          in
          subst (λ j. Ends (bodies_of is) (bodies_of is j) (head_at (set hs d h) j)) (sym one.1) here
      | inr other ↦
          subst (Ends (bodies_of is) (bodies_of is k))
          (sym (get_or-set_other hs d k h H.Bound other.1)) (are k)
    ]

pub all_settled :
    (is : List Inst) (hs : List Head)
    → length hs ≡ length is
    → ((d : ℕ) → d < length is → head_at hs d ≡ H.Unknown → end_of (head_at hs) (bodies_of is d) ≡ H.Unknown)
    → AreSettled (bodies_of is) hs
all_settled is hs count each d unknown =
    elim (cases_lt d (length is)) [
      | inl below ↦ each d below unknown
      | inr past ↦
          let beyond : length hs ≤ d = omega (arith, count, past) in
          let clash : H.Unknown ≡ H.Bound = sym unknown ∙ head_past hs d beyond in
          cc
    ]
