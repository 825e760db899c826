-- How many parameters definitions need.
use Rattle.std.proofs.Common.{◌≡◌, ℕ, zero, suc, ◌+◌, ◌<◌, ◌≤◌, max, Bool, true, List, [], ◌∷◌, map, length, get_or, drop, refl, sym, ap, ◌∙◌, subst, arith}
use Rattle.std.specs.Prelude.{Option, Some, None, slice_get, slice_index_or}
use Rattle.std.proofs.lemmas.List.{at_drop_more}
use Rattle.mc_accepted.specs.InstRules.{InstTerm, defined, Bodies, InstTerms}
use Rattle.mc_inst_table.specs.declared.inst.Inst.{Inst, Defined}
use Rattle.mc_inst_table.specs.declared.inst.Inst.TheOpen as O
use Rattle.mc_inst_table.specs.declared.inst.Inst.TheVariants.{rolls-Defined}
use Rattle.mc_inst_table.specs.declared.inst.Inst.TheFolds.{fold-roll-Inst}
use Rattle.mc_inst_table.specs.Plain.{plain_inst, plain_insts, plain_inst_step}
use Rattle.mc_inst_table.specs.code.Ends.{how_many, needs, all_need, IsFull, AreFull, AreNeeds, bodies_of}

pub need_more :
    (most needed : ℕ) (is : List Inst) (k : ℕ) (i : Inst)
    → k < length is → i ≡ get_or is k i → needed ≡ needs (plain_inst i)
    → max most (all_need (plain_insts (drop k is))) ≡ max (max most needed) (all_need (plain_insts (drop (k + 1) is)))
need_more most needed is k i below at same =
    let rest = all_need (plain_insts (drop (k + 1) is)) in
    let split : max most (all_need (plain_insts (drop k is))) ≡ max most (max (needs (plain_inst i)) rest) =
    at_drop_more (λ us. max most (all_need (plain_insts us))) is k i below
    ∙ ap (λ (u : Inst). max most (max (needs (plain_inst u)) rest)) (sym at)
    in
    omega (arith, split, same)

pub how_many_are : (is : List Inst) → how_many (plain_insts is) ≡ length is
how_many_are [] = refl
how_many_are (i ∷ is) = ap suc (how_many_are is)

plain_inst-Defined : (d : ℕ) (is : List Inst) → plain_inst (Defined d is) ≡ defined d (plain_insts is)
plain_inst-Defined d is =
    ap plain_inst (sym (rolls-Defined d is)) ∙ fold-roll-Inst InstTerm plain_inst_step (O.Defined d is)

pub full_defined :
    (body : Bodies) (ns : List ℕ) (i : Inst) (d : ℕ) (is : List Inst) (need count : ℕ) (given : List Inst)
    → i ≡ Defined d is → AreNeeds body ns → need ≡ slice_index_or ns d 0 → count ≡ length is
    → need ≤ count → given ≡ is → AreFull body (plain_insts given)
    → IsFull body (plain_inst i)
full_defined body ns i d is need count given form are needed counted enough same full =
    let row = are d in
    let many = how_many_are is in
    let there : needs (body d) ≤ how_many (plain_insts is) = omega (arith, row, many, needed, counted, enough) in
    subst (IsFull body) (sym (ap plain_inst form ∙ plain_inst-Defined d is))
    (there, subst (λ (us : List Inst). AreFull body (plain_insts us)) same full)

pub full_more :
    (body : Bodies) (is : List Inst) (k : ℕ) (i : Inst)
    → k < length is → i ≡ get_or is k i → IsFull body (plain_inst i)
    → AreFull body (plain_insts (drop (k + 1) is)) → AreFull body (plain_insts (drop k is))
full_more body is k i below at first rest =
    let split : drop k is ≡ get_or is k i ∷ drop (k + 1) is = at_drop_more (λ (us : List Inst). us) is k i below in
    subst (λ (us : List Inst). AreFull body (plain_insts us)) (sym split)
    (subst (λ (u : Inst). IsFull body (plain_inst u)) at first, rest)

needs_at :
    (is : List Inst) (d : ℕ)
    → needs (bodies_of is d) ≡ slice_index_or (map (λ i. needs (plain_inst i)) is) d 0
needs_at [] d = refl
needs_at (i ∷ is) zero = refl
needs_at (i ∷ is) (suc d) = needs_at is d

body_full :
    (body : Bodies) (is : List Inst) → AreFull body (plain_insts is) → (d : ℕ) → IsFull body (bodies_of is d)
body_full body [] f d = tt
body_full body (i ∷ is) f zero = f.0
body_full body (i ∷ is) f (suc d) = body_full body is f.1 d

pub needs_are :
    (is : List Inst) (ns : List ℕ) → ns ≡ map (λ i. needs (plain_inst i)) is → AreNeeds (bodies_of is) ns
needs_are is ns same d = needs_at is d ∙ ap (λ ms. slice_index_or ms d 0) (sym same)

pub bodies_full :
    (is : List Inst) (ns : List ℕ)
    → ns ≡ map (λ i. needs (plain_inst i)) is
    → ((body : Bodies) → AreNeeds body ns → AreFull body (plain_insts is))
    → (d : ℕ) → IsFull (bodies_of is) (bodies_of is d)
bodies_full is ns same full = body_full (bodies_of is) is (full (bodies_of is) (needs_are is ns same))
