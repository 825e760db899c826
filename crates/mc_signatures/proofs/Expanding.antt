-- Insts with insts for their parameters, as numbers into a table.
use Rattle.std.proofs.Common.{◌≡◌, ℕ, zero, suc, ◌+◌, ◌<◌, List, [], ◌∷◌, ◌++◌, length, get_or, map, take, refl, sym, ap, ap₂, ◌∙◌, subst, arith, length-append}
use Rattle.std.proofs.lemmas.List.{map-append, get_or_append_left, get_or-append-add, take_more}
use Rattle.mc_accepted.specs.InstRules.{Functor, InstTerm, inst_node, defined, bound_over, InstTerms, inst_then, inst_at, over, each_over}
use Rattle.mc_inst_table.specs.declared.inst.Functor.{Functor as Listed}
use Rattle.mc_inst_table.specs.declared.inst.Inst.{Inst, Defined, Bound}
use Rattle.mc_inst_table.specs.declared.inst.Inst.TheOpen as O
use Rattle.mc_inst_table.specs.declared.inst.Inst.TheVariants.{rolls-Defined, rolls-Bound}
use Rattle.mc_inst_table.specs.declared.inst.Inst.TheFolds.{fold-roll-Inst}
use Rattle.mc_inst_table.specs.Plain.{inst_terms, plain_functor, plain_inst, plain_insts, plain_inst_step}
use Rattle.mc_insts.specs.code.Lists.{Extends}
use Rattle.mc_insts.proofs.Found.{by_order}
use Rattle.mc_insts.proofs.Growth.{extends_length, extends_get}
use Rattle.mc_signatures.specs.declared.keys.InstKey.{InstKey}
use Rattle.mc_signatures.specs.code.Keys.{builtins, term_at, terms_at, terms, AllBelow, IsInst, AreInsts, with_insts}
use Rattle.mc_signatures.proofs.InstKeys.{terms_on, all_below_on, from_extends}

-- as more insts come, those that are there stay
pub inst_on : (ts us : List InstTerm) (k : ℕ) (i : InstTerm) → Extends ts us → IsInst ts k i → IsInst us k i
inst_on ts us k i e one =
    let le = extends_length ts us e in
    let below = one.there in
    record { there = omega arith; is = extends_get ts us k (inst_node 0) e one.there ∙ one.is }

pub below_later : (ts us : List InstTerm) (ks : List ℕ) → Extends ts us → AllBelow (length ts) ks → AllBelow (length us) ks
below_later ts us ks e below = all_below_on (length ts) (length us) ks (extends_length ts us e) below

pub terms_later : (ts us : List InstTerm) (ks : List ℕ) → Extends ts us → AllBelow (length ts) ks → terms_at us ks ≡ terms_at ts ks
terms_later ts us ks e below = ap inst_terms (terms_on ts us ks e below)

pub with_later : (ts us : List InstTerm) (ks : List ℕ) (i : InstTerm) → Extends ts us → AllBelow (length ts) ks → with_insts us ks i ≡ with_insts ts ks i
with_later ts us ks i e below = ap (λ js. over js i) (terms_later ts us ks e below)

-- one more number
pub below_push : (n : ℕ) (ks : List ℕ) (k : ℕ) → AllBelow n ks → k < n → AllBelow n (ks ++ k ∷ [])
below_push n ks k below lt i w =
    let l : length (ks ++ k ∷ []) ≡ length ks + 1 = length-append ks (k ∷ []) in
    by_order i (length ks)
    (λ x. subst (λ z. z < n) (sym (get_or_append_left ks (k ∷ []) 0 i x)) (below i x))
    (λ x. subst (λ z. z < n) (sym (ap (λ j. get_or (ks ++ k ∷ []) j 0) (let z : i ≡ length ks + 0 = omega arith in z) ∙ get_or-append-add ks (k ∷ []) 0 0)) lt)
    (λ x. absurd (omega arith))

insts_push : (ts us : List InstTerm) (ks : List ℕ) (is : List InstTerm) (k : ℕ) (i : InstTerm) → Extends ts us → AreInsts ts ks is → IsInst us k i → AreInsts us (ks ++ k ∷ []) (is ++ i ∷ [])
insts_push ts us ks is k i e all one =
    record {
      there = below_push (length us) ks k (below_later ts us ks e all.there) one.there;
      are = map-append (term_at us) ks (k ∷ []) ∙ ap₂ (λ xs x. xs ++ x ∷ []) (terms_on ts us ks e all.there ∙ all.are) one.is;
    }

pub insts_step :
    (ts0 ts us : List InstTerm) (env : List ℕ) (is : List Inst) (n : ℕ) (i : Inst) (ks : List ℕ) (k : ℕ)
    → Extends ts0 ts → Extends ts us → AllBelow (length ts0) env → n < length is → i ≡ get_or is n i
    → AreInsts ts ks (map (with_insts ts0 env) (map plain_inst (take n is))) → IsInst us k (with_insts ts env (plain_inst i))
    → AreInsts us (ks ++ k ∷ []) (map (with_insts ts0 env) (map plain_inst (take (n + 1) is)))
insts_step ts0 ts us env is n i ks k e f below lt at all one =
    let o = with_insts ts0 env in
    let more : map o (map plain_inst (take (n + 1) is)) ≡ map o (map plain_inst (take n is)) ++ o (plain_inst i) ∷ [] =
    ap (λ xs. map o (map plain_inst xs)) (take_more is n i lt ∙ ap (λ x. take n is ++ x ∷ []) (sym at))
    ∙ ap (map o) (map-append plain_inst (take n is) (i ∷ []))
    ∙ map-append o (map plain_inst (take n is)) (plain_inst i ∷ []) in
    subst (λ xs. AreInsts us (ks ++ k ∷ []) xs) (sym more)
    (insts_push ts us ks (map o (map plain_inst (take n is))) k (o (plain_inst i)) f all (record { there = one.there; is = one.is ∙ with_later ts0 ts env (plain_inst i) e below }))

-- what a key makes of an inst that is over others
pub each_over_terms : (js : InstTerms) (is : List InstTerm) → each_over js (inst_terms is) ≡ inst_terms (map (over js) is)
each_over_terms js [] = refl
each_over_terms js (i ∷ is) = ap (inst_then (over js i)) (each_over_terms js is)

plain_inst-Defined : (d : ℕ) (is : List Inst) → plain_inst (Defined d is) ≡ defined d (plain_insts is)
plain_inst-Defined d is =
    ap plain_inst (sym (rolls-Defined d is)) ∙ fold-roll-Inst InstTerm plain_inst_step (O.Defined d is)

plain_inst-Bound : (fs : List Listed) (is : List Inst) → plain_inst (Bound fs is) ≡ bound_over (map plain_functor fs) (plain_insts is)
plain_inst-Bound fs is =
    ap plain_inst (sym (rolls-Bound fs is)) ∙ fold-roll-Inst InstTerm plain_inst_step (O.Bound fs is)

pub defined_is :
    (ts0 ts us : List InstTerm) (env ks : List ℕ) (i : Inst) (d : ℕ) (is : List Inst) (k : ℕ)
    → i ≡ Defined d is → AreInsts ts ks (map (with_insts ts0 env) (map plain_inst is))
    → IsInst us k (defined d (terms_at ts ks)) → IsInst us k (with_insts ts0 env (plain_inst i))
defined_is ts0 ts us env ks i d is k form all one =
    let js = terms_at ts0 env in
    let same : defined d (terms_at ts ks) ≡ over js (plain_inst i) =
    ap (λ xs. defined d (inst_terms xs)) all.are
    ∙ ap (defined d) (sym (each_over_terms js (map plain_inst is)))
    ∙ ap (over js) (sym (ap plain_inst form ∙ plain_inst-Defined d is)) in
    record { there = one.there; is = one.is ∙ same }

pub bound_is :
    (ts0 ts us : List InstTerm) (env ks : List ℕ) (i : Inst) (fs : List Listed) (is : List Inst) (gs : List Functor) (k : ℕ)
    → i ≡ Bound fs is → gs ≡ map plain_functor fs → AreInsts ts ks (map (with_insts ts0 env) (map plain_inst is))
    → IsInst us k (bound_over gs (terms_at ts ks)) → IsInst us k (with_insts ts0 env (plain_inst i))
bound_is ts0 ts us env ks i fs is gs k form named all one =
    let js = terms_at ts0 env in
    let same : bound_over gs (terms_at ts ks) ≡ over js (plain_inst i) =
    ap₂ (λ hs xs. bound_over hs (inst_terms xs)) named all.are
    ∙ ap (bound_over (map plain_functor fs)) (sym (each_over_terms js (map plain_inst is)))
    ∙ ap (over js) (sym (ap plain_inst form ∙ plain_inst-Bound fs is)) in
    record { there = one.there; is = one.is ∙ same }

-- a parameter is the inst in its place
given_at : (ts : List InstTerm) (ks : List ℕ) (p : ℕ) → p < length ks → inst_at (terms_at ts ks) p ≡ term_at ts (get_or ks p 0)
given_at ts [] p lt = absurd (omega arith)
given_at ts (k ∷ ks) zero lt = refl
given_at ts (k ∷ ks) (suc p) lt = given_at ts ks p (omega arith)

pub parameter_is : (ks : List ℕ) (p k : ℕ) → p < length ks → k ≡ get_or ks p 0 → (ts : List InstTerm) → AllBelow (length ts) ks → IsInst ts k (inst_at (terms_at ts ks) p)
parameter_is ks p k lt at ts below =
    record {
      there = subst (λ n. n < length ts) (sym at) (below p lt);
      is = ap (term_at ts) at ∙ sym (given_at ts ks p lt);
    }

-- the builtin insts come first
pub builtin_is : (k : ℕ) → k < 4 → (keys : List InstKey) → IsInst (terms keys) k (inst_node k)
builtin_is k lt keys =
    let e : Extends builtins (terms keys) = from_extends builtins keys in
    inst_on builtins (terms keys) k (inst_node k) e (there k lt)
  where
    there : (n : ℕ) → n < 4 → IsInst builtins n (inst_node n)
    there zero h = record { there = omega arith; is = refl }
    there (suc zero) h = record { there = omega arith; is = refl }
    there (suc (suc zero)) h = record { there = omega arith; is = refl }
    there (suc (suc (suc zero))) h = record { there = omega arith; is = refl }
    there (suc (suc (suc (suc n)))) h = absurd (omega arith)
