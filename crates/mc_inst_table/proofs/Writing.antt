-- Insts that are written, one behind another.
use Rattle.std.proofs.Common.{◌≡◌, ◌≢◌, ℕ, suc, ◌+◌, ◌<◌, Bool, List, [], ◌∷◌, ◌++◌, map, length, get_or, take, refl, sym, ap, ap₂, ◌∙◌, arith, codes}
use Rattle.std.proofs.lemmas.List.{take_more}
use Rattle.mc_term_data.specs.Plain.{PlainTerm, PlainTerms, plain_term, term_list, more_terms, no_term}
use Rattle.mc_term_data.specs.Names.{count as count_of}
use Rattle.mc_names.proofs.Places.{count_is_length}
use Rattle.mc_term_data.specs.declared.term.Term.{Term}
use Rattle.mc_accepted.specs.InstRules.{InstTerm, InstTerms, no_insts, inst_then}
use Rattle.mc_names.specs.Linked.{Linked}
use Rattle.mc_inst_table.specs.declared.inst.Inst.{Inst}
use Rattle.mc_inst_table.specs.Plain.{plain_inst, plain_insts}
use Rattle.mc_term_data.specs.Shapes.{operands}
use Rattle.mc_inst_table.specs.Rules.{insts_of_moded, insts_of_arguments, insts_of_modes}
use Rattle.mc_inst_table.specs.Written.{append_insts, written_mode, insts_of_mode, named_inst, inst_over, written_inst, written_insts, listed_insts, all_listed}

pub append_none : (is : InstTerms) → append_insts is no_insts ≡ is
append_none no_insts = refl
append_none (inst_then i is) = ap (inst_then i) (append_none is)

pub append_three :
    (is js ks : InstTerms)
    → append_insts (append_insts is js) ks ≡ append_insts is (append_insts js ks)
append_three no_insts js ks = refl
append_three (inst_then i is) js ks = ap (inst_then i) (append_three is js ks)

pub one_more :
    (is : List Inst) (i : Inst)
    → plain_insts (is ++ i ∷ []) ≡ append_insts (plain_insts is) (inst_then (plain_inst i) no_insts)
one_more [] i = refl
one_more (j ∷ is) i = ap (inst_then (plain_inst j)) (one_more is i)

pub several_more :
    (is js : List Inst) → plain_insts (is ++ js) ≡ append_insts (plain_insts is) (plain_insts js)
several_more [] js = refl
several_more (i ∷ is) js = ap (inst_then (plain_inst i)) (several_more is js)

written_last :
    (l : Linked) (own : ℕ) (vs : List (List ℕ)) (ts : List Term) (t : Term)
    → written_insts l own vs (term_list (map plain_term (ts ++ t ∷ [])))
    ≡ append_insts (written_insts l own vs (term_list (map plain_term ts))) (inst_then (written_inst l own vs (plain_term t)) no_insts)
written_last l own vs [] t = refl
written_last l own vs (u ∷ ts) t = ap (inst_then (written_inst l own vs (plain_term u))) (written_last l own vs ts t)

pub written_more :
    (l : Linked) (own : ℕ) (vs : List (List ℕ)) (is : List Inst) (i : Inst) (ts : List Term) (k : ℕ) (t : Term)
    → k < length ts → t ≡ get_or ts k t → plain_inst i ≡ written_inst l own vs (plain_term t)
    → plain_insts is ≡ written_insts l own vs (term_list (map plain_term (take k ts)))
    → plain_insts (is ++ i ∷ []) ≡ written_insts l own vs (term_list (map plain_term (take (k + 1) ts)))
written_more l own vs is i ts k t below at same before =
    one_more is i
    ∙ ap₂ (λ js j. append_insts js (inst_then j no_insts)) before
    (same ∙ ap (λ (u : Term). written_inst l own vs (plain_term u)) at)
    ∙ sym (written_last l own vs (take k ts) (get_or ts k t))
    ∙ ap (λ (us : List Term). written_insts l own vs (term_list (map plain_term us))) (sym (take_more ts k t below))

-- of what each of some terms writes, one behind another
module _ (one : PlainTerm → InstTerms) (all : PlainTerms → InstTerms)
    (none : all no_term ≡ no_insts)
    (then : (t : PlainTerm) (ts : PlainTerms) → all (more_terms t ts) ≡ append_insts (one t) (all ts)) where
  all_last :
      (ts : List Term) (t : Term)
      → all (term_list (map plain_term (ts ++ t ∷ []))) ≡ append_insts (all (term_list (map plain_term ts))) (one (plain_term t))
  all_last [] t =
      then (plain_term t) no_term
      ∙ ap (append_insts (one (plain_term t))) none
      ∙ append_none (one (plain_term t))
      ∙ ap (λ js. append_insts js (one (plain_term t))) (sym none)
  all_last (u ∷ ts) t =
      then (plain_term u) (term_list (map plain_term (ts ++ t ∷ [])))
      ∙ ap (append_insts (one (plain_term u))) (all_last ts t)
      ∙ sym (append_three (one (plain_term u)) (all (term_list (map plain_term ts))) (one (plain_term t)))
      ∙ ap (λ js. append_insts js (one (plain_term t))) (sym (then (plain_term u) (term_list (map plain_term ts))))

  all_more :
      (is js : List Inst) (ts : List Term) (k : ℕ) (t : Term)
      → k < length ts → t ≡ get_or ts k t → plain_insts js ≡ one (plain_term t)
      → plain_insts is ≡ all (term_list (map plain_term (take k ts)))
      → plain_insts (is ++ js) ≡ all (term_list (map plain_term (take (k + 1) ts)))
  all_more is js ts k t below at same before =
      several_more is js
      ∙ ap₂ append_insts before (same ∙ ap (λ (u : Term). one (plain_term u)) at)
      ∙ sym (all_last (take k ts) (get_or ts k t))
      ∙ ap (λ (us : List Term). all (term_list (map plain_term us))) (sym (take_more ts k t below))

pub listed_more :
    (l : Linked) (own : ℕ) (vs : List (List ℕ)) (is js : List Inst) (ts : List Term) (k : ℕ) (t : Term)
    → k < length ts → t ≡ get_or ts k t → plain_insts js ≡ listed_insts l own vs (plain_term t)
    → plain_insts is ≡ all_listed l own vs (term_list (map plain_term (take k ts)))
    → plain_insts (is ++ js) ≡ all_listed l own vs (term_list (map plain_term (take (k + 1) ts)))
listed_more l own vs =
    all_more (listed_insts l own vs) (all_listed l own vs) refl (λ t ts. refl)

pub arguments_more :
    (l : Linked) (own : ℕ) (is js : List Inst) (ts : List Term) (k : ℕ) (t : Term)
    → k < length ts → t ≡ get_or ts k t
    → plain_insts js ≡ insts_of_moded l own (operands (codes "::") (plain_term t))
    → plain_insts is ≡ insts_of_arguments l own (term_list (map plain_term (take k ts)))
    → plain_insts (is ++ js) ≡ insts_of_arguments l own (term_list (map plain_term (take (k + 1) ts)))
arguments_more l own =
    all_more (λ t. insts_of_moded l own (operands (codes "::") t)) (insts_of_arguments l own) refl (λ t ts. refl)

pub modes_more :
    (l : Linked) (own : ℕ) (is js : List Inst) (ts : List Term) (k : ℕ) (t : Term)
    → k < length ts → t ≡ get_or ts k t
    → plain_insts js ≡ insts_of_mode (written_mode l own [] (plain_term t))
    → plain_insts is ≡ insts_of_modes l own (term_list (map plain_term (take k ts)))
    → plain_insts (is ++ js) ≡ insts_of_modes l own (term_list (map plain_term (take (k + 1) ts)))
modes_more l own =
    all_more (λ t. insts_of_mode (written_mode l own [] t)) (insts_of_modes l own) refl (λ t ts. refl)

pub over_several :
    (l : Linked) (own : ℕ) (vs w : List (List ℕ)) (b : Bool) (ts : List Term) (is : InstTerms) (n : ℕ)
    → length ts ≢ 1 → is ≡ written_insts l own vs (term_list (map plain_term ts)) → n ≡ length ts
    → named_inst l own w n is ≡ inst_over l own vs w b (term_list (map plain_term ts))
over_several l own vs w b [] is n other same count = ap₂ (λ m us. named_inst l own w m us) count same
over_several l own vs w b (t ∷ []) is n other same count = absurd (other refl)
over_several l own vs w b (t ∷ (u ∷ ts)) is n other same count =
    let m = count_is_length ts in
    let many : n ≡ 2 + count_of (term_list (map plain_term ts)) = omega (arith, m, count) in
    ap₂ (λ m us. named_inst l own w m us) many same

pub over_single :
    (l : Linked) (own : ℕ) (vs w : List (List ℕ)) (b : Bool) (ts : List Term) (t : Term)
    → length ts ≡ 1 → t ≡ get_or ts 0 t
    → inst_over l own vs w b (more_terms (plain_term t) no_term)
    ≡ inst_over l own vs w b (term_list (map plain_term ts))
over_single l own vs w b [] t one at = absurd (let h : 0 ≡ 1 = one in omega arith)
over_single l own vs w b (u ∷ []) t one at =
    ap (λ (x : Term). inst_over l own vs w b (more_terms (plain_term x) no_term)) at
over_single l own vs w b (u ∷ (v ∷ ts)) t one at =
    absurd (let h : suc (suc (length ts)) ≡ 1 = one in omega arith)
