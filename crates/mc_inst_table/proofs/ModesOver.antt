-- What a name over insts means as a mode.
use Rattle.std.proofs.Common.{◌≡◌, ◌≢◌, ℕ, suc, List, [], ◌∷◌, map, length, get_or, refl, sym, ap, ◌∙◌, subst, arith, codes}
use Rattle.std.specs.Prelude.{Option, Some, None, if◌then◌else◌}
use Rattle.mc_term_data.specs.Plain.{plain_term, term_list}
use Rattle.mc_term_data.specs.Shapes.{is_the_word}
use Rattle.mc_term_data.specs.declared.term.Term.{Term}
use Rattle.mc_accepted.specs.InstRules.{inst_node}
use Rattle.mc_names.specs.Linked.{Linked}
use Rattle.mc_inst_table.specs.Written.{from_to, over_one, written_inst, written_insts}

pub none_over :
    (l : Linked) (own : ℕ) (vs w : List (List ℕ)) (ts : List Term)
    → length ts ≢ 1 → None ≡ over_one w (written_insts l own vs (term_list (map plain_term ts)))
none_over l own vs w [] other = refl
none_over l own vs w (t ∷ []) other = absurd (other refl)
none_over l own vs w (t ∷ (u ∷ ts)) other = refl

pub one_over :
    (l : Linked) (own : ℕ) (vs w : List (List ℕ)) (ts : List Term) (t : Term)
    → length ts ≡ 1 → t ≡ get_or ts 0 t
    → over_one w (written_insts l own vs (term_list (map plain_term ts)))
    ≡ (if is_the_word (codes "in") w then Some (from_to (written_inst l own vs (plain_term t)) (written_inst l own vs (plain_term t)))
    else if is_the_word (codes "out") w then Some (from_to (inst_node 0) (written_inst l own vs (plain_term t))) else None)
one_over l own vs w [] t one at = absurd (let h : 0 ≡ 1 = one in omega arith)
one_over l own vs w (u ∷ []) t one at =
    ap
    (λ (x : Term). if is_the_word (codes "in") w then Some (from_to (written_inst l own vs (plain_term x)) (written_inst l own vs (plain_term x)))
    else if is_the_word (codes "out") w then Some (from_to (inst_node 0) (written_inst l own vs (plain_term x))) else None)
    (sym at)
one_over l own vs w (u ∷ (v ∷ ts)) t one at =
    absurd (let h : suc (suc (length ts)) ≡ 1 = one in omega arith)
