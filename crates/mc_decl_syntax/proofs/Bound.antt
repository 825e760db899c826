-- What a name over a slice's terms is as an inst, by how many they are.
use Rattle.std.proofs.Common.{◌≡◌, ℕ, ◌≤◌, ◌<◌, List, [], ◌∷◌, Bool, true, false, length, map, get_or, refl, ap, sym, ◌∙◌, cond, arith}
use Rattle.mc_term_data.specs.Plain.{plain_term, term_list}
use Rattle.mc_term_data.specs.declared.term.Term.{Term}
use Rattle.mc_decl_syntax.specs.Insts.{is_inst, is_inst_over, are_insts, are_bound}

one_over : (ps : List (List ℕ)) (b : Bool) (ts : List Term) (x : Term) → 1 ≤ length ts → length ts < 2 → x ≡ get_or ts 0 x → cond b (are_bound ps (plain_term x)) (is_inst ps (plain_term x)) ≡ is_inst_over ps b (term_list (map plain_term ts))
one_over ps b [] x lo hi e = absurd (omega arith)
one_over ps b (t ∷ []) x lo hi e = ap (λ u. cond b (are_bound ps (plain_term u)) (is_inst ps (plain_term u))) e
one_over ps b (t ∷ (u ∷ ts)) x lo hi e = absurd (omega arith)

pub bound_of_one : (ps : List (List ℕ)) (b : Bool) (ts : List Term) (x : Term) → b ≡ true → 1 ≤ length ts → length ts < 2 → x ≡ get_or ts 0 x → are_bound ps (plain_term x) ≡ is_inst_over ps b (term_list (map plain_term ts))
bound_of_one ps b ts x is lo hi e = ap (λ v. cond v (are_bound ps (plain_term x)) (is_inst ps (plain_term x))) (sym is) ∙ one_over ps b ts x lo hi e

pub inst_of_one : (ps : List (List ℕ)) (b : Bool) (ts : List Term) (x : Term) → b ≡ false → 1 ≤ length ts → length ts < 2 → x ≡ get_or ts 0 x → is_inst ps (plain_term x) ≡ is_inst_over ps b (term_list (map plain_term ts))
inst_of_one ps b ts x is lo hi e = ap (λ v. cond v (are_bound ps (plain_term x)) (is_inst ps (plain_term x))) (sym is) ∙ one_over ps b ts x lo hi e

pub several_over : (ps : List (List ℕ)) (b : Bool) (ts : List Term) → 2 ≤ length ts → are_insts ps (term_list (map plain_term ts)) ≡ is_inst_over ps b (term_list (map plain_term ts))
several_over ps b [] h = absurd (omega arith)
several_over ps b (t ∷ []) h = absurd (omega arith)
several_over ps b (t ∷ (u ∷ ts)) h = refl
