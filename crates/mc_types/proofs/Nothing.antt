-- What is overwritten in a unification frees no place, and brings no rigid variable in.
use Rattle.std.proofs.Common.{◌≡◌, ℕ, ◌<◌, List, length, set, sym, ◌∙◌, ap, subst, inl, inr, get_or-set_same, get_or-set_other}
use Rattle.std.proofs.lemmas.Bool.{cases_eq}
use Rattle.mc_types.specs.Holds.{IsRoot, cell_at}
use Rattle.mc_types.specs.Changes.{NothingNew}
use Rattle.mc_types.specs.declared.cells.Cell.{Cell}
use Rattle.mc_types.specs.declared.cells.Cell.TheVariants.{Free, Same, Rigid}

pub nothing_none : (cells : List Cell) → NothingNew cells cells
nothing_none cells = record { free = λ i e. e; rigid = λ i n e. (i, e) }

pub nothing_more : (a b c : List Cell) → NothingNew a b → NothingNew b c → NothingNew a c
nothing_more a b c x y = record {
  free = λ i e. x.free i (y.free i e);
  rigid = λ i n e. let p = y.rigid i n e in x.rigid p.0 n p.1;
}

no_join : (j : ℕ) (c : Cell) → IsRoot c → Same j ≡ c → ⊥
no_join j c r e = let P : Cell → Type 0 = λ d. IsRoot d in subst P (sym e) r

pub nothing_joined : (cells : List Cell) (low high : ℕ) → high < length cells → NothingNew cells (set cells high (Same low))
nothing_joined cells low high lt = record {
  free = λ i e. elim (cases_eq i high) [
    | inl same ↦ absurd (no_join low Free tt (sym (get_or-set_same cells high (Same low) Free lt) ∙ ap (cell_at (set cells high (Same low))) (sym same) ∙ e))
    | inr ne ↦ sym (get_or-set_other cells high i (Same low) Free ne) ∙ e
  ];
  rigid = λ i n e. elim (cases_eq i high) [
    | inl same ↦ absurd (no_join low (Rigid n) tt (sym (get_or-set_same cells high (Same low) Free lt) ∙ ap (cell_at (set cells high (Same low))) (sym same) ∙ e))
    | inr ne ↦ (i, sym (get_or-set_other cells high i (Same low) Free ne) ∙ e)
  ];
}

-- a free place takes what another place holds
pub nothing_moved : (cells : List Cell) (low high : ℕ) (x : Cell) → low < length cells → cell_at cells low ≡ Free → cell_at cells high ≡ x → NothingNew cells (set cells low x)
nothing_moved cells low high x lt was from = record {
  free = λ i e. elim (cases_eq i low) [
    | inl same ↦ ap (cell_at cells) same ∙ was
    | inr ne ↦ sym (get_or-set_other cells low i x Free ne) ∙ e
  ];
  rigid = λ i n e. elim (cases_eq i low) [
    | inl same ↦ (high, from ∙ sym (get_or-set_same cells low x Free lt) ∙ ap (cell_at (set cells low x)) (sym same) ∙ e)
    | inr ne ↦ (i, sym (get_or-set_other cells low i x Free ne) ∙ e)
  ];
}

pub nothing_moved_and_joined : (cells : List Cell) (low high : ℕ) (x : Cell) → low < length cells → high < length (set cells low x) → cell_at cells low ≡ Free → cell_at cells high ≡ x → NothingNew cells (set (set cells low x) high (Same low))
nothing_moved_and_joined cells low high x lt place was from = nothing_more _ _ _ (nothing_moved cells low high x lt was from) (nothing_joined (set cells low x) low high place)
