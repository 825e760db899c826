-- Types that are added to a graph, one argument after the other.
use Rattle.std.proofs.Common.{◌≡◌, ℕ, ◌+◌, ◌<◌, ◌≤◌, List, [], ◌∷◌, ◌++◌, length, sym, ◌∙◌, ap, refl, subst, inl, inr, arith, length-append}
use Rattle.std.proofs.lemmas.Bool.{cases_eq, cases_lt}
use Rattle.std.proofs.lemmas.List.{get_or_append_left, get_or_push, get_or_past}
use Rattle.mc_program.specs.Programs.{TypeTerm, TypeTerms, no_types, type_then}
use Rattle.mc_types.specs.Shapes.{Shape, named, app}
use Rattle.mc_types.specs.Holds.{Holds, InOrder, Extends, cell_at}
use Rattle.mc_types.specs.declared.cells.Cell.{Cell}
use Rattle.mc_types.specs.declared.cells.Cell.TheVariants.{Free, Named, Rigid, App}
use Rattle.mc_types.specs.declared.cells.TypeName.{TypeName}
use Rattle.mc_types.proofs.Adding.{extends_push, extends_more, keeps_append, cell_last}
use Rattle.mc_types.specs.Trees.{shaped_onto, chosen, placed}
use Rattle.mc_types.specs.Placed.{TypeAdded, Apart}
use Rattle.mc_types.proofs.TreeLaws.{chosen_above, chosen_below}

abbrev IsFree : Cell → Type 0
IsFree Free = Unit {0}
IsFree _ = ⊥

-- a cell that is pushed, and neither free nor a rigid variable below n
pub apart_push : (n : ℕ) (cells : List Cell) (c : Cell) → (c ≡ Free → ⊥) → ((k : ℕ) → c ≡ Rigid k → n ≤ k) → Apart n cells → Apart n (cells ++ c ∷ [])
apart_push n cells c not_free high a = record {
  free = λ i lt e. elim (cases_lt i (length cells)) [
    | inl low ↦ a.free i low (sym (get_or_append_left cells (c ∷ []) Free i low) ∙ e)
    | inr ge ↦
        let at : i ≡ length cells = omega (arith, length-append cells (c ∷ [])) in
        absurd (not_free (sym (get_or_push cells c Free (length cells) refl) ∙ ap (cell_at (cells ++ c ∷ [])) (sym at) ∙ e))
  ];
  rigid = λ i k e. elim (cases_lt i (length cells)) [
    | inl low ↦ a.rigid i k (sym (get_or_append_left cells (c ∷ []) Free i low) ∙ e)
    | inr ge ↦ elim (cases_eq i (length cells)) [
      | inl at ↦ high k (sym (get_or_push cells c Free (length cells) refl) ∙ ap (cell_at (cells ++ c ∷ [])) (sym at) ∙ e)
      | inr ne ↦
          let past : cell_at (cells ++ c ∷ []) i ≡ Free = get_or_past (cells ++ c ∷ []) i Free (omega (arith, length-append cells (c ∷ []))) in
          let P : Cell → Type 0 = λ d. IsFree d in
          absurd (subst P (sym past ∙ e) tt)
    ]
  ];
}

abbrev IsNamed : Cell → Type 0
IsNamed (Named m) = Unit {0}
IsNamed _ = ⊥

abbrev IsOver : Cell → Type 0
IsOver (App f x) = Unit {0}
IsOver _ = ⊥

abbrev number_of : Cell → ℕ
number_of (Rigid k) = k
number_of _ = 0

pub apart_named : (n : ℕ) (cells : List Cell) (m : TypeName) → Apart n cells → Apart n (cells ++ Named m ∷ [])
apart_named n cells m a =
    let P : Cell → Type 0 = λ d. IsNamed d in
    apart_push n cells (Named m) (λ e. subst P e tt) (λ k e. absurd (subst P e tt)) a

pub apart_app : (n : ℕ) (cells : List Cell) (f x : ℕ) → Apart n cells → Apart n (cells ++ App f x ∷ [])
apart_app n cells f x a =
    let P : Cell → Type 0 = λ d. IsOver d in
    apart_push n cells (App f x) (λ e. subst P e tt) (λ k e. absurd (subst P e tt)) a

pub apart_rigid : (n : ℕ) (cells : List Cell) (k : ℕ) → n ≤ k → Apart n cells → Apart n (cells ++ Rigid k ∷ [])
apart_rigid n cells k ge a =
    let P : Cell → Type 0 = λ d. IsFree d in
    apart_push n cells (Rigid k) (λ e. subst P (sym e) tt) (λ j e. let same : k ≡ j = ap number_of e in omega (arith, same, ge)) a

pub added_variable : (cells : List Cell) (base count k : ℕ) (t : TypeTerm) → ((σ : ℕ → Shape) → placed count σ t ≡ chosen count σ k) → k < count → TypeAdded cells cells base count t (base + k)
added_variable cells base count k t is lt = record {
  keeps = λ ρ h. h;
  means = λ ρ h. sym (is (λ j. ρ (base + j)) ∙ chosen_below count (λ j. ρ (base + j)) k lt);
  extends = λ ρ h. (ρ, h, (λ i l. refl));
}

pub added_rigid : (cells : List Cell) (base count k : ℕ) (t : TypeTerm) → ((σ : ℕ → Shape) → placed count σ t ≡ chosen count σ k) → count ≤ k → InOrder cells → TypeAdded cells (cells ++ Rigid k ∷ []) base count t (length cells)
added_rigid cells base count k t is ge o = record {
  keeps = λ ρ h. keeps_append ρ cells (Rigid k ∷ []) h;
  means = λ ρ h. cell_last cells (Rigid k) ρ h ∙ sym (is (λ j. ρ (base + j)) ∙ chosen_above count (λ j. ρ (base + j)) k ge);
  extends = extends_push cells (Rigid k) o tt;
}

pub added_named : (cells : List Cell) (base count : ℕ) (m : TypeName) (t : TypeTerm) → ((σ : ℕ → Shape) → placed count σ t ≡ named m) → InOrder cells → TypeAdded cells (cells ++ Named m ∷ []) base count t (length cells)
added_named cells base count m t is o = record {
  keeps = λ ρ h. keeps_append ρ cells (Named m ∷ []) h;
  means = λ ρ h. cell_last cells (Named m) ρ h ∙ sym (is (λ j. ρ (base + j)));
  extends = extends_push cells (Named m) o tt;
}

-- a union type of which these arguments are left to be added onto a place
pub record Adding (first now : List Cell) (base count : ℕ) (t : TypeTerm) (left : TypeTerms) (node : ℕ) : Type 0 where
  pub longer : length first ≤ length now
  pub node_in : node < length now
  pub keeps : (ρ : ℕ → Shape) → Holds ρ now → Holds ρ first
  pub means : (ρ : ℕ → Shape) → Holds ρ now → shaped_onto (chosen count (λ k. ρ (base + k))) (ρ node) left ≡ placed count (λ k. ρ (base + k)) t
  pub extends : Extends first now

pub adding_first : (cells : List Cell) (base count : ℕ) (m : TypeName) (t : TypeTerm) (left : TypeTerms) → ((σ : ℕ → Shape) → placed count σ t ≡ shaped_onto (chosen count σ) (named m) left) → InOrder cells → Adding cells (cells ++ Named m ∷ []) base count t left (length cells)
adding_first cells base count m t left is o = record {
  longer = omega (arith, length-append cells (Named m ∷ []));
  node_in = omega (arith, length-append cells (Named m ∷ []));
  keeps = λ ρ h. keeps_append ρ cells (Named m ∷ []) h;
  means = λ ρ h. ap (λ f. shaped_onto (chosen count (λ k. ρ (base + k))) f left) (cell_last cells (Named m) ρ h) ∙ sym (is (λ k. ρ (base + k)));
  extends = extends_push cells (Named m) o tt;
}

pub adding_more : (first now mid : List Cell) (base count : ℕ) (t arg : TypeTerm) (left : TypeTerms) (node part : ℕ) → length now ≤ length mid → part < length mid → InOrder mid → Adding first now base count t (type_then arg left) node → TypeAdded now mid base count arg part → Adding first (mid ++ App node part ∷ []) base count t left (length mid)
adding_more first now mid base count t arg left node part le lt o a p = record {
  longer = omega (arith, length-append mid (App node part ∷ []), a.longer);
  node_in = omega (arith, length-append mid (App node part ∷ []));
  keeps = λ ρ h. a.keeps ρ (p.keeps ρ (keeps_append ρ mid (App node part ∷ []) h));
  means = λ ρ h.
      let hm = keeps_append ρ mid (App node part ∷ []) h in
      ap (λ f. shaped_onto (chosen count (λ k. ρ (base + k))) f left) (cell_last mid (App node part) ρ h ∙ ap (app (ρ node)) (p.means ρ hm))
      ∙ a.means ρ (p.keeps ρ hm);
  extends = extends_more first mid (mid ++ App node part ∷ []) (omega (arith, a.longer)) (extends_more first now mid a.longer a.extends p.extends) (extends_push mid (App node part) o (omega (arith, a.node_in), lt));
}

pub adding_last : (first now : List Cell) (base count : ℕ) (t : TypeTerm) (left : TypeTerms) (node : ℕ) → left ≡ no_types → Adding first now base count t left node → TypeAdded first now base count t node
adding_last first now base count t left node none a = record {
  keeps = a.keeps;
  means = λ ρ h. ap (shaped_onto (chosen count (λ k. ρ (base + k))) (ρ node)) (sym none) ∙ a.means ρ h;
  extends = a.extends;
}
