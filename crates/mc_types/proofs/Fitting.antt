-- Fitting the types of places to a candidate, one place after the other.
use Rattle.std.proofs.Common.{◌≡◌, ℕ, ◌+◌, ◌-◌, ◌<◌, ◌≤◌, true, false, cond, ltb, List, ◌++◌, length, get_or, map, sym, ◌∙◌, ap, refl, subst, inl, inr, arith, length-append}
use Rattle.std.specs.Prelude.{replicate}
use Rattle.std.proofs.lemmas.Bool.{cases_eq, cases_lt, lt-ltb, le-ltb}
use Rattle.std.proofs.lemmas.List.{get_or_append_left, get_or-append_right, get_or-replicate, length-replicate, get_or_past, get_or-map, length-map, same_lists}
use Rattle.mc_types.specs.Shapes.{Shape, rigid}
use Rattle.mc_types.specs.Holds.{Holds, CellHolds, InOrder, cell_at, Unified}
use Rattle.mc_types.specs.Fits.{instance, FitSays}
use Rattle.mc_types.specs.declared.cells.Cell.{Cell}
use Rattle.mc_types.specs.declared.cells.Cell.TheVariants.{Free}
use Rattle.mc_program.specs.PlainPrograms.{plain_type}
use Rattle.mc_program.specs.declared.ty.Ty.{Ty, Int}
use Rattle.mc_types.specs.Placed.{TypeAdded}
use Rattle.mc_types.proofs.TreeLaws.{placed_agrees}
use Rattle.mc_types.specs.declared.signature.Signature.{Signature}
use Rattle.mc_types.proofs.Adding.{agree_at, keeps_append}

instance_agrees : (n : ℕ) (σ σ' : ℕ → Shape) (ty : Ty) → ((k : ℕ) → k < n → σ k ≡ σ' k) → instance n σ ty ≡ instance n σ' ty
instance_agrees n σ σ' ty same = placed_agrees n σ σ' (plain_type ty) same

-- the types of the first places fit, with these types for the candidate's variables
abbrev pub FitsUpTo : (n : ℕ) → (ℕ → Shape) → (ℕ → Shape) → List Ty → List ℕ → ℕ → Type 0
FitsUpTo n σ θ types places k = (j : ℕ) (d : Ty) (e : ℕ) → j < k → instance n σ (get_or types j d) ≡ θ (get_or places j e)

pub record Fitting (first now : List Cell) (n : ℕ) (types : List Ty) (places : List ℕ) (k : ℕ) : Type 0 where
  pub room : length first + n ≤ length now
  pub keeps : (ρ : ℕ → Shape) → Holds ρ now → Holds ρ first × FitsUpTo n (λ m. ρ (length first + m)) ρ types places k
  pub extends : (ρ σ : ℕ → Shape) → Holds ρ first → FitsUpTo n σ ρ types places k → (ρ' : ℕ → Shape) × Holds ρ' now × ((i : ℕ) → i < length first → ρ' i ≡ ρ i) × ((m : ℕ) → m < n → ρ' (length first + m) ≡ σ m)

free_at : (first : List Cell) (n i : ℕ) → length first ≤ i → cell_at (first ++ replicate n Free) i ≡ Free
free_at first n i ge = elim (cases_lt i (length first + n)) [
  | inl lt ↦ get_or-append_right first (replicate n Free) (length first) i Free refl ge ∙ get_or-replicate n (i - length first) Free Free (omega arith)
  | inr past ↦ get_or_past (first ++ replicate n Free) i Free (omega (arith, length-append first (replicate n Free), length-replicate n Free))
]

split_at : (m : ℕ) → (ℕ → Shape) → (ℕ → Shape) → ℕ → Shape
split_at m ρ σ i = cond (ltb i m) (ρ i) (σ (i - m))

split_low : (m : ℕ) (ρ σ : ℕ → Shape) (i : ℕ) → i < m → split_at m ρ σ i ≡ ρ i
unfolding split_at
split_low m ρ σ i lt = ap (λ b. cond b (ρ i) (σ (i - m))) (lt-ltb i m lt)

split_high : (m : ℕ) (ρ σ : ℕ → Shape) (i : ℕ) → split_at m ρ σ (m + i) ≡ σ i
unfolding split_at
split_high m ρ σ i =
    let e : m + i - m ≡ i = omega arith in
    ap (λ b. cond b (ρ (m + i)) (σ (m + i - m))) (le-ltb (m + i) m (omega arith)) ∙ ap σ e

pub fitting_first : (first : List Cell) (n : ℕ) (types : List Ty) (places : List ℕ) → InOrder first → Fitting first (first ++ replicate n Free) n types places 0
fitting_first first n types places o = record {
  room = omega (arith, length-append first (replicate n Free), length-replicate n Free);
  keeps = λ ρ h. (keeps_append ρ first (replicate n Free) h, (λ j d e lt. let no : ⊥ = omega arith in absurd no));
  extends = λ ρ σ h fits.
      let ρ' = split_at (length first) ρ σ in (
        ρ',
        (λ i. elim (cases_lt i (length first)) [
          | inl lt ↦
              let P : Cell → Type 0 = λ c. CellHolds ρ' i c in
              subst P (sym (get_or_append_left first (replicate n Free) Free i lt))
              (agree_at ρ ρ' (length first) i (cell_at first i) (λ k l. split_low (length first) ρ σ k l) lt (o i) (h i))
          | inr ge ↦ let P : Cell → Type 0 = λ c. CellHolds ρ' i c in subst P (sym (free_at first n i ge)) tt
        ]),
        (λ i lt. split_low (length first) ρ σ i lt),
        (λ m lt. split_high (length first) ρ σ m),
      );
}

module _ (first now : List Cell) (n : ℕ) (types : List Ty) (places : List ℕ) (k : ℕ) (f : Fitting first now n types places k) (ty : Ty) (place : ℕ) (at_types : (d : Ty) → get_or types k d ≡ ty) (at_places : (e : ℕ) → get_or places k e ≡ place) (within : place < length first) (more : List Cell) (node : ℕ) (longer : length now ≤ length more) (added : TypeAdded now more (length first) n (plain_type ty) node) where
  -- types that fit so far and at the next place
  next_type : (ρ σ : ℕ → Shape) → FitsUpTo n σ ρ types places (k + 1) → instance n σ ty ≡ ρ place
  next_type ρ σ fits = ap (instance n σ) (sym (at_types Int)) ∙ fits k Int 0 (omega arith) ∙ ap ρ (at_places 0)

  reach : (ρ σ : ℕ → Shape) → Holds ρ first → FitsUpTo n σ ρ types places (k + 1) → (ρ' : ℕ → Shape) × Holds ρ' more × (ρ' node ≡ ρ' place) × ((i : ℕ) → i < length first → ρ' i ≡ ρ i) × ((m : ℕ) → m < n → ρ' (length first + m) ≡ σ m)
  reach ρ σ h fits =
      let p = f.extends ρ σ h (λ j d e lt. fits j d e (omega arith)) in
      let q = added.extends p.0 p.1 in
      let low : (i : ℕ) → i < length first → q.0 i ≡ ρ i = λ i lt. q.2 i (omega (arith, f.room)) ∙ p.2 i lt in
      let vars : (m : ℕ) → m < n → q.0 (length first + m) ≡ σ m = λ m lt. q.2 (length first + m) (omega (arith, f.room)) ∙ p.3 m lt in
      let same : q.0 node ≡ q.0 place =
      added.means q.0 q.1
      ∙ instance_agrees n (λ m. q.0 (length first + m)) σ ty vars
      ∙ next_type ρ σ fits
      ∙ sym (low place within) in
      (q.0, q.1, same, low, vars)

  pub fitting_more : (after : List Cell) → length more ≤ length after → Unified true more after node place → Fitting first after n types places (k + 1)
  fitting_more after le unified = record {
    room = omega (arith, f.room);
    keeps = λ ρ h.
        let u = (unified ρ).0 h in
        let b = f.keeps ρ (added.keeps ρ u.0) in (
          b.0,
          (λ j d e lt. elim (cases_eq j k) [
            | inl je ↦
                ap (λ i. instance n (λ m. ρ (length first + m)) (get_or types i d)) je
                ∙ ap (instance n (λ m. ρ (length first + m))) (at_types d)
                ∙ sym (added.means ρ u.0)
                ∙ u.1
                ∙ sym (ap ρ (ap (λ i. get_or places i e) je ∙ at_places e))
            | inr ne ↦ b.1 j d e (omega arith)
          ]),
        );
    extends = λ ρ σ h fits.
        let r = reach ρ σ h fits in
        (r.0, (unified r.0).1 (r.1, r.2), r.3, r.4);
  }

  pub fitting_fails : (after : List Cell) → Unified false more after node place → (ρ σ : ℕ → Shape) → Holds ρ first → FitsUpTo n σ ρ types places (k + 1) → ⊥
  fitting_fails after clash ρ σ h fits = let r = reach ρ σ h fits in clash r.0 r.1 r.2

from_map : (n : ℕ) (σ θ : ℕ → Shape) (types : List Ty) (places : List ℕ) (k : ℕ) → length places ≡ length types → k ≤ length types → map (instance n σ) types ≡ map θ places → FitsUpTo n σ θ types places k
from_map n σ θ types places k len le e j d x lt =
    sym (get_or-map (instance n σ) types j d (rigid 0) (omega arith))
    ∙ ap (λ xs. get_or xs j (rigid 0)) e
    ∙ get_or-map θ places j x (rigid 0) (omega arith)

to_map : (n : ℕ) (σ θ : ℕ → Shape) (types : List Ty) (places : List ℕ) → length places ≡ length types → FitsUpTo n σ θ types places (length types) → map (instance n σ) types ≡ map θ places
to_map n σ θ types places len fits =
    same_lists (map (instance n σ) types) (map θ places) (length-map types (instance n σ) ∙ sym len ∙ sym (length-map places θ))
    (λ k d lt.
    let lt2 : k < length types = omega (arith, length-map types (instance n σ)) in
    get_or-map (instance n σ) types k Int d lt2
    ∙ fits k Int 0 lt2
    ∙ sym (get_or-map θ places k 0 d (omega arith)))

pub fit_last : (first now : List Cell) (signature : Signature) (places : List ℕ) (k : ℕ) → length places ≡ length signature.types.items → length places ≤ k → k ≤ length places → Fitting first now signature.vars signature.types.items places k → FitSays true first now signature places
fit_last first now signature places k len ge le f = record {
  keeps = λ ρ h.
      let p = f.keeps ρ h in
      (p.0, ((λ m. ρ (length first + m)), to_map signature.vars (λ m. ρ (length first + m)) ρ signature.types.items places len (λ j d e lt. p.1 j d e (omega arith))));
  extends = λ ρ h fits.
      let r = f.extends ρ fits.0 h (from_map signature.vars fits.0 ρ signature.types.items places k len (omega arith) fits.1) in
      (r.0, r.1, r.2);
}

pub fit_fails : (first after : List Cell) (signature : Signature) (places : List ℕ) (k : ℕ) → length places ≡ length signature.types.items → k < length places → ((ρ σ : ℕ → Shape) → Holds ρ first → FitsUpTo signature.vars σ ρ signature.types.items places (k + 1) → ⊥) → FitSays false first after signature places
fit_fails first after signature places k len lt never ρ h fits =
    never ρ fits.0 h (from_map signature.vars fits.0 ρ signature.types.items places (k + 1) len (omega arith) fits.1)
