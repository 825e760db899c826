-- Two types are added and made equal.
use Rattle.std.proofs.Common.{◌≡◌, ℕ, ◌+◌, ◌<◌, ◌≤◌, true, false, List, length, sym, ◌∙◌, ap, subst, arith, zero-add}
use Rattle.mc_program.specs.Programs.{TypeTerm}
use Rattle.mc_program.specs.PlainPrograms.{plain_type}
use Rattle.mc_program.specs.declared.ty.Ty.{Ty}
use Rattle.mc_types.specs.Shapes.{Shape}
use Rattle.mc_types.specs.Holds.{Holds, InOrder, Unified}
use Rattle.mc_types.specs.Changes.{NothingNew}
use Rattle.mc_types.specs.Founded.{Founded}
use Rattle.mc_types.specs.declared.cells.Cell.{Cell}
use Rattle.mc_types.specs.Substitutions.{under, AreOne, Unifies}
use Rattle.mc_types.specs.Trees.{shape, placed, type_of}
use Rattle.mc_types.specs.Placed.{TypeAdded, Apart}
use Rattle.mc_types.specs.code.Systems.{IsSystem, TypesUnify, TypesSay, types_of}
use Rattle.mc_types.proofs.TreeLaws.{placed_agrees, placed_under, type_of_placed, shape-injective}
use Rattle.mc_types.proofs.Generals.{as_many_types, to_below, from_below, means_below, below_means, below_itself}

from_zero : (n : ℕ) (ρ : ℕ → Shape) (t : TypeTerm) → placed n (λ k. ρ (0 + k)) t ≡ placed n ρ t
from_zero n ρ t = placed_agrees n (λ k. ρ (0 + k)) ρ t (λ k lt. ap ρ (zero-add k))

equal_agrees : (n : ℕ) (ρ θ : ℕ → Shape) (a b : TypeTerm) → ((i : ℕ) → i < n → ρ i ≡ θ i) → placed n ρ a ≡ placed n ρ b → placed n θ a ≡ placed n θ b
equal_agrees n ρ θ a b same e = sym (placed_agrees n ρ θ a same) ∙ e ∙ placed_agrees n ρ θ b same

pub still_apart : (n : ℕ) (two after : List Cell) → length after ≡ length two → NothingNew two after → Apart n two → Apart n after
still_apart n two after len new a = record {
  free = λ i lt e. a.free i (omega (arith, len)) (new.free i e);
  rigid = λ i k e. let p = new.rigid i k e in a.rigid p.0 k p.1;
}

module _ (n : ℕ) (before one two : List Cell) (a b : TypeTerm) (left right : ℕ) (ab : length before ≤ length one) (bc : length one ≤ length two) (room : n ≤ length before) (left_in : left < length one) (p : TypeAdded before one 0 n a left) (q : TypeAdded one two 0 n b right) where
  -- types before, carried to both
  reach : (ρ : ℕ → Shape) → Holds ρ before → placed n ρ a ≡ placed n ρ b → (ρ' : ℕ → Shape) × Holds ρ' two × (ρ' left ≡ ρ' right) × ((i : ℕ) → i < length before → ρ' i ≡ ρ i)
  reach ρ h e =
      let r = p.extends ρ h in
      let s = q.extends r.0 r.1 in
      let same : (i : ℕ) → i < length before → s.0 i ≡ ρ i = λ i lt. s.2 i (omega arith) ∙ r.2 i lt in
      let vars_same : (i : ℕ) → i < n → ρ i ≡ s.0 i = λ i lt. sym (same i (omega arith)) in
      let at_left : s.0 left ≡ placed n s.0 a = s.2 left left_in ∙ p.means r.0 r.1 ∙ from_zero n r.0 a ∙ placed_agrees n r.0 s.0 a (λ i lt. sym (s.2 i (omega arith))) in
      let at_right : s.0 right ≡ placed n s.0 b = q.means s.0 s.1 ∙ from_zero n s.0 b in
      (s.0, s.1, at_left ∙ equal_agrees n ρ s.0 a b vars_same e ∙ sym at_right, same)

  pub types_unify : (after : List Cell) → InOrder after → Founded after → length two ≤ length after → Apart n after → Unified true two after left right → TypesSay true n before after a b
  types_unify after o founded longer apart unified = record {
    in_order = o;
    founded = founded;
    longer = omega arith;
    apart = apart;
    keeps = λ ρ h.
        let u = (unified ρ).0 h in
        let h1 = q.keeps ρ u.0 in (
          p.keeps ρ h1,
          sym (p.means ρ h1 ∙ from_zero n ρ a) ∙ u.1 ∙ q.means ρ u.0 ∙ from_zero n ρ b,
        );
    extends = λ ρ h e.
        let r = reach ρ h e in
        (r.0, (unified r.0).1 (r.1, r.2), r.3);
  }

  pub types_clash : (after : List Cell) → Unified false two after left right → TypesSay false n before after a b
  types_clash after clash ρ h e = let r = reach ρ h e in clash r.0 r.1 r.2

  pub types_not_founded : (after : List Cell) → Unified true two after left right → ((ρ : ℕ → Shape) → Holds ρ after → ⊥) → TypesSay false n before after a b
  types_not_founded after unified never ρ h e = let r = reach ρ h e in never r.0 ((unified r.0).1 (r.1, r.2))

-- what can be read from equal trees is equal
read_equal : (n : ℕ) (ρ ρ' : ℕ → Shape) (a b : TypeTerm) → ((v : ℕ) → v < n → ρ' v ≡ shape (type_of (ρ v))) → placed n ρ a ≡ placed n ρ b → placed n ρ' a ≡ placed n ρ' b
read_equal n ρ ρ' a b is e =
    let θ : ℕ → TypeTerm = λ v. type_of (ρ v) in
    let read : (t : TypeTerm) → placed n ρ' t ≡ shape (type_of (placed n ρ t)) = λ t. placed_agrees n ρ' (λ v. shape (θ v)) t is ∙ placed_under n θ t ∙ ap shape (sym (type_of_placed n ρ t)) in
    read a ∙ ap (λ t. shape (type_of t)) e ∙ sym (read b)

module _ (n : ℕ) (before after : List Cell) (s : IsSystem n before) where
  pub system_after : (a b : TypeTerm) → TypesUnify n before after a b → IsSystem n after
  system_after a b u = record {
    in_order = u.in_order;
    founded = u.founded;
    room = omega (arith, u.longer, s.room);
    apart = u.apart;
    proper = λ ρ h.
        let k = u.keeps ρ h in
        let p = s.proper ρ k.0 in
        let x = u.extends p.0 p.1 (read_equal n ρ p.0 a b p.2 k.1) in
        (x.0, x.1, (λ v lt. x.2 v (omega (arith, s.room)) ∙ p.2 v lt));
  }

  -- types that make two trees equal make the two types one
  trees_one : (θ : ℕ → TypeTerm) (ρ : ℕ → Shape) (a b : TypeTerm) → ((v : ℕ) → v < n → ρ v ≡ shape (θ v)) → placed n ρ a ≡ placed n ρ b → under n θ a ≡ under n θ b
  trees_one θ ρ a b is e =
      let read : (t : TypeTerm) → placed n ρ t ≡ shape (under n θ t) = λ t. placed_agrees n ρ (λ v. shape (θ v)) t is ∙ placed_under n θ t in
      shape-injective (under n θ a) (under n θ b) (sym (read a) ∙ e ∙ read b)

  one_trees : (θ : ℕ → TypeTerm) (ρ : ℕ → Shape) (a b : TypeTerm) → ((v : ℕ) → v < n → ρ v ≡ shape (θ v)) → under n θ a ≡ under n θ b → placed n ρ a ≡ placed n ρ b
  one_trees θ ρ a b is e =
      let read : (t : TypeTerm) → placed n ρ t ≡ shape (under n θ t) = λ t. placed_agrees n ρ (λ v. shape (θ v)) t is ∙ placed_under n θ t in
      read a ∙ ap shape e ∙ sym (read b)

  pub unifies_yes : (a b : Ty) → TypesUnify n before after (plain_type a) (plain_type b) → Unifies true (types_of n before) (types_of n after) a b
  unifies_yes a b u =
      let later = system_after (plain_type a) (plain_type b) u in
      let len = as_many_types n before in (
        (λ θ. (
          (λ below.
              let m = below_means n after later θ (from_below n after θ below) in
              let k = u.keeps m.0 m.1 in
              let P : ℕ → Type 0 = λ j. AreOne j θ a b in (
                to_below n before θ (means_below n before s θ m.0 k.0 m.2),
                subst P (sym len) (trees_one θ m.0 (plain_type a) (plain_type b) m.2 k.1),
              )),
          (λ both.
              let m = below_means n before s θ (from_below n before θ both.0) in
              let P : ℕ → Type 0 = λ j. AreOne j θ a b in
              let x = u.extends m.0 m.1 (one_trees θ m.0 (plain_type a) (plain_type b) m.2 (subst P len both.1)) in
              to_below n after θ (means_below n after later θ x.0 x.1 (λ v lt. x.2 v (omega (arith, s.room)) ∙ m.2 v lt))),
        )),
        below_itself n after later,
      )

  pub unifies_no : (cells : List Cell) (a b : Ty) → TypesSay false n before cells (plain_type a) (plain_type b) → after ≡ before → Unifies false (types_of n before) (types_of n after) a b
  unifies_no cells a b never same = (
    (λ θ below one.
        let m = below_means n before s θ (from_below n before θ below) in
        let P : ℕ → Type 0 = λ j. AreOne j θ a b in
        never m.0 m.1 (one_trees θ m.0 (plain_type a) (plain_type b) m.2 (subst P (as_many_types n before) one))),
    ap (types_of n) same,
  )
