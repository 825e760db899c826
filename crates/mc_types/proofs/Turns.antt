-- One turn of a unification.
use Rattle.std.proofs.Common.{◌≡◌, ℕ, true, false, List, [], ◌∷◌, ◌++◌, length, min, max, sym, ◌∙◌, ap, refl, inl, inr, arith, Some}
use Rattle.std.proofs.Math.Logic.{◌↔◌}
use Rattle.std.specs.List.{All}
use Rattle.std.specs.Option.{option_to_list}
use Rattle.std.proofs.lemmas.Bool.{cases_lt}
use Rattle.std.proofs.lemmas.List.Elements.{All-push, All-nil, All-pop}
use Rattle.mc_types.specs.Shapes.{Shape}
use Rattle.mc_types.specs.Holds.{Holds, Unified}
use Rattle.mc_types.specs.code.Joins.{PairHolds}
use Rattle.mc_types.specs.declared.cells.Cell.{Cell}
use Rattle.mc_types.specs.declared.joins.Pair.{Pair}

pub either_order : (R : ℕ → ℕ → Type 0) (a b : ℕ) → R a b → R b a → R (min a b) (max a b)
either_order R a b r s =
    elim (cases_lt a b) as (λ _. R (min a b) (max a b)) [
      | inl lt ↦
          let e : min a b ≡ a = omega arith in
          let f : max a b ≡ b = omega arith in
          rw (e, f) r
      | inr le ↦
          let e : min a b ≡ b = omega arith in
          let f : max a b ≡ a = omega arith in
          rw (e, f) s
    ]

pub means : (cells : List Cell) (p : Pair) (a b low high : ℕ) → low ≡ min a b → high ≡ max a b → ((ρ : ℕ → Shape) → Holds ρ cells → ρ p.left ≡ ρ a) → ((ρ : ℕ → Shape) → Holds ρ cells → ρ p.right ≡ ρ b) → (ρ : ℕ → Shape) → Holds ρ cells → PairHolds ρ p ↔ (ρ low ≡ ρ high)
means cells p a b low high e f l r ρ hold =
    rw (e, f)
    (either_order (λ x y. PairHolds ρ p ↔ (ρ x ≡ ρ y)) a b
    ((λ h. sym (l ρ hold) ∙ h ∙ r ρ hold), (λ h. l ρ hold ∙ h ∙ sym (r ρ hold)))
    ((λ h. sym (sym (l ρ hold) ∙ h ∙ r ρ hold)), (λ h. l ρ hold ∙ sym h ∙ sym (r ρ hold))))

-- what cells and pairs that are left to join say, by two types that are to be equal in the cells at first
abbrev pub Says : List Cell → ℕ → ℕ → List Cell → List Pair → Type 0
Says first left right cells work = (ρ : ℕ → Shape) → (Holds ρ cells × All (PairHolds ρ) work) ↔ (Holds ρ first × (ρ left ≡ ρ right))

module _ (first : List Cell) (left right : ℕ) where
  pub says_first : (work : List Pair) (p : Pair) → p.left ≡ left → p.right ≡ right → work ≡ p ∷ [] → Says first left right first work
  says_first work p e f w = rw w (λ ρ. (
    (λ t. (t.0, ap ρ (sym e) ∙ t.1 0 p (omega arith) ∙ ap ρ f)),
    (λ t. (t.0, All-push (PairHolds ρ) [] p (All-nil (PairHolds ρ)) (ap ρ e ∙ t.1 ∙ ap ρ (sym f)))),
  ))

  module _ (cells : List Cell) (work rest : List Pair) (p : Pair) (popped : work ≡ rest ++ option_to_list (Some p)) (says : Says first left right cells work) where
    parted : (ρ : ℕ → Shape) → All (PairHolds ρ) work → All (PairHolds ρ) rest × PairHolds ρ p
    parted ρ all = All-pop (PairHolds ρ) work rest (Some p) popped all

    joint : (ρ : ℕ → Shape) → All (PairHolds ρ) rest → PairHolds ρ p → All (PairHolds ρ) work
    joint ρ all h = rw popped (All-push (PairHolds ρ) rest p all h)

    pub turn_same : ((ρ : ℕ → Shape) → Holds ρ cells → PairHolds ρ p) → Says first left right cells rest
    turn_same same ρ = (
      (λ t. (says ρ).0 (t.0, joint ρ t.1 (same ρ t.0))),
      (λ t. let s = (says ρ).1 t in (s.0, (parted ρ s.1).0)),
    )

    module _ (low high : ℕ) (means : (ρ : ℕ → Shape) → Holds ρ cells → PairHolds ρ p ↔ (ρ low ≡ ρ high)) (after : List Cell) where
      pub turn_done : ((ρ : ℕ → Shape) → Holds ρ after ↔ (Holds ρ cells × (ρ low ≡ ρ high))) → Says first left right after rest
      turn_done joined ρ = (
        (λ t. let s = (joined ρ).0 t.0 in (says ρ).0 (s.0, joint ρ t.1 ((means ρ s.0).1 s.1))),
        (λ t. let s = (says ρ).1 t in let u = parted ρ s.1 in ((joined ρ).1 (s.0, (means ρ s.0).0 u.1), u.0)),
      )

      pub turn_parts : (v w : Pair) → ((ρ : ℕ → Shape) → (Holds ρ after × PairHolds ρ v × PairHolds ρ w) ↔ (Holds ρ cells × (ρ low ≡ ρ high))) → Says first left right after ((rest ++ v ∷ []) ++ w ∷ [])
      turn_parts v w joined ρ = (
        (λ t.
            let a = All-pop (PairHolds ρ) ((rest ++ v ∷ []) ++ w ∷ []) (rest ++ v ∷ []) (Some w) refl t.1 in
            let b = All-pop (PairHolds ρ) (rest ++ v ∷ []) rest (Some v) refl a.0 in
            let s = (joined ρ).0 (t.0, b.1, a.1) in
            (says ρ).0 (s.0, joint ρ b.0 ((means ρ s.0).1 s.1))),
        (λ t.
            let s = (says ρ).1 t in
            let u = parted ρ s.1 in
            let r = (joined ρ).1 (s.0, (means ρ s.0).0 u.1) in
            (r.0, All-push (PairHolds ρ) (rest ++ v ∷ []) w (All-push (PairHolds ρ) rest v u.0 r.1) r.2)),
      )

    pub turn_clash : (low high : ℕ) (means : (ρ : ℕ → Shape) → Holds ρ cells → PairHolds ρ p ↔ (ρ low ≡ ρ high)) (after : List Cell) → ((ρ : ℕ → Shape) → Holds ρ cells → ρ low ≡ ρ high → ⊥) → Unified false first after left right
    turn_clash low high means after clash ρ h e =
        let s = (says ρ).1 (h, e) in
        let u = parted ρ s.1 in
        clash ρ s.0 ((means ρ s.0).0 u.1)

pub says_last : (first : List Cell) (left right : ℕ) (cells : List Cell) (work : List Pair) → Says first left right cells work → length work ≡ 0 → Unified true first cells left right
says_last first left right cells work says e ρ = (
  (λ h. (says ρ).0 (h, λ k d lt. let no : ⊥ = omega arith in absurd no)),
  (λ t. ((says ρ).1 t).0),
)
