-- What a join of two roots says of the cells.
use Rattle.std.proofs.Common.{◌≡◌, ◌≢◌, ℕ, ◌<◌, ◌≤◌, List, length, set, sym, ◌∙◌, ap, subst, arith, get_or-set_same, get_or-set_other, length-set}
use Rattle.std.proofs.Math.Logic.{◌↔◌}
use Rattle.mc_types.specs.Shapes.{Shape, app}
use Rattle.mc_types.specs.Holds.{Holds, CellHolds, IsRoot, cell_at}
use Rattle.mc_types.specs.code.Joins.{cell_weight, JoinSays}
use Rattle.mc_types.proofs.Overwritten.{Others, to_set, from_set, to_all, weight-set}
use Rattle.mc_types.specs.declared.cells.Cell.{Cell}
use Rattle.mc_types.specs.declared.cells.Cell.TheVariants.{Free, Same, Named, Rigid, App}
use Rattle.mc_types.specs.declared.joins.Pair.{Pair}
use Rattle.mc_types.specs.declared.joins.Joined.TheVariants.{Done, Parts}

cell_moves : (ρ : ℕ → Shape) (i j : ℕ) (c : Cell) → IsRoot c → ρ i ≡ ρ j → CellHolds ρ i c → CellHolds ρ j c
cell_moves ρ i j Free r e h = tt
cell_moves ρ i j (Same k) r e h = absurd r
cell_moves ρ i j (Named n) r e h = sym e ∙ h
cell_moves ρ i j (Rigid n) r e h = sym e ∙ h
cell_moves ρ i j (App f x) r e h = sym e ∙ h

root_weight : (c : Cell) → IsRoot c → 1 ≤ cell_weight c
root_weight Free r = omega arith
root_weight (Same k) r = absurd r
root_weight (Named n) r = omega arith
root_weight (Rigid n) r = omega arith
root_weight (App f x) r = omega arith

module _ (cells : List Cell) (low high : ℕ) (lt : low < high) (place : high < length cells) where
  -- where what stands at the high place follows from the rest and the join
  says_joined : ((ρ : ℕ → Shape) → Others ρ cells high → ρ low ≡ ρ high → CellHolds ρ high (cell_at cells high)) → (ρ : ℕ → Shape) → Holds ρ (set cells high (Same low)) ↔ (Holds ρ cells × (ρ low ≡ ρ high))
  says_joined need ρ = (
    (λ h. let p = from_set ρ cells high (Same low) place h in (to_all ρ cells high p.0 (need ρ p.0 (sym p.1)), sym p.1)),
    (λ p. to_set ρ cells high (Same low) place (λ j ne. p.0 j) (sym p.1)),
  )

  pub says_free : cell_at cells high ≡ Free → JoinSays Done cells (set cells high (Same low)) low high
  says_free e = (
    says_joined (λ ρ others same. let P : Cell → Type 0 = λ c. CellHolds ρ high c in subst P (sym e) tt),
    omega (arith, weight-set cells high (Same low) place, ap cell_weight e),
  )

  pub says_equal : (c : Cell) → IsRoot c → cell_at cells low ≡ c → cell_at cells high ≡ c → JoinSays Done cells (set cells high (Same low)) low high
  says_equal c r e f = (
    says_joined
        (λ ρ others same.
        let P : Cell → Type 0 = λ d. CellHolds ρ high d in
        let Q : Cell → Type 0 = λ d. CellHolds ρ low d in
        let ne : low ≢ high = omega arith in
        subst P (sym f) (cell_moves ρ low high c r same (subst Q e (others low ne)))),
    omega (arith, weight-set cells high (Same low) place, ap cell_weight f, root_weight c r),
  )

  pub says_moved : (c : Cell) → IsRoot c → cell_at cells low ≡ Free → cell_at cells high ≡ c → JoinSays Done cells (set (set cells low c) high (Same low)) low high
  says_moved c r e f =
      let place' : high < length (set cells low c) = omega (arith, length-set cells low c) in
      let low_place : low < length cells = omega arith in
      let ne : high ≢ low = omega arith in
      let ne' : low ≢ high = omega arith in
      let same_high : cell_at (set cells low c) high ≡ c = get_or-set_other cells low high c Free ne ∙ f in (
        (λ ρ. (
          (λ h.
              let p = from_set ρ (set cells low c) high (Same low) place' h in
              let at_low : CellHolds ρ low c = let P : Cell → Type 0 = λ d. CellHolds ρ low d in subst P (get_or-set_same cells low c Free low_place) (p.0 low ne') in
              let at_high : CellHolds ρ high (cell_at cells high) = let P : Cell → Type 0 = λ d. CellHolds ρ high d in subst P (sym f) (cell_moves ρ low high c r (sym p.1) at_low) in
              let whole : Holds ρ (set cells low c) = to_all ρ (set cells low c) high p.0 (let P : Cell → Type 0 = λ d. CellHolds ρ high d in subst P (sym (same_high ∙ sym f)) at_high) in
              let q = from_set ρ cells low c low_place whole in
              let free : CellHolds ρ low (cell_at cells low) = let P : Cell → Type 0 = λ d. CellHolds ρ low d in subst P (sym e) tt in
              (to_all ρ cells low q.0 free, sym p.1)),
          (λ p.
              let at_high : CellHolds ρ high c = let P : Cell → Type 0 = λ d. CellHolds ρ high d in subst P f (p.0 high) in
              let whole : Holds ρ (set cells low c) = to_set ρ cells low c low_place (λ j ne2. p.0 j) (cell_moves ρ high low c r (sym p.1) at_high) in
              to_set ρ (set cells low c) high (Same low) place' (λ j ne2. whole j) (sym p.1)),
        )),
        omega (arith, weight-set (set cells low c) high (Same low) place', ap cell_weight same_high, weight-set cells low c low_place, ap cell_weight e),
      )

  pub says_parts : (f x h y : ℕ) (p q : Pair) → p.left ≡ f → p.right ≡ h → q.left ≡ x → q.right ≡ y → f < length cells → x < length cells → h < length cells → y < length cells → cell_at cells low ≡ App f x → cell_at cells high ≡ App h y → JoinSays (Parts p q) cells (set cells high (Same low)) low high
  says_parts f x h y p q pl pr ql qr lf lx lh ly e g = (
    (λ ρ. (
      (λ t.
          let s = from_set ρ cells high (Same low) place t.0 in
          let ne : low ≢ high = omega arith in
          let at_low : ρ low ≡ app (ρ f) (ρ x) = let P : Cell → Type 0 = λ d. CellHolds ρ low d in subst P e (s.0 low ne) in
          let fh : ρ f ≡ ρ h = ap ρ (sym pl) ∙ t.1 ∙ ap ρ pr in
          let xy : ρ x ≡ ρ y = ap ρ (sym ql) ∙ t.2 ∙ ap ρ qr in
          let at_high : CellHolds ρ high (cell_at cells high) = let P : Cell → Type 0 = λ d. CellHolds ρ high d in subst P (sym g) (s.1 ∙ at_low ∙ ap (λ z. app z (ρ x)) fh ∙ ap (app (ρ h)) xy) in
          (to_all ρ cells high s.0 at_high, sym s.1)),
      (λ t.
          let at_low : ρ low ≡ app (ρ f) (ρ x) = let P : Cell → Type 0 = λ d. CellHolds ρ low d in subst P e (t.0 low) in
          let at_high : ρ high ≡ app (ρ h) (ρ y) = let P : Cell → Type 0 = λ d. CellHolds ρ high d in subst P g (t.0 high) in
          let same : app (ρ f) (ρ x) ≡ app (ρ h) (ρ y) = sym at_low ∙ t.1 ∙ at_high in
          let fh : ρ f ≡ ρ h = cc same in
          let xy : ρ x ≡ ρ y = cc same in
          (to_set ρ cells high (Same low) place (λ j ne. t.0 j) (sym t.1), ap ρ pl ∙ fh ∙ ap ρ (sym pr), ap ρ ql ∙ xy ∙ ap ρ (sym qr))),
    )),
    omega (arith, weight-set cells high (Same low) place, ap cell_weight g),
    (omega (arith, pl), omega (arith, pr)),
    (omega (arith, ql), omega (arith, qr)),
  )
