use Rattle.std.proofs.Common.{◌≡◌, ◌∙◌, ℕ, Bool, true, false, List, ap, sym}
use Rattle.mc_model.specs.Stream.{is_bound}
use Rattle.mc_accepted.specs.Ordered.{Mode, modes_of, implied_places}
use Rattle.mc_mode_state.specs.States.{point_of}
use Rattle.mc_mode_state.proofs.BuiltinOutcomes.{ran-none, ran-some}
use Rattle.mc_mode_state.proofs.state.State.apply_in.Goals as goal

not_both : (t : Bool) → t ≡ true → t ≡ false → ⊥
not_both t e f = let g : true ≡ false = sym e ∙ f in cc

pub returns-then-is_empty-clause-ran : goal.returns-then-is_empty-clause-ran
returns-then-is_empty-clause-ran c = λ declared.
    let q = c.args.procs.now in
    let s = c.args.self.now in
    let xs = c.args.xs.now in
    let there : ℕ → Bool = λ x. is_bound (point_of s.insts.items x) in
    let e : implied_places 0 (modes_of c.args.op) xs there ≡ c.in_ok-implied.implied =
    ap (λ (ms : List Mode). implied_places 0 ms xs there) (sym c.requires.modes) ∙ sym c.in_ok-implied.ensures in
    ran-none q c.apply_plainly.new.procs s c.apply_plainly.new.self declared c.args.op xs c.in_ok-part.part
    (implied_places 0 (modes_of c.args.op) xs there) (e ∙ c.is_empty.ensures.0 c.if-is_empty.true) (c.in_ok-part.ensures.ran declared)

pub returns-clause-ran : goal.returns-clause-ran
returns-clause-ran c = λ declared.
    let q = c.args.procs.now in
    let s = c.args.self.now in
    let xs = c.args.xs.now in
    let there : ℕ → Bool = λ x. is_bound (point_of s.insts.items x) in
    let e : c.in_ok-implied.implied ≡ implied_places 0 (modes_of c.args.op) xs there =
    c.in_ok-implied.ensures ∙ ap (λ (ms : List Mode). implied_places 0 ms xs there) c.requires.modes in
    ran-some q c.apply_freshly.new.procs s c.apply_freshly.new.self declared c.args.op xs c.in_ok-part-2.part
    c.in_ok-implied.implied (implied_places 0 (modes_of c.args.op) xs there) e
    (λ h. not_both c.is_empty.result (c.is_empty.ensures.1 h) c.if-is_empty.false) (c.in_ok-part-2.ensures.ran declared)
