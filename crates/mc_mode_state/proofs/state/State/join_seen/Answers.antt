use Rattle.std.proofs.Common.{◌≡◌, ◌∙◌, ◌<◌, ◌≤◌, ℕ, Bool, not, ◌&&◌, nat_eq, List, Some, length, get_or, refl, sym, ap, subst, arith}
use Rattle.std.specs.List.{list_any}
use Rattle.std.proofs.lemmas.List.{get_or_read}
use Rattle.mc_model.specs.Stream.{is_bound}
use Rattle.mc_insts.specs.Graphs.{count_of}
use Rattle.mc_mode_state.specs.States.{point_of}
use Rattle.mc_mode_state.specs.code.Columns.{column, ends_differ, JoinedSoFar}
use Rattle.mc_mode_state.proofs.Leasts.{first_that, least-first, first-here, first-on, first-none}
use Rattle.mc_mode_state.proofs.Numbers.{number-at}
use Rattle.mc_mode_state.proofs.Steps.{stepped-refl, stepped-trans}
use Rattle.mc_mode_state.proofs.EndColumns.{longer, column-below, column-long, column-differs, joined-more, joined-none, all-taken}
use Rattle.mc_mode_state.proofs.state.State.join_seen.Goals as goal

pub column-requires : goal.column-requires
column-requires c =
    let h : c.loop-k.k < length c.args.seen.now = omega (arith, c.loop-k-test.true, c.len-k-end.ensures) in
    longer (length c.args.seen.now) (count_of c.args.procs.now.insts) c.loop-k.k c.args.ends.now c.requires.rows h

pub join_one-requires-clause-stands : goal.join_one-requires-clause-stands
join_one-requires-clause-stands c = c.loop-k.invariant.stepped.moved.stands

pub join_one-requires-clause-variable : goal.join_one-requires-clause-variable
join_one-requires-clause-variable c =
    let xs = c.args.seen.now in
    let k = c.loop-k.k in
    let h : k < length xs = omega (arith, c.loop-k-test.true, c.len-k-end.ensures) in
    let m : c.get-x.result.now ≡ get_or xs k 0 = get_or_read xs k c.get-x.result.now h c.get-x.ensures 0 in
    let l : get_or xs k 0 < length c.args.self.now.insts.items = number-at (length c.args.self.now.insts.items) xs k c.requires.seen h in
    omega (arith, m, l, c.loop-k.invariant.count)

pub join_one-requires-clause-some : goal.join_one-requires-clause-some
join_one-requires-clause-some c =
    omega (arith, ap length c.in_ok-insts.ensures, column-long c.loop-k.k c.args.ends.now, c.requires.some)

pub join_one-requires-clause-insts : goal.join_one-requires-clause-insts
join_one-requires-clause-insts c = λ n l.
    let rows = c.args.ends.now in
    let k = c.loop-k.k in
    let many = count_of c.args.procs.now.insts in
    let h : k < length c.args.seen.now = omega (arith, c.loop-k-test.true, c.len-k-end.ensures) in
    let z : c.deref-in-loop-k.result.now ≡ column k rows = c.deref-in-loop-k.ensures.value ∙ c.in_ok-insts.ensures in
    let i : get_or c.deref-in-loop-k.result.now n 0 < many =
    subst (λ (is : List ℕ). get_or is n 0 < many) (sym z)
    (column-below (length c.args.seen.now) many k rows c.requires.rows h n (subst (λ (is : List ℕ). n < length is) z l)) in
    let m : many ≤ count_of c.loop-k.procs.insts = c.loop-k.invariant.stepped.moved.nodes.grown.more in
    omega (arith, i, m)

pub loop-k-init : goal.loop-k-init
loop-k-init c = record {
  count = refl;
  stepped = stepped-refl c.args.procs.now c.args.self.now c.requires.stands;
  joined = joined-none c.args.seen.now c.args.ends.now c.args.procs.now c.args.self.now;
  differing = λ ends e. refl;
}

pub returns-then-differs-clause-differing : goal.returns-then-differs-clause-differing
returns-then-differs-clause-differing c = λ ends e wanted ys i.
    let g : ℕ → Bool = ends_differ ends in
    let xs = c.args.seen.now in
    let rows = c.args.ends.now in
    let k = c.loop-k.k in
    let h : k < length xs = omega (arith, c.loop-k-test.true, c.len-k-end.ensures) in
    let m : c.get-x.result.now ≡ get_or xs k 0 = get_or_read xs k c.get-x.result.now h c.get-x.ensures 0 in
    let v : c.deref.result.now ≡ column k c.args.ends.now = c.deref.ensures.value ∙ c.in_ok-insts.ensures in
    let d = c.differs.ensures ∙ ap (λ (is : List ℕ). list_any (λ (j : ℕ). not (is_bound j)) is && list_any (λ (j : ℕ). is_bound j) is) v in
    sym (least-first g wanted ys) ∙ (ap (first_that g) (sym i) ∙ (sym (c.loop-k.invariant.differing ends e)
    ∙ (first-here g xs k h (column-differs xs k rows ends e h ∙ (sym d ∙ c.if-differs.true)) ∙ ap Some (sym m))))

pub loop-k-preserved : goal.loop-k-preserved
loop-k-preserved c =
    let q = c.args.procs.now in
    let p = c.loop-k.procs in
    let r = c.join_one.new.procs in
    let s = c.args.self.now in
    let t = c.loop-k.self in
    let u = c.join_one.new.self in
    let xs = c.args.seen.now in
    let rows = c.args.ends.now in
    let k = c.loop-k.k in
    let i = c.loop-k.invariant in
    let o = c.in_ok-join_one.ensures in
    let h : k < length xs = omega (arith, c.loop-k-test.true, c.len-k-end.ensures) in
    let m : c.get-x.result.now ≡ get_or xs k 0 = get_or_read xs k c.get-x.result.now h c.get-x.ensures 0 in
    let z : c.deref-in-loop-k.result.now ≡ column k rows = c.deref-in-loop-k.ensures.value ∙ c.in_ok-insts.ensures in
    let v : c.deref.result.now ≡ column k c.args.ends.now = c.deref.ensures.value ∙ c.in_ok-insts.ensures in
    let d = c.differs.ensures ∙ ap (λ (is : List ℕ). list_any (λ (j : ℕ). not (is_bound j)) is && list_any (λ (j : ℕ). is_bound j) is) v in
    record {
      count = o.count ∙ i.count;
      stepped = stepped-trans q p r s t u i.stepped o.stepped;
      joined = joined-more xs rows p r s t u k h i.joined i.stepped.moved.stands o.stepped.moved
          (λ C T a. subst (λ (z : ℕ). C.joined (T z) (column k rows) ≡ Some (point_of u.insts.items z)) m (ap (C.joined (T c.get-x.result.now)) (sym z) ∙ o.found C T a))
          (λ y e. o.others y (ap (nat_eq y) m ∙ e));
      differing = λ ends e.
          first-on (ends_differ ends) xs k h (column-differs xs k rows ends e h ∙ (sym d ∙ c.if-differs.false)) ∙ i.differing ends e;
    }

pub returns-clause-differing : goal.returns-clause-differing
returns-clause-differing c = λ ends e wanted ys i.
    let g : ℕ → Bool = ends_differ ends in
    let xs = c.args.seen.now in
    let k = c.loop-k.k in
    let h : length xs ≤ k = omega (arith, c.loop-k-test.false, c.len-k-end.ensures) in
    sym (least-first g wanted ys) ∙ (ap (first_that g) (sym i) ∙ (sym (c.loop-k.invariant.differing ends e) ∙ first-none g xs k h))

pub returns-clause-joined : goal.returns-clause-joined
returns-clause-joined c =
    let xs = c.args.seen.now in
    let h : length xs ≤ c.loop-k.k = omega (arith, c.loop-k-test.false, c.len-k-end.ensures) in
    subst (λ (ys : List ℕ). JoinedSoFar xs ys c.args.ends.now c.loop-k.procs c.args.self.now c.loop-k.self) (all-taken xs c.loop-k.k h) c.loop-k.invariant.joined
