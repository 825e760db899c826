use Rattle.std.proofs.Common.{◌≡◌, ◌∙◌, ◌<◌, ◌+◌, ◌++◌, ◌∷◌, [], ℕ, Bool, List, if◌then◌else◌, length, get_or, drop, ap, ap₂, sym, subst, arith, length-append}
use Rattle.mc_model.specs.Lists.{is_in}
use Rattle.mc_accepted.specs.Arranged.{fresh_at, tests_at}
use Rattle.mc_procs.specs.Named.{NumbersBelow}
use Rattle.mc_mode_state.proofs.Numbers.{number-at}
use Rattle.mc_mode_state.proofs.Steps.{stepped-trans}
use Rattle.mc_mode_state.proofs.Freshening.{numbers-pushed, fresh-on, tests-on, counted-on, tests-counted, there-on}
use Rattle.mc_mode_state.proofs.state.State.freshen.Goals as goal

pub stand_in-requires-clause-variable : goal.stand_in-requires-clause-variable
stand_in-requires-clause-variable c =
    let xs = c.args.xs.now in
    let k = c.loop-k.k in
    let h : k < length xs = omega (arith, c.loop-k-test.true, c.len-k-end.ensures, c.requires.arguments) in
    let l : get_or xs k 0 < length c.args.self.now.insts.items = number-at (length c.args.self.now.insts.items) xs k c.requires.variables h in
    omega (arith, l, c.loop-k.invariant.count)

pub loop-k-preserved : goal.loop-k-preserved
loop-k-preserved c =
    let is = c.args.implied.now in
    let xs = c.args.xs.now in
    let k = c.loop-k.k in
    let u = c.loop-k.self in
    let t = c.stand_in.new.self in
    let n = length u.insts.items in
    let x = get_or xs k 0 in
    let e = c.in_ok-z.ensures in
    let p = c.in_ok-push.ensures.items in
    let h : k < length xs = omega (arith, c.loop-k-test.true, c.len-k-end.ensures, c.requires.arguments) in
    let b : x < length c.args.self.now.insts.items = number-at (length c.args.self.now.insts.items) xs k c.requires.variables h in
    let l : x < n = omega (arith, b, c.loop-k.invariant.count) in
    let i : c.has-is_implied.result ≡ is_in k is = c.has-is_implied.ensures ∙ ap (is_in k) c.as_slice.ensures.items in
    let z : c.in_ok-z.z ≡ (if is_in k is then n else x) = e.arg ∙ ap (λ (d : Bool). if d then n else x) i in
    let m : length t.insts.items ≡ (if is_in k is then n + 1 else n) = e.count ∙ ap (λ (d : Bool). if d then n + 1 else n) i in
    let ts : c.stand_in.new.tests.items ≡ (if is_in k is then c.loop-k.tests.items ++ (n, x) ∷ [] else c.loop-k.tests.items) =
    e.tests ∙ ap (λ (d : Bool). if d then c.loop-k.tests.items ++ (n, x) ∷ [] else c.loop-k.tests.items) i in
    record {
      args = ap₂ (λ (us : List ℕ) (j : ℕ). us ++ fresh_at (k + 1) is (drop (k + 1) xs) j) (p ∙ ap (λ (y : ℕ). c.loop-k.args.items ++ y ∷ []) z) m
          ∙ (sym (fresh-on is xs c.loop-k.args.items k n h) ∙ c.loop-k.invariant.args);
      tests = ap₂ (λ (us : List (ℕ × ℕ)) (j : ℕ). us ++ tests_at (k + 1) is (drop (k + 1) xs) j) ts m
          ∙ (sym (tests-on is xs c.loop-k.tests.items k n h) ∙ c.loop-k.invariant.tests);
      many = let a = c.loop-k.invariant.many in omega (arith, ap length p, length-append c.loop-k.args.items (c.in_ok-z.z ∷ []));
      there = subst (NumbersBelow (length t.insts.items)) (sym p)
          (numbers-pushed n (length t.insts.items) c.loop-k.args.items c.in_ok-z.z (counted-on (is_in k is) n (length t.insts.items) m) c.loop-k.invariant.there (there-on (is_in k is) n (length t.insts.items) x c.in_ok-z.z z m l));
      count = tests-counted (is_in k is) n (length t.insts.items) (length c.args.self.now.insts.items) c.loop-k.tests.items c.stand_in.new.tests.items (n, x) m ts c.loop-k.invariant.count;
      alike = e.alike;
      point = e.point ∙ c.loop-k.invariant.point;
      even = e.even;
      stepped = λ q st.
          let w = c.loop-k.invariant.stepped q st in
          stepped-trans q q q c.args.self.now u t w (e.stepped q w.moved.stands);
    }
