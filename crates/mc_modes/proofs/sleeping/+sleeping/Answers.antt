use Rattle.std.proofs.Common.{◌≡◌, ◌∙◌, ◌<◌, ◌++◌, ℕ, List, map, length, get_or, sym, ap, subst, arith}
use Rattle.std.specs.List.{remove}
use denote.Param.Weighed.{at_most}
use Rattle.std.proofs.lemmas.List.{length-map}
use Rattle.mc_model.specs.Flat as F
use Rattle.mc_model.specs.Flat.{flats}
use Rattle.mc_model.specs.PlainGoals.{plain_flat}
use Rattle.mc_model.specs.declared.flat.Flat.{Flat, size-Flat}
use Rattle.mc_procs.specs.Procedures.{source_of}
use Rattle.mc_modes.specs.Signatures.{declared_in}
use Rattle.mc_modes.specs.code.Waiting.{nothing}
use Rattle.mc_modes.specs.code.Sleeping.{Asleep, may_be_mild, making_is_mild, atom, negated, quantified, in_condition, among, free_beside, free_now, changed_by_each}
use Rattle.mc_modes.proofs.Halves.{condition-fits, quantified-fits}
use Rattle.mc_modes.proofs.DelayedGoals.{both-true, sleeps-by, or-first, all-but, goal-is, goal-in, some-there, mild-beside}
use Rattle.mc_modes.proofs.Views.{flat-not, flat-some, flat-same, flat-made, flat-call}
use Rattle.mc_modes.proofs.sleeping.+sleeping.Goals as goal

pub sleeps-returns-in-Not : goal.sleeps-returns-in-Not
sleeps-returns-in-Not t c =
    let sleeps = Asleep (source_of c.args.procs.now) (declared_in c.args.sigs.now) c.args.state.now c.args.others.now in
    let g = plain_flat c.deref.result.now in
    let e : plain_flat c.args.goal.now ≡ F.Not g = ap plain_flat c.in-Not.is ∙ (flat-not c.in-Not.goal ∙ ap (λ (x : Flat). F.Not (plain_flat x)) (sym c.deref.ensures)) in
    sleeps-by c.sleeps.result (sleeps g) (sleeps (plain_flat c.args.goal.now)) (λ a. subst sleeps (sym e) (negated a)) c.sleeps.ensures

pub sleeps-returns-in-Some : goal.sleeps-returns-in-Some
sleeps-returns-in-Some t c =
    let sleeps = Asleep (source_of c.args.procs.now) (declared_in c.args.sigs.now) c.args.state.now c.args.others.now in
    let g = plain_flat c.deref-in-Some.result.now in
    let e : plain_flat c.args.goal.now ≡ F.Exists c.in-Some.vars g = ap plain_flat c.in-Some.is ∙ (flat-some c.in-Some.vars c.in-Some.goal ∙ ap (λ (x : Flat). F.Exists c.in-Some.vars (plain_flat x)) (sym c.deref-in-Some.ensures)) in
    sleeps-by c.quantified_sleeps.result (sleeps (F.Exists c.in-Some.vars g)) (sleeps (plain_flat c.args.goal.now)) (subst sleeps (sym e)) c.quantified_sleeps.ensures

pub quantified_sleeps-returns : goal.quantified_sleeps-returns
quantified_sleeps-returns t c =
    let sleeps = Asleep (source_of c.args.procs.now) (declared_in c.args.sigs.now) c.args.state.now c.args.others.now in
    let g = plain_flat c.args.goal.now in
    sleeps-by c.sleeps.result (sleeps g) (sleeps (F.Exists c.args.vars.now g)) quantified c.sleeps.ensures

pub quantified_sleeps-sleeps-requires : goal.quantified_sleeps-sleeps-requires
quantified_sleeps-sleeps-requires t c =
    let d = c.decreases in
    (omega (arith, d), quantified-fits c.args.procs.now c.args.state.now c.args.vars.now (plain_flat c.args.goal.now) c.requires)

pub condition_sleeps-returns : goal.condition_sleeps-returns
condition_sleeps-returns t c =
    let sleeps = Asleep (source_of c.args.procs.now) (declared_in c.args.sigs.now) c.args.state.now c.args.others.now in
    let g = plain_flat c.args.condition.now in
    sleeps-by c.sleeps.result (sleeps g) (sleeps (F.If c.args.vars.now g (plain_flat c.args.then_part.now) (plain_flat c.args.else_part.now))) in_condition c.sleeps.ensures

pub condition_sleeps-sleeps-requires : goal.condition_sleeps-sleeps-requires
condition_sleeps-sleeps-requires t c =
    let d = c.decreases in
    (omega (arith, d), condition-fits c.args.procs.now c.args.state.now c.args.vars.now (plain_flat c.args.condition.now) (plain_flat c.args.then_part.now) (plain_flat c.args.else_part.now) c.requires)

pub sleeps-returns-then-is_free : goal.sleeps-returns-then-is_free
sleeps-returns-then-is_free t c i =
    let free = free_beside (free_now c.args.state.now) c.args.others.now in
    let e : plain_flat c.args.goal.now ≡ F.Same c.in-Same.x c.in-Same.y = ap plain_flat c.in-Same.is ∙ flat-same c.in-Same.x c.in-Same.y in
    subst (Asleep (source_of c.args.procs.now) (declared_in c.args.sigs.now) c.args.state.now c.args.others.now) (sym e)
    (atom (both-true (free c.in-Same.x) (free c.in-Same.y) (sym c.is_free.ensures ∙ c.if-is_free.true) (sym c.is_free-then-is_free.ensures ∙ i)))

pub sleeps-returns-then-is_free-2 : goal.sleeps-returns-then-is_free-2
sleeps-returns-then-is_free-2 t c i =
    let free = free_beside (free_now c.args.state.now) c.args.others.now in
    let ys = c.as_slice-then-is_free-2.result.now in
    let e : plain_flat c.args.goal.now ≡ F.Made c.in-Made.x c.in-Made.field-1 ys = ap plain_flat c.in-Made.is ∙ (flat-made c.in-Made.x c.in-Made.field-1 c.in-Made.ys ∙ ap (F.Made c.in-Made.x c.in-Made.field-1) (sym c.as_slice-then-is_free-2.ensures.items)) in
    subst (Asleep (source_of c.args.procs.now) (declared_in c.args.sigs.now) c.args.state.now c.args.others.now) (sym e)
    (atom (both-true (free c.in-Made.x) _ (sym c.is_free-in-Made.ensures ∙ c.if-is_free-2.true) (c.one_is_free.ensures i)))

pub sleeps-returns-in-Call : goal.sleeps-returns-in-Call
sleeps-returns-in-Call t c i =
    let free = free_beside (free_now c.args.state.now) c.args.others.now in
    let xs = c.as_slice-in-Call.result.now in
    let e : plain_flat c.args.goal.now ≡ F.Call c.in-Call.pred xs = ap plain_flat c.in-Call.is ∙ (flat-call c.in-Call.pred c.in-Call.xs ∙ ap (F.Call c.in-Call.pred) (sym c.as_slice-in-Call.ensures.items)) in
    subst (Asleep (source_of c.args.procs.now) (declared_in c.args.sigs.now) c.args.state.now c.args.others.now) (sym e) (atom (c.call_sleeps.ensures i))

pub first_sleeps-sleeps-requires : goal.first_sleeps-sleeps-requires
first_sleeps-sleeps-requires t c =
    let d = c.decreases in
    let gs = c.args.goals.now in
    let x = c.index-goals-0.result in
    let is = c.index-goals-0.is in
    let h : 0 < length gs = some-there gs c.is_empty.result c.is_empty.ensures c.if-is_empty.false in
    let one = at_most size-Flat gs 0 x h in
    let same = ap size-Flat is in
    (omega (arith, d, one, same), goal-in c.args.procs.now c.args.state.now gs 0 x h is c.requires)

pub first_sleeps-returns : goal.first_sleeps-returns
first_sleeps-returns t c =
    let s = c.args.state.now in
    let vs = c.args.others.now in
    let P = source_of c.args.procs.now in
    let declared = declared_in c.args.sigs.now in
    let gs = c.args.goals.now in
    let x = c.index-goals-0.result in
    let h : 0 < length gs = some-there gs c.is_empty.result c.is_empty.ensures c.if-is_empty.false in
    sleeps-by c.sleeps.result (Asleep P declared s vs (plain_flat x)) (Asleep P declared s vs (F.Or (flats (map plain_flat gs)))) (or-first P declared s vs gs x h c.index-goals-0.is) c.sleeps.ensures

pub one_sleeps-returns-then-wild-goals : goal.one_sleeps-returns-then-wild-goals
one_sleeps-returns-then-wild-goals t c =
    let s = c.args.state.now in
    let P = source_of c.args.procs.now in
    let declared = declared_in c.args.sigs.now in
    let gs = map plain_flat c.args.goals.now in
    let wild = c.first_wild-wild.result in
    let more = c.first_wild.result in
    let beside = c.args.others.now ++ changed_by_each (remove gs wild) in
    let long = length-map c.args.goals.now plain_flat in
    let h : wild < length gs = omega (arith, c.if-wild-goals.true, long) in
    let mild = all-but (may_be_mild P declared) nothing gs wild (λ j l n. mild-beside (may_be_mild P declared) nothing gs wild more j c.first_wild-wild.ensures.mild c.first_wild.ensures.mild n (omega (arith, l, c.if-first_wild-goals.false, long))) in
    sleeps-by c.makings_are_mild.result _ (Asleep P declared s c.args.others.now (F.And (flats gs)))
    (λ makings. among gs wild h mild (all-but (making_is_mild s beside) nothing gs wild (λ j l n. makings j (omega (arith, l, long)) n)) (c.in_ok-sleeps_among.ensures c.if-not-branch.false)) c.makings_are_mild.ensures

pub one_sleeps-sleeps-requires : goal.one_sleeps-sleeps-requires
one_sleeps-sleeps-requires t c =
    let d = c.decreases in
    let gs = c.args.goals.now in
    let k = c.loop-place.place in
    let x = c.index-goals-place.result in
    let is = c.index-goals-place.is in
    let h : k < length gs = omega (arith, c.loop-place-test.true) in
    let one = at_most size-Flat gs k x h in
    let same = ap size-Flat is in
    (omega (arith, d, one, same), goal-in c.args.procs.now c.args.state.now gs k x h is c.requires)

pub one_sleeps-returns-then-branch : goal.one_sleeps-returns-then-branch
one_sleeps-returns-then-branch t c =
    let s = c.args.state.now in
    let P = source_of c.args.procs.now in
    let declared = declared_in c.args.sigs.now in
    let gs = map plain_flat c.args.goals.now in
    let k = c.loop-place.place in
    let beside = c.args.others.now ++ changed_by_each (remove gs k) in
    let long = length-map c.args.goals.now plain_flat in
    let h : k < length gs = omega (arith, c.loop-place-test.true, long) in
    let mild = all-but (may_be_mild P declared) nothing gs k (λ j l n. c.first_wild-wild.ensures.mild j (omega arith) (omega (arith, l, c.if-wild-goals.false, long))) in
    sleeps-by c.makings_are_mild-then-branch.result _ (Asleep P declared s c.args.others.now (F.And (flats gs)))
    (λ makings. among gs k h mild (all-but (making_is_mild s beside) nothing gs k (λ j l n. makings j (omega (arith, l, long)) n)) (c.in_ok-sleeps_among-2.ensures c.if-branch.true)) c.makings_are_mild-then-branch.ensures

pub sleeps_among-sleeps-requires : goal.sleeps_among-sleeps-requires
sleeps_among-sleeps-requires t c =
    let d = c.decreases in
    let gs = c.args.goals.now in
    let k = c.args.place in
    let x = c.index-goals-place.result in
    let is = c.index-goals-place.is in
    let one = at_most size-Flat gs k x c.requires.place in
    let same = ap size-Flat is in
    (omega (arith, d, one, same), goal-in c.args.procs.now c.args.state.now gs k x c.requires.place is c.requires.fits)

pub sleeps_among-returns : goal.sleeps_among-returns
sleeps_among-returns t c =
    let s = c.args.state.now in
    let gs = c.args.goals.now in
    let k = c.args.place in
    let x = c.index-goals-place.result in
    let beside = c.args.others.now ++ changed_by_each (remove (map plain_flat gs) k) in
    let asleep = Asleep (source_of c.args.procs.now) (declared_in c.args.sigs.now) s in
    let placed : plain_flat x ≡ get_or (map plain_flat gs) k nothing = goal-is gs k x c.requires.place c.index-goals-place.is in
    let changed : c.deref.result.now ≡ beside = c.deref.ensures.value ∙ c.in_ok-changed.ensures in
    sleeps-by c.sleeps.result (asleep c.deref.result.now (plain_flat x)) (asleep beside (get_or (map plain_flat gs) k nothing))
    (λ a. subst (asleep beside) placed (subst (λ (vs : List ℕ). asleep vs (plain_flat x)) changed a)) c.sleeps.ensures
