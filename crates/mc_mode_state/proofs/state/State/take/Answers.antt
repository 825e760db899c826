use Rattle.std.proofs.Common.{◌≡◌, ◌∙◌, ◌<◌, ℕ, true, false, List, length, get_or, Option, Some, None, refl, ap, sym, subst, arith}
use Rattle.mc_model.specs.Scheduled as S
use Rattle.mc_accepted.specs.Arranged.{one, take, took}
use Rattle.mc_accepted.specs.NodeOracle.{of_nodes}
use Rattle.mc_insts.specs.Graphs.{count_of}
use Rattle.mc_insts.specs.Narrowed.{Narrowed}
use Rattle.mc_procs.specs.Procedures.{source_of, insts_of}
use Rattle.mc_mode_state.specs.States.{point_of}
use Rattle.mc_mode_state.proofs.Ahead.{agrees-before}
use Rattle.mc_mode_state.proofs.Narrow.{narrowed-below, narrowed-many}
use Rattle.mc_mode_state.proofs.Rewinds.{leads-refl}
use Rattle.mc_mode_state.proofs.Steps.{stepped-refl}
use Rattle.mc_mode_state.proofs.AtomOutcomes.{alike-one, none-fresh, runs-one}
use Rattle.mc_mode_state.proofs.MadeOutcomes.{narrowed-is}
use Rattle.mc_mode_state.proofs.state.State.take.Goals as goal

pub take_as-requires-clause-arity : goal.take_as-requires-clause-arity
take_as-requires-clause-arity c =
    let q = c.args.procs.now in
    let h = subst (λ (o : Option (List ℕ)). Narrowed (source_of q) (insts_of q) c.inst.result c.args.symbol o) c.in-Some.is c.in_ok-narrow.ensures in
    ap length c.as_slice.ensures.items ∙ narrowed-many (source_of q) q.insts c.inst.result c.args.symbol c.in-Some.insts c.requires.stands.fit.program.insts_are h

pub take_as-requires-clause-many : goal.take_as-requires-clause-many
take_as-requires-clause-many c =
    let q = c.args.procs.now in
    let h = subst (λ (o : Option (List ℕ)). Narrowed (source_of q) (insts_of q) c.inst.result c.args.symbol o) c.in-Some.is c.in_ok-narrow.ensures in
    ap length c.as_slice.ensures.items ∙ (narrowed-many (source_of q) q.insts c.inst.result c.args.symbol c.in-Some.insts c.requires.stands.fit.program.insts_are h ∙ sym c.requires.arity)

pub take_as-requires-clause-insts : goal.take_as-requires-clause-insts
take_as-requires-clause-insts c =
    let q = c.args.procs.now in
    let h = subst (λ (o : Option (List ℕ)). Narrowed (source_of q) (insts_of q) c.inst.result c.args.symbol o) c.in-Some.is c.in_ok-narrow.ensures in
    let l : c.inst.result < count_of q.insts = subst (λ i. i < count_of q.insts) (sym c.inst.ensures) (c.requires.stands.insts c.args.x) in
    subst (λ (is : List ℕ). (n : ℕ) → n < length is → get_or is n 0 < count_of q.insts) (sym c.as_slice.ensures.items)
    (narrowed-below (source_of q) q.insts c.inst.result c.args.symbol c.in-Some.insts c.requires.stands.fit.program.insts_are l h)

pub returns-in_ok-part-in-None-clause-ran : goal.returns-in_ok-part-in-None-clause-ran
returns-in_ok-part-in-None-clause-ran c = λ declared.
    let q = c.args.procs.now in
    let s = c.args.self.now in
    let x = c.args.x in
    let f = c.args.symbol in
    let ys = c.args.ys.now in
    let b = point_of s.insts.items in
    let n = length s.insts.items in
    let p = c.in_ok-part-in-None.ensures in
    let h : Narrowed (source_of q) (insts_of q) (b x) f None =
    subst (λ (o : Option (List ℕ)). Narrowed (source_of q) (insts_of q) (b x) f o) c.in-None.is
    (subst (λ i. Narrowed (source_of q) (insts_of q) i f c.in_ok-narrow.field-0) c.inst.ensures c.in_ok-narrow.ensures) in
    record {
      outcome = λ C T a.
          ap (take (of_nodes C) (source_of q) declared T x f ys n b) (narrowed-is q s declared c.requires.stands C T a x f None h)
          ∙ runs-one C c.in_ok-part-in-None.part s s (S.Take x f ys) None n false
          (p.goals s (leads-refl s) (omega (arith, c.len-trail.ensures, c.args.self.now.trail.ok.0)))
          p.reachable p.freshened refl refl;
      fresh = none-fresh n c.in_ok-part-in-None.part.freshened.items p.freshened;
      stepped = stepped-refl q s c.requires.stands;
    }

pub returns-in_ok-part-in-Some-clause-ran : goal.returns-in_ok-part-in-Some-clause-ran
returns-in_ok-part-in-Some-clause-ran c = λ declared.
    let q = c.args.procs.now in
    let r = c.take_as.new.procs in
    let s = c.args.self.now in
    let t = c.take_as.new.self in
    let x = c.args.x in
    let f = c.args.symbol in
    let ys = c.args.ys.now in
    let is = c.in-Some.insts in
    let b = point_of s.insts.items in
    let n = length s.insts.items in
    let e = c.in_ok-take_as-in-Some.ensures in
    let p = c.in_ok-part-in-Some.ensures in
    let h : Narrowed (source_of q) (insts_of q) (b x) f (Some is) =
    subst (λ (o : Option (List ℕ)). Narrowed (source_of q) (insts_of q) (b x) f o) c.in-Some.is
    (subst (λ i. Narrowed (source_of q) (insts_of q) i f c.in_ok-narrow.field-0) c.inst.ensures c.in_ok-narrow.ensures) in
    record {
      outcome = λ C T a.
          ap (take (of_nodes C) (source_of q) declared T x f ys n b)
          (narrowed-is q s declared c.requires.stands C T (agrees-before q r s t C T c.requires.stands e.stepped.moved a) x f (Some is) h)
          ∙ (subst (λ (js : List ℕ). took (of_nodes C) (source_of q) declared T x f ys js n b (C.over f js) ≡ one (of_nodes C) b (S.Take x f ys) (Some (point_of t.insts.items)) n) c.as_slice.ensures.items (e.took declared C T a)
          ∙ runs-one C c.in_ok-part-in-Some.part s t (S.Take x f ys) (Some (point_of t.insts.items)) n true
          (p.goals s e.stepped.later.leads (omega (arith, c.len-trail.ensures, c.args.self.now.trail.ok.0)))
          p.reachable p.freshened refl (sym e.count));
      fresh = none-fresh (length t.insts.items) c.in_ok-part-in-Some.part.freshened.items p.freshened;
      stepped = e.stepped;
    }

pub returns-in_ok-part-in-None-clause-alike : goal.returns-in_ok-part-in-None-clause-alike
returns-in_ok-part-in-None-clause-alike c = λ T next same.
    let s = c.args.self.now in
    alike-one T next c.in_ok-part-in-None.part s s false (S.Take c.args.x c.args.symbol c.args.ys.now)
    (c.in_ok-part-in-None.ensures.goals s (leads-refl s) (omega (arith, c.len-trail.ensures, c.args.self.now.trail.ok.0))) tt

pub returns-in_ok-part-in-Some-clause-alike : goal.returns-in_ok-part-in-Some-clause-alike
returns-in_ok-part-in-Some-clause-alike c = λ T next same.
    let s = c.args.self.now in
    let t = c.take_as.new.self in
    alike-one T next c.in_ok-part-in-Some.part s t true (S.Take c.args.x c.args.symbol c.args.ys.now)
    (c.in_ok-part-in-Some.ensures.goals s c.in_ok-take_as-in-Some.ensures.stepped.later.leads (omega (arith, c.len-trail.ensures, c.args.self.now.trail.ok.0))) tt
