use Rattle.std.proofs.Common.{rules, ℕ, refl, sym, ap, subst, ◌∙◌, Option, Vec, Global}
use Rattle.mc_model.specs.Stream.{Bindings}
use Rattle.mc_values.specs.declared.heap.Heap.{Heap}
use Rattle.mc_flat_code.specs.Ticked.{Answer, append, bind}
use Rattle.mc_flat_code.specs.Running.{instr_at}
use Rattle.mc_plain.specs.Frames.{bindings}
use Rattle.mc_plain.specs.Values.{AreLive, AreHeld}
use Rattle.mc_plain.specs.code.Machine.{Machine, Moved, answered, called, at, failing, answers, back, go}
use Rattle.mc_plain.specs.code.Views.{machine, plain_around, plain_now}
use Rattle.mc_plain.specs.declared.state.Continuation.{Continuation}
use Rattle.mc_plain.specs.declared.state.Control.{Control}
use Rattle.mc_plain.proofs.Calling.{kept, cut}
use Rattle.mc_plain.proofs.TickedLaws.{append_end}
use Rattle.mc_plain.proofs.state.Control.answered.Goals as goal

pub came_back-requires-clause-callee : goal.came_back-requires-clause-callee
came_back-requires-clause-callee c =
    subst (λ (f : Vec (Option ℕ) Global). AreLive c.args.heap.now f.items) (sym c.in_ok-keep-in-Called.ensures.frame) c.requires.frame

pub returns-in_ok-keep-in-Condition-clause-steps : goal.returns-in_ok-keep-in-Condition-clause-steps
returns-in_ok-keep-in-Condition-clause-steps c =
    λ vs e a outcome head last o w.
    let h : Heap = c.args.heap.now in
    let d : Control = record c.args.self.now { segments = vs } in
    let s = c.args.segment in
    subst (Moved outcome c.args.flat.now head last (machine h d)) (sym (c.in_ok-keep-in-Condition.ensures.goes_on h))
    (kept outcome c.args.flat.now o head last h c.args.self.now d s refl e a.0 a.1.0 a.1.1 w
    (answered c.in-Condition.next) (bindings h c.new-none.result.items) (at c.in-Condition.next) (machine h d).bindings refl
    (λ xs. ap (λ (k : Continuation). answers outcome c.args.flat.now s.level s.height (plain_around k) (bindings h s.frame.items) (Answer (machine h d).bindings xs)) c.in-Condition.is)
    refl (machine h c.keep.new.self).points (c.in_ok-keep-in-Condition.ensures.held h))

pub returns-in_ok-keep-in-Condition-clause-held : goal.returns-in_ok-keep-in-Condition-clause-held
returns-in_ok-keep-in-Condition-clause-held c =
    λ p y x. c.in_ok-keep-in-Condition.ensures.refs p c.args.heap.now (search rules) x

pub returns-in_ok-keep-in-Answered-clause-steps : goal.returns-in_ok-keep-in-Answered-clause-steps
returns-in_ok-keep-in-Answered-clause-steps c =
    λ vs e a outcome head last o w.
    let h : Heap = c.args.heap.now in
    let d : Control = record c.args.self.now { segments = vs } in
    let s = c.args.segment in
    subst (Moved outcome c.args.flat.now head last (machine h d)) (sym (c.in_ok-keep-in-Answered.ensures.goes_on h))
    (kept outcome c.args.flat.now o head last h c.args.self.now d s refl e a.0 a.1.0 a.1.1 w
    (answered c.in-Answered.next) (bindings h c.new-none-in-Answered.result.items) (at c.in-Answered.next) (machine h d).bindings refl
    (λ xs. ap (λ (k : Continuation). answers outcome c.args.flat.now s.level s.height (plain_around k) (bindings h s.frame.items) (Answer (machine h d).bindings xs)) c.in-Answered.is)
    refl (machine h c.keep-in-Answered.new.self).points (c.in_ok-keep-in-Answered.ensures.held h))

pub returns-in_ok-keep-in-Answered-clause-held : goal.returns-in_ok-keep-in-Answered-clause-held
returns-in_ok-keep-in-Answered-clause-held c =
    λ p y x. c.in_ok-keep-in-Answered.ensures.refs p c.args.heap.now (search rules) x

pub returns-in-Negated-clause-steps : goal.returns-in-Negated-clause-steps
returns-in-Negated-clause-steps c =
    λ vs e a outcome head last o w.
    let h : Heap = c.args.heap.now in
    let d : Control = record c.args.self.now { segments = vs } in
    let s = c.args.segment in
    let g = c.give_up.ensures.given_up h in
    subst (Moved outcome c.args.flat.now head last (machine h d)) (sym (c.give_up.ensures.goes_on h))
    (cut outcome c.args.flat.now o head last h c.args.self.now d s refl e a.0 a.1.0 a.1.1 w
    g.0 (machine h c.give_up.new.self).points failing g.1 (c.give_up.ensures.kept h) refl
    (λ l. ap (λ (k : Continuation). answers outcome c.args.flat.now s.level s.height (plain_around k) (bindings h s.frame.items) (Answer (machine h d).bindings l)) c.in-Negated.is))

pub returns-in-Negated-clause-held : goal.returns-in-Negated-clause-held
returns-in-Negated-clause-held c = λ p y x. c.give_up.ensures.held p c.args.heap.now x

pub returns-in-Pruned-clause-steps : goal.returns-in-Pruned-clause-steps
returns-in-Pruned-clause-steps c =
    λ vs e a outcome head last o w.
    let h : Heap = c.args.heap.now in
    let d : Control = record c.args.self.now { segments = vs } in
    let s = c.args.segment in
    let g = c.give_up-in-Pruned.ensures.given_up h in
    subst (Moved outcome c.args.flat.now head last (machine h d)) (sym (c.give_up-in-Pruned.ensures.goes_on h))
    (cut outcome c.args.flat.now o head last h c.args.self.now d s refl e a.0 a.1.0 a.1.1 w
    g.0 (machine h c.give_up-in-Pruned.new.self).points (at c.in-Pruned.next) g.1 (c.give_up-in-Pruned.ensures.kept h) refl
    (λ l. ap (λ (k : Continuation). answers outcome c.args.flat.now s.level s.height (plain_around k) (bindings h s.frame.items) (Answer (machine h d).bindings l)) c.in-Pruned.is
    ∙ append_end (go outcome c.args.flat.now s.level s.height c.in-Pruned.next (machine h d).bindings)))

pub returns-in-Pruned-clause-held : goal.returns-in-Pruned-clause-held
returns-in-Pruned-clause-held c = λ p y x. c.give_up-in-Pruned.ensures.held p c.args.heap.now x

pub returns-in_ok-keep_spare-in-Called-clause-steps : goal.returns-in_ok-keep_spare-in-Called-clause-steps
returns-in_ok-keep_spare-in-Called-clause-steps c =
    λ vs e a outcome head last o w.
    let h : Heap = c.args.heap.now in
    let d : Control = record c.args.self.now { segments = vs } in
    let s = c.args.segment in
    let e2 : Bindings = bindings h c.came_back.new.caller.items in
    let outer : Bindings = bindings h s.frame.items in
    let f = c.args.flat.now in
    let place : ℕ = c.in-Called.place in
    subst (λ (g : Vec (Option ℕ) Global). Moved outcome f head last (machine h d) (record (machine h c.keep-in-Called.new.self) { bindings = bindings h g.items; now = plain_now c.in_ok-now-in-Called.now })) (sym c.replace-done.ensures.after)
    (subst (λ (N : Machine). Moved outcome f head last (machine h d) (record N { bindings = e2; now = plain_now c.in_ok-now-in-Called.now })) (sym (c.in_ok-keep-in-Called.ensures.goes_on h))
    (kept outcome f o head last h c.args.self.now d s refl e a.0 a.1.0 a.1.1 w
    (called place) outer (plain_now c.in_ok-now-in-Called.now) e2 c.in_ok-now-in-Called.ensures.going
    (λ xs. ap (λ (k : Continuation). answers outcome f s.level s.height (plain_around k) outer (Answer (machine h d).bindings xs)) c.in-Called.is
    ∙ ap (λ l. append l (bind xs (back outcome f s.level s.height (instr_at f.code place) outer)))
    (ap (λ (g : Vec (Option ℕ) Global). back outcome f s.level s.height (instr_at f.code place) outer (bindings h g.items)) (sym c.in_ok-keep-in-Called.ensures.frame)
    ∙ c.in_ok-now-in-Called.ensures.says outcome s.level s.height))
    refl (machine h c.keep-in-Called.new.self).points (c.in_ok-keep-in-Called.ensures.held h)))

pub returns-in_ok-keep_spare-in-Called-clause-held : goal.returns-in_ok-keep_spare-in-Called-clause-held
returns-in_ok-keep_spare-in-Called-clause-held c =
    λ p y x.
    let r = c.in_ok-keep-in-Called.ensures.refs p c.args.heap.now y x in
    record {
      frame = subst (λ (g : Vec (Option ℕ) Global). AreHeld p c.args.heap.now g.items) (sym c.replace-done.ensures.after) (c.in_ok-now-in-Called.ensures.held p r.frame y);
      segments = r.segments;
      points = r.points;
    }
