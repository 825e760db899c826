use Rattle.std.proofs.Common.{ℕ, List, subst, sym}
use Rattle.mc_program.specs.declared.builtin.Builtin.TheVariants.{ReadLine}
use Rattle.mc_model.specs.EventList.{Items}
use Rattle.mc_model.specs.Stream.{Bindings, apply_items, gather}
use Rattle.mc_plain.specs.Atoms.{ReadsFrom}
use Rattle.mc_plain.specs.Frames.{bindings}
use Rattle.mc_flat_code.specs.Ticked.{Read}
use Rattle.mc_plain.specs.code.Views.{machine}
use Rattle.mc_plain.specs.code.Atoms.{ActedAfter}
use Rattle.mc_plain.specs.code.RunState.{meaning}
use Rattle.mc_plain.specs.declared.state.RunContext.{RunContext}
use Rattle.mc_plain.specs.declared.state.RunState.{RunState}
use Rattle.mc_plain.proofs.Working.{read_gives, read_ready}
use Rattle.mc_plain.proofs.state.RunState.read.Goals as goal

pub feed-requires : goal.feed-requires
feed-requires c = c.requires.at.ready.held

pub returns-clause-ready : goal.returns-clause-ready
returns-clause-ready c =
    let w : RunState = c.args.self.now in
    let v : RunState = record { heap = c.feed.new.heap; refs = c.feed.new.refs; control = c.feed.new.self } in
    read_ready c.args.t.now w v c.args._place ReadLine c.args.inputs c.args.outputs c.args.next c.requires.at c.feed.ensures.keeps (c.in_ok-feed.ensures.held c.requires.results) c.in_ok-feed.ensures.kept

pub returns-clause-reads : goal.returns-clause-reads
returns-clause-reads c =
    λ input from r next.
    let t : RunContext = c.args.t.now in
    let w : RunState = c.args.self.now in
    let v : RunState = record { heap = c.feed.new.heap; refs = c.feed.new.refs; control = c.feed.new.self } in
    let e : Bindings = bindings w.heap w.control.frame.items in
    let items : List ℕ → List ℕ → Items Bindings = λ xs ys. apply_items (meaning t input ReadLine) ys e (gather xs e) in
    read_gives t w v c.args._place ReadLine c.args.inputs c.args.outputs c.args.next c.requires.at c.feed.ensures.keeps (c.in_ok-feed.ensures.held c.requires.results) from input
    (subst (λ (l : List ℕ × List ℕ). ActedAfter (Read from) (items l.0 l.1) c.args.next (machine w.heap w.control) (machine v.heap v.control)) (λ i. (c.variables-given.ensures i, c.variables-taken.ensures i))
    (c.in_ok-feed.ensures.fed input from
    (subst (λ (l : List ℕ × List ℕ). ReadsFrom from (items l.0 l.1)) (sym (λ i. (c.variables-given.ensures i, c.variables-taken.ensures i))) r) next))
