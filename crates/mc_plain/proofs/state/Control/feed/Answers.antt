use Rattle.std.proofs.Common.{◌≡◌, ℕ, Option, List, subst, sym, ◌∙◌}
use Rattle.mc_program.specs.declared.program.Program.{Program}
use Rattle.mc_program.specs.declared.builtin.Builtin.TheVariants.{ReadLine}
use Rattle.mc_values.specs.declared.heap.Heap.{Heap}
use Rattle.mc_model.specs.Builtins.{outcome}
use Rattle.mc_model.specs.EventList.{Items, Read}
use Rattle.mc_model.specs.Stream.{Bindings, apply_items, gather}
use Rattle.mc_builtins.specs.Answers.{known}
use Rattle.mc_plain.specs.Frames.{bindings}
use Rattle.mc_plain.specs.Atoms.{ReadsFrom, fed_items}
use Rattle.mc_plain.specs.declared.results.ReadLineResult.{ReadLineResult}
use Rattle.mc_model.specs.declared.run.Stop.TheVariants as E
use Rattle.mc_plain.specs.declared.state.NextAction.TheVariants as N
use Rattle.mc_plain.proofs.Applying.{fed_went, fed_threw}
use Rattle.mc_plain.proofs.Growing.{atom_held, atom_kept}
use Rattle.mc_plain.proofs.state.Control.feed.Goals as goal

pub feed-requires-clause-frame : goal.feed-requires-clause-frame
feed-requires-clause-frame c =
    let h : Heap = c.args.heap.now in
    let P : Program = c.args.library.now.program.now in
    c.in_ok-widen_all-2.ensures.held P h (c.in_ok-widen_all.ensures.held P h c.requires.frame)

pub returns-in-Went-clause-fed : goal.returns-in-Went-clause-fed
returns-in-Went-clause-fed c =
    λ input from r next.
    let h : Heap = c.args.heap.now in
    let k : Heap = c.feed.new.heap in
    let items : Bindings → List ℕ → Items Bindings = λ e i. apply_items (outcome (known c.args.library.now) i ReadLine) c.args.outputs.now e (gather c.args.inputs.now e) in
    let wide : List (Option ℕ) = c.widen_all-2.new.frame.items in
    let same : bindings h wide ≡ bindings h c.args.self.now.frame.items = c.in_ok-widen_all-2.ensures.same h ∙ c.in_ok-widen_all.ensures.same h in
    fed_went c.args.library.now.program.now h k c.feed.ensures.keeps c.args.self.now c.requires c.feed.new.frame items c.args.next wide same from input c.in-Went.went c.went_on.result c.went_on.ensures
    (subst (λ (a : ReadLineResult). items (bindings h wide) input ≡ Read from (fed_items a (bindings k c.feed.new.frame.items))) c.in-Went.is
    (c.in_ok-went.ensures.does input from (subst (λ (e : Bindings). ReadsFrom from (items e input)) (sym same) r) next))

pub returns-in-Throws-clause-fed : goal.returns-in-Throws-clause-fed
returns-in-Throws-clause-fed c =
    λ input from r next.
    let h : Heap = c.args.heap.now in
    let k : Heap = c.feed.new.heap in
    let items : Bindings → List ℕ → Items Bindings = λ e i. apply_items (outcome (known c.args.library.now) i ReadLine) c.args.outputs.now e (gather c.args.inputs.now e) in
    let wide : List (Option ℕ) = c.widen_all-2.new.frame.items in
    let same : bindings h wide ≡ bindings h c.args.self.now.frame.items = c.in_ok-widen_all-2.ensures.same h ∙ c.in_ok-widen_all.ensures.same h in
    fed_threw c.args.library.now.program.now h k c.feed.ensures.keeps c.args.self.now c.requires c.feed.new.frame items c.args.next wide same from input c.in-Throws.exception
    (subst (λ (a : ReadLineResult). items (bindings h wide) input ≡ Read from (fed_items a (bindings k c.feed.new.frame.items))) c.in-Throws.is
    (c.in_ok-went.ensures.does input from (subst (λ (e : Bindings). ReadsFrom from (items e input)) (sym same) r) next))

pub returns-in-Went-clause-held : goal.returns-in-Went-clause-held
returns-in-Went-clause-held c =
    λ has. atom_held c.args.library.now.program.now c.args.heap.now c.feed.new.heap c.feed.ensures.keeps c.args.self.now c.feed.new.frame c.went_on.result c.requires (c.feed.ensures.held has)

pub returns-in-Throws-clause-held : goal.returns-in-Throws-clause-held
returns-in-Throws-clause-held c =
    λ has. atom_held c.args.library.now.program.now c.args.heap.now c.feed.new.heap c.feed.ensures.keeps c.args.self.now c.feed.new.frame _ c.requires (c.feed.ensures.held has)

pub returns-in-Went-clause-kept : goal.returns-in-Went-clause-kept
returns-in-Went-clause-kept c =
    atom_kept c.args.library.now.program.now c.args.heap.now c.feed.new.heap c.feed.ensures.keeps c.args.self.now c.feed.new.frame c.went_on.result c.requires

pub returns-in-Throws-clause-kept : goal.returns-in-Throws-clause-kept
returns-in-Throws-clause-kept c =
    atom_kept c.args.library.now.program.now c.args.heap.now c.feed.new.heap c.feed.ensures.keeps c.args.self.now c.feed.new.frame (N.Stopped (E.Throw c.in-Throws.exception)) c.requires
