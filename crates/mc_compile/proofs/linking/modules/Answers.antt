use Rattle.std.proofs.Common.{ℕ, List, []}
use Rattle.std.specs.Borrow.{Bor}
use Rattle.mc_compile.proofs.ReadFiles.{next_done, all_done, library_done}
use Rattle.mc_compile.proofs.linking.modules.Goals as goal

pub loop-text-preserved : goal.loop-text-preserved
loop-text-preserved c =
    let l = c.loop-text in
    let none : Bor (List ℕ) = record { ref_ptr = (0, 0); now = [] } in
    next_done (λ text. text.now) c.args.texts.now l.text-index none c.args.first c.as_bytes.result.now l.reader c.read.new.self c.loop-text-test.true c.as_bytes.ensures.value l.invariant (c.in_ok-read.ensures {u = tt})

pub returns-in-Ok : goal.returns-in-Ok
returns-in-Ok c =
    let l = c.loop-text in
    let answer = c.in-Ok.ensures {u = tt} in
    library_done c.args.first _ l.reader c.in-Ok.files (all_done (λ text. text.now) c.args.texts.now l.text-index c.args.first l.reader c.loop-text-test.false l.invariant) answer.files.0 answer.files.1
