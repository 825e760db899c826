use Rattle.std.proofs.Common.{◌<◌, ◌≤◌, length, get_or, ap, subst, ◌∙◌}
use Rattle.mc_compile.specs.declared.given.Given.{Given}
use Rattle.mc_compile.specs.Sources.{sources_of}
use Rattle.std.specs.Option.{option_copied}
use Rattle.mc_compile.proofs.ReadFiles.{next_done, all_done, has_read, is_unread}
use Rattle.mc_compile.proofs.reading.Read.of.Goals as goal

pub loop-given-preserved : goal.loop-given-preserved
loop-given-preserved c =
    let l = c.loop-given in
    let given = c.given-item.result in
    let item = c.given-item.is ∙ ap (λ xs. get_or xs l.given-index given) c.as_slice-given-items.ensures.items in
    next_done (λ (f : Given). f.bytes) c.args.files.now l.given-index given 0 c.bytes.result.now l.reader c.read.new.self (subst (λ xs. l.given-index < length xs) c.as_slice-given-items.ensures.items c.loop-given-test.true) (c.bytes.ensures.items ∙ ap (λ (f : Given). f.bytes) item) l.invariant (c.in_ok-read.ensures {u = tt})

pub returns-in-Ok : goal.returns-in-Ok
returns-in-Ok c = λ wants_main.
    let l = c.loop-given in
    let answer = c.in-Ok.ensures {u = tt} in
    let s = sources_of c.args.files.now (option_copied c.args.query) wants_main in
    has_read s c.in_ok-goal.goal l.reader c.read_goal.new.self c.in-Ok.files
    (all_done (λ (f : Given). f.bytes) c.args.files.now l.given-index 0 l.reader (subst (λ xs. length xs ≤ l.given-index) c.as_slice-given-items.ensures.items c.loop-given-test.false) l.invariant) (c.in_ok-goal.ensures {u = tt}) answer.files.0 answer.files.1

pub returns-in-Err : goal.returns-in-Err
returns-in-Err c = λ wants_main.
    let l = c.loop-given in
    let answer = c.in-Err.ensures {u = tt} in
    let s = sources_of c.args.files.now (option_copied c.args.query) wants_main in
    is_unread s c.in_ok-goal.goal l.reader c.read_goal.new.self c.in-Err.fault
    (all_done (λ (f : Given). f.bytes) c.args.files.now l.given-index 0 l.reader (subst (λ xs. length xs ≤ l.given-index) c.as_slice-given-items.ensures.items c.loop-given-test.false) l.invariant) (c.in_ok-goal.ensures {u = tt}) answer.broken
