use Rattle.std.proofs.Common.{ℕ, List, get_or, ◌+◌, ◌∙◌, sym, ap, subst, length, take, arith, length-append, ◌∷◌, []}
use Rattle.std.specs.Borrow.{Bor}
use Rattle.mc_command_line.specs.Plain.{plain_text, plain_texts}
use Rattle.mc_compile.specs.declared.given.Given.{Given}
use Rattle.mc_compile.specs.Sources.{texts_of}
use Rattle.mc_cmd.specs.code.Decisions.{IsHeld, StopsAt, Stops, given_names}
use Rattle.mc_cmd.proofs.InTurn.{AreHeld, passed_on, stops_among, held_next, names_next, hold_all}
use Rattle.mc_cmd.proofs.decide.read_files.Goals as goal

pub returns-in_err-source-clause-stopped : goal.returns-in_err-source-clause-stopped
returns-in_err-source-clause-stopped g c =
    let store = g.F.Files.held c.args.files.now in
    let i = c.loop-name.invariant in
    let d = c.in_err-source.field-0.0 in
    let none : Bor (List ℕ) = record { ref_ptr = (0, 0); now = [] } in
    let name = plain_text (get_or c.args.names.now c.loop-name.name-index none) in
    passed_on (Stops store (plain_texts c.args.names.now)) d c.from_residual.result c.from_residual.ensures.1
    (stops_among plain_text store c.args.names.now c.loop-name.name-index none (texts_of c.loop-name.sources) d c.loop-name-test.true i.read
    (subst (λ s. StopsAt s name d) i.held (c.in_err-source.ensures {u = tt}).stopped))

pub loop-name-preserved : goal.loop-name-preserved
loop-name-preserved g c =
    let store = g.F.Files.held c.args.files.now in
    let i = c.loop-name.invariant in
    let e = c.in_ok-source.ensures {u = tt} in
    let pushed = (c.in_ok-push.ensures {u = tt}).ok in
    let names = c.args.names.now in
    let at = c.loop-name.name-index in
    let none : Bor (List ℕ) = record { ref_ptr = (0, 0); now = [] } in
    let name = plain_text (get_or c.args.names.now c.loop-name.name-index none) in
    let source = c.in_ok-source.source in
    record {
      named = ap given_names pushed ∙ names_next plain_text (λ (s : Given). s.name) names at none c.loop-name.sources source c.loop-name-test.true i.named e.named;
      read =
          subst (λ (gs : List Given). AreHeld store (plain_texts (take (at + 1) names)) (texts_of gs)) (sym pushed)
          (held_next plain_text (λ (s : Given). s.bytes) store names at none c.loop-name.sources source c.loop-name-test.true i.read (subst (λ s. IsHeld s name source.bytes) i.held e.read));
      held = e.held ∙ i.held;
      faults = e.counted.0 ∙ i.faults;
      absents = e.counted.1 ∙ i.absents;
      many = omega (arith, ap length pushed, length-append c.loop-name.sources (source ∷ []), i.many);
    }

pub returns-clause-read : goal.returns-clause-read
returns-clause-read g c =
    hold_all plain_text (g.F.Files.held c.args.files.now) c.args.names.now c.loop-name.name-index (texts_of c.loop-name.sources) (omega (arith, c.loop-name-test.false)) c.loop-name.invariant.read
