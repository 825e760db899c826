use Rattle.std.proofs.Common.{refl, below_more, arith}
use Rattle.mc_program.specs.PlainPrograms.{plain_program}
use Rattle.mc_program.specs.declared.program.Program.{Program}
use Rattle.mc_builtins.specs.Answers.{known}
use Rattle.mc_model.specs.Worlds.{library_of}
use Rattle.mc_self_check.specs.code.Predicates.{FitsLibrary, types_in}
use Rattle.mc_self_check.specs.code.Types.{plain_types}
use Rattle.mc_self_check.proofs.Choosing.{library_there, answered, no_answer}
use Rattle.mc_self_check.proofs.fit.library_fits.Goals as goal

pub returns-then-not-predicate_fits : goal.returns-then-not-predicate_fits
returns-then-not-predicate_fits c =
    no_answer c.args.program.now c.of-library.result.program.now (known c.of-library.result)
    (plain_types c.types_in-types.result) c.predicate_fits.result c.loop-number.number
    c.get.result.now c.of-library.ensures.program c.of-library.ensures.known
    c.types_in-types.ensures (omega arith) c.get.ensures c.predicate_fits.ensures
    c.if-not-predicate_fits.true

pub loop-number-preserved : goal.loop-number-preserved
loop-number-preserved c =
    let P : Program = c.args.program.now in
    below_more
    (λ p. FitsLibrary P (library_of P) (types_in P (library_of P)) ((plain_program P).preds p))
    c.loop-number.number c.loop-number.invariant
    ((answered P c.of-library.result.program.now (known c.of-library.result)
    (plain_types c.types_in-types.result) c.predicate_fits.result c.loop-number.number
    c.get.result.now c.of-library.ensures.program c.of-library.ensures.known
    c.types_in-types.ensures (omega arith) c.get.ensures c.predicate_fits.ensures).0
    c.if-not-predicate_fits.false)

pub returns : goal.returns
returns c = (
  λ h. library_there c.args.program.now (λ p lt. c.loop-number.invariant p (omega arith)),
  λ h. refl,
)
