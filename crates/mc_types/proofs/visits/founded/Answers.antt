use Rattle.std.proofs.Common.{arith}
use Rattle.mc_types.proofs.Ranks.{calm_first, founded_now}
use Rattle.mc_types.proofs.visits.founded.Goals as goal

pub loop-k-init : goal.loop-k-init
loop-k-init c = record {
  calm = calm_first _ _ _ c.requires.long c.requires.past;
  changed = λ j d low high in_place. let no : ⊥ = omega arith in absurd no;
}

pub returns-clause-answer : goal.returns-clause-answer
returns-clause-answer c = founded_now c.args.round _ _ _ c.args.cells c.args.changes c.loop-at.invariant.calm c.loop-at.invariant.changed (λ i low high. c.loop-at.invariant.new i low (omega arith))
