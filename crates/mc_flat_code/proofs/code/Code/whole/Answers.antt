use Rattle.std.proofs.Common.{[], subst, sym, inl}
use Rattle.mc_source.specs.Determinism.{inferred, det}
use Rattle.mc_model.specs.Scheduled.{node, Exists}
use Rattle.mc_model.specs.PlainGoals.{plain_node}
use Rattle.mc_flat_code.specs.Standing.{At, Stands}
use Rattle.mc_flat_code.specs.code.Building.{Laid}
use Rattle.mc_flat_code.specs.declared.code.Instr.TheVariants as I
use Rattle.mc_flat_code.specs.declared.code.Code.{Code}
use Rattle.mc_flat_code.proofs.Growth.{stands_grows}
use Rattle.mc_flat_code.proofs.Building.{ok_by}
use Rattle.mc_flat_code.specs.Mentions.{Mentions}
use Rattle.mc_flat_code.specs.code.Mentioning.{Nothing}
use Rattle.mc_flat_code.proofs.Mentioning.{on_brings}
use Rattle.mc_flat_code.proofs.code.Code.whole.Goals as goal

pub returns-then-is_committed-clause-stands : goal.returns-then-is_committed-clause-stands
returns-then-is_committed-clause-stands c =
    let new : Code = c.add.new.self in
    ok_by c.add.result (λ place. Laid c.node.new.self new place) (λ place. At new place (I.Once c.in_ok-begin.begin 0)) (λ place. Stands new (node (Exists [] (plain_node c.args.body.now)) [] (inferred det) c.args.is_committed) 0 place) c.add.ensures.laid c.add.ensures.at
    (λ place l at.
    subst (λ b. Stands new (node (Exists [] (plain_node c.args.body.now)) [] (inferred det) b) 0 place) (sym c.if-is_committed.true)
    (inl (c.in_ok-begin.begin, (at, stands_grows c.node.new.self new l.grows (plain_node c.args.body.now) 0 c.in_ok-begin.begin c.in_ok-begin.ensures.stands))))

pub returns-then-is_committed-clause-brings : goal.returns-then-is_committed-clause-brings
returns-then-is_committed-clause-brings c =
    on_brings c.add.result c.args.self.now c.node.new.self c.add.new.self (Mentions (plain_node c.args.body.now)) Nothing (Mentions (plain_node c.args.body.now)) c.in_ok-begin.ensures.brings c.add.ensures.brings (λ m x. x) (λ m x. absurd x)
