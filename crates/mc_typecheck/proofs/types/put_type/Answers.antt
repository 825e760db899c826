use Rattle.mc_typecheck.specs.VariableTypes.{free_in}
use Rattle.mc_typecheck.proofs.Written.{out_asked}
use Rattle.mc_typecheck.proofs.types.put_type.Goals as goal

pub returns : goal.returns
returns c = λ r front so.
    out_asked r front c.args.asked c.args.written.now c.args.types.now.items c.push.new.self.items c.in_ok-type_of.field-0 c.args.numbers.now c.type_of.new.numbers
    c.if-not-asked.false c.in_ok-push.ensures.items (c.in_ok-type_of.ensures r (free_in front) so.knows) so
