use Rattle.std.proofs.Common.{◌<◌, length, ap, ◌∙◌, arith}
use Rattle.mc_program.specs.PlainPrograms.{plain_program}
use Rattle.mc_insts.specs.code.Walks.{scene, functor_at}
use Rattle.mc_insts.specs.code.Narrowing.{IsFunctorOf}
use Rattle.mc_insts.proofs.Narrowing.{narrowed}
use Rattle.mc_insts.proofs.Results.{if_ok}
use Rattle.mc_insts.proofs.insts.Insts.narrow.Goals as goal

pub returns : goal.returns
returns c =
    let I = c.args.self.now in
    let P = plain_program c.args.program.now in
    let f = c.functor_of.result in
    let cons = c.requires.program.constructors in
    let is : IsFunctorOf P I.graph.functors f c.args.symbol = record {
      name = ap (λ g. (functor_at I.graph.functors g).name) c.functor_of.ensures ∙ cons.names c.args.symbol;
      arity = ap (λ g. (functor_at I.graph.functors g).arity) c.functor_of.ensures ∙ cons.arities c.args.symbol;
    } in
    let w = cons.within c.args.symbol in
    let n = cons.enough in
    let there : f < length I.graph.functors = omega (arith, c.functor_of.ensures) in
    if_ok _ _ c.arguments.result
    (λ o h. narrowed (scene I.graph I.shapes) c.requires.program.nodes c.requires.program.distinct c.args.i f there o h P c.args.symbol is)
    c.arguments.ensures
