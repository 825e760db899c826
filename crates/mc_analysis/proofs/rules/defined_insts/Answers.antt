use Rattle.std.proofs.Common.{◌≡◌, ℕ, ◌+◌, sym, ap, subst, ◌∙◌}
use Rattle.mc_insts.specs.Defining.{plain_definitions, bounds_of, Defined, DefinitionsFit}
use Rattle.mc_insts.specs.Graphs.{graph_of, count_of}
use Rattle.mc_analysis.proofs.rules.defined_insts.Goals as goal

pub new-requires : goal.new-requires
new-requires c = c.requires.fits.1

pub define-requires-clause-program : goal.define-requires-clause-program
define-requires-clause-program c = (c.in_ok-insts.ensures {u = tt}).program

pub define-requires-clause-fit : goal.define-requires-clause-fit
define-requires-clause-fit c =
    subst (λ (n : ℕ). DefinitionsFit n (plain_definitions c.args.defs.now)) (sym (c.in_ok-insts.ensures {u = tt}).nodes.count) c.requires.defs

pub returns-in-Ok : goal.returns-in-Ok
returns-in-Ok c =
    let ds = plain_definitions c.args.defs.now in
    let four : count_of c.in_ok-insts.insts ≡ 4 = (c.in_ok-insts.ensures {u = tt}).nodes.count in
    record {
      are_of = c.define.ensures.program;
      nodes = c.in-Ok.field-0;
      defined = subst (λ (n : ℕ). Defined ds n (graph_of c.define.new.self) c.in-Ok.field-0) four c.in-Ok.ensures.defined;
      count = c.in-Ok.ensures.made ∙ ap (λ n. n + bounds_of ds) four;
    }
