use Rattle.std.proofs.Common.{◌∙◌, ◌<◌, List, length, ap, sym, subst, arith}
use Rattle.std.proofs.lemmas.List.{get_or_read}
use Rattle.mc_accepted.specs.InstRules.{PlainInstDef}
use Rattle.mc_insts.specs.Graphs.{count_of}
use Rattle.mc_insts.specs.Defining.{DefinitionsFit, Defined}
use Rattle.mc_procs.specs.Procedures.{source_of, insts_of}
use Rattle.mc_mode_state.specs.code.Overs.{over_definition}
use Rattle.mc_mode_state.proofs.OverDefined.{over_fits, defined_over}
use Rattle.mc_mode_state.proofs.finding.define_over.Goals as goal

pub define-requires : goal.define-requires
define-requires c =
    subst (DefinitionsFit (count_of c.args.procs.now.insts)) (sym c.in_ok-defs.ensures)
    (over_fits ((source_of c.args.procs.now).symbols c.args.symbol).name c.args.insts.now (count_of c.args.procs.now.insts) c.requires.arity c.requires.insts)

pub returns-in-Ok-clause-over : goal.returns-in-Ok-clause-over
returns-in-Ok-clause-over c =
    let G = insts_of c.define.new.self in
    let d : Defined (over_definition ((source_of c.args.procs.now).symbols c.args.symbol).name c.args.insts.now) (count_of c.args.procs.now.insts) G c.in-Ok.made =
    subst (λ (ds : List PlainInstDef). Defined ds (count_of c.args.procs.now.insts) G c.in-Ok.made) c.in_ok-defs.ensures c.in-Ok.ensures.defined in
    let l : 0 < length c.in-Ok.made = omega (arith, d.count) in
    ap G (get_or_read c.in-Ok.made 0 c.get.result.now l c.get.ensures 0)
    ∙ defined_over ((source_of c.args.procs.now).symbols c.args.symbol).name c.args.insts.now (count_of c.args.procs.now.insts) G c.in-Ok.made d
