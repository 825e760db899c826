use Rattle.std.proofs.Common.{List, subst}
use Rattle.mc_insts.specs.declared.rows.Constructor.{Constructor}
use Rattle.mc_insts.specs.code.Tables.{CasesAre}
use Rattle.mc_program.specs.PlainPrograms.{plain_program}
use Rattle.mc_insts.specs.code.TypeRows.{terms, terms_at}
use Rattle.mc_insts.proofs.Results.{if_ok}
use Rattle.mc_insts.proofs.Constructors.{union_is}
use Rattle.mc_insts.proofs.rows.union_cases.Goals as goal

pub returns-clause-union : goal.returns-clause-union
returns-clause-union c =
    if_ok _ _ c.cases_of.result
    (λ cases h. union_is (plain_program c.args.program.now) c.args.symbols.now (terms c.cases_of.new.types) (terms_at (terms c.args.types.now) c.args.env.now) c.args.u c.requires.fits c.requires.named c.in_ok-constructors.constructors.items cases c.in_ok-constructors.ensures.same c.in_ok-constructors.ensures.sorted (subst (λ (ds : List Constructor). CasesAre (plain_program c.args.program.now) (terms c.cases_of.new.types) (terms_at (terms c.args.types.now) c.args.env.now) cases ds) c.as_slice.ensures.value h))
    c.cases_of.ensures.cases
