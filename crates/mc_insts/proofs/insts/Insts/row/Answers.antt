use Rattle.std.proofs.Common.{sym, ◌∙◌, subst, arith}
use Rattle.mc_program.specs.Programs.{variable_type}
use Rattle.mc_program.specs.PlainPrograms.{plain_program, plain_type}
use Rattle.mc_insts.specs.code.Walks.{scene}
use Rattle.mc_insts.specs.code.TypeRows.{terms}
use Rattle.mc_insts.specs.code.Tables.{ConstructorsAre}
use Rattle.mc_insts.proofs.Growth.{extends_length, extends_get, extends_on}
use Rattle.mc_insts.proofs.Readies.{pairs_typed}
use Rattle.mc_insts.proofs.Climbing.{itself}
use Rattle.mc_insts.proofs.Tables.{shapes_on, scene_proper, rows_are}
use Rattle.mc_insts.proofs.insts.Insts.row.Goals as goal

pub complete-requires-clause-shapes : goal.complete-requires-clause-shapes
complete-requires-clause-shapes c = shapes_on (plain_program c.args.program.now) c.args.self.now.symbols (terms c.args.self.now.types) (terms c.row_of.new.types) c.args.self.now.shapes.rows c.row_of.ensures.extends c.requires.fewer c.requires.shapes

pub returns-in_err-r-clause-program : goal.returns-in_err-r-clause-program
returns-in_err-r-clause-program c =
    let le = extends_length (terms c.args.self.now.types) (terms c.row_of.new.types) c.row_of.ensures.extends in
    let few = c.requires.fewer in
    record {
      fits = c.requires.fits;
      constructors = c.requires.constructors;
      shapes = shapes_on (plain_program c.args.program.now) c.args.self.now.symbols (terms c.args.self.now.types) (terms c.row_of.new.types) c.args.self.now.shapes.rows c.row_of.ensures.extends c.requires.fewer c.requires.shapes;
      fewer = omega arith;
      distinct = c.requires.distinct;
      nodes = c.requires.nodes;
      builtins = c.requires.builtins;
      insts = c.requires.insts;
      pairs = pairs_typed (plain_program c.args.program.now) c.args.self.now.graph (terms c.args.self.now.types) (terms c.row_of.new.types) c.args.self.now.pairs c.row_of.ensures.extends c.requires.pairs;
    }

pub returns-in_err-complete-clause-program : goal.returns-in_err-complete-clause-program
returns-in_err-complete-clause-program c = record {
  fits = c.requires.fits;
  constructors = subst (λ k. ConstructorsAre (plain_program c.args.program.now) c.args.self.now.graph.functors k c.args.self.now.symbols) (sym c.complete.ensures.known) c.requires.constructors;
  shapes = c.complete.ensures.shapes;
  fewer = c.complete.ensures.fewer;
  distinct = c.requires.distinct;
  nodes = λ i cs e. let p = c.requires.nodes i cs e in record { rising = p.rising; fitting = p.fitting };
  builtins = c.requires.builtins;
  insts = c.requires.insts;
  pairs = pairs_typed (plain_program c.args.program.now) c.args.self.now.graph (terms c.args.self.now.types) (terms c.complete.new.types) c.args.self.now.pairs (extends_on (terms c.args.self.now.types) (terms c.row_of.new.types) (terms c.complete.new.types) c.row_of.ensures.extends c.complete.ensures.extends) c.requires.pairs;
}

pub returns-clause-program : goal.returns-clause-program
returns-clause-program c = record {
  fits = c.requires.fits;
  constructors = subst (λ k. ConstructorsAre (plain_program c.args.program.now) c.args.self.now.graph.functors k c.args.self.now.symbols) (sym c.complete.ensures.known) c.requires.constructors;
  shapes = c.complete.ensures.shapes;
  fewer = c.complete.ensures.fewer;
  distinct = c.requires.distinct;
  nodes = λ i cs e. let p = c.requires.nodes i cs e in record { rising = p.rising; fitting = p.fitting };
  builtins = c.requires.builtins;
  insts = c.requires.insts;
  pairs = pairs_typed (plain_program c.args.program.now) c.args.self.now.graph (terms c.args.self.now.types) (terms c.complete.new.types) c.args.self.now.pairs (extends_on (terms c.args.self.now.types) (terms c.row_of.new.types) (terms c.complete.new.types) c.row_of.ensures.extends c.complete.ensures.extends) c.requires.pairs;
}

pub returns-clause-is : goal.returns-clause-is
returns-clause-is c =
    extends_get (terms c.row_of.new.types) (terms c.complete.new.types) c.in_ok-r.r (variable_type 0) c.complete.ensures.extends c.in_ok-r.ensures.row.there ∙ c.in_ok-r.ensures.row.is ∙ itself (plain_type c.args.t.now)

pub returns-clause-proper : goal.returns-clause-proper
returns-clause-proper c =
    scene_proper (plain_program c.args.program.now) (scene c.args.self.now.graph c.complete.new.shapes) c.args.self.now.symbols (terms c.complete.new.types) c.requires.fits
    (subst (λ k. ConstructorsAre (plain_program c.args.program.now) c.args.self.now.graph.functors k c.args.self.now.symbols) (sym c.complete.ensures.known) c.requires.constructors)
    c.complete.ensures.shapes c.in_ok-complete.ensures.whole
    (λ i cs e. let p = c.requires.nodes i cs e in record { rising = p.rising; fitting = p.fitting })

pub returns-clause-rows : goal.returns-clause-rows
returns-clause-rows c =
    rows_are (plain_program c.args.program.now) (scene c.args.self.now.graph c.complete.new.shapes) c.args.self.now.symbols (terms c.complete.new.types) c.requires.fits
    (subst (λ k. ConstructorsAre (plain_program c.args.program.now) c.args.self.now.graph.functors k c.args.self.now.symbols) (sym c.complete.ensures.known) c.requires.constructors)
    c.complete.ensures.shapes c.in_ok-complete.ensures.whole
