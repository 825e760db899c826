use Rattle.std.proofs.Common.{◌<◌, List, [], ◌∷◌, length, length-append, sym, ap, subst, arith}
use Rattle.mc_program.specs.Programs.{variable_type}
use Rattle.mc_program.specs.PlainPrograms.{plain_program}
use Rattle.mc_insts.specs.declared.graph.Shape.{Shape}
use Rattle.mc_insts.specs.code.TypeRows.{terms, term_at}
use Rattle.mc_insts.specs.code.Tables.{ShapeIs, ShapesAre}
use Rattle.mc_insts.proofs.Growth.{extends_on, extends_length, extends_get}
use Rattle.mc_insts.proofs.Tables.{shapes_on}
use Rattle.mc_insts.proofs.Growing.{shapes_push}
use Rattle.mc_insts.proofs.rows.complete.Goals as goal

pub loop-alloc-preserved : goal.loop-alloc-preserved
loop-alloc-preserved c =
    let P = plain_program c.args.program.now in
    let symbols = c.args.symbols.now in
    let ts = terms c.loop-alloc.types in
    let us = terms c.shape_of.new.types in
    let rows = c.loop-alloc.shapes.rows in
    let e = c.shape_of.ensures.extends in
    let le = extends_length ts us e in
    let here : length rows < length ts = omega arith in
    let there : ShapesAre P symbols us rows = shapes_on P symbols ts us rows e c.loop-alloc.invariant.fewer c.loop-alloc.invariant.shapes in
    let one : ShapeIs P symbols us c.in_ok-shape.shape (term_at us (length rows)) =
    subst (λ t. ShapeIs P symbols us c.in_ok-shape.shape t) (sym (extends_get ts us (length rows) (variable_type 0) e here)) (subst (λ r. ShapeIs P symbols us c.in_ok-shape.shape (term_at ts r)) c.len-in-loop-alloc-2.ensures c.in_ok-shape.ensures.shape) in
    record {
      extends = extends_on _ ts us c.loop-alloc.invariant.extends e;
      shapes = subst (λ (zs : List Shape). ShapesAre P symbols us zs) (sym c.in_ok-push.ensures.ok) (shapes_push P symbols us rows c.in_ok-shape.shape there one);
      known = c.loop-alloc.invariant.known;
      fewer = let pushed = ap length c.in_ok-push.ensures.ok in omega (arith, length-append rows (c.in_ok-shape.shape ∷ []));
    }

pub returns-in_err-shape-clause-shapes : goal.returns-in_err-shape-clause-shapes
returns-in_err-shape-clause-shapes c = shapes_on (plain_program c.args.program.now) c.args.symbols.now (terms c.loop-alloc.types) (terms c.shape_of.new.types) c.loop-alloc.shapes.rows c.shape_of.ensures.extends c.loop-alloc.invariant.fewer c.loop-alloc.invariant.shapes

pub returns-in_err-push-clause-shapes : goal.returns-in_err-push-clause-shapes
returns-in_err-push-clause-shapes c =
    let P = plain_program c.args.program.now in
    let us = terms c.shape_of.new.types in
    subst (λ (zs : List Shape). ShapesAre P c.args.symbols.now us zs) (sym c.in_err-push.ensures.err)
    (shapes_on P c.args.symbols.now (terms c.loop-alloc.types) us c.loop-alloc.shapes.rows c.shape_of.ensures.extends c.loop-alloc.invariant.fewer c.loop-alloc.invariant.shapes)
