use Rattle.std.proofs.Common.{◌≡◌, length}
use Rattle.mc_program.specs.PlainPrograms.{plain_type}
use Rattle.mc_model.specs.Types.{instance_of, type_at}
use Rattle.mc_insts.specs.code.Lists.{Extends}
use Rattle.mc_insts.specs.code.TypeRows.{terms, terms_at, over_rows}
use Rattle.mc_insts.specs.code.Frames.{rebuilt, FramesFit}
use Rattle.mc_insts.proofs.intern.row_of.Given as goal

abbrev pub invariant-loop : goal.invariant-loop
invariant-loop l = record {
  extends : Extends (terms l.fn.types) (terms l.types);
  fit : FramesFit (length (terms l.types)) l.frames.items;
  same : rebuilt (terms l.types) (type_at (terms_at (terms l.fn.types) l.env)) l.frames.items (instance_of (type_at (terms_at (terms l.fn.types) l.env)) (plain_type l.rest)) ≡ over_rows (terms l.fn.types) l.env (plain_type l.t);
}
