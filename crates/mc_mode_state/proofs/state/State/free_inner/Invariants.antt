use Rattle.std.proofs.Common.{◌≡◌, length, drop}
use Rattle.mc_procs.specs.Named.{NumbersBelow}
use Rattle.mc_procs.specs.Procedures.{PlainProcs}
use Rattle.mc_mode_state.specs.States.{point_of, is_outside}
use Rattle.mc_mode_state.specs.Agreeing.{StateInvariant, LaterByTrail}
use Rattle.mc_mode_state.specs.code.Columns.{freed}
use Rattle.mc_mode_state.proofs.state.State.free_inner.Given as goal

abbrev pub invariant-loop-x : goal.invariant-loop-x
invariant-loop-x l =
    record {
      below : NumbersBelow (length l.self.insts.items) (drop l.x-index l.own);
      count : length l.self.insts.items ≡ length l.fn.self.insts.items;
      even : length l.self.outside.items ≡ length l.self.insts.items;
      outside : l.self.outside ≡ l.fn.self.outside;
      point :
          freed (is_outside l.fn.self.outside.items) (drop l.x-index l.own)
          (point_of l.self.insts.items)
          ≡ freed (is_outside l.fn.self.outside.items) l.own (point_of l.fn.self.insts.items);
      stepped : (q : PlainProcs) → StateInvariant q l.fn.self → LaterByTrail q q l.fn.self l.self;
    }
