use Rattle.std.proofs.Common.{◌≡◌, ℕ, ◌<◌, length, drop, get_or}
use Rattle.mc_insts.specs.Graphs.{count_of}
use Rattle.mc_procs.specs.Named.{NumbersBelow}
use Rattle.mc_procs.specs.Procedures.{PlainProcs}
use Rattle.mc_mode_state.specs.States.{point_of}
use Rattle.mc_mode_state.specs.Agreeing.{StateInvariant, LaterByTrail}
use Rattle.mc_mode_state.specs.code.Taking.{take_each}
use Rattle.mc_mode_state.proofs.state.State.take_each.Given as goal

abbrev pub invariant-loop-k : goal.invariant-loop-k
invariant-loop-k l =
    record {
      below : NumbersBelow (length l.self.insts.items) (drop l.k l.ys);
      rest :
          take_each (drop l.k l.ys) (drop l.k l.insts) (point_of l.self.insts.items)
          ≡ take_each l.ys l.insts (point_of l.fn.self.insts.items);
      stepped :
          (q : PlainProcs) → StateInvariant q l.fn.self
          → ((n : ℕ) → n < length l.insts → get_or l.insts n 0 < count_of q.insts)
          → LaterByTrail q q l.fn.self l.self;
      count : length l.self.insts.items ≡ length l.fn.self.insts.items;
    }
