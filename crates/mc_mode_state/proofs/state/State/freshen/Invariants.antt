use Rattle.std.proofs.Common.{◌≡◌, ◌+◌, ◌++◌, length, drop}
use Rattle.mc_accepted.specs.Arranged.{fresh_at, tests_at}
use Rattle.mc_procs.specs.Named.{NumbersBelow}
use Rattle.mc_procs.specs.Procedures.{PlainProcs}
use Rattle.mc_mode_state.specs.States.{point_of, SameLengths}
use Rattle.mc_mode_state.specs.Agreeing.{StateInvariant, LaterByTrail}
use Rattle.mc_mode_state.specs.code.Applying.{AlikeIn}
use Rattle.mc_mode_state.proofs.state.State.freshen.Given as goal

abbrev pub invariant-loop-k : goal.invariant-loop-k
invariant-loop-k l =
    record {
      args :
          l.args.items ++ fresh_at l.k l.implied (drop l.k l.xs) (length l.self.insts.items)
          ≡ fresh_at 0 l.implied l.xs (length l.fn.self.insts.items);
      tests :
          l.tests.items ++ tests_at l.k l.implied (drop l.k l.xs) (length l.self.insts.items)
          ≡ tests_at 0 l.implied l.xs (length l.fn.self.insts.items);
      many : length l.args.items ≡ l.k;
      there : NumbersBelow (length l.self.insts.items) l.args.items;
      count : length l.self.insts.items ≡ length l.fn.self.insts.items + length l.tests.items;
      alike : AlikeIn l.self.types.items l.tests.items;
      point : point_of l.self.insts.items ≡ point_of l.fn.self.insts.items;
      even : SameLengths l.self;
      stepped : (q : PlainProcs) → StateInvariant q l.fn.self → LaterByTrail q q l.fn.self l.self;
    }
