use Rattle.std.proofs.Common.{◌≡◌, take}
use Rattle.std.specs.List.{flat_map}
use Rattle.mc_cmd.specs.Messages.{broken_line}
use Rattle.mc_cmd.specs.Call.{Wrote}
use Rattle.mc_cmd.specs.code.Decisions.{given_names}
use Rattle.mc_cmd.proofs.write.put_rules.Given as goal

abbrev pub invariant-loop-rule : goal.invariant-loop-rule
invariant-loop-rule g l =
    record {
      faults : g.E.Sink.faults l.err ≡ g.E.Sink.faults l.initial.err;
      lines : Wrote (g.E.Sink.written l.initial.err) (g.E.Sink.written l.err) (flat_map (broken_line (given_names l.files)) (take l.rule-index l.broken));
    }
