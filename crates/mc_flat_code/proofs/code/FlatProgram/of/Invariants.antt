use Rattle.std.proofs.Common.{map, take}
use Rattle.mc_model.specs.PlainGoals.{plain_proc}
use Rattle.mc_flat_code.specs.Running.{IsCode}
use Rattle.mc_flat_code.specs.Mentions.{Mention, BodiesMention, CodeMentions}
use Rattle.mc_flat_code.specs.code.Bodies.{EachStands}
use Rattle.mc_flat_code.proofs.code.FlatProgram.of.Given as goal

abbrev pub invariant-loop-procedure : goal.invariant-loop-procedure
invariant-loop-procedure l =
    record {
      is_code : IsCode l.code;
      stands :
          EachStands l.code l.bodies.items (map plain_proc (take l.procedure-index l.procedures));
      mentions : (m : Mention) → CodeMentions l.code m → BodiesMention (map plain_proc l.procedures) m;
    }
