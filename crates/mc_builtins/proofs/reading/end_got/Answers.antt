use Rattle.std.proofs.Common.{refl}
use Rattle.mc_builtins.specs.Answers.{known}
use Rattle.mc_builtins.proofs.Readings.{end_told, still_stands}
use Rattle.mc_builtins.proofs.reading.end_got.Goals as goal

pub returns-clause-tells : goal.returns-clause-tells
returns-clause-tells c =
    λ written taken e.
    end_told (known c.args.library.now) c.con.new.self written taken c.in_ok-end.end c.args.before _ refl c.in_ok-end.ensures.ok
    (still_stands c.args.heap.now c.con.new.self c.con.ensures.keeps c.args.before _ (record { live = c.requires.live; is = e }))
