use Rattle.std.proofs.Common.{◌≡◌, ◌<◌, ◌^◌, rules, arith, length, pos, ap, ◌∙◌}
use Rattle.std.specs.Int.{w64}
use Rattle.std.specs.Str.{chars}
use Rattle.std.proofs.lemmas.Int.{to_z_pos}
use Rattle.std.proofs.lemmas.Str.{chars_from_encodes}
use Rattle.mc_builtins.proofs.texts.code_points.Goals as goal

pub returns : goal.returns
returns c =
    let count : c.count.result ≡ length (chars c.args.text.now) = search (rules, chars_from_encodes) in
    let short : c.count.result < 2 ^ 63 =
    omega (arith, c.chars.ensures.len, c.count.ensures.bound, c.bytes.ensures.small, ap length (c.in-Ok.ensures {u = tt}).cases.0, ap length c.bytes.ensures.items) in
    to_z_pos w64 c.count.result short ∙ ap pos count
