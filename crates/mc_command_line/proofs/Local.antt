-- An argument of a simple command is not global.
use Rattle.std.proofs.Common.{◌≡◌, sym, Bool, true, false, not, ◌&&◌, true≢false}
use Rattle.std.specs.Prelude.{is_some}
use Rattle.std.proofs.lemmas.Bool.{not-true}
use Rattle.clap.specs.Walk.{is_empty, is_simple_arg}
use Rattle.clap.specs.declared.builder.arg.Arg.{Arg}

second : (a b : Bool) → (a && b) ≡ true → b ≡ true
second true b e = e
second false b e = absurd (true≢false (sym e))

pub local : (a : Arg) → is_simple_arg a ≡ true → a.global ≡ false
local a e =
    not-true a.global
    (second (not a.last) _
    (second (not a.require_equals) _
    (second (not a.allow_negative_numbers) _
    (second (not a.allow_hyphen_values) _
    (second (not (is_some a.terminator)) _
    (second (not (is_some a.val_delim)) _
    (second (is_empty a.groups.items) _
    (second (is_empty a.default_vals_ifs.items) _
    (second (is_empty a.overrides.items) _ e)))))))))
