use Rattle.std.proofs.Common.{◌≡◌, ◌+◌, true, length, refl, subst, sym, ap, ◌∙◌}
use Rattle.std.specs.Str.{IsUtf8}
use Rattle.mc_program.specs.Values.{Val, con, state, no_vals, val_then, str}
use Rattle.mc_values.specs.declared.heap.Heap.{Heap}
use Rattle.mc_values.specs.Heap.{StandsFor}
use Rattle.mc_values.specs.Parts.{with_taken}
use Rattle.mc_builtins.specs.Answers.{known}
use Rattle.mc_builtins.proofs.Readings.{line_told, no_text_told, still_stands}
use Rattle.mc_builtins.proofs.reading.line_got.Goals as goal

pub returns-then-not-is_text-clause-tells : goal.returns-then-not-is_text-clause-tells
returns-then-not-is_text-clause-tells c =
    λ written taken e short.
    no_text_told (known c.args.library.now) c.args.heap.now written taken c.args.line.now c.in_ok-answer.answer c.in_ok-answer.ensures short
    (λ text. let r : c.is_text.result ≡ true = c.is_text.ensures.1 (subst IsUtf8 (sym c.bytes.ensures.items) text) in cc)

pub returns-clause-tells : goal.returns-clause-tells
returns-clause-tells c =
    λ written taken e short.
    let h : Heap = c.text.new.self in
    let k : Heap = c.con.new.self in
    let later : Heap = c.taken_more.new.heap in
    let text : IsUtf8 c.args.line.now = subst IsUtf8 c.bytes.ensures.items (c.is_text.ensures.0 c.if-not-is_text.false) in
    let read : StandsFor k c.in_ok-read.read (con c.args.library.now.ok (val_then (str c.args.line.now) no_vals)) =
    subst (λ (v : Val). StandsFor k c.in_ok-read.read (con c.args.library.now.ok (val_then v no_vals))) c.in_ok-text.ensures.ok.is c.in_ok-read.ensures.ok in
    let count : c.from.result ≡ length c.args.line.now = c.from.ensures ∙ c.len.ensures in
    let before : StandsFor k c.args.before (state written taken) =
    still_stands h k c.con.ensures.keeps c.args.before _ (still_stands c.args.heap.now h c.text.ensures.keeps c.args.before _ (record { live = c.requires.live; is = e })) in
    let after : StandsFor later c.in_ok-after.after (state written (taken + length c.args.line.now)) =
    subst (λ (v : Val). StandsFor later c.in_ok-after.after v) (ap (λ (v : Val). with_taken v c.from.result) before.is ∙ ap (λ n. state written (taken + n)) count) c.in_ok-after.ensures.ok in
    line_told (known c.args.library.now) later written taken c.args.line.now c.in_ok-read.read c.in_ok-after.after _ refl short text
    (still_stands k later c.taken_more.ensures.keeps c.in_ok-read.read _ read) after
