use Rattle.std.proofs.Common.{◌≡◌, ◌∙◌, sym, ap, subst, List, map, Some, inl, inr}
use Rattle.std.specs.Prelude.{string_bytes}
use Rattle.clap.specs.Simple.{app_of, is_simple, matches_of}
use Rattle.clap.specs.Faults.{fault_of, is_simple_and_free}
use Rattle.clap.specs.Kinds.{IsAmong}
use Rattle.clap.specs.Values.{kind_of}
use Rattle.clap.specs.Walk.{Text}
use Rattle.mc_command_line.specs.code.Parser.{IsFound, app, plain_options}
use Rattle.mc_command_line.proofs.Whole.{failed_silent, is_simple-app, is_simple_and_free-app, parsed_found, texts_of}
use Rattle.mc_command_line.proofs.parser.read_spoken.Goals as goal

pub returns-in-Ok : goal.returns-in-Ok
returns-in-Ok c =
    let o = plain_options c.args.options in
    let ws : List Text = map string_bytes c.args.words.now in
    let is : app_of c.in_ok-parser.parser ≡ app o = c.in_ok-parser.ensures in
    let sound = sym (ap (λ a. fault_of a ws) is) ∙ c.in-Ok.ensures.kinds (ap is_simple_and_free is ∙ is_simple_and_free-app o) in
    let parsed = parsed_found o ws (texts_of c.args.words.now) sound in
    let rows = (c.in-Ok.ensures.matches (ap is_simple is ∙ is_simple-app o)).0 ∙ ap (λ a. matches_of a ws) is in
    ap Some (c.in_ok-found-in-Ok.ensures parsed.found (subst (IsFound parsed.found) (sym rows) parsed.rows)) ∙ sym parsed.is

pub returns : goal.returns
returns c =
    let o = plain_options c.args.options in
    let ws : List Text = map string_bytes c.args.words.now in
    let is : app_of c.in_ok-parser.parser ≡ app o = c.in_ok-parser.ensures in
    elim (c.in-Err.ensures.kinds (ap is_simple_and_free is ∙ is_simple_and_free-app o)) [
      | inl memory ↦ absurd (c.in_default.not-OutOfMemory (c.kind.ensures ∙ memory))
      | inr fails ↦
          let fault = subst (IsAmong (kind_of c.in-Err.error)) (ap (λ a. fault_of a ws) is) fails in
          sym (failed_silent o ws (kind_of c.in-Err.error) (texts_of c.args.words.now) fault)
    ]
