use Rattle.std.proofs.Common.{◌≡◌, ◌∙◌, refl, sym, ap, subst, Bool, true, false, Option, Some, None, codes}
use Rattle.clap.specs.Matches.{found_of, one_text}
use Rattle.clap.specs.Walk.{Text}
use Rattle.clap.proofs.WalkLemmas.{first_value-rows, one_text-rows}
use Rattle.mc_command_line.specs.code.Parser.{IsFlag}
use Rattle.mc_command_line.proofs.parser.found.Goals as goal

flag_is : (text : Option Text) (flag result : Bool) → IsFlag flag text → (text ≡ None → result ≡ false) → (text ≡ Some (codes "true") → result ≡ true)
    → (text ≡ Some (codes "false") → result ≡ false) → result ≡ flag
flag_is None flag result h none set unset = none refl ∙ sym h
flag_is (Some text) true result h none set unset = set (ap Some h)
flag_is (Some text) false result h none set unset = unset (ap Some h)

pub returns : goal.returns
returns c = λ t h.
    let found = found_of c.args.matches.now in
    let flag = subst (IsFlag t.first) (sym (one_text-rows found (codes "first"))) h.first in
    let first = flag_is (one_text found (codes "first")) t.first c.get_flag.result flag c.get_flag.ensures.none c.get_flag.ensures.value c.get_flag.ensures.other in
    let budget = c.get_str.ensures ∙ first_value-rows found (codes "budget") ∙ h.budget in
    let depth = c.get_str-2.ensures ∙ first_value-rows found (codes "depth") ∙ h.depth in
    let rest = c.in_ok-rest.ensures ∙ h.rest in
    λ i. record { first = first i; budget = budget i; depth = depth i; rest = rest i }
