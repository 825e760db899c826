use Rattle.std.proofs.Common.{◌∙◌, sym, ap, List, [], Option, codes}
use Rattle.std.specs.Prelude.{option_map, unwrap_or}
use Rattle.std.specs.Borrow.{Bor}
use Rattle.std.proofs.lemmas.Result.{IfOk-weaker}
use Rattle.clap.specs.Matches.{found_of}
use Rattle.clap.specs.Walk.{Text}
use Rattle.clap.proofs.WalkLemmas.{raw_values-rows}
use Rattle.mc_command_line.specs.Plain.{plain_texts}
use Rattle.mc_command_line.proofs.parser.rest.Goals as goal

abbrev or_none : Option (List Text) → List Text
or_none words = unwrap_or words []

abbrev texts_behind : Option (Bor (List (Bor Text))) → Option (List Text)
texts_behind = option_map (λ s. plain_texts s.now)

pub returns-in-Some : goal.returns-in-Some
returns-in-Some c =
    let found = raw_values-rows (found_of c.args.matches.now) (codes "words") in
    let read = sym (ap texts_behind c.in-Some.is) ∙ c.get_strs.ensures ∙ found in
    IfOk-weaker c.to_vec.result _ _ (λ v same. ap plain_texts (same (λ x y e. e)) ∙ ap or_none read) c.to_vec.ensures.items_if_clones_equal

pub returns-in-None : goal.returns-in-None
returns-in-None c =
    let found = raw_values-rows (found_of c.args.matches.now) (codes "words") in
    let read = sym (ap texts_behind c.in-None.is) ∙ c.get_strs.ensures ∙ found in
    ap plain_texts c.new.ensures.items ∙ ap or_none read
