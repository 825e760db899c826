use Rattle.std.proofs.Common.{ap, ap₂, ◌∙◌, ◌++◌, map, List, append_assoc}
use Rattle.std.proofs.lemmas.Result.{on_ok_weaker}
use Rattle.mc_term_data.specs.Plain.{plain_term, term_list}
use Rattle.mc_names.specs.Plain.{PlainOccurrence, plain_occurrence}
use Rattle.mc_names.specs.Definitions.{cell_path}
use Rattle.mc_defs_uses.specs.code.Steps.{behind}
use Rattle.mc_defs_uses.proofs.Steps.{one_pushed, elements_are, after_first}
use Rattle.mc_defs_uses.proofs.terms.+terms.Goals as goal

pub add_list-returns : goal.add_list-returns
add_list-returns t c =
    let old = map plain_occurrence c.args.uses.now.items in
    let ts = term_list (map plain_term c.args.elements.now) in
    ap (map plain_occurrence) ((c.in_ok-push.ensures {u = tt}).items)
    ∙ one_pushed c.add_behind.new.uses.items c.of_symbol.result
    ∙ ap₂ (λ (us vs : List PlainOccurrence). us ++ vs) (c.in_ok-add_behind.ensures {u = tt}) c.of_symbol.ensures
    ∙ append_assoc old (behind cell_path ts) _
    ∙ ap (λ us. old ++ us) (elements_are ts)

pub add_between-returns-in_ok-add_terms-in-len1-up : goal.add_between-returns-in_ok-add_terms-in-len1-up
add_between-returns-in_ok-add_terms-in-len1-up t c =
    on_ok_weaker _
    (after_first _ _ _ _ c.args.parts.now c.first-item.result c.in-len1-up.len_at_least c.first-item.is (c.in_ok-add_terms-in-len1-up.ensures {u = tt}))
    c.add_behind.ensures
