use Rattle.std.proofs.Common.{◌≡◌, ◌∙◌, ap, sym, refl, map, drop, ◌∷◌, [], arith, ◌+◌}
use Rattle.std.proofs.lemmas.List.{at_drop_more, drop_all}
use Rattle.mc_term_data.specs.Plain.{plain_term, term_list}
use Rattle.mc_clauses.specs.Variables.{Quantified, all_quantified, one_quantified, quantified_by}
use Rattle.mc_clauses.specs.code.Meanings.{Enters}
use Rattle.mc_clauses.proofs.Meanings.{entered-none}
use Rattle.mc_clauses.proofs.variables.Variables.enter.Goals as goal

pub loop-term-init : goal.loop-term-init
loop-term-init c q m knows = (record { vars = []; numbers = q; met = m }, refl, entered-none q m _ _ c.new.ensures.items c.new-2.ensures.items knows)

pub loop-term-preserved : goal.loop-term-preserved
loop-term-preserved c q m knows =
    let i = c.loop-term.invariant q m knows in
    let terms = c.elements-term-items.result.now in
    let k = c.loop-term.term-index in
    let step : all_quantified (term_list (map plain_term (drop (k + 1) terms))) (one_quantified (plain_term c.term-item.result) i.0) ≡ all_quantified (term_list (map plain_term (drop k terms))) i.0 =
    sym (at_drop_more (λ ts. all_quantified (term_list (map plain_term ts)) i.0) terms k c.term-item.result c.loop-term-test.true
    ∙ ap (λ x. all_quantified (term_list (map plain_term (x ∷ drop (k + 1) terms))) i.0) (sym c.term-item.is)) in
    (one_quantified (plain_term c.term-item.result) i.0, step ∙ i.1, c.in_ok-hide.ensures q m i.0 i.2)

pub returns : goal.returns
returns c q m knows =
    let i = c.loop-term.invariant q m knows in
    let terms = c.elements-term-items.result.now in
    let start : Quantified = record { vars = []; numbers = q; met = m } in
    let all : i.0 ≡ quantified_by (plain_term c.args.list.now) q m =
    ap (λ ts. all_quantified (term_list (map plain_term ts)) i.0) (sym (drop_all c.loop-term.term-index terms c.loop-term-test.false))
    ∙ i.1 ∙ ap (λ ts. all_quantified ts start) c.elements-term-items.ensures in
    rw (← all) i.2
