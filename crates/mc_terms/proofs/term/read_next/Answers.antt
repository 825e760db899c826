use Rattle.std.proofs.Common.{[], inl, inr, refl, ◌∙◌, subst}
use Rattle.mc_tokens.specs.declared.token.Kind.TheVariants.{End, Eof}
use Rattle.mc_term_parser.specs.Tree.{Tree}
use Rattle.mc_term_parser.specs.Reads.{ReadsTerm}
use Rattle.mc_terms.specs.Lines.{line_at}
use Rattle.mc_terms.specs.Answers.{place_of}
use Rattle.mc_terms.proofs.Items.{begins, refused_by, stands_by, not_a_term}
use Rattle.mc_terms.proofs.term.read_next.Goals as goal

pub returns-in-Err-clause-refused : goal.returns-in-Err-clause-refused
returns-in-Err-clause-refused c =
    let text = c.args.walk.now in
    let f = c.faulty_token.ensures in
    refused_by text text c.next.new.self c.args.from.at c.args.from.at c.moved-line.result.line Eof c.in-Err.fault [] c.faulty_token.result.fault refl c.next.ensures.same (begins text c.args.from.at) c.in-Err.ensures.value
    (c.moved-line.ensures.line ∙ (λ i. line_at ((c.text.ensures ∙ c.next.ensures.same) i) (place_of (c.in-Err.ensures.value i)))) f.kind f.line f.passes

pub returns-in-Err-clause-stands : goal.returns-in-Err-clause-stands
returns-in-Err-clause-stands c =
    let text = c.args.walk.now in
    let f = c.faulty_token.ensures in
    stands_by text text c.args.from.at c.args.from.at c.faulty_token.result.at Eof c.in-Err.fault [] c.faulty_token.result.fault.kind refl (begins text c.args.from.at) c.in-Err.ensures.value f.kind f.at

pub returns-then-item-clause-refused : goal.returns-then-item-clause-refused
returns-then-item-clause-refused c =
    not_a_term c.args.walk.now c.next.new.self c.text-2.result.now c.args.from.at c.in_ok-item.item.tokens.items Eof c.in_ok-item.item.end.at c.moved-begin.result.line c.in-Ok.first c.no_term.result.fault
    c.next.ensures.same (c.in_ok-item.ensures.cut_off c.if-item.true) (inl refl) c.in-Ok.ensures.value (c.is_eof.ensures.no c.if-is_eof.false) c.text-2.ensures c.moved-begin.ensures.line
    c.no_term.ensures.kind c.no_term.ensures.line c.no_term.ensures.next

pub returns-in-Ok-None-clause-refused : goal.returns-in-Ok-None-clause-refused
returns-in-Ok-None-clause-refused c =
    not_a_term c.args.walk.now c.next.new.self c.text-2.result.now c.args.from.at c.in_ok-item.item.tokens.items End c.in_ok-item.item.end.at c.moved-begin.result.line c.in-Ok.first c.no_term-in-Ok-None.result.fault
    c.next.ensures.same (c.in_ok-item.ensures.whole c.if-item.false)
    (inr (subst (λ us. (t : Tree) → ReadsTerm us t 1200 → ⊥) c.as_slice.ensures.value (rw c.in-Ok-None.field-0-is at c.in-Ok-None.ensures.none)))
    c.in-Ok.ensures.value (c.is_eof.ensures.no c.if-is_eof.false) c.text-2.ensures c.moved-begin.ensures.line
    c.no_term-in-Ok-None.ensures.kind c.no_term-in-Ok-None.ensures.line c.no_term-in-Ok-None.ensures.next
