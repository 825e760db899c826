use Rattle.std.proofs.Common.{arith, ap, sym, ◌∙◌, ◌++◌, ◌≤◌, map, length, vec_len}
use Rattle.std.proofs.lemmas.List.{map-append, length-map}
use Rattle.mc_term_data.specs.Plain.{at, Conj, plain_term, term_list}
use Rattle.mc_state_variables.proofs.Closing.{plain_line, conjoined, not_zero}
use Rattle.mc_state_variables.proofs.pieces.and_then.Goals as goal

pub returns : goal.returns
returns c =
    let goal = c.args.goal in
    let all = c.in_ok-all.all.items in
    let behind = c.args.goals.items in
    let some : 1 ≤ vec_len c.args.goals = not_zero (vec_len c.args.goals) (sym c.is_empty.ensures ∙ c.if-is_empty.false) in
    c.in_ok-whole.ensures
    ∙ ap (λ ts. at (Conj (term_list (map plain_term ts))) goal.line) (c.in_ok-append.ensures {u = tt}).items
    ∙ ap (λ ts. at (Conj (term_list ts)) goal.line) (map-append plain_term all behind ∙ ap (λ ts. ts ++ map plain_term behind) c.in_ok-all.ensures)
    ∙ conjoined (plain_term goal) (map plain_term behind) goal.line (plain_line goal) (omega (arith, length-map behind plain_term, c.args.goals.ok.0))
