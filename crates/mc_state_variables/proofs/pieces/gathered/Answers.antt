use Rattle.std.proofs.Common.{arith, ap, sym, ◌∙◌, ◌++◌, ◌∷◌, [], ◌≡◌, map, reverse, length}
use Rattle.std.proofs.lemmas.List.{map-append}
use Rattle.mc_term_data.specs.Plain.{plain_term, term_list}
use Rattle.mc_state_variables.specs.code.Pieces.{plain_piece, gathered}
use Rattle.mc_state_variables.proofs.Lists.{map_reverse}
use Rattle.mc_state_variables.proofs.Closing.{gathered-last, no_items}
use Rattle.mc_state_variables.proofs.pieces.gathered.Goals as goal

pub back-preserved : goal.back-preserved
back-preserved c =
    let l = c.args.line in
    let left = c.pop.new.self.items in
    let piece = c.in-Some.piece in
    let branches = term_list (reverse (map plain_term c.back.branches.items)) in
    ap (gathered l (map plain_piece left)) c.in_ok-branches.ensures
    ∙ sym (gathered-last l (map plain_piece left) (plain_piece piece) branches)
    ∙ ap (λ ps. gathered l ps branches) (sym (map-append plain_piece left (piece ∷ [])) ∙ ap (map plain_piece) (sym c.in-Some.ensures.items))
    ∙ c.back.invariant

pub returns : goal.returns
returns c =
    let l = c.args.line in
    let none : c.back.pieces.items ≡ [] = no_items c.back.pieces.items (omega (arith, c.in_default.ensures.cases.0)) in
    ap term_list (ap (map plain_term) c.reverse.ensures.items ∙ map_reverse plain_term c.back.branches.items)
    ∙ ap (λ ps. gathered l (map plain_piece ps) (term_list (reverse (map plain_term c.back.branches.items)))) (sym none)
    ∙ c.back.invariant
