use Rattle.std.proofs.Common.{◌≡◌, map, reverse, vec_len}
use Rattle.mc_term_data.specs.Plain.{plain_term, term_list, no_term}
use Rattle.mc_state_variables.specs.code.Pieces.{plain_piece, gathered}
use Rattle.mc_state_variables.proofs.pieces.gathered.Given as goal

abbrev pub invariant-back : goal.invariant-back
invariant-back l =
    gathered l.line (map plain_piece l.pieces.items) (term_list (reverse (map plain_term l.branches.items))) ≡ gathered l.line (map plain_piece l.initial.pieces.items) no_term

abbrev pub decreases-back : goal.decreases-back
decreases-back l = vec_len l.pieces
