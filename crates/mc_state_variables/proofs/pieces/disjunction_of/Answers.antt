use Rattle.std.proofs.Common.{arith, ap, ◌∙◌, map, length}
use Rattle.std.proofs.lemmas.List.{length-map}
use Rattle.mc_term_data.specs.Plain.{at, Disj, plain_term, term_list}
use Rattle.mc_state_variables.specs.code.Pieces.{alone}
use Rattle.mc_state_variables.proofs.Closing.{several}
use Rattle.mc_state_variables.proofs.pieces.disjunction_of.Goals as goal
use Rattle.mc_state_variables.proofs.pieces.disjunction_of.Goals.{then-len-eq1+in_default, else-len-eq1}

pub returns : goal.returns
returns c = elim c.if-len-eq1.branch [
  | then-len-eq1+in_default w ↦ absurd (omega (arith, w.in_default.ensures.cases.0, w.if-len-eq1.true, c.len.ensures))
  | else-len-eq1 w ↦
      let branches = c.in_ok-branches.branches.items in
      c.in_ok-whole.ensures
      ∙ ap (λ v. at (Disj (term_list (map plain_term v.items))) c.args.line) w.branches-is
      ∙ several c.args.line (map plain_term branches) (λ e. w.if-len-eq1.false (omega (arith, e, length-map branches plain_term, c.len.ensures, c.in_ok-branches.branches.ok.0)))
      ∙ ap (alone c.args.line) c.in_ok-branches.ensures
]
