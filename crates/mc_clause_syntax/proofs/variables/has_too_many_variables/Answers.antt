use Rattle.std.proofs.Common.{refl, ◌∙◌}
use Rattle.mc_term_data.specs.Plain.{plain_term}
use Rattle.mc_clause_syntax.proofs.Appended.{found_too_many}
use Rattle.mc_clause_syntax.proofs.variables.has_too_many_variables.Goals as goal

pub returns : goal.returns
returns c =
    c.are_too_many.ensures ∙ rw (c.in_ok-add.ensures {u = tt}) (found_too_many (record { anonymous = 0; names = c.new.result }) (plain_term c.args.term.now) refl c.new.ensures)
