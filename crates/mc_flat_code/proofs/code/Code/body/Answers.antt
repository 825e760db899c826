use Rattle.std.proofs.Common.{sym, ap, subst, ◌∙◌}
use Rattle.std.proofs.lemmas.List.{length-map}
use Rattle.mc_program.specs.PlainPrograms.{plain_type}
use Rattle.mc_flat_code.specs.Running.{IsCode}
use Rattle.mc_flat_code.specs.Standing.{Holds}
use Rattle.mc_flat_code.specs.code.Building.{Grows}
use Rattle.mc_flat_code.specs.declared.code.Code.{Code}
use Rattle.mc_flat_code.proofs.Growth.{grows_then, variables_grow}
use Rattle.mc_flat_code.proofs.Building.{code_kept}
use Rattle.mc_model.specs.PlainGoals.{plain_node}
use Rattle.mc_flat_code.specs.Mentions.{Mentions}
use Rattle.mc_flat_code.specs.code.Mentioning.{Nothing}
use Rattle.mc_flat_code.proofs.Mentioning.{brings_variables, brings_then}
use Rattle.mc_flat_code.proofs.code.Code.body.Goals as goal

pub whole-requires : goal.whole-requires
whole-requires c =
    let one : Code = c.add_variables.new.self in
    let two : Code = c.add_variables-2.new.self in
    let three : Code = c.add_variables-3.new.self in
    let first : IsCode one = code_kept c.args.self.now one c.in_ok-head.ensures.grows (ap (λ k. k.instrs.items) c.in_ok-head.ensures.others) c.requires in
    let second : IsCode two = code_kept one two c.in_ok-first.ensures.grows (ap (λ k. k.instrs.items) c.in_ok-first.ensures.others) first in
    code_kept two three c.in_ok-last.ensures.grows (ap (λ k. k.instrs.items) c.in_ok-last.ensures.others) second

pub returns-clause-stands : goal.returns-clause-stands
returns-clause-stands c =
    let one : Code = c.add_variables.new.self in
    let two : Code = c.add_variables-2.new.self in
    let three : Code = c.add_variables-3.new.self in
    let new : Code = c.whole.new.self in
    let three_on : Grows three new = c.in_ok-entry.ensures.laid.grows in
    let two_on : Grows two new = grows_then two three new c.in_ok-last.ensures.grows three_on in
    let one_on : Grows one new = grows_then one two new c.in_ok-first.ensures.grows two_on in
    record {
      body = c.in_ok-entry.ensures.stands;
      head = subst (λ xs. Holds new.variables.items c.in_ok-head.head xs) c.as_slice.ensures.items (variables_grow one new one_on c.in_ok-head.head c.as_slice.result.now c.in_ok-head.ensures.part);
      first = subst (λ xs. Holds new.variables.items c.in_ok-first.first xs) c.as_slice-2.ensures.items (variables_grow two new two_on c.in_ok-first.first c.as_slice-2.result.now c.in_ok-first.ensures.part);
      last = subst (λ xs. Holds new.variables.items c.in_ok-last.last xs) c.as_slice-3.ensures.items (variables_grow three new three_on c.in_ok-last.last c.as_slice-3.result.now c.in_ok-last.ensures.part);
      size = c.len.ensures ∙ sym (length-map c.args.procedure.now.var_types plain_type);
    }

pub returns-clause-brings : goal.returns-clause-brings
returns-clause-brings c =
    let one : Code = c.add_variables.new.self in
    let two : Code = c.add_variables-2.new.self in
    let three : Code = c.add_variables-3.new.self in
    brings_then c.args.self.now three c.whole.new.self Nothing (Mentions (plain_node c.args.procedure.now.body)) (Mentions (plain_node c.args.procedure.now.body))
    (brings_then c.args.self.now two three Nothing Nothing Nothing
    (brings_then c.args.self.now one two Nothing Nothing Nothing (brings_variables c.args.self.now one Nothing c.in_ok-head.ensures.others) (brings_variables one two Nothing c.in_ok-first.ensures.others) (λ m x. x) (λ m x. x))
    (brings_variables two three Nothing c.in_ok-last.ensures.others) (λ m x. x) (λ m x. x))
    c.in_ok-entry.ensures.brings (λ m x. absurd x) (λ m x. x)
