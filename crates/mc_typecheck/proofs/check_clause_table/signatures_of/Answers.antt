use Rattle.std.proofs.Common.{List, [], ◌∷◌, ◌++◌, map, length, ap, ap₂, ◌∙◌, arith}
use Rattle.mc_program.specs.declared.program.Symbol.{Symbol}
use Rattle.mc_program.specs.declared.program.Pred.{Pred}
use Rattle.mc_typecheck.specs.Searched.{plain_signature}
use Rattle.mc_typecheck.specs.code.Entries.{basics, constructors_in, renamed_in, rigid_in, none_declared}
use Rattle.mc_typecheck.proofs.Entries.{is_table, some_table, in_order}
use Rattle.mc_typecheck.proofs.check_clause_table.signatures_of.Goals as goal

pub returns-clause-is : goal.returns-clause-is
returns-clause-is c =
    let types = c.args.program.now.types in
    is_table c.args.program.now _
    (in_order _ _ _ _ _ _ _ _ _ (ap (map plain_signature) c.new-all.ensures.items) c.in_ok-put_basics.ensures c.in_ok-put_constructors.ensures c.in_ok-put_renamed.ensures c.in_ok-put_rigid.ensures
    ∙ ap₂ (λ (ss : List Symbol) (ps : List Pred). basics ++ (constructors_in types ss ++ ((renamed_in ps ++ none_declared ∷ []) ++ (rigid_in ps ++ none_declared ∷ [])))) c.as_slice-symbols.ensures.items c.as_slice-preds.ensures.items)
    (ap length c.as_slice-symbols.ensures.items)
    (omega (arith, ap length c.as_slice-preds.ensures.items))

pub returns-clause-some : goal.returns-clause-some
returns-clause-some c = some_table c.args.program.now _ (returns-clause-is c)
