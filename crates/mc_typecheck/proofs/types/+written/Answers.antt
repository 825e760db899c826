use Rattle.std.proofs.Common.{◌++◌, subst}
use Rattle.mc_program.specs.PlainPrograms.{plain_type}
use Rattle.mc_types.specs.declared.written_types.Written.{Written}
use Rattle.mc_typecheck.specs.VariableTypes.{free_of}
use Rattle.mc_typecheck.proofs.Written.{Made, free_made, applied_made}
use Rattle.mc_typecheck.proofs.types.+written.Goals as goal

pub returns-in_ok-number-in-Free : goal.returns-in_ok-number-in-Free
returns-in_ok-number-in-Free t c = λ r seen k. free_made r seen c.args.written.now c.in-Free.place c.in_ok-number-in-Free.number c.number.new.self c.in-Free.is (c.in_ok-number-in-Free.ensures {u = tt} r seen k)

pub returns-in_ok-applied-in-App : goal.returns-in_ok-applied-in-App
returns-in_ok-applied-in-App t c = λ r seen k.
    let f = c.in-App.function.value in
    let x = c.in-App.argument.value in
    let tf = plain_type c.in_ok-function-in-App.function in
    let tx = plain_type c.in_ok-argument-in-App.argument in
    let mid = c.type_of.new.numbers in
    let now = c.type_of-in-App.new.numbers in
    let Q : Written → Type 0 = λ w. Made r seen w tf mid in
    let R : Written → Type 0 = λ w. Made r (seen ++ free_of f) w tx now in
    let mf = subst Q c.deref.ensures (c.in_ok-function-in-App.ensures {u = tt} r seen k) in
    let mx = subst R c.deref-in-App.ensures (c.in_ok-argument-in-App.ensures {u = tt} r (seen ++ free_of f) mf.0) in
    applied_made r seen c.args.written.now _ _ f x tf tx (plain_type c.in_ok-applied-in-App.field-0) mid now c.in-App.is mf mx (c.in_ok-applied-in-App.ensures {u = tt})
