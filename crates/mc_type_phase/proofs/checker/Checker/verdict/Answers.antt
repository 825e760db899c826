use Rattle.std.proofs.Common.{◌∙◌, length, ap₂}
use Rattle.mc_program.specs.PlainPrograms.{plain_program}
use Rattle.mc_accepted.specs.Resolving.{steps_of}
use Rattle.mc_unresolved.specs.Unresolved.{plain_unresolved_clause}
use Rattle.mc_names.specs.Linked.{plain_names}
use Rattle.mc_type_phase.specs.Typing.{too_many, has_none, has_two, has_one, difference}
use Rattle.mc_typecheck.specs.Tables.{parameters_in}
use Rattle.mc_typecheck.proofs.WhatFits.{shown_of}
use Rattle.mc_type_phase.proofs.checker.Checker.verdict.Goals as goal

pub returns-in-Ok : goal.returns-in-Ok
returns-in-Ok c table =
    let checker = c.args.self.now in
    let clause = c.args.clause.now in
    let P = plain_program checker.program in
    let D = parameters_in checker.program.types in
    let shows =
    shown_of P D checker.signatures table.shows (length clause.names)
    (steps_of (plain_unresolved_clause clause))
    in
    let a = c.in-Ok.ensures P D shows in
    (has_one a.1 a.0.typed, a.0)

pub returns-in_ok-what-in-Err-None : goal.returns-in_ok-what-in-Err-None
returns-in_ok-what-in-Err-None c table =
    let checker = c.args.self.now in
    let clause = c.args.clause.now in
    let P = plain_program checker.program in
    let D = parameters_in checker.program.types in
    let shows =
    shown_of P D checker.signatures table.shows (length clause.names)
    (steps_of (plain_unresolved_clause clause))
    in
    let told = rw c.in-Err-None.field-0-is at c.in-Err-None.ensures in
    let a = told P D shows in
    rw c.in_ok-what-in-Err-None.ensures (has_none a.1 a.0)

pub returns-in_ok-what-in-Err-Two : goal.returns-in_ok-what-in-Err-Two
returns-in_ok-what-in-Err-Two c table =
    let checker = c.args.self.now in
    let clause = c.args.clause.now in
    let P = plain_program checker.program in
    let D = parameters_in checker.program.types in
    let shows =
    shown_of P D checker.signatures table.shows (length clause.names)
    (steps_of (plain_unresolved_clause clause))
    in
    let told = rw c.in-Err-Two.field-0-is at c.in-Err-Two.ensures in
    let a = told P D shows in
    let words =
    c.in_ok-what-in-Err-Two.ensures
    ∙ ap₂ (difference (plain_names checker.at.names.now) P) c.as_slice-first.ensures.items
    c.as_slice-second.ensures.items
    in
    rw words (has_two a.1 c.in-Err-Two.first c.in-Err-Two.second a.0)

pub returns-in_ok-what-in-Err-TooMany : goal.returns-in_ok-what-in-Err-TooMany
returns-in_ok-what-in-Err-TooMany c table =
    let checker = c.args.self.now in
    let clause = c.args.clause.now in
    let P = plain_program checker.program in
    let D = parameters_in checker.program.types in
    let shows =
    shown_of P D checker.signatures table.shows (length clause.names)
    (steps_of (plain_unresolved_clause clause))
    in
    let told = rw c.in-Err-TooMany.field-0-is at c.in-Err-TooMany.ensures in
    rw c.in_ok-what-in-Err-TooMany.ensures (too_many (told P D shows))
