use Rattle.std.proofs.Common.{◌≡◌, ◌∙◌, ℕ, List, map, ap}
use Rattle.std.specs.Prelude.{Option}
use Rattle.std.specs.Option.{option_map}
use Rattle.mc_program.specs.Programs.{TypeTerm}
use Rattle.mc_program.specs.declared.ty.Ty.{Ty}
use Rattle.mc_names.specs.Linked.{plain_names}
use Rattle.mc_type_table.specs.Held.{held}
use Rattle.mc_type_table.specs.Rules.{definitions}
use Rattle.mc_declarations.specs.Made.{DeclaredAs}
use Rattle.mc_goals.specs.Resolved.{typed_clause}
use Rattle.mc_core_program.specs.Wholes.{numbered_clause, final_definitions}
use Rattle.mc_core_program.proofs.NumberLemmas.{same_definitions}
use Rattle.mc_core_program.proofs.Wholes.{comes_without, comes_with, rows_of_all}
use Rattle.mc_core_program.proofs.whole_program_program.whole_program.Goals as goal

pub returns-in-Some : goal.returns-in-Some
returns-in-Some c =
    let l = plain_names c.args.names.now in
    let cs = map numbered_clause c.args.clauses.items in
    let H = held c.as_slice-definitions.result.now in
    let each : (u : ℕ) → H u ≡ final_definitions l u = λ u. ap (λ (os : List (Option Ty)). held os u) c.as_slice-definitions.ensures.value ∙ c.in_ok-definitions.ensures u in
    let same : H ≡ final_definitions l = same_definitions H (final_definitions l) each in
    let declared : DeclaredAs l (definitions l) c.in_ok-program.program = c.in_ok-program.ensures (definitions l) each in
    let q = c.in_ok-query-in-Some.query in
    comes_with l cs (option_map typed_clause c.args.query) (typed_clause c.in-Some.query) H
    c.in_ok-program.program c.in_ok-rows.rows.items c.in_ok-exported.exported.items q.names q.pred q.clause c.with_query.result
    (ap (option_map typed_clause) c.in-Some.is) same declared
    (rows_of_all l cs H c.in_ok-program.program c.in_ok-rows.rows.items c.len.result same declared c.in_ok-rows.ensures.count c.len.ensures c.in_ok-rows.ensures.rows)
    c.in_ok-exported.ensures c.in_ok-query-in-Some.ensures.clause c.in_ok-query-in-Some.ensures.pred c.in_ok-query-in-Some.ensures.names
    c.with_query.ensures.joined c.with_query.ensures.exported c.with_query.ensures.variables

pub returns : goal.returns
returns c =
    let l = plain_names c.args.names.now in
    let cs = map numbered_clause c.args.clauses.items in
    let H = held c.as_slice-definitions.result.now in
    let each : (u : ℕ) → H u ≡ final_definitions l u = λ u. ap (λ (os : List (Option Ty)). held os u) c.as_slice-definitions.ensures.value ∙ c.in_ok-definitions.ensures u in
    let same : H ≡ final_definitions l = same_definitions H (final_definitions l) each in
    let declared : DeclaredAs l (definitions l) c.in_ok-program.program = c.in_ok-program.ensures (definitions l) each in
    comes_without l cs (option_map typed_clause c.args.query)
    c.in_ok-program.program c.in_ok-rows.rows.items c.in_ok-exported.exported.items c.new.result c.joined.result
    (ap (option_map typed_clause) c.in-None.is) declared
    (rows_of_all l cs H c.in_ok-program.program c.in_ok-rows.rows.items c.len.result same declared c.in_ok-rows.ensures.count c.len.ensures c.in_ok-rows.ensures.rows)
    c.in_ok-exported.ensures c.new.ensures
    c.joined.ensures.joined c.joined.ensures.exported c.joined.ensures.variables
