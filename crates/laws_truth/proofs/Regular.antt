-- Finitely many types are met under each type of a program whose definitions break no rule.
use Rattle.std.proofs.Common.{◌≡◌, ℕ, List, [], length, Option, ap}
use Rattle.mc_program.specs.Programs.{TypeTerm, Source}
use Rattle.mc_program.specs.PlainPrograms.{plain_program}
use Rattle.mc_accepted.specs.NormalTypes.{TypedClause}
use Rattle.mc_names.specs.Linked.{Linked}
use Rattle.mc_type_table.specs.Rules.{type_faults}
use Rattle.mc_core_program.specs.Wholes.{IsWhole}
use Rattle.mc_core_program.specs.declared.whole_program_program.WholeProgram.{WholeProgram}
use Rattle.laws_order.specs.SomeTest.{TypesMet}
use Rattle.laws_modes.specs.Declared.{HasDeclared}
use Rattle.laws_modes.proofs.Declared.{declared_are_regular}
use Rattle.laws_modes.proofs.MetTypes.{finitely_many_met}

-- the program that runs has the declared types and constructors
whole_has_declared : (l : Linked) (clauses : List (ℕ × TypedClause)) (query : Option TypedClause) (whole : WholeProgram) → IsWhole l clauses query whole → HasDeclared l (plain_program whole.program)
whole_has_declared l clauses query whole is =
    record {
      symbols = ap (λ (P : Source). P.symbols) is.is;
      symbols_of = ap (λ (P : Source). P.symbols_of) is.is;
    }

pub types_are_met : (l : Linked) (clauses : List (ℕ × TypedClause)) (query : Option TypedClause) (whole : WholeProgram) → IsWhole l clauses query whole → type_faults l ≡ [] → (t : TypeTerm) → TypesMet (plain_program whole.program) t
types_are_met l clauses query whole is none =
    let P : Source = plain_program whole.program in
    finitely_many_met P (length l.types) (declared_are_regular l P (whole_has_declared l clauses query whole is) none)
