-- What a program's declarations are as data. (Mercury Language Reference Manual: Types; Predicate and
-- function type declarations.)
use Rattle.std.specs.Prelude.{◌≡◌, ℕ, map, Option}
use Rattle.mc_program.specs.Programs.{TypeTerm}
use Rattle.mc_program.specs.PlainPrograms.{plain_symbol, plain_pred, plain_program}
use Rattle.mc_program.specs.declared.program.Program.{Program}
use Rattle.mc_program.specs.declared.program.Pred.{Pred}
use Rattle.mc_names.specs.Linked.{Defined, Linked}
use Rattle.mc_type_table.specs.Table.{table}
use Rattle.mc_declarations.specs.Declarations.{declarations, constructors_from, predicate_of, is_function}

-- This program has what is declared, and no clauses: its types are the table, and its constructors,
-- functions and predicates have their numbers.
pub record DeclaredAs (l : Linked) (D : ℕ → Option TypeTerm) (program : Program) : Type 0 where
  pub is : plain_program program ≡ declarations l D
  pub types : program.types ≡ table l
  pub symbols : map plain_symbol program.symbols ≡ constructors_from l D 0 l.types
  pub preds : map plain_pred program.preds ≡ map (predicate_of l D) l.preds
  pub names : map (λ (p : Pred). p.name) program.preds ≡ map (λ (d : Defined). d.name) l.preds
  pub functions :
      map (λ (p : Pred). p.is_func) program.preds ≡ map (λ (d : Defined). is_function d.item) l.preds
