-- The phase of clauses: the rules of types that the clauses of the given files and of the library
-- break, and then the query's (this project's rules; the Mercury manual: Types, overloading).
use Rattle.std.specs.Prelude.{◌≡◌, List, map, length, Result}
use Rattle.mc_source.specs.declared.rule.Broken.{Broken}
use Rattle.mc_type_table.specs.Visibility.{definitions_seen}
use Rattle.mc_type_phase.specs.Items.{Item, items, without_clauses}
use Rattle.mc_type_phase.specs.Judging.{AreFaults, AreTyped, typed_clauses}
use Rattle.mc_compile.specs.declared.checked.Checked.{Checked}
use Rattle.mc_compile.specs.Phases.{Refusal, unless_broken}
use Rattle.mc_compile.specs.Linking.{LinkedFiles, PlainNamed}
use Rattle.mc_compile.specs.Typing.{PlainTyped, plain_typed}

-- What is typed: the clauses of the given files and those of the library behind them, and the goal of
-- the query, whose number follows the given files'.
abbrev pub items_of : PlainNamed → List Item
items_of named =
    items named.files.names named.files.all (length named.files.given) named.goal

-- these are the rules that they break, where each module sees the definitions that are in its sight
abbrev pub AreBroken : PlainNamed → List Broken → Type 0
AreBroken named =
    AreFaults named.files.names (definitions_seen named.files.names) (items_of named)

-- The phase of clauses: what has a table of types goes on as it is, unless a clause or the query
-- breaks a rule (T1, T2 or L5).
pub record Clauses (typed : PlainTyped) (result : Result PlainTyped Refusal) : Type 0 where
  pub rules : List Broken
  pub are : AreBroken typed.named rules
  pub is : result ≡ unless_broken rules typed

-- What is linked, with its clauses left out of the files.
abbrev pub files_left : LinkedFiles → LinkedFiles
files_left files =
    record {
      given = map without_clauses files.given;
      all = map without_clauses files.all;
      names = files.names;
    }

abbrev pub clauses_left_out : PlainNamed → PlainNamed
clauses_left_out named = record { files = files_left named.files; goal = named.goal }

-- The same of what has a table of types: a clause as it was read is given up once it is typed, so that
-- the terms of many clauses aren't kept beside what they are resolved to.
abbrev pub clauses_given_up : PlainTyped → PlainTyped
clauses_given_up typed = record { named = clauses_left_out typed.named; types = typed.types }

-- A value shows plain data that has a table of types, with the predicate of each clause and of the
-- query, and what it is resolved to. It has the files of that data without their clauses.
pub record Shows (checked : Checked) (plain : PlainTyped) : Type 0 where
  pub typed : plain_typed checked.typed ≡ clauses_given_up plain
  pub clauses :
      AreTyped plain.named.files.names (definitions_seen plain.named.files.names)
      (items_of plain.named) (typed_clauses checked.clauses.items)
