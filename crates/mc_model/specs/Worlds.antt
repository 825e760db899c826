-- A program's world: its clauses, and what its builtins do over an input. (Mercury Language
-- Reference Manual: the library; this project's profile.)
use Rattle.std.specs.Prelude.{ℕ, zero, suc, List, [], ◌∷◌, map, Bool, ◌&&◌, nat_eq, codes, if◌then◌else◌}
use Rattle.std.specs.Cmp.Lexicographic.{pointwise}
use Rattle.mc_program.specs.Programs.{FullName}
use Rattle.mc_program.specs.PlainPrograms.{plain_name, plain_program}
use Rattle.mc_model.specs.Builtins.{Library, outcome}
use Rattle.mc_program.specs.Printed.{names_of, printed}
use Rattle.mc_model.specs.Truth.{World}
use Rattle.mc_program.specs.declared.program.Program.{Program}
use Rattle.mc_program.specs.declared.program.Symbol.{Symbol}

-- a name of the library
abbrev pub library_name : (module_name bytes : List ℕ) → (arity : ℕ) → FullName
library_name m n a = record { module_name = m; bytes = n; arity = a }

abbrev pub same_name : FullName → FullName → Bool
same_name a b =
    pointwise nat_eq a.module_name b.module_name
    && (pointwise nat_eq a.bytes b.bytes && nat_eq a.arity b.arity)

-- the number of the first symbol of that name, and where there is none that of symbols
abbrev pub symbol_number : FullName → List FullName → ℕ
symbol_number n [] = zero
symbol_number n (m ∷ ms) = if same_name n m then zero else suc (symbol_number n ms)

abbrev pub full_names : Program → List FullName
full_names P = map (λ (s : Symbol). plain_name s.name) P.symbols

-- what builtins need to know of a program: its symbols `list.[]`, `list.[|]`, `io.ok` and `io.eof`,
-- and the text that a value is printed as, by the names of its symbols
abbrev pub library_of : Program → Library
library_of P =
    record {
      nil = symbol_number (library_name (codes "list") (codes "[]") 0) (full_names P);
      cons = symbol_number (library_name (codes "list") (codes "[|]") 2) (full_names P);
      ok = symbol_number (library_name (codes "io") (codes "ok") 1) (full_names P);
      eof = symbol_number (library_name (codes "io") (codes "eof") 0) (full_names P);
      text_of = printed (names_of P);
    }

-- a program, over an input, which is a list of bytes
abbrev pub world_of : Program → (input : List ℕ) → World
world_of P input = record { source = plain_program P; outcome = outcome (library_of P) input }
