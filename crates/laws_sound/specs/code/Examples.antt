-- A system that meets all that the theorem asks, over the real builtins: `p(X, Y, Z) :- X + Y = Z.`
-- with all three given, so that the sum is an implied output and is tested.
use Rattle.std.specs.Prelude.{ℕ, zero, suc, List, [], ◌∷◌, if◌then◌else◌, nat_eq, Some, None, true, false, codes}
use Rattle.mc_program.specs.Programs.{int_type, variable_type, union_type, no_types, type_then, variable, expressions, Call, Constructor, Predicate, Source}
use Rattle.mc_model.specs.Insts.{free, ground, unique, dead, bound, Graph}
use Rattle.mc_model.specs.Builtins.{Library, outcome}
use Rattle.mc_model.specs.Worlds.{library_name}
use Rattle.mc_model.specs.Scheduled as S
use Rattle.mc_model.specs.Scheduled.{Node, node, Procedure, nodes}
use Rattle.mc_model.specs.Good.{System}
use Rattle.mc_accepted.specs.ProperTypes.{Parameters}
use Rattle.mc_accepted.specs.BuiltinTypes.{Library_types, builtin_name}
use Rattle.mc_accepted.specs.Fits.{Fits}
use Rattle.mc_accepted.specs.Accepted.{Accepted}
use Rattle.mc_program.specs.declared.builtin.Builtin.TheVariants as B
use Rattle.mc_source.specs.declared.det.Det.{Det}
use Rattle.mc_source.specs.declared.det.Most.TheVariants.{One}

abbrev pub det : Det
det = record { can_fail = false; most = One; committed = false }

abbrev pub semidet : Det
semidet = record { can_fail = true; most = One; committed = false }

-- the library's constructors `[]`, `[|]`, `ok` and `eof`, and its types `list(T)` and `result(T)`
abbrev pub symbols : ℕ → Constructor
symbols zero =
    record { name = library_name (codes "list") (codes "[]") 0; of_type = 0; args = [] }
symbols (suc zero) =
    record {
      name = library_name (codes "list") (codes "[|]") 2;
      of_type = 0;
      args = variable_type 0 ∷ union_type 0 (type_then (variable_type 0) no_types) ∷ [];
    }
symbols (suc (suc zero)) =
    record {
      name = library_name (codes "io") (codes "ok") 1;
      of_type = 1;
      args = variable_type 0 ∷ [];
    }
symbols (suc (suc (suc zero))) =
    record { name = library_name (codes "io") (codes "eof") 0; of_type = 1; args = [] }
symbols (suc (suc (suc (suc s)))) =
    record { name = library_name [] [] 0; of_type = 2; args = [] }

abbrev pub symbols_of : ℕ → List ℕ
symbols_of zero = 0 ∷ 1 ∷ []
symbols_of (suc zero) = 2 ∷ 3 ∷ []
symbols_of (suc (suc u)) = []

abbrev pub parameters : Parameters
parameters zero = Some 1
parameters (suc zero) = Some 1
parameters (suc (suc u)) = None

abbrev pub library : Library
library = record { nil = 0; cons = 1; ok = 2; eof = 3; text_of = λ v. [] }

abbrev pub library_types : Library_types
library_types = record { list = 0; result = 1 }

abbrev pub sum_pred : Predicate
sum_pred =
    record {
      name = library_name (codes "sums") (codes "p") 3;
      types = int_type ∷ int_type ∷ int_type ∷ [];
      clauses =
          record {
            head = variable 0 ∷ variable 1 ∷ variable 2 ∷ [];
            body = Call 9 (expressions (variable 0 ∷ variable 1 ∷ variable 2 ∷ []));
          } ∷ [];
      builtin = None;
    }

abbrev pub plus_pred : Predicate
plus_pred =
    record {
      name = (builtin_name B.IntPlus).name;
      types = int_type ∷ int_type ∷ int_type ∷ [];
      clauses = [];
      builtin = Some B.IntPlus;
    }

abbrev pub source : Source
source =
    record {
      symbols = symbols;
      symbols_of = symbols_of;
      preds = λ k. if nat_eq k 9 then plus_pred else sum_pred;
    }

-- the builtin insts, and others that bind no constructor
abbrev pub graph : Graph
graph zero = free
graph (suc zero) = ground
graph (suc (suc zero)) = unique
graph (suc (suc (suc zero))) = dead
graph (suc (suc (suc (suc i)))) = bound []

abbrev pub sum : Node
sum = node (S.Apply B.IntPlus (0 ∷ 1 ∷ []) (3 ∷ [])) ((3, 1) ∷ []) det false

abbrev pub tested : Node
tested = node (S.Test 3 2) [] semidet true

abbrev pub sum_procedure : Procedure
sum_procedure =
    record {
      pred = 0;
      head = 0 ∷ 1 ∷ 2 ∷ [];
      first = 1 ∷ 1 ∷ 1 ∷ [];
      last = 1 ∷ 1 ∷ 1 ∷ [];
      body = node (S.Conj (nodes (sum ∷ tested ∷ []))) ((3, 1) ∷ []) semidet true;
      det = semidet;
      var_types = int_type ∷ int_type ∷ int_type ∷ int_type ∷ [];
    }

abbrev pub sums : System
sums =
    record {
      world = record { source = source; outcome = outcome library [] };
      count = 1;
      procs = λ k. sum_procedure;
      insts = graph;
    }

-- it fits and is accepted
abbrev pub SumsFit : Type 0
SumsFit = Fits sums parameters × Accepted sums
