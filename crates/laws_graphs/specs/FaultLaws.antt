-- Two programs whose procedures' bodies follow one another break the same rules of determinism, and
-- their procedures have the same determinisms. (Mercury Language Reference Manual: Determinism;
-- this project's profile of io, its rules and texts.)
use Rattle.std.specs.Prelude.{◌≡◌, ◌⊎◌, ℕ, ◌<◌, Bool, List, [], ◌∷◌}
use Rattle.std.specs.List.{list_any}
use Rattle.mc_program.specs.Programs.{TypeTerm}
use Rattle.mc_source.specs.declared.det.Det.{Det}
use Rattle.mc_accepted.specs.Ordered.{Insts}
use Rattle.mc_accepted.specs.Accepted.{entered}
use Rattle.mc_accepted.specs.Determined.{is_dead}
use Rattle.mc_accepted.specs.DeterminismFaults.{determinism_faults}
use Rattle.mc_accepted.specs.Fits.{type_of}
use Rattle.mc_accepted.specs.Inferred.{DeclaredSystem, system_of, LeastClosed}
use Rattle.laws_graphs.specs.Nodes.{MeanOne}
use Rattle.laws_graphs.specs.Follows.{InstsFollow, Follows}
use Rattle.laws_graphs.specs.DeterminismLaws.{ListedOf}

-- Insts of modes have one number, or neither is a builtin one; so both are bound, or both are free.
abbrev pub InstAlike : (i j : ℕ) → Type 0
InstAlike i j = (i ≡ j) ⊎ ((3 < i) × (3 < j))

abbrev pub EachAlike : (here there : List ℕ) → Type 0
EachAlike [] [] = Unit {0}
EachAlike (i ∷ is) (j ∷ js) = InstAlike i j × EachAlike is js
EachAlike _ _ = ⊥

-- the types of a procedure's variables, and the insts at a call of it, and of that which has its number
-- in another program
abbrev pub types_in : DeclaredSystem → (procedure : ℕ) → ℕ → TypeTerm
types_in D k = type_of (system_of D (λ j. (D.procs j).procedure.det)) (D.procs k).procedure

abbrev pub entry_of : DeclaredSystem → (procedure : ℕ) → Insts
entry_of D k = entered (D.procs k).procedure.head (D.procs k).procedure.first

abbrev pub entry_there : DeclaredSystem → DeclaredSystem → (procedure : ℕ) → Insts
entry_there D E k = entered (D.procs k).procedure.head (E.procs k).procedure.first

-- Procedures under one number, over nodes of two graphs: the body of the second follows that of the
-- first.
pub record ProcedureFollows (D E : DeclaredSystem) (m n k : ℕ) : Type 0 where
  pub variables : ℕ
  pub entry :
      InstsFollow D.world.source (types_in D k) variables
      (MeanOne D.world.source m D.insts n E.insts) (entry_of D k) (entry_there D E k)
  pub body :
      Follows D.world.source (types_in D k) variables
      (MeanOne D.world.source m D.insts n E.insts) (entry_of D k) (entry_there D E k)
      (D.procs k).procedure.body (E.procs k).procedure.body

-- Two programs with the same procedures but for their bodies, which follow one another, and for the
-- insts of their modes, which are alike.
pub record ProgramsFollow (D E : DeclaredSystem) (m n : ℕ) : Type 0 where
  pub source : E.world.source ≡ D.world.source
  pub listed : ListedOf D.world.source
  pub count : E.count ≡ D.count
  pub others :
      (k : ℕ)
      → E.procs k
      ≡ record (D.procs k) {
        procedure = record (D.procs k).procedure {
          first = (E.procs k).procedure.first;
          last = (E.procs k).procedure.last;
          body = (E.procs k).procedure.body;
        };
      }
  pub first : (k : ℕ) → EachAlike (D.procs k).procedure.first (E.procs k).procedure.first
  pub last : (k : ℕ) → EachAlike (D.procs k).procedure.last (E.procs k).procedure.last
  pub dead :
      (k : ℕ)
      → list_any (λ i. is_dead (D.insts i)) (D.procs k).procedure.last
      ≡ list_any (λ i. is_dead (E.insts i)) (E.procs k).procedure.last
  pub bodies : (k : ℕ) → k < D.count → ProcedureFollows D E m n k

abbrev pub OneListOfFaults : Type 0
OneListOfFaults =
    (D E : DeclaredSystem) (m n : ℕ) → ProgramsFollow D E m n
    → (runs : Bool) (ds : ℕ → Det) → determinism_faults runs D ds ≡ determinism_faults runs E ds

-- the least determinisms are one
abbrev pub OneLeast : Type 0
OneLeast =
    (D E : DeclaredSystem) (m n : ℕ) → ProgramsFollow D E m n
    → (ds es : ℕ → Det) → LeastClosed D ds → LeastClosed E es → (k : ℕ) → ds k ≡ es k
