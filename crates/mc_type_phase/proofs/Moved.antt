-- What a checker is for another module.
use Rattle.std.proofs.Common.{◌≡◌, ℕ, subst}
use Rattle.std.specs.Prelude.{Option, Some}
use Rattle.std.proofs.Math.Path.{fun_ext}
use Rattle.mc_program.specs.Programs.{TypeTerm}
use Rattle.mc_names.specs.Linked.{Linked}
use Rattle.mc_type_table.specs.Visibility.{definitions_seen}
use Rattle.mc_typecheck.specs.Fitting.{IsSomeTable}
use Rattle.mc_type_phase.specs.code.Adding.{Checks, IsAtHand}
use Rattle.mc_type_phase.specs.declared.checker.Checker.{Checker}

-- a checker for another module that sees the same
pub checks_moved :
    (l : Linked) (c : Checker) (own : ℕ)
    → ((u : ℕ) → definitions_seen l c.at.own u ≡ definitions_seen l own u)
    → Checks l (definitions_seen l c.at.own) c
    → Checks l (definitions_seen l own) (record c { at = record c.at { own = own } })
checks_moved l c own same checks =
    let Declared : (ℕ → Option TypeTerm) → Type 0 =
    λ D. Checks l D (record c { at = record c.at { own = own } })
    in
    subst Declared (fun_ext same)
    (record { names = checks.names; declared = checks.declared; table = checks.table })

pub some_at_hand :
    (l : Linked) (o : Option Checker) (c : Checker)
    → IsAtHand l o → o ≡ Some c → IsSomeTable c.signatures
some_at_hand l o c at_hand is = (subst (IsAtHand l) is at_hand).0

pub checks_at_hand :
    (l : Linked) (o : Option Checker) (c : Checker)
    → IsAtHand l o → o ≡ Some c → Checks l (definitions_seen l c.at.own) c
checks_at_hand l o c at_hand is = (subst (IsAtHand l) is at_hand).1
