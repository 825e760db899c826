-- What a checker has, as the definitions have it.
use Rattle.std.proofs.Common.{◌≡◌, ℕ, zero, suc, ◌+◌, List, [], ◌∷◌, map, refl, ap, subst, ◌∙◌}
use Rattle.std.specs.Prelude.{Option, slice_get}
use Rattle.std.specs.Option.{option_map}
use mathlib.Core.Path.{fun_ext}
use Rattle.mc_program.specs.Programs.{TypeTerm, Source}
use Rattle.mc_program.specs.PlainPrograms.{plain_program}
use Rattle.mc_program.specs.declared.program.TypeDef.{TypeDef}
use Rattle.mc_accepted.specs.ProperTypes.{Parameters}
use Rattle.mc_unresolved.specs.declared.clause.UnresolvedClause.{UnresolvedClause}
use Rattle.mc_names.specs.Linked.{Defined, Linked, plain_names}
use Rattle.mc_type_table.specs.Table.{constructor_count, table_from}
use Rattle.mc_declarations.specs.Declarations.{declarations, parameter_counts}
use Rattle.mc_typecheck.specs.Tables.{parameters_in, IsTable}
use Rattle.mc_type_phase.specs.code.Adding.{IsVerdict, Checks}
use Rattle.mc_type_phase.specs.declared.checker.Checker.{Checker}
use Rattle.mc_type_phase.specs.declared.checker.Verdict.{Verdict}

counts_each :
    (n : ℕ) (ds : List Defined) (u : ℕ)
    → slice_get (map (λ (t : TypeDef). t.params) (table_from n ds)) u
    ≡ option_map (λ (d : Defined). d.name.arity) (slice_get ds u)
counts_each n [] u = refl
counts_each n (d ∷ ds) zero = refl
counts_each n (d ∷ ds) (suc u) = counts_each (n + constructor_count d.item) ds u

counts_so : (l : Linked) → parameters_in (table_from 0 l.types) ≡ parameter_counts l
counts_so l = fun_ext (λ u. counts_each 0 l.types u)

-- a checker's verdict, as the definitions have it
pub verdict_so :
    (l : Linked) (D : ℕ → Option TypeTerm) (c : Checker) (clause : UnresolvedClause) (v : Verdict)
    → Checks l D c
    → (IsTable c.program c.signatures
    → IsVerdict (plain_names c.at.names.now) (plain_program c.program) (parameters_in c.program.types)
    clause v)
    → IsVerdict l (declarations l D) (parameter_counts l) clause v
verdict_so l D c clause v checks tells =
    let ByNames : Linked → Type 0 =
    λ m. IsVerdict m (plain_program c.program) (parameters_in c.program.types) clause v
    in
    let BySource : Source → Type 0 =
    λ P. IsVerdict l P (parameters_in c.program.types) clause v
    in
    let ByCounts : Parameters → Type 0 = λ E. IsVerdict l (declarations l D) E clause v in
    subst ByCounts (ap parameters_in checks.declared.types ∙ counts_so l)
    (subst BySource checks.declared.is (subst ByNames checks.names (tells checks.table)))
