-- A program with io meets what is asked.
use Rattle.std.proofs.Common.{◌≡◌, ◌≢◌, ℕ, zero, suc, List, [], ◌∷◌, Some, None, Bool, true, false, cond, nat_eq, refl, sym, ap, subst, arith}
use Rattle.std.proofs.lemmas.Bool.{eqb-false}
use Rattle.mc_program.specs.Programs.{TypeTerm, int_type, state_type}
use Rattle.mc_program.specs.Values.{Val}
use Rattle.mc_model.specs.Outcomes.{Outcome}
use Rattle.mc_model.specs.Builtins.{outcome}
use Rattle.mc_accepted.specs.Inclusion.{Included}
use Rattle.mc_accepted.specs.Tidy.{Tidy}
use Rattle.mc_accepted.specs.Ordered.{Insts, also, apply, kept, no_more, output, dies}
use Rattle.mc_accepted.specs.ProperTypes.{ProperType}
use Rattle.mc_accepted.specs.Fits.{FitsTypes, FitsProcedure, type_of}
use Rattle.mc_accepted.specs.Accepted.{entered, AcceptedProcedure}
use Rattle.mc_accepted.specs.BuiltinTypes.{HasBuiltins, builtin_name, builtin_types}
use Rattle.mc_program.specs.declared.builtin.Builtin.{Builtin}
use Rattle.mc_program.specs.declared.builtin.Builtin.TheVariants as B
use Rattle.laws_sound.specs.BuiltinLaws.{MakesTypes}
use Rattle.laws_sound.specs.code.Examples.{parameters, library, library_types, graph}
use Rattle.laws_sound.specs.code.MainExamples.{main_pred, line_pred, line_source, main_procedure, lines_over, LinesFit, LineIsWritten}
use Rattle.laws_sound.proofs.BuiltinIo.{builtins_do_io}
use Rattle.laws_sound.proofs.BuiltinTypings.{builtins_fit}
use Rattle.laws_sound.proofs.SumsExample.{insts_fit, types_fit}
use Rattle.laws_language.proofs.ListInsts.{swapped}

pub apart : (a b : ℕ) → nat_eq a b ≡ false → a ≢ b
apart a b e = eqb-false a b e

pub types_of_lines : FitsTypes line_source parameters
types_of_lines = record { arities = types_fit.arities; parameters = types_fit.parameters; arguments = types_fit.arguments }

makes_types : MakesTypes line_source library library_types
makes_types = record { nil = λ h. refl; cons = λ h. refl; ok = λ h. refl; eof = λ h. refl }

named : (t : Bool) (op : Builtin) → (cond t line_pred main_pred).builtin ≡ Some op → ((cond t line_pred main_pred).name ≡ (builtin_name op).name) × ((cond t line_pred main_pred).types ≡ builtin_types library_types op)
named true op e = let q = some_is B.Nl op e in (ap (λ o. (builtin_name o).name) q, ap (λ o. builtin_types library_types o) q)
  where
    some_is : (a b : Builtin) → Some a ≡ Some b → a ≡ b
    some_is a b e = cc
named false op e = absurd (none_some op e)
  where
    none_some : (a : Builtin) → None ≡ Some a → ⊥
    none_some a e = cc

has_builtins : HasBuiltins line_source library_types
has_builtins p op e = named (nat_eq p 9) op e

pub tidy_state : (i : ℕ) → Tidy line_source graph i state_type
tidy_state i [] j u l c = sym l.1
tidy_state i (step ∷ path) j u l c = absurd l

abbrev entry : Insts
entry = entered (0 ∷ 1 ∷ []) (2 ∷ 0 ∷ [])

pub unique_in_unique : (t : TypeTerm) → Included line_source graph 2 2 t
unique_in_unique t path e a = a

-- whatever its builtins do
module _ (o : Builtin → List Val → Outcome) where
  abbrev T : ℕ → TypeTerm
  T = type_of (lines_over o) main_procedure

  types : (x : ℕ) → ProperType parameters (T x)
  types zero = tt
  types (suc zero) = tt
  types (suc (suc x)) = on (T (suc (suc x))) refl
    where
      on : (t : TypeTerm) → T (suc (suc x)) ≡ t → ProperType parameters t
      on t e = subst (λ k. ProperType parameters k) e tt

  pub procedure_fits : FitsProcedure (lines_over o) parameters main_procedure
  procedure_fits =
      record {
        heads = (refl, tt);
        scopes = (tt, tt);
        types = types;
        head_types = refl;
        typed = ((λ v. int_type), refl);
        tidy = ((tidy_state 2, (tidy_state 0, tt)), (tidy_state 3, (tidy_state 2, tt)));
        no_builtin = refl;
      }

  pub accepted : AcceptedProcedure (lines_over o) main_procedure
  accepted =
      record {
        head = refl;
        lengths = (refl, refl);
        after = Some (also 1 2 (also 0 3 entry));
        ordered =
            kept
            (apply {op = B.Nl} refl ((λ h. (refl, unique_in_unique (T 0), (λ e. refl))), ((λ h. absurd (h refl)), tt)) ((λ e. cc), ((λ e. cc), tt)) refl
            (dies (apart 2 0 refl) refl (output (apart 2 0 refl) refl no_more)))
            ((λ x. swapped x 1 0 2 3 (entry x) (apart 1 0 refl)), (omega arith, (omega arith, tt)), (apart 2 3 refl, (apart 0 2 refl, tt)));
        final = (tt, (unique_in_unique (T 1), tt));
        kept = (refl, tt);
        allowed = ((λ h. h), omega arith);
        declared = λ e. cc;
        placed = tt;
        io = ((refl, refl, (λ q. omega arith)), tt);
      }

pub lines_fit : LinesFit
lines_fit = (
  record { insts = insts_fit; types = types_of_lines; builtins = builtins_fit line_source library library_types [] makes_types has_builtins (omega arith); io = (library_types, builtins_do_io line_source library library_types [] has_builtins); procedures = λ k l. procedure_fits (outcome library []) },
  (λ k l. accepted (outcome library [])),
)

pub line_is_written : LineIsWritten
line_is_written = refl
