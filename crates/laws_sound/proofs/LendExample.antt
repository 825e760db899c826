-- A program whose main lends its state meets what is asked.
use Rattle.std.proofs.Common.{◌≡◌, ℕ, zero, suc, ◌<◌, [], ◌∷◌, Some, None, Bool, true, false, cond, nat_eq, refl, ap, arith}
use Rattle.mc_program.specs.Programs.{int_type, state_type}
use Rattle.mc_accepted.specs.Ordered.{Insts, also, here, conj, next, done, call, apply, kept, keeps, no_more, output, dies}
use Rattle.mc_accepted.specs.ProperTypes.{ProperType}
use Rattle.mc_accepted.specs.Fits.{FitsTypes, FitsProcedure, type_of}
use Rattle.mc_accepted.specs.Accepted.{entered, AcceptedProcedure, Accepted}
use Rattle.mc_accepted.specs.BuiltinTypes.{HasBuiltins, builtin_name, builtin_types}
use Rattle.mc_program.specs.declared.builtin.Builtin.{Builtin}
use Rattle.mc_program.specs.declared.builtin.Builtin.TheVariants as B
use Rattle.laws_sound.specs.BuiltinLaws.{MakesTypes}
use Rattle.laws_sound.specs.code.Examples.{parameters, library, library_types}
use Rattle.laws_sound.specs.code.MainExamples.{line_pred, peek_pred, peeking_pred, peek_source, peek_procedure, peeking_procedure, peek_procedures, peeks, PeeksFit, OneLineIsWritten}
use Rattle.laws_sound.proofs.BuiltinIo.{builtins_do_io}
use Rattle.laws_sound.proofs.BuiltinTypings.{builtins_fit}
use Rattle.laws_sound.proofs.MainExample.{apart, tidy_state, unique_in_unique}
use Rattle.laws_sound.proofs.SumsExample.{insts_fit, types_fit}
use Rattle.laws_language.proofs.ListInsts.{swapped}

types_of_peeks : FitsTypes peek_source parameters
types_of_peeks = record { arities = types_fit.arities; parameters = types_fit.parameters; arguments = types_fit.arguments }

makes_types : MakesTypes peek_source library library_types
makes_types = record { nil = λ h. refl; cons = λ h. refl; ok = λ h. refl; eof = λ h. refl }

some_is : (a b : Builtin) → Some a ≡ Some b → a ≡ b
some_is a b e = cc

none_some : (a : Builtin) → None ≡ Some a → ⊥
none_some a e = cc

-- only the end of a line is a builtin
named : (t u : Bool) (op : Builtin) → (cond t line_pred (cond u peek_pred peeking_pred)).builtin ≡ Some op → ((cond t line_pred (cond u peek_pred peeking_pred)).name ≡ (builtin_name op).name) × ((cond t line_pred (cond u peek_pred peeking_pred)).types ≡ builtin_types library_types op)
named true u op e = let q = some_is B.Nl op e in (ap (λ o. (builtin_name o).name) q, ap (λ o. builtin_types library_types o) q)
named false true op e = absurd (none_some op e)
named false false op e = absurd (none_some op e)

has_builtins : HasBuiltins peek_source library_types
has_builtins p op e = named (nat_eq p 9) (nat_eq p 1) op e

peek_types : (x : ℕ) → ProperType parameters (type_of peeks peek_procedure x)
peek_types zero = tt
peek_types (suc x) = tt

peeking_types : (x : ℕ) → ProperType parameters (type_of peeks peeking_procedure x)
peeking_types zero = tt
peeking_types (suc zero) = tt
peeking_types (suc (suc x)) = tt

peek_fits : FitsProcedure peeks parameters peek_procedure
peek_fits =
    record {
      heads = (refl, tt);
      scopes = (tt, tt);
      types = peek_types;
      head_types = refl;
      typed = tt;
      tidy = ((tidy_state 2, tt), (tidy_state 2, tt));
      no_builtin = refl;
    }

peeking_fits : FitsProcedure peeks parameters peeking_procedure
peeking_fits =
    record {
      heads = (refl, tt);
      scopes = ((tt, (tt, tt)), tt);
      types = peeking_types;
      head_types = refl;
      typed = (((λ v. int_type), refl), (((λ v. int_type), refl), tt));
      tidy = ((tidy_state 2, (tidy_state 0, tt)), (tidy_state 3, (tidy_state 2, tt)));
      no_builtin = refl;
    }

peek_accepted : AcceptedProcedure peeks peek_procedure
peek_accepted =
    record {
      head = refl;
      lengths = (refl, refl);
      after = Some (entered (0 ∷ []) (2 ∷ []));
      ordered = kept (conj done) ((λ x. refl), tt, tt);
      final = (unique_in_unique state_type, tt);
      kept = (refl, tt);
      allowed = ((λ h. h), omega arith);
      declared = λ e. cc;
      placed = tt;
      io = (tt, tt);
    }

abbrev entry : Insts
entry = entered (0 ∷ 1 ∷ []) (2 ∷ 0 ∷ [])

peeking_accepted : AcceptedProcedure peeks peeking_procedure
peeking_accepted =
    record {
      head = refl;
      lengths = (refl, refl);
      after = Some (also 1 2 (also 0 3 entry));
      ordered =
          kept
          (conj
          (next {c = entry} here
          (kept
          (call {p = 1} (omega arith) ((λ h. (refl, unique_in_unique state_type, (λ e. cc))), tt) ((λ e. cc), tt)
          (keeps (apart 2 0 refl) (λ e. cc) (unique_in_unique state_type) no_more))
          ((λ x. refl), tt, tt))
          (next {c = also 1 2 (also 0 3 entry)} here
          (kept
          (apply {op = B.Nl} refl ((λ h. (refl, unique_in_unique state_type, (λ e. refl))), ((λ h. absurd (h refl)), tt)) ((λ e. cc), ((λ e. cc), tt)) refl
          (dies (apart 2 0 refl) refl (output (apart 2 0 refl) refl no_more)))
          ((λ x. swapped x 1 0 2 3 (entry x) (apart 1 0 refl)), (omega arith, (omega arith, tt)), (apart 2 3 refl, (apart 0 2 refl, tt))))
          done)))
          ((λ x. swapped x 1 0 2 3 (entry x) (apart 1 0 refl)), (omega arith, (omega arith, tt)), (apart 2 3 refl, (apart 0 2 refl, tt)));
      final = (tt, (unique_in_unique state_type, tt));
      kept = (refl, ((refl, tt), ((refl, tt), tt)));
      allowed = ((λ h. h), omega arith);
      declared = λ e. cc;
      placed = ((λ e. cc), (tt, tt));
      io = ((refl, refl, (λ q. omega arith)), ((tt, tt), (((refl, refl, (λ q. omega arith)), tt), tt)));
    }

no_more_than_two : (k : ℕ) → suc (suc k) < 2 → ⊥
no_more_than_two k l = omega (arith, l)

fits : (k : ℕ) → k < 2 → FitsProcedure peeks parameters (peek_procedures k)
fits zero l = peeking_fits
fits (suc zero) l = peek_fits
fits (suc (suc k)) l = absurd (no_more_than_two k l)

accepted : Accepted peeks
accepted zero l = peeking_accepted
accepted (suc zero) l = peek_accepted
accepted (suc (suc k)) l = absurd (no_more_than_two k l)

pub peeks_fit : PeeksFit
peeks_fit = (
  record { insts = insts_fit; types = types_of_peeks; builtins = builtins_fit peek_source library library_types [] makes_types has_builtins (omega arith); io = (library_types, builtins_do_io peek_source library library_types [] has_builtins); procedures = fits },
  accepted,
)

pub one_line_is_written : OneLineIsWritten
one_line_is_written = refl
