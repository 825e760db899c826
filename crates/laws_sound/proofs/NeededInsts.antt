-- A system whose insts aren't tidy meets all else that is asked, and its main's last state hasn't
-- gained what is written.
use Rattle.std.proofs.Common.{◌≡◌, ◌≢◌, ℕ, zero, suc, ◌<◌, List, [], ◌∷◌, Option, Some, None, Bool, true, false, cond, nat_eq, refl, ap, ◌∙◌, arith}
use Rattle.mc_program.specs.Values.{Val, state}
use Rattle.mc_program.specs.Programs.{TypeTerm, int_type, state_type}
use Rattle.mc_model.specs.Good.{GoodProcedures}
use Rattle.mc_accepted.specs.Ordered.{Insts, also, here, conj, next, done, assign, call, apply, kept, keeps, no_more, not_passed, output, dies}
use Rattle.mc_accepted.specs.Inclusion.{Included}
use Rattle.mc_accepted.specs.ProperTypes.{ProperType}
use Rattle.mc_accepted.specs.Fits.{FitsTypes, type_of}
use Rattle.mc_accepted.specs.Accepted.{entered, AcceptedProcedure, Accepted}
use Rattle.mc_accepted.specs.BuiltinTypes.{HasBuiltins, builtin_name, builtin_types}
use Rattle.mc_program.specs.declared.builtin.Builtin.{Builtin}
use Rattle.mc_program.specs.declared.builtin.Builtin.TheVariants as B
use Rattle.laws_sound.specs.BuiltinLaws.{MakesTypes}
use Rattle.laws_sound.specs.code.Examples.{parameters, library, library_types}
use Rattle.laws_sound.specs.code.MainExamples.{line_pred}
use Rattle.laws_sound.specs.code.Premises.{Asked, its_heads, its_scopes, its_types, its_head_types, its_atoms, its_insts, its_predicate, Asks, copy_pred, copying_pred, copy_source, copy_procedure, copying_procedure, copies, UniqueInstsAreAsked}
use Rattle.laws_sound.proofs.BuiltinIo.{builtins_do_io}
use Rattle.laws_sound.proofs.BuiltinTypings.{builtins_fit}
use Rattle.laws_sound.proofs.MainExample.{apart}
use Rattle.laws_sound.proofs.SumsExample.{insts_fit, types_fit}
use Rattle.laws_language.proofs.ListInsts.{swapped}

types_of_copies : FitsTypes copy_source parameters
types_of_copies = record { arities = types_fit.arities; parameters = types_fit.parameters; arguments = types_fit.arguments }

makes_types : MakesTypes copy_source library library_types
makes_types = record { nil = λ h. refl; cons = λ h. refl; ok = λ h. refl; eof = λ h. refl }

some_is : (a b : Builtin) → Some a ≡ Some b → a ≡ b
some_is a b e = cc

none_some : (a : Builtin) → None ≡ Some a → ⊥
none_some a e = cc

-- only the end of a line is a builtin
named : (t u : Bool) (op : Builtin) → (cond t line_pred (cond u copy_pred copying_pred)).builtin ≡ Some op → ((cond t line_pred (cond u copy_pred copying_pred)).name ≡ (builtin_name op).name) × ((cond t line_pred (cond u copy_pred copying_pred)).types ≡ builtin_types library_types op)
named true u op e = let q = some_is B.Nl op e in (ap (λ o. (builtin_name o).name) q, ap (λ o. builtin_types library_types o) q)
named false true op e = absurd (none_some op e)
named false false op e = absurd (none_some op e)

has_builtins : HasBuiltins copy_source library_types
has_builtins p op e = named (nat_eq p 9) (nat_eq p 1) op e

copy_types : (x : ℕ) → ProperType parameters (type_of copies copy_procedure x)
copy_types zero = tt
copy_types (suc zero) = tt
copy_types (suc (suc zero)) = tt
copy_types (suc (suc (suc x))) = tt

copying_types : (x : ℕ) → ProperType parameters (type_of copies copying_procedure x)
copying_types zero = tt
copying_types (suc zero) = tt
copying_types (suc (suc zero)) = tt
copying_types (suc (suc (suc x))) = tt

copy_asked : (b : Asked) → b ≢ its_insts → Asks copies copy_procedure b
copy_asked its_heads n = (refl, tt)
copy_asked its_scopes n = (tt, tt)
copy_asked its_types n = copy_types
copy_asked its_head_types n = refl
copy_asked its_atoms n = refl
copy_asked its_insts n = absurd (n refl)
copy_asked its_predicate n = refl

copying_asked : (b : Asked) → b ≢ its_insts → Asks copies copying_procedure b
copying_asked its_heads n = (refl, tt)
copying_asked its_scopes n = ((tt, (tt, tt)), tt)
copying_asked its_types n = copying_types
copying_asked its_head_types n = refl
copying_asked its_atoms n = (((λ v. state_type), refl), (((λ v. int_type), refl), tt))
copying_asked its_insts n = absurd (n refl)
copying_asked its_predicate n = refl

copy_accepted : AcceptedProcedure copies copy_procedure
copy_accepted =
    record {
      head = refl;
      lengths = (refl, refl);
      after = Some (also 1 2 (entered (0 ∷ 1 ∷ 2 ∷ []) (2 ∷ 0 ∷ 0 ∷ [])));
      ordered = kept (assign refl (apart 2 0 refl) ((λ e. cc), ((λ e. cc), tt))) ((λ x. refl), (omega arith, tt), (apart 0 2 refl, tt));
      final = ((λ path e a. a), ((λ path e a. a), (tt, tt)));
      kept = (refl, tt);
      allowed = ((λ h. h), omega arith);
      declared = λ e. cc;
      placed = tt;
      io = (tt, tt);
    }

abbrev entry : Insts
entry = entered (0 ∷ 1 ∷ []) (2 ∷ 0 ∷ [])

abbrev copied : Insts
copied = also 1 2 entry

abbrev written_to : Insts
written_to = also 2 2 (also 0 3 copied)

unique_stays : (t : TypeTerm) → Included copy_source copies.insts 2 2 t
unique_stays t path e a = a

copying_accepted : AcceptedProcedure copies copying_procedure
copying_accepted =
    record {
      head = refl;
      lengths = (refl, refl);
      after = Some written_to;
      ordered =
          kept
          (conj
          (next {c = copied} here
          (kept
          (call {p = 1} (omega arith) ((λ h. (refl, unique_stays state_type, (λ e. cc))), ((λ h. absurd (h refl)), ((λ h. absurd (h refl)), tt))) ((λ e. cc), ((λ e. cc), ((λ e. cc), tt)))
          (keeps (apart 2 0 refl) (λ e. cc) (unique_stays state_type) (output (apart 2 0 refl) refl (not_passed no_more))))
          ((λ x. refl), (omega arith, tt), (apart 0 2 refl, tt)))
          (next {c = written_to} here
          (kept
          (apply {op = B.Nl} refl ((λ h. (refl, unique_stays state_type, (λ e. refl))), ((λ h. absurd (h refl)), tt)) ((λ e. cc), ((λ e. cc), tt)) refl
          (dies (apart 2 0 refl) refl (output (apart 2 0 refl) refl no_more)))
          ((λ x. swapped x 2 0 2 3 (copied x) (apart 2 0 refl)), (omega arith, (omega arith, tt)), (apart 2 3 refl, (apart 0 2 refl, tt))))
          done)))
          ((λ x. swapped x 2 0 2 3 (copied x) (apart 2 0 refl) ∙ ap (λ i. cond (nat_eq x 0) 3 i) (swapped x 2 1 2 2 (entry x) (apart 2 1 refl))), (omega arith, (omega arith, (omega arith, tt))), (apart 2 3 refl, (apart 0 2 refl, (apart 0 2 refl, tt))));
      final = (tt, ((λ path e a. a), tt));
      kept = (refl, ((refl, tt), ((refl, tt), tt)));
      allowed = ((λ h. h), omega arith);
      declared = λ e. cc;
      placed = ((λ e. cc), (tt, tt));
      io = ((refl, refl, (λ q. omega arith)), ((tt, tt), (((refl, refl, (λ q. omega arith)), tt), tt)));
    }

no_more_than_two : (k : ℕ) → suc (suc k) < 2 → ⊥
no_more_than_two k l = omega (arith, l)

asked : (k : ℕ) → k < 2 → (b : Asked) → b ≢ its_insts → Asks copies (copies.procs k) b
asked zero l = copying_asked
asked (suc zero) l = copy_asked
asked (suc (suc k)) l = absurd (no_more_than_two k l)

accepted : Accepted copies
accepted zero l = copying_accepted
accepted (suc zero) l = copy_accepted
accepted (suc (suc k)) l = absurd (no_more_than_two k l)

-- the last state is the first
lost : (after : ℕ) → ◌≡◌ {A = List (Option Val)} (Some (state [] 0) ∷ Some (state [] 0) ∷ []) (Some (state [] 0) ∷ Some (state (10 ∷ []) after) ∷ []) → ⊥
lost after e = no (bytes (same e))
  where
    same : ◌≡◌ {A = List (Option Val)} (Some (state [] 0) ∷ Some (state [] 0) ∷ []) (Some (state [] 0) ∷ Some (state (10 ∷ []) after) ∷ []) → state [] 0 ≡ state (10 ∷ []) after
    same e = cc

    bytes : state [] 0 ≡ state (10 ∷ []) after → ◌≡◌ {A = List ℕ} [] (10 ∷ [])
    bytes e = cc

    no : ◌≡◌ {A = List ℕ} [] (10 ∷ []) → ⊥
    no e = cc

copies_are_bad : GoodProcedures copies → ⊥
copies_are_bad good =
    let said = good.writes (λ v. int_type) 9 9 0 (Some (state [] 0) ∷ None ∷ []) (omega arith) (record { first = refl; last = refl }) ((λ n. (n, (omega arith, refl), tt)), ((λ n. absurd (n refl)), tt)) [] 0 refl tt in
    lost said.0.0 said.0.1

pub unique_insts_asked : UniqueInstsAreAsked
unique_insts_asked = (insts_fit, types_of_copies, builtins_fit copy_source library library_types [] makes_types has_builtins (omega arith), (library_types, builtins_do_io copy_source library library_types [] has_builtins), asked, accepted, copies_are_bad)
