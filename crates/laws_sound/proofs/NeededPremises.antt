-- Systems that meet all but one thing that is asked of a procedure, and aren't good.
use Rattle.std.proofs.Common.{◌≡◌, ◌≢◌, inl, inr, ℕ, zero, suc, ◌<◌, [], ◌∷◌, Some, None, true, false, pos, refl, ap, ◌∙◌, ⊎_elim, arith}
use Rattle.std.specs.Int.{int_wrap}
use Rattle.mc_program.specs.Values.{Val, int}
use Rattle.mc_program.specs.Programs.{TypeTerm, int_type, char_type, ClauseForm, Source}
use Rattle.mc_model.specs.Insts.{free, unique, dead}
use Rattle.mc_model.specs.Builtins.{outcome}
use Rattle.mc_model.specs.Good.{GoodProcedures, BoundAs}
use Rattle.mc_model.specs.Truth.{Facts, SomeClause, stage, DeniedBy}
use Rattle.mc_accepted.specs.Tidy.{Tidy}
use Rattle.mc_accepted.specs.Ordered.{also, put, conj, done, disj, no_other, kept}
use Rattle.mc_accepted.specs.ProperTypes.{ProperType}
use Rattle.mc_accepted.specs.BuiltinFits.{FitsBuiltins}
use Rattle.mc_accepted.specs.BuiltinTypes.{Library_types}
use Rattle.mc_accepted.specs.IoFits.{FitsIo}
use Rattle.mc_accepted.specs.Fits.{FitsTypes, type_of}
use Rattle.mc_accepted.specs.Accepted.{entered, AcceptedProcedure}
use Rattle.mc_program.specs.declared.builtin.Builtin.{Builtin}
use Rattle.mc_program.specs.declared.builtin.Builtin.TheVariants as B
use Rattle.laws_sound.specs.code.Examples.{parameters, library, library_types, source, graph}
use Rattle.laws_sound.specs.code.Premises.{Asked, its_heads, its_scopes, its_types, its_head_types, its_atoms, its_insts, its_predicate, Asks, alone, one_clause, char_procedure, chars, HeadTypesAreAsked, AtomsAreAsked, true_procedure, headless, HeadsAreAsked, plus_procedure, PredicatesAreAsked}
use Rattle.laws_sound.proofs.BuiltinIo.{builtins_do_io}
use Rattle.laws_sound.proofs.BuiltinTypings.{builtins_fit}
use Rattle.laws_sound.proofs.MainExample.{apart}
use Rattle.laws_sound.proofs.SumsExample as Sums
use Rattle.laws_sound.proofs.SumsExample.{insts_fit, types_fit}

false_true : false ≡ true → ⊥
false_true e = cc

-- ---- a program of one clause
no_builtin : (op : Builtin) → None ≡ Some op → ⊥
no_builtin op e = cc

types_of_one : (c : ClauseForm) → FitsTypes (one_clause c) parameters
types_of_one c = record { arities = types_fit.arities; parameters = types_fit.parameters; arguments = types_fit.arguments }

builtins_of_one : (c : ClauseForm) → FitsBuiltins (record { source = one_clause c; outcome = outcome library [] })
builtins_of_one c = record { outputs = λ θ p op vs e i. absurd (no_builtin op e); succeeds = λ θ p op vs e i f. absurd (no_builtin op e); error_throws = λ θ p vs e i. absurd (no_builtin B.Error e) }

io_of_one : (c : ClauseForm) → FitsIo (record { source = one_clause c; outcome = outcome library [] }) library_types
io_of_one c = record { named = λ p op e. absurd (no_builtin op e); advances = λ θ p op w vs e i q l. absurd (no_builtin op e); quiet = λ p op vs e q. absurd (no_builtin op e) }

tidy_free : (P : Source) → Tidy P graph 0 int_type
tidy_free P [] j u l c = absurd (⊎_elim (λ e. not_unique (ap graph l.0 ∙ e)) (λ e. not_dead (ap graph l.0 ∙ e)) c)
  where
    not_unique : free ≡ unique → ⊥
    not_unique e = cc

    not_dead : free ≡ dead → ⊥
    not_dead e = cc
tidy_free P (step ∷ path) j u l c = absurd l

-- ---- the types of the head and of atoms
char_types : (x : ℕ) → ProperType parameters (type_of (chars char_type) (char_procedure char_type) x)
char_types zero = tt
char_types (suc x) = tt

int_types : (x : ℕ) → ProperType parameters (type_of (chars int_type) (char_procedure int_type) x)
int_types zero = tt
int_types (suc x) = tt

chars_asked : (b : Asked) → b ≢ its_head_types → Asks (chars char_type) (char_procedure char_type) b
chars_asked its_heads n = (refl, tt)
chars_asked its_scopes n = (tt, tt)
chars_asked its_types n = char_types
chars_asked its_head_types n = absurd (n refl)
chars_asked its_atoms n = ((refl, refl), refl)
chars_asked its_insts n = ((tidy_free (chars char_type).world.source, tt), (Sums.tidy (chars char_type).world.source, tt))
chars_asked its_predicate n = refl

ints_asked : (b : Asked) → b ≢ its_atoms → Asks (chars int_type) (char_procedure int_type) b
ints_asked its_heads n = (refl, tt)
ints_asked its_scopes n = (tt, tt)
ints_asked its_types n = int_types
ints_asked its_head_types n = refl
ints_asked its_atoms n = absurd (n refl)
ints_asked its_insts n = ((tidy_free (chars int_type).world.source, tt), (Sums.tidy (chars int_type).world.source, tt))
ints_asked its_predicate n = refl

-- whatever the variable is taken for
char_accepted : (t : TypeTerm) → AcceptedProcedure (chars t) (char_procedure t)
char_accepted t =
    record {
      head = refl;
      lengths = (refl, refl);
      after = Some (also 0 1 (entered (0 ∷ []) (0 ∷ [])));
      ordered = kept (put refl) ((λ x. refl), (omega arith, tt), (apart 0 1 refl, tt));
      final = ((λ path e a. a), tt);
      kept = (refl, tt);
      allowed = ((λ h. h), omega arith);
      declared = λ e. cc;
      placed = tt;
      io = (tt, tt);
    }

chars_are_bad : (t : TypeTerm) → GoodProcedures (chars t) → ⊥
chars_are_bad t good =
    let run = good.runs (λ v. int_type) 9 9 0 (None ∷ []) (omega arith) ((λ n. absurd (n refl)), tt) in
    false_true run.answers_bound.0.0.0.1.1

pub head_types_asked : HeadTypesAreAsked
head_types_asked = (insts_fit, types_of_one _, builtins_of_one _, (library_types, io_of_one _), (λ k l. chars_asked), (λ k l. char_accepted char_type), chars_are_bad char_type)

pub atoms_asked : AtomsAreAsked
atoms_asked = (insts_fit, types_of_one _, builtins_of_one _, (library_types, io_of_one _), (λ k l. ints_asked), (λ k l. char_accepted int_type), chars_are_bad int_type)

-- ---- the heads
true_types : (x : ℕ) → ProperType parameters (type_of headless true_procedure x)
true_types zero = tt
true_types (suc x) = tt

headless_asked : (b : Asked) → b ≢ its_heads → Asks headless true_procedure b
headless_asked its_heads n = absurd (n refl)
headless_asked its_scopes n = (tt, tt)
headless_asked its_types n = true_types
headless_asked its_head_types n = refl
headless_asked its_atoms n = tt
headless_asked its_insts n = ((Sums.tidy headless.world.source, tt), (Sums.tidy headless.world.source, tt))
headless_asked its_predicate n = refl

true_accepted : AcceptedProcedure headless true_procedure
true_accepted =
    record {
      head = refl;
      lengths = (refl, refl);
      after = Some (entered (0 ∷ []) (1 ∷ []));
      ordered = kept (conj done) ((λ x. refl), tt, tt);
      final = ((λ path e a. a), tt);
      kept = (refl, tt);
      allowed = ((λ h. h), omega arith);
      declared = λ e. cc;
      placed = tt;
      io = (tt, tt);
    }

-- an integer where one is given
given : (n : ℕ) → n < 9 → ◌≢◌ {A = ℕ} 1 0 → BoundAs headless (λ v. int_type) 1 int_type (Some (int (pos n)))
given n l e = (e, (omega (arith, l), refl), tt)

-- no clause says anything of one argument
not_said : (C : Facts) (v : Val) → SomeClause C (headless.world.source.preds 0).clauses (v ∷ []) → ⊥
not_said C v (inl y) = y.1.1.0
not_said C v (inr y) = y

headless_is_bad : GoodProcedures headless → ⊥
headless_is_bad good =
    let run = good.runs (λ v. int_type) 9 9 0 (Some (int (pos 1)) ∷ []) (omega arith) (given 1 (omega arith), tt) in
    not_said (stage headless.world 9) (int (pos 1)) (run.true_answers.0 (int (pos 1) ∷ []) (refl, tt))

pub heads_asked : HeadsAreAsked
heads_asked = (insts_fit, types_of_one _, builtins_of_one _, (library_types, io_of_one _), (λ k l. headless_asked), (λ k l. true_accepted), headless_is_bad)

-- ---- the predicate
plus_asked : (b : Asked) → b ≢ its_predicate → Asks (alone source plus_procedure) plus_procedure b
plus_asked its_heads n = tt
plus_asked its_scopes n = tt
plus_asked its_types n = Sums.types
plus_asked its_head_types n = refl
plus_asked its_atoms n = tt
plus_asked its_insts n = ((Sums.tidy source, (Sums.tidy source, (Sums.tidy source, tt))), (Sums.tidy source, (Sums.tidy source, (Sums.tidy source, tt))))
plus_asked its_predicate n = absurd (n refl)

plus_accepted : AcceptedProcedure (alone source plus_procedure) plus_procedure
plus_accepted =
    record {
      head = refl;
      lengths = (refl, refl);
      after = None;
      ordered = kept (disj no_other refl) refl;
      final = tt;
      kept = (refl, tt);
      allowed = ((λ h. h), omega arith);
      declared = λ e. cc;
      placed = tt;
      io = (tt, ((λ e f. refl), tt));
    }

not_denied : DeniedBy (outcome library []) B.IntPlus (int (pos 1) ∷ int (pos 2) ∷ int (pos 3) ∷ []) → ⊥
unfolding int_wrap
not_denied d = d refl

plus_is_bad : GoodProcedures (alone source plus_procedure) → ⊥
plus_is_bad good =
    let run = good.runs (λ v. int_type) 9 9 0 (Some (int (pos 1)) ∷ Some (int (pos 2)) ∷ Some (int (pos 3)) ∷ []) (omega arith) (given 1 (omega arith), (given 2 (omega arith), (given 3 (omega arith), tt))) in
    not_denied (run.none_omitted tt (int (pos 1) ∷ int (pos 2) ∷ int (pos 3) ∷ []) (refl, (refl, (refl, tt))) tt)

pub predicates_asked : PredicatesAreAsked
predicates_asked = (insts_fit, types_fit, builtins_fit source library library_types [] Sums.makes_types Sums.has_builtins (omega arith), (library_types, builtins_do_io source library library_types [] Sums.has_builtins), (λ k l. plus_asked), (λ k l. plus_accepted), plus_is_bad)
