-- A system meets all that the theorem asks.
use Rattle.std.proofs.Common.{◌≡◌, ◌≢◌, ◌⊎◌, ℕ, zero, suc, ◌<◌, List, [], ◌∷◌, ◌∙◌, Some, None, Bool, true, false, cond, nat_eq, refl, sym, ap, subst, arith, ⊎_elim}
use Rattle.std.proofs.lemmas.Bool.{eqb-false}
use Rattle.mc_program.specs.Programs.{TypeTerm, int_type, Source}
use Rattle.mc_model.specs.Lists.{In, is_in, Apart}
use Rattle.mc_model.specs.Insts.{ground, unique, dead}
use Rattle.mc_accepted.specs.Inclusion.{Included}
use Rattle.mc_accepted.specs.Tidy.{Tidy}
use Rattle.mc_accepted.specs.Proper.{ProperGraph}
use Rattle.mc_accepted.specs.Ordered.{Insts, also, here, implied_alone, implied_outputs, done, kept, no_more, output, keeps}
use Rattle.mc_accepted.specs.ProperTypes.{ProperType, EachProper, EachBelow}
use Rattle.mc_accepted.specs.Fits.{FitsInsts, FitsTypes, FitsProcedure, type_of}
use Rattle.mc_accepted.specs.Accepted.{entered, AcceptedProcedure}
use Rattle.mc_accepted.specs.BuiltinTypes.{HasBuiltins, builtin_name, builtin_types}
use Rattle.laws_sound.specs.BuiltinLaws.{MakesTypes}
use Rattle.laws_sound.specs.code.Examples.{symbols, parameters, library, library_types, sum_pred, plus_pred, source, graph, sum_procedure, sums, SumsFit}
use Rattle.mc_program.specs.declared.builtin.Builtin.{Builtin}
use Rattle.mc_program.specs.declared.builtin.Builtin.TheVariants as B
use Rattle.laws_sound.proofs.BuiltinIo.{builtins_do_io}
use Rattle.laws_sound.proofs.BuiltinTypings.{builtins_fit}

apart : (a b : ℕ) → nat_eq a b ≡ false → a ≢ b
apart a b e = eqb-false a b e

in_false : (x : ℕ) (xs : List ℕ) → is_in x xs ≡ false → In x xs → ⊥
in_false x [] e i = i
in_false x (y ∷ ys) e i = by_test (nat_eq x y) refl e (in_false x ys)
  where
    by_test : (t : Bool) → nat_eq x y ≡ t → cond t true (is_in x ys) ≡ false → (is_in x ys ≡ false → In x ys → ⊥) → ⊥
    by_test true q h rest = let f : true ≡ false = h in cc
    by_test false q h rest = ⊎_elim (λ e. eqb-false x y q e) (λ j. rest h j) i

apart_from : (y : ℕ) (ys : List ℕ) → is_in y ys ≡ false → Apart (y ∷ []) ys
apart_from y ys e x i j = ⊎_elim (λ q. in_false y ys e (subst (λ z. In z ys) q j)) (λ k. k) i

none_some : {A : Type 0} (x : A) → None ≡ Some x → ⊥
none_some x e = cc

some_is : {A : Type 0} (x y : A) → Some x ≡ Some y → x ≡ y
some_is x y e = cc

proper : ProperGraph graph
proper zero = tt
proper (suc zero) = tt
proper (suc (suc zero)) = tt
proper (suc (suc (suc zero))) = tt
proper (suc (suc (suc (suc i)))) = tt

pub insts_fit : FitsInsts graph
insts_fit = record { is_free = refl; is_ground = refl; is_unique = refl; is_dead = refl; are_bound = λ i. ([], refl, tt); proper = proper }

-- types
below : (s k : ℕ) → parameters (symbols s).of_type ≡ Some k → EachBelow k (symbols s).args
below zero k e = tt
below (suc zero) k e = let q : 1 ≡ k = some_is 1 k e in subst (λ n. EachBelow n (symbols 1).args) q (omega arith, ((omega arith, tt), tt))
below (suc (suc zero)) k e = let q : 1 ≡ k = some_is 1 k e in subst (λ n. EachBelow n (symbols 2).args) q (omega arith, tt)
below (suc (suc (suc zero))) k e = tt
below (suc (suc (suc (suc s)))) k e = tt

arguments : (s : ℕ) → EachProper parameters (symbols s).args
arguments zero = tt
arguments (suc zero) = (tt, ((refl, (tt, tt)), tt))
arguments (suc (suc zero)) = (tt, tt)
arguments (suc (suc (suc zero))) = tt
arguments (suc (suc (suc (suc s)))) = tt

pub types_fit : FitsTypes source parameters
types_fit = record { arities = arities; parameters = λ s k e i. below s k e; arguments = λ s k e i. arguments s }
  where
    arities : (s : ℕ) → (symbols s).name.arity ≡ Rattle.std.proofs.Common.length (symbols s).args
    arities zero = refl
    arities (suc zero) = refl
    arities (suc (suc zero)) = refl
    arities (suc (suc (suc zero))) = refl
    arities (suc (suc (suc (suc s)))) = refl

-- builtins
pub makes_types : MakesTypes source library library_types
makes_types = record { nil = λ h. refl; cons = λ h. refl; ok = λ h. refl; eof = λ h. refl }

named : (t : Bool) (op : Builtin) → (cond t plus_pred sum_pred).builtin ≡ Some op → ((cond t plus_pred sum_pred).name ≡ (builtin_name op).name) × ((cond t plus_pred sum_pred).types ≡ builtin_types library_types op)
named true op e = let q = some_is B.IntPlus op e in (ap (λ o. (builtin_name o).name) q, ap (λ o. builtin_types library_types o) q)
named false op e = absurd (none_some op e)

pub has_builtins : HasBuiltins source library_types
has_builtins p op e = named (nat_eq p 9) op e

-- the procedure
abbrev T : ℕ → TypeTerm
T = type_of sums sum_procedure

pub types : (x : ℕ) → ProperType parameters (T x)
types zero = tt
types (suc zero) = tt
types (suc (suc zero)) = tt
types (suc (suc (suc zero))) = tt
types (suc (suc (suc (suc x)))) = on (T (suc (suc (suc (suc x))))) refl
  where
    on : (t : TypeTerm) → T (suc (suc (suc (suc x)))) ≡ t → ProperType parameters t
    on t e = subst (λ k. ProperType parameters k) e tt

pub tidy : (P : Source) → Tidy P graph 1 int_type
tidy P [] j u l c = absurd (⊎_elim (λ e. not_unique (ap graph l.0 ∙ e)) (λ e. not_dead (ap graph l.0 ∙ e)) c)
  where
    not_unique : ground ≡ unique → ⊥
    not_unique e = cc

    not_dead : ground ≡ dead → ⊥
    not_dead e = cc
tidy P (step ∷ path) j u l c = absurd l

procedure_fits : FitsProcedure sums parameters sum_procedure
procedure_fits =
    record {
      heads = (refl, tt);
      scopes = (tt, tt);
      types = types;
      head_types = refl;
      typed = ((λ v. int_type), refl);
      tidy = ((tidy source, (tidy source, (tidy source, tt))), (tidy source, (tidy source, (tidy source, tt))));
      no_builtin = refl;
    }

abbrev entry : Insts
entry = entered (0 ∷ 1 ∷ 2 ∷ []) (1 ∷ 1 ∷ 1 ∷ [])

abbrev after_sum : Insts
after_sum = also 3 1 entry

ground_in_ground : (t : TypeTerm) → Included source graph 1 1 t
ground_in_ground t path e a = a

pub accepted : AcceptedProcedure sums sum_procedure
accepted =
    record {
      head = refl;
      lengths = (refl, refl);
      after = Some after_sum;
      ordered =
          kept
          (implied_alone
          (implied_outputs {c = after_sum} {op = B.IntPlus} {zs = 0 ∷ 1 ∷ 3 ∷ []} ((3, 2) ∷ []) here refl refl (refl, (refl, (refl, refl)))
          ((λ e. cc), ((λ e. cc), ((λ e. cc), tt))) ((λ i. i), tt) (apart_from 3 (0 ∷ 1 ∷ 2 ∷ 0 ∷ 1 ∷ 2 ∷ 0 ∷ 1 ∷ 2 ∷ []) refl) (refl, apart 1 0 refl, apart 1 0 refl, tt)
          ((λ h. (refl, ground_in_ground (T 0), (λ e. cc))), ((λ h. (refl, ground_in_ground (T 1), (λ e. cc))), ((λ h. absurd (h refl)), tt)))
          refl
          (keeps (apart 1 0 refl) (λ e. cc) (ground_in_ground (T 0)) (keeps (apart 1 0 refl) (λ e. cc) (ground_in_ground (T 1)) (output (apart 1 0 refl) refl no_more)))
          ((λ x. refl), (omega arith, tt), (apart 0 1 refl, tt))
          done))
          ((λ x. refl), (omega arith, tt), (apart 0 1 refl, tt));
      final = (ground_in_ground (T 0), (ground_in_ground (T 1), (ground_in_ground (T 2), tt)));
      kept = (refl, ((refl, tt), ((refl, tt), tt)));
      allowed = ((λ h. h), omega arith);
      declared = λ e. cc;
      placed = (tt, (tt, tt));
      io = (tt, ((tt, tt), ((tt, tt), tt)));
    }

pub sums_fit : SumsFit
sums_fit = (record { insts = insts_fit; types = types_fit; builtins = builtins_fit source library library_types [] makes_types has_builtins (omega arith); io = (library_types, builtins_do_io source library library_types [] has_builtins); procedures = λ k l. procedure_fits }, (λ k l. accepted))
