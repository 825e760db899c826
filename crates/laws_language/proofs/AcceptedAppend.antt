-- append in the mode (in, in, out) is accepted.
use Rattle.std.proofs.Common.{◌≡◌, inl, ℕ, zero, suc, List, [], ◌∷◌, length, Some, Bool, true, false, cond, not, nat_eq, refl, sym, ap, ◌∙◌, subst, arith, ⊎_elim}
use Rattle.mc_program.specs.Programs.{TypeTerm, variable_type, Source}
use Rattle.mc_model.specs.Lists.{In}
use Rattle.mc_model.specs.Insts.{Listed, bound, Graph}
use Rattle.mc_accepted.specs.Inclusion.{Merged}
use Rattle.mc_accepted.specs.Proper.{ProperGraph}
use Rattle.mc_accepted.specs.ProperTypes.{EachProper, EachBelow}
use Rattle.mc_accepted.specs.Fits.{type_of, NoArgumentFree, FitsInsts, FitsTypes, FitsProcedure, Fits}
use Rattle.mc_accepted.specs.Ordered.{Insts, also, change_at, here, there, no_part, to_part, to_rest, keeps, output, no_more, assign, take, build, call, conj, disj, switch, KeepsChanges, Joined, OrderedNode, kept, next, done, either, no_other, arm, no_arm}
use Rattle.mc_accepted.specs.Accepted.{entered, FinalAfter, AcceptedProcedure}
use Rattle.mc_model.specs.Flat as F
use Rattle.mc_model.specs.Flat.{flats}
use Rattle.mc_model.specs.Scheduled.{Procedure}
use Rattle.laws_language.specs.code.Examples.{det, nil, cell}
use Rattle.mc_source.specs.declared.det.Det.{Det}
use Rattle.laws_language.specs.code.ExamplesOfGoals.{append, append_goal}
use Rattle.laws_language.specs.code.ExamplesOfProcedures.{append_pred, list_parameters, list_source, list_insts, nil_listed, cell_listed, empty_arm, cell_arm, append_goals, append_body, append_system, append_procedure, AppendIsAccepted}
use Rattle.laws_language.proofs.ListInsts.{swapped, entered_off, apart, differ, bound_below_ground, included_ground, both_ground, ground_or_cell, nil_or_cell, ground_tidy, free_tidy, types_proper}
use Rattle.std.proofs.lemmas.Option.{same_Some}
use Rattle.mc_program.specs.PlainPrograms.{no_pred}
use Rattle.mc_program.specs.declared.builtin.Builtin.{Builtin}
use Rattle.mc_program.specs.declared.builtin.Builtin.TheVariants as B

abbrev P : Source
P = list_source

abbrev G : Graph
G = list_insts

-- the insts before the body and at its points
abbrev entry : Insts
entry = entered (0 ∷ 1 ∷ 2 ∷ []) (1 ∷ 1 ∷ 0 ∷ [])

abbrev after_empty : Insts
after_empty = also 2 1 (also 0 4 entry)

abbrev after_take : Insts
after_take = also 4 1 (also 3 1 (also 0 5 entry))

abbrev after_cell : Insts
after_cell = also 2 5 (also 5 1 after_take)

abbrev cell_alone : Insts
cell_alone = entered (0 ∷ 1 ∷ 2 ∷ []) (5 ∷ 1 ∷ 5 ∷ [])

abbrev after_both : Insts
after_both = entered (0 ∷ 1 ∷ 2 ∷ []) (6 ∷ 1 ∷ 1 ∷ [])

abbrev p : Procedure
p = append_procedure det det

abbrev T : ℕ → TypeTerm
T = type_of append_system p

abbrev head : List ℕ
head = 0 ∷ 1 ∷ 2 ∷ []

changed_take : (x : ℕ) → after_take x ≡ change_at x ((0, 5) ∷ (3, 1) ∷ (4, 1) ∷ []) (entry x)
changed_take x =
    ap (cond (nat_eq x 4) 1) (swapped x 3 0 1 5 (entry x) (apart 3 0 refl)) ∙ swapped x 4 0 1 5 (cond (nat_eq x 3) 1 (entry x)) (apart 4 0 refl) ∙ ap (cond (nat_eq x 0) 5) (swapped x 4 3 1 1 (entry x) (apart 4 3 refl))

changed_call : (x : ℕ) → also 5 1 after_take x ≡ change_at x ((0, 5) ∷ (3, 1) ∷ (4, 1) ∷ (5, 1) ∷ []) (entry x)
changed_call x =
    ap (cond (nat_eq x 5) 1) (changed_take x)
    ∙ swapped x 5 0 1 5 (cond (nat_eq x 3) 1 (cond (nat_eq x 4) 1 (entry x))) (apart 5 0 refl)
    ∙ ap (cond (nat_eq x 0) 5) (swapped x 5 3 1 1 (cond (nat_eq x 4) 1 (entry x)) (apart 5 3 refl) ∙ ap (cond (nat_eq x 3) 1) (swapped x 5 4 1 1 (entry x) (apart 5 4 refl)))

changed_cell : (x : ℕ) → after_cell x ≡ change_at x ((0, 5) ∷ (2, 5) ∷ (3, 1) ∷ (4, 1) ∷ (5, 1) ∷ []) (entry x)
changed_cell x = ap (cond (nat_eq x 2) 5) (changed_call x) ∙ swapped x 2 0 5 5 (cond (nat_eq x 3) 1 (cond (nat_eq x 4) 1 (cond (nat_eq x 5) 1 (entry x)))) (apart 2 0 refl)

changed_both : (x : ℕ) → after_both x ≡ change_at x ((0, 6) ∷ (2, 1) ∷ []) (entry x)
changed_both x = by_tests (nat_eq x 0) (nat_eq x 1) (nat_eq x 2)
  where
    by_tests : (s t u : Bool) → ◌≡◌ {A = ℕ} (cond s 6 (cond t 1 (cond u 1 0))) (cond s 6 (cond u 1 (cond s 1 (cond t 1 (cond u 0 0)))))
    by_tests true t u = refl
    by_tests false true true = refl
    by_tests false true false = refl
    by_tests false false true = refl
    by_tests false false false = refl

-- the first arm
empty_is_ordered : OrderedNode append_system T head head entry (F.And (flats (F.Made 0 nil [] ∷ F.Same 2 1 ∷ []))) empty_arm (Some after_empty)
empty_is_ordered =
    kept
    (conj
    (next {c = also 0 4 entry} here
    (kept (take {i = 4} {is = []} (apart 1 0 refl) ((λ e. cc), tt) refl refl) ((λ x. refl), (omega arith, tt), (apart 1 4 refl, tt)))
    (next {c = after_empty} here
    (kept (assign refl (apart 1 0 refl) ((λ e. cc), ((λ e. cc), tt))) ((λ x. refl), (omega arith, tt), (apart 0 1 refl, tt)))
    done)))
    ((λ x. swapped x 2 0 1 4 (entry x) (apart 2 0 refl)), (omega arith, (omega arith, tt)), (apart 1 4 refl, (apart 0 1 refl, tt)))

-- the second arm
cell_is_ordered :
    OrderedNode append_system T head head entry (F.And (flats (F.Made 0 cell (3 ∷ 4 ∷ []) ∷ F.Made 2 cell (3 ∷ 5 ∷ []) ∷ F.Call append (4 ∷ 1 ∷ 5 ∷ []) ∷ []))) cell_arm (Some after_cell)
cell_is_ordered =
    kept
    (conj
    (next {c = after_take} here
    (kept (take {i = 5} {is = 1 ∷ 1 ∷ []} (apart 1 0 refl) ((λ e. cc), ((λ e. cc), ((λ e. cc), tt))) refl refl) (changed_take, (omega arith, (omega arith, (omega arith, tt))), (apart 1 5 refl, (apart 0 1 refl, (apart 0 1 refl, tt)))))
    (next {c = also 5 1 after_take} (there here)
    (kept
    (call {c = also 5 1 after_take} {p = 0} (omega arith)
    ((λ h. (refl, included_ground P (T 4), (λ e. cc))), ((λ h. (refl, included_ground P (T 1), (λ e. cc))), ((λ h. absurd (h refl)), tt)))
    ((λ e. cc), ((λ e. cc), ((λ e. cc), tt)))
    (keeps (apart 1 0 refl) (λ e. cc) (included_ground P (T 4)) (keeps (apart 1 0 refl) (λ e. cc) (included_ground P (T 1)) (output (apart 1 0 refl) refl no_more))))
    ((λ x. refl), (omega arith, tt), (apart 0 1 refl, tt)))
    (next {c = after_cell} here
    (kept (build {i = 5} refl (refl, (refl, tt)) (refl, (refl, tt)) ((λ e. cc), ((λ e. cc), tt)) refl) ((λ x. refl), (omega arith, tt), (apart 0 5 refl, tt)))
    done))))
    (changed_cell, (omega arith, (omega arith, (omega arith, (omega arith, (omega arith, tt))))), (apart 1 5 refl, (apart 0 5 refl, (apart 0 1 refl, (apart 0 1 refl, (apart 0 1 refl, tt))))))

-- by the argument that a variable of the head is
by_head : (Q : ℕ → Type 0) → Q 0 → Q 1 → Q 2 → (x : ℕ) → In x head → Q x
by_head Q a b c x h = ⊎_elim (λ e. subst Q (sym e) a) (λ h. ⊎_elim (λ e. subst Q (sym e) b) (λ h. ⊎_elim (λ e. subst Q (sym e) c) (λ h. absurd h) h) h) h

-- what both give, joined
after_joins : Joined append_system T head entry (after_empty ∷ after_cell ∷ []) (Some after_both)
after_joins x = (
  by_head (λ y. Merged P G (after_empty y ∷ after_cell y ∷ []) (after_both y) (T y)) (nil_or_cell P (T 0)) (both_ground P (T 1)) (ground_or_cell P (T 2)) x,
  (λ out. inl (entered_off head (6 ∷ 1 ∷ 1 ∷ []) x out)),
)

both_changes : KeepsChanges entry (Some after_both) ((0, 6) ∷ (2, 1) ∷ [])
both_changes = (changed_both, (omega arith, (omega arith, tt)), (apart 1 6 refl, (apart 0 1 refl, tt)))

pub goals_are_ordered : OrderedNode append_system T head head entry append_goal append_goals (Some after_both)
goals_are_ordered = kept (disj (either {o = Some after_empty} empty_is_ordered (either {o = Some after_cell} cell_is_ordered no_other)) after_joins) both_changes

body_is_ordered : OrderedNode append_system T head head entry append_goal (append_body det) (Some after_both)
body_is_ordered =
    kept
    (switch (apart 1 0 refl) (inl refl)
    (arm {o = Some after_empty} (to_part (to_rest no_part)) tt (tt, inl (refl, refl)) ((λ e. cc), tt) empty_is_ordered
    (arm {o = Some after_cell} (to_part no_part) tt (tt, inl (refl, refl)) tt cell_is_ordered no_arm))
    after_joins)
    both_changes

pub final_is_met : FinalAfter append_system p (Some after_both)
final_is_met = (bound_below_ground P 6 (nil_listed ∷ cell_listed ∷ []) (T 0) refl (refl, (refl, tt)), (included_ground P (T 1), (included_ground P (T 2), tt)))

pub accepted_append : AcceptedProcedure append_system p
accepted_append =
    record {
      head = refl;
      lengths = (refl, refl);
      after = Some after_both;
      ordered = body_is_ordered;
      final = final_is_met;
      kept = (refl, ((refl, ((refl, tt), ((refl, tt), tt))), ((refl, ((refl, tt), ((refl, tt), ((refl, tt), tt)))), tt)));
      allowed = ((λ h. h), omega arith);
      declared = λ e. absurd (differ e);
      placed = ((tt, (tt, tt)), ((tt, ((λ e. absurd (differ e)), (tt, tt))), tt));
      io = (tt, ((tt, ((tt, tt), ((tt, tt), tt))), ((tt, ((tt, tt), ((tt, tt), ((tt, tt), tt)))), tt)));
    }

-- the system fits
append_fits : FitsProcedure append_system list_parameters p
append_fits =
    record {
      heads = (refl, (refl, tt));
      scopes = (tt, (tt, tt));
      types = λ x. types_proper list_parameters p.var_types x (variable_type x) tt ((refl, (tt, tt)), ((refl, (tt, tt)), ((refl, (tt, tt)), (tt, ((refl, (tt, tt)), ((refl, (tt, tt)), tt))))));
      head_types = refl;
      typed = ((refl, (refl, tt)), ((refl, (refl, ((variable_type, refl), tt))), tt));
      tidy = ((ground_tidy P (T 0), (ground_tidy P (T 1), (free_tidy P (T 2), tt))), (ground_tidy P (T 0), (ground_tidy P (T 1), (ground_tidy P (T 2), tt))));
      no_builtin = refl;
    }

pub insts_fit : FitsInsts G
insts_fit = record { is_free = refl; is_ground = refl; is_unique = refl; is_dead = refl; are_bound = are_bound; proper = proper }
  where
    are_bound : (i : ℕ) → (ls : List Listed) × (G (suc (suc (suc (suc i)))) ≡ bound ls) × NoArgumentFree ls
    are_bound zero = (nil_listed ∷ [], refl, (tt, tt))
    are_bound (suc zero) = (cell_listed ∷ [], refl, (((λ e. cc), ((λ e. cc), tt)), tt))
    are_bound (suc (suc i)) = (nil_listed ∷ cell_listed ∷ [], refl, (tt, (((λ e. cc), ((λ e. cc), tt)), tt)))

    proper : ProperGraph G
    proper zero = tt
    proper (suc zero) = tt
    proper (suc (suc zero)) = tt
    proper (suc (suc (suc zero))) = tt
    proper (suc (suc (suc (suc zero)))) = (refl, tt, tt)
    proper (suc (suc (suc (suc (suc zero))))) = (refl, tt, tt)
    proper (suc (suc (suc (suc (suc (suc i)))))) = (refl, ((λ e f. apart 0 2 refl f), tt), (refl, tt, tt))

types_fit : FitsTypes P list_parameters
types_fit = record { arities = arities; parameters = parameters; arguments = arguments }
  where
    arities : (s : ℕ) → (P.symbols s).name.arity ≡ length (P.symbols s).args
    arities zero = refl
    arities (suc zero) = refl
    arities (suc (suc s)) = refl

    parameters : (s k : ℕ) → list_parameters (P.symbols s).of_type ≡ Some k → In s (P.symbols_of (P.symbols s).of_type) → EachBelow k (P.symbols s).args
    parameters zero k e i = tt
    parameters (suc zero) k e i = let one : ◌≡◌ {A = ℕ} 1 k = same_Some 1 k e in (omega (arith, one), ((omega (arith, one), tt), tt))
    parameters (suc (suc s)) k e i = tt

    arguments : (s k : ℕ) → list_parameters (P.symbols s).of_type ≡ Some k → In s (P.symbols_of (P.symbols s).of_type) → EachProper list_parameters (P.symbols s).args
    arguments zero k e i = tt
    arguments (suc zero) k e i = (tt, ((refl, (tt, tt)), tt))
    arguments (suc (suc s)) k e i = tt

-- there are no builtins
no_builtins : (q : ℕ) (op : Builtin) → (P.preds q).builtin ≡ Some op → ⊥
no_builtins q op = by_test (nat_eq q append)
  where
    by_test : (t : Bool) → (cond t append_pred no_pred).builtin ≡ Some op → ⊥
    by_test true e = cc
    by_test false e = cc

system_fits : Fits append_system list_parameters
system_fits =
    record {
      insts = insts_fit;
      types = types_fit;
      builtins =
          record {
            outputs = λ θ q op vs e. absurd (no_builtins q op e);
            succeeds = λ θ q op vs e. absurd (no_builtins q op e);
            error_throws = λ θ q vs e. absurd (no_builtins q B.Error e);
          };
      io = (
        record { list = 0; result = 1 },
        record {
          named = λ q op e. absurd (no_builtins q op e);
          advances = λ θ q op w vs e. absurd (no_builtins q op e);
          quiet = λ q op vs e. absurd (no_builtins q op e);
        },
      );
      procedures = λ k lt. append_fits;
    }

pub append_is_accepted : AppendIsAccepted
append_is_accepted = ((λ k lt. accepted_append), system_fits, (λ a. differ (ap (λ (d : Det). not d.can_fail) a.kept.0)), (λ a. absurd (omega (arith, a.allowed.1))))
