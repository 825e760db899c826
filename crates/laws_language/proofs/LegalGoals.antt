-- Procedures of less common forms are accepted.
use Rattle.std.proofs.Common.{◌≡◌, ◌≢◌, inl, ℕ, List, [], ◌∷◌, Some, Bool, true, false, cond, nat_eq, refl, sym, ap, ◌∙◌, subst, arith, ⊎_elim}
use Rattle.mc_program.specs.Programs.{TypeTerm, Source}
use Rattle.mc_model.specs.Lists.{In}
use Rattle.mc_model.specs.Insts.{Graph}
use Rattle.mc_model.specs.Good.{System}
use Rattle.mc_model.specs.Flat as F
use Rattle.mc_model.specs.Flat.{Flat_goal, flats}
use Rattle.mc_program.specs.Values.{int}
use Rattle.std.specs.Prelude.{pos}
use Rattle.mc_accepted.specs.Inclusion.{Merged}
use Rattle.mc_accepted.specs.Ordered.{Insts, also, change_at, here, no_part, to_part, to_rest, keeps, output, no_more, take, put, call, apply, implied_alone, conj, disj, switch, ite, neg, some, OrderedNode, kept, next, done, implied_outputs, either, no_other, arm, no_arm}
use Rattle.mc_accepted.specs.Scope.{ClauseHasScopes}
use Rattle.mc_accepted.specs.Fits.{type_of}
use Rattle.mc_accepted.specs.Accepted.{entered, AcceptedProcedure}
use Rattle.laws_language.specs.code.Examples.{nil, cell}
use Rattle.laws_language.specs.code.ExamplesOfGoals.{plus}
use Rattle.laws_language.specs.code.ExamplesOfLists.{member_of}
use Rattle.laws_language.specs.code.ExamplesOfProcedures.{list_insts, nil_listed, cell_listed}
use Rattle.laws_language.specs.code.ExamplesOfLegalGoals.{lists_with, has_preds, has_procedure, differs_preds, differs_procedure, BuiltinAlone, len_preds, len_empty, len_changes, len_goals, len_cell, len_procedure, SwitchThroughSome, some_preds, some_procedure, BranchesUnderSome, negations_clause, negations_procedure, negations_system, NegationInNegation}
use Rattle.mc_program.specs.declared.builtin.Builtin.TheVariants as B
use Rattle.laws_language.proofs.AcceptedBranches.{apart_lists}
use Rattle.laws_language.proofs.ListInsts.{swapped, entered_off, apart, differ, bound_below_ground, included_ground, both_ground, nil_or_cell}

-- a change behind others, of other variables, is the last of them
abbrev OtherThan : ℕ → List (ℕ × ℕ) → Type 0
OtherThan a [] = Unit {0}
OtherThan a (change ∷ changes) = (a ≢ change.0) × OtherThan a changes

pushed : (x a p : ℕ) (changes : List (ℕ × ℕ)) (i : ℕ) → OtherThan a changes → cond (nat_eq x a) p (change_at x changes i) ≡ change_at x changes (cond (nat_eq x a) p i)
pushed x a p [] i n = refl
pushed x a p (change ∷ changes) i n = swapped x a change.0 p change.1 (change_at x changes i) n.0 ∙ ap (cond (nat_eq x change.0) change.1) (pushed x a p changes i n.1)

-- by the argument that a variable of the head is
by_two : (Q : ℕ → Type 0) → Q 0 → Q 1 → (x : ℕ) → In x (0 ∷ 1 ∷ []) → Q x
by_two Q a b x h = ⊎_elim (λ e. subst Q (sym e) a) (λ h. ⊎_elim (λ e. subst Q (sym e) b) (λ h. absurd h) h) h

-- the second of two head variables gets a value
changed_second : (i j x : ℕ) → entered (0 ∷ 1 ∷ []) (i ∷ 1 ∷ []) x ≡ change_at x ((0, i) ∷ (1, 1) ∷ []) (entered (0 ∷ 1 ∷ []) (j ∷ 0 ∷ []) x)
changed_second i j x = by_tests (nat_eq x 0) (nat_eq x 1)
  where
    by_tests : (s t : Bool) → ◌≡◌ {A = ℕ} (cond s i (cond t 1 0)) (cond s i (cond t 1 (cond s j (cond t 0 0))))
    by_tests true t = refl
    by_tests false true = refl
    by_tests false false = refl

same_second : (x : ℕ) → entered (0 ∷ 1 ∷ []) (1 ∷ 1 ∷ []) x ≡ change_at x ((1, 1) ∷ []) (entered (0 ∷ 1 ∷ []) (1 ∷ 0 ∷ []) x)
same_second x = by_tests (nat_eq x 0) (nat_eq x 1)
  where
    by_tests : (s t : Bool) → ◌≡◌ {A = ℕ} (cond s 1 (cond t 1 0)) (cond t 1 (cond s 1 (cond t 0 0)))
    by_tests true true = refl
    by_tests true false = refl
    by_tests false true = refl
    by_tests false false = refl

abbrev G : Graph
G = list_insts

abbrev two : List ℕ
two = 0 ∷ 1 ∷ []

abbrev entry : Insts
entry = entered two (1 ∷ 0 ∷ [])

-- a condition's own variables
abbrev has_system : System
has_system = lists_with has_preds member_of

abbrev has_types : ℕ → TypeTerm
has_types = type_of has_system has_procedure

abbrev P : Source
P = has_system.world.source

abbrev found : Insts
found = also 2 1 entry

has_is_ordered : OrderedNode has_system has_types two two entry (F.If (2 ∷ []) (F.Call 0 (2 ∷ 0 ∷ [])) (F.Is 1 (int (pos 1))) (F.Is 1 (int (pos 2)))) has_procedure.body (Some (entered two (1 ∷ 1 ∷ [])))
has_is_ordered =
    kept
    (ite {c = found} {o = Some (also 1 1 found)} {o' = Some (also 1 1 entry)} (apart_lists (2 ∷ []) two refl)
    (kept
    (call {c = found} {p = 0} (omega arith) ((λ h. absurd (h refl)), ((λ h. (refl, included_ground P (has_types 0), (λ e. cc))), tt)) ((λ e. cc), ((λ e. cc), tt))
    (output (apart 1 0 refl) refl (keeps (apart 1 0 refl) (λ e. cc) (included_ground P (has_types 0)) no_more)))
    ((λ x. refl), (omega arith, tt), (apart 0 1 refl, tt)))
    refl
    (kept (put refl) ((λ x. refl), (omega arith, tt), (apart 0 1 refl, tt)))
    (kept (put refl) ((λ x. refl), (omega arith, tt), (apart 0 1 refl, tt)))
    (λ x. (
      by_two (λ y. Merged P G (also 1 1 found y ∷ also 1 1 entry y ∷ []) (entered two (1 ∷ 1 ∷ []) y) (has_types y)) (both_ground P (has_types 0)) (both_ground P (has_types 1)) x,
      (λ out. inl (entered_off two (1 ∷ 1 ∷ []) x out)),
    )))
    (same_second, (omega arith, tt), (apart 0 1 refl, tt))

pub has_is_accepted : AcceptedProcedure has_system has_procedure
has_is_accepted =
    record {
      head = refl;
      lengths = (refl, refl);
      after = Some (entered two (1 ∷ 1 ∷ []));
      ordered = has_is_ordered;
      final = (included_ground P (has_types 0), (included_ground P (has_types 1), tt));
      kept = (refl, ((refl, tt), (refl, tt), (refl, tt)));
      allowed = ((λ h. h), omega arith);
      declared = λ e. absurd (differ e);
      placed = ((λ e. absurd (differ e)), tt, tt);
      io = (tt, (refl, (tt, tt), (tt, tt)));
    }

-- a builtin alone with an implied output
abbrev differs_system : System
differs_system = lists_with differs_preds differs_procedure

abbrev ints_of : ℕ → TypeTerm
ints_of = type_of differs_system differs_procedure

abbrev three : List ℕ
three = 0 ∷ 1 ∷ 2 ∷ []

abbrev all_in : Insts
all_in = entered three (1 ∷ 1 ∷ 1 ∷ [])

abbrev summed : Insts
summed = also 3 1 all_in

differs_is_ordered : OrderedNode differs_system ints_of three three all_in (F.Not (F.Call plus (1 ∷ 2 ∷ 0 ∷ []))) differs_procedure.body (Some all_in)
differs_is_ordered =
    kept
    (neg {o = Some summed}
    (kept
    (implied_alone
    (implied_outputs {c = summed} {op = B.IntPlus} {zs = 1 ∷ 2 ∷ 3 ∷ []} ((3, 0) ∷ []) here refl refl (refl, (refl, (refl, refl))) ((λ e. cc), ((λ e. cc), ((λ e. cc), tt))) ((λ i. i), tt)
    (apart_lists (3 ∷ []) (0 ∷ 1 ∷ 2 ∷ 1 ∷ 2 ∷ 0 ∷ 0 ∷ 1 ∷ 2 ∷ 1 ∷ 2 ∷ 0 ∷ []) refl) (refl, apart 1 0 refl, apart 1 0 refl, tt)
    ((λ h. (refl, included_ground (differs_system.world.source) (ints_of 1), (λ e. cc))), ((λ h. (refl, included_ground (differs_system.world.source) (ints_of 2), (λ e. cc))), ((λ h. absurd (h refl)), tt)))
    refl
    (keeps (apart 1 0 refl) (λ e. cc) (included_ground (differs_system.world.source) (ints_of 1))
    (keeps (apart 1 0 refl) (λ e. cc) (included_ground (differs_system.world.source) (ints_of 2)) (output (apart 1 0 refl) refl no_more)))
    ((λ x. refl), (omega arith, tt), (apart 0 1 refl, tt)) done))
    ((λ x. refl), (omega arith, tt), (apart 0 1 refl, tt)))
    refl)
    ((λ x. refl), tt, tt)

pub builtin_alone : BuiltinAlone
builtin_alone =
    let below = included_ground (differs_system.world.source) in
    record {
      head = refl;
      lengths = (refl, refl);
      after = Some all_in;
      ordered = differs_is_ordered;
      final = (below (ints_of 0), (below (ints_of 1), (below (ints_of 2), tt)));
      kept = (refl, (refl, ((refl, tt), ((refl, tt), tt))));
      allowed = ((λ h. h), omega arith);
      declared = λ e. absurd (differ e);
      placed = (tt, (tt, tt));
      io = (tt, refl);
    }

-- a switch through a quantifier
abbrev len_system : System
len_system = lists_with len_preds len_procedure

abbrev len_types : ℕ → TypeTerm
len_types = type_of len_system len_procedure

abbrev L : Source
L = len_system.world.source

abbrev emptied : Insts
emptied = also 1 1 (also 0 4 entry)

abbrev taken : Insts
taken = also 3 1 (also 2 1 (also 0 5 entry))

abbrev called : Insts
called = also 4 1 taken

abbrev one_made : Insts
one_made = also 5 1 called

abbrev added : Insts
added = also 1 1 one_made

changed_taken : (x : ℕ) → taken x ≡ change_at x ((0, 5) ∷ (2, 1) ∷ (3, 1) ∷ []) (entry x)
changed_taken x =
    ap (cond (nat_eq x 3) 1) (pushed x 2 1 ((0, 5) ∷ []) (entry x) (apart 2 0 refl, tt))
    ∙ pushed x 3 1 ((0, 5) ∷ (2, 1) ∷ []) (entry x) (apart 3 0 refl, (apart 3 2 refl, tt))

changed_one : (x : ℕ) → one_made x ≡ change_at x ((0, 5) ∷ (2, 1) ∷ (3, 1) ∷ (4, 1) ∷ (5, 1) ∷ []) (entry x)
changed_one x =
    ap (cond (nat_eq x 5) 1)
    (ap (cond (nat_eq x 4) 1) (changed_taken x) ∙ pushed x 4 1 ((0, 5) ∷ (2, 1) ∷ (3, 1) ∷ []) (entry x) (apart 4 0 refl, (apart 4 2 refl, (apart 4 3 refl, tt))))
    ∙ pushed x 5 1 ((0, 5) ∷ (2, 1) ∷ (3, 1) ∷ (4, 1) ∷ []) (entry x) (apart 5 0 refl, (apart 5 2 refl, (apart 5 3 refl, (apart 5 4 refl, tt))))

changed_added : (x : ℕ) → added x ≡ change_at x len_changes (entry x)
changed_added x = ap (cond (nat_eq x 1) 1) (changed_one x) ∙ swapped x 1 0 1 5 (change_at x ((2, 1) ∷ (3, 1) ∷ (4, 1) ∷ (5, 1) ∷ []) (entry x)) (apart 1 0 refl)

abbrev len_second : Flat_goal
len_second = F.And (flats (F.Made 0 cell (2 ∷ 3 ∷ []) ∷ F.Call 0 (3 ∷ 4 ∷ []) ∷ F.Is 5 (int (pos 1)) ∷ F.Call plus (4 ∷ 5 ∷ 1 ∷ []) ∷ []))

empty_is_ordered : OrderedNode len_system len_types two two entry (F.And (flats (F.Made 0 nil [] ∷ F.Is 1 (int (pos 0)) ∷ []))) len_empty (Some emptied)
empty_is_ordered =
    kept
    (conj
    (next {c = also 0 4 entry} here (kept (take {i = 4} {is = []} (apart 1 0 refl) ((λ e. cc), tt) refl refl) ((λ x. refl), (omega arith, tt), (apart 1 4 refl, tt)))
    (next {c = emptied} here (kept (put refl) ((λ x. refl), (omega arith, tt), (apart 0 1 refl, tt))) done)))
    ((λ x. pushed x 1 1 ((0, 4) ∷ []) (entry x) (apart 1 0 refl, tt)), (omega arith, (omega arith, tt)), (apart 1 4 refl, (apart 0 1 refl, tt)))

goals_are_ordered : OrderedNode len_system len_types two two entry len_second len_goals (Some added)
goals_are_ordered =
    kept
    (conj
    (next {c = taken} here
    (kept (take {i = 5} {is = 1 ∷ 1 ∷ []} (apart 1 0 refl) ((λ e. cc), ((λ e. cc), ((λ e. cc), tt))) refl refl) (changed_taken, (omega arith, (omega arith, (omega arith, tt))), (apart 1 5 refl, (apart 0 1 refl, (apart 0 1 refl, tt)))))
    (next {c = called} here
    (kept
    (call {c = called} {p = 0} (omega arith) ((λ h. (refl, included_ground L (len_types 3), (λ e. cc))), ((λ h. absurd (h refl)), tt)) ((λ e. cc), ((λ e. cc), tt))
    (keeps (apart 1 0 refl) (λ e. cc) (included_ground L (len_types 3)) (output (apart 1 0 refl) refl no_more)))
    ((λ x. refl), (omega arith, tt), (apart 0 1 refl, tt)))
    (next {c = one_made} here (kept (put refl) ((λ x. refl), (omega arith, tt), (apart 0 1 refl, tt)))
    (next {c = added} here
    (kept
    (apply {c = added} {op = B.IntPlus} refl
    ((λ h. (refl, included_ground L (len_types 4), (λ e. cc))), ((λ h. (refl, included_ground L (len_types 5), (λ e. cc))), ((λ h. absurd (h refl)), tt)))
    ((λ e. cc), ((λ e. cc), ((λ e. cc), tt))) refl
    (keeps (apart 1 0 refl) (λ e. cc) (included_ground L (len_types 4))
    (keeps (apart 1 0 refl) (λ e. cc) (included_ground L (len_types 5)) (output (apart 1 0 refl) refl no_more))))
    ((λ x. refl), (omega arith, tt), (apart 0 1 refl, tt)))
    done)))))
    (changed_added, (omega arith, (omega arith, (omega arith, (omega arith, (omega arith, (omega arith, tt)))))), (apart 1 5 refl, (apart 0 1 refl, (apart 0 1 refl, (apart 0 1 refl, (apart 0 1 refl, (apart 0 1 refl, tt)))))))

cell_is_ordered : OrderedNode len_system len_types two two entry (F.Exists (5 ∷ []) len_second) len_cell (Some added)
cell_is_ordered =
    kept (some (apart_lists (5 ∷ []) two refl) goals_are_ordered)
    (changed_added, (omega arith, (omega arith, (omega arith, (omega arith, (omega arith, (omega arith, tt)))))), (apart 1 5 refl, (apart 0 1 refl, (apart 0 1 refl, (apart 0 1 refl, (apart 0 1 refl, (apart 0 1 refl, tt)))))))

len_is_ordered : OrderedNode len_system len_types two two entry (F.Or (flats (F.And (flats (F.Made 0 nil [] ∷ F.Is 1 (int (pos 0)) ∷ [])) ∷ F.Exists (5 ∷ []) len_second ∷ []))) len_procedure.body (Some (entered two (6 ∷ 1 ∷ [])))
len_is_ordered =
    kept
    (switch (apart 1 0 refl) (inl refl)
    (arm {o = Some emptied} (to_part (to_rest no_part)) tt (tt, inl (refl, refl)) ((λ e. cc), tt) empty_is_ordered
    (arm {o = Some added} (to_part no_part) tt (tt, inl (refl, refl)) tt cell_is_ordered no_arm))
    (λ x. (
      by_two (λ y. Merged L G (emptied y ∷ added y ∷ []) (entered two (6 ∷ 1 ∷ []) y) (len_types y)) (nil_or_cell L (len_types 0)) (both_ground L (len_types 1)) x,
      (λ out. inl (entered_off two (6 ∷ 1 ∷ []) x out)),
    )))
    (changed_second 6 1, (omega arith, (omega arith, tt)), (apart 1 6 refl, (apart 0 1 refl, tt)))

pub switch_through_some : SwitchThroughSome
switch_through_some =
    record {
      head = refl;
      lengths = (refl, refl);
      after = Some (entered two (6 ∷ 1 ∷ []));
      ordered = len_is_ordered;
      final = (bound_below_ground L 6 (nil_listed ∷ cell_listed ∷ []) (len_types 0) refl (refl, (refl, tt)), (included_ground L (len_types 1), tt));
      kept = (refl, ((refl, ((refl, tt), ((refl, tt), tt))), ((refl, (refl, ((refl, tt), ((refl, tt), ((refl, tt), ((refl, tt), tt)))))), tt)));
      allowed = ((λ h. h), omega arith);
      declared = λ e. absurd (differ e);
      placed = ((tt, (tt, tt)), ((tt, ((λ e. absurd (differ e)), (tt, (tt, tt)))), tt));
      io = (tt, ((tt, ((tt, tt), ((tt, tt), tt))), ((tt, (tt, ((tt, tt), ((tt, tt), ((tt, tt), ((tt, tt), tt)))))), tt)));
    }

-- branches under a quantifier
abbrev some_system : System
some_system = lists_with some_preds some_procedure

abbrev nothing_bound : Insts
nothing_bound = λ x. 0

pub branches_under_some : BranchesUnderSome
branches_under_some =
    record {
      head = refl;
      lengths = (refl, refl);
      after = Some nothing_bound;
      ordered =
          kept
          (some (apart_lists (0 ∷ []) [] refl)
          (kept
          (disj
          (either {o = Some (also 0 1 nothing_bound)} (kept (put refl) ((λ x. refl), (omega arith, tt), (apart 0 1 refl, tt)))
          (either {o = Some nothing_bound} (kept (conj done) ((λ x. refl), tt, tt)) no_other))
          (λ x. ((λ i. absurd i), (λ out. inl refl))))
          ((λ x. refl), tt, tt)))
          ((λ x. refl), tt, tt);
      final = tt;
      kept = (refl, (refl, ((refl, tt), ((refl, tt), tt))));
      allowed = ((λ h. h), omega arith);
      declared = λ e. absurd (differ e);
      placed = (tt, (tt, tt));
      io = (tt, (tt, ((λ e f. absurd (differ f)), ((tt, tt), ((tt, tt), tt)))));
    }

-- negations in a negation
negations_have_scopes : ClauseHasScopes negations_clause
negations_have_scopes = ((λ x i. i), ((λ x i j. j), (((λ x i. absurd i), ((λ x i j. j), tt)), (tt, tt))))

negations_are_accepted : AcceptedProcedure negations_system negations_procedure
negations_are_accepted =
    record {
      head = refl;
      lengths = (refl, refl);
      after = Some nothing_bound;
      ordered =
          kept
          (neg {o = Some nothing_bound}
          (kept
          (some (apart_lists (0 ∷ []) [] refl)
          (kept
          (disj
          (either {o = Some nothing_bound}
          (kept
          (neg {o = Some (also 0 1 nothing_bound)}
          (kept
          (some (apart_lists (0 ∷ []) [] refl)
          (kept (call {c = also 0 1 nothing_bound} {p = 0} (omega arith) ((λ h. absurd (h refl)), tt) ((λ e. cc), tt) (output (apart 1 0 refl) refl no_more)) ((λ x. refl), (omega arith, tt), (apart 0 1 refl, tt))))
          ((λ x. refl), (omega arith, tt), (apart 0 1 refl, tt)))
          refl)
          ((λ x. refl), tt, tt))
          (either {o = Some (also 0 1 nothing_bound)} (kept (call {c = also 0 1 nothing_bound} {p = 1} (omega arith) ((λ h. absurd (h refl)), tt) ((λ e. cc), tt) (output (apart 1 0 refl) refl no_more)) ((λ x. refl), (omega arith, tt), (apart 0 1 refl, tt)))
          no_other))
          (λ x. ((λ i. absurd i), (λ out. inl refl))))
          ((λ x. refl), tt, tt)))
          ((λ x. refl), tt, tt))
          refl)
          ((λ x. refl), tt, tt);
      final = tt;
      kept = (refl, (refl, (refl, ((refl, (refl, (refl, tt))), ((refl, tt), tt)))));
      allowed = ((λ h. h), omega arith);
      declared = λ e. absurd (differ e);
      placed = ((λ e. absurd (differ e)), ((λ e. absurd (differ e)), tt));
      io = (tt, refl);
    }

pub negation_in_negation : NegationInNegation
negation_in_negation = (refl, negations_have_scopes, negations_are_accepted, (refl, refl), (refl, refl))
