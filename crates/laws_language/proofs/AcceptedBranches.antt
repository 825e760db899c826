-- A procedure with an if-then-else and one with a negation are accepted; not so where the condition binds a variable that
-- occurs outside it, or where one branch binds such a variable and the other doesn't.
use Rattle.std.proofs.Common.{◌≡◌, inl, inr, ℕ, zero, suc, List, [], ◌∷◌, replicate, Option, Some, None, Bool, true, false, cond, nat_eq, refl, sym, ap, ◌∙◌, subst, arith, ⊎_elim}
use Rattle.std.proofs.lemmas.Bool.{eqb-true}
use Rattle.mc_program.specs.Programs.{TypeTerm, variable_type, Source}
use Rattle.mc_model.specs.Lists.{In, is_in, Apart, Among}
use Rattle.mc_model.specs.Insts as I
use Rattle.mc_model.specs.Insts.{InstNode, Graph}
use Rattle.mc_accepted.specs.Inclusion.{LeastAbove, MergedNodes, Merged}
use Rattle.mc_accepted.specs.Fits.{type_of, FitsProcedure}
use Rattle.mc_model.specs.Flat as F
use Rattle.mc_model.specs.Scheduled.{Node, Nodes}
use Rattle.mc_accepted.specs.Ordered.{Insts, also, change_at, binds_one, take_all, reachable, Joined, is_state, assign, assign_back, test, take, take_never, build, conj, ite, ite_never, neg, some, OrderedNode, OrderedAll, kept, next, done, dropped, implied_outputs}
use Rattle.mc_accepted.specs.Accepted.{entered, Accepted, AcceptedProcedure}
use Rattle.laws_language.specs.code.Examples.{cell}
use Rattle.laws_language.specs.code.ExamplesOfProcedures.{list_parameters, list_insts}
use Rattle.laws_language.specs.code.ExamplesOfBranches.{first_condition, first_then, first_else, first_or_procedure, taken, some_taken, is_empty_procedure, binding_procedure, missing_procedure, branch_source, branch_system, BranchesAreAccepted}
use Rattle.laws_language.proofs.FlatWhole.{is_in_true, in_list}
use Rattle.laws_language.proofs.ListInsts.{swapped, entered_off, apart, differ, included_ground, both_ground, cell_or_ground, ground_tidy, free_tidy, types_proper}

abbrev P : Source
P = branch_source

abbrev G : Graph
G = list_insts

-- lists of numbers without a number in common, and lists of which one holds the other, by a test
abbrev none_in : List ℕ → List ℕ → Bool
none_in [] ys = true
none_in (x ∷ xs) ys = cond (is_in x ys) false (none_in xs ys)

abbrev all_in : List ℕ → List ℕ → Bool
all_in [] ys = true
all_in (x ∷ xs) ys = cond (is_in x ys) (all_in xs ys) false

pub apart_lists : (xs ys : List ℕ) → none_in xs ys ≡ true → Apart xs ys
apart_lists [] ys e x i j = i
apart_lists (y ∷ xs) ys e x i j = by_test (is_in y ys) (in_list y ys) e (λ q. apart_lists xs ys q)
  where
    by_test : (t : Bool) → (In y ys → t ≡ true) → cond t false (none_in xs ys) ≡ true → (none_in xs ys ≡ true → Apart xs ys) → ⊥
    by_test true h q rest = differ q
    by_test false h q rest = ⊎_elim (λ e. differ (h (subst (λ z. In z ys) e j))) (λ k. rest q x k j) i

among_lists : (xs ys : List ℕ) → all_in xs ys ≡ true → Among xs ys
among_lists [] ys e x i = absurd i
among_lists (y ∷ xs) ys e x i = by_test (is_in y ys) (is_in_true y ys) e (λ q. among_lists xs ys q)
  where
    by_test : (t : Bool) → (t ≡ true → In y ys) → cond t (all_in xs ys) false ≡ true → (all_in xs ys ≡ true → Among xs ys) → In x ys
    by_test true h q rest = ⊎_elim (λ e. subst (λ z. In z ys) (sym e) (h refl)) (λ k. rest q x k) i
    by_test false h q rest = absurd (differ q)

-- the if-then-else: the insts before it and at its points
abbrev head : List ℕ
head = 0 ∷ 1 ∷ 2 ∷ []

abbrev first_types : ℕ → TypeTerm
first_types = type_of branch_system first_or_procedure

abbrev entry : Insts
entry = entered head (1 ∷ 1 ∷ 0 ∷ [])

abbrev after_condition : Insts
after_condition = also 4 1 (also 3 1 (also 0 5 entry))

abbrev after_then : Insts
after_then = also 2 1 after_condition

abbrev after_else : Insts
after_else = also 2 1 entry

abbrev after_both : Insts
after_both = entered head (1 ∷ 1 ∷ 1 ∷ [])

changed_condition : (x : ℕ) → after_condition x ≡ change_at x ((0, 5) ∷ (3, 1) ∷ (4, 1) ∷ []) (entry x)
changed_condition x =
    ap (cond (nat_eq x 4) 1) (swapped x 3 0 1 5 (entry x) (apart 3 0 refl)) ∙ swapped x 4 0 1 5 (cond (nat_eq x 3) 1 (entry x)) (apart 4 0 refl) ∙ ap (cond (nat_eq x 0) 5) (swapped x 4 3 1 1 (entry x) (apart 4 3 refl))

changed_both : (x : ℕ) → after_both x ≡ change_at x ((2, 1) ∷ []) (entry x)
changed_both x = by_tests (nat_eq x 0) (nat_eq x 1) (nat_eq x 2) (eqb-true x 0) (eqb-true x 1) (eqb-true x 2)
  where
    by_tests : (s t u : Bool) → (s ≡ true → x ≡ 0) → (t ≡ true → x ≡ 1) → (u ≡ true → x ≡ 2) → ◌≡◌ {A = ℕ} (cond s 1 (cond t 1 (cond u 1 0))) (cond u 1 (cond s 1 (cond t 1 (cond u 0 0))))
    by_tests true t true a b c = refl
    by_tests true t false a b c = refl
    by_tests false true true a b c = refl
    by_tests false true false a b c = refl
    by_tests false false true a b c = refl
    by_tests false false false a b c = refl

by_head : (Q : ℕ → Type 0) → Q 0 → Q 1 → Q 2 → (x : ℕ) → In x head → Q x
by_head Q a b c x h = ⊎_elim (λ e. subst Q (sym e) a) (λ h. ⊎_elim (λ e. subst Q (sym e) b) (λ h. ⊎_elim (λ e. subst Q (sym e) c) (λ h. absurd h) h) h) h

condition_is_ordered : OrderedNode branch_system first_types (0 ∷ 1 ∷ 2 ∷ 0 ∷ 2 ∷ 3 ∷ []) (0 ∷ 1 ∷ 2 ∷ 2 ∷ 3 ∷ []) entry (F.Made 0 cell (3 ∷ 4 ∷ [])) first_condition (Some after_condition)
condition_is_ordered =
    kept (take {i = 5} {is = 1 ∷ 1 ∷ []} (apart 1 0 refl) ((λ e. cc), ((λ e. cc), ((λ e. cc), tt))) refl refl)
    (changed_condition, (omega arith, (omega arith, (omega arith, tt))), (apart 1 5 refl, (apart 0 1 refl, (apart 0 1 refl, tt))))

then_is_ordered : OrderedNode branch_system first_types (0 ∷ 1 ∷ 2 ∷ 0 ∷ 3 ∷ 4 ∷ []) (0 ∷ 1 ∷ 2 ∷ 0 ∷ 3 ∷ 4 ∷ []) after_condition (F.Same 2 3) first_then (Some after_then)
then_is_ordered = kept (assign refl (apart 1 0 refl) ((λ e. cc), ((λ e. cc), tt))) ((λ x. refl), (omega arith, tt), (apart 0 1 refl, tt))

else_is_ordered : OrderedNode branch_system first_types head head entry (F.Same 2 1) first_else (Some after_else)
else_is_ordered = kept (assign refl (apart 1 0 refl) ((λ e. cc), ((λ e. cc), tt))) ((λ x. refl), (omega arith, tt), (apart 0 1 refl, tt))

first_or_is_ordered : OrderedNode branch_system first_types head head entry (F.If (3 ∷ 4 ∷ []) (F.Made 0 cell (3 ∷ 4 ∷ [])) (F.Same 2 3) (F.Same 2 1)) first_or_procedure.body (Some after_both)
first_or_is_ordered =
    kept
    (ite {c = after_condition} {o = Some after_then} {o' = Some after_else} (apart_lists (3 ∷ 4 ∷ []) head refl) condition_is_ordered refl then_is_ordered else_is_ordered
    (λ x. (
      by_head (λ y. Merged P G (after_then y ∷ after_else y ∷ []) (after_both y) (first_types y)) (cell_or_ground P (first_types 0)) (both_ground P (first_types 1)) (both_ground P (first_types 2)) x,
      (λ out. inl (entered_off head (1 ∷ 1 ∷ 1 ∷ []) x out)),
    )))
    (changed_both, (omega arith, tt), (apart 0 1 refl, tt))

accepted_first_or : AcceptedProcedure branch_system first_or_procedure
accepted_first_or =
    record {
      head = refl;
      lengths = (refl, refl);
      after = Some after_both;
      ordered = first_or_is_ordered;
      final = (included_ground P (first_types 0), (included_ground P (first_types 1), (included_ground P (first_types 2), tt)));
      kept = (refl, ((refl, tt), (refl, tt), (refl, tt)));
      allowed = ((λ h. h), omega arith);
      declared = λ e. absurd (differ e);
      placed = (tt, tt, tt);
      io = (tt, (refl, (tt, tt), (tt, tt)));
    }

first_or_fits : FitsProcedure branch_system list_parameters first_or_procedure
first_or_fits =
    record {
      heads = (refl, tt);
      scopes = ((apart_lists (3 ∷ 4 ∷ []) head refl, among_lists (0 ∷ []) head refl, tt, tt, tt), tt);
      types = λ x. types_proper list_parameters first_or_procedure.var_types x (variable_type x) tt ((refl, (tt, tt)), (tt, (tt, (tt, ((refl, (tt, tt)), tt)))));
      head_types = refl;
      typed = (refl, refl, refl);
      tidy = ((ground_tidy P (first_types 0), (ground_tidy P (first_types 1), (free_tidy P (first_types 2), tt))), (ground_tidy P (first_types 0), (ground_tidy P (first_types 1), (ground_tidy P (first_types 2), tt))));
      no_builtin = refl;
    }

-- the negation
abbrev list_types : ℕ → TypeTerm
list_types = type_of branch_system is_empty_procedure

abbrev list_entry : Insts
list_entry = entered (0 ∷ []) (1 ∷ [])

abbrev after_taken : Insts
after_taken = also 2 1 (also 1 1 (also 0 5 list_entry))

changed_taken : (x : ℕ) → after_taken x ≡ change_at x ((0, 5) ∷ (1, 1) ∷ (2, 1) ∷ []) (list_entry x)
changed_taken x =
    ap (cond (nat_eq x 2) 1) (swapped x 1 0 1 5 (list_entry x) (apart 1 0 refl)) ∙ swapped x 2 0 1 5 (cond (nat_eq x 1) 1 (list_entry x)) (apart 2 0 refl) ∙ ap (cond (nat_eq x 0) 5) (swapped x 2 1 1 1 (list_entry x) (apart 2 1 refl))

taken_is_ordered : OrderedNode branch_system list_types (0 ∷ 0 ∷ []) (0 ∷ []) list_entry (F.Made 0 cell (1 ∷ 2 ∷ [])) taken (Some after_taken)
taken_is_ordered =
    kept (take {i = 5} {is = 1 ∷ 1 ∷ []} (apart 1 0 refl) ((λ e. cc), ((λ e. cc), ((λ e. cc), tt))) refl refl)
    (changed_taken, (omega arith, (omega arith, (omega arith, tt))), (apart 1 5 refl, (apart 0 1 refl, (apart 0 1 refl, tt))))

some_taken_is_ordered : OrderedNode branch_system list_types (0 ∷ 0 ∷ []) (0 ∷ []) list_entry (F.Exists (1 ∷ 2 ∷ []) (F.Made 0 cell (1 ∷ 2 ∷ []))) some_taken (Some after_taken)
some_taken_is_ordered =
    kept (some (apart_lists (1 ∷ 2 ∷ []) (0 ∷ 0 ∷ []) refl) taken_is_ordered)
    (changed_taken, (omega arith, (omega arith, (omega arith, tt))), (apart 1 5 refl, (apart 0 1 refl, (apart 0 1 refl, tt))))

is_empty_is_ordered : OrderedNode branch_system list_types (0 ∷ []) (0 ∷ []) list_entry (F.Not (F.Exists (1 ∷ 2 ∷ []) (F.Made 0 cell (1 ∷ 2 ∷ [])))) is_empty_procedure.body (Some list_entry)
is_empty_is_ordered = kept (neg {o = Some after_taken} some_taken_is_ordered refl) ((λ x. refl), tt, tt)

accepted_is_empty : AcceptedProcedure branch_system is_empty_procedure
accepted_is_empty =
    record {
      head = refl;
      lengths = (refl, refl);
      after = Some list_entry;
      ordered = is_empty_is_ordered;
      final = (included_ground P (list_types 0), tt);
      kept = (refl, (refl, (refl, tt)));
      allowed = ((λ h. h), omega arith);
      declared = λ e. absurd (differ e);
      placed = tt;
      io = (tt, refl);
    }

is_empty_fits : FitsProcedure branch_system list_parameters is_empty_procedure
is_empty_fits =
    record {
      heads = (refl, tt);
      scopes = ((among_lists (0 ∷ []) (0 ∷ []) refl, (apart_lists (1 ∷ 2 ∷ []) (0 ∷ []) refl, tt)), tt);
      types = λ x. types_proper list_parameters is_empty_procedure.var_types x (variable_type x) tt ((refl, (tt, tt)), (tt, ((refl, (tt, tt)), tt)));
      head_types = refl;
      typed = refl;
      tidy = ((ground_tidy P (list_types 0), tt), (ground_tidy P (list_types 0), tt));
      no_builtin = refl;
    }

accepted : Accepted branch_system
accepted zero l = accepted_first_or
accepted (suc k) l = accepted_is_empty

-- what a list is taken apart into is bound
both_taken : (is : List ℕ) → replicate {A = ℕ} 2 1 ≡ is → (ys : List ℕ) (b : Insts) → take_all ys is b ≡ take_all ys (1 ∷ 1 ∷ []) b
both_taken is e ys b = ap (λ js. take_all ys js b) (sym e)

binding_has_no_order : (T : ℕ → TypeTerm) (O Q : List ℕ) (n : Node) (o : Option Insts) → OrderedNode branch_system T O Q entry (F.If (3 ∷ []) (F.Made 0 cell (2 ∷ 3 ∷ [])) (F.And F.no_flat) (F.Same 2 1)) n o → ⊥
binding_has_no_order T O Q n o (kept (ite out (kept (build bx bound ns nd over) kc) none t u j) k) = apart 1 0 refl bx
binding_has_no_order T O Q n o (kept (ite out (kept (take {i = i} {is = is} bx nd a over) kc) none t u j) k) =
    differ (sym none ∙ ap (binds_one (0 ∷ 2 ∷ []) entry) (both_taken is a (2 ∷ 3 ∷ []) (also 0 i entry)))
binding_has_no_order T O Q n o (kept (ite_never out (kept (take_never bx nd never) kc) empty u j) k) = never tt

-- an empty conjunction changes nothing
empty_changes_nothing : (T : ℕ → TypeTerm) (O Q : List ℕ) (b : Insts) (ns : Nodes) (o : Option Insts) → OrderedAll branch_system T O Q b F.no_flat ns o → o ≡ Some b
empty_changes_nothing T O Q b ns o done = refl
empty_changes_nothing T O Q b ns o (dropped p h) = elim p [ ]
empty_changes_nothing T O Q b ns o (next p h r) = elim p [ ]
empty_changes_nothing T O Q b ns o (implied_outputs tests p e m f nd d a y u i af kc r) = elim p [ ]

abbrev short_entry : Insts
short_entry = entered (0 ∷ 1 ∷ []) (1 ∷ 0 ∷ [])

-- no inst is merged of one that is `free` and one that isn't
ground_or_free : (N : InstNode) (Q : Type 0) → MergedNodes G (1 ∷ 0 ∷ []) N Q → ⊥
ground_or_free I.free Q h = let e : I.ground ≡ I.free = h.0 in cc
ground_or_free I.ground Q h = h.0.1.0 refl
ground_or_free I.unique Q h = h.0.1.0 refl
ground_or_free I.dead Q h = h.0.1.0 refl
ground_or_free (I.bound ls) Q h = h.0.1.0 refl

after_differ : (T : ℕ → TypeTerm) (b c : Insts) (o : Option Insts) → c 1 ≡ 1 → Joined branch_system T (0 ∷ 1 ∷ []) b (c ∷ short_entry ∷ []) o → ⊥
after_differ T b c None bound j = j
after_differ T b c (Some e) bound j =
    ground_or_free (G (e 1)) (LeastAbove P G (1 ∷ 0 ∷ []) (e 1) (T 1)) (subst (λ i. Merged P G (i ∷ 0 ∷ []) (e 1) (T 1)) bound ((j 1).0 (inr (inl refl))))

branches_differ : (T : ℕ → TypeTerm) (b c : Insts) (o' o : Option Insts) → c 1 ≡ 1 → o' ≡ Some short_entry → Joined branch_system T (0 ∷ 1 ∷ []) b (reachable (Some c ∷ o' ∷ [])) o → ⊥
branches_differ T b c o' o bound e j = after_differ T b c o bound (subst (λ k. Joined branch_system T (0 ∷ 1 ∷ []) b (reachable (Some c ∷ k ∷ [])) o) e j)

-- the insts after the condition of `missing`
abbrev cell_taken : List ℕ → ℕ → Insts
cell_taken is i = take_all (2 ∷ 3 ∷ []) is (also 0 i short_entry)

first_bound : (is : List ℕ) (i : ℕ) → replicate {A = ℕ} 2 1 ≡ is → cell_taken is i 2 ≡ 1
first_bound is i a = ap (λ b. b 2) (both_taken is a (2 ∷ 3 ∷ []) (also 0 i short_entry))

output_free : (is : List ℕ) (i : ℕ) → replicate {A = ℕ} 2 1 ≡ is → cell_taken is i 1 ≡ 0
output_free is i a = ap (λ b. b 1) (both_taken is a (2 ∷ 3 ∷ []) (also 0 i short_entry))

branches_have_no_order : (T : ℕ → TypeTerm) (O O' Q Q' : List ℕ) (b c : Insts) (t u : Node) (o o' o'' : Option Insts) → c 2 ≡ 1 → c 1 ≡ 0 → OrderedNode branch_system T O Q c (F.Same 1 2) t o → OrderedNode branch_system T O' Q' short_entry (F.And F.no_flat) u o' →
    Joined branch_system T (0 ∷ 1 ∷ []) b (reachable (o ∷ o' ∷ [])) o'' → ⊥
branches_have_no_order T O O' Q Q' b c t u o o' o'' bound free (kept (assign cx cy nt) kt) (kept (conj {ns = ns} r) ku) j =
    branches_differ T b (also 1 (c 2) (cond (is_state (T 2)) (also 2 3 c) c)) o' o'' bound (empty_changes_nothing T O' Q' short_entry ns o' r) j
branches_have_no_order T O O' Q Q' b c t u o o' o'' bound free (kept (assign_back cx cy nt) kt) h j = apart 1 0 refl (sym bound ∙ cx)
branches_have_no_order T O O' Q Q' b c t u o o' o'' bound free (kept (test cx cy st nt) kt) h j = cx free

missing_has_no_order : (T : ℕ → TypeTerm) (Q : List ℕ) (n : Node) (o : Option Insts) →
    OrderedNode branch_system T (0 ∷ 1 ∷ []) Q short_entry (F.If (2 ∷ 3 ∷ []) (F.Made 0 cell (2 ∷ 3 ∷ [])) (F.Same 1 2) (F.And F.no_flat)) n o → ⊥
missing_has_no_order T Q n o (kept (ite out (kept (build bx bound ns nd over) kc) none t u j) k) = apart 1 0 refl bx
missing_has_no_order T Q n o (kept (ite {t = t} {u = u} {o = o'} {o' = o''} out (kept (take {i = i} {is = is} bx nd a over) kc) none h k j) kn) =
    branches_have_no_order T _ _ _ _ short_entry (cell_taken is i) t u o' o'' o (first_bound is i a) (output_free is i a) h k j
missing_has_no_order T Q n o (kept (ite_never out (kept (take_never bx nd never) kc) empty u j) k) = never tt

pub branches_are_accepted : BranchesAreAccepted
branches_are_accepted = (accepted, first_or_fits, is_empty_fits, (λ body d a. binding_has_no_order (type_of branch_system (binding_procedure body d)) head head body a.after a.ordered), (λ body d a. missing_has_no_order (type_of branch_system (missing_procedure body d)) (0 ∷ 1 ∷ []) body a.after a.ordered))
