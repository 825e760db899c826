-- Programs that are refused.
use Rattle.std.proofs.Common.{◌≡◌, inl, inr, ℕ, List, [], ◌∷◌, ◌++◌, Option, Some, Bool, true, false, cond, not, ◌&&◌, refl, sym, ap, ap₂, ◌∙◌, subst, arith, ⊎_elim}
use Rattle.std.proofs.lemmas.Option.{none-some, same_Some}
use Rattle.mc_program.specs.Values.{Val, int, char, str, con, state, Vals, no_vals, val_then}
use Rattle.mc_program.specs.Programs.{TypeTerm, no_types, Source}
use Rattle.mc_model.specs.Lists.{In}
use Rattle.mc_model.specs.Types.{OfType, AllOfTypes}
use Rattle.mc_model.specs.Flat as F
use Rattle.mc_model.specs.Flat.{Flat_goals, no_flat, flat_then, flats, variables_of}
use Rattle.mc_model.specs.Stream.{is_bound}
use Rattle.mc_model.specs.Scheduled.{Node, node, Conj, Disj, Apply, Nodes, no_nodes, node_then}
use Rattle.mc_model.specs.Good.{System}
use Rattle.mc_accepted.specs.Ordered.{Insts, also, Mode, modes_of, at_outputs, variables_of_node, implied_places, Freshened, firsts, BindsNone, AfterArguments, OrderedNode, OrderedAll, no_more, not_passed, output, implied, dies, keeps, becomes, put, call, apply, implied_alone, test, conj, disj, either, no_other, neg, some, kept, here, there, done, dropped, next, implied_outputs}
use Rattle.mc_accepted.specs.Inclusion.{Merged}
use Rattle.mc_accepted.specs.Fits.{type_of}
use Rattle.mc_accepted.specs.Accepted.{entered, AcceptedProcedure}
use Rattle.mc_model.specs.Outcomes.{inputs_of}
use Rattle.mc_program.specs.declared.builtin.Builtin.{Builtin}
use Rattle.mc_program.specs.declared.builtin.Builtin.TheVariants as B
use Rattle.laws_language.specs.code.Examples.{cc_nondet}
use Rattle.laws_language.specs.code.ExamplesOfRefusals.{source_of, system_of, two_type, one_procedure, one_system, CommittedWithoutAnswers, pred_of, NumbersPastTheSymbols, sum_preds, bracket, sum_system, one_for_both, one_for_each, FreshVariableTwice, main_procedure, SwitchBehindWriting, all_preds, any_procedure, AllBindsNothing}
use Rattle.laws_language.proofs.FlatGoals.{in_left, in_right}
use Rattle.laws_language.proofs.FlatWhole.{is_in_true}
use Rattle.laws_language.proofs.AcceptedBranches.{apart_lists}
use Rattle.laws_language.proofs.ListInsts.{apart, differ}
use Rattle.laws_language.proofs.Switches.{values_are_listed, accepted_switches_open}

-- a committed determinism without answers
one_is_accepted : AcceptedProcedure (one_system cc_nondet) (one_procedure cc_nondet)
one_is_accepted =
    record {
      head = refl;
      lengths = (refl, refl);
      after = Some (also 0 1 (entered (0 ∷ []) (0 ∷ [])));
      ordered = kept (put refl) ((λ x. refl), (omega arith, tt), (apart 0 1 refl, tt));
      final = ((λ path e a. a), tt);
      kept = (refl, tt);
      allowed = ((λ h. refl), omega arith);
      declared = λ e. refl;
      placed = tt;
      io = (tt, tt);
    }

pub committed_without_answers : CommittedWithoutAnswers
committed_without_answers = (one_is_accepted, (λ a. let e = a.declared refl in cc))

-- numbers past the symbols
abbrev one_type_source : Source
one_type_source = source_of (0 ∷ []) (λ k. pred_of [] 0 [] [])

only_nil : (vs : Vals) → AllOfTypes one_type_source vs (Some []) → vs ≡ no_vals
only_nil no_vals h = refl
only_nil (val_then v vs) h = absurd h

only_a : (v : Val) → OfType one_type_source v two_type → v ≡ con 0 no_vals
only_a (int n) h = let e : false ≡ true = h.1 in cc
only_a (char c) h = let e : false ≡ true = h.1 in cc
only_a (str bytes) h = let e : false ≡ true = h.1 in cc
only_a (state written taken) h = let e : false ≡ true = h.1 in cc
only_a (con s vs) h =
    let e : s ≡ 0 = ⊎_elim (λ e. e) (λ n. absurd n) (values_are_listed one_type_source s 0 vs no_types h) in
    ap₂ (λ k us. con k us) e (only_nil vs (subst (λ k. OfType one_type_source (con k vs) two_type) e h))

pub numbers_past_the_symbols : NumbersPastTheSymbols
numbers_past_the_symbols = (tt, (λ h. h), only_a)

-- a fresh variable that is used twice
abbrev one_sum : System
one_sum = sum_system one_for_both

abbrev sum_types : ℕ → TypeTerm
sum_types = type_of one_sum one_for_both

-- the goals of a conjunction
abbrev inside : Node → Nodes
inside (node (Conj ns) changes det pruned) = ns
inside n = no_nodes

conj_inside : (S : System) (T : ℕ → TypeTerm) (O Q : List ℕ) (b : Insts) (gs : Flat_goals) (n : Node) (o : Option Insts) → OrderedNode S T O Q b (F.And gs) n o → OrderedAll S T O Q b gs (inside n) o
conj_inside S T O Q b gs n o (kept (conj r) k) = r

abbrev IsDisj : Node → Type 0
IsDisj (node (Disj ns) changes det pruned) = Unit {0}
IsDisj n = ⊥

abbrev HasMore : Nodes → Type 0
HasMore no_nodes = ⊥
HasMore (node_then n ns) = Unit {0}

-- a disjunction with a goal behind it
abbrev DisjFirst : Nodes → Type 0
DisjFirst no_nodes = ⊥
DisjFirst (node_then n ns) = IsDisj n × HasMore ns

abbrev first_node : Nodes → Node
first_node no_nodes = node (Conj no_nodes) [] (one_for_both.det) false
first_node (node_then n ns) = n

abbrev rest_of : Nodes → Nodes
rest_of no_nodes = no_nodes
rest_of (node_then n ns) = ns

abbrev outputs_of : Node → List ℕ
outputs_of (node (Apply op xs ys) changes det pruned) = ys
outputs_of n = []

no_call_is_disj : (S : System) (T : ℕ → TypeTerm) (O Q : List ℕ) (b : Insts) (p : ℕ) (xs : List ℕ) (n : Node) (o : Option Insts) → OrderedNode S T O Q b (F.Call p xs) n o → IsDisj n → ⊥
no_call_is_disj S T O Q b p xs n o (kept (call lt us nd af) k) d = d
no_call_is_disj S T O Q b p xs n o (kept (apply e us nd i af) k) d = d
no_call_is_disj S T O Q b p xs n o (kept (implied_alone r) k) d = d

after_disj : (S : System) (T : ℕ → TypeTerm) (O Q : List ℕ) (b : Insts) (ds : Flat_goals) (p : ℕ) (xs : List ℕ) (ns : Nodes) (o : Option Insts) →
    OrderedAll S T O Q b (flat_then (F.Or ds) (flat_then (F.Call p xs) no_flat)) ns o → DisjFirst ns →
    (c : Insts) × OrderedAll S T (O ++ variables_of (F.Or ds)) (Q ++ variables_of_node (first_node ns)) c (flat_then (F.Call p xs) no_flat) (rest_of ns) o
after_disj S T O Q b ds p xs ns o (dropped q h) d = absurd d.1
after_disj S T O Q b ds p xs ns o (next {c = c} here h r) d = (c, r)
after_disj S T O Q b ds p xs ns o (next {n = n} (there here) h r) d = absurd (no_call_is_disj S T _ _ b p xs n _ h d.0)
after_disj S T O Q b ds p xs ns o (next (there (there q)) h r) d = elim q [ ]
after_disj S T O Q b ds p xs ns o (implied_outputs tests q e m f nd u a y w i af kc r) d = absurd d.0

abbrev first_of : List ℕ → ℕ
first_of [] = 0
first_of (x ∷ xs) = x

-- which variable is fresh for the sum's output
seven : (t : Bool) (zs : List ℕ) (tests : List (ℕ × ℕ)) → Freshened 0 (cond t (2 ∷ []) []) (0 ∷ 1 ∷ 2 ∷ []) zs tests → at_outputs (true ∷ true ∷ false ∷ []) zs ≡ 7 ∷ [] → In 7 (firsts tests)
seven true [] tests f e = absurd f
seven true (z ∷ []) tests f e = absurd f.1
seven true (z ∷ y ∷ []) tests f e = absurd f.1.1
seven true (z ∷ y ∷ x ∷ []) [] f e = absurd f.1.1
seven true (z ∷ y ∷ x ∷ []) (pair ∷ tests) f e = inl (sym (ap (λ (t : ℕ × ℕ). t.0) f.1.1.0 ∙ ap (λ l. first_of l) e))
seven true (z ∷ y ∷ x ∷ w ∷ ws) [] f e = absurd f.1.1
seven true (z ∷ y ∷ x ∷ w ∷ ws) (pair ∷ tests) f e = absurd f.1.1.1
seven false [] tests f e = absurd f
seven false (z ∷ []) tests f e = absurd f.1
seven false (z ∷ y ∷ []) tests f e = absurd f.1.1
seven false (z ∷ y ∷ x ∷ []) tests f e = absurd (apart 2 7 refl (sym f.1.1.0 ∙ ap (λ l. first_of l) e))
seven false (z ∷ y ∷ x ∷ w ∷ ws) tests f e = absurd f.1.1.1

is_plus : (op : Builtin) → (sum_preds 9).builtin ≡ Some op → B.IntPlus ≡ op
is_plus op e = same_Some B.IntPlus op e

fresh_seven : (c : Insts) (op : Builtin) (zs : List ℕ) (tests : List (ℕ × ℕ)) → B.IntPlus ≡ op → Freshened 0 (implied_places 0 (modes_of op) (0 ∷ 1 ∷ 2 ∷ []) (λ x. is_bound (c x))) (0 ∷ 1 ∷ 2 ∷ []) zs tests → at_outputs (inputs_of op) zs ≡ 7 ∷ [] → In 7 (firsts tests)
fresh_seven c op zs tests same =
    subst (λ (f : Builtin). Freshened 0 (implied_places 0 (modes_of f) (0 ∷ 1 ∷ 2 ∷ []) (λ x. is_bound (c x))) (0 ∷ 1 ∷ 2 ∷ []) zs tests → at_outputs (inputs_of f) zs ≡ 7 ∷ [] → In 7 (firsts tests)) same
    (seven (is_bound (c 2)) zs tests)

-- the variable is the third argument where it isn't fresh
plus_outputs : (op : Builtin) → B.IntPlus ≡ op → at_outputs (inputs_of op) (0 ∷ 1 ∷ 2 ∷ []) ≡ 7 ∷ [] → ⊥
plus_outputs op same = subst (λ (f : Builtin). at_outputs (inputs_of f) (0 ∷ 1 ∷ 2 ∷ []) ≡ 7 ∷ [] → ⊥) same (λ e. apart 2 7 refl (ap (λ l. first_of l) e))

call_outputs : (O Q : List ℕ) (c : Insts) (p : ℕ) (n : Node) (o : Option Insts) → ((op : Builtin) → (sum_preds p).builtin ≡ Some op → B.IntPlus ≡ op) → OrderedNode one_sum sum_types O Q c (F.Call p (0 ∷ 1 ∷ 2 ∷ [])) n o → outputs_of n ≡ 7 ∷ [] → ⊥
call_outputs O Q c p n o plus (kept (call lt us nd af) k) e = cc
call_outputs O Q c p n o plus (kept (apply {op = op} q us nd i af) k) e = plus_outputs op (plus op q) e
call_outputs O Q c p n o plus (kept (implied_alone r) k) e = cc

seven_is_outside : (O Q : List ℕ) (c : Insts) (ns : Nodes) (o : Option Insts) → OrderedAll one_sum sum_types O Q c (flat_then (F.Call 9 (0 ∷ 1 ∷ 2 ∷ [])) no_flat) ns o → In 7 Q → outputs_of (first_node ns) ≡ 7 ∷ [] → ⊥
seven_is_outside O Q c ns o (dropped {n = n} here h) i e = call_outputs _ _ c 9 n _ is_plus h e
seven_is_outside O Q c ns o (dropped (there q) h) i e = elim q [ ]
seven_is_outside O Q c ns o (next {n = n} here h r) i e = call_outputs _ _ c 9 n _ is_plus h e
seven_is_outside O Q c ns o (next (there q) h r) i e = elim q [ ]
seven_is_outside O Q c ns o (implied_outputs {op = op} {zs = zs} tests here q m f nd d a y u im af kc r) i e =
    a 7 (fresh_seven c op zs tests (is_plus op q) f e) (in_right 7 O _ (in_left 7 Q _ i))
seven_is_outside O Q c ns o (implied_outputs tests (there p) q m f nd d a y u im af kc r) i e = elim p [ ]

abbrev bracket_goals : Flat_goals
bracket_goals = flats (F.And (flats (F.Call 9 (0 ∷ 0 ∷ 1 ∷ []) ∷ F.Same 0 0 ∷ [])) ∷ [])

twice_is_refused : AcceptedProcedure one_sum one_for_both → ⊥
twice_is_refused a =
    let head : List ℕ = 0 ∷ 1 ∷ 2 ∷ [] in
    let before : Insts = entered head (1 ∷ 1 ∷ 1 ∷ []) in
    let goals : Flat_goals = flats (F.Or bracket_goals ∷ F.Call 9 head ∷ []) in
    let all = conj_inside one_sum sum_types head head before goals one_for_both.body a.after a.ordered in
    let rest = after_disj one_sum sum_types head head before bracket_goals 9 head (inside one_for_both.body) a.after all (tt, tt) in
    seven_is_outside (head ++ variables_of (F.Or bracket_goals)) (head ++ variables_of_node (bracket false)) rest.0 (rest_of (inside one_for_both.body)) a.after rest.1 (is_in_true 7 (head ++ variables_of_node (bracket false)) refl) refl

-- with a fresh variable for each sum it is accepted
abbrev two_sums : System
two_sums = sum_system one_for_each

abbrev each_type : ℕ → TypeTerm
each_type = type_of two_sums one_for_each

abbrev three : List ℕ
three = 0 ∷ 1 ∷ 2 ∷ []

abbrev all_in : Insts
all_in = entered three (1 ∷ 1 ∷ 1 ∷ [])

abbrev in_brackets : Insts
in_brackets = also 7 1 all_in

abbrev summed : Insts
summed = also 6 1 all_in

ground_alone : (t : TypeTerm) → Merged two_sums.world.source two_sums.insts (1 ∷ []) 1 t
ground_alone t = (
  ((λ e. cc), tt),
  ((λ e. cc), tt),
  record { above = ((λ path e a. a), tt); least = λ H q h m. m.0 },
)

by_three : (Q : ℕ → Type 0) → Q 0 → Q 1 → Q 2 → (x : ℕ) → In x (three ++ three) → Q x
by_three Q a b c x h =
    ⊎_elim (λ e. subst Q (sym e) a) (λ h. ⊎_elim (λ e. subst Q (sym e) b) (λ h. ⊎_elim (λ e. subst Q (sym e) c)
    (λ h. ⊎_elim (λ e. subst Q (sym e) a) (λ h. ⊎_elim (λ e. subst Q (sym e) b) (λ h. ⊎_elim (λ e. subst Q (sym e) c) (λ h. absurd h) h) h) h) h) h) h

brackets_are_ordered : OrderedNode two_sums each_type (three ++ three) (three ++ (0 ∷ 1 ∷ 6 ∷ 6 ∷ 2 ∷ [])) all_in (F.Or bracket_goals) (bracket true) (Some all_in)
brackets_are_ordered =
    kept
    (disj {os = Some in_brackets ∷ []}
    (either
    (kept
    (conj
    (implied_outputs {c = in_brackets} {op = B.IntPlus} {zs = 0 ∷ 0 ∷ 7 ∷ []} ((7, 1) ∷ []) here refl refl (refl, (refl, (refl, refl))) ((λ e. cc), ((λ e. cc), ((λ e. cc), tt))) ((λ i. i), tt)
    (apart_lists (7 ∷ []) (0 ∷ 1 ∷ 2 ∷ 0 ∷ 1 ∷ 2 ∷ 0 ∷ 1 ∷ 2 ∷ 0 ∷ 1 ∷ 6 ∷ 6 ∷ 2 ∷ 0 ∷ 0 ∷ 1 ∷ 0 ∷ 0 ∷ []) refl) (refl, apart 1 0 refl, apart 1 0 refl, tt)
    ((λ h. (refl, (λ path e a. a), (λ e. cc))), ((λ h. (refl, (λ path e a. a), (λ e. cc))), ((λ h. absurd (h refl)), tt)))
    refl
    (keeps (apart 1 0 refl) (λ e. cc) (λ path e a. a) (keeps (apart 1 0 refl) (λ e. cc) (λ path e a. a) (output (apart 1 0 refl) refl no_more)))
    ((λ x. refl), (omega arith, tt), (apart 0 1 refl, tt))
    (next here (kept (test (apart 1 0 refl) (apart 1 0 refl) refl ((λ e. cc), ((λ e. cc), tt))) ((λ x. refl), tt, tt)) done)))
    ((λ x. refl), (omega arith, tt), (apart 0 1 refl, tt)))
    no_other)
    (λ x. (
      by_three (λ y. Merged two_sums.world.source two_sums.insts (in_brackets y ∷ []) (all_in y) (each_type y)) (ground_alone (each_type 0)) (ground_alone (each_type 1)) (ground_alone (each_type 2)) x,
      (λ out. inr refl),
    )))
    ((λ x. refl), tt, tt)

sums_are_ordered : OrderedNode two_sums each_type three three all_in (F.And (flats (F.Or bracket_goals ∷ F.Call 9 three ∷ []))) one_for_each.body (Some summed)
sums_are_ordered =
    kept
    (conj
    (next here brackets_are_ordered
    (implied_outputs {c = summed} {op = B.IntPlus} {zs = 0 ∷ 1 ∷ 6 ∷ []} ((6, 2) ∷ []) here refl refl (refl, (refl, (refl, refl))) ((λ e. cc), ((λ e. cc), ((λ e. cc), tt))) ((λ i. i), tt)
    (apart_lists (6 ∷ []) (0 ∷ 1 ∷ 2 ∷ 0 ∷ 0 ∷ 1 ∷ 0 ∷ 0 ∷ 0 ∷ 1 ∷ 2 ∷ 0 ∷ 0 ∷ 7 ∷ 7 ∷ 1 ∷ 0 ∷ 0 ∷ 0 ∷ 1 ∷ 2 ∷ []) refl) (refl, apart 1 0 refl, apart 1 0 refl, tt)
    ((λ h. (refl, (λ path e a. a), (λ e. cc))), ((λ h. (refl, (λ path e a. a), (λ e. cc))), ((λ h. absurd (h refl)), tt)))
    refl
    (keeps (apart 1 0 refl) (λ e. cc) (λ path e a. a) (keeps (apart 1 0 refl) (λ e. cc) (λ path e a. a) (output (apart 1 0 refl) refl no_more)))
    ((λ x. refl), (omega arith, tt), (apart 0 1 refl, tt)) done)))
    ((λ x. refl), (omega arith, tt), (apart 0 1 refl, tt))

each_is_accepted : AcceptedProcedure two_sums one_for_each
each_is_accepted =
    record {
      head = refl;
      lengths = (refl, refl);
      after = Some summed;
      ordered = sums_are_ordered;
      final = ((λ path e a. a), ((λ path e a. a), ((λ path e a. a), tt)));
      kept = (refl, ((refl, ((refl, ((refl, tt), ((refl, tt), ((refl, tt), tt)))), tt)), ((refl, tt), ((refl, tt), tt))));
      allowed = ((λ h. h), omega arith);
      declared = λ e. absurd (differ e);
      placed = (((tt, (tt, (tt, tt))), tt), (tt, (tt, tt)));
      io = (tt, ((tt, ((λ e f. absurd (differ f)), ((tt, ((tt, tt), ((tt, tt), ((tt, tt), tt)))), tt))), ((tt, tt), ((tt, tt), tt))));
    }

pub fresh_variable_twice : FreshVariableTwice
fresh_variable_twice = (twice_is_refused, each_is_accepted)

-- a switch behind a goal that writes
pub switch_behind_writing : SwitchBehindWriting
switch_behind_writing a = (accepted_switches_open _ main_procedure a).1.0.2.0.0

-- a negation that binds a variable that its quantifier names
abbrev all_system : System
all_system = system_of (source_of [] all_preds) any_procedure

nothing_after : (S : System) (Ts : ℕ → TypeTerm) (is_there : ℕ → Bool) (b c : Insts) → AfterArguments S Ts is_there [] [] b c → c ≡ b
nothing_after S Ts is_there b c no_more = refl

after_output : (S : System) (T : ℕ → TypeTerm) (is_there : ℕ → Bool) (b c : Insts) (m : Mode) → AfterArguments S T is_there (m ∷ []) (0 ∷ []) b c → m.0 ≡ 0 → m.1 ≡ 1 → is_there 0 ≡ false → is_bound (c 0) ≡ true
after_output S T is_there b c m (not_passed r) e f n = absurd (apart 0 1 refl f)
after_output S T is_there b c m (output {l = l} nl ni r) e f n = ap (λ (d : Insts). is_bound (d 0)) (nothing_after S T _ (also 0 l b) c r) ∙ ap is_bound f
after_output S T is_there b c m (implied nl ni r) e f n = absurd (differ (sym n ∙ ni))
after_output S T is_there b c m (dies ni d r) e f n = absurd (ni e)
after_output S T is_there b c m (keeps ni d i r) e f n = absurd (ni e)
after_output S T is_there b c m (becomes ni d i r) e f n = absurd (ni e)

then_binds : (s t : Bool) → s ≡ false → t ≡ true → cond (not s && t) true false ≡ false → ⊥
then_binds true t e f g = differ (sym e)
then_binds false true e f g = differ (sym g)
then_binds false false e f g = differ f

nothing_more : (S : System) (T : ℕ → TypeTerm) (O Q : List ℕ) (b : Insts) (ns : Nodes) (o : Option Insts) → OrderedAll S T O Q b no_flat ns o → HasMore ns → ⊥
nothing_more S T O Q b ns o done h = h
nothing_more S T O Q b ns o (dropped p n) h = elim p [ ]
nothing_more S T O Q b ns o (next p n r) h = elim p [ ]
nothing_more S T O Q b ns o (implied_outputs tests p e m f nd d a y u i af kc r) h = elim p [ ]

abbrev HasTwo : Nodes → Type 0
HasTwo no_nodes = ⊥
HasTwo (node_then n ns) = HasMore ns

alone_is_one : (T : ℕ → TypeTerm) (O Q : List ℕ) (b : Insts) (q : ℕ) (xs : List ℕ) (ns : Nodes) (o : Option Insts) → ((op : Builtin) → (all_preds q).builtin ≡ Some op → ⊥) →
    OrderedAll all_system T O Q b (flat_then (F.Call q xs) no_flat) ns o → HasTwo ns → ⊥
alone_is_one T O Q b q xs ns o none (dropped p n) h = h
alone_is_one T O Q b q xs ns o none (next {ns = ms} here n r) h = nothing_more all_system T _ _ _ ms o r h
alone_is_one T O Q b q xs ns o none (next (there p) n r) h = elim p [ ]
alone_is_one T O Q b q xs ns o none (implied_outputs {op = op} tests here e m f nd d a y u i af kc r) h = none op e
alone_is_one T O Q b q xs ns o none (implied_outputs tests (there p) e m f nd d a y u i af kc r) h = elim p [ ]

call_binds : (T : ℕ → TypeTerm) (O Q : List ℕ) (b : Insts) (q : ℕ) (xs : List ℕ) (n : Node) (o : Option Insts) → ((op : Builtin) → (all_preds q).builtin ≡ Some op → ⊥) → xs ≡ 0 ∷ [] → b 0 ≡ 0 →
    OrderedNode all_system T O Q b (F.Call q xs) n o → BindsNone (0 ∷ []) b o → ⊥
call_binds T O Q b q xs n o none e free (kept (call {c = c} lt us nd af) k) bn =
    then_binds (is_bound (b 0)) (is_bound (c 0)) (ap is_bound free)
    (after_output all_system T (λ x. is_bound (b x)) b c (0, 1) (subst (λ ys. AfterArguments all_system T (λ x. is_bound (b x)) ((0, 1) ∷ []) ys b c) e af) refl refl (ap is_bound free)) bn
call_binds T O Q b q xs n o none e free (kept (apply {op = op} f us nd i af) k) bn = none op f
call_binds T O Q b q xs n o none e free (kept (implied_alone {n = n1} {m = n2} {ns = ns} r) k) bn = alone_is_one T O Q b q xs (node_then n1 (node_then n2 ns)) o none r tt

all_has_no_order : (T : ℕ → TypeTerm) (O Q : List ℕ) (b : Insts) (n : Node) (o : Option Insts) → b 0 ≡ 0 → OrderedNode all_system T O Q b (F.Not (F.Exists (0 ∷ []) (F.Not (F.Call 0 (0 ∷ []))))) n o → ⊥
all_has_no_order T O Q b n o free (kept (neg (kept (some out (kept (neg h none) k1)) k2) none') k3) = call_binds T _ _ b 0 (0 ∷ []) _ _ (λ op e. none-some op e) refl free h none

pub all_binds_nothing : AllBindsNothing
all_binds_nothing body d a = all_has_no_order _ [] [] _ body a.after refl a.ordered
