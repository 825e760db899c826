use Rattle.std.proofs.Common.{◌≡◌, ◌⊎◌, inl, inr, ⊎_elim, ℕ, zero, suc, List, [], ◌∷◌, Option, Some, None, refl, sym, subst, ap, ap₂, ◌∙◌, arith}
use Rattle.mc_model.specs.declared.inst.InstRef.{InstRef}
use Rattle.mc_model.specs.declared.inst.InstRef.TheVariants.{Old, New}
use Rattle.mc_accepted.specs.InstRules.{LeadsTo, at_once, by_another, PlainInstDef, same_inst, definition_at, named_by, StandsFor, that_node, another_name, parameter, inst_node, defined, bound_over, Bodies, InstTerm, InstTerms, no_insts, inst_then, inst_at, over, each_over, Mentions, Reaches, in_body, in_body_of, ComesTo, at_that, by_definition, OneIs, PutsInside, listed, given, in_listed, in_given}
use Rattle.mc_program.specs.Programs.{int_type, state_type}
use Rattle.mc_accepted.specs.Tidy.{Tidy}
use Rattle.laws_accepted.specs.code.Examples.{source, graph}
use Rattle.laws_accepted.specs.code.ExamplesOfInsts.{boxed, in_a_ring, boxes_of, box_of, cells_of, list, one, named, f_and_a, f_of, a, its_parameter, x_of_it, c_of_it}
use Rattle.laws_accepted.proofs.examples.insts.Goals as goal

none_some : (j : ℕ) → None ≡ Some j → ⊥
none_some j e = cc

-- what nothing follows leads nowhere
stops : (next : ℕ → Option ℕ) (k j : ℕ) → next k ≡ None → LeadsTo next k j → ⊥
stops next k j n (at_once e) = none_some j (sym n ∙ e)
stops next k j n (by_another {i = i} e l) = none_some i (sym n ∙ e)

-- what leads from one of two that follow one another stays with those two
some_is : (i j : ℕ) → Some i ≡ Some j → i ≡ j
some_is i j e = cc

module _ (next : ℕ → Option ℕ) (first : next 0 ≡ Some 1) (second : next 1 ≡ Some 0) where
  follows : (k i : ℕ) → (k ≡ 0) ⊎ (k ≡ 1) → next k ≡ Some i → (i ≡ 0) ⊎ (i ≡ 1)
  follows k i (inl q) e = inr (some_is i 1 (sym e ∙ (ap next q ∙ first)))
  follows k i (inr q) e = inl (some_is i 0 (sym e ∙ (ap next q ∙ second)))

  stays : (k j : ℕ) → (k ≡ 0) ⊎ (k ≡ 1) → LeadsTo next k j → (j ≡ 0) ⊎ (j ≡ 1)
  stays k j h (at_once e) = follows k j h e
  stays k j h (by_another {i = i} e l) = stays i j (follows k i h e) l

  not_two : next 2 ≡ Some 0 → LeadsTo next 2 2 → ⊥
  not_two third l = ⊎_elim (λ (e : 2 ≡ 0). absurd (omega arith)) (λ (e : 2 ≡ 1). absurd (omega arith)) (begins 2 2 third l)
    where
      begins : (k j : ℕ) → next k ≡ Some 0 → LeadsTo next k j → (j ≡ 0) ⊎ (j ≡ 1)
      begins k j t (at_once e) = inl (some_is j 0 (sym e ∙ t))
      begins k j t (by_another {i = i} e l) = stays i j (inl (some_is i 0 (sym e ∙ t))) l

pub returns-clause-unfounded : goal.returns-clause-unfounded
returns-clause-unfounded c = (
  at_once refl,
  (λ l. stops (λ j. named_by (definition_at boxed j)) 0 0 refl l),
  by_another {i = 1} refl (at_once refl),
  by_another {i = 0} refl (at_once refl),
  (λ l. not_two (λ j. named_by (definition_at in_a_ring j)) refl refl refl l),
)

pub returns-clause-modes : goal.returns-clause-modes
returns-clause-modes c = (
  by_another {i = 1} refl (at_once refl),
  (λ l. not_two named refl refl refl l),
  (λ l. stops named 3 3 refl l),
)

-- what an inst that stands for a node is
abbrev Stands : List PlainInstDef → InstRef → ℕ → Type 0
Stands ds (Old j) i = j ≡ i
Stands ds (New k) i = (r : InstRef) × (definition_at ds k ≡ same_inst r) × StandsFor ds r i

stands : (ds : List PlainInstDef) (r : InstRef) (i : ℕ) → StandsFor ds r i → Stands ds r i
stands ds r i that_node = refl
stands ds r i (another_name {r = q} e s) = (q, e, s)

one_is_zero : ◌≡◌ {A = ℕ} 1 0 → ⊥
one_is_zero e = omega (arith, e)

-- a bound inst stands for no node that was there
bound_stands : (ds : List PlainInstDef) (k i : ℕ) → ((r : InstRef) → definition_at ds k ≡ same_inst r → ⊥) → StandsFor ds (New k) i → ⊥
bound_stands ds k i n s = let q = stands ds (New k) i s in n q.0 q.1

box_is : (r q : InstRef) → box_of r ≡ same_inst q → ⊥
box_is r q e = cc

ground_is : (r : InstRef) → definition_at (boxes_of 1) 0 ≡ same_inst r → StandsFor (boxes_of 1) r 0 → ⊥
ground_is (Old i) e s = one_is_zero (old_is i e ∙ stands (boxes_of 1) (Old i) 0 s)
  where
    old_is : (i : ℕ) → same_inst (Old 1) ≡ same_inst (Old i) → 1 ≡ i
    old_is i e = cc
ground_is (New k) e s = apart k e
  where
    apart : (k : ℕ) → same_inst (Old 1) ≡ same_inst (New k) → ⊥
    apart k e = cc

ground_stands : StandsFor (boxes_of 1) (New 0) 0 → ⊥
ground_stands s = let q = stands (boxes_of 1) (New 0) 0 s in ground_is q.0 q.1 q.2

pub returns-clause-free_inside : goal.returns-clause-free_inside
returns-clause-free_inside c = (
  inr (inl (inl (another_name {r = Old 0} refl that_node))),
  (λ h. h),
  (λ h. ⊎_elim (λ h. h) (λ h. ⊎_elim (λ h. ⊎_elim (λ h. bound_stands (boxes_of 0) 1 0 (λ r e. box_is (New 0) r e) h) (λ h. h) h) (λ h. h) h) h),
  (λ h. h),
  (λ h. ⊎_elim (λ h. h) (λ h. ⊎_elim (λ h. ⊎_elim (λ h. ground_stands h) (λ h. h) h) (λ h. h) h) h),
  inr (inl (inl that_node)),
)

-- each body mentions the one definition over its own parameter
abbrev own : InstTerms
own = one (parameter 0)

mentioned : (d e : ℕ) (ts : InstTerms) → Mentions (cells_of (list (parameter 0)) d) e ts → (e ≡ 0) × (ts ≡ own)
mentioned d e ts h = ⊎_elim (λ h. absurd h) (λ h. ⊎_elim (λ h. ⊎_elim (λ (h : (0 ≡ e) × (own ≡ ts)). (sym h.0, sym h.1)) (λ h. ⊎_elim (λ h. absurd h) (λ h. absurd h) h) h) (λ h. absurd h) h) h

reached : (d e : ℕ) (ts : InstTerms) → Reaches (cells_of (list (parameter 0))) d e ts → (e ≡ 0) × (ts ≡ own)
reached d e ts (in_body m) = mentioned d e ts m
reached d e ts (in_body_of {e = f} {ts = us} is r m) =
    let p = reached d f us r in
    let q = mentioned f e is m in
    (q.0, ap₂ each_over p.1 q.1)

pub returns-clause-other_parameters : goal.returns-clause-other_parameters
returns-clause-other_parameters c = (
  (λ h. h.2 (reached 0 0 h.0 h.1).1),
  (one (list (parameter 0)), in_body (inr (inl (inl (refl, refl)))), λ e. cc),
  (one (inst_node 1), in_body (inr (inl (inl (refl, refl)))), λ e. cc),
)

-- where one inst comes to another
abbrev Comes : Bodies → InstTerm → InstTerm → Type 0
Comes body (parameter k) j = parameter k ≡ j
Comes body (inst_node i) j = inst_node i ≡ j
Comes body (defined d is) j = (defined d is ≡ j) ⊎ ComesTo body (over is (body d)) j
Comes body (bound_over fs is) j = bound_over fs is ≡ j

comes : (body : Bodies) (i j : InstTerm) → ComesTo body i j → Comes body i j
comes body (parameter k) j at_that = refl
comes body (inst_node i) j at_that = refl
comes body (defined d is) j at_that = inl refl
comes body (bound_over fs is) j at_that = refl
comes body (defined d is) j (by_definition c) = inr c

parameter_is : (k d : ℕ) (is : InstTerms) → parameter k ≡ defined d is → ⊥
parameter_is k d is e = cc

node_is : (k d : ℕ) (is : InstTerms) → inst_node k ≡ defined d is → ⊥
node_is k d is e = cc

bound_is : (js : InstTerms) (d : ℕ) (is : InstTerms) → bound_over [] js ≡ defined d is → ⊥
bound_is js d is e = cc

abbrev number : InstTerm → ℕ
number (parameter k) = k
number (inst_node i) = i
number (defined d is) = d
number (bound_over fs is) = 0

zero_is : (js is : InstTerms) → defined 0 js ≡ defined 1 is → ⊥
zero_is js is e = omega (arith, ap number e)

-- a definition that no body mentions isn't reached
unreached : (body : Bodies) (d : ℕ) → ((e : ℕ) (ts : InstTerms) → Mentions (body e) d ts → ⊥) → (e : ℕ) (ts : InstTerms) → Reaches body e d ts → ⊥
unreached body d none e ts (in_body m) = none e ts m
unreached body d none e ts (in_body_of {e = f} is r m) = none f is m

-- one that is mentioned over nothing alone is reached over nothing
bare : (body : Bodies) (d : ℕ) → ((e : ℕ) (ts : InstTerms) → Mentions (body e) d ts → ts ≡ no_insts) → (e : ℕ) (ts : InstTerms) → Reaches body e d ts → ts ≡ no_insts
bare body d none e ts (in_body m) = none e ts m
bare body d none e ts (in_body_of {e = f} {ts = us} is r m) = ap (each_over us) (none f is m)

one_zero : (◌≡◌ {A = ℕ} 0 1) → ⊥
one_zero e = omega (arith, e)

from_nothing : (g : InstTerm) (e : ℕ) (ts : InstTerms) → Reaches (f_and_a its_parameter g) 0 e ts → ⊥
from_nothing g e ts (in_body m) = m
from_nothing g e ts (in_body_of {e = f} {ts = us} is r m) = from_nothing g f us r

ground_mentions : (e : ℕ) (ts : InstTerms) → Mentions (f_and_a its_parameter (f_of (inst_node 1)) e) 1 ts → ⊥
ground_mentions zero ts m = m
ground_mentions (suc e) ts m = ⊎_elim (λ (h : (0 ≡ 1) × (one (inst_node 1) ≡ ts)). one_zero h.0) (λ h. ⊎_elim (λ h. absurd h) (λ h. absurd h) h) m

x_mentions : (e : ℕ) (ts : InstTerms) → Mentions (f_and_a x_of_it (f_of a) e) 1 ts → ts ≡ no_insts
x_mentions zero ts m = ⊎_elim (λ h. absurd h) (λ h. absurd h) m
x_mentions (suc e) ts m = ⊎_elim (λ (h : (0 ≡ 1) × (one a ≡ ts)). absurd (one_zero h.0)) (λ h. ⊎_elim (λ h. ⊎_elim (λ (h : (1 ≡ 1) × (no_insts ≡ ts)). sym h.1) (λ h. absurd h) h) (λ h. absurd h) h) m

ground_comes : (is : InstTerms) → ComesTo (f_and_a its_parameter (f_of (inst_node 1))) (f_of (inst_node 1)) (defined 1 is) → ⊥
ground_comes is c = ⊎_elim (λ e. zero_is (one (inst_node 1)) is e) (λ c. node_is 1 1 is (comes (f_and_a its_parameter (f_of (inst_node 1))) (inst_node 1) (defined 1 is) c)) (comes (f_and_a its_parameter (f_of (inst_node 1))) (f_of (inst_node 1)) (defined 1 is) c)

x_comes : (is : InstTerms) → ComesTo (f_and_a x_of_it (f_of a)) (f_of a) (defined 1 is) → ⊥
x_comes is c = ⊎_elim (λ e. zero_is (one a) is e) (λ c. bound_is (one a) 1 is (comes (f_and_a x_of_it (f_of a)) (bound_over [] (one a)) (defined 1 is) c)) (comes (f_and_a x_of_it (f_of a)) (f_of a) (defined 1 is) c)

pub returns-clause-parameters_founded : goal.returns-clause-parameters_founded
returns-clause-parameters_founded c = (
  inl (own, at_that),
  (λ h. ⊎_elim (λ h. bound_is (inst_then (parameter 0) (one (list (parameter 0)))) 0 h.0 (comes (cells_of (list (parameter 0))) (cells_of (list (parameter 0)) 0) (defined 0 h.0) h.1)) (λ h. h.2 (reached 0 0 h.0 h.1).1) h),
  inl (no_insts, by_definition at_that),
  (λ h. ⊎_elim (λ h. parameter_is 0 0 h.0 (comes (f_and_a its_parameter (f_of a)) its_parameter (defined 0 h.0) h.1)) (λ h. from_nothing (f_of a) 0 h.0 h.1) h),
  (λ h. ⊎_elim (λ h. ground_comes h.0 h.1) (λ h. unreached (f_and_a its_parameter (f_of (inst_node 1))) 1 ground_mentions 1 h.0 h.1) h),
  (λ h. ⊎_elim (λ h. x_comes h.0 h.1) (λ h. h.2 (bare (f_and_a x_of_it (f_of a)) 1 x_mentions 1 h.0 h.1)) h),
)

-- where an inst puts another into a constructor
abbrev Inside : Bodies → InstTerm → InstTerm → Type 0
Inside body (parameter k) j = ⊥
Inside body (inst_node i) j = ⊥
Inside body (defined d is) j = ((k : ℕ) × PutsInside body (body d) (parameter k) × ComesTo body (inst_at is k) j) ⊎ ((i : InstTerm) × OneIs is i × PutsInside body i j)
Inside body (bound_over fs is) j = (i : InstTerm) × OneIs is i × (ComesTo body i j ⊎ PutsInside body i j)

inside : (body : Bodies) (i j : InstTerm) → PutsInside body i j → Inside body i j
inside body (parameter k) j p = elim p [ ]
inside body (inst_node k) j p = elim p [ ]
inside body (bound_over fs is) j (listed {j = i} o c) = (i, o, inl c)
inside body (bound_over fs is) j (in_listed {j = i} o p) = (i, o, inr p)
inside body (defined d is) j (given {k = k} p c) = inl (k, p, c)
inside body (defined d is) j (in_given {j = i} o p) = inr (i, o, p)

parameter_is_node : (k i : ℕ) → parameter k ≡ inst_node i → ⊥
parameter_is_node k i e = cc

one_is_free : inst_node 1 ≡ inst_node 0 → ⊥
one_is_free e = one_is_zero (ap number e)

-- of the parameters and `ground`, none comes to `free`, and none has anything inside
module _ (body : Bodies) where
  abbrev Other : InstTerm → Type 0
  Other i = ((k : ℕ) × (parameter k ≡ i)) ⊎ (inst_node 1 ≡ i)

  not_free : (i : InstTerm) → Other i → ComesTo body i (inst_node 0) → ⊥
  not_free i (inl h) c = parameter_is_node h.0 0 (comes body (parameter h.0) (inst_node 0) (subst (λ i. ComesTo body i (inst_node 0)) (sym h.1) c))
  not_free i (inr h) c = one_is_free (comes body (inst_node 1) (inst_node 0) (subst (λ i. ComesTo body i (inst_node 0)) (sym h) c))

  nothing_inside : (i j : InstTerm) → Other i → PutsInside body i j → ⊥
  nothing_inside i j (inl h) p = inside body (parameter h.0) j (subst (λ i. PutsInside body i j) (sym h.1) p)
  nothing_inside i j (inr h) p = inside body (inst_node 1) j (subst (λ i. PutsInside body i j) (sym h) p)

  no_free_listed : (is : InstTerms) → ((i : InstTerm) → OneIs is i → Other i) → PutsInside body (bound_over [] is) (inst_node 0) → ⊥
  no_free_listed is others p = (let h = inside body (bound_over [] is) (inst_node 0) p in ⊎_elim (λ c. not_free h.0 (others h.0 h.1) c) (λ p. nothing_inside h.0 (inst_node 0) (others h.0 h.1) p) h.2)

  no_free_given : (d : ℕ) (is : InstTerms) → ((k : ℕ) → Other (inst_at is k)) → ((i : InstTerm) → OneIs is i → Other i) → PutsInside body (defined d is) (inst_node 0) → ⊥
  no_free_given d is at others p = ⊎_elim (λ h. not_free (inst_at is h.0) (at h.0) h.2) (λ h. nothing_inside h.0 (inst_node 0) (others h.0 h.1) h.2) (inside body (defined d is) (inst_node 0) p)

  ground_at : (k : ℕ) → Other (inst_at (one (inst_node 1)) k)
  ground_at zero = inr refl
  ground_at (suc k) = inl (k, refl)

  ground_one : (i : InstTerm) → OneIs (one (inst_node 1)) i → Other i
  ground_one i o = ⊎_elim (λ e. inr e) (λ o. absurd o) o

  parameter_one : (i : InstTerm) → OneIs (one (parameter 0)) i → Other i
  parameter_one i o = ⊎_elim (λ e. inl (0, e)) (λ o. absurd o) o

  both_one : (i : InstTerm) → OneIs (inst_then (parameter 0) (one (inst_node 1))) i → Other i
  both_one i o = ⊎_elim (λ e. inl (0, e)) (λ o. ground_one i o) o

pub returns-clause-parameters_inside : goal.returns-clause-parameters_inside
returns-clause-parameters_inside c = (
  listed {j = inst_node 0} (inr (inl refl)) at_that,
  (λ p. (let body = f_and_a (c_of_it (inst_node 0)) (f_of (inst_node 1)) in no_free_given body 0 (one (inst_node 1)) (ground_at body) (ground_one body) p)),
  (λ p. (let body = f_and_a (c_of_it (inst_node 1)) (f_of (inst_node 1)) in no_free_listed body (inst_then (parameter 0) (one (inst_node 1))) (both_one body) p)),
  given {k = 0} (listed {j = parameter 0} (inl refl) at_that) at_that,
  (λ p. (let body = f_and_a x_of_it (f_of (inst_node 0)) in no_free_listed body (one (parameter 0)) (parameter_one body) p)),
  (λ p. (let body = f_and_a x_of_it (f_of (inst_node 0)) in no_free_given body 1 no_insts (λ k. inl (k, refl)) (λ i o. absurd o) p)),
)

pub returns-clause-texts : goal.returns-clause-texts
returns-clause-texts c = (refl, refl, refl)

not_state : int_type ≡ state_type → ⊥
not_state e = cc

pub returns-clause-tidy : goal.returns-clause-tidy
returns-clause-tidy c = (
  (λ u. u ((at_state 2, (at_state 0, tt)), (at_state 3, (at_state 2, tt)))),
  (λ t. not_state (t.0.0 [] 2 int_type (refl, refl) (inl refl))),
  (λ t. not_state (t.1.0 [] 3 int_type (refl, refl) (inr refl))),
)
  where
    at_state : (i : ℕ) → Tidy source graph i state_type
    at_state i [] j t l h = sym l.1
    at_state i (p ∷ path) j t l h = absurd l
