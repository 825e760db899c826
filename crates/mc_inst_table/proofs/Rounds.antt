-- What definitions reach, and over which insts.
use Rattle.std.proofs.Common.{◌≡◌, ◌⊎◌, inl, inr, ℕ, zero, suc, ◌+◌, ◌<◌, ◌≤◌, refl, sym, ap, ap₂, ◌∙◌, subst, arith}
use Rattle.mc_accepted.specs.InstRules.{InstTerm, parameter, inst_node, defined, bound_over, InstTerms, no_insts, inst_then, inst_at, over, each_over, Bodies, Mentions, OneMentions, Reaches, in_body, in_body_of, parameters_from, ReachesOthers}
use Rattle.mc_inst_table.specs.code.Ends.{how_many, needs, all_need}
use Rattle.mc_inst_table.specs.code.Links.{IsOrReaches}
use Rattle.mc_inst_table.proofs.Coming.{at_within, each_over_over, how_many_over}

-- WHAT IS MENTIONED

mutual
  mention_needs :
      (t : InstTerm) (e : ℕ) (is : InstTerms) → Mentions t e is → all_need is ≤ needs t
  mention_needs (parameter k) e is m = absurd m
  mention_needs (inst_node i) e is m = absurd m
  mention_needs (defined d us) e is (inl one) =
      subst (λ (vs : InstTerms). all_need vs ≤ all_need us) one.1 (omega arith)
  mention_needs (defined d us) e is (inr m) = mentions_need us e is m
  mention_needs (bound_over gs us) e is m = mentions_need us e is m

  mentions_need :
      (us : InstTerms) (e : ℕ) (is : InstTerms) → OneMentions us e is → all_need is ≤ all_need us
  mentions_need no_insts e is m = absurd m
  mentions_need (inst_then u us) e is (inl m) =
      let first = mention_needs u e is m in omega (arith, first)
  mentions_need (inst_then u us) e is (inr m) =
      let rest = mentions_need us e is m in omega (arith, rest)

at_needs : (is : InstTerms) (p : ℕ) → p < how_many is → needs (inst_at is p) ≤ all_need is
at_needs no_insts p below = absurd (let h : p < 0 = below in omega arith)
at_needs (inst_then i is) zero below = omega arith
at_needs (inst_then i is) (suc p) below =
    let h : suc p < suc (how_many is) = below in
    let less : p < how_many is = omega arith in
    let rest = at_needs is p less in
    omega (arith, rest)

-- a parameter that is given stands in what is given
pub parameter_needs :
    (is : InstTerms) (p j : ℕ) → p < how_many is → inst_at is p ≡ parameter j → j < all_need is
parameter_needs is p j below at =
    let needed = at_needs is p below in
    let there : needs (inst_at is p) ≡ suc j = ap needs at in
    omega (arith, needed, there)

-- A DEFINITION'S OWN PARAMETERS

pub how_many_parameters : (n k : ℕ) → how_many (parameters_from n k) ≡ k
how_many_parameters n zero = refl
how_many_parameters n (suc k) = ap suc (how_many_parameters (suc n) k)

pub at_parameters : (n k p : ℕ) → p < k → inst_at (parameters_from n k) p ≡ parameter (n + p)
at_parameters n zero p below = absurd (let h : p < 0 = below in omega arith)
at_parameters n (suc k) zero below = let same : n ≡ n + 0 = omega arith in ap parameter same
at_parameters n (suc k) (suc p) below =
    let less : p < k = omega (arith, below) in
    let same : suc n + p ≡ n + suc p = omega arith in
    at_parameters (suc n) k p less ∙ ap parameter same

pub at_own : (k p : ℕ) → p < k → inst_at (parameters_from 0 k) p ≡ parameter p
at_own k p below = let same : 0 + p ≡ p = omega arith in at_parameters 0 k p below ∙ ap parameter same

-- insts of which each is one and the same
pub same_insts :
    (is js : InstTerms)
    → how_many is ≡ how_many js → ((p : ℕ) → p < how_many js → inst_at is p ≡ inst_at js p) → is ≡ js
same_insts no_insts no_insts count each = refl
same_insts no_insts (inst_then j js) count each = absurd (let h : 0 ≡ suc (how_many js) = count in omega arith)
same_insts (inst_then i is) no_insts count each = absurd (let h : suc (how_many is) ≡ 0 = count in omega arith)
same_insts (inst_then i is) (inst_then j js) count each =
    let fewer : how_many is ≡ how_many js = omega (arith, count) in
    let none : 0 < suc (how_many js) = omega arith in
    let rest = λ (p : ℕ) (below : p < how_many js).
    let less : suc p < suc (how_many js) = omega (arith, below) in
    each (suc p) less
    in
    ap₂ inst_then (each 0 none) (same_insts is js fewer rest)

mutual
  over_own : (k : ℕ) (t : InstTerm) → needs t ≤ k → over (parameters_from 0 k) t ≡ t
  over_own k (parameter j) h = let below : j < k = omega (arith, h) in at_own k j below
  over_own k (inst_node i) h = refl
  over_own k (defined d us) h = ap (defined d) (each_over_own k us h)
  over_own k (bound_over gs us) h = ap (bound_over gs) (each_over_own k us h)

  each_over_own : (k : ℕ) (us : InstTerms) → all_need us ≤ k → each_over (parameters_from 0 k) us ≡ us
  each_over_own k no_insts h = refl
  each_over_own k (inst_then u us) h =
      let first : needs u ≤ k = omega (arith, h) in
      let others : all_need us ≤ k = omega (arith, h) in
      ap₂ inst_then (over_own k u first) (each_over_own k us others)

each_own : (k : ℕ) (is : InstTerms) → how_many is ≡ k → each_over is (parameters_from 0 k) ≡ is
each_own k is count =
    let own = how_many_parameters 0 k in
    same_insts (each_over is (parameters_from 0 k)) is
    (how_many_over is (parameters_from 0 k) ∙ own ∙ sym count)
    (λ p below.
    let less : p < k = omega (arith, below, count) in
    let there : p < how_many (parameters_from 0 k) = omega (arith, less, own) in
    sym (at_within is (parameters_from 0 k) p there) ∙ ap (over is) (at_own k p less))

-- what comes out as a parameter was one
pub from_parameter :
    (xs : InstTerms) (t : InstTerm) (q : ℕ)
    → over xs t ≡ parameter q → (j : ℕ) × (t ≡ parameter j) × (inst_at xs j ≡ parameter q)
from_parameter xs (parameter j) q e = (j, refl, e)
from_parameter xs (inst_node i) q e = cc
from_parameter xs (defined d us) q e = cc
from_parameter xs (bound_over gs us) q e = cc

-- WHAT IS REACHED, where definitions stand over as many insts as they have parameters
module _ (body : Bodies) (width : ℕ → ℕ)
    (sized : (d e : ℕ) (is : InstTerms) → Mentions (body d) e is → how_many is ≡ width e)
    (narrow : (d : ℕ) → needs (body d) ≤ width d) where
  pub reaches_sized : {d e : ℕ} {ts : InstTerms} → Reaches body d e ts → how_many ts ≡ width e
  reaches_sized (in_body {d = d} {e = e} {ts = ts} m) = sized d e ts m
  reaches_sized (in_body_of {e = e} {f = f} {ts = ts} is r m) = how_many_over ts is ∙ sized e f is m

  pub given_needs :
      (d e : ℕ) (is : InstTerms) → Mentions (body d) e is → all_need is ≤ width d
  given_needs d e is m =
      let needed = mention_needs (body d) e is m in
      let most = narrow d in
      omega (arith, needed, most)

  pub reaches_further :
      {d e f : ℕ} (ts : InstTerms) {us : InstTerms}
      → Reaches body d e ts → Reaches body e f us → Reaches body d f (each_over ts us)
  reaches_further ts r (in_body {ts = us} m) = in_body_of us r m
  reaches_further {d = d} ts r (in_body_of {e = g} {f = f} {ts = us} is s m) =
      let needed = given_needs g f is m in
      let count = reaches_sized s in
      let enough : all_need is ≤ how_many us = omega (arith, needed, count) in
      subst (λ vs. Reaches body d f vs) (sym (each_over_over ts us is enough))
      (in_body_of is (reaches_further ts r s) m)

  pub is_or_further :
      (d e f : ℕ) → IsOrReaches body d e → IsOrReaches body e f → IsOrReaches body d f
  is_or_further d e f (inl one) k = subst (λ (g : ℕ). IsOrReaches body g f) (sym one) k
  is_or_further d e f (inr r) (inl one) = inr (r.0, subst (λ (g : ℕ). Reaches body d g r.0) one r.1)
  is_or_further d e f (inr r) (inr s) = inr (each_over r.0 s.0, reaches_further r.0 r.1 s.1)

  -- one is reached, or is that one, over its own parameters
  abbrev pub GoesTo : (d e : ℕ) → InstTerms → Type 0
  GoesTo d e ts = ((d ≡ e) × (ts ≡ parameters_from 0 (width d))) ⊎ Reaches body d e ts

  pub goes_to : (d e : ℕ) → IsOrReaches body d e → (ts : InstTerms) × GoesTo d e ts
  goes_to d e (inl one) = (parameters_from 0 (width d), inl (one, refl))
  goes_to d e (inr r) = (r.0, inr r.1)

  pub goes_by :
      (d f e : ℕ) (ts is : InstTerms)
      → GoesTo d f ts → Mentions (body f) e is → Reaches body d e (each_over ts is)
  goes_by d f e ts is (inl one) m =
      let at_d : Mentions (body d) e is = subst (λ (g : ℕ). Mentions (body g) e is) (sym one.0) m in
      let same : is ≡ each_over ts is =
      sym (each_over_own (width d) is (given_needs d e is at_d))
      ∙ ap (λ vs. each_over vs is) (sym one.1)
      in
      subst (λ vs. Reaches body d e vs) same (in_body at_d)
  goes_by d f e ts is (inr r) m = in_body_of is r m

  pub reaches_on :
      (d e f : ℕ) (ts us : InstTerms)
      → Reaches body d e ts → GoesTo e f us → Reaches body d f (each_over ts us)
  reaches_on d e f ts us r (inl one) =
      let same : ts ≡ each_over ts us =
      sym (each_own (width e) ts (reaches_sized r)) ∙ ap (each_over ts) (sym one.1)
      in
      subst (λ vs. Reaches body d f vs) same (subst (λ (g : ℕ). Reaches body d g ts) one.0 r)
  reaches_on d e f ts us r (inr s) = reaches_further ts r s
