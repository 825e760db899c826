-- Nodes of two graphs that mean one thing are related.
use Rattle.std.proofs.Common.{◌≡◌, ◌≢◌, ◌↔◌, ◌⊎◌, inl, inr, ℕ, zero, suc, ◌<◌, ◌≤◌, Bool, true, false, cond, not, nat_eq, ◌&&◌, List, [], ◌∷◌, map, length, get_or, replicate, Option, Some, None, refl, ap, sym, ◌∙◌, subst, ⊎_elim, arith}
use Rattle.std.proofs.Math.Nat.{le_refl}
use Rattle.std.proofs.lemmas.Bool.{eqb-true, eqb-false}
use Rattle.std.proofs.lemmas.List.{length-map, length-replicate}
use Rattle.mc_program.specs.Values.{Val, int, char, str, con, state}
use Rattle.mc_program.specs.Programs.{TypeTerm, int_type, char_type, string_type, state_type, variable_type, union_type, Source}
use Rattle.mc_model.specs.Insts.{Listed, InstNode, free, ground, unique, dead, bound, Graph, Lists, AllowsSymbol, AllowsConstants}
use Rattle.mc_model.specs.Lists.{In, is_in}
use Rattle.mc_model.specs.Types.{takes, argument_types, instance_of, type_at}
use Rattle.mc_model.specs.Stream.{is_bound}
use Rattle.mc_accepted.specs.Inclusion.{gone, Tip, symbol_tip, constant_tip, state_tip, Path, AllowsMark, OnTypes, Allows, NoMore, IncludedNodes, AllFree, NoneIs, NoneMore}
use Rattle.mc_accepted.specs.Tidy.{Leads, Tidy, EachIsTidy}
use Rattle.mc_accepted.specs.Determined.{is_dead}
use Rattle.mc_accepted.specs.Forms.{node_takes_constants}
use Rattle.mc_accepted.specs.Fits.{NoneFree, NoArgumentFree, FitsInsts, FitsTypes}
use Rattle.mc_accepted.specs.ProperTypes.{Parameters}
use Rattle.mc_accepted.specs.InOrder.{SameName}
use Rattle.mc_accepted.specs.Typing.{constructor_types, ConstantOf}
use Rattle.mc_accepted.specs.NodeOracle.{NodeOracle, of_nodes}
use Rattle.mc_insts.specs.Merging.{OneAllows}
use Rattle.mc_insts.specs.Narrowed.{Narrowed}
use Rattle.mc_insts.proofs.Bridge.{get_replicate}
use Rattle.mc_insts.proofs.Overs.{Over, over_allows, over_once, over_length, rank, builtin_more}
use Rattle.laws_graphs.specs.Related.{Below, EachRelated, AllRelated, FoundRelated, NarrowedRelated, AreBound, Related}
use Rattle.laws_graphs.specs.Nodes.{NamedApart, Joined, IsOver, Finds, MeanOne, OneOrderOverNodes, BuiltinNodesMeanOne}
use Rattle.laws_graphs.proofs.OneVerdicts.{one-verdict}

pub same-bits : (t u : Bool) → (t ≡ true → u ≡ true) → (u ≡ true → t ≡ true) → t ≡ u
same-bits true u f g = sym (f refl)
same-bits false true f g = g refl
same-bits false false f g = refl

no-types : (o : Option (List TypeTerm)) (Q : List TypeTerm → Type 0) → ((ts : List TypeTerm) → Q ts → ⊥) → OnTypes o Q → ⊥
no-types None Q f h = h
no-types (Some ts) Q f h = f ts h

pub types-are : (o : Option (List TypeTerm)) (ts : List TypeTerm) (Q : List TypeTerm → Type 0) → o ≡ Some ts → OnTypes o Q → Q ts
types-are o ts Q e h = subst (λ p. OnTypes p Q) e h

pub to-types : (o : Option (List TypeTerm)) (ts : List TypeTerm) (Q : List TypeTerm → Type 0) → o ≡ Some ts → Q ts → OnTypes o Q
to-types o ts Q e h = subst (λ p. OnTypes p Q) (sym e) h

and-left : (t u : Bool) → (t && u) ≡ true → t ≡ true
and-left true u e = refl
and-left false u e = absurd (cc e)

and-right : (t u : Bool) → (t && u) ≡ true → u ≡ true
and-right true u e = e
and-right false u e = absurd (cc e)

-- ---- kinds of nodes
abbrev NotFree : InstNode → Type 0
NotFree free = ⊥
NotFree ground = Unit {0}
NotFree unique = Unit {0}
NotFree dead = Unit {0}
NotFree (bound ls) = Unit {0}

abbrev Plain : InstNode → Type 0
Plain free = Unit {0}
Plain ground = Unit {0}
Plain unique = ⊥
Plain dead = ⊥
Plain (bound ls) = Unit {0}

plain-not : (N M : InstNode) → N ≡ M → Plain N → ((M ≡ unique) ⊎ (M ≡ dead)) → ⊥
plain-not N M e p h = ⊎_elim (λ q. subst Plain (e ∙ q) p) (λ q. subst Plain (e ∙ q) p) h

free-number : (G : Graph) → FitsInsts G → (i : ℕ) → G i ≡ free → i ≡ 0
free-number G f zero e = refl
free-number G f (suc zero) e = absurd (subst NotFree (sym f.is_ground ∙ e) tt)
free-number G f (suc (suc zero)) e = absurd (subst NotFree (sym f.is_unique ∙ e) tt)
free-number G f (suc (suc (suc zero))) e = absurd (subst NotFree (sym f.is_dead ∙ e) tt)
free-number G f (suc (suc (suc (suc i)))) e = let b = f.are_bound i in absurd (subst NotFree (sym b.1 ∙ e) tt)

is-set : (i : ℕ) → i ≢ 0 → is_bound i ≡ true
is-set i n = at (nat_eq i 0) refl
  where
    at : (t : Bool) → nat_eq i 0 ≡ t → not t ≡ true
    at true e = absurd (n (eqb-true i 0 e))
    at false e = refl

set-is : (i : ℕ) → is_bound i ≡ true → i ≢ 0
set-is i e q = at (nat_eq i 0) refl e
  where
    at : (t : Bool) → nat_eq i 0 ≡ t → not t ≡ true → ⊥
    at true f g = cc
    at false f g = eqb-false i 0 f q

unset-is : (i : ℕ) → is_bound i ≡ false → i ≡ 0
unset-is i e = at (nat_eq i 0) refl e
  where
    at : (t : Bool) → nat_eq i 0 ≡ t → not t ≡ false → i ≡ 0
    at true f g = eqb-true i 0 f
    at false f g = absurd (cc g)

is-dead : (N : InstNode) → is_dead N ≡ true → N ≡ dead
is-dead free e = absurd (cc e)
is-dead ground e = absurd (cc e)
is-dead unique e = absurd (cc e)
is-dead dead e = refl
is-dead (bound ls) e = absurd (cc e)

is-gone : (N : InstNode) → AllowsMark N gone → N ≡ dead
is-gone free h = absurd h
is-gone ground h = absurd h
is-gone unique h = absurd h
is-gone dead h = refl
is-gone (bound ls) h = absurd h

-- ---- what a free node allows, and where builtin ones lead
module _ (P : Source) (G : Graph) where
  free-allows : (path : Path) (e : Tip) (i : ℕ) (t : TypeTerm) → G i ≡ free → Allows P G path e i t → ⊥
  free-allows [] (symbol_tip s) i t q h = no-types (argument_types P s t) (λ ts. AllowsSymbol P (G i) i s (λ is. Unit {0})) (λ ts a. subst (λ N. AllowsSymbol P N i s (λ is. Unit {0})) q a) h
  free-allows [] (constant_tip b) i t q h = subst AllowsConstants q h.1
  free-allows [] (state_tip m) i t q h = subst (λ N. AllowsMark N m) q h.1
  free-allows ((s, k) ∷ path) e i t q h = no-types (argument_types P s t) _ (λ ts a. subst (λ N. AllowsSymbol P N i s (λ is. (k < length is) × Allows P G path e (get_or is k 0) (get_or ts k (variable_type 0)))) q a) h

  free-tidy : (i : ℕ) (t : TypeTerm) → G i ≡ free → Tidy P G i t
  free-tidy i t q [] j u h w = absurd (plain-not (G i) (G j) (ap G h.0) (subst Plain (sym q) tt) w)
  free-tidy i t q ((s, k) ∷ path) j u h w = absurd (no-types (argument_types P s t) _ (λ ts a. subst (λ N. AllowsSymbol P N i s (λ is. (k < length is) × Leads P G path j u (get_or is k 0) (get_or ts k (variable_type 0)))) q a) h)

  ground-leads : (path : Path) (i j : ℕ) (t u : TypeTerm) → G i ≡ ground → Leads P G path j u i t → G j ≡ ground
  ground-leads [] i j t u q h = ap G (sym h.0) ∙ q
  ground-leads ((s, k) ∷ path) i j t u q h = at (argument_types P s t) h (λ v a. ground-leads path i j v u q a)
    where
      at : (o : Option (List TypeTerm)) → OnTypes o (λ ts. AllowsSymbol P (G i) i s (λ is. (k < length is) × Leads P G path j u (get_or is k 0) (get_or ts k (variable_type 0)))) → ((v : TypeTerm) → Leads P G path j u i v → G j ≡ ground) → G j ≡ ground
      at None h rest = absurd h
      at (Some ts) h rest =
          let a : (k < length (replicate {A = ℕ} (P.symbols s).name.arity i)) × Leads P G path j u (get_or (replicate (P.symbols s).name.arity i) k 0) (get_or ts k (variable_type 0)) =
          subst (λ N. AllowsSymbol P N i s (λ is. (k < length is) × Leads P G path j u (get_or is k 0) (get_or ts k (variable_type 0)))) q h in
          let l : length (replicate {A = ℕ} (P.symbols s).name.arity i) ≡ (P.symbols s).name.arity = length-replicate (P.symbols s).name.arity i in
          rest (get_or ts k (variable_type 0)) (subst (λ x. Leads P G path j u x (get_or ts k (variable_type 0))) (get_replicate (P.symbols s).name.arity i k (subst (λ n. k < n) l a.0)) a.1)

  ground-tidy : (i : ℕ) (t : TypeTerm) → G i ≡ ground → Tidy P G i t
  ground-tidy i t q path j u h w = absurd (plain-not ground (G j) (sym (ground-leads path i j t u q h)) tt w)

  state-tidy : (i : ℕ) → Tidy P G i state_type
  state-tidy i [] j u h w = sym h.1
  state-tidy i ((s, k) ∷ path) j u h w = absurd h

  gone-there : (i : ℕ) (t : TypeTerm) → Tidy P G i t → G i ≡ dead → Allows P G [] (state_tip gone) i t
  gone-there i t y q = (ap (takes state_type) (y [] i t (refl, refl) (inr q)), subst (λ N. AllowsMark N gone) (sym q) tt)

  -- the insts of a constructor's arguments aren't free
  replicated-free : (n i : ℕ) → i ≢ 0 → NoneFree (replicate n i)
  replicated-free zero i w = tt
  replicated-free (suc n) i w = (w, replicated-free n i w)

  listed-free : (ls : List Listed) (s : ℕ) (is : List ℕ) → NoArgumentFree ls → Lists P ls s (λ js. js ≡ is) → NoneFree is
  listed-free [] s is n h = absurd h
  listed-free (l ∷ ls) s is n h = ⊎_elim (λ a. subst NoneFree a.2 n.0) (λ a. listed-free ls s is n.1 a) h

  over-free : FitsInsts G → (i s : ℕ) (is : List ℕ) → Over P (G i) i s is → NoneFree is
  over-free f zero s is h = absurd (subst (λ N. Over P N 0 s is) f.is_free h)
  over-free f (suc zero) s is h = subst NoneFree (subst (λ N. Over P N 1 s is) f.is_ground h) (replicated-free (P.symbols s).name.arity 1 (λ e. cc))
  over-free f (suc (suc zero)) s is h = subst NoneFree (subst (λ N. Over P N 2 s is) f.is_unique h) (replicated-free (P.symbols s).name.arity 2 (λ e. cc))
  over-free f (suc (suc (suc zero))) s is h = subst NoneFree (subst (λ N. Over P N 3 s is) f.is_dead h) (replicated-free (P.symbols s).name.arity 3 (λ e. cc))
  over-free f (suc (suc (suc (suc i)))) s is h = let b = f.are_bound i in listed-free b.0 s is b.2 (subst (λ N. Over P N (suc (suc (suc (suc i)))) s is) b.1 h)

-- ---- builtin nodes
module _ (P : Source) (m n : ℕ) (G H : Graph) (lm : 3 < m) (ln : 3 < n) (here : FitsInsts G) (there : FitsInsts H) where
  -- two builtin nodes of one rank allow the same
  one-rank : (i r : ℕ) → 1 ≤ r → rank (G i) ≡ r → rank (H i) ≡ r → (t : TypeTerm) (path : Path) (e : Tip) → Allows P G path e i t ↔ Allows P H path e i t
  one-rank i r l p q t path e = (
    (λ a. builtin_more P G H i i (subst (λ k. 1 ≤ k) (sym p) l) (subst (λ k. k ≤ rank (H i)) (sym p) (subst (λ k. r ≤ k) (sym q) (le_refl r))) path e t a),
    (λ a. builtin_more P H G i i (subst (λ k. 1 ≤ k) (sym q) l) (subst (λ k. k ≤ rank (G i)) (sym q) (subst (λ k. r ≤ k) (sym p) (le_refl r))) path e t a),
  )

  pub free-one : (t : TypeTerm) → MeanOne P m G n H t 0 0
  free-one t =
      record {
        here = omega (arith, lm);
        there = omega (arith, ln);
        bound = refl;
        tidy_here = free-tidy P G 0 t here.is_free;
        tidy_there = free-tidy P H 0 t there.is_free;
        same = λ path e. ((λ a. absurd (free-allows P G path e 0 t here.is_free a)), (λ a. absurd (free-allows P H path e 0 t there.is_free a)));
      }

  pub ground-one : (t : TypeTerm) → MeanOne P m G n H t 1 1
  ground-one t =
      record {
        here = omega (arith, lm);
        there = omega (arith, ln);
        bound = refl;
        tidy_here = ground-tidy P G 1 t here.is_ground;
        tidy_there = ground-tidy P H 1 t there.is_ground;
        same = one-rank 1 2 (omega arith) (ap rank here.is_ground) (ap rank there.is_ground) t;
      }

  pub unique-one : MeanOne P m G n H state_type 2 2
  unique-one =
      record {
        here = omega (arith, lm);
        there = omega (arith, ln);
        bound = refl;
        tidy_here = state-tidy P G 2;
        tidy_there = state-tidy P H 2;
        same = one-rank 2 1 (omega arith) (ap rank here.is_unique) (ap rank there.is_unique) state_type;
      }

  pub gone-one : MeanOne P m G n H state_type 3 3
  gone-one =
      record {
        here = lm;
        there = ln;
        bound = refl;
        tidy_here = state-tidy P G 3;
        tidy_there = state-tidy P H 3;
        same = one-rank 3 3 (omega arith) (ap rank here.is_dead) (ap rank there.is_dead) state_type;
      }

pub builtin-nodes-mean-one : BuiltinNodesMeanOne
builtin-nodes-mean-one P m n G H lm ln here there t = (free-one P m n G H lm ln here there t, ground-one P m n G H lm ln here there t, unique-one P m n G H lm ln here there, gone-one P m n G H lm ln here there)

-- ---- places
none-free-at : (is : List ℕ) (k : ℕ) → NoneFree is → k < length is → get_or is k 0 ≢ 0
none-free-at [] k n lt = absurd (omega arith)
none-free-at (i ∷ is) zero n lt = n.0
none-free-at (i ∷ is) (suc k) n lt = none-free-at is k n.1 (omega arith)

place-in : (is : List ℕ) (k : ℕ) → k < length is → In (get_or is k 0) is
place-in [] k lt = absurd (omega arith)
place-in (i ∷ is) zero lt = inl refl
place-in (i ∷ is) (suc k) lt = inr (place-in is k (omega arith))

-- a constructor's types, by any constructor of its name
types-of : (P : Source) → NamedApart P → (s r : ℕ) (t : TypeTerm) (ts : List TypeTerm) (Q : List TypeTerm → Type 0) → constructor_types P s t ≡ Some ts → SameName (P.symbols s).name (P.symbols r).name → OnTypes (argument_types P r t) Q → argument_types P r t ≡ Some ts
types-of P apart s r int_type ts Q e n h = absurd (cc e)
types-of P apart s r char_type ts Q e n h = absurd (cc e)
types-of P apart s r string_type ts Q e n h = absurd (cc e)
types-of P apart s r state_type ts Q e n h = absurd (cc e)
types-of P apart s r (variable_type v) ts Q e n h = absurd (cc e)
types-of P apart s r (union_type u us) ts Q e n h = ap (λ x. argument_types P x (union_type u us)) (sym same) ∙ e
  where
    there : (t : Bool) (o : Option (List TypeTerm)) → cond t o None ≡ Some ts → t ≡ true
    there true o q = refl
    there false o q = absurd (cc q)

    there-too : (t : Bool) (o : Option (List TypeTerm)) → OnTypes (cond t o None) Q → t ≡ true
    there-too true o q = refl
    there-too false o q = absurd q

    of-s : (nat_eq (P.symbols s).of_type u && is_in s (P.symbols_of u)) ≡ true
    of-s = there (nat_eq (P.symbols s).of_type u && is_in s (P.symbols_of u)) _ e

    of-r : (nat_eq (P.symbols r).of_type u && is_in r (P.symbols_of u)) ≡ true
    of-r = there-too (nat_eq (P.symbols r).of_type u && is_in r (P.symbols_of u)) _ h

    same : s ≡ r
    same =
        apart u s r (and-right (nat_eq (P.symbols s).of_type u) (is_in s (P.symbols_of u)) of-s) (and-right (nat_eq (P.symbols r).of_type u) (is_in r (P.symbols_of u)) of-r)
        (eqb-true (P.symbols s).of_type u (and-left (nat_eq (P.symbols s).of_type u) (is_in s (P.symbols_of u)) of-s)) (eqb-true (P.symbols r).of_type u (and-left (nat_eq (P.symbols r).of_type u) (is_in r (P.symbols_of u)) of-r)) n

pub types-there : (P : Source) (s : ℕ) (t : TypeTerm) (ts : List TypeTerm) → constructor_types P s t ≡ Some ts → argument_types P s t ≡ Some ts
types-there P s int_type ts e = absurd (cc e)
types-there P s char_type ts e = absurd (cc e)
types-there P s string_type ts e = absurd (cc e)
types-there P s state_type ts e = absurd (cc e)
types-there P s (variable_type v) ts e = absurd (cc e)
types-there P s (union_type u us) ts e = e

abbrev length_in : Option (List TypeTerm) → ℕ
length_in None = 0
length_in (Some ts) = length ts

types-many : (P : Source) (s : ℕ) (t : TypeTerm) (ts : List TypeTerm) → constructor_types P s t ≡ Some ts → length ts ≡ length (P.symbols s).args
types-many P s int_type ts e = absurd (cc e)
types-many P s char_type ts e = absurd (cc e)
types-many P s string_type ts e = absurd (cc e)
types-many P s state_type ts e = absurd (cc e)
types-many P s (variable_type v) ts e = absurd (cc e)
types-many P s (union_type u us) ts e = at (nat_eq (P.symbols s).of_type u && is_in s (P.symbols_of u)) e
  where
    at : (t : Bool) → cond t (Some (map (instance_of (type_at us)) (P.symbols s).args)) None ≡ Some ts → length ts ≡ length (P.symbols s).args
    at true q = ap (λ o. length_in o) (sym q) ∙ length-map (P.symbols s).args (instance_of (type_at us))
    at false q = absurd (cc q)

-- ---- one symbol over insts, in a graph
module _ (P : Source) (apart : NamedApart P) (G : Graph) (k s : ℕ) (is : List ℕ) (over : IsOver P G k s is) where
  -- what is allowed is that symbol, over those insts
  over-in : (r : ℕ) (t : TypeTerm) (ts : List TypeTerm) (Q : List TypeTerm → List ℕ → Type 0) → constructor_types P s t ≡ Some ts → OnTypes (argument_types P r t) (λ us. AllowsSymbol P (G k) k r (Q us)) →
      SameName (P.symbols s).name (P.symbols r).name × (argument_types P r t ≡ Some ts) × Q ts is
  over-in r t ts Q e h = (name, same, (listed ts (types-are (argument_types P r t) ts (λ us. AllowsSymbol P (G k) k r (Q us)) same h)).1)
    where
      listed : (us : List TypeTerm) → AllowsSymbol P (G k) k r (Q us) → SameName (P.symbols s).name (P.symbols r).name × Q us is
      listed us a = ⊎_elim (λ x. ((x.0, x.1), x.2)) (λ b. absurd b) (subst (λ N. AllowsSymbol P N k r (Q us)) over a)

      name : SameName (P.symbols s).name (P.symbols r).name
      name = at (argument_types P r t) h
        where
          at : (o : Option (List TypeTerm)) → OnTypes o (λ us. AllowsSymbol P (G k) k r (Q us)) → SameName (P.symbols s).name (P.symbols r).name
          at None h = absurd h
          at (Some us) h = (listed us h).0

      same : argument_types P r t ≡ Some ts
      same = types-of P apart s r t ts (λ us. AllowsSymbol P (G k) k r (Q us)) e name h

  over-out : (r : ℕ) (t : TypeTerm) (ts : List TypeTerm) (Q : List TypeTerm → List ℕ → Type 0) → SameName (P.symbols s).name (P.symbols r).name → argument_types P r t ≡ Some ts → Q ts is → OnTypes (argument_types P r t) (λ us. AllowsSymbol P (G k) k r (Q us))
  over-out r t ts Q name e q = to-types (argument_types P r t) ts (λ us. AllowsSymbol P (G k) k r (Q us)) e (subst (λ N. AllowsSymbol P N k r (Q ts)) (sym over) (inl (name.0, name.1, q)))

  over-tidy : (t : TypeTerm) (ts : List TypeTerm) → constructor_types P s t ≡ Some ts → ((a : ℕ) → a < length is → Tidy P G (get_or is a 0) (get_or ts a (variable_type 0))) → Tidy P G k t
  over-tidy t ts e f [] j u h w = absurd (plain-not (G k) (G j) (ap G h.0) (subst Plain (sym over) tt) w)
  over-tidy t ts e f ((r, a) ∷ path) j u h w =
      let x = over-in r t ts (λ us js. (a < length js) × Leads P G path j u (get_or js a 0) (get_or us a (variable_type 0))) e h in
      f a x.2.0 path j u x.2.1 w

over-path : (P : Source) → NamedApart P → (G H : Graph) (k l s : ℕ) (is js : List ℕ) → IsOver P G k s is → IsOver P H l s js → (t : TypeTerm) (ts : List TypeTerm) → constructor_types P s t ≡ Some ts → length is ≡ length js →
    ((a : ℕ) (path : Path) (e : Tip) → a < length is → Allows P G path e (get_or is a 0) (get_or ts a (variable_type 0)) → Allows P H path e (get_or js a 0) (get_or ts a (variable_type 0))) →
    (path : Path) (e : Tip) → Allows P G path e k t → Allows P H path e l t
over-path P apart G H k l s is js o q t ts e n f [] (symbol_tip r) h =
    let x = over-in P apart G k s is o r t ts (λ us js. Unit {0}) e h in
    over-out P apart H l s js q r t ts (λ us js. Unit {0}) x.0 x.1 tt
over-path P apart G H k l s is js o q t ts e n f [] (constant_tip b) h = absurd (subst AllowsConstants o h.1)
over-path P apart G H k l s is js o q t ts e n f [] (state_tip m) h = absurd (subst (λ N. AllowsMark N m) o h.1)
over-path P apart G H k l s is js o q t ts e n f ((r, a) ∷ path) d h =
    let x = over-in P apart G k s is o r t ts (λ us js. (a < length js) × Allows P G path d (get_or js a 0) (get_or us a (variable_type 0))) e h in
    over-out P apart H l s js q r t ts (λ us js. (a < length js) × Allows P H path d (get_or js a 0) (get_or us a (variable_type 0))) x.0 x.1 (subst (λ y. a < y) n x.2.0, f a path d x.2.0 x.2.1)

-- a node that is narrowed
module _ (P : Source) (G : Graph) (f : FitsInsts G) (i s : ℕ) (is : List ℕ) (over : Over P (G i) i s is) (t : TypeTerm) (ts : List TypeTerm) (e : argument_types P s t ≡ Some ts) where
  down : (Q : List TypeTerm → List ℕ → Type 0) → OnTypes (argument_types P s t) (λ us. AllowsSymbol P (G i) i s (Q us)) → Q ts is
  down Q h = over_once P (G i) i s is (Q ts) (f.proper i) over (types-are (argument_types P s t) ts (λ us. AllowsSymbol P (G i) i s (Q us)) e h)

  up : (Q : List TypeTerm → List ℕ → Type 0) → Q ts is → OnTypes (argument_types P s t) (λ us. AllowsSymbol P (G i) i s (Q us))
  up Q q = to-types (argument_types P s t) ts (λ us. AllowsSymbol P (G i) i s (Q us)) e (over_allows P (G i) i s (Q ts) is over q)

  path-down : (k : ℕ) (path : Path) (d : Tip) → Allows P G ((s, k) ∷ path) d i t → Allows P G path d (get_or is k 0) (get_or ts k (variable_type 0))
  path-down k path d h = (down (λ us js. (k < length js) × Allows P G path d (get_or js k 0) (get_or us k (variable_type 0))) h).1

  path-up : (k : ℕ) (path : Path) (d : Tip) → k < length is → Allows P G path d (get_or is k 0) (get_or ts k (variable_type 0)) → Allows P G ((s, k) ∷ path) d i t
  path-up k path d lt h = up (λ us js. (k < length js) × Allows P G path d (get_or js k 0) (get_or us k (variable_type 0))) (lt, h)

  tidy-down : (k : ℕ) → k < length is → Tidy P G i t → Tidy P G (get_or is k 0) (get_or ts k (variable_type 0))
  tidy-down k lt y path j u h w = y ((s, k) ∷ path) j u (up (λ us js. (k < length js) × Leads P G path j u (get_or js k 0) (get_or us k (variable_type 0))) (lt, h)) w

-- ---- inclusion, by what is free and what is dead
abbrev is_free : InstNode → Bool
is_free free = true
is_free ground = false
is_free unique = false
is_free dead = false
is_free (bound ls) = false

is-free : (N : InstNode) → is_free N ≡ true → N ≡ free
is-free free e = refl
is-free ground e = absurd (cc e)
is-free unique e = absurd (cc e)
is-free dead e = absurd (cc e)
is-free (bound ls) e = absurd (cc e)

abbrev IncludedWhere : (free_here dead_here free_there dead_there : Bool) → Type 0 → Type 0
IncludedWhere true d true e Q = Unit {0}
IncludedWhere true d false e Q = ⊥
IncludedWhere false true f true Q = Unit {0}
IncludedWhere false true f false Q = ⊥
IncludedWhere false false true e Q = ⊥
IncludedWhere false false false true Q = Unit {0}
IncludedWhere false false false false Q = Q

abbrev Where : InstNode → InstNode → Type 0 → Type 0
Where N M Q = IncludedWhere (is_free N) (is_dead N) (is_free M) (is_dead M) Q

to-where : (N M : InstNode) (Q : Type 0) → IncludedNodes N M Q → Where N M Q
to-where free free Q h = tt
to-where free ground Q h = h
to-where free unique Q h = h
to-where free dead Q h = h
to-where free (bound ms) Q h = h
to-where ground free Q h = h
to-where ground ground Q h = h
to-where ground unique Q h = h
to-where ground dead Q h = tt
to-where ground (bound ms) Q h = h
to-where unique free Q h = h
to-where unique ground Q h = h
to-where unique unique Q h = h
to-where unique dead Q h = tt
to-where unique (bound ms) Q h = h
to-where dead free Q h = h
to-where dead ground Q h = h
to-where dead unique Q h = h
to-where dead dead Q h = tt
to-where dead (bound ms) Q h = h
to-where (bound ls) free Q h = h
to-where (bound ls) ground Q h = h
to-where (bound ls) unique Q h = h
to-where (bound ls) dead Q h = tt
to-where (bound ls) (bound ms) Q h = h

from-where : (N M : InstNode) (Q : Type 0) → Where N M Q → IncludedNodes N M Q
from-where free free Q h = tt
from-where free ground Q h = h
from-where free unique Q h = h
from-where free dead Q h = h
from-where free (bound ms) Q h = h
from-where ground free Q h = h
from-where ground ground Q h = h
from-where ground unique Q h = h
from-where ground dead Q h = tt
from-where ground (bound ms) Q h = h
from-where unique free Q h = h
from-where unique ground Q h = h
from-where unique unique Q h = h
from-where unique dead Q h = tt
from-where unique (bound ms) Q h = h
from-where dead free Q h = h
from-where dead ground Q h = h
from-where dead unique Q h = h
from-where dead dead Q h = tt
from-where dead (bound ms) Q h = h
from-where (bound ls) free Q h = h
from-where (bound ls) ground Q h = h
from-where (bound ls) unique Q h = h
from-where (bound ls) dead Q h = tt
from-where (bound ls) (bound ms) Q h = h

where-more : (a b c d : Bool) (Q S : Type 0) → (Q → S) → IncludedWhere a b c d Q → IncludedWhere a b c d S
where-more true b true d Q S f h = tt
where-more true b false d Q S f h = h
where-more false true c true Q S f h = tt
where-more false true c false Q S f h = h
where-more false false true d Q S f h = h
where-more false false false true Q S f h = tt
where-more false false false false Q S f h = f h

included-over : (N M N' M' : InstNode) (Q S : Type 0) → is_free N ≡ is_free N' → is_dead N ≡ is_dead N' → is_free M ≡ is_free M' → is_dead M ≡ is_dead M' → (Q → S) → IncludedNodes N M Q → IncludedNodes N' M' S
included-over N M N' M' Q S a b c d f h =
    from-where N' M' S
    (subst (λ x. IncludedWhere (is_free N') (is_dead N') (is_free M') x S) d
    (subst (λ x. IncludedWhere (is_free N') (is_dead N') x (is_dead M) S) c
    (subst (λ x. IncludedWhere (is_free N') x (is_free M) (is_dead M) S) b
    (subst (λ x. IncludedWhere x (is_dead N) (is_free M) (is_dead M) S) a (where-more (is_free N) (is_dead N) (is_free M) (is_dead M) Q S f (to-where N M Q h))))))

-- ---- constants
pub takes-itself : (v : Val) (t : TypeTerm) → ConstantOf v t → takes t t ≡ true
takes-itself (int z) t e = subst (λ x. takes x x ≡ true) (sym e) refl
takes-itself (char c) t e = subst (λ x. takes x x ≡ true) (sym e) refl
takes-itself (str b) t e = subst (λ x. takes x x ≡ true) (sym e) refl
takes-itself (con s vs) t e = absurd e
takes-itself (state w k) t e = absurd e

module _ (P : Source) (G : Graph) where
  constants-there : (N : InstNode) → node_takes_constants P G N ≡ true → AllowsConstants N
  constants-there free e = absurd (cc e)
  constants-there ground e = tt
  constants-there unique e = tt
  constants-there dead e = tt
  constants-there (bound ls) e = absurd (cc e)

  there-constants : (N : InstNode) → AllowsConstants N → node_takes_constants P G N ≡ true
  there-constants free h = absurd h
  there-constants ground h = refl
  there-constants unique h = refl
  there-constants dead h = refl
  there-constants (bound ls) h = absurd h

-- ---- nodes of two graphs
module _ (P : Source) (D : Parameters) (m n : ℕ) (G H : Graph) (C E : NodeOracle) (types : FitsTypes P D) (apart : NamedApart P) (here : Finds P m G C) (there : Finds P n H E) where
  abbrev Rel : TypeTerm → ℕ → ℕ → Type 0
  Rel t i j = MeanOne P m G n H t i j

  abbrev Each : List TypeTerm → List ℕ → List ℕ → Type 0
  Each ts is js = EachRelated (of_nodes C) (of_nodes E) Rel ts is js

  dead-there : (t : TypeTerm) (i j : ℕ) → Rel t i j → G i ≡ dead → H j ≡ dead
  dead-there t i j r q = is-gone (H j) ((r.same [] (state_tip gone)).0 (gone-there P G i t r.tidy_here q)).1

  dead-here : (t : TypeTerm) (i j : ℕ) → Rel t i j → H j ≡ dead → G i ≡ dead
  dead-here t i j r q = is-gone (G i) ((r.same [] (state_tip gone)).1 (gone-there P H j t r.tidy_there q)).1

  dead-same : (t : TypeTerm) (i j : ℕ) → Rel t i j → is_dead (G i) ≡ is_dead (H j)
  dead-same t i j r = same-bits (is_dead (G i)) (is_dead (H j)) (λ e. ap is_dead (dead-there t i j r (is-dead (G i) e))) (λ e. ap is_dead (dead-here t i j r (is-dead (H j) e)))

  free-there : (t : TypeTerm) (i j : ℕ) → Rel t i j → G i ≡ free → H j ≡ free
  free-there t i j r q = ap H (unset-is j (sym r.bound ∙ ap is_bound (free-number G here.insts i q))) ∙ there.insts.is_free

  free-here : (t : TypeTerm) (i j : ℕ) → Rel t i j → H j ≡ free → G i ≡ free
  free-here t i j r q = ap G (unset-is i (r.bound ∙ ap is_bound (free-number H there.insts j q))) ∙ here.insts.is_free

  -- ---- one symbol over insts
  each-length : (ts : List TypeTerm) (is js : List ℕ) → Each ts is js → length is ≡ length js
  each-length [] [] [] r = refl
  each-length [] [] (j ∷ js) r = absurd r
  each-length [] (i ∷ is) js r = absurd r
  each-length (t ∷ ts) [] js r = absurd r
  each-length (t ∷ ts) (i ∷ is) [] r = absurd r
  each-length (t ∷ ts) (i ∷ is) (j ∷ js) r = ap suc (each-length ts is js r.1)

  each-at : (ts : List TypeTerm) (is js : List ℕ) (k : ℕ) → Each ts is js → k < length is → Rel (get_or ts k (variable_type 0)) (get_or is k 0) (get_or js k 0)
  each-at [] [] js k r lt = absurd (omega arith)
  each-at [] (i ∷ is) js k r lt = absurd r
  each-at (t ∷ ts) [] js k r lt = absurd r
  each-at (t ∷ ts) (i ∷ is) [] k r lt = absurd r
  each-at (t ∷ ts) (i ∷ is) (j ∷ js) zero r lt = r.0
  each-at (t ∷ ts) (i ∷ is) (j ∷ js) (suc k) r lt = each-at ts is js k r.1 (omega arith)

  each-from : (ts : List TypeTerm) (is js : List ℕ) → length is ≡ length ts → length js ≡ length ts → ((k : ℕ) → k < length ts → Rel (get_or ts k (variable_type 0)) (get_or is k 0) (get_or js k 0)) → Each ts is js
  each-from [] [] [] p q f = tt
  each-from [] [] (j ∷ js) p q f = absurd (omega (arith, q))
  each-from [] (i ∷ is) js p q f = absurd (omega (arith, p))
  each-from (t ∷ ts) [] js p q f = absurd (omega (arith, p))
  each-from (t ∷ ts) (i ∷ is) [] p q f = absurd (omega (arith, q))
  each-from (t ∷ ts) (i ∷ is) (j ∷ js) p q f = (f 0 (omega arith), each-from ts is js (omega (arith, p)) (omega (arith, q)) (λ k lt. f (suc k) (omega (arith, lt))))

  over-related : (t : TypeTerm) (ts : List TypeTerm) (s : ℕ) (is js : List ℕ) → constructor_types P s t ≡ Some ts → Each ts is js → FoundRelated (of_nodes C) (of_nodes E) Rel t (C.over s is) (E.over s js)
  over-related t ts s is js e r = at (C.over s is) (E.over s js) refl refl
    where
      found : (k l : ℕ) → (k < m) × IsOver P G k s is → (l < n) × IsOver P H l s js → Rel t k l
      found k l x y =
          record {
            here = x.0;
            there = y.0;
            bound = is-set k (λ q. subst NotFree (sym x.1 ∙ (ap G q ∙ here.insts.is_free)) tt) ∙ sym (is-set l (λ q. subst NotFree (sym y.1 ∙ (ap H q ∙ there.insts.is_free)) tt));
            tidy_here = over-tidy P apart G k s is x.1 t ts e (λ a lt. (each-at ts is js a r lt).tidy_here);
            tidy_there = over-tidy P apart H l s js y.1 t ts e (λ a lt. (each-at ts is js a r (subst (λ z. a < z) (sym (each-length ts is js r)) lt)).tidy_there);
            same = λ path d. (
              over-path P apart G H k l s is js x.1 y.1 t ts e (each-length ts is js r) (λ a p c lt. ((each-at ts is js a r lt).same p c).0) path d,
              over-path P apart H G l k s js is y.1 x.1 t ts e (sym (each-length ts is js r)) (λ a p c lt. ((each-at ts is js a r (subst (λ z. a < z) (sym (each-length ts is js r)) lt)).same p c).1) path d,
            );
          }

      at : (o q : Option ℕ) → C.over s is ≡ o → E.over s js ≡ q → FoundRelated (of_nodes C) (of_nodes E) Rel t o q
      at None q x y = tt
      at (Some k) None x y = tt
      at (Some k) (Some l) x y = found k l (here.over s k is x) (there.over s l js y)

  -- ---- insts of arguments
  narrowed-related : (t : TypeTerm) (ts : List TypeTerm) (s i j : ℕ) → constructor_types P s t ≡ Some ts → Rel t i j → NarrowedRelated (of_nodes C) (of_nodes E) Rel ts (C.narrowed i s) (E.narrowed j s)
  narrowed-related t ts s i j e r = at (C.narrowed i s) (E.narrowed j s) refl refl (here.narrowed i s r.here) (there.narrowed j s r.there)
    where
      args : argument_types P s t ≡ Some ts
      args = types-there P s t ts e

      many : length ts ≡ (P.symbols s).name.arity
      many = types-many P s t ts e ∙ sym (types.arities s)

      allowed : (K : Graph) (k : ℕ) (is : List ℕ) → Over P (K k) k s is → Allows P K [] (symbol_tip s) k t
      allowed K k is o = to-types (argument_types P s t) ts (λ us. AllowsSymbol P (K k) k s (λ js. Unit {0})) args (over_allows P (K k) k s (λ js. Unit {0}) is o tt)

      both : (is js : List ℕ) → Over P (G i) i s is → Over P (H j) j s js → Below m is → Below n js → Each ts is js
      both is js o q bi bj = each-from ts is js (over_length P (G i) i s is (here.insts.proper i) o ∙ sym many) (over_length P (H j) j s js (there.insts.proper j) q ∙ sym many) child
        where
          child : (k : ℕ) → k < length ts → Rel (get_or ts k (variable_type 0)) (get_or is k 0) (get_or js k 0)
          child k lt =
              let li : k < length is = subst (λ z. k < z) (many ∙ sym (over_length P (G i) i s is (here.insts.proper i) o)) lt in
              let lj : k < length js = subst (λ z. k < z) (many ∙ sym (over_length P (H j) j s js (there.insts.proper j) q)) lt in
              record {
                here = bi (get_or is k 0) (place-in is k li);
                there = bj (get_or js k 0) (place-in js k lj);
                bound = is-set (get_or is k 0) (none-free-at is k (over-free P G here.insts i s is o) li) ∙ sym (is-set (get_or js k 0) (none-free-at js k (over-free P H there.insts j s js q) lj));
                tidy_here = tidy-down P G here.insts i s is o t ts args k li r.tidy_here;
                tidy_there = tidy-down P H there.insts j s js q t ts args k lj r.tidy_there;
                same = λ path d. (
                  (λ a. path-down P H there.insts j s js q t ts args k path d ((r.same ((s, k) ∷ path) d).0 (path-up P G here.insts i s is o t ts args k path d li a))),
                  (λ a. path-down P G here.insts i s is o t ts args k path d ((r.same ((s, k) ∷ path) d).1 (path-up P H there.insts j s js q t ts args k path d lj a))),
                );
              }

      at : (o q : Option (List ℕ)) → C.narrowed i s ≡ o → E.narrowed j s ≡ q → Narrowed P G i s o → Narrowed P H j s q → NarrowedRelated (of_nodes C) (of_nodes E) Rel ts o q
      at None None x y a b = tt
      at None (Some js) x y a b = a (types-are (argument_types P s t) ts (λ us. AllowsSymbol P (G i) i s (λ ks. Unit {0})) args ((r.same [] (symbol_tip s)).1 (allowed H j js b)))
      at (Some is) None x y a b = b (types-are (argument_types P s t) ts (λ us. AllowsSymbol P (H j) j s (λ ks. Unit {0})) args ((r.same [] (symbol_tip s)).0 (allowed G i is a)))
      at (Some is) (Some js) x y a b = both is js a b (here.closed i s is r.here x) (there.closed j s js r.there y)

  -- ---- insts that are joined
  abbrev Alls : TypeTerm → List ℕ → List ℕ → Type 0
  Alls t is js = AllRelated (of_nodes C) (of_nodes E) Rel t is js

  below-here : (t : TypeTerm) (is js : List ℕ) → Alls t is js → Below m is
  below-here t [] js r x i = absurd i
  below-here t (i ∷ is) [] r x k = absurd r
  below-here t (i ∷ is) (j ∷ js) r x k = ⊎_elim (λ e. subst (λ z. z < m) (sym e) r.0.here) (λ l. below-here t is js r.1 x l) k

  below-there : (t : TypeTerm) (is js : List ℕ) → Alls t is js → Below n js
  below-there t is [] r x i = absurd i
  below-there t [] (j ∷ js) r x k = absurd r
  below-there t (i ∷ is) (j ∷ js) r x k = ⊎_elim (λ e. subst (λ z. z < n) (sym e) r.0.there) (λ l. below-there t is js r.1 x l) k

  tidy-each-here : (t : TypeTerm) (is js : List ℕ) → Alls t is js → EachIsTidy P G is t
  tidy-each-here t [] js r = tt
  tidy-each-here t (i ∷ is) [] r = absurd r
  tidy-each-here t (i ∷ is) (j ∷ js) r = (r.0.tidy_here, tidy-each-here t is js r.1)

  tidy-each-there : (t : TypeTerm) (is js : List ℕ) → Alls t is js → EachIsTidy P H js t
  tidy-each-there t is [] r = tt
  tidy-each-there t [] (j ∷ js) r = absurd r
  tidy-each-there t (i ∷ is) (j ∷ js) r = (r.0.tidy_there, tidy-each-there t is js r.1)

  -- what one allows is allowed above the others
  one-there : (t : TypeTerm) (is js : List ℕ) (l : ℕ) (path : Path) (d : Tip) → Alls t is js → NoneMore P H js H l t → OneAllows P G is path d t → Allows P H path d l t
  one-there t [] js l path d r a h = absurd h
  one-there t (i ∷ is) [] l path d r a h = absurd r
  one-there t (i ∷ is) (j ∷ js) l path d r a h = ⊎_elim (λ x. a.0 path d ((r.0.same path d).0 x)) (λ x. one-there t is js l path d r.1 a.1 x) h

  one-here : (t : TypeTerm) (is js : List ℕ) (k : ℕ) (path : Path) (d : Tip) → Alls t is js → NoneMore P G is G k t → OneAllows P H js path d t → Allows P G path d k t
  one-here t is [] k path d r a h = absurd h
  one-here t [] (j ∷ js) k path d r a h = absurd r
  one-here t (i ∷ is) (j ∷ js) k path d r a h = ⊎_elim (λ x. a.0 path d ((r.0.same path d).1 x)) (λ x. one-here t is js k path d r.1 a.1 x) h

  abbrev Bits : Bool → List ℕ → Type 0
  Bits b is = AreBound (of_nodes C) (of_nodes E) Rel b is

  free-lists : (t : TypeTerm) (is js : List ℕ) → Alls t is js → Bits false is → AllFree G is × AllFree H js
  free-lists t [] [] r b = (tt, tt)
  free-lists t [] (j ∷ js) r b = absurd r
  free-lists t (i ∷ is) [] r b = absurd r
  free-lists t (i ∷ is) (j ∷ js) r b =
      let x = free-lists t is js r.1 b.1 in
      let q : G i ≡ free = ap G (unset-is i b.0) ∙ here.insts.is_free in
      ((q, x.0), (free-there t i j r.0 q, x.1))

  bound-lists : (t : TypeTerm) (is js : List ℕ) → Alls t is js → Bits true is → NoneIs free G is × NoneIs free H js
  bound-lists t [] [] r b = (tt, tt)
  bound-lists t [] (j ∷ js) r b = absurd r
  bound-lists t (i ∷ is) [] r b = absurd r
  bound-lists t (i ∷ is) (j ∷ js) r b =
      let x = bound-lists t is js r.1 b.1 in
      (((λ q. set-is i b.0 (free-number G here.insts i q)), x.0), ((λ q. set-is i b.0 (free-number G here.insts i (free-here t i j r.0 q))), x.1))

  joined-bound : (t : TypeTerm) (b : Bool) (is js : List ℕ) (k l : ℕ) → Alls t is js → Bits b is → Joined P G is k t → Joined P H js l t → is_bound k ≡ is_bound l
  joined-bound t true is js k l r b x y =
      let f = bound-lists t is js r b in
      is-set k (λ q. x.none_free f.0 (ap G q ∙ here.insts.is_free)) ∙ sym (is-set l (λ q. y.none_free f.1 (ap H q ∙ there.insts.is_free)))
  joined-bound t false is js k l r b x y =
      let f = free-lists t is js r b in
      ap is_bound (free-number G here.insts k (x.all_free f.0)) ∙ sym (ap is_bound (free-number H there.insts l (y.all_free f.1)))

  joined-related : (t : TypeTerm) (b : Bool) (is js : List ℕ) → Bits b is → Alls t is js → FoundRelated (of_nodes C) (of_nodes E) Rel t (C.joined t is) (E.joined t js)
  joined-related t b is js w r = at (C.joined t is) (E.joined t js) refl refl
    where
      found : (k l : ℕ) → (k < m) × Joined P G is k t → (l < n) × Joined P H js l t → Rel t k l
      found k l x y =
          record {
            here = x.0;
            there = y.0;
            bound = joined-bound t b is js k l r w x.1 y.1;
            tidy_here = x.1.tidy;
            tidy_there = y.1.tidy;
            same = λ path d. ((λ a. one-there t is js l path d r y.1.above (x.1.exact path d a)), (λ a. one-here t is js k path d r x.1.above (y.1.exact path d a)));
          }

      at : (o q : Option ℕ) → C.joined t is ≡ o → E.joined t js ≡ q → FoundRelated (of_nodes C) (of_nodes E) Rel t o q
      at None q x y = tt
      at (Some k) None x y = tt
      at (Some k) (Some l) x y = found k l (here.joined t k is (below-here t is js r) (tidy-each-here t is js r) x) (there.joined t l js (below-there t is js r) (tidy-each-there t is js r) y)

  -- ---- tests
  constants-same : (t : TypeTerm) (v : Val) (i j : ℕ) → ConstantOf v t → Rel t i j → C.takes_constants i ≡ E.takes_constants j
  constants-same t v i j c r =
      here.constants i r.here
      ∙ (same-bits (node_takes_constants P G (G i)) (node_takes_constants P H (H j))
      (λ e. there-constants P H (H j) ((r.same [] (constant_tip t)).0 (takes-itself v t c, constants-there P G (G i) e)).1)
      (λ e. there-constants P G (G i) ((r.same [] (constant_tip t)).1 (takes-itself v t c, constants-there P H (H j) e)).1)
      ∙ sym (there.constants j r.there))

  free-same : (t : TypeTerm) (i j : ℕ) → Rel t i j → is_free (G i) ≡ is_free (H j)
  free-same t i j r = same-bits (is_free (G i)) (is_free (H j)) (λ e. ap is_free (free-there t i j r (is-free (G i) e))) (λ e. ap is_free (free-here t i j r (is-free (H j) e)))

  fits-same : (t : TypeTerm) (i j k l : ℕ) → Rel t i j → Rel t k l → C.fits i k t ≡ E.fits j l t
  fits-same t i j k l r q =
      same-bits (C.fits i k t) (E.fits j l t)
      (λ e. (there.fits j l t r.there q.there).1
      (included-over (G i) (G k) (H j) (H l) (NoMore P G i k t) (NoMore P H j l t) (free-same t i j r) (dead-same t i j r) (free-same t k l q) (dead-same t k l q)
      (λ more path d a. (q.same path d).0 (more path d ((r.same path d).1 a))) ((here.fits i k t r.here q.here).0 e)))
      (λ e. (here.fits i k t r.here q.here).1
      (included-over (H j) (H l) (G i) (G k) (NoMore P H j l t) (NoMore P G i k t) (sym (free-same t i j r)) (sym (dead-same t i j r)) (sym (free-same t k l q)) (sym (dead-same t k l q))
      (λ more path d a. (q.same path d).1 (more path d ((r.same path d).0 a))) ((there.fits j l t r.there q.there).0 e)))

  pub nodes-related : Related (of_nodes C) (of_nodes E) Rel P
  nodes-related =
      record {
        bound = λ t i j r. r.bound;
        dead = λ t i j r. here.dies i r.here ∙ (dead-same t i j r ∙ sym (there.dies j r.there));
        free = free-one P m n G H here.some there.some here.insts there.insts;
        ground_there = ground-one P m n G H here.some there.some here.insts there.insts;
        gone = gone-one P m n G H here.some there.some here.insts there.insts;
        over = over-related;
        joined = λ t b i is j js w r. joined-related t b (i ∷ is) (j ∷ js) w r;
        narrowed = narrowed-related;
        constants = constants-same;
        fits = fits-same;
      }

pub one-order-over-nodes : OneOrderOverNodes
one-order-over-nodes P D m n G H C E counts declared other T types apart here there dec next xs is ls js ms g a t w v ri rl p q =
    one-verdict (of_nodes C) (of_nodes E) (MeanOne P m G n H) P (λ p. counts p ≡ true) declared other T next (nodes-related P D m n G H C E types apart here there) dec next xs is ls js ms g a t w v (le_refl next) ri rl p q
