-- Tidy insts: at instances of types, of one symbol, of the arguments of a symbol, and after calls.
use Rattle.std.proofs.Common.{◌≡◌, ◌≢◌, ◌⊎◌, inl, inr, ℕ, zero, suc, ◌+◌, ◌<◌, ◌≤◌, Bool, true, false, cond, not, nat_eq, ◌&&◌, ◌||◌, List, [], ◌∷◌, length, get_or, replicate, map, Option, Some, None, refl, ap, sym, ◌∙◌, subst, ⊎_elim, arith}
use Rattle.std.proofs.lemmas.Bool.{eqb-true}
use Rattle.std.proofs.lemmas.List.{length-replicate, get_or-replicate}
use Rattle.mc_program.specs.Programs.{TypeTerm, int_type, char_type, string_type, state_type, variable_type, union_type, TypeTerms, no_types, type_then, Source}
use Rattle.mc_model.specs.Types.{type_at, instance_of, instances_of, argument_types}
use Rattle.mc_model.specs.Lists.{In, is_in}
use Rattle.mc_model.specs.Insts.{Listed, InstNode, free, ground, unique, dead, bound, Graph, AllowsSymbol}
use Rattle.mc_accepted.specs.Inclusion.{Path, OnTypes}
use Rattle.mc_accepted.specs.Tidy.{Leads, Tidy, EachTidy, EachIsTidy}
use Rattle.mc_accepted.specs.Typing.{constructor_types}
use Rattle.laws_language.proofs.Inclusions.{on_types_to, Over, allows_over, over_allows}
use Rattle.laws_language.proofs.FlatWhole.{is_in_true}
use Rattle.laws_order.specs.Tidying.{NamesOnce, TidyAtInstances}

-- ---- instances of types
-- a type with others for its variables, of which some may stay as they are
abbrev mutual
  Covers : TypeTerm → TypeTerm → Type 0
  Covers int_type t = t ≡ int_type
  Covers char_type t = t ≡ char_type
  Covers string_type t = t ≡ string_type
  Covers state_type t = t ≡ state_type
  Covers (variable_type v) t = Unit {0}
  Covers (union_type u ts) t = (us : TypeTerms) × (t ≡ union_type u us) × CoverEach ts us

  CoverEach : TypeTerms → TypeTerms → Type 0
  CoverEach no_types us = Unit {0}
  CoverEach (type_then t ts) no_types = ⊥
  CoverEach (type_then t ts) (type_then u us) = Covers t u × CoverEach ts us

mutual
  covers_instance : (σ : ℕ → TypeTerm) (t : TypeTerm) → Covers t (instance_of σ t)
  covers_instance σ int_type = refl
  covers_instance σ char_type = refl
  covers_instance σ string_type = refl
  covers_instance σ state_type = refl
  covers_instance σ (variable_type v) = tt
  covers_instance σ (union_type u ts) = (instances_of σ ts, refl, cover_instances σ ts)

  cover_instances : (σ : ℕ → TypeTerm) (ts : TypeTerms) → CoverEach ts (instances_of σ ts)
  cover_instances σ no_types = tt
  cover_instances σ (type_then t ts) = (covers_instance σ t, cover_instances σ ts)

covers_at : (ts us : TypeTerms) (k : ℕ) → CoverEach ts us → Covers (type_at ts k) (type_at us k)
covers_at no_types us k c = tt
covers_at (type_then t ts) no_types k c = absurd c
covers_at (type_then t ts) (type_then u us) zero c = c.0
covers_at (type_then t ts) (type_then u us) (suc k) c = covers_at ts us k c.1

mutual
  covers_argument : (ts us : TypeTerms) (a : TypeTerm) → CoverEach ts us → Covers (instance_of (type_at ts) a) (instance_of (type_at us) a)
  covers_argument ts us int_type c = refl
  covers_argument ts us char_type c = refl
  covers_argument ts us string_type c = refl
  covers_argument ts us state_type c = refl
  covers_argument ts us (variable_type v) c = covers_at ts us v c
  covers_argument ts us (union_type u args) c = (instances_of (type_at us) args, refl, cover_arguments ts us args c)

  cover_arguments : (ts us : TypeTerms) (args : TypeTerms) → CoverEach ts us → CoverEach (instances_of (type_at ts) args) (instances_of (type_at us) args)
  cover_arguments ts us no_types c = tt
  cover_arguments ts us (type_then a args) c = (covers_argument ts us a c, cover_arguments ts us args c)

covers_args : (ts us : TypeTerms) (args : List TypeTerm) (k : ℕ) → CoverEach ts us → Covers (get_or (map (instance_of (type_at ts)) args) k (variable_type 0)) (get_or (map (instance_of (type_at us)) args) k (variable_type 0))
covers_args ts us [] k c = tt
covers_args ts us (a ∷ args) zero c = covers_argument ts us a c
covers_args ts us (a ∷ args) (suc k) c = covers_args ts us args k c

covers_variables : (v : ℕ) (args : List TypeTerm) (k : ℕ) (u : TypeTerm) → Covers (get_or (map (λ t. variable_type v) args) k (variable_type 0)) u
covers_variables v [] k u = tt
covers_variables v (a ∷ args) zero u = tt
covers_variables v (a ∷ args) (suc k) u = covers_variables v args k u

covers_state : (t u : TypeTerm) → Covers t u → t ≡ state_type → u ≡ state_type
covers_state int_type u c e = cc
covers_state char_type u c e = cc
covers_state string_type u c e = cc
covers_state state_type u c e = c
covers_state (variable_type v) u c e = cc
covers_state (union_type n ts) u c e = cc

module _ (P : Source) (G : Graph) where
  -- one more argument on a path
  abbrev Goes : (i : ℕ) (s k : ℕ) → (ℕ → TypeTerm → Type 0) → List TypeTerm → Type 0
  Goes i s k N ts = AllowsSymbol P (G i) i s (λ is. (k < length is) × N (get_or is k 0) (get_or ts k (variable_type 0)))

  goes_as : (i s k : ℕ) (N M : ℕ → TypeTerm → Type 0) (ts us : List TypeTerm) → ((j : ℕ) → N j (get_or ts k (variable_type 0)) → M j (get_or us k (variable_type 0))) → Goes i s k N ts → Goes i s k M us
  goes_as i s k N M ts us f h =
      let o = allows_over P (G i) i s (λ is. (k < length is) × N (get_or is k 0) (get_or ts k (variable_type 0))) h in
      over_allows P (G i) i s (λ is. (k < length is) × M (get_or is k 0) (get_or us k (variable_type 0))) o.0 o.1 (o.2.0, f (get_or o.0 k 0) o.2.1)

  -- what an inst leads to at an instance, it leads to at the type too, or above a variable of it
  step_covered : (s k i : ℕ) (t v : TypeTerm) (N M : ℕ → TypeTerm → Type 0) → Covers t v → ((j : ℕ) (a b : TypeTerm) → Covers a b → N j b → M j a) → OnTypes (argument_types P s v) (λ ts. Goes i s k N ts) → OnTypes (argument_types P s t) (λ ts. Goes i s k M ts)
  step_covered s k i int_type v N M c f h = subst (λ w. OnTypes (argument_types P s w) (λ ts. Goes i s k N ts)) c h
  step_covered s k i char_type v N M c f h = subst (λ w. OnTypes (argument_types P s w) (λ ts. Goes i s k N ts)) c h
  step_covered s k i string_type v N M c f h = subst (λ w. OnTypes (argument_types P s w) (λ ts. Goes i s k N ts)) c h
  step_covered s k i state_type v N M c f h = subst (λ w. OnTypes (argument_types P s w) (λ ts. Goes i s k N ts)) c h
  step_covered s k i (variable_type x) v N M c f h =
      on_types_to (argument_types P s v) (λ ts. Goes i s k N ts) (Goes i s k M (map (λ t. variable_type x) (P.symbols s).args))
      (λ ts q. goes_as i s k N M ts (map (λ t. variable_type x) (P.symbols s).args) (λ j n. f j (get_or (map (λ t. variable_type x) (P.symbols s).args) k (variable_type 0)) (get_or ts k (variable_type 0)) (covers_variables x (P.symbols s).args k (get_or ts k (variable_type 0))) n) q) h
  step_covered s k i (union_type u ts) v N M c f h = at (nat_eq (P.symbols s).of_type u && is_in s (P.symbols_of u)) (subst (λ w. OnTypes (argument_types P s w) (λ ts. Goes i s k N ts)) c.1 h)
    where
      old : List TypeTerm
      old = map (instance_of (type_at ts)) (P.symbols s).args

      at : (b : Bool) → OnTypes (cond b (Some (map (instance_of (type_at c.0)) (P.symbols s).args)) None) (λ ts. Goes i s k N ts) → OnTypes (cond b (Some (map (instance_of (type_at ts)) (P.symbols s).args)) None) (λ ts. Goes i s k M ts)
      at false q = q
      at true q =
          goes_as i s k N M (map (instance_of (type_at c.0)) (P.symbols s).args) (map (instance_of (type_at ts)) (P.symbols s).args)
          (λ j n. f j (get_or (map (instance_of (type_at ts)) (P.symbols s).args) k (variable_type 0)) (get_or (map (instance_of (type_at c.0)) (P.symbols s).args) k (variable_type 0)) (covers_args ts c.0 (P.symbols s).args k c.2) n) q

  abbrev LeadsAbove : Path → ℕ → TypeTerm → ℕ → TypeTerm → Type 0
  LeadsAbove path j u i t = (w : TypeTerm) × Leads P G path j w i t × Covers w u

  leads_covered : (path : Path) (j : ℕ) (u : TypeTerm) (i : ℕ) (t v : TypeTerm) → Covers t v → Leads P G path j u i v → LeadsAbove path j u i t
  leads_covered [] j u i t v c h = (t, (h.0, refl), subst (Covers t) h.1 c)
  leads_covered ((s, k) ∷ path) j u i t v c h = gathered (step_covered s k i t v (λ n a. Leads P G path j u n a) (λ n a. LeadsAbove path j u n a) c (λ n a b d l. leads_covered path j u n a b d l) h)
    where
      gathered : OnTypes (argument_types P s t) (λ ts. Goes i s k (λ n a. LeadsAbove path j u n a) ts) → LeadsAbove ((s, k) ∷ path) j u i t
      gathered q = from (argument_types P s t) refl q
        where
          from : (o : Option (List TypeTerm)) → argument_types P s t ≡ o → OnTypes o (λ ts. Goes i s k (λ n a. LeadsAbove path j u n a) ts) → LeadsAbove ((s, k) ∷ path) j u i t
          from None e h = absurd h
          from (Some ts) e h =
              let o = allows_over P (G i) i s (λ is. (k < length is) × LeadsAbove path j u (get_or is k 0) (get_or ts k (variable_type 0))) h in
              let above = o.2.1 in (
                above.0,
                subst (λ r. OnTypes r (λ ts. Goes i s k (λ n a. Leads P G path j above.0 n a) ts)) (sym e)
                    (over_allows P (G i) i s (λ is. (k < length is) × Leads P G path j above.0 (get_or is k 0) (get_or ts k (variable_type 0))) o.0 o.1 (o.2.0, above.1)),
                above.2,
              )

  tidy_instance : (σ : ℕ → TypeTerm) (i : ℕ) (t : TypeTerm) → Tidy P G i t → Tidy P G i (instance_of σ t)
  tidy_instance σ i t h path j u l marked =
      let above = leads_covered path j u i t (instance_of σ t) (covers_instance σ t) l in
      covers_state above.0 u above.2 (h path j above.0 above.1 marked)

pub tidy-at-instances : TidyAtInstances
tidy-at-instances P G σ i t h = tidy_instance P G σ i t h

-- ---- the builtin insts, and any inst at io's state
module _ (P : Source) (G : Graph) where
  pub tidy-at-state : (i : ℕ) (t : TypeTerm) → t ≡ state_type → Tidy P G i t
  tidy-at-state i t e [] j u l marked = sym l.1 ∙ e
  tidy-at-state i t e ((s, k) ∷ path) j u l marked =
      absurd (subst (λ w. OnTypes (argument_types P s w) (λ ts. Goes P G i s k (λ n a. Leads P G path j u n a) ts)) e l)

  pub free-tidy : G 0 ≡ free → (t : TypeTerm) → Tidy P G 0 t
  free-tidy is_free t [] j u l marked = ⊎_elim (λ m. let f : free ≡ unique = sym is_free ∙ ap G l.0 ∙ m in cc) (λ m. let f : free ≡ dead = sym is_free ∙ ap G l.0 ∙ m in cc) marked
  free-tidy is_free t ((s, k) ∷ path) j u l marked =
      absurd (on_types_to (argument_types P s t) (λ ts. Goes P G 0 s k (λ n a. Leads P G path j u n a) ts) ⊥
      (λ ts h. subst (λ N. AllowsSymbol P N 0 s (λ is. (k < length is) × Leads P G path j u (get_or is k 0) (get_or ts k (variable_type 0)))) is_free h) l)

  ground_leads : G 1 ≡ ground → (path : Path) (j : ℕ) (u t : TypeTerm) → Leads P G path j u 1 t → j ≡ 1
  ground_leads is_ground [] j u t h = sym h.0
  ground_leads is_ground ((s, k) ∷ path) j u t h =
      let n = (P.symbols s).name.arity in
      on_types_to (argument_types P s t) (λ ts. Goes P G 1 s k (λ n a. Leads P G path j u n a) ts) (j ≡ 1)
      (λ ts r.
      let q = subst (λ N. AllowsSymbol P N 1 s (λ is. (k < length is) × Leads P G path j u (get_or is k 0) (get_or ts k (variable_type 0)))) is_ground r in
      ground_leads is_ground path j u (get_or ts k (variable_type 0))
      (subst (λ i. Leads P G path j u i (get_or ts k (variable_type 0))) (get_or-replicate n k 1 0 (omega (arith, q.0, length-replicate {A = ℕ} n 1))) q.1)) h

  pub ground-tidy : G 1 ≡ ground → (t : TypeTerm) → Tidy P G 1 t
  ground-tidy is_ground t path j u h marked =
      let e = ground_leads is_ground path j u t h in
      ⊎_elim (λ m. let f : ground ≡ unique = sym is_ground ∙ ap G (sym e) ∙ m in cc) (λ m. let f : ground ≡ dead = sym is_ground ∙ ap G (sym e) ∙ m in cc) marked

-- ---- one symbol over tidy insts, and the arguments of a tidy inst
module _ (P : Source) (G : Graph) (names : NamesOnce P) where
  -- each of the insts is tidy at the type in its place
  abbrev pub PlacesTidy : List ℕ → List TypeTerm → Type 0
  PlacesTidy is ts = (k : ℕ) → k < length is → Tidy P G (get_or is k 0) (get_or ts k (variable_type 0))

  pub each-place : (is : List ℕ) (ts : List TypeTerm) → PlacesTidy is ts → EachTidy P G is ts
  each-place [] ts h = tt
  each-place (i ∷ is) [] h = tt
  each-place (i ∷ is) (t ∷ ts) h = (h 0 (omega arith), each-place is ts (λ k lt. h (suc k) (omega (arith, lt))))

  -- at the type of one symbol another of that name has the same arguments
  abbrev HasSymbol : ℕ → TypeTerm → List TypeTerm → Type 0
  HasSymbol s t ts = argument_types P s t ≡ Some ts

  same_symbol : (s r : ℕ) (t : TypeTerm) (ts us : List TypeTerm) → constructor_types P s t ≡ Some ts → argument_types P r t ≡ Some us → (P.symbols s).name.bytes ≡ (P.symbols r).name.bytes → (P.symbols s).name.arity ≡ (P.symbols r).name.arity → us ≡ ts
  same_symbol s r int_type ts us p q n a = cc
  same_symbol s r char_type ts us p q n a = cc
  same_symbol s r string_type ts us p q n a = cc
  same_symbol s r state_type ts us p q n a = cc
  same_symbol s r (variable_type v) ts us p q n a = cc
  same_symbol s r (union_type u args) ts us p q n a =
      let e : s ≡ r = names u s r (listed s ts p) (listed r us q) n a in
      (let both : Some us ≡ Some ts = sym q ∙ ap (λ k. argument_types P k (union_type u args)) (sym e) ∙ p in cc)
    where
      listed : (k : ℕ) (vs : List TypeTerm) → argument_types P k (union_type u args) ≡ Some vs → In k (P.symbols_of u)
      listed k vs h = at (nat_eq (P.symbols k).of_type u) (is_in k (P.symbols_of u)) refl h
        where
          at : (b c : Bool) → is_in k (P.symbols_of u) ≡ c → cond (b && c) (Some (map (instance_of (type_at args)) (P.symbols k).args)) None ≡ Some vs → In k (P.symbols_of u)
          at true true e h = is_in_true k (P.symbols_of u) e
          at true false e h = cc
          at false c e h = cc

  pub tidy-over : (i s : ℕ) (is : List ℕ) (t : TypeTerm) (ts : List TypeTerm) → G i ≡ bound (record { name = (P.symbols s).name.bytes; arity = (P.symbols s).name.arity; args = is } ∷ []) → constructor_types P s t ≡ Some ts → PlacesTidy is ts → Tidy P G i t
  tidy-over i s is t ts e c h [] j u l marked =
      let here = subst (λ n. (G n ≡ unique) ⊎ (G n ≡ dead)) (sym l.0) marked in
      ⊎_elim (λ m. let f : bound (record { name = (P.symbols s).name.bytes; arity = (P.symbols s).name.arity; args = is } ∷ []) ≡ unique = sym e ∙ m in cc)
      (λ m. let f : bound (record { name = (P.symbols s).name.bytes; arity = (P.symbols s).name.arity; args = is } ∷ []) ≡ dead = sym e ∙ m in cc) here
  tidy-over i s is t ts e c h ((r, k) ∷ path) j u l marked = from (argument_types P r t) refl l
    where
      from : (o : Option (List TypeTerm)) → argument_types P r t ≡ o → OnTypes o (λ us. Goes P G i r k (λ n a. Leads P G path j u n a) us) → u ≡ state_type
      from None q l = absurd l
      from (Some us) q l =
          ⊎_elim
          (λ a. let same : us ≡ ts = same_symbol s r t ts us c q a.0 a.1 in
          h k a.2.0 path j u (subst (λ vs. Leads P G path j u (get_or is k 0) (get_or vs k (variable_type 0))) same a.2.1) marked)
          (λ none. absurd none)
          (subst (λ N. AllowsSymbol P N i r (λ js. (k < length js) × Leads P G path j u (get_or js k 0) (get_or us k (variable_type 0)))) e l)

  pub tidy-arguments : (i s : ℕ) (is : List ℕ) (t : TypeTerm) (ts : List TypeTerm) → Over P (G i) i s is → argument_types P s t ≡ Some ts → Tidy P G i t → PlacesTidy is ts
  tidy-arguments i s is t ts o e h k lt path j u l marked =
      h ((s, k) ∷ path) j u
      (subst (λ r. OnTypes r (λ us. Goes P G i s k (λ n a. Leads P G path j u n a) us)) (sym e)
      (over_allows P (G i) i s (λ js. (k < length js) × Leads P G path j u (get_or js k 0) (get_or ts k (variable_type 0))) is o (lt, l))) marked

  pub is-constructor : (s : ℕ) (t : TypeTerm) (ts : List TypeTerm) → constructor_types P s t ≡ Some ts → argument_types P s t ≡ Some ts
  is-constructor s int_type ts e = cc
  is-constructor s char_type ts e = cc
  is-constructor s string_type ts e = cc
  is-constructor s state_type ts e = cc
  is-constructor s (variable_type v) ts e = cc
  is-constructor s (union_type u args) ts e = e
