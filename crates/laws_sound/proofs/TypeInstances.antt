-- Values of types with types for their variables.
use Rattle.std.proofs.Common.{◌≡◌, ◌⊎◌, inl, inr, ℕ, zero, suc, ◌<◌, List, [], ◌∷◌, map, replicate, length, Bool, true, false, cond, nat_eq, ◌&&◌, Some, None, refl, sym, ap, ap₂, ◌∙◌, subst, arith, ⊎_elim}
use Rattle.mc_program.specs.Values.{Val, int, char, str, con, state, Vals, no_vals, val_then}
use Rattle.mc_program.specs.Programs.{TypeTerm, int_type, char_type, string_type, state_type, variable_type, union_type, TypeTerms, no_types, type_then, Source}
use Rattle.mc_model.specs.Types.{type_at, instance_of, instances_of, takes, argument_types, OfType, AllOfTypes}
use Rattle.mc_model.specs.Insts.{InstNode, free, ground, unique, dead, bound, Graph, AllowsSymbol, AllowsConstants, Within, AllWithin}
use Rattle.mc_model.specs.Lists.{In, is_in}
use Rattle.mc_model.specs.Good.{System, TypeChoice}
use Rattle.mc_accepted.specs.ProperTypes.{Parameters, count_types, ProperType, ProperTypes, EachProper, Below, AllBelow, EachBelow}
use Rattle.mc_accepted.specs.Fits.{Fits}
use Rattle.std.proofs.lemmas.Bool.{eqb-true, and_parts}
use Rattle.laws_language.proofs.FlatWhole.{is_in_true}

-- an instance of an instance
abbrev pub also_instance : TypeChoice → (ℕ → TypeTerm) → TypeChoice
also_instance θ σ = λ v. instance_of θ (σ v)

mutual
  pub instance_twice : (θ : TypeChoice) (σ : ℕ → TypeTerm) (t : TypeTerm) → instance_of θ (instance_of σ t) ≡ instance_of (also_instance θ σ) t
  instance_twice θ σ int_type = refl
  instance_twice θ σ char_type = refl
  instance_twice θ σ string_type = refl
  instance_twice θ σ state_type = refl
  instance_twice θ σ (variable_type v) = refl
  instance_twice θ σ (union_type u ts) = ap (λ us. union_type u us) (instances_twice θ σ ts)

  pub instances_twice : (θ : TypeChoice) (σ : ℕ → TypeTerm) (ts : TypeTerms) → instances_of θ (instances_of σ ts) ≡ instances_of (also_instance θ σ) ts
  instances_twice θ σ no_types = refl
  instances_twice θ σ (type_then t ts) = ap₂ type_then (instance_twice θ σ t) (instances_twice θ σ ts)

-- the parameters' types in an instance
at_instance : (θ : TypeChoice) (ts : TypeTerms) (v : ℕ) → v < count_types ts → instance_of θ (type_at ts v) ≡ type_at (instances_of θ ts) v
at_instance θ no_types v l = absurd (omega arith)
at_instance θ (type_then t ts) zero l = refl
at_instance θ (type_then t ts) (suc v) l = at_instance θ ts v (omega arith)

mutual
  over_parameters : (θ : TypeChoice) (ts : TypeTerms) (t : TypeTerm) → Below (count_types ts) t → instance_of θ (instance_of (type_at ts) t) ≡ instance_of (type_at (instances_of θ ts)) t
  over_parameters θ ts int_type b = refl
  over_parameters θ ts char_type b = refl
  over_parameters θ ts string_type b = refl
  over_parameters θ ts state_type b = refl
  over_parameters θ ts (variable_type v) b = at_instance θ ts v b
  over_parameters θ ts (union_type u us) b = ap (λ us. union_type u us) (all_over_parameters θ ts us b)

  all_over_parameters : (θ : TypeChoice) (ts us : TypeTerms) → AllBelow (count_types ts) us → instances_of θ (instances_of (type_at ts) us) ≡ instances_of (type_at (instances_of θ ts)) us
  all_over_parameters θ ts no_types b = refl
  all_over_parameters θ ts (type_then u us) b = ap₂ type_then (over_parameters θ ts u b.0) (all_over_parameters θ ts us b.1)

each_over_parameters : (θ : TypeChoice) (ts : TypeTerms) (us : List TypeTerm) → EachBelow (count_types ts) us → map (instance_of (type_at (instances_of θ ts))) us ≡ map (instance_of θ) (map (instance_of (type_at ts)) us)
each_over_parameters θ ts [] b = refl
each_over_parameters θ ts (u ∷ us) b = ap₂ (λ w ws. w ∷ ws) (sym (over_parameters θ ts u b.0)) (each_over_parameters θ ts us b.1)

-- argument types of a proper type are proper
proper_at : (D : Parameters) (ts : TypeTerms) (v : ℕ) → ProperTypes D ts → ProperType D (type_at ts v)
proper_at D no_types v p = tt
proper_at D (type_then t ts) zero p = p.0
proper_at D (type_then t ts) (suc v) p = proper_at D ts v p.1

count_instances : (f : ℕ → TypeTerm) (ts : TypeTerms) → count_types (instances_of f ts) ≡ count_types ts
count_instances f no_types = refl
count_instances f (type_then t ts) = ap suc (count_instances f ts)

mutual
  proper_instance : (D : Parameters) (f : ℕ → TypeTerm) (t : TypeTerm) → ((v : ℕ) → ProperType D (f v)) → ProperType D t → ProperType D (instance_of f t)
  proper_instance D f int_type g p = tt
  proper_instance D f char_type g p = tt
  proper_instance D f string_type g p = tt
  proper_instance D f state_type g p = tt
  proper_instance D f (variable_type v) g p = g v
  proper_instance D f (union_type u ts) g p = (p.0 ∙ ap Some (sym (count_instances f ts)), proper_instances D f ts g p.1)

  proper_instances : (D : Parameters) (f : ℕ → TypeTerm) (ts : TypeTerms) → ((v : ℕ) → ProperType D (f v)) → ProperTypes D ts → ProperTypes D (instances_of f ts)
  proper_instances D f no_types g p = tt
  proper_instances D f (type_then t ts) g p = (proper_instance D f t g p.0, proper_instances D f ts g p.1)

each_proper_instance : (D : Parameters) (f : ℕ → TypeTerm) (ts : List TypeTerm) → ((v : ℕ) → ProperType D (f v)) → EachProper D ts → EachProper D (map (instance_of f) ts)
each_proper_instance D f [] g p = tt
each_proper_instance D f (t ∷ ts) g p = (proper_instance D f t g p.0, each_proper_instance D f ts g p.1)

pub takes_instance : (b : TypeTerm) (θ : TypeChoice) (t : TypeTerm) → takes b (instance_of θ t) ≡ true → (takes b t ≡ true) ⊎ ((u : ℕ) × (ts : TypeTerms) × (t ≡ union_type u ts))
takes_instance b θ int_type e = inl e
takes_instance b θ char_type e = inl e
takes_instance b θ string_type e = inl e
takes_instance b θ state_type e = inl e
takes_instance int_type θ (variable_type v) e = inl refl
takes_instance char_type θ (variable_type v) e = inl refl
takes_instance string_type θ (variable_type v) e = inl refl
takes_instance state_type θ (variable_type v) e = inl refl
takes_instance (variable_type w) θ (variable_type v) e = inl refl
takes_instance (union_type w us) θ (variable_type v) e = inl refl
takes_instance b θ (union_type u ts) e = inr (u, ts, refl)

pub none_of : (P : Source) (vs : Vals) → AllOfTypes P vs None → ⊥
none_of P no_vals h = h
none_of P (val_then v vs) h = h

on_union : (P : Source) (vs : Vals) (b : Bool) (us : List TypeTerm) (X : Type 0) → (AllOfTypes P vs (Some us) → X) → AllOfTypes P vs (cond b (Some us) None) → X
on_union P vs true us X f h = f h
on_union P vs false us X f h = absurd (none_of P vs h)

-- a value of a type is one of any type variable
mutual
  pub is_value : (P : Source) (n : ℕ) (v : Val) (t : TypeTerm) → OfType P v t → OfType P v (variable_type n)
  is_value P n (int m) t h = (h.0, refl)
  is_value P n (char c) t h = (h.0, refl)
  is_value P n (str bytes) t h = (h.0, refl)
  is_value P n (state w k) t h = (h.0, refl)
  is_value P n (con s vs) int_type h = absurd (none_of P vs h)
  is_value P n (con s vs) char_type h = absurd (none_of P vs h)
  is_value P n (con s vs) string_type h = absurd (none_of P vs h)
  is_value P n (con s vs) state_type h = absurd (none_of P vs h)
  is_value P n (con s vs) (variable_type m) h = all_values P n vs (λ t. variable_type m) (P.symbols s).args h
  is_value P n (con s vs) (union_type u ts) h = on_union P vs (nat_eq (P.symbols s).of_type u && is_in s (P.symbols_of u)) (map (instance_of (type_at ts)) (P.symbols s).args) (AllOfTypes P vs (Some (map (λ t. variable_type n) (P.symbols s).args))) (λ k. all_values P n vs (instance_of (type_at ts)) (P.symbols s).args k) h

  all_values : (P : Source) (n : ℕ) (vs : Vals) (f : TypeTerm → TypeTerm) (us : List TypeTerm) → AllOfTypes P vs (Some (map f us)) → AllOfTypes P vs (Some (map (λ t. variable_type n) us))
  all_values P n no_vals f [] h = tt
  all_values P n no_vals f (u ∷ us) h = absurd h
  all_values P n (val_then v vs) f [] h = absurd h
  all_values P n (val_then v vs) f (u ∷ us) h = (is_value P n v (f u) h.0, all_values P n vs f us h.1)

-- every value is within an inst that allows all
abbrev pub IsPlain : InstNode → Type 0
IsPlain free = ⊥
IsPlain ground = Unit {0}
IsPlain unique = Unit {0}
IsPlain dead = Unit {0}
IsPlain (bound ls) = ⊥

plain_constants : (N : InstNode) → IsPlain N → AllowsConstants N
plain_constants free h = h
plain_constants ground h = tt
plain_constants unique h = tt
plain_constants dead h = tt
plain_constants (bound ls) h = h

plain_symbol : (P : Source) (N : InstNode) (i s : ℕ) (Q : List ℕ → Type 0) → IsPlain N → Q (replicate (P.symbols s).name.arity i) → AllowsSymbol P N i s Q
plain_symbol P free i s Q h q = absurd h
plain_symbol P ground i s Q h q = q
plain_symbol P unique i s Q h q = q
plain_symbol P dead i s Q h q = q
plain_symbol P (bound ls) i s Q h q = absurd h

module _ (P : Source) (G : Graph) (arities : (s : ℕ) → (P.symbols s).name.arity ≡ length (P.symbols s).args) where
  mutual
    pub within_plain : (v : Val) (i : ℕ) → IsPlain (G i) → OfType P v (variable_type 0) → Within P G v i
    within_plain (int m) i p h = plain_constants (G i) p
    within_plain (char c) i p h = plain_constants (G i) p
    within_plain (str bytes) i p h = plain_constants (G i) p
    within_plain (state w k) i p h = plain_constants (G i) p
    within_plain (con s vs) i p h = plain_symbol P (G i) i s (AllWithin P G vs) p (subst (λ n. AllWithin P G vs (replicate n i)) (sym (arities s)) (all_within_plain vs i (P.symbols s).args p h))

    all_within_plain : (vs : Vals) (i : ℕ) (us : List TypeTerm) → IsPlain (G i) → AllOfTypes P vs (Some (map (λ t. variable_type 0) us)) → AllWithin P G vs (replicate (length us) i)
    all_within_plain no_vals i [] p h = tt
    all_within_plain no_vals i (u ∷ us) p h = absurd h
    all_within_plain (val_then v vs) i [] p h = absurd h
    all_within_plain (val_then v vs) i (u ∷ us) p h = (within_plain v i p h.0, all_within_plain vs i us p h.1)

cond_some : {A : Type 0} (b : Bool) (x y : A) → cond b (Some x) None ≡ Some y → (b ≡ true) × (x ≡ y)
cond_some true x y e = (refl, some_is x y e)
  where
    some_is : {A : Type 0} (x y : A) → Some x ≡ Some y → x ≡ y
    some_is x y e = cc
cond_some false x y e = absurd (no y e)
  where
    no : {A : Type 0} (y : A) → None ≡ Some y → ⊥
    no y e = cc

module _ (S : System) (D : Parameters) (F : Fits S D) where
  abbrev P : Source
  P = S.world.source

  union_arguments : (s u : ℕ) (ts : TypeTerms) (θ : TypeChoice) (us : List TypeTerm) → ProperType D (union_type u ts) → (nat_eq (P.symbols s).of_type u && is_in s (P.symbols_of u)) ≡ true → map (instance_of (type_at ts)) (P.symbols s).args ≡ us →
      (map (instance_of (type_at (instances_of θ ts))) (P.symbols s).args ≡ map (instance_of θ) us) × EachProper D us × In s (P.symbols_of u)
  union_arguments s u ts θ us p b e =
      let c = and_parts (nat_eq (P.symbols s).of_type u) (is_in s (P.symbols_of u)) b in
      let q = eqb-true (P.symbols s).of_type u c.0 in
      let l = is_in_true s (P.symbols_of u) c.1 in
      let m = subst (λ k. In s (P.symbols_of k)) (sym q) l in
      let d = ap D q ∙ p.0 in (
        each_over_parameters θ ts (P.symbols s).args (F.types.parameters s (count_types ts) d m) ∙ ap (λ ks. map (instance_of θ) ks) e,
        subst (λ ks. EachProper D ks) e (each_proper_instance D (type_at ts) (P.symbols s).args (λ v. proper_at D ts v p.1) (F.types.arguments s (count_types ts) d m)),
        l,
      )

  -- the arguments of a constructor's value of an instance of a type
  pub con_arguments : (s : ℕ) (vs : Vals) (u : ℕ) (ts : TypeTerms) (θ : TypeChoice) → ProperType D (union_type u ts) → AllOfTypes P vs (argument_types P s (union_type u (instances_of θ ts))) →
      (us : List TypeTerm) × (argument_types P s (union_type u ts) ≡ Some us) × AllOfTypes P vs (Some (map (instance_of θ) us)) × EachProper D us × In s (P.symbols_of u)
  con_arguments s vs u ts θ p h = on (nat_eq (P.symbols s).of_type u && is_in s (P.symbols_of u)) refl h
    where
      on : (b : Bool) → (nat_eq (P.symbols s).of_type u && is_in s (P.symbols_of u)) ≡ b → AllOfTypes P vs (cond b (Some (map (instance_of (type_at (instances_of θ ts))) (P.symbols s).args)) None) →
          (us : List TypeTerm) × (cond b (Some (map (instance_of (type_at ts)) (P.symbols s).args)) None ≡ Some us) × AllOfTypes P vs (Some (map (instance_of θ) us)) × EachProper D us × In s (P.symbols_of u)
      on true e h =
          let r = union_arguments s u ts θ (map (instance_of (type_at ts)) (P.symbols s).args) p e refl in
          (map (instance_of (type_at ts)) (P.symbols s).args, refl, subst (λ ks. AllOfTypes P vs (Some ks)) r.0 h, r.1, r.2)
      on false e h = absurd (none_of P vs h)

  -- those of a type give those of an instance
  pub arguments_instance : (s u : ℕ) (ts : TypeTerms) (θ : TypeChoice) (us : List TypeTerm) → ProperType D (union_type u ts) → argument_types P s (union_type u ts) ≡ Some us → argument_types P s (union_type u (instances_of θ ts)) ≡ Some (map (instance_of θ) us)
  arguments_instance s u ts θ us p h = on (nat_eq (P.symbols s).of_type u && is_in s (P.symbols_of u)) refl h
    where
      on : (b : Bool) → (nat_eq (P.symbols s).of_type u && is_in s (P.symbols_of u)) ≡ b → cond b (Some (map (instance_of (type_at ts)) (P.symbols s).args)) None ≡ Some us → cond b (Some (map (instance_of (type_at (instances_of θ ts))) (P.symbols s).args)) None ≡ Some (map (instance_of θ) us)
      on true e h = ap Some (union_arguments s u ts θ us p e (cond_some true (map (instance_of (type_at ts)) (P.symbols s).args) us h).1).0
      on false e h = absurd (no (cond_some false (map (instance_of (type_at ts)) (P.symbols s).args) us h).0)
        where
          no : false ≡ true → ⊥
          no e = cc

  takes_union : (b : TypeTerm) (t : TypeTerm) (θ : TypeChoice) (u : ℕ) (ts : TypeTerms) → t ≡ union_type u ts → ((u : ℕ) (ts : TypeTerms) → takes b (union_type u ts) ≡ true → ⊥) → takes b (instance_of θ t) ≡ true → ⊥
  takes_union b t θ u ts e n h = n u (instances_of θ ts) (subst (λ k. takes b (instance_of θ k) ≡ true) e h)

  takes_general : (b : TypeTerm) (t : TypeTerm) (θ : TypeChoice) → ((u : ℕ) (ts : TypeTerms) → takes b (union_type u ts) ≡ true → ⊥) → takes b (instance_of θ t) ≡ true → takes b t ≡ true
  takes_general b t θ n h = ⊎_elim (λ e. e) (λ w. absurd (takes_union b t θ w.0 w.1 w.2 n h)) (takes_instance b θ t h)

  -- a value of an instance of a type is of that type
  mutual
    pub of_general : (θ : TypeChoice) (v : Val) (t : TypeTerm) → ProperType D t → OfType P v (instance_of θ t) → OfType P v t
    of_general θ (int n) t p h = (h.0, takes_general int_type t θ (λ u ts e. no e) h.1)
      where
        no : false ≡ true → ⊥
        no e = cc
    of_general θ (char c) t p h = (h.0, takes_general char_type t θ (λ u ts e. no e) h.1)
      where
        no : false ≡ true → ⊥
        no e = cc
    of_general θ (str bytes) t p h = (h.0, takes_general string_type t θ (λ u ts e. no e) h.1)
      where
        no : false ≡ true → ⊥
        no e = cc
    of_general θ (state w k) t p h = (h.0, takes_general state_type t θ (λ u ts e. no e) h.1)
      where
        no : false ≡ true → ⊥
        no e = cc
    of_general θ (con s vs) int_type p h = h
    of_general θ (con s vs) char_type p h = h
    of_general θ (con s vs) string_type p h = h
    of_general θ (con s vs) state_type p h = h
    of_general θ (con s vs) (variable_type v) p h = is_value P v (con s vs) (θ v) h
    of_general θ (con s vs) (union_type u ts) p h =
        let r = con_arguments s vs u ts θ p h in
        subst (λ o. AllOfTypes P vs o) (sym r.1) (all_general θ vs r.0 r.3 r.2)

    pub all_general : (θ : TypeChoice) (vs : Vals) (ts : List TypeTerm) → EachProper D ts → AllOfTypes P vs (Some (map (instance_of θ) ts)) → AllOfTypes P vs (Some ts)
    all_general θ no_vals [] p h = tt
    all_general θ no_vals (t ∷ ts) p h = absurd h
    all_general θ (val_then v vs) [] p h = absurd h
    all_general θ (val_then v vs) (t ∷ ts) p h = (of_general θ v t p.0 h.0, all_general θ vs ts p.1 h.1)
