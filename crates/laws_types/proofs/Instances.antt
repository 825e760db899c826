-- Types whose equivalences are replaced, and types for their variables: either first.
use Rattle.std.proofs.Common.{◌≡◌, ℕ, zero, suc, ◌<◌, List, [], ◌∷◌, map, refl, sym, ap, ap₂, ◌∙◌, subst, arith}
use Rattle.std.specs.Prelude.{Option, Some, None}
use Rattle.std.specs.Option.{option_map}
use Rattle.std.proofs.Math.Path.{fun_ext}
use Rattle.mc_program.specs.Programs.{TypeTerm, int_type, char_type, string_type, state_type, variable_type, union_type, TypeTerms, no_types, type_then}
use Rattle.mc_model.specs.Types.{type_at, instance_of, instances_of}
use Rattle.mc_accepted.specs.ProperTypes.{Parameters, count_types, ProperType, ProperTypes, EachProper, Below, AllBelow}
use Rattle.mc_type_table.specs.Expanded.{replaced, all_replaced, defined_as, after_rounds}
use Rattle.mc_declarations.proofs.Replaced.{AreProper, count_replaced, proper_rounds}

-- INSTANCES OF INSTANCES
mutual
  twice : (f g : ℕ → TypeTerm) (t : TypeTerm) → instance_of f (instance_of g t) ≡ instance_of (λ v. instance_of f (g v)) t
  twice f g int_type = refl
  twice f g char_type = refl
  twice f g string_type = refl
  twice f g state_type = refl
  twice f g (variable_type v) = refl
  twice f g (union_type u ts) = ap (union_type u) (all_twice f g ts)

  all_twice : (f g : ℕ → TypeTerm) (ts : TypeTerms) → instances_of f (instances_of g ts) ≡ instances_of (λ v. instance_of f (g v)) ts
  all_twice f g no_types = refl
  all_twice f g (type_then t ts) = ap₂ type_then (twice f g t) (all_twice f g ts)

-- a type is an instance by the types of its own variables
mutual
  alike : (f g : ℕ → TypeTerm) (k : ℕ) (t : TypeTerm) → ((v : ℕ) → v < k → f v ≡ g v) → Below k t → instance_of f t ≡ instance_of g t
  alike f g k int_type same b = refl
  alike f g k char_type same b = refl
  alike f g k string_type same b = refl
  alike f g k state_type same b = refl
  alike f g k (variable_type v) same b = same v b
  alike f g k (union_type u ts) same b = ap (union_type u) (all_alike f g k ts same b)

  all_alike : (f g : ℕ → TypeTerm) (k : ℕ) (ts : TypeTerms) → ((v : ℕ) → v < k → f v ≡ g v) → AllBelow k ts → instances_of f ts ≡ instances_of g ts
  all_alike f g k no_types same b = refl
  all_alike f g k (type_then t ts) same b = ap₂ type_then (alike f g k t same b.0) (all_alike f g k ts same b.1)

at_instance : (f : ℕ → TypeTerm) (ts : TypeTerms) (v : ℕ) → v < count_types ts → type_at (instances_of f ts) v ≡ instance_of f (type_at ts v)
at_instance f no_types v less = absurd (omega arith)
at_instance f (type_then t ts) zero less = refl
at_instance f (type_then t ts) (suc v) less =
    let fewer : v < count_types ts = omega arith in
    at_instance f ts v fewer

pub at_replaced : (H : ℕ → Option TypeTerm) (ts : TypeTerms) (v : ℕ) → replaced H (type_at ts v) ≡ type_at (all_replaced H ts) v
at_replaced H no_types v = refl
at_replaced H (type_then t ts) zero = refl
at_replaced H (type_then t ts) (suc v) = at_replaced H ts v

-- a definition over instances is an instance of it over the types themselves
defined_instance :
    (f : ℕ → TypeTerm) (u : ℕ) (us : TypeTerms) (o : Option TypeTerm)
    → ((b : TypeTerm) → o ≡ Some b → Below (count_types us) b)
    → defined_as u (instances_of f us) o ≡ instance_of f (defined_as u us o)
defined_instance f u us None below = refl
defined_instance f u us (Some b) below =
    alike (type_at (instances_of f us)) (λ v. instance_of f (type_at us v)) (count_types us) b (λ v less. at_instance f us v less) (below b refl)
    ∙ sym (twice f (type_at us) b)

module _ (D : Parameters) (H : ℕ → Option TypeTerm) (are : AreProper D H) where
  within : (u : ℕ) (ts : TypeTerms) → D u ≡ Some (count_types ts) → (b : TypeTerm) → H u ≡ Some b → Below (count_types (all_replaced H ts)) b
  within u ts counts b is =
      let known = are u b is in
      let same : Some known.0 ≡ Some (count_types ts) = sym known.1 ∙ counts in
      let count : known.0 ≡ count_types ts = cc in
      subst (λ k. Below k b) (count ∙ sym (count_replaced H ts)) known.3

  mutual
    pub replaced_instance : (f : ℕ → TypeTerm) (t : TypeTerm) → ProperType D t → replaced H (instance_of f t) ≡ instance_of (λ v. replaced H (f v)) (replaced H t)
    replaced_instance f int_type p = refl
    replaced_instance f char_type p = refl
    replaced_instance f string_type p = refl
    replaced_instance f state_type p = refl
    replaced_instance f (variable_type v) p = refl
    replaced_instance f (union_type u ts) p =
        ap (λ us. defined_as u us (H u)) (all_replaced_instances f ts p.1)
        ∙ defined_instance (λ v. replaced H (f v)) u (all_replaced H ts) (H u) (within u ts p.0)

    all_replaced_instances : (f : ℕ → TypeTerm) (ts : TypeTerms) → ProperTypes D ts → all_replaced H (instances_of f ts) ≡ instances_of (λ v. replaced H (f v)) (all_replaced H ts)
    all_replaced_instances f no_types p = refl
    all_replaced_instances f (type_then t ts) p = ap₂ type_then (replaced_instance f t p.0) (all_replaced_instances f ts p.1)

  pub each_replaced_instance : (f : ℕ → TypeTerm) (ts : List TypeTerm) → EachProper D ts → map (replaced H) (map (instance_of f) ts) ≡ map (instance_of (λ v. replaced H (f v))) (map (replaced H) ts)
  each_replaced_instance f [] p = refl
  each_replaced_instance f (t ∷ ts) p = ap₂ (λ x xs. x ∷ xs) (replaced_instance f t p.0) (each_replaced_instance f ts p.1)

-- TYPES THAT ARE REPLACED AGAIN
-- Definitions are those of R, whose bodies may be replaced by R yet.
abbrev pub Unfolds : (R H : ℕ → Option TypeTerm) → Type 0
Unfolds R H = (u : ℕ) (b : TypeTerm) → H u ≡ Some b → R u ≡ Some (replaced R b)

module _ (D : Parameters) (R H : ℕ → Option TypeTerm) (of_R : AreProper D R) (of_H : AreProper D H) (unfolds : Unfolds R H) where
  defined_again :
      (u : ℕ) (ts : TypeTerms) (o : Option TypeTerm)
      → H u ≡ o
      → all_replaced R (all_replaced H ts) ≡ all_replaced R ts
      → replaced R (defined_as u (all_replaced H ts) o) ≡ defined_as u (all_replaced R ts) (R u)
  defined_again u ts None is same = ap (λ us. defined_as u us (R u)) same
  defined_again u ts (Some b) is same =
      let hs = all_replaced H ts in
      let body = replaced R b in
      let at : (λ v. replaced R (type_at hs v)) ≡ type_at (all_replaced R ts) = fun_ext (λ v. at_replaced R hs v ∙ ap (λ us. type_at us v) same) in
      replaced_instance D R of_R (type_at hs) b (of_H u b is).2
      ∙ ap (λ (f : ℕ → TypeTerm). instance_of f body) at
      ∙ ap (defined_as u (all_replaced R ts)) (sym (unfolds u b is))

  mutual
    again : (t : TypeTerm) → replaced R (replaced H t) ≡ replaced R t
    again int_type = refl
    again char_type = refl
    again string_type = refl
    again state_type = refl
    again (variable_type v) = refl
    again (union_type u ts) = defined_again u ts (H u) refl (all_again ts)

    all_again : (ts : TypeTerms) → all_replaced R (all_replaced H ts) ≡ all_replaced R ts
    all_again no_types = refl
    all_again (type_then t ts) = ap₂ type_then (again t) (all_again ts)

  pub replaced_again : (t : TypeTerm) → replaced R (replaced H t) ≡ replaced R t
  replaced_again t = again t

-- so it is of definitions after any rounds
module _ (D : Parameters) (R S : ℕ → Option TypeTerm) (of_R : AreProper D R) (of_S : AreProper D S) (unfolds : Unfolds R S) where
  unfolds_by :
      (n u : ℕ) (b : TypeTerm) (o : Option TypeTerm)
      → S u ≡ o → Unfolds R (after_rounds n S) → option_map (replaced (after_rounds n S)) o ≡ Some b → R u ≡ Some (replaced R b)
  unfolds_by n u b None is before made = absurd (let clash : None ≡ Some b = made in cc)
  unfolds_by n u b (Some t) is before made =
      let same : Some (replaced (after_rounds n S) t) ≡ Some b = made in
      let it : replaced (after_rounds n S) t ≡ b = cc in
      unfolds u t is ∙ ap Some (sym (replaced_again D R (after_rounds n S) of_R (proper_rounds D S n of_S) before t) ∙ ap (replaced R) it)

  pub unfolds_after : (n : ℕ) → Unfolds R (after_rounds n S)
  unfolds_after zero u b is = absurd (let clash : None ≡ Some b = is in cc)
  unfolds_after (suc n) u b is = unfolds_by n u b (S u) refl (unfolds_after n) is

-- where nothing is defined, a type stays
mutual
  pub undefined_stays : (H : ℕ → Option TypeTerm) → ((u : ℕ) → H u ≡ None) → (t : TypeTerm) → replaced H t ≡ t
  undefined_stays H none int_type = refl
  undefined_stays H none char_type = refl
  undefined_stays H none string_type = refl
  undefined_stays H none state_type = refl
  undefined_stays H none (variable_type v) = refl
  undefined_stays H none (union_type u ts) = ap₂ (defined_as u) (all_undefined_stay H none ts) (none u)

  all_undefined_stay : (H : ℕ → Option TypeTerm) → ((u : ℕ) → H u ≡ None) → (ts : TypeTerms) → all_replaced H ts ≡ ts
  all_undefined_stay H none no_types = refl
  all_undefined_stay H none (type_then t ts) = ap₂ type_then (undefined_stays H none t) (all_undefined_stay H none ts)
