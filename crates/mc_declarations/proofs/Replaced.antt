-- Types that stay well formed where others are replaced by what they stand for.
use Rattle.std.proofs.Common.{◌≡◌, ℕ, zero, suc, ◌<◌, refl, sym, ap, ◌∙◌, subst, arith}
use Rattle.std.specs.Prelude.{Option, Some, None}
use Rattle.std.specs.Option.{option_map}
use Rattle.mc_program.specs.Programs.{TypeTerm, int_type, char_type, string_type, state_type, variable_type, union_type, TypeTerms, no_types, type_then}
use Rattle.mc_model.specs.Types.{type_at, instance_of, instances_of}
use Rattle.mc_accepted.specs.ProperTypes.{Parameters, count_types, ProperType, ProperTypes, Below, AllBelow}
use Rattle.mc_type_table.specs.Expanded.{replaced, all_replaced, defined_as, after_rounds}

-- INSTANCES

proper_at :
    (D : Parameters) (ts : TypeTerms) (v : ℕ) → ProperTypes D ts → ProperType D (type_at ts v)
proper_at D no_types v p = tt
proper_at D (type_then t ts) zero p = p.0
proper_at D (type_then t ts) (suc v) p = proper_at D ts v p.1

below_at :
    (k : ℕ) (ts : TypeTerms) (v : ℕ) → v < count_types ts → AllBelow k ts → Below k (type_at ts v)
below_at k no_types v less b = absurd (omega arith)
below_at k (type_then t ts) zero less b = b.0
below_at k (type_then t ts) (suc v) less b =
    let fewer : v < count_types ts = omega arith in
    below_at k ts v fewer b.1

pub count_instances :
    (f : ℕ → TypeTerm) (ts : TypeTerms) → count_types (instances_of f ts) ≡ count_types ts
count_instances f no_types = refl
count_instances f (type_then t ts) = ap suc (count_instances f ts)

mutual
  proper_instance :
      (D : Parameters) (f : ℕ → TypeTerm) (t : TypeTerm)
      → ((v : ℕ) → ProperType D (f v)) → ProperType D t → ProperType D (instance_of f t)
  proper_instance D f int_type g p = tt
  proper_instance D f char_type g p = tt
  proper_instance D f string_type g p = tt
  proper_instance D f state_type g p = tt
  proper_instance D f (variable_type v) g p = g v
  proper_instance D f (union_type u ts) g p =
      (p.0 ∙ ap Some (sym (count_instances f ts)), proper_instances D f ts g p.1)

  proper_instances :
      (D : Parameters) (f : ℕ → TypeTerm) (ts : TypeTerms)
      → ((v : ℕ) → ProperType D (f v)) → ProperTypes D ts → ProperTypes D (instances_of f ts)
  proper_instances D f no_types g p = tt
  proper_instances D f (type_then t ts) g p =
      (proper_instance D f t g p.0, proper_instances D f ts g p.1)

mutual
  below_instance :
      (j k : ℕ) (f : ℕ → TypeTerm) (t : TypeTerm)
      → ((v : ℕ) → v < j → Below k (f v)) → Below j t → Below k (instance_of f t)
  below_instance j k f int_type g b = tt
  below_instance j k f char_type g b = tt
  below_instance j k f string_type g b = tt
  below_instance j k f state_type g b = tt
  below_instance j k f (variable_type v) g b = g v b
  below_instance j k f (union_type u ts) g b = below_instances j k f ts g b

  below_instances :
      (j k : ℕ) (f : ℕ → TypeTerm) (ts : TypeTerms)
      → ((v : ℕ) → v < j → Below k (f v)) → AllBelow j ts → AllBelow k (instances_of f ts)
  below_instances j k f no_types g b = tt
  below_instances j k f (type_then t ts) g b =
      (below_instance j k f t g b.0, below_instances j k f ts g b.1)

-- TYPES THAT ARE REPLACED

-- what each type is defined as is well formed, and over its parameters alone
abbrev pub AreProper : Parameters → (definitions : ℕ → Option TypeTerm) → Type 0
AreProper D H =
    (u : ℕ) (b : TypeTerm)
    → H u ≡ Some b → (k : ℕ) × (D u ≡ Some k) × ProperType D b × Below k b

pub count_replaced :
    (H : ℕ → Option TypeTerm) (ts : TypeTerms) → count_types (all_replaced H ts) ≡ count_types ts
count_replaced H no_types = refl
count_replaced H (type_then t ts) = ap suc (count_replaced H ts)

proper_defined :
    (D : Parameters) (H : ℕ → Option TypeTerm) (u : ℕ) (ts : TypeTerms) (o : Option TypeTerm)
    → AreProper D H → H u ≡ o
    → D u ≡ Some (count_types ts) → ProperTypes D ts → ProperType D (defined_as u ts o)
proper_defined D H u ts None are is count p = (count, p)
proper_defined D H u ts (Some b) are is count p =
    proper_instance D (type_at ts) b (λ v. proper_at D ts v p) (are u b is).2

below_defined :
    (D : Parameters) (H : ℕ → Option TypeTerm) (k u : ℕ) (ts : TypeTerms) (o : Option TypeTerm)
    → AreProper D H → H u ≡ o
    → D u ≡ Some (count_types ts) → AllBelow k ts → Below k (defined_as u ts o)
below_defined D H k u ts None are is count b = b
below_defined D H k u ts (Some t) are is count b =
    let known = are u t is in
    let same : Some known.0 ≡ Some (count_types ts) = sym known.1 ∙ count in
    let counts : known.0 ≡ count_types ts = cc in
    below_instance (count_types ts) k (type_at ts) t (λ v less. below_at k ts v less b)
    (subst (λ j. Below j t) counts known.3)

mutual
  pub proper_replaced :
      (D : Parameters) (H : ℕ → Option TypeTerm) (t : TypeTerm)
      → AreProper D H → ProperType D t → ProperType D (replaced H t)
  proper_replaced D H int_type are p = tt
  proper_replaced D H char_type are p = tt
  proper_replaced D H string_type are p = tt
  proper_replaced D H state_type are p = tt
  proper_replaced D H (variable_type v) are p = tt
  proper_replaced D H (union_type u ts) are p =
      proper_defined D H u (all_replaced H ts) (H u) are refl
      (p.0 ∙ ap Some (sym (count_replaced H ts))) (all_proper_replaced D H ts are p.1)

  all_proper_replaced :
      (D : Parameters) (H : ℕ → Option TypeTerm) (ts : TypeTerms)
      → AreProper D H → ProperTypes D ts → ProperTypes D (all_replaced H ts)
  all_proper_replaced D H no_types are p = tt
  all_proper_replaced D H (type_then t ts) are p =
      (proper_replaced D H t are p.0, all_proper_replaced D H ts are p.1)

mutual
  pub below_replaced :
      (D : Parameters) (H : ℕ → Option TypeTerm) (k : ℕ) (t : TypeTerm)
      → AreProper D H → ProperType D t → Below k t → Below k (replaced H t)
  below_replaced D H k int_type are p b = tt
  below_replaced D H k char_type are p b = tt
  below_replaced D H k string_type are p b = tt
  below_replaced D H k state_type are p b = tt
  below_replaced D H k (variable_type v) are p b = b
  below_replaced D H k (union_type u ts) are p b =
      below_defined D H k u (all_replaced H ts) (H u) are refl
      (p.0 ∙ ap Some (sym (count_replaced H ts))) (all_below_replaced D H k ts are p.1 b)

  all_below_replaced :
      (D : Parameters) (H : ℕ → Option TypeTerm) (k : ℕ) (ts : TypeTerms)
      → AreProper D H → ProperTypes D ts → AllBelow k ts → AllBelow k (all_replaced H ts)
  all_below_replaced D H k no_types are p b = tt
  all_below_replaced D H k (type_then t ts) are p b =
      (below_replaced D H k t are p.0 b.0, all_below_replaced D H k ts are p.1 b.1)

-- definitions stay so after any rounds
proper_round :
    (D : Parameters) (H E : ℕ → Option TypeTerm) (u : ℕ) (b : TypeTerm) (o : Option TypeTerm)
    → AreProper D H → AreProper D E → E u ≡ o → option_map (replaced H) o ≡ Some b
    → (k : ℕ) × (D u ≡ Some k) × ProperType D b × Below k b
proper_round D H E u b None are all is made =
    absurd (let clash : None ≡ Some b = made in cc)
proper_round D H E u b (Some t) are all is made =
    let known = all u t is in
    let same : Some (replaced H t) ≡ Some b = made in
    let it : replaced H t ≡ b = cc in (
      known.0,
      known.1,
      subst (ProperType D) it (proper_replaced D H t are known.2),
      subst (Below known.0) it (below_replaced D H known.0 t are known.2 known.3),
    )

pub proper_rounds :
    (D : Parameters) (E : ℕ → Option TypeTerm) (n : ℕ)
    → AreProper D E → AreProper D (after_rounds n E)
proper_rounds D E zero all u b is = absurd (let clash : None ≡ Some b = is in cc)
proper_rounds D E (suc n) all u b is =
    proper_round D (after_rounds n E) E u b (E u) (proper_rounds D E n all) all refl is
