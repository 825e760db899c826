-- What a constructor takes, and how it is typed in a flat goal.
use Rattle.std.proofs.Common.{◌≡◌, ℕ, zero, suc, ◌+◌, ◌<◌, cond, Bool, true, false, List, [], ◌∷◌, ◌++◌, map, Option, Some, None, refl, sym, ap, ap₂, ◌∙◌, arith}
use Rattle.std.specs.Prelude.{nat_eq, ◌&&◌}
use Rattle.std.proofs.lemmas.Bool.{eq-eqb, eqb-true}
use Rattle.std.proofs.lemmas.List.{map-append}
use Rattle.mc_program.specs.Programs.{TypeTerm, int_type, char_type, string_type, state_type, variable_type, union_type, TypeTerms, no_types, type_then}
use Rattle.mc_model.specs.Types.{instance_of, instances_of, type_at}
use Rattle.mc_model.specs.Lists.{is_in}
use Rattle.mc_accepted.specs.ProperTypes.{Below, AllBelow, EachBelow, count_types}
use Rattle.mc_accepted.specs.Typing.{constructor_types}
use Rattle.mc_accepted.specs.Resolving.{parameters_from, declared_type}
use Rattle.laws_made_types.specs.Constructors.{ConstructorsTake, ConstructorsAreTaken}

-- types for variables that agree below a number
mutual
  below_agrees : (k : ℕ) (f g : ℕ → TypeTerm) (t : TypeTerm) → Below k t → ((v : ℕ) → v < k → f v ≡ g v) → instance_of f t ≡ instance_of g t
  below_agrees k f g int_type b e = refl
  below_agrees k f g char_type b e = refl
  below_agrees k f g string_type b e = refl
  below_agrees k f g state_type b e = refl
  below_agrees k f g (variable_type v) b e = e v b
  below_agrees k f g (union_type u ts) b e = ap (union_type u) (all_below_agree k f g ts b e)

  all_below_agree : (k : ℕ) (f g : ℕ → TypeTerm) (ts : TypeTerms) → AllBelow k ts → ((v : ℕ) → v < k → f v ≡ g v) → instances_of f ts ≡ instances_of g ts
  all_below_agree k f g no_types b e = refl
  all_below_agree k f g (type_then t ts) b e = ap₂ (λ x xs. type_then x xs) (below_agrees k f g t b.0 e) (all_below_agree k f g ts b.1 e)

each_agrees : (k : ℕ) (f g : ℕ → TypeTerm) (ts : List TypeTerm) → EachBelow k ts → ((v : ℕ) → v < k → f v ≡ g v) → map (instance_of f) ts ≡ map (instance_of g) ts
each_agrees k f g [] b e = refl
each_agrees k f g (t ∷ ts) b e = ap₂ (λ x xs. x ∷ xs) (below_agrees k f g t b.0 e) (each_agrees k f g ts b.1 e)

-- the instance of a type's own parameters
parameter_at : (σ : ℕ → TypeTerm) (first n v : ℕ) → v < n → type_at (instances_of σ (parameters_from first n)) v ≡ σ (first + v)
parameter_at σ first zero v lt = let none : ⊥ = omega arith in absurd none
parameter_at σ first (suc n) zero lt = let e : first ≡ first + 0 = omega arith in ap σ e
parameter_at σ first (suc n) (suc v) lt =
    let e : suc first + v ≡ first + suc v = omega arith in
    parameter_at σ (suc first) n v (omega arith) ∙ ap σ e

-- any arguments are an instance of so many parameters
parameters_are : (first : ℕ) (σ : ℕ → TypeTerm) (ts : TypeTerms) → ((v : ℕ) → v < count_types ts → σ (first + v) ≡ type_at ts v) → instances_of σ (parameters_from first (count_types ts)) ≡ ts
parameters_are first σ no_types e = refl
parameters_are first σ (type_then t ts) e =
    let z : first ≡ first + 0 = omega arith in
    ap₂ (λ x xs. type_then x xs) (ap σ z ∙ e 0 (omega arith))
    (parameters_are (suc first) σ ts (λ v lt. let s : suc first + v ≡ first + suc v = omega arith in ap σ s ∙ e (suc v) (omega arith)))

-- lists with a last element
abbrev pub last_of : TypeTerm → List TypeTerm → TypeTerm
last_of d [] = d
last_of d (t ∷ ts) = last_of t ts

abbrev front_of : List TypeTerm → List TypeTerm
front_of [] = []
front_of (t ∷ []) = []
front_of (t ∷ u ∷ ts) = t ∷ front_of (u ∷ ts)

pub last-push : (d : TypeTerm) (ts : List TypeTerm) (t : TypeTerm) → last_of d (ts ++ t ∷ []) ≡ t
last-push d [] t = refl
last-push d (x ∷ xs) t = last-push x xs t

front-push : (ts : List TypeTerm) (t : TypeTerm) → front_of (ts ++ t ∷ []) ≡ ts
front-push [] t = refl
front-push (x ∷ []) t = refl
front-push (x ∷ y ∷ xs) t = ap (λ zs. x ∷ zs) (front-push (y ∷ xs) t)

pub constructors_take : ConstructorsTake
constructors_take P D s k ts t is h =
    let u = (P.symbols s).of_type in
    let args = (P.symbols s).args in
    let σ = h.0 in
    let own : declared_type u (D u) ≡ union_type u (parameters_from 0 k) = ap (declared_type u) is.parameters in
    let both : map (instance_of σ) args ++ instance_of σ (declared_type u (D u)) ∷ [] ≡ ts ++ t ∷ [] = sym (map-append (instance_of σ) args (declared_type u (D u) ∷ [])) ∙ h.1 in
    let arguments : map (instance_of σ) args ≡ ts = sym (front-push (map (instance_of σ) args) (instance_of σ (declared_type u (D u)))) ∙ ap front_of both ∙ front-push ts t in
    let type : instance_of σ (declared_type u (D u)) ≡ t = sym (last-push int_type (map (instance_of σ) args) (instance_of σ (declared_type u (D u)))) ∙ ap (last_of int_type) both ∙ last-push int_type ts t in
    let us = instances_of σ (parameters_from 0 k) in
    let is_union : t ≡ union_type u us = sym type ∙ ap (instance_of σ) own in
    ap (constructor_types P s) is_union
    ∙ ap (λ b. cond b (Some (map (instance_of (type_at us)) args)) None) (ap₂ (λ a b. a && b) (eq-eqb u u refl) is.listed)
    ∙ ap Some (each_agrees k (type_at us) σ args is.arguments (λ v lt. parameter_at σ 0 k v lt ∙ ap σ (let e : 0 + v ≡ v = omega arith in e)) ∙ arguments)

abbrev held : Option (List TypeTerm) → List TypeTerm
held (Some ts) = ts
held None = []

-- a choice of types or none that is some types
some_of : (b : Bool) (x y : List TypeTerm) → cond b (Some x) None ≡ Some y → (b ≡ true) × (x ≡ y)
some_of true x y e = (refl, ap held e)
some_of false x y e = absurd (no_types_there y e)
  where
    no_types_there : (y : List TypeTerm) → None ≡ Some y → ⊥
    no_types_there y e = cc

first_holds : (a b : Bool) → (a && b) ≡ true → a ≡ true
first_holds true b e = refl
first_holds false b e = e

none_some : (ts : List TypeTerm) → None ≡ Some ts → ⊥
none_some ts e = cc

pub constructors_are_taken : ConstructorsAreTaken
constructors_are_taken P D s k ts int_type is p e = absurd (none_some ts e)
constructors_are_taken P D s k ts char_type is p e = absurd (none_some ts e)
constructors_are_taken P D s k ts string_type is p e = absurd (none_some ts e)
constructors_are_taken P D s k ts state_type is p e = absurd (none_some ts e)
constructors_are_taken P D s k ts (variable_type v) is p e = absurd (none_some ts e)
constructors_are_taken P D s k ts (union_type w us) is p e =
    let u = (P.symbols s).of_type in
    let args = (P.symbols s).args in
    let both = some_of (nat_eq u w && is_in s (P.symbols_of w)) (map (instance_of (type_at us)) args) ts e in
    let same : u ≡ w = eqb-true u w (first_holds (nat_eq u w) (is_in s (P.symbols_of w)) both.0) in
    let own : declared_type u (D u) ≡ union_type u (parameters_from 0 (count_types us)) = ap (declared_type u) (ap D same ∙ p.0) in
    let type : instance_of (type_at us) (declared_type u (D u)) ≡ union_type w us =
    ap (instance_of (type_at us)) own
    ∙ ap (union_type u) (parameters_are 0 (type_at us) us (λ v lt. ap (type_at us) (let z : 0 + v ≡ v = omega arith in z)))
    ∙ ap (λ n. union_type n us) same in
    (type_at us, map-append (instance_of (type_at us)) args (declared_type u (D u) ∷ []) ∙ ap₂ (λ xs x. xs ++ x ∷ []) both.1 type)
