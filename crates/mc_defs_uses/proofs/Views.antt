-- What the keys of a set and the elements of a list stand for.
use Rattle.std.proofs.Common.{◌≡◌, Bool, true, false, cond, List, [], ◌∷◌, ◌++◌, ◌||◌, map, refl, ap, append_assoc, if◌then◌else◌}
use Rattle.std.proofs.lemmas.List.{append-nil}
use Rattle.std.specs.List.{list_any}
use Rattle.std.specs.Set.{is_member}
use Rattle.mc_names.specs.declared.definition.Kind.TheVariants as K
use Rattle.mc_names.specs.declared.definition.Definition.{Definition}
use Rattle.mc_names.specs.Plain.{PlainDefinition, plain_definition}
use Rattle.mc_names.proofs.Same.{IsSame}

pub is_member-views : {K P : Type 0} (view : K → P) (eq : K → K → Bool) (is : P → P → Bool) → IsSame view eq is
    → (x : K) (ks : List K) → is_member is (map view ks) (view x) ≡ list_any (eq x) ks
is_member-views view eq is same x [] = refl
is_member-views view eq is same x (k ∷ ks) = rw (same x k) (ap (λ b. is (view x) (view k) || b) (is_member-views view eq is same x ks))

pub views-append : {K P : Type 0} (view : K → P) (ks : List K) (k : K) → map view (ks ++ k ∷ []) ≡ map view ks ++ view k ∷ []
views-append view [] k = refl
views-append view (j ∷ ks) k = ap (λ ts. view j ∷ ts) (views-append view ks k)

choice : {K P : Type 0} (view : K → P) (b : Bool) (ks : List K) (k : K) → map view (if b then ks else ks ++ k ∷ []) ≡ cond b (map view ks) (map view ks ++ view k ∷ [])
choice view true ks k = refl
choice view false ks k = views-append view ks k

pub views-put : {K P : Type 0} (view : K → P) (eq : K → K → Bool) (is : P → P → Bool) → IsSame view eq is
    → (x : K) (ks : List K) → map view (if list_any (eq x) ks then ks else ks ++ x ∷ []) ≡ cond (is_member is (map view ks) (view x)) (map view ks) (map view ks ++ view x ∷ [])
views-put view eq is same x ks = rw (is_member-views view eq is same x ks) (choice view (list_any (eq x) ks) ks x)

pub one_more_definition : (ts : List Definition) (t : Definition) → map plain_definition (ts ++ t ∷ []) ≡ map plain_definition ts ++ plain_definition t ∷ []
one_more_definition = views-append plain_definition

pub appended_definitions : (ts us vs : List PlainDefinition) → (ts ++ us) ++ vs ≡ ts ++ (us ++ vs)
appended_definitions = append_assoc

pub no_more_definitions : (ts : List PlainDefinition) → ts ++ [] ≡ ts
no_more_definitions = append-nil
