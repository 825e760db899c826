-- Which types of the example are the most general.
use Rattle.std.proofs.Common.{◌≡◌, ℕ, suc, cond, Bool, true, false, List, [], ◌∷◌, Option, Some, None, refl, sym, ap, subst, arith}
use Rattle.std.specs.Prelude.{nat_eq, ◌&&◌}
use Rattle.std.proofs.lemmas.Bool.{eqb-true}
use Rattle.mc_program.specs.Programs.{TypeTerm, int_type, char_type, string_type, state_type, variable_type, union_type, TypeTerms, no_types, type_then}
use Rattle.mc_model.specs.Lists.{is_in}
use Rattle.mc_accepted.specs.ProperTypes.{ProperType, count_types}
use Rattle.mc_accepted.specs.Typing.{constructor_types}
use Rattle.mc_accepted.specs.MostGeneral.{MostGeneral, generalised, type_at}
use Rattle.laws_types.specs.code.ExamplesOfTypes.{lists, one_parameter, list_of, typed_as, ListsOfAny, AskedList}

none_some : {A : Type 0} (x : A) → None ≡ Some x → ⊥
none_some x e = cc

-- the type that a list is of
abbrev first_argument : TypeTerms → TypeTerm
first_argument no_types = int_type
first_argument (type_then t ts) = t

abbrev element : TypeTerm → TypeTerm
element (union_type u ts) = first_argument ts
element t = int_type

abbrev held : Option ℕ → ℕ
held (Some n) = n
held None = 0

first_holds : (a b : Bool) → (a && b) ≡ true → a ≡ true
first_holds true b e = refl
first_holds false b e = e

is_some : (b : Bool) (x y : List TypeTerm) → cond b (Some x) None ≡ Some y → b ≡ true
is_some true x y e = refl
is_some false x y e = absurd (none_some y e)

-- a well formed type of which `[]` is
is_list : (t : TypeTerm) (ts : List TypeTerm) → ProperType one_parameter t → constructor_types lists 0 t ≡ Some ts → t ≡ list_of (element t)
is_list int_type ts p e = absurd (none_some ts e)
is_list char_type ts p e = absurd (none_some ts e)
is_list string_type ts p e = absurd (none_some ts e)
is_list state_type ts p e = absurd (none_some ts e)
is_list (variable_type v) ts p e = absurd (none_some ts e)
is_list (union_type u no_types) ts p e = let none : ◌≡◌ {A = ℕ} 1 0 = ap held p.0 in let no_way : ⊥ = omega (arith, none) in absurd no_way
is_list (union_type u (type_then t no_types)) ts p e =
    let same : 0 ≡ u = eqb-true 0 u (first_holds (nat_eq 0 u) (is_in 0 (0 ∷ [])) (is_some (nat_eq 0 u && is_in 0 (0 ∷ [])) [] ts e)) in
    ap (λ n. union_type n (type_then t no_types)) (sym same)
is_list (union_type u (type_then t (type_then w ws))) ts p e = let none : 1 ≡ suc (suc (count_types ws)) = ap held p.0 in let no_way : ⊥ = omega (arith, none) in absurd no_way

any_list : MostGeneral lists one_parameter [] (typed_as (list_of (variable_type 0)))
any_list = record {
  own = omega arith;
  as_many = refl;
  heads = λ v k e. absurd (none_some k e);
  typed = refl;
  general = λ T proper heads typed. (
    (λ v. element (T 0)),
    (λ v lt.
        let e : 0 ≡ v = omega arith in
        let P : ℕ → Type 0 = λ n. T n ≡ generalised 0 (λ w. element (T 0)) (type_at (list_of (variable_type 0) ∷ []) n) in
        subst P e (is_list (T 0) [] (proper 0) typed)),
  );
  numbered = refl;
}

abbrev first_number : List ℕ → ℕ
first_number [] = 2
first_number (n ∷ ns) = n

abbrev IsInt : TypeTerm → Type 0
IsInt int_type = Unit {0}
IsInt _ = ⊥

pub lists_of_any : ListsOfAny
lists_of_any = (
  any_list,
  (λ m.
      let T : ℕ → TypeTerm = λ v. list_of char_type in
      let g = m.general T (λ v. (refl, (tt, tt))) (λ k lt. let none : ⊥ = omega arith in absurd none) refl in
      let e : list_of char_type ≡ list_of int_type = g.1 0 (omega arith) in
      let P : TypeTerm → Type 0 = λ t. IsInt t in
      subst P (sym (ap element e)) tt),
  (λ m. let e : ◌≡◌ {A = ℕ} 1 0 = ap first_number m.numbered in omega (arith, e)),
)

pub asked_list : AskedList
asked_list = record { goal = typed_as (list_of (variable_type 0)); is = refl; general = any_list; taken = refl }
