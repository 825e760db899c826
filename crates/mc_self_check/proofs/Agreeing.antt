-- What a match says of the substitutions that agree with types for type variables.
use Rattle.std.proofs.Math.Seq.{drop-cons, drop-length}
use Rattle.std.proofs.lemmas.Bool.{eqb-true, eq-eqb}
use Rattle.std.proofs.Common.{◌≡◌, ◌↔◌, ℕ, ◌+◌, ◌<◌, Bool, true, false, nat_eq, List, [], ◌∷◌, ◌++◌, length, map, get_or, drop, Option, Some, None, add-one, refl, sym, ap, ap₂, ◌∙◌, subst}
use Rattle.std.specs.Prelude.{IsTrue, if◌then◌else◌}
use Rattle.mc_program.specs.Programs.{TypeTerm, variable_type, union_type, TypeTerms, no_types, type_then}
use Rattle.mc_program.specs.PlainPrograms.{type_terms, plain_type}
use Rattle.mc_program.specs.declared.ty.Ty.{Ty, Union}
use Rattle.mc_model.specs.Types.{instance_of}
use Rattle.mc_self_check.specs.declared.matching.Binding.{Binding}
use Rattle.mc_self_check.specs.code.Bindings.{bound_to, Agrees, Matched}
use Rattle.mc_self_check.proofs.TypeViews.{plain_type-Union}
use Rattle.mc_self_check.proofs.Instances.{instance_view}
use Rattle.mc_self_check.proofs.SameTypes.{same_view}

abbrev Substitution : Type 0
Substitution = ℕ → TypeTerm

pub matched_as : (Q R : Substitution → Type 0) (b : Bool) (old new : List Binding) → ((σ : Substitution) → Q σ ↔ R σ) → Matched b old new Q → Matched b old new R
matched_as Q R true old new same m =
    λ σ. (λ a. (((m σ).0 a).0, (same σ).0 ((m σ).0 a).1), λ h. (m σ).1 (h.0, (same σ).1 h.1))
matched_as Q R false old new same m = λ σ a r. m σ a ((same σ).1 r)

pub known_matched : (bs : List Binding) (v : ℕ) (known t : Ty) (b : Bool) → bound_to bs v ≡ Some (plain_type known) → (IsTrue b ↔ (known ≡ t)) → Matched b bs bs (λ σ. plain_type t ≡ σ v)
known_matched bs v known t true found same =
    λ σ. (λ a. (a, ap plain_type (sym (same.0 refl)) ∙ sym (a v (plain_type known) found)), λ h. h.0)
known_matched bs v known t false found same =
    λ σ a e. let yes : IsTrue false = same.1 (same_view known t (sym (a v (plain_type known) found) ∙ sym e)) in cc

-- a type for one variable more
older_one : (a : Binding) (w : ℕ) (t : TypeTerm) (o p : Option TypeTerm) (c : Bool) → (o ≡ Some t → p ≡ Some t) → (if c then Some (plain_type a.t) else o) ≡ Some t → (if c then Some (plain_type a.t) else p) ≡ Some t
older_one a w t o p true f h = h
older_one a w t o p false f h = f h

older : (bs : List Binding) (b : Binding) (w : ℕ) (t : TypeTerm) → bound_to bs w ≡ Some t → bound_to (bs ++ b ∷ []) w ≡ Some t
older [] b w t h = cc
older (a ∷ bs) b w t h =
    older_one a w t (bound_to bs w) (bound_to (bs ++ b ∷ []) w) (nat_eq a.variable w) (older bs b w t) h

newer_one : (a : Binding) (o p q : Option TypeTerm) (c : Bool) → (o ≡ None → p ≡ q) → (if c then Some (plain_type a.t) else o) ≡ None → (if c then Some (plain_type a.t) else p) ≡ q
newer_one a o p q true f h = cc
newer_one a o p q false f h = f h

newer : (bs : List Binding) (b : Binding) (w : ℕ) → bound_to bs w ≡ None → bound_to (bs ++ b ∷ []) w ≡ (if nat_eq b.variable w then Some (plain_type b.t) else None)
newer [] b w h = refl
newer (a ∷ bs) b w h =
    newer_one a (bound_to bs w) (bound_to (bs ++ b ∷ []) w) (if nat_eq b.variable w then Some (plain_type b.t) else None) (nat_eq a.variable w) (newer bs b w) h

its_own : (b : Binding) (v : ℕ) (c : Bool) → nat_eq b.variable v ≡ c → b.variable ≡ v → (if c then Some (plain_type b.t) else None) ≡ Some (plain_type b.t)
its_own b v true e is = refl
its_own b v false e is = let yes = eq-eqb b.variable v is in cc

by_one : (σ : Substitution) (b : Binding) (w : ℕ) (u : TypeTerm) (c : Bool) → nat_eq b.variable w ≡ c → (plain_type b.t ≡ σ b.variable) → (if c then Some (plain_type b.t) else None) ≡ Some u → σ w ≡ u
by_one σ b w u true e own h =
    let same : b.variable ≡ w = eqb-true b.variable w e in
    let t : plain_type b.t ≡ u = cc in
    ap σ (sym same) ∙ sym own ∙ t
by_one σ b w u false e own h = cc

by_any : (σ : Substitution) (bs : List Binding) (b : Binding) (w : ℕ) (u : TypeTerm) (o : Option TypeTerm) → bound_to bs w ≡ o → Agrees σ bs → (plain_type b.t ≡ σ b.variable) → bound_to (bs ++ b ∷ []) w ≡ Some u → σ w ≡ u
by_any σ bs b w u None none a own h =
    by_one σ b w u (nat_eq b.variable w) refl own (sym (newer bs b w none) ∙ h)
by_any σ bs b w u (Some t) found a own h =
    let both : Some t ≡ Some u = sym (older bs b w t found) ∙ h in
    let same : t ≡ u = cc in
    a w t found ∙ same

pub bound_matched : (bs new : List Binding) (b : Binding) (v : ℕ) (t : Ty) → new ≡ bs ++ b ∷ [] → bound_to bs v ≡ None → b.variable ≡ v → b.t ≡ t → Matched true bs new (λ σ. plain_type t ≡ σ v)
bound_matched bs new b v t put none is_v is_t =
    subst (λ l. Matched true bs l (λ σ. plain_type t ≡ σ v)) (sym put)
    (λ σ. (
      λ a. (
        λ w u h. a w u (older bs b w u h),
        ap plain_type (sym is_t) ∙ sym (a v (plain_type b.t) (newer bs b v none ∙ its_own b v (nat_eq b.variable v) refl is_v)),
      ),
      λ h w u e. by_any σ bs b w u (bound_to bs w) refl h.0 (ap plain_type is_t ∙ h.1 ∙ ap σ (sym is_v)) e,
    ))

-- two rows, one of them a pattern: one place more
module _ {X : Type 0} (f : X → TypeTerm) (xs : List X) (ps : List Ty) where
  abbrev pub AreFrom : ℕ → Substitution → Type 0
  AreFrom k σ = map f (drop k xs) ≡ map (instance_of σ) (map plain_type (drop k ps))

  pub split : (k : ℕ) (x : X) (p : Ty) → k < length xs → k < length ps → x ≡ get_or xs k x → p ≡ get_or ps k p → (σ : Substitution) → AreFrom k σ ↔ ((f x ≡ instance_of σ (plain_type p)) × AreFrom (k + 1) σ)
  split k x p ltx ltp isx isp σ =
      let ex : map f (drop k xs) ≡ f x ∷ map f (drop (k + 1) xs) =
      ap (map f) (drop-cons xs k x ltx) ∙ ap₂ (λ (y : X) (n : ℕ). f y ∷ map f (drop n xs)) (sym isx) (sym (add-one k)) in
      let ep : map (instance_of σ) (map plain_type (drop k ps)) ≡ instance_of σ (plain_type p) ∷ map (instance_of σ) (map plain_type (drop (k + 1) ps)) =
      ap (λ l. map (instance_of σ) (map plain_type l)) (drop-cons ps k p ltp) ∙ ap₂ (λ (y : Ty) (n : ℕ). instance_of σ (plain_type y) ∷ map (instance_of σ) (map plain_type (drop n ps))) (sym isp) (sym (add-one k)) in
      (λ h. let both = sym ex ∙ h ∙ ep in (cc, cc), λ h. ex ∙ ap₂ (λ t ts. t ∷ ts) h.0 h.1 ∙ sym ep)

  pub none_left : (k : ℕ) → k ≡ length xs → k ≡ length ps → (σ : Substitution) → AreFrom k σ
  none_left k atx atp σ =
      ap (λ n. map f (drop n xs)) atx ∙ ap (map f) (drop-length xs)
      ∙ sym (ap (λ n. map (instance_of σ) (map plain_type (drop n ps))) atp ∙ ap (λ l. map (instance_of σ) (map plain_type l)) (drop-length ps))

  -- by a test of that place
  pub place_tested : (k : ℕ) (x : X) (p : Ty) (σ : Substitution) (W : Type 0) (b : Bool) → k < length xs → k < length ps → x ≡ get_or xs k x → p ≡ get_or ps k p → (IsTrue b ↔ (f x ≡ instance_of σ (plain_type p))) → (AreFrom k σ ↔ W) → (IsTrue b → AreFrom (k + 1) σ ↔ W) × (W → IsTrue b)
  place_tested k x p σ W b ltx ltp isx isp test left =
      let s = split k x p ltx ltp isx isp σ in (
        λ told. (λ h. left.0 (s.1 (test.0 told, h)), λ w. (s.0 (left.1 w)).1),
        λ w. test.1 (s.0 (left.1 w)).0,
      )

  -- the substitutions that agree and under which what is left is an instance are those of a fact
  abbrev pub Left : ℕ → List Binding → (Substitution → Type 0) → Type 0
  Left k bs W = (σ : Substitution) → (Agrees σ bs × AreFrom k σ) ↔ W σ

  pub advanced : (b : Bool) → b ≡ true → (k : ℕ) (x : X) (p : Ty) (mid new : List Binding) (W : Substitution → Type 0) → k < length xs → k < length ps → x ≡ get_or xs k x → p ≡ get_or ps k p → Matched b mid new (λ σ. f x ≡ instance_of σ (plain_type p)) → Left k mid W → Left (k + 1) new W
  advanced b hit k x p mid new W ltx ltp isx isp matched left σ =
      let m = subst (λ c. Matched c mid new (λ σ. f x ≡ instance_of σ (plain_type p))) hit matched in
      let s = split k x p ltx ltp isx isp σ in (
        λ h. let a = (m σ).0 h.0 in (left σ).0 (a.0, s.1 (a.1, h.1)),
        λ w. let h = (left σ).1 w in let e = s.0 h.1 in ((m σ).1 (h.0, e.0), e.1),
      )

  pub finished : (k : ℕ) (bs : List Binding) (W : Substitution → Type 0) → k ≡ length xs → k ≡ length ps → Left k bs W → (σ : Substitution) → Agrees σ bs ↔ W σ
  finished k bs W atx atp left σ =
      (λ a. (left σ).0 (a, none_left k atx atp σ), λ w. ((left σ).1 w).0)

or_own : ℕ → Option TypeTerm → TypeTerm
or_own v None = variable_type v
or_own v (Some t) = t

-- a substitution that agrees
abbrev pub by_bindings : List Binding → Substitution
unfolding or_own
by_bindings bs v = or_own v (bound_to bs v)

pub it_agrees : (bs : List Binding) → Agrees (by_bindings bs) bs
unfolding or_own
it_agrees bs v t found = ap (or_own v) found

-- rows and their types
abbrev listed : TypeTerms → List TypeTerm
listed no_types = []
listed (type_then t ts) = t ∷ listed ts

listed_row : (ts : List TypeTerm) → listed (type_terms ts) ≡ ts
listed_row [] = refl
listed_row (t ∷ ts) = ap (λ l. t ∷ l) (listed_row ts)

abbrev arguments : TypeTerm → TypeTerms
arguments (union_type u ts) = ts
arguments _ = no_types

pub union_matched : (σ : Substitution) (u w : ℕ) (ps ts : List Ty) (pattern t : Ty) → pattern ≡ Union u ps → t ≡ Union w ts → u ≡ w → (map plain_type ts ≡ map (instance_of σ) (map plain_type ps)) ↔ (plain_type t ≡ instance_of σ (plain_type pattern))
union_matched σ u w ps ts pattern t is_p is_t same =
    let vt = ap plain_type is_t ∙ plain_type-Union w ts in
    let vp = instance_view σ u ps pattern is_p in (
      λ h. vt ∙ ap₂ (λ n (l : List TypeTerm). union_type n (type_terms l)) (sym same) h ∙ sym vp,
      λ e.
          let inner = ap (λ x. listed (arguments x)) (sym vt ∙ e ∙ vp) in
          sym (listed_row (map plain_type ts)) ∙ inner ∙ listed_row (map (instance_of σ) (map plain_type ps)),
    )
