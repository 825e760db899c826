-- Types and their trees.
use Rattle.std.proofs.Common.{◌≡◌, ℕ, ◌<◌, Bool, true, false, cond, sym, ◌∙◌, ap, ap₂, refl, subst, inl, inr, ◌≤◌, List, [], ◌∷◌, map}
use Rattle.std.specs.Prelude.{nat_lt, if◌then◌else◌}
use Rattle.std.proofs.lemmas.Bool.{cases_lt, lt-ltb, le-ltb}
use Rattle.mc_program.specs.Programs.{TypeTerm, int_type, char_type, string_type, state_type, variable_type, union_type, TypeTerms, no_types, type_then}
use Rattle.mc_program.specs.PlainPrograms.{plain_type, type_terms}
use Rattle.mc_program.specs.declared.ty.Ty.{Ty}
use Rattle.mc_model.specs.Types.{instance_of, instances_of}
use Rattle.mc_types.specs.Shapes.{Shape, named, rigid, app}
use Rattle.mc_types.specs.declared.cells.TypeName.TheVariants as N
use Rattle.mc_types.specs.Substitutions.{under}
use Rattle.mc_types.specs.Trees.{shaped, shaped_onto, shape, chosen, placed, with_argument, applied, type_of}

-- trees of types with types for their variables
mutual
  there : (σ : ℕ → TypeTerm) (t : TypeTerm) → shape (instance_of σ t) ≡ shaped (λ v. shape (σ v)) t
  there σ int_type = refl
  there σ char_type = refl
  there σ string_type = refl
  there σ state_type = refl
  there σ (variable_type v) = refl
  there σ (union_type u ts) = there_onto σ (named (N.Union u)) ts

  there_onto : (σ : ℕ → TypeTerm) (f : Shape) (ts : TypeTerms) → shaped_onto rigid f (instances_of σ ts) ≡ shaped_onto (λ v. shape (σ v)) f ts
  there_onto σ f no_types = refl
  there_onto σ f (type_then t ts) = ap (λ x. shaped_onto rigid (app f x) (instances_of σ ts)) (there σ t) ∙ there_onto σ (app f (shaped (λ v. shape (σ v)) t)) ts

joined : TypeTerms → TypeTerms → TypeTerms
joined no_types us = us
joined (type_then t ts) us = type_then t (joined ts us)

joined_none : (ts : TypeTerms) → joined ts no_types ≡ ts
unfolding joined
joined_none no_types = refl
joined_none (type_then t ts) = ap (type_then t) (joined_none ts)

joined_with : (ts : TypeTerms) (x : TypeTerm) (us : TypeTerms) → joined (with_argument x ts) us ≡ joined ts (type_then x us)
unfolding joined
joined_with no_types x us = refl
joined_with (type_then t ts) x us = ap (type_then t) (joined_with ts x us)

nothing_before : (us : TypeTerms) → joined no_types us ≡ us
unfolding joined
nothing_before us = refl

mutual
  back : (σ : ℕ → Shape) (t : TypeTerm) → type_of (shaped σ t) ≡ instance_of (λ v. type_of (σ v)) t
  back σ int_type = refl
  back σ char_type = refl
  back σ string_type = refl
  back σ state_type = refl
  back σ (variable_type v) = refl
  back σ (union_type u ts) = back_onto σ (named (N.Union u)) u no_types refl ts ∙ ap (union_type u) (nothing_before (instances_of (λ v. type_of (σ v)) ts))

  back_onto : (σ : ℕ → Shape) (f : Shape) (u : ℕ) (us : TypeTerms) → type_of f ≡ union_type u us → (ts : TypeTerms) → type_of (shaped_onto σ f ts) ≡ union_type u (joined us (instances_of (λ v. type_of (σ v)) ts))
  back_onto σ f u us e no_types = e ∙ ap (union_type u) (sym (joined_none us))
  back_onto σ f u us e (type_then t ts) =
      let x = instance_of (λ v. type_of (σ v)) t in
      back_onto σ (app f (shaped σ t)) u (with_argument x us) (ap (λ g. applied g (type_of (shaped σ t))) e ∙ ap (λ y. union_type u (with_argument y us)) (back σ t)) ts
      ∙ ap (union_type u) (joined_with us x (instances_of (λ v. type_of (σ v)) ts))

mutual
  itself : (t : TypeTerm) → instance_of variable_type t ≡ t
  itself int_type = refl
  itself char_type = refl
  itself string_type = refl
  itself state_type = refl
  itself (variable_type v) = refl
  itself (union_type u ts) = ap (union_type u) (all_itself ts)

  all_itself : (ts : TypeTerms) → instances_of variable_type ts ≡ ts
  all_itself no_types = refl
  all_itself (type_then t ts) = ap (λ x. type_then x (instances_of variable_type ts)) (itself t) ∙ ap (type_then t) (all_itself ts)

pub exact : (t : TypeTerm) → type_of (shape t) ≡ t
exact t = back rigid t ∙ itself t

pub shape-injective : (t u : TypeTerm) → shape t ≡ shape u → t ≡ u
shape-injective t u e = sym (exact t) ∙ ap type_of e ∙ exact u

-- trees, and instances, for variables that agree
mutual
  shaped_agrees : (σ σ' : ℕ → Shape) (t : TypeTerm) → ((v : ℕ) → σ v ≡ σ' v) → shaped σ t ≡ shaped σ' t
  shaped_agrees σ σ' int_type e = refl
  shaped_agrees σ σ' char_type e = refl
  shaped_agrees σ σ' string_type e = refl
  shaped_agrees σ σ' state_type e = refl
  shaped_agrees σ σ' (variable_type v) e = e v
  shaped_agrees σ σ' (union_type u ts) e = shaped_onto_agrees σ σ' (named (N.Union u)) ts e

  shaped_onto_agrees : (σ σ' : ℕ → Shape) (f : Shape) (ts : TypeTerms) → ((v : ℕ) → σ v ≡ σ' v) → shaped_onto σ f ts ≡ shaped_onto σ' f ts
  shaped_onto_agrees σ σ' f no_types e = refl
  shaped_onto_agrees σ σ' f (type_then t ts) e = ap (λ x. shaped_onto σ (app f x) ts) (shaped_agrees σ σ' t e) ∙ shaped_onto_agrees σ σ' (app f (shaped σ' t)) ts e

mutual
  pub instance_agrees : (f g : ℕ → TypeTerm) (t : TypeTerm) → ((v : ℕ) → f v ≡ g v) → instance_of f t ≡ instance_of g t
  instance_agrees f g int_type e = refl
  instance_agrees f g char_type e = refl
  instance_agrees f g string_type e = refl
  instance_agrees f g state_type e = refl
  instance_agrees f g (variable_type v) e = e v
  instance_agrees f g (union_type u ts) e = ap (union_type u) (instances_agree f g ts e)

  instances_agree : (f g : ℕ → TypeTerm) (ts : TypeTerms) → ((v : ℕ) → f v ≡ g v) → instances_of f ts ≡ instances_of g ts
  instances_agree f g no_types e = refl
  instances_agree f g (type_then t ts) e = ap₂ (λ x xs. type_then x xs) (instance_agrees f g t e) (instances_agree f g ts e)

-- a choice between two, and what is made of it
if_below : {A : Type 0} (n v : ℕ) (x y : A) → v < n → cond (nat_lt v n) x y ≡ x
if_below n v x y lt = ap (λ b. cond b x y) (lt-ltb v n lt)

chosen_agrees : (n : ℕ) (σ σ' : ℕ → Shape) → ((v : ℕ) → v < n → σ v ≡ σ' v) → (v : ℕ) → chosen n σ v ≡ chosen n σ' v
chosen_agrees n σ σ' same v = elim (cases_lt v n) [
  | inl lt ↦ ap (λ b. cond b (σ v) (rigid v)) (lt-ltb v n lt) ∙ same v lt ∙ sym (ap (λ b. cond b (σ' v) (rigid v)) (lt-ltb v n lt))
  | inr ge ↦ ap (λ b. cond b (σ v) (rigid v)) (le-ltb v n ge) ∙ sym (ap (λ b. cond b (σ' v) (rigid v)) (le-ltb v n ge))
]

pub chosen_below : (n : ℕ) (σ : ℕ → Shape) (v : ℕ) → v < n → chosen n σ v ≡ σ v
chosen_below n σ v lt = ap (λ b. cond b (σ v) (rigid v)) (lt-ltb v n lt)

pub chosen_above : (n : ℕ) (σ : ℕ → Shape) (v : ℕ) → n ≤ v → chosen n σ v ≡ rigid v
chosen_above n σ v ge = ap (λ b. cond b (σ v) (rigid v)) (le-ltb v n ge)

pub placed_agrees : (n : ℕ) (σ σ' : ℕ → Shape) (t : TypeTerm) → ((v : ℕ) → v < n → σ v ≡ σ' v) → placed n σ t ≡ placed n σ' t
placed_agrees n σ σ' t same = shaped_agrees (chosen n σ) (chosen n σ') t (chosen_agrees n σ σ' same)

through : {A B : Type 0} (f : A → B) (b : Bool) (x y : A) → f (cond b x y) ≡ cond b (f x) (f y)
through f true x y = refl
through f false x y = refl

pub placed_under : (n : ℕ) (θ : ℕ → TypeTerm) (t : TypeTerm) → placed n (λ v. shape (θ v)) t ≡ shape (under n θ t)
placed_under n θ t =
    let φ : ℕ → TypeTerm = λ v. if nat_lt v n then θ v else variable_type v in
    sym (there φ t ∙ shaped_agrees (λ v. shape (φ v)) (chosen n (λ v. shape (θ v))) t (λ v. through shape (nat_lt v n) (θ v) (variable_type v)))

pub type_of_placed : (n : ℕ) (σ : ℕ → Shape) (t : TypeTerm) → type_of (placed n σ t) ≡ under n (λ v. type_of (σ v)) t
type_of_placed n σ t =
    back (chosen n σ) t
    ∙ instance_agrees (λ v. type_of (chosen n σ v)) (λ v. if nat_lt v n then type_of (σ v) else variable_type v) t (λ v. through type_of (nat_lt v n) (σ v) (rigid v))

under_agrees_at : (n : ℕ) (θ θ' : ℕ → TypeTerm) → ((v : ℕ) → v < n → θ v ≡ θ' v) → (v : ℕ) → cond (nat_lt v n) (θ v) (variable_type v) ≡ cond (nat_lt v n) (θ' v) (variable_type v)
under_agrees_at n θ θ' same v = elim (cases_lt v n) [
  | inl lt ↦ ap (λ b. cond b (θ v) (variable_type v)) (lt-ltb v n lt) ∙ same v lt ∙ sym (ap (λ b. cond b (θ' v) (variable_type v)) (lt-ltb v n lt))
  | inr ge ↦ ap (λ b. cond b (θ v) (variable_type v)) (le-ltb v n ge) ∙ sym (ap (λ b. cond b (θ' v) (variable_type v)) (le-ltb v n ge))
]

pub under_agrees : (n : ℕ) (θ θ' : ℕ → TypeTerm) (t : TypeTerm) → ((v : ℕ) → v < n → θ v ≡ θ' v) → under n θ t ≡ under n θ' t
under_agrees n θ θ' t same = instance_agrees (λ v. if nat_lt v n then θ v else variable_type v) (λ v. if nat_lt v n then θ' v else variable_type v) t (under_agrees_at n θ θ' same)

-- a tree with trees for its variables below n
abbrev pub grafted : (n : ℕ) → (ℕ → Shape) → Shape → Shape
grafted n σ (named m) = named m
grafted n σ (rigid v) = chosen n σ v
grafted n σ (app f x) = app (grafted n σ f) (grafted n σ x)

mutual
  pub grafted_shape : (n : ℕ) (σ : ℕ → Shape) (t : TypeTerm) → grafted n σ (shape t) ≡ placed n σ t
  grafted_shape n σ int_type = refl
  grafted_shape n σ char_type = refl
  grafted_shape n σ string_type = refl
  grafted_shape n σ state_type = refl
  grafted_shape n σ (variable_type v) = refl
  grafted_shape n σ (union_type u ts) = grafted_onto n σ (named (N.Union u)) ts

  grafted_onto : (n : ℕ) (σ : ℕ → Shape) (f : Shape) (ts : TypeTerms) → grafted n σ (shaped_onto rigid f ts) ≡ shaped_onto (chosen n σ) (grafted n σ f) ts
  grafted_onto n σ f no_types = refl
  grafted_onto n σ f (type_then t ts) = grafted_onto n σ (app f (shape t)) ts ∙ ap (λ x. shaped_onto (chosen n σ) (app (grafted n σ f) x) ts) (grafted_shape n σ t)

shaped_onto-argument : (σ : ℕ → Shape) (f : Shape) (x : TypeTerm) (ts : TypeTerms) → shaped_onto σ f (with_argument x ts) ≡ app (shaped_onto σ f ts) (shaped σ x)
shaped_onto-argument σ f x no_types = refl
shaped_onto-argument σ f x (type_then t ts) = shaped_onto-argument σ (app f (shaped σ t)) x ts

abbrev left_of : Shape → Shape
left_of (app f x) = f
left_of s = s

abbrev right_of : Shape → Shape
right_of (app f x) = x
right_of s = s

abbrev IsApp : Shape → Type 0
IsApp (app f x) = Unit {0}
IsApp s = ⊥

no_app : (s f x : Shape) → (IsApp s → ⊥) → s ≡ app f x → ⊥
no_app s f x none e = none (subst IsApp (sym e) tt)

proper_app : (n : ℕ) (σ : ℕ → Shape) (f x : Shape) (t : TypeTerm) → type_of f ≡ t → shape (applied t (type_of x)) ≡ app (grafted n σ f) (grafted n σ x) → (shape (type_of f) ≡ grafted n σ f → shape (type_of f) ≡ f) → (shape (type_of x) ≡ grafted n σ x → shape (type_of x) ≡ x) → shape (applied t (type_of x)) ≡ app f x
proper_app n σ f x int_type ef e hf hx = absurd (no_app _ _ _ (λ h. h) e)
proper_app n σ f x char_type ef e hf hx = absurd (no_app _ _ _ (λ h. h) e)
proper_app n σ f x string_type ef e hf hx = absurd (no_app _ _ _ (λ h. h) e)
proper_app n σ f x state_type ef e hf hx = absurd (no_app _ _ _ (λ h. h) e)
proper_app n σ f x (variable_type v) ef e hf hx = absurd (no_app _ _ _ (λ h. h) e)
proper_app n σ f x (union_type u ts) ef e hf hx =
    let apart = shaped_onto-argument rigid (named (N.Union u)) (type_of x) ts in
    let e' = sym apart ∙ e in
    let at_f = sym (ap shape ef) ∙ hf (ap shape ef ∙ ap left_of e') in
    let at_x = hx (ap right_of e') in
    apart ∙ ap (λ a. app a (shape (type_of x))) at_f ∙ ap (app f) at_x

-- a tree that can be read as a type once trees are put for its variables is the tree of that type
pub proper_of : (n : ℕ) (σ : ℕ → Shape) (s : Shape) → shape (type_of s) ≡ grafted n σ s → shape (type_of s) ≡ s
proper_of n σ (named N.Int) e = refl
proper_of n σ (named N.Char) e = refl
proper_of n σ (named N.Str) e = refl
proper_of n σ (named N.Io) e = refl
proper_of n σ (named (N.Union u)) e = refl
proper_of n σ (rigid v) e = refl
proper_of n σ (app f x) e = proper_app n σ f x (type_of f) refl e (proper_of n σ f) (proper_of n σ x)

-- the arguments of a union type, each with trees for its variables and read again
all_placed : (n : ℕ) (σ : ℕ → Shape) (args : List Ty) → instances_of (λ v. if nat_lt v n then type_of (σ v) else variable_type v) (type_terms (map plain_type args)) ≡ type_terms (map (λ t. type_of (placed n σ (plain_type t))) args)
all_placed n σ [] = refl
all_placed n σ (t ∷ ts) = ap₂ (λ x xs. type_then x xs) (sym (type_of_placed n σ (plain_type t))) (all_placed n σ ts)

pub union_placed : (n : ℕ) (σ : ℕ → Shape) (u : ℕ) (args : List Ty) → union_type u (type_terms (map (λ t. type_of (placed n σ (plain_type t))) args)) ≡ type_of (placed n σ (union_type u (type_terms (map plain_type args))))
union_placed n σ u args = sym (type_of_placed n σ (union_type u (type_terms (map plain_type args))) ∙ ap (union_type u) (all_placed n σ args))
