-- Types at places that are those of a meaning, over type terms and over trees.
use Rattle.std.proofs.Common.{◌≡◌, ℕ, zero, suc, ◌<◌, Option, Some, None, List, [], ◌∷◌, length, get_or, map, refl, sym, ap, ap₂, subst, ◌∙◌, arith}
use Rattle.std.specs.Prelude.{slice_get}
use Rattle.std.proofs.lemmas.List.{length-map}
use Rattle.mc_program.specs.Programs.{TypeTerm, Source}
use Rattle.mc_program.specs.PlainPrograms.{plain_type}
use Rattle.mc_program.specs.declared.ty.Ty.{Ty}
use Rattle.mc_accepted.specs.ProperTypes.{Parameters}
use Rattle.mc_types.specs.Shapes.{Shape}
use Rattle.mc_types.specs.Trees.{shape, type_of}
use Rattle.mc_types.specs.Substitutions.{under}
use Rattle.mc_types.proofs.TreeLaws.{placed_under, type_of_placed}
use Rattle.mc_types.specs.Fits.{instance, Fits}
use Rattle.mc_types.specs.Typed.{Chosen, Typed}
use Rattle.mc_types.specs.declared.signature.Signature.{Signature}
use Rattle.mc_types.specs.declared.steps.Step.{Step}
use Rattle.mc_typecheck.specs.Ties.{Meaning, of_equation, Declared, Tie, declared}
use Rattle.mc_typecheck.specs.NamedWalks.{Suits}
use Rattle.mc_typecheck.specs.Searched.{PlainStep, plain_signature, plain_step, plain_tie, AreTies}

-- the choices type the first ties, as many as there are choices
abbrev pub Suited : (P : Source) (D : Parameters) → (ℕ → TypeTerm) → List Tie → List ℕ → Type 0
Suited P D τ ties [] = Unit {0}
Suited P D τ [] (c ∷ cs) = ⊥
Suited P D τ (tie ∷ ties) (c ∷ cs) =
    (c < length tie.meanings)
    × Suits (map τ tie.places) (declared P D (get_or tie.meanings c of_equation))
    × Suited P D τ ties cs

pub map_both : {X Y Z : Type 0} (f : X → Y) (g : Y → Z) (xs : List X) → map g (map f xs) ≡ map (λ x. g (f x)) xs
map_both f g [] = refl
map_both f g (x ∷ xs) = ap (λ ys. g (f x) ∷ ys) (map_both f g xs)

read_all : (n : ℕ) (σ : ℕ → Shape) (tys : List Ty) → map (under n (λ v. type_of (σ v))) (map plain_type tys) ≡ map type_of (map (instance n σ) tys)
read_all n σ [] = refl
read_all n σ (t ∷ ts) = ap₂ (λ x xs. x ∷ xs) (sym (type_of_placed n σ (plain_type t))) (read_all n σ ts)

shape_all : (n : ℕ) (σ : ℕ → TypeTerm) (tys : List Ty) → map (instance n (λ v. shape (σ v))) tys ≡ map shape (map (under n σ) (map plain_type tys))
shape_all n σ [] = refl
shape_all n σ (t ∷ ts) = ap₂ (λ x xs. x ∷ xs) (placed_under n σ (plain_type t)) (shape_all n σ ts)

pub fits_suits : (θ : ℕ → Shape) (s : Signature) (places : List ℕ) → Fits θ s places → Suits (map (λ p. type_of (θ p)) places) (plain_signature s)
fits_suits θ s places h = (
  (λ v. type_of (h.0 v)),
  read_all s.vars h.0 s.types.items ∙ ap (map type_of) h.1 ∙ map_both θ type_of places,
)

pub suits_fits : (τ : ℕ → TypeTerm) (s : Signature) (places : List ℕ) → Suits (map τ places) (plain_signature s) → Fits (λ p. shape (τ p)) s places
suits_fits τ s places h = (
  (λ v. shape (h.0 v)),
  shape_all s.vars h.0 s.types.items ∙ ap (map shape) h.1 ∙ map_both τ shape places,
)

-- the signature at a number
abbrev held : Declared → Option Declared → Declared
held d (Some x) = x
held d None = d

none_some : (x : Declared) → None ≡ Some x → ⊥
none_some x e = cc

pub record Found (signatures : List Signature) (k : ℕ) (x : Declared) : Type 0 where
  pub signature : Signature
  pub is : (d : Signature) → get_or signatures k d ≡ signature
  pub plain : plain_signature signature ≡ x
  pub there : k < length signatures

pub found : (signatures : List Signature) (k : ℕ) (x : Declared) → slice_get (map plain_signature signatures) k ≡ Some x → Found signatures k x
found [] k x e = absurd (none_some x e)
found (s ∷ ss) zero x e = record { signature = s; is = λ d. refl; plain = ap (held x) e; there = omega arith }
found (s ∷ ss) (suc k) x e =
    let f = found ss k x e in record { signature = f.signature; is = f.is; plain = f.plain; there = omega (arith, f.there) }

abbrev rest_of : List (Option Declared) → List (Option Declared)
rest_of [] = []
rest_of (x ∷ xs) = xs

abbrev first_of : List (Option Declared) → Option Declared
first_of [] = None
first_of (x ∷ xs) = x

module _ (P : Source) (D : Parameters) (signatures : List Signature) where
  pub candidate_at : (ks : List ℕ) (ms : List Meaning) → map (λ k. slice_get (map plain_signature signatures) k) ks ≡ map (λ m. Some (declared P D m)) ms → (c : ℕ) → c < length ms → slice_get (map plain_signature signatures) (get_or ks c 0) ≡ Some (declared P D (get_or ms c of_equation))
  candidate_at ks [] e c lt = let none : ⊥ = omega arith in absurd none
  candidate_at [] (m ∷ ms) e c lt = let no : ◌≡◌ {A = ℕ} 0 (suc (length (map (λ m. Some (declared P D m)) ms))) = ap length e in let none : ⊥ = omega (arith, no) in absurd none
  candidate_at (k ∷ ks) (m ∷ ms) e zero lt = ap first_of e
  candidate_at (k ∷ ks) (m ∷ ms) e (suc c) lt = candidate_at ks ms (ap rest_of e) c (omega arith)

  pub as_many : (ks : List ℕ) (ms : List Meaning) → map (λ k. slice_get (map plain_signature signatures) k) ks ≡ map (λ m. Some (declared P D m)) ms → length ks ≡ length ms
  as_many ks ms e = sym (length-map ks (λ k. slice_get (map plain_signature signatures) k)) ∙ ap length e ∙ length-map ms (λ m. Some (declared P D m))

  module _ (s : Step) (t : Tie) (e : plain_step signatures s ≡ plain_tie P D t) where
    pub same_places : s.places.items ≡ t.places
    same_places = ap (λ (x : PlainStep). x.places) e

    pub same_candidates : map (λ k. slice_get (map plain_signature signatures) k) s.candidates.items ≡ map (λ m. Some (declared P D m)) t.meanings
    same_candidates = ap (λ (x : PlainStep). x.candidates) e

    pub found_at : (c : ℕ) → c < length t.meanings → Found signatures (get_or s.candidates.items c 0) (declared P D (get_or t.meanings c of_equation))
    found_at c lt = found signatures (get_or s.candidates.items c 0) (declared P D (get_or t.meanings c of_equation)) (candidate_at s.candidates.items t.meanings same_candidates c lt)

    chosen_suits : (θ : ℕ → Shape) (c : ℕ) → Chosen θ signatures s c → (c < length t.meanings) × Suits (map (λ p. type_of (θ p)) t.places) (declared P D (get_or t.meanings c of_equation))
    chosen_suits θ c h =
        let lt : c < length t.meanings = omega (arith, h.0, as_many s.candidates.items t.meanings same_candidates) in
        let f = found_at c lt in
        let Q : Signature → Type 0 = λ x. Fits θ x s.places.items in
        let fits : Fits θ f.signature s.places.items = subst Q (f.is f.signature) (h.1 f.signature) in
        let R : Declared → Type 0 = λ d. Suits (map (λ p. type_of (θ p)) t.places) d in
        let S : List ℕ → Type 0 = λ ps. Suits (map (λ p. type_of (θ p)) ps) (plain_signature f.signature) in
        (lt, subst R f.plain (subst S same_places (fits_suits θ f.signature s.places.items fits)))

    suits_chosen : (τ : ℕ → TypeTerm) (c : ℕ) → c < length t.meanings → Suits (map τ t.places) (declared P D (get_or t.meanings c of_equation)) → Chosen (λ p. shape (τ p)) signatures s c
    suits_chosen τ c lt h =
        let f = found_at c lt in
        let Q : Signature → Type 0 = λ x. Fits (λ p. shape (τ p)) x s.places.items in
        let R : Declared → Type 0 = λ d. Suits (map τ t.places) d in
        let S : List ℕ → Type 0 = λ ps. Suits (map τ ps) (plain_signature f.signature) in
        let fits : Fits (λ p. shape (τ p)) f.signature s.places.items = suits_fits τ f.signature s.places.items (subst S (sym same_places) (subst R (sym f.plain) h)) in
        (omega (arith, lt, as_many s.candidates.items t.meanings same_candidates), (λ d. subst Q (sym (f.is d)) fits))

  abbrev first_step : PlainStep → List PlainStep → PlainStep
  first_step d [] = d
  first_step d (x ∷ xs) = x

  abbrev other_steps : List PlainStep → List PlainStep
  other_steps [] = []
  other_steps (x ∷ xs) = xs

  pub first_is : (s : Step) (steps : List Step) (t : Tie) (ties : List Tie) → AreTies P D signatures (s ∷ steps) (t ∷ ties) → plain_step signatures s ≡ plain_tie P D t
  first_is s steps t ties e = ap (first_step (plain_step signatures s)) e

  pub others_are : (s : Step) (steps : List Step) (t : Tie) (ties : List Tie) → AreTies P D signatures (s ∷ steps) (t ∷ ties) → AreTies P D signatures steps ties
  others_are s steps t ties e = ap other_steps e

  pub ties_length : (steps : List Step) (ties : List Tie) → AreTies P D signatures steps ties → length steps ≡ length ties
  ties_length steps ties e = sym (length-map steps (plain_step signatures)) ∙ ap length e ∙ length-map ties (plain_tie P D)

  no_ties : (s : Step) (steps : List Step) → AreTies P D signatures (s ∷ steps) [] → ⊥
  no_ties s steps e = let no = ties_length (s ∷ steps) [] e in omega (arith, no)

  no_steps : (t : Tie) (ties : List Tie) → AreTies P D signatures [] (t ∷ ties) → ⊥
  no_steps t ties e = let no = ties_length [] (t ∷ ties) e in omega (arith, no)

  pub typed_suited : (θ : ℕ → Shape) (steps : List Step) (ties : List Tie) (cs : List ℕ) → AreTies P D signatures steps ties → Typed θ signatures steps cs → Suited P D (λ p. type_of (θ p)) ties cs
  typed_suited θ steps ties [] e h = tt
  typed_suited θ [] ties (c ∷ cs) e h = absurd h
  typed_suited θ (s ∷ steps) [] (c ∷ cs) e h = absurd (no_ties s steps e)
  typed_suited θ (s ∷ steps) (t ∷ ties) (c ∷ cs) e h =
      let one = chosen_suits s t (first_is s steps t ties e) θ c h.0 in
      (one.0, one.1, typed_suited θ steps ties cs (others_are s steps t ties e) h.1)

  pub suited_typed : (τ : ℕ → TypeTerm) (steps : List Step) (ties : List Tie) (cs : List ℕ) → AreTies P D signatures steps ties → Suited P D τ ties cs → Typed (λ p. shape (τ p)) signatures steps cs
  suited_typed τ steps ties [] e h = tt
  suited_typed τ steps [] (c ∷ cs) e h = absurd h
  suited_typed τ [] (t ∷ ties) (c ∷ cs) e h = absurd (no_steps t ties e)
  suited_typed τ (s ∷ steps) (t ∷ ties) (c ∷ cs) e h =
      (suits_chosen s t (first_is s steps t ties e) τ c h.0 h.1, suited_typed τ steps ties cs (others_are s steps t ties e) h.2)
