-- The first module of a name, step by step.
use Rattle.std.proofs.Common.{◌≡◌, ℕ, ◌+◌, ◌<◌, Bool, true, false, List, ◌∷◌, length, get_or, drop, refl, sym, ap, ◌∙◌}
use Rattle.std.specs.Prelude.{if◌then◌else◌}
use Rattle.std.specs.Str.{bytes_eq}
use Rattle.std.proofs.lemmas.List.{at_drop_more}
use Rattle.std.proofs.lemmas.Slice.Eq.{bytes_eq-Decides}
use Rattle.mc_names.specs.declared.names.Scope.{Scope}
use Rattle.mc_names.specs.Linked.{module_from}

first_by : (b : Bool) (k n : ℕ) → b ≡ true → (if b then k else n) ≡ k
first_by true k n e = refl
first_by false k n e = absurd (let clash : false ≡ true = e in cc)

later_by : (b : Bool) (k n : ℕ) → (b ≡ true → ⊥) → (if b then k else n) ≡ n
later_by true k n h = absurd (h refl)
later_by false k n h = refl

pub module_here :
    (k : ℕ) (w : List ℕ) (xs : List Scope) (i : ℕ) (s : Scope)
    → i < length xs → s ≡ get_or xs i s → s.«module» ≡ w
    → module_from k w (drop i xs) ≡ k
module_here k w xs i s below is same =
    at_drop_more (module_from k w) xs i s below
    ∙ ap (λ (y : Scope). module_from k w (y ∷ drop (i + 1) xs)) (sym is)
    ∙ first_by (bytes_eq s.«module» w) k (module_from (k + 1) w (drop (i + 1) xs))
    ((bytes_eq-Decides s.«module» w).1 same)

pub module_later :
    (k : ℕ) (w : List ℕ) (xs : List Scope) (i : ℕ) (s : Scope)
    → i < length xs → s ≡ get_or xs i s → (s.«module» ≡ w → ⊥)
    → module_from k w (drop i xs) ≡ module_from (k + 1) w (drop (i + 1) xs)
module_later k w xs i s below is other =
    at_drop_more (module_from k w) xs i s below
    ∙ ap (λ (y : Scope). module_from k w (y ∷ drop (i + 1) xs)) (sym is)
    ∙ later_by (bytes_eq s.«module» w) k (module_from (k + 1) w (drop (i + 1) xs))
    (λ e. other ((bytes_eq-Decides s.«module» w).0 e))
