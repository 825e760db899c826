-- What is kept of disjuncts, as loops over them read it.
use Rattle.std.proofs.Common.{◌≡◌, ℕ, ◌+◌, ◌<◌, List, [], ◌∷◌, ◌++◌, length, map, take, drop, get_or, Bool, true, false, nat_eq, ◌||◌, if◌then◌else◌, Option, All, refl, sym, ap, ap₂, ◌∙◌, subst, append_assoc}
use Rattle.std.specs.List.{list_any}
use Rattle.std.specs.Option.{option_map}
use Rattle.std.specs.HashMap.{get}
use Rattle.std.proofs.lemmas.List.{drop_more}
use Rattle.std.proofs.lemmas.List.Elements.{All-get_or}
use Rattle.std.proofs.lemmas.List.Folds.{list_any_more}
use Rattle.mc_model.specs.Scheduled.{for_symbol}
use Rattle.mc_accepted.specs.Switched.{is_label}
use Rattle.mc_switch.specs.declared.disjunct.Opened.{Opened}
use Rattle.mc_switch.specs.declared.opening.Opening.{Opening}
use Rattle.mc_switch.specs.declared.opening.OpeningLabel.{OpeningLabel}
use Rattle.mc_switch.specs.Openings.{plain_opening_label}
use Rattle.mc_switch.specs.code.Labels.{KeepsFirst, is_symbol_in}
use Rattle.mc_switch.specs.code.Choices.{those_that}

pub keeps_at : (os : List Opened) (i : ℕ) (o : Opened) → i < length os → o ≡ get_or os i o → All KeepsFirst os → KeepsFirst o
keeps_at os i o lt e all = subst KeepsFirst (sym e) (All-get_or KeepsFirst os i o lt all)

pub one_more_symbol : (x s : ℕ) (os : List Opened) (i : ℕ) (o : Opened) (l : Option OpeningLabel) (before after : Bool) → i < length os → o ≡ get_or os i o → KeepsFirst o → l ≡ get nat_eq o.labels x → before ≡ list_any (is_symbol_in x s) (take i os) → after ≡ (before || is_label (for_symbol s) (option_map plain_opening_label l)) → after ≡ list_any (is_symbol_in x s) (take (i + 1) os)
one_more_symbol x s os i o l before after lt e keeps is h k =
    k
    ∙ ap₂ (λ a b. a || b) h
    (ap (λ (m : Option OpeningLabel). is_label (for_symbol s) (option_map plain_opening_label m)) is
    ∙ ap (is_label (for_symbol s)) (keeps x)
    ∙ ap (is_symbol_in x s) e)
    ∙ sym (list_any_more (is_symbol_in x s) os i o lt)

one_that : (f : ℕ → Bool) (x : ℕ) (xs : List ℕ) → those_that f (x ∷ []) ++ those_that f xs ≡ those_that f (x ∷ xs)
one_that f x xs = by_test (f x)
  where
    by_test : (t : Bool) → (if t then x ∷ [] else []) ++ those_that f xs ≡ (if t then x ∷ those_that f xs else those_that f xs)
    by_test true = refl
    by_test false = refl

abbrev variables : List Opening → List ℕ
variables os = map (λ (o : Opening). o.variable) os

pub next_candidate : (f : ℕ → Bool) (os : List Opening) (i : ℕ) (o : Opening) (before after all : List ℕ) → i < length os → after ≡ before ++ those_that f ((get_or os i o).variable ∷ []) → before ++ those_that f (map (λ (o : Opening). o.variable) (drop i os)) ≡ all → after ++ those_that f (map (λ (o : Opening). o.variable) (drop (i + 1) os)) ≡ all
next_candidate f os i o before after all lt put h =
    let rest = drop (i + 1) os in
    let x = (get_or os i o).variable in
    ap (λ xs. xs ++ those_that f (variables rest)) put
    ∙ append_assoc before (those_that f (x ∷ [])) (those_that f (variables rest))
    ∙ ap (λ xs. before ++ xs) (one_that f x (variables rest))
    ∙ ap (λ (ps : List Opening). before ++ those_that f (variables ps)) (sym (drop_more os i o lt))
    ∙ h
