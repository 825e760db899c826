-- Declared modes by their numbers.
use Rattle.std.proofs.Common.{◌≡◌, ℕ, zero, suc, ◌+◌, ◌<◌, ◌≤◌, List, [], ◌∷◌, ◌++◌, length, get_or, Option, Some, None, Bool, true, false, not, is_some, refl, sym, ap, ◌∙◌, arith, true≢false, append_assoc}
use Rattle.std.specs.List.{All, flat_map}
use Rattle.std.proofs.lemmas.List.{map-append, flat_map_more, get_or-map}
use Rattle.std.proofs.lemmas.List.Elements.{All-nil, All-cons, All-append, All-map}
use Rattle.mc_program.specs.Programs.{Predicate}
use Rattle.mc_program.specs.PlainPrograms.{plain_pred, no_pred, plain_program}
use Rattle.mc_program.specs.declared.builtin.Builtin.{Builtin}
use Rattle.mc_program.specs.declared.program.Pred.{Pred}
use Rattle.mc_program.specs.declared.program.Program.{Program}
use Rattle.mc_model.specs.Lists.{from}
use Rattle.mc_model.specs.declared.inst.Sig.{Sig}
use Rattle.mc_modes.specs.Signatures.{modes_at}
use Rattle.mc_modes.specs.Numbering.{ids_of, unless_builtin, ids_at, IsMode, mode_ids}
use Rattle.mc_modes.specs.declared.modes.ModeId.{ModeId}

from_more : (n k : ℕ) → from n (suc k) ≡ from n k ++ (n + k) ∷ []
from_more n zero = ap (λ m. m ∷ []) (let e : n ≡ n + zero = omega arith in e)
from_more n (suc k) =
    ap (λ l. n ∷ l)
    (from_more (suc n) k
    ∙ ap (λ m. from (suc n) k ++ m ∷ []) (let e : suc n + k ≡ n + suc k = omega arith in e))

one_more : (k : ℕ) → from 0 (k + 1) ≡ from 0 k ++ k ∷ []
one_more k =
    ap (from 0) (let e : k + 1 ≡ suc k = omega arith in e)
    ∙ from_more 0 k
    ∙ ap (λ m. from 0 k ++ m ∷ []) (let e : 0 + k ≡ k = omega arith in e)

abbrev mode_of : ℕ → ℕ → ModeId
mode_of p k = record { pred = p; mode = k }

-- one more mode of a predicate
pub one_mode : (xs ys zs : List ModeId) (p k : ℕ) → ys ≡ xs ++ ids_of p (from 0 k) → zs ≡ ys ++ mode_of p k ∷ [] → zs ≡ xs ++ ids_of p (from 0 (k + 1))
one_mode xs ys zs p k e h =
    h
    ∙ ap (λ (l : List ModeId). l ++ mode_of p k ∷ []) e
    ∙ append_assoc xs (ids_of p (from 0 k)) (mode_of p k ∷ [])
    ∙ ap (λ (l : List ModeId). xs ++ l) (sym (ap (ids_of p) (one_more k) ∙ map-append (mode_of p) (from 0 k) (k ∷ [])))

-- one more predicate
one_pred : (P : Program) (sigs : List Sig) (k : ℕ) (xs ys : List ModeId) → xs ≡ flat_map (ids_at P sigs) (from 0 k) → ys ≡ xs ++ ids_at P sigs k → ys ≡ flat_map (ids_at P sigs) (from 0 (k + 1))
one_pred P sigs k xs ys e h =
    h
    ∙ ap (λ (l : List ModeId). l ++ ids_at P sigs k) e
    ∙ flat_map_more (ids_at P sigs) [] (from 0 k) k
    ∙ ap (flat_map (ids_at P sigs)) (sym (one_more k))

builtin_at : (P : Program) (k : ℕ) (p : Pred) → k < length P.preds → p ≡ get_or P.preds k p → ((plain_program P).preds k).builtin ≡ p.builtin
builtin_at P k p l e =
    ap (λ (d : Predicate). d.builtin) (get_or-map plain_pred P.preds k p no_pred l ∙ ap plain_pred (sym e))

when_none : (o : Option Builtin) (ids : List ModeId) (b : Bool) → is_some o ≡ not b → b ≡ true → unless_builtin o ids ≡ ids
when_none None ids b e h = refl
when_none (Some op) ids true e h = absurd (true≢false e)
when_none (Some op) ids false e h = absurd (true≢false (sym h))

when_some : (o : Option Builtin) (ids : List ModeId) (b : Bool) → is_some o ≡ not b → b ≡ false → unless_builtin o ids ≡ []
when_some (Some op) ids b e h = refl
when_some None ids true e h = absurd (true≢false h)
when_some None ids false e h = absurd (true≢false (sym e))

pub with_pred : (P : Program) (sigs : List Sig) (k n : ℕ) (p : Pred) (b : Bool) (xs ys : List ModeId) → k < length P.preds → p ≡ get_or P.preds k p → is_some p.builtin ≡ not b → b ≡ true → n ≡ length (modes_at sigs k) → xs ≡ flat_map (ids_at P sigs) (from 0 k) → ys ≡ xs ++ ids_of k (from 0 n) → ys ≡ flat_map (ids_at P sigs) (from 0 (k + 1))
with_pred P sigs k n p b xs ys l is e t c i h =
    one_pred P sigs k xs ys i
    (h
    ∙ ap (λ m. xs ++ ids_of k (from 0 m)) c
    ∙ ap (λ (z : List ModeId). xs ++ z) (sym (when_none ((plain_program P).preds k).builtin (ids_of k (from 0 (length (modes_at sigs k)))) b (ap is_some (builtin_at P k p l is) ∙ e) t)))

pub without_pred : (P : Program) (sigs : List Sig) (k : ℕ) (p : Pred) (b : Bool) (xs ys : List ModeId) → k < length P.preds → p ≡ get_or P.preds k p → is_some p.builtin ≡ not b → b ≡ false → xs ≡ flat_map (ids_at P sigs) (from 0 k) → ys ≡ xs → ys ≡ flat_map (ids_at P sigs) (from 0 (k + 1))
without_pred P sigs k p b xs ys l is e t i h =
    one_pred P sigs k xs ys i
    (h
    ∙ sym (no_more xs)
    ∙ ap (λ (z : List ModeId). xs ++ z) (sym (when_some ((plain_program P).preds k).builtin (ids_of k (from 0 (length (modes_at sigs k)))) b (ap is_some (builtin_at P k p l is) ∙ e) t)))
  where
    no_more : (zs : List ModeId) → zs ++ [] ≡ zs
    no_more [] = refl
    no_more (z ∷ zs) = ap (λ (l : List ModeId). z ∷ l) (no_more zs)

each_from : (Q : ℕ → Type 0) (n k : ℕ) → ((j : ℕ) → n ≤ j → j < n + k → Q j) → All Q (from n k)
each_from Q n zero h = All-nil Q
each_from Q n (suc k) h =
    All-cons Q n (from (suc n) k) (h n (omega arith) (omega arith))
    (each_from Q (suc n) k (λ j l u. h j (omega arith) (omega arith)))

each_flat : (Q : ModeId → Type 0) (f : ℕ → List ModeId) (n k : ℕ) → ((j : ℕ) → n ≤ j → j < n + k → All Q (f j)) → All Q (flat_map f (from n k))
each_flat Q f n zero h = All-nil Q
each_flat Q f n (suc k) h =
    All-append Q (f n) (flat_map f (from (suc n) k)) (h n (omega arith) (omega arith))
    (each_flat Q f (suc n) k (λ j l u. h j (omega arith) (omega arith)))

unless_each : (Q : ModeId → Type 0) (o : Option Builtin) (ids : List ModeId) → (o ≡ None → All Q ids) → All Q (unless_builtin o ids)
unless_each Q (Some op) ids h = All-nil Q
unless_each Q None ids h = h refl

-- each is a mode of a predicate that is no builtin
pub are_modes : (P : Program) (sigs : List Sig) → All (IsMode P sigs) (mode_ids P sigs)
are_modes P sigs =
    each_flat (IsMode P sigs) (ids_at P sigs) 0 (length P.preds)
    (λ p l u.
    unless_each (IsMode P sigs) ((plain_program P).preds p).builtin (ids_of p (from 0 (length (modes_at sigs p))))
    (λ none.
    All-map (IsMode P sigs) (mode_of p) (from 0 (length (modes_at sigs p)))
    (each_from (λ k. IsMode P sigs (mode_of p k)) 0 (length (modes_at sigs p))
    (λ k m v. record { pred = omega arith; no_builtin = none; mode = omega arith }))))
