-- One more value of a row has been looked at.
use Rattle.std.proofs.Common.{◌≡◌, ℕ, zero, suc, ◌+◌, ◌<◌, ◌≤◌, refl, sym, ap, subst, ◌∙◌, List, [], ◌∷◌, ◌++◌, length, map, get_or, take, arith}
use Rattle.std.specs.Prelude.{All}
use Rattle.std.proofs.lemmas.List.{take_more, map_push}
use Rattle.std.proofs.lemmas.List.Elements.{All-push, All-tail}
use Rattle.mc_program.specs.Values.{Val, plain_value}
use Rattle.mc_program.specs.declared.value.Value.{Value}
use Rattle.mc_program.specs.declared.program.Program.{Program}
use Rattle.mc_values.specs.declared.heap.Heap.{Heap}
use Rattle.mc_values.specs.Heap.{IsLive, Extends, StandsFor, value_at, values_at}
use Rattle.mc_plain.specs.Values.{IsConstant, IsProper, IsValue}
use Rattle.mc_program.specs.Values.{int, char, str, con, state}

pub next_of : {A : Type 0} (xs : List A) (n : ℕ) (x : A) → n < length xs → get_or xs n x ≡ x → take (n + 1) xs ≡ take n xs ++ x ∷ []
next_of xs n x lt is = take_more xs n x lt ∙ ap (λ y. take n xs ++ y ∷ []) is

pub all_next : {A : Type 0} (P : A → Type 0) (xs : List A) (n : ℕ) (x : A) → n < length xs → get_or xs n x ≡ x → All P (take n xs) → P x → All P (take (n + 1) xs)
all_next P xs n x lt is all p = subst (All P) (sym (next_of xs n x lt is)) (All-push P (take n xs) x all p)

-- Refs stand for the same while the heap grows
pub values_stay : (h k : Heap) → Extends h k → (refs : List ℕ) → All (IsLive h) refs → values_at k refs ≡ values_at h refs
values_stay h k grows [] live = refl
values_stay h k grows (r ∷ rs) live =
    λ i. grows.same r (live 0 r (omega arith)) i ∷ values_stay h k grows rs (All-tail (IsLive h) r rs live) i

module _ (h k : Heap) (grows : Extends h k) (refs : List ℕ) (live : All (IsLive h) refs) where
  pub live_stay : All (IsLive k) refs
  live_stay = λ x d lt. grows.live (get_or refs x d) (live x d lt)

  -- a constant has got a Ref
  module _ (r : ℕ) (vs : List Value) (n : ℕ) (v : Value) (s : StandsFor k r (plain_value v)) where
    pub one_more_live : All (IsLive k) (refs ++ r ∷ [])
    one_more_live = All-push (IsLive k) refs r live_stay s.live

    pub one_more_value : n < length vs → get_or vs n v ≡ v → values_at h refs ≡ map plain_value (take n vs) → values_at k (refs ++ r ∷ []) ≡ map plain_value (take (n + 1) vs)
    one_more_value lt is e =
        map_push (value_at k) refs r
        ∙ ap (λ l. l ++ value_at k r ∷ []) (values_stay h k grows refs live ∙ e)
        ∙ ap (λ y. map plain_value (take n vs) ++ y ∷ []) s.is
        ∙ sym (map_push plain_value (take n vs) v)
        ∙ ap (map plain_value) (sym (next_of vs n v lt is))

-- a constant is a value of every program
pub constant_value : (P : Program) (v : Val) → IsConstant v → IsProper v → IsValue P v
constant_value P (int n) c p = record { named = tt; proper = p }
constant_value P (char n) c p = record { named = tt; proper = p }
constant_value P (str t) c p = record { named = tt; proper = p }
constant_value P (con f vs) c p = absurd c
constant_value P (state w k) c p = absurd c

-- all have been looked at
taken : {A : Type 0} (n : ℕ) (xs : List A) → length xs ≤ n → take n xs ≡ xs
taken zero [] h = refl
taken (suc n) [] h = refl
taken zero (x ∷ xs) h = absurd (omega arith)
taken (suc n) (x ∷ xs) h = ap (λ l. x ∷ l) (taken n xs (omega arith))

pub all_taken : {A : Type 0} (P : A → Type 0) (xs : List A) (n : ℕ) → length xs ≤ n → All P (take n xs) → All P xs
all_taken P xs n h all = subst (All P) (taken n xs h) all
