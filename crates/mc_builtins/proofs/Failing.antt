-- No builtin does anything without inputs, or at more than two.
use Rattle.std.proofs.Common.{◌≡◌, ℕ, ◌≤◌, ◌<◌, length, map, arith, ℤ, List, [], ◌∷◌, refl}
use Rattle.mc_program.specs.Values.{Val, int, char, str, con, state}
use Rattle.mc_program.specs.declared.builtin.Builtin.{Builtin}
use Rattle.mc_program.specs.declared.builtin.Builtin.TheVariants as B
use Rattle.mc_model.specs.Outcomes.{Outcome, fails}
use Rattle.mc_model.specs.Builtins.{Library, outcome, on_int, on_char, on_str, on_state}

int-fails : (f : ℤ → List Val → Outcome) (v : Val) (vs : List Val) → ((n : ℤ) → f n vs ≡ fails) → on_int f (v ∷ vs) ≡ fails
int-fails f (int n) vs h = h n
int-fails f (char c) vs h = refl
int-fails f (str b) vs h = refl
int-fails f (con s ws) vs h = refl
int-fails f (state w k) vs h = refl

char-fails : (f : ℕ → List Val → Outcome) (v : Val) (vs : List Val) → ((c : ℕ) → f c vs ≡ fails) → on_char f (v ∷ vs) ≡ fails
char-fails f (int n) vs h = refl
char-fails f (char c) vs h = h c
char-fails f (str b) vs h = refl
char-fails f (con s ws) vs h = refl
char-fails f (state w k) vs h = refl

str-fails : (f : List ℕ → List Val → Outcome) (v : Val) (vs : List Val) → ((s : List ℕ) → f s vs ≡ fails) → on_str f (v ∷ vs) ≡ fails
str-fails f (int n) vs h = refl
str-fails f (char c) vs h = refl
str-fails f (str b) vs h = h b
str-fails f (con s ws) vs h = refl
str-fails f (state w k) vs h = refl

state-fails : (f : List ℕ → ℕ → List Val → Outcome) (v : Val) (vs : List Val) → ((w : List ℕ) (k : ℕ) → f w k vs ≡ fails) → on_state f (v ∷ vs) ≡ fails
state-fails f (int n) vs h = refl
state-fails f (char c) vs h = refl
state-fails f (str b) vs h = refl
state-fails f (con s ws) vs h = refl
state-fails f (state w k) vs h = h w k

module _ (L : Library) (input : List ℕ) where
  none : (op : Builtin) → outcome L input op [] ≡ fails
  none B.IntPlus = refl
  none op = refl

  more : (op : Builtin) (v w u : Val) (vs : List Val) → outcome L input op (v ∷ w ∷ u ∷ vs) ≡ fails
  more B.IntPlus v w u vs = int-fails _ v _ (λ a. int-fails _ w _ (λ b. refl))
  more B.IntMinus v w u vs = int-fails _ v _ (λ a. int-fails _ w _ (λ b. refl))
  more B.IntTimes v w u vs = int-fails _ v _ (λ a. int-fails _ w _ (λ b. refl))
  more B.IntQuotient v w u vs = int-fails _ v _ (λ a. int-fails _ w _ (λ b. refl))
  more B.IntDiv v w u vs = int-fails _ v _ (λ a. int-fails _ w _ (λ b. refl))
  more B.IntMod v w u vs = int-fails _ v _ (λ a. int-fails _ w _ (λ b. refl))
  more B.IntRem v w u vs = int-fails _ v _ (λ a. int-fails _ w _ (λ b. refl))
  more B.IntLess v w u vs = int-fails _ v _ (λ a. int-fails _ w _ (λ b. refl))
  more B.IntGreater v w u vs = int-fails _ v _ (λ a. int-fails _ w _ (λ b. refl))
  more B.IntAtMost v w u vs = int-fails _ v _ (λ a. int-fails _ w _ (λ b. refl))
  more B.IntAtLeast v w u vs = int-fails _ v _ (λ a. int-fails _ w _ (λ b. refl))
  more B.IntNegate v w u vs = int-fails _ v _ (λ a. refl)
  more B.IntToString v w u vs = int-fails _ v _ (λ a. refl)
  more B.CharFromInt v w u vs = int-fails _ v _ (λ a. refl)
  more B.StringLength v w u vs = str-fails _ v _ (λ s. refl)
  more B.StringCodePoints v w u vs = str-fails _ v _ (λ s. refl)
  more B.ToCharList v w u vs = str-fails _ v _ (λ s. refl)
  more B.StringToInt v w u vs = str-fails _ v _ (λ s. refl)
  more B.Error v w u vs = str-fails _ v _ (λ s. refl)
  more B.CharToString v w u vs = char-fails _ v _ (λ c. refl)
  more B.CharToInt v w u vs = char-fails _ v _ (λ c. refl)
  more B.CharIsDigit v w u vs = char-fails _ v _ (λ c. refl)
  more B.StringJoin v w u vs = str-fails _ v _ (λ s. str-fails _ w _ (λ t. refl))
  more B.WriteString v w u vs = str-fails _ v _ (λ s. state-fails _ w _ (λ t k. refl))
  more B.WriteChar v w u vs = char-fails _ v _ (λ c. state-fails _ w _ (λ t k. refl))
  more B.WriteInt v w u vs = int-fails _ v _ (λ a. state-fails _ w _ (λ t k. refl))
  more B.Write v w u vs = state-fails _ w _ (λ t k. refl)
  more B.Nl v w u vs = state-fails _ v _ (λ t k. refl)
  more B.ReadLine v w u vs = state-fails _ v _ (λ t k. refl)

  pub none_fails : (op : Builtin) (f : ℕ → Val) (xs : List ℕ) → length xs < 1 → outcome L input op (map f xs) ≡ fails
  none_fails op f [] few = none op
  none_fails op f (x ∷ xs) few = absurd (omega arith)

  pub more_fail : (op : Builtin) (f : ℕ → Val) (xs : List ℕ) → 3 ≤ length xs → outcome L input op (map f xs) ≡ fails
  more_fail op f [] many = absurd (omega arith)
  more_fail op f (x ∷ []) many = absurd (omega arith)
  more_fail op f (x ∷ y ∷ []) many = absurd (omega arith)
  more_fail op f (x ∷ y ∷ z ∷ xs) many = more op (f x) (f y) (f z) (map f xs)
