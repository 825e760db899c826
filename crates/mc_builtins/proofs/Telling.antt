-- What answers tell of outcomes.
use Rattle.std.proofs.Common.{◌≡◌, ℕ, ◌<◌, ◌≤◌, ℤ, length, map, get_or, arith, List, [], ◌∷◌, refl, sym, subst, ◌∙◌, Some, Result, Ok, Err, IfOk}
use Rattle.mc_base.specs.declared.memory.Memory.{Memory}
use Rattle.mc_program.specs.Values.{Val, int, char, str, con, state}
use Rattle.mc_program.specs.declared.builtin.Builtin.{Builtin}
use Rattle.mc_program.specs.declared.builtin.Builtin.TheVariants as B
use Rattle.mc_values.specs.declared.heap.Heap.{Heap}
use Rattle.mc_values.specs.Parts.{IsState, int_of, text_of, taken_of, with_written}
use Rattle.mc_model.specs.Outcomes.{Outcome, writes}
use Rattle.mc_model.specs.Builtins.{Library, outcome}
use Rattle.mc_builtins.specs.Answers.{Tells, ReadsFrom}
use Rattle.mc_builtins.specs.declared.applied.Applied.{Applied}
use Rattle.mc_builtins.specs.declared.applied.Applied.TheVariants as A
use Rattle.mc_builtins.specs.code.Made.{written_text}

-- an answer that tells one outcome tells each that is equal to it
module _ (h : Heap) (o p : List ℕ → Outcome) (e : (input : List ℕ) → p input ≡ o input) where
  tells_equal : (a : Applied) → Tells h o a → Tells h p a
  tells_equal (A.Gives refs) t = (t.0, λ input. e input ∙ t.1 input)
  tells_equal A.Fails t = λ input. e input ∙ t input
  tells_equal (A.Throws x) t = λ input. e input ∙ t input
  tells_equal (A.Wrote text after) t = (t.0, λ input. e input ∙ t.1 input)
  tells_equal (A.Reads from) t = λ input. subst (ReadsFrom from) (sym (e input)) (t input)

  pub tells_same : (r : Result Applied Memory) → IfOk r (Tells h o) → IfOk r (Tells h p)
  tells_same (Ok a) t = tells_equal a t
  tells_same (Err m) t = t

-- an answer that tells what is done for each library tells it for one
pub tells_known : (h : Heap) (o : Library → List ℕ → Outcome) (L : Library) (r : Result Applied Memory) → IfOk r (λ a. (library : Library) → Tells h (o library) a) → IfOk r (Tells h (o L))
tells_known h o L (Ok a) t = t L
tells_known h o L (Err m) t = t

-- an answer that tells an outcome tells what is done for each library, where that is equal to it
pub known_told : (h : Heap) (o : List ℕ → Outcome) (p : Library → List ℕ → Outcome) → ((L : Library) (input : List ℕ) → p L input ≡ o input) → (r : Result Applied Memory) → IfOk r (Tells h o) → IfOk r (λ a. (library : Library) → Tells h (p library) a)
known_told h o p e (Ok a) t = λ library. tells_equal h o (p library) (e library) a t
known_told h o p e (Err m) t = t

-- what a builtin that writes does at a state of io
pub outcome_written : (L : Library) (input : List ℕ) (op : Builtin) (v s : Val) (t : List ℕ) → IsState s → written_text L op v ≡ Some t → outcome L input op (v ∷ s ∷ []) ≡ writes t (with_written s t ∷ [])
outcome_written L input op v (int n) t h e = cc
outcome_written L input op v (char c) t h e = cc
outcome_written L input op v (str b) t h e = cc
outcome_written L input op v (con f vs) t h e = cc
outcome_written L input B.WriteString (str b) (state w k) t h e = cc
outcome_written L input B.WriteChar (char c) (state w k) t h e = cc
outcome_written L input B.WriteInt (int n) (state w k) t h e = cc
outcome_written L input B.Write v (state w k) t h e = cc
outcome_written L input op v (state w k) t h e = cc

pub outcome_of_nl : (L : Library) (input : List ℕ) (s : Val) (k : ℕ) (t : List ℕ) → taken_of s ≡ Some k → t ≡ 10 ∷ [] → outcome L input B.Nl (s ∷ []) ≡ writes t (with_written s t ∷ [])
outcome_of_nl L input (int n) k t h e = cc
outcome_of_nl L input (char c) k t h e = cc
outcome_of_nl L input (str b) k t h e = cc
outcome_of_nl L input (con f vs) k t h e = cc
outcome_of_nl L input (state w j) k t h e = cc

pub is_int : (v : Val) (n : ℤ) → Some n ≡ int_of v → v ≡ int n
is_int (int m) n e = cc
is_int (char c) n e = cc
is_int (str b) n e = cc
is_int (con f vs) n e = cc
is_int (state w k) n e = cc

pub is_str : (v : Val) (t : List ℕ) → Some t ≡ text_of v → v ≡ str t
is_str (int m) t e = cc
is_str (char c) t e = cc
is_str (str b) t e = cc
is_str (con f vs) t e = cc
is_str (state w k) t e = cc

pub one_value : (f : ℕ → Val) (xs : List ℕ) → 1 ≤ length xs → length xs < 2 → map f xs ≡ f (get_or xs 0 0) ∷ []
one_value f [] some few = absurd (omega arith)
one_value f (x ∷ []) some few = refl
one_value f (x ∷ y ∷ xs) some few = absurd (omega arith)

pub two_values : (f : ℕ → Val) (xs : List ℕ) → 2 ≤ length xs → length xs < 3 → map f xs ≡ f (get_or xs 0 0) ∷ f (get_or xs 1 0) ∷ []
two_values f [] some few = absurd (omega arith)
two_values f (x ∷ []) some few = absurd (omega arith)
two_values f (x ∷ y ∷ []) some few = refl
two_values f (x ∷ y ∷ z ∷ xs) some few = absurd (omega arith)
