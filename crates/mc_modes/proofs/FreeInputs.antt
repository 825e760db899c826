-- What atoms wait for, by the places of their variables.
use Rattle.std.proofs.Common.{◌≡◌, ◌∙◌, ℕ, zero, suc, ◌<◌, Bool, ◌≤◌, ◌+◌, true, false, not, ◌&&◌, ◌||◌, nat_eq, nat_lt, List, [], ◌∷◌, length, map, drop, get_or, Option, None, refl, sym, ap, ap₂, subst, arith}
use Rattle.std.specs.List.{list_any, list_all}
use Rattle.std.proofs.lemmas.List.{drop_more, drop_all, get_or-map}
use Rattle.std.proofs.lemmas.Bool.Decides.{nat_tests}
use Rattle.mc_program.specs.PlainPrograms.{plain_pred, no_pred, plain_program}
use Rattle.mc_program.specs.Programs.{Predicate, Source}
use Rattle.mc_program.specs.declared.builtin.Builtin.{Builtin}
use Rattle.mc_program.specs.declared.program.Pred.{Pred}
use Rattle.mc_program.specs.declared.program.Program.{Program}
use Rattle.mc_model.specs.Lists.{is_in}
use Rattle.mc_accepted.specs.Arranged.{Declared}
use Rattle.mc_model.specs.Stream.{is_bound}
use Rattle.mc_accepted.specs.Ordered.{Mode, zipped, times_in}
use Rattle.mc_procs.specs.Named.{NumbersBelow}
use Rattle.mc_mode_state.specs.States.{point_of}
use Rattle.mc_mode_state.specs.declared.state.State.{State}
use Rattle.mc_modes.specs.code.Sleeping.{Free, input_is_free, free_beside, free_now, kept_beside, call_sleeps, call_returns}
use Rattle.mc_modes.proofs.Counts.{is-in-times}

or-true : (t u : Bool) → u ≡ true → (t || u) ≡ true
or-true true u e = refl
or-true false u e = e

not-not : (t : Bool) → not (not t) ≡ t
not-not true = refl
not-not false = refl

-- a variable whose inst is `free`
pub free-is : (s : State) (others : List ℕ) (x i : ℕ) (here : Bool) → x < length s.insts.items → i ≡ point_of s.insts.items x → i ≡ 0 → here ≡ is_in x others
    → not here ≡ free_beside (free_now s) others x
free-is s others x i here h e z o =
    let below : nat_lt x (length s.insts.items) ≡ true = grind (arith, nat_tests, h) in
    let free : is_bound (point_of s.insts.items x) ≡ false = ap is_bound (sym e ∙ z) in
    ap not (o ∙ is-in-times x others)
    ∙ (not-not (nat_eq (times_in x others) 0)
    ∙ sym (ap₂ (λ (t u : Bool). (t && not u) && nat_eq (times_in x others) 0) below free))

-- a variable that isn't among these
pub kept-is : (s : State) (vs : List ℕ) (x : ℕ) (here : Bool) → x < length s.insts.items → here ≡ is_in x vs → here ≡ false → kept_beside s vs x ≡ true
kept-is s vs x here h e o =
    let below : nat_lt x (length s.insts.items) ≡ true = grind (arith, nat_tests, h) in
    ap₂ (λ (t u : Bool). t && u) below (sym (not-not (nat_eq (times_in x vs) 0)) ∙ ap not (sym (is-in-times x vs) ∙ (sym e ∙ o)))

pub any-at : (f : ℕ → Bool) (xs : List ℕ) (k d : ℕ) → k < length xs → f (get_or xs k d) ≡ true → list_any f xs ≡ true
any-at f [] k d h e = absurd (omega arith)
any-at f (x ∷ xs) zero d h e = ap (λ (t : Bool). t || list_any f xs) e
any-at f (x ∷ xs) (suc k) d h e = or-true (f x) (list_any f xs) (any-at f xs k d (omega arith) e)

-- an input that is free
pub input-at : (free : Free) (ms : List Mode) (xs : List ℕ) (k d : ℕ) (m : Mode) → k < length ms → k < length xs → is_bound (get_or ms k m).0 ≡ true → free (get_or xs k d) ≡ true
    → input_is_free free ms xs ≡ true
input-at free [] xs k d m h l b e = absurd (omega arith)
input-at free (n ∷ ms) [] k d m h l b e = absurd (omega arith)
input-at free (n ∷ ms) (x ∷ xs) zero d m h l b e = ap₂ (λ (t u : Bool). (t && u) || input_is_free free ms xs) b e
input-at free (n ∷ ms) (x ∷ xs) (suc k) d m h l b e = or-true (is_bound n.0 && free x) (input_is_free free ms xs) (input-at free ms xs k d m (omega arith) (omega arith) b e)

pub zipped-long : (fs ls : List ℕ) (k : ℕ) → k < length fs → k < length ls → k < length (zipped fs ls)
zipped-long [] ls k h l = absurd (omega arith)
zipped-long (f ∷ fs) [] k h l = absurd (omega arith)
zipped-long (f ∷ fs) (n ∷ ls) zero h l = omega arith
zipped-long (f ∷ fs) (n ∷ ls) (suc k) h l = let m = zipped-long fs ls k (omega arith) (omega arith) in omega (arith, m)

pub zipped-first : (fs ls : List ℕ) (k : ℕ) (m : Mode) → k < length fs → k < length ls → (get_or (zipped fs ls) k m).0 ≡ get_or fs k 0
zipped-first [] ls k m h l = absurd (omega arith)
zipped-first (f ∷ fs) [] k m h l = absurd (omega arith)
zipped-first (f ∷ fs) (n ∷ ls) zero m h l = refl
zipped-first (f ∷ fs) (n ∷ ls) (suc k) m h l = zipped-first fs ls k m (omega arith) (omega arith)

-- an element that stands in a place is as all are
pub number-at : (n : ℕ) (xs : List ℕ) (k d : ℕ) → k < length xs → NumbersBelow n xs → get_or xs k d < n
number-at n [] k d h w = absurd (omega arith)
number-at n (x ∷ xs) zero d h w = w.0
number-at n (x ∷ xs) (suc k) d h w = number-at n xs k d (omega arith) w.1

-- one more of a list is so
pub all-more : {A : Type 0} (f : A → Bool) (xs : List A) (k : ℕ) (d : A) → k < length xs → f (get_or xs k d) ≡ true
    → (list_all f (drop k xs) ≡ true → list_all f xs ≡ true) → list_all f (drop (k + 1) xs) ≡ true → list_all f xs ≡ true
all-more f xs k d h e so rest =
    so (ap (list_all f) (drop_more xs k d h) ∙ (ap (λ (t : Bool). t && list_all f (drop (k + 1) xs)) e ∙ rest))

-- all are
pub all-end : {A : Type 0} (f : A → Bool) (xs : List A) (k : ℕ) → length xs ≤ k → (list_all f (drop k xs) ≡ true → list_all f xs ≡ true) → list_all f xs ≡ true
all-end f xs k h so = so (ap (list_all f) (drop_all k xs h))

pub all-mapped : {A B : Type 0} (f : B → Bool) (g : A → B) (xs : List A) → list_all f (map g xs) ≡ list_all (λ x. f (g x)) xs
all-mapped f g [] = refl
all-mapped f g (x ∷ xs) = ap (λ (t : Bool). f (g x) && t) (all-mapped f g xs)

-- a predicate that is no builtin
pub no-builtin : (P : Program) (p : ℕ) (d : Pred) → p < length P.preds → d ≡ get_or P.preds p d → d.builtin ≡ None → ((plain_program P).preds p).builtin ≡ None
no-builtin P p d h e n = ap (λ (x : Predicate). x.builtin) (get_or-map plain_pred P.preds p d no_pred h ∙ ap plain_pred (sym e)) ∙ n

module _ (P : Source) (declared : ℕ → List Declared) where
  pub each-sleeps : (free : Free) (op : Option Builtin) (p : ℕ) (xs : List ℕ) → op ≡ None → list_all (λ (d : Declared). input_is_free free d.modes xs) (declared p) ≡ true
      → call_sleeps P declared free op p xs ≡ true
  each-sleeps free op p xs e h = subst (λ (o : Option Builtin). call_sleeps P declared free o p xs ≡ true) (sym e) h

  pub each-returns : (op : Option Builtin) (p : ℕ) → op ≡ None → list_all (λ (d : Declared). not d.never) (declared p) ≡ true → call_returns P declared op p ≡ true
  each-returns op p e h = subst (λ (o : Option Builtin). call_returns P declared o p ≡ true) (sym e) h
