-- A switch goes on at the branch that its variable's value fits.
use Rattle.std.proofs.Common.{◌≡◌, ℕ, ◌+◌, ◌<◌, Bool, true, false, refl, sym, ap, ◌∙◌, Option, Some, None, List, [], ◌∷◌, ◌++◌, length, take, drop, get_or, Bor}
use Rattle.std.specs.Prelude.{slice_get, option_map, if◌then◌else◌}
use Rattle.std.proofs.lemmas.List.{take_more, take-append-drop, append-nil}
use Rattle.std.proofs.lemmas.Option.{slice_get-map, slice_get_read, slice_get_past}
use Rattle.std.specs.Slice.{IsItemAt}
use Rattle.mc_program.specs.Values.{Val, same_value}
use Rattle.mc_program.specs.declared.builtin.Builtin.{Builtin}
use Rattle.mc_values.specs.declared.heap.Heap.{Heap}
use Rattle.mc_values.specs.Heap.{value_at}
use Rattle.mc_model.specs.Outcomes.{Outcome}
use Rattle.mc_model.specs.Stream.{Bindings}
use Rattle.mc_flat_code.specs.Ticked.{Ticked}
use Rattle.mc_flat_code.specs.Running.{instr_at, part_of, fits_label, label_of, constant_label, fitting, branch_items, case_items, IsCode}
use Rattle.mc_flat_code.specs.declared.code.Instr.TheVariants as I
use Rattle.mc_flat_code.specs.declared.code.Span.{Span}
use Rattle.mc_flat_code.specs.declared.code.Key.TheVariants as K
use Rattle.mc_flat_code.specs.declared.code.Branch.{Branch}
use Rattle.mc_flat_code.specs.declared.code.Code.{Code}
use Rattle.mc_flat_code.specs.declared.code.FlatProgram.{FlatProgram}
use Rattle.mc_plain.specs.code.Constants.{AreConstants}
use Rattle.mc_plain.specs.code.Machine.{Machine, Whole, at, go, said, is_ended, Moved}
use Rattle.mc_plain.specs.code.Cases.{only_of, case_now}
use Rattle.mc_plain.proofs.Steps.{alone_moved}

-- the constants of a code, by their Refs
module _ (h : Heap) (code : Code) (refs : List ℕ) (are : AreConstants h code refs) (w : Val) (k : ℕ) where
  constant_label_is : label_of code (K.Constant k) ≡ constant_label (option_map (value_at h) (slice_get refs k))
  constant_label_is =
      ap (λ vs. constant_label (slice_get vs k)) (sym are.values) ∙ ap constant_label (slice_get-map (value_at h) refs k)

  pub constant_there : (x : Bor ℕ) → IsItemAt refs k (Some x) → slice_get refs k ≡ Some x.now
  constant_there x there = slice_get_read refs (length refs) k x.now refl there.3.0 there.1

  pub no_constant_there : IsItemAt refs k None → slice_get refs k ≡ None
  no_constant_there past = slice_get_past refs k past.3

  pub fits_constant : (r : ℕ) → slice_get refs k ≡ Some r → fits_label w (label_of code (K.Constant k)) ≡ same_value w (value_at h r)
  fits_constant r e = ap (fits_label w) (constant_label_is ∙ ap (λ o. constant_label (option_map (value_at h) o)) e)

  pub fits_no_constant : slice_get refs k ≡ None → fits_label w (label_of code (K.Constant k)) ≡ false
  fits_no_constant e = ap (fits_label w) (constant_label_is ∙ ap (λ o. constant_label (option_map (value_at h) o)) e)

abbrev pub no_branch : Branch
no_branch = record { key = K.Symbol 0; place = 0 }

abbrev when : Bool → ℕ → List ℕ → List ℕ
when holds p ps = if holds then p ∷ ps else ps

when_append : (holds : Bool) (p : ℕ) (ps qs : List ℕ) → when holds p ps ++ qs ≡ when holds p (ps ++ qs)
when_append true p ps qs = refl
when_append false p ps qs = refl

module _ (code : Code) (w : Val) where
  abbrev is_for : Branch → Bool
  is_for b = fits_label w (label_of code b.key)

  fitting_append : (bs cs : List Branch) → fitting code w (bs ++ cs) ≡ fitting code w bs ++ fitting code w cs
  fitting_append [] cs = refl
  fitting_append (b ∷ bs) cs =
      ap (when (is_for b) b.place) (fitting_append bs cs) ∙ sym (when_append (is_for b) b.place (fitting code w bs) (fitting code w cs))

  -- one more branch has been looked at
  module _ (bs : List Branch) (k : ℕ) (within : k < length bs) (ps : List ℕ) (so_far : fitting code w (take k bs) ≡ ps) where
    abbrev b : Branch
    b = get_or bs k no_branch

    with_next : fitting code w (take (k + 1) bs) ≡ ps ++ when (is_for b) b.place []
    with_next =
        ap (fitting code w) (take_more bs k no_branch within)
        ∙ fitting_append (take k bs) (b ∷ []) ∙ ap (λ l. l ++ when (is_for b) b.place []) so_far

    pub passed : is_for b ≡ false → fitting code w (take (k + 1) bs) ≡ ps
    passed differs = with_next ∙ ap (λ t. ps ++ when t b.place []) differs ∙ append-nil ps

    pub found : is_for b ≡ true → fitting code w (take (k + 1) bs) ≡ ps ++ b.place ∷ []
    found is_one = with_next ∙ ap (λ t. ps ++ when t b.place []) is_one

    pub several : (other p : ℕ) → ps ≡ p ∷ [] → is_for b ≡ true → only_of other (fitting code w bs) ≡ at other
    several other p one is_one =
        ap (λ l. only_of other (fitting code w l)) (sym (take-append-drop (k + 1) bs))
        ∙ ap (only_of other) (fitting_append (take (k + 1) bs) (drop (k + 1) bs) ∙ ap (λ l. l ++ fitting code w (drop (k + 1) bs)) (found is_one ∙ ap (λ l. l ++ b.place ∷ []) one))

only_going : (other : ℕ) (ps : List ℕ) → is_ended (only_of other ps) ≡ false
only_going other [] = refl
only_going other (p ∷ []) = refl
only_going other (p ∷ r ∷ ps) = refl

case_going : (code : Code) (other : ℕ) (bs : List Branch) (o : Option Val) → is_ended (case_now code other bs o) ≡ false
case_going code other bs None = refl
case_going code other bs (Some w) = only_going other (fitting code w bs)

-- the list of a switch is what it does next
module _ (outcome : Builtin → List Val → Outcome) (f : FlatProgram) (run : ℕ → Bindings → Ticked Bindings) (e : Bindings) (other : ℕ) where
  only_said : (ps : List ℕ) → branch_items run other e ps ≡ said outcome f run (only_of other ps) e
  only_said [] = refl
  only_said (p ∷ []) = refl
  only_said (p ∷ r ∷ ps) = refl

  case_said : (bs : List Branch) (o : Option Val) → case_items f.code run other e bs o ≡ said outcome f run (case_now f.code other bs o) e
  case_said bs None = refl
  case_said bs (Some w) = only_said (fitting f.code w bs)

module _ (outcome : Builtin → List Val → Outcome) (f : FlatProgram) (o : IsCode f.code) (head last : List ℕ) (M : Machine) (w : Whole M) (pc : ℕ) (n : M.now ≡ at pc) where
  -- a switch is one step
  pub case_moved : (x : ℕ) (bs : Span) (other : ℕ) → instr_at f.code pc ≡ Some (I.Case x bs other) → Moved outcome f head last M (record M { now = case_now f.code other (part_of f.code.branches.items bs) (M.bindings x) })
  case_moved x bs other q =
      alone_moved outcome f o head last M w pc n (I.Case x bs other) q (case_now f.code other (part_of f.code.branches.items bs) (M.bindings x)) M.bindings
      (case_going f.code other (part_of f.code.branches.items bs) (M.bindings x))
      (case_said outcome f (go outcome f M.level M.height) M.bindings other (part_of f.code.branches.items bs) (M.bindings x))
