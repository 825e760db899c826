-- A place of the code does what its goal says, by what the places below it do.
use Rattle.std.proofs.Common.{◌≡◌, ℕ, zero, suc, ◌<◌, refl, ap, ◌∙◌, map, List, [], ◌∷◌, Option, Some, None, Bool, true, false, if◌then◌else◌, arith}
use Rattle.std.proofs.Math.Path.{fun_ext}
use Rattle.mc_program.specs.Values.{Val}
use Rattle.mc_program.specs.declared.builtin.Builtin.{Builtin}
use Rattle.mc_model.specs.EventList.{of_option}
use Rattle.mc_model.specs.Outcomes.{Outcome}
use Rattle.mc_model.specs.Stream.{Bindings, unify, gather, same_items, made_items, apply_items}
use Rattle.mc_flat_code.specs.Ticked.{Ticked, Tick, append, bind, choose, first, negate, follow, at_height}
use Rattle.mc_flat_code.specs.Running.{TickedCalls, part_of, instr_at, variables_at, value_at, label_of, fits_label, fitting, branch_items, case_items, constant_items, list_of, list_at, list_to, place_list, EachBelow, places_of, Lower, IsCode}
use Rattle.mc_flat_code.specs.declared.code.Instr.{Instr}
use Rattle.mc_flat_code.specs.declared.code.Instr.TheVariants as I
use Rattle.mc_flat_code.specs.declared.code.Branch.{Branch}
use Rattle.mc_flat_code.specs.declared.code.Code.{Code}

-- ways to go on, and those that agree below a place
abbrev Going : Type 0
Going = ℕ → Bindings → Ticked Bindings

module _ (f g : Going) (pc : ℕ) (h : (t : ℕ) → t < pc → f t ≡ g t) where
  -- the places that a value fits are among those of the branches
  if_below : (b : Bool) (p : ℕ) (ps : List ℕ) → p < pc → EachBelow pc ps → EachBelow pc (if b then p ∷ ps else ps)
  if_below true p ps x xs = (x, xs)
  if_below false p ps x xs = xs

  fitting_below : (code : Code) (w : Val) (bs : List Branch) → EachBelow pc (places_of bs) → EachBelow pc (fitting code w bs)
  fitting_below code w [] o = tt
  fitting_below code w (b ∷ bs) o =
      if_below (fits_label w (label_of code b.key)) b.place (fitting code w bs) o.0 (fitting_below code w bs o.1)

  branch_same : (other : ℕ) → other < pc → (e : Bindings) (ps : List ℕ) → EachBelow pc ps → branch_items f other e ps ≡ branch_items g other e ps
  branch_same other r e [] o = refl
  branch_same other r e (p ∷ []) o = ap (λ k. k e) (h p o.0)
  branch_same other r e (p ∷ q ∷ ps) o = ap (λ k. k e) (h other r)

  case_same : (code : Code) (other : ℕ) → other < pc → (e : Bindings) (bs : List Branch) → EachBelow pc (places_of bs) → (v : Option Val) → case_items code f other e bs v ≡ case_items code g other e bs v
  case_same code other r e bs o None = ap (λ k. k e) (h other r)
  case_same code other r e bs o (Some w) =
      branch_same other r e (fitting code w bs) (fitting_below code w bs o)

module _ (outcome : Builtin → List Val → Outcome) (code : Code) (call : TickedCalls) (h : ℕ) where
  -- two ways to go on that agree below a place
  pub list_same : (f g : Going) (pc : ℕ) → ((t : ℕ) → t < pc → f t ≡ g t) → (i : Instr) → Lower code pc i → (e : Bindings) → list_of outcome code call h f i e ≡ list_of outcome code call h g i e
  list_same f g pc s I.Done o e = refl
  list_same f g pc s I.Fail o e = refl
  list_same f g pc s (I.Same x y next) o e = ap (λ k. follow (same_items x y e (e x) (e y)) k) (s next o)
  list_same f g pc s (I.Made x c ys next) o e =
      ap (λ k. follow (made_items x c (variables_at code ys) e (e x)) k) (s next o)
  list_same f g pc s (I.Constant x k next) o e =
      ap (λ j. follow (constant_items x e (value_at code k)) j) (s next o)
  list_same f g pc s (I.Or l r) o e = λ i. append (s l o.0 i e) (s r o.1 i e)
  list_same f g pc s (I.If c t k) o e = λ i. choose (s c o.0 i e) (s t o.1 i) (s k o.2 i e)
  list_same f g pc s (I.Not c next) o e = λ i. bind (negate e (s c o.0 i e)) (s next o.1 i)
  list_same f g pc s (I.Once c next) o e = λ i. bind (first (s c o.0 i e)) (s next o.1 i)
  list_same f g pc s (I.Call p xs last next) o e =
      ap
      (λ (j : Bindings → Ticked Bindings). at_height last h (λ k. bind (call k p (map e (variables_at code xs))) (λ vs. follow (of_option (unify (variables_at code xs) vs e)) j)))
      (s next o)
  list_same f g pc s (I.Apply op xs ys next) o e =
      ap
      (λ k. follow (apply_items (outcome op) (variables_at code ys) e (gather (variables_at code xs) e)) k)
      (s next o)
  list_same f g pc s (I.Case x bs other) o e =
      case_same f g pc s code other o.0 e (part_of code.branches.items bs) o.2 (e x)

  at_same : (o : IsCode code) (f g : Going) (pc : ℕ) → ((t : ℕ) → t < pc → f t ≡ g t) → (i : Option Instr) → instr_at code pc ≡ i → (e : Bindings) → list_at outcome code call h f i e ≡ list_at outcome code call h g i e
  at_same o f g pc s None q e = refl
  at_same o f g pc s (Some i) q e = list_same f g pc s i (o.lower pc i q) e

  -- how far down a place is seen makes no difference, if it is far enough
  stable : IsCode code → (n m pc : ℕ) → pc < n → pc < m → (e : Bindings) → list_to outcome code call h n pc e ≡ list_to outcome code call h m pc e
  stable o zero m pc p q e = absurd (omega arith)
  stable o (suc n) zero pc p q e = absurd (omega arith)
  stable o (suc n) (suc m) pc p q e =
      ap (λ l. Tick l)
      (at_same o (list_to outcome code call h n) (list_to outcome code call h m) pc
      (λ t r. fun_ext (stable o n m t (omega arith) (omega arith)))
      (instr_at code pc) refl e)

  -- what a place does
  pub at_place : IsCode code → (pc : ℕ) (e : Bindings) → place_list outcome code call h pc e ≡ Tick (list_at outcome code call h (place_list outcome code call h) (instr_at code pc) e)
  at_place o pc e =
      ap (λ l. Tick l)
      (at_same o (list_to outcome code call h pc) (place_list outcome code call h) pc
      (λ t r. fun_ext (stable o pc (suc t) t r (omega arith)))
      (instr_at code pc) refl e)

  pub at_goal : IsCode code → (pc : ℕ) (i : Instr) → instr_at code pc ≡ Some i → (e : Bindings) → place_list outcome code call h pc e ≡ Tick (list_of outcome code call h (place_list outcome code call h) i e)
  at_goal o pc i q e =
      at_place o pc e ∙ ap (λ j. Tick (list_at outcome code call h (place_list outcome code call h) j e)) q
