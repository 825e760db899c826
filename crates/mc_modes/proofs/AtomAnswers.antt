-- Atoms that are tried, as goals.
use Rattle.std.proofs.Common.{◌≡◌, ℕ, List, [], ◌∷◌, length, Result, Ok, refl, sym, subst}
use Rattle.mc_model.specs.Flat as F
use Rattle.mc_model.specs.Flat.{Flat_goal}
use Rattle.mc_model.specs.declared.inst.Sig.{Sig}
use Rattle.mc_procs.specs.Named.{NumbersBelow}
use Rattle.mc_procs.specs.Procedures.{PlainProcs, source_of}
use Rattle.mc_program.specs.Values.{Val}
use Rattle.mc_mode_state.specs.Answers.{Outcome, tried, Ran, Answers}
use Rattle.mc_mode_state.specs.declared.state.State.{State}
use Rattle.mc_mode_state.specs.declared.part.Part.{Part}
use Rattle.mc_mode_state.specs.declared.fault.Failed.{Failed}
use Rattle.mc_modes.specs.Signatures.{declared_in}
use Rattle.mc_modes.specs.Tries.{OutsideKnown, attempt_of, tells_outside, TryPost, AttemptPost}
use Rattle.mc_modes.specs.code.Waiting.{tells_around}
use Rattle.mc_modes.proofs.Locally.{trial-same, trial-made, trial-call}
use Rattle.mc_modes.proofs.Ways.{atom-does, goes}

answers-fresh : (a : Outcome) (q r : PlainProcs) (s t : State) (res : Result Part Failed) → Answers a q r s t res → (p : Part) → res ≡ Ok p → NumbersBelow (length t.insts.items) p.freshened.items
answers-fresh a q r s t res d p e = let b : Ran a q r s t p = subst (λ x. Answers a q r s t x) e d in b.fresh

-- whatever is told of what occurs outside, if these are the clause's own variables
abbrev Own : OutsideKnown → Flat_goal → Type 0
Own told g = (first : ℕ) (O : List ℕ) → told first O → NumbersBelow first (F.variables_of g)

module _ (sigs : List Sig) (q r : PlainProcs) (s t : State) (res : Result Part Failed) where
  abbrev Told_of : Flat_goal → Type 0
  Told_of g = (O : List ℕ) → Answers (tried (declared_in sigs) g O q s) q r s t res

  abbrev Does_as : OutsideKnown → Flat_goal → Type 0
  Does_as told g = TryPost told (attempt_of sigs g q s) q r s t res

  same-does : (told : OutsideKnown) (x y : ℕ) → Own told (F.Same x y) → Told_of (F.Same x y) → Does_as told (F.Same x y)
  same-does told x y own d =
      atom-does sigs told (F.Same x y) q r s t res own (λ C T U first h O n b w. trial-same C (source_of q) (declared_in sigs) T U first h x y O n b w)
      (answers-fresh (tried (declared_in sigs) (F.Same x y) [] q s) q r s t res (d [])) d

  made-does : (told : OutsideKnown) (x f : ℕ) (ys : List ℕ) → Own told (F.Made x f ys) → Told_of (F.Made x f ys) → Does_as told (F.Made x f ys)
  made-does told x f ys own d =
      atom-does sigs told (F.Made x f ys) q r s t res own (λ C T U first h O n b w. trial-made C (source_of q) (declared_in sigs) T U first h x f ys O n b w)
      (answers-fresh (tried (declared_in sigs) (F.Made x f ys) [] q s) q r s t res (d [])) d

  constant-does : (told : OutsideKnown) (x : ℕ) (v : Val) → Own told (F.Is x v) → Told_of (F.Is x v) → Does_as told (F.Is x v)
  constant-does told x v own d =
      atom-does sigs told (F.Is x v) q r s t res own (λ C T U first h O n b w. refl)
      (answers-fresh (tried (declared_in sigs) (F.Is x v) [] q s) q r s t res (d [])) d

  call-does : (told : OutsideKnown) (p : ℕ) (xs : List ℕ) → Own told (F.Call p xs) → Told_of (F.Call p xs) → Does_as told (F.Call p xs)
  call-does told p xs own d =
      atom-does sigs told (F.Call p xs) q r s t res own (λ C T U first h O n b w. trial-call C (source_of q) (declared_in sigs) T U first h p xs O n b w)
      (answers-fresh (tried (declared_in sigs) (F.Call p xs) [] q s) q r s t res (d [])) d

  -- alone
  abbrev Goes_as : Flat_goal → Type 0
  Goes_as g = AttemptPost (tells_outside (F.variables_of g) s) (attempt_of sigs g q s) q r s t res

  alone-goes : (g : Flat_goal) → Does_as (tells_outside (F.variables_of g) s) g → Goes_as g
  alone-goes g d = goes (tells_outside (F.variables_of g) s) (attempt_of sigs g q s) q r s t res d

  pub same-goes : (x y : ℕ) → Told_of (F.Same x y) → Goes_as (F.Same x y)
  same-goes x y d = alone-goes (F.Same x y) (same-does (tells_outside (x ∷ y ∷ []) s) x y (λ first O k. k.1) d)

  pub made-goes : (x f : ℕ) (ys : List ℕ) → Told_of (F.Made x f ys) → Goes_as (F.Made x f ys)
  made-goes x f ys d = alone-goes (F.Made x f ys) (made-does (tells_outside (x ∷ ys) s) x f ys (λ first O k. k.1) d)

  pub constant-goes : (x : ℕ) (v : Val) → Told_of (F.Is x v) → Goes_as (F.Is x v)
  constant-goes x v d = alone-goes (F.Is x v) (constant-does (tells_outside (x ∷ []) s) x v (λ first O k. k.1) d)

  pub call-goes : (p : ℕ) (xs : List ℕ) → Told_of (F.Call p xs) → Goes_as (F.Call p xs)
  call-goes p xs d = alone-goes (F.Call p xs) (call-does (tells_outside xs s) p xs (λ first O k. k.1) d)

  -- among others
  abbrev Does_among : Flat_goal → Type 0
  Does_among g = Does_as (tells_around (F.variables_of g) s) g

  pub same-among : (x y : ℕ) → Told_of (F.Same x y) → Does_among (F.Same x y)
  same-among x y d = same-does (tells_around (x ∷ y ∷ []) s) x y (λ first O k. k.1) d

  pub made-among : (x f : ℕ) (ys : List ℕ) → Told_of (F.Made x f ys) → Does_among (F.Made x f ys)
  made-among x f ys d = made-does (tells_around (x ∷ ys) s) x f ys (λ first O k. k.1) d

  pub constant-among : (x : ℕ) (v : Val) → Told_of (F.Is x v) → Does_among (F.Is x v)
  constant-among x v d = constant-does (tells_around (x ∷ []) s) x v (λ first O k. k.1) d

  pub call-among : (p : ℕ) (xs : List ℕ) → Told_of (F.Call p xs) → Does_among (F.Call p xs)
  call-among p xs d = call-does (tells_around xs s) p xs (λ first O k. k.1) d

  -- the same goal by another name
  pub among-as : (g h : Flat_goal) → h ≡ g → Does_among g → Does_among h
  among-as g h e d = subst Does_among (sym e) d
