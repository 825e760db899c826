-- What a step of a walk adds to the picks.
use Rattle.std.proofs.Common.{◌≡◌, ℕ, zero, suc, ◌+◌, ◌-◌, ◌<◌, ◌≤◌, Bool, true, false, cond, Option, List, [], ◌∷◌, ◌++◌, length, map, take, drop, get_or, refl, sym, ap, ap₂, subst, ◌∙◌, arith, append_assoc, append-nil}
use Rattle.std.specs.Prelude.{nat_eq, Contains}
use Rattle.std.proofs.lemmas.List.{length_push, length-drop, length-take-le, length-map, get_or-map, drop_more, drop_all}
use Rattle.mc_program.specs.Programs.{Source}
use Rattle.mc_accepted.specs.ProperTypes.{Parameters}
use Rattle.mc_accepted.specs.Resolving.{Step, push_variable, push_number, push_text, choose, equate, call, close_head}
use Rattle.mc_source.specs.declared.name.Candidate.{Candidate}
use Rattle.mc_unresolved.specs.Steps.{plain_walk_step}
use Rattle.mc_unresolved.specs.declared.steps.WalkStep.{WalkStep}
use Rattle.mc_typecheck.specs.Ties.{Meaning, of_name, of_number, of_text, of_equation, of_head, Tie, names_term, names_atom, declared, offered, sole, topmost, below, pick_of, tied, picks_of}
use Rattle.mc_typecheck.specs.Walked.{Stand, Shows, ShowsAll, after_all, start}
use Rattle.mc_typecheck.specs.declared.table.Signatures.{Signatures}
use Rattle.mc_typecheck.proofs.Onward.{after_more, shows_at}
use Rattle.mc_typecheck.specs.code.Choices.{taken_choice, fewer}
use Rattle.mc_typecheck.specs.code.Picking.{noted, Picks, PicksOn}
use Rattle.mc_typecheck.specs.declared.picking.Picking.{Picking}

-- no choice is left, so nothing is picked
pub none_left : (ties : List Tie) → picks_of ties [] ≡ []
none_left [] = refl
none_left (t ∷ ties) = refl

sole_pick : (b : Bool) (m : Meaning) (c : ℕ) → pick_of m ≡ [] → pick_of (get_or (cond b (m ∷ []) []) c of_equation) ≡ []
sole_pick true m zero none = none
sole_pick true m (suc c) none = refl
sole_pick false m c none = refl

-- a step without a name takes a choice, and picks nothing
pub sole_skipped : (P : Source) (D : Parameters) (m : Meaning) (places : List ℕ) (ties : List Tie) (r : Option ℕ) (old new : List ℕ) → pick_of m ≡ [] → (r, new) ≡ taken_choice old → picks_of (sole P D m places ∷ ties) old ≡ picks_of ties new
sole_skipped P D m places ties r [] new none e = sym (ap (picks_of ties) (ap (λ (p : Option ℕ × List ℕ). p.1) e) ∙ none_left ties)
sole_skipped P D m places ties r (c ∷ cs) new none e =
    ap (λ ps. ps ++ picks_of ties cs) (sole_pick (nat_eq (length (declared P D m).types) (length places)) m c none)
    ∙ sym (ap (picks_of ties) (ap (λ (p : Option ℕ × List ℕ). p.1) e))

-- a step with a name picks what its choice is
named_noted : (P : Source) (D : Parameters) (test : Candidate → Bool) (cs : List Candidate) (n : ℕ) (places : List ℕ) (ties : List Tie) (r : Option ℕ) (old new : List ℕ) → (r, new) ≡ taken_choice old → picks_of (record { meanings = offered P D test n [] cs; places = places } ∷ ties) old ≡ noted P D test cs n r ++ picks_of ties new
named_noted P D test cs n places ties r [] new e =
    sym (ap₂ (λ (x : Option ℕ) (xs : List ℕ). noted P D test cs n x ++ picks_of ties xs) (ap (λ (p : Option ℕ × List ℕ). p.0) e) (ap (λ (p : Option ℕ × List ℕ). p.1) e) ∙ none_left ties)
named_noted P D test cs n places ties r (x ∷ xs) new e =
    sym (ap₂ (λ (y : Option ℕ) (ys : List ℕ). noted P D test cs n y ++ picks_of ties ys) (ap (λ (p : Option ℕ × List ℕ). p.0) e) (ap (λ (p : Option ℕ × List ℕ). p.1) e))

pub name_picked : (P : Source) (D : Parameters) (test : Candidate → Bool) (cs : List Candidate) (n m : ℕ) (r : Option ℕ) (p mid q : Picking) → n ≡ m → (r, mid.choices.now) ≡ taken_choice p.choices.now → mid.picks.items ≡ p.picks.items → q.choices.now ≡ mid.choices.now → q.picks.items ≡ mid.picks.items ++ noted P D test cs n r → Picks P D test cs m p q
name_picked P D test cs n m r p mid q same e kept choices grown = λ places ties.
    ap (λ xs. p.picks.items ++ xs) (named_noted P D test cs m places ties r p.choices.now mid.choices.now e)
    ∙ sym (append_assoc p.picks.items (noted P D test cs m r) (picks_of ties mid.choices.now))
    ∙ ap₂ (λ (xs : List Candidate) (ys : List ℕ). xs ++ picks_of ties ys) (ap₂ (λ (xs : List Candidate) (k : ℕ). xs ++ noted P D test cs k r) (sym kept) (sym same) ∙ sym grown) (sym choices)

-- HOW MANY TYPES ARE ON THE STACK

below_long : (n : ℕ) (stack : List ℕ) → length (below n stack) ≡ length stack - n
below_long n stack = length-take-le (length stack - n) stack (omega arith)

topmost_long : (n : ℕ) (stack : List ℕ) → length (topmost n stack) ≡ fewer n (length stack)
topmost_long n stack = length-drop (length stack - n) stack

-- EACH STEP

pub variable_on : (t : Signatures) (v : ℕ) (p q : Picking) → q.height ≡ p.height + 1 → q.choices.now ≡ p.choices.now → q.picks.items ≡ p.picks.items → PicksOn t (push_variable v) p q
variable_on t v p q high choices picks = λ P D s rest shows at. (
  (let e = length_push s.stack v in omega (arith, e, high, at)),
  ap₂ (λ (xs : List Candidate) (ys : List ℕ). xs ++ picks_of (tied P D rest s.next (s.stack ++ v ∷ [])) ys) (sym picks) (sym choices),
)

module _ (p q : Picking) (r : Option ℕ) (mid : Picking) (e : (r, mid.choices.now) ≡ taken_choice p.choices.now) (kept : mid.picks.items ≡ p.picks.items) (choices : q.choices.now ≡ mid.choices.now) (picks : q.picks.items ≡ mid.picks.items) where
  skipped : (P : Source) (D : Parameters) (m : Meaning) (places : List ℕ) (ties : List Tie) → pick_of m ≡ [] → p.picks.items ++ picks_of (sole P D m places ∷ ties) p.choices.now ≡ q.picks.items ++ picks_of ties q.choices.now
  skipped P D m places ties none =
      ap₂ (λ (xs : List Candidate) (ys : List Candidate). xs ++ ys) (sym (picks ∙ kept)) (sole_skipped P D m places ties r p.choices.now mid.choices.now none e ∙ ap (picks_of ties) (sym choices))

  pub number_on : (t : Signatures) → q.height ≡ mid.height + 1 → mid.height ≡ p.height → PicksOn t push_number p q
  number_on t high same = λ P D s rest shows at. (
    (let l = length_push s.stack s.next in omega (arith, l, high, same, at)),
    skipped P D of_number (s.next ∷ []) (tied P D rest (suc s.next) (s.stack ++ s.next ∷ [])) refl,
  )

  pub text_on : (t : Signatures) → q.height ≡ mid.height + 1 → mid.height ≡ p.height → PicksOn t push_text p q
  text_on t high same = λ P D s rest shows at. (
    (let l = length_push s.stack s.next in omega (arith, l, high, same, at)),
    skipped P D of_text (s.next ∷ []) (tied P D rest (suc s.next) (s.stack ++ s.next ∷ [])) refl,
  )

  pub equate_on : (t : Signatures) (n : ℕ) → n ≡ fewer 2 mid.height → q.height + n ≡ mid.height → mid.height ≡ p.height → PicksOn t equate p q
  equate_on t n taken high same = λ P D s rest shows at. (
    (let l = below_long 2 s.stack in omega (arith, l, taken, high, same, at)),
    skipped P D of_equation (topmost 2 s.stack) (tied P D rest s.next (below 2 s.stack)) refl,
  )

  pub head_on : (t : Signatures) (pred k n : ℕ) → n ≡ fewer k mid.height → q.height + n ≡ mid.height → mid.height ≡ p.height → PicksOn t (close_head pred k) p q
  head_on t pred k n taken high same = λ P D s rest shows at. (
    (let l = below_long k s.stack in omega (arith, l, taken, high, same, at)),
    skipped P D (of_head pred) (topmost k s.stack) (tied P D rest s.next (below k s.stack)) refl,
  )

pub choose_on : (t : Signatures) (cs : List Candidate) (k n : ℕ) (p a b q : Picking) → n ≡ fewer k p.height → a.height + n ≡ p.height → b.height ≡ a.height + 1 → q.height ≡ b.height → b.choices.now ≡ p.choices.now → b.picks.items ≡ p.picks.items → ((P : Source) (D : Parameters) → ((c : Candidate) → Contains cs c → Shows P D t (of_name c)) → Picks P D names_term cs (n + 1) b q) → PicksOn t (choose cs k) p q
choose_on t cs k n p a b q taken ha hb hq choices picks so = λ P D s rest shows at.
    let places = topmost k s.stack ++ s.next ∷ [] in
    let left = below k s.stack ++ s.next ∷ [] in
    let ties = tied P D rest (suc s.next) left in
    let long : length places ≡ n + 1 = let l = length_push (topmost k s.stack) s.next in let m = topmost_long k s.stack in omega (arith, l, m, taken, at) in (
      (let l = length_push (below k s.stack) s.next in let m = below_long k s.stack in omega (arith, l, m, taken, ha, hb, hq, at)),
      ap (λ j. p.picks.items ++ picks_of (record { meanings = offered P D names_term j [] cs; places = places } ∷ ties) p.choices.now) long
          ∙ ap₂ (λ (xs : List Candidate) (ys : List ℕ). xs ++ picks_of (record { meanings = offered P D names_term (n + 1) [] cs; places = places } ∷ ties) ys) (sym picks) (sym choices)
          ∙ so P D shows places ties,
    )

pub call_on : (t : Signatures) (cs : List Candidate) (k n : ℕ) (p a q : Picking) → n ≡ fewer k p.height → a.height + n ≡ p.height → q.height ≡ a.height → a.choices.now ≡ p.choices.now → a.picks.items ≡ p.picks.items → ((P : Source) (D : Parameters) → ((c : Candidate) → Contains cs c → Shows P D t (of_name c)) → Picks P D names_atom cs (n + 0) a q) → PicksOn t (call cs k) p q
call_on t cs k n p a q taken ha hq choices picks so = λ P D s rest shows at.
    let places = topmost k s.stack in
    let left = below k s.stack in
    let ties = tied P D rest s.next left in
    let long : length places ≡ n + 0 = let m = topmost_long k s.stack in omega (arith, m, taken, at) in (
      (let m = below_long k s.stack in omega (arith, m, taken, ha, hq, at)),
      ap (λ j. p.picks.items ++ picks_of (record { meanings = offered P D names_atom j [] cs; places = places } ∷ ties) p.choices.now) long
          ∙ ap₂ (λ (xs : List Candidate) (ys : List ℕ). xs ++ picks_of (record { meanings = offered P D names_atom (n + 0) [] cs; places = places } ∷ ties) ys) (sym picks) (sym choices)
          ∙ so P D shows places ties,
    )

-- ALL STEPS

-- so far the picks are those of the steps that were taken
pub record PickedSoFar (P : Source) (D : Parameters) (steps : List Step) (choices : List ℕ) (vars k : ℕ) (p : Picking) : Type 0 where
  pub high : length (after_all P D (take k steps) (start vars)).stack ≡ p.height
  pub is :
      p.picks.items ++ picks_of (tied P D (drop k steps) (after_all P D (take k steps) (start vars)).next (after_all P D (take k steps) (start vars)).stack) p.choices.now
      ≡ picks_of (tied P D steps vars []) choices

pub picked_more : (P : Source) (D : Parameters) (t : Signatures) (steps : List Step) (choices : List ℕ) (vars k : ℕ) (d : Step) (p q : Picking) → k < length steps → ShowsAll P D t steps → PicksOn t (get_or steps k d) p q → PickedSoFar P D steps choices vars k p → PickedSoFar P D steps choices vars (k + 1) q
picked_more P D t steps choices vars k d p q lt shows on so =
    let s = after_all P D (take k steps) (start vars) in
    let x = get_or steps k d in
    let rest = drop (k + 1) steps in
    let more = after_more P D steps k d (start vars) lt in
    let one = on P D s rest (shows_at P D t steps k d lt shows) so.high in
    record {
      high = ap (λ (y : Stand). length y.stack) more ∙ one.0;
      is =
          ap (λ (y : Stand). q.picks.items ++ picks_of (tied P D rest y.next y.stack) q.choices.now) more
          ∙ sym one.1
          ∙ ap (λ xs. p.picks.items ++ picks_of (tied P D xs s.next s.stack) p.choices.now) (sym (drop_more steps k d lt))
          ∙ so.is;
    }

none_tied : (cs : List ℕ) → picks_of [] cs ≡ []
none_tied [] = refl
none_tied (c ∷ cs) = refl

pub picked_whole : (P : Source) (D : Parameters) (steps : List Step) (choices : List ℕ) (vars k : ℕ) (p : Picking) → length steps ≤ k → PickedSoFar P D steps choices vars k p → p.picks.items ≡ picks_of (tied P D steps vars []) choices
picked_whole P D steps choices vars k p le so =
    let s = after_all P D (take k steps) (start vars) in
    sym (ap (λ xs. p.picks.items ++ picks_of (tied P D xs s.next s.stack) p.choices.now) (drop_all k steps le) ∙ ap (λ xs. p.picks.items ++ xs) (none_tied p.choices.now) ∙ append-nil p.picks.items)
    ∙ so.is

-- the same over steps as data
abbrev pub PicksSoFar : Signatures → List WalkStep → (choices : List ℕ) → (k : ℕ) → Picking → Type 0
PicksSoFar t steps choices k p =
    (P : Source) (D : Parameters) (vars : ℕ)
    → ShowsAll P D t (map plain_walk_step steps)
    → PickedSoFar P D (map plain_walk_step steps) choices vars k p

pub picks_first : (t : Signatures) (steps : List WalkStep) (choices : List ℕ) (p : Picking) → p.height ≡ 0 → p.picks.items ≡ [] → p.choices.now ≡ choices → PicksSoFar t steps choices 0 p
picks_first t steps choices p high none same = λ P D vars shows. record {
  high = sym high;
  is = ap₂ (λ (xs : List Candidate) (ys : List ℕ). xs ++ picks_of (tied P D (map plain_walk_step steps) vars []) ys) none same;
}

pub picks_more : (t : Signatures) (steps : List WalkStep) (choices : List ℕ) (k : ℕ) (d : WalkStep) (p q : Picking) → k < length steps → PicksOn t (plain_walk_step (get_or steps k d)) p q → PicksSoFar t steps choices k p → PicksSoFar t steps choices (k + 1) q
picks_more t steps choices k d p q lt on so = λ P D vars shows.
    let long = length-map steps plain_walk_step in
    let Q : Step → Type 0 = λ x. PicksOn t x p q in
    picked_more P D t (map plain_walk_step steps) choices vars k (plain_walk_step d) p q (omega (arith, lt, long)) shows
    (subst Q (sym (get_or-map plain_walk_step steps k d (plain_walk_step d) lt)) on) (so P D vars shows)

pub picks_whole : (t : Signatures) (steps : List WalkStep) (choices : List ℕ) (k : ℕ) (p : Picking) (P : Source) (D : Parameters) (vars : ℕ) → length steps ≤ k → PicksSoFar t steps choices k p → ShowsAll P D t (map plain_walk_step steps) → p.picks.items ≡ picks_of (tied P D (map plain_walk_step steps) vars []) choices
picks_whole t steps choices k p P D vars le so shows =
    let long = length-map steps plain_walk_step in
    picked_whole P D (map plain_walk_step steps) choices vars k p (omega (arith, le, long)) (so P D vars shows)
