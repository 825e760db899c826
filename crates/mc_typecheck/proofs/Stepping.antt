-- One step of a walk more.
use Rattle.std.proofs.Common.{◌≡◌, ℕ, zero, suc, ◌+◌, ◌<◌, ◌≤◌, Bool, true, false, cond, not, ◌&&◌, ◌||◌, Option, Some, List, [], ◌∷◌, ◌++◌, length, map, take, drop, get_or, refl, sym, ap, ap₂, subst, ◌∙◌, arith, append_assoc, append-nil}
use Rattle.std.specs.Prelude.{nat_eq, Contains}
use Rattle.std.proofs.lemmas.List.{map_push, drop_more, take_more, drop_all}
use Rattle.mc_program.specs.Programs.{Source}
use Rattle.mc_accepted.specs.ProperTypes.{Parameters}
use Rattle.mc_accepted.specs.Resolving.{Step as WalkStep, push_variable, push_number, push_text, choose, equate, call, close_head, signature}
use Rattle.mc_source.specs.declared.name.Candidate.{Candidate}
use Rattle.mc_types.specs.declared.signature.Signature.{Signature}
use Rattle.mc_types.specs.declared.steps.Step.{Step}
use Rattle.mc_typecheck.specs.Ties.{Meaning, of_name, of_number, of_text, of_equation, of_head, names_term, names_atom, tied, made_by, Declared, Tie, declared, is_same, is_among, offered, sole, named, topmost, below}
use Rattle.mc_typecheck.specs.Searched.{AreTies, plain_step, plain_tie}
use Rattle.mc_typecheck.specs.Walked.{Stand, after, after_all, start, IsAt, Shows, entry, place_of}
use Rattle.mc_typecheck.specs.declared.table.Signatures.{Signatures}
use Rattle.mc_typecheck.specs.declared.walk.Walk.{Walk}
use Rattle.mc_typecheck.specs.code.Tables.{offer, only_step}

through : {A B : Type 0} (f : A → B) (b : Bool) (x : A) → map f (cond b (x ∷ []) []) ≡ cond b (f x ∷ []) []
through f true x = refl
through f false x = refl

joined : {A B : Type 0} (f : A → B) (xs ys : List A) → map f (xs ++ ys) ≡ map f xs ++ map f ys
joined f [] ys = refl
joined f (x ∷ xs) ys = ap (λ zs. f x ∷ zs) (joined f xs ys)

module _ (P : Source) (D : Parameters) where
  pub sole_step : (m : Meaning) (ps : List ℕ) → only_step (declared P D m) ps ≡ plain_tie P D (sole P D m ps)
  sole_step m ps = ap (λ (cs : List (Option Declared)). record { candidates = cs; places = ps }) (sym (through (λ x. Some (declared P D x)) (nat_eq (length (declared P D m).types) (length ps)) m))

  pub ties_more : (signatures : List Signature) (steps : List Step) (ties : List Tie) (s : Step) (t : Tie) → AreTies P D signatures steps ties → plain_step signatures s ≡ plain_tie P D t → AreTies P D signatures (steps ++ s ∷ []) (ties ++ t ∷ [])
  ties_more signatures steps ties s t e f =
      map_push (plain_step signatures) steps s ∙ ap₂ (λ xs x. xs ++ x ∷ []) e f ∙ sym (map_push (plain_tie P D) ties t)

  -- a step with one meaning, as it is made
  pub sole_made : (t : Signatures) (s : Step) (m : Meaning) (ps : List ℕ) → map (λ k. entry t k) s.candidates.items ≡ cond (nat_eq (length (declared P D m).types) (length ps)) (Some (declared P D m) ∷ []) [] → s.places.items ≡ ps → plain_step t.all.items s ≡ plain_tie P D (sole P D m ps)
  sole_made t s m ps e same =
      ap₂ (λ (cs : List (Option Declared)) (qs : List ℕ). record { candidates = cs; places = qs }) e same ∙ sole_step m ps

  pub named_made : (t : Signatures) (s : Step) (test : Candidate → Bool) (ds : List Candidate) (ps : List ℕ) → map (λ k. entry t k) s.candidates.items ≡ map (λ m. Some (declared P D m)) (offered P D test (length ps) [] ds) → s.places.items ≡ ps → plain_step t.all.items s ≡ plain_tie P D (named P D test ds ps)
  named_made t s test ds ps e same =
      ap₂ (λ (cs : List (Option Declared)) (qs : List ℕ). record { candidates = cs; places = qs }) e same

  -- the candidates that are offered from a place on
  pub offered_split : (test : Candidate → Bool) (n : ℕ) (met : List Candidate) (c : Candidate) (cs : List Candidate) → offered P D test n met (c ∷ cs) ≡ offer P D test n met c ++ offered P D test n (met ++ c ∷ []) cs
  offered_split test n met c cs = split (test c && (nat_eq (length (signature P D c)) n && not (is_among c met)))
    where
      split : (b : Bool) → cond b (of_name c ∷ offered P D test n (met ++ c ∷ []) cs) (offered P D test n (met ++ c ∷ []) cs) ≡ cond b (of_name c ∷ []) [] ++ offered P D test n (met ++ c ∷ []) cs
      split true = refl
      split false = refl

  -- one candidate more is looked at
  pub offered_on : (t : Signatures) (test : Candidate → Bool) (n : ℕ) (cs : List Candidate) (k : ℕ) (d : Candidate) (before more after : List ℕ) (whole : List (Option Declared)) → k < length cs → after ≡ before ++ more → map (λ j. entry t j) more ≡ map (λ m. Some (declared P D m)) (offer P D test n (take k cs) (get_or cs k d)) → map (λ j. entry t j) before ++ map (λ m. Some (declared P D m)) (offered P D test n (take k cs) (drop k cs)) ≡ whole → map (λ j. entry t j) after ++ map (λ m. Some (declared P D m)) (offered P D test n (take (k + 1) cs) (drop (k + 1) cs)) ≡ whole
  offered_on t test n cs k d before more after whole lt grown one all =
      let g : Meaning → Option Declared = λ m. Some (declared P D m) in
      let e : ℕ → Option Declared = λ j. entry t j in
      let x = get_or cs k d in
      let rest = drop (k + 1) cs in
      let parts : offered P D test n (take k cs) (drop k cs) ≡ offer P D test n (take k cs) x ++ offered P D test n (take (k + 1) cs) rest =
      ap (offered P D test n (take k cs)) (drop_more cs k d lt)
      ∙ offered_split test n (take k cs) x rest
      ∙ ap (λ met. offer P D test n (take k cs) x ++ offered P D test n met rest) (sym (take_more cs k d lt)) in
      ap (λ js. map e js ++ map g (offered P D test n (take (k + 1) cs) rest)) grown
      ∙ ap (λ ys. ys ++ map g (offered P D test n (take (k + 1) cs) rest)) (joined e before more)
      ∙ append_assoc (map e before) (map e more) (map g (offered P D test n (take (k + 1) cs) rest))
      ∙ ap (λ ys. map e before ++ (ys ++ map g (offered P D test n (take (k + 1) cs) rest))) one
      ∙ ap (λ ys. map e before ++ ys) (sym (joined g (offer P D test n (take k cs) x) (offered P D test n (take (k + 1) cs) rest)))
      ∙ ap (λ ms. map e before ++ map g ms) (sym parts)
      ∙ all

  pub offered_done : (t : Signatures) (test : Candidate → Bool) (n : ℕ) (cs : List Candidate) (k : ℕ) (all : List ℕ) (whole : List (Option Declared)) → length cs ≤ k → map (λ j. entry t j) all ++ map (λ m. Some (declared P D m)) (offered P D test n (take k cs) (drop k cs)) ≡ whole → map (λ j. entry t j) all ≡ whole
  offered_done t test n cs k all whole le e =
      let g : Meaning → Option Declared = λ m. Some (declared P D m) in
      let none : drop k cs ≡ [] = drop_all k cs le in
      sym (append-nil (map (λ j. entry t j) all)) ∙ ap (λ ds. map (λ j. entry t j) all ++ map g (offered P D test n (take k cs) ds)) (sym none) ∙ e

  -- STEPS THAT ARE TAKEN

  pub constant_taken : (t : Signatures) (w w' : Walk) (s : Stand) (m : Meaning) → length (declared P D m).types ≡ 1 → Shows P D t m → IsAt P D t w s → w'.next ≡ w.next + 1 → w'.stack.items ≡ w.stack.items ++ w.next ∷ [] → ((d : Declared) → entry t (place_of t m) ≡ Some d → map (plain_step t.all.items) w'.steps.items ≡ map (plain_step t.all.items) w.steps.items ++ only_step d (w.next ∷ []) ∷ []) → IsAt P D t w' (record { next = suc s.next; stack = s.stack ++ s.next ∷ []; ties = s.ties ++ sole P D m (s.next ∷ []) ∷ [] })
  constant_taken t w w' s m one shows at next stack steps =
      let made = steps (declared P D m) shows.1 in
      record {
        next = omega (arith, next, at.next);
        stack = stack ∙ ap₂ (λ xs x. xs ++ x ∷ []) at.stack at.next;
        ties = made ∙ ap₂ (λ xs x. xs ++ x ∷ []) at.ties (ap (λ n. only_step (declared P D m) (n ∷ [])) at.next ∙ sole_step m (s.next ∷ [])) ∙ sym (map_push (plain_tie P D) s.ties (sole P D m (s.next ∷ [])));
      }

  pub sole_taken : (t : Signatures) (w w' : Walk) (s : Stand) (m : Meaning) (n count : ℕ) (step : Step) → Shows P D t m → IsAt P D t w s → w'.next ≡ w.next → w'.stack.items ≡ below n w.stack.items → w'.steps.items ≡ w.steps.items ++ step ∷ [] → step.places.items ≡ topmost n w.stack.items → count ≡ length step.places.items → ((d : Declared) → entry t (place_of t m) ≡ Some d → map (λ k. entry t k) step.candidates.items ≡ cond (nat_eq (length d.types) count) (Some d ∷ []) []) → IsAt P D t w' (record { next = s.next; stack = below n s.stack; ties = s.ties ++ sole P D m (topmost n s.stack) ∷ [] })
  sole_taken t w w' s m n count step shows at next stack steps places long meanings =
      let same : step.places.items ≡ topmost n s.stack = places ∙ ap (topmost n) at.stack in
      let made = sole_made t step m (topmost n s.stack) (meanings (declared P D m) shows.1 ∙ ap (λ k. cond (nat_eq (length (declared P D m).types) k) (Some (declared P D m) ∷ []) []) (long ∙ ap length same)) same in
      let Q : List Step → Type 0 = λ xs. AreTies P D t.all.items xs (s.ties ++ sole P D m (topmost n s.stack) ∷ []) in
      record {
        next = next ∙ at.next;
        stack = stack ∙ ap (below n) at.stack;
        ties = subst Q (sym steps) (ties_more t.all.items w.steps.items s.ties step (sole P D m (topmost n s.stack)) at.ties made);
      }

-- WALKS THAT ARE TAKEN

module _ (P : Source) (D : Parameters) where
  one_more : (ties : List Tie) (t : Tie) (rest : List Tie) (all : List Tie) → all ≡ (ties ++ t ∷ []) ++ rest → all ≡ ties ++ t ∷ rest
  one_more ties t rest all e = e ∙ append_assoc ties (t ∷ []) rest

  pub after_ties : (walk : List WalkStep) (s : Stand) → (after_all P D walk s).ties ≡ s.ties ++ tied P D walk s.next s.stack
  after_ties [] s = sym (append-nil s.ties)
  after_ties (push_variable v ∷ walk) s = after_ties walk (after P D (push_variable v) s)
  after_ties (push_number ∷ walk) s = one_more s.ties (sole P D of_number (s.next ∷ [])) (tied P D walk (suc s.next) (s.stack ++ s.next ∷ [])) _ (after_ties walk (after P D push_number s))
  after_ties (push_text ∷ walk) s = one_more s.ties (sole P D of_text (s.next ∷ [])) (tied P D walk (suc s.next) (s.stack ++ s.next ∷ [])) _ (after_ties walk (after P D push_text s))
  after_ties (choose cs n ∷ walk) s = one_more s.ties (named P D names_term cs (topmost n s.stack ++ s.next ∷ [])) (tied P D walk (suc s.next) (below n s.stack ++ s.next ∷ [])) _ (after_ties walk (after P D (choose cs n) s))
  after_ties (equate ∷ walk) s = one_more s.ties (sole P D of_equation (topmost 2 s.stack)) (tied P D walk s.next (below 2 s.stack)) _ (after_ties walk (after P D equate s))
  after_ties (call cs n ∷ walk) s = one_more s.ties (named P D names_atom cs (topmost n s.stack)) (tied P D walk s.next (below n s.stack)) _ (after_ties walk (after P D (call cs n) s))
  after_ties (close_head p n ∷ walk) s = one_more s.ties (sole P D (of_head p) (topmost n s.stack)) (tied P D walk s.next (below n s.stack)) _ (after_ties walk (after P D (close_head p n) s))

  pub after_next : (walk : List WalkStep) (s : Stand) → (after_all P D walk s).next ≡ s.next + made_by walk
  after_next [] s = omega arith
  after_next (push_variable v ∷ walk) s = after_next walk (after P D (push_variable v) s)
  after_next (push_number ∷ walk) s = let e = after_next walk (after P D push_number s) in omega (arith, e)
  after_next (push_text ∷ walk) s = let e = after_next walk (after P D push_text s) in omega (arith, e)
  after_next (choose cs n ∷ walk) s = let e = after_next walk (after P D (choose cs n) s) in omega (arith, e)
  after_next (equate ∷ walk) s = after_next walk (after P D equate s)
  after_next (call cs n ∷ walk) s = after_next walk (after P D (call cs n) s)
  after_next (close_head p n ∷ walk) s = after_next walk (after P D (close_head p n) s)

  pub walked_ties : (t : Signatures) (w : Walk) (vars : ℕ) (walk : List WalkStep) → IsAt P D t w (after_all P D walk (start vars)) → AreTies P D t.all.items w.steps.items (tied P D walk vars [])
  walked_ties t w vars walk at = at.ties ∙ ap (map (plain_tie P D)) (after_ties walk (start vars))

  pub walked_next : (t : Signatures) (w : Walk) (vars : ℕ) (walk : List WalkStep) → IsAt P D t w (after_all P D walk (start vars)) → w.next ≡ vars + made_by walk
  walked_next t w vars walk at = at.next ∙ after_next walk (start vars)

-- a candidate of a list by its number
pub contained_at : (cs : List Candidate) (k : ℕ) (d : Candidate) → k < length cs → Contains cs (get_or cs k d)
contained_at [] k d lt = let none : ⊥ = omega arith in absurd none
contained_at (c ∷ cs) zero d lt = (0, omega arith, refl)
contained_at (c ∷ cs) (suc k) d lt = let h = contained_at cs k d (omega arith) in (suc h.0, omega (arith, h.1), h.2)

-- whether a candidate is among those from a place on
pub among_here : (c : Candidate) (cs : List Candidate) (i : ℕ) (d : Candidate) → i < length cs → is_same c (get_or cs i d) ≡ true → is_among c (drop i cs) ≡ true
among_here c [] i d lt e = let none : ⊥ = omega arith in absurd none
among_here c (x ∷ xs) zero d lt e = ap (λ b. b || is_among c xs) e
among_here c (x ∷ xs) (suc i) d lt e = among_here c xs i d (omega arith) e

among_next : (c : Candidate) (cs : List Candidate) (i : ℕ) (d : Candidate) → i < length cs → is_same c (get_or cs i d) ≡ false → is_among c (drop i cs) ≡ is_among c (drop (suc i) cs)
among_next c [] i d lt e = let none : ⊥ = omega arith in absurd none
among_next c (x ∷ xs) zero d lt e = ap (λ b. b || is_among c xs) e
among_next c (x ∷ xs) (suc i) d lt e = among_next c xs i d (omega arith) e

pub among_on : (c : Candidate) (cs : List Candidate) (i : ℕ) (d : Candidate) → i < length cs → is_same c (get_or cs i d) ≡ false → is_among c (drop i cs) ≡ is_among c (drop (i + 1) cs)
among_on c cs i d lt e = let k : suc i ≡ i + 1 = omega arith in among_next c cs i d lt e ∙ ap (λ j. is_among c (drop j cs)) k

pub among_none : (c : Candidate) (cs : List Candidate) (i : ℕ) → length cs ≤ i → is_among c (drop i cs) ≡ false
among_none c cs i le = ap (is_among c) (drop_all i cs le)
