-- What a call leaves, argument by argument.
use Rattle.std.proofs.Common.{◌≡◌, ℕ, zero, suc, ◌<◌, ◌≤◌, ◌+◌, Bool, true, false, not, ◌&&◌, ◌||◌, List, [], ◌∷◌, length, get_or, drop, map, nat_eq, if◌then◌else◌, refl, ap, ◌∙◌, arith}
use Rattle.mc_program.specs.Programs.{TypeTerm, Source}
use Rattle.mc_model.specs.Stream.{is_bound}
use Rattle.mc_accepted.specs.Arranged.{Operations, Declared, Point, with_inst, input_after, after_call}
use Rattle.mc_accepted.specs.Ordered.{zipped}
use Rattle.std.proofs.lemmas.Bool.{eq-eqb, eqb-true}
use Rattle.std.proofs.lemmas.List.{length-drop, nil_from_length}
use Rattle.mc_accepted.specs.NodeOracle.{NodeOracle, of_nodes}
use Rattle.mc_insts.specs.Graphs.{count_of}
use Rattle.mc_procs.specs.Procedures.{PlainProcs, insts_of}
use Rattle.mc_mode_state.specs.States.{point_of}
use Rattle.mc_mode_state.specs.Agreeing.{OracleAgrees, StateInvariant}
use Rattle.mc_mode_state.specs.declared.state.State.{State}
use Rattle.mc_mode_state.proofs.Ahead.{dead-is-three}
use Rattle.mc_mode_state.specs.code.Given.{there_before}
use Rattle.mc_mode_state.specs.code.Leaving.{left_by}
use Rattle.mc_mode_state.proofs.Numbers.{cons_at}
use Rattle.mc_mode_state.proofs.Implied.{there-more}

module _ (Op : Operations ℕ) (P : Source) (declared : ℕ → List Declared) (T : ℕ → TypeTerm) (fs ls xs : List ℕ) (b : Point ℕ) where
  abbrev pub leaving_from : ℕ → List ℕ → Point ℕ → Point ℕ
  leaving_from k given c = after_call Op P declared T (there_before given b) (zipped (drop k fs) (drop k ls)) (drop k xs) c

  pub leaving-end : (given : List ℕ) (k : ℕ) (c : Point ℕ) → length fs ≤ k → leaving_from k given c ≡ c
  leaving-end given k c h =
      ap (λ (gs : List ℕ). after_call Op P declared T (there_before given b) (zipped gs (drop k ls)) (drop k xs) c) (nil_from_length (drop k fs) (omega (arith, length-drop k fs)))

chosen : (b : Point ℕ) (d e t : Bool) (given : List ℕ) (x j : ℕ) (rest : (ℕ → Bool) → Point ℕ → Point ℕ) (i c : Point ℕ) (more : ℕ → Bool) → more ≡ there_before (x ∷ given) b
    → (if d then rest (there_before given b) i else (if not e || t then rest (there_before given b) c else rest more (with_inst ℕ x j c)))
    ≡ rest (there_before (if (not d && e) && not t then x ∷ given else given) b) (if d then i else (if not e || t then c else with_inst ℕ x j c))
chosen b true e t given x j rest i c more m = refl
chosen b false false t given x j rest i c more m = refl
chosen b false true true given x j rest i c more m = refl
chosen b false true false given x j rest i c more m = ap (λ f. rest f (with_inst ℕ x j c)) m

module _ (C : NodeOracle) (P : Source) (declared : ℕ → List Declared) (T : ℕ → TypeTerm) (fs ls xs : List ℕ) (b : Point ℕ) where
  -- one argument further
  pub leaving-on : (given : List ℕ) (k : ℕ) (c : Point ℕ) → k < length fs → k < length ls → k < length xs
      → leaving_from (of_nodes C) P declared T fs ls xs b k given c
      ≡ leaving_from (of_nodes C) P declared T fs ls xs b (k + 1) (if (not (is_bound (get_or fs k 0)) && is_bound (get_or ls k 0)) && not (there_before given b (get_or xs k 0)) then get_or xs k 0 ∷ given else given)
      (left_by (of_nodes C) P declared T (get_or fs k 0, get_or ls k 0) (there_before given b (get_or xs k 0)) (get_or xs k 0) c)
  leaving-on given k c h i j =
      ap (λ (gs : List ℕ). after_call (of_nodes C) P declared T (there_before given b) (zipped gs (drop k ls)) (drop k xs) c) (cons_at fs k 0 h)
      ∙ (ap (λ (gs : List ℕ). after_call (of_nodes C) P declared T (there_before given b) (zipped (get_or fs k 0 ∷ drop (k + 1) fs) gs) (drop k xs) c) (cons_at ls k 0 i)
      ∙ (ap (λ (gs : List ℕ). after_call (of_nodes C) P declared T (there_before given b) (zipped (get_or fs k 0 ∷ drop (k + 1) fs) (get_or ls k 0 ∷ drop (k + 1) ls)) gs c) (cons_at xs k 0 j)
      ∙ chosen b (is_bound (get_or fs k 0)) (is_bound (get_or ls k 0)) (there_before given b (get_or xs k 0)) given (get_or xs k 0) (get_or ls k 0)
      (λ f d. after_call (of_nodes C) P declared T f (zipped (drop (k + 1) fs) (drop (k + 1) ls)) (drop (k + 1) xs) d)
      (input_after (of_nodes C) P declared T (get_or fs k 0, get_or ls k 0) (get_or xs k 0) c) c
      (λ y. if nat_eq y (get_or xs k 0) then true else there_before given b y) (there-more given b (get_or xs k 0))))

pub map-at : (b : Point ℕ) (xs : List ℕ) (k : ℕ) → k < length xs → get_or (map b xs) k 0 ≡ b (get_or xs k 0)
map-at b [] k h = absurd (omega arith)
map-at b (x ∷ xs) zero h = refl
map-at b (x ∷ xs) (suc k) h = map-at b xs k (omega arith)

not_three : (n : ℕ) → (n ≡ 3 → ⊥) → nat_eq n 3 ≡ false
not_three n f = at (nat_eq n 3) refl
  where
    at : (t : Bool) → nat_eq n 3 ≡ t → nat_eq n 3 ≡ false
    at true h = absurd (f (eqb-true n 3 h))
    at false h = h

-- an input, by what was asked of it
module _ (r : PlainProcs) (s : State) (declared : ℕ → List Declared) (st : StateInvariant r s) (C : NodeOracle) (T : ℕ → TypeTerm) (a : OracleAgrees r s C T) (P : Source) where
  abbrev here : Point ℕ
  here = point_of s.insts.items

  dead-is : (last : ℕ) → last < count_of r.insts → C.is_dead last ≡ nat_eq last 3
  dead-is last h = a.dies last h ∙ dead-is-three (insts_of r) st.fit.program.insts_are.insts last

  pub input-dies : (x first last : ℕ) → last < count_of r.insts → last ≡ 3 → input_after (of_nodes C) P declared T (first, last) x here ≡ with_inst ℕ x last here
  input-dies x first last h e =
      ap (λ t. if not t && C.fits (here x) last (T x) then here else with_inst ℕ x last here) (dead-is last h ∙ eq-eqb last 3 e)

  pub input-kept : (x first last : ℕ) → last < count_of r.insts → (last ≡ 3 → ⊥) → C.fits (here x) last (T x) ≡ true → input_after (of_nodes C) P declared T (first, last) x here ≡ here
  input-kept x first last h n f =
      ap (λ t. if not t && C.fits (here x) last (T x) then here else with_inst ℕ x last here) (dead-is last h ∙ not_three last n)
      ∙ ap (λ t. if t then here else with_inst ℕ x last here) f

  pub input-changed : (x first last : ℕ) → C.fits (here x) last (T x) ≡ false → input_after (of_nodes C) P declared T (first, last) x here ≡ with_inst ℕ x last here
  input-changed x first last f = ap (λ t. if not (C.is_dead last) && t then here else with_inst ℕ x last here) f ∙ either (C.is_dead last)
    where
      either : (t : Bool) → (if not t && false then here else with_inst ℕ x last here) ≡ with_inst ℕ x last here
      either true = refl
      either false = refl

-- one argument, by what was found of it
module _ (Op : Operations ℕ) (P : Source) (declared : ℕ → List Declared) (T : ℕ → TypeTerm) (first last : ℕ) (t : Bool) (x : ℕ) (c : Point ℕ) where
  abbrev by_tests : Bool → Bool → Point ℕ
  by_tests d e = if d then input_after Op P declared T (first, last) x c else if e then c else with_inst ℕ x last c

  pub left-input : is_bound first ≡ true → left_by Op P declared T (first, last) t x c ≡ input_after Op P declared T (first, last) x c
  left-input h = ap (λ d. by_tests d (not (is_bound last) || t)) h

  pub left-stays : is_bound first ≡ false → (not (is_bound last) || t) ≡ true → left_by Op P declared T (first, last) t x c ≡ c
  left-stays h g = ap (λ d. by_tests d (not (is_bound last) || t)) h ∙ ap (by_tests false) g

  pub left-given : is_bound first ≡ false → (not (is_bound last) || t) ≡ false → left_by Op P declared T (first, last) t x c ≡ with_inst ℕ x last c
  left-given h g = ap (λ d. by_tests d (not (is_bound last) || t)) h ∙ ap (by_tests false) g
