-- A search's path: one candidate more, none, or one less.
use Rattle.std.proofs.Common.{◌≡◌, ℕ, suc, ◌+◌, ◌<◌, ◌≤◌, List, [], ◌∷◌, ◌++◌, length, take, drop, get_or, map, sym, ◌∙◌, ap, refl, subst, inl, inr, arith, length-append}
use Rattle.std.proofs.Math.Logic.{◌↔◌}
use Rattle.std.proofs.lemmas.List.{map_push, length-map, same_from_push, take_at, drop_at, get_or_read, nil_from_length}
use Rattle.mc_types.specs.Shapes.{Shape, rigid}
use Rattle.mc_types.specs.Holds.{Holds}
use Rattle.mc_types.specs.Changes.{undone}
use Rattle.mc_types.specs.Founded.{AllPast}
use Rattle.mc_types.specs.Fits.{Fits}
use Rattle.mc_types.specs.declared.cells.Cell.{Cell}
use Rattle.mc_types.specs.declared.cells.Change.{Change}
use Rattle.mc_types.specs.declared.signature.Signature.{Signature}
use Rattle.mc_types.proofs.Solutions.{solved}
use Rattle.mc_types.specs.declared.steps.Step.{Step}
use Rattle.mc_types.specs.declared.state.Level.{Level}
use Rattle.mc_types.specs.Typed.{Typed, Chosen, Live, AllProper, Proper}
use Rattle.mc_types.specs.declared.state.Search.{Search}
use Rattle.mc_types.specs.code.Passed.{Passed}
use Rattle.mc_types.proofs.Orders.{not_yet}
use Rattle.mc_types.specs.code.Standing.{Arrived, CandidateFits, CandidateFails, Represents, Standing, at_root, at_level, choices}
use Rattle.mc_types.proofs.Choosing.{typed_front, typed_last, typed_step, typed_more, typed_within, deeper_passes, up_passes, below_passes, NoneLeft}

map_agrees : (θ ρ : ℕ → Shape) (n : ℕ) (places : List ℕ) → ((k : ℕ) (d : ℕ) → k < length places → get_or places k d < n) → ((i : ℕ) → i < n → ρ i ≡ θ i) → map θ places ≡ map ρ places
map_agrees θ ρ n [] within same = refl
map_agrees θ ρ n (p ∷ places) within same =
    ap (λ s. s ∷ map θ places) (sym (same p (within 0 0 (omega arith))))
    ∙ ap (λ xs. ρ p ∷ xs) (map_agrees θ ρ n places (λ k d lt. within (suc k) d (omega arith)) same)

pub fits_agree : (θ ρ : ℕ → Shape) (n : ℕ) (signature : Signature) (places : List ℕ) → ((k : ℕ) (d : ℕ) → k < length places → get_or places k d < n) → ((i : ℕ) → i < n → ρ i ≡ θ i) → Fits θ signature places → Fits ρ signature places
fits_agree θ ρ n signature places within same fits = (fits.0, fits.1 ∙ map_agrees θ ρ n places within same)

pub choices_push : (path : List Level) (l : Level) → choices (path ++ l ∷ []) ≡ choices path ++ l.choice ∷ []
choices_push path l = map_push (λ m. m.choice) path l

pub choices_length : (path : List Level) → length (choices path) ≡ length path
choices_length path = length-map path (λ m. m.choice)

module _ (signatures : List Signature) (steps : List Step) (places : ℕ) where
  pub standing_represents : (path : List Level) (cells : List Cell) (changes : List Change) → Standing signatures steps places path cells changes → Represents signatures steps places (choices path) cells
  standing_represents path cells changes (at_root e r) = let P : List Level → Type 0 = λ p. Represents signatures steps places (choices p) cells in subst P (sym e) r
  standing_represents path cells changes (at_level before l cells0 changes0 e s r g lc lh) = r

  pub live_here : (cs : List ℕ) (cells : List Cell) → Represents signatures steps places cs cells → Live signatures steps cs
  live_here cs cells r =
      let s = solved cells r.founded (λ i. rigid 0) in
      (s.types, r.keeps s.types s.holds)

  module _ (path : List Level) (cells : List Cell) (changes : List Change) (standing : Standing signatures steps places path cells changes) (next : ℕ) (step : Step) (at_step : (d : Step) → get_or steps (length path) d ≡ step) (lt : length path < length steps) (small : next < length step.candidates.items) (signature : Signature) (at_signature : (d : Signature) → get_or signatures (get_or step.candidates.items next 0) d ≡ signature) (within : (k : ℕ) (d : ℕ) → k < length step.places.items → get_or step.places.items k d < places) where
    here : Represents signatures steps places (choices path) cells
    here = standing_represents path cells changes standing

    long : length (choices path) ≡ length path
    long = choices_length path

    at_here : (d : Step) → get_or steps (length (choices path)) d ≡ step
    at_here d = ap (λ k. get_or steps k d) long ∙ at_step d

    -- types that are typed by one choice more hold here, and fit the candidate
    reach : (θ : ℕ → Shape) → Typed θ signatures steps (choices path ++ next ∷ []) → (ρ : ℕ → Shape) × Holds ρ cells × Fits ρ signature step.places.items × ((i : ℕ) → i < places → ρ i ≡ θ i)
    reach θ typed =
        let r = here.extends θ (typed_front θ signatures steps (choices path) (next ∷ []) typed) in
        let P : Step → Type 0 = λ s. Chosen θ signatures s next in
        let chosen : Chosen θ signatures step next = subst P (at_here step) (typed_last θ signatures steps (choices path) next [] step typed) in
        let Q : Signature → Type 0 = λ s. Fits θ s step.places.items in
        let fits : Fits θ signature step.places.items = subst Q (at_signature signature) (chosen.1 signature) in
        (r.0, r.1, fits_agree θ r.0 places signature step.places.items within r.2 fits, r.2)

    pub never_live : (cells' : List Cell) (changes' : List Change) → CandidateFails cells changes cells' changes' signature step.places.items → Live signatures steps (choices path ++ next ∷ []) → ⊥
    never_live cells' changes' fails live = let r = reach live.0 live.1 in fails.never r.0 r.1 r.2

    represents_more : (cells' : List Cell) (changes' : List Change) → CandidateFits cells changes cells' changes' signature step.places.items → Represents signatures steps places (choices path ++ next ∷ []) cells'
    represents_more cells' changes' c = record {
      in_order = c.in_order;
      founded = c.founded;
      room = omega (arith, here.room, c.grown.longer);
      keeps = λ ρ h.
          let k = c.fits.keeps ρ h in
          let P : Step → Type 0 = λ s. Chosen ρ signatures s next in
          let Q : Signature → Type 0 = λ s. Fits ρ s step.places.items in
          let chosen : Chosen ρ signatures step next = (small, (λ d. subst Q (sym (at_signature d)) k.1)) in
          typed_more ρ signatures steps (choices path) next step (omega (arith, long)) (here.keeps ρ k.0) (subst P (sym (at_here step)) chosen);
      extends = λ θ typed.
          let r = reach θ typed in
          let e = c.fits.extends r.0 r.1 r.2 in
          (e.0, e.1, (λ i l. e.2 i (omega (arith, here.room)) ∙ r.3 i l));
    }

    pub standing_more : (cells' : List Cell) (changes' : List Change) (l : Level) → l.choice ≡ next → l.cells ≡ length cells → l.changes ≡ length changes → CandidateFits cells changes cells' changes' signature step.places.items → Standing signatures steps places (path ++ l ∷ []) cells' changes'
    standing_more cells' changes' l ln lc lh c =
        let P : List ℕ → Type 0 = λ cs. Represents signatures steps places cs cells' in
        at_level path l cells changes refl standing (subst P (sym (choices_push path l ∙ ap (λ n. choices path ++ n ∷ []) ln)) (represents_more cells' changes' c)) c.grown lc lh

  -- what stands after a choice is taken back
  pub record Up (rest : List Level) (l : Level) (cells : List Cell) (changes : List Change) : Type 0 where
    pub cells0 : List Cell
    pub changes0 : List Change
    pub standing : Standing signatures steps places rest cells0 changes0
    pub cells_are : undone (drop l.changes changes) (take l.cells cells) ≡ cells0
    pub changes_are : take l.changes changes ≡ changes0
    pub enough : l.changes ≤ length changes
    pub below : length rest < length steps
    pub step : Step
    pub at_step : (d : Step) → get_or steps (length rest) d ≡ step
    pub valid : l.choice < length step.candidates.items

  pub standing_up : (path : List Level) (cells : List Cell) (changes : List Change) (rest : List Level) (level : Level) → path ≡ rest ++ level ∷ [] → Standing signatures steps places path cells changes → Up rest level cells changes
  standing_up path cells changes rest level e (at_root empty r) =
      let long = ap length (sym empty ∙ e) in
      let never : ⊥ = omega (arith, long, length-append rest (level ∷ [])) in
      absurd never
  standing_up path cells changes rest level e (at_level before l cells0 changes0 f s r g lc lh) =
      let same = same_from_push before rest l level (sym f ∙ e) in
      let P : List Level → Type 0 = λ p. Standing signatures steps places p cells0 changes0 in
      let cells_is : level.cells ≡ length cells0 = ap (λ m. m.cells) (sym same.1) ∙ lc in
      let changes_is : level.changes ≡ length changes0 = ap (λ m. m.changes) (sym same.1) ∙ lh in
      let live = live_here (choices path) cells r in
      let Q : List ℕ → Type 0 = λ cs. Typed live.0 signatures steps cs in
      let typed : Typed live.0 signatures steps (choices rest ++ level.choice ∷ []) = subst Q (ap choices e ∙ choices_push rest level) live.1 in
      let long : length (choices rest) ≡ length rest = choices_length rest in
      let t = typed_step live.0 signatures steps (choices rest) level.choice [] typed in
      record {
        cells0 = cells0;
        changes0 = changes0;
        standing = subst P same.0 s;
        cells_are =
            ap (λ n. undone (drop n changes) (take level.cells cells)) changes_is
            ∙ ap (λ n. undone (drop (length changes0) changes) (take n cells)) cells_is
            ∙ ap (λ xs. undone xs (take (length cells0) cells)) (ap (drop (length changes0)) g.noted ∙ drop_at changes0 g.since (length changes0) refl)
            ∙ g.back;
        changes_are = ap (λ n. take n changes) changes_is ∙ ap (take (length changes0)) g.noted ∙ take_at changes0 g.since (length changes0) refl;
        enough = omega (arith, changes_is, ap length g.noted, length-append changes0 g.since);
        below = omega (arith, typed_within live.0 signatures steps (choices rest ++ level.choice ∷ []) typed, length-append (choices rest) (level.choice ∷ []), long);
        step = t.0;
        at_step = λ d. ap (λ k. get_or steps k d) (sym long) ∙ t.1 d;
        valid = t.2.0;
      }

-- a step and a candidate's signature, as the search reads them
pub record Here (signatures : List Signature) (steps : List Step) (places k next : ℕ) (step : Step) (signature : Signature) : Type 0 where
  pub at_step : (d : Step) → get_or steps k d ≡ step
  pub below : k < length steps
  pub small : next < length step.candidates.items
  pub at_signature : (d : Signature) → get_or signatures (get_or step.candidates.items next 0) d ≡ signature
  pub within : (j : ℕ) (d : ℕ) → j < length step.places.items → get_or step.places.items j d < places

pub here_is : (signatures : List Signature) (steps : List Step) (places : ℕ) → AllProper signatures places steps → (k path_length next : ℕ) (first step : Step) (i : ℕ) (signature : Signature) → k ≡ path_length → k < length steps → first ≡ get_or steps k first → step ≡ get_or steps k step → next < length first.candidates.items → i ≡ get_or step.candidates.items next i → signature ≡ get_or signatures i signature → Here signatures steps places path_length next step signature
here_is signatures steps places proper k path_length next first step i signature e lt f g small at_i at_signature =
    let same : first ≡ step = get_or_read steps k first lt f step ∙ sym g in
    let small2 : next < length step.candidates.items = let P : Step → Type 0 = λ s. next < length s.candidates.items in subst P same small in
    let P : Step → Type 0 = λ s. Proper signatures places s in
    let right : Proper signatures places step = subst P (sym (get_or_read steps k step lt g step)) (proper k step lt) in
    let index : i ≡ get_or step.candidates.items next 0 = get_or_read step.candidates.items next i small2 at_i 0 in
    let there : i < length signatures = omega (arith, right.candidates_there next small2, index) in
    record {
      at_step = λ d. ap (λ m. get_or steps m d) (sym e) ∙ sym (get_or_read steps k step lt g d);
      below = omega (arith, e);
      small = small2;
      at_signature = λ d. ap (λ m. get_or signatures m d) (sym index) ∙ sym (get_or_read signatures i signature there at_signature d);
      within = right.places_there;
    }

module _ (signatures : List Signature) (steps : List Step) (places : ℕ) where
  -- one choice more, which is live
  pub arrived : (before now after : Search) (l : Level) → after.path.items ≡ now.path.items ++ l ∷ [] → after.next ≡ 0 → l.choice ≡ now.next → Standing signatures steps places (now.path.items ++ l ∷ []) after.graph.cells.items after.graph.changes.items → AllPast after.round after.marks.items → 0 < after.round → ((cs : List ℕ) → Live signatures steps cs → Passed (choices now.path.items) now.next cs ↔ Passed (choices before.path.items) before.next cs) → Arrived signatures steps places before after
  arrived before now after l pe ne le standing past some same =
      let P : List Level → Type 0 = λ p. Standing signatures steps places p after.graph.cells.items after.graph.changes.items in
      let st : Standing signatures steps places after.path.items after.graph.cells.items after.graph.changes.items = subst P (sym pe) standing in
      let live = live_here signatures steps places (choices after.path.items) after.graph.cells.items (standing_represents signatures steps places after.path.items after.graph.cells.items after.graph.changes.items st) in
      let e : choices after.path.items ≡ choices now.path.items ++ now.next ∷ [] = ap choices pe ∙ choices_push now.path.items l ∙ ap (λ n. choices now.path.items ++ n ∷ []) le in
      let R : List ℕ → Type 0 = λ xs. Passed (choices now.path.items) now.next xs in
      record {
        stands = record { standing = st; past = past; some_round = some };
        at_first = ne;
        live = live;
        new = λ passed. not_yet (choices now.path.items) now.next (subst R e ((same (choices after.path.items) live).1 passed));
        passes = λ cs here.
            let d = deeper_passes signatures steps (choices now.path.items) now.next cs in
            let Q : List ℕ → Type 0 = λ xs. Passed xs 0 cs in (
              (λ h. elim (d.0 (subst Q e h)) [ inl p ↦ inl ((same cs here).0 p) | inr q ↦ inr (q ∙ sym e) ]),
              (λ h. elim h [ inl p ↦ subst Q (sym e) (d.1 (inl ((same cs here).1 p))) | inr q ↦ subst Q (sym e) (d.1 (inr (q ∙ e))) ]),
            );
      }

  pub up_same : (path rest : List Level) (level : Level) (next : ℕ) → path ≡ rest ++ level ∷ [] → NoneLeft signatures steps (length path) next → (cs : List ℕ) → Live signatures steps cs → Passed (choices rest) (level.choice + 1) cs ↔ Passed (choices path) next cs
  up_same path rest level next e none cs live =
      let f : choices path ≡ choices rest ++ level.choice ∷ [] = ap choices e ∙ choices_push rest level in
      let P : ℕ → Type 0 = λ n. NoneLeft signatures steps n next in
      let Q : List ℕ → Type 0 = λ xs. Passed (choices rest) (level.choice + 1) cs ↔ Passed xs next cs in
      subst Q (sym f) (up_passes signatures steps (choices rest) level.choice next (subst P (sym (choices_length path) ∙ ap length f) none) cs live)

  pub all_passed : (path : List Level) (next : ℕ) → length path ≡ 0 → NoneLeft signatures steps (length path) next → (cs : List ℕ) → Live signatures steps cs → Passed (choices path) next cs
  all_passed path next e none cs live =
      let empty : path ≡ [] = nil_from_length path e in
      let P : List Level → Type 0 = λ p. Passed (choices p) next cs in
      let Q : ℕ → Type 0 = λ n. NoneLeft signatures steps n next in
      subst P (sym empty) (below_passes signatures steps [] next (subst Q e none) cs live)
