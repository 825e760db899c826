-- What is live at a moment of a walk, and in its ties.
use Rattle.std.proofs.Common.{◌≡◌, ℕ, zero, suc, ◌<◌, ◌≤◌, List, [], ◌∷◌, ◌++◌, length, take, get_or, refl, sym, ap, subst, ◌∙◌, arith}
use Rattle.std.proofs.Math.Logic.{◌↔◌}
use Rattle.mc_program.specs.Programs.{TypeTerm, int_type, string_type, Source}
use Rattle.mc_accepted.specs.ProperTypes.{Parameters}
use Rattle.mc_accepted.specs.Resolving.{Step as WalkStep, push_variable, push_number, push_text, choose, equate, call, close_head, Live, Walks, below as types_below}
use Rattle.mc_source.specs.declared.name.Candidate.{Candidate}
use Rattle.mc_types.specs.Trees.{shape, type_of}
use Rattle.mc_types.specs.declared.signature.Signature.{Signature}
use Rattle.mc_types.specs.declared.steps.Step.{Step}
use Rattle.mc_types.specs.Typed.{Typed, LiveAt}
use Rattle.mc_typecheck.specs.Ties.{of_equation, of_number, of_text, of_head, Tie, tied, sole, named, ties_in, made_by, pick_of, picks_of, topmost, below, names_term, names_atom}
use Rattle.mc_typecheck.specs.Searched.{AreTies, VariablesBelow}
use Rattle.laws_made_types.specs.Traced.{Traces, HasTypes}
use Rattle.laws_made_types.proofs.Tracing.{has_trace, goes_through}
use Rattle.mc_typecheck.proofs.Suiting.{Suited, typed_suited, suited_typed}
use Rattle.mc_typecheck.proofs.WalkingLemmas.{AllSuited, types_from, traces_of, tied_by}

pub variables_taken : (vars m : ℕ) (walk : List WalkStep) → VariablesBelow vars walk → VariablesBelow vars (take m walk)
variables_taken vars zero walk h = tt
variables_taken vars (suc m) [] h = tt
variables_taken vars (suc m) (push_variable v ∷ walk) h = (h.0, variables_taken vars m walk h.1)
variables_taken vars (suc m) (push_number ∷ walk) h = variables_taken vars m walk h
variables_taken vars (suc m) (push_text ∷ walk) h = variables_taken vars m walk h
variables_taken vars (suc m) (choose cs n ∷ walk) h = variables_taken vars m walk h
variables_taken vars (suc m) (equate ∷ walk) h = variables_taken vars m walk h
variables_taken vars (suc m) (call cs n ∷ walk) h = variables_taken vars m walk h
variables_taken vars (suc m) (close_head p n ∷ walk) h = variables_taken vars m walk h

-- the choices of the first ties
pub picks_taken : (k : ℕ) (ties : List Tie) (cs : List ℕ) → length cs ≤ k → picks_of (take k ties) cs ≡ picks_of ties cs
picks_taken zero [] [] le = refl
picks_taken zero (t ∷ ties) [] le = refl
picks_taken zero ties (c ∷ cs) le = let none : ⊥ = omega arith in absurd none
picks_taken (suc k) [] cs le = refl
picks_taken (suc k) (t ∷ ties) [] le = refl
picks_taken (suc k) (t ∷ ties) (c ∷ cs) le = ap (λ ps. pick_of (get_or t.meanings c of_equation) ++ ps) (picks_taken k ties cs (omega arith))

-- each number of ties is met at a moment
pub moment_of : (walk : List WalkStep) (k : ℕ) → k ≤ ties_in walk → (m : ℕ) × (ties_in (take m walk) ≡ k)
moment_of walk zero le = (0, refl)
moment_of [] (suc k) le = let none : ⊥ = omega arith in absurd none
moment_of (push_variable v ∷ walk) (suc k) le = let r = moment_of walk (suc k) le in (suc r.0, r.1)
moment_of (push_number ∷ walk) (suc k) le = let r = moment_of walk k (omega arith) in (suc r.0, ap suc r.1)
moment_of (push_text ∷ walk) (suc k) le = let r = moment_of walk k (omega arith) in (suc r.0, ap suc r.1)
moment_of (choose cs n ∷ walk) (suc k) le = let r = moment_of walk k (omega arith) in (suc r.0, ap suc r.1)
moment_of (equate ∷ walk) (suc k) le = let r = moment_of walk k (omega arith) in (suc r.0, ap suc r.1)
moment_of (call cs n ∷ walk) (suc k) le = let r = moment_of walk k (omega arith) in (suc r.0, ap suc r.1)
moment_of (close_head p n ∷ walk) (suc k) le = let r = moment_of walk k (omega arith) in (suc r.0, ap suc r.1)

module _ (P : Source) (D : Parameters) where
  -- there are as many types of occurrences as places that the walk makes
  pub traced_long : (τ : ℕ → TypeTerm) (walk : List WalkStep) (stack : List TypeTerm) (picks : List Candidate) (trace : List TypeTerm) → Traces P D τ walk stack picks trace → length trace ≡ made_by walk
  traced_long τ [] stack picks trace h = ap length h.1
  traced_long τ (push_variable v ∷ walk) stack picks trace h = traced_long τ walk (stack ++ τ v ∷ []) picks trace h
  traced_long τ (push_number ∷ walk) stack picks trace h = ap length h.1 ∙ ap suc (traced_long τ walk (stack ++ int_type ∷ []) picks h.0 h.2)
  traced_long τ (push_text ∷ walk) stack picks trace h = ap length h.1 ∙ ap suc (traced_long τ walk (stack ++ string_type ∷ []) picks h.0 h.2)
  traced_long τ (choose cs n ∷ walk) stack [] trace h = absurd h
  traced_long τ (choose cs n ∷ walk) stack (c ∷ picks) trace h = ap length h.4 ∙ ap suc (traced_long τ walk (types_below n stack ++ h.2 ∷ []) picks h.3 h.6)
  traced_long τ (equate ∷ walk) stack picks trace h = traced_long τ walk (types_below 2 stack) picks trace h.2
  traced_long τ (call cs n ∷ walk) stack [] trace h = absurd h
  traced_long τ (call cs n ∷ walk) stack (c ∷ picks) trace h = traced_long τ walk (types_below n stack) picks trace h.3
  traced_long τ (close_head p n ∷ walk) stack picks trace h = traced_long τ walk (types_below n stack) picks trace h.1

  pub tied_length : (walk : List WalkStep) (next : ℕ) (stack : List ℕ) → length (tied P D walk next stack) ≡ ties_in walk
  tied_length [] next stack = refl
  tied_length (push_variable v ∷ walk) next stack = tied_length walk next (stack ++ v ∷ [])
  tied_length (push_number ∷ walk) next stack = ap suc (tied_length walk (suc next) (stack ++ next ∷ []))
  tied_length (push_text ∷ walk) next stack = ap suc (tied_length walk (suc next) (stack ++ next ∷ []))
  tied_length (choose cs n ∷ walk) next stack = ap suc (tied_length walk (suc next) (below n stack ++ next ∷ []))
  tied_length (equate ∷ walk) next stack = ap suc (tied_length walk next (below 2 stack))
  tied_length (call cs n ∷ walk) next stack = ap suc (tied_length walk next (below n stack))
  tied_length (close_head p n ∷ walk) next stack = ap suc (tied_length walk next (below n stack))

  -- the ties of a moment are the first of all
  pub tied_taken : (m : ℕ) (walk : List WalkStep) (next : ℕ) (stack : List ℕ) → tied P D (take m walk) next stack ≡ take (ties_in (take m walk)) (tied P D walk next stack)
  tied_taken zero walk next stack = refl
  tied_taken (suc m) [] next stack = refl
  tied_taken (suc m) (push_variable v ∷ walk) next stack = tied_taken m walk next (stack ++ v ∷ [])
  tied_taken (suc m) (push_number ∷ walk) next stack = ap (λ ts. sole P D of_number (next ∷ []) ∷ ts) (tied_taken m walk (suc next) (stack ++ next ∷ []))
  tied_taken (suc m) (push_text ∷ walk) next stack = ap (λ ts. sole P D of_text (next ∷ []) ∷ ts) (tied_taken m walk (suc next) (stack ++ next ∷ []))
  tied_taken (suc m) (choose cs n ∷ walk) next stack = ap (λ ts. named P D names_term cs (topmost n stack ++ next ∷ []) ∷ ts) (tied_taken m walk (suc next) (below n stack ++ next ∷ []))
  tied_taken (suc m) (equate ∷ walk) next stack = ap (λ ts. sole P D of_equation (topmost 2 stack) ∷ ts) (tied_taken m walk next (below 2 stack))
  tied_taken (suc m) (call cs n ∷ walk) next stack = ap (λ ts. named P D names_atom cs (topmost n stack) ∷ ts) (tied_taken m walk next (below n stack))
  tied_taken (suc m) (close_head p n ∷ walk) next stack = ap (λ ts. sole P D (of_head p) (topmost n stack) ∷ ts) (tied_taken m walk next (below n stack))

  pub suited_all : (τ : ℕ → TypeTerm) (k : ℕ) (ties : List Tie) (cs : List ℕ) → length cs ≡ k → Suited P D τ ties cs → AllSuited P D τ (take k ties) cs
  suited_all τ zero ties [] e h = tt
  suited_all τ zero ties (c ∷ cs) e h = let none : ⊥ = omega arith in absurd none
  suited_all τ (suc k) ties [] e h = let none : ⊥ = omega arith in absurd none
  suited_all τ (suc k) [] (c ∷ cs) e h = absurd h
  suited_all τ (suc k) (t ∷ ties) (c ∷ cs) e h = (h.0, h.1, suited_all τ k ties cs (omega arith) h.2)

  pub all_suited : (τ : ℕ → TypeTerm) (k : ℕ) (ties : List Tie) (cs : List ℕ) → AllSuited P D τ (take k ties) cs → Suited P D τ ties cs
  all_suited τ k ties [] h = tt
  all_suited τ zero ties (c ∷ cs) h = absurd h
  all_suited τ (suc k) [] (c ∷ cs) h = absurd h
  all_suited τ (suc k) (t ∷ ties) (c ∷ cs) h = (h.0, h.1, all_suited τ k ties cs h.2)

  pub all_long : (τ : ℕ → TypeTerm) (ties : List Tie) (cs : List ℕ) → AllSuited P D τ ties cs → length cs ≡ length ties
  all_long τ [] [] h = refl
  all_long τ [] (c ∷ cs) h = absurd h
  all_long τ (t ∷ ties) [] h = absurd h
  all_long τ (t ∷ ties) (c ∷ cs) h = ap suc (all_long τ ties cs h.2)

  module _ (signatures : List Signature) (walk : List WalkStep) (steps : List Step) (vars : ℕ) (own : VariablesBelow vars walk) (are : AreTies P D signatures steps (tied P D walk vars [])) where
    abbrev ties : List Tie
    ties = tied P D walk vars []

    -- types of all places, with choices that they type
    pub record Choices (moment : ℕ) (picks : List Candidate) (τ : ℕ → TypeTerm) (trace : List TypeTerm) : Type 0 where
      pub choices : List ℕ
      pub types : ℕ → TypeTerm
      pub own_types : (i : ℕ) → i < vars → types i ≡ τ i
      pub traced : HasTypes types vars trace
      pub long : length choices ≡ ties_in (take moment walk)
      pub typed : Typed (λ p. shape (types p)) signatures steps choices
      pub suited : Suited P D types ties choices
      pub picked : picks ≡ picks_of ties choices

    pub choices_of : (moment : ℕ) (picks : List Candidate) (τ : ℕ → TypeTerm) (trace : List TypeTerm) → Traces P D τ (take moment walk) [] picks trace → Choices moment picks τ trace
    choices_of moment picks τ trace h =
        let k = ties_in (take moment walk) in
        let r = tied_by P D vars τ (take moment walk) τ vars [] picks trace tt (variables_taken vars moment walk own) (omega arith) (λ v lt. refl) h in
        let e = tied_taken moment walk vars [] in
        let Q : List Tie → Type 0 = λ ts. AllSuited P D r.types ts r.choices in
        let whole : Suited P D r.types ties r.choices = all_suited r.types k ties r.choices (subst Q e r.suited) in
        let len : length r.choices ≡ k = all_long r.types (tied P D (take moment walk) vars []) r.choices r.suited ∙ tied_length (take moment walk) vars [] in
        record {
          choices = r.choices;
          types = r.types;
          own_types = r.before;
          traced = r.traced;
          long = len;
          typed = suited_typed P D signatures r.types steps ties r.choices are whole;
          suited = whole;
          picked = r.picked ∙ ap (λ ts. picks_of ts r.choices) e ∙ picks_taken k ties r.choices (omega (arith, len));
        }

    pub traces_by : (moment : ℕ) (choices : List ℕ) → length choices ≡ ties_in (take moment walk) → (τ : ℕ → TypeTerm) → Suited P D τ ties choices → Traces P D τ (take moment walk) [] (picks_of ties choices) (types_from τ vars (made_by (take moment walk)))
    traces_by moment choices len τ h =
        let k = ties_in (take moment walk) in
        let e = tied_taken moment walk vars [] in
        let Q : List Tie → Type 0 = λ ts. AllSuited P D τ ts choices in
        let whole : AllSuited P D τ (tied P D (take moment walk) vars []) choices = subst Q (sym e) (suited_all τ k ties choices len h) in
        let R : List Candidate → Type 0 = λ ps. Traces P D τ (take moment walk) [] ps (types_from τ vars (made_by (take moment walk))) in
        subst R (ap (λ ts. picks_of ts choices) e ∙ picks_taken k ties choices (omega (arith, len))) (traces_of P D τ (take moment walk) vars [] choices whole)

    walks_by : (moment : ℕ) (choices : List ℕ) → length choices ≡ ties_in (take moment walk) → (τ : ℕ → TypeTerm) → Suited P D τ ties choices → Walks P D τ (take moment walk) [] (picks_of ties choices)
    walks_by moment choices len τ h = goes_through P D τ (take moment walk) [] (picks_of ties choices) (types_from τ vars (made_by (take moment walk))) (traces_by moment choices len τ h)

    pub live_choices : (moment : ℕ) (picks : List Candidate) → Live P D (take moment walk) picks → (choices : List ℕ) × LiveAt signatures steps (ties_in (take moment walk)) choices × (picks ≡ picks_of ties choices)
    live_choices moment picks h =
        let w = has_trace P D h.0 (take moment walk) [] picks h.1 in
        let c = choices_of moment picks h.0 w.0 w.1 in
        (c.choices, (c.long, ((λ p. shape (c.types p)), c.typed)), c.picked)

    pub choices_live : (moment : ℕ) (choices : List ℕ) → LiveAt signatures steps (ties_in (take moment walk)) choices → Live P D (take moment walk) (picks_of ties choices)
    choices_live moment choices h =
        let θ = h.1.0 in
        ((λ p. type_of (θ p)), walks_by moment choices h.0 (λ p. type_of (θ p)) (typed_suited P D signatures θ steps ties choices are h.1.1))

    pub walk_means : (moment : ℕ) (picks : List Candidate) → Live P D (take moment walk) picks ↔ ((choices : List ℕ) × LiveAt signatures steps (ties_in (take moment walk)) choices × (picks ≡ picks_of ties choices))
    walk_means moment picks = (
      live_choices moment picks,
      (λ h. let Q : List Candidate → Type 0 = λ ps. Live P D (take moment walk) ps in subst Q (sym h.2) (choices_live moment h.0 h.1)),
    )
