-- What the search's answers say of a clause.
use Rattle.std.proofs.Common.{◌≡◌, ℕ, zero, suc, ◌+◌, ◌<◌, ◌≤◌, ◌⊎◌, Bool, List, [], ◌∷◌, ◌++◌, map, length, take, drop, get_or, refl, sym, ap, ap₂, subst, ◌∙◌, inl, inr, arith, take_all}
use Rattle.std.proofs.lemmas.Bool.{cases_lt}
use Rattle.mc_program.specs.Programs.{TypeTerm, Source}
use Rattle.mc_accepted.specs.ProperTypes.{Parameters}
use Rattle.mc_accepted.specs.Resolving.{Step as WalkStep, push_variable, push_number, push_text, choose, equate, call, close_head, names_of, Before, Earlier, Live, TooMany, Unresolved_clause, steps_of, Resolves as ClauseResolves}
use Rattle.mc_source.specs.declared.name.Candidate.{Candidate}
use Rattle.mc_types.specs.declared.signature.Signature.{Signature}
use Rattle.mc_types.specs.declared.steps.Step.{Step}
use Rattle.mc_types.specs.declared.outcome.Outcome.{Outcome}
use Rattle.mc_types.specs.declared.outcome.Outcome.TheVariants as O
use Rattle.mc_types.specs.Typed.{Typed, LiveAt}
use Rattle.mc_types.specs.Resolved.{Resolves, MostGeneral, Exceeds, OutcomeSays, Earlier as EarlierChoice}
use Rattle.mc_typecheck.specs.Ties.{Meaning, of_name, of_number, of_text, of_equation, of_head, Tie, names_term, names_atom, topmost, below, offered, sole, tied, ties_in, made_by, pick_of, picks_of}
use Rattle.mc_typecheck.specs.Searched.{AreTies, VariablesBelow}
use Rattle.mc_typecheck.specs.Outcomes.{ClauseSays}
use Rattle.mc_typecheck.specs.WrittenTypes.{type_written, AreTypes}
use Rattle.mc_types.specs.Shapes.{Shape}
use Rattle.mc_types.specs.Trees.{shape, type_of, applied}
use Rattle.mc_types.proofs.TreeLaws.{exact}
use Rattle.mc_types.specs.declared.written_types.Written.{Written, Free as OfFree, Rigid as OfRigid, Named as OfNamed, App' as OfApp}
use Rattle.mc_types.specs.Writing.{written}
use Rattle.laws_made_types.specs.Traced.{Traces}
use Rattle.mc_typecheck.proofs.WalkingLemmas.{types_from, types_are, types_many, written_trace}
use Rattle.mc_typecheck.proofs.Offers.{same_candidate, Offered, offered_at, offered_before, not_before_itself, sole_at}
use Rattle.mc_typecheck.proofs.Suiting.{Suited, typed_suited, ties_length}
use Rattle.mc_typecheck.proofs.Moments.{choices_of, traces_by, traced_long, tied_length, moment_of, live_choices, choices_live}

-- each choice is the number of a meaning
abbrev pub InRange : List Tie → List ℕ → Type 0
InRange ties [] = Unit {0}
InRange [] (c ∷ cs) = ⊥
InRange (tie ∷ ties) (c ∷ cs) = (c < length tie.meanings) × InRange ties cs

module _ (P : Source) (D : Parameters) where
  in_range : (τ : ℕ → TypeTerm) (ties : List Tie) (cs : List ℕ) → Suited P D τ ties cs → InRange ties cs
  in_range τ ties [] h = tt
  in_range τ [] (c ∷ cs) h = absurd h
  in_range τ (t ∷ ties) (c ∷ cs) h = (h.0, in_range τ ties cs h.2)

  -- AT ONE TIE

  sole_same : (m : Meaning) (places : List ℕ) (a b : ℕ) → a < length (sole P D m places).meanings → b < length (sole P D m places).meanings → a ≡ b
  sole_same m places a b la lb = let sa = sole_at P D m places a la in let sb = sole_at P D m places b lb in sa.first ∙ sym sb.first

  sole_none : (m : Meaning) (places : List ℕ) (a : ℕ) (more : List Candidate) → pick_of m ≡ [] → a < length (sole P D m places).meanings → pick_of (get_or (sole P D m places).meanings a of_equation) ++ more ≡ more
  sole_none m places a more none la = let s = sole_at P D m places a la in ap (λ x. pick_of x ++ more) s.is ∙ ap (λ x. x ++ more) none

  abbrev first_of : Candidate → List Candidate → Candidate
  first_of d [] = d
  first_of d (c ∷ cs) = c

  abbrev rest_of : List Candidate → List Candidate
  rest_of [] = []
  rest_of (c ∷ cs) = cs

  module _ (test : Candidate → Bool) (n : ℕ) (ds : List Candidate) where
    abbrev meanings : List Meaning
    meanings = offered P D test n [] ds

    picks_are : (a : ℕ) (o : Offered P D test n [] ds a) (more : List Candidate) → pick_of (get_or meanings a of_equation) ++ more ≡ o.candidate ∷ more
    picks_are a o more = ap (λ x. pick_of x ++ more) o.is

    same_choice : (a b : ℕ) → a < length meanings → b < length meanings → (oa : Offered P D test n [] ds a) (ob : Offered P D test n [] ds b) → oa.candidate ≡ ob.candidate → a ≡ b
    same_choice a b la lb oa ob e = elim (cases_lt a b) [
      | inl lt ↦
          let Q : Candidate → Type 0 = λ c. Before ds c ob.candidate in
          absurd (not_before_itself ds ob.candidate (subst Q e (offered_before P D test n ds a b lt lb oa.candidate ob.candidate oa.is ob.is)))
      | inr ge ↦ elim (cases_lt b a) [
        | inl lt ↦
            let Q : Candidate → Type 0 = λ c. Before ds c oa.candidate in
            absurd (not_before_itself ds oa.candidate (subst Q (sym e) (offered_before P D test n ds b a lt la ob.candidate oa.candidate ob.is oa.is)))
        | inr le ↦ omega arith
      ]
    ]

    -- different choices, or the same and others behind them
    named_apart : (a b : ℕ) (as' bs : List ℕ) (pa pb : List Candidate) → a < length meanings → b < length meanings → pick_of (get_or meanings a of_equation) ++ pa ≡ pick_of (get_or meanings b of_equation) ++ pb → (pa ≡ pb → as' ≡ bs) → a ∷ as' ≡ b ∷ bs
    named_apart a b as' bs pa pb la lb e more =
        let oa = offered_at P D test n [] ds a la in
        let ob = offered_at P D test n [] ds b lb in
        let same : oa.candidate ∷ pa ≡ ob.candidate ∷ pb = sym (picks_are a oa pa) ∙ e ∙ picks_are b ob pb in
        ap₂ (λ x xs. x ∷ xs) (same_choice a b la lb oa ob (ap (first_of oa.candidate) same)) (more (ap rest_of same))

    named_order : (a b : ℕ) (as' bs : List ℕ) (names : List (List Candidate)) (pa pb : List Candidate) → a < length meanings → b < length meanings → EarlierChoice (a ∷ as') (b ∷ bs) → (EarlierChoice as' bs → Earlier names pa pb) → Earlier (ds ∷ names) (pick_of (get_or meanings a of_equation) ++ pa) (pick_of (get_or meanings b of_equation) ++ pb)
    named_order a b as' bs names pa pb la lb e more =
        let oa = offered_at P D test n [] ds a la in
        let ob = offered_at P D test n [] ds b lb in
        let Q : List Candidate → List Candidate → Type 0 = λ x y. Earlier (ds ∷ names) x y in
        let it : Earlier (ds ∷ names) (oa.candidate ∷ pa) (ob.candidate ∷ pb) = elim e [
          | inl lt ↦ inl (offered_before P D test n ds a b lt lb oa.candidate ob.candidate oa.is ob.is)
          | inr same ↦
              let R : ℕ → Type 0 = λ k. get_or meanings k of_equation ≡ of_name ob.candidate in
              let there : get_or meanings a of_equation ≡ of_name ob.candidate = subst R (sym same.0) ob.is in
              inr (same_candidate oa.candidate ob.candidate (sym oa.is ∙ there), more same.1)
        ] in
        subst (λ x. Q x (pick_of (get_or meanings b of_equation) ++ pb)) (sym (picks_are a oa pa)) (subst (λ y. Q (oa.candidate ∷ pa) y) (sym (picks_are b ob pb)) it)

  -- AT ALL TIES

  sole_apart : (m : Meaning) (places : List ℕ) (a b : ℕ) (as' bs : List ℕ) (pa pb : List Candidate) → pick_of m ≡ [] → a < length (sole P D m places).meanings → b < length (sole P D m places).meanings → pick_of (get_or (sole P D m places).meanings a of_equation) ++ pa ≡ pick_of (get_or (sole P D m places).meanings b of_equation) ++ pb → (pa ≡ pb → as' ≡ bs) → a ∷ as' ≡ b ∷ bs
  sole_apart m places a b as' bs pa pb none la lb e more =
      ap₂ (λ x xs. x ∷ xs) (sole_same m places a b la lb) (more (sym (sole_none m places a pa none la) ∙ e ∙ sole_none m places b pb none lb))

  pub picks_apart : (walk : List WalkStep) (next : ℕ) (stack : List ℕ) (v w : List ℕ) → length v ≡ length w → InRange (tied P D walk next stack) v → InRange (tied P D walk next stack) w → picks_of (tied P D walk next stack) v ≡ picks_of (tied P D walk next stack) w → v ≡ w
  picks_apart walk next stack [] [] len hv hw e = refl
  picks_apart walk next stack [] (b ∷ w) len hv hw e = let none : ⊥ = omega arith in absurd none
  picks_apart walk next stack (a ∷ v) [] len hv hw e = let none : ⊥ = omega arith in absurd none
  picks_apart [] next stack (a ∷ v) (b ∷ w) len hv hw e = absurd hv
  picks_apart (push_variable x ∷ walk) next stack (a ∷ v) (b ∷ w) len hv hw e = picks_apart walk next (stack ++ x ∷ []) (a ∷ v) (b ∷ w) len hv hw e
  picks_apart (push_number ∷ walk) next stack (a ∷ v) (b ∷ w) len hv hw e = sole_apart of_number (next ∷ []) a b v w _ _ refl hv.0 hw.0 e (λ more. picks_apart walk (suc next) (stack ++ next ∷ []) v w (omega arith) hv.1 hw.1 more)
  picks_apart (push_text ∷ walk) next stack (a ∷ v) (b ∷ w) len hv hw e = sole_apart of_text (next ∷ []) a b v w _ _ refl hv.0 hw.0 e (λ more. picks_apart walk (suc next) (stack ++ next ∷ []) v w (omega arith) hv.1 hw.1 more)
  picks_apart (choose ds n ∷ walk) next stack (a ∷ v) (b ∷ w) len hv hw e = named_apart names_term (length (topmost n stack ++ next ∷ [])) ds a b v w _ _ hv.0 hw.0 e (λ more. picks_apart walk (suc next) (below n stack ++ next ∷ []) v w (omega arith) hv.1 hw.1 more)
  picks_apart (equate ∷ walk) next stack (a ∷ v) (b ∷ w) len hv hw e = sole_apart of_equation (topmost 2 stack) a b v w _ _ refl hv.0 hw.0 e (λ more. picks_apart walk next (below 2 stack) v w (omega arith) hv.1 hw.1 more)
  picks_apart (call ds n ∷ walk) next stack (a ∷ v) (b ∷ w) len hv hw e = named_apart names_atom (length (topmost n stack)) ds a b v w _ _ hv.0 hw.0 e (λ more. picks_apart walk next (below n stack) v w (omega arith) hv.1 hw.1 more)
  picks_apart (close_head p n ∷ walk) next stack (a ∷ v) (b ∷ w) len hv hw e = sole_apart (of_head p) (topmost n stack) a b v w _ _ refl hv.0 hw.0 e (λ more. picks_apart walk next (below n stack) v w (omega arith) hv.1 hw.1 more)

  sole_order : (m : Meaning) (places : List ℕ) (a b : ℕ) (as' bs : List ℕ) (names : List (List Candidate)) (pa pb : List Candidate) → pick_of m ≡ [] → a < length (sole P D m places).meanings → b < length (sole P D m places).meanings → EarlierChoice (a ∷ as') (b ∷ bs) → (EarlierChoice as' bs → Earlier names pa pb) → Earlier names (pick_of (get_or (sole P D m places).meanings a of_equation) ++ pa) (pick_of (get_or (sole P D m places).meanings b of_equation) ++ pb)
  sole_order m places a b as' bs names pa pb none la lb e more =
      let later : EarlierChoice as' bs = elim e [
        | inl lt ↦ let same = sole_same m places a b la lb in let no_way : ⊥ = omega (arith, lt, same) in absurd no_way
        | inr same ↦ same.1
      ] in
      let Q : List Candidate → List Candidate → Type 0 = λ x y. Earlier names x y in
      subst (λ x. Q x (pick_of (get_or (sole P D m places).meanings b of_equation) ++ pb)) (sym (sole_none m places a pa none la)) (subst (λ y. Q pa y) (sym (sole_none m places b pb none lb)) (more later))

  pub picks_in_order : (walk : List WalkStep) (next : ℕ) (stack : List ℕ) (v w : List ℕ) → InRange (tied P D walk next stack) v → InRange (tied P D walk next stack) w → EarlierChoice v w → Earlier (names_of walk) (picks_of (tied P D walk next stack) v) (picks_of (tied P D walk next stack) w)
  picks_in_order walk next stack [] w hv hw e = absurd e
  picks_in_order walk next stack (a ∷ v) [] hv hw e = absurd e
  picks_in_order [] next stack (a ∷ v) (b ∷ w) hv hw e = absurd hv
  picks_in_order (push_variable x ∷ walk) next stack (a ∷ v) (b ∷ w) hv hw e = picks_in_order walk next (stack ++ x ∷ []) (a ∷ v) (b ∷ w) hv hw e
  picks_in_order (push_number ∷ walk) next stack (a ∷ v) (b ∷ w) hv hw e = sole_order of_number (next ∷ []) a b v w (names_of walk) _ _ refl hv.0 hw.0 e (λ more. picks_in_order walk (suc next) (stack ++ next ∷ []) v w hv.1 hw.1 more)
  picks_in_order (push_text ∷ walk) next stack (a ∷ v) (b ∷ w) hv hw e = sole_order of_text (next ∷ []) a b v w (names_of walk) _ _ refl hv.0 hw.0 e (λ more. picks_in_order walk (suc next) (stack ++ next ∷ []) v w hv.1 hw.1 more)
  picks_in_order (choose ds n ∷ walk) next stack (a ∷ v) (b ∷ w) hv hw e = named_order names_term (length (topmost n stack ++ next ∷ [])) ds a b v w (names_of walk) _ _ hv.0 hw.0 e (λ more. picks_in_order walk (suc next) (below n stack ++ next ∷ []) v w hv.1 hw.1 more)
  picks_in_order (equate ∷ walk) next stack (a ∷ v) (b ∷ w) hv hw e = sole_order of_equation (topmost 2 stack) a b v w (names_of walk) _ _ refl hv.0 hw.0 e (λ more. picks_in_order walk next (below 2 stack) v w hv.1 hw.1 more)
  picks_in_order (call ds n ∷ walk) next stack (a ∷ v) (b ∷ w) hv hw e = named_order names_atom (length (topmost n stack)) ds a b v w (names_of walk) _ _ hv.0 hw.0 e (λ more. picks_in_order walk next (below n stack) v w hv.1 hw.1 more)
  picks_in_order (close_head p n ∷ walk) next stack (a ∷ v) (b ∷ w) hv hw e = sole_order (of_head p) (topmost n stack) a b v w (names_of walk) _ _ refl hv.0 hw.0 e (λ more. picks_in_order walk next (below n stack) v w hv.1 hw.1 more)

-- LISTS OF WHAT IS LIVE

-- something for each place of a list
pub gathered : {A B : Type 0} (R : A → B → Type 0) (a : A) (b : B) (xs : List A) → ((i : ℕ) → i < length xs → (y : B) × R (get_or xs i a) y) → (ys : List B) × (length ys ≡ length xs) × ((i : ℕ) → i < length xs → R (get_or xs i a) (get_or ys i b))
gathered R a b [] h = ([], refl, (λ i lt. let none : ⊥ = omega arith in absurd none))
gathered R a b (x ∷ xs) h =
    let one = h 0 (omega arith) in
    let more = gathered R a b xs (λ i lt. h (suc i) (omega arith)) in
    (one.0 ∷ more.0, ap suc more.1, gathered_at R a b x xs one.0 more.0 one.1 more.2)
  where
    gathered_at : {A B : Type 0} (R : A → B → Type 0) (a : A) (b : B) (x : A) (xs : List A) (y : B) (ys : List B) → R x y → ((i : ℕ) → i < length xs → R (get_or xs i a) (get_or ys i b)) → (i : ℕ) → i < length (x ∷ xs) → R (get_or (x ∷ xs) i a) (get_or (y ∷ ys) i b)
    gathered_at R a b x xs y ys one more zero lt = one
    gathered_at R a b x xs y ys one more (suc i) lt = more i (omega arith)

module _ (P : Source) (D : Parameters) (signatures : List Signature) (walk : List WalkStep) (steps : List Step) (vars : ℕ) (own : VariablesBelow vars walk) (are : AreTies P D signatures steps (tied P D walk vars [])) where
  abbrev ties : List Tie
  ties = tied P D walk vars []

  live_in_range : (k : ℕ) (cs : List ℕ) → LiveAt signatures steps k cs → InRange ties cs
  live_in_range k cs h = in_range P D (λ p. _) ties cs (typed_suited P D signatures h.1.0 steps ties cs are h.1.1)

  range_long : (ts : List Tie) (cs : List ℕ) → InRange ts cs → length cs ≤ length ts
  range_long ts [] h = omega arith
  range_long [] (c ∷ cs) h = absurd h
  range_long (t ∷ ts) (c ∷ cs) h = let more = range_long ts cs h.1 in omega (arith, more)

  whole_walk : take (length walk) walk ≡ walk
  whole_walk = take_all (length walk) walk (omega arith)

  steps_are : length steps ≡ ties_in walk
  steps_are = ties_length P D signatures steps ties are ∙ tied_length P D walk vars []

  -- a resolution is one of the whole walk
  pub resolves_of : (picks : List Candidate) → Live P D walk picks → (cs : List ℕ) × Resolves signatures steps cs × (picks ≡ picks_of ties cs)
  resolves_of picks h =
      let Q : List WalkStep → Type 0 = λ w. Live P D w picks in
      let r = live_choices P D signatures walk steps vars own are (length walk) picks (subst Q (sym whole_walk) h) in
      let R : ℕ → Type 0 = λ k. LiveAt signatures steps k r.0 in
      (r.0, subst R (ap ties_in whole_walk ∙ sym steps_are) r.1, r.2)

  pub of_resolves : (cs : List ℕ) → Resolves signatures steps cs → Live P D walk (picks_of ties cs)
  of_resolves cs h =
      let R : ℕ → Type 0 = λ k. LiveAt signatures steps k cs in
      let Q : List WalkStep → Type 0 = λ w. Live P D w (picks_of ties cs) in
      subst Q whole_walk (choices_live P D signatures walk steps vars own are (length walk) cs (subst R (steps_are ∙ sym (ap ties_in whole_walk)) h))

  same_picks : (k : ℕ) (v w : List ℕ) → LiveAt signatures steps k v → LiveAt signatures steps k w → picks_of ties v ≡ picks_of ties w → v ≡ w
  same_picks k v w hv hw e = picks_apart P D walk vars [] v w (hv.0 ∙ sym hw.0) (live_in_range k v hv) (live_in_range k w hw) e

  -- TYPES THAT ARE WRITTEN OUT

  read_written : (σ : ℕ → Shape) (w : Written) → type_of (written σ w) ≡ type_written (λ k. type_of (σ k)) w
  read_written σ (OfFree k) = refl
  read_written σ (OfRigid k) = refl
  read_written σ (OfNamed n) = refl
  read_written σ (OfApp p f q x) = ap₂ applied (read_written σ f) (read_written σ x)

  read_shapes : (σ : ℕ → TypeTerm) (w : Written) → type_of (written (λ k. shape (σ k)) w) ≡ type_written σ w
  read_shapes σ (OfFree k) = exact (σ k)
  read_shapes σ (OfRigid k) = refl
  read_shapes σ (OfNamed n) = refl
  read_shapes σ (OfApp p f q x) = ap₂ applied (read_shapes σ f) (read_shapes σ x)

  abbrev places : ℕ
  places = vars + made_by walk

  pub general_types : (cs : List ℕ) (types : List Written) → Resolves signatures steps cs → MostGeneral signatures steps places cs types → (τ : ℕ → TypeTerm) (trace : List TypeTerm) → Traces P D τ walk [] (picks_of ties cs) trace →
      (σ : ℕ → TypeTerm) × ((v : ℕ) (d : Written) → v < vars → τ v ≡ type_written σ (get_or types v d)) × (trace ≡ map (type_written σ) (drop vars types))
  general_types cs types r m τ trace h =
      let Q : List WalkStep → Type 0 = λ w. Traces P D τ w [] (picks_of ties cs) trace in
      let c = choices_of P D signatures walk steps vars own are (length walk) (picks_of ties cs) τ trace (subst Q (sym whole_walk) h) in
      let all : ties_in (take (length walk) walk) ≡ length steps = ap ties_in whole_walk ∙ sym steps_are in
      let same : c.choices ≡ cs = same_picks (length steps) c.choices cs (c.long ∙ all, ((λ p. shape (c.types p)), c.typed)) r (sym c.picked) in
      let S : List ℕ → Type 0 = λ xs. Typed (λ p. shape (c.types p)) signatures steps xs in
      let g = m.general (λ p. shape (c.types p)) (subst S same c.typed) in
      let σ : ℕ → TypeTerm = λ k. type_of (g.0 k) in
      let at : (v : ℕ) (d : Written) → v < places → c.types v ≡ type_written σ (get_or types v d) =
      λ v d lt. sym (exact (c.types v)) ∙ ap type_of (g.1 v d lt) ∙ read_written g.0 (get_or types v d) in (
        σ,
        (λ v d lt. sym (c.own_types v lt) ∙ at v d (omega arith)),
        written_trace c.types σ types vars trace c.traced (omega (arith, m.as_many, traced_long P D τ walk [] (picks_of ties cs) trace h)) (λ v d lt. at v d (omega (arith, m.as_many))),
      )

  pub typed_so : (cs : List ℕ) (types : List Written) → Resolves signatures steps cs → MostGeneral signatures steps places cs types → (σ : ℕ → TypeTerm) →
      (τ : ℕ → TypeTerm) × Traces P D τ walk [] (picks_of ties cs) (map (type_written σ) (drop vars types)) × ((v : ℕ) (d : Written) → v < vars → τ v ≡ type_written σ (get_or types v d))
  typed_so cs types r m σ =
      let g = m.typed (λ k. shape (σ k)) in
      let τ : ℕ → TypeTerm = λ p. type_of (g.0 p) in
      let trace = types_from τ vars (made_by walk) in
      let at : (v : ℕ) (d : Written) → v < places → τ v ≡ type_written σ (get_or types v d) = λ v d lt. ap type_of (g.2 v d lt) ∙ read_shapes σ (get_or types v d) in
      let is : trace ≡ map (type_written σ) (drop vars types) =
      written_trace τ σ types vars trace (types_are τ vars (made_by walk)) (omega (arith, m.as_many, types_many τ vars (made_by walk))) (λ v d lt. at v d (omega (arith, m.as_many))) in
      let Q : List WalkStep → Type 0 = λ w. Traces P D τ w [] (picks_of ties cs) (types_from τ vars (made_by w)) in
      let R : List TypeTerm → Type 0 = λ ts. Traces P D τ walk [] (picks_of ties cs) ts in
      let len : length cs ≡ ties_in (take (length walk) walk) = r.0 ∙ steps_are ∙ sym (ap ties_in whole_walk) in (
        τ,
        subst R is (subst Q whole_walk (traces_by P D signatures walk steps vars own are (length walk) cs len τ (typed_suited P D signatures g.0 steps ties cs are g.1))),
        (λ v d lt. at v d (omega arith)),
      )

  -- WHAT PASSES A LIMIT

  abbrev LivePicks : ℕ → List Candidate → List ℕ → Type 0
  LivePicks k picks cs = LiveAt signatures steps k cs × (picks ≡ picks_of ties cs)

  pub record ManyPicks (limit : ℕ) : Type 0 where
    pub moment : ℕ
    pub live : List (List Candidate)
    pub many : limit < length live
    pub distinct : (i j : ℕ) → i < j → j < length live → get_or live i [] ≡ get_or live j [] → ⊥
    pub all_live : (i : ℕ) → i < length live → Live P D (take moment walk) (get_or live i [])

  pub exceeds_of : (limit : ℕ) → ManyPicks limit → Exceeds signatures steps limit
  exceeds_of limit m =
      let k = ties_in (take m.moment walk) in
      let g = gathered (LivePicks k) [] [] m.live (λ i lt. let c = live_choices P D signatures walk steps vars own are m.moment (get_or m.live i []) (m.all_live i lt) in (c.0, (c.1, c.2))) in
      record {
        moment = k;
        live = g.0;
        many = omega (arith, m.many, g.1);
        distinct = λ i j lt len e.
            let li : i < length m.live = omega (arith, g.1) in
            let lj : j < length m.live = omega (arith, g.1) in
            m.distinct i j lt lj ((g.2 i li).1 ∙ ap (picks_of ties) e ∙ sym (g.2 j lj).1);
        all_live = λ i lt. (g.2 i (omega (arith, g.1))).0;
      }

  abbrev ChoicesOf : ℕ → List ℕ → List Candidate → Type 0
  ChoicesOf m cs picks = Live P D (take m walk) picks × (picks ≡ picks_of ties cs)

  pub many_of : (limit : ℕ) → Exceeds signatures steps limit → ManyPicks limit
  many_of limit x =
      let some = x.all_live 0 (omega (arith, x.many)) in
      let low : x.moment ≤ ties_in walk = omega (arith, some.0, range_long ties (get_or x.live 0 []) (live_in_range x.moment (get_or x.live 0 []) some), tied_length P D walk vars []) in
      let at = moment_of walk x.moment low in
      let R : ℕ → List ℕ → Type 0 = λ k cs. LiveAt signatures steps k cs in
      let g = gathered (ChoicesOf at.0) [] [] x.live (λ i lt. let cs = get_or x.live i [] in (picks_of ties cs, (choices_live P D signatures walk steps vars own are at.0 cs (subst (λ k. R k cs) (sym at.1) (x.all_live i lt)), refl))) in
      record {
        moment = at.0;
        live = g.0;
        many = omega (arith, x.many, g.1);
        distinct = λ i j lt len e.
            let li : i < length x.live = omega (arith, g.1) in
            let lj : j < length x.live = omega (arith, g.1) in
            x.distinct i j lt lj (same_picks x.moment (get_or x.live i []) (get_or x.live j []) (x.all_live i li) (x.all_live j lj) (sym (g.2 i li).1 ∙ e ∙ (g.2 j lj).1));
        all_live = λ i lt. (g.2 i (omega (arith, g.1))).0;
      }

-- A CLAUSE
module _ (P : Source) (D : Parameters) (signatures : List Signature) (clause : Unresolved_clause) (steps : List Step) (vars limit : ℕ) (own : VariablesBelow vars (steps_of clause)) (are : AreTies P D signatures steps (tied P D (steps_of clause) vars [])) where
  abbrev clause_ties : List Tie
  clause_ties = tied P D (steps_of clause) vars []

  too_many : Exceeds signatures steps limit → TooMany P D limit clause
  too_many x =
      let m = many_of P D signatures (steps_of clause) steps vars own are limit x in
      record { moment = m.moment; live = m.live; many = m.many; distinct = m.distinct; all_live = m.all_live }

  exceeds : TooMany P D limit clause → Exceeds signatures steps limit
  exceeds m = exceeds_of P D signatures (steps_of clause) steps vars own are limit (record { moment = m.moment; live = m.live; many = m.many; distinct = m.distinct; all_live = m.all_live })

  resolution : (picks : List Candidate) → ClauseResolves P D clause picks → (cs : List ℕ) × Resolves signatures steps cs × (picks ≡ picks_of clause_ties cs)
  resolution picks h = resolves_of P D signatures (steps_of clause) steps vars own are picks h

  clause_resolves : (cs : List ℕ) → Resolves signatures steps cs → ClauseResolves P D clause (picks_of clause_ties cs)
  clause_resolves cs h = of_resolves P D signatures (steps_of clause) steps vars own are cs h

  pub ordered : (v w : List ℕ) → Resolves signatures steps v → Resolves signatures steps w → EarlierChoice v w → Earlier (names_of (steps_of clause)) (picks_of clause_ties v) (picks_of clause_ties w)
  ordered v w hv hw e =
      picks_in_order P D (steps_of clause) vars [] v w
      (live_in_range P D signatures (steps_of clause) steps vars own are (length steps) v hv)
      (live_in_range P D signatures (steps_of clause) steps vars own are (length steps) w hw)
      e

  others : (v w cs : List ℕ) (picks : List Candidate) → Resolves signatures steps w → Resolves signatures steps cs → picks ≡ picks_of clause_ties cs → (cs ≡ v) ⊎ ((cs ≡ w) ⊎ EarlierChoice w cs) → (picks ≡ picks_of clause_ties v) ⊎ ((picks ≡ picks_of clause_ties w) ⊎ Earlier (names_of (steps_of clause)) (picks_of clause_ties w) picks)
  others v w cs picks hw hc e which = elim which [
    | inl same ↦ inl (e ∙ ap (picks_of clause_ties) same)
    | inr more ↦ elim more [
      | inl same ↦ inr (inl (e ∙ ap (picks_of clause_ties) same))
      | inr later ↦
          let Q : List Candidate → Type 0 = λ ps. Earlier (names_of (steps_of clause)) (picks_of clause_ties w) ps in
          inr (inr (subst Q (sym e) (ordered w cs hw hc later)))
    ]
  ]

  are_types : (cs : List ℕ) (types : List Written) → Resolves signatures steps cs → MostGeneral signatures steps (vars + made_by (steps_of clause)) cs types → AreTypes P D (steps_of clause) vars (picks_of clause_ties cs) types
  are_types cs types r m = record {
    as_many = m.as_many;
    general = λ τ trace h. general_types P D signatures (steps_of clause) steps vars own are cs types r m τ trace h;
    typed = λ σ. typed_so P D signatures (steps_of clause) steps vars own are cs types r m σ;
  }

  pub search_decides : (outcome : Outcome) → OutcomeSays signatures steps (vars + made_by (steps_of clause)) limit outcome → ClauseSays P D clause limit vars outcome
  search_decides O.None h = (
    (λ picks r. let c = resolution picks r in h.0 c.0 c.1),
    (λ m. h.1 (exceeds m)),
  )
  search_decides (O.One v types) h = (
    record {
      picks = picks_of clause_ties v.items;
      resolves = clause_resolves v.items h.0;
      alone = λ picks r. let c = resolution picks r in c.2 ∙ ap (picks_of clause_ties) (h.1 c.0 c.1);
    },
    refl,
    are_types v.items types.items h.0 h.2,
    (λ m. h.3 (exceeds m)),
  )
  search_decides (O.Two v w) h = (
    record {
      one = clause_resolves v.items h.0;
      two = clause_resolves w.items h.1;
      in_order = ordered v.items w.items h.0 h.1 h.2;
      others = λ picks r. let c = resolution picks r in others v.items w.items c.0 picks h.1 c.1 c.2 (h.3 c.0 c.1);
    },
    (λ m. h.4 (exceeds m)),
  )
  search_decides O.TooMany h = too_many h
