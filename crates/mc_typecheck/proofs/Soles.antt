-- Clauses in which each step has one meaning, whose types are known: their one resolution.
use Rattle.std.proofs.Common.{◌≡◌, ℕ, zero, suc, ◌+◌, ◌<◌, List, [], ◌∷◌, ◌++◌, length, get_or, map, take, drop, sym, ◌∙◌, ap, ap₂, refl, subst, inl, inr, arith}
use Rattle.std.specs.Prelude.{replicate}
use Rattle.std.proofs.lemmas.List.{get_or_default}
use Rattle.mc_program.specs.Programs.{TypeTerm, variable_type, Source}
use Rattle.mc_accepted.specs.ProperTypes.{Parameters}
use Rattle.mc_accepted.specs.Resolving.{Step, Live, Unresolved_clause, steps_of}
use Rattle.mc_source.specs.declared.name.Candidate.{Candidate}
use Rattle.mc_types.specs.declared.written_types.Written.{Written, Free}
use Rattle.laws_made_types.specs.Traced.{Traces}
use Rattle.laws_made_types.proofs.Tracing.{has_trace, goes_through}
use Rattle.mc_typecheck.specs.Ties.{of_equation, Tie, declared, tied, ties_in, made_by, pick_of, picks_of}
use Rattle.mc_typecheck.specs.Searched.{VariablesBelow}
use Rattle.mc_typecheck.specs.WrittenTypes.{type_written, AreTypes}
use Rattle.mc_typecheck.specs.Outcomes.{IsOnly}
use Rattle.mc_typecheck.specs.Walked.{after_all, start}
use Rattle.mc_typecheck.specs.NamedWalks.{Suits, known, Solves, EachSole, first_picks, EachSuited, AreKnown, IsNamedAt}
use Rattle.mc_typecheck.specs.declared.named.NamedWalk.{NamedWalk}
use Rattle.mc_typecheck.proofs.WalkingLemmas.{AllSuited, types_from, types_are, types_many, written_trace, traces_of, tied_by}
use Rattle.mc_typecheck.proofs.Moments.{variables_taken, traced_long, tied_taken}
use Rattle.mc_typecheck.proofs.Stepping.{after_ties, after_next}

-- the first meaning of each tie
abbrev firsts : List Tie → List ℕ
firsts ties = replicate (length ties) 0

firsts_picked : (ties : List Tie) → picks_of ties (firsts ties) ≡ first_picks ties
firsts_picked [] = refl
firsts_picked (t ∷ ties) = ap (λ cs. pick_of (get_or t.meanings 0 of_equation) ++ cs) (firsts_picked ties)

sole_taken : (k : ℕ) (ties : List Tie) → EachSole ties → EachSole (take k ties)
sole_taken zero ties h = tt
sole_taken (suc k) [] h = tt
sole_taken (suc k) (t ∷ ties) h = (h.0, sole_taken k ties h.1)

module _ (P : Source) (D : Parameters) (τ : ℕ → TypeTerm) where
  firsts_suited : (ties : List Tie) → EachSole ties → EachSuited P D τ ties → AllSuited P D τ ties (firsts ties)
  firsts_suited [] sole h = tt
  firsts_suited (t ∷ ties) sole h = (omega (arith, sole.0), h.0, firsts_suited ties sole.1 h.1)

  suited_firsts : (ties : List Tie) (cs : List ℕ) → EachSole ties → AllSuited P D τ ties cs → (cs ≡ firsts ties) × EachSuited P D τ ties
  suited_firsts [] [] sole h = (refl, tt)
  suited_firsts [] (c ∷ cs) sole h = absurd h
  suited_firsts (t ∷ ties) [] sole h = absurd h
  suited_firsts (t ∷ ties) (c ∷ cs) sole h =
      let first : c ≡ 0 = omega (arith, h.0, sole.0) in
      let more = suited_firsts ties cs sole.1 h.2 in
      let Q : ℕ → Type 0 = λ k. Suits (map τ t.places) (declared P D (get_or t.meanings k of_equation)) in
      (ap₂ (λ x xs. x ∷ xs) first more.0, (subst Q first h.1, more.1))

-- what is live at any moment of such a walk
only_live : (P : Source) (D : Parameters) (vars : ℕ) (walk : List Step) → VariablesBelow vars walk → EachSole (tied P D walk vars []) → (picks : List Candidate) → Live P D walk picks → picks ≡ first_picks (tied P D walk vars [])
only_live P D vars walk own sole picks h =
    let τ = h.0 in
    let ties = tied P D walk vars [] in
    let traced = has_trace P D τ walk [] picks h.1 in
    let r = tied_by P D vars τ walk τ vars [] picks traced.0 tt own (omega arith) (λ v lt. refl) traced.1 in
    r.picked ∙ ap (picks_of ties) (suited_firsts P D r.types ties r.choices sole r.suited).0 ∙ firsts_picked ties

module _ (P : Source) (D : Parameters) (walk : List Step) (vars : ℕ) (own : VariablesBelow vars walk) (types : List Written) (so : AreKnown P D types (tied P D walk vars [])) (as_many : length types ≡ vars + made_by walk) where
  abbrev ties : List Tie
  ties = tied P D walk vars []

  known_at : (i : ℕ) (d : Written) → i < length types → known types i ≡ get_or types i d
  known_at i d lt = get_or_default types i (Free i) d lt

  -- what is known, with types for the free places
  abbrev filled : (ℕ → TypeTerm) → ℕ → TypeTerm
  filled σ i = type_written σ (known types i)

  solved : (σ : ℕ → TypeTerm) → Solves (filled σ) types
  solved σ i = elim (so.own i) [
    | inl e ↦ let Q : Written → Type 0 = λ w. filled σ i ≡ type_written (filled σ) w in subst Q (sym e) refl
    | inr h ↦ ap (type_written σ) h.1 ∙ sym (ap (type_written (filled σ)) h.1)
  ]

  pub filled_trace : (σ : ℕ → TypeTerm) → Traces P D (filled σ) walk [] (first_picks ties) (map (type_written σ) (drop vars types))
  filled_trace σ =
      let τ = filled σ in
      let trace = types_from τ vars (made_by walk) in
      let suited = firsts_suited P D τ ties so.sole ((so.means τ).0 (solved σ)) in
      let at : (i : ℕ) (d : Written) → i < length types → τ i ≡ type_written σ (get_or types i d) = λ i d lt. ap (type_written σ) (known_at i d lt) in
      let is : trace ≡ map (type_written σ) (drop vars types) = written_trace τ σ types vars trace (types_are τ vars (made_by walk)) (omega (arith, as_many, types_many τ vars (made_by walk))) at in
      let Q : List Candidate → List TypeTerm → Type 0 = λ cs ts. Traces P D τ walk [] cs ts in
      subst (Q (first_picks ties)) is (subst (λ cs. Q cs trace) (firsts_picked ties) (traces_of P D τ walk vars [] (firsts ties) suited))

  pub are_types : AreTypes P D walk vars (first_picks ties) types
  are_types = record {
    as_many = as_many;
    general = λ τ trace h.
        let r = tied_by P D vars τ walk τ vars [] (first_picks ties) trace tt own (omega arith) (λ v lt. refl) h in
        let solves = (so.means r.types).1 (suited_firsts P D r.types ties r.choices so.sole r.suited).1 in
        let at : (i : ℕ) (d : Written) → i < length types → r.types i ≡ type_written r.types (get_or types i d) = λ i d lt. solves i ∙ ap (type_written r.types) (known_at i d lt) in (
          r.types,
          (λ v d lt. sym (r.before v lt) ∙ at v d (omega (arith, lt, as_many))),
          written_trace r.types r.types types vars trace r.traced (omega (arith, as_many, traced_long P D τ walk [] (first_picks ties) trace h)) at,
        );
    typed = λ σ. (
      filled σ,
      filled_trace σ,
      (λ v d lt. ap (type_written σ) (known_at v d (omega (arith, lt, as_many)))),
    );
  }

-- A CLAUSE
pub named_only : (P : Source) (D : Parameters) (clause : Unresolved_clause) (limit vars : ℕ) (w : NamedWalk) → 0 < limit → VariablesBelow vars (steps_of clause) → IsNamedAt P D w (after_all P D (steps_of clause) (start vars)) → IsOnly P D clause limit vars w.picks.items w.types.items
named_only P D clause limit vars w some own at =
    let walk = steps_of clause in
    let ties = tied P D walk vars [] in
    let types = w.types.items in
    let Q : List Tie → Type 0 = λ ts. AreKnown P D types ts in
    let so = subst Q (after_ties P D walk (start vars)) at.types in
    let as_many : length types ≡ vars + made_by walk = at.next ∙ after_next P D walk (start vars) in
    let picks : w.picks.items ≡ first_picks ties = at.picks ∙ ap first_picks (after_ties P D walk (start vars)) in
    let R : List Candidate → Type 0 = λ cs. IsOnly P D clause limit vars cs types in
    let σ : ℕ → TypeTerm = λ v. variable_type v in
    let trace = map (type_written σ) (drop vars types) in
    let moment : (m : ℕ) (cs : List Candidate) → Live P D (take m walk) cs → cs ≡ first_picks (tied P D (take m walk) vars []) =
    λ m cs h. only_live P D vars (take m walk) (variables_taken vars m walk own)
    (subst EachSole (sym (tied_taken P D m walk vars [])) (sole_taken (ties_in (take m walk)) ties so.sole)) cs h in
    subst R (sym picks) (
      record {
        picks = first_picks ties;
        resolves = (filled P D walk vars own types so as_many σ, goes_through P D _ walk [] (first_picks ties) trace (filled_trace P D walk vars own types so as_many σ));
        alone = λ others h. only_live P D vars walk own so.sole others h;
      },
      refl,
      are_types P D walk vars own types so as_many,
      (λ m. m.distinct 0 1 (omega arith) (omega (arith, m.many, some)) (
          moment m.moment (get_or m.live 0 []) (m.all_live 0 (omega (arith, m.many)))
          ∙ sym (moment m.moment (get_or m.live 1 []) (m.all_live 1 (omega (arith, m.many, some)))))),
    )
