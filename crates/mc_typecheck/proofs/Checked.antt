-- What is answered of a clause.
use Rattle.std.proofs.Common.{◌≡◌, ℕ, zero, suc, ◌+◌, ◌<◌, ◌≤◌, Option, Some, None, Bool, true, false, List, [], ◌∷◌, ◌++◌, map, drop, length, get_or, Vec, Global, refl, sym, ap, ap₂, subst, ◌∙◌, arith}
use Rattle.std.specs.Prelude.{slice_get, replicate, Ok, Err}
use Rattle.std.proofs.lemmas.List.{drop-map}
use Rattle.mc_program.specs.Programs.{TypeTerm, variable_type, ClauseForm, Source}
use Rattle.mc_program.specs.PlainPrograms.{plain_type, plain_clause}
use Rattle.mc_program.specs.declared.program.Resolved.{Resolved}
use Rattle.mc_accepted.specs.ProperTypes.{Parameters}
use Rattle.mc_accepted.specs.Resolving.{Step, Unresolved_clause, terms_steps, goal_steps, steps_of, resolved, FirstTwo, close_head, assignments_limit, count}
use Rattle.mc_accepted.specs.MostGeneral.{rigid_count, generalised, type_at, MostGeneral}
use Rattle.mc_source.specs.declared.name.Candidate.{Candidate}
use Rattle.mc_types.specs.declared.signature.Signature.{Signature}
use Rattle.mc_types.specs.declared.outcome.Outcome.{Outcome}
use Rattle.mc_types.specs.declared.outcome.Outcome.TheVariants as O
use Rattle.mc_types.specs.declared.written_types.Written.{Written, Free}
use Rattle.mc_typecheck.specs.Ties.{of_head, declared, tied, picks_of, Declared}
use Rattle.mc_typecheck.specs.Searched.{VariablesBelow, plain_signature}
use Rattle.mc_typecheck.specs.WrittenTypes.{type_written, AreTypes}
use Rattle.mc_typecheck.specs.Outcomes.{IsOnly, ClauseSays}
use Rattle.mc_typecheck.specs.Walked.{Stand, IsAt, WasWalked, Shows, ShowsAll, after_all, start, entry}
use Rattle.mc_typecheck.specs.declared.table.Signatures.{Signatures}
use Rattle.mc_typecheck.specs.declared.walk.Walk.{Walk}
use Rattle.mc_unresolved.specs.Unresolved.{plain_unresolved_clause}
use Rattle.mc_unresolved.specs.Steps.{plain_walk_step}
use Rattle.mc_unresolved.specs.declared.clause.UnresolvedClause.{UnresolvedClause}
use Rattle.mc_unresolved.specs.declared.steps.WalkStep.{WalkStep}
use Rattle.laws_made_types.specs.Makes.{makes, kept}
use Rattle.laws_made_types.specs.MadeTypes.{AreVariableTypes}
use Rattle.laws_made_types.proofs.Generals.{types_are_general}
use Rattle.mc_typecheck.specs.VariableTypes.{ArePlain}
use Rattle.mc_typecheck.specs.code.Marking.{first_marking, after_all as all_marked}
use Rattle.mc_typecheck.specs.Fitting.{IsSomeTable, clause_fits}
use Rattle.mc_typecheck.specs.Checked.{Answers}
use Rattle.mc_typecheck.specs.code.Made.{IsMade}
use Rattle.mc_typecheck.proofs.ProperVariables.{are_proper}
use Rattle.mc_typecheck.proofs.Marking.{clause_marked}
use Rattle.mc_typecheck.proofs.WhatFits.{below_of, are_shown}
use Rattle.mc_typecheck.specs.declared.checking.TypeFault.{TypeFault}
use Rattle.mc_typecheck.specs.declared.checking.TypeFault.TheVariants as F

-- THE HEAD

second_shown : (P : Source) (D : Parameters) (t : Signatures) (a b : List Step) → ShowsAll P D t (a ++ b) → ShowsAll P D t b
second_shown P D t [] b h = h
second_shown P D t (s ∷ a) b h = second_shown P D t a b h.1

pub head_shown : (P : Source) (D : Parameters) (t : Signatures) (clause : UnresolvedClause) → ShowsAll P D t (steps_of (plain_unresolved_clause clause)) → Shows P D t (of_head clause.pred)
head_shown P D t clause h =
    let c = plain_unresolved_clause clause in
    (second_shown P D t (terms_steps c.head) (close_head c.pred (count c.head) ∷ goal_steps c.body) h).0

mapped_at : {A B : Type 0} (f : A → B) (xs : List A) (k : ℕ) (d : A) → k < length xs → slice_get (map f xs) k ≡ Some (f (get_or xs k d))
mapped_at f [] k d lt = let none : ⊥ = omega arith in absurd none
mapped_at f (x ∷ xs) zero d lt = refl
mapped_at f (x ∷ xs) (suc k) d lt = mapped_at f xs k d (omega arith)

abbrev held : Option Declared → Declared → Declared
held (Some x) d = x
held None d = d

same_declared : (a b : Declared) → Some a ≡ Some b → a ≡ b
same_declared a b e = ap (λ o. held o a) e

abbrev number_in : Option ℕ → ℕ
number_in (Some n) = n
number_in None = 0

pub same_number : (a b : ℕ) → Some a ≡ Some b → a ≡ b
same_number a b e = ap number_in e

pub head_counted : (P : Source) (D : Parameters) (t : Signatures) (pred place number : ℕ) (s d : Signature) → Shows P D t (of_head pred) → place ≡ 4 + (t.symbols + (t.preds + pred)) → place < length t.all.items → s ≡ get_or t.all.items place d → number ≡ rigid_count (map plain_type s.types.items) → number ≡ rigid_count (P.preds pred).types
head_counted P D t pred place number s d shows at lt is counted =
    let here : Some (plain_signature s) ≡ Some (declared P D (of_head pred)) =
    ap (λ (x : Signature). Some (plain_signature x)) is ∙ sym (mapped_at plain_signature t.all.items place d lt) ∙ ap (entry t) at ∙ shows.1 in
    counted ∙ ap (λ (x : Declared). rigid_count x.types) (same_declared (plain_signature s) (declared P D (of_head pred)) here)

-- THE TYPES

map_as : {A B : Type 0} (f : A → TypeTerm) (g : B → TypeTerm) (a : A) (b : ℕ → B) (xs : List A) (ys : List B) → length ys ≡ length xs → ((v : ℕ) → v < length xs → f (get_or xs v a) ≡ g (get_or ys v (b v))) → map f xs ≡ map g ys
map_as f g a b [] [] long h = refl
map_as f g a b [] (y ∷ ys) long h = absurd (omega (arith, long))
map_as f g a b (x ∷ xs) [] long h = absurd (omega (arith, long))
map_as f g a b (x ∷ xs) (y ∷ ys) long h = ap₂ (λ t ts. t ∷ ts) (h 0 (omega arith)) (map_as f g a (λ v. b (suc v)) xs ys (omega (arith, long)) (λ v lt. h (suc v) (omega (arith, lt))))

kept-mapped : (f : Written → TypeTerm) (flags : List Bool) (ws : List Written) → map f (kept flags ws) ≡ kept flags (map f ws)
kept-mapped f [] ws = refl
kept-mapped f (b ∷ bs) [] = refl
kept-mapped f (true ∷ bs) (w ∷ ws) = ap (λ us. f w ∷ us) (kept-mapped f bs ws)
kept-mapped f (false ∷ bs) (w ∷ ws) = kept-mapped f bs ws

-- the flags of a clause's own variables are set
module _ (bs : List Bool) (d : Written) where
  own_at : (n v : ℕ) (ws : List Written) → n ≤ length ws → v < n → get_or (kept (replicate n true ++ bs) ws) v d ≡ get_or ws v d
  own_at zero v ws le lt = absurd (omega (arith, lt))
  own_at (suc n) v [] le lt = absurd (omega (arith, le))
  own_at (suc n) zero (w ∷ ws) le lt = refl
  own_at (suc n) (suc v) (w ∷ ws) le lt = own_at n v ws (omega (arith, le)) (omega (arith, lt))

  behind_own : (n : ℕ) (ws : List Written) → n ≤ length ws → drop n (kept (replicate n true ++ bs) ws) ≡ kept bs (drop n ws)
  behind_own zero ws le = refl
  behind_own (suc n) [] le = absurd (omega (arith, le))
  behind_own (suc n) (w ∷ ws) le = behind_own n ws (omega (arith, le))

  own_many : (n : ℕ) (ws : List Written) → n ≤ length ws → n ≤ length (kept (replicate n true ++ bs) ws)
  own_many zero ws le = omega arith
  own_many (suc n) [] le = absurd (omega (arith, le))
  own_many (suc n) (w ∷ ws) le = omega (arith, own_many n ws (omega (arith, le)))

pub variable_types : (P : Source) (D : Parameters) (clause : Unresolved_clause) (picks : List Candidate) (vars : ℕ) (ws : List Written) (ts : List TypeTerm) → AreTypes P D (steps_of clause) vars picks ws → ArePlain (rigid_count (P.preds clause.pred).types) (kept (replicate vars true ++ makes clause) ws) ts → AreVariableTypes P D clause picks vars ts
variable_types P D clause picks vars ws ts are plain =
    let r = rigid_count (P.preds clause.pred).types in
    let flags = makes clause in
    let long : vars ≤ length ws = omega (arith, are.as_many) in
    let many = plain.as_many in
    let d = Free 0 in
    let chosen = kept (replicate vars true ++ flags) ws in
    let low : vars ≤ length chosen = own_many flags d vars ws long in
    let made : (σ τ : ℕ → TypeTerm) → ((v : ℕ) (e : Written) → v < length chosen → type_written σ (get_or chosen v e) ≡ generalised r τ (type_at ts v)) → kept flags (map (type_written σ) (drop vars ws)) ≡ map (generalised r τ) (drop vars ts) =
    λ σ τ same.
    let all : map (type_written σ) chosen ≡ map (generalised r τ) ts = map_as (type_written σ) (generalised r τ) d variable_type chosen ts many (λ v lt. same v d lt) in
    sym (kept-mapped (type_written σ) flags (drop vars ws))
    ∙ ap (map (type_written σ)) (sym (behind_own flags d vars ws long))
    ∙ sym (drop-map (type_written σ) vars chosen) ∙ ap (drop vars) all ∙ drop-map (generalised r τ) vars ts in
    record {
      own = omega (arith, low, many);
      general = λ τ trace h.
          let g = are.general τ trace h in
          let p = plain.general g.0 in (
            p.0,
            (λ v lt. g.1 v d lt ∙ ap (type_written g.0) (sym (own_at flags d vars v ws long lt)) ∙ p.1 v d (omega (arith, low, lt))),
            ap (kept flags) g.2 ∙ made g.0 p.0 p.1,
          );
      typed = λ σ.
          let p = plain.typed σ in
          let g = are.typed p.0 in (
            g.0,
            map (type_written p.0) (drop vars ws),
            g.1,
            (λ v lt. g.2 v d lt ∙ ap (type_written p.0) (sym (own_at flags d vars v ws long lt)) ∙ p.1 v d (omega (arith, low, lt))),
            made p.0 σ p.1,
          );
      numbered = plain.numbered;
    }

-- THE WALK

module _ (t : Signatures) (clause : UnresolvedClause) (steps : List WalkStep) (are : map plain_walk_step steps ≡ steps_of (plain_unresolved_clause clause)) (vars : ℕ) (all : vars ≡ length clause.names) (fits : clause_fits t clause ≡ true) where
  abbrev whole : List Step
  whole = steps_of (plain_unresolved_clause clause)

  pub own_below : VariablesBelow vars whole
  own_below = let Q : ℕ → Type 0 = λ n. VariablesBelow n whole in subst Q (sym all) (below_of t (length clause.names) whole fits)

  -- where any walk of these steps stands
  pub walked_at : (At : Source → Parameters → Stand → Type 0) → ((P : Source) (D : Parameters) → ShowsAll P D t (map plain_walk_step steps) → At P D (after_all P D (map plain_walk_step steps) (start vars))) → (P : Source) (D : Parameters) → ShowsAll P D t whole → At P D (after_all P D whole (start vars))
  walked_at At walked P D shows =
      let Q : List Step → Type 0 = λ xs. At P D (after_all P D xs (start vars)) in
      let R : List Step → Type 0 = λ xs. ShowsAll P D t xs in
      subst Q are (walked P D (subst R (sym are) shows))

  module _ (walk : Walk) (walked : (P : Source) (D : Parameters) → ShowsAll P D t (map plain_walk_step steps) → IsAt P D t walk (after_all P D (map plain_walk_step steps) (start vars))) where
    stands : (P : Source) (D : Parameters) → ShowsAll P D t whole → IsAt P D t walk (after_all P D whole (start vars))
    stands = walked_at (λ P D s. IsAt P D t walk s) walked

    pub was_walked : IsSomeTable t → WasWalked t walk
    was_walked table =
        let s = are_shown t (length clause.names) whole table fits in
        record {
          vars = vars;
          source = s.source;
          parameters = s.parameters;
          steps = whole;
          own = own_below;
          stands = stands s.source s.parameters s.shows;
        }

    -- what a search over the walk says of the clause
    pub searched : (limit : ℕ) (outcome : Outcome) → ((P : Source) (D : Parameters) (clause : Unresolved_clause) (vars : ℕ) → VariablesBelow vars (steps_of clause) → IsAt P D t walk (after_all P D (steps_of clause) (start vars)) → ClauseSays P D clause limit vars outcome) → (P : Source) (D : Parameters) → ShowsAll P D t whole → ClauseSays P D (plain_unresolved_clause clause) limit vars outcome
    searched limit outcome says P D shows = says P D (plain_unresolved_clause clause) vars own_below (stands P D shows)

pub shown_steps : (P : Source) (D : Parameters) (t : Signatures) (clause : UnresolvedClause) (steps : List WalkStep) → map plain_walk_step steps ≡ steps_of (plain_unresolved_clause clause) → ShowsAll P D t (steps_of (plain_unresolved_clause clause)) → ShowsAll P D t (map plain_walk_step steps)
shown_steps P D t clause steps are shows = let Q : List Step → Type 0 = λ xs. ShowsAll P D t xs in subst Q (sym are) shows

-- THE ANSWERS

module _ (P : Source) (D : Parameters) (clause : UnresolvedClause) (steps : List WalkStep) (are : map plain_walk_step steps ≡ steps_of (plain_unresolved_clause clause)) (vars : ℕ) (all : vars ≡ length clause.names) where
  abbrev ties_for : (n : ℕ) → List ℕ → List Candidate
  ties_for n choices = picks_of (tied P D (steps_of (plain_unresolved_clause clause)) n []) choices

  same_picks : (choices : List ℕ) (n : ℕ) → n ≡ vars → picks_of (tied P D (map plain_walk_step steps) n []) choices ≡ ties_for vars choices
  same_picks choices n e = ap₂ (λ (xs : List Step) (m : ℕ). picks_of (tied P D xs m []) choices) are e

  pub answered_two : (v w : Vec ℕ Global) (first second : List Candidate) → first ≡ picks_of (tied P D (map plain_walk_step steps) vars []) v.items → second ≡ picks_of (tied P D (map plain_walk_step steps) vars []) w.items → ClauseSays P D (plain_unresolved_clause clause) assignments_limit vars (O.Two v w) → Answers P D clause (Err (F.Two first second))
  answered_two v w first second e1 e2 h =
      let Q : List Candidate → List Candidate → Type 0 = λ a b. FirstTwo P D (plain_unresolved_clause clause) a b in
      (subst (λ a. Q a second) (sym (e1 ∙ same_picks v.items vars refl)) (subst (λ b. Q (ties_for vars v.items) b) (sym (e2 ∙ same_picks w.items vars refl)) h.0), h.1)

  pub answered_one : (picks : List Candidate) (types : List Written) (made : Resolved) → IsMade P clause (map plain_walk_step steps) picks types made → IsOnly P D (plain_unresolved_clause clause) assignments_limit vars picks types → Answers P D clause (Ok made)
  answered_one picks types made m h =
      let w = h.0 in
      let plain_clause' = plain_unresolved_clause clause in
      let n = length clause.names in
      let ts = map plain_type made.var_types in
      let Q : ℕ → Type 0 = λ k. AreTypes P D (steps_of plain_clause') k w.picks types in
      let S : List Bool → Type 0 = λ bs. ArePlain (rigid_count (P.preds clause.pred).types) (kept bs types) ts in
      let flags : (all_marked (map plain_walk_step steps) (first_marking n)).flags ≡ replicate n true ++ makes plain_clause' = ap (λ (xs : List Step). (all_marked xs (first_marking n)).flags) are ∙ clause_marked plain_clause' n in
      let types_are = variable_types P D plain_clause' w.picks n types ts (subst Q all h.2) (subst S flags m.are_plain) in
      let form : plain_clause made.clause ≡ resolved plain_clause' w.picks = m.form ∙ ap (resolved plain_clause') (sym h.1) in (
        record {
          typed = w;
          form = form;
          vars = m.vars;
          place = m.place;
          types = types_are;
          most_general = λ known values named.
              let R : ClauseForm → ℕ → Type 0 = λ c k. MostGeneral P D (P.preds clause.pred).types (record { clause = c; variables = k; types = ts; names = made.var_names }) in
              subst (λ c. R c made.clause.vars) (sym form) (subst (λ k. R (resolved plain_clause' w.picks) k) (sym m.vars) (types_are_general P D plain_clause' w.picks n ts made.var_names known values named types_are));
          proper = are_proper P D plain_clause' w.picks n ts types_are;
          names = m.names;
        },
        h.3,
      )

  pub answered_choices : (v : Vec ℕ Global) (types : Vec Written Global) (picks : List Candidate) (made : Resolved) → picks ≡ picks_of (tied P D (map plain_walk_step steps) vars []) v.items → IsMade P clause (map plain_walk_step steps) picks types.items made → ClauseSays P D (plain_unresolved_clause clause) assignments_limit vars (O.One v types) → Answers P D clause (Ok made)
  answered_choices v types picks made e m h =
      let Q : List Candidate → Type 0 = λ cs. IsOnly P D (plain_unresolved_clause clause) assignments_limit vars cs types.items in
      answered_one picks types.items made m (subst Q (sym (e ∙ same_picks v.items vars refl)) h)

pub answered_memory : (P : Source) (D : Parameters) (clause : UnresolvedClause) (e : TypeFault) → e ≡ F.Memory → Answers P D clause (Err e)
answered_memory P D clause e is = let Q : TypeFault → Type 0 = λ x. Answers P D clause (Err x) in subst Q (sym is) tt
