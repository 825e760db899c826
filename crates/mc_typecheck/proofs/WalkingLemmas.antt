-- What types a walk types its ties, and the other way round.
use Rattle.std.proofs.Common.{◌≡◌, ◌≢◌, ℕ, zero, suc, ◌+◌, ◌-◌, ◌<◌, ◌≤◌, Bool, true, cond, eqb, List, [], ◌∷◌, ◌++◌, length, take, drop, get_or, map, refl, sym, ap, ap₂, subst, ◌∙◌, inl, inr, arith}
use Rattle.std.specs.Prelude.{nat_lt, Contains}
use Rattle.std.proofs.lemmas.Bool.{cases_lt, lt-ltb, le-ltb, eq-eqb, ne_eqb}
use Rattle.std.proofs.lemmas.List.{map_push, drop-map, take-map, length-map, drop_all}
use Rattle.std.proofs.Math.Seq.{drop-cons}
use Rattle.mc_program.specs.Programs.{TypeTerm, int_type, char_type, string_type, state_type, variable_type, union_type, TypeTerms, no_types, type_then, Source}
use Rattle.mc_model.specs.Types.{instance_of, instances_of}
use Rattle.mc_accepted.specs.ProperTypes.{Parameters}
use Rattle.mc_accepted.specs.Resolving.{Step, push_variable, push_number, push_text, choose, equate, call, close_head, signature, Takes, topmost as topmost_types, below as types_below}
use Rattle.mc_accepted.specs.MostGeneral.{variables_of, variables_of_all, variables_of_each, bound_of, rigid_count}
use Rattle.mc_types.specs.Substitutions.{under}
use Rattle.mc_source.specs.declared.name.Candidate.{Candidate}
use Rattle.mc_types.specs.declared.written_types.Written.{Written, Free}
use Rattle.mc_typecheck.specs.WrittenTypes.{type_written}
use Rattle.mc_typecheck.specs.Ties.{Meaning, of_name, of_number, of_text, of_equation, of_head, Tie, names_term, names_atom, topmost, below, declared, offered, sole, tied, made_by, pick_of, picks_of}
use Rattle.laws_made_types.specs.Traced.{Traces, HasTypes}
use Rattle.mc_typecheck.specs.Searched.{VariablesBelow}
use Rattle.mc_typecheck.specs.NamedWalks.{Suits}
use Rattle.mc_typecheck.proofs.Offers.{names_term_of, of_names_term, names_atom_of, of_names_atom, Offered, offered_at, offered_has, sole_at, sole_has}

-- TYPES WITH OTHER TYPES FOR THEIR VARIABLES

mutual
  itself : (t : TypeTerm) → instance_of variable_type t ≡ t
  itself int_type = refl
  itself char_type = refl
  itself string_type = refl
  itself state_type = refl
  itself (variable_type v) = refl
  itself (union_type u ts) = ap (union_type u) (all_itself ts)

  all_itself : (ts : TypeTerms) → instances_of variable_type ts ≡ ts
  all_itself no_types = refl
  all_itself (type_then t ts) = ap₂ (λ x xs. type_then x xs) (itself t) (all_itself ts)

-- all numbers of a list are below another
abbrev pub AllBelow : ℕ → List ℕ → Type 0
AllBelow n [] = Unit {0}
AllBelow n (v ∷ vs) = (v < n) × AllBelow n vs

pub below_more : (n m : ℕ) (vs : List ℕ) → n ≤ m → AllBelow n vs → AllBelow m vs
below_more n m [] le h = tt
below_more n m (v ∷ vs) le h = (omega (arith, h.0), below_more n m vs le h.1)

below_first : (n : ℕ) (xs ys : List ℕ) → AllBelow n (xs ++ ys) → AllBelow n xs
below_first n [] ys h = tt
below_first n (x ∷ xs) ys h = (h.0, below_first n xs ys h.1)

below_second : (n : ℕ) (xs ys : List ℕ) → AllBelow n (xs ++ ys) → AllBelow n ys
below_second n [] ys h = h
below_second n (x ∷ xs) ys h = below_second n xs ys h.1

pub below_join : (n : ℕ) (xs ys : List ℕ) → AllBelow n xs → AllBelow n ys → AllBelow n (xs ++ ys)
below_join n [] ys hx hy = hy
below_join n (x ∷ xs) ys hx hy = (hx.0, below_join n xs ys hx.1 hy)

pub below_take : (n k : ℕ) (xs : List ℕ) → AllBelow n xs → AllBelow n (take k xs)
below_take n zero xs h = tt
below_take n (suc k) [] h = tt
below_take n (suc k) (x ∷ xs) h = (h.0, below_take n k xs h.1)

pub below_drop : (n k : ℕ) (xs : List ℕ) → AllBelow n xs → AllBelow n (drop k xs)
below_drop n zero xs h = h
below_drop n (suc k) [] h = tt
below_drop n (suc k) (x ∷ xs) h = below_drop n k xs h.1

bound_step : (v : ℕ) (vs : List ℕ) → (v < bound_of (v ∷ vs)) × (bound_of vs ≤ bound_of (v ∷ vs))
bound_step v vs = elim (cases_lt v (bound_of vs)) [
  | inl lt ↦
      let e : bound_of (v ∷ vs) ≡ bound_of vs = ap (λ b. cond b (bound_of vs) (suc v)) (lt-ltb v (bound_of vs) lt) in
      (omega (arith, e, lt), omega (arith, e))
  | inr ge ↦
      let e : bound_of (v ∷ vs) ≡ suc v = ap (λ b. cond b (bound_of vs) (suc v)) (le-ltb v (bound_of vs) ge) in
      (omega (arith, e), omega (arith, e, ge))
]

bounded : (vs : List ℕ) → AllBelow (bound_of vs) vs
bounded [] = tt
bounded (v ∷ vs) = let b = bound_step v vs in (b.0, below_more (bound_of vs) (bound_of (v ∷ vs)) vs b.1 (bounded vs))

module _ (n : ℕ) (σ : ℕ → TypeTerm) where
  at_below : (v : ℕ) → v < n → cond (nat_lt v n) (σ v) (variable_type v) ≡ σ v
  at_below v lt = ap (λ b. cond b (σ v) (variable_type v)) (lt-ltb v n lt)

  mutual
    pub under_below : (t : TypeTerm) → AllBelow n (variables_of t) → under n σ t ≡ instance_of σ t
    under_below int_type h = refl
    under_below char_type h = refl
    under_below string_type h = refl
    under_below state_type h = refl
    under_below (variable_type v) h = at_below v h.0
    under_below (union_type u ts) h = ap (union_type u) (all_under_below ts h)

    all_under_below : (ts : TypeTerms) → AllBelow n (variables_of_all ts) → instances_of (λ v. cond (nat_lt v n) (σ v) (variable_type v)) ts ≡ instances_of σ ts
    all_under_below no_types h = refl
    all_under_below (type_then t ts) h =
        ap₂ (λ x xs. type_then x xs) (under_below t (below_first n (variables_of t) (variables_of_all ts) h)) (all_under_below ts (below_second n (variables_of t) (variables_of_all ts) h))

  each_under_below : (ts : List TypeTerm) → AllBelow n (variables_of_each ts) → map (under n σ) ts ≡ map (instance_of σ) ts
  each_under_below [] h = refl
  each_under_below (t ∷ ts) h =
      ap₂ (λ x xs. x ∷ xs) (under_below t (below_first n (variables_of t) (variables_of_each ts) h)) (each_under_below ts (below_second n (variables_of t) (variables_of_each ts) h))

none_below : (σ : ℕ → TypeTerm) (v : ℕ) → cond (nat_lt v 0) (σ v) (variable_type v) ≡ variable_type v
none_below σ v = ap (λ b. cond b (σ v) (variable_type v)) (le-ltb v 0 (omega arith))

mutual
  rigid_all : (σ : ℕ → TypeTerm) (t : TypeTerm) → under 0 σ t ≡ t
  rigid_all σ int_type = refl
  rigid_all σ char_type = refl
  rigid_all σ string_type = refl
  rigid_all σ state_type = refl
  rigid_all σ (variable_type v) = none_below σ v
  rigid_all σ (union_type u ts) = ap (union_type u) (all_rigid σ ts)

  all_rigid : (σ : ℕ → TypeTerm) (ts : TypeTerms) → instances_of (λ v. cond (nat_lt v 0) (σ v) (variable_type v)) ts ≡ ts
  all_rigid σ no_types = refl
  all_rigid σ (type_then t ts) = ap₂ (λ x xs. type_then x xs) (rigid_all σ t) (all_rigid σ ts)

each_rigid : (σ : ℕ → TypeTerm) (ts : List TypeTerm) → map (under 0 σ) ts ≡ ts
each_rigid σ [] = refl
each_rigid σ (t ∷ ts) = ap₂ (λ x xs. x ∷ xs) (rigid_all σ t) (each_rigid σ ts)

-- TYPES AT PLACES

abbrev first_type : List TypeTerm → TypeTerm
first_type [] = int_type
first_type (t ∷ ts) = t

types_long : (f : TypeTerm → TypeTerm) (g : ℕ → TypeTerm) (ts : List TypeTerm) (ps : List ℕ) → map f ts ≡ map g ps → length ts ≡ length ps
types_long f g ts ps e = sym (length-map ts f) ∙ ap length e ∙ length-map ps g

topmost_map : (τ : ℕ → TypeTerm) (n : ℕ) (stack : List ℕ) → topmost_types n (map τ stack) ≡ map τ (topmost n stack)
topmost_map τ n stack = ap (λ k. drop (k - n) (map τ stack)) (length-map stack τ) ∙ drop-map τ (length stack - n) stack

below_map : (τ : ℕ → TypeTerm) (n : ℕ) (stack : List ℕ) → types_below n (map τ stack) ≡ map τ (below n stack)
below_map τ n stack = ap (λ k. take (k - n) (map τ stack)) (length-map stack τ) ∙ take-map τ (length stack - n) stack

agree : (τ τ' : ℕ → TypeTerm) (n : ℕ) (ps : List ℕ) → AllBelow n ps → ((i : ℕ) → i < n → τ' i ≡ τ i) → map τ' ps ≡ map τ ps
agree τ τ' n [] b same = refl
agree τ τ' n (p ∷ ps) b same = ap₂ (λ x xs. x ∷ xs) (same p b.0) (agree τ τ' n ps b.1 same)

changed : (ℕ → TypeTerm) → ℕ → TypeTerm → ℕ → TypeTerm
changed τ n t i = cond (eqb i n) t (τ i)

changed_other : (τ : ℕ → TypeTerm) (n : ℕ) (t : TypeTerm) (i : ℕ) → i < n → changed τ n t i ≡ τ i
unfolding changed
changed_other τ n t i lt = let ne : i ≢ n = omega arith in ap (λ b. cond b t (τ i)) (ne_eqb i n ne)

changed_same : (τ : ℕ → TypeTerm) (n : ℕ) (t : TypeTerm) → changed τ n t n ≡ t
unfolding changed
changed_same τ n t = ap (λ b. cond b t (τ n)) (eq-eqb n n refl)

changed_stack : (τ : ℕ → TypeTerm) (n : ℕ) (t : TypeTerm) (ps : List ℕ) → AllBelow n ps → map τ ps ++ t ∷ [] ≡ map (changed τ n t) (ps ++ n ∷ [])
changed_stack τ n t ps b =
    sym (map_push (changed τ n t) ps n ∙ ap₂ (λ x xs. xs ++ x ∷ []) (changed_same τ n t) (agree τ (changed τ n t) n ps b (λ i lt. changed_other τ n t i lt)))

-- so many types, of the places from a number on
abbrev pub types_from : (ℕ → TypeTerm) → (next count : ℕ) → List TypeTerm
types_from τ next zero = []
types_from τ next (suc n) = τ next ∷ types_from τ (suc next) n

pub types_are : (τ : ℕ → TypeTerm) (next n : ℕ) → HasTypes τ next (types_from τ next n)
types_are τ next zero = tt
types_are τ next (suc n) = (refl, types_are τ (suc next) n)

pub types_many : (τ : ℕ → TypeTerm) (next n : ℕ) → length (types_from τ next n) ≡ n
types_many τ next zero = refl
types_many τ next (suc n) = ap suc (types_many τ (suc next) n)

-- the types of the occurrences are those that are written out at their places
pub written_trace : (T : ℕ → TypeTerm) (σ : ℕ → TypeTerm) (types : List Written) (n : ℕ) (trace : List TypeTerm) → HasTypes T n trace → n + length trace ≡ length types → ((i : ℕ) (d : Written) → i < length types → T i ≡ type_written σ (get_or types i d)) → trace ≡ map (type_written σ) (drop n types)
written_trace T σ types n [] has long is = ap (map (type_written σ)) (sym (drop_all n types (omega (arith, long))))
written_trace T σ types n (t ∷ trace) has long is =
    let d = Free 0 in
    let here : n < length types = omega (arith, long) in
    ap₂ (λ u us. u ∷ us) (sym has.0 ∙ is n d here) (written_trace T σ types (suc n) trace has.1 (omega (arith, long)) is)
    ∙ ap (map (type_written σ)) (sym (drop-cons types n d here))

first_traced : (T : ℕ → TypeTerm) (next : ℕ) (t : TypeTerm) (trace more : List TypeTerm) → trace ≡ t ∷ more → T next ≡ t → HasTypes T (suc next) more → HasTypes T next trace
first_traced T next t trace more e same h = subst (HasTypes T next) (sym e) (same, h)

module _ (P : Source) (D : Parameters) where
  -- choices for all ties type them
  abbrev pub AllSuited : (ℕ → TypeTerm) → List Tie → List ℕ → Type 0
  AllSuited τ [] [] = Unit {0}
  AllSuited τ [] (c ∷ cs) = ⊥
  AllSuited τ (tie ∷ ties) [] = ⊥
  AllSuited τ (tie ∷ ties) (c ∷ cs) =
      (c < length tie.meanings)
      × Suits (map τ tie.places) (declared P D (get_or tie.meanings c of_equation))
      × AllSuited τ ties cs

  abbrev At : (ℕ → TypeTerm) → List ℕ → Meaning → Type 0
  At τ places m = Suits (map τ places) (declared P D m)

  -- FROM THE TIES TO THE WALK

  sole_suits : (τ : ℕ → TypeTerm) (m : Meaning) (places : List ℕ) (c : ℕ) → c < length (sole P D m places).meanings → At τ places (get_or (sole P D m places).meanings c of_equation) → At τ places m
  sole_suits τ m places c lt h = let s = sole_at P D m places c lt in subst (At τ places) s.is h

  sole_picks : (m : Meaning) (places : List ℕ) (c : ℕ) (more : List Candidate) → c < length (sole P D m places).meanings → pick_of m ≡ [] → pick_of (get_or (sole P D m places).meanings c of_equation) ++ more ≡ more
  sole_picks m places c more lt none = let s = sole_at P D m places c lt in ap (λ x. pick_of x ++ more) s.is ∙ ap (λ x. x ++ more) none

  named_picks : (test : Candidate → Bool) (cs : List Candidate) (n j : ℕ) (more : List Candidate) (o : Offered P D test n [] cs j) → pick_of (get_or (offered P D test n [] cs) j of_equation) ++ more ≡ o.candidate ∷ more
  named_picks test cs n j more o = ap (λ x. pick_of x ++ more) o.is

  pub traces_of : (τ : ℕ → TypeTerm) (walk : List Step) (next : ℕ) (stack : List ℕ) (cs : List ℕ) → AllSuited τ (tied P D walk next stack) cs → Traces P D τ walk (map τ stack) (picks_of (tied P D walk next stack) cs) (types_from τ next (made_by walk))
  traces_of τ [] next stack [] h = (refl, refl)
  traces_of τ [] next stack (c ∷ cs) h = absurd h
  traces_of τ (push_variable v ∷ walk) next stack cs h =
      let Q : List TypeTerm → Type 0 = λ s. Traces P D τ walk s (picks_of (tied P D walk next (stack ++ v ∷ [])) cs) (types_from τ next (made_by walk)) in
      subst Q (map_push τ stack v) (traces_of τ walk next (stack ++ v ∷ []) cs h)
  traces_of τ (push_number ∷ walk) next stack [] h = absurd h
  traces_of τ (push_number ∷ walk) next stack (c ∷ cs) h =
      let more = picks_of (tied P D walk (suc next) (stack ++ next ∷ [])) cs in
      let trace = types_from τ (suc next) (made_by walk) in
      let fit = sole_suits τ of_number (next ∷ []) c h.0 h.1 in
      let Q : List TypeTerm → Type 0 = λ s. Traces P D τ walk s more trace in
      let R : List Candidate → Type 0 = λ ps. Traces P D τ (push_number ∷ walk) (map τ stack) ps (τ next ∷ trace) in
      let is : τ next ≡ int_type = sym (ap first_type fit.1) in
      let same : map τ (stack ++ next ∷ []) ≡ map τ stack ++ int_type ∷ [] = map_push τ stack next ∙ ap (λ t. map τ stack ++ t ∷ []) is in
      subst R (sym (sole_picks of_number (next ∷ []) c more h.0 refl))
      (trace, ap (λ t. t ∷ trace) is, subst Q same (traces_of τ walk (suc next) (stack ++ next ∷ []) cs h.2))
  traces_of τ (push_text ∷ walk) next stack [] h = absurd h
  traces_of τ (push_text ∷ walk) next stack (c ∷ cs) h =
      let more = picks_of (tied P D walk (suc next) (stack ++ next ∷ [])) cs in
      let trace = types_from τ (suc next) (made_by walk) in
      let fit = sole_suits τ of_text (next ∷ []) c h.0 h.1 in
      let Q : List TypeTerm → Type 0 = λ s. Traces P D τ walk s more trace in
      let R : List Candidate → Type 0 = λ ps. Traces P D τ (push_text ∷ walk) (map τ stack) ps (τ next ∷ trace) in
      let is : τ next ≡ string_type = sym (ap first_type fit.1) in
      let same : map τ (stack ++ next ∷ []) ≡ map τ stack ++ string_type ∷ [] = map_push τ stack next ∙ ap (λ t. map τ stack ++ t ∷ []) is in
      subst R (sym (sole_picks of_text (next ∷ []) c more h.0 refl))
      (trace, ap (λ t. t ∷ trace) is, subst Q same (traces_of τ walk (suc next) (stack ++ next ∷ []) cs h.2))
  traces_of τ (choose ds n ∷ walk) next stack [] h = absurd h
  traces_of τ (choose ds n ∷ walk) next stack (c ∷ cs) h =
      let places = topmost n stack ++ next ∷ [] in
      let more = picks_of (tied P D walk (suc next) (below n stack ++ next ∷ [])) cs in
      let o = offered_at P D names_term (length places) [] ds c h.0 in
      let fit = subst (At τ places) o.is h.1 in
      let types : map τ places ≡ topmost_types n (map τ stack) ++ τ next ∷ [] = map_push τ (topmost n stack) next ∙ ap (λ ts. ts ++ τ next ∷ []) (sym (topmost_map τ n stack)) in
      let rest : map τ (below n stack ++ next ∷ []) ≡ types_below n (map τ stack) ++ τ next ∷ [] = map_push τ (below n stack) next ∙ ap (λ ts. ts ++ τ next ∷ []) (sym (below_map τ n stack)) in
      let trace = types_from τ (suc next) (made_by walk) in
      let Q : List Candidate → Type 0 = λ ps. Traces P D τ (choose ds n ∷ walk) (map τ stack) ps (τ next ∷ trace) in
      let R : List TypeTerm → Type 0 = λ s. Traces P D τ walk s more trace in
      let T : List TypeTerm → Type 0 = λ ts. Takes P D o.candidate ts in
      let takes : Takes P D o.candidate (map τ places) = ((λ v. cond (nat_lt v (rigid_count (signature P D o.candidate))) (fit.0 v) (variable_type v)), fit.1) in
      subst Q (sym (named_picks names_term ds (length places) c more o))
      (o.contained, of_names_term o.candidate o.passing, τ next, trace, refl, subst T types takes, subst R rest (traces_of τ walk (suc next) (below n stack ++ next ∷ []) cs h.2))
  traces_of τ (equate ∷ walk) next stack [] h = absurd h
  traces_of τ (equate ∷ walk) next stack (c ∷ cs) h =
      let places = topmost 2 stack in
      let more = picks_of (tied P D walk next (below 2 stack)) cs in
      let fit = sole_suits τ of_equation places c h.0 h.1 in
      let Q : List Candidate → Type 0 = λ ps. Traces P D τ (equate ∷ walk) (map τ stack) ps (types_from τ next (made_by walk)) in
      let R : List TypeTerm → Type 0 = λ s. Traces P D τ walk s more (types_from τ next (made_by walk)) in
      subst Q (sym (sole_picks of_equation places c more h.0 refl))
      (fit.0 0, topmost_map τ 2 stack ∙ sym fit.1, subst R (sym (below_map τ 2 stack)) (traces_of τ walk next (below 2 stack) cs h.2))
  traces_of τ (call ds n ∷ walk) next stack [] h = absurd h
  traces_of τ (call ds n ∷ walk) next stack (c ∷ cs) h =
      let places = topmost n stack in
      let more = picks_of (tied P D walk next (below n stack)) cs in
      let o = offered_at P D names_atom (length places) [] ds c h.0 in
      let fit = subst (At τ places) o.is h.1 in
      let Q : List Candidate → Type 0 = λ ps. Traces P D τ (call ds n ∷ walk) (map τ stack) ps (types_from τ next (made_by walk)) in
      let R : List TypeTerm → Type 0 = λ s. Traces P D τ walk s more (types_from τ next (made_by walk)) in
      let T : List TypeTerm → Type 0 = λ ts. Takes P D o.candidate ts in
      let takes : Takes P D o.candidate (map τ places) = ((λ v. cond (nat_lt v (rigid_count (signature P D o.candidate))) (fit.0 v) (variable_type v)), fit.1) in
      subst Q (sym (named_picks names_atom ds (length places) c more o))
      (o.contained, of_names_atom o.candidate o.passing, subst T (sym (topmost_map τ n stack)) takes, subst R (sym (below_map τ n stack)) (traces_of τ walk next (below n stack) cs h.2))
  traces_of τ (close_head p n ∷ walk) next stack [] h = absurd h
  traces_of τ (close_head p n ∷ walk) next stack (c ∷ cs) h =
      let places = topmost n stack in
      let more = picks_of (tied P D walk next (below n stack)) cs in
      let fit = sole_suits τ (of_head p) places c h.0 h.1 in
      let Q : List Candidate → Type 0 = λ ps. Traces P D τ (close_head p n ∷ walk) (map τ stack) ps (types_from τ next (made_by walk)) in
      let R : List TypeTerm → Type 0 = λ s. Traces P D τ walk s more (types_from τ next (made_by walk)) in
      subst Q (sym (sole_picks (of_head p) places c more h.0 refl))
      (topmost_map τ n stack ∙ sym fit.1 ∙ each_rigid fit.0 (P.preds p).types, subst R (sym (below_map τ n stack)) (traces_of τ walk next (below n stack) cs h.2))

  -- FROM THE WALK TO THE TIES

  -- types of the places that the ties make behind those before, and choices
  pub record Tied (τ : ℕ → TypeTerm) (walk : List Step) (next : ℕ) (stack : List ℕ) (picks : List Candidate) (trace : List TypeTerm) : Type 0 where
    pub types : ℕ → TypeTerm
    pub traced : HasTypes types next trace
    pub before : (i : ℕ) → i < next → types i ≡ τ i
    pub choices : List ℕ
    pub picked : picks ≡ picks_of (tied P D walk next stack) choices
    pub suited : AllSuited types (tied P D walk next stack) choices

  -- one meaning more, which makes a place or not
  sole_first : (τ τ' : ℕ → TypeTerm) (m : Meaning) (places : List ℕ) (bound : ℕ) → AllBelow bound places → ((i : ℕ) → i < bound → τ' i ≡ τ i) → At τ places m → (0 < length (sole P D m places).meanings) × At τ' places (get_or (sole P D m places).meanings 0 of_equation)
  sole_first τ τ' m places bound low same h =
      let long : length (declared P D m).types ≡ length places = types_long (under (declared P D m).vars h.0) τ (declared P D m).types places h.1 in
      let s = sole_has P D m places long in
      let moved : At τ' places m = (h.0, h.1 ∙ sym (agree τ τ' bound places low same)) in
      (s.0, subst (At τ' places) (sym s.1) moved)

  record Names (τ' : ℕ → TypeTerm) (test : Candidate → Bool) (ds : List Candidate) (places : List ℕ) (c : Candidate) : Type 0 where
    choice : ℕ
    there : choice < length (offered P D test (length places) [] ds)
    suits : At τ' places (get_or (offered P D test (length places) [] ds) choice of_equation)
    pick : (more : List Candidate) → c ∷ more ≡ pick_of (get_or (offered P D test (length places) [] ds) choice of_equation) ++ more

  named_first : (τ τ' : ℕ → TypeTerm) (test : Candidate → Bool) (ds : List Candidate) (places : List ℕ) (c : Candidate) (bound : ℕ) → AllBelow bound places → ((i : ℕ) → i < bound → τ' i ≡ τ i) → Contains ds c → test c ≡ true → Takes P D c (map τ places) → Names τ' test ds places c
  named_first τ τ' test ds places c bound low same inside passes takes =
      let sig = signature P D c in
      let long : length sig ≡ length places = types_long (instance_of takes.0) τ sig places takes.1 in
      let has = offered_has P D test (length places) ds c inside passes long in
      let fits : At τ' places (of_name c) = (takes.0, each_under_below (rigid_count sig) takes.0 sig (bounded (variables_of_each sig)) ∙ takes.1 ∙ sym (agree τ τ' bound places low same)) in
      record {
        choice = has.0;
        there = has.1;
        suits = subst (At τ' places) (sym has.2) fits;
        pick = λ more. sym (ap (λ x. pick_of x ++ more) has.2);
      }

  module _ (vars : ℕ) (τ : ℕ → TypeTerm) where
    follows_on : (τ' τ2 : ℕ → TypeTerm) (next : ℕ) → vars ≤ next → ((i : ℕ) → i < next → τ2 i ≡ τ' i) → ((v : ℕ) → v < vars → τ' v ≡ τ v) → (v : ℕ) → v < vars → τ2 v ≡ τ v
    follows_on τ' τ2 next le same f v lt = same v (omega arith) ∙ f v lt

    pub tied_by : (walk : List Step) (τ' : ℕ → TypeTerm) (next : ℕ) (stack : List ℕ) (picks : List Candidate) (trace : List TypeTerm) → AllBelow next stack → VariablesBelow vars walk → vars ≤ next → ((v : ℕ) → v < vars → τ' v ≡ τ v) → Traces P D τ walk (map τ' stack) picks trace → Tied τ' walk next stack picks trace
    tied_by [] τ' next stack picks trace low own le f h =
        record { types = τ'; traced = subst (HasTypes τ' next) (sym h.1) tt; before = λ i lt. refl; choices = []; picked = h.0; suited = tt }
    tied_by (push_variable v ∷ walk) τ' next stack picks trace low own le f h =
        let Q : List TypeTerm → Type 0 = λ s. Traces P D τ walk s picks trace in
        let same : map τ' stack ++ τ v ∷ [] ≡ map τ' (stack ++ v ∷ []) = ap (λ t. map τ' stack ++ t ∷ []) (sym (f v own.0)) ∙ sym (map_push τ' stack v) in
        let r = tied_by walk τ' next (stack ++ v ∷ []) picks trace (below_join next stack (v ∷ []) low (omega (arith, own.0), tt)) own.1 le f (subst Q same h) in
        record { types = r.types; traced = r.traced; before = r.before; choices = r.choices; picked = r.picked; suited = r.suited }
    tied_by (push_number ∷ walk) τ' next stack picks trace low own le f h =
        let τ1 = changed τ' next int_type in
        let same : (i : ℕ) → i < next → τ1 i ≡ τ' i = λ i lt. changed_other τ' next int_type i lt in
        let Q : List TypeTerm → Type 0 = λ s. Traces P D τ walk s picks h.0 in
        let r = tied_by walk τ1 (suc next) (stack ++ next ∷ []) picks h.0 (below_join (suc next) stack (next ∷ []) (below_more next (suc next) stack (omega arith) low) (omega arith, tt)) own (omega arith) (follows_on τ' τ1 next le same f) (subst Q (changed_stack τ' next int_type stack low) h.2) in
        let fit : At τ1 (next ∷ []) of_number = ((λ v. variable_type v), ap (λ t. t ∷ []) (sym (changed_same τ' next int_type))) in
        let s = sole_first τ1 r.types of_number (next ∷ []) (suc next) (omega arith, tt) r.before fit in
        record {
          types = r.types;
          traced = first_traced r.types next int_type trace h.0 h.1 (r.before next (omega arith) ∙ changed_same τ' next int_type) r.traced;
          before = λ i lt. r.before i (omega arith) ∙ same i lt;
          choices = 0 ∷ r.choices;
          picked = r.picked ∙ sym (sole_picks of_number (next ∷ []) 0 (picks_of (tied P D walk (suc next) (stack ++ next ∷ [])) r.choices) s.0 refl);
          suited = (s.0, s.1, r.suited);
        }
    tied_by (push_text ∷ walk) τ' next stack picks trace low own le f h =
        let τ1 = changed τ' next string_type in
        let same : (i : ℕ) → i < next → τ1 i ≡ τ' i = λ i lt. changed_other τ' next string_type i lt in
        let Q : List TypeTerm → Type 0 = λ s. Traces P D τ walk s picks h.0 in
        let r = tied_by walk τ1 (suc next) (stack ++ next ∷ []) picks h.0 (below_join (suc next) stack (next ∷ []) (below_more next (suc next) stack (omega arith) low) (omega arith, tt)) own (omega arith) (follows_on τ' τ1 next le same f) (subst Q (changed_stack τ' next string_type stack low) h.2) in
        let fit : At τ1 (next ∷ []) of_text = ((λ v. variable_type v), ap (λ t. t ∷ []) (sym (changed_same τ' next string_type))) in
        let s = sole_first τ1 r.types of_text (next ∷ []) (suc next) (omega arith, tt) r.before fit in
        record {
          types = r.types;
          traced = first_traced r.types next string_type trace h.0 h.1 (r.before next (omega arith) ∙ changed_same τ' next string_type) r.traced;
          before = λ i lt. r.before i (omega arith) ∙ same i lt;
          choices = 0 ∷ r.choices;
          picked = r.picked ∙ sym (sole_picks of_text (next ∷ []) 0 (picks_of (tied P D walk (suc next) (stack ++ next ∷ [])) r.choices) s.0 refl);
          suited = (s.0, s.1, r.suited);
        }
    tied_by (choose ds n ∷ walk) τ' next stack [] trace low own le f h = absurd h
    tied_by (choose ds n ∷ walk) τ' next stack (c ∷ picks) trace low own le f h =
        let t = h.2 in
        let places = topmost n stack ++ next ∷ [] in
        let rest = below n stack ++ next ∷ [] in
        let τ1 = changed τ' next t in
        let same : (i : ℕ) → i < next → τ1 i ≡ τ' i = λ i lt. changed_other τ' next t i lt in
        let low_top : AllBelow next (topmost n stack) = below_drop next (length stack - n) stack low in
        let low_rest : AllBelow next (below n stack) = below_take next (length stack - n) stack low in
        let Q : List TypeTerm → Type 0 = λ s. Traces P D τ walk s picks h.3 in
        let T : List TypeTerm → Type 0 = λ ts. Takes P D c ts in
        let r = tied_by walk τ1 (suc next) rest picks h.3 (below_join (suc next) (below n stack) (next ∷ []) (below_more next (suc next) (below n stack) (omega arith) low_rest) (omega arith, tt)) own (omega arith) (follows_on τ' τ1 next le same f)
        (subst Q (ap (λ ts. ts ++ t ∷ []) (below_map τ' n stack) ∙ changed_stack τ' next t (below n stack) low_rest) h.6) in
        let takes : Takes P D c (map τ1 places) = subst T (ap (λ ts. ts ++ t ∷ []) (topmost_map τ' n stack) ∙ changed_stack τ' next t (topmost n stack) low_top) h.5 in
        let low_places : AllBelow (suc next) places = below_join (suc next) (topmost n stack) (next ∷ []) (below_more next (suc next) (topmost n stack) (omega arith) low_top) (omega arith, tt) in
        let s = named_first τ1 r.types names_term ds places c (suc next) low_places r.before h.0 (names_term_of c h.1) takes in
        record {
          types = r.types;
          traced = first_traced r.types next t trace h.3 h.4 (r.before next (omega arith) ∙ changed_same τ' next t) r.traced;
          before = λ i lt. r.before i (omega arith) ∙ same i lt;
          choices = s.choice ∷ r.choices;
          picked = ap (λ ps. c ∷ ps) r.picked ∙ s.pick (picks_of (tied P D walk (suc next) rest) r.choices);
          suited = (s.there, s.suits, r.suited);
        }
    tied_by (equate ∷ walk) τ' next stack picks trace low own le f h =
        let places = topmost 2 stack in
        let Q : List TypeTerm → Type 0 = λ s. Traces P D τ walk s picks trace in
        let low_top : AllBelow next places = below_drop next (length stack - 2) stack low in
        let r = tied_by walk τ' next (below 2 stack) picks trace (below_take next (length stack - 2) stack low) own le f (subst Q (below_map τ' 2 stack) h.2) in
        let fit : At τ' places of_equation = ((λ v. h.0), sym h.1 ∙ topmost_map τ' 2 stack) in
        let s = sole_first τ' r.types of_equation places next low_top r.before fit in
        record {
          types = r.types;
          traced = r.traced;
          before = r.before;
          choices = 0 ∷ r.choices;
          picked = r.picked ∙ sym (sole_picks of_equation places 0 (picks_of (tied P D walk next (below 2 stack)) r.choices) s.0 refl);
          suited = (s.0, s.1, r.suited);
        }
    tied_by (call ds n ∷ walk) τ' next stack [] trace low own le f h = absurd h
    tied_by (call ds n ∷ walk) τ' next stack (c ∷ picks) trace low own le f h =
        let places = topmost n stack in
        let Q : List TypeTerm → Type 0 = λ s. Traces P D τ walk s picks trace in
        let T : List TypeTerm → Type 0 = λ ts. Takes P D c ts in
        let low_top : AllBelow next places = below_drop next (length stack - n) stack low in
        let r = tied_by walk τ' next (below n stack) picks trace (below_take next (length stack - n) stack low) own le f (subst Q (below_map τ' n stack) h.3) in
        let s = named_first τ' r.types names_atom ds places c next low_top r.before h.0 (names_atom_of c h.1) (subst T (topmost_map τ' n stack) h.2) in
        record {
          types = r.types;
          traced = r.traced;
          before = r.before;
          choices = s.choice ∷ r.choices;
          picked = ap (λ ps. c ∷ ps) r.picked ∙ s.pick (picks_of (tied P D walk next (below n stack)) r.choices);
          suited = (s.there, s.suits, r.suited);
        }
    tied_by (close_head p n ∷ walk) τ' next stack picks trace low own le f h =
        let places = topmost n stack in
        let Q : List TypeTerm → Type 0 = λ s. Traces P D τ walk s picks trace in
        let low_top : AllBelow next places = below_drop next (length stack - n) stack low in
        let r = tied_by walk τ' next (below n stack) picks trace (below_take next (length stack - n) stack low) own le f (subst Q (below_map τ' n stack) h.1) in
        let fit : At τ' places (of_head p) = (variable_type, each_rigid variable_type (P.preds p).types ∙ sym h.0 ∙ topmost_map τ' n stack) in
        let s = sole_first τ' r.types (of_head p) places next low_top r.before fit in
        record {
          types = r.types;
          traced = r.traced;
          before = r.before;
          choices = 0 ∷ r.choices;
          picked = r.picked ∙ sym (sole_picks (of_head p) places 0 (picks_of (tied P D walk next (below n stack)) r.choices) s.0 refl);
          suited = (s.0, s.1, r.suited);
        }
