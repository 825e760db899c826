-- What a search has found so far, and what that says at its end.
use Rattle.std.proofs.Common.{◌≡◌, ◌≢◌, ℕ, zero, suc, ◌+◌, ◌<◌, ◌≤◌, ◌⊎◌, Bool, true, false, cond, eqb, List, [], ◌∷◌, ◌++◌, length, take, get_or, set, sym, ◌∙◌, ap, refl, subst, inl, inr, arith, length-take, get_or-set_same, get_or-set_other}
use Rattle.std.proofs.Math.Logic.{◌↔◌}
use Rattle.std.specs.Prelude.{replicate}
use Rattle.std.proofs.lemmas.Bool.Decides.{eqb_tells}
use Rattle.std.proofs.Math.Dec.{eqb-suc-zero}
use Rattle.std.proofs.lemmas.Bool.{cases_eq, cases_lt, lt-ltb, le-ltb}
use Rattle.std.proofs.lemmas.List.{take_all, take-append-le, length_push, get_or-replicate, get_or_past, length-replicate}
use Rattle.mc_types.specs.declared.signature.Signature.{Signature}
use Rattle.mc_types.specs.declared.steps.Step.{Step}
use Rattle.mc_types.specs.declared.outcome.Outcome.{Outcome}
use Rattle.mc_types.specs.declared.outcome.Outcome.TheVariants.{None, One, Two, TooMany}
use Rattle.mc_types.specs.Typed.{Live}
use Rattle.mc_types.specs.code.Passed.{Passed}
use Rattle.mc_types.specs.Resolved.{Earlier, Resolves, Exceeds, OutcomeSays, MostGeneral}
use Rattle.mc_types.specs.declared.written_types.Written.{Written}
use Rattle.mc_types.specs.code.Found.{noted, OutcomeIs}
use Rattle.mc_types.proofs.Choosing.{typed_within}
use Rattle.mc_types.proofs.Pigeonhole.{no_longer_at}
use Rattle.mc_types.proofs.Tally.{Tally, tally_first, tally_first_lists, tally_more, tally_more_lists, grown_at, grown_same, grown_other, exceeds_now}

-- the types are those of the first choices that are found
abbrev pub TypesFit : List Signature → List Step → ℕ → List Written → List (List ℕ) → Type 0
TypesFit signatures steps vars types found = (cs : List ℕ) (rest : List (List ℕ)) → found ≡ cs ∷ rest → MostGeneral signatures steps vars cs types

pub record Progress (signatures : List Signature) (steps : List Step) (at : List ℕ) (next : ℕ) (counts : List ℕ) (limit : ℕ) (found : List (List ℕ)) : Type 0 where
  pub tally : Tally signatures steps at next counts
  pub few : (l : ℕ) → get_or counts l 0 ≤ limit
  pub found_is : found ≡ take 2 (tally.lists (length steps))

take_push : (xs : List (List ℕ)) (x : List ℕ) → take 2 (xs ++ x ∷ []) ≡ noted true (take 2 xs) x
take_push xs x = elim (cases_lt (length xs) 2) [
  | inl lt ↦
      let whole : take 2 xs ≡ xs = take_all 2 xs (omega arith) in
      take_all 2 (xs ++ x ∷ []) (omega (arith, length_push xs x))
      ∙ sym (ap (λ ys. noted true ys x) whole ∙ ap (λ b. cond b (xs ++ x ∷ []) xs) (lt-ltb (length xs) 2 lt))
  | inr ge ↦
      take-append-le 2 xs (x ∷ []) ge
      ∙ sym (ap (λ b. cond b (take 2 xs ++ x ∷ []) (take 2 xs)) (le-ltb (length (take 2 xs)) 2 (omega (arith, length-take 2 xs))))
]

module _ (signatures : List Signature) (steps : List Step) (limit : ℕ) where
  module _ (at : List ℕ) (next : ℕ) (counts : List ℕ) (found : List (List ℕ)) (p : Progress signatures steps at next counts limit found) (new : List ℕ) (live : Live signatures steps new) (not_before : Passed at next new → ⊥) (passes : (cs : List ℕ) → Live signatures steps cs → Passed new 0 cs ↔ (Passed at next cs ⊎ (cs ≡ new))) (long : length counts ≡ length steps + 1) where
    within : length new ≤ length steps
    within = typed_within live.0 signatures steps new live.1

    tally : Tally signatures steps new 0 (set counts (length new) (get_or counts (length new) 0 + 1))
    tally = tally_more signatures steps at next counts p.tally new live not_before passes long within

    pub progress_exceeds : limit < get_or counts (length new) 0 + 1 → Exceeds signatures steps limit
    progress_exceeds many =
        exceeds_now signatures steps new 0 (set counts (length new) (get_or counts (length new) 0 + 1)) tally (length new) limit within
        (omega (arith, many, get_or-set_same counts (length new) (get_or counts (length new) 0 + 1) 0 (omega (arith, long, within))))

    lists_are : (l : ℕ) → tally.lists l ≡ grown_at (length new) new p.tally.lists l
    unfolding tally
    lists_are l = tally_more_lists signatures steps at next counts p.tally new live not_before passes long within l

    pub progress_more : (all_steps : Bool) → (all_steps ≡ true → length new ≡ length steps) → (all_steps ≡ false → length new ≢ length steps) → get_or counts (length new) 0 + 1 ≤ limit → Progress signatures steps new 0 (set counts (length new) (get_or counts (length new) 0 + 1)) limit (noted all_steps found new)
    progress_more all_steps is_all other small = record {
      tally = tally;
      few = λ l. elim (cases_eq l (length new)) [
        | inl e ↦ omega (arith, ap (λ m. get_or (set counts (length new) (get_or counts (length new) 0 + 1)) m 0) e, get_or-set_same counts (length new) (get_or counts (length new) 0 + 1) 0 (omega (arith, long, within)))
        | inr ne ↦ omega (arith, get_or-set_other counts (length new) l (get_or counts (length new) 0 + 1) 0 ne, p.few l)
      ];
      found_is = found_now all_steps is_all other;
    }
      where
        found_now : (b : Bool) → (b ≡ true → length new ≡ length steps) → (b ≡ false → length new ≢ length steps) → noted b found new ≡ take 2 (tally.lists (length steps))
        found_now true y o =
            ap (λ f. noted true f new) p.found_is
            ∙ sym (ap (take 2) (lists_are (length steps) ∙ grown_same (length new) new p.tally.lists (length steps) (sym (y refl))) ∙ take_push (p.tally.lists (length steps)) new)
        found_now false y o =
            p.found_is
            ∙ sym (ap (take 2) (lists_are (length steps) ∙ grown_other (length new) new p.tally.lists (length steps) (λ e. o refl (sym e))))

    pub progress_step : (k : ℕ) → k ≡ length new → (read : ℕ) → read ≡ get_or counts k 0 → read + 1 ≤ limit → (found' : List (List ℕ)) → found' ≡ noted (eqb k (length steps)) found new → (next' : ℕ) → next' ≡ 0 → Progress signatures steps new next' (set counts k (read + 1)) limit found'
    progress_step k e read re small found' fe next' ne =
        let more = progress_more (eqb (length new) (length steps))
        (λ t. elim (eqb_tells (length new) (length steps)) [ inl x ↦ x.1 | inr x ↦ let never : ⊥ = cc (t, x.0) in absurd never ])
        (λ t. elim (eqb_tells (length new) (length steps)) [ inl x ↦ let never : ⊥ = cc (t, x.0) in absurd never | inr x ↦ x.1 ])
        (omega (arith, re, ap (λ m. get_or counts m 0) e)) in
        let same_read : get_or counts (length new) 0 ≡ read = ap (λ m. get_or counts m 0) (sym e) ∙ sym re in
        let P : ℕ → Type 0 = λ m. Progress signatures steps new m (set counts k (read + 1)) limit found' in
        let Q : List (List ℕ) → Type 0 = λ f. Progress signatures steps new 0 (set counts k (read + 1)) limit f in
        let R : List ℕ → Type 0 = λ cs. Progress signatures steps new 0 cs limit (noted (eqb k (length steps)) found new) in
        let S : ℕ → Type 0 = λ m. Progress signatures steps new 0 (set counts (length new) (get_or counts (length new) 0 + 1)) limit (noted (eqb m (length steps)) found new) in
        subst P (sym ne) (subst Q (sym fe) (subst R (ap (λ m. set counts m (get_or counts (length new) 0 + 1)) (sym e) ∙ ap (λ m. set counts k (m + 1)) same_read) (subst S (sym e) more)))

  first_at : (n l : ℕ) → ◌≡◌ {A = ℕ} (get_or (1 ∷ replicate n 0) l 0) (cond (eqb l 0) 1 0)
  first_at n zero = refl
  first_at n (suc l) =
      let none : ◌≡◌ {A = ℕ} (cond (eqb (suc l) 0) 1 0) 0 = ap (λ b. cond b 1 0) (eqb-suc-zero l) in
      elim (cases_lt l n) [
        | inl lt ↦ get_or-replicate n l 0 0 lt ∙ sym none
        | inr ge ↦ get_or_past (replicate n 0) l 0 (omega (arith, length-replicate {A = ℕ} n 0)) ∙ sym none
      ]

  first_few : (n l : ℕ) → get_or (1 ∷ replicate n 0) l 0 ≤ 1
  first_few n zero = omega arith
  first_few n (suc l) =
      let none : ◌≡◌ {A = ℕ} (cond (eqb (suc l) 0) 1 0) 0 = ap (λ b. cond b 1 0) (eqb-suc-zero l) in
      omega (arith, first_at n (suc l), none)

  first_found : (b : Bool) → noted b [] [] ≡ take 2 (cond b ([] ∷ []) [])
  first_found true = refl
  first_found false = refl

  pub progress_first : (at : List ℕ) (next : ℕ) (counts : List ℕ) (found : List (List ℕ)) → 0 < limit → at ≡ [] → next ≡ 0 → counts ≡ 1 ∷ replicate (length steps) 0 → found ≡ noted (eqb (length steps) 0) [] [] → Progress signatures steps at next counts limit found
  progress_first at next counts found some ae ne ce fe =
      let zeros : (l : ℕ) → l ≤ length steps → get_or counts l 0 ≡ cond (eqb l 0) 1 0 = λ l le. ap (λ cs. get_or cs l 0) ce ∙ first_at (length steps) l in
      let P : List ℕ → Type 0 = λ cs. Progress signatures steps cs next counts limit found in
      let Q : ℕ → Type 0 = λ n. Progress signatures steps [] n counts limit found in
      subst P (sym ae)
      (subst Q (sym ne)
      (record {
        tally = tally_first signatures steps counts zeros;
        few = λ l. omega (arith, ap (λ cs. get_or cs l 0) ce, first_few (length steps) l);
        found_is = fe ∙ first_found (eqb (length steps) 0) ∙ ap (take 2) (sym (tally_first_lists signatures steps counts zeros (length steps)));
      }))

  module _ (vars : ℕ) (types : List Written) (at : List ℕ) (next : ℕ) (counts : List ℕ) (found : List (List ℕ)) (p : Progress signatures steps at next counts limit found) (fit : TypesFit signatures steps vars types found) (all : (cs : List ℕ) → Live signatures steps cs → Passed at next cs) where
    pub not_exceeded : Exceeds signatures steps limit → ⊥
    not_exceeded e =
        let k = e.moment in
        let first = e.all_live 0 (omega (arith, e.many)) in
        let le : k ≤ length steps = omega (arith, first.0, typed_within first.1.0 signatures steps (get_or e.live 0 []) first.1.1) in
        let long = no_longer_at [] e.live (p.tally.lists k) e.distinct (λ i lt. let here = e.all_live i lt in p.tally.complete k (get_or e.live i []) here (all (get_or e.live i []) here.1)) in
        omega (arith, long, p.tally.counted k le, p.few k, e.many)

    -- the choices for all steps, in order
    whole : List (List ℕ)
    whole = p.tally.lists (length steps)

    where_is : (cs : List ℕ) → Resolves signatures steps cs → (i : ℕ) × (i < length whole) × (get_or whole i [] ≡ cs)
    unfolding whole
    where_is cs r = p.tally.complete (length steps) cs r (all cs r.1)

    is_one : (i : ℕ) → i < length whole → Resolves signatures steps (get_or whole i [])
    unfolding whole
    is_one i lt = (p.tally.sound (length steps) i lt).0

    in_order : (i j : ℕ) → i < j → j < length whole → Earlier (get_or whole i []) (get_or whole j [])
    unfolding whole
    in_order i j lt lj = p.tally.ordered (length steps) i j lt lj

    found_whole : found ≡ take 2 whole
    unfolding whole
    found_whole = p.found_is

    ends_at : (ws : List (List ℕ)) → ((cs : List ℕ) → Resolves signatures steps cs → (i : ℕ) × (i < length ws) × (get_or ws i [] ≡ cs)) → ((i : ℕ) → i < length ws → Resolves signatures steps (get_or ws i [])) → ((i j : ℕ) → i < j → j < length ws → Earlier (get_or ws i []) (get_or ws j [])) → TypesFit signatures steps vars types (take 2 ws) → (o : Outcome) → OutcomeIs (take 2 ws) types o → OutcomeSays signatures steps vars limit o
    ends_at [] find is order fits None e = ((λ cs r. let f = find cs r in let never : ⊥ = omega (arith, f.1) in never), not_exceeded)
    ends_at [] find is order fits (One v us) e = let never : ⊥ = omega (arith, ap length e.0) in absurd never
    ends_at [] find is order fits (Two v w) e = let never : ⊥ = omega (arith, ap length e) in absurd never
    ends_at [] find is order fits TooMany e = absurd e
    ends_at (x ∷ []) find is order fits None e = let never : ⊥ = omega (arith, ap length e) in absurd never
    ends_at (x ∷ []) find is order fits (One v ws) e =
        let same : x ≡ v.items = cc e.0 in
        let P : List ℕ → Type 0 = λ cs. Resolves signatures steps cs in
        let Q : List Written → Type 0 = λ us. MostGeneral signatures steps vars v.items us in (
          subst P same (is 0 (omega arith)),
          (λ cs r.
              let f = find cs r in
              let i : f.0 ≡ 0 = omega (arith, f.1) in
              sym f.2 ∙ ap (λ n. get_or (x ∷ []) n []) i ∙ same),
          subst Q (sym e.1) (fits v.items [] e.0),
          not_exceeded,
        )
    ends_at (x ∷ []) find is order fits (Two v w) e = let never : ⊥ = omega (arith, ap length e) in absurd never
    ends_at (x ∷ []) find is order fits TooMany e = absurd e
    ends_at (x ∷ y ∷ ws) find is order fits None e = let never : ⊥ = omega (arith, ap length e) in absurd never
    ends_at (x ∷ y ∷ ws) find is order fits (One v us) e = let never : ⊥ = omega (arith, ap length e.0) in absurd never
    ends_at (x ∷ y ∷ ws) find is order fits (Two v w) e =
        let first : x ≡ v.items = cc e in
        let second : y ≡ w.items = cc e in
        let P : List ℕ → Type 0 = λ cs. Resolves signatures steps cs in
        let Q : List ℕ → Type 0 = λ cs. Earlier cs w.items in
        let R : List ℕ → Type 0 = λ cs. Earlier x cs in (
          subst P first (is 0 (omega arith)),
          subst P second (is 1 (omega arith)),
          subst Q first (subst R second (order 0 1 (omega arith) (omega arith))),
          (λ cs r.
              let f = find cs r in
              elim (cases_eq f.0 0) [
                | inl i ↦ inl (sym f.2 ∙ ap (λ n. get_or (x ∷ y ∷ ws) n []) i ∙ first)
                | inr n0 ↦ elim (cases_eq f.0 1) [
                  | inl i ↦ inr (inl (sym f.2 ∙ ap (λ n. get_or (x ∷ y ∷ ws) n []) i ∙ second))
                  | inr n1 ↦
                      let S : List ℕ → Type 0 = λ ds. Earlier w.items ds in
                      let T : List ℕ → Type 0 = λ ds. Earlier ds (get_or (x ∷ y ∷ ws) f.0 []) in
                      inr (inr (subst S f.2 (subst T second (order 1 f.0 (omega arith) f.1))))
                ]
              ]),
          not_exceeded,
        )
    ends_at (x ∷ y ∷ ws) find is order fits TooMany e = absurd e

    pub progress_ends : (o : Outcome) → OutcomeIs found types o → OutcomeSays signatures steps vars limit o
    progress_ends o e =
        let P : List (List ℕ) → Type 0 = λ f. OutcomeIs f types o in
        let Q : List (List ℕ) → Type 0 = λ f. TypesFit signatures steps vars types f in
        ends_at whole where_is is_one in_order (subst Q found_whole fit) o (subst P found_whole e)

    pub found_short : length found ≤ 2
    found_short = omega (arith, ap length found_whole, length-take 2 whole)
