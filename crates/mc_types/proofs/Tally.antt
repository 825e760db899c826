-- The choices that have been met, moment by moment, in order.
use Rattle.std.proofs.Common.{◌≡◌, ◌≢◌, ℕ, ◌+◌, ◌-◌, ◌<◌, ◌≤◌, ◌⊎◌, cond, eqb, List, [], ◌∷◌, ◌++◌, length, get_or, set, sym, ◌∙◌, ap, refl, subst, inl, inr, arith, length-append, get_or-set_same, get_or-set_other}
use Rattle.std.proofs.Math.Logic.{◌↔◌}
use Rattle.std.specs.List.{sum_by}
use Rattle.std.proofs.lemmas.Bool.{cases_eq, cases_lt, eq-eqb, ne_eqb}
use Rattle.std.proofs.lemmas.List.{get_or_append_left, get_or_push}
use Rattle.std.proofs.lemmas.List.Sums.{sum_by-set}
use Rattle.mc_types.specs.Shapes.{rigid}
use Rattle.mc_types.specs.declared.signature.Signature.{Signature}
use Rattle.mc_types.specs.declared.steps.Step.{Step}
use Rattle.mc_types.specs.Typed.{Live, LiveAt}
use Rattle.mc_types.specs.code.Passed.{Passed}
use Rattle.mc_types.specs.Resolved.{Earlier, Exceeds}

pub earlier_from : (at : List ℕ) (next : ℕ) (q p : List ℕ) → length q ≡ length p → Passed at next q → (Passed at next p → ⊥) → Earlier q p
earlier_from at next [] [] len h n = n tt
earlier_from at next [] (d ∷ p) len h n = let never : ⊥ = omega arith in never
earlier_from at next (c ∷ q) [] len h n = let never : ⊥ = omega arith in never
earlier_from [] next (c ∷ q) (d ∷ p) len h n = elim (cases_lt d next) [
  | inl lt ↦ absurd (n lt)
  | inr ge ↦ inl (omega arith)
]
earlier_from (a ∷ at) next (c ∷ q) (d ∷ p) len (inl lt) n = elim (cases_lt d a) [
  | inl l ↦ absurd (n (inl l))
  | inr ge ↦ inl (omega arith)
]
earlier_from (a ∷ at) next (c ∷ q) (d ∷ p) len (inr h) n = elim (cases_lt d a) [
  | inl l ↦ absurd (n (inl l))
  | inr ge ↦ elim (cases_eq d a) [
    | inl e ↦ inr (h.0 ∙ sym e, earlier_from at next q p (omega arith) h.1 (λ pp. n (inr (e, pp))))
    | inr ne ↦ inl (omega (arith, h.0))
  ]
]

pub earlier_itself : (cs : List ℕ) → Earlier cs cs → ⊥
earlier_itself [] h = h
earlier_itself (c ∷ cs) (inl lt) = omega arith
earlier_itself (c ∷ cs) (inr h) = earlier_itself cs h.1

pub record Tally (signatures : List Signature) (steps : List Step) (at : List ℕ) (next : ℕ) (counts : List ℕ) : Type 0 where
  pub lists : ℕ → List (List ℕ)
  pub counted : (l : ℕ) → l ≤ length steps → length (lists l) ≡ get_or counts l 0
  pub sound : (l i : ℕ) → i < length (lists l) → LiveAt signatures steps l (get_or (lists l) i []) × Passed at next (get_or (lists l) i [])
  pub complete : (l : ℕ) (cs : List ℕ) → LiveAt signatures steps l cs → Passed at next cs → (i : ℕ) × (i < length (lists l)) × (get_or (lists l) i [] ≡ cs)
  pub ordered : (l i j : ℕ) → i < j → j < length (lists l) → Earlier (get_or (lists l) i []) (get_or (lists l) j [])

-- a list with one element more at one place of a family
abbrev pub grown_at : ℕ → List ℕ → (ℕ → List (List ℕ)) → ℕ → List (List ℕ)
grown_at k cs lists l = cond (eqb l k) (lists l ++ cs ∷ []) (lists l)

pub grown_same : (k : ℕ) (cs : List ℕ) (lists : ℕ → List (List ℕ)) (l : ℕ) → l ≡ k → grown_at k cs lists l ≡ lists l ++ cs ∷ []
grown_same k cs lists l e = ap (λ b. cond b (lists l ++ cs ∷ []) (lists l)) (eq-eqb l k e)

pub grown_other : (k : ℕ) (cs : List ℕ) (lists : ℕ → List (List ℕ)) (l : ℕ) → l ≢ k → grown_at k cs lists l ≡ lists l
grown_other k cs lists l ne = ap (λ b. cond b (lists l ++ cs ∷ []) (lists l)) (ne_eqb l k ne)

module _ (signatures : List Signature) (steps : List Step) where
  only_root : ℕ → List (List ℕ)
  only_root l = cond (eqb l 0) ([] ∷ []) []

  root_list : (l : ℕ) → l ≡ 0 → only_root l ≡ [] ∷ []
  unfolding only_root
  root_list l e = ap (λ b. cond b ([] ∷ []) []) (eq-eqb l 0 e)

  no_list : (l : ℕ) → l ≢ 0 → only_root l ≡ []
  unfolding only_root
  no_list l ne = ap (λ b. cond b ([] ∷ []) []) (ne_eqb l 0 ne)

  root_element : (l i : ℕ) → i < length (only_root l) → (l ≡ 0) × (i ≡ 0)
  root_element l i lt = elim (cases_eq l 0) [
    | inl e ↦ (e, omega (arith, ap length (root_list l e)))
    | inr ne ↦ let never : ⊥ = omega (arith, ap length (no_list l ne)) in absurd never
  ]

  pub tally_first : (counts : List ℕ) → ((l : ℕ) → l ≤ length steps → get_or counts l 0 ≡ cond (eqb l 0) 1 0) → Tally signatures steps [] 0 counts
  tally_first counts zeros = record {
    lists = only_root;
    counted = λ l le. elim (cases_eq l 0) [
      | inl e ↦ ap length (root_list l e) ∙ sym (zeros l le ∙ ap (λ b. cond b 1 0) (eq-eqb l 0 e))
      | inr ne ↦ ap length (no_list l ne) ∙ sym (zeros l le ∙ ap (λ b. cond b 1 0) (ne_eqb l 0 ne))
    ];
    sound = λ l i lt.
        let e = root_element l i lt in
        let is : get_or (only_root l) i [] ≡ [] = ap (λ xs. get_or xs i []) (root_list l e.0) ∙ ap (λ n. get_or ([] ∷ []) n []) e.1 in
        let P : List ℕ → Type 0 = λ cs. LiveAt signatures steps l cs × Passed [] 0 cs in
        subst P (sym is) ((sym e.0, ((λ i2. rigid 0), tt)), tt);
    complete = λ l cs live passed. first_only l cs live.0 passed;
    ordered = λ l i j lt lj.
        let e = root_element l j lj in
        let never : ⊥ = omega (arith, e.1) in absurd never;
  }
    where
      first_only : (l : ℕ) (cs : List ℕ) → length cs ≡ l → Passed [] 0 cs → (i : ℕ) × (i < length (only_root l)) × (get_or (only_root l) i [] ≡ cs)
      first_only l [] e h =
          let r = root_list l (sym e) in
          (0, omega (arith, ap length r), ap (λ xs. get_or xs 0 []) r)
      first_only l (c ∷ cs) e h = let never : ⊥ = omega arith in absurd never

  pub tally_first_lists : (counts : List ℕ) (zeros : (l : ℕ) → l ≤ length steps → get_or counts l 0 ≡ cond (eqb l 0) 1 0) (l : ℕ) → (tally_first counts zeros).lists l ≡ cond (eqb l 0) ([] ∷ []) []
  unfolding tally_first only_root
  tally_first_lists counts zeros l = refl

  module _ (at : List ℕ) (next : ℕ) (counts : List ℕ) (t : Tally signatures steps at next counts) (new : List ℕ) (live : Live signatures steps new) (not_before : Passed at next new → ⊥) (passes : (cs : List ℕ) → Live signatures steps cs → Passed new 0 cs ↔ (Passed at next cs ⊎ (cs ≡ new))) (long : length counts ≡ length steps + 1) (within : length new ≤ length steps) where
    k : ℕ
    k = length new

    kept_at : (l i : ℕ) → i < length (t.lists l) → (i < length (grown_at (length new) new t.lists l)) × (get_or (grown_at (length new) new t.lists l) i [] ≡ get_or (t.lists l) i [])
    kept_at l i lt = elim (cases_eq l (length new)) [
      | inl e ↦
          let g = grown_same (length new) new t.lists l e in
          (omega (arith, ap length g, length-append (t.lists l) (new ∷ [])), ap (λ xs. get_or xs i []) g ∙ get_or_append_left (t.lists l) (new ∷ []) [] i lt)
      | inr ne ↦
          let g = grown_other (length new) new t.lists l ne in
          (omega (arith, ap length g), ap (λ xs. get_or xs i []) g)
    ]

    new_at : (l : ℕ) → l ≡ length new → (length (t.lists l) < length (grown_at (length new) new t.lists l)) × (get_or (grown_at (length new) new t.lists l) (length (t.lists l)) [] ≡ new)
    new_at l e =
        let g = grown_same (length new) new t.lists l e in
        (omega (arith, ap length g, length-append (t.lists l) (new ∷ [])), ap (λ xs. get_or xs (length (t.lists l)) []) g ∙ get_or_push (t.lists l) new [] (length (t.lists l)) refl)

    -- an element of the grown lists is an old one or the new one
    which : (l i : ℕ) → i < length (grown_at (length new) new t.lists l) → (i < length (t.lists l)) ⊎ ((l ≡ length new) × (i ≡ length (t.lists l)))
    which l i lt = elim (cases_lt i (length (t.lists l))) [
      | inl old ↦ inl old
      | inr ge ↦ elim (cases_eq l (length new)) [
        | inl e ↦ inr (e, omega (arith, ap length (grown_same (length new) new t.lists l e), length-append (t.lists l) (new ∷ [])))
        | inr ne ↦ let never : ⊥ = omega (arith, ap length (grown_other (length new) new t.lists l ne)) in absurd never
      ]
    ]

    pub tally_more : Tally signatures steps new 0 (set counts (length new) (get_or counts (length new) 0 + 1))
    tally_more = record {
      lists = grown_at (length new) new t.lists;
      counted = λ l le. elim (cases_eq l (length new)) [
        | inl e ↦
            let P : ℕ → Type 0 = λ m. length (grown_at (length new) new t.lists m) ≡ get_or (set counts (length new) (get_or counts (length new) 0 + 1)) m 0 in
            let at_new : length (grown_at (length new) new t.lists (length new)) ≡ get_or (set counts (length new) (get_or counts (length new) 0 + 1)) (length new) 0 =
            ap length (grown_same (length new) new t.lists (length new) refl)
            ∙ length-append (t.lists (length new)) (new ∷ [])
            ∙ ap (λ m. m + 1) (t.counted (length new) within)
            ∙ sym (get_or-set_same counts (length new) (get_or counts (length new) 0 + 1) 0 (omega (arith, long))) in
            subst P (sym e) at_new
        | inr ne ↦
            ap length (grown_other (length new) new t.lists l ne)
            ∙ t.counted l le
            ∙ sym (get_or-set_other counts (length new) l (get_or counts (length new) 0 + 1) 0 ne)
      ];
      sound = λ l i lt.
          let P : List ℕ → Type 0 = λ cs. LiveAt signatures steps l cs × Passed new 0 cs in
          elim (which l i lt) [
            | inl old ↦
                let s = t.sound l i old in
                subst P (sym (kept_at l i old).1) (s.0, (passes (get_or (t.lists l) i []) s.0.1).1 (inl s.1))
            | inr last ↦
                let is : get_or (grown_at (length new) new t.lists l) i [] ≡ new = ap (λ m. get_or (grown_at (length new) new t.lists l) m []) last.1 ∙ (new_at l last.0).1 in
                subst P (sym is) ((sym last.0, live), (passes new live).1 (inr refl))
          ];
      complete = λ l cs here passed. elim ((passes cs here.1).0 passed) [
        | inl old ↦
            let f = t.complete l cs here old in
            let kept = kept_at l f.0 f.1 in
            (f.0, kept.0, kept.1 ∙ f.2)
        | inr e ↦
            let n = new_at l (sym here.0 ∙ ap length e) in
            (length (t.lists l), n.0, n.1 ∙ sym e)
      ];
      ordered = λ l i j lt lj. elim (which l j lj) [
        | inl old ↦
            let P : List ℕ → Type 0 = λ cs. Earlier cs (get_or (grown_at (length new) new t.lists l) j []) in
            let Q : List ℕ → Type 0 = λ cs. Earlier (get_or (t.lists l) i []) cs in
            subst P (sym (kept_at l i (omega arith)).1) (subst Q (sym (kept_at l j old).1) (t.ordered l i j lt old))
        | inr last ↦
            let old : i < length (t.lists l) = omega (arith, last.1) in
            let s = t.sound l i old in
            let is : get_or (grown_at (length new) new t.lists l) j [] ≡ new = ap (λ m. get_or (grown_at (length new) new t.lists l) m []) last.1 ∙ (new_at l last.0).1 in
            let P : List ℕ → Type 0 = λ cs. Earlier cs (get_or (grown_at (length new) new t.lists l) j []) in
            let Q : List ℕ → Type 0 = λ cs. Earlier (get_or (t.lists l) i []) cs in
            subst P (sym (kept_at l i old).1) (subst Q (sym is) (earlier_from at next (get_or (t.lists l) i []) new (s.0.0 ∙ last.0) s.1 not_before))
      ];
    }

    pub tally_more_lists : (l : ℕ) → tally_more.lists l ≡ grown_at (length new) new t.lists l
    unfolding tally_more
    tally_more_lists l = refl

  pub exceeds_now : (at : List ℕ) (next : ℕ) (counts : List ℕ) (t : Tally signatures steps at next counts) (k limit : ℕ) → k ≤ length steps → limit < get_or counts k 0 → Exceeds signatures steps limit
  exceeds_now at next counts t k limit le many = record {
    moment = k;
    live = t.lists k;
    many = omega (arith, t.counted k le);
    distinct = λ i j lt lj e.
        let P : List ℕ → Type 0 = λ cs. Earlier (get_or (t.lists k) i []) cs in
        earlier_itself (get_or (t.lists k) i []) (subst P (sym e) (t.ordered k i j lt lj));
    all_live = λ i lt. (t.sound k i lt).0;
  }

-- how many more choices may be met
abbrev pub to_meet : ℕ → List ℕ → ℕ
to_meet limit counts = sum_by (λ c. limit + 1 - c) counts

pub meets_less : (limit : ℕ) (counts : List ℕ) (k : ℕ) → k < length counts → get_or counts k 0 ≤ limit → to_meet limit (set counts k (get_or counts k 0 + 1)) < to_meet limit counts
meets_less limit counts k lt le = omega (arith, sum_by-set (λ c. limit + 1 - c) counts k (get_or counts k 0 + 1) 0 lt)
