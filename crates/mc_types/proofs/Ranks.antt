-- Ranks of a whole graph from those of its changed part.
use Rattle.std.proofs.Common.{◌≡◌, ◌≢◌, ℕ, suc, ◌+◌, ◌*◌, ◌<◌, ◌≤◌, true, cond, eqb, List, [], ◌∷◌, ◌++◌, length, take, get_or, sym, ◌∙◌, ap, refl, subst, inl, inr, arith, length-append, get_or-set_other}
use Rattle.std.proofs.lemmas.Bool.{cases_eq, cases_lt, eq-eqb, ne_eqb}
use Rattle.std.proofs.lemmas.List.{get_or-take, get_or_append_left, get_or_push, get_or_past, get_or-append-add}
use Rattle.mc_types.specs.Holds.{cell_at}
use Rattle.mc_types.specs.Changes.{undone}
use Rattle.mc_types.specs.Founded.{IsPart, mark_at, AllPast, FoundedSays}
use Rattle.mc_types.specs.code.Marks.{IsDone, Calm}
use Rattle.mc_types.specs.declared.cells.Cell.{Cell}
use Rattle.mc_types.specs.declared.cells.Cell.TheVariants.{Free}
use Rattle.mc_types.specs.declared.cells.Change.{Change}

pub push_past : (round : ℕ) (marks : List ℕ) → 0 < round → AllPast round marks → AllPast round (marks ++ 0 ∷ [])
push_past round marks some all i = elim (cases_lt i (length marks)) [
  | inl lt ↦ omega (arith, get_or_append_left marks (0 ∷ []) 0 i lt, all i)
  | inr ge ↦ elim (cases_eq (length marks) i) [
    | inl e ↦ omega (arith, get_or_push marks 0 0 i e)
    | inr ne ↦ omega (arith, get_or_past (marks ++ 0 ∷ []) i 0 (omega (arith, length-append marks (0 ∷ []))))
  ]
]

pub calm_first : (round : ℕ) (cells : List Cell) (marks : List ℕ) → length cells ≤ length marks → AllPast round marks → Calm round cells marks
calm_first round cells marks long all = record {
  long = long;
  ranked = record {
    rank = λ i. 0;
    top = 0;
    below = λ i d. let no : ⊥ = omega (arith, all i) in absurd no;
    falls = λ i p d e. let no : ⊥ = omega (arith, all i) in absurd no;
  };
  past = λ i. inl (all i);
}

undone_other : (cs : List Change) (cells : List Cell) (i : ℕ) (d : Change) → ((k : ℕ) → k < length cs → (get_or cs k d).at ≡ i → ⊥) → cell_at (undone cs cells) i ≡ cell_at cells i
undone_other [] cells i d h = refl
undone_other (c ∷ cs) cells i d h =
    let ne : i ≢ c.at = λ e. h 0 (omega arith) (sym e) in
    get_or-set_other (undone cs cells) c.at i c.was Free ne ∙ undone_other cs cells i d (λ k lt. h (suc k) (omega arith))

no_change : Change
no_change = record { at = 0; was = Free }

pub founded_now : (round : ℕ) (cells : List Cell) (changes : List Change) (marks : List ℕ) (m n : ℕ) → Calm round cells marks → ((j : ℕ) (d : Change) → n ≤ j → j < length changes → (get_or changes j d).at < length cells → IsDone round marks (get_or changes j d).at) → ((i : ℕ) → m ≤ i → i < length cells → IsDone round marks i) → FoundedSays true cells changes m n
founded_now round cells changes marks m n calm changed new old old_changes lm ln grown founded =
    let rv = calm.ranked.rank in
    let top = calm.ranked.top in
    let r : ℕ → ℕ = λ i. cond (eqb (mark_at marks i) (2 * round + 1)) (rv i) (top + founded.rank i) in
    let r_done : (i : ℕ) → IsDone round marks i → r i ≡ rv i = λ i d. ap (λ b. cond b (rv i) (top + founded.rank i)) (eq-eqb (mark_at marks i) (2 * round + 1) d) in
    let r_not : (i : ℕ) → (IsDone round marks i → ⊥) → r i ≡ top + founded.rank i = λ i d. ap (λ b. cond b (rv i) (top + founded.rank i)) (ne_eqb (mark_at marks i) (2 * round + 1) d) in
    record {
      rank = r;
      falls = λ i p e. elim (cases_eq (mark_at marks i) (2 * round + 1)) [
        | inl d ↦ let f = calm.ranked.falls i p d e in omega (arith, r_done i d, r_done p f.0, f.1)
        | inr nd ↦
            let low : i < m = elim (cases_lt i m) [
              | inl lt ↦ lt
              | inr ge ↦ elim (cases_lt i (length cells)) [
                | inl lt ↦ absurd (nd (new i ge lt))
                | inr past ↦ let P : Cell → Type 0 = λ c. IsPart c p in absurd (subst P (get_or_past cells i Free past) e)
              ]
            ] in
            let not_changed : (k : ℕ) → k < length grown.since → (get_or grown.since k no_change).at ≡ i → ⊥ = λ k lt at_i.
            let same : get_or changes (n + k) no_change ≡ get_or grown.since k no_change = ap (λ xs. get_or xs (n + k) no_change) grown.noted ∙ ap (λ l. get_or (old_changes ++ grown.since) (l + k) no_change) (sym ln) ∙ get_or-append-add old_changes grown.since k no_change in
            let place : (get_or changes (n + k) no_change).at ≡ i = ap (λ c. c.at) same ∙ at_i in
            let within : n + k < length changes = omega (arith, ap length grown.noted, length-append old_changes grown.since) in
            let done = changed (n + k) no_change (omega arith) within (omega (arith, place, grown.longer)) in
            nd (ap (mark_at marks) (sym place) ∙ done) in
            let same_cell : cell_at cells i ≡ cell_at old i =
            sym (get_or-take (length old) cells i Free (omega arith))
            ∙ sym (undone_other grown.since (take (length old) cells) i no_change not_changed)
            ∙ ap (λ xs. cell_at xs i) grown.back in
            let P : Cell → Type 0 = λ c. IsPart c p in
            let falls = founded.falls i p (subst P same_cell e) in
            elim (cases_eq (mark_at marks p) (2 * round + 1)) [
              | inl pd ↦ omega (arith, r_not i nd, r_done p pd, calm.ranked.below p pd)
              | inr pn ↦ omega (arith, r_not i nd, r_not p pn, falls)
            ]
      ];
    }
