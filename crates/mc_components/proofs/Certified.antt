-- What a search that was checked says of the components of its graph.
use Rattle.std.proofs.Common.{◌≡◌, ℕ, zero, suc, ◌<◌, ◌≤◌, true, false, ◌&&◌, ◌||◌, List, [], ◌∷◌, length, ◌⊎◌, ◌↔◌, inl, inr, refl, sym, ap, ◌∙◌, subst, arith}
use Rattle.std.specs.Prelude.{Option, Some, None, nat_eq, nat_lt, nat_le, slice_get, slice_index}
use Rattle.std.proofs.lemmas.Bool.{or_cases, and_parts, eqb-true, ltb-true, leb-true}
use Rattle.std.proofs.lemmas.Bool.Decides.{eqb_tells}
use Rattle.std.proofs.lemmas.Option.{slice_get_within, slice_get_cases}
use Rattle.mc_model.specs.Lists.{is_in}
use Rattle.mc_components.specs.declared.search.Node.{Node}
use Rattle.mc_components.specs.Reached.{reaches, Way}
use Rattle.mc_components.specs.Components.{steps, NumbersComponents, StepsGoDown}
use Rattle.mc_components.specs.code.Certificate.{step, is_number, is_root, are_together, all_below, is_later, is_entered, is_nearer, is_towards, is_left, is_right, IsCertified}
use Rattle.mc_components.proofs.Reaching.{reached_by_ways}
use Rattle.mc_components.proofs.Spanning.{Led, Spans, between, descends}

abbrev pub found_of : Option Node → ℕ
found_of None = 0
found_of (Some d) = d.found

abbrev pub low_of : Option Node → ℕ
low_of None = 0
low_of (Some d) = d.low

pub inside :
    (graph : List (List ℕ)) (k j : ℕ) → is_in j (steps graph k) ≡ true → k < length graph
inside [] k j e = absurd (let clash : false ≡ true = e in cc)
inside (row ∷ rows) zero j e = omega arith
inside (row ∷ rows) (suc k) j e =
    let rest : k < length rows = inside rows k j e in
    omega arith

pub in_tail : (j x : ℕ) (xs : List ℕ) → is_in j xs ≡ true → is_in j (x ∷ xs) ≡ true
in_tail j x xs e = elim (eqb_tells j x) [ inl p ↦ rw p.0 refl | inr p ↦ rw p.0 e ]

pub in_head : (j x : ℕ) (xs : List ℕ) → j ≡ x → is_in j (x ∷ xs) ≡ true
in_head j x xs e =
    elim (eqb_tells j x) [ inl p ↦ rw p.0 refl | inr p ↦ absurd (p.1 e) ]

pub in_by_place : (xs : List ℕ) (p j : ℕ) → slice_get xs p ≡ Some j → is_in j xs ≡ true
in_by_place [] p j e = absurd (let clash : None ≡ Some j = e in cc)
in_by_place (x ∷ xs) zero j e =
    let same : Some x ≡ Some j = e in
    let one : j ≡ x = cc in
    in_head j x xs one
in_by_place (x ∷ xs) (suc p) j e = in_tail j x xs (in_by_place xs p j e)

pub in_cases : (j x : ℕ) (xs : List ℕ) → is_in j (x ∷ xs) ≡ true → (j ≡ x) ⊎ (is_in j xs ≡ true)
in_cases j x xs e =
    elim (eqb_tells j x) [ inl p ↦ inl p.1 | inr p ↦ inr (rw p.0 at e) ]

below_each :
    (cs : List ℕ) (c : ℕ) (js : List ℕ) (j : ℕ)
    → all_below cs c js ≡ true → is_in j js ≡ true → slice_index cs j ≤ c
below_each cs c [] j h e = absurd (let clash : false ≡ true = e in cc)
below_each cs c (x ∷ xs) j h e =
    let parts = and_parts (nat_le (slice_index cs x) c) (all_below cs c xs) h in
    let here : slice_index cs x ≤ c = leb-true (slice_index cs x) c parts.0 in
    elim (in_cases j x xs e) [
      | inl same ↦ subst (λ (y : ℕ). slice_index cs y ≤ c) (sym same) here
      | inr rest ↦ below_each cs c xs j parts.1 rest
    ]

pub number_is : (o : Option ℕ) (n : ℕ) → is_number o n ≡ true → o ≡ Some n
number_is None n e = absurd (let clash : false ≡ true = e in cc)
number_is (Some m) n e = ap Some (eqb-true m n e)

sole_root :
    (cs roots : List ℕ) (k j : ℕ)
    → is_root cs roots k ≡ true → is_root cs roots j ≡ true
    → slice_index cs k ≡ slice_index cs j → k ≡ j
sole_root cs roots k j p q same =
    let at_k : slice_get roots (slice_index cs k) ≡ Some k =
    number_is (slice_get roots (slice_index cs k)) k p
    in
    let at_j : slice_get roots (slice_index cs j) ≡ Some j =
    number_is (slice_get roots (slice_index cs j)) j q
    in
    let both : Some k ≡ Some j = sym at_k ∙ ap (slice_get roots) same ∙ at_j in
    cc

later_than :
    (o : Option Node) (d : Node)
    → is_later o d ≡ true → (b : Node) × ((o ≡ Some b) × (b.found < d.found))
later_than None d e = absurd (let clash : false ≡ true = e in cc)
later_than (Some b) d e = (b, (refl, ltb-true b.found d.found e))

nearer_than :
    (d e : Node)
    → is_nearer d e ≡ true
    → (e.low < d.low) ⊎ ((e.low ≡ d.low) × (d.found < e.found))
nearer_than d e h =
    elim (or_cases (nat_lt e.low d.low) (nat_eq e.low d.low && nat_lt d.found e.found) h) [
      | inl less ↦ inl (ltb-true e.low d.low less)
      | inr both ↦
          let parts = and_parts (nat_eq e.low d.low) (nat_lt d.found e.found) both in
          inr (eqb-true e.low d.low parts.0, ltb-true d.found e.found parts.1)
    ]

towards :
    (cs roots : List ℕ) (d : Node) (w : ℕ) (o : Option Node)
    → is_towards cs roots d w o ≡ true
    → (e : Node)
    × ((o ≡ Some e)
    × ((is_root cs roots w ≡ true)
    ⊎ ((e.low < d.low) ⊎ ((e.low ≡ d.low) × (d.found < e.found)))))
towards cs roots d w None h = absurd (let clash : false ≡ true = h in cc)
towards cs roots d w (Some e) h = (
  e,
  (
    refl,
    elim (or_cases (is_root cs roots w) (is_nearer d e) h) [
      | inl is ↦ inl is
      | inr near ↦ inr (nearer_than d e near)
    ],
  ),
)

left_by :
    (cs roots : List ℕ) (nodes : List Node) (v : ℕ) (d : Node) (o : Option ℕ)
    → is_left cs roots nodes v d o ≡ true
    → (w : ℕ)
    × ((o ≡ Some w)
    × ((slice_index cs w ≡ slice_index cs v)
    × (is_towards cs roots d w (slice_get nodes w) ≡ true)))
left_by cs roots nodes v d None h = absurd (let clash : false ≡ true = h in cc)
left_by cs roots nodes v d (Some w) h =
    let parts =
    and_parts (are_together cs w v) (is_towards cs roots d w (slice_get nodes w)) h
    in
    (w, (refl, (eqb-true (slice_index cs w) (slice_index cs v) parts.0, parts.1)))

-- the steps to and from a node that isn't the first of its component
led_by :
    (graph : List (List ℕ)) (cs roots : List ℕ) (nodes : List Node) (v : ℕ) (d : Node)
    → length nodes ≡ length graph → slice_get nodes v ≡ Some d
    → is_entered graph cs nodes v d ≡ true
    → is_left cs roots nodes v d (step graph v d.exit) ≡ true
    → Led (steps graph) (length graph) (slice_index cs) (λ k. found_of (slice_get nodes k))
    (λ k. low_of (slice_get nodes k)) (is_root cs roots) v
led_by graph cs roots nodes v d known is entered left =
    let e =
    and_parts (is_number (step graph d.from d.entry) v)
    (are_together cs d.from v && is_later (slice_get nodes d.from) d) entered
    in
    let f = and_parts (are_together cs d.from v) (is_later (slice_get nodes d.from) d) e.1 in
    let enters : step graph d.from d.entry ≡ Some v =
    number_is (step graph d.from d.entry) v e.0
    in
    let before = later_than (slice_get nodes d.from) d f.1 in
    let on = left_by cs roots nodes v d (step graph v d.exit) left in
    let near = towards cs roots d on.0 (slice_get nodes on.0) on.1.1.1 in
    let found_v : found_of (slice_get nodes v) ≡ d.found = ap found_of is in
    let low_v : low_of (slice_get nodes v) ≡ d.low = ap low_of is in
    let found_b : found_of (slice_get nodes d.from) ≡ before.0.found = ap found_of before.1.0 in
    let found_w : found_of (slice_get nodes on.0) ≡ near.0.found = ap found_of near.1.0 in
    let low_w : low_of (slice_get nodes on.0) ≡ near.0.low = ap low_of near.1.0 in
    let earlier : before.0.found < d.found = before.1.1 in
    let from_inside : d.from < length nodes =
    slice_get_within nodes d.from before.0 before.1.0
    in
    let on_inside : on.0 < length nodes = slice_get_within nodes on.0 near.0 near.1.0 in
    record {
      before = d.from;
      is_before = omega arith;
      enters = in_by_place (steps graph d.from) d.entry v enters;
      before_together = eqb-true (slice_index cs d.from) (slice_index cs v) f.0;
      before_earlier = omega arith;
      after = on.0;
      is_after = omega arith;
      leaves = in_by_place (steps graph v) d.exit on.0 on.1.0;
      after_together = on.1.1.0;
      after_nearer =
          elim near.1.1 [
            | inl root ↦ inl root
            | inr nearer ↦
                inr (elim nearer [
                  | inl less ↦ inl (omega arith)
                  | inr both ↦
                      let as_low : near.0.low ≡ d.low = both.0 in
                      let later : d.found < near.0.found = both.1 in
                      inr (omega arith, omega arith)
                ])
          ];
    }

pub spans :
    (graph : List (List ℕ)) (cs roots : List ℕ) (nodes : List Node)
    → IsCertified graph cs roots nodes
    → Spans (steps graph) (length graph) (slice_index cs) (λ k. found_of (slice_get nodes k))
    (λ k. low_of (slice_get nodes k)) (is_root cs roots)
spans graph cs roots nodes c =
    let right_at :
    (v : ℕ) → v < length graph
    → (d : Node)
    × ((slice_get nodes v ≡ Some d) × (is_right graph cs roots nodes v d ≡ true)) =
    λ v below.
    let known : length nodes ≡ length graph = c.all_known in
    let within : v < length nodes = omega arith in
    elim (slice_get_cases nodes v).1 [
      | inl p ↦ (p.0, (p.2, c.right v within p.0 p.2))
      | inr p ↦ absurd (let past : length nodes ≤ v = p.0 in omega arith)
    ]
    in
    record {
      inside = inside graph;
      down =
          λ k j e.
          below_each cs (slice_index cs k) (steps graph k) j (c.down k (inside graph k j e)) e;
      sole = sole_root cs roots;
      early =
          λ k below.
          let at = right_at k below in
          let parts =
          and_parts (nat_lt at.0.found (length nodes))
          (is_root cs roots k
          || (is_entered graph cs nodes k at.0
          && is_left cs roots nodes k at.0 (step graph k at.0.exit))) at.1.1
          in
          let early : at.0.found < length nodes = ltb-true at.0.found (length nodes) parts.0 in
          let is : found_of (slice_get nodes k) ≡ at.0.found = ap found_of at.1.0 in
          let known : length nodes ≡ length graph = c.all_known in
          omega arith;
      led =
          λ v below.
          let at = right_at v below in
          let parts =
          and_parts (nat_lt at.0.found (length nodes))
          (is_root cs roots v
          || (is_entered graph cs nodes v at.0
          && is_left cs roots nodes v at.0 (step graph v at.0.exit))) at.1.1
          in
          elim (or_cases (is_root cs roots v)
          (is_entered graph cs nodes v at.0
          && is_left cs roots nodes v at.0 (step graph v at.0.exit)) parts.1) [
            | inl is ↦ inl is
            | inr both ↦
                let halves =
                and_parts (is_entered graph cs nodes v at.0)
                (is_left cs roots nodes v at.0 (step graph v at.0.exit)) both
                in
                inr (led_by graph cs roots nodes v at.0 c.all_known at.1.0 halves.0 halves.1)
          ];
    }

pub goes_down :
    (graph : List (List ℕ)) (cs roots : List ℕ) (nodes : List Node)
    → IsCertified graph cs roots nodes → StepsGoDown graph cs
goes_down graph cs roots nodes c k j e below = (spans graph cs roots nodes c).down k j e

pub numbered :
    (graph : List (List ℕ)) (cs roots : List ℕ) (nodes : List Node)
    → IsCertified graph cs roots nodes → NumbersComponents graph cs
numbered graph cs roots nodes c k j below_k below_j =
    let s = spans graph cs roots nodes c in
    let n = length graph in
    let found : ℕ → ℕ = λ k. found_of (slice_get nodes k) in
    let low : ℕ → ℕ = λ k. low_of (slice_get nodes k) in
    let ways : (k j : ℕ) → (reaches (steps graph) n k j ≡ true) ↔ Way (steps graph) n k j =
    reached_by_ways (steps graph) n
    in (
      λ same.
          elim (between (steps graph) n (slice_index cs) found low (is_root cs roots) s k j below_k below_j
          same) [
            | inl one ↦ inl one
            | inr there ↦
                elim (between (steps graph) n (slice_index cs) found low (is_root cs roots) s j k below_j
                below_k (sym same)) [
                  | inl one ↦ inl (sym one)
                  | inr back ↦ inr ((ways k j).1 there, (ways j k).1 back)
                ]
          ],
      λ h.
          elim h [
            | inl one ↦ ap (slice_index cs) one
            | inr each ↦
                let p : slice_index cs j ≤ slice_index cs k =
                descends (steps graph) n (slice_index cs) found low (is_root cs roots) s n k j
                ((ways k j).0 each.0)
                in
                let q : slice_index cs k ≤ slice_index cs j =
                descends (steps graph) n (slice_index cs) found low (is_root cs roots) s n j k
                ((ways j k).0 each.1)
                in
                omega arith
          ],
    )

pub numbered_at :
    (graph rows : List (List ℕ)) (numbers cs roots : List ℕ) (nodes : List Node)
    → rows ≡ graph → cs ≡ numbers
    → IsCertified rows cs roots nodes → NumbersComponents graph numbers
numbered_at graph rows numbers cs roots nodes same_rows same_numbers c =
    subst (λ (g : List (List ℕ)). NumbersComponents g numbers) same_rows
    (subst (λ (ns : List ℕ). NumbersComponents rows ns) same_numbers (numbered rows cs roots nodes c))

pub goes_down_at :
    (graph rows : List (List ℕ)) (numbers cs roots : List ℕ) (nodes : List Node)
    → rows ≡ graph → cs ≡ numbers
    → IsCertified rows cs roots nodes → StepsGoDown graph numbers
goes_down_at graph rows numbers cs roots nodes same_rows same_numbers c =
    subst (λ (g : List (List ℕ)). StepsGoDown g numbers) same_rows
    (subst (λ (ns : List ℕ). StepsGoDown rows ns) same_numbers (goes_down rows cs roots nodes c))
