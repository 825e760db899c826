-- Each node of a component is reached from the component's first node and leads to it, where a step
-- from an earlier node enters each other node, and a step towards the first leaves it.
use Rattle.std.proofs.Common.{◌≡◌, ℕ, zero, suc, ◌+◌, ◌<◌, ◌≤◌, Bool, true, List, ◌⊎◌, inl, inr, refl, sym, ap, ◌∙◌, subst, arith}
use Rattle.mc_model.specs.Lists.{is_in}
use Rattle.mc_components.specs.Reached.{Way, step, over}

-- steps from and to a node that is not the first of its component
pub record Led
    (next : ℕ → List ℕ) (n : ℕ) (part found low : ℕ → ℕ) (root : ℕ → Bool) (v : ℕ) : Type 0 where
  pub before : ℕ
  pub is_before : before < n
  pub enters : is_in v (next before) ≡ true
  pub before_together : part before ≡ part v
  pub before_earlier : found before < found v
  pub after : ℕ
  pub is_after : after < n
  pub leaves : is_in after (next v) ≡ true
  pub after_together : part after ≡ part v
  pub after_nearer :
      (root after ≡ true)
      ⊎ ((low after < low v) ⊎ ((low after ≡ low v) × (found v < found after)))

pub record Spans
    (next : ℕ → List ℕ) (n : ℕ) (part found low : ℕ → ℕ) (root : ℕ → Bool) : Type 0 where
  pub inside : (k j : ℕ) → is_in j (next k) ≡ true → k < n
  pub down : (k j : ℕ) → is_in j (next k) ≡ true → part j ≤ part k
  pub sole : (k j : ℕ) → root k ≡ true → root j ≡ true → part k ≡ part j → k ≡ j
  pub early : (k : ℕ) → k < n → found k < n
  pub led : (v : ℕ) → v < n → (root v ≡ true) ⊎ Led next n part found low root v

-- a first node of a node's component that reaches it or is it, and one that it reaches or is
pub record Begun
    (next : ℕ → List ℕ) (n : ℕ) (part : ℕ → ℕ) (root : ℕ → Bool) (v : ℕ) : Type 0 where
  pub first : ℕ
  pub is_node : first < n
  pub is_first : root first ≡ true
  pub together : part first ≡ part v
  pub way : (first ≡ v) ⊎ Way next n first v

pub record Ended
    (next : ℕ → List ℕ) (n : ℕ) (part : ℕ → ℕ) (root : ℕ → Bool) (v : ℕ) : Type 0 where
  pub first : ℕ
  pub is_node : first < n
  pub is_first : root first ≡ true
  pub together : part first ≡ part v
  pub way : (v ≡ first) ⊎ Way next n v first

way_on :
    (next : ℕ → List ℕ) (n k i j : ℕ)
    → i < n → (k ≡ i) ⊎ Way next n k i → is_in j (next i) ≡ true → Way next n k j
way_on next n k i j below w e =
    elim w [
      | inl same ↦ step (ap (λ x. is_in j (next x)) same ∙ e)
      | inr w ↦ over below w (step e)
    ]

way_from :
    (next : ℕ → List ℕ) (n k i j : ℕ)
    → i < n → is_in i (next k) ≡ true → (i ≡ j) ⊎ Way next n i j → Way next n k j
way_from next n k i j below e w =
    elim w [
      | inl same ↦ step (ap (λ x. is_in x (next k)) (sym same) ∙ e)
      | inr w ↦ over below (step e) w
    ]

joined :
    (next : ℕ → List ℕ) (n k i j : ℕ)
    → i < n → (k ≡ i) ⊎ Way next n k i → (i ≡ j) ⊎ Way next n i j → (k ≡ j) ⊎ Way next n k j
joined next n k i j below p q =
    elim p [
      | inl same ↦
          elim q [
            | inl also ↦ inl (same ∙ also)
            | inr w ↦ inr (subst (λ (x : ℕ). Way next n x j) (sym same) w)
          ]
      | inr v ↦
          elim q [
            | inl same ↦ inr (subst (λ (x : ℕ). Way next n k x) same v)
            | inr w ↦ inr (over below v w)
          ]
    ]

itself_begun :
    (next : ℕ → List ℕ) (n : ℕ) (part : ℕ → ℕ) (root : ℕ → Bool) (v : ℕ)
    → v < n → root v ≡ true → Begun next n part root v
itself_begun next n part root v below is =
    record { first = v; is_node = below; is_first = is; together = refl; way = inl refl }

itself_ended :
    (next : ℕ → List ℕ) (n : ℕ) (part : ℕ → ℕ) (root : ℕ → Bool) (v : ℕ)
    → v < n → root v ≡ true → Ended next n part root v
itself_ended next n part root v below is =
    record { first = v; is_node = below; is_first = is; together = refl; way = inl refl }

-- by how late a node was found
begun_by :
    (next : ℕ → List ℕ) (n : ℕ) (part found low : ℕ → ℕ) (root : ℕ → Bool)
    → Spans next n part found low root
    → (m v : ℕ) → v < n → found v < m → Begun next n part root v
begun_by next n part found low root s zero v below small = absurd (omega arith)
begun_by next n part found low root s (suc m) v below small =
    elim (s.led v below) [
      | inl is ↦ itself_begun next n part root v below is
      | inr led ↦
          let b = led.before in
          let earlier : found b < found v = led.before_earlier in
          let less : found b < m = omega arith in
          let rest = begun_by next n part found low root s m b led.is_before less in
          record {
            first = rest.first;
            is_node = rest.is_node;
            is_first = rest.is_first;
            together = rest.together ∙ led.before_together;
            way = inr (way_on next n rest.first b v led.is_before rest.way led.enters);
          }
    ]

ended_on :
    (next : ℕ → List ℕ) (n : ℕ) (part found low : ℕ → ℕ) (root : ℕ → Bool) (v : ℕ)
    → (led : Led next n part found low root v)
    → Ended next n part root led.after → Ended next n part root v
ended_on next n part found low root v led rest =
    record {
      first = rest.first;
      is_node = rest.is_node;
      is_first = rest.is_first;
      together = rest.together ∙ led.after_together;
      way = inr (way_from next n v led.after rest.first led.is_after led.leaves rest.way);
    }

-- by how late it was found, among nodes that lead to one as early
ended_along :
    (next : ℕ → List ℕ) (n : ℕ) (part found low : ℕ → ℕ) (root : ℕ → Bool)
    → Spans next n part found low root
    → (a : ℕ) → ((w : ℕ) → w < n → low w < a → Ended next n part root w)
    → (m v : ℕ) → v < n → low v ≤ a → n < found v + m → Ended next n part root v
ended_along next n part found low root s a before zero v below low_v late =
    absurd (let early : found v < n = s.early v below in omega arith)
ended_along next n part found low root s a before (suc m) v below low_v late =
    elim (s.led v below) [
      | inl is ↦ itself_ended next n part root v below is
      | inr led ↦
          ended_on next n part found low root v led
          (elim led.after_nearer [
            | inl is ↦ itself_ended next n part root led.after led.is_after is
            | inr nearer ↦
                elim nearer [
                  | inl less ↦
                      let lower : low led.after < a = omega arith in
                      before led.after led.is_after lower
                  | inr later ↦
                      let as_low : low led.after ≤ a = omega arith in
                      let later : n < found led.after + m = omega arith in
                      ended_along next n part found low root s a before m led.after led.is_after
                      as_low later
                ]
          ])
    ]

-- by how early a node it leads to
ended_by :
    (next : ℕ → List ℕ) (n : ℕ) (part found low : ℕ → ℕ) (root : ℕ → Bool)
    → Spans next n part found low root
    → (a v : ℕ) → v < n → low v < a → Ended next n part root v
ended_by next n part found low root s zero v below small = absurd (omega arith)
ended_by next n part found low root s (suc a) v below small =
    let low_v : low v ≤ a = omega arith in
    let late : n < found v + suc n = omega arith in
    ended_along next n part found low root s a (ended_by next n part found low root s a) (suc n) v
    below low_v late

-- nodes of one component are one, or there is a way from each to the other
pub between :
    (next : ℕ → List ℕ) (n : ℕ) (part found low : ℕ → ℕ) (root : ℕ → Bool)
    → Spans next n part found low root
    → (k j : ℕ) → k < n → j < n → part k ≡ part j → (k ≡ j) ⊎ Way next n k j
between next n part found low root s k j below_k below_j same =
    let small_k : low k < suc (low k) = omega arith in
    let small_j : found j < suc (found j) = omega arith in
    let p = ended_by next n part found low root s (suc (low k)) k below_k small_k in
    let q = begun_by next n part found low root s (suc (found j)) j below_j small_j in
    let one : p.first ≡ q.first =
    s.sole p.first q.first p.is_first q.is_first (p.together ∙ same ∙ sym q.together)
    in
    joined next n k q.first j q.is_node
    (subst (λ (x : ℕ). (k ≡ x) ⊎ Way next n k x) one p.way)
    q.way

-- a way leads to no greater number
pub descends :
    (next : ℕ → List ℕ) (n : ℕ) (part found low : ℕ → ℕ) (root : ℕ → Bool)
    → Spans next n part found low root
    → (b k j : ℕ) → Way next b k j → part j ≤ part k
descends next n part found low root s b k j (step e) = s.down k j e
descends next n part found low root s b k j (over {i = i} less v w) =
    let first = descends next n part found low root s b k i v in
    let second = descends next n part found low root s b i j w in
    omega arith
