-- What comes back: the end of a step reaches its start exactly where both are in one component.
use Rattle.std.proofs.Common.{◌≡◌, ℕ, ◌<◌, Bool, true, false, ◌||◌, List, [], ◌∷◌, length, get_or, ◌⊎◌, inl, inr, refl, sym, ap, ◌∙◌, subst, arith}
use Rattle.std.specs.Prelude.{Some, slice_get, slice_index}
use Rattle.std.proofs.lemmas.Bool.{or_cases, or_left, or_right, eq-eqb}
use Rattle.std.proofs.lemmas.Option.{slice_get-get_or, slice_get_within, get_or_from_slice_get}
use Rattle.mc_model.specs.Lists.{is_in}
use Rattle.mc_components.specs.Reached.{reaches, Way, step, over}
use Rattle.mc_components.specs.Components.{steps, NumbersComponents, one_reaches}
use Rattle.mc_components.specs.code.Certificate.{is_number, one_within}
use Rattle.mc_components.proofs.Reaching.{reached_by_ways}
use Rattle.mc_components.proofs.Certified.{inside, number_is, in_head, in_tail, in_cases}

pub same_tests :
    (a b : Bool) → (a ≡ true → b ≡ true) → (b ≡ true → a ≡ true) → a ≡ b
same_tests true b f g = sym (f refl)
same_tests false true f g = g refl
same_tests false false f g = refl

pub begins :
    (graph : List (List ℕ)) (b k j : ℕ) → Way (steps graph) b k j → k < length graph
begins graph b k j (step e) = inside graph k j e
begins graph b k j (over {i = i} less v w) = begins graph b k i v

by_step :
    (graph : List (List ℕ)) (k j : ℕ)
    → is_in j (steps graph k) ≡ true → reaches (steps graph) (length graph) k j ≡ true
by_step graph k j e = (reached_by_ways (steps graph) (length graph) k j).1 (step e)

pub comes_back :
    (graph : List (List ℕ)) (numbers : List ℕ) (k j : ℕ)
    → length numbers ≡ length graph → NumbersComponents graph numbers
    → is_in j (steps graph k) ≡ true
    → is_number (slice_get numbers j) (slice_index numbers k)
    ≡ reaches (steps graph) (length graph) j k
comes_back graph numbers k j count alike e =
    let n = length graph in
    let below_k : k < length graph = inside graph k j e in
    same_tests (is_number (slice_get numbers j) (slice_index numbers k))
    (reaches (steps graph) (length graph) j k)
    (λ is.
    let got : slice_get numbers j ≡ Some (slice_index numbers k) =
    number_is (slice_get numbers j) (slice_index numbers k) is
    in
    let within : j < length numbers = slice_get_within numbers j (slice_index numbers k) got in
    let below_j : j < length graph = omega arith in
    let same : slice_index numbers j ≡ slice_index numbers k =
    get_or_from_slice_get numbers j (slice_index numbers k) 0 got
    in
    elim ((alike j k below_j below_k).0 same) [
      | inl one ↦
          let back : is_in k (steps graph j) ≡ true =
          ap (λ (x : ℕ). is_in k (steps graph x)) one
          ∙ ap (λ (x : ℕ). is_in x (steps graph k)) (sym one)
          ∙ e
          in
          by_step graph j k back
      | inr each ↦ each.0
    ])
    (λ back.
    let below_j : j < length graph =
    begins graph (length graph) j k
    ((reached_by_ways (steps graph) (length graph) j k).0 back)
    in
    let within : j < length numbers = omega arith in
    let same : slice_index numbers j ≡ slice_index numbers k =
    (alike j k below_j below_k).1 (inr (back, by_step graph k j e))
    in
    ap (λ o. is_number o (slice_index numbers k)) (slice_get-get_or numbers j 0 within)
    ∙ eq-eqb (slice_index numbers j) (slice_index numbers k) same)

pub one_within_reaches :
    (graph : List (List ℕ)) (numbers : List ℕ) (k : ℕ) (js : List ℕ)
    → length numbers ≡ length graph → NumbersComponents graph numbers
    → ((j : ℕ) → is_in j js ≡ true → is_in j (steps graph k) ≡ true)
    → one_within numbers (slice_index numbers k) js ≡ one_reaches graph k js
one_within_reaches graph numbers k [] count alike among = refl
one_within_reaches graph numbers k (j ∷ js) count alike among =
    let here =
    comes_back graph numbers k j count alike (among j (in_head j j js refl))
    in
    let rest =
    one_within_reaches graph numbers k js count alike (λ i e. among i (in_tail i j js e))
    in
    ap (λ (b : Bool). b || one_within numbers (slice_index numbers k) js) here
    ∙ ap (λ (b : Bool). reaches (steps graph) (length graph) j k || b) rest

-- the first step of a way
pub record Start (next : ℕ → List ℕ) (b : ℕ) (k j : ℕ) : Type 0 where
  pub first : ℕ
  pub is_step : is_in first (next k) ≡ true
  pub rest : (first ≡ j) ⊎ Way next b first j

start : (next : ℕ → List ℕ) (b k j : ℕ) → Way next b k j → Start next b k j
start next b k j (step e) = record { first = j; is_step = e; rest = inl refl }
start next b k j (over {i = i} less v w) =
    let s = start next b k i v in
    record {
      first = s.first;
      is_step = s.is_step;
      rest =
          inr (elim s.rest [
            | inl same ↦ subst (λ (x : ℕ). Way next b x j) (sym same) w
            | inr u ↦ over less u w
          ]);
    }

one_of :
    (graph : List (List ℕ)) (k j : ℕ) (js : List ℕ)
    → is_in j js ≡ true → reaches (steps graph) (length graph) j k ≡ true
    → one_reaches graph k js ≡ true
one_of graph k j [] e r = absurd (let clash : false ≡ true = e in cc)
one_of graph k j (x ∷ xs) e r =
    elim (in_cases j x xs e) [
      | inl same ↦
          or_left (reaches (steps graph) (length graph) x k) (one_reaches graph k xs)
          (ap (λ (y : ℕ). reaches (steps graph) (length graph) y k) (sym same) ∙ r)
      | inr later ↦
          or_right (reaches (steps graph) (length graph) x k) (one_reaches graph k xs)
          (one_of graph k j xs later r)
    ]

pub record One (graph : List (List ℕ)) (k : ℕ) (js : List ℕ) : Type 0 where
  pub node : ℕ
  pub among : is_in node js ≡ true
  pub back : reaches (steps graph) (length graph) node k ≡ true

one_from :
    (graph : List (List ℕ)) (k : ℕ) (js : List ℕ)
    → one_reaches graph k js ≡ true → One graph k js
one_from graph k [] h = absurd (let clash : false ≡ true = h in cc)
one_from graph k (x ∷ xs) h =
    elim (or_cases (reaches (steps graph) (length graph) x k) (one_reaches graph k xs) h) [
      | inl here ↦ record { node = x; among = in_head x x xs refl; back = here }
      | inr later ↦
          let o = one_from graph k xs later in
          record { node = o.node; among = in_tail o.node x xs o.among; back = o.back }
    ]

-- a node reaches itself where one to which it has a step reaches it
pub round_by_one :
    (graph : List (List ℕ)) (k : ℕ)
    → k < length graph
    → one_reaches graph k (steps graph k) ≡ reaches (steps graph) (length graph) k k
round_by_one graph k below =
    let n = length graph in
    let ways = reached_by_ways (steps graph) (length graph) in
    same_tests (one_reaches graph k (steps graph k)) (reaches (steps graph) (length graph) k k)
    (λ h.
    let o = one_from graph k (steps graph k) h in
    let there : o.node < length graph =
    begins graph (length graph) o.node k ((ways o.node k).0 o.back)
    in
    (ways k k).1 (over there (step o.among) ((ways o.node k).0 o.back)))
    (λ r.
    let s = start (steps graph) (length graph) k k ((ways k k).0 r) in
    one_of graph k s.first (steps graph k) s.is_step
    (elim s.rest [
      | inl same ↦
          let itself : is_in k (steps graph s.first) ≡ true =
          ap (λ (x : ℕ). is_in k (steps graph x)) same
          ∙ ap (λ (x : ℕ). is_in x (steps graph k)) (sym same)
          ∙ s.is_step
          in
          by_step graph s.first k itself
      | inr w ↦ (ways s.first k).1 w
    ]))

default_of : (xs : List (List ℕ)) (k : ℕ) (d e : List ℕ) → k < length xs → get_or xs k d ≡ get_or xs k e
default_of xs k d e below =
    let p = slice_get-get_or xs k d below in
    let q = slice_get-get_or xs k e below in
    let both : Some (get_or xs k d) ≡ Some (get_or xs k e) = sym p ∙ q in
    cc

pub one_within_at :
    (graph : List (List ℕ)) (numbers ns ms js : List ℕ) (k c : ℕ) (b : Bool)
    → length numbers ≡ length graph → NumbersComponents graph numbers
    → ((j : ℕ) → is_in j js ≡ true → is_in j (steps graph k) ≡ true)
    → ns ≡ numbers → ms ≡ numbers → c ≡ slice_index ms k → b ≡ one_within ns c js
    → b ≡ one_reaches graph k js
one_within_at graph numbers ns ms js k c b count alike among same_ns same_ms is_c is_b =
    let c_is : c ≡ slice_index numbers k = is_c ∙ ap (λ (xs : List ℕ). slice_index xs k) same_ms in
    is_b
    ∙ ap (λ (xs : List ℕ). one_within xs c js) same_ns
    ∙ ap (λ (d : ℕ). one_within numbers d js) c_is
    ∙ one_within_reaches graph numbers k js count alike among

pub itself_at :
    (graph : List (List ℕ)) (numbers ns ms js row : List ℕ) (k c : ℕ) (b : Bool)
    → k < length graph → length numbers ≡ length graph → NumbersComponents graph numbers
    → ns ≡ numbers → ms ≡ numbers → c ≡ slice_index ms k
    → js ≡ row → row ≡ get_or graph k row → b ≡ one_within ns c js
    → b ≡ reaches (steps graph) (length graph) k k
itself_at graph numbers ns ms js row k c b below count alike same_ns same_ms is_c same_js is_row is_b =
    let all : js ≡ steps graph k = same_js ∙ is_row ∙ default_of graph k row [] below in
    let among : (j : ℕ) → is_in j js ≡ true → is_in j (steps graph k) ≡ true =
    λ j e. ap (is_in j) (sym all) ∙ e
    in
    one_within_at graph numbers ns ms js k c b count alike among same_ns same_ms is_c is_b
    ∙ ap (one_reaches graph k) all
    ∙ round_by_one graph k below
