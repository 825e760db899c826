-- What a search found, as it is checked.
use Rattle.std.specs.Prelude.{◌≡◌, ◌<◌, ◌&&◌, ◌||◌, ℕ, Bool, true, false, nat_eq, nat_lt, nat_le, List, [], ◌∷◌, Option, Some, None, length, slice_get, slice_index}
use Rattle.mc_components.specs.declared.search.Node.{Node}
use Rattle.mc_components.specs.Components.{steps}

-- where the step at a place of a node's row leads
abbrev pub step : (graph : List (List ℕ)) → (from place : ℕ) → Option ℕ
step graph from place = slice_get (steps graph from) place

abbrev pub is_number : Option ℕ → ℕ → Bool
is_number None n = false
is_number (Some m) n = nat_eq m n

-- whether a node is the first of its component
abbrev pub is_root : (components roots : List ℕ) → ℕ → Bool
is_root components roots v = is_number (slice_get roots (slice_index components v)) v

-- whether two nodes are in one component
abbrev pub are_together : (components : List ℕ) → ℕ → ℕ → Bool
are_together components k j = nat_eq (slice_index components k) (slice_index components j)

-- each of these nodes is in a component of this number or a smaller one
abbrev pub all_below : (components : List ℕ) → (number : ℕ) → List ℕ → Bool
all_below components c [] = true
all_below components c (j ∷ js) =
    nat_le (slice_index components j) c && all_below components c js

-- whether a node was found by a step from an earlier one of its component
abbrev pub is_later : Option Node → Node → Bool
is_later None d = false
is_later (Some before) d = nat_lt before.found d.found

abbrev pub is_entered :
    (graph : List (List ℕ)) → (components : List ℕ) → (nodes : List Node) → ℕ → Node → Bool
is_entered graph components nodes v d =
    is_number (step graph d.from d.entry) v
    && (are_together components d.from v && is_later (slice_get nodes d.from) d)

-- whether what is known of a second node is nearer to the first of the component: it leads to an
-- earlier one, or to as early a one and was found later
abbrev pub is_nearer : (node second : Node) → Bool
is_nearer d e = nat_lt e.low d.low || (nat_eq e.low d.low && nat_lt d.found e.found)

abbrev pub is_towards :
    (components roots : List ℕ) → Node → (second : ℕ) → Option Node → Bool
is_towards components roots d w None = false
is_towards components roots d w (Some e) = is_root components roots w || is_nearer d e

-- whether a node's step leads towards the first of its component
abbrev pub is_left :
    (components roots : List ℕ) → (nodes : List Node) → ℕ → Node → Option ℕ → Bool
is_left components roots nodes v d None = false
is_left components roots nodes v d (Some w) =
    are_together components w v && is_towards components roots d w (slice_get nodes w)

-- whether what is known of a node is right
abbrev pub is_right :
    (graph : List (List ℕ)) → (components roots : List ℕ) → (nodes : List Node) → ℕ → Node → Bool
is_right graph components roots nodes v d =
    nat_lt d.found (length nodes)
    && (is_root components roots v
    || (is_entered graph components nodes v d
    && is_left components roots nodes v d (step graph v d.exit)))

-- what a search found is right: of the nodes, and of the steps, none of which leads to a component of
-- a greater number
pub record IsCertified
    (graph : List (List ℕ)) (components roots : List ℕ) (nodes : List Node) : Type 0 where
  pub all_known : length nodes ≡ length graph
  pub all_placed : length components ≡ length graph
  pub down :
      (k : ℕ) → k < length graph
      → all_below components (slice_index components k) (steps graph k) ≡ true
  pub right :
      (k : ℕ) → k < length nodes → (node : Node) → slice_get nodes k ≡ Some node
      → is_right graph components roots nodes k node ≡ true

-- whether one of these nodes is in the component of a number
abbrev pub one_within : (components : List ℕ) → (number : ℕ) → List ℕ → Bool
one_within components c [] = false
one_within components c (j ∷ js) =
    is_number (slice_get components j) c || one_within components c js
