-- What is left to do where a value is copied or two are compared, without recursion.
use Rattle.std.specs.Prelude.{◌≡◌, ◌≢◌, ℕ, suc, ◌+◌, ◌<◌, Bool, true, false, IsTrue, length, Option, Some, None, List, [], ◌∷◌, ◌++◌, map, All}
use Rattle.std.specs.Borrow.{Bor}
use Rattle.mc_program.specs.Values.{Val, con, Vals, no_vals, val_then, vals, plain_value}
use Rattle.mc_values.specs.declared.heap.Heap.{Heap}
use Rattle.mc_values.specs.declared.part.Part.{Part}
use Rattle.mc_values.specs.Heap.{IsLive, value_at, values_at}

abbrev mutual
  -- of how many values a value is made, itself among them
  pub size : Val → ℕ
  size (con symbol args) = suc (sizes args)
  size _ = 1

  pub sizes : Vals → ℕ
  sizes no_vals = 0
  sizes (val_then v vs) = size v + sizes vs

-- a value without its arguments
abbrev pub top_of : Val → Val
top_of (con symbol args) = con symbol no_vals
top_of v = v

-- the two values of each pair are equal
abbrev pub AreSame : Heap → List (ℕ × ℕ) → Type 0
AreSame h [] = Unit {0}
AreSame h (p ∷ pairs) = (value_at h p.0 ≡ value_at h p.1) × AreSame h pairs

-- the Refs of each pair are live
abbrev pub AreLivePairs : Heap → List (ℕ × ℕ) → Type 0
AreLivePairs h = All (λ p. IsLive h p.0 × IsLive h p.1)

-- of how many values the first ones of the pairs are made
abbrev pub pairs_size : Heap → List (ℕ × ℕ) → ℕ
pairs_size h [] = 0
pairs_size h (p ∷ pairs) = size (value_at h p.0) + pairs_size h pairs

-- pairs with those of the elements of two rows on top of them, the first pair topmost
abbrev pub with_pairs : List (ℕ × ℕ) → List ℕ → List ℕ → List (ℕ × ℕ)
with_pairs pairs [] ys = pairs
with_pairs pairs (x ∷ xs) [] = pairs
with_pairs pairs (x ∷ xs) (y ∷ ys) = with_pairs pairs xs ys ++ ((x, y) ∷ [])

-- the pairs of two rows are put on top of others, where the rows are of one length
abbrev pub ArePut : List ℕ → List ℕ → List (ℕ × ℕ) → Bool → List (ℕ × ℕ) → Type 0
ArePut xs ys old false new = (length xs ≢ length ys) × (new ≡ old)
ArePut xs ys old true new = (length xs ≡ length ys) × (new ≡ with_pairs old xs ys)

-- two values and these pairs are equal exactly where their tops are and those pairs, of which there
-- is less
pub record IsSplit (h : Heap) (a b : ℕ) (old : List (ℕ × ℕ)) (same : Bool) (new : List (ℕ × ℕ))
    : Type 0 where
  pub to : IsTrue same → AreSame h new → AreSame h old × (value_at h a ≡ value_at h b)
  pub from : AreSame h old → value_at h a ≡ value_at h b → IsTrue same × AreSame h new
  pub live : AreLivePairs h new
  pub less : pairs_size h new < pairs_size h old + size (value_at h a)

-- above which Refs one stands that may be there
abbrev pub rank : Option ℕ → ℕ
rank None = 0
rank (Some r) = suc r

-- texts one after another, the last one first
abbrev pub joined : List (Bor (List ℕ)) → List ℕ
joined [] = []
joined (text ∷ texts) = joined texts ++ text.now

-- the whole value whose innermost open constructor has this argument at hand
abbrev pub filled : Heap → List Part → Val → Val
filled h [] v = v
filled h (p ∷ parts) v =
    con p.symbol
    (vals (map plain_value p.done ++ (filled h parts v ∷ values_at h p.rest.now)))

-- the arguments that aren't copied yet are live
abbrev pub AreLiveParts : Heap → List Part → Type 0
AreLiveParts h = All (λ p. All (IsLive h) p.rest.now)

-- of how many values those are made that are still to be copied or closed
abbrev pub parts_size : Heap → List Part → ℕ
parts_size h [] = 0
parts_size h (p ∷ parts) = suc (sizes (vals (values_at h p.rest.now))) + parts_size h parts
