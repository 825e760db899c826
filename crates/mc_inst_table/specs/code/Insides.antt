-- What insts put into constructors, as it is found out: where what they put there leads.
use Rattle.std.specs.Prelude.{◌≡◌, ◌⊎◌, ◌↔◌, ℕ, Bool, true, false, nat_eq, ◌&&◌, ◌||◌, List, [], ◌∷◌, ◌++◌, slice_index_or, if◌then◌else◌}
use Rattle.mc_model.specs.Lists.{is_in}
use Rattle.mc_accepted.specs.InstRules.{InstTerm, parameter, inst_node, defined, bound_over, InstTerms, no_insts, inst_then, Bodies, PutsInside}
use Rattle.mc_inst_table.specs.declared.heads.Head.{Head}
use Rattle.mc_inst_table.specs.declared.heads.Head.TheVariants as H
use Rattle.mc_inst_table.specs.code.Ends.{end_at, ends}

-- the parameters that a definition puts into constructors, by its number
abbrev pub inside_at : List (List ℕ) → ℕ → List ℕ
inside_at inside d = slice_index_or inside d []

-- the ends of those at these places
abbrev pub ends_at : List Head → List ℕ → List Head
ends_at hs [] = []
ends_at hs (k ∷ ks) = end_at hs k ∷ ends_at hs ks

abbrev mutual
  pub put_ends : (heads : ℕ → Head) → (inside : ℕ → List ℕ) → InstTerm → List Head
  put_ends heads inside (parameter k) = []
  put_ends heads inside (inst_node i) = []
  put_ends heads inside (defined d is) =
      ends_at (ends heads is) (inside d) ++ all_put_ends heads inside is
  put_ends heads inside (bound_over fs is) = ends heads is ++ all_put_ends heads inside is

  pub all_put_ends : (heads : ℕ → Head) → (inside : ℕ → List ℕ) → InstTerms → List Head
  all_put_ends heads inside no_insts = []
  all_put_ends heads inside (inst_then i is) =
      put_ends heads inside i ++ all_put_ends heads inside is

-- an end is one of these
abbrev pub HeadIn : Head → List Head → Type 0
HeadIn h [] = ⊥
HeadIn h (g ∷ gs) = (h ≡ g) ⊎ HeadIn h gs

-- What is known to be put into constructors is,
abbrev pub AreInside : Bodies → List (List ℕ) → Type 0
AreInside body inside =
    (d k : ℕ) → is_in k (inside_at inside d) ≡ true → PutsInside body (body d) (parameter k)

-- and no more can be found out.
abbrev pub AreClosed : Bodies → (heads : ℕ → Head) → List (List ℕ) → Type 0
AreClosed body heads inside =
    (d k : ℕ) → HeadIn (H.Parameter k) (put_ends heads (inside_at inside) (body d))
    → is_in k (inside_at inside d) ≡ true

-- an inst puts what leads to this end into a constructor
abbrev pub PutsEnd : Bodies → InstTerm → Head → Type 0
PutsEnd body t (H.Parameter k) = PutsInside body t (parameter k)
PutsEnd body t (H.Node i) = PutsInside body t (inst_node i)
PutsEnd body t H.Bound = Unit {0}
PutsEnd body t H.Unknown = Unit {0}

-- these are the parameters among ends
abbrev pub SameParameters : List ℕ → List Head → Type 0
SameParameters ks hs = (k : ℕ) → (is_in k ks ≡ true) ↔ HeadIn (H.Parameter k) hs

-- none of these rows has anything in it
abbrev pub AllNone : List (List ℕ) → Type 0
AllNone [] = Unit {0}
AllNone (row ∷ rows) = (row ≡ []) × AllNone rows

-- whether these are all among others
abbrev pub all_in : (others numbers : List ℕ) → Bool
all_in ys [] = true
all_in ys (x ∷ xs) = is_in x ys && all_in ys xs

-- numbers with one more, where it isn't there
abbrev pub once_more : ℕ → List ℕ → List ℕ
once_more k ks = if is_in k ks then ks else ks ++ k ∷ []

abbrev pub with_end : Head → List ℕ → List ℕ
with_end (H.Parameter k) ks = once_more k ks
with_end (H.Node i) ks = ks
with_end H.Bound ks = ks
with_end H.Unknown ks = ks

-- the parameters among ends behind these, each once
abbrev pub gathered : List ℕ → List Head → List ℕ
gathered ks [] = ks
gathered ks (h ∷ hs) = gathered (with_end h ks) hs

-- whether `free` is an end, and is among ends
abbrev pub is_free_end : Head → Bool
is_free_end (H.Parameter k) = false
is_free_end (H.Node i) = nat_eq i 0
is_free_end H.Bound = false
is_free_end H.Unknown = false

abbrev pub has_free_end : List Head → Bool
has_free_end [] = false
has_free_end (h ∷ hs) = is_free_end h || has_free_end hs
