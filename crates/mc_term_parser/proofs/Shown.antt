-- What is kept of a tree shows its depth, its first number that 64 bits don't hold, and its term.
use Rattle.std.proofs.Common.{◌≡◌, ℕ, ◌≤◌, ◌<◌, ◌+◌, Bool, true, false, cond, leb, List, [], ◌∷◌, ◌++◌, max, min, refl, sym, ap, ◌∙◌, arith, Option, Some, None}
use Rattle.std.specs.Prelude.{pos}
use Rattle.std.proofs.lemmas.Bool.{leb-true, le-leb}
use Rattle.mc_term_data.specs.Plain as S
use Rattle.mc_term_data.specs.Plain.{PlainTerm, PlainNode, PlainTerms, at, term_list, no_term, more_terms}
use Rattle.mc_term_parser.specs.Tree.{Tree, Trees, Var, Int, Neg, Str, App, Items, Tailed, Conj, Disj, Inside, no_tree, more_trees, depth, deepest, or_else, too_large, first_large, moved, term, terms}
use Rattle.mc_term_parser.specs.code.Seen.{Seen, SeenRow, node_seen, kept, leaf, seen_large, seen_int, seen_neg, seen_app, seen_items, seen_tailed, seen_conj, seen_disj, seen_inside, no_seen, seen_then}
use Rattle.mc_term_parser.proofs.Images.{image, images}

-- depths

kept_depth : (l : ℕ) (n : PlainNode) (d : ℕ) (g : Option ℕ) → (kept l n d g).depth ≡ min d 257
unfolding kept
kept_depth l n d g = go (leb d 256) refl
  where
    go : (b : Bool) → leb d 256 ≡ b → (cond {A = Seen} b (record { value = at n l; depth = d; large = g }) (record { value = at (S.Int (pos 0)) l; depth = 257; large = g })).depth ≡ min d 257
    go true e = let h : d ≤ 256 = leb-true d 256 e in omega arith
    go false e = let h : 256 < d = above d e in omega arith
      where
        above : (d : ℕ) → leb d 256 ≡ false → 256 < d
        above d e = grind arith

leaf_depth : (l : ℕ) (n : PlainNode) → (leaf l n).depth ≡ 1
unfolding leaf
leaf_depth l n = refl

large_depth : (l : ℕ) → (seen_large l).depth ≡ 1
unfolding seen_large
large_depth l = refl

one_depth : (l : ℕ) (n : PlainNode) (b : Bool) → (cond b (leaf l n) (seen_large l)).depth ≡ 1
one_depth l n true = leaf_depth l n
one_depth l n false = large_depth l

then_depth : (r : SeenRow) (t : Seen) → (seen_then r t).depth ≡ max r.depth t.depth
unfolding seen_then
then_depth r t = refl

none_depth : no_seen.depth ≡ 0
unfolding no_seen
none_depth = refl

mutual
  unfolding seen_int seen_neg seen_app seen_items seen_tailed seen_conj seen_disj seen_inside

  pub image_depth : (t : Tree) → (image t).depth ≡ min (depth t) 257
  image_depth (Var l w) = leaf_depth l _
  image_depth (Int l n) = one_depth l _ _
  image_depth (Neg l n) = one_depth l _ _
  image_depth (Str l s) = leaf_depth l _
  image_depth (App l w ts) =
      omega (
        arith,
        kept_depth l (S.App w (term_list (images no_seen ts).values)) (1 + (images no_seen ts).depth)
            (images no_seen ts).large,
        images_depth no_seen ts,
        none_depth,
      )
  image_depth (Items l ts) =
      omega (
        arith,
        kept_depth l (S.Items (term_list (images no_seen ts).values)) (1 + (images no_seen ts).depth)
            (images no_seen ts).large,
        images_depth no_seen ts,
        none_depth,
      )
  image_depth (Tailed l ts t) =
      omega (
        arith,
        kept_depth l (S.Tailed (term_list (images no_seen ts).values) (image t).value)
            (1 + max (images no_seen ts).depth (image t).depth)
            (or_else (images no_seen ts).large (image t).large),
        images_depth no_seen ts,
        none_depth,
        image_depth t,
      )
  image_depth (Conj l ts) =
      omega (
        arith,
        kept_depth l (S.Conj (term_list (images no_seen ts).values)) (1 + (images no_seen ts).depth)
            (images no_seen ts).large,
        images_depth no_seen ts,
        none_depth,
      )
  image_depth (Disj l ts) =
      omega (
        arith,
        kept_depth l (S.Disj (term_list (images no_seen ts).values)) (1 + (images no_seen ts).depth)
            (images no_seen ts).large,
        images_depth no_seen ts,
        none_depth,
      )
  image_depth (Inside l t) =
      omega (
        arith,
        kept_depth l (node_seen (image t).value) (1 + (image t).depth) (image t).large,
        image_depth t,
      )

  images_depth :
      (r : SeenRow) (ts : Trees) → (images r ts).depth ≡ max r.depth (min (deepest ts) 257)
  images_depth r no_tree = omega arith
  images_depth r (more_trees t ts) =
      omega (arith, images_depth (seen_then r (image t)) ts, then_depth r (image t), image_depth t)

-- numbers that 64 bits don't hold

kept_large : (l : ℕ) (n : PlainNode) (d : ℕ) (g : Option ℕ) → (kept l n d g).large ≡ g
unfolding kept
kept_large l n d g = go (leb d 256)
  where
    go : (b : Bool) → (cond {A = Seen} b (record { value = at n l; depth = d; large = g }) (record { value = at (S.Int (pos 0)) l; depth = 257; large = g })).large ≡ g
    go true = refl
    go false = refl

leaf_large : (l : ℕ) (n : PlainNode) → (leaf l n).large ≡ None
unfolding leaf
leaf_large l n = refl

one_large :
    (l : ℕ) (n : PlainNode) (b : Bool)
    → (cond b (leaf l n) (seen_large l)).large ≡ cond b None (Some l)
unfolding leaf seen_large
one_large l n true = refl
one_large l n false = refl

then_large : (r : SeenRow) (t : Seen) → (seen_then r t).large ≡ or_else r.large t.large
unfolding seen_then
then_large r t = refl

none_large : no_seen.large ≡ None
unfolding no_seen
none_large = refl

or_assoc : (a b c : Option ℕ) → or_else (or_else a b) c ≡ or_else a (or_else b c)
or_assoc None b c = refl
or_assoc (Some l) b c = refl

or_none : (a : Option ℕ) → or_else a None ≡ a
or_none None = refl
or_none (Some l) = refl

from_none :
    (ts : Trees)
    → (images no_seen ts).large ≡ or_else no_seen.large (first_large ts)
    → (images no_seen ts).large ≡ first_large ts
from_none ts e = e ∙ ap (λ a. or_else a (first_large ts)) none_large

mutual
  unfolding seen_int seen_neg seen_app seen_items seen_tailed seen_conj seen_disj seen_inside

  pub image_large : (t : Tree) → (image t).large ≡ too_large t
  image_large (Var l w) = leaf_large l _
  image_large (Int l n) = one_large l _ _
  image_large (Neg l n) = one_large l _ _
  image_large (Str l s) = leaf_large l _
  image_large (App l w ts) = kept_large l _ _ _ ∙ from_none ts (images_large no_seen ts)
  image_large (Items l ts) = kept_large l _ _ _ ∙ from_none ts (images_large no_seen ts)
  image_large (Tailed l ts t) =
      kept_large l _ _ _ ∙
      (λ i. or_else (from_none ts (images_large no_seen ts) i) (image_large t i))
  image_large (Conj l ts) = kept_large l _ _ _ ∙ from_none ts (images_large no_seen ts)
  image_large (Disj l ts) = kept_large l _ _ _ ∙ from_none ts (images_large no_seen ts)
  image_large (Inside l t) = kept_large l _ _ _ ∙ image_large t

  images_large : (r : SeenRow) (ts : Trees) → (images r ts).large ≡ or_else r.large (first_large ts)
  images_large r no_tree = sym (or_none r.large)
  images_large r (more_trees t ts) =
      images_large (seen_then r (image t)) ts
      ∙ ap (λ a. or_else a (first_large ts))
      (then_large r (image t) ∙ ap (or_else r.large) (image_large t))
      ∙ or_assoc r.large (too_large t) (first_large ts)

-- terms

kept_value :
    (l : ℕ) (n : PlainNode) (d : ℕ) (g : Option ℕ) → d ≤ 256 → (kept l n d g).value ≡ at n l
unfolding kept
kept_value l n d g h = ap (λ b. (cond {A = Seen} b (record { value = at n l; depth = d; large = g }) (record { value = at (S.Int (pos 0)) l; depth = 257; large = g })).value) (le-leb d 256 h)

leaf_value : (l : ℕ) (n : PlainNode) → (leaf l n).value ≡ at n l
unfolding leaf
leaf_value l n = refl

one_value :
    (l : ℕ) (n : PlainNode) (b : Bool)
    → cond b None (Some l) ≡ None → (cond b (leaf l n) (seen_large l)).value ≡ at n l
one_value l n true e = leaf_value l n
one_value l n false e = cc

then_values : (r : SeenRow) (t : Seen) → (seen_then r t).values ≡ r.values ++ t.value ∷ []
unfolding seen_then
then_values r t = refl

none_values : no_seen.values ≡ []
unfolding no_seen
none_values = refl

-- terms behind a list of others
behind : List PlainTerm → PlainTerms → PlainTerms
behind [] us = us
behind (t ∷ ts) us = more_terms t (behind ts us)

behind_none : (ts : List PlainTerm) → term_list ts ≡ behind ts no_term
unfolding behind
behind_none [] = refl
behind_none (t ∷ ts) = ap (more_terms t) (behind_none ts)

behind_push :
    (ts : List PlainTerm) (t : PlainTerm) (us : PlainTerms)
    → behind (ts ++ t ∷ []) us ≡ behind ts (more_terms t us)
unfolding behind
behind_push [] t us = refl
behind_push (u ∷ ts) t us = ap (more_terms u) (behind_push ts t us)

first_none : (a b : Option ℕ) → or_else a b ≡ None → a ≡ None
first_none None b e = refl
first_none (Some l) b e = cc

second_none : (a b : Option ℕ) → or_else a b ≡ None → b ≡ None
second_none None b e = e
second_none (Some l) b e = cc

moved_node : (l : ℕ) (t : PlainTerm) → at (node_seen t) l ≡ moved l t
moved_node l (at n k) = refl

behind_nothing :
    (ts : Trees)
    → term_list (images no_seen ts).values ≡ behind no_seen.values (terms ts)
    → term_list (images no_seen ts).values ≡ terms ts
unfolding behind
behind_nothing ts e = e ∙ ap (λ us. behind us (terms ts)) none_values

mutual
  unfolding seen_int seen_neg seen_app seen_items seen_tailed seen_conj seen_disj seen_inside behind

  pub image_value : (t : Tree) → depth t ≤ 256 → too_large t ≡ None → (image t).value ≡ term t
  image_value (Var l w) h e = leaf_value l _
  image_value (Int l n) h e = one_value l _ _ e
  image_value (Neg l n) h e = one_value l _ _ e
  image_value (Str l s) h e = leaf_value l _
  image_value (App l w ts) h e =
      kept_value l _ _ _ (omega (arith, images_depth no_seen ts, none_depth)) ∙ ap
      (λ us. at (S.App w us) l) (behind_nothing ts (images_value no_seen ts (omega arith) e))
  image_value (Items l ts) h e =
      kept_value l _ _ _ (omega (arith, images_depth no_seen ts, none_depth)) ∙ ap
      (λ us. at (S.Items us) l) (behind_nothing ts (images_value no_seen ts (omega arith) e))
  image_value (Tailed l ts t) h e =
      kept_value l _ _ _ (omega (arith, images_depth no_seen ts, none_depth, image_depth t))
      ∙ (λ i.
      at
      (S.Tailed
      (behind_nothing ts (images_value no_seen ts (omega arith) (first_none _ _ e)) i)
      (image_value t (omega arith) (second_none _ _ e) i)) l)
  image_value (Conj l ts) h e =
      kept_value l _ _ _ (omega (arith, images_depth no_seen ts, none_depth)) ∙ ap
      (λ us. at (S.Conj us) l) (behind_nothing ts (images_value no_seen ts (omega arith) e))
  image_value (Disj l ts) h e =
      kept_value l _ _ _ (omega (arith, images_depth no_seen ts, none_depth)) ∙ ap
      (λ us. at (S.Disj us) l) (behind_nothing ts (images_value no_seen ts (omega arith) e))
  image_value (Inside l t) h e =
      kept_value l _ _ _ (omega (arith, image_depth t))
      ∙ ap (λ u. at (node_seen u) l) (image_value t (omega arith) e)
      ∙ moved_node l (term t)

  images_value :
      (r : SeenRow) (ts : Trees)
      → deepest ts ≤ 256 → first_large ts ≡ None
      → term_list (images r ts).values ≡ behind r.values (terms ts)
  images_value r no_tree h e = behind_none r.values
  images_value r (more_trees t ts) h e =
      images_value (seen_then r (image t)) ts (omega arith) (second_none _ _ e)
      ∙ ap (λ us. behind us (terms ts)) (then_values r (image t))
      ∙ behind_push r.values (image t).value (terms ts)
      ∙ ap (λ u. behind r.values (more_terms u (terms ts)))
      (image_value t (omega arith) (first_none _ _ e))
