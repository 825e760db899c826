-- What making the nodes keeps.
use Rattle.std.proofs.Common.{◌≡◌, ℕ, zero, suc, ◌+◌, ◌<◌, ◌≤◌, List, [], ◌∷◌, ◌++◌, length, get_or, refl, sym, ◌∙◌, subst, arith, length-append}
use Rattle.std.proofs.lemmas.List.{get_or_append_left, get_or_push}
use Rattle.mc_insts.specs.declared.graph.Case.{Case}
use Rattle.mc_insts.specs.declared.graph.Node.{Node}
use Rattle.mc_insts.specs.declared.graph.Node.TheVariants as N
use Rattle.mc_insts.specs.declared.triples.Triple.{Triple}
use Rattle.mc_insts.specs.code.Lists.{Stands, Extends}
use Rattle.mc_insts.specs.code.Walks.{Scene, node_at, ProperCases}
use Rattle.mc_insts.specs.code.Formed.{AllFilled}
use Rattle.mc_insts.specs.code.Merges.{Merges, top_of}
use Rattle.mc_insts.proofs.Found.{by_order}
use Rattle.mc_insts.proofs.Growth.{stands_before, stands_one}
use Rattle.mc_insts.proofs.Opens.{refers_on, top_on}
use Rattle.mc_insts.proofs.Fits.{fits_up}

node_before : (made : List Node) (M : Node) (n : ℕ) → n < length made → node_at (made ++ M ∷ []) n ≡ node_at made n
node_before made M n h = get_or_append_left made (M ∷ []) (N.Bound []) n h

node_last : (made : List Node) (M : Node) (n : ℕ) → length made ≡ n → node_at (made ++ M ∷ []) n ≡ M
node_last made M n h = get_or_push made M (N.Bound []) n h

pub get_past : {A : Type 0} (xs : List A) (n : ℕ) (d : A) → length xs ≤ n → get_or xs n d ≡ d
get_past [] n d h = none n
  where
    none : (n : ℕ) → get_or [] n d ≡ d
    none n = refl
get_past (x ∷ xs) zero d h = absurd (omega arith)
get_past (x ∷ xs) (suc n) d h = get_past xs n d (omega arith)

-- a bound inst that lists nothing stands past the end
pub none_proper : (C : Scene) (n : ℕ) (cs : List Case) → N.Bound [] ≡ N.Bound cs → ProperCases C n cs
none_proper C n cs e = let q : [] ≡ cs = cc in subst (ProperCases C n) q (record { rising = tt; fitting = λ k d lt. absurd (omega arith) })

pub none_filled : (cs : List Case) → N.Bound [] ≡ N.Bound cs → AllFilled cs
none_filled cs e = let q : [] ≡ cs = cc in subst AllFilled q (λ k d lt. absurd (omega arith))

pub filled_more : (M : Node) (made : List Node) → ((n : ℕ) (cs : List Case) → node_at made n ≡ N.Bound cs → AllFilled cs) → ((cs : List Case) → M ≡ N.Bound cs → AllFilled cs)
    → (n : ℕ) (cs : List Case) → node_at (made ++ M ∷ []) n ≡ N.Bound cs → AllFilled cs
filled_more M made before here n cs h =
    by_order n (length made)
    (λ x. before n cs (sym (node_before made M n x) ∙ h))
    (λ x. here cs (sym (node_last made M n (sym x)) ∙ h))
    (λ x.
    let l : length (made ++ M ∷ []) ≡ length made + 1 = length-append made (M ∷ []) in
    none_filled cs (sym (get_past (made ++ M ∷ []) n (N.Bound []) (omega arith)) ∙ h))

module _ (C : Scene) where
  merges_on : (xs ys : List Triple) (t : Triple) (M : Node) → Extends xs ys → Merges C xs t M → Merges C ys t M
  merges_on xs ys t M e m = record {
    cases = m.cases;
    is = m.is;
    bare = m.bare;
    has = m.has;
    both = λ f k h lt p q. refers_on C xs ys _ _ e (m.both f k h lt p q);
    first = m.first;
    second = m.second;
  }

  pub merges_more : (t : Triple) (M : Node) (n : ℕ) (made : List Node) (xs ys : List Triple) → Extends xs ys → length made ≡ n → Stands xs n t
      → ((m : ℕ) (u : Triple) → m < n → Stands xs m u → Merges C xs u (node_at made m)) → Merges C ys t M → (m : ℕ) (u : Triple) → m < n + 1 → Stands ys m u → Merges C ys u (node_at (made ++ M ∷ []) m)
  merges_more t M n made xs ys e l s before here m u h r =
      let w = s.within in
      by_order m n
      (λ x. subst (λ (K : Node). Merges C ys u K) (sym (node_before made M m (omega arith))) (merges_on xs ys u (node_at made m) e (before m u x (stands_before xs ys m u e (omega arith) r))))
      (λ x.
      let old : Stands xs n u = subst (λ k. Stands xs k u) x (stands_before xs ys m u e (omega arith) r) in
      let last : node_at (made ++ M ∷ []) m ≡ M = node_last made M m (l ∙ sym x) in
      subst (λ (K : Node). Merges C ys u K) (sym last) (subst (λ (v : Triple). Merges C ys v M) (stands_one xs n t u s old) here))
      (λ x. absurd (omega arith))

  proper_up : (m n : ℕ) (cs : List Case) → m ≤ n → ProperCases C m cs → ProperCases C n cs
  proper_up m n cs le p = record { rising = p.rising; fitting = fits_up C m n cs le p.fitting }

  pub fits_more : (M : Node) (made : List Node) (xs ys : List Triple) → Extends xs ys
      → ((n : ℕ) (cs : List Case) → node_at made n ≡ N.Bound cs → ProperCases C (top_of C xs) cs) → ((cs : List Case) → M ≡ N.Bound cs → ProperCases C (top_of C ys) cs)
      → (n : ℕ) (cs : List Case) → node_at (made ++ M ∷ []) n ≡ N.Bound cs → ProperCases C (top_of C ys) cs
  fits_more M made xs ys e before here n cs h =
      by_order n (length made)
      (λ x. proper_up (top_of C xs) (top_of C ys) cs (top_on C xs ys e) (before n cs (sym (node_before made M n x) ∙ h)))
      (λ x. here cs (sym (node_last made M n (sym x)) ∙ h))
      (λ x. let l : length (made ++ M ∷ []) ≡ length made + 1 = length-append made (M ∷ []) in let y : node_at (made ++ M ∷ []) n ≡ N.Bound [] = get_past (made ++ M ∷ []) n (N.Bound []) (omega arith) in none_proper C (top_of C ys) cs (sym y ∙ h))

  -- each node has its triple
  pub merges_all : (n : ℕ) (made : List Node) (seen : List Triple) → length seen ≤ n → ((m : ℕ) (u : Triple) → m < n → Stands seen m u → Merges C seen u (node_at made m)) → (m : ℕ) (u : Triple) → Stands seen m u → Merges C seen u (node_at made m)
  merges_all n made seen h all m u s = let w = s.within in all m u (omega arith) s
