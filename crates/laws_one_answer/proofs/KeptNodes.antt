-- What was found to stand for insts, in two graphs: it means one thing where the insts do.
use Rattle.std.proofs.Common.{◌≡◌, ◌≢◌, ◌⊎◌, inl, inr, ℕ, ◌<◌, Bool, true, false, nat_eq, ◌||◌, List, [], ◌∷◌, map, refl, sym, ap, ◌∙◌, subst, ⊎_elim}
use Rattle.std.proofs.lemmas.Bool.{eqb-true, and_parts}
use Rattle.mc_program.specs.Programs.{TypeTerm, Source}
use Rattle.mc_model.specs.Insts.{free, Graph}
use Rattle.mc_model.specs.Stream.{is_bound}
use Rattle.mc_accepted.specs.Fits.{FitsInsts}
use Rattle.mc_accepted.specs.Inclusion.{Path, Tip, Allows, AllFree, NoneIs, NoneMore}
use Rattle.mc_accepted.specs.Ordered as O
use Rattle.mc_accepted.specs.Ordered.{change_at}
use Rattle.mc_accepted.specs.Tidy.{EachIsTidy}
use Rattle.mc_accepted.specs.code.Truthful.{AllAre}
use Rattle.mc_insts.specs.Merging.{OneAllows}
use Rattle.laws_modes.proofs.MergedThere.{not-free}
use Rattle.laws_order.proofs.Arranging.{is-set, is-unset}
use Rattle.mc_switch.specs.Kept.{all_are}
use Rattle.laws_graphs.specs.Nodes.{Joined, MeanOne}

-- ---- free nodes
free_or_bound : (i : ℕ) → (i ≡ 0) ⊎ (is_bound i ≡ true)
free_or_bound i = at (is_bound i) refl
  where
    at : (t : Bool) → is_bound i ≡ t → (i ≡ 0) ⊎ (t ≡ true)
    at true e = inr refl
    at false e = inl (is-unset i e)

module _ (G : Graph) (fits : FitsInsts G) where
  free_is_unbound : (i : ℕ) → G i ≡ free → is_bound i ≡ false
  free_is_unbound i e = ⊎_elim (λ z. ap is_bound z) (λ b. absurd (not-free G fits i (is-set i b) e)) (free_or_bound i)

  other_is_bound : (i : ℕ) → G i ≢ free → is_bound i ≡ true
  other_is_bound i n = ⊎_elim (λ z. absurd (n (ap G z ∙ fits.is_free))) (λ b. b) (free_or_bound i)

  free_are_unbound : (is : List ℕ) → AllFree G is → AllAre false is
  free_are_unbound [] h = tt
  free_are_unbound (i ∷ is) h = (free_is_unbound i h.0, free_are_unbound is h.1)

  others_are_bound : (is : List ℕ) → NoneIs free G is → AllAre true is
  others_are_bound [] h = tt
  others_are_bound (i ∷ is) h = (other_is_bound i h.0, others_are_bound is h.1)

  unbound_are_free : (is : List ℕ) → AllAre false is → AllFree G is
  unbound_are_free [] h = tt
  unbound_are_free (i ∷ is) h = (ap G (is-unset i h.0) ∙ fits.is_free, unbound_are_free is h.1)

  bound_are_others : (is : List ℕ) → AllAre true is → NoneIs free G is
  bound_are_others [] h = tt
  bound_are_others (i ∷ is) h = (not-free G fits i (is-set i h.0), bound_are_others is h.1)

-- insts that are one are joined to it
module _ (P : Source) (G : Graph) (i : ℕ) (t : TypeTerm) where
  above_itself : (is : List ℕ) → all_are i is ≡ true → NoneMore P G is G i t
  above_itself [] h = tt
  above_itself (j ∷ is) h =
      let parts = and_parts (nat_eq j i) (all_are i is) h in
      (subst (λ (k : ℕ). (path : Path) (e : Tip) → Allows P G path e k t → Allows P G path e i t) (sym (eqb-true j i parts.0)) (λ path e a. a), above_itself is parts.1)

  pub one_joined : (is : List ℕ) → all_are i (i ∷ is) ≡ true → EachIsTidy P G (i ∷ is) t → Joined P G (i ∷ is) i t
  one_joined is h tidy =
      record {
        above = above_itself (i ∷ is) h;
        exact = λ path e a. inl a;
        tidy = tidy.0;
        all_free = λ f. f.0;
        none_free = λ f. f.0;
      }

-- ---- over two graphs
-- two lists, place by place
abbrev pub Pairs : (R : ℕ → ℕ → Type 0) → List ℕ → List ℕ → Type 0
Pairs R [] [] = Unit {0}
Pairs R (i ∷ is) (j ∷ js) = R i j × Pairs R is js
Pairs R _ _ = ⊥

abbrev pub BoundAlike : ℕ → ℕ → Type 0
BoundAlike i j = is_bound i ≡ is_bound j

all_alike : (t : Bool) (is js : List ℕ) → Pairs BoundAlike is js → AllAre t is → AllAre t js
all_alike t [] [] p h = tt
all_alike t [] (j ∷ js) p h = absurd p
all_alike t (i ∷ is) [] p h = absurd p
all_alike t (i ∷ is) (j ∷ js) p h = (sym p.0 ∙ h.0, all_alike t is js p.1 h.1)

module _ (P : Source) (m n : ℕ) (G H : Graph) where
  abbrev Means : TypeTerm → ℕ → ℕ → Type 0
  Means t i j = MeanOne P m G n H t i j

  one_there : (t : TypeTerm) (is js : List ℕ) (l : ℕ) (path : Path) (e : Tip) → Pairs (Means t) is js → NoneMore P H js H l t → OneAllows P G is path e t → Allows P H path e l t
  one_there t [] js l path e r a h = absurd h
  one_there t (i ∷ is) [] l path e r a h = absurd r
  one_there t (i ∷ is) (j ∷ js) l path e r a h = ⊎_elim (λ x. a.0 path e ((r.0.same path e).0 x)) (λ x. one_there t is js l path e r.1 a.1 x) h

  one_here : (t : TypeTerm) (is js : List ℕ) (k : ℕ) (path : Path) (e : Tip) → Pairs (Means t) is js → NoneMore P G is G k t → OneAllows P H js path e t → Allows P G path e k t
  one_here t is [] k path e r a h = absurd h
  one_here t [] (j ∷ js) k path e r a h = absurd r
  one_here t (i ∷ is) (j ∷ js) k path e r a h = ⊎_elim (λ x. a.0 path e ((r.0.same path e).1 x)) (λ x. one_here t is js k path e r.1 a.1 x) h

  -- what insts are joined to means one thing where they do
  pub joined_mean_one : (t : TypeTerm) (is js : List ℕ) (k l : ℕ) → Pairs (Means t) is js → Joined P G is k t → Joined P H js l t → k < m → l < n → is_bound k ≡ is_bound l → Means t k l
  joined_mean_one t is js k l r x y lt there same =
      record {
        here = lt;
        there = there;
        bound = same;
        tidy_here = x.tidy;
        tidy_there = y.tidy;
        same = λ path e. ((λ a. one_there t is js l path e r y.above (x.exact path e a)), (λ a. one_here t is js k path e r x.above (y.exact path e a)));
      }

  -- where all are free or none is, it is free in both or in none
  pub joined_alike : FitsInsts G → FitsInsts H → (t : TypeTerm) (is js : List ℕ) (k l : ℕ) → Pairs BoundAlike is js → AllFree G is ⊎ NoneIs free G is → Joined P G is k t → Joined P H js l t → is_bound k ≡ is_bound l
  joined_alike fits also t is js k l p (inl f) x y =
      free_is_unbound G fits k (x.all_free f) ∙ sym (free_is_unbound H also l (y.all_free (unbound_are_free H also js (all_alike false is js p (free_are_unbound G fits is f)))))
  joined_alike fits also t is js k l p (inr f) x y =
      other_is_bound G fits k (x.none_free f) ∙ sym (other_is_bound H also l (y.none_free (bound_are_others H also js (all_alike true is js p (others_are_bound G fits is f)))))

-- ---- what is kept of a group
-- the insts of a variable at several points
abbrev pub at_ends : ℕ → List O.Insts → List ℕ
at_ends v es = map (λ (e : O.Insts). e v) es

-- Before and after a disjunction a variable has these insts, and at the ends of a group of disjuncts
-- those: where it is bound before or after, it gets what those at the ends are joined to, and they are
-- all free or none is; else it keeps what it has. Nothing is changed where no end is reachable.
module _ (P : Source) (count : ℕ) (G : Graph) (T : ℕ → TypeTerm) where
  pub record GetsJoined (e : O.Insts) (es : List O.Insts) (v k : ℕ) : Type 0 where
    pub even : AllFree G (at_ends v (e ∷ es)) ⊎ NoneIs free G (at_ends v (e ∷ es))
    pub joined : Joined P G (at_ends v (e ∷ es)) k (T v)
    pub there : e v < count → k < count

  abbrev pub KeptOf : (before after : O.Insts) → List O.Insts → List (ℕ × ℕ) → Type 0
  KeptOf b c [] changes = changes ≡ []
  KeptOf b c (e ∷ es) changes =
      (v : ℕ)
      → ((is_bound (b v) || is_bound (c v)) ≡ true → GetsJoined e es v (change_at v changes (b v)))
      × ((is_bound (b v) || is_bound (c v)) ≡ false → change_at v changes (b v) ≡ b v)
