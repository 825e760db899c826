-- Two lists with the same elements: what stands for all of the one stands for all of the other.
use Rattle.std.proofs.Common.{◌≡◌, ◌⊎◌, inl, inr, ℕ, zero, suc, ◌+◌, ◌<◌, Bool, true, false, nat_eq, if◌then◌else◌, List, [], ◌∷◌, ◌++◌, length, get_or, take, refl, sym, ◌∙◌, subst, arith, ⊎_elim}
use Rattle.std.specs.List.{Contains, list_any}
use Rattle.std.proofs.lemmas.List.Elements.{Contains-get_or, Contains-append_left, Contains-push, Contains-push_cases}
use Rattle.std.proofs.lemmas.List.{take_more}
use Rattle.std.proofs.lemmas.Map.Views.{Contains-from_any}
use Rattle.std.proofs.lemmas.Bool.{eqb-true}
use Rattle.indexmap.specs.IndexSet.{insert_key}
use Rattle.mc_program.specs.Programs.{TypeTerm, Source}
use Rattle.mc_model.specs.Insts.{free, dead, Graph}
use Rattle.mc_accepted.specs.Inclusion.{Tip, Path, Allows, AllFree, OneIsDead, NoMoreThere, NoneMore}
use Rattle.mc_accepted.specs.Tidy.{Tidy, EachIsTidy}
use Rattle.mc_insts.specs.declared.graph.InstGraph.{InstGraph}
use Rattle.mc_insts.specs.Merging.{LivesAbove, OneAllows, EachIs}
use Rattle.mc_insts.specs.code.Lists.{SameElements}
use Rattle.mc_insts.specs.code.TypeRows.{AllBelow}
use Rattle.mc_insts.specs.code.Answers.{Gathers}
use Rattle.mc_insts.specs.code.Pairs.{Stood}
use Rattle.mc_insts.proofs.Found.{get_any}

nothing : (i : ℕ) → Contains [] i → ⊥
nothing i c = omega (arith, c.1)

head : (j : ℕ) (is : List ℕ) → Contains (j ∷ is) j
head j is = (0, omega arith, refl)

tail : (j : ℕ) (is : List ℕ) (i : ℕ) → Contains is i → Contains (j ∷ is) i
tail j is i c = (suc c.0, omega (arith, c.1), c.2)

at_place : (j : ℕ) (is : List ℕ) (i k : ℕ) → k < length (j ∷ is) → get_or (j ∷ is) k i ≡ i → (j ≡ i) ⊎ Contains is i
at_place j is i zero h e = inl e
at_place j is i (suc k) h e = inr (k, omega arith, e)

which : (j : ℕ) (is : List ℕ) (i : ℕ) → Contains (j ∷ is) i → (j ≡ i) ⊎ Contains is i
which j is i c = at_place j is i c.0 c.1 c.2

abbrev Among : (js is : List ℕ) → Type 0
Among js is = (i : ℕ) → Contains js i → Contains is i

-- what holds of each of a list holds of each of another that has no more elements
module _ (Q : ℕ → Type 0) (R : List ℕ → Type 0) (none : R []) (apart : (i : ℕ) (is : List ℕ) → R (i ∷ is) → Q i × R is) (together : (i : ℕ) (is : List ℕ) → Q i × R is → R (i ∷ is)) where
  each_at : (is : List ℕ) (i : ℕ) → R is → Contains is i → Q i
  each_at [] i h c = absurd (nothing i c)
  each_at (j ∷ is) i h c = let p = apart j is h in ⊎_elim (λ e. subst Q e p.0) (λ d. each_at is i p.1 d) (which j is i c)

  each_of : (is : List ℕ) → ((i : ℕ) → Contains is i → Q i) → R is
  each_of [] h = none
  each_of (j ∷ is) h = together j is (h j (head j is), each_of is (λ i c. h i (tail j is i c)))

  each_among : (is js : List ℕ) → Among js is → R is → R js
  each_among is js w h = each_of js (λ i c. each_at is i h (w i c))

-- what holds of one of a list holds of one of another that has no fewer elements
module _ (Q : ℕ → Type 0) (R : List ℕ → Type 0) (none : R [] → ⊥) (apart : (i : ℕ) (is : List ℕ) → R (i ∷ is) → Q i ⊎ R is) (together : (i : ℕ) (is : List ℕ) → Q i ⊎ R is → R (i ∷ is)) where
  one_at : (is : List ℕ) (i : ℕ) → Contains is i → Q i → R is
  one_at [] i c q = absurd (nothing i c)
  one_at (j ∷ is) i c q = together j is (⊎_elim (λ e. inl (subst Q (sym e) q)) (λ d. inr (one_at is i d q)) (which j is i c))

  one_among : (is js : List ℕ) → Among is js → R is → R js
  one_among [] js w h = absurd (none h)
  one_among (j ∷ is) js w h = ⊎_elim (λ q. one_at js j (w j (head j is)) q) (λ r. one_among is js (λ i c. w i (tail j is i c)) r) (apart j is h)

module _ (P : Source) (G : Graph) where
  free_among : (is js : List ℕ) → Among js is → AllFree G is → AllFree G js
  free_among = each_among (λ i. G i ≡ free) (AllFree G) tt (λ i is h. h) (λ i is h. h)

  dead_among : (is js : List ℕ) → Among is js → OneIsDead G is → OneIsDead G js
  dead_among = one_among (λ i. G i ≡ dead) (OneIsDead G) (λ h. h) (λ i is h. h) (λ i is h. h)

  module _ (t : TypeTerm) where
    more_among : (H : Graph) (h : ℕ) (is js : List ℕ) → Among js is → NoneMore P G is H h t → NoneMore P G js H h t
    more_among H h = each_among (λ i. NoMoreThere P G i H h t) (λ is. NoneMore P G is H h t) tt (λ i is m. m) (λ i is m. m)

    tidy_among : (is js : List ℕ) → Among js is → EachIsTidy P G is t → EachIsTidy P G js t
    tidy_among = each_among (λ i. Tidy P G i t) (λ is. EachIsTidy P G is t) tt (λ i is h. h) (λ i is h. h)

    allows_among : (path : Path) (e : Tip) (is js : List ℕ) → Among is js → OneAllows P G is path e t → OneAllows P G js path e t
    allows_among path e = one_among (λ i. Allows P G path e i t) (λ is. OneAllows P G is path e t) (λ h. h) (λ i is h. h) (λ i is h. h)

    lives_among : (is js : List ℕ) → Among js is → LivesAbove P G is t → LivesAbove P G js t
    lives_among is js w a = record { graph = a.graph; proper = a.proper; inst = a.inst; lives = a.lives; above = more_among a.graph a.inst is js w a.above }

    pub gathers_same : (is js : List ℕ) (k : ℕ) → SameElements is js → Gathers P G is k t → Gathers P G js k t
    gathers_same is js k s g = record {
      least = record {
        above = more_among G k is js s.back g.least.above;
        least = λ H proper h m. g.least.least H proper h (more_among H h js is s.on m);
      };
      free_to = λ h. g.free_to (free_among js is s.on h);
      free_from = λ e. free_among is js s.back (g.free_from e);
      dead_to = λ h. g.dead_to (dead_among js is s.back h);
      dead_from = λ e a. dead_among is js s.on (g.dead_from e (lives_among js is s.on a));
      dead_tidy = λ e h. dead_among is js s.on (g.dead_tidy e (tidy_among js is s.on h));
      tidy = λ h. g.tidy (tidy_among js is s.on h);
      exact = λ h path e a. allows_among path e is js s.on (g.exact (tidy_among js is s.on h) path e a);
    }

pub stood_same : (P : Source) (I : InstGraph) (ts : List TypeTerm) (is js : List ℕ) (r k : ℕ) → SameElements is js → Stood P I ts is r k → Stood P I ts js r k
stood_same P I ts is js r k s x = record { there = x.there; gathers = gathers_same P _ _ is js k s x.gathers }

pub is_same : (is js : List ℕ) (i : ℕ) → SameElements is js → EachIs i js → EachIs i is
is_same is js i s = each_among (λ j. j ≡ i) (EachIs i) tt (λ j ks h. h) (λ j ks h. h) js is s.on

pub below_same : (n : ℕ) (is js : List ℕ) → SameElements is js → AllBelow n js → AllBelow n is
below_same n is js s all k h =
    let c = s.on (get_or is k 0) (Contains-get_or is k 0 h) in
    subst (λ i. i < n) (get_any js c.0 0 (get_or is k 0) c.1 ∙ c.2) (all c.0 c.1)

pub some_same : (is js : List ℕ) → SameElements is js → 0 < length js → 0 < length is
some_same is js s h = let c = s.back (get_or js 0 0) (Contains-get_or js 0 0 h) in omega (arith, c.1)

-- one more
pushed : (is js : List ℕ) (i : ℕ) → SameElements is js → SameElements (is ++ i ∷ []) (js ++ i ∷ [])
pushed is js i s = record {
  on = λ j c. ⊎_elim (λ a. Contains-append_left js (i ∷ []) j (s.on j a)) (λ e. subst (Contains (js ++ i ∷ [])) e (Contains-push js i)) (Contains-push_cases is i j c);
  back = λ j c. ⊎_elim (λ a. Contains-append_left is (i ∷ []) j (s.back j a)) (λ e. subst (Contains (is ++ i ∷ [])) e (Contains-push is i)) (Contains-push_cases js i j c);
}

stays : (is js : List ℕ) (i : ℕ) → Contains is i → SameElements is js → SameElements is (js ++ i ∷ [])
stays is js i there s = record {
  on = λ j c. Contains-append_left js (i ∷ []) j (s.on j c);
  back = λ j c. ⊎_elim (λ a. s.back j a) (λ e. subst (Contains is) e there) (Contains-push_cases js i j c);
}

put_by : (is js : List ℕ) (i : ℕ) (b : Bool) → list_any (nat_eq i) is ≡ b → SameElements is js → SameElements (if b then is else is ++ i ∷ []) (js ++ i ∷ [])
put_by is js i true e s = stays is js i (Contains-from_any (λ x y. eqb-true x y) i is e) s
put_by is js i false e s = pushed is js i s

-- the elements so far, with the next one put in
pub put_same : (is js : List ℕ) (k : ℕ) → k < length js → SameElements is (take k js) → SameElements (insert_key nat_eq is (get_or js k 0)) (take (k + 1) js)
put_same is js k w s =
    subst (λ ks. SameElements (insert_key nat_eq is (get_or js k 0)) ks) (sym (take_more js k 0 w))
    (put_by is (take k js) (get_or js k 0) (list_any (nat_eq (get_or js k 0)) is) refl s)
