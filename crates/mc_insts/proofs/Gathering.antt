-- An inst that stands for two, and for lists that are put together.
use Rattle.std.proofs.Common.{◌≡◌, ◌⊎◌, inl, inr, ℕ, List, [], ◌∷◌, ◌++◌, refl, sym, ◌∙◌, subst, ⊎_elim}
use Rattle.mc_program.specs.Programs.{TypeTerm, Source}
use Rattle.mc_model.specs.Insts.{InstNode, free, ground, unique, dead, bound, Graph}
use Rattle.mc_accepted.specs.Inclusion.{Tip, Path, NoMore, AllFree, NoneIs, OneIsDead, NoMoreThere, NoneMore, LeastAbove, MergedNodes, Merged}
use Rattle.mc_accepted.specs.Tidy.{EachIsTidy}
use Rattle.mc_insts.specs.Merging.{LivesAbove, OneAllows, StandsForAll}
use Rattle.mc_insts.specs.code.Answers.{Gathers}

module _ (P : Source) (G : Graph) where
  pub gathers_one : (i : ℕ) (t : TypeTerm) → Gathers P G (i ∷ []) i t
  gathers_one i t = record {
    least = record { above = ((λ path e a. a), tt); least = λ H proper h more. more.0 };
    free_to = λ h. h.0;
    free_from = λ e. (e, tt);
    dead_to = λ h. ⊎_elim (λ e. e) (λ b. absurd b) h;
    dead_from = λ e a. inl e;
    dead_tidy = λ e a. inl e;
    tidy = λ h. h.0;
    exact = λ h path e a. inl a;
  }

  -- the second of two stands for both where the first allows no more
  pub gathers_second : (i j : ℕ) (t : TypeTerm) → NoMore P G i j t → (G j ≡ free → G i ≡ free) → (G i ≡ dead → G j ≡ dead) → Gathers P G (i ∷ j ∷ []) j t
  gathers_second i j t h f d = record {
    least = record { above = (h, ((λ path e a. a), tt)); least = λ H proper h more. more.1.0 };
    free_to = λ e. e.1.0;
    free_from = λ e. (f e, (e, tt));
    dead_to = λ e. ⊎_elim d (λ b. ⊎_elim (λ x. x) (λ x. absurd x) b) e;
    dead_from = λ e a. inr (inl e);
    dead_tidy = λ e a. inr (inl e);
    tidy = λ e. e.1.0;
    exact = λ p path e a. inr (inl a);
  }

  pub gathers_first : (i j : ℕ) (t : TypeTerm) → NoMore P G j i t → (G i ≡ free → G j ≡ free) → (G j ≡ dead → G i ≡ dead) → Gathers P G (i ∷ j ∷ []) i t
  gathers_first i j t h f d = record {
    least = record { above = ((λ path e a. a), (h, tt)); least = λ H proper h more. more.0 };
    free_to = λ e. e.0;
    free_from = λ e. (e, (f e, tt));
    dead_to = λ e. ⊎_elim (λ x. x) (λ b. ⊎_elim d (λ x. absurd x) b) e;
    dead_from = λ e a. inl e;
    dead_tidy = λ e a. inl e;
    tidy = λ e. e.0;
    exact = λ p path e a. inl a;
  }

  -- lists that are put together
  free_front : (xs ys : List ℕ) → AllFree G (xs ++ ys) → AllFree G xs
  free_front [] ys h = tt
  free_front (x ∷ xs) ys h = (h.0, free_front xs ys h.1)

  free_back : (xs ys : List ℕ) → AllFree G (xs ++ ys) → AllFree G ys
  free_back [] ys h = h
  free_back (x ∷ xs) ys h = free_back xs ys h.1

  free_both : (xs ys : List ℕ) → AllFree G xs → AllFree G ys → AllFree G (xs ++ ys)
  free_both [] ys h g = g
  free_both (x ∷ xs) ys h g = (h.0, free_both xs ys h.1 g)

  dead_which : (xs ys : List ℕ) → OneIsDead G (xs ++ ys) → OneIsDead G xs ⊎ OneIsDead G ys
  dead_which [] ys h = inr h
  dead_which (x ∷ xs) ys h = ⊎_elim (λ e. inl (inl e)) (λ b. ⊎_elim (λ c. inl (inr c)) (λ c. inr c) (dead_which xs ys b)) h

  dead_front : (xs ys : List ℕ) → OneIsDead G xs → OneIsDead G (xs ++ ys)
  dead_front [] ys h = absurd h
  dead_front (x ∷ xs) ys h = ⊎_elim (λ e. inl e) (λ b. inr (dead_front xs ys b)) h

  dead_back : (xs ys : List ℕ) → OneIsDead G ys → OneIsDead G (xs ++ ys)
  dead_back [] ys h = h
  dead_back (x ∷ xs) ys h = inr (dead_back xs ys h)

  module _ (t : TypeTerm) where
    more_front : (xs ys : List ℕ) (H : Graph) (h : ℕ) → NoneMore P G (xs ++ ys) H h t → NoneMore P G xs H h t
    more_front [] ys H h m = tt
    more_front (x ∷ xs) ys H h m = (m.0, more_front xs ys H h m.1)

    more_back : (xs ys : List ℕ) (H : Graph) (h : ℕ) → NoneMore P G (xs ++ ys) H h t → NoneMore P G ys H h t
    more_back [] ys H h m = m
    more_back (x ∷ xs) ys H h m = more_back xs ys H h m.1

    more_both : (xs ys : List ℕ) (H : Graph) (h : ℕ) → NoneMore P G xs H h t → NoneMore P G ys H h t → NoneMore P G (xs ++ ys) H h t
    more_both [] ys H h m n = n
    more_both (x ∷ xs) ys H h m n = (m.0, more_both xs ys H h m.1 n)

    more_along : (xs : List ℕ) (H : Graph) (i h : ℕ) → NoneMore P G xs G i t → NoMoreThere P G i H h t → NoneMore P G xs H h t
    more_along [] H i h m n = tt
    more_along (x ∷ xs) H i h m n = ((λ path e a. n path e (m.0 path e a)), more_along xs H i h m.1 n)

    tidy_front : (xs ys : List ℕ) → EachIsTidy P G (xs ++ ys) t → EachIsTidy P G xs t
    tidy_front [] ys h = tt
    tidy_front (x ∷ xs) ys h = (h.0, tidy_front xs ys h.1)

    tidy_back : (xs ys : List ℕ) → EachIsTidy P G (xs ++ ys) t → EachIsTidy P G ys t
    tidy_back [] ys h = h
    tidy_back (x ∷ xs) ys h = tidy_back xs ys h.1

    allows_front : (xs ys : List ℕ) (path : Path) (e : Tip) → OneAllows P G xs path e t → OneAllows P G (xs ++ ys) path e t
    allows_front [] ys path e h = absurd h
    allows_front (x ∷ xs) ys path e h = ⊎_elim (λ a. inl a) (λ b. inr (allows_front xs ys path e b)) h

    allows_back : (xs ys : List ℕ) (path : Path) (e : Tip) → OneAllows P G ys path e t → OneAllows P G (xs ++ ys) path e t
    allows_back [] ys path e h = h
    allows_back (x ∷ xs) ys path e h = inr (allows_back xs ys path e h)

    module _ (xs ys : List ℕ) (i j k : ℕ) (first : Gathers P G xs i t) (second : Gathers P G ys j t) (both : Gathers P G (i ∷ j ∷ []) k t) where
      lives : LivesAbove P G (xs ++ ys) t → (LivesAbove P G xs t × LivesAbove P G ys t) × LivesAbove P G (i ∷ j ∷ []) t
      lives a =
          let m = more_front xs ys a.graph a.inst a.above in
          let n = more_back xs ys a.graph a.inst a.above in (
            (
              record { graph = a.graph; proper = a.proper; inst = a.inst; lives = a.lives; above = m },
              record { graph = a.graph; proper = a.proper; inst = a.inst; lives = a.lives; above = n },
            ),
            record { graph = a.graph; proper = a.proper; inst = a.inst; lives = a.lives; above = (first.least.least a.graph a.proper a.inst m, (second.least.least a.graph a.proper a.inst n, tt)) },
          )

      tidies : EachIsTidy P G (xs ++ ys) t → EachIsTidy P G (i ∷ j ∷ []) t
      tidies h = (first.tidy (tidy_front xs ys h), (second.tidy (tidy_back xs ys h), tt))

      pub gathers_both : Gathers P G (xs ++ ys) k t
      gathers_both = record {
        least = record {
          above = more_both xs ys G k (more_along xs G i k first.least.above both.least.above.0) (more_along ys G j k second.least.above both.least.above.1.0);
          least = λ H proper h more. both.least.least H proper h (first.least.least H proper h (more_front xs ys H h more), (second.least.least H proper h (more_back xs ys H h more), tt));
        };
        free_to = λ h. both.free_to (first.free_to (free_front xs ys h), (second.free_to (free_back xs ys h), tt));
        free_from = λ e. let f = both.free_from e in free_both xs ys (first.free_from f.0) (second.free_from f.1.0);
        dead_to = λ h. both.dead_to (⊎_elim (λ d. inl (first.dead_to d)) (λ d. inr (inl (second.dead_to d))) (dead_which xs ys h));
        dead_from = λ e a.
            let l = lives a in
            ⊎_elim (λ d. dead_front xs ys (first.dead_from d l.0.0)) (λ b. ⊎_elim (λ d. dead_back xs ys (second.dead_from d l.0.1)) (λ x. absurd x) b) (both.dead_from e l.1);
        dead_tidy = λ e a.
            ⊎_elim (λ d. dead_front xs ys (first.dead_tidy d (tidy_front xs ys a))) (λ b. ⊎_elim (λ d. dead_back xs ys (second.dead_tidy d (tidy_back xs ys a))) (λ x. absurd x) b) (both.dead_tidy e (tidies a));
        tidy = λ h. both.tidy (tidies h);
        exact = λ h path e a.
            ⊎_elim (λ x. allows_front xs ys path e (first.exact (tidy_front xs ys h) path e x)) (λ b. ⊎_elim (λ x. allows_back xs ys path e (second.exact (tidy_back xs ys h) path e x)) (λ x. absurd x) b) (both.exact (tidies h) path e a);
      }

  -- what such an inst says
  none_dead : (is : List ℕ) → (OneIsDead G is → ⊥) → NoneIs dead G is
  none_dead [] h = tt
  none_dead (i ∷ is) h = ((λ e. h (inl e)), none_dead is (λ d. h (inr d)))

  module _ (is : List ℕ) (k : ℕ) (t : TypeTerm) (g : Gathers P G is k t) where
    merged_node : (N : InstNode) → G k ≡ N → (N ≡ dead → OneIsDead G is) → NoneIs free G is → MergedNodes G is N (LeastAbove P G is k t)
    merged_node free e d n = g.free_from e
    merged_node dead e d n = (n, d refl)
    merged_node ground e d n = (n, none_dead is (λ x. let y : ground ≡ dead = sym e ∙ g.dead_to x in cc), g.least)
    merged_node unique e d n = (n, none_dead is (λ x. let y : unique ≡ dead = sym e ∙ g.dead_to x in cc), g.least)
    merged_node (bound ls) e d n = (n, none_dead is (λ x. let y : bound ls ≡ dead = sym e ∙ g.dead_to x in cc), g.least)

    merged_free : AllFree G is → Merged P G is k t
    merged_free h = subst (λ N. MergedNodes G is N (LeastAbove P G is k t)) (sym (g.free_to h)) h

    merged_rest : NoneIs free G is → (G k ≡ dead → OneIsDead G is) → Merged P G is k t
    merged_rest n d = merged_node (G k) refl d n

    pub stands : StandsForAll P G is k t
    stands = record {
      least = g.least;
      merged = λ h. ⊎_elim merged_free (λ n. merged_rest n.0 (λ e. ⊎_elim (λ d. d) (λ a. g.dead_from e a) n.1)) h;
      tidily = λ h. record {
        tidy = g.tidy h;
        exact = g.exact h;
        merged = λ f. ⊎_elim merged_free (λ n. merged_rest n (λ e. g.dead_tidy e h)) f;
      };
    }
