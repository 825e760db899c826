-- Which constructors an inst allows, by narrowing it.
use Rattle.std.proofs.Common.{◌≡◌, inl, inr, ⊎_elim, ℕ, List, [], ◌∷◌, Bool, true, false, nat_eq, ◌||◌, ◌&&◌, Option, Some, None, MatchOption, refl, sym, ◌∙◌}
use Rattle.std.specs.Cmp.Lexicographic.{pointwise, bytes_decides}
use Rattle.std.proofs.lemmas.Bool.{eqb-true, eq-eqb, and_parts, and_from, or_left, or_right, cases_Bool}
use Rattle.mc_program.specs.Programs.{Source}
use Rattle.mc_model.specs.Insts.{Listed, InstNode, free, ground, unique, dead, bound, Graph, Lists, AllowsSymbol}
use Rattle.mc_accepted.specs.Determined.{lists_name, allows_name}
use Rattle.mc_insts.specs.Narrowed.{Narrowed}

module _ (P : Source) (s : ℕ) where
  abbrev is_named : Listed → Bool
  is_named l = pointwise nat_eq l.name (P.symbols s).name.bytes && nat_eq l.arity (P.symbols s).name.arity

  lists_named : (ls : List Listed) (Q : List ℕ → Type 0) → Lists P ls s Q → lists_name ls (P.symbols s).name ≡ true
  lists_named [] Q h = absurd h
  lists_named (l ∷ ls) Q h =
      ⊎_elim
      (λ a. or_left (is_named l) (lists_name ls (P.symbols s).name) (and_from (pointwise nat_eq l.name (P.symbols s).name.bytes) (nat_eq l.arity (P.symbols s).name.arity) ((bytes_decides l.name (P.symbols s).name.bytes).1 a.0) (eq-eqb l.arity (P.symbols s).name.arity a.1)))
      (λ a. or_right (is_named l) (lists_name ls (P.symbols s).name) (lists_named ls Q a)) h

  either_of : (t u : Bool) (R : Type 0) → (t ≡ true → R) → (u ≡ true → R) → (t || u) ≡ true → R
  either_of true u R f g h = f refl
  either_of false u R f g h = g h

  named_lists : (ls : List Listed) → lists_name ls (P.symbols s).name ≡ true → Lists P ls s (λ is. Unit {0})
  named_lists [] h = cc
  named_lists (l ∷ ls) h =
      either_of (is_named l) (lists_name ls (P.symbols s).name) (Lists P (l ∷ ls) s (λ is. Unit {0}))
      (λ e.
      let p = and_parts (pointwise nat_eq l.name (P.symbols s).name.bytes) (nat_eq l.arity (P.symbols s).name.arity) e in
      inl ((bytes_decides l.name (P.symbols s).name.bytes).0 p.0, eqb-true l.arity (P.symbols s).name.arity p.1, tt))
      (λ e. inr (named_lists ls e)) h

  allows_named : (N : InstNode) (i : ℕ) (Q : List ℕ → Type 0) → AllowsSymbol P N i s Q → allows_name N (P.symbols s).name ≡ true
  allows_named free i Q h = absurd h
  allows_named ground i Q h = refl
  allows_named unique i Q h = refl
  allows_named dead i Q h = refl
  allows_named (bound ls) i Q h = lists_named ls Q h

  named_allows : (N : InstNode) (i : ℕ) → allows_name N (P.symbols s).name ≡ true → AllowsSymbol P N i s (λ is. Unit {0})
  named_allows free i h = cc
  named_allows ground i h = tt
  named_allows unique i h = tt
  named_allows dead i h = tt
  named_allows (bound ls) i h = named_lists ls h

  narrowed_to_none : (G : Graph) (i : ℕ) → Narrowed P G i s None → false ≡ allows_name (G i) (P.symbols s).name
  narrowed_to_none G i n =
      ⊎_elim (λ (e : allows_name (G i) (P.symbols s).name ≡ true). absurd (n (named_allows (G i) i e))) (λ e. sym e)
      (cases_Bool (allows_name (G i) (P.symbols s).name))

  narrowed_to_some : (G : Graph) (i : ℕ) (row : List ℕ) → Narrowed P G i s (Some row) → true ≡ allows_name (G i) (P.symbols s).name
  narrowed_to_some G i row n = sym (allows_named (G i) i (λ is. is ≡ row) n)

  pub narrowed_tells : (G : Graph) (i : ℕ) (o : Option (List ℕ)) (b : Bool) → Narrowed P G i s o → MatchOption o (b ≡ false) (λ row. b ≡ true) → b ≡ allows_name (G i) (P.symbols s).name
  narrowed_tells G i None b n e = e ∙ narrowed_to_none G i n
  narrowed_tells G i (Some row) b n e = e ∙ narrowed_to_some G i row n
