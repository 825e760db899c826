-- Definitions stay as they are after as many rounds as there are types, since none goes round.
use Rattle.std.proofs.Common.{◌≡◌, ℕ, zero, suc, ◌+◌, ◌<◌, ◌≤◌, Bool, true, false, not, ◌||◌, cond, List, ◌∷◌, length, nat_eq, refl, sym, ap, ◌∙◌, arith, ⊎_elim}
use Rattle.std.specs.Prelude.{Option, Some, None, if◌then◌else◌}
use Rattle.std.specs.Option.{option_map}
use Rattle.std.proofs.lemmas.Bool.{cases_lt, cases_Bool, eq-eqb, or_left}
use Rattle.mc_program.specs.Programs.{TypeTerm}
use Rattle.mc_model.specs.Lists.{is_in, from}
use Rattle.mc_components.specs.Reached.{reaches, step, over}
use Rattle.mc_components.proofs.Reaching.{reached_by_ways}
use Rattle.mc_names.specs.Linked.{Linked}
use Rattle.mc_type_table.specs.Expanded.{equivalent, replaced, after_rounds}
use Rattle.mc_type_table.specs.Rules.{types_in, types_in_body, is_cyclic, definitions}
use Rattle.mc_type_table.proofs.Expanding.{replaced_alike, undefined_after, undefined_past}
use Rattle.laws_order.proofs.Telling.{counted}
use Rattle.laws_modes.proofs.Ranks.{rank, lower_rank}

-- HOW MANY of a range pass a test
counted_some : (f : ℕ → Bool) (x k m : ℕ) → m ≤ x → x < m + k → f x ≡ true → 1 ≤ counted f (from m k)
counted_some f x zero m a b is = absurd (omega (arith, a, b))
counted_some f x (suc k) m a b is = by_test (f m) refl (λ later. let within : x < suc m + k = omega (arith, b) in counted_some f x k (suc m) later within is)
  where
    by_test : (t : Bool) → f m ≡ t → (suc m ≤ x → 1 ≤ counted f (from (suc m) k)) → 1 ≤ cond t (suc (counted f (from (suc m) k))) (counted f (from (suc m) k))
    by_test true e rest = omega arith
    by_test false e rest =
        ⊎_elim (λ less. let later : suc m ≤ x = omega (arith, less) in rest later)
        (λ le. let same : x ≡ m = omega (arith, a, le) in let clash : true ≡ false = sym is ∙ ap f same ∙ e in cc)
        (cases_lt m x)

counted_all : (f : ℕ → Bool) (k m : ℕ) → counted f (from m k) ≤ k
counted_all f zero m = omega arith
counted_all f (suc k) m = by_test (f m) (counted_all f k (suc m))
  where
    by_test : (t : Bool) → counted f (from (suc m) k) ≤ k → cond t (suc (counted f (from (suc m) k))) (counted f (from (suc m) k)) ≤ suc k
    by_test true h = omega (arith, h)
    by_test false h = omega (arith, h)

once_more :
    (D : ℕ → Option TypeTerm) (n u : ℕ) (b : TypeTerm)
    → D u ≡ Some b → after_rounds (suc n) D u ≡ Some (replaced (after_rounds n D) b)
once_more D n u b is = ap (option_map (replaced (after_rounds n D))) is

module _ (l : Linked) where
  abbrev next : ℕ → List ℕ
  next u = types_in_body (equivalent l u)

  abbrev types : ℕ
  types = length l.types

  abbrev D : ℕ → Option TypeTerm
  D u = definitions l u

  -- what is defined doesn't go round
  defined_so : (u : ℕ) (b : TypeTerm) → D u ≡ Some b → (is_cyclic l u ≡ false) × (equivalent l u ≡ Some b)
  defined_so u b is = by_test (is_cyclic l u) is
    where
      by_test : (r : Bool) → (if not r then equivalent l u else None) ≡ Some b → (r ≡ false) × (equivalent l u ≡ Some b)
      by_test true e = absurd (let clash : None ≡ Some b = e in cc)
      by_test false e = (refl, e)

  within : (u : ℕ) (b : TypeTerm) → D u ≡ Some b → u < types
  within u b is = ⊎_elim (λ less. less) (λ past. absurd (let clash : None ≡ Some b = sym (undefined_past l u past) ∙ is in cc)) (cases_lt u types)

  -- what stands in a definition has a lower rank
  falls : (u j : ℕ) (b : TypeTerm) → D u ≡ Some b → is_in j (types_in b) ≡ true → j < types → rank next types j < rank next types u
  falls u j b is there less =
      let known = defined_so u b is in
      let stands : is_in j (next u) ≡ true = ap (λ o. is_in j (types_in_body o)) known.1 ∙ there in
      let down : reaches next types u j ≡ true = (reached_by_ways next types u j).1 (step stands) in
      let never : reaches next types j u ≡ false =
      ⊎_elim
      (λ up. let around : reaches next types u u ≡ true = (reached_by_ways next types u u).1 (over less ((reached_by_ways next types u j).0 down) ((reached_by_ways next types j u).0 up)) in
      let clash : true ≡ false = sym around ∙ known.0 in absurd (let none : ⊥ = cc in none))
      (λ no. no) (cases_Bool (reaches next types j u)) in
      lower_rank next types u j (within u b is) less down never

  ranked : (u : ℕ) → u < types → 1 ≤ rank next types u
  ranked u less =
      let low : 0 ≤ u = omega arith in
      let high : u < 0 + types = omega (arith, less) in
      counted_some (λ k. nat_eq k u || reaches next types u k) u types 0 low high (or_left (nat_eq u u) (reaches next types u u) (eq-eqb u u refl))

  settled :
      (m u : ℕ) (o : Option TypeTerm)
      → D u ≡ o
      → ((b : TypeTerm) → o ≡ Some b → rank next types u ≤ m)
      → after_rounds m D u ≡ after_rounds (suc m) D u
  settled m u None is small = undefined_after D m u is ∙ sym (undefined_after D (suc m) u is)
  settled zero u (Some b) is small = absurd (omega (arith, ranked u (within u b is), small b refl))
  settled (suc m) u (Some b) is small =
      let each : (j : ℕ) → is_in j (types_in b) ≡ true → after_rounds m D j ≡ after_rounds (suc m) D j =
      λ j there. settled m j (D j) refl (λ c known. omega (arith, falls u j b is there (within j c known), small b refl)) in
      once_more D m u b is ∙ ap Some (replaced_alike (after_rounds m D) (after_rounds (suc m) D) b each) ∙ sym (once_more D (suc m) u b is)

  -- so each definition is as its body is where it is replaced
  pub rounds_end : (u : ℕ) (b : TypeTerm) → D u ≡ Some b → after_rounds types D u ≡ Some (replaced (after_rounds types D) b)
  rounds_end u b is =
      settled types u (D u) refl (λ c known. counted_all (λ k. nat_eq k u || reaches next types u k) types 0)
      ∙ once_more D types u b is
