-- Where types are regular, each union has a rank: how many it reaches, itself with them.
use Rattle.std.proofs.Common.{◌≡◌, ◌⊎◌, inl, inr, ℕ, zero, suc, ◌+◌, ◌<◌, ◌≤◌, Bool, true, false, nat_eq, ◌||◌, List, refl, sym, ap, ◌∙◌, subst, arith, ⊎_elim}
use Rattle.std.proofs.lemmas.Bool.{eqb-true, eq-eqb, or_cases, or_left, or_right, cases_lt, cases_Bool}
use Rattle.mc_program.specs.Programs.{TypeTerm, union_type, TypeTerms, Source}
use Rattle.mc_model.specs.Lists.{is_in, from}
use Rattle.mc_components.specs.Reached.{reaches, step, over}
use Rattle.mc_components.proofs.Reaching.{reached_by_ways}
use Rattle.mc_type_table.specs.Rules.{types_in_all, are_plain}
use Rattle.laws_order.proofs.Telling.{Held, counted, counted_less, counted_same}
use Rattle.laws_modes.specs.Regular.{arguments_among, body, AreRegular}
use Rattle.laws_modes.proofs.Parts.{PartOf, stands_in, plain_in}
use Rattle.laws_modes.proofs.Under.{Ranked}

module _ (next : ℕ → List ℕ) (n : ℕ) where
  abbrev is_reached : (u k : ℕ) → Bool
  is_reached u k = nat_eq k u || reaches next n u k

  abbrev pub rank : ℕ → ℕ
  rank u = counted (is_reached u) (from 0 n)

  stepped : (u w : ℕ) → is_in w (next u) ≡ true → reaches next n u w ≡ true
  stepped u w i = (reached_by_ways next n u w).1 (step i)

  joined :
      (u w k : ℕ)
      → w < n → reaches next n u w ≡ true → reaches next n w k ≡ true → reaches next n u k ≡ true
  joined u w k less p q =
      (reached_by_ways next n u k).1
      (over less ((reached_by_ways next n u w).0 p) ((reached_by_ways next n w k).0 q))

  -- what is reached from u is reached from what reaches u
  all_reached :
      (u w k : ℕ)
      → w < n → reaches next n u w ≡ true → is_reached w k ≡ true → is_reached u k ≡ true
  all_reached u w k less r h =
      or_right (nat_eq k u) (reaches next n u k)
      (⊎_elim
      (λ e. subst (λ x. reaches next n u x ≡ true) (sym (eqb-true k w e)) r)
      (λ e. joined u w k less r e) (or_cases (nat_eq k w) (reaches next n w k) h))

  pub same_rank :
      (u w : ℕ)
      → u < n → w < n → reaches next n u w ≡ true → reaches next n w u ≡ true → rank w ≡ rank u
  same_rank u w l k p q =
      let up : rank w ≤ rank u =
      counted_less (is_reached u) (is_reached w) (λ x. all_reached u w x k p) (from 0 n)
      in
      let down : rank u ≤ rank w =
      counted_less (is_reached w) (is_reached u) (λ x. all_reached w u x l q) (from 0 n)
      in
      omega (arith, up, down)

  held_from : (k m x : ℕ) → m ≤ x → x < m + k → Held (from m k) x
  held_from zero m x a b = absurd (omega (arith, a, b))
  held_from (suc k) m x a b =
      ⊎_elim (λ less. inr (held_from k (suc m) x less (omega (arith, b))))
      (λ le. inl (omega (arith, a, le))) (cases_lt m x)

  pub lower_rank :
      (u w : ℕ)
      → u < n → w < n → reaches next n u w ≡ true → reaches next n w u ≡ false
      → rank w < rank u
  lower_rank u w l k p q =
      let up : rank w ≤ rank u =
      counted_less (is_reached u) (is_reached w) (λ x. all_reached u w x k p) (from 0 n)
      in
      let other : rank u ≡ rank w → ⊥ =
      λ e.
      ⊎_elim
      (λ same.
      let it : reaches next n w u ≡ true =
      subst (λ x. reaches next n x u ≡ true) (eqb-true u w same)
      (subst (λ x. reaches next n u x ≡ true) (sym (eqb-true u w same)) p)
      in
      let clash : true ≡ false = sym it ∙ q in cc)
      (λ it. let clash : true ≡ false = sym it ∙ q in cc)
      (or_cases (nat_eq u w) (reaches next n w u)
      (counted_same (is_reached u) (is_reached w) (λ x. all_reached u w x k p) (from 0 n) e u
      (held_from n 0 u (omega arith) (omega (arith, l)))
      (or_left (nat_eq u u) (reaches next n u u) (eq-eqb u u refl))))
      in
      ⊎_elim (λ less. less) (λ le. absurd (other (omega (arith, up, le))))
      (cases_lt (rank w) (rank u))

module _ (P : Source) (n : ℕ) (are : AreRegular P n) where
  abbrev pub next : ℕ → List ℕ
  next u = types_in_all (body P u)

  none_past : (u : ℕ) (a : TypeTerm) → n ≤ u → Held (body P u) a → ⊥
  none_past u a past h =
      subst (λ ts. Held ts a) (ap (arguments_among P u) (are.end u past)) h

  pub are_ranked : Ranked P n (rank next n)
  are_ranked =
      record {
        end = none_past;
        falls =
            λ u a w bs less h p.
            ⊎_elim (λ l. level u a w bs l less h p (cases_Bool (reaches next n w u)))
            (λ past. absurd (none_past u a past h)) (cases_lt u n);
      }
    where
      level :
          (u : ℕ) (a : TypeTerm) (w : ℕ) (bs : TypeTerms)
          → u < n → w < n → Held (body P u) a → PartOf a (union_type w bs)
          → (reaches next n w u ≡ true) ⊎ (reaches next n w u ≡ false)
          → (rank next n w < rank next n u)
          ⊎ ((rank next n w ≡ rank next n u) × (are_plain bs ≡ true))
      level u a w bs l k h p (inl back) =
          inr (
            same_rank next n u w l k (stepped next n u w (stands_in (body P u) a w bs h p)) back,
            plain_in (λ k. reaches next n k u) (body P u) a w bs (are.regular u) h p back,
          )
      level u a w bs l k h p (inr apart) =
          inl
          (lower_rank next n u w l k (stepped next n u w (stands_in (body P u) a w bs h p)) apart)
