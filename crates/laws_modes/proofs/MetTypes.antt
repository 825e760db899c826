-- Finitely many types are met under each type, where types are regular.
use Rattle.std.proofs.Common.{◌≡◌, ◌⊎◌, inl, inr, ℕ, suc, List, [], ◌∷◌, ◌++◌, refl, sym, subst, arith, ⊎_elim}
use Rattle.std.specs.Prelude.{Contains}
use Rattle.mc_program.specs.Programs.{TypeTerm, int_type, char_type, string_type, state_type, variable_type, union_type, TypeTerms, no_types, type_then, Source}
use Rattle.laws_order.proofs.Telling.{Held, held_left, held_right, contained}
use Rattle.laws_modes.specs.Regular.{FinitelyManyMet}
use Rattle.laws_modes.proofs.Finite.{held_either}
use Rattle.laws_modes.proofs.Parts.{Among}
use Rattle.laws_modes.proofs.Under.{Met, MetUnderNone, met_under_variable, under_int, under_char, under_string, under_state, Ranked, Under, under}
use Rattle.laws_modes.proofs.Ranks.{rank, next, are_ranked}

pub held_contained : {A : Type 0} (xs : List A) (x : A) → Held xs x → Contains xs x
held_contained [] x h = absurd h
held_contained (y ∷ xs) x (inl e) = (0, omega arith, sym e)
held_contained (y ∷ xs) x (inr h) =
    let r = held_contained xs x h in
    (suc r.0, omega (arith, r.1), r.2)

module _ (P : Source) where
  -- a list that has these types, and with each what is met under it
  record Whole (Q : TypeTerm → Type 0) : Type 0 where
    types : List TypeTerm
    each : (x : TypeTerm) → Q x → Held types x
    closed : (x v : TypeTerm) → Held types x → Met P x v → Held types v

  lone : (t : TypeTerm) → ((v : TypeTerm) → Met P t v → v ≡ t) → Whole (λ x. x ≡ t)
  lone t stays =
      record {
        types = t ∷ [];
        each = λ x e. inl e;
        closed =
            λ x v h m.
            ⊎_elim (λ e. inl (stays v (subst (λ y. Met P y v) e m))) (λ k. absurd k) h;
      }

  alone : (t : TypeTerm) → MetUnderNone P t → Whole (λ x. x ≡ t)
  alone t n = lone t (λ v m. absurd (n v m))

  both : (Q R : TypeTerm → Type 0) → Whole Q → Whole R → Whole (λ x. Q x ⊎ R x)
  both Q R q r =
      record {
        types = q.types ++ r.types;
        each =
            λ x h.
            ⊎_elim (λ a. held_left q.types r.types x (q.each x a))
            (λ b. held_right q.types r.types x (r.each x b)) h;
        closed =
            λ x v h m.
            ⊎_elim (λ a. held_left q.types r.types v (q.closed x v a m))
            (λ b. held_right q.types r.types v (r.closed x v b m))
            (held_either q.types r.types x h);
      }

  over_row :
      (u : ℕ) (ts : TypeTerms) → Under P u ts → Whole (Among ts) → Whole (λ x. x ≡ union_type u ts)
  over_row u ts q r =
      record {
        types = q.types ++ r.types;
        each =
            λ x e.
            held_left q.types r.types x (subst (λ y. Held q.types y) (sym e) q.itself);
        closed = λ x v h m. at x v m (held_either q.types r.types x h);
      }
    where
      at :
          (x v : TypeTerm) → Met P x v → Held q.types x ⊎ Held r.types x
          → Held (q.types ++ r.types) v
      at x v m (inl h) =
          ⊎_elim (λ a. held_right q.types r.types v (r.closed x v (r.each x a) m))
          (λ f. held_left q.types r.types v (f v m)) (q.closed x h)
      at x v m (inr h) = held_right q.types r.types v (r.closed x v h m)

  module _ (n : ℕ) (ranks : ℕ → ℕ) (are : Ranked P n ranks) where
    mutual
      whole : (t : TypeTerm) → Whole (λ x. x ≡ t)
      whole int_type = alone int_type (under_int P)
      whole char_type = alone char_type (under_char P)
      whole string_type = alone string_type (under_string P)
      whole state_type = alone state_type (under_state P)
      whole (variable_type k) = lone (variable_type k) (met_under_variable P k)
      whole (union_type u ts) =
          over_row u ts (under P n ranks are (suc (ranks u)) u ts (omega arith)) (all_whole ts)

      all_whole : (ts : TypeTerms) → Whole (Among ts)
      all_whole no_types =
          record { types = []; each = λ x h. h; closed = λ x v h m. absurd h }
      all_whole (type_then t ts) = both (λ x. x ≡ t) (Among ts) (whole t) (all_whole ts)

pub finitely_many_met : FinitelyManyMet
finitely_many_met P n are t =
    let it = whole P n (rank (next P n are) n) (are_ranked P n are) t in
    record {
      types = it.types;
      itself = held_contained it.types t (it.each t refl);
      closed =
          λ u v s us h e k.
          held_contained it.types v
          (it.closed u v (contained it.types u h) (s, (us, e, contained us v k)));
    }
