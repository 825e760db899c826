-- Finitely many types are met under the types of lists, so some test tells inclusion.
use Rattle.std.proofs.Common.{◌≡◌, ◌⊎◌, inl, inr, ℕ, zero, suc, List, [], ◌∷◌, map, Bool, true, false, cond, nat_eq, ◌&&◌, Option, Some, None, refl, sym, ap, ◌∙◌, subst, ⊎_elim, arith}
use Rattle.std.specs.Prelude.{Contains}
use Rattle.std.proofs.lemmas.Bool.{eqb-true}
use Rattle.std.proofs.lemmas.Option.{none-some, same_Some}
use Rattle.mc_program.specs.Programs.{TypeTerm, int_type, char_type, string_type, state_type, variable_type, union_type, TypeTerms, no_types, type_then}
use Rattle.mc_model.specs.Types.{argument_types, instance_of, type_at}
use Rattle.mc_model.specs.Lists.{is_in}
use Rattle.laws_language.specs.code.ExamplesOfProcedures.{list_source, list_insts, list_symbols}
use Rattle.laws_language.proofs.AcceptedAppend.{insts_fit}
use Rattle.laws_order.specs.SomeTest.{InstsEnd, SymbolsEnd, TypesMet}
use Rattle.laws_order.specs.code.ExamplesOfTests.{ListsAreTold}
use Rattle.laws_order.proofs.SomeTest.{some_test_tells}
use Rattle.laws_order.proofs.Telling.{Held, contained}

abbrev list_of : TypeTerm → TypeTerm
list_of t = union_type 0 (type_then t no_types)

-- the types that are met under a type
abbrev mutual
  under : TypeTerm → List TypeTerm
  under (union_type zero ts) = union_type 0 ts ∷ list_of (type_at ts 0) ∷ under_first ts
  under (union_type (suc u) ts) = union_type (suc u) ts ∷ []
  under int_type = int_type ∷ []
  under char_type = char_type ∷ []
  under string_type = string_type ∷ []
  under state_type = state_type ∷ []
  under (variable_type v) = variable_type v ∷ []

  under_first : TypeTerms → List TypeTerm
  under_first no_types = variable_type 0 ∷ []
  under_first (type_then t ts) = under t

abbrev Arguments : ℕ → TypeTerm → List TypeTerm → Type 0
Arguments s t us = argument_types list_source s t ≡ Some us

itself : (t : TypeTerm) → Held (under t) t
itself (union_type zero ts) = inl refl
itself (union_type (suc u) ts) = inl refl
itself int_type = inl refl
itself char_type = inl refl
itself string_type = inl refl
itself state_type = inl refl
itself (variable_type v) = inl refl

first_met : (ts : TypeTerms) → Held (under_first ts) (type_at ts 0)
first_met no_types = inl refl
first_met (type_then t ts) = itself t

-- the arguments of lists
of_lists : (s : ℕ) (ts : TypeTerms) (us : List TypeTerm) (v : TypeTerm) → Arguments s (union_type 0 ts) us → Held us v → (v ≡ type_at ts 0) ⊎ (v ≡ list_of (type_at ts 0))
of_lists zero ts us v e h = absurd (subst (λ ws. Held ws v) (sym (same_Some [] us e)) h)
of_lists (suc zero) ts us v e h = ⊎_elim (λ a. inl a) (λ b. ⊎_elim (λ c. inr c) (λ c. absurd c) b) (subst (λ ws. Held ws v) (sym (same_Some (type_at ts 0 ∷ list_of (type_at ts 0) ∷ []) us e)) h)
of_lists (suc (suc s)) ts us v e h = absurd (none-some us e)

-- no other union has constructors
of_others : (s u : ℕ) (ts : TypeTerms) (us : List TypeTerm) → Arguments s (union_type (suc u) ts) us → ⊥
of_others s u ts us e = by (nat_eq (list_symbols s).of_type (suc u)) (nat_eq (suc u) 0) (λ q. let z : suc u ≡ 0 = eqb-true (suc u) 0 q in omega (arith, z)) (Some (map (instance_of (type_at ts)) (list_symbols s).args)) e
  where
    by : (b c : Bool) → (c ≡ true → ⊥) → (o : Option (List TypeTerm)) → cond (b && is_in s (cond c (0 ∷ 1 ∷ []) [])) o None ≡ Some us → ⊥
    by b true n o e = n refl
    by true false n o e = none-some us e
    by false false n o e = none-some us e

all_one : (v : ℕ) (ts : List TypeTerm) (u : TypeTerm) → Held (map (λ (t : TypeTerm). variable_type v) ts) u → u ≡ variable_type v
all_one v [] u h = absurd h
all_one v (t ∷ ts) u h = ⊎_elim (λ e. e) (λ k. all_one v ts u k) h

-- a type that stands alone
alone : (t u v : TypeTerm) (s : ℕ) (us : List TypeTerm) → ((ws : List TypeTerm) → Arguments s t ws → ⊥) → (u ≡ t) ⊎ ⊥ → Arguments s u us → Held (t ∷ []) v
alone t u v s us none h e = ⊎_elim (λ q. absurd (none us (ap (argument_types list_source s) (sym q) ∙ e))) (λ a. absurd a) h

variable_stays : (x : ℕ) (u v : TypeTerm) (s : ℕ) (us : List TypeTerm) → (u ≡ variable_type x) ⊎ ⊥ → Arguments s u us → Held us v → (v ≡ variable_type x) ⊎ ⊥
variable_stays x u v s us h e k =
    ⊎_elim
    (λ q.
    let ws = map (λ (t : TypeTerm). variable_type x) (list_symbols s).args in
    let f : Some ws ≡ Some us = ap (argument_types list_source s) (sym q) ∙ e in
    inl (all_one x (list_symbols s).args v (subst (λ ls. Held ls v) (sym (same_Some ws us f)) k)))
    (λ a. absurd a) h

mutual
  stays_under : (t u v : TypeTerm) (s : ℕ) (us : List TypeTerm) → Held (under t) u → Arguments s u us → Held us v → Held (under t) v
  stays_under (union_type zero ts) u v s us h e k =
      let met : (v ≡ type_at ts 0) ⊎ (v ≡ list_of (type_at ts 0)) → Held (under (union_type zero ts)) v = λ r. ⊎_elim (λ q. inr (inr (subst (λ w. Held (under_first ts) w) (sym q) (first_met ts)))) (λ q. inr (inl q)) r in
      ⊎_elim (λ q. met (of_lists s ts us v (ap (argument_types list_source s) (sym q) ∙ e) k))
      (λ r. ⊎_elim (λ q. met (of_lists s (type_then (type_at ts 0) no_types) us v (ap (argument_types list_source s) (sym q) ∙ e) k)) (λ q. inr (inr (stays_first ts u v s us q e k))) r) h
  stays_under (union_type (suc w) ts) u v s us h e k = alone (union_type (suc w) ts) u v s us (λ ws q. of_others s w ts ws q) h e
  stays_under int_type u v s us h e k = alone int_type u v s us (λ ws q. none-some ws q) h e
  stays_under char_type u v s us h e k = alone char_type u v s us (λ ws q. none-some ws q) h e
  stays_under string_type u v s us h e k = alone string_type u v s us (λ ws q. none-some ws q) h e
  stays_under state_type u v s us h e k = alone state_type u v s us (λ ws q. none-some ws q) h e
  stays_under (variable_type x) u v s us h e k = variable_stays x u v s us h e k

  stays_first : (ts : TypeTerms) (u v : TypeTerm) (s : ℕ) (us : List TypeTerm) → Held (under_first ts) u → Arguments s u us → Held us v → Held (under_first ts) v
  stays_first no_types u v s us h e k = variable_stays 0 u v s us h e k
  stays_first (type_then t ts) u v s us h e k = stays_under t u v s us h e k

held_contained : (xs : List TypeTerm) (x : TypeTerm) → Held xs x → Contains xs x
held_contained [] x h = absurd h
held_contained (y ∷ xs) x h = ⊎_elim (λ e. (0, omega arith, sym e)) (λ k. let r = held_contained xs x k in (suc r.0, omega (arith, r.1), r.2)) h

types_met : (t : TypeTerm) → TypesMet list_source t
types_met t =
    record {
      types = under t;
      itself = held_contained (under t) t (itself t);
      closed = λ u v s us a e b. held_contained (under t) v (stays_under t u v s us (contained (under t) u a) e (contained us v b));
    }

symbols_end : SymbolsEnd list_source 2
symbols_end zero l = absurd (omega (arith, l))
symbols_end (suc zero) l = absurd (omega (arith, l))
symbols_end (suc (suc s)) l = refl

insts_end : InstsEnd list_insts 6
insts_end zero l = absurd (omega (arith, l))
insts_end (suc zero) l = absurd (omega (arith, l))
insts_end (suc (suc zero)) l = absurd (omega (arith, l))
insts_end (suc (suc (suc zero))) l = absurd (omega (arith, l))
insts_end (suc (suc (suc (suc zero)))) l = absurd (omega (arith, l))
insts_end (suc (suc (suc (suc (suc zero))))) l = absurd (omega (arith, l))
insts_end (suc (suc (suc (suc (suc (suc i)))))) l = refl

pub lists_are_told : ListsAreTold
lists_are_told = some_test_tells list_source list_insts 6 2 insts_fit insts_end symbols_end types_met
