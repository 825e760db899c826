-- What a module sees typed is typed where all definitions are seen.
use Rattle.std.proofs.Common.{◌≡◌, ℕ, Bool, true, false, not, ◌&&◌, List, [], ◌∷◌, map, length, nat_eq, cond, refl, sym, ap, ap₂, ◌∙◌, subst}
use Rattle.std.specs.Prelude.{Option, Some, None, if◌then◌else◌}
use Rattle.std.proofs.Math.Path.{fun_ext}
use Rattle.std.proofs.lemmas.Bool.{and_parts}
use Rattle.mc_program.specs.Values.{Val, int, char, str, con, state}
use Rattle.mc_program.specs.Programs.{TypeTerm, int_type, char_type, string_type, state_type, variable_type, union_type, TypeTerms, Predicate, Source}
use Rattle.mc_model.specs.Lists.{is_in}
use Rattle.mc_model.specs.Types.{type_at, instance_of, IsValue}
use Rattle.mc_model.specs.Flat as F
use Rattle.mc_model.specs.Flat.{Flat_goal, Flat_goals, no_flat, flat_then}
use Rattle.mc_accepted.specs.ProperTypes.{Parameters, EachProper}
use Rattle.mc_accepted.specs.Typing.{constructor_types, ConstantOf, TypedGoal, TypedGoals}
use Rattle.mc_names.specs.Linked.{Linked}
use Rattle.mc_type_table.specs.Expanded.{equivalent, replaced, all_replaced, defined_as, after_rounds}
use Rattle.mc_type_table.specs.Rules.{is_cyclic, definitions, type_faults}
use Rattle.mc_type_table.specs.Visibility.{definitions_seen}
use Rattle.mc_type_table.proofs.Expanding.{undefined_after}
use Rattle.mc_declarations.specs.Declarations.{parameter_counts}
use Rattle.mc_declarations.specs.Proper.{AreWellWritten, declared_for}
use Rattle.mc_declarations.proofs.Replaced.{AreProper, proper_replaced, proper_rounds}
use Rattle.mc_declarations.proofs.Fitting.{definitions_fit, defined_seen, seen_fit}
use Rattle.laws_types.specs.SeenTypes.{declared, with_preds, AreSeenAs, SeenTypesAreTyped, SeenTypesAreFinal}
use Rattle.laws_types.proofs.Rounds.{rounds_end}
use Rattle.laws_types.proofs.Instances.{at_replaced, each_replaced_instance, replaced_again, unfolds_after}
use Rattle.laws_types.proofs.Views.{written_symbol, written_pred, args_seen, type_seen, types_seen, written_args, written_types, listed_undefined}

constant_stays : (P Q : Source) (f : TypeTerm → TypeTerm) → f int_type ≡ int_type → f char_type ≡ char_type → f string_type ≡ string_type → (v : Val) (t : TypeTerm) → IsValue P v × ConstantOf v t → IsValue Q v × ConstantOf v (f t)
constant_stays P Q f a b c (int n) t h = (h.0, ap f h.1 ∙ a)
constant_stays P Q f a b c (char k) t h = (h.0, ap f h.1 ∙ b)
constant_stays P Q f a b c (str bytes) t h = (h.0, ap f h.1 ∙ c)
constant_stays P Q f a b c (con s vs) t h = absurd h.1
constant_stays P Q f a b c (state written taken) t h = absurd h.1

mapped : (f : TypeTerm → TypeTerm) (T : ℕ → TypeTerm) (xs : List ℕ) → map (λ v. f (T v)) xs ≡ map f (map T xs)
mapped f T [] = refl
mapped f T (x ∷ xs) = ap (λ ts. f (T x) ∷ ts) (mapped f T xs)

hidden : (r : Bool) (o : Option TypeTerm) → o ≡ None → (if not r then o else None) ≡ None
hidden true o none = refl
hidden false o none = none

module _ (l : Linked) (own : ℕ) (well : AreWellWritten l) (none : type_faults l ≡ []) where
  abbrev D : Parameters
  D = parameter_counts l

  abbrev R : ℕ → Option TypeTerm
  R = after_rounds (length l.types) (definitions l)

  abbrev S : ℕ → Option TypeTerm
  S = after_rounds (length l.types) (definitions_seen l own)

  of_R : AreProper D R
  of_R = proper_rounds D (definitions l) (length l.types) (definitions_fit l well none)

  of_S : AreProper D S
  of_S = proper_rounds D (definitions_seen l own) (length l.types) (seen_fit l own well none)

  pub final_again : (t : TypeTerm) → replaced R (replaced S t) ≡ replaced R t
  final_again t =
      replaced_again D R S of_R of_S
      (unfolds_after D R (definitions_seen l own) of_R (seen_fit l own well none) (λ u b is. rounds_end l u b (defined_seen l own u b is)) (length l.types)) t

  -- a type without equivalences stays
  pub final_twice : (t : TypeTerm) → replaced R (replaced R t) ≡ replaced R t
  final_twice t =
      replaced_again D R R of_R of_R
      (unfolds_after D R (definitions l) of_R (definitions_fit l well none) (λ u b is. rounds_end l u b is) (length l.types)) t

  pub final_proper : (ts : List TypeTerm) → EachProper D ts → EachProper D (map (replaced R) ts)
  final_proper [] p = tt
  final_proper (t ∷ ts) p = (proper_replaced D R t of_R p.0, final_proper ts p.1)

  each_again : (ts : List TypeTerm) → map (replaced R) (map (replaced S) ts) ≡ map (replaced R) ts
  each_again [] = refl
  each_again (t ∷ ts) = ap₂ (λ x xs. x ∷ xs) (final_again t) (each_again ts)

  each_proper : (ts : List TypeTerm) → EachProper D ts → EachProper D (map (replaced S) ts)
  each_proper [] p = tt
  each_proper (t ∷ ts) p = (proper_replaced D S t of_S p.0, each_proper ts p.1)

  abbrev P : Source
  P = declared_for l own

  abbrev Q : Source
  Q = declared l

  args_final : (s : ℕ) → map (replaced R) (P.symbols s).args ≡ (Q.symbols s).args
  args_final s =
      ap (map (replaced R)) (args_seen l (definitions_seen l own) s)
      ∙ each_again (written_symbol l s).args
      ∙ sym (args_seen l (definitions l) s)

  args_proper : (s : ℕ) → EachProper D (P.symbols s).args
  args_proper s = subst (EachProper D) (sym (args_seen l (definitions_seen l own) s)) (each_proper (written_symbol l s).args (written_args l well none s))

  same_type : (s : ℕ) → (Q.symbols s).of_type ≡ (P.symbols s).of_type
  same_type s = type_seen l (definitions l) s ∙ sym (type_seen l (definitions_seen l own) s)

  pub types_final : (p : ℕ) → map (replaced R) (P.preds p).types ≡ (Q.preds p).types
  types_final p =
      ap (map (replaced R)) (types_seen l (definitions_seen l own) p)
      ∙ each_again (written_pred l p).types
      ∙ sym (types_seen l (definitions l) p)

  types_proper : (p : ℕ) → EachProper D (P.preds p).types
  types_proper p = subst (EachProper D) (sym (types_seen l (definitions_seen l own) p)) (each_proper (written_pred l p).types (written_types l well none p))

  -- a type that lists a constructor stays a union
  undefined : (s u : ℕ) → is_in s (P.symbols_of u) ≡ true → R u ≡ None
  undefined s u there = undefined_after (definitions l) (length l.types) u (hidden (is_cyclic l u) (equivalent l u) (listed_undefined l s u there))

  union_final :
      (s u : ℕ) (us : TypeTerms) (ts : List TypeTerm) (b : Bool)
      → nat_eq (P.symbols s).of_type u && is_in s (P.symbols_of u) ≡ b
      → cond b (Some (map (instance_of (type_at us)) (P.symbols s).args)) None ≡ Some ts
      → constructor_types Q s (replaced R (union_type u us)) ≡ Some (map (replaced R) ts)
  union_final s u us ts false is made = absurd (let clash : None ≡ Some ts = made in cc)
  union_final s u us ts true is made =
      let parts = and_parts (nat_eq (P.symbols s).of_type u) (is_in s (P.symbols_of u)) is in
      let rs = all_replaced R us in
      let stays : replaced R (union_type u us) ≡ union_type u rs = ap (defined_as u rs) (undefined s u parts.1) in
      let args = (P.symbols s).args in
      let same : Some (map (instance_of (type_at us)) args) ≡ Some ts = made in
      let it : map (instance_of (type_at us)) args ≡ ts = cc in
      let test : nat_eq (Q.symbols s).of_type u && is_in s (Q.symbols_of u) ≡ true = ap (λ k. nat_eq k u && is_in s (P.symbols_of u)) (same_type s) ∙ is in
      let at : (λ v. replaced R (type_at us v)) ≡ type_at rs = fun_ext (λ v. at_replaced R us v) in
      let moved : map (replaced R) ts ≡ map (instance_of (type_at rs)) (Q.symbols s).args =
      ap (map (replaced R)) (sym it)
      ∙ each_replaced_instance D R of_R (type_at us) args (args_proper s)
      ∙ ap₂ (λ (f : ℕ → TypeTerm) (as' : List TypeTerm). map (instance_of f) as') at (args_final s) in
      ap (constructor_types Q s) stays
      ∙ ap (λ b. cond b (Some (map (instance_of (type_at rs)) (Q.symbols s).args)) None) test
      ∙ ap Some (sym moved)

  made_final : (s : ℕ) (t : TypeTerm) (ts : List TypeTerm) → constructor_types P s t ≡ Some ts → constructor_types Q s (replaced R t) ≡ Some (map (replaced R) ts)
  made_final s int_type ts is = absurd (let clash : None ≡ Some ts = is in cc)
  made_final s char_type ts is = absurd (let clash : None ≡ Some ts = is in cc)
  made_final s string_type ts is = absurd (let clash : None ≡ Some ts = is in cc)
  made_final s state_type ts is = absurd (let clash : None ≡ Some ts = is in cc)
  made_final s (variable_type v) ts is = absurd (let clash : None ≡ Some ts = is in cc)
  made_final s (union_type u us) ts is = union_final s u us ts (nat_eq (P.symbols s).of_type u && is_in s (P.symbols_of u)) refl is

  -- a goal with other predicates too
  module _ (A B : ℕ → Predicate) (as' : AreSeenAs l A B) (T : ℕ → TypeTerm) where
    abbrev P' : Source
    P' = with_preds P A

    abbrev Q' : Source
    Q' = with_preds Q B

    abbrev F' : ℕ → TypeTerm
    F' v = replaced R (T v)

    mutual
      goal_final : (g : Flat_goal) → TypedGoal P' T g → TypedGoal Q' F' g
      goal_final (F.Same x y) h = ap (replaced R) h
      goal_final (F.Made x s ys) h = made_final s (T x) (map T ys) h ∙ ap Some (sym (mapped (replaced R) T ys))
      goal_final (F.Is x v) h = constant_stays P' Q' (replaced R) refl refl refl v (T x) h
      goal_final (F.Call p xs) h = (
        λ v. replaced R (h.0 v),
        mapped (replaced R) T xs
            ∙ ap (map (replaced R)) h.1
            ∙ each_replaced_instance D R of_R h.0 (A p).types (as' p).0
            ∙ ap (map (instance_of (λ v. replaced R (h.0 v)))) (as' p).1,
      )
      goal_final (F.And gs) h = goals_final gs h
      goal_final (F.Or gs) h = goals_final gs h
      goal_final (F.If vs c t e) h = (goal_final c h.0, goal_final t h.1, goal_final e h.2)
      goal_final (F.Not g) h = goal_final g h
      goal_final (F.Exists vs g) h = goal_final g h

      goals_final : (gs : Flat_goals) → TypedGoals P' T gs → TypedGoals Q' F' gs
      goals_final no_flat h = tt
      goals_final (flat_then g gs) h = (goal_final g h.0, goals_final gs h.1)

pub seen_types_are_typed : SeenTypesAreTyped
seen_types_are_typed l own A B T g well none as' h = goal_final l own well none A B as' T g h

pub seen_types_are_final : SeenTypesAreFinal
seen_types_are_final l own well none p = (types_proper l own well none p, types_final l own well none p)
