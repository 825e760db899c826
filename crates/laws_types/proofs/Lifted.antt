-- Goals of clauses whose types stand without equivalences.
use Rattle.std.proofs.Common.{◌≡◌, ℕ, zero, suc, List, [], ◌∷◌, ◌++◌, map, drop, length, get_or, refl, sym, ap, ap₂, ◌∙◌, subst}
use Rattle.std.proofs.Math.Path.{fun_ext}
use Rattle.std.proofs.lemmas.List.{length-map, map-append}
use Rattle.mc_program.specs.Programs.{TypeTerm, variable_type, Predicate}
use Rattle.mc_accepted.specs.Typing.{TypedGoal}
use Rattle.mc_accepted.specs.Normal.{normal_goal, other_variables}
use Rattle.mc_accepted.specs.NormalTypes.{TypedClause, clause_types, normal_types}
use Rattle.mc_accepted.specs.MostGeneral.{type_at}
use Rattle.mc_names.specs.Linked.{Linked}
use Rattle.mc_type_table.specs.Rules.{type_faults}
use Rattle.mc_declarations.specs.Proper.{AreWellWritten, declared_for}
use Rattle.laws_types.specs.GoalTypes.{GoalIsTyped}
use Rattle.laws_types.specs.SeenTypes.{final, declared, with_preds, AreSeenAs}
use Rattle.laws_types.proofs.SeenTypes.{seen_types_are_typed}

map_map : {A B C : Type 0} (f : B → C) (g : A → B) (xs : List A) → map f (map g xs) ≡ map (λ x. f (g x)) xs
map_map f g [] = refl
map_map f g (x ∷ xs) = ap (λ ys. f (g x) ∷ ys) (map_map f g xs)

map_drop : {A B : Type 0} (f : A → B) (n : ℕ) (xs : List A) → map f (drop n xs) ≡ drop n (map f xs)
map_drop f zero xs = refl
map_drop f (suc n) [] = refl
map_drop f (suc n) (x ∷ xs) = map_drop f n xs

module _ (l : Linked) where
  abbrev f : TypeTerm → TypeTerm
  f t = final l t

  -- a clause whose types stand without equivalences
  abbrev pub final_clause : TypedClause → TypedClause
  final_clause c =
      record {
        clause = c.clause;
        variables = c.variables;
        types = map f c.types;
        names = c.names;
      }

  final_at : (ts : List TypeTerm) (k v : ℕ) → f (get_or ts k (variable_type v)) ≡ get_or (map f ts) k (variable_type v)
  final_at [] k v = refl
  final_at (t ∷ ts) zero v = refl
  final_at (t ∷ ts) (suc k) v = final_at ts k v

  each_final : (ts : List TypeTerm) (vs : List ℕ) → map f (map (type_at ts) vs) ≡ map (type_at (map f ts)) vs
  each_final ts [] = refl
  each_final ts (v ∷ vs) = ap₂ (λ x xs. x ∷ xs) (final_at ts v v) (each_final ts vs)

  clause_final : (c : TypedClause) → map f (clause_types c) ≡ clause_types (final_clause c)
  clause_final c =
      map-append f (map (type_at c.types) (other_variables c.clause)) (drop c.variables c.types)
      ∙ ap₂ (λ xs ys. xs ++ ys) (each_final c.types (other_variables c.clause)) (map_drop f c.variables c.types)

  types_final : (ts : List TypeTerm) (c : TypedClause) → map f (normal_types ts (c ∷ [])) ≡ normal_types (map f ts) (final_clause c ∷ [])
  types_final ts c =
      map-append f ts (clause_types c ++ [])
      ∙ ap (λ us. map f ts ++ us) (map-append f (clause_types c) [] ∙ ap (λ us. us ++ []) (clause_final c))

  pub asked_final : (ts : List TypeTerm) (vs : List ℕ) → map f (map (type_at ts) vs) ≡ map (type_at (map f ts)) vs
  asked_final ts vs = each_final ts vs

  -- what is typed as a module sees it is typed so
  pub lifted :
      (own : ℕ) (seen all : ℕ → Predicate) (ts : List TypeTerm) (c : TypedClause)
      → AreWellWritten l → type_faults l ≡ [] → AreSeenAs l seen all
      → GoalIsTyped (with_preds (declared_for l own) seen) ts (c ∷ [])
      → GoalIsTyped (with_preds (declared l) all) (map f ts) (final_clause c ∷ [])
  lifted own seen all ts c well none are h =
      let types = normal_types ts (c ∷ []) in
      let moved = types_final ts c in
      let many : length (map f ts) ≡ length ts = length-map ts f in
      let same = ap (λ n. normal_goal n (c.clause ∷ [])) (sym many) in
      let body = (normal_goal (length ts) (c.clause ∷ [])).body in
      let typed : TypedGoal (with_preds (declared l) all) (λ v. f (type_at types v)) body =
      seen_types_are_typed l own seen all (type_at types) body well none are h.typed in
      let at : (λ v. f (type_at types v)) ≡ type_at (normal_types (map f ts) (final_clause c ∷ [])) =
      fun_ext (λ v. final_at types v v ∙ ap (λ us. type_at us v) moved) in
      record {
        as_many = ap length (sym moved) ∙ length-map types f ∙ h.as_many ∙ ap (λ g. g.variables) same;
        typed =
            subst (λ g. TypedGoal (with_preds (declared l) all) (type_at (normal_types (map f ts) (final_clause c ∷ []))) g.body) same
            (subst (λ (T : ℕ → TypeTerm). TypedGoal (with_preds (declared l) all) T body) at typed);
      }
