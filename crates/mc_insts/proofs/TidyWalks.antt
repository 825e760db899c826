-- A walk that looks for `unique` and `dead` outside io's state finds what paths lead to.
use Rattle.std.proofs.Common.{◌≡◌, ◌⊎◌, inl, inr, ℕ, zero, suc, ◌+◌, ◌<◌, true, is_some, List, [], ◌∷◌, length, get_or, replicate, Option, Some, None, refl, sym, ap, ◌∙◌, subst, arith, ⊎_elim}
use Rattle.std.proofs.lemmas.List.{length-replicate}
use Rattle.mc_program.specs.Programs.{TypeTerm, int_type, char_type, string_type, state_type, variable_type, union_type, Source}
use Rattle.mc_model.specs.Types.{argument_types}
use Rattle.mc_model.specs.Insts.{InstNode, free, ground, unique, dead, Graph, AllowsSymbol}
use Rattle.mc_accepted.specs.Inclusion.{Path, OnTypes}
use Rattle.mc_accepted.specs.Tidy.{Leads, Tidy}
use Rattle.mc_insts.specs.declared.graph.Case.{Case}
use Rattle.mc_insts.specs.declared.graph.Node.{Node}
use Rattle.mc_insts.specs.declared.graph.Node.TheVariants as N
use Rattle.mc_insts.specs.declared.graph.Shape.{Shape}
use Rattle.mc_insts.specs.declared.graph.Shape.TheVariants as S
use Rattle.mc_insts.specs.declared.triples.Triple.{Triple}
use Rattle.mc_insts.specs.code.Cases.{find_case, node_has, node_arg}
use Rattle.mc_insts.specs.code.Lists.{Stands, Extends}
use Rattle.mc_insts.specs.code.Shown.{plain_node, plain_graph, Distinct, Kind, RowsAre}
use Rattle.mc_insts.specs.code.Walks.{Scene, node_at, arity_of, low_of, row_of, child, Counts, IsChild, Fresh, Within, Proper}
use Rattle.mc_insts.specs.code.TidyWalks.{IsFair, AreSeen, SeenCases, Looked}
use Rattle.mc_insts.proofs.Bridge.{get_replicate, up, down, symbol_typed}
use Rattle.mc_insts.proofs.Found.{by_order}
use Rattle.mc_insts.proofs.Growth.{stands_on, stands_before, stands_one}
use Rattle.mc_insts.proofs.Scenes.{found, has_some}
use Rattle.mc_insts.proofs.Walks.{each_more}

-- WHAT IS SEEN

pub seen_more : (f : ℕ → Triple) (k : ℕ) (bs cs : List Triple) → Extends bs cs → ((i : ℕ) → i < k → (m : ℕ) × Stands bs m (f i)) → ((m : ℕ) × Stands cs m (f k)) → (i : ℕ) → i < k + 1 → (m : ℕ) × Stands cs m (f i)
seen_more f k bs cs e before here i h =
    by_order i k
    (λ x. let b = before i x in (b.0, stands_on bs cs b.0 (f i) e b.1))
    (λ x. subst (λ n. (m : ℕ) × Stands cs m (f n)) (sym x) here)
    (λ x. absurd (omega arith))

module _ (C : Scene) where
  pub seen_case : (t : Triple) (f n : ℕ) (g : ℕ → Triple) (ys : List Triple) → n ≡ arity_of C f → ((k : ℕ) → child C t f k ≡ g k) → ((k : ℕ) → k < n → (m : ℕ) × Stands ys m (g k)) → AreSeen C ys t f
  seen_case t f n g ys l e all k lt = subst (λ (u : Triple). (m : ℕ) × Stands ys m u) (sym (e k)) (all k (subst (λ x. k < x) (sym l) lt))

  pub seen_later : (t : Triple) (f : ℕ) (ys zs : List Triple) → Extends ys zs → AreSeen C ys t f → AreSeen C zs t f
  seen_later t f ys zs e all k lt = let a = all k lt in (a.0, stands_on ys zs a.0 (child C t f k) e a.1)

  pub seen_cases_more : (t : Triple) (cs : List Case) (n : ℕ) (c : Case) (ys zs : List Triple) → Extends ys zs → n < length cs → c ≡ get_or cs n c → SeenCases C ys t cs n → (Counts C t c.functor → AreSeen C zs t c.functor) → SeenCases C zs t cs (n + 1)
  seen_cases_more t cs n c ys zs e w i before here m d h counts =
      by_order m n
      (λ x. seen_later t (get_or cs m d).functor ys zs e (before m d x counts))
      (λ x. let same : (get_or cs m d).functor ≡ c.functor = ap (λ (v : Case). v.functor) (ap (λ k. get_or cs k d) x ∙ any cs n d c w ∙ sym i) in subst (λ f. AreSeen C zs t f) (sym same) (here (subst (λ f. Counts C t f) same counts)))
      (λ x. absurd (omega arith))
    where
      any : {A : Type 0} (xs : List A) (k : ℕ) (d e : A) → k < length xs → get_or xs k d ≡ get_or xs k e
      any [] k d e h = absurd (omega arith)
      any (x ∷ xs) zero d e h = refl
      any (x ∷ xs) (suc k) d e h = any xs k d e (omega arith)

  -- what is listed is seen, where all cases are
  seen_found : (t : Triple) (cs : List Case) (ys : List Triple) (f : ℕ) → SeenCases C ys t cs (length cs) → is_some (find_case cs f) ≡ true → Counts C t f → AreSeen C ys t f
  seen_found t cs ys f all h counts =
      let x = has_some (find_case cs f) h in
      let r = found cs f x.0 x.1 in
      let same : (get_or cs r.place r.case).functor ≡ f = ap (λ (v : Case). v.functor) r.is ∙ r.functor in
      subst (λ g. AreSeen C ys t g) same (all r.place r.case r.within (subst (λ g. Counts C t g) (sym same) counts))

  pub looked_bound : (t : Triple) (cs : List Case) (ys : List Triple) → low_of C t ≡ N.Bound cs → IsFair (low_of C t) (row_of C t) → SeenCases C ys t cs (length cs) → Looked C ys t
  looked_bound t cs ys e fair all =
      record {
        fair = fair;
        listed = λ ds d f counts.
            let one : ds ≡ cs = cases_same ds cs (sym d ∙ e) in
            let has : is_some (find_case cs f) ≡ true = subst (λ (M : Node). node_has M f ≡ true) e counts.listed in
            seen_found t cs ys f all has counts;
      }
    where
      cases_same : (xs ys : List Case) → N.Bound xs ≡ N.Bound ys → xs ≡ ys
      cases_same xs ys e = cc

  pub looked_builtin : (t : Triple) (M : Node) (ys : List Triple) → low_of C t ≡ M → ((cs : List Case) → M ≡ N.Bound cs → ⊥) → IsFair (low_of C t) (row_of C t) → Looked C ys t
  looked_builtin t M ys e other fair = record { fair = fair; listed = λ cs d. absurd (other cs (sym e ∙ d)) }

  pub fair_along : (M : Node) (R : Shape) (L : Node) (T : Shape) → M ≡ L → R ≡ T → IsFair M R → IsFair L T
  fair_along M R L T e f h = subst (λ X. IsFair L X) f (subst (λ X. IsFair X R) e h)

  -- THE WALK

  pub alone_more : (t : Triple) (n : ℕ) (xs ys : List Triple) → Extends xs ys → Stands xs n t → ((m : ℕ) (u : Triple) → Stands xs m u → u.low ≡ u.high) → Fresh C t xs ys → (m : ℕ) (u : Triple) → Stands ys m u → u.low ≡ u.high
  alone_more t n xs ys e s before fresh = each_more C (λ u. u.low ≡ u.high) t xs ys e before (λ u h. same u h) fresh
    where
      one : t.low ≡ t.high
      one = before n t s

      same : (u : Triple) → IsChild C t u → u.low ≡ u.high
      same u h =
          let both : (child C t h.functor h.argument).low ≡ (child C t h.functor h.argument).high =
          ap (λ i. node_arg (node_at C.nodes i) i h.functor h.argument) one in
          subst (λ (v : Triple). v.low ≡ v.high) h.is both

  pub looked_on : (t : Triple) (xs ys : List Triple) → Extends xs ys → Looked C xs t → Looked C ys t
  looked_on t xs ys e v = record { fair = v.fair; listed = λ cs d f counts. seen_later t f xs ys e (v.listed cs d f counts) }

  pub looked_more : (t : Triple) (n : ℕ) (xs ys : List Triple) → Extends xs ys → Stands xs n t → ((m : ℕ) (u : Triple) → m < n → Stands xs m u → Looked C xs u) → Looked C ys t → (m : ℕ) (u : Triple) → m < n + 1 → Stands ys m u → Looked C ys u
  looked_more t n xs ys e s before here m u h r =
      let w = s.within in
      by_order m n
      (λ x. looked_on u xs ys e (before m u x (stands_before xs ys m u e (omega arith) r)))
      (λ x. let old : Stands xs n u = subst (λ k. Stands xs k u) x (stands_before xs ys m u e (omega arith) r) in subst (λ (v : Triple). Looked C ys v) (stands_one xs n t u s old) here)
      (λ x. absurd (omega arith))

-- PATHS

module _ (P : Source) (C : Scene) (type : ℕ → TypeTerm) (proper : Proper C) (distinct : Distinct C.functors) (rows : RowsAre P C type) where
  abbrev G : Graph
  G = plain_graph C.functors C.nodes

  abbrev TidyAt : Triple → Type 0
  TidyAt t = Tidy P G t.low (type t.row)

  -- what an inst lists is tidy where it is
  pub tidy_child : (t u : Triple) → Within C t → TidyAt t → IsChild C t u → TidyAt u
  tidy_child t u w tidy h =
      let R = rows t.row w.row in
      let x = R.sound h.functor h.counts.typed in
      let s = x.0 in
      let ts = x.1.0 in
      let typed = x.1.1.0 in
      let meant = x.1.1.1 in
      subst TidyAt h.is
      (λ path j v leads bad.
      tidy ((s, h.argument) ∷ path) j v
      (down P C type proper distinct t.row s ts h.functor typed meant t.low h.argument (Leads P G path j v) h.counts.listed h.within leads)
      bad)

  pub tidy_more : (root t : Triple) (n : ℕ) (xs ys : List Triple) → Extends xs ys → Stands xs n t → Within C t → ((m : ℕ) (u : Triple) → Stands xs m u → TidyAt root → TidyAt u) → Fresh C t xs ys → (m : ℕ) (u : Triple) → Stands ys m u → TidyAt root → TidyAt u
  tidy_more root t n xs ys e s w before fresh m u h b = each_more C TidyAt t xs ys e (λ i v r. before i v r b) (λ v r. tidy_child t v w (before n t s b) r) fresh m u h

  state_row : (R : Shape) (t : TypeTerm) → Kind R t → t ≡ state_type → R ≡ S.State
  state_row S.Constants t kind e =
      ⊎_elim (λ x. let clash : int_type ≡ state_type = sym x ∙ e in cc)
      (λ k. ⊎_elim (λ x. let clash : char_type ≡ state_type = sym x ∙ e in cc) (λ x. let clash : string_type ≡ state_type = sym x ∙ e in cc) k)
      kind
  state_row S.State t kind e = refl
  state_row S.Any t kind e = let clash : variable_type kind.0 ≡ state_type = sym kind.1 ∙ e in cc
  state_row (S.Union cs) t kind e = let clash : union_type kind.0 kind.1.0 ≡ state_type = sym kind.1.1 ∙ e in cc

  -- where one is tidy, it may stand at its row
  fair_node : (t : Triple) (M : Node) → node_at C.nodes t.low ≡ M → Kind (row_of C t) (type t.row) → TidyAt t → IsFair M (row_of C t)
  fair_node t N.Free e kind tidy = tt
  fair_node t N.Ground e kind tidy = tt
  fair_node t N.Unique e kind tidy = state_row (row_of C t) (type t.row) kind (tidy [] t.low (type t.row) (refl, refl) (inl (ap (plain_node C.functors) e)))
  fair_node t N.Dead e kind tidy = state_row (row_of C t) (type t.row) kind (tidy [] t.low (type t.row) (refl, refl) (inr (ap (plain_node C.functors) e)))
  fair_node t (N.Bound cs) e kind tidy = tt

  pub tidy_is_fair : (t : Triple) → Within C t → TidyAt t → IsFair (low_of C t) (row_of C t)
  tidy_is_fair t w tidy = fair_node t (low_of C t) refl (rows t.row w.row).kind tidy

  ground_step : (s k i j : ℕ) (o : Option (List TypeTerm)) (Z : ℕ → TypeTerm → Type 0) → G i ≡ ground → ((u : TypeTerm) → Z i u → i ≡ j) → OnTypes o (λ ts. AllowsSymbol P (G i) i s (λ is. (k < length is) × Z (get_or is k 0) (get_or ts k (variable_type 0)))) → i ≡ j
  ground_step s k i j None Z e later h = absurd h
  ground_step s k i j (Some ts) Z e later h =
      let n = (P.symbols s).name.arity in
      let here : (k < length (replicate n i)) × Z (get_or (replicate n i) k 0) (get_or ts k (variable_type 0)) =
      subst (λ (M : InstNode). AllowsSymbol P M i s (λ is. (k < length is) × Z (get_or is k 0) (get_or ts k (variable_type 0)))) e h in
      let same : get_or (replicate n i) k 0 ≡ i = get_replicate n i k (subst (λ m. k < m) (length-replicate n i) here.0) in
      later (get_or ts k (variable_type 0)) (subst (λ m. Z m (get_or ts k (variable_type 0))) same here.1)

  -- `ground` leads to itself alone
  ground_leads : (path : Path) (i j : ℕ) (t v : TypeTerm) → G i ≡ ground → Leads P G path j v i t → i ≡ j
  ground_leads [] i j t v e leads = leads.0
  ground_leads ((s, k) ∷ path) i j t v e leads = ground_step s k i j (argument_types P s t) (Leads P G path j v) e (λ u l. ground_leads path i j u v e l) leads

  not_ground : (j : ℕ) → G j ≡ ground → (G j ≡ unique) ⊎ (G j ≡ dead) → ⊥
  not_ground j e bad = ⊎_elim (λ u. let clash : ground ≡ unique = sym e ∙ u in cc) (λ d. let clash : ground ≡ dead = sym e ∙ d in cc) bad

  -- no path leads on from io's state
  state_ends : (s k i j : ℕ) (path : Path) (t v : TypeTerm) → t ≡ state_type → Leads P G ((s, k) ∷ path) j v i t → ⊥
  state_ends s k i j path t v e leads =
      subst (λ u. Leads P G ((s, k) ∷ path) j v i u) e leads

  fair_type : (t : Triple) → Kind (row_of C t) (type t.row) → row_of C t ≡ S.State → type t.row ≡ state_type
  fair_type t kind e = subst (λ R. Kind R (type t.row)) e kind

  at_end : (t : Triple) (M : Node) → node_at C.nodes t.low ≡ M → Kind (row_of C t) (type t.row) → IsFair M (row_of C t) → (G t.low ≡ unique) ⊎ (G t.low ≡ dead) → type t.row ≡ state_type
  at_end t N.Free e kind fair bad = ⊎_elim (λ u. let clash : free ≡ unique = sym (ap (plain_node C.functors) e) ∙ u in cc) (λ d. let clash : free ≡ dead = sym (ap (plain_node C.functors) e) ∙ d in cc) bad
  at_end t N.Ground e kind fair bad = absurd (not_ground t.low (ap (plain_node C.functors) e) bad)
  at_end t N.Unique e kind fair bad = fair_type t kind fair
  at_end t N.Dead e kind fair bad = fair_type t kind fair
  at_end t (N.Bound cs) e kind fair bad = ⊎_elim (λ u. let clash : plain_node C.functors (N.Bound cs) ≡ unique = sym (ap (plain_node C.functors) e) ∙ u in cc) (λ d. let clash : plain_node C.functors (N.Bound cs) ≡ dead = sym (ap (plain_node C.functors) e) ∙ d in cc) bad

  module _ (seen : List Triple) (within : (n : ℕ) (u : Triple) → Stands seen n u → Within C u)
      (looked : (n : ℕ) (u : Triple) → Stands seen n u → Looked C seen u) where
    along : (s k : ℕ) (path : Path) (n : ℕ) (t : Triple) → Stands seen n t → (M : Node) → node_at C.nodes t.low ≡ M → (j : ℕ) (v : TypeTerm)
        → ((m : ℕ) (u : Triple) → Stands seen m u → Leads P G path j v u.low (type u.row) → v ≡ state_type)
        → Leads P G ((s, k) ∷ path) j v t.low (type t.row) → (G j ≡ unique) ⊎ (G j ≡ dead) → v ≡ state_type
    along s k path n t at N.Free e j v later leads bad =
        let R = rows t.row (within n t at).row in
        let typed = symbol_typed P C type proper distinct s t.low t.row _ (argument_types P s (type t.row)) refl leads in
        let m = R.complete s typed.0 typed.1 in
        let x = up P C type proper distinct t.row s typed.0 m.0 typed.1 m.1 t.low k (Leads P G path j v) leads in
        let none : node_has N.Free m.0 ≡ true = subst (λ (M : Node). node_has M m.0 ≡ true) e x.0 in
        cc
    along s k path n t at N.Ground e j v later leads bad =
        let g : G t.low ≡ ground = ap (plain_node C.functors) e in
        let same : t.low ≡ j = ground_leads ((s, k) ∷ path) t.low j (type t.row) v g leads in
        absurd (not_ground j (subst (λ i. G i ≡ ground) same g) bad)
    along s k path n t at N.Unique e j v later leads bad =
        let fair : row_of C t ≡ S.State = subst (λ (M : Node). IsFair M (row_of C t)) e (looked n t at).fair in
        absurd (state_ends s k t.low j path (type t.row) v (fair_type t (rows t.row (within n t at).row).kind fair) leads)
    along s k path n t at N.Dead e j v later leads bad =
        let fair : row_of C t ≡ S.State = subst (λ (M : Node). IsFair M (row_of C t)) e (looked n t at).fair in
        absurd (state_ends s k t.low j path (type t.row) v (fair_type t (rows t.row (within n t at).row).kind fair) leads)
    along s k path n t at (N.Bound cs) e j v later leads bad =
        let R = rows t.row (within n t at).row in
        let typed = symbol_typed P C type proper distinct s t.low t.row _ (argument_types P s (type t.row)) refl leads in
        let m = R.complete s typed.0 typed.1 in
        let x = up P C type proper distinct t.row s typed.0 m.0 typed.1 m.1 t.low k (Leads P G path j v) leads in
        let counts : Counts C t m.0 = record { typed = m.1.typed; listed = x.0 } in
        let there = (looked n t at).listed cs e m.0 counts k x.1 in
        later there.0 (child C t m.0 k) there.1 x.2

    leads_tidily : (path : Path) (n : ℕ) (t : Triple) → Stands seen n t → (j : ℕ) (v : TypeTerm) → Leads P G path j v t.low (type t.row) → (G j ≡ unique) ⊎ (G j ≡ dead) → v ≡ state_type
    leads_tidily [] n t s j v leads bad =
        let l = looked n t s in
        let kind = (rows t.row (within n t s).row).kind in
        let here : (G t.low ≡ unique) ⊎ (G t.low ≡ dead) = subst (λ i. (G i ≡ unique) ⊎ (G i ≡ dead)) (sym leads.0) bad in
        sym leads.1 ∙ at_end t (low_of C t) refl kind l.fair here
    leads_tidily ((s, k) ∷ path) n t at j v leads bad = along s k path n t at (low_of C t) refl j v (λ m u r l. leads_tidily path m u r j v l bad) leads bad

    pub all_tidy : (n : ℕ) (t : Triple) → Stands seen n t → TidyAt t
    all_tidy n t s path j v leads bad = leads_tidily path n t s j v leads bad
