-- Bodies of which one follows the other do so in switch form, for what was found in two graphs.
use Rattle.std.proofs.Common.{◌≡◌, ℕ, ◌<◌, Bool, true, false, ◌||◌, if◌then◌else◌, List, [], ◌∷◌, length, map, get_or, refl, sym, ap, ap₂, ◌∙◌, subst}
use Rattle.std.proofs.lemmas.List.{length-map}
use Rattle.mc_program.specs.PlainPrograms.{plain_type}
use Rattle.mc_program.specs.Programs.{TypeTerm, variable_type, Source}
use Rattle.mc_model.specs.Good.{System}
use Rattle.mc_model.specs.PlainGoals.{plain_node}
use Rattle.mc_model.specs.Scheduled.{Node}
use Rattle.mc_model.specs.Stream.{is_bound}
use Rattle.mc_model.specs.declared.sched.GoalNode.{GoalNode}
use Rattle.mc_model.specs.declared.sched.Proc.{Proc}
use Rattle.mc_accepted.specs.Accepted.{entered}
use Rattle.mc_accepted.specs.Determined.{insts_after}
use Rattle.mc_accepted.specs.Fits.{FitsInsts}
use Rattle.mc_accepted.specs.MergedArms.{never_ends, ends}
use Rattle.mc_accepted.specs.Ordered.{Insts, change_at}
use Rattle.mc_accepted.specs.Switched.{Disjunct, Kept, goals_of, formed}
use Rattle.mc_insts.specs.Graphs.{count_of}
use Rattle.mc_procs.specs.Fitting.{AllFit}
use Rattle.mc_procs.specs.Procedures.{PlainProcs, insts_of}
use Rattle.mc_procs.specs.VariableTypes.{type_in}
use Rattle.laws_accepted.specs.KeptLaws.{OfGroup, OfEachGroup}
use Rattle.mc_switch.specs.Kept.{Suits, kept_by}
use Rattle.mc_switch.specs.SwitchedBodies.{IsForm}
use Rattle.laws_procedures.specs.FormsMerge.{IsTidyOrder}
use Rattle.laws_graphs.specs.Nodes.{MeanOne}
use Rattle.laws_graphs.specs.Follows.{InstsFollow, Follows}
use Rattle.laws_graphs.specs.DeterminismLaws.{ListedOf, SystemsAlike}
use Rattle.laws_graphs.specs.SwitchLaws.{DisjunctsFollow, no_disjuncts, a_disjunct}
use Rattle.laws_graphs.proofs.Determining.{after-follow}
use Rattle.laws_graphs.proofs.Telling.{nodes-told, one-determinism}
use Rattle.laws_one_answer.proofs.KeptForms.{forms-follow}
use Rattle.laws_one_answer.proofs.KeptNodes.{Pairs, BoundAlike, joined_mean_one, joined_alike, at_ends, KeptOf}
use Rattle.laws_one_answer.proofs.KeptGroups.{kept_here, KeptWell, groups_kept, form_here}

-- the types of variables, by their list
abbrev pub typed_by : List TypeTerm → ℕ → TypeTerm
typed_by ts x = get_or ts x (variable_type x)

module _ (S U : System) (T : ℕ → TypeTerm) (first m n : ℕ) (alike : SystemsAlike T S U) (listed : ListedOf S.world.source) (fits : FitsInsts S.insts) (also : FitsInsts U.insts) where
  abbrev P : Source
  P = S.world.source

  abbrev Means : TypeTerm → ℕ → ℕ → Type 0
  Means t i j = MeanOne P m S.insts n U.insts t i j

  abbrev PointsFollow : Insts → Insts → Type 0
  PointsFollow b c = InstsFollow P T first Means b c

  abbrev GoalsFollow : Insts → Insts → Node → Node → Type 0
  GoalsFollow b c x y = Follows P T first Means b c x y

  abbrev Disjuncts : Insts → Insts → List Disjunct → List Disjunct → Type 0
  Disjuncts b c ds es = DisjunctsFollow P T first Means b c ds es

  -- ---- the ends of disjuncts
  abbrev EachFollows : List Insts → List Insts → Type 0
  EachFollows [] [] = Unit {0}
  EachFollows (e ∷ es) (f ∷ fs) = PointsFollow e f × EachFollows es fs
  EachFollows _ _ = ⊥

  ends_follow : (b c : Insts) (ds es : List Disjunct) → PointsFollow b c → Disjuncts b c ds es → EachFollows (ends S T b (goals_of ds)) (ends U T c (goals_of es))
  ends_follow b c ds es h no_disjuncts = tt
  ends_follow b c ds es h (a_disjunct {d = d} {e = e} {ds = xs} {es = ys} o w f k) =
      at (never_ends S T b d.goal) (never_ends U T c e.goal) (let r = one-determinism S U T first m n alike listed b c d.goal e.goal h f in r.end)
      (ends_follow b c xs ys h k)
    where
      at : (t u : Bool) → t ≡ u → EachFollows (ends S T b (goals_of xs)) (ends U T c (goals_of ys)) →
          EachFollows (if t then ends S T b (goals_of xs) else insts_after d.goal b ∷ ends S T b (goals_of xs)) (if u then ends U T c (goals_of ys) else insts_after e.goal c ∷ ends U T c (goals_of ys))
      at true true q r = r
      at true false q r = absurd (cc q)
      at false true q r = absurd (cc q)
      at false false q r = (after-follow P T first Means b c d.goal e.goal f, r)

  mean_at : (x : ℕ) → x < first → (es fs : List Insts) → EachFollows es fs → Pairs (Means (T x)) (at_ends x es) (at_ends x fs)
  mean_at x lt [] [] h = tt
  mean_at x lt [] (f ∷ fs) h = absurd h
  mean_at x lt (e ∷ es) [] h = absurd h
  mean_at x lt (e ∷ es) (f ∷ fs) h = (h.0.own x lt, mean_at x lt es fs h.1)

  alike_at : (x : ℕ) (es fs : List Insts) → EachFollows es fs → Pairs BoundAlike (at_ends x es) (at_ends x fs)
  alike_at x [] [] h = tt
  alike_at x [] (f ∷ fs) h = absurd h
  alike_at x (e ∷ es) [] h = absurd h
  alike_at x (e ∷ es) (f ∷ fs) h = (h.0.bound x, alike_at x es fs h.1)

  -- ---- what is kept of a group
  abbrev changed : List (ℕ × ℕ) → Insts → Insts
  changed cs b x = change_at x cs (b x)

  module _ (b c b' c' : Insts) (h : PointsFollow b b') (i : PointsFollow c c') (e f : Insts) (es fs : List Insts) (each : EachFollows (e ∷ es) (f ∷ fs)) (cs cs' : List (ℕ × ℕ))
      (here : KeptOf P m S.insts T b c (e ∷ es) cs) (there : KeptOf P n U.insts T b' c' (f ∷ fs) cs') where
    abbrev bound_here : ℕ → Bool
    bound_here x = is_bound (b x) || is_bound (c x)

    abbrev bound_there : ℕ → Bool
    bound_there x = is_bound (b' x) || is_bound (c' x)

    same_bound : (x : ℕ) → bound_here x ≡ bound_there x
    same_bound x = ap₂ (λ (t u : Bool). t || u) (h.bound x) (i.bound x)

    changed_alike : (x : ℕ) → bound_here x ≡ true → BoundAlike (changed cs b x) (changed cs' b' x)
    changed_alike x q =
        let g = (here x).0 q in
        let g' = (there x).0 (sym (same_bound x) ∙ q) in
        joined_alike P m n S.insts U.insts fits also (T x) (at_ends x (e ∷ es)) (at_ends x (f ∷ fs)) (changed cs b x) (changed cs' b' x) (alike_at x (e ∷ es) (f ∷ fs) each) g.even g.joined g'.joined

    some_own : (x : ℕ) → x < first → (t : Bool) → bound_here x ≡ t → Means (T x) (changed cs b x) (changed cs' b' x)
    some_own x lt true q =
        let g = (here x).0 q in
        let g' = (there x).0 (sym (same_bound x) ∙ q) in
        let r = each.0.own x lt in
        joined_mean_one P m n S.insts U.insts (T x) (at_ends x (e ∷ es)) (at_ends x (f ∷ fs)) (changed cs b x) (changed cs' b' x) (mean_at x lt (e ∷ es) (f ∷ fs) each) g.joined g'.joined (g.there r.here) (g'.there r.there) (changed_alike x q)
    some_own x lt false q =
        subst (λ (k : ℕ). Means (T x) k (changed cs' b' x)) (sym ((here x).1 q))
        (subst (λ (k : ℕ). Means (T x) (b x) k) (sym ((there x).1 (sym (same_bound x) ∙ q))) (h.own x lt))

    some_bound : (x : ℕ) (t : Bool) → bound_here x ≡ t → is_bound (changed cs b x) ≡ is_bound (changed cs' b' x)
    some_bound x true q = changed_alike x q
    some_bound x false q = ap is_bound ((here x).1 q) ∙ (h.bound x ∙ sym (ap is_bound ((there x).1 (sym (same_bound x) ∙ q))))

    some_follow : PointsFollow (changed cs b) (changed cs' b')
    some_follow = record { own = λ x lt. some_own x lt (bound_here x) refl; bound = λ x. some_bound x (bound_here x) refl }

  group_follows : (b c b' c' : Insts) → PointsFollow b b' → PointsFollow c c' → (es fs : List Insts) → EachFollows es fs → (cs cs' : List (ℕ × ℕ)) → KeptOf P m S.insts T b c es cs → KeptOf P n U.insts T b' c' fs cs' → PointsFollow (changed cs b) (changed cs' b')
  group_follows b c b' c' h i [] [] each cs cs' here there = subst (λ (xs : List (ℕ × ℕ)). PointsFollow (changed xs b) (changed cs' b')) (sym here) (subst (λ (xs : List (ℕ × ℕ)). PointsFollow b (changed xs b')) (sym there) h)
  group_follows b c b' c' h i [] (f ∷ fs) each cs cs' here there = absurd each
  group_follows b c b' c' h i (e ∷ es) [] each cs cs' here there = absurd each
  group_follows b c b' c' h i (e ∷ es) (f ∷ fs) each cs cs' here there = some_follow b c b' c' h i e f es fs each cs cs' here there

-- ---- bodies
-- Two procedures with one list of types over two tables of procedures: where the order that
-- is the body of the second follows that of the first, so do their switch forms.
module _ (q r : PlainProcs) (p o : Proc) (x y : GoalNode) (S U : System) (fit : AllFit q) (fit_other : AllFit r) (suits : Suits q S) (suits_other : Suits r U)
    (same_insts : S.insts ≡ insts_of q) (same_others : U.insts ≡ insts_of r) (form : IsForm q p x) (form_other : IsForm r o y) (order : IsTidyOrder S p) (order_other : IsTidyOrder U o)
    (alike : SystemsAlike (type_in p.var_types) S U) (listed : ListedOf S.world.source) (first : ℕ) where
  abbrev typing : ℕ → TypeTerm
  typing = type_in p.var_types

  abbrev Mean : TypeTerm → ℕ → ℕ → Type 0
  Mean t i j = MeanOne S.world.source (count_of q.insts) S.insts (count_of r.insts) U.insts t i j

  abbrev start : Insts
  start = entered p.head p.first

  fits_here : FitsInsts S.insts
  fits_here = subst FitsInsts (sym same_insts) fit.program.insts_are.insts

  fits_there : FitsInsts U.insts
  fits_there = subst FitsInsts (sym same_others) fit_other.program.insts_are.insts

  -- what is kept in the other table, at the types and from the head of this one
  abbrev kept_there : List TypeTerm → (before after : Insts) → Kept
  kept_there ts = kept_by U (typed_by ts) form_other.found (length ts)

  abbrev WellThere : List TypeTerm → OfGroup
  WellThere ts b c ds = KeptOf U.world.source (count_of r.insts) U.insts (typed_by ts) b c (ends U (typed_by ts) b (goals_of ds)) (kept_there ts b c ds)

  record SameGroups (ts : List TypeTerm) (b : Insts) : Type 0 where
    pub groups : OfEachGroup U (typed_by ts) (kept_there ts) (WellThere ts) b (plain_node o.body)
    pub same : plain_node y ≡ formed U (typed_by ts) (kept_there ts) b (plain_node o.body)

  abbrev own_types : List TypeTerm
  own_types = map plain_type p.var_types

  abbrev GroupsThere : ℕ → Type 0
  GroupsThere n =
      OfEachGroup U (type_in o.var_types) (kept_by U (type_in o.var_types) form_other.found n)
      (λ b c ds. KeptOf U.world.source (count_of r.insts) U.insts (type_in o.var_types) b c (ends U (type_in o.var_types) b (goals_of ds)) (kept_by U (type_in o.var_types) form_other.found n b c ds))
      (entered o.head o.first) (plain_node o.body)

  abbrev FormThere : ℕ → Type 0
  FormThere n = plain_node y ≡ formed U (type_in o.var_types) (kept_by U (type_in o.var_types) form_other.found n) (entered o.head o.first) (plain_node o.body)

  -- as many variables have types as there are types
  groups_there : (n : ℕ) → n ≡ length (map plain_type o.var_types) → GroupsThere n → FormThere n → SameGroups (map plain_type o.var_types) (entered o.head o.first)
  groups_there n e g f = subst (λ (m : ℕ). GroupsThere m → FormThere m → SameGroups (map plain_type o.var_types) (entered o.head o.first)) (sym e) (λ h k. record { groups = h; same = k }) g f

  same_groups : map plain_type o.var_types ≡ own_types → (begin : Insts) → entered o.head o.first ≡ begin → SameGroups own_types begin
  same_groups types begin heads =
      subst (λ (ts : List TypeTerm). SameGroups ts begin) types
      (subst (λ (b : Insts). SameGroups (map plain_type o.var_types) b) heads
      (groups_there (length o.var_types) (sym (length-map o.var_types plain_type)) (groups_kept r o y U fit_other suits_other same_others form_other order_other)
      (form_here r o y U fit_other suits_other same_others form_other order_other)))

  keeps : (b c b' c' : Insts) (ds es : List Disjunct) → InstsFollow S.world.source typing first Mean b b' → InstsFollow S.world.source typing first Mean c c' → DisjunctsFollow S.world.source typing first Mean b b' ds es
      → KeptWell q p x S fit suits same_insts form order b c ds → WellThere own_types b' c' es
      → InstsFollow S.world.source typing first Mean (λ v. change_at v (kept_here q p x S fit suits same_insts form order b c ds) (b v)) (λ v. change_at v (kept_there own_types b' c' es) (b' v))
  keeps b c b' c' ds es h i k here there =
      group_follows S U typing first (count_of q.insts) (count_of r.insts) alike listed fits_here fits_there b c b' c' h i (ends S typing b (goals_of ds)) (ends U typing b' (goals_of es))
      (ends_follow S U typing first (count_of q.insts) (count_of r.insts) alike listed fits_here fits_there b b' ds es h k)
      (kept_here q p x S fit suits same_insts form order b c ds) (kept_there own_types b' c' es) here
      (subst (λ (Q : Source). KeptOf Q (count_of r.insts) U.insts typing b' c' (ends U typing b' (goals_of es)) (kept_there own_types b' c' es)) alike.source there)

  pub switched_follow : map plain_type o.var_types ≡ map plain_type p.var_types → (begin : Insts) → entered o.head o.first ≡ begin → InstsFollow S.world.source typing first Mean start begin
      → Follows S.world.source typing first Mean start begin (plain_node p.body) (plain_node o.body) → Follows S.world.source typing first Mean start begin (plain_node x) (plain_node y)
  switched_follow types begin heads enters follow =
      let other : SameGroups own_types begin = same_groups types begin heads in
      subst (λ (z : Node). Follows S.world.source typing first Mean start begin z (plain_node y)) (sym (form_here q p x S fit suits same_insts form order))
      (subst (λ (z : Node). Follows S.world.source typing first Mean start begin (formed S typing (kept_here q p x S fit suits same_insts form order) start (plain_node p.body)) z) (sym other.same)
      (forms-follow S.world.source typing first Mean S U (nodes-told S U typing (count_of q.insts) (count_of r.insts) alike listed first) (kept_here q p x S fit suits same_insts form order) (kept_there own_types)
      (KeptWell q p x S fit suits same_insts form order) (WellThere own_types) keeps start begin (plain_node p.body) (plain_node o.body) enters follow
      (groups_kept q p x S fit suits same_insts form order) other.groups))
