-- A goal that is put in order in two ways breaks one rule, so all goals break one list of rules.
use Rattle.std.proofs.Common.{◌≡◌, ◌≢◌, ℕ, zero, suc, ◌<◌, Bool, true, false, cond, nat_lt, List, [], ◌∷◌, ◌++◌, map, length, take, Option, Some, None, refl, sym, ap, ap₂, ◌∙◌, subst, arith}
use Rattle.std.specs.List.{All}
use Rattle.std.proofs.Math.Nat.{le_refl}
use Rattle.std.proofs.lemmas.Bool.{ltb-true}
use Rattle.std.proofs.lemmas.List.Elements.{All-head, All-tail}
use Rattle.mc_source.specs.Rules.{broken_at}
use Rattle.mc_source.specs.declared.place.Place.{Place}
use Rattle.mc_source.specs.declared.rule.Broken.{Broken}
use Rattle.mc_program.specs.Programs.{TypeTerm, Source}
use Rattle.mc_program.specs.PlainPrograms.{plain_program}
use Rattle.mc_program.specs.declared.program.Program.{Program}
use Rattle.mc_program.specs.declared.ty.Ty.{Ty}
use Rattle.mc_model.specs.Flat.{variables_of}
use Rattle.mc_model.specs.PlainGoals.{plain_flat}
use Rattle.mc_model.specs.declared.flat.Normal.{Normal}
use Rattle.mc_model.specs.declared.inst.ModeDecl.{ModeDecl}
use Rattle.mc_model.specs.declared.inst.Sig.{Sig}
use Rattle.mc_accepted.specs.Arranged.{Verdict, in_order, faulty, unmet, lacks, arrange}
use Rattle.mc_accepted.specs.NodeOracle.{NodeOracle, of_nodes}
use Rattle.mc_accepted.specs.Fits.{FitsTypes}
use Rattle.mc_accepted.specs.InstRules.{PlainInstDef}
use Rattle.mc_insts.specs.declared.insts.Insts.{Insts}
use Rattle.mc_insts.specs.Graphs.{graph_of, count_of}
use Rattle.mc_insts.specs.Growing.{Grown}
use Rattle.mc_procs.specs.Procedures.{PlainProcs, source_of, insts_of, parameters_in}
use Rattle.mc_procs.specs.VariableTypes as W
use Rattle.mc_mode_state.specs.Agreeing.{OracleAgrees, TypedAs}
use Rattle.mc_mode_state.specs.Nodes.{type_in}
use Rattle.mc_mode_state.specs.declared.state.State.{State}
use Rattle.mc_mode_state.proofs.Found.{grown-trans}
use Rattle.mc_modes.specs.Arrangements.{Becomes}
use Rattle.mc_modes.specs.Schedules.{NormalFits}
use Rattle.mc_modes.specs.Signatures.{mode_in, declared_in}
use Rattle.mc_modes.specs.Tries.{with_types}
use Rattle.mc_modes.specs.ModeFaults.{rule_of}
use Rattle.mc_modes.specs.NormalGoals.{goal_at}
use Rattle.mc_modes.specs.Outcomes.{Tried, IsTried, broken_rules}
use Rattle.mc_modes.specs.declared.modes.ModeId.{ModeId}
use Rattle.mc_modes.specs.Numbering.{IsMode}
use Rattle.laws_order.specs.SomeTest.{TypesMet}
use Rattle.laws_order.proofs.NothingLacks.{never-lacks}
use Rattle.laws_graphs.specs.Related.{OneVerdict, Related, NodesRelated}
use Rattle.laws_graphs.specs.Nodes.{Finds}
use Rattle.laws_graphs.proofs.NodesMeanOne.{nodes-related}
use Rattle.laws_graphs.proofs.OneVerdicts.{one-verdict}
use Rattle.mc_self_check.specs.TypedGoals.{IsTyped}
use Rattle.mc_analysis.specs.Premises.{InitialProcedures, Preconditions, GoalsAreTyped}
use Rattle.mc_analysis.specs.Untidy.{TidyAt, OverTidy}
use Rattle.laws_procedures.proofs.BodyOrders.{same_types}
use Rattle.laws_one_answer.specs.FoundNodes.{joins_some, FoundNodes}
use Rattle.laws_one_answer.specs.ModesMeanOne.{AreOne, NodesAreOne, SigsAreOne, ModesAreOne}
use Rattle.laws_one_answer.specs.OneListOfRules.{OneListOfRules}
use Rattle.laws_one_answer.proofs.FoundNodes.{in-numbers}
use Rattle.laws_one_answer.proofs.ModesMeanOne.{modes-mean-one}
use Rattle.laws_one_answer.proofs.NamedApart.{named-apart}
use Rattle.laws_one_answer.proofs.SigsAreOne.{mode_one}

-- ---- one verdict breaks one rule
pub one-rule : (n : ℕ) (names : List (List ℕ)) (v w : Verdict) → OneVerdict v w → rule_of n names v ≡ rule_of n names w
one-rule n names (in_order g) (in_order h) e = refl
one-rule n names (in_order g) (faulty f) e = absurd e
one-rule n names (in_order g) (unmet k) e = absurd e
one-rule n names (faulty f) (in_order h) e = absurd e
one-rule n names (faulty f) (faulty h) e = ap (λ x. rule_of n names (faulty x)) e
one-rule n names (faulty f) (unmet k) e = absurd e
one-rule n names (unmet k) (in_order h) e = absurd e
one-rule n names (unmet k) (faulty f) e = absurd e
one-rule n names (unmet k) (unmet l) e = ap (λ x. rule_of n names (unmet x)) e

-- ---- the types of a goal's own variables, and of those that came
pub types-kept : (ts : List Ty) (n x : ℕ) → x < n → type_in (take n ts) x ≡ type_in ts x
types-kept [] zero x lt = refl
types-kept [] (suc n) x lt = refl
types-kept (t ∷ ts) zero x lt = absurd (omega (arith, lt))
types-kept (t ∷ ts) (suc n) zero lt = refl
types-kept (t ∷ ts) (suc n) (suc x) lt = types-kept ts n x (omega (arith, lt))

pub own-typed : (types : List Ty) (end : State) → take (length types) end.types.items ≡ types → TypedAs end (with_types (length types) end (W.type_in types))
own-typed types end kept x lt = at (nat_lt x (length types)) refl
  where
    at : (b : Bool) → nat_lt x (length types) ≡ b → cond b (W.type_in types x) (type_in end.types.items x) ≡ type_in end.types.items x
    at false e = refl
    at true e =
        let own : x < length types = ltb-true x (length types) e in
        same_types types x own ∙ ap (λ ts. type_in ts x) (sym kept) ∙ types-kept end.types.items (length types) x own

-- ---- functions that find each node that is looked for
abbrev or_ground : Option ℕ → ℕ
or_ground None = 1
or_ground (Some k) = k

abbrev finds_all : NodeOracle → NodeOracle
finds_all C =
    record C {
      over = λ s is. Some (or_ground (C.over s is));
      joined = λ t is. Some (or_ground (C.joined t is));
    }

all-agree : (q : PlainProcs) (s : State) (C : NodeOracle) (T : ℕ → TypeTerm) → OracleAgrees q s C T → OracleAgrees q s (finds_all C) T
all-agree q s C T a =
    record {
      dies = a.dies;
      constants = a.constants;
      narrowed = a.narrowed;
      fits = a.fits;
      over = λ f k is e. ap (λ o. Some (or_ground o)) (a.over f k is e);
      joined = λ r k is e. ap (λ o. Some (or_ground o)) (a.joined r k is e);
      types = a.types;
    }

-- ---- what becomes of a mode's goal in one way
module _ (found : FoundNodes) (P : Program) (sigs : List Sig) (goals : List Normal) (met : (t : TypeTerm) → TypesMet (plain_program P) t) (id : ModeId) where
  abbrev S : Source
  S = plain_program P

  abbrev G : Normal
  G = goal_at goals id.pred

  abbrev M : ModeDecl
  M = mode_in sigs id.pred id.mode

  abbrev T : ℕ → TypeTerm
  T = W.type_in G.var_types

  abbrev arranged : NodeOracle → Verdict
  arranged C = arrange (of_nodes C) S (declared_in sigs) T (length G.var_types) G.head M.first M.last (plain_flat G.body)

  -- It is told by functions that tell the truth of nodes of a graph, and find all that is needed.
  pub record IsTold (from : Insts) (v : Verdict) : Type 0 where
    pub insts : Insts
    pub grown : Grown S from insts
    pub types : FitsTypes S (parameters_in P)
    pub choice : NodeOracle
    pub finds : Finds S (count_of insts) (graph_of insts) (joins_some choice)
    pub verdict : arranged choice ≡ v
    pub enough : v ≢ faulty lacks

  told-of : (q r : PlainProcs) (from : Insts) (end : State) (v : Verdict) → q.program ≡ P → Grown S from q.insts
      → Becomes sigs G.var_types G.head M.first M.last (plain_flat G.body) q r end v → IsTold from v
  told-of q r from end v same grown b =
      record {
        insts = r.insts;
        grown = grown-trans S from q.insts r.insts grown (subst (λ (X : Program). Grown (plain_program X) q.insts r.insts) same b.grown);
        types = subst (λ (X : Program). FitsTypes (plain_program X) (parameters_in X)) same_after b.stands.fit.program.types;
        choice = agree.0;
        finds = subst (λ (X : Program). Finds (plain_program X) (count_of r.insts) (graph_of r.insts) (joins_some agree.0)) same_after agree.2;
        verdict = said agree.0 there;
        enough = λ e. never-lacks (of_nodes (finds_all agree.0)) S (declared_in sigs) T (λ s is. refl) (λ t i is. refl) (length G.var_types) G.head M.first M.last (plain_flat G.body) (said (finds_all agree.0) (all-agree r end agree.0 typing there) ∙ e);
      }
    where
      same_after : r.program ≡ P
      same_after = ap (λ (x : PlainProcs). x.program) b.others ∙ same

      typing : ℕ → TypeTerm
      typing = with_types (length G.var_types) end T

      agree : (C : NodeOracle) × ((U : ℕ → TypeTerm) → TypedAs end U → OracleAgrees r end C U) × Finds (source_of r) (count_of r.insts) (insts_of r) (joins_some C)
      agree = found r end b.stands (subst (λ (X : Program). (t : TypeTerm) → TypesMet (plain_program X) t) (sym same_after) met)

      there : OracleAgrees r end agree.0 typing
      there = agree.1 typing (own-typed G.var_types end b.kept)

      said : (C : NodeOracle) → OracleAgrees r end C typing → arranged C ≡ v
      said C a =
          subst (λ (X : Program). arrange (of_nodes C) (plain_program X) (declared_in sigs) T (length G.var_types) G.head M.first M.last (plain_flat G.body) ≡ v) same
          (b.verdict C T (record { agrees = a }))

-- ---- and in two
-- a graph that finds no node for none asks nothing else of the order
pub related-some : (P : Program) (K L : Insts) (C E : NodeOracle) → Related (of_nodes (joins_some C)) (of_nodes (joins_some E)) (AreOne P K L) (plain_program P) → Related (of_nodes C) (of_nodes E) (AreOne P K L) (plain_program P)
related-some P K L C E r =
    record {
      bound = r.bound;
      dead = r.dead;
      free = r.free;
      ground_there = r.ground_there;
      gone = r.gone;
      over = r.over;
      joined = r.joined;
      narrowed = r.narrowed;
      constants = r.constants;
      fits = r.fits;
    }

module _ (found : FoundNodes) (P : Program) (ds es : List PlainInstDef) (sigs modes : List Sig) (goals : List Normal) (exported : List Bool) (untidy told : List Broken) (first other : PlainProcs) (same : SigsAreOne (NodesAreOne P ds es) sigs modes)
    (met : (t : TypeTerm) → TypesMet (plain_program P) t) (here : InitialProcedures P ds sigs untidy first) (there : InitialProcedures P es modes told other) (asked : Preconditions first sigs goals exported) (asked_too : Preconditions other modes goals exported) where
  abbrev Over : ModeId → Type 0
  Over id = OverTidy (plain_program P) (insts_of first) sigs goals id

  one-verdict-told : (id : ModeId) → IsMode P sigs id → Over id → (v w : Verdict) → IsTold found P sigs goals met id first.insts v → IsTold found P modes goals met id other.insts w → OneVerdict v w
  one-verdict-told id is tidy v w x y =
      subst (λ z. OneVerdict z w) x.verdict
      (subst (λ z. OneVerdict (arranged found P sigs goals met id x.choice) z) y.verdict
      (one-verdict (of_nodes x.choice) (of_nodes y.choice) (AreOne P x.insts y.insts) (plain_program P) (TidyAt (plain_program P) (insts_of first) sigs) (declared_in sigs) (declared_in modes) (W.type_in g.var_types) n
      (related-some P x.insts y.insts x.choice y.choice
      (nodes-related (plain_program P) (parameters_in P) (count_of x.insts) (count_of y.insts) (graph_of x.insts) (graph_of y.insts) (joins_some x.choice) (joins_some y.choice) x.types (named-apart (plain_program P) here.insts.are_of.fits) x.finds y.finds))
      are.declared n g.head m.first m.last l.first l.last (plain_flat g.body) tidy.called types.body (in-numbers n (variables_of (plain_flat g.body)) fits.variables) (in-numbers n g.head fits.head) (le_refl n)
      (at_head m.first l.first (are.initial id.pred id.mode tidy.own)) (at_head m.last l.last (are.final id.pred id.mode tidy.own)) (λ e. x.enough (sym x.verdict ∙ e)) (λ e. y.enough (sym y.verdict ∙ e))))
    where
      g : Normal
      g = goal_at goals id.pred

      m : ModeDecl
      m = mode_in sigs id.pred id.mode

      l : ModeDecl
      l = mode_in modes id.pred id.mode

      n : ℕ
      n = length g.var_types

      fits : NormalFits first m g
      fits =
          asked.goals_fit id.pred (subst (λ (X : Program). id.pred < length X.preds) (sym here.program) is.pred)
          (subst (λ (X : Program). ((plain_program X).preds id.pred).builtin ≡ None) (sym here.program) is.no_builtin) id.mode is.mode

      types : IsTyped (plain_program P) id.pred g
      types = subst (λ (X : Program). GoalsAreTyped X goals) here.program asked.goals_typed id.pred is.pred is.no_builtin

      are : ModesAreOne P sigs modes (insts_of first) x.insts y.insts x.choice y.choice
      are = modes-mean-one P ds es sigs modes untidy told first other x.insts y.insts same here there asked.insts_there asked_too.insts_there x.grown y.grown x.choice y.choice

      at_head : (is js : List ℕ) → NodesRelated (of_nodes x.choice) (of_nodes y.choice) (AreOne P x.insts y.insts) is js ((plain_program P).preds id.pred).types
          → NodesRelated (of_nodes x.choice) (of_nodes y.choice) (AreOne P x.insts y.insts) is js (map (W.type_in g.var_types) g.head)
      at_head is js r = subst (λ ts. NodesRelated (of_nodes x.choice) (of_nodes y.choice) (AreOne P x.insts y.insts) is js ts) (sym types.head) r

  -- ---- lists of rules
  told-in : (all : List Sig) (defs : List PlainInstDef) (bs : List Broken) (from last : PlainProcs) (t : Tried) → InitialProcedures P defs all bs from → IsTried all goals from last t → IsTold found P all goals met t.id from.insts t.verdict
  told-in all defs bs from last t begins is =
      told-of found P all goals met t.id is.before is.after from.insts is.end t.verdict (is.begun.program ∙ begins.program)
      (subst (λ (X : Program). Grown (plain_program X) from.insts is.before.insts) begins.program is.begun.grown) is.becomes

  same-rules : (last also : PlainProcs) (ts us : List Tried) → map (λ (t : Tried). t.id) ts ≡ map (λ (t : Tried). t.id) us → All (IsMode P sigs) (map (λ (t : Tried). t.id) ts) → All Over (map (λ (t : Tried). t.id) ts)
      → All (IsTried sigs goals first last) ts → All (IsTried modes goals other also) us → broken_rules sigs goals ts ≡ broken_rules modes goals us
  same-rules last also [] [] e are tidy x y = refl
  same-rules last also [] (u ∷ us) e are tidy x y = cc
  same-rules last also (t ∷ ts) [] e are tidy x y = cc
  same-rules last also (t ∷ ts) (u ∷ us) e are tidy x y =
      let ids : List Tried → List ModeId = map (λ (t : Tried). t.id) in
      let eq : t.id ≡ u.id = cc in
      let rest : ids ts ≡ ids us = cc in
      let is : IsMode P sigs t.id = All-head (IsMode P sigs) t.id (ids ts) are in
      let one : OneVerdict t.verdict u.verdict = one-verdict-told t.id is (All-head Over t.id (ids ts) tidy) t.verdict u.verdict (told-in sigs ds untidy first last t here (All-head (IsTried sigs goals first last) t ts x))
      (subst (λ i. IsTold found P modes goals met i other.insts u.verdict) (sym eq) (told-in modes es told other also u there (All-head (IsTried modes goals other also) u us y))) in
      let broken : ModeId → Verdict → List Broken = λ i v. broken_at (mode_in modes i.pred i.mode).at (rule_of (length (goal_at goals i.pred).head) (goal_at goals i.pred).var_names v) in
      ap₂ (λ (bs cs : List Broken). bs ++ cs)
      (ap (broken_at (mode_in sigs t.id.pred t.id.mode).at) (one-rule (length (goal_at goals t.id.pred).head) (goal_at goals t.id.pred).var_names t.verdict u.verdict one)
      ∙ (ap (λ (at : Place). broken_at at (rule_of (length (goal_at goals t.id.pred).head) (goal_at goals t.id.pred).var_names u.verdict)) (sym (mode_one (NodesAreOne P ds es) sigs modes t.id.pred t.id.mode same).at)
      ∙ ap (λ i. broken i u.verdict) eq))
      (same-rules last also ts us rest (All-tail (IsMode P sigs) t.id (ids ts) are) (All-tail Over t.id (ids ts) tidy) (All-tail (IsTried sigs goals first last) t ts x) (All-tail (IsTried modes goals other also) u us y))

pub one-list-of-rules : FoundNodes → OneListOfRules
one-list-of-rules found P ds es sigs modes goals exported untidy told first other last also ids faults others same met here there asked asked_too are tidy x y =
    x.rules
    ∙ same-rules found P ds es sigs modes goals exported untidy told first other same met here there asked asked_too last also x.tried y.tried (x.ids_are ∙ sym y.ids_are)
    (subst (λ is. All (IsMode P sigs) is) (sym x.ids_are) are)
    (subst (λ is. All (OverTidy (plain_program P) (insts_of first) sigs goals) is) (sym x.ids_are) tidy) x.each y.each
    ∙ sym y.rules
