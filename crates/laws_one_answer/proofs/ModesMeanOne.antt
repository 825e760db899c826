-- Insts that definitions define mean one thing in two graphs, and so do the insts of declared modes.
use Rattle.std.proofs.Common.{◌≡◌, inl, ℕ, zero, suc, ◌+◌, ◌<◌, List, [], ◌∷◌, ◌++◌, map, get_or, Option, refl, sym, ap, ◌∙◌, subst, arith}
use Rattle.std.specs.List.{All}
use Rattle.std.proofs.Math.Nat.{lt_of_lt_of_le}
use Rattle.mc_source.specs.Rules.{Fault, broken_at}
use Rattle.mc_source.specs.declared.rule.Broken.{Broken}
use Rattle.mc_program.specs.Programs.{TypeTerm, state_type, Source}
use Rattle.mc_program.specs.PlainPrograms.{plain_program}
use Rattle.mc_program.specs.declared.builtin.Builtin.{Builtin}
use Rattle.mc_program.specs.declared.builtin.Builtin.TheVariants as B
use Rattle.mc_program.specs.declared.program.Program.{Program}
use Rattle.mc_model.specs.Insts.{Graph}
use Rattle.mc_model.specs.PlainGoals.{plain_flat}
use Rattle.mc_model.specs.Types.{instance_of}
use Rattle.mc_model.specs.declared.flat.Normal.{Normal}
use Rattle.mc_model.specs.declared.inst.ModeDecl.{ModeDecl}
use Rattle.mc_model.specs.declared.inst.Sig.{Sig}
use Rattle.mc_accepted.specs.BuiltinTypes.{Library_types, builtin_types}
use Rattle.mc_accepted.specs.NodeOracle.{NodeOracle, of_nodes}
use Rattle.mc_accepted.specs.InstRules.{PlainInstDef}
use Rattle.mc_accepted.specs.Ordered.{Mode, modes_of, zipped}
use Rattle.mc_accepted.specs.Tidy.{Tidy, EachTidy}
use Rattle.mc_insts.specs.declared.insts.Insts.{Insts}
use Rattle.mc_insts.specs.Graphs.{graph_of, count_of}
use Rattle.mc_insts.specs.Growing.{Grown}
use Rattle.mc_procs.specs.Named.{NumbersBelow}
use Rattle.mc_procs.specs.Procedures.{PlainProcs, insts_of}
use Rattle.mc_mode_state.specs.Modes.{never_answers, declared_mode, ModesFit}
use Rattle.mc_modes.specs.Signatures.{modes_at, mode_in, no_mode, SigsFit}
use Rattle.mc_modes.specs.NormalGoals.{goal_at}
use Rattle.mc_modes.specs.declared.modes.ModeId.{ModeId}
use Rattle.laws_order.proofs.TidyInsts.{tidy-at-instances}
use Rattle.laws_graphs.specs.FaultLaws.{InstAlike}
use Rattle.laws_graphs.specs.Nodes.{MeanOne}
use Rattle.laws_graphs.specs.Related.{BoundAlike, NodesRelated, ModesRelated, EachModeRelated}
use Rattle.laws_graphs.proofs.AlikeInsts.{same-bound}
use Rattle.laws_graphs.proofs.NodesMeanOne.{free-one, ground-one, unique-one, gone-one}
use Rattle.mc_analysis.specs.Premises.{HasInsts, InitialProcedures}
use Rattle.mc_analysis.specs.Untidy.{ModeIsTidy, TidySays, is_tidy, is_untidy, ModesSay, no_mode as no_mode_says, mode_then, AreUntidy, no_predicate, predicate_then, AllTidy, TidyAt, OverTidy}
use Rattle.mc_analysis.proofs.Asking.{only_all, tidy_in}
use Rattle.laws_one_answer.specs.ModesMeanOne.{AreOne, NodesAreOne, DefinedMeanOne, EachIsOne, EachModeIsOne, SigsAreOne, ArePlaced, ModesAreOne, ModesMeanOne}
use Rattle.laws_one_answer.proofs.SigsAreOne.{modes_one, mode_one}
use Rattle.laws_one_answer.proofs.GraphsAlike.{allows-on, tidy-back, graphs-alike}

-- ---- insts that definitions define
module _ (P : Program) (ds : List PlainInstDef) (I J : Insts) (here : HasInsts P ds I) (other : HasInsts P ds J) where
  to_there : (i : ℕ) (t : TypeTerm) → Tidy (plain_program P) (graph_of I) i t → Tidy (plain_program P) (graph_of J) i t
  to_there = tidy-back (plain_program P) (graph_of J) (graph_of I) (graphs-alike P ds J I other here)

  defined-one : (i : ℕ) (K L : Insts) → Grown (plain_program P) I K → Grown (plain_program P) J L → i < count_of I → (t : TypeTerm) → Tidy (plain_program P) (graph_of I) i t → AreOne P K L t i i
  defined-one i K L on also lt t tidy =
      let there : i < count_of J = subst (λ n. i < n) (here.count ∙ sym other.count) lt in
      let to = graphs-alike P ds I J here other in
      let from = graphs-alike P ds J I other here in
      record {
        here = lt_of_lt_of_le lt on.more;
        there = lt_of_lt_of_le there also.more;
        bound = refl;
        tidy_here = (on.tidy i lt t).0 tidy;
        tidy_there = (also.tidy i there t).0 (to_there i t tidy);
        same = λ path e. (
          (λ a. (also.meaning i there path e t).0 (allows-on (plain_program P) (graph_of I) (graph_of J) to path e i t ((on.meaning i lt path e t).1 a))),
          (λ a. (on.meaning i lt path e t).0 (allows-on (plain_program P) (graph_of J) (graph_of I) from path e i t ((also.meaning i there path e t).1 a))),
        );
      }

pub defined-mean-one : DefinedMeanOne
defined-mean-one P ds n =
    record {
      alike = λ I J here other. inl refl;
      tidy = λ I J here other t. (to_there P ds I J here other n t, to_there P ds J I other here n t);
      one = λ I J K L here other on also lt also_lt t tidy. defined-one P ds I J here other n K L on also lt t tidy;
    }

-- ---- where no declared mode breaks the rule of unique modes
no-first : {X : Type 0} (xs ys : List X) → (xs ++ ys) ≡ [] → xs ≡ []
no-first [] ys e = refl
no-first (x ∷ xs) ys e = cc

no-second : {X : Type 0} (xs ys : List X) → (xs ++ ys) ≡ [] → ys ≡ []
no-second [] ys e = e
no-second (x ∷ xs) ys e = cc

module _ (P : Source) (G : Graph) where
  one-tidy : (ts : List TypeTerm) (m : ModeDecl) (f : Option Fault) → TidySays P G ts m f → broken_at m.at f ≡ [] → ModeIsTidy P G ts m
  one-tidy ts m f (is_tidy t) e = t
  one-tidy ts m f (is_untidy n) e = cc

  modes-tidy : (ts : List TypeTerm) (ms : List ModeDecl) (bs : List Broken) → ModesSay P G ts ms bs → bs ≡ [] → AllTidy P G ts ms
  modes-tidy ts ms bs no_mode_says e = tt
  modes-tidy ts ms bs (mode_then {m = m} {ms = rest} {f = f} {bs = cs} says later) e =
      (one-tidy ts m f says (no-first (broken_at m.at f) cs e), modes-tidy ts rest cs later (no-second (broken_at m.at f) cs e))

  all-tidy : (n : ℕ) (sigs : List Sig) (bs : List Broken) → ArePlaced n sigs → AreUntidy P G sigs bs → bs ≡ [] → (p : ℕ) → AllTidy P G (P.preds (n + p)).types (modes_at sigs p)
  all-tidy n sigs bs placed no_predicate e p = tt
  all-tidy n sigs bs placed (predicate_then {s = s} {ss = ss} {bs = here} {cs = rest} says later) e zero =
      subst (λ q. AllTidy P G (P.preds q).types s.modes) (placed.0 ∙ (let z : n ≡ n + 0 = omega arith in z)) (modes-tidy (P.preds s.pred).types s.modes here says (no-first here rest e))
  all-tidy n sigs bs placed (predicate_then {s = s} {ss = ss} {bs = here} {cs = rest} says later) e (suc p) =
      subst (λ q. AllTidy P G (P.preds q).types (modes_at ss p)) (let z : suc n + p ≡ n + suc p = omega arith in z) (all-tidy (suc n) ss rest placed.1 later (no-second here rest e) p)

-- ---- insts of declared modes
module _ (P : Program) (K L : Insts) (C E : NodeOracle) where
  abbrev S : Source
  S = plain_program P

  abbrev R : TypeTerm → ℕ → ℕ → Type 0
  R = AreOne P K L

  abbrev Nodes : List ℕ → List ℕ → List TypeTerm → Type 0
  Nodes is js ts = NodesRelated (of_nodes C) (of_nodes E) R is js ts

  abbrev ItsModes : List Mode → List TypeTerm → Type 0
  ItsModes ms ts = ModesRelated (of_nodes C) (of_nodes E) R ms ms ts

  one_bound : (m : Mode) → BoundAlike m m
  one_bound m = (refl, refl)

  -- ---- those of builtins
  module _ (free : (t : TypeTerm) → R t 0 0) (ground : (t : TypeTerm) → R t 1 1) (unique : R state_type 2 2) (gone : R state_type 3 3) (T : Library_types) (σ : ℕ → TypeTerm) where
    abbrev Given : Builtin → Type 0
    Given op = ItsModes (modes_of op) (map (instance_of σ) (builtin_types T op))

    two-inputs : (a b c : TypeTerm) → ItsModes ((1, 1) ∷ (1, 1) ∷ (0, 1) ∷ []) (a ∷ b ∷ c ∷ [])
    two-inputs a b c = (one_bound (1, 1), ground a, ground a, (one_bound (1, 1), ground b, ground b, (one_bound (0, 1), free c, ground c, tt)))

    one-input : (a b : TypeTerm) → ItsModes ((1, 1) ∷ (0, 1) ∷ []) (a ∷ b ∷ [])
    one-input a b = (one_bound (1, 1), ground a, ground a, (one_bound (0, 1), free b, ground b, tt))

    test : (a b : TypeTerm) → ItsModes ((1, 1) ∷ (1, 1) ∷ []) (a ∷ b ∷ [])
    test a b = (one_bound (1, 1), ground a, ground a, (one_bound (1, 1), ground b, ground b, tt))

    writing : (a : TypeTerm) → ItsModes ((1, 1) ∷ (2, 3) ∷ (0, 2) ∷ []) (a ∷ state_type ∷ state_type ∷ [])
    writing a = (one_bound (1, 1), ground a, ground a, (one_bound (2, 3), unique, gone, (one_bound (0, 2), free state_type, unique, tt)))

    given : (op : Builtin) → Given op
    given B.IntPlus = two-inputs _ _ _
    given B.IntMinus = two-inputs _ _ _
    given B.IntTimes = two-inputs _ _ _
    given B.IntQuotient = two-inputs _ _ _
    given B.IntDiv = two-inputs _ _ _
    given B.IntMod = two-inputs _ _ _
    given B.IntRem = two-inputs _ _ _
    given B.IntNegate = one-input _ _
    given B.IntLess = test _ _
    given B.IntGreater = test _ _
    given B.IntAtMost = test _ _
    given B.IntAtLeast = test _ _
    given B.StringJoin = two-inputs _ _ _
    given B.StringLength = one-input _ _
    given B.StringCodePoints = one-input _ _
    given B.IntToString = one-input _ _
    given B.CharToString = one-input _ _
    given B.ToCharList = one-input _ _
    given B.StringToInt = one-input _ _
    given B.CharToInt = one-input _ _
    given B.CharFromInt = one-input _ _
    given B.CharIsDigit = (one_bound (1, 1), ground _, ground _, tt)
    given B.WriteString = writing _
    given B.WriteChar = writing _
    given B.WriteInt = writing _
    given B.Write = writing _
    given B.Nl = (one_bound (2, 3), unique, gone, (one_bound (0, 2), free state_type, unique, tt))
    given B.ReadLine = (one_bound (0, 1), free _, ground _, (one_bound (2, 3), unique, gone, (one_bound (0, 2), free state_type, unique, tt)))
    given B.Error = (one_bound (1, 1), ground _, ground _, tt)

  -- ---- those of modes that are declared
  module _ (One : ℕ → ℕ → Type 0) (alike : (i j : ℕ) → One i j → InstAlike i j) (G : Graph) (count many : ℕ) (one : (i j : ℕ) (t : TypeTerm) → One i j → i < count → j < many → Tidy S G i t → R t i j) where
    nodes-one : (is js : List ℕ) (ts : List TypeTerm) → EachIsOne One is js → NumbersBelow count is → NumbersBelow many js → EachTidy S G is ts → Nodes is js ts
    nodes-one [] [] ts h below there tidy = tt
    nodes-one [] (j ∷ js) ts h below there tidy = absurd h
    nodes-one (i ∷ is) [] ts h below there tidy = absurd h
    nodes-one (i ∷ is) (j ∷ js) [] h below there tidy = tt
    nodes-one (i ∷ is) (j ∷ js) (t ∷ ts) h below there tidy = (one i j t h.0 below.0 there.0 tidy.0, nodes-one is js ts h.1 below.1 there.1 tidy.1)

    instances-one : (σ : ℕ → TypeTerm) (is ls js ms : List ℕ) (ts : List TypeTerm) → EachIsOne One is js → EachIsOne One ls ms → NumbersBelow count is → NumbersBelow count ls → NumbersBelow many js → NumbersBelow many ms → EachTidy S G is ts → EachTidy S G ls ts
        → ModesRelated (of_nodes C) (of_nodes E) R (zipped is ls) (zipped js ms) (map (instance_of σ) ts)
    instances-one σ [] ls [] ms ts h k w v p q x y = tt
    instances-one σ [] ls (j ∷ js) ms ts h k w v p q x y = absurd h
    instances-one σ (i ∷ is) ls [] ms ts h k w v p q x y = absurd h
    instances-one σ (i ∷ is) [] (j ∷ js) [] ts h k w v p q x y = tt
    instances-one σ (i ∷ is) [] (j ∷ js) (m ∷ ms) ts h k w v p q x y = absurd k
    instances-one σ (i ∷ is) (l ∷ ls) (j ∷ js) [] ts h k w v p q x y = absurd k
    instances-one σ (i ∷ is) (l ∷ ls) (j ∷ js) (m ∷ ms) [] h k w v p q x y = tt
    instances-one σ (i ∷ is) (l ∷ ls) (j ∷ js) (m ∷ ms) (t ∷ ts) h k w v p q x y = (
      (same-bound i j (alike i j h.0), same-bound l m (alike l m k.0)),
      one i j (instance_of σ t) h.0 w.0 p.0 (tidy-at-instances S G σ i t x.0),
      one l m (instance_of σ t) k.0 v.0 q.0 (tidy-at-instances S G σ l t y.0),
      instances-one σ is ls js ms ts h.1 k.1 w.1 v.1 p.1 q.1 x.1 y.1,
    )

    each-one : (σ : ℕ → TypeTerm) (ms ns : List ModeDecl) (ts : List TypeTerm) → EachModeIsOne One ms ns → ModesFit count ms → ModesFit many ns → AllTidy S G ts ms → EachModeRelated (of_nodes C) (of_nodes E) R (map declared_mode ms) (map declared_mode ns) (map (instance_of σ) ts)
    each-one σ [] [] ts h fit there tidy = tt
    each-one σ [] (n ∷ ns) ts h fit there tidy = absurd h
    each-one σ (m ∷ ms) [] ts h fit there tidy = absurd h
    each-one σ (m ∷ ms) (n ∷ ns) ts h fit there tidy = (
      (sym h.0.proc, ap never_answers (sym h.0.det), instances-one σ m.first m.last n.first n.last ts h.0.first h.0.last fit.0.first fit.0.last there.0.first there.0.last tidy.0.0 tidy.0.1),
      each-one σ ms ns ts h.1 fit.1 there.1 tidy.1,
    )

-- the insts of each mode are there
fits-in : (n : ℕ) (ms : List ModeDecl) (k : ℕ) → ModesFit n ms → NumbersBelow n (get_or ms k no_mode).first × NumbersBelow n (get_or ms k no_mode).last
fits-in n [] k fit = (tt, tt)
fits-in n (m ∷ ms) zero fit = (fit.0.first, fit.0.last)
fits-in n (m ∷ ms) (suc k) fit = fits-in n ms k fit.1

-- ---- where no mode is untidy, all goals are over tidy modes
module _ (P : Program) (ds : List PlainInstDef) (sigs : List Sig) (q : PlainProcs) (placed : ArePlaced 0 sigs) (here : InitialProcedures P ds sigs [] q) where
  pub everywhere : (p : ℕ) → TidyAt (plain_program P) (insts_of q) sigs p
  everywhere p =
      subst (λ n. AllTidy (plain_program P) (insts_of q) ((plain_program P).preds n).types (modes_at sigs p)) (let e : 0 + p ≡ p = omega arith in e)
      (all-tidy (plain_program P) (insts_of q) 0 sigs [] placed here.told refl p)

  pub mode-everywhere : (p k : ℕ) → ModeIsTidy (plain_program P) (insts_of q) ((plain_program P).preds p).types (mode_in sigs p k)
  mode-everywhere p k = tidy_in (plain_program P) (insts_of q) ((plain_program P).preds p).types (modes_at sigs p) k (everywhere p)

  pub all-over : (goals : List Normal) (ids : List ModeId) → All (OverTidy (plain_program P) (insts_of q) sigs goals) ids
  all-over goals ids k d lt =
      let id = get_or ids k d in
      record {
        own = mode-everywhere id.pred id.mode;
        called = only_all (TidyAt (plain_program P) (insts_of q) sigs) everywhere (plain_flat (goal_at goals id.pred).body);
      }

module _ (P : Program) (ds es : List PlainInstDef) (sigs others : List Sig) (untidy told : List Broken) (first other : PlainProcs) (K L : Insts) (same : SigsAreOne (NodesAreOne P ds es) sigs others) (here : InitialProcedures P ds sigs untidy first) (there : InitialProcedures P es others told other)
    (fit : SigsFit (count_of first.insts) sigs) (fit_there : SigsFit (count_of other.insts) others) (on : Grown (plain_program P) first.insts K) (also : Grown (plain_program P) other.insts L) (C E : NodeOracle) where
  abbrev Q : Source
  Q = plain_program P

  abbrev G : Graph
  G = graph_of first.insts

  abbrev c : ℕ
  c = count_of first.insts

  abbrev e : ℕ
  e = count_of other.insts

  abbrev Nodes-one : ℕ → ℕ → Type 0
  Nodes-one = NodesAreOne P ds es

  alike : (i j : ℕ) → Nodes-one i j → InstAlike i j
  alike i j h = h.alike first.insts other.insts here.insts there.insts

  one : (i j : ℕ) (t : TypeTerm) → Nodes-one i j → i < c → j < e → Tidy Q G i t → AreOne P K L t i j
  one i j t h lt less tidy = h.one first.insts other.insts K L here.insts there.insts on also lt less t tidy

  -- builtin nodes grow as others do
  abbrev H : Graph
  H = graph_of other.insts

  many : 3 < c
  many = here.insts.are_of.builtins.many

  many_there : 3 < e
  many_there = there.insts.are_of.builtins.many

  grown-one : (i j : ℕ) (t : TypeTerm) → MeanOne Q c G e H t i j → AreOne P K L t i j
  grown-one i j t h =
      record {
        here = lt_of_lt_of_le h.here on.more;
        there = lt_of_lt_of_le h.there also.more;
        bound = h.bound;
        tidy_here = (on.tidy i h.here t).0 h.tidy_here;
        tidy_there = (also.tidy j h.there t).0 h.tidy_there;
        same = λ path e. (
          (λ a. (also.meaning j h.there path e t).0 ((h.same path e).0 ((on.meaning i h.here path e t).1 a))),
          (λ a. (on.meaning i h.here path e t).0 ((h.same path e).1 ((also.meaning j h.there path e t).1 a))),
        );
      }

  given-one : (T : Library_types) (σ : ℕ → TypeTerm) (op : Builtin) → ModesRelated (of_nodes C) (of_nodes E) (AreOne P K L) (modes_of op) (modes_of op) (map (instance_of σ) (builtin_types T op))
  given-one T σ op =
      given P K L C E (λ t. grown-one 0 0 t (free-one Q c e G H many many_there here.insts.are_of.insts there.insts.are_of.insts t)) (λ t. grown-one 1 1 t (ground-one Q c e G H many many_there here.insts.are_of.insts there.insts.are_of.insts t))
      (grown-one 2 2 state_type (unique-one Q c e G H many many_there here.insts.are_of.insts there.insts.are_of.insts)) (grown-one 3 3 state_type (gone-one Q c e G H many many_there here.insts.are_of.insts there.insts.are_of.insts)) T σ op

  modes-are-one : ModesAreOne P sigs others G K L C E
  modes-are-one =
      record {
        declared = record {
          modes = λ p σ tidy none. each-one P K L C E Nodes-one alike G c e one σ (modes_at sigs p) (modes_at others p) (Q.preds p).types (modes_one Nodes-one sigs others p same) (fit p) (fit_there p) tidy;
          builtins = λ p op σ e.
              subst (λ ts. ModesRelated (of_nodes C) (of_nodes E) (AreOne P K L) (modes_of op) (modes_of op) (map (instance_of σ) ts)) (sym (here.library.1 p op e).1)
              (given-one here.library.0 σ op);
        };
        initial = λ p k tidy.
            nodes-one P K L C E Nodes-one alike G c e one (mode_in sigs p k).first (mode_in others p k).first (Q.preds p).types (mode_one Nodes-one sigs others p k same).first
            (fits-in c (modes_at sigs p) k (fit p)).0 (fits-in e (modes_at others p) k (fit_there p)).0 tidy.0;
        final = λ p k tidy.
            nodes-one P K L C E Nodes-one alike G c e one (mode_in sigs p k).last (mode_in others p k).last (Q.preds p).types (mode_one Nodes-one sigs others p k same).last
            (fits-in c (modes_at sigs p) k (fit p)).1 (fits-in e (modes_at others p) k (fit_there p)).1 tidy.1;
      }

pub modes-mean-one : ModesMeanOne
modes-mean-one P ds es sigs others untidy told first other K L same here there fit fit_there on also C E = modes-are-one P ds es sigs others untidy told first other K L same here there fit fit_there on also C E
