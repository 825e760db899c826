-- What is told of declared modes by the rule of unique modes is one, whatever graph insts are defined in; and so are the
-- modes whose goals are tried where some break it.
use Rattle.std.proofs.Common.{◌≡◌, ◌↔◌, ℕ, List, [], ◌∷◌, ◌++◌, Option, refl, sym, ap, ap₂, ◌∙◌, subst}
use Rattle.mc_source.specs.declared.place.Place.{Place}
use Rattle.mc_source.specs.declared.rule.Broken.{Broken}
use Rattle.mc_source.specs.Rules.{Fault, broken_at}
use Rattle.mc_program.specs.Programs.{TypeTerm, Source}
use Rattle.mc_program.specs.PlainPrograms.{plain_program}
use Rattle.mc_program.specs.declared.program.Program.{Program}
use Rattle.mc_model.specs.Insts.{Graph}
use Rattle.mc_model.specs.PlainGoals.{plain_flat}
use Rattle.mc_model.specs.declared.flat.Normal.{Normal}
use Rattle.mc_model.specs.declared.inst.ModeDecl.{ModeDecl}
use Rattle.mc_model.specs.declared.inst.Sig.{Sig}
use Rattle.mc_accepted.specs.InstRules.{PlainInstDef}
use Rattle.mc_accepted.specs.Tidy.{Tidy, EachTidy}
use Rattle.mc_insts.specs.declared.insts.Insts.{Insts}
use Rattle.mc_insts.specs.Graphs.{graph_of}
use Rattle.mc_modes.specs.Signatures.{modes_at, mode_in}
use Rattle.mc_modes.specs.NormalGoals.{goal_at}
use Rattle.mc_modes.specs.declared.modes.ModeId.{ModeId}
use Rattle.mc_analysis.specs.Premises.{HasInsts}
use Rattle.mc_analysis.specs.Untidy.{ModeIsTidy, TidySays, is_tidy, is_untidy, ModesSay, no_mode, mode_then, AreUntidy, no_predicate, predicate_then, AllTidy, TidyAt, OverTidy, AreAsked, no_more, asked, passed}
use Rattle.mc_analysis.proofs.Asking.{only_on}
use Rattle.laws_one_answer.specs.ModesMeanOne.{NodesAreOne, EachIsOne, ModeIsOne, EachModeIsOne, SigsAreOne}
use Rattle.laws_one_answer.proofs.SigsAreOne.{modes_one, mode_one}

module _ (P : Source) (G H : Graph) (One : ℕ → ℕ → Type 0) (same : (i j : ℕ) → One i j → (t : TypeTerm) → Tidy P G i t ↔ Tidy P H j t) where
  each_on : (is js : List ℕ) (ts : List TypeTerm) → EachIsOne One is js → EachTidy P G is ts ↔ EachTidy P H js ts
  each_on [] [] ts h = ((λ x. tt), (λ x. tt))
  each_on [] (j ∷ js) ts h = absurd h
  each_on (i ∷ is) [] ts h = absurd h
  each_on (i ∷ is) (j ∷ js) [] h = ((λ x. tt), (λ x. tt))
  each_on (i ∷ is) (j ∷ js) (t ∷ ts) h =
      let r = each_on is js ts h.1 in
      let s = same i j h.0 t in
      ((λ x. (s.0 x.0, r.0 x.1)), (λ x. (s.1 x.0, r.1 x.1)))

  mode_on : (ts : List TypeTerm) (m n : ModeDecl) → ModeIsOne One m n → ModeIsTidy P G ts m ↔ ModeIsTidy P H ts n
  mode_on ts m n h =
      let a = each_on m.first n.first ts h.first in
      let b = each_on m.last n.last ts h.last in
      ((λ x. (a.0 x.0, b.0 x.1)), (λ x. (a.1 x.0, b.1 x.1)))

  one_says : (ts : List TypeTerm) (m n : ModeDecl) (f g : Option Fault) → ModeIsOne One m n → TidySays P G ts m f → TidySays P H ts n g → f ≡ g
  one_says ts m n f g h (is_tidy a) (is_tidy b) = refl
  one_says ts m n f g h (is_tidy a) (is_untidy d) = absurd (d ((mode_on ts m n h).0 a))
  one_says ts m n f g h (is_untidy d) (is_tidy b) = absurd (d ((mode_on ts m n h).1 b))
  one_says ts m n f g h (is_untidy d) (is_untidy o) = refl

  modes_say : (ts : List TypeTerm) (ms ns : List ModeDecl) (bs cs : List Broken) → EachModeIsOne One ms ns → ModesSay P G ts ms bs → ModesSay P H ts ns cs → bs ≡ cs
  modes_say ts [] [] bs cs w no_mode no_mode = refl
  modes_say ts [] (n ∷ ns) bs cs w a b = absurd w
  modes_say ts (m ∷ ms) [] bs cs w a b = absurd w
  modes_say ts (m ∷ ms) (n ∷ ns) bs cs w (mode_then {f = f} {bs = xs} a h) (mode_then {f = g} {bs = ys} b k) =
      ap₂ (λ (o : Option Fault) (rest : List Broken). broken_at m.at o ++ rest) (one_says ts m n f g w.0 a b) (modes_say ts ms ns xs ys w.1 h k)
      ∙ ap (λ (at : Place). broken_at at g ++ ys) (sym w.0.at)

  one_untidy : (ss us : List Sig) (bs cs : List Broken) → SigsAreOne One ss us → AreUntidy P G ss bs → AreUntidy P H us cs → bs ≡ cs
  one_untidy [] [] bs cs w no_predicate no_predicate = refl
  one_untidy [] (u ∷ us) bs cs w a b = absurd w
  one_untidy (s ∷ ss) [] bs cs w a b = absurd w
  one_untidy (s ∷ ss) (u ∷ us) bs cs w (predicate_then {bs = ws} {cs = xs} a h) (predicate_then {bs = ys} {cs = zs} b k) =
      ap₂ (λ (first rest : List Broken). first ++ rest) (modes_say (P.preds s.pred).types s.modes u.modes ws ys w.1 a (subst (λ (p : ℕ). ModesSay P H (P.preds p).types u.modes ys) w.0 b)) (one_untidy ss us xs zs w.2 h k)

  -- ---- modes whose goals are tried
  all_on : (ts : List TypeTerm) (ms ns : List ModeDecl) → EachModeIsOne One ms ns → AllTidy P G ts ms ↔ AllTidy P H ts ns
  all_on ts [] [] w = ((λ x. tt), (λ x. tt))
  all_on ts [] (n ∷ ns) w = absurd w
  all_on ts (m ∷ ms) [] w = absurd w
  all_on ts (m ∷ ms) (n ∷ ns) w =
      let s = mode_on ts m n w.0 in
      let r = all_on ts ms ns w.1 in
      ((λ x. (s.0 x.0, r.0 x.1)), (λ x. (s.1 x.0, r.1 x.1)))

  module _ (ss us : List Sig) (one : SigsAreOne One ss us) (goals : List Normal) where
    tidy_at_on : (p : ℕ) → TidyAt P G ss p ↔ TidyAt P H us p
    tidy_at_on p = all_on (P.preds p).types (modes_at ss p) (modes_at us p) (modes_one One ss us p one)

    over_on : (id : ModeId) → OverTidy P G ss goals id ↔ OverTidy P H us goals id
    over_on id =
        let body = plain_flat (goal_at goals id.pred).body in
        let m = mode_on (P.preds id.pred).types (mode_in ss id.pred id.mode) (mode_in us id.pred id.mode) (mode_one One ss us id.pred id.mode one) in (
          λ o. record { own = m.0 o.own; called = only_on (TidyAt P G ss) (TidyAt P H us) (λ p. (tidy_at_on p).0) body o.called },
          λ o. record { own = m.1 o.own; called = only_on (TidyAt P H us) (TidyAt P G ss) (λ p. (tidy_at_on p).1) body o.called },
        )

    asked_on : (ids xs ys : List ModeId) → AreAsked P G ss goals ids xs → AreAsked P H us goals ids ys → xs ≡ ys
    asked_on [] xs ys no_more no_more = refl
    asked_on (id ∷ ids) xs ys (asked {is = is} a h) (asked {is = js} b k) = ap (λ (l : List ModeId). id ∷ l) (asked_on ids is js h k)
    asked_on (id ∷ ids) xs ys (asked a h) (passed b k) = absurd (b ((over_on id).0 a))
    asked_on (id ∷ ids) xs ys (passed a h) (asked b k) = absurd (a ((over_on id).1 b))
    asked_on (id ∷ ids) xs ys (passed a h) (passed b k) = asked_on ids xs ys h k

-- so it is where nodes are one by their definitions
pub untidy_alike : (P : Program) (ds es : List PlainInstDef) (I J : Insts) → HasInsts P ds I → HasInsts P es J → (sigs others : List Sig) (bs cs : List Broken) → SigsAreOne (NodesAreOne P ds es) sigs others
    → AreUntidy (plain_program P) (graph_of I) sigs bs → AreUntidy (plain_program P) (graph_of J) others cs → bs ≡ cs
untidy_alike P ds es I J here other sigs others bs cs same a b =
    one_untidy (plain_program P) (graph_of I) (graph_of J) (NodesAreOne P ds es) (λ i j h t. h.tidy I J here other t) sigs others bs cs same a b

pub asked_alike : (P : Program) (ds es : List PlainInstDef) (I J : Insts) → HasInsts P ds I → HasInsts P es J → (sigs others : List Sig) (goals : List Normal) (ids xs ys : List ModeId) → SigsAreOne (NodesAreOne P ds es) sigs others
    → AreAsked (plain_program P) (graph_of I) sigs goals ids xs → AreAsked (plain_program P) (graph_of J) others goals ids ys → xs ≡ ys
asked_alike P ds es I J here other sigs others goals ids xs ys same a b =
    asked_on (plain_program P) (graph_of I) (graph_of J) (NodesAreOne P ds es) (λ i j h t. h.tidy I J here other t) sigs others same goals ids xs ys a b
