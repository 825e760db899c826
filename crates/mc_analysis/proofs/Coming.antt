-- What comes of procedures.
use Rattle.std.proofs.Common.{◌≡◌, ℕ, ◌==◌, Bool, true, false, true≢false, List, Vec, Global, [], ◌∷◌, length, map, refl, sym, ap, subst, ◌∙◌}
use Rattle.std.specs.Prelude.{Result, Ok, Err, IfOk}
use Rattle.std.proofs.Math.Dec.{eqb-suc-zero}
use Rattle.mc_source.specs.declared.rule.Broken.{Broken}
use Rattle.mc_program.specs.PlainPrograms.{plain_program}
use Rattle.mc_program.specs.declared.program.Program.{Program}
use Rattle.mc_model.specs.declared.flat.Normal.{Normal}
use Rattle.mc_model.specs.declared.inst.Sig.{Sig}
use Rattle.mc_insts.specs.declared.insts.Insts.{Insts}
use Rattle.mc_insts.specs.Defining.{Defined}
use Rattle.mc_insts.specs.Graphs.{graph_of, count_of}
use Rattle.mc_insts.specs.Kept.{AreOf}
use Rattle.mc_procs.specs.Procedures.{PlainProcs}
use Rattle.mc_self_check.specs.HasLibrary.{HasLibrary}
use Rattle.mc_modes.specs.Numbering.{mode_ids, IsNumbered}
use Rattle.mc_modes.specs.NormalGoals.{AreNormal}
use Rattle.mc_modes.specs.Outcomes.{GrownFrom, ModesGive}
use Rattle.mc_modes.specs.declared.modes.ModeId.{ModeId}
use Rattle.mc_modes.specs.declared.ordering.Orders.{Orders}
use Rattle.mc_modes.specs.declared.ordering.Orders.TheVariants as O
use Rattle.mc_accepted.specs.NormalGoals.{HasNormalGoals}
use Rattle.mc_accepted.specs.InstRules.{PlainInstDef}
use Rattle.mc_model.specs.Insts.{Graph}
use Rattle.mc_analysis.specs.Untidy.{AreUntidy}
use Rattle.mc_analysis.specs.Premises.{HasInsts, InitialProcedures, Preconditions, TellNumbers, GoalsFitModes}
use Rattle.mc_analysis.specs.Rules.{Ordered, AnalysisGives, break_no_rule, break_modes, break_determinism}
use Rattle.mc_analysis.specs.code.Judged.{ByDeterminism}
use Rattle.mc_analysis.specs.declared.rules.AnalysisResult.{AnalysisResult}
use Rattle.mc_analysis.specs.declared.rules.AnalysisResult.TheVariants as R

pub none_listed : {A : Type 0} (xs : List A) (n : ℕ) → n ≡ length xs → true ≡ (n == 0) → xs ≡ []
none_listed [] n e t = refl
none_listed (x ∷ xs) n e t = absurd (true≢false (t ∙ ap (λ k. k == 0) e ∙ eqb-suc-zero (length xs)))

pub some_listed : {A : Type 0} (xs : List A) (n : ℕ) → n ≡ length xs → false ≡ (n == 0) → xs ≡ [] → ⊥
some_listed [] n e t h = true≢false (sym (t ∙ ap (λ k. k == 0) e))
some_listed (x ∷ xs) n e t h = cc

pub if_ok : {T E : Type 0} (r : Result T E) (P Q : T → Type 0) → IfOk r P → ((x : T) → P x → Q x) → IfOk r Q
if_ok (Ok x) P Q h f = f x h
if_ok (Err e) P Q h f = tt

pub begins : (P : Program) (ds : List PlainInstDef) (sigs : List Sig) (untidy : List Broken) (insts : Insts) (q : PlainProcs) → q ≡ record { program = P; insts = insts; preds = map (λ (m : ModeId). m.pred) (mode_ids P sigs); added = [] } → HasLibrary P → HasInsts P ds insts → AreUntidy (plain_program P) (graph_of insts) sigs untidy → InitialProcedures P ds sigs untidy q
begins P ds sigs untidy insts q e library has told =
    subst (λ (r : PlainProcs). InitialProcedures P ds sigs untidy r) (sym e)
    (record { program = refl; library = library; insts = has; told = told; preds = refl; none = refl })

-- insts that only know more types
pub insts_on : (P : Program) (ds : List PlainInstDef) (I J : Insts) → AreOf (plain_program P) J → graph_of J ≡ graph_of I → count_of J ≡ count_of I → HasInsts P ds I → HasInsts P ds J
insts_on P ds I J are graph count has =
    record {
      are_of = are;
      nodes = has.nodes;
      defined = subst (λ (G : Graph). Defined ds 4 G has.nodes) (sym graph) has.defined;
      count = count ∙ has.count;
    }

pub are_normal : (q : PlainProcs) (sigs : List Sig) (goals : List Normal) → HasNormalGoals q.program goals → GoalsFitModes q sigs goals → AreNormal q sigs goals
are_normal q sigs goals h f =
    record {
      as_many = h.as_many;
      each = λ p lt none. record {
        pred = (h.each p lt).pred;
        head = (h.each p lt).head;
        body = (h.each p lt).body;
        fits = f p lt none;
      };
    }

pub are_numbered : (q : PlainProcs) (sigs : List Sig) → q.preds ≡ map (λ (m : ModeId). m.pred) (mode_ids q.program sigs) → TellNumbers q sigs → IsNumbered q sigs
are_numbered q sigs preds t = record { preds = preds; procs = t }

-- where a program's procedures begin, the program is theirs
module _ (P : Program) (ds : List PlainInstDef) (sigs : List Sig) (q : PlainProcs) (b : InitialProcedures P ds sigs [] q) where
  pub begins_itself : InitialProcedures q.program ds sigs [] q
  begins_itself = subst (λ (X : Program). InitialProcedures X ds sigs [] q) (sym b.program) b

  pub goals_there : (goals : List Normal) → HasNormalGoals P goals → HasNormalGoals q.program goals
  goals_there goals h = subst (λ (X : Program). HasNormalGoals X goals) (sym b.program) h

  pub comes : (goals : List Normal) (exported : List Bool) (runs : Bool) (r : AnalysisResult) → AnalysisGives q.program ds sigs goals exported runs r → AnalysisGives P ds sigs goals exported runs r
  comes goals exported runs r c = subst (λ (X : Program). AnalysisGives X ds sigs goals exported runs r) b.program c

module _ (P : Program) (ds : List PlainInstDef) (sigs : List Sig) (goals : List Normal) (exported : List Bool) (runs : Bool) (first : PlainProcs) (begun : InitialProcedures P ds sigs [] first) where
  -- what is said of goals that were put in order
  ordering : {orders : Orders} {last : PlainProcs} → Preconditions first sigs goals exported → ModesGive sigs goals exported first last orders → GrownFrom first last → Ordered P ds sigs goals exported orders last
  ordering asked became grown =
      record { first = first; begins = begun; asked = asked; became = became; grown = grown }

  pub all_ordered : (ordered : PlainProcs) (ruled : AnalysisResult) → Preconditions first sigs goals exported → ModesGive sigs goals exported first ordered O.All → GrownFrom first ordered → ByDeterminism runs ordered ruled → AnalysisGives P ds sigs goals exported runs ruled
  all_ordered ordered (R.Procs last) asked became grown d =
      break_no_rule (ordering asked became grown) d.0 d.1 d.2
  all_ordered ordered (R.Broken list) asked became grown d =
      break_determinism (ordering asked became grown) d.1 d.2 d.4 d.3

  pub modes_broken : (last : PlainProcs) (list : Vec Broken Global) → Preconditions first sigs goals exported → ModesGive sigs goals exported first last (O.Broken list) → GrownFrom first last → AnalysisGives P ds sigs goals exported runs (R.Broken list)
  modes_broken last list asked became grown = break_modes (ordering asked became grown)
