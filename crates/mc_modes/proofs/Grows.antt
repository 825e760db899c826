-- Procedures and a graph that grow.
use Rattle.std.proofs.Common.{◌≡◌, ◌<◌, ◌≤◌, ℕ, List, [], ◌∷◌, length, refl, sym, ap, subst, ◌∙◌}
use Rattle.mc_program.specs.PlainPrograms.{plain_program}
use Rattle.mc_program.specs.declared.program.Program.{Program}
use Rattle.mc_model.specs.declared.inst.ModeDecl.{ModeDecl}
use Rattle.mc_model.specs.declared.inst.Sig.{Sig}
use Rattle.mc_model.specs.declared.sched.Proc.{Proc}
use Rattle.mc_model.specs.declared.flat.Normal.{Normal}
use Rattle.mc_model.specs.PlainGoals.{plain_flat}
use Rattle.mc_accepted.specs.Normal.{normal_goal}
use Rattle.mc_insts.specs.Growing.{Grown}
use Rattle.mc_insts.specs.Graphs.{count_of}
use Rattle.mc_procs.specs.Procedures.{PlainProcs, source_of, with_insts, with_proc}
use Rattle.mc_procs.proofs.Fits.{same_graph}
use Rattle.mc_procs.proofs.Naming.{numbers_more}
use Rattle.mc_mode_state.specs.Modes.{ModesFit}
use Rattle.mc_mode_state.proofs.Found.{grown-refl, grown-trans}
use Rattle.mc_modes.specs.Fitting.{Known}
use Rattle.mc_modes.specs.Signatures.{modes_at, mode_in, SigsFit}
use Rattle.mc_modes.specs.Schedules.{NormalFits}
use Rattle.mc_modes.specs.Numbering.{IsMode}
use Rattle.mc_modes.specs.NormalGoals.{goal_at, IsNormal, AreNormal}
use Rattle.mc_modes.specs.Outcomes.{GrownFrom}
use Rattle.mc_modes.specs.code.Steps.{IsBody, CanTry, SameGraph}
use Rattle.mc_modes.specs.declared.modes.ModeId.{ModeId}

pub grown_none : (q : PlainProcs) → GrownFrom q q
grown_none q = record { program = refl; preds = refl; grown = grown-refl (source_of q) q.insts }

pub grown_then : (q r s : PlainProcs) → GrownFrom q r → GrownFrom r s → GrownFrom q s
grown_then q r s g h =
    record {
      program = h.program ∙ g.program;
      preds = h.preds ∙ g.preds;
      grown = grown-trans (source_of q) q.insts r.insts s.insts g.grown
          (subst (λ (P : Program). Grown (plain_program P) r.insts s.insts) g.program h.grown);
    }

pub grown_by : (q r : PlainProcs) → r ≡ with_insts q r.insts → Grown (source_of q) q.insts r.insts → GrownFrom q r
grown_by q r e g =
    record {
      program = ap (λ (s : PlainProcs). s.program) e;
      preds = ap (λ (s : PlainProcs). s.preds) e;
      grown = g;
    }

pub grown_same : (q r : PlainProcs) → SameGraph q r → GrownFrom q r
grown_same q r s = grown_by q r s.others (same_graph (source_of q) q.insts r.insts s.graph s.count)

pub grown_added : (q : PlainProcs) (p : Proc) → GrownFrom q (with_proc q p)
grown_added q p = record { program = refl; preds = refl; grown = grown-refl (source_of q) q.insts }

modes_more : (n m : ℕ) (ms : List ModeDecl) → n ≤ m → ModesFit n ms → ModesFit m ms
modes_more n m [] h w = tt
modes_more n m (d ∷ ms) h w = (
  record {
    as_many = w.0.as_many;
    first = numbers_more n m h d.first w.0.first;
    last = numbers_more n m h d.last w.0.last;
  },
  modes_more n m ms h w.1,
)

-- a goal that may be tried in a mode
pub can_try : (sigs : List Sig) (goals : List Normal) (first q : PlainProcs) (id : ModeId) (g : Normal) → g ≡ goal_at goals id.pred → SigsFit (count_of first.insts) sigs → AreNormal first sigs goals → GrownFrom first q → IsMode first.program sigs id → CanTry sigs id.mode q g
can_try sigs goals first q id g is fit normal grown m =
    let n : IsNormal first sigs id.pred g = subst (λ (x : Normal). IsNormal first sigs id.pred x) (sym is) (normal.each id.pred m.pred m.no_builtin) in
    let f : NormalFits first (mode_in sigs id.pred id.mode) g = n.fits id.mode m.mode in
    record {
      sigs_fit = λ p. modes_more (count_of first.insts) (count_of q.insts) (modes_at sigs p) grown.grown.more (fit p);
      there = subst (λ p. p < length q.program.preds) (sym n.pred)
          (subst (λ (P : Program). id.pred < length P.preds) (sym grown.program) m.pred);
      mode = subst (λ p. id.mode < length (modes_at sigs p)) (sym n.pred) m.mode;
      fits = subst (λ p. NormalFits q (mode_in sigs p id.mode) g) (sym n.pred)
          (record {
            head = f.head;
            as_many = f.as_many;
            variables = f.variables;
            known = subst (λ (P : Program). Known P (plain_flat g.body)) (sym grown.program) f.known;
          });
      body = subst (λ p. IsBody q (record g { pred = p })) (sym n.pred)
          (subst (λ (P : Program). plain_flat g.body ≡ (normal_goal (length ((plain_program P).preds id.pred).types) ((plain_program P).preds id.pred).clauses).body) (sym grown.program) n.body);
    }
