-- All fit after each change.
use Rattle.std.proofs.Common.{◌≡◌, ℕ, zero, suc, ◌+◌, ◌<◌, ◌≤◌, List, [], ◌∷◌, ◌++◌, length, get_or, set, refl, sym, ap, subst, arith, length-append}
use Rattle.std.proofs.lemmas.List.{length-set}
use Rattle.mc_program.specs.Programs.{Source}
use Rattle.mc_program.specs.declared.program.Program.{Program}
use Rattle.mc_model.specs.Scheduled.{Procedure}
use Rattle.mc_model.specs.PlainGoals.{plain_proc}
use Rattle.mc_model.specs.declared.sched.Proc.{Proc}
use Rattle.mc_accepted.specs.Inclusion.{Allows}
use Rattle.mc_accepted.specs.Tidy.{Tidy}
use Rattle.mc_insts.specs.declared.insts.Insts.{Insts}
use Rattle.mc_insts.specs.Graphs.{graph_of, count_of}
use Rattle.mc_insts.specs.Growing.{Grown}
use Rattle.mc_insts.specs.Kept.{AreOf}
use Rattle.mc_procs.specs.Procedures.{PlainProcs, source_of, procedure_at, with_procs, with_insts, with_proc}
use Rattle.mc_procs.specs.Fitting.{ProgramFits, bounds_of, ProcedureFits, AllFit, SystemFits}
use Rattle.mc_insts.proofs.Found.{by_order}
use Rattle.mc_procs.proofs.Growing.{each_tidy_grown}
use Rattle.mc_procs.proofs.Naming.{numbers_more, named_more}

-- other procedures beside it
beside : (q : PlainProcs) (ps : List Proc) (p : Procedure) → ProcedureFits q p → ProcedureFits (with_procs q ps) p
beside q ps p f =
    record {
      head = f.head;
      first = f.first;
      last = f.last;
      body = f.body;
      fits = λ outcome.
          let g = f.fits outcome in
          record {
            heads = g.heads;
            scopes = g.scopes;
            types = g.types;
            head_types = g.head_types;
            typed = g.typed;
            tidy = g.tidy;
            no_builtin = g.no_builtin;
          };
    }

-- no procedures came yet
pub none_came : (program : Program) (insts : Insts) (preds : List ℕ) → ProgramFits program insts → AllFit (record { program = program; insts = insts; preds = preds; added = [] })
none_came program insts preds f =
    record {
      program = f;
      fewer = omega arith;
      preds = λ k lt. absurd (omega arith);
      each = λ k lt. absurd (omega arith);
    }

at_before : (ps : List Proc) (p : Proc) (k : ℕ) → k < length ps → procedure_at (ps ++ p ∷ []) k ≡ procedure_at ps k
at_before [] p k h = absurd (omega arith)
at_before (x ∷ ps) p zero h = refl
at_before (x ∷ ps) p (suc k) h = at_before ps p k (omega arith)

at_end : (ps : List Proc) (p : Proc) → procedure_at (ps ++ p ∷ []) (length ps) ≡ plain_proc p
at_end [] p = refl
at_end (x ∷ ps) p = at_end ps p

at_set : (ps : List Proc) (p : Proc) (k : ℕ) → k < length ps → procedure_at (set ps k p) k ≡ plain_proc p
at_set [] p k h = absurd (omega arith)
at_set (x ∷ ps) p zero h = refl
at_set (x ∷ ps) p (suc k) h = at_set ps p k (omega arith)

at_other : (ps : List Proc) (p : Proc) (k j : ℕ) → (j ≡ k → ⊥) → procedure_at (set ps k p) j ≡ procedure_at ps j
at_other [] p k j n = refl
at_other (x ∷ ps) p zero zero n = absurd (n refl)
at_other (x ∷ ps) p zero (suc j) n = refl
at_other (x ∷ ps) p (suc k) zero n = refl
at_other (x ∷ ps) p (suc k) (suc j) n = at_other ps p k j (λ e. n (ap suc e))

-- what holds of each procedure of a list
abbrev Stands : PlainProcs → ℕ → Procedure → Type 0
Stands q k p = (p.pred ≡ get_or q.preds k 0) × ProcedureFits q p

all_of : (q : PlainProcs) → ProgramFits q.program q.insts → length q.added ≤ length q.preds → ((k : ℕ) → k < length q.added → Stands q k (procedure_at q.added k)) → AllFit q
all_of q f le h = record { program = f; fewer = le; preds = λ k lt. (h k lt).0; each = λ k lt. (h k lt).1 }

stood : (q : PlainProcs) (ps : List Proc) → AllFit q → (k : ℕ) → k < length q.added → Stands (with_procs q ps) k (procedure_at q.added k)
stood q ps a k lt = (a.preds k lt, beside q ps (procedure_at q.added k) (a.each k lt))

pub one_came : (q : PlainProcs) (p : Proc) → AllFit q → length q.added < length q.preds → p.pred ≡ get_or q.preds (length q.added) 0 → ProcedureFits q (plain_proc p) → AllFit (with_proc q p)
one_came q p a lt e f =
    let l : length (q.added ++ p ∷ []) ≡ length q.added + 1 = length-append q.added (p ∷ []) in
    all_of r a.program (omega arith)
    (λ k h.
    by_order k (length q.added)
    (λ before. subst (Stands r k) (sym (at_before q.added p k before)) (stood q (q.added ++ p ∷ []) a k before))
    (λ (last : k ≡ length q.added).
    subst (λ n. Stands r n (procedure_at r.added n)) (sym last)
    (subst (Stands r (length q.added)) (sym (at_end q.added p)) (e, beside q (q.added ++ p ∷ []) (plain_proc p) f)))
    (λ past. absurd (omega arith)))
  where
    r : PlainProcs
    r = with_proc q p

pub one_replaced : (q : PlainProcs) (p : Proc) (k : ℕ) → AllFit q → k < length q.added → p.pred ≡ get_or q.preds k 0 → ProcedureFits q (plain_proc p) → AllFit (with_procs q (set q.added k p))
one_replaced q p k a lt e f =
    let l : length (set q.added k p) ≡ length q.added = length-set q.added k p in
    let le = a.fewer in
    all_of r a.program (omega arith)
    (λ j h.
    by_order j k
    (λ before. other j h (λ (x : j ≡ k). absurd (omega arith)))
    (λ (here : j ≡ k).
    subst (λ n. Stands r n (procedure_at r.added n)) (sym here)
    (subst (Stands r k) (sym (at_set q.added p k lt)) (e, beside q (set q.added k p) (plain_proc p) f)))
    (λ past. other j h (λ (x : j ≡ k). absurd (omega arith))))
  where
    r : PlainProcs
    r = with_procs q (set q.added k p)

    other : (j : ℕ) → j < length (set q.added k p) → (j ≡ k → ⊥) → Stands (with_procs q (set q.added k p)) j (procedure_at (set q.added k p) j)
    other j h n =
        let l : length (set q.added k p) ≡ length q.added = length-set q.added k p in
        subst (Stands (with_procs q (set q.added k p)) j) (sym (at_other q.added p k j n)) (stood q (set q.added k p) a j (omega arith))

-- a grown graph
grown_fits : (q : PlainProcs) (insts : Insts) → AreOf (source_of q) q.insts → Grown (source_of q) q.insts insts → (p : Procedure) → ProcedureFits q p → ProcedureFits (with_insts q insts) p
grown_fits q insts of grown p f =
    record {
      head = f.head;
      first = numbers_more (count_of q.insts) (count_of insts) grown.more p.first f.first;
      last = numbers_more (count_of q.insts) (count_of insts) grown.more p.last f.last;
      body = named_more (bounds_of q p) (count_of insts) grown.more p.body f.body;
      fits = λ outcome.
          let g = f.fits outcome in
          record {
            heads = g.heads;
            scopes = g.scopes;
            types = g.types;
            head_types = g.head_types;
            typed = g.typed;
            tidy = (
              each_tidy_grown (source_of q) q.insts insts of grown p.first _ f.first g.tidy.0,
              each_tidy_grown (source_of q) q.insts insts of grown p.last _ f.last g.tidy.1,
            );
            no_builtin = g.no_builtin;
          };
    }

pub insts_grew : (q : PlainProcs) (insts : Insts) → AllFit q → AreOf (source_of q) insts → Grown (source_of q) q.insts insts → AllFit (with_insts q insts)
insts_grew q insts a of grown =
    record {
      program = record { insts_are = of; types = a.program.types };
      fewer = a.fewer;
      preds = a.preds;
      each = λ k lt. grown_fits q insts a.program.insts_are grown (procedure_at q.added k) (a.each k lt);
    }

-- where the graph is the same, nothing is new
pub same_graph : (P : Source) (I J : Insts) → graph_of J ≡ graph_of I → count_of J ≡ count_of I → Grown P I J
same_graph P I J e c =
    record {
      more = omega arith;
      same = λ i lt. ap (λ g. g i) e;
      meaning = λ i lt path tip t. (
        λ a. subst (λ g. Allows P g path tip i t) (sym e) a,
        λ a. subst (λ g. Allows P g path tip i t) e a,
      );
      tidy = λ i lt t. (λ a. subst (λ g. Tidy P g i t) (sym e) a, λ a. subst (λ g. Tidy P g i t) e a);
    }

-- what a system has of these
pub system_fits : (q : PlainProcs) → AllFit q → SystemFits q
system_fits q a outcome builtins io =
    record {
      insts = a.program.insts_are.insts;
      types = a.program.types;
      builtins = builtins;
      io = io;
      procedures = λ k lt. (a.each k lt).fits outcome;
    }

-- the same, where what is asked is said of a value that is this one
pub added_after : (q v : PlainProcs) (p : Proc) (ps : List Proc) → q ≡ v → AllFit q → length v.added < length v.preds → p.pred ≡ get_or v.preds (length v.added) 0 → ProcedureFits v (plain_proc p) → ps ≡ q.added ++ p ∷ [] → AllFit (with_procs q ps)
added_after q v p ps e a lt i f is =
    subst (λ l. AllFit (with_procs q l)) (sym is)
    (subst (λ w. AllFit (with_proc w p)) (sym e) (one_came v p (subst AllFit e a) lt i f))

pub replaced_after : (q v : PlainProcs) (p r : Proc) (k : ℕ) → q ≡ v → AllFit q → k < length v.added → p.pred ≡ get_or v.preds k 0 → ProcedureFits v (plain_proc p) → r ≡ p → AllFit (with_procs q (set q.added k r))
replaced_after q v p r k e a lt i f is =
    subst (λ x. AllFit (with_procs q (set q.added k x))) (sym is)
    (subst (λ w. AllFit (with_procs w (set w.added k p))) (sym e) (one_replaced v p k (subst AllFit e a) lt i f))
