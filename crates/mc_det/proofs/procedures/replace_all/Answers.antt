use Rattle.std.proofs.Common.{◌≡◌, ◌-◌, ◌++◌, ◌∷◌, [], List, length, length-append, get_or, set, drop, sym, ap, ◌∙◌, arith}
use Rattle.std.proofs.lemmas.List.{length-set}
use Rattle.mc_model.specs.declared.sched.Proc.{Proc}
use Rattle.mc_procs.specs.Procedures.{PlainProcs, with_procs}
use Rattle.mc_det.proofs.Replacing.{stand_before, last_pred, last_fits, there, one_put}
use Rattle.mc_det.proofs.procedures.replace_all.Goals as goal

pub overflow_sub-k : goal.overflow_sub-k
overflow_sub-k c = omega (arith, ap length c.in-Some.ensures, length-append c.last_of.new.procs.items (c.in-Some.p ∷ []), c.loop-p.invariant.number)

pub replace-requires : goal.replace-requires
replace-requires c =
    let q : PlainProcs = c.args.procs.now in
    let ps : List Proc = c.last_of.new.procs.items in
    let rs : List Proc = c.loop-p.left.items in
    let p : Proc = c.in-Some.p in
    let inv = c.loop-p.invariant in
    let e : rs ≡ ps ++ p ∷ [] = c.in-Some.ensures in
    let n : length ps ≡ c.loop-p.k - 1 = omega (arith, ap length e, length-append ps (p ∷ []), inv.number) in
    record {
      there = omega (arith, n, there ps rs c.loop-p.procs.added c.args.marked.items p e inv.whole (c.requires.count ∙ sym inv.count));
      pred =
          last_pred q ps rs p e inv.stand
          ∙ ap (λ i. get_or q.preds i 0) n
          ∙ ap (λ (v : PlainProcs). get_or v.preds (c.loop-p.k - 1) 0) (sym inv.others);
      fits = last_fits q c.loop-p.procs ps rs c.loop-p.procs.added p inv.others e inv.stand;
    }

pub loop-p-preserved : goal.loop-p-preserved
loop-p-preserved c =
    let q : PlainProcs = c.args.procs.now in
    let ps : List Proc = c.last_of.new.procs.items in
    let rs : List Proc = c.loop-p.left.items in
    let p : Proc = c.in-Some.p in
    let inv = c.loop-p.invariant in
    let e : rs ≡ ps ++ p ∷ [] = c.in-Some.ensures in
    let n : length ps ≡ c.loop-p.k - 1 = omega (arith, ap length e, length-append ps (p ∷ []), inv.number) in
    let set_is = c.replace.ensures.new in
    record {
      others =
          set_is
          ∙ ap (λ (v : PlainProcs). with_procs v (set c.loop-p.procs.added (c.loop-p.k - 1) p)) inv.others
          ∙ ap (with_procs q) (sym (ap (λ (v : PlainProcs). v.added) set_is));
      count = ap (λ (v : PlainProcs). length v.added) set_is ∙ length-set c.loop-p.procs.added (c.loop-p.k - 1) p ∙ inv.count;
      number = sym n;
      stand = stand_before q ps rs p e inv.stand;
      whole =
          ap (λ (v : PlainProcs). ps ++ drop (length ps) v.added) set_is
          ∙ ap (λ i. ps ++ drop (length ps) (set c.loop-p.procs.added i p)) (sym n)
          ∙ one_put ps rs c.loop-p.procs.added c.args.marked.items p e (there ps rs c.loop-p.procs.added c.args.marked.items p e inv.whole (c.requires.count ∙ sym inv.count)) inv.whole;
    }
