-- Procedures whose bodies come into switch form, one after another.
use Rattle.std.proofs.Common.{◌≡◌, ℕ, zero, suc, ◌<◌, List, [], ◌∷◌, length, get_or, set, map, Bool, false, refl, sym, ap, ◌∙◌, subst}
use Rattle.std.proofs.lemmas.List.{set-set, set-get_or, length-set, get_or-set_same, length-map}
use Rattle.mc_program.specs.PlainPrograms.{plain_type}
use Rattle.mc_program.specs.Programs.{Source}
use Rattle.mc_program.specs.declared.ty.Ty.{Ty}
use Rattle.mc_source.specs.Determinism.{inferred, det}
use Rattle.mc_model.specs.Scheduled.{node, Conj, no_nodes}
use Rattle.mc_model.specs.PlainGoals.{plain_node, plain_proc}
use Rattle.mc_model.specs.Good.{System}
use Rattle.mc_model.specs.declared.sched.GoalNode.{GoalNode}
use Rattle.mc_model.specs.declared.sched.Proc.{Proc}
use Rattle.mc_accepted.specs.Accepted.{entered}
use Rattle.mc_insts.specs.Graphs.{count_of}
use Rattle.mc_insts.specs.Growing.{Grown}
use Rattle.mc_procs.specs.Named.{Named}
use Rattle.mc_procs.specs.Fitting.{AllFit, ProcedureFits, bounds_of}
use Rattle.mc_procs.specs.Procedures.{PlainProcs, source_of, insts_of, with_insts, with_procs}
use Rattle.mc_procs.specs.VariableTypes.{type_in}
use Rattle.mc_mode_state.specs.Nodes.{StoodFor}
use Rattle.mc_mode_state.specs.Tables.{Entry}
use Rattle.mc_mode_state.proofs.Found.{stood-grown}
use Rattle.mc_det.specs.code.Marks.{AllStand}
use Rattle.mc_det.specs.code.Walks.{bounds_in}
use Rattle.mc_det.proofs.Declaring.{procedure_is, some_inst, entered_below}
use Rattle.mc_det.proofs.Replacing.{with_another, all_may_stand}
use Rattle.mc_switch.specs.Kept.{Suits, AreMerged, OnlyGrew, kept_by, has_no_answer, never_answers}
use Rattle.mc_switch.specs.SwitchedBodies.{IsForm, IsSwitched, Switches}
use Rattle.mc_switch.proofs.Growing.{suits_before}
use Rattle.mc_switch.proofs.MergedInsts.{there_still}
use Rattle.mc_switch.proofs.FormNamed.{form_named, kept_is_named}
use Rattle.mc_switch.proofs.Suiting.{some_system, some_suits}
use Rattle.mc_switch.proofs.Walking.{named_grown}

pub merged_later : (q r : PlainProcs) (types : List Ty) (N : List Entry) → OnlyGrew q r → AreMerged q types N → AreMerged r types N
merged_later q r types N grew are x k is some =
    subst (λ (P : Source). StoodFor P r.insts is k (type_in types x)) (sym (ap source_of grew.others))
    (stood-grown (source_of q) q.insts r.insts is k (type_in types x) grew.grown (are x k is some))

pub form_later : (q r : PlainProcs) (p : Proc) (body : GoalNode) → OnlyGrew q r → IsForm q p body → IsForm r p body
form_later q r p body grew h = record {
  found = h.found;
  merged = merged_later q r p.var_types h.found grew h.merged;
  form = λ S M suits later. h.form S M (suits_before q r S grew suits) later;
}

pub switched_later : (q r : PlainProcs) (p s : Proc) → OnlyGrew q r → IsSwitched q p s → IsSwitched r p s
switched_later q r p s grew h = record { others = h.others; form = form_later q r p s.body grew h.form }

-- ---- another procedure of the same declaration stands in the place of one
answers_kept : (ps : List Proc) (k : ℕ) (x d : Proc) → x.declared ≡ (get_or ps k d).declared → map (λ (p : Proc). has_no_answer p.declared) (set ps k x) ≡ map (λ (p : Proc). has_no_answer p.declared) ps
answers_kept [] k x d e = refl
answers_kept (p ∷ ps) zero x d e = ap (λ o. has_no_answer o ∷ map (λ (p : Proc). has_no_answer p.declared) ps) e
answers_kept (p ∷ ps) (suc k) x d e = ap (λ (bs : List Bool). has_no_answer p.declared ∷ bs) (answers_kept ps k x d e)

module _ (q : PlainProcs) (k : ℕ) (p stub : Proc) (is : p ≡ get_or q.added k p) (same : stub ≡ record p { body = stub.body }) where
  abbrev pub meanwhile : PlainProcs
  meanwhile = with_procs q (set q.added k stub)

  -- it may stand there
  pub stub_fits : ProcedureFits q (plain_proc p) → plain_node stub.body ≡ node (Conj no_nodes) [] (inferred det) false → ProcedureFits q (plain_proc stub)
  stub_fits f empty =
      subst (ProcedureFits q) (sym (ap plain_proc same))
      (with_another q (plain_proc p) (plain_node stub.body) p.det f
      (subst (Named (bounds_of q (plain_proc p))) (sym empty) (tt, tt)))

  -- the graph grew meanwhile, and the procedure comes back
  module _ (lt : k < length q.added) (r s : PlainProcs) (grew : OnlyGrew meanwhile r) (back : s ≡ with_procs r (set r.added k p)) where
    added_is : r.added ≡ set q.added k stub
    added_is = ap (λ (v : PlainProcs). v.added) grew.others

    added_again : set r.added k p ≡ q.added
    added_again =
        ap (λ (ps : List Proc). set ps k p) added_is
        ∙ set-set q.added k stub p
        ∙ ap (set q.added k) is
        ∙ set-get_or q.added k p

    pub back_grew : OnlyGrew q s
    back_grew = record {
      others =
          back
          ∙ ap (with_procs r) added_again
          ∙ ap (λ (v : PlainProcs). with_procs v q.added) grew.others
          ∙ ap (with_insts q) (sym (ap (λ (v : PlainProcs). v.insts) back));
      grown = subst (λ i. Grown (source_of q) q.insts i) (sym (ap (λ (v : PlainProcs). v.insts) back)) grew.grown;
    }

    stub_declared : stub.declared ≡ (get_or q.added k p).declared
    stub_declared = ap (λ (x : Proc). x.declared) same ∙ ap (λ (x : Proc). x.declared) is

    suits_meanwhile : (S : System) → Suits s S → Suits r S
    suits_meanwhile S h = record {
      source = h.source ∙ ap source_of back;
      insts = subst (λ (v : PlainProcs). (i : ℕ) → i < count_of v.insts → S.insts i ≡ insts_of v i) back h.insts;
      never = λ j.
          h.never j
          ∙ ap (λ (v : PlainProcs). never_answers v.added j) back
          ∙ ap (λ (ps : List Proc). never_answers ps j) added_again
          ∙ ap (λ (bs : List Bool). get_or bs j false) (sym (answers_kept q.added k stub p stub_declared))
          ∙ ap (λ (ps : List Proc). never_answers ps j) (sym added_is);
    }

    pub form_back : (before : Proc) (body : GoalNode) → IsForm r before body → IsForm s before body
    form_back before body h = record {
      found = h.found;
      merged = subst (λ (v : PlainProcs). AreMerged v before.var_types h.found) (sym back) h.merged;
      form = λ S M suits later. h.form S M (suits_meanwhile S suits) later;
    }

    -- the procedure fits where it comes back
    pub comes_back : ProcedureFits q (plain_proc p) → AllFit r → ProcedureFits r (plain_proc p)
    comes_back f a =
        let many : k < length r.added = subst (λ n. k < n) (sym (ap length added_is ∙ length-set q.added k stub)) lt in
        let placed : get_or r.added k stub ≡ stub = ap (λ (ps : List Proc). get_or ps k stub) added_is ∙ get_or-set_same q.added k stub stub lt in
        let g : ProcedureFits r (plain_proc stub) = subst (ProcedureFits r) (procedure_is r.added k stub many ∙ ap plain_proc placed) (a.each k many) in
        let again : record stub { body = p.body } ≡ p = ap (λ (x : Proc). record x { body = p.body }) same in
        let types : stub.var_types ≡ p.var_types = ap (λ (x : Proc). x.var_types) same in
        let n = length (map plain_type p.var_types) in
        let here : Named (bounds_in r n) (plain_node p.body) = named_grown meanwhile r n grew (plain_node p.body) f.body in
        subst (ProcedureFits r) (ap plain_proc again)
        (with_another r (plain_proc stub) (plain_node p.body) stub.det g (subst (λ (ts : List Ty). Named (bounds_in r (length (map plain_type ts))) (plain_node p.body)) (sym types) here))

-- ---- a procedure in switch form fits
pub switched_fits : (q : PlainProcs) (p r : Proc) → AllFit q → IsSwitched q p r → ProcedureFits q (plain_proc p) → ProcedureFits q (plain_proc r)
switched_fits q p r a m f =
    let P = plain_proc p in
    let B = bounds_of q P in
    let S = some_system q in
    let T = type_in p.var_types in
    let form = m.form in
    let found = form.found in
    subst (ProcedureFits q) (sym (ap plain_proc m.others))
    (with_another q P (plain_node r.body) p.det f
    (subst (Named B) (sym (form.form S found (some_suits q) (λ x k is e. e)))
    (form_named B S T (kept_by S T found (length p.var_types))
    (λ b c below ds h. kept_is_named B found (λ x k is e. there_still q p.var_types found x k is form.merged e) (some_inst q a) S T (length p.var_types) (sym (length-map p.var_types plain_type)) b c below ds h)
    (entered P.head P.first) P.body
    (λ x. entered_below (count_of q.insts) P.head P.first x (some_inst q a) f.first)
    f.body)))

pub all_switched_stand : (q : PlainProcs) (ps : List Proc) (was : List Proc) → was ≡ q.added → AllFit q → length ps ≡ length was → ((k : ℕ) (d : Proc) → k < length was → IsSwitched q (get_or was k d) (get_or ps k d)) → AllStand q ps
all_switched_stand q ps was e a count m =
    all_may_stand q ps a (count ∙ ap length e)
    (λ k d lt.
    let is : IsSwitched q (get_or q.added k d) (get_or ps k d) = subst (λ (l : List Proc). IsSwitched q (get_or l k d) (get_or ps k d)) e (m k d (subst (λ (l : List Proc). k < length l) (sym e) lt)) in
    (ap (λ (s : Proc). s.pred) is.others, switched_fits q (get_or q.added k d) (get_or ps k d) a is))

pub procs_switched : (q r s : PlainProcs) (ps : List Proc) → OnlyGrew q r → s ≡ with_procs r ps → length ps ≡ length q.added → ((k : ℕ) (d : Proc) → k < length q.added → IsSwitched r (get_or q.added k d) (get_or ps k d)) → Switches q s
procs_switched q r s ps grew e count m =
    let insts = ap (λ (v : PlainProcs). v.insts) e in
    let added = ap (λ (v : PlainProcs). v.added) e in
    record {
      others =
          e
          ∙ ap (λ (v : PlainProcs). with_procs v ps) grew.others
          ∙ ap (λ i. with_procs (with_insts q i) ps) (sym insts)
          ∙ ap (with_procs (with_insts q s.insts)) (sym added);
      count = ap length added ∙ count;
      grown = subst (λ i. Grown (source_of q) q.insts i) (sym insts) grew.grown;
      switched = λ k d lt.
          subst (λ (l : List Proc). IsSwitched (with_insts q s.insts) (get_or q.added k d) (get_or l k d)) (sym added)
          (subst (λ (v : PlainProcs). IsSwitched v (get_or q.added k d) (get_or ps k d))
          (grew.others ∙ ap (with_insts q) (sym insts)) (m k d lt));
    }

-- a copy with another body
pub made_switched : (q : PlainProcs) (p x : Proc) (b : GoalNode) → x ≡ record p { body = b; det = p.det } → IsForm q p b → IsSwitched q p x
made_switched q p x b e is = record {
  others = e ∙ ap (λ (n : GoalNode). record p { body = n }) (ap (λ (y : Proc). y.body) (sym e));
  form = subst (IsForm q p) (sym (ap (λ (y : Proc). y.body) e)) is;
}
