-- Procedures with their marks, or with pruned bodies, fit as those before them do, and come into their places.
use Rattle.std.proofs.Common.{◌≡◌, ⊎_elim, ℕ, zero, suc, ◌+◌, ◌<◌, List, [], ◌∷◌, ◌++◌, length, get_or, set, drop, take, map, append_assoc, length-append, length-drop, Option, Some, None, refl, sym, ap, ◌∙◌, subst, arith}
use Rattle.std.proofs.lemmas.List.{map-append, take_more}
use Rattle.std.proofs.lemmas.Bool.{cases_eq}
use Rattle.mc_program.specs.Values.{Val}
use Rattle.mc_program.specs.declared.builtin.Builtin.{Builtin}
use Rattle.mc_source.specs.Determinism.{inferred, row_of, det, Allows}
use Rattle.mc_source.specs.declared.det.Det.{Det}
use Rattle.mc_model.specs.Outcomes.{Outcome, fails}
use Rattle.mc_model.specs.Scheduled.{Node, Procedure}
use Rattle.mc_model.specs.PlainGoals.{plain_node, plain_proc}
use Rattle.mc_model.specs.declared.sched.GoalNode.{GoalNode}
use Rattle.mc_model.specs.declared.sched.Proc.{Proc}
use Rattle.mc_accepted.specs.Accepted.{entered}
use Rattle.mc_accepted.specs.Determined.{nothing_known}
use Rattle.mc_accepted.specs.Fits.{type_of}
use Rattle.mc_accepted.specs.Inferred.{with_determinisms}
use Rattle.mc_procs.specs.Named.{Named}
use Rattle.mc_procs.specs.Fitting.{AllFit, ProcedureFits, bounds_of}
use Rattle.mc_procs.specs.Procedures.{PlainProcs, as_system, procedure_at, with_procs}
use Rattle.mc_det.specs.Determinisms.{declared_procedure}
use Rattle.mc_det.specs.MarkedProcedures.{IsMarked, where_determined}
use Rattle.mc_det.specs.Marked.{marked_body}
use Rattle.mc_det.specs.Pruned.{pruned_body}
use Rattle.mc_det.specs.PrunedProcedures.{FollowDeclared, IsPruned}
use Rattle.mc_det.specs.code.Marks.{under, AllStand}
use Rattle.mc_det.specs.code.Prunes.{InDeclared}
use Rattle.mc_det.specs.code.Walks.{InSystems}
use Rattle.mc_det.proofs.Declaring.{procedure_is}
use Rattle.mc_det.proofs.MarkedNames.{marked_named}
use Rattle.mc_det.proofs.PrunedNames.{pruned_named}

-- other procedures beside it
pub beside : (q : PlainProcs) (ps : List Proc) (p : Procedure) → ProcedureFits q p → ProcedureFits (with_procs q ps) p
beside q ps p f =
    record {
      head = f.head;
      first = f.first;
      last = f.last;
      body = f.body;
      fits = λ outcome.
          let g = f.fits outcome in
          record {
            heads = g.heads;
            scopes = g.scopes;
            types = g.types;
            head_types = g.head_types;
            typed = g.typed;
            tidy = g.tidy;
            no_builtin = g.no_builtin;
          };
    }

-- another body
pub with_another : (q : PlainProcs) (p : Procedure) (n : Node) (d : Det) → ProcedureFits q p → Named (bounds_of q p) n → ProcedureFits q (record p { body = n; det = d })
with_another q p n d f named =
    record {
      head = f.head;
      first = f.first;
      last = f.last;
      body = named;
      fits = λ outcome.
          let g = f.fits outcome in
          record {
            heads = g.heads;
            scopes = g.scopes;
            types = g.types;
            head_types = g.head_types;
            typed = g.typed;
            tidy = g.tidy;
            no_builtin = g.no_builtin;
          };
    }

-- whatever builtins do, as that all fail
abbrev pub all_fail : Builtin → List Val → Outcome
all_fail op vs = fails

pub marked_fits : (q : PlainProcs) (ds : List Det) (p r : Proc) → IsMarked q ds p r → ProcedureFits q (plain_proc p) → ProcedureFits q (plain_proc r)
marked_fits q ds p r m f =
    let S = where_determined all_fail q ds in
    let P = plain_proc p in
    subst (ProcedureFits q) (sym (ap plain_proc m.others))
    (with_another q P (plain_node r.body) r.det f
    (subst (Named (bounds_of q P)) (sym (m.body all_fail))
    (marked_named (bounds_of q P) S (type_of S P) (entered P.head P.first) nothing_known P.body f.body)))

-- determinisms that follow the declared ones
or_det : Option Det → Det
or_det None = inferred det
or_det (Some d) = d

abbrev declared_or_det : PlainProcs → ℕ → Det
declared_or_det q k = or_det (declared_procedure q.added k).declared

they_follow : (q : PlainProcs) → FollowDeclared q (declared_or_det q)
unfolding or_det
they_follow q =
    record {
      declared = λ k d e. ap or_det e;
      at_least_det = λ k e. subst (λ (d : Det). Allows (row_of d) det) (sym (ap or_det e)) ((λ h. h), omega arith);
      uncommitted = λ k e. ap (λ (d : Det). d.committed) (ap or_det e);
    }

pub pruned_fits : (q : PlainProcs) (p r : Proc) → IsPruned q p r → ProcedureFits q (plain_proc p) → ProcedureFits q (plain_proc r)
pruned_fits q p r m f =
    let S = with_determinisms (as_system all_fail q) (declared_or_det q) in
    let P = plain_proc p in
    subst (ProcedureFits q) (sym (ap plain_proc m.others))
    (with_another q P (plain_node r.body) p.det f
    (subst (Named (bounds_of q P)) (sym (m.body all_fail (declared_or_det q) (they_follow q)))
    (pruned_named (bounds_of q P) S (type_of S P) P.head (entered P.head P.first) P.body f.body)))

-- a procedure of a list
pub some_of : (ps : List Proc) (k : ℕ) → k < length ps → Proc
some_of [] k lt = absurd (omega arith)
some_of (p ∷ ps) k lt = p

-- a procedure that may stand where another one stood
abbrev pub MayStand : PlainProcs → Proc → Proc → Type 0
MayStand q p r =
    ((plain_proc r).pred ≡ (plain_proc p).pred)
    × (ProcedureFits q (plain_proc p) → ProcedureFits q (plain_proc r))

-- procedures with other bodies may stand where those before them stood
pub all_may_stand : (q : PlainProcs) (ps : List Proc) → AllFit q → length ps ≡ length q.added → ((k : ℕ) (e : Proc) → k < length q.added → MayStand q (get_or q.added k e) (get_or ps k e)) → AllStand q ps
all_may_stand q ps a count m =
    record {
      preds = λ k lt.
          let h : k < length q.added = omega arith in
          let d : Proc = some_of ps k lt in
          ap (λ (p : Procedure). p.pred) (procedure_is ps k d lt)
          ∙ (m k d h).0
          ∙ ap (λ (p : Procedure). p.pred) (sym (procedure_is q.added k d h))
          ∙ a.preds k h;
      each = λ k lt.
          let h : k < length q.added = omega arith in
          let d : Proc = some_of ps k lt in
          subst (ProcedureFits q) (sym (procedure_is ps k d lt))
          ((m k d h).1 (subst (ProcedureFits q) (procedure_is q.added k d h) (a.each k h)));
    }

-- the last of a list
at_before : (ps : List Proc) (p : Proc) (k : ℕ) → k < length ps → procedure_at (ps ++ p ∷ []) k ≡ procedure_at ps k
at_before [] p k h = absurd (omega arith)
at_before (x ∷ ps) p zero h = refl
at_before (x ∷ ps) p (suc k) h = at_before ps p k (omega arith)

at_end : (ps : List Proc) (p : Proc) → procedure_at (ps ++ p ∷ []) (length ps) ≡ plain_proc p
at_end [] p = refl
at_end (x ∷ ps) p = at_end ps p

pub stand_before : (q : PlainProcs) (ps rs : List Proc) (p : Proc) → rs ≡ ps ++ p ∷ [] → AllStand q rs → AllStand q ps
stand_before q ps rs p e s =
    let l : length (ps ++ p ∷ []) ≡ length ps + 1 = length-append ps (p ∷ []) in
    let t : AllStand q (ps ++ p ∷ []) = subst (AllStand q) e s in
    record {
      preds = λ k lt. ap (λ (r : Procedure). r.pred) (sym (at_before ps p k lt)) ∙ t.preds k (omega arith);
      each = λ k lt. subst (ProcedureFits q) (at_before ps p k lt) (t.each k (omega arith));
    }

pub last_pred : (q : PlainProcs) (ps rs : List Proc) (p : Proc) → rs ≡ ps ++ p ∷ [] → AllStand q rs → p.pred ≡ get_or q.preds (length ps) 0
last_pred q ps rs p e s =
    let l : length (ps ++ p ∷ []) ≡ length ps + 1 = length-append ps (p ∷ []) in
    let t : AllStand q (ps ++ p ∷ []) = subst (AllStand q) e s in
    ap (λ (r : Procedure). r.pred) (sym (at_end ps p)) ∙ t.preds (length ps) (omega arith)

pub last_fits : (q r : PlainProcs) (ps rs others : List Proc) (p : Proc) → r ≡ with_procs q others → rs ≡ ps ++ p ∷ [] → AllStand q rs → ProcedureFits r (plain_proc p)
last_fits q r ps rs others p o e s =
    let l : length (ps ++ p ∷ []) ≡ length ps + 1 = length-append ps (p ∷ []) in
    let t : AllStand q (ps ++ p ∷ []) = subst (AllStand q) e s in
    subst (λ (v : PlainProcs). ProcedureFits v (plain_proc p)) (sym o)
    (beside q others (plain_proc p) (subst (ProcedureFits q) (at_end ps p) (t.each (length ps) (omega arith))))

-- one comes into its place
drop_set : (l : List Proc) (n : ℕ) (x : Proc) → n < length l → drop n (set l n x) ≡ x ∷ drop (suc n) l
drop_set [] n x h = absurd (omega arith)
drop_set (y ∷ l) zero x h = refl
drop_set (y ∷ l) (suc n) x h = drop_set l n x (omega arith)

pub there : (ps rs l all : List Proc) (p : Proc) → rs ≡ ps ++ p ∷ [] → rs ++ drop (length rs) l ≡ all → length all ≡ length l → length ps < length l
there ps rs l all p e w n =
    let h = ap length e in
    let g = length-append ps (p ∷ []) in
    let i = ap length w in
    let j = length-append rs (drop (length rs) l) in
    let k = length-drop (length rs) l in
    omega arith

pub one_put : (ps rs l all : List Proc) (p : Proc) → rs ≡ ps ++ p ∷ [] → length ps < length l → rs ++ drop (length rs) l ≡ all → ps ++ drop (length ps) (set l (length ps) p) ≡ all
one_put ps rs l all p e lt w =
    let h = ap length e in
    let g = length-append ps (p ∷ []) in
    let n : suc (length ps) ≡ length rs = omega arith in
    ap (λ (xs : List Proc). ps ++ xs) (drop_set l (length ps) p lt)
    ∙ sym (append_assoc ps (p ∷ []) (drop (suc (length ps)) l))
    ∙ ap (λ k. (ps ++ p ∷ []) ++ drop k l) n
    ∙ ap (λ (xs : List Proc). xs ++ drop (length rs) l) (sym e)
    ∙ w

-- One procedure more with its marks.
pub made_marked : (q : PlainProcs) (ds : List Det) (p x : Proc) (b : GoalNode) (t : Det) → x ≡ record p { body = b; det = t } → InSystems q (λ S. plain_node b ≡ marked_body (under ds S) (plain_proc p)) → IsMarked q ds p x
made_marked q ds p x b t e is =
    record {
      others =
          e
          ∙ ap (λ (n : GoalNode). record p { body = n; det = t }) (ap (λ (y : Proc). y.body) (sym e))
          ∙ ap (λ (d : Det). record p { body = x.body; det = d }) (ap (λ (y : Proc). y.det) (sym e));
      body = λ outcome. ap (λ (y : Proc). plain_node y.body) e ∙ is outcome;
    }

pub made_pruned : (q : PlainProcs) (p x : Proc) (b : GoalNode) → x ≡ record p { body = b; det = p.det } → InDeclared q (λ S. plain_node b ≡ pruned_body S (plain_proc p)) → IsPruned q p x
made_pruned q p x b e is =
    record {
      others = e ∙ ap (λ (n : GoalNode). record p { body = n }) (ap (λ (y : Proc). y.body) (sym e));
      body = λ outcome ds follow. ap (λ (y : Proc). plain_node y.body) e ∙ is outcome ds follow;
    }

pub get_any : (ps : List Proc) (k : ℕ) (d e : Proc) → k < length ps → get_or ps k d ≡ get_or ps k e
get_any [] k d e lt = absurd (omega arith)
get_any (p ∷ ps) zero d e lt = refl
get_any (p ∷ ps) (suc k) d e lt = get_any ps k d e (omega arith)

get_front : (ps : List Proc) (x : Proc) (k : ℕ) (d : Proc) → k < length ps → get_or (ps ++ x ∷ []) k d ≡ get_or ps k d
get_front [] x k d lt = absurd (omega arith)
get_front (p ∷ ps) x zero d lt = refl
get_front (p ∷ ps) x (suc k) d lt = get_front ps x k d (omega arith)

get_last : (ps : List Proc) (x : Proc) (k : ℕ) (d : Proc) → k ≡ length ps → get_or (ps ++ x ∷ []) k d ≡ x
get_last [] x zero d e = refl
get_last [] x (suc k) d e = absurd (omega arith)
get_last (p ∷ ps) x zero d e = absurd (omega arith)
get_last (p ∷ ps) x (suc k) d e = get_last ps x k d (omega arith)

-- each procedure with its place, one more
pub one_placed : (R : Proc → Proc → Type 0) (qs ps rs : List Proc) (k : ℕ) (p x : Proc) → length ps ≡ k → k < length qs → p ≡ get_or qs k p → rs ≡ ps ++ x ∷ [] → R p x → ((j : ℕ) (d : Proc) → j < k → R (get_or qs j d) (get_or ps j d)) → (j : ℕ) (d : Proc) → j < k + 1 → R (get_or qs j d) (get_or rs j d)
one_placed R qs ps rs k p x count lt is more m inv j d b =
    subst (λ (l : List Proc). R (get_or qs j d) (get_or l j d)) (sym more)
    (⊎_elim
    (λ (e : j ≡ k).
    subst (R (get_or qs j d)) (sym (get_last ps x j d (e ∙ sym count)))
    (subst (λ (r : Proc). R r x) (is ∙ get_any qs k p d lt ∙ ap (λ i. get_or qs i d) (sym e)) m))
    (λ (n : j ≡ k → ⊥).
    let less : j < k = omega arith in
    subst (R (get_or qs j d)) (sym (get_front ps x j d (omega arith))) (inv j d less))
    (cases_eq j k))

pub dets_more : (ps rs : List Proc) (ds : List Det) (k : ℕ) (x : Proc) (d : Det) → rs ≡ ps ++ x ∷ [] → map (λ (p : Proc). p.det) ps ≡ take k ds → k < length ds → x.det ≡ get_or ds k d → map (λ (p : Proc). p.det) rs ≡ take (k + 1) ds
dets_more ps rs ds k x d more e lt is =
    ap (map (λ (p : Proc). p.det)) more
    ∙ map-append (λ (p : Proc). p.det) ps (x ∷ [])
    ∙ ap (λ (l : List Det). l ++ x.det ∷ []) e
    ∙ ap (λ (t : Det). take k ds ++ t ∷ []) is
    ∙ sym (take_more ds k d lt)
