-- Which procedure is whose: each is of one mode, in the order of the modes.
use Rattle.std.proofs.Common.{◌≡◌, ℕ, zero, suc, ◌+◌, ◌<◌, List, [], ◌∷◌, length, get_or, Bool, Option, None, refl, sym, ap, ◌∙◌, subst, arith}
use Rattle.std.proofs.lemmas.List.{get_or-map, length-map}
use Rattle.std.proofs.lemmas.List.Elements.{All-get_or}
use Rattle.mc_program.specs.PlainPrograms.{plain_program}
use Rattle.mc_program.specs.declared.builtin.Builtin.{Builtin}
use Rattle.mc_program.specs.declared.program.Program.{Program}
use Rattle.mc_model.specs.Lists.{from}
use Rattle.mc_model.specs.declared.flat.Normal.{Normal}
use Rattle.mc_model.specs.declared.inst.Sig.{Sig}
use Rattle.mc_model.specs.declared.sched.Proc.{Proc}
use Rattle.mc_accepted.specs.Inferred.{DeclaredProcedure}
use Rattle.mc_accepted.specs.InstRules.{PlainInstDef}
use Rattle.mc_procs.specs.Procedures.{PlainProcs}
use Rattle.mc_modes.specs.Signatures.{modes_at, mode_in}
use Rattle.mc_modes.specs.NormalGoals.{goal_at}
use Rattle.mc_modes.specs.Numbering.{ids_of, unless_builtin, ids_at, IsMode, mode_ids}
use Rattle.mc_modes.specs.Outcomes.{IsOrdered}
use Rattle.mc_modes.specs.declared.modes.ModeId.{ModeId}
use Rattle.mc_modes.specs.declared.ordering.Orders.TheVariants as O
use Rattle.mc_modes.proofs.Ids.{are_modes}
use Rattle.mc_det.specs.Determinisms.{as_declared, declared_procedure}
use Rattle.mc_accepted.specs.NormalGoals.{HasNormalGoals}
use Rattle.mc_analysis.specs.Premises.{TellNumbers}
use Rattle.mc_analysis.specs.Rules.{Determined, Ordered}
use Rattle.laws_procedures.proofs.Listed.{Stands, from_at, in_mapped, in_one, zip_at, zip_many}

-- ---- a procedure stays what it was but for its body and its determinism
abbrev pub IsAs : (before after : Proc) → Type 0
IsAs p r = r ≡ record p { body = r.body; det = r.det }

pub record HaveStayed (before after : PlainProcs) : Type 0 where
  pub program : after.program ≡ before.program
  pub count : length after.added ≡ length before.added
  pub procs : (k : ℕ) (d : Proc) → k < length before.added → IsAs (get_or before.added k d) (get_or after.added k d)

pub have_stayed : (ordered last : PlainProcs) → Determined ordered last → HaveStayed ordered last
have_stayed ordered last is =
    record {
      program =
          ap (λ (q : PlainProcs). q.program) is.inferred.others
          ∙ ap (λ (q : PlainProcs). q.program) is.pruned.others
          ∙ ap (λ (q : PlainProcs). q.program) is.forms.others;
      count = is.inferred.count ∙ is.pruned.count ∙ is.forms.count;
      procs = λ k d lt.
          let more : k < length is.switched.added = subst (λ n. k < n) (sym is.forms.count) lt in
          let also : k < length is.between.added = subst (λ n. k < n) (sym is.pruned.count) more in
          let r = get_or last.added k d in
          let t = get_or is.between.added k d in
          let s = get_or is.switched.added k d in
          (is.inferred.marked k d also).others
          ∙ ap (λ (p : Proc). record p { body = r.body; det = r.det }) ((is.pruned.pruned k d more).others ∙ ap (λ (p : Proc). record p { body = t.body }) (is.forms.switched k d lt).others);
    }

-- ---- modes by their numbers
abbrev pub no_id : ModeId
no_id = record { pred = 0; mode = 0 }

pub id_at : (P : Program) (sigs : List Sig) (k : ℕ) → k < length (mode_ids P sigs) → IsMode P sigs (get_or (mode_ids P sigs) k no_id)
id_at P sigs k lt = All-get_or (IsMode P sigs) (mode_ids P sigs) k no_id lt (are_modes P sigs)

pub mode_stands : (P : Program) (sigs : List Sig) (p j : ℕ) → p < length P.preds → ((plain_program P).preds p).builtin ≡ None → j < length (modes_at sigs p) → Stands (record { pred = p; mode = j }) (mode_ids P sigs)
mode_stands P sigs p j there none lt = in_one (ids_at P sigs) 0 (length P.preds) p (record { pred = p; mode = j }) there at_pred
  where
    in_modes : Stands (record { pred = p; mode = 0 + j }) (ids_of p (from 0 (length (modes_at sigs p))))
    in_modes = in_mapped (λ (k : ℕ). record { pred = p; mode = k }) 0 (length (modes_at sigs p)) j lt

    without_builtin : (o : Option Builtin) (ids : List ModeId) (m : ModeId) → o ≡ None → Stands m ids → Stands m (unless_builtin o ids)
    without_builtin o ids m e s = subst (λ x. Stands m (unless_builtin x ids)) (sym e) s

    at_pred : Stands (record { pred = p; mode = j }) (ids_at P sigs (0 + p))
    at_pred =
        subst (λ q. Stands (record { pred = p; mode = j }) (ids_at P sigs q)) (let e : p ≡ 0 + p = omega arith in e)
        (subst (λ i. Stands (record { pred = p; mode = i }) (ids_at P sigs p)) (let e : 0 + j ≡ j = omega arith in e)
        (without_builtin ((plain_program P).preds p).builtin (ids_of p (from 0 (length (modes_at sigs p)))) (record { pred = p; mode = 0 + j }) none in_modes))

-- the number that a mode tells is its place among the modes
pub number_is_place : (q : PlainProcs) (sigs : List Sig) (k : ℕ) → TellNumbers q sigs → length (mode_ids q.program sigs) ≡ length q.preds → k < length (mode_ids q.program sigs) → (mode_in sigs (get_or (mode_ids q.program sigs) k no_id).pred (get_or (mode_ids q.program sigs) k no_id).mode).proc ≡ k
number_is_place q sigs k tell many lt =
    let number : ModeId → ℕ = λ m. (mode_in sigs m.pred m.mode).proc in
    let below : k < length q.preds = subst (λ n. k < n) many lt in
    sym (get_or-map number (mode_ids q.program sigs) k no_id 0 lt)
    ∙ ap (λ ns. get_or ns k 0) tell
    ∙ from_at 0 (length q.preds) k below
    ∙ omega arith

-- ---- procedures by their numbers
pub declared_is : (ps : List Proc) (k : ℕ) (d : Proc) → k < length ps → declared_procedure ps k ≡ as_declared (get_or ps k d)
declared_is [] k d lt = absurd (omega (arith, lt))
declared_is (p ∷ ps) zero d lt = refl
declared_is (p ∷ ps) (suc k) d lt = declared_is ps k d (omega (arith, lt))

some_at : (ps : List Proc) (k : ℕ) → k < length ps → Proc
some_at [] k lt = absurd (omega (arith, lt))
some_at (p ∷ ps) k lt = p

-- a procedure is as the mode is declared, over the normal goal of the mode's predicate
pub record IsOfMode (sigs : List Sig) (goals : List Normal) (id : ModeId) (d : DeclaredProcedure) : Type 0 where
  pub pred : d.procedure.pred ≡ id.pred
  pub head : d.procedure.head ≡ (goal_at goals id.pred).head
  pub first : d.procedure.first ≡ (mode_in sigs id.pred id.mode).first
  pub last : d.procedure.last ≡ (mode_in sigs id.pred id.mode).last
  pub declared : d.declared ≡ (mode_in sigs id.pred id.mode).det

module _ (P : Program) (defs : List PlainInstDef) (sigs : List Sig) (goals : List Normal) (exported : List Bool) (ordered last : PlainProcs) (came : Ordered P defs sigs goals exported O.All ordered) (is : Determined ordered last) where
  same_ids : mode_ids came.first.program sigs ≡ mode_ids P sigs
  same_ids = ap (λ Q. mode_ids Q sigs) came.begins.program

  pub last_program : last.program ≡ P
  last_program = (have_stayed ordered last is).program ∙ came.grown.program ∙ came.begins.program

  pub as_many : length ordered.added ≡ length (mode_ids P sigs)
  as_many = sym (zip_many (IsOrdered sigs goals exported came.first ordered) (mode_ids came.first.program sigs) ordered.added came.became) ∙ ap length same_ids

  pub last_as_many : length last.added ≡ length (mode_ids P sigs)
  last_as_many = (have_stayed ordered last is).count ∙ as_many

  pub preds_as_many : length (mode_ids came.first.program sigs) ≡ length came.first.preds
  preds_as_many =
      ap length same_ids ∙ sym (length-map (mode_ids P sigs) (λ (m : ModeId). m.pred)) ∙ ap length (sym came.begins.preds)

  -- the procedure of a mode, as it was when goals were in order
  pub ordered_of : (k : ℕ) (d : Proc) → k < length (mode_ids P sigs) → IsOrdered sigs goals exported came.first ordered (get_or (mode_ids P sigs) k no_id) (get_or ordered.added k d)
  ordered_of k d lt =
      subst (λ ids. IsOrdered sigs goals exported came.first ordered (get_or ids k no_id) (get_or ordered.added k d)) same_ids
      (zip_at (IsOrdered sigs goals exported came.first ordered) (mode_ids came.first.program sigs) ordered.added k no_id d came.became (subst (λ ids. k < length ids) (sym same_ids) lt))

  pub stayed_at : (k : ℕ) (d : Proc) → k < length (mode_ids P sigs) → IsAs (get_or ordered.added k d) (get_or last.added k d)
  stayed_at k d lt = (have_stayed ordered last is).procs k d (subst (λ n. k < n) (sym as_many) lt)

  pub of_mode : HasNormalGoals P goals → (k : ℕ) → k < length (mode_ids P sigs) → IsOfMode sigs goals (get_or (mode_ids P sigs) k no_id) (declared_procedure last.added k)
  of_mode normal k lt =
      let there : k < length last.added = subst (λ n. k < n) (sym last_as_many) lt in
      let d : Proc = some_at last.added k there in
      let id = get_or (mode_ids P sigs) k no_id in
      let r = get_or last.added k d in
      let s = (ordered_of k d lt).scheduled in
      let stayed = stayed_at k d lt in
      subst (IsOfMode sigs goals id) (sym (declared_is last.added k d there))
      (record {
        pred = ap (λ (p : Proc). p.pred) stayed ∙ s.pred ∙ (normal.each id.pred (id_at P sigs k lt).pred).pred;
        head = ap (λ (p : Proc). p.head) stayed ∙ s.head;
        first = ap (λ (p : Proc). p.first) stayed ∙ s.first;
        last = ap (λ (p : Proc). p.last) stayed ∙ s.last;
        declared = ap (λ (p : Proc). p.declared) stayed ∙ s.declared;
      })
