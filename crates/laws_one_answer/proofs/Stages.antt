-- Procedures at each stage behind their order: switch form, pruning, inference. They stay what they are
-- but for their bodies and determinisms.
use Rattle.std.proofs.Common.{◌≡◌, ◌⊎◌, inl, inr, ℕ, zero, suc, ◌<◌, ◌≤◌, Bool, List, [], ◌∷◌, length, map, get_or, Option, None, refl, sym, ap, ◌∙◌, subst, arith}
use Rattle.std.proofs.lemmas.Bool.{cases_lt}
use Rattle.std.proofs.lemmas.List.{get_or-map, get_or_past, length-map}
use Rattle.mc_source.specs.Determinism.{Allows, det, row_of}
use Rattle.mc_source.specs.declared.det.Det.{Det}
use Rattle.mc_program.specs.PlainPrograms.{plain_type}
use Rattle.mc_program.specs.Programs.{TypeTerm}
use Rattle.mc_program.specs.declared.program.Program.{Program}
use Rattle.mc_model.specs.PlainGoals.{plain_node, plain_proc}
use Rattle.mc_model.specs.Scheduled.{Node, Procedure}
use Rattle.mc_model.specs.declared.flat.Normal.{Normal}
use Rattle.mc_model.specs.declared.inst.Sig.{Sig}
use Rattle.mc_model.specs.declared.sched.Proc.{Proc}
use Rattle.mc_source.specs.declared.place.Place.{Place}
use Rattle.mc_accepted.specs.Inferred.{DeclaredProcedure}
use Rattle.mc_accepted.specs.InstRules.{PlainInstDef}
use Rattle.mc_procs.specs.Procedures.{PlainProcs, with_procs, procedure_at, no_procedure}
use Rattle.mc_modes.specs.Signatures.{mode_in}
use Rattle.mc_modes.specs.Schedules.{first_determinism}
use Rattle.mc_modes.specs.Numbering.{mode_ids}
use Rattle.mc_modes.specs.declared.modes.ModeId.{ModeId}
use Rattle.mc_modes.specs.declared.ordering.Orders.TheVariants as O
use Rattle.mc_det.specs.Determinisms.{as_declared, declared_procedure, none_declared, AreDeterminisms}
use Rattle.mc_det.specs.MarkedProcedures.{IsMarked, determinisms_of}
use Rattle.mc_det.specs.PrunedProcedures.{FollowDeclared, IsPruned}
use Rattle.laws_graphs.specs.FaultLaws.{EachAlike}
use Rattle.mc_analysis.specs.Rules.{Determined, Ordered}
use Rattle.laws_procedures.proofs.OfModes.{IsAs, as_many, declared_is, no_id, ordered_of}

-- ---- one procedure behind another
-- these are as those were, but for bodies and determinisms
pub record IsStage (before after : List Proc) : Type 0 where
  pub count : length after ≡ length before
  pub each : (k : ℕ) (e : Proc) → k < length before → IsAs (get_or before k e) (get_or after k e)

-- what is but for its body is but for its body and its determinism
body_alone : (p q : Proc) → q ≡ record p { body = q.body } → IsAs p q
body_alone p q e = e ∙ ap (λ (d : Det). record p { body = q.body; det = d }) (sym (ap (λ (r : Proc). r.det) e))

then_is : (p q r : Proc) → IsAs p q → IsAs q r → IsAs p r
then_is p q r e f = f ∙ ap (λ (s : Proc). record s { body = r.body; det = r.det }) e

pub some_at : (ps : List Proc) (k : ℕ) → k < length ps → Proc
some_at [] k lt = absurd (omega (arith, lt))
some_at (p ∷ ps) k lt = p

pub declared_past : (ps : List Proc) (k : ℕ) → length ps ≤ k → declared_procedure ps k ≡ none_declared
declared_past [] k le = refl
declared_past (p ∷ ps) zero le = absurd (omega (arith, le))
declared_past (p ∷ ps) (suc k) le = declared_past ps k (omega (arith, le))

module _ (ordered last : PlainProcs) (is : Determined ordered last) where
  abbrev switched : List Proc
  switched = is.switched.added

  abbrev between : List Proc
  between = is.between.added

  pub stage_switched : IsStage ordered.added switched
  stage_switched = record { count = is.forms.count; each = λ k e lt. body_alone (get_or ordered.added k e) (get_or switched k e) (is.forms.switched k e lt).others }

  pub in_switched : (k : ℕ) → k < length ordered.added → k < length switched
  in_switched k lt = subst (λ (n : ℕ). k < n) (sym is.forms.count) lt

  pub in_between : (k : ℕ) → k < length ordered.added → k < length between
  in_between k lt = subst (λ (n : ℕ). k < n) (sym is.pruned.count) (in_switched k lt)

  pub stage_between : IsStage ordered.added between
  stage_between =
      record {
        count = is.pruned.count ∙ is.forms.count;
        each = λ k e lt.
            then_is (get_or ordered.added k e) (get_or switched k e) (get_or between k e) (stage_switched.each k e lt)
            (body_alone (get_or switched k e) (get_or between k e) (is.pruned.pruned k e (in_switched k lt)).others);
      }

  -- until determinisms are inferred they are those with which the search for them begins
  pub det_between : (k : ℕ) (e : Proc) → k < length ordered.added → (get_or between k e).det ≡ (get_or ordered.added k e).det
  det_between k e lt = ap (λ (p : Proc). p.det) (is.pruned.pruned k e (in_switched k lt)).others ∙ ap (λ (p : Proc). p.det) (is.forms.switched k e lt).others

  pub stage_last : IsStage ordered.added last.added
  stage_last =
      record {
        count = is.inferred.count ∙ (is.pruned.count ∙ is.forms.count);
        each = λ k e lt.
            then_is (get_or ordered.added k e) (get_or between k e) (get_or last.added k e) (stage_between.each k e lt)
            (is.inferred.marked k e (in_between k lt)).others;
      }

  -- all stages have the last program and the last graph
  over_between : with_procs last between ≡ is.between
  over_between = ap (λ (q : PlainProcs). with_procs q between) is.inferred.others

  over_switched : with_procs last switched ≡ is.switched
  over_switched = ap (λ (q : PlainProcs). with_procs q switched) is.inferred.others ∙ ap (λ (q : PlainProcs). with_procs q switched) is.pruned.others

  pub pruned_over : (k : ℕ) (e : Proc) → k < length ordered.added → IsPruned (with_procs last switched) (get_or switched k e) (get_or between k e)
  pruned_over k e lt = subst (λ (q : PlainProcs). IsPruned q (get_or switched k e) (get_or between k e)) (sym over_switched) (is.pruned.pruned k e (in_switched k lt))

  pub marked_over : (k : ℕ) (e : Proc) → k < length ordered.added → IsMarked (with_procs last between) (determinisms_of last) (get_or between k e) (get_or last.added k e)
  marked_over k e lt = subst (λ (q : PlainProcs). IsMarked q (determinisms_of last) (get_or between k e) (get_or last.added k e)) (sym over_between) (is.inferred.marked k e (in_between k lt))

  pub least_over : AreDeterminisms (with_procs last between) (determinisms_of last)
  least_over = subst (λ (q : PlainProcs). AreDeterminisms q (determinisms_of last)) (sym over_between) is.inferred.determinisms

-- ---- procedures as their modes are declared
-- the determinism of a mode, by the number of its procedure
abbrev pub declared_of : Program → List Sig → (procedure : ℕ) → Option Det
declared_of P sigs k = get_or (map (λ (id : ModeId). (mode_in sigs id.pred id.mode).det) (mode_ids P sigs)) k None

-- where the search for it begins
abbrev pub begun_with : Program → List Sig → (procedure : ℕ) → Det
begun_with P sigs k = first_determinism (declared_of P sigs k)

-- the final insts of a mode, by the number of its procedure
abbrev pub finals_of : Program → List Sig → (procedure : ℕ) → List ℕ
finals_of P sigs k = get_or (map (λ (id : ModeId). (mode_in sigs id.pred id.mode).last) (mode_ids P sigs)) k []

module _ (P : Program) (defs : List PlainInstDef) (sigs : List Sig) (goals : List Normal) (exported : List Bool) (ordered last : PlainProcs) (came : Ordered P defs sigs goals exported O.All ordered) (is : Determined ordered last)
    (procs : List Proc) (stage : IsStage ordered.added procs) where
  many : length procs ≡ length (mode_ids P sigs)
  many = stage.count ∙ as_many P defs sigs goals exported ordered last came is

  pub finals_at : (k : ℕ) → (procedure_at procs k).last ≡ finals_of P sigs k
  finals_at k = at (cases_lt k (length procs))
    where
      at : (k < length procs) ⊎ (length procs ≤ k) → (procedure_at procs k).last ≡ finals_of P sigs k
      at (inl lt) =
          let e : Proc = some_at procs k lt in
          let listed : k < length (mode_ids P sigs) = subst (λ (n : ℕ). k < n) many lt in
          ap (λ (p : Procedure). p.last) (get_or-map plain_proc procs k e no_procedure lt)
          ∙ (ap (λ (p : Proc). p.last) (stage.each k e (subst (λ (n : ℕ). k < n) stage.count lt))
          ∙ ((ordered_of P defs sigs goals exported ordered last came is k e listed).scheduled.last ∙ sym (get_or-map (λ (id : ModeId). (mode_in sigs id.pred id.mode).last) (mode_ids P sigs) k no_id [] listed)))
      at (inr le) =
          ap (λ (p : Procedure). p.last) (get_or_past (map plain_proc procs) k no_procedure (omega (arith, le, length-map procs plain_proc)))
          ∙ sym (get_or_past (map (λ (id : ModeId). (mode_in sigs id.pred id.mode).last) (mode_ids P sigs)) k [] (omega (arith, le, many, length-map (mode_ids P sigs) (λ (id : ModeId). (mode_in sigs id.pred id.mode).last))))

  pub declared_at : (k : ℕ) → (declared_procedure procs k).declared ≡ declared_of P sigs k
  declared_at k = at (cases_lt k (length procs))
    where
      at : (k < length procs) ⊎ (length procs ≤ k) → (declared_procedure procs k).declared ≡ declared_of P sigs k
      at (inl lt) =
          let e : Proc = some_at procs k lt in
          let listed : k < length (mode_ids P sigs) = subst (λ (n : ℕ). k < n) many lt in
          ap (λ (d : DeclaredProcedure). d.declared) (declared_is procs k e lt)
          ∙ (ap (λ (p : Proc). p.declared) (stage.each k e (subst (λ (n : ℕ). k < n) stage.count lt))
          ∙ ((ordered_of P defs sigs goals exported ordered last came is k e listed).scheduled.declared ∙ sym (get_or-map (λ (id : ModeId). (mode_in sigs id.pred id.mode).det) (mode_ids P sigs) k no_id None listed)))
      at (inr le) =
          ap (λ (d : DeclaredProcedure). d.declared) (declared_past procs k le)
          ∙ sym (get_or_past (map (λ (id : ModeId). (mode_in sigs id.pred id.mode).det) (mode_ids P sigs)) k None (omega (arith, le, many, length-map (mode_ids P sigs) (λ (id : ModeId). (mode_in sigs id.pred id.mode).det))))

-- the determinisms with which the search begins follow the declared ones
pub follow_declared : (P : Program) (sigs : List Sig) (q : PlainProcs) → ((k : ℕ) → (declared_procedure q.added k).declared ≡ declared_of P sigs k) → FollowDeclared q (begun_with P sigs)
follow_declared P sigs q same =
    record {
      declared = λ k d e. ap first_determinism (sym (same k) ∙ e);
      at_least_det = λ k e. subst (λ (o : Option Det). Allows (row_of (first_determinism o)) det) (sym e ∙ same k) ((λ t. t), omega arith);
      uncommitted = λ k e. ap (λ (o : Option Det). (first_determinism o).committed) (sym (same k) ∙ e);
    }

-- ---- two procedures of one mode
abbrev built : (pred : ℕ) (head first last : List ℕ) → Node → Det → List TypeTerm → Option Det → Bool → Place → DeclaredProcedure
built pred head first last body det types declared exported at =
    record {
      procedure = record { pred = pred; head = head; first = first; last = last; body = body; det = det; var_types = types };
      declared = declared;
      exported = exported;
      at = at;
    }

-- they are one but for their bodies, and the insts of their modes
abbrev pub ButForBodies : DeclaredProcedure → DeclaredProcedure → Type 0
ButForBodies p q = q ≡ record p { procedure = record p.procedure { first = q.procedure.first; last = q.procedure.last; body = q.procedure.body } }

-- in fields
pub record SameProc (p q : Proc) : Type 0 where
  pub pred : q.pred ≡ p.pred
  pub head : q.head ≡ p.head
  pub first : EachAlike p.first q.first
  pub last : EachAlike p.last q.last
  pub types : map plain_type q.var_types ≡ map plain_type p.var_types
  pub declared : q.declared ≡ p.declared
  pub exported : q.exported ≡ p.exported
  pub at : q.at ≡ p.at

pub but_for_bodies : (p q : Proc) → SameProc p q → q.det ≡ p.det → ButForBodies (as_declared p) (as_declared q)
but_for_bodies p q s d =
    let n : Node = plain_node q.body in
    ap (λ (x : ℕ). built x q.head q.first q.last n q.det (map plain_type q.var_types) q.declared q.exported q.at) s.pred
    ∙ (ap (λ (x : List ℕ). built p.pred x q.first q.last n q.det (map plain_type q.var_types) q.declared q.exported q.at) s.head
    ∙ (ap (λ (x : Det). built p.pred p.head q.first q.last n x (map plain_type q.var_types) q.declared q.exported q.at) d
    ∙ (ap (λ (x : List TypeTerm). built p.pred p.head q.first q.last n p.det x q.declared q.exported q.at) s.types
    ∙ (ap (λ (x : Option Det). built p.pred p.head q.first q.last n p.det (map plain_type p.var_types) x q.exported q.at) s.declared
    ∙ (ap (λ (x : Bool). built p.pred p.head q.first q.last n p.det (map plain_type p.var_types) p.declared x q.at) s.exported
    ∙ ap (λ (x : Place). built p.pred p.head q.first q.last n p.det (map plain_type p.var_types) p.declared p.exported x) s.at)))))

-- what stays as these were is the same too
pub same_later : (p q r s : Proc) → IsAs p r → IsAs q s → SameProc p q → SameProc r s
same_later p q r s e f h =
    record {
      pred = ap (λ (x : Proc). x.pred) f ∙ (h.pred ∙ sym (ap (λ (x : Proc). x.pred) e));
      head = ap (λ (x : Proc). x.head) f ∙ (h.head ∙ sym (ap (λ (x : Proc). x.head) e));
      first = subst (λ (is : List ℕ). EachAlike is s.first) (sym (ap (λ (x : Proc). x.first) e)) (subst (EachAlike p.first) (sym (ap (λ (x : Proc). x.first) f)) h.first);
      last = subst (λ (is : List ℕ). EachAlike is s.last) (sym (ap (λ (x : Proc). x.last) e)) (subst (EachAlike p.last) (sym (ap (λ (x : Proc). x.last) f)) h.last);
      types = ap (λ (x : Proc). map plain_type x.var_types) f ∙ (h.types ∙ sym (ap (λ (x : Proc). map plain_type x.var_types) e));
      declared = ap (λ (x : Proc). x.declared) f ∙ (h.declared ∙ sym (ap (λ (x : Proc). x.declared) e));
      exported = ap (λ (x : Proc). x.exported) f ∙ (h.exported ∙ sym (ap (λ (x : Proc). x.exported) e));
      at = ap (λ (x : Proc). x.at) f ∙ (h.at ∙ sym (ap (λ (x : Proc). x.at) e));
    }
