-- Procedures in switch form, under closed determinisms.
use Rattle.std.proofs.Common.{◌≡◌, ◌⊎◌, inl, inr, ℕ, zero, suc, ◌<◌, ◌≤◌, List, [], ◌∷◌, length, get_or, map, Bool, false, refl, sym, ap, ◌∙◌, subst, arith}
use Rattle.std.proofs.lemmas.Bool.{cases_lt}
use Rattle.std.proofs.lemmas.List.{get_or-map, get_or_past, length-map}
use Rattle.mc_program.specs.Values.{Val}
use Rattle.mc_program.specs.declared.builtin.Builtin.{Builtin}
use Rattle.mc_source.specs.Determinism.{is_zero}
use Rattle.mc_model.specs.Outcomes.{Outcome}
use Rattle.mc_model.specs.declared.sched.Proc.{Proc}
use Rattle.mc_accepted.specs.Inferred.{system_of}
use Rattle.mc_procs.specs.Procedures.{PlainProcs, source_of, with_insts}
use Rattle.mc_procs.specs.VariableTypes.{type_in}
use Rattle.mc_det.specs.Determinisms.{declared_procedure, declared_system}
use Rattle.mc_switch.specs.Kept.{has_no_answer, never_answers, kept_by}
use Rattle.mc_switch.specs.SwitchedBodies.{IsOf, Switches, ClosedForms}
use Rattle.mc_switch.proofs.Suiting.{closed_suit}

abbrev answers_not : Proc → Bool
answers_not p = has_no_answer p.declared

declared_at : (ps : List Proc) (k : ℕ) → has_no_answer (declared_procedure ps k).declared ≡ never_answers ps k
declared_at [] k = refl
declared_at (p ∷ ps) zero = refl
declared_at (p ∷ ps) (suc k) = declared_at ps k

past_answers : (ps : List Proc) (k : ℕ) → length ps ≤ k → is_zero (declared_procedure ps k).procedure.det.most ≡ false
past_answers [] k h = refl
past_answers (p ∷ ps) zero h = absurd (omega (arith, h))
past_answers (p ∷ ps) (suc k) h = past_answers ps k (omega (arith, h))

some_at : (ps : List Proc) (k : ℕ) → k < length ps → Proc
some_at [] k lt = absurd (omega (arith, lt))
some_at (p ∷ ps) k lt = p

same_answers : (q r : PlainProcs) → Switches q r → (k : ℕ) → never_answers r.added k ≡ never_answers q.added k
same_answers q r s k = by_place (cases_lt k (length q.added))
  where
    by_place : (k < length q.added) ⊎ (length q.added ≤ k) → never_answers r.added k ≡ never_answers q.added k
    by_place (inl lt) =
        let d : Proc = some_at q.added k lt in
        let m = s.switched k d lt in
        let more : k < length r.added = subst (λ n. k < n) (sym s.count) lt in
        get_or-map answers_not r.added k d false more
        ∙ ap answers_not m.others
        ∙ sym (get_or-map answers_not q.added k d false lt)
    by_place (inr le) =
        get_or_past (map answers_not r.added) k false (subst (λ n. n ≤ k) (sym (length-map r.added answers_not ∙ s.count)) le)
        ∙ sym (get_or_past (map answers_not q.added) k false (subst (λ n. n ≤ k) (sym (length-map q.added answers_not)) le))

is_of : (outcome : Builtin → List Val → Outcome) (q r : PlainProcs) → Switches q r → IsOf (with_insts q r.insts) (declared_system outcome r)
is_of outcome q r s = record {
  source = ap source_of s.others;
  insts = λ i lt. refl;
  count = s.count;
  declared = λ k. declared_at r.added k ∙ same_answers q r s k;
  others = λ k le. past_answers r.added k le;
}

pub closed_forms : ClosedForms
closed_forms outcome q r ds s closed k d lt =
    let D = declared_system outcome r in
    let m = s.switched k d lt in
    let form = m.form in
    let p = get_or q.added k d in (
      kept_by (system_of D ds) (type_in p.var_types) form.found (length p.var_types),
      form.form (system_of D ds) form.found (closed_suit (with_insts q r.insts) D ds (is_of outcome q r s) closed) (λ x j is e. e),
    )
