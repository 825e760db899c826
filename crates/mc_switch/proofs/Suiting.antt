-- Systems that suit.
use Rattle.std.proofs.Common.{◌≡◌, ◌⊎◌, inl, inr, ℕ, zero, suc, ◌<◌, ◌≤◌, List, [], ◌∷◌, length, Bool, true, false, if◌then◌else◌, Option, Some, None, refl, sym, ap, ◌∙◌, subst, arith}
use Rattle.std.proofs.lemmas.Bool.{cases_lt}
use Rattle.mc_source.specs.Determinism.{inferred, det, is_zero, row_of, rank}
use Rattle.mc_source.specs.declared.det.Det.{Det}
use Rattle.mc_source.specs.declared.det.Most.{Most}
use Rattle.mc_source.specs.declared.det.Most.TheVariants.{Zero, One, Many}
use Rattle.mc_model.specs.Good.{System}
use Rattle.mc_model.specs.declared.sched.Proc.{Proc}
use Rattle.mc_accepted.specs.Inferred.{with_determinisms}
use Rattle.mc_procs.specs.Procedures.{PlainProcs, as_system}
use Rattle.mc_det.proofs.Replacing.{all_fail}
use Rattle.mc_switch.specs.Kept.{Suits, has_no_answer, never_answers}
use Rattle.mc_switch.specs.SwitchedBodies.{ClosedSuit}

-- determinisms that have an answer but where a procedure is declared to have none
abbrev pub declared_or : Bool → Det
declared_or true = record { can_fail = false; most = Zero; committed = false }
declared_or false = inferred det

declared_zero : (t : Bool) → is_zero (declared_or t).most ≡ t
declared_zero true = refl
declared_zero false = refl

abbrev pub some_system : PlainProcs → System
some_system q = with_determinisms (as_system all_fail q) (λ k. declared_or (never_answers q.added k))

pub some_suits : (q : PlainProcs) → Suits q (some_system q)
some_suits q = record {
  source = refl;
  insts = λ i lt. refl;
  never = λ k. declared_zero (never_answers q.added k);
}

answers : (m : Most) → rank det.most ≤ rank m → is_zero m ≡ false
answers Zero h = absurd (omega (arith, h))
answers One h = refl
answers Many h = refl

pub closed_suit : ClosedSuit
closed_suit q D ds of closed = record {
  source = of.source;
  insts = of.insts;
  never = λ k. by_place k (cases_lt k D.count);
}
  where
    by_declared : (k : ℕ) (o : Option Det) → (D.procs k).declared ≡ o → k < D.count → is_zero (ds k).most ≡ has_no_answer o
    by_declared k (Some d) e lt = ap (λ (x : Det). is_zero x.most) (closed.declared k d lt e)
    by_declared k None e lt =
        let a = closed.at_least_det k lt e in
        let plain : (row_of (ds k)).most ≡ (ds k).most = ap (λ c. if c then Many else (ds k).most) (closed.uncommitted k lt e) in
        answers (ds k).most (subst (λ m. rank det.most ≤ rank m) plain a.1)

    by_past : (k : ℕ) → D.count ≤ k → (o : Option Det) → (D.procs k).declared ≡ o → is_zero (ds k).most ≡ never_answers q.added k
    by_past k le o e =
        ap (λ (x : Det). is_zero x.most) (closed.others k le) ∙ of.others k le ∙ sym (none_past q.added k (subst (λ n. n ≤ k) of.count le))
      where
        none_past : (ps : List Proc) (k : ℕ) → length ps ≤ k → never_answers ps k ≡ false
        none_past [] k h = refl
        none_past (p ∷ ps) zero h = absurd (omega (arith, h))
        none_past (p ∷ ps) (suc k) h = none_past ps k (omega (arith, h))

    by_place : (k : ℕ) → (k < D.count) ⊎ (D.count ≤ k) → is_zero (ds k).most ≡ never_answers q.added k
    by_place k (inl lt) = by_declared k (D.procs k).declared refl lt ∙ of.declared k
    by_place k (inr le) = by_past k le (D.procs k).declared refl
