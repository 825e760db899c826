-- Programs whose bodies follow one another break the same rules of determinism.
use Rattle.std.proofs.Common.{◌≡◌, inl, inr, ℕ, zero, suc, ◌+◌, ◌<◌, ◌≤◌, Bool, true, false, cond, nat_eq, nat_lt, ◌&&◌, List, [], ◌∷◌, ◌++◌, Option, Some, None, refl, ap, ap₂, sym, ◌∙◌, subst, ⊎_elim, arith, codes, IsTrue}
use Rattle.std.specs.List.{list_any}
use Rattle.std.specs.Option.{option_or}
use Rattle.std.proofs.lemmas.Bool.{ltb-true, ltb-false}
use Rattle.mc_program.specs.Programs.{TypeTerm, Source}
use Rattle.mc_source.specs.Determinism.{Determinism, row_of, rank, Allows}
use Rattle.mc_source.specs.Rules.{Fault, broken_at, first_rules, by_place}
use Rattle.mc_source.specs.declared.det.Det.{Det}
use Rattle.mc_source.specs.declared.det.Most.{Most}
use Rattle.mc_source.specs.declared.det.Most.TheVariants.{Zero, One, Many}
use Rattle.mc_source.specs.declared.place.Place.{Place}
use Rattle.mc_source.specs.declared.rule.Broken.{Broken}
use Rattle.mc_source.specs.declared.rule.Rule.TheVariants as R
use Rattle.mc_model.specs.Good.{System}
use Rattle.mc_model.specs.Lists.{In, from}
use Rattle.mc_model.specs.Scheduled.{Procedure}
use Rattle.mc_accepted.specs.Accepted.{entered}
use Rattle.mc_accepted.specs.Determined.{nothing_known}
use Rattle.mc_accepted.specs.DeterminismFaults.{not_allowed, undeclared, shown_procedure, call_fault, misplaced_call, procedure_fault, is_main_name, are_states, is_det_or_cc_multi, is_main, main_fault, determinism_faults}
use Rattle.mc_accepted.specs.Fits.{type_of}
use Rattle.mc_accepted.specs.Inferred.{DeclaredProcedure, DeclaredSystem, system_of, body_determinism, Closed, LeastClosed}
use Rattle.laws_graphs.specs.DeterminismLaws.{SystemsAlike, DeterminedAlike}
use Rattle.laws_graphs.specs.FaultLaws.{ProgramsFollow, OneListOfFaults, OneLeast}
use Rattle.laws_graphs.proofs.AlikeInsts.{same-states}
use Rattle.laws_graphs.proofs.Lists.{any-agree}
use Rattle.laws_graphs.proofs.Telling.{over_source, one-determinism}

in-from : (a c k : ℕ) → In k (from a c) → k < a + c
in-from a zero k i = absurd i
in-from a (suc c) k i = ⊎_elim (λ e. omega (arith, e)) (λ j. let l = in-from (suc a) c k j in omega (arith, l)) i

rules-agree : (f g : ℕ → Place) (r s : ℕ → Option Fault) (ks : List ℕ) → ((k : ℕ) → f k ≡ g k) → ((k : ℕ) → In k ks → r k ≡ s k) → first_rules f r ks ≡ first_rules g s ks
rules-agree f g r s [] p q = refl
rules-agree f g r s (k ∷ ks) p q =
    ap₂ (λ (xs ys : List Broken). xs ++ ys) (ap₂ (λ (at : Place) (o : Option Fault). broken_at at o) (p k) (q k (inl refl))) (rules-agree f g r s ks p (λ j i. q j (inr i)))

-- ---- determinisms that allow one another
abbrev made : Bool → Most → Bool → Det
made f m c = record { can_fail = f; most = m; committed = c }

bits-both : (t u : Bool) → (IsTrue t → IsTrue u) → (IsTrue u → IsTrue t) → t ≡ u
bits-both true true f g = refl
bits-both true false f g = sym (f refl)
bits-both false true f g = g refl
bits-both false false f g = refl

one-most : (a b : Most) → rank a ≤ rank b → rank b ≤ rank a → a ≡ b
one-most Zero Zero p q = refl
one-most Zero One p q = absurd (omega (arith, q))
one-most Zero Many p q = absurd (omega (arith, q))
one-most One Zero p q = absurd (omega (arith, p))
one-most One One p q = refl
one-most One Many p q = absurd (omega (arith, q))
one-most Many Zero p q = absurd (omega (arith, p))
one-most Many One p q = absurd (omega (arith, p))
one-most Many Many p q = refl

one-det : (a b : Det) → Allows (row_of a) (row_of b) → Allows (row_of b) (row_of a) → a.committed ≡ false → b.committed ≡ false → a ≡ b
one-det a b p q c d =
    ap (λ (f : Bool). made f a.most a.committed) (bits-both a.can_fail b.can_fail q.0 p.0)
    ∙ (ap (λ (m : Most). made b.can_fail m a.committed) (one-most a.most b.most (most-le a b c d q.1) (most-le b a d c p.1)) ∙ ap (λ (t : Bool). made b.can_fail b.most t) (c ∙ sym d))
  where
    most-le : (x y : Det) → x.committed ≡ false → y.committed ≡ false → rank (row_of x).most ≤ rank (row_of y).most → rank x.most ≤ rank y.most
    most-le x y e f l = subst (λ (t : Bool). rank x.most ≤ rank (cond t Many y.most)) f (subst (λ (t : Bool). rank (cond t Many x.most) ≤ rank (cond y.committed Many y.most)) e l)

-- a procedure is `main`, where it takes states of io so
abbrev main-so : System → DeclaredProcedure → Bool → Bool
main-so S d t =
    d.exported
    && (nat_eq d.at.file 0
    && (is_main_name (S.world.source.preds d.procedure.pred).name && (are_states (S.world.source.preds d.procedure.pred).types && (t && is_det_or_cc_multi d.declared))))

module _ (D E : DeclaredSystem) (m n : ℕ) (pf : ProgramsFollow D E m n) where
  -- a procedure with the body that it has in the second program, and the insts of its mode there
  abbrev other : ℕ → DeclaredProcedure
  other k = record (D.procs k) { procedure = record (D.procs k).procedure { first = (E.procs k).procedure.first; last = (E.procs k).procedure.last; body = (E.procs k).procedure.body } }

  alike : (ds : ℕ → Det) (T : ℕ → TypeTerm) → SystemsAlike T (system_of D ds) (system_of E ds)
  alike ds T =
      record {
        source = pf.source;
        dets = λ k. refl;
        dead = pf.dead;
      }

  determined-alike : (ds : ℕ → Det) (k : ℕ) → k < D.count →
      DeterminedAlike (type_of (system_of D ds) (D.procs k).procedure) (system_of D ds) (system_of E ds) (entered (D.procs k).procedure.head (D.procs k).procedure.first) (entered (D.procs k).procedure.head (E.procs k).procedure.first) (D.procs k).procedure.body (E.procs k).procedure.body
  determined-alike ds k lt =
      let f = pf.bodies k lt in
      one-determinism (system_of D ds) (system_of E ds) (type_of (system_of D ds) (D.procs k).procedure) f.variables m n (alike ds (type_of (system_of D ds) (D.procs k).procedure)) pf.listed _ _ _ _ f.entry f.body

  body-same : (ds : ℕ → Det) (k : ℕ) → k < D.count → body_determinism (system_of D ds) (D.procs k).procedure ≡ body_determinism (system_of E ds) (E.procs k).procedure
  body-same ds k lt =
      (determined-alike ds k lt).determinism nothing_known
      ∙ sym (ap (λ (d : DeclaredProcedure). body_determinism (system_of E ds) d.procedure) (pf.others k))

  shown-same : (ds : ℕ → Det) (p : Procedure) → shown_procedure (system_of D ds) p ≡ shown_procedure (system_of E ds) p
  shown-same ds p = sym (ap (λ (P : Source). shown_procedure (over_source (system_of E ds) P) p) pf.source)

  call-same : (ds : ℕ → Det) (o : Option ℕ) → call_fault (system_of D ds) o ≡ call_fault (system_of E ds) o
  call-same ds None = refl
  call-same ds (Some j) =
      ap (λ (xs : List ℕ). told xs)
      (shown-same ds ((system_of D ds).procs j) ∙ sym (ap (λ (d : DeclaredProcedure). shown_procedure (system_of E ds) (record d.procedure { det = ds j })) (pf.others j)))
    where
      told : List ℕ → Option Fault
      told xs = Some (R.E3, xs ++ codes " is called where all solutions are needed")

  fault-same : (ds : ℕ → Det) (k : ℕ) → k < D.count → procedure_fault (system_of D ds) (D.procs k) ((system_of D ds).procs k) ≡ procedure_fault (system_of E ds) (E.procs k) ((system_of E ds).procs k)
  fault-same ds k lt =
      ap₂ (λ (o p : Option Fault). option_or o p) (ap (not_allowed (D.procs k).declared) (a.determinism nothing_known))
      (ap₂ (λ (o p : Option Fault). option_or o p) (ap (undeclared (D.procs k).exported (D.procs k).declared) (shown-same ds ((system_of D ds).procs k)))
      (ap₂ (λ (o p : Option Fault). option_or o p)
      (ap (call_fault (system_of D ds)) (a.misplaced nothing_known (ds k).committed) ∙ call-same ds (misplaced_call (system_of E ds) (record (other k).procedure { det = ds k })))
      (ap (λ (t : Bool). cond t (Some (R.U1, codes "io goal is misplaced")) None) (a.io nothing_known (ds k).committed))))
      ∙ sym (ap (λ (d : DeclaredProcedure). procedure_fault (system_of E ds) d (record d.procedure { det = ds k })) (pf.others k))
    where
      a : DeterminedAlike (type_of (system_of D ds) (D.procs k).procedure) (system_of D ds) (system_of E ds) (entered (D.procs k).procedure.head (D.procs k).procedure.first) (entered (D.procs k).procedure.head (E.procs k).procedure.first) (D.procs k).procedure.body (E.procs k).procedure.body
      a = determined-alike ds k lt

  pub main-same : (ds : ℕ → Det) (k : ℕ) → is_main (system_of D ds) (D.procs k) ≡ is_main (system_of E ds) (E.procs k)
  main-same ds k =
      sym (ap (λ (P : Source). is_main (over_source (system_of E ds) P) (D.procs k)) pf.source)
      ∙ (ap (main-so (system_of E ds) (D.procs k)) (same-states (D.procs k).procedure.first (E.procs k).procedure.first (D.procs k).procedure.last (E.procs k).procedure.last (pf.first k) (pf.last k))
      ∙ sym (ap (λ (d : DeclaredProcedure). is_main (system_of E ds) d) (pf.others k)))

  abbrev faults_up_to : Bool → (ℕ → Det) → ℕ → List Broken
  faults_up_to runs ds c =
      broken_at (record { file = 0; line = 1 }) (main_fault runs (list_any (λ k. is_main (system_of E ds) (E.procs k)) (from 0 c)))
      ++ by_place (first_rules (λ k. (E.procs k).at) (λ k. procedure_fault (system_of E ds) (E.procs k) ((system_of E ds).procs k)) (from 0 c))

  pub faults-same : (runs : Bool) (ds : ℕ → Det) → determinism_faults runs D ds ≡ determinism_faults runs E ds
  faults-same runs ds =
      ap₂ (λ (xs ys : List Broken). xs ++ ys)
      (ap (λ (t : Bool). broken_at (record { file = 0; line = 1 }) (main_fault runs t)) (any-agree (λ k. is_main (system_of D ds) (D.procs k)) (λ k. is_main (system_of E ds) (E.procs k)) (from 0 D.count) (λ k i. main-same ds k)))
      (ap by_place
      (rules-agree (λ k. (D.procs k).at) (λ k. (E.procs k).at) (λ k. procedure_fault (system_of D ds) (D.procs k) ((system_of D ds).procs k)) (λ k. procedure_fault (system_of E ds) (E.procs k) ((system_of E ds).procs k)) (from 0 D.count)
      (λ k. sym (ap (λ (d : DeclaredProcedure). d.at) (pf.others k))) (λ k i. fault-same ds k (let l = in-from 0 D.count k i in omega (arith, l)))))
      ∙ ap (faults_up_to runs ds) (sym pf.count)

  -- ---- the least determinisms
  closed-there : (es : ℕ → Det) → Closed D es → Closed E es
  closed-there es c =
      record {
        declared = λ k d lt e. c.declared k d (subst (λ z. k < z) pf.count lt) (sym (ap (λ (x : DeclaredProcedure). x.declared) (pf.others k)) ∙ e);
        at_least_det = λ k lt e. c.at_least_det k (subst (λ z. k < z) pf.count lt) (sym (ap (λ (x : DeclaredProcedure). x.declared) (pf.others k)) ∙ e);
        uncommitted = λ k lt e. c.uncommitted k (subst (λ z. k < z) pf.count lt) (sym (ap (λ (x : DeclaredProcedure). x.declared) (pf.others k)) ∙ e);
        allows = λ k lt e.
            let l = subst (λ z. k < z) pf.count lt in
            subst (λ (d : Determinism). Allows (row_of (es k)) d) (body-same es k l) (c.allows k l (sym (ap (λ (x : DeclaredProcedure). x.declared) (pf.others k)) ∙ e));
        others = λ k le. c.others k (subst (λ z. z ≤ k) pf.count le) ∙ sym (ap (λ (x : DeclaredProcedure). x.procedure.det) (pf.others k));
      }

  closed-here : (es : ℕ → Det) → Closed E es → Closed D es
  closed-here es c =
      record {
        declared = λ k d lt e. c.declared k d (subst (λ z. k < z) (sym pf.count) lt) (ap (λ (x : DeclaredProcedure). x.declared) (pf.others k) ∙ e);
        at_least_det = λ k lt e. c.at_least_det k (subst (λ z. k < z) (sym pf.count) lt) (ap (λ (x : DeclaredProcedure). x.declared) (pf.others k) ∙ e);
        uncommitted = λ k lt e. c.uncommitted k (subst (λ z. k < z) (sym pf.count) lt) (ap (λ (x : DeclaredProcedure). x.declared) (pf.others k) ∙ e);
        allows = λ k lt e.
            subst (λ (d : Determinism). Allows (row_of (es k)) d) (sym (body-same es k lt)) (c.allows k (subst (λ z. k < z) (sym pf.count) lt) (ap (λ (x : DeclaredProcedure). x.declared) (pf.others k) ∙ e));
        others = λ k le. c.others k (subst (λ z. z ≤ k) (sym pf.count) le) ∙ ap (λ (x : DeclaredProcedure). x.procedure.det) (pf.others k);
      }

  pub least-same : (ds es : ℕ → Det) → LeastClosed D ds → LeastClosed E es → (k : ℕ) → ds k ≡ es k
  least-same ds es x y k = at (nat_lt k D.count) (ltb-true k D.count) (ltb-false k D.count)
    where
      c : Closed D es
      c = closed-here es y.closed

      inside : k < D.count → (o : Option Det) → (D.procs k).declared ≡ o → ds k ≡ es k
      inside lt (Some d) e = x.closed.declared k d lt e ∙ sym (c.declared k d lt e)
      inside lt None e =
          one-det (ds k) (es k) (y.least ds (closed-there ds x.closed) k (subst (λ z. k < z) (sym pf.count) lt)) (x.least es c k lt) (x.closed.uncommitted k lt e) (c.uncommitted k lt e)

      at : (t : Bool) → (t ≡ true → k < D.count) → (t ≡ false → D.count ≤ k) → ds k ≡ es k
      at true p q = inside (p refl) (D.procs k).declared refl
      at false p q = x.closed.others k (q refl) ∙ sym (c.others k (q refl))

pub one-list-of-faults : OneListOfFaults
one-list-of-faults D E m n pf runs ds = faults-same D E m n pf runs ds

pub one-least : OneLeast
one-least D E m n pf ds es x y k = least-same D E m n pf ds es x y k
