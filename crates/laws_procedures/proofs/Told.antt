-- What is told of each procedure: its head, its determinisms, and that its modes are those that are declared.
use Rattle.std.proofs.Common.{◌≡◌, ◌⊎◌, inl, inr, ℕ, zero, suc, ◌<◌, ◌≤◌, List, [], ◌∷◌, length, map, get_or, Bool, true, false, if◌then◌else◌, Option, Some, None, true≢false, refl, sym, ap, ap₂, ◌∙◌, subst, arith}
use Rattle.std.proofs.lemmas.Bool.{cases_lt}
use Rattle.std.proofs.lemmas.List.{get_or_past, length-map}
use Rattle.mc_source.specs.Determinism.{det, is_zero, rank, row_of}
use Rattle.mc_source.specs.declared.det.Det.{Det}
use Rattle.mc_source.specs.declared.det.Most.{Most}
use Rattle.mc_source.specs.declared.det.Most.TheVariants.{Zero, One, Many}
use Rattle.mc_program.specs.Programs.{TypeTerm}
use Rattle.mc_program.specs.PlainPrograms.{plain_program}
use Rattle.mc_program.specs.Values.{Val}
use Rattle.mc_program.specs.declared.builtin.Builtin.{Builtin}
use Rattle.mc_program.specs.declared.program.Program.{Program}
use Rattle.mc_model.specs.Good.{System}
use Rattle.mc_model.specs.Lists.{from}
use Rattle.mc_model.specs.Outcomes.{Outcome}
use Rattle.mc_model.specs.declared.flat.Normal.{Normal}
use Rattle.mc_model.specs.declared.inst.ModeDecl.{ModeDecl}
use Rattle.mc_model.specs.declared.inst.Sig.{Sig}
use Rattle.mc_accepted.specs.Inferred.{Closed, DeclaredSystem}
use Rattle.mc_accepted.specs.InstRules.{PlainInstDef}
use Rattle.mc_accepted.specs.Ordered.{zipped}
use Rattle.mc_accepted.specs.code.Truthful.{AllDeclared, IsDeclared}
use Rattle.mc_insts.specs.Graphs.{count_of}
use Rattle.mc_procs.specs.Procedures.{PlainProcs}
use Rattle.mc_mode_state.specs.Modes.{ModeFits, ModesFit, declared_mode, never_answers}
use Rattle.mc_modes.specs.Signatures.{declared_in, mode_in, modes_at, no_mode}
use Rattle.mc_modes.specs.NormalGoals.{goal_at}
use Rattle.mc_modes.specs.Numbering.{IsMode, mode_ids}
use Rattle.mc_modes.specs.declared.modes.ModeId.{ModeId}
use Rattle.mc_modes.specs.declared.ordering.Orders.TheVariants as O
use Rattle.mc_det_constraints.specs.Least.{assigned}
use Rattle.mc_det.specs.Determinisms.{declared_system}
use Rattle.mc_det.specs.MarkedProcedures.{determinisms_of}
use Rattle.laws_accepted.specs.AcceptedLaws.{IsTold}
use Rattle.mc_accepted.specs.NormalGoals.{HasNormalGoals}
use Rattle.mc_analysis.specs.Premises.{Preconditions}
use Rattle.mc_analysis.specs.Rules.{Determined, Ordered}
use Rattle.laws_procedures.proofs.Closed.{closed, determined_system, keeps_determinism}
use Rattle.laws_procedures.proofs.Listed.{from_many}
use Rattle.laws_procedures.proofs.OfModes.{IsOfMode, id_at, last_as_many, last_program, mode_stands, no_id, number_is_place, of_mode, preds_as_many}

modes_fit_at : (n : ℕ) (ms : List ModeDecl) (k : ℕ) → ModesFit n ms → k < length ms → ModeFits n (get_or ms k no_mode)
modes_fit_at n [] k h lt = absurd (omega (arith, lt))
modes_fit_at n (m ∷ ms) zero h lt = h.0
modes_fit_at n (m ∷ ms) (suc k) h lt = modes_fit_at n ms k h.1 (omega (arith, lt))

-- ---- determinisms that are closed, of a procedure
module _ (D : DeclaredSystem) (ds : ℕ → Det) (are : Closed D ds) (k : ℕ) (lt : k < D.count) where
  pub committed_many : ((d : Det) → (D.procs k).declared ≡ Some d → d.committed ≡ true → d.most ≡ Many) → (ds k).committed ≡ true → (ds k).most ≡ Many
  committed_many many c = by_declared (D.procs k).declared refl
    where
      by_declared : (o : Option Det) → (D.procs k).declared ≡ o → (ds k).most ≡ Many
      by_declared None e = absurd (true≢false (sym c ∙ are.uncommitted k lt e))
      by_declared (Some d) e =
          let same : ds k ≡ d = are.declared k d lt e in
          ap (λ (x : Det). x.most) same ∙ many d e (sym (ap (λ (x : Det). x.committed) same) ∙ c)

  answers : (m : Most) → rank det.most ≤ rank m → false ≡ is_zero m
  answers Zero h = absurd (omega (arith, h))
  answers One h = refl
  answers Many h = refl

  -- a call never comes back exactly where that is declared
  pub never_is : never_answers (D.procs k).declared ≡ is_zero (ds k).most
  never_is = by_declared (D.procs k).declared refl
    where
      by_declared : (o : Option Det) → (D.procs k).declared ≡ o → never_answers o ≡ is_zero (ds k).most
      by_declared (Some d) e = ap (λ (x : Det). is_zero x.most) (sym (are.declared k d lt e))
      by_declared None e =
          let plain : (row_of (ds k)).most ≡ (ds k).most = ap (λ c. if c then Many else (ds k).most) (are.uncommitted k lt e) in
          answers (ds k).most (subst (λ m. rank det.most ≤ rank m) plain (are.at_least_det k lt e).1)

module _ (outcome : Builtin → List Val → Outcome) (P : Program) (defs : List PlainInstDef) (sigs : List Sig) (goals : List Normal) (exported : List Bool) (ordered last : PlainProcs) (came : Ordered P defs sigs goals exported O.All ordered) (is : Determined ordered last) (normal : HasNormalGoals P goals) (asked : Preconditions came.first sigs goals exported) where
  abbrev S : System
  S = determined_system outcome last

  abbrev D : DeclaredSystem
  D = declared_system outcome last

  are_closed : Closed D (assigned (determinisms_of last))
  are_closed = closed outcome last is.least

  module _ (k : ℕ) (lt : k < length (mode_ids P sigs)) where
    abbrev id : ModeId
    id = get_or (mode_ids P sigs) k no_id

    abbrev m : ModeDecl
    m = mode_in sigs id.pred id.mode

    abbrev arity : ℕ
    arity = length (S.world.source.preds (S.procs k).pred).types

    there : k < length last.added
    there = subst (λ n. k < n) (sym (last_as_many P defs sigs goals exported ordered last came is)) lt

    mode : IsMode came.first.program sigs id
    mode = subst (λ Q. IsMode Q sigs id) (sym came.begins.program) (id_at P sigs k lt)

    of : IsOfMode sigs goals id (D.procs k)
    of = of_mode P defs sigs goals exported ordered last came is normal k lt

    head_is : (S.procs k).head ≡ from 0 arity
    head_is =
        of.head
        ∙ (normal.each id.pred (id_at P sigs k lt).pred).head
        ∙ ap₂ (λ Q p. from 0 (length ((plain_program Q).preds p).types)) (sym (last_program P defs sigs goals exported ordered last came is)) (sym of.pred)

    head_many : length (goal_at goals id.pred).head ≡ arity
    head_many = ap length (sym of.head ∙ head_is) ∙ from_many 0 arity

    first_many : length m.first ≡ arity
    first_many = (asked.goals_fit id.pred mode.pred mode.no_builtin id.mode mode.mode).as_many ∙ head_many

    last_many : length m.last ≡ arity
    last_many = sym (modes_fit_at (count_of came.first.insts) (modes_at sigs id.pred) id.mode (asked.insts_there id.pred) mode.mode).as_many ∙ first_many

    pub is_told : IsTold S (S.procs k)
    is_told =
        record {
          head = head_is;
          first = ap length of.first ∙ first_many;
          last = ap length of.last ∙ last_many;
          determinisms = keeps_determinism outcome last is.marks k there;
          committed = committed_many D (assigned (determinisms_of last)) are_closed k there (λ d e. asked.committed_many id.pred id.mode d (sym of.declared ∙ e));
        }

    pub is_declared : (T : ℕ → TypeTerm) → IsDeclared S T id.pred (record (declared_mode m) { proc = k })
    is_declared T =
        record {
          known = there;
          pred = of.pred;
          modes = ap₂ zipped (sym of.first) (sym of.last);
          never = ap never_answers (sym of.declared) ∙ never_is D (assigned (determinisms_of last)) are_closed k there;
        }

  one_declared : (T : ℕ → TypeTerm) (p j : ℕ) → p < length P.preds → ((plain_program P).preds p).builtin ≡ None → j < length (modes_at sigs p) → IsDeclared S T p (declared_mode (mode_in sigs p j))
  one_declared T p j there none lt =
      let s = mode_stands P sigs p j there none lt in
      let same : get_or (mode_ids P sigs) s.place no_id ≡ record { pred = p; mode = j } = s.is no_id in
      let told = subst (λ Q. (mode_in sigs (get_or (mode_ids Q sigs) s.place no_id).pred (get_or (mode_ids Q sigs) s.place no_id).mode).proc ≡ s.place) came.begins.program
      (number_is_place came.first sigs s.place asked.numbers_told (preds_as_many P defs sigs goals exported ordered last came is) (subst (λ Q. s.place < length (mode_ids Q sigs)) (sym came.begins.program) s.there)) in
      let number : (mode_in sigs p j).proc ≡ s.place = ap (λ (i : ModeId). (mode_in sigs i.pred i.mode).proc) (sym same) ∙ told in
      subst (λ n. IsDeclared S T p (record (declared_mode (mode_in sigs p j)) { proc = n })) (sym number)
      (subst (λ (i : ModeId). IsDeclared S T i.pred (record (declared_mode (mode_in sigs i.pred i.mode)) { proc = s.place })) same (is_declared s.place s.there T))

  -- there are no modes but of predicates
  fewer : length sigs ≤ length P.preds
  fewer = subst (λ Q. length sigs ≤ length Q.preds) came.begins.program asked.fewer

  -- so the modes are those of the procedures
  pub modes_of_system : (T : ℕ → TypeTerm) (p : ℕ) → (S.world.source.preds p).builtin ≡ None → AllDeclared S T p (declared_in sigs p)
  modes_of_system T p none =
      by_place (cases_lt p (length P.preds))
    where
      all_of : (ms : List ModeDecl) → ((j : ℕ) → j < length ms → IsDeclared S T p (declared_mode (get_or ms j no_mode))) → AllDeclared S T p (map declared_mode ms)
      all_of [] h = tt
      all_of (m ∷ ms) h = (h 0 (omega arith), all_of ms (λ j lt. h (suc j) (omega (arith, lt))))

      past : (ms : List ModeDecl) → ms ≡ [] → AllDeclared S T p (map declared_mode ms)
      past ms e = subst (λ xs. AllDeclared S T p (map declared_mode xs)) (sym e) tt

      by_place : (p < length P.preds) ⊎ (length P.preds ≤ p) → AllDeclared S T p (declared_in sigs p)
      by_place (inl lt) = all_of (modes_at sigs p) (λ j less. one_declared T p j lt (subst (λ Q. ((plain_program Q).preds p).builtin ≡ None) (last_program P defs sigs goals exported ordered last came is) none) less)
      by_place (inr le) = past (modes_at sigs p) (get_or_past (map (λ (s : Sig). s.modes) sigs) p [] (omega (arith, le, fewer, length-map sigs (λ (s : Sig). s.modes))))
