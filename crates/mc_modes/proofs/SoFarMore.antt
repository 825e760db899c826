-- What is known of the modes that were tried, with one more.
use Rattle.std.proofs.Common.{◌≡◌, ◌<◌, inl, inr, ℕ, Bool, true, false, List, [], ◌∷◌, ◌++◌, length, map, take, get_or, Option, Some, suc, if◌then◌else◌, refl, sym, ap, subst, ◌∙◌, arith, append_assoc}
use Rattle.std.specs.List.{AllZip}
use Rattle.std.proofs.lemmas.List.{map-append, append-nil, get_or-map, length-map, length-take-le}
use Rattle.std.proofs.lemmas.List.Elements.{All-nil, All-push, All-weaker}
use Rattle.mc_source.specs.Rules.{Fault, broken_at, first_rules, put_in, by_place, stands_before}
use Rattle.mc_source.specs.declared.rule.Broken.{Broken}
use Rattle.mc_source.specs.declared.place.Place.{Place}
use Rattle.mc_model.specs.PlainGoals.{plain_flat, plain_node}
use Rattle.mc_model.specs.declared.inst.Sig.{Sig}
use Rattle.mc_model.specs.declared.flat.Normal.{Normal}
use Rattle.mc_model.specs.declared.sched.Proc.{Proc}
use Rattle.mc_accepted.specs.Arranged.{Verdict, in_order}
use Rattle.mc_procs.specs.Procedures.{PlainProcs, with_insts}
use Rattle.mc_mode_state.specs.declared.state.State.{State}
use Rattle.mc_modes.specs.Arrangements.{Becomes}
use Rattle.mc_modes.specs.Schedules.{IsScheduled}
use Rattle.mc_modes.specs.Signatures.{mode_in}
use Rattle.mc_modes.specs.ModeFaults.{rule_of}
use Rattle.mc_modes.specs.NormalGoals.{goal_at}
use Rattle.mc_modes.specs.Numbering.{mode_ids, IsNumbered}
use Rattle.mc_modes.specs.Outcomes.{GrownFrom, Tried, IsTried, AreBroken, IsOrdered}
use Rattle.mc_modes.specs.code.Steps.{Came, Passed, Listed, Steps, SoFar, exported_as, IsNext}
use Rattle.mc_modes.specs.declared.modes.ModeId.{ModeId}
use Rattle.mc_modes.proofs.Grows.{grown_none, grown_then, grown_by, grown_same, grown_added}

zip_weaker : {X Y : Type 0} (R S : X → Y → Type 0) (xs : List X) (ys : List Y) → ((x : X) (y : Y) → R x y → S x y) → AllZip R xs ys → AllZip S xs ys
zip_weaker R S [] [] f h = tt
zip_weaker R S [] (y ∷ ys) f h = absurd h
zip_weaker R S (x ∷ xs) [] f h = absurd h
zip_weaker R S (x ∷ xs) (y ∷ ys) f h = (f x y h.0, zip_weaker R S xs ys f h.1)

zip_push : {X Y : Type 0} (R : X → Y → Type 0) (xs : List X) (ys : List Y) (x : X) (y : Y) → AllZip R xs ys → R x y → AllZip R (xs ++ x ∷ []) (ys ++ y ∷ [])
zip_push R [] [] x y h r = (r, tt)
zip_push R [] (z ∷ ys) x y h r = absurd h
zip_push R (z ∷ xs) [] x y h r = absurd h
zip_push R (w ∷ xs) (z ∷ ys) x y h r = (h.0, zip_push R xs ys x y h.1 r)

zip_length : {X Y : Type 0} (R : X → Y → Type 0) (xs : List X) (ys : List Y) → AllZip R xs ys → length xs ≡ length ys
zip_length R [] [] h = refl
zip_length R [] (y ∷ ys) h = absurd h
zip_length R (x ∷ xs) [] h = absurd h
zip_length R (x ∷ xs) (y ∷ ys) h = ap suc (zip_length R xs ys h.1)

rules_more : {A : Type 0} (place : A → Place) (rule : A → Option Fault) (xs : List A) (x : A) → first_rules place rule (xs ++ x ∷ []) ≡ first_rules place rule xs ++ broken_at (place x) (rule x)
rules_more place rule [] x = append-nil (broken_at (place x) (rule x))
rules_more place rule (y ∷ ys) x =
    ap (λ (l : List Broken). broken_at (place y) (rule y) ++ l) (rules_more place rule ys x)
    ∙ sym (append_assoc (broken_at (place y) (rule y)) (first_rules place rule ys) (broken_at (place x) (rule x)))

not_none : (bs : List Broken) (b : Broken) → bs ++ b ∷ [] ≡ [] → ⊥
not_none [] b e = cc
not_none (c ∷ bs) b e = cc

put_some : (b : Broken) (cs : List Broken) → put_in b cs ≡ [] → ⊥
put_some b [] e = cc
put_some b (c ∷ cs) e = at (stands_before c.at b.at) e
  where
    at : (t : Bool) → (if t then c ∷ put_in b cs else b ∷ c ∷ cs) ≡ [] → ⊥
    at true h = cc
    at false h = cc

pub some_by_place : (bs : List Broken) → (bs ≡ [] → ⊥) → by_place bs ≡ [] → ⊥
some_by_place [] h e = h refl
some_by_place (b ∷ bs) h e = put_some b (by_place bs) e

same_added : (q r : PlainProcs) → r ≡ with_insts q r.insts → q.added ≡ r.added
same_added q r e = sym (ap (λ (x : PlainProcs). x.added) e)

module _ (sigs : List Sig) (goals : List Normal) where
  tried_later : (first q r : PlainProcs) → GrownFrom q r → (t : Tried) → IsTried sigs goals first q t → IsTried sigs goals first r t
  tried_later first q r g t i =
      record { before = i.before; after = i.after; end = i.end; begun = i.begun; becomes = i.becomes; ended = grown_then i.after q r i.ended g }

  abbrev pub at_place : Tried → Place
  at_place t = (mode_in sigs t.id.pred t.id.mode).at

  abbrev pub rule_at : Tried → Option Fault
  rule_at t = rule_of (length (goal_at goals t.id.pred).head) (goal_at goals t.id.pred).var_names t.verdict

  -- what becomes of the goal of a mode
  pub tried_one : (first q : PlainProcs) (id : ModeId) → GrownFrom first q → (goal_at goals id.pred).pred ≡ id.pred → (found r : PlainProcs) (end : State) (v : Verdict) →
      Becomes sigs (goal_at goals id.pred).var_types (goal_at goals id.pred).head (mode_in sigs (goal_at goals id.pred).pred id.mode).first (mode_in sigs (goal_at goals id.pred).pred id.mode).last (plain_flat (goal_at goals id.pred).body) q found end v →
      GrownFrom found r → IsTried sigs goals first r (record { id = id; verdict = v })
  tried_one first q id grown is_pred found r end v b h =
      let g = goal_at goals id.pred in
      record {
        before = q;
        after = found;
        end = end;
        begun = grown;
        becomes = subst (λ k. Becomes sigs g.var_types g.head (mode_in sigs k id.mode).first (mode_in sigs k id.mode).last (plain_flat g.body) q found end v) is_pred b;
        ended = h;
      }

  pub broken_more : (first q r : PlainProcs) (ids : List ModeId) (old new : List Broken) (t : Tried) → GrownFrom q r → AreBroken sigs goals first q ids old → IsTried sigs goals first r t → new ≡ old ++ broken_at (at_place t) (rule_at t) → AreBroken sigs goals first r (ids ++ t.id ∷ []) new
  broken_more first q r ids old new t g b i e =
      record {
        tried = b.tried ++ t ∷ [];
        ids_are = map-append (λ (u : Tried). u.id) b.tried (t ∷ []) ∙ ap (λ (l : List ModeId). l ++ t.id ∷ []) b.ids_are;
        each = All-push (IsTried sigs goals first r) b.tried t
            (All-weaker (IsTried sigs goals first q) (IsTried sigs goals first r) (tried_later first q r g) b.tried b.each) i;
        rules = e ∙ ap (λ (l : List Broken). l ++ broken_at (at_place t) (rule_at t)) b.rules ∙ sym (rules_more at_place rule_at b.tried t);
      }

module _ (sigs : List Sig) (goals : List Normal) (exported : List Bool) where
  ordered_later : (first q r : PlainProcs) → GrownFrom q r → (id : ModeId) (p : Proc) → IsOrdered sigs goals exported first q id p → IsOrdered sigs goals exported first r id p
  ordered_later first q r g id p i =
      record { before = i.before; after = i.after; begun = i.begun; scheduled = i.scheduled; is_exported = i.is_exported; ended = grown_then i.after q r i.ended g }

  pub at_first : (first : PlainProcs) → first.added ≡ [] → SoFar sigs goals exported first first [] []
  at_first first none =
      record {
        grown = grown_none first;
        broken = record { tried = []; ids_are = refl; each = All-nil (IsTried sigs goals first first); rules = refl };
        ordered = λ _. subst (λ (ps : List Proc). AllZip (IsOrdered sigs goals exported first first) [] ps) (sym none) tt;
      }

  module _ (first q : PlainProcs) (id : ModeId) (ids : List ModeId) (old : List Broken) (is_pred : (goal_at goals id.pred).pred ≡ id.pred) (s : SoFar sigs goals exported first q ids old) where
    abbrev g : Normal
    g = goal_at goals id.pred

    abbrev is_out : Bool
    is_out = get_or exported id.pred false

    -- a procedure that was made, as it comes
    ordered_one : (found r : PlainProcs) (p : Proc) → IsScheduled sigs g id.mode (mode_in sigs g.pred id.mode) q found p → GrownFrom found r → IsOrdered sigs goals exported first r id (exported_as is_out p)
    ordered_one found r p m h =
        let plain : p ≡ exported_as false p = ap (λ (b : Bool). exported_as b p) m.exported in
        record {
          before = q;
          after = found;
          begun = s.grown;
          scheduled = subst (λ (x : Proc). IsScheduled sigs g id.mode (mode_in sigs id.pred id.mode) q found x) plain
              (subst (λ k. IsScheduled sigs g id.mode (mode_in sigs k id.mode) q found p) is_pred m);
          is_exported = refl;
          ended = h;
        }

    came : (r : PlainProcs) (new : List Broken) → Came sigs g id.mode is_out q r old new → SoFar sigs goals exported first r (ids ++ id ∷ []) new
    came r new c =
        let m = c.scheduled in
        let b = m.becomes in
        let found = c.found in
        let tested = c.adds.tested in
        let one = exported_as is_out c.proc in
        let h : GrownFrom found r =
        grown_then found tested r (grown_same found tested c.adds.same)
        (subst (λ (x : PlainProcs). GrownFrom tested x) (sym c.adds.added) (grown_added tested one)) in
        let all : GrownFrom q r = grown_then q found r (grown_by q found b.others b.grown) h in
        let t : Tried = record { id = id; verdict = in_order (plain_node c.proc.body) } in
        record {
          grown = grown_then first q r s.grown all;
          broken = broken_more sigs goals first q r ids old new t all s.broken
              (tried_one sigs goals first q id s.grown is_pred found r m.end (in_order (plain_node c.proc.body)) b h)
              (c.none ∙ sym c.none_before ∙ sym (append-nil old));
          ordered = λ _.
              subst (λ (ps : List Proc). AllZip (IsOrdered sigs goals exported first r) (ids ++ id ∷ []) ps) (sym (ap (λ (x : PlainProcs). x.added) c.adds.added))
              (zip_push (IsOrdered sigs goals exported first r) ids tested.added id one
              (subst (λ (ps : List Proc). AllZip (IsOrdered sigs goals exported first r) ids ps) (same_added q found b.others ∙ same_added found tested c.adds.same.others)
              (zip_weaker (IsOrdered sigs goals exported first q) (IsOrdered sigs goals exported first r) ids q.added (ordered_later first q r all) (s.ordered c.none_before)))
              (ordered_one found r c.proc m h));
        }

    passed : (r : PlainProcs) (new : List Broken) → Passed sigs g id.mode is_out q r old new → SoFar sigs goals exported first r (ids ++ id ∷ []) new
    passed r new c =
        let m = c.scheduled in
        let b = m.becomes in
        let all : GrownFrom q r = grown_by q r b.others b.grown in
        let t : Tried = record { id = id; verdict = in_order (plain_node c.proc.body) } in
        record {
          grown = grown_then first q r s.grown all;
          broken = broken_more sigs goals first q r ids old new t all s.broken
              (tried_one sigs goals first q id s.grown is_pred r r m.end (in_order (plain_node c.proc.body)) b (grown_none r))
              (c.same ∙ sym (append-nil old));
          ordered = λ e. absurd (c.some_before (sym c.same ∙ e));
        }

    listed : (r : PlainProcs) (new : List Broken) → Listed sigs g id.mode is_out q r old new → SoFar sigs goals exported first r (ids ++ id ∷ []) new
    listed r new c =
        let b = c.becomes in
        let all : GrownFrom q r = grown_by q r b.others b.grown in
        let t : Tried = record { id = id; verdict = c.verdict } in
        record {
          grown = grown_then first q r s.grown all;
          broken = broken_more sigs goals first q r ids old new t all s.broken
              (tried_one sigs goals first q id s.grown is_pred r r c.end c.verdict b (grown_none r))
              (c.one_more
              ∙ ap (λ k. old ++ broken_at (mode_in sigs k id.mode).at (Some c.told)) is_pred
              ∙ ap (λ (o : Option Fault). old ++ broken_at (mode_in sigs id.pred id.mode).at o) c.rule);
          ordered = λ e. absurd (not_none old _ (sym c.one_more ∙ e));
        }

    pub one_more : (r : PlainProcs) (new : List Broken) → Steps sigs g id.mode is_out q r old new → SoFar sigs goals exported first r (ids ++ id ∷ []) new
    one_more r new (inl c) = came r new c
    one_more r new (inr (inl c)) = passed r new c
    one_more r new (inr (inr c)) = listed r new c

  -- as many procedures came as modes were tried
  pub as_many : (first q : PlainProcs) (all : List ModeId) (i : ℕ) (old : List Broken) → i < length all → SoFar sigs goals exported first q (take i all) old → old ≡ [] → length q.added ≡ i
  as_many first q all i old l s none =
      sym (zip_length (IsOrdered sigs goals exported first q) (take i all) q.added (s.ordered none)) ∙ length-take-le i all (omega arith)

  pub is_next : (first q : PlainProcs) (i : ℕ) (id : ModeId) (g : Normal) (old : List Broken) → i < length (mode_ids first.program sigs) → IsNumbered first sigs → id ≡ get_or (mode_ids first.program sigs) i id → g.pred ≡ id.pred → SoFar sigs goals exported first q (take i (mode_ids first.program sigs)) old → old ≡ [] → IsNext q g
  is_next first q i id g old l n is p s none =
      let all = mode_ids first.program sigs in
      let many : length q.added ≡ i = as_many first q all i old l s none in
      let preds : q.preds ≡ map (λ (m : ModeId). m.pred) all = s.grown.preds ∙ n.preds in
      let there : length q.preds ≡ length all = ap length preds ∙ length-map all (λ (m : ModeId). m.pred) in
      let at : get_or (map (λ (m : ModeId). m.pred) all) i 0 ≡ (get_or all i id).pred = get_or-map (λ (m : ModeId). m.pred) all i id 0 l in (
        omega arith,
        p ∙ ap (λ (m : ModeId). m.pred) is ∙ sym at ∙ ap (λ ps. get_or ps i 0) (sym preds) ∙ ap (λ k. get_or q.preds k 0) (sym many),
      )
