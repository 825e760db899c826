-- Procedures that take no state are calm, and make none: entry, exit, and levels of calls.
use Rattle.std.proofs.Common.{◌≡◌, ◌≢◌, inl, inr, ℕ, zero, suc, List, [], ◌∷◌, ◌++◌, map, length, Bool, true, false, cond, nat_eq, Option, Some, None, refl, sym, ◌∙◌, subst}
use Rattle.std.proofs.lemmas.Bool.{eqb-true, eq-eqb, ne_eqb}
use Rattle.mc_program.specs.Values.{Val}
use Rattle.mc_program.specs.Programs.{TypeTerm}
use Rattle.mc_model.specs.Insts.{InstNode, free, ground, unique, dead, bound}
use Rattle.mc_model.specs.Flat.{variables_of}
use Rattle.mc_model.specs.Lists.{In, Distinct}
use Rattle.mc_model.specs.EventList.{End, Stuck, Answer, bind}
use Rattle.mc_model.specs.Stream.{Bindings, Calls, calls, body_items, enter, leave, ready, pruned_to, stream}
use Rattle.mc_model.specs.Scheduled.{Procedure}
use Rattle.mc_model.specs.Good.{System, TypeChoice, Given, types_of}
use Rattle.mc_accepted.specs.Inclusion.{IncludedNodes, NoMore}
use Rattle.mc_accepted.specs.BuiltinTypes.{Library_types}
use Rattle.mc_accepted.specs.ProperTypes.{Parameters, ProperType}
use Rattle.mc_accepted.specs.Ordered.{Insts, zipped, modes_of_procedure, variables_of_node}
use Rattle.mc_accepted.specs.Determined.{nothing_known}
use Rattle.mc_accepted.specs.Fits.{FitsProcedure, Fits, goal_of, type_of}
use Rattle.mc_accepted.specs.Accepted.{entered, Final, FinalAfter, AcceptedProcedure, Accepted}
use Rattle.laws_sound.specs.code.Passes.{Grows, BindsOnly, TypedAt, Reached, Sound, CallsSound}
use Rattle.mc_accepted.specs.IoFits.{FitsIo}
use Rattle.laws_sound.specs.code.Moves.{Calm, Live, SharesAt, TidyModes, TidyProcedures, EachShares, Lends, MakesNone, LentBy, CallsLend, Lent, LiveWithin, LentAfter, Survives}
use Rattle.laws_sound.proofs.Entry.{lined, known_none, enter_typed, enter_closed, given_ready, from_distinct, cond_true, calls_sound}
use Rattle.laws_sound.proofs.LendSound.{lends_node}
use Rattle.laws_sound.proofs.MoveArms.{calm_pruned}
use Rattle.laws_sound.proofs.MoveEntry.{enter_shares, exit_shares, exit_live, less}
use Rattle.laws_sound.proofs.MoveLists
use Rattle.laws_sound.proofs.Sound as Sounds
use Rattle.laws_language.proofs.FlatGoals.{in_left, in_right}
use Rattle.laws_sound.proofs.Binds.{true_not_false}

not_dead_in : (N K : InstNode) (Q : Type 0) → IncludedNodes N K Q → K ≢ dead → N ≢ dead
not_dead_in free K Q h n = λ e. cc
not_dead_in ground K Q h n = λ e. cc
not_dead_in unique K Q h n = λ e. cc
not_dead_in (bound ls) K Q h n = λ e. cc
not_dead_in dead free Q h n = absurd h
not_dead_in dead ground Q h n = absurd h
not_dead_in dead unique Q h n = absurd h
not_dead_in dead dead Q h n = absurd (n refl)
not_dead_in dead (bound ls) Q h n = absurd h

-- the arguments that are unique at the call
abbrev pub lent_at : List ℕ → List ℕ → Lent
lent_at ys is = λ x. nat_eq (entered ys is x) 2

module _ (S : System) (D : Parameters) (F : Fits S D) (θ : TypeChoice) (p : Procedure) (proper : (x : ℕ) → ProperType D (type_of S p x)) where
  abbrev T : ℕ → TypeTerm
  T = type_of S p

  -- they are alive at the end
  final_alive : (ys is ls : List ℕ) (c : Insts) → length is ≡ length ls → Final S p ys ls c → Lends S (zipped is ls) → (x : ℕ) → lent_at ys is x ≡ true → In x ys × (S.insts (c x) ≢ dead)
  final_alive [] is ls c e f n x h = absurd (true_not_false (sym h))
  final_alive (y ∷ ys) [] ls c e f n x h = absurd (true_not_false (sym h))
  final_alive (y ∷ ys) (i ∷ is) [] c e f n x h = absurd f
  final_alive (y ∷ ys) (i ∷ is) (l ∷ ls) c e f n x h = on (nat_eq x y) refl h (final_alive ys is ls c (less (length is) (length ls) e) f.1 n.1 x)
    where
      on : (t : Bool) → nat_eq x y ≡ t → nat_eq (cond t i (entered ys is x)) 2 ≡ true → (lent_at ys is x ≡ true → In x ys × (S.insts (c x) ≢ dead)) → In x (y ∷ ys) × (S.insts (c x) ≢ dead)
      on true t h k = (inl (eqb-true x y t), subst (λ z. S.insts (c z) ≢ dead) (sym (eqb-true x y t)) (not_dead_in (S.insts (c y)) (S.insts l) (NoMore S.world.source S.insts (c y) l (T y)) f.0 (n.0 (eqb-true i 2 h))))
      on false t h k = let r = k h in (inr r.0, r.1)

  survives : (o : Option Insts) → length p.first ≡ length p.last → FinalAfter S p o → Lends S (modes_of_procedure p) → Survives S T (lent_at p.head p.first) p.head o
  survives None e f n = tt
  survives (Some c) e f n = λ x h. final_alive p.head p.first p.last c e f n x h

  here : (y i : ℕ) (ys is : List ℕ) → lent_at (y ∷ ys) (i ∷ is) y ≡ true → i ≡ 2
  here y i ys is h = on (nat_eq y y) (eq-eqb y y refl) h
    where
      on : (t : Bool) → t ≡ true → nat_eq (cond t i (entered ys is y)) 2 ≡ true → i ≡ 2
      on true e h = eqb-true i 2 h
      on false e h = absurd (true_not_false (sym e))

  rest : (x y i : ℕ) (ys is : List ℕ) → (x ≡ y → ⊥) → lent_at (y ∷ ys) (i ∷ is) x ≡ true → lent_at ys is x ≡ true
  rest x y i ys is n h = subst (λ t. nat_eq (cond t i (entered ys is x)) 2 ≡ true) (ne_eqb x y n) h

  exit_makes : (ys is ls : List ℕ) (ts : List TypeTerm) (c : Insts) (a : Bindings) → Distinct ys → length is ≡ length ls → map T ys ≡ ts → TidyModes S (zipped is ls) ts → Final S p ys ls c → TypedAt S θ T ys c a → ((x : ℕ) → In x ys → Live S T c x → lent_at ys is x ≡ true) → MakesNone (zipped is ls)
  exit_makes ys [] ls ts c a di e m d f t w = tt
  exit_makes ys (i ∷ is) [] ts c a di e m d f t w = tt
  exit_makes [] (i ∷ is) (l ∷ ls) ts c a di e m d f t w = absurd f
  exit_makes (y ∷ ys) (i ∷ is) (l ∷ ls) [] c a di e m d f t w = absurd d
  exit_makes (y ∷ ys) (i ∷ is) (l ∷ ls) (u ∷ ts) c a di e m d f t w = (
    (λ q. here y i ys is (w y (inl refl) (exit_live S D F θ p proper y l c (a y) q (Sounds.cons_front (T y) u (map T ys) ts m ∙ d.1 q) f.0 (t y (inl refl))))),
    exit_makes ys is ls ts c a di.1 (less (length is) (length ls) e) (Sounds.cons_rest (T y) u (map T ys) ts m) d.2 f.1 (λ z i. t z (inr i)) (λ x j v. rest x y i ys is (λ q. di.0 (subst (λ z. In z ys) q j)) (w x (inr j) v)),
  )

  exit_lent : (o : Option Insts) (a : Bindings) → Distinct p.head → length p.first ≡ length p.last → map T p.head ≡ types_of S p → TidyModes S (modes_of_procedure p) (types_of S p) → FinalAfter S p o → Reached S θ T p.head o a → LentAfter S T (lent_at p.head p.first) p.head o a → LentBy S p (leave p.head p.last a)
  exit_lent None a di e m d f t h = absurd h
  exit_lent (Some c) a di e m d f t h = (exit_makes p.head p.first p.last (types_of S p) c a di e m d f t h.0, exit_shares S D F θ p proper p.head p.last (types_of S p) c a m f h.1 t)

module _ (S : System) (D : Parameters) (F : Fits S D) (accepted : Accepted S) (tidy : TidyProcedures S) (lib : Library_types) (io : FitsIo S.world lib) where
  body_lends : (C : Calls) → CallsSound S C → CallsLend S C → (θ : TypeChoice) (h : ℕ) (p : Procedure) (vs : List (Option Val)) → FitsProcedure S D p → AcceptedProcedure S p → TidyModes S (modes_of_procedure p) (types_of S p) → Given S θ p.first (types_of S p) vs → EachShares S p.first (types_of S p) vs → Lends S (modes_of_procedure p) → Calm (LentBy S p) (body_items S.world.outcome C h p vs)
  body_lends C called lends θ h p vs fit r td g es n =
      let T = type_of S p in
      let e : Bindings = enter p.head p.first vs in
      let b = entered p.head p.first in
      let V = variables_of (goal_of S p).body in
      let M = p.head ++ V in
      let N : Lent = lent_at p.head p.first in
      let et = enter_typed S θ T p.head p.first (types_of S p) vs fit.head_types g in
      let len = r.lengths.0 ∙ sym r.lengths.1 in
      let ec = enter_closed p.head p.first vs in
      let w : LiveWithin S T N M b = λ x i l. eq-eqb (b x) 2 l.1 in
      let sm : SharesAt S T M b e = λ x i d v q. enter_shares S T p.head p.first (types_of S p) vs fit.head_types es x d v q in
      let xs = stream S.world.outcome C h p.body e in
      let s : Sound S θ T nothing_known p.head _ e r.after _ xs = Sounds.sound_node S D F C called (lined S D F accepted) T fit.types θ r.ordered fit.typed nothing_known h p.head (λ x i. i) e ec (λ x i. et x) (λ x i. et x) in
      let m = lends_node S D F C called (lined S D F accepted) T fit.types θ lends tidy lib io r.ordered fit.typed nothing_known h p.det.committed r.io p.head (λ x i. i) e ec (λ x i. et x) (λ x i. et x) (known_none S D F accepted e) N M w sm (λ x i. in_left x p.head V i) (λ x i. in_right x p.head V i) (inr (survives S D F θ p fit.types r.after len r.final n)) in
      let dh : Distinct p.head = subst Distinct (sym r.head) (from_distinct 0 (goal_of S p).arity) in
      cond_true (λ ys. Calm (LentBy S p) ys) (ready p.first vs) (pruned_to p.det.committed (bind xs (λ a. Answer (leave p.head p.last a) End))) Stuck (given_ready S θ p.first (types_of S p) vs g)
      (calm_pruned (LentBy S p) p.det.committed (bind xs (λ a. Answer (leave p.head p.last a) End))
      (MoveLists.calm_bind_each (λ a. Answer (leave p.head p.last a) End) (λ a. Grows e a × (BindsOnly (variables_of_node p.body) e a × Reached S θ T p.head r.after a)) (LentAfter S T N p.head r.after) (LentBy S p) xs s.each m
      (λ a j q. (exit_lent S D F θ p fit.types r.after a dh len fit.head_types td r.final j.1.1 q, tt))))

  pub calls_lend : (n : ℕ) → CallsLend S (calls S.world.outcome S.procs n)
  calls_lend zero θ h k vs l g es lent = tt
  calls_lend (suc n) θ h k vs l g es lent = body_lends (calls S.world.outcome S.procs n) (calls_sound S D F accepted n) (calls_lend n) θ h (S.procs k) vs (F.procedures k l) (accepted k l) (tidy k l) g es lent
