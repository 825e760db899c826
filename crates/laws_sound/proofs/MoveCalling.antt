-- A call moves the world as it should, where its run does.
use Rattle.std.proofs.Common.{◌≡◌, ℕ, zero, suc, List, [], ◌∷◌, map, Bool, true, false, Option, Some, None, ap, arith, ⊎_elim}
use Rattle.mc_program.specs.Values.{Val}
use Rattle.mc_program.specs.Programs.{TypeTerm}
use Rattle.mc_model.specs.Lists.{In, Among}
use Rattle.mc_model.specs.EventList.{Items, Each, bind, of_option}
use Rattle.mc_model.specs.Stream.{Bindings, unify, below, at_height}
use Rattle.mc_model.specs.Scheduled.{Procedure}
use Rattle.mc_accepted.specs.Ordered.{Insts, zipped, modes_of_procedure, Usable, After, unless_never}
use Rattle.mc_accepted.specs.Determined.{leaves_dead, is_dead}
use Rattle.mc_model.specs.Good.{System, TypeChoice, types_of}
use Rattle.mc_accepted.specs.ProperTypes.{Parameters, ProperType}
use Rattle.mc_accepted.specs.Fits.{Fits}
use Rattle.laws_sound.specs.code.Passes.{Grows, BindsOnly, Reached, TypedAt}
use Rattle.laws_sound.specs.code.Moves.{Calm, World, Flow, Moves, Live, Holds, HoldsAfter, Tells, TidyModes, OnePlace, Taken, TakenAt, Handed, ReturnedBy, LentBy, EachShares, SharesAt}
use Rattle.mc_source.specs.declared.det.Most.{Most}
use Rattle.mc_source.specs.declared.det.Most.TheVariants.{Zero, One, Many}
use Rattle.laws_sound.proofs.Arguments
use Rattle.laws_sound.proofs.MoveCalls
use Rattle.laws_sound.proofs.MoveLists
use Rattle.laws_sound.proofs.MoveAtoms.{StillAfter}
use Rattle.laws_sound.proofs.MoveQuiet.{call_lent}
use Rattle.laws_sound.proofs.MoveReturns.{call_flows}
use Rattle.std.proofs.lemmas.Bool.{or_left, or_right}

pub calm_moves : {A : Type 0} (Q : World → A → Type 0) (io one : Bool) (W : World) (xs : Items A) → Calm (Q W) xs → Moves Q io one W xs
calm_moves Q false one W xs h = h
calm_moves Q true one W xs h = MoveLists.calm_flow Q one W xs h

flow_moves : {A : Type 0} (Q : World → A → Type 0) (io one : Bool) (W : World) (xs : Items A) → io ≡ true → Flow Q false W xs → Moves Q io one W xs
flow_moves Q true one W xs q h = MoveLists.flow_some Q one W xs h
flow_moves Q false one W xs q h = absurd (no q)
  where
    no : false ≡ true → ⊥
    no e = cc

module _ (S : System) (D : Parameters) (F : Fits S D) (θ : TypeChoice) (T : ℕ → TypeTerm) (proper : (x : ℕ) → ProperType D (T x)) where
  taken_dead : (y : ℕ) (is ls xs : List ℕ) → TakenAt S y (zipped is ls) xs → leaves_dead S T ls ≡ true
  taken_dead y [] ls xs h = absurd h
  taken_dead y (i ∷ is) [] xs h = absurd h
  taken_dead y (i ∷ is) (l ∷ ls) [] h = absurd h
  taken_dead y (i ∷ is) (l ∷ ls) (x ∷ xs) h = ⊎_elim (λ q. or_left (is_dead (S.insts l)) (leaves_dead S T ls) (ap is_dead q.1)) (λ q. or_right (is_dead (S.insts l)) (leaves_dead S T ls) (taken_dead y is ls xs q)) h

  module _ (σ : ℕ → TypeTerm) (b : Insts) (e : Bindings) (p : Procedure) (tidy : TidyModes S (modes_of_procedure p) (types_of S p)) (xs : List ℕ) (c : Insts) (L : List ℕ) (us : Usable S T (modes_of_procedure p) xs b) (after : After S T (modes_of_procedure p) xs b c) (types : Arguments.TypesAt S D F θ T proper σ xs (types_of S p)) (typed : TypedAt S θ T xs b e) where
    unless_after : (m : Most) (zs : Items Bindings) → Each (λ a. Grows e a × (BindsOnly xs e a × Reached S θ T L (unless_never m c) a)) zs → Calm (StillAfter S D F T L b e (Some c)) zs → Calm (StillAfter S D F T L b e (unless_never m c)) zs
    unless_after Zero zs i h = MoveLists.calm_each (λ a. Grows e a × (BindsOnly xs e a × ⊥)) (StillAfter S D F T L b e (Some c)) (StillAfter S D F T L b e None) (λ a j q. absurd j.1.1) zs i h
    unless_after One zs i h = h
    unless_after Many zs i h = h

    -- a call that takes no state
    pub lent_after : (I : List (Option Val) → Type 0) (ys : Items (List (Option Val))) → Each I ys → ((os : List (Option Val)) → I os → EachShares S p.last (types_of S p) os → Each (SharesAt S T L c) (of_option (unify xs os e))) → Each (λ a. Grows e a × (BindsOnly xs e a × Reached S θ T L (unless_never p.det.most c) a)) (bind ys (λ os. of_option (unify xs os e))) →
        Calm (LentBy S p) ys → Calm (StillAfter S D F T L b e (unless_never p.det.most c)) (bind ys (λ os. of_option (unify xs os e)))
    lent_after I ys i sh j f =
        unless_after p.det.most (bind ys (λ os. of_option (unify xs os e))) j
        (call_lent S D F T θ proper σ b e L (modes_of_procedure p) xs (types_of S p) c I (LentBy S p) ys us tidy types typed after i (λ os z. z.0) (λ os k z. sh os k z.1) f)

    pub height_calm : (P : Bindings → Type 0) (last : Bool) (h : ℕ) (f : ℕ → Items Bindings) → ((k : ℕ) → Calm P (f k)) → Calm P (at_height last h f)
    height_calm P true h f s = s h
    height_calm P false zero f s = tt
    height_calm P false (suc h) f s = s h

    module _ (W : World) (M : List ℕ) (hw : Holds S T W M b e) (lm : Among L M) (xm : Among xs M) (one : Bool) where
      -- a call that takes the state
      call_reached : (I : List (Option Val) → Type 0) (ys : Items (List (Option Val))) → (y : ℕ) → In y xs → Live S T b y → TakenAt S y (modes_of_procedure p) xs → Each I ys → ((os : List (Option Val)) → I os → EachShares S p.last (types_of S p) os → Each (SharesAt S T L c) (of_option (unify xs os e))) →
          (OnePlace Taken (modes_of_procedure p) → Handed (modes_of_procedure p) (map e xs) (Tells W) → Flow (ReturnedBy S p) false W ys) → Moves (HoldsAfter S T L (Some c)) (leaves_dead S T p.last) one W (bind ys (λ os. of_option (unify xs os e)))
      call_reached I ys y yi ly ty i sh moved =
          let h = MoveCalls.handed S D F θ T proper σ b e W M hw y (xm y yi) ly xs (modes_of_procedure p) xs (types_of S p) ty (omega (arith, MoveCalls.taken_once S T b xs y (modes_of_procedure p) xs us ty)) us tidy types typed xm in
          flow_moves (HoldsAfter S T L (Some c)) (leaves_dead S T p.last) one W (bind ys (λ os. of_option (unify xs os e))) (taken_dead y p.first p.last xs ty) (call_flows S D F T W M L (modes_of_procedure p) xs b c e I (ReturnedBy S p) ys i after lm hw y (xm y yi) ly ty (λ V os z. z.0) (λ V os j z. sh os j z.1) (moved h.0 h.1))

      unless_moves : (m : Most) (io : Bool) (zs : Items Bindings) → Each (λ a. Grows e a × (BindsOnly xs e a × Reached S θ T L (unless_never m c) a)) zs → Moves (HoldsAfter S T L (Some c)) io one W zs → Moves (HoldsAfter S T L (unless_never m c)) io one W zs
      unless_moves Zero io zs i h = MoveLists.moves_each (λ a. Grows e a × (BindsOnly xs e a × ⊥)) (HoldsAfter S T L (Some c)) (HoldsAfter S T L None) (λ V a j q. absurd j.1.1) io one W zs i h
      unless_moves One io zs i h = h
      unless_moves Many io zs i h = h

      below_moves : (Q : World → Bindings → Type 0) (io : Bool) (h : ℕ) (f : ℕ → Items Bindings) → ((k : ℕ) → Moves Q io one W (f k)) → Moves Q io one W (below h f)
      below_moves Q false zero f s = tt
      below_moves Q true zero f s = tt
      below_moves Q io (suc h) f s = s h

      pub height_moves : (Q : World → Bindings → Type 0) (io last : Bool) (h : ℕ) (f : ℕ → Items Bindings) → ((k : ℕ) → Moves Q io one W (f k)) → Moves Q io one W (at_height last h f)
      height_moves Q io true h f s = s h
      height_moves Q io false h f s = below_moves Q io h f s

      pub call_moves : (I : List (Option Val) → Type 0) (ys : Items (List (Option Val))) → (y : ℕ) → In y xs → Live S T b y → TakenAt S y (modes_of_procedure p) xs → Each I ys → ((os : List (Option Val)) → I os → EachShares S p.last (types_of S p) os → Each (SharesAt S T L c) (of_option (unify xs os e))) →
          Each (λ a. Grows e a × (BindsOnly xs e a × Reached S θ T L (unless_never p.det.most c) a)) (bind ys (λ os. of_option (unify xs os e))) → (OnePlace Taken (modes_of_procedure p) → Handed (modes_of_procedure p) (map e xs) (Tells W) → Flow (ReturnedBy S p) false W ys) →
          Moves (HoldsAfter S T L (unless_never p.det.most c)) (leaves_dead S T p.last) one W (bind ys (λ os. of_option (unify xs os e)))
      call_moves I ys y yi ly ty i sh j moved = unless_moves p.det.most (leaves_dead S T p.last) (bind ys (λ os. of_option (unify xs os e))) j (call_reached I ys y yi ly ty i sh moved)
