-- Calls as atoms.
use Rattle.std.proofs.Common.{◌≡◌, ℕ, ◌<◌, List, length, map, Bool, Option, ⊎_elim}
use Rattle.mc_program.specs.Values.{Val}
use Rattle.mc_program.specs.Programs.{TypeTerm}
use Rattle.mc_model.specs.Lists.{Among}
use Rattle.mc_model.specs.EventList.{Items, Each, bind, of_option}
use Rattle.mc_model.specs.Stream.{Bindings, Calls, is_bound, unify, stream_of}
use Rattle.mc_model.specs.Scheduled.{Call}
use Rattle.mc_accepted.specs.Ordered.{Insts, After, Usable, modes_of_procedure, implied_places, unless_never}
use Rattle.mc_accepted.specs.Determined.{Known, leaves_dead}
use Rattle.mc_accepted.specs.Typing.{TypedGoal}
use Rattle.mc_model.specs.Good.{System, TypeChoice, Shape, Given, Keeps, types_of}
use Rattle.mc_accepted.specs.ProperTypes.{Parameters, ProperType}
use Rattle.mc_accepted.specs.Fits.{Fits}
use Rattle.laws_sound.specs.code.Passes.{Grows, BindsOnly, TypedAt, CallsSound}
use Rattle.laws_sound.specs.code.Moves.{Calm, World, Moves, Holds, HoldsAfter, TidyProcedures, CallsMove, CallsLend, Lends, EachShares, SharesAt}
use Rattle.mc_model.specs.Flat as G
use Rattle.laws_sound.proofs.Arguments
use Rattle.laws_sound.proofs.Callings
use Rattle.laws_sound.proofs.MoveAtoms.{StillAfter, still_holds}
use Rattle.laws_sound.proofs.MoveCalling
use Rattle.laws_sound.proofs.MoveCalls.{split}
use Rattle.laws_sound.proofs.MoveGiven.{after_shares, answer_shares, given_shares}
use Rattle.laws_sound.proofs.MoveReturns.{MatchAt, unify_at}
use Rattle.laws_sound.proofs.Lists
use Rattle.laws_sound.proofs.MoveLists
use Rattle.laws_sound.proofs.Sound.{map_types}
use Rattle.laws_sound.proofs.TypeInstances.{also_instance}

module _ (S : System) (D : Parameters) (F : Fits S D) (C : Calls) (called : CallsSound S C) (lends : CallsLend S C) (tidy : TidyProcedures S) (lined : (k : ℕ) → k < S.count → length (S.procs k).first ≡ length (S.procs k).last) (T : ℕ → TypeTerm) (proper : (x : ℕ) → ProperType D (T x)) (θ : TypeChoice) where
  module _ (b c : Insts) (p : ℕ) (xs : List ℕ) (last : Bool) (l : p < S.count) (us : Usable S T (modes_of_procedure (S.procs p)) xs b) (a0 : After S T (modes_of_procedure (S.procs p)) xs b c) (tg : TypedGoal S.world.source T (G.Call (S.procs p).pred xs)) (known : Known) (h : ℕ) (L : List ℕ) (e : Bindings) (ty : TypedAt S θ T xs b e) (li : TypedAt S θ T L b e) (M : List ℕ) (sm : SharesAt S T M b e) (lm : Among L M) (xm : Among xs M) where
    types : Arguments.TypesAt S D F θ T proper tg.0 xs (types_of S (S.procs p))
    types = map_types S T D F θ proper tg.0 xs (types_of S (S.procs p)) tg.1

    given : Given S (also_instance θ tg.0) (S.procs p).first (types_of S (S.procs p)) (map e xs)
    given = Arguments.usable_given S D F θ T proper tg.0 xs (S.procs p).first (S.procs p).last xs (types_of S (S.procs p)) b e (lined p l) us types ty

    shared : EachShares S (S.procs p).first (types_of S (S.procs p)) (map e xs)
    shared = given_shares S D F θ T proper tg.0 xs (S.procs p).first (S.procs p).last xs (types_of S (S.procs p)) b e us (lined p l) types (F.procedures p l).tidy.0 given ty (λ z i. sm z (xm z i))

    abbrev Answered : List (Option Val) → Type 0
    Answered os = Shape S (also_instance θ tg.0) (S.procs p).last (types_of S (S.procs p)) os × Keeps (S.procs p).first (map e xs) os

    shared_after : (k : ℕ) (os : List (Option Val)) → Answered os → EachShares S (S.procs p).last (types_of S (S.procs p)) os → Each (SharesAt S T L c) (of_option (unify xs os e))
    shared_after k os q sh =
        Lists.each_map (λ a. (Grows e a × (BindsOnly xs e a × TypedAt S θ T L c a)) × MatchAt xs os a) (SharesAt S T L c) (λ a m. after_shares S D F θ T proper a0 L M e a lm sm li m.0.1.1 m.0.0 (answer_shares S D F θ T proper tg.0 (S.procs p).first (S.procs p).last xs (types_of S (S.procs p)) os a types q.0 sh m.1)) (of_option (unify xs os e))
        (Lists.each_both (λ a. Grows e a × (BindsOnly xs e a × TypedAt S θ T L c a)) (MatchAt xs os) (of_option (unify xs os e)) (Callings.call_option S D F θ T proper known L (S.procs p) tg.0 xs b c e (C k p (map e xs)) types a0 given ty li (called (also_instance θ tg.0) k p (map e xs) l given) os q) (unify_at xs os e))

    abbrev run : Items Bindings
    run = stream_of S.world.outcome C h (Call p xs (implied_places 0 (modes_of_procedure (S.procs p)) xs (λ x. is_bound (b x))) last) e

    -- a call that takes no state
    pub lent_atom : Lends S (modes_of_procedure (S.procs p)) → Calm (StillAfter S D F T L b e (unless_never (S.procs p).det.most c)) run
    lent_atom n =
        MoveCalling.height_calm S D F θ T proper tg.0 b e (S.procs p) (tidy p l) xs c L us a0 types ty (StillAfter S D F T L b e (unless_never (S.procs p).det.most c)) last h (λ k. bind (C k p (map e xs)) (λ vs. of_option (unify xs vs e)))
        (λ k.
        let s = called (also_instance θ tg.0) k p (map e xs) l given in
        MoveCalling.lent_after S D F θ T proper tg.0 b e (S.procs p) (tidy p l) xs c L us a0 types ty Answered (C k p (map e xs)) s.each (shared_after k)
        (Callings.call_sound S D F θ T proper known L (S.procs p) tg.0 xs b c e (C k p (map e xs)) types a0 given ty li s).each (lends (also_instance θ tg.0) k p (map e xs) l given shared n))

    pub call_atom : (moved : CallsMove S C) (W : World) → Holds S T W M b e → (one : Bool) → Moves (HoldsAfter S T L (unless_never (S.procs p).det.most c)) (leaves_dead S T (S.procs p).last) one W run
    call_atom moved W hw one =
        let o = unless_never (S.procs p).det.most c in
        ⊎_elim
        (λ n. MoveCalling.calm_moves (HoldsAfter S T L o) (leaves_dead S T (S.procs p).last) one W run (MoveLists.calm_map (StillAfter S D F T L b e o) (HoldsAfter S T L o W) (still_holds S D F T W M L b e o lm hw) run (lent_atom n)))
        (λ y.
        MoveCalling.height_moves S D F θ T proper tg.0 b e (S.procs p) (tidy p l) xs c L us a0 types ty W M hw lm xm one (HoldsAfter S T L o) (leaves_dead S T (S.procs p).last) last h (λ k. bind (C k p (map e xs)) (λ vs. of_option (unify xs vs e)))
        (λ k.
        let s = called (also_instance θ tg.0) k p (map e xs) l given in
        MoveCalling.call_moves S D F θ T proper tg.0 b e (S.procs p) (tidy p l) xs c L us a0 types ty W M hw lm xm one Answered (C k p (map e xs)) y.0 y.1 y.2 y.3 s.each (shared_after k)
        (Callings.call_sound S D F θ T proper known L (S.procs p) tg.0 xs b c e (C k p (map e xs)) types a0 given ty li s).each
        (λ r q. moved (also_instance θ tg.0) k p (map e xs) l given shared W r q)))
        (split S D F θ T proper tg.0 b e xs (modes_of_procedure (S.procs p)) xs (types_of S (S.procs p)) us (tidy p l) types ty)
