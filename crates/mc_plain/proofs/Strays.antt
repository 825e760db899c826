-- Steps of a run that is stuck, and a resume point that is taken, whichever it is.
use Rattle.std.proofs.Common.{◌≡◌, ℕ, suc, ◌<◌, ◌≤◌, ◌⊎◌, inl, inr, Bool, true, false, refl, sym, ap, subst, ◌∙◌, cond, leb, ◌&&◌, Option, None, List, [], ◌∷◌, length, arith}
use Rattle.std.proofs.lemmas.Bool.Decides.{leb_tells}
use Rattle.mc_program.specs.Values.{Val}
use Rattle.mc_program.specs.declared.builtin.Builtin.{Builtin}
use Rattle.mc_model.specs.Outcomes.{Outcome}
use Rattle.mc_model.specs.Stream.{Bindings}
use Rattle.mc_flat_code.specs.Ticked.{End, Stuck, Tick, append}
use Rattle.mc_flat_code.specs.Running.{instr_at, list_at, list_to, call_list, IsCode}
use Rattle.mc_flat_code.specs.declared.code.Instr.{Instr}
use Rattle.mc_flat_code.specs.declared.code.FlatProgram.{FlatProgram}
use Rattle.mc_plain.specs.code.Machine.{Continuation, Segment, Point, resume, held, at, failing, stuck, resumed, close, Machine, Whole, left, left_of, Moved, went_back, went_out}
use Rattle.mc_plain.proofs.Moves as V
use Rattle.mc_plain.proofs.Steps as S

both_true : (a b : Bool) → (a && b) ≡ true → (a ≡ true) × (b ≡ true)
both_true true true e = (refl, refl)
both_true true false e = absurd (cc)
both_true false b e = absurd (cc)

either_way : (b : Bool) → (b ≡ true) ⊎ (b ≡ false)
either_way true = inl refl
either_way false = inr refl

leb_means : (a b : ℕ) → leb a b ≡ true → a ≤ b
leb_means a b e = grind (arith, leb_tells)

module _ (outcome : Builtin → List Val → Outcome) (f : FlatProgram) (o : IsCode f.code) (head last : List ℕ) (M : Machine) (w : Whole M) where
  abbrev gone : Machine
  gone = record M { now = stuck }

  -- a place without a goal
  pub absent_moved : (pc : ℕ) → M.now ≡ at pc → instr_at f.code pc ≡ None → Moved outcome f head last M gone
  absent_moved pc n q =
      S.moved_tick outcome f o head last M gone
      (S.at_now outcome f o head last M w (at pc) n
      ∙ ap (λ (i : Option Instr). V.seen outcome f head last M.budget (close outcome f M.points M.segments M.base (append (Tick (list_at outcome f.code (call_list outcome f M.level) M.height (list_to outcome f.code (call_list outcome f M.level) M.height pc) i M.bindings)) (resumed outcome f M.points M.level M.height M.base (length M.points))))) q
      ∙ ap (λ l. V.seen outcome f head last M.budget l) (V.tick_close outcome f M.points M.segments M.base _)
      ∙ ap (λ l. Tick (V.seen outcome f head last M.budget l)) (V.stuck_close outcome f M.points M.segments M.base))
      (omega arith) (record { base = w.base; ordered = w.ordered })

  module _ (n : M.now ≡ failing) where
    -- a goal that was run apart, whose resume points don't lie among those of what is around it
    module _ (k : Continuation) (e : Bindings) (m h lo : ℕ) (pts : List Point) (x : M.points ≡ held k e m h lo ∷ pts) (b : M.base ≤ length pts) (bad : (leb M.base lo && leb lo (length pts)) ≡ false) where
      lost_resumed : resumed outcome f (held k e m h lo ∷ pts) M.level M.height M.base (suc (length pts)) ≡ Stuck
      lost_resumed =
          V.cond_false _ _ _ (V.leb_above (suc (length pts)) (length pts) (omega arith))
          ∙ V.cond_false _ _ _ (V.ltb_not (length pts) M.base b)
          ∙ V.cond_false _ _ _ bad

      lost : Machine
      lost = record M { points = pts; now = stuck }

      lost_moved : Moved outcome f head last M (record M { points = pts; now = stuck })
      lost_moved =
          let pl : length M.points ≡ suc (length pts) = ap length x in
          S.moved_same outcome f o head last M (record M { points = pts; now = stuck })
          (S.at_now outcome f o head last M w failing n
          ∙ ap (λ l. V.seen outcome f head last M.budget (close outcome f l M.segments M.base (resumed outcome f l M.level M.height M.base (length l)))) x
          ∙ ap (λ l. V.seen outcome f head last M.budget (close outcome f (held k e m h lo ∷ pts) M.segments M.base l)) lost_resumed
          ∙ ap (λ l. V.seen outcome f head last M.budget l) (V.stuck_close outcome f (held k e m h lo ∷ pts) M.segments M.base))
          (omega arith) (record { base = b; ordered = w.ordered })

    back_to : (ps : List Point) → M.points ≡ ps → M.base < length ps → Moved outcome f head last M (went_back M ps)
    back_to [] x b = absurd (omega arith)
    back_to (resume pc e ∷ ps) x b = S.point_moved outcome f o head last M w n pc e ps x (omega arith)
    back_to (held k e m h lo ∷ ps) x b =
        elim (either_way (leb M.base lo && leb lo (length ps))) [
          | inl y ↦
              let both : (leb M.base lo ≡ true) × (leb lo (length ps) ≡ true) = both_true (leb M.base lo) (leb lo (length ps)) y in
              subst (λ t. Moved outcome f head last M (cond t (record M { points = ps; segments = record { around = k; bindings = e; level = M.level; height = M.height; below = M.base } ∷ M.segments; base = lo; level = m; height = h }) (record M { points = ps; now = stuck }))) (sym y)
              (S.again_moved outcome f o head last M w n k e m h lo ps x (leb_means M.base lo both.0) (leb_means lo (length ps) both.1))
          | inr y ↦
              subst (λ t. Moved outcome f head last M (cond t (record M { points = ps; segments = record { around = k; bindings = e; level = M.level; height = M.height; below = M.base } ∷ M.segments; base = lo; level = m; height = h }) (record M { points = ps; now = stuck }))) (sym y)
              (lost_moved k e m h lo ps x (omega arith) y)
        ]

    pub back_moved : M.base < length M.points → Moved outcome f head last M (went_back M M.points)
    back_moved b = back_to M.points refl b

    out_of : (ss : List Segment) → M.segments ≡ ss → length M.points ≤ M.base → 0 < length ss → Moved outcome f head last M (went_out M ss)
    out_of [] x low b = absurd (omega arith)
    out_of (s ∷ ss) x low b = S.leave_moved outcome f o head last M w n s ss x low

    pub out_moved : length M.points ≤ M.base → 0 < length M.segments → Moved outcome f head last M (went_out M M.segments)
    out_moved low b = out_of M.segments refl low b

-- a run that fails in the end has nothing left
pub end_left : (outcome : Builtin → List Val → Outcome) (f : FlatProgram) (head last : List ℕ) (M : Machine) → M.now ≡ failing → M.segments ≡ [] → length M.points ≤ M.base → left outcome f head last M ≡ End
end_left outcome f head last M n z x =
    ap (λ k. left_of outcome f head last M.budget M.points M.segments M.base M.level M.height M.bindings k) n
    ∙ V.end_left outcome f head last M.budget M.points M.segments M.base M.level M.height M.bindings z x
