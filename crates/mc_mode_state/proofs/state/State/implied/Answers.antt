use Rattle.std.proofs.Common.{◌≡◌, ◌∙◌, ◌<◌, ◌≤◌, ◌+◌, ◌++◌, ◌∷◌, ◌&&◌, [], ℕ, Bool, List, not, if◌then◌else◌, true, false, length, get_or, ap, ap₂, sym, arith, length-append}
use Rattle.std.proofs.lemmas.List.{get_or_read}
use Rattle.mc_model.specs.Stream.{is_bound}
use Rattle.mc_mode_state.specs.States.{point_of}
use Rattle.mc_mode_state.specs.code.Given.{there_before}
use Rattle.mc_mode_state.proofs.Numbers.{number-at}
use Rattle.mc_mode_state.proofs.Implied.{rest_from, implied-on}
use Rattle.mc_mode_state.proofs.state.State.implied.Goals as goal

one_more : (t : Bool) (ps qs : List ℕ) (k : ℕ) → qs ≡ (if t then ps ++ k ∷ [] else ps) → length ps ≤ k → length qs ≤ k + 1
one_more true ps qs k e h = omega (arith, ap length e, length-append ps (k ∷ []))
one_more false ps qs k e h = omega (arith, ap length e)

pub is_there-is_there-requires : goal.is_there-is_there-requires
is_there-is_there-requires c =
    number-at (length c.args.self.now.insts.items) c.args.xs.now c.loop-k.k c.requires.variables
    (omega (arith, c.loop-k-test.true, c.len-k-end.ensures, c.requires.arguments))

pub loop-k-preserved : goal.loop-k-preserved
loop-k-preserved c =
    let fs = c.args.mode.now.first in
    let ls = c.args.mode.now.last in
    let xs = c.args.xs.now in
    let k = c.loop-k.k in
    let b = point_of c.args.self.now.insts.items in
    let ps = c.loop-k.places in
    let gs = c.loop-k.given.items in
    let x = get_or xs k 0 in
    let h : k < length fs = omega (arith, c.loop-k-test.true, c.len-k-end.ensures) in
    let i : k < length ls = omega (arith, h, c.requires.finals) in
    let j : k < length xs = omega (arith, h, c.requires.arguments) in
    let m : c.get.result.now ≡ get_or fs k 0 = get_or_read fs k c.get.result.now h c.get.ensures 0 in
    let n : c.get-in-loop-k.result.now ≡ get_or ls k 0 = get_or_read ls k c.get-in-loop-k.result.now i c.get-in-loop-k.ensures 0 in
    let o : c.is_output-is_output.result ≡ (not (is_bound (get_or fs k 0)) && is_bound (get_or ls k 0)) =
    c.is_output-is_output.ensures ∙ ap₂ (λ (u v : ℕ). not (is_bound u) && is_bound v) m n in
    let t : c.is_there-is_there.result ≡ there_before gs b x =
    c.is_there-is_there.ensures ∙ ap (λ (us : List ℕ). there_before us b x) c.deref.ensures.value in
    let e = c.in_ok-note.ensures in
    record {
      few = one_more (c.is_output-is_output.result && c.is_there-is_there.result) ps c.note.new.places k e.places c.loop-k.invariant.few;
      rest = ap₂ (λ (us vs : List ℕ). us ++ rest_from fs ls xs b (k + 1) vs)
          (e.places ∙ ap₂ (λ (u v : Bool). if u && v then ps ++ k ∷ [] else ps) o t)
          (e.given ∙ ap₂ (λ (u v : Bool). if u && not v then x ∷ gs else gs) o t)
          ∙ (sym (implied-on fs ls xs b ps gs k h i j) ∙ c.loop-k.invariant.rest);
    }
