use Rattle.std.proofs.Common.{◌≡◌, ◌<◌, ◌≤◌, List, [], ◌∷◌, ◌++◌, length, get_or, sym, ap, ◌∙◌, subst, arith, refl}
use Rattle.mc_program.specs.PlainPrograms.{plain_type}
use Rattle.mc_model.specs.Types.{instance_of}
use Rattle.mc_insts.specs.declared.intern.Frame.{Frame}
use Rattle.mc_insts.specs.code.TypeRows.{terms, term_at, AllBelow}
use Rattle.mc_insts.specs.code.Frames.{rebuilt, FramesFit}
use Rattle.mc_insts.proofs.Growth.{extends_on, extends_length}
use Rattle.mc_insts.proofs.Climbing.{rebuilt_push, rebuilt_on, frames_more, frames_push, frames_front, frames_last, below_push, moved, closed}
use Rattle.mc_insts.proofs.intern.climb.Goals as goal

pub returns-then-next-len-clause-climbed : goal.returns-then-next-len-clause-climbed
returns-then-next-len-clause-climbed c = λ σ.
    let ts = terms c.loop-frame.types in
    let f : Frame = c.in-Some.frame in
    let g : Frame = record { number = f.number; args = f.args; rows = c.push.new.self } in
    let split : c.loop-frame.frames.items ≡ c.pop.new.self.items ++ f ∷ [] = c.in-Some.ensures.items in
    let fit : FramesFit (length ts) (c.pop.new.self.items ++ f ∷ []) = subst (λ (fs : List Frame). FramesFit (length ts) fs) split c.loop-frame.invariant.fit in
    let rows : g.rows.items ≡ f.rows.items ++ c.loop-frame.row ∷ [] = c.in_ok-push.ensures.items in
    let next : length g.rows.items < length g.args.now = omega arith in
    let place : c.len-next.result ≡ length c.push.new.self.items = omega arith in
    let whole : rebuilt ts σ (c.pop.new.self.items ++ g ∷ []) (instance_of σ (plain_type c.get-t.result.now)) ≡ rebuilt ts σ c.loop-frame.frames.items (term_at ts c.loop-frame.row) =
    rebuilt_push ts σ c.pop.new.self.items g (instance_of σ (plain_type c.get-t.result.now))
    ∙ ap (rebuilt ts σ c.pop.new.self.items) (moved ts σ f g c.loop-frame.row c.get-t.result.now refl refl rows next (c.get-t.ensures ∙ ap (λ k. get_or f.args.now k c.get-t.result.now) place))
    ∙ sym (rebuilt_push ts σ c.pop.new.self.items f (term_at ts c.loop-frame.row))
    ∙ ap (λ (fs : List Frame). rebuilt ts σ fs (term_at ts c.loop-frame.row)) (sym split) in
    let below : AllBelow (length ts) g.rows.items = subst (AllBelow (length ts)) (sym rows) (below_push (length ts) f.rows.items c.loop-frame.row (frames_last (length ts) c.pop.new.self.items f fit).0 c.loop-frame.invariant.there) in (
      ap (λ (fs : List Frame). rebuilt ts σ fs (instance_of σ (plain_type c.get-t.result.now))) c.in_ok-push-2.ensures.items ∙ whole ∙ c.loop-frame.invariant.same σ,
      subst (λ (fs : List Frame). FramesFit (length ts) fs) (sym c.in_ok-push-2.ensures.items) (frames_push (length ts) c.pop.new.self.items g (frames_front (length ts) c.pop.new.self.items f fit) (below, next)),
    )

pub insert-requires : goal.insert-requires
insert-requires c =
    let ts = terms c.loop-frame.types in
    let f : Frame = c.in-Some.frame in
    let fit : FramesFit (length ts) (c.pop.new.self.items ++ f ∷ []) = subst (λ (fs : List Frame). FramesFit (length ts) fs) c.in-Some.ensures.items c.loop-frame.invariant.fit in
    subst (AllBelow (length ts)) (sym c.in_ok-push.ensures.items) (below_push (length ts) f.rows.items c.loop-frame.row (frames_last (length ts) c.pop.new.self.items f fit).0 c.loop-frame.invariant.there)

pub loop-frame-preserved : goal.loop-frame-preserved
loop-frame-preserved c =
    let ts = terms c.loop-frame.types in
    let us = terms c.insert.new.self in
    let f : Frame = c.in-Some.frame in
    let split : c.loop-frame.frames.items ≡ c.pop.new.self.items ++ f ∷ [] = c.in-Some.ensures.items in
    let fit : FramesFit (length ts) (c.pop.new.self.items ++ f ∷ []) = subst (λ (fs : List Frame). FramesFit (length ts) fs) split c.loop-frame.invariant.fit in
    let front = frames_front (length ts) c.pop.new.self.items f fit in
    let le : length f.args.now ≤ length c.push.new.self.items = omega arith in
    record {
      there = c.in_ok-row.ensures.row.there;
      fit = frames_more (length ts) (length us) c.pop.new.self.items (extends_length ts us c.insert.ensures.extends) front;
      extends = extends_on _ ts us c.loop-frame.invariant.extends c.insert.ensures.extends;
      same = λ σ.
          rebuilt_on ts us σ c.pop.new.self.items (term_at us c.in_ok-row.row) c.insert.ensures.extends front
          ∙ ap (rebuilt ts σ c.pop.new.self.items) (c.in_ok-row.ensures.row.is ∙ closed ts σ f c.loop-frame.row c.push.new.self.items c.in_ok-push.ensures.items le)
          ∙ sym (rebuilt_push ts σ c.pop.new.self.items f (term_at ts c.loop-frame.row))
          ∙ ap (λ (fs : List Frame). rebuilt ts σ fs (term_at ts c.loop-frame.row)) (sym split)
          ∙ c.loop-frame.invariant.same σ;
    }
