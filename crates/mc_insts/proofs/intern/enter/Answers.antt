use Rattle.std.proofs.Common.{◌≡◌, ◌<◌, List, [], length, map, sym, ap, ◌∙◌, subst, arith}
use Rattle.mc_program.specs.Programs.{union_type}
use Rattle.mc_program.specs.PlainPrograms.{plain_type, type_terms}
use Rattle.mc_program.specs.declared.ty.Ty.{Ty}
use Rattle.mc_model.specs.Types.{instance_of}
use Rattle.mc_insts.specs.declared.intern.Frame.{Frame}
use Rattle.mc_insts.specs.code.TypeRows.{terms, terms_at}
use Rattle.mc_insts.specs.code.Frames.{rebuilt, FramesFit}
use Rattle.mc_insts.proofs.Results.{if_ok}
use Rattle.mc_insts.proofs.Climbing.{rebuilt_push, frames_push, entered, climbs_at, some_there}
use Rattle.mc_insts.proofs.intern.enter.Goals as goal

pub returns-then-is_empty-clause-climbed : goal.returns-then-is_empty-clause-climbed
returns-then-is_empty-clause-climbed c =
    let ts = terms c.args.types.now in
    let fs = c.args.frames.now.items in
    let none : c.args.args.now ≡ [] = c.is_empty.ensures.0 c.if-is_empty.true in
    if_ok _ _ c.leaf.result
    (λ x h σ. climbs_at σ _ _ _ _ x
    (ap (rebuilt ts σ fs)
    (ap (λ xs. union_type c.args.number (terms_at ts xs)) c.new-rows.ensures.items
    ∙ sym (ap (λ (zs : List Ty). union_type c.args.number (type_terms (map (instance_of σ) (map plain_type zs)))) none)))
    (h σ))
    c.leaf.ensures.climbed

pub returns-clause-climbed : goal.returns-clause-climbed
returns-clause-climbed c = λ σ.
    let ts = terms c.args.types.now in
    let fs = c.args.frames.now.items in
    let f : Frame = record { number = c.args.number; args = c.args.args; rows = c.new-rows.result } in
    let some : 0 < length c.args.args.now = some_there c.args.args.now (λ e. let x = c.is_empty.ensures.1 e in let y = c.if-is_empty.false in cc) in
    let count : length c.new-rows.result.items ≡ 0 = ap length c.new-rows.ensures.items in (
      ap (λ (gs : List Frame). rebuilt ts σ gs (instance_of σ (plain_type c.get.result.now))) c.in_ok-push.ensures.items
          ∙ rebuilt_push ts σ fs f (instance_of σ (plain_type c.get.result.now))
          ∙ ap (rebuilt ts σ fs) (entered ts σ f c.get.result.now c.new-rows.ensures.items some c.get.ensures),
      subst (λ (gs : List Frame). FramesFit (length ts) gs) (sym c.in_ok-push.ensures.items) (frames_push (length ts) fs f c.requires.fit (λ k lt. absurd (omega arith), omega arith)),
    )
