use Rattle.std.proofs.Common.{◌≡◌, ◌∙◌, ◌<◌, List, length, map, sym, ap, subst, arith}
use Rattle.std.proofs.lemmas.Result.{IfOk-weaker}
use Rattle.mc_program.specs.PlainPrograms.{plain_type}
use Rattle.mc_program.specs.declared.ty.Ty.{Ty}
use Rattle.mc_model.specs.Types.{instance_of}
use Rattle.mc_self_check.specs.code.Bindings.{Agrees, Matched}
use Rattle.mc_self_check.proofs.TypeViews.{plain_type-Var}
use Rattle.mc_self_check.proofs.Agreeing.{matched_as, advanced, finished, union_matched}
use Rattle.mc_self_check.proofs.matching.+matching.Goals as goal

pub all_match-loop-place-preserved : goal.all_match-loop-place-preserved
all_match-loop-place-preserved t c =
    let old = c.args.bound.now.items in
    let same : length c.args.types.now ≡ length c.args.patterns.now = omega arith in
    let ltx : c.loop-place.place < length c.args.types.now = omega arith in
    let ltp : c.loop-place.place < length c.args.patterns.now = omega arith in
    advanced plain_type c.args.types.now c.args.patterns.now c.in_ok-matches.field-0 c.if-not-branch.false c.loop-place.place c.index-types-place.result c.index-patterns-place.result
    c.loop-place.bound.items c.matches.new.bound.items
    (λ σ. Agrees σ old × (map plain_type c.args.types.now ≡ map (instance_of σ) (map plain_type c.args.patterns.now)))
    ltx ltp c.index-types-place.is c.index-patterns-place.is
    c.in_ok-matches.ensures
    c.loop-place.invariant

pub all_match-returns : goal.all_match-returns
all_match-returns t c =
    let old = c.args.bound.now.items in
    let same : length c.args.types.now ≡ length c.args.patterns.now = omega arith in
    finished plain_type c.args.types.now c.args.patterns.now c.loop-place.place c.loop-place.bound.items
    (λ σ. Agrees σ old × (map plain_type c.args.types.now ≡ map (instance_of σ) (map plain_type c.args.patterns.now)))
    (omega arith) (omega arith) c.loop-place.invariant

pub matches-returns-in-Var : goal.matches-returns-in-Var
matches-returns-in-Var t c =
    IfOk-weaker c.matches_variable.result _ _
    (λ b m. subst (λ p. Matched b c.args.bound.now.items c.matches_variable.new.bound.items (λ σ. plain_type c.args.t.now ≡ instance_of σ p)) (sym (ap plain_type c.in-Var.is ∙ plain_type-Var c.in-Var.v)) m)
    c.matches_variable.ensures

pub matches-returns-in_ok-all_match-in-Union-t : goal.matches-returns-in_ok-all_match-in-Union-t
matches-returns-in_ok-all_match-in-Union-t t c =
    matched_as _ _ c.in_ok-all_match-in-Union-t.field-0 c.args.bound.now.items c.all_match.new.bound.items
    (λ σ. union_matched σ c.in-Union.u c.in-Union-t.w c.in-Union.patterns c.in-Union-t.types c.args.pattern.now c.args.t.now c.in-Union.is c.in-Union-t.is (omega arith))
    (subst (λ (l : List Ty). Matched c.in_ok-all_match-in-Union-t.field-0 c.args.bound.now.items c.all_match.new.bound.items (λ σ. map plain_type c.in-Union-t.types ≡ map (instance_of σ) (map plain_type l))) c.as_slice.ensures.items
    (subst (λ (l : List Ty). Matched c.in_ok-all_match-in-Union-t.field-0 c.args.bound.now.items c.all_match.new.bound.items (λ σ. map plain_type l ≡ map (instance_of σ) (map plain_type c.as_slice.result.now))) c.as_slice-then-u-w.ensures.items
    c.in_ok-all_match-in-Union-t.ensures))
