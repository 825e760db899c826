use Rattle.std.proofs.Common.{◌≡◌, ◌<◌, ℕ, length, get_or, sym, subst, arith}
use Rattle.std.proofs.lemmas.List.{get_or_read, get_or_default}
use Rattle.mc_program.specs.PlainPrograms.{plain_type}
use Rattle.mc_types.specs.Placed.{TypeAdded}
use Rattle.mc_types.proofs.Noted.{grown_more}
use Rattle.mc_types.proofs.Fitting.{fitting_first, fitting_more, fitting_fails, fit_last, fit_fails}
use Rattle.mc_types.proofs.signature.fit.Goals as goal

pub loop-k-init : goal.loop-k-init
loop-k-init c = record {
  in_order = c.add_free.ensures.in_order;
  grown = c.add_free.ensures.grown;
  fitting = rw c.in_ok-add_free.ensures.cells (fitting_first _ _ _ _ c.requires.in_order);
}

pub returns-in_err-node-clause-grown : goal.returns-in_err-node-clause-grown
returns-in_err-node-clause-grown c = grown_more _ _ _ _ _ _ c.loop-k.invariant.grown c.add_type.ensures.grown

pub returns-in_err-unify-clause-grown : goal.returns-in_err-unify-clause-grown
returns-in_err-unify-clause-grown c = grown_more _ _ _ _ _ _ (grown_more _ _ _ _ _ _ c.loop-k.invariant.grown c.add_type.ensures.grown) c.unify.ensures.grown

pub returns-then-not-branch-clause-grown : goal.returns-then-not-branch-clause-grown
returns-then-not-branch-clause-grown c = grown_more _ _ _ _ _ _ (grown_more _ _ _ _ _ _ c.loop-k.invariant.grown c.add_type.ensures.grown) c.unify.ensures.grown

pub returns-then-not-branch-clause-says : goal.returns-then-not-branch-clause-says
returns-then-not-branch-clause-says c =
    let first = c.args.g.now.cells.items in
    let k = c.loop-k.k in
    let places = c.args.places.now in
    let types = c.args.signature.now.types.items in
    let lt : k < length places = omega arith in
    let base : c.len-base.result ≡ length first = omega (arith, c.len-base.ensures) in
    let P : ℕ → Type 0 = λ b. TypeAdded c.loop-k.g.cells.items c.add_type.new.g.cells.items b c.args.signature.now.vars (plain_type c.index.result.now) c.in_ok-node.node in
    let added = subst P base c.in_ok-node.ensures.says in
    fit_fails first c.unify.new.g.cells.items c.args.signature.now places k c.requires.lengths lt
    (fitting_fails first _ _ types places k c.loop-k.invariant.fitting c.index.result.now (get_or places k 0) (λ d. sym (get_or_read types k c.index.result.now (omega arith) c.index.ensures d)) (λ e. get_or_default places k e 0 lt) (c.requires.places k 0 lt) _ c.in_ok-node.node c.add_type.ensures.grown.longer added c.unify.new.g.cells.items
    (rw c.if-not-branch.true at c.in_ok-unify.ensures.answer))

pub loop-k-preserved : goal.loop-k-preserved
loop-k-preserved c =
    let first = c.args.g.now.cells.items in
    let k = c.loop-k.k in
    let places = c.args.places.now in
    let types = c.args.signature.now.types.items in
    let lt : k < length places = omega arith in
    let base : c.len-base.result ≡ length first = omega (arith, c.len-base.ensures) in
    let P : ℕ → Type 0 = λ b. TypeAdded c.loop-k.g.cells.items c.add_type.new.g.cells.items b c.args.signature.now.vars (plain_type c.index.result.now) c.in_ok-node.node in
    let added = subst P base c.in_ok-node.ensures.says in
    record {
      in_order = c.unify.ensures.in_order;
      grown = grown_more _ _ _ _ _ _ (grown_more _ _ _ _ _ _ c.loop-k.invariant.grown c.add_type.ensures.grown) c.unify.ensures.grown;
      fitting = fitting_more first _ _ types places k c.loop-k.invariant.fitting c.index.result.now (get_or places k 0) (λ d. sym (get_or_read types k c.index.result.now (omega arith) c.index.ensures d)) (λ e. get_or_default places k e 0 lt) (c.requires.places k 0 lt) _ c.in_ok-node.node c.add_type.ensures.grown.longer added _
          (omega (arith, c.unify.ensures.len))
          (rw c.if-not-branch.false at c.in_ok-unify.ensures.answer);
    }

pub returns-clause-says : goal.returns-clause-says
returns-clause-says c = fit_last _ _ c.args.signature.now c.args.places.now c.loop-k.k c.requires.lengths (omega arith) (omega arith) c.loop-k.invariant.fitting
