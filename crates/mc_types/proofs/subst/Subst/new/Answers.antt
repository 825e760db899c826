use Rattle.std.proofs.Common.{◌≡◌, ◌++◌, List, sym, ◌∙◌, ap, subst, arith}
use Rattle.std.specs.Prelude.{replicate}
use Rattle.mc_types.specs.Holds.{InOrder}
use Rattle.mc_types.specs.Founded.{mark_at}
use Rattle.mc_types.specs.declared.cells.Cell.{Cell}
use Rattle.mc_types.specs.declared.cells.Cell.TheVariants.{Free}
use Rattle.mc_types.specs.Substitutions.{IsIdentity}
use Rattle.mc_types.specs.code.Systems.{IsSystem, types_of}
use Rattle.mc_types.proofs.Starts.{free_system, free_identity}
use Rattle.mc_types.proofs.subst.Subst.new.Goals as goal

pub invariant_of-result : goal.invariant_of-result
invariant_of-result c =
    let cells : c.add_free.new.g.cells.items ≡ replicate c.args.vars Free = c.in_ok-add_free.ensures.cells ∙ ap (λ xs. xs ++ replicate c.args.vars Free) c.new-graph.ensures.cells in
    let P : List Cell → Type 0 = λ xs. IsSystem c.args.vars xs in
    let Q : List Cell → Type 0 = λ xs. InOrder xs in
    record {
      system = subst P (sym cells) (free_system c.args.vars (subst Q cells c.add_free.ensures.in_order));
      past = λ i. omega (arith, ap (λ xs. mark_at xs i) c.new.ensures.items);
      some_round = omega arith;
    }

pub returns : goal.returns
returns c =
    let cells : c.add_free.new.g.cells.items ≡ replicate c.args.vars Free = c.in_ok-add_free.ensures.cells ∙ ap (λ xs. xs ++ replicate c.args.vars Free) c.new-graph.ensures.cells in
    let P : List Cell → Type 0 = λ xs. IsIdentity c.args.vars (types_of c.args.vars xs) in
    subst P (sym cells) (free_identity c.args.vars)
