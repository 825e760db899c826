use Rattle.std.proofs.Common.{◌≡◌, List, [], ◌++◌, sym, ◌∙◌, ap, subst, arith}
use Rattle.std.specs.Prelude.{replicate}
use Rattle.mc_types.specs.Founded.{mark_at}
use Rattle.mc_types.specs.declared.cells.Cell.{Cell}
use Rattle.mc_types.specs.declared.cells.Cell.TheVariants.{Free}
use Rattle.mc_types.specs.code.Standing.{Represents, at_root}
use Rattle.mc_types.proofs.Roots.{represents_root}
use Rattle.mc_types.proofs.resolves.start.Goals as goal

pub returns-clause-stands : goal.returns-clause-stands
returns-clause-stands c = λ signatures steps.
    let cells : c.add_free.new.g.cells.items ≡ replicate c.args.places Free = c.in_ok-add_free.ensures.cells ∙ ap (λ xs. xs ++ replicate c.args.places Free) c.new-graph.ensures.cells in
    let P : List Cell → Type 0 = λ xs. Represents signatures steps c.args.places [] xs in
    record {
      standing = at_root c.new-2.ensures.items (subst P (sym cells) (represents_root signatures steps c.args.places));
      past = λ i. omega (arith, ap (λ xs. mark_at xs i) c.new.ensures.items);
      some_round = omega arith;
    }
