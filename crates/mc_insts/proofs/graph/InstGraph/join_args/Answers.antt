use Rattle.std.proofs.Common.{◌≡◌, ◌<◌, true, length, sym, ap, ◌∙◌, subst, arith}
use Rattle.mc_insts.specs.declared.graph.Shape.{Shape}
use Rattle.mc_insts.specs.code.Cases.{row_has, row_arg}
use Rattle.mc_insts.specs.code.Overs.{RowWide}
use Rattle.mc_insts.specs.code.Walks.{scene, shape_at, arity_of}
use Rattle.mc_insts.proofs.Forming.{refers_filled}
use Rattle.mc_insts.proofs.Results.{if_ok_two}
use Rattle.mc_insts.proofs.Scenes.{row_wide, row_arg_there}
use Rattle.mc_insts.proofs.graph.InstGraph.join_args.Goals as goal

pub join_typed-requires-clause-wide : goal.join_typed-requires-clause-wide
join_typed-requires-clause-wide c =
    let C = scene c.args.self.now c.args.shapes.now in
    c.in-Some.ensures.2 (length c.args.lows.now) (subst (λ n. RowWide c.row.result.now c.args.functor n) (sym c.requires.lengths.0) (subst (λ (K : Shape). RowWide K c.args.functor (arity_of C c.args.functor)) (sym c.row.ensures) (row_wide C c.requires.proper c.args.t.row c.args.functor)))

pub join_typed-requires-clause-within : goal.join_typed-requires-clause-within
join_typed-requires-clause-within c =
    let C = scene c.args.self.now c.args.shapes.now in
    let h : row_has C.known (shape_at C.rows c.args.t.row) c.args.functor ≡ true = subst (λ (K : Shape). row_has C.known K c.args.functor ≡ true) c.row.ensures c.in-Some.ensures.0 in
    λ k lt. record {
      low = c.requires.lows_there k lt;
      high = c.requires.highs_there k (omega arith);
      row = subst (λ r. r < length C.rows) (sym (c.in-Some.ensures.1 k ∙ ap (λ (K : Shape). row_arg K c.args.t.row c.args.functor k) c.row.ensures)) (row_arg_there C c.requires.proper c.args.t.row c.args.functor k c.requires.within.row h (omega arith));
    }

pub returns-in-Some-clause-filled : goal.returns-in-Some-clause-filled
returns-in-Some-clause-filled c =
    let C = scene c.args.self.now c.args.shapes.now in
    if_ok_two _ _ _ c.join_typed.result
    (λ row wide refers f g k lt. refers_filled C _ _ _ c.requires.builtins (f k (omega arith)) (g k (omega arith)) (refers k (omega arith)))
    c.join_typed.ensures.length c.join_typed.ensures.refers
