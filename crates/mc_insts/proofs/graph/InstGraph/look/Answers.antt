use Rattle.std.proofs.Common.{◌≡◌, false, IsTrue, List, length, refl, sym, ap, subst, ◌∙◌}
use Rattle.mc_insts.specs.declared.graph.Case.{Case}
use Rattle.mc_insts.specs.declared.graph.Node.TheVariants as N
use Rattle.mc_insts.specs.code.Steps.{Arities}
use Rattle.mc_insts.specs.code.Walks.{scene, low_of, row_of}
use Rattle.mc_insts.proofs.Steps.{arities_at}
use Rattle.mc_insts.proofs.TidyWalks.{fair_along, looked_bound, looked_builtin}
use Rattle.mc_insts.proofs.graph.InstGraph.look.Goals as goal

pub returns-then-not-is_fair-clause-unfair : goal.returns-then-not-is_fair-clause-unfair
returns-then-not-is_fair-clause-unfair c = λ e fair.
    let C = scene c.args.self.now c.args.shapes.now in
    let x : IsTrue false = c.if-not-is_fair.ensures.1 (fair_along C (low_of C c.args.t) (row_of C c.args.t) _ _ (sym c.node-node.ensures) (sym c.row.ensures) fair) in cc

pub look_at_cases-requires-clause-arities : goal.look_at_cases-requires-clause-arities
look_at_cases-requires-clause-arities c =
    let C = scene c.args.self.now c.args.shapes.now in
    subst (λ (cs : List Case). Arities C cs) (sym c.as_slice.ensures.items) (arities_at C (length C.nodes) c.in-Bound.cases (c.requires.proper.nodes c.args.t.low c.in-Bound.cases (sym c.node-node.ensures ∙ c.in-Bound.is)))

pub returns-in_ok-look_at_cases-in-Bound-clause-looked : goal.returns-in_ok-look_at_cases-in-Bound-clause-looked
returns-in_ok-look_at_cases-in-Bound-clause-looked c = λ t.
    let C = scene c.args.self.now c.args.shapes.now in
    let e : low_of C c.args.t ≡ N.Bound c.as_slice.result.now = sym c.node-node.ensures ∙ c.in-Bound.is ∙ ap N.Bound (sym c.as_slice.ensures.items) in
    let fair = fair_along C c.node-node.result.now c.row.result.now _ _ c.node-node.ensures c.row.ensures (c.if-not-is_fair.ensures.0 refl) in
    looked_bound C c.args.t c.as_slice.result.now c.look_at_cases.new.seen e fair c.in_ok-look_at_cases-in-Bound.ensures.seen

pub returns-in-Free-clause-looked : goal.returns-in-Free-clause-looked
returns-in-Free-clause-looked c = λ t.
    let C = scene c.args.self.now c.args.shapes.now in
    let fair = fair_along C c.node-node.result.now c.row.result.now _ _ c.node-node.ensures c.row.ensures (c.if-not-is_fair.ensures.0 refl) in
    looked_builtin C c.args.t N.Free c.args.seen.now (sym c.node-node.ensures ∙ c.in-Free.is) (λ cs e. cc) fair

pub returns-in-Ground-clause-looked : goal.returns-in-Ground-clause-looked
returns-in-Ground-clause-looked c = λ t.
    let C = scene c.args.self.now c.args.shapes.now in
    let fair = fair_along C c.node-node.result.now c.row.result.now _ _ c.node-node.ensures c.row.ensures (c.if-not-is_fair.ensures.0 refl) in
    looked_builtin C c.args.t N.Ground c.args.seen.now (sym c.node-node.ensures ∙ c.in-Ground.is) (λ cs e. cc) fair

pub returns-in-Unique-clause-looked : goal.returns-in-Unique-clause-looked
returns-in-Unique-clause-looked c = λ t.
    let C = scene c.args.self.now c.args.shapes.now in
    let fair = fair_along C c.node-node.result.now c.row.result.now _ _ c.node-node.ensures c.row.ensures (c.if-not-is_fair.ensures.0 refl) in
    looked_builtin C c.args.t N.Unique c.args.seen.now (sym c.node-node.ensures ∙ c.in-Unique.is) (λ cs e. cc) fair

pub returns-in-Dead-clause-looked : goal.returns-in-Dead-clause-looked
returns-in-Dead-clause-looked c = λ t.
    let C = scene c.args.self.now c.args.shapes.now in
    let fair = fair_along C c.node-node.result.now c.row.result.now _ _ c.node-node.ensures c.row.ensures (c.if-not-is_fair.ensures.0 refl) in
    looked_builtin C c.args.t N.Dead c.args.seen.now (sym c.node-node.ensures ∙ c.in-Dead.is) (λ cs e. cc) fair
