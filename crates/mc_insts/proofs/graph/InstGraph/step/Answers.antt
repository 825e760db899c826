use Rattle.std.proofs.Common.{◌≡◌, ap, sym, ◌∙◌, length, subst, List, false, IsTrue, refl, ◌≤◌, arith}
use Rattle.mc_insts.specs.declared.graph.Case.{Case}
use Rattle.mc_insts.specs.declared.graph.Node.{Node}
use Rattle.mc_insts.specs.declared.graph.Node.TheVariants as N
use Rattle.mc_insts.specs.code.Steps.{Arities}
use Rattle.mc_insts.specs.code.Walks.{scene, Tips, low_of, high_of, row_of}
use Rattle.mc_insts.proofs.Results.{if_ok}
use Rattle.mc_insts.proofs.Steps.{arities_at, visited_bound, visited_builtin, refused_above, tips_along}
use Rattle.mc_insts.proofs.Growth.{covered_on}
use Rattle.mc_insts.specs.code.Cases.{marks}
use Rattle.mc_insts.proofs.graph.InstGraph.step.Goals as goal

pub returns-then-not-tips-clause-refused : goal.returns-then-not-tips-clause-refused
returns-then-not-tips-clause-refused c = λ e below.
    let C = scene c.args.self.now c.args.shapes.now in
    let x : IsTrue false = c.if-not-tips.ensures.1 (tips_along (low_of C c.args.t) (high_of C c.args.t) (row_of C c.args.t) _ _ _ (sym c.node-low.ensures) (sym c.node.ensures) (sym c.row-row.ensures) (below 1).0) in cc

pub step_cases-requires-clause-arities : goal.step_cases-requires-clause-arities
step_cases-requires-clause-arities c =
    let C = scene c.args.self.now c.args.shapes.now in
    subst (λ (cs : List Case). Arities C cs) (sym c.as_slice.ensures.items) (arities_at C (length C.nodes) c.in-Bound.cases (c.requires.proper.nodes c.args.t.low c.in-Bound.cases (sym c.node-low.ensures ∙ c.in-Bound.is)))

pub returns-in-Bound-clause-visited : goal.returns-in-Bound-clause-visited
returns-in-Bound-clause-visited c =
    let C = scene c.args.self.now c.args.shapes.now in
    let e : low_of C c.args.t ≡ N.Bound c.as_slice.result.now = sym c.node-low.ensures ∙ c.in-Bound.is ∙ ap N.Bound (sym c.as_slice.ensures.items) in
    let tips : Tips (low_of C c.args.t) (high_of C c.args.t) (row_of C c.args.t) = tips_along c.node-low.result.now c.node.result.now c.row-row.result.now _ _ _ c.node-low.ensures c.node.ensures c.row-row.ensures (c.if-not-tips.ensures.0 refl) in
    if_ok _ _ c.step_cases.result (λ b h g. visited_bound C c.args.t c.as_slice.result.now c.step_cases.new.seen e tips (h g)) c.step_cases.ensures.passed

pub returns-in-Bound-clause-refused : goal.returns-in-Bound-clause-refused
returns-in-Bound-clause-refused c =
    let C = scene c.args.self.now c.args.shapes.now in
    if_ok _ _ c.step_cases.result (λ b h g. refused_above C c.args.t (h g)) c.step_cases.ensures.refused

pub returns-in-Ground-clause-visited : goal.returns-in-Ground-clause-visited
returns-in-Ground-clause-visited c =
    let C = scene c.args.self.now c.args.shapes.now in
    let tips : Tips (low_of C c.args.t) (high_of C c.args.t) (row_of C c.args.t) = tips_along c.node-low.result.now c.node.result.now c.row-row.result.now _ _ _ c.node-low.ensures c.node.ensures c.row-row.ensures (c.if-not-tips.ensures.0 refl) in
    let b : 1 ≤ marks c.node-low.result.now = subst (λ (K : Node). 1 ≤ marks K) (sym c.in-Ground.is) (omega arith) in
    if_ok _ _ c.step_types.result (λ d h g. visited_builtin C c.args.t c.node-low.result.now c.step_types.new.seen c.node-low.ensures b (covered_on C.nodes _ _ c.args.t c.step_types.ensures.extends c.requires.there) tips (h g)) c.step_types.ensures.passed

pub returns-in-Ground-clause-refused : goal.returns-in-Ground-clause-refused
returns-in-Ground-clause-refused c =
    let C = scene c.args.self.now c.args.shapes.now in
    if_ok _ _ c.step_types.result (λ b h g. refused_above C c.args.t (h g)) c.step_types.ensures.refused

pub returns-in-Unique-clause-visited : goal.returns-in-Unique-clause-visited
returns-in-Unique-clause-visited c =
    let C = scene c.args.self.now c.args.shapes.now in
    let tips : Tips (low_of C c.args.t) (high_of C c.args.t) (row_of C c.args.t) = tips_along c.node-low.result.now c.node.result.now c.row-row.result.now _ _ _ c.node-low.ensures c.node.ensures c.row-row.ensures (c.if-not-tips.ensures.0 refl) in
    let b : 1 ≤ marks c.node-low.result.now = subst (λ (K : Node). 1 ≤ marks K) (sym c.in-Unique.is) (omega arith) in
    if_ok _ _ c.step_types-in-Unique.result (λ d h g. visited_builtin C c.args.t c.node-low.result.now c.step_types-in-Unique.new.seen c.node-low.ensures b (covered_on C.nodes _ _ c.args.t c.step_types-in-Unique.ensures.extends c.requires.there) tips (h g)) c.step_types-in-Unique.ensures.passed

pub returns-in-Unique-clause-refused : goal.returns-in-Unique-clause-refused
returns-in-Unique-clause-refused c =
    let C = scene c.args.self.now c.args.shapes.now in
    if_ok _ _ c.step_types-in-Unique.result (λ b h g. refused_above C c.args.t (h g)) c.step_types-in-Unique.ensures.refused

pub returns-in-Dead-clause-visited : goal.returns-in-Dead-clause-visited
returns-in-Dead-clause-visited c =
    let C = scene c.args.self.now c.args.shapes.now in
    let tips : Tips (low_of C c.args.t) (high_of C c.args.t) (row_of C c.args.t) = tips_along c.node-low.result.now c.node.result.now c.row-row.result.now _ _ _ c.node-low.ensures c.node.ensures c.row-row.ensures (c.if-not-tips.ensures.0 refl) in
    let b : 1 ≤ marks c.node-low.result.now = subst (λ (K : Node). 1 ≤ marks K) (sym c.in-Dead.is) (omega arith) in
    if_ok _ _ c.step_types-in-Dead.result (λ d h g. visited_builtin C c.args.t c.node-low.result.now c.step_types-in-Dead.new.seen c.node-low.ensures b (covered_on C.nodes _ _ c.args.t c.step_types-in-Dead.ensures.extends c.requires.there) tips (h g)) c.step_types-in-Dead.ensures.passed

pub returns-in-Dead-clause-refused : goal.returns-in-Dead-clause-refused
returns-in-Dead-clause-refused c =
    let C = scene c.args.self.now c.args.shapes.now in
    if_ok _ _ c.step_types-in-Dead.result (λ b h g. refused_above C c.args.t (h g)) c.step_types-in-Dead.ensures.refused
