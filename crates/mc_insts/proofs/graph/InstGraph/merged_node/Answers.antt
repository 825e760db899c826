use Rattle.std.proofs.Common.{◌≡◌, ℕ, List, length, sym, ap, ◌∙◌, subst}
use Rattle.mc_insts.specs.declared.graph.Case.{Case}
use Rattle.mc_insts.specs.declared.graph.Node.{Node}
use Rattle.mc_insts.specs.declared.graph.Shape.{Shape}
use Rattle.mc_insts.specs.code.Cases.{Rising}
use Rattle.mc_insts.specs.code.Formed.{AllFilled}
use Rattle.mc_insts.specs.code.Listings.{listed}
use Rattle.mc_insts.specs.code.Walks.{scene, low_of, high_of, row_of}
use Rattle.mc_insts.specs.code.Merges.{Fits, Views, spread_cases}
use Rattle.mc_insts.proofs.Forming.{cases_filled}
use Rattle.mc_insts.proofs.Spread.{spread_rises, spread_fits, views_low, views_high, merges_of}
use Rattle.mc_insts.proofs.graph.InstGraph.merged_node.Goals as goal

-- what a slice of a listing is
along : (xs : List Case) (ys : List Case) (M K : Node) (R S : Shape) (i : ℕ) → xs ≡ ys → ys ≡ spread_cases M i R → M ≡ K → R ≡ S → xs ≡ spread_cases K i S
along xs ys M K R S i e f g h = e ∙ f ∙ ap (λ X. spread_cases X i R) g ∙ ap (λ X. spread_cases K i X) h

pub join-requires-clause-rising : goal.join-requires-clause-rising
join-requires-clause-rising c =
    let C = scene c.args.self.now c.args.shapes.now in
    let lows : c.as_slice.result.now ≡ spread_cases (low_of C c.args.t) c.args.t.low (row_of C c.args.t) = along c.as_slice.result.now (listed c.in_ok-lows.lows) c.node.result.now (low_of C c.args.t) c.row-row.result.now (row_of C c.args.t) c.args.t.low c.as_slice.ensures c.in_ok-lows.ensures c.node.ensures c.row-row.ensures in
    let highs : c.as_slice-2.result.now ≡ spread_cases (high_of C c.args.t) c.args.t.high (row_of C c.args.t) = along c.as_slice-2.result.now (listed c.in_ok-highs.highs) c.node-2.result.now (high_of C c.args.t) c.row-row.result.now (row_of C c.args.t) c.args.t.high c.as_slice-2.ensures c.in_ok-highs.ensures c.node-2.ensures c.row-row.ensures in
    (subst Rising (sym lows) (spread_rises C c.requires.proper c.args.t.low c.args.t.row), subst Rising (sym highs) (spread_rises C c.requires.proper c.args.t.high c.args.t.row))

pub join-requires-clause-fits : goal.join-requires-clause-fits
join-requires-clause-fits c =
    let C = scene c.args.self.now c.args.shapes.now in
    let lows : c.as_slice.result.now ≡ spread_cases (low_of C c.args.t) c.args.t.low (row_of C c.args.t) = along c.as_slice.result.now (listed c.in_ok-lows.lows) c.node.result.now (low_of C c.args.t) c.row-row.result.now (row_of C c.args.t) c.args.t.low c.as_slice.ensures c.in_ok-lows.ensures c.node.ensures c.row-row.ensures in
    let highs : c.as_slice-2.result.now ≡ spread_cases (high_of C c.args.t) c.args.t.high (row_of C c.args.t) = along c.as_slice-2.result.now (listed c.in_ok-highs.highs) c.node-2.result.now (high_of C c.args.t) c.row-row.result.now (row_of C c.args.t) c.args.t.high c.as_slice-2.ensures c.in_ok-highs.ensures c.node-2.ensures c.row-row.ensures in (
      subst (λ (cs : List Case). Fits C (length C.nodes) cs) (sym lows) (spread_fits C c.requires.proper c.args.t.low c.args.t.row c.requires.opened.within.low),
      subst (λ (cs : List Case). Fits C (length C.nodes) cs) (sym highs) (spread_fits C c.requires.proper c.args.t.high c.args.t.row c.requires.opened.within.high),
    )

pub returns-clause-merges : goal.returns-clause-merges
returns-clause-merges c =
    let C = scene c.args.self.now c.args.shapes.now in
    let t = c.args.t in
    let lows : c.as_slice.result.now ≡ spread_cases (low_of C t) t.low (row_of C t) = along c.as_slice.result.now (listed c.in_ok-lows.lows) c.node.result.now (low_of C c.args.t) c.row-row.result.now (row_of C c.args.t) c.args.t.low c.as_slice.ensures c.in_ok-lows.ensures c.node.ensures c.row-row.ensures in
    let highs : c.as_slice-2.result.now ≡ spread_cases (high_of C t) t.high (row_of C t) = along c.as_slice-2.result.now (listed c.in_ok-highs.highs) c.node-2.result.now (high_of C c.args.t) c.row-row.result.now (row_of C c.args.t) c.args.t.high c.as_slice-2.ensures c.in_ok-highs.ensures c.node-2.ensures c.row-row.ensures in
    merges_of C c.join.new.seen t c.as_slice.result.now c.as_slice-2.result.now c.in_ok-cases.cases c.requires.opened
    (subst (λ (cs : List Case). Views C t t.low cs) (sym lows) (views_low C c.requires.proper t c.requires.opened))
    (subst (λ (cs : List Case). Views C t t.high cs) (sym highs) (views_high C c.requires.proper t c.requires.opened))
    c.in_ok-cases.ensures.joined

pub returns-clause-filled : goal.returns-clause-filled
returns-clause-filled c =
    let C = scene c.args.self.now c.args.shapes.now in
    let t = c.args.t in
    let lows : c.as_slice.result.now ≡ spread_cases (low_of C t) t.low (row_of C t) = along c.as_slice.result.now (listed c.in_ok-lows.lows) c.node.result.now (low_of C c.args.t) c.row-row.result.now (row_of C c.args.t) c.args.t.low c.as_slice.ensures c.in_ok-lows.ensures c.node.ensures c.row-row.ensures in
    let highs : c.as_slice-2.result.now ≡ spread_cases (high_of C t) t.high (row_of C t) = along c.as_slice-2.result.now (listed c.in_ok-highs.highs) c.node-2.result.now (high_of C c.args.t) c.row-row.result.now (row_of C c.args.t) c.args.t.high c.as_slice-2.ensures c.in_ok-highs.ensures c.node-2.ensures c.row-row.ensures in
    λ f cs e.
    let q : c.in_ok-cases.cases ≡ cs = cc in
    subst AllFilled q (c.in_ok-cases.ensures.filled (subst AllFilled (sym lows) (cases_filled C.nodes f t.low (row_of C t))) (subst AllFilled (sym highs) (cases_filled C.nodes f t.high (row_of C t))))
