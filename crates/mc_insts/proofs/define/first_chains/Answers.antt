use Rattle.std.proofs.Common.{◌≡◌, ℕ, ◌+◌, ◌<◌, List, [], ◌∷◌, ◌++◌, length, sym, ap, ◌∙◌, subst, arith, length-append}
use Rattle.std.proofs.lemmas.List.{length-map}
use Rattle.mc_accepted.specs.InstRules.{PlainInstDef, definition_at}
use Rattle.mc_insts.specs.declared.chains.Chain.{Chain}
use Rattle.mc_insts.specs.declared.define.InstDef.{InstDef}
use Rattle.mc_insts.specs.Defining.{plain_definition, plain_definitions}
use Rattle.mc_insts.specs.code.Chains.{chain_at, first_chain, FirstChains}
use Rattle.mc_insts.proofs.Definitions.{firsts_more, definition_read, FirstStep, step_name, step_bound}
use Rattle.mc_insts.proofs.Results.{if_ok}
use Rattle.mc_insts.proofs.define.first_chains.Goals as goal
use Rattle.mc_insts.proofs.define.first_chains.Goals.{in-Is, in-Bound+else-node}

pub loop-def-preserved : goal.loop-def-preserved
loop-def-preserved c =
    let listed : List InstDef = c.as_slice-listed.result.now in
    let ds : List PlainInstDef = plain_definitions listed in
    let i : ℕ = c.loop-def.def-index in
    let l : length ds ≡ length listed = length-map listed plain_definition in
    let lt : i < length ds = omega arith in
    let read : definition_at ds i ≡ plain_definition c.def-item.result = definition_read listed i c.def-item.result (omega arith) c.def-item.is in
    let step : FirstStep ds c.args.first i c.match-def.next c.match-def.chain =
    elim c.match-def.branch [
      | in-Is w ↦ step_name ds c.args.first i c.loop-def.next c.match-def.next w.in-Is.inst c.match-def.chain lt (read ∙ ap plain_definition w.in-Is.is) c.loop-def.invariant.next w.next-is (w.chain-is ∙ w.named_chain-chain.ensures)
      | in-Bound+else-node w ↦ step_bound ds c.args.first i c.loop-def.next c.match-def.next _ c.match-def.chain lt (read ∙ ap plain_definition w.in-Bound.is) c.loop-def.invariant.next w.next-is w.chain-is
    ] in
    let count : length c.push.new.self.items ≡ length (c.loop-def.chains.items ++ c.match-def.chain ∷ []) = ap length c.in_ok-push.ensures.items in
    let more : length (c.loop-def.chains.items ++ c.match-def.chain ∷ []) ≡ length c.loop-def.chains.items + 1 = length-append c.loop-def.chains.items (c.match-def.chain ∷ []) in
    record {
      small = elim c.match-def.branch [ in-Is w ↦ omega arith | in-Bound+else-node w ↦ omega arith ];
      count = omega arith;
      next = step.next;
      are = subst (λ (cs : List Chain). (k : ℕ) → k < i + 1 → chain_at cs k ≡ first_chain ds c.args.first k (definition_at ds k)) (sym c.in_ok-push.ensures.items)
          (firsts_more ds c.args.first i c.loop-def.chains.items c.match-def.chain c.loop-def.invariant.count c.loop-def.invariant.are step.shows);
    }

pub returns-clause-chains : goal.returns-clause-chains
returns-clause-chains c =
    let listed : List InstDef = c.as_slice-listed.result.now in
    let l : length (plain_definitions listed) ≡ length listed = length-map listed plain_definition in
    if_ok _ _ c.of.result
    (λ row e.
    subst (λ (defs : List InstDef). FirstChains (plain_definitions defs) c.args.first row) c.as_slice-listed.ensures.items
    (λ k lt. ap (λ (cs : List Chain). chain_at cs k) e ∙ c.loop-def.invariant.are k (omega arith)))
    c.of.ensures.elements
