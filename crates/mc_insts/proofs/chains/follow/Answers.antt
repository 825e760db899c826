use Rattle.std.proofs.Common.{◌≡◌, ℕ, ◌<◌, List, length, sym, subst, ◌∙◌}
use Rattle.mc_accepted.specs.InstRules.{PlainInstDef}
use Rattle.mc_insts.specs.declared.chains.Chain.{Chain}
use Rattle.mc_insts.specs.declared.chains.Chain.TheVariants as C
use Rattle.mc_insts.specs.declared.chains.Meeting.TheVariants as M
use Rattle.mc_insts.specs.code.Chains.{chain_at, ChainIs, Meets, Settles, ChainsAre}
use Rattle.mc_insts.proofs.Chained.{chain_is, settled_node, follows_ring, follows_endless}
use Rattle.mc_insts.proofs.Readies.{on_ok}
use Rattle.mc_insts.proofs.chains.follow.Goals as goal
use Rattle.mc_insts.proofs.chains.follow.Goals.{in-Ring+in_ok-settle-in-Ring, in-Known+in-Node, in-Known+in_default}

-- what was settled last, where the chains and the end are known
ends : (before mid after : List Chain) (k : ℕ) (end last : Chain) → mid ≡ before → end ≡ last → Settles mid after k end → Settles before after k last
ends before mid after k end last e f s = subst (λ (cs : List Chain). Settles cs after k last) e (subst (Settles mid after k) f s)

-- the definition that was met leads to a node
to_node : (cs after : List Chain) (k j i : ℕ) → Meets cs k (M.Known j) → (j < length cs → chain_at cs j ≡ C.Node i) → Settles cs after k (C.Node i)
    → (ds : List PlainInstDef) (first : ℕ) → ChainsAre ds first cs → ChainsAre ds first after
to_node cs after k j i m e s ds first are =
    settled_node ds first cs are after k j i s m.1 (subst (ChainIs ds first j) (e m.0) (are.are j m.0))

pub returns-clause-are : goal.returns-clause-are
returns-clause-are c =
    let cs : List Chain = c.args.chains.now in
    let after : List Chain = c.settle-2.new.chains in
    let k : ℕ = c.args.k in
    on_ok c.settle-2.result _ _
    (λ s.
    elim c.match-branch-2.branch [
      | in-Ring+in_ok-settle-in-Ring w ↦ (λ ds first are.
          let m : Meets cs k (M.Ring w.in-Ring.j) = subst (Meets cs k) w.in-Ring.is c.in_ok-j.ensures.known in
          follows_ring ds first cs w.settle.new.chains after k w.in-Ring.j are m.1 m.2 w.in_ok-settle-in-Ring.ensures.settles
          (ends w.settle.new.chains c.match-branch-2.chains after k c.match-branch-2.end C.Endless w.chains-is w.end-is s))
      | in-Known+in-Node w ↦ to_node cs after k w.in-Known.j w.in-Node.i (subst (Meets cs k) w.in-Known.is c.in_ok-j.ensures.known)
          (λ lt. chain_is cs w.in-Known.j w.get.result.now lt w.get.ensures ∙ w.in-Node.is)
          (ends cs c.match-branch-2.chains after k c.match-branch-2.end (C.Node w.in-Node.i) w.chains-is w.end-is s)
      | in-Known+in_default w ↦ (λ ds first are.
          let m : Meets cs k (M.Known w.in-Known.j) = subst (Meets cs k) w.in-Known.is c.in_ok-j.ensures.known in
          follows_endless ds first cs after k w.in-Known.j are m.1 m.0 m.2
          (λ i e. w.in_default.not-Node i (sym (chain_is cs w.in-Known.j w.get.result.now m.0 w.get.ensures) ∙ e))
          (ends cs c.match-branch-2.chains after k c.match-branch-2.end C.Endless w.chains-is w.end-is s))
    ])
    c.settle-2.ensures.settles
