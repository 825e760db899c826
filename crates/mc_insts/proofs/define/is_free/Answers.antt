use Rattle.std.proofs.Common.{◌≡◌, ◌↔◌, ℕ, ◌<◌, List, length, IsTrue, false, true, nat_eq, sym, subst, ◌∙◌}
use Rattle.std.proofs.lemmas.Bool.{eq-eqb, eqb-true}
use Rattle.mc_model.specs.declared.inst.InstRef.{InstRef}
use Rattle.mc_model.specs.declared.inst.InstRef.TheVariants.{New}
use Rattle.mc_accepted.specs.InstRules.{StandsFor}
use Rattle.mc_insts.specs.declared.chains.Chain.{Chain}
use Rattle.mc_insts.specs.Defining.{FitsThere}
use Rattle.mc_insts.proofs.Chained.{chain_is}
use Rattle.mc_insts.proofs.Definitions.{free_old, free_node, free_ring, free_endless}
use Rattle.mc_insts.proofs.define.is_free.Goals as goal

is_zero : (i : ℕ) → IsTrue (nat_eq i 0) ↔ (i ≡ 0)
is_zero i = ((λ t. eqb-true i 0 t), (λ e. eq-eqb i 0 e))

false_none : {X : Type 0} → IsTrue false → X
false_none t = let x : false ≡ true = t in cc

-- a definition of the row
there : (n : ℕ) (cs : List Chain) (r : InstRef) (k : ℕ) → r ≡ New k → FitsThere n (length cs) r → k < length cs
there n cs r k e f = subst (FitsThere n (length cs)) e f

pub returns-in-Old : goal.returns-in-Old
returns-in-Old c = λ ds first some are.
    subst (λ (r : InstRef). IsTrue (nat_eq c.in-Old.i 0) ↔ StandsFor ds r 0) (sym c.in-Old.is)
    (free_old ds first some c.args.chains.now are c.in-Old.i (nat_eq c.in-Old.i 0) (is_zero c.in-Old.i))

pub returns-in-Node : goal.returns-in-Node
returns-in-Node c = λ ds first some are.
    let lt : c.in-New.k < length c.args.chains.now = there c.requires.0 c.args.chains.now c.args.inst.now c.in-New.k c.in-New.is c.requires.1 in
    subst (λ (r : InstRef). IsTrue (nat_eq c.in-Node.i 0) ↔ StandsFor ds r 0) (sym c.in-New.is)
    (free_node ds first some c.args.chains.now are c.in-New.k c.in-Node.i (nat_eq c.in-Node.i 0) lt
    (chain_is c.args.chains.now c.in-New.k c.get.result.now lt c.get.ensures ∙ c.in-Node.is) (is_zero c.in-Node.i))

pub returns-in-Ring : goal.returns-in-Ring
returns-in-Ring c = λ ds first some are.
    let lt : c.in-New.k < length c.args.chains.now = there c.requires.0 c.args.chains.now c.args.inst.now c.in-New.k c.in-New.is c.requires.1 in (
      (λ t. false_none t),
      (λ s. absurd
          (free_ring ds first some c.args.chains.now are c.in-New.k lt
          (chain_is c.args.chains.now c.in-New.k c.get.result.now lt c.get.ensures ∙ c.in-Ring.is)
          (subst (λ (r : InstRef). StandsFor ds r 0) c.in-New.is s))),
    )

pub returns-in-Endless : goal.returns-in-Endless
returns-in-Endless c = λ ds first some are.
    let lt : c.in-New.k < length c.args.chains.now = there c.requires.0 c.args.chains.now c.args.inst.now c.in-New.k c.in-New.is c.requires.1 in (
      (λ t. false_none t),
      (λ s. absurd
          (free_endless ds first some c.args.chains.now are c.in-New.k lt
          (chain_is c.args.chains.now c.in-New.k c.get.result.now lt c.get.ensures ∙ c.in-Endless.is)
          (subst (λ (r : InstRef). StandsFor ds r 0) c.in-New.is s))),
    )
