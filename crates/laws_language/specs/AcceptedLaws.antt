-- Laws of accepted procedures, each of which excludes a program whose runs would not be good.
-- (Mercury Language Reference Manual: Types; Determinism; this project's switch form.)
use Rattle.std.specs.Prelude.{◌≡◌, ℕ, true}
use Rattle.mc_program.specs.Values.{con, Vals}
use Rattle.mc_program.specs.Programs.{union_type, TypeTerms, Source}
use Rattle.mc_model.specs.Lists.{In}
use Rattle.mc_model.specs.Types.{OfType}
use Rattle.mc_model.specs.Scheduled.{Node, node, Scheduled, Conj, Disj, Switch, Ite, Not, Exists, Nodes, no_nodes, node_then, Arms, no_arms, arm_then, Procedure}
use Rattle.mc_model.specs.Good.{System}
use Rattle.mc_accepted.specs.Ordered.{Opens}
use Rattle.mc_accepted.specs.Accepted.{AcceptedProcedure}
use Rattle.mc_source.specs.declared.det.Most.TheVariants.{Many}

-- a value of a union type has a constructor that the type lists, so no number past the symbols
abbrev pub ValuesAreListed : Type 0
ValuesAreListed =
    (P : Source) (s u : ℕ) (vs : Vals) (ts : TypeTerms)
    → OfType P (con s vs) (union_type u ts) → In s (P.symbols_of u)

-- a committed procedure may have an answer
abbrev pub CommittedMayAnswer : Type 0
CommittedMayAnswer =
    (S : System) (p : Procedure)
    → AcceptedProcedure S p → p.det.committed ≡ true → p.det.most ≡ Many

-- each arm of each switch takes the variable apart before its first goal that is no equation
abbrev mutual
  pub SwitchesOpen : Node → Type 0
  SwitchesOpen (node s changes det pruned) = OpenInside s

  pub OpenInside : Scheduled → Type 0
  OpenInside (Conj ns) = AllSwitchesOpen ns
  OpenInside (Disj ns) = AllSwitchesOpen ns
  OpenInside (Switch x arms) = ArmsOpen x arms
  OpenInside (Ite vs c t e) = SwitchesOpen c × SwitchesOpen t × SwitchesOpen e
  OpenInside (Not n) = SwitchesOpen n
  OpenInside (Exists vs n) = SwitchesOpen n
  OpenInside s = Unit {0}

  pub AllSwitchesOpen : Nodes → Type 0
  AllSwitchesOpen no_nodes = Unit {0}
  AllSwitchesOpen (node_then n ns) = SwitchesOpen n × AllSwitchesOpen ns

  pub ArmsOpen : ℕ → Arms → Type 0
  ArmsOpen x no_arms = Unit {0}
  ArmsOpen x (arm_then l n arms) = Opens x l n × SwitchesOpen n × ArmsOpen x arms

abbrev pub AcceptedSwitchesOpen : Type 0
AcceptedSwitchesOpen =
    (S : System) (p : Procedure) → AcceptedProcedure S p → SwitchesOpen p.body
