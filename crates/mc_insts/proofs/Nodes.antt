-- Inclusion by nodes, where none is free or dead.
use Rattle.std.proofs.Common.{◌≡◌, refl, List}
use Rattle.mc_accepted.specs.Inclusion.{IncludedNodes}
use Rattle.mc_insts.specs.code.Functors.{Functor}
use Rattle.mc_insts.specs.declared.graph.Node.{Node}
use Rattle.mc_insts.specs.declared.graph.Node.TheVariants as N
use Rattle.mc_insts.specs.code.Shown.{plain_node}

-- a node is neither free nor dead
pub record Inner (M : Node) : Type 0 where
  pub not_free : M ≡ N.Free → ⊥
  pub not_dead : M ≡ N.Dead → ⊥

pub included_to : (fs : List Functor) (M K : Node) (Q : Type 0) → Inner M → Inner K → IncludedNodes (plain_node fs M) (plain_node fs K) Q → Q
included_to fs N.Free K Q m k h = absurd (m.not_free refl)
included_to fs N.Dead K Q m k h = absurd (m.not_dead refl)
included_to fs N.Ground N.Free Q m k h = absurd (k.not_free refl)
included_to fs N.Ground N.Dead Q m k h = absurd (k.not_dead refl)
included_to fs N.Ground N.Ground Q m k h = h
included_to fs N.Ground N.Unique Q m k h = h
included_to fs N.Ground (N.Bound cs) Q m k h = h
included_to fs N.Unique N.Free Q m k h = absurd (k.not_free refl)
included_to fs N.Unique N.Dead Q m k h = absurd (k.not_dead refl)
included_to fs N.Unique N.Ground Q m k h = h
included_to fs N.Unique N.Unique Q m k h = h
included_to fs N.Unique (N.Bound cs) Q m k h = h
included_to fs (N.Bound ds) N.Free Q m k h = absurd (k.not_free refl)
included_to fs (N.Bound ds) N.Dead Q m k h = absurd (k.not_dead refl)
included_to fs (N.Bound ds) N.Ground Q m k h = h
included_to fs (N.Bound ds) N.Unique Q m k h = h
included_to fs (N.Bound ds) (N.Bound cs) Q m k h = h

pub included_from : (fs : List Functor) (M K : Node) (Q : Type 0) → Inner M → Inner K → Q → IncludedNodes (plain_node fs M) (plain_node fs K) Q
included_from fs N.Free K Q m k h = absurd (m.not_free refl)
included_from fs N.Dead K Q m k h = absurd (m.not_dead refl)
included_from fs N.Ground N.Free Q m k h = absurd (k.not_free refl)
included_from fs N.Ground N.Dead Q m k h = absurd (k.not_dead refl)
included_from fs N.Ground N.Ground Q m k h = h
included_from fs N.Ground N.Unique Q m k h = h
included_from fs N.Ground (N.Bound cs) Q m k h = h
included_from fs N.Unique N.Free Q m k h = absurd (k.not_free refl)
included_from fs N.Unique N.Dead Q m k h = absurd (k.not_dead refl)
included_from fs N.Unique N.Ground Q m k h = h
included_from fs N.Unique N.Unique Q m k h = h
included_from fs N.Unique (N.Bound cs) Q m k h = h
included_from fs (N.Bound ds) N.Free Q m k h = absurd (k.not_free refl)
included_from fs (N.Bound ds) N.Dead Q m k h = absurd (k.not_dead refl)
included_from fs (N.Bound ds) N.Ground Q m k h = h
included_from fs (N.Bound ds) N.Unique Q m k h = h
included_from fs (N.Bound ds) (N.Bound cs) Q m k h = h
