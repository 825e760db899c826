-- Narrowing by functors is narrowing by constructors.
use Rattle.std.proofs.Common.{◌≡◌, ℕ, ◌<◌, true, false, List, length, Option, Some, None, MatchOption, refl, sym}
use Rattle.mc_program.specs.Programs.{Source}
use Rattle.mc_insts.specs.declared.graph.Case.{Case}
use Rattle.mc_insts.specs.declared.graph.Node.TheVariants as N
use Rattle.mc_insts.specs.code.Cases.{node_has}
use Rattle.mc_insts.specs.code.Overs.{node_list}
use Rattle.mc_insts.specs.code.Walks.{Scene, node_at, functor_at, ProperCases}
use Rattle.mc_insts.specs.code.Shown.{Distinct, plain_graph}
use Rattle.mc_insts.specs.Narrowed.{Narrowed}
use Rattle.mc_insts.specs.code.Narrowing.{IsFunctorOf}
use Rattle.mc_insts.proofs.Bridge.{allows_from, allows_to}

pub narrowed : (C : Scene) → ((i : ℕ) (cs : List Case) → node_at C.nodes i ≡ N.Bound cs → ProperCases C (length C.nodes) cs) → Distinct C.functors → (i f : ℕ) → f < length C.functors → (o : Option (List ℕ))
    → MatchOption o (node_has (node_at C.nodes i) f ≡ false) (λ row. (node_has (node_at C.nodes i) f ≡ true) × (row ≡ node_list (node_at C.nodes i) i f (functor_at C.functors f).arity))
    → (P : Source) (s : ℕ) → IsFunctorOf P C.functors f s → Narrowed P (plain_graph C.functors C.nodes) i s o
narrowed C nodes distinct i f w None h P s is = λ a.
    let x = (allows_to P C.functors distinct s f w is.name is.arity C (length C.nodes) refl (node_at C.nodes i) (nodes i) i (functor_at C.functors f).arity (λ is. Unit {0}) is.arity a).0 in cc
narrowed C nodes distinct i f w (Some row) h P s is = allows_from P C.functors distinct s f w is.name is.arity (node_at C.nodes i) i (functor_at C.functors f).arity (λ js. js ≡ row) is.arity h.0 (sym h.1)
