use Rattle.std.proofs.Common.{List, ℕ, map, IfOk, sym, subst}
use Rattle.std.specs.List.{All}
use Rattle.mc_program.specs.Values.{con, vals}
use Rattle.mc_values.specs.Heap.{IsLive, value_at, StandsFor}
use Rattle.mc_values.proofs.heap.Heap.con.Goals as goal

pub push-requires : goal.push-requires
push-requires c =
    subst (λ (l : List ℕ). All (IsLive c.args.self.now) l) (sym (c.in_ok-args.ensures {u = tt})) c.requires

pub returns-clause-ok : goal.returns-clause-ok
returns-clause-ok c =
    subst (λ (l : List ℕ). IfOk c.push.result (λ r. StandsFor c.push.new.self r (con c.args.symbol (vals (map (value_at c.args.self.now) l))))) (c.in_ok-args.ensures {u = tt}) c.push.ensures.ok
