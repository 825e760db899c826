use Rattle.std.proofs.Common.{◌≡◌, ◌<◌, ℕ, true}
use Rattle.mc_model.specs.Lists.{is_in}
use Rattle.mc_inst_table.specs.declared.heads.Head.TheVariants as H
use Rattle.mc_inst_table.specs.code.Ends.{bodies_of, head_at}
use Rattle.mc_inst_table.specs.code.Insides.{inside_at, put_ends, HeadIn}
use Rattle.mc_inst_table.proofs.inside.are_closed.Given as goal

abbrev pub invariant-loop-k : goal.invariant-loop-k
invariant-loop-k l =
    (d : ℕ) → d < l.k → (k : ℕ)
    → HeadIn (H.Parameter k) (put_ends (head_at l.heads) (inside_at l.inside) (bodies_of l.bodies d))
    → is_in k (inside_at l.inside d) ≡ true
