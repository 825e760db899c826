-- Insts of variables, by their list.
use Rattle.std.specs.Prelude.{◌≡◌, ℕ, ◌<◌, List, get_or, length}
use Rattle.mc_program.specs.declared.ty.Ty.{Ty}
use Rattle.mc_insts.specs.Graphs.{count_of}
use Rattle.mc_procs.specs.Procedures.{PlainProcs}

abbrev pub inst_in : List ℕ → ℕ → ℕ
inst_in insts x = get_or insts x 0

-- there is an inst for each type, and each is one of the graph
pub record InstsFit (q : PlainProcs) (types : List Ty) (insts : List ℕ) : Type 0 where
  pub many : length insts ≡ length types
  pub there : (x : ℕ) → inst_in insts x < count_of q.insts
