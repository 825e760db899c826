-- The definitions that an inst passes itself before any constructor, where those that it passes within
-- their bodies are left out.
use Rattle.std.specs.Prelude.{ℕ, List, [], ◌∷◌, slice_index_or}
use Rattle.mc_accepted.specs.InstRules.{InstTerm, parameter, inst_node, defined, bound_over, InstTerms, no_insts, inst_then}
use Rattle.mc_inst_table.specs.declared.heads.Head.{Head}
use Rattle.mc_inst_table.specs.declared.heads.Head.TheVariants as H

-- what is passed behind a definition, by where its body leads and what the insts pass that are given
abbrev pub passed_behind : Head → List (List ℕ) → List ℕ
passed_behind (H.Parameter k) ps = slice_index_or ps k []
passed_behind h ps = []

abbrev mutual
  pub passed : (heads : ℕ → Head) → InstTerm → List ℕ
  passed heads (parameter k) = []
  passed heads (inst_node i) = []
  passed heads (defined d is) = d ∷ passed_behind (heads d) (each_passed heads is)
  passed heads (bound_over fs is) = []

  pub each_passed : (heads : ℕ → Head) → InstTerms → List (List ℕ)
  each_passed heads no_insts = []
  each_passed heads (inst_then i is) = passed heads i ∷ each_passed heads is
