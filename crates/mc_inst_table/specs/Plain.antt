-- The plain data that written insts and modes stand for, without their rows.
use Rattle.std.specs.Prelude.{List, [], ◌∷◌, map}
use Rattle.mc_accepted.specs.InstRules.{Functor, InstTerm, parameter, inst_node, defined, bound_over, InstTerms, no_insts, inst_then}
use Rattle.mc_inst_table.specs.Written.{ModeTerm, from_to, defined_mode}
use Rattle.mc_inst_table.specs.declared.inst.Inst.{Inst}
use Rattle.mc_inst_table.specs.declared.inst.Inst.TheOpen as I
use Rattle.mc_inst_table.specs.declared.inst.Inst.TheFolds.{fold-Inst}
use Rattle.mc_inst_table.specs.declared.inst.Functor.{Functor as Listed}
use Rattle.mc_inst_table.specs.declared.inst.Mode.{Mode}
use Rattle.mc_inst_table.specs.declared.inst.Mode.TheVariants as M

-- the insts of a list
abbrev pub inst_terms : List InstTerm → InstTerms
inst_terms [] = no_insts
inst_terms (i ∷ is) = inst_then i (inst_terms is)

abbrev pub plain_functor : Listed → Functor
plain_functor f = record { name = f.name; arity = f.arity }

abbrev pub plain_inst_step : I.Inst-F InstTerm → InstTerm
plain_inst_step (I.Parameter k) = parameter k
plain_inst_step (I.Node k) = inst_node k
plain_inst_step (I.Defined d is) = defined d (inst_terms is)
plain_inst_step (I.Bound fs is) = bound_over (map plain_functor fs) (inst_terms is)

abbrev pub plain_inst : Inst → InstTerm
plain_inst = fold-Inst InstTerm plain_inst_step

abbrev pub plain_insts : List Inst → InstTerms
plain_insts is = inst_terms (map plain_inst is)

abbrev pub plain_mode : Mode → ModeTerm
plain_mode (M.FromTo i j) = from_to (plain_inst i) (plain_inst j)
plain_mode (M.Defined d is) = defined_mode d (plain_insts is)
