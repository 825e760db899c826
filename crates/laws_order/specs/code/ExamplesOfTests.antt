-- A program of lists, and a graph of their insts: some test tells inclusion.
use Rattle.std.specs.Prelude.{ℕ, Bool}
use Rattle.mc_program.specs.Programs.{TypeTerm}
use Rattle.mc_accepted.specs.Forms.{Form}
use Rattle.mc_accepted.specs.InOrder.{Tells}
use Rattle.laws_language.specs.code.ExamplesOfProcedures.{list_source, list_insts}

abbrev pub ListsAreTold : Type 0
ListsAreTold = (fits : Form → ℕ → TypeTerm → Bool) × Tells list_source list_insts fits
