-- A command's values as those of its meaning.
use Rattle.std.specs.Prelude.{ℕ, List, map}
use Rattle.std.specs.Borrow.{Bor}
use Rattle.mc_command_line.specs.Words.{Meaning, Check, Run, Query}
use Rattle.mc_command_line.specs.Words.{Bounds as SpecBounds}
use Rattle.mc_command_line.specs.declared.limits.Bounds.{Bounds}
use Rattle.mc_command_line.specs.declared.words.Command.{Command}
use Rattle.mc_command_line.specs.declared.words.Command.TheVariants as command

abbrev pub plain_text : Bor (List ℕ) → List ℕ
plain_text text = text.now

abbrev pub plain_texts : List (Bor (List ℕ)) → List (List ℕ)
plain_texts = map plain_text

abbrev pub plain_bounds : Bounds → SpecBounds
plain_bounds b = record { budget = b.budget; depth = b.depth }

abbrev pub plain_command : Command → Meaning
plain_command (command.Check files) = Check (plain_texts files.items)
plain_command (command.Run bounds files) = Run (plain_bounds bounds) (plain_texts files.items)
plain_command (command.Query first bounds goal files) =
    Query first (plain_bounds bounds) goal.now (plain_texts files.items)
