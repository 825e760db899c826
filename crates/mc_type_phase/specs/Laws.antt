-- Laws of what typing says.
use Rattle.std.specs.Prelude.{◌≡◌, ℕ, List, Option}
use Rattle.mc_source.specs.declared.rule.Broken.{Broken}
use Rattle.mc_program.specs.Programs.{TypeTerm}
use Rattle.mc_names.specs.Linked.{Linked}
use Rattle.mc_type_phase.specs.Items.{Item}
use Rattle.mc_type_phase.specs.Judging.{AreFaults}

-- items break one list of rules at most
abbrev pub AtMostOneList : Type 0
AtMostOneList =
    (l : Linked) (seen : (own : ℕ) → ℕ → Option TypeTerm) (items : List Item) (bs cs : List Broken)
    → AreFaults l seen items bs → AreFaults l seen items cs → bs ≡ cs
