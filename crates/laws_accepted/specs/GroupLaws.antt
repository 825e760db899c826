-- Merging insts in groups, as the arms of a switch do. (Mercury Language Reference Manual: Modes,
-- insts; Determinism, switches.)
use Rattle.std.specs.Prelude.{◌↔◌, ℕ, List, [], ◌∷◌, ◌++◌}
use Rattle.mc_program.specs.Programs.{TypeTerm, Source}
use Rattle.mc_model.specs.Insts.{Graph}
use Rattle.mc_model.specs.Lists.{Among}
use Rattle.mc_accepted.specs.Inclusion.{Merged}
use Rattle.mc_accepted.specs.Proper.{ProperGraph}

-- the insts of all groups
abbrev pub in_groups : List (List ℕ) → List ℕ
in_groups [] = []
in_groups (is ∷ groups) = is ++ in_groups groups

-- no group is empty, and each has its merged inst
abbrev pub EachMerged : Source → Graph → List (List ℕ) → List ℕ → TypeTerm → Type 0
EachMerged P G [] [] t = Unit {0}
EachMerged P G ((i ∷ is) ∷ groups) (k ∷ ks) t =
    Merged P G (i ∷ is) k t × EachMerged P G groups ks t
EachMerged P G _ _ t = ⊥

-- what merges the merged insts of groups merges all that are in them
abbrev pub GroupsMergeAsAll : Type 0
GroupsMergeAsAll =
    (P : Source) (G : Graph) → ProperGraph G → (groups : List (List ℕ)) (ks : List ℕ) (k : ℕ)
    (t : TypeTerm) → EachMerged P G groups ks t
    → Merged P G (in_groups groups) k t ↔ Merged P G ks k t

-- merging looks neither at the order of insts nor at how often one stands there
abbrev pub MergingKeepsSets : Type 0
MergingKeepsSets =
    (P : Source) (G : Graph) (is js : List ℕ) (k : ℕ) (t : TypeTerm) → Among is js → Among js is
    → Merged P G is k t → Merged P G js k t
