-- The rules of an item, in groups.
use Rattle.std.specs.Prelude.{ℕ, List, [], ◌∷◌, Option}
use Rattle.std.specs.Option.{option_or}
use Rattle.mc_names.specs.Plain.{PlainDefinition}
use Rattle.mc_defs_uses.specs.Occurrences.{uses}
use Rattle.mc_defs_uses.specs.Clauses.{clause_of, mode_of, without_mode}
use Rattle.mc_defs_uses.specs.Sets.{put_all}
use Rattle.mc_names.specs.Definitions.{definitions}
use Rattle.mc_source.specs.declared.rule.Broken.{Broken}
use Rattle.mc_decl_syntax.specs.Entries.{File}
use Rattle.mc_modules.specs.Files.{PlainItemInFile}
use Rattle.mc_source.specs.Rules.{Fault, first_rules}
use Rattle.mc_modules.specs.Faults.{double_fault, undefined_fault, undeclared, ambiguous, mode_fault, fault}

-- the rules of what an item declares, defines, and is of, and of the modes of predicates
abbrev pub definition_fault :
    List File → (own : ℕ) → (all : List PlainItemInFile) → (before : List PlainDefinition)
    → PlainItemInFile → Option Fault
definition_fault files own all before s =
    option_or (double_fault before s.item)
    (option_or (undefined_fault all (definitions s.item))
    (option_or (undeclared all (option_or (clause_of s.item) (mode_of s.item)))
    (option_or (ambiguous files own (uses s.item))
    (mode_fault all (without_mode s.item)))))

-- items, each with what stands before it as a set
abbrev pub with_set :
    (before : List PlainDefinition)
    → List PlainItemInFile → List (List PlainDefinition × PlainItemInFile)
with_set before [] = []
with_set before (s ∷ ss) = (before, s) ∷ with_set (put_all before (definitions s.item)) ss

-- the first rules that items break, behind those that declare or define `before`
abbrev pub faults_behind :
    List File → (own : ℕ) → (all : List PlainItemInFile)
    → List (List PlainDefinition × PlainItemInFile) → List Broken
faults_behind files own all bs =
    first_rules (λ b. b.1.at) (λ b. fault files own all b.0 b.1) bs
