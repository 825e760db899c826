-- The rules of modes, and what is said of one that is broken. (Mercury Language Reference Manual:
-- Modes; this project's rules and texts.)
use Rattle.std.specs.Prelude.{ℕ, ◌+◌, nat_lt, List, [], ◌∷◌, ◌++◌, Option, Some, None, get_or, codes, decimal, if◌then◌else◌}
use Rattle.mc_source.specs.Rules.{Fault}
use Rattle.mc_source.specs.declared.rule.Rule.TheVariants as R
use Rattle.mc_accepted.specs.Arranged.{waits, negated_binds, branches_differ, lacks, Verdict, in_order, faulty, unmet}

-- an argument by its place, which is counted from 0 and told from 1
abbrev pub argument : (place : ℕ) → List ℕ
argument k = codes "argument " ++ decimal (k + 1)

abbrev pub named : List ℕ → List ℕ
named [] = codes "a hidden variable"
named (c ∷ cs) = c ∷ cs

-- a head variable as the argument that it is, another by its name in the source, where it has one
abbrev pub shown_variable : (arity : ℕ) → (names : List (List ℕ)) → ℕ → List ℕ
shown_variable n names x = if nat_lt x n then argument x else named (get_or names x [])

abbrev pub stuck : (waiting : ℕ) → List ℕ
stuck n = codes "no goal can run; " ++ decimal n ++ codes " waiting"

abbrev pub not_met : (place : ℕ) → List ℕ
not_met k = codes "final inst of " ++ argument k ++ codes " is not met"

-- The rule that a procedure's goal breaks, of a predicate with so many arguments, by what becomes
-- of the goal. That a node is lacking becomes of none.
abbrev pub rule_of : (arity : ℕ) → (names : List (List ℕ)) → Verdict → Option Fault
rule_of n names (in_order g) = None
rule_of n names (faulty (waits k xs)) = Some (R.M1, stuck k)
rule_of n names (faulty (negated_binds x)) =
    Some (R.M2, codes "a negated goal binds " ++ shown_variable n names x)
rule_of n names (faulty (branches_differ x)) =
    Some (R.M3, codes "branches bind differently: " ++ shown_variable n names x)
rule_of n names (faulty lacks) = None
rule_of n names (unmet k) = Some (R.M4, not_met k)
