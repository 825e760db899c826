use Rattle.std.proofs.Common.{◌≡◌, ℕ, List, vec_len}
use Rattle.mc_clauses.specs.code.Meanings.{meaning_of, meanings_of, restored}
use Rattle.mc_clauses.proofs.variables.Variables.leave.Given as goal

abbrev pub invariant-loop-name : goal.invariant-loop-name
invariant-loop-name l = record {
  meanings : (x : List ℕ) → restored l.hidden.items (meaning_of (meanings_of l.self)) x ≡ restored l.initial.hidden.items (meaning_of (meanings_of l.initial.self)) x;
  names : l.self.names ≡ l.initial.self.names;
}

abbrev pub decreases-loop-name : goal.decreases-loop-name
decreases-loop-name l = vec_len l.hidden
