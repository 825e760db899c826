use Rattle.std.proofs.Common.{◌≡◌, ◌++◌, drop}
use Rattle.mc_decl_syntax.specs.Entries.{plain_files}
use Rattle.mc_modules.specs.Linked.{scopes_from}
use Rattle.mc_modules.proofs.scopes.scopes.Given as goal

abbrev pub invariant-loop-own : goal.invariant-loop-own
invariant-loop-own l = l.all.items ++ scopes_from (plain_files l.linking) l.own (plain_files (drop l.own l.linking)) ≡ scopes_from (plain_files l.linking) 0 (plain_files l.linking)
