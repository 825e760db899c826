use Rattle.std.proofs.Common.{◌≡◌, ◌++◌, List, drop, map}
use Rattle.mc_names.specs.Plain.{PlainDefinition, plain_definition}
use Rattle.mc_modules.specs.Linked.{numbered}
use Rattle.mc_modules.proofs.numbered.Numbered.put_all.Given as goal

abbrev pub invariant-loop-definition : goal.invariant-loop-definition
invariant-loop-definition l =
    (ts : List PlainDefinition) → l.self.all.items ++ numbered l.self.con l.self.pred (map plain_definition (drop l.definition-index l.definitions) ++ ts) ≡ l.fn.self.all.items ++ numbered l.fn.self.con l.fn.self.pred (map plain_definition l.definitions ++ ts)
