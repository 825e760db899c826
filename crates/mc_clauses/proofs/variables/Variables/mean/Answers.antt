use Rattle.std.proofs.Common.{◌∙◌, ap, sym, refl}
use Rattle.std.specs.Option.{option_flatten}
use Rattle.mc_clauses.specs.code.Meanings.{meaning_of}
use Rattle.mc_clauses.proofs.Meanings.{named_entries, meaning-entries, meaning-insert}
use Rattle.mc_clauses.proofs.variables.Variables.mean.Goals as goal

pub returns-clause-before : goal.returns-clause-before
returns-clause-before c = c.flatten.ensures ∙ ap option_flatten c.in_ok-before.ensures.old ∙ sym (meaning-entries c.args.self.now.meanings.entries c.args.name.now)

pub returns-clause-meanings : goal.returns-clause-meanings
returns-clause-meanings c x =
    ap (λ es. meaning_of (named_entries es) x) c.in_ok-before.ensures.entries
    ∙ meaning-insert _ (λ a b. refl) c.args.self.now.meanings.entries c.args.name c.args.meaning x
