use Rattle.std.proofs.Common.{◌≡◌, ◌∙◌, ap, sym, refl, map, length, false, None, ◌++◌, ◌∷◌, [], rules, Some, if◌then◌else◌}
use Rattle.std.specs.Str.{bytes_eq}
use Rattle.mc_clause_syntax.specs.Limits.{is_anonymous}
use Rattle.mc_clauses.specs.code.Meanings.{meaning_of, meanings_of}
use Rattle.mc_clauses.proofs.Meanings.{unknown}
use Rattle.mc_clauses.proofs.variables.Variables.number.Goals as goal

pub returns-in_ok-mean-in-None : goal.returns-in_ok-mean-in-None
returns-in_ok-mean-in-None c q m knows =
    let x = c.args.name.now in
    let named : is_anonymous x ≡ false = search rules in
    unknown q m x _ c.args.self.now _ named (sym c.meaning.ensures ∙ c.in-None.is) knows c.in_ok-number-in-None.ensures.number
    (λ y. c.in_ok-mean-in-None.ensures.meanings y ∙ ap (λ es. if bytes_eq y x then Some c.in_ok-number-in-None.number else meaning_of (map (λ e. (e.0.now, e.1)) es.entries) y) c.one_more-in-None.ensures.meanings)
    (ap (λ ns. map (λ name. name.now) ns.items) c.mean.ensures.names ∙ c.in_ok-number-in-None.ensures.names)
