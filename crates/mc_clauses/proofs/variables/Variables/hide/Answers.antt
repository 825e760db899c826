use Rattle.std.proofs.Common.{◌≡◌, ◌∙◌, ap, sym, refl, map, ◌++◌, ◌∷◌, [], Some, if◌then◌else◌}
use Rattle.std.specs.Str.{bytes_eq}
use Rattle.mc_term_data.specs.Plain.{at, Var}
use Rattle.mc_clauses.specs.code.Meanings.{meaning_of, meanings_of}
use Rattle.mc_clauses.proofs.Meanings.{entered-one}
use Rattle.mc_clauses.proofs.Views.{plain_term-var}
use Rattle.mc_clauses.proofs.variables.Variables.hide.Goals as goal

pub returns-in_ok-push-2 : goal.returns-in_ok-push-2
returns-in_ok-push-2 c q m s e =
    rw (plain_term-var c.args.term.now c.in-Var.name c.in-Var.is ∙ ap (λ w. at (Var w) c.args.term.now.line) (sym c.bytes-name.ensures.items))
    (entered-one q m s c.args.inner.now _ c.args.self.now c.mean.new.self (record { name = c.bytes-name.result; meaning = c.in_ok-meaning.meaning }) c.in_ok-number.number e c.in_ok-number.ensures.number
    (c.in_ok-meaning.ensures.before ∙ ap (λ es. meaning_of (map (λ e. (e.0.now, e.1)) es.entries) c.bytes-name.result.now) c.one_more.ensures.meanings)
    c.in_ok-push-2.ensures.items
    c.in_ok-push.ensures.items
    (λ y. c.in_ok-meaning.ensures.meanings y ∙ ap (λ es. if bytes_eq y c.bytes-name.result.now then Some c.in_ok-number.number else meaning_of (map (λ e. (e.0.now, e.1)) es.entries) y) c.one_more.ensures.meanings)
    (ap (λ ns. map (λ name. name.now) ns.items) c.mean.ensures.names ∙ c.in_ok-number.ensures.names))
