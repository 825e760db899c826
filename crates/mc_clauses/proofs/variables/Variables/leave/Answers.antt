use Rattle.std.proofs.Common.{◌≡◌, ◌∙◌, ap, sym, refl, [], rules, map}
use Rattle.mc_clauses.specs.code.Meanings.{meaning_of, meanings_of, restored}
use Rattle.mc_clauses.proofs.Meanings.{restored-behind, left}
use Rattle.mc_clauses.proofs.variables.Variables.leave.Goals as goal

pub loop-name-init : goal.loop-name-init
loop-name-init c = record { meanings = λ x. refl; names = refl }

pub loop-name-preserved : goal.loop-name-preserved
loop-name-preserved c =
    record {
      meanings = λ x.
          sym (restored-behind c.pop.new.self.items c.in-Some.field-0 (meaning_of (meanings_of c.loop-name.self)) (meaning_of (meanings_of c.mean.new.self)) x (c.in_ok-mean.ensures.meanings x))
          ∙ ap (λ hs. restored hs (meaning_of (meanings_of c.loop-name.self)) x) (sym c.in-Some.ensures.items)
          ∙ c.loop-name.invariant.meanings x;
      names = c.mean.ensures.names ∙ c.loop-name.invariant.names;
    }

pub returns : goal.returns
returns c q m after s h k knows =
    let none : c.loop-name.hidden.items ≡ [] = search rules in
    record {
      meanings = λ x.
          ap (λ hs. restored hs (meaning_of (meanings_of c.loop-name.self)) x) (sym none)
          ∙ c.loop-name.invariant.meanings x
          ∙ left q m after s c.args.hidden.items h k (meaning_of (meanings_of c.args.self.now)) x (knows.meanings x);
      names = ap (λ ns. map (λ name. name.now) ns.items) c.loop-name.invariant.names ∙ knows.names;
    }
