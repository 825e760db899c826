use Rattle.std.proofs.Common.{◌≤◌, List, length, refl, sym, ap, ◌∙◌, subst, map}
use Rattle.mc_insts.specs.declared.functors.NameArity.{NameArity}
use Rattle.mc_insts.specs.code.Functors.{Functor, functor_named}
use Rattle.mc_insts.specs.code.Shown.{Distinct}
use Rattle.mc_insts.proofs.FunctorKeys.{functor_of, stored, kept_distinct, last_is}
use Rattle.mc_insts.proofs.functors.Functors.insert.Goals as goal

pub returns-clause-functor : goal.returns-clause-functor
returns-clause-functor c =
    stored c.insert_full.new.self.keys c.in_ok-f.f (record { name = c.in_ok-name.name; arity = c.args.arity }) (c.in_ok-f.ensures.stored)
    ∙ ap (λ name. functor_named name c.args.arity) (c.in_ok-name.ensures.items ∙ c.bytes.ensures.items)

pub returns-clause-distinct : goal.returns-clause-distinct
returns-clause-distinct c = λ d.
    subst (λ (keys : List NameArity). Distinct (map functor_of keys)) (sym c.in_ok-f.ensures.keys)
    (kept_distinct _ c.self.inside.named.keys (record { name = c.in_ok-name.name; arity = c.args.arity }) refl (subst (λ (fs : List Functor). Distinct fs) (sym c.self.view_is) d))

pub returns-clause-last : goal.returns-clause-last
returns-clause-last c = λ n low high.
    last_is c.self.inside.named.keys c.insert_full.new.self.keys (record { name = c.in_ok-name.name; arity = c.args.arity }) c.in_ok-f.f c.in_ok-f.ensures.keys c.in_ok-f.ensures.stored n
    (subst (λ (fs : List Functor). length fs ≤ n) (sym c.self.view_is) low)
    high
