use Rattle.std.proofs.Common.{◌≡◌, ◌<◌, ◌^◌, List, length, Some, sym, subst, arith}
use Rattle.std.specs.List.{list_any, slice_get}
use Rattle.mc_insts.specs.declared.types.TypeKey.{TypeKey}
use Rattle.mc_insts.specs.contracts.types.TypeKeyPartialEq.TheImpl as KeyEq
use Rattle.mc_insts.specs.code.Lists.{Extends}
use Rattle.mc_insts.specs.code.TypeRows.{terms, term_of, KeyFits, KeysFit, RowOf}
use Rattle.mc_insts.proofs.TypeKeys.{after_fit, after_length, after_extends, after_row}
use Rattle.mc_insts.proofs.types.TypeSet.insert.Goals as goal

pub invariant_of-self-2 : goal.invariant_of-self-2
invariant_of-self-2 c =
    let fits : KeyFits (length (terms c.self.inside.keys.keys)) c.args.key = subst (λ (ks : List TypeKey). KeyFits (length (terms ks)) c.args.key) (sym c.self.view_is) c.requires in (
      subst (λ (ks : List TypeKey). length ks < 2 ^ 32) (sym c.in_ok-r.ensures.keys) (let x = after_length c.self.inside.keys.keys c.args.key c.self.invariant.1 fits (list_any (KeyEq.eq-value.it c.args.key) c.self.inside.keys.keys) in let y = c.if-len.false in let z = c.len.ensures.len in omega arith),
      subst (λ (ks : List TypeKey). KeysFit 0 ks) (sym c.in_ok-r.ensures.keys) (after_fit c.self.inside.keys.keys c.args.key c.self.invariant.1 fits (list_any (KeyEq.eq-value.it c.args.key) c.self.inside.keys.keys)),
    )

pub returns-clause-row : goal.returns-clause-row
returns-clause-row c =
    let ks = c.self.inside.keys.keys in
    let fits : KeyFits (length (terms ks)) c.args.key = subst (λ (ls : List TypeKey). KeyFits (length (terms ls)) c.args.key) (sym c.self.view_is) c.requires in
    let s = c.in_ok-r.ensures.stored in
    subst (λ (ls : List TypeKey). RowOf (terms c.insert_full.new.self.keys) c.in_ok-r.r (term_of (terms ls) c.args.key)) c.self.view_is
    (subst (λ (ls : List TypeKey). RowOf (terms ls) c.in_ok-r.r (term_of (terms ks) c.args.key)) (sym c.in_ok-r.ensures.keys)
    (after_row ks c.args.key c.self.invariant.1 fits (list_any (KeyEq.eq-value.it c.args.key) ks) c.in_ok-r.r s.0
    (subst (λ (ls : List TypeKey). slice_get ls c.in_ok-r.r ≡ Some s.0) c.in_ok-r.ensures.keys s.1) s.2))

pub returns-clause-extends : goal.returns-clause-extends
returns-clause-extends c =
    let ks = c.self.inside.keys.keys in
    let fits : KeyFits (length (terms ks)) c.args.key = subst (λ (ls : List TypeKey). KeyFits (length (terms ls)) c.args.key) (sym c.self.view_is) c.requires in
    subst (λ (ls : List TypeKey). Extends (terms ls) (terms c.insert_full.new.self.keys)) c.self.view_is
    (subst (λ (ls : List TypeKey). Extends (terms ks) (terms ls)) (sym c.in_ok-r.ensures.keys) (after_extends ks c.args.key c.self.invariant.1 fits (list_any (KeyEq.eq-value.it c.args.key) ks)))
