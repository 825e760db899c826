use Rattle.std.proofs.Common.{◌≡◌, ◌+◌, ◌<◌, ◌^◌, List, length, Some, sym, subst, arith}
use Rattle.std.specs.List.{list_any, slice_get}
use Rattle.mc_signatures.specs.declared.keys.InstKey.{InstKey}
use Rattle.mc_signatures.specs.contracts.keys.InstKeyPartialEq.TheImpl as KeyEq
use Rattle.mc_insts.specs.code.Lists.{Extends}
use Rattle.mc_signatures.specs.code.Keys.{terms, term_of, KeyFits, KeysFit, IsInst}
use Rattle.mc_signatures.proofs.InstKeys.{after_fit, after_length, after_extends, after_row}
use Rattle.mc_signatures.proofs.keys.InstSet.insert.Goals as goal

pub invariant_of-self-2 : goal.invariant_of-self-2
invariant_of-self-2 c =
    let fits : KeyFits (length (terms c.self.inside.keys.keys)) c.args.key = subst (λ (ks : List InstKey). KeyFits (length (terms ks)) c.args.key) (sym c.self.view_is) c.requires in (
      subst (λ (ks : List InstKey). length ks < 2 ^ 32) (sym c.in_ok-place.ensures.keys) (let x = after_length c.self.inside.keys.keys c.args.key c.self.invariant.1 fits (list_any (KeyEq.eq-value.it c.args.key) c.self.inside.keys.keys) in let y = c.if-len.false in let z = c.len.ensures.len in omega arith),
      subst (λ (ks : List InstKey). KeysFit 4 ks) (sym c.in_ok-place.ensures.keys) (after_fit c.self.inside.keys.keys c.args.key c.self.invariant.1 fits (list_any (KeyEq.eq-value.it c.args.key) c.self.inside.keys.keys)),
    )

pub returns-clause-inst : goal.returns-clause-inst
returns-clause-inst c =
    let ks = c.self.inside.keys.keys in
    let fits : KeyFits (length (terms ks)) c.args.key = subst (λ (ls : List InstKey). KeyFits (length (terms ls)) c.args.key) (sym c.self.view_is) c.requires in
    let s = c.in_ok-place.ensures.stored in
    subst (λ (ls : List InstKey). IsInst (terms c.insert_full.new.self.keys) (4 + c.in_ok-place.place) (term_of (terms ls) c.args.key)) c.self.view_is
    (subst (λ (ls : List InstKey). IsInst (terms ls) (4 + c.in_ok-place.place) (term_of (terms ks) c.args.key)) (sym c.in_ok-place.ensures.keys)
    (after_row ks c.args.key c.self.invariant.1 fits (list_any (KeyEq.eq-value.it c.args.key) ks) c.in_ok-place.place s.0
    (subst (λ (ls : List InstKey). slice_get ls c.in_ok-place.place ≡ Some s.0) c.in_ok-place.ensures.keys s.1) s.2))

pub returns-clause-extends : goal.returns-clause-extends
returns-clause-extends c =
    let ks = c.self.inside.keys.keys in
    let fits : KeyFits (length (terms ks)) c.args.key = subst (λ (ls : List InstKey). KeyFits (length (terms ls)) c.args.key) (sym c.self.view_is) c.requires in
    subst (λ (ls : List InstKey). Extends (terms ls) (terms c.insert_full.new.self.keys)) c.self.view_is
    (subst (λ (ls : List InstKey). Extends (terms ks) (terms ls)) (sym c.in_ok-place.ensures.keys) (after_extends ks c.args.key c.self.invariant.1 fits (list_any (KeyEq.eq-value.it c.args.key) ks)))
