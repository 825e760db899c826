use Rattle.std.proofs.Common.{◌≡◌, ℕ, List, length, get_or, true, false, refl, sym, ◌∙◌, subst, arith}
use Rattle.std.specs.Set.{is_member}
use Rattle.mc_program.specs.Programs.{Source}
use Rattle.mc_program.specs.PlainPrograms.{plain_program}
use Rattle.mc_self_check.specs.code.Constructors.{is_functor, functor_of, with_functor}
use Rattle.mc_self_check.proofs.Distinct.{Seen, holds, isnt, was_new, wasnt_new, one_more, twice, strange, all_seen}
use Rattle.mc_self_check.proofs.constructors.type_fits.Goals as goal

pub returns-then-type_of-u : goal.returns-then-type_of-u
returns-then-type_of-u c = isnt (λ fits.
    let S : Source = plain_program c.args.program.now in
    let us : List ℕ = c.args.symbols.now in
    let k : ℕ = c.loop-number.number-index in
    strange S c.args.u us k (get_or us k 0) c.loop-number.listed (omega arith) refl c.loop-number.invariant
    (λ e. c.if-type_of-u.true (c.type_of.ensures ∙ e)) fits)

pub returns-then-not-is_new : goal.returns-then-not-is_new
returns-then-not-is_new c = isnt (λ fits.
    let S : Source = plain_program c.args.program.now in
    let us : List ℕ = c.args.symbols.now in
    let k : ℕ = c.loop-number.number-index in
    let n : ℕ = get_or us k 0 in
    let old : is_member is_functor c.loop-number.listed (functor_of S n) ≡ true =
    subst (λ x. is_member is_functor c.loop-number.listed x ≡ true) c.functor.ensures (wasnt_new _ _ c.in_ok-is_new.ensures.added c.if-not-is_new.true) in
    twice S c.args.u us k n c.loop-number.listed (omega arith) refl c.loop-number.invariant old fits)

pub loop-number-preserved : goal.loop-number-preserved
loop-number-preserved c =
    let S : Source = plain_program c.args.program.now in
    let us : List ℕ = c.args.symbols.now in
    let k : ℕ = c.loop-number.number-index in
    let n : ℕ = get_or us k 0 in
    let new : is_member is_functor c.loop-number.listed (functor_of S n) ≡ false =
    subst (λ x. is_member is_functor c.loop-number.listed x ≡ false) c.functor.ensures (was_new _ _ c.in_ok-is_new.ensures.added c.if-not-is_new.false) in
    let into : c.put.new.self ≡ with_functor c.loop-number.listed (functor_of S n) =
    subst (λ x. c.put.new.self ≡ with_functor c.loop-number.listed x) c.functor.ensures c.in_ok-is_new.ensures.ok in
    one_more S c.args.u us k n c.loop-number.listed (omega arith) refl c.loop-number.invariant new c.put.new.self
    (sym c.type_of.ensures ∙ c.if-type_of-u.false) into

pub returns : goal.returns
returns c =
    let S : Source = plain_program c.args.program.now in
    let us : List ℕ = c.args.symbols.now in
    let whole : c.loop-number.number-index ≡ length us = omega arith in
    holds (all_seen S c.args.u us c.loop-number.listed
    (subst (λ k. Seen S c.args.u us k c.loop-number.listed) whole c.loop-number.invariant))
