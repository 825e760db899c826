use Rattle.std.proofs.Common.{◌≡◌, ◌+◌, ℕ, List, [], ◌∷◌, ◌++◌, length, map, take, sym, ap, ◌∙◌, subst, arith}
use Rattle.std.proofs.lemmas.List.{take_all}
use Rattle.mc_program.specs.declared.program.Symbol.{Symbol}
use Rattle.mc_insts.specs.code.Functors.{Functor, functor_named}
use Rattle.mc_insts.proofs.Numbered.{Numbered, name_of, numbered_none, numbered_more, names_more, constructors_are}
use Rattle.mc_insts.proofs.insts.functors_of.Goals as goal

pub loop-symbol-init : goal.loop-symbol-init
loop-symbol-init c =
    let none : length c.new-functors.result ≡ 0 = ap (λ (fs : List Functor). length fs) c.new-functors.ensures in
    subst (λ (zs : List ℕ). Numbered c.insert-2.new.self zs []) (sym c.new-symbols.ensures.items)
    (numbered_none c.insert-2.new.self c.in_ok-insert.field-0
    (c.in_ok-insert.ensures.distinct (λ f g lt gt p q. absurd (omega arith)))
    c.in_ok-insert.ensures.there
    (c.in_ok-insert.ensures.functor ∙ ap (λ (name : List ℕ). functor_named name 0) c.empty.ensures)
    (λ k low high. c.in_ok-insert.ensures.last k (omega arith) high))

pub loop-symbol-preserved : goal.loop-symbol-preserved
loop-symbol-preserved c =
    let gs = c.insert-in-loop-symbol.new.self in
    let listed = c.as_slice-listed.result.now in
    let i = c.loop-symbol.symbol-index in
    let f = c.in_ok-insert-2.field-0 in
    let s : Symbol = c.symbol-item.result in
    subst (λ (zs : List ℕ). Numbered gs zs (map name_of (take (i + 1) listed))) (sym c.in_ok-push.ensures.items)
    (subst (λ (names : List Functor). Numbered gs (c.loop-symbol.symbols.items ++ f ∷ []) names) (sym (names_more listed i s c.loop-symbol-test.true c.symbol-item.is))
    (numbered_more c.loop-symbol.functors gs c.loop-symbol.symbols.items (map name_of (take i listed)) f (name_of s) c.loop-symbol.invariant
    c.in_ok-insert-2.ensures.extends (c.in_ok-insert-2.ensures.distinct c.loop-symbol.invariant.distinct) c.in_ok-insert-2.ensures.there c.in_ok-insert-2.ensures.functor c.in_ok-insert-2.ensures.last))

pub returns-clause-are : goal.returns-clause-are
returns-clause-are c =
    let fs = c.loop-symbol.functors in
    let listed = c.as_slice-listed.result.now in
    let i = c.loop-symbol.symbol-index in
    let whole : take i listed ≡ listed = take_all i listed (let x = c.loop-symbol-test.false in omega arith) in
    constructors_are c.args.program.now fs c.in_ok-symbols.symbols
    (subst (λ (ls : List Symbol). Numbered fs c.in_ok-symbols.symbols (map name_of ls)) (whole ∙ c.as_slice-listed.ensures.items)
    (subst (λ (zs : List ℕ). Numbered fs zs (map name_of (take i listed))) (sym c.in_ok-symbols.ensures.elements) c.loop-symbol.invariant))
