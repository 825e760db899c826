use Rattle.std.proofs.Common.{◌≡◌, ◌+◌, ◌++◌, ◌∷◌, [], length, map, take, ap, ap₂, sym, ◌∙◌, arith, length-append}
use Rattle.std.proofs.lemmas.List.{map-append, take_more, take_all}
use Rattle.mc_program.specs.Programs.{TypeTerm, union_type}
use Rattle.mc_program.specs.PlainPrograms.{plain_type, type_terms}
use Rattle.mc_program.specs.declared.ty.Ty.{Ty}
use Rattle.mc_types.specs.Trees.{placed, type_of}
use Rattle.mc_types.proofs.TypeViews.{plain_type-Union}
use Rattle.mc_types.proofs.TreeLaws.{union_placed}
use Rattle.mc_types.proofs.written.+resolve_type.Goals as goal

pub loop-arg-preserved : goal.loop-arg-preserved
loop-arg-preserved t c =
    let x = c.in_ok-resolve_type-in-Union.field-0 in
    let made = c.loop-arg.made in
    let args = c.as_slice-args.result.now in
    let i = c.loop-arg.arg-index in
    let arg = c.arg-item.result in
    let pushed = c.in_ok-push-in-Union.ensures.ok in
    let more : take (i + 1) args ≡ take i args ++ arg ∷ [] = take_more args i arg (omega arith) ∙ ap (λ y. take i args ++ y ∷ []) (sym c.arg-item.is) in
    record {
      as_many = omega (arith, ap length pushed, length-append made (x ∷ []), c.loop-arg.invariant.as_many);
      says = λ ρ g.
          let f : Ty → TypeTerm = λ ty. type_of (placed c.args.vars ρ (plain_type ty)) in
          ap (map plain_type) pushed
          ∙ map-append plain_type made (x ∷ [])
          ∙ ap₂ (λ xs y. xs ++ y ∷ []) (c.loop-arg.invariant.says ρ g) (c.in_ok-resolve_type-in-Union.ensures ρ g)
          ∙ sym (ap (map f) more ∙ map-append f (take i args) (arg ∷ []));
    }

pub returns-after-loop-arg : goal.returns-after-loop-arg
returns-after-loop-arg t c = λ ρ g.
    let u = c.in-Union.number in
    let args = c.as_slice-args.result.now in
    let f : Ty → TypeTerm = λ ty. type_of (placed c.args.vars ρ (plain_type ty)) in
    let is = ap plain_type c.in-Union.is ∙ plain_type-Union u c.in-Union.args ∙ ap (λ ts. union_type u (type_terms (map plain_type ts))) (sym c.as_slice-args.ensures.items) in
    plain_type-Union u c.loop-arg.made
    ∙ ap (λ ts. union_type u (type_terms ts)) (c.loop-arg.invariant.says ρ g ∙ ap (map f) (take_all c.loop-arg.arg-index args (omega arith)))
    ∙ union_placed c.args.vars ρ u args
    ∙ sym (ap (λ ty. type_of (placed c.args.vars ρ ty)) is)
