use Rattle.std.proofs.Common.{◌∙◌, Some, List, [], map, sym, ap, arith}
use Rattle.mc_program.specs.Programs.{Constructor}
use Rattle.mc_program.specs.PlainPrograms.{plain_program, plain_type, type_terms}
use Rattle.mc_program.specs.declared.ty.Ty.{Ty}
use Rattle.mc_model.specs.Types.{instance_of, type_at}
use Rattle.mc_procs.specs.VariableTypes.{type_in}
use Rattle.mc_self_check.proofs.TypedAtoms.{arguments_there, arguments_listed, some_told, none_told, symbol_there, symbol_past}
use Rattle.mc_self_check.proofs.typed.of_union.Goals as goal

pub returns-then-not-lists : goal.returns-then-not-lists
returns-then-not-lists c = (
  λ h. cc,
  λ e. let is = c.lists.ensures.1 (arguments_listed (plain_program c.args.program.now) c.args.symbol c.args.union (type_terms (map plain_type c.args.inner.now)) _ e).0 in
      let no_list = c.if-not-lists.true in cc,
)

pub returns-else-constructor-union : goal.returns-else-constructor-union
returns-else-constructor-union c =
    let P = plain_program c.args.program.now in
    let ts = type_terms (map plain_type c.args.inner.now) in
    let there = symbol_there c.args.program.now c.args.symbol c.get-constructor.result.now (omega arith) c.get-constructor.ensures in
    let made = arguments_there P c.args.symbol c.args.union ts (c.lists.ensures.0 c.if-not-lists.false) (ap (λ (d : Constructor). d.of_type) there ∙ omega arith) in
    some_told _ _ (map (type_in c.args.types.now) c.args.args.now) c.have_instances.result
    (made ∙ ap (λ (d : Constructor). Some (map (instance_of (type_at ts)) d.args)) there ∙ ap (λ (l : List Ty). Some (map (instance_of (type_at ts)) (map plain_type l))) (sym c.as_slice.ensures.items))
    c.have_instances.ensures

pub returns-then-union-eq0 : goal.returns-then-union-eq0
returns-then-union-eq0 c =
    let P = plain_program c.args.program.now in
    let ts = type_terms (map plain_type c.args.inner.now) in
    let past = symbol_past c.args.program.now c.args.symbol (omega arith) in
    let made = arguments_there P c.args.symbol c.args.union ts (c.lists.ensures.0 c.if-not-lists.false) (ap (λ (d : Constructor). d.of_type) past ∙ omega arith) in
    some_told _ [] (map (type_in c.args.types.now) c.args.args.now) c.is_empty.result
    (made ∙ ap (λ (d : Constructor). Some (map (instance_of (type_at ts)) d.args)) past)
    (none_told (type_in c.args.types.now) c.args.args.now c.is_empty.result c.is_empty.ensures)
