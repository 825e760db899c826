use Rattle.std.proofs.Common.{◌≡◌, ◌∷◌, List, map, drop, sym, ◌∙◌, ◌+◌, ap, subst, arith}
use Rattle.std.proofs.lemmas.List.{drop_more}
use Rattle.mc_program.specs.Programs.{union_type}
use Rattle.mc_program.specs.PlainPrograms.{plain_type, type_terms}
use Rattle.mc_types.specs.declared.cells.TypeName.TheVariants as N
use Rattle.mc_program.specs.declared.ty.Ty.{Ty}
use Rattle.mc_types.proofs.Noted.{grown_more}
use Rattle.mc_types.specs.Trees.{placed}
use Rattle.mc_types.proofs.TypeViews.{plain_type-Int, plain_type-Char, plain_type-Str, plain_type-Io, plain_type-Var, plain_type-Union}
use Rattle.mc_types.proofs.AddedTypes.{Adding, added_variable, added_rigid, added_named, adding_first, adding_more, apart_named, apart_app}
use Rattle.mc_types.proofs.types.+add_type.Goals as goal

pub loop-arg-init : goal.loop-arg-init
loop-arg-init t c =
    let e = c.in_ok-node-in-Union.ensures.cells in
    let is = ap plain_type c.in-Union.is ∙ plain_type-Union _ _ ∙ ap (λ ts. union_type c.in-Union.number (type_terms (map plain_type ts))) (sym c.as_slice-args.ensures.items) in
    record {
      in_order = c.add_cell-in-Union.ensures.in_order;
      grown = c.add_cell-in-Union.ensures.grown;
      apart = λ a. rw e.1 (apart_named _ _ _ a);
      adding = rw (e.0, e.1) (adding_first _ c.args.base c.args.count (N.Union c.in-Union.number) _ _ (λ σ. ap (placed c.args.count σ) is) c.requires.in_order);
    }

pub returns-in_err-part-in-Union-clause-grown : goal.returns-in_err-part-in-Union-clause-grown
returns-in_err-part-in-Union-clause-grown t c = grown_more _ _ _ _ _ _ c.loop-arg.invariant.grown c.add_type.ensures.grown

pub returns-in_err-node-in-Union-2-clause-grown : goal.returns-in_err-node-in-Union-2-clause-grown
returns-in_err-node-in-Union-2-clause-grown t c = grown_more _ _ _ _ _ _ (grown_more _ _ _ _ _ _ c.loop-arg.invariant.grown c.add_type.ensures.grown) c.add_cell-in-loop-arg.ensures.grown

pub loop-arg-preserved : goal.loop-arg-preserved
loop-arg-preserved t c =
    let e = c.in_ok-node-in-Union-2.ensures.cells in
    let i = c.loop-arg.arg-index in
    let args = c.as_slice-args.result.now in
    let arg = c.arg-item.result in
    let next : drop i args ≡ arg ∷ drop (i + 1) args = drop_more args i arg (omega arith) ∙ ap (λ x. x ∷ drop (i + 1) args) (sym c.arg-item.is) in
    let P : List Ty → Type 0 = λ ts. Adding c.args.g.now.cells.items c.loop-arg.g.cells.items c.args.base c.args.count (plain_type c.args.ty.now) (type_terms (map plain_type ts)) c.loop-arg.node in
    record {
      in_order = c.add_cell-in-loop-arg.ensures.in_order;
      grown = grown_more _ _ _ _ _ _ (grown_more _ _ _ _ _ _ c.loop-arg.invariant.grown c.add_type.ensures.grown) c.add_cell-in-loop-arg.ensures.grown;
      apart = λ a. rw e.1 (apart_app _ _ _ _ (c.add_type.ensures.apart (c.loop-arg.invariant.apart a)));
      adding = rw (e.0, e.1)
          (adding_more _ _ _ c.args.base c.args.count _ (plain_type arg) (type_terms (map plain_type (drop (i + 1) args))) c.loop-arg.node c.in_ok-part-in-Union.part c.add_type.ensures.grown.longer c.in_ok-part-in-Union.ensures.node c.add_type.ensures.in_order
          (subst P next c.loop-arg.invariant.adding) c.in_ok-part-in-Union.ensures.says);
    }

pub returns-in_ok-add_cell-in-Int-clause-says : goal.returns-in_ok-add_cell-in-Int-clause-says
returns-in_ok-add_cell-in-Int-clause-says t c =
    let e = c.in_ok-add_cell-in-Int.ensures.cells in
    rw (e.0, e.1) (added_named _ c.args.base c.args.count N.Int _ (λ σ. ap (placed c.args.count σ) (ap plain_type c.in-Int.is ∙ plain_type-Int)) c.requires.in_order)

pub returns-in_ok-add_cell-in-Char-clause-says : goal.returns-in_ok-add_cell-in-Char-clause-says
returns-in_ok-add_cell-in-Char-clause-says t c =
    let e = c.in_ok-add_cell-in-Char.ensures.cells in
    rw (e.0, e.1) (added_named _ c.args.base c.args.count N.Char _ (λ σ. ap (placed c.args.count σ) (ap plain_type c.in-Char.is ∙ plain_type-Char)) c.requires.in_order)

pub returns-in_ok-add_cell-in-Str-clause-says : goal.returns-in_ok-add_cell-in-Str-clause-says
returns-in_ok-add_cell-in-Str-clause-says t c =
    let e = c.in_ok-add_cell-in-Str.ensures.cells in
    rw (e.0, e.1) (added_named _ c.args.base c.args.count N.Str _ (λ σ. ap (placed c.args.count σ) (ap plain_type c.in-Str.is ∙ plain_type-Str)) c.requires.in_order)

pub returns-in_ok-add_cell-in-Io-clause-says : goal.returns-in_ok-add_cell-in-Io-clause-says
returns-in_ok-add_cell-in-Io-clause-says t c =
    let e = c.in_ok-add_cell-in-Io.ensures.cells in
    rw (e.0, e.1) (added_named _ c.args.base c.args.count N.Io _ (λ σ. ap (placed c.args.count σ) (ap plain_type c.in-Io.is ∙ plain_type-Io)) c.requires.in_order)

pub returns-then-k-count-clause-says : goal.returns-then-k-count-clause-says
returns-then-k-count-clause-says t c = added_variable _ c.args.base c.args.count c.in-Var.k _ (λ σ. ap (placed c.args.count σ) (ap plain_type c.in-Var.is ∙ plain_type-Var _)) c.if-k-count.true

pub returns-in_ok-add_cell-in-Var-clause-says : goal.returns-in_ok-add_cell-in-Var-clause-says
returns-in_ok-add_cell-in-Var-clause-says t c =
    let e = c.in_ok-add_cell-in-Var.ensures.cells in
    rw (e.0, e.1) (added_rigid _ c.args.base c.args.count c.in-Var.k _ (λ σ. ap (placed c.args.count σ) (ap plain_type c.in-Var.is ∙ plain_type-Var _)) c.if-k-count.false c.requires.in_order)
