use Rattle.std.proofs.Common.{◌≡◌, [], ◌∷◌, ◌++◌, ◌+◌, List, map, length, refl, sym, ap, subst, ◌∙◌, arith}
use Rattle.std.proofs.lemmas.List.{nil_from_length}
use Rattle.std.specs.Vec.Iter.{into_iter_items}
use Rattle.mc_decl_syntax.specs.declared.entry.Entry.{Entry}
use Rattle.mc_decl_syntax.specs.Entries.{plain_entry, plain_files}
use Rattle.mc_names.specs.Linked.{plain_names}
use Rattle.mc_type_table.specs.Visibility.{definitions_seen}
use Rattle.mc_type_phase.specs.Typing.{module_clauses}
use Rattle.mc_type_phase.specs.Items.{Item, clause_item, without_clauses}
use Rattle.mc_type_phase.specs.code.Adding.{Adds}
use Rattle.mc_type_phase.proofs.Adding.{adds_none, adds_both}
use Rattle.mc_type_phase.proofs.FilesOf.{items_from, files_more, files_all}
use Rattle.mc_type_phase.proofs.Passing.{files_left_more, files_left_all}
use Rattle.mc_type_phase.proofs.phase.typecheck_files.Goals as goal

pub loop-file-init : goal.loop-file-init
loop-file-init c =
    let l = plain_names c.args.names.now in
    let gives = c.into_iter-file-iterator.ensures.into_iter_gives in
    let files : into_iter_items c.into_iter-file-iterator.result ≡ c.args.files =
    gives.0 ∙ c.into_vec-file-items.ensures.items
    in
    record {
      left =
          let len = gives.1 in
          let short = ap length gives.0 in
          let ok = c.into_vec-file-items.result.ok in
          omega arith;
      at_hand = tt;
      added = (
        [],
        adds_none l (definitions_seen l) c.args.judged.now,
        ap (items_from l 0) files,
      );
      others =
          ap
          (λ (fs : List (List Entry)).
          plain_files fs
          ++ map without_clauses (plain_files (into_iter_items c.into_iter-file-iterator.result)))
          c.in_ok-others.ensures.items
          ∙ ap (λ (fs : List (List Entry)). map without_clauses (plain_files fs)) files;
    }

pub loop-file-preserved : goal.loop-file-preserved
loop-file-preserved c =
    let l = plain_names c.args.names.now in
    let sees = definitions_seen l in
    let now = c.loop-file in
    let file = c.in-Some.file in
    let before = into_iter_items now.file-iterator in
    let after = into_iter_items c.next.new.self in
    let steps : before ≡ file ∷ after = c.in-Some.ensures.steps.0 in
    let i = now.invariant.added in
    let more = map (clause_item l) (module_clauses l now.own (map plain_entry file)) in
    record {
      left =
          let was = now.invariant.left in
          let gone = c.in-Some.ensures.steps.1 in
          let short = ap length steps in
          omega arith;
      at_hand = c.in_ok-checker.ensures.at_hand;
      added = (
        i.0 ++ more,
        adds_both l sees i.0 more c.args.judged.now now.judged c.typecheck_module.new.judged i.1
            c.in_ok-checker.ensures.added,
        files_more l now.own (now.own + 1) before after file i.0 (items_from l 0 c.args.files)
            steps refl i.2,
      );
      others =
          files_left_more before after now.others.items c.push.new.self.items file
          c.in_ok-checker.other (map without_clauses (plain_files c.args.files)) steps
          c.in_ok-push.ensures.items c.in_ok-checker.ensures.others now.invariant.others;
    }

pub returns-clause-added : goal.returns-clause-added
returns-clause-added c =
    let l = plain_names c.args.names.now in
    let now = c.loop-file in
    let none = c.in-None.ensures.steps in
    let rest = into_iter_items now.file-iterator in
    let empty : rest ≡ [] = nil_from_length _ (sym now.invariant.left ∙ none.0) in
    let i = now.invariant.added in
    let Q : List Item → Type 0 = λ xs. Adds l (definitions_seen l) xs c.args.judged.now now.judged in
    subst Q (files_all l now.own rest i.0 (items_from l 0 c.args.files) empty i.2) i.1

pub returns-clause-others : goal.returns-clause-others
returns-clause-others c =
    let now = c.loop-file in
    let none = c.in-None.ensures.steps in
    let rest = into_iter_items now.file-iterator in
    let empty : rest ≡ [] = nil_from_length _ (sym now.invariant.left ∙ none.0) in
    ap plain_files c.in_ok-others-2.ensures.elements
    ∙ files_left_all rest now.others.items (map without_clauses (plain_files c.args.files)) empty
    now.invariant.others
