use Rattle.std.proofs.Common.{◌≡◌, [], ◌∷◌, ◌++◌, List, map, length, sym, ap, subst, ◌∙◌, arith}
use Rattle.std.proofs.lemmas.List.{nil_from_length}
use Rattle.std.specs.Vec.Iter.{into_iter_items}
use Rattle.mc_decl_syntax.specs.declared.entry.Entry.{Entry}
use Rattle.mc_decl_syntax.specs.Entries.{plain_entry}
use Rattle.mc_type_phase.specs.Typing.{module_clauses}
use Rattle.mc_type_phase.specs.Items.{Item, clause_item, without_clauses}
use Rattle.mc_type_phase.specs.code.Adding.{Adds, entry_clauses}
use Rattle.mc_type_phase.proofs.Adding.{adds_none, adds_both}
use Rattle.mc_type_phase.proofs.Entries.{items_more, items_all}
use Rattle.mc_type_phase.proofs.Passing.{left_more, left_all}
use Rattle.mc_type_phase.proofs.judged.TypecheckResult.typecheck_file.Goals as goal

pub loop-entry-init : goal.loop-entry-init
loop-entry-init c =
    let gives = c.into_iter-entry-iterator.ensures.into_iter_gives in
    let file : into_iter_items c.into_iter-entry-iterator.result ≡ c.args.file =
    gives.0 ∙ c.into_vec-entry-items.ensures.items
    in
    record {
      left =
          let len = gives.1 in
          let short = ap length gives.0 in
          let ok = c.into_vec-entry-items.result.ok in
          omega arith;
      added = λ names seen k. (
        [],
        adds_none names seen c.args.self.now,
        ap
            (λ (es : List Entry).
            map (clause_item names)
            (module_clauses names c.args.checker.now.at.own (map plain_entry es)))
            file,
      );
      others =
          ap
          (λ (es : List Entry).
          map plain_entry es
          ++ without_clauses (map plain_entry (into_iter_items c.into_iter-entry-iterator.result)))
          c.new-taken.ensures
          ∙ ap (λ (es : List Entry). without_clauses (map plain_entry es)) file;
      known = tt;
    }

pub loop-entry-preserved : goal.loop-entry-preserved
loop-entry-preserved c =
    let now = c.loop-entry in
    let entry = c.in-Some.entry in
    let own = c.args.checker.now.at.own in
    let steps : into_iter_items now.entry-iterator ≡ entry ∷ into_iter_items c.next.new.self = c.in-Some.ensures.steps.0 in
    record {
      left =
          let was = now.invariant.left in
          let gone = c.in-Some.ensures.steps.1 in
          let short = ap length steps in
          omega arith;
      added =
          λ names seen k.
          let i = now.invariant.added names seen k in
          let more = map (clause_item names) (entry_clauses names own (plain_entry entry)) in (
            i.0 ++ more,
            adds_both names seen i.0 more c.args.self.now now.self c.typecheck_entry.new.self i.1
                (c.in_ok-typecheck_entry.ensures.added names seen k),
            items_more names own (into_iter_items now.entry-iterator)
                (into_iter_items c.next.new.self) entry i.0
                (map (clause_item names) (module_clauses names own (map plain_entry c.args.file)))
                steps i.2,
          );
      others =
          left_more (plain_entry entry) (map plain_entry (into_iter_items now.entry-iterator))
          (map plain_entry (into_iter_items c.next.new.self)) (map plain_entry now.taken.others.items)
          (map plain_entry c.put.new.self.others.items)
          (without_clauses (map plain_entry c.args.file))
          (ap (map plain_entry) steps) c.in_ok-put.ensures now.invariant.others;
      known = c.in_ok-typecheck_entry.ensures.known;
    }

pub returns-clause-added : goal.returns-clause-added
returns-clause-added c names seen k =
    let now = c.loop-entry in
    let none = c.in-None.ensures.steps in
    let rest = into_iter_items now.entry-iterator in
    let empty : rest ≡ [] = nil_from_length _ (sym now.invariant.left ∙ none.0) in
    let i = now.invariant.added names seen k in
    let own = c.args.checker.now.at.own in
    let all = map (clause_item names) (module_clauses names own (map plain_entry c.args.file)) in
    let Q : List Item → Type 0 = λ xs. Adds names seen xs c.args.self.now now.self in
    subst Q (items_all names own rest i.0 all empty i.2) i.1

pub returns-clause-others : goal.returns-clause-others
returns-clause-others c =
    let now = c.loop-entry in
    let none = c.in-None.ensures.steps in
    let rest = into_iter_items now.entry-iterator in
    let empty : rest ≡ [] = nil_from_length _ (sym now.invariant.left ∙ none.0) in
    ap (map plain_entry) c.in_ok-others.ensures.elements
    ∙ left_all (map plain_entry rest) (map plain_entry now.taken.others.items)
    (without_clauses (map plain_entry c.args.file)) (ap (map plain_entry) empty)
    now.invariant.others
