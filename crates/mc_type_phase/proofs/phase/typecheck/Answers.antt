use Rattle.std.proofs.Common.{◌≡◌, ◌∙◌, ◌++◌, List, Some, None, sym, ap, subst}
use Rattle.std.specs.Prelude.{Option}
use Rattle.std.specs.Option.{option_map}
use Rattle.std.proofs.lemmas.List.{append-nil}
use Rattle.mc_term_data.specs.Plain.{PlainTerm, plain_term}
use Rattle.mc_decl_syntax.specs.Entries.{plain_files}
use Rattle.mc_names.specs.Linked.{plain_names}
use Rattle.mc_type_table.specs.Visibility.{definitions_seen}
use Rattle.mc_type_phase.specs.Items.{Item, items, query_item}
use Rattle.mc_type_phase.specs.Judging.{IsJudged}
use Rattle.mc_type_phase.proofs.Adding.{adds_both, judged_all}
use Rattle.mc_type_phase.proofs.FilesOf.{items_from}
use Rattle.mc_type_phase.proofs.phase.typecheck.Goals as goal

pub returns-in_ok-typecheck_query-in-Some-clause-judged : goal.returns-in_ok-typecheck_query-in-Some-clause-judged
returns-in_ok-typecheck_query-in-Some-clause-judged c =
    let l = plain_names c.args.names.now in
    let sees = definitions_seen l in
    let files = c.args.files in
    let g = plain_term c.in-Some.goal.now in
    let clauses = items_from l 0 files in
    let number = c.args.number in
    let query = query_item l number (Some g) in
    let asked : Some g ≡ option_map (λ t. plain_term t.now) c.args.goal =
    ap (option_map (λ t. plain_term t.now)) (sym c.in-Some.is)
    in
    let same : clauses ++ query ≡ items l (plain_files files) number (option_map (λ t. plain_term t.now) c.args.goal) =
    ap (λ (o : Option PlainTerm). items l (plain_files files) number o) asked
    in
    let Q : List Item → Type 0 = λ is. IsJudged l sees is c.typecheck_query.new.self in
    subst Q same
    (judged_all l sees (clauses ++ query) c.new-judged.result c.typecheck_query.new.self
    c.new-judged.ensures.broken c.new-judged.ensures.clauses
    (adds_both l sees clauses query c.new-judged.result c.typecheck_files.new.judged
    c.typecheck_query.new.self
    c.in_ok-at_hand.ensures.added
    (c.in_ok-typecheck_query-in-Some.ensures l sees c.in_ok-checker-in-Some.ensures.checks)))

pub returns-in-None-clause-judged : goal.returns-in-None-clause-judged
returns-in-None-clause-judged c =
    let l = plain_names c.args.names.now in
    let sees = definitions_seen l in
    let files = c.args.files in
    let clauses = items_from l 0 files in
    let asked : None ≡ option_map (λ t. plain_term t.now) c.args.goal =
    ap (option_map (λ t. plain_term t.now)) (sym c.in-None.is)
    in
    let same : clauses ≡ items l (plain_files files) c.args.number (option_map (λ t. plain_term t.now) c.args.goal) =
    sym (append-nil clauses) ∙ ap (λ (o : Option PlainTerm). items l (plain_files files) c.args.number o) asked
    in
    let Q : List Item → Type 0 = λ is. IsJudged l sees is c.typecheck_files.new.judged in
    subst Q same
    (judged_all l sees clauses c.new-judged.result c.typecheck_files.new.judged
    c.new-judged.ensures.broken c.new-judged.ensures.clauses
    c.in_ok-at_hand.ensures.added)
