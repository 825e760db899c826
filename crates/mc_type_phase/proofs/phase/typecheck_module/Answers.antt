use Rattle.std.proofs.Common.{◌≡◌, ℕ, List, [], map, sym, ap, subst, ◌∙◌}
use Rattle.mc_decl_syntax.specs.declared.entry.Entry.{Entry}
use Rattle.mc_decl_syntax.specs.Entries.{plain_entry}
use Rattle.mc_names.specs.Linked.{plain_names}
use Rattle.mc_type_table.specs.Visibility.{definitions_seen}
use Rattle.mc_type_phase.specs.Typing.{ModuleClause, module_clauses}
use Rattle.mc_type_phase.specs.Items.{clause_item, without_clauses}
use Rattle.mc_type_phase.specs.code.Adding.{Adds}
use Rattle.mc_type_phase.proofs.Adding.{adds_none}
use Rattle.mc_type_phase.proofs.phase.typecheck_module.Goals as goal

pub returns-then-not-has_clauses-clause-added : goal.returns-then-not-has_clauses-clause-added
returns-then-not-has_clauses-clause-added c =
    let l = plain_names c.args.names.now in
    let sees = definitions_seen l in
    let own = c.args.own in
    let none : module_clauses l own (map plain_entry c.args.file) ≡ [] =
    ap (λ (es : List Entry). module_clauses l own (map plain_entry es))
    (sym c.as_slice.ensures.items)
    ∙ c.has_clauses.ensures.none c.if-not-has_clauses.true l own
    in
    let Q : List ModuleClause → Type 0 =
    λ cs. Adds l sees (map (clause_item l) cs) c.args.judged.now c.args.judged.now
    in
    subst Q (sym none) (adds_none l sees c.args.judged.now)

pub returns-then-not-has_clauses-clause-others : goal.returns-then-not-has_clauses-clause-others
returns-then-not-has_clauses-clause-others c =
    let AllLeft : List Entry → Type 0 =
    λ es. map plain_entry es ≡ without_clauses (map plain_entry es)
    in
    subst AllLeft c.as_slice.ensures.items
    (sym (c.has_clauses.ensures.others c.if-not-has_clauses.true))

pub returns-clause-added : goal.returns-clause-added
returns-clause-added c =
    let l = plain_names c.args.names.now in
    let sees = definitions_seen l in
    let Q : ℕ → Type 0 =
    λ n.
    Adds l sees (map (clause_item l) (module_clauses l n (map plain_entry c.args.file)))
    c.args.judged.now c.typecheck_file.new.self
    in
    subst Q c.in_ok-checker.ensures.own
    (c.in_ok-others.ensures.added l sees c.in_ok-checker.ensures.checks)
