use Rattle.std.proofs.Common.{◌≡◌, ◌∙◌, ap, sym, map, subst, List, Some, None}
use Rattle.mc_term_data.specs.Plain.{plain_term}
use Rattle.mc_decl_syntax.specs.Plain.{plain_item}
use Rattle.mc_defs_uses.specs.Clauses.{clause_of}
use Rattle.mc_names.specs.Linked.{Linked}
use Rattle.mc_type_phase.specs.Typing.{ModuleClause, clause_predicate}
use Rattle.mc_type_phase.specs.Items.{clause_item}
use Rattle.mc_type_phase.specs.code.Adding.{Adds}
use Rattle.mc_type_phase.proofs.Adding.{adds_none}
use Rattle.mc_type_phase.proofs.Entries.{clause_there, clause_of_none, no_clause}
use Rattle.mc_type_phase.proofs.judged.TypecheckResult.typecheck_entry.Goals as goal

pub returns-in_ok-typecheck_clause-in-Some-clause-added : goal.returns-in_ok-typecheck_clause-in-Some-clause-added
returns-in_ok-typecheck_clause-in-Some-clause-added c l seen k =
    let own = c.args.checker.now.at.own in
    let entry = c.args.entry.now in
    let i = plain_item entry.decl in
    let number : clause_predicate l own (clause_of i) ≡ Some c.in-Some.pred =
    ap (λ (m : Linked). clause_predicate m own (clause_of i)) (sym k.names)
    ∙ sym c.in_ok-number-in-Clause.ensures.number
    ∙ c.in-Some.is
    in
    let Q : List ModuleClause → Type 0 =
    λ cs. Adds l seen (map (clause_item l) cs) c.args.self.now c.typecheck_clause.new.self
    in
    subst Q
    (sym
    (clause_there l own i (plain_term c.in-Clause.term) entry.at c.in-Some.pred
    (ap plain_item c.in-Clause.is) number))
    (c.in_ok-typecheck_clause-in-Some.ensures l seen k)

pub returns-in-None-clause-added : goal.returns-in-None-clause-added
returns-in-None-clause-added c l seen k =
    let own = c.args.checker.now.at.own in
    let entry = c.args.entry.now in
    let i = plain_item entry.decl in
    let number : clause_predicate l own (clause_of i) ≡ None =
    ap (λ (m : Linked). clause_predicate m own (clause_of i)) (sym k.names)
    ∙ sym c.in_ok-number-in-Clause.ensures.number
    ∙ c.in-None.is
    in
    let Q : List ModuleClause → Type 0 =
    λ cs. Adds l seen (map (clause_item l) cs) c.args.self.now c.args.self.now
    in
    subst Q (sym (clause_of_none l own i entry.at number)) (adds_none l seen c.args.self.now)

pub returns-in_default-clause-added : goal.returns-in_default-clause-added
returns-in_default-clause-added c l seen k =
    let own = c.args.checker.now.at.own in
    let entry = c.args.entry.now in
    let Q : List ModuleClause → Type 0 =
    λ cs. Adds l seen (map (clause_item l) cs) c.args.self.now c.args.self.now
    in
    subst Q (sym (no_clause l own entry.decl entry.at c.in_default.not-Clause))
    (adds_none l seen c.args.self.now)
