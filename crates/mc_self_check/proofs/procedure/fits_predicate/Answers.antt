use Rattle.std.proofs.lemmas.List.{length-map}
use Rattle.std.proofs.Common.{◌≡◌, ◌∙◌, false, true, List, length, map, sym, subst}
use Rattle.mc_program.specs.PlainPrograms.{plain_clause, plain_type}
use Rattle.mc_program.specs.declared.program.Clause.{Clause}
use Rattle.mc_model.specs.PlainGoals.{plain_flat}
use Rattle.mc_accepted.specs.Fits.{EachClauseHasScopes, HeadsHave}
use Rattle.mc_procs.specs.Procedures.{parameters_of}
use Rattle.mc_self_check.proofs.Assembling.{each_type, each_proper}
use Rattle.mc_self_check.proofs.Distinct.{isnt}
use Rattle.mc_self_check.proofs.PredicateLemmas.{proper_told, head_told, typed_told}
use Rattle.mc_self_check.proofs.procedure.fits_predicate.Goals.{then-not-all_proper-via-then-not-all_proper, then-not-all_proper-via-else-not-all_proper+then-not-have_types}
use Rattle.mc_self_check.proofs.procedure.fits_predicate.Goals as goal

pub returns-then-not-all_proper : goal.returns-then-not-all_proper
returns-then-not-all_proper c =
    let q = c.args.procs.now in
    let p = c.args.p.now in
    elim c.then-not-all_proper.branch [
      | then-not-all_proper-via-then-not-all_proper w ↦ isnt (λ f.
          let told = proper_told c.all_proper.result _ q.program _ p.var_types c.program-program.ensures c.as_slice-types.ensures.items c.all_proper.ensures in
          let t = told.1 (each_proper (parameters_of q) (map plain_type p.var_types) f.types) in
          let x : false ≡ true = sym w.if-not-all_proper.true ∙ t in cc)
      | then-not-all_proper-via-else-not-all_proper+then-not-have_types w ↦ isnt (λ f.
          let told = head_told w.have_types.result _ p.var_types _ p.head _ c.args.pred.now.types c.as_slice-types.ensures.items w.as_slice-else-not-all_proper.ensures.items c.as_slice-expected.ensures.items w.have_types.ensures in
          let t = told.1 f.head_types in
          let x : false ≡ true = sym w.if-not-have_types.true ∙ t in cc)
    ]

pub returns-in_ok-is_typed : goal.returns-in_ok-is_typed
returns-in_ok-is_typed c =
    let q = c.args.procs.now in
    let d = c.args.pred.now in
    let p = c.args.p.now in
    let types = c.as_slice-types.ensures.items in
    let arity : c.len.result ≡ length (map plain_type d.types) = c.len.ensures ∙ sym (length-map d.types plain_type) in
    let proper = proper_told c.all_proper.result _ q.program _ p.var_types c.program-program.ensures types c.all_proper.ensures in
    let head = head_told c.have_types.result _ p.var_types _ p.head _ d.types types c.as_slice-else-not-all_proper.ensures.items c.as_slice-expected.ensures.items c.have_types.ensures in
    let typed = typed_told c.in_ok-is_typed.field-0 _ q.program _ p.var_types (plain_flat c.args.goal.now) c.program-program.ensures types c.in_ok-is_typed.ensures in (
      λ yes. record {
        heads = subst (λ n. HeadsHave n (map plain_clause d.clauses)) arity
            (subst (λ (l : List Clause). HeadsHave c.len.result (map plain_clause l)) c.as_slice.ensures.items (c.heads_have.ensures.0 c.if-not-heads_have.false));
        scopes = subst (λ (l : List Clause). EachClauseHasScopes (map plain_clause l)) c.as_slice-2.ensures.items (c.in_ok-have_scopes.ensures.0 c.if-branch.true);
        types = λ x. each_type (parameters_of q) (map plain_type p.var_types) (proper.0 c.if-not-all_proper.false) x x;
        head_types = head.0 c.if-not-have_types.false;
        typed = typed.0 yes;
        no_builtin = c.has_builtin.ensures.0 c.if-has_builtin.false;
      },
      λ f. typed.1 f.typed,
    )
