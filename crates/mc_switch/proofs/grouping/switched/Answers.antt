use Rattle.std.proofs.Common.{◌≡◌, ℕ, List, [], Bool, map, sym, ap, ap₂, ◌∙◌, subst}
use Rattle.std.proofs.lemmas.Result.{IfOk-weaker}
use Rattle.mc_model.specs.PlainGoals.{plain_node, plain_sched}
use Rattle.mc_model.specs.declared.sched.Sched.{Sched}
use Rattle.mc_model.specs.Scheduled.{Disj, nodes}
use Rattle.mc_accepted.specs.Switched.{Disjunct, openings_of, grouped}
use Rattle.mc_procs.specs.VariableTypes.{type_in}
use Rattle.mc_switch.specs.code.Grouping.{IsGrouped, nodes_of}
use Rattle.mc_switch.specs.Types.{inst_in}
use Rattle.mc_switch.specs.declared.disjunct.Opened.{Opened}
use Rattle.mc_switch.specs.code.Choices.{AreSame}
use Rattle.mc_switch.specs.code.Labels.{plain_opened}
use Rattle.mc_switch.specs.code.Parts.{kept_in, IsGroupedOf}
use Rattle.mc_switch.proofs.Arms.{ends_kept, none_is}
use Rattle.mc_switch.proofs.Choosing.{none_out}
use Rattle.mc_switch.proofs.grouping.switched.Goals as goal

pub returns-then-branch-clause-grouped : goal.returns-then-branch-clause-grouped
returns-then-branch-clause-grouped c =
    let q = c.args.procs.now in
    let N = c.args.merger.now.found in
    let at = c.args.around.now in
    let ns = c.args.sources.now in
    let fs = c.args.goals.items in
    IfOk-weaker c.disjunction_of.result (λ (s : Sched). plain_sched s ≡ Disj (nodes (nodes_of fs))) (λ (s : Sched). IsGrouped q N at (map plain_node ns) (nodes_of fs) (plain_sched s))
    (λ s h. none_is q N at ns fs (plain_sched s) c.requires.many (c.in_ok-none_opened.ensures.0 c.if-branch.true) h)
    c.disjunction_of.ensures

pub grouped-requires-clause-ends : goal.grouped-requires-clause-ends
grouped-requires-clause-ends c =
    ends_kept c.args.procs.now c.args.around.now c.args.goals.items c.in_ok-disjuncts.disjuncts.items c.in_ok-disjuncts.ensures.ends c.requires.ends

pub returns-clause-grouped : goal.returns-clause-grouped
returns-clause-grouped c =
    let at = c.args.around.now in
    let os : List Opened = c.in_ok-disjuncts.disjuncts.items in
    let out : List Bool = c.in_ok-out.out in
    let q = c.grouped.new.procs in
    let N = c.grouped.new.merger.found in
    let same = c.in_ok-disjuncts.ensures.disjuncts in
    let times : c.in_ok-times.times ≡ openings_of (map plain_opened os) =
    c.in_ok-times.ensures ∙ ap (λ (ps : List Opened). openings_of (map plain_opened ps)) c.as_slice.ensures.value in
    IfOk-weaker c.grouped.result (λ (s : Sched). IsGroupedOf q N at out c.in_ok-times.times os (plain_sched s))
    (λ (s : Sched). IsGrouped q N at (map plain_node c.args.sources.now) (nodes_of c.args.goals.items) (plain_sched s))
    (λ s h S M suits later.
    let group : ℕ → List Disjunct → _ = λ n ds. grouped S (type_in at.types.now) (kept_in S M at) n (inst_in at.before.now) [] ds in
    h S M [] suits later (subst (AreSame []) (sym c.in_ok-out.ensures) (none_out c.len.result))
    ∙ ap₂ group (times ∙ ap openings_of same) same)
    c.grouped.ensures.grouped
