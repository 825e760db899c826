use Rattle.std.proofs.Common.{◌≡◌, ◌+◌, ℕ, [], get_or, sym, ap, subst, ◌∙◌}
use Rattle.mc_source.specs.declared.name.Candidate.TheVariants as C
use Rattle.mc_typecheck.specs.Ties.{of_equation, offered, pick_of}
use Rattle.mc_typecheck.specs.code.Tables.{passes_as}
use Rattle.mc_typecheck.proofs.Stepping.{contained_at}
use Rattle.mc_typecheck.proofs.Choosing.{from_place, chosen_here, chosen_behind, chosen_later}
use Rattle.mc_typecheck.proofs.table.Signatures.chosen.Goals as goal
use Rattle.mc_typecheck.proofs.table.Signatures.chosen.Goals.{then-is_some+else-left-eq0, else-is_some}

pub returns-then-left-eq0 : goal.returns-then-left-eq0
returns-then-left-eq0 c = λ P D h.
    let k = c.loop-k.k in
    let cs = c.args.candidates.now in
    let d = C.Con 0 in
    ap pick_of (chosen_here P D c.args.self.now (passes_as c.args.of_atom) c.args.count cs k c.loop-k.left d c.offer.result _ c.loop-k-test.true (sym c.is_some.ensures ∙ c.if-is_some.true) c.if-left-eq0.true
    (c.offer.ensures P D d (h (get_or cs k d) (contained_at cs k d c.loop-k-test.true)))
    (c.loop-k.invariant P D h))

pub loop-k-preserved : goal.loop-k-preserved
loop-k-preserved c = λ P D h.
    let t = c.args.self.now in
    let k = c.loop-k.k in
    let cs = c.args.candidates.now in
    let d = C.Con 0 in
    let test = passes_as c.args.of_atom in
    let n = c.args.count in
    let found = c.offer.ensures P D d (h (get_or cs k d) (contained_at cs k d c.loop-k-test.true)) in
    let whole = get_or (offered P D test n [] cs) c.args.choice of_equation in
    let Q : ℕ → Type 0 = λ left. get_or (from_place P D t test n cs (k + 1)) left of_equation ≡ whole in
    elim c.if-is_some.branch [
      | then-is_some+else-left-eq0 w ↦ subst Q (sym w.left-is) (chosen_behind P D t test n cs k c.loop-k.left d c.offer.result whole c.loop-k-test.true (sym c.is_some.ensures ∙ w.if-is_some.true) w.if-left-eq0.false found (c.loop-k.invariant P D h))
      | else-is_some w ↦ subst Q (sym w.left-is) (chosen_later P D t test n cs k c.loop-k.left d c.offer.result whole c.loop-k-test.true (sym c.is_some.ensures ∙ w.if-is_some.false) found (c.loop-k.invariant P D h))
    ]
