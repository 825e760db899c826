use Rattle.std.proofs.Common.{◌+◌, ℕ, get_or, sym, subst, ◌∙◌, Option}
use Rattle.mc_source.specs.declared.name.Candidate.{Candidate}
use Rattle.mc_source.specs.declared.name.Candidate.TheVariants as C
use Rattle.mc_typecheck.specs.code.Tables.{passes_as}
use Rattle.mc_typecheck.proofs.Stepping.{contained_at}
use Rattle.mc_typecheck.proofs.Choosing.{FoundSole, Found, sole_later, sole_here, sole_found}
use Rattle.mc_typecheck.proofs.table.Signatures.sole_offer.Goals as goal
use Rattle.mc_typecheck.proofs.table.Signatures.sole_offer.Goals.{in-Some+else-is_some, in_default}

pub loop-k-preserved : goal.loop-k-preserved
loop-k-preserved c = λ P D h.
    let t = c.args.self.now in
    let k = c.loop-k.k in
    let cs = c.args.candidates.now in
    let d = C.Con 0 in
    let test = passes_as c.args.of_atom in
    let n = c.args.count in
    let lt = c.loop-k-test.true in
    let so = c.loop-k.invariant P D h in
    let found = c.offer.ensures P D d (h (get_or cs k d) (contained_at cs k d lt)) in
    let Q : Option (Candidate × ℕ) → Type 0 = λ f. FoundSole P D t test n cs f (k + 1) in
    let R : Option ℕ → Type 0 = λ r. Found P D t test n cs k d r in
    elim c.match-offer.branch [
      | in-Some+else-is_some w ↦ subst Q (sym w.found-is) (sole_here P D t test n cs k w.in-Some.place d c.loop-k.found lt (sym w.is_some.ensures ∙ w.if-is_some.false) (subst R w.in-Some.is found) so)
      | in_default w ↦ subst Q (sym w.found-is) (sole_later P D t test n cs k d c.loop-k.found lt (subst R w.in_default.is found) so)
    ]

pub returns : goal.returns
returns c = sole_found c.args.self.now (passes_as c.args.of_atom) c.args.count c.args.candidates.now c.loop-k.k c.loop-k.found c.loop-k-test.false c.loop-k.invariant
