use Rattle.std.proofs.Common.{ap, map, Some, ◌++◌, [], get_or}
use Rattle.mc_source.specs.declared.name.Candidate.TheVariants as C
use Rattle.mc_typecheck.specs.Ties.{Meaning, declared, offered}
use Rattle.mc_typecheck.specs.Walked.{entry}
use Rattle.mc_typecheck.specs.code.Tables.{passes_as, listed}
use Rattle.mc_typecheck.proofs.Stepping.{offered_on, offered_done, contained_at}
use Rattle.mc_typecheck.proofs.table.Signatures.offered.Goals as goal

pub loop-k-init : goal.loop-k-init
loop-k-init c = λ P D h. ap (λ js. map (λ j. entry c.args.self.now j) js ++ map (λ (m : Meaning). Some (declared P D m)) (offered P D (passes_as c.args.of_atom) c.args.count [] c.args.candidates.now)) c.new-all.ensures.items

pub loop-k-preserved : goal.loop-k-preserved
loop-k-preserved c = λ P D h.
    let k = c.loop-k.k in
    let cs = c.args.candidates.now in
    offered_on P D c.args.self.now (passes_as c.args.of_atom) c.args.count cs k (C.Con 0) c.loop-k.all.items (listed c.offer-place.result) c.put.new.all.items
    (map (λ (m : Meaning). Some (declared P D m)) (offered P D (passes_as c.args.of_atom) c.args.count [] cs))
    c.loop-k-test.true c.in_ok-put.ensures
    (c.offer-place.ensures P D (C.Con 0) (h (get_or cs k (C.Con 0)) (contained_at cs k (C.Con 0) c.loop-k-test.true)))
    (c.loop-k.invariant P D h)

pub returns : goal.returns
returns c = λ P D h.
    offered_done P D c.args.self.now (passes_as c.args.of_atom) c.args.count c.args.candidates.now c.loop-k.k c.loop-k.all.items
    (map (λ (m : Meaning). Some (declared P D m)) (offered P D (passes_as c.args.of_atom) c.args.count [] c.args.candidates.now))
    c.loop-k-test.false (c.loop-k.invariant P D h)
