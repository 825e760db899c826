use Rattle.std.proofs.Common.{List, map, take, sym, subst}
use Rattle.mc_program.specs.PlainPrograms.{plain_type}
use Rattle.mc_program.specs.declared.ty.Ty.{Ty}
use Rattle.mc_types.specs.declared.written_types.Written.{Written}
use Rattle.laws_made_types.specs.Makes.{kept}
use Rattle.mc_typecheck.specs.VariableTypes.{ArePlain}
use Rattle.mc_typecheck.specs.code.WrittenOut.{OutSoFar}
use Rattle.mc_typecheck.proofs.Written.{out_first, out_next, kept_none, plain_kept}
use Rattle.mc_typecheck.proofs.types.types_of.Goals as goal

pub loop-k-init : goal.loop-k-init
loop-k-init c =
    let Q : List Written → Type 0 = λ ws. OutSoFar c.args.rigid ws (map plain_type c.new-types.result.items) c.new-numbers.result in
    subst Q (sym (kept_none c.args.flags.now)) (out_first c.args.rigid c.new-types.result.items c.new-numbers.result c.new-types.ensures.items c.new-numbers.ensures)

pub loop-k-preserved : goal.loop-k-preserved
loop-k-preserved c =
    let flags = c.args.flags.now in
    let ws = c.args.written.now in
    let k = c.loop-k.k in
    out_next c.args.rigid flags ws k c.index-written-k.result c.is_set.result c.put_type.new.types.items c.put_type.new.numbers c.loop-k-test.true c.is_set.ensures c.index-written-k.is
    (c.in_ok-put_type.ensures c.args.rigid (kept flags (take k ws)) c.loop-k.invariant)

pub returns : goal.returns
returns c =
    let Q : List Ty → Type 0 = λ ts. ArePlain c.args.rigid (kept c.args.flags.now c.args.written.now) (map plain_type ts) in
    subst Q (sym c.in_ok-of.ensures.elements) (plain_kept c.args.rigid c.args.flags.now c.args.written.now c.loop-k.k c.loop-k.types.items c.loop-k.numbers c.loop-k-test.false c.loop-k.invariant)
