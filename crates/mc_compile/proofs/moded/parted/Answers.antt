use Rattle.std.proofs.Common.{Some, subst, sym}
use Rattle.mc_type_phase.specs.Judging.{typed_clauses}
use Rattle.mc_type_phase.specs.declared.judged.TypedClause.{TypedClause}
use Rattle.mc_compile.specs.code.Parts.{IsParted}
use Rattle.mc_compile.proofs.Modes.{parted_of}
use Rattle.mc_compile.proofs.moded.parted.Goals as goal

pub returns-in-Some : goal.returns-in-Some
returns-in-Some c =
    let Q : TypedClause → Type 0 =
    λ one.
    IsParted (typed_clauses c.args.clauses.items) c.args.has_query
    (typed_clauses c.pop.new.self.items) (Some one.resolved)
    in
    subst Q (sym c.into_inner.ensures)
    (parted_of c.args.clauses.items c.pop.new.self.items c.args.has_query c.in-Some.query
    c.if-not-has_query.false (c.in-Some.ensures {u = tt}).items)
