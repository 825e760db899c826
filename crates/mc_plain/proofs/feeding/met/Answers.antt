use Rattle.std.proofs.Common.{[], ◌∷◌, subst}
use Rattle.std.proofs.lemmas.List.Elements.{All-nil, All-cons}
use Rattle.mc_builtins.specs.Answers.{known}
use Rattle.mc_builtins.specs.Reading.{GivesResult}
use Rattle.mc_plain.specs.Values.{IsHeld}
use Rattle.mc_plain.proofs.ReadingLemmas.{result_held}
use Rattle.mc_plain.proofs.feeding.met.Goals as goal

pub returns-in_ok-met-in-Gives-clause-held : goal.returns-in_ok-met-in-Gives-clause-held
returns-in_ok-met-in-Gives-clause-held c has held =
    let P = c.args.library.now.program.now in
    let h = c.args.heap.now in
    let both = result_held c.args.library.now h c.in-Gives.read c.in-Gives.after has (subst (GivesResult (known c.args.library.now) h) c.in-Gives.is c.requires.gives) in
    c.unify_refs.ensures.held P (All-cons (IsHeld P h) c.in-Gives.read (c.in-Gives.after ∷ []) both.0 (All-cons (IsHeld P h) c.in-Gives.after [] both.1 (All-nil (IsHeld P h)))) held
