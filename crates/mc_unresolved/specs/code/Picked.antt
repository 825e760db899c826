-- Picks that are taken, and the lists of terms and of goals that they make.
use Rattle.std.specs.Prelude.{List, [], ◌∷◌, Option, Some, None}
use Rattle.mc_source.specs.declared.name.Candidate.{Candidate}
use Rattle.mc_program.specs.Programs.{Expression, Formula}
use Rattle.mc_accepted.specs.Resolving.{Unresolved as PlainUnresolved, Unresolved_goal, resolved_term, resolved_goal}

abbrev pub taken : List Candidate → Option Candidate × List Candidate
taken [] = (None, [])
taken (c ∷ cs) = (Some c, cs)

abbrev pub resolved_list :
    List PlainUnresolved → List Candidate → List Expression × List Candidate
resolved_list [] picks = ([], picks)
resolved_list (t ∷ ts) picks =
    let r = resolved_term t picks in
    let rs = resolved_list ts r.1 in
    (r.0 ∷ rs.0, rs.1)

abbrev pub resolved_goal_list :
    List Unresolved_goal → List Candidate → List Formula × List Candidate
resolved_goal_list [] picks = ([], picks)
resolved_goal_list (g ∷ gs) picks =
    let r = resolved_goal g picks in
    let rs = resolved_goal_list gs r.1 in
    (r.0 ∷ rs.0, rs.1)
