-- Tables of nodes whose entries over no insts stand apart.
use Rattle.std.specs.Prelude.{ℕ, List, [], ◌∷◌}
use Rattle.mc_mode_state.specs.Tables.{Entry}

-- an entry, where it is over these insts and they aren't none
abbrev pub unless_bare : Entry → List ℕ → List Entry → List Entry
unless_bare e [] es = es
unless_bare e (i ∷ is) es = e ∷ es

-- those over one inst at least
abbrev pub over_some : List Entry → List Entry
over_some [] = []
over_some (e ∷ es) = unless_bare e e.insts (over_some es)
