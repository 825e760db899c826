-- Which module a name means, and what each module sees, as it is computed: by one pass over the
-- files.
use Rattle.std.specs.Prelude.{ℕ, ◌+◌, List, [], ◌∷◌, Option, Some, if◌then◌else◌}
use Rattle.mc_decl_syntax.specs.Plain.{Path, PlainDecl, Imports, UseOnly}
use Rattle.mc_modules.specs.declared.visibility.Visibility.{Visibility}
use Rattle.mc_decl_syntax.specs.Entries.{File}
use Rattle.mc_names.specs.Plain.{joined}
use Rattle.mc_modules.specs.Visible.{has_name, with_module}
use Rattle.mc_modules.specs.Visibilities.{visibility}

-- the numbers that names mean, with a name of a number put in, which wins
abbrev pub put_name : Option (List ℕ) → ℕ → (List ℕ → Option ℕ) → List ℕ → Option ℕ
put_name n k others w = if has_name w n then Some k else others w

-- the same with names put in, the first of which has the number k and wins
abbrev pub named_behind : ℕ → List (Option (List ℕ)) → (List ℕ → Option ℕ) → List ℕ → Option ℕ
named_behind k [] others w = others w
named_behind k (n ∷ ns) others w = put_name n k (named_behind (k + 1) ns others) w

-- the names that an item imports, or only uses
abbrev pub imports : PlainDecl → List Path
imports (Imports ws) = ws
imports i = []

abbrev pub only_uses : PlainDecl → List Path
only_uses (UseOnly ws) = ws
only_uses i = []

-- the modules that names mean, each once, behind those before
abbrev pub with_named : (List ℕ → Option ℕ) → List Path → List ℕ → List ℕ
with_named means [] ks = ks
with_named means (w ∷ ws) ks = with_named means ws (with_module (means (joined w)) ks)

-- the modules that the names in items mean
abbrev pub with_named_in : (PlainDecl → List Path) → (List ℕ → Option ℕ) → File → List ℕ → List ℕ
with_named_in names means [] ks = ks
with_named_in names means (e ∷ es) ks =
    with_named_in names means es (with_named means (names e.0) ks)

-- what each of some modules sees
abbrev pub visibilities_from : List File → (own : ℕ) → List File → List Visibility
visibilities_from files own [] = []
visibilities_from files own (f ∷ fs) = visibility files own ∷ visibilities_from files (own + 1) fs
