-- The kind of a value.
use Rattle.std.specs.Prelude.{◌≡◌, ℕ, List}
use Rattle.mc_program.specs.Values.{Val, Vals, int, char, str, con, state}
use Rattle.mc_builtins.specs.declared.kind.Kind.{Kind}
use Rattle.mc_builtins.specs.declared.kind.Kind.TheVariants as K

abbrev pub IsKind : Val → Kind → Type 0
IsKind v (K.Int n) = v ≡ int n
IsKind v (K.Char c) = v ≡ char c
IsKind v (K.Text t) = v ≡ str t.now
IsKind v (K.State taken) = (written : List ℕ) × (v ≡ state written taken)
IsKind v K.Con = (symbol : ℕ) × (args : Vals) × (v ≡ con symbol args)
