-- The numbers of arguments.
use Rattle.std.specs.Prelude.{◌≡◌, ℕ, ◌<◌, length, get_or}
use Rattle.mc_insts.specs.declared.over.Over.{Over}
use Rattle.mc_insts.specs.declared.over.Over.TheVariants as O

abbrev pub over_arg : Over → ℕ → ℕ
over_arg (O.Same i) k = i
over_arg (O.Each xs) k = get_or xs.now k 0

abbrev pub OverHas : Over → ℕ → Type 0
OverHas (O.Same i) k = Unit {0}
OverHas (O.Each xs) k = k < length xs.now

abbrev pub OverWide : Over → ℕ → Type 0
OverWide (O.Same i) n = Unit {0}
OverWide (O.Each xs) n = length xs.now ≡ n
