-- How many arguments nodes and rows list.
use Rattle.std.specs.Prelude.{◌≡◌, ℕ, List, [], length, replicate, Option, Some, None}
use Rattle.mc_insts.specs.declared.graph.Node.{Node}
use Rattle.mc_insts.specs.declared.graph.Node.TheVariants as N
use Rattle.mc_insts.specs.declared.graph.Shape.{Shape}
use Rattle.mc_insts.specs.declared.graph.Shape.TheVariants as S
use Rattle.mc_insts.specs.code.Cases.{find_case, Rising}

abbrev pub NodeRises : Node → Type 0
NodeRises (N.Bound cs) = Rising cs
NodeRises _ = Unit {0}

abbrev pub RowRises : Shape → Type 0
RowRises (S.Union cs) = Rising cs
RowRises _ = Unit {0}

abbrev pub NodeWide : Node → (f n : ℕ) → Type 0
NodeWide (N.Bound cs) f n = (xs : List ℕ) → find_case cs f ≡ Some xs → length xs ≡ n
NodeWide _ f n = Unit {0}

abbrev pub RowWide : Shape → (f n : ℕ) → Type 0
RowWide (S.Union cs) f n = (xs : List ℕ) → find_case cs f ≡ Some xs → length xs ≡ n
RowWide _ f n = Unit {0}

-- the numbers of a constructor's arguments in a node
abbrev pub from_case : Option (List ℕ) → List ℕ
from_case None = []
from_case (Some xs) = xs

abbrev pub node_list : Node → (i f n : ℕ) → List ℕ
node_list N.Free i f n = []
node_list N.Ground i f n = replicate n i
node_list N.Unique i f n = replicate n i
node_list N.Dead i f n = replicate n i
node_list (N.Bound cs) i f n = from_case (find_case cs f)
