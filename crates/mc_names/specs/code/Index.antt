-- What a program and each of its modules has by name: as much of it as a look-up needs.
use Rattle.std.specs.Prelude.{◌≡◌, ℕ, Bool, false, List, [], ◌∷◌, Option, Some, None, slice_get, slice_index_or, if◌then◌else◌}
use Rattle.std.specs.Option.{option_map}
use Rattle.std.specs.Str.{bytes_eq}
use Rattle.mc_source.specs.declared.name.Candidate.{Candidate}
use Rattle.mc_source.specs.declared.name.Candidate.TheVariants as C
use Rattle.mc_names.specs.declared.names.Named.{Named}
use Rattle.mc_names.specs.Numbers.{numbers_where}

-- definitions by their names
abbrev pub Index : Type 0 → Type 0
Index A = List (List ℕ × List A)

-- those of a name
abbrev pub listed : {A : Type 0} → Index A → List ℕ → List A
listed [] w = []
listed (e ∷ es) w = if bytes_eq w e.0 then e.1 else listed es w

abbrev pub its_name : Named → List ℕ
its_name n = n.name.name

-- the name that a candidate has, where these are the constructors and those the functions and
-- predicates
abbrev pub name_at : (symbols preds : List Named) → Candidate → Option (List ℕ)
name_at ss ps (C.Con k) = option_map its_name (slice_get ss k)
name_at ss ps (C.Func k) = option_map its_name (slice_get ps k)
name_at ss ps (C.Pred k) = option_map its_name (slice_get ps k)
name_at ss ps (C.Char c) = None

abbrev pub is_called : List ℕ → Option (List ℕ) → Bool
is_called w None = false
is_called w (Some v) = bytes_eq w v

-- those candidates that have a name, in order
abbrev pub called : (symbols preds : List Named) → List ℕ → List Candidate → List Candidate
called ss ps w [] = []
called ss ps w (c ∷ cs) =
    if is_called w (name_at ss ps c) then c ∷ called ss ps w cs else called ss ps w cs

-- Each module's index lists just those that it declares.
abbrev pub IsIndex :
    (symbols preds : List Named)
    → List (Index Candidate) → (declared : List (List Candidate)) → Type 0
IsIndex ss ps index declared =
    (j : ℕ) (w : List ℕ)
    → listed (slice_index_or index j []) w ≡ called ss ps w (slice_index_or declared j [])

-- the numbers of those definitions that have a name
abbrev pub numbers_called : List ℕ → (n : ℕ) → List Named → List ℕ
numbers_called w n ds = numbers_where (λ d. bytes_eq w (its_name d)) n ds

-- The index lists the numbers of just those that have the name.
abbrev pub IsNumberIndex : List Named → Index ℕ → Type 0
IsNumberIndex ds index = (w : List ℕ) → listed index w ≡ numbers_called w 0 ds
