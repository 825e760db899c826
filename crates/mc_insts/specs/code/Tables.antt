-- What the tables hold: the functors of a program's constructors, and the rows of types.
use Rattle.std.specs.Prelude.{◌≡◌, ◌⊎◌, ℕ, ◌<◌, ◌≤◌, List, length, get_or, map, Some}
use Rattle.mc_program.specs.Programs.{TypeTerm, int_type, char_type, string_type, state_type, variable_type, union_type, TypeTerms, Source}
use Rattle.mc_model.specs.Types.{instance_of, type_at}
use Rattle.mc_model.specs.Lists.{In}
use Rattle.mc_insts.specs.declared.graph.Case.{Case}
use Rattle.mc_insts.specs.declared.graph.Shape.{Shape}
use Rattle.mc_insts.specs.declared.graph.Shape.TheVariants as S
use Rattle.mc_insts.specs.declared.rows.Constructor.{Constructor}
use Rattle.mc_insts.specs.code.Functors.{Functor}
use Rattle.mc_insts.specs.code.Cases.{find_case, Rising}
use Rattle.mc_insts.specs.code.Walks.{functor_at, shape_at}
use Rattle.mc_insts.specs.code.TypeRows.{RowsOf, term_at}

-- the functor of a constructor; that of a number past the symbols, which has no name, is 0
abbrev pub functor_of : List ℕ → ℕ → ℕ
functor_of symbols s = get_or symbols s 0

-- the first functors, as many as are known, are those of the program's constructors
pub record ConstructorsAre (P : Source) (fs : List Functor) (known : ℕ) (symbols : List ℕ) : Type 0 where
  pub within : (s : ℕ) → functor_of symbols s < known
  pub names : (s : ℕ) → (functor_at fs (functor_of symbols s)).name ≡ (P.symbols s).name.bytes
  pub arities : (s : ℕ) → (functor_at fs (functor_of symbols s)).arity ≡ (P.symbols s).name.arity
  pub back : (f : ℕ) → f < known → (s : ℕ) × (functor_of symbols s ≡ f)
  pub enough : known ≤ length fs

-- constructors with one functor have one name
pub record Named (P : Source) (symbols : List ℕ) : Type 0 where
  pub names : (s t : ℕ) → functor_of symbols s ≡ functor_of symbols t → (P.symbols s).name.bytes ≡ (P.symbols t).name.bytes
  pub arities : (s t : ℕ) → functor_of symbols s ≡ functor_of symbols t → (P.symbols s).name.arity ≡ (P.symbols t).name.arity

abbrev pub constructor_of : List ℕ → ℕ → Constructor
constructor_of symbols s = record { functor = functor_of symbols s; symbol = s }

-- the types of a constructor's arguments, over types for its type's parameters
abbrev pub arguments_of : Source → (s : ℕ) → TypeTerms → List TypeTerm
arguments_of P s ts = map (instance_of (type_at ts)) (P.symbols s).args

-- the case of a constructor has the rows of its arguments
pub record CaseIs (P : Source) (ts : List TypeTerm) (es : TypeTerms) (c : Case) (e : Constructor) : Type 0 where
  pub functor : c.functor ≡ e.functor
  pub args : RowsOf ts c.args (arguments_of P e.symbol es)

abbrev pub CasesAre : Source → List TypeTerm → TypeTerms → List Case → List Constructor → Type 0
CasesAre P ts es cs ds =
    (length cs ≡ length ds)
    × ((k : ℕ) (c : Case) (d : Constructor) → k < length cs → CaseIs P ts es (get_or cs k c) (get_or ds k d))

-- the cases are those of a union type's constructors
pub record UnionIs (P : Source) (symbols : List ℕ) (ts : List TypeTerm) (cs : List Case) (u : ℕ) (es : TypeTerms) : Type 0 where
  pub rising : Rising cs
  pub complete :
      (s : ℕ) → In s (P.symbols_of u)
      → (xs : List ℕ) × ((find_case cs (functor_of symbols s) ≡ Some xs) × RowsOf ts xs (arguments_of P s es))
  pub sound :
      (f : ℕ) (xs : List ℕ) → find_case cs f ≡ Some xs
      → (s : ℕ) × (In s (P.symbols_of u) × ((functor_of symbols s ≡ f) × RowsOf ts xs (arguments_of P s es)))

-- what a walk sees of a type
abbrev pub ShapeIs : Source → List ℕ → List TypeTerm → Shape → TypeTerm → Type 0
ShapeIs P symbols ts S.Constants t = (t ≡ int_type) ⊎ ((t ≡ char_type) ⊎ (t ≡ string_type))
ShapeIs P symbols ts S.State t = t ≡ state_type
ShapeIs P symbols ts S.Any t = (v : ℕ) × (t ≡ variable_type v)
ShapeIs P symbols ts (S.Union cs) t = (u : ℕ) × ((es : TypeTerms) × ((t ≡ union_type u es) × UnionIs P symbols ts cs u es))

abbrev pub ShapesAre : Source → List ℕ → List TypeTerm → List Shape → Type 0
ShapesAre P symbols ts rows = (r : ℕ) → r < length rows → ShapeIs P symbols ts (shape_at rows r) (term_at ts r)
