-- What items declare and define: types, insts, modes, predicates, functions and constructors (the
-- Mercury manual: Declarations).
use Rattle.std.specs.Prelude.{List, [], ◌∷◌, Option, Some, None, codes}
use Rattle.mc_term_data.specs.Plain.{PlainTerm, PlainTerms, at, no_term, more_terms, App, Items, Tailed}
use Rattle.mc_term_data.specs.Names.{count}
use Rattle.mc_decl_syntax.specs.Plain.{Path, PlainDecl, AbstractType, UnionType, SameType, SameInst, BoundInst, ModeDef, Pred, Func}
use Rattle.mc_term_data.specs.Shapes.{operands}
use Rattle.mc_names.specs.declared.definition.Kind.TheVariants as K
use Rattle.mc_names.specs.Plain.{PlainNameArity, id, PlainDefinition, definition, last_part}

-- the name that a head has
abbrev pub head_name : PlainTerm → PlainNameArity
head_name (at (App (w ∷ []) ts) l) = id w (count ts)
head_name _ = id [] 0

-- the constructors of lists
abbrev pub cell : PlainNameArity
cell = id (codes "[|]") 2

abbrev pub nil : PlainNameArity
nil = id (codes "[]") 0

-- the names of conjunctions, disjunctions and lists
abbrev pub comma : Path
comma = codes "," ∷ []

abbrev pub semicolon : Path
semicolon = codes ";" ∷ []

abbrev pub cell_path : Path
cell_path = codes "[|]" ∷ []

abbrev pub nil_path : Path
nil_path = codes "[]" ∷ []

-- the name of a constructor, or of a symbol that an inst lists
abbrev pub symbol_name : PlainTerm → PlainNameArity
symbol_name (at (Items ts) l) = nil
symbol_name (at (Tailed ts t) l) = cell
symbol_name (at (App w ts) l) = id (last_part w) (count ts)
symbol_name _ = id [] 0

-- the name of a function that is declared, by the sides of its `=`
abbrev pub func_name : Option (PlainTerm × PlainTerm) → PlainNameArity
func_name (Some p) = head_name p.0
func_name None = id [] 0

abbrev pub symbols : PlainTerms → List PlainDefinition
symbols no_term = []
symbols (more_terms t ts) = definition K.Symbol (symbol_name t) ∷ symbols ts

-- what an item declares or defines, in order
abbrev pub definitions : PlainDecl → List PlainDefinition
definitions (AbstractType h) = definition K.AbstractType (head_name h) ∷ []
definitions (UnionType h ts) = definition K.DefinedType (head_name h) ∷ symbols ts
definitions (SameType h t) = definition K.DefinedType (head_name h) ∷ []
definitions (SameInst h t) = definition K.Inst (head_name h) ∷ []
definitions (BoundInst h ts) = definition K.Inst (head_name h) ∷ []
definitions (ModeDef h t) = definition K.Mode (head_name h) ∷ []
definitions (Pred t d) = definition K.Pred (head_name t) ∷ []
definitions (Func t d) = definition K.Func (func_name (operands (codes "=") t)) ∷ []
definitions _ = []
