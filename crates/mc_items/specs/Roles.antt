-- What the parts of a term are, by what the term itself is there (the Mercury manual: Items,
-- Clauses, Goals, Declarations).
use Rattle.std.specs.Prelude.{ℕ, List, [], ◌∷◌, codes, unwrap_or}
use Rattle.mc_term_data.specs.Names.{Row, row, found}
use Rattle.mc_clause_syntax.specs.declared.goal_form.Parts.TheVariants as P
use Rattle.mc_clause_syntax.specs.declared.goal_form.Parts as F
use Rattle.mc_clause_syntax.specs.GoalForms as G
use Rattle.mc_items.specs.declared.role.Role.{Role}
use Rattle.mc_items.specs.declared.role.Role.TheVariants.{Item, Head, Goal, Argument, Declaration, TypeItem, Constructors, Field, TypeTerm, InstItem, Inst, Symbols, ModeItem, Mode, Signature, Parameter, Elsewhere}

-- what the first part of a term is, and what its other parts are
abbrev pub Parts : Type 0
Parts = Role × Role

-- what each part of a term is that no table names
abbrev pub inner : Role → Role
inner Item = Head
inner Head = Head
inner Goal = Argument
inner Argument = Argument
inner Constructors = Field
inner Field = TypeTerm
inner TypeTerm = TypeTerm
inner Inst = Inst
inner Symbols = Inst
inner ModeItem = Mode
inner Mode = Inst
inner Signature = Parameter
inner Parameter = TypeTerm
inner _ = Elsewhere

-- what each part of a conjunction or a disjunction is
abbrev pub joined : Role → Role
joined Goal = Goal
joined Constructors = Constructors
joined Symbols = Symbols
joined s = inner s

-- a declaration, and a clause with a body
unfoldable pub item_rows : List (Row Parts)
item_rows = row (codes ":-") 1 (Declaration, Elsewhere) ∷ row (codes ":-") 2 (Head, Goal) ∷ []

unfoldable pub declaration_rows : List (Row Parts)
declaration_rows =
    row (codes "type") 1 (TypeItem, Elsewhere)
    ∷ row (codes "inst") 1 (InstItem, Elsewhere)
    ∷ row (codes "mode") 1 (ModeItem, Elsewhere)
    ∷ row (codes "pred") 1 (Signature, Elsewhere)
    ∷ row (codes "func") 1 (Signature, Elsewhere)
    ∷ []

unfoldable pub type_rows : List (Row Parts)
type_rows =
    row (codes "--->") 2 (Elsewhere, Constructors) ∷ row (codes "==") 2 (Elsewhere, TypeTerm) ∷ []

unfoldable pub inst_rows : List (Row Parts)
inst_rows = row (codes "--->") 2 (Elsewhere, Symbols) ∷ row (codes "==") 2 (Elsewhere, Inst) ∷ []

unfoldable pub mode_rows : List (Row Parts)
mode_rows =
    row (codes "==") 2 (Elsewhere, Mode) ∷ row (codes "is") 2 (ModeItem, Elsewhere)
    ∷ row (codes "=") 2 (ModeItem, Mode) ∷ []

unfoldable pub signature_rows : List (Row Parts)
signature_rows =
    row (codes "is") 2 (Signature, Elsewhere) ∷ row (codes "=") 2 (Signature, Parameter) ∷ []

-- the table for what the term itself is
abbrev pub rows_at : Role → List (Row Parts)
rows_at Item = item_rows
rows_at Declaration = declaration_rows
rows_at TypeItem = type_rows
rows_at InstItem = inst_rows
rows_at ModeItem = mode_rows
rows_at Signature = signature_rows
rows_at Field = row (codes "::") 2 (Elsewhere, TypeTerm) ∷ []
rows_at Parameter = row (codes "::") 2 (TypeTerm, Mode) ∷ []
rows_at Inst = row (codes "bound") 1 (Symbols, Symbols) ∷ []
rows_at _ = []

-- what the parts of a goal are, by what its form says of them
abbrev pub goal_roles : F.Parts → Parts
goal_roles (P.Goals a b) = (Goal, Goal)
goal_roles P.Quantified = (Elsewhere, Goal)
goal_roles _ = (Argument, Argument)

-- What the parts of a name over a number of parts are. A qualified name stands in no table.
abbrev pub parts : Role → List (List ℕ) → ℕ → Parts
parts Goal w n = goal_roles (G.parts (G.goal_form w n))
parts s (w ∷ []) n = unwrap_or (found (rows_at s) w n) (inner s, inner s)
parts s _ n = (inner s, inner s)
