-- The operators (this project's profile). A smaller number binds tighter.
use Rattle.std.specs.Prelude.{ℕ, Bool, true, false, nat_eq, ◌&&◌, Option, Some, None, List, [], ◌∷◌, codes, if◌then◌else◌}
use Rattle.mc_operators.specs.declared.table.Fix.{Fix}
use Rattle.mc_operators.specs.declared.table.Fix.TheVariants.{Xfx, Xfy, Yfx, Fx, Fy, Fxy}

-- whether two names have the same bytes
abbrev pub same_name : List ℕ → List ℕ → Bool
same_name [] [] = true
same_name (x ∷ xs) (y ∷ ys) = nat_eq x y && same_name xs ys
same_name _ _ = false

-- a row of a table of operators
pub record Operator : Type 0 where
  pub name : List ℕ
  pub number : ℕ
  pub fix : Fix

abbrev pub op : List ℕ → ℕ → Fix → Operator
op w n f = record { name = w; number = n; fix = f }

-- the operators of arithmetic, and those of fields and insts
unfoldable pub arithmetic_rows : List Operator
arithmetic_rows =
    op (codes "^") 99 Xfy
    ∷ op (codes "*") 400 Yfx
    ∷ op (codes "/") 400 Yfx
    ∷ op (codes "//") 400 Yfx
    ∷ op (codes "div") 400 Yfx
    ∷ op (codes ">>") 400 Yfx
    ∷ op (codes "mod") 400 Xfx
    ∷ op (codes "rem") 400 Xfx
    ∷ op (codes "+") 500 Yfx
    ∷ op (codes "-") 500 Yfx
    ∷ op (codes "++") 500 Xfy
    ∷ op (codes "for") 500 Xfx
    ∷ []

-- the operators that compare
unfoldable pub comparing_rows : List Operator
comparing_rows =
    op (codes ":=") 650 Xfx
    ∷ op (codes "=") 700 Xfx
    ∷ op (92 ∷ 61 ∷ []) 700 Xfx
    ∷ op (codes "<") 700 Xfx
    ∷ op (codes ">") 700 Xfx
    ∷ op (codes "=<") 700 Xfx
    ∷ op (codes ">=") 700 Xfx
    ∷ op (codes "==") 700 Xfx
    ∷ op (codes "is") 701 Xfx
    ∷ []

-- the operators that join goals
unfoldable pub joining_rows : List Operator
joining_rows =
    op (codes "=>") 920 Xfy
    ∷ op (codes "<=") 920 Xfy
    ∷ op (codes "<=>") 920 Xfy
    ∷ op (codes ",") 1000 Xfy
    ∷ op (codes "&") 1025 Xfy
    ∷ op (codes "->") 1050 Xfy
    ∷ op (codes ";") 1100 Xfy
    ∷ op (codes "then") 1150 Xfx
    ∷ op (codes "else") 1170 Xfy
    ∷ []

-- the operators of items
unfoldable pub declaring_rows : List Operator
declaring_rows =
    op (codes "::") 1175 Xfx
    ∷ op (codes "where") 1175 Xfx
    ∷ op (codes "--->") 1179 Xfy
    ∷ op (codes ":-") 1200 Xfx
    ∷ op (codes "-->") 1200 Xfx
    ∷ []

-- the operators before a term
unfoldable pub sign_rows : List Operator
sign_rows =
    op (codes "!") 40 Fx
    ∷ op (codes "!.") 40 Fx
    ∷ op (codes "!:") 40 Fx
    ∷ op (codes "-") 200 Fx
    ∷ op (codes "+") 500 Fx
    ∷ []

-- the operators before a goal
unfoldable pub goal_rows : List Operator
goal_rows =
    op (codes "pred") 800 Fx
    ∷ op (codes "func") 800 Fx
    ∷ op (codes "impure") 800 Fy
    ∷ op (codes "semipure") 800 Fy
    ∷ op (codes "not") 900 Fy
    ∷ op (92 ∷ 43 ∷ []) 900 Fy
    ∷ op (codes "some") 950 Fxy
    ∷ op (codes "all") 950 Fxy
    ∷ op (codes "if") 1160 Fx
    ∷ []

-- the operators before an item
unfoldable pub item_rows : List Operator
item_rows =
    op (codes "type") 1180 Fx
    ∷ op (codes "solver") 1181 Fy
    ∷ op (codes "module") 1199 Fx
    ∷ op (codes "import_module") 1199 Fx
    ∷ op (codes "use_module") 1199 Fx
    ∷ op (codes "end_module") 1199 Fx
    ∷ op (codes "inst") 1199 Fx
    ∷ op (codes "mode") 1199 Fx
    ∷ op (codes "pragma") 1199 Fx
    ∷ []

-- the operators before an item that this profile leaves out, and the one before any item
unfoldable pub left_out_rows : List Operator
left_out_rows =
    op (codes "include_module") 1199 Fx
    ∷ op (codes "typeclass") 1199 Fx
    ∷ op (codes "instance") 1199 Fx
    ∷ op (codes "promise") 1199 Fx
    ∷ op (codes "initialise") 1199 Fx
    ∷ op (codes ":-") 1200 Fx
    ∷ []

-- the number and the kind of a name in a table
abbrev pub row_of : List Operator → List ℕ → Option (ℕ × Fix)
row_of [] w = None
row_of (r ∷ rs) w = if same_name r.name w then Some (r.number, r.fix) else row_of rs w

-- a row, or else another
abbrev pub or_row : Option (ℕ × Fix) → Option (ℕ × Fix) → Option (ℕ × Fix)
or_row None other = other
or_row (Some r) other = Some r

-- the infix operators
unfoldable pub infix_row : List ℕ → Option (ℕ × Fix)
infix_row w =
    or_row (row_of arithmetic_rows w)
    (or_row (row_of comparing_rows w) (or_row (row_of joining_rows w) (row_of declaring_rows w)))

-- the prefix operators
unfoldable pub prefix_row : List ℕ → Option (ℕ × Fix)
prefix_row w =
    or_row (row_of sign_rows w)
    (or_row (row_of goal_rows w) (or_row (row_of item_rows w) (row_of left_out_rows w)))
