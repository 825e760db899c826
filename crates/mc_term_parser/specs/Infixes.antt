-- What a token is where a term starts, and what it joins behind a term (the Mercury manual, Terms;
-- the numbers are this project's profile).
use Rattle.std.specs.Prelude.{ℕ, Bool, true, false, ◌-◌, ◌&&◌, ◌||◌, not, nat_le, Option, Some, None, List, [], ◌∷◌, is_some, codes, if◌then◌else◌}
use Rattle.mc_operators.specs.Table.{same_name, infix_row, prefix_row}
use Rattle.mc_operators.specs.declared.table.Fix.{Fix}
use Rattle.mc_operators.specs.declared.table.Fix.TheVariants.{Xfx, Xfy, Yfx, Fx, Fy, Fxy}
use Rattle.mc_term_parser.specs.declared.lexeme.Lexeme.{Lexeme}
use Rattle.mc_term_parser.specs.declared.lexeme.Lexeme.TheVariants.{Word, Path, Var, Int, Str, Open, OpenCt, Close, ListOpen, ListClose, Bar, Comma, Dot}
use Rattle.mc_term_parser.specs.declared.infixes.Chain.{Chain}
use Rattle.mc_term_parser.specs.declared.infixes.Chain.TheVariants.{And, Or}
use Rattle.mc_term_parser.specs.declared.infixes.Infix.{Infix}
use Rattle.mc_term_parser.specs.declared.infixes.Infix.TheVariants.{Nothing, Binary, Chains}
use Rattle.mc_term_parser.specs.declared.infixes.Role.{Role}
use Rattle.mc_term_parser.specs.declared.infixes.Role.TheVariants.{Compound, Negative, Single, Double, Plain}

-- the greatest number of a y operand, or of an x operand
abbrev pub operand : Bool → ℕ → ℕ
operand y n = if y then n else n - 1

-- the number of the separator of a conjunction, or of a disjunction
abbrev pub rank : Chain → ℕ
rank And = 1000
rank Or = 1100

-- an infix operator by its kind: whether its operands are y operands
abbrev pub binary_of : ℕ → Fix → Infix
binary_of n Xfx = Binary n false false
binary_of n Xfy = Binary n false true
binary_of n Yfx = Binary n true false
binary_of n _ = Nothing

-- a name behind a term: a comma and a semicolon join the parts of a whole conjunction or
-- disjunction
abbrev pub infix_of : List ℕ → Option (ℕ × Fix) → Infix
infix_of w None = Nothing
infix_of w (Some r) =
    if same_name (codes ",") w then Chains And
    else if same_name (codes ";") w then Chains Or
    else binary_of r.0 r.1

-- What a token joins a term to. Within an argument or an element (c) a Comma token joins nothing.
unfoldable pub joined_by : Bool → Lexeme → Infix
joined_by c (Word w q l) = infix_of w (infix_row w)
joined_by c Comma = if c then Nothing else Chains And
joined_by c _ = Nothing

-- the name of an operator token, as the parts of a name
abbrev pub name_of : Lexeme → List (List ℕ)
name_of (Word w q l) = w ∷ []
name_of _ = []

abbrev pub is_open_ct : List Lexeme → Bool
is_open_ct (OpenCt l ∷ ts) = true
is_open_ct _ = false

-- Whether the first of these tokens starts a term. A name does not where it is an infix operator
-- and no prefix operator, stands without quotes, and no bracket follows directly.
abbrev pub starts : List Lexeme → Bool
starts [] = false
starts (Word w q l ∷ ts) =
    q || (not (is_some (infix_row w)) || (is_some (prefix_row w) || is_open_ct ts))
starts (Close ∷ ts) = false
starts (ListClose ∷ ts) = false
starts (Bar ∷ ts) = false
starts (Comma ∷ ts) = false
starts (Dot ∷ ts) = false
starts _ = true

-- the limits of a prefix operator's operands, where it takes one or two
abbrev pub prefix_of : ℕ → Fix → Role
prefix_of n Fx = Single n (n - 1)
prefix_of n Fy = Single n n
prefix_of n Fxy = Double n
prefix_of n _ = Plain

-- A prefix operator is one where its number is within the limit and a term starts next; else it is
-- a name.
abbrev pub prefix_role : ℕ → Option (ℕ × Fix) → Bool → Role
prefix_role limit None next = Plain
prefix_role limit (Some r) next = if next && nat_le r.0 limit then prefix_of r.0 r.1 else Plain

-- What a name is where a term starts, by the limit there and by the tokens after the name.
unfoldable pub role : ℕ → List ℕ → List Lexeme → Role
role limit w (OpenCt l ∷ ts) = Compound
role limit w (Int n l ∷ ts) =
    if same_name (codes "-") w then Negative n else prefix_role limit (prefix_row w) true
role limit w ts = prefix_role limit (prefix_row w) (starts ts)

-- the parts of the name of a compound term
abbrev pub callee : Lexeme → Option (List (List ℕ))
callee (Word w q l) = Some (w ∷ [])
callee (Path ps l) = Some ps
callee _ = None

abbrev pub is_paren : Lexeme → Bool
is_paren (Open l) = true
is_paren (OpenCt l) = true
is_paren _ = false

-- the line of a token that starts a term
abbrev pub line : Lexeme → ℕ
line (Word w q l) = l
line (Path ps l) = l
line (Var w l) = l
line (Int n l) = l
line (Str s l) = l
line (Open l) = l
line (OpenCt l) = l
line (ListOpen l) = l
line _ = 0
