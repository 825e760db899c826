-- The text that values, answers and broken rules are printed as. (This project's profile, after the
-- Mercury Language Reference Manual, chapter Syntax: a printed value reads back as a term.)
use Rattle.std.specs.Prelude.{ℕ, ◌+◌, ◌<◌, ◌/◌, ◌%◌, List, [], ◌∷◌, ◌++◌, map, length, slice_index_or, Bool, false, ◌||◌, ◌&&◌, if◌then◌else◌, nat_eq, nat_lt, nat_le, codes, decimal, encode_utf8, ⊤}
use Rattle.std.specs.Fmt.{signed_decimal}
use Rattle.std.specs.List.{flat_map, list_all}
use Rattle.std.specs.Cmp.Lexicographic.{pointwise}
use Rattle.mc_program.specs.Values.{Val, int, char, str, con, state, Vals, no_vals, val_then}
use Rattle.mc_program.specs.declared.program.Program.{Program}
use Rattle.mc_source.specs.declared.rule.Rule.{Rule}
use Rattle.mc_source.specs.declared.rule.Rule.TheVariants as R

-- the names of a program's symbols, in order
abbrev pub names_of : Program → List (List ℕ)
names_of program = map (λ symbol. symbol.name.name) program.symbols

-- the name of a symbol
abbrev pub name_at : List (List ℕ) → ℕ → List ℕ
name_at names symbol = slice_index_or names symbol []

abbrev mutual
  -- each symbol of a value is below n
  pub SymbolsBelow : ℕ → Val → Type 0
  SymbolsBelow n (con symbol args) = (symbol < n) × AllSymbolsBelow n args
  SymbolsBelow n _ = ⊤

  pub AllSymbolsBelow : ℕ → Vals → Type 0
  AllSymbolsBelow n no_vals = ⊤
  AllSymbolsBelow n (val_then v vs) = SymbolsBelow n v × AllSymbolsBelow n vs

-- the program has each symbol of the value
abbrev pub Names : Program → Val → Type 0
Names program v = SymbolsBelow (length program.symbols) v

-- a hexadecimal digit, in lower case
abbrev pub hex_digit : ℕ → ℕ
hex_digit d = if nat_lt d 10 then 48 + d else 87 + d

-- a byte as it stands between these quotes: the quote in use, backslashes and control characters
-- are escaped
abbrev pub escaped : ℕ → ℕ → List ℕ
escaped quote byte =
    if nat_eq byte 92 || nat_eq byte quote then 92 ∷ byte ∷ [] else
    if nat_eq byte 10 then codes "\\n" else
    if nat_eq byte 9 then codes "\\t" else
    if nat_lt byte 32 || nat_eq byte 127
    then codes "\\x" ++ (hex_digit (byte / 16) ∷ hex_digit (byte % 16) ∷ codes "\\")
    else
    byte ∷ []

abbrev pub in_quotes : ℕ → List ℕ → List ℕ
in_quotes quote bytes = (quote ∷ []) ++ (flat_map (escaped quote) bytes ++ (quote ∷ []))

abbrev pub single_quote : ℕ
single_quote = 39

abbrev pub double_quote : ℕ
double_quote = 34

-- a letter in lower case
abbrev pub is_lower : ℕ → Bool
is_lower byte = nat_le 97 byte && nat_le byte 122

-- a letter, a digit or an underscore
abbrev pub is_word_byte : ℕ → Bool
is_word_byte byte =
    is_lower byte
    || (nat_le 65 byte && nat_le byte 90)
    || (nat_le 48 byte && nat_le byte 57)
    || nat_eq byte 95

-- a name that begins with a letter in lower case and goes on with letters, digits and underscores
abbrev pub is_bare : List ℕ → Bool
is_bare [] = false
is_bare (byte ∷ bytes) = is_lower byte && list_all is_word_byte bytes

-- a name with arguments
abbrev pub name_text : List ℕ → List ℕ
name_text name = if is_bare name then name else in_quotes single_quote name

-- the name of the empty list
abbrev pub is_nil : List ℕ → Bool
is_nil name = pointwise nat_eq name (codes "[]")

-- a name without arguments
abbrev pub constant_text : List ℕ → List ℕ
constant_text name = if is_nil name then name else name_text name

-- the constructor of a list, over its first element and these further arguments
abbrev pub is_cell : List ℕ → Vals → Bool
is_cell name (val_then tail no_vals) = pointwise nat_eq name (codes "[|]")
is_cell name _ = false

abbrev mutual
  -- the text of a value, by the names of the symbols
  pub printed : List (List ℕ) → Val → List ℕ
  printed names (int n) = signed_decimal n
  printed names (char c) = in_quotes single_quote (encode_utf8 c)
  printed names (str bytes) = in_quotes double_quote bytes
  printed names (state written taken) = codes "state"
  printed names (con symbol no_vals) = constant_text (name_at names symbol)
  printed names (con symbol (val_then v vs)) =
      if is_cell (name_at names symbol) vs
      then codes "[" ++ (printed names v ++ (printed_tails names vs ++ codes "]"))
      else name_text (name_at names symbol)
      ++ (codes "(" ++ (printed names v ++ (printed_more names vs ++ codes ")")))

  -- the text of the arguments after the first
  pub printed_more : List (List ℕ) → Vals → List ℕ
  printed_more names no_vals = []
  printed_more names (val_then v vs) = codes ", " ++ (printed names v ++ printed_more names vs)

  -- the text of the tail of a list, after the element before it
  pub printed_tail : List (List ℕ) → Val → List ℕ
  printed_tail names (int n) = codes " | " ++ signed_decimal n
  printed_tail names (char c) = codes " | " ++ in_quotes single_quote (encode_utf8 c)
  printed_tail names (str bytes) = codes " | " ++ in_quotes double_quote bytes
  printed_tail names (state written taken) = codes " | " ++ codes "state"
  printed_tail names (con symbol no_vals) =
      if is_nil (name_at names symbol) then []
      else codes " | " ++ constant_text (name_at names symbol)
  printed_tail names (con symbol (val_then v vs)) =
      if is_cell (name_at names symbol) vs
      then codes ", " ++ (printed names v ++ printed_tails names vs)
      else codes " | "
      ++ (name_text (name_at names symbol)
      ++ (codes "(" ++ (printed names v ++ (printed_more names vs ++ codes ")"))))

  pub printed_tails : List (List ℕ) → Vals → List ℕ
  printed_tails names no_vals = []
  printed_tails names (val_then v vs) = printed_tail names v

-- the text of a variable and its value
abbrev pub binding_text : List ℕ → List ℕ → List ℕ
binding_text name value = name ++ (codes " = " ++ value)

-- the bindings after the first
abbrev pub more_bindings : List (List ℕ) → List (List ℕ) → List ℕ
more_bindings (name ∷ names) (value ∷ values) =
    codes ", " ++ (binding_text name value ++ more_bindings names values)
more_bindings _ _ = []

-- the line of an answer, by the variables' names and the values' texts
abbrev pub answer_text : List (List ℕ) → List (List ℕ) → List ℕ
answer_text (name ∷ names) (value ∷ values) =
    binding_text name value ++ (more_bindings names values ++ codes ".\n")
answer_text _ _ = codes "true.\n"

-- the name of a rule
abbrev pub rule_name : Rule → List ℕ
rule_name R.S1 = codes "S1"
rule_name R.S2 = codes "S2"
rule_name R.S3 = codes "S3"
rule_name R.S4 = codes "S4"
rule_name R.S5 = codes "S5"
rule_name R.S6 = codes "S6"
rule_name R.X1 = codes "X1"
rule_name R.L1 = codes "L1"
rule_name R.L2 = codes "L2"
rule_name R.L3 = codes "L3"
rule_name R.L4 = codes "L4"
rule_name R.F3 = codes "F3"
rule_name R.N1 = codes "N1"
rule_name R.N2 = codes "N2"
rule_name R.N3 = codes "N3"
rule_name R.N4 = codes "N4"
rule_name R.N5 = codes "N5"
rule_name R.N6 = codes "N6"
rule_name R.N7 = codes "N7"
rule_name R.N8 = codes "N8"
rule_name R.M5 = codes "M5"
rule_name R.F1 = codes "F1"
rule_name R.F2 = codes "F2"
rule_name R.F4 = codes "F4"
rule_name R.T3 = codes "T3"
rule_name R.T4 = codes "T4"
rule_name R.T5 = codes "T5"
rule_name R.L5 = codes "L5"
rule_name R.T1 = codes "T1"
rule_name R.T2 = codes "T2"
rule_name R.M6 = codes "M6"
rule_name R.M7 = codes "M7"
rule_name R.M8 = codes "M8"
rule_name R.M1 = codes "M1"
rule_name R.M2 = codes "M2"
rule_name R.M3 = codes "M3"
rule_name R.M4 = codes "M4"
rule_name R.E1 = codes "E1"
rule_name R.E2 = codes "E2"
rule_name R.E3 = codes "E3"
rule_name R.E4 = codes "E4"
rule_name R.U1 = codes "U1"
rule_name R.C1 = codes "C1"
rule_name R.C2 = codes "C2"
rule_name R.C3 = codes "C3"

-- the line of a broken rule: the file, the line, the rule and what is said of it
abbrev pub broken_text : List ℕ → ℕ → Rule → List ℕ → List ℕ
broken_text file line rule what =
    file
    ++ (codes ":"
    ++ (decimal line
    ++ (codes ": " ++ (rule_name rule ++ (codes " " ++ (what ++ codes "\n"))))))
