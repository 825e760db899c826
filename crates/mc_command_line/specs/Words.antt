-- What the words of a command line mean (this project's table of commands). The first word names
-- the program and says nothing.
use Rattle.std.specs.Prelude.{ℕ, ◌+◌, ◌*◌, ◌-◌, Bool, true, false, nat_eq, nat_le, ◌&&◌, ◌||◌, List, [], ◌∷◌, ◌++◌, length, codes, Option, Some, None, is_some, option_and_then, if◌then◌else◌}
use Rattle.std.specs.List.{after_first, before_first, list_any}
use Rattle.std.specs.Str.{bytes_eq}

-- how many calls a run may make, and how high its calls may stand
pub record Bounds : Type 0 where
  pub budget : ℕ
  pub depth : ℕ

pub data Meaning : Type 0 where
  -- compile these files
  Check : (files : List (List ℕ)) → Meaning
  -- compile these files and run the first one's `main`
  Run : Bounds → (files : List (List ℕ)) → Meaning
  -- list the answers of a goal, or its first alone
  Query : (first : Bool) → Bounds → (goal : List ℕ) → (files : List (List ℕ)) → Meaning

-- which options a command has
pub record Options : Type 0 where
  pub first : Bool
  pub bounds : Bool

-- the options that have a value
pub data Limit : Type 0 where
  Budget : Limit
  Depth : Limit

-- what one word is
pub data Word : Type 0 where
  Plain : Word
  -- `--`, behind which no options stand
  Ends : Word
  First : Word
  -- an option with its value, or with none in this word
  Limits : Limit → (value : Option (List ℕ)) → Word
  Unknown : Word

-- an option without a value
abbrev pub flag : (value : Option (List ℕ)) → Word
flag None = First
flag (Some v) = Unknown

-- the option that a word names behind `--`
abbrev pub named : Options → (name : List ℕ) → (value : Option (List ℕ)) → Word
named o name value =
    if o.first && bytes_eq (codes "first") name then flag value
    else if o.bounds && bytes_eq (codes "budget") name then Limits Budget value
    else if o.bounds && bytes_eq (codes "depth") name then Limits Depth value
    else Unknown

abbrev pub is_equals_sign : ℕ → Bool
is_equals_sign b = nat_eq b 61

-- what follows `=` in a word
abbrev pub value_in : List ℕ → Option (List ℕ)
value_in text =
    if list_any is_equals_sign text then Some (after_first is_equals_sign text) else None

-- a word by what stands behind its `--`
abbrev pub long_word : Options → List ℕ → Word
long_word o [] = Ends
long_word o (b ∷ bs) = named o (before_first is_equals_sign (b ∷ bs)) (value_in (b ∷ bs))

abbrev pub dashed_word : Options → ℕ → List ℕ → Word
dashed_word o b bs = if nat_eq b 45 then long_word o bs else Unknown

-- A word that begins with `-` and isn't `-` alone is an option, or `--`.
abbrev pub word : Options → List ℕ → Word
word o (b ∷ c ∷ cs) = if nat_eq b 45 then dashed_word o c cs else Plain
word o _ = Plain

abbrev pub is_plain : Word → Bool
is_plain Plain = true
is_plain _ = false

-- the words behind a command's: each option's value where the option stands, and the words that are
-- no options
pub record Spoken : Type 0 where
  pub first : Bool
  pub budget : Option (List ℕ)
  pub depth : Option (List ℕ)
  pub rest : List (List ℕ)

abbrev pub nothing_spoken : Spoken
nothing_spoken = record { first = false; budget = None; depth = None; rest = [] }

abbrev pub value_of : Limit → Spoken → Option (List ℕ)
value_of Budget s = s.budget
value_of Depth s = s.depth

abbrev pub with_value : Limit → List ℕ → Spoken → Spoken
with_value Budget v s = record s { budget = Some v }
with_value Depth v s = record s { depth = Some v }

abbrev pub with_words : List (List ℕ) → Spoken → Spoken
with_words ws s = record s { rest = s.rest ++ ws }

-- An option stands at most once.
abbrev pub with_first : Spoken → Option Spoken
with_first s = if s.first then None else Some (record s { first = true })

abbrev pub with_limit : Limit → List ℕ → Spoken → Option Spoken
with_limit l v s = if is_some (value_of l s) then None else Some (with_value l v s)

-- One word more, with the words that follow. `next` reads these, and is told which option's value
-- the next word is, if any.
abbrev pub with_word :
    Word → List ℕ → List (List ℕ) → Spoken → (next : Spoken → Option Limit → Option Spoken)
    → Option Spoken
with_word Plain w ws s next = next (with_words (w ∷ []) s) None
with_word Ends w ws s next = Some (with_words ws s)
with_word First w ws s next = option_and_then (λ t. next t None) (with_first s)
with_word (Limits l None) w ws s next = next s (Some l)
with_word (Limits l (Some v)) w ws s next = option_and_then (λ t. next t None) (with_limit l v s)
with_word Unknown w ws s next = None

-- A value is no option: it doesn't begin with `-`, unless it is `-` alone. (It would be no
-- number either way.)
abbrev pub with_awaited :
    Options → Limit → List ℕ → Spoken → (next : Spoken → Option Limit → Option Spoken)
    → Option Spoken
with_awaited o l v s next =
    if is_plain (word o v) then option_and_then (λ t. next t None) (with_limit l v s) else None

-- the words behind a command's, where s was spoken before them; none where an option stands twice,
-- has no value, or isn't the command's
abbrev pub spoken : Options → List (List ℕ) → Spoken → (awaited : Option Limit) → Option Spoken
spoken o [] s None = Some s
spoken o [] s (Some l) = None
spoken o (w ∷ ws) s None = with_word (word o w) w ws s (spoken o ws)
spoken o (v ∷ ws) s (Some l) = with_awaited o l v s (spoken o ws)

abbrev pub is_digit : ℕ → Bool
is_digit b = nat_le 48 b && nat_le b 57

-- the number that decimal digits write, behind those before
abbrev pub number_from : ℕ → List ℕ → Option ℕ
number_from n [] = Some n
number_from n (b ∷ bs) = if is_digit b then number_from (n * 10 + (b - 48)) bs else None

-- the number of one to nine decimal digits
abbrev pub number : List ℕ → Option ℕ
number v = if nat_le 1 (length v) && nat_le (length v) 9 then number_from 0 v else None

abbrev pub up_to : ℕ → Option ℕ → Option ℕ
up_to greatest None = None
up_to greatest (Some n) = if nat_le 1 n && nat_le n greatest then Some n else None

-- a bound from 1 to a greatest, or what it is where its option doesn't stand
abbrev pub bound : (greatest default : ℕ) → Option (List ℕ) → Option ℕ
bound greatest default None = Some default
bound greatest default (Some v) = up_to greatest (number v)

abbrev pub both : Option ℕ → Option ℕ → Option Bounds
both (Some b) (Some d) = Some (record { budget = b; depth = d })
both _ _ = None

abbrev pub bounds : Spoken → Option Bounds
bounds s = both (bound 100000000 10000000 s.budget) (bound 10000000 1000000 s.depth)

-- one to 64 files
abbrev pub are_files : List (List ℕ) → Bool
are_files files = nat_le 1 (length files) && nat_le (length files) 64

abbrev pub check : Option Spoken → Option Meaning
check None = None
check (Some s) = if are_files s.rest then Some (Check s.rest) else None

abbrev pub run_with : Option Bounds → List (List ℕ) → Option Meaning
run_with None files = None
run_with (Some b) files = if are_files files then Some (Run b files) else None

abbrev pub run : Option Spoken → Option Meaning
run None = None
run (Some s) = run_with (bounds s) s.rest

abbrev pub query_with : Bool → Option Bounds → List (List ℕ) → Option Meaning
query_with first (Some b) (goal ∷ files) =
    if are_files files then Some (Query first b goal files) else None
query_with first _ _ = None

abbrev pub query : Option Spoken → Option Meaning
query None = None
query (Some s) = query_with s.first (bounds s) s.rest

-- the words behind a command's that has these options
abbrev pub spoken_with : Options → List (List ℕ) → Option Spoken
spoken_with o ws = spoken o ws nothing_spoken None

-- what a command's word and the words behind it mean
abbrev pub commanded : (command : List ℕ) → List (List ℕ) → Option Meaning
commanded command ws =
    if bytes_eq command (codes "check")
    then check (spoken_with (record { first = false; bounds = false }) ws)
    else if bytes_eq command (codes "run")
    then run (spoken_with (record { first = false; bounds = true }) ws)
    else if bytes_eq command (codes "query")
    then query (spoken_with (record { first = true; bounds = true }) ws)
    else None

-- What a list of words means, where it means a command.
abbrev pub meaning : List (List ℕ) → Option Meaning
meaning (program ∷ command ∷ ws) = commanded command ws
meaning _ = None

-- a blank: a byte from 9 to 13, or 32
abbrev pub is_blank : ℕ → Bool
is_blank byte = (nat_le 9 byte && nat_le byte 13) || nat_eq byte 32

-- whether the last byte that isn't blank is a full stop; so_far says it of the bytes before
abbrev pub stops_after : (so_far : Bool) → List ℕ → Bool
stops_after so_far [] = so_far
stops_after so_far (byte ∷ bytes) =
    if is_blank byte then stops_after so_far bytes else stops_after (nat_eq byte 46) bytes

-- the text of a query: the goal and a line end where its last byte that isn't blank is a full stop,
-- else the goal, a blank, a full stop and a line end
abbrev pub query_text : List ℕ → List ℕ
query_text goal = goal ++ (if stops_after false goal then codes "\n" else codes " .\n")
