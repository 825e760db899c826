-- The parser's turns, word by word.
use Rattle.std.proofs.Common.{◌≡◌, ◌∙◌, refl, sym, ap, ap₂, subst, ℕ, Bool, true, false, cond, List, [], ◌∷◌, length, Option, Some, None, codes, nat_eq}
use Rattle.std.specs.Prelude.{drop, encode_utf8, slice_get}
use Rattle.std.specs.List.{before_first}
use Rattle.std.specs.Option.{option_map_or}
use Rattle.std.specs.Str.{IsUtf8}
use Rattle.std.proofs.Math.Bool.{and-false, or-false}
use Rattle.clap.specs.Walk.{Held, Row, Rule, Text, Waiting, Walk, after_flag, after_step, arg_by_id, arg_by_index, arg_by_long, idle, is_pending, long_met, option, option_word, positional, pushed, settled, settled_rows, takes_values, to_positional, used_by_id, walked}
use Rattle.clap.specs.Kinds.{Kinds, or_else}
use Rattle.clap.specs.Faults.{bundle_fault, bundle_step_fault, flags_fault, long_fault, other_fault, positional_fault, settle_fault, short_fault, step_fault, stray_fault, turn_fault, use_fault}
use Rattle.clap.specs.declared.error.kind.ErrorKind.TheVariants.{TooManyValues}
use Rattle.mc_command_line.specs.Words.{Limit, Budget, Depth, Options, Spoken, is_equals_sign, value_in, with_words}
use Rattle.mc_command_line.proofs.Uses.{Holds, IsFault, arg_by_id-limit, arg_by_id-words, arg_by_index-is, arg_by_short-is, args, fault-first, holds-word, limit_arg, name_of, shape, words_arg}
use Rattle.mc_command_line.proofs.Looks.{HasFirst, IsNoOption, first-behind}

abbrev pub Pending : Type 0
Pending = Option (Text × List Text)

abbrev pub held : List Row → Pending → Held
held rows pending = record { rows = rows; pending = pending; skip = 0 }

-- where the walk stands
abbrev pub at : List Row → Pending → Waiting → (is_trailing : Bool) → Walk
at rows pending waiting is_trailing = record { held = held rows pending; waiting = waiting; position = 1; is_trailing = is_trailing; stopped = None }

-- the fault of using what is pending, and the rows after that
abbrev pub settling : Options → List Row → Pending → Kinds
settling o rows pending = settle_fault (args o) false (held rows pending)

abbrev pub rows_of_settled : Options → List Row → Pending → List Row
rows_of_settled o rows pending = settled_rows (args o) pending rows

-- no option awaits its value
abbrev pub IsResting : Waiting → Type 0
IsResting idle = Unit {0}
IsResting (option id) = ⊥
IsResting positional = Unit {0}

-- ---- a word that is no option

abbrev words_pending : Text → Pending
words_pending word = Some (codes "words", word ∷ [])

-- the fault of a word that goes to the positional
value_fault : (o : Options) (rows : List Row) (pending : Pending)
    → option_map_or (λ a. positional_fault (args o) false a (held rows pending)) (arg_by_index (args o) 1) (stray_fault (shape o)) ≡ settling o rows pending
value_fault o rows pending =
    ap (λ a. option_map_or (λ r. positional_fault (args o) false r (held rows pending)) a (stray_fault (shape o))) (arg_by_index-is o)
    ∙ ap (λ b. cond b [] (settling o rows pending)) (and-false (is_pending words_arg pending))

-- the walk after it
value_walk : (o : Options) (rows : List Row) (pending : Pending) (waiting : Waiting) (is_trailing : Bool) (word : Text)
    → to_positional (args o) (arg_by_index (args o) 1) word (at rows pending waiting is_trailing) (held rows pending)
    ≡ at (rows_of_settled o rows pending) (words_pending word) positional is_trailing
value_walk o rows pending waiting is_trailing word =
    ap (λ a. to_positional (args o) a word (at rows pending waiting is_trailing) (held rows pending)) (arg_by_index-is o)
    ∙ ap₂ goes (ap (λ b. cond b (held rows pending) (settled (args o) (held rows pending))) (and-false (is_pending words_arg pending))) (or-false is_trailing)
  where
    goes : Held → Bool → Walk
    goes h t = record { held = pushed (codes "words") word h; waiting = positional; position = 1; is_trailing = t; stopped = None }

-- the word that is pending then
pub words_settling : (o : Options) (rows : List Row) (word : Text) → settling o rows (Some (codes "words", word ∷ [])) ≡ []
words_settling o rows word = ap (λ a. option_map_or (λ r. use_fault false r (word ∷ []) rows) a []) (arg_by_id-words o)

pub words_held : (o : Options) (s : Spoken) (rows : List Row) (word : Text) → Holds s rows
    → Holds (with_words (word ∷ []) s) (rows_of_settled o rows (Some (codes "words", word ∷ [])))
words_held o s rows word h =
    subst (Holds (with_words (word ∷ []) s)) (sym (ap (λ a. used_by_id a (word ∷ []) rows) (arg_by_id-words o))) (holds-word s rows word h)

pub trailing_turn : (o : Options) (rows : List Row) (pending : Pending) (waiting : Waiting) (word : Text)
    → turn_fault (shape o) [] (at rows pending waiting true) word ≡ settling o rows pending
trailing_turn o rows pending waiting word = value_fault o rows pending

pub trailing_walk : (o : Options) (rows : List Row) (pending : Pending) (waiting : Waiting) (word : Text)
    → walked (args o) [] (at rows pending waiting true) word ≡ at (rows_of_settled o rows pending) (Some (codes "words", word ∷ [])) positional true
unfolding walked
trailing_walk o rows pending waiting word = value_walk o rows pending waiting true word

pub plain_turn : (o : Options) (rows : List Row) (pending : Pending) (waiting : Waiting) (word : Text) → IsNoOption word → IsResting waiting
    → turn_fault (shape o) [] (at rows pending waiting false) word ≡ settling o rows pending
plain_turn o rows pending idle word is rests = rw (is.dashes, is.long, is.short) (value_fault o rows pending)
plain_turn o rows pending (option id) word is rests = absurd rests
plain_turn o rows pending positional word is rests = rw (is.dashes, is.long, is.short) (value_fault o rows pending)

pub plain_walk : (o : Options) (rows : List Row) (pending : Pending) (waiting : Waiting) (word : Text) → IsNoOption word → IsResting waiting
    → walked (args o) [] (at rows pending waiting false) word ≡ at (rows_of_settled o rows pending) (Some (codes "words", word ∷ [])) positional false
unfolding walked
plain_walk o rows pending idle word is rests = rw (is.dashes, is.long, is.short) (value_walk o rows pending idle false word)
plain_walk o rows pending (option id) word is rests = absurd rests
plain_walk o rows pending positional word is rests = rw (is.dashes, is.long, is.short) (value_walk o rows pending positional false word)

-- ---- an awaited value

value_pushed : (l : Limit) (c : List Rule) (word : Text) (rows : List Row)
    → option_word (Some (limit_arg l)) (name_of l) word (held rows (Some (name_of l, []))) ≡ (held rows (Some (name_of l, word ∷ [])), idle)
value_pushed Budget c word rows = refl
value_pushed Depth c word rows = refl

awaited_word : (o : Options) (rows : List Row) (l : Limit) (word : Text) → o.bounds ≡ true
    → option_word (arg_by_id (args o) (name_of l)) (name_of l) word (held rows (Some (name_of l, []))) ≡ (held rows (Some (name_of l, word ∷ [])), idle)
awaited_word o rows l word has =
    ap (λ a. option_word a (name_of l) word (held rows (Some (name_of l, [])))) (arg_by_id-limit o l has) ∙ value_pushed l (args o) word rows

pub awaited_turn : (o : Options) (rows : List Row) (l : Limit) (word : Text) → IsNoOption word
    → turn_fault (shape o) [] (at rows (Some (name_of l, [])) (option (name_of l)) false) word ≡ []
awaited_turn o rows l word is = rw (is.dashes, is.long, is.short) refl

pub awaited_walk : (o : Options) (rows : List Row) (l : Limit) (word : Text) → o.bounds ≡ true → IsNoOption word
    → walked (args o) [] (at rows (Some (name_of l, [])) (option (name_of l)) false) word ≡ at rows (Some (name_of l, word ∷ [])) idle false
unfolding walked
awaited_walk o rows l word has is =
    rw (is.dashes, is.long, is.short)
    (ap (λ (p : Held × Waiting). record { held = p.0; waiting = p.1; position = 1; is_trailing = false; stopped = None }) (awaited_word o rows l word has))

-- ---- `--`

pub dashes_turn : (o : Options) (rows : List Row) (pending : Pending) (waiting : Waiting)
    → turn_fault (shape o) [] (at rows pending waiting false) (45 ∷ 45 ∷ []) ≡ []
dashes_turn o rows pending idle = refl
dashes_turn o rows pending (option id) = refl
dashes_turn o rows pending positional = refl

pub dashes_walk : (o : Options) (rows : List Row) (pending : Pending) (waiting : Waiting)
    → walked (args o) [] (at rows pending waiting false) (45 ∷ 45 ∷ []) ≡ at rows pending waiting true
unfolding walked
dashes_walk o rows pending idle = refl
dashes_walk o rows pending (option id) = refl
dashes_walk o rows pending positional = refl

-- ---- options

-- what a word that is refused by itself makes of its turn
option_refused : (o : Options) (rows : List Row) (pending : Pending) (waiting : Waiting) (word : Text)
    → IsFault (other_fault (shape o) None word (held rows pending)) → IsFault (turn_fault (shape o) [] (at rows pending waiting false) word)
option_refused o rows pending idle word h = fault-first _ _ h
option_refused o rows pending (option id) word h = fault-first _ _ h
option_refused o rows pending positional word h = fault-first _ _ h

no_short : (o : Options) (rows : List Row) (pending : Pending) (flags : Text) (x : ℕ) (next : Text → ℕ → Held → Kinds)
    → IsFault (bundle_step_fault (args o) false (Some x) flags 0 (held rows pending) next)
no_short o rows pending flags x next =
    let rest = drop (length (encode_utf8 x)) flags in
    subst (λ a. IsFault (short_fault (args o) false a rest (held rows pending) (next rest 0))) (sym (arg_by_short-is o x)) tt

bundle_refused : (o : Options) (rows : List Row) (pending : Pending) (b : ℕ) (bs : Text) → HasFirst (b ∷ bs)
    → IsFault (bundle_fault (args o) false (b ∷ bs) (held rows pending))
unfolding flags_fault
bundle_refused o rows pending b bs first =
    subst (λ cs. IsFault (bundle_step_fault (args o) false (slice_get cs 0) (b ∷ bs) 0 (held rows pending) (flags_fault (args o) false (length bs)))) (sym first.is)
    (no_short o rows pending (b ∷ bs) first.first (flags_fault (args o) false (length bs)))

-- no option is written with one hyphen
pub short_refused : (o : Options) (rows : List Row) (pending : Pending) (waiting : Waiting) (b : ℕ) (bs : Text)
    → nat_eq b 45 ≡ false → IsUtf8 (45 ∷ b ∷ bs) → IsFault (turn_fault (shape o) [] (at rows pending waiting false) (45 ∷ b ∷ bs))
short_refused o rows pending waiting b bs e text =
    let refused : IsFault (other_fault (shape o) None (45 ∷ b ∷ bs) (held rows pending)) = rw (e, e) (bundle_refused o rows pending b bs (first-behind b bs text)) in
    option_refused o rows pending waiting (45 ∷ b ∷ bs) refused

-- a turn at `--name` or `--name=value`, by the argument that has the name
abbrev pub long_turn : Options → List Row → Pending → Waiting → Text → Option Rule → Option Text → Kinds
long_turn o rows pending waiting word r value =
    let met = after_flag (args o) waiting word (long_met (args o) r value (held rows pending)).0 (long_met (args o) r value (held rows pending)).1 in
    or_else (long_fault (args o) false r value (held rows pending)) (step_fault (shape o) 1 met.0 met.1)

abbrev pub long_walk : Options → List Row → Pending → Waiting → Text → Option Rule → Option Text → Walk
long_walk o rows pending waiting word r value =
    let met = after_flag (args o) waiting word (long_met (args o) r value (held rows pending)).0 (long_met (args o) r value (held rows pending)).1 in
    after_step (args o) word (at rows pending waiting false) met.0 met.1

abbrev pub name_in : Text → Text
name_in bs = before_first is_equals_sign bs

pub long_turn-is : (o : Options) (rows : List Row) (pending : Pending) (waiting : Waiting) (b : ℕ) (bs : Text)
    → turn_fault (shape o) [] (at rows pending waiting false) (45 ∷ 45 ∷ b ∷ bs)
    ≡ long_turn o rows pending waiting (45 ∷ 45 ∷ b ∷ bs) (arg_by_long (args o) (name_in (b ∷ bs))) (value_in (b ∷ bs))
long_turn-is o rows pending idle b bs = refl
long_turn-is o rows pending (option id) b bs = refl
long_turn-is o rows pending positional b bs = refl

pub long_walk-is : (o : Options) (rows : List Row) (pending : Pending) (waiting : Waiting) (b : ℕ) (bs : Text)
    → walked (args o) [] (at rows pending waiting false) (45 ∷ 45 ∷ b ∷ bs)
    ≡ long_walk o rows pending waiting (45 ∷ 45 ∷ b ∷ bs) (arg_by_long (args o) (name_in (b ∷ bs))) (value_in (b ∷ bs))
unfolding walked
long_walk-is o rows pending idle b bs = refl
long_walk-is o rows pending (option id) b bs = refl
long_walk-is o rows pending positional b bs = refl

-- an option after a use that fails
long_doomed : (o : Options) (rows : List Row) (pending : Pending) (r : Option Rule) (value : Option Text) → IsFault (settling o rows pending)
    → IsFault (long_fault (args o) false r value (held rows pending))
long_doomed o rows pending None value h = tt
long_doomed o rows pending (Some a) (Some v) h = go (takes_values a)
  where
    go : (t : Bool) → IsFault (cond t (or_else (settling o rows pending) (use_fault false a (v ∷ []) (rows_of_settled o rows pending)))
        (TooManyValues ∷ []))
    go true = fault-first _ _ h
    go false = tt
long_doomed o rows pending (Some a) None h = go (takes_values a)
  where
    go : (t : Bool) → IsFault (cond t (settling o rows pending) (or_else (settling o rows pending) (use_fault false a [] (rows_of_settled o rows pending))))
    go true = h
    go false = fault-first _ _ h

pub long_refused : (o : Options) (rows : List Row) (pending : Pending) (waiting : Waiting) (b : ℕ) (bs : Text) → IsFault (settling o rows pending)
    → IsFault (turn_fault (shape o) [] (at rows pending waiting false) (45 ∷ 45 ∷ b ∷ bs))
long_refused o rows pending waiting b bs h =
    option_refused o rows pending waiting (45 ∷ 45 ∷ b ∷ bs) (long_doomed o rows pending (arg_by_long (args o) (name_in (b ∷ bs))) (value_in (b ∷ bs)) h)
