-- The parser's walk over the words and what is spoken by them, side by side.
use Rattle.std.proofs.Common.{◌≡◌, ◌∙◌, refl, sym, ap, ap₂, subst, Bool, true, false, cond, List, [], ◌∷◌, Option, Some, None, codes, true≢false, append-nil, append_assoc}
use Rattle.std.specs.Prelude.{is_some, option_and_then, option_map}
use Rattle.std.specs.List.{fold}
use Rattle.std.specs.Option.{option_map_or}
use Rattle.std.specs.Str.{IsUtf8}
use Rattle.clap.specs.Walk.{Row, Rule, Text, Waiting, Walk, arg_by_long, idle, option, positional, settled, used, used_by_id, walked}
use Rattle.clap.specs.Kinds.{Kinds, or_else}
use Rattle.clap.specs.Faults.{settle_fault, turn_fault, use_fault, walk_fault}
use Rattle.mc_command_line.specs.Words.{Limit, Limits, Options, Spoken, Word, flag, is_plain, named, nothing_spoken, spoken, value_in, value_of, with_awaited, with_limit, with_value, with_word, with_words, word}
use Rattle.mc_command_line.proofs.Uses.{Holds, IsFault, arg_by_id-limit, arg_by_long-is, args, fault-first, first_arg, first_fault-is, first_row, holds-first, holds-limit, holds-nothing, limit_arg, limit_fault-is, limit_row, name_of, repeated, shape}
use Rattle.mc_command_line.proofs.Looks.{Looks, by_name, dashes, long, looks, no_option, short, short-is}
use Rattle.mc_command_line.proofs.Turns.{IsResting, Pending, at, awaited_turn, awaited_walk, dashes_turn, dashes_walk, long_refused, long_turn, long_turn-is, long_walk, long_walk-is, name_in, plain_turn, plain_walk, rows_of_settled, settling, short_refused, trailing_turn, trailing_walk, words_held, words_settling}

-- what was spoken is what the rows hold, and where nothing was there is a fault
abbrev pub Agrees : Option Spoken → Kinds → List Row → Type 0
Agrees None kinds rows = IsFault kinds
Agrees (Some s) kinds rows = (kinds ≡ []) × Holds s rows

abbrev pub end_of : Options → Walk → List Text → Walk
end_of o w ws = fold (walked (args o) []) w ws

abbrev pub end_rows : Options → Walk → List Text → List Row
end_rows o w ws = (settled (args o) (end_of o w ws).held).rows

abbrev pub end_fault : Options → Walk → List Text → Kinds
end_fault o w ws = settle_fault (args o) false (end_of o w ws).held

-- the words from a point of the walk on
abbrev pub Goes : Options → Option Spoken → Walk → List Text → Type 0
Goes o t w ws = Agrees t (or_else (walk_fault (shape o) [] w ws) (end_fault o w ws)) (end_rows o w ws)

-- the same from a turn's fault and the point after it on
abbrev Turned : Options → Option Spoken → Kinds → Walk → List Text → Type 0
Turned o t turn w ws = Agrees t (or_else (or_else turn (walk_fault (shape o) [] w ws)) (end_fault o w ws)) (end_rows o w ws)

turned : (o : Options) (t : Option Spoken) (w : Walk) (word : Text) (ws : List Text) (turn : Kinds) (after : Walk)
    → turn_fault (shape o) [] w word ≡ turn → walked (args o) [] w word ≡ after → Turned o t turn after ws → Goes o t w (word ∷ ws)
unfolding walk_fault
turned o t w word ws turn after turns walks h =
    subst (λ k. Turned o t k (walked (args o) [] w word) ws) (sym turns) (subst (λ x. Turned o t turn x ws) (sym walks) h)

turn_refused : (o : Options) (turn : Kinds) (w : Walk) (ws : List Text) → IsFault turn → Turned o None turn w ws
turn_refused o turn w ws h = fault-first _ _ (fault-first _ _ h)

refused : (o : Options) (w : Walk) (word : Text) (ws : List Text) → IsFault (turn_fault (shape o) [] w word) → Goes o None w (word ∷ ws)
unfolding walk_fault
refused o w word ws h = turn_refused o _ (walked (args o) [] w word) ws h

-- at the end of the words
ended : (o : Options) (t : Option Spoken) (w : Walk) → Agrees t (settle_fault (args o) false w.held) (settled (args o) w.held).rows → Goes o t w []
unfolding walk_fault
ended o t w h = h

-- each word is text
abbrev pub AreTexts : List Text → Type 0
AreTexts [] = Unit {0}
AreTexts (w ∷ ws) = IsUtf8 w × AreTexts ws

-- ---- behind `--`

trailing : (o : Options) (ws : List Text) (rows : List Row) (pending : Pending) (waiting : Waiting) (s : Spoken)
    → settling o rows pending ≡ [] → Holds s (rows_of_settled o rows pending) → Goes o (Some (with_words ws s)) (at rows pending waiting true) ws
trailing o [] rows pending waiting s sound h =
    ended o (Some (with_words [] s)) (at rows pending waiting true)
    (sound, subst (λ rest. Holds (record s { rest = rest }) (rows_of_settled o rows pending)) (sym (append-nil s.rest)) h)
trailing o (w ∷ ws) rows pending waiting s sound h =
    let settled_now = rows_of_settled o rows pending in
    let after = at settled_now (Some (codes "words", w ∷ [])) positional true in
    let later = trailing o ws settled_now (Some (codes "words", w ∷ [])) positional (with_words (w ∷ []) s) (words_settling o settled_now w) (words_held o s settled_now w h) in
    turned o (Some (with_words (w ∷ ws) s)) (at rows pending waiting true) w ws [] after (trailing_turn o rows pending waiting w ∙ sound) (trailing_walk o rows pending waiting w)
    (subst (λ rest. Goes o (Some (record s { rest = rest })) after ws) (append_assoc s.rest (w ∷ []) ws) later)

trailing_doomed : (o : Options) (ws : List Text) (rows : List Row) (pending : Pending) (waiting : Waiting) → IsFault (settling o rows pending)
    → Goes o None (at rows pending waiting true) ws
trailing_doomed o [] rows pending waiting h = ended o None _ h
trailing_doomed o (w ∷ ws) rows pending waiting h = refused o _ w ws (subst IsFault (sym (trailing_turn o rows pending waiting w)) h)

-- ---- where what is pending can't be used

doomed_word : (o : Options) (w : Text) (ws : List Text) (rows : List Row) (pending : Pending) (waiting : Waiting) → IsUtf8 w → IsResting waiting
    → IsFault (settling o rows pending) → Looks w → Goes o None (at rows pending waiting false) (w ∷ ws)
doomed_word o w ws rows pending waiting text rests h (no_option is) = refused o _ w ws (subst IsFault (sym (plain_turn o rows pending waiting w is rests)) h)
doomed_word o w ws rows pending waiting text rests h (dashes e) =
    subst (λ v. Goes o None (at rows pending waiting false) (v ∷ ws)) (sym e)
    (turned o None _ (45 ∷ 45 ∷ []) ws [] _ (dashes_turn o rows pending waiting) (dashes_walk o rows pending waiting) (trailing_doomed o ws rows pending waiting h))
doomed_word o w ws rows pending waiting text rests h (long b bs e) =
    subst (λ v. Goes o None (at rows pending waiting false) (v ∷ ws)) (sym e)
    (refused o _ (45 ∷ 45 ∷ b ∷ bs) ws (long_refused o rows pending waiting b bs h))
doomed_word o w ws rows pending waiting text rests h (short b bs e other) =
    subst (λ v. Goes o None (at rows pending waiting false) (v ∷ ws)) (sym e)
    (refused o _ (45 ∷ b ∷ bs) ws (short_refused o rows pending waiting b bs other (subst IsUtf8 e text)))

doomed : (o : Options) (ws : List Text) (rows : List Row) (pending : Pending) (waiting : Waiting) → AreTexts ws → IsResting waiting
    → IsFault (settling o rows pending) → Goes o None (at rows pending waiting false) ws
doomed o [] rows pending waiting texts rests h = ended o None _ h
doomed o (w ∷ ws) rows pending waiting texts rests h = doomed_word o w ws rows pending waiting texts.0 rests h (looks w)

-- ---- where no option awaits its value, and where one does

abbrev Rests : Options → List Text → Type 0
Rests o ws = (rows : List Row) (pending : Pending) (waiting : Waiting) (s : Spoken) → IsResting waiting → settling o rows pending ≡ []
    → Holds s (rows_of_settled o rows pending) → Goes o (spoken o ws s None) (at rows pending waiting false) ws

abbrev Awaits : Options → List Text → Type 0
Awaits o ws = (rows : List Row) (s : Spoken) (l : Limit) → o.bounds ≡ true → Holds s rows
    → Goes o (spoken o ws s (Some l)) (at rows (Some (name_of l, [])) (option (name_of l)) false) ws

-- the first use of a limit or a later one
limit_repeats : (s : Spoken) (rows : List Row) (l : Limit) (v : Text) → Holds s rows → use_fault false (limit_arg l) (v ∷ []) rows ≡ repeated (is_some (value_of l s))
limit_repeats s rows l v h = limit_fault-is l v rows ∙ ap (λ r. repeated (is_some r)) (h.limits l) ∙ mapped (value_of l s)
  where
    mapped : (value : Option Text) → repeated (is_some (option_map (limit_row l) value)) ≡ repeated (is_some value)
    mapped None = refl
    mapped (Some x) = refl

none_there : (value : Option Text) → is_some value ≡ false → value ≡ None
none_there None e = refl
none_there (Some x) e = absurd (true≢false e)

-- `--first`
flag_turn : (o : Options) (ws : List Text) (rows : List Row) (pending : Pending) (waiting : Waiting) (w : Text) (s : Spoken) → Rests o ws
    → settling o rows pending ≡ [] → Holds s (rows_of_settled o rows pending) → (value : Option Text)
    → Turned o (with_word (flag value) w ws s (spoken o ws)) (long_turn o rows pending waiting w (Some first_arg) value) (long_walk o rows pending waiting w (Some first_arg) value) ws
flag_turn o ws rows pending waiting w s later sound h (Some v) = tt
flag_turn o ws rows pending waiting w s later sound h None = go s.first refl
  where
    fault : use_fault false first_arg [] (rows_of_settled o rows pending) ≡ repeated (is_some (first_row s.first))
    fault = first_fault-is (rows_of_settled o rows pending) ∙ ap (λ r. repeated (is_some r)) h.first

    turn_is : (b : Bool) → s.first ≡ b
        → or_else (or_else (settling o rows pending) (use_fault false first_arg [] (rows_of_settled o rows pending))) [] ≡ or_else (repeated (is_some (first_row b))) []
    turn_is b e = ap₂ (λ k j. or_else (or_else k j) []) sound (fault ∙ ap (λ b. repeated (is_some (first_row b))) e)

    go : (b : Bool) → s.first ≡ b → Turned o (option_and_then (λ t. spoken o ws t None) (cond b None (Some (record s { first = true }))))
        (or_else (or_else (settling o rows pending) (use_fault false first_arg [] (rows_of_settled o rows pending))) [])
        (at (used first_arg [] (rows_of_settled o rows pending)) None idle false) ws
    go true e =
        subst (λ k. Turned o None k (at (used first_arg [] (rows_of_settled o rows pending)) None idle false) ws) (sym (turn_is true e)) tt
    go false e =
        subst (λ k. Turned o (spoken o ws (record s { first = true }) None) k (at (used first_arg [] (rows_of_settled o rows pending)) None idle false) ws) (sym (turn_is false e))
        (later (used first_arg [] (rows_of_settled o rows pending)) None idle (record s { first = true }) tt refl (holds-first s (rows_of_settled o rows pending) h e))

-- `--budget=N` and `--budget`
limit_turn : (o : Options) (ws : List Text) (rows : List Row) (pending : Pending) (waiting : Waiting) (w : Text) (s : Spoken) → Rests o ws → Awaits o ws
    → settling o rows pending ≡ [] → Holds s (rows_of_settled o rows pending) → (l : Limit) → o.bounds ≡ true → (value : Option Text)
    → Turned o (with_word (Limits l value) w ws s (spoken o ws)) (long_turn o rows pending waiting w (Some (limit_arg l)) value)
    (long_walk o rows pending waiting w (Some (limit_arg l)) value) ws
limit_turn o ws rows pending waiting w s later waits sound h l has None =
    subst (λ k. Turned o (spoken o ws s (Some l)) k (at (rows_of_settled o rows pending) (Some (name_of l, [])) (option (name_of l)) false) ws)
    (sym (ap (λ k. or_else k []) sound)) (waits (rows_of_settled o rows pending) s l has h)
limit_turn o ws rows pending waiting w s later waits sound h l has (Some v) = go (is_some (value_of l s)) refl
  where
    turn_is : (b : Bool) → is_some (value_of l s) ≡ b
        → or_else (or_else (settling o rows pending) (use_fault false (limit_arg l) (v ∷ []) (rows_of_settled o rows pending))) [] ≡ or_else (repeated b) []
    turn_is b e = ap₂ (λ k j. or_else (or_else k j) []) sound (limit_repeats s (rows_of_settled o rows pending) l v h ∙ ap repeated e)

    go : (b : Bool) → is_some (value_of l s) ≡ b → Turned o (option_and_then (λ t. spoken o ws t None) (cond b None (Some (with_value l v s))))
        (or_else (or_else (settling o rows pending) (use_fault false (limit_arg l) (v ∷ []) (rows_of_settled o rows pending))) [])
        (at (used (limit_arg l) (v ∷ []) (rows_of_settled o rows pending)) None idle false) ws
    go true e =
        subst (λ k. Turned o None k (at (used (limit_arg l) (v ∷ []) (rows_of_settled o rows pending)) None idle false) ws) (sym (turn_is true e)) tt
    go false e =
        subst (λ k. Turned o (spoken o ws (with_value l v s) None) k (at (used (limit_arg l) (v ∷ []) (rows_of_settled o rows pending)) None idle false) ws)
        (sym (turn_is false e))
        (later (used (limit_arg l) (v ∷ []) (rows_of_settled o rows pending)) None idle (with_value l v s) tt refl
        (holds-limit s (rows_of_settled o rows pending) l v h (none_there (value_of l s) e)))

-- one word where no option awaits its value
rests_word : (o : Options) (w : Text) (ws : List Text) → IsUtf8 w → Rests o ws → Awaits o ws → (rows : List Row) (pending : Pending) (waiting : Waiting) (s : Spoken)
    → IsResting waiting → settling o rows pending ≡ [] → Holds s (rows_of_settled o rows pending) → Looks w
    → Goes o (with_word (word o w) w ws s (spoken o ws)) (at rows pending waiting false) (w ∷ ws)
rests_word o w ws text later waits rows pending waiting s rests sound h (no_option is) =
    let now = rows_of_settled o rows pending in
    let after = at now (Some (codes "words", w ∷ [])) positional false in
    let goes = later now (Some (codes "words", w ∷ [])) positional (with_words (w ∷ []) s) tt (words_settling o now w) (words_held o s now w h) in
    subst (λ k. Goes o (with_word k w ws s (spoken o ws)) (at rows pending waiting false) (w ∷ ws)) (sym (is.is o))
    (turned o (spoken o ws (with_words (w ∷ []) s) None) (at rows pending waiting false) w ws [] after (plain_turn o rows pending waiting w is rests ∙ sound) (plain_walk o rows pending waiting w is rests) goes)
rests_word o w ws text later waits rows pending waiting s rests sound h (dashes e) =
    subst (λ v. Goes o (with_word (word o v) v ws s (spoken o ws)) (at rows pending waiting false) (v ∷ ws)) (sym e)
    (turned o (Some (with_words ws s)) (at rows pending waiting false) (45 ∷ 45 ∷ []) ws [] (at rows pending waiting true) (dashes_turn o rows pending waiting) (dashes_walk o rows pending waiting)
    (trailing o ws rows pending waiting s sound h))
rests_word o w ws text later waits rows pending waiting s rests sound h (long b bs e) =
    let v : Text = 45 ∷ 45 ∷ b ∷ bs in
    let name : Text = name_in (b ∷ bs) in
    let by : (Option Text → Word) → Option Rule → Type 0 = λ k r. (value : Option Text)
    → Turned o (with_word (k value) v ws s (spoken o ws)) (long_turn o rows pending waiting v r value) (long_walk o rows pending waiting v r value) ws in
    let turn = by_name o name by (flag_turn o ws rows pending waiting v s later sound h) (limit_turn o ws rows pending waiting v s later waits sound h) (λ value. tt) in
    let found = subst (by (λ value. named o name value)) (sym (arg_by_long-is o name)) turn in
    subst (λ x. Goes o (with_word (word o x) x ws s (spoken o ws)) (at rows pending waiting false) (x ∷ ws)) (sym e)
    (turned o (with_word (word o v) v ws s (spoken o ws)) (at rows pending waiting false) v ws
    (long_turn o rows pending waiting v (arg_by_long (args o) name) (value_in (b ∷ bs))) (long_walk o rows pending waiting v (arg_by_long (args o) name) (value_in (b ∷ bs)))
    (long_turn-is o rows pending waiting b bs) (long_walk-is o rows pending waiting b bs) (found (value_in (b ∷ bs))))
rests_word o w ws text later waits rows pending waiting s rests sound h (short b bs e other) =
    let v : Text = 45 ∷ b ∷ bs in
    subst (λ x. Goes o (with_word (word o x) x ws s (spoken o ws)) (at rows pending waiting false) (x ∷ ws)) (sym e)
    (subst (λ k. Goes o (with_word k v ws s (spoken o ws)) (at rows pending waiting false) (v ∷ ws)) (sym (short-is o b bs other))
    (refused o (at rows pending waiting false) v ws (short_refused o rows pending waiting b bs other (subst IsUtf8 e text))))

-- ---- an awaited value

limit_lacks : (o : Options) (rows : List Row) (l : Limit) → o.bounds ≡ true → IsFault (settling o rows (Some (name_of l, [])))
limit_lacks o rows l has = subst IsFault (sym (ap (λ a. option_map_or (λ r. use_fault false r [] rows) a []) (arg_by_id-limit o l has))) tt

named_is_option : (o : Options) (name : Text) (value : Option Text) → is_plain (named o name value) ≡ false
named_is_option o name value = by_name o name (λ k r. (v : Option Text) → is_plain (k v) ≡ false) flag_is_option limit_is_option (λ v. refl) value
  where
    flag_is_option : (v : Option Text) → is_plain (flag v) ≡ false
    flag_is_option None = refl
    flag_is_option (Some v) = refl

    limit_is_option : (l : Limit) → o.bounds ≡ true → (v : Option Text) → is_plain (Limits l v) ≡ false
    limit_is_option l has v = refl

awaited_value : (o : Options) (ws : List Text) (rows : List Row) (s : Spoken) (l : Limit) (v : Text) → AreTexts ws → Rests o ws → o.bounds ≡ true → Holds s rows
    → Goes o (option_and_then (λ t. spoken o ws t None) (with_limit l v s)) (at rows (Some (name_of l, v ∷ [])) idle false) ws
awaited_value o ws rows s l v texts later has h = go (is_some (value_of l s)) refl
  where
    settles : (b : Bool) → is_some (value_of l s) ≡ b → settling o rows (Some (name_of l, v ∷ [])) ≡ repeated b
    settles b e = ap (λ a. option_map_or (λ r. use_fault false r (v ∷ []) rows) a []) (arg_by_id-limit o l has) ∙ limit_repeats s rows l v h ∙ ap repeated e

    go : (b : Bool) → is_some (value_of l s) ≡ b
        → Goes o (option_and_then (λ t. spoken o ws t None) (cond b None (Some (with_value l v s)))) (at rows (Some (name_of l, v ∷ [])) idle false) ws
    go true e = doomed o ws rows (Some (name_of l, v ∷ [])) idle texts tt (subst IsFault (sym (settles true e)) tt)
    go false e =
        let rows_are = ap (λ a. used_by_id a (v ∷ []) rows) (arg_by_id-limit o l has) in
        later rows (Some (name_of l, v ∷ [])) idle (with_value l v s) tt (settles false e)
        (subst (Holds (with_value l v s)) (sym rows_are) (holds-limit s rows l v h (none_there (value_of l s) e)))

awaits_word : (o : Options) (w : Text) (ws : List Text) → IsUtf8 w → AreTexts ws → Rests o ws → (rows : List Row) (s : Spoken) (l : Limit) → o.bounds ≡ true → Holds s rows → Looks w
    → Goes o (with_awaited o l w s (spoken o ws)) (at rows (Some (name_of l, [])) (option (name_of l)) false) (w ∷ ws)
awaits_word o w ws text texts later rows s l has h (no_option is) =
    let from = at rows (Some (name_of l, [])) (option (name_of l)) false in
    let value = option_and_then (λ t. spoken o ws t None) (with_limit l w s) in
    subst (λ k. Goes o (cond (is_plain k) value None) from (w ∷ ws)) (sym (is.is o))
    (turned o value from w ws [] (at rows (Some (name_of l, w ∷ [])) idle false) (awaited_turn o rows l w is) (awaited_walk o rows l w has is)
    (awaited_value o ws rows s l w texts later has h))
awaits_word o w ws text texts later rows s l has h (dashes e) =
    let from = at rows (Some (name_of l, [])) (option (name_of l)) false in
    subst (λ v. Goes o (with_awaited o l v s (spoken o ws)) from (v ∷ ws)) (sym e)
    (turned o None from (45 ∷ 45 ∷ []) ws [] (at rows (Some (name_of l, [])) (option (name_of l)) true)
    (dashes_turn o rows (Some (name_of l, [])) (option (name_of l))) (dashes_walk o rows (Some (name_of l, [])) (option (name_of l)))
    (trailing_doomed o ws rows (Some (name_of l, [])) (option (name_of l)) (limit_lacks o rows l has)))
awaits_word o w ws text texts later rows s l has h (long b bs e) =
    let from = at rows (Some (name_of l, [])) (option (name_of l)) false in
    let v : Text = 45 ∷ 45 ∷ b ∷ bs in
    let value = option_and_then (λ t. spoken o ws t None) (with_limit l v s) in
    subst (λ x. Goes o (with_awaited o l x s (spoken o ws)) from (x ∷ ws)) (sym e)
    (subst (λ plain. Goes o (cond plain value None) from (v ∷ ws)) (sym (named_is_option o (name_in (b ∷ bs)) (value_in (b ∷ bs))))
    (refused o from v ws (long_refused o rows (Some (name_of l, [])) (option (name_of l)) b bs (limit_lacks o rows l has))))
awaits_word o w ws text texts later rows s l has h (short b bs e other) =
    let from = at rows (Some (name_of l, [])) (option (name_of l)) false in
    let v : Text = 45 ∷ b ∷ bs in
    let value = option_and_then (λ t. spoken o ws t None) (with_limit l v s) in
    subst (λ x. Goes o (with_awaited o l x s (spoken o ws)) from (x ∷ ws)) (sym e)
    (subst (λ k. Goes o (cond (is_plain k) value None) from (v ∷ ws)) (sym (short-is o b bs other))
    (refused o from v ws (short_refused o rows (Some (name_of l, [])) (option (name_of l)) b bs other (subst IsUtf8 e text))))

-- ---- the whole walk

abbrev pub Sides : Options → List Text → Type 0
Sides o ws = Rests o ws × Awaits o ws

pub sides : (o : Options) (ws : List Text) → AreTexts ws → Sides o ws
sides o [] texts = (
  λ rows pending waiting s rests sound h. ended o (Some s) (at rows pending waiting false) (sound, h),
  λ rows s l has h. ended o None (at rows (Some (name_of l, [])) (option (name_of l)) false) (limit_lacks o rows l has),
)
sides o (w ∷ ws) texts =
    let later = sides o ws texts.1 in (
      λ rows pending waiting s rests sound h. rests_word o w ws texts.0 later.0 later.1 rows pending waiting s rests sound h (looks w),
      λ rows s l has h. awaits_word o w ws texts.0 texts.1 later.0 rows s l has h (looks w),
    )

-- from the first word on
pub all_words : (o : Options) (ws : List Text) → AreTexts ws → Goes o (spoken o ws nothing_spoken None) (at [] None idle false) ws
all_words o ws texts = (sides o ws texts).0 [] None idle nothing_spoken tt refl holds-nothing
