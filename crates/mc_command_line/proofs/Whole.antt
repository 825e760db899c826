-- A whole parse, and what is spoken.
use Rattle.std.proofs.Common.{◌≡◌, ◌∙◌, refl, sym, ap, ap₂, subst, Bool, true, false, cond, ◌||◌, List, [], ◌∷◌, map, Option, Some, None, codes, true≢false}
use Rattle.std.specs.Prelude.{String, string_bytes, is_some, option_and_then, option_map, slice_get, unwrap_or}
use Rattle.std.specs.List.{fold}
use Rattle.std.specs.Str.{bytes_eq}
use Rattle.std.specs.Option.{option_map_or}
use Rattle.std.proofs.lemmas.Str.{IsUtf8-string_bytes}
use Rattle.clap.specs.Walk.{Row, Text, finished, has_row, idle, nothing_held, row_text, settled, walk, with_default, with_values}
use Rattle.clap.specs.Simple.{is_simple, matches_of}
use Rattle.clap.specs.Kinds.{IsAmong, Kinds, or_else}
use Rattle.clap.specs.Faults.{check_fault, defaults_fault, fault_of, is_simple_and_free, level_fault, settle_fault, walk_fault}
use Rattle.clap.specs.declared.builder.value_parser.Reading.TheVariants.{AsWritten}
use Rattle.clap.specs.declared.error.kind.ErrorKind.{ErrorKind}
use Rattle.clap.specs.declared.parser.matches.ValueSource.TheVariants.{DefaultValue}
use Rattle.mc_command_line.specs.Words.{Limit, Budget, Depth, Options, Spoken, spoken_with, value_of}
use Rattle.mc_command_line.specs.code.Parser.{IsFlag, IsFound, app}
use Rattle.mc_command_line.proofs.Rows.{has_row-is, row-added, row-kept, row_of_id}
use Rattle.mc_command_line.proofs.Uses.{Holds, IsFault, args, first_arg, first_row, limit_arg, limit_args, limit_row, name_of, or_else-nil, shape, words_arg, words_row}
use Rattle.mc_command_line.proofs.Turns.{at}
use Rattle.mc_command_line.proofs.Sides.{Agrees, AreTexts, all_words, end_fault, end_rows}

-- ---- the rows with their defaults

same-either : {X : Type 0} (b : Bool) (x : X) → cond b x x ≡ x
same-either true x = refl
same-either false x = refl

-- the limits and the words have none
limits_default : (bounds : Bool) (rows : List Row) → fold with_default rows (limit_args bounds) ≡ rows
limits_default false rows = same-either (has_row (codes "words") rows) rows
limits_default true rows =
    ap (λ r. fold with_default r (limit_arg Depth ∷ words_arg ∷ [])) (same-either (has_row (codes "budget") rows) rows)
    ∙ ap (λ r. fold with_default r (words_arg ∷ [])) (same-either (has_row (codes "depth") rows) rows)
    ∙ same-either (has_row (codes "words") rows) rows

-- what the getters read
record Shows (s : Spoken) (rows : List Row) : Type 0 where
  first : IsFlag s.first (option_and_then row_text (row_of_id (codes "first") rows))
  limits : (l : Limit) → row_of_id (name_of l) rows ≡ option_map (limit_row l) (value_of l s)
  rest : row_of_id (codes "words") rows ≡ words_row s.rest

flag_shown : (b : Bool) → IsFlag b (option_and_then row_text (first_row b))
flag_shown true = refl
flag_shown false = refl

held_shown : (s : Spoken) (rows : List Row) → Holds s rows → Shows s rows
held_shown s rows h = record {
  first = subst (λ r. IsFlag s.first (option_and_then row_text r)) (sym h.first) (flag_shown s.first);
  limits = h.limits;
  rest = h.rest;
}

-- the flag's default is false
default_shown : (s : Spoken) (rows : List Row) → Holds s rows → Shows s (with_default rows first_arg)
default_shown s rows h = go (has_row (codes "first") rows) s.first refl (has_row-is (codes "first") rows ∙ ap is_some h.first) h.first
  where
    added : List Row
    added = with_values (codes "first") AsWritten DefaultValue (codes "false" ∷ []) rows

    kept : (other : Text) → bytes_eq (codes "first") other ≡ false → row_of_id other added ≡ row_of_id other rows
    kept other differ = row-kept (codes "first") other DefaultValue AsWritten (codes "false" ∷ []) rows differ

    kept_limits : (l : Limit) → row_of_id (name_of l) added ≡ option_map (limit_row l) (value_of l s)
    kept_limits Budget = kept (codes "budget") refl ∙ h.limits Budget
    kept_limits Depth = kept (codes "depth") refl ∙ h.limits Depth

    go : (b f : Bool) → s.first ≡ f → b ≡ is_some (first_row s.first) → row_of_id (codes "first") rows ≡ first_row s.first → Shows s (cond b rows added)
    go true f e has is = held_shown s rows h
    go false true e has is = absurd (true≢false (sym (has ∙ ap (λ x. is_some (first_row x)) e)))
    go false false e has is =
        let row = row-added (codes "first") DefaultValue AsWritten (codes "false" ∷ []) rows refl (is ∙ ap first_row e) in
        let shown : IsFlag false (option_and_then row_text (row_of_id (codes "first") added)) = subst (λ r. IsFlag false (option_and_then row_text r)) (sym row) refl in
        record {
          first = subst (λ x. IsFlag x (option_and_then row_text (row_of_id (codes "first") added))) (sym e) shown;
          limits = kept_limits;
          rest = kept (codes "words") refl ∙ h.rest;
        }

first_value_of : (l : Limit) (value : Option Text) → option_and_then (λ r. slice_get r.values 0) (option_map (limit_row l) value) ≡ value
first_value_of l None = refl
first_value_of l (Some v) = refl

all_words_of : (words : List Text) → unwrap_or (option_map (λ r. r.values) (words_row words)) [] ≡ words
all_words_of [] = refl
all_words_of (w ∷ ws) = refl

shown_found : (s : Spoken) (rows : List Row) → Shows s rows → IsFound s rows
shown_found s rows h = record {
  first = h.first;
  budget = ap (option_and_then (λ r. slice_get r.values 0)) (h.limits Budget) ∙ first_value_of Budget s.budget;
  depth = ap (option_and_then (λ r. slice_get r.values 0)) (h.limits Depth) ∙ first_value_of Depth s.depth;
  rest = ap (λ r. unwrap_or (option_map (λ x. x.values) r) []) h.rest ∙ all_words_of s.rest;
}

found_with_defaults : (first bounds : Bool) (s : Spoken) (rows : List Row) → Holds s rows
    → IsFound s (fold with_default rows (args (record { first = first; bounds = bounds })))
found_with_defaults true bounds s rows h =
    subst (IsFound s) (sym (limits_default bounds (with_default rows first_arg))) (shown_found s _ (default_shown s rows h))
found_with_defaults false bounds s rows h = subst (IsFound s) (sym (limits_default bounds rows)) (shown_found s rows (held_shown s rows h))

-- ---- the fault of a whole parse

no_default : (b : Bool) (k : Kinds) → cond (b || true) [] k ≡ []
no_default true k = refl
no_default false k = refl

abbrev no_kinds : Kinds
no_kinds = []

or_false-same : (b : Bool) → cond (b || false) no_kinds no_kinds ≡ no_kinds
or_false-same true = refl
or_false-same false = refl

limits_sound : (bounds : Bool) (rows : List Row) → defaults_fault rows (limit_args bounds) ≡ []
unfolding defaults_fault
limits_sound false rows = ap (λ k. or_else k []) (no_default (has_row (codes "words") rows) _)
limits_sound true rows =
    ap (λ k. or_else k (defaults_fault (with_default rows (limit_arg Budget)) (limit_arg Depth ∷ words_arg ∷ []))) (no_default (has_row (codes "budget") rows) _)
    ∙ ap (λ k. or_else k (defaults_fault (with_default (with_default rows (limit_arg Budget)) (limit_arg Depth)) (words_arg ∷ [])))
    (no_default (has_row (codes "depth") (with_default rows (limit_arg Budget))) _)
    ∙ ap (λ k. or_else k []) (no_default (has_row (codes "words") (with_default (with_default rows (limit_arg Budget)) (limit_arg Depth))) _)

defaults_sound : (first bounds : Bool) (rows : List Row) → defaults_fault rows (args (record { first = first; bounds = bounds })) ≡ []
unfolding defaults_fault
defaults_sound false bounds rows = limits_sound bounds rows
defaults_sound true bounds rows =
    ap (λ k. or_else k (defaults_fault (with_default rows first_arg) (limit_args bounds))) (or_false-same (has_row (codes "first") rows))
    ∙ limits_sound bounds (with_default rows first_arg)

check_sound : (first bounds : Bool) (rows : List Row) → check_fault (shape (record { first = first; bounds = bounds })) rows false ≡ []
check_sound true true rows = refl
check_sound true false rows = refl
check_sound false true rows = refl
check_sound false false rows = refl

abbrev words_fault : Options → List Text → Kinds
words_fault o ws = or_else (walk_fault (shape o) [] (at [] None idle false) ws) (end_fault o (at [] None idle false) ws)

level_is : (first bounds : Bool) (ws : List Text)
    → level_fault (shape (record { first = first; bounds = bounds })) [] nothing_held ws false [] ≡ words_fault (record { first = first; bounds = bounds }) ws
level_is first bounds ws =
    let o : Options = record { first = first; bounds = bounds } in
    let end = (walk (args o) [] nothing_held ws).held in
    let settles = settle_fault (args o) false end in
    ap (λ k. or_else (walk_fault (shape o) [] (at [] None idle false) ws) (or_else settles k))
    (ap₂ or_else (defaults_sound first bounds (settled (args o) end).rows) (check_sound first bounds (finished (args o) end)))
    ∙ ap (or_else (walk_fault (shape o) [] (at [] None idle false) ws)) (or_else-nil settles)

abbrev no_entry : Text × List Text → Option (Text × List Row)
no_entry p = None

no_subcommand : (stop : Option (Text × List Text)) → is_some (option_and_then no_entry stop) ≡ false
no_subcommand None = refl
no_subcommand (Some p) = refl

no_subcommand_fault : (stop : Option (Text × List Text)) → option_map_or (λ p. no_kinds) stop no_kinds ≡ no_kinds
no_subcommand_fault None = refl
no_subcommand_fault (Some p) = refl

fault_is : (first bounds : Bool) (ws : List Text) → fault_of (app (record { first = first; bounds = bounds })) ws ≡ words_fault (record { first = first; bounds = bounds }) ws
fault_is true true ws = ap₂ (level_fault (shape (record { first = true; bounds = true })) [] nothing_held ws) (no_subcommand _) (no_subcommand_fault _) ∙ level_is true true ws
fault_is true false ws = ap₂ (level_fault (shape (record { first = true; bounds = false })) [] nothing_held ws) (no_subcommand _) (no_subcommand_fault _) ∙ level_is true false ws
fault_is false true ws = ap₂ (level_fault (shape (record { first = false; bounds = true })) [] nothing_held ws) (no_subcommand _) (no_subcommand_fault _) ∙ level_is false true ws
fault_is false false ws = ap₂ (level_fault (shape (record { first = false; bounds = false })) [] nothing_held ws) (no_subcommand _) (no_subcommand_fault _) ∙ level_is false false ws

matches_are : (first bounds : Bool) (ws : List Text) → matches_of (app (record { first = first; bounds = bounds })) ws
    ≡ fold with_default (end_rows (record { first = first; bounds = bounds }) (at [] None idle false) ws) (args (record { first = first; bounds = bounds }))
matches_are true true ws = refl
matches_are true false ws = refl
matches_are false true ws = refl
matches_are false false ws = refl

simple : (first bounds : Bool) → is_simple_and_free (app (record { first = first; bounds = bounds })) ≡ true
simple true true = refl
simple true false = refl
simple false true = refl
simple false false = refl

simple_alone : (first bounds : Bool) → is_simple (app (record { first = first; bounds = bounds })) ≡ true
simple_alone true true = refl
simple_alone true false = refl
simple_alone false true = refl
simple_alone false false = refl

-- ---- what a parse says of what is spoken

pub is_simple-app : (o : Options) → is_simple (app o) ≡ true
is_simple-app o = simple_alone o.first o.bounds

pub is_simple_and_free-app : (o : Options) → is_simple_and_free (app o) ≡ true
is_simple_and_free-app o = simple o.first o.bounds

pub texts_of : {Z : Type 0} (words : List (String Z)) → AreTexts (map string_bytes words)
texts_of [] = tt
texts_of (w ∷ ws) = (IsUtf8-string_bytes w, texts_of ws)

-- a parse that succeeds finds what is spoken
pub record Found (o : Options) (ws : List Text) : Type 0 where
  pub found : Spoken
  pub is : spoken_with o ws ≡ Some found
  pub rows : IsFound found (matches_of (app o) ws)

pub parsed_found : (o : Options) (ws : List Text) → AreTexts ws → fault_of (app o) ws ≡ [] → Found o ws
parsed_found o ws texts sound = go (spoken_with o ws) refl (all_words o ws texts)
  where
    go : (t : Option Spoken) → spoken_with o ws ≡ t → Agrees t (words_fault o ws) (end_rows o (at [] None idle false) ws) → Found o ws
    go None e h = absurd (subst IsFault (sym (fault_is o.first o.bounds ws) ∙ sound) h)
    go (Some s) e h = record {
      found = s;
      is = e;
      rows = subst (IsFound s) (sym (matches_are o.first o.bounds ws)) (found_with_defaults o.first o.bounds s _ h.1);
    }

-- where a parse fails nothing is spoken
pub failed_silent : (o : Options) (ws : List Text) (kind : ErrorKind) → AreTexts ws → IsAmong kind (fault_of (app o) ws) → spoken_with o ws ≡ None
failed_silent o ws kind texts fails = go (spoken_with o ws) (all_words o ws texts)
  where
    go : (t : Option Spoken) → Agrees t (words_fault o ws) (end_rows o (at [] None idle false) ws) → t ≡ None
    go None h = refl
    go (Some s) h = absurd (subst (IsAmong kind) (fault_is o.first o.bounds ws ∙ h.0) fails)
