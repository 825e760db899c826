-- The arguments of the parser, once it is built, and what their uses make of the rows.
use Rattle.std.proofs.Common.{◌≡◌, ◌∙◌, refl, sym, ap, ap₂, Bool, true, false, cond, ◌&&◌, ℕ, List, [], ◌∷◌, ◌++◌, Option, Some, None, codes, true≢false}
use Rattle.std.specs.Prelude.{is_some, option_map}
use Rattle.std.specs.Str.{bytes_eq}
use Rattle.std.proofs.Math.Bool.{or-false}
use Rattle.clap.specs.Walk.{Row, Rule, Text, arg_by_id, arg_by_index, arg_by_long, arg_by_short, used, with_values, without}
use Rattle.clap.specs.Simple.{Shape, built, filled, new_shape, with_index}
use Rattle.clap.specs.Kinds.{Kinds, or_else}
use Rattle.clap.specs.Faults.{repeat_fault, use_fault}
use Rattle.clap.specs.declared.error.kind.ErrorKind.TheVariants.{ArgumentConflict}
use Rattle.clap.specs.declared.builder.value_parser.Reading.TheVariants.{AsWritten}
use Rattle.clap.specs.declared.parser.matches.ValueSource.TheVariants.{CommandLine}
use Rattle.mc_command_line.specs.Words.{Limit, Budget, Depth, Options, Spoken, nothing_spoken, value_of, with_value, with_words}
use Rattle.mc_command_line.specs.code.Parser.{app, first_rule, limit_rule, words_rule}
use Rattle.mc_command_line.proofs.Rows.{given_row, has_row-is, row-added, row-grown, row-kept, row_of_id, without-none}

-- ---- the built arguments

abbrev pub name_of : Limit → Text
name_of Budget = codes "budget"
name_of Depth = codes "depth"

abbrev pub first_arg : Rule
first_arg = filled first_rule

abbrev pub limit_arg : Limit → Rule
limit_arg l = filled (limit_rule (name_of l))

abbrev pub words_arg : Rule
words_arg = with_index 1 (filled words_rule)

abbrev pub first_args : Bool → List Rule → List Rule
first_args true rest = first_arg ∷ rest
first_args false rest = rest

abbrev pub limit_args : Bool → List Rule
limit_args true = limit_arg Budget ∷ limit_arg Depth ∷ words_arg ∷ []
limit_args false = words_arg ∷ []

abbrev pub args : Options → List Rule
args o = first_args o.first (limit_args o.bounds)

-- the built parser
abbrev pub shape : Options → Shape
shape o = record (new_shape (codes "merc")) {
  rules = args o;
  no_binary_name = true;
  disable_help_flag = true;
  disable_help_subcommand = true;
  disable_version_flag = true;
  is_built = true;
}

pub built-shape : (first bounds : Bool) → (built (app (record { first = first; bounds = bounds }))).top ≡ shape (record { first = first; bounds = bounds })
built-shape true true = refl
built-shape true false = refl
built-shape false true = refl
built-shape false false = refl

-- ---- lookups

abbrev pub arg_named : Options → Text → Option Rule
arg_named o name =
    cond (o.first && bytes_eq (codes "first") name) (Some first_arg)
    (cond (o.bounds && bytes_eq (codes "budget") name) (Some (limit_arg Budget))
    (cond (o.bounds && bytes_eq (codes "depth") name) (Some (limit_arg Depth)) None))

limits_by_long : (bounds : Bool) (name : Text) → arg_by_long (limit_args bounds) name
    ≡ cond (bounds && bytes_eq (codes "budget") name) (Some (limit_arg Budget)) (cond (bounds && bytes_eq (codes "depth") name) (Some (limit_arg Depth)) None)
limits_by_long false name = refl
limits_by_long true name =
    ap₂ (λ b d. cond b (Some (limit_arg Budget)) (cond d (Some (limit_arg Depth)) None)) (or-false (bytes_eq (codes "budget") name)) (or-false (bytes_eq (codes "depth") name))

by_long : (first bounds : Bool) (name : Text) → arg_by_long (args (record { first = first; bounds = bounds })) name ≡ arg_named (record { first = first; bounds = bounds }) name
by_long false bounds name = limits_by_long bounds name
by_long true bounds name = ap₂ (λ b. cond b (Some first_arg)) (or-false (bytes_eq (codes "first") name)) (limits_by_long bounds name)

pub arg_by_long-is : (o : Options) (name : Text) → arg_by_long (args o) name ≡ arg_named o name
arg_by_long-is o name = by_long o.first o.bounds name

by_short : (first bounds : Bool) (x : ℕ) → arg_by_short (args (record { first = first; bounds = bounds })) x ≡ None
by_short true true x = refl
by_short true false x = refl
by_short false true x = refl
by_short false false x = refl

pub arg_by_short-is : (o : Options) (x : ℕ) → arg_by_short (args o) x ≡ None
arg_by_short-is o x = by_short o.first o.bounds x

by_index : (first bounds : Bool) → arg_by_index (args (record { first = first; bounds = bounds })) 1 ≡ Some words_arg
by_index true true = refl
by_index true false = refl
by_index false true = refl
by_index false false = refl

pub arg_by_index-is : (o : Options) → arg_by_index (args o) 1 ≡ Some words_arg
arg_by_index-is o = by_index o.first o.bounds

words_by_id : (first bounds : Bool) → arg_by_id (args (record { first = first; bounds = bounds })) (codes "words") ≡ Some words_arg
words_by_id true true = refl
words_by_id true false = refl
words_by_id false true = refl
words_by_id false false = refl

pub arg_by_id-words : (o : Options) → arg_by_id (args o) (codes "words") ≡ Some words_arg
arg_by_id-words o = words_by_id o.first o.bounds

limit_by_id : (first bounds : Bool) (l : Limit) → bounds ≡ true → arg_by_id (args (record { first = first; bounds = bounds })) (name_of l) ≡ Some (limit_arg l)
limit_by_id true true Budget has = refl
limit_by_id true true Depth has = refl
limit_by_id false true Budget has = refl
limit_by_id false true Depth has = refl
limit_by_id first false l has = absurd (true≢false (sym has))

pub arg_by_id-limit : (o : Options) (l : Limit) → o.bounds ≡ true → arg_by_id (args o) (name_of l) ≡ Some (limit_arg l)
arg_by_id-limit o l has = limit_by_id o.first o.bounds l has

-- ---- the rows of what was spoken

abbrev pub first_row : Bool → Option Row
first_row true = Some (given_row (codes "first") AsWritten (codes "true" ∷ []))
first_row false = None

abbrev pub limit_row : Limit → Text → Row
limit_row l value = given_row (name_of l) AsWritten (value ∷ [])

abbrev pub words_row : List Text → Option Row
words_row [] = None
words_row (w ∷ ws) = Some (given_row (codes "words") AsWritten (w ∷ ws))

pub record Holds (s : Spoken) (rows : List Row) : Type 0 where
  pub first : row_of_id (codes "first") rows ≡ first_row s.first
  pub limits : (l : Limit) → row_of_id (name_of l) rows ≡ option_map (limit_row l) (value_of l s)
  pub rest : row_of_id (codes "words") rows ≡ words_row s.rest

pub holds-nothing : Holds nothing_spoken []
holds-nothing = record { first = refl; limits = none; rest = refl }
  where
    none : (l : Limit) → row_of_id (name_of l) [] ≡ option_map (limit_row l) (value_of l nothing_spoken)
    none Budget = refl
    none Depth = refl

-- the rows where an id that has none gets one value
abbrev set_rows : Text → Text → List Row → List Row
set_rows id value rows = with_values id AsWritten CommandLine (value ∷ []) (without id rows)

set-added : (id value : Text) (rows : List Row) → bytes_eq id id ≡ true → row_of_id id rows ≡ None
    → row_of_id id (set_rows id value rows) ≡ Some (given_row id AsWritten (value ∷ []))
set-added id value rows itself none =
    ap (λ rs. row_of_id id (with_values id AsWritten CommandLine (value ∷ []) rs)) (without-none id rows none)
    ∙ row-added id CommandLine AsWritten (value ∷ []) rows itself none

set-kept : (id other value : Text) (rows : List Row) → bytes_eq id other ≡ false → row_of_id id rows ≡ None
    → row_of_id other (set_rows id value rows) ≡ row_of_id other rows
set-kept id other value rows differ none =
    ap (λ rs. row_of_id other (with_values id AsWritten CommandLine (value ∷ []) rs)) (without-none id rows none)
    ∙ row-kept id other CommandLine AsWritten (value ∷ []) rows differ

pub holds-first : (s : Spoken) (rows : List Row) → Holds s rows → s.first ≡ false → Holds (record s { first = true }) (used first_arg [] rows)
holds-first s rows h unset =
    let none : row_of_id (codes "first") rows ≡ None = h.first ∙ ap first_row unset in
    record {
      first = set-added (codes "first") (codes "true") rows refl none;
      limits = kept none;
      rest = set-kept (codes "first") (codes "words") (codes "true") rows refl none ∙ h.rest;
    }
  where
    kept : row_of_id (codes "first") rows ≡ None → (l : Limit)
        → row_of_id (name_of l) (used first_arg [] rows) ≡ option_map (limit_row l) (value_of l (record s { first = true }))
    kept none Budget = set-kept (codes "first") (codes "budget") (codes "true") rows refl none ∙ h.limits Budget
    kept none Depth = set-kept (codes "first") (codes "depth") (codes "true") rows refl none ∙ h.limits Depth

pub holds-limit : (s : Spoken) (rows : List Row) (l : Limit) (v : Text) → Holds s rows → value_of l s ≡ None
    → Holds (with_value l v s) (used (limit_arg l) (v ∷ []) rows)
holds-limit s rows Budget v h unset =
    let none : row_of_id (codes "budget") rows ≡ None = h.limits Budget ∙ ap (option_map (limit_row Budget)) unset in
    record {
      first = set-kept (codes "budget") (codes "first") v rows refl none ∙ h.first;
      limits = each none;
      rest = set-kept (codes "budget") (codes "words") v rows refl none ∙ h.rest;
    }
  where
    each : row_of_id (codes "budget") rows ≡ None → (l : Limit)
        → row_of_id (name_of l) (used (limit_arg Budget) (v ∷ []) rows) ≡ option_map (limit_row l) (value_of l (with_value Budget v s))
    each none Budget = set-added (codes "budget") v rows refl none
    each none Depth = set-kept (codes "budget") (codes "depth") v rows refl none ∙ h.limits Depth
holds-limit s rows Depth v h unset =
    let none : row_of_id (codes "depth") rows ≡ None = h.limits Depth ∙ ap (option_map (limit_row Depth)) unset in
    record {
      first = set-kept (codes "depth") (codes "first") v rows refl none ∙ h.first;
      limits = each none;
      rest = set-kept (codes "depth") (codes "words") v rows refl none ∙ h.rest;
    }
  where
    each : row_of_id (codes "depth") rows ≡ None → (l : Limit)
        → row_of_id (name_of l) (used (limit_arg Depth) (v ∷ []) rows) ≡ option_map (limit_row l) (value_of l (with_value Depth v s))
    each none Budget = set-kept (codes "depth") (codes "budget") v rows refl none ∙ h.limits Budget
    each none Depth = set-added (codes "depth") v rows refl none

word-added : (rest : List Text) (w : Text) (rows : List Row) → row_of_id (codes "words") rows ≡ words_row rest
    → row_of_id (codes "words") (used words_arg (w ∷ []) rows) ≡ words_row (rest ++ w ∷ [])
word-added [] w rows e = row-added (codes "words") CommandLine AsWritten (w ∷ []) rows refl e
word-added (x ∷ xs) w rows e = row-grown (codes "words") AsWritten (w ∷ []) rows _ e

pub holds-word : (s : Spoken) (rows : List Row) (w : Text) → Holds s rows → Holds (with_words (w ∷ []) s) (used words_arg (w ∷ []) rows)
holds-word s rows w h = record {
  first = row-kept (codes "words") (codes "first") CommandLine AsWritten (w ∷ []) rows refl ∙ h.first;
  limits = kept;
  rest = word-added s.rest w rows h.rest;
}
  where
    kept : (l : Limit) → row_of_id (name_of l) (used words_arg (w ∷ []) rows) ≡ option_map (limit_row l) (value_of l (with_words (w ∷ []) s))
    kept Budget = row-kept (codes "words") (codes "budget") CommandLine AsWritten (w ∷ []) rows refl ∙ h.limits Budget
    kept Depth = row-kept (codes "words") (codes "depth") CommandLine AsWritten (w ∷ []) rows refl ∙ h.limits Depth

-- ---- faults

abbrev pub IsFault : Kinds → Type 0
IsFault [] = ⊥
IsFault (k ∷ ks) = Unit {0}

pub fault-first : (a b : Kinds) → IsFault a → IsFault (or_else a b)
fault-first [] b h = absurd h
fault-first (k ∷ ks) b h = tt

pub fault-second : (a b : Kinds) → IsFault b → IsFault (or_else a b)
fault-second [] b h = h
fault-second (k ∷ ks) b h = tt

pub or_else-nil : (a : Kinds) → or_else a [] ≡ a
or_else-nil [] = refl
or_else-nil (k ∷ ks) = refl

-- an argument that may be used once fails where it has a row
abbrev pub repeated : Bool → Kinds
repeated b = cond (b && true) (ArgumentConflict ∷ []) []

repeat-is : (id : Text) (rows : List Row) → repeat_fault false id rows ≡ repeated (is_some (row_of_id id rows))
repeat-is id rows = ap repeated (has_row-is id rows)

pub first_fault-is : (rows : List Row) → use_fault false first_arg [] rows ≡ repeated (is_some (row_of_id (codes "first") rows))
first_fault-is rows = or_else-nil (repeat_fault false (codes "first") rows) ∙ repeat-is (codes "first") rows

pub limit_fault-is : (l : Limit) (v : Text) (rows : List Row) → use_fault false (limit_arg l) (v ∷ []) rows ≡ repeated (is_some (row_of_id (name_of l) rows))
limit_fault-is Budget v rows = or_else-nil (repeat_fault false (codes "budget") rows) ∙ repeat-is (codes "budget") rows
limit_fault-is Depth v rows = or_else-nil (repeat_fault false (codes "depth") rows) ∙ repeat-is (codes "depth") rows
