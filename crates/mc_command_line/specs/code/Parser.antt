-- The parser of the words behind a command's, in clap's terms, and what is read of its matches.
use Rattle.std.specs.Prelude.{◌≡◌, Bool, true, false, List, [], Option, Some, None, codes, option_map, unwrap_or}
use Rattle.clap.specs.Values.{bool_text}
use Rattle.clap.specs.Walk.{Row, Rule, Text, all_of, first_of, one_of}
use Rattle.clap.specs.Simple.{App, new_app, new_rule, on_top, with_rule}
use Rattle.clap.specs.declared.builder.action.ArgAction.TheVariants.{Append, Set, SetTrue}
use Rattle.mc_command_line.specs.Plain.{plain_text, plain_texts}
use Rattle.mc_command_line.specs.Words.{Options, Spoken}
use Rattle.mc_command_line.specs.declared.parser.Options.{Options as ParserOptions}
use Rattle.mc_command_line.specs.declared.parser.Spoken.{Spoken as ParserSpoken}

abbrev pub plain_options : ParserOptions → Options
plain_options o = record { first = o.first; bounds = o.bounds }

abbrev pub plain_spoken : ParserSpoken → Spoken
plain_spoken s = record {
  first = s.first;
  budget = option_map plain_text s.budget;
  depth = option_map plain_text s.depth;
  rest = plain_texts s.rest.items;
}

abbrev pub first_rule : Rule
first_rule =
    record (new_rule (codes "first")) { long = Some (codes "first"); action = Some SetTrue }

abbrev pub limit_rule : Text → Rule
limit_rule name = record (new_rule name) { long = Some name; action = Some Set }

-- the words that are no options
abbrev pub words_rule : Rule
words_rule = record (new_rule (codes "words")) { action = Some Append }

-- a parser without arguments, help or version, whose words are all arguments
abbrev pub no_arguments : App
no_arguments =
    on_top
    (λ s.
    record s { no_binary_name = true; disable_help_flag = true; disable_version_flag = true })
    (new_app (codes "merc"))

abbrev pub with_first_rule : Bool → App → App
with_first_rule true a = with_rule a first_rule
with_first_rule false a = a

abbrev pub with_limit_rules : Bool → App → App
with_limit_rules true a =
    with_rule (with_rule a (limit_rule (codes "budget"))) (limit_rule (codes "depth"))
with_limit_rules false a = a

abbrev pub app : Options → App
app o = with_rule (with_limit_rules o.bounds (with_first_rule o.first no_arguments)) words_rule

-- the text of a flag's value; none where the command has no such flag
abbrev pub IsFlag : Bool → Option Text → Type 0
IsFlag flag None = flag ≡ false
IsFlag flag (Some text) = text ≡ bool_text flag

-- what was spoken, as the getters of the matches read it
pub record IsFound (s : Spoken) (rows : List Row) : Type 0 where
  pub first : IsFlag s.first (one_of (codes "first") rows)
  pub budget : first_of (codes "budget") rows ≡ s.budget
  pub depth : first_of (codes "depth") rows ≡ s.depth
  pub rest : unwrap_or (all_of (codes "words") rows) [] ≡ s.rest
