-- What an item is: an item of a form, or the first rule that it breaks (the Mercury manual: Items;
-- this project's rules).
use Rattle.std.specs.Prelude.{ℕ, Bool, true, false, List, Option, Some, None, if◌then◌else◌}
use Rattle.mc_term_data.specs.Plain.{PlainTerm}
use Rattle.mc_source.specs.declared.rule.Rule.{Rule}
use Rattle.mc_source.specs.declared.rule.Rule.TheVariants as R
use Rattle.mc_source.specs.Rules.{Fault}
use Rattle.mc_tokens.specs.declared.token.FaultKind.TheVariants as F
use Rattle.mc_terms.specs.declared.fault.ReadKind.{ReadKind}
use Rattle.mc_terms.specs.declared.fault.ReadKind.TheVariants as K
use Rattle.mc_items.specs.declared.reason.LeftOut.{LeftOut}
use Rattle.mc_items.specs.Reasons.{item_left_out}
use Rattle.mc_items.specs.UnsupportedWords.{of_token}
use Rattle.mc_clause_syntax.specs.Clauses.{is_clause}
use Rattle.mc_clause_syntax.specs.Limits.{too_many_arguments, too_many_variables}
use Rattle.mc_decl_syntax.specs.Plain.{PlainDecl, Clause}
use Rattle.mc_decl_syntax.specs.Terms.{declared_part}
use Rattle.mc_decl_syntax.specs.Declarations.{declaration}
use Rattle.mc_items.specs.Words as W

-- an item, or a rule that it breaks with what is said of it
pub data PlainVerdict : Type 0 where
  kept : PlainDecl → PlainVerdict
  breaks : Rule → (what : List ℕ) → PlainVerdict

-- the rule that is broken, where one is
abbrev pub rule_of : PlainVerdict → Option Fault
rule_of (kept i) = None
rule_of (breaks r w) = Some (r, w)

-- a declaration that has this form or none, and a name with too many arguments or not
abbrev pub declaration_verdict : (too_many : Bool) → Option PlainDecl → PlainVerdict
declaration_verdict too_many None = breaks R.S6 W.not_an_item
declaration_verdict too_many (Some i) =
    if too_many then breaks R.L3 W.too_many_arguments else kept i

abbrev pub clause_verdict : PlainTerm → PlainVerdict
clause_verdict t =
    if is_clause t
    then (if too_many_arguments true t then breaks R.L3 W.too_many_arguments
    else if too_many_variables t then breaks R.L4 W.too_many_variables
    else kept (Clause t))
    else breaks R.S6 W.not_an_item

-- A declaration stands behind `:-`, and anything else is a clause.
abbrev pub form_verdict : PlainTerm → Option PlainTerm → PlainVerdict
form_verdict t (Some d) = declaration_verdict (too_many_arguments false t) (declaration d)
form_verdict t None = clause_verdict t

abbrev pub unless_left_out : PlainTerm → Option LeftOut → PlainVerdict
unless_left_out t (Some form) = breaks R.X1 (W.left_out form)
unless_left_out t None = form_verdict t (declared_part t)

-- What an item is that is read as a term: what is left out comes first, then the form, then the
-- limits.
abbrev pub classify : PlainTerm → PlainVerdict
classify t = unless_left_out t (item_left_out t)

-- The rule that an item breaks which isn't read, with what is said of it, by the reader's fault and
-- the byte at its place. Want of memory breaks none.
abbrev pub unread : ReadKind → ℕ → Option Fault
unread (K.Token F.BadChar) b = Some (R.S1, W.bad_character)
unread (K.Token F.Unterminated) b = Some (R.S2, W.not_closed)
unread (K.Token F.IntTooLarge) b = Some (R.S3, W.out_of_range)
unread (K.Token F.NotUtf8) b = Some (R.S4, W.not_utf8)
unread (K.Token F.LeftOut) b = Some (R.X1, W.left_out (of_token b))
unread K.NotATerm b = Some (R.S5, W.not_a_term)
unread K.IntTooLarge b = Some (R.S3, W.out_of_range)
unread K.TooNested b = Some (R.L2, W.nested_too_deep)
unread K.Memory b = None
