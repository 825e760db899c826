-- The clauses that a text is read as have values, and so has the goal of a query.
use Rattle.std.proofs.Common.{◌≡◌, inl, inr, ℕ, List, ◌∷◌, None, sym, subst}
use Rattle.mc_program.specs.Programs.{Source}
use Rattle.mc_term_parser.specs.Tree.{Tree, too_large, term}
use Rattle.mc_terms.specs.Answers.{ItemReads}
use Rattle.mc_items.specs.Verdicts.{PlainVerdict, kept, breaks}
use Rattle.mc_items.specs.Files.{IsItem, Items, over, item, kept_in}
use Rattle.laws_types.specs.ClauseLaws.{IsOfValues}
use Rattle.laws_sources.specs.ReadValues.{FileIsOfValues, ClausesAreOfValues, GoalsAreOfValues}
use Rattle.laws_sources.proofs.Texts.{item_texts}
use Rattle.laws_sources.proofs.Values.{tree_values}
use Rattle.laws_sources.proofs.Declared.{VerdictIsOfValues, judged_values}

read_values : (P : Source) (text : List ℕ) (from : ℕ) (t : Tree) (next : ℕ) → ItemReads text from t next → too_large t ≡ None → IsOfValues P (term t)
read_values P text from t next reads held = tree_values P t (item_texts text from t next reads) held

item_values : (P : Source) (text : List ℕ) (from line next : ℕ) (v : PlainVerdict) → IsItem text from v line next → VerdictIsOfValues P v
item_values P text from line next v (inl r) = subst (VerdictIsOfValues P) (sym r.is) (judged_values P (term r.tree) (read_values P text from r.tree next r.reads r.held))
item_values P text from line next v (inr u) = subst (VerdictIsOfValues P) (sym u.is) tt

kept_values : (P : Source) (file line : ℕ) (v : PlainVerdict) (vs : List (PlainVerdict × ℕ)) → VerdictIsOfValues P v → FileIsOfValues P (kept_in file vs) → FileIsOfValues P (kept_in file ((v, line) ∷ vs))
kept_values P file line (kept i) vs h k = (h, k)
kept_values P file line (breaks rule what) vs h k = k

items_values : (P : Source) (file : ℕ) {text : List ℕ} {place : ℕ} {vs : List (PlainVerdict × ℕ)} → Items text place vs → FileIsOfValues P (kept_in file vs)
items_values P file (over o) = tt
items_values P file (item {text = text} {from = from} {line = line} {next = next} {v = v} {vs = vs} i rest) =
    kept_values P file line v vs (item_values P text from line next v i) (items_values P file rest)

pub clauses_are_of_values : ClausesAreOfValues
clauses_are_of_values P text place file verdicts h = items_values P file h

pub goals_are_of_values : GoalsAreOfValues
goals_are_of_values P text goal h =
    let r = h.reads in
    subst (IsOfValues P) (sym r.4) (read_values P text 0 r.0 h.next r.1 r.2)
