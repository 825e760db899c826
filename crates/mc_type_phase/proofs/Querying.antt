-- The goal of a query as an item.
use Rattle.std.proofs.Common.{◌≡◌, ℕ, length, sym, ap, ◌∙◌}
use Rattle.std.proofs.lemmas.List.{length-map}
use Rattle.mc_term_data.specs.Plain.{PlainTerm, PlainNode, plain_term, node_step, term_step}
use Rattle.mc_term_data.specs.declared.term.Term.{Term}
use Rattle.mc_term_data.specs.declared.term.Node.TheFolds.{fold-roll-Term}
use Rattle.mc_source.specs.declared.place.Place.{Place}
use Rattle.mc_state_variables.specs.Numbered.{numbered_goal, line_of}
use Rattle.mc_names.specs.declared.names.Names.{Names}
use Rattle.mc_names.specs.Linked.{Linked, plain_names, plain_named}
use Rattle.mc_clauses.specs.Unresolved.{unresolved_query}

line_so : (t : Term) → t.line ≡ line_of (plain_term t)
line_so t =
    sym
    (ap line_of
    (fold-roll-Term PlainNode PlainTerm node_step term_step
    (record { node = t.node; line = t.line })))

pub place_so :
    (number : ℕ) (t : Term) (p q : Place)
    → p ≡ record { file = number; line = t.line }
    → q ≡ record { file = number; line = line_of (plain_term t) }
    → p ≡ q
place_so number t p q e f =
    let at : ℕ → Place = λ n. record { file = number; line = n } in
    e ∙ ap at (line_so t) ∙ sym f

-- as many predicates are named
pub count_so :
    (names : Names) (l : Linked) → plain_names names ≡ l
    → (pred : ℕ) → pred ≡ length names.preds → pred ≡ length l.preds
count_so names l e pred behind =
    behind
    ∙ sym (length-map names.preds plain_named)
    ∙ ap (λ (m : Linked). length m.preds) e

pub query_so :
    (names : Names) (l : Linked) (own pred : ℕ) (t u : PlainTerm)
    → plain_names names ≡ l → own ≡ 0 → pred ≡ length names.preds → u ≡ numbered_goal t
    → unresolved_query (plain_names names) own pred u
    ≡ unresolved_query l 0 (length l.preds) (numbered_goal t)
query_so names l own pred t u e first behind is =
    ap (λ (m : Linked). unresolved_query m own pred u) e
    ∙ ap (λ n. unresolved_query l n pred u) first
    ∙ ap (λ n. unresolved_query l 0 n u) (count_so names l e pred behind)
    ∙ ap (unresolved_query l 0 (length l.preds)) is
