-- What is made of a part of a clause, as its walk makes it.
use Rattle.std.specs.Prelude.{◌≡◌, ℕ, List, [], ◌∷◌, map}
use Rattle.mc_term_data.specs.Plain.{plain_term, term_list}
use Rattle.mc_term_data.specs.declared.term.Term.{Term}
use Rattle.mc_accepted.specs.Resolving.{Unresolved as PlainUnresolved, any_name, Unresolved_terms, no_terms, term_then}
use Rattle.mc_unresolved.specs.declared.term.Unresolved.{Unresolved}
use Rattle.mc_unresolved.specs.Unresolved.{plain_unresolved}
use Rattle.mc_names.specs.Linked.{plain_names, Linked}
use Rattle.mc_clauses.specs.Variables.{Numbers, Met}
use Rattle.mc_source.specs.declared.name.Candidate.{Candidate}
use Rattle.mc_decl_syntax.specs.Plain.{Path}
use Rattle.mc_names.specs.Definitions.{cell_path}
use Rattle.mc_clauses.specs.Unresolved.{Walk, two_terms, meanings, term_of, terms_of, in_turn}
use Rattle.mc_clauses.specs.declared.terms.Module.{Module}
use Rattle.mc_clauses.specs.declared.variables.Variables.{Variables}
use Rattle.mc_clauses.specs.code.Meanings.{Knows, KeepsHidden}

-- this is what a walk makes from what was met, and the variables are those that are met then
pub record Comes
    {B : Type 0} (q : Numbers) (m : Met) (it : B) (walked : B × Met) (after : Variables)
    : Type 0 where
  pub is : it ≡ walked.0
  pub knows : Knows q walked.1 after
  pub hidden : KeepsHidden q m walked.1

-- This is made from the variables before, and those after are known: it stands for what the walk
-- makes, under any quantifiers and after anything that was met.
abbrev pub Walked :
    {A B : Type 0} → (view : A → B) → Walk B → (before after : Variables) → A → Type 0
Walked view walk before after it =
    (q : Numbers) (m : Met) → Knows q m before → Comes q m (view it) (walk q m) after

-- the walks of terms in a module
abbrev pub term_walk : Module → Term → Walk PlainUnresolved
term_walk at t = term_of (plain_names at.names.now) at.own (plain_term t)

abbrev pub terms_walk : Module → List Term → Walk Unresolved_terms
terms_walk at ts =
    in_turn (terms_of (plain_names at.names.now) at.own (term_list (map plain_term ts)))

-- terms in front of others
abbrev pub in_front : List Unresolved → Unresolved_terms → Unresolved_terms
in_front [] ts = ts
in_front (u ∷ us) ts = term_then (plain_unresolved u) (in_front us ts)

-- Some of these terms are made, in order, and the rest is still to be walked.
pub record Taken
    (at : Module) (q : Numbers) (m : Met) (all rest : List Term) (done : List Unresolved)
    (now : Variables) : Type 0 where
  pub met : Met
  pub knows : Knows q met now
  pub hidden : KeepsHidden q m met
  pub is :
      terms_walk at all q m
      ≡ (in_front done (terms_walk at rest q met).0, (terms_walk at rest q met).1)

-- a name of these candidates over each term and what follows it
abbrev pub nested_over :
    List Candidate → List PlainUnresolved → (end : PlainUnresolved) → PlainUnresolved
nested_over cs [] end = end
nested_over cs (t ∷ ts) end = any_name cs (two_terms t (nested_over cs ts end))

-- a list of these elements before an end
abbrev pub cells_over :
    Linked → (own : ℕ) → List PlainUnresolved → (end : PlainUnresolved) → PlainUnresolved
cells_over l own ts end = nested_over (meanings l own cell_path 2) ts end

-- terms with a name between each two
abbrev pub joined_over : Linked → (own : ℕ) → Path → List PlainUnresolved → PlainUnresolved
joined_over l own w [] = any_name (meanings l own w 0) no_terms
joined_over l own w (t ∷ []) = t
joined_over l own w (t ∷ u ∷ us) =
    any_name (meanings l own w 2) (two_terms t (joined_over l own w (u ∷ us)))
