-- What is typed has values: the clauses of files, and the query.
use Rattle.std.proofs.Common.{ℕ, suc, List, [], ◌∷◌, ◌++◌, map, length, Option, Some, None}
use Rattle.mc_source.specs.declared.place.Place.{Place}
use Rattle.mc_program.specs.Programs.{Source}
use Rattle.mc_term_data.specs.Plain.{PlainTerm}
use Rattle.mc_decl_syntax.specs.Plain.{PlainDecl, Clause}
use Rattle.mc_defs_uses.specs.Clauses.{clause_of}
use Rattle.mc_decl_syntax.specs.Entries.{File}
use Rattle.mc_names.specs.Linked.{Linked}
use Rattle.mc_state_variables.specs.Numbered.{numbered_clause, numbered_goal}
use Rattle.mc_type_phase.specs.Typing.{ModuleClause, clause_predicate, module_clauses, clauses_from}
use Rattle.mc_type_phase.specs.Typing as T
use Rattle.mc_type_phase.specs.Items.{Item, clause_item, query_item}
use Rattle.laws_types.specs.ClauseLaws.{IsOfValues}
use Rattle.laws_types.proofs.Clauses.{clauses_have_values}
use Rattle.laws_types.specs.JudgedPrograms.{EachHasValues}
use Rattle.laws_sources.specs.ReadValues.{ItemIsOfValues, FileIsOfValues, FilesAreOfValues, GoalIsOfValues, ItemsHaveValues}
use Rattle.laws_sources.proofs.Numbered.{numbered_clause_good, numbered_goal_good}

joined_values : (is js : List Item) → EachHasValues is → EachHasValues js → EachHasValues (is ++ js)
joined_values [] js h k = k
joined_values (i ∷ is) js h k = (h.0, joined_values is js h.1 k)

module _ (P : Source) where
  abbrev pub TermsAreOfValues : List ModuleClause → Type 0
  TermsAreOfValues [] = Unit {0}
  TermsAreOfValues (c ∷ cs) = IsOfValues P c.term × TermsAreOfValues cs

  joined_terms : (cs ds : List ModuleClause) → TermsAreOfValues cs → TermsAreOfValues ds → TermsAreOfValues (cs ++ ds)
  joined_terms [] ds h k = k
  joined_terms (c ∷ cs) ds h k = (h.0, joined_terms cs ds h.1 k)

  item_terms : (own : ℕ) (o : Option ℕ) (i : PlainDecl) (at : Place) → ItemIsOfValues P i → TermsAreOfValues (T.clause_item own o i at)
  item_terms own (Some p) (Clause t) at h = (h, tt)
  item_terms own _ i at h = tt

  file_terms : (l : Linked) (own : ℕ) (f : File) → FileIsOfValues P f → TermsAreOfValues (module_clauses l own f)
  file_terms l own [] h = tt
  file_terms l own ((i, at) ∷ es) h =
      joined_terms (T.clause_item own (clause_predicate l own (clause_of i)) i at) (module_clauses l own es) (item_terms own (clause_predicate l own (clause_of i)) i at h.0) (file_terms l own es h.1)

  pub files_terms : (l : Linked) (own : ℕ) (fs : List File) → FilesAreOfValues P fs → TermsAreOfValues (clauses_from l own fs)
  files_terms l own [] h = tt
  files_terms l own (f ∷ fs) h = joined_terms (module_clauses l own f) (clauses_from l (suc own) fs) (file_terms l own f h.0) (files_terms l (suc own) fs h.1)

clauses_values : (l : Linked) (cs : List ModuleClause) → ((P : Source) → TermsAreOfValues P cs) → EachHasValues (map (clause_item l) cs)
clauses_values l [] h = tt
clauses_values l (c ∷ cs) h =
    (λ P. (clauses_have_values P l c.own c.pred (numbered_clause c.term) (numbered_clause_good P c.term (h P).0)).0, clauses_values l cs (λ P. (h P).1))

query_values : (l : Linked) (number : ℕ) (goal : Option PlainTerm) → ((P : Source) → GoalIsOfValues P goal) → EachHasValues (query_item l number goal)
query_values l number None h = tt
query_values l number (Some goal) h =
    (λ P. (clauses_have_values P l 0 (length l.preds) (numbered_goal goal) (numbered_goal_good P goal (h P))).1, tt)

pub items_have_values : ItemsHaveValues
items_have_values l files number goal h k =
    joined_values (map (clause_item l) (clauses_from l 0 files)) (query_item l number goal) (clauses_values l (clauses_from l 0 files) (λ P. files_terms P l 0 files (h P))) (query_values l number goal k)
