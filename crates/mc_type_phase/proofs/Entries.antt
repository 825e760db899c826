-- The clause that an item of a file is, where it is one.
use Rattle.std.proofs.Common.{◌≡◌, ℕ, List, [], ◌∷◌, ◌++◌, Some, None, map, refl, sym, ap, ◌∙◌}
use Rattle.std.specs.Prelude.{Option}
use Rattle.std.proofs.lemmas.List.{append-nil, append_assoc, map-append}
use Rattle.mc_term_data.specs.Plain.{PlainTerm}
use Rattle.mc_term_data.specs.declared.term.Term.{Term}
use Rattle.mc_source.specs.declared.place.Place.{Place}
use Rattle.mc_source.specs.declared.name.Candidate.{Candidate}
use Rattle.mc_source.specs.declared.name.Candidate.TheVariants as C
use Rattle.mc_decl_syntax.specs.declared.item.Decl.{Decl}
use Rattle.mc_decl_syntax.specs.declared.item.Decl.TheVariants as D
use Rattle.mc_decl_syntax.specs.Plain.{PlainDecl, Clause, plain_item}
use Rattle.mc_defs_uses.specs.Clauses.{clause_of}
use Rattle.mc_names.specs.declared.definition.Kind.{Kind}
use Rattle.mc_names.specs.declared.definition.Kind.TheVariants as K
use Rattle.mc_decl_syntax.specs.declared.entry.Entry.{Entry}
use Rattle.mc_decl_syntax.specs.Entries.{plain_entry}
use Rattle.mc_names.specs.Linked.{Linked}
use Rattle.mc_type_phase.specs.Typing.{clause_item, clause_predicate, number_among, module_clauses}
use Rattle.mc_type_phase.specs.Items.{Item, clause_item as item_of}
use Rattle.mc_type_phase.specs.code.Adding.{entry_clauses, number_as}

pub clause_there :
    (l : Linked) (own : ℕ) (i : PlainDecl) (t : PlainTerm) (at : Place) (p : ℕ)
    → i ≡ Clause t → clause_predicate l own (clause_of i) ≡ Some p
    → entry_clauses l own (i, at) ≡ record { own = own; pred = p; term = t; at = at } ∷ []
clause_there l own i t at p is number =
    ap (λ (n : Option ℕ). clause_item own n i at) number
    ∙ ap (λ (j : PlainDecl). clause_item own (Some p) j at) is

pub clause_of_none :
    (l : Linked) (own : ℕ) (i : PlainDecl) (at : Place)
    → clause_predicate l own (clause_of i) ≡ None → entry_clauses l own (i, at) ≡ []
clause_of_none l own i at number = ap (λ (n : Option ℕ). clause_item own n i at) number

pub no_clause :
    (l : Linked) (own : ℕ) (d : Decl) (at : Place)
    → ((t : Term) → d ≡ D.Clause t → ⊥) → entry_clauses l own (plain_item d, at) ≡ []
no_clause l own (D.Clause t) at other = absurd (other t refl)
no_clause l own d at other = refl

-- the clauses of a file's items, step by step
pub items_more :
    (l : Linked) (own : ℕ) (before after : List Entry) (e : Entry) (done all : List Item)
    → before ≡ e ∷ after
    → done ++ map (item_of l) (module_clauses l own (map plain_entry before)) ≡ all
    → (done ++ map (item_of l) (entry_clauses l own (plain_entry e)))
    ++ map (item_of l) (module_clauses l own (map plain_entry after))
    ≡ all
items_more l own before after e done all split so =
    append_assoc done (map (item_of l) (entry_clauses l own (plain_entry e)))
    (map (item_of l) (module_clauses l own (map plain_entry after)))
    ∙ ap (λ (xs : List Item). done ++ xs)
    (sym
    (map-append (item_of l) (entry_clauses l own (plain_entry e))
    (module_clauses l own (map plain_entry after))))
    ∙ ap
    (λ (es : List Entry). done ++ map (item_of l) (module_clauses l own (map plain_entry es)))
    (sym split)
    ∙ so

pub items_all :
    (l : Linked) (own : ℕ) (rest : List Entry) (done all : List Item)
    → rest ≡ []
    → done ++ map (item_of l) (module_clauses l own (map plain_entry rest)) ≡ all → done ≡ all
items_all l own rest done all none so =
    sym (append-nil done)
    ∙ ap
    (λ (es : List Entry). done ++ map (item_of l) (module_clauses l own (map plain_entry es)))
    (sym none)
    ∙ so

-- the first of candidates that has a number
pub first_number :
    (k : Kind) (c : Candidate) (cs : List Candidate) (p : ℕ)
    → number_as k c ≡ Some p → number_among k (c ∷ cs) ≡ Some p
first_number K.Pred (C.Pred q) cs p e = e
first_number K.Func (C.Func q) cs p e = e
first_number K.Pred (C.Con q) cs p e = absurd (let clash : None ≡ Some p = e in cc)
first_number K.Pred (C.Func q) cs p e = absurd (let clash : None ≡ Some p = e in cc)
first_number K.Pred (C.Char q) cs p e = absurd (let clash : None ≡ Some p = e in cc)
first_number K.Func (C.Con q) cs p e = absurd (let clash : None ≡ Some p = e in cc)
first_number K.Func (C.Pred q) cs p e = absurd (let clash : None ≡ Some p = e in cc)
first_number K.Func (C.Char q) cs p e = absurd (let clash : None ≡ Some p = e in cc)
first_number k c cs p e = absurd (let clash : None ≡ Some p = e in cc)

pub other_number :
    (k : Kind) (c : Candidate) (cs : List Candidate)
    → number_as k c ≡ None → number_among k (c ∷ cs) ≡ number_among k cs
other_number K.Pred (C.Pred q) cs e = absurd (let clash : Some q ≡ None = e in cc)
other_number K.Func (C.Func q) cs e = absurd (let clash : Some q ≡ None = e in cc)
other_number k c cs e = refl
