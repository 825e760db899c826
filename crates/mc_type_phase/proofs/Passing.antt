-- Files without clauses, and what is left of others once their clauses are given up.
use Rattle.std.proofs.Common.{◌≡◌, ℕ, ◌+◌, ◌<◌, ◌≤◌, Bool, true, false, List, [], ◌∷◌, ◌++◌, map, length, get_or, drop, refl, sym, ap, subst, ◌∙◌}
use Rattle.std.specs.Prelude.{if◌then◌else◌}
use Rattle.std.proofs.lemmas.List.{append-nil, append_assoc, map-append, drop_more, drop_all}
use Rattle.mc_source.specs.declared.place.Place.{Place}
use Rattle.mc_decl_syntax.specs.Plain.{PlainDecl, Clause, plain_item}
use Rattle.mc_defs_uses.specs.Clauses.{clause_of}
use Rattle.mc_decl_syntax.specs.declared.entry.Entry.{Entry}
use Rattle.mc_decl_syntax.specs.Entries.{plain_entry, File, plain_files}
use Rattle.mc_names.specs.Linked.{Linked}
use Rattle.mc_type_phase.specs.Typing.{ModuleClause, clause_item, clause_predicate, module_clauses}
use Rattle.mc_type_phase.specs.Items.{is_clause, without_clauses}

-- an item that is no clause adds none
pub no_clause_of :
    (l : Linked) (own : ℕ) (i : PlainDecl) (at : Place)
    → is_clause i ≡ false → clause_item own (clause_predicate l own (clause_of i)) i at ≡ []
no_clause_of l own (Clause t) at e = cc
no_clause_of l own i at e = refl

pub none_before :
    (file : List Entry) (k : ℕ) (e : Entry) (l : Linked) (own : ℕ)
    → k < length file → e ≡ get_or file k e → is_clause (plain_item e.decl) ≡ false
    → module_clauses l own (map plain_entry (drop (k + 1) file)) ≡ []
    → module_clauses l own (map plain_entry (drop k file)) ≡ []
none_before file k e l own below is other none =
    let rest = drop (k + 1) file in
    let split : drop k file ≡ e ∷ rest =
    drop_more file k e below ∙ ap (λ (x : Entry). x ∷ rest) (sym is)
    in
    ap (λ (es : List Entry). module_clauses l own (map plain_entry es)) split
    ∙ ap (λ (cs : List ModuleClause). cs ++ module_clauses l own (map plain_entry rest))
    (no_clause_of l own (plain_item e.decl) e.at other)
    ∙ none

pub none_at_end :
    (file : List Entry) (k : ℕ) (l : Linked) (own : ℕ)
    → length file ≤ k → module_clauses l own (map plain_entry (drop k file)) ≡ []
none_at_end file k l own past =
    ap (λ (es : List Entry). module_clauses l own (map plain_entry es)) (drop_all k file past)

-- an item that is no clause is left
other_left :
    (e : PlainDecl × Place) (es : File)
    → is_clause e.0 ≡ false → without_clauses (e ∷ es) ≡ e ∷ without_clauses es
other_left e es other =
    ap (λ (b : Bool). if b then without_clauses es else e ∷ without_clauses es) other

-- of a file without clauses all items are left
pub all_left_before :
    (file : List Entry) (k : ℕ) (e : Entry)
    → k < length file → e ≡ get_or file k e → is_clause (plain_item e.decl) ≡ false
    → without_clauses (map plain_entry (drop (k + 1) file)) ≡ map plain_entry (drop (k + 1) file)
    → without_clauses (map plain_entry (drop k file)) ≡ map plain_entry (drop k file)
all_left_before file k e below is other all =
    let rest = drop (k + 1) file in
    let split : drop k file ≡ e ∷ rest =
    drop_more file k e below ∙ ap (λ (x : Entry). x ∷ rest) (sym is)
    in
    let AllLeft : List Entry → Type 0 =
    λ es. without_clauses (map plain_entry es) ≡ map plain_entry es
    in
    subst AllLeft (sym split)
    (other_left (plain_entry e) (map plain_entry rest) other
    ∙ ap (λ (es : File). plain_entry e ∷ es) all)

pub all_left_at_end :
    (file : List Entry) (k : ℕ)
    → length file ≤ k
    → without_clauses (map plain_entry (drop k file)) ≡ map plain_entry (drop k file)
all_left_at_end file k past =
    let AllLeft : List Entry → Type 0 =
    λ es. without_clauses (map plain_entry es) ≡ map plain_entry es
    in
    subst AllLeft (sym (drop_all k file past)) refl

-- WHAT IS LEFT, step by step: nothing of a clause,
pub clause_left_out :
    (e : PlainDecl × Place) (done : File)
    → is_clause e.0 ≡ true → done ≡ done ++ without_clauses (e ∷ [])
clause_left_out e done is =
    sym (append-nil done) ∙ ap (λ (b : Bool). done ++ (if b then [] else e ∷ [])) (sym is)

-- and another item as it is
pub entry_left :
    (e : Entry) (old new : List Entry)
    → is_clause (plain_item e.decl) ≡ false → new ≡ old ++ e ∷ []
    → map plain_entry new ≡ map plain_entry old ++ without_clauses (plain_entry e ∷ [])
entry_left e old new other put =
    ap (map plain_entry) put
    ∙ map-append plain_entry old (e ∷ [])
    ∙ ap (λ (es : File). map plain_entry old ++ es) (sym (other_left (plain_entry e) [] other))

one_more : (e : PlainDecl × Place) (es : File) → without_clauses (e ∷ []) ++ without_clauses es ≡ without_clauses (e ∷ es)
one_more e es = by (is_clause e.0)
  where
    by :
        (b : Bool)
        → (if b then [] else e ∷ []) ++ without_clauses es
        ≡ (if b then without_clauses es else e ∷ without_clauses es)
    by true = refl
    by false = refl

pub left_more :
    (e : PlainDecl × Place) (before after done next all : File)
    → before ≡ e ∷ after → next ≡ done ++ without_clauses (e ∷ [])
    → done ++ without_clauses before ≡ all → next ++ without_clauses after ≡ all
left_more e before after done next all split put so =
    ap (λ (es : File). es ++ without_clauses after) put
    ∙ append_assoc done (without_clauses (e ∷ [])) (without_clauses after)
    ∙ ap (λ (es : File). done ++ es) (one_more e after ∙ ap without_clauses (sym split))
    ∙ so

pub left_all :
    (rest done all : File) → rest ≡ [] → done ++ without_clauses rest ≡ all → done ≡ all
left_all rest done all none so =
    sym (append-nil done)
    ∙ ap (λ (es : File). done ++ without_clauses es) (sym none)
    ∙ so

-- the same of files
pub files_left_more :
    (before after old new : List (List Entry)) (f g : List Entry) (all : List File)
    → before ≡ f ∷ after → new ≡ old ++ g ∷ []
    → map plain_entry g ≡ without_clauses (map plain_entry f)
    → plain_files old ++ map without_clauses (plain_files before) ≡ all
    → plain_files new ++ map without_clauses (plain_files after) ≡ all
files_left_more before after old new f g all split put left so =
    let rest = map without_clauses (plain_files after) in
    ap (λ (fs : List (List Entry)). plain_files fs ++ rest) put
    ∙ ap (λ (fs : List File). fs ++ rest) (map-append (map plain_entry) old (g ∷ []))
    ∙ append_assoc (plain_files old) (map plain_entry g ∷ []) rest
    ∙ ap (λ (h : File). plain_files old ++ h ∷ rest) left
    ∙ ap (λ (fs : List (List Entry)). plain_files old ++ map without_clauses (plain_files fs))
    (sym split)
    ∙ so

pub files_left_all :
    (rest done : List (List Entry)) (all : List File)
    → rest ≡ [] → plain_files done ++ map without_clauses (plain_files rest) ≡ all
    → plain_files done ≡ all
files_left_all rest done all none so =
    sym (append-nil (plain_files done))
    ∙ ap (λ (fs : List (List Entry)). plain_files done ++ map without_clauses (plain_files fs))
    (sym none)
    ∙ so
