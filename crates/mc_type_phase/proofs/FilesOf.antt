-- The clauses of files, one file behind another.
use Rattle.std.proofs.Common.{◌≡◌, ℕ, suc, ◌+◌, List, [], ◌∷◌, ◌++◌, map, sym, ap, ◌∙◌, arith}
use Rattle.std.proofs.lemmas.List.{append-nil, append_assoc, map-append}
use Rattle.mc_decl_syntax.specs.declared.entry.Entry.{Entry}
use Rattle.mc_decl_syntax.specs.Entries.{plain_entry, plain_files}
use Rattle.mc_names.specs.Linked.{Linked}
use Rattle.mc_type_phase.specs.Typing.{module_clauses, clauses_from}
use Rattle.mc_type_phase.specs.Items.{Item, clause_item}

-- the items of the files from one on
abbrev pub items_from : Linked → (own : ℕ) → List (List Entry) → List Item
items_from l own fs = map (clause_item l) (clauses_from l own (plain_files fs))

pub files_more :
    (l : Linked) (own next : ℕ) (before after : List (List Entry)) (f : List Entry)
    (done all : List Item)
    → before ≡ f ∷ after → next ≡ own + 1 → done ++ items_from l own before ≡ all
    → (done ++ map (clause_item l) (module_clauses l own (map plain_entry f)))
    ++ items_from l next after
    ≡ all
files_more l own next before after f done all split behind so =
    let up : next ≡ suc own = omega arith in
    append_assoc done (map (clause_item l) (module_clauses l own (map plain_entry f)))
    (items_from l next after)
    ∙ ap
    (λ n.
    done ++ (map (clause_item l) (module_clauses l own (map plain_entry f)) ++ items_from l n after))
    up
    ∙ ap (λ (xs : List Item). done ++ xs)
    (sym
    (map-append (clause_item l) (module_clauses l own (map plain_entry f))
    (clauses_from l (suc own) (plain_files after))))
    ∙ ap (λ (fs : List (List Entry)). done ++ items_from l own fs) (sym split)
    ∙ so

pub files_all :
    (l : Linked) (own : ℕ) (rest : List (List Entry)) (done all : List Item)
    → rest ≡ [] → done ++ items_from l own rest ≡ all → done ≡ all
files_all l own rest done all none so =
    sym (append-nil done)
    ∙ ap (λ (fs : List (List Entry)). done ++ items_from l own fs) (sym none)
    ∙ so
