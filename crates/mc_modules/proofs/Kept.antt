-- What is kept of each file, by its number.
use Rattle.std.proofs.Common.{◌≡◌, ℕ, ◌+◌, ◌<◌, ◌≤◌, suc, zero, Bool, true, false, cond, nat_eq, List, [], ◌∷◌, map, length, get_or, refl, ap, sym, ◌∙◌, arith}
use Rattle.std.proofs.lemmas.List.{get_or-map, length-map}
use Rattle.mc_names.specs.declared.definition.Kind.{Kind}
use Rattle.mc_names.specs.declared.definition.Kind.TheVariants as K
use Rattle.mc_names.specs.Plain.{PlainNameArity}
use Rattle.mc_decl_syntax.specs.declared.entry.Entry.{Entry}
use Rattle.mc_decl_syntax.specs.Entries.{plain_entry, File, plain_files}
use Rattle.mc_modules.specs.declared.visibility.Visibility.{Visibility}
use Rattle.mc_modules.specs.declared.table.Table.{Table}
use Rattle.mc_modules.specs.Files.{PlainItemInFile, items_in_file, definitions_of, shown_of, has}
use Rattle.mc_modules.specs.Visible.{file_at, has_definition}
use Rattle.mc_modules.specs.Visibilities.{visibility}
use Rattle.mc_modules.specs.code.Visibilities.{visibilities_from}
use Rattle.mc_modules.specs.declared.item_in_file.ItemInFile.{ItemInFile}
use Rattle.mc_modules.specs.Kept.{plain_item_in_file, table}
use Rattle.mc_modules.specs.code.Tables.{all_items, tables}
use Rattle.mc_modules.proofs.Tables.{has-set}

length-visibilities : (F : List File) (k : ℕ) (fs : List File) → length (visibilities_from F k fs) ≡ length fs
length-visibilities F k [] = refl
length-visibilities F k (f ∷ fs) = ap suc (length-visibilities F (k + 1) fs)

visibility-from : (F : List File) (k : ℕ) (fs : List File) (i j : ℕ) (d : Visibility) → i < length fs → k + i ≡ j → get_or (visibilities_from F k fs) i d ≡ visibility F j
visibility-from F k [] i j d h e = absurd (omega arith)
visibility-from F k (f ∷ fs) zero j d h e = let p : k ≡ j = omega (arith, e) in ap (visibility F) p
visibility-from F k (f ∷ fs) (suc i) j d h e = visibility-from F (k + 1) fs i j d (omega arith) (omega (arith, e))

-- as many visibilities and tables as files
pub visibilities-length : (files : List (List Entry)) (all : List Visibility) → all ≡ visibilities_from (plain_files files) 0 (plain_files files) → length all ≡ length files
visibilities-length files all e = ap length e ∙ length-visibilities (plain_files files) 0 (plain_files files) ∙ length-map files (map plain_entry)

pub visibility-at : (files : List (List Entry)) (all : List Visibility) (own : ℕ) (s : Visibility) → all ≡ visibilities_from (plain_files files) 0 (plain_files files) → own < length files → s ≡ get_or all own s → s ≡ visibility (plain_files files) own
visibility-at files all own s e h p =
    let l : own < length (plain_files files) = rw (length-map files (map plain_entry)) h in
    p ∙ ap (λ xs. get_or xs own s) e ∙ visibility-from (plain_files files) 0 (plain_files files) own own s l (omega arith)

length-items : (fs : List File) → length (all_items fs) ≡ length fs
length-items fs = length-map fs items_in_file

pub items-length : (files : List (List Entry)) (all : List (List ItemInFile)) → map (map plain_item_in_file) all ≡ all_items (plain_files files) → length all ≡ length files
items-length files all e = sym (length-map all (map plain_item_in_file)) ∙ ap length e ∙ length-items (plain_files files) ∙ length-map files (map plain_entry)

pub items-at : (files : List (List Entry)) (all : List (List ItemInFile)) (own : ℕ) (items : List ItemInFile) → map (map plain_item_in_file) all ≡ all_items (plain_files files) → own < length files → items ≡ get_or all own items
    → map plain_item_in_file items ≡ items_in_file (file_at (plain_files files) own)
items-at files all own items e h p =
    let n = items-length files all e in
    let k : own < length all = omega (arith, n, h) in
    let l : own < length (plain_files files) = rw (length-map files (map plain_entry)) h in
    ap (map plain_item_in_file) p ∙ sym (get_or-map (map plain_item_in_file) all own items [] k) ∙ ap (λ xs. get_or xs own []) e ∙ get_or-map items_in_file (plain_files files) own [] [] l

pub tables-length : (files : List (List Entry)) (all : List Table) → all ≡ tables (all_items (plain_files files)) → length all ≡ length files
tables-length files all e = ap length e ∙ length-map (all_items (plain_files files)) table ∙ length-items (plain_files files) ∙ length-map files (map plain_entry)

pub table-at : (files : List (List Entry)) (all : List Table) (own : ℕ) (t : Table) → all ≡ tables (all_items (plain_files files)) → own < length files → t ≡ get_or all own t → t ≡ table (items_in_file (file_at (plain_files files) own))
table-at files all own t e h p =
    let l : own < length (plain_files files) = rw (length-map files (map plain_entry)) h in
    let k : own < length (all_items (plain_files files)) = rw (length-items (plain_files files)) l in
    p ∙ ap (λ xs. get_or xs own t) e ∙ get_or-map table (all_items (plain_files files)) own [] t k ∙ ap table (get_or-map items_in_file (plain_files files) own [] [] l)

has-table : (k : Kind) (x : PlainNameArity) (b : Bool) (ss : List PlainItemInFile) → has k x (cond b (table ss).definitions (table ss).shown) ≡ has k x (cond b (definitions_of ss) (shown_of ss))
has-table k x true ss = has-set k x (definitions_of ss)
has-table k x false ss = has-set k x (shown_of ss)

-- a file's table has what the file has
pub has-at : (files : List (List Entry)) (own k : ℕ) (kind : Kind) (x : PlainNameArity) (t : Table) → t ≡ table (items_in_file (file_at (plain_files files) k))
    → has kind x (cond (nat_eq own k) t.definitions t.shown) ≡ has_definition (plain_files files) own kind x k
has-at files own k kind x t e = ap (λ s. has kind x (cond (nat_eq own k) s.definitions s.shown)) e ∙ has-table kind x (nat_eq own k) (items_in_file (file_at (plain_files files) k))

no_file : (fs : List File) (k : ℕ) → length fs ≤ k → file_at fs k ≡ []
no_file [] k h = refl
no_file (f ∷ fs) zero h = absurd (omega arith)
no_file (f ∷ fs) (suc k) h = no_file fs k (omega arith)

nothing : (k : Kind) (x : PlainNameArity) → has k x [] ≡ false
nothing K.DefinedType x = refl
nothing k x = refl

has_nothing : (kind : Kind) (x : PlainNameArity) (b : Bool) → has kind x (cond b [] []) ≡ false
has_nothing kind x true = nothing kind x
has_nothing kind x false = nothing kind x

-- a file that isn't there has nothing
pub has-nowhere : (files : List (List Entry)) (own k : ℕ) (kind : Kind) (x : PlainNameArity) → length files ≤ k → false ≡ has_definition (plain_files files) own kind x k
has-nowhere files own k kind x h =
    let l : length (plain_files files) ≤ k = rw (length-map files (map plain_entry)) h in
    sym (ap (λ f. has kind x (cond (nat_eq own k) (definitions_of (items_in_file f)) (shown_of (items_in_file f)))) (no_file (plain_files files) k l) ∙ has_nothing kind x (nat_eq own k))
