-- Files by their places.
use Rattle.std.proofs.Common.{◌≡◌, ℕ, suc, ◌+◌, ◌<◌, List, [], ◌∷◌, map, length, drop, refl, ap, sym, ◌∙◌, arith, add-one, drop-cons}
use Rattle.std.proofs.lemmas.List.{length-map, get_or-map}
use Rattle.mc_decl_syntax.specs.declared.entry.Entry.{Entry}
use Rattle.mc_decl_syntax.specs.Entries.{plain_entry, File, plain_files}
use Rattle.mc_names.specs.declared.names.Named.{Named}
use Rattle.mc_modules.specs.Files.{items_in_file, definitions_of}
use Rattle.mc_modules.specs.Visible.{file_at}
use Rattle.mc_names.specs.Linked.{Defined, plain_named}
use Rattle.mc_modules.specs.Linked.{each, numbered, before, symbols_of, preds_of, declared_from, scope, scopes_from}

length-each : (of : File → List Defined) (fs : List File) → length (each of fs) ≡ length fs
length-each of [] = refl
length-each of (f ∷ fs) = let e = length-each of fs in omega (arith, e)

-- a column has as many parts as there are files
pub as_many : (of : File → List Defined) (has : List (List Named)) (fs : List (List Entry)) → map (map plain_named) has ≡ each of (plain_files fs) → length has ≡ length fs
as_many of has fs e =
    let a = ap length e in
    let b = length-map has (map plain_named) in
    let c = length-each of (plain_files fs) in
    let d = length-map fs (map plain_entry) in omega (arith, a, b, c, d)

-- the files from one on are it and those behind it
pub files_there : (fs : List (List Entry)) (k : ℕ) → k < length fs → plain_files (drop k fs) ≡ file_at (plain_files fs) k ∷ plain_files (drop (k + 1) fs)
files_there fs k h =
    rw add-one (ap plain_files (drop-cons fs k [] h) ∙ ap (λ f. f ∷ plain_files (drop (suc k) fs)) (sym (get_or-map (map plain_entry) fs k [] [] h)))

-- what one file more has
pub each_more : (of : File → List Defined) (fs : List (List Entry)) (k : ℕ) → k < length fs
    → each of (plain_files (drop k fs)) ≡ of (file_at (plain_files fs) k) ∷ each of (plain_files (drop (k + 1) fs))
each_more of fs k h = ap (each of) (files_there fs k h)

-- the candidates of one file more
pub declared_more : (fs : List (List Entry)) (k c p : ℕ) → k < length fs → c ≡ before k (each symbols_of (plain_files fs)) → p ≡ before k (each preds_of (plain_files fs))
    → declared_from (plain_files fs) k (plain_files (drop k fs))
    ≡ numbered c p (definitions_of (items_in_file (file_at (plain_files fs) k))) ∷ declared_from (plain_files fs) (k + 1) (plain_files (drop (k + 1) fs))
declared_more fs k c p h x y = ap (declared_from (plain_files fs) k) (files_there fs k h) ∙ rw (x, y) refl

-- what one file more sees
pub scopes_more : (fs : List (List Entry)) (k : ℕ) → k < length fs
    → scopes_from (plain_files fs) k (plain_files (drop k fs)) ≡ scope (plain_files fs) k ∷ scopes_from (plain_files fs) (k + 1) (plain_files (drop (k + 1) fs))
scopes_more fs k h = ap (scopes_from (plain_files fs) k) (files_there fs k h)
