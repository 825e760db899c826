-- Files with the library's modules behind them are some.
use Rattle.std.proofs.lemmas.List.{length-map}
use Rattle.std.proofs.Common.{◌≡◌, ℕ, suc, ◌+◌, ◌<◌, List, [], ◌∷◌, map, length, refl, ap, sym, ◌∙◌, arith, length-append}
use Rattle.mc_decl_syntax.specs.declared.entry.Entry.{Entry}
use Rattle.mc_decl_syntax.specs.Entries.{plain_entry, File, plain_files}
use Rattle.mc_compile.specs.Library.{library_texts}
use Rattle.mc_compile.specs.Reading.{Reading, FilesRead, counted, items_from}
use Rattle.mc_compile.specs.code.Reader.{IsWithLibrary}

abbrev plain_entries : List Entry → File
plain_entries es = map plain_entry es

length-items_from : (k : ℕ) (rs : List Reading) → length (items_from k rs) ≡ length rs
length-items_from k [] = refl
length-items_from k (r ∷ rs) = ap suc (length-items_from (k + 1) rs)

length-readings : (n : ℕ) (ts : List (List ℕ)) (rs : List Reading) → FilesRead n ts rs → length rs ≡ length ts
length-readings n [] [] c = refl
length-readings n (t ∷ ts) (r ∷ rs) c = ap suc (length-readings (n + counted t) ts rs c.1)
length-readings n [] (r ∷ rs) c = absurd c
length-readings n (t ∷ ts) [] c = absurd c

whole : (given all : List (List Entry)) (w : IsWithLibrary library_texts given all) → length all ≡ length (plain_files given) + 9
unfolding library_texts
whole given all w =
    sym (length-map all plain_entries)
    ∙ ap length w.items
    ∙ length-append (plain_files given) (items_from (length (plain_files given) + 1) w.modules)
    ∙ ap (λ n. length (plain_files given) + n) (length-items_from (length (plain_files given) + 1) w.modules ∙ length-readings 0 library_texts w.modules w.is_library.read)

some : (n m : ℕ) → m ≡ n + 9 → 0 < m
some n m e = omega (arith, e)

pub some_files : (given all : List (List Entry)) → IsWithLibrary library_texts given all → 0 < length all
some_files given all w = some (length (plain_files given)) (length all) (whole given all w)
