-- Which module a name means, and what each module sees, by one pass over the files.
use Rattle.std.proofs.Common.{◌≡◌, ℕ, zero, suc, ◌+◌, ◌-◌, ◌<◌, ◌≤◌, Bool, nat_eq, ◌||◌, true, false, cond, List, [], ◌∷◌, ◌++◌, map, drop, length, get_or, Option, Some, None, refl, ap, sym, ◌∙◌, arith, add-one, drop-cons, append_assoc}
use Rattle.std.specs.List.{list_any}
use Rattle.std.specs.Set.{is_member}
use Rattle.std.proofs.lemmas.Cmp.{nat_eq_equiv}
use Rattle.std.proofs.lemmas.List.{get_or-map, length-map}
use Rattle.mc_decl_syntax.specs.Plain.{Path, PlainDecl, Imports, UseOnly}
use Rattle.mc_decl_syntax.specs.declared.entry.Entry.{Entry}
use Rattle.mc_decl_syntax.specs.Entries.{plain_entry, File, plain_files}
use Rattle.mc_modules.specs.declared.section.Section.{Section}
use Rattle.mc_modules.specs.declared.section.Section.TheVariants as S
use Rattle.mc_modules.specs.Files.{items_in_file_from, module_name, module_names, section_after}
use Rattle.mc_names.specs.Plain.{joined}
use Rattle.mc_modules.specs.Visible.{has_name, first_named, or_first, module_of, with_module, with_modules, imported_by, used_by, imported, only_used, unqualified, seen, file_at}
use Rattle.mc_modules.specs.Visibilities.{visibility}
use Rattle.mc_modules.specs.code.Visibilities.{put_name, named_behind, imports, only_uses, with_named, with_named_in, visibilities_from}
use Rattle.mc_modules.specs.declared.visibility.Visibility.{Visibility}

pub same_functions : (f g : List ℕ → Option ℕ) → ((w : List ℕ) → f w ≡ g w) → f ≡ g
same_functions f g h = λ i w. h w i

named_behind-is : (k : ℕ) (ns : List (Option (List ℕ))) (f : List ℕ → Option ℕ) (w : List ℕ) → named_behind k ns f w ≡ or_first (first_named k w ns) (f w)
named_behind-is k [] f w = refl
named_behind-is k (n ∷ ns) f w = by (has_name w n) (named_behind-is (k + 1) ns f w)
  where
    by : (b : Bool) → named_behind (k + 1) ns f w ≡ or_first (first_named (k + 1) w ns) (f w) → cond b (Some k) (named_behind (k + 1) ns f w) ≡ or_first (cond b (Some k) (first_named (k + 1) w ns)) (f w)
    by true h = refl
    by false h = h

or_first-none : (x : Option ℕ) → or_first x None ≡ x
or_first-none None = refl
or_first-none (Some k) = refl

-- the names of all files, with the library's put in again
pub all_named : (files : List (List Entry)) (k : ℕ) (none first all : List ℕ → Option ℕ) → k ≡ length files - 9 → ((w : List ℕ) → none w ≡ None)
    → first ≡ named_behind 0 (module_names (plain_files files)) none → all ≡ named_behind k (drop k (module_names (plain_files files))) first → all ≡ module_of (plain_files files)
all_named files k none first all s h p q =
    q ∙ ap (named_behind k (drop k names)) p
    ∙ same_functions _ _
    (λ w. named_behind-is k (drop k names) (named_behind 0 names none) w
    ∙ ap (or_first (first_named k w (drop k names))) (named_behind-is 0 names none w ∙ ap (or_first (first_named 0 w names)) (h w) ∙ or_first-none (first_named 0 w names))
    ∙ ap (λ j. or_first (first_named j w (drop j names)) (first_named 0 w names)) (s ∙ ap (λ n. n - 9) (sym (length-map files (map plain_entry)))))
  where
    names : List (Option (List ℕ))
    names = module_names (plain_files files)

pub names_from : (files : List (List Entry)) (k : ℕ) (d : List Entry) → k < length files
    → drop k (module_names (plain_files files)) ≡ module_name (map plain_entry (get_or files k d)) ∷ drop (suc k) (module_names (plain_files files))
names_from [] k d h = absurd (omega arith)
names_from (f ∷ fs) zero d h = refl
names_from (f ∷ fs) (suc k) d h = names_from fs k d (omega arith)

pub file_at-is : (files : List (List Entry)) (k : ℕ) (d : List Entry) → k < length files → file_at (plain_files files) k ≡ map plain_entry (get_or files k d)
file_at-is files k d h = get_or-map (map plain_entry) files k d [] h

with_modules-is : (files : List File) (ws : List Path) (ks : List ℕ) → with_modules files ws ks ≡ with_named (module_of files) ws ks
with_modules-is files [] ks = refl
with_modules-is files (w ∷ ws) ks = with_modules-is files ws (with_module (module_of files (joined w)) ks)

imported_by-is : (files : List File) (i : PlainDecl) (ks : List ℕ) → imported_by files i ks ≡ with_named (module_of files) (imports i) ks
imported_by-is files (Imports ws) ks = with_modules-is files ws ks
imported_by-is files i ks = refl

used_by-is : (files : List File) (i : PlainDecl) (ks : List ℕ) → used_by files i ks ≡ with_named (module_of files) (only_uses i) ks
used_by-is files (UseOnly ws) ks = with_modules-is files ws ks
used_by-is files i ks = refl

imported-is : (files : List File) (b : Bool) (s : Section) (es : File) (ks : List ℕ) → imported files (items_in_file_from b s es) ks ≡ with_named_in imports (module_of files) es ks
imported-is files b s [] ks = refl
imported-is files b s (e ∷ es) ks =
    ap (λ js. imported files (items_in_file_from false (section_after s e.0) es) js) (imported_by-is files e.0 ks) ∙ imported-is files false (section_after s e.0) es (with_named (module_of files) (imports e.0) ks)

only_used-is : (files : List File) (b : Bool) (s : Section) (es : File) (ks : List ℕ) → only_used files (items_in_file_from b s es) ks ≡ with_named_in only_uses (module_of files) es ks
only_used-is files b s [] ks = refl
only_used-is files b s (e ∷ es) ks =
    ap (λ js. only_used files (items_in_file_from false (section_after s e.0) es) js) (used_by-is files e.0 ks) ∙ only_used-is files false (section_after s e.0) es (with_named (module_of files) (only_uses e.0) ks)

-- what a file imports, with its own module first
pub unqualified-is : (files : List (List Entry)) (own : ℕ) (d : List Entry) → own < length files
    → with_named_in imports (module_of (plain_files files)) (map plain_entry (get_or files own d)) (own ∷ []) ≡ unqualified (plain_files files) own
unqualified-is files own d h =
    sym (imported-is (plain_files files) true S.Nowhere (map plain_entry (get_or files own d)) (own ∷ []))
    ∙ ap (λ f. imported (plain_files files) (items_in_file_from true S.Nowhere f) (own ∷ [])) (sym (file_at-is files own d h))

pub seen-is : (files : List (List Entry)) (own : ℕ) (d : List Entry) → own < length files
    → with_named_in only_uses (module_of (plain_files files)) (map plain_entry (get_or files own d)) (unqualified (plain_files files) own) ≡ seen (plain_files files) own
seen-is files own d h =
    sym (only_used-is (plain_files files) true S.Nowhere (map plain_entry (get_or files own d)) (unqualified (plain_files files) own))
    ∙ ap (λ f. only_used (plain_files files) (items_in_file_from true S.Nowhere f) (unqualified (plain_files files) own)) (sym (file_at-is files own d h))

pub contains_is : (ks : List ℕ) (k : ℕ) → list_any (λ y. nat_eq y k) ks ≡ is_member nat_eq ks k
contains_is [] k = refl
contains_is (j ∷ ks) k = ap (λ b. b || list_any (λ y. nat_eq y k) ks) (nat_eq_equiv.symm j k) ∙ ap (λ b. nat_eq k j || b) (contains_is ks k)

no_names : (files : List (List Entry)) → drop (length files) (module_names (plain_files files)) ≡ []
no_names [] = refl
no_names (f ∷ fs) = no_names fs

-- behind the last file no name is put in yet
pub named-none : (files : List (List Entry)) (others : List ℕ → Option ℕ) → others ≡ named_behind (length files) (drop (length files) (module_names (plain_files files))) others
named-none files others = same_functions _ _ (λ w. ap (λ ns. named_behind (length files) ns others w) (sym (no_names files)))

-- one more name is put in
pub named-more : (files : List (List Entry)) (k : ℕ) (d : List Entry) (others now then : List ℕ → Option ℕ) → 0 < k → k ≤ length files
    → now ≡ named_behind k (drop k (module_names (plain_files files))) others
    → then ≡ put_name (module_name (map plain_entry (get_or files (k - 1) d))) (k - 1) now
    → then ≡ named_behind (k - 1) (drop (k - 1) (module_names (plain_files files))) others
named-more files zero d others now then p l e f = absurd (omega arith)
named-more files (suc j) d others now then p l e f =
    let s : suc j - 1 ≡ j = omega arith in
    let t : j < length files = omega arith in
    f ∙ rw s (ap (λ n. put_name (module_name (map plain_entry (get_or files j d))) j n) e
    ∙ same_functions _ _ (λ w. rw (names_from files j d t) (ap (λ i. put_name (module_name (map plain_entry (get_or files j d))) j (named_behind i (drop (suc j) (module_names (plain_files files))) others) w) (omega arith))))

pub visibility-is : (files : List (List Entry)) (own : ℕ) (d file : List Entry) (m : List ℕ → Option ℕ) (first imported copy all : List ℕ) → own < length files → m ≡ module_of (plain_files files)
    → file ≡ get_or files own d → first ≡ own ∷ [] → imported ≡ with_named_in imports m (map plain_entry file) first → copy ≡ imported → all ≡ with_named_in only_uses m (map plain_entry file) copy
    → record { unqualified = imported; seen = all } ≡ visibility (plain_files files) own
visibility-is files own d file m first imported copy all l p q r s t u = let e = unqualified-is files own d l in let f = seen-is files own d l in cc

pub visibilities-more : (F : List File) (files : List (List Entry)) (k : ℕ) (d : List Entry) (s : Visibility) (all more total : List Visibility) → k < length files → more ≡ all ++ s ∷ [] → s ≡ visibility F k
    → all ++ visibilities_from F k (plain_files (drop k files)) ≡ total → more ++ visibilities_from F (k + 1) (plain_files (drop (k + 1) files)) ≡ total
visibilities-more F files k d s all more total l p q h =
    let e : drop k files ≡ get_or files k d ∷ drop (k + 1) files = rw add-one (drop-cons files k d l) in
    rw (p, append_assoc) (rw q (sym (ap (λ fs. all ++ visibilities_from F k (plain_files fs)) e) ∙ h))
