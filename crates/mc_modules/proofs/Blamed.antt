-- The rules that the items of a file break, where what stands before them is kept as a set.
use Rattle.std.proofs.Common.{◌≡◌, ℕ, ◌+◌, ◌-◌, ◌<◌, ◌≤◌, true, false, cond, nat_le, true≢false, List, [], ◌∷◌, ◌++◌, map, length, drop, get_or, Some, None, refl, ap, sym, ◌∙◌, arith, add-one, drop-cons, append_assoc}
use Rattle.std.proofs.lemmas.List.{append-nil, length-map}
use Rattle.std.specs.Bool.{◌==◌}
use Rattle.std.proofs.Math.Dec.{eqb-suc-zero}
use Rattle.mc_names.specs.Plain.{PlainDefinition}
use Rattle.mc_defs_uses.specs.Sets.{put_all}
use Rattle.mc_names.specs.Definitions.{definitions}
use Rattle.mc_decl_syntax.specs.Plain.{PlainDecl}
use Rattle.mc_decl_syntax.specs.declared.entry.Entry.{Entry}
use Rattle.mc_decl_syntax.specs.Entries.{plain_entry, File, plain_files}
use Rattle.mc_source.specs.declared.rule.Broken.{Broken}
use Rattle.mc_modules.specs.declared.item_in_file.ItemInFile.{ItemInFile}
use Rattle.mc_modules.specs.Kept.{plain_item_in_file}
use Rattle.mc_modules.specs.Files.{PlainItemInFile, items_in_file}
use Rattle.mc_modules.specs.Visible.{is_library, file_at}
use Rattle.mc_modules.specs.Faults.{again, double_fault, fault, with_before, faults_of, faults_from}
use Rattle.mc_source.specs.Rules.{broken_at}
use Rattle.mc_modules.specs.code.Steps.{with_set, faults_behind}
use Rattle.mc_modules.proofs.ModulesSeen.{file_at-is}
use Rattle.mc_modules.proofs.Tables.{put_all-append, is_member_set}

again-set : (before ts : List PlainDefinition) → again (put_all [] before) ts ≡ again before ts
again-set before [] = refl
again-set before (t ∷ ts) = ap (λ b. cond b (Some t.id) None) (is_member_set before t)

double_fault-set : (before : List PlainDefinition) (i : PlainDecl) → double_fault (put_all [] before) i ≡ double_fault before i
double_fault-set before i = rw (again-set before (definitions i)) refl

fault-set : (files : List File) (own : ℕ) (all : List PlainItemInFile) (before : List PlainDefinition) (s : PlainItemInFile) → fault files own all (put_all [] before) s ≡ fault files own all before s
fault-set files own all before s = rw (double_fault-set before s.item) refl

pub faults_behind-is : (files : List File) (own : ℕ) (all : List PlainItemInFile) (before : List PlainDefinition) (ss : List PlainItemInFile)
    → faults_behind files own all (with_set (put_all [] before) ss) ≡ faults_behind files own all (with_before before ss)
faults_behind-is files own all before [] = refl
faults_behind-is files own all before (s ∷ ss) =
    ap (λ f. broken_at s.at f ++ faults_behind files own all (with_set (put_all (put_all [] before) (definitions s.item)) ss)) (fault-set files own all before s)
    ∙ ap (λ b. broken_at s.at (fault files own all before s) ++ faults_behind files own all (with_set b ss)) (sym (put_all-append [] before (definitions s.item)))
    ∙ ap (λ bs. broken_at s.at (fault files own all before s) ++ bs) (faults_behind-is files own all (before ++ definitions s.item) ss)

module _ (files : List (List Entry)) (own : ℕ) (items : List ItemInFile) (r : map plain_item_in_file items ≡ items_in_file (file_at (plain_files files) own)) where
  pub empty-file : true ≡ (length items == 0) → file_at (plain_files files) own ≡ []
  empty-file t = of_nothing (file_at (plain_files files) own) (sym r ∙ nothing items t)
    where
      nothing : (es : List ItemInFile) → true ≡ (length es == 0) → map plain_item_in_file es ≡ []
      nothing [] h = refl
      nothing (e ∷ es) h = absurd (true≢false (h ∙ eqb-suc-zero (length es)))

      of_nothing : (f : File) → items_in_file f ≡ [] → f ≡ []
      of_nothing [] h = refl
      of_nothing (e ∷ es) h = cc

  some : (f : File) (es : List ItemInFile) → map plain_item_in_file es ≡ items_in_file f → false ≡ (length es == 0)
      → faults_behind (plain_files files) own (items_in_file f) (with_before [] (items_in_file f)) ≡ faults_of (plain_files files) own f
  some [] [] e h = absurd (true≢false (sym h))
  some [] (x ∷ es) e h = absurd (let g : plain_item_in_file x ∷ map plain_item_in_file es ≡ [] = e in cc)
  some (f ∷ fs) es e h = refl

  -- a file with items: the rules that they break
  pub some-file : (old new : List Broken) → false ≡ (length items == 0)
      → new ≡ old ++ faults_behind (plain_files files) own (items_in_file (file_at (plain_files files) own)) (with_set [] (map plain_item_in_file items))
      → new ≡ old ++ faults_of (plain_files files) own (file_at (plain_files files) own)
  some-file old new t h =
      h ∙ ap (λ s. old ++ faults_behind (plain_files files) own (items_in_file (file_at (plain_files files) own)) (with_set [] s)) r
      ∙ ap (λ bs. old ++ bs)
      (faults_behind-is (plain_files files) own (items_in_file (file_at (plain_files files) own)) [] (items_in_file (file_at (plain_files files) own))
      ∙ some (file_at (plain_files files) own) items r t)

-- the last file before the library's
pub faults_from-over : (files : List (List Entry)) (k : ℕ) → length files - 9 ≤ k → faults_from (plain_files files) k (plain_files (drop k files)) ≡ []
faults_from-over files k l = over (plain_files (drop k files))
  where
    at_end : nat_le (length (plain_files files)) (k + 9) ≡ true
    at_end = rw (length-map files (map plain_entry)) (grind arith)

    over : (fs : List File) → faults_from (plain_files files) k fs ≡ []
    over [] = refl
    over (f ∷ fs) = ap (λ b. cond b [] (faults_of (plain_files files) k f ++ faults_from (plain_files files) (k + 1) fs)) at_end

pub faults_from-more : (files : List (List Entry)) (k : ℕ) (broken more total : List Broken) → k < length files - 9
    → more ≡ broken ++ faults_of (plain_files files) k (file_at (plain_files files) k)
    → broken ++ faults_from (plain_files files) k (plain_files (drop k files)) ≡ total
    → more ++ faults_from (plain_files files) (k + 1) (plain_files (drop (k + 1) files)) ≡ total
faults_from-more files k broken more total l p h =
    let e : drop k files ≡ get_or files k [] ∷ drop (k + 1) files = rw add-one (drop-cons files k [] (omega arith)) in
    let g : is_library (plain_files files) k ≡ false = rw (length-map files (map plain_entry)) (grind arith) in
    let a : file_at (plain_files files) k ≡ map plain_entry (get_or files k []) = file_at-is files k [] (omega arith) in
    rw (p, append_assoc, a)
    (ap (λ b. broken ++ cond b [] (faults_of (plain_files files) k (map plain_entry (get_or files k [])) ++ faults_from (plain_files files) (k + 1) (plain_files (drop (k + 1) files)))) (sym g)
    ∙ sym (ap (λ fs. broken ++ faults_from (plain_files files) k (plain_files fs)) e) ∙ h)

pub all-faults : (files : List (List Entry)) (k : ℕ) (broken total : List Broken) → length files - 9 ≤ k → broken ++ faults_from (plain_files files) k (plain_files (drop k files)) ≡ total → broken ≡ total
all-faults files k broken total l h = sym (append-nil broken) ∙ sym (ap (λ bs. broken ++ bs) (faults_from-over files k l)) ∙ h
