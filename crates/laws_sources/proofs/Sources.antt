-- What sources declare is well written.
use Rattle.std.proofs.Common.{◌≡◌, ℕ, suc, ◌+◌, List, [], ◌∷◌, ◌++◌, length, refl, ap, ◌∙◌}
use Rattle.std.specs.Prelude.{Some, None}
use Rattle.mc_decl_syntax.specs.Entries.{File}
use Rattle.mc_modules.specs.Faults.{link_faults}
use Rattle.mc_compile.specs.Reading.{Reading, counted, FilesRead, items_from}
use Rattle.mc_compile.specs.Linking.{goal_rules_in}
use Rattle.mc_source.specs.declared.rule.Broken.{Broken}
use Rattle.laws_sources.specs.WellWritten.{AllHaveForm}
use Rattle.laws_sources.specs.Sources.{ReadFilesHaveForm, SourcesAreWellWritten}
use Rattle.laws_sources.proofs.Forms.{items_have_form}
use Rattle.laws_sources.proofs.Library.{library_stays_linked}
use Rattle.laws_sources.proofs.Written.{well_written}

pub read_files_have_form : ReadFilesHaveForm
read_files_have_form [] [] before k read = tt
read_files_have_form [] (r ∷ rs) before k read = absurd read
read_files_have_form (t ∷ ts) [] before k read = absurd read
read_files_have_form (t ∷ ts) (None ∷ rs) before k read = (tt, read_files_have_form ts rs (before + counted t) (k + 1) read.1)
read_files_have_form (t ∷ ts) (Some vs ∷ rs) before k read =
    (items_have_form k 0 t vs read.0.1.1, read_files_have_form ts rs (before + counted t) (k + 1) read.1)

-- as many modules as texts
as_many : (texts : List (List ℕ)) (readings : List Reading) (before k : ℕ) → FilesRead before texts readings → length (items_from k readings) ≡ length texts
as_many [] [] before k read = refl
as_many [] (r ∷ rs) before k read = absurd read
as_many (t ∷ ts) [] before k read = absurd read
as_many (t ∷ ts) (r ∷ rs) before k read = ap suc (as_many ts rs (before + counted t) (k + 1) read.1)

both_forms : (fs gs : List File) → AllHaveForm fs → AllHaveForm gs → AllHaveForm (fs ++ gs)
both_forms [] gs forms more = more
both_forms (f ∷ fs) gs forms more = (forms.0, both_forms fs gs forms.1 more)

first_empty : (xs ys : List Broken) → xs ++ ys ≡ [] → xs ≡ []
first_empty [] ys none = refl
first_empty (x ∷ xs) ys none = absurd (let clash : x ∷ (xs ++ ys) ≡ [] = none in cc)

pub sources_are_well_written : SourcesAreWellWritten
sources_are_well_written texts library readings modules m n j k goal read library_read nine linked none =
    let given = items_from j readings in
    let behind = items_from k modules in
    well_written (given ++ behind)
    (both_forms given behind (read_files_have_form texts readings m j read) (read_files_have_form library modules n k library_read))
    (first_empty (link_faults (given ++ behind)) (goal_rules_in (given ++ behind) (length given) goal) none)
    (library_stays_linked given behind (as_many library modules n k library_read ∙ nine) linked)
