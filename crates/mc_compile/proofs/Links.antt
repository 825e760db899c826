-- What is known of files that are linked.
use Rattle.std.proofs.Common.{◌≡◌, ℕ, List, [], ◌++◌, map, length, take, Option, Ok, Err, refl, sym, ap, ◌∙◌}
use Rattle.std.proofs.lemmas.List.{length-map, take-map}
use Rattle.std.proofs.Math.Seq.{take-append_seam}
use Rattle.mc_term_data.specs.Plain.{PlainTerm}
use Rattle.mc_source.specs.declared.rule.Broken.{Broken}
use Rattle.mc_decl_syntax.specs.declared.entry.Entry.{Entry}
use Rattle.mc_decl_syntax.specs.Entries.{plain_entry, File, plain_files}
use Rattle.mc_names.specs.declared.names.Names.{Names}
use Rattle.mc_names.specs.Linked.{Linked, plain_names}
use Rattle.mc_modules.specs.Linked.{linked}
use Rattle.mc_compile.specs.Reading.{plain_goal, plain_read}
use Rattle.mc_compile.specs.declared.given.CompileFault.{CompileFault}
use Rattle.mc_compile.specs.declared.given.CompileFault.TheVariants as F
use Rattle.mc_compile.specs.declared.named.Named.{Named}
use Rattle.mc_compile.specs.declared.reading.Read.{Read}
use Rattle.mc_compile.specs.Phases.{Breaks, Tells, Viewed}
use Rattle.mc_compile.specs.Library.{library_texts}
use Rattle.mc_compile.specs.Linking.{library_behind, rules_in, linking_rules_of, PlainNamed, plain_named, linked_with, Links}
use Rattle.mc_compile.specs.code.Reader.{IsRejected, IsWithLibrary}
use Rattle.mc_compile.proofs.Chains.{broken_up, none_broken}

abbrev made : Option PlainTerm → List File → List File → Linked → PlainNamed
made goal given all names = record { files = record { given = given; all = all; names = names }; goal = goal }

made_same : (goal : Option PlainTerm) (g h a b : List File) (m n : Linked) → g ≡ h → a ≡ b → m ≡ n → made goal g a m ≡ made goal h b n
made_same goal g h a b m n e f i = rw (e, f, i) refl

module _ (read : Read) (all : List (List Entry)) (w : IsWithLibrary library_texts read.files all) where
  abbrev library : List File
  library = library_behind (plain_files read.files) w.modules

  abbrev rules : List Broken
  rules = linking_rules_of (plain_files read.files) library (plain_goal read.goal)

  -- the rules of linking, by the files that are linked
  rules_are : (n : ℕ) → n ≡ length read.files → rules_in (plain_files all) n (plain_goal read.goal) ≡ rules
  rules_are n e =
      ap (λ k. rules_in (plain_files all) k (plain_goal read.goal)) (e ∙ sym (length-map read.files (map plain_entry)))
      ∙ ap (λ fs. rules_in fs (length (plain_files read.files)) (plain_goal read.goal)) w.items

  given_are : (n : ℕ) → n ≡ length read.files → plain_files (take n all) ≡ plain_files read.files
  given_are n e =
      sym (take-map (map plain_entry) n all)
      ∙ ap (λ k. take k (plain_files all)) (e ∙ sym (length-map read.files (map plain_entry)))
      ∙ ap (take (length (plain_files read.files))) w.items
      ∙ take-append_seam (plain_files read.files) library

  -- where no rule of linking is broken
  pub named_is : (named : Named) (names : Names) (n : ℕ) → plain_named named ≡ made (plain_goal read.goal) (plain_files (take n all)) (plain_files all) (plain_names names) → n ≡ length read.files
      → plain_names names ≡ linked (plain_files all) → rules_in (plain_files all) n (plain_goal read.goal) ≡ [] → Tells Links (Viewed plain_named) (plain_read read) (Ok named)
  named_is named names n view e known sound = (
    linked_with (plain_read read) library,
    view
        ∙ made_same (plain_goal read.goal) (plain_files (take n all)) (plain_files read.files) (plain_files all) (plain_files read.files ++ library) (plain_names names) (linked (plain_files read.files ++ library))
        (given_are n e) w.items (known ∙ ap linked w.items),
    record { modules = w.modules; is_library = w.is_library; is = none_broken rules (linked_with (plain_read read) library) (sym (rules_are n e) ∙ sound) },
  )

  -- and where rules are
  pub unlinked_is : (fault : CompileFault) (n : ℕ) → n ≡ length read.files → IsRejected (rules_in (plain_files all) n (plain_goal read.goal)) fault → Tells Links (Viewed plain_named) (plain_read read) (Err fault)
  unlinked_is (F.Rejected broken) n e rejected =
      let same : broken ≡ rules = rejected.0 ∙ rules_are n e in
      record {
        modules = w.modules;
        is_library = w.is_library;
        is = ap (λ bs. Err (Breaks bs)) same ∙ broken_up rules (linked_with (plain_read read) library) (λ none. rejected.1 (same ∙ none));
      }
  unlinked_is F.Memory n e rejected = tt
