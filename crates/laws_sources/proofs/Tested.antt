-- Modules that pass the test are linked.
use Rattle.std.proofs.Common.{◌≡◌, ℕ, zero, suc, ◌+◌, ◌<◌, true, List, [], ◌∷◌, ◌++◌, length, refl, subst, arith}
use Rattle.std.specs.Prelude.{Option, Some, None}
use Rattle.std.specs.Option.{is_none}
use Rattle.std.proofs.lemmas.Bool.{and_parts}
use Rattle.mc_source.specs.Rules.{Fault}
use Rattle.mc_defs_uses.specs.Occurrences.{uses}
use Rattle.mc_decl_syntax.specs.Entries.{File}
use Rattle.mc_modules.specs.Visible.{file_at, module_of}
use Rattle.mc_modules.specs.Faults.{is_number, invisible}
use Rattle.mc_modules.specs.Linked.{name_of}
use Rattle.laws_sources.specs.WellWritten.{AreKnown, IsLinked}
use Rattle.laws_sources.specs.Tested.{are_known, is_linked, are_linked, LinkedByTest}
use Rattle.laws_sources.proofs.Given.{number_is}
use Rattle.laws_sources.proofs.Meanings.{never}
use Rattle.laws_sources.proofs.Library.{library_place}

is_nothing : (o : Option Fault) → is_none o ≡ true → o ≡ None
is_nothing None is = refl
is_nothing (Some f) is = never is

module _ (files : List File) where
  known_by : (own : ℕ) (f : File) → are_known files own f ≡ true → AreKnown files own f
  known_by own [] is = tt
  known_by own (e ∷ es) is =
      let parts = and_parts (is_none (invisible files own (uses e.0))) (are_known files own es) is in
      (is_nothing (invisible files own (uses e.0)) parts.0, known_by own es parts.1)

  linked_by : (own : ℕ) → is_linked files own ≡ true → IsLinked files own
  linked_by own is =
      let parts = and_parts (is_number (module_of files (name_of (file_at files own))) own) (are_known files own (file_at files own)) is in
      record {
        named = number_is (module_of files (name_of (file_at files own))) own parts.0;
        known = known_by own (file_at files own) parts.1;
      }

  each_linked : (k i : ℕ) (fs : List File) → are_linked files k fs ≡ true → i < length fs → IsLinked files (k + i)
  each_linked k i [] is below = absurd (omega (arith, below))
  each_linked k zero (f ∷ fs) is below =
      let here : k ≡ k + 0 = omega arith in
      subst (IsLinked files) here (linked_by k (and_parts (is_linked files k) (are_linked files (k + 1) fs) is).0)
  each_linked k (suc i) (f ∷ fs) is below =
      let next : (k + 1) + i ≡ k + suc i = omega arith in
      subst (IsLinked files) next
      (each_linked (k + 1) i fs (and_parts (is_linked files k) (are_linked files (k + 1) fs) is).1 (omega (arith, below)))

pub linked_by_test : LinkedByTest
linked_by_test given library nine passed own below is =
    let it = library_place given library nine own below is in
    subst (IsLinked (given ++ library)) it.1 (each_linked (given ++ library) (length given) it.0 library passed it.2.0)
