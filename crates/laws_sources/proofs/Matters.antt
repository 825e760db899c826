-- A module of the library that writes a type's name that means nothing.
use Rattle.std.proofs.Common.{ℕ, List, [], ◌∷◌, refl}
use Rattle.std.specs.Prelude.{codes}
use Rattle.mc_source.specs.declared.place.Place.{Place}
use Rattle.mc_term_data.specs.Plain.{PlainTerm, at, no_term, App}
use Rattle.mc_decl_syntax.specs.Plain.{ModuleStart, Implementation, SameType}
use Rattle.mc_decl_syntax.specs.Entries.{File}
use Rattle.mc_modules.specs.Linked.{linked}
use Rattle.mc_type_table.specs.Written.{builtin_rows}
use Rattle.mc_declarations.specs.Proper.{AreWellWritten}
use Rattle.laws_sources.specs.WellWritten.{LibraryMatters}

here : Place
here = record { file = 0; line = 1 }

abbrev type_named : List ℕ → PlainTerm
type_named w = at (App (w ∷ []) no_term) 1

-- `:- module m. :- implementation. :- type t == u.`
abbrev one_file : List File
one_file =
    (
    (ModuleStart (codes "m" ∷ []), here)
    ∷ (Implementation, here)
    ∷ (SameType (type_named (codes "t")) (type_named (codes "u")), here)
    ∷ []
    )
    ∷ []

pub library_matters : LibraryMatters
unfolding builtin_rows
library_matters law =
    let well : AreWellWritten (linked one_file) = law one_file ((tt, (tt, ((refl, refl), tt))), tt) refl in
    (well.types 0 _ refl).1.0 refl refl
