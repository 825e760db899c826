-- Clauses where the walk or the normal goal alone is typed.
use Rattle.std.proofs.Common.{◌≡◌, length, refl, ap, arith}
use Rattle.mc_program.specs.Programs.{TypeTerm, union_type, no_types}
use Rattle.laws_types.specs.code.ExamplesOfWalks.{CharactersAreBare, ConstructorsAreListed}

pub characters_are_bare : CharactersAreBare
characters_are_bare = ((((refl, refl), refl)), λ τ w. let e : 1 ≡ 2 = ap length w.1.3.1 in omega (arith, e))

pub constructors_are_listed : ConstructorsAreListed
constructors_are_listed =
    let nil : TypeTerm = union_type 0 no_types in
    ((refl, ((0, omega arith, refl), tt, nil, ((λ v. nil), refl), (nil, refl, refl))), λ h. cc)
