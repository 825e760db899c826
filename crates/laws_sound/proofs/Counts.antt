-- The numbers of answers of compound goals, by cases.
use Rattle.std.proofs.Common.{◌≡◌, refl}
use Rattle.mc_source.specs.declared.det.Most.{Most}
use Rattle.mc_source.specs.declared.det.Most.TheVariants.{Zero, One, Many}

abbrev pub times : Most → Most → Most
times Zero m = Zero
times One m = m
times Many Zero = Zero
times Many One = Many
times Many Many = Many

abbrev pub plus : Most → Most → Most
plus Zero m = m
plus One Zero = One
plus One One = Many
plus One Many = Many
plus Many m = Many

-- a condition with its then part, against the else part
abbrev pub either : Most → Most → Most
either Zero m = m
either One Zero = One
either One One = One
either One Many = Many
either Many m = Many

pub times_one : (m : Most) → times m One ≡ m
times_one Zero = refl
times_one One = refl
times_one Many = refl
