-- The builtin of a name, one after another.
use Rattle.std.proofs.Common.{◌≡◌, ℕ, ◌+◌, ◌<◌, Bool, true, false, List, Some, length, get_or, drop, sym, ap, ◌∙◌}
use Rattle.std.specs.Prelude.{Option, if◌then◌else◌}
use Rattle.std.proofs.lemmas.List.{at_drop_more}
use Rattle.mc_program.specs.Programs.{FullName}
use Rattle.mc_program.specs.declared.builtin.Builtin.{Builtin}
use Rattle.mc_accepted.specs.BuiltinTypes.{builtin_name}
use Rattle.mc_declarations.specs.Declarations.{is_builtin, builtin_among}

pub builtin_here :
    (bs : List Builtin) (i : ℕ) (d : Builtin) (n : FullName) (f : Bool) (all : Option Builtin)
    → i < length bs
    → is_builtin n f (builtin_name (get_or bs i d)) ≡ true
    → builtin_among (drop i bs) n f ≡ all
    → Some (get_or bs i d) ≡ all
builtin_here bs i d n f all below is so =
    sym
    (at_drop_more (λ (ys : List Builtin). builtin_among ys n f) bs i d below
    ∙ ap
    (λ (b : Bool). if b then Some (get_or bs i d) else builtin_among (drop (i + 1) bs) n f) is)
    ∙ so

pub builtin_later :
    (bs : List Builtin) (i : ℕ) (d : Builtin) (n : FullName) (f : Bool) (all : Option Builtin)
    → i < length bs
    → is_builtin n f (builtin_name (get_or bs i d)) ≡ false
    → builtin_among (drop i bs) n f ≡ all
    → builtin_among (drop (i + 1) bs) n f ≡ all
builtin_later bs i d n f all below is so =
    sym
    (at_drop_more (λ (ys : List Builtin). builtin_among ys n f) bs i d below
    ∙ ap
    (λ (b : Bool). if b then Some (get_or bs i d) else builtin_among (drop (i + 1) bs) n f) is)
    ∙ so
