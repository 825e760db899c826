-- Each procedure of a system that fits is entered, and ends, with tidy insts.
use Rattle.std.proofs.Common.{◌≡◌, inl, inr, ℕ, suc, ◌<◌, List, [], ◌∷◌, length, get_or, sym, ap, ◌∙◌, arith}
use Rattle.mc_program.specs.Programs.{Source}
use Rattle.mc_model.specs.Good.{System}
use Rattle.mc_model.specs.Lists.{In}
use Rattle.mc_accepted.specs.Accepted.{entered}
use Rattle.mc_accepted.specs.Fits.{Fits, type_of}
use Rattle.mc_accepted.specs.ProperTypes.{Parameters}
use Rattle.mc_insts.specs.Programs.{FitsConstructors}
use Rattle.laws_order.specs.Tidying.{EndsTidily, NamesOnce, TidyPoint}
use Rattle.laws_order.proofs.Tidying.{entries-are-tidy}

place_of : (x : ℕ) (xs : List ℕ) → In x xs → (i : ℕ) × (i < length xs) × (get_or xs i 0 ≡ x)
place_of x [] h = absurd h
place_of x (y ∷ ys) (inl e) = (0, omega arith, sym e)
place_of x (y ∷ ys) (inr h) = let p = place_of x ys h in (suc p.0, omega (arith, p.1), p.2)

-- a type lists each name once, in places or by its members
pub names_once : (P : Source) → FitsConstructors P → NamesOnce P
names_once P fits u s r there also bytes arity =
    let listed = P.symbols_of u in
    let i = place_of s listed there in
    let j = place_of r listed also in
    let same_bytes = ap (λ x. (P.symbols x).name.bytes) i.2 ∙ bytes ∙ ap (λ x. (P.symbols x).name.bytes) (sym j.2) in
    let same_arity = ap (λ x. (P.symbols x).name.arity) i.2 ∙ arity ∙ ap (λ x. (P.symbols x).name.arity) (sym j.2) in
    sym i.2 ∙ ap (λ n. get_or listed n 0) (fits.once u i.0 j.0 i.1 j.1 same_bytes same_arity) ∙ j.2

pub ends_of_system : (S : System) (E : Parameters) → Fits S E → FitsConstructors S.world.source → EndsTidily S
ends_of_system S E fits constructors =
    record {
      is_free = fits.insts.is_free;
      is_ground = fits.insts.is_ground;
      names = names_once S.world.source constructors;
      builtins = (fits.io.0, fits.io.1.named);
      procedures = λ k lt. (fits.procedures k lt).tidy.1;
    }

pub entry_of_system : (S : System) (E : Parameters) → Fits S E → (k : ℕ) → k < S.count → TidyPoint S (type_of S (S.procs k)) (entered (S.procs k).head (S.procs k).first)
entry_of_system S E fits k lt = entries-are-tidy S E (S.procs k) fits.insts (fits.procedures k lt)
