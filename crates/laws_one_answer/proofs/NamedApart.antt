-- Where a program's constructors fit, those of one type are told apart by name.
use Rattle.std.proofs.Common.{◌≡◌, ℕ, suc, ◌<◌, Bool, true, false, cond, nat_eq, List, [], ◌∷◌, length, get_or, refl, sym, ap, ◌∙◌, arith}
use Rattle.std.proofs.lemmas.Bool.{eqb-true}
use Rattle.mc_program.specs.Programs.{Source}
use Rattle.mc_model.specs.Lists.{is_in}
use Rattle.mc_insts.specs.Programs.{FitsConstructors}
use Rattle.laws_graphs.specs.Nodes.{NamedApart}

stands-at : (s : ℕ) (xs : List ℕ) → is_in s xs ≡ true → (k : ℕ) × (k < length xs) × (get_or xs k 0 ≡ s)
stands-at s [] e = cc
stands-at s (x ∷ xs) e = at (nat_eq s x) refl e (stands-at s xs)
  where
    at : (b : Bool) → nat_eq s x ≡ b → cond b true (is_in s xs) ≡ true → (is_in s xs ≡ true → (k : ℕ) × (k < length xs) × (get_or xs k 0 ≡ s)) → (k : ℕ) × (k < suc (length xs)) × (get_or (x ∷ xs) k 0 ≡ s)
    at true q h later = (0, omega arith, sym (eqb-true s x q))
    at false q h later = let f = later h in (suc f.0, omega (arith, f.1), f.2)

pub named-apart : (P : Source) → FitsConstructors P → NamedApart P
named-apart P fits u s r i j p q names =
    let a = stands-at s (P.symbols_of u) i in
    let b = stands-at r (P.symbols_of u) j in
    let same = fits.once u a.0 b.0 a.1 b.1
    (ap (λ x. (P.symbols x).name.bytes) a.2 ∙ names.0 ∙ ap (λ x. (P.symbols x).name.bytes) (sym b.2))
    (ap (λ x. (P.symbols x).name.arity) a.2 ∙ names.1 ∙ ap (λ x. (P.symbols x).name.arity) (sym b.2)) in
    sym a.2 ∙ ap (λ k. get_or (P.symbols_of u) k 0) same ∙ b.2
