-- A program without types and symbols.
use Rattle.std.proofs.Common.{◌≡◌, ℕ, ◌<◌, List, [], length, get_or, map, refl, sym, subst, arith}
use Rattle.mc_program.specs.PlainPrograms.{plain_symbol, plain_program, no_symbol}
use Rattle.mc_program.specs.declared.program.Program.{Program}
use Rattle.mc_program.specs.declared.program.Symbol.{Symbol}
use Rattle.mc_program.specs.declared.program.TypeDef.{TypeDef}
use Rattle.mc_model.specs.Lists.{In}
use Rattle.mc_insts.specs.Programs.{FitsConstructors}

abbrev listed : List TypeDef → ℕ → List ℕ
listed types u = get_or (map (λ (t : TypeDef). t.symbols) types) u []

pub empty_fits : (P : Program) → P.types ≡ [] → P.symbols ≡ [] → FitsConstructors (plain_program P)
empty_fits P types symbols = record {
  arities = λ s.
      subst (λ (ss : List Symbol). (get_or (map plain_symbol ss) s no_symbol).name.arity ≡ length (get_or (map plain_symbol ss) s no_symbol).args) (sym symbols) refl;
  owned = λ u s i. absurd (subst (λ (ts : List TypeDef). In s (listed ts u)) types i);
  once = λ u i j a b m n. let none : i < 0 = subst (λ (ts : List TypeDef). i < length (listed ts u)) types a in absurd (omega arith);
}
