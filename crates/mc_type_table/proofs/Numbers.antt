-- Numbers in order, and tables by steps.
use Rattle.std.proofs.Common.{◌≡◌, ℕ, zero, suc, ◌+◌, ◌<◌, List, [], ◌∷◌, ◌++◌, map, length, get_or, drop, sym, ap, ◌∙◌, arith}
use Rattle.std.proofs.lemmas.List.{at_drop_more}
use Rattle.mc_program.specs.declared.program.TypeDef.{TypeDef}
use Rattle.mc_model.specs.Lists.{from}
use Rattle.mc_names.specs.declared.names.Named.{Named}
use Rattle.mc_names.specs.Linked.{plain_named}
use Rattle.mc_decl_syntax.specs.Plain.{plain_item}
use Rattle.mc_type_table.specs.Table.{constructor_count, table_from}

from_last : (k n : ℕ) → from n (suc k) ≡ from n k ++ (n + k) ∷ []
from_last zero n = let e : n ≡ n + 0 = omega arith in ap (λ m. m ∷ []) e
from_last (suc k) n =
    let e : suc n + k ≡ n + suc k = omega arith in
    ap (λ ms. n ∷ ms) (from_last k (suc n)) ∙ ap (λ m. n ∷ (from (suc n) k ++ m ∷ [])) e

pub from_more :
    (n k : ℕ) (xs ys : List ℕ)
    → xs ≡ from n k → ys ≡ xs ++ (n + k) ∷ [] → ys ≡ from n (k + 1)
from_more n k xs ys before more =
    let e : k + 1 ≡ suc k = omega arith in
    more ∙ ap (λ zs. zs ++ (n + k) ∷ []) before ∙ sym (from_last k n) ∙ ap (from n) (sym e)

pub table_more :
    (n : ℕ) (xs : List Named) (i : ℕ) (x : Named) (d : TypeDef)
    → i < length xs → x ≡ get_or xs i x
    → d
    ≡ record {
      name = x.name;
      params = x.name.arity;
      symbols = from n (constructor_count (plain_item x.decl));
    }
    → table_from n (map plain_named (drop i xs))
    ≡ d ∷ table_from (n + constructor_count (plain_item x.decl)) (map plain_named (drop (i + 1) xs))
table_more n xs i x d below is same =
    at_drop_more (λ ys. table_from n (map plain_named ys)) xs i x below
    ∙ ap
    (λ (y : Named).
    table_from n (plain_named y ∷ map plain_named (drop (i + 1) xs)))
    (sym is)
    ∙ ap
    (λ (e : TypeDef).
    e ∷ table_from (n + constructor_count (plain_item x.decl)) (map plain_named (drop (i + 1) xs)))
    (sym same)
