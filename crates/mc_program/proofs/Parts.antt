-- How many values, types or terms stand in another: the measure of a drop.
use Rattle.std.proofs.Common.{◌≡◌, ◌≢◌, ℕ, suc, ◌+◌, ◌≤◌, ◌<◌, List, [], ◌∷◌, ◌++◌, length, map, get_or, slice_set, ◌⊎◌, inl, inr, refl, ap, sym, ◌∙◌, arith}
use Rattle.mc_program.specs.declared.value.Value.{Value, Con}
use Rattle.mc_program.specs.declared.value.Value.TheOpen as V
use Rattle.mc_program.specs.declared.value.Value.TheVariants.{rolls-Con}
use Rattle.mc_program.specs.declared.value.Value.TheFolds.{fold-Value, fold-roll-Value}
use Rattle.mc_program.specs.declared.ty.Ty as types
use Rattle.mc_program.specs.declared.ty.Ty.{Ty}
use Rattle.mc_program.specs.declared.ty.Ty.TheOpen as T
use Rattle.mc_program.specs.declared.ty.Ty.TheVariants as types_made
use Rattle.mc_program.specs.declared.ty.Ty.TheFolds.{fold-Ty, fold-roll-Ty}
use Rattle.mc_program.specs.declared.expr.Expr as exprs
use Rattle.mc_program.specs.declared.expr.Expr.{Expr}
use Rattle.mc_program.specs.declared.expr.Expr.TheOpen as E
use Rattle.mc_program.specs.declared.expr.Expr.TheVariants as exprs_made
use Rattle.mc_program.specs.declared.expr.Expr.TheFolds.{fold-Expr, fold-roll-Expr}

-- these parts, and those that stand in them
abbrev pub total : List ℕ → ℕ
total [] = 0
total (n ∷ ns) = suc (n + total ns)

-- the last of some parts is taken off
pub total_push : {A : Type 0} (inside : A → ℕ) (all front : List A) (last : A) → all ≡ front ++ (last ∷ []) → total (map inside all) ≡ suc (total (map inside front) + inside last)
total_push inside all front last e = ap (λ l. total (map inside l)) e ∙ pushed front where
  pushed : (xs : List _) → total (map inside (xs ++ (last ∷ []))) ≡ suc (total (map inside xs) + inside last)
  pushed [] = omega arith
  pushed (x ∷ xs) = omega (arith, pushed xs)

-- parts that aren't none are some
pub some_there : {A : Type 0} (xs : List A) → (xs ≢ []) → 0 < length xs
some_there [] none = absurd (none refl)
some_there (x ∷ xs) none = omega arith

-- another part is put in the place of the first
pub total_hung : {A : Type 0} (inside : A → ℕ) (args all : List A) (first link : A) → 0 < length args → first ≡ get_or args 0 first → all ≡ slice_set args 0 link → total (map inside all) + inside first ≡ total (map inside args) + inside link
total_hung inside [] all first link some e set = absurd (omega arith)
total_hung inside (x ∷ xs) all first link some e set =
    let f : inside first ≡ inside x = ap inside e in
    let g : total (map inside all) ≡ suc (inside link + total (map inside xs)) = ap (λ l. total (map inside l)) set in
    omega (arith, f, g)

-- the first part has less in it than all of them
pub first_less : {A : Type 0} (inside : A → ℕ) (args : List A) (first : A) → 0 < length args → first ≡ get_or args 0 first → inside first < total (map inside args)
first_less inside [] first some e = absurd (omega arith)
first_less inside (x ∷ xs) first some e = let f : inside first ≡ inside x = ap inside e in omega (arith, f)

-- how many values stand in a value
abbrev pub in_value_step : V.Value-F ℕ → ℕ
in_value_step (V.Con s args) = total args
in_value_step _ = 0

abbrev pub in_value : Value → ℕ
in_value = fold-Value ℕ in_value_step

pub in_value-Con : (s : ℕ) (args : List Value) → in_value (Con s args) ≡ total (map in_value args)
in_value-Con s args = ap in_value (sym (rolls-Con s args)) ∙ fold-roll-Value ℕ in_value_step (V.Con s args)

-- how many types stand in a type
abbrev pub in_type_step : T.Ty-F ℕ → ℕ
in_type_step (T.Union u args) = total args
in_type_step _ = 0

abbrev pub in_type : Ty → ℕ
in_type = fold-Ty ℕ in_type_step

pub in_type-Union : (u : ℕ) (args : List Ty) → in_type (types.Union u args) ≡ total (map in_type args)
in_type-Union u args = ap in_type (sym (types_made.rolls-Union u args)) ∙ fold-roll-Ty ℕ in_type_step (T.Union u args)

-- how many terms stand in a term
abbrev pub in_expr_step : E.Expr-F ℕ → ℕ
in_expr_step (E.Con s args) = total args
in_expr_step (E.Apply f args) = total args
in_expr_step _ = 0

abbrev pub in_expr : Expr → ℕ
in_expr = fold-Expr ℕ in_expr_step

pub in_expr-Con : (s : ℕ) (args : List Expr) → in_expr (exprs.Con s args) ≡ total (map in_expr args)
in_expr-Con s args = ap in_expr (sym (exprs_made.rolls-Con s args)) ∙ fold-roll-Expr ℕ in_expr_step (E.Con s args)

in_expr-Apply : (f : ℕ) (args : List Expr) → in_expr (exprs.Apply f args) ≡ total (map in_expr args)
in_expr-Apply f args = ap in_expr (sym (exprs_made.rolls-Apply f args)) ∙ fold-roll-Expr ℕ in_expr_step (E.Apply f args)

-- how many stand in a term of either kind that has arguments
pub in_expr-args : (e : Expr) (args : List Expr) → ((s : ℕ) × (e ≡ exprs.Con s args)) ⊎ ((f : ℕ) × (e ≡ exprs.Apply f args)) → in_expr e ≡ total (map in_expr args)
in_expr-args e args (inl made) = ap in_expr made.1 ∙ in_expr-Con made.0 args
in_expr-args e args (inr applied) = ap in_expr applied.1 ∙ in_expr-Apply applied.0 args
