-- How the plain views of terms and of flat goals compute.
use Rattle.std.proofs.Common.{◌≡◌, ℕ, ℤ, List, [], ◌∷◌, map, refl, sym, ap, ◌∙◌}
use Rattle.mc_program.specs.Values.{Val, plain_value, plain_value_step}
use Rattle.mc_program.specs.Programs.{Expression, variable, constant, made, applied, expressions}
use Rattle.mc_program.specs.PlainPrograms.{plain_expression, plain_expression_step}
use Rattle.mc_program.specs.declared.value.Value.{Int, Char, Str}
use Rattle.mc_program.specs.declared.value.Value.TheOpen as V
use Rattle.mc_program.specs.declared.value.Value.TheVariants as VV
use Rattle.mc_program.specs.declared.value.Value.TheFolds.{fold-roll-Value}
use Rattle.mc_program.specs.declared.expr.Expr as X
use Rattle.mc_program.specs.declared.expr.Expr.{Expr}
use Rattle.mc_program.specs.declared.expr.Expr.TheOpen as E
use Rattle.mc_program.specs.declared.expr.Expr.TheVariants as EV
use Rattle.mc_program.specs.declared.expr.Expr.TheFolds.{fold-roll-Expr}
use Rattle.mc_model.specs.Flat.{Flat_goal, flats}
use Rattle.mc_model.specs.PlainGoals.{plain_flat, plain_flat_step}
use Rattle.mc_model.specs.declared.flat.Flat.{Flat, Disj}
use Rattle.mc_model.specs.declared.flat.Flat.TheOpen as FO
use Rattle.mc_model.specs.declared.flat.Flat.TheViews.{roll-Flat}
use Rattle.mc_model.specs.declared.flat.Flat.TheVariants.{rolls-Disj}
use Rattle.mc_model.specs.declared.flat.Flat.TheFolds.{ind-Flat, fold-roll-Flat, map-Flat}
use Rattle.mc_accepted.specs.Normal.{listed_flats, disjuncts}

pub plain_expression-Var : (v : ℕ) → plain_expression (X.Var v) ≡ variable v
plain_expression-Var v = ap plain_expression (sym (EV.rolls-Var v)) ∙ fold-roll-Expr Expression plain_expression_step (E.Var v)

pub plain_expression-Con : (s : ℕ) (args : List Expr) → plain_expression (X.Con s args) ≡ made s (expressions (map plain_expression args))
plain_expression-Con s args = ap plain_expression (sym (EV.rolls-Con s args)) ∙ fold-roll-Expr Expression plain_expression_step (E.Con s args)

pub plain_expression-Apply : (f : ℕ) (args : List Expr) → plain_expression (X.Apply f args) ≡ applied f (expressions (map plain_expression args))
plain_expression-Apply f args = ap plain_expression (sym (EV.rolls-Apply f args)) ∙ fold-roll-Expr Expression plain_expression_step (E.Apply f args)

pub plain_expression-Int : (n : ℤ) → plain_expression (X.Int n) ≡ constant (plain_value (Int n))
plain_expression-Int n =
    ap plain_expression (sym (EV.rolls-Int n)) ∙ fold-roll-Expr Expression plain_expression_step (E.Int n)
    ∙ ap constant (sym (ap plain_value (sym (VV.rolls-Int n)) ∙ fold-roll-Value Val plain_value_step (V.Int n)))

pub plain_expression-Char : (c : ℕ) → plain_expression (X.Char c) ≡ constant (plain_value (Char c))
plain_expression-Char c =
    ap plain_expression (sym (EV.rolls-Char c)) ∙ fold-roll-Expr Expression plain_expression_step (E.Char c)
    ∙ ap constant (sym (ap plain_value (sym (VV.rolls-Char c)) ∙ fold-roll-Value Val plain_value_step (V.Char c)))

pub plain_expression-Str : (t : List ℕ) → plain_expression (X.Str t) ≡ constant (plain_value (Str t))
plain_expression-Str t =
    ap plain_expression (sym (EV.rolls-Str t)) ∙ fold-roll-Expr Expression plain_expression_step (E.Str t)
    ∙ ap constant (sym (ap plain_value (sym (VV.rolls-Str t)) ∙ fold-roll-Value Val plain_value_step (V.Str t)))

-- a disjunction's goals are its parts, and any other goal is one part
listed-flats : (gs : List Flat_goal) → listed_flats (flats gs) ≡ gs
listed-flats [] = refl
listed-flats (g ∷ gs) = ap (λ l. g ∷ l) (listed-flats gs)

pub parts_of_disjunction : (gs : List Flat) → disjuncts (plain_flat (Disj gs)) ≡ map plain_flat gs
parts_of_disjunction gs = ap disjuncts (ap plain_flat (sym (rolls-Disj gs)) ∙ fold-roll-Flat Flat_goal plain_flat_step (FO.Disj gs)) ∙ listed-flats (map plain_flat gs)

layer_alone : (x : FO.Flat-F Flat) → ((gs : List Flat) → roll-Flat x ≡ Disj gs → ⊥) → let g = plain_flat_step (map-Flat Flat Flat_goal plain_flat x) in disjuncts g ≡ g ∷ []
layer_alone FO.True h = refl
layer_alone (FO.Conj gs) h = refl
layer_alone (FO.Disj gs) h = absurd (h gs (rolls-Disj gs))
layer_alone (FO.Ite vs c t e) h = refl
layer_alone (FO.Not g) h = refl
layer_alone (FO.Some vs g) h = refl
layer_alone (FO.Same v w) h = refl
layer_alone (FO.Made v s args) h = refl
layer_alone (FO.Const v c) h = refl
layer_alone (FO.Call p args) h = refl

pub part_alone : (g : Flat) → ((gs : List Flat) → g ≡ Disj gs → ⊥) → disjuncts (plain_flat g) ≡ plain_flat g ∷ []
part_alone = ind-Flat (λ g. ((gs : List Flat) → g ≡ Disj gs → ⊥) → disjuncts (plain_flat g) ≡ plain_flat g ∷ []) (λ x y is h.
    let e = fold-roll-Flat Flat_goal plain_flat_step x in
    ap disjuncts e ∙ layer_alone x h ∙ ap (λ g. g ∷ []) (sym e))
