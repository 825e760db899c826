-- What flat goals stand for, kind by kind.
use Rattle.std.proofs.Common.{◌≡◌, ◌∙◌, ℕ, List, map, Box, Global, sym, ap}
use Rattle.mc_program.specs.Values.{plain_value}
use Rattle.mc_program.specs.declared.value.Value.{Value}
use Rattle.mc_model.specs.Flat as F
use Rattle.mc_model.specs.Flat.{Flat_goal, flats, no_flat}
use Rattle.mc_model.specs.PlainGoals.{plain_flat, plain_flat_step}
use Rattle.mc_model.specs.declared.flat.Flat as D
use Rattle.mc_model.specs.declared.flat.Flat.{Flat}
use Rattle.mc_model.specs.declared.flat.Flat.TheOpen as FO
use Rattle.mc_model.specs.declared.flat.Flat.TheVariants as V
use Rattle.mc_model.specs.declared.flat.Flat.TheFolds.{fold-roll-Flat}

pub flat-true : plain_flat D.True ≡ F.And no_flat
flat-true = ap plain_flat (sym V.rolls-True) ∙ fold-roll-Flat Flat_goal plain_flat_step FO.True

pub flat-conj : (gs : List Flat) → plain_flat (D.Conj gs) ≡ F.And (flats (map plain_flat gs))
flat-conj gs = ap plain_flat (sym (V.rolls-Conj gs)) ∙ fold-roll-Flat Flat_goal plain_flat_step (FO.Conj gs)

pub flat-disj : (gs : List Flat) → plain_flat (D.Disj gs) ≡ F.Or (flats (map plain_flat gs))
flat-disj gs = ap plain_flat (sym (V.rolls-Disj gs)) ∙ fold-roll-Flat Flat_goal plain_flat_step (FO.Disj gs)

pub flat-ite : (vs : List ℕ) (c t e : Box Flat Global) → plain_flat (D.Ite vs c t e) ≡ F.If vs (plain_flat c.value) (plain_flat t.value) (plain_flat e.value)
flat-ite vs c t e = ap plain_flat (sym (V.rolls-Ite vs c t e)) ∙ fold-roll-Flat Flat_goal plain_flat_step (FO.Ite vs c t e)

pub flat-not : (g : Box Flat Global) → plain_flat (D.Not g) ≡ F.Not (plain_flat g.value)
flat-not g = ap plain_flat (sym (V.rolls-Not g)) ∙ fold-roll-Flat Flat_goal plain_flat_step (FO.Not g)

pub flat-some : (vs : List ℕ) (g : Box Flat Global) → plain_flat (D.Some vs g) ≡ F.Exists vs (plain_flat g.value)
flat-some vs g = ap plain_flat (sym (V.rolls-Some vs g)) ∙ fold-roll-Flat Flat_goal plain_flat_step (FO.Some vs g)

pub flat-same : (x y : ℕ) → plain_flat (D.Same x y) ≡ F.Same x y
flat-same x y = ap plain_flat (sym (V.rolls-Same x y)) ∙ fold-roll-Flat Flat_goal plain_flat_step (FO.Same x y)

pub flat-made : (x s : ℕ) (ys : List ℕ) → plain_flat (D.Made x s ys) ≡ F.Made x s ys
flat-made x s ys = ap plain_flat (sym (V.rolls-Made x s ys)) ∙ fold-roll-Flat Flat_goal plain_flat_step (FO.Made x s ys)

pub flat-const : (x : ℕ) (v : Value) → plain_flat (D.Const x v) ≡ F.Is x (plain_value v)
flat-const x v = ap plain_flat (sym (V.rolls-Const x v)) ∙ fold-roll-Flat Flat_goal plain_flat_step (FO.Const x v)

pub flat-call : (p : ℕ) (xs : List ℕ) → plain_flat (D.Call p xs) ≡ F.Call p xs
flat-call p xs = ap plain_flat (sym (V.rolls-Call p xs)) ∙ fold-roll-Flat Flat_goal plain_flat_step (FO.Call p xs)
