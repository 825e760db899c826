use Rattle.std.proofs.Common.{rules, FitsSigned, ap, ap₂, sym, ◌∙◌, ◌∷◌, [], option_copied}
use Rattle.std.specs.Int.{w64}
use Rattle.std.proofs.lemmas.Int.{to_z-of_z}
use Rattle.mc_program.specs.Values.{Val, int}
use Rattle.mc_model.specs.Builtins.{outcome}
use Rattle.mc_builtins.specs.Answers.{known}
use Rattle.mc_builtins.proofs.Telling.{tells_same, is_int, is_str}
use Rattle.mc_builtins.proofs.applying.at_two.Goals as goal

pub returns-in-Some-clause-tells : goal.returns-in-Some-clause-tells
returns-in-Some-clause-tells c =
    let left : FitsSigned w64 c.in-Some.a = search rules in
    let right : FitsSigned w64 c.in-Int.b = search rules in
    let a = is_int _ _ (sym c.in-Some.is ∙ c.int_at.ensures) ∙ ap int (sym (to_z-of_z w64 c.in-Some.a left)) in
    let b = c.in-Int.ensures {u = tt} ∙ ap int (sym (to_z-of_z w64 c.in-Int.b right)) in
    tells_same _ _ _ (λ input. ap₂ (λ (w u : Val). outcome (known c.args.library.now) input c.args.op (w ∷ u ∷ [])) a b ∙ c.of_integers.ensures (known c.args.library.now) input) _ c.given.ensures.tells

pub returns-in_ok-of_texts-in-Some-text_at-clause-tells : goal.returns-in_ok-of_texts-in-Some-text_at-clause-tells
returns-in_ok-of_texts-in-Some-text_at-clause-tells c =
    tells_same _ _ _ (λ input. ap₂ (λ (w u : Val). outcome (known c.args.library.now) input c.args.op (w ∷ u ∷ [])) (is_str _ _ (ap option_copied (sym c.in-Some-text_at.is) ∙ c.text_at.ensures)) (c.in-Text.ensures {u = tt}) ∙ (c.in_ok-of_texts-in-Some-text_at.ensures {u = tt}) (known c.args.library.now) input) _ c.given-in-Some-text_at.ensures.tells
