use Rattle.std.proofs.Common.{rules, ap, sym, ◌∙◌, ◌∷◌, [], FitsSigned}
use Rattle.std.specs.Int.{w64}
use Rattle.std.proofs.lemmas.Int.{to_z-of_z}
use Rattle.mc_program.specs.Values.{Val, int}
use Rattle.mc_model.specs.Builtins.{outcome}
use Rattle.mc_builtins.specs.Answers.{known}
use Rattle.mc_builtins.proofs.Telling.{tells_same, tells_known}
use Rattle.mc_builtins.proofs.applying.at_one.Goals as goal

pub returns-in_ok-of_integer-in-Int-clause-tells : goal.returns-in_ok-of_integer-in-Int-clause-tells
returns-in_ok-of_integer-in-Int-clause-tells c =
    let fits : FitsSigned w64 c.in-Int.a = search rules in
    tells_same _ _ _ (λ input. ap (λ (w : Val). outcome (known c.args.library.now) input c.args.op (w ∷ [])) (c.in-Int.ensures {u = tt} ∙ ap int (sym (to_z-of_z w64 c.in-Int.a fits))) ∙ (c.in_ok-of_integer-in-Int.ensures {u = tt}) (known c.args.library.now) input) _ c.given.ensures.tells

pub returns-in_ok-of_character-in-Char-clause-tells : goal.returns-in_ok-of_character-in-Char-clause-tells
returns-in_ok-of_character-in-Char-clause-tells c =
    tells_same _ _ _ (λ input. ap (λ (w : Val). outcome (known c.args.library.now) input c.args.op (w ∷ [])) (c.in-Char.ensures {u = tt}) ∙ (c.in_ok-of_character-in-Char.ensures {u = tt}) (known c.args.library.now) input) _ c.given-in-Char.ensures.tells

pub returns-in_ok-of_text-in-Text-clause-tells : goal.returns-in_ok-of_text-in-Text-clause-tells
returns-in_ok-of_text-in-Text-clause-tells c =
    tells_same _ _ _ (λ input. ap (λ (w : Val). outcome (known c.args.library.now) input c.args.op (w ∷ [])) (c.in-Text.ensures {u = tt}) ∙ (c.in_ok-of_text-in-Text.ensures {u = tt}) (known c.args.library.now) input) _ c.given-in-Text.ensures.tells

pub returns-in-State-clause-tells : goal.returns-in-State-clause-tells
returns-in-State-clause-tells c = tells_known _ _ (known c.args.library.now) _ c.at_state.ensures.tells
