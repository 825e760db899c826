use Rattle.std.proofs.Common.{List, ℕ, drop, sym, ◌∙◌, subst, arith}
use Rattle.std.specs.Prelude.{IfOk}
use Rattle.mc_tokens.specs.Answers.{IsUtf8Text}
use Rattle.mc_tokens.specs.declared.token.Kind.{Kind}
use Rattle.mc_tokens.proofs.Texts.{spoken_utf8, plain_stands, plain_utf8, answer_by}
use Rattle.mc_tokens.proofs.spoken.token_text.Goals as goal

pub returns-in-Quoted-clause-utf8 : goal.returns-in-Quoted-clause-utf8
returns-in-Quoted-clause-utf8 c =
    subst (λ (k : Kind). IfOk c.spoken.result (IsUtf8Text k c.args.token.now.text.now)) (sym c.in-Quoted.is) (spoken_utf8 c.spoken.result 39 (drop 1 c.args.token.now.text.now) (omega arith) c.spoken.ensures)

pub returns-in-Str-clause-utf8 : goal.returns-in-Str-clause-utf8
returns-in-Str-clause-utf8 c =
    subst (λ (k : Kind). IfOk c.spoken-in-Str.result (IsUtf8Text k c.args.token.now.text.now)) (sym c.in-Str.is) (spoken_utf8 c.spoken-in-Str.result 34 (drop 1 c.args.token.now.text.now) (omega arith) c.spoken-in-Str.ensures)

pub returns-in_default : goal.returns-in_default
returns-in_default c =
    let kind = c.args.token.now.kind in
    let bytes = c.args.token.now.text.now in
    record {
      value = answer_by c.new.result (λ t e. e ∙ sym (plain_stands kind bytes c.in_default.not-Quoted c.in_default.not-Str)) c.new.ensures;
      utf8 = answer_by c.new.result (λ t e. subst (λ (l : List ℕ). IsUtf8Text kind bytes l) (sym e) (plain_utf8 kind bytes c.in_default.not-Quoted c.in_default.not-Str)) c.new.ensures;
    }
