-- The variables of a term's arguments, the last one's last.
use Rattle.std.proofs.Common.{◌≡◌, ℕ, List, [], ◌∷◌, ◌++◌, map, length, refl, sym, ap, ◌∙◌, append_assoc, append-nil}
use Rattle.std.proofs.lemmas.List.{map-append}
use Rattle.mc_program.specs.Programs.{Expression, Expressions, expressions}
use Rattle.mc_program.specs.PlainPrograms.{plain_expression}
use Rattle.mc_program.specs.declared.expr.Expr.{Expr}
use Rattle.mc_accepted.specs.Scope.{variables_in, variables_in_all}
use Rattle.mc_goals.specs.declared.building.Head.{Head}
use Rattle.mc_goals.specs.declared.building.Head.TheVariants as H
use Rattle.mc_goals.specs.code.Meeting.{head_variables}
use Rattle.mc_goals.proofs.Naming.{headed, no_elements}
use Rattle.mc_goals.proofs.Heads.{head_variables-append}

of_headed : (h : Head) (ts : Expressions) → variables_in (headed h ts) ≡ variables_in_all ts
of_headed (H.Con s) ts = refl
of_headed (H.Apply f) ts = refl

pub front_pushed : (h : Head) (t : Expression) (args front : List Expr) (last : Expr) (list list' W : List ℕ) → t ≡ headed h (expressions (map plain_expression args)) → args ≡ front ++ last ∷ []
    → list' ≡ list ++ variables_in_all (expressions (map plain_expression front)) → list ++ variables_in t ≡ W → list' ++ variables_in (plain_expression last) ≡ W
front_pushed h t args front last list list' W is split pushed whole =
    let of_front = head_variables (map plain_expression front) in
    let of_last = variables_in (plain_expression last) in
    let all : variables_in t ≡ of_front ++ of_last =
    ap variables_in is ∙ of_headed h (expressions (map plain_expression args)) ∙ ap (λ (es : List Expr). head_variables (map plain_expression es)) split
    ∙ ap head_variables (map-append plain_expression front (last ∷ []))
    ∙ head_variables-append (map plain_expression front) (plain_expression last ∷ [])
    ∙ ap (λ l. of_front ++ l) (append-nil of_last) in
    ap (λ l. l ++ of_last) pushed ∙ append_assoc list of_front of_last ∙ ap (λ l. list ++ l) (sym all) ∙ whole

pub none_pushed : (h : Head) (t : Expression) (args : List Expr) (list W : List ℕ) → t ≡ headed h (expressions (map plain_expression args)) → length args ≡ 0 → list ++ variables_in t ≡ W → list ≡ W
none_pushed h t args list W is none whole =
    let all : variables_in t ≡ [] =
    ap variables_in is ∙ of_headed h (expressions (map plain_expression args)) ∙ ap (λ (es : List Expr). head_variables (map plain_expression es)) (no_elements args none) in
    sym (append-nil list) ∙ ap (λ l. list ++ l) (sym all) ∙ whole
