-- The arguments of a head are met one after another.
use Rattle.std.proofs.Common.{◌≡◌, ℕ, zero, suc, ◌+◌, ◌<◌, ◌≤◌, List, [], ◌∷◌, ◌++◌, map, length, take, get_or, Some, None, refl, sym, ap, ◌∙◌, subst, arith, append-nil}
use Rattle.std.proofs.lemmas.List.{map-append, take_more}
use Rattle.std.proofs.lemmas.Option.{same_Some}
use Rattle.mc_program.specs.Programs.{Expression, variable, constant, made, applied}
use Rattle.mc_program.specs.PlainPrograms.{plain_expression}
use Rattle.mc_program.specs.declared.expr.Expr.{Expr}
use Rattle.mc_accepted.specs.Scope.{variables_in}
use Rattle.mc_goals.specs.declared.numbering.Numbering.{Numbering}
use Rattle.mc_goals.specs.code.Naming.{variable_in}
use Rattle.mc_goals.specs.code.Meeting.{MetArgument, Knows, head_variables}
use Rattle.mc_goals.proofs.Heads.{head_variables-append, knows_term, knows_variable}

is_variable : (t : Expression) (v : ℕ) → Some v ≡ variable_in t → t ≡ variable v
is_variable (variable y) v h = ap variable (sym (same_Some v y h))
is_variable (constant c) v h = cc
is_variable (made f us) v h = cc
is_variable (applied f us) v h = cc

pub met_variable : (n : ℕ) (hs : List Expression) (v place : ℕ) (b b' : Numbering) (t : Expression) → Some v ≡ variable_in t → place ≡ length hs
    → Knows n hs (head_variables hs) b → MetArgument b v place b' → Knows n (hs ++ t ∷ []) (head_variables hs ++ variables_in t) b'
met_variable n hs v place b b' t is at k m =
    let t_is : variable v ≡ t = sym (is_variable t v is) in
    let m' : MetArgument b v (length hs) b' = subst (λ i. MetArgument b v i b') at m in
    subst (λ x. Knows n (hs ++ x ∷ []) (head_variables hs ++ variables_in x) b') t_is (knows_variable n hs v b b' k m')

pub met_term : (n : ℕ) (hs : List Expression) (vs : List ℕ) (b' : Numbering) (t : Expression) → None ≡ variable_in t → vs ≡ variables_in t
    → Knows n hs (head_variables hs ++ vs) b' → Knows n (hs ++ t ∷ []) (head_variables hs ++ variables_in t) b'
met_term n hs vs b' t is e k = knows_term n hs t (head_variables hs ++ variables_in t) b' (sym is) (subst (λ l. Knows n hs (head_variables hs ++ l) b') e k)

abbrev pub front : List Expr → ℕ → List Expression
front es k = map plain_expression (take k es)

pub front_length : (es : List Expr) (k : ℕ) → k ≤ length es → k ≡ length (front es k)
front_length es zero h = refl
front_length [] (suc k) h = absurd (omega (arith, h))
front_length (e ∷ es) (suc k) h = ap suc (front_length es k (omega (arith, h)))

pub next_front : (n : ℕ) (es : List Expr) (k : ℕ) (e : Expr) (b : Numbering) → k < length es → e ≡ get_or es k e
    → Knows n (front es k ++ plain_expression e ∷ []) (head_variables (front es k) ++ variables_in (plain_expression e)) b → Knows n (front es (k + 1)) (head_variables (front es (k + 1))) b
next_front n es k e b h is k' =
    let one : front es (k + 1) ≡ front es k ++ plain_expression e ∷ [] =
    ap (map plain_expression) (take_more es k e h ∙ ap (λ x. take k es ++ x ∷ []) (sym is)) ∙ map-append plain_expression (take k es) (e ∷ []) in
    let vars : head_variables (front es (k + 1)) ≡ head_variables (front es k) ++ variables_in (plain_expression e) =
    ap head_variables one ∙ head_variables-append (front es k) (plain_expression e ∷ []) ∙ ap (λ l. head_variables (front es k) ++ l) (append-nil (variables_in (plain_expression e))) in
    subst (λ l. Knows n (front es (k + 1)) l b) (sym vars) (subst (λ l. Knows n l (head_variables (front es k) ++ variables_in (plain_expression e)) b) (sym one) k')
