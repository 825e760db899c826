-- The predicate of a query.
use Rattle.std.proofs.Common.{◌≡◌, ℕ, List, [], map, length, sym, ap, ap₂, ◌∙◌}
use Rattle.std.specs.Prelude.{None}
use Rattle.std.proofs.lemmas.List.{length-map}
use Rattle.mc_program.specs.Programs.{TypeTerm, Expression, Predicate}
use Rattle.mc_program.specs.PlainPrograms.{plain_type, plain_expression, plain_pred}
use Rattle.mc_program.specs.declared.expr.Expr.{Expr}
use Rattle.mc_program.specs.declared.program.Pred.{Pred}
use Rattle.mc_program.specs.declared.ty.Ty.{Ty}
use Rattle.mc_core_program.specs.code.Rows.{argument_type}

abbrev pub nameless : ℕ → List TypeTerm → Predicate
nameless n ts =
    record {
      name = record { module_name = []; bytes = []; arity = n };
      types = ts;
      clauses = [];
      builtin = None;
    }

pub predicate_made :
    (types : List Ty) (head : List Expr) (var_types : List Ty) (own : List Expr) (p : Pred)
    → plain_pred p ≡ nameless (length types) (map plain_type types)
    → map plain_type types ≡ map (argument_type (map plain_type var_types)) (map plain_expression head)
    → head ≡ own
    → plain_pred p
    ≡ nameless (length (map plain_expression own))
    (map (argument_type (map plain_type var_types)) (map plain_expression own))
predicate_made types head var_types own p is made same =
    let arguments : List Expr → List TypeTerm = λ h. map (argument_type (map plain_type var_types)) (map plain_expression h) in
    let as_many : length types ≡ length (map plain_expression own) =
    sym (length-map types plain_type)
    ∙ ap length (made ∙ ap arguments same)
    ∙ length-map (map plain_expression own) (argument_type (map plain_type var_types))
    in
    is ∙ ap₂ nameless as_many (made ∙ ap arguments same)
