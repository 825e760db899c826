-- Values, types and terms around their last arguments.
use Rattle.std.proofs.Common.{◌≡◌, ℕ, ◌<◌, List, [], ◌∷◌, ◌++◌, refl, ap, sym, ◌∙◌, arith}
use denote.Param.Weighed.{most}
use Rattle.mc_program.specs.declared.value.Value as value
use Rattle.mc_program.specs.declared.value.Value.{Value, size-Value}
use Rattle.mc_program.specs.declared.value.Value.TheViews as values
use Rattle.mc_program.specs.declared.copy.Front.{Front}
use Rattle.mc_program.specs.declared.ty.Ty as ty
use Rattle.mc_program.specs.declared.ty.Ty.{Ty, size-Ty}
use Rattle.mc_program.specs.declared.ty.Ty.TheViews as types
use Rattle.mc_program.specs.declared.ty.UnionFront.{UnionFront}
use Rattle.mc_program.specs.declared.expr.Expr as expr
use Rattle.mc_program.specs.declared.expr.Expr.{Expr, size-Expr}
use Rattle.mc_program.specs.declared.expr.Expr.TheViews as exprs
use Rattle.mc_program.specs.declared.expr.Head.{Head}
use Rattle.mc_program.specs.declared.expr.Head.TheVariants as head
use Rattle.mc_program.specs.declared.expr.TermFront.{TermFront}

abbrev pub over_value : Front → Value → Value
over_value f v = value.Con f.symbol (f.args ++ (v ∷ []))

abbrev pub over_type : UnionFront → Ty → Ty
over_type f t = ty.Union f.number (f.args ++ (t ∷ []))

abbrev pub headed : Head → List Expr → Expr
headed (head.Con s) args = expr.Con s args
headed (head.Apply f) args = expr.Apply f args

abbrev pub over_expr : TermFront → Expr → Expr
over_expr f e = headed f.head (f.args ++ (e ∷ []))

-- what is said of a head by its two kinds is its term
pub is_headed : (h : Head) (args : List Expr) (e : Expr) → ((s : ℕ) → h ≡ head.Con s → e ≡ expr.Con s args) → ((f : ℕ) → h ≡ head.Apply f → e ≡ expr.Apply f args) → e ≡ headed h args
is_headed (head.Con s) args e con app = con s refl
is_headed (head.Apply f) args e con app = app f refl

-- a term is a front of its head and its arguments but the last, around the last
pub stands_over : (f : TermFront) (h : Head) (args : List Expr) (last e : Expr) → f.head ≡ h → e ≡ headed h args → args ≡ f.args ++ (last ∷ []) → e ≡ over_expr f last
stands_over f h args last e hd is split = is ∙ ap (headed h) split ∙ ap (λ k. headed k (f.args ++ (last ∷ []))) (sym hd)

-- arguments are smaller than what they are the arguments of
pub con_above : (s : ℕ) (args : List Value) (v : Value) → v ≡ value.Con s args → most size-Value args < size-Value v
con_above s args v is = let z : size-Value v ≡ size-Value (value.Con s args) = ap size-Value is in omega (arith, z, values.sized-Con s args)

pub union_above : (s : ℕ) (args : List Ty) (t : Ty) → t ≡ ty.Union s args → most size-Ty args < size-Ty t
union_above s args t is = let z : size-Ty t ≡ size-Ty (ty.Union s args) = ap size-Ty is in omega (arith, z, types.sized-Union s args)

pub made_above : (s : ℕ) (args : List Expr) (e : Expr) → e ≡ expr.Con s args → most size-Expr args < size-Expr e
made_above s args e is = let z : size-Expr e ≡ size-Expr (expr.Con s args) = ap size-Expr is in omega (arith, z, exprs.sized-Con s args)

pub applied_above : (f : ℕ) (args : List Expr) (e : Expr) → e ≡ expr.Apply f args → most size-Expr args < size-Expr e
applied_above f args e is = let z : size-Expr e ≡ size-Expr (expr.Apply f args) = ap size-Expr is in omega (arith, z, exprs.sized-Apply f args)
