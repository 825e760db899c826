-- What is read has the form of its declarations.
use Rattle.std.proofs.Common.{◌≡◌, ℕ, Bool, true, false, ◌&&◌, List, [], ◌∷◌, refl, sym, subst, inl, inr}
use Rattle.std.specs.Prelude.{Option, Some, None, codes, if◌then◌else◌}
use Rattle.std.specs.Option.{is_some, option_map}
use Rattle.std.proofs.lemmas.Bool.{and_parts}
use Rattle.mc_term_data.specs.Plain.{PlainTerm}
use Rattle.mc_term_data.specs.Shapes.{operands}
use Rattle.mc_term_parser.specs.Tree.{term}
use Rattle.mc_source.specs.declared.det.Det.{Det}
use Rattle.mc_decl_syntax.specs.declared.keyword.Keyword.{Keyword}
use Rattle.mc_decl_syntax.specs.declared.keyword.Keyword.TheVariants as K
use Rattle.mc_decl_syntax.specs.Plain.{PlainDecl, ModuleStart, ModuleEnd, Interface, Implementation, Imports, UseOnly, AbstractType, UnionType, SameType, SameInst, BoundInst, ModeDef, Pred, Func, Mode, Pragma, Clause}
use Rattle.mc_decl_syntax.specs.Terms.{path, only, paths, conjuncts, alternatives, parameters, declared_as, declared_part}
use Rattle.mc_decl_syntax.specs.Types.{is_type, are_constructors, same_or_abstract, union_or}
use Rattle.mc_decl_syntax.specs.Insts.{is_inst_body, is_bound_body, is_mode_body, same_or_none, bound_or}
use Rattle.mc_decl_syntax.specs.Declarations.{is_pred, is_func, is_further, is_pragma, keyword, declared, declaration, pred_item, func_item, further_mode, definition_or}
use Rattle.mc_items.specs.declared.reason.LeftOut.{LeftOut}
use Rattle.mc_items.specs.Reasons.{item_left_out}
use Rattle.mc_clause_syntax.specs.Clauses.{is_clause}
use Rattle.mc_clause_syntax.specs.Limits.{too_many_arguments, too_many_variables}
use Rattle.mc_items.specs.Verdicts.{kept, breaks, declaration_verdict, form_verdict, unless_left_out}
use Rattle.mc_items.specs.Files.{item, IsItem}
use Rattle.mc_items.specs.Words as W
use Rattle.mc_source.specs.declared.rule.Rule.{Rule}
use Rattle.mc_source.specs.declared.rule.Rule.TheVariants as R
use Rattle.laws_sources.specs.WellWritten.{HasForm, ItemsHaveForm}

-- what an answer is has the form that the answer has
of_some : (x i : PlainDecl) → HasForm x → Some x ≡ Some i → HasForm i
of_some x i form is = let same : x ≡ i = cc in subst HasForm same form

of_none : (i : PlainDecl) → None ≡ Some i → HasForm i
of_none i is = absurd (let clash : None ≡ Some i = is in cc)

where_true :
    (b : Bool) (x i : PlainDecl)
    → (b ≡ true → HasForm x) → (if b then Some x else None) ≡ Some i → HasForm i
where_true true x i form is = of_some x i (form refl) is
where_true false x i form is = of_none i is

of_map :
    {A : Type 0} (f : A → PlainDecl) (o : Option A) (i : PlainDecl)
    → ((a : A) → HasForm (f a)) → option_map f o ≡ Some i → HasForm i
of_map f None i form is = of_none i is
of_map f (Some a) i form is = of_some (f a) i (form a) is

-- TYPES
of_same : (o : Option (PlainTerm × PlainTerm)) (t : PlainTerm) (i : PlainDecl) → same_or_abstract t o ≡ Some i → HasForm i
of_same (Some p) t i is =
    where_true (is_some (parameters p.0) && is_type p.1) (SameType p.0 p.1) i
    (and_parts (is_some (parameters p.0)) (is_type p.1)) is
of_same None t i is = where_true (is_some (parameters t)) (AbstractType t) i (λ e. tt) is

of_union : (o : Option (PlainTerm × PlainTerm)) (t : PlainTerm) (i : PlainDecl) → union_or t o ≡ Some i → HasForm i
of_union (Some p) t i is =
    where_true (is_some (parameters p.0) && are_constructors (alternatives p.1)) (UnionType p.0 (alternatives p.1)) i
    (and_parts (is_some (parameters p.0)) (are_constructors (alternatives p.1))) is
of_union None t i is = of_same (operands (codes "==") t) t i is

-- INSTS AND MODES
of_same_inst : (o : Option (PlainTerm × PlainTerm)) (i : PlainDecl) → same_or_none o ≡ Some i → HasForm i
of_same_inst (Some p) i is = where_true (is_inst_body (parameters p.0) p.1) (SameInst p.0 p.1) i (λ e. tt) is
of_same_inst None i is = of_none i is

of_bound_inst : (o : Option (PlainTerm × PlainTerm)) (t : PlainTerm) (i : PlainDecl) → bound_or t o ≡ Some i → HasForm i
of_bound_inst (Some p) t i is = where_true (is_bound_body (parameters p.0) p.1) (BoundInst p.0 (alternatives p.1)) i (λ e. tt) is
of_bound_inst None t i is = of_same_inst (operands (codes "==") t) i is

of_further : (o : Option (PlainTerm × Option Det)) (i : PlainDecl) → further_mode o ≡ Some i → HasForm i
of_further None i is = of_none i is
of_further (Some p) i is = where_true (is_further p.0 (operands (codes "=") p.0)) (Mode p.0 p.1) i (λ e. tt) is

of_mode : (o : Option (PlainTerm × PlainTerm)) (t : PlainTerm) (i : PlainDecl) → definition_or t o ≡ Some i → HasForm i
of_mode (Some p) t i is = where_true (is_mode_body (parameters p.0) p.1) (ModeDef p.0 p.1) i (λ e. tt) is
of_mode None t i is = of_further (declared_as t) i is

-- PREDICATES AND FUNCTIONS
of_pred : (o : Option (PlainTerm × Option Det)) (i : PlainDecl) → pred_item o ≡ Some i → HasForm i
of_pred None i is = of_none i is
of_pred (Some p) i is = where_true (is_pred p.0 (is_some p.1)) (Pred p.0 p.1) i (λ e. e) is

of_func : (o : Option (PlainTerm × Option Det)) (i : PlainDecl) → func_item o ≡ Some i → HasForm i
of_func None i is = of_none i is
of_func (Some p) i is = where_true (is_func (operands (codes "=") p.0) (is_some p.1)) (Func p.0 p.1) i (λ e. e) is

of_declared : (k : Option Keyword) (o : Option PlainTerm) (i : PlainDecl) → declared k o ≡ Some i → HasForm i
of_declared None o i is = of_none i is
of_declared (Some K.Interface) None i is = of_some Interface i tt is
of_declared (Some K.Interface) (Some t) i is = of_none i is
of_declared (Some K.Implementation) None i is = of_some Implementation i tt is
of_declared (Some K.Implementation) (Some t) i is = of_none i is
of_declared (Some K.Module) None i is = of_none i is
of_declared (Some K.Module) (Some t) i is = of_map ModuleStart (path t) i (λ w. tt) is
of_declared (Some K.EndModule) None i is = of_none i is
of_declared (Some K.EndModule) (Some t) i is = of_map ModuleEnd (path t) i (λ w. tt) is
of_declared (Some K.ImportModule) None i is = of_none i is
of_declared (Some K.ImportModule) (Some t) i is = of_map Imports (paths (conjuncts t)) i (λ w. tt) is
of_declared (Some K.UseModule) None i is = of_none i is
of_declared (Some K.UseModule) (Some t) i is = of_map UseOnly (paths (conjuncts t)) i (λ w. tt) is
of_declared (Some K.TypeWord) None i is = of_none i is
of_declared (Some K.TypeWord) (Some t) i is = of_union (operands (codes "--->") t) t i is
of_declared (Some K.Inst) None i is = of_none i is
of_declared (Some K.Inst) (Some t) i is = of_bound_inst (operands (codes "--->") t) t i is
of_declared (Some K.Mode) None i is = of_none i is
of_declared (Some K.Mode) (Some t) i is = of_mode (operands (codes "==") t) t i is
of_declared (Some K.Pred) None i is = of_none i is
of_declared (Some K.Pred) (Some t) i is = of_pred (declared_as t) i is
of_declared (Some K.Func) None i is = of_none i is
of_declared (Some K.Func) (Some t) i is = of_func (declared_as t) i is
of_declared (Some K.Pragma) None i is = of_none i is
of_declared (Some K.Pragma) (Some t) i is = where_true (is_pragma t) Pragma i (λ e. tt) is

-- VERDICTS
broken : (r : Rule) (w : List ℕ) (i : PlainDecl) → breaks r w ≡ kept i → HasForm i
broken r w i is = absurd (let clash : breaks r w ≡ kept i = is in cc)

of_kept : (x i : PlainDecl) → HasForm x → kept x ≡ kept i → HasForm i
of_kept x i form is = let same : x ≡ i = cc in subst HasForm same form

of_declaration : (b : Bool) (o : Option PlainDecl) (i : PlainDecl) → ((x : PlainDecl) → o ≡ Some x → HasForm x) → declaration_verdict b o ≡ kept i → HasForm i
of_declaration b None i form is = broken _ _ i is
of_declaration true (Some x) i form is = broken _ _ i is
of_declaration false (Some x) i form is = of_kept x i (form x refl) is

of_clause : (t : PlainTerm) (a b c : Bool) (i : PlainDecl)
    → (if a then (if b then breaks R.L3 W.too_many_arguments else if c then breaks R.L4 W.too_many_variables else kept (Clause t)) else breaks R.S6 W.not_an_item) ≡ kept i → HasForm i
of_clause t false b c i is = broken _ _ i is
of_clause t true true c i is = broken _ _ i is
of_clause t true false true i is = broken _ _ i is
of_clause t true false false i is = of_kept (Clause t) i tt is

of_form : (t : PlainTerm) (o : Option PlainTerm) (i : PlainDecl) → form_verdict t o ≡ kept i → HasForm i
of_form t (Some d) i is = of_declaration (too_many_arguments false t) (declaration d) i (of_declared (keyword d) (only d)) is
of_form t None i is = of_clause t (is_clause t) (too_many_arguments true t) (too_many_variables t) i is

of_judged : (t : PlainTerm) (o : Option LeftOut) (i : PlainDecl) → unless_left_out t o ≡ kept i → HasForm i
of_judged t (Some form) i is = broken _ _ i is
of_judged t None i is = of_form t (declared_part t) i is

item_has_form : (text : List ℕ) (from line next : ℕ) (i : PlainDecl) → IsItem text from (kept i) line next → HasForm i
item_has_form text from line next i (inl read) = of_judged (term read.tree) (item_left_out (term read.tree)) i (sym read.is)
item_has_form text from line next i (inr other) = broken other.broken.0 other.broken.1 i (sym other.is)

pub items_have_form : ItemsHaveForm
items_have_form file from text [] read = tt
items_have_form file from text ((kept i, line) ∷ vs) (item is rest) = (item_has_form _ _ _ _ i is, items_have_form file _ text vs rest)
items_have_form file from text ((breaks r w, line) ∷ vs) (item is rest) = items_have_form file _ text vs rest
