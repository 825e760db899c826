-- An item that is a clause is the term that was read: no declaration is one.
use Rattle.std.proofs.Common.{Bool, true, false, cond, Option, Some, None}
use Rattle.std.specs.Prelude.{codes}
use Rattle.std.specs.Option.{option_map}
use Rattle.mc_source.specs.declared.det.Det.{Det}
use Rattle.mc_source.specs.declared.rule.Rule.TheVariants as R
use Rattle.mc_program.specs.Programs.{Source}
use Rattle.mc_term_data.specs.Plain.{PlainTerm}
use Rattle.mc_term_data.specs.Shapes.{operands}
use Rattle.mc_items.specs.declared.reason.LeftOut.{LeftOut}
use Rattle.mc_items.specs.Reasons.{item_left_out}
use Rattle.mc_clause_syntax.specs.Clauses.{is_clause}
use Rattle.mc_clause_syntax.specs.Limits.{too_many_arguments, too_many_variables}
use Rattle.mc_decl_syntax.specs.declared.keyword.Keyword.{Keyword}
use Rattle.mc_decl_syntax.specs.declared.keyword.Keyword.TheVariants as K
use Rattle.mc_decl_syntax.specs.Plain.{PlainDecl, ModuleStart, ModuleEnd, Imports, UseOnly, AbstractType, UnionType, SameType, SameInst, BoundInst, ModeDef, Pred, Func, Mode, Pragma, Clause}
use Rattle.mc_decl_syntax.specs.Terms.{path, paths, conjuncts, alternatives, declared_as, declared_part}
use Rattle.mc_decl_syntax.specs.Types.{same_or_abstract, union_or}
use Rattle.mc_decl_syntax.specs.Insts.{same_or_none, bound_or}
use Rattle.mc_decl_syntax.specs.Declarations.{pred_item, func_item, further_mode, definition_or, is_pragma, keyword, declared, declaration}
use Rattle.mc_items.specs.Words as W
use Rattle.mc_items.specs.Verdicts.{PlainVerdict, kept, breaks, declaration_verdict, clause_verdict, form_verdict, unless_left_out, classify}
use Rattle.laws_types.specs.ClauseLaws.{IsOfValues}
use Rattle.laws_sources.specs.ReadValues.{ItemIsOfValues}

module _ (P : Source) where
  abbrev SomeIsOfValues : Option PlainDecl → Type 0
  SomeIsOfValues None = Unit {0}
  SomeIsOfValues (Some i) = ItemIsOfValues P i

  by_test : (b : Bool) (i : PlainDecl) → ItemIsOfValues P i → SomeIsOfValues (cond b (Some i) None)
  by_test true i h = h
  by_test false i h = tt

  by_path : {A : Type 0} (form : A → PlainDecl) (o : Option A) → ((a : A) → ItemIsOfValues P (form a)) → SomeIsOfValues (option_map form o)
  by_path form None h = tt
  by_path form (Some a) h = h a

  same_or_abstract_values : (t : PlainTerm) (o : Option (PlainTerm × PlainTerm)) → SomeIsOfValues (same_or_abstract t o)
  same_or_abstract_values t (Some p) = by_test _ (SameType p.0 p.1) tt
  same_or_abstract_values t None = by_test _ (AbstractType t) tt

  type_values : (t : PlainTerm) (o : Option (PlainTerm × PlainTerm)) → SomeIsOfValues (union_or t o)
  type_values t (Some p) = by_test _ (UnionType p.0 (alternatives p.1)) tt
  type_values t None = same_or_abstract_values t (operands (codes "==") t)

  same_inst_values : (o : Option (PlainTerm × PlainTerm)) → SomeIsOfValues (same_or_none o)
  same_inst_values (Some p) = by_test _ (SameInst p.0 p.1) tt
  same_inst_values None = tt

  inst_values : (t : PlainTerm) (o : Option (PlainTerm × PlainTerm)) → SomeIsOfValues (bound_or t o)
  inst_values t (Some p) = by_test _ (BoundInst p.0 (alternatives p.1)) tt
  inst_values t None = same_inst_values (operands (codes "==") t)

  further_values : (o : Option (PlainTerm × Option Det)) → SomeIsOfValues (further_mode o)
  further_values (Some p) = by_test _ (Mode p.0 p.1) tt
  further_values None = tt

  mode_values : (t : PlainTerm) (o : Option (PlainTerm × PlainTerm)) → SomeIsOfValues (definition_or t o)
  mode_values t (Some p) = by_test _ (ModeDef p.0 p.1) tt
  mode_values t None = further_values (declared_as t)

  pred_values : (o : Option (PlainTerm × Option Det)) → SomeIsOfValues (pred_item o)
  pred_values (Some p) = by_test _ (Pred p.0 p.1) tt
  pred_values None = tt

  func_values : (o : Option (PlainTerm × Option Det)) → SomeIsOfValues (func_item o)
  func_values (Some p) = by_test _ (Func p.0 p.1) tt
  func_values None = tt

  declared_values : (k : Option Keyword) (o : Option PlainTerm) → SomeIsOfValues (declared k o)
  declared_values (Some K.Interface) None = tt
  declared_values (Some K.Interface) (Some t) = tt
  declared_values (Some K.Implementation) None = tt
  declared_values (Some K.Implementation) (Some t) = tt
  declared_values (Some K.Module) (Some t) = by_path ModuleStart (path t) (λ w. tt)
  declared_values (Some K.EndModule) (Some t) = by_path ModuleEnd (path t) (λ w. tt)
  declared_values (Some K.ImportModule) (Some t) = by_path Imports (paths (conjuncts t)) (λ ws. tt)
  declared_values (Some K.UseModule) (Some t) = by_path UseOnly (paths (conjuncts t)) (λ ws. tt)
  declared_values (Some K.TypeWord) (Some t) = type_values t (operands (codes "--->") t)
  declared_values (Some K.Inst) (Some t) = inst_values t (operands (codes "--->") t)
  declared_values (Some K.Mode) (Some t) = mode_values t (operands (codes "==") t)
  declared_values (Some K.Pred) (Some t) = pred_values (declared_as t)
  declared_values (Some K.Func) (Some t) = func_values (declared_as t)
  declared_values (Some K.Pragma) (Some t) = by_test (is_pragma t) Pragma tt
  declared_values _ t = tt

  -- VERDICTS
  abbrev pub VerdictIsOfValues : PlainVerdict → Type 0
  VerdictIsOfValues (kept i) = ItemIsOfValues P i
  VerdictIsOfValues (breaks rule what) = Unit {0}

  declaration_values : (b : Bool) (o : Option PlainDecl) → SomeIsOfValues o → VerdictIsOfValues (declaration_verdict b o)
  declaration_values b None h = tt
  declaration_values true (Some i) h = tt
  declaration_values false (Some i) h = h

  clause_values : (t : PlainTerm) → IsOfValues P t → VerdictIsOfValues (clause_verdict t)
  clause_values t h = go (is_clause t) (too_many_arguments true t) (too_many_variables t)
    where
      go : (a b c : Bool) → VerdictIsOfValues (cond a (cond b (breaks R.L3 W.too_many_arguments) (cond c (breaks R.L4 W.too_many_variables) (kept (Clause t)))) (breaks R.S6 W.not_an_item))
      go true false false = h
      go true true c = tt
      go true false true = tt
      go false b c = tt

  form_values : (t : PlainTerm) (o : Option PlainTerm) → IsOfValues P t → VerdictIsOfValues (form_verdict t o)
  form_values t (Some d) h = declaration_values (too_many_arguments false t) (declaration d) (declared_values (keyword d) _)
  form_values t None h = clause_values t h

  left_out_values : (t : PlainTerm) (o : Option LeftOut) → IsOfValues P t → VerdictIsOfValues (unless_left_out t o)
  left_out_values t (Some form) h = tt
  left_out_values t None h = form_values t (declared_part t) h

  pub judged_values : (t : PlainTerm) → IsOfValues P t → VerdictIsOfValues (classify t)
  judged_values t h = left_out_values t (item_left_out t) h
