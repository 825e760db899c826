use Rattle.std.proofs.Common.{arith, rules, FitsSigned, ◌≡◌, ◌<◌, ◌+◌, ◌++◌, ◌∷◌, [], ℕ, List, length, map, drop, sym, ap, ap₂, ◌∙◌}
use Rattle.std.specs.Int.{w64}
use Rattle.std.proofs.lemmas.Int.{to_z-of_z}
use Rattle.std.proofs.lemmas.List.{at_drop_more}
use Rattle.mc_program.specs.Values.{plain_value}
use Rattle.mc_program.specs.declared.value.Value as V
use Rattle.mc_model.specs.Flat as F
use Rattle.mc_program.proofs.Fronts.{front_last, last_below, rebuilt, opens, closes}
use Rattle.mc_program.proofs.Overs.{made_above, applied_above}
use Rattle.mc_program.specs.Programs.{Expressions, expressions}
use Rattle.mc_program.specs.PlainPrograms.{plain_expression}
use Rattle.mc_program.specs.declared.expr.Expr.{Expr, size-Expr, Str}
use Rattle.mc_accepted.specs.Normal.{Conjuncts, name_terms}
use Rattle.mc_goals.specs.declared.building.Building.{Building}
use Rattle.mc_goals.specs.declared.building.Head.TheVariants.{Con, Apply}
use Rattle.mc_goals.specs.declared.terms.Front.{Front}
use Rattle.mc_goals.specs.code.Numbering.{number_at}
use Rattle.mc_goals.specs.code.Naming.{held, followed, added, with_goal, with_variable, goal_over}
use Rattle.mc_goals.proofs.Views.{plain_expression-Var, plain_expression-Int, plain_expression-Char, plain_expression-Str, plain_expression-Con, plain_expression-Apply}
use Rattle.mc_goals.proofs.Naming.{run, over_front, leaf_variable, leaf_constant, leaf_head, front_named, next_variables, next_held}
use Rattle.mc_goals.proofs.terms.+terms.Goals as goal
use Rattle.mc_goals.proofs.terms.+terms.Goals.{named-in-Var, named-in-Int+in_ok-variable-in-Int, named-in-Char+in_ok-variable-in-Char, named-in-Str+in_ok-copied-in-Str+in_ok-variable-in-Str, named-in-Con+in-empty+in_ok-variable-in-empty, named-in-Apply+in-empty-as_slice+in_ok-variable-in-empty-as_slice}

pub named-loop-rest-preserved-in-len1-up : goal.named-loop-rest-preserved-in-len1-up
named-loop-rest-preserved-in-len1-up t c =
    let names = number_at c.args.numbers.now in
    let last = c.last-item.result in
    let split : c.in-Con.args ≡ _ ++ (last ∷ []) = sym c.as_slice.ensures.items ∙ front_last _ _ c.in-len1-up.len_at_least c.last-item.is in
    let smaller = last_below size-Expr _ _ _ _ split (made_above _ _ _ c.in-Con.is) in
    let args = c.in_ok-args-in-len1-up.args in
    let front : Front = record { head = Con c.in-Con.symbol; args = args } in
    let step = front_named names (Con c.in-Con.symbol) _ _ _ _ _ last args.items (ap plain_expression c.in-Con.is ∙ plain_expression-Con _ _) split (c.in_ok-args-in-len1-up.ensures {u = tt}) in
    (opens (Conjuncts × ℕ) Front over_front _ _ front _ _ _ step (c.in_ok-push-in-len1-up.ensures {u = tt}).items c.loop-rest.invariant.0, omega arith)

pub named-loop-rest-preserved : goal.named-loop-rest-preserved
named-loop-rest-preserved t c =
    let names = number_at c.args.numbers.now in
    let last = c.last-item-in-Apply.result in
    let split : c.in-Apply.args ≡ _ ++ (last ∷ []) = sym c.as_slice-in-Apply.ensures.items ∙ front_last _ _ c.in-len1-up-as_slice.len_at_least c.last-item-in-Apply.is in
    let smaller = last_below size-Expr _ _ _ _ split (applied_above _ _ _ c.in-Apply.is) in
    let args = c.in_ok-args-in-len1-up-as_slice.args in
    let front : Front = record { head = Apply c.in-Apply.function; args = args } in
    let step = front_named names (Apply c.in-Apply.function) _ _ _ _ _ last args.items (ap plain_expression c.in-Apply.is ∙ plain_expression-Apply _ _) split (c.in_ok-args-in-len1-up-as_slice.ensures {u = tt}) in
    (opens (Conjuncts × ℕ) Front over_front _ _ front _ _ _ step (c.in_ok-push-in-len1-up-as_slice.ensures {u = tt}).items c.loop-rest.invariant.0, omega arith)

pub named-loop-front-init : goal.named-loop-front-init
named-loop-front-init t c =
    let names = number_at c.args.numbers.now in
    let s = held c.loop-rest.into in
    let finish : (b : Building) (v : ℕ) → c.match-rest.into ≡ b → c.match-rest.variable ≡ v → (held b, v) ≡ run names s (plain_expression c.loop-rest.rest.now)
    → rebuilt (Conjuncts × ℕ) Front over_front c.loop-rest.fronts.items (held c.match-rest.into, c.match-rest.variable) ≡ run names (held c.args.into.now) (plain_expression c.args.term.now) =
    λ b v i j e. ap (rebuilt (Conjuncts × ℕ) Front over_front c.loop-rest.fronts.items) (ap₂ (λ (d : Building) (w : ℕ). (held d, w)) i j ∙ e) ∙ c.loop-rest.invariant.0 in
    elim c.match-rest.branch [
      | named-in-Var w ↦ finish _ _ w.into-is w.variable-is (leaf_variable names s _ w.in-Var.v _ (ap plain_expression w.in-Var.is ∙ plain_expression-Var _) w.of-variable.ensures)
      | named-in-Int+in_ok-variable-in-Int w ↦
          let made = w.in_ok-variable-in-Int.ensures {u = tt} in
          let fits : FitsSigned w64 w.in-Int.n = search rules in
          let same = ap (λ n. with_goal (F.Is s.next (plain_value (V.Int n))) (with_variable s)) (to_z-of_z w64 w.in-Int.n fits) in
          finish _ _ w.into-is w.variable-is (leaf_constant names s _ _ _ _ (ap plain_expression w.in-Int.is ∙ plain_expression-Int _) (made.made ∙ same) made.value)
      | named-in-Char+in_ok-variable-in-Char w ↦
          let made = w.in_ok-variable-in-Char.ensures {u = tt} in
          finish _ _ w.into-is w.variable-is (leaf_constant names s _ _ _ _ (ap plain_expression w.in-Char.is ∙ plain_expression-Char _) made.made made.value)
      | named-in-Str+in_ok-copied-in-Str+in_ok-variable-in-Str w ↦
          let made = w.in_ok-variable-in-Str.ensures {u = tt} in
          finish _ _ w.into-is w.variable-is
          (leaf_constant names s _ _ _ _ (ap plain_expression w.in-Str.is ∙ ap (λ x. plain_expression (Str x)) (sym (w.in_ok-copied-in-Str.ensures {u = tt})) ∙ plain_expression-Str _) made.made made.value)
      | named-in-Con+in-empty+in_ok-variable-in-empty w ↦
          let made = w.in_ok-variable-in-empty.ensures {u = tt} in
          finish _ _ w.into-is w.variable-is
          (leaf_head names (Con w.in-Con.symbol) s _ _ w.in-Con.args _ _ (ap plain_expression w.in-Con.is ∙ plain_expression-Con _ _) (omega (arith, ap length w.as_slice.ensures.items)) w.new.ensures.items made.made made.value)
      | named-in-Apply+in-empty-as_slice+in_ok-variable-in-empty-as_slice w ↦
          let made = w.in_ok-variable-in-empty-as_slice.ensures {u = tt} in
          finish _ _ w.into-is w.variable-is
          (leaf_head names (Apply w.in-Apply.function) s _ _ w.in-Apply.args _ _ (ap plain_expression w.in-Apply.is ∙ plain_expression-Apply _ _) (omega (arith, ap length w.as_slice-in-Apply.ensures.items)) w.new-in-empty-as_slice.ensures.items made.made made.value)
    ]

pub named-loop-front-preserved : goal.named-loop-front-preserved
named-loop-front-preserved t c =
    let made = c.in_ok-variable.ensures {u = tt} in
    let s = held c.loop-front.into in
    let h = c.in-Some.front.head in
    closes (Conjuncts × ℕ) Front over_front _ _ c.in-Some.front (s, c.loop-front.variable) _ _ (c.in-Some.ensures {u = tt}).items
    (ap₂ (λ (p : Conjuncts) (v : ℕ). (p, v)) made.made made.value ∙ ap (λ vs. (with_goal (goal_over h s.next vs) (with_variable s), s.next)) (c.in_ok-push.ensures {u = tt}).items)
    c.loop-front.invariant

pub named_all-loop-term-preserved : goal.named_all-loop-term-preserved
named_all-loop-term-preserved t c =
    let names = number_at c.args.numbers.now in
    let terms = c.args.terms.now in
    let i = c.loop-term.term-index in
    let s = held c.loop-term.into in
    let s' = held c.named.new.into in
    let vs = c.loop-term.variables.items in
    let all : List Expr → Expressions = λ es. expressions (map plain_expression es) in
    let rest = all (drop (i + 1) terms) in
    let inside : i < length terms = omega arith in
    let step = at_drop_more all terms i c.term-item.result inside ∙ ap (λ (x : Expr). all (x ∷ drop (i + 1) terms)) (sym c.term-item.is) in
    let one = c.in_ok-named.ensures {u = tt} in
    record {
      variables =
          ap (λ l. l ++ (name_terms names s'.next rest).variables) (c.in_ok-push.ensures {u = tt}).items
          ∙ next_variables names s s' (plain_expression c.term-item.result) rest vs _ c.in_ok-named.field-0 one (ap (λ ts. vs ++ (name_terms names s.next ts).variables) (sym step) ∙ c.loop-term.invariant.variables);
      held = next_held names s s' _ (plain_expression c.term-item.result) rest c.in_ok-named.field-0 one (ap (λ ts. followed s (added (name_terms names s.next ts))) (sym step) ∙ c.loop-term.invariant.held);
    }
