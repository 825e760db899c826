-- `X = 1` from a free X is in order as the goal that binds X.
use Rattle.std.proofs.Common.{◌≡◌, ℕ, List, Option, None, Some, cond, ap, refl, arith}
use Rattle.std.proofs.lemmas.Bool.{eqb-false}
use Rattle.mc_program.specs.Values.{Val}
use Rattle.mc_program.specs.Programs.{TypeTerm, int_type}
use Rattle.mc_model.specs.Flat as F
use Rattle.mc_model.specs.Scheduled.{Node, node, TestConst}
use Rattle.mc_accepted.specs.Ordered.{Insts, OrderedNode, kept, put, test_constant, test_never}
use Rattle.mc_accepted.specs.Fits.{type_of}
use Rattle.mc_accepted.specs.Forms.{at}
use Rattle.mc_accepted.specs.Arranged.{unless_unmet}
use Rattle.mc_accepted.specs.Unmarked.{unmarked_node}
use Rattle.laws_order.specs.code.ExamplesOfInOrder.{becomes_one, is_one, ones, one_system, OneInOrder, OnesInOrder}

binds-one : OneInOrder becomes_one
binds-one =
    record {
      computed = λ fits tells. ap (λ t. unless_unmet (unmarked_node becomes_one) (cond t None (Some 0))) ((tells (at 1) 1 int_type).1 (λ path e a. a));
      related = kept (put refl) ((λ x. refl), (omega arith, tt), (eqb-false 0 1 refl, tt));
    }

abbrev IsTest : Node → Type 0
IsTest (node (TestConst x v) changes d m) = Unit {0}
IsTest n = ⊥

no-test : (T : ℕ → TypeTerm) (O Q : List ℕ) (b : Insts) (v : Val) (n : Node) (o : Option Insts) → OrderedNode one_system T O Q b (F.Is 0 v) n o → IsTest n → b 0 ≡ 0 → ⊥
no-test T O Q b v n o (kept (put e) k) t free = t
no-test T O Q b v n o (kept (test_constant bound nd ac) k) t free = bound free
no-test T O Q b v n o (kept (test_never bound nd ac) k) t free = bound free

pub ones-in-order : OnesInOrder
ones-in-order = (binds-one, (λ h. no-test (type_of one_system ones) _ _ _ _ is_one _ h.related tt refl))
