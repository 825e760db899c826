-- The events of a run are a prefix of those of a larger budget.
use Rattle.std.proofs.Common.{◌≡◌, ℕ, zero, suc, ◌≤◌, map, None, refl, subst, arith}
use Rattle.mc_model.specs.EventList.{Halt, budget, too_deep, thrown, Items, End, Stuck, Stopped, Answer, Called, Wrote, Read, cut}
use Rattle.mc_model.specs.Stream.{below, stream, body_items, calls, run, run_call, run_query}
use Rattle.laws_language.specs.Laws.{IsPrefix, BudgetsExtend, BudgetsExtendCalls, BudgetsExtendQueries}
use Rattle.laws_language.proofs.Levels.{levels_suffice, levels_suffice_for_calls, levels_suffice_for_queries}

stop_prefix : (A : Type 0) (h : Halt) → let x : Items A = Stopped h in IsPrefix x x
stop_prefix A budget = tt
stop_prefix A too_deep = refl
stop_prefix A (thrown e) = refl

cut_prefix : {A : Type 0} (m n : ℕ) → m ≤ n → (xs : Items A) → IsPrefix (cut m xs) (cut n xs)
cut_prefix m n l End = refl
cut_prefix m n l Stuck = refl
cut_prefix {A} m n l (Stopped h) = stop_prefix A h
cut_prefix m n l (Answer a xs) = (cut n xs, refl, cut_prefix m n l xs)
cut_prefix m n l (Wrote t xs) = (cut n xs, refl, cut_prefix m n l xs)
cut_prefix m n l (Read k xs) = (cut n xs, refl, cut_prefix m n l xs)
cut_prefix zero n l (Called c xs) = tt
cut_prefix (suc m) zero l (Called c xs) = absurd (omega arith)
cut_prefix (suc m) (suc n) l (Called c xs) = (cut n xs, refl, cut_prefix m n (omega arith) xs)

-- runs that are cuts of one list of events
extend : {A : Type 0} (m n : ℕ) → m ≤ n → (xs r : Items A) → cut m xs ≡ r → IsPrefix r (cut n xs)
extend m n l xs r e = subst (λ z. IsPrefix z (cut n xs)) e (cut_prefix m n l xs)

pub budgets_extend : BudgetsExtend
budgets_extend B P m n h l goal e =
    extend m n l (stream B (calls B P (suc n)) h goal e) (run B P m h goal e) (levels_suffice B P m (suc n) h (omega arith) goal e)

pub budgets_extend_calls : BudgetsExtendCalls
budgets_extend_calls B P m n h l k vs =
    extend m n l (below h (λ j. calls B P (suc n) j k vs)) (run_call B P m h k vs) (levels_suffice_for_calls B P m (suc n) h (omega arith) k vs)

pub budgets_extend_queries : BudgetsExtendQueries
budgets_extend_queries B P m n h l q =
    extend m n l (body_items B (calls B P (suc n)) h q (map (λ x. None) q.head)) (run_query B P m h q) (levels_suffice_for_queries B P m (suc n) h (omega arith) q)
