-- As many levels of calls as the budget allows are enough for a run.
use Rattle.std.proofs.Common.{◌≡◌, ℕ, zero, suc, ◌≤◌, List, map, Bool, true, false, cond, Option, None, refl, sym, ap, ◌∙◌, arith}
use Rattle.mc_program.specs.Values.{Val}
use Rattle.mc_model.specs.EventList.{Made_call, Halt, budget, Items, End, Stuck, Stopped, Answer, Called, Wrote, Read, append, bind, choose, first, negate, cut}
use Rattle.mc_model.specs.Scheduled.{Node, node, Scheduled, Conj, Disj, Switch, Ite, Not, Exists, Assign, Test, Build, Take, Const, TestConst, Call, Apply, Nodes, no_nodes, node_then, Arms, no_arms, arm_then, Procedure}
use Rattle.mc_model.specs.Stream.{Bindings, Calls, below, at_height, pruned_to, stream, stream_of, stream_all, stream_any, stream_arms, ready, enter, body_items, calls}
use Rattle.laws_language.specs.Laws.{Meaning, Procedures, LevelsSuffice, LevelsSufficeForCalls, LevelsSufficeForQueries, OneLevelMore}

-- the same events before the call number n + 1; there, or at the stop at the budget, either may stop
pub data Alike {A : Type 0} : ℕ → Items A → Items A → Type 0 where
  at_end : {n : ℕ} → Alike n End End
  at_stuck : {n : ℕ} → Alike n Stuck Stuck
  at_stop : {n : ℕ} {w : Halt} → Alike n (Stopped w) (Stopped w)
  at_answer : {n : ℕ} {a : A} {xs ys : Items A} → Alike n xs ys → Alike n (Answer a xs) (Answer a ys)
  at_text : {n : ℕ} {t : List ℕ} {xs ys : Items A} → Alike n xs ys → Alike n (Wrote t xs) (Wrote t ys)
  at_reading : {n k : ℕ} {xs ys : Items A} → Alike n xs ys → Alike n (Read k xs) (Read k ys)
  at_call : {n : ℕ} {p : Made_call} {xs ys : Items A} → Alike n xs ys → Alike (suc n) (Called p xs) (Called p ys)
  at_both : {p q : Made_call} {xs ys : Items A} → Alike zero (Called p xs) (Called q ys)
  at_right : {q : Made_call} {ys : Items A} → Alike zero (Stopped budget) (Called q ys)

module _ {A : Type 0} where
  pub alike_cut : {n : ℕ} {xs ys : Items A} → Alike n xs ys → cut n xs ≡ cut n ys
  alike_cut at_end = refl
  alike_cut at_stuck = refl
  alike_cut at_stop = refl
  alike_cut (at_answer {a = a} h) = ap (Answer a) (alike_cut h)
  alike_cut (at_text {t = t} h) = ap (Wrote t) (alike_cut h)
  alike_cut (at_reading {k = k} h) = ap (Read k) (alike_cut h)
  alike_cut (at_call {p = p} h) = ap (Called p) (alike_cut h)
  alike_cut at_both = refl
  alike_cut at_right = refl

  alike_less : {n : ℕ} {xs ys : Items A} → Alike (suc n) xs ys → Alike n xs ys
  alike_less at_end = at_end
  alike_less at_stuck = at_stuck
  alike_less at_stop = at_stop
  alike_less (at_answer h) = at_answer (alike_less h)
  alike_less (at_text h) = at_text (alike_less h)
  alike_less (at_reading h) = at_reading (alike_less h)
  alike_less {n = zero} (at_call h) = at_both
  alike_less {n = suc n} (at_call h) = at_call (alike_less h)

  alike_refl : (n : ℕ) (xs : Items A) → Alike n xs xs
  alike_refl n End = at_end
  alike_refl n Stuck = at_stuck
  alike_refl n (Stopped w) = at_stop
  alike_refl n (Answer a xs) = at_answer (alike_refl n xs)
  alike_refl n (Wrote t xs) = at_text (alike_refl n xs)
  alike_refl n (Read k xs) = at_reading (alike_refl n xs)
  alike_refl zero (Called p xs) = at_both
  alike_refl (suc n) (Called p xs) = at_call (alike_refl n xs)

  alike_append : {n : ℕ} {xs ys : Items A} → Alike n xs ys → (us vs : Items A) → Alike n us vs → Alike n (append xs us) (append ys vs)
  alike_append at_end us vs k = k
  alike_append at_stuck us vs k = at_stuck
  alike_append at_stop us vs k = at_stop
  alike_append (at_answer h) us vs k = at_answer (alike_append h us vs k)
  alike_append (at_text h) us vs k = at_text (alike_append h us vs k)
  alike_append (at_reading h) us vs k = at_reading (alike_append h us vs k)
  alike_append (at_call h) us vs k = at_call (alike_append h us vs (alike_less k))
  alike_append at_both us vs k = at_both
  alike_append at_right us vs k = at_right

  alike_first : {n : ℕ} {xs ys : Items A} → Alike n xs ys → Alike n (first xs) (first ys)
  alike_first at_end = at_end
  alike_first at_stuck = at_stuck
  alike_first at_stop = at_stop
  alike_first (at_answer h) = at_answer at_end
  alike_first (at_text h) = at_text (alike_first h)
  alike_first (at_reading h) = at_reading (alike_first h)
  alike_first (at_call h) = at_call (alike_first h)
  alike_first at_both = at_both
  alike_first at_right = at_right

alike_below : {A : Type 0} (n h : ℕ) (f g : ℕ → Items A) → ((k : ℕ) → Alike n (f k) (g k)) → Alike n (below h f) (below h g)
alike_below n zero f g k = at_stop
alike_below n (suc h) f g k = k h

alike_height : {A : Type 0} (n : ℕ) (last : Bool) (h : ℕ) (f g : ℕ → Items A) → ((k : ℕ) → Alike n (f k) (g k)) → Alike n (at_height last h f) (at_height last h g)
alike_height n true h f g k = k h
alike_height n false h f g k = alike_below n h f g k

alike_pruned : {A : Type 0} {n : ℕ} {xs ys : Items A} (t : Bool) → Alike n xs ys → Alike n (pruned_to t xs) (pruned_to t ys)
alike_pruned false k = k
alike_pruned true k = alike_first k

module _ {A B : Type 0} where
  alike_bind : {n : ℕ} {xs ys : Items A} → Alike n xs ys → (f g : A → Items B) → ((a : A) → Alike n (f a) (g a)) → Alike n (bind xs f) (bind ys g)
  alike_bind at_end f g k = at_end
  alike_bind at_stuck f g k = at_stuck
  alike_bind at_stop f g k = at_stop
  alike_bind (at_answer {a = a} {xs = xs} {ys = ys} h) f g k = alike_append (k a) (bind xs f) (bind ys g) (alike_bind h f g k)
  alike_bind (at_text h) f g k = at_text (alike_bind h f g k)
  alike_bind (at_reading h) f g k = at_reading (alike_bind h f g k)
  alike_bind (at_call h) f g k = at_call (alike_bind h f g (λ a. alike_less (k a)))
  alike_bind at_both f g k = at_both
  alike_bind at_right f g k = at_right

  alike_choose : {n : ℕ} {xs ys : Items A} → Alike n xs ys → (f g : A → Items B) (us vs : Items B) → ((a : A) → Alike n (f a) (g a)) → Alike n us vs → Alike n (choose xs f us) (choose ys g vs)
  alike_choose at_end f g us vs k l = l
  alike_choose at_stuck f g us vs k l = at_stuck
  alike_choose at_stop f g us vs k l = at_stop
  alike_choose (at_answer {a = a} {xs = xs} {ys = ys} h) f g us vs k l = alike_append (k a) (bind xs f) (bind ys g) (alike_bind h f g k)
  alike_choose (at_text h) f g us vs k l = at_text (alike_choose h f g us vs k l)
  alike_choose (at_reading h) f g us vs k l = at_reading (alike_choose h f g us vs k l)
  alike_choose (at_call h) f g us vs k l = at_call (alike_choose h f g us vs (λ a. alike_less (k a)) (alike_less l))
  alike_choose at_both f g us vs k l = at_both
  alike_choose at_right f g us vs k l = at_right

  alike_negate : {n : ℕ} {xs ys : Items A} → Alike n xs ys → (b : B) → Alike n (negate b xs) (negate b ys)
  alike_negate at_end b = at_answer at_end
  alike_negate at_stuck b = at_stuck
  alike_negate at_stop b = at_stop
  alike_negate (at_answer h) b = at_end
  alike_negate (at_text h) b = at_text (alike_negate h b)
  alike_negate (at_reading h) b = at_reading (alike_negate h b)
  alike_negate (at_call h) b = at_call (alike_negate h b)
  alike_negate at_both b = at_both
  alike_negate at_right b = at_right

module _ (B : Meaning) (n : ℕ) (C D : Calls) (K : (h p : ℕ) (vs : List (Option Val)) → Alike n (C h p vs) (D h p vs)) (h : ℕ) where
  mutual
    pub alike : (goal : Node) (e : Bindings) → Alike n (stream B C h goal e) (stream B D h goal e)
    alike (node s changes det pruned) e = alike_pruned pruned (alike_of s e)

    alike_of : (s : Scheduled) (e : Bindings) → Alike n (stream_of B C h s e) (stream_of B D h s e)
    alike_of (Conj ns) e = alike_all ns e
    alike_of (Disj ns) e = alike_any ns e
    alike_of (Switch v arms) e = alike_arms arms e
    alike_of (Ite vs c t f) e = alike_choose (alike c e) _ _ _ _ (λ a. alike t a) (alike f e)
    alike_of (Not g) e = alike_negate (alike g e) e
    alike_of (Exists vs g) e = alike g e
    alike_of (Assign x y) e = alike_refl n _
    alike_of (Test x y) e = alike_refl n _
    alike_of (Build x f ys) e = alike_refl n _
    alike_of (Take x f ys) e = alike_refl n _
    alike_of (Const x v) e = alike_refl n _
    alike_of (TestConst x v) e = alike_refl n _
    alike_of (Call p xs implied last) e = alike_height n last h _ _ (λ k. alike_bind (K k p (map e xs)) _ _ (λ vs. alike_refl n _))
    alike_of (Apply op xs ys) e = alike_refl n _

    alike_all : (ns : Nodes) (e : Bindings) → Alike n (stream_all B C h ns e) (stream_all B D h ns e)
    alike_all no_nodes e = at_answer at_end
    alike_all (node_then g ns) e = alike_bind (alike g e) _ _ (λ a. alike_all ns a)

    alike_any : (ns : Nodes) (e : Bindings) → Alike n (stream_any B C h ns e) (stream_any B D h ns e)
    alike_any no_nodes e = at_end
    alike_any (node_then g ns) e = alike_append (alike g e) _ _ (alike_any ns e)

    alike_arms : (arms : Arms) (e : Bindings) → Alike n (stream_arms B C h arms e) (stream_arms B D h arms e)
    alike_arms no_arms e = at_end
    alike_arms (arm_then l g arms) e = alike_append (alike g e) _ _ (alike_arms arms e)

alike_cond : {A : Type 0} {n : ℕ} {xs ys : Items A} (t : Bool) → Alike n xs ys → Alike n (cond t xs Stuck) (cond t ys Stuck)
alike_cond true k = k
alike_cond false k = at_stuck

alike_body : (B : Meaning) (n : ℕ) (C D : Calls) → ((h p : ℕ) (vs : List (Option Val)) → Alike n (C h p vs) (D h p vs)) → (h : ℕ) (q : Procedure) (vs : List (Option Val)) → Alike n (body_items B C h q vs) (body_items B D h q vs)
alike_body B n C D K h q vs =
    alike_cond (ready q.first vs) (alike_pruned q.det.committed (alike_bind (alike B n C D K h q.body (enter q.head q.first vs)) _ _ (λ a. alike_refl n _)))

calls_alike : (B : Meaning) (P : Procedures) (n m : ℕ) → n ≤ m → (h p : ℕ) (vs : List (Option Val)) → Alike n (calls B P n h p vs) (calls B P m h p vs)
calls_alike B P zero zero l h p vs = at_stop
calls_alike B P zero (suc m) l h p vs = at_right
calls_alike B P (suc n) zero l h p vs = absurd (omega arith)
calls_alike B P (suc n) (suc m) l h p vs =
    at_call (alike_body B n (calls B P n) (calls B P m) (λ h p vs. calls_alike B P n m (omega arith) h p vs) h (P p) vs)

-- each cut by n is that with n levels
goal_levels : (B : Meaning) (P : Procedures) (n m h : ℕ) → n ≤ m → (goal : Node) (e : Bindings) → cut n (stream B (calls B P n) h goal e) ≡ cut n (stream B (calls B P m) h goal e)
goal_levels B P n m h l goal e = alike_cut (alike B n (calls B P n) (calls B P m) (calls_alike B P n m l) h goal e)

pub call_levels : (B : Meaning) (P : Procedures) (n m h : ℕ) → n ≤ m → (k : ℕ) (vs : List (Option Val)) → cut n (below h (λ j. calls B P n j k vs)) ≡ cut n (below h (λ j. calls B P m j k vs))
call_levels B P n m h l k vs = alike_cut (alike_below n h (λ j. calls B P n j k vs) (λ j. calls B P m j k vs) (λ j. calls_alike B P n m l j k vs))

pub body_levels : (B : Meaning) (P : Procedures) (n m h : ℕ) → n ≤ m → (q : Procedure) (vs : List (Option Val)) → cut n (body_items B (calls B P n) h q vs) ≡ cut n (body_items B (calls B P m) h q vs)
body_levels B P n m h l q vs = alike_cut (alike_body B n (calls B P n) (calls B P m) (calls_alike B P n m l) h q vs)

pub levels_suffice : LevelsSuffice
levels_suffice B P n m h l goal e = sym (goal_levels B P n m h l goal e) ∙ goal_levels B P n (suc n) h (omega arith) goal e

pub levels_suffice_for_calls : LevelsSufficeForCalls
levels_suffice_for_calls B P n m h l k vs = sym (call_levels B P n m h l k vs) ∙ call_levels B P n (suc n) h (omega arith) k vs

pub levels_suffice_for_bodies : (B : Meaning) (P : Procedures) (n m h : ℕ) → n ≤ m → (q : Procedure) (vs : List (Option Val)) → cut n (body_items B (calls B P m) h q vs) ≡ cut n (body_items B (calls B P (suc n)) h q vs)
levels_suffice_for_bodies B P n m h l q vs = sym (body_levels B P n m h l q vs) ∙ body_levels B P n (suc n) h (omega arith) q vs

pub levels_suffice_for_queries : LevelsSufficeForQueries
levels_suffice_for_queries B P n m h l q = levels_suffice_for_bodies B P n m h l q (map (λ x. None) q.head)

pub one_level_more : OneLevelMore
one_level_more B P n h goal e = levels_suffice B P n (suc (suc n)) h (omega arith) goal e
