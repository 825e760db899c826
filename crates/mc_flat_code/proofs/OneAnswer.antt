-- Goals that answer once: their events end behind the first answer.
use Rattle.std.proofs.Common.{◌≡◌, ℕ, refl, sym, ap, subst, map, List, Option, Some, None, true, false, if◌then◌else◌}
use Rattle.mc_program.specs.Values.{Val, int, char, str, con, state, same_value}
use Rattle.mc_program.specs.declared.builtin.Builtin.{Builtin}
use Rattle.mc_model.specs.EventList.{Items, End, Stuck, Stopped, Answer, Called, Wrote, Read, append, bind, choose, first, negate, of_option}
use Rattle.mc_model.specs.Outcomes.{Outcome, fails, gives, throws, writes, reads, reads_and_throws}
use Rattle.mc_model.specs.Scheduled.{Node, node, Scheduled, Conj, Disj, Switch, Ite, Not, Exists, Assign, Test, Build, Take, Const, TestConst, Call, Apply, Nodes, no_nodes, node_then}
use Rattle.mc_model.specs.Stream.{Bindings, Calls, meet, unify, gather, same_items, build_items, made_items, outcome_items, apply_items, stream, stream_of, stream_all}
use Rattle.mc_flat_code.specs.Standing.{AnswersOnce}
use Rattle.mc_flat_code.specs.code.Answering.{Once, OnceIn, AllOnce}
use Rattle.mc_flat_code.proofs.EventLaws.{append_end}

-- nothing comes behind the first answer
abbrev EndsOnce : {A : Type 0} → Items A → Type 0
EndsOnce End = Unit {0}
EndsOnce Stuck = Unit {0}
EndsOnce (Stopped h) = Unit {0}
EndsOnce (Answer a xs) = xs ≡ End
EndsOnce (Called c xs) = EndsOnce xs
EndsOnce (Wrote t xs) = EndsOnce xs
EndsOnce (Read k xs) = EndsOnce xs

module _ {A : Type 0} where
  first_once : (xs : Items A) → EndsOnce xs → first xs ≡ xs
  first_once End x = refl
  first_once Stuck x = refl
  first_once (Stopped h) x = refl
  first_once (Answer a xs) x = ap (λ l. Answer a l) (sym x)
  first_once (Called c xs) x = ap (λ l. Called c l) (first_once xs x)
  first_once (Wrote t xs) x = ap (λ l. Wrote t l) (first_once xs x)
  first_once (Read k xs) x = ap (λ l. Read k l) (first_once xs x)

  once_first : (xs : Items A) → EndsOnce (first xs)
  once_first End = tt
  once_first Stuck = tt
  once_first (Stopped h) = tt
  once_first (Answer a xs) = refl
  once_first (Called c xs) = once_first xs
  once_first (Wrote t xs) = once_first xs
  once_first (Read k xs) = once_first xs

  once_option : (a : Option A) → EndsOnce (of_option a)
  once_option None = tt
  once_option (Some a) = refl

module _ {A B : Type 0} where
  once_negate : (b : B) (xs : Items A) → EndsOnce (negate b xs)
  once_negate b End = refl
  once_negate b Stuck = tt
  once_negate b (Stopped h) = tt
  once_negate b (Answer a xs) = tt
  once_negate b (Called c xs) = once_negate b xs
  once_negate b (Wrote t xs) = once_negate b xs
  once_negate b (Read k xs) = once_negate b xs

  -- the one answer's list, with nothing behind it
  once_append : (ys : Items B) (xs : Items A) (f : A → Items B) → xs ≡ End → EndsOnce ys → EndsOnce (append ys (bind xs f))
  once_append ys xs f x y =
      subst (λ (l : Items A). EndsOnce (append ys (bind l f))) (sym x)
      (subst (λ (l : Items B). EndsOnce l) (sym (append_end ys)) y)

  once_bind : (xs : Items A) (f : A → Items B) → EndsOnce xs → ((a : A) → EndsOnce (f a)) → EndsOnce (bind xs f)
  once_bind End f x y = tt
  once_bind Stuck f x y = tt
  once_bind (Stopped h) f x y = tt
  once_bind (Answer a xs) f x y = once_append (f a) xs f x (y a)
  once_bind (Called c xs) f x y = once_bind xs f x y
  once_bind (Wrote t xs) f x y = once_bind xs f x y
  once_bind (Read k xs) f x y = once_bind xs f x y

  once_choose : (xs : Items A) (f : A → Items B) (ys : Items B) → EndsOnce xs → ((a : A) → EndsOnce (f a)) → EndsOnce ys → EndsOnce (choose xs f ys)
  once_choose End f ys x y z = z
  once_choose Stuck f ys x y z = tt
  once_choose (Stopped h) f ys x y z = tt
  once_choose (Answer a xs) f ys x y z = once_append (f a) xs f x (y a)
  once_choose (Called c xs) f ys x y z = once_choose xs f ys x y z
  once_choose (Wrote t xs) f ys x y z = once_choose xs f ys x y z
  once_choose (Read k xs) f ys x y z = once_choose xs f ys x y z

once_same : (x y : ℕ) (e : Bindings) (v w : Option Val) → EndsOnce (same_items x y e v w)
once_same x y e None None = tt
once_same x y e None (Some w) = refl
once_same x y e (Some v) None = refl
once_same x y e (Some v) (Some w) = once_option (if same_value v w then Some e else None)

once_build : (x f : ℕ) (e : Bindings) (vs : Option (List Val)) → EndsOnce (build_items x f e vs)
once_build x f e None = tt
once_build x f e (Some vs) = refl

once_made : (x f : ℕ) (ys : List ℕ) (e : Bindings) (v : Option Val) → EndsOnce (made_items x f ys e v)
once_made x f ys e None = once_build x f e (gather ys e)
once_made x f ys e (Some (int n)) = tt
once_made x f ys e (Some (char c)) = tt
once_made x f ys e (Some (str t)) = tt
once_made x f ys e (Some (con g vs)) = once_option _
once_made x f ys e (Some (state t k)) = tt

once_outcome : (ys : List ℕ) (e : Bindings) (o : Outcome) → EndsOnce (outcome_items ys e o)
once_outcome ys e fails = tt
once_outcome ys e (gives vs) = once_option (unify ys (map Some vs) e)
once_outcome ys e (throws x) = tt
once_outcome ys e (writes t vs) = once_option (unify ys (map Some vs) e)
once_outcome ys e (reads k vs) = once_option (unify ys (map Some vs) e)
once_outcome ys e (reads_and_throws k x) = tt

once_apply : (outcome : List Val → Outcome) (ys : List ℕ) (e : Bindings) (vs : Option (List Val)) → EndsOnce (apply_items outcome ys e vs)
once_apply outcome ys e None = tt
once_apply outcome ys e (Some vs) = once_outcome ys e (outcome vs)

module _ (outcome : Builtin → List Val → Outcome) (C : Calls) (h : ℕ) where
  mutual
    once : (n : Node) → Once n → (e : Bindings) → EndsOnce (stream outcome C h n e)
    once (node s changes d false) x e = once_in s x e
    once (node s changes d true) x e = once_first (stream_of outcome C h s e)

    once_in : (s : Scheduled) → OnceIn s → (e : Bindings) → EndsOnce (stream_of outcome C h s e)
    once_in (Conj ns) x e = once_all ns x e
    once_in (Disj ns) x e = absurd x
    once_in (Switch v arms) x e = absurd x
    once_in (Ite vs c t f) x e =
        once_choose (stream outcome C h c e) (λ a. stream outcome C h t a) (stream outcome C h f e) (once c x.0 e) (λ a. once t x.1 a) (once f x.2 e)
    once_in (Not n) x e = once_negate e (stream outcome C h n e)
    once_in (Exists vs n) x e = once n x e
    once_in (Assign y z) x e = once_same y z e (e y) (e z)
    once_in (Test y z) x e = once_same y z e (e y) (e z)
    once_in (Build y f ys) x e = once_made y f ys e (e y)
    once_in (Take y f ys) x e = once_made y f ys e (e y)
    once_in (Const y v) x e = once_option (meet y v e (e y))
    once_in (TestConst y v) x e = once_option (meet y v e (e y))
    once_in (Call p xs implied last) x e = absurd x
    once_in (Apply op xs ys) x e = once_apply (outcome op) ys e (gather xs e)

    once_all : (ns : Nodes) → AllOnce ns → (e : Bindings) → EndsOnce (stream_all outcome C h ns e)
    once_all no_nodes x e = refl
    once_all (node_then n ns) x e =
        once_bind (stream outcome C h n e) (λ a. stream_all outcome C h ns a) (once n x.0 e) (λ a. once_all ns x.1 a)

-- to its first answer alone such a goal does all that it does
pub answers_once : (s : Scheduled) → OnceIn s → AnswersOnce s
answers_once s x outcome C h e = first_once (stream_of outcome C h s e) (once_in outcome C h s x e)
