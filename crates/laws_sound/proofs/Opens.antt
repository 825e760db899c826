-- A run that opens with a deconstruction answers nothing where the label is another.
use Rattle.std.proofs.Common.{◌≡◌, ℕ, List, map, Bool, true, false, cond, nat_eq, Option, Some, None, refl, sym, ap, ◌∙◌, subst, arith, ⊎_elim}
use Rattle.std.proofs.lemmas.Bool.{eqb-true}
use Rattle.mc_program.specs.Values.{Val, int, char, str, con, state, Vals, vals, listed, same_value}
use Rattle.mc_model.specs.EventList.{Items, End, Stuck, Stopped, Answer, Called, Wrote, Read, bind, first, Each, answers, of_option}
use Rattle.mc_model.specs.Stream.{Bindings, Calls, meet, unify, gather, same_items, build_items, made_items, pruned_to, stream, stream_of, stream_all, stream_any, stream_arms}
use Rattle.mc_model.specs.Outcomes.{Outcome}
use Rattle.mc_model.specs.Scheduled.{Label, Node, node, Scheduled, Conj, Disj, Switch, Ite, Not, Exists, Assign, Test, Build, Take, Const, TestConst, Call, Apply, Nodes, no_nodes, node_then, Arms, no_arms, arm_then}
use Rattle.mc_accepted.specs.Ordered.{IsEquation, Opens, OpensScheduled, OneOpens, EachOpens, EachArmOpens}
use Rattle.laws_sound.specs.code.Passes.{Grows, HasLabel}
use Rattle.mc_program.specs.declared.builtin.Builtin.{Builtin}
use Rattle.laws_sound.proofs.Binds
use Rattle.laws_sound.proofs.Binds.{some_inj}
use Rattle.laws_language.proofs.Equality.{value_same}
use Rattle.laws_sound.proofs.Lists

-- P of each answer
abbrev pub Loose : {A : Type 0} → (A → Type 0) → Items A → Type 0
Loose P End = Unit {0}
Loose P Stuck = Unit {0}
Loose P (Stopped w) = Unit {0}
Loose P (Answer a xs) = P a × Loose P xs
Loose P (Called p xs) = Loose P xs
Loose P (Wrote t xs) = Loose P xs
Loose P (Read k xs) = Loose P xs

loose_first : {A : Type 0} (P : A → Type 0) (xs : Items A) → Loose P xs → Loose P (first xs)
loose_first P End h = tt
loose_first P Stuck h = tt
loose_first P (Stopped w) h = tt
loose_first P (Answer a xs) h = (h.0, tt)
loose_first P (Called p xs) h = loose_first P xs h
loose_first P (Wrote t xs) h = loose_first P xs h
loose_first P (Read k xs) h = loose_first P xs h

module _ {A B : Type 0} (P : A → Type 0) (f : A → Items B) where
  loose_zero : (xs : Items A) → Loose P xs → ((a : A) → P a → answers (f a) ≡ 0) → answers (bind xs f) ≡ 0
  loose_zero End h k = refl
  loose_zero Stuck h k = refl
  loose_zero (Stopped w) h k = refl
  loose_zero (Answer a xs) h k = omega (arith, k a h.0, loose_zero xs h.1 k, Lists.answers-append (f a) (bind xs f))
  loose_zero (Called p xs) h k = loose_zero xs h k
  loose_zero (Wrote t xs) h k = loose_zero xs h k
  loose_zero (Read n xs) h k = loose_zero xs h k

  bind_none : (xs : Items A) → answers xs ≡ 0 → answers (bind xs f) ≡ 0
  bind_none End e = refl
  bind_none Stuck e = refl
  bind_none (Stopped w) e = refl
  bind_none (Answer a xs) e = absurd (omega arith)
  bind_none (Called p xs) e = bind_none xs e
  bind_none (Wrote t xs) e = bind_none xs e
  bind_none (Read n xs) e = bind_none xs e

loose_option : (Q : Bindings → Type 0) (o : Option Bindings) → Each Q (of_option o) → Loose Q (of_option o)
loose_option Q None h = tt
loose_option Q (Some a) h = (h.0, tt)

module _ (e : Bindings) where
  same_extends : (x y : ℕ) (o p : Option Val) → e x ≡ o → e y ≡ p → Loose (λ a. Grows e a) (same_items x y e o p)
  same_extends x y None None h k = tt
  same_extends x y None (Some w) h k = (Binds.put_extends x w e h, tt)
  same_extends x y (Some v) None h k = (Binds.put_extends y v e k, tt)
  same_extends x y (Some v) (Some w) h k = loose_option (λ a. Grows e a) (cond (same_value v w) (Some e) None) (Binds.each_cond (λ a. Grows e a) (same_value v w) e (λ t. Binds.extends_refl e))

  build_extends : (x f : ℕ) (r : Option (List Val)) → e x ≡ None → Loose (λ a. Grows e a) (build_items x f e r)
  build_extends x f None h = tt
  build_extends x f (Some vs) h = (Binds.put_extends x (con f (vals vs)) e h, tt)

  made_extends : (x f : ℕ) (ys : List ℕ) (o : Option Val) → e x ≡ o → Loose (λ a. Grows e a) (made_items x f ys e o)
  made_extends x f ys None h = build_extends x f (gather ys e) h
  made_extends x f ys (Some (int n)) h = tt
  made_extends x f ys (Some (char n)) h = tt
  made_extends x f ys (Some (str n)) h = tt
  made_extends x f ys (Some (state n k)) h = tt
  made_extends x f ys (Some (con g vs)) h = on (nat_eq f g)
    where
      on : (t : Bool) → Loose (λ a. Grows e a) (of_option (cond t (unify ys (map Some (listed vs)) e) None))
      on true = loose_option (λ a. Grows e a) (unify ys (map Some (listed vs)) e) (Binds.unify_extends ys (map Some (listed vs)) e)
      on false = tt

  meet_extends : (x : ℕ) (v : Val) → Loose (λ a. Grows e a) (of_option (meet x v e (e x)))
  meet_extends x v = loose_option (λ a. Grows e a) (meet x v e (e x)) (Binds.each_weaker (λ a. Grows e a × (a x ≡ Some v)) (λ a. Grows e a) (meet x v e (e x)) (λ a h. h.0) (Binds.meet_each x v e (e x) refl))

  pruned_extends : (m : Bool) (xs : Items Bindings) → Loose (λ a. Grows e a) xs → Loose (λ a. Grows e a) (pruned_to m xs)
  pruned_extends true xs h = loose_first (λ a. Grows e a) xs h
  pruned_extends false xs h = h

made_none : (f : ℕ) (ys : List ℕ) (x : ℕ) (e : Bindings) (v : Val) (o : Option Val) → o ≡ Some v → ((vs : Vals) → v ≡ con f vs → ⊥) → answers (made_items x f ys e o) ≡ 0
made_none f ys x e v None q n = absurd (Binds.none_some None v refl q)
made_none f ys x e v (Some (int m)) q n = refl
made_none f ys x e v (Some (char m)) q n = refl
made_none f ys x e v (Some (str m)) q n = refl
made_none f ys x e v (Some (state m k)) q n = refl
made_none f ys x e v (Some (con g vs)) q n = on (nat_eq f g) refl
  where
    on : (t : Bool) → nat_eq f g ≡ t → answers (of_option (cond t (unify ys (map Some (listed vs)) e) None)) ≡ 0
    on true r = absurd (n vs (sym (some_inj (con g vs) v q) ∙ ap (λ k. con k vs) (sym (eqb-true f g r))))
    on false r = refl

test_none : (x : ℕ) (e : Bindings) (v w : Val) (o : Option Val) → o ≡ Some v → (v ≡ w → ⊥) → answers (of_option (meet x w e o)) ≡ 0
test_none x e v w None q n = absurd (Binds.none_some None v refl q)
test_none x e v w (Some u) q n = on (same_value u w) refl
  where
    on : (t : Bool) → same_value u w ≡ t → answers (of_option (cond t (Some e) None)) ≡ 0
    on true r = absurd (n (sym (some_inj u v q) ∙ value_same u w r))
    on false r = refl

pruned_none : (m : Bool) (xs : Items Bindings) → answers xs ≡ 0 → answers (pruned_to m xs) ≡ 0
pruned_none false xs h = h
pruned_none true xs h = omega (arith, Lists.answers-first-le xs)

module _ (outcome : Builtin → List Val → Outcome) (C : Calls) (h : ℕ) where
  pub equation_extends : (n : Node) → IsEquation n → (e : Bindings) → Loose (λ a. Grows e a) (stream outcome C h n e)
  equation_extends (node (Assign x y) changes d m) i e = pruned_extends e m (same_items x y e (e x) (e y)) (same_extends e x y (e x) (e y) refl refl)
  equation_extends (node (Test x y) changes d m) i e = pruned_extends e m (same_items x y e (e x) (e y)) (same_extends e x y (e x) (e y) refl refl)
  equation_extends (node (Build x s ys) changes d m) i e = pruned_extends e m (made_items x s ys e (e x)) (made_extends e x s ys (e x) refl)
  equation_extends (node (Take x s ys) changes d m) i e = pruned_extends e m (made_items x s ys e (e x)) (made_extends e x s ys (e x) refl)
  equation_extends (node (Const x v) changes d m) i e = pruned_extends e m (of_option (meet x v e (e x))) (meet_extends e x v)
  equation_extends (node (TestConst x v) changes d m) i e = pruned_extends e m (of_option (meet x v e (e x))) (meet_extends e x v)
  equation_extends (node (Conj ns) changes d m) i e = absurd i
  equation_extends (node (Disj ns) changes d m) i e = absurd i
  equation_extends (node (Switch x arms) changes d m) i e = absurd i
  equation_extends (node (Ite vs a b c) changes d m) i e = absurd i
  equation_extends (node (Not n) changes d m) i e = absurd i
  equation_extends (node (Exists vs n) changes d m) i e = absurd i
  equation_extends (node (Call p xs is l) changes d m) i e = absurd i
  equation_extends (node (Apply op xs ys) changes d m) i e = absurd i

  mutual
    pub opens_none : (n : Node) (x : ℕ) (l : Label) → Opens x l n → (e : Bindings) (v : Val) → e x ≡ Some v → (HasLabel l v → ⊥) → answers (stream outcome C h n e) ≡ 0
    opens_none (node s changes d m) x l o e v q n = pruned_none m (stream_of outcome C h s e) (opens_scheduled s x l o e v q n)

    opens_scheduled : (s : Scheduled) (x : ℕ) (l : Label) → OpensScheduled x l s → (e : Bindings) (v : Val) → e x ≡ Some v → (HasLabel l v → ⊥) → answers (stream_of outcome C h s e) ≡ 0
    opens_scheduled (Conj ns) x l o e v q n = one_none ns x l o e v q n
    opens_scheduled (Disj ns) x l o e v q n = each_none ns x l o e v q n
    opens_scheduled (Switch y arms) x l o e v q n = arms_none arms x l o e v q n
    opens_scheduled (Exists vs k) x l o e v q n = opens_none k x l o e v q n
    opens_scheduled (Take y s ys) x l o e v q n = made_none s ys y e v (e y) (ap e o.0 ∙ q) (λ vs r. n (subst (λ k. HasLabel k v) (sym o.1) (vs, r)))
    opens_scheduled (TestConst y c) x l o e v q n = test_none y e v c (e y) (ap e o.0 ∙ q) (λ r. n (subst (λ k. HasLabel k v) (sym o.1) r))
    opens_scheduled (Ite vs a b c) x l o e v q n = absurd o
    opens_scheduled (Not k) x l o e v q n = absurd o
    opens_scheduled (Assign y z) x l o e v q n = absurd o
    opens_scheduled (Test y z) x l o e v q n = absurd o
    opens_scheduled (Build y s ys) x l o e v q n = absurd o
    opens_scheduled (Const y c) x l o e v q n = absurd o
    opens_scheduled (Call p xs is k) x l o e v q n = absurd o
    opens_scheduled (Apply op xs ys) x l o e v q n = absurd o

    one_none : (ns : Nodes) (x : ℕ) (l : Label) → OneOpens x l ns → (e : Bindings) (v : Val) → e x ≡ Some v → (HasLabel l v → ⊥) → answers (stream_all outcome C h ns e) ≡ 0
    one_none no_nodes x l o e v q n = absurd o
    one_none (node_then k ns) x l o e v q n =
        ⊎_elim (λ p. bind_none (λ a. Unit {0}) (λ a. stream_all outcome C h ns a) (stream outcome C h k e) (opens_none k x l p e v q n))
        (λ p. loose_zero (λ a. Grows e a) (λ a. stream_all outcome C h ns a) (stream outcome C h k e) (equation_extends k o.0 e) (λ a t. one_none ns x l p a v (t x v q) n)) o.1

    each_none : (ns : Nodes) (x : ℕ) (l : Label) → EachOpens x l ns → (e : Bindings) (v : Val) → e x ≡ Some v → (HasLabel l v → ⊥) → answers (stream_any outcome C h ns e) ≡ 0
    each_none no_nodes x l o e v q n = refl
    each_none (node_then k ns) x l o e v q n = omega (arith, opens_none k x l o.0 e v q n, each_none ns x l o.1 e v q n, Lists.answers-append (stream outcome C h k e) (stream_any outcome C h ns e))

    arms_none : (arms : Arms) (x : ℕ) (l : Label) → EachArmOpens x l arms → (e : Bindings) (v : Val) → e x ≡ Some v → (HasLabel l v → ⊥) → answers (stream_arms outcome C h arms e) ≡ 0
    arms_none no_arms x l o e v q n = refl
    arms_none (arm_then j k arms) x l o e v q n = omega (arith, opens_none k x l o.0 e v q n, arms_none arms x l o.1 e v q n, Lists.answers-append (stream outcome C h k e) (stream_arms outcome C h arms e))
