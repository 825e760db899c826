-- An arm of another label is calm, and has no answer.
use Rattle.std.proofs.Common.{◌≡◌, ℕ, List, [], map, Bool, true, false, cond, nat_eq, Option, Some, None, ⊎_elim}
use Rattle.mc_program.specs.Values.{Val, int, char, str, con, state, listed, same_value}
use Rattle.mc_model.specs.Outcomes.{Outcome}
use Rattle.mc_model.specs.EventList.{Items, End, Stuck, Stopped, Answer, Called, Wrote, Read, first, answers, of_option}
use Rattle.mc_model.specs.Stream.{Bindings, Calls, meet, unify, gather, same_items, build_items, made_items, pruned_to, stream, stream_of, stream_all, stream_any, stream_arms}
use Rattle.mc_model.specs.Scheduled.{Label, Node, node, Scheduled, Conj, Disj, Switch, Ite, Not, Exists, Assign, Test, Build, Take, Const, TestConst, Call, Apply, Nodes, no_nodes, node_then, Arms, no_arms, arm_then}
use Rattle.mc_accepted.specs.Ordered.{IsEquation, Opens, OpensScheduled, OneOpens, EachOpens, EachArmOpens}
use Rattle.laws_sound.specs.code.Passes.{Grows, HasLabel}
use Rattle.laws_sound.specs.code.Moves.{Calm}
use Rattle.mc_program.specs.declared.builtin.Builtin.{Builtin}
use Rattle.laws_sound.proofs.Opens.{Loose, equation_extends, opens_none}
use Rattle.laws_sound.proofs.MoveLists.{calm_append, calm_bind, calm_first, calm_any}

-- answers alone
abbrev pub Quiet : {A : Type 0} → Items A → Type 0
Quiet End = Unit {0}
Quiet Stuck = Unit {0}
Quiet (Stopped w) = Unit {0}
Quiet (Answer a xs) = Quiet xs
Quiet (Called p xs) = ⊥
Quiet (Wrote t xs) = ⊥
Quiet (Read k xs) = ⊥

pub quiet_calm : {A : Type 0} (P : A → Type 0) (xs : Items A) → Quiet xs → Loose P xs → Calm P xs
quiet_calm P End q h = tt
quiet_calm P Stuck q h = tt
quiet_calm P (Stopped w) q h = tt
quiet_calm P (Answer a xs) q h = (h.0, quiet_calm P xs q h.1)
quiet_calm P (Called p xs) q h = absurd q
quiet_calm P (Wrote t xs) q h = absurd q
quiet_calm P (Read k xs) q h = absurd q

loose_any : {A : Type 0} (xs : Items A) → Loose (λ a. Unit {0}) xs
loose_any End = tt
loose_any Stuck = tt
loose_any (Stopped w) = tt
loose_any (Answer a xs) = (tt, loose_any xs)
loose_any (Called p xs) = loose_any xs
loose_any (Wrote t xs) = loose_any xs
loose_any (Read k xs) = loose_any xs

pub quiet_none : {A : Type 0} (P : A → Type 0) (xs : Items A) → Quiet xs → answers xs ≡ 0 → Calm P xs
quiet_none P xs q n = calm_any (λ a. Unit {0}) P xs (quiet_calm (λ a. Unit {0}) xs q (loose_any xs)) n

pub quiet_option : {A : Type 0} (o : Option A) → Quiet (of_option o)
quiet_option None = tt
quiet_option (Some a) = tt

quiet_first : {A : Type 0} (xs : Items A) → Quiet xs → Quiet (first xs)
quiet_first End q = tt
quiet_first Stuck q = tt
quiet_first (Stopped w) q = tt
quiet_first (Answer a xs) q = tt
quiet_first (Called p xs) q = absurd q
quiet_first (Wrote t xs) q = absurd q
quiet_first (Read k xs) q = absurd q

quiet_pruned : {A : Type 0} (m : Bool) (xs : Items A) → Quiet xs → Quiet (pruned_to m xs)
quiet_pruned true xs q = quiet_first xs q
quiet_pruned false xs q = q

pub quiet_same : (x y : ℕ) (e : Bindings) (o p : Option Val) → Quiet (same_items x y e o p)
quiet_same x y e None None = tt
quiet_same x y e None (Some w) = tt
quiet_same x y e (Some v) None = tt
quiet_same x y e (Some v) (Some w) = quiet_option (cond (same_value v w) (Some e) None)

quiet_build : (x f : ℕ) (e : Bindings) (r : Option (List Val)) → Quiet (build_items x f e r)
quiet_build x f e None = tt
quiet_build x f e (Some vs) = tt

pub quiet_made : (x f : ℕ) (ys : List ℕ) (e : Bindings) (o : Option Val) → Quiet (made_items x f ys e o)
quiet_made x f ys e None = quiet_build x f e (gather ys e)
quiet_made x f ys e (Some (int n)) = tt
quiet_made x f ys e (Some (char n)) = tt
quiet_made x f ys e (Some (str n)) = tt
quiet_made x f ys e (Some (con g vs)) = quiet_option (cond (nat_eq f g) (unify ys (map Some (listed vs)) e) None)
quiet_made x f ys e (Some (state n k)) = tt

pub calm_pruned : {A : Type 0} (P : A → Type 0) (m : Bool) (xs : Items A) → Calm P xs → Calm P (pruned_to m xs)
calm_pruned P true xs h = calm_first P xs h
calm_pruned P false xs h = h

module _ (outcome : Builtin → List Val → Outcome) (C : Calls) (h : ℕ) where
  equation_quiet : (n : Node) → IsEquation n → (e : Bindings) → Quiet (stream outcome C h n e)
  equation_quiet (node (Assign x y) changes d m) i e = quiet_pruned m (same_items x y e (e x) (e y)) (quiet_same x y e (e x) (e y))
  equation_quiet (node (Test x y) changes d m) i e = quiet_pruned m (same_items x y e (e x) (e y)) (quiet_same x y e (e x) (e y))
  equation_quiet (node (Build x s ys) changes d m) i e = quiet_pruned m (made_items x s ys e (e x)) (quiet_made x s ys e (e x))
  equation_quiet (node (Take x s ys) changes d m) i e = quiet_pruned m (made_items x s ys e (e x)) (quiet_made x s ys e (e x))
  equation_quiet (node (Const x v) changes d m) i e = quiet_pruned m (of_option (meet x v e (e x))) (quiet_option (meet x v e (e x)))
  equation_quiet (node (TestConst x v) changes d m) i e = quiet_pruned m (of_option (meet x v e (e x))) (quiet_option (meet x v e (e x)))
  equation_quiet (node (Conj ns) changes d m) i e = absurd i
  equation_quiet (node (Disj ns) changes d m) i e = absurd i
  equation_quiet (node (Switch x arms) changes d m) i e = absurd i
  equation_quiet (node (Ite vs a b c) changes d m) i e = absurd i
  equation_quiet (node (Not n) changes d m) i e = absurd i
  equation_quiet (node (Exists vs n) changes d m) i e = absurd i
  equation_quiet (node (Call p xs is l) changes d m) i e = absurd i
  equation_quiet (node (Apply op xs ys) changes d m) i e = absurd i

  mutual
    pub opens_calm : (n : Node) (x : ℕ) (l : Label) → Opens x l n → (e : Bindings) (v : Val) → e x ≡ Some v → (HasLabel l v → ⊥) → Calm (λ a. ⊥) (stream outcome C h n e)
    opens_calm (node s changes d m) x l o e v q n = calm_pruned (λ a. ⊥) m (stream_of outcome C h s e) (opens_in s x l o e v q n)

    opens_in : (s : Scheduled) (x : ℕ) (l : Label) → OpensScheduled x l s → (e : Bindings) (v : Val) → e x ≡ Some v → (HasLabel l v → ⊥) → Calm (λ a. ⊥) (stream_of outcome C h s e)
    opens_in (Conj ns) x l o e v q n = one_calm ns x l o e v q n
    opens_in (Disj ns) x l o e v q n = each_calm ns x l o e v q n
    opens_in (Switch y arms) x l o e v q n = arms_calm arms x l o e v q n
    opens_in (Exists vs k) x l o e v q n = opens_calm k x l o e v q n
    opens_in (Take y s ys) x l o e v q n = quiet_none (λ a. ⊥) (made_items y s ys e (e y)) (quiet_made y s ys e (e y)) (opens_none outcome C h (node (Take y s ys) [] (record { can_fail = true; most = Rattle.mc_source.specs.declared.det.Most.TheVariants.Many; committed = false }) false) x l o e v q n)
    opens_in (TestConst y c) x l o e v q n = quiet_none (λ a. ⊥) (of_option (meet y c e (e y))) (quiet_option (meet y c e (e y))) (opens_none outcome C h (node (TestConst y c) [] (record { can_fail = true; most = Rattle.mc_source.specs.declared.det.Most.TheVariants.Many; committed = false }) false) x l o e v q n)
    opens_in (Ite vs a b c) x l o e v q n = absurd o
    opens_in (Not k) x l o e v q n = absurd o
    opens_in (Assign y z) x l o e v q n = absurd o
    opens_in (Test y z) x l o e v q n = absurd o
    opens_in (Build y s ys) x l o e v q n = absurd o
    opens_in (Const y c) x l o e v q n = absurd o
    opens_in (Call p xs is k) x l o e v q n = absurd o
    opens_in (Apply op xs ys) x l o e v q n = absurd o

    one_calm : (ns : Nodes) (x : ℕ) (l : Label) → OneOpens x l ns → (e : Bindings) (v : Val) → e x ≡ Some v → (HasLabel l v → ⊥) → Calm (λ a. ⊥) (stream_all outcome C h ns e)
    one_calm no_nodes x l o e v q n = absurd o
    one_calm (node_then k ns) x l o e v q n =
        ⊎_elim (λ p. calm_bind (λ a. stream_all outcome C h ns a) (λ a. ⊥) (λ a. ⊥) (stream outcome C h k e) (opens_calm k x l p e v q n) (λ a z. absurd z))
        (λ p. calm_bind (λ a. stream_all outcome C h ns a) (λ a. Grows e a) (λ a. ⊥) (stream outcome C h k e) (quiet_calm (λ a. Grows e a) (stream outcome C h k e) (equation_quiet k o.0 e) (equation_extends outcome C h k o.0 e)) (λ a t. one_calm ns x l p a v (t x v q) n)) o.1

    each_calm : (ns : Nodes) (x : ℕ) (l : Label) → EachOpens x l ns → (e : Bindings) (v : Val) → e x ≡ Some v → (HasLabel l v → ⊥) → Calm (λ a. ⊥) (stream_any outcome C h ns e)
    each_calm no_nodes x l o e v q n = tt
    each_calm (node_then k ns) x l o e v q n = calm_append (λ a. ⊥) (stream outcome C h k e) (stream_any outcome C h ns e) (opens_calm k x l o.0 e v q n) (each_calm ns x l o.1 e v q n)

    arms_calm : (arms : Arms) (x : ℕ) (l : Label) → EachArmOpens x l arms → (e : Bindings) (v : Val) → e x ≡ Some v → (HasLabel l v → ⊥) → Calm (λ a. ⊥) (stream_arms outcome C h arms e)
    arms_calm no_arms x l o e v q n = tt
    arms_calm (arm_then j k arms) x l o e v q n = calm_append (λ a. ⊥) (stream outcome C h k e) (stream_arms outcome C h arms e) (opens_calm k x l o.0 e v q n) (arms_calm arms x l o.1 e v q n)
