-- Equations do nothing but give at most one answer, and a disjunct that deconstructs a variable against what it is not has
-- no answer.
use Rattle.std.proofs.Common.{◌≡◌, ℕ, List, [], ◌∷◌, ◌++◌, map, Option, Some, None, Bool, true, false, if◌then◌else◌, nat_eq, refl, sym, ◌∙◌, subst}
use Rattle.std.proofs.lemmas.Bool.{eqb-true}
use Rattle.mc_program.specs.Values.{Val, int, char, str, con, state, vals, listed, same_value}
use Rattle.mc_model.specs.EventList.{Items, End, Stuck, Stopped, Answer, Called, Wrote, Read, append, bind, of_option, Each}
use Rattle.mc_model.specs.Outcomes.{Outcome}
use Rattle.mc_model.specs.Scheduled.{Label, for_symbol, for_constant, Node, node, Scheduled, Conj, Disj, Switch, Ite, Not, Exists, Assign, Test, Build, Take, Const, TestConst, Call, Apply, Nodes, no_nodes, node_then}
use Rattle.mc_model.specs.Stream.{Bindings, Calls, put, meet, and_then, unify, gather, same_items, build_items, made_items, pruned_to, stream, stream_of, stream_all}
use Rattle.mc_accepted.specs.Switched.{is_constant, is_equation, openings, openings_in, openings_all, label_in}
use Rattle.mc_program.specs.declared.builtin.Builtin.{Builtin}

-- whether a value is of a label
abbrev pub matches : Val → Label → Bool
matches (con g vs) (for_symbol f) = nat_eq f g
matches (con g vs) (for_constant w) = false
matches v (for_symbol f) = false
matches v (for_constant w) = same_value v w

abbrev pub Silent : Items Bindings → Type 0
Silent End = Unit {0}
Silent Stuck = Unit {0}
Silent (Stopped w) = ⊥
Silent (Answer a xs) = ⊥
Silent (Called c xs) = ⊥
Silent (Wrote t xs) = ⊥
Silent (Read k xs) = ⊥

pub silent_end : (xs : Items Bindings) → Silent xs → Each (λ a. Unit {0}) xs → xs ≡ End
silent_end End s h = refl
silent_end Stuck s h = absurd h
silent_end (Stopped w) s h = absurd s
silent_end (Answer a xs) s h = absurd s
silent_end (Called c xs) s h = absurd s
silent_end (Wrote t xs) s h = absurd s
silent_end (Read k xs) s h = absurd s

silent_pruned : (m : Bool) (xs : Items Bindings) → Silent xs → Silent (pruned_to m xs)
silent_pruned false xs s = s
silent_pruned true End s = tt
silent_pruned true Stuck s = tt
silent_pruned true (Stopped w) s = absurd s
silent_pruned true (Answer a xs) s = absurd s
silent_pruned true (Called c xs) s = absurd s
silent_pruned true (Wrote t xs) s = absurd s
silent_pruned true (Read k xs) s = absurd s

silent_bind : (xs : Items Bindings) (f : Bindings → Items Bindings) → Silent xs → Silent (bind xs f)
silent_bind End f s = tt
silent_bind Stuck f s = tt
silent_bind (Stopped w) f s = absurd s
silent_bind (Answer a xs) f s = absurd s
silent_bind (Called c xs) f s = absurd s
silent_bind (Wrote t xs) f s = absurd s
silent_bind (Read k xs) f s = absurd s

silent_append : (xs : Items Bindings) → Silent xs → Silent (append xs End)
silent_append End s = tt
silent_append Stuck s = tt
silent_append (Stopped w) s = absurd s
silent_append (Answer a xs) s = absurd s
silent_append (Called c xs) s = absurd s
silent_append (Wrote t xs) s = absurd s
silent_append (Read k xs) s = absurd s

module _ (outcome : Builtin → List Val → Outcome) (C : Calls) (h : ℕ) (x : ℕ) (v : Val) where
  -- at most one answer and nothing else, and the variable keeps its value
  abbrev Quiet : Items Bindings → Type 0
  Quiet End = Unit {0}
  Quiet Stuck = Unit {0}
  Quiet (Stopped w) = ⊥
  Quiet (Answer a xs) = (a x ≡ Some v) × (xs ≡ End)
  Quiet (Called c xs) = ⊥
  Quiet (Wrote t xs) = ⊥
  Quiet (Read k xs) = ⊥

  abbrev Kept : Option Bindings → Type 0
  Kept None = Unit {0}
  Kept (Some a) = a x ≡ Some v

  quiet_option : (o : Option Bindings) → Kept o → Quiet (of_option o)
  quiet_option None k = tt
  quiet_option (Some a) k = (k, refl)

  quiet_pruned : (m : Bool) (xs : Items Bindings) → Quiet xs → Quiet (pruned_to m xs)
  quiet_pruned false xs q = q
  quiet_pruned true End q = tt
  quiet_pruned true Stuck q = tt
  quiet_pruned true (Stopped w) q = absurd q
  quiet_pruned true (Answer a xs) q = (q.0, refl)
  quiet_pruned true (Called c xs) q = absurd q
  quiet_pruned true (Wrote t xs) q = absurd q
  quiet_pruned true (Read k xs) q = absurd q

  quiet_bind : (xs : Items Bindings) (f : Bindings → Items Bindings) → Quiet xs → ((a : Bindings) → a x ≡ Some v → Silent (f a)) → Silent (bind xs f)
  quiet_bind End f q s = tt
  quiet_bind Stuck f q s = tt
  quiet_bind (Stopped w) f q s = absurd q
  quiet_bind (Answer a xs) f q s = subst (λ (ys : Items Bindings). Silent (append (f a) (bind ys f))) (sym q.1) (silent_append (f a) (s a q.0))
  quiet_bind (Called c xs) f q s = absurd q
  quiet_bind (Wrote t xs) f q s = absurd q
  quiet_bind (Read k xs) f q s = absurd q

  put_keeps : (e : Bindings) (y : ℕ) (w : Val) → e x ≡ Some v → e y ≡ None → put y w e x ≡ Some v
  put_keeps e y w p n = by_test (nat_eq x y) refl
    where
      by_test : (t : Bool) → nat_eq x y ≡ t → (if t then Some w else e x) ≡ Some v
      by_test true q = let r : e x ≡ None = subst (λ z. e z ≡ None) (sym (eqb-true x y q)) n in cc
      by_test false q = p

  meet_keeps : (e : Bindings) (y : ℕ) (w : Val) (o : Option Val) → e x ≡ Some v → e y ≡ o → Kept (meet y w e o)
  meet_keeps e y w None p n = put_keeps e y w p n
  meet_keeps e y w (Some u) p n = by_test (same_value u w)
    where
      by_test : (t : Bool) → Kept (if t then Some e else None)
      by_test true = p
      by_test false = tt

  then_keeps : (o : Option Bindings) (f : Bindings → Option Bindings) → Kept o → ((a : Bindings) → a x ≡ Some v → Kept (f a)) → Kept (and_then o f)
  then_keeps None f k g = tt
  then_keeps (Some a) f k g = g a k

  unify_keeps : (ys : List ℕ) (ws : List (Option Val)) (e : Bindings) → e x ≡ Some v → Kept (unify ys ws e)
  unify_keeps [] [] e p = p
  unify_keeps [] (w ∷ ws) e p = tt
  unify_keeps (y ∷ ys) [] e p = tt
  unify_keeps (y ∷ ys) (None ∷ ws) e p = unify_keeps ys ws e p
  unify_keeps (y ∷ ys) (Some w ∷ ws) e p = then_keeps (meet y w e (e y)) (unify ys ws) (meet_keeps e y w (e y) p refl) (λ a q. unify_keeps ys ws a q)

  either_quiet : (e : Bindings) (t : Bool) → e x ≡ Some v → Quiet (of_option (if t then Some e else None))
  either_quiet e true p = (p, refl)
  either_quiet e false p = tt

  same_quiet : (y z : ℕ) (e : Bindings) (o u : Option Val) → e x ≡ Some v → e y ≡ o → e z ≡ u → Quiet (same_items y z e o u)
  same_quiet y z e None None p q r = tt
  same_quiet y z e None (Some w) p q r = (put_keeps e y w p q, refl)
  same_quiet y z e (Some w) None p q r = (put_keeps e z w p r, refl)
  same_quiet y z e (Some w) (Some u) p q r = either_quiet e (same_value w u) p

  build_quiet : (y f : ℕ) (e : Bindings) (o : Option (List Val)) → e x ≡ Some v → e y ≡ None → Quiet (build_items y f e o)
  build_quiet y f e None p q = tt
  build_quiet y f e (Some vs) p q = (put_keeps e y (con f (vals vs)) p q, refl)

  made_quiet : (y f : ℕ) (ys : List ℕ) (e : Bindings) (o : Option Val) → e x ≡ Some v → e y ≡ o → Quiet (made_items y f ys e o)
  made_quiet y f ys e None p q = build_quiet y f e (gather ys e) p q
  made_quiet y f ys e (Some (int n)) p q = tt
  made_quiet y f ys e (Some (char c)) p q = tt
  made_quiet y f ys e (Some (str t)) p q = tt
  made_quiet y f ys e (Some (con g vs)) p q = by_test (nat_eq f g)
    where
      by_test : (t : Bool) → Quiet (of_option (if t then unify ys (map Some (listed vs)) e else None))
      by_test true = quiet_option (unify ys (map Some (listed vs)) e) (unify_keeps ys (map Some (listed vs)) e p)
      by_test false = tt
  made_quiet y f ys e (Some (state t k)) p q = tt

  equation_quiet : (n : Node) (e : Bindings) → is_equation n ≡ true → e x ≡ Some v → Quiet (stream outcome C h n e)
  equation_quiet (node (Assign y z) changes d m) e i p = quiet_pruned m (same_items y z e (e y) (e z)) (same_quiet y z e (e y) (e z) p refl refl)
  equation_quiet (node (Test y z) changes d m) e i p = quiet_pruned m (same_items y z e (e y) (e z)) (same_quiet y z e (e y) (e z) p refl refl)
  equation_quiet (node (Build y f ys) changes d m) e i p = quiet_pruned m (made_items y f ys e (e y)) (made_quiet y f ys e (e y) p refl)
  equation_quiet (node (Take y f ys) changes d m) e i p = quiet_pruned m (made_items y f ys e (e y)) (made_quiet y f ys e (e y) p refl)
  equation_quiet (node (Const y w) changes d m) e i p = quiet_pruned m (of_option (meet y w e (e y))) (quiet_option (meet y w e (e y)) (meet_keeps e y w (e y) p refl))
  equation_quiet (node (TestConst y w) changes d m) e i p = quiet_pruned m (of_option (meet y w e (e y))) (quiet_option (meet y w e (e y)) (meet_keeps e y w (e y) p refl))
  equation_quiet (node (Conj ns) changes d m) e i p = cc
  equation_quiet (node (Disj ns) changes d m) e i p = cc
  equation_quiet (node (Switch y arms) changes d m) e i p = cc
  equation_quiet (node (Ite vs c t f) changes d m) e i p = cc
  equation_quiet (node (Not n) changes d m) e i p = cc
  equation_quiet (node (Exists vs n) changes d m) e i p = cc
  equation_quiet (node (Call q xs implied last) changes d m) e i p = cc
  equation_quiet (node (Apply op xs ys) changes d m) e i p = cc

  take_wrong : (f : ℕ) (y : ℕ) (ys : List ℕ) (e : Bindings) (w : Val) → matches w (for_symbol f) ≡ false → Silent (made_items y f ys e (Some w))
  take_wrong f y ys e (int n) m = tt
  take_wrong f y ys e (char c) m = tt
  take_wrong f y ys e (str t) m = tt
  take_wrong f y ys e (con g vs) m = subst (λ t. Silent (of_option (if t then unify ys (map Some (listed vs)) e else None))) (sym m) tt
  take_wrong f y ys e (state t k) m = tt

  meets_wrong : (e : Bindings) (t : Bool) → t ≡ false → Silent (of_option (if t then Some e else None))
  meets_wrong e t q = subst (λ u. Silent (of_option (if u then Some e else None))) (sym q) tt

  constant_wrong : (c : Val) (y : ℕ) (e : Bindings) (w : Val) → is_constant c ≡ true → matches w (for_constant c) ≡ false → Silent (of_option (meet y c e (Some w)))
  constant_wrong c y e (int n) i m = meets_wrong e (same_value (int n) c) m
  constant_wrong c y e (char k) i m = meets_wrong e (same_value (char k) c) m
  constant_wrong c y e (str t) i m = meets_wrong e (same_value (str t) c) m
  constant_wrong c y e (state t k) i m = meets_wrong e (same_value (state t k) c) m
  constant_wrong (int n) y e (con g vs) i m = tt
  constant_wrong (char k) y e (con g vs) i m = tt
  constant_wrong (str t) y e (con g vs) i m = tt
  constant_wrong (con f ws) y e (con g vs) i m = cc
  constant_wrong (state t k) y e (con g vs) i m = cc

  label_append : (os us : List (ℕ × Label)) (l : Label) → label_in x os ≡ None → label_in x (os ++ us) ≡ Some l → label_in x us ≡ Some l
  label_append [] us l n q = q
  label_append (o ∷ os) us l n q = by_test (nat_eq o.0 x) (λ m r. label_append os us l m r) n q
    where
      by_test : (t : Bool) → (label_in x os ≡ None → label_in x (os ++ us) ≡ Some l → label_in x us ≡ Some l) → (if t then Some o.1 else label_in x os) ≡ None → (if t then Some o.1 else label_in x (os ++ us)) ≡ Some l → label_in x us ≡ Some l
      by_test true again n q = cc
      by_test false again n q = again n q

  label_append_some : (os us : List (ℕ × Label)) (k : Label) → label_in x os ≡ Some k → label_in x (os ++ us) ≡ Some k
  label_append_some [] us k q = cc
  label_append_some (o ∷ os) us k q = by_test (nat_eq o.0 x) (λ r. label_append_some os us k r) q
    where
      by_test : (t : Bool) → (label_in x os ≡ Some k → label_in x (os ++ us) ≡ Some k) → (if t then Some o.1 else label_in x os) ≡ Some k → (if t then Some o.1 else label_in x (os ++ us)) ≡ Some k
      by_test true again q = q
      by_test false again q = again q

  alone : (y : ℕ) (k l : Label) → label_in x ((y, k) ∷ []) ≡ Some l → (y ≡ x) × (k ≡ l)
  alone y k l q = by_test (nat_eq y x) refl q
    where
      by_test : (t : Bool) → nat_eq y x ≡ t → (if t then Some k else None) ≡ Some l → (y ≡ x) × (k ≡ l)
      by_test true r q = (eqb-true y x r, cc)
      by_test false r q = cc

  take_silent : (y f : ℕ) (ys : List ℕ) (e : Bindings) (l : Label) → (y ≡ x) × (for_symbol f ≡ l) → matches v l ≡ false → e x ≡ Some v → Silent (made_items y f ys e (e y))
  take_silent y f ys e l q m p =
      subst (λ (o : Option Val). Silent (made_items y f ys e o)) (sym (subst (λ z. e z ≡ Some v) (sym q.0) p)) (take_wrong f y ys e v (subst (λ k. matches v k ≡ false) (sym q.1) m))

  constant_silent : (y : ℕ) (c : Val) (e : Bindings) (l : Label) → is_constant c ≡ true → (y ≡ x) × (for_constant c ≡ l) → matches v l ≡ false → e x ≡ Some v → Silent (of_option (meet y c e (e y)))
  constant_silent y c e l i q m p =
      subst (λ (o : Option Val). Silent (of_option (meet y c e o))) (sym (subst (λ z. e z ≡ Some v) (sym q.0) p)) (constant_wrong c y e v i (subst (λ k. matches v k ≡ false) (sym q.1) m))

  behind : (n : Node) (ns : Nodes) (e : Bindings) (l : Label) → (label_in x (openings n) ≡ Some l → Silent (stream outcome C h n e)) → ((a : Bindings) → label_in x (openings_all ns) ≡ Some l → a x ≡ Some v → Silent (stream_all outcome C h ns a)) → label_in x (openings_all (node_then n ns)) ≡ Some l → matches v l ≡ false → e x ≡ Some v → Silent (stream_all outcome C h (node_then n ns) e)
  behind n ns e l here there q w p = by_test (is_equation n) refl q
    where
      by_label : (o : Option Label) → label_in x (openings n) ≡ o → is_equation n ≡ true → label_in x (openings n ++ openings_all ns) ≡ Some l → Silent (stream_all outcome C h (node_then n ns) e)
      by_label None r i q =
          quiet_bind (stream outcome C h n e) (λ a. stream_all outcome C h ns a) (equation_quiet n e i p) (λ a u. there a (label_append (openings n) (openings_all ns) l r q) u)
      by_label (Some k) r i q =
          let s : label_in x (openings n ++ openings_all ns) ≡ Some k = label_append_some (openings n) (openings_all ns) k r in
          let t : label_in x (openings n) ≡ Some l = r ∙ (sym s ∙ q) in
          silent_bind (stream outcome C h n e) (λ a. stream_all outcome C h ns a) (here t)

      by_test : (t : Bool) → is_equation n ≡ t → label_in x (if t then openings n ++ openings_all ns else []) ≡ Some l → Silent (stream_all outcome C h (node_then n ns) e)
      by_test true i q = by_label (label_in x (openings n)) refl i q
      by_test false i q = cc

  -- a goal that deconstructs the variable against another label than its value's, behind nothing but equations
  mutual
    pub wrong : (n : Node) (e : Bindings) (l : Label) → label_in x (openings n) ≡ Some l → matches v l ≡ false → e x ≡ Some v → Silent (stream outcome C h n e)
    wrong (node s changes d m) e l q w p = silent_pruned m (stream_of outcome C h s e) (wrong_in s e l q w p)

    wrong_in : (s : Scheduled) (e : Bindings) (l : Label) → label_in x (openings_in s) ≡ Some l → matches v l ≡ false → e x ≡ Some v → Silent (stream_of outcome C h s e)
    wrong_in (Conj ns) e l q w p = wrong_all ns e l q w p
    wrong_in (Exists vs n) e l q w p = wrong n e l q w p
    wrong_in (Take y f ys) e l q w p = take_silent y f ys e l (alone y (for_symbol f) l q) w p
    wrong_in (TestConst y c) e l q w p = by_test (is_constant c) refl q
      where
        by_test : (t : Bool) → is_constant c ≡ t → label_in x (if t then ((y, for_constant c) ∷ []) else []) ≡ Some l → Silent (of_option (meet y c e (e y)))
        by_test true i q = constant_silent y c e l i (alone y (for_constant c) l q) w p
        by_test false i q = cc
    wrong_in (Disj ns) e l q w p = cc
    wrong_in (Switch y arms) e l q w p = cc
    wrong_in (Ite vs c t f) e l q w p = cc
    wrong_in (Not n) e l q w p = cc
    wrong_in (Assign y z) e l q w p = cc
    wrong_in (Test y z) e l q w p = cc
    wrong_in (Build y f ys) e l q w p = cc
    wrong_in (Const y c) e l q w p = cc
    wrong_in (Call r xs implied last) e l q w p = cc
    wrong_in (Apply op xs ys) e l q w p = cc

    wrong_all : (ns : Nodes) (e : Bindings) (l : Label) → label_in x (openings_all ns) ≡ Some l → matches v l ≡ false → e x ≡ Some v → Silent (stream_all outcome C h ns e)
    wrong_all no_nodes e l q w p = cc
    wrong_all (node_then n ns) e l q w p = behind n ns e l (λ r. wrong n e l r w p) (λ a r u. wrong_all ns a l r w u) q w p
