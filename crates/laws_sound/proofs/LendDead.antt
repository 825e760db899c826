-- What is dead stays dead: a variable that occurs outside a goal and is dead before it is dead after.
use Rattle.std.proofs.Common.{◌≡◌, ◌≢◌, inl, ℕ, List, [], ◌∷◌, ◌++◌, map, Bool, true, false, cond, nat_eq, Option, Some, None, refl, sym, ap, ◌∙◌, ⊎_elim}
use Rattle.mc_program.specs.Programs.{TypeTerm}
use Rattle.mc_model.specs.Insts.{free, dead}
use Rattle.mc_model.specs.Flat.{Flat_goal, Flat_goals, variables_of, variables_of_all, free_in}
use Rattle.mc_model.specs.Lists.{In, without}
use Rattle.mc_model.specs.Scheduled.{Node, Scheduled, Nodes, Arms}
use Rattle.mc_model.specs.Stream.{is_bound}
use Rattle.mc_accepted.specs.Ordered.{Insts, Mode, also, take_all, is_state, NoneDead, After, modes_of, modes_of_procedure, implied_places, unless_never, builtin_most, reachable, Joined, Ordered, OrderedNode, OrderedAll, OrderedAny, OrderedArms}
use Rattle.mc_model.specs.Good.{System}
use Rattle.mc_accepted.specs.ProperTypes.{Parameters}
use Rattle.mc_accepted.specs.Fits.{Fits}
use Rattle.mc_accepted.specs.Ordered as O
use Rattle.mc_source.specs.declared.det.Most.{Most}
use Rattle.mc_source.specs.declared.det.Most.TheVariants.{Zero, One, Many}
use Rattle.std.proofs.lemmas.Bool.{eqb-true}
use Rattle.laws_sound.proofs.MoveCalls.{after_same}
use Rattle.laws_sound.proofs.Sound.{fresh_split}
use Rattle.laws_sound.proofs.Typed
use Rattle.laws_sound.proofs.Typed.{View, all_free, one_dead, more}
use Rattle.laws_language.proofs.FlatGoals.{in_left}

module _ (S : System) (D : Parameters) (F : Fits S D) (T : ℕ → TypeTerm) where
  abbrev pub StaysDead : List ℕ → Insts → Option Insts → Type 0
  StaysDead O b None = Unit {0}
  StaysDead O b (Some c) = (x : ℕ) → In x O → S.insts (b x) ≡ dead → S.insts (c x) ≡ dead

  abbrev pub EachStaysDead : List ℕ → Insts → List (Option Insts) → Type 0
  EachStaysDead O b [] = Unit {0}
  EachStaysDead O b (o ∷ os) = StaysDead O b o × EachStaysDead O b os

  none_dead : (xs : List ℕ) (b : Insts) (z : ℕ) → NoneDead S T xs b → In z xs → S.insts (b z) ≢ dead
  none_dead [] b z n i = absurd i
  none_dead (x ∷ xs) b z n i = ⊎_elim (λ e d. n.0 (ap (λ y. S.insts (b y)) (sym e) ∙ d)) (λ j. none_dead xs b z n.1 j) i

  free_alive : (i : ℕ) → i ≡ 0 → S.insts i ≡ dead → ⊥
  free_alive i e d = no (sym F.insts.is_free ∙ (ap S.insts (sym e) ∙ d))
    where
      no : free ≡ dead → ⊥
      no e = cc

  -- another variable's inst
  also_dead : (x i : ℕ) (b : Insts) (z : ℕ) → (S.insts (b x) ≡ dead → S.insts i ≡ dead) → S.insts (b z) ≡ dead → S.insts (also x i b z) ≡ dead
  also_dead x i b z f h = on (nat_eq z x) (eqb-true z x)
    where
      on : (t : Bool) → (t ≡ true → z ≡ x) → S.insts (cond t i (b z)) ≡ dead
      on true e = f (ap (λ y. S.insts (b y)) (sym (e refl)) ∙ h)
      on false e = h

  state_dead : (t : Bool) (y : ℕ) (b : Insts) (z : ℕ) → S.insts (b z) ≡ dead → S.insts (cond t (also y 3 b) b z) ≡ dead
  state_dead true y b z h = also_dead y 3 b z (λ e. F.insts.is_dead) h
  state_dead false y b z h = h

  assign_dead : (x y : ℕ) (b : Insts) → b x ≡ 0 → (z : ℕ) → S.insts (b z) ≡ dead → S.insts (also x (b y) (cond (is_state (T y)) (also y 3 b) b) z) ≡ dead
  assign_dead x y b n z h = on (nat_eq z x) (eqb-true z x)
    where
      on : (t : Bool) → (t ≡ true → z ≡ x) → S.insts (cond t (b y) (cond (is_state (T y)) (also y 3 b) b z)) ≡ dead
      on true e = absurd (free_alive (b z) (ap b (e refl) ∙ n) h)
      on false e = state_dead (is_state (T y)) y b z h

  take_dead : (ys is : List ℕ) (b : Insts) (z : ℕ) → S.insts (b z) ≡ dead → S.insts (take_all ys is b z) ≡ dead
  take_dead [] is b z h = h
  take_dead (y ∷ ys) [] b z h = h
  take_dead (y ∷ ys) (i ∷ is) b z h = take_dead ys is (cond (is_bound (b y)) b (also y i b)) z (on (is_bound (b y)) (Typed.free_is (b y)))
    where
      on : (t : Bool) → (t ≡ false → b y ≡ 0) → S.insts (cond t b (also y i b) z) ≡ dead
      on true f = h
      on false f = also_dead y i b z (λ d. absurd (free_alive (b y) (f refl) d)) h

  after_dead : (O xs : List ℕ) (ms : List Mode) (b c : Insts) → After S T ms xs b c → ((z : ℕ) → In z O → In z xs → S.insts (b z) ≢ dead) → StaysDead O b (Some c)
  after_dead O xs ms b c r n x i d = ap S.insts (after_same S T r x (λ j. n x i j d)) ∙ d

  never_dead : (O : List ℕ) (b c : Insts) (m : Most) → StaysDead O b (Some c) → StaysDead O b (unless_never m c)
  never_dead O b c Zero h = tt
  never_dead O b c One h = h
  never_dead O b c Many h = h

  then_dead : (O : List ℕ) (b c : Insts) (o : Option Insts) → StaysDead O b (Some c) → StaysDead O c o → StaysDead O b o
  then_dead O b c None h k = tt
  then_dead O b c (Some d) h k = λ x i q. k x i (h x i q)

  pub fewer_dead : (O P : List ℕ) (b : Insts) (o : Option Insts) → ((x : ℕ) → In x O → In x P) → StaysDead P b o → StaysDead O b o
  fewer_dead O P b None f h = tt
  fewer_dead O P b (Some c) f h = λ x i d. h x (f x i) d

  pub merged_dead : (i k : ℕ) (Q : Type 0) → View (S.insts i) (S.insts k) Q → S.insts i ≡ dead → S.insts k ≡ dead
  merged_dead i k Q (all_free a c) h = absurd (no (sym a ∙ h))
    where
      no : free ≡ dead → ⊥
      no e = cc
  merged_dead i k Q (one_dead a c) h = c
  merged_dead i k Q (more a c d q) h = absurd (d h)

  joined_dead : (O : List ℕ) (b : Insts) (os : List (Option Insts)) (w : Option Insts) → Joined S T O b (reachable os) w → EachStaysDead O b os → StaysDead O b w
  joined_dead O b [] None j h = tt
  joined_dead O b [] (Some e) j h = absurd (no j)
    where
      no : Some e ≡ None → ⊥
      no e = cc
  joined_dead O b (None ∷ os) w j h = joined_dead O b os w j h.1
  joined_dead O b (Some c ∷ os) None j h = absurd j
  joined_dead O b (Some c ∷ os) (Some e) j h =
      λ x i d. merged_dead (c x) (e x) _ (Typed.merged_view S.world.source S.insts (map (λ (f : Insts). f x) (c ∷ reachable os)) (c x) (e x) (T x) (inl refl) ((j x).0 i)) (h.0 x i d)

  mutual
    pub ordered_dead : {O Q : List ℕ} {b : Insts} {g : Flat_goal} {s : Scheduled} {o : Option Insts} → Ordered S T O Q b g s o → StaysDead O b o
    ordered_dead (O.assign {b = b} {x = x} {y = y} n m a) = λ z i d. assign_dead x y b n z d
    ordered_dead (O.assign_back {b = b} {x = x} {y = y} n m a) = λ z i d. assign_dead x y b n z d
    ordered_dead (O.test n m s a) = λ z i d. d
    ordered_dead (O.build {b = b} {x = x} {i = k} n a m d w) = λ z i q. also_dead x k b z (λ e. absurd (free_alive (b x) n e)) q
    ordered_dead (O.take {b = b} {x = x} {i = k} {ys = ys} {is = is} n d a w) = λ z i q. take_dead ys is (also x k b) z (also_dead x k b z (λ e. absurd (d.0 e)) q)
    ordered_dead (O.take_never n d a) = tt
    ordered_dead (O.put {b = b} {x = x} n) = λ z i q. also_dead x 1 b z (λ e. absurd (free_alive (b x) n e)) q
    ordered_dead (O.test_constant n d a) = λ z i q. q
    ordered_dead (O.test_never n d a) = tt
    ordered_dead (O.call {O = O} {b = b} {c = c} {p = p} {xs = xs} l u d a) = never_dead O b c (S.procs p).det.most (after_dead O xs (modes_of_procedure (S.procs p)) b c a (λ z i j. none_dead xs b z d j))
    ordered_dead (O.apply {O = O} {b = b} {c = c} {op = op} {xs = xs} q u d i a) = never_dead O b c (builtin_most op) (after_dead O xs (modes_of op) b c a (λ z k j. none_dead xs b z d j))
    ordered_dead (O.implied_alone r) = all_dead r
    ordered_dead (O.conj r) = all_dead r
    ordered_dead (O.disj {O = O} {b = b} {os = os} {o = o} r j) = joined_dead O b os o j (any_dead r)
    ordered_dead (O.switch {O = O} {b = b} {os = os} {o = o} n i r j) = joined_dead O b os o j (arms_dead r)
    ordered_dead (O.ite {O = O} {b = b} {c = c} {vs = vs} {g = g} {h = k} {o = o} {o' = o'} {o'' = o''} a rc bn rt re j) =
        joined_dead O b (o ∷ o' ∷ []) o'' j (
          then_dead O b c o (λ x i q. node_dead rc x (in_left x O (without (free_in g) vs ++ variables_of k) i) q) (fewer_dead O (O ++ variables_of g) c o (λ x i. in_left x O (variables_of g) i) (node_dead rt)),
          (node_dead re, tt),
        )
    ordered_dead (O.ite_never {O = O} {b = b} {o = o} {o'' = o''} a rc m re j) = joined_dead O b (o ∷ []) o'' j (node_dead re, tt)
    ordered_dead (O.neg r m) = λ z i q. q
    ordered_dead (O.some a r) = node_dead r

    pub node_dead : {O Q : List ℕ} {b : Insts} {g : Flat_goal} {n : Node} {o : Option Insts} → OrderedNode S T O Q b g n o → StaysDead O b o
    node_dead (O.kept r k) = ordered_dead r

    pub all_dead : {O Q : List ℕ} {b : Insts} {gs : Flat_goals} {ns : Nodes} {o : Option Insts} → OrderedAll S T O Q b gs ns o → StaysDead O b o
    all_dead O.done = λ z i q. q
    all_dead (O.dropped p r) = tt
    all_dead (O.next {O = O} {b = b} {c = c} {g = g} {rest = rest} {o = o} p r t) = then_dead O b c o (λ x i q. node_dead r x (in_left x O (variables_of_all rest) i) q) (fewer_dead O (O ++ variables_of g) c o (λ x i. in_left x O (variables_of g) i) (all_dead t))
    all_dead (O.implied_outputs {O = O} {Q = Q} {b = b} {c = c} {op = op} {xs = xs} {zs = zs} {gs = gs} {o = o} tests p q m f d e a y u i r k t) =
        then_dead O b c o (after_dead O zs (modes_of op) b c r (λ z w j. ⊎_elim (λ v. none_dead xs b z d v) (λ v. absurd (a z v (in_left z O (Q ++ variables_of_all gs) w))) (fresh_split S T 0 (implied_places 0 (modes_of op) xs (λ x. is_bound (b x))) xs zs tests f z j)))
        (fewer_dead O (O ++ (xs ++ zs)) c o (λ x i. in_left x O (xs ++ zs) i) (all_dead t))

    pub any_dead : {O Q : List ℕ} {b : Insts} {gs : Flat_goals} {ns : Nodes} {os : List (Option Insts)} → OrderedAny S T O Q b gs ns os → EachStaysDead O b os
    any_dead O.no_other = tt
    any_dead (O.either r t) = (node_dead r, any_dead t)

    pub arms_dead : {O Q : List ℕ} {b : Insts} {x : ℕ} {gs : Flat_goals} {arms : Arms} {os : List (Option Insts)} → OrderedArms S T O Q b x gs arms os → EachStaysDead O b os
    arms_dead O.no_arm = tt
    arms_dead (O.arm p il op ab r t) = (node_dead r, arms_dead t)
