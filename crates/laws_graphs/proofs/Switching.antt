-- Goals of which one follows the other do so in switch form.
use Rattle.std.proofs.Common.{◌≡◌, ◌⊎◌, inl, inr, ℕ, zero, suc, ◌+◌, ◌<◌, Bool, true, false, cond, not, nat_lt, ◌&&◌, List, [], ◌∷◌, ◌++◌, map, length, Option, Some, None, refl, ap, ap₂, sym, ◌∙◌, subst, ⊎_elim}
use Rattle.std.specs.List.{list_all}
use Rattle.std.specs.Option.{option_or}
use Rattle.mc_program.specs.Programs.{TypeTerm, Source}
use Rattle.mc_source.specs.declared.det.Det.{Det}
use Rattle.mc_model.specs.Good.{System}
use Rattle.mc_model.specs.Lists.{In, is_in}
use Rattle.mc_model.specs.Scheduled.{Label, for_constant, Node, node, Scheduled, Conj, Disj, Switch, Ite, Not, Exists, Assign, Test, Build, Take, Const, TestConst, Call, Apply, Nodes, Arms}
use Rattle.mc_accepted.specs.Ordered.{Insts}
use Rattle.mc_accepted.specs.Least.{least, lesser}
use Rattle.mc_accepted.specs.Determined.{insts_after}
use Rattle.mc_accepted.specs.Switched.{is_equation, is_constant, Opening, openings, openings_in, openings_all, Disjunct, goals_of, label_in, is_label, opens_with, is_told, and_label, labels_of, those, opened_variables, openings_of, Kept, arm_of, arms_on, on_chosen, covers, is_opened, misses_none, chosen, grouped, formed, formed_in, formed_all, disjuncts}
use Rattle.laws_graphs.specs.Related.{Below}
use Rattle.laws_graphs.specs.Nodes.{MeanOne}
use Rattle.laws_graphs.specs.Follows.{IsAtom, InstsFollow, Follows, follows, FollowsIn, atom, conj, disj, switch, ite, negated, some, AllFollow, no_more, and_then, EachFollows, no_other, either, ArmsFollow, no_arm, arm, Told}
use Rattle.laws_graphs.specs.SwitchLaws.{EndsBind, BindsWell, BindsWellIn, AllBindWell, EachBindsWell, DisjunctsFollow, no_disjuncts, a_disjunct, KeptFollows, SwitchFormsFollow}
use Rattle.laws_graphs.proofs.Lists.{least-agree}
use Rattle.laws_graphs.proofs.Determining.{after-follow}
use Rattle.laws_graphs.proofs.Telling.{nodes-told}

-- the least of some numbers is one of them
lesser-is : (x : ℕ) (o : Option ℕ) (v : ℕ) → Some (lesser x o) ≡ Some v → (x ≡ v) ⊎ (o ≡ Some v)
lesser-is x None v e = inl (ap (λ (o : Option ℕ). number o x) e)
  where
    number : Option ℕ → ℕ → ℕ
    number None y = y
    number (Some z) y = z
lesser-is x (Some y) v e = at (nat_lt y x) e
  where
    at : (t : Bool) → Some (cond t y x) ≡ Some v → (x ≡ v) ⊎ (Some y ≡ Some v)
    at true q = inr q
    at false q = inl (ap (λ (o : Option ℕ). number o x) q)
      where
        number : Option ℕ → ℕ → ℕ
        number None z = z
        number (Some z) w = z

least-in : (f : ℕ → Bool) (xs : List ℕ) (v : ℕ) → least f xs ≡ Some v → In v xs
least-in f [] v e = absurd (cc e)
least-in f (x ∷ xs) v e = at (f x) e (λ q. least-in f xs v q)
  where
    at : (t : Bool) → cond t (Some (lesser x (least f xs))) (least f xs) ≡ Some v → (least f xs ≡ Some v → In v xs) → In v (x ∷ xs)
    at true q r = ⊎_elim (λ s. inl (sym s)) (λ s. inr (r s)) (lesser-is x (least f xs) v q)
    at false q r = inr (r q)

or-in : (o p : Option ℕ) (v : ℕ) (X : Type 0) → (o ≡ Some v → X) → (p ≡ Some v → X) → option_or o p ≡ Some v → X
or-in None p v X f g e = g e
or-in (Some x) p v X f g e = f e

in-parts : (x : ℕ) (os ps : List Opening) → In x (map (λ (o : Opening). o.0) (os ++ ps)) → In x (map (λ (o : Opening). o.0) os) ⊎ In x (map (λ (o : Opening). o.0) ps)
in-parts x [] ps i = inr i
in-parts x (o ∷ os) ps i = ⊎_elim (λ e. inl (inl e)) (λ j. ⊎_elim (λ k. inl (inr k)) (λ k. inr k) (in-parts x os ps j)) i

equation-atom : (s : Scheduled) (ss rs : List (ℕ × ℕ)) (d : Det) (m : Bool) → is_equation (node s ss d m) ≡ is_equation (node s rs d m)
equation-atom (Conj ns) ss rs d m = refl
equation-atom (Disj ns) ss rs d m = refl
equation-atom (Switch x ns) ss rs d m = refl
equation-atom (Ite vs g k l) ss rs d m = refl
equation-atom (Not n) ss rs d m = refl
equation-atom (Exists vs n) ss rs d m = refl
equation-atom (Assign x y) ss rs d m = refl
equation-atom (Test x y) ss rs d m = refl
equation-atom (Build x s ys) ss rs d m = refl
equation-atom (Take x s ys) ss rs d m = refl
equation-atom (Const x v) ss rs d m = refl
equation-atom (TestConst x v) ss rs d m = refl
equation-atom (Call p xs is l) ss rs d m = refl
equation-atom (Apply op xs ys) ss rs d m = refl

module _ (P : Source) (T : ℕ → TypeTerm) (first : ℕ) (R : TypeTerm → ℕ → ℕ → Type 0) where
  abbrev F : Insts → Insts → Node → Node → Type 0
  F b c n m = Follows P T first R b c n m

  abbrev FI : Insts → Insts → Scheduled → Scheduled → Type 0
  FI b c s r = FollowsIn P T first R b c s r

  abbrev FA : Insts → Insts → Nodes → Nodes → Type 0
  FA b c ns ms = AllFollow P T first R b c ns ms

  abbrev FE : Insts → Insts → Nodes → Nodes → Type 0
  FE b c ns ms = EachFollows P T first R b c ns ms

  abbrev FR : Insts → Insts → Arms → Arms → Type 0
  FR b c ns ms = ArmsFollow P T first R b c ns ms

  abbrev IF : Insts → Insts → Type 0
  IF b c = InstsFollow P T first R b c

  abbrev DF : Insts → Insts → List Disjunct → List Disjunct → Type 0
  DF b c ds es = DisjunctsFollow P T first R b c ds es

  abbrev OpensBelow : List Opening → Type 0
  OpensBelow os = Below first (map (λ (o : Opening). o.0) os)

  -- ---- what is opened
  equation-same : (b c : Insts) (n m : Node) → F b c n m → is_equation n ≡ is_equation m
  equation-same b c n m (follows {s = s} {ss = ss} {rs = rs} {d = d} {m = t} (atom a) i) = equation-atom s ss rs d t
  equation-same b c n m (follows (conj f) i) = refl
  equation-same b c n m (follows (disj f) i) = refl
  equation-same b c n m (follows (switch lt f) i) = refl
  equation-same b c n m (follows (ite f g k) i) = refl
  equation-same b c n m (follows (negated f) i) = refl
  equation-same b c n m (follows (some f) i) = refl

  mutual
    openings-same : (b c : Insts) (n m : Node) → F b c n m → openings n ≡ openings m
    openings-same b c n m (follows {s = s} {r = r} f i) = openings-in-same b c s r f

    openings-in-same : (b c : Insts) (s r : Scheduled) → FI b c s r → openings_in s ≡ openings_in r
    openings-in-same b c s r (atom a) = refl
    openings-in-same b c s r (conj f) = openings-all-same b c _ _ f
    openings-in-same b c s r (disj f) = refl
    openings-in-same b c s r (switch lt f) = refl
    openings-in-same b c s r (ite f g k) = refl
    openings-in-same b c s r (negated f) = refl
    openings-in-same b c s r (some f) = openings-same b c _ _ f

    openings-all-same : (b c : Insts) (ns ms : Nodes) → FA b c ns ms → openings_all ns ≡ openings_all ms
    openings-all-same b c ns ms no_more = refl
    openings-all-same b c ns ms (and_then f g) =
        ap₂ (λ (t : Bool) (os : List Opening). cond t os []) (equation-same b c _ _ f) (ap₂ (λ (os ps : List Opening). os ++ ps) (openings-same b c _ _ f) (openings-all-same _ _ _ _ g))

  atom-below : (s : Scheduled) → IsAtom P T first s → OpensBelow (openings_in s)
  atom-below (Conj ns) a = absurd a
  atom-below (Disj ns) a = absurd a
  atom-below (Switch x ns) a = absurd a
  atom-below (Ite vs g k l) a = absurd a
  atom-below (Not n) a = absurd a
  atom-below (Exists vs n) a = absurd a
  atom-below (Assign x y) a = λ z i. absurd i
  atom-below (Test x y) a = λ z i. absurd i
  atom-below (Build x s ys) a = λ z i. absurd i
  atom-below (Take x s ys) a = λ z i. ⊎_elim (λ e. subst (λ w. w < first) (sym e) a.0) (λ k. absurd k) i
  atom-below (Const x v) a = λ z i. absurd i
  atom-below (TestConst x v) a = at (is_constant v)
    where
      at : (t : Bool) → OpensBelow (cond t ((x, for_constant v) ∷ []) [])
      at true z i = ⊎_elim (λ e. subst (λ w. w < first) (sym e) a.0) (λ k. absurd k) i
      at false z i = absurd i
  atom-below (Call p xs is l) a = λ z i. absurd i
  atom-below (Apply op xs ys) a = λ z i. absurd i

  cond-below : (t : Bool) (os ps : List Opening) → OpensBelow os → OpensBelow ps → OpensBelow (cond t (os ++ ps) [])
  cond-below true os ps f g x i = ⊎_elim (λ j. f x j) (λ j. g x j) (in-parts x os ps i)
  cond-below false os ps f g x i = absurd i

  mutual
    openings-below : (b c : Insts) (n m : Node) → F b c n m → OpensBelow (openings n)
    openings-below b c n m (follows {s = s} {r = r} f i) = openings-in-below b c s r f

    openings-in-below : (b c : Insts) (s r : Scheduled) → FI b c s r → OpensBelow (openings_in s)
    openings-in-below b c s r (atom a) = atom-below s a
    openings-in-below b c s r (conj f) = openings-all-below b c _ _ f
    openings-in-below b c s r (disj f) = λ x i. absurd i
    openings-in-below b c s r (switch lt f) = λ x i. absurd i
    openings-in-below b c s r (ite f g k) = λ x i. absurd i
    openings-in-below b c s r (negated f) = λ x i. absurd i
    openings-in-below b c s r (some f) = openings-below b c _ _ f

    openings-all-below : (b c : Insts) (ns ms : Nodes) → FA b c ns ms → OpensBelow (openings_all ns)
    openings-all-below b c ns ms no_more = λ x i. absurd i
    openings-all-below b c ns ms (and_then {n = n} {ns = ks} f g) = cond-below (is_equation n) (openings n) (openings_all ks) (openings-below b c _ _ f) (openings-all-below _ _ _ _ g)

  -- ---- disjuncts
  goals-each : (b c : Insts) (ds es : List Disjunct) → DF b c ds es → FE b c (goals_of ds) (goals_of es)
  goals-each b c ds es no_disjuncts = no_other
  goals-each b c ds es (a_disjunct o w f k) = either f (goals-each b c _ _ k)

  labels-same : (x : ℕ) (b c : Insts) (ds es : List Disjunct) → DF b c ds es → labels_of x ds ≡ labels_of x es
  labels-same x b c ds es no_disjuncts = refl
  labels-same x b c ds es (a_disjunct o w f k) = ap₂ (λ (os : List Opening) (ls : List Label). and_label (label_in x os) ls) o (labels-same x b c _ _ k)

  told-same : (x : ℕ) (b c : Insts) (ds es : List Disjunct) → DF b c ds es → list_all (λ (d : Disjunct). is_told (label_in x d.opens)) ds ≡ list_all (λ (d : Disjunct). is_told (label_in x d.opens)) es
  told-same x b c ds es no_disjuncts = refl
  told-same x b c ds es (a_disjunct o w f k) = ap₂ (λ (os : List Opening) (t : Bool). is_told (label_in x os) && t) o (told-same x b c _ _ k)

  variables-same : (b c : Insts) (ds es : List Disjunct) → DF b c ds es → opened_variables ds ≡ opened_variables es
  variables-same b c ds es no_disjuncts = refl
  variables-same b c ds es (a_disjunct o w f k) = ap (map (λ (o : Opening). o.0)) o

  variables-below : (b c : Insts) (ds es : List Disjunct) → DF b c ds es → Below first (opened_variables ds)
  variables-below b c ds es no_disjuncts = λ x i. absurd i
  variables-below b c ds es (a_disjunct o w f k) = w

  openings-of-same : (b c : Insts) (ds es : List Disjunct) → DF b c ds es → openings_of ds ≡ openings_of es
  openings-of-same b c ds es no_disjuncts = refl
  openings-of-same b c ds es (a_disjunct o w f k) = ap₂ (λ (os : List Opening) (n : ℕ). length os + n) o (openings-of-same b c _ _ k)

  those-follow : (x : ℕ) (l : Label) (b c : Insts) (ds es : List Disjunct) → DF b c ds es → DF b c (those (opens_with x l) ds) (those (opens_with x l) es)
  those-follow x l b c ds es no_disjuncts = no_disjuncts
  those-follow x l b c ds es (a_disjunct {d = d} {e = e} {ds = ds'} {es = es'} o w f k) = at (opens_with x l d) (opens_with x l e) (ap (λ (os : List Opening). is_label l (label_in x os)) o) (those-follow x l b c ds' es' k)
    where
      at : (t u : Bool) → t ≡ u → DF b c (those (opens_with x l) ds') (those (opens_with x l) es') → DF b c (cond t (d ∷ those (opens_with x l) ds') (those (opens_with x l) ds')) (cond u (e ∷ those (opens_with x l) es') (those (opens_with x l) es'))
      at true true q h = a_disjunct o w f h
      at true false q h = absurd (cc q)
      at false true q h = absurd (cc q)
      at false false q h = h

  arms-follow : (x : ℕ) (b c : Insts) (A B : List Disjunct → Node) (W : List Disjunct → Type 0) → ((l : Label) (ds : List Disjunct) → W ds → W (those (opens_with x l) ds)) → ((ds es : List Disjunct) → DF b c ds es → W ds → F b c (A ds) (B es)) →
      (ds es : List Disjunct) → DF b c ds es → W ds → (ls : List Label) → FR b c (arms_on A x ds ls) (arms_on B x es ls)
  arms-follow x b c A B W t f ds es k w [] = no_arm
  arms-follow x b c A B W t f ds es k w (l ∷ ls) = arm (f (those (opens_with x l) ds) (those (opens_with x l) es) (those-follow x l b c ds es k) (t l ds w)) (arms-follow x b c A B W t f ds es k w ls)

  formed-atom : (S : System) (kept : (before after : Insts) → Kept) (b c : Insts) (s : Scheduled) → IsAtom P T first s → formed_in S T kept b c s ≡ s
  formed-atom S kept b c (Conj ns) a = absurd a
  formed-atom S kept b c (Disj ns) a = absurd a
  formed-atom S kept b c (Switch x ns) a = absurd a
  formed-atom S kept b c (Ite vs g k l) a = absurd a
  formed-atom S kept b c (Not n) a = absurd a
  formed-atom S kept b c (Exists vs n) a = absurd a
  formed-atom S kept b c (Assign x y) a = refl
  formed-atom S kept b c (Test x y) a = refl
  formed-atom S kept b c (Build x s ys) a = refl
  formed-atom S kept b c (Take x s ys) a = refl
  formed-atom S kept b c (Const x v) a = refl
  formed-atom S kept b c (TestConst x v) a = refl
  formed-atom S kept b c (Call p xs is l) a = refl
  formed-atom S kept b c (Apply op xs ys) a = refl

  -- a switch stays as it is
  arms-stay : (S U : System) (kept other : (before after : Insts) → Kept) (b c b' c' : Insts) (x : ℕ) (ns ms : Arms) → x < first → FR b b' ns ms → FI b b' (formed_in S T kept b c (Switch x ns)) (formed_in U T other b' c' (Switch x ms))
  arms-stay S U kept other b c b' c' x ns ms lt f = switch lt f

  module _ (S U : System) (told : Told P T first R S U) (kept other : (before after : Insts) → Kept) (keeps : KeptFollows P T first R S kept other) where
    those-bind : (x : ℕ) (b c : Insts) (l : Label) (ds : List Disjunct) → EndsBind S T b c ds → EndsBind S T b c (those (opens_with x l) ds)
    those-bind x b c l [] w = tt
    those-bind x b c l (d ∷ ds) w = at (opens_with x l d) (those-bind x b c l ds w.1)
      where
        at : (t : Bool) → EndsBind S T b c (those (opens_with x l) ds) → EndsBind S T b c (cond t (d ∷ those (opens_with x l) ds) (those (opens_with x l) ds))
        at true k = (w.0, k)
        at false k = k

    opened-same : (out : List ℕ) (b b' : Insts) (ds es : List Disjunct) (x : ℕ) → IF b b' → DF b b' ds es → is_opened S T out b ds x ≡ is_opened U T out b' es x
    opened-same out b b' ds es x h k = ap₂ (λ (p q : Bool). p && (not (is_in x out) && q)) (h.bound x) (told-same x b b' ds es k)

    misses-none-same : (b b' : Insts) (ds es : List Disjunct) (x : ℕ) → x < first → IF b b' → DF b b' ds es → misses_none S T b ds x ≡ misses_none U T b' es x
    misses-none-same b b' ds es x lt h k = ap₂ (λ (o : Option (List ℕ)) (ls : List Label). covers S T o ls) (told.allowed (T x) (b x) (b' x) (h.own x lt)) (labels-same x b b' ds es k)

    chosen-same : (out : List ℕ) (b b' : Insts) (ds es : List Disjunct) → IF b b' → DF b b' ds es → chosen S T out b ds ≡ chosen U T out b' es
    chosen-same out b b' ds es h k =
        ap₂ (λ (o p : Option ℕ). option_or o p)
        (least-agree (λ x. is_opened S T out b ds x && misses_none S T b ds x) (λ x. is_opened U T out b' es x && misses_none U T b' es x) (opened_variables ds)
        (λ x i. ap₂ (λ (p q : Bool). p && q) (opened-same out b b' ds es x h k) (misses-none-same b b' ds es x (variables-below b b' ds es k x i) h k))
        ∙ ap (least (λ x. is_opened U T out b' es x && misses_none U T b' es x)) (variables-same b b' ds es k))
        (least-agree (is_opened S T out b ds) (is_opened U T out b' es) (opened_variables ds) (λ x i. opened-same out b b' ds es x h k) ∙ ap (least (is_opened U T out b' es)) (variables-same b b' ds es k))

    chosen-below : (out : List ℕ) (b b' : Insts) (ds es : List Disjunct) (x : ℕ) → DF b b' ds es → chosen S T out b ds ≡ Some x → x < first
    chosen-below out b b' ds es x k e =
        variables-below b b' ds es k x
        (or-in (least (λ x. is_opened S T out b ds x && misses_none S T b ds x) (opened_variables ds)) (least (is_opened S T out b ds) (opened_variables ds)) x (In x (opened_variables ds))
        (λ q. least-in (λ x. is_opened S T out b ds x && misses_none S T b ds x) (opened_variables ds) x q) (λ q. least-in (is_opened S T out b ds) (opened_variables ds) x q) e)

    abbrev Again : Insts → Insts → Insts → (A B : List Disjunct → Scheduled) → Type 0
    Again b c b' A B = (ds es : List Disjunct) → DF b b' ds es → EndsBind S T b c ds → FI b b' (A ds) (B es)

    arm-follows : (b c b' c' : Insts) (A B : List Disjunct → Scheduled) → IF b b' → IF c c' → Again b c b' A B → (ds es : List Disjunct) → DF b b' ds es → EndsBind S T b c ds → F b b' (arm_of (kept b c) A ds) (arm_of (other b' c') B es)
    arm-follows b c b' c' A B h i f ds es no_disjuncts w = follows (f [] [] no_disjuncts tt) (keeps b c b' c' [] [] h i no_disjuncts tt)
    arm-follows b c b' c' A B h i f ds es (a_disjunct o v g no_disjuncts) w = g
    arm-follows b c b' c' A B h i f ds es (a_disjunct {d = d} {e = e} o v g (a_disjunct {d = d'} {e = e'} {ds = xs} {es = ys} o' v' g' k)) w =
        let q : DF b b' (d ∷ d' ∷ xs) (e ∷ e' ∷ ys) = a_disjunct o v g (a_disjunct o' v' g' k) in
        follows (f (d ∷ d' ∷ xs) (e ∷ e' ∷ ys) q w) (keeps b c b' c' (d ∷ d' ∷ xs) (e ∷ e' ∷ ys) h i q w)

    grouped-follow : (k : ℕ) (b c b' c' : Insts) (out : List ℕ) (ds es : List Disjunct) → IF b b' → IF c c' → DF b b' ds es → EndsBind S T b c ds → FI b b' (grouped S T (kept b c) k b out ds) (grouped U T (other b' c') k b' out es)
    grouped-follow zero b c b' c' out ds es h i q w = disj (goals-each b b' ds es q)
    grouped-follow (suc k) b c b' c' out ds es h i q w =
        subst (λ (o : Option ℕ). FI b b' (grouped S T (kept b c) (suc k) b out ds) (on_chosen (λ out. arm_of (other b' c') (grouped U T (other b' c') k b' out)) out es o)) (chosen-same out b b' ds es h q)
        (at (chosen S T out b ds) (λ x e. chosen-below out b b' ds es x q e)
        (λ x. arms-follow x b b' (arm_of (kept b c) (grouped S T (kept b c) k b (x ∷ out))) (arm_of (other b' c') (grouped U T (other b' c') k b' (x ∷ out))) (EndsBind S T b c) (those-bind x b c)
        (arm-follows b c b' c' (grouped S T (kept b c) k b (x ∷ out)) (grouped U T (other b' c') k b' (x ∷ out)) h i (λ ds' es' q' w'. grouped-follow k b c b' c' (x ∷ out) ds' es' h i q' w')) ds es q w (labels_of x ds)))
      where
        at : (o : Option ℕ) → ((x : ℕ) → o ≡ Some x → x < first) → ((x : ℕ) → FR b b' (arms_on (arm_of (kept b c) (grouped S T (kept b c) k b (x ∷ out))) x ds (labels_of x ds)) (arms_on (arm_of (other b' c') (grouped U T (other b' c') k b' (x ∷ out))) x es (labels_of x ds))) →
            FI b b' (on_chosen (λ out. arm_of (kept b c) (grouped S T (kept b c) k b out)) out ds o) (on_chosen (λ out. arm_of (other b' c') (grouped U T (other b' c') k b' out)) out es o)
        at None f g = disj (goals-each b b' ds es q)
        at (Some x) f g =
            switch (f x refl)
            (subst (λ (ls : List Label). FR b b' (arms_on (arm_of (kept b c) (grouped S T (kept b c) k b (x ∷ out))) x ds (labels_of x ds)) (arms_on (arm_of (other b' c') (grouped U T (other b' c') k b' (x ∷ out))) x es ls)) (labels-same x b b' ds es q) (g x))

    -- the insts after a goal are those after its form
    moved-one : (b b' : Insts) (g g' n m : Node) → F (insts_after g b) (insts_after g' b') n m → F (insts_after (formed S T kept b g) b) (insts_after (formed U T other b' g') b') n m
    moved-one b b' (node s ss d t) (node r rs e u) n m f = f

    moved-all : (b b' : Insts) (g g' : Node) (ns ms : Nodes) → FA (insts_after g b) (insts_after g' b') ns ms → FA (insts_after (formed S T kept b g) b) (insts_after (formed U T other b' g') b') ns ms
    moved-all b b' (node s ss d t) (node r rs e u) ns ms f = f

    mutual
      pub formed-follow : (b b' : Insts) (n m : Node) → IF b b' → F b b' n m → BindsWell S T kept b n → F b b' (formed S T kept b n) (formed U T other b' m)
      formed-follow b b' n m h (follows {s = s} {r = r} {ss = ss} {rs = rs} {d = d} {m = t} f a) w = follows (formed-in-follow b (insts_after (node s ss d t) b) b' (insts_after (node r rs d t) b') s r h a f w) a

      formed-in-follow : (b c b' c' : Insts) (s r : Scheduled) → IF b b' → IF c c' → FI b b' s r → BindsWellIn S T kept b c s → FI b b' (formed_in S T kept b c s) (formed_in U T other b' c' r)
      formed-in-follow b c b' c' s r h i (atom a) w = subst (λ (x : Scheduled). FI b b' x (formed_in U T other b' c' s)) (sym (formed-atom S kept b c s a)) (subst (λ (x : Scheduled). FI b b' s x) (sym (formed-atom U other b' c' s a)) (atom a))
      formed-in-follow b c b' c' s r h i (conj f) w = conj (formed-all-follow b b' _ _ h f w)
      formed-in-follow b c b' c' s r h i (disj {ns = ns} {ms = ms} f) w =
          let q = disjuncts-follow b b' ns ms h f w.1 in
          subst (λ (k : ℕ). FI b b' (grouped S T (kept b c) (openings_of (disjuncts S T kept b ns)) b [] (disjuncts S T kept b ns)) (grouped U T (other b' c') k b' [] (disjuncts U T other b' ms)))
          (openings-of-same b b' (disjuncts S T kept b ns) (disjuncts U T other b' ms) q)
          (grouped-follow (openings_of (disjuncts S T kept b ns)) b c b' c' [] (disjuncts S T kept b ns) (disjuncts U T other b' ms) h i q w.0)
      formed-in-follow b c b' c' s r h i (switch {x = x} {ns = ns} {ms = ms} lt f) w = arms-stay S U kept other b c b' c' x ns ms lt f
      formed-in-follow b c b' c' s r h i (ite {g = g} {h = t} {k = e} {g' = g'} {h' = t'} {k' = e'} f k l) w =
          ite (formed-follow b b' g g' h f w.0) (moved-one b b' g g' _ _ (formed-follow (insts_after g b) (insts_after g' b') t t' (after-follow P T first R b b' g g' f) k w.1)) (formed-follow b b' e e' h l w.2)
      formed-in-follow b c b' c' s r h i (negated f) w = negated (formed-follow b b' _ _ h f w)
      formed-in-follow b c b' c' s r h i (some f) w = some (formed-follow b b' _ _ h f w)

      formed-all-follow : (b b' : Insts) (ns ms : Nodes) → IF b b' → FA b b' ns ms → AllBindWell S T kept b ns → FA b b' (formed_all S T kept b ns) (formed_all U T other b' ms)
      formed-all-follow b b' ns ms h no_more w = no_more
      formed-all-follow b b' ns ms h (and_then {n = n} {m = m} {ns = ks} {ms = ls} f g) w =
          and_then (formed-follow b b' n m h f w.0) (moved-all b b' n m _ _ (formed-all-follow (insts_after n b) (insts_after m b') ks ls (after-follow P T first R b b' n m f) g w.1))

      disjuncts-follow : (b b' : Insts) (ns ms : Nodes) → IF b b' → FE b b' ns ms → EachBindsWell S T kept b ns → DF b b' (disjuncts S T kept b ns) (disjuncts U T other b' ms)
      disjuncts-follow b b' ns ms h no_other w = no_disjuncts
      disjuncts-follow b b' ns ms h (either {n = n} {m = m} f g) w = a_disjunct (openings-same b b' n m f) (openings-below b b' n m f) (formed-follow b b' n m h f w.0) (disjuncts-follow b b' _ _ h g w.1)

pub switch-forms-follow : SwitchFormsFollow
switch-forms-follow S U T first m n kept other alike listed keeps b c g h w i f =
    formed-follow S.world.source T first (MeanOne S.world.source m S.insts n U.insts) S U (nodes-told S U T m n alike listed first) kept other keeps b c g h i f w
