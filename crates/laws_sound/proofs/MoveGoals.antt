-- What compound goals do to the world, by the tables of determinism.
use Rattle.std.proofs.Common.{◌≡◌, ◌⊎◌, inl, inr, ℕ, ◌≤◌, List, Bool, true, false, cond, not, ◌||◌, ◌&&◌, Option, refl, sym, ap, ◌∙◌, subst, arith, ⊎_elim}
use Rattle.std.proofs.lemmas.Bool.{or_parts}
use Rattle.mc_program.specs.Programs.{TypeTerm}
use Rattle.mc_model.specs.EventList.{Items, append, bind, choose, Each, AtMost, answers, Succeeds}
use Rattle.mc_model.specs.Stream.{Bindings}
use Rattle.mc_source.specs.Determinism.{Determinism, conj, disj, ite, is_zero, is_many, greater, rank}
use Rattle.mc_accepted.specs.Ordered.{Insts}
use Rattle.mc_accepted.specs.Determined.{Known}
use Rattle.mc_model.specs.Good.{System, TypeChoice}
use Rattle.laws_sound.specs.code.Passes.{Grows, BindsOnly, Reached, Sound, Knows}
use Rattle.laws_sound.specs.code.Moves.{Never, Calm, World, Behind, Flow, Moves}
use Rattle.mc_source.specs.declared.det.Most.{Most}
use Rattle.mc_source.specs.declared.det.Most.TheVariants.{Zero, One, Many}
use Rattle.laws_sound.proofs.Combine.{knows_more}
use Rattle.laws_sound.proofs.Lists
use Rattle.laws_sound.proofs.MoveLists
use Rattle.laws_sound.proofs.MoveLists.{never_of, moves_flow, calm_flow}
use Rattle.laws_sound.proofs.Binds.{true_not_false}

-- an io goal cannot fail; where all answers count it has at most one
abbrev pub IoFits : (io one : Bool) → Determinism → Type 0
IoFits false one d = Unit {0}
IoFits true one d = (d.can_fail ≡ false) × (one ≡ false → rank d.most ≤ 1)

pub fits_of : (io one : Bool) (d : Determinism) → d.can_fail ≡ false → (one ≡ false → rank d.most ≤ 1) → IoFits io one d
fits_of false one d f r = tt
fits_of true one d f r = (f, r)

none_of : {A : Type 0} (m : Most) (xs : Items A) → m ≡ Zero → AtMost m xs → answers xs ≡ 0
none_of m xs e c = subst (λ k. AtMost k xs) e c

one_of : {A : Type 0} (m : Most) (xs : Items A) → m ≡ One → AtMost m xs → answers xs ≤ 1
one_of m xs e c = subst (λ k. AtMost k xs) e c

rank_zero : (m m' : Most) → m ≡ m' → rank m ≡ rank m'
rank_zero m m' e = ap rank e

not_many : (m : Most) → rank (cond (is_zero m) Zero Many) ≤ 1 → m ≡ Zero
not_many Zero r = refl
not_many One r = absurd (omega arith)
not_many Many r = absurd (omega arith)

-- what the table of if-then-else says
then_sure : (c : Bool) (m : Most) (t e : Determinism) → (ite (record { can_fail = c; most = m }) t e).can_fail ≡ false → (m ≡ Zero) ⊎ (t.can_fail ≡ false)
then_sure true m t e h = inr (or_parts t.can_fail e.can_fail h).0
then_sure false Zero t e h = inl refl
then_sure false One t e h = inr h
then_sure false Many t e h = inr h

then_zero : (c : Bool) (m : Most) (t e : Determinism) → m ≡ Many → rank (ite (record { can_fail = c; most = m }) t e).most ≤ 1 → t.most ≡ Zero
then_zero c Zero t e q r = absurd (no q)
  where
    no : Zero ≡ Many → ⊥
    no e = cc
then_zero c One t e q r = absurd (no q)
  where
    no : One ≡ Many → ⊥
    no e = cc
then_zero false Many t e q r = not_many t.most r
then_zero true Many t e q r = on t.most e.most r
  where
    on : (m k : Most) → rank (cond (is_zero k && is_zero m) Zero Many) ≤ 1 → m ≡ Zero
    on Zero k r = refl
    on One Zero r = absurd (omega arith)
    on One One r = absurd (omega arith)
    on One Many r = absurd (omega arith)
    on Many Zero r = absurd (omega arith)
    on Many One r = absurd (omega arith)
    on Many Many r = absurd (omega arith)

module _ (S : System) (θ : TypeChoice) (T : ℕ → TypeTerm) (known : Known) (K L us vs : List ℕ) (e : Bindings) (kk : Knows known e) (o o' : Option Insts) (d d' : Determinism) (xs : Items Bindings) (k : Bindings → Items Bindings)
    (s : Sound S θ T known K us e o d xs) (t : (a : Bindings) → Grows e a → BindsOnly us e a → Reached S θ T K o a → Sound S θ T known L vs a o' d' (k a)) (Q R : World → Bindings → Type 0) where
  abbrev pub Between : Bindings → Type 0
  Between a = Grows e a × (BindsOnly us e a × Reached S θ T K o a)

  sure_after : d'.can_fail ≡ false → (a : Bindings) → Between a → Succeeds (k a)
  sure_after f a i = (t a i.0 i.1.0 i.1.1).sure (knows_more known e a i.0 kk) f

  never_after : d'.can_fail ≡ false → d'.most ≡ Zero → (a : Bindings) → Between a → Never (k a)
  never_after f z a i = never_of (k a) (sure_after f a i) (none_of d'.most (k a) z ((t a i.0 i.1.0 i.1.1).count (knows_more known e a i.0 kk)))

  none_before : d.most ≡ Zero → Each (λ a. ⊥) xs
  none_before z = Lists.each_none Between xs (none_of d.most xs z (s.count kk)) s.each

  all_only : (one oneN : Bool) → one ≡ false → (oneN ≡ true → one ≡ true) → oneN ≡ false
  all_only one true f h = absurd (true_not_false (sym (h refl) ∙ f))
  all_only one false f h = refl

  some_bind : (ioR one oneN : Bool) (W : World) → (m : Most) → d.most ≡ m → m ≡ One ⊎ m ≡ Many → (oneN ≡ true → one ≡ true) → Flow Q oneN W xs → d'.can_fail ≡ false → (one ≡ false → rank d'.most ≤ 1) → (one ≡ false → m ≡ Many → d'.most ≡ Zero) →
      (IoFits ioR one d' → (V : World) (a : Bindings) → Between a → Q V a → Moves R ioR one V (k a)) → Flow R one W (bind xs k)
  some_bind ioR true oneN W m q n h fl f r z mr =
      MoveLists.flow_bind_first k Between Q R oneN W xs s.each fl (λ V a i p. moves_flow R ioR true V (k a) (mr (fits_of ioR true d' f r) V a i p)) (sure_after f)
  some_bind false false oneN W m q n h fl f r z mr =
      MoveLists.flow_bind_calm k Between Q R W xs s.each (subst (λ u. Flow Q u W xs) (all_only false oneN refl h) fl) (λ V a i p. mr tt V a i p)
  some_bind true false oneN W m q n h fl f r z mr =
      ⊎_elim
      (λ u. MoveLists.flow_bind_one k Between Q R W xs s.each (subst (λ w. Flow Q w W xs) (all_only false oneN refl h) fl) (one_of d.most xs (q ∙ u) (s.count kk)) (λ V a i p. mr (f, r) V a i p) (sure_after f))
      (λ u. MoveLists.flow_bind_never k Between Q R oneN false W xs s.each fl (never_after f (z refl u))) n

  -- a conjunction that holds an io goal
  io_bind : (ioR one oneN : Bool) (W : World) (m m' : Most) → d.most ≡ m → d'.most ≡ m' → (oneN ≡ true → one ≡ true) → Flow Q oneN W xs → (not (is_zero m) && d'.can_fail) ≡ false → (one ≡ false → rank (cond (is_zero m || is_zero m') Zero (greater m m')) ≤ 1) →
      (IoFits ioR one d' → (V : World) (a : Bindings) → Between a → Q V a → Moves R ioR one V (k a)) → Flow R one W (bind xs k)
  io_bind ioR one oneN W Zero m' q q' h fl f r mr = MoveLists.flow_bind_never k (λ a. ⊥) Q R oneN one W xs (none_before q) fl (λ a z. absurd z)
  io_bind ioR one oneN W One m' q q' h fl f r mr =
      some_bind ioR one oneN W One q (inl refl) h fl f (λ u. omega (arith, one_rank m' (r u), ap rank q')) (λ u w. absurd (no w)) mr
    where
      no : One ≡ Many → ⊥
      no e = cc

      one_rank : (m' : Most) → rank (cond (is_zero m') Zero (cond (is_many m') Many One)) ≤ 1 → rank m' ≤ 1
      one_rank Zero r = r
      one_rank One r = r
      one_rank Many r = r
  io_bind ioR one oneN W Many m' q q' h fl f r mr =
      some_bind ioR one oneN W Many q (inr refl) h fl f (λ u. omega (arith, ap rank (q' ∙ not_many m' (r u)))) (λ u w. q' ∙ not_many m' (r u)) mr

  pub conj_moves : (ioN ioR one oneN : Bool) (W : World) → (oneN ≡ true → one ≡ true) → Moves Q ioN oneN W xs → IoFits (ioN || ioR) one (conj d d') → (IoFits ioR one d' → (V : World) (a : Bindings) → Between a → Q V a → Moves R ioR one V (k a)) → Moves R (ioN || ioR) one W (bind xs k)
  conj_moves false false one oneN W h mn fit mr = MoveLists.calm_bind_each k Between (Q W) (R W) xs s.each mn (λ a i p. mr tt W a i p)
  conj_moves false true one oneN W h mn fit mr = io_bind true one oneN W d.most d'.most refl refl h (calm_flow Q oneN W xs mn) (or_parts d.can_fail (not (is_zero d.most) && d'.can_fail) fit.0).1 fit.1 mr
  conj_moves true ioR one oneN W h mn fit mr = io_bind ioR one oneN W d.most d'.most refl refl h mn (or_parts d.can_fail (not (is_zero d.most) && d'.can_fail) fit.0).1 fit.1 mr

  -- an if-then-else, whose condition is calm
  module _ (d'' : Determinism) (ys : Items Bindings) (W : World) where
    choose_on : (ioT one : Bool) (m m' : Most) → d.most ≡ m → d'.most ≡ m' → Calm (Q W) xs → (d.most ≡ Zero) ⊎ (d'.can_fail ≡ false) → (one ≡ false → m ≡ Many → m' ≡ Zero) → ((a : Bindings) → Between a → Q W a → Moves R ioT one W (k a)) → Flow R one W ys → Flow R one W (choose xs k ys)
    choose_on ioT one Zero m' q q' c f z mt y = MoveLists.flow_choose_never k (λ a. ⊥) (Q W) R one W xs ys (none_before q) c (λ a z. absurd z) y
    choose_on ioT true One m' q q' c f z mt y = MoveLists.flow_choose_first k Between (Q W) R W xs ys s.each c (λ a i p. moves_flow R ioT true W (k a) (mt a i p)) (⊎_elim (λ n. absurd (no (sym q ∙ n))) (λ n. sure_after n) f) y
      where
        no : One ≡ Zero → ⊥
        no e = cc
    choose_on ioT true Many m' q q' c f z mt y = MoveLists.flow_choose_first k Between (Q W) R W xs ys s.each c (λ a i p. moves_flow R ioT true W (k a) (mt a i p)) (⊎_elim (λ n. absurd (no (sym q ∙ n))) (λ n. sure_after n) f) y
      where
        no : Many ≡ Zero → ⊥
        no e = cc
    choose_on false false One m' q q' c f z mt y = MoveLists.flow_choose_calm k Between (Q W) R W xs ys s.each c mt y
    choose_on false false Many m' q q' c f z mt y = MoveLists.flow_choose_calm k Between (Q W) R W xs ys s.each c mt y
    choose_on true false One m' q q' c f z mt y = MoveLists.flow_choose_one k Between (Q W) R W xs ys s.each c (one_of d.most xs q (s.count kk)) mt (⊎_elim (λ n. absurd (no (sym q ∙ n))) (λ n. sure_after n) f) y
      where
        no : One ≡ Zero → ⊥
        no e = cc
    choose_on true false Many m' q q' c f z mt y = MoveLists.flow_choose_never k Between (Q W) R false W xs ys s.each c (λ a i. ⊎_elim (λ n. absurd (no (sym q ∙ n))) (λ n. never_after n (q' ∙ z refl refl) a i) f) y
      where
        no : Many ≡ Zero → ⊥
        no e = cc

    pub ite_moves : (ioT ioE one : Bool) → Calm (Q W) xs → IoFits (ioT || ioE) one (ite d d' d'') → ((a : Bindings) → Between a → Q W a → Moves R ioT one W (k a)) → Moves R ioE one W ys → Moves R (ioT || ioE) one W (choose xs k ys)
    ite_moves false false one c fit mt y = MoveLists.calm_choose_each k Between (Q W) (R W) xs ys s.each c mt y
    ite_moves false true one c fit mt y = choose_on false one d.most d'.most refl refl c (then_sure d.can_fail d.most d' d'' fit.0) (λ u v. then_zero d.can_fail d.most d' d'' v (fit.1 u)) mt y
    ite_moves true ioE one c fit mt y = choose_on true one d.most d'.most refl refl c (then_sure d.can_fail d.most d' d'' fit.0) (λ u v. then_zero d.can_fail d.most d' d'' v (fit.1 u)) mt (moves_flow R ioE one W ys y)

-- a disjunction: a list of disjuncts is calm where the table gives it no answer
module _ {A : Type 0} (R : World → A → Type 0) (W : World) (d d' : Determinism) (xs ys : Items A) (count : AtMost d.most xs) where
  pub zero_append : (ioN : Bool) (one : Bool) → d.most ≡ Zero → (ioN ≡ true → Succeeds xs) → Moves R ioN one W xs → Calm (λ a. ⊥) ys → Calm (λ a. ⊥) (append xs ys)
  zero_append true one z f h k = MoveLists.calm_append (λ a. ⊥) xs ys (MoveLists.never_calm (λ a. ⊥) xs (never_of xs (f refl) (none_of d.most xs z count))) k
  zero_append false one z f h k = MoveLists.calm_append (λ a. ⊥) xs ys (MoveLists.calm_any (R W) (λ a. ⊥) xs h (none_of d.most xs z count)) k

  calm_every : (V : World) (one : Bool) (zs : Items A) → Calm (λ a. ⊥) zs → Behind one (R V) zs
  calm_every V one zs h = MoveLists.calm_behind one (R V) zs (MoveLists.calm_map (λ a. ⊥) (R V) (λ a b. absurd b) zs h)

  -- where all answers count: one of the two has none
  in_all : (ioN ioR : Bool) → (ioN ≡ true → Succeeds xs) → Moves R ioN false W xs → Moves R ioR false W ys → (d.most ≡ Zero) ⊎ Calm (λ a. ⊥) ys → Flow R false W (append xs ys)
  in_all true ioR f h k z =
      ⊎_elim
      (λ m. MoveLists.never_flow R false W (append xs ys) (MoveLists.never_append xs ys (never_of xs (f refl) (none_of d.most xs m count))))
      (λ c. MoveLists.flow_append R false W xs ys h (f refl) (λ V. calm_every V false ys c)) z
  in_all false ioR f h k z =
      ⊎_elim
      (λ m. MoveLists.flow_after (R W) R false W xs ys h (none_of d.most xs m count) (moves_flow R ioR false W ys k))
      (λ c. calm_flow R false W (append xs ys) (MoveLists.calm_append (R W) xs ys h (MoveLists.calm_map (λ a. ⊥) (R W) (λ a b. absurd b) ys c))) z

  one_zero : (m m' : Most) → rank (cond (is_zero m && is_zero m') Zero (cond (is_many m || is_many m' || not (is_zero m) && not (is_zero m')) Many One)) ≤ 1 → (m ≡ Zero) ⊎ (m' ≡ Zero)
  one_zero Zero m' r = inl refl
  one_zero One Zero r = inr refl
  one_zero One One r = absurd (omega arith)
  one_zero One Many r = absurd (omega arith)
  one_zero Many Zero r = absurd (omega arith)
  one_zero Many One r = absurd (omega arith)
  one_zero Many Many r = absurd (omega arith)

  some_append : (ioN ioR one : Bool) → (ioN ≡ true → Succeeds xs) → (one ≡ true → Succeeds xs) → (one ≡ false → rank (disj d d').most ≤ 1) → Moves R ioN one W xs → Moves R ioR one W ys → (d'.most ≡ Zero → Calm (λ a. ⊥) ys) → Flow R one W (append xs ys)
  some_append ioN ioR true f g r h k z = MoveLists.flow_append R true W xs ys (moves_flow R ioN true W xs h) (g refl) (λ V. tt)
  some_append ioN ioR false f g r h k z = in_all ioN ioR f h k (⊎_elim (λ m. inl m) (λ m. inr (z m)) (one_zero d.most d'.most (r refl)))

  pub disj_moves : (ioN ioR one : Bool) → (ioN ≡ true → Succeeds xs) → ((ioN || ioR) ≡ true → one ≡ true → Succeeds xs) → ((ioN || ioR) ≡ true → one ≡ false → rank (disj d d').most ≤ 1) → Moves R ioN one W xs → Moves R ioR one W ys → (d'.most ≡ Zero → Calm (λ a. ⊥) ys) → Moves R (ioN || ioR) one W (append xs ys)
  disj_moves false false one f g r h k z = MoveLists.calm_append (R W) xs ys h k
  disj_moves false true one f g r h k z = some_append false true one f (g refl) (r refl) h k z
  disj_moves true ioR one f g r h k z = some_append true ioR one f (g refl) (r refl) h k z
