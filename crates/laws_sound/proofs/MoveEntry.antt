-- Procedures move the world as they should: entry, exit, and levels of calls.
use Rattle.std.proofs.Common.{◌≡◌, ◌≢◌, inl, inr, ℕ, zero, suc, List, [], ◌∷◌, ◌++◌, map, length, Bool, true, false, cond, nat_eq, Option, Some, None, refl, sym, ap, ◌∙◌, subst, arith}
use Rattle.std.proofs.lemmas.Bool.{eqb-true}
use Rattle.mc_program.specs.Values.{Val}
use Rattle.mc_program.specs.Programs.{TypeTerm, state_type}
use Rattle.mc_model.specs.Insts.{free, unique, dead}
use Rattle.mc_model.specs.Flat.{variables_of}
use Rattle.mc_model.specs.Lists.{In, Among, Distinct}
use Rattle.mc_model.specs.EventList.{Items, End, Stuck, Answer, bind, Each}
use Rattle.mc_model.specs.Stream.{Bindings, Calls, calls, body_items, enter, leave, ready, pruned_to, stream, is_bound}
use Rattle.mc_model.specs.Scheduled.{Procedure}
use Rattle.mc_model.specs.Good.{System, TypeChoice, BoundAs, Given, types_of}
use Rattle.mc_accepted.specs.Inclusion.{Included, NoMore}
use Rattle.mc_accepted.specs.BuiltinTypes.{Library_types}
use Rattle.mc_accepted.specs.ProperTypes.{Parameters, ProperType}
use Rattle.mc_accepted.specs.Ordered.{Insts, zipped, modes_of_procedure, variables_of_node}
use Rattle.mc_accepted.specs.Determined.{nothing_known, is_io}
use Rattle.mc_accepted.specs.Fits.{FitsProcedure, Fits, goal_of, type_of}
use Rattle.mc_accepted.specs.Accepted.{entered, Final, FinalAfter, AcceptedProcedure, Accepted}
use Rattle.laws_sound.specs.code.Passes.{Grows, BindsOnly, TypedAt, Reached, Sound, CallsSound}
use Rattle.mc_accepted.specs.IoFits.{FitsIo}
use Rattle.laws_sound.specs.code.Moves.{World, Flow, Live, Holds, HoldsAfter, Shares, SharesAt, Tells, TidyModes, TidyProcedures, OnePlace, NoPlace, Taken, Made, Handed, Returned, ReturnedBy, EachShares, CallsMove, CallsLend}
use Rattle.laws_language.proofs.FlatGoals.{in_left, in_right}
use Rattle.laws_sound.proofs.Binds
use Rattle.laws_sound.proofs.Entry
use Rattle.laws_sound.proofs.Entry.{lined, known_none, enter_typed, enter_closed, given_ready, from_distinct, cond_true, calls_sound}
use Rattle.laws_sound.proofs.MoveGiven.{included_more}
use Rattle.laws_sound.proofs.MoveHolds.{state_unique}
use Rattle.laws_sound.proofs.MoveLists
use Rattle.laws_sound.proofs.MoveShares.{shares_more}
use Rattle.laws_sound.proofs.MoveSound.{moves_node}
use Rattle.laws_sound.proofs.Sound as Sounds
use Rattle.laws_sound.proofs.Typed
use Rattle.laws_sound.proofs.TypeInstances.{of_general}

zero_two : (◌≡◌ {A = ℕ} 0 2) → ⊥
zero_two e = omega arith

pub no_length : (n : ℕ) → suc n ≡ 0 → ⊥
no_length n e = omega (arith, e)

pub less : (m n : ℕ) → suc m ≡ suc n → m ≡ n
less m n e = omega (arith, e)

-- entry
taken_on : (t : Bool) (i k : ℕ) (X : Type 0) → cond t i k ≡ 2 → (t ≡ true → i ≡ 2 → X) → (t ≡ false → k ≡ 2 → X) → X
taken_on true i k X q f g = f refl q
taken_on false i k X q f g = g refl q

told_on : (Q : Option Val → Type 0) (t : Bool) (i k : ℕ) (v o : Option Val) → cond t i k ≡ 2 → (i ≡ 2 → Q v) → (k ≡ 2 → Q o) → Q (cond t (cond (is_bound i) v None) o)
told_on Q true i k v o q f g = subst (λ j. Q (cond (is_bound j) v None)) (sym q) (f q)
told_on Q false i k v o q f g = g q

enter_tells : (Q : Option Val → Type 0) (ys is ls : List ℕ) (vs : List (Option Val)) → length is ≡ length ls → Handed (zipped is ls) vs Q → (x : ℕ) → entered ys is x ≡ 2 → Q (enter ys is vs x)
enter_tells Q [] is ls vs n h x q = absurd (zero_two q)
enter_tells Q (y ∷ ys) [] ls vs n h x q = absurd (zero_two q)
enter_tells Q (y ∷ ys) (i ∷ is) [] vs n h x q = absurd (no_length (length is) n)
enter_tells Q (y ∷ ys) (i ∷ is) (l ∷ ls) [] n h x q = absurd h
enter_tells Q (y ∷ ys) (i ∷ is) (l ∷ ls) (v ∷ vs) n h x q = told_on Q (nat_eq x y) i (entered ys is x) v (enter ys is vs x) q h.0 (enter_tells Q ys is ls vs (less (length is) (length ls) n) h.1 x)

enter_none : (ys is ls : List ℕ) → length is ≡ length ls → NoPlace Taken (zipped is ls) → (x : ℕ) → entered ys is x ≡ 2 → ⊥
enter_none [] is ls n h x q = zero_two q
enter_none (y ∷ ys) [] ls n h x q = zero_two q
enter_none (y ∷ ys) (i ∷ is) [] n h x q = no_length (length is) n
enter_none (y ∷ ys) (i ∷ is) (l ∷ ls) n h x q = taken_on (nat_eq x y) i (entered ys is x) ⊥ q (λ t e. h.0 e) (λ t e. enter_none ys is ls (less (length is) (length ls) n) h.1 x e)

enter_alone : (ys is ls : List ℕ) → length is ≡ length ls → OnePlace Taken (zipped is ls) → (x z : ℕ) → entered ys is x ≡ 2 → entered ys is z ≡ 2 → x ≡ z
enter_alone [] is ls n h x z q r = absurd (zero_two q)
enter_alone (y ∷ ys) [] ls n h x z q r = absurd (zero_two q)
enter_alone (y ∷ ys) (i ∷ is) [] n h x z q r = absurd (no_length (length is) n)
enter_alone (y ∷ ys) (i ∷ is) (l ∷ ls) n h x z q r =
    let m = less (length is) (length ls) n in
    taken_on (nat_eq x y) i (entered ys is x) (x ≡ z) q
    (λ t e. taken_on (nat_eq z y) i (entered ys is z) (x ≡ z) r (λ s f. eqb-true x y t ∙ sym (eqb-true z y s)) (λ s f. absurd (enter_none ys is ls m (h.0 e) z f)))
    (λ t e. taken_on (nat_eq z y) i (entered ys is z) (x ≡ z) r (λ s f. absurd (enter_none ys is ls m (h.0 f) x e)) (λ s f. enter_alone ys is ls m h.1 x z e f))

module _ (S : System) (T : ℕ → TypeTerm) where
  enter_one : (t p : Bool) (i k : ℕ) (u u' : TypeTerm) (v o : Option Val) (w : Val) → is_bound i ≡ p → (t ≡ true → u' ≡ u) → (i ≢ 0 → S.insts i ≢ dead → (w : Val) → v ≡ Some w → Shares S.world.source S.insts w i u) → (S.insts k ≢ dead → o ≡ Some w → Shares S.world.source S.insts w k u') → S.insts (cond t i k) ≢ dead → cond t (cond p v None) o ≡ Some w → Shares S.world.source S.insts w (cond t i k) u'
  enter_one true true i k u u' v o w b f g h d q = subst (λ y. Shares S.world.source S.insts w i y) (sym (f refl)) (g (Typed.bound_is i b) d w q)
  enter_one true false i k u u' v o w b f g h d q = absurd (Binds.none_some None w refl q)
  enter_one false p i k u u' v o w b f g h d q = h d q

  pub enter_shares : (ys is : List ℕ) (ts : List TypeTerm) (vs : List (Option Val)) → map T ys ≡ ts → EachShares S is ts vs → (x : ℕ) → S.insts (entered ys is x) ≢ dead → (w : Val) → enter ys is vs x ≡ Some w → Shares S.world.source S.insts w (entered ys is x) (T x)
  enter_shares [] is ts vs m h x d w q = absurd (Binds.none_some None w refl q)
  enter_shares (y ∷ ys) [] ts vs m h x d w q = absurd (Binds.none_some None w refl q)
  enter_shares (y ∷ ys) (i ∷ is) ts [] m h x d w q = absurd (Binds.none_some None w refl q)
  enter_shares (y ∷ ys) (i ∷ is) [] (v ∷ vs) m h x d w q = absurd (no (T y) (map T ys) m)
    where
      no : (t : TypeTerm) (ts : List TypeTerm) → t ∷ ts ≡ [] → ⊥
      no t ts e = cc
  enter_shares (y ∷ ys) (i ∷ is) (t ∷ ts) (v ∷ vs) m h x d w q =
      enter_one (nat_eq x y) (is_bound i) i (entered ys is x) t (T x) v (enter ys is vs x) w refl (λ r. ap T (eqb-true x y r) ∙ Sounds.cons_front (T y) t (map T ys) ts m) h.0 (λ e r. enter_shares ys is ts vs (Sounds.cons_rest (T y) t (map T ys) ts m) h.1 x e w r) d q

module _ (S : System) (D : Parameters) (F : Fits S D) (θ : TypeChoice) (p : Procedure) (proper : (x : ℕ) → ProperType D (type_of S p x)) where
  abbrev T : ℕ → TypeTerm
  T = type_of S p

  left_one : (l : ℕ) (o : Option Val) (v : Val) (q : Bool) → is_bound l ≡ q → l ≢ 0 → cond q o None ≡ Some v → o ≡ Some v
  left_one l o v true b n e = e
  left_one l o v false b n e = absurd (n (Typed.free_is l b))

  -- exit
  pub exit_shares : (ys ls : List ℕ) (ts : List TypeTerm) (c : Insts) (a : Bindings) → map T ys ≡ ts → Final S p ys ls c → SharesAt S T ys c a → TypedAt S θ T ys c a → EachShares S ls ts (leave ys ls a)
  exit_shares [] [] ts c a m f s t = tt
  exit_shares [] (l ∷ ls) ts c a m f s t = absurd f
  exit_shares (y ∷ ys) [] ts c a m f s t = absurd f
  exit_shares (y ∷ ys) (l ∷ ls) [] c a m f s t = tt
  exit_shares (y ∷ ys) (l ∷ ls) (u ∷ ts) c a m f s t = (
    (λ n d v q.
        let r = left_one l (a y) v (is_bound l) refl n q in
        let k = included_more (S.insts (c y)) (S.insts l) (NoMore S.world.source S.insts (c y) l (T y)) f.0 (λ e. n (Typed.only_free S D F l e)) d in
        subst (λ w. Shares S.world.source S.insts v l w) (Sounds.cons_front (T y) u (map T ys) ts m)
        (shares_more S.world.source S.insts v (c y) l (T y) (T y) (of_general S D F θ v (T y) (proper y) (subst (λ o. BoundAs S θ (c y) (T y) o) r (t y (inl refl))).1) k.1 (s y (inl refl) k.0 v r))),
    exit_shares ys ls ts c a (Sounds.cons_rest (T y) u (map T ys) ts m) f.1 (λ z i. s z (inr i)) (λ z i. t z (inr i)),
  )

  pub exit_live : (y l : ℕ) (c : Insts) (o : Option Val) → l ≡ 2 → T y ≡ state_type → Included S.world.source S.insts (c y) l (T y) → BoundAs S θ (c y) (T y) o → Live S T c y
  exit_live y l c o q e f b =
      let g : Included S.world.source S.insts (c y) 2 (T y) = subst (λ k. Included S.world.source S.insts (c y) k (T y)) q f in
      let k = included_more (S.insts (c y)) (S.insts 2) (NoMore S.world.source S.insts (c y) 2 (T y)) g (λ z. not_free (sym F.insts.is_unique ∙ z)) (λ z. not_dead (sym F.insts.is_unique ∙ z)) in
      (e, state_unique S D F θ (c y) o (λ z. two_zero (Entry.included_left S D F θ (c y) 2 (T y) g z)) (subst (λ u. NoMore S.world.source S.insts (c y) 2 u) e k.1) (subst (λ u. BoundAs S θ (c y) u o) e b))
    where
      two_zero : (◌≡◌ {A = ℕ} 2 0) → ⊥
      two_zero e = omega arith

      not_free : unique ≡ free → ⊥
      not_free e = cc

      not_dead : unique ≡ dead → ⊥
      not_dead e = cc

  exit_none : (W : World) (M : List ℕ) (x : ℕ) (ys is ls : List ℕ) (ts : List TypeTerm) (c : Insts) (a : Bindings) → (In x ys → ⊥) → In x M → Live S T c x → Among ys M → Holds S T W M c a → length is ≡ length ls → map T ys ≡ ts → TidyModes S (zipped is ls) ts → Final S p ys ls c → TypedAt S θ T ys c a → NoPlace Made (zipped is ls)
  exit_none W M x ys [] ls ts c a n xm lx ym h e m d f t = tt
  exit_none W M x ys (i ∷ is) [] ts c a n xm lx ym h e m d f t = tt
  exit_none W M x [] (i ∷ is) (l ∷ ls) ts c a n xm lx ym h e m d f t = absurd f
  exit_none W M x (y ∷ ys) (i ∷ is) (l ∷ ls) [] c a n xm lx ym h e m d f t = absurd d
  exit_none W M x (y ∷ ys) (i ∷ is) (l ∷ ls) (u ∷ ts) c a n xm lx ym h e m d f t = (
    (λ q. n (inl (h.alone x y xm (ym y (inl refl)) lx (exit_live y l c (a y) q (Sounds.cons_front (T y) u (map T ys) ts m ∙ d.1 q) f.0 (t y (inl refl)))))),
    exit_none W M x ys is ls ts c a (λ j. n (inr j)) xm lx (λ z j. ym z (inr j)) h (less (length is) (length ls) e) (Sounds.cons_rest (T y) u (map T ys) ts m) d.2 f.1 (λ z j. t z (inr j)),
  )

  exit_returned : (W : World) (M ys is ls : List ℕ) (ts : List TypeTerm) (c : Insts) (a : Bindings) → Distinct ys → Among ys M → Holds S T W M c a → length is ≡ length ls → map T ys ≡ ts → TidyModes S (zipped is ls) ts → Final S p ys ls c → TypedAt S θ T ys c a → OnePlace Made (zipped is ls) × Returned (zipped is ls) (leave ys ls a) (Tells W)
  exit_returned W M [] [] [] ts c a di ym h e m d f t = (tt, tt)
  exit_returned W M [] [] (l ∷ ls) ts c a di ym h e m d f t = absurd f
  exit_returned W M [] (i ∷ is) [] ts c a di ym h e m d f t = absurd (no_length (length is) e)
  exit_returned W M [] (i ∷ is) (l ∷ ls) ts c a di ym h e m d f t = absurd f
  exit_returned W M (y ∷ ys) is [] ts c a di ym h e m d f t = absurd f
  exit_returned W M (y ∷ ys) [] (l ∷ ls) ts c a di ym h e m d f t = absurd (no_length (length ls) (sym e))
  exit_returned W M (y ∷ ys) (i ∷ is) (l ∷ ls) [] c a di ym h e m d f t = absurd d
  exit_returned W M (y ∷ ys) (i ∷ is) (l ∷ ls) (u ∷ ts) c a di ym h e m d f t =
      let k = less (length is) (length ls) e in
      let mr = Sounds.cons_rest (T y) u (map T ys) ts m in
      let live : l ≡ 2 → Live S T c y = λ q. exit_live y l c (a y) q (Sounds.cons_front (T y) u (map T ys) ts m ∙ d.1 q) f.0 (t y (inl refl)) in
      let r = exit_returned W M ys is ls ts c a di.1 (λ z j. ym z (inr j)) h k mr d.2 f.1 (λ z j. t z (inr j)) in (
        ((λ q. exit_none W M y ys is ls ts c a di.0 (ym y (inl refl)) (live q) (λ z j. ym z (inr j)) h k mr d.2 f.1 (λ z j. t z (inr j))), r.0),
        ((λ q. subst (λ j. Tells W (cond (is_bound j) (a y) None)) (sym q) (h.tells y (ym y (inl refl)) (live q))), r.1),
      )

  exit_by : (W : World) (o : Option Insts) (a : Bindings) → Distinct p.head → length p.first ≡ length p.last → map T p.head ≡ types_of S p → TidyModes S (modes_of_procedure p) (types_of S p) → FinalAfter S p o → Reached S θ T p.head o a → HoldsAfter S T p.head o W a → ReturnedBy S p W (leave p.head p.last a)
  exit_by W None a di e m d f t h = absurd h
  exit_by W (Some c) a di e m d f t h = (exit_returned W p.head p.head p.first p.last (types_of S p) c a di (λ x i. i) h e m d f t, exit_shares p.head p.last (types_of S p) c a m f h.shares t)

-- the run of a body, as the run of its procedure
body_flows : (Q : World → Bindings → Type 0) (R : World → List (Option Val) → Type 0) (I : Bindings → Type 0) (f : Bindings → List (Option Val)) (one : Bool) (W : World) (xs : Items Bindings) → Each I xs → ((V : World) (a : Bindings) → I a → Q V a → R V (f a)) → Flow Q one W xs → Flow R false W (pruned_to one (bind xs (λ a. Answer (f a) End)))
body_flows Q R I f true W xs i g h = MoveLists.flow_first R true false W (bind xs (λ a. Answer (f a) End)) (MoveLists.flow_bind_first (λ a. Answer (f a) End) I Q R true W xs i h (λ V a j q. (g V a j q, tt)) (λ a j. tt))
body_flows Q R I f false W xs i g h = MoveLists.flow_bind_calm (λ a. Answer (f a) End) I Q R W xs i h (λ V a j q. (g V a j q, tt))

module _ (S : System) (D : Parameters) (F : Fits S D) (accepted : Accepted S) (tidy : TidyProcedures S) (lib : Library_types) (io : FitsIo S.world lib) (lends : (n : ℕ) → CallsLend S (calls S.world.outcome S.procs n)) where
  body_moves : (C : Calls) → CallsSound S C → CallsMove S C → CallsLend S C → (θ : TypeChoice) (h : ℕ) (p : Procedure) (vs : List (Option Val)) → FitsProcedure S D p → AcceptedProcedure S p → TidyModes S (modes_of_procedure p) (types_of S p) → Given S θ p.first (types_of S p) vs → EachShares S p.first (types_of S p) vs →
      (W : World) → OnePlace Taken (modes_of_procedure p) → Handed (modes_of_procedure p) vs (Tells W) → Flow (ReturnedBy S p) false W (body_items S.world.outcome C h p vs)
  body_moves C called moved lent θ h p vs fit r td g es W one handed =
      let T = type_of S p in
      let e : Bindings = enter p.head p.first vs in
      let b = entered p.head p.first in
      let M = p.head ++ variables_of (goal_of S p).body in
      let et = enter_typed S θ T p.head p.first (types_of S p) vs fit.head_types g in
      let len = r.lengths.0 ∙ sym r.lengths.1 in
      let hw : Holds S T W M b e = record {
        tells = λ x i l. enter_tells (Tells W) p.head p.first p.last vs len handed x l.1;
        alone = λ x y i j l m. enter_alone p.head p.first p.last len one x y l.1 m.1;
        shares = λ x i d v q. enter_shares S T p.head p.first (types_of S p) vs fit.head_types es x d v q;
      } in
      let s : Sound S θ T nothing_known p.head _ e r.after _ (stream S.world.outcome C h p.body e) =
      Sounds.sound_node S D F C called (lined S D F accepted) T fit.types θ r.ordered fit.typed nothing_known h p.head (λ x i. i) e (enter_closed p.head p.first vs) (λ x i. et x) (λ x i. et x) in
      let m = moves_node S D F C called (lined S D F accepted) T fit.types θ moved lent tidy lib io r.ordered fit.typed nothing_known h p.det.committed r.io p.head (λ x i. i) e (enter_closed p.head p.first vs) (λ x i. et x) (λ x i. et x) (known_none S D F accepted e) W M hw (λ x i. in_left x p.head (variables_of (goal_of S p).body) i) (λ x i. in_right x p.head (variables_of (goal_of S p).body) i) in
      let dh : Distinct p.head = subst Distinct (sym r.head) (from_distinct 0 (goal_of S p).arity) in
      cond_true (λ ys. Flow (ReturnedBy S p) false W ys) (ready p.first vs) (pruned_to p.det.committed (bind (stream S.world.outcome C h p.body e) (λ a. Answer (leave p.head p.last a) End))) Stuck (given_ready S θ p.first (types_of S p) vs g)
      (body_flows (HoldsAfter S T p.head r.after) (ReturnedBy S p) (λ a. Grows e a × (BindsOnly (variables_of_node p.body) e a × Reached S θ T p.head r.after a)) (λ a. leave p.head p.last a) p.det.committed W (stream S.world.outcome C h p.body e) s.each
      (λ V a j q. exit_by S D F θ p fit.types V r.after a dh len fit.head_types td r.final j.1.1 q)
      (MoveLists.moves_flow (HoldsAfter S T p.head r.after) (is_io S T p.body) p.det.committed W (stream S.world.outcome C h p.body e) m))

  pub calls_move : (n : ℕ) → CallsMove S (calls S.world.outcome S.procs n)
  calls_move zero θ h k vs l g es W one handed = tt
  calls_move (suc n) θ h k vs l g es W one handed =
      body_moves (calls S.world.outcome S.procs n) (calls_sound S D F accepted n) (calls_move n) (lends n) θ h (S.procs k) vs (F.procedures k l) (accepted k l) (tidy k l) g es W one handed
