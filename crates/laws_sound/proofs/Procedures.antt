-- Truth at procedures, by induction on the levels of calls; and the theorem.
use Rattle.std.proofs.Common.{◌≡◌, ◌⊎◌, inl, inr, ℕ, zero, suc, ◌<◌, ◌≤◌, List, [], ◌∷◌, map, length, Bool, true, false, cond, nat_eq, Option, Some, None, refl, sym, ap, ap₂, ◌∙◌, subst, arith, ⊎_elim, le_trans}
use Rattle.std.proofs.lemmas.Bool.{eqb-true, eq-eqb, ne_eqb}
use Rattle.mc_program.specs.Values.{Val, char}
use Rattle.mc_program.specs.Programs.{TypeTerm}
use Rattle.mc_model.specs.Flat.{Flat_goal, free_in, FlatYes, FlatNo}
use Rattle.mc_model.specs.Truth.{Assignment, Facts, GivenBy, DeniedBy, builtin_or, SomeClause, NoClause, stage}
use Rattle.mc_model.specs.Lists.{In, Distinct, from}
use Rattle.mc_model.specs.EventList.{Items, End, Stuck, Stopped, Answer, Called, Wrote, Read, too_deep, bind, first, cut, Each, EachCall, Succeeds, Ends, answers, Covers}
use Rattle.mc_model.specs.Stream.{Bindings, Calls, is_bound, ready, enter, leave, below, pruned_to, stream, body_items, calls, run_call}
use Rattle.mc_model.specs.Scheduled.{Procedure}
use Rattle.mc_accepted.specs.Ordered.{Insts, variables_of_node}
use Rattle.mc_accepted.specs.Determined.{nothing_known, determined}
use Rattle.mc_model.specs.Good.{System, TypeChoice, BoundAs, Shape, Given, Keeps, Extends, GivenCall, types_of, GoodRun}
use Rattle.mc_accepted.specs.ProperTypes.{Parameters}
use Rattle.mc_accepted.specs.Fits.{Fits, type_of, goal_of, FitsProcedure}
use Rattle.mc_accepted.specs.Accepted.{entered, Final, FinalAfter, AcceptedProcedure, Accepted}
use Rattle.laws_language.specs.PredicateLaws.{AtHead, PredicateCarries, PredicatesCarry}
use Rattle.laws_sound.specs.code.Passes.{Grows, BindsOnly, Shared, Agrees, AgreesFor, Hit, TypedAt, Reached, Sound, Tells, HitArguments, CallSound, CallTells, CallsSound, CallsTell, SaysBuiltins}
use Rattle.laws_sound.specs.Soundness.{AcceptedAreGood, NoInputs, AcceptedQueriesAreGood}
use Rattle.mc_model.specs.Good as Good
use Rattle.laws_sound.proofs.Atoms.{none_at_most}
use Rattle.laws_sound.proofs.Binds
use Rattle.laws_sound.proofs.Binds.{some_inj, true_not_false}
use Rattle.laws_sound.proofs.Entry
use Rattle.laws_sound.proofs.Entry.{calls_sound, lined, given_ready, enter_typed, enter_closed, known_none, cond_here, cond_there}
use Rattle.laws_language.proofs.Levels.{call_levels, body_levels}
use Rattle.laws_sound.proofs.MoveRuns.{main_writes}
use Rattle.laws_sound.proofs.Lists
use Rattle.laws_sound.proofs.Sound
use Rattle.laws_sound.proofs.TellLists.{value_cases, or_else}
use Rattle.laws_sound.proofs.Told
use Rattle.laws_sound.proofs.Typed.{free_is}

-- builtins are the same at every stage
pub stage_says : (S : System) (n : ℕ) → SaysBuiltins S (stage S.world n)
stage_says S zero p op ws q = (
  (λ g. subst (λ o. builtin_or (GivenBy S.world.outcome) o (λ us. ⊥) ws) (sym q) g),
  (λ g. subst (λ o. builtin_or (DeniedBy S.world.outcome) o (λ us. ⊥) ws) (sym q) g),
)
stage_says S (suc n) p op ws q = (
  (λ g. subst (λ o. builtin_or (GivenBy S.world.outcome) o (SomeClause (stage S.world n) (S.world.source.preds p).clauses) ws) (sym q) g),
  (λ g. subst (λ o. builtin_or (DeniedBy S.world.outcome) o (NoClause (stage S.world n) (S.world.source.preds p).clauses) ws) (sym q) g),
)

-- an assignment with the arguments' values agrees with the bindings at entry
enter_on : (t m : Bool) (o p : Option Val) (w v : Val) → (t ≡ true → (u : Val) → o ≡ Some u → w ≡ u) → (p ≡ Some v → w ≡ v) → cond t (cond m o None) p ≡ Some v → w ≡ v
enter_on true true o p w v f g e = f refl v e
enter_on true false o p w v f g e = absurd (Binds.none_some None v refl e)
enter_on false m o p w v f g e = g e

head_fills : (o : Option Val) (os : List (Option Val)) (w : Val) (ws : List Val) → Extends (o ∷ os) (w ∷ ws) → ((u : Val) → o ≡ Some u → w ≡ u) × Extends os ws
head_fills None os w ws h = ((λ u e. absurd (Binds.none_some None u refl e)), h)
head_fills (Some v) os w ws h = ((λ u e. h.0 ∙ some_inj v u e), h.1)

no_fills : (o : Option Val) (os : List (Option Val)) → Extends (o ∷ os) [] → ⊥
no_fills None os h = h
no_fills (Some v) os h = h

enter_value : (ys is : List ℕ) (vs : List (Option Val)) (s : Assignment) → Extends vs (map s ys) → (x : ℕ) (v : Val) → enter ys is vs x ≡ Some v → s x ≡ v
enter_value [] is vs s h x v e = absurd (Binds.none_some None v refl e)
enter_value (y ∷ ys) [] vs s h x v e = absurd (Binds.none_some None v refl e)
enter_value (y ∷ ys) (i ∷ is) [] s h x v e = absurd h
enter_value (y ∷ ys) (i ∷ is) (o ∷ vs) s h x v e =
    let p = head_fills o vs (s y) (map s ys) h in
    enter_on (nat_eq x y) (is_bound i) o (enter ys is vs x) (s x) v (λ t u q. ap s (eqb-true x y t) ∙ p.0 u q) (λ q. enter_value ys is vs s p.1 x v q) e

-- an assignment that agrees with the bindings at an answer has the answer's values
fill : (o : Option Val) (os : List (Option Val)) (w : Val) (ws : List Val) → ((v : Val) → o ≡ Some v → w ≡ v) → Extends os ws → Extends (o ∷ os) (w ∷ ws)
fill None os w ws f h = h
fill (Some v) os w ws f h = (f v refl, h)

kept : (k : Bool) (o : Option Val) (v : Val) → cond k o None ≡ Some v → o ≡ Some v
kept true o v e = e
kept false o v e = absurd (Binds.none_some None v refl e)

leave_fills : (ys ls : List ℕ) (a : Bindings) (s : Assignment) → length ys ≡ length ls → Agrees ys a s → Extends (leave ys ls a) (map s ys)
leave_fills [] ls a s l g = tt
leave_fills (y ∷ ys) [] a s l g = absurd (no (length ys) l)
  where
    no : (n : ℕ) → suc n ≡ zero → ⊥
    no n e = cc
leave_fills (y ∷ ys) (k ∷ ls) a s l g = fill (cond (is_bound k) (a y) None) (leave ys ls a) (s y) (map s ys) (λ v e. g y (inl refl) v (kept (is_bound k) (a y) v e)) (leave_fills ys ls a s (less (length ys) (length ls) l) (λ z i. g z (inr i)))
  where
    less : (m n : ℕ) → suc m ≡ suc n → m ≡ n
    less m n e = cc

-- the assignment that gives the head these values
abbrev fill_in : List ℕ → List Val → Assignment → Assignment
fill_in [] ws t = t
fill_in (y ∷ ys) [] t = t
fill_in (y ∷ ys) (w ∷ ws) t = λ x. cond (nat_eq x y) w (fill_in ys ws t x)

fill_on : (b : Bool) (w u v : Val) → (b ≡ true → w ≡ v) → u ≡ v → cond b w u ≡ v
fill_on true w u v f e = f refl
fill_on false w u v f e = e

map_ext : (f g : Assignment) (ys : List ℕ) → ((x : ℕ) → In x ys → f x ≡ g x) → map f ys ≡ map g ys
map_ext f g [] h = refl
map_ext f g (y ∷ ys) h = ap₂ (λ v vs. v ∷ vs) (h y (inl refl)) (map_ext f g ys (λ x i. h x (inr i)))

map_fill : (ys ls : List ℕ) (ws : List Val) (a : Bindings) (t : Assignment) → length ys ≡ length ls → Distinct ys → Extends (leave ys ls a) ws → map (fill_in ys ws t) ys ≡ ws
map_fill [] ls [] a t l d h = refl
map_fill [] ls (w ∷ ws) a t l d h = absurd h
map_fill (y ∷ ys) [] ws a t l d h = absurd (no (length ys) l)
  where
    no : (n : ℕ) → suc n ≡ zero → ⊥
    no n e = cc
map_fill (y ∷ ys) (k ∷ ls) [] a t l d h = absurd (no_fills (cond (is_bound k) (a y) None) (leave ys ls a) h)
map_fill (y ∷ ys) (k ∷ ls) (w ∷ ws) a t l d h =
    ap₂ (λ v vs. v ∷ vs) (cond_here (nat_eq y y) w (fill_in ys ws t y) (eq-eqb y y refl))
    (map_ext (λ x. cond (nat_eq x y) w (fill_in ys ws t x)) (fill_in ys ws t) ys (λ x i. cond_there (nat_eq x y) w (fill_in ys ws t x) (ne_eqb x y (λ e. d.0 (subst (λ z. In z ys) e i))))
    ∙ map_fill ys ls ws a t (less (length ys) (length ls) l) d.1 (head_fills (cond (is_bound k) (a y) None) (leave ys ls a) w ws h).1)
  where
    less : (m n : ℕ) → suc m ≡ suc n → m ≡ n
    less m n e = cc

bound_value : (o : Option Val) (w v : Val) → o ≡ Some v → or_else w o ≡ v
bound_value None w v e = absurd (Binds.none_some None v refl e)
bound_value (Some u) w v e = some_inj u v e

fills_cases : (os : List (Option Val)) (ws : List Val) → Extends os ws ⊎ (Extends os ws → ⊥)
fills_cases [] [] = inl tt
fills_cases [] (w ∷ ws) = inr (λ h. h)
fills_cases (None ∷ os) [] = inr (λ h. h)
fills_cases (Some v ∷ os) [] = inr (λ h. h)
fills_cases (None ∷ os) (w ∷ ws) = fills_cases os ws
fills_cases (Some v ∷ os) (w ∷ ws) = ⊎_elim (λ e. ⊎_elim (λ f. inl (e, f)) (λ n. inr (λ h. n h.1)) (fills_cases os ws)) (λ n. inr (λ h. n h.0)) (value_cases w v)

hit_args_cases : (t : Bool) (ws : List Val) (os : List (Option Val)) → HitArguments t ws os ⊎ (HitArguments t ws os → ⊥)
hit_args_cases true ws os = inl tt
hit_args_cases false ws os = fills_cases os ws

hit_args : (t : Bool) (ys ls : List ℕ) (a : Bindings) (s : Assignment) (ws : List Val) → length ys ≡ length ls → map s ys ≡ ws → Hit t ys s a → HitArguments t ws (leave ys ls a)
hit_args true ys ls a s ws l e h = tt
hit_args false ys ls a s ws l e h = subst (λ us. Extends (leave ys ls a) us) e (leave_fills ys ls a s l h)

pruned_yes : (Q : List (Option Val) → Type 0) (t : Bool) (xs : Items (List (Option Val))) → Each Q xs → Each Q (pruned_to t xs)
pruned_yes Q false xs h = h
pruned_yes Q true xs h = Lists.each_first Q Q xs h

pruned_no : (t : Bool) (ws : List Val) (F : Type 0) (xs : Items (List (Option Val))) → Each (λ os. Unit {0}) xs → Covers (HitArguments t ws) F xs → Covers (HitArguments t ws) F (pruned_to t xs)
pruned_no false ws F xs r h = h
pruned_no true ws F xs r h = Lists.covers_first (HitArguments true ws) (HitArguments true ws) F F (λ os. Unit {0}) (λ os u. tt) (λ f. f) xs r h

-- lengths
from_length : (n k : ℕ) → length (from n k) ≡ k
from_length n zero = refl
from_length n (suc k) = ap suc (from_length (suc n) k)

extends_length : (os : List (Option Val)) (ws : List Val) → Extends os ws → length ws ≡ length os
extends_length [] [] h = refl
extends_length [] (w ∷ ws) h = absurd h
extends_length (o ∷ os) [] h = absurd (no_fills o os h)
extends_length (o ∷ os) (w ∷ ws) h = ap suc (extends_length os ws (head_fills o os w ws h).1)

given_length : (S : System) (θ : TypeChoice) (is : List ℕ) (ts : List TypeTerm) (vs : List (Option Val)) → Given S θ is ts vs → length vs ≡ length ts
given_length S θ [] [] [] g = refl
given_length S θ [] [] (v ∷ vs) g = absurd g
given_length S θ [] (t ∷ ts) vs g = absurd g
given_length S θ (i ∷ is) [] vs g = absurd g
given_length S θ (i ∷ is) (t ∷ ts) [] g = absurd g
given_length S θ (i ∷ is) (t ∷ ts) (v ∷ vs) g = ap suc (given_length S θ is ts vs g.1)

map_length : (s : Assignment) (ys : List ℕ) → length (map s ys) ≡ length ys
map_length s [] = refl
map_length s (y ∷ ys) = ap suc (map_length s ys)

module _ (S : System) (D : Parameters) (F : Fits S D) (θ : TypeChoice) (p : Procedure) where
  left_value : (l k : ℕ) (t : TypeTerm) (o : Option Val) (os : List (Option Val)) (w v : Val) (ws : List Val) (b : Bool) → is_bound l ≡ b → Rattle.mc_accepted.specs.Inclusion.Included S.world.source S.insts k l t → BoundAs S θ k t o → Extends (cond b o None ∷ os) (w ∷ ws) → o ≡ Some v → w ≡ v
  left_value l k t o os w v ws true b c h f q = (head_fills o os w ws f).0 v q
  left_value l k t o os w v ws false b c h f q = absurd (no o q h)
    where
      no : (o : Option Val) → o ≡ Some v → BoundAs S θ k t o → ⊥
      no None q h = Binds.none_some None v refl q
      no (Some u) q h = h.0 (Entry.included_right S D F θ k l t c (free_is l b))

  fill_value : (ys ls : List ℕ) (ws : List Val) (c : Insts) (a : Bindings) (t : Assignment) → Final S p ys ls c → TypedAt S θ (type_of S p) ys c a → Extends (leave ys ls a) ws → (x : ℕ) (v : Val) → a x ≡ Some v → t x ≡ v → fill_in ys ws t x ≡ v
  fill_value [] ls ws c a t f m h x v e q = q
  fill_value (y ∷ ys) [] ws c a t f m h x v e q = absurd f
  fill_value (y ∷ ys) (l ∷ ls) [] c a t f m h x v e q = absurd (no_fills (cond (is_bound l) (a y) None) (leave ys ls a) h)
  fill_value (y ∷ ys) (l ∷ ls) (w ∷ ws) c a t f m h x v e q =
      fill_on (nat_eq x y) w (fill_in ys ws t x) v
      (λ r. left_value l (c y) (type_of S p y) (a y) (leave ys ls a) w v ws (is_bound l) refl f.0 (m y (inl refl)) h (ap a (sym (eqb-true x y r)) ∙ e))
      (fill_value ys ls ws c a t f.1 (λ z i. m z (inr i)) (head_fills (cond (is_bound l) (a y) None) (leave ys ls a) w ws h).1 x v e q)

  -- an answer of a body makes the goal true of an assignment of the answer's values
  exit_yes : (P : ℕ → Type 0) (Y : Assignment → Type 0) (o : Option Insts) (a : Bindings) → length p.head ≡ length p.last → Distinct p.head → FinalAfter S p o → Reached S θ (type_of S p) p.head o a → ((s : Assignment) → AgreesFor P a s → Y s) → (ws : List Val) → Extends (leave p.head p.last a) ws → (s : Assignment) × (map s p.head ≡ ws) × Y s
  exit_yes P Y None a l d f m y ws h = absurd m
  exit_yes P Y (Some c) a l d f m y ws h =
      let t : Assignment = λ x. or_else (char 0) (a x) in
      let u = fill_in p.head ws t in
      (u, map_fill p.head p.last ws a t l d h, y u (λ x i v e. fill_value p.head p.last ws c a t f m h x v e (bound_value (a x) (char 0) v e)))

module _ (carry : PredicatesCarry) (S : System) (D : Parameters) (F : Fits S D) (accepted : Accepted S) where
  module _ (C : Calls) (called : CallsSound S C) (n : ℕ) (told : CallsTell S C (stage S.world n)) (θ : TypeChoice) (h : ℕ) (p : Procedure) (vs : List (Option Val)) (fit : FitsProcedure S D p) (ok : AcceptedProcedure S p) (g : Given S θ p.first (types_of S p) vs) where
    abbrev X : Facts
    X = stage S.world n

    abbrev T : ℕ → TypeTerm
    T = type_of S p

    abbrev goal : Flat_goal
    goal = (goal_of S p).body

    abbrev e0 : Bindings
    e0 = enter p.head p.first vs

    abbrev b0 : Insts
    b0 = entered p.head p.first

    abbrev items : Items Bindings
    items = stream S.world.outcome C h p.body e0

    abbrev out : Bindings → Items (List (Option Val))
    out a = Answer (leave p.head p.last a) End

    typed : (x : ℕ) → BoundAs S θ (b0 x) (T x) (e0 x)
    typed x = enter_typed S θ T p.head p.first (types_of S p) vs fit.head_types g x

    body_is_sound : Sound S θ T nothing_known p.head (variables_of_node p.body) e0 ok.after (determined S T b0 nothing_known p.body) items
    body_is_sound = Sound.sound_node S D F C called (lined S D F accepted) T fit.types θ ok.ordered fit.typed nothing_known h p.head (λ x i. i) e0 (enter_closed p.head p.first vs) (λ x i. typed x) (λ x i. typed x)

    body_tells : Tells (Shared (free_in goal) (variables_of_node p.body)) (FlatYes X goal) (FlatNo X goal) p.det.committed p.head e0 items
    body_tells =
        Told.tells_node S D F C called (lined S D F accepted) T fit.types θ X (stage_says S n) told ok.ordered fit.typed (λ x i j. j) nothing_known h p.det.committed ok.placed p.head (λ x i. i) (λ x i. i) e0 (enter_closed p.head p.first vs) (λ x i. typed x) (λ x i. typed x) (known_none S D F accepted e0)

    distinct : Distinct p.head
    distinct = subst Distinct (sym ok.head) (Entry.from_distinct 0 (goal_of S p).arity)

    head_length : length p.head ≡ (goal_of S p).arity
    head_length = ap length ok.head ∙ from_length 0 (goal_of S p).arity

    as_long : length p.head ≡ length p.last
    as_long = head_length ∙ sym ok.lengths.1

    abbrev answered : Items (List (Option Val))
    answered = pruned_to p.det.committed (bind items out)

    body_yes : Each (λ os. (ws : List Val) → Extends os ws → (s : Assignment) × (map s p.head ≡ ws) × FlatYes X goal s) answered
    body_yes =
        pruned_yes (λ os. (ws : List Val) → Extends os ws → (s : Assignment) × (map s p.head ≡ ws) × FlatYes X goal s) p.det.committed (bind items out)
        (Lists.each_bind (λ a. (Grows e0 a × (BindsOnly (variables_of_node p.body) e0 a × Reached S θ T p.head ok.after a)) × ((s : Assignment) → AgreesFor (Shared (free_in goal) (variables_of_node p.body)) a s → FlatYes X goal s)) (λ os. (ws : List Val) → Extends os ws → (s : Assignment) × (map s p.head ≡ ws) × FlatYes X goal s) out items
        (Lists.each_both (λ a. Grows e0 a × (BindsOnly (variables_of_node p.body) e0 a × Reached S θ T p.head ok.after a)) (λ a. (s : Assignment) → AgreesFor (Shared (free_in goal) (variables_of_node p.body)) a s → FlatYes X goal s) items body_is_sound.each body_tells.yes)
        (λ a q. (exit_yes S D F θ p (Shared (free_in goal) (variables_of_node p.body)) (FlatYes X goal) ok.after a as_long distinct ok.final q.0.1.1 q.1, tt)))

    body_no_at : (ws : List Val) → Extends vs ws → (s : Assignment) → map s p.head ≡ ws → Covers (HitArguments p.det.committed ws) (FlatNo X goal s) answered
    body_no_at ws f s e =
        let v : (x : ℕ) (v : Val) → e0 x ≡ Some v → s x ≡ v = enter_value p.head p.first vs s (subst (λ us. Extends vs us) (sym e) f) in
        pruned_no p.det.committed ws (FlatNo X goal s) (bind items out)
        (Lists.each_bind (λ a. Grows e0 a × (BindsOnly (variables_of_node p.body) e0 a × Reached S θ T p.head ok.after a)) (λ os. Unit {0}) out items body_is_sound.each (λ a q. (tt, tt)))
        (Lists.covers_bind (Hit p.det.committed p.head s) (HitArguments p.det.committed ws) (FlatNo X goal s) out (λ a. Grows e0 a × (BindsOnly (variables_of_node p.body) e0 a × Reached S θ T p.head ok.after a)) items body_is_sound.each
        (body_tells.no s (λ x i w q. v x w q) (λ x i w q. v x w q))
        (λ a q t. inl (hit_args p.det.committed p.head p.last a s ws as_long e t)))

    body_no : (ws : List Val) → Extends vs ws → Covers (HitArguments p.det.committed ws) ((s : Assignment) → map s p.head ≡ ws → FlatNo X goal s) answered
    body_no ws f =
        Lists.covers_map (HitArguments p.det.committed ws) (HitArguments p.det.committed ws) ((i : (s : Assignment) × (map s p.head ≡ ws)) → FlatNo X goal i.0) ((s : Assignment) → map s p.head ≡ ws → FlatNo X goal s) (λ os t. t) (λ q s e. q (s, e)) answered
        (Lists.covers_all (λ (i : (s : Assignment) × (map s p.head ≡ ws)) os. HitArguments p.det.committed ws os) (HitArguments p.det.committed ws) (λ i. FlatNo X goal i.0) (λ os. hit_args_cases p.det.committed ws os) (λ i os t. t) answered (λ i. body_no_at ws f i.0 i.1))

    -- the clauses say what the goal says
    at_head : (ws : List Val) (s : Assignment) → length ws ≡ (goal_of S p).arity → map s p.head ≡ ws → AtHead ws s
    at_head ws s len e = ap (λ m. map s (from 0 m)) len ∙ (ap (λ ys. map s ys) (sym ok.head) ∙ e)

    from_head : (ws : List Val) (s : Assignment) → length ws ≡ (goal_of S p).arity → AtHead ws s → map s p.head ≡ ws
    from_head ws s len e = ap (λ ys. map s ys) ok.head ∙ (ap (λ m. map s (from 0 m)) (sym len) ∙ e)

    clauses_say : (ws : List Val) → length ws ≡ (goal_of S p).arity → PredicateCarries X (goal_of S p).arity (S.world.source.preds p.pred).clauses ws
    clauses_say ws len = carry S.world n (goal_of S p).arity (S.world.source.preds p.pred).clauses fit.heads ws len

    yes_next : (ws : List Val) → SomeClause X (S.world.source.preds p.pred).clauses ws → (stage S.world (suc n)).yes p.pred ws
    yes_next ws y = subst (λ o. builtin_or (GivenBy S.world.outcome) o (SomeClause X (S.world.source.preds p.pred).clauses) ws) (sym fit.no_builtin) y

    no_next : (ws : List Val) → NoClause X (S.world.source.preds p.pred).clauses ws → (stage S.world (suc n)).no p.pred ws
    no_next ws y = subst (λ o. builtin_or (DeniedBy S.world.outcome) o (NoClause X (S.world.source.preds p.pred).clauses) ws) (sym fit.no_builtin) y

    pub body_is_told : CallTells (stage S.world (suc n)) p vs (body_items S.world.outcome C h p vs)
    body_is_told =
        let r = given_ready S θ p.first (types_of S p) vs g in
        record {
          yes = Entry.cond_true (λ xs. Each (λ os. (ws : List Val) → Extends os ws → (stage S.world (suc n)).yes p.pred ws) xs) (ready p.first vs) answered Stuck r
              (Lists.each_map (λ os. (ws : List Val) → Extends os ws → (s : Assignment) × (map s p.head ≡ ws) × FlatYes X goal s) (λ os. (ws : List Val) → Extends os ws → (stage S.world (suc n)).yes p.pred ws)
              (λ os f ws x. let q = f ws x in let len = ap length (sym q.1) ∙ (map_length q.0 p.head ∙ head_length) in yes_next ws ((clauses_say ws len).yes q.0 (at_head ws q.0 len q.1) q.2)) answered body_yes);
          no = λ ws f.
              let len = extends_length vs ws f ∙ given_length S θ p.first (types_of S p) vs g in
              Entry.cond_true (λ xs. Covers (HitArguments p.det.committed ws) ((stage S.world (suc n)).no p.pred ws) xs) (ready p.first vs) answered Stuck r
              (Lists.covers_map (HitArguments p.det.committed ws) (HitArguments p.det.committed ws) ((s : Assignment) → map s p.head ≡ ws → FlatNo X goal s) ((stage S.world (suc n)).no p.pred ws) (λ os t. t) (λ q. no_next ws ((clauses_say ws len).no (λ s e. q s (from_head ws s len e)))) answered (body_no ws f));
        }

  pub calls_tell : (n : ℕ) → CallsTell S (calls S.world.outcome S.procs n) (stage S.world n)
  calls_tell zero θ h k vs l g = record { yes = tt; no = λ ws f. tt }
  calls_tell (suc n) θ h k vs l g =
      let t = body_is_told (calls S.world.outcome S.procs n) (calls_sound S D F accepted n) n (calls_tell n) θ h (S.procs k) vs (F.procedures k l) (accepted k l) g in
      record { yes = t.yes; no = λ ws f. t.no ws f }

-- what coverage says
no_answers : {A : Type 0} (xs : Items A) → Succeeds xs → Ends xs → 1 ≤ answers xs
no_answers End s e = absurd s
no_answers Stuck s e = absurd e
no_answers (Stopped w) s e = absurd e
no_answers (Answer a xs) s e = omega arith
no_answers (Called p xs) s e = no_answers xs s e
no_answers (Wrote t xs) s e = no_answers xs s e
no_answers (Read k xs) s e = no_answers xs s e

covered : {A : Type 0} (P : A → Type 0) (F : Type 0) (xs : Items A) → Ends xs → Covers P F xs → Each (λ a. P a → ⊥) xs → F
covered P F End e c h = c
covered P F Stuck e c h = absurd e
covered P F (Stopped w) e c h = absurd e
covered P F (Answer a xs) e c h = ⊎_elim (λ p. absurd (h.0 p)) (λ d. covered P F xs e d h.1) c
covered P F (Called p xs) e c h = covered P F xs e c h
covered P F (Wrote t xs) e c h = covered P F xs e c h
covered P F (Read k xs) e c h = covered P F xs e c h

call_cut : {A : Type 0} (Q : Rattle.mc_model.specs.EventList.Made_call → Type 0) (n : ℕ) (xs : Items A) → EachCall Q xs → EachCall Q (cut n xs)
call_cut Q n End h = tt
call_cut Q n Stuck h = tt
call_cut Q n (Stopped w) h = tt
call_cut Q n (Answer a xs) h = call_cut Q n xs h
call_cut Q zero (Called p xs) h = tt
call_cut Q (suc n) (Called p xs) h = (h.0, call_cut Q n xs h.1)
call_cut Q n (Wrote t xs) h = call_cut Q n xs h
call_cut Q n (Read k xs) h = call_cut Q n xs h

below_holds : {A : Type 0} (Q : Items A → Type 0) (h : ℕ) (k : ℕ → Items A) → Q (Stopped too_deep) → ((n : ℕ) → Q (k n)) → Q (below h k)
below_holds Q zero k s f = s
below_holds Q (suc n) k s f = f n

one_answer : (t : Bool) (xs : Items (List (Option Val))) → t ≡ true → answers (pruned_to t xs) ≤ 1
one_answer true xs e = Lists.answers-first xs
one_answer false xs e = absurd (true_not_false (sym e))

calls_one : (S : System) (m h k : ℕ) (vs : List (Option Val)) → ready (S.procs k).first vs ≡ true → (S.procs k).det.committed ≡ true → answers (calls S.world.outcome S.procs m h k vs) ≤ 1
calls_one S zero h k vs r e = omega arith
calls_one S (suc m) h k vs r e = Entry.cond_true (λ xs. answers xs ≤ 1) (ready (S.procs k).first vs) _ Stuck r (one_answer (S.procs k).det.committed _ e)

hit_same : (once : Bool) (ws : List Val) (os : List (Option Val)) → HitArguments once ws os → Good.Hit once ws os
hit_same true ws os h = tt
hit_same false ws os h = h

hit_back : (once : Bool) (ws : List Val) (xs : Items (List (Option Val))) → Each (λ os. Good.Hit once ws os → ⊥) xs → Each (λ os. HitArguments once ws os → ⊥) xs
hit_back once ws xs h = Lists.each_map (λ os. Good.Hit once ws os → ⊥) (λ os. HitArguments once ws os → ⊥) (λ os f z. f (hit_same once ws os z)) xs h

module _ (S : System) (θ : TypeChoice) (C : Facts) (p : Procedure) (vs : List (Option Val)) where
  good_cut : (n : ℕ) (xs : Items (List (Option Val))) → CallSound S θ p vs xs → CallTells C p vs xs → (p.det.committed ≡ true → answers xs ≤ 1) → GoodRun S θ C p.det.committed p vs (cut n xs)
  good_cut n xs s t o =
      record {
        answers_bound = Lists.each_cut (λ os. Shape S θ p.last (types_of S p) os × Keeps p.first vs os) (λ os. Unit {0}) n xs s.each;
        calls_given = call_cut (GivenCall S) n xs s.calls;
        count = Lists.at_most_cut p.det.most n xs s.count;
        one = λ e. le_trans (Lists.answers-cut n xs) (o e);
        succeeds = λ q e. no_answers (cut n xs) (Lists.succeeds_cut n xs (s.sure q)) e;
        true_answers = Lists.each_cut (λ os. (ws : List Val) → Extends os ws → C.yes p.pred ws) (λ os. Unit {0}) n xs t.yes;
        none_omitted = λ e ws x y. covered (HitArguments p.det.committed ws) (C.no p.pred ws) (cut n xs) e (Lists.covers_cut (HitArguments p.det.committed ws) (C.no p.pred ws) n xs (t.no ws x)) (hit_back p.det.committed ws (cut n xs) y);
      }

  below_sound : (h : ℕ) (f : ℕ → Items (List (Option Val))) → ((j : ℕ) → CallSound S θ p vs (f j)) → CallSound S θ p vs (below h f)
  below_sound zero f s = record { each = tt; calls = tt; count = none_at_most {A = List (Option Val)} p.det.most (Stopped too_deep) refl; sure = λ q. tt }
  below_sound (suc h) f s = s h

  below_told : (h : ℕ) (f : ℕ → Items (List (Option Val))) → ((j : ℕ) → CallTells C p vs (f j)) → CallTells C p vs (below h f)
  below_told zero f t = record { yes = tt; no = λ ws x. tt }
  below_told (suc h) f t = t h

runs_good : PredicatesCarry → (S : System) (D : Parameters) → Fits S D → Accepted S → (θ : TypeChoice) (n h k : ℕ) (vs : List (Option Val)) → k < S.count → Given S θ (S.procs k).first (types_of S (S.procs k)) vs → GoodRun S θ (stage S.world n) (S.procs k).det.committed (S.procs k) vs (run_call S.world.outcome S.procs n h k vs)
runs_good carry S D F A θ n h k vs l g =
    let p = S.procs k in
    let f : ℕ → Items (List (Option Val)) = λ j. calls S.world.outcome S.procs n j k vs in
    subst (λ ys. GoodRun S θ (stage S.world n) p.det.committed p vs ys) (call_levels S.world.outcome S.procs n (suc n) h (omega arith) k vs)
    (good_cut S θ (stage S.world n) p vs n (below h f) (below_sound S θ (stage S.world n) p vs h f (λ j. calls_sound S D F A n θ j k vs l g)) (below_told S θ (stage S.world n) p vs h f (λ j. calls_tell carry S D F A n θ j k vs l g))
    (λ e. below_holds (λ ys. answers ys ≤ 1) h f (omega arith) (λ j. calls_one S n j k vs (given_ready S θ p.first (types_of S p) vs g) e)))

pub soundness : PredicatesCarry → AcceptedAreGood
soundness carry S D F A =
    record {
      runs = λ θ n h k vs l g. runs_good carry S D F A θ n h k vs l g;
      writes = λ θ n h k vs l takes g. main_writes S D F A θ n h k vs l takes g;
    }

-- queries
no_inputs_given : (S : System) (θ : TypeChoice) (is : List ℕ) (ts : List TypeTerm) (ys : List ℕ) → NoInputs is → length is ≡ length ts → length ys ≡ length ts → Given S θ is ts (map (λ y. None) ys)
no_inputs_given S θ [] [] [] n e f = tt
no_inputs_given S θ [] [] (y ∷ ys) n e f = absurd (no (length ys) f)
  where
    no : (k : ℕ) → suc k ≡ zero → ⊥
    no k e = cc
no_inputs_given S θ [] (t ∷ ts) ys n e f = absurd (no (length ts) e)
  where
    no : (k : ℕ) → zero ≡ suc k → ⊥
    no k e = cc
no_inputs_given S θ (i ∷ is) [] ys n e f = absurd (no (length is) e)
  where
    no : (k : ℕ) → suc k ≡ zero → ⊥
    no k e = cc
no_inputs_given S θ (i ∷ is) (t ∷ ts) [] n e f = absurd (no (length ts) f)
  where
    no : (k : ℕ) → zero ≡ suc k → ⊥
    no k e = cc
no_inputs_given S θ (i ∷ is) (t ∷ ts) (y ∷ ys) n e f = ((λ b. absurd (b n.0)), no_inputs_given S θ is ts ys n.1 (less (length is) (length ts) e) (less (length ys) (length ts) f))
  where
    less : (m k : ℕ) → suc m ≡ suc k → m ≡ k
    less m k e = cc

pub query_soundness : PredicatesCarry → AcceptedQueriesAreGood
query_soundness carry S D F A q fit ok none n h θ =
    let vs : List (Option Val) = map (λ x. None) q.head in
    let g = no_inputs_given S θ q.first (types_of S q) q.head none ok.lengths.0 (ap length ok.head ∙ from_length 0 (goal_of S q).arity) in
    let C = calls S.world.outcome S.procs n in
    let s = Entry.body_sound S D F A C (calls_sound S D F A n) θ h q vs fit ok g in
    let t = body_is_told carry S D F A C (calls_sound S D F A n) n (calls_tell carry S D F A n) θ h q vs fit ok g in
    subst (λ ys. GoodRun S θ (stage S.world (suc n)) q.det.committed q vs ys) (body_levels S.world.outcome S.procs n (suc n) h (omega arith) q vs)
    (good_cut S θ (stage S.world (suc n)) q vs n (body_items S.world.outcome C h q vs) s t
    (λ e. Entry.cond_true (λ xs. answers xs ≤ 1) (ready q.first vs) _ Stuck (given_ready S θ q.first (types_of S q) vs g) (one_answer q.det.committed _ e)))
