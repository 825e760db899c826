-- What branches leave, from what each variable is left with.
use Rattle.std.proofs.Common.{◌≡◌, ◌∙◌, ◌<◌, ◌+◌, ℕ, Bool, true, false, not, ◌&&◌, if◌then◌else◌, List, [], ◌∷◌, length, get_or, drop, map, Option, Some, None, nat_eq, nat_lt, refl, sym, ap, ap₂, arith}
use Rattle.std.specs.List.{list_all}
use Rattle.std.proofs.lemmas.Bool.{eqb-true, eq-eqb}
use Rattle.std.proofs.lemmas.Bool.Decides.{nat_tests}
use Rattle.std.proofs.lemmas.List.{nil_from_length}
use Rattle.mc_program.specs.Programs.{TypeTerm, Source}
use Rattle.mc_model.specs.Lists.{is_in}
use Rattle.mc_model.specs.Scheduled.{Scheduled, Nodes}
use Rattle.mc_model.specs.Stream.{is_bound}
use Rattle.mc_accepted.specs.Arranged.{Point, with_inst, Declared, placed, ascending, those_in, is_there, all_run, one, breaks, lacks, branches_differ, unless, joined_at, or_free, merged, merges, branched}
use Rattle.mc_accepted.specs.NodeOracle.{NodeOracle, of_nodes}
use Rattle.mc_accepted.specs.Least.{lesser, least}
use Rattle.mc_procs.specs.Procedures.{PlainProcs, source_of}
use Rattle.mc_mode_state.specs.States.{point_of, is_outside}
use Rattle.mc_mode_state.specs.Agreeing.{OracleAgrees, LaterByTrail}
use Rattle.mc_mode_state.specs.Merged.{rows_at, Leave}
use Rattle.mc_mode_state.specs.code.Columns.{ends_differ, FirstDiffering, JoinedSoFar, freed_one, freed}
use Rattle.mc_mode_state.specs.declared.state.State.{State}
use Rattle.mc_mode_state.proofs.Ahead.{agrees-before}
use Rattle.mc_mode_state.proofs.Numbers.{cons_at}

twice : (t b : Bool) → (if t then true else b) ≡ (if t then true else if t then true else b)
twice true b = refl
twice false b = refl

swap : (t u b : Bool) → (if t then true else if u then true else b) ≡ (if u then true else if t then true else b)
swap true true b = refl
swap true false b = refl
swap false true b = refl
swap false false b = refl

in-placed : (y x : ℕ) (zs : List ℕ) → is_in y (placed x zs) ≡ (if nat_eq y x then true else is_in y zs)
in-placed y x [] = refl
in-placed y x (z ∷ zs) = at (nat_lt x z) (nat_eq x z) refl (in-placed y x zs)
  where
    at : (t u : Bool) → nat_eq x z ≡ u → is_in y (placed x zs) ≡ (if nat_eq y x then true else is_in y zs)
        → is_in y (if t then x ∷ z ∷ zs else if u then z ∷ zs else z ∷ placed x zs) ≡ (if nat_eq y x then true else if nat_eq y z then true else is_in y zs)
    at true u h r = refl
    at false true h r = twice (nat_eq y z) (is_in y zs) ∙ ap (λ (w : ℕ). if nat_eq y w then true else (if nat_eq y z then true else is_in y zs)) (sym (eqb-true x z h))
    at false false h r = ap (λ (b : Bool). if nat_eq y z then true else b) r ∙ swap (nat_eq y z) (nat_eq y x) (is_in y zs)

and-false : (a b : Bool) → b ≡ false → (a && b) ≡ b
and-false true b e = refl
and-false false b e = sym e

in-ascending : (f : ℕ → Bool) (y : ℕ) (xs : List ℕ) → is_in y (ascending f xs) ≡ (is_in y xs && f y)
in-ascending f y [] = refl
in-ascending f y (x ∷ xs) = at (f x) (nat_eq y x) refl refl (in-ascending f y xs)
  where
    at : (t u : Bool) → f x ≡ t → nat_eq y x ≡ u → is_in y (ascending f xs) ≡ (is_in y xs && f y)
        → is_in y (if t then placed x (ascending f xs) else ascending f xs) ≡ ((if u then true else is_in y xs) && f y)
    at true true h k r = (in-placed y x (ascending f xs) ∙ ap (λ (b : Bool). if b then true else is_in y (ascending f xs)) k) ∙ sym (ap f (eqb-true y x k) ∙ h)
    at true false h k r = (in-placed y x (ascending f xs) ∙ ap (λ (b : Bool). if b then true else is_in y (ascending f xs)) k) ∙ r
    at false true h k r = r ∙ and-false (is_in y xs) (f y) (ap f (eqb-true y x k) ∙ h)
    at false false h k r = r

least-those : (g : ℕ → Bool) (xs ys : List ℕ) → least g (those_in xs ys) ≡ least (λ x. is_in x ys && g x) xs
least-those g [] ys = refl
least-those g (x ∷ xs) ys = at (is_in x ys) (least-those g xs ys)
  where
    at : (t : Bool) → least g (those_in xs ys) ≡ least (λ y. is_in y ys && g y) xs
        → least g (if t then x ∷ those_in xs ys else those_in xs ys) ≡ (if t && g x then Some (lesser x (least (λ y. is_in y ys && g y) xs)) else least (λ y. is_in y ys && g y) xs)
    at true r = ap (λ (o : Option ℕ). if g x then Some (lesser x o) else o) r
    at false r = r

in-head : (x : ℕ) (xs : List ℕ) → is_in x (x ∷ xs) ≡ true
in-head x xs = ap (λ (b : Bool). if b then true else is_in x xs) (eq-eqb x x refl)

in-tail : (z x : ℕ) (xs : List ℕ) → is_in z xs ≡ true → is_in z (x ∷ xs) ≡ true
in-tail z x xs i = at (nat_eq z x)
  where
    at : (t : Bool) → (if t then true else is_in z xs) ≡ true
    at true = refl
    at false = i

all-those : (g : ℕ → Bool) (xs ys : List ℕ) → ((x : ℕ) → is_in x xs ≡ true → is_in x ys ≡ true → g x ≡ true) → list_all g (those_in xs ys) ≡ true
all-those g [] ys h = refl
all-those g (x ∷ xs) ys h = at (is_in x ys) refl (all-those g xs ys (λ z i j. h z (in-tail z x xs i) j))
  where
    at : (t : Bool) → is_in x ys ≡ t → list_all g (those_in xs ys) ≡ true → list_all g (if t then x ∷ those_in xs ys else those_in xs ys) ≡ true
    at true k r = ap (λ (b : Bool). b && list_all g (those_in xs ys)) (h x (in-head x xs) k) ∙ r
    at false k r = r

never : (xs : List ℕ) → least (λ x. false) xs ≡ None
never [] = refl
never (x ∷ xs) = never xs

freed-one-at : (f : ℕ → Bool) (x : ℕ) (b : Point ℕ) (y : ℕ) → freed_one f x b y ≡ (if nat_eq y x && not (f y) then 0 else b y)
freed-one-at f x b y = at (f x) (nat_eq y x) refl refl
  where
    at : (t u : Bool) → f x ≡ t → nat_eq y x ≡ u → (if t then b else with_inst ℕ x 0 b) y ≡ (if u && not (f y) then 0 else b y)
    at true true h k = sym (ap (λ (w : Bool). if not w then 0 else b y) (ap f (eqb-true y x k) ∙ h))
    at true false h k = refl
    at false true h k = ap (λ (w : Bool). if w then 0 else b y) k ∙ sym (ap (λ (w : Bool). if not w then 0 else b y) (ap f (eqb-true y x k) ∙ h))
    at false false h k = ap (λ (w : Bool). if w then 0 else b y) k

both : (u a c : Bool) (n : ℕ) → (if a && c then 0 else if u && c then 0 else n) ≡ (if (if u then true else a) && c then 0 else n)
both true true true n = refl
both true true false n = refl
both true false true n = refl
both true false false n = refl
both false true true n = refl
both false true false n = refl
both false false c n = refl

freed-at : (f : ℕ → Bool) (xs : List ℕ) (b : Point ℕ) (y : ℕ) → freed f xs b y ≡ (if is_in y xs && not (f y) then 0 else b y)
freed-at f [] b y = refl
freed-at f (x ∷ xs) b y =
    freed-at f xs (freed_one f x b) y
    ∙ (ap (λ (n : ℕ). if is_in y xs && not (f y) then 0 else n) (freed-one-at f x b y)
    ∙ both (nat_eq y x) (is_in y xs) (not (f y)) (b y))

-- one variable more
pub freed-on : (f : ℕ → Bool) (xs : List ℕ) (b : Point ℕ) (k : ℕ) → k < length xs → freed f (drop k xs) b ≡ freed f (drop (k + 1) xs) (freed_one f (get_or xs k 0) b)
freed-on f xs b k h = ap (λ (ys : List ℕ). freed f ys b) (cons_at xs k 0 h)

-- a free variable that is freed
pub free-stays : (b : Point ℕ) (x : ℕ) → b x ≡ 0 → b ≡ with_inst ℕ x 0 b
free-stays b x h = λ i y. at y (nat_eq y x) refl i
  where
    at : (y : ℕ) (t : Bool) → nat_eq y x ≡ t → b y ≡ (if t then 0 else b y)
    at y true k = ap b (eqb-true y x k) ∙ h
    at y false k = refl

module _ (C : NodeOracle) (P : Source) (declared : ℕ → List Declared) (T : ℕ → TypeTerm) (own O : List ℕ) (f : ℕ → Bool) (outside : (x : ℕ) → is_in x O ≡ f x) (wrap : Nodes → Scheduled) (gs : Nodes) (n : ℕ) (b : Point ℕ) where
  least-is : (ends : List (Point ℕ)) (o : Option ℕ) → least (λ x. f x && ends_differ ends x) own ≡ o → least (ends_differ ends) (those_in own O) ≡ o
  least-is ends o e =
      least-those (ends_differ ends) own O
      ∙ (ap (λ (g : ℕ → Bool). least (λ x. g x && ends_differ ends x) own) (λ i x. outside x i) ∙ e)

  pub branches-differ : (ends : List (Point ℕ)) (v : ℕ) → least (λ x. f x && ends_differ ends x) own ≡ Some v
      → branched (of_nodes C) P declared T None wrap own O b (all_run gs ends n) ≡ breaks (branches_differ v)
  branches-differ ends v e =
      ap (λ (o : Option ℕ). unless o branches_differ (if merges (of_nodes C) P declared T (those_in own O) ends then one (of_nodes C) b (wrap gs) (merged (of_nodes C) P declared T own O b ends) n else breaks lacks))
      (least-is ends (Some v) e)

  pub no-end : branched (of_nodes C) P declared T None wrap own O b (all_run gs [] n) ≡ one (of_nodes C) b (wrap gs) None n
  no-end = ap (λ (o : Option ℕ). unless o branches_differ (one (of_nodes C) b (wrap gs) None n)) (never (those_in own O))

  module _ (c : Point ℕ) (cs : List (Point ℕ)) (d : Point ℕ)
      (joined : (x : ℕ) → is_in x (ascending f own) ≡ true → C.joined (T x) (map (λ (e : Point ℕ). e x) (c ∷ cs)) ≡ Some (d x))
      (others : (x : ℕ) → is_in x (ascending f own) ≡ false → d x ≡ b x) where
    seen-is : (x : ℕ) (t u : Bool) → is_in x own ≡ t → f x ≡ u → is_in x (ascending f own) ≡ (t && u)
    seen-is x t u h k = in-ascending f x own ∙ ap₂ (λ (v w : Bool). v && w) h k

    freed-is : (x : ℕ) (t u : Bool) → is_in x own ≡ t → f x ≡ u → freed f own d x ≡ (if t && not u then 0 else d x)
    freed-is x t u h k = freed-at f own d x ∙ ap₂ (λ (v w : Bool). if v && not w then 0 else d x) h k

    merged-at : (x : ℕ) (t u : Bool) → is_in x own ≡ t → is_in x O ≡ u
        → (if t then (if u then or_free (of_nodes C) P declared T (joined_at (of_nodes C) P declared T (c ∷ cs) x) else 0) else b x) ≡ freed f own d x
    merged-at x true true h k =
        ap (or_free (of_nodes C) P declared T) (joined x (seen-is x true true h (sym (outside x) ∙ k))) ∙ sym (freed-is x true true h (sym (outside x) ∙ k))
    merged-at x true false h k = sym (freed-is x true false h (sym (outside x) ∙ k))
    merged-at x false u h k = sym (others x (seen-is x false u h (sym (outside x) ∙ k))) ∙ sym (freed-is x false u h (sym (outside x) ∙ k))

    merged-is : merged (of_nodes C) P declared T own O b (c ∷ cs) ≡ Some (freed f own d)
    merged-is = ap Some (λ i x. merged-at x (is_in x own) (is_in x O) refl refl i)

    all-merge : merges (of_nodes C) P declared T (those_in own O) (c ∷ cs) ≡ true
    all-merge =
        all-those (λ x. is_there (joined_at (of_nodes C) P declared T (c ∷ cs) x)) own O
        (λ x i j. ap is_there (joined x (seen-is x true true i (sym (outside x) ∙ j))))

    pub branches-join : least (λ x. f x && ends_differ (c ∷ cs) x) own ≡ None
        → branched (of_nodes C) P declared T None wrap own O b (all_run gs (c ∷ cs) n) ≡ one (of_nodes C) b (wrap gs) (Some (freed f own d)) n
    branches-join e =
        ap (λ (o : Option ℕ). unless o branches_differ (if merges (of_nodes C) P declared T (those_in own O) (c ∷ cs) then one (of_nodes C) b (wrap gs) (merged (of_nodes C) P declared T own O b (c ∷ cs)) n else breaks lacks))
        (least-is (c ∷ cs) None e)
        ∙ (ap (λ (t : Bool). if t then one (of_nodes C) b (wrap gs) (merged (of_nodes C) P declared T own O b (c ∷ cs)) n else breaks lacks) all-merge
        ∙ ap (λ (o : Option (Point ℕ)). one (of_nodes C) b (wrap gs) o n) merged-is)

-- no end is reachable
pub leaves-none : (own seen : List ℕ) (rows : List (List ℕ)) (q : PlainProcs) (s : State) → rows ≡ [] → Leave own seen rows q q s s (λ C f gs n. one (of_nodes C) (point_of s.insts.items) (f gs) None n)
leaves-none own seen rows q s z = λ ends O declared f gs n C T e o a. at ends O declared f gs n C T e o
  where
    at : (ends : List (Point ℕ)) (O : List ℕ) (declared : ℕ → List Declared) (f : Nodes → Scheduled) (gs : Nodes) (n : ℕ) (C : NodeOracle) (T : ℕ → TypeTerm)
        → rows ≡ rows_at seen ends → ((x : ℕ) → is_in x O ≡ is_outside s.outside.items x)
        → branched (of_nodes C) (source_of q) declared T None f own O (point_of s.insts.items) (all_run gs ends n) ≡ one (of_nodes C) (point_of s.insts.items) (f gs) None n
    at [] O declared f gs n C T e o = no-end C (source_of q) declared T own O (is_outside s.outside.items) o f gs n (point_of s.insts.items)
    at (c ∷ cs) O declared f gs n C T e o = absurd (cc (sym z ∙ e))

-- only some of the ends bind a variable
pub leaves-differing : (own seen : List ℕ) (rows : List (List ℕ)) (q r : PlainProcs) (s t : State) (v : ℕ) → seen ≡ ascending (is_outside s.outside.items) own
    → FirstDiffering seen rows (Some v) → Leave own seen rows q r s t (λ C f gs n. breaks (branches_differ v))
leaves-differing own seen rows q r s t v i d = λ ends O declared f gs n C T e o a.
    branches-differ C (source_of q) declared T own O (is_outside s.outside.items) o f gs n (point_of s.insts.items) ends v (d ends e (is_outside s.outside.items) own i)

-- the seen variables have what their insts allow, and the others are free
pub leaves-joined : (own seen : List ℕ) (rows : List (List ℕ)) (q r : PlainProcs) (s t u : State) → seen ≡ ascending (is_outside s.outside.items) own → 0 < length rows
    → FirstDiffering seen rows None → JoinedSoFar seen seen rows r s t → LaterByTrail q r s t → LaterByTrail r r t u
    → point_of u.insts.items ≡ freed (is_outside t.outside.items) own (point_of t.insts.items)
    → Leave own seen rows q r s u (λ C f gs n. one (of_nodes C) (point_of s.insts.items) (f gs) (Some (point_of u.insts.items)) n)
leaves-joined own seen rows q r s t u i h d j p m point = λ ends O declared f gs n C T e o a. at ends O declared f gs n C T e o a
  where
    now : point_of u.insts.items ≡ freed (is_outside s.outside.items) own (point_of t.insts.items)
    now = point ∙ ap (λ (g : ℕ → Bool). freed g own (point_of t.insts.items)) (λ k x. ap (λ (n : ℕ). not (nat_eq n 0)) (p.later.outside x) k)

    at : (ends : List (Point ℕ)) (O : List ℕ) (declared : ℕ → List Declared) (f : Nodes → Scheduled) (gs : Nodes) (n : ℕ) (C : NodeOracle) (T : ℕ → TypeTerm)
        → rows ≡ rows_at seen ends → ((x : ℕ) → is_in x O ≡ is_outside s.outside.items x) → OracleAgrees r u C T
        → branched (of_nodes C) (source_of q) declared T None f own O (point_of s.insts.items) (all_run gs ends n) ≡ one (of_nodes C) (point_of s.insts.items) (f gs) (Some (point_of u.insts.items)) n
    at [] O declared f gs n C T e o a = absurd (omega (arith, h, ap length e))
    at (c ∷ cs) O declared f gs n C T e o a =
        branches-join C (source_of q) declared T own O (is_outside s.outside.items) o f gs n (point_of s.insts.items) c cs (point_of t.insts.items)
        (λ x k. j.found (c ∷ cs) e C T (agrees-before r r t u C T p.moved.stands m.moved a) x (ap (is_in x) i ∙ k))
        (λ x k. j.others x (ap (is_in x) i ∙ k))
        (d (c ∷ cs) e (is_outside s.outside.items) own i)
        ∙ ap (λ (b : Point ℕ). one (of_nodes C) (point_of s.insts.items) (f gs) (Some b) n) (sym now)

-- what isn't bound is free
pub unbound-free : (i : ℕ) → is_bound i ≡ false → i ≡ 0
unbound-free i h = eqb-true i 0 (at (nat_eq i 0) h)
  where
    at : (t : Bool) → not t ≡ false → t ≡ true
    at true e = refl
    at false e = sym e

pub no-rows : (rows : List (List ℕ)) → nat_eq (length rows) 0 ≡ true → rows ≡ []
no-rows rows h = nil_from_length rows (eqb-true (length rows) 0 h)

pub some-rows : (rows : List (List ℕ)) → nat_eq (length rows) 0 ≡ false → 0 < length rows
some-rows rows h = grind (arith, nat_tests)
