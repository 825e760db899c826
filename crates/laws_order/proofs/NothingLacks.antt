-- Over forms no inst is ever lacking.
use Rattle.std.proofs.Common.{◌≡◌, ◌≢◌, ℕ, zero, suc, Bool, true, false, cond, not, ◌&&◌, ◌||◌, List, [], ◌∷◌, ◌++◌, map, Option, Some, None, refl, ap, ◌∙◌}
use Rattle.std.specs.List.{list_any, list_all}
use Rattle.mc_program.specs.Values.{Val}
use Rattle.mc_program.specs.Programs.{TypeTerm, Source}
use Rattle.mc_model.specs.Flat as F
use Rattle.mc_model.specs.Flat.{Flat_goal, Flat_goals, no_flat, flat_then, variables_of, variables_of_all, free_in}
use Rattle.mc_model.specs.Lists.{without}
use Rattle.mc_model.specs.Scheduled.{Node, Scheduled, Conj, Disj, Ite, Exists, Nodes, no_nodes}
use Rattle.mc_accepted.specs.Ordered.{is_state, modes_of}
use Rattle.mc_accepted.specs.Unmarked.{unmarked}
use Rattle.mc_accepted.specs.Least.{least}
use Rattle.mc_accepted.specs.Arranged.{Operations, Declared, Fault, waits, negated_binds, branches_differ, lacks, alone, two_goals, count_flat, is_there, those_in, Point, Arranged, runs, breaks, Trial, Waiting, Picked, takes, none_runs, Branches, all_run, one_breaks, variables_of_waiting, or_first, picked, pick, behind, goes_on, with_branch, and_branches, no_branch, each_branch, unless, wrapped, stuck, in_turn, atom, same, built, took, take, made, constant, best, called, applied_with, call_of, binds, differs, joined_at, merges, branched, conditional, negation, trial, trials, usable, implied_in, faulty, unless_unmet, first_unmet, judged, entry, arrange}
use Rattle.mc_accepted.specs.Forms.{of_forms}
use Rattle.mc_program.specs.declared.builtin.Builtin.{Builtin}
use Rattle.laws_order.specs.OrderLaws.{NothingLacks}
use Rattle.laws_order.proofs.Arranging.{not-both}

abbrev Real : Fault → Type 0
Real (waits k vs) = Unit {0}
Real (negated_binds v) = Unit {0}
Real (branches_differ v) = Unit {0}
Real lacks = ⊥

all-true : (f : ℕ → Bool) (xs : List ℕ) → ((x : ℕ) → f x ≡ true) → list_all f xs ≡ true
all-true f [] h = refl
all-true f (x ∷ xs) h = ap (λ t. t && list_all f xs) (h x) ∙ all-true f xs h

module _ {I : Type 0} where
  abbrev Fine : Arranged I → Type 0
  Fine (runs gs o m zs) = Unit {0}
  Fine (breaks f) = Real f

  abbrev Tries : Trial I → Type 0
  Tries t = (O : List ℕ) (n : ℕ) (b : Point I) → Fine (t O n b)

  abbrev AllTry : List (Waiting I) → Type 0
  AllTry [] = Unit {0}
  AllTry (w ∷ ws) = Tries w.trial × AllTry ws

  abbrev FineBranches : Branches I → Type 0
  FineBranches (all_run gs ends m) = Unit {0}
  FineBranches (one_breaks f) = Real f

  abbrev FinePicked : Picked I → Type 0
  FinePicked (takes vs ws gs o m) = AllTry ws
  FinePicked (none_runs None) = Unit {0}
  FinePicked (none_runs (Some f)) = Real f

  fine-if : (t : Bool) (p q : Arranged I) → (t ≡ true → Fine p) → (t ≡ false → Fine q) → Fine (cond t p q)
  fine-if true p q h k = h refl
  fine-if false p q h k = k refl

  fine-unless : (o : Option ℕ) (f : ℕ → Fault) (r : Arranged I) → ((v : ℕ) → Real (f v)) → Fine r → Fine (unless o f r)
  fine-unless None f r h k = k
  fine-unless (Some v) f r h k = h v

  all-try : (vs ws : List (Waiting I)) → AllTry vs → AllTry ws → AllTry (vs ++ ws)
  all-try [] ws h k = k
  all-try (v ∷ vs) ws h k = (h.0, all-try vs ws h.1 k)

  fine-first : (f : Fault) (p : Picked I) → Real f → FinePicked p → FinePicked (or_first f p)
  fine-first f (takes vs ws gs o m) h k = k
  fine-first f (none_runs None) h k = h
  fine-first f (none_runs (Some (waits j vs))) h k = h
  fine-first f (none_runs (Some (negated_binds v))) h k = h
  fine-first f (none_runs (Some (branches_differ v))) h k = h
  fine-first f (none_runs (Some lacks)) h k = k

  fine-picked : (w : Waiting I) (ws : List (Waiting I)) (r : Arranged I) (later : Picked I) → Fine r → AllTry ws → FinePicked later → FinePicked (picked w ws r later)
  fine-picked w ws (runs gs o m zs) later h a k = a
  fine-picked w ws (breaks (waits j vs)) later h a k = k
  fine-picked w ws (breaks (negated_binds v)) later h a k = fine-first (negated_binds v) later tt k
  fine-picked w ws (breaks (branches_differ v)) later h a k = fine-first (branches_differ v) later tt k
  fine-picked w ws (breaks lacks) later h a k = absurd h

  fine-pick : (vs ws : List (Waiting I)) (O : List ℕ) (n : ℕ) (b : Point I) → AllTry vs → AllTry ws → FinePicked (pick vs ws O n b)
  fine-pick vs [] O n b h k = tt
  fine-pick vs (w ∷ ws) O n b h k =
      fine-picked w (vs ++ ws) (w.trial (O ++ variables_of_waiting (vs ++ ws)) n b) (pick (vs ++ w ∷ []) ws O n b) (k.0 (O ++ variables_of_waiting (vs ++ ws)) n b) (all-try vs ws h k.1) (fine-pick (vs ++ w ∷ []) ws O n b (all-try vs (w ∷ []) h (k.0, tt)) k.1)

  fine-behind : (gs : Nodes) (r : Arranged I) → Fine r → Fine (behind gs r)
  fine-behind gs (breaks f) k = k
  fine-behind gs (runs hs o m zs) k = tt

  fine-branch : (g : Node) (o : Option (Point I)) (B : Branches I) → FineBranches B → FineBranches (with_branch g o B)
  fine-branch g o (one_breaks f) k = k
  fine-branch g o (all_run gs ends m) k = tt

module _ {I : Type 0} (Op : Operations I) where
  fine-wrapped : (f : ℕ → Option (Point I) → Nodes → Scheduled) (b : Point I) (r : Arranged I) → Fine r → Fine (wrapped Op f b r)
  fine-wrapped f b (breaks e) k = k
  fine-wrapped f b (runs gs o m zs) k = tt

  fine-and : (b : Point I) (r : Arranged I) (rest : ℕ → Branches I) → Fine r → ((m : ℕ) → FineBranches (rest m)) → FineBranches (and_branches Op b r rest)
  fine-and b (breaks f) rest h k = h
  fine-and b (runs gs o m zs) rest h k = fine-branch (alone Op m b o gs) o (rest m) (k m)

  fine-each : (ws : List (Waiting I)) (O : List ℕ) (n : ℕ) (b : Point I) → AllTry ws → FineBranches (each_branch Op ws O n b)
  fine-each [] O n b k = tt
  fine-each (w ∷ ws) O n b k = fine-and b (w.trial O n b) (λ m. each_branch Op ws O m b) (k.0 O n b) (λ m. fine-each ws O m b k.1)

module _ {I : Type 0} (Op : Operations I) (P : Source) (declared : ℕ → List Declared) (T : ℕ → TypeTerm) (over : (s : ℕ) (is : List I) → is_there (Op.over s is) ≡ true) (joins : (t : TypeTerm) (i : I) (is : List I) → is_there (Op.joined t (i ∷ is)) ≡ true) where
  fine-turn : (k : ℕ) (ws : List (Waiting I)) → AllTry ws → Tries (in_turn Op P declared T k ws)
  fine-turn zero ws h O n b = tt
  fine-turn (suc k) ws h O n b = at (pick [] ws O n b) (fine-pick [] ws O n b tt h) (λ us ku. fine-turn k us ku)
    where
      at : (p : Picked I) → FinePicked p → ((us : List (Waiting I)) → AllTry us → Tries (in_turn Op P declared T k us)) → Fine (goes_on (stuck Op P declared T ws b) p (λ vs rest m c. in_turn Op P declared T k rest (O ++ vs) m c))
      at (none_runs None) q again = tt
      at (none_runs (Some f)) q again = q
      at (takes vs us gs None m) q again = tt
      at (takes vs us gs (Some c) m) q again = fine-behind gs (in_turn Op P declared T k us (O ++ vs) m c) (again us q (O ++ vs) m c)

  fine-same : (x y n : ℕ) (b : Point I) → Fine (same Op P declared T x y n b)
  fine-same x y n b =
      fine-if (Op.is_bound (b x)) _ _ (λ e. fine-if (Op.is_bound (b y)) _ _ (λ e. fine-if (is_state (T x)) _ _ (λ e. tt) (λ e. tt)) (λ e. tt)) (λ e. fine-if (Op.is_bound (b y)) _ _ (λ e. tt) (λ e. tt))

  fine-take : (x s : ℕ) (ys : List ℕ) (n : ℕ) (b : Point I) (o : Option (List I)) → Fine (take Op P declared T x s ys n b o)
  fine-take x s ys n b None = tt
  fine-take x s ys n b (Some is) = at (Op.over s is) (over s is)
    where
      at : (o : Option I) → is_there o ≡ true → Fine (took Op P declared T x s ys is n b o)
      at None e = cc
      at (Some i) e = tt

  fine-built : (x s : ℕ) (ys : List ℕ) (n : ℕ) (b : Point I) (o : Option I) → is_there o ≡ true → Fine (built Op P declared T x s ys n b o)
  fine-built x s ys n b None e = cc
  fine-built x s ys n b (Some i) e = tt

  fine-made : (x s : ℕ) (ys : List ℕ) (n : ℕ) (b : Point I) → Fine (made Op P declared T x s ys n b)
  fine-made x s ys n b =
      fine-if (Op.is_bound (b x)) _ _ (λ e. fine-take x s ys n b (Op.narrowed (b x) s))
      (λ e. fine-if (list_any (λ y. not (Op.is_bound (b y)) || is_state (T y)) ys) _ _ (λ e. tt) (λ e. fine-built x s ys n b (Op.over s (map b ys)) (over s (map b ys))))

  fine-constant : (x : ℕ) (v : Val) (n : ℕ) (b : Point I) → Fine (constant Op P declared T x v n b)
  fine-constant x v n b = fine-if (Op.is_bound (b x)) _ _ (λ e. tt) (λ e. tt)

  fine-called : (o : Option Declared) (xs : List ℕ) (n : ℕ) (b : Point I) → Fine (called Op P declared T o xs n b)
  fine-called None xs n b = tt
  fine-called (Some d) xs n b = tt

  fine-applied : (is : List ℕ) (op : Builtin) (xs : List ℕ) (n : ℕ) (b : Point I) → Fine (applied_with Op P declared T is op xs n b)
  fine-applied [] op xs n b = tt
  fine-applied (i ∷ is) op xs n b = tt

  fine-call : (o : Option Builtin) (p : ℕ) (xs : List ℕ) (n : ℕ) (b : Point I) → Fine (call_of Op P declared T o p xs n b)
  fine-call None p xs n b = fine-called (best Op P declared T (declared p) xs b) xs n b
  fine-call (Some op) p xs n b = fine-if (usable Op P declared T xs (modes_of op) xs b) _ _ (λ e. fine-applied (implied_in Op P declared T (modes_of op) xs b) op xs n b) (λ e. tt)

  fine-atom : (xs : List ℕ) (b : Point I) (r : Arranged I) → Fine r → Fine (atom Op P declared T xs b r)
  fine-atom xs b r k = fine-if (list_any (λ x. Op.is_dead (b x)) xs) _ _ (λ e. tt) (λ e. k)

  all-merge : (xs : List ℕ) (ends : List (Point I)) → merges Op P declared T xs ends ≡ true
  all-merge xs [] = refl
  all-merge xs (c ∷ cs) = all-true (λ x. is_there (joined_at Op P declared T (c ∷ cs) x)) xs (λ x. joins (T x) (c x) (map (λ (d : Point I). d x) cs))

  fine-branched : (v : Option ℕ) (f : Nodes → Scheduled) (own O : List ℕ) (b : Point I) (B : Branches I) → FineBranches B → Fine (branched Op P declared T v f own O b B)
  fine-branched v f own O b (one_breaks e) k = k
  fine-branched v f own O b (all_run gs ends m) k =
      fine-unless v negated_binds _ (λ x. tt)
      (fine-unless (least (differs Op P declared T ends) (those_in own O)) branches_differ _ (λ x. tt)
      (fine-if (merges Op P declared T (those_in own O) ends) _ _ (λ e. tt) (λ e. not-both _ (all-merge (those_in own O) ends) e)))

  fine-conditional : (vs xs own O : List ℕ) (b : Point I) (r : Arranged I) (th tk : Trial I) (U V : List ℕ) → Fine r → Tries th → Tries tk → Fine (conditional Op P declared T vs xs own O b r (λ m c. th U m c) (λ m. tk V m b))
  fine-conditional vs xs own O b (breaks f) th tk U V k h e = k
  fine-conditional vs xs own O b (runs gs None m zs) th tk U V k h e =
      fine-branched None (two_goals (Ite vs (alone Op m b None gs))) own O b (with_branch (unmarked (Conj no_nodes)) None (and_branches Op b (tk V m b) no_branch))
      (fine-branch (unmarked (Conj no_nodes)) None (and_branches Op b (tk V m b) no_branch) (fine-and Op b (tk V m b) no_branch (e V m b) (λ j. tt)))
  fine-conditional vs xs own O b (runs gs (Some c) m zs) th tk U V k h e =
      fine-branched (binds Op P declared T xs b (Some c)) (two_goals (Ite vs (alone Op m b (Some c) gs))) own O b (and_branches Op c (th U m c) (λ j. and_branches Op b (tk V j b) no_branch))
      (fine-and Op c (th U m c) (λ j. and_branches Op b (tk V j b) no_branch) (h U m c) (λ j. fine-and Op b (tk V j b) no_branch (e V j b) (λ i. tt)))

  fine-negation : (xs : List ℕ) (b : Point I) (r : Arranged I) → Fine r → Fine (negation Op P declared T xs b r)
  fine-negation xs b (breaks f) k = k
  fine-negation xs b (runs gs o m zs) k = fine-unless (binds Op P declared T xs b o) negated_binds _ (λ v. tt) tt

  mutual
    fine : (g : Flat_goal) → Tries (trial Op P declared T g)
    fine (F.Same x y) O n b = fine-atom (x ∷ y ∷ []) b (same Op P declared T x y n b) (fine-same x y n b)
    fine (F.Made x s ys) O n b = fine-atom (x ∷ ys) b (made Op P declared T x s ys n b) (fine-made x s ys n b)
    fine (F.Is x v) O n b = fine-atom (x ∷ []) b (constant Op P declared T x v n b) (fine-constant x v n b)
    fine (F.Call p xs) O n b = fine-atom xs b (call_of Op P declared T (P.preds p).builtin p xs n b) (fine-call (P.preds p).builtin p xs n b)
    fine (F.And gs) O n b = fine-wrapped Op (λ m o hs. Conj hs) b (in_turn Op P declared T (count_flat gs) (trials Op P declared T gs) O n b) (fine-turn (count_flat gs) (trials Op P declared T gs) (all-fine gs) O n b)
    fine (F.Or gs) O n b = fine-branched None Disj (variables_of_all gs) O b (each_branch Op (trials Op P declared T gs) O n b) (fine-each Op (trials Op P declared T gs) O n b (all-fine gs))
    fine (F.If vs g h k) O n b =
        fine-conditional vs (without (free_in g) vs) (variables_of (F.If vs g h k)) O b (trial Op P declared T g (O ++ (without (free_in g) vs ++ variables_of h)) n b) (trial Op P declared T h) (trial Op P declared T k) (O ++ variables_of g) O
        (fine g (O ++ (without (free_in g) vs ++ variables_of h)) n b) (fine h) (fine k)
    fine (F.Not g) O n b = fine-negation (free_in g) b (trial Op P declared T g (O ++ free_in g) n b) (fine g (O ++ free_in g) n b)
    fine (F.Exists vs g) O n b = fine-wrapped Op (λ m o gs. Exists vs (alone Op m b o gs)) b (trial Op P declared T g O n b) (fine g O n b)

    all-fine : (gs : Flat_goals) → AllTry (trials Op P declared T gs)
    all-fine no_flat = tt
    all-fine (flat_then g gs) = (fine g, all-fine gs)

  not-lacking : (head last : List ℕ) (b : Point I) (r : Arranged I) → Fine r → judged Op P declared T head last b r ≡ faulty lacks → ⊥
  not-lacking head last b (breaks (waits k vs)) h e = cc
  not-lacking head last b (breaks (negated_binds v)) h e = cc
  not-lacking head last b (breaks (branches_differ v)) h e = cc
  not-lacking head last b (breaks lacks) h e = h
  not-lacking head last b (runs gs None m zs) h e = cc
  not-lacking head last b (runs gs (Some c) m zs) h e = at (first_unmet Op P declared T 0 head last c) e
    where
      at : (o : Option ℕ) → unless_unmet (alone Op m b (Some c) gs) o ≡ faulty lacks → ⊥
      at None q = cc
      at (Some k) q = cc

  -- where each inst that is looked for is found
  pub never-lacks : (next : ℕ) (head first last : List ℕ) (g : Flat_goal) → arrange Op P declared T next head first last g ≢ faulty lacks
  never-lacks next head first last g e =
      not-lacking head last (entry Op P declared T head first) (trial Op P declared T g head next (entry Op P declared T head first))
      (fine g head next (entry Op P declared T head first)) e

pub nothing-lacks : NothingLacks
nothing-lacks P G declared T f = never-lacks (of_forms P G f) P declared T (λ s is. refl) (λ t i is. refl)
