-- The modes whose goals are tried where some mode breaks the rule of unique modes.
use Rattle.std.proofs.Common.{◌≡◌, ◌↔◌, ℕ, zero, suc, ◌+◌, ◌<◌, ◌≤◌, Bool, true, false, true≢false, IsTrue, List, [], ◌∷◌, ◌++◌, length, get_or, map, take, drop, refl, sym, ap, ◌∙◌, subst, arith}
use Rattle.std.specs.List.{All}
use Rattle.std.proofs.lemmas.List.{take_more, take_all, length-map, get_or_past, get_or_push}
use Rattle.std.proofs.lemmas.List.Elements.{All-nil, All-cons, All-head, All-tail}
use Rattle.std.proofs.Math.ListN.{get_or-append}
use Rattle.mc_program.specs.Programs.{TypeTerm, Source}
use Rattle.mc_program.specs.PlainPrograms.{plain_program, plain_pred, no_pred}
use Rattle.mc_program.specs.declared.program.Program.{Program}
use Rattle.mc_model.specs.Flat as F
use Rattle.mc_model.specs.Flat.{Flat_goal, Flat_goals, no_flat, flat_then}
use Rattle.mc_model.specs.PlainGoals.{plain_flat}
use Rattle.mc_model.specs.Insts.{Graph}
use Rattle.mc_model.specs.declared.flat.Normal.{Normal}
use Rattle.mc_model.specs.declared.inst.ModeDecl.{ModeDecl}
use Rattle.mc_model.specs.declared.inst.Sig.{Sig}
use Rattle.mc_accepted.specs.Calls.{CallsOnly, AllCallOnly}
use Rattle.mc_accepted.specs.Tidy.{EachTidy}
use Rattle.mc_insts.proofs.Found.{by_order}
use Rattle.mc_modes.specs.Signatures.{modes_at, mode_in, no_mode}
use Rattle.mc_modes.specs.NormalGoals.{goal_at}
use Rattle.mc_modes.specs.declared.modes.ModeId.{ModeId}
use Rattle.mc_analysis.specs.Untidy.{ModeIsTidy, AllTidy, TidyAt, OverTidy, AreAsked, no_more, asked, passed}
use Rattle.mc_analysis.specs.code.Asked.{MarksTidy, CallsMarked, AllCallMarked}

-- ---- what a goal calls
module _ (A B : ℕ → Type 0) (on : (p : ℕ) → A p → B p) where
  mutual
    -- what is so of each such predicate
    pub only_on : (g : Flat_goal) → CallsOnly A g → CallsOnly B g
    only_on (F.Same x y) h = tt
    only_on (F.Made x s ys) h = tt
    only_on (F.Is x v) h = tt
    only_on (F.Call p xs) h = on p h
    only_on (F.And gs) h = all_only_on gs h
    only_on (F.Or gs) h = all_only_on gs h
    only_on (F.If vs c t e) h = (only_on c h.0, only_on t h.1, only_on e h.2)
    only_on (F.Not g) h = only_on g h
    only_on (F.Exists vs g) h = only_on g h

    all_only_on : (gs : Flat_goals) → AllCallOnly A gs → AllCallOnly B gs
    all_only_on no_flat h = tt
    all_only_on (flat_then g gs) h = (only_on g h.0, all_only_on gs h.1)

module _ (A : ℕ → Type 0) (all : (p : ℕ) → A p) where
  mutual
    -- what is so of all predicates
    pub only_all : (g : Flat_goal) → CallsOnly A g
    only_all (F.Same x y) = tt
    only_all (F.Made x s ys) = tt
    only_all (F.Is x v) = tt
    only_all (F.Call p xs) = all p
    only_all (F.And gs) = all_only_all gs
    only_all (F.Or gs) = all_only_all gs
    only_all (F.If vs c t e) = (only_all c, only_all t, only_all e)
    only_all (F.Not g) = only_all g
    only_all (F.Exists vs g) = only_all g

    all_only_all : (gs : Flat_goals) → AllCallOnly A gs
    all_only_all no_flat = tt
    all_only_all (flat_then g gs) = (only_all g, all_only_all gs)

-- and of a goal that calls marked predicates alone
module _ (A : ℕ → Type 0) (marks : List Bool) (are : (p : ℕ) → (get_or marks p true ≡ true) ↔ A p) where
  mutual
    marked_on : (g : Flat_goal) → CallsMarked marks g → CallsOnly A g
    marked_on (F.Same x y) h = tt
    marked_on (F.Made x s ys) h = tt
    marked_on (F.Is x v) h = tt
    marked_on (F.Call p xs) h = (are p).0 h
    marked_on (F.And gs) h = all_marked_on gs h
    marked_on (F.Or gs) h = all_marked_on gs h
    marked_on (F.If vs c t e) h = (marked_on c h.0, marked_on t h.1, marked_on e h.2)
    marked_on (F.Not g) h = marked_on g h
    marked_on (F.Exists vs g) h = marked_on g h

    all_marked_on : (gs : Flat_goals) → AllCallMarked marks gs → AllCallOnly A gs
    all_marked_on no_flat h = tt
    all_marked_on (flat_then g gs) h = (marked_on g h.0, all_marked_on gs h.1)

  mutual
    marked_back : (g : Flat_goal) → CallsOnly A g → CallsMarked marks g
    marked_back (F.Same x y) h = tt
    marked_back (F.Made x s ys) h = tt
    marked_back (F.Is x v) h = tt
    marked_back (F.Call p xs) h = (are p).1 h
    marked_back (F.And gs) h = all_marked_back gs h
    marked_back (F.Or gs) h = all_marked_back gs h
    marked_back (F.If vs c t e) h = (marked_back c h.0, marked_back t h.1, marked_back e h.2)
    marked_back (F.Not g) h = marked_back g h
    marked_back (F.Exists vs g) h = marked_back g h

    all_marked_back : (gs : Flat_goals) → AllCallOnly A gs → AllCallMarked marks gs
    all_marked_back no_flat h = tt
    all_marked_back (flat_then g gs) h = (marked_back g h.0, all_marked_back gs h.1)

-- ---- modes that are tidy
module _ (P : Source) (G : Graph) where
  -- where a predicate has no argument that is known
  untyped : (is : List ℕ) → EachTidy P G is []
  untyped [] = tt
  untyped (i ∷ is) = tt

  all_untyped : (ms : List ModeDecl) → AllTidy P G [] ms
  all_untyped [] = tt
  all_untyped (m ∷ ms) = ((untyped m.first, untyped m.last), all_untyped ms)

  -- a mode of those that all are; what stands at a number that no mode has is
  pub tidy_in : (ts : List TypeTerm) (ms : List ModeDecl) (k : ℕ) → AllTidy P G ts ms → ModeIsTidy P G ts (get_or ms k no_mode)
  tidy_in ts [] k all = (tt, tt)
  tidy_in ts (m ∷ ms) zero all = all.0
  tidy_in ts (m ∷ ms) (suc k) all = tidy_in ts ms k all.1

-- past the last mode all are tidy
pub past_modes : (P : Source) (G : Graph) (ts : List TypeTerm) (ms : List ModeDecl) (k : ℕ) → length ms ≤ k → (AllTidy P G ts (drop k ms) ↔ AllTidy P G ts ms) → (IsTrue true ↔ AllTidy P G ts ms)
past_modes P G ts ms k past h = (λ t. h.0 (subst (AllTidy P G ts) (sym (none k ms past)) tt), λ f. refl)
  where
    none : (k : ℕ) (ms : List ModeDecl) → length ms ≤ k → drop k ms ≡ []
    none zero [] le = refl
    none zero (m ∷ ms) le = absurd (let no : ⊥ = omega arith in no)
    none (suc k) [] le = refl
    none (suc k) (m ∷ ms) le = none k ms (omega arith)

-- all modes of a predicate are tidy, by what is tested
pub tidy_at_by : (P : Source) (G H : Graph) (sigs : List Sig) (k : ℕ) (b : Bool) (ts : List TypeTerm) (ms : List ModeDecl) → H ≡ G → ts ≡ (P.preds k).types → ms ≡ modes_at sigs k → (IsTrue b ↔ AllTidy P H ts ms) → (IsTrue b ↔ TidyAt P G sigs k)
tidy_at_by P G H sigs k b ts ms graph types modes h =
    subst (λ (X : Graph). IsTrue b ↔ AllTidy P X (P.preds k).types (modes_at sigs k)) graph
    (subst (λ (us : List TypeTerm). IsTrue b ↔ AllTidy P H us (modes_at sigs k)) types
    (subst (λ (ns : List ModeDecl). IsTrue b ↔ AllTidy P H ts ns) modes h))

-- ---- marks of predicates, in order
-- predicates are marked up to a number
abbrev pub MarksTo : Source → Graph → List Sig → (count : ℕ) → List Bool → Type 0
MarksTo P G sigs k marks = (length marks ≡ k) × ((p : ℕ) → p < k → (get_or marks p true ≡ true) ↔ TidyAt P G sigs p)

pub none_marked : (P : Source) (G : Graph) (sigs : List Sig) (marks : List Bool) → marks ≡ [] → MarksTo P G sigs 0 marks
none_marked P G sigs marks none = (ap length none, λ p lt. absurd (let no : ⊥ = omega arith in no))

pub one_marked : (P : Source) (G : Graph) (sigs : List Sig) (k : ℕ) (marks new : List Bool) (b : Bool) → new ≡ marks ++ b ∷ [] → (IsTrue b ↔ TidyAt P G sigs k) → MarksTo P G sigs k marks → MarksTo P G sigs (k + 1) new
one_marked P G sigs k marks new b e h all =
    (ap length e ∙ many, λ p lt. subst (λ (bs : List Bool). (get_or bs p true ≡ true) ↔ TidyAt P G sigs p) (sym e) (at p lt))
  where
    length_push : (bs : List Bool) → length (bs ++ b ∷ []) ≡ suc (length bs)
    length_push [] = refl
    length_push (c ∷ bs) = ap suc (length_push bs)

    many : length (marks ++ b ∷ []) ≡ k + 1
    many = let l = length_push marks in let m = all.0 in omega arith

    at : (p : ℕ) → p < k + 1 → (get_or (marks ++ b ∷ []) p true ≡ true) ↔ TidyAt P G sigs p
    at p lt =
        by_order p k
        (λ l.
        subst (λ (c : Bool). (c ≡ true) ↔ TidyAt P G sigs p) (sym (get_or-append marks (b ∷ []) true p (let m = all.0 in omega arith))) (all.1 p l))
        (λ q.
        subst (λ (n : ℕ). (get_or (marks ++ b ∷ []) n true ≡ true) ↔ TidyAt P G sigs n) (sym q)
        (subst (λ (c : Bool). (c ≡ true) ↔ TidyAt P G sigs k) (sym (get_or_push marks b true k all.0)) h))
        (λ g. absurd (let no : ⊥ = omega arith in no))

-- past the last predicate no argument is known
pub all_marked : (P : Program) (G : Graph) (sigs : List Sig) (k : ℕ) (marks : List Bool) → length P.preds ≤ k → MarksTo (plain_program P) G sigs k marks → MarksTidy (plain_program P) G sigs marks
all_marked P G sigs k marks past all p =
    by_order p k (λ l. all.1 p l) (λ q. beyond (omega arith)) (λ g. beyond (omega arith))
  where
    none : k ≤ p → ((plain_program P).preds p).types ≡ []
    none le =
        let l : length (map plain_pred P.preds) ≡ length P.preds = length-map P.preds plain_pred in
        ap (λ d. d.types) (get_or_past (map plain_pred P.preds) p no_pred (omega arith))

    beyond : k ≤ p → (get_or marks p true ≡ true) ↔ TidyAt (plain_program P) G sigs p
    beyond le = (
      λ t. subst (λ (ts : List TypeTerm). AllTidy (plain_program P) G ts (modes_at sigs p)) (sym (none le)) (all_untyped (plain_program P) G (modes_at sigs p)),
      λ f. get_or_past marks p true (let m = all.0 in omega arith),
    )

-- ---- modes whose goals are tried
module _ (P : Source) (G : Graph) (sigs : List Sig) (goals : List Normal) where
  -- a mode is, where its goal calls only marked predicates, and it is tidy
  pub over_by : (marks : List Bool) (id : ModeId) (g : Normal) (ts : List TypeTerm) (m : ModeDecl) (b : Bool) → MarksTidy P G sigs marks → g ≡ goal_at goals id.pred → CallsMarked marks (plain_flat g.body) →
      ts ≡ (P.preds id.pred).types → m ≡ mode_in sigs id.pred id.mode → (IsTrue b ↔ ModeIsTidy P G ts m) → (IsTrue b ↔ OverTidy P G sigs goals id)
  over_by marks id g ts m b are goal calls types is h = (
    λ t.
        record {
          own = subst (λ (us : List TypeTerm). ModeIsTidy P G us (mode_in sigs id.pred id.mode)) types (subst (ModeIsTidy P G ts) is (h.0 t));
          called = marked_on (TidyAt P G sigs) marks are (plain_flat (goal_at goals id.pred).body) (subst (λ (x : Normal). CallsMarked marks (plain_flat x.body)) goal calls);
        },
    λ o. h.1 (subst (ModeIsTidy P G ts) (sym is) (subst (λ (us : List TypeTerm). ModeIsTidy P G us (mode_in sigs id.pred id.mode)) (sym types) o.own)),
  )

  pub not_over : (marks : List Bool) (id : ModeId) (g : Normal) (b : Bool) → MarksTidy P G sigs marks → g ≡ goal_at goals id.pred → b ≡ false → (IsTrue b ↔ CallsMarked marks (plain_flat g.body)) → (IsTrue false ↔ OverTidy P G sigs goals id)
  not_over marks id g b are goal off h = (
    λ t. absurd (true≢false (sym t)),
    λ o.
        subst (λ (x : Bool). IsTrue x) off
        (h.1 (subst (λ (x : Normal). CallsMarked marks (plain_flat x.body)) (sym goal) (marked_back (TidyAt P G sigs) marks are (plain_flat (goal_at goals id.pred).body) o.called))),
  )

  asked_behind : (ids is : List ModeId) (id : ModeId) → AreAsked P G sigs goals ids is → OverTidy P G sigs goals id → AreAsked P G sigs goals (ids ++ id ∷ []) (is ++ id ∷ [])
  asked_behind [] [] id no_more over = asked over no_more
  asked_behind [] (j ∷ is) id these over = elim these [ ]
  asked_behind (i ∷ ids) is id (asked one all) over = asked one (asked_behind ids _ id all over)
  asked_behind (i ∷ ids) is id (passed one all) over = passed one (asked_behind ids is id all over)

  passed_behind : (ids is : List ModeId) (id : ModeId) → AreAsked P G sigs goals ids is → (OverTidy P G sigs goals id → ⊥) → AreAsked P G sigs goals (ids ++ id ∷ []) is
  passed_behind [] [] id no_more over = passed over no_more
  passed_behind [] (j ∷ is) id these over = elim these [ ]
  passed_behind (i ∷ ids) is id (asked one all) over = asked one (passed_behind ids _ id all over)
  passed_behind (i ∷ ids) is id (passed one all) over = passed one (passed_behind ids is id all over)

  taken : (ids : List ModeId) (k : ℕ) (id d : ModeId) → k < length ids → id ≡ get_or ids k d → take (k + 1) ids ≡ take k ids ++ id ∷ []
  taken ids k id d below at =
      take_more ids k d below ∙ ap (λ (j : ModeId). take k ids ++ j ∷ []) (sym at)

  pub none_asked : (ids is : List ModeId) → is ≡ [] → AreAsked P G sigs goals (take 0 ids) is
  none_asked ids is none = subst (AreAsked P G sigs goals []) (sym none) no_more

  -- one more mode
  pub asked_more : (ids is new : List ModeId) (k : ℕ) (id d : ModeId) → k < length ids → id ≡ get_or ids k d → new ≡ is ++ id ∷ [] → OverTidy P G sigs goals id → AreAsked P G sigs goals (take k ids) is → AreAsked P G sigs goals (take (k + 1) ids) new
  asked_more ids is new k id d below at e over all =
      subst (λ (js : List ModeId). AreAsked P G sigs goals js new) (sym (taken ids k id d below at))
      (subst (AreAsked P G sigs goals (take k ids ++ id ∷ [])) (sym e) (asked_behind (take k ids) is id all over))

  pub passed_more : (ids is new : List ModeId) (k : ℕ) (id d : ModeId) → k < length ids → id ≡ get_or ids k d → new ≡ is → (OverTidy P G sigs goals id → ⊥) → AreAsked P G sigs goals (take k ids) is → AreAsked P G sigs goals (take (k + 1) ids) new
  passed_more ids is new k id d below at e over all =
      subst (λ (js : List ModeId). AreAsked P G sigs goals js new) (sym (taken ids k id d below at))
      (subst (AreAsked P G sigs goals (take k ids ++ id ∷ [])) (sym e) (passed_behind (take k ids) is id all over))

  pub all_asked : (ids is : List ModeId) (k : ℕ) → length ids ≤ k → AreAsked P G sigs goals (take k ids) is → AreAsked P G sigs goals ids is
  all_asked ids is k past all = subst (λ (js : List ModeId). AreAsked P G sigs goals js is) (take_all k ids past) all

  -- each of those that are asked is such a one, and one of the modes
  pub asked_over : (ids is : List ModeId) → AreAsked P G sigs goals ids is → All (OverTidy P G sigs goals) is
  asked_over [] [] no_more = All-nil (OverTidy P G sigs goals)
  asked_over [] (j ∷ is) these = elim these [ ]
  asked_over (i ∷ ids) (j ∷ is) (asked one all) = All-cons (OverTidy P G sigs goals) j is one (asked_over ids is all)
  asked_over (i ∷ ids) is (passed one all) = asked_over ids is all

  pub asked_among : (Q : ModeId → Type 0) (ids is : List ModeId) → AreAsked P G sigs goals ids is → All Q ids → All Q is
  asked_among Q [] [] no_more each = each
  asked_among Q [] (j ∷ is) these each = elim these [ ]
  asked_among Q (i ∷ ids) (j ∷ is) (asked one all) each = All-cons Q j is (All-head Q i ids each) (asked_among Q ids is all (All-tail Q i ids each))
  asked_among Q (i ∷ ids) is (passed one all) each = asked_among Q ids is all (All-tail Q i ids each)
