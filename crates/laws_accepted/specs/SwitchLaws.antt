-- The laws of switch forms: a disjunction and the switch that is made of the same disjuncts have
-- one event list. (Mercury Language Reference Manual: Determinism, switches.)
use Rattle.std.specs.Prelude.{◌≡◌, ℕ, ◌+◌, zero, suc, List, [], ◌∷◌, Option, Some, None, Bool}
use Rattle.mc_program.specs.Values.{Val}
use Rattle.mc_program.specs.Programs.{TypeTerm}
use Rattle.mc_program.specs.declared.builtin.Builtin.{Builtin}
use Rattle.mc_source.specs.declared.det.Det.{Det}
use Rattle.mc_model.specs.EventList.{Each}
use Rattle.mc_model.specs.Outcomes.{Outcome}
use Rattle.mc_model.specs.Scheduled.{Label, Node, node, Scheduled, Conj, Disj, Switch, Ite, Not, Exists, Assign, Test, Build, Take, Const, TestConst, Call, Apply, Nodes, no_nodes, node_then}
use Rattle.mc_model.specs.Stream.{Bindings, Calls, stream, stream_of}
use Rattle.mc_model.specs.Good.{System}
use Rattle.mc_accepted.specs.Ordered.{Insts, Opens, IsLabel}
use Rattle.mc_accepted.specs.Determined.{insts_after}
use Rattle.mc_accepted.specs.Switched.{Disjunct, openings, goals_of, Kept, label_in, chosen, labels_of, those, opens_with, grouped, formed, disjuncts, openings_of}

-- what a disjunct is said to open is what its goal opens
abbrev pub Told : List Disjunct → Type 0
Told [] = Unit {0}
Told (d ∷ ds) = (d.opens ≡ openings d.goal) × Told ds

abbrev pub IsThere : Option Val → Type 0
IsThere None = ⊥
IsThere (Some v) = Unit {0}

-- what builtins do and what calls do, the height, and the bindings
module _ (outcome : Builtin → List Val → Outcome) (C : Calls) (h : ℕ) (e : Bindings) where
  -- no disjunct's list ends by Stuck
  abbrev pub NoneStuck : List Disjunct → Type 0
  NoneStuck [] = Unit {0}
  NoneStuck (d ∷ ds) = Each (λ a. Unit {0}) (stream outcome C h d.goal e) × NoneStuck ds

module _ (S : System) (T : ℕ → TypeTerm) (b : Insts) (e : Bindings) where
  abbrev pub ArmBound : (List Disjunct → Type 0) → List Disjunct → Type 0
  ArmBound again (d ∷ []) = Unit {0}
  ArmBound again ds = again ds

  abbrev pub ArmsBound : (List Disjunct → Type 0) → ℕ → List Disjunct → List Label → Type 0
  ArmsBound again x ds [] = Unit {0}
  ArmsBound again x ds (l ∷ ls) =
      ArmBound again (those (opens_with x l) ds) × ArmsBound again x ds ls

  abbrev pub ChosenBound :
      (List ℕ → List Disjunct → Type 0) → List ℕ → List Disjunct → Option ℕ → Type 0
  ChosenBound again out ds None = Unit {0}
  ChosenBound again out ds (Some x) =
      IsThere (e x) × ArmsBound (again (x ∷ out)) x ds (labels_of x ds)

  -- the variable of the switch, and those of the switches that its arms become at any depth, are
  -- bound
  abbrev pub SwitchesBound : (variables : ℕ) → (out : List ℕ) → List Disjunct → Type 0
  SwitchesBound zero out ds = Unit {0}
  SwitchesBound (suc k) out ds = ChosenBound (SwitchesBound k) out ds (chosen S T out b ds)

-- Disjuncts have one event list as a disjunction and in switch form: for every meaning of the
-- builtins and of the calls, so for every number of levels, and for every height.
abbrev pub SwitchesKeepLists : Type 0
SwitchesKeepLists =
    (outcome : Builtin → List Val → Outcome) (C : Calls) (h : ℕ) (e : Bindings) (S : System)
    (T : ℕ → TypeTerm) (kept : Kept) (b : Insts) (k : ℕ) (out : List ℕ) (ds : List Disjunct)
    → Told ds → SwitchesBound S T b e k out ds → NoneStuck outcome C h e ds
    → stream_of outcome C h (grouped S T kept k b out ds) e
    ≡ stream_of outcome C h (Disj (goals_of ds)) e

-- The same of a disjunction of a goal, whose parts are in switch form.
abbrev pub FormsKeepLists : Type 0
FormsKeepLists =
    (outcome : Builtin → List Val → Outcome) (C : Calls) (h : ℕ) (e : Bindings) (S : System)
    (T : ℕ → TypeTerm) (kept : (before after : Insts) → Kept) (b : Insts) (ns : Nodes)
    (changes : List (ℕ × ℕ)) (d : Det) (is_pruned : Bool)
    → SwitchesBound S T b e (openings_of (disjuncts S T kept b ns)) []
    (disjuncts S T kept b ns)
    → NoneStuck outcome C h e (disjuncts S T kept b ns)
    → stream outcome C h (formed S T kept b (node (Disj ns) changes d is_pruned)) e
    ≡ stream outcome C h
    (node (Disj (goals_of (disjuncts S T kept b ns))) changes d is_pruned) e

-- In a run of a goal from bindings both conditions hold wherever a disjunction of it is reached,
-- and no list of a part on the way there ends by Stuck.
module _ (outcome : Builtin → List Val → Outcome) (C : Calls) (h : ℕ) (S : System)
    (T : ℕ → TypeTerm) (kept : (before after : Insts) → Kept) where
  abbrev mutual
    pub Fit : Insts → Node → Bindings → Type 0
    Fit b (node s changes d is_pruned) e = FitIn b s e

    pub FitIn : Insts → Scheduled → Bindings → Type 0
    FitIn b (Conj ns) e = FitAll b ns e
    FitIn b (Disj ns) e =
        SwitchesBound S T b e (openings_of (disjuncts S T kept b ns)) [] (disjuncts S T kept b ns)
        × NoneStuck outcome C h e (disjuncts S T kept b ns)
        × FitEach b ns e
    FitIn b (Switch x arms) e = Unit {0}
    FitIn b (Ite vs c t f) e =
        Fit b c e
        × Each (λ a. Fit (insts_after c b) t a) (stream outcome C h c e)
        × Fit b f e
    FitIn b (Not n) e = Fit b n e
    FitIn b (Exists vs n) e = Fit b n e
    FitIn b (Assign x y) e = Unit {0}
    FitIn b (Test x y) e = Unit {0}
    FitIn b (Build x s ys) e = Unit {0}
    FitIn b (Take x s ys) e = Unit {0}
    FitIn b (Const x v) e = Unit {0}
    FitIn b (TestConst x v) e = Unit {0}
    FitIn b (Call p xs implied last) e = Unit {0}
    FitIn b (Apply op xs ys) e = Unit {0}

    pub FitAll : Insts → Nodes → Bindings → Type 0
    FitAll b no_nodes e = Unit {0}
    FitAll b (node_then n ns) e =
        Fit b n e × Each (λ a. FitAll (insts_after n b) ns a) (stream outcome C h n e)

    pub FitEach : Insts → Nodes → Bindings → Type 0
    FitEach b no_nodes e = Unit {0}
    FitEach b (node_then n ns) e = Fit b n e × FitEach b ns e

-- Such a goal and its switch form have one event list.
abbrev pub GoalsKeepLists : Type 0
GoalsKeepLists =
    (outcome : Builtin → List Val → Outcome) (C : Calls) (h : ℕ) (e : Bindings) (S : System)
    (T : ℕ → TypeTerm) (kept : (before after : Insts) → Kept) (b : Insts) (n : Node)
    → Fit outcome C h S T kept b n e
    → stream outcome C h (formed S T kept b n) e ≡ stream outcome C h n e

-- As often as the disjuncts open variables is often enough to look at arms again: to look more
-- often changes nothing.
abbrev pub FormsAreWhole : Type 0
FormsAreWhole =
    (S : System) (T : ℕ → TypeTerm) (kept : Kept) (b : Insts) (ds : List Disjunct) (more : ℕ)
    → grouped S T kept (openings_of ds + more) b [] ds ≡ grouped S T kept (openings_of ds) b [] ds

-- What a goal is computed to open, it opens in the relation of ordered goals.
abbrev pub OpeningsOpen : Type 0
OpeningsOpen =
    (x : ℕ) (n : Node) (l : Label)
    → label_in x (openings n) ≡ Some l → Opens x l n × IsLabel l
