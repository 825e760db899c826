-- The order that is told of a mode's goal is the order of a procedure's body.
use Rattle.std.proofs.Common.{◌≡◌, inl, inr, ℕ, zero, suc, ◌<◌, Bool, true, false, cond, nat_eq, List, [], ◌∷◌, ◌++◌, length, get_or, map, Option, Some, None, refl, sym, ap, ◌∙◌, subst, arith}
use Rattle.std.proofs.Math.Path.{fun_ext}
use Rattle.std.proofs.lemmas.Bool.{eqb-true}
use Rattle.std.proofs.lemmas.List.{length-map}
use Rattle.mc_source.specs.declared.det.Det.{Det}
use Rattle.mc_program.specs.Programs.{TypeTerm, Source, variable_type}
use Rattle.mc_program.specs.PlainPrograms.{plain_type}
use Rattle.mc_program.specs.declared.ty.Ty.{Ty}
use Rattle.mc_model.specs.Flat.{Flat_goal, variables_of}
use Rattle.mc_model.specs.Lists.{In, from}
use Rattle.mc_model.specs.Good.{System}
use Rattle.mc_model.specs.PlainGoals.{plain_flat, plain_node, plain_proc}
use Rattle.mc_model.specs.Scheduled.{Node, node, Scheduled, Conj, Disj, Switch, Ite, Not, Exists, Assign, Test, Build, Take, Const, TestConst, Call, Apply, Nodes, no_nodes, node_then, Arms, no_arms, arm_then, Procedure}
use Rattle.mc_model.specs.declared.flat.Normal.{Normal}
use Rattle.mc_model.specs.declared.inst.ModeDecl.{ModeDecl}
use Rattle.mc_model.specs.declared.inst.Sig.{Sig}
use Rattle.mc_model.specs.declared.sched.Proc.{Proc}
use Rattle.mc_accepted.specs.Accepted.{entered}
use Rattle.mc_accepted.specs.Arranged.{Arranged, runs, breaks, in_order, unless_unmet, alone, trial, first_unmet, judged, entry, arrange, changes, changes_from, with_change}
use Rattle.mc_accepted.specs.NodeOracle.{NodeOracle, of_nodes, other_node}
use Rattle.mc_accepted.specs.Fits.{FitsInsts, FitsProcedure, goal_of, type_of}
use Rattle.mc_accepted.specs.FreshTests.{TestsAlike, AlikeIn, AllAlike, ArmsAlike}
use Rattle.mc_accepted.specs.Ordered.{Insts, variables_of_node, variables_of_scheduled, variables_of_nodes, variables_of_arms}
use Rattle.mc_accepted.specs.ProperTypes.{Parameters}
use Rattle.mc_accepted.specs.Tidy.{Tidy}
use Rattle.mc_accepted.specs.Unmarked.{changed_node}
use Rattle.mc_accepted.specs.code.Truthful.{AllDeclared}
use Rattle.mc_accepted.specs.code.Standing.{Standing}
use Rattle.mc_accepted.specs.NormalGoals.{IsNormalGoal}
use Rattle.mc_procs.specs.Named.{NumbersBelow}
use Rattle.mc_procs.specs.Procedures.{PlainProcs, source_of, insts_of}
use Rattle.mc_mode_state.specs.Nodes.{type_in}
use Rattle.mc_modes.specs.Schedules.{NormalFits}
use Rattle.mc_modes.specs.Signatures.{declared_in}
use Rattle.laws_order.specs.NormalScopes.{EachNamedApart}
use Rattle.laws_order.specs.OrderLaws.{Below, FlatScopes}
use Rattle.laws_order.specs.Tidying.{EndsTidily, TidyPoint, TidyEnd, EachChangeTidy, ChangesTidy, AllChangeTidy}
use Rattle.laws_order.proofs.ArrangedGoals.{arranged-stands}
use Rattle.laws_order.proofs.Arranging.{below-left, below-right}
use Rattle.laws_order.proofs.EndsMet.{in-order-is-ordered}
use Rattle.laws_order.proofs.NormalScopes.{normal_goals_scoped}
use Rattle.laws_order.proofs.Tidying.{orders-stay-tidy, entries-are-tidy}
use Rattle.laws_accepted.specs.AcceptedLaws.{IsInOrder, BodyIsOrdered}
use Rattle.laws_procedures.proofs.LastGraph.{OrderIsTold}

-- ---- types of variables that are there
-- what stands past the end makes no difference before it
default_free : {A : Type 0} (xs : List A) (k : ℕ) (d e : A) → k < length xs → get_or xs k d ≡ get_or xs k e
default_free [] k d e lt = absurd (omega (arith, lt))
default_free (x ∷ xs) zero d e lt = refl
default_free (x ∷ xs) (suc k) d e lt = default_free xs k d e (omega (arith, lt))

pub same_types : (ts : List Ty) (x : ℕ) → x < length ts → get_or (map plain_type ts) x (variable_type x) ≡ type_in ts x
same_types ts x lt = default_free (map plain_type ts) x (variable_type x) (variable_type 0) (omega (arith, lt, length-map ts plain_type))

-- tests that compare values of one type do so where the variables that are there have the same types
module _ (T U : ℕ → TypeTerm) (n top : ℕ) (same : (v : ℕ) → v < top → U v ≡ T v) where
  mutual
    pub alike_moves : (x : Node) → Below top (variables_of_node x) → TestsAlike T n x → TestsAlike U n x
    alike_moves (node s changes d m) below h = moves_in s below h

    moves_in : (s : Scheduled) → Below top (variables_of_scheduled s) → AlikeIn T n s → AlikeIn U n s
    moves_in (Conj ns) below h = moves_all ns below h
    moves_in (Disj ns) below h = moves_all ns below h
    moves_in (Switch v arms) below h = moves_arms arms (λ y i. below y (inr i)) h
    moves_in (Ite vs c t e) below h =
        let inner = below-right top vs (variables_of_node c ++ (variables_of_node t ++ variables_of_node e)) below in
        let later = below-right top (variables_of_node c) (variables_of_node t ++ variables_of_node e) inner in (
          alike_moves c (below-left top (variables_of_node c) (variables_of_node t ++ variables_of_node e) inner) h.0,
          alike_moves t (below-left top (variables_of_node t) (variables_of_node e) later) h.1,
          alike_moves e (below-right top (variables_of_node t) (variables_of_node e) later) h.2,
        )
    moves_in (Not x) below h = alike_moves x below h
    moves_in (Exists vs x) below h = alike_moves x (below-right top vs (variables_of_node x) below) h
    moves_in (Test v w) below h = λ le. same v (below v (inl refl)) ∙ (h le ∙ sym (same w (below w (inr (inl refl)))))
    moves_in (Assign v w) below h = tt
    moves_in (Build v s ys) below h = tt
    moves_in (Take v s ys) below h = tt
    moves_in (Const v c) below h = tt
    moves_in (TestConst v c) below h = tt
    moves_in (Call p xs implied last) below h = tt
    moves_in (Apply op xs ys) below h = tt

    moves_all : (ns : Nodes) → Below top (variables_of_nodes ns) → AllAlike T n ns → AllAlike U n ns
    moves_all no_nodes below h = tt
    moves_all (node_then x ns) below h = (
      alike_moves x (below-left top (variables_of_node x) (variables_of_nodes ns) below) h.0,
      moves_all ns (below-right top (variables_of_node x) (variables_of_nodes ns) below) h.1,
    )

    moves_arms : (arms : Arms) → Below top (variables_of_arms arms) → ArmsAlike T n arms → ArmsAlike U n arms
    moves_arms no_arms below h = tt
    moves_arms (arm_then l x arms) below h = (
      alike_moves x (below-left top (variables_of_node x) (variables_of_arms arms) below) h.0,
      moves_arms arms (below-right top (variables_of_node x) (variables_of_arms arms) below) h.1,
    )

-- ---- what is asked of the order of a body
pub numbers_are_below : (top : ℕ) (xs : List ℕ) → NumbersBelow top xs → Below top xs
numbers_are_below top [] h y i = absurd i
numbers_are_below top (x ∷ xs) h y (inl e) = subst (λ (k : ℕ). k < top) (sym e) h.0
numbers_are_below top (x ∷ xs) h y (inr i) = numbers_are_below top xs h.1 y i

-- whether a procedure fits doesn't depend on its body
pub fits_without_body : (S : System) (E : Parameters) (p q : Procedure) → (n : Node) (d : Det) → q ≡ record p { body = n; det = d } → FitsProcedure S E q → FitsProcedure S E p
fits_without_body S E p q n d e f = at (subst (FitsProcedure S E) e f)
  where
    at : FitsProcedure S E (record p { body = n; det = d }) → FitsProcedure S E p
    at g =
        record {
          heads = g.heads;
          scopes = g.scopes;
          types = g.types;
          head_types = g.head_types;
          typed = g.typed;
          tidy = g.tidy;
          no_builtin = g.no_builtin;
        }

-- What is told of a mode's goal over the last graph is the order of a procedure in a system over that
-- graph, where the procedure fits, its goal is its predicate's one goal, whose quantifiers are named
-- apart, and the variables of the order are there.
module _ (S : System) (E : Parameters) (sigs : List Sig) (g : Normal) (m : ModeDecl) (q last : PlainProcs) (p : Proc)
    (told : OrderIsTold sigs g m last p) (same_source : S.world.source ≡ source_of last) (same_insts : S.insts ≡ insts_of last)
    (insts : FitsInsts S.insts) (fits : FitsProcedure S E (plain_proc p)) (ends : EndsTidily S)
    (declared : (r : ℕ) → (S.world.source.preds r).builtin ≡ None → AllDeclared S (type_of S (plain_proc p)) r (declared_in sigs r))
    (normal : IsNormalGoal S.world.source p.pred g) (normal_fits : NormalFits q m g)
    (apart : EachNamedApart (S.world.source.preds p.pred).clauses)
    (below : Below (length p.var_types) (variables_of_node (plain_node p.body))) where
  abbrev T : ℕ → TypeTerm
  T = type_of S (plain_proc p)

  abbrev own : ℕ
  own = length g.var_types

  abbrev goal : Flat_goal
  goal = (goal_of S (plain_proc p)).body

  same_head : p.head ≡ from 0 (length (S.world.source.preds p.pred).types)
  same_head = told.head ∙ normal.head

  same_order : arrange (of_nodes told.choice) S.world.source (declared_in sigs) T own p.head p.first p.last goal ≡ in_order (plain_node p.body)
  same_order =
      subst (λ (P : Source). arrange (of_nodes told.choice) P (declared_in sigs) T own p.head p.first p.last goal ≡ in_order (plain_node p.body)) (sym same_source)
      (subst (λ (xs : List ℕ). arrange (of_nodes told.choice) (source_of last) (declared_in sigs) T own xs p.first p.last goal ≡ in_order (plain_node p.body)) (sym told.head)
      (subst (λ (is : List ℕ). arrange (of_nodes told.choice) (source_of last) (declared_in sigs) T own g.head is p.last goal ≡ in_order (plain_node p.body)) (sym told.first)
      (subst (λ (is : List ℕ). arrange (of_nodes told.choice) (source_of last) (declared_in sigs) T own g.head m.first is goal ≡ in_order (plain_node p.body)) (sym told.last)
      (subst (λ (f : Flat_goal). arrange (of_nodes told.choice) (source_of last) (declared_in sigs) T own g.head m.first m.last f ≡ in_order (plain_node p.body)) normal.body
      (told.order T (same_types p.var_types))))))

  pub body_in_order : IsInOrder S (plain_proc p) (plain_node p.body)
  body_in_order =
      record {
        choice = told.choice;
        modes = declared_in sigs;
        next = own;
        truthful = told.truthful S same_source same_insts T;
        declared = declared;
        ends = ends;
        typed = fits.typed;
        enters = entries-are-tidy S E (plain_proc p) insts fits;
        head_below = subst (Below own) (sym told.head) (numbers_are_below own g.head normal_fits.head);
        goal_below = subst (λ (f : Flat_goal). Below own (variables_of f)) normal.body (numbers_are_below own (variables_of (plain_flat g.body)) normal_fits.variables);
        scopes = subst (λ (xs : List ℕ). FlatScopes xs goal) (sym same_head) (normal_goals_scoped (length (S.world.source.preds p.pred).types) (S.world.source.preds p.pred).clauses fits.heads apart);
        order = same_order;
        alike = alike_moves (type_in p.var_types) T own (length p.var_types) (same_types p.var_types) (plain_node p.body) below told.alike;
      }

  -- its own variables are those of the goal
  pub next_is_own : body_in_order.next ≡ own
  unfolding body_in_order
  next_is_own = refl

-- ---- what follows of a procedure whose goal is in order
-- the goal of some order in the relation is the procedure's body
pub bodies_are_ordered : (S : System) (p : Procedure) (x : Node) → IsInOrder S p x → length p.last ≡ length p.head → (n : Node) × (changed_node n ≡ x) × ((o : Option Insts) × BodyIsOrdered S p n o)
bodies_are_ordered S p x h as_long =
    let r = in-order-is-ordered S p h.choice h.modes h.truthful h.declared h.ends h.next (goal_of S p).body x as_long h.head_below h.goal_below h.scopes h.typed h.enters h.order h.alike in
    (r.1.0, r.1.1, (r.0, (r.1.2, r.2)))

-- what isn't in the head is free at a call
pub entered_off : (xs is : List ℕ) (x : ℕ) → (In x xs → ⊥) → entered xs is x ≡ 0
entered_off [] is x n = refl
entered_off (y ∷ ys) [] x n = refl
entered_off (y ∷ ys) (i ∷ is) x n = at (nat_eq x y) (eqb-true x y) (entered_off ys is x (λ h. n (inr h)))
  where
    at : (t : Bool) → (t ≡ true → x ≡ y) → entered ys is x ≡ 0 → cond t i (entered ys is x) ≡ 0
    at true e later = absurd (n (inl (e refl)))
    at false e later = later

-- The order stands over the insts at the call, and each inst to which a goal of it changes one is
-- tidy.
pub record StandsTidily (S : System) (p : Procedure) (next : ℕ) (x : Node) : Type 0 where
  pub after : Option Insts
  pub count : ℕ
  pub order : Standing S (type_of S p) p.head next (entered p.head p.first) (goal_of S p).body x after count
  pub changes : ChangesTidy S (type_of S p) x

module _ (S : System) (T : ℕ → TypeTerm) where
  one_tidy : (x i j : ℕ) (rest : List (ℕ × ℕ)) → Tidy S.world.source S.insts j (T x) → EachChangeTidy S T rest → EachChangeTidy S T (with_change x (other_node i j) rest)
  one_tidy x i j rest h later = at (nat_eq i j)
    where
      at : (t : Bool) → EachChangeTidy S T (with_change x (cond t None (Some j)) rest)
      at true = later
      at false = (h, later)

  from_tidy : (k x : ℕ) (b c : Insts) → TidyPoint S T c → EachChangeTidy S T (changes_from other_node x k b c)
  from_tidy zero x b c h = tt
  from_tidy (suc k) x b c h = one_tidy x (b x) (c x) (changes_from other_node (suc x) k b c) (h x) (from_tidy k (suc x) b c h)

  end_tidy : (k : ℕ) (b : Insts) (o : Option Insts) → TidyEnd S T o → EachChangeTidy S T (changes other_node k b o)
  end_tidy k b None h = tt
  end_tidy k b (Some c) h = from_tidy k 0 b c h

  module _ (C : NodeOracle) where
    alone_tidy : (k : ℕ) (b : Insts) (o : Option Insts) (gs : Nodes) → AllChangeTidy S T gs → TidyEnd S T o → ChangesTidy S T (alone (of_nodes C) k b o gs)
    alone_tidy k b o no_nodes a h = (end_tidy k b o h, tt)
    alone_tidy k b o (node_then x no_nodes) a h = a.0
    alone_tidy k b o (node_then x (node_then y gs)) a h = (end_tidy k b o h, a)

    alone_alike : (first k : ℕ) (b : Insts) (o : Option Insts) (gs : Nodes) → TestsAlike T first (alone (of_nodes C) k b o gs) → AllAlike T first gs
    alone_alike first k b o no_nodes h = tt
    alone_alike first k b o (node_then x no_nodes) h = (h, tt)
    alone_alike first k b o (node_then x (node_then y gs)) h = h

module _ (S : System) (p : Procedure) (x : Node) (h : IsInOrder S p x) where
  abbrev typing : ℕ → TypeTerm
  typing = type_of S p

  abbrev P : Source
  P = S.world.source

  abbrev its_goal : Flat_goal
  its_goal = (goal_of S p).body

  abbrev here : Insts
  here = entered p.head p.first

  entry_at : (xs is : List ℕ) (y : ℕ) → entry (of_nodes h.choice) P h.modes typing xs is y ≡ entered xs is y
  entry_at [] is y = refl
  entry_at (z ∷ zs) [] y = refl
  entry_at (z ∷ zs) (i ∷ is) y = ap (λ k. cond (nat_eq y z) i k) (entry_at zs is y)

  judged_here : judged (of_nodes h.choice) P h.modes typing p.head p.last here (trial (of_nodes h.choice) P h.modes typing its_goal p.head h.next here) ≡ in_order x
  judged_here =
      subst (λ (b : Insts). judged (of_nodes h.choice) P h.modes typing p.head p.last b (trial (of_nodes h.choice) P h.modes typing its_goal p.head h.next b) ≡ in_order x)
      (fun_ext (entry_at p.head p.first)) h.order

  taken : (gs : Nodes) (o : Option Insts) (k : ℕ) (zs : List ℕ) → trial (of_nodes h.choice) P h.modes typing its_goal p.head h.next here ≡ runs gs o k zs → alone (of_nodes h.choice) k here o gs ≡ x → StandsTidily S p h.next x
  taken gs o k zs e is =
      let alike : AllAlike typing h.next gs = alone_alike S typing h.choice h.next k here o gs (subst (TestsAlike typing h.next) (sym is) h.alike) in
      let tidy = orders-stay-tidy S typing h.choice h.modes h.truthful h.declared h.ends its_goal p.head h.next here gs o k zs h.typed h.enters e alike in
      record {
        after = o;
        count = k;
        order =
            subst (λ (y : Node). Standing S typing p.head h.next here its_goal y o k) is
            (arranged-stands S typing h.choice h.modes h.truthful h.declared h.ends its_goal p.head h.next here gs o k zs h.typed h.enters e alike);
        changes = subst (ChangesTidy S typing) is (alone_tidy S typing h.choice k here o gs tidy.0 tidy.1);
      }

  found : (r : Arranged ℕ) → trial (of_nodes h.choice) P h.modes typing its_goal p.head h.next here ≡ r → judged (of_nodes h.choice) P h.modes typing p.head p.last here r ≡ in_order x → StandsTidily S p h.next x
  found (breaks f) e j = cc
  found (runs gs None k zs) e j = taken gs None k zs e (let q : in_order (alone (of_nodes h.choice) k here None gs) ≡ in_order x = j in cc)
  found (runs gs (Some c) k zs) e j = at (first_unmet (of_nodes h.choice) P h.modes typing 0 p.head p.last c) j
    where
      at : (r : Option ℕ) → unless_unmet (alone (of_nodes h.choice) k here (Some c) gs) r ≡ in_order x → StandsTidily S p h.next x
      at None j = taken gs (Some c) k zs e (let q : in_order (alone (of_nodes h.choice) k here (Some c) gs) ≡ in_order x = j in cc)
      at (Some v) j = cc

  pub orders_stand_tidily : StandsTidily S p h.next x
  orders_stand_tidily = found (trial (of_nodes h.choice) P h.modes typing its_goal p.head h.next here) refl judged_here
