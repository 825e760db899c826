-- What ordered goals mention is declared.
use Rattle.std.proofs.Common.{◌≡◌, ℕ, ◌&&◌, List, [], ◌∷◌, map, Option, Some, None, Bool, true, false, cond, nat_eq, refl, sym, subst, ⊎_elim}
use Rattle.std.proofs.lemmas.Option.{none-some}
use Rattle.mc_program.specs.Values.{Val, int, char, str, con, state}
use Rattle.mc_program.specs.Programs.{TypeTerm, int_type, char_type, string_type, state_type, variable_type, union_type, Source}
use Rattle.mc_model.specs.Lists.{is_in}
use Rattle.mc_model.specs.Types.{type_at, instance_of}
use Rattle.mc_model.specs.Flat as F
use Rattle.mc_model.specs.Flat.{Flat_goal, Flat_goals, no_flat, flat_then}
use Rattle.mc_model.specs.Scheduled.{Node, node, Scheduled, Conj, Disj, Switch, Ite, Not, Exists, Assign, Test, Build, Take, Const, TestConst, Call, Apply, Nodes, no_nodes, node_then, Arms}
use Rattle.mc_model.specs.Good.{System}
use Rattle.mc_accepted.specs.Typing.{constructor_types, ConstantOf, TypedGoal, TypedGoals}
use Rattle.mc_accepted.specs.Ordered.{Insts, IsEmpty, tested_by, Picks, here, there, Parts, no_part, to_part, to_rest, arm_goal, Ordered, OrderedNode, OrderedAll, OrderedAny, OrderedArms, assign, assign_back, test, build, take, take_never, put, test_constant, test_never, call, apply, implied_alone, conj, disj, switch, ite, ite_never, neg, some, kept, done, dropped, next, implied_outputs, no_other, either, no_arm, arm}
use Rattle.mc_flat_code.specs.Mentions.{Mention, of_symbol, of_constant, Mentions, MentionsIn, AnyMentions, ArmsMention}
use Rattle.laws_truth.specs.Mentioned.{IsScalarValue, IsDeclared, OrderedMentionDeclared, BodiesMentionDeclared}

-- a constructor of a typed equation is listed by a type
listed : (P : Source) (s : ℕ) (t : TypeTerm) (ts : List TypeTerm) → constructor_types P s t ≡ Some ts → (u : ℕ) × (is_in s (P.symbols_of u) ≡ true)
listed P s int_type ts e = absurd (none-some ts e)
listed P s char_type ts e = absurd (none-some ts e)
listed P s string_type ts e = absurd (none-some ts e)
listed P s state_type ts e = absurd (none-some ts e)
listed P s (variable_type v) ts e = absurd (none-some ts e)
listed P s (union_type u us) ts e = (u, by_tests (nat_eq (P.symbols s).of_type u) (is_in s (P.symbols_of u)) e)
  where
    by_tests : (a b : Bool) → cond (a && b) (Some (map (instance_of (type_at us)) (P.symbols s).args)) None ≡ Some ts → b ≡ true
    by_tests true true e = refl
    by_tests true false e = absurd (none-some ts e)
    by_tests false b e = absurd (none-some ts e)

scalar_value : (v : Val) (t : TypeTerm) → ConstantOf v t → IsScalarValue v
scalar_value (int n) t h = tt
scalar_value (char c) t h = tt
scalar_value (str bytes) t h = tt
scalar_value (con s vs) t h = h
scalar_value (state written taken) t h = h

-- tests mention nothing
tests_mention : (tests : List (ℕ × ℕ)) (ns : Nodes) (m : Mention) → AnyMentions (tested_by tests ns) m → AnyMentions ns m
tests_mention [] ns m h = h
tests_mention (pair ∷ tests) ns m h = ⊎_elim (λ a. absurd a) (λ a. tests_mention tests ns m a) h

empty_mentions : (n : Node) (m : Mention) → IsEmpty n → Mentions n m → ⊥
empty_mentions (node (Conj no_nodes) changes det pruned) m e h = h
empty_mentions (node (Conj (node_then n ns)) changes det pruned) m e h = e
empty_mentions (node (Disj ns) changes det pruned) m e h = e
empty_mentions (node (Switch x arms) changes det pruned) m e h = e
empty_mentions (node (Ite vs c t k) changes det pruned) m e h = e
empty_mentions (node (Not n) changes det pruned) m e h = e
empty_mentions (node (Exists vs n) changes det pruned) m e h = e
empty_mentions (node (Assign x y) changes det pruned) m e h = e
empty_mentions (node (Test x y) changes det pruned) m e h = e
empty_mentions (node (Build x s ys) changes det pruned) m e h = e
empty_mentions (node (Take x s ys) changes det pruned) m e h = e
empty_mentions (node (Const x v) changes det pruned) m e h = e
empty_mentions (node (TestConst x v) changes det pruned) m e h = e
empty_mentions (node (Call p xs implied last) changes det pruned) m e h = e
empty_mentions (node (Apply op xs ys) changes det pruned) m e h = e

module _ (S : System) (T : ℕ → TypeTerm) (m : Mention) where
  abbrev P : Source
  P = S.world.source

  -- goals of which some are taken out are typed
  picked_typed : (gs : Flat_goals) (g : Flat_goal) (rest : Flat_goals) → Picks gs g rest → TypedGoals P T gs → TypedGoal P T g × TypedGoals P T rest
  picked_typed gs g rest here t = (t.0, t.1)
  picked_typed gs g rest (there p) t = let r = picked_typed _ _ _ p t.1 in (r.0, (t.0, r.1))

  parted_typed : (gs hs ks : Flat_goals) → Parts gs hs ks → TypedGoals P T gs → TypedGoals P T hs × TypedGoals P T ks
  parted_typed gs hs ks no_part t = (tt, tt)
  parted_typed gs hs ks (to_part p) t = let r = parted_typed _ _ _ p t.1 in ((t.0, r.0), r.1)
  parted_typed gs hs ks (to_rest p) t = let r = parted_typed _ _ _ p t.1 in (r.0, (t.0, r.1))

  arm_typed : (hs : Flat_goals) → TypedGoals P T hs → TypedGoal P T (arm_goal hs)
  arm_typed no_flat t = tt
  arm_typed (flat_then g no_flat) t = t.0
  arm_typed (flat_then g (flat_then h hs)) t = t

  symbol_declared : (x s : ℕ) (ys : List ℕ) → TypedGoal P T (F.Made x s ys) → m ≡ of_symbol s → IsDeclared P m
  symbol_declared x s ys t h = subst (IsDeclared P) (sym h) (listed P s (T x) (map T ys) t)

  constant_declared : (x : ℕ) (v : Val) → TypedGoal P T (F.Is x v) → m ≡ of_constant v → IsDeclared P m
  constant_declared x v t h = subst (IsDeclared P) (sym h) (t.0, scalar_value v (T x) t.1)

  mutual
    inside : (O Q : List ℕ) (b : Insts) (g : Flat_goal) (s : Scheduled) (o : Option Insts) → Ordered S T O Q b g s o → TypedGoal P T g → MentionsIn s m → IsDeclared P m
    inside O Q b g s o (assign bx by nd) t h = absurd h
    inside O Q b g s o (assign_back bx by nd) t h = absurd h
    inside O Q b g s o (test bx by st nd) t h = absurd h
    inside O Q b g s o (build {x = x} {s = f} {ys = ys} bx bys ns nd over) t h = symbol_declared x f ys t h
    inside O Q b g s o (take {x = x} {s = f} {ys = ys} bx nd a over) t h = symbol_declared x f ys t h
    inside O Q b g s o (take_never {x = x} {s = f} {ys = ys} bx nd never) t h = symbol_declared x f ys t h
    inside O Q b g s o (put {x = x} {v = v} bx) t h = constant_declared x v t h
    inside O Q b g s o (test_constant {x = x} {v = v} bx nd a) t h = constant_declared x v t h
    inside O Q b g s o (test_never {x = x} {v = v} bx nd never) t h = constant_declared x v t h
    inside O Q b g s o (call lt us nd af) t h = absurd h
    inside O Q b g s o (apply {p = p} e us nd i af) t h = subst (IsDeclared P) (sym h) (p, e)
    inside O Q b g s o (implied_alone r) t h = all_inside _ _ _ _ _ _ r (t, tt) h
    inside O Q b g s o (conj r) t h = all_inside _ _ _ _ _ _ r t h
    inside O Q b g s o (disj r j) t h = any_inside _ _ _ _ _ _ r t h
    inside O Q b g s o (switch bx i r j) t h = arms_inside _ _ _ _ _ _ _ r t h
    inside O Q b g s o (ite out c none th e j) t h = ⊎_elim (λ a. node_inside _ _ _ _ _ _ c t.0 a) (λ k. ⊎_elim (λ a. node_inside _ _ _ _ _ _ th t.1 a) (λ a. node_inside _ _ _ _ _ _ e t.2 a) k) h
    inside O Q b g s o (ite_never {t = th} out c empty e j) t h = ⊎_elim (λ a. node_inside _ _ _ _ _ _ c t.0 a) (λ k. ⊎_elim (λ a. absurd (empty_mentions th m empty a)) (λ a. node_inside _ _ _ _ _ _ e t.2 a) k) h
    inside O Q b g s o (neg n none) t h = node_inside _ _ _ _ _ _ n t h
    inside O Q b g s o (some out n) t h = node_inside _ _ _ _ _ _ n t h

    node_inside : (O Q : List ℕ) (b : Insts) (g : Flat_goal) (n : Node) (o : Option Insts) → OrderedNode S T O Q b g n o → TypedGoal P T g → Mentions n m → IsDeclared P m
    node_inside O Q b g n o (kept r k) t h = inside _ _ _ _ _ _ r t h

    all_inside : (O Q : List ℕ) (b : Insts) (gs : Flat_goals) (ns : Nodes) (o : Option Insts) → OrderedAll S T O Q b gs ns o → TypedGoals P T gs → AnyMentions ns m → IsDeclared P m
    all_inside O Q b gs ns o done t h = absurd h
    all_inside O Q b gs ns o (dropped p n) t h = ⊎_elim (λ a. node_inside _ _ _ _ _ _ n (picked_typed _ _ _ p t).0 a) (λ a. absurd a) h
    all_inside O Q b gs ns o (next p n r) t h = let z = picked_typed _ _ _ p t in ⊎_elim (λ a. node_inside _ _ _ _ _ _ n z.0 a) (λ a. all_inside _ _ _ _ _ _ r z.1 a) h
    all_inside O Q b gs ns o (implied_outputs {p = q} {ns = rest} tests p e mo f nd d a y u i af kc r) t h =
        ⊎_elim (λ j. subst (IsDeclared P) (sym j) (q, e)) (λ j. all_inside _ _ _ _ _ _ r (picked_typed _ _ _ p t).1 (tests_mention tests rest m j)) h

    any_inside : (O Q : List ℕ) (b : Insts) (gs : Flat_goals) (ns : Nodes) (os : List (Option Insts)) → OrderedAny S T O Q b gs ns os → TypedGoals P T gs → AnyMentions ns m → IsDeclared P m
    any_inside O Q b gs ns os no_other t h = absurd h
    any_inside O Q b gs ns os (either n r) t h = ⊎_elim (λ a. node_inside _ _ _ _ _ _ n t.0 a) (λ a. any_inside _ _ _ _ _ _ r t.1 a) h

    arms_inside : (O Q : List ℕ) (b : Insts) (x : ℕ) (gs : Flat_goals) (arms : Arms) (os : List (Option Insts)) → OrderedArms S T O Q b x gs arms os → TypedGoals P T gs → ArmsMention arms m → IsDeclared P m
    arms_inside O Q b x gs arms os no_arm t h = absurd h
    arms_inside O Q b x gs arms os (arm {hs = hs} parts label opens away n r) t h =
        let z = parted_typed _ _ _ parts t in
        ⊎_elim (λ a. node_inside _ _ _ _ _ _ n (arm_typed hs z.0) a) (λ a. arms_inside _ _ _ _ _ _ _ r z.1 a) h

pub ordered_mention_declared : OrderedMentionDeclared
ordered_mention_declared S T O Q b g n o m r t h = node_inside S T m O Q b g n o r t h

pub bodies_mention_declared : BodiesMentionDeclared
bodies_mention_declared S D p m f a h = node_inside S _ m _ _ _ _ _ _ a.ordered f.typed h
