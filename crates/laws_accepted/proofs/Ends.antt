-- Whether the point after an ordered goal is reachable is told by the goal.
use Rattle.std.proofs.Common.{◌≡◌, inl, inr, ℕ, List, [], ◌∷◌, Bool, true, false, not, nat_eq, ◌||◌, ◌&&◌, Option, Some, None, refl, sym, ap, ap₂, ◌∙◌, subst}
use Rattle.std.proofs.Math.Path.{fun_ext}
use Rattle.std.specs.Cmp.Lexicographic.{pointwise, bytes_decides}
use Rattle.std.proofs.lemmas.Bool.{eqb-true, and_parts}
use Rattle.mc_program.specs.Programs.{TypeTerm, Source}
use Rattle.mc_source.specs.Determinism.{is_zero}
use Rattle.mc_source.specs.declared.det.Most.{Most}
use Rattle.mc_source.specs.declared.det.Most.TheVariants.{Zero, One, Many}
use Rattle.mc_model.specs.Insts.{Listed, InstNode, free, ground, unique, dead, bound, Lists, AllowsSymbol, AllowsConstants}
use Rattle.mc_model.specs.Flat.{Flat_goal, Flat_goals}
use Rattle.mc_model.specs.Scheduled.{Node, Scheduled, Nodes, no_nodes, Arms}
use Rattle.mc_model.specs.Good.{System}
use Rattle.mc_accepted.specs.Ordered as R
use Rattle.mc_accepted.specs.Ordered.{Insts, reachable, unless_never, builtin_most, tested_by, Joined, Ordered, OrderedNode, OrderedAll, OrderedAny, OrderedArms, kept}
use Rattle.mc_accepted.specs.Determined.{insts_after, lists_name, allows_name}
use Rattle.mc_accepted.specs.MergedArms.{takes_constants, never_ends, never_ends_in, one_never_ends, each_never_ends, each_arm_never_ends}
use Rattle.mc_program.specs.declared.builtin.Builtin.{Builtin}
use Rattle.laws_sound.proofs.Takes.{allows_named}

abbrev pub is_none : Option Insts → Bool
is_none None = true
is_none (Some c) = false

abbrev pub all_none : List (Option Insts) → Bool
all_none [] = true
all_none (o ∷ os) = is_none o && all_none os

-- ---- what a deconstruction and a test of a constant ask
name_lists : (P : Source) (ls : List Listed) (s : ℕ) → lists_name ls (P.symbols s).name ≡ true → Lists P ls s (λ js. Unit {0})
name_lists P [] s e = cc
name_lists P (l ∷ ls) s e = by_test (pointwise nat_eq l.name (P.symbols s).name.bytes && nat_eq l.arity (P.symbols s).name.arity) refl e (name_lists P ls s)
  where
    by_test : (t : Bool) → (pointwise nat_eq l.name (P.symbols s).name.bytes && nat_eq l.arity (P.symbols s).name.arity) ≡ t → (t || lists_name ls (P.symbols s).name) ≡ true → (lists_name ls (P.symbols s).name ≡ true → Lists P ls s (λ js. Unit {0})) → Lists P (l ∷ ls) s (λ js. Unit {0})
    by_test true q e later =
        let h = and_parts (pointwise nat_eq l.name (P.symbols s).name.bytes) (nat_eq l.arity (P.symbols s).name.arity) q in
        inl ((bytes_decides l.name (P.symbols s).name.bytes).0 h.0, eqb-true l.arity (P.symbols s).name.arity h.1, tt)
    by_test false q e later = inr (later e)

pub name_allows : (P : Source) (N : InstNode) (i s : ℕ) → allows_name N (P.symbols s).name ≡ true → AllowsSymbol P N i s (λ js. Unit {0})
name_allows P free i s e = cc
name_allows P ground i s e = tt
name_allows P unique i s e = tt
name_allows P dead i s e = tt
name_allows P (bound ls) i s e = name_lists P ls s e

pub excluded : (t : Bool) → (t ≡ true → ⊥) → not t ≡ true
excluded true f = absurd (f refl)
excluded false f = refl

pub constants_taken : (N : InstNode) → AllowsConstants N → not (takes_constants N) ≡ false
constants_taken free h = absurd h
constants_taken ground h = refl
constants_taken unique h = refl
constants_taken dead h = refl
constants_taken (bound ls) h = absurd h

pub constants_left : (N : InstNode) → (AllowsConstants N → ⊥) → not (takes_constants N) ≡ true
constants_left free h = refl
constants_left ground h = absurd (h tt)
constants_left unique h = absurd (h tt)
constants_left dead h = absurd (h tt)
constants_left (bound ls) h = refl

pub never_answers : (m : Most) (c : Insts) → is_zero m ≡ is_none (unless_never m c)
never_answers Zero c = refl
never_answers One c = refl
never_answers Many c = refl

module _ (S : System) (T : ℕ → TypeTerm) where
  joined_none : (O : List ℕ) (b : Insts) (os : List (Option Insts)) (o : Option Insts) → Joined S T O b (reachable os) o → all_none os ≡ is_none o
  joined_none O b [] o j = sym (ap is_none j)
  joined_none O b (None ∷ os) o j = joined_none O b os o j
  joined_none O b (Some c ∷ os) None j = absurd j
  joined_none O b (Some c ∷ os) (Some e) j = refl

  tests_end : (ts : List (ℕ × ℕ)) (b : Insts) (ns : Nodes) → one_never_ends S T b (tested_by ts ns) ≡ one_never_ends S T b ns
  tests_end [] b ns = refl
  tests_end (t ∷ ts) b ns = tests_end ts b ns

  one_answer : (op : Builtin) → builtin_most op ≡ One → is_zero (builtin_most op) ≡ false
  one_answer op e = ap is_zero e

  pub last_none : (t : Bool) → (t && true) ≡ t
  last_none true = refl
  last_none false = refl

  -- the end of a goal that is reachable is what its kept changes say
  pub after_kept : {O Q : List ℕ} {b c : Insts} {g : Flat_goal} {n : Node} → OrderedNode S T O Q b g n (Some c) → c ≡ insts_after n b
  after_kept (kept r k) = fun_ext k.0

  mutual
    pub ends_in : {O Q : List ℕ} {b : Insts} {g : Flat_goal} {s : Scheduled} {o : Option Insts} → Ordered S T O Q b g s o → never_ends_in S T b s ≡ is_none o
    ends_in (R.assign bx by nd) = refl
    ends_in (R.assign_back bx by nd) = refl
    ends_in (R.test bx by st nd) = refl
    ends_in (R.build bx ab ns nd over) = refl
    ends_in (R.take {b = b} {x = x} {s = s} {is = is} bx nd a over) = ap not (allows_named S.world.source (S.insts (b x)) (b x) s (λ js. js ≡ is) a)
    ends_in (R.take_never {b = b} {x = x} {s = s} bx nd never) =
        excluded (allows_name (S.insts (b x)) (S.world.source.symbols s).name) (λ e. never (name_allows S.world.source (S.insts (b x)) (b x) s e))
    ends_in (R.put bx) = refl
    ends_in (R.test_constant {b = b} {x = x} bx nd a) = constants_taken (S.insts (b x)) a
    ends_in (R.test_never {b = b} {x = x} bx nd never) = constants_left (S.insts (b x)) never
    ends_in (R.call {c = c} {p = p} lt u nd a) = never_answers (S.procs p).det.most c
    ends_in (R.apply {c = c} {op = op} e u nd i a) = never_answers (builtin_most op) c
    ends_in (R.implied_alone h) = ends_all h
    ends_in (R.conj h) = ends_all h
    ends_in (R.disj {O = O} {b = b} {os = os} {o = o} h j) = ends_any h ∙ joined_none O b os o j
    ends_in (R.switch {O = O} {b = b} {os = os} {o = o} bx i h j) = ends_arms h ∙ joined_none O b os o j
    ends_in (R.ite {O = O} {b = b} {c = c} {n = n} {t = t} {u = u} {o = o} {o' = o'} {o'' = o''} out g none h k j) =
        ap₂ (λ x y. (x || y) && never_ends S T b u) (ends_node g) (subst (λ x. never_ends S T x t ≡ is_none o) (after_kept g) (ends_node h))
        ∙ ap (λ y. is_none o && y) (ends_node k ∙ sym (last_none (is_none o')))
        ∙ joined_none O b (o ∷ o' ∷ []) o'' j
    ends_in (R.ite_never {O = O} {b = b} {n = n} {t = t} {u = u} {o = o} {o'' = o''} out g e k j) =
        ap (λ x. (x || never_ends S T (insts_after n b) t) && never_ends S T b u) (ends_node g)
        ∙ ends_node k ∙ sym (last_none (is_none o)) ∙ joined_none O b (o ∷ []) o'' j
    ends_in (R.neg g none) = refl
    ends_in (R.some out g) = ends_node g

    pub ends_node : {O Q : List ℕ} {b : Insts} {g : Flat_goal} {n : Node} {o : Option Insts} → OrderedNode S T O Q b g n o → never_ends S T b n ≡ is_none o
    ends_node (kept r k) = ends_in r

    ends_all : {O Q : List ℕ} {b : Insts} {gs : Flat_goals} {ns : Nodes} {o : Option Insts} → OrderedAll S T O Q b gs ns o → one_never_ends S T b ns ≡ is_none o
    ends_all R.done = refl
    ends_all (R.dropped {b = b} {n = n} p h) = ap (λ t. t || one_never_ends S T (insts_after n b) no_nodes) (ends_node h)
    ends_all (R.next {b = b} {n = n} {ns = ns} {o = o} p h r) = ap (λ t. t || one_never_ends S T (insts_after n b) ns) (ends_node h) ∙ subst (λ x. one_never_ends S T x ns ≡ is_none o) (after_kept h) (ends_all r)
    ends_all (R.implied_outputs {b = b} {c = c} {op = op} {ns = ns} {o = o} tests p e most f nd di ap1 ts u i a k r) =
        ap₂ (λ t u. t || u) (one_answer op most) (subst (λ x. one_never_ends S T x (tested_by tests ns) ≡ is_none o) (fun_ext k.0) (tests_end tests c ns ∙ ends_all r))

    ends_any : {O Q : List ℕ} {b : Insts} {gs : Flat_goals} {ns : Nodes} {os : List (Option Insts)} → OrderedAny S T O Q b gs ns os → each_never_ends S T b ns ≡ all_none os
    ends_any R.no_other = refl
    ends_any (R.either h r) = ap₂ (λ t u. t && u) (ends_node h) (ends_any r)

    ends_arms : {O Q : List ℕ} {b : Insts} {x : ℕ} {gs : Flat_goals} {arms : Arms} {os : List (Option Insts)} → OrderedArms S T O Q b x gs arms os → each_arm_never_ends S T b arms ≡ all_none os
    ends_arms R.no_arm = refl
    ends_arms (R.arm p l o a h r) = ap₂ (λ t u. t && u) (ends_node h) (ends_arms r)
