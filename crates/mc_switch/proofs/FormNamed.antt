-- The switch form of a goal names what is there where the goal does.
use Rattle.std.proofs.Common.{◌≡◌, ℕ, zero, suc, ◌<◌, List, [], ◌∷◌, ◌++◌, map, Bool, true, false, if◌then◌else◌, not, nat_eq, ◌&&◌, Option, Some, None, refl, sym, subst, arith}
use Rattle.std.specs.List.{list_all}
use Rattle.std.proofs.lemmas.Bool.{and_parts, eqb-true}
use Rattle.mc_program.specs.Values.{Val}
use Rattle.mc_program.specs.Programs.{TypeTerm}
use Rattle.mc_model.specs.Scheduled.{Label, for_constant, Node, node, Scheduled, Conj, Disj, Switch, Ite, Not, Exists, Assign, Test, Build, Take, Const, TestConst, Call, Apply, Nodes, no_nodes, node_then}
use Rattle.mc_model.specs.Good.{System}
use Rattle.mc_accepted.specs.Determined.{insts_after}
use Rattle.mc_accepted.specs.MergedArms.{never_ends, ends}
use Rattle.mc_accepted.specs.Ordered.{Insts}
use Rattle.mc_accepted.specs.Switched.{Disjunct, Kept, Opening, openings, openings_in, openings_all, is_equation, is_constant, goals_of, label_in, same_label, opens_with, is_told, others, and_label, labels_of, those, arm_of, arms_on, on_chosen, chosen, grouped, openings_of, formed, formed_in, formed_all, disjuncts}
use Rattle.mc_procs.specs.Named.{Bounds, ChangesNamed, LabelNamed, Named, NamedIn, EachNamed, EachArmNamed}
use Rattle.mc_mode_state.specs.Tables.{Entry, node_in}
use Rattle.mc_switch.specs.Kept.{all_are, or_none, inst_merged, changed_to, change_of, changes_of, merged_changes, kept_by}
use Rattle.mc_switch.proofs.NeverEnds.{told_by_chosen}
use Rattle.mc_switch.proofs.Walking.{change_there}

module _ (B : Bounds) where
  -- ---- what goals deconstruct
  abbrev OpensNamed : List Opening → Type 0
  OpensNamed [] = Unit {0}
  OpensNamed (o ∷ os) = (o.0 < B.variables) × LabelNamed B o.1 × OpensNamed os

  opens_both : (os ps : List Opening) → OpensNamed os → OpensNamed ps → OpensNamed (os ++ ps)
  opens_both [] ps h k = k
  opens_both (o ∷ os) ps h k = (h.0, h.1, opens_both os ps h.2 k)

  constant_named : (x : ℕ) (v : Val) (t : Bool) → x < B.variables → OpensNamed (if t then (x, for_constant v) ∷ [] else [])
  constant_named x v true lt = (lt, tt, tt)
  constant_named x v false lt = tt

  equation_named : (t : Bool) (os ps : List Opening) → OpensNamed os → OpensNamed ps → OpensNamed (if t then os ++ ps else [])
  equation_named true os ps h k = opens_both os ps h k
  equation_named false os ps h k = tt

  mutual
    pub openings_named : (n : Node) → Named B n → OpensNamed (openings n)
    openings_named (node s changes d m) h = openings_in_named s h.1

    openings_in_named : (s : Scheduled) → NamedIn B s → OpensNamed (openings_in s)
    openings_in_named (Conj ns) h = openings_all_named ns h
    openings_in_named (Exists vs n) h = openings_named n h.1
    openings_in_named (Take x s ys) h = (h.0, h.1, tt)
    openings_in_named (TestConst x v) h = constant_named x v (is_constant v) h
    openings_in_named (Disj ns) h = tt
    openings_in_named (Switch x arms) h = tt
    openings_in_named (Ite vs c t e) h = tt
    openings_in_named (Not n) h = tt
    openings_in_named (Assign x y) h = tt
    openings_in_named (Test x y) h = tt
    openings_in_named (Build x s ys) h = tt
    openings_in_named (Const x v) h = tt
    openings_in_named (Call p xs implied last) h = tt
    openings_in_named (Apply op xs ys) h = tt

    openings_all_named : (ns : Nodes) → EachNamed B ns → OpensNamed (openings_all ns)
    openings_all_named no_nodes h = tt
    openings_all_named (node_then n ns) h = equation_named (is_equation n) (openings n) (openings_all ns) (openings_named n h.0) (openings_all_named ns h.1)

  -- ---- labels
  abbrev MayNamed : Option Label → Type 0
  MayNamed None = Unit {0}
  MayNamed (Some l) = LabelNamed B l

  abbrev EachLabelNamed : List Label → Type 0
  EachLabelNamed [] = Unit {0}
  EachLabelNamed (l ∷ ls) = LabelNamed B l × EachLabelNamed ls

  label_named : (x : ℕ) (os : List Opening) → OpensNamed os → MayNamed (label_in x os)
  label_named x [] h = tt
  label_named x (o ∷ os) h = at (nat_eq o.0 x) (label_named x os h.2)
    where
      at : (t : Bool) → MayNamed (label_in x os) → MayNamed (if t then Some o.1 else label_in x os)
      at true r = h.1
      at false r = r

  variable_named : (x : ℕ) (os : List Opening) → OpensNamed os → is_told (label_in x os) ≡ true → x < B.variables
  variable_named x [] h e = cc
  variable_named x (o ∷ os) h e = at (nat_eq o.0 x) refl e (λ f. variable_named x os h.2 f)
    where
      at : (t : Bool) → nat_eq o.0 x ≡ t → is_told (if t then Some o.1 else label_in x os) ≡ true → (is_told (label_in x os) ≡ true → x < B.variables) → x < B.variables
      at true q e r = subst (λ y. y < B.variables) (eqb-true o.0 x q) h.0
      at false q e r = r e

  others_named : (l : Label) (ls : List Label) → EachLabelNamed ls → EachLabelNamed (others l ls)
  others_named l [] h = tt
  others_named l (k ∷ ls) h = at (same_label l k) (others_named l ls h.1)
    where
      at : (t : Bool) → EachLabelNamed (others l ls) → EachLabelNamed (if t then others l ls else k ∷ others l ls)
      at true r = r
      at false r = (h.0, r)

  and_named : (o : Option Label) (ls : List Label) → MayNamed o → EachLabelNamed ls → EachLabelNamed (and_label o ls)
  and_named None ls h k = k
  and_named (Some l) ls h k = (h, others_named l ls k)

  -- ---- disjuncts
  abbrev pub DisjunctsNamed : List Disjunct → Type 0
  DisjunctsNamed [] = Unit {0}
  DisjunctsNamed (d ∷ ds) = OpensNamed d.opens × Named B d.goal × DisjunctsNamed ds

  labels_named : (x : ℕ) (ds : List Disjunct) → DisjunctsNamed ds → EachLabelNamed (labels_of x ds)
  labels_named x [] h = tt
  labels_named x (d ∷ ds) h = and_named (label_in x d.opens) (labels_of x ds) (label_named x d.opens h.0) (labels_named x ds h.2)

  goals_named : (ds : List Disjunct) → DisjunctsNamed ds → EachNamed B (goals_of ds)
  goals_named [] h = tt
  goals_named (d ∷ ds) h = (h.1, goals_named ds h.2)

  those_named : (f : Disjunct → Bool) (ds : List Disjunct) → DisjunctsNamed ds → DisjunctsNamed (those f ds)
  those_named f [] h = tt
  those_named f (d ∷ ds) h = at (f d) (those_named f ds h.2)
    where
      at : (t : Bool) → DisjunctsNamed (those f ds) → DisjunctsNamed (if t then d ∷ those f ds else those f ds)
      at true r = (h.0, h.1, r)
      at false r = r

  module _ (S : System) (T : ℕ → TypeTerm) (b : Insts) (kept : Kept) (kept_named : (ds : List Disjunct) → DisjunctsNamed ds → ChangesNamed B (kept ds)) where
    arm_is_named : (again : List Disjunct → Scheduled) → ((ds : List Disjunct) → DisjunctsNamed ds → NamedIn B (again ds)) → (ds : List Disjunct) → DisjunctsNamed ds → Named B (arm_of kept again ds)
    arm_is_named again f [] h = (kept_named [] h, f [] h)
    arm_is_named again f (d ∷ []) h = h.1
    arm_is_named again f (d ∷ (e ∷ ds)) h = (kept_named (d ∷ (e ∷ ds)) h, f (d ∷ (e ∷ ds)) h)

    arms_are_named : (again : List Disjunct → Scheduled) → ((ds : List Disjunct) → DisjunctsNamed ds → NamedIn B (again ds)) → (x : ℕ) (ds : List Disjunct) (ls : List Label) → DisjunctsNamed ds → EachLabelNamed ls → EachArmNamed B (arms_on (arm_of kept again) x ds ls)
    arms_are_named again f x ds [] h k = tt
    arms_are_named again f x ds (l ∷ ls) h k = (k.0, arm_is_named again f (those (opens_with x l) ds) (those_named (opens_with x l) ds h), arms_are_named again f x ds ls h k.1)

    chosen_named : (out : List ℕ) (ds : List Disjunct) (x : ℕ) → DisjunctsNamed ds → chosen S T out b ds ≡ Some x → x < B.variables
    chosen_named out [] x h e = cc
    chosen_named out (d ∷ ds) x h e =
        variable_named x d.opens h.0 (and_parts (is_told (label_in x d.opens)) (list_all (λ (d : Disjunct). is_told (label_in x d.opens)) ds) (told_by_chosen S T b out (d ∷ ds) x e)).0

    pub grouped_named : (k : ℕ) (out : List ℕ) (ds : List Disjunct) → DisjunctsNamed ds → NamedIn B (grouped S T kept k b out ds)
    grouped_named zero out ds h = goals_named ds h
    grouped_named (suc k) out ds h = by_choice (λ ys es g. grouped_named k ys es g) (chosen S T out b ds) refl
      where
        by_choice : ((ys : List ℕ) (es : List Disjunct) → DisjunctsNamed es → NamedIn B (grouped S T kept k b ys es)) → (o : Option ℕ) → chosen S T out b ds ≡ o → NamedIn B (on_chosen (λ ys. arm_of kept (grouped S T kept k b ys)) out ds o)
        by_choice again None q = goals_named ds h
        by_choice again (Some x) q =
            (chosen_named out ds x h q, arms_are_named (grouped S T kept k b (x ∷ out)) (again (x ∷ out)) x ds (labels_of x ds) h (labels_named x ds h))

  -- ---- what arms keep
  abbrev pub Below : Insts → Type 0
  Below b = (x : ℕ) → b x < B.insts

  abbrev EachBelow : List Insts → Type 0
  EachBelow [] = Unit {0}
  EachBelow (e ∷ es) = Below e × EachBelow es

  pub after_below : (n : Node) (b : Insts) → Named B n → Below b → Below (insts_after n b)
  after_below (node s changes d m) b h below x = change_there B changes x (b x) h.0 (below x)

  ends_below : (S : System) (T : ℕ → TypeTerm) (b : Insts) → Below b → (ds : List Disjunct) → DisjunctsNamed ds → EachBelow (ends S T b (goals_of ds))
  ends_below S T b below [] h = tt
  ends_below S T b below (d ∷ ds) h = at (never_ends S T b d.goal) (ends_below S T b below ds h.2)
    where
      at : (t : Bool) → EachBelow (ends S T b (goals_of ds)) → EachBelow (if t then ends S T b (goals_of ds) else insts_after d.goal b ∷ ends S T b (goals_of ds))
      at true r = r
      at false r = (after_below d.goal b h.1 below, r)

  changes_both : (cs ds : List (ℕ × ℕ)) → ChangesNamed B cs → ChangesNamed B ds → ChangesNamed B (cs ++ ds)
  changes_both [] ds h k = k
  changes_both ((x, i) ∷ cs) ds h k = (h.0, h.1, changes_both cs ds h.2 k)

  module _ (M : List Entry) (found : (x k : ℕ) (is : List ℕ) → node_in M x is ≡ Some k → k < B.insts) (some : 0 < B.insts) where
    merged_below : (x i : ℕ) (is : List ℕ) → i < B.insts → inst_merged M x (i ∷ is) < B.insts
    merged_below x i is lt = at (all_are i (i ∷ is)) (node_in M x (i ∷ is)) refl
      where
        at : (t : Bool) (o : Option ℕ) → node_in M x (i ∷ is) ≡ o → (if t then i else or_none (node_in M x (i ∷ is))) < B.insts
        at true o q = lt
        at false None q = subst (λ (p : Option ℕ). or_none p < B.insts) (sym q) some
        at false (Some k) q = subst (λ (p : Option ℕ). or_none p < B.insts) (sym q) (found x k (i ∷ is) q)

    changed_named : (x i k : ℕ) (t : Bool) → x < B.variables → k < B.insts → ChangesNamed B (changed_to x i k t)
    changed_named x i k t lx lk = at (t && not (nat_eq k i))
      where
        at : (u : Bool) → ChangesNamed B (if◌then◌else◌ {A = List (ℕ × ℕ)} u ((x, k) ∷ []) [])
        at true = (lx, lk, tt)
        at false = tt

    changes_named : (b c e : Insts) (es : List Insts) (n : ℕ) → ((x : ℕ) → x < n → x < B.variables) → Below e → ChangesNamed B (changes_of M b c (e ∷ es) n)
    changes_named b c e es zero lt below = tt
    changes_named b c e es (suc n) lt below =
        changes_both (changes_of M b c (e ∷ es) n) (change_of M b c (e ∷ es) n)
        (changes_named b c e es n (λ x l. lt x (omega (arith, l))) below)
        (changed_named n (b n) (inst_merged M n (map (λ (e : Insts). e n) (e ∷ es))) _ (lt n (omega arith)) (merged_below n (e n) (map (λ (e : Insts). e n) es) (below n)))

    merged_named : (b c : Insts) (es : List Insts) (n : ℕ) → n ≡ B.variables → EachBelow es → ChangesNamed B (merged_changes M n b c es)
    merged_named b c [] n e h = tt
    merged_named b c (f ∷ es) n e h = changes_named b c f es n (λ x l. omega (arith, l, e)) h.0

    pub kept_is_named : (S : System) (T : ℕ → TypeTerm) (n : ℕ) → n ≡ B.variables → (b c : Insts) → Below b → (ds : List Disjunct) → DisjunctsNamed ds → ChangesNamed B (kept_by S T M n b c ds)
    kept_is_named S T n e b c below ds h = merged_named b c (ends S T b (goals_of ds)) n e (ends_below S T b below ds h)

  -- ---- a goal
  module _ (S : System) (T : ℕ → TypeTerm) (kept : (before after : Insts) → Kept) (kept_named : (b c : Insts) → Below b → (ds : List Disjunct) → DisjunctsNamed ds → ChangesNamed B (kept b c ds)) where
    mutual
      pub form_named : (b : Insts) (n : Node) → Below b → Named B n → Named B (formed S T kept b n)
      form_named b (node s changes d m) below h = (h.0, form_in_named b (insts_after (node s changes d m) b) s below h.1)

      form_in_named : (b c : Insts) (s : Scheduled) → Below b → NamedIn B s → NamedIn B (formed_in S T kept b c s)
      form_in_named b c (Conj ns) below h = form_all_named b ns below h
      form_in_named b c (Disj ns) below h =
          grouped_named S T b (kept b c) (kept_named b c below) (openings_of (disjuncts S T kept b ns)) [] (disjuncts S T kept b ns) (form_each_named b ns below h)
      form_in_named b c (Switch x arms) below h = h
      form_in_named b c (Ite vs n t e) below h = (h.0, form_named b n below h.1, form_named (insts_after n b) t (after_below n b h.1 below) h.2, form_named b e below h.3)
      form_in_named b c (Not n) below h = form_named b n below h
      form_in_named b c (Exists vs n) below h = (h.0, form_named b n below h.1)
      form_in_named b c (Assign x y) below h = h
      form_in_named b c (Test x y) below h = h
      form_in_named b c (Build x s ys) below h = h
      form_in_named b c (Take x s ys) below h = h
      form_in_named b c (Const x v) below h = h
      form_in_named b c (TestConst x v) below h = h
      form_in_named b c (Call p xs implied last) below h = h
      form_in_named b c (Apply op xs ys) below h = h

      form_all_named : (b : Insts) (ns : Nodes) → Below b → EachNamed B ns → EachNamed B (formed_all S T kept b ns)
      form_all_named b no_nodes below h = tt
      form_all_named b (node_then n ns) below h = (form_named b n below h.0, form_all_named (insts_after n b) ns (after_below n b h.0 below) h.1)

      form_each_named : (b : Insts) (ns : Nodes) → Below b → EachNamed B ns → DisjunctsNamed (disjuncts S T kept b ns)
      form_each_named b no_nodes below h = tt
      form_each_named b (node_then n ns) below h = (openings_named n h.0, form_named b n below h.0, form_each_named b ns below h.1)
