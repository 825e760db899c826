-- What an arm of several disjuncts changes, variable by variable.
use Rattle.std.proofs.Common.{◌≡◌, ℕ, zero, suc, ◌+◌, ◌<◌, List, [], ◌∷◌, ◌++◌, length, get_or, map, Bool, true, false, not, nat_eq, ◌||◌, if◌then◌else◌, All, refl, sym, ap, ap₂, ◌∙◌, arith}
use Rattle.std.proofs.lemmas.Bool.{eqb-true, eq-eqb}
use Rattle.std.proofs.lemmas.List.Elements.{All-head, All-tail}
use Rattle.mc_model.specs.Good.{System}
use Rattle.mc_model.specs.PlainGoals.{plain_node}
use Rattle.mc_model.specs.Stream.{is_bound}
use Rattle.mc_model.specs.declared.sched.GoalNode.{GoalNode}
use Rattle.mc_accepted.specs.Determined.{insts_after}
use Rattle.mc_accepted.specs.MergedArms.{never_ends, ends}
use Rattle.mc_accepted.specs.Ordered.{Insts, change_at}
use Rattle.mc_accepted.specs.Switched.{goals_of}
use Rattle.mc_insts.specs.Graphs.{count_of}
use Rattle.mc_procs.specs.Procedures.{PlainProcs}
use Rattle.mc_procs.specs.VariableTypes.{type_in}
use Rattle.mc_procs.proofs.Views.{plain_node-open}
use Rattle.mc_mode_state.specs.Tables.{Entry}
use Rattle.mc_switch.specs.declared.context.VariableContext.{VariableContext}
use Rattle.mc_switch.specs.declared.disjunct.Opened.{Opened}
use Rattle.mc_switch.specs.Types.{inst_in}
use Rattle.mc_switch.specs.Kept.{Suits, changed_to, change_of, changes_of, merged_changes, kept_by}
use Rattle.mc_switch.specs.code.Ends.{inst_at_end, insts_at_ends, one_ends, KeepsEnd}
use Rattle.mc_switch.specs.code.Labels.{plain_opened}

pub after_is : (g : GoalNode) (b : Insts) (x : ℕ) → insts_after (plain_node g) b x ≡ change_at x g.changes (b x)
after_is g b x = ap (λ n. insts_after n b x) (plain_node-open g)

-- the insts of a variable at the ends are those of what is kept of the disjuncts
module _ (q : PlainProcs) (at : VariableContext) (S : System) (suits : Suits q S) (x : ℕ) where
  abbrev b : Insts
  b = inst_in at.before.now

  abbrev row_of : List Insts → List ℕ
  row_of es = map (λ (e : Insts). e x) es

  one_end : (o : Opened) (es : List Insts) (t : Bool) → o.never_ends ≡ t → KeepsEnd q at o → inst_at_end (b x) x o ++ row_of es ≡ row_of (if never_ends S (type_in at.types.now) b (plain_node o.goal) then es else insts_after (plain_node o.goal) b ∷ es)
  one_end o es true e keeps =
      ap (λ (t : Bool). (if t then [] else change_at x o.goal.changes (b x) ∷ []) ++ row_of es) e
      ∙ ap (λ (t : Bool). row_of (if t then es else insts_after (plain_node o.goal) b ∷ es)) (sym e ∙ keeps.told S suits)
  one_end o es false e keeps =
      ap (λ (t : Bool). (if t then [] else change_at x o.goal.changes (b x) ∷ []) ++ row_of es) e
      ∙ ap (λ i. i ∷ row_of es) (sym (after_is o.goal b x))
      ∙ ap (λ (t : Bool). row_of (if t then es else insts_after (plain_node o.goal) b ∷ es)) (sym e ∙ keeps.told S suits)

  pub ends_are : (os : List Opened) → All (KeepsEnd q at) os → insts_at_ends (b x) x os ≡ row_of (ends S (type_in at.types.now) b (goals_of (map plain_opened os)))
  ends_are [] h = refl
  ends_are (o ∷ os) h =
      ap (λ (is : List ℕ). inst_at_end (b x) x o ++ is) (ends_are os (All-tail (KeepsEnd q at) o os h))
      ∙ one_end o (ends S (type_in at.types.now) b (goals_of (map plain_opened os))) o.never_ends refl (All-head (KeepsEnd q at) o os h)

pub some_insts : (i x : ℕ) (os : List Opened) → one_ends os ≡ true → 0 < length (insts_at_ends i x os)
some_insts i x [] e = cc
some_insts i x (o ∷ os) e = by_end o.never_ends e (some_insts i x os)
  where
    by_end : (t : Bool) → (not t || one_ends os) ≡ true → (one_ends os ≡ true → 0 < length (insts_at_ends i x os)) → 0 < length ((if t then [] else change_at x o.goal.changes i ∷ []) ++ insts_at_ends i x os)
    by_end true e h = h e
    by_end false e h = omega arith

pub insts_there : (q : PlainProcs) (at : VariableContext) (x : ℕ) (os : List Opened) → All (KeepsEnd q at) os → (n : ℕ) → n < length (insts_at_ends (inst_in at.before.now x) x os) → get_or (insts_at_ends (inst_in at.before.now x) x os) n 0 < count_of q.insts
insts_there q at x [] h n lt = absurd (omega (arith, lt))
insts_there q at x (o ∷ os) h n lt = by_end (λ m l. insts_there q at x os (All-tail (KeepsEnd q at) o os h) m l) o.never_ends n lt
  where
    Rest : Type 0
    Rest = (m : ℕ) → m < length (insts_at_ends (inst_in at.before.now x) x os) → get_or (insts_at_ends (inst_in at.before.now x) x os) m 0 < count_of q.insts

    i : ℕ
    i = inst_in at.before.now x

    by_end : Rest → (t : Bool) (m : ℕ) → m < length ((if t then [] else change_at x o.goal.changes i ∷ []) ++ insts_at_ends i x os) → get_or ((if t then [] else change_at x o.goal.changes i ∷ []) ++ insts_at_ends i x os) m 0 < count_of q.insts
    by_end rest true m lt = rest m lt
    by_end rest false zero lt = let k = All-head (KeepsEnd q at) o os h in k.there x
    by_end rest false (suc m) lt = rest m (omega (arith, lt))

-- where a variable changes
pub free_stays : (x i j k : ℕ) → i ≡ 0 → j ≡ 0 → changed_to x i k (is_bound i || is_bound j) ≡ []
free_stays x i j k e f = ap₂ (λ n m. changed_to x n k (is_bound n || is_bound m)) e f

is_there : (i : ℕ) (t : Bool) → nat_eq i 0 ≡ t → (i ≡ 0 → ⊥) → is_bound i ≡ true
is_there i true e n = absurd (n (eqb-true i 0 e))
is_there i false e n = ap not e

or_true : (t : Bool) → (t || true) ≡ true
or_true true = refl
or_true false = refl

pub before_bound : (i j : ℕ) → (i ≡ 0 → ⊥) → (is_bound i || is_bound j) ≡ true
before_bound i j n = ap (λ t. t || is_bound j) (is_there i (nat_eq i 0) refl n)

pub after_bound : (i j : ℕ) → (j ≡ 0 → ⊥) → (is_bound i || is_bound j) ≡ true
after_bound i j n = ap (λ t. is_bound i || t) (is_there j (nat_eq j 0) refl n) ∙ or_true (is_bound i)

pub same_stays : (x i k : ℕ) (t : Bool) → k ≡ i → changed_to x i k t ≡ []
same_stays x i k false e = refl
same_stays x i k true e = ap (λ (t : Bool). if◌then◌else◌ {A = List (ℕ × ℕ)} (not t) ((x, k) ∷ []) []) (eq-eqb k i e)

differs : (x i k : ℕ) (t : Bool) → nat_eq k i ≡ t → (k ≡ i → ⊥) → (if◌then◌else◌ {A = List (ℕ × ℕ)} (not t) ((x, k) ∷ []) []) ≡ (x, k) ∷ []
differs x i k true e n = absurd (n (eqb-true k i e))
differs x i k false e n = refl

pub other_changes : (x i k : ℕ) (t : Bool) → t ≡ true → (k ≡ i → ⊥) → changed_to x i k t ≡ (x, k) ∷ []
other_changes x i k true e n = differs x i k (nat_eq k i) refl n
other_changes x i k false e n = cc

-- nothing is changed where no end is reachable
module _ (q : PlainProcs) (at : VariableContext) (S : System) (suits : Suits q S) where
  abbrev ends_from : List Opened → List Insts
  ends_from os = ends S (type_in at.types.now) (inst_in at.before.now) (goals_of (map plain_opened os))

  no_end : (o : Opened) (os : List Opened) → KeepsEnd q at o → (one_ends os ≡ false → ends_from os ≡ []) → (t : Bool) → o.never_ends ≡ t → (not t || one_ends os) ≡ false → ends_from (o ∷ os) ≡ []
  no_end o os k rest true f g =
      ap (λ (t : Bool). if t then ends_from os else insts_after (plain_node o.goal) (inst_in at.before.now) ∷ ends_from os) (sym (k.told S suits) ∙ f)
      ∙ rest g
  no_end o os k rest false f g = cc

  no_ends : (os : List Opened) → All (KeepsEnd q at) os → one_ends os ≡ false → ends_from os ≡ []
  no_ends [] h e = refl
  no_ends (o ∷ os) h e =
      no_end o os (All-head (KeepsEnd q at) o os h) (λ g. no_ends os (All-tail (KeepsEnd q at) o os h) g) o.never_ends refl e

  pub none_changes : (M : List Entry) (n : ℕ) (os : List Opened) → All (KeepsEnd q at) os → one_ends os ≡ false → kept_by S (type_in at.types.now) M n (inst_in at.before.now) (inst_in at.after.now) (map plain_opened os) ≡ []
  none_changes M n os h e = ap (merged_changes M n (inst_in at.before.now) (inst_in at.after.now)) (no_ends os h e)

  -- some end is reachable
  some_end : (es : List Insts) (is : List ℕ) (x : ℕ) → is ≡ map (λ (e : Insts). e x) es → 0 < length is → (M : List Entry) (n : ℕ) (b c : Insts) → merged_changes M n b c es ≡ changes_of M b c es n
  some_end [] is x e lt M n b c = absurd (omega (arith, lt, ap length e))
  some_end (f ∷ es) is x e lt M n b c = refl

  pub some_change : (M : List Entry) (n : ℕ) (os : List Opened) → All (KeepsEnd q at) os → one_ends os ≡ true → kept_by S (type_in at.types.now) M n (inst_in at.before.now) (inst_in at.after.now) (map plain_opened os) ≡ changes_of M (inst_in at.before.now) (inst_in at.after.now) (ends_from os) n
  some_change M n os h e =
      some_end (ends_from os) (insts_at_ends (inst_in at.before.now 0) 0 os) 0 (ends_are q at S suits 0 os h) (some_insts (inst_in at.before.now 0) 0 os e) M n (inst_in at.before.now) (inst_in at.after.now)

pub one_more_change : (M : List Entry) (b c : Insts) (es : List Insts) (x : ℕ) (before after : List (ℕ × ℕ)) → before ≡ changes_of M b c es x → after ≡ before ++ change_of M b c es x → after ≡ changes_of M b c es (x + 1)
one_more_change M b c es x before after h e =
    e
    ∙ ap (λ (cs : List (ℕ × ℕ)). cs ++ change_of M b c es x) h
    ∙ (let l : suc x ≡ x + 1 = omega arith in ap (changes_of M b c es) l)
