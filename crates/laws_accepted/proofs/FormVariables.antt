-- A goal and its switch form have the same variables.
use Rattle.std.proofs.Common.{◌≡◌, ◌⊎◌, inl, inr, ℕ, zero, suc, List, [], ◌∷◌, ◌++◌, Option, Some, None, Bool, true, false, if◌then◌else◌, nat_eq, refl, sym, ap, ◌∙◌, subst, ⊎_elim}
use Rattle.std.specs.List.{list_all}
use Rattle.std.proofs.lemmas.Bool.{eqb-true, eq-eqb, and_parts}
use Rattle.mc_program.specs.Programs.{TypeTerm}
use Rattle.mc_model.specs.EventList.{End}
use Rattle.mc_model.specs.Outcomes.{fails}
use Rattle.mc_model.specs.Lists.{In}
use Rattle.mc_model.specs.Scheduled.{Label, for_symbol, for_constant, Node, node, Scheduled, Conj, Disj, Switch, Ite, Not, Exists, Assign, Test, Build, Take, Const, TestConst, Call, Apply, Nodes, no_nodes, node_then}
use Rattle.mc_model.specs.Good.{System}
use Rattle.mc_accepted.specs.Ordered.{Insts, variables_of_node, variables_of_scheduled, variables_of_nodes, variables_of_arms}
use Rattle.mc_accepted.specs.Determined.{insts_after}
use Rattle.mc_accepted.specs.Switched.{Opening, Disjunct, is_equation, is_constant, openings, openings_in, openings_all, goals_of, label_in, same_label, is_label, opens_with, is_told, others, and_label, labels_of, those, openings_of, Kept, arm_of, arms_on, on_chosen, chosen, grouped, formed, formed_in, formed_all, disjuncts}
use Rattle.laws_language.proofs.Equality.{same_of}
use Rattle.laws_accepted.specs.SwitchLaws.{Told}
use Rattle.laws_accepted.proofs.Labels.{label_same}
use Rattle.laws_accepted.proofs.Forms.{told}
use Rattle.laws_accepted.proofs.Grouping.{chosen_opens}
use Rattle.laws_accepted.specs.FormLaws.{FormsKeepVariables}
use Rattle.laws_accepted.proofs.Outside.{Same, same_self, same_onto}
use Rattle.laws_language.proofs.FlatGoals.{in_either, in_left, in_right}

pub same_label_self : (l : Label) → same_label l l ≡ true
same_label_self (for_symbol s) = eq-eqb s s refl
same_label_self (for_constant v) = same_of v v refl

pub same_both : (xs ys us vs : List ℕ) → Same xs us → Same ys vs → Same (xs ++ ys) (us ++ vs)
same_both xs ys us vs p q = (
  (λ x i. ⊎_elim (λ j. in_left x us vs (p.0 x j)) (λ j. in_right x us vs (q.0 x j)) (in_either x xs ys i)),
  (λ x i. ⊎_elim (λ j. in_left x xs ys (p.1 x j)) (λ j. in_right x xs ys (q.1 x j)) (in_either x us vs i)),
)

-- ---- what is opened is a variable
module _ (x : ℕ) where
  pub told_part : (os us : List Opening) → is_told (label_in x (os ++ us)) ≡ true → (is_told (label_in x os) ≡ true) ⊎ (is_told (label_in x us) ≡ true)
  told_part [] us e = inr e
  told_part (o ∷ os) us e = at (nat_eq o.0 x) e (λ q. told_part os us q)
    where
      at : (t : Bool) → is_told (if t then Some o.1 else label_in x (os ++ us)) ≡ true → (is_told (label_in x (os ++ us)) ≡ true → (is_told (label_in x os) ≡ true) ⊎ (is_told (label_in x us) ≡ true)) → (is_told (if t then Some o.1 else label_in x os) ≡ true) ⊎ (is_told (label_in x us) ≡ true)
      at true e again = inl refl
      at false e again = again e

  pub told_one : (y : ℕ) (k : Label) → is_told (label_in x ((y, k) ∷ [])) ≡ true → x ≡ y
  told_one y k e = at (nat_eq y x) refl e
    where
      at : (t : Bool) → nat_eq y x ≡ t → is_told (if t then Some k else None) ≡ true → x ≡ y
      at true q e = sym (eqb-true y x q)
      at false q e = cc

  mutual
    pub opened : (n : Node) → is_told (label_in x (openings n)) ≡ true → In x (variables_of_node n)
    opened (node s changes d m) e = opened_in s e

    opened_in : (s : Scheduled) → is_told (label_in x (openings_in s)) ≡ true → In x (variables_of_scheduled s)
    opened_in (Conj ns) e = opened_all ns e
    opened_in (Exists vs n) e = in_right x vs (variables_of_node n) (opened n e)
    opened_in (Take y s ys) e = inl (told_one y (for_symbol s) e)
    opened_in (TestConst y v) e = at (is_constant v) e
      where
        at : (t : Bool) → is_told (label_in x (if t then (y, for_constant v) ∷ [] else [])) ≡ true → (x ≡ y) ⊎ ⊥
        at true e = inl (told_one y (for_constant v) e)
        at false e = cc
    opened_in (Disj ns) e = cc
    opened_in (Switch y arms) e = cc
    opened_in (Ite vs c t u) e = cc
    opened_in (Not n) e = cc
    opened_in (Assign y z) e = cc
    opened_in (Test y z) e = cc
    opened_in (Build y s ys) e = cc
    opened_in (Const y v) e = cc
    opened_in (Call p xs implied last) e = cc
    opened_in (Apply op xs ys) e = cc

    opened_all : (ns : Nodes) → is_told (label_in x (openings_all ns)) ≡ true → In x (variables_of_nodes ns)
    opened_all no_nodes e = cc
    opened_all (node_then n ns) e = at (is_equation n) e (λ q. opened n q) (λ q. opened_all ns q)
      where
        at : (t : Bool) → is_told (label_in x (if t then openings n ++ openings_all ns else [])) ≡ true → (is_told (label_in x (openings n)) ≡ true → In x (variables_of_node n)) → (is_told (label_in x (openings_all ns)) ≡ true → In x (variables_of_nodes ns)) → In x (variables_of_node n ++ variables_of_nodes ns)
        at true e here there = ⊎_elim (λ q. in_left x (variables_of_node n) (variables_of_nodes ns) (here q)) (λ q. in_right x (variables_of_node n) (variables_of_nodes ns) (there q)) (told_part (openings n) (openings_all ns) e)
        at false e here there = cc

abbrev of_all : List Disjunct → List ℕ
of_all ds = variables_of_nodes (goals_of ds)

abbrev EachTold : ℕ → List Disjunct → Type 0
EachTold x ds = list_all (λ (d : Disjunct). is_told (label_in x d.opens)) ds ≡ true

abbrev Among_labels : Label → List Label → Type 0
Among_labels l [] = ⊥
Among_labels l (k ∷ ks) = (l ≡ k) ⊎ Among_labels l ks

pub told_those : (f : Disjunct → Bool) (ds : List Disjunct) → Told ds → Told (those f ds)
told_those f [] h = tt
told_those f (d ∷ ds) h = at (f d) (told_those f ds h.1)
  where
    at : (t : Bool) → Told (those f ds) → Told (if t then d ∷ those f ds else those f ds)
    at true r = (h.0, r)
    at false r = r

module _ (w : ℕ) where
  from_those : (f : Disjunct → Bool) (ds : List Disjunct) → In w (of_all (those f ds)) → In w (of_all ds)
  from_those f [] i = i
  from_those f (d ∷ ds) i = at (f d) i (λ j. from_those f ds j)
    where
      at : (t : Bool) → In w (of_all (if t then d ∷ those f ds else those f ds)) → (In w (of_all (those f ds)) → In w (of_all ds)) → In w (variables_of_node d.goal ++ of_all ds)
      at true i again = ⊎_elim (λ j. in_left w (variables_of_node d.goal) (of_all ds) j) (λ j. in_right w (variables_of_node d.goal) (of_all ds) (again j)) (in_either w (variables_of_node d.goal) (of_all (those f ds)) i)
      at false i again = in_right w (variables_of_node d.goal) (of_all ds) (again i)

  more_those : (f : Disjunct → Bool) (d : Disjunct) (ds : List Disjunct) → In w (of_all (those f ds)) → In w (of_all (those f (d ∷ ds)))
  more_those f d ds i = at (f d)
    where
      at : (t : Bool) → In w (of_all (if t then d ∷ those f ds else those f ds))
      at true = in_right w (variables_of_node d.goal) (of_all (those f ds)) i
      at false = i

  this_one : (f : Disjunct → Bool) (d : Disjunct) (ds : List Disjunct) → f d ≡ true → In w (variables_of_node d.goal) → In w (of_all (those f (d ∷ ds)))
  this_one f d ds e i = at (f d) e
    where
      at : (t : Bool) → t ≡ true → In w (of_all (if t then d ∷ those f ds else those f ds))
      at true e = in_left w (variables_of_node d.goal) (of_all (those f ds)) i
      at false e = cc

  abbrev Labelled : ℕ → List Disjunct → List Label → Type 0
  Labelled x ds ls = (l : Label) × Among_labels l ls × In w (of_all (those (opens_with x l) ds))

  other : (l k : Label) (ls : List Label) → Among_labels l ls → (l ≡ k) ⊎ Among_labels l (others k ls)
  other l k [] i = absurd i
  other l k (j ∷ ls) i = at (same_label k j) refl i (λ r. other l k ls r)
    where
      at : (t : Bool) → same_label k j ≡ t → (l ≡ j) ⊎ Among_labels l ls → (Among_labels l ls → (l ≡ k) ⊎ Among_labels l (others k ls)) → (l ≡ k) ⊎ Among_labels l (if t then others k ls else j ∷ others k ls)
      at true q (inl e) again = inl (e ∙ sym (label_same k j q))
      at true q (inr r) again = again r
      at false q (inl e) again = inr (inl e)
      at false q (inr r) again = ⊎_elim (λ e. inl e) (λ a. inr (inr a)) (again r)

  has_label : (x : ℕ) (ds : List Disjunct) → EachTold x ds → In w (of_all ds) → Labelled x ds (labels_of x ds)
  has_label x [] e i = absurd i
  has_label x (d ∷ ds) e i =
      (let p = and_parts (is_told (label_in x d.opens)) (list_all (λ (d : Disjunct). is_told (label_in x d.opens)) ds) e in
      at (label_in x d.opens) refl p.0 (in_either w (variables_of_node d.goal) (of_all ds) i) (λ j. has_label x ds p.1 j))
    where
      later : (k : Label) → Labelled x ds (labels_of x ds) → Labelled x (d ∷ ds) (k ∷ others k (labels_of x ds))
      later k r = (r.0, other r.0 k (labels_of x ds) r.1, more_those (opens_with x r.0) d ds r.2)

      at : (o : Option Label) → label_in x d.opens ≡ o → is_told o ≡ true → In w (variables_of_node d.goal) ⊎ In w (of_all ds) → (In w (of_all ds) → Labelled x ds (labels_of x ds)) → Labelled x (d ∷ ds) (and_label o (labels_of x ds))
      at None q t i again = cc
      at (Some k) q t (inl j) again = (k, inl refl, this_one (opens_with x k) d ds (ap (is_label k) q ∙ same_label_self k) j)
      at (Some k) q t (inr j) again = later k (again j)

  module _ (arm : List Disjunct → Node) (x : ℕ) (ds : List Disjunct) (alike : (us : List Disjunct) → Told us → Same (variables_of_node (arm us)) (of_all us)) (t : Told ds) where
    abbrev group : Label → List Disjunct
    group l = those (opens_with x l) ds

    to_arms : (l : Label) (ls : List Label) → Among_labels l ls → In w (of_all (group l)) → In w (variables_of_arms (arms_on arm x ds ls))
    to_arms l [] a i = absurd a
    to_arms l (k ∷ ls) a i = ⊎_elim
        (λ e. in_left w (variables_of_node (arm (group k))) (variables_of_arms (arms_on arm x ds ls)) ((alike (group k) (told_those (opens_with x k) ds t)).1 w (subst (λ j. In w (of_all (group j))) e i)))
        (λ r. in_right w (variables_of_node (arm (group k))) (variables_of_arms (arms_on arm x ds ls)) (to_arms l ls r i)) a

    from_arms : (ls : List Label) → In w (variables_of_arms (arms_on arm x ds ls)) → In w (of_all ds)
    from_arms [] i = absurd i
    from_arms (k ∷ ls) i = ⊎_elim
        (λ j. from_those (opens_with x k) ds ((alike (group k) (told_those (opens_with x k) ds t)).0 w j))
        (λ j. from_arms ls j) (in_either w (variables_of_node (arm (group k))) (variables_of_arms (arms_on arm x ds ls)) i)

module _ (S : System) (T : ℕ → TypeTerm) where
  pub chosen_told : (out : List ℕ) (b : Insts) (ds : List Disjunct) (x : ℕ) → chosen S T out b ds ≡ Some x → EachTold x ds
  chosen_told out b ds x q = chosen_opens (λ op vs. fails) (λ h p vs. End) 0 (λ y. None) S T b out ds x q

  chosen_stands : (out : List ℕ) (b : Insts) (ds : List Disjunct) (x : ℕ) → chosen S T out b ds ≡ Some x → Told ds → In x (of_all ds)
  chosen_stands out b [] x q h = cc
  chosen_stands out b (d ∷ ds) x q h =
      let p = and_parts (is_told (label_in x d.opens)) (list_all (λ (d : Disjunct). is_told (label_in x d.opens)) ds) (chosen_told out b (d ∷ ds) x q) in
      in_left x (variables_of_node d.goal) (of_all ds) (opened x d.goal (subst (λ os. is_told (label_in x os) ≡ true) h.0 p.0))

  module _ (kept : Kept) (b : Insts) where
    arm_alike : (again : List Disjunct → Scheduled) → ((us : List Disjunct) → Told us → Same (variables_of_scheduled (again us)) (of_all us)) → (us : List Disjunct) → Told us → Same (variables_of_node (arm_of kept again us)) (of_all us)
    arm_alike again r [] h = r [] h
    arm_alike again r (d ∷ []) h = ((λ w i. in_left w (variables_of_node d.goal) [] i), (λ w i. ⊎_elim (λ j. j) (λ j. absurd j) (in_either w (variables_of_node d.goal) [] i)))
    arm_alike again r (d ∷ c ∷ ds) h = r (d ∷ c ∷ ds) h

    grouped_alike : (k : ℕ) (out : List ℕ) (ds : List Disjunct) → Told ds → Same (variables_of_scheduled (grouped S T kept k b out ds)) (of_all ds)
    grouped_alike zero out ds h = same_self (of_all ds)
    grouped_alike (suc k) out ds h = at (chosen S T out b ds) refl (λ o. grouped_alike k o)
      where
        at : (o : Option ℕ) → chosen S T out b ds ≡ o → ((out : List ℕ) (us : List Disjunct) → Told us → Same (variables_of_scheduled (grouped S T kept k b out us)) (of_all us)) → Same (variables_of_scheduled (on_chosen (λ out. arm_of kept (grouped S T kept k b out)) out ds o)) (of_all ds)
        at None q again = same_self (of_all ds)
        at (Some x) q again = (
          (λ w i. ⊎_elim (λ e. subst (λ y. In y (of_all ds)) (sym e) (chosen_stands out b ds x q h))
              (λ j. from_arms w (arm_of kept (grouped S T kept k b (x ∷ out))) x ds (arm_alike (grouped S T kept k b (x ∷ out)) (again (x ∷ out))) h (labels_of x ds) j) i),
          (λ w i. (let r = has_label w x ds (chosen_told out b ds x q) i in inr (to_arms w (arm_of kept (grouped S T kept k b (x ∷ out))) x ds (arm_alike (grouped S T kept k b (x ∷ out)) (again (x ∷ out))) h r.0 (labels_of x ds) r.1 r.2))),
        )

  module _ (kept : (before after : Insts) → Kept) where
    mutual
      pub form_alike : (b : Insts) (n : Node) → Same (variables_of_node (formed S T kept b n)) (variables_of_node n)
      form_alike b (node s changes d m) = form_alike_in b (insts_after (node s changes d m) b) s

      form_alike_in : (b c : Insts) (s : Scheduled) → Same (variables_of_scheduled (formed_in S T kept b c s)) (variables_of_scheduled s)
      form_alike_in b c (Conj ns) = form_alike_all b ns
      form_alike_in b c (Disj ns) =
          same_onto (variables_of_scheduled (grouped S T (kept b c) (openings_of (disjuncts S T kept b ns)) b [] (disjuncts S T kept b ns))) (of_all (disjuncts S T kept b ns)) (variables_of_nodes ns)
          (grouped_alike (kept b c) b (openings_of (disjuncts S T kept b ns)) [] (disjuncts S T kept b ns) (told S T kept b ns)) (each_alike b ns)
      form_alike_in b c (Ite vs n t e) =
          same_both vs (variables_of_node (formed S T kept b n) ++ (variables_of_node (formed S T kept (insts_after n b) t) ++ variables_of_node (formed S T kept b e))) vs (variables_of_node n ++ (variables_of_node t ++ variables_of_node e)) (same_self vs)
          (same_both (variables_of_node (formed S T kept b n)) (variables_of_node (formed S T kept (insts_after n b) t) ++ variables_of_node (formed S T kept b e)) (variables_of_node n) (variables_of_node t ++ variables_of_node e) (form_alike b n)
          (same_both (variables_of_node (formed S T kept (insts_after n b) t)) (variables_of_node (formed S T kept b e)) (variables_of_node t) (variables_of_node e) (form_alike (insts_after n b) t) (form_alike b e)))
      form_alike_in b c (Not n) = form_alike b n
      form_alike_in b c (Exists vs n) = same_both vs (variables_of_node (formed S T kept b n)) vs (variables_of_node n) (same_self vs) (form_alike b n)
      form_alike_in b c (Switch x arms) = same_self (x ∷ variables_of_arms arms)
      form_alike_in b c (Assign x y) = same_self (x ∷ y ∷ [])
      form_alike_in b c (Test x y) = same_self (x ∷ y ∷ [])
      form_alike_in b c (Build x s ys) = same_self (x ∷ ys)
      form_alike_in b c (Take x s ys) = same_self (x ∷ ys)
      form_alike_in b c (Const x v) = same_self (x ∷ [])
      form_alike_in b c (TestConst x v) = same_self (x ∷ [])
      form_alike_in b c (Call p xs implied last) = same_self xs
      form_alike_in b c (Apply op xs ys) = same_self (xs ++ ys)

      pub form_alike_all : (b : Insts) (ns : Nodes) → Same (variables_of_nodes (formed_all S T kept b ns)) (variables_of_nodes ns)
      form_alike_all b no_nodes = same_self []
      form_alike_all b (node_then n ns) =
          same_both (variables_of_node (formed S T kept b n)) (variables_of_nodes (formed_all S T kept (insts_after n b) ns)) (variables_of_node n) (variables_of_nodes ns) (form_alike b n) (form_alike_all (insts_after n b) ns)

      each_alike : (b : Insts) (ns : Nodes) → Same (of_all (disjuncts S T kept b ns)) (variables_of_nodes ns)
      each_alike b no_nodes = same_self []
      each_alike b (node_then n ns) =
          same_both (variables_of_node (formed S T kept b n)) (of_all (disjuncts S T kept b ns)) (variables_of_node n) (variables_of_nodes ns) (form_alike b n) (each_alike b ns)

pub forms_keep_variables : FormsKeepVariables
forms_keep_variables S T kept b n x = ((form_alike S T kept b n).0 x, (form_alike S T kept b n).1 x)
