-- The least inst above others, and graphs of insts that only grow.
use Rattle.std.proofs.Common.{◌≡◌, ◌⊎◌, inl, inr, ℕ, zero, suc, ◌<◌, List, [], ◌∷◌, length, get_or, replicate, refl, sym, ◌∙◌, subst, arith, ⊎_elim}
use Rattle.std.proofs.lemmas.List.{length-replicate, get_or-replicate}
use Rattle.mc_program.specs.Values.{Val, int, char, str, con, state, Vals, no_vals, val_then}
use Rattle.mc_program.specs.Programs.{TypeTerm, variable_type, Source}
use Rattle.mc_model.specs.Types.{argument_types}
use Rattle.mc_model.specs.Insts.{Listed, InstNode, free, ground, unique, dead, bound, Graph, Lists, AllowsSymbol, AllowsConstants, Within, AllWithin}
use Rattle.mc_accepted.specs.Inclusion.{Path, Tip, symbol_tip, constant_tip, state_tip, AllowsMark, AllowsTip, Allows, NoMore, IncludedNodes, Included, AllFree, NoneIs, OneIsDead, NoneMore, LeastAbove, MergedNodes, Merged}
use Rattle.laws_language.specs.MergeLaws.{EitherIsLeast, OneIsMerged, MergedAllowTheSame, NodesBelow, ListedBelow, ArgumentsBelow, Grows, OlderNodesKeepPaths, OlderNodesKeepValues, OlderNodesKeepInclusion, OlderNodesKeepMerges}
use Rattle.laws_language.proofs.Inclusions.{Over, allows_over, over_allows, on_types, on_types_to}

pub either_is_least : EitherIsLeast
either_is_least P G i j k t h =
    record {
      above = (h.first, (h.second, tt));
      least = λ H proper m more path e a. ⊎_elim (λ b. more.0 path e b) (λ b. more.1.0 path e b) (h.either path e a);
    }

-- one inst, as often as it stands there
module _ (P : Source) (G : Graph) (i : ℕ) (t : TypeTerm) where
  all_free : (n : ℕ) → G i ≡ free → AllFree G (replicate n i)
  all_free zero e = tt
  all_free (suc n) e = (e, all_free n e)

  none_is : (N : InstNode) (n : ℕ) → (G i ≡ N → ⊥) → NoneIs N G (replicate n i)
  none_is N zero e = tt
  none_is N (suc n) e = (e, none_is N n e)

  none_more : (n : ℕ) → NoneMore P G (replicate n i) G i t
  none_more zero = tt
  none_more (suc n) = ((λ path e a. a), none_more n)

  is_least : (n : ℕ) → LeastAbove P G (replicate (suc n) i) i t
  is_least n = record { above = none_more (suc n); least = λ H proper m more. more.0 }

  merged_node : (N : InstNode) (n : ℕ) → G i ≡ N → MergedNodes G (replicate (suc n) i) N (LeastAbove P G (replicate (suc n) i) i t)
  merged_node free n e = all_free (suc n) e
  merged_node dead n e = (none_is free (suc n) (λ f. let g : dead ≡ free = sym e ∙ f in cc), inl e)
  merged_node ground n e = (none_is free (suc n) (λ f. let g : ground ≡ free = sym e ∙ f in cc), none_is dead (suc n) (λ f. let g : ground ≡ dead = sym e ∙ f in cc), is_least n)
  merged_node unique n e = (none_is free (suc n) (λ f. let g : unique ≡ free = sym e ∙ f in cc), none_is dead (suc n) (λ f. let g : unique ≡ dead = sym e ∙ f in cc), is_least n)
  merged_node (bound ls) n e = (none_is free (suc n) (λ f. let g : bound ls ≡ free = sym e ∙ f in cc), none_is dead (suc n) (λ f. let g : bound ls ≡ dead = sym e ∙ f in cc), is_least n)

pub one_is_merged : OneIsMerged
one_is_merged P G i n t = merged_node P G i t (G i) n refl

-- what a merged inst is
abbrev Kinds : Graph → List ℕ → InstNode → Type 0 → Type 0
Kinds G is N Q = ((N ≡ free) × AllFree G is) ⊎ ((N ≡ dead) × NoneIs free G is × OneIsDead G is) ⊎ (NoneIs free G is × NoneIs dead G is × Q)

kinds : (G : Graph) (is : List ℕ) (N : InstNode) (Q : Type 0) → MergedNodes G is N Q → Kinds G is N Q
kinds G is free Q h = inl (refl, h)
kinds G is dead Q h = inr (inl (refl, h.0, h.1))
kinds G is ground Q h = inr (inr h)
kinds G is unique Q h = inr (inr h)
kinds G is (bound ls) Q h = inr (inr h)

none_or_one : (G : Graph) (is : List ℕ) → NoneIs dead G is → OneIsDead G is → ⊥
none_or_one G [] none one = one
none_or_one G (i ∷ is) none one = ⊎_elim (λ e. none.0 e) (λ rest. none_or_one G is none.1 rest) one

module _ (P : Source) (G : Graph) where
  -- `free` allows nothing
  nothing_allowed : (path : Path) (e : Tip) (i : ℕ) (t : TypeTerm) → G i ≡ free → Allows P G path e i t → ⊥
  nothing_allowed [] (symbol_tip s) i t n a = on_types_to (argument_types P s t) _ ⊥ (λ ts h. subst (λ N. AllowsSymbol P N i s (λ is. Unit {0})) n h) a
  nothing_allowed [] (constant_tip b) i t n a = subst AllowsConstants n a.1
  nothing_allowed [] (state_tip m) i t n a = subst (λ N. AllowsMark N m) n a.1
  nothing_allowed ((s, k) ∷ path) e i t n a =
      on_types_to (argument_types P s t) _ ⊥ (λ ts h. subst (λ N. AllowsSymbol P N i s (λ is. (k < length is) × Allows P G path e (get_or is k 0) (get_or ts k (variable_type 0)))) n h) a

  -- two nodes that are `dead` allow the same
  dead_alike : (path : Path) (e : Tip) (k h : ℕ) (t : TypeTerm) → G k ≡ dead → G h ≡ dead → Allows P G path e k t → Allows P G path e h t
  dead_alike [] (symbol_tip s) k h t n m a = on_types (argument_types P s t) _ _ (λ ts q. subst (λ N. AllowsSymbol P N h s (λ is. Unit {0})) (sym m) tt) a
  dead_alike [] (constant_tip b) k h t n m a = (a.0, subst AllowsConstants (sym m) tt)
  dead_alike [] (state_tip mark) k h t n m a = (a.0, subst (λ N. AllowsMark N mark) (sym m) tt)
  dead_alike ((s, j) ∷ path) e k h t n m a =
      on_types (argument_types P s t) _ _
      (λ ts q.
      let r = subst (λ N. AllowsSymbol P N k s (λ is. (j < length is) × Allows P G path e (get_or is j 0) (get_or ts j (variable_type 0)))) n q in
      subst (λ N. AllowsSymbol P N h s (λ is. (j < length is) × Allows P G path e (get_or is j 0) (get_or ts j (variable_type 0)))) (sym m) (
        omega (arith, r.0, length-replicate (P.symbols s).name.arity k, length-replicate (P.symbols s).name.arity h),
        subst (λ i. Allows P G path e i (get_or ts j (variable_type 0)))
            (sym (get_or-replicate (P.symbols s).name.arity j h 0 (omega (arith, r.0, length-replicate (P.symbols s).name.arity k))))
            (dead_alike path e k h (get_or ts j (variable_type 0)) n m
            (subst (λ i. Allows P G path e i (get_or ts j (variable_type 0)))
            (get_or-replicate (P.symbols s).name.arity j k 0 (omega (arith, r.0, length-replicate (P.symbols s).name.arity k))) r.1)),
      )) a

pub merged_allow_the_same : MergedAllowTheSame
merged_allow_the_same P G proper i is k h t merged other =
    ⊎_elim (λ f path e a. absurd (nothing_allowed P G path e k t f.0 a))
    (λ rest.
    ⊎_elim
    (λ d.
    ⊎_elim (λ f. absurd (d.1.0 f.1.0)) (λ rest. ⊎_elim (λ d' path e a. dead_alike P G path e k h t d.0 d'.0 a) (λ q. absurd (none_or_one G (i ∷ is) q.1 d.2)) rest) others)
    (λ q.
    ⊎_elim (λ f. absurd (q.0.0 f.1.0)) (λ rest. ⊎_elim (λ d. absurd (none_or_one G (i ∷ is) q.1 d.2)) (λ q'. q.2.least G proper h q'.2.above) rest) others)
    rest)
    (kinds G (i ∷ is) (G k) (LeastAbove P G (i ∷ is) k t) merged)
  where
    others : Kinds G (i ∷ is) (G h) (LeastAbove P G (i ∷ is) h t)
    others = kinds G (i ∷ is) (G h) (LeastAbove P G (i ∷ is) h t) other

-- what is below a number
below_replicate : (n m i : ℕ) → i < n → NodesBelow n (replicate m i)
below_replicate n zero i lt = tt
below_replicate n (suc m) i lt = (lt, below_replicate n m i lt)

below_at : (n : ℕ) (is : List ℕ) (k : ℕ) → NodesBelow n is → k < length is → get_or is k 0 < n
below_at n [] k h lt = absurd (omega (arith, lt))
below_at n (i ∷ is) zero h lt = h.0
below_at n (i ∷ is) (suc k) h lt = below_at n is k h.1 (omega (arith, lt))

below_listed : (P : Source) (n : ℕ) (ls : List Listed) (s : ℕ) (is : List ℕ) → ListedBelow n ls → Lists P ls s (λ js. js ≡ is) → NodesBelow n is
below_listed P n [] s is h over = absurd over
below_listed P n (l ∷ ls) s is h over = ⊎_elim (λ a. subst (NodesBelow n) a.2 h.0) (λ b. below_listed P n ls s is h.1 b) over

below_over : (P : Source) (n : ℕ) (N : InstNode) (i s : ℕ) (is : List ℕ) → ArgumentsBelow n N → i < n → Over P N i s is → NodesBelow n is
below_over P n free i s is h lt over = absurd over
below_over P n ground i s is h lt over = subst (NodesBelow n) over (below_replicate n (P.symbols s).name.arity i lt)
below_over P n unique i s is h lt over = subst (NodesBelow n) over (below_replicate n (P.symbols s).name.arity i lt)
below_over P n dead i s is h lt over = subst (NodesBelow n) over (below_replicate n (P.symbols s).name.arity i lt)
below_over P n (bound ls) i s is h lt over = below_listed P n ls s is h over

module _ (P : Source) (G H : Graph) (n : ℕ) (grows : Grows n G H) where
  keeps_path : (path : Path) (e : Tip) (i : ℕ) (t : TypeTerm) → i < n → Allows P G path e i t → Allows P H path e i t
  keeps_path [] e i t lt a = subst (λ N. AllowsTip P N i t e) (sym (grows.same i lt)) a
  keeps_path ((s, k) ∷ path) e i t lt a =
      on_types (argument_types P s t) _ _
      (λ ts h.
      let r = allows_over P (G i) i s (λ is. (k < length is) × Allows P G path e (get_or is k 0) (get_or ts k (variable_type 0))) h in
      over_allows P (H i) i s (λ is. (k < length is) × Allows P H path e (get_or is k 0) (get_or ts k (variable_type 0))) r.0
      (subst (λ N. Over P N i s r.0) (sym (grows.same i lt)) r.1)
      (r.2.0, keeps_path path e (get_or r.0 k 0) (get_or ts k (variable_type 0)) (below_at n r.0 k (below_over P n (G i) i s r.0 (grows.closed i lt) lt r.1) r.2.0) r.2.1)) a

  mutual
    keeps_value : (v : Val) (i : ℕ) → i < n → Within P G v i → Within P H v i
    keeps_value (int m) i lt w = subst AllowsConstants (sym (grows.same i lt)) w
    keeps_value (char c) i lt w = subst AllowsConstants (sym (grows.same i lt)) w
    keeps_value (str bytes) i lt w = subst AllowsConstants (sym (grows.same i lt)) w
    keeps_value (state written taken) i lt w = subst AllowsConstants (sym (grows.same i lt)) w
    keeps_value (con s vs) i lt w =
        let r = allows_over P (G i) i s (AllWithin P G vs) w in
        over_allows P (H i) i s (AllWithin P H vs) r.0 (subst (λ N. Over P N i s r.0) (sym (grows.same i lt)) r.1)
        (keeps_values vs r.0 (below_over P n (G i) i s r.0 (grows.closed i lt) lt r.1) r.2)

    keeps_values : (vs : Vals) (is : List ℕ) → NodesBelow n is → AllWithin P G vs is → AllWithin P H vs is
    keeps_values no_vals [] b w = w
    keeps_values no_vals (i ∷ is) b w = w
    keeps_values (val_then v vs) [] b w = w
    keeps_values (val_then v vs) (i ∷ is) b w = (keeps_value v i b.0 w.0, keeps_values vs is b.1 w.1)

-- the first nodes of the grown graph are those of the other
back : (G H : Graph) (n : ℕ) → Grows n G H → Grows n H G
back G H n grows = record { closed = λ i lt. subst (ArgumentsBelow n) (sym (grows.same i lt)) (grows.closed i lt); same = λ i lt. sym (grows.same i lt) }

pub older_nodes_keep_paths : OlderNodesKeepPaths
older_nodes_keep_paths P G H n grows i lt path e t = (keeps_path P G H n grows path e i t lt, keeps_path P H G n (back G H n grows) path e i t lt)

pub older_nodes_keep_values : OlderNodesKeepValues
older_nodes_keep_values P G H n grows i lt v = (keeps_value P G H n grows v i lt, keeps_value P H G n (back G H n grows) v i lt)

-- inclusion and merging by what is allowed
included_by : (Q R : Type 0) → (Q → R) → (N M : InstNode) → IncludedNodes N M Q → IncludedNodes N M R
included_by Q R f free free h = h
included_by Q R f free ground h = h
included_by Q R f free unique h = h
included_by Q R f free dead h = h
included_by Q R f free (bound ms) h = h
included_by Q R f ground free h = h
included_by Q R f ground ground h = f h
included_by Q R f ground unique h = f h
included_by Q R f ground dead h = h
included_by Q R f ground (bound ms) h = f h
included_by Q R f unique free h = h
included_by Q R f unique ground h = f h
included_by Q R f unique unique h = f h
included_by Q R f unique dead h = h
included_by Q R f unique (bound ms) h = f h
included_by Q R f dead free h = h
included_by Q R f dead ground h = h
included_by Q R f dead unique h = h
included_by Q R f dead dead h = h
included_by Q R f dead (bound ms) h = h
included_by Q R f (bound ls) free h = h
included_by Q R f (bound ls) ground h = f h
included_by Q R f (bound ls) unique h = f h
included_by Q R f (bound ls) dead h = h
included_by Q R f (bound ls) (bound ms) h = f h

module _ (P : Source) (G H : Graph) (n : ℕ) (grows : Grows n G H) where
  abbrev to_grown : (path : Path) (e : Tip) (i : ℕ) (t : TypeTerm) → i < n → Allows P G path e i t → Allows P H path e i t
  to_grown path e i t lt a = keeps_path P G H n grows path e i t lt a

  abbrev from_grown : (path : Path) (e : Tip) (i : ℕ) (t : TypeTerm) → i < n → Allows P H path e i t → Allows P G path e i t
  from_grown path e i t lt a = keeps_path P H G n (back G H n grows) path e i t lt a

  keeps_inclusion : (i j : ℕ) (t : TypeTerm) → i < n → j < n → Included P G i j t → Included P H i j t
  keeps_inclusion i j t li lj h =
      subst (λ N. IncludedNodes N (H j) (NoMore P H i j t)) (sym (grows.same i li))
      (subst (λ N. IncludedNodes (G i) N (NoMore P H i j t)) (sym (grows.same j lj))
      (included_by (NoMore P G i j t) (NoMore P H i j t) (λ more path e a. to_grown path e j t lj (more path e (from_grown path e i t li a))) (G i) (G j) h))

  keeps_all_free : (is : List ℕ) → NodesBelow n is → AllFree G is → AllFree H is
  keeps_all_free [] b h = tt
  keeps_all_free (i ∷ is) b h = (grows.same i b.0 ∙ h.0, keeps_all_free is b.1 h.1)

  keeps_none : (N : InstNode) (is : List ℕ) → NodesBelow n is → NoneIs N G is → NoneIs N H is
  keeps_none N [] b h = tt
  keeps_none N (i ∷ is) b h = ((λ e. h.0 (sym (grows.same i b.0) ∙ e)), keeps_none N is b.1 h.1)

  keeps_one_dead : (is : List ℕ) → NodesBelow n is → OneIsDead G is → OneIsDead H is
  keeps_one_dead [] b h = h
  keeps_one_dead (i ∷ is) b h = ⊎_elim (λ e. inl (grows.same i b.0 ∙ e)) (λ rest. inr (keeps_one_dead is b.1 rest)) h

  keeps_above : (is : List ℕ) (k : ℕ) (t : TypeTerm) → NodesBelow n is → k < n → NoneMore P G is G k t → NoneMore P H is H k t
  keeps_above [] k t b lt h = tt
  keeps_above (i ∷ is) k t b lt h = ((λ path e a. to_grown path e k t lt (h.0 path e (from_grown path e i t b.0 a))), keeps_above is k t b.1 lt h.1)

  above_before : (is : List ℕ) (K : Graph) (k : ℕ) (t : TypeTerm) → NodesBelow n is → NoneMore P H is K k t → NoneMore P G is K k t
  above_before [] K k t b h = tt
  above_before (i ∷ is) K k t b h = ((λ path e a. h.0 path e (to_grown path e i t b.0 a)), above_before is K k t b.1 h.1)

  keeps_least : (is : List ℕ) (k : ℕ) (t : TypeTerm) → NodesBelow n is → k < n → LeastAbove P G is k t → LeastAbove P H is k t
  keeps_least is k t b lt l =
      record {
        above = keeps_above is k t b lt l.above;
        least = λ K proper j more path e a. l.least K proper j (above_before is K j t b more) path e (from_grown path e k t lt a);
      }

  keeps_merged_node : (is : List ℕ) (Q R : Type 0) → NodesBelow n is → (Q → R) → (N : InstNode) → MergedNodes G is N Q → MergedNodes H is N R
  keeps_merged_node is Q R b f free h = keeps_all_free is b h
  keeps_merged_node is Q R b f dead h = (keeps_none free is b h.0, keeps_one_dead is b h.1)
  keeps_merged_node is Q R b f ground h = (keeps_none free is b h.0, keeps_none dead is b h.1, f h.2)
  keeps_merged_node is Q R b f unique h = (keeps_none free is b h.0, keeps_none dead is b h.1, f h.2)
  keeps_merged_node is Q R b f (bound ls) h = (keeps_none free is b h.0, keeps_none dead is b h.1, f h.2)

  keeps_merged : (is : List ℕ) (k : ℕ) (t : TypeTerm) → NodesBelow n is → k < n → Merged P G is k t → Merged P H is k t
  keeps_merged is k t b lt h =
      subst (λ N. MergedNodes H is N (LeastAbove P H is k t)) (sym (grows.same k lt))
      (keeps_merged_node is (LeastAbove P G is k t) (LeastAbove P H is k t) b (λ l. keeps_least is k t b lt l) (G k) h)

pub older_nodes_keep_inclusion : OlderNodesKeepInclusion
older_nodes_keep_inclusion P G H n grows i j li lj t = (keeps_inclusion P G H n grows i j t li lj, keeps_inclusion P H G n (back G H n grows) i j t li lj)

pub older_nodes_keep_merges : OlderNodesKeepMerges
older_nodes_keep_merges P G H n grows is k b lt t = (keeps_merged P G H n grows is k t b lt, keeps_merged P H G n (back G H n grows) is k t b lt)
