-- Definitions of insts: what each shows by itself, which rules it breaks, and the nodes that they are.
use Rattle.std.proofs.Common.{◌≡◌, ◌⊎◌, ◌↔◌, inl, inr, ℕ, zero, suc, ◌+◌, ◌<◌, ◌++◌, Bool, true, List, [], ◌∷◌, length, get_or, map, take, Some, None, Result, Ok, Err, IfErr, IsTrue, refl, sym, ap, ◌∙◌, subst, arith, ⊎_elim}
use Rattle.std.specs.Result.{IsErrAnd}
use Rattle.std.proofs.lemmas.List.{get_or-map}
use Rattle.mc_model.specs.declared.inst.InstRef.{InstRef}
use Rattle.mc_model.specs.declared.inst.InstRef.TheVariants.{Old, New}
use Rattle.mc_model.specs.declared.inst.Choice.{Choice}
use Rattle.mc_accepted.specs.InstRules.{PlainChoice, PlainInstDef, same_inst, bound_inst, definition_at, named_by, StandsFor, that_node, another_name as by_name, IsUnfounded, OneIsFree, OneHasFree, HasFree, HasFreeInside}
use Rattle.mc_insts.specs.declared.chains.Chain.{Chain}
use Rattle.mc_insts.specs.declared.chains.Chain.TheVariants as C
use Rattle.mc_insts.specs.declared.define.InstDef.{InstDef}
use Rattle.mc_insts.specs.declared.define.InstFault.{InstFault}
use Rattle.mc_insts.specs.declared.define.InstFault.TheVariants as F
use Rattle.mc_insts.specs.Defining.{plain_choice, plain_definition, plain_definitions, bounds_of, IsNode, there, made, another_name, AreSound, IsFault, FitsThere, AllFitThere, DefinitionFits, DefinitionsFit}
use Rattle.mc_insts.specs.code.Chains.{chain_at, names_of, is_known, next_in, AllThere, ChainIs, ChainsAre, named_chain, first_chain, FirstChains, ChainsNodes, InstsAre, FaultAt}
use Rattle.mc_insts.proofs.Found.{by_order}
use Rattle.mc_insts.proofs.Chained.{node_one, ring_lost, first_step}

module _ (ds : List PlainInstDef) (first : ℕ) where
  first_is : (k : ℕ) (d : PlainInstDef) → definition_at ds k ≡ d → ChainIs ds first k (first_chain ds first k d)
  first_is k (same_inst (Old i)) e = another_name e there
  first_is k (same_inst (New j)) e = e
  first_is k (bound_inst cs) e = made e refl

  first_named : (k j : ℕ) (d : PlainInstDef) → named_by d ≡ Some j → is_known (first_chain ds first k d) ≡ true → ⊥
  first_named k j (same_inst (Old i)) e h = cc
  first_named k j (same_inst (New n)) e h = cc
  first_named k j (bound_inst cs) e h = cc

  first_next : (k j : ℕ) (d : PlainInstDef) → names_of (first_chain ds first k d) ≡ Some j → d ≡ same_inst (New j)
  first_next k j (same_inst (Old i)) e = cc
  first_next k j (same_inst (New n)) e = let x : n ≡ j = cc in ap (λ m. same_inst (New m)) x
  first_next k j (bound_inst cs) e = cc

  past : (xs : List PlainInstDef) (k j : ℕ) → named_by (definition_at xs k) ≡ Some j → k < length xs
  past [] k j e = cc
  past (x ∷ xs) zero j e = omega arith
  past (x ∷ xs) (suc k) j e = let h : k < length xs = past xs k j e in omega arith

  past_next : (xs : List Chain) (k j : ℕ) → next_in xs k ≡ Some j → k < length xs
  past_next [] k j e = cc
  past_next (x ∷ xs) zero j e = omega arith
  past_next (x ∷ xs) (suc k) j e = let h : k < length xs = past_next xs k j e in omega arith

  module _ (cs : List Chain) (count : length cs ≡ length ds) (firsts : FirstChains ds first cs) where
    pub first_are : ChainsAre ds first cs
    first_are = record {
      count = count;
      are = λ k lt. let w : k < length ds = omega arith in subst (ChainIs ds first k) (sym (firsts k w)) (first_is k (definition_at ds k) refl);
      closed = λ k j e h. absurd (first_named k j (definition_at ds k) e (sym (ap is_known (firsts k (past ds k j e))) ∙ h));
    }

    pub first_there : (n : ℕ) → DefinitionsFit n ds → AllThere cs
    first_there n fit k j e =
        let l : k < length cs = past_next cs k j e in
        let w : k < length ds = omega arith in
        let d = first_next k j (definition_at ds k) (sym (ap names_of (firsts k w)) ∙ e) in
        let f : DefinitionFits n (length ds) (same_inst (New j)) = subst (DefinitionFits n (length ds)) d (fit k w) in
        subst (λ m. j < m) (sym count) f

  -- what stands for an older node is it
  pub node_stands : (r : InstRef) (i : ℕ) → StandsFor ds r i → IsNode ds first r i
  node_stands r i that_node = there
  node_stands r i (by_name {r = s} e h) = another_name e (node_stands s i h)

  pub stands_node : (r : InstRef) (i : ℕ) → i < first → IsNode ds first r i → StandsFor ds r i
  stands_node r i w there = that_node
  stands_node r i w (made e n) = absurd (omega arith)
  stands_node r i w (another_name {r = s} e h) = by_name e (stands_node s i w h)

  module _ (some : 0 < first) (cs : List Chain) (are : ChainsAre ds first cs) where
    -- whether an inst is free
    pub free_old : (i : ℕ) (b : Bool) → (IsTrue b ↔ (i ≡ 0)) → IsTrue b ↔ StandsFor ds (Old i) 0
    free_old i b h = (
      (λ t. subst (λ j. StandsFor ds (Old j) 0) (sym (h.0 t)) that_node),
      (λ s. h.1 (node_one ds first (Old i) i 0 there (node_stands (Old i) 0 s))),
    )

    pub free_node : (k i : ℕ) (b : Bool) → k < length cs → chain_at cs k ≡ C.Node i → (IsTrue b ↔ (i ≡ 0)) → IsTrue b ↔ StandsFor ds (New k) 0
    free_node k i b lt e h =
        let n : IsNode ds first (New k) i = subst (ChainIs ds first k) e (are.are k lt) in (
          (λ t. stands_node (New k) 0 some (subst (IsNode ds first (New k)) (h.0 t) n)),
          (λ s. h.1 (node_one ds first (New k) i 0 n (node_stands (New k) 0 s))),
        )

    pub free_ring : (k : ℕ) → k < length cs → chain_at cs k ≡ C.Ring → StandsFor ds (New k) 0 → ⊥
    free_ring k lt e s =
        let r : IsUnfounded ds k = subst (ChainIs ds first k) e (are.are k lt) in
        ring_lost ds first 0 k r (node_stands (New k) 0 s)

    pub free_endless : (k : ℕ) → k < length cs → chain_at cs k ≡ C.Endless → StandsFor ds (New k) 0 → ⊥
    free_endless k lt e s =
        let r : ChainIs ds first k C.Endless = subst (ChainIs ds first k) e (are.are k lt) in
        r.0 0 (node_stands (New k) 0 s)

    -- which definitions are well founded
    pub founded_node : (k i : ℕ) → k < length cs → chain_at cs k ≡ C.Node i → IsUnfounded ds k → ⊥
    founded_node k i lt e h =
        let n : IsNode ds first (New k) i = subst (ChainIs ds first k) e (are.are k lt) in
        ring_lost ds first i k h n

    pub founded_endless : (k : ℕ) → k < length cs → chain_at cs k ≡ C.Endless → IsUnfounded ds k → ⊥
    founded_endless k lt e h =
        let r : ChainIs ds first k C.Endless = subst (ChainIs ds first k) e (are.are k lt) in
        r.1 h

    pub unfounded : (k : ℕ) → k < length cs → chain_at cs k ≡ C.Ring → IsUnfounded ds k
    unfounded k lt e = subst (ChainIs ds first k) e (are.are k lt)

    pub founded_bound : (k : ℕ) (xs : List PlainChoice) → definition_at ds k ≡ bound_inst xs → IsUnfounded ds k → ⊥
    founded_bound k xs e h =
        let s = first_step (λ j. named_by (definition_at ds j)) k k h in
        let z : None ≡ Some s.0 = sym (ap named_by e) ∙ s.1 in cc

    pub no_free_name : (k : ℕ) (r : InstRef) → definition_at ds k ≡ same_inst r → HasFreeInside ds k → ⊥
    no_free_name k r e h = subst (HasFree ds) e h

    pub insts_are : (is : List ℕ) → ChainsNodes cs is → InstsAre ds first is
    insts_are is n = record {
      count = n.count ∙ are.count;
      each = λ k lt. let c = are.count in let w : k < length cs = omega arith in subst (ChainIs ds first k) (n.each k w) (are.are k w);
    }

  -- the first fault
  pub first_fault : (k : ℕ) (fault : InstFault) → k < length ds → AreSound ds k → FaultAt ds k fault → IsFault ds fault
  first_fault k (F.FreeInside j) lt sound h = let e : j ≡ k = h.0 in (omega arith, subst (HasFreeInside ds) (sym e) h.1, subst (AreSound ds) (sym e) sound)
  first_fault k (F.NotFounded j) lt sound h =
      let e : j ≡ k = h.0 in (
        omega arith,
        subst (IsUnfounded ds) (sym e) h.1,
        (λ f. h.2 (subst (HasFreeInside ds) e f)),
        subst (AreSound ds) (sym e) sound,
      )
  first_fault k F.Memory lt sound h = tt

  -- nodes are there
  bounds_within : (xs : List PlainInstDef) (k : ℕ) (cs : List PlainChoice) → k < length xs → definition_at xs k ≡ bound_inst cs → bounds_of (take k xs) < bounds_of xs
  bounds_within [] k cs lt e = absurd (omega arith)
  bounds_within (same_inst r ∷ xs) zero cs lt e = cc
  bounds_within (bound_inst ds ∷ xs) zero cs lt e = omega arith
  bounds_within (same_inst r ∷ xs) (suc k) cs lt e = bounds_within xs k cs (omega arith) e
  bounds_within (bound_inst ds ∷ xs) (suc k) cs lt e = let h = bounds_within xs k cs (omega arith) e in omega arith

  pub node_within : (r : InstRef) (i : ℕ) → DefinitionsFit first ds → FitsThere first (length ds) r → IsNode ds first r i → i < first + bounds_of ds
  node_within r i fit f (there {i = n}) = let w : n < first = f in omega arith
  node_within r i fit f (made {k = k} {cs = cs} e n) = let h = bounds_within ds k cs f e in omega arith
  node_within r i fit f (another_name {k = k} {r = s} e n) =
      node_within s i fit (subst (DefinitionFits first (length ds)) e (fit k f)) n

-- the definitions that list constructors, one more being counted
same_after : (ds : List PlainInstDef) (k : ℕ) (r : InstRef) → k < length ds → definition_at ds k ≡ same_inst r → bounds_of (take (suc k) ds) ≡ bounds_of (take k ds)
same_after [] k r lt e = absurd (omega arith)
same_after (same_inst s ∷ ds) zero r lt e = refl
same_after (bound_inst cs ∷ ds) zero r lt e = cc
same_after (same_inst s ∷ ds) (suc k) r lt e = same_after ds k r (omega arith) e
same_after (bound_inst cs ∷ ds) (suc k) r lt e = ap suc (same_after ds k r (omega arith) e)

pub bounds_same : (ds : List PlainInstDef) (k : ℕ) (r : InstRef) → k < length ds → definition_at ds k ≡ same_inst r → bounds_of (take (k + 1) ds) ≡ bounds_of (take k ds)
bounds_same ds k r lt e = let n : k + 1 ≡ suc k = omega arith in ap (λ m. bounds_of (take m ds)) n ∙ same_after ds k r lt e

more_after : (ds : List PlainInstDef) (k : ℕ) (cs : List PlainChoice) → k < length ds → definition_at ds k ≡ bound_inst cs → bounds_of (take (suc k) ds) ≡ suc (bounds_of (take k ds))
more_after [] k cs lt e = absurd (omega arith)
more_after (same_inst s ∷ ds) zero cs lt e = cc
more_after (bound_inst xs ∷ ds) zero cs lt e = refl
more_after (same_inst s ∷ ds) (suc k) cs lt e = more_after ds k cs (omega arith) e
more_after (bound_inst xs ∷ ds) (suc k) cs lt e = ap suc (more_after ds k cs (omega arith) e)

pub bounds_more : (ds : List PlainInstDef) (k : ℕ) (cs : List PlainChoice) → k < length ds → definition_at ds k ≡ bound_inst cs → bounds_of (take (k + 1) ds) ≡ suc (bounds_of (take k ds))
bounds_more ds k cs lt e = let n : k + 1 ≡ suc k = omega arith in ap (λ m. bounds_of (take m ds)) n ∙ more_after ds k cs lt e

chain_push : (cs : List Chain) (c : Chain) (k : ℕ) → k < length cs → chain_at (cs ++ c ∷ []) k ≡ chain_at cs k
chain_push [] c k lt = absurd (omega arith)
chain_push (x ∷ cs) c zero lt = refl
chain_push (x ∷ cs) c (suc k) lt = chain_push cs c k (omega arith)

chain_last : (cs : List Chain) (c : Chain) → chain_at (cs ++ c ∷ []) (length cs) ≡ c
chain_last [] c = refl
chain_last (x ∷ cs) c = chain_last cs c

-- one more definition shows where it leads
pub firsts_more : (ds : List PlainInstDef) (first i : ℕ) (cs : List Chain) (c : Chain) → length cs ≡ i → ((k : ℕ) → k < i → chain_at cs k ≡ first_chain ds first k (definition_at ds k))
    → c ≡ first_chain ds first i (definition_at ds i) → (k : ℕ) → k < i + 1 → chain_at (cs ++ c ∷ []) k ≡ first_chain ds first k (definition_at ds k)
firsts_more ds first i cs c n h e k lt =
    by_order k i
    (λ w. chain_push cs c k (omega arith) ∙ h k w)
    (λ q. ap (chain_at (cs ++ c ∷ [])) (q ∙ sym n) ∙ chain_last cs c ∙ e ∙ ap (λ j. first_chain ds first j (definition_at ds j)) (sym q))
    (λ w. absurd (omega arith))

-- insts one after another: which of them is free
one_after : (ds : List PlainInstDef) (rs : List InstRef) (i : ℕ) (d : InstRef) → i < length rs → OneIsFree ds (take (suc i) rs) → OneIsFree ds (take i rs) ⊎ StandsFor ds (get_or rs i d) 0
one_after ds [] i d lt h = absurd (omega arith)
one_after ds (r ∷ rs) zero d lt h = ⊎_elim (λ a. inr a) (λ b. inl b) h
one_after ds (r ∷ rs) (suc i) d lt h = ⊎_elim (λ a. inl (inl a)) (λ b. ⊎_elim (λ x. inl (inr x)) (λ y. inr y) (one_after ds rs i d (omega arith) b)) h

pub one_split : (ds : List PlainInstDef) (rs : List InstRef) (i : ℕ) (d : InstRef) → i < length rs → OneIsFree ds (take (i + 1) rs) → OneIsFree ds (take i rs) ⊎ StandsFor ds (get_or rs i d) 0
one_split ds rs i d lt h = let n : i + 1 ≡ suc i = omega arith in one_after ds rs i d lt (subst (λ m. OneIsFree ds (take m rs)) n h)

pub one_at : (ds : List PlainInstDef) (rs : List InstRef) (i : ℕ) (d : InstRef) → i < length rs → StandsFor ds (get_or rs i d) 0 → OneIsFree ds rs
one_at ds [] i d lt h = absurd (omega arith)
one_at ds (r ∷ rs) zero d lt h = inl h
one_at ds (r ∷ rs) (suc i) d lt h = inr (one_at ds rs i d (omega arith) h)

has_after : (ds : List PlainInstDef) (cs : List Choice) (i : ℕ) (d : Choice) → i < length cs → OneHasFree ds (map plain_choice (take (suc i) cs)) → OneHasFree ds (map plain_choice (take i cs)) ⊎ OneIsFree ds (get_or cs i d).args
has_after ds [] i d lt h = absurd (omega arith)
has_after ds (c ∷ cs) zero d lt h = ⊎_elim (λ a. inr a) (λ b. inl b) h
has_after ds (c ∷ cs) (suc i) d lt h = ⊎_elim (λ a. inl (inl a)) (λ b. ⊎_elim (λ x. inl (inr x)) (λ y. inr y) (has_after ds cs i d (omega arith) b)) h

pub has_split : (ds : List PlainInstDef) (cs : List Choice) (i : ℕ) (d : Choice) → i < length cs → OneHasFree ds (map plain_choice (take (i + 1) cs)) → OneHasFree ds (map plain_choice (take i cs)) ⊎ OneIsFree ds (get_or cs i d).args
has_split ds cs i d lt h = let n : i + 1 ≡ suc i = omega arith in has_after ds cs i d lt (subst (λ m. OneHasFree ds (map plain_choice (take m cs))) n h)

pub has_at : (ds : List PlainInstDef) (cs : List Choice) (i : ℕ) (d : Choice) → i < length cs → OneIsFree ds (get_or cs i d).args → OneHasFree ds (map plain_choice cs)
has_at ds [] i d lt h = absurd (omega arith)
has_at ds (c ∷ cs) zero d lt h = inl h
has_at ds (c ∷ cs) (suc i) d lt h = inr (has_at ds cs i d (omega arith) h)

pub args_fit : (n m : ℕ) (rs : List InstRef) → AllFitThere n m rs → (i : ℕ) (d : InstRef) → i < length rs → FitsThere n m (get_or rs i d)
args_fit n m [] f i d lt = absurd (omega arith)
args_fit n m (r ∷ rs) f zero d lt = f.0
args_fit n m (r ∷ rs) f (suc i) d lt = args_fit n m rs f.1 i d (omega arith)

-- a definition that was read
pub definition_read : (defs : List InstDef) (k : ℕ) (d : InstDef) → k < length defs → d ≡ get_or defs k d → definition_at (plain_definitions defs) k ≡ plain_definition d
definition_read defs k d lt e = get_or-map plain_definition defs k d (bound_inst []) lt ∙ ap plain_definition (sym e)

-- a fault that is handed on
pub passed_fault : {Y : Type 0} (Q : InstFault → Type 0) (fault : InstFault) (r : Result Y InstFault) → IsErrAnd r (λ e. e ≡ fault) → Q fault → IfErr r Q
passed_fault Q fault (Ok y) e q = tt
passed_fault Q fault (Err f) e q = subst Q (sym e) q

-- what one more definition shows, and the number of the next node after it
pub record FirstStep (ds : List PlainInstDef) (first i after : ℕ) (chain : Chain) : Type 0 where
  pub next : after ≡ first + bounds_of (take (i + 1) ds)
  pub shows : chain ≡ first_chain ds first i (definition_at ds i)

pub step_name : (ds : List PlainInstDef) (first i next after : ℕ) (r : InstRef) (chain : Chain) → i < length ds → definition_at ds i ≡ same_inst r → next ≡ first + bounds_of (take i ds) → after ≡ next → chain ≡ named_chain r
    → FirstStep ds first i after chain
step_name ds first i next after r chain lt e n a c =
    let b = bounds_same ds i r lt e in
    record { next = omega arith; shows = c ∙ sym (ap (first_chain ds first i) e) }

pub step_bound : (ds : List PlainInstDef) (first i next after : ℕ) (cs : List PlainChoice) (chain : Chain) → i < length ds → definition_at ds i ≡ bound_inst cs → next ≡ first + bounds_of (take i ds) → after ≡ next + 1
    → chain ≡ C.Node next → FirstStep ds first i after chain
step_bound ds first i next after cs chain lt e n a c =
    let b = bounds_more ds i cs lt e in
    record { next = omega arith; shows = c ∙ ap C.Node n ∙ sym (ap (first_chain ds first i) e) }
