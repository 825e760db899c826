-- Where definitions of insts lead by names.
use Rattle.std.proofs.Common.{◌≡◌, ◌⊎◌, inl, inr, ℕ, zero, suc, ◌<◌, true, false, List, [], ◌∷◌, length, get_or, set, Option, Some, None, refl, sym, ap, ◌∙◌, subst, arith, ⊎_elim}
use Rattle.mc_insts.proofs.Found.{get_any}
use Rattle.mc_model.specs.declared.inst.InstRef.{InstRef}
use Rattle.mc_model.specs.declared.inst.InstRef.TheVariants.{Old, New}
use Rattle.mc_accepted.specs.InstRules.{PlainInstDef, same_inst, bound_inst, definition_at, new_one, named_by, LeadsTo, at_once, by_another}
use Rattle.mc_insts.specs.declared.chains.Chain.{Chain}
use Rattle.mc_insts.specs.declared.chains.Chain.TheVariants as C
use Rattle.mc_insts.specs.Defining.{IsNode, there, made, another_name}
use Rattle.mc_insts.specs.code.Chains.{chain_at, names_of, is_known, next_in, known_at, AllThere, Comes, Settles, ChainIs, ChainsAre}

module _ (next : ℕ → Option ℕ) where
  pub leads_on : (k m n : ℕ) → LeadsTo next k m → LeadsTo next m n → LeadsTo next k n
  leads_on k m n (at_once e) h = by_another e h
  leads_on k m n (by_another {i = i} e g) h = by_another e (leads_on i m n g h)

  -- one step on
  pub step_out : (k m j : ℕ) → next k ≡ Some j → LeadsTo next k m → (j ≡ m) ⊎ LeadsTo next j m
  step_out k m j e (at_once f) = inl (let x : Some j ≡ Some m = sym e ∙ f in cc)
  step_out k m j e (by_another {i = i} f h) = inr (subst (λ x. LeadsTo next x m) (let x : Some i ≡ Some j = sym f ∙ e in cc) h)

  pub first_step : (k m : ℕ) → LeadsTo next k m → (j : ℕ) × (next k ≡ Some j)
  first_step k m (at_once {j = j} e) = (j, e)
  first_step k m (by_another {i = i} e h) = (i, e)

  -- what one on a ring is followed by is on a ring
  pub rotate : (k j : ℕ) → next k ≡ Some j → LeadsTo next k k → LeadsTo next j j
  rotate k j e h =
      ⊎_elim (λ (q : j ≡ k). subst (λ x. LeadsTo next x x) (sym q) h) (λ g. leads_on j k j g (at_once e)) (step_out k k j e h)

  pub ring_along : (k m : ℕ) → LeadsTo next k m → LeadsTo next k k → LeadsTo next m m
  ring_along k m (at_once e) h = rotate k m e h
  ring_along k m (by_another {i = i} e g) h = ring_along i m g (rotate k i e h)

  -- and leads back to it
  pub ring_back : (k m : ℕ) → LeadsTo next k m → LeadsTo next k k → LeadsTo next m k
  ring_back k m (at_once e) h = ⊎_elim (λ (q : m ≡ k). subst (λ x. LeadsTo next x k) (sym q) h) (λ g. g) (step_out k k m e h)
  ring_back k m (by_another {i = i} e g) h =
      let back : LeadsTo next m i = ring_back i m g (rotate k i e h) in
      ⊎_elim (λ (q : i ≡ k). subst (λ x. LeadsTo next m x) q back) (λ f. leads_on m i k back f) (step_out k k i e h)

  -- what holds along steps
  pub along : (Q : ℕ → Type 0) → ((k j : ℕ) → next k ≡ Some j → Q k → Q j) → (k m : ℕ) → LeadsTo next k m → Q k → Q m
  along Q f k m (at_once e) q = f k m e q
  along Q f k m (by_another {i = i} e h) q = along Q f i m h (f k i e q)

  pub against : (Q : ℕ → Type 0) → ((k j : ℕ) → next k ≡ Some j → Q j → Q k) → (k m : ℕ) → LeadsTo next k m → Q m → Q k
  against Q f k m (at_once e) q = f k m e q
  against Q f k m (by_another {i = i} e h) q = f k i e (against Q f i m h q)

pub leads_map : (f g : ℕ → Option ℕ) → ((k j : ℕ) → f k ≡ Some j → g k ≡ Some j) → (k m : ℕ) → LeadsTo f k m → LeadsTo g k m
leads_map f g h k m (at_once e) = at_once (h k m e)
leads_map f g h k m (by_another {i = i} e l) = by_another (h k i e) (leads_map f g h i m l)

-- a definition that names another
pub ref_named : (r : InstRef) (j : ℕ) → new_one r ≡ Some j → r ≡ New j
ref_named (Old i) j e = cc
ref_named (New k) j e = let x : k ≡ j = cc in ap New x

pub def_named : (d : PlainInstDef) (j : ℕ) → named_by d ≡ Some j → d ≡ same_inst (New j)
def_named (same_inst r) j e = ap same_inst (ref_named r j e)
def_named (bound_inst cs) j e = cc

module _ (ds : List PlainInstDef) (first : ℕ) where
  abbrev pub named : ℕ → Option ℕ
  named k = named_by (definition_at ds k)

  pub node_back : (i k j : ℕ) → named k ≡ Some j → IsNode ds first (New j) i → IsNode ds first (New k) i
  node_back i k j e n = another_name (def_named (definition_at ds k) j e) n

  next_node : (r : InstRef) (i k j : ℕ) → IsNode ds first r i → r ≡ New k → named k ≡ Some j → IsNode ds first (New j) i
  next_node r i k j there q e = cc
  next_node r i k j (made {k = m} {cs = cs} d n) q e =
      let x : m ≡ k = cc in
      let y : named k ≡ None = ap named (sym x) ∙ ap named_by d in
      let z : None ≡ Some j = sym y ∙ e in cc
  next_node r i k j (another_name {k = m} {r = s} d n) q e =
      let x : m ≡ k = cc in
      let y : named k ≡ new_one s = ap named (sym x) ∙ ap named_by d in
      subst (λ t. IsNode ds first t i) (ref_named s j (sym y ∙ e)) n

  pub node_next : (i k j : ℕ) → named k ≡ Some j → IsNode ds first (New k) i → IsNode ds first (New j) i
  node_next i k j e n = next_node (New k) i k j n refl e

  -- a ring has no node
  no_ring : (r : InstRef) (i k : ℕ) → IsNode ds first r i → r ≡ New k → LeadsTo named k k → ⊥
  no_ring r i k there q h = cc
  no_ring r i k (made {k = m} {cs = cs} d n) q h =
      let s = first_step named k k h in
      let x : m ≡ k = cc in
      let y : named k ≡ None = ap named (sym x) ∙ ap named_by d in
      let z : None ≡ Some s.0 = sym y ∙ s.1 in cc
  no_ring r i k (another_name {k = m} {r = t} d n) q h =
      let s = first_step named k k h in
      let x : m ≡ k = cc in
      let y : named k ≡ new_one t = ap named (sym x) ∙ ap named_by d in
      no_ring t i s.0 n (ref_named t s.0 (sym y ∙ s.1)) (rotate named k s.0 s.1 h)

  pub ring_lost : (i k : ℕ) → LeadsTo named k k → IsNode ds first (New k) i → ⊥
  ring_lost i k h n = no_ring (New k) i k n refl h

  -- an inst is one node
  pub node_one : (r : InstRef) (i j : ℕ) → IsNode ds first r i → IsNode ds first r j → i ≡ j
  node_one r i j there there = refl
  node_one r i j (made d e) (made f g) = e ∙ sym g
  node_one r i j (made d e) (another_name f n) = let x = sym d ∙ f in cc
  node_one r i j (another_name d m) (made f e) = let x = sym d ∙ f in cc
  node_one r i j (another_name {r = s} d m) (another_name {r = t} f n) =
      let x : same_inst s ≡ same_inst t = sym d ∙ f in
      let y : s ≡ t = cc in
      node_one t i j (subst (λ u. IsNode ds first u i) y m) n

  -- it leads to no node
  abbrev pub Lost : ℕ → Type 0
  Lost k = (i : ℕ) → IsNode ds first (New k) i → ⊥

  abbrev pub OnRing : ℕ → Type 0
  OnRing k = LeadsTo named k k

  -- what is known, by the definitions
  known_named : (c : Chain) (k j : ℕ) → ChainIs ds first k c → names_of c ≡ Some j → named k ≡ Some j
  known_named (C.Names i) k j h e = ap named_by h ∙ e
  known_named (C.Node i) k j h e = cc
  known_named C.Ring k j h e = cc
  known_named C.Endless k j h e = cc

  module _ (cs : List Chain) (are : ChainsAre ds first cs) where
    pub step_named : (k j : ℕ) → next_in cs k ≡ Some j → named k ≡ Some j
    step_named k j e = within (next_there cs k j e)
      where
        within : k < length cs → named k ≡ Some j
        within lt = known_named (chain_at cs k) k j (are.are k lt) e

        next_there : (xs : List Chain) (k j : ℕ) → next_in xs k ≡ Some j → k < length xs
        next_there [] k j e = cc
        next_there (x ∷ xs) zero j e = omega arith
        next_there (x ∷ xs) (suc k) j e = let h : k < length xs = next_there xs k j e in omega arith

    pub leads_named : (k m : ℕ) → LeadsTo (next_in cs) k m → LeadsTo named k m
    leads_named k m h = leads_map (next_in cs) named step_named k m h

    pub comes_along : (Q : ℕ → Type 0) → ((k j : ℕ) → named k ≡ Some j → Q k → Q j) → (k m : ℕ) → Comes cs k m → Q k → Q m
    comes_along Q f k m h q = ⊎_elim (λ (e : k ≡ m). subst Q e q) (λ l. along named Q f k m (leads_named k m l) q) h

    pub comes_against : (Q : ℕ → Type 0) → ((k j : ℕ) → named k ≡ Some j → Q j → Q k) → (k m : ℕ) → Comes cs k m → Q m → Q k
    comes_against Q f k m h q = ⊎_elim (λ (e : k ≡ m). subst Q (sym e) q) (λ l. against named Q f k m (leads_named k m l) q) h

    -- it is known of it where it leads, or of one that it leads to
    abbrev pub Into : ℕ → Type 0
    Into k = (known_at cs k ≡ true) ⊎ ((c : ℕ) × ((known_at cs c ≡ true) × LeadsTo named k c))

    pub into_next : (k j : ℕ) → named k ≡ Some j → Into k → Into j
    into_next k j e (inl h) = inl (are.closed k j e h)
    into_next k j e (inr x) = ⊎_elim (λ (q : j ≡ x.0). inl (subst (λ n. known_at cs n ≡ true) (sym q) x.1.0)) (λ l. inr (x.0, (x.1.0, l))) (step_out named k x.0 j e x.1.1)

    pub into_comes : (k m : ℕ) → Comes cs k m → known_at cs m ≡ true → Into k
    into_comes k m (inl e) h = inl (subst (λ n. known_at cs n ≡ true) (sym e) h)
    into_comes k m (inr l) h = inr (m, (h, leads_named k m l))

    -- where it isn't known of one, and it leads to one of which it is, it is on no ring
    pub off_ring : (k : ℕ) → known_at cs k ≡ false → Into k → OnRing k → ⊥
    off_ring k f (inl h) r = let x : false ≡ true = sym f ∙ h in cc
    off_ring k f (inr x) r =
        let back = ring_back named k x.0 x.1.1 r in
        let h : known_at cs k ≡ true = along named (λ n. known_at cs n ≡ true) (λ a b e y. are.closed a b e y) x.0 k back x.1.0 in
        let y : false ≡ true = sym f ∙ h in cc

    not_known : (c : Chain) → is_known c ≡ false → (j : ℕ) × (names_of c ≡ Some j)
    not_known (C.Names j) e = (j, refl)
    not_known (C.Node i) e = cc
    not_known C.Ring e = cc
    not_known C.Endless e = cc

    -- what is known after some were settled
    pub settled : (after : List Chain) (start : ℕ) (end : Chain) → Settles cs after start end → is_known end ≡ true
        → ((k : ℕ) → Comes cs start k → known_at cs k ≡ false → ChainIs ds first k end) → ChainsAre ds first after
    settled after start end s known carry = record {
      count = s.count ∙ are.count;
      are = λ k lt. ⊎_elim
          (λ (e : chain_at after k ≡ chain_at cs k). subst (ChainIs ds first k) (sym e) (are.are k (let l = s.count in omega arith)))
          (λ x. subst (ChainIs ds first k) (sym x.0) (carry k x.2 x.1))
          (s.each k);
      closed = λ k j e h. ⊎_elim
          (λ (q : chain_at after k ≡ chain_at cs k). stays j (are.closed k j e (sym (ap is_known q) ∙ h)))
          (λ x.
          let n = not_known (chain_at cs k) x.1 in
          let y : Some n.0 ≡ Some j = sym (step_named k n.0 n.1) ∙ e in
          let z : n.0 ≡ j = cc in
          s.closed k j (n.1 ∙ ap Some z) h)
          (s.each k);
    }
      where
        stays : (j : ℕ) → known_at cs j ≡ true → known_at after j ≡ true
        stays j h = ⊎_elim (λ (q : chain_at after j ≡ chain_at cs j). ap is_known q ∙ h) (λ x. ap is_known x.0 ∙ known) (s.each j)

    pub settled_ring : (after : List Chain) (start : ℕ) → Settles cs after start C.Ring → LeadsTo (next_in cs) start start → ChainsAre ds first after
    settled_ring after start s h =
        settled after start C.Ring s refl (λ k c f. comes_along OnRing (λ a b e r. rotate named a b e r) start k c (leads_named start start h))

    pub settled_node : (after : List Chain) (start m i : ℕ) → Settles cs after start (C.Node i) → Comes cs start m → IsNode ds first (New m) i → ChainsAre ds first after
    settled_node after start m i s c n =
        let from_start : IsNode ds first (New start) i = comes_against (λ k. IsNode ds first (New k) i) (node_back i) start m c n in
        settled after start (C.Node i) s refl (λ k d f. comes_along (λ x. IsNode ds first (New x) i) (node_next i) start k d from_start)

    pub settled_endless : (after : List Chain) (start : ℕ) → Settles cs after start C.Endless → Lost start → Into start → ChainsAre ds first after
    settled_endless after start s lost into =
        settled after start C.Endless s refl
        (λ k d f. (
          comes_along Lost (λ a b e l i n. l i (node_back i a b e n)) start k d lost,
          off_ring k f (comes_along Into into_next start k d into),
        ))

    -- what leads to a known place without a node has none
    pub lost_before : (start m : ℕ) → Comes cs start m → Lost m → Lost start
    lost_before start m c l = comes_against Lost (λ a b e f i n. f i (node_next i a b e n)) start m c l

-- the names that are left are there
pub all_there : (cs after : List Chain) (start : ℕ) (end : Chain) → Settles cs after start end → is_known end ≡ true → AllThere cs → AllThere after
all_there cs after start end s known all k j e =
    let l = s.count in
    ⊎_elim
    (λ (q : chain_at after k ≡ chain_at cs k). let w : j < length cs = all k j (sym (ap names_of q) ∙ e) in omega arith)
    (λ x. absurd (no_names end j known (sym (ap names_of x.0) ∙ e)))
    (s.each k)
  where
    no_names : (c : Chain) (j : ℕ) → is_known c ≡ true → names_of c ≡ Some j → ⊥
    no_names (C.Names i) j h e = cc
    no_names (C.Node i) j h e = cc
    no_names C.Ring j h e = cc
    no_names C.Endless j h e = cc

-- one step of a walk
pub comes_one : (cs : List Chain) (k m j : ℕ) → Comes cs k m → next_in cs m ≡ Some j → LeadsTo (next_in cs) k j
comes_one cs k m j c e = ⊎_elim (λ (q : k ≡ m). at_once (subst (λ n. next_in cs n ≡ Some j) (sym q) e)) (λ l. leads_on (next_in cs) k m j l (at_once e)) c

get_same : (cs : List Chain) (k : ℕ) (c : Chain) → k < length cs → chain_at (set cs k c) k ≡ c
get_same [] k c h = absurd (omega arith)
get_same (x ∷ cs) zero c h = refl
get_same (x ∷ cs) (suc k) c h = get_same cs k c (omega arith)

get_other : (cs : List Chain) (k j : ℕ) (c : Chain) → (j ≡ k → ⊥) → chain_at (set cs k c) j ≡ chain_at cs j
get_other [] k j c n = refl
get_other (x ∷ cs) zero zero c n = absurd (n refl)
get_other (x ∷ cs) zero (suc j) c n = refl
get_other (x ∷ cs) (suc k) zero c n = refl
get_other (x ∷ cs) (suc k) (suc j) c n = get_other cs k j c (λ e. n (ap suc e))

-- a step of settling: what holds while the definition `at` is the next one
pub record Settling (before now : List Chain) (start : ℕ) (end : Chain) (at : ℕ) : Type 0 where
  pub count : length now ≡ length before
  pub there : at < length now
  pub comes : Comes before start at
  pub begun : (known_at now start ≡ true) ⊎ (start ≡ at)
  pub each :
      (k : ℕ)
      → (chain_at now k ≡ chain_at before k)
      ⊎ ((chain_at now k ≡ end) × (known_at before k ≡ false) × Comes before start k)
  pub closed :
      (k j : ℕ) → next_in before k ≡ Some j → known_at now k ≡ true → (known_at now j ≡ true) ⊎ (j ≡ at)

pub settling_none : (cs : List Chain) (start : ℕ) (end : Chain) → start < length cs → Settling cs cs start end start
settling_none cs start end h = record {
  count = refl;
  there = h;
  comes = inl refl;
  begun = inr refl;
  each = λ k. inl refl;
  closed = λ k j e known. absurd (named_unknown (chain_at cs k) j e known);
}
  where
    named_unknown : (c : Chain) (j : ℕ) → names_of c ≡ Some j → is_known c ≡ true → ⊥
    named_unknown (C.Names i) j h e = cc
    named_unknown (C.Node i) j h e = cc
    named_unknown C.Ring j h e = cc
    named_unknown C.Endless j h e = cc

pub settling_done : (before now : List Chain) (start : ℕ) (end : Chain) (at : ℕ) → Settling before now start end at → known_at now at ≡ true → Settles before now start end
settling_done before now start end at s h = record {
  count = s.count;
  known = ⊎_elim (λ x. x) (λ (q : start ≡ at). subst (λ n. known_at now n ≡ true) (sym q) h) s.begun;
  each = s.each;
  closed = λ k j e known. ⊎_elim (λ x. x) (λ (q : j ≡ at). subst (λ n. known_at now n ≡ true) (sym q) h) (s.closed k j e known);
}

by_same : {P : Type 0} (a b : ℕ) → (a ≡ b → P) → ((a ≡ b → ⊥) → P) → P
by_same zero zero f g = f refl
by_same zero (suc b) f g = g (λ e. cc)
by_same (suc a) zero f g = g (λ e. cc)
by_same (suc a) (suc b) f g = by_same a b (λ e. f (ap suc e)) (λ n. g (λ e. n (let x : a ≡ b = cc in x)))

pub settling_more : (before now : List Chain) (start : ℕ) (end : Chain) (at next : ℕ) → AllThere before → is_known end ≡ true → Settling before now start end at
    → chain_at now at ≡ C.Names next → Settling before (set now at end) start end next
settling_more before now start end at next all known s is =
    let old : chain_at before at ≡ C.Names next = ⊎_elim (λ (q : chain_at now at ≡ chain_at before at). sym q ∙ is)
    (λ x. absurd (clash end next known (sym x.0 ∙ is))) (s.each at) in
    let e : next_in before at ≡ Some next = ap names_of old in
    let n : length (set now at end) ≡ length now = set_length now at in
    let w : next < length before = all at next e in
    let m = s.count in
    record {
      count = n ∙ s.count;
      there = omega arith;
      comes = inr (comes_one before start at next s.comes e);
      begun = inl (⊎_elim (λ y. stays start y) (λ (q : start ≡ at). subst (λ x. known_at (set now at end) x ≡ true) (sym q) at_known) s.begun);
      each = λ k. by_same k at
          (λ q. inr (
            subst (λ x. chain_at (set now at end) x ≡ end) (sym q) (get_same now at end s.there),
            subst (λ x. known_at before x ≡ false) (sym q) (ap is_known old),
            subst (λ x. Comes before start x) (sym q) s.comes,
          ))
          (λ d. ⊎_elim (λ (q : chain_at now k ≡ chain_at before k). inl (get_other now at k end d ∙ q)) (λ x. inr (get_other now at k end d ∙ x.0, x.1, x.2)) (s.each k));
      closed = λ k j f h. by_same k at
          (λ q. inr (let x : Some j ≡ Some next = sym f ∙ ap (next_in before) q ∙ e in cc))
          (λ d. ⊎_elim
          (λ y. inl (stays j y))
          (λ (q : j ≡ at). inl (subst (λ x. known_at (set now at end) x ≡ true) (sym q) at_known))
          (s.closed k j f (sym (ap is_known (get_other now at k end d)) ∙ h)));
    }
  where
    clash : (c : Chain) (j : ℕ) → is_known c ≡ true → c ≡ C.Names j → ⊥
    clash c j h e = let x : false ≡ true = sym (ap is_known e) ∙ h in cc

    set_length : (xs : List Chain) (k : ℕ) → length (set xs k end) ≡ length xs
    set_length [] k = refl
    set_length (x ∷ xs) zero = refl
    set_length (x ∷ xs) (suc k) = ap suc (set_length xs k)

    at_known : known_at (set now at end) at ≡ true
    at_known = ap is_known (get_same now at end s.there) ∙ known

    stays : (j : ℕ) → known_at now j ≡ true → known_at (set now at end) j ≡ true
    stays j h = by_same j at
        (λ q. subst (λ x. known_at (set now at end) x ≡ true) (sym q) at_known)
        (λ d. ap is_known (get_other now at j end d) ∙ h)

-- what an element that was read says
pub chain_is : (cs : List Chain) (k : ℕ) (c : Chain) → k < length cs → c ≡ get_or cs k c → chain_at cs k ≡ c
chain_is cs k c lt e = get_any cs k C.Endless c lt ∙ sym e

pub known_of : (c : Chain) → ((j : ℕ) → c ≡ C.Names j → ⊥) → is_known c ≡ true
known_of (C.Names j) h = absurd (h j refl)
known_of (C.Node i) h = refl
known_of C.Ring h = refl
known_of C.Endless h = refl

pub known_is : (cs : List Chain) (k : ℕ) (c : Chain) → k < length cs → c ≡ get_or cs k c → ((j : ℕ) → c ≡ C.Names j → ⊥) → known_at cs k ≡ true
known_is cs k c lt e h = ap is_known (chain_is cs k c lt e) ∙ known_of c h

pub next_is : (cs : List Chain) (k j : ℕ) (c : Chain) → k < length cs → c ≡ get_or cs k c → c ≡ C.Names j → next_in cs k ≡ Some j
next_is cs k j c lt e q = ap names_of (chain_is cs k c lt e ∙ q)

-- the definitions that a definition leads to: a ring that was settled, or one that is known
pub follows_ring : (ds : List PlainInstDef) (first : ℕ) (cs mid after : List Chain) (k j : ℕ) → ChainsAre ds first cs → Comes cs k j → LeadsTo (next_in cs) j j
    → Settles cs mid j C.Ring → Settles mid after k C.Endless → ChainsAre ds first after
follows_ring ds first cs mid after k j are comes ring s t =
    let m = settled_ring ds first cs are mid j s ring in
    let lost : Lost ds first k = lost_before ds first cs are k j comes (λ i n. ring_lost ds first i j (leads_named ds first cs are j j ring) n) in
    let into : Into ds first mid m k = ⊎_elim
    (λ (e : k ≡ j). inl (subst (λ n. known_at mid n ≡ true) (sym e) s.known))
    (λ l. inr (j, (s.known, leads_named ds first cs are k j l)))
    comes in
    settled_endless ds first mid m after k t lost into

pub follows_endless : (ds : List PlainInstDef) (first : ℕ) (cs after : List Chain) (k j : ℕ) → ChainsAre ds first cs → Comes cs k j → j < length cs
    → known_at cs j ≡ true → ((i : ℕ) → chain_at cs j ≡ C.Node i → ⊥) → Settles cs after k C.Endless → ChainsAre ds first after
follows_endless ds first cs after k j are comes lt known unlike t =
    let lost : Lost ds first k = lost_before ds first cs are k j comes (no_node (chain_at cs j) (are.are j lt) known unlike) in
    settled_endless ds first cs are after k t lost (into_comes ds first cs are k j comes known)
  where
    no_node : (c : Chain) → ChainIs ds first j c → is_known c ≡ true → ((i : ℕ) → c ≡ C.Node i → ⊥) → Lost ds first j
    no_node (C.Names i) h q n = cc
    no_node (C.Node i) h q n = absurd (n i refl)
    no_node C.Ring h q n = λ i m. ring_lost ds first i j h m
    no_node C.Endless h q n = h.0
