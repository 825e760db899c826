-- What a part of a clause is that was walked under quantifiers: its variables are those of the quantifiers around it, those
-- that were met outside quantifiers, and others, which have the next numbers.
use Rattle.std.proofs.Common.{◌≡◌, ◌⊎◌, inl, inr, ℕ, ◌+◌, ◌<◌, ◌≤◌, List, [], ◌∷◌, ◌++◌, map, length, refl, subst, arith, ⊎_elim, length-append}
use Rattle.mc_model.specs.Lists.{In, Apart}
use Rattle.mc_term_data.specs.Plain.{PlainTerm, PlainTerms, at, no_term, more_terms, Var, Int, Str, App, Items, Tailed, Conj, Disj}
use Rattle.laws_language.proofs.FlatGoals.{in_either}
use Rattle.mc_clauses.specs.Variables.{Numbers, Met, Quantified, one_quantified, all_quantified, listed, quantified_by}
use Rattle.mc_clauses.specs.Unresolved.{Walk, made, on_made, both, under}

-- the numbers that names mean
abbrev pub numbers_of : Numbers → List ℕ
numbers_of ns = map (λ (e : List ℕ × ℕ). e.1) ns

-- variables are numbered from here on
abbrev pub next_in : Met → ℕ
next_in m = length m.names

abbrev pub Between : ℕ → ℕ → ℕ → Type 0
Between first end x = (first ≤ x) × (x < end)

-- what names mean under these quantifiers, and outside them, was met
pub record Stands (q : Numbers) (m : Met) : Type 0 where
  pub around : (x : ℕ) → In x (numbers_of q) → x < next_in m
  pub outside : (x : ℕ) → In x (numbers_of m.free) → x < next_in m

-- What is asked of parts of clauses: the variables that occur in one, those that its quantifiers name, that these are its
-- own, where a list is around, and what holds of its names, numbers and texts.
pub record Part (A : Type 0) : Type 1 where
  pub occurs : A → List ℕ
  pub names : A → List ℕ
  pub Own : List ℕ → A → Type 0
  pub Holds : A → Type 0

pub record Walked {A : Type 0} (k : Part A) (q : Numbers) (m : Met) (a : A) (after : Met) : Type 0 where
  pub grows : next_in m ≤ next_in after
  pub outside : (x : ℕ) → In x (numbers_of after.free) → In x (numbers_of m.free) ⊎ Between (next_in m) (next_in after) x
  pub occurs : (x : ℕ) → In x (k.occurs a) → In x (numbers_of q) ⊎ (In x (numbers_of m.free) ⊎ Between (next_in m) (next_in after) x)
  pub named : (x : ℕ) → In x (k.names a) → Between (next_in m) (next_in after) x
  pub hidden : (x : ℕ) → In x (k.names a) → In x (numbers_of after.free) → ⊥
  pub own : (X : List ℕ) → Apart (k.names a) X → k.Own X a
  pub holds : k.Holds a

abbrev pub Good : {A : Type 0} → Part A → Walk A → Type 0
Good k walk = (q : Numbers) (m : Met) → Stands q m → Walked k q m (walk q m).0 (walk q m).1

module _ {A : Type 0} (k : Part A) where
  -- what was met stands behind a part
  pub stands_after : (q : Numbers) (m after : Met) (a : A) → Stands q m → Walked k q m a after → Stands q after
  stands_after q m after a s w =
      record {
        around = λ x i. omega (arith, s.around x i, w.grows);
        outside = λ x i. ⊎_elim (λ j. omega (arith, s.outside x j, w.grows)) (λ b. b.1) (w.outside x i);
      }

  -- each variable of a part was met behind it
  pub below_after : (q : Numbers) (m after : Met) (a : A) → Stands q m → Walked k q m a after → (x : ℕ) → In x (k.occurs a ++ k.names a) → x < next_in after
  below_after q m after a s w x i =
      ⊎_elim
      (λ j. ⊎_elim (λ h. omega (arith, s.around x h, w.grows)) (λ h. ⊎_elim (λ f. omega (arith, s.outside x f, w.grows)) (λ b. b.1) h) (w.occurs x j))
      (λ j. (w.named x j).1) (in_either x (k.occurs a) (k.names a) i)

-- one part and then another
module _ {A B : Type 0} (ka : Part A) (kb : Part B) (q : Numbers) (m n o : Met) (a : A) (b : B) (s : Stands q m) (wa : Walked ka q m a n) (wb : Walked kb q n b o) where
  -- the quantifiers of the first name nothing of the second
  pub first_apart : Apart (ka.names a) (kb.occurs b ++ kb.names b)
  first_apart x i j =
      let here = wa.named x i in
      ⊎_elim
      (λ h.
      ⊎_elim (λ f. omega (arith, s.around x f, here.0))
      (λ f. ⊎_elim (λ e. wa.hidden x i e) (λ e. omega (arith, here.1, e.0)) f) (wb.occurs x h))
      (λ h. let there = wb.named x h in omega (arith, here.1, there.0)) (in_either x (kb.occurs b) (kb.names b) j)

  -- and those of the second nothing of the first
  pub second_apart : Apart (kb.names b) (ka.occurs a ++ ka.names a)
  second_apart x i j =
      let here = wb.named x i in
      let there : x < next_in n = below_after ka q m n a s wa x j in
      absurd (omega (arith, here.0, there))

  pub both_grow : next_in m ≤ next_in o
  both_grow = omega (arith, wa.grows, wb.grows)

  pub both_outside : (x : ℕ) → In x (numbers_of o.free) → In x (numbers_of m.free) ⊎ Between (next_in m) (next_in o) x
  both_outside x i =
      ⊎_elim (λ h. ⊎_elim (λ f. inl f) (λ f. let e : x < next_in o = omega (arith, f.1, wb.grows) in inr (f.0, e)) (wa.outside x h))
      (λ h. let e : next_in m ≤ x = omega (arith, h.0, wa.grows) in inr (e, h.1)) (wb.outside x i)

  pub first_occurs : (x : ℕ) → In x (ka.occurs a) → In x (numbers_of q) ⊎ (In x (numbers_of m.free) ⊎ Between (next_in m) (next_in o) x)
  first_occurs x i =
      ⊎_elim (λ h. inl h) (λ h. inr (⊎_elim (λ f. inl f) (λ f. let e : x < next_in o = omega (arith, f.1, wb.grows) in inr (f.0, e)) h)) (wa.occurs x i)

  pub second_occurs : (x : ℕ) → In x (kb.occurs b) → In x (numbers_of q) ⊎ (In x (numbers_of m.free) ⊎ Between (next_in m) (next_in o) x)
  second_occurs x i =
      let later : Between (next_in n) (next_in o) x → Between (next_in m) (next_in o) x = λ h. let e : next_in m ≤ x = omega (arith, h.0, wa.grows) in (e, h.1) in
      let first : Between (next_in m) (next_in n) x → Between (next_in m) (next_in o) x = λ h. let e : x < next_in o = omega (arith, h.1, wb.grows) in (h.0, e) in
      ⊎_elim (λ h. inl h) (λ h. inr (⊎_elim (λ f. ⊎_elim (λ g. inl g) (λ g. inr (first g)) (wa.outside x f)) (λ f. inr (later f)) h)) (wb.occurs x i)

  pub first_named : (x : ℕ) → In x (ka.names a) → Between (next_in m) (next_in o) x
  first_named x i = let h = wa.named x i in let e : x < next_in o = omega (arith, h.1, wb.grows) in (h.0, e)

  pub second_named : (x : ℕ) → In x (kb.names b) → Between (next_in m) (next_in o) x
  second_named x i = let h = wb.named x i in let e : next_in m ≤ x = omega (arith, h.0, wa.grows) in (e, h.1)

  pub first_hidden : (x : ℕ) → In x (ka.names a) → In x (numbers_of o.free) → ⊥
  first_hidden x i j =
      let h = wa.named x i in
      ⊎_elim (λ f. wa.hidden x i f) (λ f. absurd (omega (arith, h.1, f.0))) (wb.outside x j)

-- WALKS ONE BEHIND ANOTHER
-- What is made of two parts has no other variables and quantifiers than theirs. Its quantifiers name their own where those
-- of each part do, whatever apart from them is around it, and name nothing of the other part.
pub record Joins {A B C : Type 0} (ka : Part A) (kb : Part B) (kc : Part C) (f : A → B → C) : Type 0 where
  pub occurs : (x : ℕ) (a : A) (b : B) → In x (kc.occurs (f a b)) → In x (ka.occurs a) ⊎ In x (kb.occurs b)
  pub names : (x : ℕ) (a : A) (b : B) → In x (kc.names (f a b)) → In x (ka.names a) ⊎ In x (kb.names b)
  pub own :
      (X : List ℕ) (a : A) (b : B)
      → ((Y : List ℕ) → Apart (ka.names a) Y → ka.Own Y a)
      → ((Y : List ℕ) → Apart (kb.names b) Y → kb.Own Y b)
      → Apart (ka.names a) (kb.occurs b ++ kb.names b)
      → Apart (kb.names b) (ka.occurs a ++ ka.names a) → Apart (kc.names (f a b)) X → kc.Own X (f a b)
  pub holds : (a : A) (b : B) → ka.Holds a → kb.Holds b → kc.Holds (f a b)

pub good_both : {A B C : Type 0} (ka : Part A) (kb : Part B) (kc : Part C) (f : A → B → C) (first : Walk A) (second : Walk B) → Joins ka kb kc f → Good ka first → Good kb second → Good kc (both f first second)
good_both ka kb kc f first second j g h q m s =
    let r = first q m in
    let wa = g q m s in
    let t = second q r.1 in
    let wb = h q r.1 (stands_after ka q m r.1 r.0 s wa) in
    record {
      grows = both_grow ka kb q m r.1 t.1 r.0 t.0 s wa wb;
      outside = both_outside ka kb q m r.1 t.1 r.0 t.0 s wa wb;
      occurs = λ x i. ⊎_elim (λ e. first_occurs ka kb q m r.1 t.1 r.0 t.0 s wa wb x e) (λ e. second_occurs ka kb q m r.1 t.1 r.0 t.0 s wa wb x e) (j.occurs x r.0 t.0 i);
      named = λ x i. ⊎_elim (λ e. first_named ka kb q m r.1 t.1 r.0 t.0 s wa wb x e) (λ e. second_named ka kb q m r.1 t.1 r.0 t.0 s wa wb x e) (j.names x r.0 t.0 i);
      hidden = λ x i k. ⊎_elim (λ e. first_hidden ka kb q m r.1 t.1 r.0 t.0 s wa wb x e k) (λ e. wb.hidden x e k) (j.names x r.0 t.0 i);
      own = λ X apart.
          j.own X r.0 t.0 wa.own wb.own (first_apart ka kb q m r.1 t.1 r.0 t.0 s wa wb) (second_apart ka kb q m r.1 t.1 r.0 t.0 s wa wb) apart;
      holds = j.holds r.0 t.0 wa.holds wb.holds;
    }

-- WHAT IS MADE OF ONE PART
pub record Carries {A B : Type 0} (ka : Part A) (kb : Part B) (f : A → B) : Type 0 where
  pub occurs : (x : ℕ) (a : A) → In x (kb.occurs (f a)) → In x (ka.occurs a)
  pub names : (x : ℕ) (a : A) → In x (kb.names (f a)) → In x (ka.names a)
  pub own : (X : List ℕ) (a : A) → ((Y : List ℕ) → Apart (ka.names a) Y → ka.Own Y a) → Apart (kb.names (f a)) X → kb.Own X (f a)
  pub holds : (a : A) → ka.Holds a → kb.Holds (f a)

pub good_on : {A B : Type 0} (ka : Part A) (kb : Part B) (f : A → B) (walk : Walk A) → Carries ka kb f → Good ka walk → Good kb (on_made f walk)
good_on ka kb f walk c g q m s =
    let r = walk q m in
    let w = g q m s in
    record {
      grows = w.grows;
      outside = w.outside;
      occurs = λ x i. w.occurs x (c.occurs x r.0 i);
      named = λ x i. w.named x (c.names x r.0 i);
      hidden = λ x i k. w.hidden x (c.names x r.0 i) k;
      own = λ X apart. c.own X r.0 w.own apart;
      holds = c.holds r.0 w.holds;
    }

-- a part without variables
pub good_made : {A : Type 0} (k : Part A) (a : A) → ((x : ℕ) → In x (k.occurs a) → ⊥) → ((x : ℕ) → In x (k.names a) → ⊥) → ((X : List ℕ) → k.Own X a) → k.Holds a → Good k (made a)
good_made k a none unnamed own holds q m s =
    record {
      grows = omega arith;
      outside = λ x i. inl i;
      occurs = λ x i. absurd (none x i);
      named = λ x i. absurd (unnamed x i);
      hidden = λ x i j. unnamed x i;
      own = λ X apart. own X;
      holds = holds;
    }

-- UNDER A QUANTIFIER its variables have the next numbers, and names mean these or what they meant around it.
pub record Opened (q : Numbers) (m : Met) (s : Quantified) : Type 0 where
  pub grows : next_in m ≤ next_in s.met
  pub free : s.met.free ≡ m.free
  pub numbers : (x : ℕ) → In x (numbers_of s.numbers) → In x (numbers_of q) ⊎ Between (next_in m) (next_in s.met) x
  pub vars : (x : ℕ) → In x s.vars → Between (next_in m) (next_in s.met) x

opened_one : (q : Numbers) (m : Met) (t : PlainTerm) (s : Quantified) → Opened q m s → Opened q m (one_quantified t s)
opened_one q m (at (Var y) line) s o =
    let n = next_in s.met in
    let long : length (s.met.names ++ y ∷ []) ≡ n + 1 = length-append s.met.names (y ∷ []) in
    let wider : (x : ℕ) → Between (next_in m) n x → Between (next_in m) (length (s.met.names ++ y ∷ [])) x = λ x b. let e : x < length (s.met.names ++ y ∷ []) = omega (arith, b.1, long) in (b.0, e) in
    let new : (x : ℕ) → x ≡ n → Between (next_in m) (length (s.met.names ++ y ∷ [])) x = λ x e. let a : next_in m ≤ x = omega (arith, e, o.grows) in let b : x < length (s.met.names ++ y ∷ []) = omega (arith, e, long) in (a, b) in
    record {
      grows = omega (arith, o.grows, long);
      free = o.free;
      numbers = λ x i. ⊎_elim (λ e. inr (new x e)) (λ h. ⊎_elim (λ f. inl f) (λ f. inr (wider x f)) (o.numbers x h)) i;
      vars = λ x i. ⊎_elim (λ h. wider x (o.vars x h)) (λ h. ⊎_elim (λ e. new x e) (λ e. absurd e) h) (in_either x s.vars (n ∷ []) i);
    }
opened_one q m (at (Int n) line) s o = o
opened_one q m (at (Str w) line) s o = o
opened_one q m (at (App w ts) line) s o = o
opened_one q m (at (Items ts) line) s o = o
opened_one q m (at (Tailed ts t) line) s o = o
opened_one q m (at (Conj ts) line) s o = o
opened_one q m (at (Disj ts) line) s o = o

opened_all : (q : Numbers) (m : Met) (ts : PlainTerms) (s : Quantified) → Opened q m s → Opened q m (all_quantified ts s)
opened_all q m no_term s o = o
opened_all q m (more_terms t ts) s o = opened_all q m ts (one_quantified t s) (opened_one q m t s o)

pub opened : (q : Numbers) (m : Met) (list : PlainTerm) → Opened q m (quantified_by list q m)
opened q m list =
    opened_all q m (listed list) (record { vars = []; numbers = q; met = m })
    (record { grows = omega arith; free = refl; numbers = λ x i. inl i; vars = λ x i. absurd i })

pub stands_under : (q : Numbers) (m : Met) (s : Quantified) → Stands q m → Opened q m s → Stands s.numbers s.met
stands_under q m s st o =
    record {
      around = λ x i. ⊎_elim (λ h. omega (arith, st.around x h, o.grows)) (λ b. b.1) (o.numbers x i);
      outside = λ x i. let j : In x (numbers_of m.free) = subst (λ ns. In x (numbers_of ns)) o.free i in omega (arith, st.outside x j, o.grows);
    }

-- the part under a quantifier, as seen from around it
module _ {A : Type 0} (k : Part A) (q : Numbers) (m : Met) (s : Quantified) (a : A) (n : Met) (st : Stands q m) (o : Opened q m s) (w : Walked k s.numbers s.met a n) where
  pub under_grows : next_in m ≤ next_in n
  under_grows = omega (arith, o.grows, w.grows)

  later : (x : ℕ) → Between (next_in s.met) (next_in n) x → Between (next_in m) (next_in n) x
  later x b = let e : next_in m ≤ x = omega (arith, b.0, o.grows) in (e, b.1)

  sooner : (x : ℕ) → Between (next_in m) (next_in s.met) x → Between (next_in m) (next_in n) x
  sooner x b = let e : x < next_in n = omega (arith, b.1, w.grows) in (b.0, e)

  was_free : (x : ℕ) → In x (numbers_of s.met.free) → In x (numbers_of m.free)
  was_free x i = subst (λ ns. In x (numbers_of ns)) o.free i

  pub under_outside : (x : ℕ) → In x (numbers_of n.free) → In x (numbers_of m.free) ⊎ Between (next_in m) (next_in n) x
  under_outside x i = ⊎_elim (λ h. inl (was_free x h)) (λ h. inr (later x h)) (w.outside x i)

  pub under_occurs : (x : ℕ) → In x (k.occurs a) → In x (numbers_of q) ⊎ (In x (numbers_of m.free) ⊎ Between (next_in m) (next_in n) x)
  under_occurs x i =
      ⊎_elim (λ h. ⊎_elim (λ f. inl f) (λ f. inr (inr (sooner x f))) (o.numbers x h)) (λ h. inr (⊎_elim (λ f. inl (was_free x f)) (λ f. inr (later x f)) h)) (w.occurs x i)

  pub under_named : (x : ℕ) → In x s.vars ⊎ In x (k.names a) → Between (next_in m) (next_in n) x
  under_named x i = ⊎_elim (λ h. sooner x (o.vars x h)) (λ h. later x (w.named x h)) i

  pub under_hidden : (x : ℕ) → In x s.vars ⊎ In x (k.names a) → In x (numbers_of n.free) → ⊥
  under_hidden x i j =
      ⊎_elim
      (λ h.
      let here = o.vars x h in
      ⊎_elim (λ f. absurd (omega (arith, here.0, st.outside x (was_free x f)))) (λ f. absurd (omega (arith, here.1, f.0))) (w.outside x j))
      (λ h. w.hidden x h j) i

  -- what is named under the quantifier is none of its own variables
  pub under_apart : Apart (k.names a) s.vars
  under_apart x i j = let here = w.named x i in let there = o.vars x j in absurd (omega (arith, here.0, there.1))

pub record Binds {A B : Type 0} (ka : Part A) (kb : Part B) (f : List ℕ → A → B) : Type 0 where
  pub occurs : (x : ℕ) (vs : List ℕ) (a : A) → In x (kb.occurs (f vs a)) → In x (ka.occurs a)
  pub names : (x : ℕ) (vs : List ℕ) (a : A) → In x (kb.names (f vs a)) → In x vs ⊎ In x (ka.names a)
  pub own : (X vs : List ℕ) (a : A) → ((Y : List ℕ) → Apart (ka.names a) Y → ka.Own Y a) → Apart (ka.names a) vs → Apart (kb.names (f vs a)) X → kb.Own X (f vs a)
  pub holds : (vs : List ℕ) (a : A) → ka.Holds a → kb.Holds (f vs a)

pub good_under : {A B : Type 0} (ka : Part A) (kb : Part B) (list : PlainTerm) (f : List ℕ → A → B) (walk : Walk A) → Binds ka kb f → Good ka walk → Good kb (under list f walk)
good_under ka kb list f walk b g q m st =
    let s = quantified_by list q m in
    let o = opened q m list in
    let r = walk s.numbers s.met in
    let w = g s.numbers s.met (stands_under q m s st o) in
    record {
      grows = under_grows ka q m s r.0 r.1 st o w;
      outside = under_outside ka q m s r.0 r.1 st o w;
      occurs = λ x i. under_occurs ka q m s r.0 r.1 st o w x (b.occurs x s.vars r.0 i);
      named = λ x i. under_named ka q m s r.0 r.1 st o w x (b.names x s.vars r.0 i);
      hidden = λ x i k. under_hidden ka q m s r.0 r.1 st o w x (b.names x s.vars r.0 i) k;
      own = λ X apart. b.own X s.vars r.0 w.own (under_apart ka q m s r.0 r.1 st o w) apart;
      holds = b.holds s.vars r.0 w.holds;
    }
