-- What becomes of calls.
use Rattle.std.proofs.Common.{◌≡◌, ◌↔◌, ℕ, suc, ◌+◌, ◌<◌, ◌≤◌, Bool, true, false, not, ◌&&◌, ◌||◌, List, [], ◌∷◌, length, get_or, drop, IsTrue, nat_eq, refl, sym, ap, ◌∙◌, subst, arith}
use Rattle.std.proofs.lemmas.List.{length-drop, nil_from_length}
use Rattle.mc_program.specs.Programs.{TypeTerm, Source}
use Rattle.mc_model.specs.Stream.{is_bound}
use Rattle.mc_accepted.specs.Inclusion.{Allows, Included}
use Rattle.mc_accepted.specs.Tidy.{Tidy}
use Rattle.mc_accepted.specs.Ordered.{Mode, zipped, times_in}
use Rattle.mc_accepted.specs.Arranged.{Declared, Point, is_input, usable}
use Rattle.mc_accepted.specs.NodeOracle.{NodeOracle, of_nodes}
use Rattle.mc_insts.specs.declared.insts.Insts.{Insts}
use Rattle.mc_insts.specs.Graphs.{graph_of, count_of}
use Rattle.mc_insts.specs.Growing.{Grown}
use Rattle.mc_procs.specs.Procedures.{PlainProcs, source_of, insts_of, with_insts}
use Rattle.mc_procs.specs.Fitting.{AllFit}
use Rattle.mc_mode_state.specs.Nodes.{type_in, NodesAre}
use Rattle.mc_mode_state.specs.States.{point_of}
use Rattle.mc_mode_state.specs.Agreeing.{OracleAgrees, StateInvariant, LaterByTrail}
use Rattle.mc_mode_state.specs.declared.nodes.Nodes.{Nodes}
use Rattle.mc_mode_state.specs.declared.state.State.{State}
use Rattle.std.proofs.Math.Seq.{take-length}
use Rattle.mc_mode_state.proofs.Ahead.{dead-is-three}
use Rattle.mc_mode_state.proofs.Found.{stood-grown, over-grown}
use Rattle.mc_mode_state.proofs.Numbers.{cons_at}
use Rattle.mc_mode_state.proofs.Steps.{stepped-nodes}

-- a graph that is the same
pub grown-same : (P : Source) (I J : Insts) → graph_of J ≡ graph_of I → count_of J ≡ count_of I → Grown P I J
grown-same P I J g n = record {
  more = omega (arith, n);
  same = λ i l. ap (λ G. G i) g;
  meaning = λ i l path e t. (λ a. subst (λ G. Allows P G path e i t) (sym g) a, λ a. subst (λ G. Allows P G path e i t) g a);
  tidy = λ i l t. (λ a. subst (λ G. Tidy P G i t) (sym g) a, λ a. subst (λ G. Tidy P G i t) g a);
}

are-grown : (P : Source) (I J : Insts) (N : Nodes) → Grown P I J → NodesAre P I N → NodesAre P J N
are-grown P I J N g are = record {
  overs = λ s k is h. over-grown P I J s k is g (are.overs s k is h);
  joins = λ r k is h. let x = are.joins r k is h in (x.0, stood-grown P I J is k (type_in N.types.items r) g x.1);
  once = are.once;
}

-- insts were asked, and none were made
pub asked : (q r : PlainProcs) (s : State) → StateInvariant q s → AllFit r → r ≡ with_insts q r.insts → insts_of r ≡ insts_of q → count_of r.insts ≡ count_of q.insts → LaterByTrail q r s s
asked q r s st fit o g n =
    let grown : Grown (source_of q) q.insts r.insts = grown-same (source_of q) q.insts r.insts g n in
    stepped-nodes q r s s st refl refl refl refl (record {
      others = o;
      grown = grown;
      overs = λ f k is h. h;
      joins = λ f k is h. h;
      types = take-length s.nodes.types.items;
      are = are-grown (source_of q) q.insts r.insts s.nodes grown st.nodes;
      fit = fit;
    })

alike : (u t : Bool) → (u ≡ true → t ≡ true) → (t ≡ true → u ≡ true) → u ≡ t
alike true t f g = sym (f refl)
alike false true f g = g refl
alike false false f g = refl

pub fits-is : (q r : PlainProcs) (s : State) (x j : ℕ) (t : Bool) → StateInvariant q s → x < length s.insts.items → j < count_of q.insts
    → r ≡ with_insts q r.insts → insts_of r ≡ insts_of q → count_of r.insts ≡ count_of q.insts
    → IsTrue t ↔ Included (source_of q) (insts_of q) (point_of s.insts.items x) j (type_in s.types.items x)
    → (C : NodeOracle) (T : ℕ → TypeTerm) → OracleAgrees r s C T → C.fits (point_of s.insts.items x) j (T x) ≡ t
fits-is q r s x j t st l k o g n h C T a =
    let p : source_of r ≡ source_of q = ap source_of o in
    let e : T x ≡ type_in s.types.items x = a.types x (subst (λ m. x < m) (sym st.even.types) l) in
    let f = a.fits (point_of s.insts.items x) j (type_in s.types.items x) (subst (λ m. point_of s.insts.items x < m) (sym n) (st.insts x)) (subst (λ m. j < m) (sym n) k) in
    ap (C.fits (point_of s.insts.items x) j) e
    ∙ alike (C.fits (point_of s.insts.items x) j (type_in s.types.items x)) t
    (λ u. h.1 (subst (λ (P : Source). Included P (insts_of q) (point_of s.insts.items x) j (type_in s.types.items x)) p (subst (λ G. Included (source_of r) G (point_of s.insts.items x) j (type_in s.types.items x)) g (f.0 u))))
    (λ u. f.1 (subst (λ G. Included (source_of r) G (point_of s.insts.items x) j (type_in s.types.items x)) (sym g) (subst (λ (P : Source). Included P (insts_of q) (point_of s.insts.items x) j (type_in s.types.items x)) (sym p) (h.0 u))))

-- an input, by what was asked of it
input-not : (e f t : Bool) → (not e || t) ≡ true → (e && (f && not t)) ≡ false
input-not false f t g = refl
input-not true true true g = refl
input-not true false true g = refl
input-not true f false g = cc

input-yes : (e f t u : Bool) → (not e || t) ≡ false → f ≡ u → (e && (f && not t)) ≡ u
input-yes false f t u g k = cc
input-yes true f true u g k = cc
input-yes true true false u g k = k
input-yes true false false u g k = k

pub takes-by : (d u t : Bool) → d ≡ true → u ≡ t → (not d || u) ≡ t
takes-by true u t h e = e
takes-by false u t h e = cc

pub takes-free : (d u : Bool) → d ≡ false → (not d || u) ≡ true
takes-free true u h = cc
takes-free false u h = refl

module _ (r : PlainProcs) (s : State) (declared : ℕ → List Declared) (st : StateInvariant r s) (C : NodeOracle) (T : ℕ → TypeTerm) (a : OracleAgrees r s C T) (P : Source) where
  abbrev b : Point ℕ
  b = point_of s.insts.items

  abbrev pub taken_by : List ℕ → Mode → ℕ → Bool
  taken_by all m x = not (is_bound m.0) || is_input (of_nodes C) P declared T all m x b

  dies : (all : List ℕ) (x last : ℕ) → last < count_of r.insts → (not (C.is_dead last) || nat_eq (times_in x all) 1) ≡ not (nat_eq last 3 && not (nat_eq (times_in x all) 1))
  dies all x last h = ap (λ t. not t || nat_eq (times_in x all) 1) (a.dies last h ∙ dead-is-three (insts_of r) st.fit.program.insts_are.insts last) ∙ both (nat_eq last 3) (nat_eq (times_in x all) 1)
    where
      both : (t u : Bool) → (not t || u) ≡ not (t && not u)
      both true true = refl
      both true false = refl
      both false u = refl

  opened : (all : List ℕ) (x first last : ℕ) → last < count_of r.insts → is_input (of_nodes C) P declared T all (first, last) x b ≡ (is_bound (b x) && (C.fits (b x) first (T x) && not (nat_eq last 3 && not (nat_eq (times_in x all) 1))))
  opened all x first last h = ap (λ t. is_bound (b x) && (C.fits (b x) first (T x) && t)) (dies all x last h)

  pub input-barred : (all : List ℕ) (x first last : ℕ) → last < count_of r.insts → (not (is_bound (b x)) || (nat_eq last 3 && not (nat_eq (times_in x all) 1))) ≡ true → is_input (of_nodes C) P declared T all (first, last) x b ≡ false
  input-barred all x first last l g = opened all x first last l ∙ input-not (is_bound (b x)) (C.fits (b x) first (T x)) (nat_eq last 3 && not (nat_eq (times_in x all) 1)) g

  pub input-asked : (all : List ℕ) (x first last : ℕ) (t : Bool) → last < count_of r.insts → (not (is_bound (b x)) || (nat_eq last 3 && not (nat_eq (times_in x all) 1))) ≡ false → C.fits (b x) first (T x) ≡ t → is_input (of_nodes C) P declared T all (first, last) x b ≡ t
  input-asked all x first last t l g f = opened all x first last l ∙ input-yes (is_bound (b x)) (C.fits (b x) first (T x)) (nat_eq last 3 && not (nat_eq (times_in x all) 1)) t g f

  abbrev pub usable_by : List ℕ → List ℕ → List ℕ → List ℕ → Bool
  usable_by all fs ls xs = usable (of_nodes C) P declared T all (zipped fs ls) xs b

  pub usable-at : (all fs ls xs : List ℕ) (k : ℕ) → k < length fs → k < length ls → k < length xs
      → usable_by all (drop k fs) (drop k ls) (drop k xs) ≡ (taken_by all (get_or fs k 0, get_or ls k 0) (get_or xs k 0) && usable_by all (drop (k + 1) fs) (drop (k + 1) ls) (drop (k + 1) xs))
  usable-at all fs ls xs k h i j =
      ap (λ (gs : List ℕ). usable_by all gs (drop k ls) (drop k xs)) (cons_at fs k 0 h)
      ∙ (ap (λ (gs : List ℕ). usable_by all (get_or fs k 0 ∷ drop (k + 1) fs) gs (drop k xs)) (cons_at ls k 0 i)
      ∙ ap (λ (gs : List ℕ). usable_by all (get_or fs k 0 ∷ drop (k + 1) fs) (get_or ls k 0 ∷ drop (k + 1) ls) gs) (cons_at xs k 0 j))

  pub usable-on : (all fs ls xs : List ℕ) (k : ℕ) → k < length fs → k < length ls → k < length xs → taken_by all (get_or fs k 0, get_or ls k 0) (get_or xs k 0) ≡ true
      → usable_by all (drop (k + 1) fs) (drop (k + 1) ls) (drop (k + 1) xs) ≡ usable_by all (drop k fs) (drop k ls) (drop k xs)
  usable-on all fs ls xs k h i j t = sym (usable-at all fs ls xs k h i j ∙ ap (λ u. u && usable_by all (drop (k + 1) fs) (drop (k + 1) ls) (drop (k + 1) xs)) t)

  pub usable-not : (all fs ls xs : List ℕ) (k : ℕ) → k < length fs → k < length ls → k < length xs → taken_by all (get_or fs k 0, get_or ls k 0) (get_or xs k 0) ≡ false
      → usable_by all (drop k fs) (drop k ls) (drop k xs) ≡ false
  usable-not all fs ls xs k h i j t = usable-at all fs ls xs k h i j ∙ ap (λ u. u && usable_by all (drop (k + 1) fs) (drop (k + 1) ls) (drop (k + 1) xs)) t

  pub not-many : (all fs ls xs : List ℕ) → length fs ≡ length ls → (length fs ≡ length xs → ⊥) → usable_by all fs ls xs ≡ false
  not-many all [] [] [] e f = absurd (f refl)
  not-many all [] [] (x ∷ xs) e f = refl
  not-many all [] (l ∷ ls) xs e f = absurd (omega (arith, e))
  not-many all (i ∷ fs) [] xs e f = absurd (omega (arith, e))
  not-many all (i ∷ fs) (l ∷ ls) [] e f = refl
  not-many all (i ∷ fs) (l ∷ ls) (x ∷ xs) e f =
      at (taken_by all (i, l) x) (not-many all fs ls xs (omega (arith, e)) (λ g. f (ap suc g)))
    where
      at : (t : Bool) → usable_by all fs ls xs ≡ false → (t && usable_by all fs ls xs) ≡ false
      at true g = g
      at false g = refl

  pub all-used : (all fs ls xs : List ℕ) (k : ℕ) → length fs ≤ k → length ls ≤ k → length xs ≤ k → usable_by all (drop k fs) (drop k ls) (drop k xs) ≡ true
  all-used all fs ls xs k h i j =
      ap (λ (gs : List ℕ). usable_by all gs (drop k ls) (drop k xs)) (nil_from_length (drop k fs) (omega (arith, length-drop k fs)))
      ∙ (ap (λ (gs : List ℕ). usable_by all [] gs (drop k xs)) (nil_from_length (drop k ls) (omega (arith, length-drop k ls)))
      ∙ ap (λ (gs : List ℕ). usable_by all [] [] gs) (nil_from_length (drop k xs) (omega (arith, length-drop k xs))))
