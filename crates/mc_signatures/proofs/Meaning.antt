-- Insts that are expanded are the nodes that their definitions make.
use Rattle.std.proofs.Common.{◌≡◌, inl, inr, ℕ, zero, suc, ◌+◌, ◌<◌, ◌≤◌, Bool, true, false, List, [], ◌∷◌, length, map, take, drop, refl, sym, ap, ◌∙◌, subst, arith}
use Rattle.std.specs.Prelude.{◌-◌, nat_lt, if◌then◌else◌}
use Rattle.std.proofs.lemmas.Bool.{ltb-true, ltb-false}
use Rattle.mc_model.specs.Insts.{Listed, Graph}
use Rattle.mc_model.specs.declared.inst.InstRef.{InstRef}
use Rattle.mc_model.specs.declared.inst.InstRef.TheVariants.{Old, New}
use Rattle.mc_accepted.specs.InstRules.{PlainChoice, PlainInstDef, same_inst, bound_inst, definition_at, Functor, InstTerm, inst_node, defined, bound_over, InstTerms, inst_then, over, Bodies, ComesTo, at_that, by_definition}
use Rattle.mc_insts.specs.Defining.{node_made, IsNode, there, made, another_name, AreNodes, IsListed, Defined}
use Rattle.mc_insts.specs.Defining as Insts
use Rattle.mc_signatures.specs.MeantInsts.{first_insts, insts_behind, EachIs, AreListed, IsUpto, IsMeant}
use Rattle.mc_signatures.specs.code.Keys.{term_at, terms_at, AllBelow, IsInst}
use Rattle.mc_signatures.specs.code.Rows.{reference, Chosen, IsRow, is_name, is_list, IsExpanded}

-- the insts of arguments in turn
first_of : (ts : List InstTerm) (n : ℕ) (ks : List ℕ) → first_insts n (terms_at ts ks) ≡ terms_at ts (take n ks)
first_of ts zero ks = refl
first_of ts (suc n) [] = refl
first_of ts (suc n) (k ∷ ks) = ap (inst_then (term_at ts k)) (first_of ts n ks)

behind_of : (ts : List InstTerm) (n : ℕ) (ks : List ℕ) → insts_behind n (terms_at ts ks) ≡ terms_at ts (drop n ks)
behind_of ts zero ks = refl
behind_of ts (suc n) [] = refl
behind_of ts (suc n) (k ∷ ks) = behind_of ts n ks

pub below_take : (n b : ℕ) (ks : List ℕ) → AllBelow b ks → AllBelow b (take n ks)
below_take zero b ks below k lt = absurd (omega arith)
below_take (suc n) b [] below k lt = absurd (omega arith)
below_take (suc n) b (j ∷ ks) below zero lt = below 0 (omega arith)
below_take (suc n) b (j ∷ ks) below (suc k) lt = below_take n b ks (λ i h. below (suc i) (omega arith)) k (omega arith)

pub below_drop : (n b : ℕ) (ks : List ℕ) → AllBelow b ks → AllBelow b (drop n ks)
below_drop zero b ks below = below
below_drop (suc n) b [] below = below
below_drop (suc n) b (j ∷ ks) below = below_drop n b ks (λ i h. below (suc i) (omega arith))

-- what a row says, by the definition
listed_row :
    (body : Bodies) (ts : List InstTerm) (t : InstTerm) (d : PlainInstDef) (cs : List PlainChoice)
    → IsRow body ts t d → d ≡ bound_inst cs
    → (fs : List Functor) × (ks : List ℕ) × (t ≡ bound_over fs (terms_at ts ks)) × AllBelow (length ts) ks × Chosen fs ks cs
listed_row body ts t d cs (is_name i) e = cc
listed_row body ts t d cs (is_list {fs = fs} {cs = ds} ks below chosen unlisted) e =
    let same : ds ≡ cs = cc in
    (fs, ks, refl, below, subst (Chosen fs ks) same chosen)

named_row :
    (body : Bodies) (ts : List InstTerm) (t : InstTerm) (d : PlainInstDef) (r : InstRef)
    → IsRow body ts t d → d ≡ same_inst r
    → (e : ℕ) × (is : InstTerms) × (k : ℕ) × (t ≡ defined e is) × (r ≡ reference k) × IsInst ts k (over is (body e))
named_row body ts t d r (is_name {d = e} {is = is} {k = k} i) same =
    let one : r ≡ reference k = cc in
    (e, is, k, refl, one, i)
named_row body ts t d r (is_list ks below chosen unlisted) same = cc

-- a definition's inst comes to what its body does
comes_upto : (body : Bodies) (G : Graph) (m : ℕ) (d : ℕ) (is : InstTerms) (n : ℕ) → IsUpto body G m (over is (body d)) n → IsUpto body G m (defined d is) n
comes_upto body G zero d is n h = tt
comes_upto body G (suc m) d is n (inl c) = inl (by_definition c)
comes_upto body G (suc m) d is n (inr l) = inr (l.0, l.1, by_definition l.2, l.3)

module _ (body : Bodies) (ts : List InstTerm) (ds : List PlainInstDef) (expanded : IsExpanded body ts ds)
    (G : Graph) (nodes : List ℕ) (has : Defined ds 4 G nodes) where
  -- what is referred to
  abbrev Refers : InstRef → InstTerm → Type 0
  Refers (Old j) i = i ≡ inst_node j
  Refers (New j) i = (4 + j < length ts) × (term_at ts (4 + j) ≡ i)

  refers : (k : ℕ) → k < length ts → Refers (reference k) (term_at ts k)
  refers k lt = by_test (nat_lt k 4) refl
    where
      by_test : (b : Bool) → nat_lt k 4 ≡ b → Refers (if b then Old k else New (k - 4)) (term_at ts k)
      by_test true e = expanded.builtin k (ltb-true k 4 e)
      by_test false e =
          let le : 4 ≤ k = ltb-false k 4 e in
          let same : 4 + (k - 4) ≡ k = omega (arith, le) in
          (subst (λ n. n < length ts) (sym same) lt, ap (term_at ts) same)

  module _ (m : ℕ) (ih : (k n : ℕ) → k < length ts → IsNode ds 4 (reference k) n → IsUpto body G m (term_at ts k) n) where
    each_node : (ks ns : List ℕ) → AllBelow (length ts) ks → AreNodes ds 4 (map reference ks) ns → EachIs (IsUpto body G m) (terms_at ts ks) ns
    each_node [] [] below are = tt
    each_node [] (n ∷ ns) below are = absurd are
    each_node (k ∷ ks) [] below are = absurd are
    each_node (k ∷ ks) (n ∷ ns) below are =
        (ih k n (below 0 (omega arith)) are.0, each_node ks ns (λ i h. below (suc i) (omega arith)) are.1)

    all_listed : (fs : List Functor) (ks : List ℕ) (cs : List PlainChoice) (ls : List Listed) → AllBelow (length ts) ks → Chosen fs ks cs → Insts.AreListed ds 4 cs ls → AreListed (IsUpto body G m) fs (terms_at ts ks) ls
    all_listed [] [] [] [] below chosen are = tt
    all_listed [] [] [] (l ∷ ls) below chosen are = absurd are
    all_listed [] [] (c ∷ cs) ls below chosen are = absurd chosen
    all_listed [] (k ∷ ks) cs ls below chosen are = absurd chosen
    all_listed (f ∷ fs) ks [] ls below chosen are = absurd chosen
    all_listed (f ∷ fs) ks (c ∷ cs) [] below chosen are = absurd are
    all_listed (f ∷ fs) ks (c ∷ cs) (l ∷ ls) below chosen are =
        let args : AreNodes ds 4 (map reference (take f.arity ks)) l.args = subst (λ rs. AreNodes ds 4 rs l.args) chosen.3 are.0.args in (
          are.0.name ∙ chosen.0,
          are.0.arity ∙ chosen.1,
          subst (λ is. EachIs (IsUpto body G m) is l.args) (sym (first_of ts f.arity ks))
              (each_node (take f.arity ks) l.args (below_take f.arity (length ts) ks below) args),
          subst (λ is. AreListed (IsUpto body G m) fs is ls) (sym (behind_of ts f.arity ks))
              (all_listed fs (drop f.arity ks) cs ls (below_drop f.arity (length ts) ks below) chosen.4 are.1),
        )

    one_node : (r : InstRef) (i : InstTerm) (n : ℕ) → Refers r i → IsNode ds 4 r n → IsUpto body G (suc m) i n
    one_node (Old j) i n one there = inl (subst (λ t. ComesTo body t (inst_node j)) (sym one) at_that)
    one_node (New j) i n one (made {cs = cs} e is) =
        let lt : j < length ds = (let x = one.0 in omega (arith, expanded.count)) in
        let row = listed_row body ts (term_at ts (4 + j)) (definition_at ds j) cs (expanded.rows j lt) e in
        let fs = row.0 in
        let ks = row.1 in
        let form : i ≡ bound_over fs (terms_at ts ks) = sym one.1 ∙ row.2 in
        let lists = has.bounds j cs lt e in
        inr (
          fs,
          terms_at ts ks,
          subst (λ t. ComesTo body t (bound_over fs (terms_at ts ks))) (sym form) at_that,
          record {
            as_written = lists.as_written;
            are = all_listed fs ks cs lists.as_written row.3 row.4 lists.are;
            listed = lists.listed;
            same = lists.same;
            is = ap G is ∙ lists.is;
          },
        )
    one_node (New j) i n one (another_name {r = r} e node) =
        let lt : j < length ds = (let x = one.0 in omega (arith, expanded.count)) in
        let row = named_row body ts (term_at ts (4 + j)) (definition_at ds j) r (expanded.rows j lt) e in
        let d = row.0 in
        let is = row.1 in
        let k = row.2 in
        let body_is : IsInst ts k (over is (body d)) = row.5 in
        let to : Refers r (over is (body d)) =
        subst (λ q. Refers q (over is (body d))) (sym row.4) (subst (Refers (reference k)) body_is.is (refers k body_is.there)) in
        let form : i ≡ defined d is = sym one.1 ∙ row.3 in
        subst (λ t. IsUpto body G (suc m) t n) (sym form) (comes_upto body G (suc m) d is n (one_node r (over is (body d)) n to node))

  pub is_upto : (m k n : ℕ) → k < length ts → IsNode ds 4 (reference k) n → IsUpto body G m (term_at ts k) n
  is_upto zero k n lt node = tt
  is_upto (suc m) k n lt node = one_node m (is_upto m) (reference k) (term_at ts k) n (refers k lt) node

-- so an inst of the table is meant by its node
pub is_meant :
    (body : Bodies) (ts : List InstTerm) (ds : List PlainInstDef) (k n : ℕ) (i : InstTerm)
    → IsExpanded body ts ds → IsInst ts k i → IsNode ds 4 (reference k) n → IsMeant body ds i n
is_meant body ts ds k n i expanded one node G nodes builtins has m =
    subst (λ t. IsUpto body G m t n) one.is (is_upto body ts ds expanded G nodes has m k n one.there node)
