-- The nodes that definitions make: what they list, and that they are proper.
use Rattle.std.proofs.Common.{◌≡◌, inl, inr, ℕ, zero, suc, ◌+◌, ◌<◌, ◌≤◌, ◌++◌, List, [], ◌∷◌, length, get_or, map, take, sym, ap, ◌∙◌, subst, arith, length-append}
use Rattle.std.specs.List.{All, IsDistinct}
use Rattle.std.proofs.lemmas.List.{get_or-map, length-map, get_or-take, length-take-le, get_or_append_left, get_or_push}
use Rattle.std.proofs.lemmas.Map.Keys.{IsDistinct-IsPermutation}
use Rattle.std.proofs.lemmas.List.Sorted.{All-permutation, IsPermutation-map}
use Rattle.mc_model.specs.declared.inst.InstRef.{InstRef}
use Rattle.mc_model.specs.declared.inst.InstRef.TheVariants.{Old, New}
use Rattle.mc_model.specs.declared.inst.Choice.{Choice}
use Rattle.mc_accepted.specs.InstRules.{PlainChoice, PlainInstDef, OneIsFree, OneHasFree}
use Rattle.mc_insts.specs.declared.graph.Case.{Case}
use Rattle.mc_insts.specs.declared.rows.Constructor.{Constructor}
use Rattle.mc_insts.specs.code.Cases.{Rising, Fitting}
use Rattle.mc_insts.specs.code.Formed.{Filled, AllFilled}
use Rattle.mc_insts.specs.code.Functors.{Functor, functor_named}
use Rattle.mc_insts.specs.code.Lists.{Extends}
use Rattle.mc_insts.specs.code.Walks.{functor_at, no_functor}
use Rattle.mc_insts.specs.code.Shown.{plain_case}
use Rattle.mc_insts.specs.code.Chains.{InstsAre}
use Rattle.mc_insts.specs.code.Bounds.{inst_in, IsCase, AreCases, MakesCases}
use Rattle.mc_insts.specs.Defining.{plain_choice, IsNode, there, AreNodes, IsListed, AreListed, FitsThere, AllFitThere, IsUnlisted, ChoicesFit}
use Rattle.mc_insts.proofs.Definitions.{stands_node}
use Rattle.mc_insts.proofs.Growth.{extends_get, extends_length}
use Rattle.mc_insts.proofs.Found.{get_any, by_order, rising_of}
use Rattle.mc_insts.proofs.Constructors.{same, flips, distinct_from, distinct_at}
use Rattle.mc_insts.proofs.MoreFunctors.{AreProper}

-- cases stay those of the constructors, as functors are added
pub case_on : (fs gs : List Functor) (is : List ℕ) (c : Choice) (d : Case) → Extends fs gs → IsCase fs is c d → IsCase gs is c d
case_on fs gs is c d e h =
    let l = extends_length fs gs e in
    let w = h.within in
    record { within = omega arith; functor = extends_get fs gs d.functor no_functor e h.within ∙ h.functor; args = h.args }

pub cases_on : (fs gs : List Functor) (is : List ℕ) (cs : List Choice) (ds : List Case) → Extends fs gs → AreCases fs is cs ds → AreCases gs is cs ds
cases_on fs gs is cs ds e h = (h.0, (λ k c d lt. case_on fs gs is (get_or cs k c) (get_or ds k d) e (h.1 k c d lt)))

pub makes_on : (fs gs : List Functor) (is : List ℕ) (cs : List Choice) (ds : List Case) → Extends fs gs → MakesCases fs is cs ds → MakesCases gs is cs ds
makes_on fs gs is cs ds e m = record { as_written = m.as_written; are = cases_on fs gs is cs m.as_written e m.are; same = m.same; ordered = m.ordered }

module _ (ds : List PlainInstDef) (first : ℕ) (is : List ℕ) (are : InstsAre ds first is) where
  pub inst_node : (n : ℕ) (r : InstRef) → FitsThere n (length ds) r → IsNode ds first r (inst_in is r)
  inst_node n (Old i) f = there
  inst_node n (New k) f = are.each k f

  pub inst_nodes : (n : ℕ) (rs : List InstRef) → AllFitThere n (length ds) rs → AreNodes ds first rs (map (inst_in is) rs)
  inst_nodes n [] f = tt
  inst_nodes n (r ∷ rs) f = (inst_node n r f.0, inst_nodes n rs f.1)

  pub case_listed : (fs : List Functor) (n : ℕ) (c : Choice) (d : Case) → AllFitThere n (length ds) c.args → IsCase fs is c d → IsListed ds first (plain_choice c) (plain_case fs d)
  case_listed fs n c d f h = record {
    name = ap (λ (g : Functor). g.name) h.functor;
    arity = ap (λ (g : Functor). g.arity) h.functor;
    args = subst (AreNodes ds first c.args) (sym h.args) (inst_nodes n c.args f);
  }

  pub cases_listed : (fs : List Functor) (n : ℕ) (cs : List Choice) (xs : List Case) → ChoicesFit n (length ds) (map plain_choice cs) → AreCases fs is cs xs → AreListed ds first (map plain_choice cs) (map (plain_case fs) xs)
  cases_listed fs n [] [] f h = tt
  cases_listed fs n [] (x ∷ xs) f h = let l : length (x ∷ xs) ≡ 0 = h.0 in absurd (omega arith)
  cases_listed fs n (c ∷ cs) [] f h = let l : 0 ≡ length (c ∷ cs) = h.0 in absurd (omega arith)
  cases_listed fs n (c ∷ cs) (x ∷ xs) f h = (
    case_listed fs n c x f.1 (h.1 0 c x (omega arith)),
    cases_listed fs n cs xs f.3 (let l : suc (length xs) ≡ suc (length cs) = h.0 in omega arith, (λ k a b lt. h.1 (suc k) a b (omega arith))),
  )

-- no two of the constructors have one functor
unlisted_at : (c : PlainChoice) (cs : List PlainChoice) → IsUnlisted c cs → (k : ℕ) (d : PlainChoice) → k < length cs → c.name ≡ (get_or cs k d).name → c.arity ≡ (get_or cs k d).arity → ⊥
unlisted_at c [] h k d lt = absurd (omega arith)
unlisted_at c (x ∷ cs) h zero d lt = h.0
unlisted_at c (x ∷ cs) h (suc k) d lt = unlisted_at c cs h.1 k d (omega arith)

pub choices_differ : (n m : ℕ) (cs : List Choice) → ChoicesFit n m (map plain_choice cs) → (i j : ℕ) (d e : Choice) → i < j → j < length cs
    → (get_or cs i d).name ≡ (get_or cs j e).name → (get_or cs i d).arity ≡ (get_or cs j e).arity → ⊥
choices_differ n m [] f i j d e lt w = absurd (omega arith)
choices_differ n m (c ∷ cs) f i zero d e lt w = absurd (omega arith)
choices_differ n m (c ∷ cs) f zero (suc j) d e lt w = λ p q.
    let l : length (map plain_choice cs) ≡ length cs = length-map cs plain_choice in
    let g : get_or (map plain_choice cs) j (plain_choice e) ≡ plain_choice (get_or cs j e) = get_or-map plain_choice cs j e (plain_choice e) (omega arith) in
    unlisted_at (plain_choice c) (map plain_choice cs) f.2 j (plain_choice e) (omega arith)
    (p ∙ sym (ap (λ (x : PlainChoice). x.name) g)) (q ∙ sym (ap (λ (x : PlainChoice). x.arity) g))
choices_differ n m (c ∷ cs) f (suc i) (suc j) d e lt w = choices_differ n m cs f.3 i j d e (omega arith) (omega arith)

pub arity_at : (n m : ℕ) (cs : List Choice) → ChoicesFit n m (map plain_choice cs) → (k : ℕ) (d : Choice) → k < length cs
    → (length (get_or cs k d).args ≡ (get_or cs k d).arity) × AllFitThere n m (get_or cs k d).args
arity_at n m [] f k d lt = absurd (omega arith)
arity_at n m (c ∷ cs) f zero d lt = (f.0, f.1)
arity_at n m (c ∷ cs) f (suc k) d lt = arity_at n m cs f.3 k d (omega arith)

-- a case as a functor alone
abbrev key : Case → Constructor
key d = record { functor = d.functor; symbol = 0 }

module _ (fs : List Functor) (is : List ℕ) (n m : ℕ) (cs : List Choice) (fit : ChoicesFit n m (map plain_choice cs)) (xs : List Case) (made : MakesCases fs is cs xs) where
  no_choice : Choice
  no_choice = record { name = []; arity = 0; args = [] }

  keys_at : (ys : List Case) (k : ℕ) (d : Constructor) (e : Case) → k < length ys → (get_or (map key ys) k d).functor ≡ (get_or ys k e).functor
  keys_at ys k d e lt = ap (λ (c : Constructor). c.functor) (get_or-map key ys k e d lt)

  differ : IsDistinct same (map key made.as_written)
  differ = distinct_from (map key made.as_written) (λ i j d e lt w q.
      let l : length (map key made.as_written) ≡ length made.as_written = length-map made.as_written key in
      let x : Case = record { functor = 0; args = [] } in
      let c = made.are.0 in
      let a = made.are.1 i no_choice x (omega arith) in
      let b = made.are.1 j no_choice x (omega arith) in
      let f : (get_or made.as_written i x).functor ≡ (get_or made.as_written j x).functor =
      sym (keys_at made.as_written i d x (omega arith)) ∙ q ∙ keys_at made.as_written j e x (omega arith) in
      let g : functor_named (get_or cs i no_choice).name (get_or cs i no_choice).arity ≡ functor_named (get_or cs j no_choice).name (get_or cs j no_choice).arity =
      sym a.functor ∙ ap (functor_at fs) f ∙ b.functor in
      choices_differ n m cs fit i j no_choice no_choice lt (omega arith) (ap (λ (z : Functor). z.name) g) (ap (λ (z : Functor). z.arity) g))

  pub cases_rising : Rising xs
  cases_rising =
      let distinct : IsDistinct same (map key xs) = IsDistinct-IsPermutation same flips (map key made.as_written) (map key xs) (IsPermutation-map key made.as_written xs made.same) differ in
      rising_of xs (λ j m d e is w.
      let l : length (map key xs) ≡ length xs = length-map xs key in
      let le : (get_or xs j d).functor ≤ (get_or xs m e).functor = made_order j m d e is w in
      by_order (get_or xs j d).functor (get_or xs m e).functor
      (λ x. x)
      (λ x. absurd (distinct_at (map key xs) distinct j m (key d) (key e) (omega arith) (omega arith) (keys_at xs j (key d) d (omega arith) ∙ x ∙ sym (keys_at xs m (key e) e w))))
      (λ x. absurd (omega arith)))
    where
      made_order : (j m : ℕ) (d e : Case) → m ≡ j + 1 → m < length xs → (get_or xs j d).functor ≤ (get_or xs m e).functor
      made_order j m d e is w =
          let le = made.ordered j m d (omega arith) w in
          let g : get_or xs m d ≡ get_or xs m e = get_any xs m d e w in
          let h : (get_or xs m d).functor ≡ (get_or xs m e).functor = ap (λ (c : Case). c.functor) g in
          omega arith

  module _ (bound : ℕ) (within : (r : InstRef) → FitsThere n m r → inst_in is r < bound) where
    all_within : (rs : List InstRef) → AllFitThere n m rs → (k : ℕ) → k < length rs → get_or (map (inst_in is) rs) k 0 < bound
    all_within [] f k lt = absurd (omega arith)
    all_within (r ∷ rs) f zero lt = within r f.0
    all_within (r ∷ rs) f (suc k) lt = all_within rs f.1 k (omega arith)

    abbrev Fits : Case → Type 0
    Fits d = Fitting (λ f. (functor_at fs f).arity) (length fs) bound d

    written_fit : All Fits made.as_written
    written_fit k d lt =
        let c = made.are.0 in
        let a = made.are.1 k no_choice d (omega arith) in
        let p = arity_at n m cs fit k no_choice (omega arith) in
        let r : List InstRef = (get_or cs k no_choice).args in
        let l : length (map (inst_in is) r) ≡ length r = length-map r (inst_in is) in
        let e : length (get_or made.as_written k d).args ≡ length (map (inst_in is) r) = ap length a.args in
        let f : (functor_at fs (get_or made.as_written k d).functor).arity ≡ (get_or cs k no_choice).arity = ap (λ (z : Functor). z.arity) a.functor in
        let q = p.0 in
        record {
          functor = a.within;
          args = omega arith;
          below = λ i lt. subst (λ ys. get_or ys i 0 < bound) (sym a.args) (all_within r p.1 i (omega arith));
        }

    pub cases_proper : AreProper fs bound xs
    cases_proper = record { rising = cases_rising; fitting = λ k d lt. let f = All-permutation Fits made.as_written xs made.same written_fit k d lt in record { functor = f.functor; args = f.args; below = f.below } }

-- where no definition has `free` inside, no argument of the nodes is free
module _ (ds : List PlainInstDef) (first : ℕ) (some : 0 < first) (is : List ℕ) (are : InstsAre ds first is) where
  args_filled : (n : ℕ) (rs : List InstRef) → AllFitThere n (length ds) rs → (OneIsFree ds rs → ⊥) → Filled (map (inst_in is) rs)
  args_filled n [] f h k lt = absurd (omega arith)
  args_filled n (r ∷ rs) f h zero lt =
      by_order 0 (inst_in is r)
      (λ x. x)
      (λ e. absurd (h (inl (stands_node ds first r 0 some (subst (IsNode ds first r) (sym e) (inst_node ds first is are n r f.0))))))
      (λ x. absurd (omega arith))
  args_filled n (r ∷ rs) f h (suc k) lt = args_filled n rs f.1 (λ x. h (inr x)) k (omega arith)

  written_filled : (fs : List Functor) (n : ℕ) (cs : List Choice) (xs : List Case) → ChoicesFit n (length ds) (map plain_choice cs) → (OneHasFree ds (map plain_choice cs) → ⊥) → AreCases fs is cs xs → AllFilled xs
  written_filled fs n cs [] f unfree h k d lt = absurd (omega arith)
  written_filled fs n [] (x ∷ xs) f unfree h k d lt = let l : length (x ∷ xs) ≡ 0 = h.0 in absurd (omega arith)
  written_filled fs n (c ∷ cs) (x ∷ xs) f unfree h zero d lt =
      subst Filled (sym (h.1 0 c x (omega arith)).args) (args_filled n c.args f.1 (λ y. unfree (inl y)))
  written_filled fs n (c ∷ cs) (x ∷ xs) f unfree h (suc k) d lt =
      written_filled fs n cs xs f.3 (λ y. unfree (inr y)) (let l : suc (length xs) ≡ suc (length cs) = h.0 in omega arith, (λ j a b w. h.1 (suc j) a b (omega arith))) k d (omega arith)

  pub made_filled : (fs : List Functor) (n : ℕ) (cs : List Choice) (xs : List Case) → ChoicesFit n (length ds) (map plain_choice cs) → (OneHasFree ds (map plain_choice cs) → ⊥) → MakesCases fs is cs xs → AllFilled xs
  made_filled fs n cs xs f unfree made =
      All-permutation (λ (d : Case). Filled d.args) made.as_written xs made.same (written_filled fs n cs made.as_written f unfree made.are)

-- one more constructor
case_same : (fs : List Functor) (is : List ℕ) (c e : Choice) (d x : Case) → c ≡ e → d ≡ x → IsCase fs is c d → IsCase fs is e x
case_same fs is c e d x p q h = subst (λ (y : Case). IsCase fs is e y) q (subst (λ (y : Choice). IsCase fs is y d) p h)

pub cases_push : (fs gs : List Functor) (is : List ℕ) (cs : List Choice) (k : ℕ) (c : Choice) (d : Case) (xs : List Case) → Extends fs gs → k < length cs → c ≡ get_or cs k c
    → AreCases fs is (take k cs) xs → IsCase gs is c d → AreCases gs is (take (k + 1) cs) (xs ++ d ∷ [])
cases_push fs gs is cs k c d xs more lt e old here =
    let a : length (take k cs) ≡ k = length-take-le k cs (omega arith) in
    let b : length (take (k + 1) cs) ≡ k + 1 = length-take-le (k + 1) cs (omega arith) in
    let n : length xs ≡ k = old.0 ∙ a in
    let l : length (xs ++ d ∷ []) ≡ length xs + 1 = length-append xs (d ∷ []) in (
      omega arith,
      λ j x y w.
          by_order j k
          (λ s.
          case_same gs is (get_or (take k cs) j x) (get_or (take (k + 1) cs) j x) (get_or xs j y) (get_or (xs ++ d ∷ []) j y)
          (get_or-take k cs j x s ∙ sym (get_or-take (k + 1) cs j x (omega arith)))
          (sym (get_or_append_left xs (d ∷ []) y j (omega arith)))
          (case_on fs gs is (get_or (take k cs) j x) (get_or xs j y) more (old.1 j x y (omega arith))))
          (λ s.
          case_same gs is c (get_or (take (k + 1) cs) j x) d (get_or (xs ++ d ∷ []) j y)
          (e ∙ get_any cs k c x lt ∙ ap (λ m. get_or cs m x) (sym s) ∙ sym (get_or-take (k + 1) cs j x (omega arith)))
          (sym (get_or_push xs d y j (n ∙ sym s)))
          here)
          (λ s. absurd (omega arith)),
    )
