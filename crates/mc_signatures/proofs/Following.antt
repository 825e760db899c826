-- Where modes go, as their definitions are followed.
use Rattle.std.proofs.Common.{◌≡◌, ℕ, ◌+◌, ◌<◌, ◌≤◌, List, [], ◌∷◌, ◌++◌, map, length, get_or, take, refl, sym, ap, ap₂, ◌∙◌, subst}
use Rattle.std.specs.Prelude.{Some}
use Rattle.std.proofs.lemmas.List.{take_more, take_all}
use Rattle.mc_accepted.specs.InstRules.{InstTerm, parameter, inst_node, defined, bound_over, InstTerms, no_insts, inst_then, over, each_over}
use Rattle.mc_insts.specs.code.Lists.{Extends}
use Rattle.mc_names.specs.Linked.{Linked}
use Rattle.mc_inst_table.specs.declared.inst.Inst.{Inst}
use Rattle.mc_inst_table.specs.declared.inst.Mode.{Mode}
use Rattle.mc_inst_table.specs.declared.inst.Mode.TheVariants as V
use Rattle.mc_inst_table.specs.Written.{ModeTerm, from_to, defined_mode}
use Rattle.mc_inst_table.specs.Plain.{inst_terms, plain_inst, plain_insts, plain_mode}
use Rattle.mc_signatures.specs.MeantModes.{mode_bodies, mode_over, Goes, from_and_to, as_defined}
use Rattle.mc_signatures.specs.Signatures.{EachMeans}
use Rattle.mc_signatures.specs.code.Keys.{terms_at, AllBelow, IsInst, AreInsts, with_insts}
use Rattle.mc_signatures.specs.code.Definitions.{GoesBetween, Follows}
use Rattle.mc_signatures.proofs.Expanding.{inst_on, terms_later, each_over_terms}

map_more : {A B : Type 0} (f : A → B) (xs ys : List A) → map f (xs ++ ys) ≡ map f xs ++ map f ys
map_more f [] ys = refl
map_more f (x ∷ xs) ys = ap (λ zs. f x ∷ zs) (map_more f xs ys)

pub taken_more :
    {A B : Type 0} (f : A → B) (xs : List A) (k : ℕ) (x : A)
    → k < length xs → x ≡ get_or xs k x → map f (take (k + 1) xs) ≡ map f (take k xs) ++ f x ∷ []
taken_more {A} f xs k x below at =
    ap (map f) (take_more xs k x below ∙ ap (λ (y : A). take k xs ++ y ∷ []) (sym at))
    ∙ map_more f (take k xs) (x ∷ [])

mutual
  over_nothing : (t : InstTerm) → over no_insts t ≡ t
  over_nothing (parameter k) = refl
  over_nothing (inst_node i) = refl
  over_nothing (defined d is) = ap (defined d) (each_over_nothing is)
  over_nothing (bound_over fs is) = ap (bound_over fs) (each_over_nothing is)

  each_over_nothing : (is : InstTerms) → each_over no_insts is ≡ is
  each_over_nothing no_insts = refl
  each_over_nothing (inst_then i is) = ap₂ inst_then (over_nothing i) (each_over_nothing is)

mode_over_nothing : (m : ModeTerm) → mode_over no_insts m ≡ m
mode_over_nothing (from_to i j) = ap₂ from_to (over_nothing i) (over_nothing j)
mode_over_nothing (defined_mode d is) = ap (defined_mode d) (each_over_nothing is)

-- ONE MODE

pub follows_itself : (l : Linked) (ts : List InstTerm) (m : ModeTerm) → Follows l ts [] m m
follows_itself l ts m i j goes = subst (λ n. Goes l n i j) (mode_over_nothing m) goes

pub follows_later :
    (l : Linked) (ts us : List InstTerm) (given : List ℕ) (w m : ModeTerm)
    → Extends ts us → AllBelow (length ts) given → Follows l ts given w m → Follows l us given w m
follows_later l ts us given w m e below follows =
    subst (λ is. (i j : InstTerm) → Goes l (mode_over is m) i j → Goes l w i j) (sym (terms_later ts us given e below)) follows

pub follows_on :
    (l : Linked) (ts us : List InstTerm) (given news : List ℕ) (w : ModeTerm) (mode body : Mode) (d : ℕ) (insts : List Inst)
    → mode ≡ V.Defined d insts → mode_bodies l d ≡ Some (plain_mode body)
    → AreInsts us news (map (with_insts ts given) (map plain_inst insts))
    → Follows l ts given w (plain_mode mode) → Follows l us news w (plain_mode body)
follows_on l ts us given news w mode body d insts form known are follows i j goes =
    let js = terms_at ts given in
    let same : terms_at us news ≡ each_over js (plain_insts insts) =
    ap inst_terms are.are ∙ sym (each_over_terms js (map plain_inst insts)) in
    let here : Goes l (defined_mode d (each_over js (plain_insts insts))) i j =
    subst (λ is. Goes l (defined_mode d is) i j) same (as_defined known goes) in
    follows i j (subst (λ (u : Mode). Goes l (mode_over js (plain_mode u)) i j) (sym form) here)

pub follows_end :
    (l : Linked) (ts us : List InstTerm) (given : List ℕ) (w : ModeTerm) (mode : Mode) (first last : Inst) (a b : ℕ)
    → mode ≡ V.FromTo first last
    → IsInst us a (with_insts ts given (plain_inst first)) → IsInst us b (with_insts ts given (plain_inst last))
    → Follows l ts given w (plain_mode mode) → GoesBetween l us w a b
follows_end l ts us given w mode first last a b form is_first is_last follows =
    let js = terms_at ts given in
    let i = over js (plain_inst first) in
    let j = over js (plain_inst last) in
    record {
      from = i;
      to = j;
      goes = follows i j (subst (λ (u : Mode). Goes l (mode_over js (plain_mode u)) i j) (sym form) from_and_to);
      is_first = is_first;
      is_last = is_last;
    }

pub between_later : (l : Linked) (ts us : List InstTerm) (m : ModeTerm) (a b : ℕ) → Extends ts us → GoesBetween l ts m a b → GoesBetween l us m a b
between_later l ts us m a b e g =
    record {
      from = g.from;
      to = g.to;
      goes = g.goes;
      is_first = inst_on ts us a g.from e g.is_first;
      is_last = inst_on ts us b g.to e g.is_last;
    }

-- THE MODES OF ARGUMENTS

module _ (Means : ModeTerm → (first last : ℕ) → Type 0) where
  means_more :
      (ms : List ModeTerm) (is js : List ℕ) (m : ModeTerm) (a b : ℕ)
      → EachMeans Means ms is js → Means m a b → EachMeans Means (ms ++ m ∷ []) (is ++ a ∷ []) (js ++ b ∷ [])
  means_more [] [] [] m a b each one = (one, tt)
  means_more [] [] (j ∷ js) m a b each one = absurd each
  means_more [] (i ∷ is) js m a b each one = absurd each
  means_more (n ∷ ms) [] js m a b each one = absurd each
  means_more (n ∷ ms) (i ∷ is) [] m a b each one = absurd each
  means_more (n ∷ ms) (i ∷ is) (j ∷ js) m a b each one = (each.0, means_more ms is js m a b each.1 one)

  pub meant_more :
      (ms : List Mode) (k : ℕ) (m : Mode) (is js news others : List ℕ) (a b : ℕ)
      → k < length ms → m ≡ get_or ms k m → news ≡ is ++ a ∷ [] → others ≡ js ++ b ∷ []
      → EachMeans Means (map plain_mode (take k ms)) is js → Means (plain_mode m) a b
      → EachMeans Means (map plain_mode (take (k + 1) ms)) news others
  meant_more ms k m is js news others a b below at first last are one =
      let all = means_more (map plain_mode (take k ms)) is js (plain_mode m) a b are one in
      subst (λ us. EachMeans Means us news others) (sym (taken_more plain_mode ms k m below at))
      (subst (λ us. EachMeans Means (map plain_mode (take k ms) ++ plain_mode m ∷ []) us others) (sym first)
      (subst (λ us. EachMeans Means (map plain_mode (take k ms) ++ plain_mode m ∷ []) (is ++ a ∷ []) us) (sym last) all))

  pub meant_all :
      (ms : List Mode) (k : ℕ) (is js : List ℕ)
      → length ms ≤ k → EachMeans Means (map plain_mode (take k ms)) is js → EachMeans Means (map plain_mode ms) is js
  meant_all ms k is js past are =
      subst (λ (us : List Mode). EachMeans Means (map plain_mode us) is js) (take_all k ms past) are

-- what means more means so too
pub each_means_on :
    (M N : ModeTerm → (first last : ℕ) → Type 0) → ((m : ModeTerm) (a b : ℕ) → M m a b → N m a b)
    → (ms : List ModeTerm) (is js : List ℕ) → EachMeans M ms is js → EachMeans N ms is js
each_means_on M N f [] [] [] each = tt
each_means_on M N f [] [] (j ∷ js) each = absurd each
each_means_on M N f [] (i ∷ is) js each = absurd each
each_means_on M N f (m ∷ ms) [] js each = absurd each
each_means_on M N f (m ∷ ms) (i ∷ is) [] each = absurd each
each_means_on M N f (m ∷ ms) (i ∷ is) (j ∷ js) each = (f m i j each.0, each_means_on M N f ms is js each.1)
