-- A goal whose quantifiers name variables of their own does so wherever what is around it is apart from
-- them.
use Rattle.std.proofs.Common.{◌⊎◌, ℕ, List, ◌++◌, ⊎_elim}
use Rattle.mc_program.specs.Programs.{Formula, Equal, Call, And, Or, If, Not, Exists, Formulas, no_formulas, formula_then}
use Rattle.mc_model.specs.Lists.{In, Apart, Among}
use Rattle.laws_language.proofs.FlatGoals.{in_either, in_left, in_right}
use Rattle.mc_accepted.specs.Normal.{named_by_quantifiers, named_by_quantifiers_of_all}
use Rattle.laws_order.specs.NormalScopes.{mentioned, all_mentioned, OwnNames, PartsOwnNames, DisjunctsOwnNames}

-- what of some names is around is around elsewhere too
abbrev Around : (names here there : List ℕ) → Type 0
Around names X Y = (x : ℕ) → In x names → In x X → In x Y

apart_here : (vs X Y : List ℕ) → Around vs X Y → Apart vs Y → Apart vs X
apart_here vs X Y h a x i j = a x i (h x i j)

fewer : (vs names X Y : List ℕ) → Among vs names → Around names X Y → Around vs X Y
fewer vs names X Y k h x i j = h x (k x i) j

more : (vs names X Y : List ℕ) → Among vs names → Around names X Y → (Z : List ℕ) → Around vs (X ++ Z) (Y ++ Z)
more vs names X Y k h Z x i j = ⊎_elim (λ a. in_left x Y Z (h x (k x i) a)) (λ b. in_right x Y Z b) (in_either x X Z j)

first_of : (xs ys : List ℕ) → Among xs (xs ++ ys)
first_of xs ys x i = in_left x xs ys i

rest_of : (xs ys : List ℕ) → Among ys (xs ++ ys)
rest_of xs ys x i = in_right x xs ys i

mutual
  pub own_elsewhere : (X Y : List ℕ) (g : Formula) → Around (named_by_quantifiers g) X Y → OwnNames Y g → OwnNames X g
  own_elsewhere X Y (Equal a b) h o = tt
  own_elsewhere X Y (Call p ts) h o = tt
  own_elsewhere X Y (And gs) h o = parts_elsewhere X Y gs h o
  own_elsewhere X Y (Or gs) h o = disjuncts_elsewhere X Y gs h o
  own_elsewhere X Y (If vs c t e) h o =
      let C : List ℕ = named_by_quantifiers c in
      let T : List ℕ = named_by_quantifiers t in
      let E : List ℕ = named_by_quantifiers e in
      let names : List ℕ = vs ++ (C ++ (T ++ E)) in
      let of_c : Among C names = λ x i. in_right x vs (C ++ (T ++ E)) (in_left x C (T ++ E) i) in
      let of_t : Among T names = λ x i. in_right x vs (C ++ (T ++ E)) (in_right x C (T ++ E) (in_left x T E i)) in
      let of_e : Among E names = λ x i. in_right x vs (C ++ (T ++ E)) (in_right x C (T ++ E) (in_right x T E i)) in (
        apart_here vs X Y (fewer vs names X Y (first_of vs (C ++ (T ++ E))) h) o.0,
        own_elsewhere (X ++ (vs ++ mentioned t)) (Y ++ (vs ++ mentioned t)) c (more C names X Y of_c h (vs ++ mentioned t)) o.1,
        own_elsewhere (X ++ (vs ++ mentioned c)) (Y ++ (vs ++ mentioned c)) t (more T names X Y of_t h (vs ++ mentioned c)) o.2,
        own_elsewhere X Y e (fewer E names X Y of_e h) o.3,
      )
  own_elsewhere X Y (Not g) h o = own_elsewhere X Y g h o
  own_elsewhere X Y (Exists vs g) h o =
      let names : List ℕ = vs ++ named_by_quantifiers g in (
        apart_here vs X Y (fewer vs names X Y (first_of vs (named_by_quantifiers g)) h) o.0,
        own_elsewhere (X ++ vs) (Y ++ vs) g (more (named_by_quantifiers g) names X Y (rest_of vs (named_by_quantifiers g)) h vs) o.1,
      )

  parts_elsewhere : (X Y : List ℕ) (gs : Formulas) → Around (named_by_quantifiers_of_all gs) X Y → PartsOwnNames Y gs → PartsOwnNames X gs
  parts_elsewhere X Y no_formulas h o = tt
  parts_elsewhere X Y (formula_then g gs) h o =
      let G : List ℕ = named_by_quantifiers g in
      let Gs : List ℕ = named_by_quantifiers_of_all gs in (
        own_elsewhere (X ++ all_mentioned gs) (Y ++ all_mentioned gs) g (more G (G ++ Gs) X Y (first_of G Gs) h (all_mentioned gs)) o.0,
        parts_elsewhere (X ++ mentioned g) (Y ++ mentioned g) gs (more Gs (G ++ Gs) X Y (rest_of G Gs) h (mentioned g)) o.1,
      )

  disjuncts_elsewhere : (X Y : List ℕ) (gs : Formulas) → Around (named_by_quantifiers_of_all gs) X Y → DisjunctsOwnNames Y gs → DisjunctsOwnNames X gs
  disjuncts_elsewhere X Y no_formulas h o = tt
  disjuncts_elsewhere X Y (formula_then g gs) h o =
      let G : List ℕ = named_by_quantifiers g in
      let Gs : List ℕ = named_by_quantifiers_of_all gs in (
        own_elsewhere X Y g (fewer G (G ++ Gs) X Y (first_of G Gs) h) o.0,
        disjuncts_elsewhere X Y gs (fewer Gs (G ++ Gs) X Y (rest_of G Gs) h) o.1,
      )

-- the quantifiers of a goal name variables of their own wherever what is around it is apart from them
abbrev pub NamesNewOnes : Formula → Type 0
NamesNewOnes g = (X : List ℕ) → Apart (named_by_quantifiers g) X → OwnNames X g

pub names_new_ones : (Y : List ℕ) (g : Formula) → OwnNames Y g → NamesNewOnes g
names_new_ones Y g own X apart = own_elsewhere X Y g (λ x i j. absurd (apart x i j)) own
