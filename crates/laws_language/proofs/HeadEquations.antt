-- What the equations of a clause's head say of its arguments.
use Rattle.std.proofs.Common.{◌≡◌, ◌⊎◌, inl, inr, ℕ, zero, suc, ◌+◌, ◌-◌, ◌<◌, ◌≤◌, List, [], ◌∷◌, ◌++◌, map, length, get_or, Bool, true, false, cond, refl, sym, ap, ap₂, ◌∙◌, subst, arith, ⊎_elim, append-nil}
use Rattle.mc_program.specs.Values.{Val}
use Rattle.mc_program.specs.Programs.{Expression, variable, constant, made, applied, expressions, Formula}
use Rattle.mc_model.specs.Truth.{Assignment, Facts, Choice, parts, parts_all, AtomYes, AtomNo, AreEqual, Differ, pair, YesBy, NoBy, AllYesBy, OneNoBy, equated}
use Rattle.mc_accepted.specs.Normal.{equate, head_place, is_place, head_equation, head_equations}
use Rattle.mc_accepted.specs.Scope.{variables_in, variables_in_all}
use Rattle.mc_model.specs.Lists.{In, from}
use Rattle.laws_language.proofs.FlatGoals.{in_left, in_right, AllFlatYes, OneFlatNo, all_split, one_split}
use Rattle.laws_language.proofs.FlatAtoms.{same_or_not, inner, inner_values, inner_length, inner_next, equate_yes, equate_no, chosen, chosen_made, chosen_last, HasValues, put_in, put_low, put_high, put_at}
use Rattle.laws_language.proofs.FlatWhole.{nothing, joined, joined_first, joined_second, all_yes_same, values_same}
use Rattle.laws_language.proofs.ClauseNumbers.{IsArgument}

-- the variables from i on have these values
abbrev pub HaveFrom : ℕ → List Val → Assignment → Type 0
HaveFrom i [] u = Unit {0}
HaveFrom i (v ∷ ws) u = (u i ≡ v) × HaveFrom (suc i) ws u

abbrev first_of : List Val → Val → Val
first_of [] v = v
first_of (w ∷ ws) v = w

abbrev rest_of : List Val → List Val
rest_of [] = []
rest_of (w ∷ ws) = ws

pub have_from : (i : ℕ) (ws : List Val) (u : Assignment) → map u (from i (length ws)) ≡ ws → HaveFrom i ws u
have_from i [] u e = tt
have_from i (v ∷ ws) u e = (ap (λ l. first_of l v) e, have_from (suc i) ws u (ap rest_of e))

pub mapped_from : (i : ℕ) (ws : List Val) (u : Assignment) → HaveFrom i ws u → map u (from i (length ws)) ≡ ws
mapped_from i [] u h = refl
mapped_from i (v ∷ ws) u h = ap₂ (λ x xs. x ∷ xs) h.0 (mapped_from (suc i) ws u h.1)

pub have_same : (i : ℕ) (ws : List Val) (u w : Assignment) → ((x : ℕ) → x < i + length ws → w x ≡ u x) → HaveFrom i ws u → HaveFrom i ws w
have_same i [] u w same h = tt
have_same i (v ∷ ws) u w same h = (same i (omega arith) ∙ h.0, have_same (suc i) ws u w (λ x l. same x (omega (arith, l))) h.1)

-- an assignment that has them
abbrev pub listed : List Val → Assignment
listed ws x = get_or ws x (nothing 0)

listed_has : (i : ℕ) (all ws : List Val) → ((j : ℕ) → listed all (i + j) ≡ listed ws j) → HaveFrom i ws (listed all)
listed_has i all [] same = tt
listed_has i all (v ∷ ws) same = (ap (listed all) (omega arith) ∙ same 0, listed_has (suc i) all ws (λ j. ap (listed all) (omega arith) ∙ same (suc j)))

pub listed_have : (ws : List Val) → HaveFrom 0 ws (listed ws)
listed_have ws = listed_has 0 ws ws (λ j. ap (listed ws) (omega arith))

-- an argument that is a variable has this value
abbrev Meets : Assignment → Val → Expression → Type 0
Meets s v (variable x) = v ≡ s x
Meets s v (constant p) = Unit {0}
Meets s v (made f ts) = Unit {0}
Meets s v (applied p ts) = Unit {0}

abbrev pub AllMeet : Assignment → List Val → List Expression → Type 0
AllMeet s [] ts = Unit {0}
AllMeet s (v ∷ ws) [] = Unit {0}
AllMeet s (v ∷ ws) (t ∷ ts) = Meets s v t × AllMeet s ws ts

pub met : (s u : Assignment) (i j x : ℕ) (ws : List Val) (ts : List Expression) → length ws ≡ length ts → HaveFrom i ws u → AllMeet s ws ts → IsArgument x j ts → u (i + j) ≡ s x
met s u i j x ws [] e has all h = absurd h
met s u i j x [] (t ∷ ts) e has all h = absurd (omega (arith, e))
met s u i zero x (v ∷ ws) (t ∷ ts) e has all h = ap u (omega arith) ∙ has.0 ∙ subst (Meets s v) h all.0
met s u i (suc j) x (v ∷ ws) (t ∷ ts) e has all h = ap u (omega arith) ∙ met s u (suc i) j x ws ts (omega (arith, e)) has.1 all.1 h

-- as many variables are made for an argument as it has parts inside
module _ (names : ℕ → ℕ) (head : List Expression) where
  argument_next : (n i : ℕ) (t : Expression) → (head_equation names head n i t).next ≡ n + inner t
  argument_next n i (variable x) = by_test (is_place i (head_place x head))
    where
      by_test : (b : Bool) → (cond b (record { goals = []; made_variables = []; next = n }) (equate names n i (variable x))).next ≡ n + 0
      by_test true = omega arith
      by_test false = omega arith
  argument_next n i (constant p) = inner_next names n i (constant p)
  argument_next n i (made f ts) = inner_next names n i (made f ts)
  argument_next n i (applied p ts) = inner_next names n i (applied p ts)

  pub head_next : (n i : ℕ) (ts : List Expression) → n ≤ (head_equations names head n i ts).next
  head_next n i [] = omega arith
  head_next n i (t ∷ ts) = omega (arith, argument_next n i t, head_next (head_equation names head n i t).next (suc i) ts)

module _ (C : Facts) (names : ℕ → ℕ) (s w : Assignment) where
  abbrev pub SameIn : Expression → Type 0
  SameIn t = (x : ℕ) → In x (variables_in t) → s x ≡ w (names x)

  -- an argument is equal to a term, or not, where its head variable is by the flat goals
  term_yes : (n z : ℕ) (v : Val) (t : Expression) → 1 ≤ n → w z ≡ v → SameIn t → AllFlatYes C w (equate names n z t).goals → (c : Assignment) × AtomYes C s c (pair (constant v) t) AreEqual
  term_yes n z v t l e same y =
      let m = n - 1 in
      let total = 1 + parts t in
      let c = chosen C names m s w total z in
      let r =
      equate_yes C names m s w c (total - 1) (λ j b. chosen_made C names m s w total z j b) t 1 n z (omega (arith, l)) (omega arith) same
      (λ p ts q. chosen_last C names m s w total z (1 + parts_all ts) (omega (arith, ap parts q))) y in
      (c, ((tt, (r.1, tt)), sym e ∙ r.0))

  term_no : (c : Assignment) (n z : ℕ) (v : Val) (t : Expression) → 1 ≤ n → w z ≡ v → SameIn t → HasValues w n (inner_values s c 1 t) → OneFlatNo C w (equate names n z t).goals → AtomNo C s c (pair (constant v) t) Differ
  term_no c n z v t l e same at h =
      let m = n - 1 in
      let values = inner_values s c 1 t in
      ⊎_elim (λ q. inl (inr (inl q))) (λ d. inr (λ q. d (e ∙ q)))
      (equate_no C names m s w c (w m ∷ values) (one_before m values (λ j pre post x. at' j pre post x)) t 1 n z (w m ∷ []) [] (omega (arith, l)) same (ap (λ l. w m ∷ l) (sym (append-nil values))) refl h)
    where
      at' : (j : ℕ) (pre post : List Val) (x : Val) → inner_values s c 1 t ≡ pre ++ x ∷ post → length pre ≡ j → w (n - 1 + suc j) ≡ x
      at' j pre post x q k = ap w (omega (arith, l)) ∙ at j pre post x q k

      one_before : (m : ℕ) (values : List Val) → ((j : ℕ) (pre post : List Val) (x : Val) → values ≡ pre ++ x ∷ post → length pre ≡ j → w (m + suc j) ≡ x) → HasValues w m (w m ∷ values)
      one_before m values rest j [] post x q k = ap w (omega (arith, k)) ∙ ap (λ l. first_of l x) q
      one_before m values rest j (y ∷ pre) post x q k = ap w (omega (arith, k)) ∙ rest (length pre) pre post x (ap rest_of q) refl

  module _ (head : List Expression) (at_place : (x i : ℕ) → is_place i (head_place x head) ≡ true → names x ≡ i) where
    argument_yes : (n i : ℕ) (v : Val) (t : Expression) → 1 ≤ n → w i ≡ v → SameIn t → AllFlatYes C w (head_equation names head n i t).goals → (c : Assignment) × AtomYes C s c (pair (constant v) t) AreEqual
    argument_yes n i v (variable x) l e same y = by_test (is_place i (head_place x head)) (at_place x i) y
      where
        by_test : (b : Bool) → (b ≡ true → names x ≡ i) → AllFlatYes C w (cond b (record { goals = []; made_variables = []; next = n }) (equate names n i (variable x))).goals → (c : Assignment) × AtomYes C s c (pair (constant v) (variable x)) AreEqual
        by_test true q y = (s, ((tt, (tt, tt)), sym e ∙ ap w (sym (q refl)) ∙ sym (same x (inl refl))))
        by_test false q y = term_yes n i v (variable x) l e same y
    argument_yes n i v (constant p) l e same y = term_yes n i v (constant p) l e same y
    argument_yes n i v (made f ts) l e same y = term_yes n i v (made f ts) l e same y
    argument_yes n i v (applied p ts) l e same y = term_yes n i v (applied p ts) l e same y

    argument_no : (c : Assignment) (n i : ℕ) (v : Val) (t : Expression) → 1 ≤ n → w i ≡ v → SameIn t → HasValues w n (inner_values s c 1 t) → OneFlatNo C w (head_equation names head n i t).goals → AtomNo C s c (pair (constant v) t) Differ
    argument_no c n i v (variable x) l e same at h = by_test (is_place i (head_place x head)) h
      where
        by_test : (b : Bool) → OneFlatNo C w (cond b (record { goals = []; made_variables = []; next = n }) (equate names n i (variable x))).goals → AtomNo C s c (pair (constant v) (variable x)) Differ
        by_test true h = absurd h
        by_test false h = term_no c n i v (variable x) l e same at h
    argument_no c n i v (constant p) l e same at h = term_no c n i v (constant p) l e same at h
    argument_no c n i v (made f ts) l e same at h = term_no c n i v (made f ts) l e same at h
    argument_no c n i v (applied p ts) l e same at h = term_no c n i v (applied p ts) l e same at h

    -- all the arguments, with the body behind them
    abbrev pub AllSame : List Expression → Type 0
    AllSame ts = (x : ℕ) → In x (variables_in_all (expressions ts)) → s x ≡ w (names x)

    same_first : (t : Expression) (ts : List Expression) → AllSame (t ∷ ts) → SameIn t
    same_first t ts h x i = h x (in_left x (variables_in t) (variables_in_all (expressions ts)) i)

    same_rest : (t : Expression) (ts : List Expression) → AllSame (t ∷ ts) → AllSame ts
    same_rest t ts h x i = h x (in_right x (variables_in t) (variables_in_all (expressions ts)) i)

    pub head_yes : (ts : List Expression) (ws : List Val) (n i k : ℕ) (body : Formula) → length ws ≡ length ts → length ts ≤ n → HaveFrom i ws w → AllSame ts → AllFlatYes C w (head_equations names head n i ts).goals →
        ((j : ℕ) → (d : Choice) × YesBy C d j body s) → (d : Choice) × AllYesBy C d k (equated ws ts body) s
    head_yes [] [] n i k body e l has same y rest = let r = rest k in (r.0, (r.1, tt))
    head_yes [] (v ∷ ws) n i k body e l has same y rest = absurd (omega (arith, e))
    head_yes (t ∷ ts) [] n i k body e l has same y rest = absurd (omega (arith, e))
    head_yes (t ∷ ts) (v ∷ ws) n i k body e l has same y rest =
        let r = head_equation names head n i t in
        let z = all_split C w r.goals (head_equations names head r.next (suc i) ts).goals y in
        let a = argument_yes n i v t (omega (arith, l)) has.0 (same_first t ts same) z.0 in
        let b = head_yes ts ws r.next (suc i) (k + 1) body (omega (arith, e)) (omega (arith, l, argument_next names head n i t)) has.1 (same_rest t ts same) z.1 rest in
        let first : Choice = λ j. a.0 in
        let d = joined (k + 1) first b.0 in
        (d, (subst (λ c. AtomYes C s c (pair (constant v) t) AreEqual) (joined_first (k + 1) first b.0 k (omega arith)) a.1, all_yes_same C b.0 d (k + 1) (equated ws ts body) s (λ j p q. joined_second (k + 1) first b.0 j p) b.1))

    -- the made variables have the values of the arguments' parts
    abbrev pub HeadFits : Choice → (k n i : ℕ) → List Expression → Type 0
    HeadFits d k n i [] = Unit {0}
    HeadFits d k n i (t ∷ ts) = HasValues w n (inner_values s (d k) 1 t) × HeadFits d (k + 1) (head_equation names head n i t).next (suc i) ts

    pub head_no : (d : Choice) (ts : List Expression) (ws : List Val) (n i k : ℕ) (body : Formula) → length ws ≡ length ts → length ts ≤ n → HaveFrom i ws w → AllSame ts → HeadFits d k n i ts →
        OneFlatNo C w (head_equations names head n i ts).goals → OneNoBy C d k (equated ws ts body) s
    head_no d [] ws n i k body e l has same fits h = absurd h
    head_no d (t ∷ ts) [] n i k body e l has same fits h = absurd (omega (arith, e))
    head_no d (t ∷ ts) (v ∷ ws) n i k body e l has same fits h =
        let r = head_equation names head n i t in
        ⊎_elim (λ q. inl (argument_no (d k) n i v t (omega (arith, l)) has.0 (same_first t ts same) fits.0 q))
        (λ q. inr (head_no d ts ws r.next (suc i) (k + 1) body (omega (arith, e)) (omega (arith, l, argument_next names head n i t)) has.1 (same_rest t ts same) fits.1 q))
        (one_split C w r.goals (head_equations names head r.next (suc i) ts).goals h)

-- the body is false
pub body_no : (C : Facts) (d : Choice) (s : Assignment) (ts : List Expression) (ws : List Val) (j k : ℕ) (body : Formula) → length ws ≡ length ts → j ≡ k + length ts → NoBy C d j body s → OneNoBy C d k (equated ws ts body) s
body_no C d s [] [] j k body e q h = inl (subst (λ i. NoBy C d i body s) (omega (arith, q)) h)
body_no C d s [] (v ∷ ws) j k body e q h = absurd (omega (arith, e))
body_no C d s (t ∷ ts) [] j k body e q h = absurd (omega (arith, e))
body_no C d s (t ∷ ts) (v ∷ ws) j k body e q h = inr (body_no C d s ts ws j (k + 1) body (omega (arith, e)) (omega (arith, q)) h)

-- an argument that is a variable has its value or not
module _ (C : Facts) (d : Choice) (s : Assignment) where
  meets_or_not : (c : Assignment) (v : Val) (t : Expression) → AtomNo C s c (pair (constant v) t) Differ ⊎ Meets s v t
  meets_or_not c v (variable x) = ⊎_elim (λ e. inr e) (λ n. inl (inr n)) (same_or_not v (s x))
  meets_or_not c v (constant p) = inr tt
  meets_or_not c v (made f ts) = inr tt
  meets_or_not c v (applied p ts) = inr tt

  pub meet_or_not : (ts : List Expression) (ws : List Val) (k : ℕ) (body : Formula) → length ws ≡ length ts → OneNoBy C d k (equated ws ts body) s ⊎ AllMeet s ws ts
  meet_or_not [] [] k body e = inr tt
  meet_or_not [] (v ∷ ws) k body e = absurd (omega (arith, e))
  meet_or_not (t ∷ ts) [] k body e = absurd (omega (arith, e))
  meet_or_not (t ∷ ts) (v ∷ ws) k body e =
      ⊎_elim (λ h. inl (inl h)) (λ m. ⊎_elim (λ h. inl (inr h)) (λ rest. inr (m, rest)) (meet_or_not ts ws (k + 1) body (omega (arith, e)))) (meets_or_not (d k) v t)

-- the made variables of a head get the values of its parts, argument by argument
module _ (names : ℕ → ℕ) (head : List Expression) (d : Choice) (s : Assignment) where
  abbrev pub head_written : (k n i : ℕ) → List Expression → Assignment → Assignment
  head_written k n i [] w = w
  head_written k n i (t ∷ ts) w = head_written (k + 1) (head_equation names head n i t).next (suc i) ts (put_in n w (inner_values s (d k) 1 t))

  pub written_low : (k n i : ℕ) (ts : List Expression) (w : Assignment) (x : ℕ) → x < n → head_written k n i ts w x ≡ w x
  written_low k n i [] w x l = refl
  written_low k n i (t ∷ ts) w x l =
      let values = inner_values s (d k) 1 t in
      written_low (k + 1) (head_equation names head n i t).next (suc i) ts (put_in n w values) x (omega (arith, l, argument_next names head n i t)) ∙ put_low n w values x l

  pub written_high : (k n i : ℕ) (ts : List Expression) (w : Assignment) (x : ℕ) → (head_equations names head n i ts).next ≤ x → head_written k n i ts w x ≡ w x
  written_high k n i [] w x l = refl
  written_high k n i (t ∷ ts) w x l =
      let values = inner_values s (d k) 1 t in
      let next = (head_equation names head n i t).next in
      written_high (k + 1) next (suc i) ts (put_in n w values) x l ∙ put_high n w values x (omega (arith, l, head_next names head next (suc i) ts, argument_next names head n i t, inner_length s (d k) 1 t))

  pub written_fit : (C : Facts) (at_place : (x i : ℕ) → is_place i (head_place x head) ≡ true → names x ≡ i) (k n i : ℕ) (ts : List Expression) (w v : Assignment) → ((x : ℕ) → x < (head_equations names head n i ts).next → v x ≡ head_written k n i ts w x) → HeadFits C names s v head at_place d k n i ts
  written_fit C at_place k n i [] w v same = tt
  written_fit C at_place k n i (t ∷ ts) w v same =
      let values = inner_values s (d k) 1 t in
      let next = (head_equation names head n i t).next in
      let w' = put_in n w values in (
        values_same w' v n values (λ x l b.
            let below : x < next = omega (arith, b, argument_next names head n i t, inner_length s (d k) 1 t) in
            same x (omega (arith, below, head_next names head next (suc i) ts)) ∙ written_low (k + 1) next (suc i) ts w' x below) (put_at n w values),
        written_fit C at_place (k + 1) next (suc i) ts w' v same,
      )
