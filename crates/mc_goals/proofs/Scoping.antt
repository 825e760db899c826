-- Scopes that are written out by counts are those that are written out by lists.
use Rattle.std.proofs.Common.{◌≡◌, ℕ, ◌+◌, ◌-◌, List, [], ◌∷◌, ◌++◌, Bool, true, false, cond, nat_lt, ◌||◌, refl, sym, ap, ap₂, ◌∙◌, append_assoc, append-nil, arith}
use Rattle.mc_program.specs.Programs.{Formula, Equal, Call, And, Or, If, Not, Exists, Formulas, no_formulas, formula_then}
use Rattle.mc_program.specs.PlainPrograms.{formulas}
use Rattle.mc_model.specs.Lists.{is_in, without, once}
use Rattle.mc_accepted.specs.Scope.{variables_in, variables_in_all, occurring, occurring_all, free_of, free_of_all, quantified, scoped_condition, scoped, scoped_parts, scoped_disjuncts}
use Rattle.mc_goals.specs.code.Outside.{times, more, less, absent, free_by, free_by_all, own_of, scoped_by, parts_by, disjuncts_by}
use Rattle.mc_goals.proofs.Lists.{is_in-append, without-append}
use Rattle.mc_goals.proofs.OutsideCounts.{times-append, times-in, positive-add, more_in, at_more, at_less}

-- the variables that occur outside are those of a list
pub record Tells (f : ℕ → ℕ) (O : List ℕ) : Type 0 where
  pub tells : (w : ℕ) → nat_lt 0 (f w) ≡ is_in w O

pub tells_more : (f : ℕ → ℕ) (O xs : List ℕ) → Tells f O → Tells (more f xs) (O ++ xs)
tells_more f O xs h = record { tells = λ w. more_in f xs w ∙ ap (λ t. t || is_in w xs) (h.tells w) ∙ sym (is_in-append w O xs) }

-- a part of a conjunction whose parts before it, itself and those behind it were put
pub tells_part : (f h : ℕ → ℕ) (O front own back : List ℕ) → Tells f O → ((w : ℕ) → h w ≡ f w + times w (front ++ (own ++ back))) → Tells (less h own) ((O ++ front) ++ back)
tells_part f h O front own back told e = record {
  tells = λ w.
      let rest : (f w + times w (front ++ (own ++ back))) - times w own ≡ (f w + times w front) + times w back =
      ap (λ n. (f w + n) - times w own) (times-append w front (own ++ back) ∙ ap (λ n. times w front + n) (times-append w own back)) ∙ omega arith in
      ap (nat_lt 0) (at_less h own w ∙ ap (λ n. n - times w own) (e w) ∙ rest)
      ∙ positive-add (f w + times w front) (times w back)
      ∙ ap₂ (λ a b. a || b) (positive-add (f w) (times w front) ∙ ap₂ (λ a b. a || b) (told.tells w) (times-in w front) ∙ sym (is_in-append w O front)) (times-in w back)
      ∙ sym (is_in-append w (O ++ front) back);
}

absent_is : (f : ℕ → ℕ) (O xs : List ℕ) → Tells f O → absent f xs ≡ without xs O
absent_is f O [] h = refl
absent_is f O (x ∷ xs) h = ap₂ (λ t l. cond t l (x ∷ l)) (h.tells x) (absent_is f O xs h)

without_step : (s t : Bool) (x : ℕ) (l k vs O : List ℕ) → is_in x vs ≡ s → is_in x O ≡ t → without l O ≡ k → without (cond s l (x ∷ l)) O ≡ cond (t || s) k (x ∷ k)
without_step true true x l k vs O a b h = h
without_step true false x l k vs O a b h = h
without_step false true x l k vs O a b h = ap (λ e. cond e (without l O) (x ∷ without l O)) b ∙ h
without_step false false x l k vs O a b h = ap (λ e. cond e (without l O) (x ∷ without l O)) b ∙ ap (λ m. x ∷ m) h

-- without some numbers, and then without others
pub without_twice : (xs vs O : List ℕ) → without (without xs vs) O ≡ without xs (O ++ vs)
without_twice [] vs O = refl
without_twice (x ∷ xs) vs O =
    let k = without xs (O ++ vs) in
    without_step (is_in x vs) (is_in x O) x (without xs vs) k vs O refl refl (without_twice xs vs O)
    ∙ ap (λ t. cond t k (x ∷ k)) (sym (is_in-append x O vs))

again_step : (t : Bool) (x : ℕ) (l O : List ℕ) → is_in x O ≡ t → without l O ≡ l → without (cond t l (x ∷ l)) O ≡ cond t l (x ∷ l)
again_step true x l O e h = h
again_step false x l O e h = ap (λ s. cond s (without l O) (x ∷ without l O)) e ∙ ap (λ m. x ∷ m) h

without_again : (xs O : List ℕ) → without (without xs O) O ≡ without xs O
without_again [] O = refl
without_again (x ∷ xs) O = again_step (is_in x O) x (without xs O) O refl (without_again xs O)

mutual
  free_is : (f : ℕ → ℕ) (O : List ℕ) (g : Formula) → Tells f O → free_by f g ≡ without (free_of g) O
  free_is f O (Equal a b) h = absent_is f O (variables_in a ++ variables_in b) h
  free_is f O (Call p ts) h = absent_is f O (variables_in_all ts) h
  free_is f O (And gs) h = all_free_is f O gs h
  free_is f O (Or gs) h = all_free_is f O gs h
  free_is f O (If vs c t e) h =
      let inside : Tells (more f vs) (O ++ vs) = tells_more f O vs h in
      ap₂ (λ a b. a ++ b)
      (ap₂ (λ a b. a ++ b) (free_is (more f vs) (O ++ vs) c inside) (free_is (more f vs) (O ++ vs) t inside)
      ∙ sym (without-append (free_of c) (free_of t) (O ++ vs)) ∙ sym (without_twice (free_of c ++ free_of t) vs O))
      (free_is f O e h)
      ∙ sym (without-append (without (free_of c ++ free_of t) vs) (free_of e) O)
  free_is f O (Not g) h = free_is f O g h
  free_is f O (Exists vs g) h = free_is (more f vs) (O ++ vs) g (tells_more f O vs h) ∙ sym (without_twice (free_of g) vs O)

  all_free_is : (f : ℕ → ℕ) (O : List ℕ) (gs : Formulas) → Tells f O → free_by_all f gs ≡ without (free_of_all gs) O
  all_free_is f O no_formulas h = refl
  all_free_is f O (formula_then g gs) h =
      ap₂ (λ a b. a ++ b) (free_is f O g h) (all_free_is f O gs h) ∙ sym (without-append (free_of g) (free_of_all gs) O)

own_is : (f : ℕ → ℕ) (O : List ℕ) (g : Formula) → Tells f O → own_of f g ≡ once (without (free_of g) O)
own_is f O g h = ap once (absent_is f O (free_by f g) h ∙ ap (λ l. without l O) (free_is f O g h) ∙ without_again (free_of g) O)

mutual
  pub scoped_is : (f : ℕ → ℕ) (O : List ℕ) (g : Formula) → Tells f O → scoped_by f g ≡ scoped O g
  scoped_is f O (Equal a b) h = refl
  scoped_is f O (Call p ts) h = refl
  scoped_is f O (And gs) h =
      let parts = parts_are f (more f (occurring_all gs)) O [] gs h (λ w. at_more f (occurring_all gs) w) in
      ap And (parts ∙ ap (λ l. scoped_parts l gs) (append-nil O))
  scoped_is f O (Or gs) h = ap Or (disjuncts_are f O gs h)
  scoped_is f O (If vs c t e) h =
      let F = more f vs in
      let inside : Tells F (O ++ vs) = tells_more f O vs h in
      let first : scoped_by (more F (occurring t)) c ≡ scoped (O ++ (vs ++ occurring t)) c =
      scoped_is (more F (occurring t)) ((O ++ vs) ++ occurring t) c (tells_more F (O ++ vs) (occurring t) inside) ∙ ap (λ l. scoped l c) (append_assoc O vs (occurring t)) in
      let second : scoped_by (more F (occurring c)) t ≡ scoped (O ++ (vs ++ occurring c)) t =
      scoped_is (more F (occurring c)) ((O ++ vs) ++ occurring c) t (tells_more F (O ++ vs) (occurring c) inside) ∙ ap (λ l. scoped l t) (append_assoc O vs (occurring c)) in
      ap (λ k. If (vs ++ own_of F k) k (scoped_by (more F (occurring c)) t) (scoped_by f e)) first
      ∙ ap₂ (λ k m. If (vs ++ k) (scoped (O ++ (vs ++ occurring t)) c) m (scoped_by f e)) (own_is F (O ++ vs) (scoped (O ++ (vs ++ occurring t)) c) inside) second
      ∙ ap (λ k. scoped_condition O vs (scoped (O ++ (vs ++ occurring t)) c) (scoped (O ++ (vs ++ occurring c)) t) k) (scoped_is f O e h)
  scoped_is f O (Not g) h =
      ap (λ k. Not (quantified (own_of f k) k)) (scoped_is f O g h)
      ∙ ap (λ l. Not (quantified l (scoped O g))) (own_is f O (scoped O g) h)
  scoped_is f O (Exists vs g) h = ap (Exists vs) (scoped_is (more f vs) (O ++ vs) g (tells_more f O vs h))

  -- the parts of a conjunction, behind others, whose variables the list has
  parts_are : (f h : ℕ → ℕ) (O before : List ℕ) (gs : Formulas) → Tells f O → ((w : ℕ) → h w ≡ f w + times w (before ++ occurring_all gs)) → formulas (parts_by h gs) ≡ scoped_parts (O ++ before) gs
  parts_are f h O before no_formulas told e = refl
  parts_are f h O before (formula_then g gs) told e =
      let own = occurring g in
      let rest = occurring_all gs in
      ap₂ formula_then
      (scoped_is (less h own) ((O ++ before) ++ rest) g (tells_part f h O before own rest told e))
      (parts_are f h O (before ++ own) gs told (λ w. e w ∙ ap (λ l. f w + times w l) (sym (append_assoc before own rest)))
      ∙ ap (λ l. scoped_parts l gs) (sym (append_assoc O before own)))

  disjuncts_are : (f : ℕ → ℕ) (O : List ℕ) (gs : Formulas) → Tells f O → formulas (disjuncts_by f gs) ≡ scoped_disjuncts O gs
  disjuncts_are f O no_formulas h = refl
  disjuncts_are f O (formula_then g gs) h = ap₂ formula_then (scoped_is f O g h) (disjuncts_are f O gs h)

-- where nothing was outside before
pub scoped_from_nothing : (f : ℕ → ℕ) (O : List ℕ) (g : Formula) → ((w : ℕ) → f w ≡ 0) → scoped_by (more f O) g ≡ scoped O g
scoped_from_nothing f O g none =
    let nothing : Tells f [] = record { tells = λ w. ap (nat_lt 0) (none w) } in
    scoped_is (more f O) O g (tells_more f [] O nothing)

without_nothing : (xs : List ℕ) → without xs [] ≡ xs
without_nothing [] = refl
without_nothing (x ∷ xs) = ap (λ l. x ∷ l) (without_nothing xs)

-- the free variables of a goal whose scopes are written out, where nothing is outside
pub free_where_nothing_is : (f : ℕ → ℕ) (g : Formula) → ((w : ℕ) → f w ≡ 0) → own_of f (scoped_by f g) ≡ once (free_of (scoped [] g))
free_where_nothing_is f g none =
    let nothing : Tells f [] = record { tells = λ w. ap (nat_lt 0) (none w) } in
    ap (own_of f) (scoped_is f [] g nothing) ∙ own_is f [] (scoped [] g) nothing ∙ ap once (without_nothing (free_of (scoped [] g)))
