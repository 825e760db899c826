-- The next part of a conjunction, and the next disjunct.
use Rattle.std.proofs.Common.{◌≡◌, ℕ, zero, suc, ◌+◌, ◌<◌, ◌≤◌, List, [], ◌∷◌, ◌++◌, map, length, drop, get_or, refl, sym, ap, ◌∙◌, append_assoc, arith}
use Rattle.std.proofs.lemmas.List.{map-append, at_drop_more}
use Rattle.mc_program.specs.Programs.{Formula}
use Rattle.mc_program.specs.PlainPrograms.{plain_goal, formulas}
use Rattle.mc_program.specs.declared.program.Goal.{Goal}
use Rattle.mc_accepted.specs.Scope.{occurring, occurring_all}
use Rattle.mc_goals.specs.code.Outside.{times, more, less, scoped_by, parts_by, disjuncts_by}
use Rattle.mc_goals.proofs.OutsideCounts.{times-append, more_less, at_more}

abbrev occurring_in : List Goal → List ℕ
occurring_in goals = occurring_all (formulas (map plain_goal goals))

within : (w : ℕ) (goals : List Goal) (k : ℕ) (g : Goal) → k < length goals → g ≡ get_or goals k g → times w (occurring (plain_goal g)) ≤ times w (occurring_in goals)
within w [] k g h e = absurd (omega (arith, h))
within w (x ∷ goals) zero g h e =
    let same : times w (occurring (plain_goal g)) ≡ times w (occurring (plain_goal x)) = ap (λ y. times w (occurring (plain_goal y))) e in
    let both : times w (occurring (plain_goal x) ++ occurring_in goals) ≡ times w (occurring (plain_goal x)) + times w (occurring_in goals) = times-append w (occurring (plain_goal x)) (occurring_in goals) in
    omega (arith, same, both)
within w (x ∷ goals) (suc k) g h e =
    let l : k < length goals = omega (arith, h) in
    let rest : times w (occurring (plain_goal g)) ≤ times w (occurring_in goals) = within w goals k g l e in
    let both : times w (occurring (plain_goal x) ++ occurring_in goals) ≡ times w (occurring (plain_goal x)) + times w (occurring_in goals) = times-append w (occurring (plain_goal x)) (occurring_in goals) in
    omega (arith, rest, both)

-- a part that was taken off is put back
pub part_restored : (f : ℕ → ℕ) (goals : List Goal) (k : ℕ) (g : Goal) → k < length goals → g ≡ get_or goals k g →
    more (less (more f (occurring_all (formulas (map plain_goal goals)))) (occurring (plain_goal g))) (occurring (plain_goal g)) ≡ more f (occurring_all (formulas (map plain_goal goals)))
part_restored f goals k g h e = more_less (more f (occurring_in goals)) (occurring (plain_goal g)) (λ w.
    let there : times w (occurring (plain_goal g)) ≤ times w (occurring_in goals) = within w goals k g h e in
    let all : more f (occurring_in goals) w ≡ f w + times w (occurring_in goals) = at_more f (occurring_in goals) w in
    let enough : times w (occurring (plain_goal g)) ≤ more f (occurring_in goals) w = omega (arith, there, all) in
    enough)

-- one more was made of several
module _ (F : List Goal → List Formula) (made_of : Formula → Formula) (step : (g : Goal) (gs : List Goal) → F (g ∷ gs) ≡ made_of (plain_goal g) ∷ F gs) where
  next_made : (goals : List Goal) (i : ℕ) (g m : Goal) (made made' : List Goal) (W : List Formula) → i < length goals → g ≡ get_or goals i g → plain_goal m ≡ made_of (plain_goal g) → made' ≡ made ++ m ∷ [] →
      map plain_goal made ++ F (drop i goals) ≡ W → map plain_goal made' ++ F (drop (i + 1) goals) ≡ W
  next_made goals i g m made made' W h e is_made is whole =
      let rest = drop (i + 1) goals in
      ap (λ l. map plain_goal l ++ F rest) is
      ∙ ap (λ l. l ++ F rest) (map-append plain_goal made (m ∷ []))
      ∙ append_assoc (map plain_goal made) (plain_goal m ∷ []) (F rest)
      ∙ ap (λ x. map plain_goal made ++ x ∷ F rest) is_made
      ∙ ap (λ l. map plain_goal made ++ l) (sym (at_drop_more F goals i g h ∙ ap (λ x. F (x ∷ rest)) (sym e) ∙ step g rest))
      ∙ whole

pub next_part : (f : ℕ → ℕ) (goals : List Goal) (i : ℕ) (g m : Goal) (made made' : List Goal) (W : List Formula) → i < length goals → g ≡ get_or goals i g →
    plain_goal m ≡ scoped_by (less f (occurring (plain_goal g))) (plain_goal g) → made' ≡ made ++ m ∷ [] →
    map plain_goal made ++ parts_by f (formulas (map plain_goal (drop i goals))) ≡ W → map plain_goal made' ++ parts_by f (formulas (map plain_goal (drop (i + 1) goals))) ≡ W
next_part f = next_made (λ gs. parts_by f (formulas (map plain_goal gs))) (λ g. scoped_by (less f (occurring g)) g) (λ g gs. refl)

pub next_disjunct : (f : ℕ → ℕ) (goals : List Goal) (i : ℕ) (g m : Goal) (made made' : List Goal) (W : List Formula) → i < length goals → g ≡ get_or goals i g →
    plain_goal m ≡ scoped_by f (plain_goal g) → made' ≡ made ++ m ∷ [] →
    map plain_goal made ++ disjuncts_by f (formulas (map plain_goal (drop i goals))) ≡ W → map plain_goal made' ++ disjuncts_by f (formulas (map plain_goal (drop (i + 1) goals))) ≡ W
next_disjunct f = next_made (λ gs. disjuncts_by f (formulas (map plain_goal gs))) (λ g. scoped_by f g) (λ g gs. refl)
