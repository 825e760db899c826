-- Typing says one thing at most of a clause.
use Rattle.std.proofs.Common.{◌≡◌, ℕ, List, [], ◌∷◌, ◌++◌, Some, inl, inr, refl, sym, ap₂, subst, ◌∙◌}
use Rattle.std.specs.Prelude.{Option}
use Rattle.mc_source.specs.declared.name.Candidate.{Candidate}
use Rattle.mc_source.specs.declared.rule.Broken.{Broken}
use Rattle.mc_source.specs.Rules.{Fault, broken_at}
use Rattle.mc_source.specs.declared.rule.Rule.TheVariants as R
use Rattle.mc_program.specs.Programs.{TypeTerm, Source}
use Rattle.mc_accepted.specs.ProperTypes.{Parameters}
use Rattle.mc_accepted.specs.Resolving.{Unresolved_clause, WellTyped, FirstTwo, Before, Earlier, names_of, steps_of}
use Rattle.mc_names.specs.Linked.{Linked}
use Rattle.mc_type_phase.specs.Typing.{TypingSays, too_many, has_none, has_two, has_one, difference}
use Rattle.mc_type_phase.specs.Items.{Item}
use Rattle.mc_type_phase.specs.Judging.{AreFaults}

-- THE ORDER OF PICKS

not_before_itself : (cs : List Candidate) (a : Candidate) → Before cs a a → ⊥
not_before_itself [] a b = absurd b
not_before_itself (c ∷ cs) a b =
    elim b.1 [
      | inl here ↦ b.0 here
      | inr later ↦ not_before_itself cs a later
    ]

before_both :
    (cs : List Candidate) (a b d : Candidate) → Before cs a b → Before cs b d → Before cs a d
before_both [] a b d x y = absurd x
before_both (c ∷ cs) a b d x y =
    elim x.1 [
      | inl here ↦ (y.0, inl here)
      | inr later ↦
          elim y.1 [
            | inl clash ↦ absurd (x.0 clash)
            | inr second ↦ (y.0, inr (before_both cs a b d later second))
          ]
    ]

not_earlier_than_itself :
    (names : List (List Candidate)) (picks : List Candidate) → Earlier names picks picks → ⊥
not_earlier_than_itself [] picks e = absurd e
not_earlier_than_itself (cs ∷ names) [] e = absurd e
not_earlier_than_itself (cs ∷ names) (a ∷ picks) e =
    elim e [
      | inl before ↦ not_before_itself cs a before
      | inr later ↦ not_earlier_than_itself names picks later.1
    ]

earlier_both :
    (names : List (List Candidate)) (first second third : List Candidate)
    → Earlier names first second → Earlier names second third → Earlier names first third
earlier_both [] first second third x y = absurd x
earlier_both (cs ∷ names) [] second third x y = absurd x
earlier_both (cs ∷ names) (a ∷ first) [] third x y = absurd x
earlier_both (cs ∷ names) (a ∷ first) (b ∷ second) [] x y = absurd y
earlier_both (cs ∷ names) (a ∷ first) (b ∷ second) (d ∷ third) x y =
    let Q : Candidate → Type 0 = λ c. Before cs c d in
    let R : Candidate → Type 0 = λ c. Before cs a c in
    elim x [
      | inl before ↦
          elim y [
            | inl second ↦ inl (before_both cs a b d before second)
            | inr same ↦ inl (subst R same.0 before)
          ]
      | inr same ↦
          elim y [
            | inl before ↦ inl (subst Q (sym same.0) before)
            | inr later ↦
                inr (same.0 ∙ later.0, earlier_both names first second third same.1 later.1)
          ]
    ]

-- THE FIRST TWO

module _ (P : Source) (D : Parameters) (c : Unresolved_clause) where
  abbrev names : List (List Candidate)
  names = names_of (steps_of c)

  abbrev Is : (v w : List Candidate) → Type 0
  Is v w = FirstTwo P D c v w

  -- the first resolution is none but the other first
  one_first : (v w x y : List Candidate) → Is v w → Is x y → v ≡ x
  one_first v w x y p q =
      let Q : List Candidate → Type 0 = λ u. Earlier names x u in
      let R : List Candidate → Type 0 = λ u. Earlier names u y in
      let S : List Candidate → Type 0 = λ u. Earlier names v u in
      elim (q.others v p.one) [
        | inl same ↦ same
        | inr rest ↦
            let before : Earlier names x v =
            elim rest [
              | inl same ↦ subst Q (sym same) q.in_order
              | inr later ↦ earlier_both names x y v q.in_order later
            ]
            in
            elim (p.others x q.one) [
              | inl same ↦ sym same
              | inr others ↦
                  let behind : Earlier names v x =
                  elim others [
                    | inl same ↦ subst S (sym same) p.in_order
                    | inr later ↦ earlier_both names v w x p.in_order later
                  ]
                  in
                  absurd (not_earlier_than_itself names v (earlier_both names v x v behind before))
            ]
      ]

  one_second : (v w x y : List Candidate) → v ≡ x → Is v w → Is x y → w ≡ y
  one_second v w x y first p q =
      let Q : List Candidate → Type 0 = λ u. Earlier names u w in
      let R : List Candidate → Type 0 = λ u. Earlier names u y in
      elim (q.others w p.two) [
        | inl same ↦
            absurd (not_earlier_than_itself names w (subst Q (first ∙ sym same) p.in_order))
        | inr rest ↦
            elim rest [
              | inl same ↦ same
              | inr behind ↦
                  elim (p.others y q.two) [
                    | inl same ↦
                        absurd
                        (not_earlier_than_itself names y
                        (subst R (sym first ∙ sym same) q.in_order))
                    | inr others ↦
                        elim others [
                          | inl same ↦ sym same
                          | inr before ↦
                              absurd
                              (not_earlier_than_itself names w
                              (earlier_both names w y w before behind))
                        ]
                  ]
            ]
      ]

  -- a clause with one resolution has no first two
  not_two : (v w : List Candidate) → Is v w → WellTyped P D c → ⊥
  not_two v w p typed =
      let Q : List Candidate → Type 0 = λ u. Earlier names u w in
      let same : v ≡ w = typed.alone v p.one ∙ sym (typed.alone w p.two) in
      not_earlier_than_itself names w (subst Q same p.in_order)

one_saying :
    (l : Linked) (P : Source) (D : Parameters) (c : Unresolved_clause) (f g : Option Fault)
    → TypingSays l P D c f → TypingSays l P D c g → f ≡ g
one_saying l P D c f g (too_many t) (too_many u) = refl
one_saying l P D c f g (too_many t) (has_none few none) = absurd (few t)
one_saying l P D c f g (too_many t) (has_two few v w p) = absurd (few t)
one_saying l P D c f g (too_many t) (has_one few typed) = absurd (few t)
one_saying l P D c f g (has_none few none) (too_many t) = absurd (few t)
one_saying l P D c f g (has_none few none) (has_none fewer never) = refl
one_saying l P D c f g (has_none few none) (has_two fewer v w p) = absurd (none v p.one)
one_saying l P D c f g (has_none few none) (has_one fewer typed) =
    absurd (none typed.picks typed.resolves)
one_saying l P D c f g (has_two few v w p) (too_many t) = absurd (few t)
one_saying l P D c f g (has_two few v w p) (has_none fewer never) = absurd (never v p.one)
one_saying l P D c f g (has_two few v w p) (has_two fewer x y q) =
    let first = one_first P D c v w x y p q in
    ap₂ (λ a b. Some (R.T2, difference l P a b)) first (one_second P D c v w x y first p q)
one_saying l P D c f g (has_two few v w p) (has_one fewer typed) =
    absurd (not_two P D c v w p typed)
one_saying l P D c f g (has_one few typed) (too_many t) = absurd (few t)
one_saying l P D c f g (has_one few typed) (has_none fewer never) =
    absurd (never typed.picks typed.resolves)
one_saying l P D c f g (has_one few typed) (has_two fewer x y q) =
    absurd (not_two P D c x y q typed)
one_saying l P D c f g (has_one few typed) (has_one fewer same) = refl

module _ (l : Linked) (seen : (own : ℕ) → ℕ → Option TypeTerm) where
  pub one_list :
      (is : List Item) (bs cs : List Broken)
      → AreFaults l seen is bs → AreFaults l seen is cs → bs ≡ cs
  one_list [] bs cs f g = f ∙ sym g
  one_list (i ∷ is) bs cs f g =
      f.4
      ∙ ap₂ (λ fault rest. broken_at i.at fault ++ rest)
      (one_saying l _ _ _ f.0 g.0 f.2 g.2)
      (one_list is f.1 g.1 f.3 g.3)
      ∙ sym g.4
