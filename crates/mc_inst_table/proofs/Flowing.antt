-- Parameters that are given for others, by ways in a graph of their places, and the definitions that
-- reach themselves over others than their own parameters.
use Rattle.std.proofs.Common.{◌≡◌, ◌≢◌, ◌⊎◌, ◌↔◌, inl, inr, ℕ, zero, suc, ◌+◌, ◌<◌, ◌≤◌, Bool, true, List, length, slice_index, refl, sym, ap, ◌∙◌, subst, arith}
use Rattle.mc_model.specs.Lists.{is_in}
use Rattle.mc_components.specs.Reached.{reaches, Way, step, over as onward}
use Rattle.mc_components.specs.Components.{steps, NumbersComponents}
use Rattle.mc_components.proofs.Reaching.{reached_by_ways}
use Rattle.mc_components.proofs.Returning.{begins}
use Rattle.mc_accepted.specs.InstRules.{InstTerm, parameter, InstTerms, inst_at, over, each_over, Bodies, Mentions, Reaches, in_body, in_body_of, parameters_from, ReachesOthers}
use Rattle.mc_inst_table.specs.code.Ends.{how_many, needs, all_need}
use Rattle.mc_inst_table.specs.code.Links.{IsOrReaches, Passes}
use Rattle.mc_inst_table.proofs.Coming.{at_within, how_many_over}
use Rattle.mc_inst_table.proofs.Rounds.{parameter_needs, at_own, how_many_parameters, same_insts, from_parameter, reaches_sized, given_needs, reaches_further, is_or_further, GoesTo, goes_to, goes_by, reaches_on}

module _ (body : Bodies) (width : ℕ → ℕ)
    (sized : (d e : ℕ) (is : InstTerms) → Mentions (body d) e is → how_many is ≡ width e)
    (narrow : (d : ℕ) → needs (body d) ≤ width d)
    (graph : List (List ℕ)) (place : ℕ → ℕ → ℕ)
    (apart : (d j e p : ℕ) → j < width d → p < width e → place d j ≡ place e p → (d ≡ e) × (j ≡ p))
    (there : (d j e p : ℕ) → j < width d → Passes body d j e p → is_in (place e p) (steps graph (place d j)) ≡ true) where
  -- a step of the graph
  pub record Step (x y : ℕ) : Type 0 where
    pub from : ℕ
    pub which : ℕ
    pub to : ℕ
    pub onto : ℕ
    pub first : x ≡ place from which
    pub last : y ≡ place to onto
    pub below : which < width from
    pub passes : Passes body from which to onto

  -- a parameter that is given in the end for another
  pub record Flow (x y : ℕ) : Type 0 where
    pub from : ℕ
    pub which : ℕ
    pub to : ℕ
    pub onto : ℕ
    pub first : x ≡ place from which
    pub last : y ≡ place to onto
    pub below : which < width from
    pub within : onto < width to
    pub by : InstTerms
    pub reached : Reaches body from to by
    pub is_given : inst_at by onto ≡ parameter which

  joined : (x i y : ℕ) → Flow x i → Flow i y → Flow x y
  joined x i y a b =
      let one = apart a.to a.onto b.from b.which a.within b.below (sym a.last ∙ b.first) in
      let count = reaches_sized body width sized narrow b.reached in
      let within = b.within in
      let less : b.onto < how_many b.by = omega (arith, within, count) in
      record {
        from = a.from;
        which = a.which;
        to = b.to;
        onto = b.onto;
        first = a.first;
        last = b.last;
        below = a.below;
        within = b.within;
        by = each_over a.by b.by;
        reached =
            reaches_further body width sized narrow a.by a.reached
            (subst (λ (g : ℕ). Reaches body g b.to b.by) (sym one.0) b.reached);
        is_given =
            sym (at_within a.by b.by b.onto less)
            ∙ ap (over a.by) b.is_given
            ∙ ap (inst_at a.by) (sym one.1)
            ∙ a.is_given;
      }

  flow_of : (x y : ℕ) → Step x y → Flow x y
  flow_of x y s =
      let mentioned = s.passes.mentioned in
      let count = sized s.from s.to s.passes.given mentioned in
      let below = s.passes.within in
      record {
        from = s.from;
        which = s.which;
        to = s.to;
        onto = s.onto;
        first = s.first;
        last = s.last;
        below = s.below;
        within = omega (arith, below, count);
        by = s.passes.given;
        reached = in_body mentioned;
        is_given = s.passes.is_given;
      }

  -- a way from one to another, which a definition that is mentioned ends
  way_by :
      (d g e : ℕ) (ts is : InstTerms) (p j : ℕ)
      → j < width d
      → Reaches body d g ts → Mentions (body g) e is → IsOrReaches body e d
      → ((i : ℕ) → IsOrReaches body g d → i < how_many ts → inst_at ts i ≡ parameter j
      → Way (steps graph) (length graph) (place d j) (place g i))
      → p < how_many is → inst_at (each_over ts is) p ≡ parameter j
      → Way (steps graph) (length graph) (place d j) (place e p)
  way_by d g e ts is p j below r m back ih within at =
      let was = from_parameter ts (inst_at is p) j (at_within ts is p within ∙ at) in
      let i = was.0 in
      let needed = parameter_needs is p i within was.1 in
      let most = given_needs body width sized narrow g e is m in
      let count = reaches_sized body width sized narrow r in
      let fits : i < width g = omega (arith, needed, most) in
      let less : i < how_many ts = omega (arith, fits, count) in
      let to_d : IsOrReaches body g d =
      is_or_further body width sized narrow g e d (inr (is, in_body m)) back
      in
      let from_e : IsOrReaches body e g =
      is_or_further body width sized narrow e d g back (inr (ts, r))
      in
      let last : Way (steps graph) (length graph) (place g i) (place e p) =
      step (there g i e p fits
      (record { given = is; mentioned = m; back = from_e; within = within; is_given = was.1 }))
      in
      onward (begins graph (length graph) (place g i) (place e p) last) (ih i to_d less was.2) last

  flows_way :
      (d e : ℕ) (ts : InstTerms) (p j : ℕ)
      → j < width d
      → Reaches body d e ts → IsOrReaches body e d → p < how_many ts → inst_at ts p ≡ parameter j
      → Way (steps graph) (length graph) (place d j) (place e p)
  flows_way d e ts p j below (in_body m) back within at =
      step (there d j e p below
      (record { given = ts; mentioned = m; back = back; within = within; is_given = at }))
  flows_way d e ts p j below (in_body_of {e = g} {ts = us} is r m) back within at =
      let count : p < how_many is = subst (λ (n : ℕ). p < n) (how_many_over us is) within in
      way_by d g e us is p j below r m back
      (λ i to_d less at_i. flows_way d g us i j below r to_d less at_i) count at

  module _ (means : (x y : ℕ) → is_in y (steps graph x) ≡ true → Step x y) where
    way_flows : (b x y : ℕ) → Way (steps graph) b x y → Flow x y
    way_flows b x y (step e) = flow_of x y (means x y e)
    way_flows b x y (onward {i = i} less v w) = joined x i y (way_flows b x i v) (way_flows b i y w)

    -- what is reached by a way between two places
    flow_between :
        (b d j e p : ℕ)
        → j < width d → p < width e → Way (steps graph) b (place d j) (place e p)
        → (ts : InstTerms) × Reaches body d e ts × (inst_at ts p ≡ parameter j)
    flow_between b d j e p below within way =
        let f = way_flows b (place d j) (place e p) way in
        let first = apart d j f.from f.which below f.below f.first in
        let last = apart e p f.to f.onto within f.within f.last in (
          f.by,
          subst (λ (g : ℕ). Reaches body g e f.by) (sym first.0)
              (subst (λ (g : ℕ). Reaches body f.from g f.by) (sym last.0) f.reached),
          ap (inst_at f.by) last.1 ∙ f.is_given ∙ ap parameter (sym first.1),
        )

    module _ (numbers : List ℕ) (alike : NumbersComponents graph numbers)
        (inside : (d j : ℕ) → j < width d → place d j < length graph) where
      abbrev number : (d j : ℕ) → ℕ
      number d j = slice_index numbers (place d j)

      ways : (x y : ℕ) → reaches (steps graph) (length graph) x y ≡ true → Way (steps graph) (length graph) x y
      ways x y = (reached_by_ways (steps graph) (length graph) x y).0

      -- Two parameters of a definition that are given for each other.
      pub shared_others :
          (d p q : ℕ)
          → p < width d → q < width d → p ≢ q → number d p ≡ number d q → ReachesOthers body (width d) d
      shared_others d p q below_p below_q other same =
          elim ((alike (place d p) (place d q) (inside d p below_p) (inside d q below_q)).0 same) [
            | inl one ↦ absurd (other (apart d p d q below_p below_q one).1)
            | inr each ↦
                let flow = flow_between (length graph) d p d q below_p below_q (ways (place d p) (place d q) each.0) in (
                  flow.0,
                  flow.1,
                  λ own.
                      let clash : parameter p ≡ parameter q =
                      sym flow.2 ∙ ap (λ us. inst_at us q) own ∙ at_own (width d) q below_q
                      in
                      other cc,
                )
          ]

      -- A parameter is given for another of its number in the end, or is that one.
      goes_on :
          (e p d q : ℕ)
          → p < width e → q < width d → number e p ≡ number d q
          → (us : InstTerms) × GoesTo body width sized narrow e d us × (inst_at us q ≡ parameter p)
      goes_on e p d q below_p below_q same =
          elim ((alike (place e p) (place d q) (inside e p below_p) (inside d q below_q)).0 same) [
            | inl one ↦
                let both = apart e p d q below_p below_q one in
                let less : q < width e = subst (λ (g : ℕ). q < width g) (sym both.0) below_q in (
                  parameters_from 0 (width e),
                  inl (both.0, refl),
                  at_own (width e) q less ∙ ap parameter (sym both.1),
                )
            | inr each ↦
                let flow = flow_between (length graph) e p d q below_p below_q (ways (place e p) (place d q) each.0) in
                (flow.0, inr flow.1, flow.2)
          ]

      goes_back : (e p d q : ℕ) → p < width e → q < width d → number e p ≡ number d q → IsOrReaches body e d
      goes_back e p d q below_p below_q same =
          elim (goes_on e p d q below_p below_q same).1 [
            | inl one ↦ inl one.0
            | inr r ↦ inr ((goes_on e p d q below_p below_q same).0, r)
          ]

      -- something else is given for a parameter than one of its number
      pub record Spoils (f e p : ℕ) : Type 0 where
        pub given : InstTerms
        pub mentioned : Mentions (body f) e given
        pub back : IsOrReaches body e f
        pub within : p < how_many given
        pub other : (j : ℕ) → inst_at given p ≡ parameter j → number f j ≢ number e p

      -- a parameter that is given for one of a number, which is given for it in the end, has that number
      same_number :
          (d q f j e p : ℕ) (xs is : InstTerms)
          → q < width d → j < width f → p < width e
          → GoesTo body width sized narrow d f xs → inst_at xs j ≡ parameter q
          → Passes body f j e p → IsOrReaches body f d → number e p ≡ number d q
          → number f j ≡ number e p
      same_number d q f j e p xs is below_q below_j below_p (inl one) at pass back same =
          let less : j < width d = subst (λ (g : ℕ). j < width g) (sym one.0) below_j in
          let own : parameter j ≡ parameter q = sym (at_own (width d) j less) ∙ ap (λ us. inst_at us j) (sym one.1) ∙ at in
          let which : j ≡ q = cc in
          ap (λ (g : ℕ). slice_index numbers (place g j)) (sym one.0)
          ∙ ap (number d) which
          ∙ sym same
      same_number d q f j e p xs is below_q below_j below_p (inr r) at pass back same =
          let count = reaches_sized body width sized narrow r in
          let within : j < how_many xs = omega (arith, below_j, count) in
          let onto : Way (steps graph) (length graph) (place d q) (place f j) =
          flows_way d f xs j q below_q r back within at
          in
          let by : Way (steps graph) (length graph) (place f j) (place e p) =
          step (there f j e p below_j pass)
          in
          let returning : Way (steps graph) (length graph) (place f j) (place d q) =
          elim ((alike (place e p) (place d q) (inside e p below_p) (inside d q below_q)).0 same) [
            | inl one ↦ subst (λ (y : ℕ). Way (steps graph) (length graph) (place f j) y) one by
            | inr each ↦ onward (inside e p below_p) by (ways (place e p) (place d q) each.0)
          ]
          in
          (alike (place f j) (place d q) (inside f j below_j) (inside d q below_q)).1
          (inr (
            (reached_by_ways (steps graph) (length graph) (place f j) (place d q)).1 returning,
            (reached_by_ways (steps graph) (length graph) (place d q) (place f j)).1 onto,
          ))
          ∙ sym same

      pub spoiled_others :
          (d q f e p : ℕ)
          → q < width d → Spoils f e p → number e p ≡ number d q → ReachesOthers body (width d) d
      spoiled_others d q f e p below_q s same =
          let count = sized f e s.given s.mentioned in
          let within = s.within in
          let below_p : p < width e = omega (arith, within, count) in
          let onward_to = goes_on e p d q below_p below_q same in
          let to_e : IsOrReaches body d e = goes_back d q e p below_q below_p (sym same) in
          let to_d : IsOrReaches body e d = goes_back e p d q below_p below_q same in
          let to_f : IsOrReaches body d f = is_or_further body width sized narrow d e f to_e s.back in
          let from_f : IsOrReaches body f d =
          is_or_further body width sized narrow f e d (inr (s.given, in_body s.mentioned)) to_d
          in
          let xs = goes_to body width sized narrow d f to_f in
          let there_by = goes_by body width sized narrow d f e xs.0 s.given xs.1 s.mentioned in
          let round = reaches_on body width sized narrow d e d (each_over xs.0 s.given) onward_to.0 there_by onward_to.1 in
          let all = reaches_sized body width sized narrow round in (
            each_over (each_over xs.0 s.given) onward_to.0,
            round,
            λ own.
                let lasts = how_many_over (each_over xs.0 s.given) onward_to.0 in
                let less : q < how_many onward_to.0 = omega (arith, all, lasts, below_q) in
                let value : over xs.0 (inst_at s.given p) ≡ parameter q =
                at_within xs.0 s.given p s.within
                ∙ ap (over (each_over xs.0 s.given)) (sym onward_to.2)
                ∙ at_within (each_over xs.0 s.given) onward_to.0 q less
                ∙ ap (λ us. inst_at us q) own
                ∙ at_own (width d) q below_q
                in
                let was = from_parameter xs.0 (inst_at s.given p) q value in
                let needed = parameter_needs s.given p was.0 s.within was.1 in
                let most = given_needs body width sized narrow f e s.given s.mentioned in
                let below_j : was.0 < width f = omega (arith, needed, most) in
                s.other was.0 was.1
                (same_number d q f was.0 e p xs.0 s.given below_q below_j below_p xs.1 was.2
                (record { given = s.given; mentioned = s.mentioned; back = s.back; within = s.within; is_given = was.1 })
                from_f same),
          )

      -- a parameter of the same number is given
      abbrev pub GivesAlike : (f e p : ℕ) → InstTerms → Type 0
      GivesAlike f e p is =
          (j : ℕ) × (j < width f) × (inst_at is p ≡ parameter j) × (number f j ≡ number e p)

      module _ (is_good : ℕ → Type 0)
          (good : (f e p : ℕ) (is : InstTerms)
          → Mentions (body f) e is → IsOrReaches body e f → p < how_many is → is_good (number e p)
          → GivesAlike f e p is) where
        by_alike :
            (d g e : ℕ) (ts is : InstTerms) (p : ℕ)
            → Reaches body d g ts → Mentions (body g) e is → IsOrReaches body e d
            → ((i : ℕ) → IsOrReaches body g d → i < how_many ts → is_good (number g i) → GivesAlike d g i ts)
            → p < how_many is → is_good (number e p) → GivesAlike d e p (each_over ts is)
        by_alike d g e ts is p r m back ih within well =
            let to_d : IsOrReaches body g d =
            is_or_further body width sized narrow g e d (inr (is, in_body m)) back
            in
            let from_e : IsOrReaches body e g =
            is_or_further body width sized narrow e d g back (inr (ts, r))
            in
            let last = good g e p is m from_e within well in
            let count = reaches_sized body width sized narrow r in
            let fits = last.1 in
            let less : last.0 < how_many ts = omega (arith, fits, count) in
            let before = ih last.0 to_d less (subst is_good (sym last.3) well) in (
              before.0,
              before.1,
              sym (at_within ts is p within) ∙ ap (over ts) last.2 ∙ before.2,
              before.3 ∙ last.3,
            )

        gives_alike :
            (d e : ℕ) (ts : InstTerms) (p : ℕ)
            → Reaches body d e ts → IsOrReaches body e d → p < how_many ts → is_good (number e p)
            → GivesAlike d e p ts
        gives_alike d e ts p (in_body m) back within well = good d e p ts m back within well
        gives_alike d e ts p (in_body_of {e = g} {ts = us} is r m) back within well =
            let count : p < how_many is = subst (λ (n : ℕ). p < n) (how_many_over us is) within in
            by_alike d g e us is p r m back (λ i to_d less fine. gives_alike d g us i r to_d less fine) count well

        pub no_others :
            (d : ℕ)
            → ((p : ℕ) → p < width d → is_good (number d p))
            → ((p q : ℕ) → p < width d → q < width d → number d p ≡ number d q → p ≡ q)
            → ReachesOthers body (width d) d → ⊥
        no_others d well one others =
            let count = reaches_sized body width sized narrow others.1 in
            let own = how_many_parameters 0 (width d) in
            others.2
            (same_insts others.0 (parameters_from 0 (width d)) (count ∙ sym own)
            (λ p below.
            let less : p < width d = omega (arith, below, own) in
            let within : p < how_many others.0 = omega (arith, less, count) in
            let alike_one = gives_alike d d others.0 p others.1 (inl refl) within (well p less) in
            let which : alike_one.0 ≡ p = one alike_one.0 p alike_one.1 less alike_one.3 in
            alike_one.2 ∙ ap parameter which ∙ sym (at_own (width d) p less)))
