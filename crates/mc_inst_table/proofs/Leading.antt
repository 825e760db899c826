-- What leads to itself, by steps to one number at most.
use Rattle.std.proofs.Common.{◌≡◌, ◌↔◌, ℕ, zero, suc, ◌<◌, ◌≤◌, Bool, true, false, List, [], ◌∷◌, map, length, refl, sym, ap, ◌∙◌, subst, inl, inr, arith}
use Rattle.std.specs.Prelude.{Option, Some, None, slice_get}
use Rattle.mc_model.specs.Lists.{is_in}
use Rattle.mc_accepted.specs.InstRules.{LeadsTo, at_once, by_another, ModeIsUnfounded}
use Rattle.mc_components.specs.Reached.{reaches, Way, step, over}
use Rattle.mc_components.specs.Components.{steps, NumbersComponents}
use Rattle.mc_components.proofs.Reaching.{reached_by_ways}
use Rattle.mc_components.proofs.Certified.{in_head, in_cases}
use Rattle.mc_components.proofs.Returning.{begins}
use Rattle.mc_names.specs.declared.names.Named.{Named}
use Rattle.mc_names.specs.declared.names.Names.{Names}
use Rattle.mc_names.specs.Linked.{Linked, plain_named, plain_names}
use Rattle.mc_inst_table.specs.declared.mode_rings.ModeRings.{ModeRings}
use Rattle.mc_inst_table.specs.Rules.{mode_named_of, mode_named}
use Rattle.mc_inst_table.specs.code.Leading.{one_or_none, AreModeRings}

in_one : (o : Option ℕ) (j : ℕ) → is_in j (one_or_none o) ≡ true → o ≡ Some j
in_one None j h = cc
in_one (Some k) j h =
    elim (in_cases j k [] h) [ inl same ↦ ap Some (sym same) | inr none ↦ cc ]

leads_further :
    (next : ℕ → Option ℕ) (k i j : ℕ) → LeadsTo next k i → LeadsTo next i j → LeadsTo next k j
leads_further next k i j (at_once e) rest = by_another e rest
leads_further next k i j (by_another {i = h} e more) rest =
    by_another e (leads_further next h i j more rest)

module _ (graph : List (List ℕ)) (next : ℕ → Option ℕ)
    (are : (k : ℕ) → steps graph k ≡ one_or_none (next k)) where
  way_leads : (b k j : ℕ) → Way (steps graph) b k j → LeadsTo next k j
  way_leads b k j (step e) = at_once (in_one (next k) j (ap (is_in j) (sym (are k)) ∙ e))
  way_leads b k j (over {i = i} less v w) =
      leads_further next k i j (way_leads b k i v) (way_leads b i j w)

  steps_to : (k j : ℕ) → next k ≡ Some j → is_in j (steps graph k) ≡ true
  steps_to k j e = ap (is_in j) (are k ∙ ap one_or_none e) ∙ in_head j j [] refl

  leads_way : (k j : ℕ) → LeadsTo next k j → Way (steps graph) (length graph) k j
  leads_way k j (at_once e) = step (steps_to k j e)
  leads_way k j (by_another {i = i} e more) =
      let way = leads_way i j more in
      over (begins graph (length graph) i j way) (step (steps_to k i e)) way

  pub round_leads :
      (k : ℕ) (b : Bool)
      → b ≡ reaches (steps graph) (length graph) k k → (b ≡ true) ↔ LeadsTo next k k
  round_leads k b is = (
    λ h. way_leads (length graph) k k ((reached_by_ways (steps graph) (length graph) k k).0 (sym is ∙ h)),
    λ m. is ∙ (reached_by_ways (steps graph) (length graph) k k).1 (leads_way k k m),
  )

  pub past_leads : (k : ℕ) → length graph ≤ k → LeadsTo next k k → ⊥
  past_leads k past m =
      let below = begins graph (length graph) k k (leads_way k k m) in omega arith

pub rounds_within :
    (l : Linked) (r : ModeRings) (k : ℕ) (b : Bool)
    → (length r.components ≡ length r.graph → NumbersComponents r.graph r.components
    → b ≡ reaches (steps r.graph) (length r.graph) k k)
    → AreModeRings l r → (b ≡ true) ↔ ModeIsUnfounded (mode_named l) k
rounds_within l r k b is are =
    round_leads r.graph (mode_named l) are.leads k b (is are.numbered are.alike)

pub rounds_past :
    (l : Linked) (r : ModeRings) (k : ℕ)
    → length r.graph ≤ k → AreModeRings l r → (false ≡ true) ↔ ModeIsUnfounded (mode_named l) k
rounds_past l r k past are =
    (λ h. cc, λ m. absurd (past_leads r.graph (mode_named l) are.leads k past m))

rows_are :
    (l : Linked) (ns : List Named) (k : ℕ)
    → steps (map (λ n. one_or_none (mode_named_of l (Some (plain_named n)))) ns) k
    ≡ one_or_none (mode_named_of l (slice_get (map plain_named ns) k))
rows_are l [] k = refl
rows_are l (n ∷ ns) zero = refl
rows_are l (n ∷ ns) (suc k) = rows_are l ns k

pub are_rings :
    (n : Names) (rows : List (List ℕ)) (r : ModeRings)
    → rows ≡ map (λ d. one_or_none (mode_named_of (plain_names n) (Some (plain_named d)))) n.modes
    → r.graph ≡ rows → length r.components ≡ length rows → NumbersComponents rows r.components
    → AreModeRings (plain_names n) r
are_rings n rows r is is_graph count alike =
    record {
      leads = λ k. ap (λ g. steps g k) (is_graph ∙ is) ∙ rows_are (plain_names n) n.modes k;
      numbered = count ∙ ap length (sym is_graph);
      alike = subst (λ g. NumbersComponents g r.components) (sym is_graph) alike;
    }
