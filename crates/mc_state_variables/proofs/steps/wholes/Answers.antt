use Rattle.std.proofs.Common.{arith, ap, ap₂, sym, ◌∙◌, ◌++◌, ◌∷◌, [], ◌≡◌, ◌-◌, map, drop, reverse, length}
use Rattle.std.proofs.lemmas.Grind.{reverse_onto}
use Rattle.mc_base.specs.NameSets.{put_all}
use Rattle.mc_term_data.specs.Plain.{plain_term, term_list}
use Rattle.mc_state_variables.specs.Updates.{updated}
use Rattle.mc_state_variables.specs.code.Steps.{seen_in, wholes_of}
use Rattle.mc_state_variables.proofs.Closing.{item_before}
use Rattle.mc_state_variables.proofs.steps.wholes.Goals as goal

pub back-preserved : goal.back-preserved
back-preserved c =
    let k = c.back.k in
    let goals = c.args.goals.now in
    let goal = c.index-goals-k.result in
    let behind = term_list (map plain_term (drop k goals)) in
    let more : drop (k - 1) goals ≡ goal ∷ drop k goals = item_before goals k goal (omega arith) c.back.invariant.within c.index-goals-k.is in
    let put = c.in_ok-push_whole.ensures {u = tt} in
    let seen : c.push_whole.new.seen ≡ put_all (seen_in behind) (updated (plain_term goal)) = put.seen ∙ ap (λ ns. put_all ns (updated (plain_term goal))) c.back.invariant.seen in record {
      within = omega (arith, c.back.invariant.within);
      seen = seen ∙ ap (λ ts. seen_in (term_list (map plain_term ts))) (sym more);
      order = put.order c.back.invariant.order;
      wholes =
          put.wholes c.back.invariant.order
          ∙ ap₂ (λ ws s. ws ++ s ∷ []) c.back.invariant.wholes (ap (put_all []) seen)
          ∙ sym (reverse_onto (wholes_of behind) (put_all [] (put_all (seen_in behind) (updated (plain_term goal)))) [])
          ∙ ap (λ ts. reverse (wholes_of (term_list (map plain_term ts)))) (sym more);
    }
