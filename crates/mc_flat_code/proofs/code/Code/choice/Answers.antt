use Rattle.std.proofs.Common.{◌-◌, subst, List, [], ◌∷◌, ℕ, length, take, get_or}
use Rattle.mc_flat_code.specs.Running.{EachBelow}
use Rattle.mc_flat_code.proofs.PlaceLists.{below_front, below_back, by_last}
use Rattle.mc_flat_code.proofs.code.Code.choice.Goals as goal

pub choice_before-requires-clause-below : goal.choice_before-requires-clause-below
choice_before-requires-clause-below c =
    let xs : List ℕ = c.args.places.now in
    below_front (length c.args.self.now.instrs.items) (take (length xs - 1) xs) (get_or xs (length xs - 1) 0 ∷ []) (subst (EachBelow (length c.args.self.now.instrs.items)) (by_last xs 0 c.in-len1-up.len_at_least) c.requires.below)

pub choice_before-requires-clause-last : goal.choice_before-requires-clause-last
choice_before-requires-clause-last c =
    let xs : List ℕ = c.args.places.now in
    (below_back (length c.args.self.now.instrs.items) (take (length xs - 1) xs) (get_or xs (length xs - 1) 0 ∷ []) (subst (EachBelow (length c.args.self.now.instrs.items)) (by_last xs 0 c.in-len1-up.len_at_least) c.requires.below)).0
