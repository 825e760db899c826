use Rattle.std.proofs.Common.{◌≡◌, ◌≤◌, ◌-◌, refl, ap, ◌∙◌, subst, inl, inr, List, [], ◌∷◌, ◌++◌, ℕ, length, take, get_or, append_assoc}
use Rattle.mc_flat_code.specs.Running.{EachBelow}
use Rattle.mc_flat_code.specs.code.Mentioning.{Nothing}
use Rattle.mc_flat_code.proofs.Mentioning.{brings_same, brings_then}
use Rattle.mc_flat_code.proofs.Growth.{grows_same, grows_then, chain_grows, continues_length}
use Rattle.mc_flat_code.proofs.PlaceLists.{below_front, below_back, below_more, by_last}
use Rattle.mc_flat_code.proofs.code.Code.choice_before.Goals as goal

pub loop-rest-init : goal.loop-rest-init
loop-rest-init c =
    record {
      grows = grows_same c.args.self.now;
      is_code = c.requires.is_code;
      within = c.requires.last;
      below = c.requires.below;
      chain = (c.args.last ∷ [], (refl, inl (refl, refl)));
      brings = brings_same c.args.self.now Nothing;
    }

pub add-requires-clause-lower : goal.add-requires-clause-lower
add-requires-clause-lower c =
    let xs : List ℕ = c.loop-rest.rest.now in
    let n : ℕ = length c.loop-rest.self.instrs.items in
    let parts : EachBelow n (take (length xs - 1) xs ++ get_or xs (length xs - 1) 0 ∷ []) = subst (EachBelow n) (by_last xs 0 c.in-len1-up.len_at_least) c.loop-rest.invariant.below in
    ((below_back n (take (length xs - 1) xs) (get_or xs (length xs - 1) 0 ∷ []) parts).0, c.loop-rest.invariant.within)

pub loop-rest-preserved : goal.loop-rest-preserved
loop-rest-preserved c =
    let xs : List ℕ = c.loop-rest.rest.now in
    let front : List ℕ = take (length xs - 1) xs in
    let last : ℕ = get_or xs (length xs - 1) 0 in
    let n : ℕ = length c.loop-rest.self.instrs.items in
    let split : xs ≡ front ++ last ∷ [] = by_last xs 0 c.in-len1-up.len_at_least in
    let more : n ≤ length c.add.new.self.instrs.items = continues_length c.loop-rest.self.instrs.items c.add.new.self.instrs.items c.in_ok-choice.ensures.laid.grows.instrs in
    let old = c.loop-rest.invariant.chain in
    record {
      grows = grows_then c.args.self.now c.loop-rest.self c.add.new.self c.loop-rest.invariant.grows c.in_ok-choice.ensures.laid.grows;
      is_code = c.in_ok-choice.ensures.laid.is_code;
      within = c.in_ok-choice.ensures.laid.within;
      below = below_more n (length c.add.new.self.instrs.items) more front (below_front n front (last ∷ []) (subst (EachBelow n) split c.loop-rest.invariant.below));
      chain = (
        last ∷ old.0,
        (
          old.1.0 ∙ ap (λ l. l ++ old.0) split ∙ append_assoc front (last ∷ []) old.0,
          inr (c.loop-rest.choice, (c.in_ok-choice.ensures.at, chain_grows c.loop-rest.self c.add.new.self c.in_ok-choice.ensures.laid.grows old.0 c.loop-rest.choice old.1.1)),
        ),
      );
      brings = brings_then c.args.self.now c.loop-rest.self c.add.new.self Nothing Nothing Nothing c.loop-rest.invariant.brings c.in_ok-choice.ensures.brings (λ m x. x) (λ m x. x);
    }
