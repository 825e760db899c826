use Rattle.std.proofs.Common.{rules}
use Rattle.std.proofs.lemmas.List.Sorted.{answers_always}
use Rattle.mc_source.proofs.Sorting.{place_of, sorted_by_place}
use Rattle.mc_source.proofs.places.sort_by_place.Goals as goal

pub returns : goal.returns
returns c =
    sorted_by_place c.args.faults.now.items c.sort_by_key.new.self.items
    (c.in_ok-sort_by_key.ensures.sorted place_of (answers_always _ _ _ (λ f a r g h. search rules)))
    (c.in_ok-sort_by_key.ensures.stable place_of (answers_always _ _ _ (λ f a r g h. search rules)))
