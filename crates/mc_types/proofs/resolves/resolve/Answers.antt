use Rattle.std.proofs.Common.{◌≡◌, ◌<◌, ◌+◌, ℕ, List, [], length, map, get_or, set, eqb, sym, ◌∙◌, ap, subst, arith, length-set}
use Rattle.std.proofs.lemmas.List.{get_or_read, length-replicate, length-map}
use Rattle.mc_types.specs.declared.state.Level.{Level}
use Rattle.mc_types.specs.code.Standing.{choices, Arrived, Represents}
use Rattle.mc_types.specs.code.Found.{noted, TypesKept}
use Rattle.mc_types.proofs.Choosing.{typed_within}
use Rattle.mc_types.proofs.Standings.{choices_length, standing_represents}
use Rattle.mc_types.proofs.Tally.{meets_less, to_meet}
use Rattle.mc_types.proofs.TypeSearchGenerals.{types_first, types_step}
use Rattle.mc_types.proofs.Progress.{TypesFit, progress_first, progress_step, progress_exceeds, progress_ends}
use Rattle.mc_types.proofs.resolves.resolve.Goals as goal
use Rattle.mc_types.proofs.resolves.resolve.Goals.{After-len-k, After-new-none}

root_here : (c : After-new-none) → Represents c.args.signatures.now c.args.steps.now c.args.places [] c.in_ok-search.search.graph.cells.items
root_here c =
    let P : List Level → Type 0 = λ p. Represents c.args.signatures.now c.args.steps.now c.args.places (choices p) c.in_ok-search.search.graph.cells.items in
    subst P c.in_ok-search.ensures.at_root.0 (standing_represents _ _ _ _ _ _ (c.in_ok-search.ensures.stands c.args.signatures.now c.args.steps.now).standing)

pub keep_types-requires-clause-in_order : goal.keep_types-requires-clause-in_order
keep_types-requires-clause-in_order c = (root_here (goal.at.keep_types-requires-clause-in_order c).After-new-none).in_order

pub keep_types-requires-clause-room : goal.keep_types-requires-clause-room
keep_types-requires-clause-room c = omega (arith, (root_here (goal.at.keep_types-requires-clause-room c).After-new-none).room, c.requires.room)

pub moves-init : goal.moves-init
moves-init c =
    let all_steps = eqb (length c.args.steps.now) 0 in
    let noted_is = c.in_ok-note.ensures
    ∙ ap (λ p. noted all_steps (map (λ v. v.items) c.new-found.result.items) (choices p)) (c.deref.ensures.value ∙ c.in_ok-search.ensures.at_root.0)
    ∙ ap (λ vs. noted all_steps (map (λ v. v.items) vs) []) c.new-found.ensures.items in
    let P : List (List ℕ) → Type 0 = λ f. TypesFit c.args.signatures.now c.args.steps.now c.args.vars c.in_ok-types.types.items f in
    record {
      stands = c.in_ok-search.ensures.stands c.args.signatures.now c.args.steps.now;
      long = omega (arith, ap length c.in_ok-counts.ensures, length-replicate {A = ℕ} (length c.args.steps.now) 0);
      progress = progress_first c.args.signatures.now c.args.steps.now c.args.limit _ _ _ _ c.requires.some (ap choices c.in_ok-search.ensures.at_root.0) c.in_ok-search.ensures.at_root.1 c.in_ok-counts.ensures noted_is;
      fit = subst P (sym noted_is) (types_first c.args.signatures.now c.args.steps.now c.args.places c.args.vars c.requires.room all_steps _ _ _ (root_here (goal.at.moves-init c).After-new-none) c.in_ok-types.ensures);
    }

-- where the search has come to
arrived : (c : After-len-k) → Arrived c.args.signatures.now c.args.steps.now c.args.places c.moves.search c.advance.new.self
arrived c = rw c.if-branch.true at c.in_ok-advance.ensures.moved

length_of_new : (c : After-len-k) → c.len-k.result ≡ length (choices c.advance.new.self.path.items)
length_of_new c = omega (arith, c.len-k.ensures, choices_length c.advance.new.self.path.items, c.advance.new.self.path.ok)

level_within : (c : After-len-k) → c.len-k.result < length c.moves.counts.items
level_within c =
    let a = arrived c in
    omega (arith, length_of_new c, typed_within a.live.0 c.args.signatures.now c.args.steps.now (choices c.advance.new.self.path.items) a.live.1, c.moves.invariant.long)

pub index-requires : goal.index-requires
index-requires c = omega (arith, level_within (goal.at.index-requires c).After-len-k, c.moves.counts.ok)

pub overflow_add-count : goal.overflow_add-count
overflow_add-count c = omega (arith, get_or_read c.moves.counts.items c.len-k.result c.index.result.now (level_within (goal.at.overflow_add-count c).After-len-k) c.index.ensures 0, c.moves.invariant.progress.few c.len-k.result, c.requires.small)

pub returns-then-count-limit : goal.returns-then-count-limit
returns-then-count-limit c =
    let a = arrived (goal.at.returns-then-count-limit c).After-len-k in
    let read = get_or_read c.moves.counts.items c.len-k.result c.index.result.now (level_within (goal.at.returns-then-count-limit c).After-len-k) c.index.ensures 0 in
    let k = length_of_new (goal.at.returns-then-count-limit c).After-len-k in
    progress_exceeds c.args.signatures.now c.args.steps.now c.args.limit _ _ _ _ c.moves.invariant.progress _ a.live a.new a.passes c.moves.invariant.long
    (omega (arith, c.if-count-limit.true, read, ap (λ m. get_or c.moves.counts.items m 0) k))

pub index_mut-requires : goal.index_mut-requires
index_mut-requires c = omega (arith, level_within (goal.at.index_mut-requires c).After-len-k, c.moves.counts.ok)

new_here : (c : After-len-k) → Represents c.args.signatures.now c.args.steps.now c.args.places (choices c.advance.new.self.path.items) c.advance.new.self.graph.cells.items
new_here c = standing_represents _ _ _ _ _ _ (arrived c).stands.standing

pub keep_types-requires-in-moves-clause-in_order : goal.keep_types-requires-in-moves-clause-in_order
keep_types-requires-in-moves-clause-in_order c = (new_here (goal.at.keep_types-requires-in-moves-clause-in_order c).After-len-k).in_order

pub keep_types-requires-in-moves-clause-room : goal.keep_types-requires-in-moves-clause-room
keep_types-requires-in-moves-clause-room c = omega (arith, (new_here (goal.at.keep_types-requires-in-moves-clause-room c).After-len-k).room, c.requires.room)

pub moves-smaller : goal.moves-smaller
moves-smaller c =
    let within = level_within (goal.at.moves-smaller c).After-len-k in
    let read = get_or_read c.moves.counts.items c.len-k.result c.index.result.now within c.index.ensures 0 in
    let P : ℕ → Type 0 = λ r. to_meet c.args.limit (set c.moves.counts.items c.len-k.result (r + 1)) < to_meet c.args.limit c.moves.counts.items in
    subst P (sym read) (meets_less c.args.limit c.moves.counts.items c.len-k.result within (c.moves.invariant.progress.few c.len-k.result))

pub moves-preserved : goal.moves-preserved
moves-preserved c =
    let a = arrived (goal.at.moves-preserved c).After-len-k in
    let read = get_or_read c.moves.counts.items c.len-k.result c.index.result.now (level_within (goal.at.moves-preserved c).After-len-k) c.index.ensures 0 in
    let k = length_of_new (goal.at.moves-preserved c).After-len-k in
    let P : List (List ℕ) → Type 0 = λ f. TypesFit c.args.signatures.now c.args.steps.now c.args.vars c.in_ok-types-2.types.items f in
    let met : c.len.result ≡ length (map (λ v. v.items) c.moves.found.items) = omega (arith, c.len.ensures, c.moves.found.ok, length-map c.moves.found.items (λ v. v.items)) in
    let Q : ℕ → Type 0 = λ n. TypesKept (eqb c.len-k.result (length c.args.steps.now)) n c.advance.new.self.graph.cells.items c.args.vars c.moves.types.items c.in_ok-types-2.types.items in
    let kept = subst Q met c.in_ok-types-2.ensures in
    let noted_is = c.in_ok-note-2.ensures ∙ ap (λ p. noted (eqb c.len-k.result (length c.args.steps.now)) (map (λ v. v.items) c.moves.found.items) (choices p)) c.deref-in-moves.ensures.value in
    record {
      stands = a.stands;
      long = length-set _ _ _ ∙ c.moves.invariant.long;
      progress = progress_step c.args.signatures.now c.args.steps.now c.args.limit _ _ _ _ c.moves.invariant.progress _ a.live a.new a.passes c.moves.invariant.long
          c.len-k.result k c.index.result.now read (omega (arith, c.if-count-limit.false)) _ noted_is _ a.at_first;
      fit = subst P (sym noted_is) (types_step c.args.signatures.now c.args.steps.now c.args.places c.args.vars c.requires.room (eqb c.len-k.result (length c.args.steps.now)) _ _ _ _ _ (new_here (goal.at.moves-preserved c).After-len-k) c.moves.invariant.fit kept);
    }

pub returns : goal.returns
returns c =
    progress_ends c.args.signatures.now c.args.steps.now c.args.limit c.args.vars _ _ _ _ _ c.moves.invariant.progress c.moves.invariant.fit (rw c.if-branch.false at c.in_ok-advance.ensures.moved) c.outcome.result c.outcome.ensures
