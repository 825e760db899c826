use Rattle.std.proofs.Common.{◌≡◌, ℕ, ◌+◌, ◌<◌, List, [], ◌∷◌, ◌++◌, length, sym, ap, ◌∙◌, subst, arith, length-append}
use Rattle.mc_insts.specs.declared.graph.Case.{Case}
use Rattle.mc_insts.specs.declared.graph.Node.{Node}
use Rattle.mc_insts.specs.declared.graph.Node.TheVariants as N
use Rattle.mc_insts.specs.declared.triples.Triple.{Triple}
use Rattle.mc_insts.specs.code.Lists.{Stands}
use Rattle.mc_insts.specs.code.Walks.{scene, node_at, ProperCases}
use Rattle.mc_insts.specs.code.Formed.{AllFilled}
use Rattle.mc_insts.specs.code.Merges.{Merges, top_of}
use Rattle.mc_insts.proofs.Growth.{extends_length}
use Rattle.mc_insts.proofs.Opens.{refers_on}
use Rattle.mc_insts.proofs.Mades.{none_proper, none_filled, merges_more, fits_more, filled_more, merges_all}
use Rattle.mc_insts.proofs.graph.InstGraph.made.Goals as goal

pub loop-t-init : goal.loop-t-init
loop-t-init c =
    let C = scene c.args.self.now c.args.shapes.now in
    record {
      refers = c.in_ok-stands.ensures.refers;
      sound = c.resolve.ensures.sound;
      count = ap length c.new-nodes.ensures.items;
      order = omega arith;
      merges = λ n u h s. absurd (omega arith);
      fits = λ n cs h. none_proper C (top_of C c.resolve.new.seen) cs (sym (ap (λ (made : List Node). node_at made n) c.new-nodes.ensures.items) ∙ h);
      filled = λ f n cs h. none_filled cs (sym (ap (λ (made : List Node). node_at made n) c.new-nodes.ensures.items) ∙ h);
    }

pub merged_node-requires-clause-sound : goal.merged_node-requires-clause-sound
merged_node-requires-clause-sound c = c.loop-t.invariant.sound

pub merged_node-requires-clause-opened : goal.merged_node-requires-clause-opened
merged_node-requires-clause-opened c = c.loop-t.invariant.sound c.loop-t.next c.in-Some.t c.in-Some.ensures.triple

pub loop-t-preserved : goal.loop-t-preserved
loop-t-preserved c =
    let C = scene c.args.self.now c.args.shapes.now in
    let s = c.in-Some.ensures.triple in
    let w = s.within in
    let l = extends_length _ _ c.merged_node.ensures.extends in
    let m : length c.push.new.self.items ≡ length (c.loop-t.nodes.items ++ c.in_ok-node.node ∷ []) = ap length c.in_ok-push.ensures.items in
    let k : length (c.loop-t.nodes.items ++ c.in_ok-node.node ∷ []) ≡ length c.loop-t.nodes.items + 1 = length-append c.loop-t.nodes.items (c.in_ok-node.node ∷ []) in
    record {
      refers = refers_on C _ _ c.args.root c.in_ok-stands.stands c.merged_node.ensures.extends c.loop-t.invariant.refers;
      sound = c.merged_node.ensures.sound;
      count = omega arith;
      order = omega arith;
      merges = subst (λ (made : List Node). (n : ℕ) (u : Triple) → n < c.loop-t.next + 1 → Stands c.merged_node.new.seen n u → Merges C c.merged_node.new.seen u (node_at made n)) (sym c.in_ok-push.ensures.items)
          (merges_more C c.in-Some.t c.in_ok-node.node c.loop-t.next c.loop-t.nodes.items _ _ c.merged_node.ensures.extends c.loop-t.invariant.count s c.loop-t.invariant.merges c.in_ok-node.ensures.merges);
      fits = subst (λ (made : List Node). (n : ℕ) (cs : List Case) → node_at made n ≡ N.Bound cs → ProperCases C (top_of C c.merged_node.new.seen) cs) (sym c.in_ok-push.ensures.items)
          (fits_more C c.in_ok-node.node c.loop-t.nodes.items _ _ c.merged_node.ensures.extends c.loop-t.invariant.fits c.in_ok-node.ensures.fits);
      filled = λ f. subst (λ (made : List Node). (n : ℕ) (cs : List Case) → node_at made n ≡ N.Bound cs → AllFilled cs) (sym c.in_ok-push.ensures.items)
          (filled_more c.in_ok-node.node c.loop-t.nodes.items (c.loop-t.invariant.filled f) (c.in_ok-node.ensures.filled f));
    }

pub returns : goal.returns
returns c =
    let C = scene c.args.self.now c.args.shapes.now in
    let e = c.in_ok-nodes.ensures.elements in
    let l : length c.in_ok-nodes.nodes ≡ length c.loop-t.nodes.items = ap length e in
    record {
      seen = c.loop-t.seen;
      refers = c.loop-t.invariant.refers;
      count = omega arith;
      sound = c.loop-t.invariant.sound;
      merges = subst (λ (made : List Node). (n : ℕ) (u : Triple) → Stands c.loop-t.seen n u → Merges C c.loop-t.seen u (node_at made n)) (sym e) (merges_all C c.loop-t.next c.loop-t.nodes.items c.loop-t.seen c.in_default.ensures.triple c.loop-t.invariant.merges);
      fits = subst (λ (made : List Node). (n : ℕ) (cs : List Case) → node_at made n ≡ N.Bound cs → ProperCases C (top_of C c.loop-t.seen) cs) (sym e) c.loop-t.invariant.fits;
      filled = λ f. subst (λ (made : List Node). (n : ℕ) (cs : List Case) → node_at made n ≡ N.Bound cs → AllFilled cs) (sym e) (c.loop-t.invariant.filled f);
    }
