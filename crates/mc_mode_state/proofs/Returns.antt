-- States that were led back.
use Rattle.std.proofs.Common.{◌≡◌, ℕ, Vec, Global, ◌<◌, ◌≤◌, length, get_or, take, sym, ap, ◌∙◌, subst, arith}
use Rattle.std.proofs.Math.Seq.{take-length}
use Rattle.mc_program.specs.declared.ty.Ty.{Ty}
use Rattle.mc_accepted.specs.Arranged.{Point}
use Rattle.mc_insts.specs.Graphs.{count_of}
use Rattle.mc_procs.specs.Procedures.{PlainProcs}
use Rattle.mc_mode_state.specs.States.{point_of, TrailWithin, SameState}
use Rattle.mc_mode_state.specs.Agreeing.{StateInvariant, StateExtends, LaterByTrail}
use Rattle.mc_mode_state.specs.declared.state.State.{State}
use Rattle.mc_mode_state.proofs.Rewinds.{leads-same}
use Rattle.mc_mode_state.proofs.NewVariables.{within-more}

-- variables got their insts back, and new ones stayed
pub stepped-back : (q r : PlainProcs) (s t u : State) → StateInvariant q s → LaterByTrail q r s t
    → point_of u.insts.items ≡ point_of s.insts.items → u.trail.items ≡ s.trail.items → length u.insts.items ≡ length t.insts.items
    → u.outside ≡ t.outside → u.types ≡ t.types → u.nodes ≡ t.nodes → LaterByTrail q r s u
stepped-back q r s t u st step point trail count outside types nodes =
    let more : length s.insts.items ≤ length u.insts.items = let a = step.later.more in omega (arith, count) in
    let kept : take (length s.types.items) u.types.items ≡ s.types.items = ap (λ (v : Vec Ty Global). take (length s.types.items) v.items) types ∙ step.later.types in
    record {
      later = record {
        leads = leads-same s u point trail;
        more = more;
        outside = λ x. ap (λ (v : Vec ℕ Global). get_or v.items x 0) outside ∙ step.later.outside x;
        types = kept;
      };
      moved = record {
        nodes = rw nodes step.moved.nodes;
        types = kept;
        stands = record {
          fit = step.moved.stands.fit;
          even = record {
            outside = ap (λ (v : Vec ℕ Global). length v.items) outside ∙ (step.moved.stands.even.outside ∙ sym count);
            types = ap (λ (v : Vec Ty Global). length v.items) types ∙ (step.moved.stands.even.types ∙ sym count);
          };
          insts = λ x. subst (λ (b : Point ℕ). b x < count_of r.insts) (sym point) (let a = st.insts x in let b = step.moved.nodes.grown.more in omega arith);
          trail = subst (TrailWithin (length u.insts.items)) (sym trail) (within-more (length s.insts.items) (length u.insts.items) s.trail.items more st.trail);
          nodes = rw nodes step.moved.stands.nodes;
        };
      };
    }

-- all was given up but for nodes that were found
pub moved-back : (q r : PlainProcs) (s t u : State) → StateInvariant q s → LaterByTrail q r s t → SameState s u → u.nodes ≡ t.nodes → StateExtends q r s u
moved-back q r s t u st step same nodes = record {
  nodes = rw nodes step.moved.nodes;
  types = ap (take (length s.types.items)) same.types ∙ take-length s.types.items;
  stands = record {
    fit = step.moved.stands.fit;
    even = record {
      outside = same.outsides ∙ (st.even.outside ∙ sym same.count);
      types = ap length same.types ∙ (st.even.types ∙ sym same.count);
    };
    insts = λ x. subst (λ (b : Point ℕ). b x < count_of r.insts) (sym same.point) (let a = st.insts x in let b = step.moved.nodes.grown.more in omega arith);
    trail = subst (λ n. TrailWithin n u.trail.items) (sym same.count) (subst (TrailWithin (length s.insts.items)) (sym same.trail) st.trail);
    nodes = rw nodes step.moved.stands.nodes;
  };
}
