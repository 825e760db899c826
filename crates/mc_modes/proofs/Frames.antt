-- States that differ in what occurs outside alone.
use Rattle.std.proofs.Common.{◌≡◌, ◌∙◌, ◌≤◌, ◌+◌, ℕ, Vec, Global, Bool, true, false, List, length, get_or, Some, Option, refl, sym, ap, subst, arith}
use Rattle.mc_program.specs.Programs.{TypeTerm}
use Rattle.mc_accepted.specs.Arranged.{Point}
use Rattle.mc_accepted.specs.NodeOracle.{NodeOracle}
use Rattle.mc_accepted.specs.Ordered.{times_in}
use Rattle.mc_procs.specs.Procedures.{PlainProcs}
use Rattle.mc_mode_state.specs.States.{TrailRestores, SameState}
use Rattle.mc_mode_state.specs.Agreeing.{OracleAgrees, StateInvariant, StateExtends, LaterByTrail}
use Rattle.mc_mode_state.specs.Answers.{end_of}
use Rattle.mc_mode_state.specs.declared.state.State.{State}
use Rattle.mc_mode_state.proofs.Rewinds.{leads-trans}
use Rattle.mc_mode_state.proofs.Steps.{moved-trans}
use Rattle.mc_modes.specs.Tries.{with_types, AgreesOnClause}
use Rattle.mc_modes.specs.code.Frames.{Frame, Entered, Left}

abbrev pub with_outside : State → Vec ℕ Global → State
with_outside s o = record { insts = s.insts; trail = s.trail; outside = o; types = s.types; nodes = s.nodes }

pub framed : (s t : State) → t.insts ≡ s.insts → t.trail ≡ s.trail → t.types ≡ s.types → t.nodes ≡ s.nodes → t ≡ with_outside s t.outside
framed s t i l y n = λ k. record { insts = i k; trail = l k; outside = t.outside; types = y k; nodes = n k }

pub stands-out : (q : PlainProcs) (s : State) (o : Vec ℕ Global) → length o.items ≡ length s.outside.items → StateInvariant q s → StateInvariant q (with_outside s o)
stands-out q s o len st = record {
  fit = st.fit;
  even = record { outside = len ∙ st.even.outside; types = st.even.types };
  insts = st.insts;
  trail = st.trail;
  nodes = st.nodes;
}

pub moved-out : (q r : PlainProcs) (s t : State) (o p : Vec ℕ Global) → length p.items ≡ length t.outside.items → StateExtends q r (with_outside s o) t → StateExtends q r s (with_outside t p)
moved-out q r s t o p len m = record { nodes = m.nodes; types = m.types; stands = stands-out r t p len m.stands }

pub stepped-out : (q r : PlainProcs) (s t : State) (o p : Vec ℕ Global) → length p.items ≡ length t.outside.items
    → ((x : ℕ) → get_or p.items x 0 ≡ get_or s.outside.items x 0) → LaterByTrail q r (with_outside s o) t → LaterByTrail q r s (with_outside t p)
stepped-out q r s t o p len same step = record {
  later = record {
    leads = record { kept = step.later.leads.kept; back = step.later.leads.back };
    more = step.later.more;
    outside = same;
    types = step.later.types;
  };
  moved = moved-out q r s t o p len step.moved;
}

pub same-out : (s t : State) (o p : Vec ℕ Global) → length p.items ≡ length s.outside.items
    → ((x : ℕ) → get_or p.items x 0 ≡ get_or s.outside.items x 0) → SameState (with_outside s o) t → SameState s (with_outside t p)
same-out s t o p len same h = record { point = h.point; count = h.count; trail = h.trail; outside = same; outsides = len; types = h.types }

pub agrees-out : (q : PlainProcs) (s t : State) (C : NodeOracle) (T : ℕ → TypeTerm) → t.types ≡ s.types → t.nodes ≡ s.nodes → OracleAgrees q t C T → OracleAgrees q s C T
agrees-out q s t C T y n a =
    subst (λ (v : State). OracleAgrees q v C T) (λ k. record { insts = s.insts; trail = s.trail; outside = s.outside; types = y k; nodes = n k })
    (record { dies = a.dies; constants = a.constants; narrowed = a.narrowed; fits = a.fits; over = a.over; joined = a.joined; types = a.types })

pub suits-out : (first : ℕ) (q : PlainProcs) (s t : State) (C : NodeOracle) (T : ℕ → TypeTerm) → t.types ≡ s.types → t.nodes ≡ s.nodes → AgreesOnClause first q t C T → AgreesOnClause first q s C T
suits-out first q s t C T y n u = record {
  agrees = agrees-out q s t C (with_types first s T) y n
      (subst (λ (v : State). OracleAgrees q t C (with_types first v T)) (λ k. record { insts = s.insts; trail = s.trail; outside = s.outside; types = y k; nodes = s.nodes }) (refitted u.agrees));
}
  where
    refitted : OracleAgrees q t C (with_types first t T) → OracleAgrees q t C (with_types first (record { insts = s.insts; trail = s.trail; outside = s.outside; types = t.types; nodes = s.nodes }) T)
    refitted a = a

pub end-out : (b : Bool) (s t : State) → t.insts ≡ s.insts → end_of b t ≡ end_of b s
end-out true s t e = ap (λ (v : Vec ℕ Global). let o : Option (Point ℕ) = Some (λ x. get_or v.items x 0) in o) e
end-out false s t e = refl

-- A later state, from which the trail leads back; what occurs outside may be another.
pub record Onward (q r : PlainProcs) (s t : State) : Type 0 where
  pub leads : TrailRestores s t
  pub more : length s.insts.items ≤ length t.insts.items
  pub moved : StateExtends q r s t

pub onward-step : (q r : PlainProcs) (s t : State) → LaterByTrail q r s t → Onward q r s t
onward-step q r s t p = record { leads = p.later.leads; more = p.later.more; moved = p.moved }

pub onward-trans : (q r u : PlainProcs) (s t v : State) → Onward q r s t → Onward r u t v → Onward q u s v
onward-trans q r u s t v p n = record {
  leads = leads-trans s t v p.leads n.leads;
  more = let a = p.more in let b = n.more in omega arith;
  moved = moved-trans q r u s t v p.moved n.moved;
}

-- other counts of what occurs outside at the end
pub onward-out : (q r : PlainProcs) (s t : State) (p : Vec ℕ Global) → length p.items ≡ length t.outside.items → Onward q r s t → Onward q r s (with_outside t p)
onward-out q r s t p len n = record {
  leads = record { kept = n.leads.kept; back = n.leads.back };
  more = n.more;
  moved = record { nodes = n.moved.nodes; types = n.moved.types; stands = stands-out r t p len n.moved.stands };
}

pub stepped-onward : (q r : PlainProcs) (s t : State) → ((x : ℕ) → get_or t.outside.items x 0 ≡ get_or s.outside.items x 0) → Onward q r s t → LaterByTrail q r s t
stepped-onward q r s t same n = record {
  later = record { leads = n.leads; more = n.more; outside = same; types = n.moved.types };
  moved = n.moved;
}

pub frame-is : (s t : State) → Frame s t → t ≡ with_outside s t.outside
frame-is s t f = framed s t f.insts f.trail f.types f.nodes

pub frame-stands : (q : PlainProcs) (s t : State) → Frame s t → StateInvariant q s → StateInvariant q t
frame-stands q s t f st = subst (StateInvariant q) (sym (frame-is s t f)) (stands-out q s t.outside f.len st)

-- entered, and left again; or the other way
pub in-and-out : (vs : List ℕ) (s t u v : State) → Entered vs s t → ((x : ℕ) → get_or u.outside.items x 0 ≡ get_or t.outside.items x 0) → Left vs u v
    → (x : ℕ) → get_or v.outside.items x 0 ≡ get_or s.outside.items x 0
in-and-out vs s t u v e h l x = omega (arith, e.counts x, h x, l.counts x)

pub out-and-in : (vs : List ℕ) (s t u v : State) → Left vs s t → ((x : ℕ) → get_or u.outside.items x 0 ≡ get_or t.outside.items x 0) → Entered vs u v
    → (x : ℕ) → get_or v.outside.items x 0 ≡ get_or s.outside.items x 0
out-and-in vs s t u v l h e x = e.counts x ∙ (ap (λ n. n + times_in x vs) (h x) ∙ l.counts x)

pub entered-as : (s t : State) (xs vs : List ℕ) → xs ≡ vs → t.insts ≡ s.insts → t.trail ≡ s.trail → t.types ≡ s.types → t.nodes ≡ s.nodes → length t.outside.items ≡ length s.outside.items
    → ((x : ℕ) → get_or t.outside.items x 0 ≡ get_or s.outside.items x 0 + times_in x xs) → Entered vs s t
entered-as s t xs vs e i l y n len counts = record {
  frame = record { insts = i; trail = l; types = y; nodes = n; len = len };
  counts = λ x. counts x ∙ ap (λ zs. get_or s.outside.items x 0 + times_in x zs) e;
}

pub left-as : (s t : State) (xs vs : List ℕ) → xs ≡ vs → t.insts ≡ s.insts → t.trail ≡ s.trail → t.types ≡ s.types → t.nodes ≡ s.nodes → length t.outside.items ≡ length s.outside.items
    → ((x : ℕ) → get_or t.outside.items x 0 + times_in x xs ≡ get_or s.outside.items x 0) → Left vs s t
left-as s t xs vs e i l y n len counts = record {
  frame = record { insts = i; trail = l; types = y; nodes = n; len = len };
  counts = λ x. ap (λ zs. get_or t.outside.items x 0 + times_in x zs) (sym e) ∙ counts x;
}
