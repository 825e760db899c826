-- A procedure without a fault of determinism, whose body is ordered, is accepted, and so is one
-- whose body is the switch form of an ordered goal.
use Rattle.std.proofs.Common.{◌≡◌, ◌⊎◌, inl, inr, ℕ, List, [], ◌∷◌, ◌++◌, length, Bool, true, false, if◌then◌else◌, nat_eq, refl, sym, ap, ◌∙◌}
use Rattle.std.proofs.lemmas.Bool.{eqb-true}
use Rattle.mc_model.specs.Flat.{Flat_goal, variables_of}
use Rattle.mc_model.specs.Stream.{is_bound}
use Rattle.mc_model.specs.Lists.{In}
use Rattle.mc_model.specs.Good.{System}
use Rattle.mc_model.specs.Scheduled.{Node, Procedure}
use Rattle.mc_accepted.specs.Accepted.{entered}
use Rattle.mc_accepted.specs.Determined.{nothing_known}
use Rattle.mc_accepted.specs.Fits.{goal_of, type_of}
use Rattle.mc_accepted.specs.Ordered.{Insts, variables_of_node}
use Rattle.mc_accepted.specs.Unmarked.{changed_node}
use Rattle.mc_accepted.specs.Inferred.{system_of}
use Rattle.laws_sound.specs.Soundness.{AcceptedAreGood}
use Rattle.laws_order.proofs.NormalScopes.{from_length}
use Rattle.laws_order.proofs.EndsMet.{in-order-is-ordered}
use Rattle.laws_accepted.proofs.Faultless.{faultless_meets}
use Rattle.laws_accepted.specs.AcceptedLaws.{IsTold, IsFormed, FaultlessIsAccepted, FormIsAccepted, InOrderIsAccepted, ComputedAreAccepted, ComputedAreGood}
use Rattle.laws_accepted.specs.FormLaws.{BoundAreOutside}
use Rattle.laws_accepted.specs.Told.{Retold}
use Rattle.laws_accepted.proofs.FormedGoals.{forms_stay_ordered}
use Rattle.laws_accepted.proofs.Retelling.{both_told, changed_is_retold}
use Rattle.laws_accepted.proofs.Telling.{told_stays_ordered}

pub faultless_is_accepted : FaultlessIsAccepted
faultless_is_accepted D ds k o closed lt e t h =
    let m = faultless_meets D ds k closed lt e in
    record {
      head = t.head;
      lengths = (t.first, t.last);
      after = o;
      ordered = h.0;
      final = h.1;
      kept = t.determinisms;
      allowed = m.allowed;
      declared = t.committed;
      placed = m.placed;
      io = m.io;
    }

-- what is bound at the call is in the head
pub bound_in_head : (head first xs : List ℕ) → BoundAreOutside head (entered head first) xs
bound_in_head [] is xs x q i = cc
bound_in_head (y ∷ ys) [] xs x q i = cc
bound_in_head (y ∷ ys) (j ∷ is) xs x q i = at (nat_eq x y) refl q (λ r. bound_in_head ys is xs x r i)
  where
    at : (t : Bool) → nat_eq x y ≡ t → is_bound (if t then j else entered ys is x) ≡ true → (is_bound (entered ys is x) ≡ true → In x ys) → (x ≡ y) ⊎ In x ys
    at true e q again = inl (eqb-true x y e)
    at false e q again = inr (again q)

pub form_is_accepted : FormIsAccepted
form_is_accepted D ds k n o closed lt insts e t h f =
    let S : System = system_of D ds in
    let p : Procedure = S.procs k in
    let b : Insts = entered p.head p.first in
    let g : Flat_goal = (goal_of S p).body in
    let m = forms_stay_ordered S (type_of S p) p.head p.head b g n f.goal o f.kept insts h.0 f.same (bound_in_head p.head p.first (variables_of g ++ variables_of_node n)) f.merge in
    faultless_is_accepted D ds k o closed lt e t
    (told_stays_ordered S p p.head p.head b nothing_known g m.0 p.body o m.2 (both_told m.1 f.told) f.marks t.determinisms, h.1)

as_long : (S : System) (p : Procedure) → IsTold S p → length p.last ≡ length p.head
as_long S p t = t.last ∙ sym (ap length t.head ∙ from_length 0 (goal_of S p).arity)

-- the form of a goal is that of one that is told alike
form_of_told : (S : System) (p : Procedure) (n m : Node) → Retold n m → IsFormed S p n → IsFormed S p m
form_of_told S p n m r f = record { goal = f.goal; same = both_told r f.same; kept = f.kept; merge = f.merge; told = f.told; marks = f.marks }

pub in_order_is_accepted : InOrderIsAccepted
in_order_is_accepted D ds k x closed lt e t q =
    let S : System = system_of D ds in
    let p : Procedure = S.procs k in
    let h = in-order-is-ordered S p q.choice q.modes q.truthful q.declared q.ends q.next (goal_of S p).body x (as_long S p t) q.head_below q.goal_below q.scopes q.typed q.enters q.order q.alike in
    let n : Node = h.1.0 in
    let alike : (m : Node) → changed_node m ≡ x → Retold n m = λ m same. (changed_is_retold n m).0 (h.1.1 ∙ sym same) in
    let back : (m : Node) → changed_node m ≡ x → Retold m n = λ m same. (changed_is_retold m n).0 (same ∙ sym h.1.1) in (
      (n, h.1.1, (h.0, (h.1.2, h.2))),
      (λ same marks. faultless_is_accepted D ds k h.0 closed lt e t
          (told_stays_ordered S p p.head p.head (entered p.head p.first) nothing_known (goal_of S p).body n p.body h.0 h.1.2 (alike p.body same) marks t.determinisms, h.2)),
      (λ m same insts form. form_is_accepted D ds k n h.0 closed lt insts e t (h.1.2, h.2) (form_of_told S p m n (back m same) form)),
    )

pub computed_are_accepted : ComputedAreAccepted
computed_are_accepted D ds insts closed computed k lt =
    let c = computed k lt in form_is_accepted D ds k c.goal c.after closed lt insts c.faultless c.told c.ordered c.form

pub computed_are_good : AcceptedAreGood → ComputedAreGood
computed_are_good good D ds E fits closed computed =
    good (system_of D ds) E fits (computed_are_accepted D ds fits.insts closed computed)
