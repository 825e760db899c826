-- What a walk over a body leaves as it is, and what names what is there while the graph grows.
use Rattle.std.proofs.Common.{◌≡◌, ℕ, ◌<◌, Bool, true, false, List, [], ◌∷◌, length, nat_eq, if◌then◌else◌, refl, sym, ◌∙◌, subst}
use Rattle.mc_program.specs.declared.ty.Ty.{Ty}
use Rattle.mc_model.specs.Scheduled.{Node, node, Scheduled, Conj, Nodes, no_nodes}
use Rattle.mc_source.specs.Determinism.{inferred, det}
use Rattle.mc_accepted.specs.Ordered.{Insts, change_at}
use Rattle.mc_insts.specs.Graphs.{count_of}
use Rattle.mc_procs.specs.Named.{Bounds, ChangesNamed, Named, EachNamed}
use Rattle.mc_procs.specs.Procedures.{PlainProcs}
use Rattle.mc_procs.proofs.Naming.{named_more}
use Rattle.mc_det.specs.code.Walks.{bounds_in}
use Rattle.mc_switch.specs.declared.forming.SwitchDetection.{SwitchDetection}
use Rattle.mc_switch.specs.Types.{inst_in, InstsFit}
use Rattle.mc_switch.specs.Kept.{OnlyGrew}
use Rattle.mc_switch.specs.code.Forms.{Stands, Returns}
use Rattle.mc_switch.proofs.Growing.{fits_grown, merges_twice, nothing_more}

pub stands_again : (q r : PlainProcs) (types : List Ty) (v w : SwitchDetection) → OnlyGrew q r → Stands q types v → Returns r types v w → Stands r types w
stands_again q r types v w grew stands back = record {
  ready = subst (InstsFit r types) (sym back.point) (fits_grown q r types v.point grew stands.ready);
  merged = let m = back.merges in m.merged;
}

pub returns_twice : (q r : PlainProcs) (types : List Ty) (u v w : SwitchDetection) → Returns q types u v → Returns r types v w → Returns r types u w
returns_twice q r types u v w f g = record {
  point = g.point ∙ f.point;
  merges = let m = f.merges in merges_twice r types u.merger.found v.merger.found w.merger.found m.stays g.merges;
}

pub returns_self : (q : PlainProcs) (types : List Ty) (w : SwitchDetection) → Stands q types w → Returns q types w w
returns_self q types w s = record { point = refl; merges = nothing_more q types w.merger.found s.merged }

module _ (q r : PlainProcs) (n : ℕ) (grew : OnlyGrew q r) where
  pub named_grown : (x : Node) → Named (bounds_in q n) x → Named (bounds_in r n) x
  named_grown x h = subst (λ (p : PlainProcs). Named (bounds_in p n) x) (sym grew.others) (let g = grew.grown in named_more (bounds_in q n) (count_of r.insts) g.more x h)

  abbrev alone : Scheduled → Node
  alone s = node s [] (inferred det) false

  pub each_named_grown : (ns : Nodes) → EachNamed (bounds_in q n) ns → EachNamed (bounds_in r n) ns
  each_named_grown ns h = (named_grown (alone (Conj ns)) (tt, h)).1

  pub changes_named_grown : (cs : List (ℕ × ℕ)) → ChangesNamed (bounds_in q n) cs → ChangesNamed (bounds_in r n) cs
  changes_named_grown cs h = (named_grown (node (Conj no_nodes) cs (inferred det) false) (h, tt)).0

either_less : (t : Bool) (i j n : ℕ) → i < n → j < n → (if t then i else j) < n
either_less true i j n p q = p
either_less false i j n p q = q

pub change_there : (B : Bounds) (changes : List (ℕ × ℕ)) (x i : ℕ) → ChangesNamed B changes → i < B.insts → change_at x changes i < B.insts
change_there B [] x i h lt = lt
change_there B ((y, j) ∷ changes) x i h lt = either_less (nat_eq x y) j (change_at x changes i) B.insts h.1 (change_there B changes x i h.2 lt)

pub enters_fit : (q : PlainProcs) (types : List Ty) (before after : List ℕ) (changes : List (ℕ × ℕ)) → InstsFit q types before → ChangesNamed (bounds_in q (length types)) changes → length after ≡ length before → inst_in after ≡ (λ x. change_at x changes (inst_in before x)) → InstsFit q types after
enters_fit q types before after changes f h e a = record {
  many = e ∙ f.many;
  there = λ x. subst (λ (b : Insts). b x < count_of q.insts) (sym a) (change_there (bounds_in q (length types)) changes x (inst_in before x) h (f.there x));
}
