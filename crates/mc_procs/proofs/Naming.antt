-- What names what is there does so where there is more.
use Rattle.std.proofs.Common.{ℕ, ◌<◌, ◌≤◌, List, [], ◌∷◌, arith}
use Rattle.mc_model.specs.Scheduled.{Label, for_symbol, for_constant, Node, node, Scheduled, Conj, Disj, Switch, Ite, Not, Exists, Assign, Test, Build, Take, Const, TestConst, Call, Apply, Nodes, no_nodes, node_then, Arms, no_arms, arm_then}
use Rattle.mc_procs.specs.Named.{Bounds, NumbersBelow, ChangesNamed, LabelNamed, Named, NamedIn, EachNamed, EachArmNamed}

pub numbers_more : (n m : ℕ) → n ≤ m → (xs : List ℕ) → NumbersBelow n xs → NumbersBelow m xs
numbers_more n m le [] h = h
numbers_more n m le (x ∷ xs) h = (let lt : x < n = h.0 in omega arith, numbers_more n m le xs h.1)

-- with more insts
abbrev pub with_more : Bounds → ℕ → Bounds
with_more B insts =
    record { variables = B.variables; symbols = B.symbols; procedures = B.procedures; insts = insts }

module _ (B : Bounds) (insts : ℕ) (more : B.insts ≤ insts) where
  abbrev C : Bounds
  C = with_more B insts

  changes_more : (changes : List (ℕ × ℕ)) → ChangesNamed B changes → ChangesNamed C changes
  changes_more [] h = h
  changes_more ((x, i) ∷ changes) h =
      (h.0, (let lt : i < B.insts = h.1 in omega arith), changes_more changes h.2)

  label_more : (l : Label) → LabelNamed B l → LabelNamed C l
  label_more (for_symbol s) h = h
  label_more (for_constant v) h = h

  mutual
    pub named_more : (n : Node) → Named B n → Named C n
    named_more (node s changes d m) h = (changes_more changes h.0, named_in_more s h.1)

    named_in_more : (s : Scheduled) → NamedIn B s → NamedIn C s
    named_in_more (Conj ns) h = each_more ns h
    named_in_more (Disj ns) h = each_more ns h
    named_in_more (Switch v arms) h = (h.0, arms_more arms h.1)
    named_in_more (Ite vs c t e) h = (h.0, named_more c h.1, named_more t h.2, named_more e h.3)
    named_in_more (Not n) h = named_more n h
    named_in_more (Exists vs n) h = (h.0, named_more n h.1)
    named_in_more (Assign v w) h = h
    named_in_more (Test v w) h = h
    named_in_more (Build v s xs) h = h
    named_in_more (Take v s xs) h = h
    named_in_more (Const v c) h = h
    named_in_more (TestConst v c) h = h
    named_in_more (Call k xs implied last) h = h
    named_in_more (Apply op xs ys) h = h

    each_more : (ns : Nodes) → EachNamed B ns → EachNamed C ns
    each_more no_nodes h = h
    each_more (node_then n ns) h = (named_more n h.0, each_more ns h.1)

    arms_more : (arms : Arms) → EachArmNamed B arms → EachArmNamed C arms
    arms_more no_arms h = h
    arms_more (arm_then l n arms) h = (label_more l h.0, named_more n h.1, arms_more arms h.2)
