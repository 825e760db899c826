-- What a goal is computed to open, it opens in the relation.
use Rattle.std.proofs.Common.{◌≡◌, ◌⊎◌, inl, inr, ℕ, List, [], ◌∷◌, ◌++◌, Some, None, Bool, true, false, if◌then◌else◌, nat_eq, refl, sym, subst}
use Rattle.std.proofs.lemmas.Bool.{eqb-true}
use Rattle.mc_program.specs.Values.{Val, int, char, str, con, state}
use Rattle.mc_model.specs.Scheduled.{Label, for_symbol, for_constant, Node, node, Scheduled, Conj, Disj, Switch, Ite, Not, Exists, Assign, Test, Build, Take, Const, TestConst, Call, Apply, Nodes, no_nodes, node_then}
use Rattle.mc_accepted.specs.Ordered.{IsEquation, Opens, OpensScheduled, OneOpens, IsLabel}
use Rattle.mc_accepted.specs.Switched.{Opening, is_equation, is_constant, openings, openings_in, openings_all, label_in}
use Rattle.laws_accepted.specs.SwitchLaws.{OpeningsOpen}

equation : (n : Node) → is_equation n ≡ true → IsEquation n
equation (node (Assign y z) changes d m) q = tt
equation (node (Test y z) changes d m) q = tt
equation (node (Build y s ys) changes d m) q = tt
equation (node (Take y s ys) changes d m) q = tt
equation (node (Const y v) changes d m) q = tt
equation (node (TestConst y v) changes d m) q = tt
equation (node (Conj ns) changes d m) q = cc
equation (node (Disj ns) changes d m) q = cc
equation (node (Switch y arms) changes d m) q = cc
equation (node (Ite vs c t e) changes d m) q = cc
equation (node (Not n) changes d m) q = cc
equation (node (Exists vs n) changes d m) q = cc
equation (node (Call p xs implied last) changes d m) q = cc
equation (node (Apply op xs ys) changes d m) q = cc

constant_label : (v : Val) → is_constant v ≡ true → IsLabel (for_constant v)
constant_label (int n) q = tt
constant_label (char c) q = tt
constant_label (str t) q = tt
constant_label (con f vs) q = cc
constant_label (state t k) q = cc

module _ (x : ℕ) (l : Label) where
  one_of_two : (os us : List Opening) → label_in x (os ++ us) ≡ Some l → (label_in x os ≡ Some l) ⊎ (label_in x us ≡ Some l)
  one_of_two [] us q = inr q
  one_of_two (o ∷ os) us q = by_test (nat_eq o.0 x) (λ r. one_of_two os us r) q
    where
      by_test : (t : Bool) → (label_in x (os ++ us) ≡ Some l → (label_in x os ≡ Some l) ⊎ (label_in x us ≡ Some l)) → (if t then Some o.1 else label_in x (os ++ us)) ≡ Some l → ((if t then Some o.1 else label_in x os) ≡ Some l) ⊎ (label_in x us ≡ Some l)
      by_test true again q = inl q
      by_test false again q = again q

  alone : (y : ℕ) (k : Label) → label_in x ((y, k) ∷ []) ≡ Some l → (y ≡ x) × (l ≡ k)
  alone y k q = by_test (nat_eq y x) refl q
    where
      by_test : (t : Bool) → nat_eq y x ≡ t → (if t then Some k else None) ≡ Some l → (y ≡ x) × (l ≡ k)
      by_test true r q = (eqb-true y x r, cc)
      by_test false r q = cc

  abbrev Opened : Type 0 → Type 0
  Opened A = A × IsLabel l

  mutual
    opened : (n : Node) → label_in x (openings n) ≡ Some l → Opened (Opens x l n)
    opened (node s changes d m) q = opened_in s q

    opened_in : (s : Scheduled) → label_in x (openings_in s) ≡ Some l → Opened (OpensScheduled x l s)
    opened_in (Conj ns) q = opened_all ns q
    opened_in (Exists vs n) q = opened n q
    opened_in (Take y s ys) q = let p = alone y (for_symbol s) q in (p, subst IsLabel (sym p.1) tt)
    opened_in (TestConst y v) q = by_test (is_constant v) refl q
      where
        by_test : (t : Bool) → is_constant v ≡ t → label_in x (if t then (y, for_constant v) ∷ [] else []) ≡ Some l → Opened (OpensScheduled x l (TestConst y v))
        by_test true r q = let p = alone y (for_constant v) q in (p, subst IsLabel (sym p.1) (constant_label v r))
        by_test false r q = cc
    opened_in (Disj ns) q = cc
    opened_in (Switch y arms) q = cc
    opened_in (Ite vs c t e) q = cc
    opened_in (Not n) q = cc
    opened_in (Assign y z) q = cc
    opened_in (Test y z) q = cc
    opened_in (Build y s ys) q = cc
    opened_in (Const y v) q = cc
    opened_in (Call p xs implied last) q = cc
    opened_in (Apply op xs ys) q = cc

    opened_all : (ns : Nodes) → label_in x (openings_all ns) ≡ Some l → Opened (OneOpens x l ns)
    opened_all no_nodes q = cc
    opened_all (node_then n ns) q = by_test (is_equation n) refl (λ r. opened n r) (λ r. opened_all ns r) q
      where
        by_part : is_equation n ≡ true → (label_in x (openings n) ≡ Some l → Opened (Opens x l n)) → (label_in x (openings_all ns) ≡ Some l → Opened (OneOpens x l ns)) → (label_in x (openings n) ≡ Some l) ⊎ (label_in x (openings_all ns) ≡ Some l) → Opened (OneOpens x l (node_then n ns))
        by_part i here there (inl q) = let p = here q in ((equation n i, inl p.0), p.1)
        by_part i here there (inr q) = let p = there q in ((equation n i, inr p.0), p.1)

        by_test : (t : Bool) → is_equation n ≡ t → (label_in x (openings n) ≡ Some l → Opened (Opens x l n)) → (label_in x (openings_all ns) ≡ Some l → Opened (OneOpens x l ns)) → label_in x (if t then openings n ++ openings_all ns else []) ≡ Some l → Opened (OneOpens x l (node_then n ns))
        by_test true i here there q = by_part i here there (one_of_two (openings n) (openings_all ns) q)
        by_test false i here there q = cc

pub openings_open : OpeningsOpen
openings_open x n l q = opened x l n q
