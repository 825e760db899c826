-- The rules that types break, step by step.
use Rattle.std.proofs.Common.{◌≡◌, ℕ, ◌+◌, ◌<◌, true, false, List, ◌++◌, map, length, get_or, drop, sym, ap, ◌∙◌, append_assoc}
use Rattle.std.specs.Prelude.{Some, None, codes, if◌then◌else◌}
use Rattle.std.specs.Option.{option_or, option_map}
use Rattle.std.proofs.lemmas.List.{at_drop_more}
use Rattle.mc_source.specs.declared.rule.Broken.{Broken}
use Rattle.mc_source.specs.declared.rule.Rule.TheVariants as R
use Rattle.mc_source.specs.Rules.{broken_at, first_rules}
use Rattle.mc_names.specs.declared.names.Named.{Named}
use Rattle.mc_names.specs.Linked.{Defined, Linked, plain_named}
use Rattle.mc_type_table.specs.Rules.{stray_in, is_cyclic, of_type, is_of_group, is_one_irregular, body, cycle_fault, regular_fault, type_fault, numbered}

pub variable_first :
    (l : Linked) (u : ℕ) (d : Defined) (x what : List ℕ)
    → Some x ≡ stray_in d.item
    → what ≡ codes "type variable " ++ (x ++ codes " is not in the head")
    → Some (R.T3, what) ≡ type_fault l u d
variable_first l u d x what stray is =
    ap (λ w. Some (R.T3, w)) is
    ∙ ap
    (λ o.
    option_or
    (option_map (λ x. (R.T3, codes "type variable " ++ (x ++ codes " is not in the head"))) o)
    (option_or (cycle_fault l u d) (regular_fault l u d))) stray

behind_variables :
    (l : Linked) (u : ℕ) (d : Defined)
    → None ≡ stray_in d.item
    → option_or (cycle_fault l u d) (regular_fault l u d) ≡ type_fault l u d
behind_variables l u d none =
    ap
    (λ o.
    option_or
    (option_map (λ x. (R.T3, codes "type variable " ++ (x ++ codes " is not in the head"))) o)
    (option_or (cycle_fault l u d) (regular_fault l u d))) none

pub round_first :
    (l : Linked) (u : ℕ) (d : Defined) (what : List ℕ)
    → None ≡ stray_in d.item → true ≡ is_cyclic l u
    → what ≡ of_type d (codes " is its own equivalent")
    → Some (R.T4, what) ≡ type_fault l u d
round_first l u d what none round is =
    ap (λ w. Some (R.T4, w)) is
    ∙ ap
    (λ b.
    option_or (if b then Some (R.T4, of_type d (codes " is its own equivalent")) else None)
    (regular_fault l u d)) round
    ∙ behind_variables l u d none

behind_rounds :
    (l : Linked) (u : ℕ) (d : Defined)
    → None ≡ stray_in d.item → false ≡ is_cyclic l u → regular_fault l u d ≡ type_fault l u d
behind_rounds l u d none straight =
    ap
    (λ b.
    option_or (if b then Some (R.T4, of_type d (codes " is its own equivalent")) else None)
    (regular_fault l u d)) straight
    ∙ behind_variables l u d none

pub irregular_first :
    (l : Linked) (u : ℕ) (d : Defined) (what : List ℕ)
    → None ≡ stray_in d.item → false ≡ is_cyclic l u
    → true ≡ is_one_irregular (λ k. is_of_group l k u) (body l u)
    → what ≡ of_type d (codes " is not regular")
    → Some (R.T5, what) ≡ type_fault l u d
irregular_first l u d what none straight grown is =
    ap (λ w. Some (R.T5, w)) is
    ∙ ap (λ b. if b then Some (R.T5, of_type d (codes " is not regular")) else None) grown
    ∙ behind_rounds l u d none straight

pub none_broken :
    (l : Linked) (u : ℕ) (d : Defined)
    → None ≡ stray_in d.item → false ≡ is_cyclic l u
    → false ≡ is_one_irregular (λ k. is_of_group l k u) (body l u)
    → None ≡ type_fault l u d
none_broken l u d none straight regular =
    ap (λ b. if b then Some (R.T5, of_type d (codes " is not regular")) else None) regular
    ∙ behind_rounds l u d none straight

-- the rules that types from a number on break
abbrev pub faults_from : Linked → (first : ℕ) → List Named → List Broken
faults_from l n ns =
    first_rules (λ p. p.1.at) (λ p. type_fault l p.0 p.1) (numbered n (map plain_named ns))

pub faults_more :
    (l : Linked) (n : ℕ) (xs ys : List Broken) (ns : List Named) (i : ℕ) (x : Named)
    → i < length ns → x ≡ get_or ns i x
    → ys ≡ xs ++ broken_at (plain_named x).at (type_fault l n (plain_named x))
    → ys ++ faults_from l (n + 1) (drop (i + 1) ns) ≡ xs ++ faults_from l n (drop i ns)
faults_more l n xs ys ns i x below is more =
    let rest = faults_from l (n + 1) (drop (i + 1) ns) in
    ap (λ zs. zs ++ rest) more
    ∙ append_assoc xs (broken_at (plain_named x).at (type_fault l n (plain_named x))) rest
    ∙ ap
    (λ (y : Named).
    xs ++ (broken_at (plain_named y).at (type_fault l n (plain_named y)) ++ rest)) is
    ∙ sym (at_drop_more (λ ms. xs ++ faults_from l n ms) ns i x below)
