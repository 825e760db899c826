-- What the definition of one symbol over insts defines.
use Rattle.std.proofs.Common.{◌≡◌, ℕ, zero, suc, ◌<◌, List, [], ◌∷◌, length, get_or, map, refl, sym, ap, ap₂, ◌∙◌, subst, arith}
use Rattle.std.specs.List.Sorted.{IsPermutation, apply_swaps, SwapsInRange}
use Rattle.std.specs.List.{swap}
use Rattle.mc_program.specs.Programs.{FullName}
use Rattle.mc_model.specs.Insts.{Listed, InstNode, bound, Graph}
use Rattle.mc_model.specs.declared.inst.InstRef.{InstRef}
use Rattle.mc_model.specs.declared.inst.InstRef.TheVariants.{Old, New}
use Rattle.mc_accepted.specs.InstRules.{PlainInstDef, same_inst, bound_inst, definition_at}
use Rattle.std.proofs.lemmas.List.{length-map}
use Rattle.mc_insts.specs.Defining.{IsNode, there, made, another_name, AreNodes, IsListed, AreListed, ListsThese, Defined, node_made, AllFitThere, DefinitionsFit}
use Rattle.mc_mode_state.specs.code.Overs.{over_choice, over_definition}

unmoved : {X : Type 0} (x : X) (moves : List (ℕ × ℕ)) → SwapsInRange 1 moves → apply_swaps (x ∷ []) moves ≡ x ∷ []
unmoved x [] h = refl
unmoved x (p ∷ ps) h =
    let i : p.0 ≡ 0 = omega (arith, h.0) in
    let j : p.1 ≡ 0 = omega (arith, h.1) in
    ap (λ xs. swap xs p.0 p.1) (unmoved x ps h.2) ∙ ap₂ (λ m n. swap (x ∷ []) m n) i j

old_is : (ds : List PlainInstDef) (first : ℕ) (r : InstRef) (i j : ℕ) → IsNode ds first r j → r ≡ Old i → j ≡ i
old_is ds first r i j there e = cc
old_is ds first r i j (made d f) e = cc
old_is ds first r i j (another_name d n) e = cc

olds_are : (ds : List PlainInstDef) (first : ℕ) (is js : List ℕ) → AreNodes ds first (map Old is) js → js ≡ is
olds_are ds first [] [] h = refl
olds_are ds first [] (j ∷ js) h = absurd h
olds_are ds first (i ∷ is) [] h = absurd h
olds_are ds first (i ∷ is) (j ∷ js) h = ap₂ (λ (x : ℕ) (xs : List ℕ). x ∷ xs) (old_is ds first (Old i) i j h.0 refl) (olds_are ds first is js h.1)

made_is : (name : FullName) (is : List ℕ) (first : ℕ) (r : InstRef) (i : ℕ) → IsNode (over_definition name is) first r i → r ≡ New 0 → i ≡ node_made (over_definition name is) first 0
made_is name is first r i there e = cc
made_is name is first r i (made {k = k} d f) e = let x : k ≡ 0 = cc in f ∙ ap (node_made (over_definition name is) first) x
made_is name is first r i (another_name {k = k} {r = t} d n) e =
    let x : k ≡ 0 = cc in
    let y : same_inst t ≡ bound_inst (over_choice name is ∷ []) = sym d ∙ ap (definition_at (over_definition name is)) x in
    cc

abbrev listed_over : FullName → List ℕ → Listed
listed_over name is = record { name = name.bytes; arity = name.arity; args = is }

listed_is : (name : FullName) (is : List ℕ) (first : ℕ) (l : Listed) → IsListed (over_definition name is) first (over_choice name is) l → l ≡ listed_over name is
listed_is name is first l h =
    let a : l.args ≡ is = olds_are (over_definition name is) first is l.args h.args in
    ap (λ (x : List ℕ). record { name = x; arity = l.arity; args = l.args }) h.name
    ∙ (ap (λ (x : ℕ). record { name = name.bytes; arity = x; args = l.args }) h.arity
    ∙ ap (λ (x : List ℕ). record { name = name.bytes; arity = name.arity; args = x }) a)

written_is : (name : FullName) (is : List ℕ) (first : ℕ) (ls : List Listed) → AreListed (over_definition name is) first (over_choice name is ∷ []) ls → ls ≡ listed_over name is ∷ []
written_is name is first [] h = absurd h
written_is name is first (l ∷ []) h = ap (λ (x : Listed). x ∷ []) (listed_is name is first l h.0)
written_is name is first (l ∷ m ∷ ls) h = absurd h.1

lists_over : (name : FullName) (is : List ℕ) (first : ℕ) (N : InstNode) → ListsThese (over_definition name is) first (over_choice name is ∷ []) N → N ≡ bound (listed_over name is ∷ [])
lists_over name is first N h =
    let w : h.as_written ≡ listed_over name is ∷ [] = written_is name is first h.as_written h.are in
    let s : IsPermutation (listed_over name is ∷ []) h.listed = subst (λ (ls : List Listed). IsPermutation ls h.listed) w h.same in
    h.is ∙ ap bound (s.is ∙ unmoved (listed_over name is) s.moves s.below)

-- the node of the definition
pub defined_over : (name : FullName) (is : List ℕ) (first : ℕ) (G : Graph) (insts : List ℕ) → Defined (over_definition name is) first G insts → G (get_or insts 0 0) ≡ bound (record { name = name.bytes; arity = name.arity; args = is } ∷ [])
defined_over name is first G insts h =
    ap G (made_is name is first (New 0) (get_or insts 0 0) (h.nodes 0 (omega arith)) refl)
    ∙ lists_over name is first (G (node_made (over_definition name is) first 0)) (h.bounds 0 (over_choice name is ∷ []) (omega arith) refl)

all_there : (n m : ℕ) (is : List ℕ) → ((k : ℕ) → k < length is → get_or is k 0 < n) → AllFitThere n m (map Old is)
all_there n m [] h = tt
all_there n m (i ∷ is) h = (h 0 (omega arith), all_there n m is (λ k l. h (suc k) (omega arith)))

-- the definition may be asked for
pub over_fits : (name : FullName) (is : List ℕ) (n : ℕ) → length is ≡ name.arity → ((k : ℕ) → k < length is → get_or is k 0 < n) → DefinitionsFit n (over_definition name is)
over_fits name is n e h zero l = (length-map is Old ∙ e, all_there n 1 is h, tt, tt)
over_fits name is n e h (suc k) l = absurd (omega arith)
