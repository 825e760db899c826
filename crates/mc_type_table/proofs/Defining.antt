-- The equivalences of a program, as they are kept.
use Rattle.std.proofs.Common.{◌≡◌, ℕ, zero, suc, ◌<◌, ◌≤◌, Bool, true, false, not, List, [], ◌∷◌, map, length, refl, sym, ap, ◌∙◌, subst, arith}
use Rattle.std.specs.Prelude.{Option, Some, None, slice_get, if◌then◌else◌}
use Rattle.std.specs.Option.{option_map}
use Rattle.std.proofs.Math.Path.{fun_ext}
use Rattle.std.proofs.lemmas.Bool.{false_from_ne_true}
use Rattle.std.proofs.lemmas.List.{length-map}
use Rattle.mc_program.specs.Programs.{TypeTerm}
use Rattle.mc_program.specs.PlainPrograms.{plain_type}
use Rattle.mc_program.specs.declared.ty.Ty.{Ty}
use Rattle.mc_components.specs.Reached.{reaches}
use Rattle.mc_components.specs.Components.{steps, NumbersComponents}
use Rattle.mc_components.proofs.Reaching.{reached_by_ways}
use Rattle.mc_components.proofs.Returning.{begins}
use Rattle.mc_names.specs.declared.names.Named.{Named}
use Rattle.mc_names.specs.declared.names.Names.{Names}
use Rattle.mc_names.specs.Linked.{Linked, plain_named, plain_names}
use Rattle.mc_type_table.specs.declared.definitions.Equivalences.{Equivalences}
use Rattle.mc_type_table.specs.Expanded.{equivalent, equivalent_of}
use Rattle.mc_type_table.specs.Rules.{types_in_body, is_cyclic, definitions}
use Rattle.mc_type_table.specs.Held.{plain_body, held}
use Rattle.mc_type_table.specs.code.Hidden.{is_hidden, not_hidden}
use Rattle.mc_type_table.specs.code.Kept.{AreEquivalences}

body_is : (o : Option Ty) → plain_body (Some o) ≡ option_map plain_type o
body_is None = refl
body_is (Some t) = refl

held_by :
    (l : Linked) (os : List (Option Ty)) (ns : List Named)
    → map (λ t. option_map plain_type t) os ≡ map (λ n. equivalent_of l (Some (plain_named n))) ns
    → (u : ℕ) → held os u ≡ equivalent_of l (slice_get (map plain_named ns) u)
held_by l [] [] same u = refl
held_by l [] (n ∷ ns) same u = cc
held_by l (o ∷ os) [] same u = cc
held_by l (o ∷ os) (n ∷ ns) same zero =
    let heads :
    (option_map plain_type o ∷ map (λ t. option_map plain_type t) os)
    ≡ (equivalent_of l (Some (plain_named n)) ∷ map (λ n. equivalent_of l (Some (plain_named n))) ns) =
    same
    in
    let head : option_map plain_type o ≡ equivalent_of l (Some (plain_named n)) = cc in
    body_is o ∙ head
held_by l (o ∷ os) (n ∷ ns) same (suc u) =
    let both :
    (option_map plain_type o ∷ map (λ t. option_map plain_type t) os)
    ≡ (equivalent_of l (Some (plain_named n)) ∷ map (λ n. equivalent_of l (Some (plain_named n))) ns) =
    same
    in
    let tail :
    map (λ t. option_map plain_type t) os ≡ map (λ n. equivalent_of l (Some (plain_named n))) ns =
    cc
    in
    held_by l os ns tail u

steps_by :
    (os : List (Option Ty)) (u : ℕ)
    → steps (map (λ t. types_in_body (option_map plain_type t)) os) u ≡ types_in_body (held os u)
steps_by [] u = refl
steps_by (o ∷ os) zero = ap types_in_body (sym (body_is o))
steps_by (o ∷ os) (suc u) = steps_by os u

pub are_equivalences :
    (n : Names) (os : List (Option Ty)) (rows : List (List ℕ)) (e : Equivalences)
    → map (λ t. option_map plain_type t) os
    ≡ map (λ d. equivalent_of (plain_names n) (Some (plain_named d))) n.types
    → rows ≡ map (λ t. types_in_body (option_map plain_type t)) os
    → e.bodies.items ≡ os → e.graph ≡ rows
    → length e.components ≡ length rows → NumbersComponents rows e.components
    → AreEquivalences (plain_names n) e
are_equivalences n os rows e same is_rows is_bodies is_graph count alike =
    let held_so : (u : ℕ) → held os u ≡ equivalent (plain_names n) u =
    held_by (plain_names n) os n.types same
    in
    record {
      bodies = λ u. ap (λ xs. held xs u) is_bodies ∙ held_so u;
      steps =
          λ u.
          ap (λ g. steps g u) (is_graph ∙ is_rows)
          ∙ steps_by os u
          ∙ ap types_in_body (held_so u);
      count =
          ap length (is_graph ∙ is_rows)
          ∙ length-map os (λ t. types_in_body (option_map plain_type t))
          ∙ sym (length-map os (λ t. option_map plain_type t))
          ∙ ap length same
          ∙ length-map n.types (λ d. equivalent_of (plain_names n) (Some (plain_named d)))
          ∙ sym (length-map n.types plain_named);
      numbered = count ∙ ap length (sym is_graph);
      alike = subst (λ g. NumbersComponents g e.components) (sym is_graph) alike;
    }

round_is :
    (l : Linked) (e : Equivalences) (u : ℕ)
    → AreEquivalences l e
    → reaches (steps e.graph) (length e.graph) u u ≡ is_cyclic l u
round_is l e u are =
    ap (λ next. reaches next (length e.graph) u u) (fun_ext are.steps)
    ∙ ap (λ n. reaches (λ k. types_in_body (equivalent l k)) n u u) are.count

pub round_within :
    (l : Linked) (e : Equivalences) (u : ℕ) (b : Bool)
    → (length e.components ≡ length e.graph → NumbersComponents e.graph e.components
    → b ≡ reaches (steps e.graph) (length e.graph) u u)
    → AreEquivalences l e → b ≡ is_cyclic l u
round_within l e u b is are = is are.numbered are.alike ∙ round_is l e u are

pub round_past :
    (l : Linked) (e : Equivalences) (u : ℕ)
    → length e.graph ≤ u → AreEquivalences l e → false ≡ is_cyclic l u
round_past l e u past are =
    sym
    (false_from_ne_true (is_cyclic l u)
    (λ r.
    let round : reaches (steps e.graph) (length e.graph) u u ≡ true = round_is l e u are ∙ r in
    let below : u < length e.graph =
    begins e.graph (length e.graph) u u
    ((reached_by_ways (steps e.graph) (length e.graph) u u).0 round)
    in
    omega arith))

pub undefined_round :
    (l : Linked) (u : ℕ) → true ≡ is_cyclic l u → None ≡ definitions l u
undefined_round l u r = ap (λ b. if not b then equivalent l u else None) r

pub defined_straight :
    (l : Linked) (e : Equivalences) (u : ℕ) (b : Bool)
    → AreEquivalences l e → b ≡ is_cyclic l u → b ≡ false
    → held e.bodies.items u ≡ definitions l u
defined_straight l e u b are is straight =
    are.bodies u ∙ ap (λ b. if not b then equivalent l u else None) (sym straight ∙ is)

pub hidden_undefined :
    (l : Linked) (hidden : List Bool) (u : ℕ) (b : Bool)
    → b ≡ is_hidden hidden u → b ≡ true → None ≡ not_hidden l hidden u
hidden_undefined l hidden u b is holds =
    ap (λ b. if not b then definitions l u else None) (sym holds ∙ is)

pub open_defined :
    (l : Linked) (hidden : List Bool) (u : ℕ) (o : Option TypeTerm) (b : Bool)
    → o ≡ definitions l u → b ≡ is_hidden hidden u → b ≡ false → o ≡ not_hidden l hidden u
open_defined l hidden u o b same is fails =
    same ∙ ap (λ b. if not b then definitions l u else None) (sym fails ∙ is)
