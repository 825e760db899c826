-- The inst definitions of a program, as they are kept.
use Rattle.std.proofs.Common.{◌≡◌, ◌↔◌, ℕ, zero, suc, ◌<◌, ◌≤◌, Bool, true, false, List, [], ◌∷◌, map, length, refl, sym, ap, ◌∙◌, subst, arith}
use Rattle.std.specs.Prelude.{Option, Some, None, slice_get}
use Rattle.std.proofs.Math.Path.{fun_ext}
use Rattle.mc_accepted.specs.InstRules.{InstTerm, Bodies, ComesBack}
use Rattle.mc_components.specs.Reached.{reaches}
use Rattle.mc_components.specs.Components.{steps, NumbersComponents}
use Rattle.mc_names.specs.declared.names.Named.{Named}
use Rattle.mc_names.specs.declared.names.Names.{Names}
use Rattle.mc_names.specs.Linked.{Linked, plain_named, plain_names}
use Rattle.mc_inst_table.specs.declared.inst.Inst.{Inst}
use Rattle.mc_inst_table.specs.declared.heads.Head.{Head}
use Rattle.mc_inst_table.specs.declared.rings.InstDefinitions.{InstDefinitions}
use Rattle.mc_inst_table.specs.Plain.{plain_inst, plain_insts}
use Rattle.mc_inst_table.specs.Rules.{inst_body_of, inst_bodies, body_or_none, OnePutsFreeInside}
use Rattle.mc_inst_table.specs.code.Ends.{IsFull, head_at, AreFull, AreNeeds, AreHeads, AreSettled, bodies_of}
use Rattle.mc_inst_table.specs.code.Insides.{inside_at, all_put_ends, AreInside, AreClosed, has_free_end}
use Rattle.mc_inst_table.specs.code.Passed.{passed}
use Rattle.mc_inst_table.specs.code.Known.{AreDefinitions}
use Rattle.mc_inst_table.proofs.Parameters.{free_among}
use Rattle.mc_inst_table.proofs.PuttingInside.{free_told}
use Rattle.mc_inst_table.proofs.Passing.{back_by_graph, past_comes_back}

each_body :
    (l : Linked) (ns : List Named) (d : ℕ)
    → body_or_none (slice_get (map (λ n. inst_body_of l (Some (plain_named n))) ns) d)
    ≡ inst_body_of l (slice_get (map plain_named ns) d)
each_body l [] d = refl
each_body l (n ∷ ns) zero = refl
each_body l (n ∷ ns) (suc d) = each_body l ns d

pub bodies_by :
    (l : Linked) (is : List Inst) (ns : List Named)
    → map plain_inst is ≡ map (λ n. inst_body_of l (Some (plain_named n))) ns
    → (d : ℕ) → bodies_of is d ≡ inst_body_of l (slice_get (map plain_named ns) d)
bodies_by l is ns same d = ap (λ ts. body_or_none (slice_get ts d)) same ∙ each_body l ns d

rows_by :
    (heads : ℕ → Head) (is : List Inst) (d : ℕ)
    → steps (map (λ i. passed heads (plain_inst i)) is) d ≡ passed heads (bodies_of is d)
rows_by heads [] d = refl
rows_by heads (i ∷ is) zero = refl
rows_by heads (i ∷ is) (suc d) = rows_by heads is d

pub are_definitions :
    (n : Names) (is : List Inst) (ns : List ℕ) (hs : List Head) (ins rows : List (List ℕ)) (s : InstDefinitions)
    → map plain_inst is ≡ map (λ d. inst_body_of (plain_names n) (Some (plain_named d))) n.insts
    → ((d : ℕ) → IsFull (bodies_of is) (bodies_of is d))
    → AreNeeds (bodies_of is) ns → AreHeads (bodies_of is) hs → AreSettled (bodies_of is) hs
    → AreInside (bodies_of is) ins → AreClosed (bodies_of is) (head_at hs) ins
    → rows ≡ map (λ i. passed (head_at hs) (plain_inst i)) is
    → s.bodies ≡ is → s.needs.items ≡ ns → s.heads ≡ hs → s.inside ≡ ins → s.graph ≡ rows
    → length s.components ≡ length rows → NumbersComponents rows s.components
    → AreDefinitions (plain_names n) s
are_definitions n is ns hs ins rows s bodies full needs heads settled inside closed passes is_bodies is_needs is_heads is_inside is_graph count alike =
    record {
      bodies = λ d. ap (λ bs. bodies_of bs d) is_bodies ∙ bodies_by (plain_names n) is n.insts bodies d;
      full = subst (λ bs. (d : ℕ) → IsFull (bodies_of bs) (bodies_of bs d)) (sym is_bodies) full;
      needs = subst (λ bs. AreNeeds (bodies_of bs) s.needs.items) (sym is_bodies)
          (subst (AreNeeds (bodies_of is)) (sym is_needs) needs);
      heads = subst (λ bs. AreHeads (bodies_of bs) s.heads) (sym is_bodies)
          (subst (AreHeads (bodies_of is)) (sym is_heads) heads);
      settled = subst (λ bs. AreSettled (bodies_of bs) s.heads) (sym is_bodies)
          (subst (AreSettled (bodies_of is)) (sym is_heads) settled);
      inside = subst (λ bs. AreInside (bodies_of bs) s.inside) (sym is_bodies)
          (subst (AreInside (bodies_of is)) (sym is_inside) inside);
      closed = subst (λ bs. AreClosed (bodies_of bs) (head_at s.heads) s.inside) (sym is_bodies)
          (subst (λ us. AreClosed (bodies_of is) (head_at us) s.inside) (sym is_heads)
          (subst (AreClosed (bodies_of is) (head_at hs)) (sym is_inside) closed));
      passes = λ d.
          ap (λ g. steps g d) (is_graph ∙ passes)
          ∙ rows_by (head_at hs) is d
          ∙ ap (λ (us : List Head). passed (head_at us) (bodies_of is d)) (sym is_heads)
          ∙ ap (λ (bs : List Inst). passed (head_at s.heads) (bodies_of bs d)) (sym is_bodies);
      numbered = count ∙ ap length (sym is_graph);
      alike = subst (λ g. NumbersComponents g s.components) (sym is_graph) alike;
    }

pub back_within :
    (l : Linked) (s : InstDefinitions) (d : ℕ) (b : Bool)
    → (length s.components ≡ length s.graph → NumbersComponents s.graph s.components
    → b ≡ reaches (steps s.graph) (length s.graph) d d)
    → AreDefinitions l s → (b ≡ true) ↔ ComesBack (inst_bodies l) d
back_within l s d b is are =
    let same : bodies_of s.bodies ≡ inst_bodies l = fun_ext are.bodies in
    subst (λ (body : Bodies). (b ≡ true) ↔ ComesBack body d) same
    (back_by_graph (bodies_of s.bodies) are.full s.heads are.heads are.settled s.graph are.passes d b
    (is are.numbered are.alike))

pub back_past :
    (l : Linked) (s : InstDefinitions) (d : ℕ)
    → length s.graph ≤ d → AreDefinitions l s → (false ≡ true) ↔ ComesBack (inst_bodies l) d
back_past l s d past are =
    let same : bodies_of s.bodies ≡ inst_bodies l = fun_ext are.bodies in
    subst (λ (body : Bodies). (false ≡ true) ↔ ComesBack body d) same (
      λ h. cc,
      λ back.
          absurd
          (past_comes_back (bodies_of s.bodies) are.full s.heads are.heads are.settled s.graph are.passes d past back),
    )

pub free_known :
    (l : Linked) (s : InstDefinitions) (is : List Inst) (b : Bool)
    → ((body : Bodies) → AreNeeds body s.needs.items → AreFull body (plain_insts is))
    → b ≡ has_free_end (all_put_ends (head_at s.heads) (inside_at s.inside) (plain_insts is))
    → AreDefinitions l s → (b ≡ true) ↔ OnePutsFreeInside (inst_bodies l) (plain_insts is)
free_known l s is b full found are =
    let same : bodies_of s.bodies ≡ inst_bodies l = fun_ext are.bodies in
    let told =
    free_told (bodies_of s.bodies) are.full s.heads are.heads s.inside are.inside are.settled are.closed
    (plain_insts is) (full (bodies_of s.bodies) are.needs)
    in
    let among = free_among (all_put_ends (head_at s.heads) (inside_at s.inside) (plain_insts is)) in
    subst (λ (body : Bodies). (b ≡ true) ↔ OnePutsFreeInside body (plain_insts is)) same
    (λ h. told.0 (among.0 (sym found ∙ h)), λ m. found ∙ among.1 (told.1 m))
