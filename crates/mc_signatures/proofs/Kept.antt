-- What is kept of the definitions of insts and modes.
use Rattle.std.proofs.Common.{◌≡◌, ℕ, zero, suc, ◌<◌, List, [], ◌∷◌, map, length, get_or, refl, sym, ap, ◌∙◌, arith}
use Rattle.std.specs.Prelude.{Option, Some, slice_get, slice_index_or}
use Rattle.std.specs.Option.{option_map}
use Rattle.mc_names.specs.declared.names.Named.{Named}
use Rattle.mc_names.specs.declared.names.Names.{Names}
use Rattle.mc_names.specs.Linked.{Defined, Linked, plain_named, plain_names}
use Rattle.mc_inst_table.specs.declared.inst.Mode.{Mode}
use Rattle.mc_inst_table.specs.declared.inst.Inst.{Inst}
use Rattle.mc_signatures.specs.code.Rows.{BodiesAre}
use Rattle.mc_inst_table.specs.Plain.{plain_inst, plain_mode}
use Rattle.mc_inst_table.specs.Rules.{inst_body_of, inst_bodies}
use Rattle.mc_signatures.specs.declared.meant.Definitions.{Definitions}
use Rattle.mc_signatures.specs.MeantModes.{mode_body_of, mode_bodies}
use Rattle.mc_signatures.specs.code.Definitions.{AreDefinitions}

each_named :
    {A : Type 0} (f : Defined → A) (ns : List Named) → map (λ n. f (plain_named n)) ns ≡ map f (map plain_named ns)
each_named f [] = refl
each_named f (n ∷ ns) = ap (λ rest. f (plain_named n) ∷ rest) (each_named f ns)

pub are_definitions :
    (n : Names) (is : List Inst) (ms : List (Option Mode)) (s : Definitions)
    → map plain_inst is ≡ map (λ d. inst_body_of (plain_names n) (Some (plain_named d))) n.insts
    → map (option_map plain_mode) ms ≡ map (λ d. mode_body_of (plain_names n) (Some (plain_named d))) n.modes
    → s.insts ≡ is → s.modes.items ≡ ms → AreDefinitions (plain_names n) s
are_definitions n is ms s insts bodies is_insts is_modes =
    record {
      insts =
          ap (map plain_inst) is_insts ∙ insts
          ∙ each_named (λ d. inst_body_of (plain_names n) (Some d)) n.insts;
      modes =
          ap (map (option_map plain_mode)) is_modes ∙ bodies
          ∙ each_named (λ d. mode_body_of (plain_names n) (Some d)) n.modes;
    }

body_at :
    (l : Linked) (ms : List (Option Mode)) (ds : List Defined) (k : ℕ) (x : Option Mode) (m : Mode)
    → map (option_map plain_mode) ms ≡ map (λ d. mode_body_of l (Some d)) ds
    → k < length ms → x ≡ get_or ms k x → x ≡ Some m → mode_body_of l (slice_get ds k) ≡ Some (plain_mode m)
body_at l [] ds k x m same below at is = absurd (let h : k < 0 = below in omega arith)
body_at l (y ∷ ms) [] k x m same below at is = cc
body_at l (y ∷ ms) (d ∷ ds) zero x m same below at is =
    let first : option_map plain_mode y ≡ mode_body_of l (Some d) = cc in
    sym first ∙ ap (option_map plain_mode) (sym at ∙ is)
body_at l (y ∷ ms) (d ∷ ds) (suc k) x m same below at is =
    let rest : map (option_map plain_mode) ms ≡ map (λ d. mode_body_of l (Some d)) ds = cc in
    let h : suc k < suc (length ms) = below in
    let less : k < length ms = omega arith in
    body_at l ms ds k x m rest less at is

pub body_known :
    (s : Definitions) (k : ℕ) (x : Option Mode) (m : Mode)
    → k < length s.modes.items → x ≡ get_or s.modes.items k x → x ≡ Some m
    → (l : Linked) → AreDefinitions l s → mode_bodies l k ≡ Some (plain_mode m)
body_known s k x m below at is l are = body_at l s.modes.items l.modes k x m are.modes below at is

-- the bodies of inst definitions are kept
inst_at :
    (l : Linked) (is : List Inst) (ds : List Defined) (k : ℕ) (i : Inst)
    → map plain_inst is ≡ map (λ d. inst_body_of l (Some d)) ds
    → k < length is → i ≡ slice_index_or is k i → inst_body_of l (slice_get ds k) ≡ plain_inst i
inst_at l [] ds k i same below at = absurd (let h : k < 0 = below in omega arith)
inst_at l (y ∷ is) [] k i same below at = cc
inst_at l (y ∷ is) (d ∷ ds) zero i same below at =
    let first : plain_inst y ≡ inst_body_of l (Some d) = cc in
    sym first ∙ ap plain_inst (sym at)
inst_at l (y ∷ is) (d ∷ ds) (suc k) i same below at =
    let rest : map plain_inst is ≡ map (λ d. inst_body_of l (Some d)) ds = cc in
    let h : suc k < suc (length is) = below in
    let less : k < length is = omega arith in
    inst_at l is ds k i rest less at

pub bodies_are : (l : Linked) (s : Definitions) → AreDefinitions l s → BodiesAre (inst_bodies l) s.insts
bodies_are l s are k i below at = inst_at l s.insts l.insts k i are.insts below at
