-- Which modules see the same definitions of types.
use Rattle.std.proofs.Common.{◌≡◌, ℕ, ◌+◌, ◌<◌, ◌≤◌, Bool, true, false, not, map, length, get_or, inl, inr, refl, sym, ap, subst, ◌∙◌, arith}
use Rattle.std.specs.Prelude.{Option, Some, None, slice_get, if◌then◌else◌}
use Rattle.std.specs.Option.{option_map}
use Rattle.std.proofs.lemmas.Bool.{cases_lt}
use Rattle.std.proofs.lemmas.List.{length-map}
use Rattle.std.proofs.lemmas.Option.{slice_get_past, slice_get-map, slice_get_read}
use Rattle.mc_program.specs.Programs.{TypeTerm}
use Rattle.mc_decl_syntax.specs.Plain.{PlainDecl, SameType, plain_item}
use Rattle.mc_names.specs.declared.names.Named.{Named}
use Rattle.mc_names.specs.declared.names.Names.{Names}
use Rattle.mc_names.specs.Linked.{Defined, Linked, plain_named, plain_names, defining_module}
use Rattle.mc_type_table.specs.Expanded.{equivalent, equivalent_by, equivalent_of}
use Rattle.mc_type_table.specs.Rules.{definitions, is_cyclic}
use Rattle.mc_type_table.specs.Visibility.{sees_definition, definitions_seen}
use Rattle.mc_type_phase.specs.code.ItemKinds.{is_equivalence}

-- what has no definition has none in any sight
no_sight :
    (s t : Bool) (o : Option TypeTerm)
    → o ≡ None → (if s then o else None) ≡ (if t then o else None)
no_sight true true o none = refl
no_sight true false o none = none
no_sight false true o none = sym none
no_sight false false o none = refl

one_sight : (s : Bool) (o : Option TypeTerm) → o ≡ None → (if s then o else None) ≡ None
one_sight true o none = none
one_sight false o none = refl

no_equivalent :
    (l : Linked) (own : ℕ) (i : PlainDecl)
    → is_equivalence i ≡ false → equivalent_by l own i ≡ None
no_equivalent l own (SameType h t) e = cc
no_equivalent l own i e = refl

undefined :
    (l : Linked) (u : ℕ) → equivalent l u ≡ None → definitions l u ≡ None
undefined l u none = one_sight (not (is_cyclic l u)) (equivalent l u) none

pub alike_other :
    (l : Linked) (own other u : ℕ) (d : Defined)
    → slice_get l.types u ≡ Some d → is_equivalence d.item ≡ false
    → definitions_seen l own u ≡ definitions_seen l other u
alike_other l own other u d is kind =
    no_sight (sees_definition l own u) (sees_definition l other u) (definitions l u)
    (undefined l u (ap (equivalent_of l) is ∙ no_equivalent l (defining_module l d) d.item kind))

pub alike_past :
    (l : Linked) (own other u : ℕ)
    → length l.types ≤ u → definitions_seen l own u ≡ definitions_seen l other u
alike_past l own other u past =
    no_sight (sees_definition l own u) (sees_definition l other u) (definitions l u)
    (undefined l u (ap (equivalent_of l) (slice_get_past l.types u past)))

pub alike_past_of :
    (n : Names) (own other u : ℕ)
    → length n.types ≤ u
    → definitions_seen (plain_names n) own u ≡ definitions_seen (plain_names n) other u
alike_past_of n own other u past =
    let count : length (map plain_named n.types) ≡ length n.types = length-map n.types plain_named in
    let far : length (map plain_named n.types) ≤ u = omega arith in
    alike_past (plain_names n) own other u far

pub alike_named :
    (n : Names) (own other u : ℕ) (d : Named)
    → u < length n.types → d ≡ get_or n.types u d → is_equivalence (plain_item d.decl) ≡ false
    → definitions_seen (plain_names n) own u ≡ definitions_seen (plain_names n) other u
alike_named n own other u d below is kind =
    let there : slice_get (map plain_named n.types) u ≡ Some (plain_named d) =
    slice_get-map plain_named n.types u
    ∙ ap (option_map plain_named) (slice_get_read n.types (length n.types) u d refl below is)
    in
    alike_other (plain_names n) own other u (plain_named d) there kind

-- the types before a number, and those before the next one
pub alike_more :
    (l : Linked) (own other k : ℕ)
    → ((u : ℕ) → u < k → definitions_seen l own u ≡ definitions_seen l other u)
    → definitions_seen l own k ≡ definitions_seen l other k
    → (u : ℕ) → u < k + 1 → definitions_seen l own u ≡ definitions_seen l other u
alike_more l own other k before here u below =
    elim (cases_lt u k) [
      | inl less ↦ before u less
      | inr past ↦
          let same : k ≡ u = omega arith in
          let Q : ℕ → Type 0 = λ n. definitions_seen l own n ≡ definitions_seen l other n in
          subst Q same here
    ]

pub alike_all :
    (n : Names) (own other k : ℕ)
    → ((u : ℕ)
    → u < k → definitions_seen (plain_names n) own u ≡ definitions_seen (plain_names n) other u)
    → length n.types ≤ k
    → (u : ℕ) → definitions_seen (plain_names n) own u ≡ definitions_seen (plain_names n) other u
alike_all n own other k before whole u =
    elim (cases_lt u k) [
      | inl less ↦ before u less
      | inr past ↦ let far : length n.types ≤ u = omega arith in alike_past_of n own other u far
    ]
