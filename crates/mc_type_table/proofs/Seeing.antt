-- What a module sees of the definitions of types.
use Rattle.std.proofs.Common.{◌≡◌, ℕ, zero, suc, ◌+◌, ◌<◌, ◌≤◌, Bool, true, false, not, List, [], ◌∷◌, map, length, get_or, inl, inr, refl, sym, ap, ◌∙◌, arith}
use Rattle.std.specs.Prelude.{Option, Some, None, nat_eq, slice_get, if◌then◌else◌}
use Rattle.std.specs.Str.{bytes_eq}
use Rattle.std.proofs.Math.Path.{fun_ext}
use Rattle.std.proofs.lemmas.Bool.{cases_lt, eqb-true, false_from_ne_true}
use Rattle.std.proofs.lemmas.List.{length-map}
use Rattle.mc_program.specs.Programs.{TypeTerm}
use Rattle.mc_names.specs.declared.names.Named.{Named}
use Rattle.mc_names.specs.declared.names.Names.{Names}
use Rattle.mc_names.specs.declared.names.Scope.{Scope}
use Rattle.mc_names.specs.Linked.{Linked, plain_named, plain_names, module_from}
use Rattle.mc_type_table.specs.Rules.{definitions}
use Rattle.mc_type_table.specs.Visibility.{sees, definitions_seen}
use Rattle.mc_type_table.specs.code.Hidden.{not_hidden}
use Rattle.mc_type_table.proofs.Expanding.{undefined_past}

not_twice : (b : Bool) → not (not b) ≡ b
not_twice true = refl
not_twice false = refl

-- what isn't hidden is seen
shown_at :
    (l : Linked) (own : ℕ) (ns : List Named) (u : ℕ)
    → u < length ns
    → not (get_or (map (λ n. not (sees l own (Some (plain_named n)))) ns) u false)
    ≡ sees l own (slice_get (map plain_named ns) u)
shown_at l own [] u below = absurd (omega arith)
shown_at l own (n ∷ ns) zero below = not_twice (sees l own (Some (plain_named n)))
shown_at l own (n ∷ ns) (suc u) below =
    let less : u < length ns = omega arith in
    shown_at l own ns u less

-- what has no definition has none in any sight
no_sight :
    (s t : Bool) (o : Option TypeTerm)
    → o ≡ None → (if s then o else None) ≡ (if t then o else None)
no_sight true true o none = refl
no_sight true false o none = none
no_sight false true o none = sym none
no_sight false false o none = refl

open_at :
    (n : Names) (own u : ℕ)
    → not_hidden (plain_names n) (map (λ d. not (sees (plain_names n) own (Some (plain_named d)))) n.types) u
    ≡ definitions_seen (plain_names n) own u
open_at n own u =
    let l = plain_names n in
    elim (cases_lt u (length n.types)) [
      | inl below ↦
          ap (λ s. if s then definitions l u else None) (shown_at l own n.types u below)
      | inr past ↦
          let count : length (map plain_named n.types) ≡ length n.types = length-map n.types plain_named in
          let far : length (map plain_named n.types) ≤ u = omega arith in
          no_sight _ _ (definitions l u) (undefined_past l u far)
    ]

pub open_is_seen :
    (n : Names) (own : ℕ) (hidden : List Bool)
    → hidden ≡ map (λ d. not (sees (plain_names n) own (Some (plain_named d)))) n.types
    → not_hidden (plain_names n) hidden ≡ definitions_seen (plain_names n) own
open_is_seen n own hidden is =
    ap (not_hidden (plain_names n)) is ∙ fun_ext (open_at n own)

from_on : (k : ℕ) (w : List ℕ) (ss : List Scope) → k ≤ module_from k w ss
from_on k w [] = omega arith
from_on k w (s ∷ ss) =
    elim (bytes_eq s.«module» w) as (λ b. k ≤ (if b then k else module_from (k + 1) w ss)) [
      | true ↦ omega arith
      | false ↦ let more = from_on (k + 1) w ss in omega arith
    ]

first_by :
    (b : Bool) (k i n : ℕ)
    → (n ≡ (k + 1) + i → ⊥) → (if b then k else n) ≡ k + suc i → ⊥
first_by true k i n other is = omega arith
first_by false k i n other is =
    let later : n ≡ (k + 1) + i = omega arith in
    other later

-- a module of another name isn't the first of a name
not_first :
    (k i : ℕ) (w : List ℕ) (ss : List Scope) (s : Scope)
    → slice_get ss i ≡ Some s → bytes_eq s.«module» w ≡ false
    → module_from k w ss ≡ k + i → ⊥
not_first k i w [] s there other is = absurd (let clash : None ≡ Some s = there in cc)
not_first k zero w (x ∷ ss) s there other is =
    let same : x ≡ s = cc in
    let rest : module_from k w (x ∷ ss) ≡ module_from (k + 1) w ss =
    ap (λ (y : Scope). if bytes_eq y.«module» w then k else module_from (k + 1) w ss) same
    ∙ ap (λ b. if b then k else module_from (k + 1) w ss) other
    in
    let more = from_on (k + 1) w ss in
    omega arith
not_first k (suc i) w (x ∷ ss) s there other is =
    first_by (bytes_eq x.«module» w) k i (module_from (k + 1) w ss)
    (not_first (k + 1) i w ss s there other) is

pub named_otherwise :
    (own : ℕ) (w : List ℕ) (ss : List Scope) (s : Scope) (b : Bool)
    → slice_get ss own ≡ Some s → b ≡ bytes_eq s.«module» w → b ≡ false
    → nat_eq own (module_from 0 w ss) ≡ false
named_otherwise own w ss s b there is fails =
    false_from_ne_true (nat_eq own (module_from 0 w ss))
    (λ e.
    let same : own ≡ module_from 0 w ss = eqb-true own (module_from 0 w ss) e in
    let here : module_from 0 w ss ≡ 0 + own = omega arith in
    not_first 0 own w ss s there (sym is ∙ fails) here)
