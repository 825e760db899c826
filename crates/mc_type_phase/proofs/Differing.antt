-- Where two resolutions differ, and which candidate has a number, step by step.
use Rattle.std.proofs.Common.{◌≡◌, ℕ, ◌+◌, ◌<◌, ◌≤◌, Bool, true, false, List, Some, None, length, get_or, drop, sym, ap, ap₂, ◌∙◌}
use Rattle.std.specs.Prelude.{Option, if◌then◌else◌}
use Rattle.std.proofs.lemmas.List.{at_drop_more, drop_more, drop_all}
use Rattle.mc_source.specs.declared.name.Candidate.{Candidate}
use Rattle.mc_names.specs.declared.definition.Kind.{Kind}
use Rattle.mc_type_phase.specs.Typing.{same_candidate, first_difference, number_among}
use Rattle.mc_type_phase.specs.code.Adding.{number_as}
use Rattle.mc_type_phase.proofs.Entries.{first_number, other_number}

opened :
    (first second : List Candidate) (i : ℕ) (d e : Candidate)
    → i < length first → i < length second
    → first_difference (drop i first) (drop i second)
    ≡ (if same_candidate (get_or first i d) (get_or second i e)
    then first_difference (drop (i + 1) first) (drop (i + 1) second)
    else Some (get_or first i d, get_or second i e))
opened first second i d e below within =
    ap₂ first_difference (drop_more first i d below) (drop_more second i e within)

pub differ_here :
    (first second : List Candidate) (i : ℕ) (d e : Candidate) (all : Option (Candidate × Candidate))
    → i < length first → i < length second
    → same_candidate (get_or first i d) (get_or second i e) ≡ false
    → first_difference (drop i first) (drop i second) ≡ all
    → Some (get_or first i d, get_or second i e) ≡ all
differ_here first second i d e all below within is so =
    sym
    (opened first second i d e below within
    ∙ ap
    (λ (b : Bool).
    if b then first_difference (drop (i + 1) first) (drop (i + 1) second)
    else Some (get_or first i d, get_or second i e)) is)
    ∙ so

pub differ_later :
    (first second : List Candidate) (i : ℕ) (d e : Candidate) (all : Option (Candidate × Candidate))
    → i < length first → i < length second
    → same_candidate (get_or first i d) (get_or second i e) ≡ true
    → first_difference (drop i first) (drop i second) ≡ all
    → first_difference (drop (i + 1) first) (drop (i + 1) second) ≡ all
differ_later first second i d e all below within is so =
    sym
    (opened first second i d e below within
    ∙ ap
    (λ (b : Bool).
    if b then first_difference (drop (i + 1) first) (drop (i + 1) second)
    else Some (get_or first i d, get_or second i e)) is)
    ∙ so

pub differ_no_more :
    (first second : List Candidate) (i : ℕ) (d : Candidate) (all : Option (Candidate × Candidate))
    → i < length first → length second ≤ i
    → first_difference (drop i first) (drop i second) ≡ all
    → None ≡ all
differ_no_more first second i d all below past so =
    sym (ap₂ first_difference (drop_more first i d below) (drop_all i second past)) ∙ so

pub number_here :
    (k : Kind) (cs : List Candidate) (i : ℕ) (d : Candidate) (p : ℕ) (all : Option ℕ)
    → i < length cs → number_as k (get_or cs i d) ≡ Some p
    → number_among k (drop i cs) ≡ all → Some p ≡ all
number_here k cs i d p all below is so =
    sym
    (at_drop_more (number_among k) cs i d below
    ∙ first_number k (get_or cs i d) (drop (i + 1) cs) p is)
    ∙ so

pub number_later :
    (k : Kind) (cs : List Candidate) (i : ℕ) (d : Candidate) (all : Option ℕ)
    → i < length cs → number_as k (get_or cs i d) ≡ None
    → number_among k (drop i cs) ≡ all → number_among k (drop (i + 1) cs) ≡ all
number_later k cs i d all below is so =
    sym
    (at_drop_more (number_among k) cs i d below
    ∙ other_number k (get_or cs i d) (drop (i + 1) cs) is)
    ∙ so
