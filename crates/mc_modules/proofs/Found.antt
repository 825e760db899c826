-- The fault that is found at an element of a list is that of the whole list.
use Rattle.std.specs.Prelude.{codes, ◌&&◌, not, nat_lt}
use Rattle.std.proofs.Common.{◌≡◌, ℕ, ◌<◌, ◌≤◌, suc, true, List, [], ◌∷◌, ◌++◌, length, map, drop, get_or, slice_index_or, Some, ap, sym, ◌∙◌, arith}
use Rattle.std.proofs.Math.Seq.{drop-cons}
use Rattle.mc_source.specs.declared.rule.Rule.TheVariants as R
use Rattle.mc_names.specs.declared.definition.Definition.{Definition}
use Rattle.mc_names.specs.declared.occurrence.Occurrence.{Occurrence}
use Rattle.mc_names.specs.Plain.{plain_definition, plain_occurrence, shown}
use Rattle.mc_decl_syntax.specs.Entries.{File}
use Rattle.mc_modules.specs.Files.{PlainItemInFile}
use Rattle.mc_modules.specs.Visible.{meanings, is_qualified}
use Rattle.mc_modules.specs.Faults.{is_undefined, undefined_fault, is_single, ambiguous}

pub first-undefined : (all : List PlainItemInFile) (ds : List Definition) (d : Definition) (what : List ℕ)
    → 1 ≤ length ds
    → is_undefined all (plain_definition (slice_index_or ds 0 d)).kind (plain_definition (slice_index_or ds 0 d)).id ≡ true
    → what ≡ shown (plain_definition (slice_index_or ds 0 d)).id ++ codes " has no definition"
    → Some (R.N6, what) ≡ undefined_fault all (map plain_definition ds)
first-undefined all [] d what l u w = absurd (omega arith)
first-undefined all (t ∷ ts) d what l u w = rw u (ap (λ x. Some (R.N6, x)) w)

-- where what is behind the k-th occurrence is what all of them are, and the k-th has two meanings
pub ambiguous-there : (files : List File) (own : ℕ) (us : List Occurrence) (k : ℕ) (u : Occurrence) (what : List ℕ)
    → k < length us → u ≡ get_or us k u
    → (is_single (plain_occurrence u).kind && (not (is_qualified (plain_occurrence u).qualifiers) && nat_lt 1 (meanings files own (plain_occurrence u)))) ≡ true
    → what ≡ shown (plain_occurrence u).id ++ codes " has two meanings"
    → ambiguous files own (map plain_occurrence (drop k us)) ≡ ambiguous files own (map plain_occurrence us)
    → Some (R.N8, what) ≡ ambiguous files own (map plain_occurrence us)
ambiguous-there files own us k u what l e a w behind =
    let here : Some (R.N8, what) ≡ ambiguous files own (map plain_occurrence (u ∷ drop (suc k) us)) = rw a (ap (λ x. Some (R.N8, x)) w) in
    here
    ∙ ap (λ x. ambiguous files own (map plain_occurrence (x ∷ drop (suc k) us))) e
    ∙ ap (λ x. ambiguous files own (map plain_occurrence x)) (sym (drop-cons us k u l))
    ∙ behind
