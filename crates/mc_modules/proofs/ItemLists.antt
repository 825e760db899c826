-- The items of a file as they stand, one more at a time.
use Rattle.std.proofs.Common.{◌≡◌, ℕ, zero, suc, ◌+◌, ◌<◌, nat_eq, false, List, [], ◌∷◌, ◌++◌, map, drop, length, get_or, refl, ap, sym, ◌∙◌, arith, add-one, drop-cons, append_assoc}
use Rattle.std.proofs.Math.Dec.{eqb-suc-zero, eqb-zero-suc, eqb-suc-suc}
use Rattle.mc_decl_syntax.specs.Plain.{plain_item}
use Rattle.mc_decl_syntax.specs.declared.entry.Entry.{Entry}
use Rattle.mc_decl_syntax.specs.Entries.{plain_entry}
use Rattle.mc_modules.specs.declared.section.Section.{Section}
use Rattle.mc_modules.specs.Files.{PlainItemInFile, items_in_file_from, section_after, is_empty}

none_left : (k : ℕ) (es : List Entry) → k < length es → is_empty (map plain_entry (drop (suc k) es)) ≡ nat_eq (suc k) (length es)
none_left k [] h = absurd (omega arith)
none_left zero (e ∷ []) h = refl
none_left zero (e ∷ (f ∷ es)) h = sym (eqb-suc-suc 0 (suc (length es)) ∙ eqb-zero-suc (length es))
none_left (suc k) (e ∷ es) h = none_left k es (omega arith) ∙ sym (eqb-suc-suc (suc k) (length es))

abbrev pub stood : List Entry → ℕ → Entry → Section → PlainItemInFile
stood es k e s = record { item = plain_item e.decl; at = e.at; section = s; is_first = nat_eq k 0; is_last = nat_eq (k + 1) (length es) }

pub items-more : (es : List Entry) (k : ℕ) (e : Entry) (s then : Section) (all more total : List PlainItemInFile) → k < length es → e ≡ get_or es k e → more ≡ all ++ stood es k e s ∷ []
    → then ≡ section_after s (plain_item e.decl)
    → all ++ items_in_file_from (nat_eq k 0) s (map plain_entry (drop k es)) ≡ total
    → more ++ items_in_file_from (nat_eq (k + 1) 0) then (map plain_entry (drop (k + 1) es)) ≡ total
items-more es k e s then all more total l q p r h =
    let d : drop k es ≡ e ∷ drop (k + 1) es = rw add-one (drop-cons es k e l ∙ ap (λ x. x ∷ drop (suc k) es) (sym q)) in
    let f : is_empty (map plain_entry (drop (k + 1) es)) ≡ nat_eq (k + 1) (length es) = rw add-one (none_left k es l) in
    let g : nat_eq (k + 1) 0 ≡ false = rw add-one (eqb-suc-zero k) in
    rw (p, append_assoc, g, r, ← f) (sym (ap (λ fs. all ++ items_in_file_from (nat_eq k 0) s (map plain_entry fs)) d) ∙ h)
