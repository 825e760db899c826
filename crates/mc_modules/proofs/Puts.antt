-- Definitions that are put in one list after another.
use Rattle.std.proofs.Common.{◌≡◌, ℕ, ◌+◌, ◌<◌, List, [], ◌∷◌, ◌++◌, length, get_or, drop, refl, ap, sym, ◌∙◌, drop-cons, add-one, append_assoc}
use Rattle.mc_names.specs.Plain.{PlainDefinition}
use Rattle.mc_defs_uses.specs.Sets.{put_all}
use Rattle.mc_modules.proofs.Tables.{put_all-append}

-- what is left of a list at a place is the element there and what is left behind it
pub drop_item : {A : Type 0} (xs : List A) (i : ℕ) (x : A) → i < length xs → x ≡ get_or xs i x → drop i xs ≡ x ∷ drop (i + 1) xs
drop_item xs i x h e = drop-cons xs i x h ∙ rw (add-one, ← e) refl

-- one list more
pub put_more : (ts now us vs all : List PlainDefinition) → now ≡ put_all ts us → put_all ts (us ++ vs) ≡ all → put_all now vs ≡ all
put_more ts now us vs all e h = ap (λ xs. put_all xs vs) e ∙ sym (put_all-append ts us vs) ∙ h

-- an element goes from what is left to what is done
pub moved : {A : Type 0} (now old : List A) (x : A) (left rest all : List A) → now ≡ old ++ x ∷ [] → left ≡ x ∷ rest → old ++ left ≡ all → now ++ rest ≡ all
moved now old x left rest all e l h = ap (λ zs. zs ++ rest) e ∙ append_assoc old (x ∷ []) rest ∙ sym (ap (λ zs. old ++ zs) l) ∙ h
