-- What is known of a file where the items up to a place are read.
use Rattle.std.proofs.Common.{◌≡◌, ◌≢◌, inr, ℕ, ◌≤◌, List, [], ◌∷◌, ◌++◌, map, length, Option, None, Result, Ok, Err, refl, sym, ap, ◌∙◌, subst}
use Rattle.std.proofs.lemmas.List.{append_assoc, append-nil}
use Rattle.mc_source.specs.declared.place.Place.{Place}
use Rattle.mc_source.specs.declared.rule.Broken.{Broken}
use Rattle.mc_terms.specs.Answers.{IsOver}
use Rattle.mc_decl_syntax.specs.Plain.{PlainDecl}
use Rattle.mc_decl_syntax.specs.declared.entry.Entry.{Entry}
use Rattle.std.specs.Prelude.{IfOk, IfErr, IfNone}
use Rattle.mc_decl_syntax.specs.declared.entry.ItemsFault.{ItemsFault}
use Rattle.mc_decl_syntax.specs.declared.entry.ItemsFault.TheVariants as I
use Rattle.mc_items.specs.declared.next.Next.{Next}
use Rattle.mc_items.specs.Verdicts.{PlainVerdict, kept, breaks}
use Rattle.mc_items.specs.Files.{IsItem, Items, over, item, kept_in, broken_in, IsWhole, IsFaulty, IsRefusal, greatest_text}
use Rattle.mc_decl_syntax.specs.Entries.{plain_entry}
use Rattle.mc_items.specs.code.Faults.{IsBrokenIn}

pub kept_append : (file : ℕ) (vs ws : List (PlainVerdict × ℕ)) → kept_in file (vs ++ ws) ≡ kept_in file vs ++ kept_in file ws
kept_append file [] ws = refl
kept_append file ((kept i, line) ∷ vs) ws = ap (λ es. (i, record { file = file; line = line }) ∷ es) (kept_append file vs ws)
kept_append file ((breaks r w, line) ∷ vs) ws = kept_append file vs ws

pub broken_append : (file : ℕ) (vs ws : List (PlainVerdict × ℕ)) → broken_in file (vs ++ ws) ≡ broken_in file vs ++ broken_in file ws
broken_append file [] ws = refl
broken_append file ((kept i, line) ∷ vs) ws = broken_append file vs ws
broken_append file ((breaks r w, line) ∷ vs) ws = ap (λ bs. record { rule = r; at = record { file = file; line = line }; what = w } ∷ bs) (broken_append file vs ws)

-- The items up to a place: those from the place on complete them.
pub record Done (file : ℕ) (text : List ℕ) (at : ℕ) (entries : List (PlainDecl × Place)) (broken : List Broken) : Type 0 where
  pub verdicts : List (PlainVerdict × ℕ)
  pub leads : (vs : List (PlainVerdict × ℕ)) → Items text at vs → Items text 0 (verdicts ++ vs)
  pub kept_so_far : entries ≡ kept_in file verdicts
  pub broken_so_far : broken ≡ broken_in file verdicts

pub nothing_done : (file : ℕ) (text : List ℕ) → Done file text 0 [] []
nothing_done file text = record { verdicts = []; leads = λ vs d. d; kept_so_far = refl; broken_so_far = refl }

-- behind one more item
pub one_more : (file : ℕ) (text : List ℕ) (at line next : ℕ) (v : PlainVerdict) (es fs : List (PlainDecl × Place)) (bs cs : List Broken) → Done file text at es bs → IsItem text at v line next
    → fs ≡ es ++ kept_in file ((v, line) ∷ []) → cs ≡ bs ++ broken_in file ((v, line) ∷ []) → Done file text next fs cs
one_more file text at line next v es fs bs cs d i e b = record {
  verdicts = d.verdicts ++ (v, line) ∷ [];
  leads = λ vs rest. subst (Items text 0) (sym (append_assoc d.verdicts ((v, line) ∷ []) vs)) (d.leads ((v, line) ∷ vs) (item i rest));
  kept_so_far = e ∙ ap (λ xs. xs ++ kept_in file ((v, line) ∷ [])) d.kept_so_far ∙ sym (kept_append file d.verdicts ((v, line) ∷ []));
  broken_so_far = b ∙ ap (λ xs. xs ++ broken_in file ((v, line) ∷ [])) d.broken_so_far ∙ sym (broken_append file d.verdicts ((v, line) ∷ []));
}

-- at the end of the text
pub whole : (file : ℕ) (text : List ℕ) (at : ℕ) (entries : List Entry) (bs : List Broken) → length text ≤ greatest_text → Done file text at (map plain_entry entries) bs → IsOver text at → bs ≡ [] → IsWhole file text entries
whole file text at entries bs short d o e = record {
  short = short;
  verdicts = d.verdicts;
  items = subst (Items text 0) (append-nil d.verdicts) (d.leads [] (over o));
  all = d.kept_so_far;
  sound = sym d.broken_so_far ∙ e;
}

pub faulty : (file : ℕ) (text : List ℕ) (at : ℕ) (es : List (PlainDecl × Place)) (bs cs : List Broken) → length text ≤ greatest_text → Done file text at es bs → IsOver text at → cs ≡ bs → cs ≢ [] → IsFaulty file text cs
faulty file text at es bs cs short d o e n = record {
  short = short;
  verdicts = d.verdicts;
  items = subst (Items text 0) (append-nil d.verdicts) (d.leads [] (over o));
  all = e ∙ d.broken_so_far;
  some = n;
}

-- the answer at the end of the text, where no rule is broken
pub answered : (file : ℕ) (text walk : List ℕ) (at : ℕ) (entries : List Entry) (bs : List Broken) (o : Option Next) (r : Result (List Entry) ItemsFault) → length text ≤ greatest_text → walk ≡ text → Done file text at (map plain_entry entries) bs
    → IfNone o (IsOver walk at) → o ≡ None → IfOk r (λ es. (es ≡ entries) × (bs ≡ [])) → IfOk r (IsWhole file text)
answered file text walk at entries bs o (Ok es) short same d e n i =
    subst (IsWhole file text) (sym i.0)
    (whole file text at entries bs short d (subst (λ t. IsOver t at) same (subst (λ o. IfNone o (IsOver walk at)) n e)) i.1)
answered file text walk at entries bs o (Err f) short same d e n i = i

-- the answer there where rules are broken
pub refusal : (file : ℕ) (text walk : List ℕ) (at : ℕ) (entries : List Entry) (bs : List Broken) (o : Option Next) (r : Result (List Entry) ItemsFault) → length text ≤ greatest_text → walk ≡ text → Done file text at (map plain_entry entries) bs
    → IfNone o (IsOver walk at) → o ≡ None → IfErr r (IsBrokenIn bs) → IfErr r (IsRefusal file text)
refusal file text walk at entries bs o (Err (I.Broken cs)) short same d e n i =
    inr (faulty file text at (map plain_entry entries) bs cs short d (subst (λ t. IsOver t at) same (subst (λ o. IfNone o (IsOver walk at)) n e)) i.0 i.1)
refusal file text walk at entries bs o (Err I.Memory) short same d e n i = i
refusal file text walk at entries bs o (Ok es) short same d e n i = i

-- one more item, as the walk answers it
pub one_more_at : (file : ℕ) (text walk : List ℕ) (at line next : ℕ) (v : PlainVerdict) (es fs : List (PlainDecl × Place)) (bs cs : List Broken) → walk ≡ text → Done file text at es bs → IsItem walk at v line next
    → fs ≡ es ++ kept_in file ((v, line) ∷ []) → cs ≡ bs ++ broken_in file ((v, line) ∷ []) → Done file text next fs cs
one_more_at file text walk at line next v es fs bs cs same d i e b = one_more file text at line next v es fs bs cs d (subst (λ t. IsItem t at v line next) same i) e b
