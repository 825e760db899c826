-- What is told of items, one after another, and of the definitions of insts.
use Rattle.std.proofs.Common.{◌≡◌, ◌⊎◌, ◌↔◌, inl, inr, ℕ, zero, suc, ◌+◌, ◌<◌, ◌≤◌, Bool, true, false, ◌&&◌, ◌||◌, nat_eq, List, [], ◌∷◌, ◌++◌, map, length, get_or, take, slice_get, append_assoc, append-nil, refl, sym, ap, ◌∙◌, subst, arith, eqb-true}
use Rattle.std.specs.Prelude.{Option, Some, None, if◌then◌else◌}
use Rattle.std.proofs.lemmas.List.{take_more}
use Rattle.mc_source.specs.declared.place.Place.{Place}
use Rattle.mc_source.specs.declared.rule.Broken.{Broken}
use Rattle.mc_source.specs.Rules.{Fault, broken_at}
use Rattle.mc_decl_syntax.specs.Plain.{PlainDecl}
use Rattle.mc_names.specs.Plain.{PlainNameArity, id, is_name_arity, shown}
use Rattle.std.specs.Str.{bytes_eq}
use Rattle.mc_decl_syntax.specs.declared.entry.Entry.{Entry}
use Rattle.mc_decl_syntax.specs.Entries.{plain_entry, File, plain_files}
use Rattle.mc_names.specs.Linked.{Defined, Linked}
use Rattle.mc_names.specs.Numbers.{numbers_where}
use Rattle.mc_names.specs.Candidates.{type_fits, is_module, fits}
use Rattle.mc_accepted.specs.InstRules.{InstTerm, bound_over, InstTerms, no_insts, Bodies, Mentions, Reaches, in_body, in_body_of, ComesBack, ReachesOthers, NotWellFounded, free_inside, not_well_founded}
use Rattle.mc_inst_table.specs.declared.inst.Inst.{Inst}
use Rattle.mc_inst_table.specs.Plain.{plain_insts}
use Rattle.mc_inst_table.specs.Written.{numbers_among, first_or}
use Rattle.mc_inst_table.specs.Rules.{inst_body_of, inst_bodies, own_number, InstItem, module_items, items_from, item_name, insts_written, OnePutsFreeInside, IsUnfounded, HasFreeInside, InstSays, has_free, unfounded, is_sound, AreInstFaults, no_item, item_then}
use Rattle.mc_inst_table.specs.code.Others.{arity_of, inst_arity}
use Rattle.mc_inst_table.specs.code.Faults.{FoundedSays, AddsFaults}

-- LISTS OF WHAT IS TOLD

faults_both :
    (l : Linked) {xs ys : List InstItem} {bs cs : List Broken}
    → AreInstFaults l xs bs → AreInstFaults l ys cs → AreInstFaults l (xs ++ ys) (bs ++ cs)
faults_both l no_item more = more
faults_both l {ys = ys} {cs = cs} (item_then {i = i} {is = is} {f = f} {bs = bs} says rest) more =
    subst (λ all. AreInstFaults l (i ∷ (is ++ ys)) all) (sym (append_assoc (broken_at i.at f) bs cs))
    (item_then says (faults_both l rest more))

pub adds_both :
    (l : Linked) (xs ys : List InstItem) (before between behind : List Broken)
    → AddsFaults l xs before between → AddsFaults l ys between behind → AddsFaults l (xs ++ ys) before behind
adds_both l xs ys before between behind a b = (
  a.0 ++ b.0,
  faults_both l a.1 b.1,
  b.2 ∙ ap (λ all. all ++ b.0) a.2 ∙ append_assoc before a.0 b.0,
)

pub adds_none : (l : Linked) (before : List Broken) → AddsFaults l [] before before
adds_none l before = ([], no_item, sym (append-nil before))

pub adds_one :
    (l : Linked) (own : ℕ) (e : PlainDecl × Place) (f : Option Fault) (before behind : List Broken)
    → InstSays l (record { own = own; item = e.0; at = e.1 }) f → behind ≡ before ++ broken_at e.1 f
    → AddsFaults l (module_items own (e ∷ [])) before behind
adds_one l own e f before behind says is = (
  broken_at e.1 f ++ [],
  item_then says no_item,
  is ∙ ap (λ bs. before ++ bs) (sym (append-nil (broken_at e.1 f))),
)

module_more : (own : ℕ) (es fs : File) → module_items own (es ++ fs) ≡ module_items own es ++ module_items own fs
module_more own [] fs = refl
module_more own ((i, place) ∷ es) fs =
    ap (λ is. record { own = own; item = i; at = place } ∷ is) (module_more own es fs)

plain_more : (es : List Entry) (e : Entry) → map plain_entry (es ++ e ∷ []) ≡ map plain_entry es ++ (plain_entry e ∷ [])
plain_more [] e = refl
plain_more (x ∷ es) e = ap (λ us. plain_entry x ∷ us) (plain_more es e)

pub entry_more :
    (l : Linked) (own : ℕ) (es : List Entry) (k : ℕ) (e : Entry) (before between behind : List Broken)
    → k < length es → e ≡ get_or es k e
    → AddsFaults l (module_items own (map plain_entry (take k es))) before between
    → AddsFaults l (module_items own (plain_entry e ∷ [])) between behind
    → AddsFaults l (module_items own (map plain_entry (take (k + 1) es))) before behind
entry_more l own es k e before between behind below at a b =
    let longer : map plain_entry (take (k + 1) es) ≡ map plain_entry (take k es) ++ (plain_entry e ∷ []) =
    ap (map plain_entry) (take_more es k e below ∙ ap (λ (x : Entry). take k es ++ x ∷ []) (sym at))
    ∙ plain_more (take k es) e
    in
    subst (λ is. AddsFaults l is before behind)
    (sym (ap (module_items own) longer ∙ module_more own (map plain_entry (take k es)) (plain_entry e ∷ [])))
    (adds_both l (module_items own (map plain_entry (take k es))) (module_items own (plain_entry e ∷ [])) before between behind a b)

items_more :
    (own : ℕ) (fs : List File) (f : File)
    → items_from own (fs ++ f ∷ []) ≡ items_from own fs ++ module_items (own + length fs) f
items_more own [] f =
    let same : own ≡ own + 0 = omega arith in
    append-nil (module_items own f) ∙ ap (λ (n : ℕ). module_items n f) same
items_more own (g ∷ fs) f =
    let same : suc own + length fs ≡ own + suc (length fs) = omega arith in
    ap (λ is. module_items own g ++ is) (items_more (suc own) fs f)
    ∙ sym (append_assoc (module_items own g) (items_from (suc own) fs) (module_items (suc own + length fs) f))
    ∙ ap (λ (n : ℕ). (module_items own g ++ items_from (suc own) fs) ++ module_items n f) same

files_plain : (fs : List (List Entry)) (f : List Entry) → plain_files (fs ++ f ∷ []) ≡ plain_files fs ++ (map plain_entry f ∷ [])
files_plain [] f = refl
files_plain (x ∷ fs) f = ap (λ us. map plain_entry x ∷ us) (files_plain fs f)

length_plain : (fs : List (List Entry)) (k : ℕ) → k < length fs → length (plain_files (take k fs)) ≡ k
length_plain [] k below = absurd (let h : k < 0 = below in omega arith)
length_plain (f ∷ fs) zero below = refl
length_plain (f ∷ fs) (suc k) below =
    let h : suc k < suc (length fs) = below in
    let less : k < length fs = omega arith in
    ap suc (length_plain fs k less)

pub file_more :
    (l : Linked) (fs : List (List Entry)) (k : ℕ) (f es : List Entry) (before between behind : List Broken)
    → k < length fs → f ≡ get_or fs k f → es ≡ f
    → AddsFaults l (items_from 0 (plain_files (take k fs))) before between
    → AddsFaults l (module_items k (map plain_entry es)) between behind
    → AddsFaults l (items_from 0 (plain_files (take (k + 1) fs))) before behind
file_more l fs k f es before between behind below at same a b =
    let longer : plain_files (take (k + 1) fs) ≡ plain_files (take k fs) ++ (map plain_entry f ∷ []) =
    ap plain_files (take_more fs k f below ∙ ap (λ (x : List Entry). take k fs ++ x ∷ []) (sym at))
    ∙ files_plain (take k fs) f
    in
    let count = length_plain fs k below in
    let number : 0 + length (plain_files (take k fs)) ≡ k = omega (arith, count) in
    let items : items_from 0 (plain_files (take (k + 1) fs)) ≡ items_from 0 (plain_files (take k fs)) ++ module_items k (map plain_entry f) =
    ap (items_from 0) longer
    ∙ items_more 0 (plain_files (take k fs)) (map plain_entry f)
    ∙ ap (λ (n : ℕ). items_from 0 (plain_files (take k fs)) ++ module_items n (map plain_entry f)) number
    in
    subst (λ is. AddsFaults l is before behind) (sym items)
    (adds_both l (items_from 0 (plain_files (take k fs))) (module_items k (map plain_entry f)) before between behind a
    (subst (λ (x : List Entry). AddsFaults l (module_items k (map plain_entry x)) between behind) same b))

pub adds_all : (l : Linked) (items : List InstItem) (behind : List Broken) → AddsFaults l items [] behind → AreInstFaults l items behind
adds_all l items behind a = subst (AreInstFaults l items) (sym a.2) a.1

-- WHAT IS TOLD OF AN ITEM

pub says_free : (l : Linked) (i : InstItem) (f : Option Fault) → HasFreeInside l i → f ≡ Some free_inside → InstSays l i f
says_free l i f free is = subst (InstSays l i) (sym is) (has_free free)

pub says_founded :
    (l : Linked) (i : InstItem) (f : Option Fault)
    → (HasFreeInside l i → ⊥) → FoundedSays (IsUnfounded l i.own i.item) (item_name i.item) f → InstSays l i f
says_founded l i f none (inl told) = subst (InstSays l i) (sym told.0) (unfounded none told.1)
says_founded l i f none (inr told) = subst (InstSays l i) (sym told.0) (is_sound none told.1)

-- THE DEFINITION of an inst that stands in a module, by its name

and_parts : (a b : Bool) → (a && b) ≡ true → (a ≡ true) × (b ≡ true)
and_parts true b h = (refl, h)
and_parts false b h = absurd (let clash : false ≡ true = h in cc)

abbrev FitsAt : (Defined → Bool) → ℕ → List Defined → ℕ → Type 0
FitsAt p n ds k = (m : ℕ) × (d : Defined) × (k ≡ n + m) × (slice_get ds m ≡ Some d) × (p d ≡ true)

abbrev FirstFits : (Defined → Bool) → ℕ → List Defined → List ℕ → Type 0
FirstFits p n ds ks = (k : ℕ) → slice_get ks 0 ≡ Some k → FitsAt p n ds k

fits_later : (p : Defined → Bool) (n : ℕ) (x : Defined) (ds : List Defined) (ks : List ℕ) → FirstFits p (n + 1) ds ks → FirstFits p n (x ∷ ds) ks
fits_later p n x ds ks rest k is =
    let found = rest k is in
    let same = found.2 in
    let far : k ≡ n + suc found.0 = omega (arith, same) in
    (suc found.0, found.1, far, found.3, found.4)

fits_step :
    (b : Bool) (p : Defined → Bool) (n : ℕ) (x : Defined) (ds : List Defined) (ks : List ℕ)
    → p x ≡ b → FirstFits p (n + 1) ds ks → FirstFits p n (x ∷ ds) (if b then n ∷ ks else ks)
fits_step true p n x ds ks fit rest k is =
    let one : n ≡ k = cc in
    let here : k ≡ n + 0 = omega (arith, one) in
    (zero, x, here, refl, fit)
fits_step false p n x ds ks fit rest k is = fits_later p n x ds ks rest k is

first_fits : (p : Defined → Bool) (n : ℕ) (ds : List Defined) → FirstFits p n ds (numbers_where p n ds)
first_fits p n [] k is = absurd (let clash : None ≡ Some k = is in cc)
first_fits p n (x ∷ ds) k is =
    fits_step (p x) p n x ds (numbers_where p (n + 1) ds) refl (λ j at. first_fits p (n + 1) ds j at) k is

first_or_none : (n : ℕ) (ks : List ℕ) → (slice_get ks 0 ≡ Some (first_or n (ks ++ []))) ⊎ (first_or n (ks ++ []) ≡ n)
first_or_none n [] = inr refl
first_or_none n (k ∷ ks) = inl refl

past_none : (ds : List Defined) (k : ℕ) → length ds ≤ k → slice_get ds k ≡ None
past_none [] k past = refl
past_none (d ∷ ds) zero past = absurd (let h : suc (length ds) ≤ 0 = past in omega arith)
past_none (d ∷ ds) (suc k) past =
    let h : suc (length ds) ≤ suc k = past in
    let less : length ds ≤ k = omega arith in
    past_none ds k less

empty_reaches : (body : Bodies) {d e : ℕ} {ts : InstTerms} → body d ≡ bound_over [] no_insts → Reaches body d e ts → ⊥
empty_reaches body {d = d} {e = e} {ts = ts} empty (in_body m) =
    let none : Mentions (bound_over [] no_insts) e ts =
    subst (λ t. Mentions t e ts) empty m
    in
    none
empty_reaches body empty (in_body_of is r m) = empty_reaches body empty r

-- its arity is that of the name, or it has no body
pub own_others :
    (l : Linked) (own : ℕ) (x : PlainNameArity)
    → ReachesOthers (inst_bodies l) (inst_arity l (own_number l own l.insts x)) (own_number l own l.insts x)
    ↔ ReachesOthers (inst_bodies l) x.arity (own_number l own l.insts x)
own_others l own x =
    let k = own_number l own l.insts x in
    let body = inst_bodies l in
    elim (first_or_none (length l.insts) (numbers_where (type_fits l own x own) 0 l.insts)) [
      | inl found ↦
          let at = first_fits (type_fits l own x own) 0 l.insts k found in
          let same = at.2 in
          let number : k ≡ at.0 = omega (arith, same) in
          let fit = and_parts (is_module at.1.name.module (slice_get l.scopes own)) (fits (nat_eq own own) x (Some at.1)) at.4 in
          let named = and_parts (nat_eq own own || at.1.exported) (is_name_arity (id at.1.name.name at.1.name.arity) x) fit.1 in
          let counts = and_parts (nat_eq at.1.name.arity x.arity) (bytes_eq at.1.name.name x.name) named.1 in
          let arity : inst_arity l k ≡ x.arity =
          ap (inst_arity l) number ∙ ap arity_of at.3 ∙ eqb-true at.1.name.arity x.arity counts.0
          in (
            λ r. subst (λ (n : ℕ). ReachesOthers body n k) arity r,
            λ r. subst (λ (n : ℕ). ReachesOthers body n k) (sym arity) r,
          )
      | inr past ↦
          let beyond : length l.insts ≤ k = omega (arith, past) in
          let empty : body k ≡ bound_over [] no_insts = ap (inst_body_of l) (past_none l.insts k beyond) in (
            λ r. absurd (empty_reaches body empty r.1),
            λ r. absurd (empty_reaches body empty r.1),
          )
    ]

pub founded_either :
    (l : Linked) (own : ℕ) (x : PlainNameArity) (back others : Bool)
    → (back ≡ true) ↔ ComesBack (inst_bodies l) (own_number l own l.insts x)
    → (others ≡ true) ↔ ReachesOthers (inst_bodies l) (inst_arity l (own_number l own l.insts x)) (own_number l own l.insts x)
    → back ≡ false
    → (others ≡ true) ↔ NotWellFounded (inst_bodies l) x.arity (own_number l own l.insts x)
founded_either l own x back others comes reaches not_back =
    let same = own_others l own x in (
      λ h. inr (same.0 (reaches.0 h)),
      λ m.
          elim m [
            | inl b ↦ (let clash : true ≡ false = sym (comes.1 b) ∙ not_back in cc)
            | inr r ↦ reaches.1 (same.1 r)
          ],
    )

pub told_founded :
    (P : Type 0) (x : PlainNameArity) (b : Bool) (f : Option Fault)
    → (b ≡ true) ↔ P → f ≡ (if b then Some (not_well_founded (shown x)) else None) → FoundedSays P x f
told_founded P x true f holds is = inl (is, holds.0 refl)
told_founded P x false f holds is = inr (is, λ p. (let clash : false ≡ true = holds.1 p in cc))

pub free_by :
    (l : Linked) (i : InstItem) (s insts : List Inst) (b : Bool)
    → (b ≡ true) ↔ OnePutsFreeInside (inst_bodies l) (plain_insts s)
    → s ≡ insts → plain_insts insts ≡ insts_written l i.own i.item → (b ≡ true) ↔ HasFreeInside l i
free_by l i s insts b told same written =
    subst (λ is. (b ≡ true) ↔ OnePutsFreeInside (inst_bodies l) is) (ap plain_insts same ∙ written) told
