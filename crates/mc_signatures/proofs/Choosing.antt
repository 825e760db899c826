-- Constructors over the insts of their arguments, and the definitions of a row.
use Rattle.std.proofs.Common.{Vec, Global, Option, Some, None, MatchOption, ◌≡◌, ℕ, zero, suc, ◌+◌, ◌<◌, ◌≤◌, Bool, true, false, List, [], ◌∷◌, ◌++◌, length, get_or, map, take, drop, refl, sym, ap, ap₂, ◌∙◌, subst, arith, length-append, append_assoc}
use Rattle.std.specs.Prelude.{◌-◌, nat_lt, if◌then◌else◌}
use Rattle.std.specs.List.{slice_range}
use Rattle.std.proofs.lemmas.Bool.{ltb-true, ltb-false}
use Rattle.std.proofs.lemmas.List.{drop-drop, length-drop, length-map, length-take-le, map-append, at_drop_more, take_more, get_or_append_left, get_or-append-add}
use Rattle.mc_model.specs.declared.inst.InstRef.{InstRef}
use Rattle.mc_model.specs.declared.inst.InstRef.TheVariants.{Old, New}
use Rattle.mc_model.specs.declared.inst.Choice.{Choice}
use Rattle.mc_accepted.specs.InstRules.{PlainChoice, PlainInstDef, same_inst, bound_inst, definition_at, Functor, InstTerm, inst_node, defined, bound_over, over, Bodies}
use Rattle.mc_insts.specs.code.Lists.{Extends}
use Rattle.mc_insts.specs.declared.define.InstDef.{InstDef}
use Rattle.mc_insts.specs.Defining.{plain_choice, plain_definition, plain_definitions, FitsThere, AllFitThere, IsUnlisted, ChoicesFit, DefinitionFits, DefinitionsFit}
use Rattle.mc_insts.proofs.Found.{by_order}
use Rattle.mc_insts.proofs.Growth.{extends_length, extends_get}
use Rattle.mc_inst_table.specs.declared.inst.Functor.{Functor as Listed}
use Rattle.mc_inst_table.specs.declared.inst.Inst.{Inst}
use Rattle.mc_inst_table.specs.Plain.{plain_functor, plain_inst}
use Rattle.mc_signatures.specs.declared.keys.ListedFunctor.{ListedFunctor}
use Rattle.mc_signatures.specs.declared.keys.InstKey.{InstKey}
use Rattle.mc_signatures.specs.declared.rows.Step.{Step}
use Rattle.mc_signatures.specs.declared.rows.Step.TheVariants as S
use Rattle.mc_signatures.specs.code.Keys.{term_at, terms_at, terms, functor_of, AllBelow, IsInst, with_insts}
use Rattle.mc_signatures.specs.code.Rows.{reference, Chosen, IsChoice, NoneSame, AreUnlisted, IsRow, is_name, is_list, AreRows, IsExpanded, StepIs}
use Rattle.mc_signatures.proofs.Expanding.{below_later, terms_later, inst_on, builtin_is}
use Rattle.mc_signatures.proofs.Meaning.{below_take, below_drop}

-- CONSTRUCTORS, one behind another: what is chosen for those that are left makes all of them.
abbrev pub Goes_on : List ListedFunctor → (listed : List ℕ) → (done rest : ℕ) → List PlainChoice → Type 0
Goes_on named listed n rest cs =
    (ds : List PlainChoice) → Chosen (map functor_of (drop n named)) (drop rest listed) ds
    → Chosen (map functor_of named) listed (cs ++ ds)

map_push : (cs : List Choice) (c : Choice) → map plain_choice (cs ++ c ∷ []) ≡ map plain_choice cs ++ plain_choice c ∷ []
map_push cs c = map-append plain_choice cs (c ∷ [])

pub goes_on_first : (named : List ListedFunctor) (listed : List ℕ) → Goes_on named listed 0 0 []
goes_on_first named listed ds chosen = chosen

pub goes_on_more :
    (named : List ListedFunctor) (listed : List ℕ) (n rest end : ℕ) (f : ListedFunctor) (cs : List PlainChoice) (c : PlainChoice)
    → n < length named → f ≡ get_or named n f → end ≡ rest + f.arity
    → length c.args ≡ f.arity → IsChoice (functor_of f) (take f.arity (drop rest listed)) c
    → Goes_on named listed n rest cs → Goes_on named listed (n + 1) end (cs ++ c ∷ [])
goes_on_more named listed n rest end f cs c lt at is_end count is before ds chosen =
    let split : drop n named ≡ get_or named n f ∷ drop (n + 1) named = at_drop_more (λ (us : List ListedFunctor). us) named n f lt in
    let front : map functor_of (drop n named) ≡ functor_of f ∷ map functor_of (drop (n + 1) named) =
    ap (map functor_of) split ∙ ap (λ (u : ListedFunctor). functor_of u ∷ map functor_of (drop (n + 1) named)) (sym at) in
    let behind : drop f.arity (drop rest listed) ≡ drop end listed = drop-drop f.arity rest listed ∙ ap (λ k. drop k listed) (sym is_end) in
    let one : Chosen (functor_of f ∷ map functor_of (drop (n + 1) named)) (drop rest listed) (c ∷ ds) = (
      is.name,
      is.arity,
      count,
      is.args,
      subst (λ ks. Chosen (map functor_of (drop (n + 1) named)) ks ds) (sym behind) chosen,
    ) in
    subst (Chosen (map functor_of named) listed) (sym (append_assoc cs (c ∷ []) ds))
    (before (c ∷ ds) (subst (λ fs. Chosen fs (drop rest listed) (c ∷ ds)) (sym front) one))

-- one more constructor, with the insts between two places
pub goes_on_step :
    (named : List ListedFunctor) (listed : List ℕ) (n rest end : ℕ) (f : ListedFunctor) (cs all : List Choice) (c : Choice)
    → n < length named → f ≡ get_or named n f → end ≡ rest + f.arity → end ≤ length listed
    → IsChoice (functor_of f) (slice_range listed rest end) (plain_choice c) → all ≡ cs ++ c ∷ []
    → Goes_on named listed n rest (map plain_choice cs) → Goes_on named listed (n + 1) end (map plain_choice all)
goes_on_step named listed n rest end f cs all c lt at is_end within is grown before =
    let arity : end - rest ≡ f.arity = omega arith in
    let so : IsChoice (functor_of f) (take f.arity (drop rest listed)) (plain_choice c) =
    subst (λ k. IsChoice (functor_of f) (take k (drop rest listed)) (plain_choice c)) arity is in
    let fits : f.arity ≤ length (drop rest listed) = omega (arith, length-drop rest listed) in
    let count : length c.args ≡ f.arity =
    ap length so.args ∙ length-map (take f.arity (drop rest listed)) reference ∙ length-take-le f.arity (drop rest listed) fits in
    subst (Goes_on named listed (n + 1) end) (sym (ap (map plain_choice) grown ∙ map_push cs c))
    (goes_on_more named listed n rest end f (map plain_choice cs) (plain_choice c) lt at is_end count so before)

drop_past : {A : Type 0} (n : ℕ) (xs : List A) → length xs ≤ n → drop n xs ≡ []
drop_past zero [] le = refl
drop_past zero (x ∷ xs) le = absurd (omega arith)
drop_past (suc n) [] le = refl
drop_past (suc n) (x ∷ xs) le = drop_past n xs (omega arith)

none_behind : (cs : List PlainChoice) → cs ++ [] ≡ cs
none_behind [] = refl
none_behind (c ∷ cs) = ap (λ ds. c ∷ ds) (none_behind cs)

pub goes_on_last :
    (named : List ListedFunctor) (listed : List ℕ) (n rest : ℕ) (cs : List PlainChoice)
    → length named ≤ n → length listed ≤ rest → Goes_on named listed n rest cs
    → Chosen (map functor_of named) listed cs
goes_on_last named listed n rest cs all none goes =
    let here : Chosen (map functor_of (drop n named)) (drop rest listed) [] =
    subst (λ (us : List ListedFunctor). Chosen (map functor_of us) (drop rest listed) []) (sym (drop_past n named all))
    (subst (λ ks. Chosen [] ks []) (sym (drop_past rest listed none)) tt) in
    subst (Chosen (map functor_of named) listed) (none_behind cs) (goes [] here)

unlisted_push : (c d : PlainChoice) (cs : List PlainChoice) → IsUnlisted c cs → (c.name ≡ d.name → c.arity ≡ d.arity → ⊥) → IsUnlisted c (cs ++ d ∷ [])
unlisted_push c d [] un other = (other, tt)
unlisted_push c d (e ∷ cs) un other = (un.0, unlisted_push c d cs un.1 other)

pub all_unlisted : (cs : List PlainChoice) (c : PlainChoice) → AreUnlisted cs → NoneSame cs c → AreUnlisted (cs ++ c ∷ [])
all_unlisted [] c un none = (tt, tt)
all_unlisted (d ∷ cs) c un none = (unlisted_push d c cs un.0 none.0, all_unlisted cs c un.1 none.1)

pub unlisted_step :
    (cs all : List Choice) (c : Choice)
    → AreUnlisted (map plain_choice cs) → NoneSame (map plain_choice cs) (plain_choice c) → all ≡ cs ++ c ∷ []
    → AreUnlisted (map plain_choice all)
unlisted_step cs all c un none grown =
    subst AreUnlisted (sym (ap (map plain_choice) grown ∙ map_push cs c)) (all_unlisted (map plain_choice cs) (plain_choice c) un none)

-- DEFINITIONS that were made stay as more insts come

pub row_on : (body : Bodies) (ts us : List InstTerm) (t : InstTerm) (d : PlainInstDef) → Extends ts us → IsRow body ts t d → IsRow body us t d
row_on body ts us t d e (is_name {d = g} {is = is} {k = k} i) = is_name (inst_on ts us k (over is (body g)) e i)
row_on body ts us t d e (is_list {fs = fs} {cs = cs} ks below chosen unlisted) =
    subst (λ is. IsRow body us (bound_over fs is) (bound_inst cs)) (terms_later ts us ks e below)
    (is_list ks (below_later ts us ks e below) chosen unlisted)

-- as many insts as definitions are there, and each of these is what its inst says
pub record AreMany (body : Bodies) (ts : List InstTerm) (ds : List PlainInstDef) : Type 0 where
  pub there : 4 + length ds ≤ length ts
  pub rows : AreRows body ts ds

pub none_made : (body : Bodies) (ts : List InstTerm) → 4 ≤ length ts → AreMany body ts []
none_made body ts le = record { there = omega arith; rows = λ k lt. absurd (omega arith) }

many_on : (body : Bodies) (ts us : List InstTerm) (ds : List PlainInstDef) → Extends ts us → AreMany body ts ds → AreMany body us ds
many_on body ts us ds e many =
    let longer = extends_length ts us e in
    let before = many.there in
    record {
      there = omega arith;
      rows = λ k lt.
          let same : term_at us (4 + k) ≡ term_at ts (4 + k) = extends_get ts us (4 + k) (inst_node 0) e (omega arith) in
          subst (λ t. IsRow body us t (definition_at ds k)) (sym same)
          (row_on body ts us (term_at ts (4 + k)) (definition_at ds k) e (many.rows k lt));
    }

many_more :
    (body : Bodies) (us : List InstTerm) (ds : List PlainInstDef) (d : PlainInstDef)
    → AreMany body us ds → 4 + length ds < length us
    → IsRow body us (term_at us (4 + length ds)) d → AreMany body us (ds ++ d ∷ [])
many_more body us ds d many lt one =
    let count : length (ds ++ d ∷ []) ≡ length ds + 1 = length-append ds (d ∷ []) in
    record {
      there = omega (arith, count);
      rows = λ k less.
          by_order k (length ds)
          (λ x.
          let before : definition_at (ds ++ d ∷ []) k ≡ definition_at ds k = get_or_append_left ds (d ∷ []) (bound_inst []) k x in
          subst (IsRow body us (term_at us (4 + k))) (sym before) (many.rows k x))
          (λ x.
          let last : definition_at (ds ++ d ∷ []) (length ds) ≡ d =
          ap (λ n. get_or (ds ++ d ∷ []) n (bound_inst [])) (let z : length ds ≡ length ds + 0 = omega arith in z) ∙ get_or-append-add ds (d ∷ []) 0 (bound_inst []) in
          subst (λ n. IsRow body us (term_at us (4 + n)) (definition_at (ds ++ d ∷ []) n)) (sym x)
          (subst (IsRow body us (term_at us (4 + length ds))) (sym last) one))
          (λ x. absurd (omega (arith, count)));
    }

-- the definition of the inst in a place is made, and others may come behind it
pub many_step :
    (body : Bodies) (ts us : List InstTerm) (ds all : List InstDef) (d : InstDef) (place : ℕ)
    → Extends ts us → length ds ≡ place → AreMany body ts (plain_definitions ds) → 4 + place < length us
    → IsRow body us (term_at us (4 + place)) (plain_definition d) → all ≡ ds ++ d ∷ []
    → AreMany body us (plain_definitions all)
many_step body ts us ds all d place e same many lt one grown =
    let count : length (plain_definitions ds) ≡ place = length-map ds plain_definition ∙ same in
    subst (AreMany body us) (sym (ap plain_definitions grown ∙ map-append plain_definition ds (d ∷ [])))
    (many_more body us (plain_definitions ds) (plain_definition d) (many_on body ts us (plain_definitions ds) e many)
    (subst (λ n. 4 + n < length us) (sym count) lt)
    (subst (λ n. IsRow body us (term_at us (4 + n)) (plain_definition d)) (sym count) one))

-- no inst is left
pub all_made :
    (body : Bodies) (ts : List InstTerm) (keys : List InstKey) (ds : List InstDef) (place : ℕ)
    → Extends ts (terms keys) → length ds ≡ place → AreMany body ts (plain_definitions ds) → length (terms keys) ≤ 4 + place
    → IsExpanded body (terms keys) (plain_definitions ds)
all_made body ts keys ds place e same many past =
    let all = many_on body ts (terms keys) (plain_definitions ds) e many in
    let less = all.there in
    record {
      builtin = λ k lt. (builtin_is k lt keys).is;
      count = omega (arith, length-map ds plain_definition);
      rows = all.rows;
    }

-- WHAT IS TO BE DONE for an inst

pub step_there : (ts : List InstTerm) (p : ℕ) (o : Option Step) (s : Step) → StepIs ts p o → o ≡ Some s → 4 + p < length ts
step_there ts p o s step form = known s (subst (StepIs ts p) form step)
  where
    known : (x : Step) → StepIs ts p (Some x) → 4 + p < length ts
    known (S.Listed cs) h = h.0
    known (S.Defined d ks) h = h.0

pub listed_row :
    (body : Bodies) (ts : List InstTerm) (p : ℕ) (o : Option Step) (cs : List Choice)
    → StepIs ts p o → o ≡ Some (S.Listed cs) → IsRow body ts (term_at ts (4 + p)) (bound_inst (map plain_choice cs))
listed_row body ts p o cs step form =
    let h : StepIs ts p (Some (S.Listed cs)) = subst (StepIs ts p) form step in
    subst (λ t. IsRow body ts t (bound_inst (map plain_choice cs))) (sym h.1.2) (is_list h.1.1 h.1.3 h.1.4 h.1.5)

pub defined_row :
    (body : Bodies) (ts us : List InstTerm) (p : ℕ) (o : Option Step) (d : ℕ) (given : Vec ℕ Global) (i : Inst) (k : ℕ)
    → StepIs ts p o → o ≡ Some (S.Defined d given) → Extends ts us → body d ≡ plain_inst i
    → IsInst us k (with_insts ts given.items (plain_inst i))
    → IsRow body us (term_at us (4 + p)) (same_inst (reference k))
defined_row body ts us p o d given i k step form e kept one =
    let h : StepIs ts p (Some (S.Defined d given)) = subst (StepIs ts p) form step in
    let is = terms_at ts given.items in
    let same : term_at us (4 + p) ≡ defined d is = extends_get ts us (4 + p) (inst_node 0) e h.0 ∙ h.1 in
    let so : IsInst us k (over is (body d)) = subst (λ t. IsInst us k (over is t)) (sym kept) one in
    subst (λ t. IsRow body us t (same_inst (reference k))) (sym same) (is_name so)

pub match_some : {A : Type 0} (P : Type 0) (Q : A → Type 0) (o : Option A) (a : A) → o ≡ Some a → MatchOption o P Q → Q a
match_some P Q None a e h = cc
match_some {A} P Q (Some x) a e h = subst Q (first x a e) h
  where
    first : (y z : A) → Some y ≡ Some z → y ≡ z
    first y z same = cc

-- what is asked of definitions that are put into a graph
fits_reference : (k n : ℕ) → k < 4 + n → FitsThere 4 n (reference k)
fits_reference k n lt = by_test (nat_lt k 4) refl
  where
    by_test : (b : Bool) → nat_lt k 4 ≡ b → FitsThere 4 n (if b then Old k else New (k - 4))
    by_test true e = ltb-true k 4 e
    by_test false e = let le : 4 ≤ k = ltb-false k 4 e in omega (arith, le)

fit_references : (ks : List ℕ) (n : ℕ) → AllBelow (4 + n) ks → AllFitThere 4 n (map reference ks)
fit_references [] n below = tt
fit_references (k ∷ ks) n below = (fits_reference k n (below 0 (omega arith)), fit_references ks n (λ i h. below (suc i) (omega arith)))

choices_fit : (fs : List Functor) (ks : List ℕ) (cs : List PlainChoice) (n : ℕ) → AllBelow (4 + n) ks → Chosen fs ks cs → AreUnlisted cs → ChoicesFit 4 n cs
choices_fit [] ks [] n below chosen un = tt
choices_fit [] [] (c ∷ cs) n below chosen un = absurd chosen
choices_fit [] (k ∷ ks) (c ∷ cs) n below chosen un = absurd chosen
choices_fit (f ∷ fs) ks [] n below chosen un = absurd chosen
choices_fit (f ∷ fs) ks (c ∷ cs) n below chosen un = (
  chosen.2 ∙ sym chosen.1,
  subst (AllFitThere 4 n) (sym chosen.3) (fit_references (take f.arity ks) n (below_take f.arity (4 + n) ks below)),
  un.0,
  choices_fit fs (drop f.arity ks) cs n (below_drop f.arity (4 + n) ks below) chosen.4 un.1,
)

row_fits : (body : Bodies) (ts : List InstTerm) (t : InstTerm) (d : PlainInstDef) (n : ℕ) → length ts ≡ 4 + n → IsRow body ts t d → DefinitionFits 4 n d
row_fits body ts t d n count (is_name {k = k} i) = fits_reference k n (subst (λ m. k < m) count i.there)
row_fits body ts t d n count (is_list {fs = fs} {cs = cs} ks below chosen unlisted) =
    choices_fit fs ks cs n (subst (λ m. AllBelow m ks) count below) chosen unlisted

pub rows_fit : (body : Bodies) (ts : List InstTerm) (ds : List PlainInstDef) → IsExpanded body ts ds → DefinitionsFit 4 ds
rows_fit body ts ds e k lt = row_fits body ts (term_at ts (4 + k)) (definition_at ds k) (length ds) e.count (e.rows k lt)

-- THE LOOPS over constructors

pub named_more :
    (ns : List ListedFunctor) (n : ListedFunctor) (fs : List Listed) (k : ℕ) (f : Listed)
    → k < length fs → f ≡ get_or fs k f → functor_of n ≡ plain_functor f
    → map functor_of ns ≡ map plain_functor (take k fs)
    → map functor_of (ns ++ n ∷ []) ≡ map plain_functor (take (k + 1) fs)
named_more ns n fs k f below at same before =
    map-append functor_of ns (n ∷ [])
    ∙ ap₂ (λ xs x. xs ++ x ∷ []) before same
    ∙ sym (map-append plain_functor (take k fs) (f ∷ []))
    ∙ ap (map plain_functor) (sym (take_more fs k f below ∙ ap (λ (g : Listed). take k fs ++ g ∷ []) (sym at)))

pub references_more :
    (rs : List InstRef) (r : InstRef) (ks : List ℕ) (k n : ℕ)
    → k < length ks → n ≡ get_or ks k n → r ≡ reference n → rs ≡ map reference (take k ks)
    → rs ++ r ∷ [] ≡ map reference (take (k + 1) ks)
references_more rs r ks k n below at same before =
    ap₂ (λ xs x. xs ++ x ∷ []) before same
    ∙ sym (map-append reference (take k ks) (n ∷ []))
    ∙ ap (map reference) (sym (take_more ks k n below ∙ ap (λ m. take k ks ++ m ∷ []) (sym at)))

-- none of those that are left is of that name, nor is this one
pub none_same_more :
    (cs : List Choice) (k : ℕ) (d c : Choice)
    → k < length cs → d ≡ get_or cs k d → (d.name ≡ c.name → d.arity ≡ c.arity → ⊥)
    → NoneSame (map plain_choice (drop (k + 1) cs)) (plain_choice c) → NoneSame (map plain_choice (drop k cs)) (plain_choice c)
none_same_more cs k d c below at other rest =
    let split : drop k cs ≡ get_or cs k d ∷ drop (k + 1) cs = at_drop_more (λ (us : List Choice). us) cs k d below in
    subst (λ (us : List Choice). NoneSame (map plain_choice us) (plain_choice c)) (sym split)
    (subst (λ (u : Choice). u.name ≡ c.name → u.arity ≡ c.arity → ⊥) at other, rest)
