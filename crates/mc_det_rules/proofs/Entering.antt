-- Which procedure is the `main` that is run.
use Rattle.std.proofs.Common.{◌≡◌, ⊎_elim, ℕ, zero, suc, ◌+◌, ◌-◌, ◌<◌, ◌≤◌, ◌⊎◌, nat_eq, List, [], ◌∷◌, ◌++◌, length, get_or, map, Bool, true, false, not, cond, ◌&&◌, ◌||◌, Option, Some, None, refl, sym, ap, ap₂, ◌∙◌, arith, codes, true≢false}
use Rattle.std.specs.Prelude.{is_some}
use Rattle.std.specs.List.{find, list_any}
use Rattle.std.proofs.lemmas.List.{get_or-map}
use Rattle.mc_source.specs.Rules.{Fault, broken_at}
use Rattle.mc_source.specs.declared.place.Place.{Place}
use Rattle.mc_source.specs.declared.rule.Broken.{Broken}
use Rattle.mc_source.specs.declared.rule.Rule.TheVariants as R
use Rattle.mc_program.specs.Programs.{Predicate, TypeTerm}
use Rattle.mc_program.specs.PlainPrograms.{plain_pred, plain_type, no_pred}
use Rattle.mc_program.specs.declared.program.Pred.{Pred}
use Rattle.mc_program.specs.declared.ty.Ty.{Ty}
use Rattle.mc_model.specs.Lists.{from}
use Rattle.mc_model.specs.declared.sched.Proc.{Proc}
use Rattle.mc_accepted.specs.Ordered.{is_state, zipped}
use Rattle.mc_accepted.specs.DeterminismFaults.{is_main_name, are_states, takes_states, is_det_or_cc_multi, main_fault}
use Rattle.mc_det.specs.Determinisms.{as_declared, declared_procedure, none_declared}
use Rattle.mc_det_rules.specs.code.Entry.{main_by}

-- what is found, where something is
some_first : {X : Type 0} (b t : Bool) (x : X) (r : Option X) → is_some r ≡ t → is_some (cond b (Some x) r) ≡ (b || t)
some_first true t x r e = refl
some_first false t x r e = e

pub some_found : {X : Type 0} (f : X → Bool) (xs : List X) → is_some (find f xs) ≡ list_any f xs
some_found f [] = refl
some_found f (x ∷ xs) = some_first (f x) (list_any f xs) x (find f xs) (some_found f xs)

-- what is found among n numbers is found among those from k on
abbrev pub IsAhead : (f : ℕ → Bool) (n k : ℕ) → Type 0
IsAhead f n k = (m : ℕ) → k + m ≡ n → find f (from 0 n) ≡ find f (from k m)

pub all_ahead : (f : ℕ → Bool) (n k : ℕ) → k ≡ 0 → IsAhead f n k
all_ahead f n k z m e =
    let same : n ≡ m = omega (arith, z, e) in
    ap (λ (j : ℕ). find f (from 0 j)) same ∙ ap (λ (j : ℕ). find f (from j m)) (sym z)

pub next_ahead : (f : ℕ → Bool) (n k : ℕ) → f k ≡ false → IsAhead f n k → IsAhead f n (k + 1)
next_ahead f n k misses ahead m e =
    let later : k + suc m ≡ n = omega (arith, e) in
    let next : suc k ≡ k + 1 = omega arith in
    ahead (suc m) later
    ∙ ap (λ (b : Bool). cond b (Some k) (find f (from (suc k) m))) misses
    ∙ ap (λ (j : ℕ). find f (from j m)) next

pub found_ahead : (f : ℕ → Bool) (n k : ℕ) → k < n → f k ≡ true → IsAhead f n k → Some k ≡ find f (from 0 n)
found_ahead f n k lt hits ahead =
    let m : ℕ = n - suc k in
    let later : k + suc m ≡ n = omega (arith, lt) in
    sym (ahead (suc m) later ∙ ap (λ (b : Bool). cond b (Some k) (find f (from (suc k) m))) hits)

pub none_ahead : (f : ℕ → Bool) (n k : ℕ) → k ≡ n → IsAhead f n k → None ≡ find f (from 0 n)
none_ahead f n k e ahead =
    let later : k + 0 ≡ n = omega (arith, e) in
    sym (ahead 0 later)

-- a procedure as it is declared, by its number
pub declared_there : (ps : List Proc) (k : ℕ) (p : Proc) → k < length ps → p ≡ get_or ps k p → as_declared p ≡ declared_procedure ps k
declared_there ps k p lt e = ap as_declared e ∙ sym (get_or-map as_declared ps k p none_declared lt)

-- what is said
abbrev said : Fault
said = (R.E4, codes "main is not a det or cc_multi predicate on io")

pub none_missing : (runs has : Bool) → (runs && not has) ≡ false → None ≡ main_fault runs has
none_missing false has e = refl
none_missing true true e = refl
none_missing true false e = absurd (true≢false e)

pub is_missing : (runs has : Bool) (what : List ℕ) → what ≡ codes "main is not a det or cc_multi predicate on io" → (runs && not has) ≡ true → Some (R.E4, what) ≡ main_fault runs has
is_missing false has what w e = absurd (true≢false (sym e))
is_missing true true what w e = absurd (true≢false (sym e))
is_missing true false what w e = ap (λ (t : List ℕ). Some (R.E4, t)) w

-- where nothing is said there is one
pub told_there : (has : Bool) (at : Place) (more : List Broken) → broken_at at (main_fault true has) ++ more ≡ [] → has ≡ true
told_there true at more e = refl
told_there false at more e = cc

-- a predicate by its number
no_main : (a b c : Bool) → false ≡ (a && (b && (false && c)))
no_main false b c = refl
no_main true false c = refl
no_main true true c = refl

past : (preds : List Pred) (k : ℕ) → length preds ≤ k → get_or (map plain_pred preds) k no_pred ≡ no_pred
past [] k le = refl
past (p ∷ ps) zero le = absurd (omega arith)
past (p ∷ ps) (suc k) le = past ps k (omega arith)

there : (preds : List Pred) (k : ℕ) (d : Pred) → k < length preds → get_or (map plain_pred preds) k no_pred ≡ plain_pred (get_or preds k d)
there [] k d lt = absurd (omega arith)
there (p ∷ ps) zero d lt = refl
there (p ∷ ps) (suc k) d lt = there ps k d (omega arith)

-- whether a predicate and a declaration are those of `main`
abbrev fits : Proc → Predicate → Bool
fits p r =
    p.exported
    && (nat_eq p.at.file 0
    && (is_main_name r.name
    && (are_states r.types
    && (takes_states (zipped p.first p.last) && is_det_or_cc_multi p.declared))))

pub main_nowhere : (preds : List Pred) (p : Proc) → length preds ≤ p.pred → false ≡ main_by (λ k. get_or (map plain_pred preds) k no_pred) (as_declared p)
main_nowhere preds p le =
    no_main p.exported (nat_eq p.at.file 0) (are_states [] && (takes_states (zipped p.first p.last) && is_det_or_cc_multi p.declared))
    ∙ ap (fits p) (sym (past preds p.pred le))

grouped : (a b c d e f : Bool) → (a && (b && ((c && d) && (e && f)))) ≡ (a && (b && (c && (d && (e && f)))))
grouped false b c d e f = refl
grouped true false c d e f = refl
grouped true true false d e f = refl
grouped true true true d e f = refl

pub main_there : (preds : List Pred) (p : Proc) (r d : Pred) (b is takes det : Bool) → p.pred < length preds → r ≡ get_or preds p.pred d → is ≡ (is_main_name (plain_pred r).name && are_states (plain_pred r).types) → takes ≡ takes_states (zipped p.first p.last) → det ≡ is_det_or_cc_multi p.declared → b ≡ (p.exported && (nat_eq p.at.file 0 && (is && (takes && det)))) → b ≡ main_by (λ k. get_or (map plain_pred preds) k no_pred) (as_declared p)
main_there preds p r d b is takes det lt same i t e whole =
    whole
    ∙ ap (λ (x : Bool). p.exported && (nat_eq p.at.file 0 && (x && (takes && det)))) i
    ∙ ap₂ (λ (x y : Bool). p.exported && (nat_eq p.at.file 0 && ((is_main_name (plain_pred r).name && are_states (plain_pred r).types) && (x && y)))) t e
    ∙ grouped p.exported (nat_eq p.at.file 0) (is_main_name (plain_pred r).name) (are_states (plain_pred r).types) (takes_states (zipped p.first p.last)) (is_det_or_cc_multi p.declared)
    ∙ ap (fits p) (ap plain_pred same ∙ sym (there preds p.pred d lt))

-- two types, and two modes
pub not_two : (ts : List TypeTerm) → (length ts ≡ 2 → ⊥) → false ≡ are_states ts
not_two [] n = refl
not_two (t ∷ []) n = refl
not_two (s ∷ t ∷ []) n = absurd (n refl)
not_two (s ∷ t ∷ u ∷ ts) n = refl

pub two : (ts : List Ty) (d e : Ty) (a b : Bool) → length ts ≡ 2 → a ≡ is_state (plain_type (get_or ts 0 d)) → b ≡ is_state (plain_type (get_or ts 1 e)) → (a && b) ≡ are_states (map plain_type ts)
two [] d e a b n ea eb = absurd (omega arith)
two (t ∷ []) d e a b n ea eb = absurd (omega arith)
two (s ∷ t ∷ []) d e a b n ea eb = ap₂ (λ (x y : Bool). x && y) ea eb
two (s ∷ t ∷ u ∷ ts) d e a b n ea eb = absurd (omega arith)

pub no_pair : (f l : List ℕ) → (length f ≡ 2 → 2 ≤ length l → ⊥) → (length l ≡ 2 → 2 ≤ length f → ⊥) → false ≡ takes_states (zipped f l)
no_pair [] l a b = refl
no_pair (i ∷ []) [] a b = refl
no_pair (i ∷ []) (k ∷ l) a b = refl
no_pair (i ∷ j ∷ f) [] a b = refl
no_pair (i ∷ j ∷ f) (k ∷ []) a b = refl
no_pair (i ∷ j ∷ []) (k ∷ m ∷ l) a b = absurd (a refl (omega arith))
no_pair (i ∷ j ∷ g ∷ f) (k ∷ m ∷ []) a b = absurd (b refl (omega arith))
no_pair (i ∷ j ∷ g ∷ f) (k ∷ m ∷ n ∷ l) a b = refl

pub pair : (f l : List ℕ) (n : ℕ) → n ≤ length f → n ≤ length l → (n ≡ length f) ⊎ (n ≡ length l) → n ≡ 2 → takes_states ((get_or f 0 0, get_or l 0 0) ∷ (get_or f 1 0, get_or l 1 0) ∷ []) ≡ takes_states (zipped f l)
pair [] l n a b e is = absurd (omega arith)
pair (i ∷ []) l n a b e is = absurd (omega arith)
pair (i ∷ j ∷ f) [] n a b e is = absurd (omega arith)
pair (i ∷ j ∷ f) (k ∷ []) n a b e is = absurd (omega arith)
pair (i ∷ j ∷ []) (k ∷ m ∷ l) n a b e is = refl
pair (i ∷ j ∷ g ∷ f) (k ∷ m ∷ []) n a b e is = refl
pair (i ∷ j ∷ g ∷ f) (k ∷ m ∷ o ∷ l) n a b e is =
    absurd (⊎_elim (λ (h : n ≡ length (i ∷ j ∷ g ∷ f)). omega arith) (λ (h : n ≡ length (k ∷ m ∷ o ∷ l)). omega arith) e)
