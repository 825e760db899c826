-- Bounds above the type variables of types, one after the other.
use Rattle.std.proofs.Common.{◌≡◌, ℕ, suc, ◌+◌, ◌<◌, ◌≤◌, max, cond, List, [], ◌∷◌, ◌++◌, map, take, get_or, length, refl, sym, ap, ◌∙◌, inl, inr, arith}
use Rattle.std.proofs.lemmas.Bool.{cases_lt, lt-ltb, le-ltb}
use Rattle.std.proofs.lemmas.List.{take_more, take_all, map_push}
use Rattle.mc_program.specs.Programs.{TypeTerm, variable_type, union_type}
use Rattle.mc_program.specs.PlainPrograms.{plain_type, plain_type_step, type_terms}
use Rattle.mc_program.specs.declared.ty.Ty as T
use Rattle.mc_program.specs.declared.ty.Ty.{Ty}
use Rattle.mc_program.specs.declared.ty.Ty.TheOpen as TO
use Rattle.mc_program.specs.declared.ty.Ty.TheVariants as TV
use Rattle.mc_program.specs.declared.ty.Ty.TheFolds.{fold-roll-Ty}
use Rattle.mc_accepted.specs.MostGeneral.{variables_of, variables_of_all, variables_of_each, bound_of}
use Rattle.mc_typecheck.specs.code.Bounds.{above}

-- HOW THE PLAIN VIEW COMPUTES

pub plain-Var : (v : ℕ) → plain_type (T.Var v) ≡ variable_type v
plain-Var v = ap plain_type (sym (TV.rolls-Var v)) ∙ fold-roll-Ty TypeTerm plain_type_step (TO.Var v)

pub plain-Union : (u : ℕ) (args : List Ty) → plain_type (T.Union u args) ≡ union_type u (type_terms (map plain_type args))
plain-Union u args = ap plain_type (sym (TV.rolls-Union u args)) ∙ fold-roll-Ty TypeTerm plain_type_step (TO.Union u args)

all_variables : (ts : List TypeTerm) → variables_of_all (type_terms ts) ≡ variables_of_each ts
all_variables [] = refl
all_variables (t ∷ ts) = ap (λ vs. variables_of t ++ vs) (all_variables ts)

pub union_variables : (u : ℕ) (args : List Ty) → variables_of (plain_type (T.Union u args)) ≡ variables_of_each (map plain_type args)
union_variables u args = ap variables_of (plain-Union u args) ∙ all_variables (map plain_type args)

each_variables : (ts us : List TypeTerm) → variables_of_each (ts ++ us) ≡ variables_of_each ts ++ variables_of_each us
each_variables [] us = refl
each_variables (t ∷ ts) us = ap (λ vs. variables_of t ++ vs) (each_variables ts us) ∙ sym (assoc (variables_of t) (variables_of_each ts) (variables_of_each us))
  where
    assoc : (a b c : List ℕ) → (a ++ b) ++ c ≡ a ++ (b ++ c)
    assoc [] b c = refl
    assoc (x ∷ a) b c = ap (λ l. x ∷ l) (assoc a b c)

-- THE BOUND OF LISTS

bound_first : (v : ℕ) (vs : List ℕ) → bound_of (v ∷ vs) ≡ max (suc v) (bound_of vs)
bound_first v vs = elim (cases_lt v (bound_of vs)) [
  | inl lt ↦ let e : bound_of (v ∷ vs) ≡ bound_of vs = ap (λ b. cond b (bound_of vs) (suc v)) (lt-ltb v (bound_of vs) lt) in omega (arith, e, lt)
  | inr ge ↦ let e : bound_of (v ∷ vs) ≡ suc v = ap (λ b. cond b (bound_of vs) (suc v)) (le-ltb v (bound_of vs) ge) in omega (arith, e, ge)
]

pub bound_both : (xs ys : List ℕ) → bound_of (xs ++ ys) ≡ max (bound_of xs) (bound_of ys)
bound_both [] ys = omega arith
bound_both (x ∷ xs) ys =
    let more = bound_both xs ys in
    let a = bound_first x (xs ++ ys) in
    let b = bound_first x xs in
    omega (arith, more, a, b)

-- a bound that is above the variables of one type more
pub above_more : (ts : List Ty) (k : ℕ) (d : Ty) (bound now next : ℕ) → k < length ts → now ≡ above (variables_of_each (map plain_type (take k ts))) bound → next ≡ above (variables_of (plain_type (get_or ts k d))) now → next ≡ above (variables_of_each (map plain_type (take (k + 1) ts))) bound
above_more ts k d bound now next lt so one =
    let front = variables_of_each (map plain_type (take k ts)) in
    let x = plain_type (get_or ts k d) in
    let e : variables_of_each (map plain_type (take (k + 1) ts)) ≡ front ++ (variables_of x ++ []) =
    ap (λ us. variables_of_each (map plain_type us)) (take_more ts k d lt) ∙ ap variables_of_each (map_push plain_type (take k ts) (get_or ts k d)) ∙ each_variables (map plain_type (take k ts)) (x ∷ []) in
    let m : bound_of (variables_of_each (map plain_type (take (k + 1) ts))) ≡ max (bound_of front) (bound_of (variables_of x ++ [])) = ap bound_of e ∙ bound_both front (variables_of x ++ []) in
    let n = bound_both (variables_of x) [] in
    omega (arith, so, one, m, n)

pub above_all : (ts : List Ty) (k bound now : ℕ) → length ts ≤ k → now ≡ above (variables_of_each (map plain_type (take k ts))) bound → now ≡ above (variables_of_each (map plain_type ts)) bound
above_all ts k bound now le so = so ∙ ap (λ us. above (variables_of_each (map plain_type us)) bound) (take_all k ts le)

pub above_one : (v bound : ℕ) → above (v ∷ []) bound ≡ max (suc v) bound
above_one v bound = let e = bound_first v [] in omega (arith, e)

pub union_above : (t : Ty) (u : ℕ) (args xs : List Ty) (bound count : ℕ) → t ≡ T.Union u args → xs ≡ args → count ≡ above (variables_of_each (map plain_type xs)) bound → count ≡ above (variables_of (plain_type t)) bound
union_above t u args xs bound count is same so =
    so ∙ ap (λ (ts : List Ty). above (variables_of_each (map plain_type ts)) bound) same
    ∙ ap (λ vs. above vs bound) (sym (ap (λ (x : Ty). variables_of (plain_type x)) is ∙ union_variables u args))
