-- Tables of nodes by their two parts: the entries over no insts, and those over some.
use Rattle.std.proofs.Common.{◌≡◌, ◌∙◌, ℕ, Bool, true, false, true≢false, cond, ◌&&◌, List, [], ◌∷◌, ◌++◌, map, length, Option, Some, None, nat_eq, if◌then◌else◌, refl, sym, ap, ap₂, arith}
use Rattle.std.specs.Bool.{◌==◌}
use Rattle.std.proofs.lemmas.Bool.Decides.{nat_tests}
use Rattle.std.proofs.Math.Dec.{eqb-suc-zero}
use Rattle.std.specs.Str.{bytes_eq}
use Rattle.std.specs.Map.{lookup}
use Rattle.mc_mode_state.specs.Tables.{Entry, entry, node_in}
use Rattle.mc_mode_state.specs.code.Bare.{unless_bare, over_some}

abbrev pub bare_entries : List (ℕ × ℕ) → List Entry
bare_entries es = map (λ e. entry e.0 [] e.1) es

and-false : (a : Bool) → (a && false) ≡ false
and-false true = refl
and-false false = refl

and-true : (a : Bool) → (a && true) ≡ a
and-true true = refl
and-true false = refl

-- no entry over some insts is one over none
not-bare : (fs : List Entry) (n : ℕ) → node_in (over_some fs) n [] ≡ None
not-bare [] n = refl
not-bare (f ∷ fs) n = at f.insts refl (not-bare fs n)
  where
    at : (is : List ℕ) → f.insts ≡ is → node_in (over_some fs) n [] ≡ None → node_in (unless_bare f is (over_some fs)) n [] ≡ None
    at [] e h = h
    at (i ∷ is) e h =
        ap (λ xs. cond (nat_eq n f.number && bytes_eq [] xs) (Some f.node) (node_in (over_some fs) n [])) e
        ∙ (ap (λ b. cond b (Some f.node) (node_in (over_some fs) n [])) (and-false (nat_eq n f.number)) ∙ h)

some-kept : (fs : List Entry) (n i : ℕ) (is : List ℕ) → node_in (over_some fs) n (i ∷ is) ≡ node_in fs n (i ∷ is)
some-kept [] n i is = refl
some-kept (f ∷ fs) n i is = at f.insts refl (some-kept fs n i is)
  where
    at : (js : List ℕ) → f.insts ≡ js → node_in (over_some fs) n (i ∷ is) ≡ node_in fs n (i ∷ is)
        → node_in (unless_bare f js (over_some fs)) n (i ∷ is) ≡ node_in (f ∷ fs) n (i ∷ is)
    at [] e h =
        h
        ∙ sym (ap (λ xs. cond (nat_eq n f.number && bytes_eq (i ∷ is) xs) (Some f.node) (node_in fs n (i ∷ is))) e
        ∙ ap (λ b. cond b (Some f.node) (node_in fs n (i ∷ is))) (and-false (nat_eq n f.number)))
    at (j ∷ js) e h = ap (cond (nat_eq n f.number && bytes_eq (i ∷ is) f.insts) (Some f.node)) h

-- one over none is in the first part
pub bare-in : (es : List (ℕ × ℕ)) (fs : List Entry) (n : ℕ) → node_in (bare_entries es ++ over_some fs) n [] ≡ lookup (nat_eq n) es
bare-in [] fs n = not-bare fs n
bare-in (e ∷ es) fs n =
    ap (λ b. cond b (Some e.1) (node_in (bare_entries es ++ over_some fs) n [])) (and-true (nat_eq n e.0))
    ∙ ap (cond (nat_eq n e.0) (Some e.1)) (bare-in es fs n)

-- one over some is in the second
some-in : (es : List (ℕ × ℕ)) (fs : List Entry) (n i : ℕ) (is : List ℕ) → node_in (bare_entries es ++ over_some fs) n (i ∷ is) ≡ node_in fs n (i ∷ is)
some-in [] fs n i is = some-kept fs n i is
some-in (e ∷ es) fs n i is =
    ap (λ b. cond b (Some e.1) (node_in (bare_entries es ++ over_some fs) n (i ∷ is))) (and-false (nat_eq n e.0)) ∙ some-in es fs n i is

pub in-second : (es : List (ℕ × ℕ)) (fs : List Entry) (n : ℕ) (is : List ℕ) → false ≡ (length is == 0) → node_in (bare_entries es ++ over_some fs) n is ≡ node_in fs n is
in-second es fs n [] h = absurd (true≢false (sym h))
in-second es fs n (i ∷ is) h = some-in es fs n i is

swapped : (m n : ℕ) → nat_eq m n ≡ nat_eq n m
swapped m n = grind (arith, nat_tests)

-- after one over none was put in
pub put-bare : (es gs : List (ℕ × ℕ)) (fs : List Entry) (k v : ℕ) → ((n : ℕ) → lookup (nat_eq n) gs ≡ cond (nat_eq k n) (Some v) (lookup (nat_eq n) es)) → (m : ℕ) (js : List ℕ)
    → node_in (bare_entries gs ++ over_some fs) m js ≡ (if nat_eq m k && bytes_eq js [] then Some v else node_in (bare_entries es ++ over_some fs) m js)
put-bare es gs fs k v h m [] =
    bare-in gs fs m
    ∙ (h m
    ∙ ap₂ (λ b o. cond b (Some v) o) (swapped k m ∙ sym (and-true (nat_eq m k))) (sym (bare-in es fs m)))
put-bare es gs fs k v h m (j ∷ js) =
    some-in gs fs m j js
    ∙ (sym (some-in es fs m j js)
    ∙ sym (ap (λ b. cond b (Some v) (node_in (bare_entries es ++ over_some fs) m (j ∷ js))) (and-false (nat_eq m k))))

-- after one over some was
pub put-some : (es : List (ℕ × ℕ)) (fs gs : List Entry) (k v : ℕ) (is : List ℕ) → false ≡ (length is == 0)
    → ((m : ℕ) (js : List ℕ) → node_in gs m js ≡ (if nat_eq m k && bytes_eq js is then Some v else node_in fs m js)) → (m : ℕ) (js : List ℕ)
    → node_in (bare_entries es ++ over_some gs) m js ≡ (if nat_eq m k && bytes_eq js is then Some v else node_in (bare_entries es ++ over_some fs) m js)
put-some es fs gs k v [] l h m js = absurd (true≢false (sym l))
put-some es fs gs k v (i ∷ is) l h m [] =
    bare-in es gs m
    ∙ (sym (bare-in es fs m)
    ∙ sym (ap (λ b. cond b (Some v) (node_in (bare_entries es ++ over_some fs) m [])) (and-false (nat_eq m k))))
put-some es fs gs k v (i ∷ is) l h m (j ∷ js) =
    some-in es gs m j js
    ∙ (h m (j ∷ js)
    ∙ ap (cond (nat_eq m k && bytes_eq (j ∷ js) (i ∷ is)) (Some v)) (sym (some-in es fs m j js)))

pub no-insts : (xs : List ℕ) → true ≡ (length xs == 0) → xs ≡ []
no-insts [] h = refl
no-insts (x ∷ xs) h = absurd (true≢false (h ∙ eqb-suc-zero (length xs)))
