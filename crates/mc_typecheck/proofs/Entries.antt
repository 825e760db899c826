-- The entries of a table by their places.
use Rattle.std.proofs.Common.{◌≡◌, ℕ, zero, suc, ◌+◌, ◌<◌, ◌≤◌, Some, None, List, [], ◌∷◌, ◌++◌, map, length, get_or, take, refl, sym, ap, ap₂, ◌∙◌, arith, append_assoc}
use Rattle.std.specs.Prelude.{slice_get}
use Rattle.std.proofs.lemmas.List.{length-map, take_more, map_push}
use Rattle.mc_program.specs.Programs.{TypeTerm, variable_type, union_type, type_then}
use Rattle.mc_program.specs.PlainPrograms.{plain_type, plain_symbol, plain_pred, no_symbol, no_pred, plain_program, type_terms}
use Rattle.mc_program.specs.declared.program.Program.{Program}
use Rattle.mc_program.specs.declared.program.Symbol.{Symbol}
use Rattle.mc_program.specs.declared.program.Pred.{Pred}
use Rattle.mc_program.specs.declared.program.TypeDef.{TypeDef}
use Rattle.mc_program.specs.declared.ty.Ty as T
use Rattle.mc_program.specs.declared.ty.Ty.{Ty}
use Rattle.mc_accepted.specs.Resolving.{parameters_from, declared_type}
use Rattle.mc_source.specs.declared.name.Candidate.TheVariants as C
use Rattle.mc_typecheck.specs.Ties.{Meaning, of_name, of_number, of_text, of_equation, of_head, Declared}
use Rattle.mc_typecheck.specs.Searched.{plain_signature}
use Rattle.mc_typecheck.specs.Walked.{IsThere, Shows, entry}
use Rattle.mc_typecheck.specs.declared.table.Signatures.{Signatures}
use Rattle.mc_typecheck.specs.Tables.{parameters_in, IsTable}
use Rattle.mc_typecheck.specs.Fitting.{IsSomeTable}
use Rattle.mc_typecheck.specs.code.Entries.{renamed, rigid, none_declared, basics, constructor_in, constructors_in, renamed_in, rigid_in}
use Rattle.mc_typecheck.proofs.Bounds.{plain-Var, plain-Union}

-- AT A PLACE OF LISTS ONE AFTER THE OTHER

get_left : {A : Type 0} (xs ys : List A) (k : ℕ) → k < length xs → slice_get (xs ++ ys) k ≡ slice_get xs k
get_left [] ys k lt = let none : ⊥ = omega arith in absurd none
get_left (x ∷ xs) ys zero lt = refl
get_left (x ∷ xs) ys (suc k) lt = get_left xs ys k (omega arith)

get_right : {A : Type 0} (xs ys : List A) (k i : ℕ) → k ≡ length xs + i → slice_get (xs ++ ys) k ≡ slice_get ys i
get_right [] ys k i e = ap (slice_get ys) (let f : k ≡ i = omega (arith, e) in f)
get_right (x ∷ xs) ys zero i e = let none : ⊥ = omega (arith, e) in absurd none
get_right (x ∷ xs) ys (suc k) i e = get_right xs ys k i (omega (arith, e))

-- what stands at a place of predicates and the one behind them
pub at_pred : (f : List TypeTerm → Declared) (preds : List Pred) (k : ℕ) → k < suc (length preds) → slice_get (map (λ (p : Pred). f (map plain_type p.types)) preds ++ f [] ∷ []) k ≡ Some (f (get_or (map plain_pred preds) k no_pred).types)
at_pred f [] zero lt = refl
at_pred f [] (suc k) lt = let none : ⊥ = omega arith in absurd none
at_pred f (p ∷ preds) zero lt = refl
at_pred f (p ∷ preds) (suc k) lt = at_pred f preds k (omega arith)

pub at_symbol : (types : List TypeDef) (symbols : List Symbol) (k : ℕ) → k < length symbols → slice_get (constructors_in types symbols) k ≡ Some (renamed ((get_or (map plain_symbol symbols) k no_symbol).args ++ declared_type (get_or (map plain_symbol symbols) k no_symbol).of_type (parameters_in types (get_or (map plain_symbol symbols) k no_symbol).of_type) ∷ []))
at_symbol types [] k lt = let none : ⊥ = omega arith in absurd none
at_symbol types (s ∷ symbols) zero lt = refl
at_symbol types (s ∷ symbols) (suc k) lt = at_symbol types symbols k (omega arith)

-- THE WHOLE TABLE

module _ (program : Program) (t : Signatures) (is : map plain_signature t.all.items ≡ basics ++ (constructors_in program.types program.symbols ++ ((renamed_in program.preds ++ none_declared ∷ []) ++ (rigid_in program.preds ++ none_declared ∷ [])))) (symbols : t.symbols ≡ length program.symbols) (preds : t.preds ≡ suc (length program.preds)) where
  abbrev cs : List Declared
  cs = constructors_in program.types program.symbols

  abbrev ps : List Declared
  ps = renamed_in program.preds ++ none_declared ∷ []

  abbrev hs : List Declared
  hs = rigid_in program.preds ++ none_declared ∷ []

  cs_long : length cs ≡ t.symbols
  cs_long = length-map program.symbols (constructor_in program.types) ∙ sym symbols

  behind : {A : Type 0} (n : ℕ) (xs : List A) (x : A) → length xs ≡ n → length (xs ++ x ∷ []) ≡ suc n
  behind n [] x e = let f : n ≡ 0 = omega (arith, e) in ap suc (sym f)
  behind zero (y ∷ xs) x e = let none : ⊥ = omega (arith, e) in absurd none
  behind (suc n) (y ∷ xs) x e = ap suc (behind n xs x (omega (arith, e)))

  ps_long : length ps ≡ t.preds
  ps_long = behind (length program.preds) (renamed_in program.preds) none_declared (length-map program.preds (λ (p : Pred). renamed (map plain_type p.types))) ∙ sym preds

  whole : (k : ℕ) → entry t k ≡ slice_get (basics ++ (cs ++ (ps ++ hs))) k
  whole k = ap (λ (xs : List Declared). slice_get xs k) is

  con_at : (s : ℕ) → s < t.symbols → entry t (4 + s) ≡ slice_get cs s
  con_at s lt = whole (4 + s) ∙ get_right basics (cs ++ (ps ++ hs)) (4 + s) s (omega arith) ∙ get_left cs (ps ++ hs) s (omega (arith, cs_long, lt))

  pred_at : (p : ℕ) → p < t.preds → entry t (4 + (t.symbols + p)) ≡ slice_get ps p
  pred_at p lt =
      whole (4 + (t.symbols + p)) ∙ get_right basics (cs ++ (ps ++ hs)) (4 + (t.symbols + p)) (t.symbols + p) (omega arith)
      ∙ get_right cs (ps ++ hs) (t.symbols + p) p (omega (arith, cs_long))
      ∙ get_left ps hs p (omega (arith, ps_long, lt))

  head_at : (p : ℕ) → p < t.preds → entry t (4 + (t.symbols + (t.preds + p))) ≡ slice_get hs p
  head_at p lt =
      whole (4 + (t.symbols + (t.preds + p))) ∙ get_right basics (cs ++ (ps ++ hs)) (4 + (t.symbols + (t.preds + p))) (t.symbols + (t.preds + p)) (omega arith)
      ∙ get_right cs (ps ++ hs) (t.symbols + (t.preds + p)) (t.preds + p) (omega (arith, cs_long))
      ∙ get_right ps hs (t.preds + p) p (omega (arith, ps_long))

  shown : (m : Meaning) → IsThere t m → Shows (plain_program program) (parameters_in program.types) t m
  shown of_number h = (tt, whole 0)
  shown of_text h = (tt, whole 1)
  shown of_equation h = (tt, whole 2)
  shown (of_name (C.Char c)) h = (tt, whole 3)
  shown (of_name (C.Con s)) h = (h, con_at s h ∙ at_symbol program.types program.symbols s (omega (arith, h, symbols)))
  shown (of_name (C.Func f)) h = (h, pred_at f h ∙ at_pred renamed program.preds f (omega (arith, h, preds)))
  shown (of_name (C.Pred p)) h = (h, pred_at p h ∙ at_pred renamed program.preds p (omega (arith, h, preds)))
  shown (of_head p) h = (h, head_at p h ∙ at_pred rigid program.preds p (omega (arith, h, preds)))

  pub is_table : IsTable program t
  is_table = record { symbols = symbols; preds = preds; shows = shown }

pub some_table : (program : Program) (t : Signatures) → IsTable program t → IsSomeTable t
some_table program t is = record { source = plain_program program; parameters = parameters_in program.types; shows = is.shows }

-- MAPPED ONE BY ONE

pub mapped_more : {A B : Type 0} (f : A → B) (xs : List A) (k : ℕ) (d : A) (first now next : List B) (y : B) → k < length xs → now ≡ first ++ map f (take k xs) → next ≡ now ++ y ∷ [] → y ≡ f (get_or xs k d) → next ≡ first ++ map f (take (k + 1) xs)
mapped_more f xs k d first now next y lt so grown one =
    grown ∙ ap₂ (λ ys z. ys ++ z ∷ []) so one
    ∙ append_assoc first (map f (take k xs)) (f (get_or xs k d) ∷ [])
    ∙ ap (λ ys. first ++ ys) (sym (ap (map f) (take_more xs k d lt) ∙ map_push f (take k xs) (get_or xs k d)))

-- the first type variables
abbrev pub parameter_list : (first n : ℕ) → List TypeTerm
parameter_list first zero = []
parameter_list first (suc n) = variable_type first ∷ parameter_list (suc first) n

last_parameter : (first n : ℕ) → parameter_list first (suc n) ≡ parameter_list first n ++ variable_type (first + n) ∷ []
last_parameter first zero = let e : first + 0 ≡ first = omega arith in ap (λ v. variable_type v ∷ []) (sym e)
last_parameter first (suc n) =
    let e : suc first + n ≡ first + suc n = omega arith in
    ap (λ ts. variable_type first ∷ ts) (last_parameter (suc first) n ∙ ap (λ v. parameter_list (suc first) n ++ variable_type v ∷ []) e)

pub parameters_more : (n : ℕ) (now next : List Ty) → map plain_type now ≡ parameter_list 0 n → next ≡ now ++ T.Var n ∷ [] → map plain_type next ≡ parameter_list 0 (n + 1)
parameters_more n now next so grown =
    let e : suc n ≡ n + 1 = omega arith in
    let z : 0 + n ≡ n = omega arith in
    ap (map plain_type) grown ∙ map_push plain_type now (T.Var n)
    ∙ ap₂ (λ ts t. ts ++ t ∷ []) so (plain-Var n)
    ∙ ap (λ v. parameter_list 0 n ++ variable_type v ∷ []) (sym z)
    ∙ sym (last_parameter 0 n) ∙ ap (parameter_list 0) e

parameters_are : (first n : ℕ) → type_terms (parameter_list first n) ≡ parameters_from first n
parameters_are first zero = refl
parameters_are first (suc n) = ap (type_then (variable_type first)) (parameters_are (suc first) n)

pub parameters_whole : (n k : ℕ) (all : List Ty) → k ≡ n → map plain_type all ≡ parameter_list 0 k → type_terms (map plain_type all) ≡ parameters_from 0 n
parameters_whole n k all e so = ap type_terms (so ∙ ap (parameter_list 0) e) ∙ parameters_are 0 n

-- the union type over its own parameters
declared_as : (types : List TypeDef) (u n : ℕ) (args : List Ty) → type_terms (map plain_type args) ≡ parameters_from 0 n → declared_type u (parameters_in types u) ≡ union_type u (parameters_from 0 n) → plain_type (T.Union u args) ≡ declared_type u (parameters_in types u)
declared_as types u n args so is = plain-Union u args ∙ ap (union_type u) so ∙ sym is

params_at : (types : List TypeDef) (u : ℕ) (t : TypeDef) → u < length types → parameters_in types u ≡ Some (get_or types u t).params
params_at [] u t lt = let none : ⊥ = omega arith in absurd none
params_at (x ∷ types) zero t lt = refl
params_at (x ∷ types) (suc u) t lt = params_at types u t (omega arith)

params_past : (types : List TypeDef) (u : ℕ) → length types ≤ u → parameters_in types u ≡ None
params_past [] u le = refl
params_past (x ∷ types) zero le = let none : ⊥ = omega arith in absurd none
params_past (x ∷ types) (suc u) le = params_past types u (omega arith)

pub declared_here : (types : List TypeDef) (u n : ℕ) (t : TypeDef) (args : List Ty) → u < length types → t ≡ get_or types u t → n ≡ t.params → type_terms (map plain_type args) ≡ parameters_from 0 n → plain_type (T.Union u args) ≡ declared_type u (parameters_in types u)
declared_here types u n t args lt is same so =
    declared_as types u n args so (ap (declared_type u) (params_at types u t lt) ∙ ap (λ k. union_type u (parameters_from 0 k)) (ap (λ (x : TypeDef). x.params) (sym is) ∙ sym same))

pub declared_nowhere : (types : List TypeDef) (u n : ℕ) (args : List Ty) → length types ≤ u → n ≡ 0 → type_terms (map plain_type args) ≡ parameters_from 0 n → plain_type (T.Union u args) ≡ declared_type u (parameters_in types u)
declared_nowhere types u n args le none so =
    declared_as types u n args so (ap (declared_type u) (params_past types u le) ∙ ap (λ k. union_type u (parameters_from 0 k)) (sym none))

-- a constructor's arguments, and its own type behind them
pub constructor_entry : (types : List TypeDef) (s : Symbol) (own all : List Ty) (last : Ty) (y : Declared) → y ≡ renamed (map plain_type all) → all ≡ own ++ last ∷ [] → own ≡ s.args → plain_type last ≡ declared_type s.of_type (parameters_in types s.of_type) → y ≡ constructor_in types s
constructor_entry types s own all last y is grown same declared_so =
    is ∙ ap renamed (ap (map plain_type) grown ∙ map_push plain_type own last ∙ ap₂ (λ (xs : List Ty) (t : TypeTerm). map plain_type xs ++ t ∷ []) same declared_so)

-- lists one behind the other
pub in_order : (n0 n1 n2 n3 n4 a b c d : List Declared) → n0 ≡ [] → n1 ≡ n0 ++ a → n2 ≡ n1 ++ b → n3 ≡ n2 ++ c → n4 ≡ n3 ++ d → n4 ≡ a ++ (b ++ (c ++ d))
in_order n0 n1 n2 n3 n4 a b c d e0 e1 e2 e3 e4 =
    e4 ∙ ap (λ l. l ++ d) (e3 ∙ ap (λ l. l ++ c) (e2 ∙ ap (λ l. l ++ b) (e1 ∙ ap (λ l. l ++ a) e0)))
    ∙ append_assoc (a ++ b) c d ∙ append_assoc a b (c ++ d)
