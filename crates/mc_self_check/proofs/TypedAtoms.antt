-- Which atoms of a goal are typed.
use Rattle.std.proofs.lemmas.Bool.{eqb-true, eq-eqb}
use Rattle.std.proofs.lemmas.List.{get_or-map, get_or_past, length-map}
use Rattle.std.proofs.Common.{◌≡◌, ◌↔◌, ◌≤◌, ◌<◌, ℕ, ℤ, Bool, true, false, nat_eq, ◌&&◌, inl, inr, List, [], ◌∷◌, length, map, get_or, Option, Some, None, refl, sym, ap, ◌∙◌, subst, arith}
use Rattle.std.specs.Prelude.{IsTrue, FitsSigned, if◌then◌else◌}
use Rattle.std.specs.Char.{IsScalar}
use Rattle.std.specs.Str.{IsUtf8}
use Rattle.std.specs.Int.{w64}
use Rattle.mc_program.specs.Values.{Val, int, char, str, plain_value, plain_value_step}
use Rattle.mc_program.specs.declared.value.Value.{Value}
use Rattle.mc_program.specs.declared.value.Value as D
use Rattle.mc_program.specs.declared.value.Value.TheOpen as V
use Rattle.mc_program.specs.declared.value.Value.TheVariants.{rolls-Int, rolls-Char, rolls-Str}
use Rattle.mc_program.specs.declared.value.Value.TheFolds.{fold-roll-Value}
use Rattle.mc_program.specs.declared.ty.Ty as ty
use Rattle.mc_program.specs.Programs.{TypeTerm, union_type, TypeTerms, Source}
use Rattle.mc_program.specs.PlainPrograms.{plain_program, plain_pred, plain_symbol, plain_type, no_pred, no_symbol}
use Rattle.mc_program.specs.declared.program.Program.{Program}
use Rattle.mc_program.specs.declared.program.Symbol.{Symbol}
use Rattle.mc_model.specs.Lists.{In, is_in}
use Rattle.mc_model.specs.Types.{IsValue, instance_of, type_at}
use Rattle.mc_model.specs.Flat as F
use Rattle.mc_model.specs.PlainGoals.{plain_flat, plain_flat_step}
use Rattle.mc_model.specs.declared.flat.Flat as FD
use Rattle.mc_model.specs.declared.flat.Flat.TheOpen as FO
use Rattle.mc_model.specs.declared.flat.Flat.TheVariants as FV
use Rattle.mc_model.specs.declared.flat.Flat.TheFolds.{fold-roll-Flat}
use Rattle.mc_accepted.specs.Typing.{ConstantOf, constructor_types}
use Rattle.mc_self_check.proofs.TypeViews.{plain_type-Int, plain_type-Char, plain_type-Str}

-- a constant is of one builtin type
abbrev Typed : Source → Value → TypeTerm → Type 0
Typed P v t = IsValue P (plain_value v) × ConstantOf (plain_value v) t

pub int_typed : (P : Source) (t : TypeTerm) (n : ℤ) (v : Value) (b : Bool) → v ≡ D.Int n → FitsSigned w64 n → (IsTrue b ↔ (t ≡ plain_type ty.Int)) → IsTrue b ↔ Typed P v t
int_typed P t n v b is fits test =
    let view : plain_value v ≡ int n = ap plain_value (is ∙ sym (rolls-Int n)) ∙ fold-roll-Value Val plain_value_step (V.Int n) in
    subst (λ w. IsTrue b ↔ (IsValue P w × ConstantOf w t)) (sym view)
    (λ h. ((fits, refl), test.0 h ∙ plain_type-Int), λ h. test.1 (h.1 ∙ sym plain_type-Int))

pub char_typed : (P : Source) (t : TypeTerm) (n : ℕ) (v : Value) (b : Bool) → v ≡ D.Char n → IsScalar n → (IsTrue b ↔ (t ≡ plain_type ty.Char)) → IsTrue b ↔ Typed P v t
char_typed P t n v b is fits test =
    let view : plain_value v ≡ char n = ap plain_value (is ∙ sym (rolls-Char n)) ∙ fold-roll-Value Val plain_value_step (V.Char n) in
    subst (λ w. IsTrue b ↔ (IsValue P w × ConstantOf w t)) (sym view)
    (λ h. ((fits, refl), test.0 h ∙ plain_type-Char), λ h. test.1 (h.1 ∙ sym plain_type-Char))

str_view : (bytes : List ℕ) (v : Value) → v ≡ D.Str bytes → plain_value v ≡ str bytes
str_view bytes v is = ap plain_value (is ∙ sym (rolls-Str bytes)) ∙ fold-roll-Value Val plain_value_step (V.Str bytes)

pub str_typed : (P : Source) (t : TypeTerm) (bytes : List ℕ) (v : Value) (b : Bool) → v ≡ D.Str bytes → IsUtf8 bytes → (IsTrue b ↔ (t ≡ plain_type ty.Str)) → IsTrue b ↔ Typed P v t
str_typed P t bytes v b is fits test =
    subst (λ w. IsTrue b ↔ (IsValue P w × ConstantOf w t)) (sym (str_view bytes v is))
    (λ h. ((fits, refl), test.0 h ∙ plain_type-Str), λ h. test.1 (h.1 ∙ sym plain_type-Str))

pub str_untyped : (P : Source) (t : TypeTerm) (bytes : List ℕ) (v : Value) → v ≡ D.Str bytes → (IsUtf8 bytes → ⊥) → Typed P v t → ⊥
str_untyped P t bytes v is unfit h =
    unfit (subst (λ w. IsValue P w × ConstantOf w t) (str_view bytes v is) h).0.0

-- what a program has past its ends
pub no_types_past : (P : Program) (p : ℕ) → length P.preds ≤ p → ((plain_program P).preds p).types ≡ []
no_types_past P p le =
    ap (λ x. x.types) (get_or_past (map plain_pred P.preds) p no_pred (omega (arith, length-map P.preds plain_pred)))

pub symbol_there : (P : Program) (s : ℕ) (d : Symbol) → s < length P.symbols → d ≡ get_or P.symbols s d → (plain_program P).symbols s ≡ plain_symbol d
symbol_there P s d lt is =
    get_or-map plain_symbol P.symbols s d no_symbol lt ∙ ap plain_symbol (sym is)

pub symbol_past : (P : Program) (s : ℕ) → length P.symbols ≤ s → (plain_program P).symbols s ≡ no_symbol
symbol_past P s le = get_or_past (map plain_symbol P.symbols) s no_symbol (omega (arith, length-map P.symbols plain_symbol))

-- membership, told by the test
tested_here : (c d : Bool) → c ≡ true → (if c then true else d) ≡ true
tested_here true d e = refl
tested_here false d e = cc

tested_there : (c d : Bool) → d ≡ true → (if c then true else d) ≡ true
tested_there true d e = refl
tested_there false d e = e

pub in_tested : (x : ℕ) (xs : List ℕ) → In x xs → is_in x xs ≡ true
in_tested x [] i = absurd i
in_tested x (y ∷ ys) (inl e) = tested_here (nat_eq x y) (is_in x ys) (eq-eqb x y e)
in_tested x (y ∷ ys) (inr i) = tested_there (nat_eq x y) (is_in x ys) (in_tested x ys i)

by_test : (x y : ℕ) (ys : List ℕ) (c : Bool) → nat_eq x y ≡ c → (is_in x ys ≡ true → In x ys) → (if c then true else is_in x ys) ≡ true → In x (y ∷ ys)
by_test x y ys true e rest h = inl (eqb-true x y e)
by_test x y ys false e rest h = inr (rest h)

pub tested_in : (x : ℕ) (xs : List ℕ) → is_in x xs ≡ true → In x xs
tested_in x [] h = cc
tested_in x (y ∷ ys) h = by_test x y ys (nat_eq x y) refl (tested_in x ys) h

-- the arguments of a constructor of a union type
taken : (b : Bool) (ts : List TypeTerm) → b ≡ true → (if b then Some ts else None) ≡ Some ts
taken true ts e = refl
taken false ts e = cc

both : (a b : Bool) → a ≡ true → b ≡ true → (a && b) ≡ true
both true b e f = f
both false b e f = cc

pub arguments_there : (P : Source) (s u : ℕ) (ts : TypeTerms) → In s (P.symbols_of u) → (P.symbols s).of_type ≡ u → constructor_types P s (union_type u ts) ≡ Some (map (instance_of (type_at ts)) (P.symbols s).args)
arguments_there P s u ts i of =
    taken (nat_eq (P.symbols s).of_type u && is_in s (P.symbols_of u)) _
    (both _ _ (eq-eqb (P.symbols s).of_type u of) (in_tested s (P.symbols_of u) i))

was_taken : (a b : Bool) (ts us : List TypeTerm) → (if a && b then Some ts else None) ≡ Some us → (a ≡ true) × (b ≡ true)
was_taken true true ts us h = (refl, refl)
was_taken true false ts us h = cc
was_taken false b ts us h = cc

pub arguments_listed : (P : Source) (s u : ℕ) (ts : TypeTerms) (us : List TypeTerm) → constructor_types P s (union_type u ts) ≡ Some us → In s (P.symbols_of u) × ((P.symbols s).of_type ≡ u)
arguments_listed P s u ts us h =
    let b = was_taken (nat_eq (P.symbols s).of_type u) (is_in s (P.symbols_of u)) _ us h in
    (tested_in s (P.symbols_of u) b.1, eqb-true (P.symbols s).of_type u b.0)

pub some_told : (o : Option (List TypeTerm)) (made xs : List TypeTerm) (b : Bool) → o ≡ Some made → (IsTrue b ↔ (xs ≡ made)) → IsTrue b ↔ (o ≡ Some xs)
some_told o made xs b e test = (
  λ h. e ∙ ap (λ l. Some l) (sym (test.0 h)),
  λ k. let one : Some xs ≡ Some made = sym k ∙ e in test.1 cc,
)

pub none_told : (T : ℕ → TypeTerm) (xs : List ℕ) (b : Bool) → b ≡ nat_eq (length xs) 0 → IsTrue b ↔ (map T xs ≡ [])
none_told T [] b test = (λ h. refl, λ e. test)
none_told T (x ∷ xs) b test = (
  λ h. let none : length (x ∷ xs) ≡ 0 = eqb-true (length (x ∷ xs)) 0 (sym test ∙ h) in absurd (omega arith),
  λ e. cc,
)

pub flat_call : (p : ℕ) (xs : List ℕ) → plain_flat (FD.Call p xs) ≡ F.Call p xs
flat_call p xs = ap plain_flat (sym (FV.rolls-Call p xs)) ∙ fold-roll-Flat F.Flat_goal plain_flat_step (FO.Call p xs)
