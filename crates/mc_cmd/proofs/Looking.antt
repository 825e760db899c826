-- Whether a program has the symbols of values: what is looked at, and what is left then.
use Rattle.std.proofs.Common.{◌≡◌, ℕ, zero, suc, ◌+◌, ◌-◌, ◌<◌, ◌≤◌, ◌↔◌, Bool, true, false, List, [], ◌∷◌, ◌++◌, map, length, take, drop, get_or, nat_lt, refl, sym, ap, ◌∙◌, subst, arith}
use Rattle.std.specs.Prelude.{All, IsTrue}
use Rattle.std.proofs.lemmas.List.{take_all}
use Rattle.std.proofs.lemmas.Bool.{lt-ltb, ltb-true}
use Rattle.std.specs.Borrow.{Bor}
use Rattle.mc_program.specs.Values.{Val, int, char, str, con, state, vals, plain_value}
use Rattle.mc_program.specs.declared.value.Value.{Value}
use Rattle.mc_program.specs.Printed.{SymbolsBelow}
use Rattle.mc_cmd.specs.code.Looking.{HasNoSymbol, AreBelow, LeftBelow, looks, all_looks, looks_left, IsLeft, IsLooked}

abbrev Slices : Type 0
Slices = List (Bor (List Value))

-- all the symbols are below n where each value's are
pub all_below : (n : ℕ) (values : List Value) → AreBelow n values → All (λ (v : Value). SymbolsBelow n (plain_value v)) values
all_below n [] b = λ k x h. absurd (omega (arith, h))
all_below n (v ∷ vs) b = all_then v vs b.0 (all_below n vs b.1)
  where
    all_then : (v : Value) (vs : List Value) → SymbolsBelow n (plain_value v) → All (λ (v : Value). SymbolsBelow n (plain_value v)) vs → All (λ (v : Value). SymbolsBelow n (plain_value v)) (v ∷ vs)
    all_then v vs p a zero e h = p
    all_then v vs p a (suc k) e h = a k e (omega (arith, h))

pub below_all : (n : ℕ) (values : List Value) → All (λ (v : Value). SymbolsBelow n (plain_value v)) values → AreBelow n values
below_all n [] a = tt
below_all n (v ∷ vs) a = (a 0 v (omega arith), below_all n vs (λ k e h. a (suc k) e (omega (arith, h))))

-- what is left behind what is left
left_put : (n : ℕ) (left more : Slices) → LeftBelow n (left ++ more) ↔ (LeftBelow n left × LeftBelow n more)
left_put n [] more = (λ b. (tt, b), λ b. b.1)
left_put n (v ∷ left) more =
    (λ b. let r = (left_put n left more).0 b.1 in ((b.0, r.0), r.1), λ b. (b.0.0, (left_put n left more).1 (b.0.1, b.1)))

looks_put : (left more : Slices) → looks_left (left ++ more) ≡ looks_left left + looks_left more
looks_put [] more = omega arith
looks_put (v ∷ left) more = omega (arith, looks_put left more)

-- values are put
pub put_some : (values : Bor (List Value)) (before after : Slices) → after ≡ before ++ (values ∷ []) → IsLeft values.now before after
put_some values before after e = subst (IsLeft values.now before) (sym e) (record {
  below = λ n. (λ b. let r = (left_put n before (values ∷ [])).0 b in (r.1.0, r.0), λ b. (left_put n before (values ∷ [])).1 (b.1, (b.0, tt)));
  most = omega (arith, looks_put before (values ∷ []));
})

-- or there are none
pub put_none : (values : List Value) (before : Slices) → values ≡ [] → IsLeft values before before
put_none values before e = subst (λ vs. IsLeft vs before before) (sym e) (record {
  below = λ n. (λ b. (tt, b), λ b. b.1);
  most = omega arith;
})

-- there is none to look at
pub looked_none : (n : ℕ) (values : List Value) (before : Slices) → values ≡ [] → IsLooked n values before before true
looked_none n values before e = subst (λ vs. IsLooked n vs before before true) (sym e) (record {
  below = (λ b. (tt, b.1), λ b. (refl, b.1));
  fewer = omega arith;
})

-- a constructor
pub looked_con : (n : ℕ) (first : Value) (rest : List Value) (symbol : ℕ) (args : List Value) (before mid after : Slices) (named : Bool) → plain_value first ≡ con symbol (vals (map plain_value args)) → IsLeft rest before mid → IsLeft args mid after → (IsTrue named ↔ (symbol < n)) → IsLooked n (first ∷ rest) before after named
looked_con n first rest symbol args before mid after named e r a t = record {
  below = (
    (λ b. let x = (a.below n).0 b.1 in let y = (r.below n).0 x.1 in ((subst (SymbolsBelow n) (sym e) (t.0 b.0, x.0), y.0), y.1)),
    (λ b. let z = subst (SymbolsBelow n) e b.0.0 in (t.1 z.0, (a.below n).1 (z.1, (r.below n).1 (b.0.1, b.1)))),
  );
  fewer = omega (arith, r.most, a.most, ap looks e);
}

no_symbol_below : (n : ℕ) (v : Val) → HasNoSymbol v → SymbolsBelow n v
no_symbol_below n (int i) h = tt
no_symbol_below n (char c) h = tt
no_symbol_below n (str t) h = tt
no_symbol_below n (con s vs) h = absurd h
no_symbol_below n (state t k) h = tt

-- or another value
pub looked_other : (n : ℕ) (first : Value) (rest : List Value) (before after : Slices) → HasNoSymbol (plain_value first) → IsLeft rest before after → IsLooked n (first ∷ rest) before after true
looked_other n first rest before after h r = record {
  below = ((λ b. let y = (r.below n).0 b.1 in ((no_symbol_below n (plain_value first) h, y.0), y.1)), (λ b. (refl, (r.below n).1 (b.0.1, b.1))));
  fewer = omega (arith, r.most);
}

-- what is taken is the last of what is left
pub next_looks : (next : Bor (List Value)) (all before : Slices) → all ≡ before ++ (next ∷ []) → looks_left all ≡ suc (all_looks (vals (map plain_value next.now))) + looks_left before
next_looks next all before e = let d : looks_left all ≡ looks_left (before ++ (next ∷ [])) = ap looks_left e in omega (arith, d, looks_put before (next ∷ []))

next_left : (n : ℕ) (next : Bor (List Value)) (all before : Slices) → all ≡ before ++ (next ∷ []) → LeftBelow n all ↔ (AreBelow n next.now × LeftBelow n before)
next_left n next all before e = subst (λ left. LeftBelow n left ↔ (AreBelow n next.now × LeftBelow n before)) (sym e)
    (λ b. let r = (left_put n before (next ∷ [])).0 b in (r.1.0, r.0), λ b. (left_put n before (next ∷ [])).1 (b.1, (b.0, tt)))

module _ (n : ℕ) (values : List Value) (next : Bor (List Value)) (all before after : Slices) (named : Bool) where
  -- what is left then are below n where all are
  pub next_below : all ≡ before ++ (next ∷ []) → LeftBelow n all ↔ AreBelow n values → IsLooked n next.now before after named → named ≡ true → LeftBelow n after ↔ AreBelow n values
  next_below e i l t =
      (λ b. i.0 ((next_left n next all before e).1 (l.below.0 (t, b))), λ b. (l.below.1 ((next_left n next all before e).0 (i.1 b))).1)

  -- and none is where a symbol isn't
  pub then_not : all ≡ before ++ (next ∷ []) → LeftBelow n all ↔ AreBelow n values → IsLooked n next.now before after named → named ≡ false → IsTrue false ↔ All (λ (v : Value). SymbolsBelow n (plain_value v)) values
  then_not e i l f =
      (λ b. cc, λ a. let t = (l.below.1 ((next_left n next all before e).0 (i.1 (below_all n values a)))).0 in sym f ∙ t)

-- nothing is left
pub all_of : (n : ℕ) (values : List Value) (left : Slices) → length left ≡ 0 → LeftBelow n left ↔ AreBelow n values → IsTrue true ↔ All (λ (v : Value). SymbolsBelow n (plain_value v)) values
all_of n values [] e i = (λ t. all_below n values (i.0 tt), λ a. refl)
all_of n values (v ∷ left) e i = absurd (omega (arith, e))

pub first_and_rest : (values : List Value) (first : Value) → 1 ≤ length values → first ≡ get_or values 0 first → (first ∷ take (length values - 1) (drop 1 values)) ≡ values
first_and_rest [] first l e = absurd (omega (arith, l))
first_and_rest (v ∷ vs) first l e = cc (e, take_all (length (v ∷ vs) - 1) vs (omega arith))

pub is_below : (k n : ℕ) → IsTrue (nat_lt k n) ↔ (k < n)
is_below k n = (λ t. ltb-true k n t, λ l. lt-ltb k n l)
