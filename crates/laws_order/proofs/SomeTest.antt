-- Some test tells inclusion: paths up to a length are told, and a length suffices.
use Rattle.std.proofs.Common.{◌≡◌, ◌≢◌, ◌⊎◌, inl, inr, ℕ, zero, suc, ◌+◌, ◌<◌, ◌≤◌, List, [], ◌∷◌, ◌++◌, map, length, get_or, replicate, Bool, true, false, cond, nat_eq, ◌&&◌, Option, Some, None, refl, sym, ap, ◌∙◌, subst, ⊎_elim, arith}
use Rattle.std.specs.Prelude.{Contains}
use Rattle.std.proofs.lemmas.Bool.{cases_lt}
use Rattle.std.proofs.lemmas.List.{get_or-replicate, get_or_past, length-replicate}
use Rattle.std.proofs.lemmas.List.Elements.{Contains-get_or}
use Rattle.std.proofs.lemmas.Option.{none-some, same_Some}
use Rattle.mc_program.specs.Programs.{TypeTerm, int_type, char_type, string_type, state_type, variable_type, union_type, TypeTerms, Constructor, Source}
use Rattle.mc_model.specs.Types.{takes, argument_types, instance_of, type_at}
use Rattle.mc_model.specs.Insts.{Listed, InstNode, free, ground, unique, dead, bound, Graph, Lists, AllowsSymbol, AllowsConstants}
use Rattle.mc_model.specs.Lists.{In, is_in, from}
use Rattle.mc_accepted.specs.Inclusion.{Mark, sole, shared, gone, Tip, symbol_tip, constant_tip, state_tip, Path, AllowsMark, OnTypes, AllowsTip, Allows, NoMore, IncludedNodes}
use Rattle.mc_accepted.specs.Proper.{ProperGraph}
use Rattle.mc_accepted.specs.Fits.{FitsInsts}
use Rattle.mc_accepted.specs.Forms.{Form, at, only, either, Forms, no_forms, form_then}
use Rattle.mc_accepted.specs.InOrder.{SameName, FormAllows, FormsAllow, top, FormIncluded}
use Rattle.laws_language.proofs.FlatGoals.{in_left, in_right}
use Rattle.laws_language.proofs.FlatWhole.{is_in_true}
use Rattle.laws_language.proofs.Inclusions.{Over, allows_over, over_allows, over_one, over_length, goes_down, comes_up}
use Rattle.laws_order.specs.SomeTest.{InstsEnd, SymbolsEnd, TypesMet, SomeTestTells, NodesAreTold}
use Rattle.laws_order.proofs.Telling.{Told, as_told, both_told, implied_told, numbers_told, rows_told, bools_told, each_told, below_told, yes, yes_holds, holds_yes, Held, held_left, held_right, contained, counted, counted_less, counted_same, stands}

-- the symbols of a type, where all from m on are one
abbrev symbols_at : Source → (m : ℕ) → TypeTerm → List ℕ
symbols_at P m (union_type u ts) = P.symbols_of u
symbols_at P m (variable_type v) = from 0 (suc m)
symbols_at P m _ = []

in_range : (x n k : ℕ) → n ≤ x → x < n + k → In x (from n k)
in_range x n zero a b = absurd (omega (arith, a, b))
in_range x n (suc k) a b = by (numbers_told x n) (λ d. in_range x (suc n) k (let q : x ≢ n = d in omega (arith, a, q)) (omega (arith, b)))
  where
    by : Told (x ≡ n) → ((x ≡ n → ⊥) → In x (from (suc n) k)) → In x (from n (suc k))
    by (inl e) later = inl e
    by (inr d) later = inr (later d)

-- a node allows a symbol, or a constant, or a state, or not
lists_told : (P : Source) (ls : List Listed) (s : ℕ) → Told ((is : List ℕ) × Lists P ls s (λ js. js ≡ is))
lists_told P [] s = inr (λ h. h.1)
lists_told P (l ∷ ls) s = by (both_told (l.name ≡ (P.symbols s).name.bytes) (l.arity ≡ (P.symbols s).name.arity) (rows_told l.name (P.symbols s).name.bytes) (numbers_told l.arity (P.symbols s).name.arity)) (lists_told P ls s)
  where
    by : Told ((l.name ≡ (P.symbols s).name.bytes) × (l.arity ≡ (P.symbols s).name.arity)) → Told ((is : List ℕ) × Lists P ls s (λ js. js ≡ is)) → Told ((is : List ℕ) × Lists P (l ∷ ls) s (λ js. js ≡ is))
    by (inl e) d = inl (l.args, inl (e.0, e.1, refl))
    by (inr n) (inl h) = inl (h.0, inr h.1)
    by (inr n) (inr m) = inr (λ h. ⊎_elim (λ a. n (a.0, a.1)) (λ b. m (h.0, b)) h.1)

over_told : (P : Source) (N : InstNode) (i s : ℕ) → Told ((is : List ℕ) × Over P N i s is)
over_told P free i s = inr (λ h. h.1)
over_told P ground i s = inl (replicate (P.symbols s).name.arity i, refl)
over_told P unique i s = inl (replicate (P.symbols s).name.arity i, refl)
over_told P dead i s = inl (replicate (P.symbols s).name.arity i, refl)
over_told P (bound ls) i s = lists_told P ls s

constants_told : (N : InstNode) → Told (AllowsConstants N)
constants_told free = inr (λ h. h)
constants_told ground = inl tt
constants_told unique = inl tt
constants_told dead = inl tt
constants_told (bound ls) = inr (λ h. h)

mark_told : (N : InstNode) (m : Mark) → Told (AllowsMark N m)
mark_told free m = inr (λ h. h)
mark_told ground sole = inl tt
mark_told ground shared = inl tt
mark_told ground gone = inr (λ h. h)
mark_told unique sole = inl tt
mark_told unique shared = inr (λ h. h)
mark_told unique gone = inr (λ h. h)
mark_told dead m = inl tt
mark_told (bound ls) m = inr (λ h. h)

-- what a node allows of one symbol it allows of another with the same name
same_lists : (P : Source) (ls : List Listed) (r s : ℕ) (Q : List ℕ → Type 0) → P.symbols r ≡ P.symbols s → Lists P ls r Q → Lists P ls s Q
same_lists P [] r s Q e h = h
same_lists P (l ∷ ls) r s Q e h = ⊎_elim (λ a. inl (a.0 ∙ ap (λ (c : Constructor). c.name.bytes) e, a.1 ∙ ap (λ (c : Constructor). c.name.arity) e, a.2)) (λ b. inr (same_lists P ls r s Q e b)) h

same_allows : (P : Source) (N : InstNode) (i r s : ℕ) (Q : List ℕ → Type 0) → P.symbols r ≡ P.symbols s → AllowsSymbol P N i r Q → AllowsSymbol P N i s Q
same_allows P free i r s Q e h = h
same_allows P ground i r s Q e h = subst (λ (c : Constructor). Q (replicate c.name.arity i)) e h
same_allows P unique i r s Q e h = subst (λ (c : Constructor). Q (replicate c.name.arity i)) e h
same_allows P dead i r s Q e h = subst (λ (c : Constructor). Q (replicate c.name.arity i)) e h
same_allows P (bound ls) i r s Q e h = same_lists P ls r s Q e h

-- a union takes no builtin type
no_union : (b : TypeTerm) (u : ℕ) (ts : TypeTerms) → takes b (union_type u ts) ≡ true → ⊥
no_union int_type u ts e = cc
no_union char_type u ts e = cc
no_union string_type u ts e = cc
no_union state_type u ts e = cc
no_union (variable_type v) u ts e = cc
no_union (union_type w us) u ts e = cc

-- with what types a constructor stands
on_some : (o : Option (List TypeTerm)) (A : List TypeTerm → Type 0) → OnTypes o A → (ts : List TypeTerm) × (o ≡ Some ts) × A ts
on_some None A h = absurd h
on_some (Some ts) A h = (ts, refl, h)

to_some : (o : Option (List TypeTerm)) (A : List TypeTerm → Type 0) (ts : List TypeTerm) → o ≡ Some ts → A ts → OnTypes o A
to_some o A ts e h = subst (λ p. OnTypes p A) (sym e) h

types_told : (o : Option (List TypeTerm)) → ((ts : List TypeTerm) × (o ≡ Some ts)) ⊎ ((ts : List TypeTerm) → o ≡ Some ts → ⊥)
types_told None = inr (λ ts e. none-some ts e)
types_told (Some ts) = inl (ts, refl)

module _ (P : Source) (m : ℕ) (ends : SymbolsEnd P m) where
  abbrev Stands : ℕ → TypeTerm → List TypeTerm → Type 0
  Stands s t ts = (r : ℕ) × In r (symbols_at P m t) × (argument_types P r t ≡ Some ts) × (P.symbols r ≡ P.symbols s)

  -- one of the type's symbols stands for each
  pub symbol_for : (s : ℕ) (t : TypeTerm) (ts : List TypeTerm) → argument_types P s t ≡ Some ts → Stands s t ts
  symbol_for s int_type ts e = absurd (none-some ts e)
  symbol_for s char_type ts e = absurd (none-some ts e)
  symbol_for s string_type ts e = absurd (none-some ts e)
  symbol_for s state_type ts e = absurd (none-some ts e)
  symbol_for s (union_type u us) ts e = (s, by (nat_eq (P.symbols s).of_type u) (is_in s (P.symbols_of u)) refl e, e, refl)
    where
      by : (a b : Bool) → is_in s (P.symbols_of u) ≡ b → cond (a && b) (Some (map (instance_of (type_at us)) (P.symbols s).args)) None ≡ Some ts → In s (P.symbols_of u)
      by true true q e = is_in_true s (P.symbols_of u) q
      by true false q e = absurd (none-some ts e)
      by false b q e = absurd (none-some ts e)
  symbol_for s (variable_type v) ts e = ⊎_elim here there (cases_lt s m)
    where
      here : s < m → Stands s (variable_type v) ts
      here lt = (s, in_range s 0 (suc m) (omega arith) (omega (arith, lt)), e, refl)

      there : m ≤ s → Stands s (variable_type v) ts
      there le = (m, in_range m 0 (suc m) (omega arith) (omega arith), ap (λ (c : Constructor). Some (map (λ (t : TypeTerm). variable_type v) c.args)) (sym (ends s le)) ∙ e, sym (ends s le))

-- three things that are compared: two nodes and a type
abbrev Triple : Type 0
Triple = ℕ × ℕ × TypeTerm

module _ (P : Source) (G : Graph) (proper : ProperGraph G) (m : ℕ) (ends : SymbolsEnd P m) where
  abbrev argument : List TypeTerm → ℕ → TypeTerm
  argument ts k = get_or ts k (variable_type 0)

  abbrev Tips : ℕ → ℕ → TypeTerm → Type 0
  Tips i j t = (e : Tip) → AllowsTip P (G i) i t e → AllowsTip P (G j) j t e

  -- Q holds of the insts of a constructor's arguments
  abbrev StepAt : (ℕ → ℕ → TypeTerm → Type 0) → ℕ → ℕ → ℕ → TypeTerm → Type 0
  StepAt Q s i j t =
      (ts : List TypeTerm) (is js : List ℕ) → argument_types P s t ≡ Some ts → Over P (G i) i s is → Over P (G j) j s js → (k : ℕ) → k < length is → Q (get_or is k 0) (get_or js k 0) (argument ts k)

  abbrev Step : (ℕ → ℕ → TypeTerm → Type 0) → ℕ → ℕ → TypeTerm → Type 0
  Step Q i j t = (s : ℕ) → StepAt Q s i j t

  -- no path shorter than that is allowed that isn't allowed there
  abbrev Level : ℕ → ℕ → ℕ → TypeTerm → Type 0
  Level n i j t = (path : Path) (e : Tip) → length path < n → Allows P G path e i t → Allows P G path e j t

  level_tips : (n i j : ℕ) (t : TypeTerm) → Level (suc n) i j t → Tips i j t
  level_tips n i j t h e a = h [] e (omega arith) a

  level_step : (n i j : ℕ) (t : TypeTerm) → Level (suc n) i j t → Step (Level n) i j t
  level_step n i j t h s ts is js types over under k lt path e l a =
      comes_up P G proper i j s t is js ts types over under k path e (h ((s, k) ∷ path) e (omega (arith, l)) (goes_down P G proper i j s t is js ts types over under k path e lt a))

  level_up : (n i j : ℕ) (t : TypeTerm) → Tips i j t → Step (Level n) i j t → Level (suc n) i j t
  level_up n i j t tips step [] e l a = tips e a
  level_up n i j t tips step ((s, k) ∷ path) e l a =
      let r = on_some (argument_types P s t) (λ ts. AllowsSymbol P (G i) i s (λ is. (k < length is) × Allows P G path e (get_or is k 0) (argument ts k))) a in
      let ts = r.0 in
      let q = allows_over P (G i) i s (λ is. (k < length is) × Allows P G path e (get_or is k 0) (argument ts k)) r.2 in
      let is = q.0 in
      let there = on_some (argument_types P s t) (λ us. AllowsSymbol P (G j) j s (λ js. Unit {0})) (tips (symbol_tip s) (to_some (argument_types P s t) (λ us. AllowsSymbol P (G i) i s (λ js. Unit {0})) ts r.1 (over_allows P (G i) i s (λ js. Unit {0}) is q.1 tt))) in
      let w = allows_over P (G j) j s (λ js. Unit {0}) there.2 in
      let js = w.0 in
      let as_long : length js ≡ length is = over_length P (G j) j s js (proper j) w.1 ∙ sym (over_length P (G i) i s is (proper i) q.1) in
      goes_down P G proper j i s t js is ts r.1 w.1 q.1 k path e (omega (arith, as_long, q.2.0)) (step s ts is js r.1 q.1 w.1 k q.2.0 path e (omega (arith, l)) q.2.1)

  -- which tips are allowed is told
  symbol_told : (N : InstNode) (i s : ℕ) (t : TypeTerm) → Told (AllowsTip P N i t (symbol_tip s))
  symbol_told N i s t = by (types_told (argument_types P s t)) (over_told P N i s)
    where
      by : ((ts : List TypeTerm) × (argument_types P s t ≡ Some ts)) ⊎ ((ts : List TypeTerm) → argument_types P s t ≡ Some ts → ⊥) → Told ((is : List ℕ) × Over P N i s is) → Told (AllowsTip P N i t (symbol_tip s))
      by (inr n) d = inr (λ a. let r = on_some (argument_types P s t) (λ ts. AllowsSymbol P N i s (λ is. Unit {0})) a in n r.0 r.1)
      by (inl y) (inl o) = inl (to_some (argument_types P s t) (λ ts. AllowsSymbol P N i s (λ is. Unit {0})) y.0 y.1 (over_allows P N i s (λ is. Unit {0}) o.0 o.1 tt))
      by (inl y) (inr n) = inr (λ a. let r = on_some (argument_types P s t) (λ ts. AllowsSymbol P N i s (λ is. Unit {0})) a in let q = allows_over P N i s (λ is. Unit {0}) r.2 in n (q.0, q.1))

  same_tip : (N : InstNode) (i r s : ℕ) (t : TypeTerm) (ts : List TypeTerm) → argument_types P s t ≡ Some ts → P.symbols r ≡ P.symbols s → AllowsTip P N i t (symbol_tip r) → AllowsTip P N i t (symbol_tip s)
  same_tip N i r s t ts types e a =
      let q = on_some (argument_types P r t) (λ us. AllowsSymbol P N i r (λ is. Unit {0})) a in
      to_some (argument_types P s t) (λ us. AllowsSymbol P N i s (λ is. Unit {0})) ts types (same_allows P N i r s (λ is. Unit {0}) e q.2)

  abbrev SymbolTip : ℕ → ℕ → TypeTerm → ℕ → Type 0
  SymbolTip i j t s = AllowsTip P (G i) i t (symbol_tip s) → AllowsTip P (G j) j t (symbol_tip s)

  abbrev ConstantTips : ℕ → ℕ → TypeTerm → Type 0
  ConstantTips i j t = (b : TypeTerm) → takes b t ≡ true → AllowsConstants (G i) → AllowsConstants (G j)

  abbrev MarkTip : ℕ → ℕ → TypeTerm → Mark → Type 0
  MarkTip i j t k = takes state_type t ≡ true → AllowsMark (G i) k → AllowsMark (G j) k

  constant_tips_told : (i j : ℕ) (t : TypeTerm) → Told (ConstantTips i j t)
  constant_tips_told i j t = by (constants_told (G i)) (constants_told (G j)) t
    where
      by : Told (AllowsConstants (G i)) → Told (AllowsConstants (G j)) → (t : TypeTerm) → Told (ConstantTips i j t)
      by (inr n) d t = inl (λ b e a. absurd (n a))
      by (inl y) (inl z) t = inl (λ b e a. z)
      by (inl y) (inr n) int_type = inr (λ h. n (h int_type refl y))
      by (inl y) (inr n) char_type = inr (λ h. n (h char_type refl y))
      by (inl y) (inr n) string_type = inr (λ h. n (h string_type refl y))
      by (inl y) (inr n) state_type = inr (λ h. n (h state_type refl y))
      by (inl y) (inr n) (variable_type v) = inr (λ h. n (h int_type refl y))
      by (inl y) (inr n) (union_type u ts) = inl (λ b e a. absurd (no_union b u ts e))

  mark_tip_told : (i j : ℕ) (t : TypeTerm) (k : Mark) → Told (MarkTip i j t k)
  mark_tip_told i j t k = implied_told (takes state_type t ≡ true) (AllowsMark (G i) k → AllowsMark (G j) k) (bools_told (takes state_type t)) (implied_told (AllowsMark (G i) k) (AllowsMark (G j) k) (mark_told (G i) k) (mark_told (G j) k))

  record TipParts (i j : ℕ) (t : TypeTerm) : Type 0 where
    symbols : (s : ℕ) → In s (symbols_at P m t) → SymbolTip i j t s
    constants : ConstantTips i j t
    marks : MarkTip i j t sole × (MarkTip i j t shared × MarkTip i j t gone)

  from_parts : (i j : ℕ) (t : TypeTerm) → TipParts i j t → Tips i j t
  from_parts i j t h (symbol_tip s) a =
      let q = on_some (argument_types P s t) (λ us. AllowsSymbol P (G i) i s (λ is. Unit {0})) a in
      let r = symbol_for P m ends s t q.0 q.1 in
      same_tip (G j) j r.0 s t q.0 q.1 r.3 (h.symbols r.0 r.1 (same_tip (G i) i s r.0 t q.0 r.2 (sym r.3) a))
  from_parts i j t h (constant_tip b) a = (a.0, h.constants b a.0 a.1)
  from_parts i j t h (state_tip sole) a = (a.0, h.marks.0 a.0 a.1)
  from_parts i j t h (state_tip shared) a = (a.0, h.marks.1.0 a.0 a.1)
  from_parts i j t h (state_tip gone) a = (a.0, h.marks.1.1 a.0 a.1)

  to_parts : (i j : ℕ) (t : TypeTerm) → Tips i j t → TipParts i j t
  to_parts i j t h =
      record {
        symbols = λ s l a. h (symbol_tip s) a;
        constants = λ b e a. (h (constant_tip b) (e, a)).1;
        marks = ((λ e a. (h (state_tip sole) (e, a)).1), ((λ e a. (h (state_tip shared) (e, a)).1), (λ e a. (h (state_tip gone) (e, a)).1)));
      }

  abbrev Symbols : ℕ → ℕ → TypeTerm → Type 0
  Symbols i j t = (s : ℕ) → In s (symbols_at P m t) → SymbolTip i j t s

  abbrev Marks : ℕ → ℕ → TypeTerm → Type 0
  Marks i j t = MarkTip i j t sole × (MarkTip i j t shared × MarkTip i j t gone)

  tips_told : (i j : ℕ) (t : TypeTerm) → Told (Tips i j t)
  tips_told i j t =
      as_told (Symbols i j t × (ConstantTips i j t × Marks i j t)) (Tips i j t) (λ h. from_parts i j t (record { symbols = h.0; constants = h.1.0; marks = h.1.1 })) (λ h. let p = to_parts i j t h in (p.symbols, (p.constants, p.marks)))
      (both_told (Symbols i j t) (ConstantTips i j t × Marks i j t)
      (each_told (SymbolTip i j t) (λ s. implied_told (AllowsTip P (G i) i t (symbol_tip s)) (AllowsTip P (G j) j t (symbol_tip s)) (symbol_told (G i) i s t) (symbol_told (G j) j s t)) (symbols_at P m t))
      (both_told (ConstantTips i j t) (Marks i j t) (constant_tips_told i j t)
      (both_told (MarkTip i j t sole) (MarkTip i j t shared × MarkTip i j t gone) (mark_tip_told i j t sole) (both_told (MarkTip i j t shared) (MarkTip i j t gone) (mark_tip_told i j t shared) (mark_tip_told i j t gone)))))

  -- and so are steps
  step_at_told : (Q : ℕ → ℕ → TypeTerm → Type 0) → ((i j : ℕ) (t : TypeTerm) → Told (Q i j t)) → (s i j : ℕ) (t : TypeTerm) → Told (StepAt Q s i j t)
  step_at_told Q d s i j t = by (types_told (argument_types P s t)) (over_told P (G i) i s) (over_told P (G j) j s)
    where
      by : ((ts : List TypeTerm) × (argument_types P s t ≡ Some ts)) ⊎ ((ts : List TypeTerm) → argument_types P s t ≡ Some ts → ⊥) → Told ((is : List ℕ) × Over P (G i) i s is) → Told ((js : List ℕ) × Over P (G j) j s js) → Told (StepAt Q s i j t)
      by (inr n) o u = inl (λ ts is js e. absurd (n ts e))
      by (inl y) (inr n) u = inl (λ ts is js e o. absurd (n (is, o)))
      by (inl y) (inl o) (inr n) = inl (λ ts is js e p q. absurd (n (js, q)))
      by (inl y) (inl o) (inl u) =
          as_told ((k : ℕ) → k < length o.0 → Q (get_or o.0 k 0) (get_or u.0 k 0) (argument y.0 k)) (StepAt Q s i j t)
          (λ h ts is js e p q.
          let one : o.0 ≡ is = over_one P (G i) i s o.0 is (proper i) o.1 p in
          let two : u.0 ≡ js = over_one P (G j) j s u.0 js (proper j) u.1 q in
          let three : y.0 ≡ ts = same_Some y.0 ts (sym y.1 ∙ e) in
          subst (λ us. (k : ℕ) → k < length is → Q (get_or is k 0) (get_or js k 0) (argument us k)) three
          (subst (λ ls. (k : ℕ) → k < length is → Q (get_or is k 0) (get_or ls k 0) (argument y.0 k)) two (subst (λ ls. (k : ℕ) → k < length ls → Q (get_or ls k 0) (get_or u.0 k 0) (argument y.0 k)) one h)))
          (λ h. h y.0 o.0 u.0 y.1 o.1 u.1) (below_told (length o.0) (λ k. Q (get_or o.0 k 0) (get_or u.0 k 0) (argument y.0 k)) (λ k. d (get_or o.0 k 0) (get_or u.0 k 0) (argument y.0 k)))

  same_step : (Q : ℕ → ℕ → TypeTerm → Type 0) (i j : ℕ) (t : TypeTerm) → ((s : ℕ) → In s (symbols_at P m t) → StepAt Q s i j t) → Step Q i j t
  same_step Q i j t h s ts is js e p q =
      let r = symbol_for P m ends s t ts e in
      h r.0 r.1 ts is js r.2 (same_allows P (G i) i s r.0 (λ ls. ls ≡ is) (sym r.3) p) (same_allows P (G j) j s r.0 (λ ls. ls ≡ js) (sym r.3) q)

  step_told : (Q : ℕ → ℕ → TypeTerm → Type 0) → ((i j : ℕ) (t : TypeTerm) → Told (Q i j t)) → (i j : ℕ) (t : TypeTerm) → Told (Step Q i j t)
  step_told Q d i j t = as_told ((s : ℕ) → In s (symbols_at P m t) → StepAt Q s i j t) (Step Q i j t) (same_step Q i j t) (λ h s l. h s) (each_told (λ s. StepAt Q s i j t) (λ s. step_at_told Q d s i j t) (symbols_at P m t))

  level_told : (n i j : ℕ) (t : TypeTerm) → Told (Level n i j t)
  level_told zero i j t = inl (λ path e l a. absurd (omega (arith, l)))
  level_told (suc n) i j t =
      as_told (Tips i j t × Step (Level n) i j t) (Level (suc n) i j t) (λ h. level_up n i j t h.0 h.1) (λ h. (level_tips n i j t h, level_step n i j t h))
      (both_told (Tips i j t) (Step (Level n) i j t) (tips_told i j t) (step_told (Level n) (level_told n) i j t))

  level_less : (n i j : ℕ) (t : TypeTerm) → Level (suc n) i j t → Level n i j t
  level_less n i j t h path e l a = h path e (omega (arith, l)) a

  -- triples that are met, of which there are finitely many
  module _ (M : ℕ → ℕ → TypeTerm → Type 0) (closed : (i j : ℕ) (t : TypeTerm) → M i j t → Step M i j t) (all : List Triple) (listed : (i j : ℕ) (t : TypeTerm) → M i j t → Held all (i, j, t)) where
    abbrev passes : ℕ → Triple → Bool
    passes n x = yes (level_told n x.0 x.1 x.2)

    passes_less : (n : ℕ) (x : Triple) → passes (suc n) x ≡ true → passes n x ≡ true
    passes_less n x e = holds_yes (Level n x.0 x.1 x.2) (level_told n x.0 x.1 x.2) (level_less n x.0 x.1 x.2 (yes_holds (Level (suc n) x.0 x.1 x.2) (level_told (suc n) x.0 x.1 x.2) e))

    settles : (n : ℕ) × (counted (passes n) all ≡ counted (passes (suc n)) all)
    settles = stands (λ n. counted (passes n) all) (λ n. counted_less (passes n) (passes (suc n)) (passes_less n) all) (counted (passes 0) all) (omega arith)

    abbrev enough : ℕ
    enough = settles.0

    one_more : (i j : ℕ) (t : TypeTerm) → M i j t → Level enough i j t → Level (suc enough) i j t
    one_more i j t x h =
        yes_holds (Level (suc enough) i j t) (level_told (suc enough) i j t)
        (counted_same (passes enough) (passes (suc enough)) (passes_less enough) all settles.1 (i, j, t) (listed i j t x) (holds_yes (Level enough i j t) (level_told enough i j t) h))

    any_more : (k i j : ℕ) (t : TypeTerm) → M i j t → Level enough i j t → Level (k + enough) i j t
    any_more zero i j t x h = subst (λ n. Level n i j t) (let e : enough ≡ 0 + enough = omega arith in e) h
    any_more (suc k) i j t x h =
        let r = one_more i j t x h in
        subst (λ n. Level n i j t) (let e : suc (k + enough) ≡ suc k + enough = omega arith in e)
        (level_up (k + enough) i j t (level_tips enough i j t r)
        (λ s ts is js e p q l lt. any_more k (get_or is l 0) (get_or js l 0) (argument ts l) (closed i j t x s ts is js e p q l lt) (level_step enough i j t r s ts is js e p q l lt)))

    pub no_more_told : (i j : ℕ) (t : TypeTerm) → M i j t → Told (NoMore P G i j t)
    no_more_told i j t x =
        as_told (Level enough i j t) (NoMore P G i j t) (λ h path e a. any_more (suc (length path)) i j t x h path e (omega arith) a) (λ h path e l a. h path e a) (level_told enough i j t)

-- the insts of arguments that a node lists
abbrev listed_args : List Listed → List ℕ
listed_args [] = []
listed_args (l ∷ ls) = l.args ++ listed_args ls

abbrev node_args : InstNode → List ℕ
node_args (bound ls) = listed_args ls
node_args N = []

abbrev all_args : Graph → (from count : ℕ) → List ℕ
all_args G i zero = []
all_args G i (suc n) = node_args (G i) ++ all_args G (suc i) n

in_at : (xs : List ℕ) (k d : ℕ) → k < length xs → In (get_or xs k d) xs
in_at [] k d lt = absurd (omega (arith, lt))
in_at (x ∷ xs) zero d lt = inl refl
in_at (x ∷ xs) (suc k) d lt = inr (in_at xs k d (omega (arith, lt)))

in_listed : (P : Source) (ls : List Listed) (s : ℕ) (is : List ℕ) → Lists P ls s (λ js. js ≡ is) → (k : ℕ) → k < length is → In (get_or is k 0) (listed_args ls)
in_listed P [] s is h k lt = absurd h
in_listed P (l ∷ ls) s is h k lt =
    ⊎_elim (λ a. in_left (get_or is k 0) l.args (listed_args ls) (subst (λ ks. In (get_or is k 0) ks) (sym a.2) (in_at is k 0 lt))) (λ b. in_right (get_or is k 0) l.args (listed_args ls) (in_listed P ls s is b k lt)) h

again : (n i k : ℕ) (is : List ℕ) → replicate n i ≡ is → k < length is → get_or is k 0 ≡ i
again n i k is e lt = subst (λ js. get_or js k 0 ≡ i) e (get_or-replicate n k i 0 (omega (arith, lt, ap length e, length-replicate n i)))

-- an argument's inst is the node again, or one of those that it lists
argument_of : (P : Source) (N : InstNode) (i s : ℕ) (is : List ℕ) → Over P N i s is → (k : ℕ) → k < length is → (get_or is k 0 ≡ i) ⊎ In (get_or is k 0) (node_args N)
argument_of P free i s is h k lt = absurd h
argument_of P ground i s is h k lt = inl (again (P.symbols s).name.arity i k is h lt)
argument_of P unique i s is h k lt = inl (again (P.symbols s).name.arity i k is h lt)
argument_of P dead i s is h k lt = inl (again (P.symbols s).name.arity i k is h lt)
argument_of P (bound ls) i s is h k lt = inr (in_listed P ls s is h k lt)

in_all : (G : Graph) (x i j n : ℕ) → j ≤ i → i < j + n → In x (node_args (G i)) → In x (all_args G j n)
in_all G x i j zero a b h = absurd (omega (arith, a, b))
in_all G x i j (suc n) a b h = by (numbers_told i j) (λ d. in_all G x i (suc j) n (let q : i ≢ j = d in omega (arith, a, q)) (omega (arith, b)) h)
  where
    by : Told (i ≡ j) → ((i ≡ j → ⊥) → In x (all_args G (suc j) n)) → In x (all_args G j (suc n))
    by (inl e) later = in_left x (node_args (G j)) (all_args G (suc j) n) (subst (λ k. In x (node_args (G k))) e h)
    by (inr d) later = in_right x (node_args (G j)) (all_args G (suc j) n) (later d)

-- lists of triples
abbrev with_types : ℕ → ℕ → List TypeTerm → List Triple
with_types i j [] = []
with_types i j (t ∷ ts) = (i, j, t) ∷ with_types i j ts

abbrev with_nodes : ℕ → List ℕ → List TypeTerm → List Triple
with_nodes i [] ts = []
with_nodes i (j ∷ js) ts = with_types i j ts ++ with_nodes i js ts

abbrev triples : (is js : List ℕ) → List TypeTerm → List Triple
triples [] js ts = []
triples (i ∷ is) js ts = with_nodes i js ts ++ triples is js ts

in_types : (i j : ℕ) (t : TypeTerm) (ts : List TypeTerm) → Held ts t → Held (with_types i j ts) (i, j, t)
in_types i j t [] h = absurd h
in_types i j t (u ∷ ts) h = ⊎_elim (λ e. inl (ap (λ v. (i, j, v)) e)) (λ k. inr (in_types i j t ts k)) h

in_nodes : (i j : ℕ) (t : TypeTerm) (js : List ℕ) (ts : List TypeTerm) → In j js → Held ts t → Held (with_nodes i js ts) (i, j, t)
in_nodes i j t [] ts a h = absurd a
in_nodes i j t (l ∷ js) ts a h =
    ⊎_elim (λ e. held_left (with_types i l ts) (with_nodes i js ts) (i, j, t) (subst (λ k. Held (with_types i k ts) (i, j, t)) e (in_types i j t ts h))) (λ b. held_right (with_types i l ts) (with_nodes i js ts) (i, j, t) (in_nodes i j t js ts b h)) a

in_triples : (i j : ℕ) (t : TypeTerm) (is js : List ℕ) (ts : List TypeTerm) → In i is → In j js → Held ts t → Held (triples is js ts) (i, j, t)
in_triples i j t [] js ts a b h = absurd a
in_triples i j t (l ∷ is) js ts a b h =
    ⊎_elim (λ e. held_left (with_nodes l js ts) (triples is js ts) (i, j, t) (subst (λ k. Held (with_nodes k js ts) (i, j, t)) e (in_nodes i j t js ts b h))) (λ c. held_right (with_nodes l js ts) (triples is js ts) (i, j, t) (in_triples i j t is js ts c b h)) a

-- the arguments of a variable's constructor have types that are that variable
all_variable : (v : ℕ) (ts : List TypeTerm) (k : ℕ) → get_or (map (λ (t : TypeTerm). variable_type v) ts) k (variable_type v) ≡ variable_type v
all_variable v [] k = refl
all_variable v (t ∷ ts) zero = refl
all_variable v (t ∷ ts) (suc k) = all_variable v ts k

module _ (P : Source) (G : Graph) (n m : ℕ) (fits : FitsInsts G) (alike : InstsEnd G n) (ends : SymbolsEnd P m) (met : (t : TypeTerm) → TypesMet P t) where
  abbrev near : ℕ → List ℕ
  near i = i ∷ all_args G 0 (suc n)

  near_closed : (i j s k : ℕ) (is : List ℕ) → In j (near i) → Over P (G j) j s is → k < length is → In (get_or is k 0) (near i)
  near_closed i j s k is a o lt =
      ⊎_elim (λ e. subst (λ x. In x (near i)) (sym e) a)
      (λ b.
      inr (⊎_elim (λ l. in_all G (get_or is k 0) j 0 (suc n) (omega arith) (omega (arith, l)) b) (λ l. in_all G (get_or is k 0) n 0 (suc n) (omega arith) (omega arith) (subst (λ N. In (get_or is k 0) (node_args N)) (alike j l) b)) (cases_lt j n)))
      (argument_of P (G j) j s is o k lt)

  abbrev IsMet : TypeTerm → TypeTerm → Type 0
  IsMet t u = (u ≡ variable_type 0) ⊎ Contains (met t).types u

  met_closed : (t u : TypeTerm) (s k : ℕ) (ts : List TypeTerm) → argument_types P s u ≡ Some ts → IsMet t u → IsMet t (get_or ts k (variable_type 0))
  met_closed t u s k ts e h =
      ⊎_elim
      (λ q.
      inl (let types : Some (map (λ (x : TypeTerm). variable_type 0) (P.symbols s).args) ≡ Some ts = ap (argument_types P s) (sym q) ∙ e in
      subst (λ us. get_or us k (variable_type 0) ≡ variable_type 0) (same_Some (map (λ (x : TypeTerm). variable_type 0) (P.symbols s).args) ts types) (all_variable 0 (P.symbols s).args k)))
      (λ c. ⊎_elim (λ l. inr ((met t).closed u (get_or ts k (variable_type 0)) s ts c e (Contains-get_or ts k (variable_type 0) l))) (λ l. inl (get_or_past ts k (variable_type 0) l)) (cases_lt k (length ts))) h

  -- nodes are compared
  nodes_told : (i j : ℕ) (t : TypeTerm) → Told (NoMore P G i j t)
  nodes_told i j t =
      no_more_told P G fits.proper m ends (λ k l u. In k (near i) × (In l (near j) × IsMet t u))
      (λ k l u h s ts is js e p q x lt. (
        near_closed i k s x is h.0 p lt,
        (
          near_closed j l s x js h.1.0 q (omega (arith, lt, over_length P (G k) k s is (fits.proper k) p, over_length P (G l) l s js (fits.proper l) q)),
          met_closed t u s x ts e h.1.1,
        ),
      ))
      (triples (near i) (near j) (variable_type 0 ∷ (met t).types)) (λ k l u h. in_triples k l u (near i) (near j) (variable_type 0 ∷ (met t).types) h.0 h.1.0 (⊎_elim (λ e. inl e) (λ c. inr (contained (met t).types u c)) h.1.1)) i j t
      (inl refl, (inl refl, inr (met t).itself))

  abbrev FormNoMore : Form → ℕ → TypeTerm → Type 0
  FormNoMore i j t = (path : Path) (e : Tip) → FormAllows P G i path e t → Allows P G path e j t

  abbrev FormsNoMore : Forms → (ℕ → ℕ) → (ℕ → TypeTerm) → Type 0
  FormsNoMore is J U = (k : ℕ) (path : Path) (e : Tip) → FormsAllow P G is k path e (U k) → Allows P G path e (J k) (U k)

  -- nothing is allowed by a node that is free
  none_allowed : (i : ℕ) (path : Path) (e : Tip) (t : TypeTerm) → G i ≡ free → Allows P G path e i t → ⊥
  none_allowed i [] (symbol_tip s) t q a =
      let r = on_some (argument_types P s t) (λ ts. AllowsSymbol P (G i) i s (λ is. Unit {0})) a in
      subst (λ N. AllowsSymbol P N i s (λ is. Unit {0})) q r.2
  none_allowed i [] (constant_tip b) t q a = subst AllowsConstants q a.1
  none_allowed i [] (state_tip k) t q a = subst (λ N. AllowsMark N k) q a.1
  none_allowed i ((s, k) ∷ path) e t q a =
      let Q = λ (ts : List TypeTerm) (is : List ℕ). (k < length is) × Allows P G path e (get_or is k 0) (get_or ts k (variable_type 0)) in
      let r = on_some (argument_types P s t) (λ ts. AllowsSymbol P (G i) i s (Q ts)) a in
      subst (λ N. AllowsSymbol P N i s (Q r.0)) q r.2

  -- one symbol over forms
  abbrev OnlyAt : ℕ → Forms → ℕ → TypeTerm → ℕ → Type 0
  OnlyAt c is j t f =
      (ts : List TypeTerm) → argument_types P f t ≡ Some ts → SameName (P.symbols c).name (P.symbols f).name → (js : List ℕ) × Over P (G j) j f js × FormsNoMore is (λ k. get_or js k 0) (λ k. get_or ts k (variable_type 0))

  only_at_told : (c : ℕ) (is : Forms) (j : ℕ) (t : TypeTerm) → ((J : ℕ → ℕ) (U : ℕ → TypeTerm) → Told (FormsNoMore is J U)) → (f : ℕ) → Told (OnlyAt c is j t f)
  only_at_told c is j t d f =
      by (types_told (argument_types P f t)) (both_told ((P.symbols c).name.bytes ≡ (P.symbols f).name.bytes) ((P.symbols c).name.arity ≡ (P.symbols f).name.arity) (rows_told (P.symbols c).name.bytes (P.symbols f).name.bytes) (numbers_told (P.symbols c).name.arity (P.symbols f).name.arity))
      (over_told P (G j) j f)
    where
      by : ((ts : List TypeTerm) × (argument_types P f t ≡ Some ts)) ⊎ ((ts : List TypeTerm) → argument_types P f t ≡ Some ts → ⊥) → Told (SameName (P.symbols c).name (P.symbols f).name) → Told ((js : List ℕ) × Over P (G j) j f js) → Told (OnlyAt c is j t f)
      by (inr x) a o = inl (λ ts e. absurd (x ts e))
      by (inl y) (inr x) o = inl (λ ts e a. absurd (x a))
      by (inl y) (inl a) (inr x) = inr (λ h. let r = h y.0 y.1 a in x (r.0, r.1))
      by (inl y) (inl a) (inl o) =
          as_told (FormsNoMore is (λ k. get_or o.0 k 0) (λ k. get_or y.0 k (variable_type 0))) (OnlyAt c is j t f)
          (λ h ts e b. (o.0, o.1, subst (λ us. FormsNoMore is (λ k. get_or o.0 k 0) (λ k. get_or us k (variable_type 0))) (same_Some y.0 ts (sym y.1 ∙ e)) h))
          (λ h. let r = h y.0 y.1 a in subst (λ js. FormsNoMore is (λ k. get_or js k 0) (λ k. get_or y.0 k (variable_type 0))) (over_one P (G j) j f r.0 o.0 (fits.proper j) r.1 o.1) r.2) (d (λ k. get_or o.0 k 0) (λ k. get_or y.0 k (variable_type 0)))

  only_no_more : (c : ℕ) (is : Forms) (j : ℕ) (t : TypeTerm) → ((f : ℕ) → OnlyAt c is j t f) → FormNoMore (only c is) j t
  only_no_more c is j t h [] (symbol_tip f) a =
      let r = on_some (argument_types P f t) (λ ts. SameName (P.symbols c).name (P.symbols f).name) a in
      let q = h f r.0 r.1 r.2 in
      to_some (argument_types P f t) (λ ts. AllowsSymbol P (G j) j f (λ js. Unit {0})) r.0 r.1 (over_allows P (G j) j f (λ js. Unit {0}) q.0 q.1 tt)
  only_no_more c is j t h [] (constant_tip b) a = absurd a
  only_no_more c is j t h [] (state_tip k) a = absurd a
  only_no_more c is j t h ((f, k) ∷ path) e a =
      let r = on_some (argument_types P f t) (λ ts. SameName (P.symbols c).name (P.symbols f).name × FormsAllow P G is k path e (get_or ts k (variable_type 0))) a in
      let ts = r.0 in
      let q = h f ts r.1 r.2.0 in
      let js = q.0 in
      let b = q.2 k path e r.2.1 in
      ⊎_elim (λ lt. goes_down P G fits.proper j j f t js js ts r.1 q.1 q.1 k path e lt b)
      (λ le. absurd (none_allowed (get_or js k 0) path e (get_or ts k (variable_type 0)) (ap G (get_or_past js k 0 le) ∙ fits.is_free) b)) (cases_lt k (length js))

  no_more_only : (c : ℕ) (is : Forms) (j : ℕ) (t : TypeTerm) → FormNoMore (only c is) j t → (f : ℕ) → OnlyAt c is j t f
  no_more_only c is j t h f ts e a =
      let tip = on_some (argument_types P f t) (λ us. AllowsSymbol P (G j) j f (λ js. Unit {0})) (h [] (symbol_tip f) (to_some (argument_types P f t) (λ us. SameName (P.symbols c).name (P.symbols f).name) ts e a)) in
      let q = allows_over P (G j) j f (λ js. Unit {0}) tip.2 in
      let js = q.0 in (
        js,
        q.1,
        (λ k path x b.
            comes_up P G fits.proper j j f t js js ts e q.1 q.1 k path x
            (h ((f, k) ∷ path) x (to_some (argument_types P f t) (λ us. SameName (P.symbols c).name (P.symbols f).name × FormsAllow P G is k path x (get_or us k (variable_type 0))) ts e (a, b)))),
      )

  -- it suffices to look at the type's symbols
  same_only : (c : ℕ) (is : Forms) (j : ℕ) (t : TypeTerm) → ((f : ℕ) → In f (symbols_at P m t) → OnlyAt c is j t f) → (f : ℕ) → OnlyAt c is j t f
  same_only c is j t h f ts e a =
      let r = symbol_for P m ends f t ts e in
      let q = h r.0 r.1 ts r.2 (subst (λ (d : Constructor). SameName (P.symbols c).name d.name) (sym r.3) a) in
      (q.0, same_allows P (G j) j r.0 f (λ ls. ls ≡ q.0) r.3 q.1, q.2)

  all_places : (i : Form) (is : Forms) (J : ℕ → ℕ) (U : ℕ → TypeTerm) → FormNoMore i (J 0) (U 0) × FormsNoMore is (λ k. J (suc k)) (λ k. U (suc k)) → FormsNoMore (form_then i is) J U
  all_places i is J U h zero path e a = h.0 path e a
  all_places i is J U h (suc k) path e a = h.1 k path e a

  mutual
    form_told : (i : Form) (j : ℕ) (t : TypeTerm) → Told (FormNoMore i j t)
    form_told (at i) j t = nodes_told i j t
    form_told (either i k) j t =
        as_told (FormNoMore i j t × FormNoMore k j t) (FormNoMore (either i k) j t) (λ h path e a. ⊎_elim (λ b. h.0 path e b) (λ b. h.1 path e b) a) (λ h. ((λ path e a. h path e (inl a)), (λ path e a. h path e (inr a))))
        (both_told (FormNoMore i j t) (FormNoMore k j t) (form_told i j t) (form_told k j t))
    form_told (only c is) j t =
        as_told ((f : ℕ) → In f (symbols_at P m t) → OnlyAt c is j t f) (FormNoMore (only c is) j t) (λ h. only_no_more c is j t (same_only c is j t h)) (λ h f l. no_more_only c is j t h f)
        (each_told (λ f. OnlyAt c is j t f) (only_at_told c is j t (forms_told is)) (symbols_at P m t))

    forms_told : (is : Forms) (J : ℕ → ℕ) (U : ℕ → TypeTerm) → Told (FormsNoMore is J U)
    forms_told no_forms J U = inl (λ k path e a. absurd a)
    forms_told (form_then i is) J U =
        as_told (FormNoMore i (J 0) (U 0) × FormsNoMore is (λ k. J (suc k)) (λ k. U (suc k))) (FormsNoMore (form_then i is) J U) (all_places i is J U) (λ h. (h 0, (λ k. h (suc k))))
        (both_told (FormNoMore i (J 0) (U 0)) (FormsNoMore is (λ k. J (suc k)) (λ k. U (suc k))) (form_told i (J 0) (U 0)) (forms_told is (λ k. J (suc k)) (λ k. U (suc k))))

  included_told : (N M : InstNode) (Q : Type 0) → Told Q → Told (IncludedNodes N M Q)
  included_told free free Q d = inl tt
  included_told free ground Q d = inr (λ h. h)
  included_told free unique Q d = inr (λ h. h)
  included_told free dead Q d = inr (λ h. h)
  included_told free (bound ls) Q d = inr (λ h. h)
  included_told dead free Q d = inr (λ h. h)
  included_told dead ground Q d = inr (λ h. h)
  included_told dead unique Q d = inr (λ h. h)
  included_told dead dead Q d = inl tt
  included_told dead (bound ls) Q d = inr (λ h. h)
  included_told ground free Q d = inr (λ h. h)
  included_told ground ground Q d = d
  included_told ground unique Q d = d
  included_told ground dead Q d = inl tt
  included_told ground (bound ls) Q d = d
  included_told unique free Q d = inr (λ h. h)
  included_told unique ground Q d = d
  included_told unique unique Q d = d
  included_told unique dead Q d = inl tt
  included_told unique (bound ls) Q d = d
  included_told (bound ls) free Q d = inr (λ h. h)
  included_told (bound ls) ground Q d = d
  included_told (bound ls) unique Q d = d
  included_told (bound ls) dead Q d = inl tt
  included_told (bound ls) (bound ks) Q d = d

  form_included_told : (i : Form) (j : ℕ) (t : TypeTerm) → Told (FormIncluded P G i j t)
  form_included_told i j t = included_told (top G i) (G j) (FormNoMore i j t) (form_told i j t)

pub some_test_tells : SomeTestTells
some_test_tells P G n m fits alike ends met =
    let d = form_included_told P G n m fits alike ends met in
    ((λ i j t. yes (d i j t)), (λ i j t. (yes_holds (FormIncluded P G i j t) (d i j t), holds_yes (FormIncluded P G i j t) (d i j t))))

pub nodes_are_told : NodesAreTold
nodes_are_told P G fits tells i j t = tells (at i) j t
