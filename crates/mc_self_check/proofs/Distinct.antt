-- What a test of a program's constructors has seen, piece by piece.
use Rattle.std.proofs.Common.{◌≡◌, ◌↔◌, IsTrue, ℕ, zero, suc, ◌+◌, ◌<◌, ◌≤◌, Bool, true, false, cond, not, ◌&&◌, ◌||◌, List, [], ◌∷◌, ◌++◌, length, get_or, map, take, nat_eq, refl, sym, ap, ◌∙◌, subst, arith, inl, inr, ⊎_elim, if◌then◌else◌}
use Rattle.std.specs.List.{list_any}
use Rattle.std.specs.Set.{is_member}
use Rattle.std.specs.Str.{bytes_eq}
use Rattle.std.proofs.lemmas.Bool.{eqb-true, eq-eqb}
use Rattle.std.proofs.lemmas.List.{length-map, get_or-map, get_or-take, length-take-le, take_more, map-append}
use Rattle.std.proofs.lemmas.List.Folds.{list_any_at, Any-from_list_any}
use Rattle.std.proofs.lemmas.Slice.Eq.{bytes_eq-Decides}
use Rattle.mc_program.specs.Programs.{Source}
use Rattle.mc_program.specs.PlainPrograms.{plain_type, plain_symbol, plain_program, no_symbol}
use Rattle.mc_program.specs.declared.program.Program.{Program}
use Rattle.mc_program.specs.declared.program.Symbol.{Symbol}
use Rattle.mc_program.specs.declared.program.TypeDef.{TypeDef}
use Rattle.mc_model.specs.Lists.{In}
use Rattle.mc_insts.specs.Programs.{FitsConstructors}
use Rattle.mc_insts.proofs.Found.{by_order}
use Rattle.mc_self_check.specs.declared.functors.Functor.{Functor}
use Rattle.mc_self_check.specs.code.Constructors.{PlainFunctor, plain_functor, is_functor, with_functor, functor_of, AritiesFit, TypeFits}

-- what a test tells exactly
pub holds : {P : Type 0} → P → IsTrue true ↔ P
holds p = ((λ t. p), (λ q. refl))

pub isnt : {P : Type 0} → (P → ⊥) → IsTrue false ↔ P
isnt f = ((λ t. absurd (let x : false ≡ true = t in cc)), (λ p. absurd (f p)))

-- sets of functors
members : (f : Functor) (ks : List Functor) → is_member is_functor (map plain_functor ks) (plain_functor f) ≡ list_any (λ k. is_functor (plain_functor f) (plain_functor k)) ks
members f [] = refl
members f (k ∷ ks) = ap (λ b. is_functor (plain_functor f) (plain_functor k) || b) (members f ks)

pub is_among : (f : Functor) (ks : List Functor) → list_any (λ k. is_functor (plain_functor f) (plain_functor k)) ks ≡ is_member is_functor (map plain_functor ks) (plain_functor f)
is_among f ks = sym (members f ks)

with_last : (ks : List Functor) (f : Functor) → map plain_functor (ks ++ f ∷ []) ≡ map plain_functor ks ++ plain_functor f ∷ []
with_last ks f = map-append plain_functor ks (f ∷ [])

chosen : (b : Bool) (ks : List Functor) (f : Functor) → map plain_functor (if b then ks else ks ++ f ∷ []) ≡ cond b (map plain_functor ks) (map plain_functor ks ++ plain_functor f ∷ [])
chosen true ks f = refl
chosen false ks f = with_last ks f

pub put_in : (f : Functor) (ks : List Functor) → map plain_functor (if list_any (λ k. is_functor (plain_functor f) (plain_functor k)) ks then ks else ks ++ f ∷ []) ≡ with_functor (map plain_functor ks) (plain_functor f)
put_in f ks = rw (is_among f ks) (chosen (is_member is_functor (map plain_functor ks) (plain_functor f)) ks f)

-- equal functors are one
both : (a b : Bool) → (a && b) ≡ true → (a ≡ true) × (b ≡ true)
both true true e = (refl, refl)
both true false e = absurd (let x : false ≡ true = e in cc)
both false b e = absurd (let x : false ≡ true = e in cc)

same_functor : (f g : PlainFunctor) → is_functor f g ≡ true → (f.name ≡ g.name) × (f.arity ≡ g.arity)
same_functor f g e =
    let t = both (bytes_eq f.name g.name) (nat_eq f.arity g.arity) e in
    ((bytes_eq-Decides f.name g.name).0 t.0, eqb-true f.arity g.arity t.1)

its_own : (f g : PlainFunctor) → f.name ≡ g.name → f.arity ≡ g.arity → is_functor f g ≡ true
its_own f g d e =
    let n : bytes_eq f.name g.name ≡ true = (bytes_eq-Decides f.name g.name).1 d in
    let a : nat_eq f.arity g.arity ≡ true = eq-eqb f.arity g.arity e in
    rw n a

pub was_new : (b m : Bool) → b ≡ not m → b ≡ true → m ≡ false
was_new b true e f = absurd (let x : false ≡ true = sym e ∙ f in cc)
was_new b false e f = refl

pub wasnt_new : (b m : Bool) → b ≡ not m → b ≡ false → m ≡ true
wasnt_new b true e f = refl
wasnt_new b false e f = absurd (let x : true ≡ false = sym e ∙ f in cc)

put_new : (fs : List PlainFunctor) (f : PlainFunctor) → is_member is_functor fs f ≡ false → with_functor fs f ≡ fs ++ f ∷ []
put_new fs f h = rw h refl

-- numbers of arguments
abbrev pub ArityFits : List Symbol → ℕ → Type 0
ArityFits ss s = (get_or (map plain_symbol ss) s no_symbol).name.arity ≡ length (get_or (map plain_symbol ss) s no_symbol).args

symbol_at : (ss : List Symbol) (k : ℕ) (d : Symbol) → k < length ss → d ≡ get_or ss k d → get_or (map plain_symbol ss) k no_symbol ≡ plain_symbol d
symbol_at ss k d lt e = get_or-map plain_symbol ss k d no_symbol lt ∙ ap plain_symbol (sym e)

pub arity_at : (ss : List Symbol) (k : ℕ) (d : Symbol) → k < length ss → d ≡ get_or ss k d → d.name.arity ≡ length d.args → ArityFits ss k
arity_at ss k d lt e a =
    let r = symbol_at ss k d lt e in
    ap (λ c. c.name.arity) r ∙ a ∙ sym (length-map d.args plain_type) ∙ sym (ap (λ c. length c.args) r)

pub arity_of : (ss : List Symbol) (k : ℕ) (d : Symbol) → k < length ss → d ≡ get_or ss k d → ArityFits ss k → d.name.arity ≡ length d.args
arity_of ss k d lt e a =
    let r = symbol_at ss k d lt e in
    sym (ap (λ c. c.name.arity) r) ∙ a ∙ ap (λ c. length c.args) r ∙ length-map d.args plain_type

past_symbol : (ss : List Symbol) (s : ℕ) → length ss ≤ s → get_or (map plain_symbol ss) s no_symbol ≡ no_symbol
past_symbol [] s le = refl
past_symbol (x ∷ ss) zero le = absurd (omega arith)
past_symbol (x ∷ ss) (suc s) le = past_symbol ss s (omega arith)

pub arities : (ss : List Symbol) → ((s : ℕ) → s < length ss → ArityFits ss s) → AritiesFit ss
arities ss h s = by_order s (length ss) (h s) (λ e. past (omega arith)) (λ gt. past (omega arith))
  where
    past : length ss ≤ s → ArityFits ss s
    past le = let r = past_symbol ss s le in ap (λ c. c.name.arity) r ∙ sym (ap (λ c. length c.args) r)

-- the constructors of a type that were seen
pub record Seen (S : Source) (u : ℕ) (us : List ℕ) (k : ℕ) (listed : List PlainFunctor) : Type 0 where
  pub owned : (i : ℕ) → i < k → (S.symbols (get_or us i 0)).of_type ≡ u
  pub once :
      (i j : ℕ) → i < k → j < k
      → (S.symbols (get_or us i 0)).name.bytes ≡ (S.symbols (get_or us j 0)).name.bytes
      → (S.symbols (get_or us i 0)).name.arity ≡ (S.symbols (get_or us j 0)).name.arity → i ≡ j
  pub came : listed ≡ map (functor_of S) (take k us)

in_at : (xs : List ℕ) (k d : ℕ) → k < length xs → In (get_or xs k d) xs
in_at [] k d lt = absurd (omega arith)
in_at (x ∷ xs) zero d lt = inl refl
in_at (x ∷ xs) (suc k) d lt = inr (in_at xs k d (omega arith))

module _ (S : Source) where
  pub none_seen : (u : ℕ) (us : List ℕ) → Seen S u us 0 []
  none_seen u us = record { owned = λ i lt. absurd (omega arith); once = λ i j v w d e. absurd (omega arith); came = refl }

  seen_at : (us : List ℕ) (k i : ℕ) (d : PlainFunctor) → k ≤ length us → i < k → get_or (map (functor_of S) (take k us)) i d ≡ functor_of S (get_or us i 0)
  seen_at us k i d le lt =
      let l : length (take k us) ≡ k = length-take-le k us le in
      get_or-map (functor_of S) (take k us) i 0 d (omega arith) ∙ ap (functor_of S) (get_or-take k us i 0 lt)

  how_many : (us : List ℕ) (k : ℕ) → k ≤ length us → length (map (functor_of S) (take k us)) ≡ k
  how_many us k le = length-map (take k us) (functor_of S) ∙ length-take-le k us le

  module _ (u : ℕ) (us : List ℕ) (k n : ℕ) (listed : List PlainFunctor) (lt : k < length us) (is : n ≡ get_or us k 0) (seen : Seen S u us k listed) where
    -- a constructor that isn't among those seen
    module _ (new : is_member is_functor listed (functor_of S n) ≡ false) where
      unlike :
          (i : ℕ) → i < k
          → (S.symbols (get_or us i 0)).name.bytes ≡ (S.symbols (get_or us k 0)).name.bytes
          → (S.symbols (get_or us i 0)).name.arity ≡ (S.symbols (get_or us k 0)).name.arity → ⊥
      unlike i v d e =
          let ms = map (functor_of S) (take k us) in
          let f : PlainFunctor = functor_of S n in
          let m : length ms ≡ k = how_many us k (omega arith) in
          let g : get_or ms i f ≡ functor_of S (get_or us i 0) = seen_at us k i f (omega arith) v in
          let o : is_functor f (functor_of S (get_or us i 0)) ≡ true =
          its_own f (functor_of S (get_or us i 0)) (ap (λ s. (S.symbols s).name.bytes) is ∙ sym d) (ap (λ s. (S.symbols s).name.arity) is ∙ sym e) in
          let t : is_member is_functor ms f ≡ true = list_any_at (is_functor f) ms i f (omega arith) (ap (is_functor f) g ∙ o) in
          let h : is_member is_functor ms f ≡ false = subst (λ fs. is_member is_functor fs f ≡ false) seen.came new in
          let x : false ≡ true = sym h ∙ t in cc

      pub one_more : (more : List PlainFunctor) → (S.symbols n).of_type ≡ u → more ≡ with_functor listed (functor_of S n) → Seen S u us (k + 1) more
      one_more more type into = record {
        owned = λ i v. by_order i k (λ w. seen.owned i w) (λ e. ap (λ m. (S.symbols m).of_type) (ap (λ j. get_or us j 0) e ∙ sym is) ∙ type) (λ w. absurd (omega arith));
        once = λ i j v w d e.
            by_order i k
            (λ x. by_order j k (λ y. seen.once i j x y d e) (λ y. absurd (unlike i x (d ∙ ap (λ m. (S.symbols (get_or us m 0)).name.bytes) y) (e ∙ ap (λ m. (S.symbols (get_or us m 0)).name.arity) y))) (λ y. absurd (omega arith)))
            (λ x. by_order j k (λ y. absurd (unlike j y (sym d ∙ ap (λ m. (S.symbols (get_or us m 0)).name.bytes) x) (sym e ∙ ap (λ m. (S.symbols (get_or us m 0)).name.arity) x))) (λ y. x ∙ sym y) (λ y. absurd (omega arith)))
            (λ x. absurd (omega arith));
        came = into ∙ put_new listed (functor_of S n) new ∙ ap (λ fs. fs ++ functor_of S n ∷ []) seen.came
            ∙ ap (λ m. map (functor_of S) (take k us) ++ functor_of S m ∷ []) is
            ∙ sym (map-append (functor_of S) (take k us) (get_or us k 0 ∷ []))
            ∙ sym (ap (map (functor_of S)) (take_more us k 0 lt));
      }

    -- one that is among them
    pub twice : is_member is_functor listed (functor_of S n) ≡ true → TypeFits S u us → ⊥
    twice old fits =
        let ms = map (functor_of S) (take k us) in
        let f : PlainFunctor = functor_of S n in
        let t : is_member is_functor ms f ≡ true = subst (λ fs. is_member is_functor fs f ≡ true) seen.came old in
        let a = Any-from_list_any (is_functor f) ms t in
        let i : ℕ = a.0 in
        let m : length ms ≡ k = how_many us k (omega arith) in
        let v : i < k = subst (λ l. i < l) m a.2 in
        let g : functor_of S (get_or us i 0) ≡ a.1 = sym (seen_at us k i a.1 (omega arith) v) ∙ a.3 in
        let s = same_functor f (functor_of S (get_or us i 0)) (ap (is_functor f) g ∙ a.4) in
        let e : i ≡ k =
        fits.once i k (omega arith) lt (sym s.0 ∙ ap (λ x. (S.symbols x).name.bytes) is) (sym s.1 ∙ ap (λ x. (S.symbols x).name.arity) is) in
        omega arith

    -- one of another type
    pub strange : ((S.symbols n).of_type ≡ u → ⊥) → TypeFits S u us → ⊥
    strange other fits = other (ap (λ x. (S.symbols x).of_type) is ∙ fits.owned (get_or us k 0) (in_at us k 0 lt))

  in_list : (u : ℕ) (us : List ℕ) → ((i : ℕ) → i < length us → (S.symbols (get_or us i 0)).of_type ≡ u) → (s : ℕ) → In s us → (S.symbols s).of_type ≡ u
  in_list u [] h s i = absurd i
  in_list u (x ∷ us) h s i =
      ⊎_elim (λ e. ap (λ m. (S.symbols m).of_type) e ∙ h 0 (omega arith)) (λ o. in_list u us (λ j lt. h (suc j) (omega arith)) s o) i

  pub all_seen : (u : ℕ) (us : List ℕ) (listed : List PlainFunctor) → Seen S u us (length us) listed → TypeFits S u us
  all_seen u us listed seen = record { owned = in_list u us seen.owned; once = seen.once }

-- what is read of a program
pub symbol_read : (P : Program) (n : ℕ) (d : Symbol) → n < length P.symbols → d ≡ get_or P.symbols n d → (plain_program P).symbols n ≡ plain_symbol d
symbol_read P n d lt e = get_or-map plain_symbol P.symbols n d no_symbol lt ∙ ap plain_symbol (sym e)

pub no_symbol_read : (P : Program) (n : ℕ) → length P.symbols ≤ n → (plain_program P).symbols n ≡ no_symbol
no_symbol_read P n le = past_symbol P.symbols n le

pub type_read : (P : Program) (u : ℕ) (d : TypeDef) → u < length P.types → d ≡ get_or P.types u d → d.symbols ≡ (plain_program P).symbols_of u
type_read P u d lt e = ap (λ (t : TypeDef). t.symbols) e ∙ sym (get_or-map (λ (t : TypeDef). t.symbols) P.types u d [] lt)

-- the constructors of a program
pub all_fit :
    (P : Program) → AritiesFit P.symbols
    → ((u : ℕ) → u < length P.types → TypeFits (plain_program P) u ((plain_program P).symbols_of u))
    → FitsConstructors (plain_program P)
all_fit P a h = record { arities = a; owned = λ u. (each u).owned; once = λ u. (each u).once }
  where
    S : Source
    S = plain_program P

    past : (ts : List TypeDef) (u : ℕ) → length ts ≤ u → get_or (map (λ (t : TypeDef). t.symbols) ts) u [] ≡ []
    past [] u le = refl
    past (t ∷ ts) zero le = absurd (omega arith)
    past (t ∷ ts) (suc u) le = past ts u (omega arith)

    none : (u : ℕ) → TypeFits (plain_program P) u []
    none u = record { owned = λ s i. absurd i; once = λ i j v w d e. absurd (omega arith) }

    beyond : (u : ℕ) → length P.types ≤ u → TypeFits (plain_program P) u ((plain_program P).symbols_of u)
    beyond u le = subst (TypeFits (plain_program P) u) (sym (past P.types u le)) (none u)

    each : (u : ℕ) → TypeFits (plain_program P) u ((plain_program P).symbols_of u)
    each u = by_order u (length P.types) (h u) (λ e. beyond u (omega arith)) (λ gt. beyond u (omega arith))

pub of_type : (P : Program) (u : ℕ) → FitsConstructors (plain_program P) → TypeFits (plain_program P) u ((plain_program P).symbols_of u)
of_type P u fits = record { owned = fits.owned u; once = fits.once u }
