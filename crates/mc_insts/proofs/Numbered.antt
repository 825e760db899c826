-- The functors of a program's constructors, as they are put in one after another.
use Rattle.std.proofs.Common.{◌≡◌, ◌⊎◌, inl, inr, ℕ, zero, suc, ◌+◌, ◌<◌, ◌≤◌, List, [], ◌∷◌, ◌++◌, length, get_or, map, take, refl, sym, ap, ◌∙◌, arith, length-append, ⊎_elim}
use Rattle.std.proofs.lemmas.List.{get_or_append_left, get_or-append-add, take_more, map-append}
use Rattle.mc_program.specs.PlainPrograms.{plain_symbol, plain_program, no_symbol}
use Rattle.mc_program.specs.declared.program.Symbol.{Symbol}
use Rattle.mc_program.specs.declared.program.Program.{Program}
use Rattle.mc_insts.specs.code.Functors.{Functor, functor_named}
use Rattle.mc_insts.specs.code.Lists.{Extends}
use Rattle.mc_insts.specs.code.Walks.{functor_at, no_functor}
use Rattle.mc_insts.specs.code.Shown.{Distinct}
use Rattle.mc_insts.specs.code.Tables.{functor_of, ConstructorsAre}
use Rattle.mc_insts.proofs.Found.{by_order}
use Rattle.mc_insts.proofs.Growth.{extends_length, extends_get}

abbrev pub name_of : Symbol → Functor
name_of s = functor_named s.name.name s.name.arity

-- the first symbols have their functors; the functor without a name comes first
pub record Numbered (fs : List Functor) (symbols : List ℕ) (names : List Functor) : Type 0 where
  pub distinct : Distinct fs
  pub some : 0 < length fs
  pub first : functor_at fs 0 ≡ no_functor
  pub count : length symbols ≡ length names
  pub there : (s : ℕ) → s < length symbols → get_or symbols s 0 < length fs
  pub are : (s : ℕ) → s < length symbols → functor_at fs (get_or symbols s 0) ≡ get_or names s no_functor
  pub back : (f : ℕ) → f < length fs → (f ≡ 0) ⊎ ((s : ℕ) × ((s < length symbols) × (get_or symbols s 0 ≡ f)))

pub numbered_more : (fs gs : List Functor) (symbols : List ℕ) (names : List Functor) (f : ℕ) (n : Functor) → Numbered fs symbols names → Extends fs gs → Distinct gs → f < length gs → functor_at gs f ≡ n
    → ((k : ℕ) → length fs ≤ k → k < length gs → k ≡ f) → Numbered gs (symbols ++ f ∷ []) (names ++ n ∷ [])
numbered_more fs gs symbols names f n h e d w is last =
    let m = length symbols in
    let le = extends_length fs gs e in
    let some = h.some in
    let count = h.count in
    let l : length (symbols ++ f ∷ []) ≡ m + 1 = length-append symbols (f ∷ []) in
    let old : (s : ℕ) → s < m → get_or (symbols ++ f ∷ []) s 0 ≡ get_or symbols s 0 = λ s lt. get_or_append_left symbols (f ∷ []) 0 s lt in
    let new : (s : ℕ) → s ≡ m → get_or (symbols ++ f ∷ []) s 0 ≡ f = λ s q. let z : s ≡ m + 0 = omega arith in ap (λ i. get_or (symbols ++ f ∷ []) i 0) z ∙ get_or-append-add symbols (f ∷ []) 0 0 in
    let old_name : (s : ℕ) → s < m → get_or (names ++ n ∷ []) s no_functor ≡ get_or names s no_functor = λ s lt. get_or_append_left names (n ∷ []) no_functor s (omega arith) in
    let new_name : (s : ℕ) → s ≡ m → get_or (names ++ n ∷ []) s no_functor ≡ n = λ s q. let z : s ≡ length names + 0 = omega arith in ap (λ i. get_or (names ++ n ∷ []) i no_functor) z ∙ get_or-append-add names (n ∷ []) 0 no_functor in
    record {
      distinct = d;
      some = omega arith;
      first = extends_get fs gs 0 no_functor e some ∙ h.first;
      count = omega (arith, length-append names (n ∷ []));
      there = λ s lt.
          by_order s m
          (λ x. let y : get_or symbols s 0 < length fs = h.there s x in let z = old s x in omega arith)
          (λ x. let z = new s x in omega arith)
          (λ x. absurd (omega arith));
      are = λ s lt.
          by_order s m
          (λ x. ap (functor_at gs) (old s x) ∙ extends_get fs gs (get_or symbols s 0) no_functor e (h.there s x) ∙ h.are s x ∙ sym (old_name s x))
          (λ x. ap (functor_at gs) (new s x) ∙ is ∙ sym (new_name s x))
          (λ x. absurd (omega arith));
      back = λ k lt.
          by_order k (length fs)
          (λ x. ⊎_elim (λ a. inl a) (λ b. let y = b.1.0 in inr (b.0, (omega arith, old b.0 y ∙ b.1.1))) (h.back k x))
          (λ x. inr (m, (omega arith, new m refl ∙ sym (last k (omega arith) lt))))
          (λ x. inr (m, (omega arith, new m refl ∙ sym (last k (omega arith) lt))));
    }

-- before the first symbol
pub numbered_none : (gs : List Functor) (f : ℕ) → Distinct gs → f < length gs → functor_at gs f ≡ no_functor → ((k : ℕ) → 0 ≤ k → k < length gs → k ≡ f) → Numbered gs [] []
numbered_none gs f d w is last =
    let zero_is : 0 ≡ f = last 0 (omega arith) (omega arith) in
    record {
      distinct = d;
      some = omega arith;
      first = ap (functor_at gs) zero_is ∙ is;
      count = refl;
      there = λ s lt. absurd (omega arith);
      are = λ s lt. absurd (omega arith);
      back = λ k lt. inl (last k (omega arith) lt ∙ sym zero_is);
    }

pub names_more : (listed : List Symbol) (i : ℕ) (s : Symbol) → i < length listed → s ≡ get_or listed i s → map name_of (take (i + 1) listed) ≡ map name_of (take i listed) ++ name_of s ∷ []
names_more listed i s h is = ap (map name_of) (take_more listed i s h ∙ ap (λ x. take i listed ++ x ∷ []) (sym is)) ∙ map-append name_of (take i listed) (s ∷ [])

past : (symbols : List ℕ) (s : ℕ) → length symbols ≤ s → get_or symbols s 0 ≡ 0
past [] s h = refl
past (x ∷ symbols) zero h = absurd (omega arith)
past (x ∷ symbols) (suc s) h = past symbols s (omega arith)

past_name : (names : List Functor) (s : ℕ) → length names ≤ s → get_or names s no_functor ≡ no_functor
past_name [] s h = refl
past_name (x ∷ names) zero h = absurd (omega arith)
past_name (x ∷ names) (suc s) h = past_name names s (omega arith)

named : (listed : List Symbol) (s : ℕ) → get_or (map name_of listed) s no_functor ≡ functor_named (get_or (map plain_symbol listed) s no_symbol).name.bytes (get_or (map plain_symbol listed) s no_symbol).name.arity
named [] s = refl
named (x ∷ listed) zero = refl
named (x ∷ listed) (suc s) = named listed s

pub constructors_are : (program : Program) (fs : List Functor) (symbols : List ℕ) → Numbered fs symbols (map name_of program.symbols) → ConstructorsAre (plain_program program) fs (length fs) symbols
constructors_are program fs symbols h =
    let some = h.some in
    let count = h.count in
    let n = length symbols in
    let is : (s : ℕ) → functor_at fs (functor_of symbols s) ≡ functor_named (get_or (map plain_symbol program.symbols) s no_symbol).name.bytes (get_or (map plain_symbol program.symbols) s no_symbol).name.arity =
    λ s. by_order s n
    (λ x. h.are s x)
    (λ x. ap (functor_at fs) (past symbols s (omega arith)) ∙ h.first ∙ sym (past_name (map name_of program.symbols) s (omega arith)))
    (λ x. ap (functor_at fs) (past symbols s (omega arith)) ∙ h.first ∙ sym (past_name (map name_of program.symbols) s (omega arith)))
    ∙ named program.symbols s in
    record {
      within = λ s. by_order s n (λ x. h.there s x) (λ x. let y = past symbols s (omega arith) in omega arith) (λ x. let y = past symbols s (omega arith) in omega arith);
      names = λ s. ap (λ (f : Functor). f.name) (is s);
      arities = λ s. ap (λ (f : Functor). f.arity) (is s);
      back = λ f lt. ⊎_elim (λ a. (n, past symbols n (omega arith) ∙ sym a)) (λ b. (b.0, b.1.1)) (h.back f lt);
      enough = omega arith;
    }
