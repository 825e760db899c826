-- The cases of a union type are those of its constructors.
use Rattle.std.proofs.Common.{◌≡◌, inl, inr, ℕ, zero, suc, ◌<◌, ◌≤◌, Bool, true, false, List, [], ◌∷◌, length, get_or, map, nat_eq, refl, sym, ap, ◌∙◌, subst, arith, ⊎_elim}
use Rattle.std.specs.List.{All, AllByRecursion, Contains, IsDistinct}
use Rattle.std.specs.List.Sorted.{IsPermutation, IsNonDecreasingBy}
use Rattle.std.proofs.lemmas.Bool.{eqb-true, eq-eqb}
use Rattle.std.proofs.lemmas.List.{get_or-map, length-map}
use Rattle.std.proofs.lemmas.List.Sorted.{All-permutation, Contains-permutation}
use Rattle.std.proofs.lemmas.Map.Keys.{IsDistinct-IsPermutation}
use Rattle.mc_program.specs.Programs.{TypeTerm, TypeTerms, Source}
use Rattle.mc_model.specs.Lists.{In}
use Rattle.mc_insts.specs.Programs.{FitsConstructors}
use Rattle.mc_insts.specs.declared.graph.Case.{Case}
use Rattle.mc_insts.specs.declared.rows.Constructor.{Constructor}
use Rattle.mc_insts.specs.code.Cases.{Rising}
use Rattle.mc_insts.specs.code.TypeRows.{RowsOf}
use Rattle.mc_insts.specs.code.Tables.{functor_of, constructor_of, arguments_of, CasesAre, Named, UnionIs}
use Rattle.mc_insts.proofs.Found.{by_order, find_at, rising_of}
use Rattle.mc_insts.proofs.Scenes.{found}

abbrev pub same : Constructor → Constructor → Bool
same c d = nat_eq c.functor d.functor

bool_same : (a b : Bool) → (a ≡ true → b ≡ true) → (b ≡ true → a ≡ true) → a ≡ b
bool_same true true f g = refl
bool_same true false f g = sym (f refl)
bool_same false true f g = g refl
bool_same false false f g = refl

pub flips : (c d : Constructor) → same c d ≡ same d c
flips c d = bool_same (same c d) (same d c) (λ h. eq-eqb d.functor c.functor (sym (eqb-true c.functor d.functor h))) (λ h. eq-eqb c.functor d.functor (sym (eqb-true d.functor c.functor h)))

not_true : (b : Bool) → (b ≡ true → ⊥) → b ≡ false
not_true true h = absurd (h refl)
not_true false h = refl

-- in a list whose functors differ place by place, none is equal to one behind it
all_from : {A : Type 0} (P : A → Type 0) (xs : List A) → ((k : ℕ) (d : A) → k < length xs → P (get_or xs k d)) → AllByRecursion P xs
all_from P [] h = tt
all_from P (x ∷ xs) h = (h 0 x (omega arith), all_from P xs (λ k d lt. h (suc k) d (omega arith)))

pub distinct_from : (xs : List Constructor) → ((i j : ℕ) (d e : Constructor) → i < j → j < length xs → (get_or xs i d).functor ≡ (get_or xs j e).functor → ⊥) → IsDistinct same xs
unfolding IsDistinct
distinct_from [] h = tt
distinct_from (x ∷ xs) h = (
  all_from (λ y. same x y ≡ false) xs (λ k d lt. not_true (same x (get_or xs k d)) (λ e. h 0 (suc k) x d (omega arith) (omega arith) (eqb-true x.functor (get_or xs k d).functor e))),
  distinct_from xs (λ i j d e lt w. h (suc i) (suc j) d e (omega arith) (omega arith)),
)

all_at : {A : Type 0} (P : A → Type 0) (xs : List A) → AllByRecursion P xs → (k : ℕ) (d : A) → k < length xs → P (get_or xs k d)
all_at P [] h k d lt = absurd (omega arith)
all_at P (x ∷ xs) h zero d lt = h.0
all_at P (x ∷ xs) h (suc k) d lt = all_at P xs h.1 k d (omega arith)

pub distinct_at : (xs : List Constructor) → IsDistinct same xs → (i j : ℕ) (d e : Constructor) → i < j → j < length xs → (get_or xs i d).functor ≡ (get_or xs j e).functor → ⊥
unfolding IsDistinct
distinct_at [] h i j d e lt w q = absurd (omega arith)
distinct_at (x ∷ xs) h i zero d e lt w q = absurd (omega arith)
distinct_at (x ∷ xs) h zero (suc j) d e lt w q =
    let no : same x (get_or xs j e) ≡ false = all_at (λ y. same x y ≡ false) xs h.0 j e (omega arith) in
    let yes : same x (get_or xs j e) ≡ true = eq-eqb x.functor (get_or xs j e).functor q in
    cc
distinct_at (x ∷ xs) h (suc i) (suc j) d e lt w q = distinct_at xs h.1 i j d e (omega arith) (omega arith) q

in_at : (xs : List ℕ) (k d : ℕ) → k < length xs → In (get_or xs k d) xs
in_at [] k d h = absurd (omega arith)
in_at (x ∷ xs) zero d h = inl refl
in_at (x ∷ xs) (suc k) d h = inr (in_at xs k d (omega arith))

place_of : (s : ℕ) (xs : List ℕ) → In s xs → (k : ℕ) × ((k < length xs) × (get_or xs k 0 ≡ s))
place_of s [] h = absurd h
place_of s (x ∷ xs) h = ⊎_elim (λ e. (0, (omega arith, sym e))) (λ i. let p = place_of s xs i in let lt = p.1.0 in (suc p.0, (omega arith, p.1.1))) h

module _ (P : Source) (symbols : List ℕ) (ts : List TypeTerm) (es : TypeTerms) (u : ℕ) (fits : FitsConstructors P) (named : Named P symbols) where
  abbrev listed : List ℕ
  listed = P.symbols_of u

  abbrev unsorted : List Constructor
  unsorted = map (constructor_of symbols) listed

  at_place : (k : ℕ) (d : Constructor) → k < length unsorted → get_or unsorted k d ≡ constructor_of symbols (get_or listed k 0)
  at_place k d h = get_or-map (constructor_of symbols) listed k 0 d (let l = length-map listed (constructor_of symbols) in omega arith)

  once : IsDistinct same unsorted
  once = distinct_from unsorted (λ i j d e lt w q.
      let l : length unsorted ≡ length listed = length-map listed (constructor_of symbols) in
      let f : functor_of symbols (get_or listed i 0) ≡ functor_of symbols (get_or listed j 0) =
      ap (λ (c : Constructor). c.functor) (sym (at_place i d (omega arith))) ∙ q ∙ ap (λ (c : Constructor). c.functor) (at_place j e w) in
      let same_place : i ≡ j = fits.once u i j (omega arith) (omega arith) (named.names (get_or listed i 0) (get_or listed j 0) f) (named.arities (get_or listed i 0) (get_or listed j 0) f) in
      absurd (omega arith))

  abbrev Listed : Constructor → Type 0
  Listed c = In c.symbol listed × (functor_of symbols c.symbol ≡ c.functor)

  all_listed : All Listed unsorted
  all_listed k d h =
      let l : length unsorted ≡ length listed = length-map listed (constructor_of symbols) in
      subst Listed (sym (at_place k d h)) (in_at listed k 0 (omega arith), refl)

  pub union_is : (ds : List Constructor) (cs : List Case) → IsPermutation unsorted ds → IsNonDecreasingBy (λ (c : Constructor). c.functor) ds → CasesAre P ts es cs ds → UnionIs P symbols ts cs u es
  union_is ds cs perm sorted cases =
      let distinct : IsDistinct same ds = IsDistinct-IsPermutation same flips unsorted ds perm once in
      let all : All Listed ds = All-permutation Listed unsorted ds perm all_listed in
      let n = cases.0 in
      let rising : Rising cs = rising_of cs (λ j m d e is w.
      let x : Constructor = constructor_of symbols 0 in
      let a = cases.1 j d x (omega arith) in
      let b = cases.1 m e x w in
      let le : (get_or ds j x).functor ≤ (get_or ds m x).functor = sorted j m x (omega arith) (omega arith) in
      let f = a.functor in
      let g = b.functor in
      less (get_or ds j x).functor (get_or ds m x).functor (get_or cs j d).functor (get_or cs m e).functor f g le (distinct_at ds distinct j m x x (omega arith) (omega arith))) in
      record {
        rising = rising;
        complete = λ s h.
            let p = place_of s listed h in
            let l : length unsorted ≡ length listed = length-map listed (constructor_of symbols) in
            let c : Constructor = constructor_of symbols s in
            let there : get_or unsorted p.0 c ≡ c = at_place p.0 c (let z = p.1.0 in omega arith) ∙ ap (constructor_of symbols) p.1.1 in
            let q : Contains ds c = Contains-permutation unsorted ds c perm (p.0, (let z = p.1.0 in omega arith), there) in
            let lt = q.1 in
            let d : Case = record { functor = 0; args = [] } in
            let is = cases.1 q.0 d c (omega arith) in
            let functor : (get_or cs q.0 d).functor ≡ functor_of symbols s = is.functor ∙ ap (λ (e : Constructor). e.functor) q.2 in (
              (get_or cs q.0 d).args,
              (
                find_at cs (functor_of symbols s) rising q.0 d (omega arith) functor,
                subst (λ (e : Constructor). RowsOf ts (get_or cs q.0 d).args (arguments_of P e.symbol es)) q.2 is.args,
              ),
            );
        sound = λ f xs h.
            let r = found cs f xs h in
            let c : Constructor = constructor_of symbols 0 in
            let w = r.within in
            let is = cases.1 r.place r.case c w in
            let e : Constructor = get_or ds r.place c in
            let a : Listed e = all r.place c (omega arith) in (
              e.symbol,
              (
                a.0,
                (
                  a.1 ∙ sym is.functor ∙ ap (λ (z : Case). z.functor) r.is ∙ r.functor,
                  subst (λ zs. RowsOf ts zs (arguments_of P e.symbol es)) (ap (λ (z : Case). z.args) r.is ∙ r.args) is.args,
                ),
              ),
            );
      }
    where
      less : (a b c d : ℕ) → c ≡ a → d ≡ b → a ≤ b → (a ≡ b → ⊥) → c < d
      less a b c d f g le n = by_order c d (λ x. x) (λ x. absurd (n (sym f ∙ x ∙ g))) (λ x. absurd (omega arith))
