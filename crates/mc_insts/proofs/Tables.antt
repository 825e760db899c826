-- What the tables hold stays as they grow, and is what a walk asks of a scene.
use Rattle.std.proofs.Common.{◌≡◌, ◌⊎◌, inl, inr, ℕ, zero, suc, ◌<◌, ◌≤◌, Bool, true, false, cond, ◌&&◌, List, [], ◌∷◌, length, get_or, map, nat_eq, is_some, Option, Some, None, refl, sym, ap, ◌∙◌, subst, arith, ⊎_elim}
use Rattle.std.proofs.lemmas.Bool.{eqb-true, eq-eqb, ltb-true, lt-ltb}
use Rattle.std.proofs.lemmas.List.{get_or-map, length-map}
use Rattle.mc_program.specs.Programs.{TypeTerm, int_type, char_type, string_type, state_type, variable_type, union_type, TypeTerms, Source}
use Rattle.mc_model.specs.Lists.{In, is_in}
use Rattle.mc_model.specs.Types.{argument_types}
use Rattle.mc_insts.specs.Programs.{FitsConstructors}
use Rattle.mc_insts.specs.declared.graph.Case.{Case}
use Rattle.mc_insts.specs.declared.graph.Node.TheVariants as N
use Rattle.mc_insts.specs.declared.graph.Shape.{Shape}
use Rattle.mc_insts.specs.declared.graph.Shape.TheVariants as S
use Rattle.mc_insts.specs.code.Lists.{Extends}
use Rattle.mc_insts.specs.code.Cases.{find_case, argument, row_has, row_arg}
use Rattle.mc_insts.specs.code.Walks.{Scene, node_at, shape_at, arity_of, ProperCases, Proper}
use Rattle.mc_insts.specs.code.Shown.{Kind, Meant, RowIs, RowsAre}
use Rattle.mc_insts.specs.code.TypeRows.{term_at, RowsOf}
use Rattle.mc_insts.specs.code.Tables.{functor_of, arguments_of, ConstructorsAre, UnionIs, ShapeIs, ShapesAre}
use Rattle.mc_insts.proofs.Found.{find_at, by_order}
use Rattle.mc_insts.proofs.Scenes.{has_some}
use Rattle.mc_insts.proofs.Growth.{extends_length, extends_get}
use Rattle.mc_insts.proofs.TypeKeys.{terms_on}

-- what is there stays
pub rows_on : (ts us : List TypeTerm) (rows : List ℕ) (args : List TypeTerm) → Extends ts us → RowsOf ts rows args → RowsOf us rows args
rows_on ts us rows args e h =
    let le = extends_length ts us e in
    record { there = λ k lt. let x : get_or rows k 0 < length ts = h.there k lt in omega arith; are = terms_on ts us rows e h.there ∙ h.are }

pub union_on : (P : Source) (symbols : List ℕ) (ts us : List TypeTerm) (cs : List Case) (u : ℕ) (es : TypeTerms) → Extends ts us → UnionIs P symbols ts cs u es → UnionIs P symbols us cs u es
union_on P symbols ts us cs u es e h = record {
  rising = h.rising;
  complete = λ s i. let x = h.complete s i in (x.0, (x.1.0, rows_on ts us x.0 (arguments_of P s es) e x.1.1));
  sound = λ f xs g. let x = h.sound f xs g in (x.0, (x.1.0, (x.1.1.0, rows_on ts us xs (arguments_of P x.0 es) e x.1.1.1)));
}

pub shape_on : (P : Source) (symbols : List ℕ) (ts us : List TypeTerm) (R : Shape) (t : TypeTerm) → Extends ts us → ShapeIs P symbols ts R t → ShapeIs P symbols us R t
shape_on P symbols ts us S.Constants t e h = h
shape_on P symbols ts us S.State t e h = h
shape_on P symbols ts us S.Any t e h = h
shape_on P symbols ts us (S.Union cs) t e h = (h.0, (h.1.0, (h.1.1.0, union_on P symbols ts us cs h.0 h.1.0 e h.1.1.1)))

pub shapes_on : (P : Source) (symbols : List ℕ) (ts us : List TypeTerm) (rows : List Shape) → Extends ts us → length rows ≤ length ts → ShapesAre P symbols ts rows → ShapesAre P symbols us rows
shapes_on P symbols ts us rows e le h r lt =
    subst (λ t. ShapeIs P symbols us (shape_at rows r) t) (sym (extends_get ts us r (variable_type 0) e (omega arith)))
    (shape_on P symbols ts us (shape_at rows r) (term_at ts r) e (h r lt))

-- a constructor is listed where the test says so
listed_by : (s x : ℕ) (xs : List ℕ) (b : Bool) → nat_eq s x ≡ b → (is_in s xs ≡ true → In s xs) → cond b true (is_in s xs) ≡ true → (s ≡ x) ⊎ In s xs
listed_by s x xs true e f h = inl (eqb-true s x e)
listed_by s x xs false e f h = inr (f h)

listed : (s : ℕ) (xs : List ℕ) → is_in s xs ≡ true → In s xs
listed s [] h = cc
listed s (x ∷ xs) h = listed_by s x xs (nat_eq s x) refl (listed s xs) h

tests_by : (s x : ℕ) (xs : List ℕ) (b : Bool) → nat_eq s x ≡ b → (In s xs → is_in s xs ≡ true) → (s ≡ x) ⊎ In s xs → cond b true (is_in s xs) ≡ true
tests_by s x xs true e f h = refl
tests_by s x xs false e f h = ⊎_elim (λ i. let y = eq-eqb s x i in cc) f h

tests : (s : ℕ) (xs : List ℕ) → In s xs → is_in s xs ≡ true
tests s [] h = absurd h
tests s (x ∷ xs) h = tests_by s x xs (nat_eq s x) refl (tests s xs) h

both_hold : (a b : Bool) → a ≡ true → b ≡ true → (a && b) ≡ true
both_hold true b h i = i
both_hold false b h i = cc

second_holds : (a b : Bool) → (a && b) ≡ true → b ≡ true
second_holds true b h = h
second_holds false b h = cc

chosen : (b : Bool) (xs ys : List TypeTerm) → cond b (Some xs) None ≡ Some ys → (b ≡ true) × (xs ≡ ys)
chosen true xs ys h = (refl, cc)
chosen false xs ys h = cc

chooses : (b : Bool) (xs : List TypeTerm) → b ≡ true → cond b (Some xs) None ≡ Some xs
chooses true xs h = refl
chooses false xs h = cc

-- the types of the arguments of a constructor that a union type lists
union_types : (P : Source) (s u : ℕ) (es : TypeTerms) (ys : List TypeTerm) → argument_types P s (union_type u es) ≡ Some ys → In s (P.symbols_of u) × (arguments_of P s es ≡ ys)
union_types P s u es ys h =
    let x = chosen (nat_eq (P.symbols s).of_type u && is_in s (P.symbols_of u)) (arguments_of P s es) ys h in
    (listed s (P.symbols_of u) (second_holds (nat_eq (P.symbols s).of_type u) (is_in s (P.symbols_of u)) x.0), x.1)

union_typed : (P : Source) (s u : ℕ) (es : TypeTerms) → FitsConstructors P → In s (P.symbols_of u) → argument_types P s (union_type u es) ≡ Some (arguments_of P s es)
union_typed P s u es fits i =
    chooses (nat_eq (P.symbols s).of_type u && is_in s (P.symbols_of u)) (arguments_of P s es)
    (both_hold (nat_eq (P.symbols s).of_type u) (is_in s (P.symbols_of u)) (eq-eqb (P.symbols s).of_type u (fits.owned u s i)) (tests s (P.symbols_of u) i))

no_constructor : (P : Source) (s : ℕ) (t : TypeTerm) (ys : List TypeTerm) → ((t ≡ int_type) ⊎ ((t ≡ char_type) ⊎ (t ≡ string_type))) → argument_types P s t ≡ Some ys → ⊥
no_constructor P s t ys k h =
    ⊎_elim (λ e. let x = sym (ap (argument_types P s) e) ∙ h in cc)
    (λ o. ⊎_elim (λ e. let x = sym (ap (argument_types P s) e) ∙ h in cc) (λ e. let x = sym (ap (argument_types P s) e) ∙ h in cc) o)
    k

no_state : (P : Source) (s : ℕ) (t : TypeTerm) (ys : List TypeTerm) → t ≡ state_type → argument_types P s t ≡ Some ys → ⊥
no_state P s t ys e h = let x = sym (ap (argument_types P s) e) ∙ h in cc

some_same : (xs ys : List TypeTerm) → Some xs ≡ Some ys → xs ≡ ys
some_same xs ys h = cc

get_constant : (t : TypeTerm) (xs : List TypeTerm) (k : ℕ) → k < length xs → get_or (map (λ (x : TypeTerm). t) xs) k (variable_type 0) ≡ t
get_constant t [] k h = absurd (omega arith)
get_constant t (x ∷ xs) zero h = refl
get_constant t (x ∷ xs) (suc k) h = get_constant t xs k (omega arith)

some_is : (o : Option (List ℕ)) (xs : List ℕ) → o ≡ Some xs → is_some o ≡ true
some_is o xs h = ap is_some h

past_rows : (rows : List Shape) (r : ℕ) → length rows ≤ r → shape_at rows r ≡ S.Constants
past_rows [] r h = refl
past_rows (x ∷ rows) zero h = absurd (omega arith)
past_rows (x ∷ rows) (suc r) h = past_rows rows r (omega arith)

module _ (P : Source) (C : Scene) (symbols : List ℕ) (ts : List TypeTerm) (fits : FitsConstructors P) (cons : ConstructorsAre P C.functors C.known symbols)
    (shapes : ShapesAre P symbols ts C.rows) (whole : length C.rows ≡ length ts) where
  cases_fit : (cs : List Case) (u : ℕ) (es : TypeTerms) → UnionIs P symbols ts cs u es → ProperCases C (length C.rows) cs
  cases_fit cs u es h = record {
    rising = h.rising;
    fitting = λ k d lt.
        let c : Case = get_or cs k d in
        let x = h.sound c.functor c.args (find_at cs c.functor h.rising k d lt refl) in
        let s = x.0 in
        let rows = x.1.1.1 in
        let w : functor_of symbols s < C.known = cons.within s in
        let n = cons.enough in
        record {
          functor = subst (λ f. f < length C.functors) x.1.1.0 (omega arith);
          args =
              sym (length-map c.args (term_at ts)) ∙ ap length rows.are ∙ length-map (P.symbols s).args _ ∙ sym (fits.arities s) ∙ sym (cons.arities s) ∙ ap (arity_of C) x.1.1.0;
          below = λ a l. let y : get_or c.args a 0 < length ts = rows.there a l in omega arith;
        };
  }

  rows_proper : (r : ℕ) (cs : List Case) → shape_at C.rows r ≡ S.Union cs → ProperCases C (length C.rows) cs
  rows_proper r cs e =
      by_order r (length C.rows)
      (λ lt. let h : ShapeIs P symbols ts (S.Union cs) (term_at ts r) = subst (λ R. ShapeIs P symbols ts R (term_at ts r)) e (shapes r lt) in cases_fit cs h.0 h.1.0 h.1.1.1)
      (λ x. let y = sym e ∙ past_rows C.rows r (omega arith) in cc)
      (λ x. let y = sym e ∙ past_rows C.rows r (omega arith) in cc)

  pub scene_proper : ((i : ℕ) (cs : List Case) → node_at C.nodes i ≡ N.Bound cs → ProperCases C (length C.nodes) cs) → Proper C
  scene_proper nodes = record { nodes = nodes; rows = rows_proper; known = cons.enough }

  -- what a row lists is what the type lists, by functors
  meant : (r s : ℕ) (ys : List TypeTerm) → row_has C.known (shape_at C.rows r) (functor_of symbols s) ≡ true
      → ((k : ℕ) → k < arity_of C (functor_of symbols s) → get_or ys k (variable_type 0) ≡ term_at ts (row_arg (shape_at C.rows r) r (functor_of symbols s) k)) → Meant P C (term_at ts) r s ys (functor_of symbols s)
  meant r s ys typed types =
      let w = cons.within s in
      let n = cons.enough in
      record { typed = typed; within = omega arith; name = cons.names s; arity = cons.arities s; types = types }

  meant_any : (r s v : ℕ) (ys : List TypeTerm) → shape_at C.rows r ≡ S.Any → term_at ts r ≡ variable_type v → map (λ (t : TypeTerm). variable_type v) (P.symbols s).args ≡ ys → Meant P C (term_at ts) r s ys (functor_of symbols s)
  meant_any r s v ys e t is =
      meant r s ys (ap (λ R. row_has C.known R (functor_of symbols s)) e ∙ lt-ltb (functor_of symbols s) C.known (cons.within s))
      (λ k lt.
      let n : k < length (P.symbols s).args = let a = cons.arities s in let b = fits.arities s in omega arith in
      ap (λ (zs : List TypeTerm). get_or zs k (variable_type 0)) (sym is) ∙ get_constant (variable_type v) (P.symbols s).args k n ∙ sym t ∙ ap (λ R. term_at ts (row_arg R r (functor_of symbols s) k)) (sym e))

  meant_union : (r s : ℕ) (cs : List Case) (xs : List ℕ) (ys : List TypeTerm) → shape_at C.rows r ≡ S.Union cs → find_case cs (functor_of symbols s) ≡ Some xs → RowsOf ts xs ys → length ys ≡ length (P.symbols s).args → Meant P C (term_at ts) r s ys (functor_of symbols s)
  meant_union r s cs xs ys e f rows l =
      meant r s ys (ap (λ R. row_has C.known R (functor_of symbols s)) e ∙ some_is (find_case cs (functor_of symbols s)) xs f)
      (λ k lt.
      let m : length (map (term_at ts) xs) ≡ length xs = length-map xs (term_at ts) in
      let q : length (map (term_at ts) xs) ≡ length ys = ap length rows.are in
      let n : k < length xs = let a = cons.arities s in let b = fits.arities s in omega arith in
      ap (λ (zs : List TypeTerm). get_or zs k (variable_type 0)) (sym rows.are)
      ∙ get_or-map (term_at ts) xs k 0 (variable_type 0) n
      ∙ ap (λ o. term_at ts (argument o k)) (sym f)
      ∙ ap (λ R. term_at ts (row_arg R r (functor_of symbols s) k)) (sym e))

  row_of : (r : ℕ) (R : Shape) → shape_at C.rows r ≡ R → ShapeIs P symbols ts R (term_at ts r) → RowIs P C (term_at ts) r
  row_of r S.Constants e h = record {
    kind = subst (λ R. Kind R (term_at ts r)) (sym e) h;
    complete = λ s ys g. absurd (no_constructor P s (term_at ts r) ys h g);
    sound = λ f g. let x = sym (ap (λ R. row_has C.known R f) e) ∙ g in cc;
  }
  row_of r S.State e h = record {
    kind = subst (λ R. Kind R (term_at ts r)) (sym e) h;
    complete = λ s ys g. absurd (no_state P s (term_at ts r) ys h g);
    sound = λ f g. let x = sym (ap (λ R. row_has C.known R f) e) ∙ g in cc;
  }
  row_of r S.Any e h = record {
    kind = subst (λ R. Kind R (term_at ts r)) (sym e) h;
    complete = λ s ys g. (functor_of symbols s, meant_any r s h.0 ys e h.1 (some_same _ ys (sym (ap (argument_types P s) h.1) ∙ g)));
    sound = λ f g.
        let lt : f < C.known = ltb-true f C.known (sym (ap (λ R. row_has C.known R f) e) ∙ g) in
        let b = cons.back f lt in
        let s = b.0 in
        let ys = map (λ (t : TypeTerm). variable_type h.0) (P.symbols s).args in
        (s, (ys, (ap (argument_types P s) h.1, subst (λ n. Meant P C (term_at ts) r s ys n) b.1 (meant_any r s h.0 ys e h.1 refl))));
  }
  row_of r (S.Union cs) e h =
      let u = h.0 in
      let es = h.1.0 in
      let is : term_at ts r ≡ union_type u es = h.1.1.0 in
      let union : UnionIs P symbols ts cs u es = h.1.1.1 in
      record {
        kind = subst (λ R. Kind R (term_at ts r)) (sym e) (u, (es, is));
        complete = λ s ys g.
            let t = union_types P s u es ys (sym (ap (argument_types P s) is) ∙ g) in
            let x = union.complete s t.0 in
            (functor_of symbols s, meant_union r s cs x.0 ys e x.1.0 (subst (λ (zs : List TypeTerm). RowsOf ts x.0 zs) t.1 x.1.1) (ap length (sym t.1) ∙ length-map (P.symbols s).args _));
        sound = λ f g.
            let o = has_some (find_case cs f) (sym (ap (λ R. row_has C.known R f) e) ∙ g) in
            let x = union.sound f o.0 o.1 in
            let s = x.0 in
            let ys = arguments_of P s es in
            let functor : functor_of symbols s ≡ f = x.1.1.0 in (
              s,
              (
                ys,
                (
                  ap (argument_types P s) is ∙ union_typed P s u es fits x.1.0,
                  subst (λ n. Meant P C (term_at ts) r s ys n) functor
                      (meant_union r s cs o.0 ys e (ap (find_case cs) functor ∙ o.1) x.1.1.1 (length-map (P.symbols s).args _)),
                ),
              ),
            );
      }

  pub rows_are : RowsAre P C (term_at ts)
  rows_are r lt = row_of r (shape_at C.rows r) refl (shapes r lt)
