-- Walks one behind another, and under quantifiers.
use Rattle.std.proofs.Common.{◌≡◌, ℕ, Bool, true, false, cond, List, [], ◌∷◌, ◌++◌, map, Option, Some, None, refl, ap, ap₂, sym, ◌∙◌, is_some, length, true≢false}
use Rattle.std.proofs.lemmas.Slice.Eq.{bytes_eq-Decides}
use Rattle.std.specs.Str.{bytes_eq}
use Rattle.mc_term_data.specs.Plain.{PlainTerm, PlainTerms, at, no_term, more_terms, Var, Int, Str, App, Items, Tailed, Conj, Disj}
use Rattle.mc_clause_syntax.specs.Limits.{is_anonymous}
use Rattle.mc_names.specs.Numbers.{number_of}
use Rattle.mc_accepted.specs.Resolving.{any_variable}
use Rattle.mc_clauses.specs.Variables.{Numbers, Met, Quantified, named, known_or_new, variable_of, one_quantified, all_quantified, listed, quantified_by}
use Rattle.mc_clauses.specs.Unresolved.{Walk, made, on_made, both, under, variable_walk}
use Rattle.mc_clauses.specs.declared.variables.Variables.{Variables}
use Rattle.mc_clauses.specs.declared.variables.Inner.{Inner}
use Rattle.mc_clauses.specs.code.Meanings.{Knows, KeepsHidden, Hides, Enters}
use Rattle.mc_clauses.specs.code.Walking.{Walked, Comes}
use Rattle.mc_clauses.proofs.Meanings.{or_else, none-first, number-append}

pub keeps-same : (q : Numbers) (m : Met) → KeepsHidden q m m
keeps-same q m = record { same = λ x there. refl }

pub keeps-both : (q : Numbers) (m n o : Met) → KeepsHidden q m n → KeepsHidden q n o → KeepsHidden q m o
keeps-both q m n o k l = record { same = λ x there. l.same x there ∙ k.same x there }

module _ {A B : Type 0} (view : A → B) where
  pub walked-made : (b : B) (v : Variables) (it : A) → view it ≡ b → Walked view (made b) v v it
  walked-made b v it e q m k = record { is = e; knows = k; hidden = keeps-same q m }

module _ {A B C D : Type 0} (view : A → B) (view' : C → D) (f : B → D) (walk : Walk B) where
  pub walked-on : (v w : Variables) (a : A) (c : C) → Walked view walk v w a → view' c ≡ f (view a) → Walked view' (on_made f walk) v w c
  walked-on v w a c h e q m k =
      let r = h q m k in
      record { is = e ∙ ap f r.is; knows = r.knows; hidden = r.hidden }

module _ {A B C D E F : Type 0} (va : A → B) (vb : C → D) (vc : E → F) (f : B → D → F) (first : Walk B) (second : Walk D) where
  pub walked-both : (u v w : Variables) (a : A) (c : C) (e : E) → Walked va first u v a → Walked vb second v w c → vc e ≡ f (va a) (vb c) → Walked vc (both f first second) u w e
  walked-both u v w a c e h g i q m k =
      let r = h q m k in
      let s = g q (first q m).1 r.knows in
      record {
        is = i ∙ ap₂ f r.is s.is;
        knows = s.knows;
        hidden = keeps-both q m (first q m).1 (second q (first q m).1).1 r.hidden s.hidden;
      }

-- A QUANTIFIER puts its names in front of those around it.

pub record Adds (q : Numbers) (m : Met) (s : Quantified) : Type 0 where
  pub free : s.met.free ≡ m.free
  pub added : Numbers
  pub is : s.numbers ≡ added ++ q

adds-one : (q : Numbers) (m : Met) (t : PlainTerm) (s : Quantified) → Adds q m s → Adds q m (one_quantified t s)
adds-one q m (at (Var x) line) s a =
    record {
      free = a.free;
      added = (x, length s.met.names) ∷ a.added;
      is = ap (λ ns. (x, length s.met.names) ∷ ns) a.is;
    }
adds-one q m (at (Int n) line) s a = a
adds-one q m (at (Str w) line) s a = a
adds-one q m (at (App w ts) line) s a = a
adds-one q m (at (Items ts) line) s a = a
adds-one q m (at (Tailed ts t) line) s a = a
adds-one q m (at (Conj ts) line) s a = a
adds-one q m (at (Disj ts) line) s a = a

adds-all : (q : Numbers) (m : Met) (ts : PlainTerms) (s : Quantified) → Adds q m s → Adds q m (all_quantified ts s)
adds-all q m no_term s a = a
adds-all q m (more_terms t ts) s a = adds-all q m ts (one_quantified t s) (adds-one q m t s a)

pub adds : (q : Numbers) (m : Met) (list : PlainTerm) → Adds q m (quantified_by list q m)
adds q m list = adds-all q m (listed list) (record { vars = []; numbers = q; met = m }) (record { free = refl; added = []; is = refl })

some-behind : (a o : Option ℕ) → is_some o ≡ true → is_some (or_else a o) ≡ true
some-behind None o e = e
some-behind (Some n) o e = refl

-- what is hidden around a quantifier is hidden under it
pub hidden-under : (q : Numbers) (m after : Met) (s : Quantified) → Adds q m s → KeepsHidden s.numbers s.met after → KeepsHidden q m after
hidden-under q m after s a k =
    record {
      same = λ x there.
          k.same x (ap (λ ns. is_some (number_of ns x)) a.is ∙ ap is_some (number-append a.added q x) ∙ some-behind (number_of a.added x) (number_of q x) there)
          ∙ ap (λ ns. number_of ns x) a.free;
    }

module _ {A B C D : Type 0} (view : A → B) (view' : C → D) (list : PlainTerm) (f : List ℕ → B → D) (walk : Walk B) where
  pub walked-under :
      (u v w x : Variables) (inner : Inner) (a : A) (c : C)
      → ((q : Numbers) (m : Met) → Knows q m u → Enters q m (quantified_by list q m) inner v)
      → Walked view walk v w a
      → ((q : Numbers) (m after : Met) (s : Quantified) → Hides q m s inner.hidden.items → KeepsHidden s.numbers s.met after → Knows s.numbers after w → Knows q after x)
      → view' c ≡ f inner.vars.items (view a)
      → Walked view' (under list f walk) u x c
  walked-under u v w x inner a c enters h leaves e q m k =
      let s = quantified_by list q m in
      let i = enters q m k in
      let r = h s.numbers s.met i.knows in
      record {
        is = e ∙ ap₂ f i.vars r.is;
        knows = leaves q m (walk s.numbers s.met).1 s i.hides r.hidden r.knows;
        hidden = hidden-under q m (walk s.numbers s.met).1 s (adds q m list) r.hidden;
      }

-- A VARIABLE

pub keeps-variable : (q : Numbers) (x : List ℕ) (m : Met) → KeepsHidden q m (variable_of q x m).1
keeps-variable q x m = by-name (is_anonymous x) refl
  where
    first : (o : Option ℕ) → number_of (q ++ m.free) x ≡ o → KeepsHidden q m (known_or_new o x m).1
    first (Some n) e = keeps-same q m
    first None e =
        record {
          same = λ y there. new (bytes_eq y x) y there refl;
        }
      where
        new : (b : Bool) (y : List ℕ) → is_some (number_of q y) ≡ true → bytes_eq y x ≡ b → cond b (Some (length m.names)) (number_of m.free y) ≡ number_of m.free y
        new false y there same = refl
        new true y there same =
            absurd
            (true≢false
            (sym there
            ∙ ap is_some
            (ap (number_of q) ((bytes_eq-Decides y x).0 same) ∙ none-first (number_of q x) (number_of m.free x) (sym (number-append q m.free x) ∙ e))))

    by-name : (b : Bool) → is_anonymous x ≡ b → KeepsHidden q m (cond b (length m.names, named x m) (known_or_new (number_of (q ++ m.free) x) x m)).1
    by-name true e = record { same = λ y there. refl }
    by-name false e = first (number_of (q ++ m.free) x) refl

pub comes-variable : (q : Numbers) (m : Met) (x : List ℕ) (n : ℕ) (after : Variables) → (n ≡ (variable_of q x m).0) × Knows q (variable_of q x m).1 after → Comes q m (any_variable n) (variable_walk x q m) after
comes-variable q m x n after p = record { is = ap any_variable p.0; knows = p.1; hidden = keeps-variable q x m }
