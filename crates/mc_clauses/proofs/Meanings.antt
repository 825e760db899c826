-- What names mean, as a map from names has it.
use Rattle.std.proofs.Common.{◌≡◌, ℕ, Bool, true, false, cond, List, [], ◌∷◌, ◌++◌, map, Option, Some, None, refl, ap, sym, ◌∙◌, true≢false, if◌then◌else◌, Bor, is_some, length}
use Rattle.std.proofs.lemmas.List.{length-map}
use Rattle.std.specs.Cmp.Lexicographic.{nat_list_eq_equiv}
use Rattle.std.specs.Map.{lookup}
use Rattle.std.specs.Option.{option_flatten}
use Rattle.std.specs.Str.{bytes_eq}
use Rattle.indexmap.specs.IndexMap.{insert_entry}
use Rattle.mc_clause_syntax.specs.Limits.{is_anonymous}
use Rattle.mc_names.specs.Numbers.{number_of}
use Rattle.std.proofs.lemmas.Slice.Eq.{bytes_eq-Decides}
use Rattle.mc_clauses.specs.Variables.{Numbers, Met, Quantified, named, variable_of}
use Rattle.mc_clauses.specs.declared.variables.Variables.{Variables}
use Rattle.mc_clauses.specs.declared.variables.Inner.{Inner}
use Rattle.mc_clauses.specs.declared.variables.Hidden.{Hidden}
use Rattle.mc_clauses.specs.code.Meanings.{meaning_of, meanings_of, restored, Knows, KeepsHidden, Hides, Enters}

abbrev pub Entry : Type 0
Entry = Bor (List ℕ) × Option ℕ

abbrev pub named_entries : List Entry → List (List ℕ × Option ℕ)
named_entries es = map (λ e. (e.0.now, e.1)) es

flatten-cond : (b : Bool) (o : Option ℕ) (r : Option (Option ℕ)) → cond b o (option_flatten r) ≡ option_flatten (cond b (Some o) r)
flatten-cond true o r = refl
flatten-cond false o r = refl

pub meaning-entries : (es : List Entry) (x : List ℕ) → meaning_of (named_entries es) x ≡ option_flatten (lookup (λ k. bytes_eq x k.now) es)
meaning-entries [] x = refl
meaning-entries (e ∷ es) x = ap (cond (bytes_eq x e.0.now) e.1) (meaning-entries es x) ∙ flatten-cond (bytes_eq x e.0.now) e.1 (lookup (λ k. bytes_eq x k.now) es)

absent : (a b : Bool) (x y n : Option ℕ) → (a ≡ true → b ≡ true → true ≡ false) → cond a x (cond b y n) ≡ cond b y (cond a x n)
absent true true x y n h = absurd (true≢false (h refl refl))
absent true false x y n h = refl
absent false true x y n h = refl
absent false false x y n h = refl

present : (a : Bool) (x y n : Option ℕ) → cond a y n ≡ cond a y (cond a x n)
present true x y n = refl
present false x y n = refl

module _ (eq : Bor (List ℕ) → Bor (List ℕ) → Bool) (same : (x y : Bor (List ℕ)) → eq x y ≡ bytes_eq x.now y.now) where
  step : (e : Entry) (es rest : List Entry) (k : Bor (List ℕ)) (v : Option ℕ) (w : List ℕ) (b : Bool) → eq k e.0 ≡ b
      → meaning_of (named_entries rest) w ≡ cond (bytes_eq w k.now) v (meaning_of (named_entries es) w)
      → meaning_of (named_entries (if b then (e.0, v) ∷ es else e ∷ rest)) w ≡ cond (bytes_eq w k.now) v (cond (bytes_eq w e.0.now) e.1 (meaning_of (named_entries es) w))
  step e es rest k v w true p ih =
      let one : bytes_eq w k.now ≡ bytes_eq w e.0.now = nat_list_eq_equiv.symm w k.now ∙ nat_list_eq_equiv.congr k.now e.0.now w (sym (same k e.0) ∙ p) ∙ nat_list_eq_equiv.symm e.0.now w in
      rw one (present (bytes_eq w e.0.now) e.1 v (meaning_of (named_entries es) w))
  step e es rest k v w false p ih =
      ap (cond (bytes_eq w e.0.now) e.1) ih
      ∙ absent (bytes_eq w e.0.now) (bytes_eq w k.now) e.1 v (meaning_of (named_entries es) w)
      (λ a b. sym a ∙ nat_list_eq_equiv.congr w k.now e.0.now b ∙ sym (same k e.0) ∙ p)

  pub meaning-insert : (es : List Entry) (k : Bor (List ℕ)) (v : Option ℕ) (w : List ℕ) → meaning_of (named_entries (insert_entry eq es k v)) w ≡ cond (bytes_eq w k.now) v (meaning_of (named_entries es) w)
  meaning-insert [] k v w = refl
  meaning-insert (e ∷ es) k v w = step e es (insert_entry eq es k v) k v w (eq k e.0) refl (meaning-insert es k v w)

-- NUMBERS OF NAMES

abbrev pub or_else : Option ℕ → Option ℕ → Option ℕ
or_else (Some n) o = Some n
or_else None o = o

or-cond : (b : Bool) (n : ℕ) (a o : Option ℕ) → cond b (Some n) (or_else a o) ≡ or_else (cond b (Some n) a) o
or-cond true n a o = refl
or-cond false n a o = refl

pub number-append : (xs ys : Numbers) (x : List ℕ) → number_of (xs ++ ys) x ≡ or_else (number_of xs x) (number_of ys x)
number-append [] ys x = refl
number-append (e ∷ xs) ys x = ap (cond (bytes_eq x e.0) (Some e.1)) (number-append xs ys x) ∙ or-cond (bytes_eq x e.0) e.1 (number_of xs x) (number_of ys x)

-- WHAT IS GIVEN BACK

pub restored-behind : (hs : List Hidden) (h : Hidden) (f g : List ℕ → Option ℕ) (x : List ℕ) → g x ≡ cond (bytes_eq x h.name.now) h.meaning (f x) → restored (hs ++ h ∷ []) f x ≡ restored hs g x
restored-behind [] h f g x e = sym e
restored-behind (i ∷ hs) h f g x e = ap (cond (bytes_eq x i.name.now) i.meaning) (restored-behind hs h f g x e)

-- Behind a quantifier names mean again what they mean outside it.
module _ (q : Numbers) (m after : Met) (s : Quantified) (hs : List Hidden) (h : Hides q m s hs) (k : KeepsHidden s.numbers s.met after) where
  outside : (f : List ℕ → Option ℕ) (x : List ℕ) → f x ≡ number_of (s.numbers ++ after.free) x → (o : Option ℕ) → number_of h.added x ≡ o
      → cond (is_some o) (number_of (q ++ m.free) x) (f x) ≡ number_of (q ++ after.free) x
  outside f x e None p =
      e ∙ ap (λ ns. number_of (ns ++ after.free) x) h.is ∙ number-append (h.added ++ q) after.free x
      ∙ ap (λ o. or_else o (number_of after.free x)) (number-append h.added q x ∙ ap (λ o. or_else o (number_of q x)) p)
      ∙ sym (number-append q after.free x)
  outside f x e (Some n) p =
      let there : is_some (number_of s.numbers x) ≡ true = ap (λ ns. is_some (number_of ns x)) h.is ∙ ap is_some (number-append h.added q x ∙ ap (λ o. or_else o (number_of q x)) p) in
      number-append q m.free x ∙ ap (or_else (number_of q x)) (sym (k.same x there ∙ ap (λ ns. number_of ns x) h.free)) ∙ sym (number-append q after.free x)

  pub left : (f : List ℕ → Option ℕ) (x : List ℕ) → f x ≡ number_of (s.numbers ++ after.free) x → restored hs f x ≡ number_of (q ++ after.free) x
  left f x e = h.restores f x ∙ ap (λ o. cond (is_some o) (number_of (q ++ m.free) x) (f x)) refl ∙ outside f x e (number_of h.added x) refl

-- A NAME THAT IS MET FOR THE FIRST TIME

cond-or : (b : Bool) (a o : Option ℕ) (n : ℕ) → (b ≡ true → a ≡ None) → cond b (Some n) (or_else a o) ≡ or_else a (cond b (Some n) o)
cond-or true a o n h = rw (h refl) refl
cond-or false a o n h = refl

pub none-first : (a o : Option ℕ) → or_else a o ≡ None → a ≡ None
none-first None o e = refl
none-first (Some n) o e = e

pub met-first : (q fs : Numbers) (x : List ℕ) (n : ℕ) → number_of (q ++ fs) x ≡ None → (y : List ℕ) → cond (bytes_eq y x) (Some n) (number_of (q ++ fs) y) ≡ number_of (q ++ (x, n) ∷ fs) y
met-first q fs x n e y =
    ap (cond (bytes_eq y x) (Some n)) (number-append q fs y)
    ∙ cond-or (bytes_eq y x) (number_of q y) (number_of fs y) n
    (λ same. ap (number_of q) ((bytes_eq-Decides y x).0 same) ∙ none-first (number_of q x) (number_of fs x) (sym (number-append q fs x) ∙ e))
    ∙ sym (number-append q ((x, n) ∷ fs) y)

-- A NAME THAT IS HIDDEN

hidden-cases : (b : Bool) (o outer : Option ℕ) (n : ℕ) (meant g : Option ℕ) → (b ≡ true → o ≡ None → meant ≡ outer)
    → cond (is_some o) outer (cond b meant g) ≡ cond (is_some (cond b (Some n) o)) outer g
hidden-cases true None outer n meant g h = h refl refl
hidden-cases true (Some k) outer n meant g h = refl
hidden-cases false o outer n meant g h = refl

pub hidden-one : (q : Numbers) (m : Met) (s : Quantified) (hs : List Hidden) (one : Hidden) (n : ℕ) → Hides q m s hs
    → one.meaning ≡ number_of (s.numbers ++ s.met.free) one.name.now
    → Hides q m (record { vars = s.vars ++ n ∷ []; numbers = (one.name.now, n) ∷ s.numbers; met = named one.name.now s.met }) (hs ++ one ∷ [])
hidden-one q m s hs one n h e =
    let x = one.name.now in
    record {
      free = h.free;
      added = (x, n) ∷ h.added;
      is = ap (λ ns. (x, n) ∷ ns) h.is;
      restores = λ f y.
          restored-behind hs one f (λ z. cond (bytes_eq z x) one.meaning (f z)) y refl
          ∙ h.restores (λ z. cond (bytes_eq z x) one.meaning (f z)) y
          ∙ hidden-cases (bytes_eq y x) (number_of h.added y) (number_of (q ++ m.free) y) n one.meaning (f y)
          (λ same none.
          let is : y ≡ x = (bytes_eq-Decides y x).0 same in
          e ∙ ap (number_of (s.numbers ++ s.met.free)) (sym is)
          ∙ ap (λ ns. number_of (ns ++ s.met.free) y) h.is ∙ number-append (h.added ++ q) s.met.free y
          ∙ ap (λ o. or_else o (number_of s.met.free y)) (number-append h.added q y ∙ ap (λ o. or_else o (number_of q y)) none)
          ∙ ap (λ ns. or_else (number_of q y) (number_of ns y)) h.free
          ∙ sym (number-append q m.free y));
    }

-- so many names are known as were met
pub numbered-next : (q : Numbers) (m : Met) (v : Variables) → Knows q m v → length v.names.items ≡ length m.names
numbered-next q m v k = sym (length-map v.names.items (λ name. name.now)) ∙ ap length k.names

pub unknown : (q : Numbers) (m : Met) (x : List ℕ) (n : ℕ) (before after : Variables) → is_anonymous x ≡ false → meaning_of (meanings_of before) x ≡ None → Knows q m before
    → n ≡ length before.names.items
    → ((y : List ℕ) → meaning_of (meanings_of after) y ≡ cond (bytes_eq y x) (Some n) (meaning_of (meanings_of before) y))
    → map (λ name. name.now) after.names.items ≡ map (λ name. name.now) before.names.items ++ x ∷ []
    → (n ≡ (variable_of q x m).0) × Knows q (variable_of q x m).1 after
unknown q m x n before after named none k e meanings names =
    let free : number_of (q ++ m.free) x ≡ None = sym (k.meanings x) ∙ none in
    let number : n ≡ length m.names = e ∙ numbered-next q m before k in
    rw named (rw free (
      number,
      record {
        meanings = λ y.
            meanings y ∙ ap (cond (bytes_eq y x) (Some n)) (k.meanings y) ∙ ap (λ i. cond (bytes_eq y x) (Some i) (number_of (q ++ m.free) y)) number
            ∙ met-first q m.free x (length m.names) free y;
        names = names ∙ ap (λ ns. ns ++ x ∷ []) k.names;
      },
    ))

-- a quantifier names one variable more
pub entered-one : (q : Numbers) (m : Met) (s : Quantified) (inner next : Inner) (before after : Variables) (one : Hidden) (n : ℕ) → Enters q m s inner before
    → n ≡ length before.names.items
    → one.meaning ≡ meaning_of (meanings_of before) one.name.now
    → next.vars.items ≡ inner.vars.items ++ n ∷ []
    → next.hidden.items ≡ inner.hidden.items ++ one ∷ []
    → ((y : List ℕ) → meaning_of (meanings_of after) y ≡ cond (bytes_eq y one.name.now) (Some n) (meaning_of (meanings_of before) y))
    → map (λ name. name.now) after.names.items ≡ map (λ name. name.now) before.names.items ++ one.name.now ∷ []
    → Enters q m (record { vars = s.vars ++ length s.met.names ∷ []; numbers = (one.name.now, length s.met.names) ∷ s.numbers; met = named one.name.now s.met }) next after
entered-one q m s inner next before after one n e number meant vars hidden meanings names =
    let x = one.name.now in
    let count : n ≡ length s.met.names = number ∙ numbered-next s.numbers s.met before e.knows in
    record {
      vars = vars ∙ ap (λ ns. ns ++ n ∷ []) e.vars ∙ ap (λ i. s.vars ++ i ∷ []) count;
      knows =
          record {
            meanings = λ y.
                meanings y ∙ ap (cond (bytes_eq y x) (Some n)) (e.knows.meanings y) ∙ ap (λ i. cond (bytes_eq y x) (Some i) (number_of (s.numbers ++ s.met.free) y)) count;
            names = names ∙ ap (λ ns. ns ++ x ∷ []) e.knows.names;
          };
      hides =
          rw hidden
          (hidden-one q m s inner.hidden.items one (length s.met.names) e.hides (meant ∙ e.knows.meanings x));
    }

-- nothing is hidden where no name is quantified yet
pub entered-none : (q : Numbers) (m : Met) (inner : Inner) (v : Variables) → inner.vars.items ≡ [] → inner.hidden.items ≡ [] → Knows q m v → Enters q m (record { vars = []; numbers = q; met = m }) inner v
entered-none q m inner v vars hidden k =
    record {
      vars = vars;
      knows = k;
      hides = record { free = refl; added = []; is = refl; restores = λ f x. ap (λ hs. restored hs f x) hidden };
    }
