-- The variables of a clause as the walk keeps them: what each name means where it stands, and the
-- names by number.
use Rattle.std.specs.Prelude.{◌≡◌, ℕ, Bool, true, List, [], ◌∷◌, ◌++◌, map, Option, Some, None, is_some, if◌then◌else◌}
use Rattle.std.specs.Str.{bytes_eq}
use Rattle.mc_names.specs.Numbers.{number_of}
use Rattle.mc_clauses.specs.Variables.{Numbers, Met, Quantified}
use Rattle.mc_clauses.specs.declared.variables.Variables.{Variables}
use Rattle.mc_clauses.specs.declared.variables.Hidden.{Hidden}
use Rattle.mc_clauses.specs.declared.variables.Inner.{Inner}

-- what a name means among names with what they mean; a name that was met under a quantifier alone
-- means nothing behind it
abbrev pub meaning_of : List (List ℕ × Option ℕ) → List ℕ → Option ℕ
meaning_of [] x = None
meaning_of (e ∷ es) x = if bytes_eq x e.0 then e.1 else meaning_of es x

abbrev pub meanings_of : Variables → List (List ℕ × Option ℕ)
meanings_of v = map (λ e. (e.0.now, e.1)) v.meanings.entries

-- the variables are those that were met, and names mean what they mean under these quantifiers
pub record Knows (q : Numbers) (m : Met) (v : Variables) : Type 0 where
  pub meanings : (x : List ℕ) → meaning_of (meanings_of v) x ≡ number_of (q ++ m.free) x
  pub names : map (λ name. name.now) v.names.items ≡ m.names

-- a name that quantifiers hide means the same outside them as before
pub record KeepsHidden (q : Numbers) (before after : Met) : Type 0 where
  pub same :
      (x : List ℕ)
      → is_some (number_of q x) ≡ true
      → number_of after.free x ≡ number_of before.free x

-- what names mean again where these are given back, the last first
abbrev pub restored : List Hidden → (List ℕ → Option ℕ) → List ℕ → Option ℕ
restored [] f x = f x
restored (h ∷ hs) f x = if bytes_eq x h.name.now then h.meaning else restored hs f x

-- What is hidden under a quantifier is what its names meant outside.
pub record Hides (q : Numbers) (m : Met) (s : Quantified) (hidden : List Hidden) : Type 0 where
  pub free : s.met.free ≡ m.free
  pub added : Numbers
  pub is : s.numbers ≡ added ++ q
  pub restores :
      (f : List ℕ → Option ℕ) (x : List ℕ)
      → restored hidden f x
      ≡ (if is_some (number_of added x) then number_of (q ++ m.free) x else f x)

-- Under a quantifier its names mean its variables.
pub record Enters (q : Numbers) (m : Met) (s : Quantified) (inner : Inner) (v : Variables)
    : Type 0 where
  pub vars : inner.vars.items ≡ s.vars
  pub knows : Knows s.numbers s.met v
  pub hides : Hides q m s inner.hidden.items
