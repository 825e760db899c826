-- Symbols among the labels of disjuncts, and whether they cover those that are allowed.
use Rattle.std.proofs.Common.{◌≡◌, ℕ, List, [], ◌∷◌, Bool, true, false, not, nat_eq, ◌||◌, ◌&&◌, if◌then◌else◌, Option, Some, None, refl, sym, ap, ap₂, ◌∙◌, subst}
use Rattle.std.specs.List.{list_any, list_all}
use Rattle.std.proofs.lemmas.Bool.{eqb-true}
use Rattle.mc_program.specs.Values.{Val}
use Rattle.mc_program.specs.Programs.{TypeTerm, int_type, char_type, string_type, state_type, variable_type, union_type}
use Rattle.mc_program.specs.declared.builtin.Builtin.{Builtin}
use Rattle.mc_model.specs.Outcomes.{Outcome}
use Rattle.mc_model.specs.Good.{System}
use Rattle.mc_model.specs.Scheduled.{Label, for_symbol, for_constant}
use Rattle.mc_accepted.specs.Determined.{allowed_of}
use Rattle.mc_accepted.specs.Switched.{Disjunct, label_in, same_label, is_label, others, and_label, labels_of, covers}
use Rattle.mc_procs.specs.Procedures.{PlainProcs, source_of, as_system}
use Rattle.mc_switch.specs.declared.disjunct.Opened.{Opened}
use Rattle.mc_switch.specs.code.Labels.{is_symbol_in}
use Rattle.mc_switch.specs.code.Choices.{allows_one, none_missed, union_of, Opens, Covers}

-- a label that is the same as one that isn't for a symbol isn't for it
apart : (s : ℕ) (l m : Label) → same_label (for_symbol s) l ≡ false → same_label l m ≡ true → same_label (for_symbol s) m ≡ false
apart s (for_symbol u) (for_symbol t) h e = subst (λ z. nat_eq s z ≡ false) (eqb-true u t e) h
apart s (for_symbol u) (for_constant w) h e = refl
apart s (for_constant v) (for_symbol t) h e = cc
apart s (for_constant v) (for_constant w) h e = refl

others_found : (s : ℕ) (l : Label) (ls : List Label) → same_label (for_symbol s) l ≡ false → list_any (same_label (for_symbol s)) (others l ls) ≡ list_any (same_label (for_symbol s)) ls
others_found s l [] h = refl
others_found s l (m ∷ ms) h = by_test (same_label l m) refl (others_found s l ms h)
  where
    by_test : (t : Bool) → same_label l m ≡ t → list_any (same_label (for_symbol s)) (others l ms) ≡ list_any (same_label (for_symbol s)) ms → list_any (same_label (for_symbol s)) (if t then others l ms else m ∷ others l ms) ≡ (same_label (for_symbol s) m || list_any (same_label (for_symbol s)) ms)
    by_test true e r = r ∙ ap (λ b. b || list_any (same_label (for_symbol s)) ms) (sym (apart s l m h e))
    by_test false e r = ap (λ b. same_label (for_symbol s) m || b) r

one_found : (s : ℕ) (o : Option Label) (ls : List Label) (m : Bool) → list_any (same_label (for_symbol s)) ls ≡ m → list_any (same_label (for_symbol s)) (and_label o ls) ≡ (is_label (for_symbol s) o || m)
one_found s None ls m h = h
one_found s (Some l) ls m h = by_test (same_label (for_symbol s) l) refl
  where
    by_test : (t : Bool) → same_label (for_symbol s) l ≡ t → (t || list_any (same_label (for_symbol s)) (others l ls)) ≡ (t || m)
    by_test true e = refl
    by_test false e = others_found s l ls e ∙ h

-- the labels of a variable's arms hold a symbol where a disjunct opens the variable with it
pub labels_found : (s x : ℕ) (ds : List Disjunct) (os : List Opened) → Opens ds os → list_any (same_label (for_symbol s)) (labels_of x ds) ≡ list_any (is_symbol_in x s) os
labels_found s x [] [] h = refl
labels_found s x (d ∷ ds) [] h = absurd h
labels_found s x [] (o ∷ os) h = absurd h
labels_found s x (d ∷ ds) (o ∷ os) h =
    one_found s (label_in x d.opens) (labels_of x ds) (list_any (is_symbol_in x s) os) (labels_found s x ds os h.1)
    ∙ ap (λ opens. is_label (for_symbol s) (label_in x opens) || list_any (is_symbol_in x s) os) h.0

module _ (q : PlainProcs) (outcome : Builtin → List Val → Outcome) (type : ℕ → TypeTerm) (i : ℕ) where
  abbrev S : System
  S = as_system outcome q

  covered : (ls : List Label) (f : ℕ → Bool) → ((s : ℕ) → list_any (same_label (for_symbol s)) ls ≡ f s) → (ss : List ℕ) → covers S type (Some (allowed_of S type i ss)) ls ≡ none_missed q i f ss
  covered ls f e [] = refl
  covered ls f e (s ∷ ss) = step (allows_one q i s) (allowed_of S type i ss) (e s) (covered ls f e ss)
    where
      step : (a : Bool) (rest : List ℕ) → list_any (same_label (for_symbol s)) ls ≡ f s → list_all (λ z. list_any (same_label (for_symbol z)) ls) rest ≡ none_missed q i f ss → list_all (λ z. list_any (same_label (for_symbol z)) ls) (if a then s ∷ rest else rest) ≡ ((not a || f s) && none_missed q i f ss)
      step true rest h r = ap₂ (λ x y. x && y) h r
      step false rest h r = r

pub covers_some : (q : PlainProcs) (t : TypeTerm) (i u x : ℕ) (os : List Opened) (f : ℕ → Bool) (b : Bool) → Some u ≡ union_of t → ((s : ℕ) → f s ≡ list_any (is_symbol_in x s) os) → b ≡ none_missed q i f ((source_of q).symbols_of u) → Covers q t i os x b
covers_some q (union_type v ts) i u x os f b e found h outcome type ds opened =
    let same : u ≡ v = cc in
    h
    ∙ ap (λ z. none_missed q i f ((source_of q).symbols_of z)) same
    ∙ sym (covered q outcome type i (labels_of x ds) f (λ s. labels_found s x ds os opened ∙ sym (found s)) ((source_of q).symbols_of v))
covers_some q int_type i u x os f b e found h outcome type ds opened = cc
covers_some q char_type i u x os f b e found h outcome type ds opened = cc
covers_some q string_type i u x os f b e found h outcome type ds opened = cc
covers_some q state_type i u x os f b e found h outcome type ds opened = cc
covers_some q (variable_type v) i u x os f b e found h outcome type ds opened = cc

pub covers_none : (q : PlainProcs) (t : TypeTerm) (i x : ℕ) (os : List Opened) → None ≡ union_of t → Covers q t i os x false
covers_none q (union_type v ts) i x os e outcome type ds opened = cc
covers_none q int_type i x os e outcome type ds opened = refl
covers_none q char_type i x os e outcome type ds opened = refl
covers_none q string_type i x os e outcome type ds opened = refl
covers_none q state_type i x os e outcome type ds opened = refl
covers_none q (variable_type v) i x os e outcome type ds opened = refl
