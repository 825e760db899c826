-- The disjuncts of a disjunction as they are written one after another, before they are gathered.
use Rattle.std.specs.Prelude.{ℕ, Bool, true, false, not, ◌&&◌, ◌||◌, List, [], ◌∷◌, map, Option, Some, None, if◌then◌else◌}
use Rattle.std.specs.Option.{option_map}
use Rattle.mc_term_data.specs.Plain.{PlainTerm, PlainTerms, at, no_term, more_terms, Conj, Disj, term_list, plain_term}
use Rattle.mc_state_variables.specs.declared.pieces.Piece as C
use Rattle.mc_state_variables.specs.Versions.{Held, closings, and_then}
use Rattle.mc_state_variables.specs.Numbered.{Written, Goal, written, on_text}
use Rattle.mc_state_variables.specs.code.Helds.{listed}

-- A disjunct; where a disjunction of it and those behind it begins there, the equations that close
-- that disjunction.
pub record Piece : Type 0 where
  pub text : PlainTerm
  pub opened : Option PlainTerms

abbrev pub plain_piece : C.Piece → Piece
plain_piece p =
    record {
      text = plain_term p.text;
      opened = option_map (λ cs. term_list (map plain_term cs.items)) p.opened;
    }

abbrev pub gather : (line : ℕ) → Option PlainTerms → PlainTerm → PlainTerms → PlainTerms
gather l None t ts = more_terms t ts
gather l (Some cs) t ts = more_terms (and_then (at (Disj (more_terms t ts)) l) cs) no_term

-- pieces before the branches that are gathered from those behind them
abbrev pub gathered : (line : ℕ) → List Piece → PlainTerms → PlainTerms
gathered l [] ts = ts
gathered l (p ∷ ps) ts = gather l p.opened p.text (gathered l ps ts)

abbrev pub is_last : List (List (List ℕ)) → Bool
is_last [] = true
is_last _ = false

-- whether a disjunction begins at a disjunct that others follow
abbrev pub opens : (fresh : Bool) → Goal → (behind : List (List (List ℕ))) → Bool
opens fresh g ws = (fresh || g.is_conditional) && not (is_last ws)

abbrev pub piece :
    (opened : Option PlainTerms) → Written PlainTerm → (ℕ → Written (List Piece)) → Written (List Piece)
piece o w rest = on_text (λ ps. record { text = w.text; opened = o } ∷ ps) (rest w.next)

-- The pieces of disjuncts, by what each and those behind it update, what the disjunction around
-- updates, and whether one begins with the first.
abbrev pub pieces_of :
    (line : ℕ) → List (List (List ℕ)) → (wanted : List (List ℕ)) → (fresh : Bool) → List Goal
    → List Held → ℕ → Written (List Piece)
pieces_of l (w ∷ ws) xs fresh (g ∷ gs) hs n =
    piece (if opens fresh g ws then Some (closings xs w l hs) else None)
    (g.branch.writing (if opens fresh g ws then w else xs) hs n)
    (pieces_of l ws (if opens fresh g ws then w else xs) g.is_conditional gs hs)
pieces_of l _ xs fresh _ hs n = written [] n

-- one branch is itself, others are a disjunction
abbrev pub alone : (line : ℕ) → PlainTerms → PlainTerm
alone l (more_terms t no_term) = t
alone l ts = at (Disj ts) l

-- the goals of a conjunction, or the one goal that a term is
abbrev pub conjuncts : PlainTerm → List PlainTerm
conjuncts (at (Conj ts) l) = listed ts
conjuncts t = t ∷ []
