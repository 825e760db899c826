-- Where a term starts.
use Rattle.std.proofs.Common.{◌≡◌, ◌≢◌, ℕ, ◌<◌, ◌+◌, min, ⊎_elim, Bool, true, false, cond, List, [], ◌∷◌, length, drop, sym, ap, ◌∙◌, refl, arith, Some, None, codes}
use Rattle.std.proofs.str.Laws.{order}
use Rattle.std.proofs.lemmas.List.{drop_all}
use Rattle.mc_term_parser.specs.declared.lexeme.Lexeme.{Lexeme}
use Rattle.mc_term_parser.specs.declared.lexeme.Lexeme.TheVariants as L
use Rattle.mc_term_parser.specs.declared.infixes.Role.TheVariants.{Compound, Negative}
use Rattle.mc_term_parser.specs.declared.frame.Series.TheVariants.{Arguments}
use Rattle.mc_term_parser.specs.declared.frame.Mark.TheVariants as MV
use Rattle.mc_operators.specs.Table.{same_name, prefix_row}
use Rattle.mc_term_parser.specs.Infixes.{role, prefix_role, starts}
use Rattle.mc_term_parser.specs.Part.{closed}
use Rattle.mc_term_parser.specs.code.Machine as M
use Rattle.mc_term_parser.specs.code.Seen.{seen_making, seen_neg, no_seen}
use Rattle.mc_term_parser.specs.code.Views.{FrameSeen, mark_of, number_next, minus_next}
use Rattle.mc_term_parser.proofs.Steps.{more_left, after_first}

pub role_compound :
    (limit : ℕ) (w : List ℕ) (ts : List Lexeme)
    → mark_of ts ≡ MV.OpenCt → Compound ≡ role limit w ts
unfolding role
role_compound limit w (L.OpenCt l ∷ ts) e = refl
role_compound limit w [] e = cc
role_compound limit w (L.Close ∷ ts) e = cc
role_compound limit w (L.ListClose ∷ ts) e = cc
role_compound limit w (L.Bar ∷ ts) e = cc
role_compound limit w (L.Comma ∷ ts) e = cc
role_compound limit w (t ∷ ts) e = cc

pub role_negative :
    (limit n : ℕ) (w : List ℕ) (ts : List Lexeme)
    → minus_next w ts ≡ Some n → Negative n ≡ role limit w ts
unfolding role
role_negative limit n w ts e = by_name (same_name (codes "-") w) refl e
  where
    by_tokens :
        (ts : List Lexeme)
        → same_name (codes "-") w ≡ true → number_next ts ≡ Some n → Negative n ≡ role limit w ts
    by_tokens (L.Int m l ∷ ts) h e = let same : n ≡ m = cc in ap Negative same ∙ sym (ap (λ t. cond t (Negative m) (prefix_role limit (prefix_row w) true)) h)
    by_tokens [] h e = cc
    by_tokens (t ∷ ts) h e = cc

    by_name :
        (t : Bool)
        → same_name (codes "-") w ≡ t → cond t (number_next ts) None ≡ Some n
        → Negative n ≡ role limit w ts
    by_name true h e = by_tokens ts h e
    by_name false h e = cc

pub role_other :
    (limit : ℕ) (w : List ℕ) (ts : List Lexeme)
    → mark_of ts ≢ MV.OpenCt → minus_next w ts ≡ None
    → prefix_role limit (prefix_row w) (starts ts) ≡ role limit w ts
unfolding role
role_other limit w (L.OpenCt l ∷ ts) m e = absurd (m refl)
role_other limit w (L.Int n l ∷ ts) m e = go (same_name (codes "-") w) e
  where
    go :
        (t : Bool)
        → cond t (Some n) None ≡ None
        → prefix_role limit (prefix_row w) true
        ≡ cond t (Negative n) (prefix_role limit (prefix_row w) true)
    go true e = cc
    go false e = refl
role_other limit w [] m e = refl
role_other limit w (t ∷ ts) m e = refl

pub negative_on :
    (tokens : List Lexeme) (at : ℕ) (c : Bool) (limit : ℕ) (stack : List FrameSeen) (l n : ℕ)
    → at < length tokens
    → M.on_negative seen_making c limit stack l n (drop at tokens)
    ≡ M.Done c limit stack (closed (seen_neg l n)) (drop (at + 1) tokens)
negative_on tokens at c limit stack l n h =
    let (x, e) = more_left tokens at h in ap (M.on_negative seen_making c limit stack l n) e

pub compound_on :
    (tokens : List Lexeme) (at : ℕ) (c : Bool) (limit : ℕ) (stack : List FrameSeen) (l : ℕ)
    (w : List (List ℕ))
    → at < length tokens
    → M.on_compound seen_making c limit stack l w (drop at tokens)
    ≡ M.Start true 1200 (M.InParts (Arguments w) l no_seen c limit ∷ stack)
    (drop (at + 1) tokens)
compound_on tokens at c limit stack l w h =
    let (x, e) = more_left tokens at h in ap (M.on_compound seen_making c limit stack l w) e

open_next :
    (tokens : List Lexeme) (at : ℕ)
    → mark_of (drop at tokens) ≡ MV.OpenCt
    → (l : ℕ) × (drop at tokens ≡ L.OpenCt l ∷ drop (at + 1) tokens)
open_next tokens at e = go (drop at tokens) refl e
  where
    go :
        (ts : List Lexeme)
        → drop at tokens ≡ ts → mark_of ts ≡ MV.OpenCt
        → (l : ℕ) × (drop at tokens ≡ L.OpenCt l ∷ drop (at + 1) tokens)
    go (L.OpenCt l ∷ ts) z e = (l, after_first tokens at (L.OpenCt l) ts z)
    go [] z e = cc
    go (L.Close ∷ ts) z e = cc
    go (L.ListClose ∷ ts) z e = cc
    go (L.Bar ∷ ts) z e = cc
    go (L.Comma ∷ ts) z e = cc
    go (t ∷ ts) z e = cc

pub path_on :
    (tokens : List Lexeme) (at : ℕ) (c : Bool) (limit : ℕ) (stack : List FrameSeen) (l : ℕ)
    (w : List (List ℕ))
    → mark_of (drop at tokens) ≡ MV.OpenCt
    → M.on_path seen_making c limit stack l w (drop at tokens)
    ≡ M.Start true 1200 (M.InParts (Arguments w) l no_seen c limit ∷ stack)
    (drop (at + 1) tokens)
path_on tokens at c limit stack l w h =
    let (k, e) = open_next tokens at h in ap (M.on_path seen_making c limit stack l w) e

pub rest_cut :
    (tokens : List Lexeme) (at : ℕ) → drop (min at (length tokens)) tokens ≡ drop at tokens
rest_cut tokens at =
    ⊎_elim (λ lt. let e : min at (length tokens) ≡ at = omega arith in ap (λ n. drop n tokens) e)
    (λ le. let e : min at (length tokens) ≡ length tokens = omega arith in ap (λ n. drop n tokens) e ∙ (drop_all (length tokens) tokens (omega arith) ∙ sym (drop_all at tokens le)))
    (order at (length tokens))
