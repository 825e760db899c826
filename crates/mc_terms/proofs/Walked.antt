-- The tokens that the walk over an item's pieces makes are its lexemes.
use Rattle.std.proofs.Common.{◌≡◌, ℕ, Bool, false, true, List, [], ◌∷◌, ◌++◌, reverse, Option, Some, None, refl, sym, ap, ◌∙◌, append_assoc, append-nil}
use Rattle.std.proofs.lemmas.List.{reverse-append}
use Rattle.mc_term_parser.specs.declared.lexeme.Lexeme.{Lexeme}
use Rattle.mc_term_parser.specs.declared.lexeme.Lexeme.TheVariants as L
use Rattle.mc_tokens.specs.declared.token.Kind.{Kind}
use Rattle.mc_tokens.specs.declared.token.Kind.TheVariants as K
use Rattle.mc_tokens.specs.Contents.{stands_for}
use Rattle.mc_tokens.specs.Items.{Piece}
use Rattle.mc_terms.specs.Lines.{line_at}
use Rattle.mc_terms.specs.Lexemes.{goes_on, name_by, name_before, token_before, lexemes}
use Rattle.mc_terms.specs.code.Walked.{qualifier, with_name, with_token, walked}

-- the parts and the line of a name
abbrev Parts : Type 0
Parts = Option (List (List ℕ) × ℕ)

abbrev parts_of : Lexeme → Parts
parts_of (L.Word w q l) = Some (w ∷ [], l)
parts_of (L.Path ws l) = Some (ws, l)
parts_of _ = None

-- a token before these, as `token_before` has it for one piece
abbrev put_by : Lexeme → Parts → Option (List (List ℕ) × List Lexeme) → List Lexeme → List Lexeme
put_by x None o ts = x ∷ ts
put_by x (Some n) None ts = x ∷ ts
put_by x (Some n) (Some r) ts = L.Path (n.0 ++ r.0) n.1 ∷ r.1

abbrev put : Lexeme → List Lexeme → List Lexeme
put x ts = put_by x (parts_of x) (goes_on ts) ts

plain_by : (x : Lexeme) (n : Parts) (o : Option (List (List ℕ) × List Lexeme)) (ts : List Lexeme) → o ≡ None → put_by x n o ts ≡ x ∷ ts
plain_by x None o ts e = refl
plain_by x (Some n) None ts e = refl
plain_by x (Some n) (Some r) ts e = cc

plain : (x : Lexeme) (ts : List Lexeme) → goes_on ts ≡ None → put x ts ≡ x ∷ ts
plain x ts e = plain_by x (parts_of x) (goes_on ts) ts e

-- Tokens that are done, the last first, before others: where those that are done end in a name, or
-- in a name and a dot, that name may go on.
abbrev pub seam : List Lexeme → List Lexeme → List Lexeme
seam (L.Dot ∷ x ∷ done) ts = reverse done ++ put x (L.Dot ∷ ts)
seam (x ∷ done) ts = reverse done ++ put x ts
seam [] ts = ts

last_put : (x : Lexeme) (done ts : List Lexeme) → reverse done ++ x ∷ ts ≡ reverse (x ∷ done) ++ ts
last_put x done ts = sym (append_assoc (reverse done) (x ∷ []) ts) ∙ ap (λ l. l ++ ts) (sym (reverse-append (x ∷ []) done))

-- where no name goes on
seam_plain : (done ts : List Lexeme) → goes_on ts ≡ None → goes_on (L.Dot ∷ ts) ≡ None → seam done ts ≡ reverse done ++ ts
seam_plain [] ts e f = refl
seam_plain (L.Dot ∷ x ∷ done) ts e f = ap (λ l. reverse done ++ l) (plain x (L.Dot ∷ ts) f) ∙ last_put x done (L.Dot ∷ ts) ∙ last_put L.Dot (x ∷ done) ts
seam_plain (x ∷ done) ts e f = ap (λ l. reverse done ++ l) (plain x ts e) ∙ last_put x done ts

-- where those that are done do not end in a name and a dot, and no dot is next
no_name : (done ts : List Lexeme) → qualifier done ≡ None → goes_on ts ≡ None → seam done ts ≡ reverse done ++ ts
no_name [] ts h e = refl
no_name (L.Dot ∷ L.Word w q l ∷ done) ts h e = cc
no_name (L.Dot ∷ L.Path ws l ∷ done) ts h e = cc
no_name (L.Dot ∷ x ∷ done) ts h e = last_put x done (L.Dot ∷ ts) ∙ last_put L.Dot (x ∷ done) ts
no_name (x ∷ done) ts h e = ap (λ l. reverse done ++ l) (plain x ts e) ∙ last_put x done ts

module _ (w : List ℕ) (q : Bool) (l : ℕ) (ts : List Lexeme) where
  -- a name that goes on from a name and a dot
  join_by : (x : Lexeme) (ws : List (List ℕ)) (k : ℕ) (o : Option (List (List ℕ) × List Lexeme)) →
      put_by (L.Path (ws ++ w ∷ []) k) (Some (ws ++ w ∷ [], k)) o ts ≡ put_by x (Some (ws, k)) (goes_on (L.Dot ∷ name_by o w q l ts)) (L.Dot ∷ name_by o w q l ts)
  join_by x ws k None = refl
  join_by x ws k (Some r) = ap (λ z. L.Path z k ∷ r.1) (append_assoc ws (w ∷ []) r.0)

  word_by : (o : Option (List (List ℕ) × List Lexeme)) → put_by (L.Word w q l) (Some (w ∷ [], l)) o ts ≡ name_by o w q l ts
  word_by None = refl
  word_by (Some r) = refl

  word_first : (o : Option (List (List ℕ) × List Lexeme)) → goes_on (name_by o w q l ts) ≡ None
  word_first None = refl
  word_first (Some r) = refl

  alone : (done : List Lexeme) → qualifier done ≡ None → reverse done ++ put (L.Word w q l) ts ≡ seam done (name_before w q l ts)
  alone done h = ap (λ z. reverse done ++ z) (word_by (goes_on ts)) ∙ sym (no_name done (name_before w q l ts) h (word_first (goes_on ts)))

  name_step : (done : List Lexeme) → seam (with_name (qualifier done) done w q l) ts ≡ seam done (name_before w q l ts)
  name_step (L.Dot ∷ L.Word v p k ∷ done) = ap (λ z. reverse done ++ z) (join_by (L.Word v p k) (v ∷ []) k (goes_on ts))
  name_step (L.Dot ∷ L.Path vs k ∷ done) = ap (λ z. reverse done ++ z) (join_by (L.Path vs k) vs k (goes_on ts))
  name_step done = alone done refl

dot_step : (done ts : List Lexeme) → seam (L.Dot ∷ done) ts ≡ seam done (L.Dot ∷ ts)
dot_step [] ts = refl
dot_step (L.Dot ∷ []) ts = refl
dot_step (L.Dot ∷ x ∷ done) ts = sym (ap (λ l. reverse done ++ l) (plain x (L.Dot ∷ L.Dot ∷ ts) refl) ∙ last_put x done (L.Dot ∷ L.Dot ∷ ts))
dot_step (x ∷ done) ts = refl

-- one more piece
step : (done : List Lexeme) (k : Kind) (w : List ℕ) (l : ℕ) (ts : List Lexeme) → seam (with_token done k w l) ts ≡ seam done (token_before k w l ts)
step done K.Name w l ts = name_step w false l ts done
step done K.Quoted w l ts = name_step w true l ts done
step done K.Var w l ts = sym (seam_plain done (L.Var w l ∷ ts) refl refl)
step done (K.Int n) w l ts = sym (seam_plain done (L.Int n l ∷ ts) refl refl)
step done K.Str w l ts = sym (seam_plain done (L.Str w l ∷ ts) refl refl)
step done K.Open w l ts = sym (seam_plain done (L.Open l ∷ ts) refl refl)
step done K.OpenCt w l ts = sym (seam_plain done (L.OpenCt l ∷ ts) refl refl)
step done K.Close w l ts = sym (seam_plain done (L.Close ∷ ts) refl refl)
step done K.ListOpen w l ts = sym (seam_plain done (L.ListOpen l ∷ ts) refl refl)
step done K.ListClose w l ts = sym (seam_plain done (L.ListClose ∷ ts) refl refl)
step done K.Bar w l ts = sym (seam_plain done (L.Bar ∷ ts) refl refl)
step done K.Comma w l ts = sym (seam_plain done (L.Comma ∷ ts) refl refl)
step done _ w l ts = dot_step done ts

walked_seam : (text : List ℕ) (done : List Lexeme) (ps : List Piece) → walked text done ps ≡ seam done (lexemes text ps)
walked_seam text done [] = sym (seam_plain done [] refl refl ∙ append-nil (reverse done))
walked_seam text done (p ∷ ps) =
    let w = stands_for p.kind p.bytes in
    let l = line_at text p.place in
    walked_seam text (with_token done p.kind w l) ps ∙ step done p.kind w l (lexemes text ps)

pub walked_is : (text : List ℕ) (ps : List Piece) → walked text [] ps ≡ lexemes text ps
walked_is text ps = walked_seam text [] ps
