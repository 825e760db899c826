-- Places in a text, and the tokens from a place on.
use Rattle.std.proofs.Common.{◌≡◌, ℕ, suc, ◌+◌, ◌-◌, ◌<◌, Bool, true, false, List, [], ◌∷◌, ◌++◌, length, take, drop, get_or, reverse, refl, sym, ap, ◌∙◌, subst, arith, None, slice_range, not}
use Rattle.std.specs.Prelude.{◌==◌, ◌&&◌, ◌≢◌}
use Rattle.std.specs.List.{list_all}
use Rattle.std.proofs.lemmas.List.{append-nil, drop-drop, get_or-drop, append_assoc, reverse-append}
use Rattle.std.proofs.lemmas.List.Sums.{count_by_more_no}
use Rattle.std.proofs.lemmas.Bool.{ne_eqb, eq-eqb}
use Rattle.mc_term_parser.specs.declared.lexeme.Lexeme.{Lexeme}
use Rattle.mc_tokens.specs.Classes.{is_blank}
use Rattle.mc_tokens.specs.Utf8.{at}
use Rattle.mc_tokens.specs.Spots.{At, Go, Stop, Between, layout, layout_turn, layout_end}
use Rattle.mc_tokens.specs.Tokens.{Tok, token, token_from, lexed}
use Rattle.mc_tokens.specs.Contents.{stands_for}
use Rattle.mc_tokens.specs.Items.{Piece, Item, ends}
use Rattle.mc_tokens.specs.Items as I
use Rattle.mc_tokens.specs.declared.token.Kind.{Kind}
use Rattle.mc_tokens.specs.declared.token.Kind.TheVariants.{End, Eof}
use Rattle.mc_tokens.proofs.Quotes.{yes, no}
use Rattle.mc_tokens.proofs.Turns.{took}
use Rattle.mc_terms.specs.Lines.{line_at}
use Rattle.mc_terms.specs.code.Walked.{qualifier, with_token, walked}
use Rattle.laws_print.proofs.Characters.{take_front}
use Rattle.mc_base.proofs.Booleans.{left_true, right_true}

-- what stands in a text from a place on, and on which line
pub record Cursor (text : List ℕ) (line place : ℕ) (here : List ℕ) : Type 0 where
  pub follows : drop place text ≡ here
  pub counts : place + length here ≡ length text
  pub on_line : line_at text place ≡ line

pub spelled_so :
    {text here there : List ℕ} {line place : ℕ} → here ≡ there → Cursor text line place here
    → Cursor text line place there
spelled_so {text = text} {line = line} {place = place} e c =
    subst (λ l. Cursor text line place l) e c

-- a byte that ends no line
abbrev pub stays : ℕ → Bool
stays b = not (b == 10)

abbrev pub one_line : List ℕ → Bool
one_line bytes = list_all stays bytes

pub not_true : (b : Bool) → not b ≡ true → b ≡ false
not_true true h = cc
not_true false h = refl

past_one :
    (text : List ℕ) (line place b : ℕ) (rest : List ℕ)
    → stays b ≡ true → Cursor text line place (b ∷ rest) → Cursor text line (place + 1) rest
past_one text line place b rest s c =
    let counts : place + suc (length rest) ≡ length text = c.counts in
    let below : place < length text = omega arith in
    let there : get_or text place 0 ≡ b = let z : place ≡ place + 0 = omega arith in ap (λ i. get_or text i 0) z ∙ sym (get_or-drop place text 0 0) ∙ ap (λ l. get_or l 0 0) c.follows in
    let other : (get_or text place 0 == 10) ≡ false = ap (λ x. x == 10) there ∙ not_true (b == 10) s in
    record {
      follows = sym (drop-drop 1 place text) ∙ ap (drop 1) c.follows;
      counts = omega arith;
      on_line =
          ap (λ n. 1 + n) (count_by_more_no (λ b. b == 10) text place 0 below other) ∙ c.on_line;
    }

-- the place behind bytes none of which ends a line
pub past :
    (text : List ℕ) (line place : ℕ) (bytes rest : List ℕ)
    → one_line bytes ≡ true → Cursor text line place (bytes ++ rest)
    → Cursor text line (place + length bytes) rest
past text line place [] rest s c =
    let z : place ≡ place + 0 = omega arith in subst (λ p. Cursor text line p rest) z c
past text line place (b ∷ bs) rest s c =
    let z : place + 1 + length bs ≡ place + suc (length bs) = omega arith in
    subst (λ p. Cursor text line p rest) z
    (past text line (place + 1) bs rest (right_true (stays b) (one_line bs) s)
    (past_one text line place b (bs ++ rest) (left_true (stays b) (one_line bs) s) c))

-- a byte at which neither a blank nor a comment begins
abbrev pub is_firm : ℕ → Bool
is_firm b = not (is_blank b) && (not (b == 37) && not (b == 47))

firm_turn :
    (place b : ℕ) (bs : List ℕ)
    → is_firm b ≡ true → layout_turn Between place b bs ≡ Stop (At place)
unfolding layout_turn
firm_turn place b bs f =
    let blank = not_true (is_blank b) (left_true (not (is_blank b)) _ f) in
    let others = right_true (not (is_blank b)) (not (b == 37) && not (b == 47)) f in
    let percent = not_true (b == 37) (left_true (not (b == 37)) (not (b == 47)) others) in
    let slash = not_true (b == 47) (right_true (not (b == 37)) (not (b == 47)) others) in
    no _ blank ∙ no _ percent ∙ no _ (ap (λ t. t && (at bs 0 == 42)) slash)

firm_layout :
    (place : ℕ) (here : List ℕ) → is_firm (at here 0) ≡ true → layout Between place here ≡ At place
firm_layout place [] f = refl
firm_layout place (b ∷ bs) f = ap (took layout_turn layout_end place bs) (firm_turn place b bs f)

-- the token that begins in the place
pub lexed_here :
    (text : List ℕ) (line place : ℕ) (k : Kind) (here : List ℕ)
    → Cursor text line place here → is_firm (at here 0) ≡ true
    → lexed text place k ≡ token k place here
unfolding lexed
lexed_here text line place k here c f =
    ap (λ d. token_from text place k (layout Between place d)) c.follows
    ∙ ap (token_from text place k) (firm_layout place here f)
    ∙ ap (λ e. token e place (drop place text)) (yes Eof (eq-eqb place place refl))
    ∙ ap (token k place) c.follows

blank_turn : (place : ℕ) (bs : List ℕ) → layout_turn Between place 32 bs ≡ Go Between 0
unfolding layout_turn
blank_turn place bs = refl

-- a blank before a token
pub lexed_past_blank :
    (text : List ℕ) (line place : ℕ) (k : Kind) (here : List ℕ)
    → Cursor text line place (32 ∷ here) → is_firm (at here 0) ≡ true
    → lexed text place k ≡ lexed text (place + 1) Eof
unfolding lexed
lexed_past_blank text line place k here c f =
    let next = past_one text line place 32 here refl c in
    let other : place + 1 ≢ place = λ e. absurd (omega arith) in
    ap (λ d. token_from text place k (layout Between place d)) c.follows
    ∙ ap (λ t. token_from text place k (took layout_turn layout_end place here t))
    (blank_turn place here)
    ∙ ap (token_from text place k) (firm_layout (place + 1) here f)
    ∙ ap (λ e. token e (place + 1) (drop (place + 1) text)) (no k (ne_eqb (place + 1) place other))
    ∙ ap (token Eof (place + 1)) next.follows
    ∙ sym (lexed_here text line (place + 1) Eof here next f)

-- the first list, of which the last stands first, before the second
abbrev pub onto : List Lexeme → List Lexeme → List Lexeme
onto [] ts = ts
onto (x ∷ done) ts = onto done (x ∷ ts)

-- From the place, after a token of a kind, the tokens up to the item's full stop are these, whatever
-- tokens were read before but a dot.
abbrev pub Spells : List ℕ → ℕ → Kind → List Lexeme → ℕ → Type 0
Spells text place k ts stop =
    (done : List Lexeme)
    → qualifier done ≡ None
    → (ps : List Piece) × Item text place k ps End stop × (walked text done ps ≡ onto done ts)

-- a token of the kind that stands for these bytes, on the line, is one more lexeme, which is no dot
abbrev pub Adds : Kind → List ℕ → ℕ → Lexeme → Type 0
Adds e w line x =
    (done : List Lexeme)
    → qualifier done ≡ None
    → (with_token done e w line ≡ x ∷ done) × (qualifier (x ∷ done) ≡ None)

onto_reverse : (done ts : List Lexeme) → reverse done ++ ts ≡ onto done ts
onto_reverse [] ts = refl
onto_reverse (x ∷ done) ts =
    ap (λ l. l ++ ts) (reverse-append (x ∷ []) done) ∙ append_assoc (reverse done) (x ∷ []) ts ∙
    onto_reverse done (x ∷ ts)

-- at the item's full stop
pub spells_end :
    (text : List ℕ) (place start stop : ℕ) (k : Kind)
    → lexed text place k ≡ Tok End start stop → Spells text place k [] stop
spells_end text place start stop k l =
    λ done q. ([], I.over l refl, sym (append-nil (reverse done)) ∙ onto_reverse done [])

-- one more token
pub spells_token : (text : List ℕ) (place start stop last : ℕ) (k e : Kind) (x : Lexeme) (ts : List Lexeme) → lexed text place k ≡ Tok e start stop → ends e ≡ false → Adds e (stands_for e (slice_range text start stop)) (line_at text start) x
    → Spells text stop e ts last → Spells text place k (x ∷ ts) last
spells_token text place start stop last k e x ts l h adds more = λ done q.
    let added = adds done q in
    let rest = more (x ∷ done) added.1 in (
      record { kind = e; bytes = slice_range text start stop; place = start } ∷ rest.0,
      I.next l h rest.1,
      ap (λ d. walked text d rest.0) added.0 ∙ rest.2,
    )

same_item :
    {text : List ℕ} {place from last : ℕ} {k e end : Kind} {ps : List Piece}
    → lexed text place k ≡ lexed text from e → Item text from e ps end last
    → Item text place k ps end last
same_item e (I.over l h) = I.over (e ∙ l) h
same_item e (I.next l h i) = I.next (e ∙ l) h i

-- a blank before a token changes nothing
pub spells_past_blank : (text : List ℕ) (line place last : ℕ) (k : Kind) (here : List ℕ) (ts : List Lexeme) → Cursor text line place (32 ∷ here) → is_firm (at here 0) ≡ true
    → (Cursor text line (place + 1) here → Spells text (place + 1) Eof ts last)
    → Spells text place k ts last
spells_past_blank text line place last k here ts c f more = λ done q.
    let rest = more (past_one text line place 32 here refl c) done q in
    (rest.0, same_item (lexed_past_blank text line place k here c f) rest.1, rest.2)

-- the bytes of a token that stands here
pub bytes_of :
    (text : List ℕ) (line place : ℕ) (bytes rest : List ℕ)
    → Cursor text line place (bytes ++ rest)
    → slice_range text place (place + length bytes) ≡ bytes
bytes_of text line place bytes rest c =
    let long : place + length bytes - place ≡ length bytes = omega arith in
    ap (λ n. take n (drop place text)) long ∙ ap (take (length bytes)) c.follows ∙ take_front
    (length bytes) bytes rest refl

-- one more token, which stands in these bytes
pub spells_bytes : (text : List ℕ) (line place last : ℕ) (k e : Kind) (bytes rest : List ℕ) (x : Lexeme) (ts : List Lexeme)
    → is_firm (at (bytes ++ rest) 0) ≡ true → one_line bytes ≡ true
    → token k place (bytes ++ rest) ≡ Tok e place (place + length bytes) → ends e ≡ false
    → Adds e (stands_for e bytes) line x
    → Cursor text line place (bytes ++ rest)
    → (Cursor text line (place + length bytes) rest
    → Spells text (place + length bytes) e ts last) → Spells text place k (x ∷ ts) last
spells_bytes text line place last k e bytes rest x ts f one t h adds c more =
    spells_token text place place (place + length bytes) last k e x ts
    (lexed_here text line place k (bytes ++ rest) c f ∙ t) h
    (subst (λ w. Adds e (stands_for e w) (line_at text place) x)
    (sym (bytes_of text line place bytes rest c))
    (subst (λ l. Adds e (stands_for e bytes) l x) (sym c.on_line) adds))
    (more (past text line place bytes rest one c))
