-- What is known of an item where some of its tokens are read.
use Rattle.std.proofs.Common.{◌≡◌, ◌≢◌, ◌⊎◌, inl, inr, refl, ℕ, ◌+◌, ◌≤◌, ◌<◌, arith, true, false, List, [], ◌∷◌, reverse, sym, ap, ◌∙◌, subst, slice_range}
use Rattle.std.proofs.lemmas.List.{reverse-reverse}
use Rattle.mc_term_parser.specs.declared.lexeme.Lexeme.{Lexeme}
use Rattle.mc_tokens.specs.declared.token.Kind.{Kind}
use Rattle.mc_tokens.specs.declared.token.Kind.TheVariants.{End, Eof}
use Rattle.mc_tokens.specs.declared.token.FaultKind.{FaultKind}
use Rattle.mc_tokens.specs.Contents.{stands_for}
use Rattle.mc_tokens.specs.Tokens.{lexed, Tok, Fault}
use Rattle.mc_tokens.specs.Items.{Piece, ends, Item, Faulty}
use Rattle.mc_tokens.specs.Items as I
use Rattle.mc_tokens.specs.Answers.{InOrder}
use Rattle.mc_terms.specs.Lines.{line_at}
use Rattle.mc_terms.specs.Lexemes.{lexemes}
use Rattle.mc_terms.specs.code.Walked.{with_token, walked}
use Rattle.mc_terms.proofs.Walked.{walked_is}
use Rattle.mc_tokens.specs.Items.{Passes}
use Rattle.mc_tokens.specs.declared.token.TokenFault.{TokenFault}
use Rattle.mc_tokens.specs.declared.token.Token as D
use Rattle.mc_terms.specs.declared.fault.ReadFault.{ReadFault}
use Rattle.mc_terms.specs.declared.fault.ReadKind.TheVariants.{Token, NotATerm}
use Rattle.mc_terms.specs.declared.fault.ReadKind.{ReadKind}
use Rattle.mc_terms.specs.Answers.{AreItemTokens, AreNoTerm, IsRefused, StandsAt, item_line, token_line}

-- the rest of the item, from a place after a token of a kind, completes the tokens so far
pub record Continues (text : List ℕ) (from at : ℕ) (after : Kind) (tokens : List Lexeme) : Type 0 where
  pub items :
      (ps : List Piece) (end : Kind) (stop : ℕ)
      → Item text at after ps end stop
      → (qs : List Piece)
      × Item text from Eof qs end stop
      × (lexemes text qs ≡ walked text (reverse tokens) ps)
  pub faults :
      (f : FaultKind) (place : ℕ) → Faulty text at after f place → Faulty text from Eof f place

pub begins : (text : List ℕ) (from : ℕ) → Continues text from from Eof []
begins text from =
    record { items = λ ps end stop d. (ps, d, sym (walked_is text ps)); faults = λ f place d. d }

pub begins_with : (text : List ℕ) (from : ℕ) (tokens : List Lexeme) → tokens ≡ [] → Continues text from from Eof tokens
begins_with text from tokens e = subst (λ ts. Continues text from from Eof ts) (sym e) (begins text from)

-- at the item's end
pub ended :
    (text : List ℕ) (from at : ℕ) (after e : Kind) (start stop : ℕ) (tokens : List Lexeme)
    → Continues text from at after tokens → lexed text at after ≡ Tok e start stop → ends e ≡ true
    → AreItemTokens text from tokens e stop
ended text from at after e start stop tokens c l h =
    let (qs, item, is) = c.items [] e stop (I.over l h) in
    (qs, item, is ∙ reverse-reverse tokens)

-- behind one more token
pub goes_on : (text : List ℕ) (from at : ℕ) (after e : Kind) (start stop : ℕ) (tokens more : List Lexeme) → Continues text from at after tokens → lexed text at after ≡ Tok e start stop → ends e ≡ false
    → reverse more
    ≡ with_token (reverse tokens) e (stands_for e (slice_range text start stop))
    (line_at text start)
    → Continues text from stop e more
goes_on text from at after e start stop tokens more c l h m = record {
  items = λ ps end last d.
      let (qs, item, is) = c.items (record { kind = e; bytes = slice_range text start stop; place = start } ∷ ps) end last (I.next l h d) in
      (qs, item, is ∙ ap (λ done. walked text done ps) (sym m));
  faults = λ f place d. c.faults f place (I.later l h d);
}

-- at a faulty token
pub faulty :
    (text : List ℕ) (from at : ℕ) (after : Kind) (f : FaultKind) (place : ℕ) (tokens : List Lexeme)
    → Continues text from at after tokens → lexed text at after ≡ Fault f place
    → Faulty text from Eof f place
faulty text from at after f place tokens c l = c.faults f place (I.here l)

-- the same for the walk's answers, the text of which stays
pub refused_by : (text before behind : List ℕ) (from at line : ℕ) (after : Kind) (f : TokenFault) (tokens : List Lexeme) (r : ReadFault) → before ≡ text → behind ≡ before → Continues before from at after tokens → Fault f.kind f.at ≡ lexed before at after
    → line ≡ item_line text from → r.kind ≡ Token f.kind
    → r.line ≡ token_line f.kind line (line_at behind f.at)
    → Passes behind (f.at + 1) Eof r.next → IsRefused text from r.kind r.line r.next
refused_by text before behind from at line after f tokens r e g c l m k n p =
    subst (λ kind. IsRefused text from kind r.line r.next) (sym k) (
      f.at,
      subst (λ t. Faulty t from Eof f.kind f.at) e
          (faulty before from at after f.kind f.at tokens c (sym l)),
      n ∙ (λ i. token_line f.kind (m i) (line_at ((g ∙ e) i) f.at)),
      subst (λ t. Passes t (f.at + 1) Eof r.next) (g ∙ e) p,
    )

-- where the faulty token stands
pub stands_by : (text before : List ℕ) (from at place : ℕ) (after : Kind) (f : TokenFault) (tokens : List Lexeme) (kind : ReadKind) → before ≡ text → Continues before from at after tokens → Fault f.kind f.at ≡ lexed before at after
    → kind ≡ Token f.kind → place ≡ f.at → StandsAt text from kind place
stands_by text before from at place after f tokens kind e c l k p =
    subst (λ kind. StandsAt text from kind place) (sym k)
    (subst (λ place. Faulty text from Eof f.kind place) (sym p)
    (subst (λ t. Faulty t from Eof f.kind f.at) e (faulty before from at after f.kind f.at tokens c (sym l))))

-- a token that ends an item is a full stop, or the text's end
pub full_stop : (k : Kind) → ends k ≡ true → k ≢ Eof → k ≡ End
full_stop End h n = refl
full_stop Eof h n = absurd (n refl)
full_stop _ h n = cc

pub ended_at : (text before : List ℕ) (from at : ℕ) (after end : Kind) (t : D.Token) (tokens : List Lexeme) (stop : ℕ) → before ≡ text → Continues before from at after tokens → Tok t.kind t.start t.end ≡ lexed before at after
    → ends t.kind ≡ true → t.kind ≡ end → stop ≡ t.end → AreItemTokens text from tokens end stop
ended_at text before from at after end t tokens stop e c l h k s =
    subst (λ end. AreItemTokens text from tokens end stop) k
    (subst (λ stop. AreItemTokens text from tokens t.kind stop) (sym s)
    (subst (λ u. AreItemTokens u from tokens t.kind t.end) e
    (ended before from at after t.kind t.start t.end tokens c (sym l) h)))

-- where the tokens are no term
pub not_a_term : (text walk shown : List ℕ) (at : ℕ) (ts : List Lexeme) (end : Kind) (stop line : ℕ) (first : D.Token) (r : ReadFault) → walk ≡ text → AreItemTokens walk at ts end stop → AreNoTerm ts end
    → Tok first.kind first.start first.end ≡ lexed text at Eof → (first.kind ≡ Eof → ⊥)
    → shown ≡ walk → line ≡ line_at shown first.start
    → r.kind ≡ NotATerm → r.line ≡ line → r.next ≡ stop → IsRefused text at r.kind r.line r.next
not_a_term text walk shown at ts end stop line first r e items none l k w n kind on next =
    subst (λ kind. IsRefused text at kind r.line r.next) (sym kind) (
      ts,
      end,
      subst (λ stop. AreItemTokens text at ts end stop) (sym next) (subst (λ u. AreItemTokens u at ts end stop) e items),
      none,
      (first.kind, first.start, first.end, sym l, k, on ∙ n ∙ ap (λ u. line_at u first.start) (w ∙ e)),
    )

-- a token of the item, which is read next, behind the tokens so far
pub record IsNext (text : List ℕ) (from : ℕ) (tokens : List Lexeme) (t : D.Token) : Type 0 where
  pub at : ℕ
  pub after : Kind
  pub so_far : Continues text from at after tokens
  pub is : Tok t.kind t.start t.end ≡ lexed text at after
  pub bytes : t.text.now ≡ slice_range text t.start t.end
  pub order : InOrder text at t

module _ (text : List ℕ) (from : ℕ) (tokens more : List Lexeme) (t : D.Token) (line : ℕ) (n : IsNext text from tokens t) (h : ends t.kind ≡ false) (w : line ≡ line_at text t.start) (m : reverse more ≡ with_token (reverse tokens) t.kind (stands_for t.kind t.text.now) line) where
  -- behind it, where it doesn't end the item
  pub behind_next : Continues text from t.end t.kind more
  behind_next =
      goes_on text from n.at n.after t.kind t.start t.end tokens more n.so_far (sym n.is) h
      (m ∙ (λ i. with_token (reverse tokens) t.kind (stands_for t.kind (n.bytes i)) (w i)))

  -- the token behind it, where the text stays
  pub next_after : (shown : List ℕ) (u : D.Token) → shown ≡ text → Tok u.kind u.start u.end ≡ lexed text t.end t.kind → u.text.now ≡ slice_range text u.start u.end → InOrder text t.end u → IsNext shown from more u
  next_after shown u g is bytes order =
      subst (λ text. IsNext text from more u) (sym g)
      (record { at = t.end; after = t.kind; so_far = behind_next; is = is; bytes = bytes; order = order })
