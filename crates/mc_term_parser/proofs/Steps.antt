-- What the reader's calls make of the machine's state.
use Rattle.std.proofs.Common.{◌≡◌, ℕ, le-leb, ◌≤◌, ◌<◌, length, arith, ◌+◌, ◌-◌, Bool, true, cond, drop, List, [], ◌∷◌, ◌++◌, sym, ap, ◌∙◌, refl}
use Rattle.std.specs.Cmp.Derive.{both_true}
use Rattle.std.proofs.lemmas.Bool.{lt-ltb}
use Rattle.std.proofs.lemmas.List.{drop-drop, length-drop}
use Rattle.mc_term_parser.specs.declared.lexeme.Lexeme.{Lexeme}
use Rattle.mc_term_parser.specs.declared.lexeme.Lexeme.TheVariants as L
use Rattle.mc_term_parser.specs.declared.infixes.Chain.{Chain}
use Rattle.mc_term_parser.specs.declared.infixes.Infix.{Infix}
use Rattle.mc_term_parser.specs.declared.infixes.Infix.TheVariants as JV
use Rattle.mc_term_parser.specs.declared.frame.Series.TheVariants.{Chained}
use Rattle.mc_term_parser.specs.declared.frame.Context.{Context}
use Rattle.mc_term_parser.specs.declared.frame.Part as D
use Rattle.mc_term_parser.specs.declared.frame.Frame.{Frame}
use Rattle.mc_term_parser.specs.declared.frame.ParserPhase.TheVariants as NV
use Rattle.mc_term_parser.specs.declared.frame.ParserStack.{ParserStack}
use Rattle.mc_term_parser.specs.declared.frame.Machine.{Machine}
use Rattle.mc_term_parser.specs.declared.frame.Mark.TheVariants as MV
use Rattle.mc_term_parser.specs.Infixes as J
use Rattle.mc_term_parser.specs.Part as P
use Rattle.mc_term_parser.specs.code.Machine as M
use Rattle.mc_term_parser.specs.code.Seen.{Seen, SeenRow, seen_making, seen_then, no_seen, line_seen}
use Rattle.mc_term_parser.specs.code.Views.{FrameSeen, StateSeen, part, frame, onto, frames, state, mark_of, infix_next, name_next, separates}

-- the frames of a stack with one more on top
onto_push :
    (fs : List Frame) (f : Frame) (below : List FrameSeen)
    → onto below (fs ++ f ∷ []) ≡ frame f ∷ onto below fs
onto_push [] f below = refl
onto_push (g ∷ fs) f below = onto_push fs f (frame g ∷ below)

pub frames_push : (fs : List Frame) (f : Frame) → frames (fs ++ f ∷ []) ≡ frame f ∷ frames fs
frames_push fs f = onto_push fs f []

-- a part starts where a frame was put on the stack
pub start_at : (tokens : List Lexeme) (m : Machine) (s : Context) (b : ParserStack) (fs : List FrameSeen) (at : ℕ) → m ≡ record { phase = NV.Start s; parser = b } → frames b.stack.items ≡ fs → b.at ≡ at
    → state tokens m ≡ M.Start s.commas s.limit fs (drop at tokens)
start_at tokens m s b fs at e f g =
    ap (state tokens) e
    ∙ ap (λ fs. M.Start s.commas s.limit fs (drop b.at tokens)) f
    ∙ ap (λ at. M.Start s.commas s.limit fs (drop at tokens)) g

-- the same behind the next token
pub start_past : (tokens : List Lexeme) (m : Machine) (s : Context) (b p w : ParserStack) (f : FrameSeen) → m ≡ record { phase = NV.Start s; parser = w } → frames w.stack.items ≡ f ∷ frames p.stack.items → w.at ≡ p.at → p ≡ record { stack = b.stack; at = b.at + 1 }
    → state tokens m ≡ M.Start s.commas s.limit (f ∷ frames b.stack.items) (drop (b.at + 1) tokens)
start_past tokens m s b p w f e g h i =
    start_at tokens m s w (f ∷ frames p.stack.items) p.at e g h
    ∙ ap (λ (p : ParserStack). M.Start s.commas s.limit (f ∷ frames p.stack.items) (drop p.at tokens)) i

-- a part is read behind the next token
pub done_past : (tokens : List Lexeme) (m : Machine) (s : Context) (r : D.Part) (b p : ParserStack) (q : P.Part Seen) → m ≡ record { phase = NV.Done s r; parser = p } → p ≡ record { stack = b.stack; at = b.at + 1 } → part r ≡ q
    → state tokens m ≡ M.Done s.commas s.limit (frames b.stack.items) q (drop (b.at + 1) tokens)
done_past tokens m s r b p q e i g =
    ap (state tokens) e
    ∙ ap (λ (p : ParserStack). M.Done s.commas s.limit (frames p.stack.items) (part r) (drop p.at tokens)) i
    ∙ ap (λ q. M.Done s.commas s.limit (frames b.stack.items) q (drop (b.at + 1) tokens)) g

-- the tokens behind the first
pub after_first :
    (tokens : List Lexeme) (at : ℕ) (x : Lexeme) (ts : List Lexeme)
    → drop at tokens ≡ x ∷ ts → drop at tokens ≡ x ∷ drop (at + 1) tokens
after_first tokens at x ts e = let t : ts ≡ drop (at + 1) tokens = sym (ap (drop 1) e) ∙ drop-drop 1 at tokens in e ∙ ap (λ us. x ∷ us) t

abbrev Begins : Lexeme → List Lexeme → Type 0
Begins x ts = (us : List Lexeme) × (ts ≡ x ∷ us)

close_begins : (ts : List Lexeme) → mark_of ts ≡ MV.Close → Begins L.Close ts
close_begins (L.Close ∷ ts) e = (ts, refl)
close_begins [] e = cc
close_begins (L.ListClose ∷ ts) e = cc
close_begins (L.Bar ∷ ts) e = cc
close_begins (L.Comma ∷ ts) e = cc
close_begins (L.OpenCt l ∷ ts) e = cc
close_begins (t ∷ ts) e = cc

list_close_begins : (ts : List Lexeme) → mark_of ts ≡ MV.ListClose → Begins L.ListClose ts
list_close_begins (L.ListClose ∷ ts) e = (ts, refl)
list_close_begins [] e = cc
list_close_begins (L.Close ∷ ts) e = cc
list_close_begins (L.Bar ∷ ts) e = cc
list_close_begins (L.Comma ∷ ts) e = cc
list_close_begins (L.OpenCt l ∷ ts) e = cc
list_close_begins (t ∷ ts) e = cc

bar_begins : (ts : List Lexeme) → mark_of ts ≡ MV.Bar → Begins L.Bar ts
bar_begins (L.Bar ∷ ts) e = (ts, refl)
bar_begins [] e = cc
bar_begins (L.Close ∷ ts) e = cc
bar_begins (L.ListClose ∷ ts) e = cc
bar_begins (L.Comma ∷ ts) e = cc
bar_begins (L.OpenCt l ∷ ts) e = cc
bar_begins (t ∷ ts) e = cc

comma_begins : (ts : List Lexeme) → mark_of ts ≡ MV.Comma → Begins L.Comma ts
comma_begins (L.Comma ∷ ts) e = (ts, refl)
comma_begins [] e = cc
comma_begins (L.Close ∷ ts) e = cc
comma_begins (L.ListClose ∷ ts) e = cc
comma_begins (L.Bar ∷ ts) e = cc
comma_begins (L.OpenCt l ∷ ts) e = cc
comma_begins (t ∷ ts) e = cc

pub close_next :
    (tokens : List Lexeme) (at : ℕ)
    → mark_of (drop at tokens) ≡ MV.Close → drop at tokens ≡ L.Close ∷ drop (at + 1) tokens
close_next tokens at e =
    let (us, h) = close_begins (drop at tokens) e in after_first tokens at L.Close us h

pub list_close_next :
    (tokens : List Lexeme) (at : ℕ)
    → mark_of (drop at tokens) ≡ MV.ListClose
    → drop at tokens ≡ L.ListClose ∷ drop (at + 1) tokens
list_close_next tokens at e =
    let (us, h) = list_close_begins (drop at tokens) e in after_first tokens at L.ListClose us h

pub bar_next :
    (tokens : List Lexeme) (at : ℕ)
    → mark_of (drop at tokens) ≡ MV.Bar → drop at tokens ≡ L.Bar ∷ drop (at + 1) tokens
bar_next tokens at e =
    let (us, h) = bar_begins (drop at tokens) e in after_first tokens at L.Bar us h

pub comma_next :
    (tokens : List Lexeme) (at : ℕ)
    → mark_of (drop at tokens) ≡ MV.Comma → drop at tokens ≡ L.Comma ∷ drop (at + 1) tokens
comma_next tokens at e =
    let (us, h) = comma_begins (drop at tokens) e in after_first tokens at L.Comma us h

module _ (k : Chain) (l : ℕ) (ms : SeenRow) (d : Bool) (outer : ℕ) (stack : List FrameSeen) (c : Bool) where
  chain_on : (ts : List Lexeme) → separates k (infix_next c ts) ≡ true
      → (x : Lexeme)
      × (us : List Lexeme)
      × (ts ≡ x ∷ us)
      × (M.parts seen_making (Chained k) l ms d outer stack c ts
      ≡ M.Start c (J.rank k - 1) (M.InParts (Chained k) l ms d outer ∷ stack) us)
  chain_on [] e = cc
  chain_on (x ∷ us) e = (x, us, refl, go (J.joined_by c x) e)
    where
      go :
          (j : Infix)
          → separates k j ≡ true
          → M.on_chain seen_making k l ms d outer stack c (x ∷ us) j us
          ≡ M.Start c (J.rank k - 1) (M.InParts (Chained k) l ms d outer ∷ stack) us
      go JV.Nothing e = cc
      go (JV.Binary n ly ry) e = cc
      go (JV.Chains j) e =
          ap
          (λ t.
          cond t (M.Start c (J.rank k - 1) (M.InParts (Chained k) l ms d outer ∷ stack) us)
          (M.Done d outer stack (P.over (J.rank k) (J.rank k) (M.chain seen_making k l ms))
          (x ∷ us))) e

  pub chain_goes : (tokens : List Lexeme) (at : ℕ) (j : Infix) → j ≡ infix_next c (drop at tokens) → separates k j ≡ true
      → M.parts seen_making (Chained k) l ms d outer stack c (drop at tokens)
      ≡ M.Start c (J.rank k - 1) (M.InParts (Chained k) l ms d outer ∷ stack)
      (drop (at + 1) tokens)
  chain_goes tokens at j e h =
      let (x, us, z, p) = chain_on (drop at tokens) (ap (separates k) (sym e) ∙ h) in
      let t : us ≡ drop (at + 1) tokens = sym (ap (drop 1) z) ∙ drop-drop 1 at tokens in
      p ∙ ap (M.Start c (J.rank k - 1) (M.InParts (Chained k) l ms d outer ∷ stack)) t

pub more_left :
    (tokens : List Lexeme) (at : ℕ)
    → at < length tokens → (x : Lexeme) × (drop at tokens ≡ x ∷ drop (at + 1) tokens)
more_left tokens at h = go (drop at tokens) (length-drop at tokens) refl
  where
    go :
        (ys : List Lexeme)
        → length (drop at tokens) ≡ length tokens - at → drop at tokens ≡ ys
        → (x : Lexeme) × (drop at tokens ≡ x ∷ drop (at + 1) tokens)
    go [] l e = absurd (omega (arith, ap length e))
    go (y ∷ ys) l e = (y, after_first tokens at y ys e)

pub finish_no :
    (tokens : List Lexeme) (at : ℕ) (p : P.Part Seen)
    → at < length tokens → M.finish {R = SeenRow} p (drop at tokens) ≡ M.No
finish_no tokens at p h = let (x, e) = more_left tokens at h in ap (M.finish p) e

pub first_goes : (tokens : List Lexeme) (at : ℕ) (c : Bool) (n l : ℕ) (t : Seen) (w : List (List ℕ)) (d : Bool) (outer : ℕ) (stack : List FrameSeen) → at < length tokens → JV.Nothing ≡ infix_next c (drop at tokens)
    → M.at_first seen_making c n l t w d outer stack (drop at tokens)
    ≡ M.Start c n (M.AtSecond l w n t d outer ∷ stack) (drop at tokens)
first_goes tokens at c n l t w d outer stack h j =
    let (x, e) = more_left tokens at h in
    let us = drop (at + 1) tokens in
    let none : J.joined_by c x ≡ JV.Nothing = sym (j ∙ ap (infix_next c) e) in
    ap (M.at_first seen_making c n l t w d outer stack) e ∙ ap
    (M.second seen_making c n l t w d outer stack (x ∷ us)) none ∙ ap
    (M.Start c n (M.AtSecond l w n t d outer ∷ stack)) (sym e)

-- the turn at an infix operator
pub binary_turn : (tokens : List Lexeme) (at : ℕ) (c : Bool) (limit : ℕ) (p : P.Part Seen) (n : ℕ) (ly ry : Bool) (stack : List FrameSeen) (other : StateSeen) → JV.Binary n ly ry ≡ infix_next c (drop at tokens) → n ≤ limit → p.number ≤ J.operand ly n → p.reach < n
    → M.turn (M.next seen_making c limit p (drop at tokens)) stack other
    ≡ M.Start c (J.operand ry n)
    (M.AtRight (line_seen p.tree.value) (name_next (drop at tokens)) n (J.operand ry n)
    p.tree c limit ∷ stack) (drop (at + 1) tokens)
binary_turn tokens at c limit p n ly ry stack other j a b d = go (drop at tokens) refl
  where
    go : (ts : List Lexeme) → drop at tokens ≡ ts
        → M.turn (M.next seen_making c limit p (drop at tokens)) stack other
        ≡ M.Start c (J.operand ry n)
        (M.AtRight (line_seen p.tree.value) (name_next (drop at tokens)) n (J.operand ry n)
        p.tree c limit ∷ stack) (drop (at + 1) tokens)
    go [] z = let e : JV.Binary n ly ry ≡ JV.Nothing = j ∙ ap (infix_next c) z in cc
    go (x ∷ us) z =
        let f = after_first tokens at x us z in
        let e : J.joined_by c x ≡ JV.Binary n ly ry = sym (j ∙ ap (infix_next c) z) in
        ap (λ ts. M.turn (M.next seen_making c limit p ts) stack other) f
        ∙ ap (λ m. M.turn (M.next_at seen_making c limit p x (drop (at + 1) tokens) m) stack other)
        e
        ∙ ap
        (λ t.
        M.turn
        (cond t
        (M.Push c (J.operand ry n)
        (M.AtRight (line_seen p.tree.value) (J.name_of x) n (J.operand ry n) p.tree c
        limit) (drop (at + 1) tokens)) M.Stay) stack other)
        (both_true (le-leb n limit a)
        (both_true (le-leb p.number (J.operand ly n) b) (lt-ltb p.reach n d)))
        ∙ ap
        (λ w.
        M.Start c (J.operand ry n)
        (M.AtRight (line_seen p.tree.value) w n (J.operand ry n) p.tree c limit ∷ stack)
        (drop (at + 1) tokens)) (sym (ap name_next z))

-- the turn at the separator of a chain
pub chain_turn : (tokens : List Lexeme) (at : ℕ) (c : Bool) (limit : ℕ) (p : P.Part Seen) (k : Chain) (stack : List FrameSeen) (other : StateSeen) → JV.Chains k ≡ infix_next c (drop at tokens) → J.rank k ≤ limit → p.number < J.rank k
    → M.turn (M.next seen_making c limit p (drop at tokens)) stack other
    ≡ M.Start c (J.rank k - 1)
    (M.InParts (Chained k) (line_seen p.tree.value) (seen_then no_seen p.tree) c limit
    ∷ stack) (drop (at + 1) tokens)
chain_turn tokens at c limit p k stack other j a b = go (drop at tokens) refl
  where
    go : (ts : List Lexeme) → drop at tokens ≡ ts
        → M.turn (M.next seen_making c limit p (drop at tokens)) stack other
        ≡ M.Start c (J.rank k - 1)
        (M.InParts (Chained k) (line_seen p.tree.value) (seen_then no_seen p.tree) c limit
        ∷ stack) (drop (at + 1) tokens)
    go [] z = let e : JV.Chains k ≡ JV.Nothing = j ∙ ap (infix_next c) z in cc
    go (x ∷ us) z =
        let f = after_first tokens at x us z in
        let e : J.joined_by c x ≡ JV.Chains k = sym (j ∙ ap (infix_next c) z) in
        ap (λ ts. M.turn (M.next seen_making c limit p ts) stack other) f
        ∙ ap (λ m. M.turn (M.next_at seen_making c limit p x (drop (at + 1) tokens) m) stack other)
        e
        ∙ ap
        (λ t.
        M.turn
        (cond t
        (M.Push c (J.rank k - 1)
        (M.InParts (Chained k) (line_seen p.tree.value) (seen_then no_seen p.tree) c
        limit) (drop (at + 1) tokens)) M.Stay) stack other)
        (both_true (le-leb (J.rank k) limit a) (lt-ltb p.number (J.rank k) b))
