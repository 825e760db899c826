-- The walk over blanks and comments, turn by turn.
use Rattle.std.proofs.Common.{◌≡◌, ℕ, ◌+◌, ◌<◌, ◌≤◌, Bool, true, false, cond, not, ltb, List, length, get_or, drop, refl, sym, ap, ◌∙◌, ⊎_elim, add-zero, arith}
use Rattle.std.proofs.str.Laws.{order}
use Rattle.std.proofs.lemmas.List.{get_or-drop, drop_all}
use Rattle.std.specs.Cmp.Derive.{both_true}
use Rattle.std.specs.Prelude.{◌==◌, ◌&&◌, ◌≢◌}
use Rattle.std.proofs.lemmas.Bool.{ne_eqb, eq-eqb, eqb-true, ltb-true}
use Rattle.std.specs.List.{prefix_len}
use Rattle.mc_tokens.specs.Classes.{is_blank, is_comment}
use Rattle.mc_tokens.specs.Utf8.{at, char_len}
use Rattle.mc_tokens.specs.Spots.{At, Faulty, Turn, Go, Stop, char_turn, Layout, Between, Line, Block, layout, layout_turn, layout_end}
use Rattle.mc_tokens.specs.declared.token.FaultKind.TheVariants.{NotUtf8, Unterminated}
use Rattle.mc_tokens.proofs.Turns.{went, stopped, ended, ran, by_char, by_bad, ascii_turn}
use Rattle.mc_base.proofs.Booleans.{left_true, right_true}

not_true : (a : Bool) → not a ≡ true → a ≡ false
not_true true h = cc
not_true false h = refl

-- a line comment
line_other : (p b : ℕ) (bs : List ℕ) → (b == 10) ≡ false → layout_turn Line p b bs ≡ char_turn Line p b bs
unfolding layout_turn
line_other p b bs e = ap (λ t. cond t (Go Between 0) (char_turn Line p b bs)) e

line_passes : (p b : ℕ) (bs : List ℕ) → is_comment b ≡ true → layout_turn Line p b bs ≡ Go Line 0
line_passes p b bs e =
    line_other p b bs (not_true _ (left_true _ _ (right_true _ _ e))) ∙ ascii_turn Line p b bs (ltb-true b 128 (left_true _ _ e))

pub line_run : (i j : ℕ) (text : List ℕ) → j ≡ i + prefix_len is_comment (drop i text) → layout Line i (drop i text) ≡ layout Line j (drop j text)
line_run i j text e = ran layout_turn layout_end Line is_comment line_passes i j text e

pub line_char : (i n j : ℕ) (text : List ℕ) → i < length text → get_or text i 0 ≢ 10 → n ≡ char_len (drop i text) → 0 < n → i + n ≡ j → j ≤ length text → layout Line i (drop i text) ≡ layout Line j (drop j text)
line_char i n j text h o = by_char layout_turn layout_end Line i n j text h (line_other i _ _ (ne_eqb _ 10 o))

pub line_bad : (i n : ℕ) (text : List ℕ) → i < length text → get_or text i 0 ≢ 10 → n ≡ char_len (drop i text) → n ≡ 0 → layout Line i (drop i text) ≡ Faulty NotUtf8 i
line_bad i n text h o = by_bad layout_turn layout_end Line i n text h (line_other i _ _ (ne_eqb _ 10 o))

pub line_stops : (i : ℕ) (text : List ℕ) → i < length text → get_or text i 0 ≡ 10 → layout Line i (drop i text) ≡ layout Between (i + 1) (drop (i + 1) text)
unfolding layout_turn
line_stops i text h e =
    went layout_turn layout_end Line i text h Between 0 (i + 1) (ap (λ t. cond t (Go Between 0) (char_turn Line i (get_or text i 0) (drop (i + 1) text))) (eq-eqb _ 10 e)) (omega arith) (omega arith)

pub line_ends : (i : ℕ) (text : List ℕ) → i ≡ length text → layout Line i (drop i text) ≡ layout Between i (drop i text)
line_ends i text e = ended layout_turn layout_end Line i text e ∙ sym (ended layout_turn layout_end Between i text e)

-- a block comment
abbrev ends_block : ℕ → List ℕ → Bool
ends_block b bs = (b == 42) && (at bs 0 == 47)

block_other : (start p b : ℕ) (bs : List ℕ) → ends_block b bs ≡ false → layout_turn (Block start) p b bs ≡ char_turn (Block start) p b bs
unfolding layout_turn
block_other start p b bs e = ap (λ t. cond t (Go Between 1) (char_turn (Block start) p b bs)) e

and_false : (a b : Bool) → a ≡ false → a && b ≡ false
and_false true b h = cc
and_false false b h = refl

block_passes : (start p b : ℕ) (bs : List ℕ) → is_comment b ≡ true → layout_turn (Block start) p b bs ≡ Go (Block start) 0
block_passes start p b bs e =
    block_other start p b bs (and_false (b == 42) (at bs 0 == 47) (not_true (b == 42) (right_true (not (b == 10)) _ (right_true (ltb b 128) _ e)))) ∙ ascii_turn (Block start) p b bs (ltb-true b 128 (left_true _ _ e))

pub block_run : (start i j : ℕ) (text : List ℕ) → j ≡ i + prefix_len is_comment (drop i text) → layout (Block start) i (drop i text) ≡ layout (Block start) j (drop j text)
block_run start i j text e = ran layout_turn layout_end (Block start) is_comment (block_passes start) i j text e

abbrev pub EndsNot : ℕ → List ℕ → Type 0
EndsNot i text = get_or text i 0 ≡ 42 → get_or text (i + 1) 0 ≡ 47 → ⊥

next_is : (i : ℕ) (text : List ℕ) → at (drop (i + 1) text) 0 ≡ get_or text (i + 1) 0
next_is i text = get_or-drop (i + 1) text 0 0 ∙ ap (λ k. get_or text k 0) (add-zero (i + 1))

ends_not : (i : ℕ) (text : List ℕ) → EndsNot i text → ends_block (get_or text i 0) (drop (i + 1) text) ≡ false
ends_not i text h = go (get_or text i 0 == 42) (at (drop (i + 1) text) 0 == 47) refl refl
  where
    go : (a b : Bool) → (get_or text i 0 == 42) ≡ a → (at (drop (i + 1) text) 0 == 47) ≡ b → a && b ≡ false
    go true true e f = absurd (h (eqb-true _ _ e) (sym (next_is i text) ∙ eqb-true _ _ f))
    go true false e f = refl
    go false b e f = refl

pub block_char : (start i n j : ℕ) (text : List ℕ) → i < length text → EndsNot i text → n ≡ char_len (drop i text) → 0 < n → i + n ≡ j → j ≤ length text → layout (Block start) i (drop i text) ≡ layout (Block start) j (drop j text)
block_char start i n j text h o = by_char layout_turn layout_end (Block start) i n j text h (block_other start i _ _ (ends_not i text o))

pub block_bad : (start i n : ℕ) (text : List ℕ) → i < length text → EndsNot i text → n ≡ char_len (drop i text) → n ≡ 0 → layout (Block start) i (drop i text) ≡ Faulty NotUtf8 i
block_bad start i n text h o = by_bad layout_turn layout_end (Block start) i n text h (block_other start i _ _ (ends_not i text o))

pub block_stops : (start i : ℕ) (text : List ℕ) → i + 1 < length text → get_or text i 0 ≡ 42 → get_or text (i + 1) 0 ≡ 47 → layout (Block start) i (drop i text) ≡ layout Between (i + 2) (drop (i + 2) text)
unfolding layout_turn
block_stops start i text h e f =
    let t : ends_block (get_or text i 0) (drop (i + 1) text) ≡ true = both_true (eq-eqb _ 42 e) (eq-eqb _ 47 (next_is i text ∙ f)) in
    went layout_turn layout_end (Block start) i text (omega arith) Between 1 (i + 2) (ap (λ t. cond t (Go Between 1) (char_turn (Block start) i (get_or text i 0) (drop (i + 1) text))) t) (omega arith) (omega arith)

pub block_ends : (start i : ℕ) (text : List ℕ) → i ≡ length text → layout (Block start) i (drop i text) ≡ Faulty Unterminated start
block_ends start i text e = ended layout_turn layout_end (Block start) i text e

-- between tokens
blank_passes : (p b : ℕ) (bs : List ℕ) → is_blank b ≡ true → layout_turn Between p b bs ≡ Go Between 0
unfolding layout_turn
blank_passes p b bs e = ap (λ t. cond t (Go Between 0) (cond (b == 37) (Go Line 0) (cond ((b == 47) && (at bs 0 == 42)) (Go (Block p) 1) (Stop (At p))))) e

pub blank_run : (i j : ℕ) (text : List ℕ) → j ≡ i + prefix_len is_blank (drop i text) → layout Between i (drop i text) ≡ layout Between j (drop j text)
blank_run i j text e = ran layout_turn layout_end Between is_blank blank_passes i j text e

-- the turn at a byte that is no blank
abbrev other_turn : ℕ → ℕ → List ℕ → Turn Layout
other_turn p b bs = cond (b == 37) (Go Line 0) (cond ((b == 47) && (at bs 0 == 42)) (Go (Block p) 1) (Stop (At p)))

other_is : (p b : ℕ) (bs : List ℕ) → is_blank b ≡ false → layout_turn Between p b bs ≡ other_turn p b bs
unfolding layout_turn
other_is p b bs e = ap (λ t. cond t (Go Between 0) (other_turn p b bs)) e

pub begins_line : (i : ℕ) (text : List ℕ) → i < length text → get_or text i 0 ≡ 37 → layout Between i (drop i text) ≡ layout Line (i + 1) (drop (i + 1) text)
begins_line i text h e =
    let b = get_or text i 0 in
    let bs = drop (i + 1) text in
    went layout_turn layout_end Between i text h Line 0 (i + 1) (other_is i b bs (ap is_blank e) ∙ ap (λ t. cond t (Go Line 0) (cond ((b == 47) && (at bs 0 == 42)) (Go (Block i) 1) (Stop (At i)))) (eq-eqb b 37 e)) (omega arith) (omega arith)

pub begins_block : (i : ℕ) (text : List ℕ) → i + 1 < length text → get_or text i 0 ≡ 47 → get_or text (i + 1) 0 ≡ 42 → layout Between i (drop i text) ≡ layout (Block i) (i + 2) (drop (i + 2) text)
begins_block i text h e f =
    let b = get_or text i 0 in
    let bs = drop (i + 1) text in
    let t : ((b == 47) && (at bs 0 == 42)) ≡ true = both_true (eq-eqb b 47 e) (eq-eqb _ 42 (next_is i text ∙ f)) in
    went layout_turn layout_end Between i text (omega arith) (Block i) 1 (i + 2) (other_is i b bs (ap is_blank e) ∙ ap (λ (c : ℕ). cond (c == 37) (Go Line 0) (cond ((b == 47) && (at bs 0 == 42)) (Go (Block i) 1) (Stop (At i)))) e ∙ ap (λ t. cond t (Go (Block i) 1) (Stop (At i))) t) (omega arith) (omega arith)

pub begins_token : (i : ℕ) (text : List ℕ) → (i < length text → is_blank (get_or text i 0) ≡ false) → get_or text i 0 ≢ 37 → (get_or text i 0 ≡ 47 → get_or text (i + 1) 0 ≡ 42 → ⊥) → layout Between i (drop i text) ≡ At i
begins_token i text h n m = ⊎_elim inside outside (order i (length text))
  where
    inside : i < length text → layout Between i (drop i text) ≡ At i
    inside l =
        let b = get_or text i 0 in
        let bs = drop (i + 1) text in
        stopped layout_turn layout_end Between i text l (At i) (other_is i b bs (h l) ∙ ap (λ t. cond t (Go Line 0) (cond ((b == 47) && (at bs 0 == 42)) (Go (Block i) 1) (Stop (At i)))) (ne_eqb b 37 n) ∙ ap (λ t. cond t (Go (Block i) 1) (Stop (At i))) (neither (b == 47) (at bs 0 == 42) refl refl))
      where
        neither : (x y : Bool) → (get_or text i 0 == 47) ≡ x → (at (drop (i + 1) text) 0 == 42) ≡ y → x && y ≡ false
        neither true true e f = absurd (m (eqb-true _ _ e) (sym (next_is i text) ∙ eqb-true _ _ f))
        neither true false e f = refl
        neither false y e f = refl

    outside : length text ≤ i → layout Between i (drop i text) ≡ At i
    outside l = ap (λ bs. layout Between i bs) (drop_all i text l)
