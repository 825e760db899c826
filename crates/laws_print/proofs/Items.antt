-- The item of a printed value, and that the reader's definition answers nothing else of it.
use Rattle.std.proofs.Common.{◌≡◌, inl, inr, ℕ, suc, ◌+◌, ◌≤◌, true, false, List, [], ◌∷◌, ◌++◌, length, refl, sym, ap, ◌∙◌, subst, arith, Some, None}
use Rattle.std.proofs.Math.Seq.{drop-append_seam}
use Rattle.std.proofs.lemmas.List.{length-append}
use Rattle.mc_program.specs.Values.{Val}
use Rattle.mc_program.specs.Printed.{printed}
use Rattle.mc_tokens.specs.Tokens.{ends_item}
use Rattle.mc_tokens.specs.Items.{Piece, Item}
use Rattle.mc_tokens.specs.Items as I
use Rattle.mc_tokens.specs.declared.token.Kind.{Kind}
use Rattle.mc_tokens.specs.declared.token.Kind.TheVariants as K
use Rattle.mc_tokens.proofs.ItemLaws.{Item-unique, Item-Faulty}
use Rattle.mc_term_data.specs.Plain.{PlainTerm}
use Rattle.mc_term_parser.specs.declared.lexeme.Lexeme.{Lexeme}
use Rattle.mc_term_parser.specs.Tree.{Tree, depth, too_large, term}
use Rattle.mc_term_parser.specs.Part.{closed}
use Rattle.mc_term_parser.specs.Reads.{ReadsTerm}
use Rattle.mc_term_parser.specs.Laws.{AtMostOne}
use Rattle.mc_terms.specs.declared.fault.ReadKind.{ReadKind}
use Rattle.mc_terms.specs.declared.fault.ReadKind.TheVariants.{Token, NotATerm, IntTooLarge, TooNested, Memory}
use Rattle.mc_terms.specs.Lines.{line_at}
use Rattle.mc_terms.specs.Lexemes.{lexemes}
use Rattle.mc_terms.specs.Answers.{AreItemTokens, AreNoTerm, ItemReads, IsRefused}
use Rattle.mc_terms.proofs.Walked.{walked_is}
use Rattle.laws_print.specs.Terms.{term_of, HasText, depth_of}
use Rattle.laws_print.specs.Whole.{IsTheTerm}
use Rattle.laws_print.proofs.Cursor.{Cursor, Spells}
use Rattle.laws_print.proofs.Marks.{follows_stop, spells_stop}
use Rattle.laws_print.proofs.Trees.{tree_of, value_stands}
use Rattle.laws_print.proofs.Values.{value_reads}

-- the value's item
item_reads : (names : List (List ℕ)) (v : Val) (text : List ℕ) (line place : ℕ) (rest : List ℕ) → HasText names v → ends_item rest ≡ true → Cursor text line place (printed names v ++ (46 ∷ rest))
    → ItemReads text place (tree_of line names v) (place + length (printed names v) + 1)
item_reads names v text line place rest h e c =
    let last = place + length (printed names v) + 1 in
    let long : length (printed names v ++ (46 ∷ rest)) ≡ length (printed names v) + suc (length rest) = length-append (printed names v) (46 ∷ rest) in
    let w = (value_reads text line last names v h).whole (46 ∷ rest) [] (follows_stop rest e) refl in
    let stop : (p : ℕ) → Cursor text line p (46 ∷ rest) → p + 1 ≡ last = λ p d. ends_so p (length (printed names v)) (length (printed names v ++ (46 ∷ rest))) (length rest) (length text) place long c.counts d.counts in
    let spelled = w.spells place K.Eof refl c (λ k p d. subst (λ n. Spells text p k [] n) (stop p d) (spells_stop text line p k rest e d)) [] refl in
    (w.tokens, (spelled.0, spelled.1, sym (walked_is text spelled.0) ∙ spelled.2), (closed (tree_of line names v), w.reads false 1200, omega arith, refl))
  where
    ends_so : (p n m k l place : ℕ) → m ≡ n + suc k → place + m ≡ l → p + suc k ≡ l → p + 1 ≡ place + n + 1
    ends_so p n m k l place e f g = omega arith

module _ (at_most_one : AtMostOne) (text : List ℕ) (place : ℕ) where
  -- an item has one list of tokens, one token that ends it, and one place behind that
  same_tokens : (ts us : List Lexeme) (end other : Kind) (stop next : ℕ) → AreItemTokens text place ts end stop → AreItemTokens text place us other next → (ts ≡ us) × (stop ≡ next) × (end ≡ other)
  same_tokens ts us end other stop next a b =
      let same = Item-unique a.1 b.1 in
      (sym a.2 ∙ ap (lexemes text) same.0 ∙ b.2, same.1, same.2)

  -- an item that reads ends with a full stop
  not_cut_off : (t : Tree) (next : ℕ) → ItemReads text place t next → (ts : List Lexeme) (stop : ℕ) → AreItemTokens text place ts K.Eof stop → ⊥
  not_cut_off t next h ts stop tokens = let no : K.End ≡ K.Eof = (same_tokens h.0 ts K.End K.Eof next stop h.1 tokens).2 in cc

  -- and its tokens are a term
  not_no_term : (t : Tree) (next : ℕ) → ItemReads text place t next → (ts : List Lexeme) (end : Kind) (stop : ℕ) → AreItemTokens text place ts end stop → AreNoTerm ts end → ⊥
  not_no_term t next h ts end stop tokens (inl cut_off) = not_cut_off t next h ts stop (subst (λ end. AreItemTokens text place ts end stop) cut_off tokens)
  not_no_term t next h ts end stop tokens (inr none) = none t (subst (λ ts. ReadsTerm ts t 1200) (same_tokens h.0 ts K.End end next stop h.1 tokens).0 h.2)

  -- and one tree
  same_tree : (t u : Tree) (stop next : ℕ) → ItemReads text place t stop → ItemReads text place u next → (t ≡ u) × (stop ≡ next)
  same_tree t u stop next a b =
      let same = same_tokens a.0 b.0 K.End K.End stop next a.1 b.1 in
      (at_most_one b.0 1200 t u (subst (λ ts. ReadsTerm ts t 1200) same.0 a.2) b.2, same.1)

  -- what holds of the one item is all that the reader's definition answers
  the_term : (t : Tree) (u : PlainTerm) (next : ℕ) → ItemReads text place t next → too_large t ≡ None → depth t ≤ 256 → term t ≡ u → IsTheTerm text place u next
  the_term t u next h fits deep same = record {
    reads = (t, h, fits, deep, same);
    given = λ r e. (t, h, fits, deep, e ∙ sym same);
    alone = λ r stop i. let one = same_tree i.0 t stop next i.1 h in (i.4 ∙ ap term one.0 ∙ same, one.1);
    not_over = λ over. not_cut_off t next h [] over.1 ([], I.over over.2 refl, refl);
    not_refused = not_refused;
  }
    where
      not_refused : (kind : ReadKind) (line stop : ℕ) → IsRefused text place kind line stop → kind ≡ Memory
      not_refused (Token f) line stop r = absurd (Item-Faulty h.1.1 r.1)
      not_refused NotATerm line stop r = absurd (not_no_term t next h r.0 r.1 stop r.2 r.3)
      not_refused IntTooLarge line stop r = let no : None ≡ Some line = sym fits ∙ ap too_large (sym (same_tree r.0 t stop next r.1 h).0) ∙ r.2 in cc
      not_refused TooNested line stop r = let d : depth r.0 ≡ depth t = ap depth (same_tree r.0 t stop next r.1 h).0 in let high = r.3 in absurd (omega arith)
      not_refused Memory line stop r = refl

-- a printed value before a full stop
pub value_item : (at_most_one : AtMostOne) (names : List (List ℕ)) (v : Val) (text : List ℕ) (line place : ℕ) (rest : List ℕ) → HasText names v → ends_item rest ≡ true
    → Cursor text line place (printed names v ++ (46 ∷ rest)) → depth_of (term_of names line v) ≤ 256 → IsTheTerm text place (term_of names line v) (place + length (printed names v) + 1)
value_item at_most_one names v text line place rest h e c deep =
    let stands = value_stands line names v h in
    let d = stands.deep in
    the_term at_most_one text place (tree_of line names v) (term_of names line v) (place + length (printed names v) + 1) (item_reads names v text line place rest h e c) stands.fits (omega arith) stands.same

-- the place behind a front of a text
pub behind : (front here : List ℕ) → Cursor (front ++ here) (line_at (front ++ here) (length front)) (length front) here
behind front here = record { follows = drop-append_seam front here; counts = sym (length-append front here); on_line = refl }
