-- One list of items stands for a text at most, and one answer.
use Rattle.std.proofs.Common.{◌≡◌, ◌≢◌, inl, inr, ℕ, ◌+◌, ◌≤◌, arith, List, [], ◌∷◌, Option, Some, None, refl, sym, ap, ◌∙◌, subst}
use Rattle.std.specs.Prelude.{slice_index_or}
use Rattle.mc_source.specs.declared.rule.Broken.{Broken}
use Rattle.mc_source.specs.Rules.{Fault}
use Rattle.mc_term_parser.specs.declared.lexeme.Lexeme.{Lexeme}
use Rattle.mc_term_parser.specs.Tree.{Tree, depth, too_large, term}
use Rattle.mc_term_parser.specs.Reads.{ReadsTerm}
use Rattle.mc_term_parser.specs.Laws.{AtMostOne}
use Rattle.mc_tokens.specs.declared.token.Kind.{Kind}
use Rattle.mc_tokens.specs.declared.token.Kind.TheVariants.{End, Eof}
use Rattle.mc_tokens.specs.Tokens.{Lexed, Tok}
use Rattle.mc_tokens.specs.Tokens as X
use Rattle.mc_tokens.specs.Items.{Passes}
use Rattle.mc_tokens.specs.Items as T
use Rattle.mc_tokens.proofs.ItemLaws.{Item-unique, Item-Faulty, Faulty-unique, Passes-unique}
use Rattle.mc_terms.specs.declared.fault.ReadKind.{ReadKind}
use Rattle.mc_terms.specs.declared.fault.ReadKind.TheVariants.{Token, NotATerm, IntTooLarge, TooNested, Memory}
use Rattle.mc_terms.specs.Lines.{line_at}
use Rattle.mc_terms.specs.Lexemes.{lexemes}
use Rattle.mc_terms.specs.Answers.{AreItemTokens, AreNoTerm, ItemReads, IsOver, BeginsOn, place_of, item_line, token_line, IsRefused, StandsAt}
use Rattle.mc_decl_syntax.specs.declared.entry.Entry.{Entry}
use Rattle.mc_decl_syntax.specs.declared.entry.ItemsFault.TheVariants as F
use Rattle.mc_items.specs.Verdicts.{PlainVerdict, breaks, classify, unread}
use Rattle.mc_items.specs.Files.{IsItem, IsUnread, Items, over, item, broken_in, IsWhole, IsFaulty, IsTooLong, IsRefusal}
use Rattle.mc_items.specs.Laws.{AtMostOneList}

-- an item that breaks a rule isn't one for which memory is wanting
is_told : (kind : ReadKind) (byte : ℕ) (broken : Fault) → unread kind byte ≡ Some broken → kind ≢ Memory
is_told kind byte broken told e = let no : None ≡ Some broken = sym (ap (λ kind. unread kind byte) e) ∙ told in cc

-- the kind of a token
abbrev kind_of : Lexed → Kind
kind_of (Tok k start stop) = k
kind_of (X.Fault f place) = Eof

module _ (at_most_one : AtMostOne) (text : List ℕ) (from : ℕ) where
  -- an item has one list of tokens, one token that ends it, and one place behind that
  same_tokens : (ts us : List Lexeme) (end other : Kind) (next stop : ℕ) → AreItemTokens text from ts end next → AreItemTokens text from us other stop → (ts ≡ us) × (next ≡ stop) × (end ≡ other)
  same_tokens ts us end other next stop a b =
      let same = Item-unique a.1 b.1 in
      (sym a.2 ∙ ap (lexemes text) same.0 ∙ b.2, same.1, same.2)

  -- and one tree
  pub same_tree : (t u : Tree) (next stop : ℕ) → ItemReads text from t next → ItemReads text from u stop → (t ≡ u) × (next ≡ stop)
  same_tree t u next stop a b =
      let same = same_tokens a.0 b.0 End End next stop a.1 b.1 in
      (at_most_one b.0 1200 t u (subst (λ ts. ReadsTerm ts t 1200) same.0 a.2) b.2, same.1)

  -- and one first token
  same_line : (line row : ℕ) → BeginsOn text from line → BeginsOn text from row → line ≡ row
  same_line line row a b = a.5 ∙ ap (λ l. line_at text (place_of l)) (sym a.3 ∙ b.3) ∙ sym b.5

  -- an item that reads ends with a full stop
  not_cut_off : (t : Tree) (stop : ℕ) → ItemReads text from t stop → (ts : List Lexeme) (next : ℕ) → AreItemTokens text from ts Eof next → ⊥
  not_cut_off t stop h ts next tokens = let no : End ≡ Eof = (same_tokens h.0 ts End Eof stop next h.1 tokens).2 in cc

  -- where the tokens are no term, the item has none
  none_reads : (ts : List Lexeme) (end : Kind) (t : Tree) (next stop : ℕ) → AreItemTokens text from ts end next → AreNoTerm ts end → ItemReads text from t stop → ⊥
  none_reads ts end t next stop tokens (inl cut_off) h = not_cut_off t stop h ts next (subst (λ end. AreItemTokens text from ts end next) cut_off tokens)
  none_reads ts end t next stop tokens (inr none) h = none t (subst (λ ts. ReadsTerm ts t 1200) (same_tokens h.0 ts End end stop next h.1 tokens).0 h.2)

  -- where the one tree holds no number that is too large, no tree of the item holds one
  none_large : (t u : Tree) (next stop line : ℕ) → ItemReads text from t next → ItemReads text from u stop → too_large t ≡ None → too_large u ≡ Some line → ⊥
  none_large t u next stop line h k fits large = let no : None ≡ Some line = sym fits ∙ ap too_large (same_tree t u next stop h k).0 ∙ large in cc

  -- an item that is answered isn't refused, but for want of memory
  pub read_not_refused : (t : Tree) (next : ℕ) → ItemReads text from t next → too_large t ≡ None → depth t ≤ 256 → (kind : ReadKind) (line stop : ℕ) → kind ≢ Memory → IsRefused text from kind line stop → ⊥
  read_not_refused t next h fits shallow (Token f) line stop told r = Item-Faulty h.1.1 r.1
  read_not_refused t next h fits shallow NotATerm line stop told r = none_reads r.0 r.1 t stop next r.2 r.3 h
  read_not_refused t next h fits shallow IntTooLarge line stop told r = none_large t r.0 next stop line h r.1 fits r.2
  read_not_refused t next h fits shallow TooNested line stop told r =
      let d : depth t ≡ depth r.0 = ap depth (same_tree t r.0 next stop h r.1).0 in
      let high = r.3 in
      omega arith
  read_not_refused t next h fits shallow Memory line stop told r = told refl

  -- where nothing is left, no item reads
  pub read_not_over : (t : Tree) (next : ℕ) → ItemReads text from t next → IsOver text from → ⊥
  read_not_over t next h o = not_cut_off t next h [] o.1 ([], T.over o.2 refl, refl)

  -- and none is refused
  pub refused_not_over : (kind : ReadKind) (line next : ℕ) → kind ≢ Memory → IsRefused text from kind line next → IsOver text from → ⊥
  refused_not_over (Token f) line next told r o = Item-Faulty (T.over o.2 refl) r.1
  refused_not_over NotATerm line next told r o = r.4.4 (ap kind_of (sym r.4.3 ∙ o.2))
  refused_not_over IntTooLarge line next told r o = read_not_over r.0 next r.1 o
  refused_not_over TooNested line next told r o = read_not_over r.0 next r.1 o
  refused_not_over Memory line next told r o = told refl

  -- want of memory is no verdict
  pub not_memory : {v : PlainVerdict} {line next : ℕ} (a : IsUnread text from v line next) → a.kind ≢ Memory
  not_memory a = is_told a.kind (slice_index_or text a.place 0) a.broken a.told

  -- so no item is there
  not_over : (v : PlainVerdict) (line next : ℕ) → IsItem text from v line next → IsOver text from → ⊥
  not_over v line next (inl a) o = read_not_over a.tree next a.reads o
  not_over v line next (inr a) o = refused_not_over a.kind line next (not_memory a) a.refused o

  -- the rule that an item breaks which is refused so, with a faulty token in the place
  abbrev said : ReadKind → ℕ → Option Fault
  said kind place = unread kind (slice_index_or text place 0)

  -- what is said of two refusals of one item, their lines, and the places behind it, are the same
  abbrev OneRefusal : ReadKind → ReadKind → ℕ → ℕ → ℕ → ℕ → ℕ → ℕ → Type 0
  OneRefusal kind other place there line row next stop = (said kind place ≡ said other there) × (line ≡ row) × (next ≡ stop)

  one_refusal : (kind other : ReadKind) (place there line row next stop : ℕ) → kind ≢ Memory → other ≢ Memory → IsRefused text from kind line next → IsRefused text from other row stop
      → StandsAt text from kind place → StandsAt text from other there → OneRefusal kind other place there line row next stop
  one_refusal (Token f) (Token g) place there line row next stop told known r s a b =
      let at = Faulty-unique r.1 s.1 in
      let stands = Faulty-unique a b in (
        (λ w. said (Token (stands.0 w)) (stands.1 w)),
        r.2 ∙ (λ w. token_line (at.0 w) (item_line text from) (line_at text (at.1 w))) ∙ sym s.2,
        Passes-unique (subst (λ place. Passes text (place + 1) Eof next) at.1 r.3) s.3,
      )
  one_refusal (Token f) NotATerm place there line row next stop told known r s a b = absurd (Item-Faulty s.2.1 r.1)
  one_refusal (Token f) IntTooLarge place there line row next stop told known r s a b = absurd (Item-Faulty s.1.1.1 r.1)
  one_refusal (Token f) TooNested place there line row next stop told known r s a b = absurd (Item-Faulty s.1.1.1 r.1)
  one_refusal NotATerm (Token g) place there line row next stop told known r s a b = absurd (Item-Faulty r.2.1 s.1)
  one_refusal NotATerm NotATerm place there line row next stop told known r s a b = (refl, same_line line row r.4 s.4, (same_tokens r.0 s.0 r.1 s.1 next stop r.2 s.2).1)
  one_refusal NotATerm IntTooLarge place there line row next stop told known r s a b = absurd (none_reads r.0 r.1 s.0 next stop r.2 r.3 s.1)
  one_refusal NotATerm TooNested place there line row next stop told known r s a b = absurd (none_reads r.0 r.1 s.0 next stop r.2 r.3 s.1)
  one_refusal IntTooLarge (Token g) place there line row next stop told known r s a b = absurd (Item-Faulty r.1.1.1 s.1)
  one_refusal IntTooLarge NotATerm place there line row next stop told known r s a b = absurd (none_reads s.0 s.1 r.0 stop next s.2 s.3 r.1)
  one_refusal IntTooLarge IntTooLarge place there line row next stop told known r s a b =
      let same = same_tree r.0 s.0 next stop r.1 s.1 in
      let lines : Some line ≡ Some row = sym r.2 ∙ ap too_large same.0 ∙ s.2 in
      (refl, cc, same.1)
  one_refusal IntTooLarge TooNested place there line row next stop told known r s a b = absurd (none_large s.0 r.0 stop next line s.1 r.1 s.2 r.2)
  one_refusal TooNested (Token g) place there line row next stop told known r s a b = absurd (Item-Faulty r.1.1.1 s.1)
  one_refusal TooNested NotATerm place there line row next stop told known r s a b = absurd (none_reads s.0 s.1 r.0 stop next s.2 s.3 r.1)
  one_refusal TooNested IntTooLarge place there line row next stop told known r s a b = absurd (none_large r.0 s.0 next stop row r.1 s.1 r.2 s.2)
  one_refusal TooNested TooNested place there line row next stop told known r s a b = (refl, same_line line row r.4 s.4, (same_tree r.0 s.0 next stop r.1 s.1).1)
  one_refusal Memory other place there line row next stop told known r s a b = absurd (told refl)
  one_refusal kind Memory place there line row next stop told known r s a b = absurd (known refl)

  -- an item is one thing, on one line, with one place behind it
  pub one_item : (v w : PlainVerdict) (line row next stop : ℕ) → IsItem text from v line next → IsItem text from w row stop → (v ≡ w) × (line ≡ row) × (next ≡ stop)
  one_item v w line row next stop (inl a) (inl b) =
      let same = same_tree a.tree b.tree next stop a.reads b.reads in
      (a.is ∙ ap (λ t. classify (term t)) same.0 ∙ sym b.is, a.begins ∙ sym b.begins, same.1)
  one_item v w line row next stop (inl a) (inr b) = absurd (read_not_refused a.tree next a.reads a.held a.shallow b.kind row stop (not_memory b) b.refused)
  one_item v w line row next stop (inr a) (inl b) = absurd (read_not_refused b.tree stop b.reads b.held b.shallow a.kind line next (not_memory a) a.refused)
  one_item v w line row next stop (inr a) (inr b) =
      let same = one_refusal a.kind b.kind a.place b.place line row next stop (not_memory a) (not_memory b) a.refused b.refused a.stands b.stands in
      let told : Some a.broken ≡ Some b.broken = sym a.told ∙ same.0 ∙ b.told in
      let broken : a.broken ≡ b.broken = cc in
      (a.is ∙ ap (λ f. breaks f.0 f.1) broken ∙ sym b.is, same.1, same.2)

-- the items of a text are one list
pub one_list : AtMostOne → AtMostOneList
one_list at_most_one text from _ _ (over o) (over p) = refl
one_list at_most_one text from _ _ (over o) (item {line = line} {next = next} {v = v} i rest) = absurd (not_over at_most_one text from v line next i o)
one_list at_most_one text from _ _ (item {line = line} {next = next} {v = v} i rest) (over o) = absurd (not_over at_most_one text from v line next i o)
one_list at_most_one text from _ _ (item {line = line} {next = next} {v = v} {vs = vs} i rest) (item {line = row} {next = stop} {v = w} {vs = ws} j others) =
    let same = one_item at_most_one text from v w line row next stop i j in
    let behind = one_list at_most_one text next vs ws rest (subst (λ place. Items text place ws) (sym same.2) others) in
    (λ k. (same.0 k, same.1 k) ∷ behind k)

module _ (at_most_one : AtMostOneList) (file : ℕ) (text : List ℕ) where
  -- no text is both whole and faulty
  pub not_both : (es : List Entry) (bs : List Broken) → IsWhole file text es → IsRefusal file text (F.Broken bs) → ⊥
  not_both es bs w (inl r) = let short = w.short in let long = r.long in omega arith
  not_both es bs w (inr r) = r.some (r.all ∙ ap (broken_in file) (at_most_one text 0 r.verdicts w.verdicts r.items w.items) ∙ w.sound)

  -- nor both too long and faulty
  too_long_not_faulty : (bs cs : List Broken) → IsTooLong file text bs → IsFaulty file text cs → ⊥
  too_long_not_faulty bs cs r s = let long = r.long in let short = s.short in omega arith

  -- and it breaks one list of rules at most
  pub one_broken : (bs cs : List Broken) → IsRefusal file text (F.Broken bs) → IsRefusal file text (F.Broken cs) → bs ≡ cs
  one_broken bs cs (inl r) (inl s) = r.is ∙ sym s.is
  one_broken bs cs (inl r) (inr s) = absurd (too_long_not_faulty bs cs r s)
  one_broken bs cs (inr r) (inl s) = absurd (too_long_not_faulty cs bs s r)
  one_broken bs cs (inr r) (inr s) = r.all ∙ ap (broken_in file) (at_most_one text 0 r.verdicts s.verdicts r.items s.items) ∙ sym s.all
