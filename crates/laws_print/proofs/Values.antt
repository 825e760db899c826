-- A printed value, token by token, and what its tokens read as: by induction over the value.
use Rattle.std.proofs.Common.{◌≡◌, ℕ, suc, ◌+◌, Bool, true, false, cond, not, List, [], ◌∷◌, ◌++◌, refl, sym, ap, ◌∙◌, subst, arith, ℤ, pos, negsuc}
use Rattle.std.specs.Prelude.{◌==◌, ◌≢◌, nat_eq, codes, encode_utf8, IsUtf8}
use Rattle.std.specs.Fmt.{signed_decimal}
use Rattle.std.specs.Cmp.Lexicographic.{pointwise}
use Rattle.std.proofs.lemmas.List.{append-nil, append_assoc}
use Rattle.std.specs.Cmp.Lexicographic.{same_text}
use lib.Utf8.{scalar}
use Rattle.mc_program.specs.Values.{Val, int, char, str, con, state, Vals, no_vals, val_then}
use Rattle.mc_program.specs.Printed.{printed, printed_more, printed_tail, name_at, name_text, constant_text, is_nil, is_bare, in_quotes, single_quote, double_quote}
use Rattle.mc_tokens.specs.Classes.{is_name_tail}
use Rattle.mc_tokens.specs.Utf8.{at}
use Rattle.mc_tokens.specs.Tokens.{is_int}
use Rattle.mc_tokens.specs.declared.token.Kind.{Kind}
use Rattle.mc_tokens.specs.declared.token.Kind.TheVariants as K
use Rattle.mc_term_parser.specs.declared.lexeme.Lexeme.{Lexeme}
use Rattle.mc_term_parser.specs.declared.lexeme.Lexeme.TheVariants as L
use Rattle.mc_term_parser.specs.Infixes.{starts}
use Rattle.mc_term_parser.specs.Tree.{Tree, App, Items, no_tree, trees}
use Rattle.laws_print.specs.Terms.{HasText, AllHaveText, Is64}
use Rattle.laws_print.proofs.Characters.{and_true}
use Rattle.laws_print.proofs.Cursor.{Cursor, spelled_so, is_firm, Spells, spells_past_blank}
use Rattle.laws_print.proofs.Marks.{Follows, Onward, name_firm, integer_firm, spells_number, spells_minus, spells_string, spells_bare, spells_quoted, spells_name, spells_open, spells_close, spells_list_open, spells_list_close, spells_bar, spells_comma}
use Rattle.laws_print.proofs.Tokens.{left_false}
use Rattle.laws_print.proofs.Readings.{ReadsOnly, reads_name, reads_integer, reads_negative, reads_string, reads_nil, reads_compound, reads_list, Arguments, one_part, part_then, Tail, tail_nil, tail_more, tail_bar, is_list}
use Rattle.laws_print.proofs.Trees.{cell_tree, applied_tree, integer_tree, tree_of, trees_of}

-- a byte that goes on with no token
follows_by : (b : ℕ) (rest : List ℕ) → is_name_tail b ≡ false → b ≢ 39 → b ≢ 34 → (b == 46) ≡ false → Follows (b ∷ rest)
follows_by b rest tail single double dot = record { no_tail = tail; no_single = single; no_double = double; no_fraction = left_false (b == 46) _ dot }

follows_blank : (rest : List ℕ) → Follows (32 ∷ rest)
follows_blank rest = follows_by 32 rest refl (omega arith) (omega arith) refl

follows_close : (rest : List ℕ) → Follows (41 ∷ rest)
follows_close rest = follows_by 41 rest refl (omega arith) (omega arith) refl

follows_comma : (rest : List ℕ) → Follows (44 ∷ rest)
follows_comma rest = follows_by 44 rest refl (omega arith) (omega arith) refl

follows_list_close : (rest : List ℕ) → Follows (93 ∷ rest)
follows_list_close rest = follows_by 93 rest refl (omega arith) (omega arith) refl

utf8_character : (c : ℕ) → scalar c ≡ true → IsUtf8 (encode_utf8 c)
utf8_character c s = (c ∷ [], (and_true (scalar c) true s refl, append-nil (encode_utf8 c)))

module _ (text : List ℕ) (line last : ℕ) where
  -- The bytes, before what follows them, are tokens that read as the tree, before the tokens that follow.
  pub record Reading (bytes : List ℕ) (t : Tree) (rest : List ℕ) (r : List Lexeme) : Type 0 where
    pub tokens : List Lexeme
    pub reads : ReadsOnly tokens t r
    pub firm : is_firm (at (bytes ++ rest) 0) ≡ true
    pub spells : (place : ℕ) (k : Kind) → is_int k ≡ false → Cursor text line place (bytes ++ rest) → Onward text line rest r last → Spells text place k tokens last

  -- The bytes behind an element of a list, before its closing bracket, are tokens that read as the tail.
  pub record TailReading (bytes : List ℕ) (t : Tree) (rest : List ℕ) (r : List Lexeme) : Type 0 where
    pub tokens : List Lexeme
    pub tail : Tail line tokens t r
    pub stops : starts tokens ≡ false
    pub follows : Follows (bytes ++ (93 ∷ rest))
    pub spells : (place : ℕ) (k : Kind) → Cursor text line place (bytes ++ (93 ∷ rest)) → Onward text line rest r last → Spells text place k tokens last

  -- The bytes behind an argument, before the closing bracket, are tokens that read as the other arguments.
  record MoreReading (bytes : List ℕ) (es : List Tree) (rest : List ℕ) (r : List Lexeme) : Type 0 where
    tokens : List Lexeme
    arguments : (ts : List Lexeme) (h : Tree) → ReadsOnly ts h tokens → Arguments line ts (h ∷ es) (L.Close ∷ r)
    stops : starts tokens ≡ false
    follows : Follows (bytes ++ (41 ∷ rest))
    spells : (place : ℕ) (k : Kind) → Cursor text line place (bytes ++ (41 ∷ rest)) → Onward text line rest r last → Spells text place k tokens last

  abbrev Reads : List ℕ → Tree → Type 0
  Reads bytes t = (rest : List ℕ) (r : List Lexeme) → Follows rest → starts r ≡ false → Reading bytes t rest r

  abbrev TailReads : List ℕ → Tree → Type 0
  TailReads bytes t = (rest : List ℕ) (r : List Lexeme) → TailReading bytes t rest r

  name_reads : (name : List ℕ) → IsUtf8 name → Reads (name_text name) (App line (name ∷ []) no_tree)
  name_reads name utf8 rest r f s = record {
    tokens = L.Word name (not (is_bare name)) line ∷ r;
    reads = reads_name line name (not (is_bare name)) r s;
    firm = name_firm name rest;
    spells = λ place k free c more. spells_name text line last place k name rest r utf8 free f.no_tail f.no_single c (λ k p is d. more k p d);
  }

  integer_reads : (n : ℤ) → Is64 n → Reads (signed_decimal n) (integer_tree line n)
  integer_reads (pos n) lt rest r f s = record {
    tokens = L.Int n line ∷ r;
    reads = reads_integer line n r;
    firm = integer_firm (pos n) rest lt;
    spells = λ place k free c more. spells_number text line last place n k rest r (omega arith) f c more;
  }
  integer_reads (negsuc n) lt rest r f s = record {
    tokens = L.Word (codes "-") false line ∷ L.Int (suc n) line ∷ r;
    reads = reads_negative line (suc n) false r;
    firm = refl;
    spells = λ place k free c more. spells_minus text line last place (suc n) k rest (L.Int (suc n) line ∷ r) (omega arith) c (λ k p d. spells_number text line last p (suc n) k rest r (omega arith) f d more);
  }

  character_reads : (c : ℕ) → scalar c ≡ true → Reads (in_quotes single_quote (encode_utf8 c)) (App line (encode_utf8 c ∷ []) no_tree)
  character_reads c s rest r f e = record {
    tokens = L.Word (encode_utf8 c) true line ∷ r;
    reads = reads_name line (encode_utf8 c) true r e;
    firm = refl;
    spells = λ place k free d more. spells_quoted text line last place k (encode_utf8 c) rest r (utf8_character c s) f.no_single d (λ k p is d. more k p d);
  }

  string_reads : (bytes : List ℕ) → IsUtf8 bytes → Reads (in_quotes double_quote bytes) (Tree.Str line bytes)
  string_reads bytes utf8 rest r f e = record {
    tokens = L.Str bytes line ∷ r;
    reads = reads_string line bytes r;
    firm = refl;
    spells = λ place k free d more. spells_string text line last place k bytes rest r utf8 f d more;
  }

  state_reads : Reads (codes "state") (App line (codes "state" ∷ []) no_tree)
  state_reads rest r f e = record {
    tokens = L.Word (codes "state") false line ∷ r;
    reads = reads_name line (codes "state") false r e;
    firm = refl;
    spells = λ place k free d more. spells_bare text line last place k (codes "state") rest r refl free f.no_tail d (λ k p is d. more k p d);
  }

  nil_reads : Reads (codes "[]") (Items line no_tree)
  nil_reads rest r f e = record {
    tokens = L.ListOpen line ∷ L.ListClose ∷ r;
    reads = reads_nil line r;
    firm = refl;
    spells = λ place k free c more. spells_list_open text line last place k (93 ∷ rest) (L.ListClose ∷ r) c (λ p d. spells_list_close text line last p K.ListOpen rest r d more);
  }

  nil_tail : TailReads [] (Items line no_tree)
  nil_tail rest r = record {
    tokens = L.ListClose ∷ r;
    tail = tail_nil line r;
    stops = refl;
    follows = follows_list_close rest;
    spells = λ place k c more. spells_list_close text line last place k rest r c more;
  }

  -- what is no list stands behind the bar
  bar_tail : (bytes : List ℕ) (t : Tree) → is_list line t ≡ false → Reads bytes t → TailReads (codes " | " ++ bytes) t
  bar_tail bytes t e whole rest r =
      let w = whole (93 ∷ rest) (L.ListClose ∷ r) (follows_list_close rest) refl in
      let here = bytes ++ (93 ∷ rest) in
      record {
        tokens = L.Bar ∷ w.tokens;
        tail = tail_bar line w.tokens r t e w.reads;
        stops = refl;
        follows = follows_blank (124 ∷ 32 ∷ here);
        spells = λ place k c more.
            spells_past_blank text line place last k (124 ∷ 32 ∷ here) (L.Bar ∷ w.tokens) c refl (λ d.
            spells_bar text line last (place + 1) K.Eof (32 ∷ here) w.tokens d (λ k p d.
            spells_past_blank text line p last k here w.tokens d w.firm (λ d.
            w.spells (p + 1) K.Eof refl d (λ k p d. spells_list_close text line last p k rest r d more))));
      }

  module _ (names : List (List ℕ)) where
    pub record ValueReads (v : Val) : Type 0 where
      pub whole : Reads (printed names v) (tree_of line names v)
      pub tail : TailReads (printed_tail names v) (tree_of line names v)

    abbrev AllRead : Vals → Type 0
    AllRead no_vals = Unit {0}
    AllRead (val_then v vs) = ValueReads v × AllRead vs

    -- a comma, a blank and a value, before more
    comma_spells : (v : Val) (more here : List ℕ) (r : List Lexeme) (w : Reading (printed names v) (tree_of line names v) (more ++ here) r) (place : ℕ) (k : Kind)
        → Cursor text line place ((codes ", " ++ (printed names v ++ more)) ++ here) → Onward text line (more ++ here) r last → Spells text place k (L.Comma ∷ w.tokens) last
    comma_spells v more here r w place k c onward =
        let long = printed names v ++ (more ++ here) in
        spells_comma text line last place k (32 ∷ long) w.tokens (spelled_so (ap (λ l. 44 ∷ 32 ∷ l) (append_assoc (printed names v) more here)) c) (λ k p d.
        spells_past_blank text line p last k long w.tokens d w.firm (λ d. w.spells (p + 1) K.Eof refl d onward))

    more_reads : (vs : Vals) → AllRead vs → (rest : List ℕ) (r : List Lexeme) → MoreReading (printed_more names vs) (trees_of line names vs) rest r
    more_reads no_vals h rest r = record {
      tokens = L.Close ∷ r;
      arguments = λ ts t reads. one_part line ts (L.Close ∷ r) t reads;
      stops = refl;
      follows = follows_close rest;
      spells = λ place k c more. spells_close text line last place k rest r c more;
    }
    more_reads (val_then v vs) h rest r =
        let m = more_reads vs h.1 rest r in
        let w = h.0.whole (printed_more names vs ++ (41 ∷ rest)) m.tokens m.follows m.stops in
        record {
          tokens = L.Comma ∷ w.tokens;
          arguments = λ ts t reads. part_then line ts w.tokens (L.Close ∷ r) t (trees_of line names (val_then v vs)) reads (m.arguments w.tokens (tree_of line names v) w.reads);
          stops = refl;
          follows = follows_comma _;
          spells = λ place k c more. comma_spells v (printed_more names vs) (41 ∷ rest) m.tokens w place k c (λ k p d. m.spells p k d more);
        }

    -- a name with arguments
    compound_reads : (name : List ℕ) (v : Val) (vs : Vals) → IsUtf8 name → ValueReads v → AllRead vs
        → Reads (name_text name ++ (codes "(" ++ (printed names v ++ (printed_more names vs ++ codes ")")))) (App line (name ∷ []) (trees (tree_of line names v ∷ trees_of line names vs)))
    compound_reads name v vs utf8 h hs rest r f s =
        let m = more_reads vs hs rest r in
        let inner = printed names v ++ (printed_more names vs ++ (41 ∷ rest)) in
        let w = h.whole (printed_more names vs ++ (41 ∷ rest)) m.tokens m.follows m.stops in
        let regrouped : (name_text name ++ (codes "(" ++ (printed names v ++ (printed_more names vs ++ codes ")")))) ++ rest ≡ name_text name ++ (40 ∷ inner) =
        append_assoc (name_text name) (40 ∷ (printed names v ++ (printed_more names vs ++ (41 ∷ [])))) rest
        ∙ ap (λ l. name_text name ++ (40 ∷ l)) (append_assoc (printed names v) (printed_more names vs ++ (41 ∷ [])) rest ∙ ap (λ l. printed names v ++ l) (append_assoc (printed_more names vs) (41 ∷ []) rest)) in
        record {
          tokens = L.Word name (not (is_bare name)) line ∷ L.OpenCt line ∷ w.tokens;
          reads = reads_compound line name (not (is_bare name)) w.tokens r (tree_of line names v ∷ trees_of line names vs) (m.arguments w.tokens (tree_of line names v) w.reads);
          firm = ap (λ l. is_firm (at l 0)) regrouped ∙ name_firm name (40 ∷ inner);
          spells = λ place k free c more.
              spells_name text line last place k name (40 ∷ inner) (L.OpenCt line ∷ w.tokens) utf8 free refl (omega arith) (spelled_so regrouped c) (λ k p is d.
              spells_open text line last p k inner w.tokens is d (λ p d. w.spells p K.OpenCt refl d (λ k p d. m.spells p k d more)));
        }

    -- a list
    list_reads : (v t : Val) → ValueReads v → ValueReads t → Reads (codes "[" ++ (printed names v ++ (printed_tail names t ++ codes "]"))) (cell_tree line (tree_of line names v) (tree_of line names t))
    list_reads v t h k rest r f s =
        let m = k.tail rest r in
        let inner = printed names v ++ (printed_tail names t ++ (93 ∷ rest)) in
        let w = h.whole (printed_tail names t ++ (93 ∷ rest)) m.tokens m.follows m.stops in
        let regrouped : (printed names v ++ (printed_tail names t ++ (93 ∷ []))) ++ rest ≡ inner =
        append_assoc (printed names v) (printed_tail names t ++ (93 ∷ [])) rest ∙ ap (λ l. printed names v ++ l) (append_assoc (printed_tail names t) (93 ∷ []) rest) in
        record {
          tokens = L.ListOpen line ∷ w.tokens;
          reads = reads_list line w.tokens r (cell_tree line (tree_of line names v) (tree_of line names t)) (m.tail w.tokens (tree_of line names v) w.reads);
          firm = refl;
          spells = λ place k free c more.
              spells_list_open text line last place k inner w.tokens (spelled_so (ap (λ l. 91 ∷ l) regrouped) c) (λ p d.
              w.spells p K.ListOpen refl d (λ k p d. m.spells p k d more));
        }

    -- a list that goes on
    list_tail : (v t : Val) → ValueReads v → ValueReads t → TailReads (codes ", " ++ (printed names v ++ printed_tail names t)) (cell_tree line (tree_of line names v) (tree_of line names t))
    list_tail v t h k rest r =
        let m = k.tail rest r in
        let w = h.whole (printed_tail names t ++ (93 ∷ rest)) m.tokens m.follows m.stops in
        record {
          tokens = L.Comma ∷ w.tokens;
          tail = tail_more line w.tokens m.tokens r (tree_of line names v) (tree_of line names t) w.reads m.tail;
          stops = refl;
          follows = follows_comma _;
          spells = λ place k c more. comma_spells v (printed_tail names t) (93 ∷ rest) m.tokens w place k c (λ k p d. m.spells p k d more);
        }

    -- Two readings, one for each side of a test.
    chosen : (b : Bool) (xs ys us vs : List ℕ) (t s : Tree) → Reads xs t × TailReads us t → Reads ys s × TailReads vs s → Reads (cond b xs ys) (cond b t s) × TailReads (cond b us vs) (cond b t s)
    chosen true xs ys us vs t s f g = f
    chosen false xs ys us vs t s f g = g

    constant_reads : (name : List ℕ) → IsUtf8 name
        → Reads (constant_text name) (applied_tree line name []) × TailReads (cond (is_nil name) [] (codes " | " ++ constant_text name)) (applied_tree line name [])
    constant_reads name utf8 = go (is_nil name) refl
      where
        go : (b : Bool) → is_nil name ≡ b
            → Reads (cond b name (name_text name)) (cond b (Items line no_tree) (App line (name ∷ []) no_tree)) × TailReads (cond b [] (codes " | " ++ cond b name (name_text name))) (cond b (Items line no_tree) (App line (name ∷ []) no_tree))
        go true e = (subst (λ l. Reads l (Items line no_tree)) (sym (same_text name (codes "[]") (sym e))) nil_reads, nil_tail)
        go false e = (name_reads name utf8, bar_tail (name_text name) (App line (name ∷ []) no_tree) refl (name_reads name utf8))

    compound : (name : List ℕ) (v : Val) (vs : Vals) → IsUtf8 name → ValueReads v → AllRead vs
        → Reads (name_text name ++ (codes "(" ++ (printed names v ++ (printed_more names vs ++ codes ")")))) (App line (name ∷ []) (trees (tree_of line names v ∷ trees_of line names vs)))
        × TailReads (codes " | " ++ (name_text name ++ (codes "(" ++ (printed names v ++ (printed_more names vs ++ codes ")"))))) (App line (name ∷ []) (trees (tree_of line names v ∷ trees_of line names vs)))
    compound name v vs utf8 h hs =
        let whole = compound_reads name v vs utf8 h hs in
        (whole, bar_tail (name_text name ++ (codes "(" ++ (printed names v ++ (printed_more names vs ++ codes ")")))) (App line (name ∷ []) (trees (tree_of line names v ∷ trees_of line names vs))) refl whole)

    both : (v : Val) → Reads (printed names v) (tree_of line names v) × TailReads (printed_tail names v) (tree_of line names v) → ValueReads v
    both v h = record { whole = h.0; tail = h.1 }

    -- a value that is no constructor
    leaf : (bytes : List ℕ) (t : Tree) → is_list line t ≡ false → Reads bytes t → Reads bytes t × TailReads (codes " | " ++ bytes) t
    leaf bytes t e whole = (whole, bar_tail bytes t e whole)

    integer_no_list : (n : ℤ) → is_list line (integer_tree line n) ≡ false
    integer_no_list (pos n) = refl
    integer_no_list (negsuc n) = refl

    constructor_reads : (symbol : ℕ) (vs : Vals) → IsUtf8 (name_at names symbol) → AllRead vs → ValueReads (con symbol vs)
    constructor_reads symbol no_vals utf8 h = both (con symbol no_vals) (constant_reads (name_at names symbol) utf8)
    constructor_reads symbol (val_then v no_vals) utf8 h = both (con symbol (val_then v no_vals)) (compound (name_at names symbol) v no_vals utf8 h.0 tt)
    constructor_reads symbol (val_then v (val_then t no_vals)) utf8 h =
        let name = name_at names symbol in
        both (con symbol (val_then v (val_then t no_vals)))
        (chosen (pointwise nat_eq name (codes "[|]")) _ _ _ _ (cell_tree line (tree_of line names v) (tree_of line names t)) _
        (list_reads v t h.0 h.1.0, list_tail v t h.0 h.1.0) (compound name v (val_then t no_vals) utf8 h.0 h.1))
    constructor_reads symbol (val_then v (val_then t (val_then u us))) utf8 h =
        both (con symbol (val_then v (val_then t (val_then u us)))) (compound (name_at names symbol) v (val_then t (val_then u us)) utf8 h.0 h.1)

    mutual
      pub value_reads : (v : Val) → HasText names v → ValueReads v
      value_reads (int n) h = both (int n) (leaf (signed_decimal n) (integer_tree line n) (integer_no_list n) (integer_reads n h))
      value_reads (char c) h = both (char c) (leaf (in_quotes single_quote (encode_utf8 c)) (App line (encode_utf8 c ∷ []) no_tree) refl (character_reads c h))
      value_reads (str bytes) h = both (str bytes) (leaf (in_quotes double_quote bytes) (Tree.Str line bytes) refl (string_reads bytes h))
      value_reads (con symbol args) h = constructor_reads symbol args h.0 (values_read args h.1)
      value_reads (state written taken) h = both (state written taken) (leaf (codes "state") (App line (codes "state" ∷ []) no_tree) refl state_reads)

      pub values_read : (vs : Vals) → AllHaveText names vs → AllRead vs
      values_read no_vals h = tt
      values_read (val_then v vs) h = (value_reads v h.0, values_read vs h.1)
