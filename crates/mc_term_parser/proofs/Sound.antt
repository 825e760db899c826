-- What is read is a term that Reads.
use Rattle.std.proofs.Common.{◌≡◌, ℕ, ◌-◌, ◌≤◌, ◌<◌, Bool, true, false, cond, ◌&&◌, leb, ltb, List, [], ◌∷◌, ◌++◌, refl, sym, ap, ◌∙◌, subst, arith, Option, Some, None, codes}
use Rattle.mc_operators.specs.declared.table.Fix.{Fix}
use Rattle.mc_operators.specs.declared.table.Fix.TheVariants.{Fx, Fy, Fxy}
use Rattle.mc_term_parser.specs.declared.lexeme.Lexeme.{Lexeme}
use Rattle.mc_term_parser.specs.declared.lexeme.Lexeme.TheVariants as L
use Rattle.mc_term_parser.specs.declared.infixes.Chain.{Chain}
use Rattle.mc_term_parser.specs.declared.infixes.Chain.TheVariants.{And, Or}
use Rattle.mc_term_parser.specs.declared.infixes.Infix.{Infix}
use Rattle.mc_term_parser.specs.declared.infixes.Infix.TheVariants.{Nothing, Binary, Chains}
use Rattle.mc_term_parser.specs.declared.infixes.Role.{Role}
use Rattle.mc_term_parser.specs.declared.infixes.Role.TheVariants.{Compound, Negative, Single, Double, Plain}
use Rattle.mc_term_parser.specs.declared.frame.Series.TheVariants.{Arguments, Elements, Chained}
use Rattle.mc_operators.specs.Table.{prefix_row, same_name}
use Rattle.mc_term_parser.specs.Infixes.{is_open_ct, prefix_of, prefix_role, operand, rank, joined_by, role, callee, is_paren, name_of, line}
use Rattle.mc_term_parser.specs.Part.{Part, closed, over}
use Rattle.mc_term_parser.specs.Tree.{Tree, Neg, line_of}
use Rattle.mc_term_parser.specs.Reads.{Between, ByComma, ByChain, Separates, Reads, Parts, variable, number, string, negative, name, path, compound, paren, nil, elements, tailed, prefix, quantified, binary, chained, last, more, ReadsTerm}
use Rattle.mc_term_parser.specs.code.Machine.{AtRight, AtOperand, AtFirst, AtSecond, InParen, InParts, InTail, Start, Done, Yes, No, Push, Stay, same_chain, turn}
use Rattle.mc_term_parser.specs.code.Leads as Run
use Rattle.mc_term_parser.proofs.Trees.{Frame, State, Leads, step, start, on_role, on_compound, on_negative, on_path, on_list, next_at, next, on_chain, parts, second, at_first, after_paren, after_tail, reduce, made_chain, joined_rows}
use Rattle.mc_term_parser.proofs.Complete.{role_fits, role_fits_two, chain_is}
use Rattle.std.proofs.lemmas.Bool.{leb-true, ltb-true}
use Rattle.mc_base.proofs.Booleans.{left_true, right_true}

-- The parts from ts on are those before and then ms; where nothing is before, ts is where the parts
-- begin. Before s c limit from before ts: the parts from `from` on are before, each with its
-- separator, and ts is left.
pub data Before : Between → Bool → ℕ → List Lexeme → List Tree → List Lexeme → Type 0 where
  none : {s : Between} {c : Bool} {limit : ℕ} {ts : List Lexeme} → Before s c limit ts [] ts
  some : {s : Between} {c : Bool} {limit : ℕ} {x : Lexeme} {ts us vs : List Lexeme} {p : Part Tree} {ms : List Tree} →
      Before s c limit ts ms us → Reads c limit us p (x ∷ vs) → p.number ≤ limit → Separates s c x →
      Before s c limit ts (ms ++ (p.tree ∷ [])) vs

-- with parts after them
closes :
    {s : Between} {c : Bool} {limit : ℕ} {ts us r : List Lexeme} {ms ns : List Tree}
    → Before s c limit ts ms us → Parts s c limit us ns r → Parts s c limit ts (ms ++ ns) r
closes none ps = ps
closes {r = r} {ns = ns} (some {s = s} {c = c} {limit = limit} {ts = ts} {p = p} {ms = ms} b d h z) ps = subst (λ ms. Parts s c limit ts ms r) (sym (joined_rows ms (p.tree ∷ []) ns)) (closes b (more d h z ps))

-- Stacked stack c limit ts all: the part that is read under the stack begins at ts, and all is the
-- whole list
pub data Stacked : List Frame → Bool → ℕ → List Lexeme → List Lexeme → Type 0 where
  bottom : {ts : List Lexeme} → Stacked [] false 1200 ts ts
  right : {stack : List Frame} {c : Bool} {limit n : ℕ} {ly ry : Bool} {x : Lexeme} {ts us all : List Lexeme} {a : Part Tree} →
      Stacked stack c limit ts all → Reads c limit ts a (x ∷ us) → joined_by c x ≡ Binary n ly ry
      → a.number ≤ operand ly n → a.reach < n → n ≤ limit →
      Stacked (AtRight (line_of a.tree) (name_of x) n (operand ry n) a.tree c limit ∷ stack) c
      (operand ry n) us all
  operand_ : {stack : List Frame} {c : Bool} {limit n m l : ℕ} {w : List ℕ} {q : Bool} {ts all : List Lexeme} →
      Stacked stack c limit (L.Word w q l ∷ ts) all → role limit w ts ≡ Single n m →
      Stacked (AtOperand l (w ∷ []) n m c limit ∷ stack) c m ts all
  first_ : {stack : List Frame} {c : Bool} {limit n l : ℕ} {w : List ℕ} {q : Bool} {ts all : List Lexeme} →
      Stacked stack c limit (L.Word w q l ∷ ts) all → role limit w ts ≡ Double n →
      Stacked (AtFirst l (w ∷ []) n c limit ∷ stack) c (n - 1) ts all
  second_ : {stack : List Frame} {c : Bool} {limit n l : ℕ} {w : List ℕ} {q : Bool} {x : Lexeme} {ts us all : List Lexeme} {a : Part Tree} →
      Stacked stack c limit (L.Word w q l ∷ ts) all → role limit w ts ≡ Double n
      → Reads c (n - 1) ts a (x ∷ us) → a.number ≤ n - 1 → joined_by c x ≡ Nothing →
      Stacked (AtSecond l (w ∷ []) n a.tree c limit ∷ stack) c n (x ∷ us) all
  paren_ : {stack : List Frame} {c : Bool} {limit : ℕ} {x : Lexeme} {ts all : List Lexeme} →
      Stacked stack c limit (x ∷ ts) all → is_paren x ≡ true →
      Stacked (InParen (line x) c limit ∷ stack) false 1200 ts all
  arguments_ : {stack : List Frame} {c : Bool} {limit k : ℕ} {w : List (List ℕ)} {x : Lexeme} {ts us all : List Lexeme} {ms : List Tree} →
      Stacked stack c limit (x ∷ L.OpenCt k ∷ ts) all → callee x ≡ Some w
      → Before ByComma true 1200 ts ms us →
      Stacked (InParts (Arguments w) (line x) ms c limit ∷ stack) true 1200 us all
  elements_ : {stack : List Frame} {c : Bool} {limit l : ℕ} {ts us all : List Lexeme} {ms : List Tree} →
      Stacked stack c limit (L.ListOpen l ∷ ts) all → Before ByComma true 1200 ts ms us →
      Stacked (InParts Elements l ms c limit ∷ stack) true 1200 us all
  tail_ : {stack : List Frame} {c : Bool} {limit l : ℕ} {ts us all : List Lexeme} {ms : List Tree} →
      Stacked stack c limit (L.ListOpen l ∷ ts) all → Parts ByComma true 1200 ts ms (L.Bar ∷ us) →
      Stacked (InTail l ms c limit ∷ stack) true 1200 us all
  chain_ : {stack : List Frame} {c : Bool} {limit : ℕ} {k : Chain} {x : Lexeme} {ts us vs all : List Lexeme} {a : Part Tree} {ms : List Tree} →
      Stacked stack c limit ts all → Reads c limit ts a (x ∷ us) → joined_by c x ≡ Chains k
      → a.number < rank k → rank k ≤ limit →
      Before (ByChain k) c (rank k - 1) us ms vs →
      Stacked (InParts (Chained k) (line_of a.tree) (a.tree ∷ ms) c limit ∷ stack) c (rank k - 1) vs
      all

-- what is known at a state
pub data Sound (all : List Lexeme) : State → Type 0 where
  at_start :
      {c : Bool} {limit : ℕ} {stack : List Frame} {ts : List Lexeme} → Stacked stack c limit ts all
      → Sound all (Start c limit stack ts)
  at_done :
      {c : Bool} {limit : ℕ} {stack : List Frame} {ts r : List Lexeme} {p : Part Tree}
      → Stacked stack c limit ts all → Reads c limit ts p r → p.number ≤ limit
      → Sound all (Done c limit stack p r)
  at_yes : {p : Part Tree} → Reads false 1200 all p [] → p.number ≤ 1200 → Sound all (Yes p)
  at_no : Sound all No

-- a prefix operator or a plain name
prefixed : Role → Bool
prefixed Compound = false
prefixed (Negative n) = false
prefixed _ = true

prefix_prefixed :
    (limit : ℕ) (row : Option (ℕ × Fix)) (b : Bool) → prefixed (prefix_role limit row b) ≡ true
unfolding prefixed
prefix_prefixed limit None b = refl
prefix_prefixed limit (Some r) b = go (b && leb r.0 limit) r.1
  where
    go : (t : Bool) (f : Fix) → prefixed (cond t (prefix_of r.0 f) Plain) ≡ true
    go false f = refl
    go true Fx = refl
    go true Fy = refl
    go true Fxy = refl
    go true _ = refl

prefix_no :
    (limit : ℕ) (row : Option (ℕ × Fix)) (b : Bool) (a : Role)
    → prefix_role limit row b ≡ a → prefixed a ≡ false → ⊥
prefix_no limit row b a e h =
    let k : prefixed (prefix_role limit row b) ≡ true = prefix_prefixed limit row b in cc

compound_is :
    (limit : ℕ) (w : List ℕ) (ts : List Lexeme) → role limit w ts ≡ Compound → is_open_ct ts ≡ true
unfolding role prefixed
compound_is limit w (L.OpenCt k ∷ ts) e = refl
compound_is limit w [] e = absurd (prefix_no limit _ _ Compound e refl)
compound_is limit w (L.Int n l ∷ ts) e = absurd (go (same_name (codes "-") w) e)
  where
    go : (b : Bool) → cond b (Negative n) (prefix_role limit (prefix_row w) true) ≡ Compound → ⊥
    go true e = cc
    go false e = prefix_no limit (prefix_row w) true Compound e refl
compound_is limit w (t ∷ ts) e = absurd (prefix_no limit _ _ Compound e refl)

abbrev BeginsNumber : ℕ → List Lexeme → Type 0
BeginsNumber n ts = (l : ℕ) × (r : List Lexeme) × (ts ≡ L.Int n l ∷ r)

negative_is :
    (limit n : ℕ) (w : List ℕ) (ts : List Lexeme) → role limit w ts ≡ Negative n → BeginsNumber n ts
unfolding role prefixed
negative_is limit n w (L.OpenCt k ∷ ts) e = cc
negative_is limit n w [] e = absurd (prefix_no limit _ _ (Negative n) e refl)
negative_is limit n w (L.Int m l ∷ ts) e = go (same_name (codes "-") w) e
  where
    go :
        (b : Bool)
        → cond b (Negative m) (prefix_role limit (prefix_row w) true) ≡ Negative n
        → BeginsNumber n (L.Int m l ∷ ts)
    go true e = let same : m ≡ n = cc in (l, ts, ap (λ k. L.Int k l ∷ ts) same)
    go false e = absurd (prefix_no limit (prefix_row w) true (Negative n) e refl)
negative_is limit n w (t ∷ ts) e = absurd (prefix_no limit _ _ (Negative n) e refl)

same_is : (k l : Chain) → same_chain k l ≡ true → l ≡ k
same_is And And e = refl
same_is And Or e = cc
same_is Or And e = cc
same_is Or Or e = refl

module _ {all : List Lexeme} where
  word_sound :
      {c : Bool} {limit : ℕ} {stack : List Frame} {w : List ℕ} {q : Bool} {l : ℕ} {ts : List Lexeme}
      → Stacked stack c limit (L.Word w q l ∷ ts) all → (a : Role) → role limit w ts ≡ a
      → Sound all (on_role c limit stack l (w ∷ []) ts a)
  word_sound {c} {limit} {stack} {w} {q} {l} {ts} st Compound e = go ts st (compound_is limit w ts e)
    where
      go :
          (ts : List Lexeme)
          → Stacked stack c limit (L.Word w q l ∷ ts) all → is_open_ct ts ≡ true
          → Sound all (on_compound c limit stack l (w ∷ []) ts)
      go [] st h = cc
      go (L.OpenCt k ∷ us) st h = at_start (arguments_ st refl none)
      go (t ∷ us) st h = cc
  word_sound {c} {limit} {stack} {w} {q} {l} {ts} st (Negative n) e = go ts st e (negative_is limit n w ts e)
    where
      go :
          (ts : List Lexeme)
          → Stacked stack c limit (L.Word w q l ∷ ts) all → role limit w ts ≡ Negative n
          → BeginsNumber n ts → Sound all (on_negative c limit stack l n ts)
      go [] st e (k, r, h) = cc
      go (t ∷ us) st e (k, r, h) =
          let head : t ≡ L.Int n k = cc in
          at_done st
          (subst (λ t. Reads c limit (L.Word w q l ∷ t ∷ us) (closed (Neg l n)) us) (sym head)
          (negative (subst (λ t. role limit w (t ∷ us) ≡ Negative n) head e))) (omega arith)
  word_sound {w = w} {ts = ts} st (Single n m) e = at_start (operand_ st e)
  word_sound st (Double n) e = at_start (first_ st e)
  word_sound st Plain e = at_done st (name e) (omega arith)

  path_sound :
      {c : Bool} {limit : ℕ} {stack : List Frame} {l : ℕ} {ps : List (List ℕ)} (ts : List Lexeme)
      → Stacked stack c limit (L.Path ps l ∷ ts) all → Sound all (on_path c limit stack l ps ts)
  path_sound (L.OpenCt k ∷ ts) st = at_start (arguments_ st refl none)
  path_sound [] st = at_done st (path refl) (omega arith)
  path_sound (t ∷ ts) st = at_done st (path refl) (omega arith)

  list_sound :
      {c : Bool} {limit : ℕ} {stack : List Frame} {l : ℕ} (ts : List Lexeme)
      → Stacked stack c limit (L.ListOpen l ∷ ts) all → Sound all (on_list c limit stack l ts)
  list_sound (L.ListClose ∷ ts) st = at_done st nil (omega arith)
  list_sound _ st = at_start (elements_ st none)

  start_sound :
      {c : Bool} {limit : ℕ} {stack : List Frame} (ts : List Lexeme) → Stacked stack c limit ts all
      → Sound all (start c limit stack ts)
  start_sound {limit = limit} (L.Word w q l ∷ ts) st = word_sound st (role limit w ts) refl
  start_sound (L.Path ps l ∷ ts) st = path_sound ts st
  start_sound (L.Var v l ∷ ts) st = at_done st variable (omega arith)
  start_sound (L.Int n l ∷ ts) st = at_done st number (omega arith)
  start_sound (L.Str s l ∷ ts) st = at_done st string (omega arith)
  start_sound (L.Open l ∷ ts) st = at_start (paren_ st refl)
  start_sound (L.OpenCt l ∷ ts) st = at_start (paren_ st refl)
  start_sound (L.ListOpen l ∷ ts) st = list_sound ts st
  start_sound _ st = at_no

  reduce_sound :
      {c : Bool} {limit : ℕ} {stack : List Frame} {ts : List Lexeme} → Stacked stack c limit ts all
      → {p : Part Tree} (r : List Lexeme) → Reads c limit ts p r → p.number ≤ limit
      → Sound all (reduce c stack p r)
  reduce_sound bottom [] d h = at_yes d h
  reduce_sound bottom (x ∷ us) d h = at_no
  reduce_sound (right st d j k i l) r e h = at_done st (binary d j k i e h) l
  reduce_sound (operand_ {limit = limit} {n = n} {m = m} {w = w} {ts = ts} st e) r d h =
      at_done st (prefix e d h) (role_fits limit w ts n m e).1
  reduce_sound (first_ {stack = stack} {c = c} {limit = limit} {n = n} {l = l} {w = w} {q = q} {ts = ts} st e) {p} r d h = go r d
    where
      see :
          (x : Lexeme) (us : List Lexeme) (j : Infix)
          → joined_by c x ≡ j → Reads c (n - 1) ts p (x ∷ us)
          → Sound all (second c n l p.tree (w ∷ []) c limit stack (x ∷ us) j)
      see x us Nothing z d = at_start (second_ st e d h z)
      see x us _ z d = at_no

      go :
          (r : List Lexeme)
          → Reads c (n - 1) ts p r → Sound all (at_first c n l p.tree (w ∷ []) c limit stack r)
      go [] d = at_no
      go (x ∷ us) d = see x us (joined_by c x) refl d
  reduce_sound (second_ {limit = limit} {n = n} {w = w} {ts = ts} st e d k j) r f h =
      at_done st (quantified e d k j f h) (role_fits_two limit w ts n e)
  reduce_sound (paren_ {stack = stack} {c = c} {limit = limit} {x = x} {ts = ts} st e) {p} r d h = go r d
    where
      go :
          (r : List Lexeme)
          → Reads false 1200 ts p r → Sound all (after_paren c limit stack (line x) p.tree r)
      go (L.Close ∷ us) d = at_done st (paren e d h) (omega arith)
      go _ d = at_no
  reduce_sound (arguments_ {stack = stack} {c = c} {limit = limit} {w = w} {x = x} {us = us} {ms = ms} st y b) {p} r d h = go r d
    where
      go :
          (r : List Lexeme)
          → Reads true 1200 us p r
          → Sound all (parts (Arguments w) (line x) (ms ++ (p.tree ∷ [])) c limit stack true r)
      go (L.Comma ∷ vs) d = at_start (arguments_ st y (some b d h refl))
      go (L.Close ∷ vs) d = at_done st (compound y (closes b (last d h))) (omega arith)
      go _ d = at_no
  reduce_sound (elements_ {stack = stack} {c = c} {limit = limit} {l = l} {us = us} {ms = ms} st b) {p} r d h = go r d
    where
      go :
          (r : List Lexeme)
          → Reads true 1200 us p r
          → Sound all (parts Elements l (ms ++ (p.tree ∷ [])) c limit stack true r)
      go (L.Comma ∷ vs) d = at_start (elements_ st (some b d h refl))
      go (L.ListClose ∷ vs) d = at_done st (elements (closes b (last d h))) (omega arith)
      go (L.Bar ∷ vs) d = at_start (tail_ st (closes b (last d h)))
      go _ d = at_no
  reduce_sound (tail_ {stack = stack} {c = c} {limit = limit} {l = l} {us = us} {ms = ms} st ps) {p} r d h = go r d
    where
      go :
          (r : List Lexeme)
          → Reads true 1200 us p r → Sound all (after_tail c limit stack l ms p.tree r)
      go (L.ListClose ∷ vs) d = at_done st (tailed ps d h) (omega arith)
      go _ d = at_no
  reduce_sound (chain_ {stack = stack} {c = c} {limit = limit} {k = k} {vs = vs} {a = a} {ms = ms} st d0 j i l b) {p} r d h = go r d
    where
      ends :
          (r : List Lexeme)
          → Reads c (rank k - 1) vs p r
          → Sound all
          (Done c limit stack
          (over (rank k) (rank k)
          (made_chain k (line_of a.tree) (a.tree ∷ (ms ++ (p.tree ∷ []))))) r)
      ends r d =
          subst (λ t. Sound all (Done c limit stack (over (rank k) (rank k) t) r))
          (sym (chain_is k (line_of a.tree) (a.tree ∷ (ms ++ (p.tree ∷ [])))))
          (at_done st (chained d0 j i (closes b (last d h))) l)

      sees :
          (x : Lexeme) (us : List Lexeme) (m : Infix)
          → joined_by c x ≡ m → Reads c (rank k - 1) vs p (x ∷ us)
          → Sound all
          (on_chain k (line_of a.tree) (a.tree ∷ (ms ++ (p.tree ∷ []))) c limit stack c
          (x ∷ us) m us)
      sees x us (Chains m) z d = turns (same_chain k m) refl
        where
          turns :
              (t : Bool)
              → same_chain k m ≡ t
              → Sound all
              (cond t
              (Start c (rank k - 1)
              (InParts (Chained k) (line_of a.tree) (a.tree ∷ (ms ++ (p.tree ∷ []))) c
              limit ∷ stack) us)
              (Done c limit stack
              (over (rank k) (rank k)
              (made_chain k (line_of a.tree) (a.tree ∷ (ms ++ (p.tree ∷ [])))))
              (x ∷ us)))
          turns true t = at_start (chain_ st d0 j i l (some b d h (z ∙ ap Chains (same_is k m t))))
          turns false t = ends (x ∷ us) d
      sees x us Nothing z d = ends (x ∷ us) d
      sees x us (Binary n ly ry) z d = ends (x ∷ us) d

      go :
          (r : List Lexeme)
          → Reads c (rank k - 1) vs p r
          → Sound all
          (parts (Chained k) (line_of a.tree) (a.tree ∷ (ms ++ (p.tree ∷ []))) c limit stack c
          r)
      go [] d = ends [] d
      go (x ∷ us) d = sees x us (joined_by c x) refl d

  done_sound :
      {c : Bool} {limit : ℕ} {stack : List Frame} {ts : List Lexeme} → Stacked stack c limit ts all
      → {p : Part Tree} (r : List Lexeme) → Reads c limit ts p r → p.number ≤ limit
      → Sound all (turn (next c limit p r) stack (reduce c stack p r))
  done_sound st [] d h = reduce_sound st [] d h
  done_sound {c} {limit} {stack} {ts} st {p} (x ∷ us) d h = go (joined_by c x) refl
    where
      rest : Sound all (reduce c stack p (x ∷ us))
      rest = reduce_sound st (x ∷ us) d h

      go :
          (j : Infix)
          → joined_by c x ≡ j
          → Sound all (turn (next_at c limit p x us j) stack (reduce c stack p (x ∷ us)))
      go Nothing z = rest
      go (Binary n ly ry) z = see (leb n limit && (leb p.number (operand ly n) && ltb p.reach n)) refl
        where
          see :
              (b : Bool)
              → leb n limit && (leb p.number (operand ly n) && ltb p.reach n) ≡ b
              → Sound all
              (turn
              (cond b
              (Push c (operand ry n)
              (AtRight (line_of p.tree) (name_of x) n (operand ry n) p.tree c limit)
              us) Stay) stack (reduce c stack p (x ∷ us)))
          see false t = rest
          see true t =
              let two_ : leb p.number (operand ly n) && ltb p.reach n ≡ true = right_true _ _ t in
              at_start
              (right st d z (leb-true _ _ (left_true _ _ two_))
              (ltb-true _ _ (right_true _ _ two_)) (leb-true _ _ (left_true _ _ t)))
      go (Chains k) z = see (leb (rank k) limit && ltb p.number (rank k)) refl
        where
          see :
              (b : Bool)
              → leb (rank k) limit && ltb p.number (rank k) ≡ b
              → Sound all
              (turn
              (cond b
              (Push c (rank k - 1)
              (InParts (Chained k) (line_of p.tree) (p.tree ∷ []) c limit) us) Stay)
              stack (reduce c stack p (x ∷ us)))
          see false t = rest
          see true t =
              at_start
              (chain_ st d z (ltb-true _ _ (right_true _ _ t)) (leb-true _ _ (left_true _ _ t))
              none)

pub step_sound : {all : List Lexeme} {s : State} → Sound all s → Sound all (step s)
step_sound (at_start {ts = ts} st) = start_sound ts st
step_sound (at_done {r = r} st d h) = done_sound st r d h
step_sound (at_yes d h) = at_yes d h
step_sound at_no = at_no

leads_sound : {all : List Lexeme} {s t : State} → Leads s t → Sound all s → Sound all t
leads_sound Run.here h = h
leads_sound (Run.onward d) h = leads_sound d (step_sound h)

yes_sound : {all : List Lexeme} {p : Part Tree} → Sound all (Yes p) → ReadsTerm all p.tree 1200
yes_sound (at_yes {p = p} d h) = (p, d, h, refl)

-- what the machine answers is a term that the tokens stand for
pub sound :
    (ts : List Lexeme) (p : Part Tree)
    → Leads (Start false 1200 [] ts) (Yes p) → ReadsTerm ts p.tree 1200
sound ts p d = yes_sound (leads_sound d (at_start bottom))
