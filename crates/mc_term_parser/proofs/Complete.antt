-- Every term that Reads is read.
use Rattle.std.proofs.Common.{◌≡◌, ℕ, ◌-◌, ◌≤◌, ◌<◌, Bool, true, false, cond, ◌&&◌, leb, ltb, List, [], ◌∷◌, ◌++◌, refl, sym, ap, ◌∙◌, subst, arith, le-leb, Option, Some, None, codes}
use Rattle.mc_operators.specs.declared.table.Fix.{Fix}
use Rattle.mc_operators.specs.declared.table.Fix.TheVariants.{Fx, Fy, Fxy}
use Rattle.mc_term_parser.specs.declared.lexeme.Lexeme.{Lexeme}
use Rattle.mc_term_parser.specs.declared.lexeme.Lexeme.TheVariants as L
use Rattle.mc_term_parser.specs.declared.infixes.Chain.{Chain}
use Rattle.mc_term_parser.specs.declared.infixes.Chain.TheVariants.{And, Or}
use Rattle.mc_term_parser.specs.declared.infixes.Infix.{Infix}
use Rattle.mc_term_parser.specs.declared.infixes.Infix.TheVariants.{Nothing, Binary, Chains}
use Rattle.mc_term_parser.specs.declared.infixes.Role.{Role}
use Rattle.mc_term_parser.specs.declared.infixes.Role.TheVariants.{Compound, Negative, Single, Double, Plain}
use Rattle.mc_term_parser.specs.declared.frame.Series.{Series}
use Rattle.mc_term_parser.specs.declared.frame.Series.TheVariants.{Arguments, Elements, Chained}
use Rattle.mc_operators.specs.Table.{prefix_row, same_name}
use Rattle.mc_term_parser.specs.Infixes.{is_open_ct, prefix_of, prefix_role, operand, rank, joined_by, role, callee, is_paren, name_of, line}
use Rattle.mc_term_parser.specs.Part.{Part, closed, over}
use Rattle.mc_term_parser.specs.Tree.{Tree, App, trees, line_of}
use Rattle.mc_term_parser.specs.Reads.{chain, Between, ByComma, ByChain, Separates, Reads, Parts, variable, number, string, negative, name, path, compound, paren, nil, elements, tailed, prefix, quantified, binary, chained, last, more}
use Rattle.mc_term_parser.specs.code.Machine.{AtRight, AtOperand, AtFirst, AtSecond, InParen, InParts, InTail, Start, Done, Push, Stay, same_chain, turn}
use Rattle.mc_term_parser.proofs.Trees.{Frame, State, Leads, here, onward, then, on_role, on_path, on_list, next_at, next, on_chain, parts, second, reduce, made_chain, joined_rows}
use Rattle.std.proofs.lemmas.Bool.{lt-leb, leb-true, lt-ltb}
use Rattle.std.specs.Cmp.Derive.{both_true}
use Rattle.mc_base.proofs.Booleans.{right_true}

-- what follows has a number above b, where it is an operator
abbrev pub ShutAt : Infix → ℕ → Type 0
ShutAt Nothing b = Unit {0}
ShutAt (Binary n ly ry) b = b < n
ShutAt (Chains k) b = b < rank k

abbrev pub Shut : Bool → List Lexeme → ℕ → Type 0
Shut c [] b = Unit {0}
Shut c (x ∷ ts) b = ShutAt (joined_by c x) b

shut_at_below : (j : Infix) (a b : ℕ) → a ≤ b → ShutAt j b → ShutAt j a
shut_at_below Nothing a b h s = tt
shut_at_below (Binary n ly ry) a b h s = omega arith
shut_at_below (Chains k) a b h s = omega arith

shut_below : (c : Bool) (r : List Lexeme) (a b : ℕ) → a ≤ b → Shut c r b → Shut c r a
shut_below c [] a b h s = tt
shut_below c (x ∷ ts) a b h s = shut_at_below (joined_by c x) a b h s

operand_below : (y : Bool) (n : ℕ) → operand y n ≤ n
operand_below true n = omega arith
operand_below false n = omega arith

-- a prefix operator is within the limit, and its operand's limit is at most its number
prefix_fits :
    (limit : ℕ) (row : Option (ℕ × Fix)) (b : Bool) (n m : ℕ)
    → prefix_role limit row b ≡ Single n m → (m ≤ n) × (n ≤ limit)
prefix_fits limit None b n m e = cc
prefix_fits limit (Some r) b n m e = go (b && leb r.0 limit) r.1 refl e
  where
    go :
        (t : Bool) (f : Fix)
        → b && leb r.0 limit ≡ t → cond t (prefix_of r.0 f) Plain ≡ Single n m
        → (m ≤ n) × (n ≤ limit)
    go false f h e = cc
    go true Fx h e = let k : r.0 ≤ limit = leb-true _ _ (right_true b _ h) in let a : r.0 ≡ n = cc in let z : r.0 - 1 ≡ m = cc in (omega arith, omega arith)
    go true Fy h e = let k : r.0 ≤ limit = leb-true _ _ (right_true b _ h) in let a : r.0 ≡ n = cc in let z : r.0 ≡ m = cc in (omega arith, omega arith)
    go true Fxy h e = cc
    go true _ h e = cc

prefix_fits_two :
    (limit : ℕ) (row : Option (ℕ × Fix)) (b : Bool) (n : ℕ)
    → prefix_role limit row b ≡ Double n → n ≤ limit
prefix_fits_two limit None b n e = cc
prefix_fits_two limit (Some r) b n e = go (b && leb r.0 limit) r.1 refl e
  where
    go :
        (t : Bool) (f : Fix)
        → b && leb r.0 limit ≡ t → cond t (prefix_of r.0 f) Plain ≡ Double n → n ≤ limit
    go false f h e = cc
    go true Fx h e = cc
    go true Fy h e = cc
    go true Fxy h e =
        let k : r.0 ≤ limit = leb-true _ _ (right_true b _ h) in let a : r.0 ≡ n = cc in omega arith
    go true _ h e = cc

pub role_fits :
    (limit : ℕ) (w : List ℕ) (ts : List Lexeme) (n m : ℕ)
    → role limit w ts ≡ Single n m → (m ≤ n) × (n ≤ limit)
unfolding role
role_fits limit w [] n m e = prefix_fits limit _ _ n m e
role_fits limit w (L.OpenCt k ∷ ts) n m e = cc
role_fits limit w (L.Int k l ∷ ts) n m e = go (same_name (codes "-") w) e
  where
    go :
        (b : Bool)
        → cond b (Negative k) (prefix_role limit (prefix_row w) true) ≡ Single n m
        → (m ≤ n) × (n ≤ limit)
    go true e = cc
    go false e = prefix_fits limit _ _ n m e
role_fits limit w (t ∷ ts) n m e = prefix_fits limit _ _ n m e

pub role_fits_two :
    (limit : ℕ) (w : List ℕ) (ts : List Lexeme) (n : ℕ) → role limit w ts ≡ Double n → n ≤ limit
unfolding role
role_fits_two limit w [] n e = prefix_fits_two limit _ _ n e
role_fits_two limit w (L.OpenCt k ∷ ts) n e = cc
role_fits_two limit w (L.Int k l ∷ ts) n e = go (same_name (codes "-") w) e
  where
    go :
        (b : Bool)
        → cond b (Negative k) (prefix_role limit (prefix_row w) true) ≡ Double n → n ≤ limit
    go true e = cc
    go false e = prefix_fits_two limit _ _ n e
role_fits_two limit w (t ∷ ts) n e = prefix_fits_two limit _ _ n e

pub reach_below :
    {c : Bool} {limit : ℕ} {ts r : List Lexeme} {p : Part Tree} → Reads c limit ts p r
    → p.reach ≤ p.number
reach_below variable = omega arith
reach_below number = omega arith
reach_below string = omega arith
reach_below (negative e) = omega arith
reach_below (name e) = omega arith
reach_below (path e) = omega arith
reach_below (compound e d) = omega arith
reach_below (paren e d h) = omega arith
reach_below nil = omega arith
reach_below (elements d) = omega arith
reach_below (tailed d e h) = omega arith
reach_below (prefix {limit = limit} {n = n} {m = m} {w = w} {ts = ts} e d h) =
    (role_fits limit w ts n m e).0
reach_below (quantified e d h j f g) = omega arith
reach_below (binary {n = n} {ry = ry} d j h i f g) = operand_below ry n
reach_below (chained d j h ps) = omega arith

-- nothing is joined where what follows is above the limit
stays_at :
    (c : Bool) (limit : ℕ) (p : Part Tree) (x : Lexeme) (ts : List Lexeme) (j : Infix)
    → ShutAt j limit → next_at c limit p x ts j ≡ Stay
stays_at c limit p x ts Nothing h = refl
stays_at c limit p x ts (Binary n ly ry) h =
    ap
    (λ b.
    cond (b && (leb p.number (operand ly n) && ltb p.reach n))
    (Push c (operand ry n)
    (AtRight (line_of p.tree) (name_of x) n (operand ry n) p.tree c limit) ts) Stay)
    (lt-leb n limit h)
stays_at c limit p x ts (Chains k) h =
    ap
    (λ b.
    cond (b && ltb p.number (rank k))
    (Push c (rank k - 1) (InParts (Chained k) (line_of p.tree) (p.tree ∷ []) c limit) ts)
    Stay) (lt-leb (rank k) limit h)

stays :
    (c : Bool) (limit : ℕ) (p : Part Tree) (r : List Lexeme)
    → Shut c r limit → next c limit p r ≡ Stay
stays c limit p [] h = refl
stays c limit p (x ∷ ts) h = stays_at c limit p x ts (joined_by c x) h

-- a frame of parts, and the context in which its parts are read
pub data Sorted : Series → Between → Bool → ℕ → Type 0 where
  sorted_arguments : {w : List (List ℕ)} → Sorted (Arguments w) ByComma true 1200
  sorted_elements : Sorted Elements ByComma true 1200
  sorted_chain :
      {k : Chain} {c : Bool} {limit : ℕ} → limit < rank k → limit ≡ rank k - 1
      → Sorted (Chained k) (ByChain k) c limit

joins_not : joined_by true L.Comma ≡ Nothing
unfolding joined_by
joins_not = refl

same_chain_itself : (k : Chain) → same_chain k k ≡ true
same_chain_itself And = refl
same_chain_itself Or = refl

-- a separator is above what its parts may be
separator_shut :
    {s : Series} {b : Between} {c : Bool} {limit : ℕ} → Sorted s b c limit
    → (x : Lexeme) (us : List Lexeme) → Separates b c x → Shut c (x ∷ us) limit
separator_shut sorted_arguments x us e =
    subst (λ y. Shut true (y ∷ us) 1200) (sym e) (subst (λ j. ShutAt j 1200) (sym joins_not) tt)
separator_shut sorted_elements x us e =
    subst (λ y. Shut true (y ∷ us) 1200) (sym e) (subst (λ j. ShutAt j 1200) (sym joins_not) tt)
separator_shut (sorted_chain {limit = limit} h z) x us e = subst (λ j. ShutAt j limit) (sym e) h

-- a separator leads on to the next part
separated :
    {s : Series} {b : Between} {c : Bool} {limit : ℕ} → Sorted s b c limit
    → (x : Lexeme) (us : List Lexeme) → Separates b c x
    → (l : ℕ) (ms : List Tree) (d : Bool) (outer : ℕ) (stack : List Frame)
    → parts s l ms d outer stack c (x ∷ us) ≡ Start c limit (InParts s l ms d outer ∷ stack) us
separated (sorted_arguments {w = w}) x us e l ms d outer stack =
    subst
    (λ y.
    parts (Arguments w) l ms d outer stack true (y ∷ us)
    ≡ Start true 1200 (InParts (Arguments w) l ms d outer ∷ stack) us) (sym e) refl
separated sorted_elements x us e l ms d outer stack =
    subst
    (λ y.
    parts Elements l ms d outer stack true (y ∷ us)
    ≡ Start true 1200 (InParts Elements l ms d outer ∷ stack) us) (sym e) refl
separated (sorted_chain {k = k} {c = c} {limit = limit} h z) x us e l ms d outer stack =
    ap (λ j. on_chain k l ms d outer stack c (x ∷ us) j us) e
    ∙ ap
    (λ b.
    cond b (Start c (rank k - 1) (InParts (Chained k) l ms d outer ∷ stack) us)
    (Done d outer stack (over (rank k) (rank k) (made_chain k l ms)) (x ∷ us)))
    (same_chain_itself k)
    ∙ ap (λ m. Start c m (InParts (Chained k) l ms d outer ∷ stack) us) (sym z)

-- after a part with nothing joined to it, the frame takes it
pub stay_step :
    (c : Bool) (limit : ℕ) (stack : List Frame) (p : Part Tree) (r : List Lexeme)
    → Shut c r limit → (t : State) → reduce c stack p r ≡ t → Leads (Done c limit stack p r) t
stay_step c limit stack p r h t e =
    onward
    (subst (λ u. Leads u t)
    (sym (ap (λ n. turn n stack (reduce c stack p r)) (stays c limit p r h) ∙ e)) here)

push_step :
    (c : Bool) (limit : ℕ) (stack : List Frame) (p : Part Tree) (r : List Lexeme) (d : Bool) (m : ℕ)
    (f : Frame) (us : List Lexeme)
    → next c limit p r ≡ Push d m f us → Leads (Done c limit stack p r) (Start d m (f ∷ stack) us)
push_step c limit stack p r d m f us e =
    onward
    (subst (λ u. Leads u (Start d m (f ∷ stack) us))
    (sym (ap (λ n. turn n stack (reduce c stack p r)) e)) here)

word_step :
    (c : Bool) (limit : ℕ) (stack : List Frame) (w : List ℕ) (q : Bool) (l : ℕ) (ts : List Lexeme)
    (a : Role)
    → role limit w ts ≡ a
    → Leads (Start c limit stack (L.Word w q l ∷ ts)) (on_role c limit stack l (w ∷ []) ts a)
word_step c limit stack w q l ts a e =
    onward
    (subst (λ u. Leads u (on_role c limit stack l (w ∷ []) ts a))
    (sym (ap (on_role c limit stack l (w ∷ []) ts) e)) here)

compound_role :
    (limit : ℕ) (w : List ℕ) (k : ℕ) (ts : List Lexeme) → role limit w (L.OpenCt k ∷ ts) ≡ Compound
unfolding role
compound_role limit w k ts = refl

paren_step :
    (c : Bool) (limit : ℕ) (stack : List Frame) (x : Lexeme) (ts : List Lexeme)
    → is_paren x ≡ true
    → Leads (Start c limit stack (x ∷ ts))
    (Start false 1200 (InParen (line x) c limit ∷ stack) ts)
paren_step c limit stack (L.Open l) ts e = onward here
paren_step c limit stack (L.OpenCt l) ts e = onward here
paren_step c limit stack _ ts e = cc

is_list_close : List Lexeme → Bool
is_list_close (L.ListClose ∷ ts) = true
is_list_close _ = false

-- no term begins with the end of a list
begins :
    {c : Bool} {limit : ℕ} {ts r : List Lexeme} {p : Part Tree} → Reads c limit ts p r
    → is_list_close ts ≡ false
unfolding is_list_close
begins variable = refl
begins number = refl
begins string = refl
begins (negative e) = refl
begins (name e) = refl
begins (path e) = refl
begins (compound {k = k} {x = x} {ts = ts} e d) = go x e
  where
    go :
        (x : Lexeme) {ps : List (List ℕ)}
        → callee x ≡ Some ps → is_list_close (x ∷ L.OpenCt k ∷ ts) ≡ false
    go L.ListClose e = cc
    go _ e = refl
begins (paren {x = x} {ts = ts} e d h) = go x e
  where
    go : (x : Lexeme) → is_paren x ≡ true → is_list_close (x ∷ ts) ≡ false
    go L.ListClose e = cc
    go _ e = refl
begins nil = refl
begins (elements d) = refl
begins (tailed d e h) = refl
begins (prefix e d h) = refl
begins (quantified e d h j f g) = refl
begins (binary d j h i f g) = begins d
begins (chained d j h ps) = begins d

-- a list that isn't empty begins with a part
list_step :
    {s : Between} {c' : Bool} {m : ℕ} {ts r : List Lexeme} {ms : List Tree} (c : Bool) (limit : ℕ)
    (stack : List Frame) (l : ℕ)
    → Parts s c' m ts ms r
    → on_list c limit stack l ts ≡ Start true 1200 (InParts Elements l [] c limit ∷ stack) ts
unfolding is_list_close
list_step {ts = ts} c limit stack l d = go ts (first d)
  where
    first :
        {s : Between} {c' : Bool} {m : ℕ} {ts r : List Lexeme} {ms : List Tree}
        → Parts s c' m ts ms r → is_list_close ts ≡ false
    first (last e k) = begins e
    first (more e k z ps) = begins e

    go :
        (ts : List Lexeme)
        → is_list_close ts ≡ false
        → on_list c limit stack l ts ≡ Start true 1200 (InParts Elements l [] c limit ∷ stack) ts
    go (L.ListClose ∷ ts) e = cc
    go _ e = refl

list_leads :
    {s : Between} {c' : Bool} {m : ℕ} {ts r : List Lexeme} {ms : List Tree} (c : Bool) (limit : ℕ)
    (stack : List Frame) (l : ℕ)
    → Parts s c' m ts ms r
    → Leads (Start c limit stack (L.ListOpen l ∷ ts))
    (Start true 1200 (InParts Elements l [] c limit ∷ stack) ts)
list_leads {ts = ts} c limit stack l d =
    onward
    (subst (λ u. Leads u (Start true 1200 (InParts Elements l [] c limit ∷ stack) ts))
    (sym (list_step c limit stack l d)) here)

infix_close : (c : Bool) → joined_by c L.Close ≡ Nothing
unfolding joined_by
infix_close true = refl
infix_close false = refl

infix_list_close : (c : Bool) → joined_by c L.ListClose ≡ Nothing
unfolding joined_by
infix_list_close true = refl
infix_list_close false = refl

infix_bar : (c : Bool) → joined_by c L.Bar ≡ Nothing
unfolding joined_by
infix_bar true = refl
infix_bar false = refl

shut_by :
    (c : Bool) (x : Lexeme) (us : List Lexeme) (b : ℕ) (j : Infix)
    → joined_by c x ≡ j → ShutAt j b → Shut c (x ∷ us) b
shut_by c x us b j e h = subst (λ j. ShutAt j b) (sym e) h

binary_push :
    (c : Bool) (limit : ℕ) (p : Part Tree) (x : Lexeme) (us : List Lexeme) (n : ℕ) (ly ry : Bool)
    → joined_by c x ≡ Binary n ly ry → n ≤ limit → p.number ≤ operand ly n → p.reach < n
    → next c limit p (x ∷ us)
    ≡ Push c (operand ry n)
    (AtRight (line_of p.tree) (name_of x) n (operand ry n) p.tree c limit) us
binary_push c limit p x us n ly ry e h i j =
    ap (next_at c limit p x us) e
    ∙ ap
    (λ b.
    cond b
    (Push c (operand ry n)
    (AtRight (line_of p.tree) (name_of x) n (operand ry n) p.tree c limit) us) Stay)
    (both_true (le-leb n limit h)
    (both_true (le-leb p.number (operand ly n) i) (lt-ltb p.reach n j)))

chain_push :
    (c : Bool) (limit : ℕ) (p : Part Tree) (x : Lexeme) (us : List Lexeme) (k : Chain)
    → joined_by c x ≡ Chains k → rank k ≤ limit → p.number < rank k
    → next c limit p (x ∷ us)
    ≡ Push c (rank k - 1) (InParts (Chained k) (line_of p.tree) (p.tree ∷ []) c limit) us
chain_push c limit p x us k e h i =
    ap (next_at c limit p x us) e
    ∙ ap
    (λ b.
    cond b
    (Push c (rank k - 1) (InParts (Chained k) (line_of p.tree) (p.tree ∷ []) c limit) us)
    Stay) (both_true (le-leb (rank k) limit h) (lt-ltb p.number (rank k) i))

-- a chain ends where something else follows
chain_ends :
    (k : Chain) (l : ℕ) (ms : List Tree) (d : Bool) (outer : ℕ) (stack : List Frame) (c : Bool)
    (r : List Lexeme)
    → Shut c r (rank k)
    → parts (Chained k) l ms d outer stack c r
    ≡ Done d outer stack (over (rank k) (rank k) (made_chain k l ms)) r
chain_ends k l ms d outer stack c [] h = refl
chain_ends k l ms d outer stack c (x ∷ ts) h = go (joined_by c x) h
  where
    go :
        (j : Infix)
        → ShutAt j (rank k)
        → on_chain k l ms d outer stack c (x ∷ ts) j ts
        ≡ Done d outer stack (over (rank k) (rank k) (made_chain k l ms)) (x ∷ ts)
    go Nothing h = refl
    go (Binary n ly ry) h = refl
    go (Chains j) h = ap (λ b. cond b (Start c (rank k - 1) (InParts (Chained k) l ms d outer ∷ stack) ts) (Done d outer stack (over (rank k) (rank k) (made_chain k l ms)) (x ∷ ts))) (differ k j h)
      where
        differ : (k j : Chain) → rank k < rank j → same_chain k j ≡ false
        differ And And h = absurd (omega arith)
        differ And Or h = refl
        differ Or And h = refl
        differ Or Or h = absurd (omega arith)

rank_positive : (k : Chain) → 0 < rank k
rank_positive And = omega arith
rank_positive Or = omega arith

path_alone :
    (c : Bool) (limit : ℕ) (stack : List Frame) (l : ℕ) (ps : List (List ℕ)) (r : List Lexeme)
    → is_open_ct r ≡ false
    → on_path c limit stack l ps r ≡ Done c limit stack (closed (App l ps (trees []))) r
path_alone c limit stack l ps (L.OpenCt k ∷ r) e = cc
path_alone c limit stack l ps _ e = refl

call_step :
    (c : Bool) (limit : ℕ) (stack : List Frame) (x : Lexeme) (ps : List (List ℕ)) (k : ℕ)
    (ts : List Lexeme)
    → callee x ≡ Some ps
    → Leads (Start c limit stack (x ∷ L.OpenCt k ∷ ts))
    (Start true 1200 (InParts (Arguments ps) (line x) [] c limit ∷ stack) ts)
call_step c limit stack (L.Word w q l) ps k ts e =
    let names : w ∷ [] ≡ ps = cc in
    subst
    (λ ps.
    Leads (Start c limit stack (L.Word w q l ∷ L.OpenCt k ∷ ts))
    (Start true 1200 (InParts (Arguments ps) l [] c limit ∷ stack) ts)) names
    (word_step c limit stack w q l (L.OpenCt k ∷ ts) Compound (compound_role limit w k ts))
call_step c limit stack (L.Path qs l) ps k ts e =
    let names : qs ≡ ps = cc in
    subst
    (λ ps.
    Leads (Start c limit stack (L.Path qs l ∷ L.OpenCt k ∷ ts))
    (Start true 1200 (InParts (Arguments ps) l [] c limit ∷ stack) ts)) names (onward here)
call_step c limit stack _ ps k ts e = cc

pub chain_is : (k : Chain) (l : ℕ) (ms : List Tree) → made_chain k l ms ≡ chain k l ms
chain_is And l ms = refl
chain_is Or l ms = refl

mutual
  pub complete :
      {c : Bool} {limit : ℕ} {ts r : List Lexeme} {p : Part Tree} → Reads c limit ts p r
      → (stack : List Frame) → p.number ≤ limit → Shut c r p.reach
      → Leads (Start c limit stack ts) (Done c limit stack p r)
  complete variable stack h s = onward here
  complete number stack h s = onward here
  complete string stack h s = onward here
  complete (negative {l = l} {w = w} {q = q} {r = r} e) stack h s = word_step _ _ stack w q l _ _ e
  complete (name {l = l} {w = w} {q = q} {r = r} e) stack h s = word_step _ _ stack w q l r _ e
  complete (path {c = c} {limit = limit} {l = l} {ps = ps} {r = r} e) stack h s =
      onward
      (subst (λ u. Leads u (Done c limit stack (closed (App l ps (trees []))) r))
      (sym (path_alone c limit stack l ps r e)) here)
  complete (compound {c = c} {limit = limit} {k = k} {x = x} {ps = ps} {ts = ts} {r = r} e d) stack h s =
      then (call_step c limit stack x ps k ts e)
      (complete_parts d sorted_arguments (line x) [] c limit stack
      (shut_by true L.Close r 1200 Nothing (infix_close true) tt))
  complete (paren {c = c} {limit = limit} {x = x} {ts = ts} {r = r} {p = p} e d k) stack h s =
      then (paren_step c limit stack x ts e)
      (then (complete d (InParen (line x) c limit ∷ stack) k (shut_by false L.Close r p.reach Nothing (infix_close false) tt))
      (stay_step false 1200 (InParen (line x) c limit ∷ stack) p (L.Close ∷ r) (shut_by false L.Close r 1200 Nothing (infix_close false) tt) _ refl))
  complete nil stack h s = onward here
  complete (elements {c = c} {limit = limit} {l = l} {ts = ts} {r = r} ps) stack h s =
      then (list_leads c limit stack l ps)
      (complete_parts ps sorted_elements l [] c limit stack
      (shut_by true L.ListClose r 1200 Nothing (infix_list_close true) tt))
  complete (tailed {c = c} {limit = limit} {l = l} {ts = ts} {us = us} {r = r} {es = es} {p = p} ps d k) stack h s =
      then (list_leads c limit stack l ps)
      (then (complete_parts ps sorted_elements l [] c limit stack (shut_by true L.Bar us 1200 Nothing (infix_bar true) tt))
      (then (complete d (InTail l es c limit ∷ stack) k (shut_by true L.ListClose r p.reach Nothing (infix_list_close true) tt))
      (stay_step true 1200 (InTail l es c limit ∷ stack) p (L.ListClose ∷ r) (shut_by true L.ListClose r 1200 Nothing (infix_list_close true) tt) _ refl)))
  complete (prefix {c = c} {limit = limit} {n = n} {m = m} {l = l} {w = w} {q = q} {ts = ts} {r = r} {p = p} e d k) stack h s =
      let low : p.reach ≤ p.number = reach_below d in
      then (word_step c limit stack w q l ts _ e)
      (then (complete d (AtOperand l (w ∷ []) n m c limit ∷ stack) k (shut_below c r p.reach m (omega arith) s))
      (stay_step c m (AtOperand l (w ∷ []) n m c limit ∷ stack) p r s _ refl))
  complete (quantified {c = c} {limit = limit} {n = n} {l = v} {w = w} {q = q} {x = x} {ts = ts} {us = us} {r = r} {a = a} {b = b} e d k j f l) stack h s =
      let low : b.reach ≤ b.number = reach_below f in
      then (word_step c limit stack w q v ts _ e)
      (then (complete d (AtFirst v (w ∷ []) n c limit ∷ stack) k (shut_by c x us a.reach Nothing j tt))
      (then (stay_step c (n - 1) (AtFirst v (w ∷ []) n c limit ∷ stack) a (x ∷ us) (shut_by c x us (n - 1) Nothing j tt) (Start c n (AtSecond v (w ∷ []) n a.tree c limit ∷ stack) (x ∷ us)) (ap (second c n v a.tree (w ∷ []) c limit stack (x ∷ us)) j))
      (then (complete f (AtSecond v (w ∷ []) n a.tree c limit ∷ stack) l (shut_below c r b.reach n (omega arith) s))
      (stay_step c n (AtSecond v (w ∷ []) n a.tree c limit ∷ stack) b r s _ refl))))
  complete (binary {c = c} {limit = limit} {n = n} {x = x} {ly = ly} {ry = ry} {ts = ts} {us = us} {r = r} {a = a} {b = b} d j k i f l) stack h s =
      let low : b.reach ≤ b.number = reach_below f in
      let left : operand ly n ≤ n = operand_below ly n in
      then (complete d stack (omega arith) (shut_by c x us a.reach (Binary n ly ry) j i))
      (then (push_step c limit stack a (x ∷ us) _ _ _ _ (binary_push c limit a x us n ly ry j h k i))
      (then (complete f (AtRight (line_of a.tree) (name_of x) n (operand ry n) a.tree c limit ∷ stack) l (shut_below c r b.reach (operand ry n) (omega arith) s))
      (stay_step c (operand ry n) (AtRight (line_of a.tree) (name_of x) n (operand ry n) a.tree c limit ∷ stack) b r s _ refl)))
  complete (chained {c = c} {limit = limit} {k = k} {x = x} {ts = ts} {us = us} {r = r} {a = a} {ms = ms} d j i ps) stack h s =
      let low : a.reach ≤ a.number = reach_below d in
      let some : 0 < rank k = rank_positive k in
      then (complete d stack (omega arith) (shut_by c x us a.reach (Chains k) j (omega arith)))
      (then (push_step c limit stack a (x ∷ us) _ _ _ _ (chain_push c limit a x us k j h i))
      (subst (Leads (Start c (rank k - 1) (InParts (Chained k) (line_of a.tree) (a.tree ∷ []) c limit ∷ stack) us))
      (chain_ends k (line_of a.tree) (a.tree ∷ ms) c limit stack c r s ∙ ap
      (λ t. Done c limit stack (over (rank k) (rank k) t) r)
      (chain_is k (line_of a.tree) (a.tree ∷ ms)))
      (complete_parts ps (sorted_chain (omega arith) refl) (line_of a.tree) (a.tree ∷ []) c limit stack (shut_below c r (rank k - 1) (rank k) (omega arith) s))))

  pub complete_parts :
      {b : Between} {c : Bool} {limit : ℕ} {ts r : List Lexeme} {ms : List Tree}
      → Parts b c limit ts ms r → {s : Series} → Sorted s b c limit
      → (l : ℕ) (before : List Tree) (d : Bool) (outer : ℕ) (stack : List Frame) → Shut c r limit
      → Leads (Start c limit (InParts s l before d outer ∷ stack) ts)
      (parts s l (before ++ ms) d outer stack c r)
  complete_parts (last {c = c} {limit = limit} {r = r} {p = p} e k) {s} so l before d outer stack h =
      let low : p.reach ≤ p.number = reach_below e in
      then
      (complete e (InParts s l before d outer ∷ stack) k
      (shut_below c r p.reach limit (omega arith) h))
      (stay_step c limit (InParts s l before d outer ∷ stack) p r h _ refl)
  complete_parts (more {c = c} {limit = limit} {x = x} {us = us} {r = r} {p = p} {ms = ms} e k z ps) {s} so l before d outer stack h =
      let low : p.reach ≤ p.number = reach_below e in
      let shut = separator_shut so x us z in
      then
      (complete e (InParts s l before d outer ∷ stack) k
      (shut_below c (x ∷ us) p.reach limit (omega arith) shut))
      (then (stay_step c limit (InParts s l before d outer ∷ stack) p (x ∷ us) shut _ (separated so x us z l (before ++ (p.tree ∷ [])) d outer stack))
      (subst (λ ms. Leads (Start c limit (InParts s l (before ++ (p.tree ∷ [])) d outer ∷ stack) us) (parts s l ms d outer stack c r)) (joined_rows before (p.tree ∷ []) ms)
      (complete_parts ps so l (before ++ (p.tree ∷ [])) d outer stack h)))
