-- The terms that stand for a list of tokens (the Mercury manual, Terms; this project's profile).
use Rattle.std.specs.Prelude.{◌≡◌, ℕ, ◌<◌, ◌≤◌, ◌-◌, Bool, true, false, List, [], ◌∷◌, Some}
use Rattle.mc_term_parser.specs.declared.lexeme.Lexeme.{Lexeme}
use Rattle.mc_term_parser.specs.declared.lexeme.Lexeme.TheVariants as L
use Rattle.mc_term_parser.specs.declared.infixes.Chain.{Chain}
use Rattle.mc_term_parser.specs.declared.infixes.Chain.TheVariants.{And, Or}
use Rattle.mc_term_parser.specs.declared.infixes.Infix.TheVariants.{Nothing, Binary, Chains}
use Rattle.mc_term_parser.specs.declared.infixes.Role.TheVariants.{Negative, Single, Double, Plain}
use Rattle.mc_term_parser.specs.Infixes.{operand, rank, joined_by, name_of, role, callee, is_open_ct, is_paren, line}
use Rattle.mc_term_parser.specs.Part.{Part, closed, over}
use Rattle.mc_term_parser.specs.Tree.{Tree, Var, Int, Neg, Str, App, Items, Tailed, Conj, Disj, Inside, trees, line_of}

abbrev pub chain : Chain → ℕ → List Tree → Tree
chain And l ts = Conj l (trees ts)
chain Or l ts = Disj l (trees ts)

-- what stands between the parts of a list of parts
pub data Between : Type 0 where
  ByComma : Between
  ByChain : Chain → Between

-- Where parts are separated: by a Comma token, or by the separator of the chain.
abbrev pub Separates : Between → Bool → Lexeme → Type 0
Separates ByComma c x = x ≡ L.Comma
Separates (ByChain k) c x = joined_by c x ≡ Chains k

mutual
  -- Reads c limit ts p rest: the tokens ts begin with those of the part p, and rest is left. Where
  -- a term starts here, prefix operators up to limit are prefix. Under c a comma ends the term.
  pub data Reads : Bool → ℕ → List Lexeme → Part Tree → List Lexeme → Type 0 where
    variable :
        {c : Bool} {limit l : ℕ} {w : List ℕ} {r : List Lexeme}
        → Reads c limit (L.Var w l ∷ r) (closed (Var l w)) r
    number :
        {c : Bool} {limit n l : ℕ} {r : List Lexeme}
        → Reads c limit (L.Int n l ∷ r) (closed (Int l n)) r
    string :
        {c : Bool} {limit l : ℕ} {s : List ℕ} {r : List Lexeme}
        → Reads c limit (L.Str s l ∷ r) (closed (Str l s)) r
    negative : {c : Bool} {limit n l k : ℕ} {w : List ℕ} {q : Bool} {r : List Lexeme} →
        role limit w (L.Int n k ∷ r) ≡ Negative n
        → Reads c limit (L.Word w q l ∷ L.Int n k ∷ r) (closed (Neg l n)) r
    name : {c : Bool} {limit l : ℕ} {w : List ℕ} {q : Bool} {r : List Lexeme} →
        role limit w r ≡ Plain
        → Reads c limit (L.Word w q l ∷ r) (closed (App l (w ∷ []) (trees []))) r
    path : {c : Bool} {limit l : ℕ} {ps : List (List ℕ)} {r : List Lexeme} →
        is_open_ct r ≡ false → Reads c limit (L.Path ps l ∷ r) (closed (App l ps (trees []))) r
    compound : {c : Bool} {limit k : ℕ} {x : Lexeme} {ps : List (List ℕ)} {ts r : List Lexeme}
        {ms : List Tree} →
        callee x ≡ Some ps → Parts ByComma true 1200 ts ms (L.Close ∷ r) →
        Reads c limit (x ∷ L.OpenCt k ∷ ts) (closed (App (line x) ps (trees ms))) r
    paren : {c : Bool} {limit : ℕ} {x : Lexeme} {ts r : List Lexeme} {p : Part Tree} →
        is_paren x ≡ true → Reads false 1200 ts p (L.Close ∷ r) → p.number ≤ 1200 →
        Reads c limit (x ∷ ts) (closed (Inside (line x) p.tree)) r
    nil :
        {c : Bool} {limit l : ℕ} {r : List Lexeme}
        → Reads c limit (L.ListOpen l ∷ L.ListClose ∷ r) (closed (Items l (trees []))) r
    elements : {c : Bool} {limit l : ℕ} {ts r : List Lexeme} {es : List Tree} →
        Parts ByComma true 1200 ts es (L.ListClose ∷ r)
        → Reads c limit (L.ListOpen l ∷ ts) (closed (Items l (trees es))) r
    tailed : {c : Bool} {limit l : ℕ} {ts us r : List Lexeme} {es : List Tree} {p : Part Tree} →
        Parts ByComma true 1200 ts es (L.Bar ∷ us) → Reads true 1200 us p (L.ListClose ∷ r)
        → p.number ≤ 1200 →
        Reads c limit (L.ListOpen l ∷ ts) (closed (Tailed l (trees es) p.tree)) r
    prefix : {c : Bool} {limit n m l : ℕ} {w : List ℕ} {q : Bool} {ts r : List Lexeme}
        {p : Part Tree} →
        role limit w ts ≡ Single n m → Reads c m ts p r → p.number ≤ m →
        Reads c limit (L.Word w q l ∷ ts) (over n m (App l (w ∷ []) (trees (p.tree ∷ [])))) r
    quantified : {c : Bool} {limit n l : ℕ} {w : List ℕ} {q : Bool} {x : Lexeme}
        {ts us r : List Lexeme} {a b : Part Tree} →
        role limit w ts ≡ Double n → Reads c (n - 1) ts a (x ∷ us) → a.number ≤ n - 1
        → joined_by c x ≡ Nothing →
        Reads c n (x ∷ us) b r → b.number ≤ n →
        Reads c limit (L.Word w q l ∷ ts) (over n n (App l (w ∷ []) (trees (a.tree ∷ b.tree ∷ []))))
        r
    binary : {c : Bool} {limit n : ℕ} {x : Lexeme} {ly ry : Bool} {ts us r : List Lexeme}
        {a b : Part Tree} →
        Reads c limit ts a (x ∷ us) → joined_by c x ≡ Binary n ly ry → a.number ≤ operand ly n
        → a.reach < n →
        Reads c (operand ry n) us b r → b.number ≤ operand ry n →
        Reads c limit ts
        (over n (operand ry n) (App (line_of a.tree) (name_of x) (trees (a.tree ∷ b.tree ∷ []))))
        r
    chained : {c : Bool} {limit : ℕ} {k : Chain} {x : Lexeme} {ts us r : List Lexeme}
        {a : Part Tree} {ms : List Tree} →
        Reads c limit ts a (x ∷ us) → joined_by c x ≡ Chains k → a.number < rank k →
        Parts (ByChain k) c (rank k - 1) us ms r →
        Reads c limit ts (over (rank k) (rank k) (chain k (line_of a.tree) (a.tree ∷ ms))) r

  -- one part or more
  pub data Parts : Between → Bool → ℕ → List Lexeme → List Tree → List Lexeme → Type 0 where
    last : {s : Between} {c : Bool} {limit : ℕ} {ts r : List Lexeme} {p : Part Tree} →
        Reads c limit ts p r → p.number ≤ limit → Parts s c limit ts (p.tree ∷ []) r
    more : {s : Between} {c : Bool} {limit : ℕ} {x : Lexeme} {ts us r : List Lexeme}
        {p : Part Tree} {ms : List Tree} →
        Reads c limit ts p (x ∷ us) → p.number ≤ limit → Separates s c x → Parts s c limit us ms r →
        Parts s c limit ts (p.tree ∷ ms) r

-- The tokens of a whole item stand for the term, up to a greatest number.
abbrev pub ReadsTerm : List Lexeme → Tree → ℕ → Type 0
ReadsTerm ts t limit =
    (p : Part Tree) × Reads false limit ts p [] × (p.number ≤ limit) × (p.tree ≡ t)
