-- A machine with a stack that reads a term from its tokens, one step a token or a frame. It
-- makes values of T for terms and of R for terms in a row, as a Making says.
use Rattle.std.specs.Prelude.{ℕ, ◌-◌, Bool, true, false, ◌&&◌, nat_le, nat_lt, List, [], ◌∷◌, if◌then◌else◌}
use Rattle.mc_term_parser.specs.declared.lexeme.Lexeme.{Lexeme}
use Rattle.mc_term_parser.specs.declared.lexeme.Lexeme.TheVariants as L
use Rattle.mc_term_parser.specs.declared.infixes.Chain.{Chain}
use Rattle.mc_term_parser.specs.declared.infixes.Chain.TheVariants.{And, Or}
use Rattle.mc_term_parser.specs.declared.infixes.Infix.{Infix}
use Rattle.mc_term_parser.specs.declared.infixes.Infix.TheVariants.{Nothing, Binary, Chains}
use Rattle.mc_term_parser.specs.declared.infixes.Role.{Role}
use Rattle.mc_term_parser.specs.declared.infixes.Role.TheVariants.{Compound, Negative, Single, Double, Plain}
use Rattle.mc_term_parser.specs.declared.frame.Series.{Series}
use Rattle.mc_term_parser.specs.declared.frame.Series.TheVariants.{Arguments, Elements, Chained}
use Rattle.mc_term_parser.specs.Part.{Part, closed, over}
use Rattle.mc_term_parser.specs.Infixes.{operand, rank, joined_by, name_of, role}

-- how values are made for what is read, by the line of the first token
pub record Making (T R : Type 0) : Type 0 where
  pub var : ℕ → List ℕ → T
  pub int : ℕ → ℕ → T
  pub neg : ℕ → ℕ → T
  pub str : ℕ → List ℕ → T
  pub app : ℕ → List (List ℕ) → R → T
  pub items : ℕ → R → T
  pub tailed : ℕ → R → T → T
  pub conj : ℕ → R → T
  pub disj : ℕ → R → T
  pub inside : ℕ → T → T
  pub line : T → ℕ
  pub none : R
  pub more : R → T → R

-- What waits for a part; each frame ends with the context outside it.
pub data Frame (T R : Type 0) : Type 0 where
  AtRight : (l : ℕ) (w : List (List ℕ)) (n m : ℕ) (left : T) (c : Bool) (limit : ℕ) → Frame T R
  AtOperand : (l : ℕ) (w : List (List ℕ)) (n m : ℕ) (c : Bool) (limit : ℕ) → Frame T R
  AtFirst : (l : ℕ) (w : List (List ℕ)) (n : ℕ) (c : Bool) (limit : ℕ) → Frame T R
  AtSecond : (l : ℕ) (w : List (List ℕ)) (n : ℕ) (left : T) (c : Bool) (limit : ℕ) → Frame T R
  InParen : (l : ℕ) (c : Bool) (limit : ℕ) → Frame T R
  InParts : Series → (l : ℕ) (before : R) (c : Bool) (limit : ℕ) → Frame T R
  InTail : (l : ℕ) (before : R) (c : Bool) (limit : ℕ) → Frame T R

pub data State (T R : Type 0) : Type 0 where
  Start : (c : Bool) (limit : ℕ) → List (Frame T R) → List Lexeme → State T R
  Done : (c : Bool) (limit : ℕ) → List (Frame T R) → Part T → List Lexeme → State T R
  Yes : Part T → State T R
  No : State T R

-- what stands next, with the tokens behind it
pub data Next (T R : Type 0) : Type 0 where
  Push : (c : Bool) (limit : ℕ) → Frame T R → List Lexeme → Next T R
  Stay : Next T R

abbrev pub same_chain : Chain → Chain → Bool
same_chain And And = true
same_chain Or Or = true
same_chain _ _ = false

abbrev pub finish : {T R : Type 0} → Part T → List Lexeme → State T R
finish p [] = Yes p
finish p (t ∷ ts) = No

abbrev pub turn : {T R : Type 0} → Next T R → List (Frame T R) → State T R → State T R
turn (Push c limit f ts) stack other = Start c limit (f ∷ stack) ts
turn Stay stack other = other

module _ {T R : Type 0} (A : Making T R) where
  abbrev pub one : T → R
  one t = A.more A.none t

  abbrev pub two : T → T → R
  two t u = A.more (one t) u

  -- a name where a term starts, with the tokens after it
  abbrev pub on_negative : Bool → ℕ → List (Frame T R) → ℕ → ℕ → List Lexeme → State T R
  on_negative c limit stack l n (t ∷ ts) = Done c limit stack (closed (A.neg l n)) ts
  on_negative c limit stack l n [] = No

  abbrev pub on_compound : Bool → ℕ → List (Frame T R) → ℕ → List (List ℕ) → List Lexeme → State T R
  on_compound c limit stack l w (t ∷ ts) =
      Start true 1200 (InParts (Arguments w) l A.none c limit ∷ stack) ts
  on_compound c limit stack l w [] = No

  abbrev pub on_role :
      Bool → ℕ → List (Frame T R) → ℕ → List (List ℕ) → List Lexeme → Role → State T R
  on_role c limit stack l w ts Compound = on_compound c limit stack l w ts
  on_role c limit stack l w ts (Negative n) = on_negative c limit stack l n ts
  on_role c limit stack l w ts (Single n m) = Start c m (AtOperand l w n m c limit ∷ stack) ts
  on_role c limit stack l w ts (Double n) = Start c (n - 1) (AtFirst l w n c limit ∷ stack) ts
  on_role c limit stack l w ts Plain = Done c limit stack (closed (A.app l w A.none)) ts

  abbrev pub on_path : Bool → ℕ → List (Frame T R) → ℕ → List (List ℕ) → List Lexeme → State T R
  on_path c limit stack l ps (L.OpenCt k ∷ ts) =
      Start true 1200 (InParts (Arguments ps) l A.none c limit ∷ stack) ts
  on_path c limit stack l ps ts = Done c limit stack (closed (A.app l ps A.none)) ts

  abbrev pub on_list : Bool → ℕ → List (Frame T R) → ℕ → List Lexeme → State T R
  on_list c limit stack l (L.ListClose ∷ ts) = Done c limit stack (closed (A.items l A.none)) ts
  on_list c limit stack l ts = Start true 1200 (InParts Elements l A.none c limit ∷ stack) ts

  abbrev pub start : Bool → ℕ → List (Frame T R) → List Lexeme → State T R
  start c limit stack (L.Word w q l ∷ ts) = on_role c limit stack l (w ∷ []) ts (role limit w ts)
  start c limit stack (L.Path ps l ∷ ts) = on_path c limit stack l ps ts
  start c limit stack (L.Var v l ∷ ts) = Done c limit stack (closed (A.var l v)) ts
  start c limit stack (L.Int n l ∷ ts) = Done c limit stack (closed (A.int l n)) ts
  start c limit stack (L.Str s l ∷ ts) = Done c limit stack (closed (A.str l s)) ts
  start c limit stack (L.Open l ∷ ts) = Start false 1200 (InParen l c limit ∷ stack) ts
  start c limit stack (L.OpenCt l ∷ ts) = Start false 1200 (InParen l c limit ∷ stack) ts
  start c limit stack (L.ListOpen l ∷ ts) = on_list c limit stack l ts
  start c limit stack _ = No

  abbrev pub next_at : Bool → ℕ → Part T → Lexeme → List Lexeme → Infix → Next T R
  next_at c limit p x ts Nothing = Stay
  next_at c limit p x ts (Binary n ly ry) =
      if nat_le n limit && (nat_le p.number (operand ly n) && nat_lt p.reach n)
      then Push c (operand ry n)
      (AtRight (A.line p.tree) (name_of x) n (operand ry n) p.tree c limit) ts
      else Stay
  next_at c limit p x ts (Chains k) =
      if nat_le (rank k) limit && nat_lt p.number (rank k)
      then Push c (rank k - 1) (InParts (Chained k) (A.line p.tree) (one p.tree) c limit) ts
      else Stay

  abbrev pub next : Bool → ℕ → Part T → List Lexeme → Next T R
  next c limit p [] = Stay
  next c limit p (x ∷ ts) = next_at c limit p x ts (joined_by c x)

  abbrev pub chain : Chain → ℕ → R → T
  chain And l ms = A.conj l ms
  chain Or l ms = A.disj l ms

  abbrev pub on_chain :
      Chain → ℕ → R → Bool → ℕ → List (Frame T R) → Bool → List Lexeme → Infix → List Lexeme
      → State T R
  on_chain k l ms d outer stack c ts (Chains j) us =
      if same_chain k j then Start c (rank k - 1) (InParts (Chained k) l ms d outer ∷ stack) us
      else Done d outer stack (over (rank k) (rank k) (chain k l ms)) ts
  on_chain k l ms d outer stack c ts _ us =
      Done d outer stack (over (rank k) (rank k) (chain k l ms)) ts

  -- a part of a list of parts is read: ms are the parts so far
  abbrev pub parts : Series → ℕ → R → Bool → ℕ → List (Frame T R) → Bool → List Lexeme → State T R
  parts (Arguments w) l ms d outer stack c (L.Comma ∷ ts) =
      Start true 1200 (InParts (Arguments w) l ms d outer ∷ stack) ts
  parts (Arguments w) l ms d outer stack c (L.Close ∷ ts) =
      Done d outer stack (closed (A.app l w ms)) ts
  parts (Arguments w) l ms d outer stack c _ = No
  parts Elements l ms d outer stack c (L.Comma ∷ ts) =
      Start true 1200 (InParts Elements l ms d outer ∷ stack) ts
  parts Elements l ms d outer stack c (L.ListClose ∷ ts) =
      Done d outer stack (closed (A.items l ms)) ts
  parts Elements l ms d outer stack c (L.Bar ∷ ts) =
      Start true 1200 (InTail l ms d outer ∷ stack) ts
  parts Elements l ms d outer stack c _ = No
  parts (Chained k) l ms d outer stack c [] =
      Done d outer stack (over (rank k) (rank k) (chain k l ms)) []
  parts (Chained k) l ms d outer stack c (x ∷ ts) =
      on_chain k l ms d outer stack c (x ∷ ts) (joined_by c x) ts

  abbrev pub second :
      Bool → ℕ → ℕ → T → List (List ℕ) → Bool → ℕ → List (Frame T R) → List Lexeme → Infix
      → State T R
  second c n l t w d outer stack ts Nothing = Start c n (AtSecond l w n t d outer ∷ stack) ts
  second c n l t w d outer stack ts _ = No

  abbrev pub at_first :
      Bool → ℕ → ℕ → T → List (List ℕ) → Bool → ℕ → List (Frame T R) → List Lexeme → State T R
  at_first c n l t w d outer stack [] = No
  at_first c n l t w d outer stack (x ∷ ts) =
      second c n l t w d outer stack (x ∷ ts) (joined_by c x)

  abbrev pub after_paren : Bool → ℕ → List (Frame T R) → ℕ → T → List Lexeme → State T R
  after_paren d outer stack l t (L.Close ∷ ts) = Done d outer stack (closed (A.inside l t)) ts
  after_paren d outer stack l t _ = No

  abbrev pub after_tail : Bool → ℕ → List (Frame T R) → ℕ → R → T → List Lexeme → State T R
  after_tail d outer stack l es t (L.ListClose ∷ ts) =
      Done d outer stack (closed (A.tailed l es t)) ts
  after_tail d outer stack l es t _ = No

  -- the part ends here
  abbrev pub reduce : Bool → List (Frame T R) → Part T → List Lexeme → State T R
  reduce c [] p ts = finish p ts
  reduce c (AtRight l w n m t d outer ∷ stack) p ts =
      Done d outer stack (over n m (A.app l w (two t p.tree))) ts
  reduce c (AtOperand l w n m d outer ∷ stack) p ts =
      Done d outer stack (over n m (A.app l w (one p.tree))) ts
  reduce c (AtFirst l w n d outer ∷ stack) p ts = at_first c n l p.tree w d outer stack ts
  reduce c (AtSecond l w n t d outer ∷ stack) p ts =
      Done d outer stack (over n n (A.app l w (two t p.tree))) ts
  reduce c (InParen l d outer ∷ stack) p ts = after_paren d outer stack l p.tree ts
  reduce c (InParts s l ms d outer ∷ stack) p ts = parts s l (A.more ms p.tree) d outer stack c ts
  reduce c (InTail l es d outer ∷ stack) p ts = after_tail d outer stack l es p.tree ts

  abbrev pub step : State T R → State T R
  step (Start c limit stack ts) = start c limit stack ts
  step (Done c limit stack p ts) = turn (next c limit p ts) stack (reduce c stack p ts)
  step (Yes p) = Yes p
  step No = No
