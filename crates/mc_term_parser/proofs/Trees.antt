-- The machine as it makes trees.
use Rattle.std.proofs.Common.{◌≡◌, ℕ, Bool, List, [], ◌∷◌, ◌++◌, refl, ap}
use Rattle.mc_term_parser.specs.declared.lexeme.Lexeme.{Lexeme}
use Rattle.mc_term_parser.specs.declared.infixes.Chain.{Chain}
use Rattle.mc_term_parser.specs.declared.infixes.Infix.{Infix}
use Rattle.mc_term_parser.specs.declared.infixes.Role.{Role}
use Rattle.mc_term_parser.specs.declared.frame.Series.{Series}
use Rattle.mc_term_parser.specs.Part.{Part}
use Rattle.mc_term_parser.specs.Tree.{Tree, trees, line_of}
use Rattle.mc_term_parser.specs.Tree as T
use Rattle.mc_term_parser.specs.code.Machine as M
use Rattle.mc_term_parser.specs.code.Machine.{Making}
use Rattle.mc_term_parser.specs.code.Leads as Run

abbrev pub tree_making : Making Tree (List Tree)
tree_making = record {
  var = T.Var;
  int = T.Int;
  neg = T.Neg;
  str = T.Str;
  app = λ l w ts. T.App l w (trees ts);
  items = λ l ts. T.Items l (trees ts);
  tailed = λ l ts t. T.Tailed l (trees ts) t;
  conj = λ l ts. T.Conj l (trees ts);
  disj = λ l ts. T.Disj l (trees ts);
  inside = T.Inside;
  line = line_of;
  none = [];
  more = λ ts t. ts ++ t ∷ [];
}

abbrev pub Frame : Type 0
Frame = M.Frame Tree (List Tree)

abbrev pub State : Type 0
State = M.State Tree (List Tree)

abbrev pub Next : Type 0
Next = M.Next Tree (List Tree)

abbrev pub Leads : State → State → Type 0
Leads = Run.Leads tree_making

pub here : {s : State} → Leads s s
here = Run.here

pub onward : {s t : State} → Leads (M.step tree_making s) t → Leads s t
onward d = Run.onward d

pub then : {s t u : State} → Leads s t → Leads t u → Leads s u
then Run.here e = e
then (Run.onward d) e = Run.onward (then d e)

abbrev pub step : State → State
step = M.step tree_making

abbrev pub start : Bool → ℕ → List Frame → List Lexeme → State
start = M.start tree_making

abbrev pub on_role : Bool → ℕ → List Frame → ℕ → List (List ℕ) → List Lexeme → Role → State
on_role = M.on_role tree_making

abbrev pub on_compound : Bool → ℕ → List Frame → ℕ → List (List ℕ) → List Lexeme → State
on_compound = M.on_compound tree_making

abbrev pub on_negative : Bool → ℕ → List Frame → ℕ → ℕ → List Lexeme → State
on_negative = M.on_negative tree_making

abbrev pub on_path : Bool → ℕ → List Frame → ℕ → List (List ℕ) → List Lexeme → State
on_path = M.on_path tree_making

abbrev pub on_list : Bool → ℕ → List Frame → ℕ → List Lexeme → State
on_list = M.on_list tree_making

abbrev pub next_at : Bool → ℕ → Part Tree → Lexeme → List Lexeme → Infix → Next
next_at = M.next_at tree_making

abbrev pub next : Bool → ℕ → Part Tree → List Lexeme → Next
next = M.next tree_making

abbrev pub made_chain : Chain → ℕ → List Tree → Tree
made_chain = M.chain tree_making

abbrev pub on_chain :
    Chain → ℕ → List Tree → Bool → ℕ → List Frame → Bool → List Lexeme → Infix → List Lexeme → State
on_chain = M.on_chain tree_making

abbrev pub parts : Series → ℕ → List Tree → Bool → ℕ → List Frame → Bool → List Lexeme → State
parts = M.parts tree_making

abbrev pub second :
    Bool → ℕ → ℕ → Tree → List (List ℕ) → Bool → ℕ → List Frame → List Lexeme → Infix → State
second = M.second tree_making

abbrev pub at_first :
    Bool → ℕ → ℕ → Tree → List (List ℕ) → Bool → ℕ → List Frame → List Lexeme → State
at_first = M.at_first tree_making

abbrev pub after_paren : Bool → ℕ → List Frame → ℕ → Tree → List Lexeme → State
after_paren = M.after_paren tree_making

abbrev pub after_tail : Bool → ℕ → List Frame → ℕ → List Tree → Tree → List Lexeme → State
after_tail = M.after_tail tree_making

abbrev pub reduce : Bool → List Frame → Part Tree → List Lexeme → State
reduce = M.reduce tree_making

pub joined_rows : (a b d : List Tree) → (a ++ b) ++ d ≡ a ++ (b ++ d)
joined_rows [] b d = refl
joined_rows (t ∷ a) b d = ap (λ ts. t ∷ ts) (joined_rows a b d)
