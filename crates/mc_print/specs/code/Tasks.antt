-- What is still to be written, the next last: its text, and that less is left.
use Rattle.std.specs.Prelude.{◌≡◌, ℕ, suc, ◌+◌, ◌<◌, ◌≤◌, List, [], ◌∷◌, ◌++◌, Bool, true, false, codes, length, ⊤}
use Rattle.mc_program.specs.Values.{Val, con, Vals, no_vals, val_then, vals, plain_value}
use Rattle.mc_program.specs.Printed.{SymbolsBelow, AllSymbolsBelow, names_of}
use Rattle.mc_program.specs.declared.program.Program.{Program}
use Rattle.mc_print.specs.code.Places.{at_place, fronts_text}
use Rattle.mc_print.specs.declared.value.Place.{Place}
use Rattle.mc_print.specs.declared.value.Place.TheVariants.{Whole, Tail}
use Rattle.mc_print.specs.declared.value.Task.{Task}
use Rattle.mc_print.specs.declared.value.Task.TheVariants as T

abbrev pub task_text : List (List ℕ) → Task → List ℕ
task_text names (T.Value place v) = at_place names place (plain_value v.now)
task_text names T.Separator = codes ", "
task_text names (T.Close byte) = byte ∷ []

abbrev pub pending : List (List ℕ) → List Task → List ℕ
pending names [] = []
pending names (t ∷ ts) = pending names ts ++ task_text names t

abbrev mutual
  -- a value, its arguments, and what stands after each of them
  pub heft : Val → ℕ
  heft (con symbol args) = suc (hefts args)
  heft _ = 1

  pub hefts : Vals → ℕ
  hefts no_vals = 0
  hefts (val_then v vs) = suc (heft v + hefts vs)

abbrev pub task_weight : Task → ℕ
task_weight (T.Value place v) = heft (plain_value v.now)
task_weight T.Separator = 1
task_weight (T.Close byte) = 1

abbrev pub weight : List Task → ℕ
weight [] = 0
weight (t ∷ ts) = weight ts + task_weight t

-- each symbol of what is to be written is below n
abbrev pub IsNamed : ℕ → Task → Type 0
IsNamed n (T.Value place v) = SymbolsBelow n (plain_value v.now)
IsNamed n T.Separator = ⊤
IsNamed n (T.Close byte) = ⊤

abbrev pub AreNamed : ℕ → List Task → Type 0
AreNamed n [] = ⊤
AreNamed n (t ∷ ts) = IsNamed n t × AreNamed n ts

-- what stands after an argument that isn't the last, and after the last one
abbrev pub separators : Bool → List Task
separators true = []
separators false = T.Separator ∷ []

abbrev pub closings : Place → Bool → List Task
closings Whole true = T.Close 93 ∷ []
closings Tail true = []
closings place false = T.Close 41 ∷ []

-- arguments were put, each with what stands after it
pub record PutFront (is_list : Bool) (front : List Val) (before after : List Task) : Type 0 where
  pub is :
      (names : List (List ℕ))
      → pending names after ≡ fronts_text names is_list front ++ pending names before
  pub weighs : weight after ≤ weight before + hefts (vals front)
  pub named : (n : ℕ) → AllSymbolsBelow n (vals front) → AreNamed n before → AreNamed n after

-- a text was written, and the rest was put
pub record Written
    (P : Program) (out out' text : List ℕ) (whole : ℕ) (before after : List Task)
    : Type 0 where
  pub is :
      out' ++ pending (names_of P) after
      ≡ out ++ (text ++ pending (names_of P) before)
  pub less : weight after < weight before + whole
  pub named : AreNamed (length P.symbols) before → AreNamed (length P.symbols) after

abbrev pub Opens : Program → List ℕ → List ℕ → Place → Val → List Task → List Task → Type 0
Opens P out out' place v before after =
    Written P out out' (at_place (names_of P) place v) (heft v) before after

abbrev pub Writes : Program → List ℕ → List ℕ → Task → List Task → List Task → Type 0
Writes P out out' task before after =
    Written P out out' (task_text (names_of P) task) (task_weight task) before after
