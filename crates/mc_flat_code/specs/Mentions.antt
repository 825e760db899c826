-- What goals, code and procedures mention of a program: constructors, constants and builtins.
use Rattle.std.specs.Prelude.{◌≡◌, ◌⊎◌, ℕ, List, [], ◌∷◌, Some}
use Rattle.mc_program.specs.Values.{Val}
use Rattle.mc_program.specs.declared.builtin.Builtin.{Builtin}
use Rattle.mc_model.specs.Scheduled.{Node, node, Scheduled, Conj, Disj, Switch, Ite, Not, Exists, Assign, Test, Build, Take, Const, TestConst, Call, Apply, Nodes, no_nodes, node_then, Arms, no_arms, arm_then, Procedure}
use Rattle.mc_flat_code.specs.Running.{instr_at, value_at}
use Rattle.mc_flat_code.specs.declared.code.Instr.{Instr}
use Rattle.mc_flat_code.specs.declared.code.Instr.TheVariants as I
use Rattle.mc_flat_code.specs.declared.code.Code.{Code}

-- a constructor, by its symbol, a constant, or a builtin
pub data Mention : Type 0 where
  of_symbol : (symbol : ℕ) → Mention
  of_constant : Val → Mention
  of_builtin : Builtin → Mention

-- what a scheduled goal mentions; a switch what its arms' goals do, whose tests its labels repeat
abbrev mutual
  pub Mentions : Node → Mention → Type 0
  Mentions (node s changes d pruned) m = MentionsIn s m

  pub MentionsIn : Scheduled → Mention → Type 0
  MentionsIn (Conj ns) m = AnyMentions ns m
  MentionsIn (Disj ns) m = AnyMentions ns m
  MentionsIn (Switch v arms) m = ArmsMention arms m
  MentionsIn (Ite vs c t f) m = Mentions c m ⊎ (Mentions t m ⊎ Mentions f m)
  MentionsIn (Not n) m = Mentions n m
  MentionsIn (Exists vs n) m = Mentions n m
  MentionsIn (Assign v w) m = ⊥
  MentionsIn (Test v w) m = ⊥
  MentionsIn (Build v f ys) m = m ≡ of_symbol f
  MentionsIn (Take v f ys) m = m ≡ of_symbol f
  MentionsIn (Const v c) m = m ≡ of_constant c
  MentionsIn (TestConst v c) m = m ≡ of_constant c
  MentionsIn (Call p xs implied last) m = ⊥
  MentionsIn (Apply op xs ys) m = m ≡ of_builtin op

  pub AnyMentions : Nodes → Mention → Type 0
  AnyMentions no_nodes m = ⊥
  AnyMentions (node_then n ns) m = Mentions n m ⊎ AnyMentions ns m

  pub ArmsMention : Arms → Mention → Type 0
  ArmsMention no_arms m = ⊥
  ArmsMention (arm_then l n arms) m = Mentions n m ⊎ ArmsMention arms m

-- what the bodies of procedures mention
abbrev pub BodiesMention : List Procedure → Mention → Type 0
BodiesMention [] m = ⊥
BodiesMention (p ∷ ps) m = Mentions p.body m ⊎ BodiesMention ps m

-- what one goal of the code mentions; a constant stands among the code's values
abbrev pub MentionsAt : Instr → Mention → Type 0
MentionsAt I.Done m = ⊥
MentionsAt I.Fail m = ⊥
MentionsAt (I.Same x y next) m = ⊥
MentionsAt (I.Made x f ys next) m = m ≡ of_symbol f
MentionsAt (I.Constant x k next) m = ⊥
MentionsAt (I.Or l r) m = ⊥
MentionsAt (I.If c t f) m = ⊥
MentionsAt (I.Not g next) m = ⊥
MentionsAt (I.Once g next) m = ⊥
MentionsAt (I.Call p xs last next) m = ⊥
MentionsAt (I.Apply op xs ys next) m = m ≡ of_builtin op
MentionsAt (I.Case x bs other) m = ⊥

abbrev pub GoalsMention : Code → Mention → Type 0
GoalsMention code m =
    (pc : ℕ) × ((i : Instr) × ((instr_at code pc ≡ Some i) × MentionsAt i m))

abbrev pub ValuesMention : Code → Mention → Type 0
ValuesMention code m = (k : ℕ) × ((v : Val) × ((value_at code k ≡ Some v) × (m ≡ of_constant v)))

-- what code mentions
abbrev pub CodeMentions : Code → Mention → Type 0
CodeMentions code m = GoalsMention code m ⊎ ValuesMention code m
