-- Clauses whose candidates are declared with types that are well formed. (Mercury Language Reference
-- Manual: Types.)
use Rattle.std.specs.Prelude.{List, [], ◌∷◌, Contains}
use Rattle.mc_program.specs.Programs.{Source}
use Rattle.mc_accepted.specs.ProperTypes.{Parameters, EachProper}
use Rattle.mc_accepted.specs.Resolving.{Step, push_variable, push_number, push_text, choose, equate, call, close_head, signature}
use Rattle.mc_source.specs.declared.name.Candidate.{Candidate}

module _ (P : Source) (D : Parameters) where
  abbrev pub AreDeclared : List Candidate → Type 0
  AreDeclared candidates = (c : Candidate) → Contains candidates c → EachProper D (signature P D c)

  -- each name of a walk may mean what is declared with well-formed types alone, and so is its head
  abbrev pub WalkIsDeclared : List Step → Type 0
  WalkIsDeclared [] = Unit {0}
  WalkIsDeclared (choose cs n ∷ steps) = AreDeclared cs × WalkIsDeclared steps
  WalkIsDeclared (call cs n ∷ steps) = AreDeclared cs × WalkIsDeclared steps
  WalkIsDeclared (close_head p n ∷ steps) = EachProper D (P.preds p).types × WalkIsDeclared steps
  WalkIsDeclared (push_variable v ∷ steps) = WalkIsDeclared steps
  WalkIsDeclared (push_number ∷ steps) = WalkIsDeclared steps
  WalkIsDeclared (push_text ∷ steps) = WalkIsDeclared steps
  WalkIsDeclared (equate ∷ steps) = WalkIsDeclared steps
