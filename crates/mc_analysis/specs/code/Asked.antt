-- What is marked of predicates, where the modes whose goals are tried are looked for.
use Rattle.std.specs.Prelude.{◌≡◌, ◌↔◌, ℕ, Bool, true, List, get_or}
use Rattle.mc_program.specs.Programs.{Source}
use Rattle.mc_model.specs.Flat as F
use Rattle.mc_model.specs.Flat.{Flat_goal, Flat_goals, no_flat, flat_then}
use Rattle.mc_model.specs.Insts.{Graph}
use Rattle.mc_model.specs.declared.inst.Sig.{Sig}
use Rattle.mc_analysis.specs.Untidy.{TidyAt}

-- those predicates are marked whose modes are tidy; one past the last mark counts as marked
abbrev pub MarksTidy : Source → Graph → List Sig → List Bool → Type 0
MarksTidy P G sigs marks = (p : ℕ) → (get_or marks p true ≡ true) ↔ TidyAt P G sigs p

-- each predicate that the goal calls is marked
abbrev mutual
  pub CallsMarked : List Bool → Flat_goal → Type 0
  CallsMarked marks (F.Same x y) = Unit {0}
  CallsMarked marks (F.Made x s ys) = Unit {0}
  CallsMarked marks (F.Is x v) = Unit {0}
  CallsMarked marks (F.Call p xs) = get_or marks p true ≡ true
  CallsMarked marks (F.And gs) = AllCallMarked marks gs
  CallsMarked marks (F.Or gs) = AllCallMarked marks gs
  CallsMarked marks (F.If vs c t e) =
      CallsMarked marks c × CallsMarked marks t × CallsMarked marks e
  CallsMarked marks (F.Not g) = CallsMarked marks g
  CallsMarked marks (F.Exists vs g) = CallsMarked marks g

  pub AllCallMarked : List Bool → Flat_goals → Type 0
  AllCallMarked marks no_flat = Unit {0}
  AllCallMarked marks (flat_then g gs) = CallsMarked marks g × AllCallMarked marks gs
