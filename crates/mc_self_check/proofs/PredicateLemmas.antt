-- What tests tell of slices and of a program is told of what they are views of.
use Rattle.std.proofs.Common.{◌≡◌, ◌↔◌, ℕ, Bool, List, map, subst, IsTrue}
use Rattle.mc_program.specs.PlainPrograms.{plain_program, plain_type}
use Rattle.mc_program.specs.declared.program.Program.{Program}
use Rattle.mc_program.specs.declared.ty.Ty.{Ty}
use Rattle.mc_model.specs.Flat.{Flat_goal}
use Rattle.mc_accepted.specs.ProperTypes.{EachProper}
use Rattle.mc_accepted.specs.Typing.{TypedGoal}
use Rattle.mc_procs.specs.Procedures.{parameters_in}
use Rattle.mc_procs.specs.VariableTypes.{type_in}

pub proper_told : (b : Bool) (P Q : Program) (ts us : List Ty) → P ≡ Q → ts ≡ us → IsTrue b ↔ EachProper (parameters_in P) (map plain_type ts) → IsTrue b ↔ EachProper (parameters_in Q) (map plain_type us)
proper_told b P Q ts us program types h =
    subst (λ (l : List Ty). IsTrue b ↔ EachProper (parameters_in Q) (map plain_type l)) types
    (subst (λ (x : Program). IsTrue b ↔ EachProper (parameters_in x) (map plain_type ts)) program h)

pub head_told : (b : Bool) (ts us : List Ty) (vs ws : List ℕ) (es ds : List Ty) → ts ≡ us → vs ≡ ws → es ≡ ds → IsTrue b ↔ (map (type_in ts) vs ≡ map plain_type es) → IsTrue b ↔ (map (type_in us) ws ≡ map plain_type ds)
head_told b ts us vs ws es ds types variables expected h =
    subst (λ (l : List Ty). IsTrue b ↔ (map (type_in us) ws ≡ map plain_type l)) expected
    (subst (λ (l : List ℕ). IsTrue b ↔ (map (type_in us) l ≡ map plain_type es)) variables
    (subst (λ (l : List Ty). IsTrue b ↔ (map (type_in l) vs ≡ map plain_type es)) types h))

pub typed_told : (b : Bool) (P Q : Program) (ts us : List Ty) (goal : Flat_goal) → P ≡ Q → ts ≡ us → IsTrue b ↔ TypedGoal (plain_program P) (type_in ts) goal → IsTrue b ↔ TypedGoal (plain_program Q) (type_in us) goal
typed_told b P Q ts us goal program types h =
    subst (λ (l : List Ty). IsTrue b ↔ TypedGoal (plain_program Q) (type_in l) goal) types
    (subst (λ (x : Program). IsTrue b ↔ TypedGoal (plain_program x) (type_in ts) goal) program h)
