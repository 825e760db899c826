-- What a walk that prunes a body leaves as it is, and what it makes.
use Rattle.std.specs.Prelude.{◌≡◌, ℕ, ◌<◌, ◌≤◌, ◌++◌, ◌&&◌, not, nat_eq, Bool, false, List, length, map, get_or, Option, Some, None}
use Rattle.std.specs.List.{filter}
use Rattle.mc_program.specs.Values.{Val}
use Rattle.mc_program.specs.declared.builtin.Builtin.{Builtin}
use Rattle.mc_program.specs.declared.ty.Ty.{Ty}
use Rattle.mc_source.specs.Determinism.{is_zero}
use Rattle.mc_source.specs.declared.det.Det.{Det}
use Rattle.mc_model.specs.Outcomes.{Outcome}
use Rattle.mc_model.specs.Scheduled.{Node, Scheduled}
use Rattle.mc_model.specs.Good.{System}
use Rattle.mc_accepted.specs.Ordered.{times_in, variables_of_node}
use Rattle.mc_accepted.specs.Determined.{insts_after}
use Rattle.mc_accepted.specs.Inferred.{with_determinisms}
use Rattle.mc_accepted.specs.MergedArms.{never_ends, never_ends_in}
use Rattle.mc_procs.specs.Procedures.{PlainProcs, as_system}
use Rattle.mc_det.specs.Determinisms.{declared_procedure}
use Rattle.mc_det.specs.Pruned.{pruned_node, pruned_in}
use Rattle.mc_det.specs.PrunedProcedures.{FollowDeclared}
use Rattle.mc_det.specs.declared.prune.Pruning.{Pruning}
use Rattle.mc_det.specs.code.Points.{insts_in}
use Rattle.mc_det.specs.code.Walks.{typed}

-- how often each variable occurs outside
abbrev pub Counted : (outside counts : List ℕ) → Type 0
Counted Q counts = (x : ℕ) → x < length counts → get_or counts x 0 ≡ times_in x Q

-- a goal's own variables are among those that were counted
abbrev pub HasCounted : (counts : List ℕ) → Node → Type 0
HasCounted counts n =
    (x : ℕ) → x < length counts → times_in x (variables_of_node n) ≤ get_or counts x 0

-- the variables among changes that are free and occur outside
abbrev pub is_free_outside : (point counts : List ℕ) → ℕ × ℕ → Bool
is_free_outside point counts change =
    nat_eq (insts_in point change.0) 0 && not (nat_eq (get_or counts change.0 0) 0)

abbrev pub free_outside : (point counts : List ℕ) → List (ℕ × ℕ) → List ℕ
free_outside point counts changes =
    map (λ (change : ℕ × ℕ). change.0) (filter (is_free_outside point counts) changes)

-- whether a procedure is declared to have no answer
abbrev pub no_answer : Option Det → Bool
no_answer None = false
no_answer (Some d) = is_zero d.most

abbrev pub never_declared : PlainProcs → ℕ → Bool
never_declared q k = no_answer (declared_procedure q.added k).declared

-- whatever builtins do, and whatever determinisms procedures have that follow the declared ones
abbrev pub InDeclared : PlainProcs → (System → Type 0) → Type 0
InDeclared q P =
    (outcome : Builtin → List Val → Outcome) (ds : ℕ → Det)
    → FollowDeclared q ds → P (with_determinisms (as_system outcome q) ds)

-- the point and the counts are as before
pub record Keeps (before after : Pruning) : Type 0 where
  pub point : after.point ≡ before.point
  pub outside : after.outside ≡ before.outside

module _ (q : PlainProcs) (types : List Ty) (at : Pruning) where
  -- a goal and a node with their marks, and whether the point after it is unreachable
  pub record IsGoal (before after : Scheduled) (told : Bool) : Type 0 where
    pub made :
        (Q : List ℕ)
        → Counted Q at.outside
        → InDeclared q (λ S. after ≡ pruned_in S (typed types) Q (insts_in at.point) before)
    pub never : InDeclared q (λ S. told ≡ never_ends_in S (typed types) (insts_in at.point) before)

  pub record IsNode (before after : Node) (told : Bool) : Type 0 where
    pub made :
        (Q : List ℕ)
        → Counted Q at.outside
        → InDeclared q (λ S. after ≡ pruned_node S (typed types) Q (insts_in at.point) before)
    pub never : InDeclared q (λ S. told ≡ never_ends S (typed types) (insts_in at.point) before)

  -- a node that was counted as outside itself, one beside others, and a then part
  pub record IsWithin (before after : Node) (told : Bool) : Type 0 where
    pub made :
        (Q : List ℕ)
        → Counted (Q ++ variables_of_node before) at.outside
        → InDeclared q (λ S. after ≡ pruned_node S (typed types) Q (insts_in at.point) before)
    pub never : InDeclared q (λ S. told ≡ never_ends S (typed types) (insts_in at.point) before)

  pub record IsBeside (beside : List ℕ) (before after : Node) (told : Bool) : Type 0 where
    pub made :
        (Q : List ℕ)
        → Counted Q at.outside
        → InDeclared q
        (λ S. after ≡ pruned_node S (typed types) (Q ++ beside) (insts_in at.point) before)
    pub never : InDeclared q (λ S. told ≡ never_ends S (typed types) (insts_in at.point) before)

  pub record IsThen (condition before after : Node) (told : Bool) : Type 0 where
    pub made :
        (Q : List ℕ)
        → Counted Q at.outside
        → InDeclared q
        (λ S.
        after
        ≡ pruned_node S (typed types) (Q ++ variables_of_node condition)
        (insts_after condition (insts_in at.point)) before)
    pub never :
        InDeclared q
        (λ S. told ≡ never_ends S (typed types) (insts_after condition (insts_in at.point)) before)
