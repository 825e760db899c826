-- What the order of goals asks of insts, and what a scheduled procedure owes. (Mercury Language
-- Reference Manual: Modes.)
use Rattle.std.specs.Prelude.{◌≡◌, ◌↔◌, ◌⊎◌, ℕ, zero, suc, List, [], ◌∷◌, map, filter, nat_eq, get_or, Option, Bool, true}
use Rattle.mc_program.specs.Programs.{TypeTerm, variable_type, FullName, Source}
use Rattle.mc_model.specs.Types.{argument_types}
use Rattle.mc_model.specs.Insts.{InstNode, ground, Graph}
use Rattle.mc_accepted.specs.Inclusion.{Tip, symbol_tip, Path, OnTypes, Allows, IncludedNodes}
use Rattle.mc_model.specs.Flat.{Flat_goal}
use Rattle.mc_model.specs.Scheduled.{Node}
use Rattle.mc_model.specs.Good.{System}
use Rattle.mc_model.specs.Lists.{from}
use Rattle.mc_source.specs.Determinism.{is_zero}
use Rattle.mc_accepted.specs.Ordered.{Insts, OrderedNode, modes_of_procedure}
use Rattle.mc_accepted.specs.Arranged.{Declared, arrange, in_order}
use Rattle.mc_accepted.specs.Unmarked.{unmarked_node}
use Rattle.mc_accepted.specs.Forms.{Form, at, only, either, Forms, no_forms, form_then, of_forms}

abbrev pub SameName : FullName → FullName → Type 0
SameName a b = (a.bytes ≡ b.bytes) × (a.arity ≡ b.arity)

-- the inst allows, at the type, the path and what stands at its end
abbrev mutual
  pub FormAllows : Source → Graph → Form → Path → Tip → TypeTerm → Type 0
  FormAllows P G (at i) path e t = Allows P G path e i t
  FormAllows P G (either i j) path e t = FormAllows P G i path e t ⊎ FormAllows P G j path e t
  FormAllows P G (only s is) [] (symbol_tip f) t =
      OnTypes (argument_types P f t) (λ ts. SameName (P.symbols s).name (P.symbols f).name)
  FormAllows P G (only s is) [] _ t = ⊥
  FormAllows P G (only s is) ((f, k) ∷ path) e t =
      OnTypes (argument_types P f t)
      (λ ts.
      SameName (P.symbols s).name (P.symbols f).name
      × FormsAllow P G is k path e (get_or ts k (variable_type 0)))

  -- the inst in that place allows the path
  pub FormsAllow : Source → Graph → Forms → ℕ → Path → Tip → TypeTerm → Type 0
  FormsAllow P G no_forms k path e t = ⊥
  FormsAllow P G (form_then i is) zero path e t = FormAllows P G i path e t
  FormsAllow P G (form_then i is) (suc k) path e t = FormsAllow P G is k path e t

-- `free` and `dead` are nodes; every other inst counts as `ground` where only that matters
abbrev pub top : Graph → Form → InstNode
top G (at i) = G i
top G _ = ground

abbrev pub FormIncluded : Source → Graph → Form → (node : ℕ) → TypeTerm → Type 0
FormIncluded P G i j t =
    IncludedNodes (top G i) (G j)
    ((path : Path) (e : Tip) → FormAllows P G i path e t → Allows P G path e j t)

-- the test tells inclusion
abbrev pub Tells : Source → Graph → (Form → (node : ℕ) → TypeTerm → Bool) → Type 0
Tells P G fits = (i : Form) (j : ℕ) (t : TypeTerm) → (fits i j t ≡ true) ↔ FormIncluded P G i j t

-- A predicate's modes are its procedures, in the order of their numbers. A call of one that has no
-- answers never comes back.
abbrev pub mode_declared : System → (procedure : ℕ) → Declared
mode_declared S k =
    record {
      proc = k;
      modes = modes_of_procedure (S.procs k);
      never = is_zero (S.procs k).det.most;
    }

abbrev pub modes_declared : System → (predicate : ℕ) → List Declared
modes_declared S p =
    map (mode_declared S) (filter (λ k. nat_eq (S.procs k).pred p) (from 0 S.count))

module _ (S : System) (T : ℕ → TypeTerm) where
  -- The goal in its order: the computed one, with insts and marks that stand in the relation.
  pub record InOrder (next : ℕ) (head first last : List ℕ) (b : Insts) (g : Flat_goal) (n : Node)
      (o : Option Insts) : Type 0 where
    pub computed :
        (fits : Form → ℕ → TypeTerm → Bool) → Tells S.world.source S.insts fits
        → arrange (of_forms S.world.source S.insts fits) S.world.source (modes_declared S) T next
        head first last g
        ≡ in_order (unmarked_node n)
    pub related : OrderedNode S T head head b g n o
