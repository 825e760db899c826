-- Insts that were merged.
use Rattle.std.proofs.Common.{◌≡◌, ◌∙◌, ℕ, zero, suc, ◌<◌, List, [], ◌∷◌, length, get_or, Some, sym, ap, arith}
use Rattle.mc_program.specs.Programs.{TypeTerm}
use Rattle.mc_program.specs.PlainPrograms.{plain_type}
use Rattle.mc_program.specs.declared.ty.Ty.{Ty}
use Rattle.mc_accepted.specs.NodeOracle.{NodeOracle}
use Rattle.mc_insts.specs.Graphs.{count_of}
use Rattle.mc_procs.specs.Procedures.{PlainProcs}
use Rattle.mc_mode_state.specs.Tables.{node_in}
use Rattle.mc_mode_state.specs.Nodes.{type_in, NodesMoved}
use Rattle.mc_mode_state.specs.Agreeing.{OracleAgrees}
use Rattle.mc_mode_state.specs.declared.nodes.Nodes.{Nodes}
use Rattle.mc_mode_state.specs.declared.state.State.{State}

pub typed-at : (ts : List Ty) (x : ℕ) (y : Ty) → x < length ts → y ≡ get_or ts x y → plain_type y ≡ type_in ts x
typed-at [] x y h e = absurd (omega arith)
typed-at (t ∷ ts) zero y h e = ap plain_type e
typed-at (t ∷ ts) (suc x) y h e = typed-at ts x y (omega arith) e

-- the node that was found for insts at a variable's type
abbrev pub FoundAt : Nodes → Ty → List ℕ → (node : ℕ) → Type 0
FoundAt N y is k = (place : ℕ) × (type_in N.types.items place ≡ plain_type y) × (node_in N.joins place is ≡ Some k)

pub joined-is : (r : PlainProcs) (t : State) (x k : ℕ) (y : Ty) (is : List ℕ) → FoundAt t.nodes y is k → x < length t.types.items → plain_type y ≡ type_in t.types.items x
    → (C : NodeOracle) (T : ℕ → TypeTerm) → OracleAgrees r t C T → C.joined (T x) is ≡ Some k
joined-is r t x k y is f h e C T a =
    ap (λ (u : TypeTerm). C.joined u is) (a.types x h ∙ (sym e ∙ sym f.1)) ∙ a.joined f.0 k is f.2

pub joined-there : (q r : PlainProcs) (N M : Nodes) (k : ℕ) (y : Ty) (is : List ℕ) → NodesMoved q r N M → FoundAt M y is k → k < count_of r.insts
joined-there q r N M k y is m f =
    let s = (m.are.joins f.0 k is f.2).1 in
    let a = s.there in
    let b = s.grown.more in
    omega arith
