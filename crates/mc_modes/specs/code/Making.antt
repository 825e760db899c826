-- What is made of a goal that is in its order.
use Rattle.std.specs.Prelude.{◌≡◌, ℕ, false}
use Rattle.mc_model.specs.declared.flat.Normal.{Normal}
use Rattle.mc_model.specs.declared.inst.ModeDecl.{ModeDecl}
use Rattle.mc_model.specs.declared.sched.Proc.{Proc}
use Rattle.mc_modes.specs.Schedules.{first_determinism}
use Rattle.mc_modes.specs.declared.arranging.Arrangement.{Arrangement}

pub record IsMadeOf (g : Normal) (k : ℕ) (m : ModeDecl) (a : Arrangement) (p : Proc) : Type 0 where
  pub pred : p.pred ≡ g.pred
  pub mode : p.mode ≡ k
  pub head : p.head ≡ g.head
  pub var_types : p.var_types ≡ a.types.items
  pub first : p.first ≡ m.first
  pub last : p.last ≡ m.last
  pub body : p.body ≡ a.body
  pub declared : p.declared ≡ m.det
  pub det : p.det ≡ first_determinism m.det
  pub exported : p.exported ≡ false
  pub at : p.at ≡ m.at
