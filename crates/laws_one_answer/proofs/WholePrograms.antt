-- Goals of a program that runs are typed, and signatures are placed.
use Rattle.std.proofs.Common.{◌≡◌, ℕ, suc, ◌+◌, List, [], ◌∷◌, ◌++◌, map, length, Option, refl, sym, subst, arith}
use Rattle.std.proofs.lemmas.List.{append-nil}
use Rattle.mc_program.specs.PlainPrograms.{plain_program, plain_type}
use Rattle.mc_program.specs.Programs.{Source}
use Rattle.mc_program.specs.Values.{Val}
use Rattle.mc_program.specs.declared.builtin.Builtin.{Builtin}
use Rattle.mc_model.specs.Good.{System}
use Rattle.mc_model.specs.Insts.{free}
use Rattle.mc_model.specs.Outcomes.{fails}
use Rattle.mc_model.specs.Scheduled.{Procedure}
use Rattle.mc_model.specs.declared.flat.Normal.{Normal}
use Rattle.mc_model.specs.declared.inst.Sig.{Sig}
use Rattle.mc_accepted.specs.Typing.{TypedGoal}
use Rattle.mc_inst_table.specs.Written.{ModeTerm}
use Rattle.mc_signatures.specs.WrittenModes.{PlainMode}
use Rattle.mc_signatures.specs.MeantModes.{MeansMode}
use Rattle.mc_signatures.specs.Signatures.{AreSignatures, next_behind}
use Rattle.mc_procs.specs.Procedures.{no_procedure}
use Rattle.mc_procs.specs.VariableTypes.{type_in}
use Rattle.mc_modes.specs.NormalGoals.{goal_at}
use Rattle.laws_one_answer.specs.ModesMeanOne.{ArePlaced}
use Rattle.laws_one_answer.specs.WholePrograms.{WholeGoalsAreTyped, SignaturesArePlaced}

-- ---- goals
-- a system over the program, with no procedure; and one that has the variables of a goal
abbrev nothing_runs : Source → System
nothing_runs P =
    record {
      world = record { source = P; outcome = λ (op : Builtin) (vs : List Val). fails };
      count = 0;
      procs = λ k. no_procedure;
      insts = λ i. free;
    }

abbrev over_goal : (pred : ℕ) → Normal → Procedure
over_goal p g = record no_procedure { pred = p; head = g.head; var_types = map plain_type g.var_types }

pub whole-goals-are-typed : WholeGoalsAreTyped
whole-goals-are-typed l clauses query whole is fit p there none =
    let P = plain_program whole.program in
    let g = goal_at whole.goals.items p in
    let normal = is.goals.each p there in
    let types =
    fit.1 (nothing_runs P) [] (over_goal p g) refl tt
    (record { there = there; head = normal.head; types = sym (append-nil (map plain_type g.var_types)) }) in
    record { head = types.head_types; body = subst (TypedGoal P (type_in g.var_types)) (sym normal.body) types.typed }

-- ---- signatures
module _ (Means : ModeTerm → (first last : ℕ) → Type 0) (builtin : ℕ → Option Builtin) where
  placed-from : (p n : ℕ) (rows : List (List PlainMode)) (declared others : List Sig) → AreSignatures Means builtin p n rows declared → ArePlaced (p + length rows) others → ArePlaced p (declared ++ others)
  placed-from p n [] [] others a h = subst (λ q. ArePlaced q others) (let e : p + 0 ≡ p = omega arith in e) h
  placed-from p n [] (s ∷ sigs) others a h = absurd a
  placed-from p n (ws ∷ rows) [] others a h = absurd a
  placed-from p n (ws ∷ rows) (s ∷ sigs) others a h =
      (a.0, placed-from (suc p) (next_behind (builtin p) n ws) rows sigs others a.2 (subst (λ q. ArePlaced q others) (let e : p + suc (length rows) ≡ suc p + length rows = omega arith in e) h))

pub signatures-are-placed : SignaturesArePlaced
signatures-are-placed l ds builtin rows declared others a h =
    placed-from (MeansMode l ds) builtin 0 0 rows declared others a (subst (λ q. ArePlaced q others) (let e : length rows ≡ 0 + length rows = omega arith in e) h)
