-- Signatures that are one but for the numbers of insts: their modes, by number.
use Rattle.std.proofs.Common.{◌≡◌, ℕ, zero, suc, List, [], ◌∷◌, length, get_or, refl, ap}
use Rattle.std.proofs.Math.Path.{fun_ext}
use Rattle.std.specs.List.{flat_map}
use Rattle.mc_program.specs.PlainPrograms.{plain_program}
use Rattle.mc_program.specs.declared.program.Program.{Program}
use Rattle.mc_model.specs.Lists.{from}
use Rattle.mc_model.specs.declared.inst.ModeDecl.{ModeDecl}
use Rattle.mc_model.specs.declared.inst.Sig.{Sig}
use Rattle.mc_accepted.specs.InstRules.{PlainInstDef}
use Rattle.mc_insts.specs.declared.insts.Insts.{Insts}
use Rattle.mc_modes.specs.Signatures.{modes_at, no_mode, mode_in}
use Rattle.mc_modes.specs.Numbering.{ids_of, unless_builtin, mode_ids}
use Rattle.mc_modes.specs.declared.modes.ModeId.{ModeId}
use Rattle.laws_graphs.specs.FaultLaws.{EachAlike}
use Rattle.mc_analysis.specs.Premises.{HasInsts}
use Rattle.laws_one_answer.specs.ModesMeanOne.{NodesAreOne, EachIsOne, ModeIsOne, EachModeIsOne, SigsAreOne, DefinedMeanOne}
use Rattle.laws_one_answer.specs.OneAnswer.{SigsAreThemselves}

module _ (One : ℕ → ℕ → Type 0) where
  pub modes_one : (ss ts : List Sig) (p : ℕ) → SigsAreOne One ss ts → EachModeIsOne One (modes_at ss p) (modes_at ts p)
  modes_one [] [] p h = tt
  modes_one [] (t ∷ ts) p h = absurd h
  modes_one (s ∷ ss) [] p h = absurd h
  modes_one (s ∷ ss) (t ∷ ts) zero h = h.1
  modes_one (s ∷ ss) (t ∷ ts) (suc p) h = modes_one ss ts p h.2

  one_mode : (ms ns : List ModeDecl) (k : ℕ) → EachModeIsOne One ms ns → ModeIsOne One (get_or ms k no_mode) (get_or ns k no_mode)
  one_mode [] [] k h = record { proc = refl; first = tt; last = tt; det = refl; at = refl }
  one_mode [] (n ∷ ns) k h = absurd h
  one_mode (m ∷ ms) [] k h = absurd h
  one_mode (m ∷ ms) (n ∷ ns) zero h = h.0
  one_mode (m ∷ ms) (n ∷ ns) (suc k) h = one_mode ms ns k h.1

  pub mode_one : (ss ts : List Sig) (p k : ℕ) → SigsAreOne One ss ts → ModeIsOne One (mode_in ss p k) (mode_in ts p k)
  mode_one ss ts p k h = one_mode (modes_at ss p) (modes_at ts p) k (modes_one ss ts p h)

  many : (ms ns : List ModeDecl) → EachModeIsOne One ms ns → length ns ≡ length ms
  many [] [] h = refl
  many [] (n ∷ ns) h = absurd h
  many (m ∷ ms) [] h = absurd h
  many (m ∷ ms) (n ∷ ns) h = ap suc (many ms ns h.1)

  -- they have the same numbers
  pub ids_one : (P : Program) (ss ts : List Sig) → SigsAreOne One ss ts → mode_ids P ts ≡ mode_ids P ss
  ids_one P ss ts h =
      ap (λ (f : ℕ → List ModeId). flat_map f (from 0 (length P.preds)))
      (fun_ext (λ p. ap (λ (n : ℕ). unless_builtin ((plain_program P).preds p).builtin (ids_of p (from 0 n))) (many (modes_at ss p) (modes_at ts p) (modes_one ss ts p h))))

  module _ (each : (n : ℕ) → One n n) where
    each_self : (ns : List ℕ) → EachIsOne One ns ns
    each_self [] = tt
    each_self (n ∷ ns) = (each n, each_self ns)

    mode_self : (ms : List ModeDecl) → EachModeIsOne One ms ms
    mode_self [] = tt
    mode_self (m ∷ ms) = (record { proc = refl; first = each_self m.first; last = each_self m.last; det = refl; at = refl }, mode_self ms)

    pub sigs_self : (ss : List Sig) → SigsAreOne One ss ss
    sigs_self [] = tt
    sigs_self (s ∷ ss) = (refl, mode_self s.modes, sigs_self ss)

-- nodes that are one are alike
pub each_alike : (P : Program) (ds es : List PlainInstDef) (I J : Insts) → HasInsts P ds I → HasInsts P es J → (ns ms : List ℕ) → EachIsOne (NodesAreOne P ds es) ns ms → EachAlike ns ms
each_alike P ds es I J here there [] [] h = tt
each_alike P ds es I J here there [] (m ∷ ms) h = absurd h
each_alike P ds es I J here there (n ∷ ns) [] h = absurd h
each_alike P ds es I J here there (n ∷ ns) (m ∷ ms) h = (h.0.alike I J here there, each_alike P ds es I J here there ns ms h.1)

pub sigs-are-themselves : DefinedMeanOne → SigsAreThemselves
sigs-are-themselves one P ds sigs = sigs_self (NodesAreOne P ds ds) (one P ds) sigs
