-- Committed determinisms, mode by mode and of all modes.
use Rattle.std.proofs.Common.{◌≡◌, ◌↔◌, ℕ, zero, suc, Bool, true, false, true≢false, IsTrue, List, [], ◌∷◌, get_or, Some, None}
use Rattle.mc_source.specs.declared.det.Det.{Det}
use Rattle.mc_source.specs.declared.det.Most.TheVariants as M
use Rattle.mc_model.specs.declared.inst.ModeDecl.{ModeDecl}
use Rattle.mc_model.specs.declared.inst.Sig.{Sig}
use Rattle.mc_modes.specs.Signatures.{mode_in, no_mode}
use Rattle.mc_analysis.specs.Premises.{CommittedAreMany}
use Rattle.mc_analysis.specs.code.Committed.{HasMany, ModesHaveMany, EachHasMany}

nothing_many : HasMany no_mode
nothing_many d is committed = cc

mode_many : (ms : List ModeDecl) → ModesHaveMany ms → (k : ℕ) → HasMany (get_or ms k no_mode)
mode_many [] h k = nothing_many
mode_many (m ∷ ms) h zero = h.0
mode_many (m ∷ ms) h (suc k) = mode_many ms h.1 k

all_many : (sigs : List Sig) → EachHasMany sigs → (p k : ℕ) → HasMany (mode_in sigs p k)
all_many [] h p k = mode_many [] tt k
all_many (s ∷ ss) h zero k = mode_many s.modes h.0 k
all_many (s ∷ ss) h (suc p) k = all_many ss h.1 p k

many_modes : (ms : List ModeDecl) → ((k : ℕ) → HasMany (get_or ms k no_mode)) → ModesHaveMany ms
many_modes [] h = tt
many_modes (m ∷ ms) h = (h 0, many_modes ms (λ k. h (suc k)))

each_many : (sigs : List Sig) → CommittedAreMany sigs → EachHasMany sigs
each_many [] h = tt
each_many (s ∷ ss) h = (many_modes s.modes (h 0), each_many ss (λ p. h (suc p)))

pub committed_by : (sigs : List Sig) (b : Bool) → (IsTrue b ↔ EachHasMany sigs) → (IsTrue b ↔ CommittedAreMany sigs)
committed_by sigs b h = (λ t. all_many sigs (h.0 t), λ f. h.1 (each_many sigs f))
