-- What builtins give fits the types of their predicates. (Mercury Language Reference Manual: the
-- library.)
use Rattle.std.specs.Prelude.{◌≡◌, ◌≢◌, ℕ, List, [], ◌∷◌, Some, Bool, true, false}
use Rattle.mc_program.specs.Values.{Val}
use Rattle.mc_program.specs.Programs.{TypeTerm, Source}
use Rattle.mc_model.specs.Types.{instance_of, OfType}
use Rattle.mc_model.specs.Outcomes.{Outcome, fails, gives, throws, writes, reads, reads_and_throws, inputs_of}
use Rattle.mc_model.specs.Good.{TypeChoice}
use Rattle.mc_model.specs.Truth.{World}
use Rattle.mc_accepted.specs.Determined.{builtin_determinism}
use Rattle.mc_program.specs.declared.builtin.Builtin.{Builtin}
use Rattle.mc_program.specs.declared.builtin.Builtin.TheVariants as B

-- what stands at the places that are marked so
abbrev pub at_places : {A : Type 0} → Bool → List Bool → List A → List A
at_places m [] vs = []
at_places m (b ∷ bs) [] = []
at_places true (true ∷ bs) (v ∷ vs) = v ∷ at_places true bs vs
at_places true (false ∷ bs) (v ∷ vs) = at_places true bs vs
at_places false (true ∷ bs) (v ∷ vs) = at_places false bs vs
at_places false (false ∷ bs) (v ∷ vs) = v ∷ at_places false bs vs

-- values of types, one for each
abbrev pub EachOf : Source → TypeChoice → List TypeTerm → List Val → Type 0
EachOf P θ [] [] = Unit {0}
EachOf P θ (t ∷ ts) (v ∷ vs) = OfType P v (instance_of θ t) × EachOf P θ ts vs
EachOf P θ _ _ = ⊥

-- an outcome gives values of these types, where it gives any
abbrev pub GivesOf : Source → TypeChoice → List TypeTerm → Outcome → Type 0
GivesOf P θ ts fails = Unit {0}
GivesOf P θ ts (gives vs) = EachOf P θ ts vs
GivesOf P θ ts (throws x) = Unit {0}
GivesOf P θ ts (writes t vs) = EachOf P θ ts vs
GivesOf P θ ts (reads k vs) = EachOf P θ ts vs
GivesOf P θ ts (reads_and_throws k x) = Unit {0}

abbrev pub Throws : Outcome → Type 0
Throws (throws x) = Unit {0}
Throws _ = ⊥

-- At inputs of its predicate's types a builtin gives outputs of its types, and doesn't fail where
-- its determinism cannot; `error` throws.
pub record FitsBuiltins (W : World) : Type 0 where
  pub outputs :
      (θ : TypeChoice) (p : ℕ) (op : Builtin) (vs : List Val)
      → (W.source.preds p).builtin ≡ Some op
      → EachOf W.source θ (at_places true (inputs_of op) (W.source.preds p).types) vs
      → GivesOf W.source θ (at_places false (inputs_of op) (W.source.preds p).types)
      (W.outcome op vs)
  pub succeeds :
      (θ : TypeChoice) (p : ℕ) (op : Builtin) (vs : List Val)
      → (W.source.preds p).builtin ≡ Some op
      → EachOf W.source θ (at_places true (inputs_of op) (W.source.preds p).types) vs
      → (builtin_determinism op).can_fail ≡ false → W.outcome op vs ≢ fails
  pub error_throws :
      (θ : TypeChoice) (p : ℕ) (vs : List Val)
      → (W.source.preds p).builtin ≡ Some B.Error
      → EachOf W.source θ (at_places true (inputs_of B.Error) (W.source.preds p).types) vs
      → Throws (W.outcome B.Error vs)
