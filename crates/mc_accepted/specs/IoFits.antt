-- What io's builtins do: they append to the state what they write, and no other builtin does io.
-- (Mercury Language Reference Manual: the library's io; Modes, unique modes; this project's profile
-- of io.)
use Rattle.std.specs.Prelude.{◌≡◌, ℕ, List, [], ◌∷◌, ◌++◌, Some, true, false}
use Rattle.mc_program.specs.Values.{Val, state}
use Rattle.mc_model.specs.Outcomes.{Outcome, fails, gives, throws, writes, reads, reads_and_throws, inputs_of}
use Rattle.mc_model.specs.Truth.{World}
use Rattle.mc_model.specs.Good.{TypeChoice}
use Rattle.mc_accepted.specs.BuiltinFits.{EachOf, at_places}
use Rattle.mc_accepted.specs.BuiltinTypes.{Library_types, HasBuiltins}
use Rattle.mc_accepted.specs.Determined.{is_io_builtin}
use Rattle.mc_program.specs.declared.builtin.Builtin.{Builtin}

-- the last value is a state of those bytes
abbrev pub LastIs : List ℕ → List Val → Type 0
LastIs w [] = ⊥
LastIs w (v ∷ []) = (taken : ℕ) × (v ≡ state w taken)
LastIs w (v ∷ u ∷ vs) = LastIs w (u ∷ vs)

-- what io's builtins do to a state of those bytes, which is their last input: they don't fail, and
-- their last output is the state with what they write
abbrev pub Advances : List ℕ → Outcome → Type 0
Advances w fails = ⊥
Advances w (gives vs) = LastIs w vs
Advances w (throws x) = Unit {0}
Advances w (writes t vs) = LastIs (w ++ t) vs
Advances w (reads k vs) = LastIs w vs
Advances w (reads_and_throws k x) = Unit {0}

abbrev pub NoIo : Outcome → Type 0
NoIo (writes t vs) = ⊥
NoIo (reads k vs) = ⊥
NoIo (reads_and_throws k x) = ⊥
NoIo _ = Unit {0}

-- What is asked of the builtins that predicates have, by the numbers of the library's types: at
-- inputs of their types io's advance the state, and others do no io.
pub record FitsIo (W : World) (K : Library_types) : Type 0 where
  pub named : HasBuiltins W.source K
  pub advances :
      (θ : TypeChoice) (p : ℕ) (op : Builtin) (w : List ℕ) (vs : List Val)
      → (W.source.preds p).builtin ≡ Some op
      → EachOf W.source θ (at_places true (inputs_of op) (W.source.preds p).types) vs
      → is_io_builtin op ≡ true → LastIs w vs → Advances w (W.outcome op vs)
  pub quiet :
      (p : ℕ) (op : Builtin) (vs : List Val)
      → (W.source.preds p).builtin ≡ Some op
      → is_io_builtin op ≡ false → NoIo (W.outcome op vs)
