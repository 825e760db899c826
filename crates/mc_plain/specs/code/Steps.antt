-- One variable and what it meets, the arguments of a call by their insts, and what is read.
use Rattle.std.specs.Prelude.{ℕ, Bool, false, List, [], ◌∷◌, Option, Some, None, if◌then◌else◌}
use Rattle.mc_program.specs.Values.{Val}
use Rattle.mc_values.specs.Heap.{value_at}
use Rattle.mc_values.specs.declared.heap.Heap.{Heap}
use Rattle.mc_model.specs.EventList.{Items, Stopped, thrown, of_option}
use Rattle.mc_model.specs.Stream.{Bindings, meet, unify, is_bound}
use Rattle.mc_builtins.specs.Answers.{plain_exception}
use Rattle.mc_builtins.specs.declared.reading.ReadResult.{ReadResult}
use Rattle.mc_builtins.specs.declared.reading.ReadResult.TheVariants as G

-- a variable meets a value that may be there
abbrev pub meet_if : ℕ → Option Val → Bindings → Option Bindings
meet_if x None e = Some e
meet_if x (Some v) e = meet x v e (e x)

-- an input isn't there
abbrev pub lacks : ℕ → Option ℕ → Bool
lacks inst None = is_bound inst
lacks inst (Some r) = false

-- the argument, where its inst isn't `free`
abbrev pub kept : ℕ → Option ℕ → Option ℕ
kept inst o = if is_bound inst then o else None

-- variables meet what a builtin that reads gives, or it throws
abbrev pub got_items : Heap → List ℕ → Bindings → ReadResult → Items Bindings
got_items h ys e (G.Gives read after) =
    of_option (unify ys (Some (value_at h read) ∷ Some (value_at h after) ∷ []) e)
got_items h ys e (G.Throws x) = Stopped (thrown (plain_exception x))
