-- What an atom does, as its event list. (Mercury Language Reference Manual: Semantics; this
-- project's profile of strict sequential execution.)
use Rattle.std.specs.Prelude.{◌≡◌, ℕ, List, Option}
use Rattle.mc_model.specs.EventList.{Items, End, Stuck, Stopped, Answer, Wrote, Read, thrown}
use Rattle.mc_model.specs.Stream.{Bindings}
use Rattle.mc_builtins.specs.Answers.{plain_exception}
use Rattle.mc_plain.specs.declared.results.AtomResult.{AtomResult}
use Rattle.mc_plain.specs.declared.results.AtomResult.TheVariants as W
use Rattle.mc_plain.specs.declared.results.BuiltinResult.{BuiltinResult}
use Rattle.mc_plain.specs.declared.results.BuiltinResult.TheVariants as A
use Rattle.mc_plain.specs.declared.results.ReadLineResult.{ReadLineResult}
use Rattle.mc_plain.specs.declared.results.ReadLineResult.TheVariants as F

-- the list of an atom that went so, with the bindings that it left
abbrev pub went_items : AtomResult → Bindings → Items Bindings
went_items W.On e = Answer e End
went_items W.Fails e = End
went_items W.Stuck e = Stuck

-- the list begins with the wish for input from this byte on
abbrev pub ReadsFrom : ℕ → Items Bindings → Type 0
ReadsFrom from items = (rest : Items Bindings) × (items ≡ Read from rest)

-- the list doesn't begin with a wish for input
abbrev pub IsUnread : Items Bindings → Type 0
IsUnread (Read from rest) = ⊥
IsUnread _ = Unit {0}

-- over every input, this is the list of a builtin that acted so, with the bindings that it left
abbrev pub ActedItems : ((input : List ℕ) → Items Bindings) → BuiltinResult → Bindings → Type 0
ActedItems items (A.Went went) e = (input : List ℕ) → items input ≡ went_items went e
ActedItems items (A.Throws x) e =
    (input : List ℕ) → items input ≡ Stopped (thrown (plain_exception x))
ActedItems items (A.Wrote text went) e =
    (input : List ℕ) → items input ≡ Wrote text (went_items went e)
ActedItems items (A.Reads from) e = (input : List ℕ) → ReadsFrom from (items input)

-- where a line of the input is wanted, no variable has been bound yet
abbrev pub WaitsToRead : BuiltinResult → (old new : List (Option ℕ)) → Type 0
WaitsToRead (A.Reads from) old new = new ≡ old
WaitsToRead _ old new = Unit {0}

-- what follows the wish for input in the list of a builtin that did so, with the bindings that it
-- left; the list itself, where it has no such wish
abbrev pub fed_items : ReadLineResult → Bindings → Items Bindings
fed_items (F.Went went) e = went_items went e
fed_items (F.Throws x) e = Stopped (thrown (plain_exception x))
