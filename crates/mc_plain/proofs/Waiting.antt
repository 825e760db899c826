-- What the goal at a place names, and which goal reads.
use Rattle.std.proofs.Common.{◌≡◌, ℕ, ◌<◌, Bool, true, false, if◌then◌else◌, List, [], Option, Some, None, length, drop, sym, ap, subst, ◌∙◌}
use Rattle.std.proofs.lemmas.Option.{get_or_from_slice_get, slice_get_within}
use Rattle.mc_program.specs.declared.builtin.Builtin.{Builtin}
use Rattle.mc_program.specs.declared.builtin.Builtin.TheVariants.{ReadLine}
use Rattle.mc_model.specs.Worlds.{library_of}
use Rattle.mc_model.specs.Stream.{apply_items, gather}
use Rattle.mc_plain.specs.Values.{HasLists, ListsAreNamed}
use Rattle.mc_plain.specs.Atoms.{ReadsFrom}
use Rattle.mc_flat_code.specs.Running.{instr_at, variables_at}
use Rattle.mc_flat_code.specs.declared.code.Span.{Span}
use Rattle.mc_flat_code.specs.declared.code.Instr.{Instr}
use Rattle.mc_flat_code.specs.declared.code.Instr.TheVariants as I
use Rattle.mc_model.specs.declared.run.Input.{Input}
use Rattle.mc_model.specs.declared.run.Step.{Step}
use Rattle.mc_model.specs.declared.run.Step.TheVariants as S
use Rattle.mc_builtins.specs.Reading.{IsNext}
use Rattle.mc_plain.specs.Names.{IsNamed}
use Rattle.mc_plain.specs.Rest as R
use Rattle.mc_plain.specs.Rest.{Rest, GivesIf, FollowsIf, WantsLine, WantsIf, IsFed, IsFine}
use Rattle.mc_plain.specs.code.Machine.{at}
use Rattle.mc_plain.specs.code.Machine as M
use Rattle.mc_plain.specs.code.Views.{plain_now}
use Rattle.mc_plain.specs.code.RunState.{IsRunContext, IsWaiting, WaitsIf, meaning, machine_of, rest_in}
use Rattle.mc_plain.specs.declared.state.NextAction.{NextAction}
use Rattle.mc_plain.specs.declared.state.NextAction.TheVariants as N
use Rattle.mc_plain.specs.declared.state.RunContext.{RunContext}
use Rattle.mc_plain.specs.declared.state.RunState.{RunState}

-- the goal at a place names what the program has
module _ (t : RunContext) (s : IsRunContext t) (place : ℕ) where
  abbrev count : ℕ
  count = length t.library.program.now.symbols

  named_at : (i : Instr) → instr_at t.flat.code place ≡ Some i → IsNamed count (library_of t.library.program.now) i
  named_at i e =
      subst (IsNamed count (library_of t.library.program.now)) (get_or_from_slice_get t.flat.code.instrs.items place i i e)
      (s.names.symbols place i (slice_get_within t.flat.code.instrs.items place i e))

  pub made_named : (x f : ℕ) (ys : Span) (next : ℕ) → instr_at t.flat.code place ≡ Some (I.Made x f ys next) → f < length t.library.program.now.symbols
  made_named x f ys next e = named_at (I.Made x f ys next) e

  pub has_lists : (op : Builtin) (xs ys : Span) (next : ℕ) → instr_at t.flat.code place ≡ Some (I.Apply op xs ys next) → HasLists t.library op
  has_lists op xs ys next e = subst (λ L. ListsAreNamed count L op) (sym s.knows) (named_at (I.Apply op xs ys next) e).0

-- where it goes on at a place
abbrev place_of : M.NextAction → ℕ
place_of (M.at place) = place
place_of _ = 0

pub goes_at : (now : NextAction) (place : ℕ) → plain_now now ≡ at place → now ≡ N.At place
goes_at (N.At p) place e = ap (λ k. N.At (place_of k)) e
goes_at N.Failing place e = cc
goes_at N.Ended place e = cc
goes_at N.Stuck place e = cc
goes_at (N.Stopped w) place e = cc

-- the parts of a goal that reads
abbrev inputs_in : Option Instr → Span
inputs_in (Some (I.Apply op xs ys next)) = xs
inputs_in _ = record { start = 0; count = 0 }

abbrev outputs_in : Option Instr → Span
outputs_in (Some (I.Apply op xs ys next)) = ys
outputs_in _ = record { start = 0; count = 0 }

-- a run that wants a line, at the place where it goes on
module _ (t : RunContext) (w : RunState) (from : ℕ) (a : IsWaiting t w from) where
  module _ (p : ℕ) (e : w.control.now ≡ N.At p) where
    same_place : a.place ≡ p
    same_place = ap (λ k. place_of (plain_now k)) (sym a.stands.now ∙ e)

    pub reading_goal : (o : Option Instr) → instr_at t.flat.code p ≡ o → o ≡ Some (I.Apply ReadLine a.inputs a.outputs a.next)
    reading_goal o q = sym q ∙ ap (instr_at t.flat.code) (sym same_place) ∙ a.stands.goal_is

    module _ (xs ys : Span) (next : ℕ) (q : instr_at t.flat.code p ≡ Some (I.Apply ReadLine xs ys next)) where
      pub reads_there : (input : List ℕ) → ReadsFrom from (apply_items (meaning t input ReadLine) (variables_at t.flat.code ys) (machine_of t w).bindings (gather (variables_at t.flat.code xs) (machine_of t w).bindings))
      reads_there input =
          let goal : Some (I.Apply ReadLine a.inputs a.outputs a.next) ≡ Some (I.Apply ReadLine xs ys next) = sym (reading_goal (Some (I.Apply ReadLine xs ys next)) q) in
          subst (λ (k : Span × Span). ReadsFrom from (apply_items (meaning t input ReadLine) (variables_at t.flat.code k.1) (machine_of t w).bindings (gather (variables_at t.flat.code k.0) (machine_of t w).bindings))) (λ i. (inputs_in (goal i), outputs_in (goal i)))
          (a.reads input)

-- a rest that begins with a wish for input
abbrev IsWish : Rest → Type 0
IsWish (R.reads from later) = Unit {0}
IsWish _ = ⊥

abbrev from_of : Rest → ℕ
from_of (R.reads from later) = from
from_of _ = 0

abbrev later_of : Rest → Rest
later_of (R.reads from later) = later
later_of r = r

-- a run that wants a line, and has gone on to what comes next
module _ (t : RunContext) (w : RunState) (old : List ℕ → Rest) (wants : WantsLine (Some old)) where
  wish : (r : Rest) → old [] ≡ r → IsWish r
  wish r e = subst IsWish (sym (wants.1 []).1 ∙ e) tt

  pub has_come : (s : Option Step) → ((input : List ℕ) → GivesIf s (old input) (rest_in t w input)) → WaitsIf t s w → ((from : ℕ) × IsWaiting t w from) × ((input : List ℕ) → rest_in t w input ≡ old input)
  has_come None g x = absurd (wish R.stuck (g []).0)
  has_come (Some (S.Answer vs)) g x = absurd (wish _ (g []))
  has_come (Some (S.Wrote text)) g x = absurd (wish _ (g []))
  has_come (Some S.End) g x = absurd (wish R.ended (g []).0)
  has_come (Some (S.Stopped h)) g x = absurd (wish _ (g []).0)
  has_come (Some (S.Wants from)) g x = ((from, x), λ input. (g input).1)

-- what is left after a run has been fed
module _ (line : Input) (old new : List ℕ → Rest) where
  pub fed_there : (from : ℕ) → ((input : List ℕ) → (later : Rest) × (old input ≡ R.reads from later)) → ((input : List ℕ) → IsNext (drop from input) line → old input ≡ R.reads from (new input)) → IsFed line (Some old) (Some new)
  fed_there from shows read input k later e next =
      let is : k ≡ from = ap from_of (sym e ∙ (shows input).1) in
      ap later_of (sym (read input (subst (λ j. IsNext (drop j input) line) is next)) ∙ e)

  pub fed_later : (mid : List ℕ → Rest) → ((input : List ℕ) → mid input ≡ old input) → IsFed line (Some mid) (Some new) → IsFed line (Some old) (Some new)
  fed_later mid same fed input from later e next = fed input from later (same input ∙ e) next

  pub fed_run : (b : Bool) → b ≡ false → IsFed line (Some old) (Some new) → IsFed line (if b then None else Some old) (if b then None else Some new)
  fed_run true e fed = absurd (cc)
  fed_run false e fed = fed

pub wants_run : (b : Bool) → b ≡ false → (rest : List ℕ → Rest) → WantsLine (if b then None else Some rest) → WantsLine (Some rest)
wants_run true e rest wants = absurd (cc)
wants_run false e rest wants = wants

-- a good run that was fed is good
pub fed_fine : (got : Input) (old new : List ℕ → Rest) → IsFed got (Some old) (Some new) → (input : List ℕ) (from : ℕ) (later : Rest) → old input ≡ R.reads from later → IsNext (drop from input) got → IsFine (old input) → IsFine (new input)
fed_fine got old new fed input from later e next fine = subst IsFine (sym (fed input from later e next)) (subst IsFine e fine)

-- where a wish for input comes next, a line is wanted
pub follows_wants : (s : Option Step) (old new : Option (List ℕ → Rest)) → FollowsIf s old new → WantsIf s new
follows_wants (Some (S.Wants from)) None new f = absurd f
follows_wants (Some (S.Wants from)) (Some old) None f = absurd f
follows_wants (Some (S.Wants from)) (Some old) (Some new) f = (from, λ input. ((f input).0.0, (f input).1 ∙ (f input).0.1))
follows_wants s old new f = tt
