-- A run that begins is one, and what is left of it is what was asked for.
use Rattle.std.proofs.Common.{◌≡◌, ℕ, zero, suc, Bool, true, false, if◌then◌else◌, sym, ap, subst, ◌∙◌, Option, Some, None, List, [], ◌∷◌, map, get_or, drop, arith}
use Rattle.std.specs.Prelude.{All}
use Rattle.std.proofs.lemmas.List.Elements.{All-nil, All-cons, All-tail}
use Rattle.mc_program.specs.Values.{plain_value, state}
use Rattle.mc_program.specs.declared.value.Value.{Value}
use Rattle.mc_program.specs.declared.program.Program.{Program}
use Rattle.mc_values.specs.Heap.{IsLive, values_at}
use Rattle.mc_values.specs.declared.heap.Heap.{Heap}
use Rattle.mc_model.specs.Builtins.{outcome}
use Rattle.mc_model.specs.Worlds.{library_of}
use Rattle.mc_model.specs.Scheduled.{Procedure}
use Rattle.mc_model.specs.Stream.{Bindings, nothing_bound, ready, enter}
use Rattle.mc_model.specs.declared.run.Limits.{Limits}
use Rattle.mc_builtins.specs.Answers.{known}
use Rattle.mc_plain.specs.Values.{IsValue, IsHeld}
use Rattle.mc_flat_code.specs.Ticked.{events}
use Rattle.mc_flat_code.specs.Running.{variables_at, body_at, IsCode}
use Rattle.mc_flat_code.specs.Standing.{StandsForAll}
use Rattle.mc_flat_code.specs.declared.code.Body.{Body}
use Rattle.mc_plain.specs.code.Machine.{Machine, NextAction, Whole, left}
use Rattle.mc_plain.specs.Names.{NamesAll}
use Rattle.mc_plain.specs.Rest.{Rest, rest_of, IsFine, IsGood, GivesIf, FollowsIf}
use Rattle.mc_model.specs.declared.run.Step.{Step}
use Rattle.mc_plain.specs.Runs.{StandsForQuery, query_rest, main_rest}
use Rattle.mc_plain.specs.code.Beginnings.{first_machine, called_machine, first_now}
use Rattle.mc_plain.specs.code.RunState.{IsRunContext, HasConstants, rest_in, machine_of}
use Rattle.mc_plain.specs.declared.state.RunContext.{RunContext}
use Rattle.mc_plain.specs.declared.state.RunState.{RunState}
use Rattle.mc_plain.proofs.Beginning.{query_begins, main_begins}
use Rattle.mc_plain.proofs.Looking.{constant_value}

pub first_whole : (M : Machine) (n h m : ℕ) (e : Bindings) (now : NextAction) → M ≡ first_machine n h m e now → Whole M
first_whole M n h m e now x = subst Whole (sym x) (record { base = omega arith; ordered = tt })

called_whole_at : (n h : ℕ) (e : Bindings) (now : NextAction) → Whole (called_machine n h e now)
called_whole_at n zero e now = record { base = omega arith; ordered = tt }
called_whole_at zero (suc h) e now = record { base = omega arith; ordered = tt }
called_whole_at (suc n) (suc h) e now = record { base = omega arith; ordered = tt }

pub called_whole : (M : Machine) (n h : ℕ) (e : Bindings) (now : NextAction) → M ≡ called_machine n h e now → Whole M
called_whole M n h e now x = subst Whole (sym x) (called_whole_at n h e now)

module _ (P : Program) (h : Heap) where
  held_at : (refs : List ℕ) (vs : List Value) → values_at h refs ≡ map plain_value vs → All (IsLive h) refs → All (λ v. IsValue P (plain_value v)) vs → All (IsHeld P h) refs
  held_at [] vs e live are = All-nil (IsHeld P h)
  held_at (r ∷ rs) [] e live are = absurd (cc)
  held_at (r ∷ rs) (v ∷ vs) e live are =
      All-cons (IsHeld P h) r rs
      (record {
        live = live 0 r (omega arith);
        value = subst (IsValue P) (sym (ap (λ l. get_or l 0 (plain_value v)) e)) (are 0 v (omega arith));
      })
      (held_at rs vs (ap (drop 1) e) (All-tail (IsLive h) r rs live) (All-tail (λ x. IsValue P (plain_value x)) v vs are))

module _ (t : RunContext) (P : Program) (same : t.library.program.now ≡ P) (knows : known t.library ≡ library_of P) (o : IsCode t.flat.code) (names : NamesAll P t.flat.code) where
  pub is_setting : IsRunContext t
  is_setting =
      record {
        code = o;
        knows = knows ∙ ap library_of (sym same);
        names = subst (λ p. NamesAll p t.flat.code) (sym same) names;
      }

  pub has_constants : (h : Heap) → values_at h t.constants.items ≡ map plain_value t.flat.code.values.items → All (IsLive h) t.constants.items → HasConstants t h
  has_constants h e live =
      record {
        refs = record { live = live; values = e };
        held = subst (λ p. All (IsHeld p h) t.constants.items) (sym same) (held_at P h t.constants.items t.flat.code.values.items e live (λ k v lt. constant_value P (plain_value (get_or t.flat.code.values.items k v)) (names.constants k v lt) (names.proper k v lt)));
      }

  by_library : (w : RunState) (input : List ℕ) → rest_in t w input ≡ rest_of (events (left (outcome (library_of P) input) t.flat (variables_at t.flat.code t.head) (variables_at t.flat.code t.last) (machine_of t w)))
  by_library w input =
      ap (λ k. rest_of (events (left (outcome k input) t.flat (variables_at t.flat.code t.head) (variables_at t.flat.code t.last) (machine_of t w)))) knows

  module _ (w : RunState) (limits : Limits) (procs : ℕ → Procedure) where
    pub query_asked : (body : Body) → t.head ≡ body.head → t.last ≡ body.last → (q : Procedure) → StandsForQuery (record { program = t.flat; query = body }) procs q → (r : Bool) → r ≡ ready (variables_at t.flat.code body.first) (map nothing_bound (variables_at t.flat.code body.head)) → machine_of t w ≡ first_machine limits.budget limits.depth (suc limits.budget) nothing_bound (first_now body.entry r) → (input : List ℕ) → rest_in t w input ≡ query_rest P limits procs q input
    query_asked body x y q s r is_ready m input =
        by_library w input
        ∙ (λ i. rest_of (events (left (outcome (library_of P) input) t.flat (variables_at t.flat.code (x i)) (variables_at t.flat.code (y i)) (machine_of t w))))
        ∙ query_begins (outcome (library_of P) input) t.flat o procs s.program body q s.query limits.budget limits.depth r (sym is_ready) (machine_of t w) m

    pub main_asked : (k : ℕ) → t.head ≡ (body_at t.flat k).head → t.last ≡ (body_at t.flat k).last → StandsForAll t.flat procs → (r : Bool) → r ≡ ready (variables_at t.flat.code (body_at t.flat k).first) (Some (state [] 0) ∷ None ∷ []) → (e : Bindings) → e ≡ enter (variables_at t.flat.code (body_at t.flat k).head) (variables_at t.flat.code (body_at t.flat k).first) (Some (state [] 0) ∷ None ∷ []) → machine_of t w ≡ called_machine limits.budget limits.depth e (first_now (body_at t.flat k).entry r) → (input : List ℕ) → rest_in t w input ≡ main_rest P limits procs k input
    main_asked k x y s r is_ready e enters m input =
        by_library w input
        ∙ (λ i. rest_of (events (left (outcome (library_of P) input) t.flat (variables_at t.flat.code (x i)) (variables_at t.flat.code (y i)) (machine_of t w))))
        ∙ main_begins (outcome (library_of P) input) t.flat o procs s k (Some (state [] 0) ∷ None ∷ []) limits.budget limits.depth r (sym is_ready) (machine_of t w) e enters m

-- what is seen of a run that isn't broken
pub follows_run : (b : Bool) → b ≡ false → (s : Option Step) (old new : List ℕ → Rest) → ((input : List ℕ) → GivesIf s (old input) (new input)) → FollowsIf s (if b then None else Some old) (if b then None else Some new)
follows_run true e s old new g = absurd (cc)
follows_run false e s old new g = g

-- a good run comes to something
pub something : (old new : Option (List ℕ → Rest)) → IsGood old → FollowsIf None old new → ⊥
something None new good f = f
something (Some a) None good f = f
something (Some a) (Some b) good f = subst IsFine (f good.0).0 good.1
