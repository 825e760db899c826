-- What is left of a run that begins is the run that was asked for.
use Rattle.std.proofs.Common.{◌≡◌, ℕ, zero, suc, Bool, true, false, refl, sym, ap, subst, ◌∙◌, Option, None, List, [], ◌∷◌, map, nat_eq, if◌then◌else◌}
use Rattle.std.proofs.Math.Path.{fun_ext}
use Rattle.mc_program.specs.Values.{Val}
use Rattle.mc_program.specs.declared.builtin.Builtin.{Builtin}
use Rattle.mc_model.specs.EventList as L
use Rattle.mc_model.specs.Outcomes.{Outcome}
use Rattle.mc_model.specs.Scheduled.{Procedure}
use Rattle.mc_model.specs.Stream.{Bindings, nothing_bound, is_bound, ready, enter, leave, pruned_to, stream, calls, body_items, run_query, run_call}
use Rattle.mc_flat_code.specs.Ticked.{events}
use Rattle.mc_flat_code.specs.Running.{variables_at, body_at, IsCode}
use Rattle.mc_flat_code.specs.Standing.{StandsFor, StandsForAll}
use Rattle.mc_flat_code.specs.declared.code.Body.{Body}
use Rattle.mc_flat_code.specs.declared.code.FlatProgram.{FlatProgram}
use Rattle.mc_plain.specs.code.Machine.{Machine, left}
use Rattle.mc_plain.specs.code.Beginnings.{first_machine, called_machine, first_now}
use Rattle.mc_plain.specs.Rest.{Rest, rest_of, IsFine, Gives}
use Rattle.mc_model.specs.declared.run.Step.{Step}
use Rattle.mc_model.specs.declared.run.Step.TheVariants as S
use Rattle.mc_plain.proofs.Starts.{body_begun}

abbrev nothing : Option Val
nothing = None

either_none : (b : Bool) → (if b then nothing else nothing) ≡ nothing
either_none true = refl
either_none false = refl

none_or : (b : Bool) (o : Option Val) → o ≡ None → (if b then None else o) ≡ None
none_or true o e = refl
none_or false o e = e

-- a body that is entered without values begins with nothing bound
pub nothing_entered : (ys is xs : List ℕ) (x : ℕ) → enter ys is (map (λ (y : ℕ). None) xs) x ≡ None
nothing_entered [] is xs x = refl
nothing_entered (y ∷ ys) [] xs x = refl
nothing_entered (y ∷ ys) (i ∷ is) [] x = refl
nothing_entered (y ∷ ys) (i ∷ is) (z ∷ zs) x =
    ap (λ o. if nat_eq x y then o else enter ys is (map (λ (k : ℕ). None) zs) x) (either_none (is_bound i))
    ∙ none_or (nat_eq x y) (enter ys is (map (λ (k : ℕ). None) zs) x) (nothing_entered ys is zs x)

-- what is left after a step reads no unbound variable either
pub gives_fine : (s : Step) (old new : Rest) → Gives s old new → IsFine old → IsFine new
gives_fine (S.Answer vs) old new g fine = subst IsFine g fine
gives_fine (S.Wrote t) old new g fine = subst IsFine g fine
gives_fine S.End old new g fine = subst IsFine (g.0 ∙ sym g.1) fine
gives_fine (S.Stopped w) old new g fine = subst IsFine (sym g.1) fine
gives_fine (S.Wants k) old new g fine = subst IsFine (sym g.1) fine

-- a list that isn't stuck reads no unbound variable
pub each_fine : (xs : L.Items (List (Option Val))) → L.Each (λ (os : List (Option Val)). Unit {0}) xs → IsFine (rest_of xs)
each_fine L.End e = tt
each_fine L.Stuck e = e
each_fine (L.Stopped h) e = tt
each_fine (L.Answer a xs) e = each_fine xs e.1
each_fine (L.Called c xs) e = each_fine xs e
each_fine (L.Wrote t xs) e = each_fine xs e
each_fine (L.Read k xs) e = each_fine xs e

module _ (outcome : Builtin → List Val → Outcome) (f : FlatProgram) (o : IsCode f.code) (procs : ℕ → Procedure) (s : StandsForAll f procs) (body : Body) (p : Procedure) (b : StandsFor f.code body p) where
  abbrev rest : Machine → Rest
  rest M = rest_of (events (left outcome f (variables_at f.code body.head) (variables_at f.code body.last) M))

  abbrev entered : List (Option Val) → Bindings
  entered vs = enter (variables_at f.code body.head) (variables_at f.code body.first) vs

  -- a body begins where its inputs are there, and else is stuck
  body_begins : (n m h : ℕ) (vs : List (Option Val)) (r : Bool) → ready (variables_at f.code body.first) vs ≡ r → rest (first_machine n h m (entered vs) (first_now body.entry r)) ≡ rest_of (L.cut n (body_items outcome (calls outcome procs m) h p vs))
  body_begins n m h vs true r = ap rest_of (body_begun outcome f procs o s body p b n m h vs r)
  body_begins n m h vs false r =
      ap (λ t. rest_of (L.cut n (if t then pruned_to p.det.committed (L.bind (stream outcome (calls outcome procs m) h p.body (enter p.head p.first vs)) (λ a. L.Answer (leave p.head p.last a) L.End)) else L.Stuck))) (sym r ∙ ap (λ l. ready l vs) b.first.elements)

  -- a query
  pub query_begins : (n h : ℕ) (r : Bool) → ready (variables_at f.code body.first) (map (λ (x : ℕ). None) (variables_at f.code body.head)) ≡ r → (M : Machine) → M ≡ first_machine n h (suc n) nothing_bound (first_now body.entry r) → rest M ≡ rest_of (run_query outcome procs n h p)
  query_begins n h r x M e =
      ap rest e
      ∙ ap (λ g. rest (first_machine n h (suc n) g (first_now body.entry r))) (sym (fun_ext (λ y. nothing_entered (variables_at f.code body.head) (variables_at f.code body.first) p.head y)))
      ∙ body_begins n (suc n) h (map (λ (y : ℕ). None) p.head) r (ap (λ l. ready (variables_at f.code body.first) (map (λ (y : ℕ). None) l)) (sym b.head.elements) ∙ x)

module _ (outcome : Builtin → List Val → Outcome) (f : FlatProgram) (o : IsCode f.code) (procs : ℕ → Procedure) (s : StandsForAll f procs) (k : ℕ) (vs : List (Option Val)) where
  abbrev body : Body
  body = body_at f k

  -- a call
  call_begins : (n h : ℕ) (r : Bool) → ready (variables_at f.code body.first) vs ≡ r → rest outcome f o procs s body (procs k) (s k) (called_machine n h (enter (variables_at f.code body.head) (variables_at f.code body.first) vs) (first_now body.entry r)) ≡ rest_of (run_call outcome procs n h k vs)
  call_begins n zero r x = refl
  call_begins zero (suc h) r x = refl
  call_begins (suc n) (suc h) r x = body_begins outcome f o procs s body (procs k) (s k) n (suc n) h vs r x

  pub main_begins : (n h : ℕ) (r : Bool) → ready (variables_at f.code body.first) vs ≡ r → (M : Machine) (e : Bindings) → e ≡ enter (variables_at f.code body.head) (variables_at f.code body.first) vs → M ≡ called_machine n h e (first_now body.entry r) → rest outcome f o procs s body (procs k) (s k) M ≡ rest_of (run_call outcome procs n h k vs)
  main_begins n h r x M e y z =
      ap (rest outcome f o procs s body (procs k) (s k)) (z ∙ ap (λ g. called_machine n h g (first_now body.entry r)) y) ∙ call_begins n h r x
