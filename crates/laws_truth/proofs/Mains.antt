-- The procedure that `run` calls is of main's form, so it may be called with io's first state.
use Rattle.std.proofs.Common.{◌≡◌, inl, inr, ℕ, zero, suc, ◌+◌, ◌<◌, nat_eq, Bool, true, false, ◌&&◌, if◌then◌else◌, List, [], ◌∷◌, length, Some, refl, sym, ap, ◌∙◌, subst, arith}
use Rattle.std.specs.List.{find}
use Rattle.std.proofs.lemmas.Bool.{and_parts, eqb-true}
use Rattle.mc_program.specs.Programs.{TypeTerm, int_type, char_type, string_type, state_type, variable_type, union_type, Predicate}
use Rattle.mc_program.specs.Values.{Val}
use Rattle.mc_program.specs.declared.builtin.Builtin.{Builtin}
use Rattle.mc_model.specs.Good.{System, TypeChoice, Given, TakesState, types_of}
use Rattle.mc_model.specs.Insts.{AllowsConstants}
use Rattle.mc_model.specs.Lists.{In, from}
use Rattle.mc_model.specs.Outcomes.{Outcome, fails}
use Rattle.mc_model.specs.Scheduled.{Procedure}
use Rattle.mc_accepted.specs.DeterminismFaults.{are_states, is_det_or_cc_multi, is_main, is_main_name, takes_states}
use Rattle.mc_accepted.specs.Fits.{FitsInsts}
use Rattle.mc_accepted.specs.Inferred.{DeclaredProcedure}
use Rattle.mc_accepted.specs.Ordered.{is_state, zipped}
use Rattle.mc_procs.specs.Procedures.{PlainProcs, as_system}
use Rattle.mc_det.specs.Determinisms.{declared_procedure}
use Rattle.mc_det_rules.specs.Main.{main_number}
use Rattle.laws_truth.specs.ProgramTruth.{first_state}

-- ---- the first that is main
found : (test : ℕ → Bool) (ks : List ℕ) (k : ℕ) → find test ks ≡ Some k → (test k ≡ true) × In k ks
found test [] k e = cc
found test (j ∷ ks) k e = at (test j) refl (found test ks k) e
  where
    at : (t : Bool) → test j ≡ t → (find test ks ≡ Some k → (test k ≡ true) × In k ks) → (if t then Some j else find test ks) ≡ Some k → (test k ≡ true) × In k (j ∷ ks)
    at true h behind e = let same : j ≡ k = cc in (subst (λ i. test i ≡ true) same h, inl (sym same))
    at false h behind e = let rest = behind e in (rest.0, inr rest.1)

below : (k first many : ℕ) → In k (from first many) → k < first + many
below k first zero i = absurd i
below k first (suc many) (inl e) = omega (arith, e)
below k first (suc many) (inr i) = omega (arith, below k (suc first) many i)

abbrev pub always_fails : Builtin → List Val → Outcome
always_fails op vs = fails

pub main_there : (q : PlainProcs) (number : ℕ) → main_number q ≡ Some number → (is_main (as_system always_fails q) (declared_procedure q.added number) ≡ true) × (number < length q.added)
main_there q number e =
    let h = found (λ k. is_main (as_system always_fails q) (declared_procedure q.added k)) (from 0 (length q.added)) number e in
    (h.0, omega (arith, below number 0 (length q.added) h.1))

-- ---- its types and its modes
state_is : (t : TypeTerm) → is_state t ≡ true → t ≡ state_type
state_is int_type e = cc
state_is char_type e = cc
state_is string_type e = cc
state_is state_type e = refl
state_is (variable_type v) e = cc
state_is (union_type u ts) e = cc

two_states : (ts : List TypeTerm) → are_states ts ≡ true → ts ≡ state_type ∷ state_type ∷ []
two_states [] e = cc
two_states (s ∷ []) e = cc
two_states (s ∷ t ∷ u ∷ ts) e = cc
two_states (s ∷ t ∷ []) e =
    let both = and_parts (is_state s) (is_state t) e in
    let first : s ≡ state_type = state_is s both.0 in
    let last : t ≡ state_type = state_is t both.1 in
    cc

record AreMain (is ls : List ℕ) : Type 0 where
  first : is ≡ 2 ∷ 0 ∷ []
  last : ls ≡ 3 ∷ 2 ∷ []

main_modes : (first last : List ℕ) → length first ≡ 2 → length last ≡ 2 → takes_states (zipped first last) ≡ true → AreMain first last
main_modes [] last many also e = cc
main_modes (a ∷ []) last many also e = absurd (omega (arith, many))
main_modes (a ∷ b ∷ c ∷ first) last many also e = absurd (omega (arith, many))
main_modes (a ∷ b ∷ []) [] many also e = cc
main_modes (a ∷ b ∷ []) (c ∷ []) many also e = absurd (omega (arith, also))
main_modes (a ∷ b ∷ []) (c ∷ d ∷ f ∷ last) many also e = absurd (omega (arith, also))
main_modes (a ∷ b ∷ []) (c ∷ d ∷ []) many also e =
    let both = and_parts (nat_eq a 2 && nat_eq c 3) (nat_eq b 0 && nat_eq d 2) e in
    let di = and_parts (nat_eq a 2) (nat_eq c 3) both.0 in
    let uo = and_parts (nat_eq b 0) (nat_eq d 2) both.1 in
    let at_a : a ≡ 2 = eqb-true a 2 di.0 in
    let at_c : c ≡ 3 = eqb-true c 3 di.1 in
    let at_b : b ≡ 0 = eqb-true b 0 uo.0 in
    let at_d : d ≡ 2 = eqb-true d 2 uo.1 in
    record { first = cc; last = cc }

-- what is main is so of any outcomes
record IsMain (ts : List TypeTerm) (p : Procedure) : Type 0 where
  types : ts ≡ state_type ∷ state_type ∷ []
  modes : takes_states (zipped p.first p.last) ≡ true

is_main_is : (S : System) (d : DeclaredProcedure) → is_main S d ≡ true → IsMain (S.world.source.preds d.procedure.pred).types d.procedure
is_main_is S d e =
    let declared : Predicate = S.world.source.preds d.procedure.pred in
    let moded : Bool = takes_states (zipped d.procedure.first d.procedure.last) in
    let promised : Bool = is_det_or_cc_multi d.declared in
    let types : Bool = are_states declared.types in
    let name : Bool = is_main_name declared.name in
    let in_first = and_parts d.exported (nat_eq d.at.file 0 && (name && (types && (moded && promised)))) e in
    let named = and_parts (nat_eq d.at.file 0) (name && (types && (moded && promised))) in_first.1 in
    let typed = and_parts name (types && (moded && promised)) named.1 in
    let both = and_parts types (moded && promised) typed.1 in
    record { types = two_states declared.types both.0; modes = (and_parts moded promised both.1).0 }

-- ---- io's first state is what it takes
module _ (S : System) (insts : FitsInsts S.insts) (θ : TypeChoice) where
  allows : AllowsConstants (S.insts 2)
  allows = subst AllowsConstants (sym insts.is_unique) tt

  takes_first : Given S θ (2 ∷ 0 ∷ []) (state_type ∷ state_type ∷ []) first_state
  takes_first = ((λ h. (h, (omega arith, refl), allows)), ((λ h. absurd (h refl)), tt))

  pub given_first : (p : Procedure) → TakesState p → types_of S p ≡ state_type ∷ state_type ∷ [] → Given S θ p.first (types_of S p) first_state
  given_first p takes types =
      subst (λ ts. Given S θ p.first ts first_state) (sym types)
      (subst (λ is. Given S θ is (state_type ∷ state_type ∷ []) first_state) (sym takes.first) takes_first)

-- ---- the main of a system
pub record IsMainOf (S : System) (number : ℕ) : Type 0 where
  pub there : number < S.count
  pub takes : TakesState (S.procs number)
  pub types : types_of S (S.procs number) ≡ state_type ∷ state_type ∷ []

pub main_is_main : (S : System) (d : DeclaredProcedure) (number : ℕ) → number < S.count → is_main S d ≡ true → (S.procs number).pred ≡ d.procedure.pred → (S.procs number).first ≡ d.procedure.first → (S.procs number).last ≡ d.procedure.last → length (S.procs number).first ≡ length (types_of S (S.procs number)) → length (S.procs number).last ≡ length (types_of S (S.procs number)) → IsMainOf S number
main_is_main S d number there main same_pred same_first same_last first_many last_many =
    let p : Procedure = S.procs number in
    let is = is_main_is S d main in
    let types : types_of S p ≡ state_type ∷ state_type ∷ [] = ap (λ k. (S.world.source.preds k).types) same_pred ∙ is.types in
    let two : length (types_of S p) ≡ 2 = ap length types in
    let modes = main_modes d.procedure.first d.procedure.last (ap length (sym same_first) ∙ first_many ∙ two) (ap length (sym same_last) ∙ last_many ∙ two) is.modes in
    record {
      there = there;
      takes = record { first = same_first ∙ modes.first; last = same_last ∙ modes.last };
      types = types;
    }
