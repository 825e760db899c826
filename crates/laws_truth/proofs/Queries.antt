-- The query's predicate stands behind the others, and its one mode takes no inputs.
use Rattle.std.proofs.Common.{◌≡◌, ℕ, zero, suc, ◌+◌, ◌<◌, Bool, true, false, List, [], ◌∷◌, ◌++◌, map, length, get_or, replicate, Option, Some, None, refl, sym, ap, ◌∙◌, subst, arith}
use Rattle.std.specs.Prelude.{is_some}
use Rattle.std.specs.Option.{option_map}
use Rattle.std.proofs.lemmas.List.{length-map}
use Rattle.mc_term_data.specs.Plain.{PlainTerm}
use Rattle.mc_program.specs.declared.builtin.Builtin.{Builtin}
use Rattle.mc_model.specs.declared.inst.Sig.{Sig}
use Rattle.laws_sound.specs.Soundness.{NoInputs}
use Rattle.mc_names.specs.Linked.{Linked}
use Rattle.mc_inst_table.specs.Written.{ModeTerm}
use Rattle.mc_signatures.specs.WrittenModes.{PlainMode, modes_of}
use Rattle.mc_signatures.specs.Signatures.{AreSignatures, next_behind, query_signature}
use Rattle.mc_procs.specs.Procedures.{PlainProcs}
use Rattle.mc_modes.specs.Signatures.{mode_in, modes_at, no_mode}
use Rattle.mc_modes.specs.Numbering.{mode_ids}
use Rattle.mc_det_rules.specs.Main.{main_number}
use Rattle.mc_type_phase.specs.declared.judged.TypedClause.{TypedClause}
use Rattle.laws_types.proofs.Places.{back}
use Rattle.mc_state_variables.specs.Numbered.{line_of}
use Rattle.mc_compile.specs.declared.executable.Goal.TheVariants as G
use Rattle.mc_compile.specs.declared.moded.Moded.{Moded}
use Rattle.mc_compile.specs.Linking.{PlainNamed}
use Rattle.mc_compile.specs.Ruling.{IsModed, goal_of, query_determinism, query_number, query_sigs}

pub all_free : (n : ℕ) → NoInputs (replicate n 0)
all_free zero = tt
all_free (suc n) = (refl, all_free n)

mapped_at : (sigs : List Sig) (k : ℕ) → get_or (map (λ (s : Sig). s.modes) sigs) k [] ≡ (get_or sigs k (record { pred = 0; modes = [] })).modes
mapped_at [] k = refl
mapped_at (s ∷ sigs) zero = refl
mapped_at (s ∷ sigs) (suc k) = mapped_at sigs k

signed_many : (Means : ModeTerm → (first last : ℕ) → Type 0) (op : ℕ → Option Builtin) (p n : ℕ) (rows : List (List PlainMode)) (sigs : List Sig) → AreSignatures Means op p n rows sigs → length sigs ≡ length rows
signed_many Means op p n [] [] h = refl
signed_many Means op p n [] (s ∷ sigs) h = absurd h
signed_many Means op p n (ws ∷ rows) [] h = absurd h
signed_many Means op p n (ws ∷ rows) (s ∷ sigs) h = ap suc (signed_many Means op (suc p) (next_behind (op p) n ws) rows sigs h.2)

-- ---- what is run
not_query : (o : Option ℕ) (number : ℕ) (variables : List (List ℕ)) → option_map G.Main o ≡ Some (G.Query number variables) → ⊥
not_query None number variables e = cc
not_query (Some k) number variables e = cc

not_main : (o : Option ℕ) (variables : List (List ℕ)) (number : ℕ) → option_map (λ k. G.Query k variables) o ≡ Some (G.Main number) → ⊥
not_main None variables number e = cc
not_main (Some k) variables number e = cc

pub query_is : (wants : Bool) (procs : PlainProcs) (q : Option ℕ) (names : List (List ℕ)) (number : ℕ) (variables : List (List ℕ)) → goal_of wants procs q names ≡ Some (G.Query number variables) → q ≡ Some number
query_is true procs q names number variables e = absurd (not_query (main_number procs) number variables e)
query_is false procs None names number variables e = cc
query_is false procs (Some k) names number variables e = let same : k ≡ number = cc in ap Some same

main_of : (o : Option ℕ) (number : ℕ) → option_map G.Main o ≡ Some (G.Main number) → o ≡ Some number
main_of None number e = cc
main_of (Some k) number e = let same : k ≡ number = cc in ap Some same

pub main_is : (wants : Bool) (procs : PlainProcs) (q : Option ℕ) (names : List (List ℕ)) (number : ℕ) → goal_of wants procs q names ≡ Some (G.Main number) → main_number procs ≡ Some number
main_is true procs q names number e = main_of (main_number procs) number e
main_is false procs q names number e = absurd (not_main q names number e)

some_goal : (o : Option PlainTerm) → is_some o ≡ true → (goal : PlainTerm) × (o ≡ Some goal)
some_goal None e = cc
some_goal (Some goal) e = (goal, refl)

module _ (first : Bool) (named : PlainNamed) (moded : Moded) (is : IsModed first named moded) where
  abbrev l : Linked
  l = named.files.names

  abbrev query : ℕ
  query = length l.preds

  declared_many : length is.declared ≡ query
  declared_many = signed_many _ _ 0 0 _ is.declared is.signed ∙ length-map l.preds (modes_of l named.files.all)

  -- where there is a query
  module _ (goal : PlainTerm) (some : named.goal ≡ Some goal) where
    abbrev sig : Sig
    sig =
        query_signature query (length (mode_ids moded.whole.program is.declared)) (length moded.whole.variables) (query_determinism first)
        (record { file = length named.files.given; line = line_of goal })

    abbrev no_sig : Sig
    no_sig = record { pred = 0; modes = [] }

    modes_are : modes_at moded.sigs.items query ≡ sig.modes
    modes_are =
        let place : query ≡ length is.declared + 0 = omega (arith, declared_many) in
        ap (λ s. modes_at s query) (is.sigs ∙ ap (λ g. is.declared ++ query_sigs first named moded.whole is.declared g) some)
        ∙ mapped_at (is.declared ++ sig ∷ []) query
        ∙ ap (λ k. (get_or (is.declared ++ sig ∷ []) k no_sig).modes) place
        ∙ ap (λ (s : Sig). s.modes) (back is.declared (sig ∷ []) 0 no_sig)

    pub has_mode : 0 < length (modes_at moded.sigs.items query)
    has_mode = subst (λ ms. 0 < length ms) (sym modes_are) (omega arith)

    pub is_query : (number : ℕ) → moded.query ≡ Some number → number ≡ (mode_in moded.sigs.items query 0).proc
    is_query number e =
        let told : moded.query ≡ Some (length (mode_ids moded.whole.program is.declared)) = is.number ∙ ap (query_number moded.whole is.declared) some in
        let both : Some number ≡ Some (length (mode_ids moded.whole.program is.declared)) = sym e ∙ told in
        let same : number ≡ length (mode_ids moded.whole.program is.declared) = cc in
        same ∙ ap (λ ms. (get_or ms 0 no_mode).proc) (sym modes_are)

    pub no_inputs : NoInputs (mode_in moded.sigs.items query 0).first
    no_inputs = subst NoInputs (ap (λ ms. (get_or ms 0 no_mode).first) (sym modes_are)) (all_free (length moded.whole.variables))

  -- a query is run only where there is one
  pub is_asked : (number : ℕ) → moded.query ≡ Some number → (goal : PlainTerm) × (named.goal ≡ Some goal)
  is_asked number e = by_goal named.goal refl
    where
      by_goal : (o : Option PlainTerm) → named.goal ≡ o → (goal : PlainTerm) × (named.goal ≡ Some goal)
      by_goal None none =
          let told : moded.query ≡ None = is.number ∙ ap (query_number moded.whole is.declared) none in
          let clash : Some number ≡ None = sym e ∙ told in
          cc
      by_goal (Some goal) some = (goal, some)

  pub was_asked : (c : TypedClause) → is.query ≡ Some c → (goal : PlainTerm) × (named.goal ≡ Some goal)
  was_asked c e = some_goal named.goal (sym is.asked ∙ ap is_some e)
