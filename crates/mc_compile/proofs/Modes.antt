-- What the phase of declared modes makes of typed clauses.
use Rattle.std.proofs.Common.{◌≡◌, ℕ, Bool, true, false, true≢false, List, [], ◌∷◌, ◌++◌, map, length, Option, Some, None, Ok, refl, sym, ap, ◌∙◌, subst}
use Rattle.std.specs.Option.{is_some, option_map, option_to_list}
use Rattle.std.specs.Prelude.{Box}
use Rattle.std.specs.declared.alloc.Global.{Global}
use Rattle.std.proofs.lemmas.List.{append-nil, length-map, map-append}
use Rattle.mc_term_data.specs.Plain.{PlainTerm}
use Rattle.mc_program.specs.declared.program.Resolved.{Resolved}
use Rattle.mc_model.specs.declared.inst.Sig.{Sig}
use Rattle.mc_state_variables.specs.Numbered.{line_of}
use Rattle.mc_decl_syntax.specs.Entries.{plain_files}
use Rattle.mc_names.specs.Linked.{plain_names}
use Rattle.mc_type_table.specs.Visibility.{definitions_seen}
use Rattle.mc_goals.specs.Resolved.{typed_clause}
use Rattle.mc_type_phase.specs.Items.{without_clauses}
use Rattle.mc_type_phase.specs.Judging.{AreTyped, typed_clauses}
use Rattle.mc_type_phase.specs.declared.judged.TypedClause.{TypedClause}
use Rattle.mc_signatures.specs.WrittenModes.{plain_written, declared_modes}
use Rattle.mc_signatures.specs.declared.written.WrittenMode.{WrittenMode}
use Rattle.mc_insts.specs.Defining.{plain_definitions, DefinitionsFit}
use Rattle.mc_signatures.specs.MeantModes.{MeansMode}
use Rattle.mc_signatures.specs.Signatures.{AreSignatures, builtin_of, query_signature}
use Rattle.mc_modes.specs.Numbering.{mode_ids}
use Rattle.mc_compile.specs.Reading.{plain_goal}
use Rattle.mc_core_program.specs.Wholes.{numbered_clause, IsWhole}
use Rattle.mc_core_program.specs.declared.whole_program_program.WholeProgram.{WholeProgram}
use Rattle.mc_compile.specs.declared.moded.Moded.{Moded}
use Rattle.mc_compile.specs.Phases.{Tells, Viewed}
use Rattle.mc_compile.specs.Sources.{Sources}
use Rattle.mc_compile.specs.declared.named.Named.{Named}
use Rattle.mc_compile.specs.Linking.{PlainNamed, plain_named}
use Rattle.mc_compile.specs.Typing.{PlainTyped}
use Rattle.mc_compile.specs.Checking.{items_of, clauses_left_out}
use Rattle.mc_compile.specs.Ruling.{numbered, query_determinism, query_number, query_sigs, IsModed, Modes}
use Rattle.mc_compile.specs.code.Parts.{IsParted}
use Rattle.mc_compile.proofs.Queries.{some_goal}
use Rattle.mc_compile.proofs.WithoutClauses.{declared_modes_same}

-- the query's clause among those that are typed
record HasQuery (all clauses : List TypedClause) (has : Bool) (query : Option Resolved) : Type 0 where
  one : Option TypedClause
  all_are : all ≡ clauses ++ option_to_list one
  is_there : is_some one ≡ has
  is : option_map (λ (c : TypedClause). typed_clause c.resolved) one ≡ option_map typed_clause query

has_query : (all : List TypedClause) (has : Bool) (clauses : List TypedClause) (query : Option Resolved) → IsParted all has clauses query → HasQuery all clauses has query
has_query all false clauses None p = record { one = None; all_are = p ∙ sym (append-nil clauses); is_there = refl; is = refl }
has_query all true clauses (Some query) p = record { one = Some p.0; all_are = p.2; is_there = refl; is = ap (λ (r : Resolved). Some (typed_clause r)) p.1 }
has_query all false clauses (Some query) p = absurd p
has_query all true clauses None p = absurd p

-- the query's clause is the last one
pub parted_of :
    (all clauses : List (Box TypedClause Global)) (has : Bool) (query : Box TypedClause Global)
    → has ≡ true → all ≡ clauses ++ query ∷ []
    → IsParted (typed_clauses all) has (typed_clauses clauses) (Some query.value.resolved)
parted_of all clauses true query e is =
    (query.value, refl, ap typed_clauses is ∙ map-append (λ (c : Box TypedClause Global). c.value) clauses (query ∷ []))
parted_of all clauses false query e is = absurd (true≢false (sym e))

-- what is made of what is linked and of its typed clauses
record IsMade (first : Bool) (named : PlainNamed) (all clauses : List TypedClause) (query : Option Resolved) (declared : List Sig) (m : Moded) : Type 0 where
  parted : IsParted all (is_some named.goal) clauses query
  whole : IsWhole named.files.names (map numbered clauses) (option_map typed_clause query) m.whole
  signed : AreSignatures (MeansMode named.files.names (plain_definitions m.defs)) (builtin_of m.whole.program.preds) 0 0 (declared_modes named.files.names named.files.all) declared
  defined : DefinitionsFit 4 (plain_definitions m.defs)
  sigs : m.sigs.items ≡ declared ++ query_sigs first named m.whole declared named.goal
  number : m.query ≡ query_number m.whole declared named.goal

-- the signature of the query, whose number is that of the given files
query_same :
    (first : Bool) (named : PlainNamed) (whole : WholeProgram) (sigs : List Sig) (goal : Option PlainTerm)
    → query_sigs first (clauses_left_out named) whole sigs goal ≡ query_sigs first named whole sigs goal
query_same first named whole sigs None = refl
query_same first named whole sigs (Some goal) =
    ap
    (λ (n : ℕ).
    query_signature (length named.files.names.preds) (length (mode_ids whole.program sigs)) (length whole.variables) (query_determinism first)
    (record { file = n; line = line_of goal })
    ∷ [])
    (length-map named.files.given without_clauses)

-- of the files without their clauses the same is made
is_moded :
    (first : Bool) (named : PlainNamed) (all clauses : List TypedClause) (query : Option Resolved) (declared : List Sig) (m : Moded)
    → AreTyped named.files.names (definitions_seen named.files.names) (items_of named) all
    → IsMade first (clauses_left_out named) all clauses query declared m → IsModed first named m
is_moded first named all clauses query declared m typed made =
    let q = has_query all (is_some named.goal) clauses query made.parted in
    let l = named.files.names in
    record {
      clauses = clauses;
      query = q.one;
      typed = subst (λ cs. AreTyped l (definitions_seen l) (items_of named) cs) q.all_are typed;
      asked = q.is_there;
      whole = subst (λ o. IsWhole l (map numbered clauses) o m.whole) (sym q.is) made.whole;
      declared = declared;
      signed =
          subst (λ ms. AreSignatures (MeansMode l (plain_definitions m.defs)) (builtin_of m.whole.program.preds) 0 0 ms declared)
          (declared_modes_same l named.files.all) made.signed;
      defined = made.defined;
      sigs = made.sigs ∙ ap (λ qs. declared ++ qs) (query_same first named m.whole declared named.goal);
      number = made.number;
    }

-- what is put in order is what the phase makes
pub modes_are : (s : Sources) (first : Bool) (typed : PlainTyped) (m : Moded) → s.first ≡ first → IsModed first typed.named m
    → Tells (Modes s) (Viewed (λ x. x)) typed (Ok m)
modes_are s first typed m e moded =
    (m, refl, record { moded = m; is_moded = subst (λ b. IsModed b typed.named m) (sym e) moded; is = refl })

-- the same of the values that the phase makes: pairs of the clauses, and the modes that are written
pub modes_made :
    (first : Bool) (named : Named) (plain : PlainNamed) (all clauses : List TypedClause) (query : Option Resolved) (has : Bool) (pairs : List (ℕ × Resolved)) (rows : List (List WrittenMode)) (declared : List Sig) (m : Moded)
    → plain_named named ≡ clauses_left_out plain
    → AreTyped plain.files.names (definitions_seen plain.files.names) (items_of plain) all
    → has ≡ is_some named.goal
    → IsParted all has clauses query
    → map numbered_clause pairs ≡ map numbered clauses
    → IsWhole (plain_names named.names) (map numbered_clause pairs) (option_map typed_clause query) m.whole
    → map (map plain_written) rows ≡ declared_modes (plain_names named.names) (plain_files named.files)
    → AreSignatures (MeansMode (plain_names named.names) (plain_definitions m.defs)) (builtin_of m.whole.program.preds) 0 0 (map (map plain_written) rows) declared
    → DefinitionsFit 4 (plain_definitions m.defs)
    → m.sigs.items ≡ declared ++ query_sigs first (plain_named named) m.whole declared (plain_goal named.goal)
    → m.query ≡ query_number m.whole declared (plain_goal named.goal)
    → IsModed first plain m
modes_made first named plain all clauses query has pairs rows declared m left typed there parted same whole written signed defined sigs number =
    let l = plain_names named.names in
    let made : IsMade first (plain_named named) all clauses query declared m =
    record {
      parted = subst (λ (b : Bool). IsParted all b clauses query) (there ∙ sym (some_goal named.goal)) parted;
      whole = subst (λ cs. IsWhole l cs (option_map typed_clause query) m.whole) same whole;
      signed = subst (λ ws. AreSignatures (MeansMode l (plain_definitions m.defs)) (builtin_of m.whole.program.preds) 0 0 ws declared) written signed;
      defined = defined;
      sigs = sigs;
      number = number;
    }
    in
    is_moded first plain all clauses query declared m typed
    (subst (λ (n : PlainNamed). IsMade first n all clauses query declared m) left made)
