-- What is put in order is one program, in one list of modes.
use Rattle.std.proofs.Common.{◌≡◌, ℕ, Bool, List, [], ◌∷◌, ◌++◌, map, length, get_or, Option, Some, None, refl, sym, ap, ap₂, ◌∙◌, subst}
use Rattle.std.specs.List.{flat_map}
use Rattle.std.proofs.lemmas.List.{length-map, append-nil}
use Rattle.mc_term_data.specs.Plain.{PlainTerm}
use Rattle.mc_source.specs.declared.det.Det.{Det}
use Rattle.mc_source.specs.declared.place.Place.{Place}
use Rattle.mc_program.specs.Programs.{Source, Predicate}
use Rattle.mc_program.specs.PlainPrograms.{plain_pred, plain_program, no_pred}
use Rattle.mc_program.specs.declared.builtin.Builtin.{Builtin}
use Rattle.mc_program.specs.declared.program.Pred.{Pred}
use Rattle.mc_program.specs.declared.program.Program.{Program}
use Rattle.mc_model.specs.Lists.{from}
use Rattle.mc_model.specs.declared.inst.Sig.{Sig}
use Rattle.mc_state_variables.specs.Numbered.{line_of}
use Rattle.mc_type_table.specs.Visibility.{definitions_seen}
use Rattle.mc_insts.specs.Defining.{plain_definitions}
use Rattle.mc_signatures.specs.WrittenModes.{declared_modes, modes_of}
use Rattle.mc_signatures.specs.MeantModes.{MeansMode}
use Rattle.mc_signatures.specs.Signatures.{AreSignatures, builtin_of, query_signature}
use Rattle.mc_modes.specs.Signatures.{modes_at}
use Rattle.mc_modes.specs.Numbering.{ids_of, unless_builtin, mode_ids}
use Rattle.mc_modes.specs.declared.modes.ModeId.{ModeId}
use Rattle.mc_compile.specs.declared.moded.Moded.{Moded}
use Rattle.mc_compile.specs.Linking.{PlainNamed}
use Rattle.mc_compile.specs.Checking.{items_of}
use Rattle.mc_compile.specs.Ruling.{query_determinism, query_number, query_sigs, IsModed}
use Rattle.mc_analysis.specs.Rules.{AnalysisGives}
use Rattle.laws_one_answer.specs.OneAnswer.{OnePlainAnswer}
use Rattle.laws_one_answer.specs.MeantSigs.{MeantSigsAreOne}
use Rattle.laws_one_answer.specs.ModesMeanOne.{NodesAreOne, SigsAreOne, ArePlaced}
use Rattle.laws_one_answer.specs.OneModed.{ModedIsOne, ModedAreOne, OneModedAnswer}
use Rattle.laws_one_answer.specs.OneWhole.{WholeIsOne, WholesAreOne}
use Rattle.laws_one_answer.specs.WholePrograms.{SignaturesArePlaced}
use Rattle.laws_one_answer.proofs.SigsAreOne.{ids_one}

-- ---- numbers of modes, of programs that are one
abbrev ids-in : List Sig → Source → ℕ → List ModeId
ids-in sigs S n = flat_map (λ (p : ℕ). unless_builtin (S.preds p).builtin (ids_of p (from 0 (length (modes_at sigs p))))) (from 0 n)

many-preds : (P Q : Program) → map plain_pred Q.preds ≡ map plain_pred P.preds → length Q.preds ≡ length P.preds
many-preds P Q e = sym (length-map Q.preds plain_pred) ∙ ap length e ∙ length-map P.preds plain_pred

ids-of-one : (P Q : Program) (sigs : List Sig) → plain_program Q ≡ plain_program P → map plain_pred Q.preds ≡ map plain_pred P.preds → mode_ids Q sigs ≡ mode_ids P sigs
ids-of-one P Q sigs e f = ap₂ (λ S n. ids-in sigs S n) e (many-preds P Q f)

builtins-are-one : (ps qs : List Pred) → map plain_pred qs ≡ map plain_pred ps → builtin_of qs ≡ builtin_of ps
builtins-are-one ps qs e = ap (λ (all : List Predicate). (λ (p : ℕ). (get_or all p no_pred).builtin)) e

module _ (wholes : WholesAreOne) (written : MeantSigsAreOne) (placed : SignaturesArePlaced) (first : Bool) (named : PlainNamed) (m n : Moded) (a : IsModed first named m) (b : IsModed first named n) where
  abbrev Ones : List Sig → List Sig → Type 0
  Ones = SigsAreOne (NodesAreOne m.whole.program (plain_definitions m.defs) (plain_definitions n.defs))

  one : WholeIsOne m.whole n.whole
  one = wholes named.files.names (definitions_seen named.files.names) (items_of named) a.clauses b.clauses a.query b.query m.whole n.whole a.typed b.typed (a.asked ∙ sym b.asked) a.whole b.whole

  -- the declared modes, by the same builtins
  signed-too : AreSignatures (MeansMode named.files.names (plain_definitions n.defs)) (builtin_of m.whole.program.preds) 0 0 (declared_modes named.files.names named.files.all) b.declared
  signed-too =
      let Q : (ℕ → Option Builtin) → Type 0 = λ op. AreSignatures (MeansMode named.files.names (plain_definitions n.defs)) op 0 0 (declared_modes named.files.names named.files.all) b.declared in
      subst Q (builtins-are-one m.whole.program.preds n.whole.program.preds one.program.preds) b.signed

  declared-are-one : Ones a.declared b.declared
  declared-are-one =
      (written named.files.names named.files.all m.whole.program (plain_definitions m.defs) (plain_definitions n.defs) (builtin_of m.whole.program.preds) a.declared b.declared a.signed signed-too).0

  with-query : (p k many : ℕ) (d : Option Det) (place : Place) → Ones (a.declared ++ query_signature p k many d place ∷ []) (b.declared ++ query_signature p k many d place ∷ [])
  with-query =
      (written named.files.names named.files.all m.whole.program (plain_definitions m.defs) (plain_definitions n.defs) (builtin_of m.whole.program.preds) a.declared b.declared a.signed signed-too).1

  same-ids : mode_ids n.whole.program b.declared ≡ mode_ids m.whole.program a.declared
  same-ids =
      ids-of-one m.whole.program n.whole.program b.declared one.program.source one.program.preds
      ∙ ids_one (NodesAreOne m.whole.program (plain_definitions m.defs) (plain_definitions n.defs)) m.whole.program a.declared b.declared declared-are-one

  -- the query's
  query-sigs : (goal : Option PlainTerm) → Ones (a.declared ++ query_sigs first named m.whole a.declared goal) (b.declared ++ query_sigs first named n.whole b.declared goal)
  query-sigs None = subst (λ ss. Ones ss (b.declared ++ [])) (sym (append-nil a.declared)) (subst (λ ts. Ones a.declared ts) (sym (append-nil b.declared)) declared-are-one)
  query-sigs (Some goal) =
      let place : Place = record { file = length named.files.given; line = line_of goal } in
      let Q : ℕ → ℕ → Type 0 = λ k many. Ones (a.declared ++ query_signature (length named.files.names.preds) (length (mode_ids m.whole.program a.declared)) (length m.whole.variables) (query_determinism first) place ∷ [])
      (b.declared ++ query_signature (length named.files.names.preds) k many (query_determinism first) place ∷ []) in
      let start : Q (length (mode_ids m.whole.program a.declared)) (length m.whole.variables) =
      with-query (length named.files.names.preds) (length (mode_ids m.whole.program a.declared)) (length m.whole.variables) (query_determinism first) place in
      subst (λ many. Q (length (mode_ids n.whole.program b.declared)) many) (sym (ap length one.variables)) (subst (λ k. Q k (length m.whole.variables)) (sym (ap length same-ids)) start)

  query-placed : (goal : Option PlainTerm) → ArePlaced (length (declared_modes named.files.names named.files.all)) (query_sigs first named m.whole a.declared goal)
  query-placed None = tt
  query-placed (Some goal) = (sym (length-map named.files.names.preds (modes_of named.files.names named.files.all)), tt)

  one-number : (goal : Option PlainTerm) → query_number n.whole b.declared goal ≡ query_number m.whole a.declared goal
  one-number None = refl
  one-number (Some goal) = ap (λ (ids : List ModeId). Some (length ids)) same-ids

  pub one-moded : ModedIsOne m n
  one-moded = record {
    whole = one;
    sigs = subst (λ ss. Ones ss n.sigs.items) (sym a.sigs) (subst (λ ts. Ones (a.declared ++ query_sigs first named m.whole a.declared named.goal) ts) (sym b.sigs) (query-sigs named.goal));
    placed =
        subst (λ ss. ArePlaced 0 ss) (sym a.sigs)
        (placed named.files.names (plain_definitions m.defs) (builtin_of m.whole.program.preds) (declared_modes named.files.names named.files.all) a.declared (query_sigs first named m.whole a.declared named.goal) a.signed (query-placed named.goal));
    query = b.number ∙ one-number named.goal ∙ sym a.number;
  }

pub moded-are-one : WholesAreOne → MeantSigsAreOne → SignaturesArePlaced → ModedAreOne
moded-are-one wholes written placed first named m n a b = one-moded wholes written placed first named m n a b

-- ---- what comes of what is put in order
pub one-moded-answer : ModedAreOne → OnePlainAnswer → OneModedAnswer
one-moded-answer one answer runs first named m n a b apart met r s here there =
    let both : ModedIsOne m n = one first named m n a b in
    let A : List Bool → Type 0 = λ exported. AnalysisGives n.whole.program (plain_definitions n.defs) n.sigs.items n.whole.goals.items exported runs s in
    answer m.whole.program n.whole.program (plain_definitions m.defs) (plain_definitions n.defs) m.sigs.items n.sigs.items m.whole.goals.items n.whole.goals.items m.whole.exported.items runs
    both.whole.program both.whole.goals both.sigs a.whole.goals apart met both.placed r s here (subst A both.whole.exported there)
