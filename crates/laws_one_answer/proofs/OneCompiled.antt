-- What is put in order of what is compiled has what the law of one answer asks for; so phase by phase sources
-- are compiled to one thing.
use Rattle.std.proofs.Common.{◌≡◌, ℕ, Bool, true, false, List, [], ◌∷◌, ◌++◌, map, length, Option, Some, None, Result, Ok, Err, refl, sym, ap, ap₂, ◌∙◌, subst}
use Rattle.std.specs.Option.{option_map}
use Rattle.mc_source.specs.Rules.{Fault, broken_at}
use Rattle.mc_source.specs.declared.rule.Broken.{Broken}
use Rattle.mc_program.specs.Programs.{TypeTerm}
use Rattle.mc_program.specs.PlainPrograms.{plain_program}
use Rattle.mc_program.specs.declared.program.Program.{Program}
use Rattle.mc_accepted.specs.Fits.{EachClauseHasScopes}
use Rattle.mc_accepted.specs.NormalTypes as N
use Rattle.mc_insts.specs.Defining.{plain_definitions}
use Rattle.mc_decl_syntax.specs.Entries.{File}
use Rattle.mc_names.specs.Linked.{Linked}
use Rattle.mc_type_table.specs.Rules.{type_faults}
use Rattle.mc_goals.specs.Resolved.{typed_clause}
use Rattle.laws_types.proofs.Fitting.{constructors_are_linked}
use Rattle.mc_type_phase.specs.declared.judged.TypedClause.{TypedClause}
use Rattle.mc_inst_table.specs.Rules.{AreInstFaults, no_item, item_then, InstSays, has_free, unfounded, is_sound, InstItem, items_from}
use Rattle.laws_order.specs.SomeTest.{TypesMet}
use Rattle.mc_procs.specs.Procedures.{PlainProcs}
use Rattle.mc_analysis.specs.Rules.{AnalysisGives}
use Rattle.mc_analysis.specs.declared.rules.AnalysisResult.{AnalysisResult}
use Rattle.mc_analysis.specs.declared.rules.AnalysisResult.TheVariants as R
use Rattle.laws_types.specs.KnownCandidates.{ConstructorsAreNumbered}
use Rattle.laws_types.proofs.JudgedPrograms.{judged_programs_fit}
use Rattle.mc_compile.specs.declared.executable.Goal.TheVariants as G
use Rattle.mc_compile.specs.declared.moded.Moded.{Moded}
use Rattle.mc_compile.specs.Phases.{Refusal, Breaks, unless_broken, Then, stopped, went_on, AtMostOne}
use Rattle.mc_compile.specs.Sources.{Sources}
use Rattle.mc_compile.specs.Reading.{Reads}
use Rattle.mc_compile.specs.Linking.{PlainNamed, Links, library_behind, linking_rules_of, linked_with}
use Rattle.mc_compile.specs.Typing.{PlainTyped, Types, typed_as}
use Rattle.mc_compile.specs.Checking.{Clauses}
use Rattle.mc_compile.specs.Ruling.{PlainExecutable, IsModed, Insts, Modes, Procedures, executable, goal_of, numbered}
use Rattle.mc_compile.specs.Compiling.{Compiles}
use Rattle.mc_compile.proofs.Chains.{unbroken, unbroken_made}
use Rattle.laws_truth.proofs.Clauses.{typed_clauses_apart}
use Rattle.laws_truth.proofs.Modes.{has_scopes}
use Rattle.laws_truth.proofs.NamedApart.{whole_named_apart}
use Rattle.laws_truth.proofs.Queries.{has_mode, was_asked}
use Rattle.laws_truth.proofs.Regular.{types_are_met}
use Rattle.laws_truth.proofs.Wholes.{query_has_no_builtin, query_there}
use Rattle.laws_one_answer.specs.OneAnswer.{RunAlike, OneRuled, ComeToFit, AreNamedApart}
use Rattle.laws_one_answer.specs.OneCompiled.{OneOrderedAnswer, OneInstList, WellLinkedAreTyped, OneCompiled, CompiledAreOne, OneToBeRun}
use Rattle.laws_one_answer.specs.OneModed.{ModedIsOne, ModedAreOne, OneModedAnswer}
use Rattle.laws_one_answer.specs.WholePrograms.{WholeGoalsAreTyped}
use Rattle.laws_one_answer.proofs.SamePrograms.{one-names, same-of}

-- ---- what is asked of clauses and types
typed-some : (q : Option TypedClause) (c : N.TypedClause) → option_map (λ (x : TypedClause). typed_clause x.resolved) q ≡ Some c → (x : TypedClause) × (q ≡ Some x)
typed-some None c e = cc
typed-some (Some x) c e = (x, refl)

module _ (first : Bool) (named : PlainNamed) (m : Moded) (is : IsModed first named m) where
  abbrev l : Linked
  l = named.files.names

  abbrev P : Program
  P = m.whole.program

  abbrev query : Option N.TypedClause
  query = option_map (λ (c : TypedClause). typed_clause c.resolved) is.query

  -- the scopes of a query's clause are written out where procedures fit
  scopes : ComeToFit P (plain_definitions m.defs) m.sigs.items m.whole.goals.items m.whole.exported.items → (c : N.TypedClause) → query ≡ Some c → EachClauseHasScopes ((plain_program P).preds (length l.preds)).clauses
  scopes fits c some =
      let of = typed-some is.query c some in
      let goal = was_asked first named m is of.0 of.1 in
      has_scopes P (plain_definitions m.defs) m.sigs.items m.whole.goals.items m.whole.exported.items fits.ordered fits.last fits.came fits.determined is.whole.goals fits.fit (length l.preds) 0
      (query_there l (map numbered is.clauses) query m.whole is.whole c some) (query_has_no_builtin l (map numbered is.clauses) query m.whole is.whole) (has_mode first named m is goal.0 goal.1)

  named-apart : ComeToFit P (plain_definitions m.defs) m.sigs.items m.whole.goals.items m.whole.exported.items → AreNamedApart P
  named-apart fits =
      let apart = typed_clauses_apart l named.files.all (length named.files.given) named.goal is.clauses is.query is.typed in
      whole_named_apart l (map numbered is.clauses) query apart.0 apart.1 m.whole is.whole (scopes fits)

  types-met : type_faults l ≡ [] → (t : TypeTerm) → TypesMet (plain_program P) t
  types-met none = types_are_met l (map numbered is.clauses) query m.whole is.whole none

pub one-ordered-answer : OneModedAnswer → OneOrderedAnswer
one-ordered-answer answer runs first named m n none a b r s here there =
    answer runs first named m n a b (named-apart first named m a) (types-met first named m a none) r s here there

-- ---- rules of insts
one-says : (m : Linked) (i : InstItem) (f g : Option Fault) → InstSays m i f → InstSays m i g → f ≡ g
one-says m i f g (has_free h) (has_free k) = refl
one-says m i f g (has_free h) (unfounded k u) = absurd (k h)
one-says m i f g (has_free h) (is_sound k u) = absurd (k h)
one-says m i f g (unfounded h u) (has_free k) = absurd (h k)
one-says m i f g (unfounded h u) (unfounded k v) = refl
one-says m i f g (unfounded h u) (is_sound k v) = absurd (v u)
one-says m i f g (is_sound h u) (has_free k) = absurd (h k)
one-says m i f g (is_sound h u) (unfounded k v) = absurd (u v)
one-says m i f g (is_sound h u) (is_sound k v) = refl

pub one-inst-list : OneInstList
one-inst-list m items faults others a b = both items a b
  where
    both : (items : List InstItem) {xs ys : List Broken} → AreInstFaults m items xs → AreInstFaults m items ys → xs ≡ ys
    both [] no_item no_item = refl
    both (i ∷ is) (item_then {f = f} {bs = bs} s more) (item_then {f = g} {bs = cs} t others) =
        ap₂ (λ (o : Option Fault) (rest : List Broken). broken_at i.at o ++ rest) (one-says m i f g s t) (both is more others)

one-insts : OneInstList → AtMostOne Insts
one-insts one typed x y p q =
    p.is
    ∙ (ap (λ (rules : List Broken). unless_broken rules typed) (one typed.named.files.names (items_from 0 typed.named.files.all) p.rules q.rules p.are q.are)
    ∙ sym q.is)

-- ---- one phase behind another
ok_same : {B : Type 0} (x y : B) → ◌≡◌ {A = Result B Refusal} (Ok x) (Ok y) → x ≡ y
ok_same x y e = cc

err-same : {B C : Type 0} (r s : Refusal) → ◌≡◌ {A = Result B Refusal} (Err r) (Err s) → ◌≡◌ {A = Result C Refusal} (Err r) (Err s)
err-same r s e = let same : r ≡ s = cc in ap Err same

not-both : {B : Type 0} (b : B) (r : Refusal) → ◌≡◌ {A = Result B Refusal} (Ok b) (Err r) → ⊥
not-both b r e = cc

pub behind-one : {A B C : Type 0} (First : A → Result B Refusal → Type 0) (Second : B → Result C Refusal → Type 0) (One : (here there : Result C Refusal) → Type 0) (a : A)
    → AtMostOne First → ((r : Refusal) → One (Err r) (Err r)) → ((b : B) → First a (Ok b) → (x y : Result C Refusal) → Second b x → Second b y → One x y)
    → (x y : Result C Refusal) → Then First Second a x → Then First Second a y → One x y
behind-one {A} {B} {C} First Second One a one refused goes x y p q = both p q
  where
    both : {x y : Result C Refusal} → Then First Second a x → Then First Second a y → One x y
    both (stopped {r} f) (stopped {r = s} g) = subst (λ z. One (Err r) z) (err-same {B = B} {C = C} r s (one a (Err r) (Err s) f g)) (refused r)
    both (stopped {r} f) (went_on {b} g h) = absurd (not-both b r (one a (Ok b) (Err r) g f))
    both (went_on {b} g h) (stopped {r} f) = absurd (not-both b r (one a (Ok b) (Err r) g f))
    both {x} {y} (went_on {b} f g) (went_on {b = d} h k) = goes d h x y (subst (λ (e : B). Second e x) (ok_same b d (one a (Ok b) (Ok d) f h)) g) k

-- ---- procedures, of what is put in order
one-goal : (wants : Bool) (m n : Moded) → ModedIsOne m n → (q r : PlainProcs) → RunAlike q r → goal_of wants r n.query n.whole.variables ≡ goal_of wants q m.query m.whole.variables
one-goal true m n one q r h = ap (option_map G.Main) (sym h.main)
one-goal false m n one q r h = ap₂ (λ (o : Option ℕ) (vs : List (List ℕ)). option_map (λ (k : ℕ). G.Query k vs) o) one.query one.whole.variables

one-executable : (wants : Bool) (m n : Moded) → ModedIsOne m n → (r s : AnalysisResult) → OneRuled r s → OneCompiled (executable wants m r) (executable wants n s)
one-executable wants m n one (R.Procs q) (R.Procs r) h = record { procs = h; goal = one-goal wants m n one q r h }
one-executable wants m n one (R.Procs q) (R.Broken v) h = h
one-executable wants m n one (R.Broken v) (R.Procs q) h = h
one-executable wants m n one (R.Broken v) (R.Broken w) h = sym h

module _ (answer : OneOrderedAnswer) (moded : ModedAreOne) (sources : Sources) (typed : PlainTyped) (none : type_faults typed.named.files.names ≡ []) where
  module _ (m n : Moded) (a : IsModed sources.first typed.named m) (b : IsModed sources.first typed.named n) where
    abbrev Here : AnalysisResult → Type 0
    Here r = AnalysisGives m.whole.program (plain_definitions m.defs) m.sigs.items m.whole.goals.items m.whole.exported.items sources.wants_main r

    abbrev There : AnalysisResult → Type 0
    There s = AnalysisGives n.whole.program (plain_definitions n.defs) n.sigs.items n.whole.goals.items n.whole.exported.items sources.wants_main s

    one-ruled : (r s : AnalysisResult) → Here r → There s → OneRuled r s
    one-ruled r s h k = answer sources.wants_main sources.first typed.named m n none a b r s h k

  is-moded : (m : Moded) (h : Modes sources typed (Ok m)) → IsModed sources.first typed.named m
  is-moded m h = subst (IsModed sources.first typed.named) (sym (ok_same m h.moded h.is)) h.is_moded

  one-behind-modes : (x y : Result PlainExecutable Refusal) → Then (Modes sources) (Procedures sources) typed x → Then (Modes sources) (Procedures sources) typed y → OneCompiled x y
  one-behind-modes x y p q = both p q
    where
      both : {x y : Result PlainExecutable Refusal} → Then (Modes sources) (Procedures sources) typed x → Then (Modes sources) (Procedures sources) typed y → OneCompiled x y
      both (stopped {r} f) q = absurd (not-both f.moded r (sym f.is))
      both (went_on {b = m} f g) (stopped {r} h) = absurd (not-both h.moded r (sym h.is))
      both {x} {y} (went_on {b = m} f g) (went_on {b = n} h k) =
          let a = is-moded m f in
          let b = is-moded n h in
          let wants = sources.wants_main in
          subst (λ z. OneCompiled z y) (sym g.is)
          (subst (λ z. OneCompiled (executable wants m g.ruled) z) (sym k.is)
          (one-executable wants m n (moded sources.first typed.named m n a b) g.ruled k.ruled (one-ruled m n a b g.ruled k.ruled g.comes k.comes)))

-- ---- all phases
module _ (reads : AtMostOne Reads) (links : AtMostOne Links) (types : AtMostOne Types) (clauses : AtMostOne Clauses) (insts : AtMostOne Insts) (answer : OneOrderedAnswer) (moded : ModedAreOne) (sources : Sources) where
  refused : (r : Refusal) → OneCompiled (Err r) (Err r)
  refused (Breaks rules) = refl

  pub compiled-are-one : (x y : Result PlainExecutable Refusal) → Compiles sources x → Compiles sources y → OneCompiled x y
  compiled-are-one =
      behind-one Reads (Then Links (Then Types (Then Clauses (Then Insts (Then (Modes sources) (Procedures sources)))))) OneCompiled sources reads refused (λ read r.
      behind-one Links (Then Types (Then Clauses (Then Insts (Then (Modes sources) (Procedures sources))))) OneCompiled read links refused (λ named l.
      behind-one Types (Then Clauses (Then Insts (Then (Modes sources) (Procedures sources)))) OneCompiled named types refused (λ typed t.
      behind-one Clauses (Then Insts (Then (Modes sources) (Procedures sources))) OneCompiled typed clauses refused (λ checked c.
      behind-one Insts (Then (Modes sources) (Procedures sources)) OneCompiled checked insts refused (λ made i x y p q.
      let same : made ≡ typed_as named = unbroken_made i.rules checked made i.is ∙ (unbroken_made c.rules typed checked c.is ∙ unbroken_made (type_faults named.files.names) (typed_as named) typed t) in
      one-behind-modes answer moded sources made
      (subst (λ (z : PlainTyped). type_faults z.named.files.names ≡ []) (sym same) (unbroken (type_faults named.files.names) (typed_as named) typed t)) x y p q)))))

pub all-compiled-are-one : AtMostOne Reads → AtMostOne Links → AtMostOne Types → AtMostOne Clauses → OneInstList → OneOrderedAnswer → ModedAreOne → CompiledAreOne
all-compiled-are-one reads links types clauses insts answer moded sources r q a b = compiled-are-one reads links types clauses (one-insts insts) answer moded sources r q a b

-- ---- what is well written is typed
pub well-linked-are-typed : WholeGoalsAreTyped → WellLinkedAreTyped
well-linked-are-typed typed sources well m (went_on {b = read} r (went_on {b = named} k (went_on {b = types} t (went_on {b = checked} c (went_on {b = insts} i h))))) =
    let l = named.files.names in
    let none : type_faults l ≡ [] = unbroken (type_faults l) (typed_as named) types t in
    let made : insts ≡ typed_as named = unbroken_made i.rules checked insts i.is ∙ (unbroken_made c.rules types checked c.is ∙ unbroken_made (type_faults l) (typed_as named) types t) in
    let is : IsModed sources.first named m =
    subst (λ (z : PlainTyped). IsModed sources.first z.named m) made (subst (IsModed sources.first insts.named) (sym (ok_same m h.moded h.is)) h.is_moded) in
    let behind : List File = library_behind read.files k.modules in
    let linked_as : named ≡ linked_with read behind = unbroken_made (linking_rules_of read.files behind read.goal) (linked_with read behind) named k.is in
    let all : ConstructorsAreNumbered l = subst (λ (z : PlainNamed). ConstructorsAreNumbered z.files.names) (sym linked_as) (constructors_are_linked (read.files ++ behind)) in
    let written = well named (went_on r k) in
    let query = option_map (λ (x : TypedClause). typed_clause x.resolved) is.query in
    typed l (map numbered is.clauses) query m.whole is.whole
    (judged_programs_fit l named.files.all (length named.files.given) named.goal is.clauses is.query m.whole written.0 none all written.1 is.typed is.asked is.whole)

-- ---- what is run
pub one-to-be-run : OneToBeRun
one-to-be-run q r one =
    record {
      names = sym (one-names q.program r.program one.program);
      library = sym (same-of q.program r.program one.program).library;
    }
