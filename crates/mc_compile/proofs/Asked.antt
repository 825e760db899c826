-- Where `main` isn't wanted, something is run of what sources are compiled to exactly where there is a query.
use Rattle.std.proofs.Common.{◌≡◌, ℕ, Bool, false, List, [], ◌∷◌, ◌++◌, length, Option, Some, None, Result, Ok, refl, sym, ap, ◌∙◌, inl, inr}
use Rattle.std.specs.Prelude.{is_some}
use Rattle.mc_term_data.specs.Plain.{PlainTerm}
use Rattle.mc_term_data.specs.declared.term.Term.{Term}
use Rattle.mc_source.specs.declared.rule.Broken.{Broken}
use Rattle.mc_items.specs.Queries.{IsQueryRefusal}
use Rattle.mc_decl_syntax.specs.declared.entry.ItemsFault.TheVariants as I
use Rattle.mc_model.specs.declared.inst.Sig.{Sig}
use Rattle.mc_procs.specs.Procedures.{PlainProcs}
use Rattle.mc_analysis.specs.declared.rules.AnalysisResult.{AnalysisResult}
use Rattle.mc_analysis.specs.declared.rules.AnalysisResult.TheVariants as R
use Rattle.mc_core_program.specs.declared.whole_program_program.WholeProgram.{WholeProgram}
use Rattle.mc_compile.specs.declared.moded.Moded.{Moded}
use Rattle.mc_compile.specs.Phases.{Refusal, went_on}
use Rattle.mc_compile.specs.Sources.{Sources}
use Rattle.mc_compile.specs.Reading.{PlainRead, QueryReads, Reads, plain_goal, rules_from, reading_rules, read_as}
use Rattle.mc_compile.specs.Linking.{PlainNamed, Links, linked_with, linking_rules_of, library_behind}
use Rattle.mc_compile.specs.Typing.{PlainTyped, Types}
use Rattle.mc_compile.specs.Checking.{Clauses}
use Rattle.mc_compile.specs.Ruling.{PlainExecutable, Insts, Modes, Procedures, executable, goal_of, query_number}
use Rattle.mc_compile.specs.Laws.{QueryIsAsked}
use Rattle.mc_compile.proofs.Once.{ok_same}
use Rattle.mc_compile.proofs.Chains.{unbroken_made, unbroken}
use Rattle.mc_compile.proofs.Types.{typed_is}
use Rattle.mc_compile.proofs.Clauses.{checked_is}

appended_nothing : {X : Type 0} (xs ys : List X) → xs ++ ys ≡ [] → ys ≡ []
appended_nothing [] ys e = e
appended_nothing (x ∷ xs) ys e = cc

-- a query that is refused breaks a rule
refused_breaks : (k : ℕ) (text : List ℕ) (rules : List Broken) → IsQueryRefusal k text (I.Broken rules) → rules ≡ [] → ⊥
refused_breaks k text rules (inl r) e = let x = sym r.is ∙ e in cc
refused_breaks k text rules (inr r) e = let x = sym r.is ∙ e in cc

-- a query that breaks no rule is a goal
goal_read : (k : ℕ) (query : Option (List ℕ)) (goal : Option Term) (rules : List Broken) → QueryReads k query goal rules → rules ≡ [] → is_some (plain_goal goal) ≡ is_some query
goal_read k None None rules r e = refl
goal_read k None (Some goal) rules r e = absurd r
goal_read k (Some text) None rules r e = absurd (refused_breaks k text rules r e)
goal_read k (Some text) (Some goal) rules r e = refl

-- something is run over procedures where there is a number of a query
goal_there : (procs : PlainProcs) (query : Option ℕ) (variables : List (List ℕ)) → is_some (goal_of false procs query variables) ≡ is_some query
goal_there procs None variables = refl
goal_there procs (Some number) variables = refl

executed : (s : Sources) (moded : Moded) (e : PlainExecutable) → Procedures s moded (Ok e) → s.wants_main ≡ false → is_some e.goal ≡ is_some moded.query
executed s moded e p wants = at p.ruled p.is
  where
    at : (ruled : AnalysisResult) → ◌≡◌ {A = Result PlainExecutable Refusal} (Ok e) (executable s.wants_main moded ruled) → is_some e.goal ≡ is_some moded.query
    at (R.Procs procs) is =
        let made : PlainExecutable = record { procs = procs; goal = goal_of s.wants_main procs moded.query moded.whole.variables } in
        ap (λ (x : PlainExecutable). is_some x.goal) (ok_same e made is)
        ∙ ap (λ (b : Bool). is_some (goal_of b procs moded.query moded.whole.variables)) wants
        ∙ goal_there procs moded.query moded.whole.variables
    at (R.Broken list) is = cc

-- and there is such a number where there is a goal
number_there : (whole : WholeProgram) (sigs : List Sig) (goal : Option PlainTerm) → is_some (query_number whole sigs goal) ≡ is_some goal
number_there whole sigs None = refl
number_there whole sigs (Some goal) = refl

modes_goal : (s : Sources) (typed : PlainTyped) (moded : Moded) → Modes s typed (Ok moded) → is_some moded.query ≡ is_some typed.named.goal
modes_goal s typed moded m =
    ap (λ (x : Moded). is_some x.query) (ok_same moded m.moded m.is)
    ∙ ap is_some m.is_moded.number
    ∙ number_there m.moded.whole m.is_moded.declared typed.named.goal

insts_goal : (typed after : PlainTyped) → Insts typed (Ok after) → after.named.goal ≡ typed.named.goal
insts_goal typed after i = ap (λ (p : PlainTyped). p.named.goal) (unbroken_made i.rules typed after i.is)

clauses_goal : (typed after : PlainTyped) → Clauses typed (Ok after) → after.named.goal ≡ typed.named.goal
clauses_goal typed after c = ap (λ (p : PlainTyped). p.named.goal) (checked_is typed after c)

types_goal : (named : PlainNamed) (typed : PlainTyped) → Types named (Ok typed) → typed.named.goal ≡ named.goal
types_goal named typed t = ap (λ (p : PlainTyped). p.named.goal) (typed_is named typed t)

links_goal : (read : PlainRead) (named : PlainNamed) → Links read (Ok named) → named.goal ≡ read.goal
links_goal read named l =
    ap (λ (n : PlainNamed). n.goal)
    (unbroken_made (linking_rules_of read.files (library_behind read.files l.modules) read.goal) (linked_with read (library_behind read.files l.modules)) named l.is)

reads_goal : (sources : Sources) (read : PlainRead) → Reads sources (Ok read) → is_some read.goal ≡ is_some sources.query
reads_goal sources read r =
    ap (λ (p : PlainRead). is_some p.goal) (unbroken_made (reading_rules r.read) (read_as r.read) read r.is)
    ∙ goal_read (length sources.texts) sources.query r.read.goal r.read.goal_rules r.read.goal_reads
    (appended_nothing (rules_from 0 r.read.files) r.read.goal_rules (unbroken (reading_rules r.read) (read_as r.read) read r.is))

pub query_asked : QueryIsAsked
query_asked sources e (went_on {b = read} r (went_on {b = named} l (went_on {b = typed} t (went_on {b = after} c (went_on {b = sound} i (went_on {b = moded} m p)))))) wants =
    executed sources moded e p wants
    ∙ modes_goal sources sound moded m
    ∙ ap is_some (insts_goal after sound i)
    ∙ ap is_some (clauses_goal typed after c)
    ∙ ap is_some (types_goal named typed t)
    ∙ ap is_some (links_goal read named l)
    ∙ reads_goal sources read r
