-- What the phase of insts makes and refuses, of files whose clauses were given up.
use Rattle.std.proofs.Common.{◌≡◌, List, [], Ok, Err, refl, sym, ◌∙◌, subst}
use Rattle.mc_source.specs.declared.rule.Broken.{Broken}
use Rattle.mc_decl_syntax.specs.Entries.{plain_files}
use Rattle.mc_names.specs.Linked.{plain_names}
use Rattle.mc_inst_table.specs.Rules.{items_from, AreInstFaults}
use Rattle.mc_compile.specs.declared.given.CompileFault.TheVariants as F
use Rattle.mc_compile.specs.declared.typed.Typed.{Typed}
use Rattle.mc_compile.specs.Phases.{Tells}
use Rattle.mc_compile.specs.Typing.{PlainTyped, plain_typed}
use Rattle.mc_compile.specs.Checking.{clauses_given_up}
use Rattle.mc_compile.specs.Ruling.{Insts}
use Rattle.mc_compile.proofs.Chains.{broken_up, none_broken}
use Rattle.mc_compile.proofs.WithoutClauses.{inst_faults_back}

module _ (typed : Typed) (plain : PlainTyped) (left : plain_typed typed ≡ clauses_given_up plain) where
  abbrev AreFaults : List Broken → Type 0
  AreFaults bs = AreInstFaults (plain_names typed.named.names) (items_from 0 (plain_files typed.named.files)) bs

  -- the rules that the items of the files break with their clauses
  faults_back : (bs : List Broken) → AreFaults bs → AreInstFaults plain.named.files.names (items_from 0 plain.named.files.all) bs
  faults_back bs faults =
      inst_faults_back plain.named.files.names 0 plain.named.files.all bs
      (subst (λ (t : PlainTyped). AreInstFaults t.named.files.names (items_from 0 t.named.files.all) bs) left faults)

  -- where no item breaks a rule
  pub insts_sound : (bs : List Broken) → AreFaults bs → bs ≡ [] → Tells {X = Unit {0}} Insts (λ _ (after : PlainTyped). plain ≡ after) plain (Ok (tt {0}))
  insts_sound bs faults none = (
    plain,
    refl,
    record { rules = bs; are = faults_back bs faults; is = none_broken bs plain none },
  )

  -- and where some do
  pub insts_faulty : (bs rules : List Broken) → AreFaults bs → rules ≡ bs → (bs ≡ [] → ⊥) → Tells {X = Unit {0}} Insts (λ _ (after : PlainTyped). plain ≡ after) plain (Err (F.Rejected rules))
  insts_faulty bs rules faults is some =
      record {
        rules = rules;
        are = faults_back rules (subst AreFaults (sym is) faults);
        is = broken_up rules plain (λ none. some (sym is ∙ none));
      }
