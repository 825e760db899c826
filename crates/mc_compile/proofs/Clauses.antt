-- What the phase of clauses makes and refuses.
use Rattle.std.proofs.Common.{◌≡◌, ℕ, List, [], map, take, length, min, Ok, Err, sym, ap, ap₂, ◌∙◌, subst}
use Rattle.std.proofs.lemmas.List.{length-map, length-take, take-map}
use Rattle.mc_source.specs.declared.rule.Broken.{Broken}
use Rattle.mc_decl_syntax.specs.declared.entry.Entry.{Entry}
use Rattle.mc_decl_syntax.specs.Entries.{plain_entry, File, plain_files}
use Rattle.mc_names.specs.Linked.{plain_names}
use Rattle.mc_type_table.specs.Visibility.{definitions_seen}
use Rattle.mc_type_phase.specs.Items.{without_clauses}
use Rattle.mc_type_phase.specs.Judging.{IsJudged}
use Rattle.mc_type_phase.specs.declared.judged.TypecheckResult.{TypecheckResult}
use Rattle.mc_compile.specs.declared.given.CompileFault.TheVariants as F
use Rattle.mc_compile.specs.declared.named.Named.{Named}
use Rattle.mc_compile.specs.declared.typed.Typed.{Typed}
use Rattle.mc_compile.specs.Phases.{Tells}
use Rattle.mc_compile.specs.Reading.{plain_goal}
use Rattle.mc_compile.specs.Linking.{PlainNamed, plain_named}
use Rattle.mc_compile.specs.Typing.{PlainTyped, plain_typed}
use Rattle.mc_compile.specs.Checking.{items_of, AreBroken, Clauses, clauses_left_out, Shows}
use Rattle.mc_compile.proofs.Chains.{broken_up, none_broken, unbroken_made}

-- how many files are given
pub given_count : (files : List (List Entry)) (n : ℕ) → length (plain_files (take n files)) ≡ min n (length files)
given_count files n = length-map (take n files) (map plain_entry) ∙ length-take n files

-- what has a table of types goes on as it is
pub checked_is : (typed after : PlainTyped) → Clauses typed (Ok after) → after ≡ typed
checked_is typed after c = unbroken_made c.rules typed after c.is

-- what is linked, with the files that are left
pub left_out :
    (named : Named) (others : List (List Entry))
    → plain_files others ≡ map without_clauses (plain_files named.files)
    → plain_named (record named { files = others }) ≡ clauses_left_out (plain_named named)
left_out named others left =
    let n = named.given in
    let made : List File → List File → PlainNamed =
    λ given all. record {
      files = record { given = given; all = all; names = plain_names named.names };
      goal = plain_goal named.goal;
    }
    in
    let few : plain_files (take n others) ≡ map without_clauses (plain_files (take n named.files)) =
    sym (take-map (map plain_entry) n others)
    ∙ ap (take n) left
    ∙ take-map without_clauses n (plain_files named.files)
    ∙ ap (map without_clauses) (take-map (map plain_entry) n named.files)
    in
    ap₂ made few left

-- what typing says of what is linked
abbrev Says : Named → TypecheckResult → Type 0
Says named judged =
    let names = plain_names named.names in
    IsJudged names (definitions_seen names) (items_of (plain_named named)) judged

module _ (typed : Typed) (judged : TypecheckResult) (says : Says typed.named judged) where
  -- where no clause breaks a rule
  pub are_typed :
      (named : Named) → plain_named named ≡ clauses_left_out (plain_named typed.named)
      → judged.broken.items ≡ []
      → Tells Clauses Shows (plain_typed typed) (Ok (record { typed = record { named = named; types = typed.types }; clauses = judged.clauses }))
  are_typed named left none = (
    plain_typed typed,
    record { typed = ap (λ (n : PlainNamed). record { named = n; types = typed.types }) left; clauses = says.typed none },
    record { rules = judged.broken.items; are = says.faults; is = none_broken judged.broken.items (plain_typed typed) none },
  )

  -- and where some do
  pub are_faulty :
      (rules : List Broken) → rules ≡ judged.broken.items → (judged.broken.items ≡ [] → ⊥)
      → Tells Clauses Shows (plain_typed typed) (Err (F.Rejected rules))
  are_faulty rules is some =
      record {
        rules = rules;
        are = subst (AreBroken (plain_named typed.named)) (sym is) says.faults;
        is = broken_up rules (plain_typed typed) (λ none. some (sym is ∙ none));
      }
