-- A program that is what is declared.
use Rattle.std.proofs.Common.{◌≡◌, ℕ, List, [], ◌∷◌, map, get_or, refl, ap, ◌∙◌}
use Rattle.std.specs.Prelude.{Option}
use Rattle.mc_program.specs.Programs.{TypeTerm, Constructor, Predicate, Source}
use Rattle.mc_program.specs.PlainPrograms.{plain_symbol, plain_pred, no_symbol, no_pred}
use Rattle.mc_program.specs.declared.program.Program.{Program}
use Rattle.mc_program.specs.declared.program.Pred.{Pred}
use Rattle.mc_program.specs.declared.program.TypeDef.{TypeDef}
use Rattle.mc_decl_syntax.specs.Plain.{plain_item}
use Rattle.mc_names.specs.declared.names.Named.{Named}
use Rattle.mc_names.specs.Linked.{Defined, Linked, plain_named}
use Rattle.mc_type_table.specs.Table.{table}
use Rattle.mc_declarations.specs.Declarations.{constructors_from, predicate_of, is_function}
use Rattle.mc_declarations.specs.Made.{DeclaredAs}
use Rattle.mc_declarations.specs.code.With.{all_with, predicate_with}
use Rattle.mc_declarations.proofs.With.{rounds, same_definitions, all_so, preds_so}

over_named : {B : Type 0} (f : Defined → B) (ns : List Named) → map (λ n. f (plain_named n)) ns ≡ map f (map plain_named ns)
over_named f [] = refl
over_named f (n ∷ ns) = ap (λ bs. f (plain_named n) ∷ bs) (over_named f ns)

abbrev source : List Constructor → List TypeDef → List Predicate → Source
source cs ts ps =
    record {
      symbols = λ k. get_or cs k no_symbol;
      symbols_of = λ u. get_or (map (λ (t : TypeDef). t.symbols) ts) u [];
      preds = λ k. get_or ps k no_pred;
    }

pub declared_as :
    (l : Linked) (D H : ℕ → Option TypeTerm) (names : List Named) (program : Program)
    → map plain_named names ≡ l.preds
    → ((u : ℕ) → H u ≡ rounds l D u)
    → program.types ≡ table l
    → map plain_symbol program.symbols ≡ all_with l H 0 l.types
    → map plain_pred program.preds ≡ map (λ (n : Named). predicate_with l H (plain_named n)) names
    → map (λ (p : Pred). p.name) program.preds ≡ map (λ (n : Named). n.name) names
    → map (λ (p : Pred). p.is_func) program.preds
    ≡ map (λ (n : Named). is_function (plain_item n.decl)) names
    → DeclaredAs l D program
declared_as l D H names program all each types symbols preds called functions =
    let same : H ≡ rounds l D = same_definitions H (rounds l D) each in
    let symbols_so : map plain_symbol program.symbols ≡ constructors_from l D 0 l.types =
    symbols
    ∙ ap (λ (K : ℕ → Option TypeTerm). all_with l K 0 l.types) same
    ∙ all_so l D 0 l.types
    in
    let preds_are : map plain_pred program.preds ≡ map (predicate_of l D) l.preds =
    preds
    ∙ over_named (predicate_with l H) names
    ∙ ap (map (predicate_with l H)) all
    ∙ ap (λ (K : ℕ → Option TypeTerm). map (predicate_with l K) l.preds) same
    ∙ preds_so l D l.preds
    in
    record {
      is =
          ap (λ (cs : List Constructor). source cs program.types (map plain_pred program.preds))
          symbols_so
          ∙ ap
          (λ (ts : List TypeDef).
          source (constructors_from l D 0 l.types) ts (map plain_pred program.preds)) types
          ∙ ap (source (constructors_from l D 0 l.types) (table l)) preds_are;
      types = types;
      symbols = symbols_so;
      preds = preds_are;
      names =
          called
          ∙ over_named (λ (d : Defined). d.name) names
          ∙ ap (map (λ (d : Defined). d.name)) all;
      functions =
          functions
          ∙ over_named (λ (d : Defined). is_function d.item) names
          ∙ ap (map (λ (d : Defined). is_function d.item)) all;
    }
