-- The types that a predicate or function is declared with.
use Rattle.std.proofs.Common.{◌≡◌, ◌∙◌, ℕ, List, [], ◌∷◌, map, refl, ap, sym}
use Rattle.std.specs.Prelude.{Option}
use Rattle.std.proofs.lemmas.Simd.{map-map}
use Rattle.mc_term_data.specs.Plain.{PlainTerm, PlainTerms, term_list}
use Rattle.mc_program.specs.Programs.{TypeTerm}
use Rattle.mc_program.specs.PlainPrograms.{plain_type, type_terms}
use Rattle.mc_program.specs.declared.ty.Ty.{Ty}
use Rattle.mc_names.specs.Linked.{Defined, plain_names, defining_module}
use Rattle.mc_type_table.specs.Expanded.{replaced}
use Rattle.mc_clauses.specs.Variables.{nothing_met}
use Rattle.mc_declarations.specs.Declarations.{declared_types, listed_types, type_terms_of}
use Rattle.mc_clauses.specs.declared.terms.Module.{Module}
use Rattle.mc_clauses.specs.declared.variables.Variables.{Variables}
use Rattle.mc_declarations.specs.code.Walking.{Comes, types_walk}
use Rattle.mc_declarations.specs.code.With.{types_with}

listed_same : (ts : List TypeTerm) → listed_types (type_terms ts) ≡ ts
listed_same [] = refl
listed_same (t ∷ ts) = ap (λ (us : List TypeTerm). t ∷ us) (listed_same ts)

pub types_so :
    (here : Module) (H : ℕ → Option TypeTerm) (d : Defined) (terms : List PlainTerm)
    (declared plain types : List Ty) (after : Variables)
    → here.own ≡ defining_module (plain_names here.names.now) d
    → term_list terms ≡ type_terms_of d.item
    → Comes (type_terms (map plain_type declared)) (types_walk here terms nothing_met) after
    → plain ≡ declared
    → map plain_type types ≡ map (λ (t : Ty). replaced H (plain_type t)) plain
    → map plain_type types ≡ types_with (plain_names here.names.now) H d
types_so here H d terms declared plain types after own written comes same made =
    let l = plain_names here.names.now in
    let walked :
    (types_walk here terms nothing_met).0
    ≡ (declared_types l (defining_module l d) (type_terms_of d.item) nothing_met).0 =
    ap (λ (n : ℕ). (declared_types l n (term_list terms) nothing_met).0) own
    ∙ ap (λ (ts : PlainTerms). (declared_types l (defining_module l d) ts nothing_met).0) written
    in
    made
    ∙ sym (map-map (replaced H) plain_type plain)
    ∙ ap (λ (ts : List Ty). map (replaced H) (map plain_type ts)) same
    ∙ ap (map (replaced H))
    (sym (listed_same (map plain_type declared)) ∙ ap listed_types (comes.is ∙ walked))
