-- What is declared where types stand by definitions that are expanded.
use Rattle.std.proofs.Common.{◌≡◌, ℕ, suc, List, [], ◌∷◌, ◌++◌, map, length, refl, ap, ap₂}
use Rattle.std.specs.Prelude.{Option}
use mathlib.Core.Path.{fun_ext}
use Rattle.mc_term_data.specs.Plain.{PlainTerms, no_term, more_terms}
use Rattle.mc_program.specs.Programs.{TypeTerm}
use Rattle.mc_names.specs.Linked.{Defined, Linked, defining_module}
use Rattle.mc_type_table.specs.Expanded.{after_rounds}
use Rattle.mc_decl_syntax.specs.Plain.{PlainDecl, UnionType}
use Rattle.mc_names.specs.Parameters.{parameters_of}
use Rattle.mc_declarations.specs.Declarations.{constructor_of, constructors_in, constructors_by, constructors_from, predicate_of}
use Rattle.mc_declarations.specs.code.With.{constructors_of, constructors_with, all_with, predicate_with}

pub same_definitions :
    (H E : ℕ → Option TypeTerm) → ((u : ℕ) → H u ≡ E u) → H ≡ E
same_definitions H E each = fun_ext each

abbrev pub rounds : Linked → (ℕ → Option TypeTerm) → ℕ → Option TypeTerm
rounds l D = after_rounds (length l.types) D

in_union :
    (l : Linked) (D : ℕ → Option TypeTerm) (w : List ℕ) (u own : ℕ) (vs : List (List ℕ))
    (ts : PlainTerms)
    → constructors_of l (rounds l D) w u own vs ts ≡ constructors_in l D w u own vs ts
in_union l D w u own vs no_term = refl
in_union l D w u own vs (more_terms t ts) =
    ap (λ cs. constructor_of l D w u own vs t ∷ cs) (in_union l D w u own vs ts)

by_item :
    (l : Linked) (D : ℕ → Option TypeTerm) (u : ℕ) (d : Defined) (i : PlainDecl)
    → constructors_with l (rounds l D) u d i ≡ constructors_by l D u d i
by_item l D u d (UnionType h ts) =
    in_union l D d.name.«module» u (defining_module l d) (parameters_of h) ts
by_item l D u d i = refl

pub all_so :
    (l : Linked) (D : ℕ → Option TypeTerm) (u : ℕ) (ds : List Defined)
    → all_with l (rounds l D) u ds ≡ constructors_from l D u ds
all_so l D u [] = refl
all_so l D u (d ∷ ds) = ap₂ (λ cs es. cs ++ es) (by_item l D u d d.item) (all_so l D (suc u) ds)

pub preds_so :
    (l : Linked) (D : ℕ → Option TypeTerm) (ds : List Defined)
    → map (predicate_with l (rounds l D)) ds ≡ map (predicate_of l D) ds
preds_so l D ds = refl
