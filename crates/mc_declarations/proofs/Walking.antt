-- Types as they are made, one behind another.
use Rattle.std.proofs.Common.{◌≡◌, List, [], ◌∷◌, ◌++◌, map, refl, ap, sym, ◌∙◌}
use Rattle.mc_term_data.specs.Plain.{PlainTerm}
use Rattle.mc_program.specs.Programs.{TypeTerms, no_types, type_then}
use Rattle.mc_program.specs.PlainPrograms.{plain_type, type_terms}
use Rattle.mc_program.specs.declared.ty.Ty.{Ty}
use Rattle.mc_clauses.specs.Variables.{Met}
use Rattle.mc_clauses.specs.code.Meanings.{Knows}
use Rattle.mc_clauses.specs.declared.terms.Module.{Module}
use Rattle.mc_clauses.specs.declared.variables.Variables.{Variables}
use Rattle.mc_declarations.specs.code.Walking.{Comes, Walked, Taken, type_walk, types_walk, in_front}

in_front_push :
    (done : List Ty) (d : Ty) (ts : TypeTerms)
    → in_front (done ++ d ∷ []) ts ≡ in_front done (type_then (plain_type d) ts)
in_front_push [] d ts = refl
in_front_push (e ∷ done) d ts = ap (type_then (plain_type e)) (in_front_push done d ts)

in_front_none : (done : List Ty) → in_front done no_types ≡ type_terms (map plain_type done)
in_front_none [] = refl
in_front_none (e ∷ done) = ap (type_then (plain_type e)) (in_front_none done)

pub taken_none :
    (at : Module) (m : Met) (all : List PlainTerm) (v : Variables)
    → Knows [] m v → Taken at m all all [] v
taken_none at m all v k = record { met = m; knows = k; is = refl }

pub taken_more :
    (at : Module) (m : Met) (all rest : List PlainTerm) (x : PlainTerm) (done : List Ty) (d : Ty)
    (v w : Variables)
    → Taken at m all (x ∷ rest) done v → Walked plain_type (type_walk at x) v w d
    → Taken at m all rest (done ++ d ∷ []) w
taken_more at m all rest x done d v w t h =
    let r = h t.met t.knows in
    let next = (type_walk at x t.met).1 in
    let ts = types_walk at rest next in
    record {
      met = next;
      knows = r.knows;
      is =
          t.is
          ∙ ap (λ y. (in_front done (type_then y ts.0), ts.1)) (sym r.is)
          ∙ ap (λ y. (y, ts.1)) (sym (in_front_push done d ts.0));
    }

pub taken_all :
    (at : Module) (m : Met) (all : List PlainTerm) (done : List Ty) (v : Variables)
    → Taken at m all [] done v
    → Comes (type_terms (map plain_type done)) (types_walk at all m) v
taken_all at m all done v t =
    record {
      is = sym (ap (λ r. r.0) t.is ∙ in_front_none done);
      knows = rw (ap (λ r. r.1) t.is) t.knows;
    }
