-- Terms as they are made, one behind another.
use Rattle.std.proofs.Common.{◌≡◌, ℕ, List, [], ◌∷◌, ◌++◌, map, length, ◌+◌, suc, arith, refl, ap, ap₂, sym, ◌∙◌}
use Rattle.mc_term_data.specs.Plain.{plain_term, term_list}
use Rattle.mc_term_data.specs.Names.{count}
use Rattle.mc_term_data.specs.declared.term.Term.{Term}
use Rattle.mc_accepted.specs.Resolving.{Unresolved as PlainUnresolved, any_name, Unresolved_terms, no_terms, term_then}
use Rattle.mc_source.specs.declared.name.Candidate.{Candidate}
use Rattle.mc_decl_syntax.specs.Plain.{Path}
use Rattle.mc_names.specs.Definitions.{cell_path}
use Rattle.mc_names.specs.Linked.{Linked}
use Rattle.mc_unresolved.specs.declared.term.Unresolved.{Unresolved, Name}
use Rattle.mc_unresolved.proofs.Views.{plain-Name}
use Rattle.mc_unresolved.specs.Unresolved.{plain_unresolved, unresolved_terms}
use Rattle.mc_clauses.specs.Variables.{Numbers, Met}
use Rattle.mc_clauses.specs.Unresolved.{Walk, two_terms, meanings, elements, joined_by, in_turn}
use Rattle.mc_clauses.specs.declared.terms.Module.{Module}
use Rattle.mc_clauses.specs.declared.variables.Variables.{Variables}
use Rattle.mc_clauses.specs.code.Meanings.{Knows}
use Rattle.mc_clauses.specs.code.Walking.{Comes, Walked, Taken, term_walk, terms_walk, in_front, nested_over, cells_over, joined_over}
use Rattle.mc_clauses.proofs.Walks.{keeps-same, keeps-both}

-- as many terms as a row has
pub count-terms : (ts : List Term) → count (term_list (map plain_term ts)) ≡ length ts
count-terms [] = refl
count-terms (t ∷ ts) = ap (λ n. 1 + n) (count-terms ts) ∙ one-more (length ts)
  where
    one-more : (n : ℕ) → 1 + n ≡ suc n
    one-more n = omega arith

in_front-push : (done : List Unresolved) (u : Unresolved) (ts : Unresolved_terms) → in_front (done ++ u ∷ []) ts ≡ in_front done (term_then (plain_unresolved u) ts)
in_front-push [] u ts = refl
in_front-push (d ∷ done) u ts = ap (term_then (plain_unresolved d)) (in_front-push done u ts)

in_front-none : (done : List Unresolved) → in_front done no_terms ≡ unresolved_terms (map plain_unresolved done)
in_front-none [] = refl
in_front-none (d ∷ done) = ap (term_then (plain_unresolved d)) (in_front-none done)

pub taken-none : (at : Module) (q : Numbers) (m : Met) (all : List Term) (v : Variables) → Knows q m v → Taken at q m all all [] v
taken-none at q m all v k = record { met = m; knows = k; hidden = keeps-same q m; is = refl }

pub taken-more :
    (at : Module) (q : Numbers) (m : Met) (all rest : List Term) (x : Term) (done : List Unresolved) (u : Unresolved) (v w : Variables)
    → Taken at q m all (x ∷ rest) done v → Walked plain_unresolved (term_walk at x) v w u → Taken at q m all rest (done ++ u ∷ []) w
taken-more at q m all rest x done u v w t h =
    let r = h q t.met t.knows in
    let next = (term_walk at x q t.met).1 in
    let ts = terms_walk at rest q next in
    record {
      met = next;
      knows = r.knows;
      hidden = keeps-both q m t.met next t.hidden r.hidden;
      is =
          t.is
          ∙ ap (λ y. (in_front done (term_then y ts.0), ts.1)) (sym r.is)
          ∙ ap (λ y. (y, ts.1)) (sym (in_front-push done u ts.0));
    }

pub taken-all :
    (at : Module) (q : Numbers) (m : Met) (all : List Term) (done : List Unresolved) (v : Variables)
    → Taken at q m all [] done v → Comes q m (unresolved_terms (map plain_unresolved done)) (terms_walk at all q m) v
taken-all at q m all done v t =
    record {
      is = sym (ap (λ r. r.0) t.is ∙ in_front-none done);
      knows = rw (ap (λ r. r.1) t.is) t.knows;
      hidden = rw (ap (λ r. r.1) t.is) t.hidden;
    }

-- A NAME OVER EACH TERM AND WHAT FOLLOWS IT

pub nested-behind : (cs : List Candidate) (us : List Unresolved) (u : Unresolved) (end : PlainUnresolved) → nested_over cs (map plain_unresolved (us ++ u ∷ [])) end ≡ nested_over cs (map plain_unresolved us) (any_name cs (two_terms (plain_unresolved u) end))
nested-behind cs [] u end = refl
nested-behind cs (d ∷ us) u end = ap (λ e. any_name cs (two_terms (plain_unresolved d) e)) (nested-behind cs us u end)

pub name-over-two : (cs copy : List Candidate) (args : List Unresolved) (u v : Unresolved) → copy ≡ cs → args ≡ u ∷ v ∷ [] → plain_unresolved (Name copy args) ≡ any_name cs (two_terms (plain_unresolved u) (plain_unresolved v))
name-over-two cs copy args u v e f = plain-Name copy args ∙ ap₂ (λ ds us. any_name ds (unresolved_terms (map plain_unresolved us))) e f

-- elements before an end, as their walks make them
abbrev over_terms : List Candidate → Unresolved_terms → PlainUnresolved → PlainUnresolved
over_terms cs no_terms end = end
over_terms cs (term_then t ts) end = any_name cs (two_terms t (over_terms cs ts end))

over-listed : (cs : List Candidate) (us : List PlainUnresolved) (end : PlainUnresolved) → over_terms cs (unresolved_terms us) end ≡ nested_over cs us end
over-listed cs [] end = refl
over-listed cs (u ∷ us) end = ap (λ e. any_name cs (two_terms u e)) (over-listed cs us end)

module _ (l : Linked) (own : ℕ) where
  abbrev cells : List Candidate
  cells = meanings l own cell_path 2

  elements-by : (ts : List (Walk PlainUnresolved)) (end : Walk PlainUnresolved) (q : Numbers) (m : Met) → elements l own ts end q m ≡ (over_terms cells (in_turn ts q m).0 (end q (in_turn ts q m).1).0, (end q (in_turn ts q m).1).1)
  elements-by [] end q m = refl
  elements-by (t ∷ ts) end q m = ap (λ r. (any_name cells (two_terms (t q m).0 r.0), r.1)) (elements-by ts end q (t q m).1)

  -- a list of these elements before an end
  pub walked-elements :
      (ts : List (Walk PlainUnresolved)) (end : Walk PlainUnresolved) (u v w : Variables) (us : List Unresolved) (e it : Unresolved)
      → Walked (λ row. unresolved_terms (map plain_unresolved row)) (in_turn ts) u v us
      → Walked plain_unresolved end v w e
      → plain_unresolved it ≡ cells_over l own (map plain_unresolved us) (plain_unresolved e)
      → Walked plain_unresolved (elements l own ts end) u w it
  walked-elements ts end u v w us e it h g i q m k =
      let r = h q m k in
      let s = g q (in_turn ts q m).1 r.knows in
      let all = elements-by ts end q m in
      record {
        is = i ∙ sym (over-listed cells (map plain_unresolved us) (plain_unresolved e)) ∙ ap₂ (over_terms cells) r.is s.is ∙ sym (ap (λ x. x.0) all);
        knows = rw (ap (λ x. x.1) all) s.knows;
        hidden = rw (ap (λ x. x.1) all) (keeps-both q m (in_turn ts q m).1 (end q (in_turn ts q m).1).1 r.hidden s.hidden);
      }

  abbrev joined_terms : Path → Unresolved_terms → PlainUnresolved
  joined_terms w no_terms = any_name (meanings l own w 0) no_terms
  joined_terms w (term_then t no_terms) = t
  joined_terms w (term_then t (term_then u us)) = any_name (meanings l own w 2) (two_terms t (joined_terms w (term_then u us)))

  joined-listed : (w : Path) (us : List PlainUnresolved) → joined_terms w (unresolved_terms us) ≡ joined_over l own w us
  joined-listed w [] = refl
  joined-listed w (t ∷ []) = refl
  joined-listed w (t ∷ u ∷ us) = ap (λ e. any_name (meanings l own w 2) (two_terms t e)) (joined-listed w (u ∷ us))

  joined-by : (w : Path) (ts : List (Walk PlainUnresolved)) (q : Numbers) (m : Met) → joined_by l own w ts q m ≡ (joined_terms w (in_turn ts q m).0, (in_turn ts q m).1)
  joined-by w [] q m = refl
  joined-by w (t ∷ []) q m = refl
  joined-by w (t ∷ u ∷ us) q m = ap (λ r. (any_name (meanings l own w 2) (two_terms (t q m).0 r.0), r.1)) (joined-by w (u ∷ us) q (t q m).1)

  -- terms with a name between each two
  pub walked-joined :
      (w : Path) (ts : List (Walk PlainUnresolved)) (u v : Variables) (us : List Unresolved) (it : Unresolved)
      → Walked (λ row. unresolved_terms (map plain_unresolved row)) (in_turn ts) u v us
      → plain_unresolved it ≡ joined_over l own w (map plain_unresolved us)
      → Walked plain_unresolved (joined_by l own w ts) u v it
  walked-joined w ts u v us it h i q m k =
      let r = h q m k in
      let all = joined-by w ts q m in
      record {
        is = i ∙ sym (joined-listed w (map plain_unresolved us)) ∙ ap (joined_terms w) r.is ∙ sym (ap (λ x. x.0) all);
        knows = rw (ap (λ x. x.1) all) r.knows;
        hidden = rw (ap (λ x. x.1) all) r.hidden;
      }

  -- all but the last of some terms, each before what follows it
  pub joined-nested : (w : Path) (us : List PlainUnresolved) (u : PlainUnresolved) → joined_over l own w (us ++ u ∷ []) ≡ nested_over (meanings l own w 2) us u
  joined-nested w [] u = refl
  joined-nested w (t ∷ []) u = refl
  joined-nested w (t ∷ v ∷ us) u = ap (λ e. any_name (meanings l own w 2) (two_terms t e)) (joined-nested w (v ∷ us) u)
