-- The terms of heads: a function's result behind its arguments.
use Rattle.std.proofs.Common.{Bor, ◌≡◌, ℕ, List, [], ◌∷◌, ◌++◌, map, refl, ap, ap₂, sym, ◌∙◌}
use Rattle.mc_term_data.specs.Plain.{PlainTerm, PlainTerms, no_term, more_terms}
use Rattle.mc_accepted.specs.Resolving.{Unresolved as PlainUnresolved, Unresolved_terms, no_terms, term_then}
use Rattle.mc_names.specs.Linked.{Linked}
use Rattle.mc_unresolved.specs.declared.term.Unresolved.{Unresolved}
use Rattle.mc_unresolved.specs.Unresolved.{plain_unresolved, unresolved_terms}
use Rattle.mc_clauses.specs.Variables.{Numbers, Met}
use Rattle.mc_clauses.specs.Unresolved.{Walk, in_turn, term_of, terms_of, and_result, source_name}
use Rattle.mc_clauses.specs.declared.variables.Variables.{Variables}
use Rattle.mc_clauses.specs.code.Meanings.{Knows}
use Rattle.mc_clauses.specs.code.Walking.{Walked, Comes}
use Rattle.mc_clauses.proofs.Walks.{keeps-both}

abbrev behind : Unresolved_terms → PlainUnresolved → Unresolved_terms
behind no_terms r = term_then r no_terms
behind (term_then t ts) r = term_then t (behind ts r)

row-behind : (us : List Unresolved) (u : Unresolved) → unresolved_terms (map plain_unresolved (us ++ u ∷ [])) ≡ behind (unresolved_terms (map plain_unresolved us)) (plain_unresolved u)
row-behind [] u = refl
row-behind (x ∷ us) u = ap (term_then (plain_unresolved x)) (row-behind us u)

module _ (l : Linked) (own : ℕ) where
  in_turn-behind :
      (ts : PlainTerms) (r : PlainTerm) (q : Numbers) (m : Met)
      → in_turn (terms_of l own (and_result ts r)) q m
      ≡ (behind (in_turn (terms_of l own ts) q m).0 (term_of l own r q (in_turn (terms_of l own ts) q m).1).0, (term_of l own r q (in_turn (terms_of l own ts) q m).1).1)
  in_turn-behind no_term r q m = refl
  in_turn-behind (more_terms t ts) r q m =
      ap (λ (x : Unresolved_terms × Met). (term_then (term_of l own t q m).0 x.0, x.1)) (in_turn-behind ts r q (term_of l own t q m).1)

  pub walked-result :
      (ts : PlainTerms) (r : PlainTerm) (u v w : Variables) (args : List Unresolved) (last : Unresolved) (row : List Unresolved)
      → Walked (λ us. unresolved_terms (map plain_unresolved us)) (in_turn (terms_of l own ts)) u v args
      → Walked plain_unresolved (term_of l own r) v w last
      → row ≡ args ++ last ∷ []
      → Walked (λ us. unresolved_terms (map plain_unresolved us)) (in_turn (terms_of l own (and_result ts r))) u w row
  walked-result ts r u v w args last row h g e q m k =
      let x = h q m k in
      let a = in_turn (terms_of l own ts) q m in
      let y = g q a.1 x.knows in
      let all = in_turn-behind ts r q m in
      record {
        is =
            ap (λ us. unresolved_terms (map plain_unresolved us)) e
            ∙ row-behind args last
            ∙ ap₂ behind x.is y.is
            ∙ sym (ap (λ z. z.0) all);
        knows = rw (ap (λ z. z.1) all) y.knows;
        hidden = rw (ap (λ z. z.1) all) (keeps-both q m a.1 (term_of l own r q a.1).1 x.hidden y.hidden);
      }

through : (ns : List (Bor (List ℕ))) → map (λ (n : Bor (List ℕ)). source_name n.now) ns ≡ map source_name (map (λ (n : Bor (List ℕ)). n.now) ns)
through [] = refl
through (n ∷ ns) = ap (λ xs. source_name n.now ∷ xs) (through ns)

-- the names of the variables that were met
pub names-met :
    (q : Numbers) (m : Met) (v : Variables) (ns : List (Bor (List ℕ)))
    → ns ≡ v.names.items → Knows q m v → map (λ (n : Bor (List ℕ)). source_name n.now) ns ≡ map source_name m.names
names-met q m v ns e k = ap (map (λ (n : Bor (List ℕ)). source_name n.now)) e ∙ through v.names.items ∙ ap (map source_name) k.names
