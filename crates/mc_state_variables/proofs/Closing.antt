-- Goals behind others, and branches that are one or several.
use Rattle.std.proofs.Common.{◌≡◌, ℕ, zero, nat_eq, true, false, ◌≤◌, ◌-◌, ◌+◌, ◌<◌, List, [], ◌∷◌, ◌++◌, length, map, reverse, drop, get_or, refl, ap, sym, ◌∙◌, arith}
use Rattle.std.proofs.Common.{drop-cons, suc, ap₂}
use Rattle.std.proofs.lemmas.Grind.{reverse_onto}
use Rattle.mc_term_data.specs.Plain.{PlainTerm, PlainTerms, PlainNode, at, no_term, more_terms, Var, Int, Str, App, Items, Tailed, Conj, Disj, plain_term, plain_node, node_step, term_step, term_list}
use Rattle.mc_term_data.specs.declared.term.Term.{Term, roll-Term}
use Rattle.mc_term_data.specs.declared.term.Node.TheFolds.{fold-roll-Term, fold-roll-Node}
use Rattle.mc_term_data.specs.declared.term.Node.TheVariants as N
use Rattle.mc_term_data.specs.declared.term.Node.TheVariants.{rolls-Conj, rolls-App}
use Rattle.mc_term_data.specs.declared.term.Node.TheOpen as O
use Rattle.mc_state_variables.specs.Versions.{followed_by, and_then}
use Rattle.mc_state_variables.specs.Numbered.{line_of}
use Rattle.mc_state_variables.specs.code.Helds.{listed}
use Rattle.mc_state_variables.specs.code.Pieces.{Piece, is_last, alone, conjuncts, gather, gathered}

pub plain_line : (t : Term) → line_of (plain_term t) ≡ t.line
plain_line t = ap line_of (fold-roll-Term PlainNode PlainTerm node_step term_step (record { node = t.node; line = t.line }))

-- the plain view of a conjunction
pub plain_conj : (t : Term) (xs : List Term) → t.node ≡ N.Conj xs → plain_term t ≡ at (Conj (term_list (map plain_term xs))) t.line
plain_conj t xs e =
    fold-roll-Term PlainNode PlainTerm node_step term_step (record { node = t.node; line = t.line })
    ∙ ap (λ n. at n t.line) (ap plain_node (e ∙ sym (rolls-Conj xs)) ∙ fold-roll-Node PlainNode PlainTerm node_step term_step (O.Conj xs))

-- the plain view of a name over parts
pub plain_app : (t : Term) (w : List (List ℕ)) (xs : List Term) → t.node ≡ N.App w xs → plain_term t ≡ at (App w (term_list (map plain_term xs))) t.line
plain_app t w xs e =
    fold-roll-Term PlainNode PlainTerm node_step term_step (record { node = t.node; line = t.line })
    ∙ ap (λ n. at n t.line) (ap plain_node (e ∙ sym (rolls-App w xs)) ∙ fold-roll-Node PlainNode PlainTerm node_step term_step (O.App w xs))

-- of a conjunction and of a name over parts that are made
pub made_conj : (xs : List Term) (l : ℕ) → plain_term (roll-Term (record { node = N.Conj xs; line = l })) ≡ at (Conj (term_list (map plain_term xs))) l
made_conj xs l =
    fold-roll-Term PlainNode PlainTerm node_step term_step (record { node = N.Conj xs; line = l })
    ∙ ap (λ n. at n l) (ap plain_node (sym (rolls-Conj xs)) ∙ fold-roll-Node PlainNode PlainTerm node_step term_step (O.Conj xs))

pub made_app : (w : List (List ℕ)) (xs : List Term) (l : ℕ) → plain_term (roll-Term (record { node = N.App w xs; line = l })) ≡ at (App w (term_list (map plain_term xs))) l
made_app w xs l =
    fold-roll-Term PlainNode PlainTerm node_step term_step (record { node = N.App w xs; line = l })
    ∙ ap (λ n. at n l) (ap plain_node (sym (rolls-App w xs)) ∙ fold-roll-Node PlainNode PlainTerm node_step term_step (O.App w xs))

pub not_zero : (n : ℕ) → nat_eq n 0 ≡ false → 1 ≤ n
not_zero zero e = cc
not_zero (suc n) e = omega arith

joined_terms : (ts : PlainTerms) (us : List PlainTerm) → term_list (listed ts ++ us) ≡ followed_by ts (term_list us)
joined_terms no_term us = refl
joined_terms (more_terms t ts) us = ap (λ vs. more_terms t vs) (joined_terms ts us)

-- a goal with some behind it is a conjunction
pub conjoined : (t : PlainTerm) (us : List PlainTerm) (l : ℕ) → line_of t ≡ l → 1 ≤ length us → at (Conj (term_list (conjuncts t ++ us))) l ≡ and_then t (term_list us)
conjoined t [] l e h = absurd (omega arith)
conjoined (at (Conj ts) k) (u ∷ us) l e h = ap (λ m. at (Conj (term_list (listed ts ++ u ∷ us))) m) (sym e) ∙ ap (λ vs. at (Conj vs) k) (joined_terms ts (u ∷ us))
conjoined (at (Var x) k) (u ∷ us) l e h = ap (λ m. at (Conj (more_terms (at (Var x) k) (term_list (u ∷ us)))) m) (sym e)
conjoined (at (Int n) k) (u ∷ us) l e h = ap (λ m. at (Conj (more_terms (at (Int n) k) (term_list (u ∷ us)))) m) (sym e)
conjoined (at (Str s) k) (u ∷ us) l e h = ap (λ m. at (Conj (more_terms (at (Str s) k) (term_list (u ∷ us)))) m) (sym e)
conjoined (at (App w ts) k) (u ∷ us) l e h = ap (λ m. at (Conj (more_terms (at (App w ts) k) (term_list (u ∷ us)))) m) (sym e)
conjoined (at (Items ts) k) (u ∷ us) l e h = ap (λ m. at (Conj (more_terms (at (Items ts) k) (term_list (u ∷ us)))) m) (sym e)
conjoined (at (Tailed ts t) k) (u ∷ us) l e h = ap (λ m. at (Conj (more_terms (at (Tailed ts t) k) (term_list (u ∷ us)))) m) (sym e)
conjoined (at (Disj ts) k) (u ∷ us) l e h = ap (λ m. at (Conj (more_terms (at (Disj ts) k) (term_list (u ∷ us)))) m) (sym e)

-- branches that aren't one are a disjunction
pub several : (l : ℕ) (ts : List PlainTerm) → (length ts ≡ 1 → ⊥) → at (Disj (term_list ts)) l ≡ alone l (term_list ts)
several l [] h = refl
several l (t ∷ []) h = absurd (h refl)
several l (t ∷ u ∷ ts) h = refl

pub gathered-last : (l : ℕ) (ps : List Piece) (p : Piece) (ts : PlainTerms) → gathered l (ps ++ p ∷ []) ts ≡ gathered l ps (gather l p.opened p.text ts)
gathered-last l [] p ts = refl
gathered-last l (q ∷ ps) p ts = ap (λ us. gather l q.opened q.text us) (gathered-last l ps p ts)

pub no_items : {A : Type 0} (xs : List A) → length xs ≡ 0 → xs ≡ []
no_items [] e = refl
no_items (x ∷ xs) e = absurd (omega arith)

pub item_before : (ts : List Term) (k : ℕ) (t : Term) → 1 ≤ k → k ≤ length ts → t ≡ get_or ts (k - 1) t → drop (k - 1) ts ≡ t ∷ drop k ts
item_before ts k t h le e =
    let at_item : get_or ts (k - 1) t ≡ t = sym e in
    let next : suc (k - 1) ≡ k = omega arith in
    drop-cons ts (k - 1) t (omega arith) ∙ ap₂ (λ x j. x ∷ drop j ts) at_item next

not_last : (xs : List (List (List ℕ))) (x : List (List ℕ)) → is_last (xs ++ x ∷ []) ≡ false
not_last [] x = refl
not_last (y ∷ xs) x = refl

suc_not_zero : (n : ℕ) → false ≡ nat_eq (suc n) 0
suc_not_zero n = grind arith

-- none is left of a list that is turned where none was in it
pub last_is : (xs : List (List (List ℕ))) → is_last (reverse xs) ≡ nat_eq (length xs) 0
last_is [] = refl
last_is (x ∷ xs) = ap is_last (reverse_onto xs x []) ∙ not_last (reverse xs) x ∙ suc_not_zero (length xs)

pub item_at : (ts : List Term) (i : ℕ) (t : Term) → i < length ts → t ≡ get_or ts i t → drop i ts ≡ t ∷ drop (i + 1) ts
item_at ts i t h e =
    let next : suc i ≡ i + 1 = omega arith in drop-cons ts i t h ∙ ap₂ (λ x j. x ∷ drop j ts) (sym e) next
