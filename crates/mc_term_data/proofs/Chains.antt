-- Terms each of which is the last part of the one before it.
use Rattle.std.proofs.Common.{◌≡◌, ◌≤◌, ◌<◌, List, [], ◌∷◌, ◌++◌, map, Some, refl, ap, sym, ◌∙◌, subst, arith}
use Rattle.std.proofs.lemmas.List.{map-append}
use denote.Bor.{Bor}
use Rattle.mc_term_data.specs.declared.term.Term.{Term}
use Rattle.mc_term_data.specs.Plain.{PlainTerm, depth, plain_term}
use Rattle.mc_term_data.specs.code.LastParts.{last_part}
use Rattle.mc_term_data.proofs.Depths.{last_shallower}

-- The first of these terms is v, each other one is the last part of the one before it, and t is that of the last one.
abbrev pub Hangs : List PlainTerm → PlainTerm → PlainTerm → Type 0
Hangs [] t v = t ≡ v
Hangs (x ∷ xs) t v = (x ≡ v) × ((u : PlainTerm) × ((last_part x ≡ Some u) × Hangs xs t u))

hangs_more : (xs : List PlainTerm) (t u v : PlainTerm) → Hangs xs t v → last_part t ≡ Some u → Hangs (xs ++ (t ∷ [])) u v
hangs_more [] t u v h e = (h, (u, (e, refl)))
hangs_more (x ∷ xs) t u v h e = (h.0, (h.1.0, (h.1.1.0, hangs_more xs t u h.1.0 h.1.1.1 e)))

hangs_end : (xs : List PlainTerm) (x t v : PlainTerm) → Hangs (xs ++ (x ∷ [])) t v → last_part x ≡ Some t
hangs_end [] x t v h = h.1.1.0 ∙ ap Some (sym h.1.1.1)
hangs_end (y ∷ ys) x t v h = hangs_end ys x t h.1.0 h.1.1.1

hangs_less : (xs : List PlainTerm) (x t v : PlainTerm) → Hangs (xs ++ (x ∷ [])) t v → Hangs xs x v
hangs_less [] x t v h = h.0
hangs_less (y ∷ ys) x t v h = (h.0, (h.1.0, (h.1.1.0, hangs_less ys x t h.1.0 h.1.1.1)))

-- what hangs from a term is no deeper
pub hangs_depth : (xs : List PlainTerm) (t v : PlainTerm) → Hangs xs t v → depth t ≤ depth v
hangs_depth [] t v h = let e : depth t ≡ depth v = ap depth h in omega arith
hangs_depth (x ∷ xs) t v h =
    let e : depth x ≡ depth v = ap depth h.0 in
    let below : depth h.1.0 < depth x = last_shallower x h.1.0 h.1.1.0 in
    let rest : depth t ≤ depth h.1.0 = hangs_depth xs t h.1.0 h.1.1.1 in
    omega arith

-- the terms behind references
abbrev pub seen : List (Bor Term) → List PlainTerm
seen ts = map (λ t. plain_term t.now) ts

seen_more : (ts us : List (Bor Term)) (t : Bor Term) → us ≡ ts ++ (t ∷ []) → seen us ≡ seen ts ++ (plain_term t.now ∷ [])
seen_more ts us t e = ap seen e ∙ map-append (λ t. plain_term t.now) ts (t ∷ [])

pub pushed : (ts us : List (Bor Term)) (t : Bor Term) (u v : PlainTerm) → us ≡ ts ++ (t ∷ []) → Hangs (seen ts) (plain_term t.now) v → last_part (plain_term t.now) ≡ Some u → Hangs (seen us) u v
pushed ts us t u v e h last = subst (λ xs. Hangs xs u v) (sym (seen_more ts us t e)) (hangs_more (seen ts) (plain_term t.now) u v h last)

pub popped_last : (ts us : List (Bor Term)) (t : Bor Term) (u v : PlainTerm) → us ≡ ts ++ (t ∷ []) → Hangs (seen us) u v → last_part (plain_term t.now) ≡ Some u
popped_last ts us t u v e h = hangs_end (seen ts) (plain_term t.now) u v (subst (λ xs. Hangs xs u v) (seen_more ts us t e) h)

pub popped : (ts us : List (Bor Term)) (t : Bor Term) (u v : PlainTerm) → us ≡ ts ++ (t ∷ []) → Hangs (seen us) u v → Hangs (seen ts) (plain_term t.now) v
popped ts us t u v e h = hangs_less (seen ts) (plain_term t.now) u v (subst (λ xs. Hangs xs u v) (seen_more ts us t e) h)
