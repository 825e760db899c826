-- A name by its parts, part by part.
use Rattle.std.proofs.Common.{◌≡◌, ℕ, ◌-◌, ◌<◌, suc, List, [], ◌∷◌, ◌++◌, take, drop, length, get_or, ap, ◌∙◌, arith}
use Rattle.std.proofs.lemmas.List.{append-nil, take_all}
use Rattle.mc_names.specs.Plain.{joined}

-- parts behind others, each behind a full stop
abbrev pub dotted : List (List ℕ) → List ℕ
dotted [] = []
dotted (v ∷ vs) = 46 ∷ (v ++ dotted vs)

pub joined-first : (w : List ℕ) (vs : List (List ℕ)) → w ++ dotted vs ≡ joined (w ∷ vs)
joined-first w [] = append-nil w
joined-first w (v ∷ vs) = ap (λ u. w ++ (46 ∷ u)) (joined-first v vs)

pub joined-others : (name : List (List ℕ)) (w text : List ℕ) → 0 < length name → w ≡ get_or name 0 w → text ≡ w → text ++ dotted (take (length name - 1) (drop 1 name)) ≡ joined name
joined-others [] w text h p q = absurd (omega arith)
joined-others (v ∷ vs) w text h p q =
    let s : suc (length vs) - 1 ≡ length vs = omega arith in
    rw s (ap (λ n. text ++ dotted n) (take_all (length vs) vs (omega arith)) ∙ ap (λ t. t ++ dotted vs) (q ∙ p) ∙ joined-first v vs)
