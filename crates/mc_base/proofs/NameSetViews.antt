-- The names behind references.
use Rattle.std.proofs.Common.{◌≡◌, ℕ, Bool, true, false, cond, List, [], ◌∷◌, ◌++◌, ◌||◌, map, refl, ap, Bor, if◌then◌else◌}
use Rattle.std.specs.List.{list_any}
use Rattle.std.specs.Set.{is_member}
use Rattle.std.specs.Str.{bytes_eq}
use Rattle.mc_base.specs.NameSets.{put}

abbrev pub names_of : List (Bor (List ℕ)) → List (List ℕ)
names_of ks = map (λ name. name.now) ks

pub is_member-names_of : (x : List ℕ) (ks : List (Bor (List ℕ))) → is_member bytes_eq (names_of ks) x ≡ list_any (λ k. bytes_eq x k.now) ks
is_member-names_of x [] = refl
is_member-names_of x (k ∷ ks) = ap (λ b. bytes_eq x k.now || b) (is_member-names_of x ks)

names_of-append : (ks : List (Bor (List ℕ))) (k : Bor (List ℕ)) → names_of (ks ++ k ∷ []) ≡ names_of ks ++ k.now ∷ []
names_of-append [] k = refl
names_of-append (j ∷ ks) k = ap (λ xs. j.now ∷ xs) (names_of-append ks k)

choice : (b : Bool) (ks : List (Bor (List ℕ))) (k : Bor (List ℕ)) → names_of (if b then ks else ks ++ k ∷ []) ≡ cond b (names_of ks) (names_of ks ++ k.now ∷ [])
choice true ks k = refl
choice false ks k = names_of-append ks k

pub names_of-put : (ks : List (Bor (List ℕ))) (k : Bor (List ℕ)) → names_of (if list_any (λ j. bytes_eq k.now j.now) ks then ks else ks ++ k ∷ []) ≡ put (names_of ks) k.now
names_of-put ks k = rw (is_member-names_of k.now ks) (choice (list_any (λ j. bytes_eq k.now j.now) ks) ks k)
