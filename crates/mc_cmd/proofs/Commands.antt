-- What every command is: it names files, and few of them.
use Rattle.std.proofs.Common.{◌≡◌, ℕ, ◌≤◌, Bool, true, false, cond, ◌&&◌, List, [], ◌∷◌, length, Option, Some, None, refl, ap, subst, arith}
use Rattle.std.specs.Prelude.{nat_le, codes}
use Rattle.std.specs.Str.{bytes_eq}
use Rattle.std.specs.Borrow.{Bor}
use Rattle.std.proofs.lemmas.Bool.{leb-true}
use Rattle.std.proofs.lemmas.List.{length-map}
use Rattle.mc_command_line.specs.Words.{Meaning, Check, Run, Query, Bounds, Spoken, are_files, bounds, check, meaning, query, query_with, run, run_with, spoken_with}
use Rattle.mc_command_line.specs.Plain.{plain_text, plain_texts}
use Rattle.mc_cmd.specs.Outcome.{files_of}

pub record IsCommand (m : Meaning) : Type 0 where
  pub some : 1 ≤ length (files_of m)
  pub few : length (files_of m) ≤ 64

both_true : (a b : Bool) → (a && b) ≡ true → (a ≡ true) × (b ≡ true)
both_true true b e = (refl, e)
both_true false b e = cc

some_same : {A : Type 0} (x y : A) → Some x ≡ Some y → x ≡ y
some_same x y e = cc

-- where a test guards what there is, it holds
guarded : {A : Type 0} (t : Bool) (x y : A) → cond t (Some x) None ≡ Some y → (t ≡ true) × (x ≡ y)
guarded true x y e = (refl, some_same x y e)
guarded false x y e = cc

files_some : (files : List (List ℕ)) → are_files files ≡ true → 1 ≤ length files
files_some files e = leb-true 1 (length files) (both_true (nat_le 1 (length files)) (nat_le (length files) 64) e).0

files_few : (files : List (List ℕ)) → are_files files ≡ true → length files ≤ 64
files_few files e = leb-true (length files) 64 (both_true (nat_le 1 (length files)) (nat_le (length files) 64) e).1

checked : (s : Option Spoken) (m : Meaning) → check s ≡ Some m → IsCommand m
checked None m e = cc
checked (Some s) m e =
    let g = guarded (are_files s.rest) (Check s.rest) m e in
    subst IsCommand g.1 (record { some = files_some s.rest g.0; few = files_few s.rest g.0 })

ran : (s : Option Spoken) (m : Meaning) → run s ≡ Some m → IsCommand m
ran None m e = cc
ran (Some s) m e = at (bounds s) e
  where
    at : (b : Option Bounds) → run_with b s.rest ≡ Some m → IsCommand m
    at None e = cc
    at (Some b) e =
        let g = guarded (are_files s.rest) (Run b s.rest) m e in
        subst IsCommand g.1 (record { some = files_some s.rest g.0; few = files_few s.rest g.0 })

queried : (s : Option Spoken) (m : Meaning) → query s ≡ Some m → IsCommand m
queried None m e = cc
queried (Some s) m e = at (bounds s) s.rest e
  where
    at : (b : Option Bounds) (rest : List (List ℕ)) → query_with s.first b rest ≡ Some m → IsCommand m
    at None [] e = cc
    at None (goal ∷ files) e = cc
    at (Some b) [] e = cc
    at (Some b) (goal ∷ files) e =
        let g = guarded (are_files files) (Query s.first b goal files) m e in
        subst IsCommand g.1 (record { some = files_some files g.0; few = files_few files g.0 })

-- which of three commands is meant
one_of : (a b c : Bool) (x y z : Option Meaning) (m : Meaning) → (x ≡ Some m → IsCommand m) → (y ≡ Some m → IsCommand m) → (z ≡ Some m → IsCommand m) → cond a x (cond b y (cond c z None)) ≡ Some m → IsCommand m
one_of true b c x y z m f g h e = f e
one_of false true c x y z m f g h e = g e
one_of false false true x y z m f g h e = h e
one_of false false false x y z m f g h e = cc

pub is_command : (words : List (List ℕ)) (m : Meaning) → meaning words ≡ Some m → IsCommand m
is_command [] m e = cc
is_command (program ∷ []) m e = cc
is_command (program ∷ command ∷ ws) m e =
    one_of (bytes_eq command (codes "check")) (bytes_eq command (codes "run")) (bytes_eq command (codes "query"))
    (check (spoken_with (record { first = false; bounds = false }) ws)) (run (spoken_with (record { first = false; bounds = true }) ws)) (query (spoken_with (record { first = true; bounds = true }) ws)) m
    (checked (spoken_with (record { first = false; bounds = false }) ws) m) (ran (spoken_with (record { first = false; bounds = true }) ws) m) (queried (spoken_with (record { first = true; bounds = true }) ws) m) e

-- a command's files are few, by their names
pub few_names : (words : List (List ℕ)) (m : Meaning) (names : List (Bor (List ℕ))) → meaning words ≡ Some m → plain_texts names ≡ files_of m → length names ≤ 64
few_names words m names e f = omega (arith, length-map names plain_text, ap length f, (is_command words m e).few)
