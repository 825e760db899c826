-- Rows of matches, looked up by their ids, and what one use of an argument makes of them.
use Rattle.std.proofs.Common.{◌≡◌, ◌∙◌, refl, sym, ap, Bool, true, false, cond, ◌||◌, List, [], ◌∷◌, ◌++◌, Option, Some, None}
use Rattle.std.specs.Prelude.{is_some, find, option_map}
use Rattle.std.specs.Str.{bytes_eq}
use Rattle.std.proofs.lemmas.Option.{none-some}
use Rattle.std.proofs.lemmas.Slice.Eq.{bytes_eq-Decides}
use Rattle.clap.specs.Walk.{Row, Text, has_row, stronger, with_values, without}
use Rattle.clap.specs.declared.builder.value_parser.Reading.{Reading}
use Rattle.clap.specs.declared.parser.matches.ValueSource.{ValueSource}
use Rattle.clap.specs.declared.parser.matches.ValueSource.TheVariants.{CommandLine}

-- the row of an id
abbrev pub row_of_id : Text → List Row → Option Row
row_of_id id = find (λ r. bytes_eq r.id id)

abbrev pub row_from : ValueSource → Text → Reading → List Text → Row
row_from source id how values = record { id = id; values = values; count = None; source = Some source; reading = how }

-- a row of values that the words gave
abbrev pub given_row : Text → Reading → List Text → Row
given_row = row_from CommandLine

-- a row with more values that the words gave
abbrev pub with_more : List Text → Row → Row
with_more values r = record r { values = r.values ++ values; source = Some (stronger r.source CommandLine) }

-- equal texts stand in for each other
same_text : (a b : Text) → bytes_eq a b ≡ true → a ≡ b
same_text a b e = (bytes_eq-Decides a b).0 e

pub has_row-is : (id : Text) (rows : List Row) → has_row id rows ≡ is_some (row_of_id id rows)
has_row-is id [] = refl
has_row-is id (r ∷ rs) = go (bytes_eq r.id id) (has_row-is id rs)
  where
    go : (b : Bool) → has_row id rs ≡ is_some (row_of_id id rs) → (b || has_row id rs) ≡ is_some (cond b (Some r) (row_of_id id rs))
    go true e = refl
    go false e = e

-- nothing goes where the id has no row
pub without-none : (id : Text) (rows : List Row) → row_of_id id rows ≡ None → without id rows ≡ rows
without-none id [] none = refl
without-none id (r ∷ rs) none = go (without-none id rs) (bytes_eq r.id id) none
  where
    go : (row_of_id id rs ≡ None → without id rs ≡ rs) → (b : Bool) → cond b (Some r) (row_of_id id rs) ≡ None → cond b ([] ++ rs) (r ∷ without id rs) ≡ r ∷ rs
    go later true e = absurd (none-some r (sym e))
    go later false e = ap (λ xs. r ∷ xs) (later e)

-- the first use of an id gives it a row
pub row-added : (id : Text) (source : ValueSource) (how : Reading) (values : List Text) (rows : List Row) → bytes_eq id id ≡ true → row_of_id id rows ≡ None
    → row_of_id id (with_values id how source values rows) ≡ Some (row_from source id how values)
row-added id source how values [] itself none = rw itself refl
row-added id source how values (r ∷ rs) itself none = go (row-added id source how values rs itself) (bytes_eq r.id id) refl
  where
    go : (row_of_id id rs ≡ None → row_of_id id (with_values id how source values rs) ≡ Some (row_from source id how values))
        → (b : Bool) → bytes_eq r.id id ≡ b → row_of_id id (with_values id how source values (r ∷ rs)) ≡ Some (row_from source id how values)
    go later true e =
        let bad : Some r ≡ None = rw e at none in
        absurd (none-some r (sym bad))
    go later false e =
        let rest : row_of_id id rs ≡ None = rw e at none in
        rw (e, e) (later rest)

-- a later use of an id gives its row more values
pub row-grown : (id : Text) (how : Reading) (values : List Text) (rows : List Row) (r : Row) → row_of_id id rows ≡ Some r
    → row_of_id id (with_values id how CommandLine values rows) ≡ Some (with_more values r)
row-grown id how values [] r one = absurd (none-some r one)
row-grown id how values (x ∷ xs) r one = go (row-grown id how values xs r) (bytes_eq x.id id) refl
  where
    go : (row_of_id id xs ≡ Some r → row_of_id id (with_values id how CommandLine values xs) ≡ Some (with_more values r))
        → (b : Bool) → bytes_eq x.id id ≡ b → row_of_id id (with_values id how CommandLine values (x ∷ xs)) ≡ Some (with_more values r)
    go later true e =
        let here : Some x ≡ Some r = rw e at one in
        rw (e, e) (ap (option_map (with_more values)) here)
    go later false e =
        let rest : row_of_id id xs ≡ Some r = rw e at one in
        rw (e, e) (later rest)

-- a use of an id leaves the rows of others
pub row-kept : (id other : Text) (source : ValueSource) (how : Reading) (values : List Text) (rows : List Row) → bytes_eq id other ≡ false
    → row_of_id other (with_values id how source values rows) ≡ row_of_id other rows
row-kept id other source how values [] differ = rw differ refl
row-kept id other source how values (x ∷ xs) differ = go (row-kept id other source how values xs differ) (bytes_eq x.id id) refl
  where
    go : row_of_id other (with_values id how source values xs) ≡ row_of_id other xs
        → (b : Bool) → bytes_eq x.id id ≡ b → row_of_id other (with_values id how source values (x ∷ xs)) ≡ row_of_id other (x ∷ xs)
    go later true e =
        let miss : bytes_eq x.id other ≡ false = ap (λ t. bytes_eq t other) (same_text x.id id e) ∙ differ in
        rw (e, miss) refl
    go later false e = rw e (ap (cond (bytes_eq x.id other) (Some x)) later)
