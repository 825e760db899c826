-- Tables of nodes, key by key.
use Rattle.std.proofs.Common.{◌≡◌, ℕ, Bool, true, false, cond, ◌&&◌, List, [], ◌∷◌, map, Option, Some, nat_eq, if◌then◌else◌, refl, sym, ap, ◌∙◌}
use Rattle.std.specs.Str.{bytes_eq}
use Rattle.std.proofs.lemmas.Bool.{eqb-true, eq-eqb}
use Rattle.std.proofs.lemmas.Slice.Eq.{bytes_eq-Decides}
use Rattle.std.specs.Map.{lookup}
use Rattle.indexmap.specs.IndexMap.{insert_entry}
use Rattle.mc_mode_state.specs.declared.table.Key.{Key}
use Rattle.mc_mode_state.specs.contracts.table.KeyPartialEq.TheImpl as KeyEq
use Rattle.mc_mode_state.specs.Tables.{Entry, entry, node_in}

abbrev pub same : Key → Key → Bool
same = KeyEq.eq-value.it

abbrev pub entry_of : Key × ℕ → Entry
entry_of e = entry e.0.number e.0.insts.items e.1

abbrev pub entries_of : List (Key × ℕ) → List Entry
entries_of es = map entry_of es

-- what is looked up
pub looked_up : (es : List (Key × ℕ)) (k : Key) → lookup (same k) es ≡ node_in (entries_of es) k.number k.insts.items
looked_up [] k = refl
looked_up (e ∷ es) k = ap (cond (same k e.0) (Some e.1)) (looked_up es k)

abbrev at_key : Key → ℕ → List ℕ → Bool
at_key k m js = nat_eq m k.number && bytes_eq js k.insts.items

and_left : (a b : Bool) → (a && b) ≡ true → a ≡ true
and_left true b h = refl
and_left false b h = cc

and_right : (a b : Bool) → (a && b) ≡ true → b ≡ true
and_right true b h = h
and_right false b h = cc

both : (a b : Bool) → a ≡ true → b ≡ true → (a && b) ≡ true
both true b h i = i
both false b h i = cc

-- equal keys are at the same place
same_place : (k l : Key) (m : ℕ) (js : List ℕ) → same k l ≡ true → at_key l m js ≡ at_key k m js
same_place k l m js h =
    let n : k.number ≡ l.number = eqb-true k.number l.number (and_left (nat_eq k.number l.number) (bytes_eq k.insts.items l.insts.items) h) in
    let i : k.insts.items ≡ l.insts.items = (bytes_eq-Decides k.insts.items l.insts.items).0 (and_right (nat_eq k.number l.number) (bytes_eq k.insts.items l.insts.items) h) in
    ap (λ x. nat_eq m x && bytes_eq js l.insts.items) (sym n) ∙ ap (λ (xs : List ℕ). nat_eq m k.number && bytes_eq js xs) (sym i)

-- keys at one place are equal
at_one_place : (k l : Key) (m : ℕ) (js : List ℕ) → at_key k m js ≡ true → at_key l m js ≡ true → same k l ≡ true
at_one_place k l m js h g =
    let n : m ≡ k.number = eqb-true m k.number (and_left (nat_eq m k.number) (bytes_eq js k.insts.items) h) in
    let i : js ≡ k.insts.items = (bytes_eq-Decides js k.insts.items).0 (and_right (nat_eq m k.number) (bytes_eq js k.insts.items) h) in
    let p : m ≡ l.number = eqb-true m l.number (and_left (nat_eq m l.number) (bytes_eq js l.insts.items) g) in
    let j : js ≡ l.insts.items = (bytes_eq-Decides js l.insts.items).0 (and_right (nat_eq m l.number) (bytes_eq js l.insts.items) g) in
    both (nat_eq k.number l.number) (bytes_eq k.insts.items l.insts.items) (eq-eqb k.number l.number (sym n ∙ p)) ((bytes_eq-Decides k.insts.items l.insts.items).1 (sym i ∙ j))

replaced : (a : Bool) (v x : ℕ) (o : Option ℕ) → cond a (Some v) o ≡ cond a (Some v) (cond a (Some x) o)
replaced true v x o = refl
replaced false v x o = refl

swapped : (a b : Bool) (v x : ℕ) (o : Option ℕ) → (a ≡ true → b ≡ true → ⊥) → cond b (Some x) (cond a (Some v) o) ≡ cond a (Some v) (cond b (Some x) o)
swapped true true v x o f = absurd (f refl refl)
swapped true false v x o f = refl
swapped false true v x o f = refl
swapped false false v x o f = refl

put_at : (e : Key × ℕ) (es : List (Key × ℕ)) (k : Key) (v m : ℕ) (js : List ℕ) (b : Bool) → same k e.0 ≡ b
    → node_in (entries_of (insert_entry same es k v)) m js ≡ cond (at_key k m js) (Some v) (node_in (entries_of es) m js)
    → node_in (entries_of (if b then (e.0, v) ∷ es else e ∷ insert_entry same es k v)) m js ≡ cond (at_key k m js) (Some v) (node_in (entries_of (e ∷ es)) m js)
put_at e es k v m js true h rest =
    ap (λ t. cond t (Some v) (node_in (entries_of es) m js)) (same_place k e.0 m js h)
    ∙ (replaced (at_key k m js) v e.1 (node_in (entries_of es) m js)
    ∙ ap (λ t. cond (at_key k m js) (Some v) (cond t (Some e.1) (node_in (entries_of es) m js))) (sym (same_place k e.0 m js h)))
put_at e es k v m js false h rest =
    ap (cond (at_key e.0 m js) (Some e.1)) rest
    ∙ swapped (at_key k m js) (at_key e.0 m js) v e.1 (node_in (entries_of es) m js) (λ a b. let x : same k e.0 ≡ true = at_one_place k e.0 m js a b in cc)

-- what is found after a key was put in
pub found_after : (es : List (Key × ℕ)) (k : Key) (v m : ℕ) (js : List ℕ) → node_in (entries_of (insert_entry same es k v)) m js ≡ (if nat_eq m k.number && bytes_eq js k.insts.items then Some v else node_in (entries_of es) m js)
found_after [] k v m js = refl
found_after (e ∷ es) k v m js = put_at e es k v m js (same k e.0) refl (found_after es k v m js)
