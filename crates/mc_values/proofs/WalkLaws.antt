-- What the walks over values keep: of copying and of comparing, both without recursion.
use Rattle.std.proofs.Common.{◌≡◌, ◌≢◌, ℕ, suc, ◌+◌, ◌<◌, ◌≤◌, Bool, true, false, List, [], ◌∷◌, ◌++◌, length, map, get_or, drop, Result, Ok, Err, IfOk, refl, ap, sym, ◌∙◌, subst, arith, Option, Some, None}
use Rattle.mc_base.specs.declared.memory.Memory.{Memory}
use Rattle.std.specs.Borrow.{Bor}
use Rattle.std.specs.List.{All}
use Rattle.std.proofs.lemmas.List.{length-map, length-append, append-nil, map-append, append_assoc, drop_more, get_or_append_left, get_or_at}
use Rattle.std.proofs.lemmas.List.Elements.{All-push}
use Rattle.mc_program.specs.Values.{Val, int, char, str, con, state, Vals, no_vals, val_then, vals, listed, plain_value}
use Rattle.mc_program.specs.declared.value.Value.{Value, Con}
use Rattle.mc_program.proofs.Views.{plain_value-Con}
use Rattle.mc_values.specs.Parts.{arguments}
use Rattle.mc_values.specs.declared.heap.Heap.{Heap}
use Rattle.mc_values.specs.declared.part.Part.{Part}
use Rattle.mc_values.specs.declared.cell.Cell.{Cell}
use Rattle.mc_values.specs.code.Cells.{refs_before, named_of, written_in, written_before, plain_of}
use Rattle.std.specs.Prelude.{IfSome}
use Rattle.mc_values.specs.Heap.{IsLive, value_at, values_at}
use Rattle.mc_values.specs.code.Walks.{size, sizes, top_of, AreSame, AreLivePairs, pairs_size, with_pairs, ArePut, IsSplit, joined, filled, AreLiveParts, parts_size}

vals-listed : (vs : Vals) → vals (listed vs) ≡ vs
vals-listed no_vals = refl
vals-listed (val_then v vs) = ap (val_then v) (vals-listed vs)

-- values with one top and the same arguments are one value
pub same_parts : (v w : Val) → top_of v ≡ top_of w → arguments v ≡ arguments w → v ≡ w
same_parts (con f vs) (con g ws) e l =
    let tops : f ≡ g = cc in
    let args : vs ≡ ws = sym (vals-listed vs) ∙ ap vals l ∙ vals-listed ws in
    λ i. con (tops i) (args i)
same_parts (int m) (int n) e l = e
same_parts (char m) (char n) e l = e
same_parts (str s) (str t) e l = e
same_parts (state s m) (state t n) e l = e
same_parts v w e l = cc

-- how large a value is, by its arguments
pub size_of : (v : Val) → size v ≡ suc (sizes (vals (arguments v)))
size_of (int n) = refl
size_of (char n) = refl
size_of (str t) = refl
size_of (con s vs) = ap (λ l. suc (sizes l)) (sym (vals-listed vs))
size_of (state t k) = refl

same_push_to : (h : Heap) (ps : List (ℕ × ℕ)) (p : ℕ × ℕ) → AreSame h (ps ++ (p ∷ [])) → AreSame h ps × (value_at h p.0 ≡ value_at h p.1)
same_push_to h [] p s = (tt, s.0)
same_push_to h (q ∷ ps) p s = let r = same_push_to h ps p s.1 in ((s.0, r.0), r.1)

same_push_from : (h : Heap) (ps : List (ℕ × ℕ)) (p : ℕ × ℕ) → AreSame h ps → value_at h p.0 ≡ value_at h p.1 → AreSame h (ps ++ (p ∷ []))
same_push_from h [] p s e = (e, tt)
same_push_from h (q ∷ ps) p s e = (s.0, same_push_from h ps p s.1 e)

pairs_size_push : (h : Heap) (ps : List (ℕ × ℕ)) (p : ℕ × ℕ) → pairs_size h (ps ++ (p ∷ [])) ≡ pairs_size h ps + size (value_at h p.0)
pairs_size_push h [] p = omega arith
pairs_size_push h (q ∷ ps) p = omega (arith, pairs_size_push h ps p)

-- the last pair is taken off
module _ (h : Heap) (all rest : List (ℕ × ℕ)) (p : ℕ × ℕ) (e : all ≡ rest ++ (p ∷ [])) where
  pub popped_to : AreSame h all → AreSame h rest × (value_at h p.0 ≡ value_at h p.1)
  popped_to s = same_push_to h rest p (subst (AreSame h) e s)

  pub popped_from : AreSame h rest → value_at h p.0 ≡ value_at h p.1 → AreSame h all
  popped_from s q = subst (AreSame h) (sym e) (same_push_from h rest p s q)

  pub popped_size : pairs_size h all ≡ pairs_size h rest + size (value_at h p.0)
  popped_size = ap (pairs_size h) e ∙ pairs_size_push h rest p

  pub popped_rest : AreLivePairs h all → AreLivePairs h rest
  popped_rest live k d lt =
      let whole = subst (AreLivePairs h) e live in
      subst (λ x. IsLive h x.0 × IsLive h x.1) (get_or_append_left rest (p ∷ []) d k lt) (whole k d (omega (arith, length-append rest (p ∷ []))))

  pub popped_last : AreLivePairs h all → IsLive h p.0 × IsLive h p.1
  popped_last live =
      let whole = subst (AreLivePairs h) e live in
      subst (λ x. IsLive h x.0 × IsLive h x.1) (get_or_at rest p [] p (length rest) refl) (whole (length rest) p (omega (arith, length-append rest (p ∷ []))))

with_to : (h : Heap) (ps : List (ℕ × ℕ)) (xs ys : List ℕ) → length xs ≡ length ys → AreSame h (with_pairs ps xs ys) → AreSame h ps × (values_at h xs ≡ values_at h ys)
with_to h ps [] [] e s = (s, refl)
with_to h ps [] (y ∷ ys) e s = absurd (omega arith)
with_to h ps (x ∷ xs) [] e s = absurd (omega arith)
with_to h ps (x ∷ xs) (y ∷ ys) e s =
    let last = same_push_to h (with_pairs ps xs ys) (x, y) s in
    let front = with_to h ps xs ys (omega arith) last.0 in
    (front.0, λ i. last.1 i ∷ front.1 i)

with_from : (h : Heap) (ps : List (ℕ × ℕ)) (xs ys : List ℕ) → AreSame h ps → values_at h xs ≡ values_at h ys → AreSame h (with_pairs ps xs ys)
with_from h ps [] ys s e = s
with_from h ps (x ∷ xs) [] s e = cc
with_from h ps (x ∷ xs) (y ∷ ys) s e =
    let first : value_at h x ≡ value_at h y = cc in
    let others : values_at h xs ≡ values_at h ys = cc in
    same_push_from h (with_pairs ps xs ys) (x, y) (with_from h ps xs ys s others) first

with_size : (h : Heap) (ps : List (ℕ × ℕ)) (xs ys : List ℕ) → pairs_size h (with_pairs ps xs ys) ≤ pairs_size h ps + sizes (vals (values_at h xs))
with_size h ps [] ys = omega arith
with_size h ps (x ∷ xs) [] = omega arith
with_size h ps (x ∷ xs) (y ∷ ys) = omega (arith, pairs_size_push h (with_pairs ps xs ys) (x, y), with_size h ps xs ys)

with_live : (h : Heap) (ps : List (ℕ × ℕ)) (xs ys : List ℕ) → AreLivePairs h ps → All (IsLive h) xs → All (IsLive h) ys → AreLivePairs h (with_pairs ps xs ys)
with_live h ps [] ys p q r = p
with_live h ps (x ∷ xs) [] p q r = p
with_live h ps (x ∷ xs) (y ∷ ys) p q r =
    All-push (λ p. IsLive h p.0 × IsLive h p.1) (with_pairs ps xs ys) (x, y)
    (with_live h ps xs ys p (λ k d lt. q (suc k) d (omega arith)) (λ k d lt. r (suc k) d (omega arith)))
    (q 0 0 (omega arith), r 0 0 (omega arith))

-- two values are split in their tops and the pairs of their arguments
module _ (h : Heap) (a b : ℕ) (ps : List (ℕ × ℕ)) (live : AreLivePairs h ps) where
  pub split_same : a ≡ b → IsSplit h a b ps true ps
  split_same e = record {
    to = λ t s. (s, ap (value_at h) e);
    from = λ s e. (refl, s);
    live = live;
    less = omega (arith, size_of (value_at h a));
  }

  pub split_other : (value_at h a ≢ value_at h b) → IsSplit h a b ps false ps
  split_other differ = record {
    to = λ t s. cc;
    from = λ s e. absurd (differ e);
    live = live;
    less = omega (arith, size_of (value_at h a));
  }

  module _ (xs ys : List ℕ) (tops : top_of (value_at h a) ≡ top_of (value_at h b))
      (left : values_at h xs ≡ arguments (value_at h a)) (right : values_at h ys ≡ arguments (value_at h b))
      (lefts : All (IsLive h) xs) (rights : All (IsLive h) ys) where
    put_all : length xs ≡ length ys → IsSplit h a b ps true (with_pairs ps xs ys)
    put_all e = record {
      to = λ t s. let r = with_to h ps xs ys e s in (r.0, same_parts (value_at h a) (value_at h b) tops (sym left ∙ r.1 ∙ right));
      from = λ s e. (refl, with_from h ps xs ys s (left ∙ ap arguments e ∙ sym right));
      live = with_live h ps xs ys live lefts rights;
      less = omega (arith, size_of (value_at h a), with_size h ps xs ys, ap (λ l. sizes (vals l)) left);
    }

    lengths : value_at h a ≡ value_at h b → length xs ≡ length ys
    lengths e = sym (length-map xs (value_at h)) ∙ ap length (left ∙ ap arguments e ∙ sym right) ∙ length-map ys (value_at h)

    pub split_put : (put : Bool) (new : List (ℕ × ℕ)) → ArePut xs ys ps put new → IsSplit h a b ps put new
    split_put true new p = subst (λ l. IsSplit h a b ps true l) (sym p.1) (put_all p.0)
    split_put false new p = subst (λ l. IsSplit h a b ps false l) (sym p.1) (split_other (λ e. p.0 (lengths e)))

    pub if_split : (r : Result Bool Memory) (new : List (ℕ × ℕ)) → IfOk r (λ put. ArePut xs ys ps put new) → IfOk r (λ same. IsSplit h a b ps same new)
    if_split (Ok put) new p = split_put put new p
    if_split (Err m) new p = p

-- a text is put behind others, which it stands before
pub joined_push : (texts : List (Bor (List ℕ))) (text : Bor (List ℕ)) → joined (texts ++ (text ∷ [])) ≡ text.now ++ joined texts
joined_push [] text = sym (append-nil text.now)
joined_push (t ∷ texts) text = ap (λ l. l ++ t.now) (joined_push texts text) ∙ append_assoc text.now (joined texts) t.now

earlier : (h : Heap) (at : ℕ) (before : Option ℕ) → IsLive h at → All (λ a. a < at) (refs_before before) → IfSome before (IsLive h)
unfolding IsLive
earlier h at None live below = tt
earlier h at (Some r) live below = let b = below 0 0 (omega arith) in omega arith

-- what a state of io adds is put behind the pieces after it
pub piece_put : (h : Heap) (pieces new : List (Bor (List ℕ))) (added : Bor (List ℕ)) (now before : Option ℕ) (at taken : ℕ) (c : Cell) (whole : List ℕ) → new ≡ pieces ++ (added ∷ []) → now ≡ Some at → value_at h at ≡ plain_of (value_at h) c → plain_of (value_at h) c ≡ state (written_before (value_at h) before ++ added.now) taken → written_before (value_at h) now ++ joined pieces ≡ whole → written_before (value_at h) before ++ joined new ≡ whole
piece_put h pieces new added now before at taken c whole pushed some value is e =
    let first = written_before (value_at h) before in
    ap (λ l. first ++ joined l) pushed
    ∙ ap (λ l. first ++ l) (joined_push pieces added)
    ∙ sym (append_assoc first added.now (joined pieces))
    ∙ ap (λ v. written_in v ++ joined pieces) (sym (value ∙ is))
    ∙ ap (λ o. written_before (value_at h) o ++ joined pieces) (sym some)
    ∙ e

pub before_live : (h : Heap) (now before : Option ℕ) (at : ℕ) (c : Cell) → now ≡ Some at → IfSome now (IsLive h) → All (λ a. a < at) (named_of c) → named_of c ≡ refs_before before → IfSome before (IsLive h)
before_live h now before at c some live below is =
    earlier h at before (subst (λ o. IfSome o (IsLive h)) some live) (subst (λ (l : List ℕ). All (λ a. a < at) l) is below)

-- the earliest of the pieces is taken off
pub piece_taken : (pieces rest : List (Bor (List ℕ))) (piece : Bor (List ℕ)) (text more added whole : List ℕ) → pieces ≡ rest ++ (piece ∷ []) → more ≡ text ++ added → added ≡ piece.now → text ++ joined pieces ≡ whole → more ++ joined rest ≡ whole
piece_taken pieces rest piece text more added whole popped put same e =
    ap (λ l. l ++ joined rest) (put ∙ ap (λ l. text ++ l) same)
    ∙ append_assoc text piece.now (joined rest)
    ∙ ap (λ l. text ++ l) (sym (ap joined popped ∙ joined_push rest piece))
    ∙ e

-- the open constructors with one more, which is the innermost
pub filled_push : (h : Heap) (ps : List Part) (p : Part) (v : Val) → filled h (ps ++ (p ∷ [])) v ≡ filled h ps (con p.symbol (vals (map plain_value p.done ++ (v ∷ values_at h p.rest.now))))
filled_push h [] p v = refl
filled_push h (q ∷ ps) p v = ap (λ w. con q.symbol (vals (map plain_value q.done ++ (w ∷ values_at h q.rest.now)))) (filled_push h ps p v)

pub parts_size_push : (h : Heap) (ps : List Part) (p : Part) → parts_size h (ps ++ (p ∷ [])) ≡ parts_size h ps + suc (sizes (vals (values_at h p.rest.now)))
parts_size_push h [] p = omega arith
parts_size_push h (q ∷ ps) p = omega (arith, parts_size_push h ps p)

pub first_of : (refs : List ℕ) → 1 ≤ length refs → refs ≡ get_or refs 0 0 ∷ drop 1 refs
first_of [] some = absurd (omega arith)
first_of (r ∷ refs) some = refl

pub rest_of : (P : ℕ → Type 0) (refs : List ℕ) → All P refs → All P (drop 1 refs)
rest_of P [] all k d lt = absurd (omega arith)
rest_of P (r ∷ refs) all k d lt = all (suc k) d (omega arith)

-- a constructor is opened at its first argument
module _ (h : Heap) (ps more : List Part) (p : Part) (at : ℕ) (refs : List ℕ)
    (pushed : more ≡ ps ++ (p ∷ [])) (none : p.done ≡ []) (others : p.rest.now ≡ drop 1 refs) (some : 1 ≤ length refs)
    (whole : value_at h at ≡ con p.symbol (vals (values_at h refs))) where
  abbrev first : ℕ
  first = get_or refs 0 0

  abbrev rest : List ℕ
  rest = drop 1 refs

  is : value_at h at ≡ con p.symbol (vals (values_at h (first ∷ rest)))
  is = whole ∙ ap (λ l. con p.symbol (vals (values_at h l))) (first_of refs some)

  pub opened_live : AreLiveParts h ps → All (IsLive h) refs → AreLiveParts h more
  opened_live live lives =
      subst (AreLiveParts h) (sym pushed)
      (All-push (λ q. All (IsLive h) q.rest.now) ps p live (subst (λ (l : List ℕ). All (IsLive h) l) (sym others) (rest_of (IsLive h) refs lives)))

  pub opened : filled h more (value_at h first) ≡ filled h ps (value_at h at)
  opened =
      ap (λ l. filled h l (value_at h first)) pushed ∙ filled_push h ps p (value_at h first)
      ∙ ap (λ (l : List Value). filled h ps (con p.symbol (vals (map plain_value l ++ (value_at h first ∷ values_at h p.rest.now))))) none
      ∙ ap (λ (l : List ℕ). filled h ps (con p.symbol (vals (value_at h first ∷ values_at h l)))) others
      ∙ ap (filled h ps) (sym is)

  pub opened_size : parts_size h more + size (value_at h first) ≡ parts_size h ps + size (value_at h at)
  opened_size =
      omega (arith, ap (parts_size h) pushed, parts_size_push h ps p, ap (λ (l : List ℕ). sizes (vals (values_at h l))) others, ap size is)

-- an open constructor gets the copy of its argument at hand
module _ (h : Heap) (ps : List Part) (p : Part) (copy : Value) where
  -- and is whole
  pub closed : (done : List Value) → done ≡ p.done ++ (copy ∷ []) → p.rest.now ≡ [] → filled h ps (plain_value (Con p.symbol done)) ≡ filled h (ps ++ (p ∷ [])) (plain_value copy)
  closed done e none =
      ap (λ (l : List Value). filled h ps (plain_value (Con p.symbol l))) e
      ∙ ap (filled h ps) (plain_value-Con p.symbol (p.done ++ (copy ∷ [])))
      ∙ ap (λ l. filled h ps (con p.symbol (vals l))) (map-append plain_value p.done (copy ∷ []))
      ∙ ap (λ (l : List ℕ). filled h ps (con p.symbol (vals (map plain_value p.done ++ (plain_value copy ∷ values_at h l))))) (sym none)
      ∙ sym (filled_push h ps p (plain_value copy))

  pub closed_size : parts_size h ps < parts_size h (ps ++ (p ∷ []))
  closed_size = omega (arith, parts_size_push h ps p)

  -- or goes on with its next argument
  module _ (q : Part) (more : List Part) (next : ℕ) (rest : List ℕ) (pushed : more ≡ ps ++ (q ∷ [])) (symbol : q.symbol ≡ p.symbol)
      (done : q.done ≡ p.done ++ (copy ∷ [])) (others : q.rest.now ≡ rest) (all : p.rest.now ≡ next ∷ rest) where
    pub gone_on : filled h more (value_at h next) ≡ filled h (ps ++ (p ∷ [])) (plain_value copy)
    gone_on =
        ap (λ l. filled h l (value_at h next)) pushed ∙ filled_push h ps q (value_at h next)
        ∙ (λ i. filled h ps (con (symbol i) (vals (map plain_value (done i) ++ (value_at h next ∷ values_at h (others i))))))
        ∙ ap (λ l. filled h ps (con p.symbol (vals (l ++ (value_at h next ∷ values_at h rest))))) (map-append plain_value p.done (copy ∷ []))
        ∙ ap (λ l. filled h ps (con p.symbol (vals l))) (append_assoc (map plain_value p.done) (plain_value copy ∷ []) (value_at h next ∷ values_at h rest))
        ∙ ap (λ (l : List ℕ). filled h ps (con p.symbol (vals (map plain_value p.done ++ (plain_value copy ∷ values_at h l))))) (sym all)
        ∙ sym (filled_push h ps p (plain_value copy))

    pub gone_on_live : AreLiveParts h ps → All (IsLive h) rest → AreLiveParts h more
    gone_on_live live lives =
        subst (AreLiveParts h) (sym pushed)
        (All-push (λ q. All (IsLive h) q.rest.now) ps q live (subst (λ (l : List ℕ). All (IsLive h) l) (sym others) lives))

    gone_on_size : parts_size h more + size (value_at h next) ≤ parts_size h (ps ++ (p ∷ []))
    gone_on_size =
        omega (arith, ap (parts_size h) pushed, parts_size_push h ps q, parts_size_push h ps p, ap (λ (l : List ℕ). sizes (vals (values_at h l))) others, ap (λ (l : List ℕ). sizes (vals (values_at h l))) all)

    pub if_copied : (r : Result Value Memory) (new : List Part) → IfOk r (λ v. filled h new (plain_value v) ≡ filled h more (value_at h next)) → IfOk r (λ v. filled h new (plain_value v) ≡ filled h (ps ++ (p ∷ [])) (plain_value copy))
    if_copied (Ok v) new e = e ∙ gone_on
    if_copied (Err m) new e = e

    pub if_less : (r : Result Value Memory) (new : List Part) → IfOk r (λ v. parts_size h new + 1 ≡ parts_size h more + size (value_at h next)) → IfOk r (λ v. parts_size h new < parts_size h (ps ++ (p ∷ [])))
    if_less (Ok v) new e = let le = gone_on_size in omega arith
    if_less (Err m) new e = e

-- a pair is put before those that are put already
pub put_more : (left right : List ℕ) (old pairs new : List (ℕ × ℕ)) (k j x y : ℕ) → pairs ≡ with_pairs old (drop k left) (drop k right) → k ≡ j + 1 → j < length left → j < length right → x ≡ get_or left j 0 → y ≡ get_or right j 0 → new ≡ pairs ++ ((x, y) ∷ []) → new ≡ with_pairs old (drop j left) (drop j right)
put_more left right old pairs new k j x y e next lt lt' at at' pushed =
    let first : drop j left ≡ x ∷ drop k left = drop_more left j 0 lt ∙ (λ i. sym at i ∷ drop (sym next i) left) in
    let second : drop j right ≡ y ∷ drop k right = drop_more right j 0 lt' ∙ (λ i. sym at' i ∷ drop (sym next i) right) in
    pushed ∙ ap (λ l. l ++ ((x, y) ∷ [])) e ∙ sym (λ i. with_pairs old (first i) (second i))
