-- Several puts, one after another.
use Rattle.std.proofs.Common.{◌≡◌, inl, inr, ℕ, zero, suc, ◌+◌, ◌<◌, List, [], ◌∷◌, ◌++◌, take, drop, get_or, length, Option, Some, None, Result, Ok, Err, refl, sym, ap, ◌∙◌, subst, arith, append_assoc, length-append}
use Rattle.std.specs.List.{flat_map}
use Rattle.std.specs.Result.{IsErrAnd}
use Rattle.std.proofs.lemmas.List.{take-append-le, take_more, append-nil, take_all}
use Rattle.std.proofs.lemmas.Grind.{flat_map-append}
use Rattle.mc_outside.specs.Counts.{PutFaults}
use Rattle.mc_outside.specs.Meaning.{Puts, PutsFront}
use Rattle.mc_outside.specs.declared.traits.PutFault.{PutFault}
use Rattle.mc_outside.specs.declared.traits.PutFault.TheVariants as put
use Rattle.mc_source.specs.declared.rule.Broken.{Broken}
use Rattle.mc_cmd.specs.Messages.{broken_line, broken_lines}
use Rattle.mc_cmd.specs.Call.{Wrote}
use Rattle.mc_cmd.specs.code.Decisions.{CountPuts, Writes}

pub wrote_more : (w0 w1 w2 : Option (List ℕ)) (a b : List ℕ) → Wrote w0 w1 a → Wrote w1 w2 b → Wrote w0 w2 (a ++ b)
wrote_more None w1 w2 a b x y = let z : Wrote None w2 b = subst (λ (w : Option (List ℕ)). Wrote w w2 b) x y in z
wrote_more (Some before) w1 w2 a b x y =
    let z : Wrote (Some (before ++ a)) w2 b = subst (λ (w : Option (List ℕ)). Wrote w w2 b) x y in
    z ∙ ap Some (append_assoc before a b)

take_past : (a x : List ℕ) (k : ℕ) → take (length a + k) (a ++ x) ≡ a ++ take k x
take_past [] x k = let e : 0 + k ≡ k = omega arith in ap (λ (n : ℕ). take n x) e
take_past (b ∷ a) x k =
    let e : length (b ∷ a) + k ≡ suc (length a + k) = omega arith in
    ap (λ (n : ℕ). take n (b ∷ (a ++ x))) e ∙ ap (λ (bs : List ℕ). b ∷ bs) (take_past a x k)

pub front_more : (w0 w1 w2 : Option (List ℕ)) (a b c : List ℕ) → Wrote w0 w1 a → PutsFront w1 w2 b → PutsFront w0 w2 (a ++ (b ++ c))
front_more None w1 w2 a b c x y = let z : PutsFront None w2 b = subst (λ (w : Option (List ℕ)). PutsFront w w2 b) x y in z
front_more (Some before) w1 w2 a b c x y =
    let z : PutsFront (Some (before ++ a)) w2 b = subst (λ (w : Option (List ℕ)). PutsFront w w2 b) x y in
    let e : take (length a + z.0) (a ++ (b ++ c)) ≡ a ++ take z.0 b = take_past a (b ++ c) z.0 ∙ ap (λ (bs : List ℕ). a ++ bs) (take-append-le z.0 b c z.1) in
    (length a + z.0, omega (arith, z.1, length-append a (b ++ c), length-append b c), z.2 ∙ ap Some (append_assoc before a (take z.0 b) ∙ ap (λ (bs : List ℕ). before ++ bs) (sym e)))

-- a sink that is as it was was given nothing
pub wrote_nothing : (w0 w1 : Option (List ℕ)) → w1 ≡ w0 → Wrote w0 w1 []
wrote_nothing None w1 e = e
wrote_nothing (Some before) w1 e = e ∙ ap Some (sym (append-nil before))

-- all of some bytes is a front part of them
pub wrote_front : (w0 w1 : Option (List ℕ)) (bytes : List ℕ) → Wrote w0 w1 bytes → PutsFront w0 w1 bytes
wrote_front None w1 bytes e = e
wrote_front (Some before) w1 bytes e = (length bytes, omega arith, e ∙ ap (λ (bs : List ℕ). Some (before ++ bs)) (sym (take_all (length bytes) bytes (omega arith))))

pub nothing_front : (w0 w1 : Option (List ℕ)) (bytes : List ℕ) → Wrote w0 w1 [] → PutsFront w0 w1 bytes
nothing_front None w1 bytes e = e
nothing_front (Some before) w1 bytes e = (0, omega arith, e)

-- a front part of nothing is nothing
pub front_nothing : (w0 w1 : Option (List ℕ)) → PutsFront w0 w1 [] → Wrote w0 w1 []
front_nothing None w1 p = p
front_nothing (Some before) w1 p = p.2 ∙ ap (λ (bs : List ℕ). Some (before ++ bs)) (take_all p.0 [] (omega arith))

pub writes_front : {T : Type 0} (w0 w1 : Option (List ℕ)) (r : Result T PutFault) (bytes : List ℕ) → Writes w0 w1 r bytes → PutsFront w0 w1 bytes
writes_front w0 w1 (Ok u) bytes e = wrote_front w0 w1 bytes e
writes_front w0 w1 (Err f) bytes e = e

pub writes_nothing : {T : Type 0} (w0 w1 : Option (List ℕ)) (r : Result T PutFault) → Wrote w0 w1 [] → Writes w0 w1 r []
writes_nothing w0 w1 (Ok u) e = e
writes_nothing w0 w1 (Err f) e = wrote_front w0 w1 [] e

-- one put is a writing
pub put_writes : {T : Type 0} (w0 w1 : Option (List ℕ)) (r : Result T PutFault) (bytes : List ℕ) → Puts w0 w1 r bytes → Writes w0 w1 r bytes
put_writes None w1 (Ok u) bytes e = e
put_writes None w1 (Err f) bytes e = e
put_writes (Some before) w1 (Ok u) bytes e = e
put_writes (Some before) w1 (Err put.Failed) bytes e = e
put_writes (Some before) w1 (Err put.Memory) bytes e = (0, omega arith, e ∙ ap Some (sym (append-nil before)))

pub next_taken : {X : Type 0} (xs : List X) (i : ℕ) (x : X) → i < length xs → x ≡ get_or xs i x → take (i + 1) xs ≡ take i xs ++ (x ∷ [])
next_taken xs i x h e = take_more xs i x h ∙ ap (λ y. take i xs ++ (y ∷ [])) (sym e)

pub taken_dropped : {X : Type 0} (i : ℕ) (xs : List X) → take i xs ++ drop i xs ≡ xs
taken_dropped zero xs = refl
taken_dropped (suc i) [] = refl
taken_dropped (suc i) (x ∷ xs) = ap (λ ys. x ∷ ys) (taken_dropped i xs)

-- the pieces up to one and its own are those up to the next
pub pieces_next : {X : Type 0} (f : X → List ℕ) (xs : List X) (i : ℕ) (x : X) → take (i + 1) xs ≡ take i xs ++ (x ∷ []) → flat_map f (take (i + 1) xs) ≡ flat_map f (take i xs) ++ f x
pieces_next f xs i x e = ap (flat_map f) e ∙ flat_map-append f (take i xs) (x ∷ []) ∙ ap (λ (bs : List ℕ). flat_map f (take i xs) ++ bs) (append-nil (f x))

-- all pieces are those up to one, its own, and those after it
pub pieces_split : {X : Type 0} (f : X → List ℕ) (xs : List X) (i : ℕ) (x : X) → take (i + 1) xs ≡ take i xs ++ (x ∷ []) →
    flat_map f xs ≡ flat_map f (take i xs) ++ (f x ++ flat_map f (drop (i + 1) xs))
pieces_split f xs i x e =
    ap (flat_map f) (sym (taken_dropped (i + 1) xs)) ∙ flat_map-append f (take (i + 1) xs) (drop (i + 1) xs)
    ∙ ap (λ (bs : List ℕ). bs ++ flat_map f (drop (i + 1) xs)) (pieces_next f xs i x e)
    ∙ append_assoc (flat_map f (take i xs)) (f x) (flat_map f (drop (i + 1) xs))

-- a loop's puts, one piece each
pub more_written : {X : Type 0} (f : X → List ℕ) (xs : List X) (i : ℕ) (x : X) (w0 w1 w2 : Option (List ℕ)) → i < length xs → x ≡ get_or xs i x →
    Wrote w0 w1 (flat_map f (take i xs)) → Wrote w1 w2 (f x) → Wrote w0 w2 (flat_map f (take (i + 1) xs))
more_written f xs i x w0 w1 w2 h e a b =
    subst (λ (bs : List ℕ). Wrote w0 w2 bs) (sym (pieces_next f xs i x (next_taken xs i x h e))) (wrote_more w0 w1 w2 (flat_map f (take i xs)) (f x) a b)

pub part_written : {X : Type 0} (f : X → List ℕ) (xs : List X) (i : ℕ) (x : X) (w0 w1 w2 : Option (List ℕ)) → i < length xs → x ≡ get_or xs i x →
    Wrote w0 w1 (flat_map f (take i xs)) → PutsFront w1 w2 (f x) → PutsFront w0 w2 (flat_map f xs)
part_written f xs i x w0 w1 w2 h e a b =
    subst (λ (bs : List ℕ). PutsFront w0 w2 bs) (sym (pieces_split f xs i x (next_taken xs i x h e))) (front_more w0 w1 w2 (flat_map f (take i xs)) (f x) (flat_map f (drop (i + 1) xs)) a b)

-- the lines of broken rules are pieces
pub broken_pieces : (files : List (List ℕ)) (bs : List Broken) → broken_lines files bs ≡ flat_map (broken_line files) bs
broken_pieces files [] = refl
broken_pieces files (b ∷ bs) = ap (λ (ls : List ℕ). broken_line files b ++ ls) (broken_pieces files bs)

-- a fault is passed on by a `?`
pub passed_front : {Y : Type 0} (Q : PutFault → Type 0) (w0 w1 : Option (List ℕ)) (r : Result Y PutFault) (bytes : List ℕ) → IsErrAnd r Q → PutsFront w0 w1 bytes → Writes w0 w1 r bytes
passed_front Q w0 w1 (Ok y) bytes e p = absurd e
passed_front Q w0 w1 (Err f) bytes e p = p

-- a sink that is as it was was given nothing, whatever came of the puts on another
pub untouched : {T : Type 0} (w : Option (List ℕ)) (r : Result T PutFault) → Writes w w r []
untouched w r = writes_nothing w w r (wrote_nothing w w refl)

-- a front part of a text is one of each longer text
pub front_longer : (w0 w1 : Option (List ℕ)) (text more : List ℕ) → PutsFront w0 w1 text → PutsFront w0 w1 (text ++ more)
front_longer w0 w1 text more p = front_more w0 w0 w1 [] text more (wrote_nothing w0 w0 refl) p

-- the counts of both sinks where one of them alone was put to
pub counted_err : {T : Type 0} (r : Result T PutFault) (o e0 e1 : ℕ) → PutFaults r e0 e1 → CountPuts r o o e0 e1
counted_err (Ok u) o e0 e1 p = (refl, sym p)
counted_err (Err put.Failed) o e0 e1 p = inl (refl, p)
counted_err (Err put.Memory) o e0 e1 p = (refl, sym p)

pub counted_out : {T : Type 0} (r : Result T PutFault) (o0 o1 e : ℕ) → PutFaults r o0 o1 → CountPuts r o0 o1 e e
counted_out (Ok u) o0 o1 e p = (sym p, refl)
counted_out (Err put.Failed) o0 o1 e p = inr (p, refl)
counted_out (Err put.Memory) o0 o1 e p = (sym p, refl)

-- a front part of what follows on what was put
pub front_behind : (w0 w1 w2 : Option (List ℕ)) (a b : List ℕ) → Wrote w0 w1 a → PutsFront w1 w2 b → PutsFront w0 w2 (a ++ b)
front_behind w0 w1 w2 a b x y = subst (λ (bs : List ℕ). PutsFront w0 w2 (a ++ bs)) (append-nil b) (front_more w0 w1 w2 a b [] x y)

-- what was put whole stands, whatever came of the puts on another sink
pub stands : {T : Type 0} (w0 w1 : Option (List ℕ)) (r : Result T PutFault) (bytes : List ℕ) → Wrote w0 w1 bytes → Writes w0 w1 r bytes
stands w0 w1 (Ok u) bytes e = e
stands w0 w1 (Err f) bytes e = wrote_front w0 w1 bytes e
