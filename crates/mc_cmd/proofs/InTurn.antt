-- Files that are read one after another.
use Rattle.std.proofs.Common.{◌≡◌, ℕ, suc, ◌+◌, ◌<◌, ◌≤◌, List, [], ◌∷◌, ◌++◌, map, length, take, drop, get_or, Option, Some, None, Result, Ok, Err, refl, sym, ap, ◌∙◌, subst, arith, append_assoc, length-append}
use Rattle.std.specs.Prelude.{Contains, IfErr}
use Rattle.std.specs.Result.{IsErrAnd}
use Rattle.std.proofs.lemmas.List.{take_all, take_more}
use Rattle.std.specs.FinMap as finmap
use Rattle.std.proofs.Math.Seq.{get_or-append_seam}
use Rattle.std.specs.declared.vec.Vec.{Vec}
use Rattle.std.specs.declared.alloc.Global.{Global}
use Rattle.mc_outside.specs.Meaning.{Held, Reads, ReadsEntry, first_part}
use Rattle.mc_cmd.specs.Outcome.{These, Missing, texts_in, text_or_missing, with_text}
use Rattle.mc_cmd.specs.Call.{CannotRead, HoldTexts, Lacks}
use Rattle.mc_cmd.specs.code.Decisions.{IsHeld, IsNotHeld, StopsAt, Stops}
use Rattle.mc_cmd.specs.declared.decision.Decision.{Decision}
use Rattle.mc_cmd.specs.declared.decision.Decision.TheVariants as D
use Rattle.mc_cmd.proofs.Puts.{taken_dropped}

-- these are the texts of files, each of which was read
abbrev pub AreHeld : Option Held → (files texts : List (List ℕ)) → Type 0
AreHeld store [] [] = Unit {0}
AreHeld store (f ∷ fs) (t ∷ ts) = IsHeld store f t × AreHeld store fs ts
AreHeld store _ _ = ⊥

pub one_more_held : (store : Option Held) (fs ts : List (List ℕ)) (f t : List ℕ) → AreHeld store fs ts → IsHeld store f t → AreHeld store (fs ++ f ∷ []) (ts ++ t ∷ [])
one_more_held store [] [] f t a h = (h, tt)
one_more_held store [] (u ∷ ts) f t a h = absurd a
one_more_held store (e ∷ fs) [] f t a h = absurd a
one_more_held store (e ∷ fs) (u ∷ ts) f t a h = (a.0, one_more_held store fs ts f t a.1 h)

texts_held : (held : Held) (fs ts : List (List ℕ)) → AreHeld (Some held) fs ts → texts_in held fs ≡ These ts
texts_held held [] [] a = refl
texts_held held [] (t ∷ ts) a = absurd a
texts_held held (f ∷ fs) [] a = absurd a
texts_held held (f ∷ fs) (t ∷ ts) a =
    let h = a.0 in
    ap (λ (x : Option (List ℕ)). text_or_missing f x (texts_in held fs)) h.1.0 ∙ ap (with_text (first_part h.0)) (texts_held held fs ts a.1) ∙ ap (λ (u : List ℕ). These (u ∷ ts)) (sym h.1.1)

as_many_held : (store : Option Held) (fs ts : List (List ℕ)) → AreHeld store fs ts → length ts ≡ length fs
as_many_held store [] [] a = refl
as_many_held store [] (t ∷ ts) a = absurd a
as_many_held store (f ∷ fs) [] a = absurd a
as_many_held store (f ∷ fs) (t ∷ ts) a = ap suc (as_many_held store fs ts a.1)

pub hold_texts : (store : Option Held) (fs ts : List (List ℕ)) → AreHeld store fs ts → HoldTexts store fs ts
hold_texts None fs ts a = as_many_held None fs ts a
hold_texts (Some held) fs ts a = texts_held held fs ts a

missing_behind : (held : Held) (fs ts : List (List ℕ)) (f : List ℕ) (gs : List (List ℕ)) → AreHeld (Some held) fs ts → finmap.get held f ≡ None → texts_in held (fs ++ f ∷ gs) ≡ Missing f
missing_behind held [] [] f gs a n = ap (λ (x : Option (List ℕ)). text_or_missing f x (texts_in held gs)) n
missing_behind held [] (t ∷ ts) f gs a n = absurd a
missing_behind held (e ∷ fs) [] f gs a n = absurd a
missing_behind held (e ∷ fs) (t ∷ ts) f gs a n =
    let h = a.0 in
    ap (λ (x : Option (List ℕ)). text_or_missing e x (texts_in held (fs ++ f ∷ gs))) h.1.0 ∙ ap (with_text (first_part h.0)) (missing_behind held fs ts f gs a.1 n)

pub among : (fs : List (List ℕ)) (f : List ℕ) (gs : List (List ℕ)) → Contains (fs ++ f ∷ gs) f
among fs f gs = (length fs, omega (arith, length-append fs (f ∷ gs)), get_or-append_seam fs f gs f)

lacks_behind : (store : Option Held) (fs ts : List (List ℕ)) (f : List ℕ) (gs : List (List ℕ)) → AreHeld store fs ts → IsNotHeld store f → Lacks store (fs ++ f ∷ gs) f
lacks_behind None fs ts f gs a n = among fs f gs
lacks_behind (Some held) fs ts f gs a n = missing_behind held fs ts f gs a n

stops_behind : (store : Option Held) (fs ts : List (List ℕ)) (f : List ℕ) (gs : List (List ℕ)) (d : Decision) → AreHeld store fs ts → StopsAt store f d → Stops store (fs ++ f ∷ gs) d
stops_behind store fs ts f gs D.Usage a s = absurd s
stops_behind store fs ts f gs (D.Absent line) a s = (f, (lacks_behind store fs ts f gs a s.0, s.1))
stops_behind store fs ts f gs (D.Unreadable line) a s = (f, (record { before = fs; after = gs; parts = refl; texts = ts; holds = hold_texts store fs ts a }, s))
stops_behind store fs ts f gs (D.Rejected files broken) a s = absurd s
stops_behind store fs ts f gs D.Checked a s = absurd s
stops_behind store fs ts f gs (D.Ran b q goal) a s = absurd s
stops_behind store fs ts f gs D.Memory a s = tt

-- no file stands before the first
pub first_unread : (store : Option Held) (files : List (List ℕ)) → 1 ≤ length files → (file : List ℕ) × CannotRead store files file
first_unread store [] h = absurd (omega (arith, h))
first_unread store (f ∷ fs) h = (f, record { before = []; after = fs; parts = refl; texts = []; holds = hold_texts store [] [] tt })

-- a list is its front, the element at an index, and the rest
parted : {X : Type 0} (xs : List X) (i : ℕ) (o : X) → i < length xs → xs ≡ take i xs ++ get_or xs i o ∷ drop (i + 1) xs
parted xs i o h =
    sym (taken_dropped (i + 1) xs) ∙ ap (λ ys. ys ++ drop (i + 1) xs) (take_more xs i o h) ∙ append_assoc (take i xs) (get_or xs i o ∷ []) (drop (i + 1) xs)

map_appended : {X Y : Type 0} (f : X → Y) (xs ys : List X) → map f (xs ++ ys) ≡ map f xs ++ map f ys
map_appended f [] ys = refl
map_appended f (x ∷ xs) ys = ap (λ zs. f x ∷ zs) (map_appended f xs ys)

-- a file that stops the reading stops it among all
pub stops_among : {X : Type 0} (name : X → List ℕ) (store : Option Held) (xs : List X) (i : ℕ) (o : X) (ts : List (List ℕ)) (d : Decision) → i < length xs →
    AreHeld store (map name (take i xs)) ts → StopsAt store (name (get_or xs i o)) d → Stops store (map name xs) d
stops_among name store xs i o ts d h a s =
    subst (λ ns. Stops store ns d) (sym (ap (map name) (parted xs i o h) ∙ map_appended name (take i xs) (get_or xs i o ∷ drop (i + 1) xs)))
    (stops_behind store (map name (take i xs)) ts (name (get_or xs i o)) (map name (drop (i + 1) xs)) d a s)

-- one more file is read
pub held_next : {X Y : Type 0} (name : X → List ℕ) (text : Y → List ℕ) (store : Option Held) (xs : List X) (i : ℕ) (o : X) (ys : List Y) (y : Y) → i < length xs →
    AreHeld store (map name (take i xs)) (map text ys) → IsHeld store (name (get_or xs i o)) (text y) → AreHeld store (map name (take (i + 1) xs)) (map text (ys ++ y ∷ []))
held_next name text store xs i o ys y h a s =
    subst (λ ns. AreHeld store ns (map text (ys ++ y ∷ []))) (sym (ap (map name) (take_more xs i o h) ∙ map_appended name (take i xs) (get_or xs i o ∷ [])))
    (subst (λ ts. AreHeld store (map name (take i xs) ++ name (get_or xs i o) ∷ []) ts) (sym (map_appended text ys (y ∷ []))) (one_more_held store (map name (take i xs)) (map text ys) (name (get_or xs i o)) (text y) a s))

pub names_next : {X Y : Type 0} (name : X → List ℕ) (name_too : Y → List ℕ) (xs : List X) (i : ℕ) (o : X) (ys : List Y) (y : Y) → i < length xs →
    map name_too ys ≡ map name (take i xs) → name_too y ≡ name (get_or xs i o) → map name_too (ys ++ y ∷ []) ≡ map name (take (i + 1) xs)
names_next name name_too xs i o ys y h same s =
    map_appended name_too ys (y ∷ []) ∙ cc (same, s) ∙ sym (ap (map name) (take_more xs i o h) ∙ map_appended name (take i xs) (get_or xs i o ∷ []))

-- what was read of a file is what is held of it
pub read_held : (store : Option Held) (file : List ℕ) (v : Vec ℕ Global) (text : List ℕ) → Reads store file (Ok v) → text ≡ v.items → IsHeld store file text
read_held None file v text reads e = tt
read_held (Some held) file v text reads e = by_entry (finmap.get held file) refl reads
  where
    by_entry : (o : Option (List ℕ)) → finmap.get held file ≡ o → ReadsEntry o (Ok v) → IsHeld (Some held) file text
    by_entry None g reads = absurd reads
    by_entry (Some bytes) g reads = (bytes, (g, e ∙ reads))

-- an error is passed on by a `?`
pub passed_on : {Y : Type 0} (Q : Decision → Type 0) (d : Decision) (r : Result Y Decision) → IsErrAnd r (λ e. e ≡ d) → Q d → IfErr r Q
passed_on Q d (Ok y) e q = tt
passed_on Q d (Err f) e q = subst Q (sym e) q

pub hold_all : {X : Type 0} (name : X → List ℕ) (store : Option Held) (xs : List X) (i : ℕ) (ts : List (List ℕ)) → length xs ≤ i → AreHeld store (map name (take i xs)) ts → HoldTexts store (map name xs) ts
hold_all name store xs i ts h a = hold_texts store (map name xs) ts (subst (λ ys. AreHeld store (map name ys) ts) (take_all i xs h) a)
