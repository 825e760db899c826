-- The insts of one variable at ends of branches.
use Rattle.std.proofs.Common.{◌≡◌, ◌∙◌, ◌<◌, ◌≤◌, ◌+◌, ℕ, Vec, Global, zero, suc, Bool, true, false, not, ◌&&◌, ◌||◌, if◌then◌else◌, List, [], ◌∷◌, ◌++◌, length, get_or, take, drop, map, Some, nat_eq, nat_lt, refl, sym, ap, ap₂, subst, arith}
use Rattle.std.specs.List.{list_any}
use Rattle.std.proofs.lemmas.Bool.{eqb-true, eq-eqb}
use Rattle.std.proofs.lemmas.List.{get_or-map, take_more}
use Rattle.mc_program.specs.Programs.{TypeTerm}
use Rattle.mc_model.specs.Lists.{is_in}
use Rattle.mc_model.specs.Stream.{is_bound}
use Rattle.mc_accepted.specs.Arranged.{Point, with_inst, placed, ascending}
use Rattle.mc_accepted.specs.NodeOracle.{NodeOracle}
use Rattle.mc_insts.specs.Graphs.{count_of}
use Rattle.mc_procs.specs.Named.{NumbersBelow}
use Rattle.mc_procs.specs.Procedures.{PlainProcs}
use Rattle.mc_mode_state.specs.States.{point_of}
use Rattle.mc_mode_state.specs.Agreeing.{OracleAgrees, StateInvariant, StateExtends, LaterByTrail}
use Rattle.mc_mode_state.specs.Merged.{rows_at, RowsFit}
use Rattle.mc_mode_state.specs.code.Columns.{column, LongerThan, ends_differ, JoinedSoFar}
use Rattle.mc_mode_state.specs.declared.state.State.{State}
use Rattle.mc_mode_state.proofs.Ahead.{agrees-before}
use Rattle.mc_mode_state.proofs.Numbers.{cons_at, number-at}
use Rattle.mc_mode_state.proofs.Steps.{stepped-set}

pub column-is : (xs : List ℕ) (k : ℕ) (ends : List (Point ℕ)) → k < length xs → column k (rows_at xs ends) ≡ map (λ (c : Point ℕ). c (get_or xs k 0)) ends
column-is xs k [] h = refl
column-is xs k (c ∷ ends) h = ap₂ (λ (i : ℕ) (is : List ℕ). i ∷ is) (get_or-map c xs k 0 0 h) (column-is xs k ends h)

pub longer : (m n k : ℕ) (rows : List (List ℕ)) → RowsFit m n rows → k < m → LongerThan k rows
longer m n k [] w h = tt
longer m n k (row ∷ rows) w h = (let e = w.0 in omega arith, longer m n k rows w.2 h)

pub long-at : (k : ℕ) (rows : List (List ℕ)) (i : ℕ) → LongerThan k (drop i rows) → i < length rows → k < length (get_or rows i [])
long-at k [] i w h = absurd (omega arith)
long-at k (row ∷ rows) zero w h = w.0
long-at k (row ∷ rows) (suc i) w h = long-at k rows i w (omega arith)

pub long-rest : (k : ℕ) (rows : List (List ℕ)) (i : ℕ) → LongerThan k (drop i rows) → i < length rows → LongerThan k (drop (i + 1) rows)
long-rest k rows i w h = (subst (LongerThan k) (cons_at rows i [] h) w).1

pub column-below : (m n k : ℕ) (rows : List (List ℕ)) → RowsFit m n rows → k < m → (j : ℕ) → j < length (column k rows) → get_or (column k rows) j 0 < n
column-below m n k [] w h j l = absurd (omega arith)
column-below m n k (row ∷ rows) w h zero l = number-at n row k w.1 (let e = w.0 in omega arith)
column-below m n k (row ∷ rows) w h (suc j) l = column-below m n k rows w.2 h j (omega arith)

pub column-long : (k : ℕ) (rows : List (List ℕ)) → length (column k rows) ≡ length rows
column-long k [] = refl
column-long k (row ∷ rows) = ap suc (column-long k rows)

any-map : (f : ℕ → Bool) (g : Point ℕ → ℕ) (ends : List (Point ℕ)) → list_any f (map g ends) ≡ list_any (λ (c : Point ℕ). f (g c)) ends
any-map f g [] = refl
any-map f g (c ∷ ends) = ap (λ (t : Bool). f (g c) || t) (any-map f g ends)

-- whether a variable is bound differently
pub column-differs : (xs : List ℕ) (k : ℕ) (rows : List (List ℕ)) (ends : List (Point ℕ)) → rows ≡ rows_at xs ends → k < length xs
    → ends_differ ends (get_or xs k 0) ≡ (list_any (λ (i : ℕ). not (is_bound i)) (column k rows) && list_any (λ (i : ℕ). is_bound i) (column k rows))
column-differs xs k rows ends e h =
    let g : Point ℕ → ℕ = λ c. c (get_or xs k 0) in
    sym (ap (λ (is : List ℕ). list_any (λ (i : ℕ). not (is_bound i)) is && list_any (λ (i : ℕ). is_bound i) is) (ap (column k) e ∙ column-is xs k ends h)
    ∙ ap₂ (λ (t u : Bool). t && u) (any-map (λ (i : ℕ). not (is_bound i)) g ends) (any-map (λ (i : ℕ). is_bound i) g ends))

is-in-more : (x y : ℕ) (xs : List ℕ) → is_in x (xs ++ y ∷ []) ≡ (if nat_eq x y then true else is_in x xs)
is-in-more x y [] = refl
is-in-more x y (z ∷ xs) = at (nat_eq x z) (nat_eq x y) (is-in-more x y xs)
  where
    at : (t u : Bool) → is_in x (xs ++ y ∷ []) ≡ (if u then true else is_in x xs)
        → (if t then true else is_in x (xs ++ y ∷ [])) ≡ (if u then true else if t then true else is_in x xs)
    at true true e = refl
    at true false e = refl
    at false true e = e
    at false false e = e

-- one variable more has what its insts allow
pub joined-more : (seen : List ℕ) (rows : List (List ℕ)) (r p : PlainProcs) (s t u : State) (k : ℕ) → k < length seen
    → JoinedSoFar seen (take k seen) rows r s t → StateInvariant r t → StateExtends r p t u
    → ((C : NodeOracle) (T : ℕ → TypeTerm) → OracleAgrees p u C T → C.joined (T (get_or seen k 0)) (column k rows) ≡ Some (point_of u.insts.items (get_or seen k 0)))
    → ((y : ℕ) → nat_eq y (get_or seen k 0) ≡ false → point_of u.insts.items y ≡ point_of t.insts.items y)
    → JoinedSoFar seen (take (k + 1) seen) rows p s u
joined-more seen rows r p s t u k h j st m found others = record {
  found = λ ends e C T a x i.
      at ends e C T a x (nat_eq x (get_or seen k 0)) refl (sym (now x) ∙ i);
  others = λ x i. same x (nat_eq x (get_or seen k 0)) refl (sym (now x) ∙ i);
}
  where
    now : (x : ℕ) → is_in x (take (k + 1) seen) ≡ (if nat_eq x (get_or seen k 0) then true else is_in x (take k seen))
    now x = ap (is_in x) (take_more seen k 0 h) ∙ is-in-more x (get_or seen k 0) (take k seen)

    at : (ends : List (Point ℕ)) → rows ≡ rows_at seen ends → (C : NodeOracle) (T : ℕ → TypeTerm) → OracleAgrees p u C T → (x : ℕ) (b : Bool) → nat_eq x (get_or seen k 0) ≡ b
        → (if nat_eq x (get_or seen k 0) then true else is_in x (take k seen)) ≡ true
        → C.joined (T x) (map (λ (c : Point ℕ). c x) ends) ≡ Some (point_of u.insts.items x)
    at ends e C T a x true g i =
        subst (λ (z : ℕ). C.joined (T z) (map (λ (c : Point ℕ). c z) ends) ≡ Some (point_of u.insts.items z)) (sym (eqb-true x (get_or seen k 0) g))
        (ap (C.joined (T (get_or seen k 0))) (sym (ap (column k) e ∙ column-is seen k ends h)) ∙ found C T a)
    at ends e C T a x false g i =
        j.found ends e C T (agrees-before r p t u C T st m a) x (ap (λ (b : Bool). if b then true else is_in x (take k seen)) (sym g) ∙ i)
        ∙ ap Some (sym (others x g))

    same : (x : ℕ) (b : Bool) → nat_eq x (get_or seen k 0) ≡ b → (if nat_eq x (get_or seen k 0) then true else is_in x (take k seen)) ≡ false
        → point_of u.insts.items x ≡ point_of s.insts.items x
    same x true g i = absurd (cc (ap (λ (b : Bool). if b then true else is_in x (take k seen)) (sym g) ∙ i))
    same x false g i = others x g ∙ j.others x (ap (λ (b : Bool). if b then true else is_in x (take k seen)) (sym g) ∙ i)

pub joined-none : (seen : List ℕ) (rows : List (List ℕ)) (r : PlainProcs) (s : State) → JoinedSoFar seen [] rows r s s
joined-none seen rows r s = record { found = λ ends e C T a x i. absurd (cc i); others = λ x i. refl }

pub with-at : (b : Point ℕ) (x i : ℕ) → with_inst ℕ x i b x ≡ i
with-at b x i = ap (λ (t : Bool). if t then i else b x) (eq-eqb x x refl)

pub with-others : (b : Point ℕ) (x i y : ℕ) → nat_eq y x ≡ false → with_inst ℕ x i b y ≡ b y
with-others b x i y h = ap (λ (t : Bool). if t then i else b y) h

pub all-taken : (xs : List ℕ) (k : ℕ) → length xs ≤ k → take k xs ≡ xs
all-taken [] zero h = refl
all-taken [] (suc k) h = refl
all-taken (x ∷ xs) zero h = absurd (omega arith)
all-taken (x ∷ xs) (suc k) h = ap (λ (ys : List ℕ). x ∷ ys) (all-taken xs k (omega arith))

-- a variable got the node that was found for its insts
pub step-after : (q r : PlainProcs) (s t u : State) (x i : ℕ) → LaterByTrail q r s t → t.insts ≡ s.insts → x < length s.insts.items → i < count_of r.insts
    → point_of u.insts.items ≡ with_inst ℕ x i (point_of t.insts.items) → u.trail.items ≡ t.trail.items ++ (x, point_of t.insts.items x) ∷ []
    → length u.insts.items ≡ length t.insts.items → u.outside ≡ t.outside → u.types ≡ t.types → u.nodes ≡ t.nodes → LaterByTrail r r t u
step-after q r s t u x i step same h k point trail count outside types nodes =
    stepped-set r t u x i step.moved.stands (subst (λ (n : ℕ). x < n) (sym (ap (λ (v : Vec ℕ Global). length v.items) same)) h) k point trail count outside types nodes

pub placed-below : (n x : ℕ) (ys : List ℕ) → x < n → NumbersBelow n ys → NumbersBelow n (placed x ys)
placed-below n x [] h w = (h, tt)
placed-below n x (y ∷ ys) h w = at (nat_lt x y) (nat_eq x y) (placed-below n x ys h w.1)
  where
    at : (t u : Bool) → NumbersBelow n (placed x ys) → NumbersBelow n (if t then x ∷ y ∷ ys else if u then y ∷ ys else y ∷ placed x ys)
    at true u r = (h, w)
    at false true r = w
    at false false r = (w.0, r)

pub ascending-below : (n : ℕ) (f : ℕ → Bool) (xs : List ℕ) → NumbersBelow n xs → NumbersBelow n (ascending f xs)
ascending-below n f [] w = tt
ascending-below n f (x ∷ xs) w = at (f x) (ascending-below n f xs w.1)
  where
    at : (t : Bool) → NumbersBelow n (ascending f xs) → NumbersBelow n (if t then placed x (ascending f xs) else ascending f xs)
    at true r = placed-below n x (ascending f xs) w.0 r
    at false r = r
