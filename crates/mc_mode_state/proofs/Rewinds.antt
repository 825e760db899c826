-- What the trail leads back to.
use Rattle.std.proofs.Common.{◌≡◌, ℕ, zero, suc, ◌<◌, ◌≤◌, Bool, true, false, List, [], ◌∷◌, ◌++◌, length, get_or, take, drop, nat_eq, if◌then◌else◌, ⊎_elim, refl, ap, sym, ◌∙◌, arith}
use Rattle.std.proofs.lemmas.Bool.{eqb-true, cases_lt}
use Rattle.std.proofs.Math.Seq.{take-append_seam, drop-append_seam, take-length, drop-length}
use Rattle.std.proofs.lemmas.List.{take-append-le, drop-append-le, take-append-drop, length-take, get_or-take}
use Rattle.mc_accepted.specs.Arranged.{Point, with_inst}
use Rattle.mc_mode_state.specs.States.{point_of, undo, TrailWithin, TrailRestores}
use Rattle.mc_mode_state.specs.declared.state.State.{State}

pub undo-append : (es fs : List (ℕ × ℕ)) (b : Point ℕ) → undo (es ++ fs) b ≡ undo es (undo fs b)
undo-append [] fs b = refl
undo-append (e ∷ es) fs b = ap (with_inst ℕ e.0 e.1) (undo-append es fs b)

-- a write of what stood there, over a write
pub set-back : (b : Point ℕ) (x i : ℕ) → with_inst ℕ x (b x) (with_inst ℕ x i b) ≡ b
set-back b x i = λ k y. at y (nat_eq y x) refl k
  where
    at : (y : ℕ) (t : Bool) → nat_eq y x ≡ t → (if t then b x else (if t then i else b y)) ≡ b y
    at y true h = ap b (sym (eqb-true y x h))
    at y false h = refl

-- the trail after a change
pub leads-set : (s t : State) (x i : ℕ) → point_of t.insts.items ≡ with_inst ℕ x i (point_of s.insts.items) → t.trail.items ≡ s.trail.items ++ (x, point_of s.insts.items x) ∷ [] → TrailRestores s t
leads-set s t x i e f = record {
  kept = ap (take (length s.trail.items)) f ∙ take-append_seam s.trail.items ((x, point_of s.insts.items x) ∷ []);
  back = ap (λ es. undo (drop (length s.trail.items) es) (point_of t.insts.items)) f
      ∙ (ap (λ es. undo es (point_of t.insts.items)) (drop-append_seam s.trail.items ((x, point_of s.insts.items x) ∷ []))
      ∙ (ap (with_inst ℕ x (point_of s.insts.items x)) e ∙ set-back (point_of s.insts.items) x i));
}

-- after the last change is taken back
pub leads-popped : (s t u : State) (x was : ℕ) → point_of u.insts.items ≡ with_inst ℕ x was (point_of t.insts.items) → t.trail.items ≡ u.trail.items ++ (x, was) ∷ [] → length s.trail.items ≤ length u.trail.items → TrailRestores s t → TrailRestores s u
leads-popped s t u x was e f h p = record {
  kept = sym (take-append-le (length s.trail.items) u.trail.items ((x, was) ∷ []) h) ∙ (ap (take (length s.trail.items)) (sym f) ∙ p.kept);
  back = ap (undo (drop (length s.trail.items) u.trail.items)) e
      ∙ (sym (undo-append (drop (length s.trail.items) u.trail.items) ((x, was) ∷ []) (point_of t.insts.items))
      ∙ (ap (λ es. undo es (point_of t.insts.items)) (sym (drop-append-le (length s.trail.items) u.trail.items ((x, was) ∷ []) h))
      ∙ (ap (λ es. undo (drop (length s.trail.items) es) (point_of t.insts.items)) (sym f) ∙ p.back)));
}

take-take : {A : Type 0} (n m : ℕ) (xs : List A) → n ≤ m → take n (take m xs) ≡ take n xs
take-take zero m xs h = refl
take-take (suc n) zero xs h = absurd (omega arith)
take-take (suc n) (suc m) [] h = refl
take-take (suc n) (suc m) (x ∷ xs) h = ap (λ ys. x ∷ ys) (take-take n m xs (omega arith))

drop-split : {A : Type 0} (n m : ℕ) (xs : List A) → n ≤ m → m ≤ length xs → drop n xs ≡ drop n (take m xs) ++ drop m xs
drop-split zero m xs h k = sym (take-append-drop m xs)
drop-split (suc n) zero xs h k = absurd (omega arith)
drop-split (suc n) (suc m) [] h k = absurd (omega arith)
drop-split (suc n) (suc m) (x ∷ xs) h k = drop-split n m xs (omega arith) (omega arith)

pub longer : (s t : State) → TrailRestores s t → length s.trail.items ≤ length t.trail.items
longer s t p = omega (arith, length-take (length s.trail.items) t.trail.items, ap length p.kept)

pub leads-trans : (s t u : State) → TrailRestores s t → TrailRestores t u → TrailRestores s u
leads-trans s t u p q = record {
  kept = sym (take-take (length s.trail.items) (length t.trail.items) u.trail.items (longer s t p)) ∙ (ap (take (length s.trail.items)) q.kept ∙ p.kept);
  back = ap (λ es. undo es (point_of u.insts.items)) (drop-split (length s.trail.items) (length t.trail.items) u.trail.items (longer s t p) (longer t u q))
      ∙ (ap (λ es. undo (drop (length s.trail.items) es ++ drop (length t.trail.items) u.trail.items) (point_of u.insts.items)) q.kept
      ∙ (undo-append (drop (length s.trail.items) t.trail.items) (drop (length t.trail.items) u.trail.items) (point_of u.insts.items)
      ∙ (ap (undo (drop (length s.trail.items) t.trail.items)) q.back ∙ p.back)));
}

pub leads-refl : (s : State) → TrailRestores s s
leads-refl s = record {
  kept = take-length s.trail.items;
  back = ap (λ es. undo es (point_of s.insts.items)) (drop-length s.trail.items);
}

-- insts and trail are the same
pub leads-same : (s t : State) → point_of t.insts.items ≡ point_of s.insts.items → t.trail.items ≡ s.trail.items → TrailRestores s t
leads-same s t i l = record {
  kept = ap (take (length s.trail.items)) l ∙ take-length s.trail.items;
  back = ap (λ es. undo (drop (length s.trail.items) es) (point_of t.insts.items)) l
      ∙ (ap (λ es. undo es (point_of t.insts.items)) (drop-length s.trail.items) ∙ i);
}

-- where nothing is left in the trail
pub back-at : (s t : State) → TrailRestores s t → length t.trail.items ≤ length s.trail.items → (point_of t.insts.items ≡ point_of s.insts.items) × (t.trail.items ≡ s.trail.items)
back-at s t p h = (
  ap (λ es. undo es (point_of t.insts.items)) (sym (drop-length t.trail.items)) ∙ (ap (λ n. undo (drop n t.trail.items) (point_of t.insts.items)) same_length ∙ p.back),
  sym (take-length t.trail.items) ∙ (ap (λ n. take n t.trail.items) same_length ∙ p.kept),
)
  where
    same_length : length t.trail.items ≡ length s.trail.items
    same_length = let k : length s.trail.items ≤ length t.trail.items = longer s t p in omega arith

pub within-popped : (n : ℕ) (es : List (ℕ × ℕ)) (e : ℕ × ℕ) → TrailWithin n (es ++ e ∷ []) → TrailWithin n es × (e.0 < n)
within-popped n [] e w = (tt, w.0)
within-popped n (d ∷ es) e w = let r = within-popped n es e w.1 in ((w.0, r.0), r.1)

pub within-pushed : (n : ℕ) (es : List (ℕ × ℕ)) (e : ℕ × ℕ) → TrailWithin n es → e.0 < n → TrailWithin n (es ++ e ∷ [])
within-pushed n [] e w h = (h, tt)
within-pushed n (d ∷ es) e w h = (w.0, within-pushed n es e w.1 h)

past-end : (is : List ℕ) (x : ℕ) → length is ≤ x → get_or is x 0 ≡ 0
past-end [] x h = refl
past-end (i ∷ is) zero h = absurd (omega arith)
past-end (i ∷ is) (suc x) h = past-end is x (omega arith)

-- what is cut off was nothing
pub cut : (is js : List ℕ) (n x : ℕ) → n ≡ length js → get_or is x 0 ≡ get_or js x 0 → get_or (take n is) x 0 ≡ get_or js x 0
cut is js n x e h =
    ⊎_elim (λ l. get_or-take n is x 0 l ∙ h)
    (λ (k : n ≤ x). past-end (take n is) x (omega (arith, length-take n is)) ∙ sym (past-end js x (omega (arith, e))))
    (cases_lt x n)
