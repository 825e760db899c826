-- Changes that are noted can be taken back.
use Rattle.std.proofs.Common.{◌≡◌, ℕ, zero, suc, ◌≤◌, List, [], ◌∷◌, ◌++◌, length, take, drop, set, sym, ◌∙◌, ap, refl, arith, length-set, length-append, append_assoc, append-nil}
use Rattle.std.proofs.lemmas.List.{take_all, take-append-le, take-take, drop-append-le, set_past, drop_at, take_at}
use Rattle.mc_types.specs.Changes.{undone, Grown}
use Rattle.mc_types.specs.Holds.{cell_at}
use Rattle.mc_types.specs.declared.cells.Cell.{Cell}
use Rattle.mc_types.specs.declared.cells.Change.{Change}

undone_push : (cs : List Change) (c : Change) (cells : List Cell) → undone (cs ++ c ∷ []) cells ≡ undone cs (set cells c.at c.was)
undone_push [] c cells = refl
undone_push (x ∷ xs) c cells = ap (λ ys. set ys x.at x.was) (undone_push xs c cells)

set_back : (n : ℕ) (cells : List Cell) (i : ℕ) (x : Cell) → set (take n (set cells i x)) i (cell_at cells i) ≡ take n cells
set_back zero cells i x = refl
set_back (suc n) [] i x = refl
set_back (suc n) (y ∷ ys) zero x = refl
set_back (suc n) (y ∷ ys) (suc i) x = ap (λ zs. y ∷ zs) (set_back n ys i x)

pub grown_none : (cells : List Cell) (changes : List Change) → Grown cells changes cells changes
grown_none cells changes = record {
  since = [];
  noted = sym (append-nil changes);
  back = take_all (length cells) cells (omega arith);
  longer = omega arith;
}

pub grown_put : (c0 : List Cell) (t0 : List Change) (cells : List Cell) (changes : List Change) (i : ℕ) (x : Cell) (ch : Change) → ch.at ≡ i → ch.was ≡ cell_at cells i → Grown c0 t0 cells changes → Grown c0 t0 (set cells i x) (changes ++ ch ∷ [])
grown_put c0 t0 cells changes i x ch e f g = record {
  since = g.since ++ ch ∷ [];
  noted = ap (λ ts. ts ++ ch ∷ []) g.noted ∙ append_assoc t0 g.since (ch ∷ []);
  back =
      undone_push g.since ch (take (length c0) (set cells i x))
      ∙ ap (undone g.since) (ap (λ k. set (take (length c0) (set cells i x)) k ch.was) e ∙ ap (set (take (length c0) (set cells i x)) i) f ∙ set_back (length c0) cells i x)
      ∙ g.back;
  longer = omega (arith, length-set cells i x, g.longer);
}

pub grown_push : (c0 : List Cell) (t0 : List Change) (cells : List Cell) (changes : List Change) (x : Cell) → Grown c0 t0 cells changes → Grown c0 t0 (cells ++ x ∷ []) changes
grown_push c0 t0 cells changes x g = record {
  since = g.since;
  noted = g.noted;
  back = ap (undone g.since) (take-append-le (length c0) cells (x ∷ []) g.longer) ∙ g.back;
  longer = omega (arith, length-append cells (x ∷ []), g.longer);
}

undone-append : (xs bs : List Change) (cells : List Cell) → undone (xs ++ bs) cells ≡ undone xs (undone bs cells)
undone-append [] bs cells = refl
undone-append (x ∷ xs) bs cells = ap (λ ys. set ys x.at x.was) (undone-append xs bs cells)

set-take : (n : ℕ) (cells : List Cell) (i : ℕ) (x : Cell) → set (take n cells) i x ≡ take n (set cells i x)
set-take zero cells i x = refl
set-take (suc n) [] i x = refl
set-take (suc n) (y ∷ ys) zero x = refl
set-take (suc n) (y ∷ ys) (suc i) x = ap (λ zs. y ∷ zs) (set-take n ys i x)

pub undone-take : (cs : List Change) (n : ℕ) (cells : List Cell) → undone cs (take n cells) ≡ take n (undone cs cells)
undone-take [] n cells = refl
undone-take (c ∷ cs) n cells = ap (λ ys. set ys c.at c.was) (undone-take cs n cells) ∙ set-take n (undone cs cells) c.at c.was

pub grown_more : (c0 : List Cell) (t0 : List Change) (c1 : List Cell) (t1 : List Change) (c2 : List Cell) (t2 : List Change) → Grown c0 t0 c1 t1 → Grown c1 t1 c2 t2 → Grown c0 t0 c2 t2
grown_more c0 t0 c1 t1 c2 t2 g h = record {
  since = g.since ++ h.since;
  noted = h.noted ∙ ap (λ ts. ts ++ h.since) g.noted ∙ append_assoc t0 g.since h.since;
  back =
      undone-append g.since h.since (take (length c0) c2)
      ∙ ap (undone g.since) (ap (undone h.since) (sym (take-take (length c0) (length c1) c2 g.longer)) ∙ undone-take h.since (length c0) (take (length c1) c2) ∙ ap (take (length c0)) h.back)
      ∙ g.back;
  longer = omega (arith, g.longer, h.longer);
}

pub undone_last : (cs : List Change) (c : Change) (n : ℕ) (rest : List Change) (cells : List Cell) → n ≤ length rest → cs ≡ rest ++ c ∷ [] → undone (drop n rest) (set cells c.at c.was) ≡ undone (drop n cs) cells
undone_last cs c n rest cells le e = sym (ap (λ ts. undone (drop n ts) cells) e ∙ ap (λ ts. undone ts cells) (drop-append-le n rest (c ∷ []) le) ∙ undone_push (drop n rest) c cells)

pub undone_past : (cs : List Change) (c : Change) (n : ℕ) (rest : List Change) (cells : List Cell) → n ≤ length rest → cs ≡ rest ++ c ∷ [] → length cells ≤ c.at → undone (drop n rest) cells ≡ undone (drop n cs) cells
undone_past cs c n rest cells le e past = ap (undone (drop n rest)) (sym (set_past cells c.at c.was past)) ∙ undone_last cs c n rest cells le e

pub take_front : (cs : List Change) (c : Change) (n : ℕ) (rest : List Change) → n ≤ length rest → cs ≡ rest ++ c ∷ [] → take n rest ≡ take n cs
take_front cs c n rest le e = sym (ap (take n) e ∙ take-append-le n rest (c ∷ []) le)

pub restored : (c0 : List Cell) (t0 : List Change) (cells : List Cell) (changes : List Change) (m n : ℕ) → m ≡ length c0 → n ≡ length t0 → Grown c0 t0 cells changes → (undone (drop n changes) (take m cells) ≡ c0) × (take n changes ≡ t0)
restored c0 t0 cells changes m n me ne g = (
  ap (λ k. undone (drop k changes) (take m cells)) ne
      ∙ ap (λ k. undone (drop (length t0) changes) (take k cells)) me
      ∙ ap (λ xs. undone xs (take (length c0) cells)) (ap (drop (length t0)) g.noted ∙ drop_at t0 g.since (length t0) refl)
      ∙ g.back,
  ap (λ k. take k changes) ne ∙ ap (take (length t0)) g.noted ∙ take_at t0 g.since (length t0) refl,
)
