-- What a heap that grows or is released stands for, by the list of its values.
use Rattle.std.proofs.Common.{◌≡◌, ℕ, pos, ◌<◌, ◌≤◌, List, [], ◌∷◌, ◌++◌, length, take, ap, sym, ◌∙◌, subst, arith, length-append}
use Rattle.std.specs.List.{All}
use Rattle.std.proofs.Math.Seq.{get_or-append_seam}
use Rattle.std.proofs.lemmas.List.{get_or-take, get_or_append_left, length-take}
use Rattle.mc_program.specs.Values.{plain_value}
use Rattle.mc_program.specs.declared.value.Value.{Value, Int}
use Rattle.mc_values.specs.declared.cell.Cell.{Cell}
use Rattle.mc_values.specs.code.Cells.{named_of, value_of, plain_of, owned_at, held_in, AreCells}
use Rattle.mc_values.specs.Heap.{height, IsLive, IsBelow, value_at, StandsFor, Extends, KeepsBelow}
use Rattle.mc_values.proofs.CellLaws.{held_more, held_first, length-held_in, plain-value_of, AreCells-push, AreCells-take}

-- a cell is put at the end
pub grown : (cells more : List Cell) (c : Cell) (held : List Value) → held_in cells ≡ held → more ≡ cells ++ (c ∷ []) → held_in more ≡ held ++ (value_of (owned_at held) c ∷ [])
grown cells more c held view e = ap held_in e ∙ held_more cells c ∙ ap (λ h. h ++ (value_of (owned_at h) c ∷ [])) view

pub AreCells-grown : (cells more : List Cell) (c : Cell) (held : List Value) → AreCells cells → held_in cells ≡ held → All (IsLive held) (named_of c) → more ≡ cells ++ (c ∷ []) → AreCells more
unfolding IsLive
AreCells-grown cells more c held are view live e =
    let count : length held ≡ length cells = sym (ap length view) ∙ length-held_in cells in
    subst AreCells (sym e) (AreCells-push cells c are (subst (λ n. All (λ r. r < n) (named_of c)) count live))

extends_end : (held : List Value) (v : Value) → Extends held (held ++ (v ∷ []))
unfolding height IsLive value_at
extends_end held v = record {
  higher = omega (arith, length-append held (v ∷ []));
  live = λ r lt. omega (arith, length-append held (v ∷ []));
  same = λ r lt. ap plain_value (get_or_append_left held (v ∷ []) (Int (pos 0)) r lt);
}

stands_end : (held : List Value) (c : Cell) → StandsFor (held ++ (value_of (owned_at held) c ∷ [])) (length held) (plain_of (value_at held) c)
unfolding IsLive value_at
stands_end held c = record {
  live = omega (arith, length-append held (value_of (owned_at held) c ∷ []));
  is = ap plain_value (get_or-append_seam held (value_of (owned_at held) c) [] (Int (pos 0))) ∙ plain-value_of (owned_at held) c;
}

pub extends : (held more : List Value) (v : Value) → more ≡ held ++ (v ∷ []) → Extends held more
extends held more v e = subst (λ h. Extends held h) (sym e) (extends_end held v)

pub stands : (held more : List Value) (c : Cell) (r : ℕ) → more ≡ held ++ (value_of (owned_at held) c ∷ []) → r ≡ length held → StandsFor more r (plain_of (value_at held) c)
stands held more c r e at =
    subst (λ h. StandsFor h r (plain_of (value_at held) c)) (sym e)
    (subst (λ n. StandsFor (held ++ (value_of (owned_at held) c ∷ [])) n (plain_of (value_at held) c)) (sym at) (stands_end held c))

-- the first cells are kept
keeps_first : (held : List Value) (m : ℕ) → m ≤ length held → KeepsBelow m held (take m held)
unfolding IsLive IsBelow value_at
keeps_first held m le = record {
  live = λ r lt below. omega (arith, length-take m held);
  same = λ r lt below. ap plain_value (get_or-take m held r (Int (pos 0)) below);
}

pub shrunk : (cells less : List Cell) (m : ℕ) (held : List Value) → held_in cells ≡ held → m ≤ length held → less ≡ take m cells → held_in less ≡ take m held
shrunk cells less m held view le e =
    ap held_in e ∙ held_first cells m (omega (arith, ap length view, length-held_in cells)) ∙ ap (take m) view

pub keeps : (held less : List Value) (m : ℕ) → m ≤ length held → less ≡ take m held → KeepsBelow m held less
keeps held less m le e = subst (λ h. KeepsBelow m held h) (sym e) (keeps_first held m le)

pub AreCells-shrunk : (cells less : List Cell) (m : ℕ) → AreCells cells → less ≡ take m cells → AreCells less
AreCells-shrunk cells less m are e = subst AreCells (sym e) (AreCells-take cells m are)
