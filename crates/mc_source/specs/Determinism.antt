-- Determinisms: whether a goal can fail and at most how many answers it has, from those of its
-- parts, row by row. (Mercury Language Reference Manual: Determinism.)
use Rattle.std.specs.Prelude.{ℕ, ◌≤◌, Bool, true, false, not, ◌&&◌, ◌||◌, IsTrue, if◌then◌else◌}
use Rattle.mc_source.specs.declared.det.Det.{Det}
use Rattle.mc_source.specs.declared.det.Most.{Most}
use Rattle.mc_source.specs.declared.det.Most.TheVariants.{Zero, One, Many}

-- whether it can fail, and at most how many answers there are
pub record Determinism : Type 0 where
  pub can_fail : Bool
  pub most : Most

abbrev pub erroneous : Determinism
erroneous = record { can_fail = false; most = Zero }

abbrev pub failure : Determinism
failure = record { can_fail = true; most = Zero }

abbrev pub det : Determinism
det = record { can_fail = false; most = One }

abbrev pub semidet : Determinism
semidet = record { can_fail = true; most = One }

abbrev pub multi : Determinism
multi = record { can_fail = false; most = Many }

abbrev pub nondet : Determinism
nondet = record { can_fail = true; most = Many }

-- the row of a determinism in the tables: one that is committed has many answers
abbrev pub row_of : Det → Determinism
row_of d = record { can_fail = d.can_fail; most = (if d.committed then Many else d.most) }

-- a determinism that is not committed, as inferred ones are
abbrev pub inferred : Determinism → Det
inferred d = record { can_fail = d.can_fail; most = d.most; committed = false }

abbrev pub is_zero : Most → Bool
is_zero Zero = true
is_zero One = false
is_zero Many = false

abbrev pub is_many : Most → Bool
is_many Zero = false
is_many One = false
is_many Many = true

abbrev pub greater : Most → Most → Most
greater Zero n = n
greater One n = if is_many n then Many else One
greater Many n = Many

-- `A, B`: it can fail where A can, or where A has an answer and B can; no answer where one has
-- none, else the greater
abbrev pub conj : Determinism → Determinism → Determinism
conj a b =
    record {
      can_fail = a.can_fail || not (is_zero a.most) && b.can_fail;
      most = if is_zero a.most || is_zero b.most then Zero else greater a.most b.most;
    }

-- `A ; B`: it can fail where both can; no answer where both have none; many where one has many or
-- both have some; else one
abbrev pub disj : Determinism → Determinism → Determinism
disj a b =
    record {
      can_fail = a.can_fail && b.can_fail;
      most =
          if is_zero a.most && is_zero b.most then Zero
          else if is_many a.most || is_many b.most || not (is_zero a.most) && not (is_zero b.most)
          then Many
          else One;
    }

-- `if C then T else E`: as `C, T` where C cannot fail. Otherwise it can fail where T or E can; no
-- answer where E has none and C or T has none; many where one of the three has many; else one
abbrev pub ite : Determinism → Determinism → Determinism → Determinism
ite c t e =
    if c.can_fail then record {
      can_fail = t.can_fail || e.can_fail;
      most =
          if is_zero e.most && (is_zero c.most || is_zero t.most) then Zero
          else if is_many c.most || is_many t.most || is_many e.most then Many
          else One;
    } else conj c t

-- `not A`: erroneous where A is; it succeeds where A fails always, and fails where A succeeds
-- always; else either
abbrev pub negated_row : Bool → Most → Determinism
negated_row false Zero = erroneous
negated_row true Zero = det
negated_row false One = failure
negated_row false Many = failure
negated_row true One = semidet
negated_row true Many = semidet

abbrev pub negated : Determinism → Determinism
negated a = negated_row a.can_fail a.most

-- a goal that is pruned to its first answer: at most one
abbrev pub at_most_one : Most → Most
at_most_one Zero = Zero
at_most_one One = One
at_most_one Many = One

abbrev pub pruned : Determinism → Determinism
pruned a = record { can_fail = a.can_fail; most = at_most_one a.most }

-- how many answers: none, one, more
abbrev pub rank : Most → ℕ
rank Zero = 0
rank One = 1
rank Many = 2

-- A declared determinism D allows an inferred one I: D can fail where I can, and I has at most as
-- many answers as D.
abbrev pub Allows : (declared inferred : Determinism) → Type 0
Allows d i = (IsTrue i.can_fail → IsTrue d.can_fail) × (rank i.most ≤ rank d.most)
