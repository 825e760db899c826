-- A term that was read, with its number, and its reach: the number up to which its last operand was
-- read (0 where it ends in no operand).
use Rattle.std.specs.Prelude.{ℕ}

pub record Part (T : Type 0) : Type 0 where
  pub tree : T
  pub number : ℕ
  pub reach : ℕ

-- a term that nothing can change any more
abbrev pub closed : {T : Type 0} → T → Part T
closed t = record { tree = t; number = 0; reach = 0 }

abbrev pub over : {T : Type 0} → ℕ → ℕ → T → Part T
over n m t = record { tree = t; number = n; reach = m }
