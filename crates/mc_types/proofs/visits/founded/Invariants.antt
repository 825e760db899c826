use Rattle.std.proofs.Common.{◌≤◌, ◌<◌, ℕ, length, get_or}
use Rattle.mc_types.specs.code.Marks.{Calm, IsDone}
use Rattle.mc_types.specs.declared.cells.Change.{Change}
use Rattle.mc_types.proofs.visits.founded.Given as goal

abbrev pub invariant-loop-k : goal.invariant-loop-k
invariant-loop-k l = record {
  calm : Calm l.round l.g.cells.items l.marks;
  changed : (j : ℕ) (d : Change) → l.changes ≤ j → j < l.k → (get_or l.g.changes.items j d).at < length l.g.cells.items → IsDone l.round l.marks (get_or l.g.changes.items j d).at;
}

abbrev pub invariant-loop-at : goal.invariant-loop-at
invariant-loop-at l = record {
  calm : Calm l.round l.g.cells.items l.marks;
  changed : (j : ℕ) (d : Change) → l.changes ≤ j → j < length l.g.changes.items → (get_or l.g.changes.items j d).at < length l.g.cells.items → IsDone l.round l.marks (get_or l.g.changes.items j d).at;
  new : (i : ℕ) → l.cells ≤ i → i < l.at → IsDone l.round l.marks i;
}
