-- What is known of branches, kept after one more.
use Rattle.std.proofs.Common.{◌≡◌, ◌∙◌, ℕ, zero, suc, ◌<◌, ◌≤◌, List, [], ◌∷◌, ◌++◌, map, length, get_or, Option, sym, ap, subst, arith}
use Rattle.std.proofs.lemmas.List.{map-append}
use Rattle.mc_model.specs.Flat.{Flat_goal, flats, variables_of, variables_of_all}
use Rattle.mc_accepted.specs.Arranged.{Point, with_end}
use Rattle.mc_insts.specs.Graphs.{count_of}
use Rattle.mc_procs.specs.Named.{NumbersBelow}
use Rattle.mc_procs.specs.Procedures.{PlainProcs}
use Rattle.mc_mode_state.specs.Merged.{rows_at, RowsFit}
use Rattle.mc_modes.specs.code.Parts.{Ends}
use Rattle.mc_modes.proofs.Counts.{below-first, below-second, below-more}

rows-more : (m a b : ℕ) (rows : List (List ℕ)) → a ≤ b → RowsFit m a rows → RowsFit m b rows
rows-more m a b [] h w = tt
rows-more m a b (row ∷ rows) h w = (w.0, below-more a b row h w.1, rows-more m a b rows h w.2)

rows-both : (m n : ℕ) (rows others : List (List ℕ)) → RowsFit m n rows → RowsFit m n others → RowsFit m n (rows ++ others)
rows-both m n [] others w u = u
rows-both m n (row ∷ rows) others w u = (w.0, w.1, rows-both m n rows others w.2 u)

rows-append : (seen : List ℕ) (ends more : List (Point ℕ)) → rows_at seen (ends ++ more) ≡ rows_at seen ends ++ rows_at seen more
rows-append seen ends more = map-append (λ (c : Point ℕ). map c seen) ends more

module _ (seen : List ℕ) (p r : PlainProcs) (reached : List (Point ℕ)) (o : Option (Point ℕ)) (es fs : List (List ℕ)) (e : es ≡ rows_at seen reached) (more : Ends seen r (with_end o []) es fs) where
  pub ends-rows : fs ≡ rows_at seen (reached ++ with_end o [])
  ends-rows = more.rows ∙ (ap (λ (rows : List (List ℕ)). rows ++ rows_at seen (with_end o [])) e ∙ sym (rows-append seen reached (with_end o [])))

  pub ends-fit : count_of p.insts ≤ count_of r.insts → RowsFit (length seen) (count_of p.insts) (rows_at seen reached) → RowsFit (length seen) (count_of r.insts) (rows_at seen (reached ++ with_end o []))
  ends-fit h w =
      subst (RowsFit (length seen) (count_of r.insts)) (sym (rows-append seen reached (with_end o [])))
      (rows-both (length seen) (count_of r.insts) (rows_at seen reached) (rows_at seen (with_end o [])) (rows-more (length seen) (count_of p.insts) (count_of r.insts) (rows_at seen reached) h w) more.fit)

-- the variables of one goal are among those of all
pub goal-below : (gs : List Flat_goal) (k : ℕ) (d : Flat_goal) (n : ℕ) → k < length gs → NumbersBelow n (variables_of_all (flats gs)) → NumbersBelow n (variables_of (get_or gs k d))
goal-below [] k d n h w = absurd (omega arith)
goal-below (g ∷ gs) zero d n h w = below-first n (variables_of g) (variables_of_all (flats gs)) w
goal-below (g ∷ gs) (suc k) d n h w = goal-below gs k d n (omega arith) (below-second n (variables_of g) (variables_of_all (flats gs)) w)
