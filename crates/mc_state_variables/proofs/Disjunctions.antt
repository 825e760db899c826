-- The disjuncts that are gathered from pieces are the branches of a disjunction.
use Rattle.std.proofs.Common.{◌≡◌, ℕ, Bool, true, false, not, ◌&&◌, ◌||◌, List, [], ◌∷◌, ◌++◌, Option, Some, None, ap, ap₂, refl, sym, ◌∙◌, append_assoc, if◌then◌else◌}
use Rattle.std.proofs.lemmas.List.{append-nil}
use Rattle.mc_base.specs.NameSets.{put_all}
use Rattle.mc_term_data.specs.Plain.{PlainTerm, PlainTerms, at, no_term, more_terms, Disj}
use Rattle.mc_state_variables.specs.Updates.{joined, updated, updated_each}
use Rattle.mc_state_variables.specs.Versions.{Held, closing, closings, and_then}
use Rattle.mc_clause_syntax.specs.States.{in_scope}
use Rattle.mc_state_variables.specs.Numbered.{Written, Goal, Branch, written, on_text, with_rest, goal_of, goals_of, all_update, branch_of, each_branch, either, disjunction, with_others, branches_of, disjunction_of}
use Rattle.mc_state_variables.specs.code.Steps.{seen_in, wholes_of}
use Rattle.mc_state_variables.specs.code.Pieces.{Piece, piece, gathered, opens, is_last, pieces_of, alone}
use Rattle.mc_state_variables.proofs.Sets.{HaveSame, set_same, closings-same}
use Rattle.mc_state_variables.proofs.Orders.{seen_same}
use Rattle.mc_state_variables.proofs.Forms.{IsSame, branch_updates, branch-same, branch_of-same}

-- the branches of which one is a disjunction of its own where it begins one
abbrev pub as_one : (l : ℕ) → Bool → List Branch → List Branch
as_one l true bs = disjunction l bs ∷ []
as_one l false bs = bs

disjunction_updates : (l : ℕ) (bs : List Branch) → (disjunction l bs).updates ≡ all_update bs
disjunction_updates l [] = refl
disjunction_updates l (b ∷ []) = sym (append-nil b.updates)
disjunction_updates l (b ∷ c ∷ bs) = refl

-- what the branches of a disjunction update is what its disjuncts update
branches_update : (l : ℕ) (ts : PlainTerms) → all_update (branches_of l (goals_of ts)) ≡ joined (updated_each ts)
branches_update l no_term = refl
branches_update l (more_terms t no_term) = ap (λ us. us ++ []) (branch_updates t)
branches_update l (more_terms t (more_terms u ts)) = by (goal_of t).is_conditional (branches_update l (more_terms u ts))
  where
    bs : List Branch
    bs = branches_of l (goals_of (more_terms u ts))

    by : (b : Bool) → all_update bs ≡ joined (updated_each (more_terms u ts)) → all_update (with_others l b (goal_of t).branch bs) ≡ updated t ++ joined (updated_each (more_terms u ts))
    by false e = ap₂ (λ us vs. us ++ vs) (branch_updates t) e
    by true e =
        append-nil ((goal_of t).branch.updates ++ ((disjunction l bs).updates ++ []))
        ∙ ap₂ (λ us vs. us ++ vs) (branch_updates t) (append-nil (disjunction l bs).updates ∙ disjunction_updates l bs ∙ e)

and_false : (b : Bool) → (b && false) ≡ false
and_false true = refl
and_false false = refl

abbrev EachIsSame : List Branch → Type 0
EachIsSame [] = Unit {0}
EachIsSame (b ∷ bs) = IsSame b × EachIsSame bs

disjunction-same : (l : ℕ) (bs : List Branch) → EachIsSame bs → IsSame (disjunction l bs)
disjunction-same l [] h = branch_of-same l (either l [])
disjunction-same l (b ∷ []) h = h.0
disjunction-same l (b ∷ c ∷ bs) h = branch_of-same l (either l (b ∷ c ∷ bs))

branches-same : (l : ℕ) (ts : PlainTerms) → EachIsSame (branches_of l (goals_of ts))
branches-same l no_term = tt
branches-same l (more_terms t no_term) = (branch-same t, tt)
branches-same l (more_terms t (more_terms u ts)) = by (goal_of t).is_conditional (branches-same l (more_terms u ts))
  where
    bs : List Branch
    bs = branches_of l (goals_of (more_terms u ts))

    by : (b : Bool) → EachIsSame bs → EachIsSame (with_others l b (goal_of t).branch bs)
    by false h = (branch-same t, h)
    by true h = (branch_of-same l (either l ((goal_of t).branch ∷ disjunction l bs ∷ [])), tt)

each-same : (bs : List Branch) → EachIsSame bs → (xs ys : List (List ℕ)) → HaveSame xs ys → (hs : List Held) (n : ℕ) → each_branch bs xs hs n ≡ each_branch bs ys hs n
each-same [] h xs ys k hs n = refl
each-same (b ∷ bs) h xs ys k hs n =
    ap (λ w. with_rest w (each_branch bs xs hs)) (h.0 xs ys k hs n)
    ∙ ap (λ v. record { text = more_terms (b.writing ys hs n).text v.text; next = v.next }) (each-same bs h.1 xs ys k hs (b.writing ys hs n).next)

-- a disjunction that begins with a branch, where what it updates is wanted in it as another list
opened : (l : ℕ) (b : Branch) (bs : List Branch) → EachIsSame (b ∷ bs) → (xs w : List (List ℕ)) → HaveSame w (all_update (b ∷ bs)) → (hs : List Held) (n : ℕ) (v : Written PlainTerms)
    → v ≡ each_branch bs w hs (b.writing w hs n).next
    → record { text = more_terms (and_then (at (Disj (more_terms (b.writing w hs n).text v.text)) l) (closings xs w l hs)) no_term; next = v.next }
    ≡ each_branch (branch_of l (either l (b ∷ bs)) ∷ []) xs hs n
opened l b bs h xs w k hs n v e =
    let us : List (List ℕ) = all_update (b ∷ bs) in
    ap (λ v'. record { text = more_terms (and_then (at (Disj (more_terms (b.writing w hs n).text v'.text)) l) (closings xs w l hs)) no_term; next = v'.next }) e
    ∙ ap₂ (λ all cs. record { text = more_terms (and_then (at (Disj all.text) l) cs) no_term; next = all.next })
    (each-same (b ∷ bs) h w us k hs n)
    (closings-same xs xs w us (λ x. refl) k l hs)

-- a branch before others is one of several
not_alone : (l : ℕ) (b : Branch) (u : PlainTerm) (ts : PlainTerms)
    → disjunction l (b ∷ branches_of l (goals_of (more_terms u ts))) ≡ branch_of l (either l (b ∷ branches_of l (goals_of (more_terms u ts))))
not_alone l b u no_term = refl
not_alone l b u (more_terms v ts) = by (goal_of u).is_conditional
  where
    bs : List Branch
    bs = branches_of l (goals_of (more_terms v ts))

    by : (c : Bool) → disjunction l (b ∷ with_others l c (goal_of u).branch bs) ≡ branch_of l (either l (b ∷ with_others l c (goal_of u).branch bs))
    by true = refl
    by false = refl

-- what a disjunct and those behind it update, as they are gathered
gathered_update : (l : ℕ) (t : PlainTerm) (ts : PlainTerms) → all_update ((goal_of t).branch ∷ branches_of l (goals_of ts)) ≡ joined (updated_each (more_terms t ts))
gathered_update l t ts = ap₂ (λ us vs. us ++ vs) (branch_updates t) (branches_update l ts)

nested_update : (l : ℕ) (t : PlainTerm) (ts : PlainTerms) → all_update ((goal_of t).branch ∷ disjunction l (branches_of l (goals_of ts)) ∷ []) ≡ joined (updated_each (more_terms t ts))
nested_update l t ts =
    let bs : List Branch = branches_of l (goals_of ts) in
    ap₂ (λ us vs. us ++ vs) (branch_updates t) (append-nil (disjunction l bs).updates ∙ disjunction_updates l bs ∙ branches_update l ts)

whole_same : (ts : PlainTerms) (us : List (List ℕ)) → us ≡ joined (updated_each ts) → HaveSame (put_all [] (seen_in ts)) us
whole_same ts us e x = set_same (seen_in ts) x ∙ seen_same ts x ∙ ap (λ vs. in_scope vs x) (sym e)

abbrev gathering : (l : ℕ) → Written (List Piece) → Written PlainTerms
gathering l w = on_text (λ ps. gathered l ps no_term) w

abbrev Gathers : (l : ℕ) → PlainTerms → Type 0
Gathers l ts = (fresh : Bool) (xs : List (List ℕ)) (hs : List Held) (n : ℕ)
    → gathering l (pieces_of l (wholes_of ts) xs fresh (goals_of ts) hs n) ≡ each_branch (as_one l fresh (branches_of l (goals_of ts))) xs hs n

module _ (l : ℕ) (t u : PlainTerm) (ts : PlainTerms) (ih : Gathers l (more_terms u ts)) (xs : List (List ℕ)) (hs : List Held) (n : ℕ) where
  abbrev b : Branch
  b = (goal_of t).branch

  abbrev rest : PlainTerms
  rest = more_terms u ts

  abbrev bs : List Branch
  bs = branches_of l (goals_of rest)

  abbrev whole : List (List ℕ)
  whole = put_all [] (seen_in (more_terms t rest))

  -- the pieces, by whether the disjunct is a conditional and whether a disjunction begins with it
  abbrev pieces : (conditional begins : Bool) → Written (List Piece)
  pieces c o =
      piece (if o then Some (closings xs whole l hs) else None) (b.writing (if o then whole else xs) hs n)
      (pieces_of l (wholes_of rest) (if o then whole else xs) c (goals_of rest) hs)

  gathers_by : (fresh c : Bool) → gathering l (pieces c ((fresh || c) && true)) ≡ each_branch (as_one l fresh (with_others l c b bs)) xs hs n
  gathers_by false false = ap (λ v. record { text = more_terms (b.writing xs hs n).text v.text; next = v.next }) (ih false xs hs (b.writing xs hs n).next)
  gathers_by true false =
      opened l b bs (branch-same t, branches-same l rest) xs whole (whole_same (more_terms t rest) (all_update (b ∷ bs)) (gathered_update l t rest)) hs n
      (gathering l (pieces_of l (wholes_of rest) whole false (goals_of rest) hs (b.writing whole hs n).next)) (ih false whole hs (b.writing whole hs n).next)
      ∙ ap (λ d. each_branch (d ∷ []) xs hs n) (sym (not_alone l b u ts))
  gathers_by false true =
      opened l b (disjunction l bs ∷ []) (branch-same t, (disjunction-same l bs (branches-same l rest), tt)) xs whole (whole_same (more_terms t rest) (all_update (b ∷ disjunction l bs ∷ [])) (nested_update l t rest)) hs n
      (gathering l (pieces_of l (wholes_of rest) whole true (goals_of rest) hs (b.writing whole hs n).next)) (ih true whole hs (b.writing whole hs n).next)
  gathers_by true true =
      opened l b (disjunction l bs ∷ []) (branch-same t, (disjunction-same l bs (branches-same l rest), tt)) xs whole (whole_same (more_terms t rest) (all_update (b ∷ disjunction l bs ∷ [])) (nested_update l t rest)) hs n
      (gathering l (pieces_of l (wholes_of rest) whole true (goals_of rest) hs (b.writing whole hs n).next)) (ih true whole hs (b.writing whole hs n).next)

alone_by : (l : ℕ) (t : PlainTerm) (xs : List (List ℕ)) (hs : List Held) (n : ℕ) (fresh o : Bool) → o ≡ false
    → gathering l (piece (if o then Some (closings xs (put_all [] (seen_in (more_terms t no_term))) l hs) else None) ((goal_of t).branch.writing (if o then put_all [] (seen_in (more_terms t no_term)) else xs) hs n) (λ m. written [] m))
    ≡ each_branch (as_one l fresh ((goal_of t).branch ∷ [])) xs hs n
alone_by l t xs hs n true false e = refl
alone_by l t xs hs n false false e = refl
alone_by l t xs hs n fresh true e = cc

gathers : (l : ℕ) (t : PlainTerm) (ts : PlainTerms) → Gathers l (more_terms t ts)
gathers l t no_term fresh xs hs n = alone_by l t xs hs n fresh ((fresh || (goal_of t).is_conditional) && false) (and_false (fresh || (goal_of t).is_conditional))
gathers l t (more_terms u ts) fresh xs hs n = gathers_by l t u ts (gathers l u ts) xs hs n fresh (goal_of t).is_conditional

nothing_wanted : (us : List (List ℕ)) (l : ℕ) (hs : List Held) → closings [] us l hs ≡ no_term
nothing_wanted us l [] = refl
nothing_wanted us l (h ∷ hs) = nothing_wanted us l hs

-- the disjunction that is gathered from the pieces of its disjuncts
pub disjunction_is : (l : ℕ) (ts : PlainTerms) (hs : List Held) (n : ℕ) → on_text (λ ps. alone l (gathered l ps no_term)) (pieces_of l (wholes_of ts) [] true (goals_of ts) hs n) ≡ disjunction_of l (goals_of ts) hs n
disjunction_is l no_term hs n = ap (λ cs. record { text = and_then (at (Disj no_term) l) cs; next = n }) (sym (nothing_wanted [] l hs))
disjunction_is l (more_terms t ts) hs n = ap (λ w. record { text = alone l w.text; next = w.next }) (gathers l t ts true [] hs n)

pieced_by : (l : ℕ) (xs : List Piece) (p : Piece) (ws : List (List (List ℕ))) (wanted : List (List ℕ)) (c : Bool) (gs : List Goal) (hs : List Held) (m : ℕ) (o : Option PlainTerms) (w : Written PlainTerm)
    → p.opened ≡ o → written p.text m ≡ w
    → on_text (λ ps. (xs ++ p ∷ []) ++ ps) (pieces_of l ws wanted c gs hs m) ≡ on_text (λ ps. xs ++ ps) (piece o w (pieces_of l ws wanted c gs hs))
pieced_by l xs p ws wanted c gs hs m o w e f =
    ap (λ ys. written ys (pieces_of l ws wanted c gs hs m).next) (append_assoc xs (p ∷ []) (pieces_of l ws wanted c gs hs m).text)
    ∙ ap₂ (λ o w. on_text (λ ps. xs ++ ps) (piece o w (pieces_of l ws wanted c gs hs))) e f

-- one disjunct more is written
pub pieced : (l : ℕ) (xs : List Piece) (p : Piece) (w : List (List ℕ)) (ws : List (List (List ℕ))) (around wanted : List (List ℕ)) (fresh o : Bool) (g : Goal) (gs : List Goal) (hs : List Held) (n m : ℕ)
    → o ≡ opens fresh g ws → wanted ≡ (if o then w else around) → p.opened ≡ (if o then Some (closings around w l hs) else None) → written p.text m ≡ g.branch.writing wanted hs n
    → on_text (λ ps. (xs ++ p ∷ []) ++ ps) (pieces_of l ws wanted g.is_conditional gs hs m) ≡ on_text (λ ps. xs ++ ps) (pieces_of l (w ∷ ws) around fresh (g ∷ gs) hs n)
pieced l xs p w ws around wanted fresh o g gs hs n m e f k h =
    ap (λ us. on_text (λ ps. (xs ++ p ∷ []) ++ ps) (pieces_of l ws us g.is_conditional gs hs m)) f
    ∙ pieced_by l xs p ws (if o then w else around) g.is_conditional gs hs m (if o then Some (closings around w l hs) else None) (g.branch.writing (if o then w else around) hs n) k (h ∙ ap (λ us. g.branch.writing us hs n) f)
    ∙ ap (λ o. on_text (λ ps. xs ++ ps) (piece (if o then Some (closings around w l hs) else None) (g.branch.writing (if o then w else around) hs n) (pieces_of l ws (if o then w else around) g.is_conditional gs hs))) e
