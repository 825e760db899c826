-- The machine comes to an end: each step leaves less to do.
use Rattle.std.proofs.Common.{◌≡◌, ℕ, ◌<◌, ◌≤◌, ◌+◌, ◌-◌, ◌*◌, Bool, true, false, cond, ◌&&◌, leb, ltb, List, [], ◌∷◌, length, arith}
use Rattle.mc_term_parser.specs.declared.lexeme.Lexeme.{Lexeme}
use Rattle.mc_term_parser.specs.declared.lexeme.Lexeme.TheVariants as L
use Rattle.mc_term_parser.specs.declared.infixes.Infix.{Infix}
use Rattle.mc_term_parser.specs.declared.infixes.Infix.TheVariants.{Nothing, Binary, Chains}
use Rattle.mc_term_parser.specs.declared.infixes.Role.{Role}
use Rattle.mc_term_parser.specs.declared.infixes.Role.TheVariants.{Compound, Negative, Single, Double, Plain}
use Rattle.mc_term_parser.specs.declared.frame.Series.{Series}
use Rattle.mc_term_parser.specs.declared.frame.Series.TheVariants.{Arguments, Elements, Chained}
use Rattle.mc_term_parser.specs.Infixes.{operand, rank, joined_by, role, name_of}
use Rattle.mc_term_parser.specs.Part.{Part, over}
use Rattle.mc_term_parser.specs.code.Machine.{AtRight, AtOperand, AtFirst, AtSecond, InParen, InParts, InTail, Start, Done, Yes, No, Push, Stay, same_chain, turn}
use Rattle.mc_term_parser.specs.code.Machine as M
use Rattle.mc_term_parser.specs.code.Leads as Run
use Rattle.mc_term_parser.specs.code.Seen.{Seen, SeenRow, seen_making, seen_then, no_seen, line_seen}
use Rattle.mc_term_parser.specs.code.Views.{FrameSeen, StateSeen, is_over}

abbrev pub frame_weight : FrameSeen → ℕ
frame_weight (AtFirst l w n c limit) = 3
frame_weight _ = 1

abbrev pub stack_weight : List FrameSeen → ℕ
stack_weight [] = 0
stack_weight (f ∷ fs) = frame_weight f + stack_weight fs

-- what is left to do
abbrev pub weight : StateSeen → ℕ
weight (Start c limit stack ts) = 4 * length ts + stack_weight stack + 2
weight (Done c limit stack p ts) = 4 * length ts + stack_weight stack + 1
weight _ = 0

role_falls :
    (c : Bool) (limit : ℕ) (stack : List FrameSeen) (l : ℕ) (w : List (List ℕ)) (ts : List Lexeme)
    (a : Role)
    → weight (M.on_role seen_making c limit stack l w ts a)
    < 4 * (length ts + 1) + stack_weight stack + 2
role_falls c limit stack l w [] Compound = omega arith
role_falls c limit stack l w (t ∷ ts) Compound = omega arith
role_falls c limit stack l w [] (Negative n) = omega arith
role_falls c limit stack l w (t ∷ ts) (Negative n) = omega arith
role_falls c limit stack l w ts (Single n m) = omega arith
role_falls c limit stack l w ts (Double n) = omega arith
role_falls c limit stack l w ts Plain = omega arith

path_falls :
    (c : Bool) (limit : ℕ) (stack : List FrameSeen) (l : ℕ) (w : List (List ℕ)) (ts : List Lexeme)
    → weight (M.on_path seen_making c limit stack l w ts)
    < 4 * (length ts + 1) + stack_weight stack + 2
path_falls c limit stack l w (L.OpenCt k ∷ ts) = omega arith
path_falls c limit stack l w _ = omega arith

list_falls :
    (c : Bool) (limit : ℕ) (stack : List FrameSeen) (l : ℕ) (ts : List Lexeme)
    → weight (M.on_list seen_making c limit stack l ts)
    < 4 * (length ts + 1) + stack_weight stack + 2
list_falls c limit stack l (L.ListClose ∷ ts) = omega arith
list_falls c limit stack l _ = omega arith

start_falls :
    (c : Bool) (limit : ℕ) (stack : List FrameSeen) (ts : List Lexeme)
    → weight (M.start seen_making c limit stack ts) < 4 * length ts + stack_weight stack + 2
start_falls c limit stack (L.Word w q l ∷ ts) =
    omega (arith, role_falls c limit stack l (w ∷ []) ts (role limit w ts))
start_falls c limit stack (L.Path ps l ∷ ts) = omega (arith, path_falls c limit stack l ps ts)
start_falls c limit stack (L.ListOpen l ∷ ts) = omega (arith, list_falls c limit stack l ts)
start_falls c limit stack (L.Var v l ∷ ts) = omega arith
start_falls c limit stack (L.Int n l ∷ ts) = omega arith
start_falls c limit stack (L.Str s l ∷ ts) = omega arith
start_falls c limit stack (L.Open l ∷ ts) = omega arith
start_falls c limit stack (L.OpenCt l ∷ ts) = omega arith
start_falls c limit stack _ = omega arith

-- what a frame leaves
parts_fall :
    (s : Series) (l : ℕ) (ms : SeenRow) (d : Bool) (outer : ℕ) (stack : List FrameSeen) (c : Bool)
    (ts : List Lexeme)
    → weight (M.parts seen_making s l ms d outer stack c ts)
    < 4 * length ts + stack_weight stack + 2
parts_fall (Arguments w) l ms d outer stack c (L.Comma ∷ ts) = omega arith
parts_fall (Arguments w) l ms d outer stack c (L.Close ∷ ts) = omega arith
parts_fall (Arguments w) l ms d outer stack c _ = omega arith
parts_fall Elements l ms d outer stack c (L.Comma ∷ ts) = omega arith
parts_fall Elements l ms d outer stack c (L.ListClose ∷ ts) = omega arith
parts_fall Elements l ms d outer stack c (L.Bar ∷ ts) = omega arith
parts_fall Elements l ms d outer stack c _ = omega arith
parts_fall (Chained k) l ms d outer stack c [] = omega arith
parts_fall (Chained k) l ms d outer stack c (x ∷ ts) = go (joined_by c x)
  where
    go :
        (j : Infix)
        → weight (M.on_chain seen_making k l ms d outer stack c (x ∷ ts) j ts)
        < 4 * length (x ∷ ts) + stack_weight stack + 2
    go Nothing = omega arith
    go (Binary n ly ry) = omega arith
    go (Chains j) = on (same_chain k j)
      where
        on :
            (b : Bool)
            → weight
            (cond b (Start c (rank k - 1) (InParts (Chained k) l ms d outer ∷ stack) ts)
            (Done d outer stack (over (rank k) (rank k) (M.chain seen_making k l ms))
            (x ∷ ts)))
            < 4 * length (x ∷ ts) + stack_weight stack + 2
        on true = omega arith
        on false = omega arith

first_falls :
    (c : Bool) (n l : ℕ) (t : Seen) (w : List (List ℕ)) (d : Bool) (outer : ℕ)
    (stack : List FrameSeen) (ts : List Lexeme)
    → weight (M.at_first seen_making c n l t w d outer stack ts)
    < 4 * length ts + stack_weight stack + 4
first_falls c n l t w d outer stack [] = omega arith
first_falls c n l t w d outer stack (x ∷ ts) = go (joined_by c x)
  where
    go :
        (j : Infix)
        → weight (M.second seen_making c n l t w d outer stack (x ∷ ts) j)
        < 4 * length (x ∷ ts) + stack_weight stack + 4
    go Nothing = omega arith
    go (Binary n ly ry) = omega arith
    go (Chains j) = omega arith

reduce_falls :
    (c : Bool) (stack : List FrameSeen) (p : Part Seen) (ts : List Lexeme)
    → weight (M.reduce seen_making c stack p ts) < 4 * length ts + stack_weight stack + 1
reduce_falls c [] p [] = omega arith
reduce_falls c [] p (t ∷ ts) = omega arith
reduce_falls c (AtRight l w n m t d outer ∷ stack) p ts = omega arith
reduce_falls c (AtOperand l w n m d outer ∷ stack) p ts = omega arith
reduce_falls c (AtFirst l w n d outer ∷ stack) p ts =
    omega (arith, first_falls c n l p.tree w d outer stack ts)
reduce_falls c (AtSecond l w n t d outer ∷ stack) p ts = omega arith
reduce_falls c (InParen l d outer ∷ stack) p (L.Close ∷ ts) = omega arith
reduce_falls c (InParen l d outer ∷ stack) p _ = omega arith
reduce_falls c (InParts s l ms d outer ∷ stack) p ts =
    omega (arith, parts_fall s l (seen_then ms p.tree) d outer stack c ts)
reduce_falls c (InTail l es d outer ∷ stack) p (L.ListClose ∷ ts) = omega arith
reduce_falls c (InTail l es d outer ∷ stack) p _ = omega arith

done_falls :
    (c : Bool) (limit : ℕ) (stack : List FrameSeen) (p : Part Seen) (ts : List Lexeme)
    → weight (M.step seen_making (Done c limit stack p ts))
    < 4 * length ts + stack_weight stack + 1
done_falls c limit stack p [] = reduce_falls c stack p []
done_falls c limit stack p (x ∷ ts) = go (joined_by c x)
  where
    low :
        weight (M.reduce seen_making c stack p (x ∷ ts))
        < 4 * length (x ∷ ts) + stack_weight stack + 1
    low = reduce_falls c stack p (x ∷ ts)

    go :
        (j : Infix)
        → weight
        (turn (M.next_at seen_making c limit p x ts j) stack
        (M.reduce seen_making c stack p (x ∷ ts)))
        < 4 * length (x ∷ ts) + stack_weight stack + 1
    go Nothing = low
    go (Binary n ly ry) = on (leb n limit && (leb p.number (operand ly n) && ltb p.reach n))
      where
        on :
            (b : Bool)
            → weight
            (turn
            (cond b
            (Push c (operand ry n)
            (AtRight (line_seen p.tree.value) (name_of x) n (operand ry n) p.tree c
            limit) ts) Stay) stack (M.reduce seen_making c stack p (x ∷ ts)))
            < 4 * length (x ∷ ts) + stack_weight stack + 1
        on true = omega arith
        on false = low
    go (Chains k) = on (leb (rank k) limit && ltb p.number (rank k))
      where
        on :
            (b : Bool)
            → weight
            (turn
            (cond b
            (Push c (rank k - 1)
            (InParts (Chained k) (line_seen p.tree.value) (seen_then no_seen p.tree)
            c limit) ts) Stay) stack (M.reduce seen_making c stack p (x ∷ ts)))
            < 4 * length (x ∷ ts) + stack_weight stack + 1
        on true = omega arith
        on false = low

pub falls : (s : StateSeen) → is_over s ≡ false → weight (M.step seen_making s) < weight s
falls (Start c limit stack ts) e = start_falls c limit stack ts
falls (Done c limit stack p ts) e = done_falls c limit stack p ts
falls (Yes p) e = cc
falls No e = cc

step_falls : (s : StateSeen) → weight (M.step seen_making s) ≤ weight s
step_falls (Start c limit stack ts) = omega (arith, start_falls c limit stack ts)
step_falls (Done c limit stack p ts) = omega (arith, done_falls c limit stack p ts)
step_falls (Yes p) = omega arith
step_falls No = omega arith

-- so does each run
pub run_falls : {s t : StateSeen} → Run.Leads seen_making s t → weight t ≤ weight s
run_falls Run.here = omega arith
run_falls {s = s} (Run.onward d) = omega (arith, run_falls d, step_falls s)
