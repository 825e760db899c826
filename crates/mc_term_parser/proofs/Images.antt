-- What is kept of trees: the machine that keeps it steps as the one that makes trees.
use Rattle.std.proofs.Common.{◌≡◌, ℕ, ◌-◌, Bool, true, false, cond, ◌&&◌, leb, ltb, List, [], ◌∷◌, ◌++◌, refl, sym, ap, ◌∙◌, Option}
use Rattle.std.specs.Prelude.{pos}
use Rattle.mc_term_data.specs.Plain as S
use Rattle.mc_term_data.specs.Plain.{PlainNode, at}
use Rattle.mc_term_parser.specs.declared.lexeme.Lexeme.{Lexeme}
use Rattle.mc_term_parser.specs.declared.lexeme.Lexeme.TheVariants as L
use Rattle.mc_term_parser.specs.declared.infixes.Infix.{Infix}
use Rattle.mc_term_parser.specs.declared.infixes.Infix.TheVariants.{Nothing, Binary, Chains}
use Rattle.mc_term_parser.specs.declared.infixes.Chain.{Chain}
use Rattle.mc_term_parser.specs.declared.infixes.Chain.TheVariants.{And, Or}
use Rattle.mc_term_parser.specs.declared.infixes.Role.{Role}
use Rattle.mc_term_parser.specs.declared.infixes.Role.TheVariants.{Compound, Negative, Single, Double, Plain}
use Rattle.mc_term_parser.specs.declared.frame.Series.{Series}
use Rattle.mc_term_parser.specs.declared.frame.Series.TheVariants.{Arguments, Elements, Chained}
use Rattle.mc_term_parser.specs.Infixes.{operand, rank, joined_by, role, name_of}
use Rattle.mc_term_parser.specs.Part.{Part, over}
use Rattle.mc_term_parser.specs.Tree.{Tree, Trees, Var, Int, Neg, Str, App, Items, Tailed, Conj, Disj, Inside, no_tree, more_trees, trees, line_of}
use Rattle.mc_term_parser.specs.code.Seen.{Seen, SeenRow, line_seen, kept, leaf, seen_large, seen_int, seen_neg, seen_app, seen_items, seen_tailed, seen_conj, seen_disj, seen_inside, no_seen, seen_then, seen_making}
use Rattle.mc_term_parser.specs.code.Machine.{AtRight, AtOperand, AtFirst, AtSecond, InParen, InParts, InTail, Start, Done, Yes, No, Push, Stay, same_chain, turn}
use Rattle.mc_term_parser.specs.code.Machine as M
use Rattle.mc_term_parser.specs.code.Leads as Run
use Rattle.mc_term_parser.specs.code.Views.{FrameSeen, StateSeen}
use Rattle.mc_term_parser.proofs.Trees.{tree_making, Frame, State, Leads}

abbrev mutual
  -- what is kept of a tree
  pub image : Tree → Seen
  image (Var l w) = leaf l (S.Var w)
  image (Int l n) = seen_int l n
  image (Neg l n) = seen_neg l n
  image (Str l s) = leaf l (S.Str s)
  image (App l w ts) = seen_app l w (images no_seen ts)
  image (Items l ts) = seen_items l (images no_seen ts)
  image (Tailed l ts t) = seen_tailed l (images no_seen ts) (image t)
  image (Conj l ts) = seen_conj l (images no_seen ts)
  image (Disj l ts) = seen_disj l (images no_seen ts)
  image (Inside l t) = seen_inside l (image t)

  -- trees behind what is kept of others
  pub images : SeenRow → Trees → SeenRow
  images r no_tree = r
  images r (more_trees t ts) = images (seen_then r (image t)) ts

abbrev pub row_image : List Tree → SeenRow
row_image ts = images no_seen (trees ts)

images_push :
    (r : SeenRow) (ts : List Tree) (t : Tree)
    → images r (trees (ts ++ t ∷ [])) ≡ seen_then (images r (trees ts)) (image t)
images_push r [] t = refl
images_push r (u ∷ ts) t = images_push (seen_then r (image u)) ts t

kept_line : (l : ℕ) (n : PlainNode) (d : ℕ) (g : Option ℕ) → line_seen (kept l n d g).value ≡ l
unfolding kept
kept_line l n d g = go (leb d 256)
  where
    go : (b : Bool) → line_seen (cond {A = Seen} b (record { value = at n l; depth = d; large = g }) (record { value = at (S.Int (pos 0)) l; depth = 257; large = g })).value ≡ l
    go true = refl
    go false = refl

leaf_line : (l : ℕ) (n : PlainNode) → line_seen (leaf l n).value ≡ l
unfolding leaf
leaf_line l n = refl

large_line : (l : ℕ) → line_seen (seen_large l).value ≡ l
unfolding seen_large
large_line l = refl

one_line :
    (l : ℕ) (n : PlainNode) (b : Bool) → line_seen (cond b (leaf l n) (seen_large l)).value ≡ l
one_line l n true = leaf_line l n
one_line l n false = large_line l

image_line : (t : Tree) → line_seen (image t).value ≡ line_of t
unfolding seen_int seen_neg seen_app seen_items seen_tailed seen_conj seen_disj seen_inside
image_line (Var l w) = leaf_line l _
image_line (Int l n) = one_line l _ _
image_line (Neg l n) = one_line l _ _
image_line (Str l s) = leaf_line l _
image_line (App l w ts) = kept_line l _ _ _
image_line (Items l ts) = kept_line l _ _ _
image_line (Tailed l ts t) = kept_line l _ _ _
image_line (Conj l ts) = kept_line l _ _ _
image_line (Disj l ts) = kept_line l _ _ _
image_line (Inside l t) = kept_line l _ _ _

abbrev pub image_part : Part Tree → Part Seen
image_part p = record { tree = image p.tree; number = p.number; reach = p.reach }

abbrev pub image_frame : Frame → FrameSeen
image_frame (AtRight l w n m t c k) = AtRight l w n m (image t) c k
image_frame (AtOperand l w n m c k) = AtOperand l w n m c k
image_frame (AtFirst l w n c k) = AtFirst l w n c k
image_frame (AtSecond l w n t c k) = AtSecond l w n (image t) c k
image_frame (InParen l c k) = InParen l c k
image_frame (InParts s l ms c k) = InParts s l (row_image ms) c k
image_frame (InTail l ms c k) = InTail l (row_image ms) c k

abbrev pub image_stack : List Frame → List FrameSeen
image_stack [] = []
image_stack (f ∷ fs) = image_frame f ∷ image_stack fs

abbrev pub image_state : State → StateSeen
image_state (Start c limit stack ts) = Start c limit (image_stack stack) ts
image_state (Done c limit stack p ts) = Done c limit (image_stack stack) (image_part p) ts
image_state (Yes p) = Yes (image_part p)
image_state No = No

module _ (c : Bool) (limit : ℕ) (stack : List Frame) where
  role_image :
      (l : ℕ) (w : List (List ℕ)) (ts : List Lexeme) (a : Role)
      → M.on_role seen_making c limit (image_stack stack) l w ts a
      ≡ image_state (M.on_role tree_making c limit stack l w ts a)
  role_image l w [] Compound = refl
  role_image l w (t ∷ ts) Compound = refl
  role_image l w [] (Negative n) = refl
  role_image l w (t ∷ ts) (Negative n) = refl
  role_image l w ts (Single n m) = refl
  role_image l w ts (Double n) = refl
  role_image l w ts Plain = refl

  path_image :
      (l : ℕ) (w : List (List ℕ)) (ts : List Lexeme)
      → M.on_path seen_making c limit (image_stack stack) l w ts
      ≡ image_state (M.on_path tree_making c limit stack l w ts)
  path_image l w (L.OpenCt k ∷ ts) = refl
  path_image l w _ = refl

  list_image :
      (l : ℕ) (ts : List Lexeme)
      → M.on_list seen_making c limit (image_stack stack) l ts
      ≡ image_state (M.on_list tree_making c limit stack l ts)
  list_image l (L.ListClose ∷ ts) = refl
  list_image l _ = refl

  start_image :
      (ts : List Lexeme)
      → M.start seen_making c limit (image_stack stack) ts
      ≡ image_state (M.start tree_making c limit stack ts)
  start_image (L.Word w q l ∷ ts) = role_image l (w ∷ []) ts (role limit w ts)
  start_image (L.Path ps l ∷ ts) = path_image l ps ts
  start_image (L.Var v l ∷ ts) = refl
  start_image (L.Int n l ∷ ts) = refl
  start_image (L.Str s l ∷ ts) = refl
  start_image (L.Open l ∷ ts) = refl
  start_image (L.OpenCt l ∷ ts) = refl
  start_image (L.ListOpen l ∷ ts) = list_image l ts
  start_image _ = refl

chain_image :
    (k : Chain) (l : ℕ) (ms : List Tree)
    → M.chain seen_making k l (row_image ms) ≡ image (M.chain tree_making k l ms)
chain_image And l ms = refl
chain_image Or l ms = refl

parts_image :
    (s : Series) (l : ℕ) (ms : List Tree) (d : Bool) (outer : ℕ) (stack : List Frame) (c : Bool)
    (ts : List Lexeme)
    → M.parts seen_making s l (row_image ms) d outer (image_stack stack) c ts
    ≡ image_state (M.parts tree_making s l ms d outer stack c ts)
parts_image (Arguments w) l ms d outer stack c (L.Comma ∷ ts) = refl
parts_image (Arguments w) l ms d outer stack c (L.Close ∷ ts) = refl
parts_image (Arguments w) l ms d outer stack c _ = refl
parts_image Elements l ms d outer stack c (L.Comma ∷ ts) = refl
parts_image Elements l ms d outer stack c (L.ListClose ∷ ts) = refl
parts_image Elements l ms d outer stack c (L.Bar ∷ ts) = refl
parts_image Elements l ms d outer stack c _ = refl
parts_image (Chained k) l ms d outer stack c [] =
    ap (λ t. Done d outer (image_stack stack) (over (rank k) (rank k) t) []) (chain_image k l ms)
parts_image (Chained k) l ms d outer stack c (x ∷ ts) = go (joined_by c x)
  where
    ends : M.State Seen SeenRow
    ends =
        Done d outer (image_stack stack)
        (over (rank k) (rank k) (M.chain seen_making k l (row_image ms))) (x ∷ ts)

    same :
        Done d outer (image_stack stack)
        (over (rank k) (rank k) (M.chain seen_making k l (row_image ms))) (x ∷ ts)
        ≡ image_state
        (Done d outer stack (over (rank k) (rank k) (M.chain tree_making k l ms)) (x ∷ ts))
    same =
        ap (λ t. Done d outer (image_stack stack) (over (rank k) (rank k) t) (x ∷ ts))
        (chain_image k l ms)

    go :
        (j : Infix)
        → M.on_chain seen_making k l (row_image ms) d outer (image_stack stack) c (x ∷ ts) j ts
        ≡ image_state (M.on_chain tree_making k l ms d outer stack c (x ∷ ts) j ts)
    go Nothing = same
    go (Binary n ly ry) = same
    go (Chains j) = on (same_chain k j)
      where
        on :
            (b : Bool)
            → cond b
            (Start c (rank k - 1)
            (InParts (Chained k) l (row_image ms) d outer ∷ image_stack stack) ts)
            (Done d outer (image_stack stack)
            (over (rank k) (rank k) (M.chain seen_making k l (row_image ms))) (x ∷ ts))
            ≡ image_state
            (cond b (Start c (rank k - 1) (InParts (Chained k) l ms d outer ∷ stack) ts)
            (Done d outer stack (over (rank k) (rank k) (M.chain tree_making k l ms))
            (x ∷ ts)))
        on true = refl
        on false = same

first_image :
    (c : Bool) (n l : ℕ) (t : Tree) (w : List (List ℕ)) (d : Bool) (outer : ℕ) (stack : List Frame)
    (ts : List Lexeme)
    → M.at_first seen_making c n l (image t) w d outer (image_stack stack) ts
    ≡ image_state (M.at_first tree_making c n l t w d outer stack ts)
first_image c n l t w d outer stack [] = refl
first_image c n l t w d outer stack (x ∷ ts) = go (joined_by c x)
  where
    go :
        (j : Infix)
        → M.second seen_making c n l (image t) w d outer (image_stack stack) (x ∷ ts) j
        ≡ image_state (M.second tree_making c n l t w d outer stack (x ∷ ts) j)
    go Nothing = refl
    go (Binary n ly ry) = refl
    go (Chains j) = refl

reduce_image :
    (c : Bool) (stack : List Frame) (p : Part Tree) (ts : List Lexeme)
    → M.reduce seen_making c (image_stack stack) (image_part p) ts
    ≡ image_state (M.reduce tree_making c stack p ts)
reduce_image c [] p [] = refl
reduce_image c [] p (t ∷ ts) = refl
reduce_image c (AtRight l w n m t d outer ∷ stack) p ts = refl
reduce_image c (AtOperand l w n m d outer ∷ stack) p ts = refl
reduce_image c (AtFirst l w n d outer ∷ stack) p ts = first_image c n l p.tree w d outer stack ts
reduce_image c (AtSecond l w n t d outer ∷ stack) p ts = refl
reduce_image c (InParen l d outer ∷ stack) p (L.Close ∷ ts) = refl
reduce_image c (InParen l d outer ∷ stack) p _ = refl
reduce_image c (InParts s l ms d outer ∷ stack) p ts =
    ap (λ r. M.parts seen_making s l r d outer (image_stack stack) c ts)
    (sym (images_push no_seen ms p.tree))
    ∙ parts_image s l (ms ++ p.tree ∷ []) d outer stack c ts
reduce_image c (InTail l es d outer ∷ stack) p (L.ListClose ∷ ts) = refl
reduce_image c (InTail l es d outer ∷ stack) p _ = refl

done_image :
    (c : Bool) (limit : ℕ) (stack : List Frame) (p : Part Tree) (ts : List Lexeme)
    → M.step seen_making (Done c limit (image_stack stack) (image_part p) ts)
    ≡ image_state (M.step tree_making (Done c limit stack p ts))
done_image c limit stack p [] = reduce_image c stack p []
done_image c limit stack p (x ∷ ts) = go (joined_by c x)
  where
    rest :
        M.reduce seen_making c (image_stack stack) (image_part p) (x ∷ ts)
        ≡ image_state (M.reduce tree_making c stack p (x ∷ ts))
    rest = reduce_image c stack p (x ∷ ts)

    go :
        (j : Infix)
        → turn (M.next_at seen_making c limit (image_part p) x ts j) (image_stack stack)
        (M.reduce seen_making c (image_stack stack) (image_part p) (x ∷ ts))
        ≡ image_state
        (turn (M.next_at tree_making c limit p x ts j) stack
        (M.reduce tree_making c stack p (x ∷ ts)))
    go Nothing = rest
    go (Binary n ly ry) = on (leb n limit && (leb p.number (operand ly n) && ltb p.reach n))
      where
        on :
            (b : Bool)
            → turn
            (cond b
            (Push c (operand ry n)
            (AtRight (line_seen (image p.tree).value) (name_of x) n (operand ry n)
            (image p.tree) c limit) ts) Stay) (image_stack stack)
            (M.reduce seen_making c (image_stack stack) (image_part p) (x ∷ ts))
            ≡ image_state
            (turn
            (cond b
            (Push c (operand ry n)
            (AtRight (line_of p.tree) (name_of x) n (operand ry n) p.tree c
            limit) ts) Stay) stack (M.reduce tree_making c stack p (x ∷ ts)))
        on true =
            ap
            (λ l.
            Start c (operand ry n)
            (AtRight l (name_of x) n (operand ry n) (image p.tree) c limit
            ∷ image_stack stack) ts) (image_line p.tree)
        on false = rest
    go (Chains k) = on (leb (rank k) limit && ltb p.number (rank k))
      where
        on :
            (b : Bool)
            → turn
            (cond b
            (Push c (rank k - 1)
            (InParts (Chained k) (line_seen (image p.tree).value)
            (seen_then no_seen (image p.tree)) c limit) ts) Stay) (image_stack stack)
            (M.reduce seen_making c (image_stack stack) (image_part p) (x ∷ ts))
            ≡ image_state
            (turn
            (cond b
            (Push c (rank k - 1)
            (InParts (Chained k) (line_of p.tree) (p.tree ∷ []) c limit) ts)
            Stay) stack (M.reduce tree_making c stack p (x ∷ ts)))
        on true =
            ap
            (λ l.
            Start c (rank k - 1)
            (InParts (Chained k) l (seen_then no_seen (image p.tree)) c limit
            ∷ image_stack stack) ts) (image_line p.tree)
        on false = rest

pub step_image :
    (s : State) → M.step seen_making (image_state s) ≡ image_state (M.step tree_making s)
step_image (Start c limit stack ts) = start_image c limit stack ts
step_image (Done c limit stack p ts) = done_image c limit stack p ts
step_image (Yes p) = refl
step_image No = refl

-- a run of the machine that keeps is the image of one that makes trees
pub leads_image :
    {u v : StateSeen} → Run.Leads seen_making u v → (s : State) → u ≡ image_state s
    → (t : State) × Leads s t × (image_state t ≡ v)
leads_image Run.here s e = (s, Run.here, sym e)
leads_image (Run.onward d) s e =
    let (t, run, is) = leads_image d (M.step tree_making s) (ap (M.step seen_making) e ∙ step_image s) in
    (t, Run.onward run, is)
