-- The arguments of a name that are read at once: the machine comes to them too.
use Rattle.std.proofs.Common.{◌≡◌, ℕ, ◌+◌, ◌<◌, Bool, true, false, List, [], ◌∷◌, length, drop, drop-cons, get_or, add-one, refl, sym, ap, ◌∙◌, subst, Option, Some, None, Result, IfOk, arith}
use Rattle.std.proofs.lemmas.Result.{IfOk-weaker}
use Rattle.std.proofs.lemmas.List.{length-drop}
use Rattle.mc_term_parser.specs.declared.lexeme.Lexeme.{Lexeme}
use Rattle.mc_term_parser.specs.declared.lexeme.Lexeme.TheVariants as L
use Rattle.mc_operators.specs.declared.table.Fix.{Fix}
use Rattle.mc_term_parser.specs.declared.infixes.Role.TheVariants.{Plain}
use Rattle.mc_term_parser.specs.declared.frame.Series.TheVariants.{Arguments}
use Rattle.mc_term_parser.specs.declared.frame.Mark.TheVariants as MV
use Rattle.mc_operators.specs.Table.{prefix_row}
use Rattle.mc_term_parser.specs.Infixes.{role, prefix_role, joined_by}
use Rattle.mc_term_parser.specs.Part.{closed}
use Rattle.mc_term_parser.specs.code.Machine as M
use Rattle.mc_term_parser.specs.code.Leads as Run
use Rattle.mc_term_parser.specs.code.Seen.{Seen, SeenRow, seen_app, seen_then, seen_making}
use Rattle.mc_term_parser.specs.declared.frame.Machine.{Machine}
use Rattle.mc_term_parser.specs.code.Views.{FrameSeen, StateSeen, state, mark_of}
use Rattle.mc_term_parser.specs.code.Arguments.{alone, with_arguments, ReadsArguments, Reaches}
use Rattle.mc_term_parser.proofs.Steps.{comma_next, close_next}

-- from a state to itself
pub led : (s t : StateSeen) → s ≡ t → Run.Leads seen_making s t
led s t e = subst (Run.Leads seen_making s) e Run.here

-- the same, where the reader is in that state
pub at_once : (tokens : List Lexeme) (s : StateSeen) (m : Machine) → state tokens m ≡ s → Reaches tokens s m
at_once tokens s m e = led s (state tokens m) (sym e)

pub ok_at_once : {E : Type 0} (tokens : List Lexeme) (s : StateSeen) (r : Result Machine E) → IfOk r (λ m. state tokens m ≡ s) → IfOk r (Reaches tokens s)
ok_at_once tokens s r h = IfOk-weaker r (λ m. state tokens m ≡ s) (Reaches tokens s) (λ m e. at_once tokens s m e) h

pub then :
    {s t u : StateSeen}
    → Run.Leads seen_making s t → Run.Leads seen_making t u → Run.Leads seen_making s u
then Run.here e = e
then (Run.onward d) e = Run.onward (then d e)

two : (s t u : StateSeen) → M.step seen_making s ≡ t → M.step seen_making t ≡ u → Run.Leads seen_making s u
two s t u e f = Run.onward (then (led _ t e) (Run.onward (led _ u f)))

-- a name before a comma or a closing bracket is no operator
plain : (limit : ℕ) (row : Option (ℕ × Fix)) → prefix_role limit row false ≡ Plain
plain limit None = refl
plain limit (Some r) = refl

abbrev Alone : List Lexeme → Type 0
Alone ts = (w : List ℕ) → role 1200 w ts ≡ Plain

before_comma : (ts : List Lexeme) → Alone (L.Comma ∷ ts)
unfolding role
before_comma ts w = plain 1200 (prefix_row w)

before_close : (ts : List Lexeme) → Alone (L.Close ∷ ts)
unfolding role
before_close ts w = plain 1200 (prefix_row w)

-- one token is read
alone_done :
    (stack : List FrameSeen) (x : Lexeme) (r : Seen) (ts : List Lexeme)
    → alone x ≡ Some r → Alone ts
    → M.start seen_making true 1200 stack (x ∷ ts) ≡ M.Done true 1200 stack (closed r) ts
alone_done stack (L.Word w q l) r ts e p =
    ap (M.on_role seen_making true 1200 stack l (w ∷ []) ts) (p w) ∙ ap (λ r. M.Done true 1200 stack (closed r) ts) cc
alone_done stack (L.Var w l) r ts e p = ap (λ r. M.Done true 1200 stack (closed r) ts) cc
alone_done stack (L.Int n l) r ts e p = ap (λ r. M.Done true 1200 stack (closed r) ts) cc
alone_done stack (L.Str s l) r ts e p = ap (λ r. M.Done true 1200 stack (closed r) ts) cc
alone_done stack _ r ts e p = cc

module _ (w : List (List ℕ)) (l : ℕ) (ms : SeenRow) (c : Bool) (limit : ℕ) (stack : List FrameSeen) (r : Seen) (ts : List Lexeme) where
  abbrev around : List FrameSeen
  around = M.InParts (Arguments w) l ms c limit ∷ stack

  done_comma : M.step seen_making (M.Done true 1200 around (closed r) (L.Comma ∷ ts)) ≡ with_arguments false w l (seen_then ms r) c limit stack ts
  unfolding joined_by
  done_comma = refl

  done_close : M.step seen_making (M.Done true 1200 around (closed r) (L.Close ∷ ts)) ≡ with_arguments true w l (seen_then ms r) c limit stack ts
  unfolding joined_by
  done_close = refl

reads_comma : (x : Lexeme) (r : Seen) (ms : SeenRow) (ts : List Lexeme) → alone x ≡ Some r → ReadsArguments ms (x ∷ L.Comma ∷ ts) false (seen_then ms r) ts
reads_comma x r ms ts e w l c limit stack =
    two _ _ _ (alone_done (around w l ms c limit stack r ts) x r (L.Comma ∷ ts) e (before_comma ts)) (done_comma w l ms c limit stack r ts)

reads_close : (x : Lexeme) (r : Seen) (ms : SeenRow) (ts : List Lexeme) → alone x ≡ Some r → ReadsArguments ms (x ∷ L.Close ∷ ts) true (seen_then ms r) ts
reads_close x r ms ts e w l c limit stack =
    two _ _ _ (alone_done (around w l ms c limit stack r ts) x r (L.Close ∷ ts) e (before_close ts)) (done_close w l ms c limit stack r ts)

-- a token with what stands next
token_next :
    (tokens : List Lexeme) (at : ℕ) (x y : Lexeme) (us : List Lexeme)
    → at < length tokens → x ≡ get_or tokens at x → drop (at + 1) tokens ≡ y ∷ us
    → drop at tokens ≡ x ∷ y ∷ us
token_next tokens at x y us h e f =
    let here : drop at tokens ≡ x ∷ drop (at + 1) tokens = drop-cons tokens at x h ∙ rw (add-one, ← e) refl in
    here ∙ ap (λ ts. x ∷ ts) f

behind : (tokens : List Lexeme) (at : ℕ) → drop (at + 1 + 1) tokens ≡ drop (at + 2) tokens
behind tokens at = let e : at + 1 + 1 ≡ at + 2 = omega arith in ap (λ n. drop n tokens) e

within : (tokens : List Lexeme) (at : ℕ) (y : Lexeme) (us : List Lexeme) → drop (at + 1) tokens ≡ y ∷ us → at < length tokens
within tokens at y us e = omega (arith, ap length e, length-drop (at + 1) tokens)

module _ (tokens : List Lexeme) (at : ℕ) (x : Lexeme) (r : Seen) (is_last : Bool) (ms : SeenRow) (e : x ≡ get_or tokens at x) (is : alone x ≡ Some r) where
  abbrev us : List Lexeme
  us = drop (at + 2) tokens

  -- whatever stands next
  goes_on : (y : Lexeme) (b : Bool) → drop (at + 1) tokens ≡ y ∷ drop (at + 1 + 1) tokens → is_last ≡ b → ReadsArguments ms (x ∷ y ∷ us) b (seen_then ms r) us
      → ReadsArguments ms (drop at tokens) is_last (seen_then ms r) us
  goes_on y b m k d w l c limit stack =
      let next = m ∙ ap (λ us. y ∷ us) (behind tokens at) in
      then (led _ _ (ap (with_arguments false w l ms c limit stack) (token_next tokens at x y us (within tokens at y us next) e next)))
      (then (d w l c limit stack) (led _ _ (ap (λ b. with_arguments b w l (seen_then ms r) c limit stack us) (sym k))))

  pub reads_at_comma : mark_of (drop (at + 1) tokens) ≡ MV.Comma → is_last ≡ false → ReadsArguments ms (drop at tokens) is_last (seen_then ms r) us
  reads_at_comma m k = goes_on L.Comma false (comma_next tokens (at + 1) m) k (reads_comma x r ms us is)

  pub reads_at_close : mark_of (drop (at + 1) tokens) ≡ MV.Close → is_last ≡ true → ReadsArguments ms (drop at tokens) is_last (seen_then ms r) us
  reads_at_close m k = goes_on L.Close true (close_next tokens (at + 1) m) k (reads_close x r ms us is)

-- before any argument is read
pub reads_none : (ms ns : SeenRow) (ts : List Lexeme) → ns ≡ ms → ReadsArguments ms ts false ns ts
reads_none ms ns ts e w l c limit stack = led _ _ (ap (λ ms. with_arguments false w l ms c limit stack ts) (sym e))

-- behind one more
pub reads_more : (ms ns qs : SeenRow) (ts xs vs : List Lexeme) (r : Seen) (is_last b : Bool) → ReadsArguments ms ts false ns xs → ((ms : SeenRow) → ReadsArguments ms xs is_last (seen_then ms r) vs)
    → qs ≡ seen_then ns r → is_last ≡ b → ReadsArguments ms ts b qs vs
reads_more ms ns qs ts xs vs r is_last b d f e k w l c limit stack =
    then (d w l c limit stack)
    (then (f ns w l c limit stack) (led _ _ (λ i. with_arguments (k i) w l (sym e i) c limit stack vs)))
