-- The arguments of a name that the reader takes at once: those of one token each.
use Rattle.std.specs.Prelude.{ℕ, Bool, true, false, List, [], ◌∷◌, Option, Some, None}
use Rattle.mc_term_data.specs.Plain as P
use Rattle.mc_term_parser.specs.declared.lexeme.Lexeme.{Lexeme}
use Rattle.mc_term_parser.specs.declared.lexeme.Lexeme.TheVariants as L
use Rattle.mc_term_parser.specs.declared.frame.Series.TheVariants.{Arguments}
use Rattle.mc_term_parser.specs.declared.frame.Machine.{Machine}
use Rattle.mc_term_parser.specs.Part.{closed}
use Rattle.mc_term_parser.specs.code.Machine as M
use Rattle.mc_term_parser.specs.code.Leads.{Leads}
use Rattle.mc_term_parser.specs.code.Seen.{Seen, SeenRow, leaf, seen_int, seen_app, no_seen, seen_making}
use Rattle.mc_term_parser.specs.code.Views.{FrameSeen, StateSeen, state}

-- what a token is alone, before a comma or a closing bracket
abbrev pub alone : Lexeme → Option Seen
alone (L.Word w q l) = Some (seen_app l (w ∷ []) no_seen)
alone (L.Var w l) = Some (leaf l (P.Var w))
alone (L.Int n l) = Some (seen_int l n)
alone (L.Str s l) = Some (leaf l (P.Str s))
alone _ = None

-- The machine where these arguments of a name are read: the closing bracket behind them is read
-- too, or a further argument starts.
abbrev pub with_arguments :
    (is_last : Bool) → List (List ℕ) → ℕ → SeenRow → Bool → ℕ → List FrameSeen → List Lexeme
    → StateSeen
with_arguments true w l ms c limit stack ts = M.Done c limit stack (closed (seen_app l w ms)) ts
with_arguments false w l ms c limit stack ts =
    M.Start true 1200 (M.InParts (Arguments w) l ms c limit ∷ stack) ts

-- The machine goes on from arguments to more of them, whatever name they are of and whatever waits.
abbrev pub ReadsArguments : SeenRow → List Lexeme → (is_last : Bool) → SeenRow → List Lexeme → Type 0
ReadsArguments ms ts is_last ns us =
    (w : List (List ℕ)) (l : ℕ) (c : Bool) (limit : ℕ) (stack : List FrameSeen)
    → Leads seen_making (with_arguments false w l ms c limit stack ts)
    (with_arguments is_last w l ns c limit stack us)

-- the machine comes from a state to that of the reader, over these tokens
abbrev pub Reaches : List Lexeme → StateSeen → Machine → Type 0
Reaches tokens s m = Leads seen_making s (state tokens m)
