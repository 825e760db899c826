-- What the reader's values stand for.
use Rattle.std.specs.Prelude.{ℕ, List, [], ◌∷◌, map, drop, Option, Some, None, Bool, true, false, codes, if◌then◌else◌}
use Rattle.mc_term_data.specs.Plain.{plain_term}
use Rattle.mc_term_parser.specs.Tree.{depth, too_large, term}
use Rattle.mc_term_parser.specs.Infixes as J
use Rattle.mc_term_parser.specs.Part as P
use Rattle.mc_term_parser.specs.code.Machine as M
use Rattle.mc_term_parser.specs.code.Seen.{Seen, SeenRow}
use Rattle.mc_operators.specs.Table.{same_name}
use Rattle.mc_term_parser.specs.declared.lexeme.Lexeme.{Lexeme}
use Rattle.mc_term_parser.specs.declared.lexeme.Lexeme.TheVariants as L
use Rattle.mc_term_parser.specs.declared.infixes.Chain.{Chain}
use Rattle.mc_term_parser.specs.declared.infixes.Infix.{Infix}
use Rattle.mc_term_parser.specs.declared.infixes.Infix.TheVariants as JV
use Rattle.mc_term_parser.specs.declared.reading.Reading.{Reading}
use Rattle.mc_term_parser.specs.declared.reading.Readings.{Readings}
use Rattle.mc_term_parser.specs.declared.frame.Part.{Part}
use Rattle.mc_term_parser.specs.declared.frame.Frame.{Frame}
use Rattle.mc_term_parser.specs.declared.frame.Frame.TheVariants as FV
use Rattle.mc_term_parser.specs.declared.frame.ParserPhase.{ParserPhase}
use Rattle.mc_term_parser.specs.declared.frame.ParserPhase.TheVariants as NV
use Rattle.mc_term_parser.specs.declared.frame.Machine.{Machine}
use Rattle.mc_term_parser.specs.declared.frame.Mark.{Mark}
use Rattle.mc_term_parser.specs.declared.frame.Mark.TheVariants as MV

abbrev pub reading : Reading → Seen
reading r = record { value = plain_term r.term; depth = r.depth; large = r.too_large }

abbrev pub readings : Readings → SeenRow
readings r = record { values = map plain_term r.terms.items; depth = r.depth; large = r.too_large }

abbrev pub part : Part → P.Part Seen
part p = record { tree = reading p.reading; number = p.number; reach = p.reach }

abbrev pub FrameSeen : Type 0
FrameSeen = M.Frame Seen SeenRow

abbrev pub StateSeen : Type 0
StateSeen = M.State Seen SeenRow

abbrev pub frame : Frame → FrameSeen
frame (FV.Right o m t s) = M.AtRight o.line o.name o.number m (reading t) s.commas s.limit
frame (FV.Operand o m s) = M.AtOperand o.line o.name o.number m s.commas s.limit
frame (FV.First o s) = M.AtFirst o.line o.name o.number s.commas s.limit
frame (FV.Second o t s) = M.AtSecond o.line o.name o.number (reading t) s.commas s.limit
frame (FV.Paren l s) = M.InParen l s.commas s.limit
frame (FV.Parts k l ts s) = M.InParts k l (readings ts) s.commas s.limit
frame (FV.Tail l ts s) = M.InTail l (readings ts) s.commas s.limit

-- the top of a stack comes first
abbrev pub onto : List FrameSeen → List Frame → List FrameSeen
onto below [] = below
onto below (f ∷ fs) = onto (frame f ∷ below) fs

abbrev pub frames : List Frame → List FrameSeen
frames fs = onto [] fs

abbrev pub now : List FrameSeen → List Lexeme → ParserPhase → StateSeen
now stack ts (NV.Start s) = M.Start s.commas s.limit stack ts
now stack ts (NV.Done s p) = M.Done s.commas s.limit stack (part p) ts
now stack ts (NV.Yes p) = M.Yes (part p)
now stack ts NV.No = M.No

-- the state that the machine is in, over these tokens
abbrev pub state : List Lexeme → Machine → StateSeen
state tokens m = now (frames m.parser.stack.items) (drop m.parser.at tokens) m.phase

abbrev pub mark_of : List Lexeme → Mark
mark_of [] = MV.Nothing
mark_of (L.Close ∷ ts) = MV.Close
mark_of (L.ListClose ∷ ts) = MV.ListClose
mark_of (L.Bar ∷ ts) = MV.Bar
mark_of (L.Comma ∷ ts) = MV.Comma
mark_of (L.OpenCt l ∷ ts) = MV.OpenCt
mark_of _ = MV.Other

abbrev pub infix_next : Bool → List Lexeme → Infix
infix_next c [] = JV.Nothing
infix_next c (x ∷ ts) = J.joined_by c x

abbrev pub name_next : List Lexeme → List (List ℕ)
name_next [] = []
name_next (x ∷ ts) = J.name_of x

abbrev pub separates : Chain → Infix → Bool
separates k (JV.Chains l) = M.same_chain k l
separates k _ = false

abbrev pub number_next : List Lexeme → Option ℕ
number_next (L.Int n l ∷ ts) = Some n
number_next _ = None

-- the number behind a minus sign
abbrev pub minus_next : List ℕ → List Lexeme → Option ℕ
minus_next w ts = if same_name (codes "-") w then number_next ts else None

abbrev pub is_over : StateSeen → Bool
is_over (M.Yes p) = true
is_over M.No = true
is_over _ = false
