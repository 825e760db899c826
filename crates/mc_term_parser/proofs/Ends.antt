-- What the machine's end says of the tokens.
use Rattle.std.proofs.Common.{◌≡◌, List, [], false, sym, ap, ◌∙◌, refl, IfSome, IfNone, Option, Some, None}
use Rattle.mc_term_parser.specs.declared.lexeme.Lexeme.{Lexeme}
use Rattle.mc_term_parser.specs.declared.reading.Reading.{Reading}
use Rattle.mc_term_parser.specs.Part.{Part}
use Rattle.mc_term_parser.specs.Tree.{Tree}
use Rattle.mc_term_parser.specs.Reads.{ReadsTerm}
use Rattle.mc_term_parser.specs.code.Seen.{Seen, seen_making}
use Rattle.mc_term_parser.specs.code.Machine.{Start, Done, Yes, No}
use Rattle.mc_term_parser.specs.code.Machine as M
use Rattle.mc_term_parser.specs.code.Leads as Run
use Rattle.mc_term_parser.specs.code.Views.{StateSeen, reading}
use Rattle.mc_term_parser.specs.Answers.{Shows}
use Rattle.mc_term_parser.proofs.Trees.{State, Leads}
use Rattle.mc_term_parser.proofs.Unique.{one_end, answers}
use Rattle.mc_term_parser.proofs.Sound.{sound}
use Rattle.mc_term_parser.proofs.Images.{image, image_part, image_state, leads_image}
use Rattle.mc_term_parser.proofs.Leading.{then}
use Rattle.mc_term_parser.proofs.Shown.{image_depth, image_large, image_value}

shows : (t : Tree) (r : Reading) → image t ≡ reading r → Shows t r
shows t r e = (
  ap (λ (s : Seen). s.depth) (sym e) ∙ image_depth t,
  ap (λ (s : Seen). s.large) (sym e) ∙ image_large t,
  λ h n. ap (λ (s : Seen). s.value) (sym e) ∙ image_value t h n,
)

-- a run of the machine from its start
abbrev pub Runs : List Lexeme → StateSeen → Type 0
Runs ts s = Run.Leads seen_making (Start false 1200 [] ts) s

-- the answer's reading is the one of the end
abbrev pub Found : StateSeen → Option Reading → Type 0
Found s r = IfSome r (λ r. (p : Part Seen) × (s ≡ Yes p) × (p.tree ≡ reading r))

pub found_reads :
    (ts : List Lexeme) (s : StateSeen) (r : Option Reading)
    → Runs ts s → Found s r → IfSome r (λ r. (t : Tree) × ReadsTerm ts t 1200 × Shows t r)
found_reads ts s None d h = tt
found_reads ts s (Some r) d (p, e, f) = let (t, run, is) = leads_image d (Start false 1200 [] ts) refl in go t run (is ∙ e)
  where
    go :
        (t : State)
        → Leads (Start false 1200 [] ts) t → image_state t ≡ Yes p
        → (t : Tree) × ReadsTerm ts t 1200 × Shows t r
    go (Yes q) run is = let same : image_part q ≡ p = cc in (q.tree, sound ts q run, shows q.tree r (ap (λ (p : Part Seen). p.tree) same ∙ f))
    go (Start c limit stack us) run is = cc
    go (Done c limit stack q us) run is = cc
    go No run is = cc

pub none_reads :
    (ts : List Lexeme) (s : StateSeen) → Runs ts s → s ≡ No → (t : Tree) → ReadsTerm ts t 1200 → ⊥
none_reads ts s d e u reads = let (t, run, is) = leads_image d (Start false 1200 [] ts) refl in go t run (is ∙ e) reads
  where
    go :
        (t : State)
        → Leads (Start false 1200 [] ts) t → image_state t ≡ No → ReadsTerm ts u 1200 → ⊥
    go No run is (q, k, l, g) = let same : No ≡ Yes q = one_end run (answers k l) refl refl in cc
    go (Start c limit stack us) run is z = cc
    go (Done c limit stack q us) run is z = cc
    go (Yes q) run is z = cc

pub at_some :
    {A : Type 0} (r : Option Reading) (P : A → Reading → Type 0) (a : A)
    → IfSome r (λ r. (x : A) → P x r) → IfSome r (λ r. P a r)
at_some None P a h = tt
at_some (Some t) P a h = h a

pub at_none : (r : Option Reading) (P Q : Type 0) → (P → Q) → IfNone r P → IfNone r Q
at_none None P Q f h = f h
at_none (Some t) P Q f h = tt

-- a run goes on from a step on
pub step_more :
    (ts : List Lexeme) (s t : StateSeen)
    → Runs ts s → Run.Leads seen_making (M.step seen_making s) t → Runs ts t
step_more ts s t d e = then d (Run.onward e)
