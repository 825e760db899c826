-- One list of tokens stands for one term at most.
use Rattle.std.proofs.Common.{◌≡◌, ℕ, ◌≤◌, false, List, [], refl, sym, ap, ◌∙◌}
use Rattle.mc_term_parser.specs.declared.lexeme.Lexeme.{Lexeme}
use Rattle.mc_term_parser.specs.Part.{Part}
use Rattle.mc_term_parser.specs.Tree.{Tree}
use Rattle.mc_term_parser.specs.Reads.{Reads, ReadsTerm}
use Rattle.mc_term_parser.specs.code.Machine.{Start, Yes}
use Rattle.mc_term_parser.specs.code.Leads as Run
use Rattle.mc_term_parser.proofs.Trees.{State, Leads, onward, then, step}
use Rattle.mc_term_parser.proofs.Complete.{complete, stay_step}

-- from a state at which the machine stands still
stands : {s t : State} → Leads s t → step s ≡ s → s ≡ t
stands Run.here e = refl
stands (Run.onward d) e = sym e ∙ stands d (ap step e)

-- two ends are one
pub one_end : {s a b : State} → Leads s a → Leads s b → step a ≡ a → step b ≡ b → a ≡ b
one_end Run.here e h k = stands e h
one_end (Run.onward d) Run.here h k = sym (stands (onward d) k)
one_end (Run.onward d) (Run.onward e) h k = one_end d e h k

-- the machine answers the term
pub answers :
    {ts : List Lexeme} {limit : ℕ} {p : Part Tree} → Reads false limit ts p [] → p.number ≤ limit
    → Leads (Start false limit [] ts) (Yes p)
answers {limit = limit} {p = p} d h =
    then (complete d [] h tt) (stay_step false limit [] p [] tt (Yes p) refl)

pub unique :
    (ts : List Lexeme) (limit : ℕ) (t u : Tree)
    → ReadsTerm ts t limit → ReadsTerm ts u limit → t ≡ u
unique ts limit t u (p, d, h, e) (q, f, k, g) =
    let same : Yes p ≡ Yes q = one_end (answers d h) (answers f k) refl refl in
    let parts : p ≡ q = cc in
    sym e ∙ ap (λ (x : Part Tree). x.tree) parts ∙ g
