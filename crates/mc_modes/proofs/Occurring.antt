-- Variables that come to occur outside one after the other, or that cease to.
use Rattle.std.proofs.Common.{◌≡◌, ◌∙◌, ℕ, ◌<◌, ◌+◌, List, [], ◌∷◌, ◌++◌, map, length, get_or, take, drop, refl, sym, ap, subst, arith, append-nil, append_assoc}
use Rattle.std.proofs.lemmas.List.{drop_more, take_more}
use Rattle.mc_model.specs.Flat.{flats, variables_of, variables_of_all}
use Rattle.mc_model.specs.PlainGoals.{plain_flat}
use Rattle.mc_model.specs.declared.flat.Flat.{Flat}
use Rattle.mc_procs.specs.Named.{NumbersBelow}
use Rattle.mc_mode_state.specs.declared.state.State.{State}
use Rattle.mc_modes.specs.code.Frames.{Frame, Entered, Left}
use Rattle.mc_modes.specs.code.Waiting.{Counted}
use Rattle.mc_modes.proofs.Counts.{times-append}

frame-refl : (s : State) → Frame s s
frame-refl s = record { insts = refl; trail = refl; types = refl; nodes = refl; len = refl }

frame-trans : (s t u : State) → Frame s t → Frame t u → Frame s u
frame-trans s t u f g = record {
  insts = g.insts ∙ f.insts;
  trail = g.trail ∙ f.trail;
  types = g.types ∙ f.types;
  nodes = g.nodes ∙ f.nodes;
  len = g.len ∙ f.len;
}

pub entered-none : (s : State) → Entered [] s s
entered-none s = record { frame = frame-refl s; counts = λ x. omega arith }

pub entered-both : (us vs : List ℕ) (s t u : State) → Entered us s t → Entered vs t u → Entered (us ++ vs) s u
entered-both us vs s t u d e = record {
  frame = frame-trans s t u d.frame e.frame;
  counts = λ x. omega (arith, d.counts x, e.counts x, times-append x us vs);
}

pub left-none : (s : State) → Left [] s s
left-none s = record { frame = frame-refl s; counts = λ x. omega arith }

pub left-both : (us vs : List ℕ) (s t u : State) → Left us s t → Left vs t u → Left (us ++ vs) s u
left-both us vs s t u d e = record {
  frame = frame-trans s t u d.frame e.frame;
  counts = λ x. omega (arith, d.counts x, e.counts x, times-append x us vs);
}

-- the variables of several goals, at one of them
abbrev pub all_of : List Flat → List ℕ
all_of gs = variables_of_all (flats (map plain_flat gs))

all-append : (gs hs : List Flat) → all_of (gs ++ hs) ≡ all_of gs ++ all_of hs
all-append [] hs = refl
all-append (g ∷ gs) hs = ap (λ vs. variables_of (plain_flat g) ++ vs) (all-append gs hs) ∙ sym (append_assoc (variables_of (plain_flat g)) (all_of gs) (all_of hs))

module _ (gs : List Flat) (k : ℕ) (x : Flat) (h : k < length gs) (is : x ≡ get_or gs k x) where
  pub all-behind : all_of (drop k gs) ≡ variables_of (plain_flat x) ++ all_of (drop (k + 1) gs)
  all-behind = ap all_of (drop_more gs k x h) ∙ ap (λ (y : Flat). variables_of (plain_flat y) ++ all_of (drop (k + 1) gs)) (sym is)

  pub all-before : all_of (take (k + 1) gs) ≡ all_of (take k gs) ++ variables_of (plain_flat x)
  all-before =
      ap all_of (take_more gs k x h)
      ∙ (all-append (take k gs) (get_or gs k x ∷ [])
      ∙ ap (λ vs. all_of (take k gs) ++ vs) (append-nil (variables_of (plain_flat (get_or gs k x))) ∙ ap (λ (y : Flat). variables_of (plain_flat y)) (sym is)))

-- variables are there after others were entered or left
pub below-later : (vs : List ℕ) (s t : State) → Frame s t → NumbersBelow (length s.outside.items) vs → NumbersBelow (length t.outside.items) vs
below-later vs s t f w = subst (λ n. NumbersBelow n vs) (sym f.len) w

-- what is left to be left is counted
pub counted-later : (us vs : List ℕ) (s t : State) → Left us s t → Counted (us ++ vs) s → Counted vs t
counted-later us vs s t l c = λ x. omega (arith, l.counts x, c x, times-append x us vs)

pub counted-first : (us vs : List ℕ) (s : State) → Counted (us ++ vs) s → Counted us s
counted-first us vs s c = λ x. omega (arith, c x, times-append x us vs)
